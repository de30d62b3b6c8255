use Rattle.std.proofs.Common.{◌∙◌, sym, subst}
use Rattle.dag_main_files.proofs.RunFaults.{by-fault, memory-alone}
use Rattle.salvage.specs.Refused.{IsUnsalvaged, salvaging_had_no_memory}
use Rattle.salvage.proofs.Records.{carried-of}
use Rattle.salvage.proofs.carried.carry_over.Goals as goal

pub returns-in_err-records-clause-refused : goal.returns-in_err-records-clause-refused
returns-in_err-records-clause-refused c =
    by-fault (IsUnsalvaged c.args.old.now c.args.journal.now) c.in_err-records.field-0.0 c.in_err-records.ensures.refused c.from_residual.result c.from_residual.ensures.1

pub returns-in_err-core-clause-refused : goal.returns-in_err-core-clause-refused
returns-in_err-core-clause-refused c =
    by-fault (IsUnsalvaged c.args.old.now c.args.journal.now) c.in_err-core.field-0.0 c.in_err-core.ensures.refused
    c.from_residual-in_err-core.result c.from_residual-in_err-core.ensures.1

pub returns-in_err-done-clause-refused : goal.returns-in_err-done-clause-refused
returns-in_err-done-clause-refused c =
    by-fault (IsUnsalvaged c.args.old.now c.args.journal.now) c.in_err-done.field-0.0
    (subst (IsUnsalvaged c.args.old.now c.args.journal.now) (sym c.in_err-done.ensures.err) salvaging_had_no_memory)
    c.from_residual-in_err-done.result c.from_residual-in_err-done.ensures.1

pub returns-clause-refused : goal.returns-clause-refused
returns-clause-refused c = memory-alone (IsUnsalvaged c.args.old.now c.args.journal.now) salvaging_had_no_memory c.carried_by.result c.carried_by.ensures.err

pub returns-clause-carried : goal.returns-clause-carried
returns-clause-carried c =
    carried-of c.args.old.now c.args.journal.now c.args.graph.now.dag c.in_ok-records.records.items c.in_ok-core.core _ c.in_ok-records.ensures.records c.in_ok-core.ensures.plan
    (sym c.deref.ensures.value ∙ c.in_ok-core.ensures.records) c.keeps_the_law.ensures (c.deref-2.ensures.value ∙ c.in_ok-done.ensures.names)
    c.carried_by.result c.carried_by.ensures.text c.carried_by.ensures.done c.carried_by.ensures.gone
