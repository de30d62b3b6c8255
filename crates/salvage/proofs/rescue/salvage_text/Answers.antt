use Rattle.std.proofs.Common.{◌∙◌, sym}
use Rattle.dag_main_files.proofs.RunFaults.{by-fault, memory-alone}
use Rattle.salvage.specs.Refused.{IsUnsalvaged, salvaging_had_no_memory}
use Rattle.salvage.proofs.Records.{salvaged-of}
use Rattle.salvage.proofs.rescue.salvage_text.Goals as goal

pub returns-in_err-records-clause-refused : goal.returns-in_err-records-clause-refused
returns-in_err-records-clause-refused c =
    by-fault (IsUnsalvaged c.args.plan.now c.args.journal.now) c.in_err-records.field-0.0 c.in_err-records.ensures.refused c.from_residual.result c.from_residual.ensures.1

pub returns-in_err-core-clause-refused : goal.returns-in_err-core-clause-refused
returns-in_err-core-clause-refused c =
    by-fault (IsUnsalvaged c.args.plan.now c.args.journal.now) c.in_err-core.field-0.0 c.in_err-core.ensures.refused
    c.from_residual-in_err-core.result c.from_residual-in_err-core.ensures.1

pub returns-clause-refused : goal.returns-clause-refused
returns-clause-refused c = memory-alone (IsUnsalvaged c.args.plan.now c.args.journal.now) salvaging_had_no_memory c.text_of.result c.text_of.ensures.err

pub returns-clause-salvaged : goal.returns-clause-salvaged
returns-clause-salvaged c =
    salvaged-of c.args.plan.now c.args.journal.now c.in_ok-records.records.items c.in_ok-core.core c.in_ok-records.ensures.records c.in_ok-core.ensures.plan
    (sym c.deref.ensures.value ∙ c.in_ok-core.ensures.records) c.keeps_the_law.ensures c.text_of.result c.text_of.ensures.text c.text_of.ensures.done
