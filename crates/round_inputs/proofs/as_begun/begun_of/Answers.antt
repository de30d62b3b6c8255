use Rattle.std.proofs.Common.{◌∙◌, rules, sym}
use Rattle.dag_main_check.specs.declared.fault.RunFault.TheVariants.{Memory}
use Rattle.round_inputs.specs.declared.as_begun.NotKnown.TheVariants.{Refused}
use Rattle.round_inputs.specs.AsBegun.{IsNotOf, of_another_round, of_another_kind, not_as_written, spelling_had_no_memory}
use Rattle.round_inputs.proofs.Kept.{by-why}
use Rattle.round_inputs.proofs.as_begun.begun_of.Goals as goal

pub returns-in_err-fault-in-Err-NotSpelled-clause-not : goal.returns-in_err-fault-in-Err-NotSpelled-clause-not
returns-in_err-fault-in-Err-NotSpelled-clause-not c =
    by-why (IsNotOf c.args.path.now c.args.journal.now c.args.bytes.now) (Refused Memory) spelling_had_no_memory c.from_residual.result c.from_residual.ensures.1

pub returns-in_err-begins_as_kept-in-Err-NotSpelled-clause-not : goal.returns-in_err-begins_as_kept-in-Err-NotSpelled-clause-not
returns-in_err-begins_as_kept-in-Err-NotSpelled-clause-not c =
    by-why (IsNotOf c.args.path.now c.args.journal.now c.args.bytes.now) (Refused Memory) spelling_had_no_memory
    c.from_residual-in_err-begins_as_kept-in-Err-NotSpelled.result c.from_residual-in_err-begins_as_kept-in-Err-NotSpelled.ensures.1

pub returns-then-branch-clause-not : goal.returns-then-branch-clause-not
returns-then-branch-clause-not c =
    not_as_written _ c.in_ok-fault-in-Err-NotSpelled.ensures (sym c.in_ok-begins_as_kept-in-Err-NotSpelled.ensures ∙ c.if-branch.true)

pub returns-else-is_of-clause-not : goal.returns-else-is_of-clause-not
returns-else-is_of-clause-not c = of_another_round c.in-Ok.begun c.in-Ok.ensures (search rules)

pub returns-else-branch-clause-not : goal.returns-else-branch-clause-not
returns-else-branch-clause-not c =
    of_another_kind _ c.in_ok-fault-in-Err-NotSpelled.ensures (sym c.in_ok-begins_as_kept-in-Err-NotSpelled.ensures ∙ c.if-branch.false)

pub returns-in-Err-Memory-clause-not : goal.returns-in-Err-Memory-clause-not
returns-in-Err-Memory-clause-not c = spelling_had_no_memory
