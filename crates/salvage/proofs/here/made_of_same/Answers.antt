use Rattle.std.proofs.Common.{Bor, List, ℕ, subst}
use Rattle.std.specs.Option.{option_map}
use Rattle.splices_flat.specs.FileSet.{bytes_of}
use Rattle.dag_main_check.specs.declared.fault.RunFault.TheVariants.{Memory}
use Rattle.dag_main_files.proofs.RunFaults.{by-fault}
use Rattle.salvage.specs.Refused.{IsUnmade, IsUnsalvaged, unplanned, unsalvaged, planning_had_no_memory}
use Rattle.salvage.proofs.here.made_of_same.Goals as goal

pub returns-in_err-plan-clause-refused : goal.returns-in_err-plan-clause-refused
returns-in_err-plan-clause-refused c =
    let round = c.args.round.now in
    by-fault (IsUnmade round.always_post (bytes_of c.args.files.now) c.args.top.now round.used (option_map (λ (b : Bor (List ℕ)). b.now) c.args.rescue) round.journal.items)
    c.in_err-plan.field-0.0 (unplanned _ c.in_err-plan.ensures.refused) c.from_residual.result c.from_residual.ensures.1

pub returns-in_err-text-clause-refused : goal.returns-in_err-text-clause-refused
returns-in_err-text-clause-refused c =
    let round = c.args.round.now in
    by-fault (IsUnmade round.always_post (bytes_of c.args.files.now) c.args.top.now round.used (option_map (λ (b : Bor (List ℕ)). b.now) c.args.rescue) round.journal.items)
    c.in_err-text.field-0.0
    (unsalvaged c.in_ok-plan.plan _ c.in_ok-plan.ensures.plan
    (subst (λ (j : List ℕ). IsUnsalvaged c.in_ok-plan.plan j c.in_err-text.field-0.0) c.as_slice.ensures.value c.in_err-text.ensures.refused))
    c.from_residual-in_err-text.result c.from_residual-in_err-text.ensures.1

pub returns-in_err-warning_text-clause-refused : goal.returns-in_err-warning_text-clause-refused
returns-in_err-warning_text-clause-refused c =
    let round = c.args.round.now in
    by-fault (IsUnmade round.always_post (bytes_of c.args.files.now) c.args.top.now round.used (option_map (λ (b : Bor (List ℕ)). b.now) c.args.rescue) round.journal.items)
    Memory (unplanned Memory planning_had_no_memory)
    c.from_residual-in_err-warning_text.result c.from_residual-in_err-warning_text.ensures.1
