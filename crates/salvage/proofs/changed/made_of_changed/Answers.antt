use Rattle.std.proofs.Common.{rules, ◌≡◌, ◌∙◌, ◌++◌, List, ℕ, Bool, Option, Some, ap, subst, string_bytes}
use Rattle.std.specs.Prelude.{IfSome}
use Rattle.run_plan.specs.Plan.{Plan}
use Rattle.dag_main_check.specs.declared.fault.RunFault.TheVariants.{Memory}
use Rattle.dag_main_check.specs.Warnings.{warning_lines}
use Rattle.dag_main_files.specs.Beside.{refusing_had_no_memory, refusing_unheld_had_no_memory}
use Rattle.round_inputs.specs.Begun.{begun_name_of}
use Rattle.splices_flat.specs.FileSet.{bytes_of}
use Rattle.salvage.specs.Carried.{IsBegunPlan, IsCarriedOver, gone_lines}
use Rattle.salvage.specs.declared.fault.SalvageFault.TheVariants.{Refused}
use Rattle.salvage.specs.Refused.{IsNotCarried, IsUnsalvaged, not_kept, kept_refused, not_graphed, not_replayed}
use Rattle.salvage.specs.Sight.{held_files_if}
use Rattle.salvage.proofs.Refusals.{told-as}
use Rattle.salvage.proofs.changed.made_of_changed.Goals as goal

pub returns-in_err-old-clause-refused : goal.returns-in_err-old-clause-refused
returns-in_err-old-clause-refused g c =
    told-as (IsNotCarried (held_files_if (g.F.Folder.honest c.args.folder.now) (g.F.Folder.holds c.args.folder.now) (g.F.Folder.has c.args.folder.now) c.args.top.now) c.args.round.now.always_post (bytes_of c.args.files.now) c.args.top.now c.args.round.now.digest c.args.round.now.journal.items c.args.other)
    (Refused c.in_err-old.field-0.0) (kept_refused _ (c.in_err-old.ensures.refused, c.in_err-old.ensures.unheld)) c.from_residual.result c.from_residual.ensures.1

pub returns-in_default-clause-refused : goal.returns-in_default-clause-refused
returns-in_default-clause-refused g c = not_kept

pub returns-in_err-graph-clause-refused : goal.returns-in_err-graph-clause-refused
returns-in_err-graph-clause-refused g c =
    told-as (IsNotCarried (held_files_if (g.F.Folder.honest c.args.folder.now) (g.F.Folder.holds c.args.folder.now) (g.F.Folder.has c.args.folder.now) c.args.top.now) c.args.round.now.always_post (bytes_of c.args.files.now) c.args.top.now c.args.round.now.digest c.args.round.now.journal.items c.args.other)
    (Refused c.in_err-graph.field-0.0) (not_graphed _ c.in_err-graph.ensures.refused) c.from_residual-in_err-graph.result c.from_residual-in_err-graph.ensures.1

pub returns-in_err-warnings-clause-refused : goal.returns-in_err-warnings-clause-refused
returns-in_err-warnings-clause-refused g c =
    told-as (IsNotCarried (held_files_if (g.F.Folder.honest c.args.folder.now) (g.F.Folder.holds c.args.folder.now) (g.F.Folder.has c.args.folder.now) c.args.top.now) c.args.round.now.always_post (bytes_of c.args.files.now) c.args.top.now c.args.round.now.digest c.args.round.now.journal.items c.args.other)
    (Refused Memory) (kept_refused _ (refusing_had_no_memory, λ honest. refusing_unheld_had_no_memory)) c.from_residual-in_err-warnings.result c.from_residual-in_err-warnings.ensures.1

-- the plan of what is kept
module _ (IsHeld : List ℕ → Type 0) (always_post : Bool) (path digest : List ℕ) where
  is-kept : (o : Option Plan) (old : Plan) → o ≡ Some old → IfSome o (λ plan. (begun : List ℕ) × IsBegunPlan always_post path digest begun plan × IsHeld begun)
      → (begun : List ℕ) × IsBegunPlan always_post path digest begun old × IsHeld begun
  is-kept o old is of = subst (λ (p : Option Plan). IfSome p (λ plan. (begun : List ℕ) × IsBegunPlan always_post path digest begun plan × IsHeld begun)) is of

pub returns-in_err-carried-clause-refused : goal.returns-in_err-carried-clause-refused
returns-in_err-carried-clause-refused g c =
    let round = c.args.round.now in
    let kept = is-kept (λ begun. g.F.Folder.honest c.args.folder.now → g.F.Folder.holds c.args.folder.now (begun_name_of c.args.top.now) ≡ Some begun)
    round.always_post c.args.top.now round.digest _ c.in-Some.old c.in-Some.is c.in_ok-old.ensures.plan in
    told-as (IsNotCarried (held_files_if (g.F.Folder.honest c.args.folder.now) (g.F.Folder.holds c.args.folder.now) (g.F.Folder.has c.args.folder.now) c.args.top.now) round.always_post (bytes_of c.args.files.now) c.args.top.now round.digest round.journal.items c.args.other)
    (Refused c.in_err-carried.field-0.0)
    (not_replayed kept.0 c.in-Some.old _ kept.2 kept.1
    (subst (λ (j : List ℕ). IsUnsalvaged c.in-Some.old j c.in_err-carried.field-0.0) c.as_slice.ensures.value c.in_err-carried.ensures.refused))
    c.from_residual-in_err-carried.result c.from_residual-in_err-carried.ensures.1

pub returns-clause-made : goal.returns-clause-made
returns-clause-made g c =
    let round = c.args.round.now in
    let kept = is-kept (λ begun. g.F.Folder.honest c.args.folder.now → g.F.Folder.holds c.args.folder.now (begun_name_of c.args.top.now) ≡ Some begun)
    round.always_post c.args.top.now round.digest _ c.in-Some.old c.in-Some.is c.in_ok-old.ensures.plan in
    record {
      begun = kept.0;
      old = c.in-Some.old;
      graph = c.in_ok-graph.graph;
      gone = c.in_ok-carried.carried.gone.items;
      is_held = kept.2;
      is_begun = kept.1;
      is_graph = c.in_ok-graph.ensures.graph;
      carried = subst (λ (j : List ℕ). IsCarriedOver c.in-Some.old j c.in_ok-graph.graph.dag (string_bytes c.in_ok-carried.carried.text) c.in_ok-carried.carried.done c.in_ok-carried.carried.gone.items)
          c.as_slice.ensures.value c.in_ok-carried.ensures.carried;
      total_is = search rules;
      warnings_are = c.in_ok-warnings.ensures
          ∙ ap (λ (ns : List (List ℕ)). warning_lines c.in_ok-graph.graph.dag.warnings ++ gone_lines ns) c.deref.ensures.value;
    }
