use Rattle.std.proofs.Common.{◌≡◌, ◌∙◌, List, ℕ, Option, Some, ap, sym, subst}
use Rattle.std.specs.Prelude.{IfSome}
use Rattle.splices_flat.specs.FileSet.{bytes_of, entries_of}
use Rattle.dag_main_check.specs.Planned.{IsPlanWith}
use Rattle.dag_main_files.specs.Beside.{IsRefusalOf, refusing_had_no_memory, IsRefusalHeld, refusing_unheld_had_no_memory}
use Rattle.dag_main_files.proofs.RunFaults.{by-fault}
use Rattle.round_inputs.specs.Begun.{begun_name_of, begun_text_of, rescue_kept}
use Rattle.round_inputs.specs.declared.begun.Begun.{Begun}
use Rattle.salvage.proofs.changed.old_plan.Goals as goal

pub returns-in_err-begun-clause-refused : goal.returns-in_err-begun-clause-refused
returns-in_err-begun-clause-refused g c =
    by-fault (IsRefusalOf (begun_name_of c.args.top.now)) c.in_err-begun.field-0.0 c.in_err-begun.ensures.refused c.from_residual.result c.from_residual.ensures.1

pub returns-in_err-begun-clause-unheld : goal.returns-in_err-begun-clause-unheld
returns-in_err-begun-clause-unheld g c = λ honest.
    by-fault (IsRefusalHeld (g.F.Folder.holds c.args.folder.now) (begun_name_of c.args.top.now)) c.in_err-begun.field-0.0 (c.in_err-begun.ensures.unheld honest)
    c.from_residual.result c.from_residual.ensures.1

pub returns-in-Err-Memory-clause-unheld : goal.returns-in-Err-Memory-clause-unheld
returns-in-Err-Memory-clause-unheld g c = λ honest. refusing_unheld_had_no_memory

pub returns-clause-plan : goal.returns-clause-plan
returns-clause-plan g c =
    let round = c.args.round.now in
    let begun = c.in-Some.begun in
    let text : List ℕ → List ℕ = λ d. begun_text_of d (entries_of begun.files) (rescue_kept begun.rescue) in
    let digest : begun.digest ≡ round.digest = subst (λ (o : Option Begun). IfSome o (λ found. found.digest ≡ round.digest)) c.in-Some.is c.in_ok-begun.ensures.digest in (
      text begun.digest,
      record {
        files = begun.files;
        rescue = rescue_kept begun.rescue;
        begun_is = ap text digest;
        planned = subst (λ (r : Option (List ℕ)). IsPlanWith round.always_post (bytes_of begun.files) (entries_of begun.files) c.args.top.now r c.in-Ok.plan)
            c.rescue_bytes-rescue.ensures c.in-Ok.ensures.plan;
        digest_is = sym c.digest.ensures ∙ c.is_digest.ensures.0 c.if-not-is_digest.false;
      },
      λ honest. subst (λ (o : Option Begun). IfSome o (λ found. g.F.Folder.holds c.args.folder.now (begun_name_of c.args.top.now)
          ≡ Some (begun_text_of found.digest (entries_of found.files) (rescue_kept found.rescue)))) c.in-Some.is (c.in_ok-begun.ensures.held honest),
    )

pub returns-in-Err-Memory-clause-refused : goal.returns-in-Err-Memory-clause-refused
returns-in-Err-Memory-clause-refused g c = refusing_had_no_memory
