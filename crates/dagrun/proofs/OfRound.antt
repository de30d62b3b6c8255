-- What is shown of a round by the files by which it is shown.
use Rattle.std.proofs.Common.{◌≡◌, ◌≢◌, ℕ, Bool, List, Option, Result, Ok, Err, IfOk, subst, sym}
use Rattle.std.specs.Prelude.{IfErr, IsErrAnd}
use Rattle.splices_flat.specs.Opening.{Files}
use Rattle.dag_main_args.specs.Requests.{shown_by}
use Rattle.dag_main_args.specs.declared.request.View.{View}
use Rattle.dag_main_check.specs.declared.fault.RunFault.{RunFault}
use Rattle.dag_main_check.specs.declared.warnings.Answer.{Answer}
use Rattle.dag_main_files.specs.Opened.{Holding, changing, fixed}
use Rattle.round_inputs.specs.declared.begun.Begun.{Begun}
use Rattle.round_inputs.specs.declared.as_begun.ByFiles.{ByFiles}
use Rattle.round_inputs.specs.declared.as_begun.ByFiles.TheVariants.{AsTheyAre}
use Rattle.round_inputs.specs.AsBegun.{as_begun, IsSeenBy, IsNotSeenBy, IsNotBegun}
use Rattle.dagrun.specs.Answered.{refused_by_files, not_seen_by_files, refused_by_some, not_seen_by_some, Said, IsView, IsNoView, changing_files, held_in, seen_contract, ComesTo}
use Rattle.dagrun.proofs.Checks.{IsPlain}
use Rattle.dagrun.proofs.Worlds.{refused-to}

-- A round is shown by the files that are asked for.
module _ (path : List ℕ) (Answers : Holding → Said) (Refuses : Holding → RunFault → Type 0) (by asked : ByFiles) (same : by ≡ asked) where
  -- whatever is known
  pub some-comes : (r : Result Answer RunFault) → IfOk r (IsPlain (Answers changing)) → IfErr r (Refuses changing) → ComesTo (seen_contract changing_files asked path Answers Refuses) r
  some-comes (Ok answer) is why = is
  some-comes (Err fault) is why = refused_by_some fault why

  pub some-unseen : (given : RunFault) → by ≢ AsTheyAre → IsNotBegun path given → (r : Result Answer RunFault) → IsErrAnd r (λ fault. fault ≡ given)
      → ComesTo (seen_contract changing_files asked path Answers Refuses) r
  some-unseen given isnt why r handed =
      refused-to (seen_contract changing_files asked path Answers Refuses) given (not_seen_by_some given (subst (λ (b : ByFiles). b ≢ AsTheyAre) same isnt) why) r handed

  -- where these files are held
  module _ (holds : Files) (has : List ℕ → Bool) where
    pub held-unseen : (given : RunFault) → IsNotSeenBy holds path by given → (r : Result Answer RunFault) → IsErrAnd r (λ fault. fault ≡ given)
        → ComesTo (seen_contract (held_in holds has) asked path Answers Refuses) r
    held-unseen given why r handed =
        refused-to (seen_contract (held_in holds has) asked path Answers Refuses) given (not_seen_by_files given (subst (λ (b : ByFiles). IsNotSeenBy holds path b given) same why)) r handed

    module _ (kept : Option Begun) (seen : IsSeenBy holds path by kept) (held : Files) (is_held : held ≡ holds) where
      pub held-comes : (r : Result Answer RunFault) → IfOk r (IsPlain (Answers (fixed (as_begun kept held)))) → IfErr r (Refuses (fixed (as_begun kept held)))
          → ComesTo (seen_contract (held_in holds has) asked path Answers Refuses) r
      held-comes (Ok answer) is why = record {
        begun = kept;
        seen = subst (λ (b : ByFiles). IsSeenBy holds path b kept) same seen;
        so = subst (λ (files : Files). IsPlain (Answers (fixed (as_begun kept files))) answer) is_held is;
      }
      held-comes (Err fault) is why = refused_by_files fault record {
        begun = kept;
        seen = subst (λ (b : ByFiles). IsSeenBy holds path b kept) same seen;
        so = subst (λ (files : Files). Refuses (fixed (as_begun kept files)) fault) is_held why;
      }

-- what is said of a view is said of the one that is asked for
module _ (may_hold : Holding) (path : List ℕ) (view other : View) (same : view ≡ other) (r : Result Answer RunFault) where
  pub viewed : IfOk r (IsPlain (IsView may_hold path (shown_by other))) → IfOk r (IsPlain (IsView may_hold path (shown_by view)))
  viewed is = subst (λ (v : View). IfOk r (IsPlain (IsView may_hold path (shown_by v)))) (sym same) is

  pub unviewed : IfErr r (IsNoView may_hold path (shown_by other)) → IfErr r (IsNoView may_hold path (shown_by view))
  unviewed why = subst (λ (v : View). IfErr r (IsNoView may_hold path (shown_by v))) (sym same) why
