use Rattle.std.proofs.Common.{◌∙◌, ◌++◌, ◌∷◌, [], Bor, List, ℕ, map, sym, ap, subst, refl}
use Rattle.file_hints.specs.Meant.{known_names, IsBetterHint, AreBetter}
use Rattle.file_hints.specs.declared.hint.Finding.{Finding}
use Rattle.file_hints.proofs.Betters.{better_more}
use Rattle.file_hints.proofs.meant.with_meant.Goals as goal

pub loop-finding-preserved : goal.loop-finding-preserved
loop-finding-preserved c =
    let f = c.in-Some.finding in
    let g : Finding = record { line = f.line; hint = c.in_ok-hint.hint } in
    let texts : List (Bor (List ℕ)) → List (List ℕ) = λ words. map (λ w. w.now) words in
    let better = subst (λ (known : List (List ℕ)). IsBetterHint known f.hint g.hint) (ap texts c.deref.ensures.value ∙ c.in_ok-known.ensures) c.in_ok-hint.ensures in
    subst (λ (gs : List Finding). AreBetter (known_names c.args.names.now) (c.loop-finding.yielded ++ f ∷ []) gs) (sym c.in_ok-push.ensures.items)
    (better_more (λ f hint. IsBetterHint (known_names c.args.names.now) f.hint hint) c.loop-finding.yielded c.loop-finding.better.items f g c.loop-finding.invariant refl better)
