use Rattle.std.proofs.Common.{◌∙◌, ◌++◌, ◌∷◌, [], Bor, List, ℕ, map, sym, ap, subst, refl}
use Rattle.file_hints.specs.Meant.{macro_names, IsBetterMacro, AreBetterMacros}
use Rattle.file_hints.specs.declared.hint.Finding.{Finding}
use Rattle.file_hints.proofs.Betters.{better_more}
use Rattle.file_hints.proofs.meant.with_meant_macros.Goals as goal

pub loop-finding-preserved : goal.loop-finding-preserved
loop-finding-preserved c =
    let f = c.in-Some.finding in
    let g : Finding = record { line = f.line; hint = c.in_ok-hint.hint } in
    let texts : List (Bor (List ℕ)) → List (List ℕ) = λ words. map (λ w. w.now) words in
    let better = subst (λ (macros : List (List ℕ)). IsBetterMacro macros f.hint g.hint) (ap texts c.deref.ensures.value ∙ c.in_ok-macros.ensures) c.in_ok-hint.ensures in
    subst (λ (gs : List Finding). AreBetterMacros c.args.names.now c.args.placed.now c.args.vars.now (c.loop-finding.yielded ++ f ∷ []) gs) (sym c.in_ok-push.ensures.items)
    (better_more (λ f hint. IsBetterMacro (macro_names c.args.names.now c.args.placed.now c.args.vars.now f.line) f.hint hint) c.loop-finding.yielded c.loop-finding.better.items f g
    c.loop-finding.invariant refl better)
