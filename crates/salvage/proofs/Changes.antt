-- The lines of files that are changed, one more.
use Rattle.std.proofs.Common.{◌≡◌, ◌∙◌, ◌<◌, ◌+◌, ℕ, List, [], ◌∷◌, ◌++◌, Option, length, take, get_or, sym, ap, subst}
use Rattle.std.proofs.lemmas.List.{take_more}
use Rattle.salvage.specs.Salvaged.{change_line, AreChanges, one_more}
use Rattle.round_inputs.specs.declared.inputs.Listed.{Listed}
use Rattle.salvage.specs.declared.here.Difference.{Difference}

pub more-changes : (IsOf : Listed → Option Difference → Type 0) (files lent : List Listed) → lent ≡ files → (i : ℕ) (text new path : List ℕ) (file : Listed) (change : Option Difference)
    → i < length lent → file ≡ get_or lent i file → AreChanges IsOf (take i files) text → IsOf file change → path ≡ file.path → new ≡ text ++ change_line path change
    → AreChanges IsOf (take (i + 1) files) new
more-changes IsOf files lent same i text new path file change less is so_far of path_is new_is =
    let fits : i < length files = subst (λ (xs : List Listed). i < length xs) same less in
    let at : get_or files i file ≡ file = sym (is ∙ ap (λ (xs : List Listed). get_or xs i file) same) in
    let grown : take (i + 1) files ≡ take i files ++ file ∷ [] = take_more files i file fits ∙ ap (λ (f : Listed). take i files ++ f ∷ []) at in
    let line : new ≡ text ++ change_line file.path change = new_is ∙ ap (λ (p : List ℕ). text ++ change_line p change) path_is in
    subst (λ (fs : List Listed). AreChanges IsOf fs new) (sym grown)
    (subst (AreChanges IsOf (take i files ++ file ∷ [])) (sym line) (one_more (take i files) text file change so_far of))
