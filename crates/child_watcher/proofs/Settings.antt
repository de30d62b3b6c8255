-- By what a process of a round is known.
use Rattle.std.proofs.Common.{◌≡◌, ◌≢◌, ℕ, nat_eq, Bool, true, false, List, ◌++◌, Option, Bor, MatchBool, MatchOption, take, drop, length, ◌+◌, ap, sym, subst, ◌∙◌}
use Rattle.std.proofs.lemmas.Bool.Decides.{Decides-eqb}
use Rattle.std.proofs.lemmas.List.{append_cancel_left}
use Rattle.std.proofs.lemmas.Slice.Eq.{strip_prefix_is}
use Rattle.std.specs.Cmp.Lexicographic.{pointwise, told_text}
use Rattle.child_watcher.specs.Inherited.{IsValueOf}

-- What comes after the bytes of a name.
pub value_behind : (name bytes setting : List ℕ) (found : Option (Bor (List ℕ))) → bytes ≡ name
    → MatchOption found (pointwise nat_eq (take (length bytes) setting) bytes ≡ false) (λ x. (pointwise nat_eq (take (length bytes) setting) bytes ≡ true) × (x.now ≡ drop (length bytes) setting) × (length x.now + length bytes ≡ length setting))
    → IsValueOf name setting found
value_behind name bytes setting found is cases = subst (λ front. IsValueOf front setting found) is (strip_prefix_is Decides-eqb setting bytes found cases)

-- Whether the value is this one says whether the setting is.
pub same_setting : (name value bytes other setting : List ℕ) (answer : Bool) → bytes ≡ other → setting ≡ name ++ value → answer ≡ pointwise nat_eq value bytes
    → MatchBool answer (setting ≡ name ++ other) (setting ≢ name ++ other)
same_setting name value bytes other setting answer same is asked =
    of answer (told_text value other answer (asked ∙ ap (λ (b : List ℕ). pointwise nat_eq value b) same)) where
      of : (answer : Bool) → MatchBool answer (value ≡ other) (value ≢ other) → MatchBool answer (setting ≡ name ++ other) (setting ≢ name ++ other)
      of true equal = is ∙ ap (λ (b : List ℕ). name ++ b) equal
      of false differs = λ e. differs (append_cancel_left name value other (sym is ∙ e))
