-- Lists after a gap.
use Rattle.std.proofs.Common.{◌≡◌, ℕ, ◌+◌, ◌-◌, ◌<◌, ◌≤◌, List, length, drop, take, sym, ap, ◌∙◌, arith}
use Rattle.std.specs.List.{insert, remove}
use Rattle.std.proofs.lemmas.List.{take-append-drop, drop_at, length-take-le}
use Rattle.std.proofs.lemmas.List.Edits.{insert-append_right, remove-append_right}

module _ {X : Type 0} (xs : List X) (gap place : ℕ) where
  behind : (gap + place) - gap ≡ place
  behind = omega arith

  pub drop-insert : (new : X) → gap ≤ length xs → drop gap (insert xs (gap + place) new) ≡ insert (drop gap xs) place new
  drop-insert new within =
      let long = length-take-le gap xs within in
      ap (λ ys. drop gap (insert ys (gap + place) new)) (sym (take-append-drop gap xs))
      ∙ ap (drop gap) (insert-append_right (take gap xs) (drop gap xs) gap (gap + place) new long (omega arith))
      ∙ drop_at (take gap xs) (insert (drop gap xs) ((gap + place) - gap) new) gap long ∙ ap (λ k. insert (drop gap xs) k new) behind

  pub drop-remove : gap + place < length xs → drop gap (remove xs (gap + place)) ≡ remove (drop gap xs) place
  drop-remove inside =
      let long = length-take-le gap xs (omega (arith, inside)) in
      ap (λ ys. drop gap (remove ys (gap + place))) (sym (take-append-drop gap xs))
      ∙ ap (drop gap) (remove-append_right (take gap xs) (drop gap xs) gap (gap + place) long (omega arith))
      ∙ drop_at (take gap xs) (remove (drop gap xs) ((gap + place) - gap)) gap long ∙ ap (remove (drop gap xs)) behind
