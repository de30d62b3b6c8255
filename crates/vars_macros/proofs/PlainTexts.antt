-- A text that refers to nothing stands for itself.
use Rattle.std.proofs.Common.{◌≡◌, ◌∙◌, sym, ap, refl, ℕ, ◌≤◌, Bool, true, false, not, IsTrue, nat_eq, List, [], ◌∷◌, ◌||◌, length, arith, map, cond, Ok}
use Rattle.std.specs.List.{list_any}
use Rattle.std.proofs.lemmas.List.{append-nil}
use Rattle.vars_macros.specs.Cut.{Piece, Plain, first_piece, after_dollar}
use Rattle.vars_macros.specs.Meaning.{MacroScope}
use Rattle.vars_macros.specs.Expansion.{Event, Wrote, events, piece_events, no_tally, counted, expansion}
use Rattle.vars_macros.proofs.Cuts.{cuts_enough}
use Rattle.vars_macros.proofs.Tally.{longer, text_counts, nothing_counts}

pub without : (has : Bool) → IsTrue (not has) → has ≡ false
without true h = absurd cc
without false h = refl

-- a byte is a dollar sign
abbrev pub has_dollar : List ℕ → Bool
has_dollar text = list_any (λ b. nat_eq b 36) text

first_none : (b : ℕ) (bs : List ℕ) → has_dollar (b ∷ bs) ≡ false → (nat_eq b 36 ≡ false) × (has_dollar bs ≡ false)
first_none b bs none = by_first (nat_eq b 36) (has_dollar bs) none
  where
    by_first : (first others : Bool) → (first || others) ≡ false → (first ≡ false) × (others ≡ false)
    by_first true others h = absurd cc
    by_first false others h = (refl, h)

piece_plain : (b : ℕ) (bs : List ℕ) → nat_eq b 36 ≡ false → first_piece (b ∷ bs) ≡ Plain b bs
unfolding first_piece
piece_plain b bs other = ap (λ (dollar : Bool). cond dollar (after_dollar bs) (Plain b bs)) other

nothing_met : (s : MacroScope) (opened : List (List ℕ)) (vars : Bool) → piece_events (events s) s opened vars (first_piece []) ≡ []
unfolding first_piece
nothing_met s opened vars = refl

plain_events : (s : MacroScope) (opened : List (List ℕ)) (vars : Bool) (text : List ℕ) → has_dollar text ≡ false → events s opened vars text ≡ map Wrote text
plain_events s opened vars [] none = cuts_enough s opened vars [] ∙ nothing_met s opened vars
plain_events s opened vars (b ∷ bs) none =
    let parts = first_none b bs none in
    cuts_enough s opened vars (b ∷ bs)
    ∙ ap (λ (piece : Piece). piece_events (events s) s opened vars piece) (piece_plain b bs parts.0)
    ∙ ap (λ (met : List Event). Wrote b ∷ met) (plain_events s opened vars bs parts.1)

pub plain_expansion : (s : MacroScope) (vars : Bool) (text : List ℕ) → length text ≤ 65536 → has_dollar text ≡ false →
    expansion s vars text ≡ Ok (record { text = text; whole_run = false })
plain_expansion s vars text fits none =
    ap (counted no_tally) (plain_events s [] vars text none ∙ sym (append-nil (map Wrote text)))
    ∙ text_counts text no_tally [] (omega arith)
    ∙ nothing_counts (longer no_tally text)
