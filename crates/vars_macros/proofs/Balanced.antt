-- What is between a reference's parentheses is balanced.
use Rattle.std.proofs.Common.{◌≡◌, ◌∙◌, sym, ap, refl, subst, ℕ, zero, suc, ◌+◌, ◌-◌, ◌≤◌, nat_eq, Bool, true, false, cond, ◌⊎◌, inl, inr, Option, Some, None, List, [], ◌∷◌, ◌++◌, length, drop, arith, append_assoc, length-append}
use Rattle.std.proofs.lemmas.Bool.{eqb-true, eqb-false, ne_eqb}
use Rattle.std.proofs.lemmas.List.{take_at, drop_at}
use Rattle.vars_macros.specs.Balanced.{Balanced, empty, byte, enclosed}
use Rattle.vars_macros.specs.Cut.{Piece, End, Plain, Reference, Bad, closing_from, closing, reference_to, is_foreign, after_dollar, first_piece}
use Rattle.vars_macros.specs.declared.fault.MacroFault.TheVariants.{Unclosed, BadReference}

-- One step towards the parenthesis that closes: over another byte, and over what closes one of the text's own.
pub steps_over : (at depth b : ℕ) (bs : List ℕ) → nat_eq b 40 ≡ false → nat_eq b 41 ≡ false → closing_from at depth (b ∷ bs) ≡ closing_from (at + 1) depth bs
steps_over at depth b bs opens closes = rw (opens, closes) refl

pub steps_out : (at depth : ℕ) (bs : List ℕ) → closing_from at (depth + 1) (41 ∷ bs) ≡ closing_from (at + 1) depth bs
steps_out at depth bs =
    let deep : nat_eq (depth + 1) 0 ≡ false = ne_eqb (depth + 1) 0 (λ e. omega arith) in
    let less : depth + 1 - 1 ≡ depth = omega arith in
    rw (deep, less) refl

-- A balanced text is passed over, at any depth.
passes_over : {inside : List ℕ} → Balanced inside → (at depth : ℕ) (rest : List ℕ) → closing_from at depth (inside ++ rest) ≡ closing_from (at + length inside) depth rest
passes_over empty at depth rest = ap (λ (n : ℕ). closing_from n depth rest) (omega arith)
passes_over (byte {rest = bs} b opens closes more) at depth rest =
    steps_over at depth b (bs ++ rest) (ne_eqb b 40 opens) (ne_eqb b 41 closes)
    ∙ passes_over more (at + 1) depth rest
    ∙ ap (λ (n : ℕ). closing_from n depth rest) (omega arith)
passes_over (enclosed {inside = xs} {rest = ys} inner more) at depth rest =
    ap (λ (l : List ℕ). closing_from (at + 1) (depth + 1) l) (append_assoc xs (41 ∷ ys) rest)
    ∙ passes_over inner (at + 1) (depth + 1) (41 ∷ (ys ++ rest))
    ∙ steps_out (at + 1 + length xs) depth (ys ++ rest)
    ∙ passes_over more (at + 1 + length xs + 1) depth rest
    ∙ ap (λ (n : ℕ). closing_from n depth rest) (omega (arith, length-append xs (41 ∷ ys)))

closes_behind : (inside rest : List ℕ) → Balanced inside → closing (inside ++ 41 ∷ rest) ≡ Some (length inside)
unfolding closing
closes_behind inside rest is = passes_over is 0 0 (41 ∷ rest) ∙ ap (λ (n : ℕ). Some n) (omega arith)

drops_past : (inside rest : List ℕ) → drop (length inside + 1) (inside ++ 41 ∷ rest) ≡ rest
drops_past inside rest =
    ap (λ (l : List ℕ). drop (length inside + 1) l) (sym (append_assoc inside (41 ∷ []) rest))
    ∙ drop_at (inside ++ 41 ∷ []) rest (length inside + 1) (omega (arith, length-append inside (41 ∷ [])))

-- A balanced text between parentheses is cut.
pub is_cut : (inside rest : List ℕ) → Balanced inside → first_piece (36 ∷ 40 ∷ (inside ++ 41 ∷ rest)) ≡ Reference inside rest
unfolding first_piece
is_cut inside rest is =
    ap (λ (found : Option ℕ). reference_to found (inside ++ 41 ∷ rest)) (closes_behind inside rest is)
    ∙ ap (λ (l : List ℕ). Reference l (drop (length inside + 1) (inside ++ 41 ∷ rest))) (take_at inside (41 ∷ rest) (length inside) refl)
    ∙ ap (λ (l : List ℕ). Reference inside l) (drops_past inside rest)

-- a balanced text and a parenthesis that closes come first
record IsClosed (text : List ℕ) : Type 0 where
  inside : List ℕ
  rest : List ℕ
  balanced : Balanced inside
  is : text ≡ inside ++ 41 ∷ rest

-- no parenthesis closes one before the text, at any depth
abbrev NeverCloses : List ℕ → Type 0
NeverCloses text = (at depth : ℕ) → closing_from at depth text ≡ None

-- either of them
abbrev ClosedOrNot : List ℕ → Type 0
ClosedOrNot text = IsClosed text ⊎ NeverCloses text

after_byte : (b : ℕ) (bs : List ℕ) → nat_eq b 40 ≡ false → nat_eq b 41 ≡ false → ClosedOrNot bs → ClosedOrNot (b ∷ bs)
after_byte b bs opens closes (inl shut) =
    inl (record { inside = b ∷ shut.inside; rest = shut.rest; balanced = byte b (eqb-false b 40 opens) (eqb-false b 41 closes) shut.balanced; is = ap (λ (l : List ℕ). b ∷ l) shut.is })
after_byte b bs opens closes (inr never) = inr (λ at depth. steps_over at depth b bs opens closes ∙ never (at + 1) depth)

after_enclosed : (xs ys : List ℕ) → Balanced xs → ClosedOrNot ys → ClosedOrNot (40 ∷ (xs ++ 41 ∷ ys))
after_enclosed xs ys inner (inl shut) =
    inl (record {
      inside = 40 ∷ (xs ++ 41 ∷ shut.inside);
      rest = shut.rest;
      balanced = enclosed inner shut.balanced;
      is = ap (λ (l : List ℕ). 40 ∷ (xs ++ 41 ∷ l)) shut.is ∙ ap (λ (l : List ℕ). 40 ∷ l) (sym (append_assoc xs (41 ∷ shut.inside) (41 ∷ shut.rest)));
    })
after_enclosed xs ys inner (inr never) =
    inr (λ at depth. passes_over inner (at + 1) (depth + 1) (41 ∷ ys) ∙ steps_out (at + 1 + length xs) depth ys ∙ never (at + 1 + length xs + 1) depth)

-- each text of at most n bytes is one or the other
abbrev Decided : ℕ → Type 0
Decided n = (text : List ℕ) → length text ≤ n → ClosedOrNot text

after_opening : (n : ℕ) (bs : List ℕ) → Decided n → length bs ≤ n → ClosedOrNot bs → ClosedOrNot (40 ∷ bs)
after_opening n bs decided short (inl shut) =
    let shorter : length shut.rest ≤ n = omega (arith, ap length shut.is, length-append shut.inside (41 ∷ shut.rest)) in
    subst (λ (l : List ℕ). ClosedOrNot (40 ∷ l)) (sym shut.is) (after_enclosed shut.inside shut.rest shut.balanced (decided shut.rest shorter))
after_opening n bs decided short (inr never) = inr (λ at depth. never (at + 1) (depth + 1))

one_more : (n : ℕ) (b : ℕ) (bs : List ℕ) → Decided n → length bs ≤ n → ClosedOrNot (b ∷ bs)
one_more n b bs decided short = by_byte (nat_eq b 40) (nat_eq b 41) refl refl
  where
    by_byte : (opens closes : Bool) → nat_eq b 40 ≡ opens → nat_eq b 41 ≡ closes → ClosedOrNot (b ∷ bs)
    by_byte true closes is other = subst (λ (c : ℕ). ClosedOrNot (c ∷ bs)) (sym (eqb-true b 40 is)) (after_opening n bs decided short (decided bs short))
    by_byte false true other is = inl (record { inside = []; rest = bs; balanced = empty; is = ap (λ (c : ℕ). c ∷ bs) (eqb-true b 41 is) })
    by_byte false false opens closes = after_byte b bs opens closes (decided bs short)

all_decided : (n : ℕ) → Decided n
all_decided n [] short = inr (λ at depth. refl)
all_decided zero (b ∷ bs) short = absurd (omega arith)
all_decided (suc n) (b ∷ bs) short = one_more n b bs (all_decided n) (omega arith)

closed_or_not : (text : List ℕ) → ClosedOrNot text
closed_or_not text = all_decided (length text) text (omega arith)

-- what is cut off where no reference begins
data IsOther : Piece → Type 0 where
  nothing : IsOther End
  plain : (b : ℕ) (rest : List ℕ) → IsOther (Plain b rest)
  foreign : IsOther (Bad BadReference)

-- a dollar sign and an opening parenthesis come first
record Opens (text : List ℕ) : Type 0 where
  behind : List ℕ
  is : text ≡ 36 ∷ 40 ∷ behind

by_word : (rest : List ℕ) (word : Bool) → IsOther (cond word (Bad BadReference) (Plain 36 rest))
by_word rest true = foreign
by_word rest false = plain 36 rest

by_parenthesis : (b : ℕ) (rest : List ℕ) (opens : Bool) → nat_eq b 40 ≡ opens →
    Opens (36 ∷ b ∷ rest) ⊎ IsOther (cond opens (reference_to (closing rest) rest) (cond (is_foreign (b ∷ rest)) (Bad BadReference) (Plain 36 (b ∷ rest))))
by_parenthesis b rest true is = inl (record { behind = rest; is = ap (λ (c : ℕ). 36 ∷ c ∷ rest) (eqb-true b 40 is) })
by_parenthesis b rest false other = inr (by_word (b ∷ rest) (is_foreign (b ∷ rest)))

behind_dollar : (bs : List ℕ) → Opens (36 ∷ bs) ⊎ IsOther (after_dollar bs)
behind_dollar [] = inr (by_word [] (is_foreign []))
behind_dollar (b ∷ rest) = by_parenthesis b rest (nat_eq b 40) refl

opens_or_other : (text : List ℕ) → Opens text ⊎ IsOther (first_piece text)
unfolding first_piece
opens_or_other [] = inr nothing
opens_or_other (b ∷ bs) = by_dollar (nat_eq b 36) refl
  where
    by_dollar : (dollar : Bool) → nat_eq b 36 ≡ dollar → Opens (b ∷ bs) ⊎ IsOther (cond dollar (after_dollar bs) (Plain b bs))
    by_dollar true is = subst (λ (c : ℕ). Opens (c ∷ bs) ⊎ IsOther (after_dollar bs)) (sym (eqb-true b 36 is)) (behind_dollar bs)
    by_dollar false other = inr (plain b bs)

no_reference : {inside rest : List ℕ} → IsOther (Reference inside rest) → ⊥
no_reference other = elim other [ ]

not_unclosed : IsOther (Bad Unclosed) → ⊥
not_unclosed other = elim other [ ]

is_unclosed : (behind : List ℕ) → NeverCloses behind → first_piece (36 ∷ 40 ∷ behind) ≡ Bad Unclosed
unfolding first_piece closing
is_unclosed behind never = ap (λ (found : Option ℕ). reference_to found behind) (never 0 0)

-- What is cut as a reference is between parentheses, balanced.
pub is_balanced : (text inside rest : List ℕ) → first_piece text ≡ Reference inside rest → (text ≡ 36 ∷ 40 ∷ (inside ++ 41 ∷ rest)) × Balanced inside
is_balanced text inside rest cut = by_opening (opens_or_other text)
  where
    by_closing : (opened : Opens text) → ClosedOrNot opened.behind → (text ≡ 36 ∷ 40 ∷ (inside ++ 41 ∷ rest)) × Balanced inside
    by_closing opened (inl shut) =
        let is : text ≡ 36 ∷ 40 ∷ (shut.inside ++ 41 ∷ shut.rest) = opened.is ∙ ap (λ (l : List ℕ). 36 ∷ 40 ∷ l) shut.is in
        let same : Reference shut.inside shut.rest ≡ Reference inside rest = sym (is_cut shut.inside shut.rest shut.balanced) ∙ ap first_piece (sym is) ∙ cut in
        let same_inside : shut.inside ≡ inside = cc in
        let same_rest : shut.rest ≡ rest = cc in
        (is ∙ ap (λ (l : List ℕ). 36 ∷ 40 ∷ (l ++ 41 ∷ shut.rest)) same_inside ∙ ap (λ (l : List ℕ). 36 ∷ 40 ∷ (inside ++ 41 ∷ l)) same_rest, subst Balanced same_inside shut.balanced)
    by_closing opened (inr never) =
        let wrong : Bad Unclosed ≡ Reference inside rest = sym (is_unclosed opened.behind never) ∙ ap first_piece (sym opened.is) ∙ cut in
        absurd cc

    by_opening : Opens text ⊎ IsOther (first_piece text) → (text ≡ 36 ∷ 40 ∷ (inside ++ 41 ∷ rest)) × Balanced inside
    by_opening (inl opened) = by_closing opened (closed_or_not opened.behind)
    by_opening (inr other) = absurd (no_reference (subst IsOther cut other))

-- What is refused as unclosed has no balanced text and closing parenthesis after its opening one.
pub none_closes : (text : List ℕ) → first_piece text ≡ Bad Unclosed →
    (behind : List ℕ) × (text ≡ 36 ∷ 40 ∷ behind) × ((inside rest : List ℕ) → Balanced inside → behind ≡ inside ++ 41 ∷ rest → ⊥)
none_closes text cut = by_opening (opens_or_other text)
  where
    never : (opened : Opens text) (inside rest : List ℕ) → Balanced inside → opened.behind ≡ inside ++ 41 ∷ rest → ⊥
    never opened inside rest balanced is =
        let wrong : Reference inside rest ≡ Bad Unclosed = sym (is_cut inside rest balanced) ∙ ap (λ (l : List ℕ). first_piece (36 ∷ 40 ∷ l)) (sym is) ∙ ap first_piece (sym opened.is) ∙ cut in
        cc

    by_opening : Opens text ⊎ IsOther (first_piece text) →
        (behind : List ℕ) × (text ≡ 36 ∷ 40 ∷ behind) × ((inside rest : List ℕ) → Balanced inside → behind ≡ inside ++ 41 ∷ rest → ⊥)
    by_opening (inl opened) = (opened.behind, opened.is, never opened)
    by_opening (inr other) = absurd (not_unclosed (subst IsOther cut other))
