-- The parentheses of a text that is gone over from its end.
use Rattle.std.proofs.Common.{◌≡◌, ◌≢◌, ◌∙◌, sym, ap, refl, subst, ℕ, zero, suc, ◌+◌, ◌-◌, ◌≤◌, ◌<◌, nat_eq, ◌==◌, Bool, true, false, cond, Option, Some, None, option_map, List, [], ◌∷◌, ◌++◌, length, drop, reverse, get_or, slice_get, ⊎_elim, arith}
use Rattle.std.proofs.Math.Seq.{drop-cons}
use Rattle.std.proofs.lemmas.Bool.{eqb-true, ne_eqb, cases_eq}
use Rattle.std.proofs.lemmas.List.{reverse-append, drop_all}
use Rattle.std.proofs.lemmas.Option.{get_or_from_slice_get, slice_get_within}
use Rattle.vars_macros.specs.Cut.{closing_from, closing}
use Rattle.vars_macros.proofs.Balanced.{steps_over, steps_out}
use Rattle.vars_macros.proofs.Closings.{shifted}

-- The places of the parentheses that close none of the text's own, from the left, if the text is at this place.
abbrev pub closers : ℕ → List ℕ → List ℕ
closers at [] = []
closers at (b ∷ bs) = cond (b == 41) (at ∷ closers (at + 1) bs) (cond (b == 40) (drop 1 (closers (at + 1) bs)) (closers (at + 1) bs))

one_less : (xs : List ℕ) (k : ℕ) → slice_get xs (k + 1) ≡ slice_get (drop 1 xs) k
one_less [] k = refl
one_less (x ∷ xs) k = ap (slice_get (x ∷ xs)) {y = suc k} (omega arith)

-- The first of them closes what is before the text, the next one what is around that, and so on.
found_by_depth : (at depth : ℕ) (text : List ℕ) → closing_from at depth text ≡ slice_get (closers at text) depth
found_by_depth at depth [] = refl
found_by_depth at depth (b ∷ bs) = by_byte (nat_eq b 41) (nat_eq b 40) refl refl (λ deep. found_by_depth (at + 1) deep bs) depth
  where
    by_byte : (closes opens : Bool) → nat_eq b 41 ≡ closes → nat_eq b 40 ≡ opens → ((deep : ℕ) → closing_from (at + 1) deep bs ≡ slice_get (closers (at + 1) bs) deep) →
        (deep : ℕ) → closing_from at deep (b ∷ bs) ≡ slice_get (closers at (b ∷ bs)) deep
    by_byte true opens is other further zero = subst (λ (c : ℕ). closing_from at 0 (c ∷ bs) ≡ slice_get (closers at (c ∷ bs)) 0) (sym (eqb-true b 41 is)) refl
    by_byte true opens is other further (suc deep) = subst (λ (c : ℕ). closing_from at (suc deep) (c ∷ bs) ≡ slice_get (closers at (c ∷ bs)) (suc deep)) (sym (eqb-true b 41 is)) (ap (λ (n : ℕ). closing_from at n (41 ∷ bs)) (omega arith) ∙ steps_out at deep bs ∙ further deep)
    by_byte false true other is further deep = subst (λ (c : ℕ). closing_from at deep (c ∷ bs) ≡ slice_get (closers at (c ∷ bs)) deep) (sym (eqb-true b 40 is)) (further (deep + 1) ∙ one_less (closers (at + 1) bs) deep)
    by_byte false false closes opens further deep = steps_over at deep b bs opens closes ∙ rw (closes, opens) (further deep)

-- Where the parenthesis is that closes one before the text, if the text is at this place.
pub first_closer : (at : ℕ) (text : List ℕ) → option_map (λ n. at + n) (closing text) ≡ slice_get (closers at text) 0
unfolding closing
first_closer at text = sym (shifted at 0 0 text) ∙ ap (λ (n : ℕ). closing_from n 0 text) (omega arith) ∙ found_by_depth at 0 text

-- What is known of a text that is gone over from its end to this place: the parentheses that close none of what is gone
-- over, the first of them at the end of the list, and the pairs so far.
pub record ArePairsFrom (text : List ℕ) (at : ℕ) (left : List ℕ) (pairs : ℕ → Option ℕ) : Type 0 where
  unpaired : reverse left ≡ closers at (drop at text)
  pub paired : (k : ℕ) → at ≤ k → slice_get text k ≡ Some 40 → pairs k ≡ option_map (λ n. k + 1 + n) (closing (drop (k + 1) text))
  unseen : (k : ℕ) → k < at → pairs k ≡ None

-- nothing, at the end
pub none_from_end : (text none : List ℕ) (pairs : ℕ → Option ℕ) → none ≡ [] → ((k : ℕ) → pairs k ≡ None) → ArePairsFrom text (length text) none pairs
none_from_end text none pairs empty no_pairs = record {
  unpaired = ap reverse empty ∙ ap (closers (length text)) (sym (drop_all (length text) text (omega arith)));
  paired = λ k past opens. absurd (omega (arith, slice_get_within text k 40 opens));
  unseen = λ k before. no_pairs k;
}

module _ (text : List ℕ) (at : ℕ) (left : List ℕ) (pairs : ℕ → Option ℕ) (known : ArePairsFrom text at left pairs) (more : 0 < at) (fits : at ≤ length text) where
  -- what a byte makes of the parentheses that are left
  abbrev left_by : ℕ → List ℕ
  left_by b = cond (b == 41) ((at - 1) ∷ reverse left) (cond (b == 40) (drop 1 (reverse left)) (reverse left))

  closers_here : closers (at - 1) (drop (at - 1) text) ≡ left_by (get_or text (at - 1) 0)
  closers_here =
      let b = get_or text (at - 1) 0 in
      let next : at - 1 + 1 ≡ at = omega arith in
      let after : suc (at - 1) ≡ at = omega arith in
      ap (closers (at - 1)) (drop-cons text (at - 1) 0 (omega arith))
      ∙ ap (λ (n : ℕ). closers (at - 1) (b ∷ drop n text)) after
      ∙ ap (λ (n : ℕ). cond (b == 41) ((at - 1) ∷ closers n (drop at text)) (cond (b == 40) (drop 1 (closers n (drop at text))) (closers n (drop at text)))) next
      ∙ ap (λ (xs : List ℕ). cond (b == 41) ((at - 1) ∷ xs) (cond (b == 40) (drop 1 xs) xs)) (sym known.unpaired)

  paired_here : (k : ℕ) → k ≡ at - 1 → slice_get (reverse left) 0 ≡ option_map (λ n. k + 1 + n) (closing (drop (k + 1) text))
  paired_here k is =
      ap (λ (xs : List ℕ). slice_get xs 0) known.unpaired
      ∙ sym (first_closer at (drop at text))
      ∙ ap (λ (m : ℕ). option_map (λ n. m + n) (closing (drop m text))) (omega arith)

  -- One byte further on, whichever it is.
  one_more : (b : ℕ) (rest : List ℕ) (others : ℕ → Option ℕ) → get_or text (at - 1) 0 ≡ b → reverse rest ≡ left_by b →
      (b ≡ 40 → others (at - 1) ≡ slice_get (reverse left) 0) → ((k : ℕ) → k ≢ at - 1 → others k ≡ pairs k) → ArePairsFrom text (at - 1) rest others
  one_more b rest others is unpaired here same = record {
    unpaired = unpaired ∙ ap left_by (sym is) ∙ sym closers_here;
    paired = λ k from opens.
        ⊎_elim
        (λ (e : k ≡ at - 1). ap others e ∙ here (sym is ∙ ap (λ (n : ℕ). get_or text n 0) (sym e) ∙ get_or_from_slice_get text k 40 0 opens) ∙ paired_here k e)
        (λ (ne : k ≢ at - 1). same k ne ∙ known.paired k (omega (arith, ne)) opens)
        (cases_eq k (at - 1));
    unseen = λ k before. same k (λ e. omega arith) ∙ known.unseen k (omega arith);
  }

  -- The same by the byte: a closing parenthesis, an opening one with and without one that closes it, another byte.
  pub after_closer : (longer : List ℕ) → get_or text (at - 1) 0 ≡ 41 → longer ≡ left ++ (at - 1) ∷ [] → ArePairsFrom text (at - 1) longer pairs
  after_closer longer is pushed = one_more 41 longer pairs is (ap reverse pushed ∙ reverse-append left ((at - 1) ∷ [])) (λ e. absurd (omega (arith, e))) (λ k apart. refl)

  pub after_pair : (close : ℕ) (fewer : List ℕ) (others : ℕ → Option ℕ) → get_or text (at - 1) 0 ≡ 40 → left ≡ fewer ++ close ∷ [] →
      others (at - 1) ≡ Some close → ((k : ℕ) → k ≢ at - 1 → others k ≡ pairs k) → ArePairsFrom text (at - 1) fewer others
  after_pair close fewer others is popped here same =
      let turned : reverse left ≡ close ∷ reverse fewer = ap reverse popped ∙ reverse-append fewer (close ∷ []) in
      one_more 40 fewer others is (sym (ap (drop 1) turned)) (λ e. here ∙ sym (ap (λ (xs : List ℕ). slice_get xs 0) turned)) same

  pub after_unclosed : (none : List ℕ) → get_or text (at - 1) 0 ≡ 40 → left ≡ [] → none ≡ [] → ArePairsFrom text (at - 1) none pairs
  after_unclosed none is empty still =
      one_more 40 none pairs is (ap reverse still ∙ sym (ap (λ (xs : List ℕ). drop 1 (reverse xs)) empty)) (λ e. known.unseen (at - 1) (omega arith) ∙ sym (ap (λ (xs : List ℕ). slice_get (reverse xs) 0) empty)) (λ k apart. refl)

  pub after_other : get_or text (at - 1) 0 ≢ 40 → get_or text (at - 1) 0 ≢ 41 → ArePairsFrom text (at - 1) left pairs
  after_other no_opening no_closing =
      let b = get_or text (at - 1) 0 in
      one_more b left pairs refl (sym (ap (λ (closes : Bool). cond closes ((at - 1) ∷ reverse left) (cond (b == 40) (drop 1 (reverse left)) (reverse left))) (ne_eqb b 41 no_closing)
      ∙ ap (λ (opens : Bool). cond opens (drop 1 (reverse left)) (reverse left)) (ne_eqb b 40 no_opening)))
      (λ e. absurd (no_opening e)) (λ k apart. refl)
