-- What is inside a JSON string.
use Rattle.std.proofs.Common.{◌≡◌, ◌≢◌, ◌++◌, ◌+◌, ◌<◌, ◌⊎◌, ℕ, Bool, true, false, List, [], ◌∷◌, length, get_or, inl, inr, arith, append_assoc, length-append, length-drop, take, drop, ◌-◌, refl, sym, subst, ap, ◌∙◌}
use Rattle.std.proofs.lemmas.List.{append-nil, take_all}
use Rattle.std.proofs.Math.Seq.{get_or-append_seam, drop-append_seam}
use Rattle.dag_main_run.specs.StatusFile.{IsInside, inside_over, inside_plain, inside_backslash, inside_escaped}

-- so many bytes are inside the string, and it goes on with what is left of it
pub record IsAt (inside : List ℕ) (place : ℕ) (escaped : Bool) : Type 0 where
  pub before : List ℕ
  pub left : List ℕ
  pub parts : inside ≡ before ++ left
  pub many : place ≡ length before
  pub goes_on : IsInside escaped left

-- the same of each string that ends in these bytes
pub record AreAt (bytes : List ℕ) (index place : ℕ) (escaped : Bool) : Type 0 where
  pub place_is : place ≡ index
  pub inside_at : (inside rest : List ℕ) → IsInside false inside → bytes ≡ inside ++ 34 ∷ rest → IsAt inside place escaped

-- the byte at the place is the first one of what is left
byte-is : (inside before : List ℕ) (first : ℕ) (r rest : List ℕ) (place byte past : ℕ) → inside ≡ before ++ first ∷ r → place ≡ length before
    → byte ≡ get_or (inside ++ 34 ∷ rest) place past → byte ≡ first
byte-is inside before first r rest place byte past parts many is =
    is ∙ (ap (λ l. get_or (l ++ 34 ∷ rest) place past) parts ∙ (ap (λ l. get_or l place past) (append_assoc before (first ∷ r) (34 ∷ rest))
    ∙ (ap (λ n. get_or (before ++ ((first ∷ r) ++ 34 ∷ rest)) n past) many ∙ get_or-append_seam before first (r ++ 34 ∷ rest) past)))

-- and that after the string is the last quotation mark
byte-is-quote : (inside before rest : List ℕ) (place byte past : ℕ) → inside ≡ before ++ [] → place ≡ length before → byte ≡ get_or (inside ++ 34 ∷ rest) place past → byte ≡ 34
byte-is-quote inside before rest place byte past parts many is =
    is ∙ (ap (λ l. get_or (l ++ 34 ∷ rest) place past) (parts ∙ append-nil before)
    ∙ (ap (λ n. get_or (before ++ 34 ∷ rest) n past) many ∙ get_or-append_seam before 34 rest past))

-- where the string ends
ends-here : (inside before left rest : List ℕ) (place byte past : ℕ) (escaped : Bool) → inside ≡ before ++ left → place ≡ length before → IsInside escaped left
    → byte ≡ get_or (inside ++ 34 ∷ rest) place past → (byte < 32) ⊎ ((byte ≡ 34) × (escaped ≡ false)) → place ≡ length inside
ends-here inside before left rest place byte past escaped parts many inside_over is ends = many ∙ sym (ap length (parts ∙ append-nil before))
ends-here inside before left rest place byte past escaped parts many (inside_plain b r low no_quote no_slash on) is ends =
    let same : byte ≡ b = byte-is inside before b r rest place byte past parts many is in
    elim ends [
      | inl small ↦ absurd (omega (arith, same, small, low))
      | inr both ↦ absurd (no_quote (sym same ∙ both.0))
    ]
ends-here inside before left rest place byte past escaped parts many (inside_backslash r on) is ends =
    let same : byte ≡ 92 = byte-is inside before 92 r rest place byte past parts many is in
    elim ends [
      | inl small ↦ absurd (omega (arith, same, small))
      | inr both ↦ absurd (omega (arith, same, both.0))
    ]
ends-here inside before left rest place byte past escaped parts many (inside_escaped b r low on) is ends =
    let same : byte ≡ b = byte-is inside before b r rest place byte past parts many is in
    elim ends [
      | inl small ↦ absurd (omega (arith, same, small, low))
      | inr both ↦ let no : true ≡ false = both.1 in absurd cc
    ]

-- one byte more
moved : (inside before : List ℕ) (first : ℕ) (r : List ℕ) (place : ℕ) (next : Bool) → inside ≡ before ++ first ∷ r → place ≡ length before → IsInside next r
    → IsAt inside (place + 1) next
moved inside before first r place next parts many on = record {
  before = before ++ first ∷ [];
  left = r;
  parts = parts ∙ sym (append_assoc before (first ∷ []) r);
  many = ap (λ n. n + 1) many ∙ sym (length-append before (first ∷ []));
  goes_on = on;
}

-- where it goes on
goes-on : (inside before left rest : List ℕ) (place byte past : ℕ) (escaped next : Bool) → inside ≡ before ++ left → place ≡ length before → IsInside escaped left
    → byte ≡ get_or (inside ++ 34 ∷ rest) place past → (byte ≡ 34 → escaped ≡ true) → (escaped ≡ false → byte ≡ 92 → next ≡ true) → (byte ≢ 92 → next ≡ false)
    → (escaped ≡ true → next ≡ false) → IsAt inside (place + 1) next
goes-on inside before left rest place byte past escaped next parts many inside_over is quoted slash other after =
    let no : false ≡ true = quoted (byte-is-quote inside before rest place byte past parts many is) in
    absurd cc
goes-on inside before left rest place byte past escaped next parts many (inside_plain b r low no_quote no_slash on) is quoted slash other after =
    let same : byte ≡ b = byte-is inside before b r rest place byte past parts many is in
    moved inside before b r place next parts many (subst (λ e. IsInside e r) (sym (other (λ is_slash. no_slash (sym same ∙ is_slash)))) on)
goes-on inside before left rest place byte past escaped next parts many (inside_backslash r on) is quoted slash other after =
    let same : byte ≡ 92 = byte-is inside before 92 r rest place byte past parts many is in
    moved inside before 92 r place next parts many (subst (λ e. IsInside e r) (sym (slash refl same)) on)
goes-on inside before left rest place byte past escaped next parts many (inside_escaped b r low on) is quoted slash other after =
    moved inside before b r place next parts many (subst (λ e. IsInside e r) (sym (after refl)) on)

-- the byte at a place of the bytes is the one at that place of the string
byte-at : (bytes inside rest : List ℕ) (index place : ℕ) → place ≡ index → bytes ≡ inside ++ 34 ∷ rest → get_or bytes index 0 ≡ get_or (inside ++ 34 ∷ rest) place 0
byte-at bytes inside rest index place place_is same = ap (λ l. get_or l index 0) same ∙ ap (λ n. get_or (inside ++ 34 ∷ rest) n 0) (sym place_is)

-- each string that ends in these bytes ends where a byte ends it
pub all-end : (bytes : List ℕ) (index place : ℕ) (escaped : Bool) → AreAt bytes index place escaped
    → (get_or bytes index 0 < 32) ⊎ ((get_or bytes index 0 ≡ 34) × (escaped ≡ false))
    → (inside rest : List ℕ) → IsInside false inside → bytes ≡ inside ++ 34 ∷ rest → place ≡ length inside
all-end bytes index place escaped are ends inside rest is_inside same =
    let at = are.inside_at inside rest is_inside same in
    ends-here inside at.before at.left rest place (get_or bytes index 0) 0 escaped at.parts at.many at.goes_on (byte-at bytes inside rest index place are.place_is same) ends

-- and goes on where none does
pub all-go-on : (bytes : List ℕ) (index place : ℕ) (escaped next : Bool) → AreAt bytes index place escaped → (get_or bytes index 0 ≡ 34 → escaped ≡ true)
    → (escaped ≡ false → get_or bytes index 0 ≡ 92 → next ≡ true) → (get_or bytes index 0 ≢ 92 → next ≡ false) → (escaped ≡ true → next ≡ false)
    → AreAt bytes (index + 1) (place + 1) next
all-go-on bytes index place escaped next are quoted slash other after = record {
  place_is = ap (λ n. n + 1) are.place_is;
  inside_at = λ inside rest is_inside same.
      let at = are.inside_at inside rest is_inside same in
      goes-on inside at.before at.left rest place (get_or bytes index 0) 0 escaped next at.parts at.many at.goes_on
      (byte-at bytes inside rest index place are.place_is same) quoted slash other after;
}

-- what is after so many bytes of a text is what is after the string that they are
pub after-string : (path inside after : List ℕ) (n : ℕ) → path ≡ inside ++ 34 ∷ after → n ≡ length inside → take (length path - n) (drop n path) ≡ 34 ∷ after
after-string path inside after n parts many =
    ap (λ k. take k (drop n path)) (sym (length-drop n path)) ∙ (take_all (length (drop n path)) (drop n path) (omega arith)
    ∙ (ap (λ l. drop n l) parts ∙ (ap (λ k. drop k (inside ++ 34 ∷ after)) many ∙ drop-append_seam inside (34 ∷ after))))
