-- The parts of words are what the symbols of either style say.
use Rattle.std.proofs.Common.{◌≡◌, ◌∙◌, sym, ap, refl, subst, ℕ, zero, suc, ◌<◌, ◌==◌, Bool, true, false, ◌||◌, ◌&&◌, List, [], ◌∷◌, ◌++◌, length, drop, arith, Ok, Err, append_assoc, append-nil}
use Rattle.std.proofs.lemmas.Bool.{eqb-true, and_parts}
use Rattle.vars_macros.specs.Cut.{begins_with}
use Rattle.vars_macros.specs.Symbols.{gathered, is_pair, new_symbol, grouped_after, new_symbols, is_quote_escape, old_symbol, old_symbols}
use Rattle.vars_macros.specs.ArgumentGrammar.{is_space_or_tab}
use Rattle.vars_macros.specs.Gathered.{Gathering}
use Rattle.vars_macros.specs.declared.words.Symbol.{Symbol}
use Rattle.vars_macros.specs.declared.words.Symbol.TheVariants.{Letter, Mark, Gap, Broken}
use Rattle.vars_macros.specs.ArgumentGrammar.{is_quote, SpellsGroup, group_end, group_byte, group_double_quote, group_single_quote, SpellsNewPart, new_byte, new_double_quote, new_group, SpellsOldPart, old_double_quote, old_byte}
use Rattle.vars_macros.specs.declared.fault.MacroFault.TheVariants.{BadQuote}
use Rattle.vars_macros.proofs.Groups.{opens, double_quote, single_quote, plain}
use Rattle.vars_macros.proofs.WordsAlike.{begins_is}
use Rattle.vars_macros.proofs.SpelledWords.{gathering, IsFound, AreSymbolsOf, by_blank}

pub broken : (g : Gathering) (ss : List Symbol) (out : List (List ℕ)) → gathered g (Broken ∷ ss) ≡ Ok out → ⊥
unfolding gathered
broken g ss out h = let wrong : Err BadQuote ≡ Ok out = h in cc

letter : (ws : List (List ℕ)) (w : List ℕ) (begun : Bool) (b : ℕ) (ss : List Symbol) →
    gathered (gathering ws w begun) (Letter b ∷ ss) ≡ gathered (gathering ws (w ++ b ∷ []) true) ss
unfolding gathered
letter ws w begun b ss = refl

mark : (ws : List (List ℕ)) (w : List ℕ) (begun : Bool) (ss : List Symbol) → gathered (gathering ws w begun) (Mark ∷ ss) ≡ gathered (gathering ws w true) ss
unfolding gathered
mark ws w begun ss = refl

-- No quote is neither kind of quote.
not_double : (x y : Bool) → (x || y) ≡ false → x ≡ false
not_double true y is = is
not_double false y is = refl

not_single : (x y : Bool) → (x || y) ≡ false → y ≡ false
not_single true y is = absurd cc
not_single false y is = is

no_quote : (b : ℕ) → (b == 34) ≡ false → (b == 39) ≡ false → is_quote b ≡ false
no_quote b d s = rw (d, s) refl

-- Two double quotes are one; one alone is broken.
pair : (rest : List ℕ) → new_symbols false false (34 ∷ 34 ∷ rest) ≡ Letter 34 ∷ new_symbols false false rest
unfolding is_pair new_symbol grouped_after
pair rest = refl

lone : (grouped : Bool) (rest : List ℕ) → begins_with 34 rest ≡ false → new_symbol grouped 34 rest ≡ Broken
unfolding is_pair new_symbol
lone grouped rest is = rw is refl

pair_found : (grouped : Bool) (bs : List ℕ) (g : Gathering) (out : List (List ℕ)) → gathered g (new_symbols false grouped (34 ∷ bs)) ≡ Ok out → bs ≡ 34 ∷ drop 1 bs
pair_found grouped bs g out h = by_next (begins_with 34 bs) refl
  where
    by_next : (t : Bool) → begins_with 34 bs ≡ t → bs ≡ 34 ∷ drop 1 bs
    by_next true e = begins_is 34 bs e
    by_next false e =
        let behind = new_symbols (is_pair grouped 34 bs) (grouped_after grouped 34 bs) bs in
        absurd (broken g behind out (ap (λ (s : Symbol). gathered g (s ∷ behind)) (sym (lone grouped bs e)) ∙ h))

-- Groups.
closes : (rest : List ℕ) → begins_with 39 rest ≡ false → new_symbols false true (39 ∷ rest) ≡ Mark ∷ new_symbols false false rest
unfolding is_pair new_symbol grouped_after
closes rest is = rw is refl

-- a byte of a group, and what is after it
taken_on : (symbols : List ℕ → List Symbol) (b : ℕ) (text bytes rest : List ℕ) (ws : List (List ℕ)) (w : List ℕ) →
    gathered (gathering ws (w ++ b ∷ []) true) (symbols text) ≡ gathered (gathering ws ((w ++ b ∷ []) ++ bytes) true) (new_symbols false false rest) →
    gathered (gathering ws w true) (Letter b ∷ symbols text) ≡ gathered (gathering ws (w ++ b ∷ bytes) true) (new_symbols false false rest)
taken_on symbols b text bytes rest ws w h =
    letter ws w true b (symbols text) ∙ h ∙ ap (λ (x : List ℕ). gathered (gathering ws x true) (new_symbols false false rest)) (append_assoc w (b ∷ []) bytes)

group_read : {text bytes rest : List ℕ} → SpellsGroup text bytes rest → (ws : List (List ℕ)) (w : List ℕ) →
    gathered (gathering ws w true) (new_symbols false true text) ≡ gathered (gathering ws (w ++ bytes) true) (new_symbols false false rest)
group_read (group_end {rest = rest} last) ws w =
    ap (gathered (gathering ws w true)) (closes rest last) ∙ mark ws w true (new_symbols false false rest)
    ∙ ap (λ (x : List ℕ). gathered (gathering ws x true) (new_symbols false false rest)) (sym (append-nil w))
group_read (group_byte {text = text} {bytes = bytes} {rest = rest} b other further) ws w =
    ap (gathered (gathering ws w true)) (plain b text (not_double (b == 34) (b == 39) other) (not_single (b == 34) (b == 39) other))
    ∙ taken_on (new_symbols false true) b text bytes rest ws w (group_read further ws (w ++ b ∷ []))
group_read (group_double_quote {text = text} {bytes = bytes} {rest = rest} further) ws w =
    ap (gathered (gathering ws w true)) (double_quote text) ∙ taken_on (new_symbols false true) 34 text bytes rest ws w (group_read further ws (w ++ 34 ∷ []))
group_read (group_single_quote {text = text} {bytes = bytes} {rest = rest} further) ws w =
    ap (gathered (gathering ws w true)) (single_quote text) ∙ taken_on (new_symbols false true) 39 text bytes rest ws w (group_read further ws (w ++ 39 ∷ []))

group_open : (g : Gathering) (out : List (List ℕ)) → gathered g (new_symbols false true []) ≡ Ok out → ⊥
group_open g out h = broken g [] out h

behind_first : (b : ℕ) (bs : List ℕ) → bs ≡ b ∷ drop 1 bs → length (drop 1 bs) < length bs
behind_first b [] is = absurd cc
behind_first b (c ∷ cs) is = omega arith

-- a text within a group is read
abbrev ReadInGroup : List (List ℕ) → List (List ℕ) → List ℕ → List ℕ → Type 0
ReadInGroup ws out w text = gathered (gathering ws w true) (new_symbols false true text) ≡ Ok out

module _ (n : ℕ) (ws out : List (List ℕ)) (below : (text : List ℕ) → length text < n → (w : List ℕ) → ReadInGroup ws out w text → IsFound SpellsGroup text) where
  two_double : (text w : List ℕ) → length text < n → ReadInGroup ws out w (34 ∷ 34 ∷ text) → IsFound SpellsGroup (34 ∷ 34 ∷ text)
  two_double text w short h =
      let p = below text short (w ++ 34 ∷ []) (sym (letter ws w true 34 (new_symbols false true text)) ∙ ap (gathered (gathering ws w true)) (sym (double_quote text)) ∙ h) in
      (34 ∷ p.0, p.1, group_double_quote p.2, omega (arith, p.3))

  two_single : (text w : List ℕ) → length text < n → ReadInGroup ws out w (39 ∷ 39 ∷ text) → IsFound SpellsGroup (39 ∷ 39 ∷ text)
  two_single text w short h =
      let p = below text short (w ++ 39 ∷ []) (sym (letter ws w true 39 (new_symbols false true text)) ∙ ap (gathered (gathering ws w true)) (sym (single_quote text)) ∙ h) in
      (39 ∷ p.0, p.1, group_single_quote p.2, omega (arith, p.3))

  at_double : (bs w : List ℕ) → length bs < n → ReadInGroup ws out w (34 ∷ bs) → IsFound SpellsGroup (34 ∷ bs)
  at_double bs w short h =
      let split = pair_found true bs (gathering ws w true) out h in
      subst (λ (x : List ℕ). IsFound SpellsGroup (34 ∷ x)) (sym split)
      (two_double (drop 1 bs) w (omega (arith, behind_first 34 bs split)) (subst (λ (x : List ℕ). ReadInGroup ws out w (34 ∷ x)) split h))

  at_single : (bs w : List ℕ) (t : Bool) → begins_with 39 bs ≡ t → length bs < n → ReadInGroup ws out w (39 ∷ bs) → IsFound SpellsGroup (39 ∷ bs)
  at_single bs w true is short h =
      let split = begins_is 39 bs is in
      subst (λ (x : List ℕ). IsFound SpellsGroup (39 ∷ x)) (sym split)
      (two_single (drop 1 bs) w (omega (arith, behind_first 39 bs split)) (subst (λ (x : List ℕ). ReadInGroup ws out w (39 ∷ x)) split h))
  at_single bs w false is short h = ([], bs, group_end is, omega arith)

  at_byte : (b : ℕ) (bs w : List ℕ) (x y : Bool) → (b == 34) ≡ x → (b == 39) ≡ y → length bs < n → ReadInGroup ws out w (b ∷ bs) → IsFound SpellsGroup (b ∷ bs)
  at_byte b bs w true y d s short h =
      let is = eqb-true b 34 d in
      subst (λ (c : ℕ). IsFound SpellsGroup (c ∷ bs)) (sym is) (at_double bs w short (subst (λ (c : ℕ). ReadInGroup ws out w (c ∷ bs)) is h))
  at_byte b bs w false true d s short h =
      let is = eqb-true b 39 s in
      subst (λ (c : ℕ). IsFound SpellsGroup (c ∷ bs)) (sym is) (at_single bs w (begins_with 39 bs) refl short (subst (λ (c : ℕ). ReadInGroup ws out w (c ∷ bs)) is h))
  at_byte b bs w false false d s short h =
      let p = below bs short (w ++ b ∷ []) (sym (letter ws w true b (new_symbols false true bs)) ∙ ap (gathered (gathering ws w true)) (sym (plain b bs d s)) ∙ h) in
      (b ∷ p.0, p.1, group_byte b (no_quote b d s) p.2, omega (arith, p.3))

group_found : (n : ℕ) (text : List ℕ) → length text < n → (ws out : List (List ℕ)) (w : List ℕ) → ReadInGroup ws out w text → IsFound SpellsGroup text
group_found zero text short ws out w h = absurd (omega arith)
group_found (suc n) [] short ws out w h = absurd (group_open (gathering ws w true) out h)
group_found (suc n) (b ∷ bs) short ws out w h =
    at_byte n ws out (λ text less v is. group_found n text less ws out v is) b bs w (b == 34) (b == 39) refl refl (omega arith) h

-- New style.
outside : (b : ℕ) (rest : List ℕ) → is_space_or_tab b ≡ false → (b == 34) ≡ false → (b == 39) ≡ false → new_symbols false false (b ∷ rest) ≡ Letter b ∷ new_symbols false false rest
unfolding is_pair new_symbol grouped_after
outside b rest other d s = rw (d, s, other) refl

new_read : {text bytes rest : List ℕ} → SpellsNewPart text bytes rest → (ws : List (List ℕ)) (w : List ℕ) (begun : Bool) →
    gathered (gathering ws w begun) (new_symbols false false text) ≡ gathered (gathering ws (w ++ bytes) true) (new_symbols false false rest)
new_read (new_byte {rest = rest} b other quote) ws w begun =
    ap (gathered (gathering ws w begun)) (outside b rest other (not_double (b == 34) (b == 39) quote) (not_single (b == 34) (b == 39) quote))
    ∙ letter ws w begun b (new_symbols false false rest)
new_read (new_double_quote {rest = rest}) ws w begun = ap (gathered (gathering ws w begun)) (pair rest) ∙ letter ws w begun 34 (new_symbols false false rest)
new_read (new_group {text = text} inside) ws w begun =
    ap (gathered (gathering ws w begun)) (opens text) ∙ mark ws w begun (new_symbols false true text) ∙ group_read inside ws w

new_found : (b : ℕ) (bs : List ℕ) → is_space_or_tab b ≡ false → (ws : List (List ℕ)) (w : List ℕ) (begun : Bool) (out : List (List ℕ)) →
    gathered (gathering ws w begun) (new_symbols false false (b ∷ bs)) ≡ Ok out → IsFound SpellsNewPart (b ∷ bs)
new_found b bs other ws w begun out h = by_byte (b == 34) (b == 39) refl refl
  where
    double : gathered (gathering ws w begun) (new_symbols false false (34 ∷ bs)) ≡ Ok out → IsFound SpellsNewPart (34 ∷ bs)
    double is =
        let split = pair_found false bs (gathering ws w begun) out is in
        subst (λ (x : List ℕ). IsFound SpellsNewPart (34 ∷ x)) (sym split) (34 ∷ [], drop 1 bs, new_double_quote, omega arith)

    single : gathered (gathering ws w begun) (new_symbols false false (39 ∷ bs)) ≡ Ok out → IsFound SpellsNewPart (39 ∷ bs)
    single is =
        let p = group_found (suc (length bs)) bs (omega arith) ws out w (sym (mark ws w begun (new_symbols false true bs)) ∙ ap (gathered (gathering ws w begun)) (sym (opens bs)) ∙ is) in
        (p.0, p.1, new_group p.2, omega (arith, p.3))

    by_byte : (x y : Bool) → (b == 34) ≡ x → (b == 39) ≡ y → IsFound SpellsNewPart (b ∷ bs)
    by_byte true y d s =
        let is = eqb-true b 34 d in
        subst (λ (c : ℕ). IsFound SpellsNewPart (c ∷ bs)) (sym is) (double (subst (λ (c : ℕ). gathered (gathering ws w begun) (new_symbols false false (c ∷ bs)) ≡ Ok out) is h))
    by_byte false true d s =
        let is = eqb-true b 39 s in
        subst (λ (c : ℕ). IsFound SpellsNewPart (c ∷ bs)) (sym is) (single (subst (λ (c : ℕ). gathered (gathering ws w begun) (new_symbols false false (c ∷ bs)) ≡ Ok out) is h))
    by_byte false false d s = (b ∷ [], bs, new_byte b other (no_quote b d s), omega arith)

new_blank : (b : ℕ) (rest : List ℕ) → is_space_or_tab b ≡ true → new_symbols false false (b ∷ rest) ≡ Gap ∷ new_symbols false false rest
unfolding is_pair new_symbol grouped_after
new_blank b rest is = by_blank (λ (c : ℕ). new_symbols false false (c ∷ rest) ≡ Gap ∷ new_symbols false false rest) refl refl b is

pub new_symbols_are : AreSymbolsOf SpellsNewPart (new_symbols false false)
new_symbols_are = record { at_end = refl; at_blank = new_blank; at_part = new_read; found = new_found }

-- Old style.
escape : (rest : List ℕ) → old_symbols false (92 ∷ 34 ∷ rest) ≡ Letter 34 ∷ old_symbols false rest
unfolding is_quote_escape old_symbol
escape rest = refl

other_byte : (b : ℕ) (rest : List ℕ) → is_space_or_tab b ≡ false → (b == 92 && begins_with 34 rest) ≡ false → old_symbols false (b ∷ rest) ≡ Letter b ∷ old_symbols false rest
unfolding is_quote_escape old_symbol
other_byte b rest other no_escape = rw (no_escape, other) refl

old_read : {text bytes rest : List ℕ} → SpellsOldPart text bytes rest → (ws : List (List ℕ)) (w : List ℕ) (begun : Bool) →
    gathered (gathering ws w begun) (old_symbols false text) ≡ gathered (gathering ws (w ++ bytes) true) (old_symbols false rest)
old_read (old_double_quote {rest = rest}) ws w begun = ap (gathered (gathering ws w begun)) (escape rest) ∙ letter ws w begun 34 (old_symbols false rest)
old_read (old_byte {rest = rest} b other no_escape) ws w begun =
    ap (gathered (gathering ws w begun)) (other_byte b rest other no_escape) ∙ letter ws w begun b (old_symbols false rest)

old_part : (b : ℕ) (bs : List ℕ) → is_space_or_tab b ≡ false → IsFound SpellsOldPart (b ∷ bs)
old_part b bs other = by_escape (b == 92 && begins_with 34 bs) refl
  where
    by_escape : (t : Bool) → (b == 92 && begins_with 34 bs) ≡ t → IsFound SpellsOldPart (b ∷ bs)
    by_escape true e =
        let p = and_parts (b == 92) (begins_with 34 bs) e in
        rw (eqb-true b 92 p.0) (subst (λ (x : List ℕ). IsFound SpellsOldPart (92 ∷ x)) (sym (begins_is 34 bs p.1)) (34 ∷ [], drop 1 bs, old_double_quote, omega arith))
    by_escape false e = (b ∷ [], bs, old_byte b other e, omega arith)

old_blank : (b : ℕ) (rest : List ℕ) → is_space_or_tab b ≡ true → old_symbols false (b ∷ rest) ≡ Gap ∷ old_symbols false rest
unfolding is_quote_escape old_symbol
old_blank b rest is = by_blank (λ (c : ℕ). old_symbols false (c ∷ rest) ≡ Gap ∷ old_symbols false rest) refl refl b is

pub old_symbols_are : AreSymbolsOf SpellsOldPart (old_symbols false)
old_symbols_are = record { at_end = refl; at_blank = old_blank; at_part = old_read; found = λ b bs other ws w begun out h. old_part b bs other }
