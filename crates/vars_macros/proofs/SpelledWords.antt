-- Words that are spelled are gathered, and words that are gathered are spelled, in either style.
use Rattle.std.proofs.Common.{◌≡◌, ◌∙◌, sym, ap, refl, subst, ℕ, zero, suc, ◌<◌, ◌≤◌, ◌==◌, Bool, true, false, ◌||◌, List, [], ◌∷◌, ◌++◌, length, arith, Ok, append_assoc, append-nil}
use Rattle.std.proofs.lemmas.Bool.{eqb-true}
use Rattle.vars_macros.specs.Symbols.{gathered}
use Rattle.vars_macros.specs.ArgumentGrammar.{is_space_or_tab}
use Rattle.vars_macros.specs.Gathered.{Gathering}
use Rattle.vars_macros.specs.declared.words.Symbol.{Symbol}
use Rattle.vars_macros.specs.declared.words.Symbol.TheVariants.{Gap}
use Rattle.vars_macros.specs.ArgumentGrammar.{SpellsWord, last_part, part, ends_word, SpellsWords, end, blank, word}

-- the words that are over, and the word that has begun
abbrev pub gathering : List (List ℕ) → List ℕ → Bool → Gathering
gathering ws w begun = record { words = ws; word = w; begun = begun }

-- what begins a text, of one byte or more
abbrev pub IsFound : (List ℕ → List ℕ → List ℕ → Type 0) → List ℕ → Type 0
IsFound Spells text = (bytes : List ℕ) × (rest : List ℕ) × Spells text bytes rest × (length rest < length text)

-- The symbols of a style are those of its parts and blanks, and none where the text is over.
pub record AreSymbolsOf (Part : List ℕ → List ℕ → List ℕ → Type 0) (symbols : List ℕ → List Symbol) : Type 0 where
  pub at_end : symbols [] ≡ []
  pub at_blank : (b : ℕ) (rest : List ℕ) → is_space_or_tab b ≡ true → symbols (b ∷ rest) ≡ Gap ∷ symbols rest
  pub at_part : {text bytes rest : List ℕ} → Part text bytes rest → (ws : List (List ℕ)) (w : List ℕ) (begun : Bool) →
      gathered (gathering ws w begun) (symbols text) ≡ gathered (gathering ws (w ++ bytes) true) (symbols rest)
  pub found : (b : ℕ) (bs : List ℕ) → is_space_or_tab b ≡ false → (ws : List (List ℕ)) (w : List ℕ) (begun : Bool) (out : List (List ℕ)) →
      gathered (gathering ws w begun) (symbols (b ∷ bs)) ≡ Ok out → IsFound Part (b ∷ bs)

-- a blank is a space or a tab
pub by_blank : (P : ℕ → Type 0) → P 32 → P 9 → (b : ℕ) → is_space_or_tab b ≡ true → P b
by_blank P space tab b is = by_byte (b == 32) refl
  where
    by_byte : (t : Bool) → (b == 32) ≡ t → P b
    by_byte true e = subst P (sym (eqb-true b 32 e)) space
    by_byte false e =
        let other : (b == 9) ≡ true = sym (ap (λ (t : Bool). t || b == 9) e) ∙ is in
        subst P (sym (eqb-true b 9 other)) tab

no_symbols : (ws : List (List ℕ)) (w : List ℕ) → gathered (gathering ws w true) [] ≡ gathered (gathering (ws ++ w ∷ []) [] false) []
unfolding gathered
no_symbols ws w = refl

gap : (ws : List (List ℕ)) (w : List ℕ) (ss : List Symbol) → gathered (gathering ws w true) (Gap ∷ ss) ≡ gathered (gathering (ws ++ w ∷ []) [] false) (Gap ∷ ss)
unfolding gathered
gap ws w ss = refl

further_gap : (ws : List (List ℕ)) (ss : List Symbol) → gathered (gathering ws [] false) (Gap ∷ ss) ≡ gathered (gathering ws [] false) ss
unfolding gathered
further_gap ws ss = refl

nothing : (ws : List (List ℕ)) → gathered (gathering ws [] false) [] ≡ Ok ws
unfolding gathered
nothing ws = refl

module _ (Part : List ℕ → List ℕ → List ℕ → Type 0) (symbols : List ℕ → List Symbol) (are : AreSymbolsOf Part symbols) where
  word_read : {text bytes rest : List ℕ} → SpellsWord Part text bytes rest → (ws : List (List ℕ)) (w : List ℕ) (begun : Bool) →
      gathered (gathering ws w begun) (symbols text) ≡ gathered (gathering ws (w ++ bytes) true) (symbols rest)
  word_read (last_part p) ws w begun = are.at_part p ws w begun
  word_read (part {bytes = bytes} {more = more} {rest = rest} p further) ws w begun =
      are.at_part p ws w begun ∙ word_read further ws (w ++ bytes) true
      ∙ ap (λ (x : List ℕ). gathered (gathering ws x true) (symbols rest)) (append_assoc w bytes more)

  word_over : (rest : List ℕ) → ends_word rest ≡ true → (ws : List (List ℕ)) (w : List ℕ) →
      gathered (gathering ws w true) (symbols rest) ≡ gathered (gathering (ws ++ w ∷ []) [] false) (symbols rest)
  word_over [] over ws w = rw are.at_end (no_symbols ws w)
  word_over (b ∷ bs) over ws w = rw (are.at_blank b bs over) (gap ws w (symbols bs))

  -- a word and its end
  whole_word : {text bytes rest : List ℕ} → SpellsWord Part text bytes rest → ends_word rest ≡ true → (ws : List (List ℕ)) →
      gathered (gathering ws [] false) (symbols text) ≡ gathered (gathering (ws ++ bytes ∷ []) [] false) (symbols rest)
  whole_word {bytes = bytes} {rest = rest} spells over ws = word_read spells ws [] false ∙ word_over rest over ws bytes

  pub words_read : {text : List ℕ} {words : List (List ℕ)} → SpellsWords Part text words → (ws : List (List ℕ)) →
      gathered (gathering ws [] false) (symbols text) ≡ Ok (ws ++ words)
  words_read end ws = rw are.at_end (nothing ws ∙ ap (λ (x : List (List ℕ)). Ok x) (sym (append-nil ws)))
  words_read (blank {text = text} b is further) ws =
      ap (gathered (gathering ws [] false)) (are.at_blank b text is) ∙ further_gap ws (symbols text) ∙ words_read further ws
  words_read (word {bytes = bytes} {words = words} spells over further) ws =
      whole_word spells over ws ∙ words_read further (ws ++ bytes ∷ [])
      ∙ ap (λ (x : List (List ℕ)). Ok x) (append_assoc ws (bytes ∷ []) words)

  -- a word that begins a text, and its end
  IsWordFound : List ℕ → Type 0
  IsWordFound text = (bytes : List ℕ) × (rest : List ℕ) × SpellsWord Part text bytes rest × (length rest < length text) × (ends_word rest ≡ true)

  -- a word that begins a shorter text
  IsWordFoundBelow : ℕ → List (List ℕ) → List (List ℕ) → Type 0
  IsWordFoundBelow n ws out = (b : ℕ) (bs : List ℕ) → length bs < n → is_space_or_tab b ≡ false → (w : List ℕ) →
      gathered (gathering ws w true) (symbols (b ∷ bs)) ≡ Ok out → IsWordFound (b ∷ bs)

  -- a part that begins a text, and what its word has after it
  from_part : (n : ℕ) (text bytes rest : List ℕ) → length rest ≤ n → Part text bytes rest → length rest < length text →
      (ws : List (List ℕ)) (w : List ℕ) (out : List (List ℕ)) → IsWordFoundBelow n ws out → gathered (gathering ws w true) (symbols rest) ≡ Ok out → IsWordFound text
  unfolding IsWordFound IsWordFoundBelow
  from_part n text bytes [] short p less ws w out below h = (bytes, [], last_part p, less, refl)
  from_part n text bytes (c ∷ cs) short p less ws w out below h = by_byte (is_space_or_tab c) refl
    where
      by_byte : (t : Bool) → is_space_or_tab c ≡ t → IsWordFound text
      by_byte true e = (bytes, c ∷ cs, last_part p, less, e)
      by_byte false e =
          let further : IsWordFound (c ∷ cs) = below c cs (omega arith) e w h in
          (bytes ++ further.0, further.1, part p further.2, omega (arith, further.3), further.4)

  word_found : (n b : ℕ) (bs : List ℕ) → length bs < n → is_space_or_tab b ≡ false → (ws : List (List ℕ)) (w : List ℕ) (begun : Bool) (out : List (List ℕ)) →
      gathered (gathering ws w begun) (symbols (b ∷ bs)) ≡ Ok out → IsWordFound (b ∷ bs)
  unfolding IsWordFoundBelow
  word_found zero b bs short other ws w begun out h = absurd (omega arith)
  word_found (suc n) b bs short other ws w begun out h =
      let p = are.found b bs other ws w begun out h in
      from_part n (b ∷ bs) p.0 p.1 (omega (arith, p.3)) p.2 p.3 ws (w ++ p.0) out (λ c cs less e v is. word_found n c cs less e ws v true out is)
      (sym (are.at_part p.2 ws w begun) ∙ h)

  -- the words of a text, after those that are over
  AreFound : List ℕ → List (List ℕ) → List (List ℕ) → Type 0
  AreFound text ws out = (words : List (List ℕ)) × (out ≡ ws ++ words) × SpellsWords Part text words

  -- the words of shorter texts
  AreFoundBelow : ℕ → List (List ℕ) → Type 0
  AreFoundBelow n out = (text : List ℕ) → length text < n → (ws : List (List ℕ)) → gathered (gathering ws [] false) (symbols text) ≡ Ok out → AreFound text ws out

  from_blank : (n b : ℕ) (bs : List ℕ) (ws out : List (List ℕ)) → length (b ∷ bs) < suc n → is_space_or_tab b ≡ true → AreFoundBelow n out →
      gathered (gathering ws [] false) (symbols (b ∷ bs)) ≡ Ok out → AreFound (b ∷ bs) ws out
  unfolding AreFound AreFoundBelow
  from_blank n b bs ws out short is below h =
      let p = below bs (omega arith) ws (sym (further_gap ws (symbols bs)) ∙ ap (gathered (gathering ws [] false)) (sym (are.at_blank b bs is)) ∙ h) in
      (p.0, p.1, blank b is p.2)

  from_word : (n b : ℕ) (bs : List ℕ) (ws out : List (List ℕ)) → length (b ∷ bs) < suc n → is_space_or_tab b ≡ false → AreFoundBelow n out →
      gathered (gathering ws [] false) (symbols (b ∷ bs)) ≡ Ok out → AreFound (b ∷ bs) ws out
  unfolding AreFound IsWordFound AreFoundBelow
  from_word n b bs ws out short other below h =
      let first = word_found (suc (length bs)) b bs (omega arith) other ws [] false out h in
      let p = below first.1 (omega (arith, first.3)) (ws ++ first.0 ∷ []) (sym (whole_word first.2 first.4 ws) ∙ h) in
      (first.0 ∷ p.0, p.1 ∙ append_assoc ws (first.0 ∷ []) p.0, word first.2 first.4 p.2)

  all_found : (n : ℕ) (text : List ℕ) → length text < n → (ws out : List (List ℕ)) → gathered (gathering ws [] false) (symbols text) ≡ Ok out → AreFound text ws out
  unfolding AreFound AreFoundBelow
  all_found zero text short ws out h = absurd (omega arith)
  all_found (suc n) [] short ws out h =
      let same : Ok ws ≡ Ok out = sym (nothing ws) ∙ ap (gathered (gathering ws [] false)) (sym are.at_end) ∙ h in
      let is : out ≡ ws = cc in
      ([], is ∙ sym (append-nil ws), end)
  all_found (suc n) (b ∷ bs) short ws out h = by_byte (is_space_or_tab b) refl (λ text less vs is. all_found n text less vs out is)
    where
      by_byte : (t : Bool) → is_space_or_tab b ≡ t → AreFoundBelow n out → AreFound (b ∷ bs) ws out
      by_byte true e below = from_blank n b bs ws out short e below h
      by_byte false e below = from_word n b bs ws out short e below h

  pub words_found : (text : List ℕ) (words : List (List ℕ)) → gathered (gathering [] [] false) (symbols text) ≡ Ok words → SpellsWords Part text words
  unfolding AreFound
  words_found text words h =
      let p = all_found (suc (length text)) text (omega arith) [] words h in
      subst (λ (x : List (List ℕ)). SpellsWords Part text x) (sym p.1) p.2
