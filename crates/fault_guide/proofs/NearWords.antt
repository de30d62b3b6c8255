-- The nearest of some words, one word more.
use Rattle.std.proofs.Common.{◌≡◌, ◌+◌, ◌-◌, ◌<◌, ◌≤◌, ℕ, List, [], ◌∷◌, ◌++◌, Bor, Option, Some, None, map, take, get_or, length, arith, refl, sym, ap, subst, ◌∙◌, append_assoc}
use Rattle.std.specs.Prelude.{All}
use Rattle.std.proofs.lemmas.List.{take_more, map_push}
use Rattle.std.proofs.lemmas.List.Elements.{All-nil, All-cons, All-push, All-append, All-weaker}
use Rattle.fault_guide.specs.Near.{edits_between, most_edits, IsNear, IsFarther, IsNoNearer, IsFirstNearest, IsNearest}

-- how many edits the next word must be below
abbrev pub IsLeast : List ℕ → Option (List ℕ) → ℕ → Type 0
IsLeast word None least = least ≡ most_edits word + 1
IsLeast word (Some found) least = least ≡ edits_between word found

-- the nearest word so far
pub record IsSoFar (word : List ℕ) (words : List (List ℕ)) (found : Option (List ℕ)) (least : ℕ) : Type 0 where
  pub nearest : IsNearest word words found
  pub least_is : IsLeast word found least

pub none-yet : (word : List ℕ) (least : ℕ) → least ≡ most_edits word + 1 → IsSoFar word [] None least
none-yet word least at = record { nearest = All-nil (λ other. ¬ (IsNear word other)); least_is = at }

-- a word that is not near, or no nearer
pub passed : (word : List ℕ) (words : List (List ℕ)) (found : Option (List ℕ)) (least : ℕ) (other : List ℕ) → (IsNear word other → least ≤ edits_between word other)
    → IsSoFar word words found least → IsSoFar word (words ++ other ∷ []) found least
passed word words None least other far so_far =
    let at : least ≡ most_edits word + 1 = so_far.least_is in
    record {
      nearest = All-push (λ o. ¬ (IsNear word o)) words other so_far.nearest
          (λ near. let few : edits_between word other ≤ most_edits word = near.few in let over : least ≤ edits_between word other = far near in omega arith);
      least_is = at;
    }
passed word words (Some found) least other far so_far =
    let at : least ≡ edits_between word found = so_far.least_is in
    let one : IsFirstNearest word words found = so_far.nearest in
    record {
      nearest = record {
        before = one.before;
        behind = one.behind ++ other ∷ [];
        stands = ap (λ (ws : List (List ℕ)). ws ++ other ∷ []) one.stands ∙ append_assoc one.before (found ∷ one.behind) (other ∷ []);
        near = one.near;
        farther = one.farther;
        no_nearer = All-push (IsNoNearer word found) one.behind other one.no_nearer (λ close. let over : least ≤ edits_between word other = far close in omega arith);
      };
      least_is = at;
    }

-- all words so far are farther away than one that is nearer than the nearest
farther-than : (word : List ℕ) (words : List (List ℕ)) (found : Option (List ℕ)) (least : ℕ) (other : List ℕ) → IsNear word other → edits_between word other < least
    → IsSoFar word words found least → All (IsFarther word other) words
farther-than word words None least other near less so_far =
    All-weaker (λ o. ¬ (IsNear word o)) (IsFarther word other) (λ o no close. absurd (no close)) words so_far.nearest
farther-than word words (Some found) least other near less so_far =
    let at : least ≡ edits_between word found = so_far.least_is in
    let one : IsFirstNearest word words found = so_far.nearest in
    let lower : edits_between word other < edits_between word found = omega arith in
    let behind : All (IsFarther word other) one.behind =
    All-weaker (IsNoNearer word found) (IsFarther word other) (λ o no close. let over : edits_between word found ≤ edits_between word o = no close in omega arith) one.behind one.no_nearer in
    let before : All (IsFarther word other) one.before =
    All-weaker (IsFarther word found) (IsFarther word other) (λ o far close. let over : edits_between word found < edits_between word o = far close in omega arith) one.before one.farther in
    subst (All (IsFarther word other)) (sym one.stands)
    (All-append (IsFarther word other) one.before (found ∷ one.behind) before (All-cons (IsFarther word other) found one.behind (λ close. lower) behind))

pub picked : (word : List ℕ) (words : List (List ℕ)) (found : Option (List ℕ)) (least edits : ℕ) (other : List ℕ) → IsNear word other → edits ≡ edits_between word other
    → edits < least → IsSoFar word words found least → IsSoFar word (words ++ other ∷ []) (Some other) edits
picked word words found least edits other near is less so_far = record {
  nearest = record {
    before = words;
    behind = [];
    stands = refl;
    near = near;
    farther = farther-than word words found least other near (omega arith) so_far;
    no_nearer = All-nil (IsNoNearer word other);
  };
  least_is = is;
}

-- a word that is nearer than the least is near
pub near-enough : (word : List ℕ) (words : List (List ℕ)) (found : Option (List ℕ)) (least edits : ℕ) (other : List ℕ) → IsSoFar word words found least
    → edits ≡ edits_between word other → edits < least → length other ≤ length word + most_edits word → length word ≤ length other + most_edits word → IsNear word other
near-enough word words None least edits other so_far is less longer shorter =
    let at : least ≡ most_edits word + 1 = so_far.least_is in
    record { few = omega arith; no_longer = longer; no_shorter = shorter }
near-enough word words (Some found) least edits other so_far is less longer shorter =
    let at : least ≡ edits_between word found = so_far.least_is in
    let one : IsFirstNearest word words found = so_far.nearest in
    let few : edits_between word found ≤ most_edits word = one.near.few in
    record { few = omega arith; no_longer = longer; no_shorter = shorter }

-- the words as they are lent, one more
abbrev pub lent_words : List (Bor (List ℕ)) → List (List ℕ)
lent_words words = map (λ (w : Bor (List ℕ)). w.now) words

lent-more : (words : List (Bor (List ℕ))) (i : ℕ) (d : Bor (List ℕ)) → i < length words → lent_words (take (i + 1) words) ≡ lent_words (take i words) ++ (get_or words i d).now ∷ []
lent-more words i d less =
    ap lent_words (take_more words i d less) ∙ map_push (λ (w : Bor (List ℕ)). w.now) (take i words) (get_or words i d)

module _ (word : List ℕ) (words : List (Bor (List ℕ))) (i : ℕ) (d : Bor (List ℕ)) (less : i < length words) (found : Option (List ℕ)) (least most apart : ℕ)
    (most_is : most ≡ most_edits word) (apart_is : apart ≡ (length (get_or words i d).now - length word) + (length word - length (get_or words i d).now))
    (so_far : IsSoFar word (lent_words (take i words)) found least) where
  more-passed : (IsNear word (get_or words i d).now → least ≤ edits_between word (get_or words i d).now) → IsSoFar word (lent_words (take (i + 1) words)) found least
  more-passed far =
      subst (λ (ws : List (List ℕ)). IsSoFar word ws found least) (sym (lent-more words i d less)) (passed word (lent_words (take i words)) found least (get_or words i d).now far so_far)

  pub passed-apart : most < apart → IsSoFar word (lent_words (take (i + 1) words)) found least
  passed-apart over = more-passed (λ near. let longer = near.no_longer in let shorter = near.no_shorter in absurd (omega (arith, longer, shorter)))

  pub passed-edits : (edits : ℕ) → edits ≡ edits_between word (get_or words i d).now → least ≤ edits → IsSoFar word (lent_words (take (i + 1) words)) found least
  passed-edits edits is over = more-passed (λ near. omega arith)

  pub picked-one : (edits : ℕ) → edits ≡ edits_between word (get_or words i d).now → edits < least → apart ≤ most → IsSoFar word (lent_words (take (i + 1) words)) (Some (get_or words i d).now) edits
  picked-one edits is under close =
      subst (λ (ws : List (List ℕ)). IsSoFar word ws (Some (get_or words i d).now) edits) (sym (lent-more words i d less))
      (picked word (lent_words (take i words)) found least edits (get_or words i d).now
      (near-enough word (lent_words (take i words)) found least edits (get_or words i d).now so_far is under (omega arith) (omega arith)) is under so_far)
