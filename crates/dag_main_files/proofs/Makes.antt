-- Changes that are made one after another.
use Rattle.std.proofs.lemmas.List.{take-append-drop, map-append}
use Rattle.std.proofs.Common.{◌≡◌, ◌∙◌, ℕ, map, take, drop, List, [], ◌∷◌, ◌++◌, Result, Ok, Err, refl, sym, ap, append_assoc, append-nil}
use Rattle.std.specs.Prelude.{IsErrAnd, OnOk, OnErr}
use Rattle.dag_main_files.specs.Changes.{FileChange, AreBegun, Makes, AreSome, no_more, one_made, one_passed_over}

-- nothing is changed yet
pub begun-none : (whole before now : List FileChange) → now ≡ before → AreBegun whole before now
begun-none whole before now same = record { done = []; rest = whole; whole_is = refl; made = same ∙ sym (append-nil before) }

-- all is changed
pub begun-all : (whole before now : List FileChange) → now ≡ before ++ whole → AreBegun whole before now
begun-all whole before now made = record { done = whole; rest = []; whole_is = sym (append-nil whole); made = made }

-- the first of what is followed by more
pub begun-more : (first rest before now : List FileChange) → AreBegun first before now → AreBegun (first ++ rest) before now
begun-more first rest before now begun = record {
  done = begun.done;
  rest = begun.rest ++ rest;
  whole_is = ap (λ w. w ++ rest) begun.whole_is ∙ append_assoc begun.done begun.rest rest;
  made = begun.made;
}

-- the first of what comes after other changes
pub begun-after : (first rest before mid now : List FileChange) → mid ≡ before ++ first → AreBegun rest mid now → AreBegun (first ++ rest) before now
begun-after first rest before mid now made begun = record {
  done = first ++ begun.done;
  rest = begun.rest;
  whole_is = ap (λ r. first ++ r) begun.whole_is ∙ sym (append_assoc first begun.done begun.rest);
  made = begun.made ∙ ap (λ m. m ++ begun.done) made ∙ append_assoc before first begun.done;
}

-- all of these changes, and then all of those
pub made-after : (first rest before mid now : List FileChange) → mid ≡ before ++ first → now ≡ mid ++ rest → now ≡ before ++ (first ++ rest)
made-after first rest before mid now one other = other ∙ ap (λ m. m ++ rest) one ∙ append_assoc before first rest

-- what a call makes after other changes
pub makes-after : {A E : Type 0} (result : Result A E) (first rest before mid now : List FileChange) → mid ≡ before ++ first → Makes result rest mid now
    → Makes result (first ++ rest) before now
makes-after (Ok value) first rest before mid now made all = made-after first rest before mid now made all
makes-after (Err fault) first rest before mid now made begun = begun-after first rest before mid now made begun

-- what a refused call has begun
pub makes-refused : {A E : Type 0} (Q : E → Type 0) (result : Result A E) → IsErrAnd result Q → (whole before now : List FileChange) → AreBegun whole before now
    → Makes result whole before now
makes-refused Q (Ok value) bad whole before now begun = absurd bad
makes-refused Q (Err fault) refused whole before now begun = begun

-- whatever a call answers, it has begun what it makes
pub makes-begun : {A E : Type 0} (result : Result A E) (whole before now : List FileChange) → Makes result whole before now → AreBegun whole before now
makes-begun (Ok value) whole before now all = begun-all whole before now all
makes-begun (Err fault) whole before now begun = begun

-- all of these changes are made, whatever a call answers
pub makes-all : {A E : Type 0} (result : Result A E) (whole before now : List FileChange) → now ≡ before ++ whole → Makes result whole before now
makes-all (Ok value) whole before now made = made
makes-all (Err fault) whole before now made = begun-all whole before now made

-- a call that answers changes all or nothing
pub makes-all-or-none : {A E : Type 0} (result : Result A E) (whole before now : List FileChange) → OnOk result (now ≡ before ++ whole) → OnErr result (now ≡ before)
    → Makes result whole before now
makes-all-or-none (Ok value) whole before now all none = all
makes-all-or-none (Err fault) whole before now all none = begun-none whole before now none

-- all of some changes are some of them
pub some-all : (whole : List FileChange) → AreSome whole whole
some-all [] = no_more
some-all (entry ∷ whole) = one_made entry whole whole (some-all whole)

-- and so are none of them
pub some-none : (whole : List FileChange) → AreSome whole []
some-none [] = no_more
some-none (entry ∷ whole) = one_passed_over entry whole [] (some-none whole)

-- some of these, and then some of those
pub some-after : (first made rest more : List FileChange) → AreSome first made → AreSome rest more → AreSome (first ++ rest) (made ++ more)
some-after first made rest more no_more others = others
some-after first made rest more (one_made entry whole some is) others = one_made entry (whole ++ rest) (some ++ more) (some-after whole some rest more is others)
some-after first made rest more (one_passed_over entry whole some is) others = one_passed_over entry (whole ++ rest) (made ++ more) (some-after whole made rest more is others)

-- the first of changes that are each made of one of a list
pub begun-each : {X : Type 0} (change : X → FileChange) (xs : List X) (count : ℕ) (before now : List FileChange) → now ≡ before ++ map change (take count xs)
    → AreBegun (map change xs) before now
begun-each change xs count before now made = record {
  done = map change (take count xs);
  rest = map change (drop count xs);
  whole_is = ap (map change) (sym (take-append-drop count xs)) ∙ map-append change (take count xs) (drop count xs);
  made = made;
}
