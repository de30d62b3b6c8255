-- The names that the lines of a file declare: words without a plus, and no two of one kind the same.
use Rattle.std.proofs.Common.{◌≡◌, ◌≢◌, ℕ, ◌<◌, ◌≤◌, Bool, true, false, not, nat_eq, nat_le, List, [], ◌∷◌, ◌++◌, length, Result, Ok, Err, refl, sym, ap, subst, ◌∙◌, bytes_eq, IsUtf8}
use Rattle.std.proofs.lemmas.Bool.{true≢false, and_parts, or_parts, leb-true, not-true}
use Rattle.std.proofs.lemmas.Grind.{flat_map-append}
use Rattle.std.proofs.lemmas.List.{append-nil, map-append}
use Rattle.std.proofs.lemmas.List.Elements.{All-nil, All-cons, All-head, All-tail, All-append, All-weaker}
use Rattle.std.proofs.lemmas.Slice.Eq.{bytes_eq-Decides}
use Rattle.std.specs.List.{All, flat_map, list_any}
use Rattle.dag_reader.specs.declared.command.Command.{Command}
use Rattle.dag_reader.specs.declared.command.Command.TheVariants.{Job, Splice}
use Rattle.dag_reader.specs.Lines.{is_control}
use Rattle.dag_reader.specs.Word.{PlacedText}
use Rattle.dag_reader.specs.Words.{is_blank}
use Rattle.dag_reader.specs.Keywords.{joins_names, is_name}
use Rattle.dag_reader.specs.Grammar.{SayAll}
use Rattle.dag_reader.proofs.Named.{Declares, IsDeclared, each_declared}
use Rattle.splices_flat.specs.declared.fault.DagFault.{DagFault}
use Rattle.splices_flat.specs.Nodes.{Declared, job_in, jobs_in, names_in, job_names, final_names, splice_name, splice_names}
use Rattle.splices_flat.specs.Opening.{◌>>=◌, is_declared, once, check_line, check_lines}
use Rattle.rescue_file.proofs.PlainWords.{IsWord, line_words}

pub record IsPlain (name : List ℕ) : Type 0 where
  pub some : 0 < length name
  pub short : length name ≤ 255
  pub utf8 : IsUtf8 name
  pub solid : All (λ b. is_blank b ≡ false) name
  pub clear : All (λ b. is_control b ≡ false) name
  pub alone : All (λ b. nat_eq b 43 ≡ false) name

none_passes : {X : Type 0} (p : X → Bool) (xs : List X) → list_any p xs ≡ false → All (λ x. p x ≡ false) xs
none_passes p [] is = All-nil (λ x. p x ≡ false)
none_passes p (x ∷ xs) is = let both = or_parts (p x) (list_any p xs) is in All-cons (λ y. p y ≡ false) x xs both.0 (none_passes p xs both.1)

plain_name : (w : PlacedText) → IsWord w.text → is_name w ≡ true → IsPlain w.text
unfolding is_name
plain_name w word named =
    let a = and_parts (nat_le (length w.text) 255) _ named in
    let b = and_parts (not (list_any joins_names w.text)) _ a.1 in
    record {
      some = word.some;
      short = leb-true _ _ a.0;
      utf8 = word.utf8;
      solid = word.solid;
      clear = word.clear;
      alone = All-weaker (λ c. joins_names c ≡ false) (λ c. nat_eq c 43 ≡ false) (λ c is. (or_parts (nat_eq c 46) (nat_eq c 43) is).1) w.text
          (none_passes joins_names w.text (not-true (list_any joins_names w.text) b.0));
    }

-- the names that a command declares
abbrev job_name : Command → List (List ℕ)
job_name c = names_in (job_in c)

abbrev ArePlain : Command → Type 0
ArePlain c = All IsPlain (job_name c) × All IsPlain (splice_name c)

second_word : (k name : PlacedText) (ws more : List PlacedText) → ws ≡ k ∷ name ∷ more → All (λ w. IsWord w.text) ws → IsWord name.text
second_word k name ws more e all =
    let here = subst (All (λ (w : PlacedText). IsWord w.text)) e all in
    All-head (λ (w : PlacedText). IsWord w.text) name more (All-tail (λ (w : PlacedText). IsWord w.text) k (name ∷ more) here)

just : (name : List ℕ) → IsPlain name → All IsPlain (name ∷ [])
just name plain = All-cons IsPlain name [] plain (All-nil IsPlain)

no_names : All IsPlain [] × All IsPlain []
no_names = (All-nil IsPlain, All-nil IsPlain)

declared_plain : (c : Command) (first : PlacedText) (ws : List PlacedText) → Declares c ws → All (λ w. IsWord w.text) (first ∷ ws) → ArePlain c
declared_plain (Job name file dir noop done) first ws (more, e, named) all =
    (just name.text (plain_name name (second_word first name (first ∷ ws) more (ap (λ (xs : List PlacedText). first ∷ xs) e) all) named), All-nil IsPlain)
declared_plain (Splice name file dir) first ws (more, e, named) all =
    (All-nil IsPlain, just name.text (plain_name name (second_word first name (first ∷ ws) more (ap (λ (xs : List PlacedText). first ∷ xs) e) all) named))
declared_plain c first ws says all = no_names

pub jobs_are : (cs : List Command) → job_names cs ≡ flat_map job_name cs
jobs_are [] = refl
jobs_are (c ∷ cs) = map-append (λ (d : Declared). d.name.text) (job_in c) (jobs_in cs) ∙ ap (λ (ns : List (List ℕ)). job_name c ++ ns) (jobs_are cs)

abbrev AllPlain : List Command → Type 0
AllPlain cs = All IsPlain (flat_map job_name cs) × All IsPlain (splice_names cs)

all_plain : (cs : List Command) → All IsDeclared cs → AllPlain cs
all_plain [] all = no_names
all_plain (c ∷ cs) all =
    let (number, line, first, ws, text, is, says) = All-head IsDeclared c cs all in
    let here = declared_plain c first ws says (subst (λ (xs : List PlacedText). All (λ w. IsWord w.text) xs) is (line_words number line text)) in
    let later = all_plain cs (All-tail IsDeclared c cs all) in
    (All-append IsPlain (job_name c) (flat_map job_name cs) here.0 later.0, All-append IsPlain (splice_name c) (splice_names cs) here.1 later.1)

pub names_plain : (number : ℕ) (ls : List (List ℕ)) (cs : List Command) → SayAll number ls cs → All IsPlain (job_names cs) × All IsPlain (splice_names cs)
names_plain number ls cs says = let p = all_plain cs (each_declared number ls cs says) in (subst (All IsPlain) (sym (jobs_are cs)) p.0, p.1)

-- Lists of names that differ.
abbrev pub Others : List (List ℕ) → List ℕ → Type 0
Others names name = All (λ other. name ≢ other) names

abbrev pub AreNew : List (List ℕ) → List (List ℕ) → Type 0
AreNew old new = All (Others old) new

abbrev pub AreApart : List (List ℕ) → Type 0
AreApart [] = Unit {0}
AreApart (name ∷ names) = Others names name × AreApart names

pub left_of : {X : Type 0} (P : X → Type 0) (xs ys : List X) → All P (xs ++ ys) → All P xs
left_of P [] ys all = All-nil P
left_of P (x ∷ xs) ys all = All-cons P x xs (All-head P x (xs ++ ys) all) (left_of P xs ys (All-tail P x (xs ++ ys) all))

pub right_of : {X : Type 0} (P : X → Type 0) (xs ys : List X) → All P (xs ++ ys) → All P ys
right_of P [] ys all = all
right_of P (x ∷ xs) ys all = right_of P xs ys (All-tail P x (xs ++ ys) all)

pub apart_append : (xs ys : List (List ℕ)) → AreApart xs → AreApart ys → AreNew xs ys → AreApart (xs ++ ys)
apart_append [] ys front back new = back
apart_append (x ∷ xs) ys (here, front) back new = (
  All-append (λ y. x ≢ y) xs ys here (All-weaker (Others (x ∷ xs)) (λ y. x ≢ y) (λ y differ e. All-head (λ o. y ≢ o) x xs differ (sym e)) ys new),
  apart_append xs ys front back (All-weaker (Others (x ∷ xs)) (Others xs) (λ y differ. All-tail (λ o. y ≢ o) x xs differ) ys new),
)

pub then_ok : {A B : Type 0} (r : Result A DagFault) (f : A → Result B DagFault) (b : B) → (r >>= f) ≡ Ok b → (a : A) × (r ≡ Ok a) × (f a ≡ Ok b)
then_ok (Ok a) f b is = (a, refl, is)
then_ok (Err e) f b is = absurd cc

-- Names that are declared once.
module _ (names : Command → List (List ℕ)) (path : List ℕ)
    (each : (before : List Command) (c : Command) → check_line path before c ≡ Ok tt → AreNew (flat_map names before) (names c) × AreApart (names c)) where
  declared_apart : (before cs : List Command) → check_lines path before cs ≡ Ok tt → AreNew (flat_map names before) (flat_map names cs) × AreApart (flat_map names cs)
  declared_apart before [] is = (All-nil (Others (flat_map names before)), tt)
  declared_apart before (c ∷ cs) is =
      let checked = then_ok (check_line path before c) (λ _. check_lines path (before ++ c ∷ []) cs) tt is in
      let here = each before c checked.1 in
      let later = declared_apart (before ++ c ∷ []) cs checked.2 in
      let old = flat_map names before in
      let rest = flat_map names cs in
      let seen : flat_map names (before ++ c ∷ []) ≡ old ++ names c = flat_map-append names before (c ∷ []) ∙ ap (λ (ns : List (List ℕ)). old ++ ns) (append-nil (names c)) in
      let new : AreNew (old ++ names c) rest = subst (λ (ns : List (List ℕ)). AreNew ns rest) seen later.0 in (
        All-append (Others old) (names c) rest here.0 (All-weaker (Others (old ++ names c)) (Others old) (λ n differ. left_of (λ o. n ≢ o) old (names c) differ) rest new),
        apart_append (names c) rest here.1 later.1 (All-weaker (Others (old ++ names c)) (Others (names c)) (λ n differ. right_of (λ o. n ≢ o) old (names c) differ) rest new),
      )

other_names : (name : List ℕ) (old : List (List ℕ)) → list_any (bytes_eq name) old ≡ false → Others old name
other_names name old is = All-weaker (λ o. bytes_eq name o ≡ false) (λ o. name ≢ o) (λ o no e. true≢false (sym ((bytes_eq-Decides name o).1 e) ∙ no)) old (none_passes (bytes_eq name) old is)

only_name : (name : List ℕ) (old : List (List ℕ)) → Others old name → AreNew old (name ∷ []) × AreApart (name ∷ [])
only_name name old differ = (All-cons (Others old) name [] differ (All-nil (Others old)), (All-nil (λ o. name ≢ o), tt))

not_taken : (taken : Bool) (path : List ℕ) (name : PlacedText) → once taken path name ≡ Ok tt → taken ≡ false
not_taken true path name is = absurd cc
not_taken false path name is = refl

no_name : (old : List (List ℕ)) → AreNew old [] × AreApart []
no_name old = (All-nil (Others old), tt)

new_job : (path : List ℕ) (before : List Command) (c : Command) → check_line path before c ≡ Ok tt → AreNew (flat_map job_name before) (job_name c) × AreApart (job_name c)
new_job path before (Job name file dir noop done) is =
    let free = or_parts (list_any (bytes_eq name.text) (job_names before)) _ (not_taken (is_declared before name) path name is) in
    only_name name.text (flat_map job_name before) (subst (λ (ns : List (List ℕ)). Others ns name.text) (jobs_are before) (other_names name.text (job_names before) free.0))
new_job path before c is = no_name (flat_map job_name before)

new_splice : (path : List ℕ) (before : List Command) (c : Command) → check_line path before c ≡ Ok tt → AreNew (splice_names before) (splice_name c) × AreApart (splice_name c)
new_splice path before (Splice name file dir) is =
    let free = or_parts (list_any (bytes_eq name.text) (job_names before)) _ (not_taken (is_declared before name) path name is) in
    let other = or_parts (list_any (bytes_eq name.text) (final_names before)) _ free.1 in
    only_name name.text (splice_names before) (other_names name.text (splice_names before) other.1)
new_splice path before c is = no_name (splice_names before)

pub names_apart : (path : List ℕ) (cs : List Command) → check_lines path [] cs ≡ Ok tt → AreApart (job_names cs) × AreApart (splice_names cs)
names_apart path cs is = (
  subst AreApart (sym (jobs_are cs)) (declared_apart job_name path (new_job path) [] cs is).1,
  (declared_apart splice_name path (new_splice path) [] cs is).1,
)
