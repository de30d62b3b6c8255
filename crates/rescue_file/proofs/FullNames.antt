-- The full names of the nodes of opened files.
use Rattle.std.proofs.Common.{◌≡◌, ◌≢◌, ℕ, zero, suc, ◌+◌, ◌*◌, ◌<◌, ◌≤◌, false, nat_eq, List, [], ◌∷◌, ◌++◌, length, map, get_or, refl, sym, ap, subst, ◌∙◌, arith, append_assoc, IsUtf8, length-append}
use Rattle.std.proofs.lemmas.Bool.{true≢false}
use Rattle.std.proofs.lemmas.Grind.{flat_map-append}
use Rattle.std.proofs.lemmas.List.{map-append, append_cancel_left}
use Rattle.std.proofs.lemmas.List.Elements.{All-nil, All-cons, All-head, All-tail, All-append, All-weaker, All-map}
use Rattle.std.proofs.lemmas.Str.{IsUtf8-append, IsUtf8-from_ascii}
use Rattle.std.proofs.lemmas.Str.Ascii.{IsAscii-cons, IsAscii-nil}
use Rattle.std.specs.List.{All, flat_map}
use Rattle.dag_reader.specs.Lines.{is_control}
use Rattle.dag_reader.specs.Words.{is_blank}
use Rattle.splices_flat.specs.declared.flat.FlatNode.{FlatNode}
use Rattle.splices_flat.specs.declared.flat.Settings.{Settings}
use Rattle.splices_flat.specs.Nodes.{Declared, names_in, job_names, jobs_in, declared_nodes}
use Rattle.splices_flat.specs.Forest.{ParsedFile, Forest, none, more, OpenFile, inside, opened_as, forest_files, job_nodes}
use Rattle.rescue_file.proofs.PlainNames.{IsPlain, Others, AreNew, AreApart, right_of, apart_append}

-- The names of splices, and those of nodes seen from the file that holds the splices.
abbrev pub forest_names : Forest → List (List ℕ)
forest_names none = []
forest_names (more name file inner others) = name ∷ forest_names others

abbrev pub spliced : List ℕ → List ℕ → List ℕ
spliced name inner = name ++ 43 ∷ inner

abbrev pub seen_from : Forest → List (List ℕ)
seen_from none = []
seen_from (more name file inner others) = map (spliced name) (job_names file.commands ++ seen_from inner) ++ seen_from others

-- What is known of a file and the splices in it: each kind of name is declared once.
pub record IsLawful (file : ParsedFile) (inner : Forest) : Type 0 where
  pub jobs_plain : All IsPlain (job_names file.commands)
  pub jobs_apart : AreApart (job_names file.commands)
  pub splices_plain : All IsPlain (forest_names inner)
  pub splices_apart : AreApart (forest_names inner)

-- the same of all files, of which at most so many lie in one another
abbrev pub AreLawful : ℕ → Forest → Type 0
AreLawful left none = Unit {0}
AreLawful zero (more name file inner others) = ⊥
AreLawful (suc left) (more name file inner others) = IsLawful file inner × AreLawful left inner × AreLawful (suc left) others

-- Full names are those with the prefix.
abbrev name_of : FlatNode → List ℕ
name_of node = node.name

own_names : (prefix folder : List ℕ) (settings : ℕ → Settings) (place : ℕ) (ds : List Declared) → map name_of (declared_nodes prefix folder settings place ds) ≡ map (λ (n : List ℕ). prefix ++ n) (names_in ds)
own_names prefix folder settings place [] = refl
own_names prefix folder settings place (d ∷ ds) = ap (λ (ns : List (List ℕ)). (prefix ++ d.name.text) ∷ ns) (own_names prefix folder settings (place + 1) ds)

prefixed : (prefix name : List ℕ) (ns : List (List ℕ)) → map (λ (n : List ℕ). inside prefix name ++ n) ns ≡ map (λ (n : List ℕ). prefix ++ n) (map (spliced name) ns)
prefixed prefix name [] = refl
prefixed prefix name (n ∷ ns) =
    let one : inside prefix name ++ n ≡ prefix ++ spliced name n = append_assoc (prefix ++ name) (43 ∷ []) n ∙ append_assoc prefix name (43 ∷ n) in
    ap (λ (m : List ℕ). m ∷ map (λ (k : List ℕ). inside prefix name ++ k) ns) one ∙ ap (λ (ms : List (List ℕ)). (prefix ++ spliced name n) ∷ ms) (prefixed prefix name ns)

abbrev names_of_files : List OpenFile → List (List ℕ)
names_of_files files = map name_of (flat_map job_nodes files)

names_append : (fs gs : List OpenFile) → names_of_files (fs ++ gs) ≡ names_of_files fs ++ names_of_files gs
names_append fs gs = ap (map name_of) (flat_map-append job_nodes fs gs) ∙ map-append name_of (flat_map job_nodes fs) (flat_map job_nodes gs)

file_names : (f : OpenFile) (fs : List OpenFile) → names_of_files (f ∷ fs) ≡ map (λ (n : List ℕ). f.prefix ++ n) (job_names f.said.commands) ++ names_of_files fs
file_names f fs =
    map-append name_of (job_nodes f) (flat_map job_nodes fs)
    ∙ ap (λ (ns : List (List ℕ)). ns ++ names_of_files fs) (own_names f.prefix f.said.folder _ 0 (jobs_in f.said.commands))

pub full_names : (prefix : List ℕ) (f : Forest) → names_of_files (forest_files prefix f) ≡ map (λ (n : List ℕ). prefix ++ n) (seen_from f)
full_names prefix none = refl
full_names prefix (more name file inner others) =
    let within = inside prefix name in
    let put = λ (n : List ℕ). prefix ++ n in
    let here = map (λ (n : List ℕ). within ++ n) (job_names file.commands) in
    names_append (opened_as within file inner ∷ forest_files within inner) (forest_files prefix others)
    ∙ ap (λ (ns : List (List ℕ)). ns ++ names_of_files (forest_files prefix others))
    (file_names (opened_as within file inner) (forest_files within inner) ∙ ap (λ (ns : List (List ℕ)). here ++ ns) (full_names within inner)
    ∙ sym (map-append (λ (n : List ℕ). within ++ n) (job_names file.commands) (seen_from inner)) ∙ prefixed prefix name (job_names file.commands ++ seen_from inner))
    ∙ ap (λ (ns : List (List ℕ)). map put (map (spliced name) (job_names file.commands ++ seen_from inner)) ++ ns) (full_names prefix others)
    ∙ sym (map-append put (map (spliced name) (job_names file.commands ++ seen_from inner)) (seen_from others))

unprefixed : (ns : List (List ℕ)) → map (λ (n : List ℕ). [] ++ n) ns ≡ ns
unprefixed [] = refl
unprefixed (n ∷ ns) = ap (λ (ms : List (List ℕ)). n ∷ ms) (unprefixed ns)

-- the nodes of the top file, and of those in it
pub top_names : (file : ParsedFile) (inner : Forest) → names_of_files (opened_as [] file inner ∷ forest_files [] inner) ≡ job_names file.commands ++ seen_from inner
top_names file inner =
    file_names (opened_as [] file inner) (forest_files [] inner)
    ∙ ap (λ (ns : List (List ℕ)). ns ++ names_of_files (forest_files [] inner)) (unprefixed (job_names file.commands))
    ∙ ap (λ (ns : List (List ℕ)). job_names file.commands ++ ns) (full_names [] inner ∙ unprefixed (seen_from inner))

-- They are words of a bounded length.
pub record IsBounded (most : ℕ) (name : List ℕ) : Type 0 where
  pub some : 0 < length name
  pub short : length name ≤ most
  pub utf8 : IsUtf8 name
  pub solid : All (λ b. is_blank b ≡ false) name
  pub clear : All (λ b. is_control b ≡ false) name

plain_bounded : (most : ℕ) (name : List ℕ) → 255 ≤ most → IsPlain name → IsBounded most name
plain_bounded most name enough plain =
    let short = plain.short in record { some = plain.some; short = omega arith; utf8 = plain.utf8; solid = plain.solid; clear = plain.clear }

wider : (low high : ℕ) (name : List ℕ) → low ≤ high → IsBounded low name → IsBounded high name
wider low high name wide b = let short = b.short in record { some = b.some; short = omega arith; utf8 = b.utf8; solid = b.solid; clear = b.clear }

spliced_bounded : (most : ℕ) (name inner : List ℕ) → IsPlain name → IsBounded most inner → IsBounded (most + 256) (spliced name inner)
spliced_bounded most name inner plain b =
    let count = length-append name (43 ∷ inner) in
    let front = plain.short in
    let back = b.short in
    let plus : IsUtf8 (43 ∷ []) = IsUtf8-from_ascii (43 ∷ []) (IsAscii-cons 43 [] (omega arith) IsAscii-nil) in
    record {
      some = omega arith;
      short = omega arith;
      utf8 = IsUtf8-append name (43 ∷ inner) plain.utf8 (IsUtf8-append (43 ∷ []) inner plus b.utf8);
      solid = All-append (λ c. is_blank c ≡ false) name (43 ∷ inner) plain.solid (All-cons (λ c. is_blank c ≡ false) 43 inner refl b.solid);
      clear = All-append (λ c. is_control c ≡ false) name (43 ∷ inner) plain.clear (All-cons (λ c. is_control c ≡ false) 43 inner refl b.clear);
    }

abbrev pub bound : ℕ → ℕ
bound left = 256 * left + 255

file_bounded : (left : ℕ) (file : ParsedFile) (inner : Forest) → IsLawful file inner → All (IsBounded (bound left)) (seen_from inner) → All (IsBounded (bound left)) (job_names file.commands ++ seen_from inner)
file_bounded left file inner law within =
    let enough : 255 ≤ bound left = omega arith in
    let jobs = job_names file.commands in
    All-append (IsBounded (bound left)) jobs (seen_from inner) (All-weaker IsPlain (IsBounded (bound left)) (λ n. plain_bounded (bound left) n enough) jobs law.jobs_plain) within

forest_bounded : (left : ℕ) (f : Forest) → All IsPlain (forest_names f) → AreLawful left f → All (IsBounded (bound left)) (seen_from f)
forest_bounded left none plain lawful = All-nil (IsBounded (bound left))
forest_bounded zero (more name file inner others) plain lawful = absurd lawful
forest_bounded (suc left) (more name file inner others) plain (law, within, behind) =
    let names = job_names file.commands ++ seen_from inner in
    let wide : bound left + 256 ≤ bound (suc left) = omega arith in
    let here = file_bounded left file inner law (forest_bounded left inner law.splices_plain within) in
    let named = All-head IsPlain name (forest_names others) plain in
    All-append (IsBounded (bound (suc left))) (map (spliced name) names) (seen_from others)
    (All-map (IsBounded (bound (suc left))) (spliced name) names
    (All-weaker (IsBounded (bound left)) (λ n. IsBounded (bound (suc left)) (spliced name n)) (λ n b. wider (bound left + 256) (bound (suc left)) (spliced name n) wide (spliced_bounded (bound left) name n named b)) names here))
    (forest_bounded (suc left) others (All-tail IsPlain name (forest_names others) plain) behind)

pub all_bounded : (left : ℕ) (file : ParsedFile) (inner : Forest) → IsLawful file inner → AreLawful left inner → All (IsBounded (bound left)) (job_names file.commands ++ seen_from inner)
all_bounded left file inner law within = file_bounded left file inner law (forest_bounded left inner law.splices_plain within)

-- And they differ: a plus ends the name of the splice.
abbrev NoPlus : List ℕ → Type 0
NoPlus name = All (λ b. nat_eq b 43 ≡ false) name

no_plus_inside : (name inner : List ℕ) → NoPlus (spliced name inner) → ⊥
no_plus_inside name inner free = true≢false (All-head (λ b. nat_eq b 43 ≡ false) 43 inner (right_of (λ b. nat_eq b 43 ≡ false) name (43 ∷ inner) free))

first_byte : (a b : ℕ) (xs ys : List ℕ) → a ∷ xs ≡ b ∷ ys → a ≡ b
first_byte a b xs ys e = cc

later_bytes : (a b : ℕ) (xs ys : List ℕ) → a ∷ xs ≡ b ∷ ys → xs ≡ ys
later_bytes a b xs ys e = cc

is_plus : (a : ℕ) → a ≡ 43 → nat_eq a 43 ≡ false → ⊥
is_plus a e other = true≢false (sym (ap (λ (x : ℕ). nat_eq x 43) e) ∙ other)

same_splice : (xs ys us vs : List ℕ) → NoPlus xs → NoPlus ys → spliced xs us ≡ spliced ys vs → xs ≡ ys
same_splice [] [] us vs nx ny e = refl
same_splice [] (y ∷ ys) us vs nx ny e = absurd (is_plus y (sym (first_byte 43 y us (ys ++ 43 ∷ vs) e)) (All-head (λ b. nat_eq b 43 ≡ false) y ys ny))
same_splice (x ∷ xs) [] us vs nx ny e = absurd (is_plus x (first_byte x 43 (xs ++ 43 ∷ us) vs e) (All-head (λ b. nat_eq b 43 ≡ false) x xs nx))
same_splice (x ∷ xs) (y ∷ ys) us vs nx ny e =
    let first = first_byte x y (xs ++ 43 ∷ us) (ys ++ 43 ∷ vs) e in
    let later = same_splice xs ys us vs (All-tail (λ b. nat_eq b 43 ≡ false) x xs nx) (All-tail (λ b. nat_eq b 43 ≡ false) y ys ny) (later_bytes x y (xs ++ 43 ∷ us) (ys ++ 43 ∷ vs) e) in
    ap (λ (b : ℕ). b ∷ xs) first ∙ ap (λ (bs : List ℕ). y ∷ bs) later

same_inner : (name a b : List ℕ) → spliced name a ≡ spliced name b → a ≡ b
same_inner name a b e = later_bytes 43 43 a b (append_cancel_left name (43 ∷ a) (43 ∷ b) e)

spliced_apart : (name : List ℕ) (ns : List (List ℕ)) → AreApart ns → AreApart (map (spliced name) ns)
spliced_apart name [] apart = tt
spliced_apart name (n ∷ ns) (here, later) = (
  All-map (λ m. spliced name n ≢ m) (spliced name) ns (All-weaker (λ m. n ≢ m) (λ m. spliced name n ≢ spliced name m) (λ m differ e. differ (same_inner name n m e)) ns here),
  spliced_apart name ns later,
)

-- the names in another splice
apart_from : (name : List ℕ) (inner : List ℕ) (f : Forest) → NoPlus name → Others (forest_names f) name → All IsPlain (forest_names f) → All (λ m. m ≢ spliced name inner) (seen_from f)
apart_from name inner none alone differ plain = All-nil (λ m. m ≢ spliced name inner)
apart_from name inner (more other file inside' others) alone differ plain =
    let ns = job_names file.commands ++ seen_from inside' in
    let not_other = All-head (λ o. name ≢ o) other (forest_names others) differ in
    let other_alone = (All-head IsPlain other (forest_names others) plain).alone in
    All-append (λ m. m ≢ spliced name inner) (map (spliced other) ns) (seen_from others)
    (All-map (λ m. m ≢ spliced name inner) (spliced other) ns (λ k d lt e. not_other (sym (same_splice other name _ inner other_alone alone e))))
    (apart_from name inner others alone (All-tail (λ o. name ≢ o) other (forest_names others) differ) (All-tail IsPlain other (forest_names others) plain))

flipped : (xs ys : List (List ℕ)) → All (λ x. All (λ m. m ≢ x) ys) xs → AreNew xs ys
flipped [] ys all = λ k d lt. All-nil (λ o. get_or ys k d ≢ o)
flipped (x ∷ xs) ys all =
    let here = All-head (λ z. All (λ m. m ≢ z) ys) x xs all in
    let later = flipped xs ys (All-tail (λ z. All (λ m. m ≢ z) ys) x xs all) in
    λ k d lt. All-cons (λ o. get_or ys k d ≢ o) x xs (here k d lt) (later k d lt)

with_plus : (name : List ℕ) (f : Forest) → NoPlus name → All (λ m. m ≢ name) (seen_from f)
with_plus name none alone = All-nil (λ m. m ≢ name)
with_plus name (more other file inner others) alone =
    All-append (λ m. m ≢ name) (map (spliced other) (job_names file.commands ++ seen_from inner)) (seen_from others)
    (All-map (λ m. m ≢ name) (spliced other) (job_names file.commands ++ seen_from inner) (λ k d lt e. no_plus_inside other _ (subst NoPlus (sym e) alone)))
    (with_plus name others alone)

file_apart : (file : ParsedFile) (inner : Forest) → IsLawful file inner → AreApart (seen_from inner) → AreApart (job_names file.commands ++ seen_from inner)
file_apart file inner law within =
    let jobs = job_names file.commands in
    apart_append jobs (seen_from inner) law.jobs_apart within
    (flipped jobs (seen_from inner) (All-weaker IsPlain (λ j. All (λ m. m ≢ j) (seen_from inner)) (λ j p. with_plus j inner p.alone) jobs law.jobs_plain))

forest_apart : (left : ℕ) (f : Forest) → All IsPlain (forest_names f) → AreApart (forest_names f) → AreLawful left f → AreApart (seen_from f)
forest_apart left none plain apart lawful = tt
forest_apart zero (more name file inner others) plain apart lawful = absurd lawful
forest_apart (suc left) (more name file inner others) plain (differ, apart) (law, within, behind) =
    let ns = job_names file.commands ++ seen_from inner in
    let alone = (All-head IsPlain name (forest_names others) plain).alone in
    let others_plain = All-tail IsPlain name (forest_names others) plain in
    let here = file_apart file inner law (forest_apart left inner law.splices_plain law.splices_apart within) in
    apart_append (map (spliced name) ns) (seen_from others) (spliced_apart name ns here) (forest_apart (suc left) others others_plain apart behind)
    (flipped (map (spliced name) ns) (seen_from others)
    (All-map (λ x. All (λ m. m ≢ x) (seen_from others)) (spliced name) ns (λ k d lt. apart_from name _ others alone differ others_plain)))

pub all_apart : (left : ℕ) (file : ParsedFile) (inner : Forest) → IsLawful file inner → AreLawful left inner → AreApart (job_names file.commands ++ seen_from inner)
all_apart left file inner law within = file_apart file inner law (forest_apart left inner law.splices_plain law.splices_apart within)
