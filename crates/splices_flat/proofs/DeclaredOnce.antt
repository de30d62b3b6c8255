-- Names that are declared once.
use Rattle.std.proofs.Common.{◌≡◌, ◌≢◌, ℕ, suc, ◌+◌, ◌≤◌, Bool, true, false, ◌||◌, AllPairs, List, [], ◌∷◌, ◌++◌, length, get_or, Result, Ok, refl, sym, ap, ◌∙◌, arith, length-append, ⊎_elim}
use Rattle.std.proofs.lemmas.Bool.{true≢false, or_parts, or_from, cases_Bool}
use Rattle.std.proofs.lemmas.Bool.Decides.{nat_tests}
use Rattle.std.proofs.lemmas.Grind.{flat_map-append}
use Rattle.std.proofs.lemmas.List.{append-nil}
use Rattle.std.proofs.lemmas.List.Folds.{list_any-append}
use Rattle.std.proofs.lemmas.List.Elements.{All-cons}
use Rattle.std.proofs.lemmas.List.Kept.{AllPairs-cons}
use Rattle.std.proofs.lemmas.Slice.Eq.{bytes_eq-Decides}
use Rattle.std.specs.List.{All, list_any}
use Rattle.std.specs.Str.{bytes_eq}
use Rattle.dag_reader.specs.declared.command.Command.{Command}
use Rattle.dag_reader.specs.declared.command.Command.TheVariants.{Job, Splice, Final}
use Rattle.dag_reader.specs.Word.{PlacedText}
use Rattle.splices_flat.specs.declared.fault.DagFault.{DagFault}
use Rattle.splices_flat.specs.Nodes.{final_in, finals_in, final_names, job_names, splice_names}
use Rattle.splices_flat.specs.Opening.{◌>>=◌, check_line, check_lines, has_final, is_declared, once}
use Rattle.splices_flat.specs.Regular.{DeclareOnce, declared_name, declared_names}
use Rattle.splices_flat.proofs.OpeningFiles.{bound}

abbrev pub accepted : Result (Unit {0}) DagFault
accepted = Ok tt

-- a name that these lines declare
abbrev is_taken : List Command → List ℕ → Bool
is_taken before name = list_any (bytes_eq name) (declared_names before)

abbrev by_kind : List Command → List ℕ → Bool
by_kind before name =
    list_any (bytes_eq name) (job_names before) || (list_any (bytes_eq name) (final_names before) || list_any (bytes_eq name) (splice_names before))

second_first : (p j f s : Bool) → (j || ((p || f) || s)) ≡ (p || (j || (f || s)))
second_first true true f s = refl
second_first true false f s = refl
second_first false true f s = refl
second_first false false f s = refl

third_first : (p j f s : Bool) → (j || (f || (p || s))) ≡ (p || (j || (f || s)))
third_first true true f s = refl
third_first true false true s = refl
third_first true false false s = refl
third_first false true f s = refl
third_first false false f s = refl

first_first : (p j f s : Bool) → ((p || j) || (f || s)) ≡ (p || (j || (f || s)))
first_first true j f s = refl
first_first false j f s = refl

declared_by_kind : (before : List Command) (name : List ℕ) → by_kind before name ≡ is_taken before name
declared_by_kind [] name = refl
declared_by_kind (Job n file dir noop done ∷ cs) name =
    first_first (bytes_eq name n.text) (list_any (bytes_eq name) (job_names cs)) (list_any (bytes_eq name) (final_names cs)) (list_any (bytes_eq name) (splice_names cs))
    ∙ ap (λ b. bytes_eq name n.text || b) (declared_by_kind cs name)
declared_by_kind (Final n file dir noop ∷ cs) name =
    second_first (bytes_eq name n.text) (list_any (bytes_eq name) (job_names cs)) (list_any (bytes_eq name) (final_names cs)) (list_any (bytes_eq name) (splice_names cs))
    ∙ ap (λ b. bytes_eq name n.text || b) (declared_by_kind cs name)
declared_by_kind (Splice n file dir ∷ cs) name =
    third_first (bytes_eq name n.text) (list_any (bytes_eq name) (job_names cs)) (list_any (bytes_eq name) (final_names cs)) (list_any (bytes_eq name) (splice_names cs))
    ∙ ap (λ b. bytes_eq name n.text || b) (declared_by_kind cs name)
declared_by_kind (c ∷ cs) name = declared_by_kind cs name

-- one more line
taken_more : (before : List Command) (c : Command) (name : List ℕ) → is_taken (before ++ c ∷ []) name ≡ (is_taken before name || list_any (bytes_eq name) (declared_name c))
taken_more before c name =
    ap (list_any (bytes_eq name)) (flat_map-append declared_name before (c ∷ []) ∙ ap (λ ns. declared_names before ++ ns) (append-nil (declared_name c)))
    ∙ list_any-append (bytes_eq name) (declared_names before) (declared_name c)

finals_more : (before : List Command) (c : Command) → length (finals_in (before ++ c ∷ [])) ≡ length (finals_in before) + length (final_in c)
finals_more before c =
    ap length (flat_map-append final_in before (c ∷ []) ∙ ap (λ ds. finals_in before ++ ds) (append-nil (final_in c))) ∙ length-append (finals_in before) (final_in c)

differs : (a b : List ℕ) → b ≢ a → bytes_eq a b ≡ false
differs a b ne = ⊎_elim (λ same. absurd (ne (sym ((bytes_eq-Decides a b).0 same)))) (λ other. other) (cases_Bool (bytes_eq a b))

-- What lines declare is declared by none before.
abbrev Free : List Command → List (List ℕ) → Type 0
Free before names = All (λ name. is_taken before name ≡ false) names

record Stands (before cs : List Command) : Type 0 where
  pub free : Free before (declared_names cs)
  pub apart : AllPairs (λ a b. a ≢ b) (declared_names cs)
  pub finals : length (finals_in before) + length (finals_in cs) ≤ 1

not_taken : (taken : Bool) (path : List ℕ) (name : PlacedText) → taken ≡ false → once taken path name ≡ accepted
not_taken true path name is = absurd (true≢false is)
not_taken false path name is = refl

free_if : (taken : Bool) (path : List ℕ) (name : PlacedText) → once taken path name ≡ accepted → taken ≡ false
free_if true path name is = absurd cc
free_if false path name is = refl

-- after a line that declares a name, those of the others are free
free_behind : (before : List Command) (c : Command) (name : List ℕ) (names : List (List ℕ)) → declared_name c ≡ name ∷ [] → Free before (name ∷ names) → AllPairs (λ a b. a ≢ b) (name ∷ names) → Free (before ++ c ∷ []) names
free_behind before c name names is free apart = λ k d small.
    let other = get_or names k d in
    taken_more before c other ∙ ap (λ (ns : List (List ℕ)). is_taken before other || list_any (bytes_eq other) ns) is
    ∙ or_from (is_taken before other) (bytes_eq other name || false) (free (suc k) d (omega arith)) (or_from (bytes_eq other name) false (differs other name (apart 0 (suc k) d (omega arith) (omega arith))) refl)

tail_apart : (name : List ℕ) (names : List (List ℕ)) → AllPairs (λ a b. a ≢ b) (name ∷ names) → AllPairs (λ a b. a ≢ b) names
tail_apart name names apart i j d low high = apart (suc i) (suc j) d (omega arith) (omega arith)

stand_behind : (before : List Command) (c : Command) (cs : List Command) (name : List ℕ) → declared_name c ≡ name ∷ [] → Free before (name ∷ declared_names cs) → AllPairs (λ a b. a ≢ b) (name ∷ declared_names cs)
    → length (finals_in before) + (length (final_in c) + length (finals_in cs)) ≤ 1 → Stands (before ++ c ∷ []) cs
stand_behind before c cs name is free apart few =
    let more = finals_more before c in
    record { free = free_behind before c name (declared_names cs) is free apart; apart = tail_apart name (declared_names cs) apart; finals = omega arith }

no_final : (before : List Command) → length (finals_in before) ≡ 0 → has_final before ≡ false
no_final before none = grind (arith, nat_tests)

stand_silent : (before : List Command) (c : Command) (cs : List Command) → declared_name c ≡ [] → length (final_in c) ≡ 0 → Stands before cs → Stands (before ++ c ∷ []) cs
stand_silent before c cs silent none s =
    let more = finals_more before c in
    record {
      free = λ k d small.
          let other = get_or (declared_names cs) k d in
          taken_more before c other ∙ ap (λ (ns : List (List ℕ)). is_taken before other || list_any (bytes_eq other) ns) silent ∙ or_from (is_taken before other) false (s.free k d small) refl;
      apart = s.apart;
      finals = omega arith;
    }

lines_once : (path : List ℕ) (before cs : List Command) → Stands before cs → check_lines path before cs ≡ accepted
lines_once path before [] s = refl
lines_once path before (Job name file dir noop done ∷ cs) s =
    let c = Job name file dir noop done in
    let few : length (finals_in before) + (length (final_in c) + length (finals_in cs)) ≤ 1 = omega arith in
    ap (λ r. r >>= λ _. check_lines path (before ++ c ∷ []) cs) (not_taken (is_declared before name) path name (declared_by_kind before name.text ∙ s.free 0 name.text (omega arith)))
    ∙ lines_once path (before ++ c ∷ []) cs (stand_behind before c cs name.text refl s.free s.apart few)
lines_once path before (Final name file dir noop ∷ cs) s =
    let c = Final name file dir noop in
    let few : length (finals_in before) + (length (final_in c) + length (finals_in cs)) ≤ 1 = omega arith in
    ap (λ r. r >>= λ _. check_lines path (before ++ c ∷ []) cs)
    (not_taken (has_final before || is_declared before name) path name (or_from (has_final before) (is_declared before name) (no_final before (omega arith)) (declared_by_kind before name.text ∙ s.free 0 name.text (omega arith))))
    ∙ lines_once path (before ++ c ∷ []) cs (stand_behind before c cs name.text refl s.free s.apart few)
lines_once path before (Splice name file dir ∷ cs) s =
    let c = Splice name file dir in
    let few : length (finals_in before) + (length (final_in c) + length (finals_in cs)) ≤ 1 = omega arith in
    ap (λ r. r >>= λ _. check_lines path (before ++ c ∷ []) cs) (not_taken (is_declared before name) path name (declared_by_kind before name.text ∙ s.free 0 name.text (omega arith)))
    ∙ lines_once path (before ++ c ∷ []) cs (stand_behind before c cs name.text refl s.free s.apart few)
lines_once path before (c ∷ cs) s = lines_once path (before ++ c ∷ []) cs (stand_silent before c cs refl refl (record { free = s.free; apart = s.apart; finals = s.finals }))

stands_with : (before : List Command) (c : Command) (cs : List Command) (name : List ℕ) → declared_name c ≡ name ∷ [] → is_taken before name ≡ false → Stands (before ++ c ∷ []) cs → Free before (name ∷ declared_names cs) × AllPairs (λ a b. a ≢ b) (name ∷ declared_names cs)
stands_with before c cs name is new s =
    let split = λ (other : List ℕ) (none : is_taken (before ++ c ∷ []) other ≡ false).
    or_parts (is_taken before other) (bytes_eq other name || false) (sym (taken_more before c other ∙ ap (λ (ns : List (List ℕ)). is_taken before other || list_any (bytes_eq other) ns) is) ∙ none) in (
      All-cons (λ n. is_taken before n ≡ false) name (declared_names cs) new (λ k d small. (split (get_or (declared_names cs) k d) (s.free k d small)).0),
      AllPairs-cons (λ a b. a ≢ b) name (declared_names cs) (λ k d small same.
          let other = get_or (declared_names cs) k d in
          true≢false (sym ((bytes_eq-Decides other name).1 (sym same)) ∙ (or_parts (bytes_eq other name) false (split other (s.free k d small)).1).0)) s.apart,
    )

stands_silent : (before : List Command) (c : Command) (cs : List Command) → declared_name c ≡ [] → Stands (before ++ c ∷ []) cs → Free before (declared_names cs)
stands_silent before c cs silent s = λ k d small.
    let other = get_or (declared_names cs) k d in
    (or_parts (is_taken before other) false (sym (taken_more before c other ∙ ap (λ (ns : List (List ℕ)). is_taken before other || list_any (bytes_eq other) ns) silent) ∙ s.free k d small)).0

first_final : (before : List Command) → has_final before ≡ false → length (finals_in before) ≡ 0
first_final before none = grind (arith, nat_tests)

lines_stand : (path : List ℕ) (before cs : List Command) → check_lines path before cs ≡ accepted → length (finals_in before) ≤ 1 → Stands before cs
lines_stand path before [] is few = record { free = λ k d small. absurd (omega arith); apart = λ i j d low high. absurd (omega arith); finals = omega arith }
lines_stand path before (Job name file dir noop done ∷ cs) is few =
    let c = Job name file dir noop done in
    let (_, one, rest) = bound (check_line path before c) (λ _. check_lines path (before ++ c ∷ []) cs) tt is in
    let new = sym (declared_by_kind before name.text) ∙ free_if (is_declared before name) path name one in
    let more = finals_more before c in
    let later = lines_stand path (before ++ c ∷ []) cs rest (omega arith) in
    let both = stands_with before c cs name.text refl new later in
    record { free = both.0; apart = both.1; finals = omega arith }
lines_stand path before (Final name file dir noop ∷ cs) is few =
    let c = Final name file dir noop in
    let (_, one, rest) = bound (check_line path before c) (λ _. check_lines path (before ++ c ∷ []) cs) tt is in
    let parts = or_parts (has_final before) (is_declared before name) (free_if (has_final before || is_declared before name) path name one) in
    let new = sym (declared_by_kind before name.text) ∙ parts.1 in
    let none : length (finals_in before) ≡ 0 = first_final before parts.0 in
    let more = finals_more before c in
    let later = lines_stand path (before ++ c ∷ []) cs rest (omega arith) in
    let both = stands_with before c cs name.text refl new later in
    record { free = both.0; apart = both.1; finals = omega arith }
lines_stand path before (Splice name file dir ∷ cs) is few =
    let c = Splice name file dir in
    let (_, one, rest) = bound (check_line path before c) (λ _. check_lines path (before ++ c ∷ []) cs) tt is in
    let new = sym (declared_by_kind before name.text) ∙ free_if (is_declared before name) path name one in
    let more = finals_more before c in
    let later = lines_stand path (before ++ c ∷ []) cs rest (omega arith) in
    let both = stands_with before c cs name.text refl new later in
    record { free = both.0; apart = both.1; finals = omega arith }
lines_stand path before (c ∷ cs) is few =
    let more = finals_more before c in
    let later = lines_stand path (before ++ c ∷ []) cs is (omega arith) in
    record { free = stands_silent before c cs refl later; apart = later.apart; finals = omega arith }

-- a file's names are declared once exactly where its lines pass
pub once_passes : (path : List ℕ) (cs : List Command) → DeclareOnce cs → check_lines path [] cs ≡ accepted
once_passes path cs once = lines_once path [] cs (record { free = λ k d small. refl; apart = once.names; finals = omega arith })

pub passes_once : (path : List ℕ) (cs : List Command) → check_lines path [] cs ≡ accepted → DeclareOnce cs
passes_once path cs is = let s = lines_stand path [] cs is (omega arith) in record { names = s.apart; finals = omega arith }
