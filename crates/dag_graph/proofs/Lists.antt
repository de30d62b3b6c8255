-- Numbers that are added to lists.
use Rattle.std.proofs.Common.{◌≡◌, ℕ, ◌+◌, ◌-◌, ◌<◌, Bool, true, cond, ◌||◌, ◌==◌, ◌++◌, List, [], ◌∷◌, length, get_or, set, take, Some, filter, refl, sym, ap, ◌∙◌, subst, arith, ⊎_elim, if◌then◌else◌}
use Rattle.std.proofs.lemmas.Bool.{cases_Bool, cases_eq, or_right, eq-eqb, ne_eqb}
use Rattle.std.proofs.lemmas.List.{get_or-set_same, get_or-set_other, append-nil, length_push, get_or_push}
use Rattle.std.proofs.lemmas.List.Folds.{list_any_more}
use Rattle.std.proofs.lemmas.List.FromFn.{length-range_with_len, get_or-range_with_len}
use Rattle.std.proofs.lemmas.Option.{slice_get-get_or}
use Rattle.std.proofs.Math.Bool.{or-false}
use Rattle.std.proofs.lemmas.List.{map-id, get_or_read, get_or_default}
use Rattle.std.proofs.lemmas.List.FromFn.{map-range_with_len_more}
use Rattle.std.proofs.lemmas.List.Elements.{All-filter, filter-append}
use Rattle.std.specs.List.{range_with_len, All}
use Rattle.dag_graph.specs.Numbers.{has, IsLast, AreBelow, holders_below}

pub last_push : (xs : List ℕ) (n : ℕ) → IsLast (xs ++ n ∷ []) n
last_push xs n =
    let within : length (xs ++ n ∷ []) - 1 < length (xs ++ n ∷ []) = omega (arith, length_push xs n) in
    let at : length xs ≡ length (xs ++ n ∷ []) - 1 = omega (arith, length_push xs n) in
    slice_get-get_or (xs ++ n ∷ []) (length (xs ++ n ∷ []) - 1) 0 within ∙ ap Some (get_or_push xs n 0 (length (xs ++ n ∷ []) - 1) at)

-- what one more place changes
pub add_more : (old cur : List (List ℕ)) (places new : List ℕ) (i p n : ℕ) → i < length places → p ≡ get_or places i 0 → p < length cur → ¬ (IsLast (get_or old p []) n) → (IsLast (get_or cur p []) n → new ≡ get_or cur p []) → (¬ (IsLast (get_or cur p []) n) → new ≡ get_or cur p [] ++ n ∷ []) → (v : ℕ) → get_or cur v [] ≡ get_or old v [] ++ (if has (take i places) v then n ∷ [] else []) → get_or (set cur p new) v [] ≡ get_or old v [] ++ (if has (take (i + 1) places) v then n ∷ [] else [])
add_more old cur places new i p n lt at within unused kept added v before =
    let more : has (take (i + 1) places) v ≡ (has (take i places) v || (get_or places i 0 == v)) = list_any_more (λ m. m == v) places i 0 lt in
    ⊎_elim
    (λ same.
    let here : get_or (set cur p new) v [] ≡ new = ap (λ (k : ℕ). get_or (set cur p new) k []) same ∙ get_or-set_same cur p new [] within in
    let yes : has (take (i + 1) places) v ≡ true = more ∙ or_right _ _ (eq-eqb _ _ (sym at ∙ sym same)) in
    let goal : get_or old v [] ++ (if has (take (i + 1) places) v then n ∷ [] else []) ≡ get_or old p [] ++ n ∷ [] = ap (λ (b : Bool). get_or old v [] ++ (if b then n ∷ [] else [])) yes ∙ ap (λ (k : ℕ). get_or old k [] ++ n ∷ []) same in
    let seen : get_or cur p [] ≡ get_or old p [] ++ (if has (take i places) v then n ∷ [] else []) = ap (λ (k : ℕ). get_or cur k []) (sym same) ∙ before ∙ ap (λ (k : ℕ). get_or old k [] ++ (if has (take i places) v then n ∷ [] else [])) same in
    here ∙ ⊎_elim
    (λ was.
    let is : get_or cur p [] ≡ get_or old p [] ++ n ∷ [] = seen ∙ ap (λ (b : Bool). get_or old p [] ++ (if b then n ∷ [] else [])) was in
    kept (subst (λ (ns : List ℕ). IsLast ns n) (sym is) (last_push (get_or old p []) n)) ∙ is)
    (λ not_yet.
    let is : get_or cur p [] ≡ get_or old p [] = seen ∙ ap (λ (b : Bool). get_or old p [] ++ (if b then n ∷ [] else [])) not_yet ∙ append-nil (get_or old p []) in
    added (λ last. unused (subst (λ (ns : List ℕ). IsLast ns n) is last)) ∙ ap (λ (ns : List ℕ). ns ++ n ∷ []) is)
    (cases_Bool (has (take i places) v))
    ∙ sym goal)
    (λ differs.
    let same : has (take (i + 1) places) v ≡ has (take i places) v = more ∙ ap (λ (b : Bool). has (take i places) v || b) (ne_eqb _ _ (λ e. differs (sym e ∙ sym at))) ∙ or-false (has (take i places) v) in
    get_or-set_other cur p v new [] differs ∙ before ∙ ap (λ (b : Bool). get_or old v [] ++ (if b then n ∷ [] else [])) (sym same))
    (cases_eq v p)

pub range_more : (n : ℕ) → range_with_len 0 (n + 1) ≡ range_with_len 0 n ++ n ∷ []
range_more n = sym (map-id (range_with_len 0 (n + 1))) ∙ map-range_with_len_more (λ (x : ℕ). x) 0 n n (omega arith) ∙ ap (λ (xs : List ℕ). xs ++ n ∷ []) (map-id (range_with_len 0 n))

pub range_below : (n : ℕ) → All (λ m. m < n) (range_with_len 0 n)
range_below n = λ k d lt.
    let within : k < n = omega (arith, length-range_with_len 0 n) in
    let is : get_or (range_with_len 0 n) k d ≡ 0 + k = get_or-range_with_len 0 n k d within in
    omega arith

pub none_last : (xs : List ℕ) (n : ℕ) → All (λ m. m < n) xs → ¬ (IsLast xs n)
none_last [] n all last = cc
none_last (x ∷ xs) n all last =
    let within : length (x ∷ xs) - 1 < length (x ∷ xs) = omega arith in
    let is : Some (get_or (x ∷ xs) (length (x ∷ xs) - 1) 0) ≡ Some n = sym (slice_get-get_or (x ∷ xs) (length (x ∷ xs) - 1) 0 within) ∙ last in
    let same : get_or (x ∷ xs) (length (x ∷ xs) - 1) 0 ≡ n = cc in
    let less : get_or (x ∷ xs) (length (x ∷ xs) - 1) 0 < n = all (length (x ∷ xs) - 1) 0 within in
    absurd (omega arith)

-- the numbers below one that pass a test do not end in it
pub filter_last : (p : ℕ → Bool) (n : ℕ) → ¬ (IsLast (filter p (range_with_len 0 n)) n)
filter_last p n = none_last (filter p (range_with_len 0 n)) n (All-filter p (λ m. m < n) (range_with_len 0 n) (range_below n))

pub filter_range_more : (p : ℕ → Bool) (n : ℕ) → filter p (range_with_len 0 (n + 1)) ≡ filter p (range_with_len 0 n) ++ cond (p n) (n ∷ []) []
filter_range_more p n = ap (filter p) (range_more n) ∙ filter-append p (range_with_len 0 n) (n ∷ [])

-- the same, where the list at the place is what was read there
pub add_read : (old cur : List (List ℕ)) (places new here : List ℕ) (i n : ℕ) → i < length places → get_or places i 0 < length cur → length cur ≡ length old → ((v : ℕ) → v < length old → ¬ (IsLast (get_or old v []) n)) → here ≡ get_or cur (get_or places i 0) here → (IsLast here n → new ≡ here) → (¬ (IsLast here n) → new ≡ here ++ n ∷ []) → (v : ℕ) → get_or cur v [] ≡ get_or old v [] ++ (if has (take i places) v then n ∷ [] else []) → get_or (set cur (get_or places i 0) new) v [] ≡ get_or old v [] ++ (if has (take (i + 1) places) v then n ∷ [] else [])
add_read old cur places new here i n lt within len unused read kept added v before =
    let is : here ≡ get_or cur (get_or places i 0) [] = get_or_read cur (get_or places i 0) here within read [] in
    let small : get_or places i 0 < length old = omega arith in
    add_more old cur places new i (get_or places i 0) n lt refl within (unused (get_or places i 0) small)
    (λ last. kept (subst (λ (ns : List ℕ). IsLast ns n) (sym is) last) ∙ is)
    (λ other. added (λ last. other (subst (λ (ns : List ℕ). IsLast ns n) is last)) ∙ ap (λ (ns : List ℕ). ns ++ n ∷ []) is)
    v before

pub within_read : (lists : List (List ℕ)) (seen here : List ℕ) (i count bound : ℕ) → i < length lists → here ≡ get_or lists i here → seen ≡ here → AreBelow bound lists → count ≡ bound → All (λ m. m < count) seen
within_read lists seen here i count bound lt read same below all = λ k d small.
    let is : seen ≡ get_or lists i [] = same ∙ get_or_read lists i here lt read [] in
    let there : k < length (get_or lists i []) = subst (λ (ns : List ℕ). k < length ns) is small in
    let value : get_or seen k d ≡ get_or (get_or lists i []) k 0 = ap (λ (ns : List ℕ). get_or ns k d) is ∙ get_or_default (get_or lists i []) k d 0 there in
    let less : get_or (get_or lists i []) k 0 < bound = below i k lt there in
    omega arith

pub holders_more : (lists : List (List ℕ)) (seen here : List ℕ) (cur next : List (List ℕ)) (i v : ℕ) → i < length lists → here ≡ get_or lists i here → seen ≡ here → get_or cur v [] ≡ holders_below i lists v → get_or next v [] ≡ get_or cur v [] ++ (if has seen v then i ∷ [] else []) → get_or next v [] ≡ holders_below (i + 1) lists v
holders_more lists seen here cur next i v lt read same before after =
    let is : seen ≡ get_or lists i [] = same ∙ get_or_read lists i here lt read [] in
    after ∙ ap (λ (ns : List ℕ). ns ++ (if has seen v then i ∷ [] else [])) before ∙ ap (λ (ns : List ℕ). holders_below i lists v ++ (if has ns v then i ∷ [] else [])) is ∙ sym (filter_range_more (λ u. has (get_or lists u []) v) i)
