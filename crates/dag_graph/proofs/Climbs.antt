-- The steps of a climb.
use Rattle.std.proofs.lemmas.List.{get_or-set_same, get_or-set_other, length-set, length_push, length-take-le, get_or_push, get_or_append_left, get_or-take, take_more, take_all}
use Rattle.std.proofs.lemmas.List.Sums.{sum_by-set, get_or-le-sum_by}
use Rattle.std.proofs.lemmas.List.Elements.{Contains-get_or}
use Rattle.std.proofs.lemmas.Option.{slice_get-get_or}
use Rattle.std.proofs.lemmas.Bool.{cases_eq, cases_lt, cases_Bool, false≢true}
use Rattle.std.proofs.Common.{◌≢◌, ◌⊎◌, inl, inr, ⊎_elim, slice_index_or, Bool, true, false, not, get_or, set, take, count_by, ◌≡◌, ℕ, ◌+◌, ◌-◌, ◌<◌, ◌≤◌, ◌++◌, ◌∷◌, [], List, length, slice_index, slice_get, Some, arith, sym, ap, ◌∙◌, subst}
use Rattle.std.specs.List.{Contains, sum_by}
use Rattle.std.proofs.lemmas.Grind.{common_steps}
use Rattle.dag_graph.specs.Graph.{rank_in}
use Rattle.dag_graph.specs.Climb.{Climbing, IsClimb, IsClosed, ClimbsOn, IsFullClimb, up, is_entered, is_placed, with_entered, with_passed, with_order_place, work_left}
use Rattle.dag_graph.specs.Numbers.{AreBelow}
use Rattle.dag_graph.proofs.Ranks.{rank_kept, rank_new, rank_other, within_push, within_kept, within_pop}

-- one mark more, one node less that has none
pub count_falls : (xs : List Bool) (i : ℕ) (d : Bool) → i < length xs → get_or xs i d ≡ false → count_by (λ b. not b) (set xs i true) + 1 ≡ count_by (λ b. not b) xs
count_falls xs i d small is = grind (arith, common_steps)

pub mark_kept : (marks : List Bool) (i v : ℕ) → i < length marks → get_or marks v false ≡ true → get_or (set marks i true) v false ≡ true
mark_kept marks i v small is = ⊎_elim
    (λ same. ap (λ (k : ℕ). get_or (set marks i true) k false) same ∙ get_or-set_same marks i true false small)
    (λ differs. get_or-set_other marks i v true false differs ∙ is)
    (cases_eq v i)

pub mark_new : (marks : List Bool) (i v : ℕ) → get_or (set marks i true) v false ≡ true → (v ≡ i) ⊎ ((v ≢ i) × (get_or marks v false ≡ true))
mark_new marks i v is = ⊎_elim (λ same. inl same) (λ differs. inr (differs, sym (get_or-set_other marks i v true false differs) ∙ is)) (cases_eq v i)

unmarked : (marks : List Bool) (i v : ℕ) → i < length marks → get_or (set marks i true) v false ≡ false → (v ≢ i) × (get_or marks v false ≡ false)
unmarked marks i v small is = ⊎_elim
    (λ same. absurd (false≢true (sym is ∙ ap (λ (k : ℕ). get_or (set marks i true) k false) same ∙ get_or-set_same marks i true false small)))
    (λ differs. (differs, sym (get_or-set_other marks i v true false differs) ∙ is))
    (cases_eq v i)

-- the path goes on to a node
pub enters : (parents : List (List ℕ)) (c : Climbing) (v : ℕ) → IsClimb parents c → v < length parents → is_entered c v ≡ false → is_placed c v ≡ false → (0 < length c.path → Contains (up parents (slice_index c.path (length c.path - 1))) v) → IsClimb parents (with_entered c v)
enters parents c v is small fresh free onward =
    let here : v < length c.entered = omega (arith, is.entered_len) in
    let cases = λ (i : ℕ) (lt : i < length (c.path ++ v ∷ [])). let le : i ≤ length c.path = omega (arith, length_push c.path v) in le in
    record {
      entered_len = length-set c.entered v true ∙ is.entered_len;
      placed_len = is.placed_len;
      next_len = is.next_len;
      inside = λ i lt. grind (arith, common_steps, is.inside i);
      met = λ i lt. grind (arith, common_steps, is.met i);
      open_yet = λ i lt. grind (arith, common_steps, is.open_yet i);
      apart = λ i j less lt. grind (arith, common_steps, is.apart i j, is.met i);
      chain = λ i lt. ⊎_elim
          (λ low. subst (λ (w : ℕ). Contains (up parents w) (slice_index (c.path ++ v ∷ []) (i + 1))) (sym (get_or_append_left c.path (v ∷ []) 0 i (omega arith))) (subst (λ (w : ℕ). Contains (up parents (slice_index c.path i)) w) (sym (get_or_append_left c.path (v ∷ []) 0 (i + 1) low)) (is.chain i low)))
          (λ high.
          let at : length c.path ≡ i + 1 = omega (arith, length_push c.path v) in
          let last : length c.path - 1 ≡ i = omega arith in
          let some : 0 < length c.path = omega arith in
          subst (λ (w : ℕ). Contains (up parents w) (slice_index (c.path ++ v ∷ []) (i + 1))) (sym (get_or_append_left c.path (v ∷ []) 0 i (omega arith))) (subst (λ (w : ℕ). Contains (up parents (slice_index c.path i)) w) (sym (get_or_push c.path v 0 (i + 1) at)) (subst (λ (k : ℕ). Contains (up parents (slice_index c.path k)) v) last (onward some))))
          (cases_lt (i + 1) (length c.path));
      standing = λ w low was yet. ⊎_elim
          (λ same. subst (λ (u : ℕ). rank_in (c.path ++ v ∷ []) u < length (c.path ++ v ∷ [])) (sym same) (within_push c.path v))
          (λ old. within_kept c.path v w (is.standing w low old.1 yet))
          (mark_new c.entered v w was);
      known = λ w low was. mark_kept c.entered v w here (is.known w low was);
      passed = is.passed;
      through = is.through;
      ranked = is.ranked;
      there = is.there;
      absent = is.absent;
      count = is.count;
    }

-- a parent is passed that has its place
pub passes : (parents : List (List ℕ)) (c : Climbing) (v : ℕ) → IsClimb parents c → v < length parents → is_placed c (slice_index (up parents v) (slice_index c.next v)) ≡ true → IsClimb parents (with_passed c v)
passes parents c v is small done =
    let here : v < length c.next = omega (arith, is.next_len) in
    record {
      entered_len = is.entered_len;
      placed_len = is.placed_len;
      next_len = length-set c.next v (slice_index c.next v + 1) ∙ is.next_len;
      inside = is.inside;
      met = is.met;
      open_yet = is.open_yet;
      apart = is.apart;
      chain = is.chain;
      standing = is.standing;
      known = is.known;
      passed = λ w k low lt. ⊎_elim
          (λ same.
          let at : slice_index (set c.next v (slice_index c.next v + 1)) w ≡ slice_index c.next v + 1 = ap (λ (u : ℕ). slice_index (set c.next v (slice_index c.next v + 1)) u) same ∙ get_or-set_same c.next v (slice_index c.next v + 1) 0 here in
          subst (λ (u : ℕ). is_placed c (slice_index (up parents u) k) ≡ true) (sym same) (⊎_elim
          (λ before. is.passed v k small before)
          (λ high. let now : slice_index c.next v ≡ k = omega arith in subst (λ (n : ℕ). is_placed c (slice_index (up parents v) n) ≡ true) now done)
          (cases_lt k (slice_index c.next v))))
          (λ differs. is.passed w k low (subst (λ (n : ℕ). k < n) (get_or-set_other c.next v w (slice_index c.next v + 1) 0 differs) lt))
          (cases_eq w v);
      through = λ w low was. ⊎_elim
          (λ same.
          let at : slice_index (set c.next v (slice_index c.next v + 1)) w ≡ slice_index c.next v + 1 = ap (λ (u : ℕ). slice_index (set c.next v (slice_index c.next v + 1)) u) same ∙ get_or-set_same c.next v (slice_index c.next v + 1) 0 here in
          let old = is.through w low was in
          let e : slice_index c.next w ≡ slice_index c.next v = ap (λ (u : ℕ). slice_index c.next u) same in
          omega (arith, old, e, at))
          (λ differs. subst (λ (n : ℕ). length (up parents w) ≤ n) (sym (get_or-set_other c.next v w (slice_index c.next v + 1) 0 differs)) (is.through w low was))
          (cases_eq w v);
      ranked = is.ranked;
      there = is.there;
      absent = is.absent;
      count = is.count;
    }

take_within : (xs : List ℕ) (i : ℕ) → i < length (take (length xs - 1) xs) → i + 1 < length xs
take_within xs i lt = omega (arith, length-take-le (length xs - 1) xs (omega arith))

taken : (xs : List ℕ) (i : ℕ) → i + 1 < length xs → get_or (take (length xs - 1) xs) i 0 ≡ get_or xs i 0
taken xs i lt = get_or-take (length xs - 1) xs i 0 (omega arith)

front_last : (xs : List ℕ) (v : ℕ) → 0 < length xs → slice_index xs (length xs - 1) ≡ v → xs ≡ take (length xs - 1) xs ++ v ∷ []
front_last xs v some is =
    let e : length xs - 1 + 1 ≡ length xs = omega arith in
    sym (take_all (length xs - 1 + 1) xs (omega arith)) ∙ take_more xs (length xs - 1) 0 (omega arith) ∙ ap (λ (n : ℕ). take (length xs - 1) xs ++ n ∷ []) is

-- the last node of the path is placed
pub places : (parents : List (List ℕ)) (c : Climbing) (v : ℕ) → AreBelow (length parents) parents → IsClimb parents c → 0 < length c.path → slice_index c.path (length c.path - 1) ≡ v → length (up parents v) ≤ slice_index c.next v → IsClimb parents (with_order_place c v)
places parents c v below is some last all =
    let end : length c.path - 1 < length c.path = omega arith in
    let small : v < length parents = subst (λ (w : ℕ). w < length parents) last (is.inside (length c.path - 1) end) in
    let free : is_placed c v ≡ false = subst (λ (w : ℕ). is_placed c w ≡ false) last (is.open_yet (length c.path - 1) end) in
    let here : v < length c.placed = omega (arith, is.placed_len) in
    let whole : c.path ≡ take (length c.path - 1) c.path ++ v ∷ [] = front_last c.path v some last in
    let fall : count_by (λ b. not b) (set c.placed v true) + 1 ≡ count_by (λ b. not b) c.placed = count_falls c.placed v false here free in
    let new : rank_in (c.order ++ v ∷ []) v ≡ length c.order = rank_new c.order v (is.absent v small free) in
    let old = λ (w : ℕ) (low : w < length parents) (was : is_placed c w ≡ true). rank_kept c.order v w (is.there w low was) in
    record {
      entered_len = is.entered_len;
      placed_len = length-set c.placed v true ∙ is.placed_len;
      next_len = is.next_len;
      inside = λ i lt. let low : i + 1 < length c.path = take_within c.path i lt in subst (λ (w : ℕ). w < length parents) (sym (taken c.path i low)) (is.inside i (omega arith));
      met = λ i lt. let low : i + 1 < length c.path = take_within c.path i lt in subst (λ (w : ℕ). is_entered c w ≡ true) (sym (taken c.path i low)) (is.met i (omega arith));
      open_yet = λ i lt.
          let low : i + 1 < length c.path = take_within c.path i lt in
          let differs : slice_index c.path i ≢ v = λ same. is.apart i (length c.path - 1) (omega arith) end (same ∙ sym last) in
          subst (λ (w : ℕ). slice_index_or (set c.placed v true) w false ≡ false) (sym (taken c.path i low)) (get_or-set_other c.placed v (slice_index c.path i) true false differs ∙ is.open_yet i (omega arith));
      apart = λ i j less lt.
          let high : j + 1 < length c.path = take_within c.path j lt in
          λ same. is.apart i j less (omega arith) (sym (taken c.path i (omega arith)) ∙ same ∙ taken c.path j high);
      chain = λ i lt.
          let high : i + 1 + 1 < length c.path = take_within c.path (i + 1) lt in
          subst (λ (w : ℕ). Contains (up parents w) (slice_index (take (length c.path - 1) c.path) (i + 1))) (sym (taken c.path i (omega arith))) (subst (λ (w : ℕ). Contains (up parents (slice_index c.path i)) w) (sym (taken c.path (i + 1) high)) (is.chain i (omega arith)));
      standing = λ w low was yet.
          let both = unmarked c.placed v w here yet in
          within_pop (take (length c.path - 1) c.path) v w (λ same. both.0 (sym same)) (subst (λ (xs : List ℕ). rank_in xs w < length xs) whole (is.standing w low was both.1));
      known = λ w low was. ⊎_elim
          (λ same. subst (λ (u : ℕ). is_entered c u ≡ true) (sym same) (subst (λ (u : ℕ). is_entered c u ≡ true) last (is.met (length c.path - 1) end)))
          (λ before. is.known w low before.1)
          (mark_new c.placed v w was);
      passed = λ w k low lt. mark_kept c.placed v (slice_index (up parents w) k) here (is.passed w k low lt);
      through = λ w low was. ⊎_elim
          (λ same. subst (λ (u : ℕ). length (up parents u) ≤ slice_index c.next u) (sym same) all)
          (λ before. is.through w low before.1)
          (mark_new c.placed v w was);
      ranked = λ w k low was lt.
          let parent : slice_index (up parents w) k < length parents = below w k low lt in
          ⊎_elim
          (λ same.
          let reach : k < slice_index c.next v = (let e : length (up parents w) ≡ length (up parents v) = ap (λ (u : ℕ). length (up parents u)) same in omega arith) in
          let placed : is_placed c (slice_index (up parents w) k) ≡ true = subst (λ (u : ℕ). is_placed c (slice_index (up parents u) k) ≡ true) (sym same) (is.passed v k small reach) in
          let low_rank : rank_in c.order (slice_index (up parents w) k) < length c.order = is.there (slice_index (up parents w) k) parent placed in
          let a : rank_in (c.order ++ v ∷ []) (slice_index (up parents w) k) ≡ rank_in c.order (slice_index (up parents w) k) = old (slice_index (up parents w) k) parent placed in
          let b : rank_in (c.order ++ v ∷ []) w ≡ length c.order = ap (λ (u : ℕ). rank_in (c.order ++ v ∷ []) u) same ∙ new in
          omega arith)
          (λ before.
          let reach : k < slice_index c.next w = (let h = is.through w low before.1 in omega (arith, h)) in
          let a : rank_in (c.order ++ v ∷ []) (slice_index (up parents w) k) ≡ rank_in c.order (slice_index (up parents w) k) = old (slice_index (up parents w) k) parent (is.passed w k low reach) in
          let b : rank_in (c.order ++ v ∷ []) w ≡ rank_in c.order w = old w low before.1 in
          let h : rank_in c.order (slice_index (up parents w) k) < rank_in c.order w = is.ranked w k low before.1 lt in
          omega arith)
          (mark_new c.placed v w was);
      there = λ w low was. ⊎_elim
          (λ same. subst (λ (u : ℕ). rank_in (c.order ++ v ∷ []) u < length (c.order ++ v ∷ [])) (sym same) (within_push c.order v))
          (λ before. within_kept c.order v w (is.there w low before.1))
          (mark_new c.placed v w was);
      absent = λ w low yet.
          let both = unmarked c.placed v w here yet in
          rank_other c.order v w (is.absent w low both.1) (λ same. both.0 (sym same)) ∙ sym (length_push c.order v);
      count = omega (arith, length_push c.order v, fall, is.count);
    }

-- each step leaves less to do
pub less_entered : (parents : List (List ℕ)) (c : Climbing) (v : ℕ) → v < length c.entered → is_entered c v ≡ false → work_left parents (with_entered c v) < work_left parents c
less_entered parents c v small fresh = omega (arith, count_falls c.entered v false small fresh)

pub less_placed : (parents : List (List ℕ)) (c : Climbing) (v : ℕ) → v < length c.placed → is_placed c v ≡ false → work_left parents (with_order_place c v) < work_left parents c
less_placed parents c v small free = omega (arith, count_falls c.placed v false small free)

pub less_passed : (parents : List (List ℕ)) (c : Climbing) (v : ℕ) → v < length c.next → v < length parents → slice_index c.next v < length (up parents v) → work_left parents (with_passed c v) < work_left parents c
less_passed parents c v small inside lt =
    let f = λ (n : ℕ). sum_by (λ (ns : List ℕ). length ns) parents - n in
    let most : length (up parents v) ≤ sum_by (λ (ns : List ℕ). length ns) parents = get_or-le-sum_by (λ (ns : List ℕ). length ns) parents v [] inside in
    let e : sum_by (λ n. sum_by length parents - n) (set c.next v (slice_index c.next v + 1)) + (sum_by length parents - slice_index c.next v) ≡ sum_by (λ n. sum_by length parents - n) c.next + (sum_by length parents - (slice_index c.next v + 1)) = sum_by-set (λ n. sum_by length parents - n) c.next v (slice_index c.next v + 1) 0 small in
    omega (arith, e, most)

pub last_some : (xs : List ℕ) (v : ℕ) → slice_get xs (length xs - 1) ≡ Some v → (0 < length xs) × (slice_index xs (length xs - 1) ≡ v)
last_some [] v is = cc
last_some (x ∷ xs) v is =
    let within : length (x ∷ xs) - 1 < length (x ∷ xs) = omega arith in
    let e : Some (get_or (x ∷ xs) (length (x ∷ xs) - 1) 0) ≡ Some v = sym (slice_get-get_or (x ∷ xs) (length (x ∷ xs) - 1) 0 within) ∙ is in
    (omega arith, cc)

pub last_inside : (parents : List (List ℕ)) (c : Climbing) (v : ℕ) → IsClimb parents c → slice_get c.path (length c.path - 1) ≡ Some v → v < length parents
last_inside parents c v is last =
    let e = last_some c.path v last in
    let end : length c.path - 1 < length c.path = (let some = e.0 in omega (arith, some)) in
    subst (λ (w : ℕ). w < length parents) e.1 (is.inside (length c.path - 1) end)

pub goes_passed : (parents : List (List ℕ)) (c : Climbing) (v : ℕ) → IsClimb parents c → slice_get c.path (length c.path - 1) ≡ Some v → slice_index c.next v < length (up parents v) → is_placed c (slice_index (up parents v) (slice_index c.next v)) ≡ true → ClimbsOn parents c (with_passed c v)
goes_passed parents c v is last turn done =
    let small : v < length parents = last_inside parents c v is last in
    record {
      climb = passes parents c v is small done;
      kept = λ w was. was;
      less = less_passed parents c v (omega (arith, is.next_len)) small turn;
    }

pub goes_entered : (parents : List (List ℕ)) (c : Climbing) (v p : ℕ) → IsClimb parents c → slice_get c.path (length c.path - 1) ≡ Some v → p < length parents → is_entered c p ≡ false → is_placed c p ≡ false → Contains (up parents v) p → ClimbsOn parents c (with_entered c p)
goes_entered parents c v p is last small fresh free parent =
    let e = last_some c.path v last in
    let here : p < length c.entered = omega (arith, is.entered_len) in
    record {
      climb = enters parents c p is small fresh free (λ some. subst (λ (w : ℕ). Contains (up parents w) p) (sym e.1) parent);
      kept = λ w was. mark_kept c.entered p w here was;
      less = less_entered parents c p here fresh;
    }

pub goes_placed : (parents : List (List ℕ)) (c : Climbing) (v : ℕ) → AreBelow (length parents) parents → IsClimb parents c → slice_get c.path (length c.path - 1) ≡ Some v → length (up parents v) ≤ slice_index c.next v → ClimbsOn parents c (with_order_place c v)
goes_placed parents c v below is last all =
    let e = last_some c.path v last in
    let small : v < length parents = last_inside parents c v is last in
    let end : length c.path - 1 < length c.path = (let some = e.0 in omega (arith, some)) in
    let free : is_placed c v ≡ false = subst (λ (w : ℕ). is_placed c w ≡ false) e.1 (is.open_yet (length c.path - 1) end) in
    record {
      climb = places parents c v below is e.0 e.1 all;
      kept = λ w was. was;
      less = less_placed parents c v (omega (arith, is.placed_len)) free;
    }

pub closes : (parents : List (List ℕ)) (c : Climbing) (v p : ℕ) → IsClimb parents c → slice_get c.path (length c.path - 1) ≡ Some v → p < length parents → is_entered c p ≡ true → is_placed c p ≡ false → Contains (up parents v) p → IsClosed parents c.path p
closes parents c v p is last small was free parent =
    let e = last_some c.path v last in
    record {
      some = e.0;
      chain = is.chain;
      last = subst (λ (w : ℕ). Contains (up parents w) p) (sym e.1) parent;
      there = is.standing p small was free;
      apart = is.apart;
    }

pub turn_parent : (parents : List (List ℕ)) (v k : ℕ) → k < length (up parents v) → Contains (up parents v) (slice_index (up parents v) k)
turn_parent parents v k lt = Contains-get_or (up parents v) k 0 lt

-- a climb from a node that was not met begins
pub begins : (parents : List (List ℕ)) (c : Climbing) (v : ℕ) → IsClimb parents c → c.path ≡ [] → v < length parents → is_entered c v ≡ false → IsClimb parents (with_entered c v)
begins parents c v is empty small fresh =
    let free : is_placed c v ≡ false = ⊎_elim (λ t. absurd (false≢true (sym fresh ∙ is.known v small t))) (λ f. f) (cases_Bool (is_placed c v)) in
    let none : length c.path ≡ 0 = ap (λ (xs : List ℕ). length xs) empty in
    enters parents c v is small fresh free (λ some. absurd (omega (arith, some, none)))

pub settled : (parents : List (List ℕ)) (c : Climbing) → IsClimb parents c → c.path ≡ [] → ((v : ℕ) → v < length parents → is_entered c v ≡ true) → IsFullClimb parents c
settled parents c is empty all = record {
  climb = is;
  all = λ v small. ⊎_elim
      (λ t. t)
      (λ f.
      let stands : rank_in c.path v < length c.path = is.standing v small (all v small) f in
      let none : length c.path ≡ 0 = ap (λ (xs : List ℕ). length xs) empty in
      absurd (omega (arith, stands, none)))
      (cases_Bool (is_placed c v));
}
