-- Bars that are apart.
use Rattle.std.proofs.Common.{◌≡◌, ℕ, zero, suc, ◌+◌, ◌-◌, ◌*◌, ◌/◌, ◌<◌, ◌≤◌, ◌⊎◌, inl, inr, Bool, true, false, cond, nat_lt, nat_le, List, [], ◌∷◌, ◌++◌, set, take, drop, take_all, length, length-drop, get_or, Option, Some, None, refl, sym, ap, subst, ◌∙◌, arith}
use Rattle.std.specs.Prelude.{◌^◌, min, max, slice_get, IfSome}
use Rattle.std.proofs.Math.Nat.{div-mul-le_self}
use Rattle.std.proofs.lemmas.Nat.{le-div}
use Rattle.std.proofs.lemmas.Bool.{and_parts, cases_eq, ltb-true, leb-true}
use Rattle.std.proofs.lemmas.List.{get_or-set_same, get_or-set_other}
use Rattle.std.proofs.lemmas.Option.{same_Some, none-some, slice_get_within, slice_get-get_or}
use Rattle.run_times.specs.declared.runs.PhaseRun.{PhaseRun}
use Rattle.run_times.specs.declared.canvas.Canvas.{Canvas}
use Rattle.run_times.specs.declared.canvas.TheConstants.{AXIS}
use Rattle.run_times.specs.declared.bars.TheConstants.{PAD}
use Rattle.run_times.specs.declared.bars.Bar.{Bar}
use Rattle.run_times.specs.declared.classes.Class.{Class}
use Rattle.run_times.specs.Classes.{class_of_run}
use Rattle.run_times.specs.Canvas.{within, axis_place, is_labelled}
use Rattle.run_times.specs.Slots.{AreSlots}
use Rattle.run_times.specs.Bars.{fits, label_at, label_in, IsBar, IsBarAt, AreBarLimits, AreNext, IsBefore}

quotient_mono : (a b k : ℕ) → 0 < k → a ≤ b → a / k ≤ b / k
quotient_mono a b k some less = le-div (a / k) b k some (let low = div-mul-le_self a k in omega (arith, low, less))

-- a later time is no further to the left
pub place-mono : (canvas : Canvas) (a b : ℕ) → a ≤ b → axis_place canvas a ≤ axis_place canvas b
place-mono canvas a b less =
    let times : min a canvas.total ≤ min b canvas.total = omega (arith, less) in
    let lengths : within (min a canvas.total * AXIS) ≤ within (min b canvas.total * AXIS) = omega (arith, times) in
    let places = quotient_mono (within (min a canvas.total * AXIS)) (within (min b canvas.total * AXIS)) (max canvas.total 1) (omega arith) lengths in
    omega (arith, places)

-- a label that fits is within its room
fits-room : (width from to : ℕ) → fits width from to ≡ true → from + PAD + width ≤ to
fits-room width from to is =
    let parts = and_parts (nat_lt 0 width) (nat_le width (to - from - 2 * PAD)) is in
    let some = ltb-true 0 width parts.0 in
    let room = leb-true width (to - from - 2 * PAD) parts.1 in
    omega (arith, some, room)

-- a label ends before a place that its bar and its limit do not pass
module _ (canvas : Canvas) (width left right limit place : ℕ) (bar : right ≤ place) (room : limit ≤ place) where
  abbrev Ends : Option ℕ → Type 0
  Ends label = IfSome label (λ at. at + width ≤ place)

  after : (b : Bool) → fits width right limit ≡ b → Ends (cond b (Some (right + PAD)) None)
  after true is = let fit = fits-room width right limit is in omega (arith, fit, room)
  after false is = tt

  in_bar : (b : Bool) → fits width left right ≡ b → Ends (cond b (Some (left + PAD)) (cond (fits width right limit) (Some (right + PAD)) None))
  in_bar true is = let fit = fits-room width left right is in omega (arith, fit, bar)
  in_bar false is = after (fits width right limit) refl

  if_labelled : (b : Bool) → Ends (cond b (label_at width left right limit) None)
  if_labelled true = in_bar (fits width left right) refl
  if_labelled false = tt

  pub label-before : IfSome (label_in canvas width left right limit) (λ at. at + width ≤ place)
  label-before = if_labelled (is_labelled canvas)

-- what is drawn of a phase ends before the bar of a later one of its slot
pub is-before : (canvas : Canvas) (run : PhaseRun) (limit : ℕ) (one other : Bar) → IsBar canvas run limit one → limit ≤ other.left → one.left ≤ other.left → other.left < 2 ^ 64
    → IsBefore one other
is-before canvas run limit one other is room begins small =
    let wide : one.width ≤ limit - one.left = subst (λ (w : ℕ). w ≤ limit - one.left) (sym is.width_is) (omega arith) in
    let ends : one.left + one.width ≤ other.left = omega (arith, wide, room, begins) in
    record {
      bar = ends;
      label = subst (λ (label : Option ℕ). IfSome label (λ at. at + one.label_width ≤ other.left)) (sym is.label_is)
          (label-before canvas one.label_width one.left (within (one.left + one.width)) limit other.left (omega (arith, ends)) room);
    }

-- the limits and what comes next, one bar earlier
module _ (canvas : Canvas) (runs : List PhaseRun) (slots limits next : List ℕ) (place count : ℕ) (run : PhaseRun) (are : AreSlots runs slots count) (here : slice_get runs place ≡ Some run)
    (within_runs : place < length runs) (each : length limits ≡ length runs) (of_slots : length next ≡ count) (are_limits : AreBarLimits canvas runs slots limits (place + 1))
    (are_next : AreNext canvas runs slots next (place + 1)) where
  abbrev pub slot : ℕ
  slot = get_or slots place 0

  pub limits_earlier : AreBarLimits canvas runs slots (set limits place (get_or next slot 0)) place
  limits_earlier i j from less within other at same = by (cases_eq i place)
    where
      by : (i ≡ place) ⊎ (i ≡ place → ⊥) → get_or (set limits place (get_or next slot 0)) i 0 ≤ axis_place canvas other.begun
      by (inl is) =
          let set_is = ap (λ (k : ℕ). get_or (set limits place (get_or next slot 0)) k 0) is ∙ get_or-set_same limits place (get_or next slot 0) 0 (omega (arith, each, within_runs)) in
          let slot_is : get_or slots j 0 ≡ slot = sym same ∙ ap (λ (k : ℕ). get_or slots k 0) is in
          let low = subst (λ (k : ℕ). get_or next k 0 ≤ axis_place canvas other.begun) slot_is (are_next j (omega (arith, less, is)) within other at) in
          subst (λ (k : ℕ). k ≤ axis_place canvas other.begun) (sym set_is) low
      by (inr not_here) =
          subst (λ (k : ℕ). k ≤ axis_place canvas other.begun) (sym (get_or-set_other limits place i (get_or next slot 0) 0 not_here))
          (are_limits i j (omega (arith, from, not_here)) less within other at same)

  pub next_earlier : AreNext canvas runs slots (set next slot (axis_place canvas run.begun)) place
  next_earlier j from within other at = by (cases_eq (get_or slots j 0) slot) (cases_eq j place)
    where
      there : get_or (set next slot (axis_place canvas run.begun)) slot 0 ≡ axis_place canvas run.begun
      there = get_or-set_same next slot (axis_place canvas run.begun) 0 (let b = are.below place within_runs in omega (arith, b, of_slots))

      by : (get_or slots j 0 ≡ slot) ⊎ (get_or slots j 0 ≡ slot → ⊥) → (j ≡ place) ⊎ (j ≡ place → ⊥)
          → get_or (set next slot (axis_place canvas run.begun)) (get_or slots j 0) 0 ≤ axis_place canvas other.begun
      by (inl same) (inl is) =
          let run_is : run ≡ other = same_Some run other (sym here ∙ ap (slice_get runs) (sym is) ∙ at) in
          let value : get_or (set next slot (axis_place canvas run.begun)) (get_or slots j 0) 0 ≡ axis_place canvas other.begun
          = ap (λ (k : ℕ). get_or (set next slot (axis_place canvas run.begun)) k 0) same ∙ there ∙ ap (λ (r : PhaseRun). axis_place canvas r.begun) run_is in
          omega (arith, value)
      by (inl same) (inr later) =
          let follows = are.apart place j (omega (arith, from, later)) within run other here at (sym same) in
          let low = place-mono canvas run.begun other.begun follows.began in
          let value = ap (λ (k : ℕ). get_or (set next slot (axis_place canvas run.begun)) k 0) same ∙ there in
          omega (arith, low, value)
      by (inr elsewhere) (inl is) = absurd (elsewhere (ap (λ (k : ℕ). get_or slots k 0) is))
      by (inr elsewhere) (inr later) =
          subst (λ (k : ℕ). k ≤ axis_place canvas other.begun) (sym (get_or-set_other next slot (get_or slots j 0) (axis_place canvas run.begun) 0 elsewhere))
          (are_next j (omega (arith, from, later)) within other at)

-- an item of a list that one is added to
push_get : {X : Type 0} (xs : List X) (y : X) (i : ℕ) (x : X) → slice_get (xs ++ y ∷ []) i ≡ Some x → (slice_get xs i ≡ Some x) ⊎ ((i ≡ length xs) × (y ≡ x))
push_get [] y zero x is = inr (refl, same_Some y x is)
push_get [] y (suc i) x is = absurd (none-some x is)
push_get (z ∷ zs) y zero x is = inl is
push_get (z ∷ zs) y (suc i) x is = later (push_get zs y i x is)
  where
    later : (slice_get zs i ≡ Some x) ⊎ ((i ≡ length zs) × (y ≡ x)) → (slice_get zs i ≡ Some x) ⊎ ((suc i ≡ suc (length zs)) × (y ≡ x))
    later (inl there) = inl there
    later (inr here) = inr (ap suc here.0, here.1)

pub pushed-all : {X : Type 0} (P : ℕ → X → Type 0) (xs : List X) (y : X) (n : ℕ) → length xs ≡ n → ((i : ℕ) (x : X) → slice_get xs i ≡ Some x → P i x) → P n y
    → (i : ℕ) (x : X) → slice_get (xs ++ y ∷ []) i ≡ Some x → P i x
pushed-all P xs y n count all last i x is = by (push_get xs y i x is)
  where
    by : (slice_get xs i ≡ Some x) ⊎ ((i ≡ length xs) × (y ≡ x)) → P i x
    by (inl there) = all i x there
    by (inr here) = subst (P i) here.1 (subst (λ (k : ℕ). P k y) (sym (here.0 ∙ count)) last)

-- of two bars in one slot the earlier is before the later
pub are-before : (canvas : Canvas) (runs : List PhaseRun) (marks : List Bool) (slots limits : List ℕ) (bars : List Bar) (count : ℕ) → AreSlots runs slots count
    → AreBarLimits canvas runs slots limits 0 → ((i : ℕ) (bar : Bar) → slice_get bars i ≡ Some bar → IsBarAt canvas runs marks slots limits i bar)
    → (i j : ℕ) → i < j → (one other : Bar) → slice_get bars i ≡ Some one → slice_get bars j ≡ Some other → one.slot ≡ other.slot → IsBefore one other
are-before canvas runs marks slots limits bars count are_slots are_limits are i j less one other at_one at_other same =
    let a = are i one at_one in
    let b = are j other at_other in
    let inside = slice_get_within runs j b.run b.run_there in
    let slot : get_or slots i 0 ≡ get_or slots j 0 = sym a.slot_there ∙ same ∙ b.slot_there in
    let room = are_limits i j (omega arith) less inside b.run b.run_there slot in
    let follows = are_slots.apart i j less inside a.run b.run a.run_there b.run_there slot in
    let begins = place-mono canvas a.run.begun b.run.begun follows.began in
    let left_one = a.is.left_is in
    let left_other = b.is.left_is in
    is-before canvas a.run (get_or limits i 0) one other a.is (omega (arith, room, left_other)) (omega (arith, begins, left_one, left_other))
    (subst (λ (k : ℕ). k < 2 ^ 64) (sym left_other) (omega arith))

-- what a list has at a place that it has, whatever would be there otherwise
any-default : {X : Type 0} (xs : List X) (i : ℕ) (d e : X) → i < length xs → get_or xs i d ≡ get_or xs i e
any-default [] i d e inside = absurd (omega (arith, inside))
any-default (x ∷ xs) zero d e inside = refl
any-default (x ∷ xs) (suc i) d e inside = any-default xs i d e (omega (arith, inside))

pub read-number : (xs : List ℕ) (i x : ℕ) → x ≡ get_or xs i x → i < length xs → x ≡ get_or xs i 0
read-number xs i x is inside = is ∙ any-default xs i x 0 inside

-- the limits and what comes next, by what was read and computed
pub limits-step : (canvas : Canvas) (runs : List PhaseRun) (slots limits next : List ℕ) (place count before slot limit value : ℕ) (run : PhaseRun) → AreSlots runs slots count
    → slice_get runs place ≡ Some run → place < length runs → length limits ≡ length runs → length next ≡ count → before ≡ place + 1 → AreBarLimits canvas runs slots limits before
    → AreNext canvas runs slots next before → slot ≡ get_or slots place 0 → limit ≡ get_or next slot 0 → value ≡ axis_place canvas run.begun
    → AreBarLimits canvas runs slots (set limits place limit) place × AreNext canvas runs slots (set next slot value) place
limits-step canvas runs slots limits next place count before slot limit value run are here inside each of_slots before_is are_limits are_next slot_is limit_is value_is =
    let limits' = subst (AreBarLimits canvas runs slots limits) before_is are_limits in
    let next' = subst (AreNext canvas runs slots next) before_is are_next in
    let first = limits_earlier canvas runs slots limits next place count run are here inside each of_slots limits' next' in
    let second = next_earlier canvas runs slots limits next place count run are here inside each of_slots limits' next' in (
      subst (λ (k : ℕ). AreBarLimits canvas runs slots (set limits place k) place) (sym (limit_is ∙ ap (λ (k : ℕ). get_or next k 0) slot_is)) first,
      subst (λ (k : ℕ). AreNext canvas runs slots (set next slot k) place) (sym value_is)
          (subst (λ (k : ℕ). AreNext canvas runs slots (set next k (axis_place canvas run.begun)) place) (sym slot_is) second),
    )

-- the bar of a place, by what was read and computed
pub bar-there : (canvas : Canvas) (runs : List PhaseRun) (marks : List Bool) (slots limits : List ℕ) (place : ℕ) (d : PhaseRun) (other : Bool) (bar : Bar) → place < length runs
    → length marks ≡ length runs → length slots ≡ length runs → length limits ≡ length runs → (slot limit : ℕ) (class : Class) → slot ≡ get_or slots place slot
    → limit ≡ get_or limits place limit → class ≡ class_of_run (get_or runs place d) (take (length runs - (place + 1)) (drop (place + 1) runs)) → IsBar canvas (get_or runs place d) limit bar
    → bar.mark ≡ get_or marks place other → bar.class ≡ class → bar.slot ≡ slot → IsBarAt canvas runs marks slots limits place bar
bar-there canvas runs marks slots limits place d other bar inside of_marks of_slots of_limits slot limit class slot_is limit_is class_is is mark same_class same_slot = record {
  run = get_or runs place d;
  run_there = slice_get-get_or runs place d inside;
  mark_there = slice_get-get_or marks place other (omega (arith, inside, of_marks)) ∙ ap Some (sym mark);
  slot_there = same_slot ∙ read-number slots place slot slot_is (omega (arith, inside, of_slots));
  class_is = same_class ∙ class_is ∙ ap (class_of_run (get_or runs place d)) (take_all (length runs - (place + 1)) (drop (place + 1) runs) (omega (arith, length-drop (place + 1) runs)));
  is = subst (λ (k : ℕ). IsBar canvas (get_or runs place d) k bar) (read-number limits place limit limit_is (omega (arith, inside, of_limits))) is;
}
