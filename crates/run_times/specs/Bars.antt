-- The bars of phases, and their labels. All lengths are in tenths of a pixel.
use Rattle.std.specs.Prelude.{◌≡◌, ◌+◌, ◌-◌, ◌*◌, ◌<◌, ◌≤◌, min, max, ℕ, Bool, nat_lt, nat_le, ◌&&◌, List, drop, length, slice_get, slice_index, Option, Some, None, IfSome, if◌then◌else◌}
use Rattle.run_times.specs.declared.bars.TheConstants.{LEAST, PAD}
use Rattle.run_times.specs.declared.runs.PhaseRun.{PhaseRun}
use Rattle.run_times.specs.declared.canvas.Canvas.{Canvas}
use Rattle.run_times.specs.declared.bars.Bar.{Bar}
use Rattle.run_times.specs.Slots.{run_end}
use Rattle.run_times.specs.Canvas.{within, axis_place, is_labelled}
use Rattle.run_times.specs.Classes.{class_of_run}
use Rattle.run_times.specs.Names.{label_width}

-- a label of this width fits between two places, with room on both sides
abbrev pub fits : ℕ → ℕ → ℕ → Bool
fits width from to = nat_lt 0 width && nat_le width (to - from - 2 * PAD)

-- where the label of a bar begins: in the bar if it fits, else after it if it fits between the bar and a limit
abbrev pub label_at : ℕ → ℕ → ℕ → ℕ → Option ℕ
label_at width left right limit =
    if fits width left right then Some (left + PAD)
    else if fits width right limit then Some (right + PAD)
    else None

-- the width of a bar that begins and ends at these places: it is seen, and goes no further than the limit
abbrev pub bar_width : ℕ → ℕ → ℕ → ℕ
bar_width left end limit = min (max (end - left) LEAST) (limit - left)

abbrev pub label_in : Canvas → ℕ → ℕ → ℕ → ℕ → Option ℕ
label_in canvas width left right limit = if is_labelled canvas then label_at width left right limit else None

-- the bar of a phase, whose bar and label go no further than a limit
pub record IsBar (canvas : Canvas) (run : PhaseRun) (limit : ℕ) (bar : Bar) : Type 0 where
  pub run_is : bar.run ≡ run
  pub left_is : bar.left ≡ axis_place canvas run.begun
  pub width_is : bar.width ≡ bar_width bar.left (axis_place canvas (run_end run)) limit
  pub label_width_is : bar.label_width ≡ label_width run
  pub label_is : bar.label ≡ label_in canvas bar.label_width bar.left (within (bar.left + bar.width)) limit

-- the bar at a place is of the phase there, with its mark and slot, and with its class by those that began later
pub record IsBarAt (canvas : Canvas) (runs : List PhaseRun) (marks : List Bool) (slots limits : List ℕ) (place : ℕ) (bar : Bar) : Type 0 where
  pub run : PhaseRun
  pub run_there : slice_get runs place ≡ Some run
  pub mark_there : slice_get marks place ≡ Some bar.mark
  pub slot_there : bar.slot ≡ slice_index slots place
  pub class_is : bar.class ≡ class_of_run run (drop (place + 1) runs)
  pub is : IsBar canvas run (slice_index limits place) bar

-- a limit is no further than where any later bar of the same slot begins, of the bars from a place on
abbrev pub AreBarLimits : Canvas → List PhaseRun → List ℕ → List ℕ → ℕ → Type 0
AreBarLimits canvas runs slots limits from =
    (i j : ℕ) → from ≤ i → i < j → j < length runs → (other : PhaseRun) → slice_get runs j ≡ Some other
    → slice_index slots i ≡ slice_index slots j → slice_index limits i ≤ axis_place canvas other.begun

-- what holds of the next limit of each slot, of the bars from a place on
abbrev pub AreNext : Canvas → List PhaseRun → List ℕ → List ℕ → ℕ → Type 0
AreNext canvas runs slots next from =
    (j : ℕ) → from ≤ j → j < length runs → (other : PhaseRun) → slice_get runs j ≡ Some other → slice_index next (slice_index slots j) ≤ axis_place canvas other.begun

-- what is drawn of a phase, its bar and its label, ends where that of another begins or before
pub record IsBefore (one other : Bar) : Type 0 where
  pub bar : one.left + one.width ≤ other.left
  pub label : IfSome one.label (λ at. at + one.label_width ≤ other.left)

-- Each phase has its bar, and of two in one slot the earlier is before the later: so no label is over another one, or over a bar of another phase.
pub record AreBars (canvas : Canvas) (runs : List PhaseRun) (marks : List Bool) (slots : List ℕ) (bars : List Bar) : Type 0 where
  pub limits : List ℕ
  pub each : length bars ≡ length runs
  pub are : (place : ℕ) (bar : Bar) → slice_get bars place ≡ Some bar → IsBarAt canvas runs marks slots limits place bar
  pub before : (i j : ℕ) → i < j → (one other : Bar) → slice_get bars i ≡ Some one → slice_get bars j ≡ Some other → one.slot ≡ other.slot → IsBefore one other
