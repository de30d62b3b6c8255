-- Where things are in a picture. All lengths are in tenths of a pixel.
use Rattle.std.specs.Prelude.{◌+◌, ◌-◌, ◌*◌, ◌/◌, ◌^◌, min, max, ℕ, zero, suc, Bool, nat_le, List, length, slice_get, Option, Some, None, if◌then◌else◌}
use Rattle.run_times.specs.declared.canvas.TheConstants.{AXIS, LEFT, HEAD, LABELLED, DENSE, GAP, LOAD}
use Rattle.run_times.specs.declared.runs.PhaseRun.{PhaseRun}
use Rattle.run_times.specs.declared.canvas.Canvas.{Canvas}
use Rattle.run_times.specs.declared.canvas.Frame.{Frame}
use Rattle.run_times.specs.Slots.{run_end}

-- a number, as far as 64 bits hold it
abbrev pub within : ℕ → ℕ
within n = min n (2 ^ 64 - 1)

-- the latest end of the first phases, as many; 0 where there are none
abbrev pub end_in : Option PhaseRun → ℕ
end_in (Some run) = run_end run
end_in None = 0

abbrev pub latest_end : List PhaseRun → ℕ → ℕ
latest_end runs zero = 0
latest_end runs (suc n) = max (latest_end runs n) (end_in (slice_get runs n))

-- the height of each of so many rows
abbrev pub row_height_of : ℕ → ℕ
row_height_of rows =
    if nat_le rows 60 then 180
    else if nat_le rows 150 then LABELLED
    else max (DENSE / rows) 1

-- what is drawn of these phases in so many rows: the axis ends where the last phase does
abbrev pub canvas_of : List PhaseRun → ℕ → Canvas
canvas_of runs rows = record { total = max (latest_end runs (length runs)) 1; rows = rows; height = row_height_of rows }

-- a time along the axis; its end, for a time after it
abbrev pub axis_place : Canvas → ℕ → ℕ
axis_place canvas time = within (within (min time canvas.total * AXIS) / max canvas.total 1 + LEFT)

-- the upper side of a row of bars
abbrev pub top_of : Canvas → ℕ → ℕ
top_of canvas row = within (within (row * canvas.height) + HEAD)

-- rows have labels where they are high enough for the letters
abbrev pub is_labelled : Canvas → Bool
is_labelled canvas = nat_le LABELLED canvas.height

-- the height of a bar: a row's, with some room between two that have labels
abbrev pub bar_height_of : Canvas → ℕ
bar_height_of canvas = if is_labelled canvas then canvas.height - 20 else canvas.height

-- the line on which the letters of a row are
abbrev pub letters_of : Canvas → ℕ → ℕ
letters_of canvas row = within (within (top_of canvas row + bar_height_of canvas / 2) + 40)

-- the upper and the lower side of the row of how many ran, and the height of the picture
abbrev pub load_top_of : Canvas → ℕ
load_top_of canvas = within (top_of canvas canvas.rows + GAP)

abbrev pub load_bottom_of : Canvas → ℕ
load_bottom_of canvas = within (load_top_of canvas + LOAD)

abbrev pub picture_height_of : Canvas → ℕ
picture_height_of canvas = within (load_bottom_of canvas + 100)

-- where the row of how many ran is, and its words
abbrev pub frame_of : Canvas → Frame
frame_of canvas = record {
  left = axis_place canvas 0;
  right = axis_place canvas canvas.total;
  top = load_top_of canvas;
  bottom = load_bottom_of canvas;
  words = load_top_of canvas - 60;
  scale = within (axis_place canvas canvas.total + 60);
}
