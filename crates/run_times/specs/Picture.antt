-- The picture of the phases that were run.
use Rattle.std.specs.Prelude.{◌≡◌, ◌+◌, ◌-◌, ◌*◌, ◌/◌, ◌%◌, ◌==◌, min, max, ℕ, zero, suc, Bool, List, [], ◌++◌, length, slice_get, flat_map, codes, Option, Some, None, if◌then◌else◌}
use Rattle.std.specs.Fmt.{decimal}
use Rattle.node_machine.specs.declared.Phase.{Phase}
use Rattle.node_machine.specs.declared.Phase.TheVariants.{Pre, Job, Post}
use Rattle.log_lines.specs.Phases.{phase_word}
use Rattle.run_times.specs.declared.canvas.TheConstants.{LOAD, MARKS, WIDTH}
use Rattle.run_times.specs.declared.style.TheConstants.{STYLE}
use Rattle.log_lines.specs.declared.steps.TheConstants.{DAY, HOUR, MINUTE, SECOND}
use Rattle.run_times.specs.declared.runs.PhaseRun.{PhaseRun}
use Rattle.run_times.specs.declared.canvas.Canvas.{Canvas}
use Rattle.run_times.specs.declared.canvas.Frame.{Frame}
use Rattle.run_times.specs.declared.bars.Bar.{Bar}
use Rattle.run_times.specs.declared.load.Level.{Level}
use Rattle.run_times.specs.Table.{seconds_text, ending_text}
use Rattle.run_times.specs.Slots.{AreSlots}
use Rattle.run_times.specs.Canvas.{within, canvas_of, axis_place, top_of, bar_height_of, letters_of, load_bottom_of, frame_of, picture_height_of}
use Rattle.run_times.specs.Classes.{class_name}
use Rattle.run_times.specs.Names.{name_text, bar_label}
use Rattle.run_times.specs.Bars.{AreBars}
use Rattle.run_times.specs.Load.{AreLevels}

-- a length in pixels, of so many tenths
abbrev pub tenths_text : ℕ → List ℕ
tenths_text tenths = decimal (tenths / 10) ++ (codes "." ++ decimal (tenths % 10))

-- an attribute that is a length
abbrev pub attribute_text : List ℕ → ℕ → List ℕ
attribute_text name tenths = codes " " ++ (name ++ (codes "=\"" ++ (tenths_text tenths ++ codes "\"")))

-- what the class of an element says of its phase beside how it ended: whether it is a script, and whether it is on the critical path
abbrev pub script_name : Phase → List ℕ
script_name Pre = codes " script"
script_name Job = codes ""
script_name Post = codes " script"

abbrev pub path_name : Bool → List ℕ
path_name mark = if mark then codes " path" else codes ""

-- which phase it is, and when it ran
abbrev pub phase_text : PhaseRun → List ℕ
phase_text run = name_text run.node.now ++ (codes " " ++ (phase_word run.phase ++ (codes " " ++ (decimal run.attempt ++ codes ": "))))

abbrev pub times_text : PhaseRun → List ℕ
times_text run = codes ", from " ++ (seconds_text run.begun ++ (codes " s, for " ++ (seconds_text run.took ++ codes " s")))

-- what is shown where a pointer rests on a bar
abbrev pub bar_title : PhaseRun → List ℕ
bar_title run = codes "<title>" ++ (phase_text run ++ (ending_text run.ending ++ (times_text run ++ codes "</title>")))

-- the rectangle of a phase
abbrev pub rectangle_text : Canvas → Bar → List ℕ
rectangle_text canvas bar =
    codes "<rect" ++ (attribute_text (codes "x") bar.left ++ (attribute_text (codes "y") (top_of canvas bar.slot) ++ (attribute_text (codes "width") bar.width
    ++ (attribute_text (codes "height") (bar_height_of canvas) ++ codes "/>"))))

-- the label of a phase at a place, of exactly its width
abbrev pub placed_text : Canvas → Bar → ℕ → List ℕ
placed_text canvas bar place =
    codes "<text" ++ (attribute_text (codes "x") place ++ (attribute_text (codes "y") (letters_of canvas bar.slot) ++ (attribute_text (codes "textLength") bar.label_width
    ++ (codes ">" ++ (bar_label bar.run ++ codes "</text>")))))

-- the label of a phase, or none
abbrev pub label_of : Canvas → Bar → Option ℕ → List ℕ
label_of canvas bar (Some place) = placed_text canvas bar place
label_of canvas bar None = []

-- the element of a phase: its class, what it is, its place and its label
abbrev pub class_text : Bar → List ℕ
class_text bar = codes "<g class=\"" ++ (class_name bar.class ++ (script_name bar.run.phase ++ (path_name bar.mark ++ codes "\">")))

abbrev pub bar_text : Canvas → Bar → List ℕ
bar_text canvas bar = class_text bar ++ (bar_title bar.run ++ (rectangle_text canvas bar ++ (label_of canvas bar bar.label ++ codes "</g>\n")))

-- a line of the grid between two points
abbrev pub line_text : ℕ × ℕ → ℕ × ℕ → List ℕ
line_text from to =
    codes "<line class=\"grid\"" ++ (attribute_text (codes "x1") from.0 ++ (attribute_text (codes "y1") from.1 ++ (attribute_text (codes "x2") to.0
    ++ (attribute_text (codes "y2") to.1 ++ codes "/>"))))

-- how many marks an axis of so many milliseconds has that are so far apart
abbrev pub axis_marks : ℕ → ℕ → ℕ
axis_marks total step = within (total / max step 1 + 1)

-- a time of an axis whose marks are so far apart: in the greatest unit of which the step is a multiple
abbrev pub tick_text : ℕ → ℕ → List ℕ
tick_text time step =
    if step % DAY == 0 then decimal (time / DAY) ++ codes " d"
    else if step % HOUR == 0 then decimal (time / HOUR) ++ codes " h"
    else if step % MINUTE == 0 then decimal (time / MINUTE) ++ codes " min"
    else if step % SECOND == 0 then decimal (time / SECOND) ++ codes " s"
    else decimal time ++ codes " ms"

-- a mark of the axis of time at a place, between two heights
abbrev pub axis_mark : ℕ → ℕ → ℕ → ℕ → ℕ → List ℕ
axis_mark place head bottom time step =
    line_text (place, head) (place, bottom)
    ++ (codes "<text text-anchor=\"middle\"" ++ (attribute_text (codes "x") place ++ (attribute_text (codes "y") head
    ++ (codes " dy=\"-6\">" ++ (tick_text time step ++ codes "</text>\n")))))

-- the axis of time: so many marks
abbrev pub axis_text : Canvas → ℕ → ℕ → ℕ → List ℕ
axis_text canvas head step zero = []
axis_text canvas head step (suc n) =
    axis_text canvas head step n ++ axis_mark (axis_place canvas (within (n * step))) head (load_bottom_of canvas) (within (n * step)) step

-- the highest of the first levels, as many
abbrev pub level_running : Option Level → ℕ
level_running (Some level) = level.running
level_running None = 0

abbrev pub peak_of : List Level → ℕ → ℕ
peak_of levels zero = 0
peak_of levels (suc n) = max (peak_of levels n) (level_running (slice_get levels n))

-- how high so many phases are below the bars, where this is the highest number of them
abbrev pub load_place : Canvas → ℕ → ℕ → ℕ
load_place canvas running peak = load_bottom_of canvas - within (min running peak * LOAD) / max peak 1

-- how many phases ran from a moment on
abbrev pub level_text : Canvas → ℕ → Level → List ℕ
level_text canvas peak level =
    codes "H" ++ (tenths_text (axis_place canvas level.moment) ++ (codes "V" ++ tenths_text (load_place canvas level.running peak)))

-- the beginning of a word at a place
abbrev pub word_opening : ℕ → ℕ → List ℕ
word_opening place height = codes "<text" ++ (attribute_text (codes "x") place ++ (attribute_text (codes "y") height ++ codes ">"))

-- the highest number of phases that ran at one moment, in words and as the scale of the row
abbrev pub scale_text : Frame → ℕ → List ℕ
scale_text frame peak =
    word_opening frame.left frame.words ++ (codes "phases at once: at most " ++ (decimal peak ++ (codes "</text>"
    ++ (word_opening frame.scale frame.top ++ (decimal peak ++ (codes "</text>"
    ++ (word_opening frame.scale frame.bottom ++ codes "0</text>\n")))))))

abbrev pub borders_text : Frame → List ℕ
borders_text frame =
    line_text (frame.left, frame.top) (frame.right, frame.top) ++ (line_text (frame.left, frame.bottom) (frame.right, frame.bottom) ++ codes "\n")

-- the row of how many phases ran at each moment
abbrev pub load_text : Canvas → Frame → ℕ → List Level → List ℕ
load_text canvas frame peak levels =
    codes "<path class=\"load\" d=\"M" ++ (tenths_text frame.left ++ (codes " " ++ (tenths_text frame.bottom
    ++ (flat_map (level_text canvas peak) levels ++ (codes "V" ++ (tenths_text frame.bottom ++ (codes "Z\"/>\n"
    ++ (scale_text frame peak ++ borders_text frame))))))))

-- the beginning: the size
abbrev pub view_text : ℕ → ℕ → List ℕ
view_text width height = codes " viewBox=\"0 0 " ++ (tenths_text width ++ (codes " " ++ (tenths_text height ++ codes "\">\n")))

abbrev pub svg_opening : ℕ → ℕ → List ℕ
svg_opening width height =
    codes "<svg xmlns=\"http://www.w3.org/2000/svg\"" ++ (attribute_text (codes "width") width ++ (attribute_text (codes "height") height ++ view_text width height))

-- a picture: its head, the axis, the elements of the phases in order, and how many ran
abbrev pub picture_text_of : Canvas → List Bar → ℕ → List Level → List ℕ
picture_text_of canvas bars step levels =
    svg_opening WIDTH (picture_height_of canvas) ++ (STYLE.now ++ (axis_text canvas MARKS step (axis_marks canvas.total step) ++ (flat_map (bar_text canvas) bars
    ++ (load_text canvas (frame_of canvas) (peak_of levels (length levels)) levels ++ codes "</svg>\n"))))

-- A picture of these phases and marks, in as many rows as there are slots. How far the marks of the axis are apart, and at which moments the levels of the last row are, is left open.
pub record IsTimesPicture (runs : List PhaseRun) (marks : List Bool) (text : List ℕ) : Type 0 where
  pub slots : List ℕ
  pub count : ℕ
  pub are_slots : AreSlots runs slots count
  pub bars : List Bar
  pub are_bars : AreBars (canvas_of runs count) runs marks slots bars
  pub step : ℕ
  pub levels : List Level
  pub are_levels : AreLevels runs levels
  pub text_is : text ≡ picture_text_of (canvas_of runs count) bars step levels
