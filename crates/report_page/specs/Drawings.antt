-- Drawings, in SVG: the elements and attributes are those of the W3C's page "Scalable Vector Graphics (SVG) 1.1".
use Rattle.std.specs.Prelude.{ℕ, zero, suc, List, [], ◌++◌, Option, Some, None, length, slice_get, codes}
use Rattle.std.specs.Fmt.{decimal}
use Rattle.report_page.specs.declared.values.PhaseBar.{PhaseBar}
use Rattle.report_page.specs.declared.shapes.Bend.{Bend}
use Rattle.report_page.specs.declared.shapes.Rule.{Rule}
use Rattle.report_page.specs.declared.shapes.Panel.{Panel}
use Rattle.report_page.specs.declared.shapes.Label.{Label}
use Rattle.report_page.specs.declared.shapes.Drawing.{Drawing}
use Rattle.report_page.specs.declared.shapes.Align.{Align}
use Rattle.report_page.specs.declared.shapes.Align.TheVariants as align
use Rattle.report_page.specs.declared.shapes.Unit.{Unit}
use Rattle.report_page.specs.declared.shapes.Unit.TheVariants as unit
use Rattle.report_page.specs.declared.shapes.Caption.{Caption}
use Rattle.report_page.specs.declared.shapes.Caption.TheVariants as caption
use Rattle.report_page.specs.declared.shapes.Shape.{Shape}
use Rattle.report_page.specs.declared.shapes.Shape.TheVariants as shape
use Rattle.report_page.specs.declared.shapes.Omission.{Omission}
use Rattle.report_page.specs.declared.shapes.Omission.TheVariants as omission
use Rattle.report_page.specs.States.{state_word, look_class, end_text}
use Rattle.report_page.specs.Escaped.{escaped_text}
use Rattle.report_page.specs.Times.{seconds_shown, duration_text}

abbrev pub unit_text : Unit → List ℕ
unit_text unit.Millisecond = codes " ms"
unit_text unit.Second = codes " s"
unit_text unit.Minute = codes " min"
unit_text unit.Hour = codes " h"
unit_text unit.Day = codes " d"

-- the class by which the style aligns a text
abbrev pub align_class : Align → List ℕ
align_class align.Start = codes "start"
align_class align.Middle = codes "middle"
align_class align.End = codes "end"

-- which phase of which node it is
unfoldable pub which_text : PhaseBar → List ℕ
which_text bar =
    escaped_text bar.node.now ++ (codes " " ++ (escaped_text bar.phase.now ++ (codes " " ++ (decimal bar.attempt ++ codes ": "))))

-- when a phase began, and how long it took
unfoldable pub ran_when : PhaseBar → List ℕ
ran_when bar = codes ", from " ++ (seconds_shown bar.began ++ (codes " s, for " ++ (seconds_shown bar.took ++ codes " s")))

-- when a phase ran, and how it ended: `A JOB 0: exit 3, from 0.100 s, for 1.250 s`
unfoldable pub ran_text : PhaseBar → List ℕ
ran_text bar = which_text bar ++ (end_text bar.end ++ ran_when bar)

-- what a text of a drawing says: names are escaped
unfoldable pub caption_text : Caption → List ℕ
caption_text (caption.Name name) = escaped_text name.now
caption_text (caption.Cut name) = escaped_text name.now ++ codes ".."
caption_text (caption.Node name state) = escaped_text name.now ++ (codes " " ++ state_word state)
caption_text (caption.Count count state) = decimal count ++ (codes " " ++ state_word state)
caption_text (caption.More count) = codes "and " ++ (decimal count ++ codes " more")
caption_text (caption.Nodes count) = decimal count ++ codes " nodes"
caption_text (caption.Phase phase attempt) = escaped_text phase.now ++ (codes " " ++ decimal attempt)
caption_text (caption.Ran bar) = ran_text bar
caption_text (caption.Took milliseconds) = duration_text milliseconds
caption_text (caption.Time time unit) = decimal time ++ unit_text unit

-- a line that is bent between its ends
unfoldable pub bend_text : Bend → List ℕ
bend_text bend =
    codes "<path d=\"M" ++ (decimal bend.x ++ (codes " " ++ (decimal bend.y ++ (codes "C" ++ (decimal bend.middle ++ (codes " " ++ (decimal bend.y ++ (codes " " ++ (decimal bend.middle ++ (codes " " ++ (decimal bend.to_y ++ (codes " " ++ (decimal bend.to_x ++ (codes " " ++ (decimal bend.to_y ++ codes "\"/>\n")))))))))))))))

-- a line from top to bottom
unfoldable pub rule_text : Rule → List ℕ
rule_text rule =
    codes "<path d=\"M" ++ (decimal rule.x ++ (codes " " ++ (decimal rule.y ++ (codes "V" ++ (decimal rule.to_y ++ codes "\"/>\n")))))

-- where a box is, and how large
unfoldable pub place_of_panel : Panel → List ℕ
place_of_panel panel =
    codes "\" x=\"" ++ (decimal panel.x ++ (codes "\" y=\"" ++ (decimal panel.y ++ (codes "\" width=\"" ++ (decimal panel.width ++ (codes "\" height=\"" ++ (decimal panel.height ++ codes "\"><title>")))))))

-- a box or a bar, with its title
unfoldable pub panel_text : Panel → List ℕ
panel_text panel =
    codes "<rect class=\"" ++ (look_class panel.look ++ (place_of_panel panel ++ (caption_text panel.title ++ codes "</title></rect>\n")))

-- a text
unfoldable pub label_text : Label → List ℕ
label_text label =
    codes "<text class=\"" ++ (align_class label.align ++ (codes "\" x=\"" ++ (decimal label.x ++ (codes "\" y=\"" ++ (decimal label.y ++ (codes "\">" ++ (caption_text label.caption ++ codes "</text>\n")))))))

unfoldable pub shape_text : Shape → List ℕ
shape_text (shape.Bend bend) = bend_text bend
shape_text (shape.Rule rule) = rule_text rule
shape_text (shape.Panel panel) = panel_text panel
shape_text (shape.Label label) = label_text label

-- the shape at a place, if there is one
abbrev pub some_shape_text : Option Shape → List ℕ
some_shape_text None = []
some_shape_text (Some shape) = shape_text shape

-- the first shapes, as many
unfoldable pub shapes_text : List Shape → ℕ → List ℕ
shapes_text shapes zero = []
shapes_text shapes (suc n) = shapes_text shapes n ++ some_shape_text (slice_get shapes n)

-- all shapes of a drawing
unfoldable pub all_shapes_text : Drawing → List ℕ
all_shapes_text drawing = shapes_text drawing.shapes.items (length drawing.shapes.items)

-- what a drawing leaves out
unfoldable pub omission_text : Omission → List ℕ
omission_text omission.Nothing = []
omission_text omission.Groups = codes "<p>Each box has all nodes of one shape: they have the same submit file and folder, their parents are in the same boxes, and so are their children.</p>\n"
omission_text (omission.Layers count) = codes "<p>Layers in each box: " ++ (decimal count ++ codes ". A layer has all nodes that are equally far from the first ones.</p>\n")
omission_text (omission.Longest shown all) = codes "<p>These are the " ++ (decimal shown ++ (codes " longest of " ++ (decimal all ++ codes " phases, in the order in which they began.</p>\n")))

-- how wide and how high a drawing is, as its size and as that of its coordinates
unfoldable pub size_text : (width height : ℕ) → List ℕ
size_text width height =
    codes "\" width=\"" ++ (decimal width ++ (codes "\" height=\"" ++ (decimal height ++ (codes "\" viewBox=\"0 0 " ++ (decimal width ++ (codes " " ++ (decimal height ++ codes "\">\n")))))))

-- what comes before the name of a drawing
unfoldable pub opening_text : List ℕ
opening_text = codes "<div class=\"wide\"><svg role=\"img\" aria-label=\""

-- the beginning of a drawing of this name, which is so wide and so high
unfoldable pub drawing_head : (name : List ℕ) → (width height : ℕ) → List ℕ
drawing_head name width height = opening_text ++ (name ++ size_text width height)

-- a drawing of this name: its shapes, and what it leaves out
unfoldable pub drawing_text : (name : List ℕ) → Drawing → List ℕ
drawing_text name drawing =
    omission_text drawing.omission ++ (drawing_head name drawing.width drawing.height ++ (all_shapes_text drawing ++ codes "</svg></div>\n"))
