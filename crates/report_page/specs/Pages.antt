-- The text of a page.
use Rattle.std.specs.Prelude.{◌≡◌, ℕ, ◌==◌, Bool, List, [], ◌++◌, length, codes, Option, Some, None, if◌then◌else◌}
use Rattle.report_page.specs.declared.values.PhaseBar.{PhaseBar}
use Rattle.report_page.specs.declared.values.Page.{Page}
use Rattle.report_page.specs.declared.shapes.Drawing.{Drawing}
use Rattle.report_page.specs.Escaped.{escaped_text}
use Rattle.report_page.specs.Rows.{table_text}
use Rattle.report_page.specs.Drawings.{drawing_text}
use Rattle.report_page.specs.Heads.{title_text, counts_text, warnings_text, why_text}
use Rattle.report_page.specs.Limits.{limits_shown}
use Rattle.report_page.specs.Style.{style_text}
use Rattle.report_page.specs.Script.{script_text}

-- a page that loads itself anew asks for that, and no other does
unfoldable pub refresh_text : Bool → List ℕ
refresh_text reloads = if reloads then codes "<meta http-equiv=\"refresh\" content=\"5\">\n" else []

-- What comes first: the language and the characters of the page, and the rule that it loads nothing from anywhere.
unfoldable pub first_text : List ℕ
first_text =
    codes "<!DOCTYPE html>\n<html lang=\"en\">\n<head>\n<meta charset=\"utf-8\">\n<meta name=\"viewport\" content=\"width=device-width, initial-scale=1\">\n<meta http-equiv=\"Content-Security-Policy\" content=\"default-src 'none'; style-src 'unsafe-inline'; script-src 'unsafe-inline'\">\n"

-- the title of the page's window: the path of the DAG file
unfoldable pub window_text : List ℕ → List ℕ
window_text path = codes "<title>" ++ (escaped_text path ++ codes "</title>\n")

-- the style as an element, and the end of the head
unfoldable pub styled_text : List ℕ
styled_text = codes "<style>\n" ++ (style_text ++ codes "</style>\n</head>\n<body>\n")

-- what a browser reads before it shows a page
unfoldable pub page_head : Page → List ℕ
page_head page = first_text ++ (refresh_text page.reloads ++ (window_text page.path.now ++ styled_text))

-- the timeline of the phases, where one is known
unfoldable pub timeline_text : List PhaseBar → Drawing → List ℕ
timeline_text phases drawing =
    if length phases == 0 then codes "<p>No phase is known to have run.</p>\n" else drawing_text (codes "timeline") drawing

-- the graph, the timeline, how full the limits were, and the table of the nodes
unfoldable pub nodes_text : Page → (graph timeline : Drawing) → List ℕ
nodes_text page graph timeline =
    codes "<h2>Graph</h2>\n" ++ (drawing_text (codes "graph") graph ++ (codes "<h2>Timeline</h2>\n" ++ (timeline_text page.phases.now timeline
    ++ (limits_shown page.limits.now ++ (codes "<h2>Nodes</h2>\n" ++ table_text page.rows.now)))))

-- what `audit` says of a round that has ended
unfoldable pub confirmed_text : Option Bool → List ℕ
confirmed_text None = []
confirmed_text (Some confirmed) =
    if confirmed then codes "<p><code>dagrun audit</code> confirms this round: by its journal alone its nodes came to these states.</p>\n"
    else codes "<p><code>dagrun audit</code> does not confirm this round: it was aborted.</p>\n"

-- the digest of the files by which the round is
unfoldable pub shown_digest : List ℕ → List ℕ
shown_digest digest = codes "<p>The digest of its files is <code>" ++ (escaped_text digest ++ codes "</code>.</p>\n")

-- the version of the program, and the script
unfoldable pub last_text : (version : List ℕ) → List ℕ
last_text version =
    codes "<p>Made by " ++ (escaped_text version ++ (codes "</p>\n<script>\n" ++ (script_text ++ codes "</script>\n</body>\n</html>\n")))

-- what comes after the nodes: what `audit` says, the digest, and the version
unfoldable pub closing_text : Page → List ℕ
closing_text page = confirmed_text page.confirmed ++ (shown_digest page.digest.now ++ last_text page.version.now)

-- The text of a page, with a drawing of its graph and one of its timeline: what the round is, how many nodes are in each state, the failures, the
-- warnings, the drawings, the limits, a row for each node, what `audit` says and the digest.
unfoldable pub page_of : Page → (graph timeline : Drawing) → List ℕ
page_of page graph timeline =
    page_head page ++ (title_text page ++ (counts_text page.rows.now ++ (why_text page.why.now ++ (warnings_text page.warnings.now ++ (nodes_text page graph timeline ++ closing_text page)))))

-- a text is that of a page, with some drawings
pub record IsPageText (page : Page) (text : List ℕ) : Type 0 where
  pub graph : Drawing
  pub timeline : Drawing
  pub text_is : text ≡ page_of page graph timeline
