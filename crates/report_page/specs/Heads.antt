-- What a page says of a round as a whole.
use Rattle.std.specs.Prelude.{ℕ, zero, suc, ◌+◌, ◌==◌, Bool, List, [], ◌++◌, Option, Some, None, length, slice_get, codes, if◌then◌else◌}
use Rattle.std.specs.Borrow.{Bor}
use Rattle.std.specs.Fmt.{decimal}
use Rattle.report_page.specs.declared.values.NodeState.{NodeState}
use Rattle.report_page.specs.declared.values.NodeState.TheVariants as state
use Rattle.report_page.specs.declared.values.RoundState.{RoundState}
use Rattle.report_page.specs.declared.values.RoundState.TheVariants as round
use Rattle.report_page.specs.declared.values.Look.{Look}
use Rattle.report_page.specs.declared.values.Look.TheVariants as look
use Rattle.report_page.specs.declared.values.Row.{Row}
use Rattle.report_page.specs.declared.values.Page.{Page}
use Rattle.report_page.specs.States.{state_word, state_number, look_of, look_class}
use Rattle.report_page.specs.Escaped.{escaped_text}
use Rattle.report_page.specs.Times.{duration_text}

-- how a round is, in words
unfoldable pub round_text : RoundState → List ℕ
round_text round.NotBegun = codes "No round has begun."
round_text round.Runs = codes "The round runs. The page shows how far it was when the page was made."
round_text (round.Ended status) = codes "The round ended with exit status " ++ (decimal status ++ codes ".")
round_text round.CutShort = codes "The round was cut short: it has no end, and no manager runs it."

-- how a round looks: it ended well with exit status 0 alone
abbrev pub look_of_round : RoundState → Look
look_of_round round.NotBegun = look.Waits
look_of_round round.Runs = look.Runs
look_of_round (round.Ended zero) = look.Done
look_of_round (round.Ended (suc status)) = look.Error
look_of_round round.CutShort = look.Error

-- when a round began
unfoldable pub begin_text : List ℕ → List ℕ
begin_text time = codes "<p>It began at <b>" ++ (escaped_text time ++ codes "</b>.</p>\n")

-- the same where that is known
unfoldable pub began_text : Option (Bor (List ℕ)) → List ℕ
began_text None = []
began_text (Some began) = begin_text began.now

-- how long it took by its log
unfoldable pub length_text : ℕ → List ℕ
length_text milliseconds = codes "<p>By its log it took <b>" ++ (duration_text milliseconds ++ codes "</b>.</p>\n")

-- the same where that is known
unfoldable pub took_text : Option ℕ → List ℕ
took_text None = []
took_text (Some took) = length_text took

-- a page that loads itself anew says so
unfoldable pub reloads_text : Bool → List ℕ
reloads_text reloads = if reloads then codes "<p>The page loads itself anew every 5 seconds.</p>\n" else []

-- the head of a page: the path of the DAG file, how the round is, when it began and how long it took
unfoldable pub title_text : Page → List ℕ
title_text page =
    codes "<h1>" ++ (escaped_text page.path.now ++ (codes "</h1>\n<p id=\"round\" class=\"" ++ (look_class (look_of_round page.round) ++ (codes "\">" ++ (round_text page.round ++ (codes "</p>\n" ++ (began_text page.began ++ (took_text page.took ++ reloads_text page.reloads))))))))

-- whether a node is in a state, as a number
unfoldable pub one_in : NodeState → Row → ℕ
one_in state row = if state_number row.state == state_number state then 1 else 0

-- the same of the node at a place, if there is one
abbrev pub one_at : NodeState → Option Row → ℕ
one_at state None = 0
one_at state (Some row) = one_in state row

-- how many of the first nodes are in a state
abbrev pub count_in : List Row → NodeState → ℕ → ℕ
count_in rows state zero = 0
count_in rows state (suc n) = count_in rows state n + one_at state (slice_get rows n)

-- how many nodes are in a state, where one is
unfoldable pub count_text : NodeState → ℕ → List ℕ
count_text state count =
    codes "<li class=\"" ++ (look_class (look_of state) ++ (codes "\"><b>" ++ (decimal count ++ (codes "</b> " ++ (state_word state ++ codes "</li>\n")))))

unfoldable pub some_count_text : NodeState → ℕ → List ℕ
some_count_text state count = if count == 0 then [] else count_text state count

unfoldable pub count_text_of : List Row → NodeState → List ℕ
count_text_of rows state = some_count_text state (count_in rows state (length rows))

-- how many are done, and in error
unfoldable pub ended_counts : List Row → List ℕ
ended_counts rows = count_text_of rows state.Done ++ count_text_of rows state.Error

-- how many run
unfoldable pub running_counts : List Row → List ℕ
running_counts rows = count_text_of rows state.PreRun ++ (count_text_of rows state.Submitted ++ count_text_of rows state.PostRun)

-- how many may start, and how many wait
unfoldable pub waiting_counts : List Row → List ℕ
waiting_counts rows = count_text_of rows state.Ready ++ count_text_of rows state.NotReady

-- how many nodes there are
unfoldable pub total_text : ℕ → List ℕ
total_text count = codes "<ul>\n<li class=\"plain\"><b>" ++ (decimal count ++ codes "</b> nodes</li>\n")

-- how many nodes there are, and how many are in each state
unfoldable pub counts_text : List Row → List ℕ
counts_text rows = total_text (length rows) ++ (ended_counts rows ++ (running_counts rows ++ (waiting_counts rows ++ codes "</ul>\n")))

unfoldable pub heading_text : List ℕ → List ℕ
heading_text heading = codes "<h2>" ++ (heading ++ codes "</h2>\n")

-- a text of some lines, as it is
unfoldable pub preformatted_text : List ℕ → List ℕ
preformatted_text text = codes "<pre>" ++ (escaped_text text ++ codes "</pre>\n")

-- a text of some lines, as it is, below a heading
unfoldable pub lines_text : (heading text : List ℕ) → List ℕ
lines_text heading text = heading_text heading ++ preformatted_text text

-- the warnings of the files, where there are any
unfoldable pub warnings_text : List ℕ → List ℕ
warnings_text warnings = if length warnings == 0 then [] else lines_text (codes "Warnings") warnings

-- what `why` prints
unfoldable pub why_text : List ℕ → List ℕ
why_text why = if length why == 0 then [] else lines_text (codes "Failures") why
