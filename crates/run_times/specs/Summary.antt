-- What `times` prints as a summary.
use Rattle.std.specs.Prelude.{◌≡◌, ℕ, zero, suc, ◌-◌, ◌==◌, max, Bool, nat_le, List, [], ◌∷◌, ◌++◌, length, replicate, sum_by, flat_map, Option, Some, None, slice_get, codes, if◌then◌else◌}
use Rattle.std.specs.Fmt.{decimal}
use Rattle.log_lines.specs.Phases.{phase_word}
use Rattle.dag_graph.specs.Graph.{Network}
use Rattle.run_times.specs.declared.runs.PhaseRun.{PhaseRun}
use Rattle.run_times.specs.declared.kinds.Kind.{Kind}
use Rattle.run_times.specs.declared.summary.Figures.{Figures}
use Rattle.run_times.specs.declared.summary.TheConstants.{WIDTH}
use Rattle.run_times.specs.Canvas.{within, latest_end}
use Rattle.run_times.specs.Table.{seconds_text}
use Rattle.run_times.specs.Load.{most_running}
use Rattle.run_times.specs.declared.limits.Counted.{Counted}
use Rattle.run_times.specs.declared.limits.Counted.TheVariants.{Jobs, PreScripts, PostScripts, JobsOf, Children}
use Rattle.run_times.specs.declared.limits.Limit.{Limit}
use Rattle.run_times.specs.declared.gains.Gain.{Gain}
use Rattle.run_times.specs.Limits.{holder_of, AreRoundLimits}
use Rattle.run_times.specs.Gains.{AreGains}
use Rattle.run_times.specs.Critical.{run_end_at}
use Rattle.run_times.specs.Parts.{begun_at, end_of_rest, lasted_in, PartsAreWhole, waited_for_turn}
use Rattle.run_times.specs.Kinds.{AreLongest}
use Rattle.run_times.specs.Soonest.{IsSoonest}

-- a number of phases
abbrev pub phases_text : ℕ → List ℕ
phases_text count = if count == 1 then codes "1 phase" else decimal count ++ codes " phases"

-- how long the run took, and the phases of the critical path
abbrev pub summary_took_text : ℕ → ℕ → List ℕ
summary_took_text took lasted = codes "took " ++ (seconds_text took ++ (codes " s, " ++ (seconds_text lasted ++ codes " s of it in the phases of the critical path\n")))

-- how long all phases took, how many there were, and how many at once
abbrev pub busy_text : ℕ → ℕ → ℕ → List ℕ
busy_text took count most = codes "busy " ++ (seconds_text took ++ (codes " s in " ++ (phases_text count ++ (codes ", at most " ++ (decimal most ++ codes " at once\n")))))

-- how long it would have taken without limits
abbrev pub limits_text : ℕ → List ℕ
limits_text soonest = codes "without limits it would have taken at least " ++ (seconds_text soonest ++ codes " s\n")

-- what a limit counts
abbrev pub counted_text : Counted → List ℕ
counted_text Jobs = codes "jobs"
counted_text PreScripts = codes "PRE scripts"
counted_text PostScripts = codes "POST scripts"
counted_text (JobsOf category) = codes "jobs of " ++ category.now
counted_text Children = codes "phases"

-- how long it would have taken with no limit on something, and under all limits
abbrev pub gain_text : Gain → List ℕ
gain_text gain =
    codes "with no limit on " ++ (counted_text gain.counted ++ (codes " it would have taken " ++ (seconds_text gain.without ++ (codes " s, " ++ (seconds_text gain.under_all ++ codes " s with all limits\n")))))

abbrev pub gains_text : List Gain → List ℕ
gains_text gains = flat_map gain_text gains

-- a number in a column: it ends where the column does
abbrev pub column_text : List ℕ → List ℕ
column_text number = replicate (WIDTH - length number) 32 ++ number

-- how long a phase waited that could begin at one moment and began at another; with a minus, if it began first
abbrev pub wait_text : ℕ → ℕ → List ℕ
wait_text from until = if nat_le from until then seconds_text (until - from) else codes "-" ++ seconds_text (from - until)

-- for which limit a phase waited for its turn, if it did
abbrev pub turn_text : Option Limit → List ℕ
turn_text (Some limit) = codes "  for its turn: limit " ++ (decimal limit.most ++ (codes " on " ++ (counted_text limit.counted ++ codes "\n")))
turn_text None = codes "\n"

-- the limit for which the phase at a place waited: it waited for its turn, and this is the first limit that held it back
abbrev pub waited_for : Network → List Limit → List PhaseRun → ℕ → ℕ → Option Limit
waited_for graph limits runs place from =
    if waited_for_turn runs from (begun_at runs place) then holder_of graph runs limits (slice_get runs place) else None

-- what was run
abbrev pub path_phase_text : Option PhaseRun → List ℕ
path_phase_text (Some run) = run.node.now ++ (codes " " ++ (phase_word run.phase ++ (codes " " ++ decimal run.attempt)))
path_phase_text None = []

-- the row of a phase of the critical path, by when that ended for which it waited
abbrev pub path_row_text : Network → List Limit → List PhaseRun → ℕ → ℕ → List ℕ
path_row_text graph limits runs place from =
    column_text (wait_text from (begun_at runs place))
    ++ (column_text (seconds_text (run_end_at runs place - begun_at runs place)) ++ (codes "  " ++ (path_phase_text (slice_get runs place) ++ turn_text (waited_for graph limits runs place from))))

-- the rows of a path, which has the last phase first
abbrev pub parts_text : Network → List Limit → List PhaseRun → List ℕ → List ℕ
parts_text graph limits runs [] = []
parts_text graph limits runs (place ∷ rest) = parts_text graph limits runs rest ++ path_row_text graph limits runs place (end_of_rest runs rest)

-- the row of a kind
abbrev pub kind_text : Kind → List ℕ
kind_text kind = column_text (seconds_text kind.total.took) ++ (codes " s  " ++ (decimal kind.total.count ++ (codes " of " ++ (kind.name.now ++ codes "\n"))))

abbrev pub kinds_text : List Kind → List ℕ
kinds_text kinds = flat_map kind_text kinds

-- the heads of the two lists
abbrev pub path_head : List ℕ
path_head = codes "\ncritical path\n    waited   seconds\n"

abbrev pub kinds_head : List ℕ
kinds_head = codes "\nlongest kinds\n"

-- how long all phases took
abbrev pub busy_in : List PhaseRun → ℕ
busy_in runs = within (sum_by (λ run. run.took) runs)

-- the numbers of phases with a critical path, by how long it would have taken without limits; at least one phase ran at once, even if none took any time
abbrev pub figures_of : List PhaseRun → List ℕ → ℕ → Figures
figures_of runs path soonest = record {
  took = latest_end runs (length runs);
  lasted = within (lasted_in runs path);
  busy = busy_in runs;
  count = length runs;
  most = max (most_running runs (length runs)) 1;
  soonest = soonest;
}

-- the first lines
abbrev pub summary_opening : Figures → List Gain → List ℕ
summary_opening figures gains =
    summary_took_text figures.took figures.lasted ++ (busy_text figures.busy figures.count figures.most ++ (limits_text figures.soonest ++ gains_text gains))

-- the two lists
abbrev pub lists_text : Network → List Limit → List PhaseRun → List ℕ → List Kind → List ℕ
lists_text graph limits runs path kinds = path_head ++ (parts_text graph limits runs path ++ (kinds_head ++ kinds_text kinds))

-- the summary of phases with a critical path under some limits, the longest kinds, how long it would have taken without limits, and with no limit on something
abbrev pub summary_text_of : Network → List Limit → List PhaseRun → List ℕ → List Kind → ℕ → List Gain → List ℕ
summary_text_of graph limits runs path kinds soonest gains =
    if length runs == 0 then codes "no phase was run\n" else summary_opening (figures_of runs path soonest) gains ++ lists_text graph limits runs path kinds

-- A text is the summary of the phases of a graph with this critical path, whose parts sum to the time that the run took, under some limits: those on
-- categories are those of the files.
pub record IsSummary (graph : Network) (runs : List PhaseRun) (path text : List ℕ) : Type 0 where
  pub whole : PartsAreWhole runs path
  pub kinds : List Kind
  pub longest : AreLongest graph runs kinds
  pub soonest : ℕ
  pub is_soonest : IsSoonest graph runs soonest
  pub limits : List Limit
  pub are_limits : AreRoundLimits graph limits
  pub gains : List Gain
  pub gained : AreGains graph runs limits gains
  pub text_is : text ≡ summary_text_of graph limits runs path kinds soonest gains
