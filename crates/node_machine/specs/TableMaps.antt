-- How the maps of a table hold its entries.
use Rattle.std.specs.Prelude.{◌≡◌, ℕ, ◌==◌, List, [], ◌∷◌, ◌++◌, Some, unwrap_or, if◌then◌else◌, string_bytes, String}
use Rattle.std.specs.Global.{Global}
use Rattle.std.specs.BTreeMap.{BTreeMap, get}
use Rattle.std.specs.Ordering.{nat_cmp}
use Rattle.node_machine.specs.declared.Phase.{Phase}
use Rattle.node_machine.specs.declared.Phase.TheVariants.{Pre, Job, Post}
use Rattle.node_machine.specs.declared.Outcome.{Outcome}
use Rattle.node_machine.specs.declared.Outcome.TheVariants.{Exit}
use Rattle.node_machine.specs.declared.table.PhaseOutcomes.{PhaseOutcomes}
use Rattle.node_machine.specs.declared.table.NamedOutcome.{NamedOutcome}
use Rattle.node_machine.specs.OutcomeTable.{Entry}

-- the outcome of one phase of an attempt
abbrev pub phase_outcome : Phase → PhaseOutcomes → Outcome
phase_outcome Pre outcomes = outcomes.pre
phase_outcome Job outcomes = outcomes.job
phase_outcome Post outcomes = outcomes.post

-- an attempt with this outcome of one of its phases
abbrev pub with_outcome : Phase → Outcome → PhaseOutcomes → PhaseOutcomes
with_outcome Pre outcome outcomes = record outcomes { pre = outcome }
with_outcome Job outcome outcomes = record outcomes { job = outcome }
with_outcome Post outcome outcomes = record outcomes { post = outcome }

-- an attempt each of whose phases ends with Exit 0
abbrev pub exit_0 : PhaseOutcomes
exit_0 = record { pre = Exit 0; job = Exit 0; post = Exit 0 }

-- The new attempts of a node have the outcome at its key, and at each other key what the old ones have.
abbrev pub PutsOutcome : BTreeMap ℕ PhaseOutcomes → NamedOutcome → BTreeMap ℕ PhaseOutcomes → Type 0
PutsOutcome old named new = (q : ℕ) → get nat_cmp new q ≡
    (if q == named.attempt
    then Some (with_outcome named.phase named.outcome (unwrap_or (get nat_cmp old q) exit_0))
    else get nat_cmp old q)

-- the entry that an outcome and its key are
abbrev pub entry_of : NamedOutcome → Entry
entry_of named = record {
  name = named.name.now;
  attempt = named.attempt;
  phase = named.phase;
  outcome = named.outcome;
}

-- the entry of one phase of an attempt
abbrev pub phase_entry : List ℕ → ℕ → PhaseOutcomes → Phase → Entry
phase_entry name attempt outcomes phase = record {
  name = name;
  attempt = attempt;
  phase = phase;
  outcome = phase_outcome phase outcomes;
}

-- the entries of one attempt
abbrev pub attempt_entries : List ℕ → ℕ → PhaseOutcomes → List Entry
attempt_entries name attempt outcomes =
    phase_entry name attempt outcomes Pre ∷ phase_entry name attempt outcomes Job
    ∷ phase_entry name attempt outcomes Post ∷ []

-- the entries of a node's attempts, the last attempt first
unfoldable pub node_entries : List ℕ → List (ℕ × PhaseOutcomes) → List Entry
node_entries name [] = []
node_entries name (a ∷ attempts) = node_entries name attempts ++ attempt_entries name a.0 a.1

-- the entries of all nodes
unfoldable pub table_entries : List (String Global × BTreeMap ℕ PhaseOutcomes) → List Entry
table_entries [] = []
table_entries (node ∷ nodes) =
    table_entries nodes ++ node_entries (string_bytes node.0) node.1.entries
