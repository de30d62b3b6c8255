-- A run that was led to its end by a table.
use Rattle.std.proofs.Common.{◌≡◌, ℕ, ◌≤◌, List, [], ◌∷◌, le-leb, sym, ◌∙◌, subst, true, arith, if◌then◌else◌}
use Rattle.std.specs.Prelude.{nat_le}
use Rattle.std.proofs.lemmas.Bool.{and_parts}
use Rattle.node_machine.specs.declared.Key.{Key}
use Rattle.node_machine.specs.declared.Phase.{Phase}
use Rattle.node_machine.specs.declared.Outcome.TheVariants.{Exit}
use Rattle.node_machine.specs.OutcomeTable.{Entry, SameOutcomes, outcome_at}
use Rattle.node_machine.specs.Story.{Table}
use Rattle.throttles.specs.declared.Limits.{Limits}
use Rattle.run_plan.specs.Plan.{Plan, node_at, count_of}
use Rattle.node_machine.specs.declared.Record.{Record}
use Rattle.node_machine.specs.declared.Record.TheVariants.{Life, Launch, End, Finish}
use Rattle.sched_core.specs.Run.{is_finished, is_lawful, may_follow}
use Rattle.sched_core.specs.Lives.{HasOutcomesOf}
use Rattle.sched_core.proofs.Finished.{lawful_part}
use Rattle.sched_core.proofs.Held.{end-within}
use Rattle.sched_core.proofs.LivesLemmas.{table-fates}
use Rattle.job_starter_drive.specs.declared.Call.{Call}
use Rattle.job_starter_drive.specs.Calls.{AllowsNoMore}
use Rattle.job_starter_drive.specs.Drives.{at_rest, no_step}
use Rattle.job_starter_drive.specs.Scripts.{scripted_outcome, IsScripted}
use Rattle.job_starter_drive.proofs.Outcomes.{drives-outcomes}
use Rattle.job_starter_drive.proofs.Walks.{goes-then}
use Rattle.run_round.specs.RunToEnd.{DrivesToEnd}
use Rattle.fate_audit.specs.Fates.{table_by}
use Rattle.dag_main_rehearse.specs.Rehearsal.{IsRehearsed}

-- endings of nodes of the plan have the outcomes of each table that says the same of these
same-endings : (plan : Plan) (table other : Table)
    → ((node attempt : ℕ) (phase : Phase) → node ≤ count_of plan → table node attempt phase ≡ other node attempt phase)
    → (past : List Record) → is_lawful plan past ≡ true → HasOutcomesOf plan table past → HasOutcomesOf plan other past
same-endings plan table other same [] lawful has = tt
same-endings plan table other same (Life ∷ past) lawful has = same-endings plan table other same past (and_parts _ _ lawful).0 has
same-endings plan table other same (Launch key number ∷ past) lawful has = same-endings plan table other same past (and_parts _ _ lawful).0 has
same-endings plan table other same (Finish status ∷ past) lawful has = same-endings plan table other same past (and_parts _ _ lawful).0 has
same-endings plan table other same (End key outcome ∷ past) lawful has =
    let parts = and_parts (is_lawful plan past) (may_follow plan past (End key outcome)) lawful in
    let within = end-within plan past key outcome parts.0 parts.1 in
    ((λ plain. sym (same key.node key.attempt key.phase (omega arith)) ∙ has.0 plain), same-endings plan table other same past parts.0 has.1)

-- what a script says of each node
abbrev scripted : Plan → List Entry → Table
scripted plan entries node attempt phase = scripted_outcome plan entries (record { node = node; attempt = attempt; phase = phase })

scripted-node : (plan : Plan) (entries : List Entry) (node attempt : ℕ) (phase : Phase) → node ≤ count_of plan
    → scripted plan entries node attempt phase ≡ table_by plan entries node attempt phase
scripted-node plan entries node attempt phase within =
    λ j. if le-leb node (count_of plan) within j then outcome_at entries (node_at plan node).name attempt phase else Exit 0

-- the steps of a script have the table's endings
told-by : (limits : Limits) (plan : Plan) (entries : List Entry) (past : List Record) (calls : List Call)
    → DrivesToEnd limits plan (IsScripted plan entries []) (Life ∷ []) [] past calls → is_finished plan past ≡ true → HasOutcomesOf plan (table_by plan entries) past
told-by limits plan entries past calls d finished =
    same-endings plan (scripted plan entries) (table_by plan entries) (scripted-node plan entries) past (lawful_part plan past finished)
    (subst (HasOutcomesOf plan (scripted plan entries)) (sym d.ended)
    (drives-outcomes limits plan (IsScripted plan entries []) (scripted plan entries) (λ told key outcome is. sym is.by_table) (Life ∷ []) [] d.between calls d.steps tt))

whole : (limits : Limits) (plan : Plan) (entries : List Entry) (past : List Record) (calls : List Call)
    → DrivesToEnd limits plan (IsScripted plan entries []) (Life ∷ []) [] past calls → is_finished plan past ≡ true → IsRehearsed limits plan entries past
whole limits plan entries past calls d finished =
    let outcomes = told-by limits plan entries past calls d finished in
    record {
      calls = calls;
      steps = d;
      finished = finished;
      outcomes = outcomes;
      fates = λ abort_free. table-fates plan (table_by plan entries) past (record { finished = finished; abort_free = abort_free; outcomes = outcomes });
    }

-- the same in the words of the calls
pub rehearsed : (limits limits' : Limits) → limits' ≡ limits → (plan plan' own : Plan) → plan' ≡ plan → own ≡ plan
    → (entries entries' : List Entry) → entries' ≡ entries → (places : List ℕ) → places ≡ []
    → (begun : List Record) → begun ≡ Life ∷ [] → (told : List Call) → told ≡ [] → (past : List Record) (calls : List Call)
    → DrivesToEnd limits' plan' (IsScripted own entries' places) begun told past calls → is_finished plan past ≡ true → IsRehearsed limits plan entries past
rehearsed limits limits' l plan plan' own p o entries entries' e places none begun b told t past calls d finished =
    whole limits plan entries past calls
    (subst (λ (x : Limits). DrivesToEnd x plan (IsScripted plan entries []) (Life ∷ []) [] past calls) l
    (subst (λ (x : Plan). DrivesToEnd limits' x (IsScripted plan entries []) (Life ∷ []) [] past calls) p
    (subst (λ (x : Plan). DrivesToEnd limits' plan' (IsScripted x entries []) (Life ∷ []) [] past calls) o
    (subst (λ (x : List Entry). DrivesToEnd limits' plan' (IsScripted own x []) (Life ∷ []) [] past calls) e
    (subst (λ (x : List ℕ). DrivesToEnd limits' plan' (IsScripted own entries' x) (Life ∷ []) [] past calls) none
    (subst (λ (x : List Record). DrivesToEnd limits' plan' (IsScripted own entries' places) x [] past calls) b
    (subst (λ (x : List Call). DrivesToEnd limits' plan' (IsScripted own entries' places) begun x past calls) t d)))))))
    finished

-- Entries that say the same outcomes are one script.
module _ (plan : Plan) (table entries : List Entry) (same : SameOutcomes table entries) where
  same-outcome : (key : Key) → scripted_outcome plan table key ≡ scripted_outcome plan entries key
  same-outcome key = λ j. if nat_le key.node (count_of plan) then same (node_at plan key.node).name key.attempt key.phase j else Exit 0

  pub same-script : AllowsNoMore (IsScripted plan entries []) (IsScripted plan table [])
  same-script = ((λ told key outcome is. record { by_table = is.by_table ∙ same-outcome key; oldest_first = is.oldest_first }), (λ is. is), (λ is. is))

  pub same-run : (limits : Limits) (past : List Record) → IsRehearsed limits plan table past → IsRehearsed limits plan entries past
  same-run limits past r = whole limits plan entries past r.calls
      (record {
        between = r.steps.between;
        status = r.steps.status;
        steps = goes-then limits plan (IsScripted plan entries []) (IsScripted plan table []) same-script (at_rest (Life ∷ []) []) (at_rest (Life ∷ []) []) (at_rest r.steps.between r.calls) no_step r.steps.steps;
        chosen = r.steps.chosen;
        ended = r.steps.ended;
      })
      r.finished
