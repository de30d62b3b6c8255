-- What the parts of a rehearsal answer.
use Rattle.std.specs.Prelude.{◌≡◌, ℕ, List, Option, Some}
use Rattle.std.specs.Str.Lines.{lines}
use Rattle.node_machine.specs.OutcomeTable.{Entry}
use Rattle.node_machine.specs.OutcomesFile as outcomes_file
use Rattle.node_machine.specs.declared.outcomes.TableFault.TheVariants as table
use Rattle.run_plan.specs.Plan.{Plan}
use Rattle.node_machine.specs.declared.Record.{Record}
use Rattle.sched_core.specs.Run.{exit_status}
use Rattle.throttles.specs.declared.Limits.{Limits}
use Rattle.dag_main_rehearse.specs.Rehearsal.{IsRehearsed}
use Rattle.dag_main_rehearse.specs.Report.{report_of}
use Rattle.dag_main_check.specs.declared.fault.RunFault.{RunFault}
use Rattle.dag_main_check.specs.declared.fault.RunFault.TheVariants.{InTable, Memory}

-- the report and the exit status of a run of the plan under the limits, at the outcomes of the entries
pub record ReportsRun (limits : Limits) (plan : Plan) (entries : List Entry) (text : List ℕ) (status : ℕ) : Type 0 where
  pub past : List Record
  pub run : IsRehearsed limits plan entries past
  pub text_is : text ≡ report_of plan past status
  pub status_is : status ≡ exit_status plan past

-- why a text of outcomes is no table: the first of its lines that is not spelled rightly; or memory ran out
pub data IsTableFault (outcomes : Option (List ℕ)) : RunFault → Type 0 where
  bad_line : (text : List ℕ) (number : ℕ) → outcomes ≡ Some text → outcomes_file.IsFirstBadEntry (lines text) number →
      IsTableFault outcomes (InTable (table.BadLine number))
  reading_had_no_memory : IsTableFault outcomes Memory
