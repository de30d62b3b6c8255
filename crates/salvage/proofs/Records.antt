-- The records of a journal, whatever it is a journal of.
use Rattle.std.proofs.Common.{◌≡◌, ◌∙◌, ℕ, List, [], Bool, true, Option, Some, None, Result, Ok, Err, IfOk, string_bytes, unwrap_or, refl, sym, ap, subst}
use Rattle.std.specs.List.{count_by}
use Rattle.run_plan.specs.Plan.{Plan}
use Rattle.sched_core.specs.Core.{Progress}
use Rattle.sched_core.specs.Run.{chronological, is_lawful}
use Rattle.recovery_manager.specs.Rescue.{marks_of, rescue_text_for}
use Rattle.dag_main_check.specs.declared.fault.RunFault.{RunFault}
use Rattle.node_machine.specs.declared.Record.{Record}
use Rattle.event_journal_log.specs.Image.{replay_of}
use Rattle.event_journal_log.specs.Journal.{Replay}
use Rattle.event_journal_log.specs.Reading.{ReadsRecords, replay_for}
use Rattle.event_journal_log.proofs.Readings.{replay_for-ok}
use Rattle.splices_flat.specs.Dag.{Dag}
use Rattle.rescue_file.specs.Written.{ordinary_names, rescue_text_of}
use Rattle.salvage.specs.Salvaged.{IsReplayOf, IsSalvaged}
use Rattle.salvage.specs.Carried.{done_names, marks_by_name, gone_names, IsCarriedOver}
use Rattle.salvage.specs.declared.carried.Carried.{Carried}
use Rattle.salvage.specs.declared.rescue.Salvaged.{Salvaged}

-- the records that were read for some digest and some flag
pub records-read : (digest : List ℕ) (flag : Bool) (bytes : List ℕ) (read : Option (List Record)) → ReadsRecords read (replay_for digest flag bytes)
    → IsReplayOf (replay_of bytes) (unwrap_or read [])
records-read digest flag bytes None is = subst (λ (r : Replay). IsReplayOf r []) (sym (replay_for-ok digest flag bytes None is)) refl
records-read digest flag bytes (Some records) (found, is, same) =
    subst (λ (r : Replay). IsReplayOf r records) (sym (replay_for-ok digest flag bytes (Some found) is)) same

-- what the text of a core's rescue file says of the records of a journal
pub salvaged-of : (plan : Plan) (journal : List ℕ) (records : List Record) (core : Progress) → IsReplayOf (replay_of journal) records → core.plan ≡ plan
    → records ≡ chronological core.past → is_lawful core.plan core.past ≡ true → (result : Result Salvaged RunFault)
    → IfOk result (λ (s : Salvaged). string_bytes s.text ≡ rescue_text_for core.plan core.past)
    → IfOk result (λ (s : Salvaged). s.done ≡ count_by (λ mark. mark) (marks_of core.plan core.past))
    → IfOk result (λ (s : Salvaged). IsSalvaged plan journal (string_bytes s.text) s.done)
salvaged-of plan journal records core are p r lawful (Ok s) text done = record {
  past = core.past;
  are_records = subst (IsReplayOf (replay_of journal)) r are;
  lawful = subst (λ (q : Plan). is_lawful q core.past ≡ true) p lawful;
  text_is = text ∙ (λ j. rescue_text_for (p j) core.past);
  done_is = done ∙ (λ j. count_by (λ mark. mark) (marks_of (p j) core.past));
}
salvaged-of plan journal records core are p r lawful (Err fault) text done = tt

-- what is carried over of a core's records, which are those of a journal
pub carried-of : (old : Plan) (journal : List ℕ) (dag : Dag) (records : List Record) (core : Progress) (names : List (List ℕ)) → IsReplayOf (replay_of journal) records
    → core.plan ≡ old → records ≡ chronological core.past → is_lawful core.plan core.past ≡ true → names ≡ done_names core.plan core.past → (result : Result Carried RunFault)
    → IfOk result (λ (s : Carried). string_bytes s.text ≡ rescue_text_of (ordinary_names dag) (marks_by_name names (ordinary_names dag)))
    → IfOk result (λ (s : Carried). s.done ≡ count_by (λ mark. mark) (marks_by_name names (ordinary_names dag)))
    → IfOk result (λ (s : Carried). s.gone.items ≡ gone_names names (ordinary_names dag))
    → IfOk result (λ (s : Carried). IsCarriedOver old journal dag (string_bytes s.text) s.done s.gone.items)
carried-of old journal dag records core names are p r lawful named (Ok s) text done gone =
    let same : names ≡ done_names old core.past = named ∙ (λ j. done_names (p j) core.past) in
    record {
      past = core.past;
      are_records = subst (IsReplayOf (replay_of journal)) r are;
      lawful = subst (λ (q : Plan). is_lawful q core.past ≡ true) p lawful;
      text_is = text ∙ ap (λ (ns : List (List ℕ)). rescue_text_of (ordinary_names dag) (marks_by_name ns (ordinary_names dag))) same;
      done_is = done ∙ ap (λ (ns : List (List ℕ)). count_by (λ mark. mark) (marks_by_name ns (ordinary_names dag))) same;
      gone_are = gone ∙ ap (λ (ns : List (List ℕ)). gone_names ns (ordinary_names dag)) same;
    }
carried-of old journal dag records core names are p r lawful named (Err fault) text done gone = tt
