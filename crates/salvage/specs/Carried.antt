-- What a round has done, carried over into DAG files that were changed since, by the names of nodes.
use Rattle.std.specs.Prelude.{◌≡◌, ◌==◌, ◌-◌, ℕ, Bool, not, List, [], ◌++◌, length, map, filter, take, Option, IsTrue, codes, decimal, if◌then◌else◌}
use Rattle.std.specs.List.{count_by, flat_map, list_any}
use Rattle.std.specs.Option.{option_map}
use Rattle.std.specs.Str.{bytes_eq}
use Rattle.splices_flat.specs.Dag.{Dag}
use Rattle.splices_flat.specs.FileSet.{bytes_of, entries_of}
use Rattle.splices_flat.specs.declared.file_set.FileSet.{FileSet}
use Rattle.rescue_file.specs.Written.{ordinary_names, marked, rescue_text_of}
use Rattle.run_plan.specs.Plan.{Plan}
use Rattle.node_machine.specs.declared.Record.{Record}
use Rattle.sched_core.specs.Run.{chronological, is_lawful}
use Rattle.event_journal_log.specs.Image.{replay_of}
use Rattle.recovery_manager.specs.Rescue.{marks_of}
use Rattle.dag_main_check.specs.Planned.{IsPlanWith}
use Rattle.round_inputs.specs.Begun.{begun_text_of}
use Rattle.salvage.specs.Salvaged.{IsReplayOf}

-- The plan of a round of this digest by a text that keeps what it was begun with: it is that of the files of the text and its rescue file, with
-- their submit files, and has that digest.
pub record IsBegunPlan (always_post : Bool) (path digest begun : List ℕ) (plan : Plan) : Type 0 where
  pub files : FileSet
  pub rescue : Option (List ℕ × List ℕ)
  pub begun_is : begun ≡ begun_text_of digest (entries_of files) rescue
  pub planned : IsPlanWith always_post (bytes_of files) (entries_of files) path (option_map (λ file. file.1) rescue) plan
  pub digest_is : plan.digest ≡ digest

-- the names of the ordinary nodes of a plan that are done by these records, in plan order
abbrev pub done_names : Plan → List Record → List (List ℕ)
done_names plan past = marked (ordinary_names plan.graph.dag) (marks_of plan past)

-- whether a name is one of these
abbrev pub is_among_names : List (List ℕ) → List ℕ → Bool
is_among_names names name = list_any (bytes_eq name) names

-- one mark for each name: whether it is that of a node that is done
abbrev pub marks_by_name : List (List ℕ) → List (List ℕ) → List Bool
marks_by_name done names = map (is_among_names done) names

-- the names of nodes that are done, but for those that a DAG has
abbrev pub gone_names : List (List ℕ) → List (List ℕ) → List (List ℕ)
gone_names done names = filter (λ name. not (is_among_names names name)) done

-- The rescue file of changed DAG files: it marks each ordinary node whose name is that of an ordinary node of the old plan which is done by the
-- records of the journal's bytes, which are those of a run of that plan, and so many are. These names of nodes that are done are gone.
pub record IsCarriedOver (old : Plan) (journal : List ℕ) (dag : Dag) (text : List ℕ) (done : ℕ) (gone : List (List ℕ)) : Type 0 where
  pub past : List Record
  pub are_records : IsReplayOf (replay_of journal) (chronological past)
  pub lawful : IsTrue (is_lawful old past)
  pub text_is : text ≡ rescue_text_of (ordinary_names dag) (marks_by_name (done_names old past) (ordinary_names dag))
  pub done_is : done ≡ count_by (λ mark. mark) (marks_by_name (done_names old past) (ordinary_names dag))
  pub gone_are : gone ≡ gone_names (done_names old past) (ordinary_names dag)

-- `warning: NAME was done and is no longer in the DAG`
abbrev pub gone_line : List ℕ → List ℕ
gone_line name = codes "warning: " ++ (name ++ codes " was done and is no longer in the DAG\n")

-- `warning: and N more`, unless there are none
abbrev pub more_line : ℕ → List ℕ
more_line count = if count == 0 then [] else codes "warning: and " ++ (decimal count ++ codes " more\n")

-- the lines of names that are gone: of the first 20, and how many more there are
abbrev pub gone_lines : List (List ℕ) → List ℕ
gone_lines names = flat_map gone_line (take 20 names) ++ more_line (length names - 20)
