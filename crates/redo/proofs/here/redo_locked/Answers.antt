use Rattle.std.proofs.Common.{ℕ, List, Option, Bor, map, refl, subst, string_bytes}
use Rattle.std.proofs.lemmas.Result.{IfOk-weaker}
use Rattle.node_machine.specs.declared.Record.{Record}
use Rattle.run_plan.specs.Plan.{Plan}
use Rattle.dag_main_check.proofs.Refusals.{weaker}
use Rattle.dag_main_files.specs.Folder.{any_paths, these_paths}
use Rattle.dag_main_files.specs.Opened.{changing, fixed}
use Rattle.dag_main_files.proofs.RunFaults.{by-fault}
use Rattle.dag_main_inspect.specs.Statused.{journal_bytes}
use Rattle.dag_main_inspect.specs.LastRound.{not_opened}
use Rattle.dag_main_inspect.specs.Asked.{TellsOfNoRun}
use Rattle.dag_main_inspect.proofs.Rounds.{refused-of-round, no-memory, of-records}
use Rattle.redo.specs.Numbers.{IsNextNumber}
use Rattle.redo.specs.Answered.{IsFoundOfNames, IsRedoReport, IsRedoAnswer, IsNotWritten, redone, IsNoRedo, not_answered, not_written}
use Rattle.redo.specs.Changes.{WritesMarks, WritesRedone, by_last_round, no_such_node}
use Rattle.redo.proofs.Changes.{marks-as, redone-unchanged}
use Rattle.redo.proofs.Answers.{redone-so, unknown-so, written-so}
use Rattle.redo.proofs.here.redo_locked.Goals as goal

pub returns-in_err-round-clause-refused : goal.returns-in_err-round-clause-refused
returns-in_err-round-clause-refused g c =
    by-fault (IsNoRedo changing c.args.place.now.top.now) c.in_err-round.field-0.0 (not_answered _ (not_opened _ c.in_err-round.ensures.refused))
    c.from_residual.result c.from_residual.ensures.1

pub returns-in_err-round-clause-refused_held : goal.returns-in_err-round-clause-refused_held
returns-in_err-round-clause-refused_held g c = λ honest.
    by-fault (IsNoRedo (fixed (g.F.Folder.holds c.args.folder.now)) c.args.place.now.top.now) c.in_err-round.field-0.0 (not_answered _ (not_opened _ (c.in_err-round.ensures.refused_held honest)))
    c.from_residual.result c.from_residual.ensures.1

pub returns-in_err-core-clause-refused : goal.returns-in_err-core-clause-refused
returns-in_err-core-clause-refused g c =
    by-fault (IsNoRedo changing c.args.place.now.top.now) c.in_err-core.field-0.0 (not_answered _ (refused-of-round changing c.args.place.now.top.now c.in_ok-round.round.plan c.in_ok-round.round.journal c.in_ok-round.ensures.opened TellsOfNoRun _ c.in_err-core.ensures.refused))
    c.from_residual-in_err-core.result c.from_residual-in_err-core.ensures.1

pub returns-in_err-core-clause-refused_held : goal.returns-in_err-core-clause-refused_held
returns-in_err-core-clause-refused_held g c = λ honest.
    by-fault (IsNoRedo (fixed (g.F.Folder.holds c.args.folder.now)) c.args.place.now.top.now) c.in_err-core.field-0.0 (not_answered _ (refused-of-round (fixed (g.F.Folder.holds c.args.folder.now)) c.args.place.now.top.now c.in_ok-round.round.plan c.in_ok-round.round.journal (c.in_ok-round.ensures.held honest) TellsOfNoRun _ c.in_err-core.ensures.refused))
    c.from_residual-in_err-core.result c.from_residual-in_err-core.ensures.1

pub returns-in_err-found-clause-refused : goal.returns-in_err-found-clause-refused
returns-in_err-found-clause-refused g c =
    by-fault (IsNoRedo changing c.args.place.now.top.now) c.in_err-found.field-0.0 (not_answered _ (no-memory changing c.args.place.now.top.now c.in_ok-round.round.plan c.in_ok-round.round.journal c.in_ok-round.ensures.opened _ c.in_err-found.ensures.err))
    c.from_residual-in_err-found.result c.from_residual-in_err-found.ensures.1

pub returns-in_err-found-clause-refused_held : goal.returns-in_err-found-clause-refused_held
returns-in_err-found-clause-refused_held g c = λ honest.
    by-fault (IsNoRedo (fixed (g.F.Folder.holds c.args.folder.now)) c.args.place.now.top.now) c.in_err-found.field-0.0 (not_answered _ (no-memory (fixed (g.F.Folder.holds c.args.folder.now)) c.args.place.now.top.now c.in_ok-round.round.plan c.in_ok-round.round.journal (c.in_ok-round.ensures.held honest) _ c.in_err-found.ensures.err))
    c.from_residual-in_err-found.result c.from_residual-in_err-found.ensures.1

pub returns-in-Marked-clause-redone : goal.returns-in-Marked-clause-redone
returns-in-Marked-clause-redone g c =
    IfOk-weaker c.write_marked.result _ _ (λ answer r. redone (of-records changing c.args.place.now.top.now c.in_ok-round.round.plan c.in_ok-round.round.journal c.in_ok-round.ensures.opened
    c.in_ok-core.core c.in_ok-core.ensures.plan c.in_ok-core.ensures.records c.in_ok-core.ensures.lawful
    (λ (p : Plan) (j : Option (List ℕ)) (past : List Record). IsRedoAnswer (IsNextNumber any_paths c.args.place.now.top.now (journal_bytes j)) p past c.args.place.now.top.now (map (λ (n : Bor (List ℕ)). n.now) c.args.names.now) c.args.only (string_bytes answer.text) (string_bytes answer.warnings) answer.status)
    (redone-so any_paths c.in_ok-core.core.plan c.in_ok-core.core.past c.args.place.now.top.now c.in_ok-round.round.journal (map (λ (n : Bor (List ℕ)). n.now) c.args.names.now) c.args.only c.in-Marked.marked _ _ _
    (subst (λ (b : List ℕ). IsRedoReport (IsNextNumber any_paths c.args.place.now.top.now b) c.args.place.now.top.now c.in-Marked.marked.redone.done c.in-Marked.marked.total (string_bytes c.in-Marked.marked.warnings) (string_bytes answer.text) (string_bytes answer.warnings) answer.status)
    c.bytes.ensures r)
    (subst (IsFoundOfNames c.in_ok-core.core.plan c.in_ok-core.core.past c.args.place.now.top.now (map (λ (n : Bor (List ℕ)). n.now) c.args.names.now) c.args.only) c.in-Marked.is c.in_ok-found.ensures.found)))) c.write_marked.ensures.report

pub returns-in-Marked-clause-held : goal.returns-in-Marked-clause-held
returns-in-Marked-clause-held g c = λ honest.
    IfOk-weaker c.write_marked.result _ _ (λ answer r. redone (of-records (fixed (g.F.Folder.holds c.args.folder.now)) c.args.place.now.top.now c.in_ok-round.round.plan c.in_ok-round.round.journal (c.in_ok-round.ensures.held honest)
    c.in_ok-core.core c.in_ok-core.ensures.plan c.in_ok-core.ensures.records c.in_ok-core.ensures.lawful
    (λ (p : Plan) (j : Option (List ℕ)) (past : List Record). IsRedoAnswer (IsNextNumber (these_paths (g.F.Folder.has c.args.folder.now)) c.args.place.now.top.now (journal_bytes j)) p past c.args.place.now.top.now (map (λ (n : Bor (List ℕ)). n.now) c.args.names.now) c.args.only (string_bytes answer.text) (string_bytes answer.warnings) answer.status)
    (redone-so (these_paths (g.F.Folder.has c.args.folder.now)) c.in_ok-core.core.plan c.in_ok-core.core.past c.args.place.now.top.now c.in_ok-round.round.journal (map (λ (n : Bor (List ℕ)). n.now) c.args.names.now) c.args.only c.in-Marked.marked _ _ _
    (subst (λ (b : List ℕ). IsRedoReport (IsNextNumber (these_paths (g.F.Folder.has c.args.folder.now)) c.args.place.now.top.now b) c.args.place.now.top.now c.in-Marked.marked.redone.done c.in-Marked.marked.total (string_bytes c.in-Marked.marked.warnings) (string_bytes answer.text) (string_bytes answer.warnings) answer.status)
    c.bytes.ensures r)
    (subst (IsFoundOfNames c.in_ok-core.core.plan c.in_ok-core.core.past c.args.place.now.top.now (map (λ (n : Bor (List ℕ)). n.now) c.args.names.now) c.args.only) c.in-Marked.is c.in_ok-found.ensures.found)))) (c.write_marked.ensures.held honest)

pub returns-in-Marked-clause-refused : goal.returns-in-Marked-clause-refused
returns-in-Marked-clause-refused g c =
    weaker (IsNoRedo changing c.args.place.now.top.now) c.write_marked.result c.write_marked.ensures.refused
    (λ fault why. not_written c.in_ok-round.round.journal fault c.in_ok-round.ensures.opened.last.journal_is (subst (λ (b : List ℕ). IsNotWritten c.args.place.now.top.now b fault) c.bytes.ensures why))

pub returns-in-Marked-clause-refused_held : goal.returns-in-Marked-clause-refused_held
returns-in-Marked-clause-refused_held g c = λ honest.
    weaker (IsNoRedo (fixed (g.F.Folder.holds c.args.folder.now)) c.args.place.now.top.now) c.write_marked.result c.write_marked.ensures.refused
    (λ fault why. not_written c.in_ok-round.round.journal fault (c.in_ok-round.ensures.held honest).last.journal_is (subst (λ (b : List ℕ). IsNotWritten c.args.place.now.top.now b fault) c.bytes.ensures why))

pub returns-clause-redone : goal.returns-clause-redone
returns-clause-redone g c =
    redone (of-records changing c.args.place.now.top.now c.in_ok-round.round.plan c.in_ok-round.round.journal c.in_ok-round.ensures.opened
    c.in_ok-core.core c.in_ok-core.ensures.plan c.in_ok-core.ensures.records c.in_ok-core.ensures.lawful
    (λ (p : Plan) (j : Option (List ℕ)) (past : List Record). IsRedoAnswer (IsNextNumber any_paths c.args.place.now.top.now (journal_bytes j)) p past c.args.place.now.top.now (map (λ (n : Bor (List ℕ)). n.now) c.args.names.now) c.args.only (string_bytes c.new.result) (string_bytes c.in-Unknown.line) 125)
    (unknown-so any_paths c.in_ok-core.core.plan c.in_ok-core.core.past c.args.place.now.top.now c.in_ok-round.round.journal (map (λ (n : Bor (List ℕ)). n.now) c.args.names.now) c.args.only c.in-Unknown.line _ c.new.ensures.bytes (subst (IsFoundOfNames c.in_ok-core.core.plan c.in_ok-core.core.past c.args.place.now.top.now (map (λ (n : Bor (List ℕ)). n.now) c.args.names.now) c.args.only) c.in-Unknown.is c.in_ok-found.ensures.found)))

pub returns-clause-held : goal.returns-clause-held
returns-clause-held g c = λ honest.
    redone (of-records (fixed (g.F.Folder.holds c.args.folder.now)) c.args.place.now.top.now c.in_ok-round.round.plan c.in_ok-round.round.journal (c.in_ok-round.ensures.held honest)
    c.in_ok-core.core c.in_ok-core.ensures.plan c.in_ok-core.ensures.records c.in_ok-core.ensures.lawful
    (λ (p : Plan) (j : Option (List ℕ)) (past : List Record). IsRedoAnswer (IsNextNumber (these_paths (g.F.Folder.has c.args.folder.now)) c.args.place.now.top.now (journal_bytes j)) p past c.args.place.now.top.now (map (λ (n : Bor (List ℕ)). n.now) c.args.names.now) c.args.only (string_bytes c.new.result) (string_bytes c.in-Unknown.line) 125)
    (unknown-so (these_paths (g.F.Folder.has c.args.folder.now)) c.in_ok-core.core.plan c.in_ok-core.core.past c.args.place.now.top.now c.in_ok-round.round.journal (map (λ (n : Bor (List ℕ)). n.now) c.args.names.now) c.args.only c.in-Unknown.line _ c.new.ensures.bytes (subst (IsFoundOfNames c.in_ok-core.core.plan c.in_ok-core.core.past c.args.place.now.top.now (map (λ (n : Bor (List ℕ)). n.now) c.args.names.now) c.args.only) c.in-Unknown.is c.in_ok-found.ensures.found)))

pub returns-in_err-round-clause-changes : goal.returns-in_err-round-clause-changes
returns-in_err-round-clause-changes g c =
    redone-unchanged changing any_paths c.args.place.now.top.now
    (map (λ (n : Bor (List ℕ)). n.now) c.args.names.now) c.args.only _ c.from_residual.result c.from_residual.ensures.1 c.args.changes.now

pub returns-in_err-core-clause-changes : goal.returns-in_err-core-clause-changes
returns-in_err-core-clause-changes g c =
    redone-unchanged changing any_paths c.args.place.now.top.now
    (map (λ (n : Bor (List ℕ)). n.now) c.args.names.now) c.args.only _ c.from_residual-in_err-core.result c.from_residual-in_err-core.ensures.1 c.args.changes.now

pub returns-in_err-found-clause-changes : goal.returns-in_err-found-clause-changes
returns-in_err-found-clause-changes g c =
    redone-unchanged changing any_paths c.args.place.now.top.now
    (map (λ (n : Bor (List ℕ)). n.now) c.args.names.now) c.args.only _ c.from_residual-in_err-found.result c.from_residual-in_err-found.ensures.1 c.args.changes.now

pub returns-in-Marked-clause-changes : goal.returns-in-Marked-clause-changes
returns-in-Marked-clause-changes g c =
    let top = c.args.place.now.top.now in
    let names = map (λ (n : Bor (List ℕ)). n.now) c.args.names.now in
    let journal = c.in_ok-round.round.journal in
    let core = c.in_ok-core.core in
    let made_of = c.in-Marked.marked.redone in
    let total = c.in-Marked.marked.total in
    let made = subst (λ (b : List ℕ). WritesMarks (IsNextNumber any_paths top b) top b (string_bytes made_of.text) made_of.done total c.write_marked.result
    c.args.changes.now c.write_marked.new.changes) c.bytes.ensures
    (marks-as (λ (number : ℕ). IsNextNumber any_paths top c.bytes.result.now number
    × (g.F.Folder.honest c.args.folder.now → IsNextNumber (these_paths (g.F.Folder.has c.args.folder.now)) top c.bytes.result.now number)) (IsNextNumber any_paths top c.bytes.result.now) (λ number is. is.0) top c.bytes.result.now (string_bytes made_of.text) made_of.done total
    c.write_marked.result c.args.changes.now c.write_marked.new.changes c.write_marked.ensures.changes) in
    by_last_round _ _ _ (of-records changing top c.in_ok-round.round.plan journal c.in_ok-round.ensures.opened core c.in_ok-core.ensures.plan c.in_ok-core.ensures.records
    c.in_ok-core.ensures.lawful
    (λ (p : Plan) (j : Option (List ℕ)) (past : List Record). WritesRedone any_paths top names c.args.only c.write_marked.result c.args.changes.now
    c.write_marked.new.changes p j past)
    (written-so any_paths core.plan core.past top journal names c.args.only c.in-Marked.marked c.write_marked.result c.args.changes.now c.write_marked.new.changes made
    (subst (IsFoundOfNames core.plan core.past top names c.args.only) c.in-Marked.is c.in_ok-found.ensures.found)))

pub returns-clause-changes : goal.returns-clause-changes
returns-clause-changes g c = no_such_node _ c.args.changes.now c.args.changes.now refl refl

pub returns-in_err-round-clause-changes_held : goal.returns-in_err-round-clause-changes_held
returns-in_err-round-clause-changes_held g c = λ honest.
    redone-unchanged (fixed (g.F.Folder.holds c.args.folder.now)) (these_paths (g.F.Folder.has c.args.folder.now)) c.args.place.now.top.now
    (map (λ (n : Bor (List ℕ)). n.now) c.args.names.now) c.args.only _ c.from_residual.result c.from_residual.ensures.1 c.args.changes.now

pub returns-in_err-core-clause-changes_held : goal.returns-in_err-core-clause-changes_held
returns-in_err-core-clause-changes_held g c = λ honest.
    redone-unchanged (fixed (g.F.Folder.holds c.args.folder.now)) (these_paths (g.F.Folder.has c.args.folder.now)) c.args.place.now.top.now
    (map (λ (n : Bor (List ℕ)). n.now) c.args.names.now) c.args.only _ c.from_residual-in_err-core.result c.from_residual-in_err-core.ensures.1 c.args.changes.now

pub returns-in_err-found-clause-changes_held : goal.returns-in_err-found-clause-changes_held
returns-in_err-found-clause-changes_held g c = λ honest.
    redone-unchanged (fixed (g.F.Folder.holds c.args.folder.now)) (these_paths (g.F.Folder.has c.args.folder.now)) c.args.place.now.top.now
    (map (λ (n : Bor (List ℕ)). n.now) c.args.names.now) c.args.only _ c.from_residual-in_err-found.result c.from_residual-in_err-found.ensures.1 c.args.changes.now

pub returns-in-Marked-clause-changes_held : goal.returns-in-Marked-clause-changes_held
returns-in-Marked-clause-changes_held g c = λ honest.
    let top = c.args.place.now.top.now in
    let names = map (λ (n : Bor (List ℕ)). n.now) c.args.names.now in
    let journal = c.in_ok-round.round.journal in
    let core = c.in_ok-core.core in
    let made_of = c.in-Marked.marked.redone in
    let total = c.in-Marked.marked.total in
    let made = subst (λ (b : List ℕ). WritesMarks (IsNextNumber (these_paths (g.F.Folder.has c.args.folder.now)) top b) top b (string_bytes made_of.text) made_of.done total c.write_marked.result
    c.args.changes.now c.write_marked.new.changes) c.bytes.ensures
    (marks-as (λ (number : ℕ). IsNextNumber any_paths top c.bytes.result.now number
    × (g.F.Folder.honest c.args.folder.now → IsNextNumber (these_paths (g.F.Folder.has c.args.folder.now)) top c.bytes.result.now number)) (IsNextNumber (these_paths (g.F.Folder.has c.args.folder.now)) top c.bytes.result.now) (λ number is. is.1 honest) top c.bytes.result.now (string_bytes made_of.text) made_of.done total
    c.write_marked.result c.args.changes.now c.write_marked.new.changes c.write_marked.ensures.changes) in
    by_last_round _ _ _ (of-records (fixed (g.F.Folder.holds c.args.folder.now)) top c.in_ok-round.round.plan journal (c.in_ok-round.ensures.held honest) core c.in_ok-core.ensures.plan c.in_ok-core.ensures.records
    c.in_ok-core.ensures.lawful
    (λ (p : Plan) (j : Option (List ℕ)) (past : List Record). WritesRedone (these_paths (g.F.Folder.has c.args.folder.now)) top names c.args.only c.write_marked.result c.args.changes.now
    c.write_marked.new.changes p j past)
    (written-so (these_paths (g.F.Folder.has c.args.folder.now)) core.plan core.past top journal names c.args.only c.in-Marked.marked c.write_marked.result c.args.changes.now c.write_marked.new.changes made
    (subst (IsFoundOfNames core.plan core.past top names c.args.only) c.in-Marked.is c.in_ok-found.ensures.found)))

pub returns-clause-changes_held : goal.returns-clause-changes_held
returns-clause-changes_held g c = λ honest. no_such_node _ c.args.changes.now c.args.changes.now refl refl
