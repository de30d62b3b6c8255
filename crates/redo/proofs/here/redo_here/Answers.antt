use Rattle.std.proofs.Common.{ℕ, List, Bor, ◌∙◌, map, ap, refl, sym, subst}
use Rattle.std.proofs.lemmas.Result.{IfOk-weaker}
use Rattle.dag_main_check.specs.declared.fault.RunFault.TheVariants.{Memory}
use Rattle.dag_main_files.specs.Folder.{any_paths, these_paths}
use Rattle.dag_main_files.specs.Opened.{changing, fixed}
use Rattle.dag_main_files.proofs.RunFaults.{by-fault, memory-alone}
use Rattle.redo.proofs.Changes.{none-told, redo-unchanged, redone-under-lock}
use Rattle.redo.specs.Answered.{IsNoRedo, kept_out, has_no_round, IsKeptOut, by_other_files, by_another_manager, looking_had_no_memory}
use Rattle.redo.proofs.here.redo_here.Goals as goal

pub returns-in_err-journal-clause-refused : goal.returns-in_err-journal-clause-refused
returns-in_err-journal-clause-refused g c =
    by-fault (IsNoRedo changing c.args.place.now.top.now) Memory (kept_out _ looking_had_no_memory) c.from_residual.result c.from_residual.ensures.1

pub returns-in_err-journal-clause-refused_held : goal.returns-in_err-journal-clause-refused_held
returns-in_err-journal-clause-refused_held g c = λ honest.
    by-fault (IsNoRedo (fixed (g.F.Folder.holds c.args.folder.now)) c.args.place.now.top.now) Memory (kept_out _ looking_had_no_memory) c.from_residual.result c.from_residual.ensures.1

pub returns-in_err-is_there-clause-refused : goal.returns-in_err-is_there-clause-refused
returns-in_err-is_there-clause-refused g c =
    by-fault (IsNoRedo changing c.args.place.now.top.now) c.in_err-is_there.field-0.0
    (kept_out _ (subst (IsKeptOut c.args.place.now.top.now) (sym c.in_err-is_there.ensures.refused) looking_had_no_memory))
    c.from_residual-in_err-is_there.result c.from_residual-in_err-is_there.ensures.1

pub returns-in_err-is_there-clause-refused_held : goal.returns-in_err-is_there-clause-refused_held
returns-in_err-is_there-clause-refused_held g c = λ honest.
    by-fault (IsNoRedo (fixed (g.F.Folder.holds c.args.folder.now)) c.args.place.now.top.now) c.in_err-is_there.field-0.0
    (kept_out _ (subst (IsKeptOut c.args.place.now.top.now) (sym c.in_err-is_there.ensures.refused) looking_had_no_memory))
    c.from_residual-in_err-is_there.result c.from_residual-in_err-is_there.ensures.1

pub returns-in_err-has_own_files-clause-refused : goal.returns-in_err-has_own_files-clause-refused
returns-in_err-has_own_files-clause-refused g c =
    by-fault (IsNoRedo changing c.args.place.now.top.now) c.in_err-has_own_files.field-0.0 (kept_out _ (by_other_files _ c.in_err-has_own_files.ensures))
    c.from_residual-in_err-has_own_files.result c.from_residual-in_err-has_own_files.ensures.1

pub returns-in_err-has_own_files-clause-refused_held : goal.returns-in_err-has_own_files-clause-refused_held
returns-in_err-has_own_files-clause-refused_held g c = λ honest.
    by-fault (IsNoRedo (fixed (g.F.Folder.holds c.args.folder.now)) c.args.place.now.top.now) c.in_err-has_own_files.field-0.0 (kept_out _ (by_other_files _ c.in_err-has_own_files.ensures))
    c.from_residual-in_err-has_own_files.result c.from_residual-in_err-has_own_files.ensures.1

pub returns-in_err-lock-clause-refused : goal.returns-in_err-lock-clause-refused
returns-in_err-lock-clause-refused g c =
    by-fault (IsNoRedo changing c.args.place.now.top.now) c.in_err-lock.field-0.0 (kept_out _ (by_another_manager _ c.in_err-lock.ensures.refused))
    c.from_residual-in_err-lock.result c.from_residual-in_err-lock.ensures.1

pub returns-in_err-lock-clause-refused_held : goal.returns-in_err-lock-clause-refused_held
returns-in_err-lock-clause-refused_held g c = λ honest.
    by-fault (IsNoRedo (fixed (g.F.Folder.holds c.args.folder.now)) c.args.place.now.top.now) c.in_err-lock.field-0.0 (kept_out _ (by_another_manager _ c.in_err-lock.ensures.refused))
    c.from_residual-in_err-lock.result c.from_residual-in_err-lock.ensures.1

pub returns-then-not-is_there-clause-redone : goal.returns-then-not-is_there-clause-redone
returns-then-not-is_there-clause-redone g c = IfOk-weaker c.no_round.result _ _ (λ answer h. has_no_round tt h.0 h.1 h.2) c.no_round.ensures.answer

pub returns-then-not-is_there-clause-held : goal.returns-then-not-is_there-clause-held
returns-then-not-is_there-clause-held g c = λ honest.
    let missing = ap (λ (p : List ℕ). g.F.Folder.has c.args.folder.now p) (sym (c.as_str.ensures ∙ c.in_ok-journal.ensures)) ∙ sym (c.in_ok-is_there.ensures.there honest) ∙ c.if-not-is_there.true in
    IfOk-weaker c.no_round.result _ _ (λ answer h. has_no_round missing h.0 h.1 h.2) c.no_round.ensures.answer

pub returns-then-not-is_there-clause-refused : goal.returns-then-not-is_there-clause-refused
returns-then-not-is_there-clause-refused g c =
    memory-alone (IsNoRedo changing c.args.place.now.top.now) (kept_out _ looking_had_no_memory) c.no_round.result c.no_round.ensures.err

pub returns-then-not-is_there-clause-refused_held : goal.returns-then-not-is_there-clause-refused_held
returns-then-not-is_there-clause-refused_held g c = λ honest.
    memory-alone (IsNoRedo (fixed (g.F.Folder.holds c.args.folder.now)) c.args.place.now.top.now) (kept_out _ looking_had_no_memory) c.no_round.result c.no_round.ensures.err

pub returns-in_err-journal-clause-changes : goal.returns-in_err-journal-clause-changes
returns-in_err-journal-clause-changes g c =
    redo-unchanged changing any_paths c.args.place.now.top.now
    (map (λ (n : Bor (List ℕ)). n.now) c.args.names.now) c.args.only _ c.from_residual.result c.from_residual.ensures.1
    c.args.changes.now c.args.changes.now refl

pub returns-in_err-is_there-clause-changes : goal.returns-in_err-is_there-clause-changes
returns-in_err-is_there-clause-changes g c =
    redo-unchanged changing any_paths c.args.place.now.top.now
    (map (λ (n : Bor (List ℕ)). n.now) c.args.names.now) c.args.only _ c.from_residual-in_err-is_there.result c.from_residual-in_err-is_there.ensures.1
    c.args.changes.now c.args.changes.now refl

pub returns-in_err-has_own_files-clause-changes : goal.returns-in_err-has_own_files-clause-changes
returns-in_err-has_own_files-clause-changes g c =
    redo-unchanged changing any_paths c.args.place.now.top.now
    (map (λ (n : Bor (List ℕ)). n.now) c.args.names.now) c.args.only _ c.from_residual-in_err-has_own_files.result c.from_residual-in_err-has_own_files.ensures.1
    c.args.changes.now c.args.changes.now refl

pub returns-in_err-lock-clause-changes : goal.returns-in_err-lock-clause-changes
returns-in_err-lock-clause-changes g c =
    redo-unchanged changing any_paths c.args.place.now.top.now
    (map (λ (n : Bor (List ℕ)). n.now) c.args.names.now) c.args.only _ c.from_residual-in_err-lock.result c.from_residual-in_err-lock.ensures.1
    c.args.changes.now c.lock.new.changes c.in_err-lock.ensures.no_change

pub returns-then-not-is_there-clause-changes : goal.returns-then-not-is_there-clause-changes
returns-then-not-is_there-clause-changes g c =
    none-told changing any_paths c.args.place.now.top.now
    (map (λ (n : Bor (List ℕ)). n.now) c.args.names.now) c.args.only _ c.no_round.result c.no_round.ensures.answer c.args.changes.now

pub returns-clause-changes : goal.returns-clause-changes
returns-clause-changes g c =
    redone-under-lock changing any_paths c.args.place.now.top.now
    (map (λ (n : Bor (List ℕ)). n.now) c.args.names.now) c.args.only c.redo_locked-answer.result c.args.changes.now c.lock.new.changes
    c.redo_locked-answer.new.changes c.unlock.new.changes c.in_ok-lock.ensures.changes c.redo_locked-answer.ensures.changes c.unlock.ensures

pub returns-in_err-journal-clause-changes_held : goal.returns-in_err-journal-clause-changes_held
returns-in_err-journal-clause-changes_held g c = λ honest.
    redo-unchanged (fixed (g.F.Folder.holds c.args.folder.now)) (these_paths (g.F.Folder.has c.args.folder.now)) c.args.place.now.top.now
    (map (λ (n : Bor (List ℕ)). n.now) c.args.names.now) c.args.only _ c.from_residual.result c.from_residual.ensures.1
    c.args.changes.now c.args.changes.now refl

pub returns-in_err-is_there-clause-changes_held : goal.returns-in_err-is_there-clause-changes_held
returns-in_err-is_there-clause-changes_held g c = λ honest.
    redo-unchanged (fixed (g.F.Folder.holds c.args.folder.now)) (these_paths (g.F.Folder.has c.args.folder.now)) c.args.place.now.top.now
    (map (λ (n : Bor (List ℕ)). n.now) c.args.names.now) c.args.only _ c.from_residual-in_err-is_there.result c.from_residual-in_err-is_there.ensures.1
    c.args.changes.now c.args.changes.now refl

pub returns-in_err-has_own_files-clause-changes_held : goal.returns-in_err-has_own_files-clause-changes_held
returns-in_err-has_own_files-clause-changes_held g c = λ honest.
    redo-unchanged (fixed (g.F.Folder.holds c.args.folder.now)) (these_paths (g.F.Folder.has c.args.folder.now)) c.args.place.now.top.now
    (map (λ (n : Bor (List ℕ)). n.now) c.args.names.now) c.args.only _ c.from_residual-in_err-has_own_files.result c.from_residual-in_err-has_own_files.ensures.1
    c.args.changes.now c.args.changes.now refl

pub returns-in_err-lock-clause-changes_held : goal.returns-in_err-lock-clause-changes_held
returns-in_err-lock-clause-changes_held g c = λ honest.
    redo-unchanged (fixed (g.F.Folder.holds c.args.folder.now)) (these_paths (g.F.Folder.has c.args.folder.now)) c.args.place.now.top.now
    (map (λ (n : Bor (List ℕ)). n.now) c.args.names.now) c.args.only _ c.from_residual-in_err-lock.result c.from_residual-in_err-lock.ensures.1
    c.args.changes.now c.lock.new.changes c.in_err-lock.ensures.no_change

pub returns-then-not-is_there-clause-changes_held : goal.returns-then-not-is_there-clause-changes_held
returns-then-not-is_there-clause-changes_held g c = λ honest.
    none-told (fixed (g.F.Folder.holds c.args.folder.now)) (these_paths (g.F.Folder.has c.args.folder.now)) c.args.place.now.top.now
    (map (λ (n : Bor (List ℕ)). n.now) c.args.names.now) c.args.only _ c.no_round.result c.no_round.ensures.answer c.args.changes.now

pub returns-clause-changes_held : goal.returns-clause-changes_held
returns-clause-changes_held g c = λ honest.
    redone-under-lock (fixed (g.F.Folder.holds c.args.folder.now)) (these_paths (g.F.Folder.has c.args.folder.now)) c.args.place.now.top.now
    (map (λ (n : Bor (List ℕ)). n.now) c.args.names.now) c.args.only c.redo_locked-answer.result c.args.changes.now c.lock.new.changes
    c.redo_locked-answer.new.changes c.unlock.new.changes c.in_ok-lock.ensures.changes (c.redo_locked-answer.ensures.changes_held honest) c.unlock.ensures
