use Rattle.std.proofs.Common.{◌≡◌, ◌++◌, Bool, true, sym, subst, append-nil}
use Rattle.dag_main_files.specs.Changes.{Makes}
use Rattle.redo.specs.Changes.{clears_cut_short}
use Rattle.redo.proofs.Changes.{on-any-refusal}
use Rattle.redo.proofs.here.clear_cut_short.Goals as goal

pub returns-then-not-cut_short-clause-changes : goal.returns-then-not-cut_short-clause-changes
returns-then-not-cut_short-clause-changes g c =
    subst (λ (b : Bool). c.args.changes.now ≡ c.args.changes.now ++ clears_cut_short b c.args.place.now.top.now) (sym c.if-not-cut_short.true) (sym (append-nil c.args.changes.now))

pub returns-clause-changes : goal.returns-clause-changes
returns-clause-changes g c =
    subst (λ (b : Bool). Makes c.put_journal_away.result (clears_cut_short b c.args.place.now.top.now) c.args.changes.now c.put_journal_away.new.changes)
    (sym c.if-not-cut_short.false) c.put_journal_away.ensures.changes

pub returns-clause-was_cut_short : goal.returns-clause-was_cut_short
returns-clause-was_cut_short g c = on-any-refusal (c.args.cut_short ≡ true) c.put_journal_away.result c.if-not-cut_short.false
