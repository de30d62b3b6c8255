use Rattle.std.proofs.Common.{Option, List, ℕ, sym, subst, ◌∙◌}
use Rattle.event_journal_log.specs.Image.{Found}
use Rattle.event_journal_log.specs.Reading.{replay_for}
use Rattle.dag_main_inspect.specs.Statused.{journal_bytes}
use Rattle.dag_main_inspect.specs.LastRound.{Decodes}
use Rattle.dag_main_inspect.proofs.StatusFaults.{no-records}
use Rattle.dag_main_inspect.proofs.journal.ReadJournal.records.Goals as goal

pub returns-in-Err-clause-refused : goal.returns-in-Err-clause-refused
returns-in-Err-clause-refused c =
    let whole =
    subst (λ (d : Option Found). Decodes (journal_bytes c.args.self.now) d) c.in-Some.is
    (subst (λ (j : Option (List ℕ)). Decodes (journal_bytes j) c.self.inside.reading.decoded) c.self.view_is c.self.invariant) in
    rw c.in_journal.ensures
    (no-records c.args.plan.now (journal_bytes c.args.self.now) c.in-Err.fault
    ((λ j. replay_for (sym c.digest.ensures j) (sym c.always_post.ensures j) (journal_bytes c.args.self.now)) ∙ c.in-Err.ensures.refused (journal_bytes c.args.self.now) whole))
