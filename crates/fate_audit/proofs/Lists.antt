-- Lists of fates.
use Rattle.std.proofs.Common.{◌≡◌, ℕ, ◌<◌, true, false, List, sym, ◌∙◌, subst}
use Rattle.std.proofs.lemmas.List.{ext_get_or}
use Rattle.node_machine.specs.declared.State.TheVariants.{NotRun}
use Rattle.node_machine.specs.Story.{Table}
use Rattle.run_plan.specs.Plan.{Plan, count_of, IsRankedBy}
use Rattle.node_machine.specs.declared.Record.{Record}
use Rattle.sched_core.specs.Run.{table_of, is_finished, is_aborted}
use Rattle.sched_core.specs.Fate.{Fate, AreFates, shown, without_attempts}
use Rattle.sched_core.proofs.Finished.{own-fates}
use Rattle.sched_core.proofs.Matching.{fates-unique}
use Rattle.fate_audit.specs.Fates.{fate_at, AreFatesOf}
use Rattle.fate_audit.specs.Shown.{AreShown}
use Rattle.fate_audit.proofs.Orders.{same-fates}

-- in a finished run without abort what the records show are the fates by the table of its endings
pub shown-fates : (plan : Plan) (past : List Record) (rank : ℕ → ℕ) → IsRankedBy rank plan → is_finished plan past ≡ true → is_aborted plan past ≡ false
    → (fates : List Fate) → AreShown plan past fates → AreFatesOf plan (table_of past) fates
shown-fates plan past rank ranked finished abort_free fates is = record {
  many = is.many;
  are = same-fates plan (table_of past) rank ranked (fate_at fates) (shown plan past) (own-fates plan past finished abort_free) is.each;
}

pub one-list : (plan : Plan) (table : Table) (rank : ℕ → ℕ) → IsRankedBy rank plan → (listed : List Fate) → AreFatesOf plan table listed
    → (fates : ℕ → Fate) → AreFates plan table fates → (node : ℕ) → node < count_of plan → fate_at listed node ≡ fates node
one-list plan table rank ranked listed is fates are = fates-unique plan table rank ranked (fate_at listed) fates is.are are

pub only-list : (plan : Plan) (table : Table) (rank : ℕ → ℕ) → IsRankedBy rank plan → (fates other : List Fate)
    → AreFatesOf plan table fates → AreFatesOf plan table other → fates ≡ other
only-list plan table rank ranked fates other is is' =
    ext_get_or (without_attempts NotRun) fates other (is.many ∙ sym is'.many)
    (λ node lt. one-list plan table rank ranked fates is (fate_at other) is'.are node (subst (λ (n : ℕ). node < n) is.many lt))
