use Rattle.std.proofs.Common.{List, subst, sym, string_bytes}
use Rattle.std.specs.List.Sorted.{IsNonDecreasingBy}
use Rattle.run_plan.specs.Plan.{Plan}
use Rattle.failure_report.specs.declared.failed.Failure.{Failure}
use Rattle.failure_report.specs.declared.groups.Group.{Group}
use Rattle.failure_report.specs.Failures.{rank_of}
use Rattle.failure_report.specs.Grouped.{AreGroupsOf, HasGroups}
use Rattle.failure_report.proofs.why.grouped_text.Goals as goal

pub groups_of-requires : goal.groups_of-requires
groups_of-requires g c = subst (IsNonDecreasingBy rank_of) (sym c.deref-3.ensures.value) c.in_ok-failed.ensures.ordered

pub returns : goal.returns
returns g c = record {
  groups = c.in_ok-groups.groups.items;
  all = record {
    failures = c.in_ok-failed.failed.items;
    all = c.in_ok-failed.ensures;
    grouped = subst (λ (fs : List Failure). AreGroupsOf fs c.in_ok-groups.groups.items) c.deref-3.ensures.value c.in_ok-groups.ensures;
  };
  blocks =
      subst (λ (plan : Plan). HasGroups plan c.in_ok-groups.groups.items (string_bytes c.in_ok-text.text)) c.in_ok-run.ensures
      (subst (λ (gs : List Group). HasGroups c.in_ok-run.run'.core.now.plan gs (string_bytes c.in_ok-text.text)) c.deref-5.ensures.value c.in_ok-text.ensures);
}
