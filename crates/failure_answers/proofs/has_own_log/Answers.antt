use Rattle.std.proofs.Common.{◌++◌, ◌∙◌, ℕ, List, codes, subst}
use Rattle.dag_main_files.specs.Beside.{IsRefusalOf, refusing_had_no_memory}
use Rattle.dag_main_check.specs.declared.fault.RunFault.TheVariants.{Memory}
use Rattle.dag_main_check.proofs.Refusals.{weaker}
use Rattle.dag_main_files.proofs.RunFaults.{by-fault}
use Rattle.failure_answers.proofs.has_own_log.Goals as goal

pub returns-in_err-path : goal.returns-in_err-path
returns-in_err-path g c = record {
  named = by-fault (IsRefusalOf (c.args.place.now.top.now ++ codes ".log")) Memory refusing_had_no_memory c.from_residual.result c.from_residual.ensures.1;
}

pub returns : goal.returns
returns g c = record {
  named = weaker (IsRefusalOf (c.args.place.now.top.now ++ codes ".log")) c.trusts.result c.trusts.ensures.named
      (λ fault is. subst (λ (name : List ℕ). IsRefusalOf name fault) (c.as_str.ensures ∙ c.in_ok-path.ensures) is);
}
