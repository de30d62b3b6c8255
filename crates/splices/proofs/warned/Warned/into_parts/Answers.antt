use Rattle.std.proofs.Common.{◌∙◌, map, ap, rules}
use Rattle.splices_flat.specs.Notices.{warning_of}
use Rattle.splices_flat.specs.Warnings.{Warned}
use Rattle.splices.proofs.warned.Warned.into_parts.Goals as goal

pub returns-clause-limits : goal.returns-clause-limits
returns-clause-limits c = ap (λ (t : Warned). t.limits) c.self.view_is

pub returns-clause-warnings : goal.returns-clause-warnings
returns-clause-warnings c = c.in_ok-warnings.ensures ∙ ap (λ (t : Warned). map warning_of t.notices) c.self.view_is

pub returns-in_err-warnings-clause-limits : goal.returns-in_err-warnings-clause-limits
returns-in_err-warnings-clause-limits c = search rules

pub returns-in_err-warnings-clause-warnings : goal.returns-in_err-warnings-clause-warnings
returns-in_err-warnings-clause-warnings c = search rules
