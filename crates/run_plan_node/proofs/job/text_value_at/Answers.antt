use Rattle.std.proofs.Common.{◌∙◌, Option, Result, Ok, ap}
use Rattle.std.specs.Option.{option_map}
use Rattle.std.proofs.lemmas.Result.{err_from_is_err_and}
use Rattle.vars_macros.specs.Meaning.{scope_of}
use Rattle.vars_macros.specs.Expansion.{Expansion}
use Rattle.vars_macros.specs.Output.{expansion_of}
use Rattle.vars_macros.specs.declared.output.Expanded.{Expanded}
use Rattle.vars_macros.specs.declared.fault.MacroFault.{MacroFault}
use Rattle.run_plan_node.specs.Commands.{value_at, text_value_at, text_of_value}
use Rattle.run_plan_node.proofs.Binds.{value_fails}
use Rattle.run_plan_node.proofs.job.text_value_at.Goals as goal

pub returns-in_err-value : goal.returns-in_err-value
unfolding text_value_at
returns-in_err-value c =
    let p = err_from_is_err_and c.from_residual.result c.from_residual.ensures.1 in
    rw (p.1, p.2) (value_fails c.in_err-value.field-0.0 (value_at (scope_of c.args.macros.now c.args.attempt) c.args.name.now) c.in_err-value.ensures)

pub returns-in-Some : goal.returns-in-Some
unfolding text_value_at
returns-in-Some c =
    ap (λ (r : Result (Option Expansion) MacroFault). text_of_value r) (c.in_ok-value.ensures ∙ ap (λ (v : Option Expanded). Ok (option_map expansion_of v)) c.in-Some.is)

pub returns-in-None : goal.returns-in-None
unfolding text_value_at
returns-in-None c =
    ap (λ (r : Result (Option Expansion) MacroFault). text_of_value r) (c.in_ok-value.ensures ∙ ap (λ (v : Option Expanded). Ok (option_map expansion_of v)) c.in-None.is)
