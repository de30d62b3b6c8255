use Rattle.std.proofs.Common.{◌≡◌, ◌≢◌, ◌∙◌, false, Option, Result, Ok, ap, sym}
use Rattle.std.specs.Option.{option_map}
use Rattle.vars_macros.specs.Expansion.{Expansion}
use Rattle.vars_macros.specs.Meaning.{scope_of}
use Rattle.vars_macros.specs.Output.{expansion_of}
use Rattle.vars_macros.specs.declared.output.Expanded.{Expanded}
use Rattle.vars_macros.specs.declared.fault.MacroFault.{MacroFault}
use Rattle.run_plan_node.specs.Commands.{value_at, is_whole_at, is_whole}
use Rattle.std.proofs.lemmas.Result.{IfOk-weaker}
use Rattle.vars_macros.specs.declared.fault.MacroFault.TheVariants as macro
use Rattle.run_plan_node.proofs.Binds.{not_whole}
use Rattle.run_plan_node.proofs.job.is_whole_at.Goals as goal

pub returns-in-Ok-Some-clause-ok : goal.returns-in-Ok-Some-clause-ok
unfolding is_whole_at
returns-in-Ok-Some-clause-ok c =
    sym (ap (λ (r : Result (Option Expansion) MacroFault). is_whole r) (c.in-Ok-Some.ensures ∙ ap (λ (v : Option Expanded). Ok (option_map expansion_of v)) c.in-Ok-Some.field-0-is))

pub returns-in-Ok-None-clause-ok : goal.returns-in-Ok-None-clause-ok
unfolding is_whole_at
returns-in-Ok-None-clause-ok c =
    sym (ap (λ (r : Result (Option Expansion) MacroFault). is_whole r) (c.in-Ok-None.ensures ∙ ap (λ (v : Option Expanded). Ok (option_map expansion_of v)) c.in-Ok-None.field-0-is))

pub returns-in-Err : goal.returns-in-Err
unfolding is_whole_at
returns-in-Err c = record {
  ok = IfOk-weaker c.unless_memory.result (λ whole. (whole ≡ false) × (c.in-Err.fault ≢ macro.Memory)) (λ whole. whole ≡ is_whole (value_at (scope_of c.args.macros.now c.args.attempt) c.args.name.now))
      (λ whole known. known.0 ∙ sym (not_whole c.in-Err.fault (value_at (scope_of c.args.macros.now c.args.attempt) c.args.name.now) c.in-Err.ensures known.1)) c.unless_memory.ensures.ok;
  err = c.unless_memory.ensures.err;
}
