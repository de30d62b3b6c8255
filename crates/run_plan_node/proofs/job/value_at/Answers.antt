use Rattle.std.proofs.Common.{◌≡◌, ◌∙◌, Some, Result, ap, sym}
use Rattle.std.specs.Option.{option_copied}
use Rattle.std.proofs.lemmas.Result.{err_from_is_err_and}
use Rattle.vars_macros.specs.Meaning.{scope_of, last_macro}
use Rattle.vars_macros.specs.Expansion.{Expansion, expansion}
use Rattle.vars_macros.specs.declared.fault.MacroFault.{MacroFault}
use Rattle.run_plan_node.specs.Commands.{present}
use Rattle.run_plan_node.proofs.Binds.{present_fails, value_found, value_missing}
use Rattle.run_plan_node.proofs.job.value_at.Goals as goal

pub returns-in_err-expanded-in-Some : goal.returns-in_err-expanded-in-Some
returns-in_err-expanded-in-Some c =
    let p = err_from_is_err_and c.from_residual-in_err-expanded-in-Some.result c.from_residual-in_err-expanded-in-Some.ensures.1 in
    let s = scope_of c.args.macros.now c.args.attempt in
    let m = c.in-Some.found.now in
    let is : last_macro c.args.macros.now.assigned c.args.name.now ≡ Some m = sym c.in_ok-found.ensures.last ∙ ap option_copied c.in-Some.is in
    rw (p.1, p.2, value_found s c.args.name.now m is) (present_fails c.in_err-expanded-in-Some.field-0.0 (expansion s m.vars m.value) c.in_err-expanded-in-Some.ensures)

pub returns-in_ok-expanded-in-Some : goal.returns-in_ok-expanded-in-Some
returns-in_ok-expanded-in-Some c =
    let s = scope_of c.args.macros.now c.args.attempt in
    let m = c.in-Some.found.now in
    let is : last_macro c.args.macros.now.assigned c.args.name.now ≡ Some m = sym c.in_ok-found.ensures.last ∙ ap option_copied c.in-Some.is in
    value_found s c.args.name.now m is ∙ ap (λ (r : Result Expansion MacroFault). present r) c.in_ok-expanded-in-Some.ensures

pub returns-in-None : goal.returns-in-None
returns-in-None c =
    value_missing (scope_of c.args.macros.now c.args.attempt) c.args.name.now (sym c.in_ok-found.ensures.last ∙ ap option_copied c.in-None.is)
