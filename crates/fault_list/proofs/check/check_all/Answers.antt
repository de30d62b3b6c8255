use Rattle.std.proofs.Common.{refl, ap, ◌∙◌}
use Rattle.fault_list.specs.LineFaults.{fault_lines}
use Rattle.fault_list.proofs.Answers.{wrong-lines, memory-refused}
use Rattle.fault_list.proofs.check.check_all.Goals as goal

pub returns-in_err-faults-clause-refused : goal.returns-in_err-faults-clause-refused
returns-in_err-faults-clause-refused c =
    memory-refused c.args.files c.args.path.now c.in_err-faults.field-0.0 c.in_err-faults.ensures.err c.from_residual.result c.from_residual.ensures.1

pub returns-in_err-fault_lines-clause-refused : goal.returns-in_err-fault_lines-clause-refused
returns-in_err-fault_lines-clause-refused c =
    memory-refused c.args.files c.args.path.now _ refl c.from_residual-in_err-fault_lines.result c.from_residual-in_err-fault_lines.ensures.1

pub returns-clause-checked : goal.returns-clause-checked
returns-clause-checked c =
    wrong-lines c.args.form c.args.files c.args.path.now _ _ c.in_ok-faults.faults.items c.in_ok-faults.ensures.some c.in_ok-faults.ensures.faults
    c.new.ensures.bytes (c.in_ok-fault_lines.ensures ∙ ap fault_lines c.as_slice.ensures.value)
