use Rattle.std.proofs.Common.{◌∙◌, sym, ap, Ok}
use Rattle.std.proofs.lemmas.Result.{err_from_is_err_and}
use Rattle.dag_reader.specs.declared.command.Command.{Command}
use Rattle.dag_reader.specs.LineReader.{left_of}
use Rattle.dag_reader.specs.LayoutViews.{values_of}
use Rattle.dag_reader.proofs.Slots.{read_ok, read_fails}
use Rattle.dag_reader.proofs.pass.read_by.Goals as goal

pub returns-in_err-fill : goal.returns-in_err-fill
returns-in_err-fill c =
    let p = err_from_is_err_and c.from_residual.result c.from_residual.ensures.1 in
    rw (p.1, p.2) (read_fails c.in_err-fill.field-0.0 c.args.layout.now (values_of c.args.values.now) (values_of c.clear.new.self) (left_of c.args.line.now).words (left_of c.args.line.now).end c.requires c.clear.ensures c.in_err-fill.ensures)

pub returns : goal.returns
returns c =
    read_ok c.args.layout.now (values_of c.args.values.now) (values_of c.clear.new.self) (values_of c.fill.new.values) (left_of c.args.line.now).words (left_of c.args.line.now).end c.requires c.clear.ensures c.in_ok-fill.ensures
    ∙ ap (λ (x : Command). Ok x) (sym c.in_ok-command.ensures)
