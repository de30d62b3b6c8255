use Rattle.std.proofs.Common.{◌∙◌, sym, ap, List, arith, ◌+◌, Option, Some, None, Ok, Vec, Global}
use Rattle.std.proofs.lemmas.Bool.{eqb-true}
use Rattle.std.proofs.lemmas.List.{append-nil}
use Rattle.std.proofs.lemmas.Result.{err_from_is_err_and}
use Rattle.std.specs.Str.Lines.{lines}
use Rattle.dag_reader.specs.declared.command.Command.{Command}
use Rattle.dag_reader.specs.Reading.{lines_at, text_at}
use Rattle.dag_reader.proofs.TextLines.{with_lines, line_step, line_fails, lines_done}
use Rattle.dag_reader.proofs.dag_file.read_lines.Goals as goal
use Rattle.dag_reader.proofs.dag_file.read_lines.Goals.{in-Some+in_ok-push, in_default}

pub returns-in_err-said : goal.returns-in_err-said
returns-in_err-said c =
    let p = err_from_is_err_and c.from_residual.result c.from_residual.ensures.1 in
    rw (p.1, p.2) (line_fails c.in_err-said.field-0.0 c.loop-rest.commands.items c.loop-rest.number c.loop-rest.rest.now c.split_line.result.0.now c.split_line.result.1.now (text_at c.args.text.now) c.split_line.ensures.first c.in_err-said.ensures c.loop-rest.invariant.0)

pub loop-rest-preserved : goal.loop-rest-preserved
loop-rest-preserved c =
    let front = c.loop-rest.commands.items in
    let number = c.loop-rest.number in
    let line = c.split_line.result.0.now in
    let after = c.split_line.result.1.now in
    let reads = λ (cs : List Command). with_lines cs (lines_at (number + 1) (lines after)) in
    let commands = λ (v : Vec Command Global). v.items in
    let step = λ (o : Option Command) (reading : _). line_step front number c.loop-rest.rest.now line after o c.split_line.ensures.first (c.in_ok-said.ensures ∙ ap (λ (x : Option Command). Ok x) reading) in (
      elim c.match-said.branch [
        | in-Some+in_ok-push w ↦ ap reads (ap commands w.commands-is ∙ w.in_ok-push.ensures.items) ∙ sym (step (Some w.in-Some.command) w.in-Some.is) ∙ c.loop-rest.invariant.0
        | in_default w ↦ ap reads (ap commands w.commands-is ∙ sym (append-nil front)) ∙ sym (step None w.in_default.is) ∙ c.loop-rest.invariant.0
      ],
      omega (arith, c.split_line.ensures.shorter),
    )

pub returns : goal.returns
returns c = sym c.loop-rest.invariant.0 ∙ lines_done c.loop-rest.commands.items c.loop-rest.number c.loop-rest.rest.now (eqb-true _ _ (sym c.is_empty.ensures ∙ c.loop-rest-test.false))
