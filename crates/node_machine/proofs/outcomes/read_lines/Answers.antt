use Rattle.std.proofs.Common.{◌∙◌, sym, arith, length, ◌≤◌, ◌+◌}
use Rattle.std.proofs.lemmas.Bool.{eqb-true}
use Rattle.std.proofs.lemmas.Result.{err_from_is_err_and}
use Rattle.node_machine.proofs.OutcomeLines.{goes_on, fails_at, ends}
use Rattle.node_machine.proofs.outcomes.read_lines.Goals as goal

pub returns-in_err-read_line-clause-err : goal.returns-in_err-read_line-clause-err
returns-in_err-read_line-clause-err c =
    let p = err_from_is_err_and c.from_residual.result c.from_residual.ensures.1 in
    rw (p.1, p.2) (fails_at c.args.text.now c.loop-rest.rest.now c.split_line.result.0.now c.split_line.result.1.now c.loop-rest.number c.loop-rest.table c.in_err-read_line.field-0.0
    c.loop-rest.invariant.0 c.split_line.ensures.first c.in_err-read_line.ensures.err)

pub loop-rest-preserved : goal.loop-rest-preserved
loop-rest-preserved c =
    let said = c.in_ok-read_line.ensures.ok in
    let shorter = c.split_line.ensures.shorter in
    let room : c.loop-rest.number + length c.loop-rest.rest.now ≤ length c.args.text.now + 1 = c.loop-rest.invariant.1 in (
      goes_on c.args.text.now c.loop-rest.rest.now c.split_line.result.0.now c.split_line.result.1.now c.loop-rest.number c.loop-rest.table c.read_line.new.table said.0
          c.loop-rest.invariant.0 c.split_line.ensures.first said.1 said.2,
      omega arith,
    )

pub returns-clause-ok : goal.returns-clause-ok
returns-clause-ok c =
    ends c.args.text.now c.loop-rest.rest.now c.loop-rest.number c.loop-rest.table c.loop-rest.invariant.0
    (eqb-true _ _ (sym c.is_empty.ensures ∙ c.loop-rest-test.false))
