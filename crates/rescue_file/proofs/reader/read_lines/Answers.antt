use Rattle.std.proofs.Common.{◌≡◌, ◌∙◌, sym, ap, arith, ℕ, Option, Some, None, Ok}
use Rattle.std.proofs.lemmas.Bool.{eqb-true}
use Rattle.std.proofs.lemmas.List.{append-nil}
use Rattle.std.proofs.lemmas.Result.{err_from_is_err_and}
use Rattle.rescue_file.specs.Reading.{rescue_line_at, rescued_of}
use Rattle.rescue_file.proofs.FileReadings.{begins, goes_on, ends, stops_here}
use Rattle.rescue_file.proofs.LineReadings.{good}
use Rattle.rescue_file.proofs.reader.read_lines.Goals as goal
use Rattle.rescue_file.proofs.reader.read_lines.Goals.{in-Some+in_ok-push, in_default}

pub loop-rest-init : goal.loop-rest-init
loop-rest-init c = record { same = rw c.new-nodes.ensures.items (begins c.args.graph.now.dag c.args.bytes.now); bound = omega arith }

pub loop-rest-preserved : goal.loop-rest-preserved
loop-rest-preserved c =
    let dag = c.args.graph.now.dag in
    let items = c.loop-rest.nodes.items in
    let number = c.loop-rest.number in
    let after = c.split_line.result.1.now in
    let total = rescued_of dag c.args.bytes.now in
    let step = λ (o : Option ℕ) (read : rescue_line_at dag number c.split_line.result.0.now ≡ Ok o).
    goes_on dag items number c.loop-rest.rest.now c.split_line.result.0.now after o total c.split_line.ensures.first read c.loop-rest.invariant.same in
    record {
      same = elim c.match-branch-2.branch [
        | in-Some+in_ok-push w ↦
            rw w.nodes-is (rw w.in_ok-push.ensures.items (step (Some w.in-Some.node) (sym c.in_ok-node.ensures ∙ ap (λ (o : Option ℕ). good o) w.in-Some.is)))
        | in_default w ↦
            let none = step None (sym c.in_ok-node.ensures ∙ ap (λ (o : Option ℕ). good o) w.in_default.is) in
            rw w.nodes-is (rw (append-nil items) at none)
      ];
      bound = omega (arith, c.split_line.ensures.shorter, c.loop-rest.invariant.bound);
    }

pub returns-in_err-node : goal.returns-in_err-node
returns-in_err-node c =
    let dag = c.args.graph.now.dag in
    let p = err_from_is_err_and c.from_residual.result c.from_residual.ensures.1 in
    rw (p.1, p.2)
    (stops_here dag c.loop-rest.nodes.items c.loop-rest.number c.loop-rest.rest.now c.split_line.result.0.now c.split_line.result.1.now c.in_err-node.field-0.0 (rescued_of dag c.args.bytes.now)
    c.split_line.ensures.first (sym c.in_err-node.ensures) c.loop-rest.invariant.same)

pub returns : goal.returns
returns c =
    ends c.args.graph.now.dag c.loop-rest.nodes.items c.loop-rest.number c.loop-rest.rest.now (rescued_of c.args.graph.now.dag c.args.bytes.now)
    (eqb-true _ _ (sym c.is_empty.ensures ∙ c.loop-rest-test.false)) c.loop-rest.invariant.same
