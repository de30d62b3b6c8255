use Rattle.std.proofs.Common.{◌≡◌, ◌∙◌, ℕ, ◌+◌, ◌-◌, length, take, drop, sym, ap, subst, arith}
use Rattle.std.proofs.lemmas.Grind.{common_steps}
use Rattle.dag_reader.specs.Macros.{begins_escape, closing_quote}
use Rattle.dag_reader.proofs.Bytes.{not_equal}
use Rattle.dag_reader.proofs.PairSteps.{from_start, LeftToClose, found_quote, escape_passed, byte_passed}
use Rattle.dag_reader.proofs.macro_reader.closing_quote.Goals as goal
use Rattle.dag_reader.proofs.macro_reader.closing_quote.Goals.{then-begins_escape, else-begins_escape}

pub loop-at-init : goal.loop-at-init
loop-at-init c = (omega arith, from_start (closing_quote c.args.bytes.now))

pub returns-then-bytes-at-eq34-clause-value : goal.returns-then-bytes-at-eq34-clause-value
returns-then-bytes-at-eq34-clause-value c = found_quote c.args.bytes.now c.loop-at.at c.loop-at.invariant c.loop-at-test.true c.if-bytes-at-eq34.true

pub loop-at-preserved : goal.loop-at-preserved
loop-at-preserved c =
    let bytes = c.args.bytes.now in
    let at = c.loop-at.at in
    let rest : take (length bytes - at) (drop at bytes) ≡ drop at bytes = grind (arith, common_steps) in
    let tells = c.begins_escape.ensures ∙ ap begins_escape rest in
    elim c.if-begins_escape.branch [
      | then-begins_escape w ↦ subst (λ (k : ℕ). LeftToClose bytes (at + k)) (sym w.at-is) (escape_passed bytes at c.loop-at.invariant (sym tells ∙ w.if-begins_escape.true))
      | else-begins_escape w ↦ subst (λ (k : ℕ). LeftToClose bytes (at + k)) (sym w.at-is) (byte_passed bytes at c.loop-at.invariant c.loop-at-test.true (sym tells ∙ w.if-begins_escape.false) (not_equal _ _ c.if-bytes-at-eq34.false))
    ]
