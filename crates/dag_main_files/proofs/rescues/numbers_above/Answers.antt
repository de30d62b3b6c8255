use Rattle.std.proofs.Common.{◌≡◌, ◌∙◌, ◌-◌, sym, subst, arith, rules, ◌+◌, Bool, false, IsTrue}
use Rattle.std.proofs.lemmas.Grind.{common_steps}
use Rattle.std.specs.List.{Contains}
use Rattle.dag_main_files.proofs.Above.{none_found, one_found, none_more}
use Rattle.dag_main_files.proofs.rescues.numbers_above.Goals.{then-stands_in+in_ok-push, else-stands_in}
use Rattle.dag_main_files.proofs.rescues.numbers_above.Goals as goal

not-both : (b : Bool) → b ≡ false → IsTrue b → ⊥
not-both b is holds = first_of (search rules, cc, grind (arith, common_steps))

pub loop-number-init : goal.loop-number-init
loop-number-init c =
    rw c.new-numbers.ensures.items (none_found c.args.names.now c.args.top.now c.args.from c.pick_number-number.result c.pick_number-number.ensures)

pub loop-number-preserved : goal.loop-number-preserved
loop-number-preserved c =
    let names = c.args.names.now in
    let number = c.loop-number.number in
    let below = number - 1 in
    let next : below + 1 ≡ number = (let more = c.loop-number-test.true in omega arith) in
    let named = c.as_str.ensures ∙ c.in_ok-name.ensures.name in
    elim c.if-stands_in.branch [
      | then-stands_in+in_ok-push w ↦
          rw w.numbers-is (rw w.in_ok-push.ensures.items
          (one_found names c.args.top.now c.args.from number below c.loop-number.numbers.items next c.loop-number-test.true c.loop-number.invariant
          (subst (Contains names) named (c.stands_in.ensures.0 w.if-stands_in.true))))
      | else-stands_in w ↦
          rw w.numbers-is
          (none_more names c.args.top.now c.args.from number below c.loop-number.numbers.items next c.loop-number-test.true c.loop-number.invariant
          (λ has. not-both c.stands_in.result w.if-stands_in.false (c.stands_in.ensures.1 (subst (Contains names) (sym named) has))))
    ]
