use Rattle.std.proofs.Common.{◌∙◌, List, ℕ, take, subst}
use Rattle.std.proofs.lemmas.List.{take_all}
use Rattle.rescue_file.specs.Numbered.{IsHighest}
use Rattle.rescue_file.proofs.Digits.{none_yet, no_higher, higher, one_more}
use Rattle.rescue_file.proofs.names.pick_number.Goals as goal
use Rattle.rescue_file.proofs.names.pick_number.Goals.{in-Some, in_default}

pub loop-name-init : goal.loop-name-init
loop-name-init c = none_yet c.args.top.now

pub loop-name-preserved : goal.loop-name-preserved
loop-name-preserved c =
    let seen = take c.loop-name.name-index c.args.names.now in
    let name = c.name-item.result in
    let top = c.args.top.now in
    rw (one_more c.args.names.now c.loop-name.name-index name c.loop-name-test.true c.name-item.is)
    (elim c.match-number_in.branch [
      | in-Some w ↦
          let found = rw (c.as_bytes.ensures.value, c.as_str.ensures, c.as_bytes-in-loop-name.ensures.value) at w.in-Some.ensures in
          rw (w.highest-is ∙ w.max-highest.ensures) (higher seen top name c.loop-name.highest w.in-Some.number c.loop-name.invariant found)
      | in_default w ↦
          let none = rw (c.as_bytes.ensures.value, c.as_str.ensures, c.as_bytes-in-loop-name.ensures.value) at w.in_default.ensures in
          rw w.highest-is (no_higher seen top name c.loop-name.highest c.loop-name.invariant none)
    ])

pub returns : goal.returns
returns c = subst (λ (ns : List (List ℕ)). IsHighest ns c.args.top.now c.loop-name.highest) (take_all c.loop-name.name-index c.args.names.now c.loop-name-test.false) c.loop-name.invariant
