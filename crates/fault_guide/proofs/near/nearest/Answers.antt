use Rattle.std.proofs.Common.{◌+◌, ℕ, Bor, List, ap}
use Rattle.std.specs.Option.{option_map}
use Rattle.fault_guide.proofs.NearWords.{none-yet, passed-apart, passed-edits, picked-one}
use Rattle.fault_guide.proofs.near.nearest.Goals as goal

pub loop-other-init : goal.loop-other-init
loop-other-init c = none-yet c.args.word.now _ (ap (λ (n : ℕ). n + 1) c.most_edits-most.ensures.most)

pub loop-other-preserved-then-abs_diff-most : goal.loop-other-preserved-then-abs_diff-most
loop-other-preserved-then-abs_diff-most c =
    passed-apart c.args.word.now c.args.words.now c.loop-other.other-index _ c.loop-other-test.true (option_map (λ (w : Bor (List ℕ)). w.now) c.loop-other.found) c.loop-other.least
    c.most_edits-most.result c.abs_diff.result c.most_edits-most.ensures.most c.abs_diff.ensures c.loop-other.invariant c.if-abs_diff-most.true

pub loop-other-preserved-then-edits-least : goal.loop-other-preserved-then-edits-least
loop-other-preserved-then-edits-least c =
    passed-edits c.args.word.now c.args.words.now c.loop-other.other-index _ c.loop-other-test.true (option_map (λ (w : Bor (List ℕ)). w.now) c.loop-other.found) c.loop-other.least
    c.most_edits-most.result c.abs_diff.result c.most_edits-most.ensures.most c.abs_diff.ensures c.loop-other.invariant
    c.in_ok-edits.edits c.in_ok-edits.ensures.value c.if-edits-least.true

pub loop-other-preserved : goal.loop-other-preserved
loop-other-preserved c =
    picked-one c.args.word.now c.args.words.now c.loop-other.other-index _ c.loop-other-test.true (option_map (λ (w : Bor (List ℕ)). w.now) c.loop-other.found) c.loop-other.least
    c.most_edits-most.result c.abs_diff.result c.most_edits-most.ensures.most c.abs_diff.ensures c.loop-other.invariant
    c.in_ok-edits.edits c.in_ok-edits.ensures.value c.if-edits-least.false c.if-abs_diff-most.false
