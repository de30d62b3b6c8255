use Rattle.std.proofs.Common.{string_bytes}
use Rattle.run_times.specs.Summary.{gain_text}
use Rattle.run_times.proofs.Gaining.{piece-more}
use Rattle.run_times.proofs.summary.push_gains.Goals as goal

pub loop-gain-preserved : goal.loop-gain-preserved
loop-gain-preserved c =
    piece-more gain_text c.args.gains.now c.loop-gain.gain-index _ (string_bytes c.args.text.now) (string_bytes c.loop-gain.text) (string_bytes c.push_gain.new.text)
    c.loop-gain-test.true c.loop-gain.invariant c.in_ok-push_gain.ensures
