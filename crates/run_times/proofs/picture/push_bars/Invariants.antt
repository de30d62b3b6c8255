use Rattle.std.proofs.Common.{◌≡◌, ◌++◌, take, flat_map, string_bytes}
use Rattle.run_times.specs.Picture.{bar_text}
use Rattle.run_times.proofs.picture.push_bars.Given as goal

abbrev pub invariant-loop-bar : goal.invariant-loop-bar
invariant-loop-bar l = string_bytes l.text ≡ string_bytes l.fn.text ++ flat_map (bar_text l.canvas) (take l.bar-index l.bars)
