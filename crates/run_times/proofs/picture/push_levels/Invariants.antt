use Rattle.std.proofs.Common.{◌≡◌, ◌++◌, take, flat_map, string_bytes}
use Rattle.run_times.specs.Picture.{level_text}
use Rattle.run_times.proofs.picture.push_levels.Given as goal

abbrev pub invariant-loop-level : goal.invariant-loop-level
invariant-loop-level l = string_bytes l.text ≡ string_bytes l.fn.text ++ flat_map (level_text l.canvas l.peak) (take l.level-index l.levels)
