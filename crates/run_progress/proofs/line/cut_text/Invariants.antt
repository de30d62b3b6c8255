use Rattle.std.proofs.Common.{◌≡◌, flat_map, string_bytes}
use Rattle.std.specs.Char.{encode_utf8}
use Rattle.run_progress.proofs.line.cut_text.Given as goal

abbrev pub invariant-loop-character : goal.invariant-loop-character
invariant-loop-character l = string_bytes l.cut ≡ flat_map encode_utf8 l.yielded
