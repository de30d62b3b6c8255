use Rattle.std.proofs.Common.{◌≡◌, ◌++◌, map, drop}
use Rattle.std.specs.Prelude.{string_bytes}
use Rattle.file_hints.proofs.meant.texts_of.Given as goal

abbrev pub invariant-loop-string : goal.invariant-loop-string
invariant-loop-string l = map (λ t. t.now) l.texts.items ++ map string_bytes (drop l.string-index l.strings) ≡ map string_bytes l.strings
