use Rattle.std.proofs.Common.{◌≡◌, ◌++◌, map, drop}
use Rattle.std.specs.Prelude.{string_bytes}
use Rattle.std.specs.Str.{str_to_ascii_lowercase}
use Rattle.file_hints.proofs.meant.in_lower_case.Given as goal

abbrev pub invariant-loop-word : goal.invariant-loop-word
invariant-loop-word l =
    map string_bytes l.lower.items ++ map str_to_ascii_lowercase (map (λ w. w.now) (drop l.word-index l.words)) ≡ map str_to_ascii_lowercase (map (λ w. w.now) l.words)
