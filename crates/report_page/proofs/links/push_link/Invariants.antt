use Rattle.std.proofs.Common.{◌≡◌, ◌++◌, flat_map, string_bytes, codes}
use Rattle.report_page.specs.Links.{linked_byte}
use Rattle.report_page.proofs.links.push_link.Given as goal

abbrev pub invariant-loop-byte : goal.invariant-loop-byte
invariant-loop-byte l = string_bytes l.text ≡ string_bytes l.fn.text ++ (codes "file://" ++ flat_map linked_byte l.yielded)
