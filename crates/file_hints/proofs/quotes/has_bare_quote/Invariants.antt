use Rattle.std.proofs.Common.{◌≡◌, length}
use Rattle.file_hints.specs.Quotes.{has_bare_quote}
use Rattle.file_hints.proofs.quotes.has_bare_quote.Given as goal

abbrev pub invariant-loop-rest : goal.invariant-loop-rest
invariant-loop-rest l = has_bare_quote l.before l.rest ≡ has_bare_quote 0 l.text

abbrev pub decreases-loop-rest : goal.decreases-loop-rest
decreases-loop-rest l = length l.rest
