use Rattle.std.proofs.Common.{◌≡◌, ◌++◌, length, true, false}
use Rattle.std.specs.Str.{IsUtf8}
use Rattle.vars_macros.specs.Symbols.{gathered, old_symbols}
use Rattle.vars_macros.specs.Gathered.{no_words}
use Rattle.vars_macros.specs.Gathered.{gathering_of}
use Rattle.vars_macros.proofs.WordTexts.{BeginsAscii}
use Rattle.vars_macros.proofs.arguments.split_old.Given as goal

abbrev pub invariant-loop-byte : goal.invariant-loop-byte
invariant-loop-byte l = record {
  same : gathered (gathering_of l.words) (old_symbols l.escaped l.rest) ≡ gathered no_words (old_symbols false l.text);
  text : IsUtf8 (l.words.word.items ++ l.rest);
  pair : l.escaped ≡ true → BeginsAscii l.rest;
}

abbrev pub decreases-loop-byte : goal.decreases-loop-byte
decreases-loop-byte l = length l.rest
