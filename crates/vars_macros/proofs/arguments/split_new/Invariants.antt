use Rattle.std.proofs.Common.{◌≡◌, ◌++◌, length, true, false}
use Rattle.std.specs.Str.{IsUtf8}
use Rattle.vars_macros.specs.Symbols.{gathered, new_symbols}
use Rattle.vars_macros.specs.Gathered.{no_words}
use Rattle.vars_macros.specs.Gathered.{gathering_of}
use Rattle.vars_macros.proofs.WordTexts.{BeginsAscii}
use Rattle.vars_macros.proofs.arguments.split_new.Given as goal

abbrev pub invariant-loop-byte : goal.invariant-loop-byte
invariant-loop-byte l = record {
  same : gathered (gathering_of l.words) (new_symbols l.paired l.grouped l.rest) ≡ gathered no_words (new_symbols false false l.text);
  text : IsUtf8 (l.words.word.items ++ l.rest);
  pair : l.paired ≡ true → BeginsAscii l.rest;
}

abbrev pub decreases-loop-byte : goal.decreases-loop-byte
decreases-loop-byte l = length l.rest
