-- What a reader of macros has ahead.
use Rattle.std.specs.Prelude.{drop}
use Rattle.dag_reader.specs.declared.macro_reader.MacroReader.{MacroReader}
use Rattle.dag_reader.specs.declared.macro_reader.Pair.{Pair}
use Rattle.dag_reader.specs.declared.command.Macro.{Macro}
use Rattle.dag_reader.specs.LineReader.{word_of}
use Rattle.dag_reader.specs.MacroReading.{Ahead, ahead, macro_of}

abbrev pub ahead_of : MacroReader → Ahead
ahead_of reader = ahead reader.line reader.at (drop reader.at reader.text.now)

abbrev pub pair_of : Pair → Macro
pair_of pair = macro_of (word_of pair.name) (word_of pair.quoted)
