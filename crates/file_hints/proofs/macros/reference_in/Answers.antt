use Rattle.std.proofs.Common.{sym, subst}
use Rattle.std.specs.Str.{IsUtf8}
use Rattle.file_hints.proofs.MacroNames.{name_text}
use Rattle.file_hints.proofs.macros.reference_in.Goals as goal

pub text_of-requires : goal.text_of-requires
text_of-requires c = subst IsUtf8 (sym c.split_at.ensures.front) (name_text _ c.name_length.result c.name_length.ensures.value)
