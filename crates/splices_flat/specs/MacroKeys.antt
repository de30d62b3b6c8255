-- Macros by their names in lower case.
use Rattle.std.specs.Prelude.{ℕ, List}
use Rattle.std.specs.Str.{str_to_ascii_lowercase}
use Rattle.splices_flat.specs.declared.flat.MacroSetting.{MacroSetting}

abbrev pub macro_key : MacroSetting → List ℕ
macro_key m = str_to_ascii_lowercase m.name
