-- Texts that are UTF-8.
use Rattle.std.specs.Prelude.{Bool, List}
use Rattle.std.specs.List.{AllByRecursion, list_all}
use Rattle.std.specs.Str.{IsUtf8, is_utf8}
use Rattle.vars_macros.specs.declared.assignment.Macro.{Macro}

abbrev pub are_texts : List Macro → Bool
are_texts ms = list_all (λ (m : Macro). is_utf8 m.value) ms

abbrev pub AreTexts : List Macro → Type 0
AreTexts ms = AllByRecursion (λ (m : Macro). IsUtf8 m.value) ms
