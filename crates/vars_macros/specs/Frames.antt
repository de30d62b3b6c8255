-- The texts that are gone on with later.
use Rattle.vars_macros.specs.NameTable.{HaveSameNumbers, IsKeyOf}
use Rattle.vars_macros.specs.declared.key.Key.{Key}
use Rattle.vars_macros.specs.declared.machine.Suspended.{Suspended}
use Rattle.vars_macros.specs.declared.numbering.Names.{Names}

-- a key and a suspended text
abbrev pub Frame : Type 0
Frame = Key × Suspended

-- The text is found by the key of its name, and its names have the numbers of this table.
pub record HasKey (names : Names) (f : Frame) : Type 0 where
  pub key : IsKeyOf names f.1.name.now f.0
  pub numbers : HaveSameNumbers f.1.rest.names.now names
