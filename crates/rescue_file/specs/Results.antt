-- Results with another value.
use Rattle.std.specs.Prelude.{Result, Ok, Err}
use Rattle.rescue_file.specs.declared.fault.RescueFault.{RescueFault}

-- a result whose value is seen by a view
abbrev pub viewed : {A B : Type 0} → (A → B) → Result A RescueFault → Result B RescueFault
viewed view (Ok x) = Ok (view x)
viewed view (Err e) = Err e
