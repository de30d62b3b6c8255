-- What asks for a halt, by its cause.
use Rattle.std.proofs.Common.{ℕ, List, inl, inr, refl}
use Rattle.dag_main_run.specs.declared.halting.HaltCause.{HaltCause}
use Rattle.dag_main_run.specs.declared.halting.HaltCause.TheVariants.{File, Error, Moved, JournalGone}
use Rattle.dag_main_run.specs.Sites.{AsksToHalt, halt_name}

-- what has the name of a cause asks for a halt
pub name-asks : (top : List ℕ) (cause : HaltCause) → AsksToHalt top (halt_name top cause)
name-asks top File = inl refl
name-asks top Error = inr (inl refl)
name-asks top Moved = inr (inr (inl refl))
name-asks top JournalGone = inr (inr (inr refl))
