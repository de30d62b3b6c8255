-- Results of which more is known.
use Rattle.std.proofs.Common.{Result, Ok, Err, IfOk}

-- what follows from what holds of a value
pub if-ok : {A E : Type 0} (P Q : A → Type 0) (r : Result A E) → IfOk r P → ((x : A) → P x → Q x) → IfOk r Q
if-ok P Q (Ok x) h more = more x h
if-ok P Q (Err e) h more = tt
