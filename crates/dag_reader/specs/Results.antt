-- Steps that may fail, and what a call returns that may be refused memory. Every crate that reads texts uses these.
use Rattle.std.specs.Prelude.{◌≡◌, Option, Some, None, Result, Ok, Err}

-- A step, and then what is done with its answer: the first fault ends the steps.
infixl 10 ◌>>=◌
abbrev pub ◌>>=◌ : {A B F : Type 0} → Result A F → (A → Result B F) → Result B F
(Ok x) >>= f = f x
(Err fault) >>= f = Err fault

-- A refusal reports this fault of an answer, or none, where memory was refused.
abbrev pub Tells : {Y F : Type 0} → Option F → Result Y F → Type 0
Tells None answer = Unit {0}
Tells (Some fault) answer = answer ≡ Err fault

-- What a call returned, seen by view, is this answer, unless memory was refused: fault_of says which fault a refusal
-- reports.
abbrev pub Returns : {X Y E F : Type 0} → (E → Option F) → (X → Y) → Result X E → Result Y F → Type 0
Returns fault_of view (Ok x) answer = answer ≡ Ok (view x)
Returns fault_of view (Err refusal) answer = Tells (fault_of refusal) answer
