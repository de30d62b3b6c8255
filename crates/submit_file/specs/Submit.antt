-- What a submit description says.
use Rattle.std.specs.Prelude.{◌≡◌, ◌⊎◌, ℕ, Bool, true, false, List, [], ◌∷◌, ◌++◌, Option, Some, None, Result, Ok, Err, if◌then◌else◌}
use Rattle.std.specs.Str.{IsUtf8}
use Rattle.std.specs.Str.Lines.{lines}
pub use Rattle.dag_reader.specs.Results.{◌>>=◌}
use Rattle.dag_reader.specs.Results.{Tells, Returns}
use Rattle.submit_file.specs.Lines.{Statement, statements}
use Rattle.submit_file.specs.Forms.{Saying, Silent, Assigns, Queues, Wrong, line_says, is_word}
use Rattle.submit_file.specs.declared.submit.Assignment.{Assignment}
use Rattle.submit_file.specs.declared.fault.LineFault.{LineFault}
use Rattle.submit_file.specs.declared.fault.SubmitFault.{SubmitFault}
use Rattle.submit_file.specs.declared.fault.SubmitFault.TheVariants.{NotText, NoQueue, InLine, Memory}

abbrev pub an_assignment : List ℕ → List ℕ → Assignment
an_assignment name value = record { name = name; value = value }

-- Each line says nothing or assigns, and these are the assignments.
abbrev pub AssignAll : Bool → List Statement → List Assignment → Type 0
AssignAll queued [] pairs = pairs ≡ []
AssignAll queued (s ∷ ss) pairs = ((line_says queued s.text ≡ Silent) × AssignAll queued ss pairs)
    ⊎ ((name value : List ℕ) × (others : List Assignment) × (line_says queued s.text ≡ Assigns name value) × (pairs ≡ an_assignment name value ∷ others) × AssignAll queued ss others)

-- One line queues the job, and these are the assignments above it. Those below it are read and have no effect.
abbrev pub SayAssignments : List Statement → List Assignment → Type 0
SayAssignments ss pairs = (front : List Statement) × (queue : Statement) × (back : List Statement) × (late : List Assignment)
    × (ss ≡ front ++ queue ∷ back) × AssignAll false front pairs × (line_says false queue.text ≡ Queues) × AssignAll true back late

abbrev pub SaysAssignments : List ℕ → List Assignment → Type 0
SaysAssignments text pairs = IsUtf8 text × SayAssignments (statements 1 (lines text)) pairs

-- A line that can't be read, and its fault, where the lines above it can: they have no queue line, or one.
abbrev pub IsWrongBelow : List Statement → List ℕ → LineFault → Type 0
IsWrongBelow front text f = (pairs : List Assignment) × ((AssignAll false front pairs × (line_says false text ≡ Wrong f)) ⊎ (SayAssignments front pairs × (line_says true text ≡ Wrong f)))

-- The fault is that of the first line that can't be read; or all can be read, and none queues the job.
abbrev pub IsFirstFault : List Statement → SubmitFault → Type 0
IsFirstFault ss Memory = Unit {0}
IsFirstFault ss NotText = ⊥
IsFirstFault ss NoQueue = (pairs : List Assignment) × AssignAll false ss pairs
IsFirstFault ss (InLine number f) = (front : List Statement) × (s : Statement) × (back : List Statement)
    × (ss ≡ front ++ s ∷ back) × (number ≡ s.number) × IsWrongBelow front s.text f

-- a fault of a text: it is not UTF-8, or its lines have the fault
abbrev pub IsTextFault : List ℕ → SubmitFault → Type 0
IsTextFault text Memory = Unit {0}
IsTextFault text NotText = ¬ (IsUtf8 text)
IsTextFault text NoQueue = IsUtf8 text × IsFirstFault (statements 1 (lines text)) NoQueue
IsTextFault text (InLine number f) = IsUtf8 text × IsFirstFault (statements 1 (lines text)) (InLine number f)

-- the assignments so far, and whether the queue line was read
pub record Reading : Type 0 where
  pub assigned : List Assignment
  pub queued : Bool

abbrev pub nothing_read : Reading
nothing_read = record { assigned = []; queued = false }

-- One line more. Assignments below the queue line have no effect.
abbrev pub with_assignment : Reading → List ℕ → List ℕ → Reading
with_assignment r name value = if r.queued then r else record r { assigned = r.assigned ++ an_assignment name value ∷ [] }

abbrev pub with_submit_line : Reading → ℕ → Saying → Result Reading SubmitFault
with_submit_line r number Silent = Ok r
with_submit_line r number (Assigns name value) = Ok (with_assignment r name value)
with_submit_line r number Queues = Ok (record r { queued = true })
with_submit_line r number (Wrong fault) = Err (InLine number fault)

-- all lines, one after the other, and then the queue line must have been read
unfoldable pub read_from : Reading → List Statement → Result (List Assignment) SubmitFault
read_from r [] = if r.queued then Ok r.assigned else Err NoQueue
read_from r (s ∷ ss) = with_submit_line r s.number (line_says r.queued s.text) >>= λ more. read_from more ss

abbrev pub submit_of : List ℕ → Result (List Assignment) SubmitFault
submit_of text = read_from nothing_read (statements 1 (lines text))

-- The fault that a refusal reports; for lack of memory it reports none.
abbrev pub told_fault : SubmitFault → Option SubmitFault
told_fault Memory = None
told_fault fault = Some fault

-- what a function returned, seen by view, is this answer, unless memory ran out
abbrev pub Fails : {Y : Type 0} → SubmitFault → Result Y SubmitFault → Type 0
Fails fault answer = Tells (told_fault fault) answer

abbrev pub Gives : {X Y : Type 0} → (X → Y) → Result X SubmitFault → Result Y SubmitFault → Type 0
Gives view = Returns told_fault view

-- the value that was assigned to the name last
abbrev pub value_assigned : Option (List ℕ) → List Assignment → List ℕ → Option (List ℕ)
value_assigned found [] name = found
value_assigned found (a ∷ more) name = value_assigned (if is_word a.name name then Some a.value else found) more name

abbrev pub last_value : List Assignment → List ℕ → Option (List ℕ)
last_value assignments name = value_assigned None assignments name
