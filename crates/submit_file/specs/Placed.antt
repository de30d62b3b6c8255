-- The assignments of a submit description with their lines.
use Rattle.std.specs.Prelude.{ℕ, Bool, true, false, not, List, [], ◌∷◌, ◌++◌, map, filter}
use Rattle.std.specs.Str.Lines.{lines}
use Rattle.submit_file.specs.Lines.{Statement, statements}
use Rattle.submit_file.specs.Forms.{Saying, Assigns, Queues, line_says}
use Rattle.submit_file.specs.Submit.{an_assignment}
use Rattle.submit_file.specs.declared.submit.Assignment.{Assignment}
use Rattle.submit_file.specs.declared.placed.PlacedAssignment.{PlacedAssignment}

-- an assignment on the line of this number; it counts where no queue line is above (queued)
abbrev pub a_placed : (queued : Bool) → (number : ℕ) → (name value : List ℕ) → PlacedAssignment
a_placed queued number name value = record { line = number; counts = not queued; assignment = an_assignment name value }

-- what a line assigns; nothing where it can't be read
abbrev pub placed_in : (queued : Bool) → (number : ℕ) → Saying → List PlacedAssignment
placed_in queued number (Assigns name value) = a_placed queued number name value ∷ []
placed_in queued number _ = []

-- whether a queue line is above what is below such a line
abbrev pub is_queued_below : Bool → Saying → Bool
is_queued_below queued Queues = true
is_queued_below queued _ = queued

-- the assignments of all lines
unfoldable pub placed_from : (queued : Bool) → List Statement → List PlacedAssignment
placed_from queued [] = []
placed_from queued (s ∷ ss) =
    let said = line_says queued s.text in
    placed_in queued s.number said ++ placed_from (is_queued_below queued said) ss

abbrev pub placed_of : List ℕ → List PlacedAssignment
placed_of text = placed_from false (statements 1 (lines text))

-- those that count, without their places
abbrev pub effective_assignments : List PlacedAssignment → List Assignment
effective_assignments placed = map (λ p. p.assignment) (filter (λ p. p.counts) placed)

-- the assignments so far, and whether the queue line was read
pub record Placing : Type 0 where
  pub placed : List PlacedAssignment
  pub queued : Bool

-- one line more
abbrev pub with_placed : Placing → ℕ → Saying → Placing
with_placed p number said = record { placed = p.placed ++ placed_in p.queued number said; queued = is_queued_below p.queued said }
