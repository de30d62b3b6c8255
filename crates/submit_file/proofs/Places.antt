-- Assignments with their lines, statement by statement.
use Rattle.std.proofs.Common.{◌≡◌, ◌∙◌, sym, ap, refl, inl, inr, ℕ, Bool, true, false, List, [], ◌∷◌, ◌++◌, length, append_assoc, arith, Result, Ok, Err}
use Rattle.std.specs.Prelude.{IfOk, Vec}
use Rattle.std.specs.Global.{Global}
use Rattle.std.proofs.lemmas.List.{append-nil}
use Rattle.std.specs.Str.Lines.{lines}
use Rattle.submit_file.specs.Lines.{Statement, statements}
use Rattle.submit_file.specs.Forms.{Saying, Silent, Assigns, Queues, line_says}
use Rattle.submit_file.specs.Submit.{an_assignment, AssignAll, SayAssignments, SaysAssignments, Gives}
use Rattle.submit_file.specs.Placed.{Placing, placed_in, is_queued_below, placed_from, placed_of, with_placed, effective_assignments}
use Rattle.submit_file.specs.declared.fault.SubmitFault.{SubmitFault}
use Rattle.submit_file.specs.declared.submit.Assignment.{Assignment}
use Rattle.submit_file.specs.declared.placed.PlacedAssignment.{PlacedAssignment}

-- what a call that answers a placing has returned
abbrev pub told : Placing → Result Placing SubmitFault
told p = Ok p

is_told : (p q : Placing) → told p ≡ told q → q ≡ p
is_told p q h = cc

-- one statement more is placed
pub line_placed : (p q : Placing) (n : ℕ) (t : List ℕ) (all more : List Statement) → all ≡ record { number = n; text = t } ∷ more →
    told (with_placed p n (line_says p.queued t)) ≡ told q → q.placed ++ placed_from q.queued more ≡ p.placed ++ placed_from p.queued all
unfolding placed_from
line_placed p q n t all more e h =
    ap (λ (x : Placing). x.placed ++ placed_from x.queued more) (is_told _ q h)
    ∙ append_assoc p.placed (placed_in p.queued n (line_says p.queued t)) (placed_from (is_queued_below p.queued (line_says p.queued t)) more)
    ∙ ap (λ (x : List Statement). p.placed ++ placed_from p.queued x) (sym e)

-- no line is left
pub all_placed : (p : Placing) (n : ℕ) (rest : List ℕ) → length rest ≡ 0 → p.placed ++ placed_from p.queued (statements n (lines rest)) ≡ p.placed
unfolding placed_from
all_placed p n [] e = append-nil p.placed
all_placed p n (b ∷ bs) e = absurd (omega arith)

-- Those that count are what the lines say.
said_by : (queued : Bool) (s : Statement) (ss : List Statement) (said : Saying) → line_says queued s.text ≡ said →
    placed_from queued (s ∷ ss) ≡ placed_in queued s.number said ++ placed_from (is_queued_below queued said) ss
unfolding placed_from
said_by queued s ss said e = ap (λ (x : Saying). placed_in queued s.number x ++ placed_from (is_queued_below queued x) ss) e

counted_below : (back : List Statement) (late : List Assignment) → AssignAll true back late → effective_assignments (placed_from true back) ≡ []
unfolding placed_from
counted_below [] late e = refl
counted_below (s ∷ ss) late (inl (silent, all)) = ap effective_assignments (said_by true s ss Silent silent) ∙ counted_below ss late all
counted_below (s ∷ ss) late (inr (name, value, others, says, is, all)) = ap effective_assignments (said_by true s ss (Assigns name value) says) ∙ counted_below ss others all

counted_above : (front rest : List Statement) (pairs : List Assignment) → AssignAll false front pairs → effective_assignments (placed_from false (front ++ rest)) ≡ pairs ++ effective_assignments (placed_from false rest)
counted_above [] rest pairs e = ap (λ (xs : List Assignment). xs ++ effective_assignments (placed_from false rest)) (sym e)
counted_above (s ∷ front) rest pairs (inl (silent, all)) = ap effective_assignments (said_by false s (front ++ rest) Silent silent) ∙ counted_above front rest pairs all
counted_above (s ∷ front) rest pairs (inr (name, value, others, says, is, all)) =
    ap effective_assignments (said_by false s (front ++ rest) (Assigns name value) says)
    ∙ ap (λ (xs : List Assignment). an_assignment name value ∷ xs) (counted_above front rest others all)
    ∙ ap (λ (xs : List Assignment). xs ++ effective_assignments (placed_from false rest)) (sym is)

pub counted_says : (ss : List Statement) (pairs : List Assignment) → SayAssignments ss pairs → effective_assignments (placed_from false ss) ≡ pairs
counted_says ss pairs (front, queue, back, late, e, above, queues, below) =
    ap (λ (x : List Statement). effective_assignments (placed_from false x)) e
    ∙ counted_above front (queue ∷ back) pairs above
    ∙ ap (λ (xs : List Assignment). pairs ++ xs) (ap effective_assignments (said_by false queue back Queues queues) ∙ counted_below back late below)
    ∙ append-nil pairs

pub found_same : (text : List ℕ) (pairs : List Assignment) (r : Result (Vec PlacedAssignment Global) SubmitFault) → SaysAssignments text pairs →
    Gives (λ found. found.items) r (Ok (placed_of text)) → IfOk r (λ found. effective_assignments found.items ≡ pairs)
found_same text pairs (Ok found) says h =
    let same : found.items ≡ placed_of text = cc in
    ap effective_assignments same ∙ counted_says (statements 1 (lines text)) pairs says.1
found_same text pairs (Err e) says h = tt
