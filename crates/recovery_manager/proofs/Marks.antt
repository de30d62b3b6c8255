-- The marks of a core are one list.
use Rattle.std.proofs.Common.{◌≡◌, ℕ, suc, ◌+◌, ◌<◌, Bool, false, List, [], ◌∷◌, length, map, unwrap_or, refl, ap, ◌∙◌, subst, arith, add-zero}
use Rattle.std.specs.Prelude.{slice_get}
use Rattle.std.specs.List.{range_with_len}
use Rattle.run_plan.specs.Plan.{Plan}
use Rattle.node_machine.specs.declared.Record.{Record}
use Rattle.sched_core.specs.Run.{is_done}
use Rattle.sched_core.specs.Core.{AreDoneMarks}
use Rattle.recovery_manager.specs.Rescue.{marks_of}

marks-from : (done : ℕ → Bool) (number : ℕ) (marks : List Bool)
    → ((i : ℕ) → i < length marks → unwrap_or (slice_get marks i) false ≡ done (number + i))
    → marks ≡ map done (range_with_len number (length marks))
marks-from done number [] each = refl
marks-from done number (mark ∷ marks) each =
    let here : mark ≡ done number = each 0 (omega arith) ∙ ap done (add-zero number) in
    let rest = marks-from done (number + 1) marks (λ i lt. each (suc i) (omega arith)
    ∙ ap done (let e : number + suc i ≡ number + 1 + i = omega arith in e)) in
    λ j. here j ∷ rest j

pub marks-are : (plan : Plan) (past : List Record) (marks : List Bool) → AreDoneMarks plan past marks → marks ≡ marks_of plan past
marks-are plan past marks are =
    marks-from (is_done plan past) 0 marks (λ i lt. are.each i (subst (λ (n : ℕ). i < n) are.many lt)
    ∙ ap (is_done plan past) (let e : i ≡ 0 + i = omega arith in e))
    ∙ ap (λ (n : ℕ). map (is_done plan past) (range_with_len 0 n)) are.many
