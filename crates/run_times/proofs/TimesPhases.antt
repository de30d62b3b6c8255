-- The phases as JSON, one after another, and that no number of them is a float.
use Rattle.std.proofs.Common.{◌≡◌, ℕ, zero, suc, ◌+◌, ◌<◌, ◌≤◌, Bool, true, false, true≢false, List, [], ◌∷◌, ◌++◌, map, take, take_all, length, get_or, refl, sym, ap, ◌∙◌, arith}
use Rattle.std.specs.Prelude.{◌||◌}
use Rattle.std.proofs.lemmas.List.{map-append}
use Rattle.serde_json.specs.Data.{Data, item}
use Rattle.serde_json.specs.View.{view, items_of, items_view}
use Rattle.serde_json.specs.Written.{has_float, items_have_float, compact_text}
use Rattle.serde_json.specs.declared.value.Value.{Value}
use Rattle.run_times.specs.declared.runs.Ending.{Ending}
use Rattle.run_times.specs.declared.runs.Ending.TheVariants.{Exit, Signal, Untold, NotStarted, Killed, Lost, Runs}
use Rattle.run_times.specs.declared.runs.PhaseRun.{PhaseRun}
use Rattle.run_times.specs.TimesData.{exit_code_data, signal_data, phase_data, phases_data, times_data}

-- the phases as a list
abbrev pub phases_list : List PhaseRun → List Bool → List Data
phases_list [] marks = []
phases_list (run ∷ runs) [] = []
phases_list (run ∷ runs) (mark ∷ marks) = phase_data run mark ∷ phases_list runs marks

items_of-phases_list : (runs : List PhaseRun) (marks : List Bool) → items_of (phases_list runs marks) ≡ phases_data runs marks
items_of-phases_list [] marks = refl
items_of-phases_list (run ∷ runs) [] = refl
items_of-phases_list (run ∷ runs) (mark ∷ marks) = ap (item (phase_data run mark)) (items_of-phases_list runs marks)

-- one phase more
one-more : (runs : List PhaseRun) (marks : List Bool) (n : ℕ) (d : PhaseRun) (e : Bool) → n < length runs → n < length marks
    → phases_list (take (suc n) runs) (take (suc n) marks) ≡ phases_list (take n runs) (take n marks) ++ (phase_data (get_or runs n d) (get_or marks n e) ∷ [])
one-more [] marks n d e inside marked = absurd (omega (arith, inside))
one-more (run ∷ runs) [] n d e inside marked = absurd (omega (arith, marked))
one-more (run ∷ runs) (mark ∷ marks) zero d e inside marked = refl
one-more (run ∷ runs) (mark ∷ marks) (suc n) d e inside marked =
    ap (λ ds. phase_data run mark ∷ ds) (one-more runs marks n d e (omega (arith, inside)) (omega (arith, marked)))

-- the values so far are those of the first phases, and so they are with the next one
pub values-more : (runs : List PhaseRun) (marks : List Bool) (n : ℕ) (d : PhaseRun) (e : Bool) (values new : List Value) (value : Value) → length marks ≡ length runs → n < length runs
    → map view values ≡ phases_list (take n runs) (take n marks) → view value ≡ phase_data (get_or runs n d) (get_or marks n e) → new ≡ values ++ (value ∷ [])
    → map view new ≡ phases_list (take (n + 1) runs) (take (n + 1) marks)
values-more runs marks n d e values new value each inside before is new_is =
    let next : n + 1 ≡ suc n = omega arith in
    ap (map view) new_is ∙ map-append view values (value ∷ []) ∙ ap (λ (ds : List Data). ds ++ (view value ∷ [])) before
    ∙ ap (λ (d : Data). phases_list (take n runs) (take n marks) ++ (d ∷ [])) is ∙ sym (one-more runs marks n d e inside (omega (arith, each, inside)))
    ∙ ap (λ (m : ℕ). phases_list (take m runs) (take m marks)) (sym next)

-- the values of all phases
pub values-all : (runs : List PhaseRun) (marks : List Bool) (n : ℕ) (values : List Value) → length marks ≡ length runs → length runs ≤ n
    → map view values ≡ phases_list (take n runs) (take n marks) → items_view values ≡ phases_data runs marks
values-all runs marks n values each all are =
    ap items_of (are ∙ ap (λ (rs : List PhaseRun). phases_list rs (take n marks)) (take_all n runs all)
    ∙ ap (phases_list runs) (take_all n marks (omega (arith, each, all)))) ∙ items_of-phases_list runs marks

-- neither of two
neither : (a b : Bool) → a ≡ false → b ≡ false → (a || b) ≡ false
neither true b first second = absurd (true≢false first)
neither false b first second = second

exit_code-no_float : (ending : Ending) → has_float (exit_code_data ending) ≡ false
exit_code-no_float (Exit code) = refl
exit_code-no_float (Signal signal) = refl
exit_code-no_float Untold = refl
exit_code-no_float NotStarted = refl
exit_code-no_float Killed = refl
exit_code-no_float Lost = refl
exit_code-no_float Runs = refl

signal-no_float : (ending : Ending) → has_float (signal_data ending) ≡ false
signal-no_float (Exit code) = refl
signal-no_float (Signal signal) = refl
signal-no_float Untold = refl
signal-no_float NotStarted = refl
signal-no_float Killed = refl
signal-no_float Lost = refl
signal-no_float Runs = refl

phase-no_float : (run : PhaseRun) (mark : Bool) → has_float (phase_data run mark) ≡ false
phase-no_float run mark = neither (has_float (exit_code_data run.ending)) _ (exit_code-no_float run.ending) (neither (has_float (signal_data run.ending)) false (signal-no_float run.ending) refl)

phases-no_float : (runs : List PhaseRun) (marks : List Bool) → items_have_float (phases_data runs marks) ≡ false
phases-no_float [] marks = refl
phases-no_float (run ∷ runs) [] = refl
phases-no_float (run ∷ runs) (mark ∷ marks) =
    neither (has_float (phase_data run mark)) (items_have_float (phases_data runs marks)) (phase-no_float run mark) (phases-no_float runs marks)

pub times-no_float : (runs : List PhaseRun) (marks : List Bool) → has_float (times_data runs marks) ≡ false
times-no_float runs marks = neither (items_have_float (phases_data runs marks)) false (phases-no_float runs marks) refl

-- the text of the value of all phases, where a value without floats has this text
pub text-of_times : (runs : List PhaseRun) (marks : List Bool) (value : Value) (text : List ℕ) → view value ≡ times_data runs marks
    → (has_float (view value) ≡ false → text ≡ compact_text (view value)) → text ≡ compact_text (times_data runs marks)
text-of_times runs marks value text is said = said (ap has_float is ∙ times-no_float runs marks) ∙ ap compact_text is
