-- The timings and the limits of replays, as loops come to them.
use Rattle.std.proofs.Common.{◌≡◌, ◌∙◌, ◌+◌, ◌<◌, ◌≤◌, ◌++◌, ℕ, suc, Bool, false, List, [], ◌∷◌, All, Option, Some, length, get_or, take, map, filter, flat_map, refl, sym, ap, subst, arith, append_assoc, append-nil}
use Rattle.std.proofs.Math.Seq.{take-suc}
use Rattle.std.proofs.lemmas.Grind.{flat_map-append}
use Rattle.std.proofs.lemmas.List.{map-append, take_all}
use Rattle.std.proofs.lemmas.List.Elements.{All-append, All-cons, All-nil}
use Rattle.std.specs.Prelude.{slice_get, IfSome}
use Rattle.std.proofs.lemmas.Option.{slice_get-get_or}
use Rattle.node_machine.specs.declared.Key.{Key}
use Rattle.throttles.specs.declared.Limits.{Limits}
use Rattle.dag_graph.specs.Graph.{Network}
use Rattle.run_plan.specs.Plan.{Plan}
use Rattle.run_plan.specs.Submitted.{bare_plan}
use Rattle.dag_main_rehearse.specs.declared.replays.Replay.{Replay}
use Rattle.dag_main_rehearse.specs.Timed.{Timings}
use Rattle.dag_main_rehearse.specs.Replay.{IsReplay}
use Rattle.run_times.specs.declared.runs.PhaseRun.{PhaseRun}
use Rattle.run_times.specs.declared.limits.Limit.{Limit}
use Rattle.run_times.specs.declared.limits.Counted.{Counted}
use Rattle.run_times.specs.declared.gains.Gain.{Gain}
use Rattle.run_times.specs.Gains.{timings_with, timings_next, timings_after, timings_in, core_number, with_number, limits_next, core_limits_after, core_limits, was_full, TakesUnder, TakesWithout, IsGain, AreGains, are_gains}

-- one phase more
pub timings-more : (graph : Network) (runs : List PhaseRun) (i : ℕ) (d : PhaseRun) (old new : Timings) → i < length runs
    → ((key : Key) → old key ≡ timings_after graph runs i key) → ((key : Key) → new key ≡ timings_with graph (get_or runs i d) old key)
    → (key : Key) → new key ≡ timings_after graph runs (i + 1) key
timings-more graph runs i d old new inside old_is new_is key =
    let one : suc i ≡ i + 1 = omega arith in
    subst (λ (n : ℕ). new key ≡ timings_after graph runs n key) one
    (new_is key ∙ ap (λ (timings : Timings). timings_with graph (get_or runs i d) timings key) (λ j other. old_is other j)
    ∙ ap (λ (run : Option PhaseRun). timings_next graph run (timings_after graph runs i) key) (sym (slice_get-get_or runs i d inside)))

-- one limit more
pub limits-more : (limits : List Limit) (i : ℕ) (d : Limit) (old new : Limits) (number : ℕ) → i < length limits → old ≡ core_limits_after limits i
    → number ≡ core_number (get_or limits i d).most → new ≡ with_number (get_or limits i d).counted number old → new ≡ core_limits_after limits (i + 1)
limits-more limits i d old new number inside old_is number_is new_is =
    let one : suc i ≡ i + 1 = omega arith in
    subst (λ (n : ℕ). new ≡ core_limits_after limits n) one
    (new_is ∙ (λ j. with_number (get_or limits i d).counted (number_is j) (old_is j))
    ∙ ap (λ (limit : Option Limit). limits_next limit (core_limits_after limits i)) (sym (slice_get-get_or limits i d inside)))

-- a replay that is not aborted
pub not-aborted : (limits : Limits) (plan : Plan) (timings : Timings) (replay : Replay) → replay.aborted ≡ false → IsReplay limits plan timings replay
    → TakesUnder limits plan timings replay.time
not-aborted limits plan timings replay is r =
    subst (IsReplay limits plan timings) (λ j. record { time = replay.time; aborted = is j }) r

-- one piece of a text more
pub piece-more : {X : Type 0} (f : X → List ℕ) (xs : List X) (i : ℕ) (d : X) (start text new : List ℕ) → i < length xs → text ≡ start ++ flat_map f (take i xs)
    → new ≡ text ++ f (get_or xs i d) → new ≡ start ++ flat_map f (take (i + 1) xs)
piece-more {X} f xs i d start text new inside text_is new_is =
    let one : suc i ≡ i + 1 = omega arith in
    let piece = f (get_or xs i d) in
    let taken : take (i + 1) xs ≡ take i xs ++ (get_or xs i d ∷ []) = ap (λ (n : ℕ). take n xs) (sym one) ∙ take-suc xs i d inside in
    let pieces : flat_map f (take (i + 1) xs) ≡ flat_map f (take i xs) ++ piece =
    ap (flat_map f) taken ∙ flat_map-append f (take i xs) (get_or xs i d ∷ []) ∙ ap (λ (t : List ℕ). flat_map f (take i xs) ++ t) (append-nil piece) in
    new_is ∙ ap (λ (t : List ℕ). t ++ piece) text_is ∙ append_assoc start (flat_map f (take i xs)) piece ∙ ap (λ (t : List ℕ). start ++ t) (sym pieces)

-- what is said of a value that is there
pub at-some : {A : Type 0} (P : A → Type 0) (o : Option A) (x : A) → o ≡ Some x → IfSome o P → P x
at-some P o x is holds = subst (λ o. IfSome o P) is holds

-- a gain, by two replays
pub gain-by : (plan : Plan) (runs : List PhaseRun) (limits : List Limit) (seen : Network) (timings : Timings) (all : Limits) (counted : Counted) (without under_all : ℕ) → plan ≡ bare_plan false plan.graph
    → all ≡ core_limits limits → seen ≡ plan.graph → ((key : Key) → timings key ≡ timings_in seen runs key) → TakesWithout plan.graph all timings counted without
    → TakesUnder all plan timings under_all → IsGain plan.graph runs limits (record { counted = counted; without = without; under_all = under_all })
gain-by plan runs limits seen timings all counted without under_all bare all_is seen_is timings_are takes_without takes_under =
    let graph = plan.graph in
    let pointwise : timings ≡ timings_in seen runs = λ j key. timings_are key j in
    let same : timings ≡ timings_in graph runs = pointwise ∙ ap (λ (n : Network). timings_in n runs) seen_is in
    record {
      without =
          subst (λ (a : Limits). TakesWithout graph a (timings_in graph runs) counted without) all_is
          (subst (λ (t : Timings). TakesWithout graph all t counted without) same takes_without);
      under_all =
          subst (λ (p : Plan). TakesUnder (core_limits limits) p (timings_in graph runs) under_all) bare
          (subst (λ (a : Limits). TakesUnder a plan (timings_in graph runs) under_all) all_is (subst (λ (t : Timings). TakesUnder all plan t under_all) same takes_under));
    }

-- one gain more
pub counted-more : (full : List Limit) (i : ℕ) (d : Limit) (gains new : List Gain) (gain : Gain) → i < length full
    → map (λ (g : Gain). g.counted) gains ≡ map (λ (l : Limit). l.counted) (take i full) → gain.counted ≡ (get_or full i d).counted → new ≡ gains ++ (gain ∷ [])
    → map (λ (g : Gain). g.counted) new ≡ map (λ (l : Limit). l.counted) (take (i + 1) full)
counted-more full i d gains new gain inside counted_are counted_is new_is =
    let one : suc i ≡ i + 1 = omega arith in
    let of_gain = λ (g : Gain). g.counted in
    let of_limit = λ (l : Limit). l.counted in
    let taken : take (i + 1) full ≡ take i full ++ (get_or full i d ∷ []) = ap (λ (n : ℕ). take n full) (sym one) ∙ take-suc full i d inside in
    ap (map of_gain) new_is ∙ map-append of_gain gains (gain ∷ []) ∙ (λ j. counted_are j ++ (counted_is j ∷ [])) ∙ sym (map-append of_limit (take i full) (get_or full i d ∷ []))
    ∙ ap (map of_limit) (sym taken)

pub gains-more : (graph : Network) (runs : List PhaseRun) (limits : List Limit) (gains new : List Gain) (gain : Gain) → All (IsGain graph runs limits) gains → IsGain graph runs limits gain
    → new ≡ gains ++ (gain ∷ []) → All (IsGain graph runs limits) new
gains-more graph runs limits gains new gain are is new_is =
    subst (All (IsGain graph runs limits)) (sym new_is) (All-append (IsGain graph runs limits) gains (gain ∷ []) are (All-cons (IsGain graph runs limits) gain [] is (All-nil (IsGain graph runs limits))))

-- all gains, of the limits that were full
pub all-gains : (graph seen : Network) (runs : List PhaseRun) (limits full items : List Limit) (i : ℕ) (gains : List Gain) → length items ≤ i → items ≡ full → seen ≡ graph
    → full ≡ filter (was_full seen runs) limits → map (λ (g : Gain). g.counted) gains ≡ map (λ (l : Limit). l.counted) (take i items) → All (IsGain graph runs limits) gains
    → AreGains graph runs limits gains
all-gains graph seen runs limits full items i gains beyond items_are seen_is full_are counted_are are =
    are_gains (counted_are ∙ ap (map (λ (l : Limit). l.counted)) (take_all i items beyond ∙ items_are ∙ full_are ∙ ap (λ (n : Network). filter (was_full n runs) limits) seen_is)) are
