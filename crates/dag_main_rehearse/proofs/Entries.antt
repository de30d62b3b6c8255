-- What a timetable says once a key has another timing.
use Rattle.std.proofs.Common.{◌≡◌, ◌≢◌, ◌<◌, ◌++◌, ◌⊎◌, inl, inr, ℕ, zero, suc, Bool, true, false, ◌&&◌, ◌==◌, List, [], ◌∷◌, Option, Some, None, reverse, set, length, refl, sym, ap, ◌∙◌, arith, length-set, if◌then◌else◌}
use Rattle.std.specs.Prelude.{slice_get}
use Rattle.std.proofs.lemmas.List.{reverse-append, get_or-set_same}
use Rattle.std.proofs.lemmas.Option.{slice_get-get_or}
use Rattle.std.proofs.lemmas.Bool.Decides.{eqb_tells}
use Rattle.node_machine.specs.declared.Key.{Key}
use Rattle.node_machine.specs.Story.{phase_number}
use Rattle.sched_core.specs.Run.{is_same}
use Rattle.dag_main_rehearse.specs.declared.timetable.Timing.{Timing}
use Rattle.dag_main_rehearse.specs.declared.timetable.Timed.{Timed}
use Rattle.dag_main_rehearse.specs.declared.timetable.NodeTimings.{NodeTimings}
use Rattle.dag_main_rehearse.specs.Timed.{timing_among, timing_of_node}

got-same : {A : Type 0} (xs : List A) (i : ℕ) (x : A) → i < length xs → slice_get (set xs i x) i ≡ Some x
got-same xs i x inside =
    slice_get-get_or (set xs i x) i x (let kept = length-set xs i x in omega arith) ∙ ap Some (get_or-set_same xs i x x inside)

got-other : {A : Type 0} (xs : List A) (i j : ℕ) (x : A) → j ≢ i → slice_get (set xs i x) j ≡ slice_get xs j
got-other [] i j x ne = refl
got-other (y ∷ ys) zero zero x ne = absurd (ne refl)
got-other (y ∷ ys) zero (suc j) x ne = refl
got-other (y ∷ ys) (suc i) zero x ne = refl
got-other (y ∷ ys) (suc i) (suc j) x ne = got-other ys i j x (λ e. ne (ap suc e))

-- the entries of the node of a key have one more
pub set-timing : (nodes : List NodeTimings) (old new : NodeTimings) (key : Key) (timing : Timing) → key.node < length nodes → slice_get nodes key.node ≡ Some old
    → new.entries.items ≡ old.entries.items ++ (record { key = key; timing = timing } ∷ []) → (other : Key)
    → timing_of_node (slice_get (set nodes key.node new) other.node) other ≡ (if is_same other key then timing else timing_of_node (slice_get nodes other.node) other)
set-timing nodes old new key timing inside there new_is other = go (eqb_tells other.node key.node)
  where
    go : (((other.node == key.node) ≡ true) × (other.node ≡ key.node)) ⊎ (((other.node == key.node) ≡ false) × (other.node ≢ key.node))
        → timing_of_node (slice_get (set nodes key.node new) other.node) other ≡ (if is_same other key then timing else timing_of_node (slice_get nodes other.node) other)
    go (inl same) =
        ap (λ (o : Option NodeTimings). timing_of_node o other) (ap (slice_get (set nodes key.node new)) (same.1) ∙ got-same nodes key.node new inside)
        ∙ ap (λ (entries : List Timed). timing_among entries other) (ap reverse new_is ∙ reverse-append old.entries.items (record { key = key; timing = timing } ∷ []))
        ∙ ap (λ (o : Option NodeTimings). if is_same other key then timing else timing_of_node o other) (sym (ap (slice_get nodes) (same.1) ∙ there))
    go (inr apart) =
        ap (λ (o : Option NodeTimings). timing_of_node o other) (got-other nodes key.node other.node new (apart.1))
        ∙ sym (λ j. if (apart.0 j && (other.attempt == key.attempt)) && (phase_number other.phase == phase_number key.phase) then timing else timing_of_node (slice_get nodes other.node) other)
