-- The phase of a node that is outstanding.
use Rattle.std.proofs.Common.{◌≡◌, ℕ, Bool, true, false, ◌||◌, List, [], ◌∷◌, ◌==◌, Some, None, refl, sym, ap, ◌∙◌, eqb-true, if◌then◌else◌}
use Rattle.std.proofs.lemmas.Bool.{false≢true}
use Rattle.node_machine.specs.declared.Key.{Key}
use Rattle.run_plan.specs.Plan.{Plan}
use Rattle.node_machine.specs.declared.Record.{Record}
use Rattle.sched_core.specs.Run.{next, outstanding, is_lawful}
use Rattle.sched_core.specs.Core.{has_key_of, is_running}
use Rattle.sched_core.proofs.Keys.{Each}
use Rattle.sched_core.proofs.Sound.{Held, sound}
use Rattle.status_report.specs.Status.{phase_of}

-- none of the node's keys is there
pub none-there : (node : ℕ) (keys : List Key) → has_key_of node keys ≡ false → phase_of node keys ≡ None
none-there node [] h = refl
none-there node (key ∷ keys) h = go (key.node == node) h (none-there node keys)
  where
    go : (b : Bool) → (b || has_key_of node keys) ≡ false → (has_key_of node keys ≡ false → phase_of node keys ≡ None)
        → (if b then Some key.phase else phase_of node keys) ≡ None
    go true h rest = absurd (false≢true (sym h))
    go false h rest = rest h

-- an outstanding key is its node's next
one-there : (plan : Plan) (past : List Record) (node : ℕ) (keys : List Key) → Each (Held plan past) keys → has_key_of node keys ≡ true
    → (key : Key) × (next plan past node ≡ Some key) × (phase_of node keys ≡ Some key.phase)
one-there plan past node [] e h = absurd (false≢true h)
one-there plan past node (key ∷ keys) e h = go (key.node == node) refl h (one-there plan past node keys e.1)
  where
    go : (b : Bool) → (key.node == node) ≡ b → (b || has_key_of node keys) ≡ true
        → (has_key_of node keys ≡ true → (other : Key) × (next plan past node ≡ Some other) × (phase_of node keys ≡ Some other.phase))
        → (other : Key) × (next plan past node ≡ Some other) × ((if b then Some key.phase else phase_of node keys) ≡ Some other.phase)
    go true n h rest = (key, ap (next plan past) (sym (eqb-true key.node node n)) ∙ e.0.is_next, refl)
    go false n h rest = rest h

module _ (plan : Plan) (past : List Record) (lawful : is_lawful plan past ≡ true) (node : ℕ) where
  pub not-running : is_running plan past node ≡ false → None ≡ phase_of node (outstanding plan past)
  not-running h = sym (none-there node (outstanding plan past) h)

  pub running : is_running plan past node ≡ true → (key : Key) → next plan past node ≡ Some key → Some key.phase ≡ phase_of node (outstanding plan past)
  running h key is =
      let there = one-there plan past node (outstanding plan past) (sound plan past lawful).held h in
      let same : Some there.0 ≡ Some key = sym there.1 ∙ is in
      let k : there.0 ≡ key = cc in
      sym (there.2 ∙ ap (λ (k : Key). Some k.phase) k)

  pub running-next : {X : Type 0} → is_running plan past node ≡ true → next plan past node ≡ None → X
  running-next h is =
      let there = one-there plan past node (outstanding plan past) (sound plan past lawful).held h in
      let same : Some there.0 ≡ None = sym there.1 ∙ is in
      absurd cc
