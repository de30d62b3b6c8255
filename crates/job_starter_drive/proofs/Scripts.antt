-- Runs whose children end as a table says, the oldest first: their records are determined.
use Rattle.std.proofs.Common.{arith, ◌≡◌, ◌⊎◌, ◌<◌, ◌≤◌, ◌+◌, inl, inr, ℕ, suc, true, List, [], ◌∷◌, ◌++◌, length, None, Some, refl, sym, ap, ◌∙◌, subst}
use Rattle.std.specs.Prelude.{◌≢◌}
use Rattle.std.proofs.lemmas.Bool.{false≢true}
use Rattle.node_machine.specs.declared.Key.{Key}
use Rattle.node_machine.specs.declared.Outcome.{Outcome}
use Rattle.node_machine.specs.declared.Outcome.TheVariants.{Exit, NoStart}
use Rattle.node_machine.specs.Story.{is_noop_job}
use Rattle.node_machine.specs.OutcomeTable.{Entry}
use Rattle.throttles.specs.declared.Limits.{Limits}
use Rattle.run_plan.specs.Plan.{Plan, node_at}
use Rattle.run_plan_node.specs.Commands.{starts_child}
use Rattle.sched_core.specs.declared.Choice.TheVariants as choices
use Rattle.node_machine.specs.declared.Record.{Record}
use Rattle.sched_core.specs.Run.{outstanding}
use Rattle.sched_core.specs.Ahead.{launch_of, launched, AreChosen, NothingToStart, added, up_to_abort, ends_of}
use Rattle.sched_core.specs.Choices.{IsChoice}
use Rattle.sched_core.proofs.Best.{choice-one}
use Rattle.job_starter_drive.specs.declared.Call.{Call}
use Rattle.job_starter_drive.specs.Calls.{MightHalt, oldest}
use Rattle.job_starter_drive.specs.Scripts.{scripted_outcome, IsScripted}
use Rattle.job_starter_drive.specs.Drives.{most_at_once, Standing, At, at_rest, IsRoundOf, IsHeld, IsStep, launch_round, skip_noop, spawn_child, spawn_failed, child_exits, child_gathered, ends_recorded, see_halt, kill_child, Goes, no_step, one_more, Drives}
use Rattle.job_starter_drive.proofs.Phases.{noop-quiet}
use Rattle.job_starter_drive.proofs.Walks.{no_child}

-- where a run is but for its calls
data Place : Type 0 where
  Here : List Record → List Key → List (Key × Outcome) → Place

abbrev place_of : Standing → Place
place_of (At past call_log keys owed) = Here past keys owed

module _ (limits : Limits) (plan : Plan) (table : List Entry) where
  -- what a step makes of that
  data Next : Place → Place → Type 0 where
    next_launches : {past : List Record} {keys : List Key} → IsRoundOf limits plan past keys → Next (Here past [] []) (Here (launched past keys) keys [])
    next_passes : {past : List Record} {key : Key} {keys : List Key} {owed : List (Key × Outcome)} → is_noop_job (node_at plan key.node).course key.phase ≡ true
        → Next (Here past (key ∷ keys) owed) (Here past keys (owed ++ (key, Exit 0) ∷ []))
    next_starts : {past : List Record} {key : Key} {keys : List Key} {owed : List (Key × Outcome)} → starts_child (node_at plan key.node) key.phase ≡ true
        → scripted_outcome plan table key ≢ NoStart → Next (Here past (key ∷ keys) owed) (Here past keys owed)
    next_fails : {past : List Record} {key : Key} {keys : List Key} {owed : List (Key × Outcome)} → starts_child (node_at plan key.node) key.phase ≡ true
        → scripted_outcome plan table key ≡ NoStart → Next (Here past (key ∷ keys) owed) (Here past keys (owed ++ (key, NoStart) ∷ []))
    next_ends : {past : List Record} {key : Key} → NothingToStart limits plan past → oldest (outstanding plan past) ≡ Some key
        → Next (Here past [] []) (Here past [] ((key, scripted_outcome plan table key) ∷ []))
    next_settles : {past : List Record} {end : Key × Outcome} {owed : List (Key × Outcome)}
        → Next (Here past [] (end ∷ owed)) (Here (added past (up_to_abort plan past (ends_of (end ∷ owed)))) [] [])

  data Chain (from : Place) : Place → Type 0 where
    here : Chain from from
    more : {between to : Place} → Chain from between → Next between to → Chain from to

  held-starts : (past : List Record) (key : Key) → NothingToStart limits plan past → IsChoice limits plan past (choices.Start key) → ⊥
  held-starts past key held c = let bad : None ≡ Some key = sym (held key.node) ∙ c.0 in absurd cc

  same-key : (past : List Record) (key other : Key) → IsChoice limits plan past (choices.Start key) → IsChoice limits plan past (choices.Start other) → key ≡ other
  same-key past key other c d =
      let s : choices.Start key ≡ choices.Start other = choice-one limits plan past (choices.Start key) (choices.Start other) c d in cc

  -- two rounds of the same records are one, since each has as many phases as may be
  same-keys : (n : ℕ) (past : List Record) (keys others : List Key) → AreChosen limits plan past keys → AreChosen limits plan past others
      → n + length keys ≤ most_at_once → n + length others ≤ most_at_once
      → (n + length keys < most_at_once → NothingToStart limits plan (launched past keys)) → (n + length others < most_at_once → NothingToStart limits plan (launched past others)) → keys ≡ others
  same-keys n past [] [] c d few less full all = refl
  same-keys n past [] (key ∷ others) c d few less full all = absurd (held-starts past key (full (omega (arith, less))) d.0)
  same-keys n past (key ∷ keys) [] c d few less full all = absurd (held-starts past key (all (omega (arith, few))) c.0)
  same-keys n past (key ∷ keys) (other ∷ others) c d few less full all =
      let same = same-key past key other c.0 d.0 in
      let d' = subst (λ (k : Key). AreChosen limits plan (launch_of past k ∷ past) others) (sym same) d.1 in
      let all' = subst (λ (k : Key). suc n + length others < most_at_once → NothingToStart limits plan (launched (launch_of past k ∷ past) others)) (sym same) (λ lt. all (omega (arith, lt))) in
      (λ j. same j ∷ keys)
      ∙ ap (λ (l : List Key). other ∷ l) (same-keys (suc n) (launch_of past key ∷ past) keys others c.1 d' (omega (arith, few)) (omega (arith, less)) (λ lt. full (omega (arith, lt))) all')

  same-round : (past : List Record) (keys others : List Key) → IsRoundOf limits plan past keys → IsRoundOf limits plan past others → keys ≡ others
  same-round past keys others a b = let few = a.few in let less = b.few in
      same-keys 0 past keys others a.chosen b.chosen (omega (arith, few)) (omega (arith, less)) (λ lt. a.full (omega (arith, lt))) (λ lt. b.full (omega (arith, lt)))

  first-of-round : (past : List Record) (keys : List Key) → IsRoundOf limits plan past keys → (key : Key) × IsChoice limits plan past (choices.Start key)
  first-of-round past [] round = absurd (let some = round.some in omega (arith, some))
  first-of-round past (key ∷ keys) round = (key, round.chosen.0)

  held-round : (past : List Record) (keys : List Key) → NothingToStart limits plan past → IsRoundOf limits plan past keys → ⊥
  held-round past keys held round = let first = first-of-round past keys round in held-starts past first.0 held first.1

  quiet-starts : (key : Key) → is_noop_job (node_at plan key.node).course key.phase ≡ true → starts_child (node_at plan key.node) key.phase ≡ true → ⊥
  quiet-starts key noop child = false≢true (sym (noop-quiet (node_at plan key.node) key.phase noop) ∙ child)

  -- it is determined
  next-one : (from a b : Place) → Next from a → Next from b → a ≡ b
  next-one _ _ _ (next_launches {past = past} {keys = keys} round) (next_launches {keys = others} other) =
      ap (λ (l : List Key). Here (launched past l) l []) (same-round past keys others round other)
  next-one _ _ _ (next_launches {past = past} {keys = keys} round) (next_ends held first) = absurd (held-round past keys held round)
  next-one _ _ _ (next_passes noop) (next_passes quiet) = refl
  next-one _ _ _ (next_passes {key = key} noop) (next_starts child runs) = absurd (quiet-starts key noop child)
  next-one _ _ _ (next_passes {key = key} noop) (next_fails child is) = absurd (quiet-starts key noop child)
  next-one _ _ _ (next_starts {key = key} child runs) (next_passes noop) = absurd (quiet-starts key noop child)
  next-one _ _ _ (next_starts child runs) (next_starts too run) = refl
  next-one _ _ _ (next_starts child runs) (next_fails too is) = absurd (runs is)
  next-one _ _ _ (next_fails {key = key} child is) (next_passes noop) = absurd (quiet-starts key noop child)
  next-one _ _ _ (next_fails child is) (next_starts too runs) = absurd (runs is)
  next-one _ _ _ (next_fails child is) (next_fails too was) = refl
  next-one _ _ _ (next_ends {past = past} held first) (next_launches {keys = keys} round) = absurd (held-round past keys held round)
  next-one _ _ _ (next_ends {past = past} {key = key} held first) (next_ends {key = other} too next) =
      let s : Some key ≡ Some other = sym first ∙ next in
      let k : key ≡ other = cc in
      ap (λ (l : Key). Here past [] ((l, scripted_outcome plan table l) ∷ [])) k
  next-one _ _ _ next_settles next_settles = refl

  -- nothing comes after the choice to finish
  next-none : (past : List Record) (to : Place) (verdict : ℕ) → IsChoice limits plan past (choices.Finish verdict) → Next (Here past [] []) to → ⊥
  next-none past _ verdict chosen (next_launches {keys = keys} round) =
      let first = first-of-round past keys round in
      let bad : choices.Finish verdict ≡ choices.Start first.0 = choice-one limits plan past (choices.Finish verdict) (choices.Start first.0) chosen first.1 in absurd cc
  next-none past _ verdict chosen (next_ends {key = key} held first) =
      let bad : None ≡ Some key = sym (ap oldest (no_child (outstanding plan past) chosen.1)) ∙ first in absurd cc

  -- no halt was seen, so the limits let nothing in
  nothing-starts : (past : List Record) (call_log : List Call) → IsHeld limits plan past call_log → MightHalt (IsScripted plan table []) call_log → NothingToStart limits plan past
  nothing-starts past call_log (inl held) halt = held
  nothing-starts past call_log (inr seen) halt = absurd (halt seen)

  step-chain : (start : Place) (from to : Standing) → Chain start (place_of from) → IsStep limits plan (IsScripted plan table []) from to → Chain start (place_of to)
  step-chain start _ _ c (launch_round lawful going unhalted step round) = more c (next_launches round)
  step-chain start _ _ c (skip_noop noop) = more c (next_passes noop)
  step-chain start _ _ c (spawn_child child command run) = more c (next_starts child (λ is. run.1 (run.2.by_table ∙ is)))
  step-chain start _ _ c (spawn_failed child command may_be) = more c (next_fails child (sym may_be.by_table))
  step-chain start _ _ c (child_exits {past = past} {call_log = call_log} {key = key} {outcome = outcome} s held halt ran may_be) =
      subst (λ (o : Outcome). Chain start (Here past [] ((key, o) ∷ []))) (sym may_be.by_table)
      (more c (next_ends (nothing-starts past call_log held halt) (ap oldest (sym s.same) ∙ may_be.oldest_first refl ran)))
  step-chain start _ _ c (child_gathered gathers way held on few ran may_be) = absurd gathers
  step-chain start _ _ c ends_recorded = more c next_settles
  step-chain start _ _ c (see_halt may_halt unhalted) = absurd may_halt
  step-chain start _ _ c (kill_child ran free) = c

  chain-of : (from to : Standing) → Goes limits plan (IsScripted plan table []) from to → Chain (place_of from) (place_of to)
  chain-of from _ no_step = here
  chain-of from to (one_more {between = between} steps step) = step-chain (place_of from) between to (chain-of from between steps) step

  -- the first of a chain, and the rest
  first-of : (from to : Place) → Chain from to → (from ≡ to) ⊎ ((next : Place) × Next from next × Chain next to)
  first-of from _ here = inl refl
  first-of from _ (more {between = between} {to = to} c n) = elim (first-of from between c) [
    | inl same ↦ inr (to, subst (λ (p : Place). Next p to) (sym same) n, here)
    | inr rest ↦ inr (rest.0, rest.1, more rest.2 n)
  ]

  -- of two chains one goes on from the other
  either-on : (from a b : Place) → Chain from a → Chain from b → Chain a b ⊎ Chain b a
  either-on from _ b here d = inl d
  either-on from _ b (more {between = between} {to = to} c n) d = elim (either-on from between b c d) [
    | inl on ↦ elim (first-of between b on) [
      | inl same ↦ inr (more (subst (λ (p : Place). Chain b p) (sym same) here) n)
      | inr rest ↦ inl (subst (λ (p : Place). Chain p b) (next-one between rest.0 to rest.1 n) rest.2)
    ]
    | inr back ↦ inr (more back n)
  ]

  at-end : (a b : List Record) (verdict : ℕ) → IsChoice limits plan a (choices.Finish verdict) → Chain (Here a [] []) (Here b [] []) → a ≡ b
  at-end a b verdict chosen c = elim (first-of (Here a [] []) (Here b [] []) c) [
    | inl same ↦ cc
    | inr rest ↦ absurd (next-none a rest.0 verdict chosen rest.1)
  ]

pub one-script : (limits : Limits) (plan : Plan) (table : List Entry) (past after other : List Record) (call_log last later_log rest : List Call) (verdict status : ℕ)
    → Drives limits plan (IsScripted plan table []) past call_log after last → Drives limits plan (IsScripted plan table []) past later_log other rest
    → IsChoice limits plan after (choices.Finish verdict) → IsChoice limits plan other (choices.Finish status) → after ≡ other
one-script limits plan table past after other call_log last later_log rest verdict status a b ended over =
    elim (either-on limits plan table (Here past [] []) (Here after [] []) (Here other [] [])
    (chain-of limits plan table (at_rest past call_log) (at_rest after last) a) (chain-of limits plan table (at_rest past later_log) (at_rest other rest) b)) [
      | inl on ↦ at-end limits plan table after other verdict ended on
      | inr back ↦ sym (at-end limits plan table other after status over back)
    ]
