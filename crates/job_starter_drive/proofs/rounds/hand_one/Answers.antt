use Rattle.std.proofs.Common.{arith, rules, ◌≡◌, true, false, List, ◌∷◌, [], ◌++◌, drop, slice_index_or, ◌+◌, refl, sym, ap, ◌∙◌, subst}
use Rattle.std.proofs.lemmas.List.{drop_more}
use Rattle.node_machine.specs.declared.Key.{Key}
use Rattle.node_machine.specs.declared.Phase.TheVariants.{Pre}
use Rattle.node_machine.specs.declared.Outcome.{Outcome}
use Rattle.node_machine.specs.declared.Outcome.TheVariants.{Exit, NoStart}
use Rattle.run_plan.specs.Plan.{node_at}
use Rattle.run_plan_node.specs.Commands.{starts_child}
use Rattle.recovery_manager.specs.Managed.{plan_of, past_of}
use Rattle.job_starter_drive.specs.declared.Started.{Started}
use Rattle.job_starter_drive.specs.Calls.{snapshot_of, running}
use Rattle.job_starter_drive.specs.Drives.{At, limits_of, AreUnderWay, IsSpawned, Goes, no_step, IsStoppedAt, none_started}
use Rattle.job_starter_drive.proofs.Hands.{pass-goes, start-goes, fail-goes, unhanded}
use Rattle.job_starter_drive.proofs.Phases.{quiet-noop}
use Rattle.job_starter_drive.proofs.Steps.{running-next, running-within, running-allowed, child-ends, noop-ends}
use Rattle.job_starter_drive.proofs.Stretches.{stretch-still, cut-still}
use Rattle.job_starter_drive.proofs.Walks.{allows-self, starts-same, starts-spawned}
use Rattle.job_starter_drive.proofs.Ways.{way-outstanding, way-free, way-starts, way-owes}
use Rattle.job_starter_drive.proofs.rounds.hand_one.Goals as goal

abbrev first_key : Key
first_key = record { node = 0; attempt = 0; phase = Pre }

pub starts_child-requires : goal.starts_child-requires
starts_child-requires g c =
    let plan = plan_of c.args.manager.now in
    let past = past_of c.args.manager.now in
    let key = slice_index_or c.args.keys.now c.args.place first_key in
    let keys = drop (c.args.place + 1) c.args.keys.now in
    let call_log = g.S.Starter.call_log c.args.starter.now in
    let owed = c.args.owed.now.items in
    let is = drop_more c.args.keys.now c.args.place first_key c.requires.there in
    let way : AreUnderWay plan past call_log (key ∷ keys) owed = subst (λ (l : List Key). AreUnderWay plan past call_log l owed) is c.requires.under_way in
    let lawful = c.keeps_the_law.ensures in
    let among = way-outstanding plan past lawful call_log key keys owed way in
    running-within plan past lawful key among

pub returns-then-not-starts_child-clause-under_way : goal.returns-then-not-starts_child-clause-under_way
returns-then-not-starts_child-clause-under_way g c =
    let plan = plan_of c.args.manager.now in
    let past = past_of c.args.manager.now in
    let key = slice_index_or c.args.keys.now c.args.place first_key in
    let keys = drop (c.args.place + 1) c.args.keys.now in
    let call_log = g.S.Starter.call_log c.args.starter.now in
    let owed = c.args.owed.now.items in
    let is = drop_more c.args.keys.now c.args.place first_key c.requires.there in
    let way : AreUnderWay plan past call_log (key ∷ keys) owed = subst (λ (l : List Key). AreUnderWay plan past call_log l owed) is c.requires.under_way in
    let lawful = c.keeps_the_law.ensures in
    let among = way-outstanding plan past lawful call_log key keys owed way in
    let pushed : c.push.new.self.items ≡ owed ++ (key, Exit 0) ∷ [] = search rules in
    subst (λ (l : List (Key × Outcome)). AreUnderWay plan past call_log keys l) (sym pushed)
    (way-owes plan past lawful call_log key keys owed way call_log (Exit 0) refl refl (noop-ends (node_at plan key.node) key.phase))

pub returns-then-not-starts_child-clause-went : goal.returns-then-not-starts_child-clause-went
returns-then-not-starts_child-clause-went g c =
    let plan = plan_of c.args.manager.now in
    let past = past_of c.args.manager.now in
    let key = slice_index_or c.args.keys.now c.args.place first_key in
    let keys = drop (c.args.place + 1) c.args.keys.now in
    let call_log = g.S.Starter.call_log c.args.starter.now in
    let owed = c.args.owed.now.items in
    let is = drop_more c.args.keys.now c.args.place first_key c.requires.there in
    let way : AreUnderWay plan past call_log (key ∷ keys) owed = subst (λ (l : List Key). AreUnderWay plan past call_log l owed) is c.requires.under_way in
    let lawful = c.keeps_the_law.ensures in
    let among = way-outstanding plan past lawful call_log key keys owed way in
    let quiet : starts_child (node_at plan key.node) key.phase ≡ false = sym c.starts_child.ensures ∙ c.if-not-starts_child.true in
    let pushed : c.push.new.self.items ≡ owed ++ (key, Exit 0) ∷ [] = search rules in
    stretch-still g.D.Disk g.met.D.Disk.only_now (limits_of c.args.manager.now) plan (g.S.Starter.may_return c.args.starter.now) (g.S.Starter.may_return c.args.starter.now) (g.S.Starter.faults c.args.starter.now) (g.S.Starter.faults c.args.starter.now) c.args.manager.now
    (At past call_log (drop c.args.place c.args.keys.now) owed) refl refl lawful (allows-self (g.S.Starter.may_return c.args.starter.now))
    (At past call_log keys c.push.new.self.items) refl
    (pass-goes (limits_of c.args.manager.now) plan (g.S.Starter.may_return c.args.starter.now) past call_log key (drop c.args.place c.args.keys.now) keys is owed
    (quiet-noop plan past key (running-next plan past lawful key among) quiet) c.push.new.self.items pushed) refl

pub returns-then-not-starts_child-clause-waits_for_none : goal.returns-then-not-starts_child-clause-waits_for_none
returns-then-not-starts_child-clause-waits_for_none g c = none_started

pub returns-then-not-starts_child-clause-room : goal.returns-then-not-starts_child-clause-room
returns-then-not-starts_child-clause-room g c = let grown = c.push.ensures.capacity in omega (arith, grown)

pub hand_over-requires-clause-within : goal.hand_over-requires-clause-within
hand_over-requires-clause-within g c =
    let plan = plan_of c.args.manager.now in
    let past = past_of c.args.manager.now in
    let key = slice_index_or c.args.keys.now c.args.place first_key in
    let keys = drop (c.args.place + 1) c.args.keys.now in
    let call_log = g.S.Starter.call_log c.args.starter.now in
    let owed = c.args.owed.now.items in
    let is = drop_more c.args.keys.now c.args.place first_key c.requires.there in
    let way : AreUnderWay plan past call_log (key ∷ keys) owed = subst (λ (l : List Key). AreUnderWay plan past call_log l owed) is c.requires.under_way in
    let lawful = c.keeps_the_law.ensures in
    let among = way-outstanding plan past lawful call_log key keys owed way in
    running-within plan past lawful key among

pub hand_over-requires-clause-allowed : goal.hand_over-requires-clause-allowed
hand_over-requires-clause-allowed g c =
    let plan = plan_of c.args.manager.now in
    let past = past_of c.args.manager.now in
    let key = slice_index_or c.args.keys.now c.args.place first_key in
    let keys = drop (c.args.place + 1) c.args.keys.now in
    let call_log = g.S.Starter.call_log c.args.starter.now in
    let owed = c.args.owed.now.items in
    let is = drop_more c.args.keys.now c.args.place first_key c.requires.there in
    let way : AreUnderWay plan past call_log (key ∷ keys) owed = subst (λ (l : List Key). AreUnderWay plan past call_log l owed) is c.requires.under_way in
    let lawful = c.keeps_the_law.ensures in
    let among = way-outstanding plan past lawful call_log key keys owed way in
    running-allowed plan past lawful key among

pub hand_over-requires-clause-outstanding : goal.hand_over-requires-clause-outstanding
hand_over-requires-clause-outstanding g c =
    let plan = plan_of c.args.manager.now in
    let past = past_of c.args.manager.now in
    let key = slice_index_or c.args.keys.now c.args.place first_key in
    let keys = drop (c.args.place + 1) c.args.keys.now in
    let call_log = g.S.Starter.call_log c.args.starter.now in
    let owed = c.args.owed.now.items in
    let is = drop_more c.args.keys.now c.args.place first_key c.requires.there in
    let way : AreUnderWay plan past call_log (key ∷ keys) owed = subst (λ (l : List Key). AreUnderWay plan past call_log l owed) is c.requires.under_way in
    let lawful = c.keeps_the_law.ensures in
    let among = way-outstanding plan past lawful call_log key keys owed way in
    among

pub hand_over-requires-clause-free : goal.hand_over-requires-clause-free
hand_over-requires-clause-free g c =
    let plan = plan_of c.args.manager.now in
    let past = past_of c.args.manager.now in
    let key = slice_index_or c.args.keys.now c.args.place first_key in
    let keys = drop (c.args.place + 1) c.args.keys.now in
    let call_log = g.S.Starter.call_log c.args.starter.now in
    let owed = c.args.owed.now.items in
    let is = drop_more c.args.keys.now c.args.place first_key c.requires.there in
    let way : AreUnderWay plan past call_log (key ∷ keys) owed = subst (λ (l : List Key). AreUnderWay plan past call_log l owed) is c.requires.under_way in
    let lawful = c.keeps_the_law.ensures in
    let among = way-outstanding plan past lawful call_log key keys owed way in
    way-free plan past lawful call_log key keys owed way

pub returns-in-Ok-Running-clause-under_way : goal.returns-in-Ok-Running-clause-under_way
returns-in-Ok-Running-clause-under_way g c =
    let plan = plan_of c.args.manager.now in
    let past = past_of c.args.manager.now in
    let key = slice_index_or c.args.keys.now c.args.place first_key in
    let keys = drop (c.args.place + 1) c.args.keys.now in
    let call_log = g.S.Starter.call_log c.args.starter.now in
    let owed = c.args.owed.now.items in
    let is = drop_more c.args.keys.now c.args.place first_key c.requires.there in
    let way : AreUnderWay plan past call_log (key ∷ keys) owed = subst (λ (l : List Key). AreUnderWay plan past call_log l owed) is c.requires.under_way in
    let lawful = c.keeps_the_law.ensures in
    let among = way-outstanding plan past lawful call_log key keys owed way in
    let child : starts_child (node_at plan key.node) key.phase ≡ true = sym c.starts_child.ensures ∙ c.if-not-starts_child.false in
    let spawned = subst (λ (a : Started). IsSpawned plan past key a call_log (g.S.Starter.call_log c.hand_over.new.starter)) c.in-Ok-Running.field-0-is c.in-Ok-Running.ensures.spawned in
    subst (λ l. AreUnderWay plan past l keys owed) (sym spawned.entry) (way-starts plan past lawful call_log key keys owed way (snapshot_of spawned.command) child)

pub returns-in-Ok-Running-clause-went : goal.returns-in-Ok-Running-clause-went
returns-in-Ok-Running-clause-went g c =
    let plan = plan_of c.args.manager.now in
    let past = past_of c.args.manager.now in
    let key = slice_index_or c.args.keys.now c.args.place first_key in
    let keys = drop (c.args.place + 1) c.args.keys.now in
    let call_log = g.S.Starter.call_log c.args.starter.now in
    let owed = c.args.owed.now.items in
    let is = drop_more c.args.keys.now c.args.place first_key c.requires.there in
    let way : AreUnderWay plan past call_log (key ∷ keys) owed = subst (λ (l : List Key). AreUnderWay plan past call_log l owed) is c.requires.under_way in
    let lawful = c.keeps_the_law.ensures in
    let among = way-outstanding plan past lawful call_log key keys owed way in
    let child : starts_child (node_at plan key.node) key.phase ≡ true = sym c.starts_child.ensures ∙ c.if-not-starts_child.false in
    stretch-still g.D.Disk g.met.D.Disk.only_now (limits_of c.args.manager.now) plan (g.S.Starter.may_return c.args.starter.now) (g.S.Starter.may_return c.hand_over.new.starter) (g.S.Starter.faults c.args.starter.now) (g.S.Starter.faults c.hand_over.new.starter) c.args.manager.now
    (At past call_log (drop c.args.place c.args.keys.now) owed) refl refl lawful c.in-Ok-Running.ensures.may
    (At past (g.S.Starter.call_log c.hand_over.new.starter) keys owed) refl
    (start-goes (limits_of c.args.manager.now) plan (g.S.Starter.may_return c.args.starter.now) past call_log key (drop c.args.place c.args.keys.now) keys is owed
    (g.S.Starter.call_log c.hand_over.new.starter) c.in-Ok-Running.field-0 c.in-Ok-Running.field-0-is child (c.in-Ok-Running.ensures.may_run c.in-Ok-Running.field-0-is) c.in-Ok-Running.ensures.spawned)
    c.in-Ok-Running.ensures.unrefused

pub returns-in-Ok-Running-clause-waits_for_none : goal.returns-in-Ok-Running-clause-waits_for_none
returns-in-Ok-Running-clause-waits_for_none g c = starts-spawned _ _ _ _ _ _ c.in-Ok-Running.ensures.spawned

pub returns-in-Ok-NotStarted-clause-under_way : goal.returns-in-Ok-NotStarted-clause-under_way
returns-in-Ok-NotStarted-clause-under_way g c =
    let plan = plan_of c.args.manager.now in
    let past = past_of c.args.manager.now in
    let key = slice_index_or c.args.keys.now c.args.place first_key in
    let keys = drop (c.args.place + 1) c.args.keys.now in
    let call_log = g.S.Starter.call_log c.args.starter.now in
    let owed = c.args.owed.now.items in
    let is = drop_more c.args.keys.now c.args.place first_key c.requires.there in
    let way : AreUnderWay plan past call_log (key ∷ keys) owed = subst (λ (l : List Key). AreUnderWay plan past call_log l owed) is c.requires.under_way in
    let lawful = c.keeps_the_law.ensures in
    let among = way-outstanding plan past lawful call_log key keys owed way in
    let child : starts_child (node_at plan key.node) key.phase ≡ true = sym c.starts_child.ensures ∙ c.if-not-starts_child.false in
    let spawned = subst (λ (a : Started). IsSpawned plan past key a call_log (g.S.Starter.call_log c.hand_over.new.starter)) c.in-Ok-NotStarted.field-0-is c.in-Ok-NotStarted.ensures.spawned in
    let pushed : c.push-in-Ok-NotStarted.new.self.items ≡ owed ++ (key, NoStart) ∷ [] = search rules in
    subst (λ (l : List (Key × Outcome)). AreUnderWay plan past (g.S.Starter.call_log c.hand_over.new.starter) keys l) (sym pushed)
    (way-owes plan past lawful call_log key keys owed way (g.S.Starter.call_log c.hand_over.new.starter) NoStart (ap running spawned.entry) refl (child-ends (node_at plan key.node) key.phase NoStart child))

pub returns-in-Ok-NotStarted-clause-went : goal.returns-in-Ok-NotStarted-clause-went
returns-in-Ok-NotStarted-clause-went g c =
    let plan = plan_of c.args.manager.now in
    let past = past_of c.args.manager.now in
    let key = slice_index_or c.args.keys.now c.args.place first_key in
    let keys = drop (c.args.place + 1) c.args.keys.now in
    let call_log = g.S.Starter.call_log c.args.starter.now in
    let owed = c.args.owed.now.items in
    let is = drop_more c.args.keys.now c.args.place first_key c.requires.there in
    let way : AreUnderWay plan past call_log (key ∷ keys) owed = subst (λ (l : List Key). AreUnderWay plan past call_log l owed) is c.requires.under_way in
    let lawful = c.keeps_the_law.ensures in
    let among = way-outstanding plan past lawful call_log key keys owed way in
    let child : starts_child (node_at plan key.node) key.phase ≡ true = sym c.starts_child.ensures ∙ c.if-not-starts_child.false in
    let pushed : c.push-in-Ok-NotStarted.new.self.items ≡ owed ++ (key, NoStart) ∷ [] = search rules in
    stretch-still g.D.Disk g.met.D.Disk.only_now (limits_of c.args.manager.now) plan (g.S.Starter.may_return c.args.starter.now) (g.S.Starter.may_return c.hand_over.new.starter) (g.S.Starter.faults c.args.starter.now) (g.S.Starter.faults c.hand_over.new.starter) c.args.manager.now
    (At past call_log (drop c.args.place c.args.keys.now) owed) refl refl lawful c.in-Ok-NotStarted.ensures.may
    (At past (g.S.Starter.call_log c.hand_over.new.starter) keys c.push-in-Ok-NotStarted.new.self.items) refl
    (fail-goes (limits_of c.args.manager.now) plan (g.S.Starter.may_return c.args.starter.now) past call_log key (drop c.args.place c.args.keys.now) keys is owed
    (g.S.Starter.call_log c.hand_over.new.starter) c.in-Ok-NotStarted.field-0 c.in-Ok-NotStarted.field-0-is child (c.in-Ok-NotStarted.ensures.may_be c.in-Ok-NotStarted.field-0-is) c.in-Ok-NotStarted.ensures.spawned
    c.push-in-Ok-NotStarted.new.self.items pushed)
    c.in-Ok-NotStarted.ensures.unrefused

pub returns-in-Ok-NotStarted-clause-waits_for_none : goal.returns-in-Ok-NotStarted-clause-waits_for_none
returns-in-Ok-NotStarted-clause-waits_for_none g c = starts-spawned _ _ _ _ _ _ c.in-Ok-NotStarted.ensures.spawned

pub returns-in-Ok-NotStarted-clause-room : goal.returns-in-Ok-NotStarted-clause-room
returns-in-Ok-NotStarted-clause-room g c = let grown = c.push-in-Ok-NotStarted.ensures.capacity in omega (arith, grown)

pub returns-in-Err-clause-cut : goal.returns-in-Err-clause-cut
returns-in-Err-clause-cut g c =
    let plan = plan_of c.args.manager.now in
    let past = past_of c.args.manager.now in
    let key = slice_index_or c.args.keys.now c.args.place first_key in
    let keys = drop (c.args.place + 1) c.args.keys.now in
    let call_log = g.S.Starter.call_log c.args.starter.now in
    let owed = c.args.owed.now.items in
    let is = drop_more c.args.keys.now c.args.place first_key c.requires.there in
    let way : AreUnderWay plan past call_log (key ∷ keys) owed = subst (λ (l : List Key). AreUnderWay plan past call_log l owed) is c.requires.under_way in
    let lawful = c.keeps_the_law.ensures in
    let among = way-outstanding plan past lawful call_log key keys owed way in
    let child : starts_child (node_at plan key.node) key.phase ≡ true = sym c.starts_child.ensures ∙ c.if-not-starts_child.false in
    let silent = c.in-Err.ensures.silent in
    let all = drop c.args.place c.args.keys.now in
    cut-still g.D.Disk g.met.D.Disk.only_now (limits_of c.args.manager.now) plan (g.S.Starter.may_return c.args.starter.now) (g.S.Starter.may_return c.hand_over.new.starter) (g.S.Starter.faults c.args.starter.now) (g.S.Starter.faults c.hand_over.new.starter) c.args.manager.now
    (At past call_log all owed) refl refl lawful c.in-Err.ensures.may all owed (g.S.Starter.call_log c.hand_over.new.starter) c.in-Err.fault
    (subst (λ l. Goes (limits_of c.args.manager.now) plan (g.S.Starter.may_return c.args.starter.now) (At past call_log all owed) (At past l all owed)) (sym silent) no_step)
    (subst (λ l. IsStoppedAt (limits_of c.args.manager.now) plan c.in-Err.fault (At past l all owed) []) (sym silent)
    (unhanded (limits_of c.args.manager.now) plan (g.S.Starter.may_return c.args.starter.now) past call_log key all keys is owed c.in-Err.fault c.in-Err.ensures.unhanded child))
    c.in-Err.ensures.later (c.in-Err.ensures.refused c.args.manager.now)

pub returns-in-Err-clause-waits_for_none : goal.returns-in-Err-clause-waits_for_none
returns-in-Err-clause-waits_for_none g c = starts-same _ _ c.in-Err.ensures.silent
