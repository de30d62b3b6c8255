-- Runs over any lives.
use Rattle.std.proofs.Common.{◌≡◌, ◌∙◌, ℕ, zero, suc, ◌<◌, ◌≤◌, ℤ, Bool, true, false, List, [], ◌∷◌, ◌++◌, length, slice_index_or, Some, ⊎_elim, refl, sym, ap, subst, arith, append_assoc, if◌then◌else◌}
use Rattle.std.specs.List.{Contains}
use Rattle.std.proofs.lemmas.List.Elements.{Contains-append_left, Contains-append_right, Contains-append_cases}
use Rattle.node_machine.specs.declared.Phase.{Phase}
use Rattle.node_machine.specs.declared.Phase.TheVariants.{Pre, Job, Post}
use Rattle.node_machine.specs.declared.Ended.{Ended}
use Rattle.node_machine.specs.declared.Key.{Key}
use Rattle.node_machine.specs.declared.Record.{Record}
use Rattle.node_machine.specs.declared.Record.TheVariants.{Life, Launch, End, Finish}
use Rattle.node_machine.specs.Story.{Table, ends_with}
use Rattle.run_plan_node.specs.Commands.{starts_child, is_expandable, uses_whole_run, HaveSameEnds}
use Rattle.run_plan_node.proofs.PlainCommands.{plain_command_same}
use Rattle.run_plan.specs.Plan.{Plan, node_at, count_of, IsRankedBy, at}
use Rattle.sched_core.specs.Run.{table_of, is_done, is_lawful}
use Rattle.sched_core.specs.Fate.{Fate, AreFates, shown, is_done_state}
use Rattle.sched_core.specs.Agree.{IsAlike, AgreeOnFates, Agree}
use Rattle.sched_core.specs.Lives.{HasOutcomesOf}
use Rattle.sched_core.specs.Commands.{plain_facts, facts_in, with_commands, command_of_launch, plain_command}
use Rattle.sched_core.specs.AttemptValues.{attempt_values}
use Rattle.sched_core.specs.EveryRun.{key_of, IsGrown, Way, AnyLife, AnyRun, commands_at, IsAnyLife, AreAnyLives, by_what_it_left, IsRunOver, AreSameFor, ArePlain, plain_by, with_plain, HaveSamePlain}
use Rattle.sched_core.proofs.Finished.{lawful_part, state-done}
use Rattle.sched_core.proofs.LivesLemmas.{table-fates}
use Rattle.sched_core.proofs.Matching.{fates-agree}
use Rattle.sched_core.proofs.RunCommands.{facts_by, launch-ends, launch-allowed, same-starts, EachOf, fate-allowed}

-- what was added, and added again
pub more-over : (newest newer older : List Record) → IsGrown newest newer → IsGrown newer older → IsGrown newest older
more-over newest newer older one two =
    (one.0 ++ two.0, one.1 ∙ ap (λ (l : List Record). one.0 ++ l) two.1 ∙ sym (append_assoc one.0 two.0 older))

-- what is there of one list of records and not of another
no_element : {X A : Type 0} (x : X) → Contains [] x → A
no_element x has = let lt = has.1 in absurd (omega arith)

alone : {X : Type 0} (x y : X) → Contains (y ∷ []) x → y ≡ x
alone x y has = go has.0 has.1 has.2
  where
    go : (k : ℕ) → k < 1 → slice_index_or (y ∷ []) k x ≡ x → y ≡ x
    go zero lt is = is
    go (suc k) lt is = absurd (omega arith)

one_read : (past past' : List Record) → Some past ≡ Some past' → past ≡ past'
one_read past past' is = cc

module _ {I C : Type 0} (plan : Plan) (way : Way I C) where
  pub is-life : (last : AnyLife I C) (before : List (AnyLife I C)) → AreAnyLives plan way (last ∷ before) → IsAnyLife plan way last
  is-life last [] are = are.0
  is-life last (previous ∷ before) are = are.0

  -- a life goes on from what the one before held
  life-grows : (last previous : AnyLife I C) (before : List (AnyLife I C)) → AreAnyLives plan way (last ∷ previous ∷ before) → IsGrown last.held previous.held
  life-grows last previous before are =
      let p = is-life previous before are.2 in
      let same = one_read last.begun p.kept (sym are.0.begins ∙ ap way.read are.1 ∙ p.leaves) in
      more-over last.held last.begun previous.held are.0.adds (subst (λ (l : List Record). IsGrown l previous.held) (sym same) p.keeps)

  -- a life of the list, and what the last one holds more
  pub life-among : (last : AnyLife I C) (before : List (AnyLife I C)) → AreAnyLives plan way (last ∷ before)
      → (life : AnyLife I C) (k : ℕ) → k < length (last ∷ before) → slice_index_or (last ∷ before) k life ≡ life
      → IsAnyLife plan way life × IsGrown last.held life.held
  life-among last before are life zero lt is =
      subst (λ (l : AnyLife I C). IsAnyLife plan way l × IsGrown last.held l.held) is (is-life last before are, ([], refl))
  life-among last [] are life (suc k) lt is = absurd (omega arith)
  life-among last (previous ∷ before) are life (suc k) lt is =
      let rest = life-among previous before are.2 life k (omega arith) is in
      (rest.0, more-over last.held previous.held life.held (life-grows last previous before are) rest.1)

  pub life-older : (last : AnyLife I C) (before : List (AnyLife I C)) → AreAnyLives plan way (last ∷ before)
      → (life : AnyLife I C) (k : ℕ) → k < length before → slice_index_or before k life ≡ life → IsGrown last.held life.held
  life-older last before are life k lt is = (life-among last before are life (suc k) (omega arith) is).1

  -- a command is that of a launch
  pub record IsStarted (held : List Record) (key : Key) (handed : C) : Type 0 where
    pub newer : List Record
    pub past : List Record
    pub number : ℕ
    pub is_there : held ≡ newer ++ Launch key number ∷ past
    pub command_is : handed ≡ way.command (Launch key number ∷ past) key
    pub starts : starts_child (node_at plan key.node) key.phase ≡ true

  also : (newest : Record) (held : List Record) (key : Key) (handed : C) → IsStarted held key handed → IsStarted (newest ∷ held) key handed
  also newest held key handed was = record {
    newer = newest ∷ was.newer;
    past = was.past;
    number = was.number;
    is_there = ap (λ (l : List Record). newest ∷ l) was.is_there;
    command_is = was.command_is;
    starts = was.starts;
  }

  abbrev one_command : Key → ℕ → List Record → Key × C
  one_command key number past = (key, way.command (Launch key number ∷ past) key)

  pub started : (held : List Record) (key : Key) (handed : C) → Contains (commands_at plan way.command held) (key, handed) → IsStarted held key handed
  started [] key handed has = no_element (key, handed) has
  started (Life ∷ past) key handed has = also Life past key handed (started past key handed has)
  started (End k outcome ∷ past) key handed has = also (End k outcome) past key handed (started past key handed has)
  started (Finish status ∷ past) key handed has = also (Finish status) past key handed (started past key handed has)
  started (Launch k number ∷ past) key handed has =
      go (starts_child (node_at plan k.node) k.phase) refl has (started past key handed)
    where
      newest : starts_child (node_at plan k.node) k.phase ≡ true → (one_command k number past) ≡ (key, handed) → IsStarted (Launch k number ∷ past) key handed
      newest starts is = record {
        newer = [];
        past = past;
        number = number;
        is_there = ap (λ (h : Key × C). Launch h.0 number ∷ past) is;
        command_is = sym (ap (λ (h : Key × C). h.1) is) ∙ ap (λ (h : Key × C). way.command (Launch h.0 number ∷ past) h.0) is;
        starts = ap (λ (h : Key × C). starts_child (node_at plan h.0.node) h.0.phase) (sym is) ∙ starts;
      }

      go : (b : Bool) → starts_child (node_at plan k.node) k.phase ≡ b → Contains (if b then commands_at plan way.command past ++ (one_command k number past) ∷ [] else commands_at plan way.command past) (key, handed)
          → (Contains (commands_at plan way.command past) (key, handed) → IsStarted past key handed) → IsStarted (Launch k number ∷ past) key handed
      go true starts has deeper = ⊎_elim (λ old. also (Launch k number) past key handed (deeper old)) (λ new. newest starts (alone (key, handed) (one_command k number past) new))
          (Contains-append_cases (commands_at plan way.command past) ((one_command k number past) ∷ []) (key, handed) has)
      go false starts has deeper = also (Launch k number) past key handed (deeper has)

  -- with more records the commands that were handed over come first as before
  pub hands-more : (begun held : List Record) (handed : List (Key × C)) (added : List Record)
      → (rest : List (Key × C)) × (commands_at plan way.command held ≡ commands_at plan way.command begun ++ (handed ++ rest))
      → (rest : List (Key × C)) × (commands_at plan way.command (added ++ held) ≡ commands_at plan way.command begun ++ (handed ++ rest))
  hands-more begun held handed [] hands = hands
  hands-more begun held handed (Life ∷ added) hands = hands-more begun held handed added hands
  hands-more begun held handed (End key outcome ∷ added) hands = hands-more begun held handed added hands
  hands-more begun held handed (Finish status ∷ added) hands = hands-more begun held handed added hands
  hands-more begun held handed (Launch key number ∷ added) hands = go (starts_child (node_at plan key.node) key.phase) (hands-more begun held handed added hands)
    where
      more : Key × C
      more = one_command key number (added ++ held)

      go : (b : Bool) → (rest : List (Key × C)) × (commands_at plan way.command (added ++ held) ≡ commands_at plan way.command begun ++ (handed ++ rest))
          → (rest : List (Key × C)) × ((if b then commands_at plan way.command (added ++ held) ++ more ∷ [] else commands_at plan way.command (added ++ held)) ≡ commands_at plan way.command begun ++ (handed ++ rest))
      go true before = (
        before.0 ++ more ∷ [],
        ap (λ (l : List (Key × C)). l ++ more ∷ []) before.1
            ∙ append_assoc (commands_at plan way.command begun) (handed ++ before.0) (more ∷ [])
            ∙ ap (λ (l : List (Key × C)). commands_at plan way.command begun ++ l) (append_assoc handed before.0 (more ∷ [])),
      )
      go false before = before

  -- what a life left is a life's too
  left-life : (life : AnyLife I C) → IsAnyLife plan way life → (kept : List Record) → way.read life.left ≡ Some kept → IsAnyLife plan way (by_what_it_left life kept)
  left-life life is kept leaves =
      let same = one_read kept is.kept (sym leaves ∙ is.leaves) in
      let more = subst (λ (l : List Record). IsGrown l life.held) (sym same) is.keeps in
      let hands = hands-more life.begun life.held life.handed more.0 (is.rest, is.hands) in
      record {
        begins = is.begins;
        adds = more-over kept life.held life.begun more is.adds;
        rest = hands.0;
        hands = ap (commands_at plan way.command) more.1 ∙ hands.1;
        kept = kept;
        leaves = leaves;
        keeps = ([], refl);
      }

  pub lives-left : (last : AnyLife I C) (before : List (AnyLife I C)) → AreAnyLives plan way (last ∷ before) → (kept : List Record) → way.read last.left ≡ Some kept
      → AreAnyLives plan way (by_what_it_left last kept ∷ before)
  lives-left last [] are kept leaves = (left-life last are.0 kept leaves, are.1)
  lives-left last (previous ∷ before) are kept leaves = (left-life last are.0 kept leaves, are.1, are.2)

outcomes-tail : (plan : Plan) (table : Table) (newer past : List Record) → HasOutcomesOf plan table (newer ++ past) → HasOutcomesOf plan table past
outcomes-tail plan table [] past has = has
outcomes-tail plan table (Life ∷ newer) past has = outcomes-tail plan table newer past has
outcomes-tail plan table (Launch key number ∷ newer) past has = outcomes-tail plan table newer past has
outcomes-tail plan table (End key outcome ∷ newer) past has = outcomes-tail plan table newer past has.1
outcomes-tail plan table (Finish status ∷ newer) past has = outcomes-tail plan table newer past has

-- the values in an attempt, by the records of a launch, are for its command those of the table
launch-values : (plan : Plan) (table : Table) (newer past : List Record) (key : Key) (number : ℕ)
    → is_lawful plan (newer ++ Launch key number ∷ past) ≡ true → HasOutcomesOf plan table past
    → AreSameFor key.phase (attempt_values (node_at plan key.node).course (table_of past key.node key.attempt Pre) (table_of past key.node key.attempt Job))
    (attempt_values (node_at plan key.node).course (table key.node key.attempt Pre) (ends_with (node_at plan key.node).course Job (table key.node key.attempt Job)))
launch-values plan table newer past key number h o = go key.phase (launch-ends plan table newer past key number h o)
  where
    go : (phase : Phase) → HaveSameEnds phase (facts_in plan (Launch key number ∷ past) key) (facts_by (node_at plan key.node).course (table key.node) key.attempt)
        → AreSameFor phase (attempt_values (node_at plan key.node).course (table_of past key.node key.attempt Pre) (table_of past key.node key.attempt Job))
        (attempt_values (node_at plan key.node).course (table key.node key.attempt Pre) (ends_with (node_at plan key.node).course Job (table key.node key.attempt Job)))
    go Pre ends = tt
    go Job ends = tt
    go Post ends = λ j. (ends.0 j, ends.1 j)

-- a command that a life handed over: of an attempt that is allowed and a phase that starts a child, and read from the table where it is plain
pub record IsHandedOver {C : Type 0} (plan : Plan) (table : Table) (records : List Record) (command : List Record → Key → C) (key : Key) (handed : C) : Type 0 where
  pub starts : starts_child (node_at plan key.node) key.phase ≡ true
  pub allowed : key.attempt ≤ (node_at plan key.node).course.retries
  pub read : (plain : Key → ℤ × ℤ → C) → ArePlain plan records command plain key.node → handed ≡ plain_by plan table plain key

pub handed-over : {I C : Type 0} (run : AnyRun I C) → IsRunOver run → (life : AnyLife I C) → Contains (run.last ∷ run.before) life
    → (key : Key) (handed : C) → Contains life.handed (key, handed) → IsHandedOver run.plan run.table run.last.held run.way.command key handed
handed-over {I} {C} run over life is_there key handed has =
    let plan = run.plan in
    let table = run.table in
    let at = life-among plan run.way run.last run.before over.lives life is_there.0 is_there.1 is_there.2 in
    let every = subst (λ (l : List (Key × C)). Contains l (key, handed)) (sym at.0.hands)
    (Contains-append_right (commands_at plan run.way.command life.begun) (life.handed ++ at.0.rest) (key, handed) (Contains-append_left life.handed at.0.rest (key, handed) has)) in
    let was = started plan run.way life.held key handed every in
    let more = at.1.0 in
    let whole : run.last.held ≡ (more ++ was.newer) ++ Launch key was.number ∷ was.past =
    at.1.1 ∙ ap (λ t. more ++ t) was.is_there ∙ sym (append_assoc more was.newer (Launch key was.number ∷ was.past)) in
    let lawful = subst (λ (l : List Record). is_lawful plan l ≡ true) whole (lawful_part plan run.last.held over.ended.finished) in
    let outcomes = outcomes-tail plan table (more ++ was.newer) (Launch key was.number ∷ was.past) (subst (HasOutcomesOf plan table) whole over.ended.outcomes) in
    record {
      starts = was.starts;
      allowed = launch-allowed plan (more ++ was.newer) was.past key was.number lawful;
      read = λ plain are.
          was.command_is
          ∙ are was.past key was.number refl (more ++ was.newer, whole)
          (attempt_values (node_at plan key.node).course (table key.node key.attempt Pre) (ends_with (node_at plan key.node).course Job (table key.node key.attempt Job)))
          (launch-values plan table (more ++ was.newer) was.past key was.number lawful outcomes);
    }

-- nodes that are alike, with the same plain commands, have the same by their tables
pub same-plain : {C : Type 0} (plan : Plan) (table : Table) (plan' : Plan) (table' : Table) (plain plain' : Key → ℤ × ℤ → C) (node node' : ℕ)
    → IsAlike plan table plan' table' node node' → HaveSamePlain plan plain plain' node node'
    → (attempt : ℕ) → attempt ≤ (node_at plan node).course.retries → (phase : Phase) → starts_child (node_at plan node) phase ≡ true
    → plain_by plan table plain (key_of node attempt phase) ≡ plain_by plan' table' plain' (key_of node' attempt phase)
same-plain plan table plan' table' plain plain' node node' alike same attempt allowed phase starts =
    (λ j. plain (key_of node attempt phase) (attempt_values (alike.course j) (alike.outcomes attempt Pre j) (ends_with (alike.course j) Job (alike.outcomes attempt Job j))))
    ∙ same attempt allowed phase starts _

pub same-with_plain : {C : Type 0} (plan : Plan) (table : Table) (plan' : Plan) (table' : Table) (plain plain' : Key → ℤ × ℤ → C) (node node' : ℕ)
    → IsAlike plan table plan' table' node node' → HaveSamePlain plan plain plain' node node'
    → (es : List Ended) → EachOf (λ e. e.attempt ≤ (node_at plan node).course.retries) es → with_plain plan table plain node es ≡ with_plain plan' table' plain' node' es
same-with_plain plan table plan' table' plain plain' node node' alike same [] allowed = refl
same-with_plain plan table plan' table' plain plain' node node' alike same (e ∷ es) allowed =
    go (starts_child (node_at plan node) e.phase) refl (same-with_plain plan table plan' table' plain plain' node node' alike same es allowed.1)
  where
    other : starts_child (node_at plan node) e.phase ≡ starts_child (node_at plan' node') e.phase
    other = same-starts (node_at plan node) (node_at plan' node') alike.course e.phase

    go : (b : Bool) → starts_child (node_at plan node) e.phase ≡ b → with_plain plan table plain node es ≡ with_plain plan' table' plain' node' es
        → with_plain plan table plain node (e ∷ es) ≡ with_plain plan' table' plain' node' (e ∷ es)
    go true t rest =
        (λ j. if t j then (e, plain_by plan table plain (key_of node e.attempt e.phase)) ∷ with_plain plan table plain node es else with_plain plan table plain node es)
        ∙ (λ j. (e, same-plain plan table plan' table' plain plain' node node' alike same e.attempt allowed.0 e.phase t j) ∷ rest j)
        ∙ (λ j. if (sym t ∙ other) j then (e, plain_by plan' table' plain' (key_of node' e.attempt e.phase)) ∷ with_plain plan' table' plain' node' es else with_plain plan' table' plain' node' es)
    go false t rest =
        (λ j. if t j then (e, plain_by plan table plain (key_of node e.attempt e.phase)) ∷ with_plain plan table plain node es else with_plain plan table plain node es)
        ∙ rest
        ∙ (λ j. if (sym t ∙ other) j then (e, plain_by plan' table' plain' (key_of node' e.attempt e.phase)) ∷ with_plain plan' table' plain' node' es else with_plain plan' table' plain' node' es)

-- solutions of the recursion have the same plain commands at the phases of such nodes
pub same-histories : {C : Type 0} (plan : Plan) (table : Table) (plan' : Plan) (table' : Table) (rank rank' : ℕ → ℕ)
    → IsRankedBy rank plan → IsRankedBy rank' plan' → (fates fates' : ℕ → Fate) → AreFates plan table fates → AreFates plan' table' fates'
    → (node node' : ℕ) → node < count_of plan → node' < count_of plan' → AgreeOnFates plan table plan' table' node node'
    → (plain plain' : Key → ℤ × ℤ → C) → HaveSamePlain plan plain plain' node node'
    → with_plain plan table plain node (fates node).history ≡ with_plain plan' table' plain' node' (fates' node').history
same-histories plan table plan' table' rank rank' ranked ranked' fates fates' are are' node node' lt lt' agree plain plain' same =
    same-with_plain plan table plan' table' plain plain' node node' (agree.0.upward node node' at at agree.0.name) same (fates node).history
    (subst (λ (f : Fate). EachOf (λ e. e.attempt ≤ (node_at plan node).course.retries) f.history) (sym (are node lt)) (fate-allowed plan table fates node))
    ∙ ap (λ (f : Fate). with_plain plan' table' plain' node' f.history) (fates-agree plan table plan' table' rank rank' ranked ranked' fates fates' are are' node node' lt lt' agree)

-- two lives of two runs handed over the same
pub same-handed : {C : Type 0} (plan : Plan) (table : Table) (records : List Record) (plan' : Plan) (table' : Table) (records' : List Record) (command command' : List Record → Key → C) (node node' : ℕ)
    → AgreeOnFates plan table plan' table' node node' → (plain plain' : Key → ℤ × ℤ → C) → HaveSamePlain plan plain plain' node node'
    → ArePlain plan records command plain node → ArePlain plan' records' command' plain' node'
    → (attempt : ℕ) (phase : Phase) (handed handed' : C) → IsHandedOver plan table records command (key_of node attempt phase) handed → IsHandedOver plan' table' records' command' (key_of node' attempt phase) handed'
    → handed ≡ handed'
same-handed plan table records plan' table' records' command command' node node' agree plain plain' same are are' attempt phase handed handed' is is' =
    is.read plain are
    ∙ same-plain plan table plan' table' plain plain' node node' (agree.0.upward node node' at at agree.0.name) same attempt is.allowed phase is.starts
    ∙ sym (is'.read plain' are')

-- the commands of a plan are plain, in lawful records, where the texts of the job can be expanded and no word is of the whole run
pub plan-plain : (plan : Plan) (records : List Record) → is_lawful plan records ≡ true → (node : ℕ) → is_expandable (node_at plan node) ≡ true → uses_whole_run (node_at plan node) ≡ false
    → ArePlain plan records (command_of_launch plan) (plain_command plan) node
plan-plain plan records lawful node sound plain past key number is grown values same =
    plain_command_same (node_at plan key.node) key.attempt key.phase (facts_in plan (Launch key number ∷ past) key) (plain_facts values.0 values.1)
    (subst (λ (n : ℕ). is_expandable (node_at plan n) ≡ true) (sym is) sound) (subst (λ (n : ℕ). uses_whole_run (node_at plan n) ≡ false) (sym is) plain)
    (launch-allowed plan grown.0 past key number (subst (λ (l : List Record). is_lawful plan l ≡ true) grown.1 lawful))
    (ends key.phase (subst (λ (n : ℕ). AreSameFor key.phase (attempt_values (node_at plan n).course (table_of past n key.attempt Pre) (table_of past n key.attempt Job)) values) (sym is) same))
  where
    ends : (phase : Phase) → AreSameFor phase (attempt_values (node_at plan key.node).course (table_of past key.node key.attempt Pre) (table_of past key.node key.attempt Job)) values
        → HaveSameEnds phase (facts_in plan (Launch key number ∷ past) key) (plain_facts values.0 values.1)
    ends Pre same = tt
    ends Job same = tt
    ends Post same = (ap (λ (v : ℤ × ℤ). v.0) same, ap (λ (v : ℤ × ℤ). v.1) same)

-- so solutions of the recursion have the same commands
pub same-commands : (plan : Plan) (table : Table) (plan' : Plan) (table' : Table) (rank rank' : ℕ → ℕ)
    → IsRankedBy rank plan → IsRankedBy rank' plan' → (fates fates' : ℕ → Fate) → AreFates plan table fates → AreFates plan' table' fates'
    → (node node' : ℕ) → node < count_of plan → node' < count_of plan' → Agree plan table plan' table' node node'
    → with_commands plan table node (fates node).history ≡ with_commands plan' table' node' (fates' node').history
same-commands plan table plan' table' rank rank' ranked ranked' fates fates' are are' node node' lt lt' agree =
    same-histories plan table plan' table' rank rank' ranked ranked' fates fates' are are' node node' lt lt' agree.0 (plain_command plan) (plain_command plan') agree.1.same

-- the fates of a run
pub run-fates : {I C : Type 0} (run : AnyRun I C) → IsRunOver run → AreFates run.plan run.table (shown run.plan run.last.held)
run-fates run over = table-fates run.plan run.table run.last.held over.ended

-- two runs agree on a node
pub runs-agree : {I J C : Type 0} (run : AnyRun I C) (run' : AnyRun J C) → IsRunOver run → IsRunOver run' → (rank rank' : ℕ → ℕ) → IsRankedBy rank run.plan → IsRankedBy rank' run'.plan
    → (node node' : ℕ) → node < count_of run.plan → node' < count_of run'.plan → AgreeOnFates run.plan run.table run'.plan run'.table node node'
    → (shown run.plan run.last.held node ≡ shown run'.plan run'.last.held node')
    × (is_done run.plan run.last.held node ≡ is_done run'.plan run'.last.held node')
    × ((plain plain' : Key → ℤ × ℤ → C) → HaveSamePlain run.plan plain plain' node node'
    → with_plain run.plan run.table plain node (shown run.plan run.last.held node).history
    ≡ with_plain run'.plan run'.table plain' node' (shown run'.plan run'.last.held node').history)
runs-agree run run' over over' rank rank' ranked ranked' node node' lt lt' agree =
    let one = shown run.plan run.last.held in
    let other = shown run'.plan run'.last.held in
    let fates = run-fates run over in
    let fates' = run-fates run' over' in
    let same = fates-agree run.plan run.table run'.plan run'.table rank rank' ranked ranked' one other fates fates' node node' lt lt' agree in (
      same,
      sym (state-done run.plan run.last.held node) ∙ ap (λ (f : Fate). is_done_state f.state) same ∙ state-done run'.plan run'.last.held node',
      λ plain plain' alike. same-histories run.plan run.table run'.plan run'.table rank rank' ranked ranked' one other fates fates' node node' lt lt' agree plain plain' alike,
    )
