-- What a run changes, where it is refused and where it is led; and by what else is known of its round.
use Rattle.std.proofs.Common.{◌≡◌, ◌≢◌, ◌∙◌, ◌<◌, ℕ, Bool, true, List, [], ◌∷◌, ◌++◌, Option, Result, Ok, Err, arith, refl, sym, subst, append-nil}
use Rattle.std.specs.Prelude.{IsErr, IsErrAnd, IfErr, OnOk, OnErr}
use Rattle.std.proofs.lemmas.List.Elements.{All-nil}
use Rattle.rescue_file.specs.Numbered.{IsFileNumber}
use Rattle.splices_flat.specs.declared.file_set.FileSet.{FileSet}
use Rattle.run_plan.specs.Plan.{Plan, count_of}
use Rattle.splices_flat.specs.FileSet.{entries_of}
use Rattle.job_starter_local.specs.declared.launching.Launcher.{Launcher}
use Rattle.throttles.specs.declared.Limits.{Limits}
use Rattle.dag_main_args.specs.declared.request.RunOptions.{RunOptions}
use Rattle.dag_main_check.specs.declared.fault.RunFault.{RunFault}
use Rattle.dag_main_check.specs.declared.fault.RunFault.TheVariants.{Memory}
use Rattle.dag_main_files.specs.declared.changes.Change.TheVariants.{Made}
use Rattle.dag_main_files.specs.declared.rounds.Journaled.{Journaled}
use Rattle.dag_main_files.specs.declared.rounds.Journaled.TheVariants.{Nothing, Finished, Unfinished}
use Rattle.dag_main_files.specs.declared.rounds.Round.{Round}
use Rattle.dag_main_files.specs.Beside.{journal_name_of}
use Rattle.dag_main_files.specs.Changes.{FileChange, AreBegun, AreSome, AreHigher, locks, unlocks}
use Rattle.dag_main_files.proofs.Makes.{begun-all, begun-more, begun-after, made-after, some-all, some-none}
use Rattle.round_inputs.specs.KeptInputs.{keeps_sums, keeps_files}
use Rattle.dag_main_run.specs.InTheWay.{IsOrphanFault, IsReadyFault}
use Rattle.dag_main_run.specs.Launching.{IsLauncherBy}
use Rattle.dag_main_run.specs.Sites.{Rounds}
use Rattle.dag_main_run.specs.RunChanges.{makes_journal, readies, settles, keeps, leads, RoundSteps, all_steps, IsStoppedAfter, before_all, while_readied, while_settled, while_led, without_memory, MakesSteps, ChangesAsRound, IsLook, AreLooks, one_more_look, IsPlannedRound, ChangesOnceLocked, left_unlocked, made_locked, ChangesAsRun}

-- a refusal is one for whatever cause
pub is-refused : {A E : Type 0} (Q : E → Type 0) (result : Result A E) → IsErrAnd result Q → IsErr result
is-refused Q (Ok value) bad = absurd bad
is-refused Q (Err fault) refused = refl

-- no rescue file is put away
pub none-higher : (from : ℕ) → AreHigher from []
none-higher from = record {
  falling = λ i j d before in'. absurd (omega (arith, in'));
  above = All-nil (λ number. from < number);
  named = All-nil IsFileNumber;
}

-- of a round of these files, with this rescue file
module _ (top digest : List ℕ) (files : List (List ℕ × List ℕ)) (rescue : Option (List ℕ)) (round : Round) where
  -- its steps, by their parts
  abbrev pub steps-of : (numbers : List ℕ) → AreHigher round.used numbers → (settled : List FileChange) → AreSome (settles top) settled → (is_kept : Bool) → (kept : List FileChange)
      → AreSome (keeps round.journal is_kept top digest files round.used rescue) kept → RoundSteps top digest files rescue round
  steps-of numbers higher settled are_settled is_kept kept are_kept = record {
    numbers = numbers;
    higher = higher;
    settled = settled;
    are_settled = are_settled;
    is_kept = is_kept;
    kept = kept;
    are_kept = are_kept;
  }

  -- what an earlier manager left is not dealt with yet, or nothing is kept yet
  abbrev pub settled-of : (numbers : List ℕ) → AreHigher round.used numbers → (settled : List FileChange) → AreSome (settles top) settled → RoundSteps top digest files rescue round
  settled-of numbers higher settled are_settled =
      steps-of numbers higher settled are_settled true [] (some-none (keeps round.journal true top digest files round.used rescue))

  abbrev pub readied-of : (numbers : List ℕ) → AreHigher round.used numbers → RoundSteps top digest files rescue round
  readied-of numbers higher = settled-of numbers higher [] (some-none (settles top))

  -- the first of the steps: the journal is readied
  pub readied-begun : (before : List FileChange) (numbers : List ℕ) (higher : AreHigher round.used numbers) (now : List FileChange) → now ≡ before ++ readies top round numbers
      → AreBegun (all_steps (readied-of numbers higher)) before now
  readied-begun before numbers higher now made =
      begun-more (readies top round numbers) ([] ++ ([] ++ leads)) before now (begun-all (readies top round numbers) before now made)

  -- and all but the last: it is not led yet
  pub kept-begun : (before : List FileChange) (numbers : List ℕ) (higher : AreHigher round.used numbers) (mid : List FileChange) → mid ≡ before ++ readies top round numbers
      → (settled : List FileChange) (are_settled : AreSome (settles top) settled) (next : List FileChange) → next ≡ mid ++ settled
      → (is_kept : Bool) (kept : List FileChange) (are_kept : AreSome (keeps round.journal is_kept top digest files round.used rescue) kept)
      → (now : List FileChange) → now ≡ next ++ kept → AreBegun (all_steps (steps-of numbers higher settled are_settled is_kept kept are_kept)) before now
  kept-begun before numbers higher mid readied settled are_settled next dealt is_kept kept are_kept now made =
      begun-after (readies top round numbers) (settled ++ (kept ++ leads)) before mid now readied
      (begun-after settled (kept ++ leads) mid next now dealt
      (begun-more kept leads next now (begun-all kept next now made)))

  -- that may be stopped so
  module _ (Stopped : RunFault → Type 0) where
    -- so much was made where it is stopped for a cause that is handed on
    pub handed-on : {A : Type 0} (given : RunFault) (result : Result A RunFault) → IsErrAnd result (λ fault. fault ≡ given) → (steps : RoundSteps top digest files rescue round)
        → (made : List FileChange) → IsStoppedAfter steps Stopped given made → MakesSteps result steps Stopped made
    handed-on given (Ok value) bad steps made is = absurd bad
    handed-on given (Err fault) same steps made is = subst (λ (f : RunFault). IsStoppedAfter steps Stopped f made) (sym same) is

    module _ {A : Type 0} (given : RunFault) (result : Result A RunFault) (refused : IsErrAnd result (λ fault. fault ≡ given)) (before : List FileChange) where
      -- it is refused before anything is changed
      pub round-unchanged : (now : List FileChange) → now ≡ before → ChangesAsRound result Stopped top digest files rescue round before now
      round-unchanged now same =
          let steps = readied-of [] (none-higher round.used) in
          (steps, [], handed-on given result refused steps [] (before_all given), same ∙ sym (append-nil before))

      -- while its journal is readied
      pub round-unready : IsReadyFault top round given → (numbers : List ℕ) → AreHigher round.used numbers → (now : List FileChange) → AreBegun (readies top round numbers) before now
          → ChangesAsRound result Stopped top digest files rescue round before now
      round-unready cause numbers higher now begun =
          let steps = readied-of numbers higher in (
            steps,
            begun.done,
            handed-on given result refused steps begun.done
                (while_readied given begun.done cause (record { done = begun.done; rest = begun.rest; whole_is = begun.whole_is; made = refl })),
            begun.made,
          )

      -- while what an earlier manager left is dealt with
      pub round-unsettled : IsOrphanFault top given → (numbers : List ℕ) → AreHigher round.used numbers → (mid : List FileChange) → mid ≡ before ++ readies top round numbers
          → (settled : List FileChange) → AreSome (settles top) settled → (now : List FileChange) → now ≡ mid ++ settled
          → ChangesAsRound result Stopped top digest files rescue round before now
      round-unsettled cause numbers higher mid readied settled are_settled now made =
          let steps = settled-of numbers higher settled are_settled in (
            steps,
            readies top round numbers ++ settled,
            handed-on given result refused steps (readies top round numbers ++ settled) (while_settled given cause),
            made-after (readies top round numbers) settled before mid now readied made,
          )

      -- memory runs out once the first of its steps are made
      pub round-without-memory : given ≡ Memory → (steps : RoundSteps top digest files rescue round) → (now : List FileChange) → AreBegun (all_steps steps) before now
          → ChangesAsRound result Stopped top digest files rescue round before now
      round-without-memory is steps now begun = (
        steps,
        begun.done,
        handed-on given result refused steps begun.done
            (subst (λ (f : RunFault). IsStoppedAfter steps Stopped f begun.done) (sym is)
            (without_memory begun.done (record { done = begun.done; rest = begun.rest; whole_is = begun.whole_is; made = refl }))),
        begun.made,
      )

    -- all steps are made where it is led, whatever that comes to
    makes-all : {A : Type 0} (result : Result A RunFault) → IfErr result Stopped → (steps : RoundSteps top digest files rescue round) → MakesSteps result steps Stopped (all_steps steps)
    makes-all (Ok value) stopped steps = refl
    makes-all (Err fault) stopped steps = while_led fault stopped

    pub round-led : {A : Type 0} (result : Result A RunFault) → IfErr result Stopped → (before : List FileChange) (numbers : List ℕ) → AreHigher round.used numbers
        → (mid : List FileChange) → mid ≡ before ++ readies top round numbers
        → (settled : List FileChange) → AreSome (settles top) settled → (next : List FileChange) → next ≡ mid ++ settled
        → (is_kept : Bool) (kept : List FileChange) → AreSome (keeps round.journal is_kept top digest files round.used rescue) kept
        → (last : List FileChange) → last ≡ next ++ kept → (now : List FileChange) → now ≡ last ++ leads → ChangesAsRound result Stopped top digest files rescue round before now
    round-led result stopped before numbers higher mid readied settled are_settled next dealt is_kept kept are_kept last made now led =
        let steps = steps-of numbers higher settled are_settled is_kept kept are_kept in (
          steps,
          all_steps steps,
          makes-all result stopped steps,
          made-after (readies top round numbers) (settled ++ (kept ++ leads)) before mid now readied
              (made-after settled (kept ++ leads) mid next now dealt (made-after kept leads next last now made led)),
        )

    -- a round that is refused, handed on
    pub round-handed-on : (A : Type 0) {B : Type 0} (given : RunFault) (result : Result B RunFault) → IsErrAnd result (λ fault. fault ≡ given) → (before now : List FileChange)
        → ChangesAsRound {A = A} (Err given) Stopped top digest files rescue round before now → ChangesAsRound result Stopped top digest files rescue round before now
    round-handed-on A given result refused before now (steps, made, is, all) = (steps, made, handed-on given result refused steps made is, all)

    -- what is changed is so much more
    pub changed-more : {A : Type 0} (result : Result A RunFault) (before now : List FileChange) → ChangesAsRound result Stopped top digest files rescue round before now
        → (made : List FileChange) × ChangesAsRound result Stopped top digest files rescue round [] made × (now ≡ before ++ made)
    changed-more result before now (steps, made, is, all) = (made, (steps, made, is, refl), all)

-- some of the changes of a call that makes all of them, or none
pub some-of-call : {A E : Type 0} (result : Result A E) (whole before now : List FileChange) → OnOk result (now ≡ before ++ whole) → OnErr result (now ≡ before)
    → (made : List FileChange) × AreSome whole made × (now ≡ before ++ made)
some-of-call (Ok value) whole before now all none = (whole, some-all whole, all)
some-of-call (Err fault) whole before now all none = ([], some-none whole, none ∙ sym (append-nil before))

-- no changes are some of them
pub none-made : (whole before now : List FileChange) → now ≡ before → (made : List FileChange) × AreSome whole made × (now ≡ before ++ made)
none-made whole before now same = ([], some-none whole, same ∙ sym (append-nil before))

-- a round that begins makes its journal
pub makes-journal-is : (journal : Journaled) (top : List ℕ) → journal ≢ Unfinished → makes_journal journal top ≡ (journal_name_of top, Made) ∷ []
makes-journal-is Nothing top isnt = refl
makes-journal-is Finished top isnt = refl
makes-journal-is Unfinished top isnt = absurd (isnt refl)

-- and keeps with what it begins
pub keeps-is : (journal : Journaled) (is_kept : Bool) (top digest : List ℕ) (files : List (List ℕ × List ℕ)) (used : ℕ) (rescue : Option (List ℕ)) → journal ≢ Unfinished
    → keeps journal is_kept top digest files used rescue ≡ keeps_sums top digest files used rescue ++ keeps_files is_kept top digest files used rescue
keeps-is Nothing is_kept top digest files used rescue isnt = refl
keeps-is Finished is_kept top digest files used rescue isnt = refl
keeps-is Unfinished is_kept top digest files used rescue isnt = absurd (isnt refl)

-- what one result makes of the steps of a round is what the other one makes of them
abbrev pub MakesAs : {A B : Type 0} → Result A RunFault → Result B RunFault → Type 1
MakesAs result other = (top digest : List ℕ) (files : List (List ℕ × List ℕ)) (rescue : Option (List ℕ)) (round : Round) (steps : RoundSteps top digest files rescue round)
    (Stopped : RunFault → Type 0) (made : List FileChange) → MakesSteps result steps Stopped made → MakesSteps other steps Stopped made

pub ok-as-ok : {A B : Type 0} (answer : A) (other : B) → MakesAs (Ok answer) (Ok other)
ok-as-ok answer other top digest files rescue round steps Stopped made all = all

-- the files and the round are known by other words
round-known : (Found Other : FileSet → Round → Option (List ℕ) → Type 0) → ((files : FileSet) (round : Round) (rescue : Option (List ℕ)) → Found files round rescue → Other files round rescue)
    → (top : List ℕ) (options : RunOptions) (files : FileSet) (round : Round) (rescue : Option (List ℕ)) (plan : Plan)
    → IsPlannedRound Found top options files round rescue plan → IsPlannedRound Other top options files round rescue plan
round-known Found Other knows top options files round rescue plan is = record {
  graph = is.graph;
  is_graph = is.is_graph;
  by_options = is.by_options;
  rescue_is = is.rescue_is;
  found = knows files round rescue is.found;
  planned = is.planned;
}

-- the causes for which a round is stopped are known by other words
stopped-known : {top digest : List ℕ} {files : List (List ℕ × List ℕ)} {rescue : Option (List ℕ)} {round : Round} (steps : RoundSteps top digest files rescue round)
    (Stopped Other : RunFault → Type 0) → ((fault : RunFault) → Stopped fault → Other fault) → (fault : RunFault) (made : List FileChange)
    → IsStoppedAfter steps Stopped fault made → IsStoppedAfter steps Other fault made
stopped-known steps Stopped Other knows fault _ (before_all _) = before_all fault
stopped-known steps Stopped Other knows fault made (while_readied _ _ cause begun) = while_readied fault made cause begun
stopped-known steps Stopped Other knows fault _ (while_settled _ cause) = while_settled fault cause
stopped-known steps Stopped Other knows fault _ (while_led _ stopped) = while_led fault (knows fault stopped)
stopped-known steps Stopped Other knows _ made (without_memory _ begun) = without_memory made begun

makes-known : {A : Type 0} {top digest : List ℕ} {files : List (List ℕ × List ℕ)} {rescue : Option (List ℕ)} {round : Round} (result : Result A RunFault)
    (steps : RoundSteps top digest files rescue round) (Stopped Other : RunFault → Type 0) → ((fault : RunFault) → Stopped fault → Other fault) → (made : List FileChange)
    → MakesSteps result steps Stopped made → MakesSteps result steps Other made
makes-known (Ok answer) steps Stopped Other knows made all = all
makes-known (Err fault) steps Stopped Other knows made is = stopped-known steps Stopped Other knows fault made is

-- a run by another result, of which the files, the round and the causes are known by other words
pub run-as : {A B : Type 0} (result : Result A RunFault) (other : Result B RunFault) (Found Other : FileSet → Round → Option (List ℕ) → Type 0) (rounds others : Rounds)
    → ((files : FileSet) (round : Round) (rescue : Option (List ℕ)) → Found files round rescue → Other files round rescue)
    → ((top : List ℕ) (limits : Limits) (launcher : Launcher) (plan : Plan) (round : Round) (fault : RunFault) → rounds.stopped top limits launcher plan round fault
    → others.stopped top limits launcher plan round fault)
    → MakesAs result other → (IsErr result → IsErr other) → (top : List ℕ) (options : RunOptions) (before now : List FileChange)
    → ChangesAsRun result Found rounds top options before now → ChangesAsRun other Other others top options before now
run-as result other Found Other rounds others knows causes makes err top options before now (looks, are, left_unlocked refused same) = (looks, are, left_unlocked (err refused) same)
run-as result other Found Other rounds others knows causes makes err top options before now (looks, are, made_locked files round rescue plan launcher made planned launches (steps, all, is, same) locked) = (
  looks,
  are,
  made_locked files round rescue plan launcher made (round-known Found Other knows top options files round rescue plan planned) launches (
    steps,
    all,
    makes-known other steps (rounds.stopped top options.limits launcher plan round) (others.stopped top options.limits launcher plan round)
        (causes top options.limits launcher plan round) all
        (makes top plan.digest _ rescue round steps (rounds.stopped top options.limits launcher plan round) all is),
    same,
  ) locked,
)

-- one look more
pub looked-more : (top : List ℕ) (before mid now : List FileChange) → (looks : List FileChange) × AreLooks top looks × (mid ≡ before ++ looks)
    → (look : List FileChange) × IsLook top look × (now ≡ mid ++ look) → (looks : List FileChange) × AreLooks top looks × (now ≡ before ++ looks)
looked-more top before mid now (looks, are, looked) (look, is, more) = (looks ++ look, one_more_look looks look are is, made-after looks look before mid now looked more)

-- a round is led under the lock
pub led-locked : {A : Type 0} (result : Result A RunFault) (Found : FileSet → Round → Option (List ℕ) → Type 0) (rounds : Rounds) (top : List ℕ) (options : RunOptions)
    (files : FileSet) (round : Round) (rescue : Option (List ℕ)) (plan : Plan) (launcher : Launcher) (before locked led now : List FileChange)
    → IsPlannedRound Found top options files round rescue plan → IsLauncherBy options (count_of plan) launcher → locked ≡ before ++ locks top
    → ChangesAsRound result (rounds.stopped top options.limits launcher plan round) top plan.digest (entries_of files) rescue round locked led → now ≡ led ++ unlocks
    → ChangesOnceLocked result Found rounds top options before now
led-locked result Found rounds top options files round rescue plan launcher before locked led now planned launches lock changes unlock =
    let more = changed-more top plan.digest (entries_of files) rescue round (rounds.stopped top options.limits launcher plan round) result locked led changes in
    made_locked files round rescue plan launcher more.0 planned launches more.1
    (made-after (locks top) (more.0 ++ unlocks) before locked now lock (made-after more.0 unlocks locked led now more.2 unlock))

-- a run whose round is planned after some looks
pub looked-first : {A : Type 0} (result : Result A RunFault) (Found : FileSet → Round → Option (List ℕ) → Type 0) (rounds : Rounds) (top : List ℕ) (options : RunOptions)
    (before mid now : List FileChange) → (looks : List FileChange) × AreLooks top looks × (mid ≡ before ++ looks) → ChangesOnceLocked result Found rounds top options mid now
    → ChangesAsRun result Found rounds top options before now
looked-first result Found rounds top options before mid now (looks, are, looked) changes =
    (looks, are, subst (λ (m : List FileChange). ChangesOnceLocked result Found rounds top options m now) looked changes)
