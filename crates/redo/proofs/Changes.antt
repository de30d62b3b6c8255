-- What `redo` changes.
use Rattle.std.proofs.Common.{◌≡◌, ◌∙◌, ℕ, Bool, true, List, [], ◌++◌, Result, Ok, Err, refl, sym, subst, append_assoc, append-nil, string_bytes}
use Rattle.std.specs.Prelude.{IsErrAnd, IfOk, OnErr}
use Rattle.event_journal_log.specs.Image.{replay_of}
use Rattle.dag_main_check.specs.declared.fault.RunFault.{RunFault}
use Rattle.dag_main_check.specs.declared.warnings.Answer.{Answer}
use Rattle.dag_main_files.specs.Beside.{journal_name_of, IsRefusalOf}
use Rattle.dag_main_files.specs.Changes.{FileChange, AreBegun, writes_rescue, puts_journal_away, locks, unlocks}
use Rattle.dag_main_files.specs.Folder.{Paths}
use Rattle.dag_main_files.specs.Opened.{Holding}
use Rattle.dag_main_files.proofs.Makes.{made-after}
use Rattle.redo.specs.Numbers.{is_cut_short}
use Rattle.redo.specs.Answered.{no_round_line}
use Rattle.redo.specs.Changes.{clears_cut_short, writes_redone, WritesMarks, marks_written, marks_not_written, marks_alone_written, WritesRedone, MakesRedone, by_last_round, no_such_node, nothing_to_write, MakesRedo, under_its_lock, no_round_to_redo, redo_not_begun}

-- this is so of a refusal
pub on-any-refusal : {A E : Type 0} (P : Type 0) (result : Result A E) → P → OnErr result P
on-any-refusal P (Ok value) is = tt
on-any-refusal P (Err fault) is = is

module _ (IsNumber : ℕ → Type 0) (path journal text : List ℕ) (done total : ℕ) where
  -- a call that is refused has written nothing; or the rescue file alone
  pub marks-unwritten : (Q : RunFault → Type 0) (result : Result Answer RunFault) → IsErrAnd result Q → (before now : List FileChange) → now ≡ before
      → WritesMarks IsNumber path journal text done total result before now
  marks-unwritten Q (Ok answer) bad before now same = absurd bad
  marks-unwritten Q (Err fault) refused before now same = marks_not_written fault before now same

  pub marks-alone : (given : RunFault) (result : Result Answer RunFault) → IsErrAnd result (λ fault. fault ≡ given) → IsRefusalOf (journal_name_of path) given
      → (number : ℕ) → IsNumber number → (cut_short : Bool) → cut_short ≡ is_cut_short (replay_of journal) → cut_short ≡ true → (before mid now : List FileChange)
      → mid ≡ before ++ writes_rescue path number text → AreBegun (clears_cut_short cut_short path) mid now
      → WritesMarks IsNumber path journal text done total result before now
  marks-alone given (Ok answer) bad refused number is cut_short same was before mid now made begun = absurd bad
  marks-alone given (Err fault) told refused number is cut_short same was before mid now made begun =
      marks_alone_written fault number before now is (sym same ∙ was) (subst (IsRefusalOf (journal_name_of path)) (sym told) refused)
      (subst (λ (b : List FileChange). AreBegun (puts_journal_away path) b now) made
      (subst (λ (c : Bool). AreBegun (clears_cut_short c path) mid now) was begun))

  -- what is made is so much more
  marks-more : (result : Result Answer RunFault) (before now : List FileChange) → WritesMarks IsNumber path journal text done total result before now
      → (made : List FileChange) × WritesMarks IsNumber path journal text done total result [] made × (now ≡ before ++ made)
  marks-more _ before now (marks_written answer number _ _ is status told made) =
      (writes_redone path number text (is_cut_short (replay_of journal)), marks_written answer number [] _ is status told refl, made)
  marks-more _ before now (marks_not_written fault _ _ same) = ([], marks_not_written fault [] [] refl, same ∙ sym (append-nil before))
  marks-more _ before now (marks_alone_written fault number _ _ is cut_short refused begun) = (
    writes_rescue path number text ++ begun.done,
    marks_alone_written fault number [] _ is cut_short refused (record { done = begun.done; rest = begun.rest; whole_is = begun.whole_is; made = refl }),
    begun.made ∙ append_assoc before (writes_rescue path number text) begun.done,
  )

-- the same where another thing is known of the number
pub marks-as : (IsNumber Other : ℕ → Type 0) → ((number : ℕ) → IsNumber number → Other number) → (path journal text : List ℕ) (done total : ℕ)
    (result : Result Answer RunFault) (before now : List FileChange) → WritesMarks IsNumber path journal text done total result before now
    → WritesMarks Other path journal text done total result before now
marks-as IsNumber Other less path journal text done total _ before now (marks_written answer number _ _ is status told made) =
    marks_written answer number before now (less number is) status told made
marks-as IsNumber Other less path journal text done total _ before now (marks_not_written fault _ _ same) = marks_not_written fault before now same
marks-as IsNumber Other less path journal text done total _ before now (marks_alone_written fault number _ _ is cut_short refused begun) =
    marks_alone_written fault number before now (less number is) cut_short refused begun

module _ (may_hold : Holding) (paths : Paths) (path : List ℕ) (names : List (List ℕ)) (only : Bool) where
  -- a call that is refused has made nothing; and it has taken no lock
  pub redone-unchanged : (Q : RunFault → Type 0) (result : Result Answer RunFault) → IsErrAnd result Q → (before : List FileChange)
      → MakesRedone may_hold paths path names only result before before
  redone-unchanged Q (Ok answer) bad before = absurd bad
  redone-unchanged Q (Err fault) refused before = nothing_to_write fault before before refl

  pub redo-unchanged : (Q : RunFault → Type 0) (result : Result Answer RunFault) → IsErrAnd result Q → (before now : List FileChange) → now ≡ before
      → MakesRedo may_hold paths path names only result before now
  redo-unchanged Q (Ok answer) bad before now same = absurd bad
  redo-unchanged Q (Err fault) refused before now same = redo_not_begun fault before now same

  -- it is answered that there is no round
  pub none-told : (P : Answer → Type 0) (result : Result Answer RunFault)
      → IfOk result (λ answer. P answer × (string_bytes answer.warnings ≡ no_round_line path) × (answer.status ≡ 125)) → (before : List FileChange)
      → MakesRedo may_hold paths path names only result before before
  none-told P (Ok answer) told before = no_round_to_redo answer before before told.1 told.2 refl
  none-told P (Err fault) told before = redo_not_begun fault before before refl

  -- what is made is so much more
  redone-more : (result : Result Answer RunFault) (before now : List FileChange) → MakesRedone may_hold paths path names only result before now
      → (made : List FileChange) × MakesRedone may_hold paths path names only result [] made × (now ≡ before ++ made)
  redone-more result before now (by_last_round _ _ _ of) =
      let written : WritesRedone paths path names only result before now of.plan of.journal of.says.past = of.says.says in
      let more = marks-more _ path _ written.text written.done _ result before now written.writes in (
        more.0,
        by_last_round result [] more.0 (record {
          plan = of.plan;
          journal = of.journal;
          opened = of.opened;
          says = record {
            past = of.says.past;
            are_records = of.says.are_records;
            lawful = of.says.lawful;
            says = record {
              numbers = written.numbers;
              text = written.text;
              done = written.done;
              are_numbers = written.are_numbers;
              redone = written.redone;
              writes = more.1;
            };
          };
        }),
        more.2,
      )
  redone-more _ before now (no_such_node answer _ _ status same) = ([], no_such_node answer [] [] status refl, same ∙ sym (append-nil before))
  redone-more _ before now (nothing_to_write fault _ _ same) = ([], nothing_to_write fault [] [] refl, same ∙ sym (append-nil before))

  -- it is made under the lock
  pub redone-under-lock : (result : Result Answer RunFault) (before locked made now : List FileChange) → locked ≡ before ++ locks path
      → MakesRedone may_hold paths path names only result locked made → now ≡ made ++ unlocks → MakesRedo may_hold paths path names only result before now
  redone-under-lock result before locked made now lock makes unlock =
      let all = redone-more result locked made makes in
      under_its_lock result before now all.0 all.1
      (made-after (locks path) (all.0 ++ unlocks) before locked now lock (made-after all.0 unlocks locked made now all.2 unlock))
