use Rattle.std.proofs.Common.{◌≡◌, Result, Ok, Err, sym, subst, IfOk}
use Rattle.std.specs.Option.{option_map}
use Rattle.std.proofs.lemmas.Result.{IfOk-weaker, IfErr-weaker}
use Rattle.dag_main_files.specs.Opened.{changing, fixed}
use Rattle.dag_main_files.proofs.OpenedFiles.{read-some, read-held, unreadable-some, unreadable-held}
use Rattle.run_times.specs.declared.form.Form.{Form}
use Rattle.run_times.specs.Answered.{IsLogBefore}
use Rattle.run_times.proofs.here.log_before.Goals as goal

always : {A B : Type 0} (r : Result A B) (P : A → Type 0) → ((x : A) → P x) → IfOk r P
always (Ok x) P each = each x
always (Err fault) P each = tt

pub returns-in-Rounds-clause-before : goal.returns-in-Rounds-clause-before
returns-in-Rounds-clause-before g c =
    subst (λ (form : Form). IfOk c.file_beside.result (λ log. IsLogBefore changing form c.args.top.now (option_map (λ b. b.items) log))) (sym c.in-Rounds.is)
    (always c.file_beside.result _ (λ log. read-some _ _))

pub returns-in-Rounds-clause-held : goal.returns-in-Rounds-clause-held
returns-in-Rounds-clause-held g c = λ honest.
    subst (λ (form : Form). IfOk c.file_beside.result (λ log. IsLogBefore (fixed (g.F.Folder.holds c.args.folder.now)) form c.args.top.now (option_map (λ b. b.items) log))) (sym c.in-Rounds.is)
    (IfOk-weaker c.file_beside.result _ _ (λ log is. read-held _ _ _ is) (c.file_beside.ensures.held honest))

pub returns-in-Rounds-clause-refused : goal.returns-in-Rounds-clause-refused
returns-in-Rounds-clause-refused g c = IfErr-weaker c.file_beside.result _ _ (λ fault h. (c.in-Rounds.is, unreadable-some _ _ h)) c.file_beside.ensures.refused

pub returns-in-Rounds-clause-unheld : goal.returns-in-Rounds-clause-unheld
returns-in-Rounds-clause-unheld g c = λ honest. IfErr-weaker c.file_beside.result _ _ (λ fault h. (c.in-Rounds.is, unreadable-held _ _ _ h)) (c.file_beside.ensures.unheld honest)
