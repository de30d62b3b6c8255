use Rattle.std.proofs.Common.{ℕ, Bool, List, Option, string_bytes, subst}
use Rattle.std.specs.Prelude.{is_some}
use Rattle.std.proofs.lemmas.Result.{IfOk-weaker}
use Rattle.node_machine.specs.declared.Record.{Record}
use Rattle.run_plan.specs.Plan.{Plan}
use Rattle.dag_main_check.proofs.Refusals.{weaker}
use Rattle.dag_main_files.specs.Opened.{changing, fixed}
use Rattle.dag_main_files.proofs.RunFaults.{by-fault}
use Rattle.dag_main_inspect.specs.LastRound.{no_last_round, not_opened}
use Rattle.dag_main_inspect.specs.Asked.{TellsOfNoRun}
use Rattle.dag_main_inspect.proofs.Rounds.{refused-of-round, no-memory, of-records}
use Rattle.failure_answers.specs.Answered.{IsNoWhy, has_no_status, log_refused}
use Rattle.report_answers.specs.Answered.{IsPageAnswer}
use Rattle.report_answers.proofs.here.page_here.Goals as goal

pub returns-in_err-round-clause-refused : goal.returns-in_err-round-clause-refused
returns-in_err-round-clause-refused g c =
    by-fault (IsNoWhy changing c.args.place.now.top.now) c.in_err-round.field-0.0 (has_no_status _ (not_opened _ (no_last_round _ c.in_err-round.ensures.refused)))
    c.from_residual.result c.from_residual.ensures.1

pub returns-in_err-round-clause-refused_held : goal.returns-in_err-round-clause-refused_held
returns-in_err-round-clause-refused_held g c = λ honest.
    by-fault (IsNoWhy (fixed (g.F.Folder.holds c.args.folder.now)) c.args.place.now.top.now) c.in_err-round.field-0.0 (has_no_status _ (not_opened _ (no_last_round _ (c.in_err-round.ensures.refused_held honest))))
    c.from_residual.result c.from_residual.ensures.1

pub returns-in_err-has_own_log-clause-refused : goal.returns-in_err-has_own_log-clause-refused
returns-in_err-has_own_log-clause-refused g c =
    by-fault (IsNoWhy changing c.args.place.now.top.now) c.in_err-has_own_log.field-0.0 (log_refused _ c.in_err-has_own_log.ensures.named)
    c.from_residual-in_err-has_own_log.result c.from_residual-in_err-has_own_log.ensures.1

pub returns-in_err-has_own_log-clause-refused_held : goal.returns-in_err-has_own_log-clause-refused_held
returns-in_err-has_own_log-clause-refused_held g c = λ honest.
    by-fault (IsNoWhy (fixed (g.F.Folder.holds c.args.folder.now)) c.args.place.now.top.now) c.in_err-has_own_log.field-0.0 (log_refused _ c.in_err-has_own_log.ensures.named)
    c.from_residual-in_err-has_own_log.result c.from_residual-in_err-has_own_log.ensures.1

pub returns-in_err-opened-clause-refused : goal.returns-in_err-opened-clause-refused
returns-in_err-opened-clause-refused g c =
    by-fault (IsNoWhy changing c.args.place.now.top.now) c.in_err-opened.field-0.0 (has_no_status _ (not_opened _ (c.in_err-opened.ensures.refused c.in_ok-round.ensures.round)))
    c.from_residual-in_err-opened.result c.from_residual-in_err-opened.ensures.1

pub returns-in_err-opened-clause-refused_held : goal.returns-in_err-opened-clause-refused_held
returns-in_err-opened-clause-refused_held g c = λ honest.
    by-fault (IsNoWhy (fixed (g.F.Folder.holds c.args.folder.now)) c.args.place.now.top.now) c.in_err-opened.field-0.0 (has_no_status _ (not_opened _ (c.in_err-opened.ensures.refused_held honest (c.in_ok-round.ensures.held honest))))
    c.from_residual-in_err-opened.result c.from_residual-in_err-opened.ensures.1

pub returns-in_err-core-clause-refused : goal.returns-in_err-core-clause-refused
returns-in_err-core-clause-refused g c =
    by-fault (IsNoWhy changing c.args.place.now.top.now) c.in_err-core.field-0.0 (has_no_status _ (refused-of-round changing c.args.place.now.top.now c.in_ok-opened.opened.plan c.in_ok-opened.opened.journal (c.in_ok-opened.ensures.opened c.in_ok-round.ensures.round) TellsOfNoRun _ c.in_err-core.ensures.refused))
    c.from_residual-in_err-core.result c.from_residual-in_err-core.ensures.1

pub returns-in_err-core-clause-refused_held : goal.returns-in_err-core-clause-refused_held
returns-in_err-core-clause-refused_held g c = λ honest.
    by-fault (IsNoWhy (fixed (g.F.Folder.holds c.args.folder.now)) c.args.place.now.top.now) c.in_err-core.field-0.0 (has_no_status _ (refused-of-round (fixed (g.F.Folder.holds c.args.folder.now)) c.args.place.now.top.now c.in_ok-opened.opened.plan c.in_ok-opened.opened.journal (c.in_ok-opened.ensures.held honest (c.in_ok-round.ensures.held honest)) TellsOfNoRun _ c.in_err-core.ensures.refused))
    c.from_residual-in_err-core.result c.from_residual-in_err-core.ensures.1

pub returns-clause-refused : goal.returns-clause-refused
returns-clause-refused g c =
    weaker (IsNoWhy changing c.args.place.now.top.now) c.answer_of.result c.answer_of.ensures.refused (λ fault is. has_no_status fault (no-memory changing c.args.place.now.top.now c.in_ok-opened.opened.plan c.in_ok-opened.opened.journal (c.in_ok-opened.ensures.opened c.in_ok-round.ensures.round) fault is))

pub returns-clause-refused_held : goal.returns-clause-refused_held
returns-clause-refused_held g c = λ honest.
    weaker (IsNoWhy (fixed (g.F.Folder.holds c.args.folder.now)) c.args.place.now.top.now) c.answer_of.result c.answer_of.ensures.refused (λ fault is. has_no_status fault (no-memory (fixed (g.F.Folder.holds c.args.folder.now)) c.args.place.now.top.now c.in_ok-opened.opened.plan c.in_ok-opened.opened.journal (c.in_ok-opened.ensures.held honest (c.in_ok-round.ensures.held honest)) fault is))

pub returns-clause-answered : goal.returns-clause-answered
returns-clause-answered g c =
    IfOk-weaker c.answer_of.result _ _ (λ answer is.
    of-records changing c.args.place.now.top.now c.in_ok-opened.opened.plan c.in_ok-opened.opened.journal (c.in_ok-opened.ensures.opened c.in_ok-round.ensures.round)
    c.in_ok-core.core c.in_ok-core.ensures.plan c.in_ok-core.ensures.records c.in_ok-core.ensures.lawful
    (λ (p : Plan) (j : Option (List ℕ)) (past : List Record). IsPageAnswer p past c.args.place.now.top.now c.args.wanted.now.version.now (is_some j) c.args.wanted.now.reloads (string_bytes answer.text) (string_bytes answer.warnings) answer.status)
    (subst (λ (b : Bool). IsPageAnswer c.in_ok-core.core.plan c.in_ok-core.core.past c.args.place.now.top.now c.args.wanted.now.version.now b c.args.wanted.now.reloads (string_bytes answer.text) (string_bytes answer.warnings) answer.status)
    c.is_there.ensures is)) c.answer_of.ensures.answered

pub returns-clause-held : goal.returns-clause-held
returns-clause-held g c = λ honest.
    IfOk-weaker c.answer_of.result _ _ (λ answer is.
    of-records (fixed (g.F.Folder.holds c.args.folder.now)) c.args.place.now.top.now c.in_ok-opened.opened.plan c.in_ok-opened.opened.journal (c.in_ok-opened.ensures.held honest (c.in_ok-round.ensures.held honest))
    c.in_ok-core.core c.in_ok-core.ensures.plan c.in_ok-core.ensures.records c.in_ok-core.ensures.lawful
    (λ (p : Plan) (j : Option (List ℕ)) (past : List Record). IsPageAnswer p past c.args.place.now.top.now c.args.wanted.now.version.now (is_some j) c.args.wanted.now.reloads (string_bytes answer.text) (string_bytes answer.warnings) answer.status)
    (subst (λ (b : Bool). IsPageAnswer c.in_ok-core.core.plan c.in_ok-core.core.past c.args.place.now.top.now c.args.wanted.now.version.now b c.args.wanted.now.reloads (string_bytes answer.text) (string_bytes answer.warnings) answer.status)
    c.is_there.ensures is)) c.answer_of.ensures.answered
