use Rattle.std.proofs.Common.{◌≡◌, ℕ, List, Option, IfErr, sym, subst}
use Rattle.run_plan.specs.Plan.{Plan}
use Rattle.dag_main_check.proofs.Refusals.{weaker}
use Rattle.dag_main_check.specs.declared.fault.RunFault.{RunFault}
use Rattle.dag_main_check.specs.declared.fault.RunFault.TheVariants.{Memory}
use Rattle.dag_main_files.specs.Opened.{changing, fixed}
use Rattle.dag_main_files.proofs.RunFaults.{by-fault}
use Rattle.dag_main_inspect.specs.LastRound.{IsRefusedOfLastRound, not_opened}
use Rattle.dag_main_inspect.specs.Asked.{IsNotAnswered, TellsOfNoRun}
use Rattle.dag_main_inspect.specs.declared.by_journal.Question.{Question}
use Rattle.dag_main_inspect.proofs.Rounds.{refused-of-round}
use Rattle.dag_main_inspect.proofs.by_journal.answer_here.Goals as goal

-- what an audit is refused for
abbrev AuditRefused : Plan → Option (List ℕ) → RunFault → Type 0
AuditRefused plan journal fault = fault ≡ Memory

pub returns-in_err-round-in-Status-clause-refused : goal.returns-in_err-round-in-Status-clause-refused
returns-in_err-round-in-Status-clause-refused g c =
    subst (λ (q : Question). IfErr c.from_residual.result (IsNotAnswered changing q c.args.top.now)) (sym c.in-Status.is)
    (by-fault (IsRefusedOfLastRound changing c.args.top.now TellsOfNoRun) c.in_err-round-in-Status.field-0.0 (not_opened _ c.in_err-round-in-Status.ensures.refused) c.from_residual.result c.from_residual.ensures.1)

pub returns-in_ok-round-in-Status-clause-refused : goal.returns-in_ok-round-in-Status-clause-refused
returns-in_ok-round-in-Status-clause-refused g c =
    subst (λ (q : Question). IfErr c.status_in.result (IsNotAnswered changing q c.args.top.now)) (sym c.in-Status.is)
    (weaker (IsRefusedOfLastRound changing c.args.top.now TellsOfNoRun) c.status_in.result c.status_in.ensures.refused
    (refused-of-round changing c.args.top.now c.in_ok-round-in-Status.round.plan c.in_ok-round-in-Status.round.journal c.in_ok-round-in-Status.ensures.opened TellsOfNoRun))

pub returns-in_err-round-in-Status-clause-refused_held : goal.returns-in_err-round-in-Status-clause-refused_held
returns-in_err-round-in-Status-clause-refused_held g c = λ honest.
    subst (λ (q : Question). IfErr c.from_residual.result (IsNotAnswered (fixed (g.F.Folder.holds c.args.folder.now)) q c.args.top.now)) (sym c.in-Status.is)
    (by-fault (IsRefusedOfLastRound (fixed (g.F.Folder.holds c.args.folder.now)) c.args.top.now TellsOfNoRun) c.in_err-round-in-Status.field-0.0 (not_opened _ (c.in_err-round-in-Status.ensures.refused_held honest)) c.from_residual.result c.from_residual.ensures.1)

pub returns-in_ok-round-in-Status-clause-refused_held : goal.returns-in_ok-round-in-Status-clause-refused_held
returns-in_ok-round-in-Status-clause-refused_held g c = λ honest.
    subst (λ (q : Question). IfErr c.status_in.result (IsNotAnswered (fixed (g.F.Folder.holds c.args.folder.now)) q c.args.top.now)) (sym c.in-Status.is)
    (weaker (IsRefusedOfLastRound (fixed (g.F.Folder.holds c.args.folder.now)) c.args.top.now TellsOfNoRun) c.status_in.result c.status_in.ensures.refused
    (refused-of-round (fixed (g.F.Folder.holds c.args.folder.now)) c.args.top.now c.in_ok-round-in-Status.round.plan c.in_ok-round-in-Status.round.journal (c.in_ok-round-in-Status.ensures.held honest) TellsOfNoRun))

pub returns-in_err-round-in-Audit-clause-refused : goal.returns-in_err-round-in-Audit-clause-refused
returns-in_err-round-in-Audit-clause-refused g c =
    subst (λ (q : Question). IfErr c.from_residual-in_err-round-in-Audit.result (IsNotAnswered changing q c.args.top.now)) (sym c.in-Audit.is)
    (by-fault (IsRefusedOfLastRound changing c.args.top.now AuditRefused) c.in_err-round-in-Audit.field-0.0 (not_opened _ c.in_err-round-in-Audit.ensures.refused) c.from_residual-in_err-round-in-Audit.result c.from_residual-in_err-round-in-Audit.ensures.1)

pub returns-in_ok-round-in-Audit-clause-refused : goal.returns-in_ok-round-in-Audit-clause-refused
returns-in_ok-round-in-Audit-clause-refused g c =
    subst (λ (q : Question). IfErr c.audit_in.result (IsNotAnswered changing q c.args.top.now)) (sym c.in-Audit.is)
    (weaker (IsRefusedOfLastRound changing c.args.top.now AuditRefused) c.audit_in.result c.audit_in.ensures.err
    (refused-of-round changing c.args.top.now c.in_ok-round-in-Audit.round.plan c.in_ok-round-in-Audit.round.journal c.in_ok-round-in-Audit.ensures.opened AuditRefused))

pub returns-in_err-round-in-Audit-clause-refused_held : goal.returns-in_err-round-in-Audit-clause-refused_held
returns-in_err-round-in-Audit-clause-refused_held g c = λ honest.
    subst (λ (q : Question). IfErr c.from_residual-in_err-round-in-Audit.result (IsNotAnswered (fixed (g.F.Folder.holds c.args.folder.now)) q c.args.top.now)) (sym c.in-Audit.is)
    (by-fault (IsRefusedOfLastRound (fixed (g.F.Folder.holds c.args.folder.now)) c.args.top.now AuditRefused) c.in_err-round-in-Audit.field-0.0 (not_opened _ (c.in_err-round-in-Audit.ensures.refused_held honest)) c.from_residual-in_err-round-in-Audit.result c.from_residual-in_err-round-in-Audit.ensures.1)

pub returns-in_ok-round-in-Audit-clause-refused_held : goal.returns-in_ok-round-in-Audit-clause-refused_held
returns-in_ok-round-in-Audit-clause-refused_held g c = λ honest.
    subst (λ (q : Question). IfErr c.audit_in.result (IsNotAnswered (fixed (g.F.Folder.holds c.args.folder.now)) q c.args.top.now)) (sym c.in-Audit.is)
    (weaker (IsRefusedOfLastRound (fixed (g.F.Folder.holds c.args.folder.now)) c.args.top.now AuditRefused) c.audit_in.result c.audit_in.ensures.err
    (refused-of-round (fixed (g.F.Folder.holds c.args.folder.now)) c.args.top.now c.in_ok-round-in-Audit.round.plan c.in_ok-round-in-Audit.round.journal (c.in_ok-round-in-Audit.ensures.held honest) AuditRefused))
