use Rattle.std.proofs.Common.{◌≡◌, ◌≤◌, ℕ, List, Option, Some, None, length, sym, subst, ◌∙◌}
use Rattle.std.specs.Prelude.{slice_range}
use Rattle.event_journal_log.specs.declared.decoded.Peek.{Peek}
use Rattle.event_journal_log.specs.Image.{replay_of}
use Rattle.event_journal_log.specs.Peeks.{ReadsPeek}
use Rattle.salvage.specs.declared.fault.SalvageFault.TheVariants.{Refused}
use Rattle.dag_main_files.specs.Journals.{IsUnread}
use Rattle.salvage.specs.Refused.{IsNotLeft, not_begun, not_read}
use Rattle.salvage.proofs.RoundLeft.{round-left}
use Rattle.salvage.proofs.Refusals.{told-as, over, bad-number}
use Rattle.salvage.proofs.rounds.round_in.Goals as goal

pub returns-in_err-peek-clause-refused : goal.returns-in_err-peek-clause-refused
returns-in_err-peek-clause-refused c =
    told-as (IsNotLeft c.args.too c.args.name c.args.journal.items) (Refused c.in_err-peek.field-0.0)
    (not_read _ (subst (λ (b : List ℕ). IsUnread b c.in_err-peek.field-0.0) c.as_slice.ensures.value c.in_err-peek.ensures.refused))
    c.from_residual.result c.from_residual.ensures.1

pub returns-in_default-clause-refused : goal.returns-in_default-clause-refused
returns-in_default-clause-refused c =
    not_begun (subst (λ (b : List ℕ). ReadsPeek None (replay_of b)) c.as_slice.ensures.value
    (subst (λ (o : Option Peek). ReadsPeek o (replay_of c.as_slice.result.now)) c.in_default.is c.in_ok-peek.ensures.peek))

pub returns-then-is_passed_over-clause-refused : goal.returns-then-is_passed_over-clause-refused
returns-then-is_passed_over-clause-refused c =
    over c.args.too c.args.name c.args.journal.items c.in-Some.peek
    (subst (λ (b : List ℕ). ReadsPeek (Some c.in-Some.peek) (replay_of b)) c.as_slice.ensures.value
    (subst (λ (o : Option Peek). ReadsPeek o (replay_of c.as_slice.result.now)) c.in-Some.is c.in_ok-peek.ensures.peek))
    (sym c.is_passed_over.ensures ∙ c.if-is_passed_over.true)

pub returns-in_err-used-clause-refused : goal.returns-in_err-used-clause-refused
returns-in_err-used-clause-refused c =
    told-as (IsNotLeft c.args.too c.args.name c.args.journal.items) (Refused c.in_err-used.field-0.0)
    (bad-number c.args.too c.args.name c.args.journal.items c.in-Some.peek c.in_err-used.field-0.0
    (subst (λ (b : List ℕ). ReadsPeek (Some c.in-Some.peek) (replay_of b)) c.as_slice.ensures.value
    (subst (λ (o : Option Peek). ReadsPeek o (replay_of c.as_slice.result.now)) c.in-Some.is c.in_ok-peek.ensures.peek))
    (sym c.is_passed_over.ensures ∙ c.if-is_passed_over.false) c.in_err-used.ensures.refused)
    c.from_residual-in_err-used.result c.from_residual-in_err-used.ensures.1

pub returns-clause-left : goal.returns-clause-left
returns-clause-left c =
    round-left c.args.too c.args.journal.items c.digest_in.result c.in-Some.peek c.in_ok-used.used c.in_ok-used.next
    (subst (λ (b : List ℕ). ReadsPeek (Some c.in-Some.peek) (replay_of b)) c.as_slice.ensures.value
    (subst (λ (o : Option Peek). ReadsPeek o (replay_of c.as_slice.result.now)) c.in-Some.is c.in_ok-peek.ensures.peek))
    (sym c.is_passed_over.ensures ∙ c.if-is_passed_over.false)
    (subst (λ (b : List ℕ). 40 ≤ length b → c.digest_in.result ≡ slice_range b 8 40) c.as_slice-2.ensures.value c.digest_in.ensures)
    c.in_ok-used.ensures.numbers.2 c.in_ok-used.ensures.numbers.3 c.in_ok-used.ensures.numbers.0 c.in_ok-used.ensures.numbers.1
