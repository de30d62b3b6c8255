use Rattle.std.proofs.Common.{◌∙◌, inl, List, ℕ, Some, ap, sym, subst}
use Rattle.std.specs.Option.{option_map}
use Rattle.dag_main_check.specs.declared.fault.RunFault.TheVariants.{Memory}
use Rattle.dag_main_files.specs.Beside.{IsRefusalOf, refusing_had_no_memory, IsRefusalHeld, refusing_unheld_had_no_memory}
use Rattle.salvage.specs.declared.fault.SalvageFault.TheVariants.{Refused, NoJournal}
use Rattle.salvage.specs.Refused.{IsNoRound, IsNotLeft, has_no_journal, journal_refused, not_left}
use Rattle.salvage.specs.Sight.{held_files_if}
use Rattle.salvage.proofs.Results.{if-ok}
use Rattle.salvage.proofs.Refusals.{told-as, weaker-as}
use Rattle.salvage.proofs.rounds.round_left.Goals as goal

pub returns-in_err-name-clause-refused : goal.returns-in_err-name-clause-refused
returns-in_err-name-clause-refused g c =
    told-as (IsNoRound c.args.too (held_files_if (g.F.Folder.honest c.args.folder.now) (g.F.Folder.holds c.args.folder.now) (g.F.Folder.has c.args.folder.now) c.args.top.now) c.args.top.now) (Refused Memory) (journal_refused _ (refusing_had_no_memory, λ honest. refusing_unheld_had_no_memory)) c.from_residual.result c.from_residual.ensures.1

pub returns-in_err-journal-clause-refused : goal.returns-in_err-journal-clause-refused
returns-in_err-journal-clause-refused g c =
    told-as (IsNoRound c.args.too (held_files_if (g.F.Folder.honest c.args.folder.now) (g.F.Folder.holds c.args.folder.now) (g.F.Folder.has c.args.folder.now) c.args.top.now) c.args.top.now) (Refused c.in_err-journal.field-0.0) (journal_refused _ (
      subst (λ (p : List ℕ). IsRefusalOf p c.in_err-journal.field-0.0) (c.as_str.ensures ∙ c.in_ok-name.ensures) c.in_err-journal.ensures.named,
      λ honest. subst (λ (p : List ℕ). IsRefusalHeld (g.F.Folder.holds c.args.folder.now) p c.in_err-journal.field-0.0) (c.as_str.ensures ∙ c.in_ok-name.ensures)
          (c.in_err-journal.ensures.unheld honest),
    ))
    c.from_residual-in_err-journal.result c.from_residual-in_err-journal.ensures.1

pub returns-in-Some-clause-refused : goal.returns-in-Some-clause-refused
returns-in-Some-clause-refused g c =
    weaker-as (IsNoRound c.args.too (held_files_if (g.F.Folder.honest c.args.folder.now) (g.F.Folder.holds c.args.folder.now) (g.F.Folder.has c.args.folder.now) c.args.top.now) c.args.top.now) c.round_in.result c.round_in.ensures.refused
    (λ fault is. not_left c.in-Some.journal.items fault
    (λ honest. ap (g.F.Folder.holds c.args.folder.now) (sym (c.as_str.ensures ∙ c.in_ok-name.ensures)) ∙ sym (c.in_ok-journal.ensures.bytes honest)
    ∙ ap (option_map (λ b. b.items)) c.in-Some.is)
    (subst (λ (n : List ℕ). IsNotLeft c.args.too n c.in-Some.journal.items fault) c.in_ok-name.ensures is))

pub returns-in-None-clause-refused : goal.returns-in-None-clause-refused
returns-in-None-clause-refused g c =
    subst (λ (n : List ℕ). IsNoRound c.args.too (held_files_if (g.F.Folder.honest c.args.folder.now) (g.F.Folder.holds c.args.folder.now) (g.F.Folder.has c.args.folder.now) c.args.top.now) c.args.top.now (NoJournal n)) (sym c.in_ok-name.ensures)
    (has_no_journal (λ honest. inl (ap (g.F.Folder.holds c.args.folder.now) (sym (c.as_str.ensures ∙ c.in_ok-name.ensures)) ∙ sym (c.in_ok-journal.ensures.bytes honest)
    ∙ ap (option_map (λ b. b.items)) c.in-None.is)))

pub returns-in-Some-clause-held : goal.returns-in-Some-clause-held
returns-in-Some-clause-held g c = λ honest.
    if-ok _ _ c.round_in.result c.round_in.ensures.kept
    (λ round kept. ap (g.F.Folder.holds c.args.folder.now) (sym (c.as_str.ensures ∙ c.in_ok-name.ensures)) ∙ sym (c.in_ok-journal.ensures.bytes honest)
    ∙ ap (option_map (λ b. b.items)) c.in-Some.is ∙ ap Some (sym kept))
