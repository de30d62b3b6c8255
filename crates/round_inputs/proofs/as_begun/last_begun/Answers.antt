use Rattle.std.proofs.Common.{◌≡◌, ◌∙◌, Some, ℕ, List, refl, ap, sym, subst}
use Rattle.std.specs.Option.{option_map}
use Rattle.std.specs.Prelude.{IfSome, IfNone}
use Rattle.dag_main_check.specs.declared.fault.RunFault.TheVariants.{Memory}
use Rattle.round_inputs.specs.AsBegun.{HasNoHeader, IsFileOf, no_journal, no_file, journal_refused, begun_refused}
use Rattle.round_inputs.proofs.Kept.{file-refusal, unknown-memory, unbegun-memory, unknown-bytes, unbegun-bytes}
use Rattle.round_inputs.proofs.as_begun.last_begun.Goals as goal

pub returns-in_err-path-clause-not_held : goal.returns-in_err-path-clause-not_held
returns-in_err-path-clause-not_held g c = λ honest. unknown-memory (g.F.Folder.holds c.args.folder.now) c.args.top.now Memory refl c.from_residual.result c.from_residual.ensures.1

pub returns-in_err-path-clause-refused : goal.returns-in_err-path-clause-refused
returns-in_err-path-clause-refused g c = unbegun-memory c.args.top.now Memory refl c.from_residual.result c.from_residual.ensures.1

pub returns-in_err-journal-clause-not_held : goal.returns-in_err-journal-clause-not_held
returns-in_err-journal-clause-not_held g c = λ honest. unknown-memory (g.F.Folder.holds c.args.folder.now) c.args.top.now c.in_err-journal.field-0.0 c.in_err-journal.ensures.refused c.from_residual-in_err-journal.result c.from_residual-in_err-journal.ensures.1

pub returns-in_err-journal-clause-refused : goal.returns-in_err-journal-clause-refused
returns-in_err-journal-clause-refused g c = unbegun-memory c.args.top.now c.in_err-journal.field-0.0 c.in_err-journal.ensures.refused c.from_residual-in_err-journal.result c.from_residual-in_err-journal.ensures.1

pub returns-in_err-refused-clause-not_held : goal.returns-in_err-refused-clause-not_held
returns-in_err-refused-clause-not_held g c = λ honest. unknown-memory (g.F.Folder.holds c.args.folder.now) c.args.top.now Memory refl c.from_residual-in_err-refused.result c.from_residual-in_err-refused.ensures.1

pub returns-in_err-refused-clause-refused : goal.returns-in_err-refused-clause-refused
returns-in_err-refused-clause-refused g c = unbegun-memory c.args.top.now Memory refl c.from_residual-in_err-refused.result c.from_residual-in_err-refused.ensures.1

pub returns-in_err-path-2-clause-not_held : goal.returns-in_err-path-2-clause-not_held
returns-in_err-path-2-clause-not_held g c = λ honest. unknown-memory (g.F.Folder.holds c.args.folder.now) c.args.top.now Memory refl c.from_residual-in_err-path-2.result c.from_residual-in_err-path-2.ensures.1

pub returns-in_err-path-2-clause-refused : goal.returns-in_err-path-2-clause-refused
returns-in_err-path-2-clause-refused g c = unbegun-memory c.args.top.now Memory refl c.from_residual-in_err-path-2.result c.from_residual-in_err-path-2.ensures.1

pub returns-in_err-bytes-clause-not_held : goal.returns-in_err-bytes-clause-not_held
returns-in_err-bytes-clause-not_held g c = λ honest. unknown-memory (g.F.Folder.holds c.args.folder.now) c.args.top.now c.in_err-bytes.field-0.0 c.in_err-bytes.ensures.refused c.from_residual-in_err-bytes.result c.from_residual-in_err-bytes.ensures.1

pub returns-in_err-bytes-clause-refused : goal.returns-in_err-bytes-clause-refused
returns-in_err-bytes-clause-refused g c = unbegun-memory c.args.top.now c.in_err-bytes.field-0.0 c.in_err-bytes.ensures.refused c.from_residual-in_err-bytes.result c.from_residual-in_err-bytes.ensures.1

pub returns-in_err-refused-2-clause-not_held : goal.returns-in_err-refused-2-clause-not_held
returns-in_err-refused-2-clause-not_held g c = λ honest. unknown-memory (g.F.Folder.holds c.args.folder.now) c.args.top.now Memory refl c.from_residual-in_err-refused-2.result c.from_residual-in_err-refused-2.ensures.1

pub returns-in_err-refused-2-clause-refused : goal.returns-in_err-refused-2-clause-refused
returns-in_err-refused-2-clause-refused g c = unbegun-memory c.args.top.now Memory refl c.from_residual-in_err-refused-2.result c.from_residual-in_err-refused-2.ensures.1

pub returns-in_default-clause-not_held : goal.returns-in_default-clause-not_held
returns-in_default-clause-not_held g c = λ honest. no_journal _ (subst (λ (name : List ℕ). IsFileOf name c.in_ok-refused.field-0) c.in_ok-path.ensures c.in_ok-refused.ensures)
    (subst (λ (name : List ℕ). HasNoHeader (g.F.Folder.holds c.args.folder.now name)) c.in_ok-path.ensures
    (subst (λ found. IfNone found (HasNoHeader (g.F.Folder.holds c.args.folder.now c.in_ok-path.path))) c.in_default.is (c.in_ok-journal.ensures.none honest)))

pub returns-in_default-clause-refused : goal.returns-in_default-clause-refused
returns-in_default-clause-refused g c =
    journal_refused _ (file-refusal _ _ (subst (λ (name : List ℕ). IsFileOf name c.in_ok-refused.field-0) c.in_ok-path.ensures c.in_ok-refused.ensures))

pub returns-in_default-2-clause-not_held : goal.returns-in_default-2-clause-not_held
returns-in_default-2-clause-not_held g c = λ honest.
    no_file _ (subst (λ (name : List ℕ). IsFileOf name c.in_ok-refused-2.field-0) c.in_ok-path-2.ensures c.in_ok-refused-2.ensures)
    (ap (g.F.Folder.holds c.args.folder.now) (sym c.in_ok-path-2.ensures) ∙ sym (c.in_ok-bytes.ensures.held honest) ∙ ap (option_map (λ b. b.items)) c.in_default-2.is)

pub returns-in_default-2-clause-refused : goal.returns-in_default-2-clause-refused
returns-in_default-2-clause-refused g c =
    begun_refused _ (file-refusal _ _ (subst (λ (name : List ℕ). IsFileOf name c.in_ok-refused-2.field-0) c.in_ok-path-2.ensures c.in_ok-refused-2.ensures))

pub returns-clause-not_held : goal.returns-clause-not_held
returns-clause-not_held g c = λ honest.
    unknown-bytes (g.F.Folder.holds c.args.folder.now) c.args.top.now c.in_ok-path-2.path c.deref.result.now c.deref-2.result.now c.in_ok-path-2.ensures
    (ap (g.F.Folder.holds c.args.folder.now) (sym c.in_ok-path.ensures)
    ∙ subst (λ found. IfSome found (λ journal. g.F.Folder.holds c.args.folder.now c.in_ok-path.path ≡ Some journal.items)) c.in-Some.is (c.in_ok-journal.ensures.held honest)
    ∙ ap Some (sym c.deref.ensures.value))
    (sym (c.in_ok-bytes.ensures.held honest) ∙ ap (option_map (λ b. b.items)) c.in-Some-2.is ∙ ap Some (sym c.deref-2.ensures.value))
    c.begun_of.result c.begun_of.ensures.not

pub returns-clause-refused : goal.returns-clause-refused
returns-clause-refused g c = unbegun-bytes c.args.top.now c.in_ok-path-2.path c.deref.result.now c.deref-2.result.now c.in_ok-path-2.ensures c.begun_of.result c.begun_of.ensures.not
