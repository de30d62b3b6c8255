use Rattle.std.proofs.Common.{◌≡◌, ◌∙◌, ◌∷◌, ◌++◌, [], ℕ, List, refl, ap, subst}
use Rattle.dag_main_files.specs.Beside.{journal_name_of, IsRefusalOf, refusing_had_no_memory}
use Rattle.std.specs.Prelude.{IfErr}
use Rattle.dag_main_files.specs.declared.changes.Change.TheVariants.{Renamed}
use Rattle.dag_main_files.specs.Changes.{puts_journal_away, journal_old_name_of, syncs_names}
use Rattle.dag_main_check.specs.declared.fault.RunFault.TheVariants.{Memory}
use Rattle.dag_main_files.proofs.RunFaults.{by-fault}
use Rattle.dag_main_files.proofs.Makes.{begun-none, makes-refused, makes-after, makes-all-or-none}
use Rattle.dag_main_files.proofs.beside.Place.put_journal_away.Goals as goal

pub returns-in_err-path-clause-refused : goal.returns-in_err-path-clause-refused
returns-in_err-path-clause-refused g c =
    by-fault (IsRefusalOf (journal_name_of c.args.self.now.top.now)) Memory refusing_had_no_memory c.from_residual.result c.from_residual.ensures.1

pub returns-in_err-path-clause-changes : goal.returns-in_err-path-clause-changes
returns-in_err-path-clause-changes g c = makes-refused _ c.from_residual.result c.from_residual.ensures.1 (puts_journal_away c.args.self.now.top.now) c.args.changes.now c.args.changes.now (begun-none _ c.args.changes.now c.args.changes.now refl)

pub returns-in_err-old-clause-refused : goal.returns-in_err-old-clause-refused
returns-in_err-old-clause-refused g c =
    by-fault (IsRefusalOf (journal_name_of c.args.self.now.top.now)) Memory refusing_had_no_memory c.from_residual-in_err-old.result c.from_residual-in_err-old.ensures.1

pub returns-in_err-old-clause-changes : goal.returns-in_err-old-clause-changes
returns-in_err-old-clause-changes g c =
    makes-refused _ c.from_residual-in_err-old.result c.from_residual-in_err-old.ensures.1 (puts_journal_away c.args.self.now.top.now) c.args.changes.now c.args.changes.now (begun-none _ c.args.changes.now c.args.changes.now refl)

pub returns-in_err-rename-clause-changes : goal.returns-in_err-rename-clause-changes
returns-in_err-rename-clause-changes g c =
    makes-refused _ c.from_residual-in_err-rename.result c.from_residual-in_err-rename.ensures.1 (puts_journal_away c.args.self.now.top.now) _ _
    (begun-none _ _ _ c.in_err-rename.ensures.no_change)

pub returns-clause-changes : goal.returns-clause-changes
returns-clause-changes g c =
    let top = c.args.self.now.top.now in
    let before = c.args.changes.now in
    let renamed : c.rename.new.changes ≡ before ++ (journal_name_of top, Renamed (journal_old_name_of top)) ∷ [] =
    c.in_ok-rename.ensures.changes ∙ ap (λ (p : List ℕ). before ++ (p, Renamed c.in_ok-old.old) ∷ []) c.in_ok-path.ensures
    ∙ ap (λ (o : List ℕ). before ++ (journal_name_of top, Renamed o) ∷ []) c.in_ok-old.ensures in
    makes-after c.sync_names.result ((journal_name_of top, Renamed (journal_old_name_of top)) ∷ []) (syncs_names top) before c.rename.new.changes c.sync_names.new.changes renamed
    (makes-all-or-none c.sync_names.result (syncs_names top) c.rename.new.changes c.sync_names.new.changes c.sync_names.ensures.changes c.sync_names.ensures.no_change)

pub returns-clause-refused : goal.returns-clause-refused
returns-clause-refused g c =
    subst (λ (p : List ℕ). IfErr c.sync_names.result (IsRefusalOf p)) (c.as_str.ensures ∙ c.in_ok-path.ensures) c.sync_names.ensures.refused
