use Rattle.std.proofs.Common.{◌∙◌, ℕ, List, subst}
use Rattle.dag_main_check.specs.declared.fault.RunFault.TheVariants.{Memory}
use Rattle.dag_main_files.specs.Beside.{journal_name_of, IsRefusalOf, refusing_had_no_memory, IsRefusalHeld, refusing_unheld_had_no_memory}
use Rattle.dag_main_files.proofs.RunFaults.{by-fault}
use Rattle.dag_main_inspect.proofs.round.journal_of.Goals as goal

pub returns-in_err-path-clause-refused : goal.returns-in_err-path-clause-refused
returns-in_err-path-clause-refused g c =
    by-fault (IsRefusalOf (journal_name_of c.args.top.now)) Memory refusing_had_no_memory c.from_residual.result c.from_residual.ensures.1

pub returns-in_err-found-clause-refused : goal.returns-in_err-found-clause-refused
returns-in_err-found-clause-refused g c =
    by-fault (IsRefusalOf (journal_name_of c.args.top.now)) c.in_err-found.field-0.0
    (subst (λ (name : List ℕ). IsRefusalOf name c.in_err-found.field-0.0) (c.as_str.ensures ∙ c.in_ok-path.ensures) c.in_err-found.ensures.refused)
    c.from_residual-in_err-found.result c.from_residual-in_err-found.ensures.1

pub returns-in_err-again-clause-refused : goal.returns-in_err-again-clause-refused
returns-in_err-again-clause-refused g c =
    by-fault (IsRefusalOf (journal_name_of c.args.top.now)) c.in_err-again.field-0.0
    (subst (λ (name : List ℕ). IsRefusalOf name c.in_err-again.field-0.0) (c.as_str-in-loop.ensures ∙ c.in_ok-path.ensures) c.in_err-again.ensures.refused)
    c.from_residual-in_err-again.result c.from_residual-in_err-again.ensures.1

pub returns-in_err-path-clause-unheld : goal.returns-in_err-path-clause-unheld
returns-in_err-path-clause-unheld g c = λ honest.
    by-fault (IsRefusalHeld (g.F.Folder.holds c.args.folder.now) (journal_name_of c.args.top.now)) Memory refusing_unheld_had_no_memory
    c.from_residual.result c.from_residual.ensures.1

pub returns-in_err-found-clause-unheld : goal.returns-in_err-found-clause-unheld
returns-in_err-found-clause-unheld g c = λ honest.
    by-fault (IsRefusalHeld (g.F.Folder.holds c.args.folder.now) (journal_name_of c.args.top.now)) c.in_err-found.field-0.0
    (subst (λ (name : List ℕ). IsRefusalHeld (g.F.Folder.holds c.args.folder.now) name c.in_err-found.field-0.0) (c.as_str.ensures ∙ c.in_ok-path.ensures)
    (c.in_err-found.ensures.unheld honest))
    c.from_residual-in_err-found.result c.from_residual-in_err-found.ensures.1

pub returns-in_err-again-clause-unheld : goal.returns-in_err-again-clause-unheld
returns-in_err-again-clause-unheld g c = λ honest.
    by-fault (IsRefusalHeld (g.F.Folder.holds c.args.folder.now) (journal_name_of c.args.top.now)) c.in_err-again.field-0.0
    (subst (λ (name : List ℕ). IsRefusalHeld (g.F.Folder.holds c.args.folder.now) name c.in_err-again.field-0.0) (c.as_str-in-loop.ensures ∙ c.in_ok-path.ensures)
    (c.in_err-again.ensures.unheld honest))
    c.from_residual-in_err-again.result c.from_residual-in_err-again.ensures.1
