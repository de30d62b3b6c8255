use Rattle.std.proofs.Common.{◌≡◌, ◌∙◌, ◌++◌, ℕ, List, IfOk, IfErr, subst}
use Rattle.std.specs.Option.{option_map}
use Rattle.dag_main_files.specs.Beside.{IsRefusalOf, refusing_had_no_memory, IsRefusalHeld, refusing_unheld_had_no_memory}
use Rattle.dag_main_check.specs.declared.fault.RunFault.TheVariants.{Memory}
use Rattle.dag_main_files.proofs.RunFaults.{by-fault}
use Rattle.run_times.proofs.here.file_beside.Goals as goal

pub returns-in_err-path-clause-refused : goal.returns-in_err-path-clause-refused
returns-in_err-path-clause-refused g c = by-fault (IsRefusalOf (c.args.top.now ++ c.args.ending.now)) Memory refusing_had_no_memory c.from_residual.result c.from_residual.ensures.1

pub returns-in_err-path-clause-unheld : goal.returns-in_err-path-clause-unheld
returns-in_err-path-clause-unheld g c = λ honest.
    by-fault (IsRefusalHeld (g.F.Folder.holds c.args.folder.now) (c.args.top.now ++ c.args.ending.now)) Memory refusing_unheld_had_no_memory c.from_residual.result c.from_residual.ensures.1

pub returns-clause-held : goal.returns-clause-held
returns-clause-held g c = λ honest.
    subst (λ (name : List ℕ). IfOk c.beside.result (λ bytes. option_map (λ b. b.items) bytes ≡ g.F.Folder.holds c.args.folder.now name)) (c.as_str.ensures ∙ c.in_ok-path.ensures)
    (c.beside.ensures.bytes honest)

pub returns-clause-refused : goal.returns-clause-refused
returns-clause-refused g c = subst (λ (name : List ℕ). IfErr c.beside.result (IsRefusalOf name)) (c.as_str.ensures ∙ c.in_ok-path.ensures) c.beside.ensures.named

pub returns-clause-unheld : goal.returns-clause-unheld
returns-clause-unheld g c = λ honest.
    subst (λ (name : List ℕ). IfErr c.beside.result (IsRefusalHeld (g.F.Folder.holds c.args.folder.now) name)) (c.as_str.ensures ∙ c.in_ok-path.ensures) (c.beside.ensures.unheld honest)
