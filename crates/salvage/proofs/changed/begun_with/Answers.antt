use Rattle.std.proofs.Common.{◌∙◌, ℕ, List, Some, ap, sym, subst}
use Rattle.std.specs.Option.{option_map}
use Rattle.dag_main_check.specs.declared.fault.RunFault.TheVariants.{Memory}
use Rattle.dag_main_files.specs.Beside.{IsRefusalOf, refusing_had_no_memory, IsRefusalHeld, refusing_unheld_had_no_memory}
use Rattle.dag_main_files.proofs.RunFaults.{by-fault}
use Rattle.round_inputs.specs.Begun.{begun_name_of}
use Rattle.salvage.proofs.changed.begun_with.Goals as goal

pub returns-in_err-name-clause-refused : goal.returns-in_err-name-clause-refused
returns-in_err-name-clause-refused g c = by-fault (IsRefusalOf (begun_name_of c.args.top.now)) Memory refusing_had_no_memory c.from_residual.result c.from_residual.ensures.1

pub returns-in_err-bytes-clause-refused : goal.returns-in_err-bytes-clause-refused
returns-in_err-bytes-clause-refused g c =
    by-fault (IsRefusalOf (begun_name_of c.args.top.now)) c.in_err-bytes.field-0.0
    (subst (λ (p : List ℕ). IsRefusalOf p c.in_err-bytes.field-0.0) (c.as_str.ensures ∙ c.in_ok-name.ensures) c.in_err-bytes.ensures.named) c.from_residual-in_err-bytes.result c.from_residual-in_err-bytes.ensures.1

pub returns-in_err-name-clause-unheld : goal.returns-in_err-name-clause-unheld
returns-in_err-name-clause-unheld g c = λ honest.
    by-fault (IsRefusalHeld (g.F.Folder.holds c.args.folder.now) (begun_name_of c.args.top.now)) Memory refusing_unheld_had_no_memory c.from_residual.result
    c.from_residual.ensures.1

pub returns-in_err-bytes-clause-unheld : goal.returns-in_err-bytes-clause-unheld
returns-in_err-bytes-clause-unheld g c = λ honest.
    by-fault (IsRefusalHeld (g.F.Folder.holds c.args.folder.now) (begun_name_of c.args.top.now)) c.in_err-bytes.field-0.0
    (subst (λ (p : List ℕ). IsRefusalHeld (g.F.Folder.holds c.args.folder.now) p c.in_err-bytes.field-0.0) (c.as_str.ensures ∙ c.in_ok-name.ensures)
    (c.in_err-bytes.ensures.unheld honest)) c.from_residual-in_err-bytes.result c.from_residual-in_err-bytes.ensures.1

pub returns-in-Err-Memory-clause-unheld : goal.returns-in-Err-Memory-clause-unheld
returns-in-Err-Memory-clause-unheld g c = λ honest. refusing_unheld_had_no_memory

pub returns-in-Err-Memory-clause-refused : goal.returns-in-Err-Memory-clause-refused
returns-in-Err-Memory-clause-refused g c = refusing_had_no_memory

pub returns-clause-held : goal.returns-clause-held
returns-clause-held g c = λ honest.
    ap (g.F.Folder.holds c.args.folder.now) (sym (c.as_str.ensures ∙ c.in_ok-name.ensures)) ∙ sym (c.in_ok-bytes.ensures.bytes honest)
    ∙ ap (option_map (λ b. b.items)) c.in-Some.is ∙ ap Some (sym (c.in-Ok.ensures ∙ c.as_slice.ensures.value))
