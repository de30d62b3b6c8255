use Rattle.std.proofs.Common.{◌∙◌, ℕ, List, ap, sym, subst}
use Rattle.std.specs.Option.{option_map}
use Rattle.dag_main_files.specs.Beside.{IsRefusalOf, path_refused, refusing_had_no_memory, IsRefusalHeld, unheld_refused, refusing_unheld_had_no_memory}
use Rattle.dag_main_check.specs.declared.fault.RunFault.TheVariants.{Memory}
use Rattle.dag_main_files.proofs.RunFaults.{by-fault}
use Rattle.run_times.specs.Answered.{log_name_of}
use Rattle.run_times.proofs.here.log_of.Goals as goal

pub returns-in_err-path-clause-refused : goal.returns-in_err-path-clause-refused
returns-in_err-path-clause-refused g c = by-fault (IsRefusalOf (log_name_of c.args.top.now)) Memory refusing_had_no_memory c.from_residual.result c.from_residual.ensures.1

pub returns-in_err-from_str-clause-refused : goal.returns-in_err-from_str-clause-refused
returns-in_err-from_str-clause-refused g c = by-fault (IsRefusalOf (log_name_of c.args.top.now)) Memory refusing_had_no_memory c.from_residual-in_err-from_str.result c.from_residual-in_err-from_str.ensures.1

pub returns-clause-refused : goal.returns-clause-refused
returns-clause-refused g c = path_refused c.in_ok-from_str.field-0 (c.in_ok-from_str.ensures.ok ∙ c.as_str-2.ensures ∙ c.in_ok-path.ensures)

pub returns-in-Some-clause-held : goal.returns-in-Some-clause-held
returns-in-Some-clause-held g c = λ honest.
    ap (g.F.Folder.holds c.args.folder.now) (sym (c.as_str.ensures ∙ c.in_ok-path.ensures)) ∙ sym (c.in_ok-log.ensures.bytes honest)
    ∙ ap (option_map (λ b. b.items)) c.in-Some.is

pub returns-in_err-path-clause-unheld : goal.returns-in_err-path-clause-unheld
returns-in_err-path-clause-unheld g c = λ honest.
    by-fault (IsRefusalHeld (g.F.Folder.holds c.args.folder.now) (log_name_of c.args.top.now)) Memory refusing_unheld_had_no_memory
    c.from_residual.result c.from_residual.ensures.1

pub returns-in_err-log-clause-unheld : goal.returns-in_err-log-clause-unheld
returns-in_err-log-clause-unheld g c = λ honest.
    by-fault (IsRefusalHeld (g.F.Folder.holds c.args.folder.now) (log_name_of c.args.top.now)) c.in_err-log.field-0.0
    (subst (λ (name : List ℕ). IsRefusalHeld (g.F.Folder.holds c.args.folder.now) name c.in_err-log.field-0.0) (c.as_str.ensures ∙ c.in_ok-path.ensures)
    (c.in_err-log.ensures.unheld honest))
    c.from_residual-in_err-log.result c.from_residual-in_err-log.ensures.1

pub returns-in_err-from_str-clause-unheld : goal.returns-in_err-from_str-clause-unheld
returns-in_err-from_str-clause-unheld g c = λ honest.
    by-fault (IsRefusalHeld (g.F.Folder.holds c.args.folder.now) (log_name_of c.args.top.now)) Memory refusing_unheld_had_no_memory
    c.from_residual-in_err-from_str.result c.from_residual-in_err-from_str.ensures.1

pub returns-clause-unheld : goal.returns-clause-unheld
returns-clause-unheld g c = λ honest. unheld_refused c.in_ok-from_str.field-0 (c.in_ok-from_str.ensures.ok ∙ c.as_str-2.ensures ∙ c.in_ok-path.ensures)
    (ap (g.F.Folder.holds c.args.folder.now) (sym (c.as_str.ensures ∙ c.in_ok-path.ensures)) ∙ sym (c.in_ok-log.ensures.bytes honest)
    ∙ ap (option_map (λ b. b.items)) c.in_default.is)
