use Rattle.std.proofs.Common.{◌∙◌}
use Rattle.dag_main_check.specs.declared.fault.RunFault.TheVariants.{Memory}
use Rattle.dag_main_files.specs.Beside.{IsRefusalOf, path_refused, refusing_had_no_memory}
use Rattle.dag_main_files.proofs.RunFaults.{by-fault}
use Rattle.salvage.specs.Refused.{old_journal_name_of}
use Rattle.salvage.proofs.here.has_no_folder.Goals as goal

pub returns-in_err-old : goal.returns-in_err-old
returns-in_err-old g c =
    by-fault (IsRefusalOf (old_journal_name_of c.args.place.now.top.now)) Memory refusing_had_no_memory c.from_residual.result c.from_residual.ensures.1

pub returns-in_err-at : goal.returns-in_err-at
returns-in_err-at g c =
    by-fault (IsRefusalOf (old_journal_name_of c.args.place.now.top.now)) Memory refusing_had_no_memory c.from_residual-in_err-at.result c.from_residual-in_err-at.ensures.1

pub returns-in-Ok-from_str : goal.returns-in-Ok-from_str
returns-in-Ok-from_str g c = path_refused c.in-Ok-from_str.old (c.in-Ok-from_str.ensures.ok ∙ c.as_str-in-Ok.ensures ∙ c.in_ok-old.ensures)

pub returns-in-Ok : goal.returns-in-Ok
returns-in-Ok g c = refusing_had_no_memory
