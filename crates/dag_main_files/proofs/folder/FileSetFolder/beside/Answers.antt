use Rattle.splices_flat.specs.FileSet.{bytes_of}
use Rattle.dag_main_files.specs.Beside.{IsRefusalOf, refusing_had_no_memory, IsRefusalHeld, refusing_unheld_had_no_memory}
use Rattle.dag_main_files.proofs.RunFaults.{memory-alone}
use Rattle.dag_main_files.proofs.folder.FileSetFolder.beside.Goals as goal

pub returns-clause-named : goal.returns-clause-named
returns-clause-named c = memory-alone (IsRefusalOf c.args.path.now) refusing_had_no_memory c.copied.result c.copied.ensures.refused

pub returns-clause-unheld : goal.returns-clause-unheld
returns-clause-unheld c = λ honest.
    memory-alone (IsRefusalHeld (bytes_of c.args.self.now) c.args.path.now) refusing_unheld_had_no_memory c.copied.result c.copied.ensures.refused
