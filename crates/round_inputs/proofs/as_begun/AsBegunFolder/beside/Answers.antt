use Rattle.dag_main_files.specs.Beside.{IsRefusalOf, refusing_had_no_memory, IsRefusalHeld, refusing_unheld_had_no_memory}
use Rattle.dag_main_files.proofs.RunFaults.{memory-alone}
use Rattle.round_inputs.specs.AsBegun.{as_begun}
use Rattle.round_inputs.proofs.Kept.{refused-unkept}
use Rattle.round_inputs.proofs.as_begun.AsBegunFolder.beside.Goals as goal

pub returns-in-Some-clause-named : goal.returns-in-Some-clause-named
returns-in-Some-clause-named g c = memory-alone (IsRefusalOf c.args.path.now) refusing_had_no_memory c.copied.result c.copied.ensures.refused

pub returns-in-Some-clause-unheld : goal.returns-in-Some-clause-unheld
returns-in-Some-clause-unheld g c = λ honest.
    memory-alone (IsRefusalHeld (as_begun c.args.self.now.begun (g.F.Folder.holds c.args.self.now.folder.now)) c.args.path.now) refusing_unheld_had_no_memory
    c.copied.result c.copied.ensures.refused

pub returns-in-None-clause-unheld : goal.returns-in-None-clause-unheld
returns-in-None-clause-unheld g c = λ honest.
    refused-unkept c.args.self.now.begun (g.F.Folder.holds c.args.self.now.folder.now) c.args.path.now c.in-None.ensures c.beside.result (c.beside.ensures.unheld honest)
