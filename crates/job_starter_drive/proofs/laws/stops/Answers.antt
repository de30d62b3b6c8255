use Rattle.std.proofs.Common.{arith, inr, [], ◌∷◌}
use Rattle.node_machine.specs.declared.Record.TheVariants.{Life}
use Rattle.job_starter_drive.specs.Drives.{At, at_rest}
use Rattle.job_starter_drive.proofs.Cuts.{goes-records}
use Rattle.job_starter_drive.proofs.Handing.{halted-hands}
use Rattle.job_starter_drive.proofs.Lasts.{leaves-kept}
use Rattle.job_starter_drive.proofs.laws.stops.Goals as goal

pub returns-clause-life : goal.returns-clause-life
returns-clause-life g c limits plan starter past call_log fault kept last header found image digest reads stop =
    let may = g.S.Starter.may_return starter in
    let hands = halted-hands limits plan may (Life ∷ past) call_log stop.held stop.later_log stop.halted in
    let adds = goes-records limits plan may (at_rest (Life ∷ past) call_log) (At stop.held stop.later_log stop.halted.keys stop.halted.owed) stop.halted.steps in
    record {
      own = hands.own;
      are = hands.are;
      life = record {
        reads = reads;
        goes_on = inr adds;
        lawful = stop.lawful;
        spawns = (hands.rest, hands.commands);
        leaves = record { added = []; few = omega arith; goes_on = inr adds; lawful = stop.lawful; reads = inr (header, stop.reads, digest) };
      };
    }

pub returns-clause-leaves : goal.returns-clause-leaves
returns-clause-leaves g c limits plan starter past call_log fault kept last header image digest stop =
    let may = g.S.Starter.may_return starter in
    let moment = stop.moment in
    leaves-kept plan past kept moment.held fault header image moment.part stop.all
    (goes-records limits plan may (at_rest (Life ∷ past) call_log) (At moment.held moment.later_log moment.halted.keys moment.halted.owed) moment.halted.steps) moment.lawful digest moment.reads
