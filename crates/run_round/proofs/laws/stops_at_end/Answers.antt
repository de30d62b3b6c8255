use Rattle.std.proofs.Common.{arith, inl, inr, [], ◌∷◌, ◌++◌, ◌∙◌, ap, sym}
use Rattle.std.proofs.lemmas.List.{append-nil}
use Rattle.node_machine.specs.declared.Record.TheVariants.{Life}
use Rattle.recovery_manager.specs.Chain.{commands_in}
use Rattle.job_starter_drive.specs.Drives.{At, at_rest}
use Rattle.job_starter_drive.proofs.Cuts.{goes-records}
use Rattle.job_starter_drive.proofs.Lasts.{leaves-kept}
use Rattle.run_round.proofs.Ends.{end-hands, end-adds}
use Rattle.run_round.proofs.laws.stops_at_end.Goals as goal

pub returns-clause-life : goal.returns-clause-life
returns-clause-life g c rescue limits plan starter past call_log fault kept last header found image of_plan reads stop =
    let may = g.S.Starter.may_return starter in
    let hands = end-hands limits plan may (Life ∷ past) call_log stop.held last stop.ended in
    let adds = end-adds limits plan may (Life ∷ past) call_log stop.held last stop.ended in
    record {
      own = hands.own;
      are = hands.are;
      life = record {
        reads = reads;
        goes_on = inr adds;
        lawful = stop.lawful;
        spawns = ([], hands.commands ∙ ap (λ l. commands_in plan past ++ l) (sym (append-nil hands.own)));
        leaves = record { added = []; few = omega arith; goes_on = inr adds; lawful = stop.lawful; reads = inr (header, stop.reads, of_plan) };
      };
    }

pub returns-clause-leaves : goal.returns-clause-leaves
returns-clause-leaves g c rescue limits plan starter past call_log fault kept last header image of_plan (inl stop) =
    let may = g.S.Starter.may_return starter in
    let moment = stop.moment in
    leaves-kept plan past kept moment.held fault header image moment.part stop.all
    (goes-records limits plan may (at_rest (Life ∷ past) call_log) (At moment.held moment.later_log moment.halted.keys moment.halted.owed) moment.halted.steps) moment.lawful of_plan moment.reads
returns-clause-leaves g c rescue limits plan starter past call_log fault kept last header image of_plan (inr stop) =
    let may = g.S.Starter.may_return starter in
    let end = stop.0 in
    leaves-kept plan past kept end.held fault header image end.part stop.1
    (end-adds limits plan may (Life ∷ past) call_log end.held last end.ended) end.lawful of_plan end.reads
