use Rattle.run_round.proofs.Openings.{counts-slots}
use Rattle.run_round.proofs.rounds.counts_slots.Goals as goal

pub returns : goal.returns
returns g c = record { count = counts-slots g.D.Disk c.args.manager.now c.core-core.ensures.agrees c.requires.whole }
