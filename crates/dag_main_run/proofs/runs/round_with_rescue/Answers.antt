use Rattle.dag_main_run.specs.Runs.{IsFindingFault, no_round, no_rescue, IsFindingFaultHeld, held_no_round, held_no_rescue}
use Rattle.dag_main_files.proofs.RunFaults.{by-fault}
use Rattle.dag_main_run.proofs.runs.round_with_rescue.Goals as goal

pub returns-in_err-round-clause-refused : goal.returns-in_err-round-clause-refused
returns-in_err-round-clause-refused g c =
    by-fault (IsFindingFault c.args.place.now.top.now c.args.options.now) c.in_err-round.field-0.0 (no_round _ c.in_err-round.ensures.refused)
    c.from_residual.result c.from_residual.ensures.1

pub returns-in_err-rescue-clause-refused : goal.returns-in_err-rescue-clause-refused
returns-in_err-rescue-clause-refused g c =
    by-fault (IsFindingFault c.args.place.now.top.now c.args.options.now) c.in_err-rescue.field-0.0 (no_rescue c.in_ok-round.round _ c.in_ok-round.ensures.by c.in_err-rescue.ensures.refused)
    c.from_residual-in_err-rescue.result c.from_residual-in_err-rescue.ensures.1

pub returns-clause-found : goal.returns-clause-found
returns-clause-found g c = record {
  by_options = c.in_ok-round.ensures.by;
  rescue_is = c.in_ok-rescue.ensures.read;
  next = c.in_ok-round.ensures.numbers.0;
  used = c.in_ok-round.ensures.numbers.1;
  held = λ honest. (c.in_ok-round.ensures.held honest, c.in_ok-rescue.ensures.held honest);
}

pub returns-in_err-round-clause-refused_held : goal.returns-in_err-round-clause-refused_held
returns-in_err-round-clause-refused_held g c = λ honest.
    by-fault (IsFindingFaultHeld (g.F.Folder.holds c.args.folder.now) (g.F.Folder.has c.args.folder.now) c.args.place.now.top.now c.args.options.now) c.in_err-round.field-0.0 (held_no_round _ (c.in_err-round.ensures.refused_held honest)) c.from_residual.result c.from_residual.ensures.1

pub returns-in_err-rescue-clause-refused_held : goal.returns-in_err-rescue-clause-refused_held
returns-in_err-rescue-clause-refused_held g c = λ honest.
    by-fault (IsFindingFaultHeld (g.F.Folder.holds c.args.folder.now) (g.F.Folder.has c.args.folder.now) c.args.place.now.top.now c.args.options.now) c.in_err-rescue.field-0.0
    (held_no_rescue c.in_ok-round.round _ (c.in_ok-round.ensures.held honest) (c.in_err-rescue.ensures.refused_held honest))
    c.from_residual-in_err-rescue.result c.from_residual-in_err-rescue.ensures.1
