use Rattle.dag_main_files.specs.Opened.{changing, fixed}
use Rattle.dag_main_files.proofs.RunFaults.{by-fault}
use Rattle.dag_main_inspect.specs.LastRound.{IsNotOpenedRound, no_last_round}
use Rattle.dag_main_inspect.proofs.round.open_round.Goals as goal

pub returns-in_err-round-clause-refused : goal.returns-in_err-round-clause-refused
returns-in_err-round-clause-refused g c =
    by-fault (IsNotOpenedRound changing c.args.top.now) c.in_err-round.field-0.0 (no_last_round _ c.in_err-round.ensures.refused) c.from_residual.result c.from_residual.ensures.1

pub returns-in_err-round-clause-refused_held : goal.returns-in_err-round-clause-refused_held
returns-in_err-round-clause-refused_held g c = λ honest.
    by-fault (IsNotOpenedRound (fixed (g.F.Folder.holds c.args.folder.now)) c.args.top.now) c.in_err-round.field-0.0 (no_last_round _ (c.in_err-round.ensures.refused_held honest)) c.from_residual.result c.from_residual.ensures.1
