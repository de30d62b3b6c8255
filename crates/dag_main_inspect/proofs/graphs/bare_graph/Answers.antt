use Rattle.dag_main_check.proofs.Refusals.{weaker}
use Rattle.dag_main_files.specs.Opened.{changing, fixed, IsRefusedFor, HasNoGraph}
use Rattle.dag_main_inspect.proofs.Rounds.{bare-picture, memory-no-graph}
use Rattle.dag_main_inspect.proofs.graphs.bare_graph.Goals as goal

pub returns-clause-drawn : goal.returns-clause-drawn
returns-clause-drawn g c =
    bare-picture changing c.args.top.now c.in_ok-plan.plan c.in_ok-plan.ensures.plan c.args.shape c.answer_for.result c.answer_for.ensures.text c.answer_for.ensures.warnings c.answer_for.ensures.status

pub returns-clause-refused : goal.returns-clause-refused
returns-clause-refused g c =
    weaker (IsRefusedFor changing c.args.top.now (HasNoGraph c.args.top.now)) c.answer_for.result c.answer_for.ensures.err
    (memory-no-graph changing c.args.top.now c.in_ok-plan.plan c.in_ok-plan.ensures.plan)

pub returns-clause-held : goal.returns-clause-held
returns-clause-held g c = λ honest.
    bare-picture (fixed (g.F.Folder.holds c.args.folder.now)) c.args.top.now c.in_ok-plan.plan (c.in_ok-plan.ensures.held honest) c.args.shape c.answer_for.result c.answer_for.ensures.text c.answer_for.ensures.warnings c.answer_for.ensures.status

pub returns-clause-refused_held : goal.returns-clause-refused_held
returns-clause-refused_held g c = λ honest.
    weaker (IsRefusedFor (fixed (g.F.Folder.holds c.args.folder.now)) c.args.top.now (HasNoGraph c.args.top.now)) c.answer_for.result c.answer_for.ensures.err
    (memory-no-graph (fixed (g.F.Folder.holds c.args.folder.now)) c.args.top.now c.in_ok-plan.plan (c.in_ok-plan.ensures.held honest))
