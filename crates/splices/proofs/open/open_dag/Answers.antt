use Rattle.std.proofs.Common.{◌∙◌, ap, sym, ℕ, List, Ok}
use Rattle.std.proofs.lemmas.Result.{err_from_is_err_and}
use Rattle.splices_flat.specs.Dag.{Dag}
use Rattle.splices_flat.specs.FileSet.{bytes_of}
use Rattle.splices_flat.specs.Opened.{dag_at}
use Rattle.splices_flat.specs.Opening.{tree_at}
use Rattle.splices.proofs.Dags.{dag_fails, dag_faulty, dag_given, drawn, drawn_below, drawn_within}
use Rattle.splices.proofs.open.open_dag.Goals as goal

pub returns-in_err-builder : goal.returns-in_err-builder
unfolding dag_at tree_at
returns-in_err-builder c =
    let p = err_from_is_err_and c.from_residual.result c.from_residual.ensures.1 in
    rw (p.1, p.2) (dag_fails c.args.top.now c.in_err-builder.field-0.0 (tree_at (bytes_of c.args.files.now) c.args.top.now) c.in_err-builder.ensures.opened)

pub into_dag-requires-clause-below : goal.into_dag-requires-clause-below
unfolding tree_at
into_dag-requires-clause-below c = drawn_below (c.in_ok-builder.builder, c.in_ok-builder.fault) (tree_at (bytes_of c.args.files.now) c.args.top.now) c.in_ok-builder.ensures.opened

pub into_dag-requires-clause-within : goal.into_dag-requires-clause-within
unfolding tree_at
into_dag-requires-clause-within c = drawn_within c.in_ok-new-in-None.field-0 (c.in_ok-builder.builder, c.in_ok-builder.fault) (tree_at (bytes_of c.args.files.now) c.args.top.now) c.in_ok-builder.ensures.opened c.in_ok-builder.ensures.few

pub returns-in-Some : goal.returns-in-Some
unfolding dag_at tree_at
returns-in-Some c = dag_faulty c.args.top.now (c.in_ok-builder.builder, c.in_ok-builder.fault) c.in-Some.fault (tree_at (bytes_of c.args.files.now) c.args.top.now) c.in_ok-builder.ensures.opened c.in-Some.is

pub returns-in_ok-into_dag-in-None : goal.returns-in_ok-into_dag-in-None
unfolding dag_at tree_at
returns-in_ok-into_dag-in-None c =
    dag_given c.args.top.now (c.in_ok-builder.builder, c.in_ok-builder.fault) (tree_at (bytes_of c.args.files.now) c.args.top.now) c.in_ok-builder.ensures.opened c.in-None.is
    ∙ ap (λ (top : List ℕ). Ok (drawn top c.in_ok-builder.builder)) (sym c.in_ok-new-in-None.ensures)
    ∙ ap (λ (d : Dag). Ok d) (sym c.in_ok-into_dag-in-None.ensures)
