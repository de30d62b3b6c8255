-- The flat DAG of a set of files.
use Rattle.std.specs.Prelude.{ℕ, List, [], ◌∷◌, map, Option, Some, None, Result, Ok, Err}
use Rattle.std.specs.List.{flat_map}
use Rattle.splices_flat.specs.declared.fault.DagFault.{DagFault}
use Rattle.splices_flat.specs.Dag.{Dag}
use Rattle.splices_flat.specs.Forest.{Tree, tree_files, job_nodes, final_nodes, warn_files}
use Rattle.splices_flat.specs.Edges.{tree_edges}
use Rattle.splices_flat.specs.Places.{edges_of}
use Rattle.splices_flat.specs.Faults.{files_fault}
use Rattle.splices_flat.specs.Notices.{warning_of}
use Rattle.splices_flat.specs.Warnings.{Warned}
use Rattle.splices_flat.specs.Opening.{Files, tree_at, ◌>>=◌}

abbrev pub first_of : {X : Type 0} → List X → Option X
first_of [] = None
first_of (x ∷ xs) = Some x

abbrev pub nothing_warned : Warned
nothing_warned = record { limits = []; notices = [] }

-- Plan order: the nodes of a file's JOB lines, then those of its splices in the order of the SPLICE lines. The FINAL node
-- is that of the top file. Limits and warnings come in the order of opening.
abbrev pub flat_of : List ℕ → Tree → Dag
flat_of top tree = record {
  top = top;
  nodes = flat_map job_nodes (tree_files [] tree);
  final_node = first_of (flat_map final_nodes (tree_files [] tree));
  edges = edges_of (tree_edges 0 tree);
  categories = (warn_files nothing_warned (tree_files [] tree)).limits;
  warnings = map warning_of (warn_files nothing_warned (tree_files [] tree)).notices;
}

-- once all files are open, the first name in them that is where it can't be is the fault
abbrev pub dag_unless : List ℕ → Option DagFault → Tree → Result Dag DagFault
dag_unless top None tree = Ok (flat_of top tree)
dag_unless top (Some fault) tree = Err fault

abbrev pub dag_of : List ℕ → Result Tree DagFault → Result Dag DagFault
dag_of top read = read >>= λ tree. dag_unless top (files_fault (tree_files [] tree)) tree

-- the DAG of the file with this path, or the first fault
unfoldable pub dag_at : Files → List ℕ → Result Dag DagFault
dag_at files top = dag_of top (tree_at files top)
