-- What opened files add to a draft of the DAG.
use Rattle.std.specs.Prelude.{◌≡◌, ℕ, ◌≤◌, List, [], ◌++◌, length, Option, Some, None, Result, Ok, Err}
use Rattle.std.specs.List.{flat_map}
use Rattle.dag_reader.specs.Results.{Tells, Returns}
use Rattle.splices_flat.specs.declared.part.Part.{Part}
use Rattle.splices.specs.declared.open.DagBuilder.{DagBuilder}
use Rattle.splices_flat.specs.declared.used.Used.{Used}
use Rattle.splices.specs.declared.open.Found.{Found}
use Rattle.splices_flat.specs.declared.fault.DagFault.{DagFault}
use Rattle.splices_flat.specs.declared.fault.SpliceFault.{SpliceFault}
use Rattle.splices_flat.specs.declared.fault.SpliceFault.TheVariants as faults
use Rattle.splices_flat.specs.Forest.{Forest, Tree, OpenFile, forest_files, tree_files, job_nodes, final_nodes, warn_files}
use Rattle.splices_flat.specs.Edges.{forest_edges, forest_parts, tree_edges, tree_part}
use Rattle.splices_flat.specs.Faults.{files_fault}
use Rattle.splices_flat.specs.Opening.{with_forest, with_file}

-- no more nodes and splices than there may be
pub record IsFew (used : Used) : Type 0 where
  pub nodes : used.nodes ≤ 65536
  pub splices : used.splices ≤ 4096

-- the lines of these files were noted and their nodes added to the draft
pub record AddsFiles (old new : DagBuilder) (files : List OpenFile) : Type 0 where
  pub nodes : new.nodes.items ≡ old.nodes.items ++ flat_map job_nodes files
  pub finals : new.finals.items ≡ old.finals.items ++ flat_map final_nodes files
  pub warned : new.warned ≡ warn_files old.warned files

-- the files of a forest were added, with the edges after those before
pub record AddsForest (prefix : List ℕ) (old new : DagBuilder) (forest : Forest) : Type 0 where
  pub files : AddsFiles old new (forest_files prefix forest)
  pub edges : new.edges.items ≡ old.edges.items ++ forest_edges (length old.nodes.items) forest
  pub used : new.used ≡ with_forest old.used forest

-- a file and those of its splices were added
pub record AddsTree (prefix : List ℕ) (old new : DagBuilder) (tree : Tree) : Type 0 where
  pub files : AddsFiles old new (tree_files prefix tree)
  pub edges : new.edges.items ≡ old.edges.items ++ tree_edges (length old.nodes.items) tree
  pub used : new.used ≡ with_forest (with_file old.used tree.file.commands) tree.inner

-- what is kept while a file's own edges are added
pub record SameButEdges (inner new : DagBuilder) : Type 0 where
  pub nodes : new.nodes.items ≡ inner.nodes.items
  pub finals : new.finals.items ≡ inner.finals.items
  pub warned : new.warned ≡ inner.warned
  pub used : new.used ≡ inner.used

-- what a call answers
abbrev pub dag_fault : SpliceFault → Option DagFault
dag_fault faults.Memory = None
dag_fault (faults.Dag f) = Some f

abbrev pub Fails : {Y : Type 0} → SpliceFault → Result Y DagFault → Type 0
Fails refusal read = Tells (dag_fault refusal) read

abbrev pub Gives : {X Y : Type 0} → (X → Y) → Result X SpliceFault → Result Y DagFault → Type 0
Gives view = Returns dag_fault view

abbrev pub OpensTree : List ℕ → Result Found SpliceFault → DagBuilder → DagBuilder → Result Tree DagFault → Type 0
OpensTree prefix (Ok found) old new read = (tree : Tree) × (read ≡ Ok tree) × AddsTree prefix old new tree
    × (found.part ≡ tree_part (length old.nodes.items) tree) × (found.fault ≡ files_fault (tree_files prefix tree))
OpensTree prefix (Err e) old new read = Fails e read

abbrev pub OpensForest : List ℕ → Result (Option DagFault) SpliceFault → DagBuilder → DagBuilder → List Part → List Part → Result Forest DagFault → Type 0
OpensForest prefix (Ok fault) old new parts_old parts_new read =
    (forest : Forest) × (read ≡ Ok forest) × AddsForest prefix old new forest
    × (parts_new ≡ parts_old ++ forest_parts (length old.nodes.items) forest)
    × (fault ≡ files_fault (forest_files prefix forest))
OpensForest prefix (Err e) old new parts_old parts_new read = Fails e read

-- the opened top file, and the first name in the files that can't stand where it does
abbrev pub OpensTop : Result (DagBuilder × Option DagFault) SpliceFault → Result Tree DagFault → Type 0
OpensTop (Ok found) read = (tree : Tree) × (read ≡ Ok tree)
    × (found.0.nodes.items ≡ flat_map job_nodes (tree_files [] tree))
    × (found.0.finals.items ≡ flat_map final_nodes (tree_files [] tree))
    × (found.0.edges.items ≡ tree_edges 0 tree)
    × (found.0.warned ≡ warn_files (record { limits = []; notices = [] }) (tree_files [] tree))
    × (found.1 ≡ files_fault (tree_files [] tree))
    × (found.0.used ≡ with_forest (with_file (record { nodes = 0; splices = 0 }) tree.file.commands) tree.inner)
OpensTop (Err e) read = Fails e read
