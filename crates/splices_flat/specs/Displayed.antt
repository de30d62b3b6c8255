-- How a fault of the files of a DAG is displayed: its code, its name and its place.
use Rattle.std.specs.Prelude.{ℕ, List, ◌++◌, codes}
use Rattle.dag_reader.specs.declared.span.Span.{Span}
use Rattle.dag_reader.specs.Fault.{span_of, span_text, line_fault_name, texts_text}
use Rattle.splices_flat.specs.declared.fault.DagFault.{DagFault}
use Rattle.splices_flat.specs.declared.fault.DagFault.TheVariants.{MissingFile, InFile, Loop, DuplicateName, UnknownNode, TooDeep, TooManyNodes, FinalInSplice, SpliceSetting, EmptySpliceEdge, FinalSetting}

-- `FILE:LINE:COLUMN`
abbrev pub place_text : List ℕ → Span → List ℕ
place_text path span = path ++ codes ":" ++ span_text span

abbrev pub dag_fault_text : DagFault → List ℕ
dag_fault_text (MissingFile path) = codes "S1 MissingFile " ++ path
dag_fault_text (InFile path fault) = line_fault_name fault ++ codes " " ++ place_text path (span_of fault)
dag_fault_text (Loop paths) = codes "S3 Loop" ++ texts_text paths
dag_fault_text (DuplicateName path span) = codes "S4 DuplicateName " ++ place_text path span
dag_fault_text (UnknownNode path span) = codes "S5 UnknownNode " ++ place_text path span
dag_fault_text (TooDeep path) = codes "S6 TooDeep " ++ path
dag_fault_text TooManyNodes = codes "S7 TooManyNodes"
dag_fault_text (FinalInSplice path span) = codes "S8 FinalInSplice " ++ place_text path span
dag_fault_text (SpliceSetting path span) = codes "S9 SpliceSetting " ++ place_text path span
dag_fault_text (EmptySpliceEdge path span) = codes "S10 EmptySpliceEdge " ++ place_text path span
dag_fault_text (FinalSetting path span) = codes "S11 FinalSetting " ++ place_text path span
