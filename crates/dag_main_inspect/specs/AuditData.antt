-- What `audit` prints as JSON. The nodes, and what is said of each, are those of the lines: `fate_line` of status_report says the same of a node.
use Rattle.std.specs.Prelude.{ℕ, true, false, List, ◌++◌, Result, Ok, Err, codes}
use Rattle.run_plan.specs.Plan.{Plan, node_at, count_of}
use Rattle.sched_core.specs.Fate.{Fate}
use Rattle.status_report.specs.Status.{status_of_state}
use Rattle.fate_audit.specs.Fates.{fate_at}
use Rattle.fate_audit.specs.Audit.{no_text}
use Rattle.fate_audit.specs.declared.fault.AuditNo.{AuditNo}
use Rattle.serde_json.specs.Data.{Data, boolean, string, array, object, Items, no_members, member}
use Rattle.serde_json.specs.Written.{compact_text}
use Rattle.dag_main_inspect.specs.StatusData.{told_data, items_below}

-- a node of a plan that comes to this fate: its attempts, its name, its state and its value, as the status as JSON has them
abbrev pub fate_data : Plan → (ℕ → Fate) → ℕ → Data
fate_data plan fates node = told_data (node_at plan node).name (status_of_state (fates node).state) (fates node).attempts (fates node).value

-- the fates of the nodes below n, in plan order
abbrev pub fates_data : Plan → (ℕ → Fate) → ℕ → Items
fates_data plan fates = items_below (fate_data plan fates)

-- the path of the DAG file as it was given, the fates of the ordinary nodes, and that the journal stands for them
abbrev pub passed_data : List ℕ → Plan → List Fate → Data
passed_data path plan fates =
    object
    (member (codes "dag") (string path)
    (member (codes "nodes") (array (fates_data plan (fate_at fates) (count_of plan))) (member (codes "ok") (boolean true) no_members)))

-- why it stands for none, in the words of the text
abbrev pub refused_data : List ℕ → AuditNo → Data
refused_data path cause =
    object (member (codes "cause") (string (no_text cause)) (member (codes "dag") (string path) (member (codes "ok") (boolean false) no_members)))

-- the data of an audit that gave these fates, or this cause
abbrev pub audit_data : List ℕ → Plan → Result (List Fate) AuditNo → Data
audit_data path plan (Ok fates) = passed_data path plan fates
audit_data path plan (Err cause) = refused_data path cause

-- the text of these, with no space between its parts, and the end of its line
abbrev pub audit_json_of : List ℕ → Plan → Result (List Fate) AuditNo → List ℕ
audit_json_of path plan audited = compact_text (audit_data path plan audited) ++ codes "\n"
