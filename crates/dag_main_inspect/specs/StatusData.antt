-- What `status` prints as JSON. The nodes, and what is said of each, are those of the status text: `node_line` of status_report says the same of a node.
use Rattle.std.specs.Prelude.{ℕ, zero, suc, ℤ, List, ◌++◌, Option, Some, None, codes}
use Rattle.run_plan.specs.Plan.{Plan, node_at}
use Rattle.node_machine.specs.declared.Record.{Record}
use Rattle.sched_core.specs.Run.{attempts_in, value_in}
use Rattle.status_report.specs.declared.status.Status.{Status}
use Rattle.status_report.specs.Status.{status_at}
use Rattle.status_report.specs.Text.{status_word, reported}
use Rattle.serde_json.specs.Data.{Data, null, number, unsigned, string, array, object, Items, no_items, item, no_members, member}
use Rattle.serde_json.specs.Find.{of_integer}
use Rattle.serde_json.specs.Written.{compact_text}

-- the value of the last attempt that ended, or null where none did
abbrev pub value_data : Option ℤ → Data
value_data None = null
value_data (Some value) = number (of_integer value)

-- a node of this name: how many of its attempts ended, its name, the word of its state, and the value of its last attempt that ended
abbrev pub told_data : List ℕ → Status → ℕ → Option ℤ → Data
told_data name status attempts value =
    object
    (member (codes "attempts") (number (unsigned attempts))
    (member (codes "name") (string name) (member (codes "state") (string (status_word status)) (member (codes "value") (value_data value) no_members))))

-- a node, by the records
abbrev pub node_data : Plan → List Record → ℕ → Data
node_data plan past node = told_data (node_at plan node).name (status_at plan past node) (attempts_in plan past node) (value_in plan past node)

-- these items, and this one after them
abbrev pub with_item : Items → Data → Items
with_item no_items last = item last no_items
with_item (item first rest) last = item first (with_item rest last)

-- these data of the nodes below n, in plan order
abbrev pub items_below : (ℕ → Data) → ℕ → Items
items_below data_of zero = no_items
items_below data_of (suc n) = with_item (items_below data_of n) (data_of n)

-- the nodes below n, in plan order
abbrev pub nodes_data : Plan → List Record → ℕ → Items
nodes_data plan past = items_below (node_data plan past)

-- the path of the DAG file as it was given, and all nodes that have a line in the status text, the FINAL node last
abbrev pub status_data : List ℕ → Plan → List Record → Data
status_data path plan past =
    object (member (codes "dag") (string path) (member (codes "nodes") (array (nodes_data plan past (reported plan))) no_members))

-- the text of these, with no space between its parts, and the end of its line
abbrev pub status_json_of : List ℕ → Plan → List Record → List ℕ
status_json_of path plan past = compact_text (status_data path plan past) ++ codes "\n"
