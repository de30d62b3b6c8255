-- The picture of a DAG.
use Rattle.std.specs.Prelude.{ℕ, zero, suc, ◌+◌, ◌==◌, List, [], ◌++◌, length, flat_map, Option, Some, None, codes, if◌then◌else◌}
use Rattle.dag_graph.specs.Graph.{children_of}
use Rattle.run_plan.specs.Plan.{Plan, node_at, count_of}
use Rattle.node_machine.specs.declared.Record.{Record}
use Rattle.status_report.specs.declared.status.Status.{Status}
use Rattle.status_report.specs.declared.status.Status.TheVariants.{Done, Error, PreRun, Submitted, PostRun, Ready, NotReady}
use Rattle.status_report.specs.Status.{status_at}
use Rattle.status_report.specs.Text.{reported}
use Rattle.graph_text.specs.Names.{quoted_label, splices_of_name, own_of}
use Rattle.graph_text.specs.Clusters.{indent, closings, moved}
use Rattle.graph_text.specs.declared.picture.Drawn.{Drawn}
use Rattle.graph_text.specs.declared.picture.Drawn.TheVariants as drawn

-- the plan that is drawn
abbrev pub drawn_plan : Drawn → Plan
drawn_plan (drawn.Bare plan) = plan.now
drawn_plan (drawn.Run core) = core.now.plan

-- nothing is known of where nodes stand
abbrev pub unknown : ℕ → Option Status
unknown = λ node. None

-- where nodes stand by these records
abbrev pub known : Plan → List Record → ℕ → Option Status
known plan past = λ node. Some (status_at plan past node)

-- where the nodes stand that are drawn, if that is known
abbrev pub states_of : Drawn → ℕ → Option Status
states_of (drawn.Bare plan) = unknown
states_of (drawn.Run core) = known core.now.plan core.now.past

-- The colour of a node that is so, by a name that graphviz knows, and where it is in words, which are shown where a pointer rests on it.
abbrev pub status_text : Status → List ℕ
status_text Done = codes ", fillcolor=palegreen, tooltip=\"done\""
status_text Error = codes ", fillcolor=lightcoral, tooltip=\"in error\""
status_text PreRun = codes ", fillcolor=lightskyblue, tooltip=\"its PRE script runs\""
status_text Submitted = codes ", fillcolor=lightskyblue, tooltip=\"its job runs\""
status_text PostRun = codes ", fillcolor=lightskyblue, tooltip=\"its POST script runs\""
status_text Ready = codes ", fillcolor=khaki, tooltip=\"ready\""
status_text NotReady = codes ", fillcolor=white, tooltip=\"waits\""

-- where a node is, if that is known
abbrev pub state_text : Option Status → List ℕ
state_text None = []
state_text (Some status) = status_text status

-- the FINAL node, which comes after all others, has a double frame
abbrev pub frame_text : Plan → ℕ → List ℕ
frame_text plan node = if node == count_of plan then codes ", peripheries=2" else []

-- what is shown of a node: its own name, its frame, and where it is
abbrev pub attributes_text : (own frame state : List ℕ) → List ℕ
attributes_text own frame state = codes " [label=" ++ (quoted_label own ++ (frame ++ (state ++ codes "];\n")))

-- The line of a node: its full name, by which edges name it, and its own name, which is shown.
abbrev pub drawn_node : Plan → Option Status → ℕ → List ℕ
drawn_node plan status node =
    let name = (node_at plan node).name in
    indent (length (splices_of_name name) + 1) ++ (quoted_label name ++ attributes_text (own_of name) (frame_text plan node) (state_text status))

-- the splices in which the node before this one is; before the first there is none
abbrev pub scope_before : Plan → ℕ → List (List ℕ)
scope_before plan zero = []
scope_before plan (suc n) = splices_of_name (node_at plan n).name

-- the nodes below n in plan order, each within the clusters of its splices
abbrev pub node_lines : Plan → (ℕ → Option Status) → ℕ → List ℕ
node_lines plan states zero = []
node_lines plan states (suc n) =
    node_lines plan states n ++ (moved n (scope_before plan n) (splices_of_name (node_at plan n).name) ++ drawn_node plan (states n) n)

-- all nodes, and the ends of the clusters that are open after the last
abbrev pub all_drawn : Plan → (ℕ → Option Status) → List ℕ
all_drawn plan states =
    node_lines plan states (reported plan) ++ closings 0 (length (scope_before plan (reported plan)))

-- the line of an edge
abbrev pub edge_line : Plan → (parent child : ℕ) → List ℕ
edge_line plan parent child =
    codes "    " ++ (quoted_label (node_at plan parent).name ++ (codes " -> " ++ (quoted_label (node_at plan child).name ++ codes ";\n")))

-- the edges from the nodes below n, each pair of a parent and its child once, in plan order
abbrev pub edge_lines : Plan → ℕ → List ℕ
edge_lines plan zero = []
edge_lines plan (suc n) = edge_lines plan n ++ flat_map (edge_line plan n) (children_of plan.graph.dag n)

abbrev pub graph_head : List ℕ
graph_head = codes "digraph dag {\n    node [shape=box, style=filled, fillcolor=white];\n"

-- The text of a picture of a plan whose nodes stand so: all nodes in plan order, FINAL last, and all edges.
abbrev pub dot_text_of : Plan → (ℕ → Option Status) → List ℕ
dot_text_of plan states = graph_head ++ (all_drawn plan states ++ (edge_lines plan (count_of plan) ++ codes "}\n"))
