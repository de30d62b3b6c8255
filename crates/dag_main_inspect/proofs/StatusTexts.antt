-- The status and the audit as JSON: their nodes one by one, and that no value of them is a float.
use Rattle.std.proofs.Common.{◌≡◌, ◌∙◌, refl, ap, arith, ℕ, zero, suc, ◌+◌, ℤ, pos, negsuc, Bool, true, false, ◌||◌, List, [], ◌∷◌, ◌++◌, Option, Some, None, Result, Ok, Err}
use Rattle.run_plan.specs.Plan.{Plan, node_at, count_of}
use Rattle.node_machine.specs.declared.Record.{Record}
use Rattle.sched_core.specs.Fate.{Fate}
use Rattle.sched_core.specs.Run.{attempts_in, value_in}
use Rattle.status_report.specs.declared.status.Status.{Status}
use Rattle.status_report.specs.Status.{status_at, status_of_state}
use Rattle.status_report.specs.Text.{reported}
use Rattle.fate_audit.specs.Fates.{fate_at}
use Rattle.fate_audit.specs.declared.fault.AuditNo.{AuditNo}
use Rattle.serde_json.specs.Data.{Data, Items, no_items, item}
use Rattle.serde_json.specs.View.{view, items_view}
use Rattle.serde_json.specs.Written.{has_float, items_have_float}
use Rattle.serde_json.specs.declared.value.Value.{Value}
use Rattle.dag_main_inspect.specs.StatusData.{value_data, told_data, node_data, with_item, items_below, nodes_data, status_data}
use Rattle.dag_main_inspect.specs.AuditData.{fate_data, fates_data, audit_data}

-- one more node
last-item : (values : List Value) (value : Value) → items_view (values ++ value ∷ []) ≡ with_item (items_view values) (view value)
last-item [] value = refl
last-item (first ∷ rest) value = ap (item (view first)) (last-item rest value)

pub next-node : (data_of : ℕ → Data) (node : ℕ) (values more : List Value) (value : Value) → items_view values ≡ items_below data_of node → view value ≡ data_of node
    → more ≡ values ++ value ∷ [] → items_view more ≡ items_below data_of (node + 1)
next-node data_of node values more value are is grown =
    let one_more : suc node ≡ node + 1 = omega arith in
    ap items_view grown ∙ last-item values value ∙ (λ j. with_item (are j) (is j)) ∙ ap (items_below data_of) one_more

-- none of these is a float
left-false : (a b : Bool) → (a || b) ≡ false → a ≡ false
left-false true b none = none
left-false false b none = refl

right-false : (a b : Bool) → (a || b) ≡ false → b ≡ false
right-false true b none = absurd cc
right-false false b none = none

pub both-false : (a b : Bool) → a ≡ false → b ≡ false → (a || b) ≡ false
both-false true b left right = left
both-false false b left right = right

pub value-whole : (value : Option ℤ) → has_float (value_data value) ≡ false
value-whole None = refl
value-whole (Some (pos n)) = refl
value-whole (Some (negsuc n)) = refl

told-whole : (name : List ℕ) (status : Status) (attempts : ℕ) (value : Option ℤ) → has_float (told_data name status attempts value) ≡ false
told-whole name status attempts value = both-false _ false (value-whole value) refl

item-whole : (items : Items) (last : Data) → items_have_float items ≡ false → has_float last ≡ false → items_have_float (with_item items last) ≡ false
item-whole no_items last whole one = both-false (has_float last) false one refl
item-whole (item first rest) last whole one =
    both-false (has_float first) (items_have_float (with_item rest last)) (left-false (has_float first) (items_have_float rest) whole)
    (item-whole rest last (right-false (has_float first) (items_have_float rest) whole) one)

items-whole : (data_of : ℕ → Data) → ((node : ℕ) → has_float (data_of node) ≡ false) → (n : ℕ) → items_have_float (items_below data_of n) ≡ false
items-whole data_of each zero = refl
items-whole data_of each (suc n) = item-whole (items_below data_of n) (data_of n) (items-whole data_of each n) (each n)

pub node-whole : (plan : Plan) (past : List Record) (node : ℕ) → has_float (node_data plan past node) ≡ false
node-whole plan past node = told-whole (node_at plan node).name (status_at plan past node) (attempts_in plan past node) (value_in plan past node)

fate-whole : (plan : Plan) (fates : ℕ → Fate) (node : ℕ) → has_float (fate_data plan fates node) ≡ false
fate-whole plan fates node = told-whole (node_at plan node).name (status_of_state (fates node).state) (fates node).attempts (fates node).value

pub status-whole : (path : List ℕ) (plan : Plan) (past : List Record) → has_float (status_data path plan past) ≡ false
status-whole path plan past =
    both-false (items_have_float (nodes_data plan past (reported plan))) false (items-whole (node_data plan past) (node-whole plan past) (reported plan)) refl

pub audit-whole : (path : List ℕ) (plan : Plan) (audited : Result (List Fate) AuditNo) → has_float (audit_data path plan audited) ≡ false
audit-whole path plan (Ok fates) =
    both-false (items_have_float (fates_data plan (fate_at fates) (count_of plan))) false (items-whole (fate_data plan (fate_at fates)) (fate-whole plan (fate_at fates)) (count_of plan)) refl
audit-whole path plan (Err cause) = refl
