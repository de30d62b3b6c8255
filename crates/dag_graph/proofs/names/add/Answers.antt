use Rattle.std.proofs.Common.{◌≡◌, ℕ, cond, List, None, Some, ap, ◌∙◌}
use Rattle.std.specs.Prelude.{string_bytes}
use Rattle.std.specs.Str.{bytes_eq}
use Rattle.std.specs.HashMap.{get_by_text}
use Rattle.std.proofs.lemmas.Map.Text.{hash_map_updates_text}
use Rattle.dag_graph.proofs.NamePlaces.{named_new, absent_none}
use Rattle.dag_graph.proofs.names.add.Goals as goal

pub returns-in_ok-insert : goal.returns-in_ok-insert
returns-in_ok-insert c = λ other.
    let key : List ℕ = string_bytes c.in_ok-from_str.field-0 in
    let bytes : string_bytes c.in_ok-from_str.field-0 ≡ c.args.name.now = c.in_ok-from_str.ensures.ok in
    let now : get_by_text c.insert.new.self other ≡ cond (bytes_eq (string_bytes c.in_ok-from_str.field-0) other) (Some c.args.number) (get_by_text c.args.numbers.now other) = hash_map_updates_text (string_bytes c.in_ok-from_str.field-0) c.args.numbers.now c.insert.new.self (Some c.args.number) c.in_ok-insert.ensures.updates other in
    let unknown : get_by_text c.args.numbers.now c.args.name.now ≡ None = absent_none _ _ c.contains_key.ensures c.if-not-contains_key.true in
    named_new (get_by_text c.args.numbers.now) c.args.name.now other c.args.number (get_by_text c.insert.new.self other) unknown (now ∙ ap (λ (bs : List ℕ). cond (bytes_eq bs other) (Some c.args.number) (get_by_text c.args.numbers.now other)) bytes)
