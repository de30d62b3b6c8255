use Rattle.std.proofs.Common.{◌∙◌, ap, ℕ, List, cond, Some}
use Rattle.std.specs.Prelude.{string_bytes}
use Rattle.std.specs.HashMap.{get_by_text}
use Rattle.std.specs.Str.{bytes_eq}
use Rattle.std.proofs.lemmas.Map.Text.{hash_map_updates_text}
use Rattle.dag_reader.specs.Reading.{commands_of}
use Rattle.splices_flat.specs.FileSet.{bytes_of}
use Rattle.splices.proofs.Said.{acting_said, said_more}
use Rattle.splices.proofs.parsed_files.keep.Goals as goal

pub returns-in_ok-insert : goal.returns-in_ok-insert
returns-in_ok-insert c =
    let old = c.args.said.now in
    let file = c.without_idle.result in
    said_more (bytes_of c.args.files.now) (get_by_text old) (get_by_text c.insert.new.self) c.args.path.now file c.requires (acting_said _ (commands_of c.in-Ok.file) (commands_of file) c.in-Ok.ensures c.without_idle.ensures) (λ other.
    hash_map_updates_text (string_bytes c.in_ok-from_str.field-0) old c.insert.new.self (Some file) c.in_ok-insert.ensures.updates other
    ∙ ap (λ (key : List ℕ). cond (bytes_eq key other) (Some file) (get_by_text old other)) c.in_ok-from_str.ensures.ok)
