use Rattle.std.proofs.Common.{◌∙◌, sym, string_bytes}
use Rattle.std.specs.Str.{bytes_eq}
use Rattle.splices_flat.proofs.NameLists.{any_map}
use Rattle.splices_flat.proofs.name_table.NameTable.has.Goals as goal

pub returns : goal.returns
returns c = rw (← c.self.view_is) (c.contains.ensures ∙ sym (any_map string_bytes (bytes_eq c.args.name.now) c.self.inside.names.keys))
