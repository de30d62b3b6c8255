use Rattle.std.proofs.Common.{◌∙◌, sym, string_bytes}
use Rattle.std.specs.Str.{bytes_eq}
use Rattle.splices_flat.proofs.NameLists.{position_map}
use Rattle.splices_flat.proofs.name_table.NameTable.place_of.Goals as goal

pub returns-clause-value : goal.returns-clause-value
returns-clause-value c = rw (← c.self.view_is) (c.get_index_of.ensures.index ∙ sym (position_map string_bytes (bytes_eq c.args.name.now) c.self.inside.names.keys))
