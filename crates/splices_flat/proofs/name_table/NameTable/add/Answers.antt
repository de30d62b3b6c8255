use Rattle.std.proofs.Common.{string_bytes}
use Rattle.splices_flat.proofs.NameLists.{added}
use Rattle.splices_flat.proofs.name_table.NameTable.add.Goals as goal

pub returns-clause-ok : goal.returns-clause-ok
returns-clause-ok c =
    added string_bytes c.in_ok-from_str.field-0 c.args.name.now c.insert.new.self.keys c.self.inside.names.keys c.args.self.now
    c.in_ok-from_str.ensures.ok c.self.view_is c.requires c.in_ok-insert.ensures.keys
