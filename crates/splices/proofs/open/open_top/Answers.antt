use Rattle.std.proofs.Common.{refl}
use Rattle.splices.specs.declared.open.DagBuilder.{DagBuilder}
use Rattle.splices.specs.ParsedFiles.{files_in}
use Rattle.splices.proofs.Trees.{top_opens}
use Rattle.splices.proofs.open.open_top.Goals as goal

pub returns-clause-opened : goal.returns-clause-opened
returns-clause-opened c =
    let start : DagBuilder = record { nodes = c.new.result; finals = c.new-2.result; edges = c.new-3.result; warned = c.new-4.result; used = record { nodes = 0; splices = 0 } } in
    top_opens (files_in c.args.files.now) c.args.left c.push.new.self c.new-above.result c.in_ok-new.field-0 c.args.top.now start c.open_tree.new.builder c.in_ok-found.found (record { nodes = 0; splices = 0 })
    c.in_ok-push.ensures.ok c.new-above.ensures c.in_ok-new.ensures c.new.ensures.items c.new-2.ensures.items c.new-3.ensures.items c.new-4.ensures refl c.in_ok-found.ensures.opened
