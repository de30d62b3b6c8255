use Rattle.std.proofs.Common.{◌≤◌, length, [], arith}
use Rattle.dag_reader.specs.Reading.{commands_of}
use Rattle.splices_flat.specs.Forest.{OpenFile}
use Rattle.splices_flat.specs.Opening.{parsed_file}
use Rattle.splices.proofs.OwnNodes.{split_fits, own_added}
use Rattle.splices.proofs.open.add_own.Goals as goal

pub split_off-requires : goal.split_off-requires
split_off-requires c =
    let this : OpenFile = record { prefix = c.args.prefix.now; said = parsed_file c.args.path.now c.args.folder.now (commands_of c.args.file.now); counts = [] } in
    let fits : c.len.result ≤ length c.in_ok-own.own.items = split_fits this c.in_ok-own.own.items c.len.result c.args.names.now.jobs c.in_ok-own.ensures.nodes c.len.ensures c.requires.jobs in
    omega (arith, fits)

pub returns-clause-files : goal.returns-clause-files
returns-clause-files c = λ counts.
    let this : OpenFile = record { prefix = c.args.prefix.now; said = parsed_file c.args.path.now c.args.folder.now (commands_of c.args.file.now); counts = counts } in
    own_added this c.args.builder.now _ c.in_ok-own.own.items c.split_off.new.self.items c.in_ok-finals.finals.items c.len.result c.args.names.now.jobs
    c.in_ok-own.ensures.nodes c.len.ensures c.requires.jobs c.in_ok-finals.ensures.items c.in_ok-finals.ensures.tail c.in_ok-append.ensures.items c.in_ok-append-2.ensures.items c.in_ok-own.ensures.warned
