use Rattle.std.proofs.Common.{◌∙◌, Option, sym, ap}
use Rattle.dag_reader.specs.declared.command.Target.{Target}
use Rattle.splices.specs.NodeChanges.{changed_where, replaced_among, set_node}
use Rattle.splices_flat.specs.Settings.{is_for}
use Rattle.splices_flat.specs.Warnings.{each_once, replaced_in}
use Rattle.splices.proofs.NodeSteps.{changed_none, given_none}
use Rattle.splices.proofs.own_nodes.set_line.Goals as goal

pub returns-in-None-clause-nodes : goal.returns-in-None-clause-nodes
returns-in-None-clause-nodes c =
    let names = c.args.names.now in
    let nodes = c.args.nodes.now in
    let change = set_node c.args.prefix.now c.args.command.now in
    sym (changed_none change 0 nodes) ∙ ap (λ (o : Option Target). changed_where (is_for names.jobs names.finals o) change 0 nodes) c.in-None.ensures

pub returns-in-None-clause-replaced : goal.returns-in-None-clause-replaced
returns-in-None-clause-replaced c =
    let names = c.args.names.now in
    let nodes = c.args.nodes.now in
    let command = c.args.command.now in
    c.new.ensures.items ∙ sym (ap each_once (given_none (λ node. replaced_in node.settings command) 0 nodes)) ∙ ap (λ (o : Option Target). replaced_among (is_for names.jobs names.finals o) command nodes) c.in-None.ensures
