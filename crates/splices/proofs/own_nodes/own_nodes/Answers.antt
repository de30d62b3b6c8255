use Rattle.std.proofs.Common.{◌≡◌, ◌∙◌, ◌+◌, refl, ap, sym, drop, length, take, ◌++◌, arith}
use Rattle.splices.specs.NodeChanges.{changed_where, replaced_among, set_node}
use Rattle.splices_flat.specs.Nodes.{final_names, finals_in, job_names, jobs_in}
use Rattle.splices_flat.specs.Settings.{is_for, setting_target}
use Rattle.splices_flat.specs.Warnings.{replaced_lines}
use Rattle.splices.proofs.NodeSteps.{plain_nodes, nodes_set, lines_replaced}
use Rattle.splices.proofs.WarnSteps.{line_more, next_lines, written}
use Rattle.splices.proofs.own_nodes.own_nodes.Goals as goal

pub loop-command-init : goal.loop-command-init
loop-command-init c =
    let commands = c.as_slice-commands.result.now in
    record {
      nodes = c.in_ok-nodes.ensures ∙ plain_nodes c.args.prefix.now c.args.folder.now commands 0 (jobs_in commands ++ finals_in commands);
      warned = refl;
    }

pub loop-command-preserved : goal.loop-command-preserved
loop-command-preserved c =
    let commands = c.as_slice-commands.result.now in
    let jobs : c.args.names.now.jobs ≡ job_names commands = c.requires.jobs ∙ ap job_names (sym c.as_slice-commands.ensures.value) in
    let finals : c.args.names.now.finals ≡ final_names commands = c.requires.finals ∙ ap final_names (sym c.as_slice-commands.ensures.value) in
    let i = c.loop-command.command-index in
    let command = c.command-item.result in
    let nodes = c.loop-command.nodes.items in
    let new = c.set_line.new.nodes in
    let whole : take c.loop-command.nodes.len (new ++ drop (length new) nodes) ≡ new = written nodes new c.loop-command.nodes.len (omega arith) (omega (arith, c.set_line.auto.nodes, ap length c.deref_mut.ensures.value)) in
    let set : new ≡ changed_where (is_for c.args.names.now.jobs c.args.names.now.finals (setting_target command)) (set_node c.args.prefix.now command) 0 nodes = c.in_ok-replaced.ensures.nodes ∙ ap (changed_where (is_for c.args.names.now.jobs c.args.names.now.finals (setting_target command)) (set_node c.args.prefix.now command) 0) c.deref_mut.ensures.value in
    let lines : c.as_slice.result.now ≡ replaced_lines c.args.prefix.now commands (take i commands) command =
    c.as_slice.ensures.value ∙ c.in_ok-replaced.ensures.replaced ∙ ap (replaced_among (is_for c.args.names.now.jobs c.args.names.now.finals (setting_target command)) command) c.deref_mut.ensures.value
    ∙ lines_replaced c.args.prefix.now c.args.folder.now commands (take i commands) command c.args.names.now.jobs c.args.names.now.finals nodes jobs finals c.loop-command.invariant.nodes in
    record {
      nodes = whole ∙ nodes_set c.args.prefix.now c.args.folder.now commands (take i commands) (take (i + 1) commands) command c.args.names.now.jobs c.args.names.now.finals (jobs_in commands ++ finals_in commands) nodes new jobs finals c.loop-command.invariant.nodes set (next_lines commands i command c.loop-command-test.true c.command-item.is);
      warned = line_more c.args.path.now c.args.prefix.now commands i command c.loop-command.warned c.warn_line.new.self _ c.as_slice.result.now c.loop-command-test.true c.command-item.is lines c.in_ok-warn_line.ensures c.loop-command.invariant.warned;
    }
