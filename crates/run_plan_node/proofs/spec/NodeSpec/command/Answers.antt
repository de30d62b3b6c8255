use Rattle.std.proofs.Common.{◌∙◌, ap, true, false}
use Rattle.run_plan_node.specs.Node.{NodeSpec}
use Rattle.run_plan_node.specs.Commands.{phase_command}
use Rattle.run_plan_node.proofs.Scripts.{script_gives, job_gives}
use Rattle.run_plan_node.proofs.spec.NodeSpec.command.Goals as goal

pub returns-in_ok-facts-in-Pre : goal.returns-in_ok-facts-in-Pre
unfolding phase_command
returns-in_ok-facts-in-Pre c =
    rw (c.in-Pre.is) (script_gives c.args.self.now c.args.self.now.launch_spec.pre c.args.attempt false c.args.facts.now c.folder-folder.result.now c.pre.result.now c.in_ok-facts-in-Pre.facts c.script_command.result
    (c.folder-folder.ensures ∙ ap (λ (n : NodeSpec). n.launch_spec.folder) c.self.view_is) (c.pre.ensures ∙ ap (λ (n : NodeSpec). n.launch_spec.pre) c.self.view_is)
    c.in_ok-facts-in-Pre.ensures c.script_command.ensures.ok c.script_command.ensures.err)

pub returns-in-Job : goal.returns-in-Job
unfolding phase_command
returns-in-Job c =
    rw (c.in-Job.is) (job_gives c.folder-folder.result.now c.args.self.now.launch_spec.folder c.job.result.now c.args.self.now.launch_spec.job c.args.attempt c.args.facts.now.launch c.command_of_job.result
    (c.folder-folder.ensures ∙ ap (λ (n : NodeSpec). n.launch_spec.folder) c.self.view_is) (c.job.ensures ∙ ap (λ (n : NodeSpec). n.launch_spec.job) c.self.view_is) c.command_of_job.ensures)

pub returns-in_ok-facts-in-Post : goal.returns-in_ok-facts-in-Post
unfolding phase_command
returns-in_ok-facts-in-Post c =
    rw (c.in-Post.is) (script_gives c.args.self.now c.args.self.now.launch_spec.post c.args.attempt true c.args.facts.now c.folder-folder.result.now c.post.result.now c.in_ok-facts-in-Post.facts c.script_command-in-Post.result
    (c.folder-folder.ensures ∙ ap (λ (n : NodeSpec). n.launch_spec.folder) c.self.view_is) (c.post.ensures ∙ ap (λ (n : NodeSpec). n.launch_spec.post) c.self.view_is)
    c.in_ok-facts-in-Post.ensures c.script_command-in-Post.ensures.ok c.script_command-in-Post.ensures.err)
