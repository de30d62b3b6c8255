-- What the files say of a node.
use Rattle.std.specs.Prelude.{ℕ, ◌||◌, ℤ, pos, Bool, List, Option, Some, None, is_some, position}
use Rattle.std.specs.Option.{option_map}
use Rattle.std.specs.Str.{bytes_eq}
use Rattle.node_machine.specs.declared.Course.{Course}
use Rattle.splices_flat.specs.declared.flat.FlatNode.{FlatNode}
use Rattle.splices_flat.specs.declared.flat.ScriptSetting.{ScriptSetting}
use Rattle.splices_flat.specs.declared.flat.RetrySetting.{RetrySetting}
use Rattle.splices_flat.specs.declared.flat.AbortSetting.{AbortSetting}
use Rattle.splices_flat.specs.declared.flat.CategoryLimit.{CategoryLimit}
use Rattle.splices_flat.specs.declared.flat.CategorySetting.{CategorySetting}
use Rattle.splices_flat.specs.declared.flat.PrioritySetting.{PrioritySetting}
use Rattle.run_plan_node.specs.Node.{Job, LaunchSpec, NodeSpec}

-- without RETRY a node has one attempt
abbrev pub retries_of : Option RetrySetting → ℕ
retries_of None = 0
retries_of (Some s) = s.retries

abbrev pub unless_exit_of : Option RetrySetting → Option ℤ
unless_exit_of None = None
unless_exit_of (Some s) = s.unless_exit

abbrev pub abort_return_of : Option AbortSetting → Option ℕ
abort_return_of None = None
abort_return_of (Some s) = s.status

-- without PRIORITY it is 0
abbrev pub priority_of : Option PrioritySetting → ℤ
priority_of None = pos 0
priority_of (Some s) = s.value

-- what the files say of a node's attempts, and whether POST runs after a failed PRE, as the run was asked
abbrev pub course_of : Bool → FlatNode → Course
course_of always_post node = record {
  pre = is_some node.settings.pre;
  noop = node.noop;
  post = is_some node.settings.post;
  always_post = always_post;
  retries = retries_of node.settings.retry;
  unless_exit = unless_exit_of node.settings.retry;
  pre_skip = option_map (λ s. s.value) node.settings.pre_skip;
  abort_on = option_map (λ s. s.value) node.settings.abort;
}

-- the words of a script, of which the first is the program
abbrev pub script_of : Option ScriptSetting → Option (List (List ℕ))
script_of setting = option_map (λ s. s.words) setting

-- what the children of a node with this job are started by
abbrev pub launch_spec_of : Job → FlatNode → LaunchSpec
launch_spec_of job node = record {
  folder = node.folder;
  pre = script_of node.settings.pre;
  post = script_of node.settings.post;
  job = job;
}

-- the place of a category among those that have a limit; none for another
abbrev pub category_place : List CategoryLimit → Option CategorySetting → Option ℕ
category_place limits None = None
category_place limits (Some s) = position (λ limit. bytes_eq s.name limit.name) limits

-- what the files say of a node with these parents and this job, which a rescue file may have marked as done
abbrev pub spec_of : Bool → List CategoryLimit → List ℕ → Job → Bool → FlatNode → NodeSpec
spec_of always_post limits parents job marked node = record {
  name = node.name;
  course = course_of always_post node;
  done = node.done || marked;
  parents = parents;
  abort_return = abort_return_of node.settings.abort;
  priority = priority_of node.settings.priority;
  category = category_place limits node.settings.category;
  launch_spec = launch_spec_of job node;
}
