-- A node as contracts see it.
use Rattle.std.specs.Prelude.{ℕ, ℤ, pos, Bool, true, false, List, [], Option, None}
use Rattle.node_machine.specs.declared.Course.{Course}
use Rattle.vars_macros.specs.declared.assignment.Macro.{Macro}

-- What a job is started by: a program alone, where no submit file is read; or the node's name and what is assigned to
-- names, in the order in which it counts.
pub data Job : Type 0 where
  Program : List ℕ → Job
  Described : List ℕ → List Macro → Job

-- What the children of a node are started by: the node's folder, the words of its scripts, of which the first is the
-- program, and its job.
pub record LaunchSpec : Type 0 where
  pub folder : List ℕ
  pub pre : Option (List (List ℕ))
  pub post : Option (List (List ℕ))
  pub job : Job

-- a node: its name, what the files say of its attempts, whether it is done from the start, its parents' numbers,
-- the status of an abort that it causes, its priority, the place of its category among those that have a limit, if it is in
-- one of them, and what its children are started by
pub record NodeSpec : Type 0 where
  pub name : List ℕ
  pub course : Course
  pub done : Bool
  pub parents : List ℕ
  pub abort_return : Option ℕ
  pub priority : ℤ
  pub category : Option ℕ
  pub launch_spec : LaunchSpec

abbrev pub no_launch_spec : LaunchSpec
no_launch_spec = record { folder = []; pre = None; post = None; job = Program [] }

-- no node
abbrev pub no_node : NodeSpec
no_node = record {
  name = [];
  course = record { pre = false; noop = true; post = false; always_post = false; retries = 0; unless_exit = None; pre_skip = None; abort_on = None };
  done = true;
  parents = [];
  abort_return = None;
  priority = pos 0;
  category = None;
  launch_spec = no_launch_spec;
}
