-- Plans and runs of them.
use Rattle.std.specs.Prelude.{ℕ, Bool, true, false, List, [], ◌∷◌, pos, codes, Some, None, ◌==◌, ◌&&◌, if◌then◌else◌}
use Rattle.node_machine.specs.declared.Phase.{Phase}
use Rattle.node_machine.specs.declared.Phase.TheVariants.{Pre, Job, Post}
use Rattle.node_machine.specs.declared.Outcome.TheVariants.{Exit, Signal}
use Rattle.node_machine.specs.declared.Outcome.{Outcome}
use Rattle.node_machine.specs.declared.Key.{Key}
use Rattle.node_machine.specs.declared.Course.{Course}
use Rattle.node_machine.specs.Story.{Table}
use Rattle.node_machine.specs.declared.Record.{Record}
use Rattle.node_machine.specs.declared.Record.TheVariants.{Life, Launch, End, Finish}
use Rattle.dag_graph.specs.Graph.{Network}
use Rattle.run_plan_node.specs.Node.{NodeSpec, Program, no_launch_spec}
use Rattle.run_plan.specs.Plan.{Plan}
use Rattle.sched_core.specs.Run.{chronological}
use Rattle.sched_core.specs.Rounds.{Round}

abbrev pub job_alone : ℕ → Bool → Course
job_alone retries post = record { pre = false; noop = false; post = post; always_post = false; retries = retries; unless_exit = None; pre_skip = None; abort_on = None }

abbrev pub node : ℕ → Course → Bool → List ℕ → NodeSpec
node name course done parents = record { name = name ∷ []; course = course; done = done; parents = parents; abort_return = None; priority = pos 0; category = None; launch_spec = no_launch_spec }

-- these plans come from no files
abbrev pub no_graph : Network
no_graph = record { dag = record { top = []; nodes = []; final_node = None; edges = []; categories = []; warnings = [] }; order = [] }

-- A with one retry, and B with a POST script below it
abbrev pub two_nodes : Plan
two_nodes = record {
  nodes = node 65 (job_alone 1 false) false [] ∷ node 66 (job_alone 0 true) false (0 ∷ []) ∷ [];
  final_node = None;
  graph = no_graph;
  digest = [];
  always_post = false;
}

abbrev pub key : ℕ → ℕ → Phase → Key
key node attempt phase = record { node = node; attempt = attempt; phase = phase }

-- A fails once; a crash loses its second launch; B's job fails, and its POST is good
abbrev pub its_run : List Record
its_run =
    Finish 0
    ∷ End (key 1 0 Post) (Exit 0) ∷ Launch (key 1 0 Post) 0
    ∷ End (key 1 0 Job) (Exit 3) ∷ Launch (key 1 0 Job) 4
    ∷ End (key 0 1 Job) (Exit 0) ∷ Launch (key 0 1 Job) 3 ∷ Life
    ∷ Launch (key 0 1 Job) 2
    ∷ End (key 0 0 Job) (Signal 9) ∷ Launch (key 0 0 Job) 1 ∷ Life ∷ []

-- A above B and C, and these above D
abbrev pub diamond : Plan
diamond = record {
  nodes = node 65 (job_alone 0 false) false [] ∷ node 66 (job_alone 0 false) false (0 ∷ []) ∷ node 67 (job_alone 0 false) false (0 ∷ [])
      ∷ node 68 (job_alone 0 false) false (1 ∷ 2 ∷ []) ∷ [];
  final_node = None;
  graph = no_graph;
  digest = [];
  always_post = false;
}

-- a crash once the launch of B is recorded, and one once the end of B is
abbrev pub diamond_run : List Record
diamond_run = chronological (
    Life ∷ Launch (key 0 0 Job) 1 ∷ End (key 0 0 Job) (Exit 0) ∷ Launch (key 1 0 Job) 2
    ∷ Life ∷ Launch (key 1 0 Job) 3 ∷ Launch (key 2 0 Job) 4 ∷ End (key 1 0 Job) (Exit 0)
    ∷ Life ∷ Launch (key 2 0 Job) 5 ∷ End (key 2 0 Job) (Exit 0) ∷ Launch (key 3 0 Job) 6 ∷ End (key 3 0 Job) (Exit 0) ∷ Finish 0 ∷ [])

-- the same in one life
abbrev pub diamond_life : List Record
diamond_life = chronological (
    Life ∷ Launch (key 0 0 Job) 1 ∷ End (key 0 0 Job) (Exit 0) ∷ Launch (key 1 0 Job) 2 ∷ Launch (key 2 0 Job) 3
    ∷ End (key 1 0 Job) (Exit 0) ∷ End (key 2 0 Job) (Exit 0) ∷ Launch (key 3 0 Job) 4 ∷ End (key 3 0 Job) (Exit 0) ∷ Finish 0 ∷ [])

-- B aborts at 7, beside A; F is the FINAL node
abbrev pub abort_plan : Plan
abort_plan = record {
  nodes =
      node 66 (record { pre = false; noop = false; post = false; always_post = false; retries = 3; unless_exit = None; pre_skip = None; abort_on = Some (pos 7) }) false []
      ∷ node 65 (job_alone 0 false) false [] ∷ [];
  final_node = Some (node 70 (job_alone 0 false) false []);
  graph = no_graph;
  digest = [];
  always_post = false;
}

abbrev pub abort_run : List Record
abort_run = chronological (
    Life ∷ Launch (key 0 0 Job) 1 ∷ Launch (key 1 0 Job) 2 ∷ End (key 0 0 Job) (Exit 7)
    ∷ Launch (key 2 0 Job) 3 ∷ End (key 2 0 Job) (Exit 0) ∷ Finish 0 ∷ [])

-- A is a NOOP with both scripts, B is done from the start, C is below B
abbrev pub noop_plan : Plan
noop_plan = record {
  nodes =
      node 65 (record { pre = true; noop = true; post = true; always_post = false; retries = 0; unless_exit = None; pre_skip = None; abort_on = None }) false []
      ∷ node 66 (job_alone 0 false) true (0 ∷ []) ∷ node 67 (job_alone 0 false) false (1 ∷ []) ∷ [];
  final_node = None;
  graph = no_graph;
  digest = [];
  always_post = false;
}

abbrev pub noop_table : Table
noop_table node attempt Pre = Exit 0
noop_table node attempt Job = if node == 0 && (attempt == 0) then Exit 7 else Exit 0
noop_table node attempt Post = if node == 0 && (attempt == 0) then Exit 2 else Exit 0

abbrev pub noop_run : List Record
noop_run = chronological (
    Life ∷ Launch (key 0 0 Pre) 0 ∷ Launch (key 2 0 Job) 1 ∷ End (key 0 0 Pre) (Exit 0) ∷ Launch (key 0 0 Job) 2
    ∷ End (key 0 0 Job) (Exit 0) ∷ Launch (key 0 0 Post) 0 ∷ End (key 0 0 Post) (Exit 2) ∷ End (key 2 0 Job) (Exit 0) ∷ Finish 1 ∷ [])

-- A has both scripts, and POST runs after a failed PRE; B is below A
abbrev pub always_plan : Plan
always_plan = record {
  nodes =
      node 65 (record { pre = true; noop = false; post = true; always_post = true; retries = 0; unless_exit = None; pre_skip = Some (pos 4); abort_on = None }) false []
      ∷ node 66 (job_alone 0 false) false (0 ∷ []) ∷ [];
  final_node = None;
  graph = no_graph;
  digest = [];
  always_post = true;
}

-- PRE fails, no job of A runs, and POST is good
abbrev pub always_run : List Record
always_run = chronological (
    Life ∷ Launch (key 0 0 Pre) 0 ∷ End (key 0 0 Pre) (Exit 5) ∷ Launch (key 0 0 Post) 0 ∷ End (key 0 0 Post) (Exit 0)
    ∷ Launch (key 1 0 Job) 1 ∷ End (key 1 0 Job) (Exit 0) ∷ Finish 0 ∷ [])

-- A above B, which has a retry, and Y beside them
abbrev pub plan_p : Plan
plan_p = record {
  nodes = node 65 (job_alone 0 false) false [] ∷ node 66 (job_alone 1 false) false (0 ∷ []) ∷ node 89 (job_alone 0 false) false [] ∷ [];
  final_node = None;
  graph = no_graph;
  digest = [];
  always_post = false;
}

-- the same A and B after X
abbrev pub plan_q : Plan
plan_q = record {
  nodes = node 88 (job_alone 2 false) false [] ∷ node 65 (job_alone 0 false) false [] ∷ node 66 (job_alone 1 false) false (1 ∷ []) ∷ [];
  final_node = None;
  graph = no_graph;
  digest = [];
  always_post = false;
}

-- all goes well
abbrev pub first_good : Table
first_good node attempt phase = Exit 0

-- B fails at its first attempt
abbrev pub first_fails : ℕ → Table
first_fails b node attempt Pre = Exit 0
first_fails b node attempt Job = if node == b && (attempt == 0) then Exit 1 else Exit 0
first_fails b node attempt Post = Exit 0

-- A, whose PRE script has these words
abbrev pub scripted : List (List ℕ) → Plan
scripted words = record {
  nodes = record (node 65 (record { pre = true; noop = false; post = false; always_post = false; retries = 1; unless_exit = None; pre_skip = None; abort_on = None }) false [])
      { launch_spec = record { folder = codes "work"; pre = Some words; post = None; job = Program (codes "A.sub") } } ∷ [];
  final_node = None;
  graph = no_graph;
  digest = [];
  always_post = false;
}

-- its script is given the attempt; how many nodes failed, which is known in the whole run alone; and 0 always
abbrev pub told_attempt : Plan
told_attempt = scripted (codes "check.sh" ∷ codes "$JOB" ∷ codes "$RETRY" ∷ [])

abbrev pub told_failed : Plan
told_failed = scripted (codes "check.sh" ∷ codes "$FAILED_COUNT" ∷ [])

abbrev pub told_0 : Plan
told_0 = scripted (codes "check.sh" ∷ codes "0" ∷ [])

-- PRE and the job of A end well at once
abbrev pub told_run : List Record
told_run = chronological (
    Life ∷ Launch (key 0 0 Pre) 0 ∷ End (key 0 0 Pre) (Exit 0) ∷ Launch (key 0 0 Job) 1 ∷ End (key 0 0 Job) (Exit 0) ∷ Finish 0 ∷ [])

-- A, which may be done from the start, above B, which aborts at 7
abbrev pub stopped_plan : Bool → Plan
stopped_plan done = record {
  nodes =
      node 65 (job_alone 0 false) done []
      ∷ node 66 (record { pre = false; noop = false; post = false; always_post = false; retries = 0; unless_exit = None; pre_skip = None; abort_on = Some (pos 7) }) false (0 ∷ []) ∷ [];
  final_node = None;
  graph = no_graph;
  digest = [];
  always_post = false;
}

-- B ends so
abbrev pub b_ends : Outcome → Table
b_ends outcome number attempt phase = if number == 1 then outcome else Exit 0

-- a round that B aborts once A is done, and the next one, in which B is good
abbrev pub stopped_round : Round
stopped_round = record {
  plan = stopped_plan false;
  table = b_ends (Exit 7);
  records = chronological (
      Life ∷ Launch (key 0 0 Job) 1 ∷ End (key 0 0 Job) (Exit 0)
      ∷ Launch (key 1 0 Job) 2 ∷ End (key 1 0 Job) (Exit 7) ∷ Finish 7 ∷ []);
}

abbrev pub next_round : Round
next_round = record {
  plan = stopped_plan true;
  table = b_ends (Exit 0);
  records = chronological (Life ∷ Launch (key 1 0 Job) 1 ∷ End (key 1 0 Job) (Exit 0) ∷ Finish 0 ∷ []);
}

-- a job that fails in one round and is good in the next
abbrev pub one_job : Plan
one_job = record { nodes = node 65 (job_alone 0 false) false [] ∷ []; final_node = None; graph = no_graph; digest = []; always_post = false }

abbrev pub run_to : Outcome → ℕ → List Record
run_to outcome status = chronological (Life ∷ Launch (key 0 0 Job) 1 ∷ End (key 0 0 Job) outcome ∷ Finish status ∷ [])

abbrev pub round_of : Outcome → ℕ → Round
round_of outcome status = record {
  plan = one_job;
  table = λ number attempt phase. outcome;
  records = run_to outcome status;
}
