-- The values of an attempt that a POST script may read.
use Rattle.std.specs.Prelude.{ℤ, negsuc, Bool, not, ◌&&◌, if◌then◌else◌}
use Rattle.node_machine.specs.declared.Course.{Course}
use Rattle.node_machine.specs.declared.Outcome.{Outcome}
use Rattle.node_machine.specs.Story.{value_of, is_exit_0}

-- the value of PRE, where it has this outcome; -1 where the course has no PRE
abbrev pub pre_value_of : Course → Outcome → ℤ
pre_value_of course outcome = if course.pre then value_of outcome else negsuc 0

-- PRE is there and failed, so that no job runs
abbrev pub is_without_job : Course → Outcome → Bool
is_without_job course pre = course.pre && not (is_exit_0 pre)

-- the value of the job, where PRE and it have these outcomes; -1004 where no job runs after a failed PRE
abbrev pub job_value_of : Course → Outcome → Outcome → ℤ
job_value_of course pre job = if is_without_job course pre then negsuc 1003 else value_of job

-- the values of the job and of PRE in an attempt of which these ended so
abbrev pub attempt_values : Course → Outcome → Outcome → ℤ × ℤ
attempt_values course pre job = (job_value_of course pre job, pre_value_of course pre)
