-- What a job is started by, as contracts see it.
use Rattle.run_plan_node.specs.Node as plans
use Rattle.run_plan_node.specs.declared.launch_spec.Source.{Source}
use Rattle.run_plan_node.specs.declared.launch_spec.Source.TheVariants.{Program, Described}

abbrev pub job_of : Source → plans.Job
job_of (Program file) = plans.Program file
job_of (Described macros) = plans.Described macros.job macros.assigned
