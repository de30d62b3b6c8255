use Rattle.splices_flat.specs.FileSet.{bytes_of, entries_of}
use Rattle.dag_main_check.proofs.Refusals.{by-fault}
use Rattle.dag_main_check.proofs.plans.plan_by.Goals as goal

pub returns-in-Err-clause-refused : goal.returns-in-Err-clause-refused
returns-in-Err-clause-refused c =
    rw (c.from.ensures) (by-fault c.args.always_post (bytes_of c.args.files.now) (entries_of c.args.files.now) _ c.args.graph c.in-Err.fault c.in-Err.ensures.refused.1)
