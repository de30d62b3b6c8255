use Rattle.std.proofs.Common.{◌∙◌, ap, drop, subst, sym}
use Rattle.dag_main_run.specs.StatusFile.{IsAfterPath}
use Rattle.dag_main_run.proofs.Strings.{after-string}
use Rattle.dag_main_run.proofs.status_file.begins_as_status.Goals as goal

pub returns-in-Some-clause-status : goal.returns-in-Some-clause-status
returns-in-Some-clause-status c = λ inside after is_inside same is.
    let path_is = c.in-Some.ensures.cases.1 ∙ ap (drop 8) same in
    subst IsAfterPath (after-string c.in-Some.path.now inside after c.string_length.result path_is (c.string_length.ensures.ends inside after is_inside path_is))
    (c.is_after_path.ensures.status is)

pub returns-in-Some-clause-every : goal.returns-in-Some-clause-every
returns-in-Some-clause-every c = λ inside after is_inside same is.
    let path_is = c.in-Some.ensures.cases.1 ∙ ap (drop 8) same in
    c.is_after_path.ensures.every
    (subst IsAfterPath (sym (after-string c.in-Some.path.now inside after c.string_length.result path_is (c.string_length.ensures.ends inside after is_inside path_is))) is)
