use Rattle.std.proofs.Common.{◌≡◌, ◌∙◌, IfOk, subst}
use Rattle.dag_main_files.specs.Beside.{path_refused, refusing_had_no_memory}
use Rattle.dag_main_run.proofs.rounds.refused_file.Goals as goal

pub returns-in_default : goal.returns-in_default
returns-in_default c = λ path is. refusing_had_no_memory

pub returns-in-Ok-from_str : goal.returns-in-Ok-from_str
returns-in-Ok-from_str c = λ path is. path_refused c.in-Ok-from_str.file
    (c.in-Ok-from_str.ensures.ok ∙ c.as_str.ensures ∙ subst (λ r. IfOk r (λ name. name ≡ path)) c.in-Ok.is is)

pub returns : goal.returns
returns c = λ path is. refusing_had_no_memory
