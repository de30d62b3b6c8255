use Rattle.std.proofs.Common.{◌≡◌, ◌∙◌, Some, take, sym, ap, arith}
use Rattle.std.specs.List.{slice_range}
use Rattle.std.proofs.lemmas.Str.Pattern.{rfind_char}
use Rattle.dag_main_files.specs.Beside.{folder_before}
use Rattle.dag_main_files.proofs.Folders.{last-of, before-slash}
use Rattle.dag_main_files.proofs.beside.folder_of.Goals as goal

pub returns-in-Some-eq0 : goal.returns-in-Some-eq0
returns-in-Some-eq0 c =
    let last = last-of 47 c.args.path.now c.rfind.result (rfind_char 47 c.args.path.now c.rfind.result c.rfind.ensures.cases (omega arith)) in
    sym (ap (folder_before c.args.path.now) (last ∙ c.in-Some-eq0.is ∙ ap Some c.in-Some-eq0.field-0-test))

pub returns-in-Some : goal.returns-in-Some
returns-in-Some c =
    let last = last-of 47 c.args.path.now c.rfind.result (rfind_char 47 c.args.path.now c.rfind.result c.rfind.ensures.cases (omega arith)) in
    let front : slice_range c.args.path.now 0 c.in-Some.slash ≡ take c.in-Some.slash c.args.path.now = ap (λ n. take n c.args.path.now) (omega arith) in
    c.range.ensures.value ∙ front
    ∙ sym (ap (folder_before c.args.path.now) (last ∙ c.in-Some.is) ∙ before-slash c.args.path.now c.in-Some.slash c.in-Some.slash-test.1)

pub returns-in-None : goal.returns-in-None
returns-in-None c =
    let last = last-of 47 c.args.path.now c.rfind.result (rfind_char 47 c.args.path.now c.rfind.result c.rfind.ensures.cases (omega arith)) in
    sym (ap (folder_before c.args.path.now) (last ∙ c.in-None.is))
