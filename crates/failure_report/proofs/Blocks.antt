-- What is reported of nodes, one by one.
use Rattle.std.proofs.Common.{◌≡◌, ℕ, ◌+◌, ◌<◌, List, [], ◌++◌, Option, Some, length, codes, take, get_or, sym, ap, ◌∙◌, subst}
use Rattle.std.proofs.lemmas.List.{take_more}
use Rattle.node_machine.specs.declared.Ended.{Ended}
use Rattle.run_plan_node.specs.Node.{NodeSpec}
use Rattle.run_plan.specs.Plan.{Plan, node_at}
use Rattle.failure_report.specs.declared.failed.Failure.{Failure}
use Rattle.failure_report.specs.declared.groups.Group.{Group}
use Rattle.failure_report.specs.declared.why.Reported.{Reported}
use Rattle.failure_report.specs.Heads.{head_line}
use Rattle.failure_report.specs.Hanging.{hung}
use Rattle.failure_report.specs.Reported.{IsFailureBlock, has_line, IsStandingBlock, has_words, HasBlock, HasBlocks, behind}
use Rattle.failure_report.specs.Grouped.{HasGroup, HasGroups, one_more_group}

pub line_and_more : (plan : Plan) (failure : Failure) (end : Ended) (reason : Option (List ℕ)) (spec : NodeSpec) (name : List ℕ) (retries : ℕ) (start headed more now block : List ℕ)
    → failure.end ≡ Some end → spec ≡ node_at plan failure.node → name ≡ spec.name → retries ≡ spec.course.retries → start ≡ []
    → headed ≡ start ++ head_line name end reason retries failure.waiting → now ≡ headed ++ more → block ≡ hung now → IsFailureBlock plan failure block
line_and_more plan failure end reason spec name retries start headed more now block is of named counted none line added set =
    let same : headed ≡ head_line (node_at plan failure.node).name end reason (node_at plan failure.node).course.retries failure.waiting =
    line ∙ ap (λ (s : List ℕ). s ++ head_line name end reason retries failure.waiting) none
    ∙ (λ j. head_line ((named ∙ ap (λ (s : NodeSpec). s.name) of) j) end reason ((counted ∙ ap (λ (s : NodeSpec). s.course.retries) of) j) failure.waiting) in
    subst (IsFailureBlock plan failure) (sym (set ∙ ap hung (added ∙ ap (λ (s : List ℕ). s ++ more) same))) (has_line end reason more is)

pub name_and_words : (plan : Plan) (node : ℕ) (spec : NodeSpec) (name words start now block : List ℕ)
    → spec ≡ node_at plan node → name ≡ spec.name → start ≡ [] → now ≡ start ++ (name ++ (codes " " ++ words)) → block ≡ hung now → IsStandingBlock plan node block
name_and_words plan node spec name words start now block of named none added set =
    let same : now ≡ (node_at plan node).name ++ (codes " " ++ words) =
    added ∙ ap (λ (s : List ℕ). s ++ (name ++ (codes " " ++ words))) none ∙ ap (λ (n : List ℕ). n ++ (codes " " ++ words)) (named ∙ ap (λ (s : NodeSpec). s.name) of) in
    subst (IsStandingBlock plan node) (sym (set ∙ ap hung same)) (has_words words)

pub blocks_more : (plan : Plan) (reported : List Reported) (i : ℕ) (x : Reported) (before now : List ℕ) → i < length reported → x ≡ get_or reported i x → HasBlocks plan (take i reported) before
    → HasBlock plan x before now → HasBlocks plan (take (i + 1) reported) now
blocks_more plan reported i x before now lt is blocks block =
    subst (λ (ts : List Reported). HasBlocks plan ts now) (sym (take_more reported i x lt))
    (behind blocks (subst (λ (one : Reported). HasBlock plan one before now) is block))

pub groups_more : (plan : Plan) (groups : List Group) (i : ℕ) (x : Group) (before now : List ℕ) → i < length groups → x ≡ get_or groups i x → HasGroups plan (take i groups) before
    → HasGroup plan x before now → HasGroups plan (take (i + 1) groups) now
groups_more plan groups i x before now lt is blocks block =
    subst (λ (gs : List Group). HasGroups plan gs now) (sym (take_more groups i x lt))
    (one_more_group blocks (subst (λ (one : Group). HasGroup plan one before now) is block))
