use Rattle.std.proofs.Common.{List, ℕ, ◌∙◌, ap, sym, subst, map, string_bytes}
use Rattle.splices_flat.specs.Dag.{Dag}
use Rattle.dag_graph.specs.Graph.{Network}
use Rattle.dag_main_check.specs.Warnings.{warning_lines}
use Rattle.failure_answers.specs.Answered.{IsAnswerOf, IsWhyOfAllIn, IsWhyOfNamedIn}
use Rattle.failure_answers.proofs.Naming.{told-so, unknown-so}
use Rattle.failure_answers.proofs.answer_of.Goals as goal

pub returns-in-Reported-clause-answered : goal.returns-in-Reported-clause-answered
returns-in-Reported-clause-answered g c =
    let plan = c.args.core.now.plan in
    let past = c.args.core.now.past in
    subst (λ (w : List ℕ). IsAnswerOf c.args.form plan past c.args.place.now.top.now (map (λ n. n.now) c.args.names.now) (string_bytes c.in-Reported.text) w 0)
    (sym (c.in_ok-warning_text-in-Reported.ensures ∙ ap warning_lines (c.warnings.ensures ∙ ap (λ (d : Dag). d.warnings) (c.flat.ensures ∙ ap (λ (n : Network). n.dag) (c.graph.ensures.is ∙ ap (λ p. p.graph) c.plan.ensures)))))
    (told-so c.args.form plan past c.args.place.now.top.now c.args.names.now c.in-Reported.text (λ none. subst (IsWhyOfAllIn c.args.form plan past c.args.place.now.top.now) c.in-Reported.is (c.in_ok-text.ensures.all none))
    (λ some. subst (IsWhyOfNamedIn c.args.form plan past c.args.place.now.top.now (map (λ n. n.now) c.args.names.now)) c.in-Reported.is (c.in_ok-text.ensures.named some)))

pub returns-clause-answered : goal.returns-clause-answered
returns-clause-answered g c =
    let plan = c.args.core.now.plan in
    let past = c.args.core.now.past in
    subst (λ (t : List ℕ). IsAnswerOf c.args.form plan past c.args.place.now.top.now (map (λ n. n.now) c.args.names.now) t (string_bytes c.in-Unknown.warnings) 125) (sym c.new.ensures.bytes)
    (unknown-so c.args.form plan past c.args.place.now.top.now c.args.names.now c.in-Unknown.warnings (λ none. subst (IsWhyOfAllIn c.args.form plan past c.args.place.now.top.now) c.in-Unknown.is (c.in_ok-text.ensures.all none))
    (λ some. subst (IsWhyOfNamedIn c.args.form plan past c.args.place.now.top.now (map (λ n. n.now) c.args.names.now)) c.in-Unknown.is (c.in_ok-text.ensures.named some)))
