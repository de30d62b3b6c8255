use Rattle.std.proofs.Common.{IfOk, map, sym, subst}
use Rattle.std.proofs.lemmas.Result.{IfOk-weaker}
use Rattle.failure_answers.specs.Answered.{IsWhyOfAllIn, IsWhyOfNamedIn}
use Rattle.failure_answers.specs.declared.form.WhyForm.{WhyForm}
use Rattle.failure_answers.proofs.Naming.{all-text, named-text}
use Rattle.failure_answers.proofs.why_in.Goals as goal

pub returns-in-Text-clause-all : goal.returns-in-Text-clause-all
returns-in-Text-clause-all g c = λ none.
    let plan = c.args.core.now.plan in
    let past = c.args.core.now.past in
    subst (λ (form : WhyForm). IfOk c.why_text.result (IsWhyOfAllIn form plan past c.args.place.now.top.now)) (sym c.in-Text.is)
    (IfOk-weaker c.why_text.result _ _ (all-text c.in-Text.grouping plan past c.args.place.now.top.now) (c.why_text.ensures.all none))

pub returns-in-Text-clause-named : goal.returns-in-Text-clause-named
returns-in-Text-clause-named g c = λ some.
    let plan = c.args.core.now.plan in
    let past = c.args.core.now.past in
    subst (λ (form : WhyForm). IfOk c.why_text.result (IsWhyOfNamedIn form plan past c.args.place.now.top.now (map (λ n. n.now) c.args.names.now))) (sym c.in-Text.is)
    (IfOk-weaker c.why_text.result _ _ (named-text c.in-Text.grouping plan past c.args.place.now.top.now (map (λ n. n.now) c.args.names.now)) (c.why_text.ensures.named some))

pub returns-in-Json-clause-all : goal.returns-in-Json-clause-all
returns-in-Json-clause-all g c = λ none.
    subst (λ (form : WhyForm). IfOk c.why_json.result (IsWhyOfAllIn form c.args.core.now.plan c.args.core.now.past c.args.place.now.top.now)) (sym c.in-Json.is)
    (c.why_json.ensures.all none)

pub returns-in-Json-clause-named : goal.returns-in-Json-clause-named
returns-in-Json-clause-named g c = λ some.
    subst (λ (form : WhyForm). IfOk c.why_json.result (IsWhyOfNamedIn form c.args.core.now.plan c.args.core.now.past c.args.place.now.top.now (map (λ n. n.now) c.args.names.now)))
    (sym c.in-Json.is) (c.why_json.ensures.named some)
