use Rattle.std.proofs.Common.{rules, ◌≡◌, ℕ, List, Bor, IfOk, IfErr, map, subst}
use Rattle.dag_main_files.specs.Opened.{changing, fixed}
use Rattle.dag_main_inspect.specs.Asked.{IsAnswer, IsNotAnswered}
use Rattle.dag_main_inspect.specs.declared.statuses.Form.{Form}
use Rattle.dag_main_inspect.specs.declared.graphs.Shape.{Shape}
use Rattle.dag_main_inspect.specs.declared.by_journal.Question.TheVariants.{Status, Audit, Graph}
use Rattle.failure_answers.specs.declared.form.WhyForm.{WhyForm}
use Rattle.failure_answers.specs.Answered.{IsWhy}
use Rattle.run_times.specs.declared.form.Form.{Form as TimesForm}
use Rattle.run_times.specs.Answered.{IsTimes, IsNoTimes}
use Rattle.dagrun.specs.Answered.{why_form}
use Rattle.dagrun.proofs.Checks.{IsPlain}
use Rattle.dagrun.proofs.OfRound.{viewed, unviewed}
use Rattle.dagrun.proofs.of_round.view_of.Goals as goal

pub returns-in-Status-clause-answered : goal.returns-in-Status-clause-answered
returns-in-Status-clause-answered g c =
    viewed changing c.args.place.now.top.now c.args.view _ c.in-Status.is c.answer_here.result
    (subst (λ (f : Form). IfOk c.answer_here.result (IsPlain (IsAnswer changing (Status f) c.args.place.now.top.now))) c.form_asked.ensures c.answer_here.ensures.answered)

pub returns-in-Status-clause-held : goal.returns-in-Status-clause-held
returns-in-Status-clause-held g c = λ honest.
    viewed (fixed (g.F.Folder.holds c.args.folder.now)) c.args.place.now.top.now c.args.view _ c.in-Status.is c.answer_here.result
    (subst (λ (f : Form). IfOk c.answer_here.result (IsPlain (IsAnswer (fixed (g.F.Folder.holds c.args.folder.now)) (Status f) c.args.place.now.top.now))) c.form_asked.ensures (c.answer_here.ensures.held honest))

pub returns-in-Status-clause-refused : goal.returns-in-Status-clause-refused
returns-in-Status-clause-refused g c =
    unviewed changing c.args.place.now.top.now c.args.view _ c.in-Status.is c.answer_here.result
    (subst (λ (f : Form). IfErr c.answer_here.result (IsNotAnswered changing (Status f) c.args.place.now.top.now)) c.form_asked.ensures c.answer_here.ensures.refused)

pub returns-in-Status-clause-refused_held : goal.returns-in-Status-clause-refused_held
returns-in-Status-clause-refused_held g c = λ honest.
    unviewed (fixed (g.F.Folder.holds c.args.folder.now)) c.args.place.now.top.now c.args.view _ c.in-Status.is c.answer_here.result
    (subst (λ (f : Form). IfErr c.answer_here.result (IsNotAnswered (fixed (g.F.Folder.holds c.args.folder.now)) (Status f) c.args.place.now.top.now)) c.form_asked.ensures (c.answer_here.ensures.refused_held honest))

pub returns-in-Audit-clause-answered : goal.returns-in-Audit-clause-answered
returns-in-Audit-clause-answered g c =
    viewed changing c.args.place.now.top.now c.args.view _ c.in-Audit.is c.answer_here-in-Audit.result
    (subst (λ (f : Form). IfOk c.answer_here-in-Audit.result (IsPlain (IsAnswer changing (Audit f) c.args.place.now.top.now))) c.form_asked-in-Audit.ensures c.answer_here-in-Audit.ensures.answered)

pub returns-in-Audit-clause-held : goal.returns-in-Audit-clause-held
returns-in-Audit-clause-held g c = λ honest.
    viewed (fixed (g.F.Folder.holds c.args.folder.now)) c.args.place.now.top.now c.args.view _ c.in-Audit.is c.answer_here-in-Audit.result
    (subst (λ (f : Form). IfOk c.answer_here-in-Audit.result (IsPlain (IsAnswer (fixed (g.F.Folder.holds c.args.folder.now)) (Audit f) c.args.place.now.top.now))) c.form_asked-in-Audit.ensures (c.answer_here-in-Audit.ensures.held honest))

pub returns-in-Audit-clause-refused : goal.returns-in-Audit-clause-refused
returns-in-Audit-clause-refused g c =
    unviewed changing c.args.place.now.top.now c.args.view _ c.in-Audit.is c.answer_here-in-Audit.result
    (subst (λ (f : Form). IfErr c.answer_here-in-Audit.result (IsNotAnswered changing (Audit f) c.args.place.now.top.now)) c.form_asked-in-Audit.ensures c.answer_here-in-Audit.ensures.refused)

pub returns-in-Audit-clause-refused_held : goal.returns-in-Audit-clause-refused_held
returns-in-Audit-clause-refused_held g c = λ honest.
    unviewed (fixed (g.F.Folder.holds c.args.folder.now)) c.args.place.now.top.now c.args.view _ c.in-Audit.is c.answer_here-in-Audit.result
    (subst (λ (f : Form). IfErr c.answer_here-in-Audit.result (IsNotAnswered (fixed (g.F.Folder.holds c.args.folder.now)) (Audit f) c.args.place.now.top.now)) c.form_asked-in-Audit.ensures (c.answer_here-in-Audit.ensures.refused_held honest))

pub returns-in-Graph-clause-answered : goal.returns-in-Graph-clause-answered
returns-in-Graph-clause-answered g c =
    viewed changing c.args.place.now.top.now c.args.view _ c.in-Graph.is c.answer_here-in-Graph.result
    (subst (λ (f : Shape). IfOk c.answer_here-in-Graph.result (IsPlain (IsAnswer changing (Graph f) c.args.place.now.top.now))) c.shape_asked.ensures c.answer_here-in-Graph.ensures.answered)

pub returns-in-Graph-clause-held : goal.returns-in-Graph-clause-held
returns-in-Graph-clause-held g c = λ honest.
    viewed (fixed (g.F.Folder.holds c.args.folder.now)) c.args.place.now.top.now c.args.view _ c.in-Graph.is c.answer_here-in-Graph.result
    (subst (λ (f : Shape). IfOk c.answer_here-in-Graph.result (IsPlain (IsAnswer (fixed (g.F.Folder.holds c.args.folder.now)) (Graph f) c.args.place.now.top.now))) c.shape_asked.ensures (c.answer_here-in-Graph.ensures.held honest))

pub returns-in-Graph-clause-refused : goal.returns-in-Graph-clause-refused
returns-in-Graph-clause-refused g c =
    unviewed changing c.args.place.now.top.now c.args.view _ c.in-Graph.is c.answer_here-in-Graph.result
    (subst (λ (f : Shape). IfErr c.answer_here-in-Graph.result (IsNotAnswered changing (Graph f) c.args.place.now.top.now)) c.shape_asked.ensures c.answer_here-in-Graph.ensures.refused)

pub returns-in-Graph-clause-refused_held : goal.returns-in-Graph-clause-refused_held
returns-in-Graph-clause-refused_held g c = λ honest.
    unviewed (fixed (g.F.Folder.holds c.args.folder.now)) c.args.place.now.top.now c.args.view _ c.in-Graph.is c.answer_here-in-Graph.result
    (subst (λ (f : Shape). IfErr c.answer_here-in-Graph.result (IsNotAnswered (fixed (g.F.Folder.holds c.args.folder.now)) (Graph f) c.args.place.now.top.now)) c.shape_asked.ensures (c.answer_here-in-Graph.ensures.refused_held honest))

pub returns-in-Why-clause-answered : goal.returns-in-Why-clause-answered
returns-in-Why-clause-answered g c =
    viewed changing c.args.place.now.top.now c.args.view _ c.in-Why.is c.why_here.result
    (let same : c.deref.result.now ≡ c.in-Why.nodes.items = search rules in
    subst (λ (ns : List (Bor (List ℕ))). IfOk c.why_here.result (IsPlain (IsWhy changing (why_form c.in-Why.all c.in-Why.json) c.args.place.now.top.now (map (λ (n : Bor (List ℕ)). n.now) ns)))) same
    (subst (λ (form : WhyForm). IfOk c.why_here.result (IsPlain (IsWhy changing form c.args.place.now.top.now (map (λ (n : Bor (List ℕ)). n.now) c.deref.result.now)))) c.why_form.ensures c.why_here.ensures.answered))

pub returns-in-Why-clause-held : goal.returns-in-Why-clause-held
returns-in-Why-clause-held g c = λ honest.
    viewed (fixed (g.F.Folder.holds c.args.folder.now)) c.args.place.now.top.now c.args.view _ c.in-Why.is c.why_here.result
    (let same : c.deref.result.now ≡ c.in-Why.nodes.items = search rules in
    subst (λ (ns : List (Bor (List ℕ))). IfOk c.why_here.result (IsPlain (IsWhy (fixed (g.F.Folder.holds c.args.folder.now)) (why_form c.in-Why.all c.in-Why.json) c.args.place.now.top.now (map (λ (n : Bor (List ℕ)). n.now) ns)))) same
    (subst (λ (form : WhyForm). IfOk c.why_here.result (IsPlain (IsWhy (fixed (g.F.Folder.holds c.args.folder.now)) form c.args.place.now.top.now (map (λ (n : Bor (List ℕ)). n.now) c.deref.result.now)))) c.why_form.ensures (c.why_here.ensures.held honest)))

pub returns-in-Why-clause-refused : goal.returns-in-Why-clause-refused
returns-in-Why-clause-refused g c =
    unviewed changing c.args.place.now.top.now c.args.view _ c.in-Why.is c.why_here.result
    (c.why_here.ensures.refused)

pub returns-in-Why-clause-refused_held : goal.returns-in-Why-clause-refused_held
returns-in-Why-clause-refused_held g c = λ honest.
    unviewed (fixed (g.F.Folder.holds c.args.folder.now)) c.args.place.now.top.now c.args.view _ c.in-Why.is c.why_here.result
    (c.why_here.ensures.refused_held honest)

pub returns-in-Times-clause-answered : goal.returns-in-Times-clause-answered
returns-in-Times-clause-answered g c =
    viewed changing c.args.place.now.top.now c.args.view _ c.in-Times.is c.times_here.result
    (subst (λ (form : TimesForm). IfOk c.times_here.result (IsPlain (IsTimes changing c.args.place.now.top.now form))) c.times_form-form.ensures c.times_here.ensures.answered)

pub returns-in-Times-clause-held : goal.returns-in-Times-clause-held
returns-in-Times-clause-held g c = λ honest.
    viewed (fixed (g.F.Folder.holds c.args.folder.now)) c.args.place.now.top.now c.args.view _ c.in-Times.is c.times_here.result
    (subst (λ (form : TimesForm). IfOk c.times_here.result (IsPlain (IsTimes (fixed (g.F.Folder.holds c.args.folder.now)) c.args.place.now.top.now form))) c.times_form-form.ensures (c.times_here.ensures.held honest))

pub returns-in-Times-clause-refused : goal.returns-in-Times-clause-refused
returns-in-Times-clause-refused g c =
    unviewed changing c.args.place.now.top.now c.args.view _ c.in-Times.is c.times_here.result
    (subst (λ (form : TimesForm). IfErr c.times_here.result (IsNoTimes changing c.args.place.now.top.now form)) c.times_form-form.ensures c.times_here.ensures.refused)

pub returns-in-Times-clause-refused_held : goal.returns-in-Times-clause-refused_held
returns-in-Times-clause-refused_held g c = λ honest.
    unviewed (fixed (g.F.Folder.holds c.args.folder.now)) c.args.place.now.top.now c.args.view _ c.in-Times.is c.times_here.result
    (subst (λ (form : TimesForm). IfErr c.times_here.result (IsNoTimes (fixed (g.F.Folder.holds c.args.folder.now)) c.args.place.now.top.now form)) c.times_form-form.ensures (c.times_here.ensures.refused_held honest))

pub returns-in-Report-clause-answered : goal.returns-in-Report-clause-answered
returns-in-Report-clause-answered g c =
    viewed changing c.args.place.now.top.now c.args.view _ c.in-Report.is c.page_here.result
    (c.page_here.ensures.answered)

pub returns-in-Report-clause-held : goal.returns-in-Report-clause-held
returns-in-Report-clause-held g c = λ honest.
    viewed (fixed (g.F.Folder.holds c.args.folder.now)) c.args.place.now.top.now c.args.view _ c.in-Report.is c.page_here.result
    (c.page_here.ensures.held honest)

pub returns-in-Report-clause-refused : goal.returns-in-Report-clause-refused
returns-in-Report-clause-refused g c =
    unviewed changing c.args.place.now.top.now c.args.view _ c.in-Report.is c.page_here.result
    (c.page_here.ensures.refused)

pub returns-in-Report-clause-refused_held : goal.returns-in-Report-clause-refused_held
returns-in-Report-clause-refused_held g c = λ honest.
    unviewed (fixed (g.F.Folder.holds c.args.folder.now)) c.args.place.now.top.now c.args.view _ c.in-Report.is c.page_here.result
    (c.page_here.ensures.refused_held honest)
