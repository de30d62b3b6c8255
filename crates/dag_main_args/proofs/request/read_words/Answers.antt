use Rattle.std.proofs.Common.{inl, inr, sym, ◌∙◌}
use Rattle.std.proofs.lemmas.Result.{IfErr-weaker, IfOk-weaker}
use Rattle.clap.specs.Words.{app_of}
use Rattle.clap.specs.Walk.{texts}
use Rattle.dag_main_args.proofs.Answering.{clash_refused, fault_refused, free_app, nothing_refused, request_asked_for}
use Rattle.dag_main_args.proofs.request.read_words.Goals as goal

pub returns-then-clashes-clause-refused : goal.returns-then-clashes-clause-refused
returns-then-clashes-clause-refused c =
    inr (clash_refused (app_of c.in_ok-command.command) (texts c.args.words.now) c.in-Ok.matches c.in_ok-command.ensures c.in-Ok.ensures.matches
    (sym c.if-clashes.ensures))

pub returns-else-clashes-clause-said : goal.returns-else-clashes-clause-said
returns-else-clashes-clause-said c = λ _. IfOk-weaker c.request_of.result _ _ (λ request asked.
    request_asked_for c.in_ok-command.command (texts c.args.words.now) c.in-Ok.matches request c.in_ok-command.ensures c.in-Ok.ensures.parsed c.in-Ok.ensures.matches
    (c.in-Ok.ensures.kinds (free_app (app_of c.in_ok-command.command) c.in_ok-command.ensures)) (sym c.if-clashes.ensures) asked) c.request_of.ensures.asked

pub returns-else-clashes-clause-refused : goal.returns-else-clashes-clause-refused
returns-else-clashes-clause-refused c = IfErr-weaker c.request_of.result _ _ (λ fault h. elim h [
  | inl memory ↦ inl memory
  | inr none ↦
      inr (nothing_refused (app_of c.in_ok-command.command) (texts c.args.words.now) c.in-Ok.matches c.in_ok-command.ensures c.in-Ok.ensures.matches none)
]) c.request_of.ensures.refused

pub returns-else-eq-clause-refused : goal.returns-else-eq-clause-refused
returns-else-eq-clause-refused c = inr (fault_refused (app_of c.in_ok-command.command) (texts c.args.words.now) c.in-Err.error c.in_ok-command.ensures
    (c.in-Err.ensures.kinds (free_app (app_of c.in_ok-command.command) c.in_ok-command.ensures)) c.in-Err.ensures.passes (λ memory.
    let bad = rw (c.kind.ensures ∙ memory) at (sym c.if-eq.false ∙ c.eq.ensures) in
    cc))
