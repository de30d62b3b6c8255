use Rattle.std.proofs.Common.{refl, subst}
use Rattle.dag_main_args.specs.Requests.{Asked}
use Rattle.dag_main_run.specs.Sites.{rounds_at}
use Rattle.dagrun.specs.Changes.{known_where, ChangesAs, as_asked, nothing_asked}
use Rattle.dagrun.specs.Answered.{AreHints, IsReply, of_reply, of_refused_words, replied, words_refused, no_memory}
use Rattle.dagrun.proofs.Requests.{lent_words, asks-for, no-request, exits-without-memory}
use Rattle.dagrun.proofs.commands.run.Goals as goal

pub returns-in-Ok-clause-exit : goal.returns-in-Ok-clause-exit
returns-in-Ok-clause-exit g c = of_reply c.in-Ok.request c.answer-reply.result c.finish.result
    (asks-for c.args.words.now c.in-Ok.request c.in-Ok.ensures.no_words c.in-Ok.ensures.said c.in-Ok.ensures.limits)
    (subst (λ (asked : Asked). IsReply (g.H.Host.honest c.args.host.now) (g.H.Host.is_lost c.args.host.now) (g.H.Host.world c.args.host.now)
    (rounds_at g.H.Here.Journal.Disk g.H.Here.Rescue.Disk (g.H.Host.own c.args.host.now) (g.H.Host.honest c.args.host.now) (g.H.Host.world c.args.host.now).holds) asked c.answer-reply.result)
    c.request_at.ensures c.answer-reply.ensures.reply) c.finish.ensures.exit

pub returns-in-Ok-clause-shown : goal.returns-in-Ok-clause-shown
returns-in-Ok-clause-shown g c = λ honest. replied c.in-Ok.request c.answer-reply.result _ c.finish.result
    (asks-for c.args.words.now c.in-Ok.request c.in-Ok.ensures.no_words c.in-Ok.ensures.said c.in-Ok.ensures.limits)
    (subst (λ (asked : Asked). IsReply (g.H.Host.honest c.args.host.now) (g.H.Host.is_lost c.args.host.now) (g.H.Host.world c.args.host.now)
    (rounds_at g.H.Here.Journal.Disk g.H.Here.Rescue.Disk (g.H.Host.own c.args.host.now) (g.H.Host.honest c.args.host.now) (g.H.Host.world c.args.host.now).holds) asked c.answer-reply.result)
    c.request_at.ensures c.answer-reply.ensures.reply)
    (subst (λ (asked : Asked). AreHints asked c.answer-reply.result (g.C.Console.shown c.args.console.now) (g.C.Console.shown c.answer-reply.new.console))
    c.request_at.ensures (c.answer-reply.ensures.hinted (c.finish.ensures.back honest))) (c.finish.ensures.shown honest)

pub returns-in-Ok-clause-changes : goal.returns-in-Ok-clause-changes
returns-in-Ok-clause-changes g c = as_asked c.in-Ok.request c.answer-reply.result
    (asks-for c.args.words.now c.in-Ok.request c.in-Ok.ensures.no_words c.in-Ok.ensures.said c.in-Ok.ensures.limits)
    (subst (λ (asked : Asked). IsReply (g.H.Host.honest c.args.host.now) (g.H.Host.is_lost c.args.host.now) (g.H.Host.world c.args.host.now)
    (rounds_at g.H.Here.Journal.Disk g.H.Here.Rescue.Disk (g.H.Host.own c.args.host.now) (g.H.Host.honest c.args.host.now) (g.H.Host.world c.args.host.now).holds) asked c.answer-reply.result)
    c.request_at.ensures c.answer-reply.ensures.reply)
    (subst (λ (asked : Asked). ChangesAs (known_where (g.H.Host.honest c.args.host.now) (g.H.Host.world c.args.host.now).holds (g.H.Host.world c.args.host.now).has)
    (rounds_at g.H.Here.Journal.Disk g.H.Here.Rescue.Disk (g.H.Host.own c.args.host.now) (g.H.Host.honest c.args.host.now) (g.H.Host.world c.args.host.now).holds) asked
    c.answer-reply.result c.args.changes.now c.answer-reply.new.changes) c.request_at.ensures c.answer-reply.ensures.changes)

pub returns-in-Err-Refused-clause-exit : goal.returns-in-Err-Refused-clause-exit
returns-in-Err-Refused-clause-exit g c = of_refused_words (no-request (lent_words c.args.words.now) c.in-Err-Refused.text _ c.in-Err-Refused.field-0-is c.in-Err-Refused.ensures.refused)

pub returns-in-Err-Refused-clause-shown : goal.returns-in-Err-Refused-clause-shown
returns-in-Err-Refused-clause-shown g c = λ honest.
    words_refused (no-request (lent_words c.args.words.now) c.in-Err-Refused.text _ c.in-Err-Refused.field-0-is c.in-Err-Refused.ensures.refused)
    (_, c.warn.ensures.warned honest)

pub returns-in-Err-Memory-clause-exit : goal.returns-in-Err-Memory-clause-exit
returns-in-Err-Memory-clause-exit g c = exits-without-memory c.args.to_terminal _ (lent_words c.args.words.now) c.finish-in-Err-Memory.result c.finish-in-Err-Memory.ensures.exit

pub returns-in-Err-Memory-clause-shown : goal.returns-in-Err-Memory-clause-shown
returns-in-Err-Memory-clause-shown g c = λ honest. no_memory c.finish-in-Err-Memory.result (c.finish-in-Err-Memory.ensures.shown honest)

pub returns-in-Err-Refused-clause-changes : goal.returns-in-Err-Refused-clause-changes
returns-in-Err-Refused-clause-changes g c = nothing_asked refl

pub returns-in-Err-Memory-clause-changes : goal.returns-in-Err-Memory-clause-changes
returns-in-Err-Memory-clause-changes g c = nothing_asked refl
