use Rattle.std.proofs.Common.{◌≡◌, false, sym, ◌∙◌}
use Rattle.dag_main_args.specs.Requests.{asked_by}
use Rattle.dag_main_run.specs.Sites.{rounds_at}
use Rattle.dagrun.specs.Changes.{known_where}
use Rattle.dagrun.proofs.Changes.{found-at, redone-at, known-as, known-of-input, nothing-changed}
use Rattle.dagrun.proofs.Worlds.{input-reply, beside-reply, folder-reply, unasked, told-at}
use Rattle.dagrun.proofs.commands.answer.Goals as goal

pub returns-then-not-is_beside-clause-reply : goal.returns-then-not-is_beside-clause-reply
returns-then-not-is_beside-clause-reply g c =
    let isnt : _ ≡ false = sym c.is_beside.ensures ∙ c.if-not-is_beside.true in
    input-reply _ _ _ (rounds_at g.H.Here.Journal.Disk g.H.Here.Rescue.Disk (g.H.Here.Site.own c.inputs.result) (g.H.Here.Folder.honest c.inputs.result) (g.H.Here.Folder.holds c.inputs.result))
    (rounds_at g.H.Here.Journal.Disk g.H.Here.Rescue.Disk (g.H.Host.own c.args.host.now) (g.H.Host.honest c.args.host.now) (g.H.Host.world c.args.host.now).holds)
    (g.H.Here.Folder.holds c.inputs.result) (g.H.Here.Folder.has c.inputs.result) (asked_by c.args.request) isnt c.answer_in.result c.inputs.ensures.holds
    (c.answer_in.ensures.some (unasked (asked_by c.args.request) isnt))
    (λ honest. c.answer_in.ensures.held (c.inputs.ensures.honest honest) (unasked (asked_by c.args.request) isnt))

pub returns-in_err-here-clause-reply : goal.returns-in_err-here-clause-reply
returns-in_err-here-clause-reply g c =
    folder-reply _ _ _ _ (asked_by c.args.request) (sym c.is_beside.ensures ∙ c.if-not-is_beside.false) c.in_err-here.field-0.0 c.in_err-here.ensures.refused
    c.from_residual.result c.from_residual.ensures.1

pub returns-clause-reply : goal.returns-clause-reply
returns-clause-reply g c =
    beside-reply (rounds_at g.H.Here.Journal.Disk g.H.Here.Rescue.Disk (g.H.Here.Site.own c.in_ok-here.here) (g.H.Here.Folder.honest c.in_ok-here.here) (g.H.Here.Folder.holds c.in_ok-here.here))
    (rounds_at g.H.Here.Journal.Disk g.H.Here.Rescue.Disk (g.H.Host.own c.args.host.now) (g.H.Host.honest c.args.host.now) (g.H.Host.world c.args.host.now).holds)
    (told-at g.H.Here.Journal.Disk g.H.Here.Rescue.Disk (g.H.Here.Site.own c.in_ok-here.here) (g.H.Host.own c.args.host.now) (g.H.Here.Folder.honest c.in_ok-here.here)
    (g.H.Host.honest c.args.host.now) (g.H.Here.Folder.holds c.in_ok-here.here) (g.H.Host.world c.args.host.now).holds
    c.in_ok-here.ensures.own c.in_ok-here.ensures.honest c.in_ok-here.ensures.back c.in_ok-here.ensures.holds)
    _ _ _ (g.H.Here.Folder.holds c.in_ok-here.here) (g.H.Here.Folder.has c.in_ok-here.here) (asked_by c.args.request)
    (sym c.is_beside.ensures ∙ c.if-not-is_beside.false) c.answer_in-2.result c.in_ok-here.ensures.holds c.in_ok-here.ensures.has
    (c.answer_in-2.ensures.some (λ run streams. c.in_ok-here.ensures.unstreamed streams))
    (λ honest. c.answer_in-2.ensures.held (c.in_ok-here.ensures.honest honest) (λ run streams. c.in_ok-here.ensures.unstreamed streams))

pub returns-then-not-is_beside-clause-changes : goal.returns-then-not-is_beside-clause-changes
returns-then-not-is_beside-clause-changes g c =
    known-of-input (known_where (g.H.Here.Folder.honest c.inputs.result) (g.H.Here.Folder.holds c.inputs.result) (g.H.Here.Folder.has c.inputs.result))
    (known_where (g.H.Host.honest c.args.host.now) (g.H.Host.world c.args.host.now).holds (g.H.Host.world c.args.host.now).has)
    (rounds_at g.H.Here.Journal.Disk g.H.Here.Rescue.Disk (g.H.Here.Site.own c.inputs.result) (g.H.Here.Folder.honest c.inputs.result) (g.H.Here.Folder.holds c.inputs.result))
    (rounds_at g.H.Here.Journal.Disk g.H.Here.Rescue.Disk (g.H.Host.own c.args.host.now) (g.H.Host.honest c.args.host.now) (g.H.Host.world c.args.host.now).holds)
    (asked_by c.args.request) (sym c.is_beside.ensures ∙ c.if-not-is_beside.true) c.answer_in.result _ _ c.answer_in.ensures.changes

pub returns-in_err-here-clause-changes : goal.returns-in_err-here-clause-changes
returns-in_err-here-clause-changes g c =
    nothing-changed _ (g.H.Host.honest c.args.host.now) (g.H.Host.world c.args.host.now).holds (g.H.Host.world c.args.host.now).has
    (rounds_at g.H.Here.Journal.Disk g.H.Here.Rescue.Disk (g.H.Host.own c.args.host.now) (g.H.Host.honest c.args.host.now) (g.H.Host.world c.args.host.now).holds)
    (asked_by c.args.request) c.from_residual.result c.from_residual.ensures.1 _

pub returns-clause-changes : goal.returns-clause-changes
returns-clause-changes g c =
    known-as (known_where (g.H.Here.Folder.honest c.in_ok-here.here) (g.H.Here.Folder.holds c.in_ok-here.here) (g.H.Here.Folder.has c.in_ok-here.here))
    (known_where (g.H.Host.honest c.args.host.now) (g.H.Host.world c.args.host.now).holds (g.H.Host.world c.args.host.now).has)
    (rounds_at g.H.Here.Journal.Disk g.H.Here.Rescue.Disk (g.H.Here.Site.own c.in_ok-here.here) (g.H.Here.Folder.honest c.in_ok-here.here) (g.H.Here.Folder.holds c.in_ok-here.here))
    (rounds_at g.H.Here.Journal.Disk g.H.Here.Rescue.Disk (g.H.Host.own c.args.host.now) (g.H.Host.honest c.args.host.now) (g.H.Host.world c.args.host.now).holds)
    (found-at (g.H.Here.Folder.honest c.in_ok-here.here) (g.H.Host.honest c.args.host.now) (g.H.Here.Folder.holds c.in_ok-here.here) (g.H.Host.world c.args.host.now).holds
    (g.H.Here.Folder.has c.in_ok-here.here) (g.H.Host.world c.args.host.now).has c.in_ok-here.ensures.honest c.in_ok-here.ensures.holds c.in_ok-here.ensures.has)
    (redone-at (g.H.Here.Folder.honest c.in_ok-here.here) (g.H.Host.honest c.args.host.now) (g.H.Here.Folder.holds c.in_ok-here.here) (g.H.Host.world c.args.host.now).holds
    (g.H.Here.Folder.has c.in_ok-here.here) (g.H.Host.world c.args.host.now).has c.in_ok-here.ensures.honest c.in_ok-here.ensures.holds c.in_ok-here.ensures.has)
    (told-at g.H.Here.Journal.Disk g.H.Here.Rescue.Disk (g.H.Here.Site.own c.in_ok-here.here) (g.H.Host.own c.args.host.now) (g.H.Here.Folder.honest c.in_ok-here.here)
    (g.H.Host.honest c.args.host.now) (g.H.Here.Folder.holds c.in_ok-here.here) (g.H.Host.world c.args.host.now).holds
    c.in_ok-here.ensures.own c.in_ok-here.ensures.honest c.in_ok-here.ensures.back c.in_ok-here.ensures.holds)
    (asked_by c.args.request) c.answer_in-2.result _ _ c.answer_in-2.ensures.changes
