use Rattle.std.proofs.Common.{rules, ◌≡◌, ◌||◌, ℕ, List, Bor, IfOk, Ok, map, string_bytes, refl, subst, sym}
use Rattle.dag_main_run.specs.Sites.{rounds_at}
use Rattle.dag_main_args.specs.declared.request.Request.{Request}
use Rattle.dag_main_args.specs.Requests.{asked_by}
use Rattle.dag_main_check.specs.declared.form.CheckForm.{CheckForm}
use Rattle.dagrun.specs.Answered.{AreHints, ComesTo, changing_files, held_in, redo_contract, command_contract, checks_some, checks_from, IsCheckWith}
use Rattle.dagrun.specs.Changes.{ChangesAs, MakesRedoWhere, known_where}
use Rattle.dagrun.proofs.Worlds.{request-to}
use Rattle.dagrun.proofs.answers.answer_in.Goals as goal

pub returns-in-Show-clause-some : goal.returns-in-Show-clause-some
returns-in-Show-clause-some g c = λ run.
    subst (λ (request : Request). ComesTo (command_contract changing_files (rounds_at g.F.Journal.Disk g.F.Rescue.Disk (g.F.Site.own c.args.folder.now) (g.F.Folder.honest c.args.folder.now) (g.F.Folder.holds c.args.folder.now)) (asked_by request)) c.show.result)
    (sym c.in-Show.is) c.show.ensures.some

pub returns-in-Show-clause-held : goal.returns-in-Show-clause-held
returns-in-Show-clause-held g c = λ honest run.
    subst (λ (request : Request). ComesTo (command_contract (held_in (g.F.Folder.holds c.args.folder.now) (g.F.Folder.has c.args.folder.now)) (rounds_at g.F.Journal.Disk g.F.Rescue.Disk (g.F.Site.own c.args.folder.now) (g.F.Folder.honest c.args.folder.now) (g.F.Folder.holds c.args.folder.now)) (asked_by request)) c.show.result)
    (sym c.in-Show.is) (c.show.ensures.held honest)

pub returns-in-Salvage-clause-some : goal.returns-in-Salvage-clause-some
returns-in-Salvage-clause-some g c = λ run.
    request-to changing_files (rounds_at g.F.Journal.Disk g.F.Rescue.Disk (g.F.Site.own c.args.folder.now) (g.F.Folder.honest c.args.folder.now) (g.F.Folder.holds c.args.folder.now))
    c.args.request _ c.in-Salvage.is c.salvage_in.result c.salvage_in.ensures.answered c.salvage_in.ensures.refused

pub returns-in-Salvage-clause-held : goal.returns-in-Salvage-clause-held
returns-in-Salvage-clause-held g c = λ honest run.
    request-to (held_in (g.F.Folder.holds c.args.folder.now) (g.F.Folder.has c.args.folder.now)) (rounds_at g.F.Journal.Disk g.F.Rescue.Disk (g.F.Site.own c.args.folder.now) (g.F.Folder.honest c.args.folder.now) (g.F.Folder.holds c.args.folder.now))
    c.args.request _ c.in-Salvage.is c.salvage_in.result (c.salvage_in.ensures.held honest) (c.salvage_in.ensures.refused_held honest)

pub returns-in-Redo-clause-some : goal.returns-in-Redo-clause-some
returns-in-Redo-clause-some g c = λ run.
    let same : c.deref.result.now ≡ c.in-Redo.nodes.items = search rules in
    subst (λ (request : Request). ComesTo (command_contract changing_files (rounds_at g.F.Journal.Disk g.F.Rescue.Disk (g.F.Site.own c.args.folder.now) (g.F.Folder.honest c.args.folder.now) (g.F.Folder.holds c.args.folder.now)) (asked_by request)) c.redo_in.result)
    (sym c.in-Redo.is)
    (subst (λ (ns : List (Bor (List ℕ))). ComesTo (redo_contract changing_files c.in-Redo.dag.now (map (λ (n : Bor (List ℕ)). n.now) ns) c.in-Redo.only c.in-Redo.as_begun) c.redo_in.result) same c.redo_in.ensures.some)

pub returns-in-Redo-clause-held : goal.returns-in-Redo-clause-held
returns-in-Redo-clause-held g c = λ honest run.
    let same : c.deref.result.now ≡ c.in-Redo.nodes.items = search rules in
    subst (λ (request : Request). ComesTo (command_contract (held_in (g.F.Folder.holds c.args.folder.now) (g.F.Folder.has c.args.folder.now)) (rounds_at g.F.Journal.Disk g.F.Rescue.Disk (g.F.Site.own c.args.folder.now) (g.F.Folder.honest c.args.folder.now) (g.F.Folder.holds c.args.folder.now)) (asked_by request)) c.redo_in.result)
    (sym c.in-Redo.is)
    (subst (λ (ns : List (Bor (List ℕ))). ComesTo (redo_contract (held_in (g.F.Folder.holds c.args.folder.now) (g.F.Folder.has c.args.folder.now)) c.in-Redo.dag.now (map (λ (n : Bor (List ℕ)). n.now) ns) c.in-Redo.only c.in-Redo.as_begun) c.redo_in.result) same (c.redo_in.ensures.held honest))

pub returns-in-Check-clause-some : goal.returns-in-Check-clause-some
returns-in-Check-clause-some g c = λ run.
    request-to changing_files (rounds_at g.F.Journal.Disk g.F.Rescue.Disk (g.F.Site.own c.args.folder.now) (g.F.Folder.honest c.args.folder.now) (g.F.Folder.holds c.args.folder.now))
    c.args.request _ c.in-Check.is c.check.result
    (subst (λ (form : CheckForm). IfOk c.check.result (λ answer. IsCheckWith (checks_some c.in-Check.all form c.in-Check.dag.now) (c.in-Check.hints || c.in-Check.condor)
    (string_bytes answer.text) (string_bytes answer.warnings) answer.status)) c.check_form.ensures c.check.ensures.answered) c.check.ensures.refused

pub returns-in-Check-clause-held : goal.returns-in-Check-clause-held
returns-in-Check-clause-held g c = λ honest run.
    request-to (held_in (g.F.Folder.holds c.args.folder.now) (g.F.Folder.has c.args.folder.now)) (rounds_at g.F.Journal.Disk g.F.Rescue.Disk (g.F.Site.own c.args.folder.now) (g.F.Folder.honest c.args.folder.now) (g.F.Folder.holds c.args.folder.now))
    c.args.request _ c.in-Check.is c.check.result
    (subst (λ (form : CheckForm). IfOk c.check.result (λ answer. IsCheckWith (checks_from c.in-Check.all form (c.in-Check.hints || c.in-Check.condor) (g.F.Folder.holds c.args.folder.now) c.in-Check.dag.now) (c.in-Check.hints || c.in-Check.condor)
    (string_bytes answer.text) (string_bytes answer.warnings) answer.status)) c.check_form.ensures (c.check.ensures.held honest)) (c.check.ensures.refused_held honest)

pub returns-in-Check-clause-hinted : goal.returns-in-Check-clause-hinted
returns-in-Check-clause-hinted g c = λ honest.
    subst (λ (request : Request). AreHints (asked_by request) c.check.result (g.C.Console.shown c.args.console.now) (g.C.Console.shown c.check.new.console))
    (sym c.in-Check.is) (c.check.ensures.hinted c.in-Check.json honest)

pub returns-in-Rehearse-clause-some : goal.returns-in-Rehearse-clause-some
returns-in-Rehearse-clause-some g c = λ run.
    request-to changing_files (rounds_at g.F.Journal.Disk g.F.Rescue.Disk (g.F.Site.own c.args.folder.now) (g.F.Folder.honest c.args.folder.now) (g.F.Folder.holds c.args.folder.now))
    c.args.request _ c.in-Rehearse.is c.rehearse.result c.rehearse.ensures.answered c.rehearse.ensures.refused

pub returns-in-Rehearse-clause-held : goal.returns-in-Rehearse-clause-held
returns-in-Rehearse-clause-held g c = λ honest run.
    request-to (held_in (g.F.Folder.holds c.args.folder.now) (g.F.Folder.has c.args.folder.now)) (rounds_at g.F.Journal.Disk g.F.Rescue.Disk (g.F.Site.own c.args.folder.now) (g.F.Folder.honest c.args.folder.now) (g.F.Folder.holds c.args.folder.now))
    c.args.request _ c.in-Rehearse.is c.rehearse.result (c.rehearse.ensures.held honest) (c.rehearse.ensures.refused_held honest)

pub returns-in-Run-clause-changes : goal.returns-in-Run-clause-changes
returns-in-Run-clause-changes g c =
    subst (λ (request : Request). ChangesAs (known_where (g.F.Folder.honest c.args.folder.now) (g.F.Folder.holds c.args.folder.now) (g.F.Folder.has c.args.folder.now))
    (rounds_at g.F.Journal.Disk g.F.Rescue.Disk (g.F.Site.own c.args.folder.now) (g.F.Folder.honest c.args.folder.now) (g.F.Folder.holds c.args.folder.now)) (asked_by request)
    c.run_in.result c.args.changes.now c.run_in.new.changes) (sym c.in-Run.is) c.run_in.ensures.changes

pub returns-in-Salvage-clause-changes : goal.returns-in-Salvage-clause-changes
returns-in-Salvage-clause-changes g c =
    subst (λ (request : Request). ChangesAs (known_where (g.F.Folder.honest c.args.folder.now) (g.F.Folder.holds c.args.folder.now) (g.F.Folder.has c.args.folder.now))
    (rounds_at g.F.Journal.Disk g.F.Rescue.Disk (g.F.Site.own c.args.folder.now) (g.F.Folder.honest c.args.folder.now) (g.F.Folder.holds c.args.folder.now)) (asked_by request)
    c.salvage_in.result c.args.changes.now c.salvage_in.new.changes) (sym c.in-Salvage.is) c.salvage_in.ensures.changes

pub returns-in-Redo-clause-changes : goal.returns-in-Redo-clause-changes
returns-in-Redo-clause-changes g c =
    let same : c.deref.result.now ≡ c.in-Redo.nodes.items = search rules in
    subst (λ (request : Request). ChangesAs (known_where (g.F.Folder.honest c.args.folder.now) (g.F.Folder.holds c.args.folder.now) (g.F.Folder.has c.args.folder.now))
    (rounds_at g.F.Journal.Disk g.F.Rescue.Disk (g.F.Site.own c.args.folder.now) (g.F.Folder.honest c.args.folder.now) (g.F.Folder.holds c.args.folder.now)) (asked_by request)
    c.redo_in.result c.args.changes.now c.redo_in.new.changes) (sym c.in-Redo.is)
    (subst (λ (ns : List (Bor (List ℕ))). MakesRedoWhere (g.F.Folder.honest c.args.folder.now) (g.F.Folder.holds c.args.folder.now) (g.F.Folder.has c.args.folder.now) c.in-Redo.dag.now (map (λ (n : Bor (List ℕ)). n.now) ns) c.in-Redo.only c.in-Redo.as_begun
    c.redo_in.result c.args.changes.now c.redo_in.new.changes) same c.redo_in.ensures.changes)

pub returns-in-Show-clause-changes : goal.returns-in-Show-clause-changes
returns-in-Show-clause-changes g c =
    subst (λ (request : Request). ChangesAs (known_where (g.F.Folder.honest c.args.folder.now) (g.F.Folder.holds c.args.folder.now) (g.F.Folder.has c.args.folder.now))
    (rounds_at g.F.Journal.Disk g.F.Rescue.Disk (g.F.Site.own c.args.folder.now) (g.F.Folder.honest c.args.folder.now) (g.F.Folder.holds c.args.folder.now)) (asked_by request)
    c.show.result c.args.changes.now c.args.changes.now) (sym c.in-Show.is) refl

pub returns-in-Check-clause-changes : goal.returns-in-Check-clause-changes
returns-in-Check-clause-changes g c =
    subst (λ (request : Request). ChangesAs (known_where (g.F.Folder.honest c.args.folder.now) (g.F.Folder.holds c.args.folder.now) (g.F.Folder.has c.args.folder.now))
    (rounds_at g.F.Journal.Disk g.F.Rescue.Disk (g.F.Site.own c.args.folder.now) (g.F.Folder.honest c.args.folder.now) (g.F.Folder.holds c.args.folder.now)) (asked_by request)
    c.check.result c.args.changes.now c.args.changes.now) (sym c.in-Check.is) refl

pub returns-in-Rehearse-clause-changes : goal.returns-in-Rehearse-clause-changes
returns-in-Rehearse-clause-changes g c =
    subst (λ (request : Request). ChangesAs (known_where (g.F.Folder.honest c.args.folder.now) (g.F.Folder.holds c.args.folder.now) (g.F.Folder.has c.args.folder.now))
    (rounds_at g.F.Journal.Disk g.F.Rescue.Disk (g.F.Site.own c.args.folder.now) (g.F.Folder.honest c.args.folder.now) (g.F.Folder.holds c.args.folder.now)) (asked_by request)
    c.rehearse.result c.args.changes.now c.args.changes.now) (sym c.in-Rehearse.is) refl

pub returns-in-Page-clause-changes : goal.returns-in-Page-clause-changes
returns-in-Page-clause-changes g c =
    subst (λ (request : Request). ChangesAs (known_where (g.F.Folder.honest c.args.folder.now) (g.F.Folder.holds c.args.folder.now) (g.F.Folder.has c.args.folder.now))
    (rounds_at g.F.Journal.Disk g.F.Rescue.Disk (g.F.Site.own c.args.folder.now) (g.F.Folder.honest c.args.folder.now) (g.F.Folder.holds c.args.folder.now)) (asked_by request)
    (Ok c.page.result) c.args.changes.now c.args.changes.now) (sym c.in-Page.is) refl
