use Rattle.std.proofs.Common.{sym, subst}
use Rattle.dag_main_check.specs.declared.fault.RunFault.{RunFault}
use Rattle.salvage.specs.declared.fault.SalvageFault.TheVariants.{Refused}
use Rattle.salvage.specs.Sight.{any_files, held_files, held_files_if}
use Rattle.dag_main_check.proofs.Refusals.{handed-on, weaker}
use Rattle.dagrun.specs.Answered.{salvaged}
use Rattle.salvage.specs.Refused.{IsSalvageFault, making_had_no_memory}
use Rattle.salvage.proofs.Sights.{fault-of-any, fault-of-held}
use Rattle.dagrun.specs.Changes.{salvage_written}
use Rattle.dagrun.proofs.Changes.{salvage-refused, salvage-left}
use Rattle.dagrun.proofs.Salvages.{line-warned}
use Rattle.dagrun.proofs.answers.salvage_in.Goals as goal

pub returns-in-Ok-clause-answered : goal.returns-in-Ok-clause-answered
returns-in-Ok-clause-answered g c = salvaged _ _ _ c.in-Ok.ensures.salvaged

pub returns-in-Ok-clause-held : goal.returns-in-Ok-clause-held
returns-in-Ok-clause-held g c = λ honest. salvaged _ _ _ (c.in-Ok.ensures.held honest)

pub returns-in_err-own-in-Err-clause-refused : goal.returns-in_err-own-in-Err-clause-refused
returns-in_err-own-in-Err-clause-refused g c =
    let path = c.args.dag.now in
    let honest = g.F.Folder.honest c.args.folder.now in
    let holds = g.F.Folder.holds c.args.folder.now in
    let has = g.F.Folder.has c.args.folder.now in
    handed-on (λ fault. IsSalvageFault c.args.ended any_files path (Refused fault)) c.from_residual.result c.from_residual.ensures.1
    (λ fault same. subst (λ (f : RunFault). IsSalvageFault c.args.ended any_files path (Refused f)) (sym same)
    (fault-of-any honest holds has path c.args.ended _ (subst (IsSalvageFault c.args.ended (held_files_if honest holds has path) path) c.in_err-own-in-Err.ensures.other c.in-Err.ensures.refused)))

pub returns-in_err-own-in-Err-clause-refused_held : goal.returns-in_err-own-in-Err-clause-refused_held
returns-in_err-own-in-Err-clause-refused_held g c = λ premise.
    let path = c.args.dag.now in
    let honest = g.F.Folder.honest c.args.folder.now in
    let holds = g.F.Folder.holds c.args.folder.now in
    let has = g.F.Folder.has c.args.folder.now in
    handed-on (λ fault. IsSalvageFault c.args.ended (held_files holds has path) path (Refused fault)) c.from_residual.result c.from_residual.ensures.1
    (λ fault same. subst (λ (f : RunFault). IsSalvageFault c.args.ended (held_files holds has path) path (Refused f)) (sym same)
    (fault-of-held honest holds has path premise c.args.ended _ (subst (IsSalvageFault c.args.ended (held_files_if honest holds has path) path) c.in_err-own-in-Err.ensures.other c.in-Err.ensures.refused)))

pub returns-in_ok-own-in-Err-clause-answered : goal.returns-in_ok-own-in-Err-clause-answered
returns-in_ok-own-in-Err-clause-answered g c =
    let path = c.args.dag.now in
    let honest = g.F.Folder.honest c.args.folder.now in
    let holds = g.F.Folder.holds c.args.folder.now in
    let has = g.F.Folder.has c.args.folder.now in
    line-warned _ (IsSalvageFault c.args.ended any_files path) c.in_ok-own-in-Err.own c.not_salvaged.result
    (fault-of-any honest holds has path c.args.ended _ (subst (IsSalvageFault c.args.ended (held_files_if honest holds has path) path) (sym c.in_ok-own-in-Err.ensures.own.0) c.in-Err.ensures.refused))
    c.in_ok-own-in-Err.ensures.own.1 c.not_salvaged.ensures.warned c.not_salvaged.ensures.text c.not_salvaged.ensures.status

pub returns-in_ok-own-in-Err-clause-held : goal.returns-in_ok-own-in-Err-clause-held
returns-in_ok-own-in-Err-clause-held g c = λ premise.
    let path = c.args.dag.now in
    let honest = g.F.Folder.honest c.args.folder.now in
    let holds = g.F.Folder.holds c.args.folder.now in
    let has = g.F.Folder.has c.args.folder.now in
    line-warned _ (IsSalvageFault c.args.ended (held_files holds has path) path) c.in_ok-own-in-Err.own c.not_salvaged.result
    (fault-of-held honest holds has path premise c.args.ended _ (subst (IsSalvageFault c.args.ended (held_files_if honest holds has path) path) (sym c.in_ok-own-in-Err.ensures.own.0) c.in-Err.ensures.refused))
    c.in_ok-own-in-Err.ensures.own.1 c.not_salvaged.ensures.warned c.not_salvaged.ensures.text c.not_salvaged.ensures.status

pub returns-in_ok-own-in-Err-clause-refused : goal.returns-in_ok-own-in-Err-clause-refused
returns-in_ok-own-in-Err-clause-refused g c =
    weaker (λ fault. IsSalvageFault c.args.ended any_files c.args.dag.now (Refused fault)) c.not_salvaged.result c.not_salvaged.ensures.err
    (λ fault is. subst (λ (f : RunFault). IsSalvageFault c.args.ended any_files c.args.dag.now (Refused f)) (sym is) making_had_no_memory)

pub returns-in_ok-own-in-Err-clause-refused_held : goal.returns-in_ok-own-in-Err-clause-refused_held
returns-in_ok-own-in-Err-clause-refused_held g c = λ premise.
    let path = c.args.dag.now in
    let sight = held_files (g.F.Folder.holds c.args.folder.now) (g.F.Folder.has c.args.folder.now) path in
    weaker (λ fault. IsSalvageFault c.args.ended sight path (Refused fault)) c.not_salvaged.result c.not_salvaged.ensures.err
    (λ fault is. subst (λ (f : RunFault). IsSalvageFault c.args.ended sight path (Refused f)) (sym is) making_had_no_memory)

pub returns-in-Ok-clause-changes : goal.returns-in-Ok-clause-changes
returns-in-Ok-clause-changes g c = salvage_written _ _ _ c.in-Ok.ensures.changes.0 c.in-Ok.ensures.changes.2

pub returns-in_err-own-in-Err-clause-changes : goal.returns-in_err-own-in-Err-clause-changes
returns-in_err-own-in-Err-clause-changes g c =
    salvage-refused (g.F.Folder.honest c.args.folder.now) (g.F.Folder.holds c.args.folder.now) c.args.dag.now c.args.ended _ _ c.in_err-own-in-Err.ensures.other
    c.from_residual.result c.from_residual.ensures.1 _ _ c.in-Err.ensures.begun

pub returns-in_ok-own-in-Err-clause-changes : goal.returns-in_ok-own-in-Err-clause-changes
returns-in_ok-own-in-Err-clause-changes g c =
    salvage-left (g.F.Folder.honest c.args.folder.now) (g.F.Folder.holds c.args.folder.now) c.args.dag.now c.args.ended _ c.in_ok-own-in-Err.own
    c.in_ok-own-in-Err.ensures.own.0 c.in_ok-own-in-Err.ensures.own.1 c.not_salvaged.result c.not_salvaged.ensures.status _ _ c.in-Err.ensures.begun
