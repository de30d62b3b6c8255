use Rattle.std.proofs.Common.{Some, None, sym, subst}
use Rattle.round_inputs.specs.declared.as_begun.ByFiles.{ByFiles}
use Rattle.round_inputs.specs.declared.as_begun.NotKnown.TheVariants.{NothingKept, Refused}
use Rattle.round_inputs.specs.AsBegun.{IsNotKnown, IsSeenBy, seen_as_they_are, seen_as_it_began, seen_as_kept, nothing_is_kept, IsNotSeenBy, not_as_it_began, not_as_kept}
use Rattle.round_inputs.proofs.as_begun.seen_by.Goals as goal

pub returns-in-AsTheyAre-clause-held : goal.returns-in-AsTheyAre-clause-held
returns-in-AsTheyAre-clause-held g c = λ honest.
    subst (λ (by : ByFiles). IsSeenBy (g.F.Folder.holds c.args.folder.now) c.args.top.now by None) (sym c.in-AsTheyAre.is) seen_as_they_are

pub returns-in-Ok-clause-held : goal.returns-in-Ok-clause-held
returns-in-Ok-clause-held g c = λ honest.
    subst (λ (by : ByFiles). IsSeenBy (g.F.Folder.holds c.args.folder.now) c.args.top.now by (Some c.in-Ok.kept)) (sym c.in-AsKept.is)
    (seen_as_kept c.in-Ok.kept (c.in-Ok.ensures.held honest))

pub returns-in-Err-NothingKept-clause-held : goal.returns-in-Err-NothingKept-clause-held
returns-in-Err-NothingKept-clause-held g c = λ honest.
    subst (λ (by : ByFiles). IsSeenBy (g.F.Folder.holds c.args.folder.now) c.args.top.now by None) (sym c.in-AsKept.is)
    (nothing_is_kept c.in-Err-NothingKept._fault
    (subst (IsNotKnown (g.F.Folder.holds c.args.folder.now) c.args.top.now) c.in-Err-NothingKept.field-0-is (c.in-Err-NothingKept.ensures.not_held honest)))

pub returns-in-Err-Refused-clause-refused_held : goal.returns-in-Err-Refused-clause-refused_held
returns-in-Err-Refused-clause-refused_held g c = λ honest.
    subst (λ (by : ByFiles). IsNotSeenBy (g.F.Folder.holds c.args.folder.now) c.args.top.now by c.in-Err-Refused.fault) (sym c.in-AsKept.is)
    (not_as_kept c.in-Err-Refused.fault
    (subst (IsNotKnown (g.F.Folder.holds c.args.folder.now) c.args.top.now) c.in-Err-Refused.field-0-is (c.in-Err-Refused.ensures.not_held honest)))

pub returns-in-Ok-last_begun-clause-held : goal.returns-in-Ok-last_begun-clause-held
returns-in-Ok-last_begun-clause-held g c = λ honest.
    subst (λ (by : ByFiles). IsSeenBy (g.F.Folder.holds c.args.folder.now) c.args.top.now by (Some c.in-Ok-last_begun.begun)) (sym c.in-AsItBegan.is)
    (seen_as_it_began c.in-Ok-last_begun.begun (c.in-Ok-last_begun.ensures.held honest))

pub returns-in-Err-NothingKept-last_begun-clause-refused_held : goal.returns-in-Err-NothingKept-last_begun-clause-refused_held
returns-in-Err-NothingKept-last_begun-clause-refused_held g c = λ honest.
    subst (λ (by : ByFiles). IsNotSeenBy (g.F.Folder.holds c.args.folder.now) c.args.top.now by c.in-Err-NothingKept-last_begun.fault) (sym c.in-AsItBegan.is)
    (not_as_it_began (NothingKept c.in-Err-NothingKept-last_begun.fault)
    (subst (IsNotKnown (g.F.Folder.holds c.args.folder.now) c.args.top.now) c.in-Err-NothingKept-last_begun.field-0-is (c.in-Err-NothingKept-last_begun.ensures.not_held honest)))

pub returns-in-Err-Refused-last_begun-clause-refused_held : goal.returns-in-Err-Refused-last_begun-clause-refused_held
returns-in-Err-Refused-last_begun-clause-refused_held g c = λ honest.
    subst (λ (by : ByFiles). IsNotSeenBy (g.F.Folder.holds c.args.folder.now) c.args.top.now by c.in-Err-Refused-last_begun.fault) (sym c.in-AsItBegan.is)
    (not_as_it_began (Refused c.in-Err-Refused-last_begun.fault)
    (subst (IsNotKnown (g.F.Folder.holds c.args.folder.now) c.args.top.now) c.in-Err-Refused-last_begun.field-0-is (c.in-Err-Refused-last_begun.ensures.not_held honest)))
