use Rattle.std.proofs.Common.{◌∙◌, sym}
use Rattle.std.specs.Prelude.{pos}
use Rattle.std.proofs.lemmas.List.{get_or_default}
use Rattle.ready_queue.proofs.Places.{at-place}
use Rattle.ready_queue.proofs.is_there.Goals as goal

pub returns-then-place-members-clause-is : goal.returns-then-place-members-clause-is
returns-then-place-members-clause-is c =
    let d = get_or_default c.args.members.now c.args.place c.args.member (record { node = 0; priority = pos 0 }) c.if-place-members.true in (
      λ t. (c.args.place, c.if-place-members.true, d ∙ c.is_same.ensures.0 t),
      λ within. let at = at-place c.args.members.now c.args.member c.args.place c.requires.ordered c.requires.place within.0 within.1 within.2 in
          c.is_same.ensures.1 (sym d ∙ at.1),
    )
