use Rattle.std.proofs.Common.{[], ◌∷◌, ◌++◌, refl, ap, ◌∙◌}
use Rattle.std.proofs.lemmas.List.{get_or_read}
use Rattle.failure_report.specs.declared.groups.Group.{Group}
use Rattle.failure_report.specs.Joining.{joined_one}
use Rattle.failure_report.proofs.groups.join_group.Goals as goal

pub returns : goal.returns
returns c =
    let group : Group = record { first = c.index_mut.result.now.first; same = c.push.new.self } in
    let read = get_or_read c.args.groups.now.items c.args.place c.index_mut.result.now c.requires.within c.index_mut.ensures.value group in
    joined_one c.args.place _ (record {
      of = c.requires;
      group = group;
      first = ap (λ (g : Group). g.first) read;
      same = c.in_ok-push.ensures.items ∙ ap (λ (g : Group). g.same.items ++ c.args.failure.now ∷ []) read;
      set = refl;
    })
