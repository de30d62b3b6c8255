use Rattle.std.proofs.Common.{ap, sym, ◌∙◌}
use Rattle.std.specs.Option.{option_map}
use Rattle.dag_main_files.proofs.Held.{held-added}
use Rattle.folder_answers.proofs.reading.add_from.Goals.{in-Some+in_ok-add_owned, in_default}
use Rattle.folder_answers.proofs.reading.add_from.Goals as goal

pub returns-clause-held : goal.returns-clause-held
returns-clause-held g c = λ honest before.
    elim c.match-branch-2.branch [
      | in-Some+in_ok-add_owned w ↦ rw w.files-is (held-added c.args.files.now w.add_owned.new.self c.args.path.now _ w.in_ok-add_owned.ensures.added w.in_ok-add_owned.ensures.others
          (g.F.Folder.holds c.args.folder.now) (sym (c.in_ok-bytes.ensures.bytes honest) ∙ ap (option_map (λ b. b.items)) w.in-Some.is) before)
      | in_default w ↦ rw w.files-is before
    ]
