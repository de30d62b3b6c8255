use Rattle.std.proofs.Common.{◌≡◌, Some, ap, sym, ◌∙◌}
use Rattle.std.specs.Option.{option_map}
use Rattle.dag_main_files.proofs.Held.{held-added}
use Rattle.folder_answers.proofs.reading.all_files_of.Goals as goal

pub returns-clause-read : goal.returns-clause-read
returns-clause-read g c = λ honest given.
    let is : g.F.Folder.holds c.args.folder.now c.args.top.now ≡ Some c.in-Some.bytes.now =
    sym given ∙ ap (option_map (λ b. b.now)) c.in-Some.is in
    record {
      held = held-added c.in_ok-files.files c.add.new.self c.args.top.now c.in-Some.bytes.now c.in_ok-add.ensures.added c.in_ok-add.ensures.others
          (g.F.Folder.holds c.args.folder.now) is (c.in_ok-files.ensures.held honest);
      has_top = c.in_ok-add.ensures.added ∙ sym is;
    }
