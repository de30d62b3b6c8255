use Rattle.std.proofs.Common.{◌≡◌, Some, None, ap, sym, ◌∙◌}
use Rattle.std.specs.Option.{option_map}
use Rattle.splices_flat.specs.FileSet.{bytes_of}
use Rattle.dag_main_files.proofs.Held.{held-added}
use Rattle.dag_main_files.proofs.loading.files_from.Goals as goal

pub returns-clause-read : goal.returns-clause-read
returns-clause-read g c = λ honest there.
    let is : g.F.Folder.holds c.args.folder.now c.args.top.now ≡ Some c.in-Some.bytes.items =
    sym there ∙ ap (option_map (λ b. b.items)) c.in-Some.is in
    record {
      held = c.in_ok-read_rest.ensures.held honest
          (held-added c.new-files.result c.add_owned.new.self c.args.top.now c.in-Some.bytes.items c.in_ok-add_owned.ensures.added c.in_ok-add_owned.ensures.others
          (g.F.Folder.holds c.args.folder.now) is (λ path bytes at. let none : bytes_of c.new-files.result path ≡ None = c.new-files.ensures path in absurd cc));
      has_top = c.in_ok-read_rest.ensures.kept c.args.top.now c.in-Some.bytes.items c.in_ok-add_owned.ensures.added ∙ sym is;
    }
