use Rattle.std.proofs.Common.{◌≡◌, ◌∙◌, ◌++◌, List, ℕ, false, ap}
use Rattle.splices_flat.specs.Paths.{dir_text}
use Rattle.splices_flat.specs.Paths.{join}
use Rattle.splices_flat.specs.declared.flat.FlatNode.{FlatNode}
use Rattle.splices_flat.specs.declared.flat.Settings.{Settings}
use Rattle.splices.proofs.own_nodes.plain_node.Goals as goal

pub returns : goal.returns
returns c =
    let folder = c.args.folder.now in
    let dir = dir_text c.args.dir.now in
    let name_is : c.in_ok-joined.field-0 ≡ c.args.prefix.now ++ c.args.name.now.text =
    c.in_ok-joined.ensures ∙ ap (λ (n : List ℕ). c.args.prefix.now ++ n) c.text.ensures in
    let folder_is : c.in_ok-below.below ≡ join folder dir = c.in_ok-below.ensures ∙ ap (join folder) c.dir_text.ensures in
    let file_is : c.in_ok-path_in.field-0 ≡ join (join folder dir) c.args.file.now.text =
    c.in_ok-path_in.ensures ∙ ap (λ (b : List ℕ). join b c.text-2.result.now) (c.as_str.ensures ∙ folder_is) ∙ ap (join (join folder dir)) c.text-2.ensures in
    let node : List ℕ → List ℕ → List ℕ → Settings → FlatNode = λ name file below settings. record {
      name = name;
      file = file;
      folder = below;
      noop = false;
      done = false;
      settings = settings;
    } in
    ap (λ (n : List ℕ). node n c.in_ok-path_in.field-0 c.in_ok-below.below c.new.result) name_is
    ∙ ap (λ (f : List ℕ). node (c.args.prefix.now ++ c.args.name.now.text) f c.in_ok-below.below c.new.result) file_is
    ∙ ap (λ (b : List ℕ). node (c.args.prefix.now ++ c.args.name.now.text) (join (join folder dir) c.args.file.now.text) b c.new.result) folder_is
    ∙ ap (λ (s : Settings). node (c.args.prefix.now ++ c.args.name.now.text) (join (join folder dir) c.args.file.now.text) (join folder dir) s) c.new.ensures
