use Rattle.std.proofs.Common.{◌∙◌, sym, ap, ◌<◌, length, [], arith, ℕ, List, ◌++◌, ◌∷◌, refl, Vec, Global}
use Rattle.std.proofs.lemmas.Result.{err_from_is_err_and}
use Rattle.std.specs.Prelude.{position}
use Rattle.std.specs.Str.{bytes_eq}
use Rattle.dag_reader.specs.Reading.{commands_of}
use Rattle.splices.specs.ParsedFiles.{files_in}
use Rattle.splices_flat.specs.declared.flat.FlatNode.{FlatNode}
use Rattle.splices_flat.specs.declared.flat.EdgeGroup.{EdgeGroup}
use Rattle.splices_flat.specs.declared.part.Part.{Part}
use Rattle.splices.specs.declared.open.DagBuilder.{DagBuilder}
use Rattle.splices_flat.specs.Paths.{join}
use Rattle.splices_flat.specs.Edges.{forest_parts}
use Rattle.splices_flat.specs.Forest.{inside}
use Rattle.splices_flat.specs.Nodes.{job_names}
use Rattle.splices_flat.specs.Opening.{open_file, open_lines, with_splice}
use Rattle.splices.proofs.DagBuilders.{behind_done}
use Rattle.splices.proofs.Said.{said_acting}
use Rattle.splices.proofs.ActingTrees.{acting_fails, acting_opens, acting_refused, read_acts}
use Rattle.splices.proofs.Trees.{forest_step, forest_fails, splice_opens, scope_fits}
use Rattle.splices.proofs.open.+opening.Goals as goal

pub open_forest-loop-command-preserved : goal.open_forest-loop-command-preserved
open_forest-loop-command-preserved t c = (
  c.in_ok-found.ensures.above ∙ c.loop-command.invariant.0,
  c.in_ok-found.ensures.few,
  forest_step (open_file (files_in c.args.files.now) c.args.left) c.args.above.now c.loop-command.above c.args.folder.now c.args.prefix.now c.args.commands.now c.loop-command.command-index c.command-item.result
      (open_lines (open_file (files_in c.args.files.now) c.args.left) c.args.builder.now.used c.args.above.now c.args.folder.now c.args.commands.now)
      c.args.builder.now c.loop-command.builder c.open_splice.new.builder c.args.parts.now.items c.loop-command.parts.items c.open_splice.new.parts.items
      c.loop-command.fault c.in_ok-found.found c.or-fault.result
      c.command-item.is c.loop-command-test.true c.loop-command.invariant.0 c.loop-command.invariant.2 c.in_ok-found.ensures.opened c.or-fault.ensures,
)

pub open_forest-returns-clause-opened : goal.open_forest-returns-clause-opened
open_forest-returns-clause-opened t c =
    let inv = c.loop-command.invariant.2 in (
      inv.0,
      behind_done (open_file (files_in c.args.files.now) c.args.left) c.args.builder.now.used c.args.above.now c.args.folder.now c.args.commands.now c.loop-command.command-index inv.0
          (open_lines (open_file (files_in c.args.files.now) c.args.left) c.args.builder.now.used c.args.above.now c.args.folder.now c.args.commands.now) c.loop-command-test.false inv.1,
      inv.2,
      inv.3,
      inv.4,
    )

pub open_splice-returns-clause-opened : goal.open_splice-returns-clause-opened
open_splice-returns-clause-opened t c =
    let above = c.args.above.now in
    let below = c.as_str-4.result.now in
    let path = c.as_str-5.result.now in
    let start : DagBuilder = record c.args.builder.now { used = with_splice c.args.builder.now.used } in
    splice_opens (open_file (files_in c.args.files.now) c.args.left) above c.push.new.self c.args.folder.now below path c.args.prefix.now c.as_str-6.result.now
    c.in-Splice.name c.in-Splice.file c.in-Splice.dir c.args.command.now c.args.builder.now start c.open_tree.new.builder c.in_ok-found.found c.args.parts.now.items c.push-2.new.self.items
    c.in-Splice.is
    (c.as_str-4.ensures ∙ c.in_ok-inside.ensures ∙ ap (join c.args.folder.now) c.dir_text.ensures)
    (c.as_str-5.ensures ∙ c.in_ok-path.ensures ∙ ap (λ (d : List ℕ). join d c.text.result.now) (c.as_str.ensures ∙ sym c.as_str-4.ensures) ∙ ap (join below) c.text.ensures)
    (ap (λ (x : List ℕ). position (bytes_eq x) above) (c.as_str-5.ensures ∙ sym c.as_str-2.ensures) ∙ sym c.place_of.ensures.value ∙ c.in_default-place_of.is)
    (c.in_ok-push.ensures.ok ∙ ap (λ (x : List ℕ). above ++ x ∷ []) (c.in_ok-new.ensures ∙ c.as_str-3.ensures ∙ sym c.as_str-5.ensures))
    (c.as_str-6.ensures ∙ c.in_ok-names.ensures ∙ ap (inside c.args.prefix.now) c.text-2.ensures)
    refl
    c.in_ok-found.ensures.opened
    c.in_ok-push-2.ensures.items

pub open_tree-returns-in_err-names-clause-opened :
    goal.open_tree-returns-in_err-names-clause-opened
open_tree-returns-in_err-names-clause-opened t c =
    let p = err_from_is_err_and c.from_residual-in_err-names.result c.from_residual-in_err-names.ensures.1 in
    let some : 0 < c.args.left = omega arith in
    let said = said_acting _ _ c.in_ok-read.ensures in
    rw (p.1, p.2) (acting_refused (files_in c.args.files.now) c.args.left c.args.builder.now.used c.args.above.now c.args.folder.now c.args.path.now said.0 (commands_of c.file-file.result.now) c.as_slice-lines.result.now c.in_err-names.field-0.0
    (read_acts _ _ _ said.2 c.file-file.ensures) some said.1 c.as_slice-lines.ensures.value c.in_err-names.ensures.right)

pub open_tree-returns-in_err-inner-clause-opened :
    goal.open_tree-returns-in_err-inner-clause-opened
open_tree-returns-in_err-inner-clause-opened t c =
    let p = err_from_is_err_and c.from_residual-in_err-inner.result c.from_residual-in_err-inner.ensures.1 in
    let some : 0 < c.args.left = omega arith in
    rw (p.1, p.2) (acting_fails (files_in c.args.files.now) c.args.left c.args.builder.now.used c.add_own.new.builder.used c.args.above.now c.args.folder.now c.args.path.now (said_acting _ _ c.in_ok-read.ensures).0 (commands_of c.file-file.result.now) c.as_slice-lines.result.now c.in_err-inner.field-0.0
    (read_acts _ _ _ (said_acting _ _ c.in_ok-read.ensures).2 c.file-file.ensures) some (said_acting _ _ c.in_ok-read.ensures).1 c.as_slice-lines.ensures.value c.in_ok-names.ensures.right c.in_ok-add_own.ensures.used c.in_err-inner.ensures.opened)

pub open_tree-close-requires-clause-names : goal.open_tree-close-requires-clause-names
open_tree-close-requires-clause-names t c =
    scope_fits c.args.prefix.now c.args.folder.now c.args.path.now (commands_of c.file-file.result.now) c.args.builder.now c.add_own.new.builder c.open_forest.new.builder
    c.in_ok-inner.ensures.opened.0 c.in_ok-names.names.jobs c.as_slice-first.result.now
    (record { files = c.in_ok-add_own.ensures.files; edges = ap (λ (v : Vec EdgeGroup Global). v.items) c.in_ok-add_own.ensures.edges; used = c.in_ok-add_own.ensures.used })
    c.in_ok-inner.ensures.opened.2 (c.in_ok-names.ensures.jobs ∙ ap job_names c.as_slice-lines.ensures.value) c.as_slice-first.ensures.value

pub open_tree-returns-clause-opened : goal.open_tree-returns-clause-opened
open_tree-returns-clause-opened t c =
    let some : 0 < c.args.left = omega arith in
    let opened = c.in_ok-inner.ensures.opened in
    let mid = c.add_own.new.builder in
    acting_opens (files_in c.args.files.now) c.args.left c.args.above.now c.args.folder.now c.args.path.now c.args.prefix.now (said_acting _ _ c.in_ok-read.ensures).0 (commands_of c.file-file.result.now) c.as_slice-lines.result.now
    c.args.builder.now mid c.open_forest.new.builder c.close.new.builder c.as_slice-parts.result.now c.in_ok-names.names.jobs c.in_ok-names.names.finals c.in_ok-names.names.splices
    (length c.as_slice-first.result.now) (length c.as_slice-start.result.now) c.in_ok-close.field-0 _ c.in_ok-inner.inner
    (read_acts _ _ _ (said_acting _ _ c.in_ok-read.ensures).2 c.file-file.ensures) some (said_acting _ _ c.in_ok-read.ensures).1 c.as_slice-lines.ensures.value c.in_ok-names.ensures.right
    c.in_ok-names.ensures.jobs c.in_ok-names.ensures.finals c.in_ok-names.ensures.splices
    (ap (λ (ns : List FlatNode). length ns) c.as_slice-first.ensures.value) (ap (λ (es : List EdgeGroup). length es) c.as_slice-start.ensures.value)
    (record { files = c.in_ok-add_own.ensures.files; edges = ap (λ (v : Vec EdgeGroup Global). v.items) c.in_ok-add_own.ensures.edges; used = c.in_ok-add_own.ensures.used })
    (opened.0, opened.1, opened.2, c.as_slice-parts.ensures.value ∙ opened.3 ∙ ap (λ (ps : List Part). ps ++ forest_parts (length mid.nodes.items) opened.0) c.new-parts.ensures.items, opened.4)
    c.close.ensures.same
    c.in_ok-close.ensures.edges
    c.in_ok-close.ensures.part
    refl
    c.in_ok-close.ensures.fault

pub open_forest-returns-in_err-found-clause-opened :
    goal.open_forest-returns-in_err-found-clause-opened
open_forest-returns-in_err-found-clause-opened t c =
    let p = err_from_is_err_and c.from_residual.result c.from_residual.ensures.1 in
    rw (p.1, p.2) (forest_fails (open_file (files_in c.args.files.now) c.args.left) c.args.above.now c.loop-command.above c.args.folder.now c.args.prefix.now c.args.commands.now c.loop-command.command-index c.command-item.result
    (open_lines (open_file (files_in c.args.files.now) c.args.left) c.args.builder.now.used c.args.above.now c.args.folder.now c.args.commands.now)
    c.args.builder.now c.loop-command.builder c.args.parts.now.items c.loop-command.parts.items c.loop-command.fault c.in_err-found.field-0.0
    c.command-item.is c.loop-command-test.true c.loop-command.invariant.0 c.loop-command.invariant.2 c.in_err-found.ensures.opened)
