use Rattle.std.proofs.Common.{ℕ, Bool, List, Bor, IfOk, map, ap, sym, subst}
use Rattle.dag_main_files.specs.Opened.{fixed}
use Rattle.round_inputs.specs.AsBegun.{as_begun}
use Rattle.dag_main_files.specs.Folder.{any_paths, these_paths}
use Rattle.redo.specs.Answered.{IsRedo, IsNoRedo}
use Rattle.dagrun.specs.Answered.{files_asked}
use Rattle.redo.specs.Changes.{MakesRedo}
use Rattle.dagrun.proofs.Changes.{refused-unchanged, held-made}
use Rattle.dagrun.proofs.Checks.{IsPlain}
use Rattle.dagrun.proofs.OfRound.{some-comes, some-unseen, held-comes, held-unseen}
use Rattle.dagrun.proofs.answers.redo_in.Goals as goal

pub returns-in_err-seen-clause-some : goal.returns-in_err-seen-clause-some
returns-in_err-seen-clause-some g c =
    let nodes = map (λ (n : Bor (List ℕ)). n.now) c.args.wanted.now.nodes.now in
    some-unseen c.args.dag.now (λ may_hold. IsRedo may_hold any_paths c.args.dag.now nodes c.args.wanted.now.only) (λ may_hold. IsNoRedo may_hold c.args.dag.now)
    c.files_asked.result (files_asked c.args.wanted.now.as_begun) c.files_asked.ensures c.in_err-seen.field-0.0
    c.in_err-seen.ensures.other c.in_err-seen.ensures.refused c.from_residual.result c.from_residual.ensures.1

pub returns-in_err-seen-clause-held : goal.returns-in_err-seen-clause-held
returns-in_err-seen-clause-held g c = λ honest.
    let nodes = map (λ (n : Bor (List ℕ)). n.now) c.args.wanted.now.nodes.now in
    held-unseen c.args.dag.now (λ may_hold. IsRedo may_hold (these_paths (g.F.Folder.has c.args.folder.now)) c.args.dag.now nodes c.args.wanted.now.only) (λ may_hold. IsNoRedo may_hold c.args.dag.now)
    c.files_asked.result (files_asked c.args.wanted.now.as_begun) c.files_asked.ensures (g.F.Folder.holds c.args.folder.now) (g.F.Folder.has c.args.folder.now) c.in_err-seen.field-0.0
    (c.in_err-seen.ensures.refused_held honest) c.from_residual.result c.from_residual.ensures.1

pub returns-in_err-seen-clause-changes : goal.returns-in_err-seen-clause-changes
returns-in_err-seen-clause-changes g c =
    refused-unchanged _ (g.F.Folder.honest c.args.folder.now) (g.F.Folder.holds c.args.folder.now) (g.F.Folder.has c.args.folder.now) c.args.dag.now
    (map (λ (n : Bor (List ℕ)). n.now) c.args.wanted.now.nodes.now) c.args.wanted.now.only c.args.wanted.now.as_begun c.from_residual.result c.from_residual.ensures.1 c.args.changes.now

pub returns-clause-some : goal.returns-clause-some
returns-clause-some g c =
    let nodes = map (λ (n : Bor (List ℕ)). n.now) c.args.wanted.now.nodes.now in
    some-comes c.args.dag.now (λ may_hold. IsRedo may_hold any_paths c.args.dag.now nodes c.args.wanted.now.only) (λ may_hold. IsNoRedo may_hold c.args.dag.now)
    c.files_asked.result (files_asked c.args.wanted.now.as_begun) c.files_asked.ensures c.redo_here.result c.redo_here.ensures.redone c.redo_here.ensures.refused

pub returns-clause-held : goal.returns-clause-held
returns-clause-held g c = λ honest.
    let nodes = map (λ (n : Bor (List ℕ)). n.now) c.args.wanted.now.nodes.now in
    let here = subst g.F.Folder.honest (sym c.in_ok-seen.ensures.folder) honest in
    held-comes c.args.dag.now (λ may_hold. IsRedo may_hold (these_paths (g.F.Folder.has c.args.folder.now)) c.args.dag.now nodes c.args.wanted.now.only) (λ may_hold. IsNoRedo may_hold c.args.dag.now)
    c.files_asked.result (files_asked c.args.wanted.now.as_begun) c.files_asked.ensures (g.F.Folder.holds c.args.folder.now) (g.F.Folder.has c.args.folder.now) c.in_ok-seen.seen.begun
    (c.in_ok-seen.ensures.held honest) (g.F.Folder.holds c.in_ok-seen.seen.folder.now) (ap g.F.Folder.holds c.in_ok-seen.ensures.folder)
    c.redo_here.result
    (subst (λ (has : List ℕ → Bool). IfOk c.redo_here.result (IsPlain (IsRedo (fixed (as_begun c.in_ok-seen.seen.begun (g.F.Folder.holds c.in_ok-seen.seen.folder.now))) (these_paths has) c.args.dag.now nodes c.args.wanted.now.only)))
    (ap g.F.Folder.has c.in_ok-seen.ensures.folder) (c.redo_here.ensures.held here))
    (c.redo_here.ensures.refused_held here)

pub returns-clause-changes : goal.returns-clause-changes
returns-clause-changes g c =
    let nodes = map (λ (n : Bor (List ℕ)). n.now) c.args.wanted.now.nodes.now in
    record {
      some = c.redo_here.ensures.changes;
      held = λ honest.
          let here = subst g.F.Folder.honest (sym c.in_ok-seen.ensures.folder) honest in
          held-made c.args.dag.now c.files_asked.result (files_asked c.args.wanted.now.as_begun) c.files_asked.ensures (g.F.Folder.holds c.args.folder.now) c.in_ok-seen.seen.begun
          (c.in_ok-seen.ensures.held honest) (g.F.Folder.holds c.in_ok-seen.seen.folder.now) (ap g.F.Folder.holds c.in_ok-seen.ensures.folder)
          (λ files. MakesRedo (fixed files) (these_paths (g.F.Folder.has c.args.folder.now)) c.args.dag.now nodes c.args.wanted.now.only)
          c.redo_here.result c.args.changes.now c.redo_here.new.changes
          (subst (λ (has : List ℕ → Bool). MakesRedo (fixed (as_begun c.in_ok-seen.seen.begun (g.F.Folder.holds c.in_ok-seen.seen.folder.now))) (these_paths has) c.args.dag.now nodes c.args.wanted.now.only
          c.redo_here.result c.args.changes.now c.redo_here.new.changes) (ap g.F.Folder.has c.in_ok-seen.ensures.folder) (c.redo_here.ensures.changes_held here));
    }
