use Rattle.std.proofs.Common.{◌≡◌, ◌&&◌, Some, None, subst, sym, ◌∙◌, arith}
use Rattle.splices_flat.specs.FileSet.{bytes_of}
use Rattle.fault_list.specs.FaultPlaces.{is_of_names}
use Rattle.fault_list.specs.LineFaults.{IsCheckedTo}
use Rattle.fault_list.proofs.Listing.{none-more, all-found, one-found, named-still, named-no-more}
use Rattle.fault_list.proofs.faults.line_faults.Goals.{then-names_count, else-names_count}
use Rattle.fault_list.proofs.faults.line_faults.Goals as goal

pub returns-in_default-clause-faults : goal.returns-in_default-clause-faults
returns-in_default-clause-faults c =
    none-more c.args.path.now c.args.files c.loop-alloc.names_count c.loop-alloc.files c.loop-alloc.faults.items c.loop-alloc.invariant.begins c.loop-alloc.invariant.few
    (Some c.loop-alloc.fault) c.loop-alloc.invariant.next (sym c.in_default.ensures)

pub loop-alloc-preserved : goal.loop-alloc-preserved
loop-alloc-preserved c =
    let named : c.if-names_count.names_count ≡ (c.loop-alloc.names_count && is_of_names c.loop-alloc.fault) =
    elim c.if-names_count.branch [
      | then-names_count w ↦ named-still c.loop-alloc.names_count c.if-names_count.names_count c.loop-alloc.fault w.if-names_count.true (w.names_count-is ∙ w.is_of_names-names_count.ensures)
      | else-names_count w ↦ named-no-more c.loop-alloc.names_count c.if-names_count.names_count c.loop-alloc.fault w.if-names_count.false w.names_count-is
    ] in
    record {
      begins = one-found c.args.path.now c.args.files c.loop-alloc.names_count c.if-names_count.names_count c.loop-alloc.files c.empty_line.new.files
          c.loop-alloc.faults.items c.push.new.self.items c.loop-alloc.fault (c.in-Some.place.path.now, c.in-Some.place.line) c.loop-alloc.invariant.begins
          c.in_ok-push.ensures.items c.loop-alloc.invariant.next (sym c.in-Some.ensures) c.in_ok-empty_line.ensures named;
      next = subst (IsCheckedTo (bytes_of c.empty_line.new.files) c.args.path.now) c.in-Some-2.is c.in_ok-next.ensures.fault;
      some = λ none. absurd (omega (arith, none, c.in_ok-push.ensures.len));
      few = omega (arith, c.in_ok-push.ensures.len, c.push.new.self.ok.0, c.loop-alloc.faults.ok.0, c.loop-alloc-test.true);
    }

pub returns-in-None-clause-faults : goal.returns-in-None-clause-faults
returns-in-None-clause-faults c =
    let named : c.if-names_count.names_count ≡ (c.loop-alloc.names_count && is_of_names c.loop-alloc.fault) =
    elim c.if-names_count.branch [
      | then-names_count w ↦ named-still c.loop-alloc.names_count c.if-names_count.names_count c.loop-alloc.fault w.if-names_count.true (w.names_count-is ∙ w.is_of_names-names_count.ensures)
      | else-names_count w ↦ named-no-more c.loop-alloc.names_count c.if-names_count.names_count c.loop-alloc.fault w.if-names_count.false w.names_count-is
    ] in
    none-more c.args.path.now c.args.files c.if-names_count.names_count c.empty_line.new.files c.push.new.self.items
    (one-found c.args.path.now c.args.files c.loop-alloc.names_count c.if-names_count.names_count c.loop-alloc.files c.empty_line.new.files
    c.loop-alloc.faults.items c.push.new.self.items c.loop-alloc.fault (c.in-Some.place.path.now, c.in-Some.place.line) c.loop-alloc.invariant.begins
    c.in_ok-push.ensures.items c.loop-alloc.invariant.next (sym c.in-Some.ensures) c.in_ok-empty_line.ensures named)
    (omega (arith, c.in_ok-push.ensures.len, c.push.new.self.ok.0, c.loop-alloc.faults.ok.0, c.loop-alloc-test.true))
    None (subst (IsCheckedTo (bytes_of c.empty_line.new.files) c.args.path.now) c.in-None.is c.in_ok-next.ensures.fault) tt

pub returns-clause-faults : goal.returns-clause-faults
returns-clause-faults c =
    all-found c.args.path.now c.args.files c.loop-alloc.names_count c.loop-alloc.files c.loop-alloc.faults.items c.loop-alloc.invariant.begins c.loop-alloc.invariant.few (omega arith)
