use Rattle.std.proofs.Common.{◌<◌, ℕ, List, [], map, refl, sym, subst, arith}
use Rattle.std.specs.Prelude.{All}
use Rattle.std.proofs.lemmas.List.Elements.{All-nil, All-contains}
use Rattle.rescue_file.specs.Numbered.{IsFileNumber}
use Rattle.dag_main_check.proofs.Refusals.{weaker}
use Rattle.dag_main_files.specs.Beside.{IsRescueMoveFault, folder_name_of, IsRefusalOf, refusing_had_no_memory, folder_not_listed, rescue_not_renamed}
use Rattle.dag_main_files.specs.Changes.{AreHigher, rescue_away, syncs_names, puts_rescues_away}
use Rattle.dag_main_files.specs.Rescues.{AreAbove}
use Rattle.dag_main_files.proofs.RunFaults.{by-fault}
use Rattle.dag_main_files.proofs.Makes.{begun-none, begun-more, makes-refused, makes-after, makes-all-or-none}
use Rattle.dag_main_files.proofs.beside.Place.put_rescues_away.Goals as goal

-- those that are found are such numbers
higher : (names : List (List ℕ)) (top : List ℕ) (from : ℕ) (numbers : List ℕ) → AreAbove names top from numbers → AreHigher from numbers
higher names top from numbers are = record { falling = are.falling; above = are.above; named = are.named }

none-higher : (from : ℕ) → AreHigher from []
none-higher from = record {
  falling = λ i j d before in'. absurd (omega (arith, in'));
  above = All-nil (λ number. from < number);
  named = All-nil IsFileNumber;
}

pub returns-in_err-names-clause-refused : goal.returns-in_err-names-clause-refused
returns-in_err-names-clause-refused g c =
    by-fault (IsRescueMoveFault c.args.self.now.top.now c.args.from) c.in_err-names.field-0.0 (folder_not_listed _ c.in_err-names.ensures)
    c.from_residual.result c.from_residual.ensures.1

pub returns-in_err-names-clause-changes : goal.returns-in_err-names-clause-changes
returns-in_err-names-clause-changes g c = (
  [],
  none-higher c.args.from,
  makes-refused _ c.from_residual.result c.from_residual.ensures.1 (puts_rescues_away c.args.self.now.top.now []) c.args.changes.now c.args.changes.now
      (begun-none (puts_rescues_away c.args.self.now.top.now []) c.args.changes.now c.args.changes.now refl),
)

pub returns-in_err-numbers-clause-refused : goal.returns-in_err-numbers-clause-refused
returns-in_err-numbers-clause-refused g c =
    by-fault (IsRescueMoveFault c.args.self.now.top.now c.args.from) c.in_err-numbers.field-0.0
    (folder_not_listed _ (subst (IsRefusalOf (folder_name_of c.args.self.now.top.now)) (sym c.in_err-numbers.ensures.refused) refusing_had_no_memory))
    c.from_residual-in_err-numbers.result c.from_residual-in_err-numbers.ensures.1

pub returns-in_err-numbers-clause-changes : goal.returns-in_err-numbers-clause-changes
returns-in_err-numbers-clause-changes g c = (
  [],
  none-higher c.args.from,
  makes-refused _ c.from_residual-in_err-numbers.result c.from_residual-in_err-numbers.ensures.1 (puts_rescues_away c.args.self.now.top.now []) c.args.changes.now c.args.changes.now
      (begun-none (puts_rescues_away c.args.self.now.top.now []) c.args.changes.now c.args.changes.now refl),
)

pub returns-in_err-put_each_away-clause-refused : goal.returns-in_err-put_each_away-clause-refused
returns-in_err-put_each_away-clause-refused g c =
    let found = c.in_ok-numbers.ensures.above in
    let number = c.in_err-put_each_away.ensures.refused.0 in
    let among = subst (λ (ns : List ℕ). Rattle.std.specs.Prelude.Contains ns number) c.deref.ensures.value c.in_err-put_each_away.ensures.refused.1 in
    by-fault (IsRescueMoveFault c.args.self.now.top.now c.args.from) c.in_err-put_each_away.field-0.0
    (rescue_not_renamed number _ (All-contains (λ n. c.args.from < n) c.in_ok-numbers.numbers.items number found.above among)
    (All-contains IsFileNumber c.in_ok-numbers.numbers.items number found.named among) c.in_err-put_each_away.ensures.refused.2)
    c.from_residual-in_err-put_each_away.result c.from_residual-in_err-put_each_away.ensures.1

pub returns-in_err-put_each_away-clause-changes : goal.returns-in_err-put_each_away-clause-changes
returns-in_err-put_each_away-clause-changes g c =
    let top = c.args.self.now.top.now in
    let numbers = c.deref.result.now in (
      numbers,
      subst (AreHigher c.args.from) (sym c.deref.ensures.value) (higher _ _ c.args.from c.in_ok-numbers.numbers.items c.in_ok-numbers.ensures.above),
      makes-refused _ c.from_residual-in_err-put_each_away.result c.from_residual-in_err-put_each_away.ensures.1 (puts_rescues_away top numbers) c.args.changes.now
          c.put_each_away.new.changes
          (begun-more (map (rescue_away top) numbers) (syncs_names top) c.args.changes.now c.put_each_away.new.changes c.in_err-put_each_away.ensures.changes),
    )

pub returns-clause-refused : goal.returns-clause-refused
returns-clause-refused g c =
    weaker (IsRescueMoveFault c.args.self.now.top.now c.args.from) c.sync_names.result c.sync_names.ensures.refused (λ fault is.
    folder_not_listed fault (subst (λ (name : List ℕ). IsRefusalOf name fault) c.folder_of.ensures is))

pub returns-clause-changes : goal.returns-clause-changes
returns-clause-changes g c =
    let top = c.args.self.now.top.now in
    let numbers = c.deref.result.now in (
      numbers,
      subst (AreHigher c.args.from) (sym c.deref.ensures.value) (higher _ _ c.args.from c.in_ok-numbers.numbers.items c.in_ok-numbers.ensures.above),
      makes-after c.sync_names.result (map (rescue_away top) numbers) (syncs_names top) c.args.changes.now c.put_each_away.new.changes c.sync_names.new.changes
          c.in_ok-put_each_away.ensures.changes
          (makes-all-or-none c.sync_names.result (syncs_names top) c.put_each_away.new.changes c.sync_names.new.changes c.sync_names.ensures.changes c.sync_names.ensures.no_change),
    )
