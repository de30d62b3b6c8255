use Rattle.std.proofs.Common.{◌≡◌, ℕ, Bool, true, false, cond, List, Option, Some, unwrap_or, refl, ap, ◌∙◌}
use Rattle.std.specs.HashMap.{get_by}
use Rattle.std.specs.Str.{bytes_eq}
use Rattle.std.proofs.lemmas.Slice.Eq.{bytes_eq-Decides}
use Rattle.std.proofs.lemmas.Map.Text.{hash_map_updates_str}
use Rattle.run_times.specs.declared.kinds.Total.{Total}
use Rattle.run_times.specs.Totals.{total_in, with_phase}
use Rattle.run_times.proofs.kinds.add.Goals as goal

chosen : (b : Bool) (new old : Option Total) (total none : Total) → new ≡ cond b (Some total) old → unwrap_or new none ≡ cond b total (unwrap_or old none)
chosen true new old total none is = ap (λ (o : Option Total). unwrap_or o none) is
chosen false new old total none is = ap (λ (o : Option Total). unwrap_or o none) is

pub returns : goal.returns
returns c other =
    let total : Total = record { count = c.saturating_add.result; took = c.saturating_add-2.result } in
    let is : total ≡ with_phase (total_in c.args.totals.now c.args.kind.now) c.args.took
    = (λ j. record { count = c.saturating_add.ensures j; took = c.saturating_add-2.ensures j }) ∙ ap (λ (t : Total). with_phase t c.args.took) c.total_in-before.ensures in
    let now = hash_map_updates_str c.args.kind.now c.args.totals.now c.insert.new.self (Some total) c.in_ok-insert.ensures.updates other in
    chosen (bytes_eq c.args.kind.now other) (get_by (λ k. bytes_eq other k.now) c.insert.new.self) (get_by (λ k. bytes_eq other k.now) c.args.totals.now) total
    (record { count = 0; took = 0 }) now
    ∙ by (bytes_eq c.args.kind.now other) refl total is
  where
    by : (b : Bool) → bytes_eq c.args.kind.now other ≡ b → (total : Total) → total ≡ with_phase (total_in c.args.totals.now c.args.kind.now) c.args.took
        → cond b total (total_in c.args.totals.now other) ≡ cond b (with_phase (total_in c.args.totals.now other) c.args.took) (total_in c.args.totals.now other)
    by true same total is = is ∙ ap (λ (kind : List ℕ). with_phase (total_in c.args.totals.now kind) c.args.took) ((bytes_eq-Decides c.args.kind.now other).0 same)
    by false same total is = refl
