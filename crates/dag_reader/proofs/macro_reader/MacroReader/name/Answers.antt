use Rattle.std.proofs.Common.{◌∙◌, drop, sym, ap, subst}
use Rattle.dag_reader.specs.Macros.{is_macro_name, ends_name}
use Rattle.dag_reader.specs.MacroReading.{Ahead}
use Rattle.dag_reader.proofs.Bytes.{Stops, stops_at_place}
use Rattle.dag_reader.proofs.PairSteps.{name_starts_at, stop_boundary, ends_name_ascii}
use Rattle.dag_reader.proofs.macro_reader.MacroReader.name.Goals as goal

pub range-requires-clause-start_boundary : goal.range-requires-clause-start_boundary
range-requires-clause-start_boundary c =
    let s = c.args.self.now in
    let named = ap is_macro_name (sym c.run-name.ensures.value) ∙ sym c.is_macro_name.ensures ∙ c.if-not-is_macro_name.false in
    λ _. rw c.run-name.ensures.text (name_starts_at s.text.now s.line s.at named s.within)

pub range-requires-clause-end_boundary : goal.range-requires-clause-end_boundary
range-requires-clause-end_boundary c =
    let s = c.args.self.now in
    let new = c.run-name.new.self in
    let bytes = ap (λ (a : Ahead). a.bytes) c.run-name.ensures.ahead in
    stop_boundary ends_name new.text.now new.at ends_name_ascii new.within (subst (Stops ends_name) (sym bytes) (stops_at_place ends_name (drop s.at s.text.now)))
