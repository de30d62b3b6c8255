use Rattle.std.proofs.Common.{◌∙◌, ◌++◌, [], ◌∷◌, List, ℕ, Option, Vec, Global, sym, ap}
use Rattle.std.specs.List.{list_any}
use Rattle.std.specs.Str.{bytes_eq}
use Rattle.splices_flat.specs.declared.flat.MacroSetting.{MacroSetting}
use Rattle.splices_flat.specs.Settings.{is_namesake, with_macro}
use Rattle.std.specs.Prelude.{find}
use Rattle.splices_flat.specs.Warnings.{with_numbers, line_if}
use Rattle.splices_flat.proofs.Limits.{not_there}
use Rattle.splices_flat.proofs.MacroLists.{keys_stay, macro_replaced, namesake_found, macro_added, no_namesake}
use Rattle.splices_flat.proofs.flat.MacroSettings.put.Goals as goal
use Rattle.splices_flat.proofs.flat.MacroSettings.put.Goals.{in-Some+in_ok-add_once-in-Some, in-None+in_ok-reserve-in-None+in_ok-add-in-None+in_ok-push-in-None}

pub invariant_of-self : goal.invariant_of-self
invariant_of-self c =
    keys_stay c.self.inside.names c.self.inside.items.items c.args.one c.as_str.result.now c.in-Some.place c.self.invariant (c.as_str.ensures ∙ c.in_ok-key.ensures) (sym c.in-Some.is ∙ c.place_of.ensures.value)

pub add-requires : goal.add-requires
add-requires c =
    ap (λ (n : List ℕ). list_any (bytes_eq n) c.self.inside.names) (c.as_str-in-None.ensures ∙ sym c.as_str.ensures)
    ∙ not_there (bytes_eq c.as_str.result.now) c.self.inside.names (sym c.in-None.is ∙ c.place_of.ensures.value)

pub returns-clause-macros : goal.returns-clause-macros
returns-clause-macros c =
    let names = c.self.inside.names in
    let items = c.self.inside.items.items in
    let key = c.as_str.result.now in
    let is = c.as_str.ensures ∙ c.in_ok-key.ensures in
    elim c.match-place_of.branch [
      | in-Some+in_ok-add_once-in-Some w ↦
          w.self-is ∙ macro_replaced names items c.args.one key w.in-Some.place c.self.invariant is (sym w.in-Some.is ∙ c.place_of.ensures.value)
          ∙ ap (λ (ms : List MacroSetting). with_macro ms c.args.one) c.self.view_is
      | in-None+in_ok-reserve-in-None+in_ok-add-in-None+in_ok-push-in-None w ↦
          w.self-is ∙ macro_added names items w.push.new.self.items c.args.one key c.self.invariant is (sym w.in-None.is ∙ c.place_of.ensures.value)
          (w.in_ok-push-in-None.ensures.items ∙ ap (λ (ms : List MacroSetting). ms ++ c.args.one ∷ []) w.in_ok-reserve-in-None.ensures.items)
          ∙ ap (λ (ms : List MacroSetting). with_macro ms c.args.one) c.self.view_is
    ]

pub returns-clause-replaced : goal.returns-clause-replaced
returns-clause-replaced c =
    let names = c.self.inside.names in
    let items = c.self.inside.items.items in
    let key = c.as_str.result.now in
    let is = c.as_str.ensures ∙ c.in_ok-key.ensures in
    let before = c.args.replaced.now.items in
    elim c.match-place_of.branch [
      | in-Some+in_ok-add_once-in-Some w ↦
          ap (λ (v : Vec ℕ Global). v.items) w.replaced-is ∙ w.in_ok-add_once-in-Some.ensures
          ∙ ap (λ (o : Option MacroSetting). with_numbers before (line_if (λ m. m.line) o))
          (namesake_found names items c.args.one w.index-old.result.now key w.in-Some.place c.self.invariant is (sym w.in-Some.is ∙ c.place_of.ensures.value) w.index-old.ensures)
          ∙ ap (λ (ms : List MacroSetting). with_numbers before (line_if (λ m. m.line) (find (is_namesake c.args.one) ms))) c.self.view_is
      | in-None+in_ok-reserve-in-None+in_ok-add-in-None+in_ok-push-in-None w ↦
          ap (λ (v : Vec ℕ Global). v.items) w.replaced-is
          ∙ ap (λ (o : Option MacroSetting). with_numbers before (line_if (λ m. m.line) o)) (no_namesake names items c.args.one key c.self.invariant is (sym w.in-None.is ∙ c.place_of.ensures.value))
          ∙ ap (λ (ms : List MacroSetting). with_numbers before (line_if (λ m. m.line) (find (is_namesake c.args.one) ms))) c.self.view_is
    ]
