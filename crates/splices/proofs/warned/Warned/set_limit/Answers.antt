use Rattle.std.proofs.Common.{◌≡◌, ◌∙◌, ◌++◌, [], ◌∷◌, List, ℕ, sym, ap, position}
use Rattle.std.specs.List.{list_any}
use Rattle.std.specs.Str.{bytes_eq}
use Rattle.splices_flat.specs.Notices.{overridden, place, with_notice}
use Rattle.splices_flat.specs.Warnings.{line_of_limit}
use Rattle.splices_flat.proofs.Limits.{names_stay, not_there, limit_replaced, limit_added}
use Rattle.splices.proofs.warned.Warned.set_limit.Goals as goal

pub invariant_of-self-in-Some : goal.invariant_of-self-in-Some
invariant_of-self-in-Some c =
    let place = λ (n : List ℕ). position (bytes_eq n) c.self.inside.names in
    names_stay c.self.inside.names c.self.inside.limits.items c.args.limit c.in-Some.place c.self.invariant (sym c.in-Some.is ∙ c.place_of.ensures.value ∙ ap place c.as_str.ensures)

pub add-requires : goal.add-requires
add-requires c =
    let place = λ (n : List ℕ). position (bytes_eq n) c.self.inside.names in
    let among = λ (n : List ℕ). list_any (bytes_eq n) c.self.inside.names in
    ap among c.as_str-in-None.ensures ∙ not_there (bytes_eq c.args.limit.name) c.self.inside.names (sym c.in-None.is ∙ c.place_of.ensures.value ∙ ap place c.as_str.ensures)

pub returns-in_ok-add_overridden-in-Some : goal.returns-in_ok-add_overridden-in-Some
returns-in_ok-add_overridden-in-Some c =
    let place_in = λ (n : List ℕ). position (bytes_eq n) c.self.inside.names in
    let before = c.self.inside.notices in
    let limit = c.args.limit in
    let old = c.index-old.result.now in
    let more : c.add_overridden.new.self ≡ with_notice before (overridden (line_of_limit old) (line_of_limit limit)) =
    c.in_ok-add_overridden-in-Some.ensures
    ∙ ap (λ (p : List ℕ). with_notice before (overridden (place p old.line) (place c.as_str-path.result.now limit.line))) c.as_str-in-Some.ensures
    ∙ ap (λ (p : List ℕ). with_notice before (overridden (line_of_limit old) (place p limit.line))) c.as_str-path.ensures in
    rw (← c.self.view_is)
    (limit_replaced c.self.inside.names c.self.inside.limits.items before c.add_overridden.new.self limit old c.in-Some.place c.self.invariant (sym c.in-Some.is ∙ c.place_of.ensures.value ∙ ap place_in c.as_str.ensures) c.index-old.ensures more)

pub returns-in_ok-push-in-None : goal.returns-in_ok-push-in-None
returns-in_ok-push-in-None c =
    let place_in = λ (n : List ℕ). position (bytes_eq n) c.self.inside.names in
    let more : c.push.new.self.items ≡ c.self.inside.limits.items ++ c.args.limit ∷ [] = c.in_ok-push-in-None.ensures.items ∙ ap (λ ls. ls ++ c.args.limit ∷ []) c.in_ok-reserve-in-None.ensures.items in
    rw (← c.self.view_is)
    (limit_added c.self.inside.names c.self.inside.limits.items c.push.new.self.items c.self.inside.notices c.args.limit c.self.invariant (sym c.in-None.is ∙ c.place_of.ensures.value ∙ ap place_in c.as_str.ensures) more)
