use Rattle.std.proofs.Common.{◌∙◌, sym, ap, List, ℕ}
use Rattle.std.specs.Prelude.{position}
use Rattle.std.specs.Str.{bytes_eq}
use Rattle.splices_flat.specs.declared.flat.CategoryLimit.{CategoryLimit}
use Rattle.run_plan_node.specs.Specs.{category_place}
use Rattle.run_plan_node.proofs.spec.category_of.Goals as goal

pub returns-in-Some : goal.returns-in-Some
returns-in-Some c =
    c.place_of.ensures ∙ ap (λ (name : List ℕ). position (λ (l : CategoryLimit). bytes_eq name l.name) c.args.limits.now) c.as_str.ensures
    ∙ ap (category_place c.args.limits.now) (sym c.in-Some.is)
