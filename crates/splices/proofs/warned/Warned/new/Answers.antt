use Rattle.std.proofs.Common.{◌∙◌, [], List, map, sym, ap}
use Rattle.splices_flat.specs.Notices.{Notice}
use Rattle.splices_flat.specs.Warnings.{Warned}
use Rattle.splices_flat.specs.declared.flat.CategoryLimit.{CategoryLimit}
use Rattle.splices.proofs.warned.Warned.new.Goals as goal

pub invariant_of-result : goal.invariant_of-result
invariant_of-result c = c.new.ensures ∙ ap (λ (ls : List CategoryLimit). map (λ l. l.name) ls) (sym c.new-2.ensures.items)

pub returns : goal.returns
returns c =
    let warned : List CategoryLimit → List Notice → Warned = λ ls ns. record { limits = ls; notices = ns } in
    ap (λ (ls : List CategoryLimit). warned ls c.new-3.result) c.new-2.ensures.items ∙ ap (λ (ns : List Notice). warned [] ns) c.new-3.ensures
