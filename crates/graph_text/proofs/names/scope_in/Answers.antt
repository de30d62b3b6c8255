use Rattle.std.proofs.Common.{◌-◌, List, ℕ, map, take, Bor, sym, ap, ◌∙◌, length}
use Rattle.std.proofs.lemmas.List.{take-map, length-map}
use Rattle.graph_text.proofs.names.scope_in.Goals as goal

pub returns-in_default : goal.returns-in_default
returns-in_default c =
    let parts = c.args.parts.now in
    sym (take-map (λ (part : Bor (List ℕ)). part.now) (length parts - 1) parts)
    ∙ ap (λ n. take (n - 1) (map (λ (part : Bor (List ℕ)). part.now) parts)) (sym (length-map parts (λ (part : Bor (List ℕ)). part.now)))
