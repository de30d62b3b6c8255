use Rattle.std.proofs.Common.{rules, ◌≡◌, ◌∙◌, ◌++◌, ℕ, List, map, ap}
use Rattle.std.specs.Map.Iter.{deref_pair}
use Rattle.std.proofs.lemmas.Map.Iter.{iter_end}
use Rattle.round_inputs.proofs.Listings.{begun_all}
use Rattle.round_inputs.proofs.begun.push_files.Goals as goal

pub returns : goal.returns
returns c =
    let all : map deref_pair c.loop-path.yielded ≡ c.args.files.now.files.entries = search (rules, iter_end) in
    c.loop-path.invariant ∙ ap (λ (t : List ℕ). c.args.text.now.items ++ t) (begun_all c.args.files.now c.loop-path.yielded all)
