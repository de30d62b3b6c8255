use Rattle.std.proofs.Common.{ℕ, ◌∙◌, arith}
use Rattle.std.proofs.lemmas.List.{length-map}
use Rattle.std.specs.Prelude.{Vec}
use Rattle.std.specs.Global.{Global}
use Rattle.failure_report.proofs.Searching.{met_count}
use Rattle.failure_report.proofs.reaching.count_from.Goals as goal

pub overflow_cast-result : goal.overflow_cast-result
overflow_cast-result c =
    let r = c.in_ok-search.ensures in
    let many = length-map c.args.lists.now (λ (v : Vec ℕ Global). v.items) in
    let few = c.requires.few in
    let counted = r.search.count in
    let is = c.count.ensures in
    omega (arith, r.len, many, few, counted, is)

pub returns : goal.returns
returns c =
    let r = c.in_ok-search.ensures in
    record { marks = c.in_ok-search.search.met; are = r.are; counted = c.count.ensures ∙ met_count c.in_ok-search.search r.search }
