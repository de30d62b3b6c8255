use Rattle.std.proofs.Common.{ℕ, List, length, Option, sym, ap, subst, ◌∙◌}
use Rattle.run_times.specs.Critical.{last_in, IsLatestOf, IsLastAmong, for_all}
use Rattle.run_times.proofs.Waiting.{node-at-below, waits-same, waits-parents}
use Rattle.run_times.proofs.critical.Waits.before_of.Goals as goal

pub returns-in-Some-last_in : goal.returns-in-Some-last_in
returns-in-Some-last_in c =
    let is = sym c.in-Some.is ∙ c.requires.node in
    waits-same c.args.graph.now c.args.runs.now c.args.self.now c.args.place c.in-Some.number c.requires.waits is
    (node-at-below c.args.graph.now c.args.runs.now c.args.place c.in-Some.number is) c.in-Some-last_in.last
    (c.in-Some-last_in.ensures ∙ ap (λ (last : List (Option ℕ)). last_in last c.in-Some.number) c.deref.ensures.value)

pub returns-in-None-last_in : goal.returns-in-None-last_in
returns-in-None-last_in c =
    let is = sym c.in-Some.is ∙ c.requires.node in
    waits-parents c.args.graph.now c.args.runs.now c.args.self.now c.args.place c.in-Some.number c.requires.waits is
    (node-at-below c.args.graph.now c.args.runs.now c.args.place c.in-Some.number is) c.parents.result.now c.latest_among.result
    (c.in-None-last_in.ensures ∙ ap (λ (last : List (Option ℕ)). last_in last c.in-Some.number) c.deref.ensures.value) c.parents.ensures
    (subst (λ (last : List (Option ℕ)). IsLatestOf c.args.runs.now (λ place. IsLastAmong last c.parents.result.now (length c.parents.result.now) place) c.latest_among.result) c.deref-in-None-last_in.ensures.value
    c.latest_among.ensures)

pub returns-in-None : goal.returns-in-None
returns-in-None c = for_all c.args.self.now.latest (sym c.requires.node ∙ c.in-None.is) c.requires.waits.latest
