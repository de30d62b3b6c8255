use Rattle.std.proofs.Common.{◌≡◌, ◌∙◌, sym, ap, subst, [], Ok}
use Rattle.vars_macros.specs.Expansion.{counted, expansion, finished}
use Rattle.vars_macros.specs.Machine.{left_in}
use Rattle.vars_macros.specs.Output.{tally_of, expansion_of}
use Rattle.vars_macros.specs.Scopes.{scope_seen}
use Rattle.vars_macros.specs.Answers.{Gives}
use Rattle.vars_macros.proofs.Tally.{nothing_counts}
use Rattle.vars_macros.proofs.Written.{expansion_text}
use Rattle.vars_macros.proofs.expanding.expand_in.Goals as goal

pub finish-requires : goal.finish-requires
finish-requires c =
    let done : left_in c.loop-output.machine ≡ [] = rw c.in_default.is at c.in_ok-event.ensures in
    expansion_text (scope_seen c.args.scope) c.args.vars c.args.text.now (finished (tally_of c.loop-output.output)) c.requires.scope c.requires.text
    (sym c.loop-output.invariant ∙ ap (counted (tally_of c.loop-output.output)) done ∙ nothing_counts (tally_of c.loop-output.output))

pub returns : goal.returns
returns c =
    let done : left_in c.loop-output.machine ≡ [] = rw c.in_default.is at c.in_ok-event.ensures in
    let is : expansion (scope_seen c.args.scope) c.args.vars c.args.text.now ≡ Ok (finished (tally_of c.loop-output.output)) =
    sym c.loop-output.invariant ∙ ap (counted (tally_of c.loop-output.output)) done ∙ nothing_counts (tally_of c.loop-output.output) in
    subst (Gives expansion_of c.finish.result) (sym is) c.finish.ensures
