use Rattle.std.proofs.Common.{subst, ℕ, List}
use Rattle.vars_macros.specs.ArgumentGrammar.{SpellsArguments, IsSplit}
use Rattle.vars_macros.proofs.Splits.{only_these}
use Rattle.vars_macros.proofs.arguments.split_arguments.Goals as goal

pub returns-clause-only : goal.returns-clause-only
returns-clause-only c =
    let spelled = subst (λ (text : List ℕ). IsSplit (SpellsArguments text) c.split_bytes.result) c.as_bytes.ensures.value c.split_bytes.ensures in
    λ words spells. only_these c.args.text.now c.split_bytes.result spelled words spells
