use Rattle.std.proofs.Common.{ap, sym, ◌∙◌, None, Some, Option}
use Rattle.std.specs.Option.{option_copied, option_map_or}
use Rattle.node_machine.specs.declared.Outcome.TheVariants.{Exit}
use Rattle.node_machine.specs.declared.table.PhaseOutcomes.{PhaseOutcomes}
use Rattle.node_machine.specs.TableMaps.{phase_outcome}
use Rattle.node_machine.proofs.TableEntries.{looked_up}
use Rattle.node_machine.proofs.table.Table.get.Goals as goal

pub returns-in_default : goal.returns-in_default
returns-in_default c =
    looked_up c.self.inside.nodes c.args.self.now c.args.name.now c.args.attempt c.args.phase None c.self.view_is c.self.invariant
    (ap option_copied (sym c.in_default.is) ∙ c.get.ensures.value)

pub returns-in-Some-get : goal.returns-in-Some-get
returns-in-Some-get c =
    c.get-in-Some-get.ensures
    ∙ ap (λ (o : Option PhaseOutcomes). option_map_or (phase_outcome c.args.phase) o (Exit 0)) (ap option_copied (sym c.in-Some-get.is) ∙ c.get-2.ensures.value)
    ∙ looked_up c.self.inside.nodes c.args.self.now c.args.name.now c.args.attempt c.args.phase (Some c.in-Some.attempts.now) c.self.view_is c.self.invariant
    (ap option_copied (sym c.in-Some.is) ∙ c.get.ensures.value)

pub returns-in-None : goal.returns-in-None
returns-in-None c =
    ap (λ (o : Option PhaseOutcomes). option_map_or (phase_outcome c.args.phase) o (Exit 0)) (ap option_copied (sym c.in-None.is) ∙ c.get-2.ensures.value)
    ∙ looked_up c.self.inside.nodes c.args.self.now c.args.name.now c.args.attempt c.args.phase (Some c.in-Some.attempts.now) c.self.view_is c.self.invariant
    (ap option_copied (sym c.in-Some.is) ∙ c.get.ensures.value)
