use Rattle.std.proofs.Common.{Bor, ap, inl, inr, List, ℕ}
use Rattle.std.specs.Prelude.{option_map}
use Rattle.std.proofs.lemmas.Result.{IfErr-weaker}
use Rattle.dag_main_args.proofs.Helped.{no_command_helped, no_such_command}
use Rattle.dag_main_args.proofs.commands.help_of.Goals as goal

pub returns-in-Some : goal.returns-in-Some
returns-in-Some c = IfErr-weaker c.clap_help.result _ _ (λ fault h. elim h [
  | inl memory ↦ inl memory
  | inr other ↦ inr (c.in-Some.name.now, ap (option_map (λ (t : Bor (List ℕ)). t.now)) c.in-Some.is, no_such_command c.in-Some.name.now other)
]) c.clap_help.ensures

pub returns-in-None : goal.returns-in-None
returns-in-None c = IfErr-weaker c.clap_help-in-None.result _ _ (λ fault h. elim h [
  | inl memory ↦ inl memory
  | inr other ↦ absurd (no_command_helped other)
]) c.clap_help-in-None.ensures
