use Rattle.std.proofs.Common.{◌≡◌, ◌∙◌, List, ◌∷◌, ◌++◌, inl, inr, refl, sym, ap, subst}
use Rattle.run_plan.specs.Plan.{Plan}
use Rattle.node_machine.specs.declared.Record.{Record}
use Rattle.node_machine.specs.declared.Record.TheVariants.{Life}
use Rattle.recovery_manager.specs.Managed.{ReadsJournal}
use Rattle.recovery_manager.specs.Inputs.{IsHeaderOf}
use Rattle.recovery.proofs.laws.one_life.Goals as goal

pub returns-clause-begun : goal.returns-clause-begun
returns-clause-begun g c disk manager now own spawned left fresh life adds lawful hands leaves = record {
  reads = inl (fresh, refl);
  goes_on = inr (own, adds ∙ ap (λ (l : List Record). own ++ l) life);
  lawful = lawful;
  spawns = hands;
  leaves = leaves;
}

same_tail : (newest : Record) (past past' : List Record) → newest ∷ past ≡ newest ∷ past' → past ≡ past'
same_tail newest past past' is = cc

pub returns-clause-recovered : goal.returns-clause-recovered
returns-clause-recovered g c disk manager now past own spawned left recovered life plan_is adds lawful hands leaves = record {
  reads = inr (
    recovered.header,
    subst (λ (l : List Record). ReadsJournal recovered.header l (g.D.Disk.seen disk)) (same_tail Life recovered.past past (sym recovered.records ∙ life)) recovered.found,
    subst (λ (p : Plan). IsHeaderOf p recovered.header) (sym plan_is) recovered.inputs,
  );
  goes_on = inr (own, adds ∙ ap (λ (l : List Record). own ++ l) life);
  lawful = lawful;
  spawns = hands;
  leaves = leaves;
}
