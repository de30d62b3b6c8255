use Rattle.std.proofs.Common.{◌∙◌, inl, inr, sym, subst}
use Rattle.clap.specs.Words.{HasKind, Kinds, app_of}
use Rattle.dag_main_args.proofs.Answering.{free_app}
use Rattle.dag_main_args.proofs.commands.clap_help.Goals as goal

pub returns-in-Refused : goal.returns-in-Refused
returns-in-Refused c =
    let app = app_of c.in_ok-dagrun_command.field-0 in
    let table = c.in_ok-dagrun_command.ensures in
    let kind = c.in-Err.ensures.kinds (free_app app table) in
    inr (record {
      app = app;
      table = table;
      other = λ e. elim (subst (λ (kinds : Kinds). HasKind kinds c.in-Err.error) e kind) [
        | inl memory ↦
            let same = c.in-Refused.ensures memory in
            cc
        | inr (inl help) ↦
            let bad = rw (c.kind.ensures ∙ help) at (sym c.if-eq.false ∙ c.eq.ensures) in
            cc
        | inr (inr none) ↦ absurd none
      ];
    })
