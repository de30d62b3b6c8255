use Rattle.std.proofs.Common.{◌∙◌, inl, List, ℕ, Some, ap, sym, subst}
use Rattle.std.specs.Option.{option_map}
use Rattle.dag_main_check.specs.declared.fault.RunFault.TheVariants.{Memory}
use Rattle.dag_main_files.specs.Beside.{IsRefusalOf, refusing_had_no_memory, IsRefusalHeld, refusing_unheld_had_no_memory}
use Rattle.salvage.specs.declared.fault.SalvageFault.TheVariants.{Refused, NoInputs, BadInputs, OtherRound}
use Rattle.salvage.specs.Refused.{IsNoInputs, has_no_inputs, inputs_refused, not_spelled, of_another_round}
use Rattle.salvage.specs.Sight.{held_files_if}
use Rattle.salvage.proofs.Refusals.{told-as}
use Rattle.salvage.proofs.rounds.inputs_with.Goals as goal

pub returns-in_err-name-clause-refused : goal.returns-in_err-name-clause-refused
returns-in_err-name-clause-refused g c =
    told-as (IsNoInputs (held_files_if (g.F.Folder.honest c.args.folder.now) (g.F.Folder.holds c.args.folder.now) (g.F.Folder.has c.args.folder.now) c.args.top.now) c.args.top.now c.args.digest.now) (Refused Memory) (inputs_refused _ (refusing_had_no_memory, λ honest. refusing_unheld_had_no_memory)) c.from_residual.result c.from_residual.ensures.1

pub returns-in_err-bytes-clause-refused : goal.returns-in_err-bytes-clause-refused
returns-in_err-bytes-clause-refused g c =
    told-as (IsNoInputs (held_files_if (g.F.Folder.honest c.args.folder.now) (g.F.Folder.holds c.args.folder.now) (g.F.Folder.has c.args.folder.now) c.args.top.now) c.args.top.now c.args.digest.now) (Refused c.in_err-bytes.field-0.0) (inputs_refused _ (
      subst (λ (p : List ℕ). IsRefusalOf p c.in_err-bytes.field-0.0) (c.as_str.ensures ∙ c.in_ok-name.ensures) c.in_err-bytes.ensures.named,
      λ honest. subst (λ (p : List ℕ). IsRefusalHeld (g.F.Folder.holds c.args.folder.now) p c.in_err-bytes.field-0.0) (c.as_str.ensures ∙ c.in_ok-name.ensures)
          (c.in_err-bytes.ensures.unheld honest),
    ))
    c.from_residual-in_err-bytes.result c.from_residual-in_err-bytes.ensures.1

pub returns-in_default-clause-refused : goal.returns-in_default-clause-refused
returns-in_default-clause-refused g c =
    subst (λ (n : List ℕ). IsNoInputs (held_files_if (g.F.Folder.honest c.args.folder.now) (g.F.Folder.holds c.args.folder.now) (g.F.Folder.has c.args.folder.now) c.args.top.now) c.args.top.now c.args.digest.now (NoInputs n)) (sym c.in_ok-name.ensures)
    (has_no_inputs (λ honest. inl (ap (g.F.Folder.holds c.args.folder.now) (sym (c.as_str.ensures ∙ c.in_ok-name.ensures)) ∙ sym (c.in_ok-bytes.ensures.bytes honest)
    ∙ ap (option_map (λ b. b.items)) c.in_default.is)))

pub returns-in-Err-NotSpelled-clause-refused : goal.returns-in-Err-NotSpelled-clause-refused
returns-in-Err-NotSpelled-clause-refused g c =
    subst (λ (n : List ℕ). IsNoInputs (held_files_if (g.F.Folder.honest c.args.folder.now) (g.F.Folder.holds c.args.folder.now) (g.F.Folder.has c.args.folder.now) c.args.top.now) c.args.top.now c.args.digest.now (BadInputs n)) (sym c.in_ok-name.ensures)
    (not_spelled c.in-Some.bytes.items (λ honest. ap (g.F.Folder.holds c.args.folder.now) (sym (c.as_str.ensures ∙ c.in_ok-name.ensures)) ∙ sym (c.in_ok-bytes.ensures.bytes honest)
    ∙ ap (option_map (λ b. b.items)) c.in-Some.is))

pub returns-in-Err-Memory-clause-refused : goal.returns-in-Err-Memory-clause-refused
returns-in-Err-Memory-clause-refused g c = inputs_refused Memory (refusing_had_no_memory, λ honest. refusing_unheld_had_no_memory)

pub returns-then-not-has_digest-clause-refused : goal.returns-then-not-has_digest-clause-refused
returns-then-not-has_digest-clause-refused g c =
    subst (λ (n : List ℕ). IsNoInputs (held_files_if (g.F.Folder.honest c.args.folder.now) (g.F.Folder.holds c.args.folder.now) (g.F.Folder.has c.args.folder.now) c.args.top.now) c.args.top.now c.args.digest.now (OtherRound n)) (sym c.in_ok-name.ensures)
    (of_another_round c.in-Ok.inputs.digest c.in-Ok.inputs.files.items
    (λ honest. ap (g.F.Folder.holds c.args.folder.now) (sym (c.as_str.ensures ∙ c.in_ok-name.ensures)) ∙ sym (c.in_ok-bytes.ensures.bytes honest)
    ∙ ap (option_map (λ b. b.items)) c.in-Some.is ∙ ap Some (sym (c.in-Ok.ensures ∙ c.as_slice.ensures.value)))
    (λ same. let yes = c.has_digest.ensures.1 same in let other = c.if-not-has_digest.true in cc))

pub returns-clause-held : goal.returns-clause-held
returns-clause-held g c = λ honest.
    ap (g.F.Folder.holds c.args.folder.now) (sym (c.as_str.ensures ∙ c.in_ok-name.ensures)) ∙ sym (c.in_ok-bytes.ensures.bytes honest)
    ∙ ap (option_map (λ b. b.items)) c.in-Some.is ∙ ap Some (sym (c.in-Ok.ensures ∙ c.as_slice.ensures.value))
