use Rattle.std.proofs.Common.{◌≡◌, ◌∙◌, inl, inr, ℕ, List, Option, Some, None, true, false, refl, ap, sym, subst}
use Rattle.std.specs.Prelude.{is_some}
use Rattle.std.specs.Option.{option_map}
use Rattle.salvage.specs.Round.{sum_in}
use Rattle.salvage.specs.declared.fault.SalvageFault.TheVariants.{Refused, Changed}
use Rattle.salvage.specs.Others.{IsOtherRescue, IsOtherFile, rescue_missing, rescue_changed, rescue_refused}
use Rattle.dag_main_check.specs.declared.fault.RunFault.{RunFault}
use Rattle.dag_main_files.specs.Beside.{IsRefusalOf, refusing_had_no_memory, IsRefusalHeld, refusing_unheld_had_no_memory}
use Rattle.rescue_file.specs.Numbered.{rescue_name_of}
use Rattle.dag_main_files.proofs.Held.{rescue-held}
use Rattle.salvage.specs.Sight.{held_files_if}
use Rattle.salvage.proofs.Refusals.{told-as}
use Rattle.salvage.proofs.rounds.rescue_in.Goals as goal

none-of : (o : Option (List ℕ)) → is_some o ≡ false → o ≡ None
none-of None is = refl
none-of (Some sum) is = absurd cc

some-of : (o : Option (List ℕ)) → is_some o ≡ true → (sum : List ℕ) × (o ≡ Some sum)
some-of None is = absurd cc
some-of (Some sum) is = (sum, refl)

pub returns-in-None-2-clause-same : goal.returns-in-None-2-clause-same
returns-in-None-2-clause-same g c =
    inr (subst (λ (p : List ℕ). sum_in c.args.inputs.now.files.items p ≡ None) c.in_ok-path.ensures.name
    (none-of (sum_in c.args.inputs.now.files.items c.in_ok-path.path) (sym c.has_file.ensures ∙ c.if-has_file.false)))

pub returns-in_err-path-clause-refused : goal.returns-in_err-path-clause-refused
returns-in_err-path-clause-refused g c =
    told-as (IsOtherRescue (held_files_if (g.F.Folder.honest c.args.folder.now) (g.F.Folder.holds c.args.folder.now) (g.F.Folder.has c.args.folder.now) c.args.top.now) c.args.inputs.now.files.items c.args.top.now c.args.used) (Refused c.in_err-path.field-0.0)
    (rescue_refused _ (
      subst (IsRefusalOf (rescue_name_of c.args.top.now c.args.used)) (sym c.in_err-path.ensures.err) refusing_had_no_memory,
      λ honest. subst (λ (f : RunFault). IsRefusalHeld (g.F.Folder.holds c.args.folder.now) (rescue_name_of c.args.top.now c.args.used) f) (sym c.in_err-path.ensures.err)
          refusing_unheld_had_no_memory,
    )) c.from_residual.result c.from_residual.ensures.1

pub returns-in_err-bytes-clause-refused : goal.returns-in_err-bytes-clause-refused
returns-in_err-bytes-clause-refused g c =
    told-as (IsOtherRescue (held_files_if (g.F.Folder.honest c.args.folder.now) (g.F.Folder.holds c.args.folder.now) (g.F.Folder.has c.args.folder.now) c.args.top.now) c.args.inputs.now.files.items c.args.top.now c.args.used) (Refused c.in_err-bytes.field-0.0) (rescue_refused _ (
      subst (λ (p : List ℕ). IsRefusalOf p c.in_err-bytes.field-0.0) (c.as_str.ensures ∙ c.in_ok-path.ensures.name) c.in_err-bytes.ensures.named,
      λ honest. subst (λ (p : List ℕ). IsRefusalHeld (g.F.Folder.holds c.args.folder.now) p c.in_err-bytes.field-0.0) (c.as_str.ensures ∙ c.in_ok-path.ensures.name)
          (c.in_err-bytes.ensures.unheld honest),
    ))
    c.from_residual-in_err-bytes.result c.from_residual-in_err-bytes.ensures.1

pub returns-in_err-check_file-in-Some-clause-refused : goal.returns-in_err-check_file-in-Some-clause-refused
returns-in_err-check_file-in-Some-clause-refused g c =
    let fault = c.in_err-check_file-in-Some.field-0.0 in
    told-as (IsOtherRescue (held_files_if (g.F.Folder.honest c.args.folder.now) (g.F.Folder.holds c.args.folder.now) (g.F.Folder.has c.args.folder.now) c.args.top.now) c.args.inputs.now.files.items c.args.top.now c.args.used) fault
    (rescue_changed c.in-Some.bytes.items fault c.if-used-eq0.false
    (λ honest. ap (g.F.Folder.holds c.args.folder.now) (sym (c.as_str.ensures ∙ c.in_ok-path.ensures.name)) ∙ sym (c.in_ok-bytes.ensures.bytes honest)
    ∙ ap (option_map (λ b. b.items)) c.in-Some.is)
    (subst (λ (p : List ℕ). IsOtherFile c.args.inputs.now.files.items (p, c.in-Some.bytes.items) fault) (c.as_str-in-Some.ensures ∙ c.in_ok-path.ensures.name)
    (subst (λ (b : List ℕ). IsOtherFile c.args.inputs.now.files.items (c.as_str-in-Some.result.now, b) fault) c.as_slice.ensures.value c.in_err-check_file-in-Some.ensures.refused)))
    c.from_residual-in_err-check_file-in-Some.result c.from_residual-in_err-check_file-in-Some.ensures.1

pub returns-in-None-clause-refused : goal.returns-in-None-clause-refused
returns-in-None-clause-refused g c =
    let is = some-of (sum_in c.args.inputs.now.files.items c.in_ok-path.path) (sym c.has_file.ensures ∙ c.if-has_file.true) in
    subst (λ (p : List ℕ). IsOtherRescue (held_files_if (g.F.Folder.honest c.args.folder.now) (g.F.Folder.holds c.args.folder.now) (g.F.Folder.has c.args.folder.now) c.args.top.now) c.args.inputs.now.files.items c.args.top.now c.args.used (Changed p)) (sym c.in_ok-path.ensures.name)
    (rescue_missing is.0 c.if-used-eq0.false (λ honest. inl (ap (g.F.Folder.holds c.args.folder.now) (sym (c.as_str.ensures ∙ c.in_ok-path.ensures.name)) ∙ sym (c.in_ok-bytes.ensures.bytes honest)
    ∙ ap (option_map (λ b. b.items)) c.in-None.is))
    (subst (λ (p : List ℕ). sum_in c.args.inputs.now.files.items p ≡ Some is.0) c.in_ok-path.ensures.name is.1))

pub returns-then-used-eq0-clause-held : goal.returns-then-used-eq0-clause-held
returns-then-used-eq0-clause-held g c = λ honest. rw c.if-used-eq0.true refl

pub returns-in-None-2-clause-held : goal.returns-in-None-2-clause-held
returns-in-None-2-clause-held g c = λ honest.
    sym (ap (option_map (λ b. b.items)) c.in-None.is) ∙ c.in_ok-bytes.ensures.bytes honest
    ∙ ap (g.F.Folder.holds c.args.folder.now) (c.as_str.ensures ∙ c.in_ok-path.ensures.name)
    ∙ sym (rescue-held (g.F.Folder.holds c.args.folder.now) c.args.top.now c.args.used c.if-used-eq0.false)
