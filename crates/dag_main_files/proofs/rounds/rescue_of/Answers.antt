use Rattle.std.proofs.Common.{rules, ◌≡◌, ◌∙◌, ℕ, List, None, refl, sym, ap, subst, arith}
use Rattle.std.specs.Option.{option_map}
use Rattle.rescue_file.specs.Numbered.{rescue_name_of}
use Rattle.dag_main_files.specs.Beside.{IsRefusalOf, refusing_had_no_memory, IsRescueReadFault, missing, rescue_not_read}
use Rattle.dag_main_files.specs.Folder.{IsRescueReadFaultHeld, held_missing, held_rescue_not_read}
use Rattle.dag_main_files.proofs.RunFaults.{by-fault}
use Rattle.dag_main_files.proofs.Held.{rescue-held}
use Rattle.dag_main_files.proofs.rounds.rescue_of.Goals as goal

pub returns-in_err-path-clause-refused : goal.returns-in_err-path-clause-refused
returns-in_err-path-clause-refused g c =
    by-fault (IsRescueReadFault c.args.place.now.top.now c.args.round.now) c.in_err-path.field-0.0
    (rescue_not_read _ (subst (IsRefusalOf (rescue_name_of c.args.place.now.top.now c.args.round.now.used)) (sym c.in_err-path.ensures.err) refusing_had_no_memory))
    c.from_residual.result c.from_residual.ensures.1

pub returns-in_err-trusts-clause-refused : goal.returns-in_err-trusts-clause-refused
returns-in_err-trusts-clause-refused g c =
    by-fault (IsRescueReadFault c.args.place.now.top.now c.args.round.now) c.in_err-trusts.field-0.0
    (rescue_not_read _ (subst (λ (name : List ℕ). IsRefusalOf name c.in_err-trusts.field-0.0) (c.as_str.ensures ∙ c.in_ok-path.ensures.name) c.in_err-trusts.ensures.named))
    c.from_residual-in_err-trusts.result c.from_residual-in_err-trusts.ensures.1

pub returns-in_err-bytes-clause-refused : goal.returns-in_err-bytes-clause-refused
returns-in_err-bytes-clause-refused g c =
    by-fault (IsRescueReadFault c.args.place.now.top.now c.args.round.now) c.in_err-bytes.field-0.0
    (rescue_not_read _ (subst (λ (name : List ℕ). IsRefusalOf name c.in_err-bytes.field-0.0) (c.as_str-2.ensures ∙ c.in_ok-path.ensures.name) c.in_err-bytes.ensures.named))
    c.from_residual-in_err-bytes.result c.from_residual-in_err-bytes.ensures.1

pub returns-then-round-eq0-clause-read : goal.returns-then-round-eq0-clause-read
returns-then-round-eq0-clause-read g c = record {
  none_read = λ _. refl;
  one_read = λ back. absurd (let one = (c.requires.back back).0 in let none = c.if-round-eq0.true in omega arith);
}

pub returns-then-is_none-clause-refused : goal.returns-then-is_none-clause-refused
returns-then-is_none-clause-refused g c = missing c.if-round.true

pub returns-then-round-eq0-clause-held : goal.returns-then-round-eq0-clause-held
returns-then-round-eq0-clause-held g c = λ honest. rw c.if-round-eq0.true refl

pub returns-clause-held : goal.returns-clause-held
returns-clause-held g c = λ honest.
    c.in_ok-bytes.ensures.bytes honest ∙ ap (g.F.Folder.holds c.args.folder.now) (c.as_str-2.ensures ∙ c.in_ok-path.ensures.name)
    ∙ sym (rescue-held (g.F.Folder.holds c.args.folder.now) c.args.place.now.top.now c.args.round.now.used c.if-round-eq0.false)

pub returns-in_err-path-clause-refused_held : goal.returns-in_err-path-clause-refused_held
returns-in_err-path-clause-refused_held g c = λ honest.
    by-fault (IsRescueReadFaultHeld (g.F.Folder.holds c.args.folder.now) c.args.place.now.top.now c.args.round.now) c.in_err-path.field-0.0
    (held_rescue_not_read _ (subst (IsRefusalOf (rescue_name_of c.args.place.now.top.now c.args.round.now.used)) (sym c.in_err-path.ensures.err) refusing_had_no_memory)) c.from_residual.result c.from_residual.ensures.1

pub returns-in_err-trusts-clause-refused_held : goal.returns-in_err-trusts-clause-refused_held
returns-in_err-trusts-clause-refused_held g c = λ honest.
    by-fault (IsRescueReadFaultHeld (g.F.Folder.holds c.args.folder.now) c.args.place.now.top.now c.args.round.now) c.in_err-trusts.field-0.0
    (held_rescue_not_read _ (subst (λ (name : List ℕ). IsRefusalOf name c.in_err-trusts.field-0.0) (c.as_str.ensures ∙ c.in_ok-path.ensures.name) c.in_err-trusts.ensures.named))
    c.from_residual-in_err-trusts.result c.from_residual-in_err-trusts.ensures.1

pub returns-in_err-bytes-clause-refused_held : goal.returns-in_err-bytes-clause-refused_held
returns-in_err-bytes-clause-refused_held g c = λ honest.
    by-fault (IsRescueReadFaultHeld (g.F.Folder.holds c.args.folder.now) c.args.place.now.top.now c.args.round.now) c.in_err-bytes.field-0.0
    (held_rescue_not_read _ (subst (λ (name : List ℕ). IsRefusalOf name c.in_err-bytes.field-0.0) (c.as_str-2.ensures ∙ c.in_ok-path.ensures.name) c.in_err-bytes.ensures.named))
    c.from_residual-in_err-bytes.result c.from_residual-in_err-bytes.ensures.1

pub returns-then-is_none-clause-refused_held : goal.returns-then-is_none-clause-refused_held
returns-then-is_none-clause-refused_held g c = λ honest.
    let none : c.in_ok-bytes.bytes ≡ None = search rules in
    held_missing c.if-round.true
    (ap (g.F.Folder.holds c.args.folder.now) (sym (c.as_str-2.ensures ∙ c.in_ok-path.ensures.name)) ∙ sym (c.in_ok-bytes.ensures.bytes honest) ∙ ap (option_map (λ b. b.items)) none)
