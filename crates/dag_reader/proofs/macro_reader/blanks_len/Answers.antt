use Rattle.std.proofs.Common.{◌∙◌, ap, subst, sym, length, ◌≤◌, ℕ, Option}
use Rattle.std.specs.Prelude.{unwrap_or}
use Rattle.dag_reader.specs.Macros.{is_ink}
use Rattle.dag_reader.proofs.Bytes.{first_place, place_le}
use Rattle.dag_reader.proofs.macro_reader.blanks_len.Goals as goal

pub returns-clause-value : goal.returns-clause-value
returns-clause-value c =
    let bytes = c.args.bytes.now in
    c.unwrap_or.ensures ∙ ap (λ (o : Option ℕ). unwrap_or o (length bytes)) c.first_ink.ensures ∙ first_place is_ink bytes

pub returns-clause-within : goal.returns-clause-within
returns-clause-within c =
    let bytes = c.args.bytes.now in
    let value = c.unwrap_or.ensures ∙ ap (λ (o : Option ℕ). unwrap_or o (length bytes)) c.first_ink.ensures ∙ first_place is_ink bytes in
    subst (λ (n : ℕ). n ≤ length bytes) (sym value) (place_le is_ink bytes)
