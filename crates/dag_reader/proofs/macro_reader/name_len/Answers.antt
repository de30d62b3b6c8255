use Rattle.std.proofs.Common.{◌∙◌, ap, subst, sym, length, ◌≤◌, ℕ, Option}
use Rattle.std.specs.Prelude.{unwrap_or}
use Rattle.dag_reader.specs.Macros.{ends_name}
use Rattle.dag_reader.proofs.Bytes.{first_place, place_le}
use Rattle.dag_reader.proofs.macro_reader.name_len.Goals as goal

pub returns-clause-value : goal.returns-clause-value
returns-clause-value c =
    let bytes = c.args.bytes.now in
    c.unwrap_or.ensures ∙ ap (λ (o : Option ℕ). unwrap_or o (length bytes)) c.first_name_end.ensures ∙ first_place ends_name bytes

pub returns-clause-within : goal.returns-clause-within
returns-clause-within c =
    let bytes = c.args.bytes.now in
    let value = c.unwrap_or.ensures ∙ ap (λ (o : Option ℕ). unwrap_or o (length bytes)) c.first_name_end.ensures ∙ first_place ends_name bytes in
    subst (λ (n : ℕ). n ≤ length bytes) (sym value) (place_le ends_name bytes)
