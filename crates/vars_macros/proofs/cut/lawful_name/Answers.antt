use Rattle.std.proofs.Common.{◌≡◌, ◌∙◌, sym, true}
use Rattle.std.specs.List.{list_all}
use Rattle.vars_macros.specs.Names.{is_name_byte}
use Rattle.vars_macros.proofs.Names.{name_text}
use Rattle.vars_macros.proofs.cut.lawful_name.Goals as goal

pub returns-in-Err : goal.returns-in-Err
returns-in-Err c =
    let named : list_all is_name_byte c.args.name.now ≡ true = sym c.has_name_bytes.ensures ∙ c.if-not-has_name_bytes.false in
    absurd (c.in-Err.ensures.cases.0 (name_text c.args.name.now named))
