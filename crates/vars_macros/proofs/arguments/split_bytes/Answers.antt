use Rattle.std.proofs.Common.{◌∙◌, sym}
use Rattle.vars_macros.proofs.Splits.{plain_split}
use Rattle.vars_macros.proofs.WordTexts.{behind_text}
use Rattle.vars_macros.proofs.arguments.split_bytes.Goals as goal

pub split_quoted-requires : goal.split_quoted-requires
split_quoted-requires c = behind_text c.args.text.now (sym c.begins_with.ensures ∙ c.if-begins_with.true) c.requires

pub returns-else-begins_with : goal.returns-else-begins_with
returns-else-begins_with c = plain_split c.args.text.now c.split_old.result (sym c.begins_with.ensures ∙ c.if-begins_with.false) c.split_old.ensures
