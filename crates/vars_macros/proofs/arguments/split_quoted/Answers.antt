use Rattle.std.proofs.Common.{◌∙◌, sym}
use Rattle.vars_macros.proofs.Splits.{is_last_so, quoted_split, open_quote}
use Rattle.vars_macros.proofs.WordTexts.{last_text}
use Rattle.vars_macros.proofs.arguments.split_quoted.Goals as goal

pub split_new-requires : goal.split_new-requires
split_new-requires c = last_text c.args.behind.now (sym (is_last_so c.is_last.result c.args.behind.now c.is_last.ensures.value) ∙ c.if-not-is_last.false) c.requires

pub returns-then-not-is_last : goal.returns-then-not-is_last
returns-then-not-is_last c = open_quote c.args.behind.now (sym (is_last_so c.is_last.result c.args.behind.now c.is_last.ensures.value) ∙ c.if-not-is_last.true)

pub returns : goal.returns
returns c = quoted_split c.args.behind.now c.split_new.result (sym (is_last_so c.is_last.result c.args.behind.now c.is_last.ensures.value) ∙ c.if-not-is_last.false) c.split_new.ensures
