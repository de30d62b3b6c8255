-- When more is displayed after an answer.
use Rattle.std.specs.Prelude.{ℕ, Bool, not, ◌==◌}
use Rattle.terminal_notes.specs.declared.postscript.Postscript.{Postscript}
use Rattle.terminal_notes.specs.declared.postscript.Postscript.TheVariants.{Nothing, Run, Hints, Totals, Worker, Changes, Drawing}

-- after a run where it was led to its end, with whatever status (it was not where that is 125); else after an answer with status 0 alone
abbrev pub is_postscript_due : Postscript → ℕ → Bool
is_postscript_due (Run began) status = not (status == 125)
is_postscript_due Nothing status = status == 0
is_postscript_due Hints status = status == 0
is_postscript_due (Totals trusts_owner) status = status == 0
is_postscript_due (Worker trusts_owner) status = status == 0
is_postscript_due Changes status = status == 0
is_postscript_due (Drawing folds_by_itself by) status = status == 0
