use Rattle.std.proofs.Common.{◌≡◌, ◌∙◌, sym, ap, ◌++◌, ◌∷◌, [], List}
use Rattle.std.proofs.lemmas.Result.{err_from_is_err_and}
use Rattle.dag_reader.specs.declared.command.Macro.{Macro}
use Rattle.dag_reader.specs.MacroReader.{ahead_of, pair_of}
use Rattle.dag_reader.specs.MacroReading.{macros_ahead}
use Rattle.dag_reader.proofs.PairSteps.{with_macros, macro_step, macro_fails, macros_done, macros_less}
use Rattle.dag_reader.proofs.macro_reader.MacroReader.macros.Goals as goal

pub returns-in_err-pair : goal.returns-in_err-pair
returns-in_err-pair c =
    let p = err_from_is_err_and c.from_residual.result c.from_residual.ensures.1 in
    rw (p.1, p.2) (sym c.pairs.invariant ∙ macro_fails c.pairs.macros (ahead_of c.pairs.self) (ahead_of c.has_more.new.self) c.in_err-pair.field-0.0 (sym c.has_more.ensures.ahead) (sym c.has_more.ensures.more ∙ c.pairs-test.true) c.in_err-pair.ensures)

pub pairs-smaller : goal.pairs-smaller
pairs-smaller c = macros_less (pair_of c.in_ok-pair.pair) (ahead_of c.pairs.self) (ahead_of c.has_more.new.self) (ahead_of c.pair.new.self) (sym c.has_more.ensures.ahead) c.in_ok-pair.ensures

pub pairs-preserved : goal.pairs-preserved
pairs-preserved c =
    let front = c.pairs.macros in
    let longer : c.push.new.self ≡ front ++ pair_of c.in_ok-pair.pair ∷ [] = c.in_ok-push.ensures.ok ∙ ap (λ (m : Macro). front ++ m ∷ []) c.in_ok-to_macro.ensures in
    ap (λ (ms : List Macro). with_macros ms (macros_ahead (ahead_of c.pair.new.self))) longer
    ∙ sym (macro_step front (pair_of c.in_ok-pair.pair) (ahead_of c.pairs.self) (ahead_of c.has_more.new.self) (ahead_of c.pair.new.self) (sym c.has_more.ensures.ahead) c.in_ok-pair.ensures) ∙ c.pairs.invariant

pub returns : goal.returns
returns c = sym c.pairs.invariant ∙ macros_done c.pairs.macros (ahead_of c.pairs.self) (ahead_of c.has_more.new.self) (sym c.has_more.ensures.ahead) (sym c.has_more.ensures.more ∙ c.pairs-test.false)
