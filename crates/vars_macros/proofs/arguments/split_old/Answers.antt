use Rattle.std.proofs.Common.{rules, false, Err, ◌≡◌, ◌∙◌, sym, ap, subst, Bool, List, ℕ, ◌∷◌, ◌++◌}
use Rattle.std.proofs.lemmas.Bool.{false≢true}
use Rattle.std.proofs.lemmas.Result.{err_from_is_err_and}
use Rattle.std.specs.Str.{IsUtf8}
use Rattle.vars_macros.specs.Answers.{Gives}
use Rattle.vars_macros.specs.Gathered.{gathering_of, no_words}
use Rattle.vars_macros.specs.declared.words.Symbol.{Symbol}
use Rattle.vars_macros.proofs.Quotes.{old_skips, old_takes, old_first, old_over}
use Rattle.vars_macros.proofs.Splits.{old_split}
use Rattle.vars_macros.specs.Symbols.{gathered, is_quote_escape, old_symbols}
use Rattle.vars_macros.proofs.Takes.{takes, leaves, fails, escape_so, old_so}
use Rattle.vars_macros.proofs.WordTexts.{MayTake, Leaves, old_may, old_leaves, escape_ascii, BeginsAscii, left_out}
use Rattle.vars_macros.proofs.arguments.split_old.Goals as goal

pub take-requires : goal.take-requires
take-requires c =
    let word = c.loop-byte.words.word.items in
    let byte = c.in-Some.byte.now in
    let after = c.in-Some.after.now in
    let text = subst (λ (xs : List ℕ). IsUtf8 (word ++ xs)) c.in-Some.ensures.cases.0 c.loop-byte.invariant.text in
    λ gap. subst (λ (s : Symbol). MayTake s word) (sym (old_so c.old_symbol.result byte after c.old_symbol.ensures) ∙ gap) (old_may byte after word text)

pub loop-byte-preserved-then-escaped : goal.loop-byte-preserved-then-escaped
loop-byte-preserved-then-escaped c =
    let word = c.loop-byte.words.word.items in
    let is = c.in-Some.ensures.cases.0 in
    let text = subst (λ (xs : List ℕ). IsUtf8 (word ++ xs)) is c.loop-byte.invariant.text in
    record {
      same = sym (old_skips (gathering_of c.loop-byte.words) c.loop-byte.escaped c.in-Some.byte.now c.loop-byte.rest.now c.in-Some.after.now c.if-escaped.true is) ∙ c.loop-byte.invariant.same;
      text = left_out c.in-Some.byte.now c.in-Some.after.now word (subst BeginsAscii is (c.loop-byte.invariant.pair c.if-escaped.true)) text;
      pair = λ h. absurd (false≢true h);
    }

pub loop-byte-preserved : goal.loop-byte-preserved
loop-byte-preserved c =
    let word = c.loop-byte.words.word.items in
    let byte = c.in-Some.byte.now in
    let after = c.in-Some.after.now in
    let is = c.in-Some.ensures.cases.0 in
    let text = subst (λ (xs : List ℕ). IsUtf8 (word ++ xs)) is c.loop-byte.invariant.text in
    let g = gathering_of c.loop-byte.words in
    let h = gathering_of c.take.new.self in
    let s = c.old_symbol.result in
    let symbol = old_so s byte after c.old_symbol.ensures in
    let escape = escape_so c.is_escape-escaped.result byte after c.is_escape-escaped.ensures in
    record {
      same = ap (λ (x : Bool). gathered h (old_symbols x after)) escape
          ∙ sym (old_takes g h c.loop-byte.escaped byte c.loop-byte.rest.now after c.if-escaped.false is
          (λ more. ap (λ (x : Symbol). gathered g (x ∷ more)) (sym symbol) ∙ takes g h s c.in_ok-take.ensures more))
          ∙ c.loop-byte.invariant.same;
      text = old_leaves byte after word h.word text (subst (λ (x : Symbol). Leaves x word h.word) symbol (leaves g h s c.in_ok-take.ensures (subst (λ (x : Symbol). MayTake x word) (sym symbol) (old_may byte after word text))));
      pair = λ x. escape_ascii byte after (sym escape ∙ x);
    }

pub returns : goal.returns
returns c =
    let g = gathering_of c.loop-byte.words in
    let total = sym c.loop-byte.invariant.same ∙ old_over g c.loop-byte.escaped c.loop-byte.rest.now (search rules) in
    old_split c.args.text.now c.finish.result (subst (Gives (λ words. words) c.finish.result) (sym total) c.finish.ensures)

pub returns-in_err-take : goal.returns-in_err-take
returns-in_err-take c =
    let g = gathering_of c.loop-byte.words in
    let byte = c.in-Some.byte.now in
    let after = c.in-Some.after.now in
    let s = c.old_symbol.result in
    let more = old_symbols (is_quote_escape byte after) after in
    let total = gathered no_words (old_symbols false c.args.text.now) in
    let fault = c.in_err-take.field-0.0 in
    let so_far : gathered g (s ∷ more) ≡ total = ap (λ (x : Symbol). gathered g (x ∷ more)) (old_so s byte after c.old_symbol.ensures)
    ∙ sym (old_first g c.loop-byte.escaped byte c.loop-byte.rest.now after c.if-escaped.false c.in-Some.ensures.cases.0) ∙ c.loop-byte.invariant.same in
    let p = err_from_is_err_and c.from_residual.result c.from_residual.ensures.1 in
    rw (p.1, p.2) (old_split c.args.text.now (Err fault) (fails fault g s more total so_far c.in_err-take.ensures))
