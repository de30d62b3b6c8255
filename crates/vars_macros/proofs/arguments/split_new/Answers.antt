use Rattle.std.proofs.Common.{rules, false, ◌≡◌, ◌∙◌, sym, ap, subst, Bool, List, ℕ, ◌∷◌, ◌++◌, Err}
use Rattle.std.proofs.lemmas.Bool.{false≢true}
use Rattle.std.proofs.lemmas.Result.{err_from_is_err_and}
use Rattle.std.specs.Str.{IsUtf8}
use Rattle.vars_macros.specs.Answers.{Gives}
use Rattle.vars_macros.specs.Gathered.{gathering_of, no_words}
use Rattle.vars_macros.specs.declared.words.Symbol.{Symbol}
use Rattle.vars_macros.specs.declared.fault.MacroFault.TheVariants.{BadQuote}
use Rattle.vars_macros.proofs.Quotes.{open_group, new_skips, new_takes, new_first, new_over}
use Rattle.vars_macros.proofs.Splits.{new_split}
use Rattle.vars_macros.specs.Symbols.{gathered, is_pair, new_symbols, grouped_after}
use Rattle.vars_macros.proofs.Takes.{takes, leaves, fails, pair_so, new_so, grouped_so}
use Rattle.vars_macros.proofs.WordTexts.{MayTake, Leaves, new_may, new_leaves, pair_ascii, BeginsAscii, left_out}
use Rattle.vars_macros.proofs.arguments.split_new.Goals as goal

pub take-requires : goal.take-requires
take-requires c =
    let word = c.loop-byte.words.word.items in
    let grouped = c.loop-byte.grouped in
    let byte = c.in-Some.byte.now in
    let after = c.in-Some.after.now in
    let text = subst (λ (xs : List ℕ). IsUtf8 (word ++ xs)) c.in-Some.ensures.cases.0 c.loop-byte.invariant.text in
    λ gap. subst (λ (s : Symbol). MayTake s word) (sym (new_so c.new_symbol.result grouped byte after c.new_symbol.ensures) ∙ gap) (new_may grouped byte after word text)

pub loop-byte-preserved-then-paired : goal.loop-byte-preserved-then-paired
loop-byte-preserved-then-paired c =
    let word = c.loop-byte.words.word.items in
    let is = c.in-Some.ensures.cases.0 in
    let text = subst (λ (xs : List ℕ). IsUtf8 (word ++ xs)) is c.loop-byte.invariant.text in
    record {
      same = sym (new_skips (gathering_of c.loop-byte.words) c.loop-byte.paired c.loop-byte.grouped c.in-Some.byte.now c.loop-byte.rest.now c.in-Some.after.now c.if-paired.true is) ∙ c.loop-byte.invariant.same;
      text = left_out c.in-Some.byte.now c.in-Some.after.now word (subst BeginsAscii is (c.loop-byte.invariant.pair c.if-paired.true)) text;
      pair = λ h. absurd (false≢true h);
    }

pub loop-byte-preserved : goal.loop-byte-preserved
loop-byte-preserved c =
    let word = c.loop-byte.words.word.items in
    let grouped = c.loop-byte.grouped in
    let byte = c.in-Some.byte.now in
    let after = c.in-Some.after.now in
    let is = c.in-Some.ensures.cases.0 in
    let text = subst (λ (xs : List ℕ). IsUtf8 (word ++ xs)) is c.loop-byte.invariant.text in
    let g = gathering_of c.loop-byte.words in
    let h = gathering_of c.take.new.self in
    let s = c.new_symbol.result in
    let symbol = new_so s grouped byte after c.new_symbol.ensures in
    let pair = pair_so c.is_pair-paired.result grouped byte after c.is_pair-paired.ensures in
    record {
      same = ap (λ (x : Bool). gathered h (new_symbols x c.grouped_after-grouped.result after)) pair
          ∙ ap (λ (x : Bool). gathered h (new_symbols (is_pair grouped byte after) x after)) (grouped_so c.grouped_after-grouped.result grouped byte after c.grouped_after-grouped.ensures)
          ∙ sym (new_takes g h c.loop-byte.paired grouped byte c.loop-byte.rest.now after c.if-paired.false is
          (λ more. ap (λ (x : Symbol). gathered g (x ∷ more)) (sym symbol) ∙ takes g h s c.in_ok-take.ensures more))
          ∙ c.loop-byte.invariant.same;
      text = new_leaves grouped byte after word h.word text (subst (λ (x : Symbol). Leaves x word h.word) symbol (leaves g h s c.in_ok-take.ensures (subst (λ (x : Symbol). MayTake x word) (sym symbol) (new_may grouped byte after word text))));
      pair = λ x. pair_ascii grouped byte after (sym pair ∙ x);
    }

pub returns-then-grouped : goal.returns-then-grouped
returns-then-grouped c =
    new_split c.args.text.now (Err BadQuote)
    (sym c.loop-byte.invariant.same ∙ open_group (gathering_of c.loop-byte.words) c.loop-byte.paired c.loop-byte.grouped c.loop-byte.rest.now c.if-grouped.true (search rules))

pub returns : goal.returns
returns c =
    let g = gathering_of c.loop-byte.words in
    let total = sym c.loop-byte.invariant.same ∙ new_over g c.loop-byte.paired c.loop-byte.grouped c.loop-byte.rest.now c.if-grouped.false (search rules) in
    new_split c.args.text.now c.finish.result (subst (Gives (λ words. words) c.finish.result) (sym total) c.finish.ensures)

pub returns-in_err-take : goal.returns-in_err-take
returns-in_err-take c =
    let g = gathering_of c.loop-byte.words in
    let grouped = c.loop-byte.grouped in
    let byte = c.in-Some.byte.now in
    let after = c.in-Some.after.now in
    let s = c.new_symbol.result in
    let more = new_symbols (is_pair grouped byte after) (grouped_after grouped byte after) after in
    let total = gathered no_words (new_symbols false false c.args.text.now) in
    let fault = c.in_err-take.field-0.0 in
    let so_far : gathered g (s ∷ more) ≡ total = ap (λ (x : Symbol). gathered g (x ∷ more)) (new_so s grouped byte after c.new_symbol.ensures)
    ∙ sym (new_first g c.loop-byte.paired grouped byte c.loop-byte.rest.now after c.if-paired.false c.in-Some.ensures.cases.0) ∙ c.loop-byte.invariant.same in
    let p = err_from_is_err_and c.from_residual.result c.from_residual.ensures.1 in
    rw (p.1, p.2) (new_split c.args.text.now (Err fault) (fails fault g s more total so_far c.in_err-take.ensures))
