use Rattle.std.proofs.Common.{◌≡◌, ◌∙◌, ℕ, ◌+◌, ◌-◌, List, length, take, drop, sym, ap, subst, arith, Some, None, Ok, Err, Result}
use Rattle.std.proofs.lemmas.Grind.{common_steps}
use Rattle.std.proofs.lemmas.List.{drop-drop}
use Rattle.std.proofs.lemmas.Str.{IsCharBoundary-after_ascii, IsCharBoundary-before_ascii}
use Rattle.std.specs.Str.{IsUtf8}
use Rattle.dag_reader.specs.declared.span.Span.{Span}
use Rattle.dag_reader.specs.declared.fault.LineFault.{LineFault}
use Rattle.dag_reader.specs.declared.fault.LineFault.TheVariants.{BadQuote}
use Rattle.dag_reader.specs.Word.{PlacedText, placed}
use Rattle.dag_reader.specs.Macros.{closing_quote}
use Rattle.dag_reader.specs.MacroReader.{ahead_of}
use Rattle.dag_reader.specs.MacroReading.{Ahead, ahead, advance, bytes_span}
use Rattle.dag_reader.proofs.PairSteps.{begins_at, closing_byte, quoted_is, quoted_open, advance_text}
use Rattle.dag_reader.proofs.macro_reader.MacroReader.quoted.Goals as goal

-- the rest of a text, as a slice has it
rest_is : (t x : List ℕ) (at : ℕ) → x ≡ t → take (length x - at) (drop at x) ≡ drop at t
rest_is t x at same =
    let rest : take (length t - at) (drop at t) ≡ drop at t = grind (arith, common_steps) in
    ap (λ (bs : List ℕ). take (length bs - at) (drop at bs)) same ∙ rest

pub returns-in_default : goal.returns-in_default
returns-in_default c =
    let s = c.skip_blanks.new.self in
    let t = s.text.now in
    let begins = sym c.next_is.ensures ∙ c.if-not-next_is.false in
    let none : closing_quote (drop 1 (drop s.at t)) ≡ None = ap closing_quote (drop-drop 1 s.at t ∙ sym (rest_is t c.as_bytes.result.now (s.at + 1) c.as_bytes.ensures.value)) ∙ sym c.in_default.ensures.value in
    quoted_open (ahead_of c.args.self.now) (ahead_of s) (sym c.skip_blanks.ensures.ahead) begins none ∙ ap (λ (x : Span). Err (BadQuote x)) (sym c.here-in_default.ensures)

pub range-requires-clause-start_boundary : goal.range-requires-clause-start_boundary
range-requires-clause-start_boundary c =
    let s = c.skip_blanks.new.self in
    let t = s.text.now in
    let byte = begins_at t s.at 34 (sym c.next_is.ensures ∙ c.if-not-next_is.false) in
    let is = byte.1 in
    let utf8 : IsUtf8 t = subst IsUtf8 c.as_bytes.ensures.value c.as_bytes.ensures.utf8 in
    λ _. IsCharBoundary-after_ascii t s.at utf8 byte.0 (omega arith)

pub range-requires-clause-end_boundary : goal.range-requires-clause-end_boundary
range-requires-clause-end_boundary c =
    let s = c.skip_blanks.new.self in
    let t = s.text.now in
    let closes : closing_quote (drop (s.at + 1) t) ≡ Some c.in-Some.count = sym (c.in-Some.ensures.value ∙ ap closing_quote (rest_is t c.as_bytes.result.now (s.at + 1) c.as_bytes.ensures.value)) in
    let byte = closing_byte t (s.at + 1) c.in-Some.count closes in
    let is = byte.1 in
    IsCharBoundary-before_ascii t (s.at + 1 + c.in-Some.count) byte.0 (omega arith)

pub returns : goal.returns
returns c =
    let s = c.skip_blanks.new.self in
    let t = s.text.now in
    let n = c.in-Some.count in
    let begins = sym c.next_is.ensures ∙ c.if-not-next_is.false in
    let closes : closing_quote (drop 1 (drop s.at t)) ≡ Some n = ap closing_quote (drop-drop 1 s.at t ∙ sym (rest_is t c.as_bytes.result.now (s.at + 1) c.as_bytes.ensures.value)) ∙ sym c.in-Some.ensures.value in
    let count : s.at + 1 + n - (s.at + 1) ≡ n = omega arith in
    let text : take n (drop 1 (drop s.at t)) ≡ c.range.result.now = ap (take n) (drop-drop 1 s.at t) ∙ sym (c.range.ensures.value ∙ ap (λ (k : ℕ). take k (drop (s.at + 1) t)) count) in
    let stop : s.at + (1 + n + 1) ≡ s.at + 1 + n + 1 = omega arith in
    let there = advance_text s.line s.at (1 + n + 1) t ∙ ap (λ (k : ℕ). ahead s.line k (drop k t)) stop in
    let span = bytes_span s.line s.at (s.at + 1 + n + 1) in
    let ok = λ (bs : List ℕ) (a : Ahead). (let r : Result (PlacedText × Ahead) LineFault = Ok (placed bs span, a) in r) in
    quoted_is (ahead_of c.args.self.now) (ahead_of s) n (sym c.skip_blanks.ensures.ahead) begins closes
    ∙ ap (λ (bs : List ℕ). ok bs (advance (1 + n + 1) (ahead_of s))) text ∙ ap (λ (a : Ahead). ok c.range.result.now a) there
