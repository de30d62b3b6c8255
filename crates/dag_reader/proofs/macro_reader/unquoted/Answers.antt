use Rattle.std.proofs.Common.{◌≡◌, ◌∙◌, ℕ, ◌+◌, ◌-◌, ◌≤◌, ◌++◌, List, length, take, drop, sym, ap, subst, arith, append_assoc, string_bytes}
use Rattle.std.proofs.lemmas.Grind.{common_steps}
use Rattle.std.proofs.lemmas.Str.{IsCharBoundary-start}
use Rattle.dag_reader.specs.Macros.{begins_escape, unquoted, place_of, is_backslash}
use Rattle.dag_reader.proofs.PairSteps.{PieceAt, plain_piece, escaped_piece, end_boundary}
use Rattle.dag_reader.proofs.macro_reader.unquoted.Goals as goal
use Rattle.dag_reader.proofs.macro_reader.unquoted.Goals.{then-begins_escape, else-begins_escape}

pub loop-at-init : goal.loop-at-init
loop-at-init c = (IsCharBoundary-start c.args.quoted.now c.utf8.quoted, ap (λ (bs : List ℕ). bs ++ unquoted c.args.quoted.now) c.new-text.ensures.bytes)

-- the rest of a text, as a slice has it
rest_is : (t x : List ℕ) (at : ℕ) → x ≡ t → take (length x - at) (drop at x) ≡ drop at t
rest_is t x at same =
    let rest : take (length t - at) (drop at t) ≡ drop at t = grind (arith, common_steps) in
    ap (λ (bs : List ℕ). take (length bs - at) (drop at bs)) same ∙ rest

pub range-requires-clause-end_boundary : goal.range-requires-clause-end_boundary
range-requires-clause-end_boundary c =
    let q = c.args.quoted.now in
    let start = c.if-begins_escape.start in
    let end : c.plain_end-end.result ≡ start + 1 + place_of is_backslash (drop (start + 1) q) = c.plain_end-end.ensures.value ∙ ap (λ (bs : List ℕ). start + 1 + place_of is_backslash (drop (start + 1) bs)) c.as_bytes-in-loop-at.ensures.value in
    end_boundary q (start + 1) c.plain_end-end.result end (subst (λ (bs : List ℕ). c.plain_end-end.result ≤ length bs) c.as_bytes-in-loop-at.ensures.value c.plain_end-end.ensures.within)

pub loop-at-preserved : goal.loop-at-preserved
loop-at-preserved c =
    let q = c.args.quoted.now in
    let at = c.loop-at.at in
    let start = c.if-begins_escape.start in
    let end = c.plain_end-end.result in
    let ends : end ≡ start + 1 + place_of is_backslash (drop (start + 1) q) = c.plain_end-end.ensures.value ∙ ap (λ (bs : List ℕ). start + 1 + place_of is_backslash (drop (start + 1) bs)) c.as_bytes-in-loop-at.ensures.value in
    let within = subst (λ (bs : List ℕ). end ≤ length bs) c.as_bytes-in-loop-at.ensures.value c.plain_end-end.ensures.within in
    let tells = c.begins_escape.ensures ∙ ap begins_escape (rest_is q c.as_bytes.result.now at c.as_bytes.ensures.value) in
    let piece : PieceAt q at start end = elim c.if-begins_escape.branch [
      | then-begins_escape w ↦ subst (λ (k : ℕ). PieceAt q at k end) (sym w.start-is) (escaped_piece q at end c.loop-at-test.true (sym tells ∙ w.if-begins_escape.true) (ends ∙ ap (λ (k : ℕ). k + 1 + place_of is_backslash (drop (k + 1) q)) w.start-is))
      | else-begins_escape w ↦ subst (λ (k : ℕ). PieceAt q at k end) (sym w.start-is) (plain_piece q at end c.loop-at-test.true (sym tells ∙ w.if-begins_escape.false) (ends ∙ ap (λ (k : ℕ). k + 1 + place_of is_backslash (drop (k + 1) q)) w.start-is))
    ] in
    let front = string_bytes c.loop-at.text in
    let text : string_bytes c.push_str.new.self ≡ front ++ take (end - start) (drop start q) = c.in_ok-push_str.ensures.bytes ∙ ap (λ (bs : List ℕ). front ++ bs) c.range.ensures.value in (
      end_boundary q (start + 1) end ends within,
      ap (λ (bs : List ℕ). bs ++ unquoted (drop end q)) text ∙ append_assoc front (take (end - start) (drop start q)) (unquoted (drop end q)) ∙ ap (λ (bs : List ℕ). front ++ bs) (sym piece) ∙ c.loop-at.invariant.1,
    )
