use Rattle.std.proofs.Common.{◌≡◌, ◌∙◌, ap, refl, arith, drop, List, ℕ, ◌∷◌, true, false, subst, ◌<◌}
use Rattle.std.specs.Str.{IsUtf8}
use Rattle.dag_reader.specs.Word.{placed}
use Rattle.dag_reader.specs.Words.{words, RunEnds}
use Rattle.dag_reader.proofs.Scan.{passes_blanks, takes_word, no_word, words-nil, start_cut}
use Rattle.dag_reader.proofs.line.LineReader.next_word.Goals as goal

pub returns-then-start-stop : goal.returns-then-start-stop
returns-then-start-stop c =
    let s = c.args.self.now in
    let start = c.blanks_end-start.result in
    let blanks : RunEnds true s.text.now s.at start = subst (λ bs. RunEnds true bs s.at start) c.as_bytes-bytes.ensures.value c.blanks_end-start.ensures in
    let word : RunEnds false s.text.now start c.word_end-stop.result = subst (λ bs. RunEnds false bs start c.word_end-stop.result) c.as_bytes-bytes.ensures.value c.word_end-stop.ensures in
    let gone = no_word s.at start c.word_end-stop.result s.text.now c.if-start-stop.true blanks word in
    (passes_blanks s.number s.at start s.text.now blanks ∙ ap (λ (bs : List ℕ). words s.number start bs) gone ∙ words-nil s.number start, refl)

pub range-requires-clause-start_boundary : goal.range-requires-clause-start_boundary
range-requires-clause-start_boundary c =
    let s = c.args.self.now in
    let start = c.blanks_end-start.result in
    let blanks : RunEnds true s.text.now s.at start = subst (λ bs. RunEnds true bs s.at start) c.as_bytes-bytes.ensures.value c.blanks_end-start.ensures in
    let utf8 : IsUtf8 s.text.now = subst IsUtf8 c.as_bytes-bytes.ensures.value c.as_bytes-bytes.ensures.utf8 in
    λ _. start_cut s.text.now s.at start utf8 s.cut blanks

pub returns : goal.returns
returns c =
    let s = c.args.self.now in
    let start = c.blanks_end-start.result in
    let stop = c.word_end-stop.result in
    let blanks : RunEnds true s.text.now s.at start = subst (λ bs. RunEnds true bs s.at start) c.as_bytes-bytes.ensures.value c.blanks_end-start.ensures in
    let word : RunEnds false s.text.now start stop = subst (λ bs. RunEnds false bs start stop) c.as_bytes-bytes.ensures.value c.word_end-stop.ensures in
    let from = word.from in
    let some : start < stop = omega (arith, c.if-start-stop.false) in
    let taken = takes_word s.number start stop s.text.now some word in
    let now : words s.number s.at (drop s.at s.text.now) ≡ placed c.range.result.now (record { line = s.number; start = start; stop = stop }) ∷ words s.number stop (drop stop s.text.now) = rw c.range.ensures.value (passes_blanks s.number s.at start s.text.now blanks ∙ taken) in
    rw now refl
