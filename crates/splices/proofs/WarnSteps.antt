-- What is noted after one more line.
use Rattle.std.proofs.Common.{◌≡◌, ℕ, ◌+◌, ◌<◌, ◌++◌, List, [], ◌∷◌, length, get_or, take, drop, sym, ap, ◌∙◌}
use Rattle.std.proofs.lemmas.List.{drop_more, take_at, take_more}
use Rattle.dag_reader.specs.declared.command.Command.{Command}
use Rattle.splices_flat.specs.Warnings.{Warned, replaced_lines, warn_line, warn_lines}

pub next_lines : (commands : List Command) (i : ℕ) (c : Command) → i < length commands → c ≡ get_or commands i c → take (i + 1) commands ≡ take i commands ++ c ∷ []
next_lines commands i c lt is = take_more commands i c lt ∙ ap (λ d. take i commands ++ d ∷ []) (sym is)

-- one more line of a file is noted
pub line_more : (path prefix : List ℕ) (commands : List Command) (i : ℕ) (c : Command) (warned after all : Warned) (lines : List ℕ) → i < length commands → c ≡ get_or commands i c
    → lines ≡ replaced_lines prefix commands (take i commands) c → after ≡ warn_line path prefix warned c lines
    → warn_lines path prefix commands (take i commands) warned (drop i commands) ≡ all → warn_lines path prefix commands (take (i + 1) commands) after (drop (i + 1) commands) ≡ all
line_more path prefix commands i c warned after all lines lt is l t so =
    let before = take i commands in
    let rest = drop (i + 1) commands in
    let left : drop i commands ≡ c ∷ rest = drop_more commands i c lt ∙ ap (λ d. d ∷ rest) (sym is) in
    let done : after ≡ warn_line path prefix warned c (replaced_lines prefix commands before c) = t ∙ ap (warn_line path prefix warned c) l in
    ap (λ b. warn_lines path prefix commands b after rest) (next_lines commands i c lt is) ∙ ap (λ n. warn_lines path prefix commands (before ++ c ∷ []) n rest) done
    ∙ sym (ap (warn_lines path prefix commands before warned) left) ∙ so

-- what a write to a whole list leaves
pub written : {X : Type 0} (old new : List X) (n : ℕ) → length old ≡ n → length new ≡ length old → take n (new ++ drop (length new) old) ≡ new
written old new n l m = take_at new (drop (length new) old) n (m ∙ l)
