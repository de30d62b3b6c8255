use Rattle.std.proofs.Common.{◌≡◌, ◌∙◌, ℕ, List, ◌++◌, ap, append_assoc, codes}
use Rattle.std.specs.Fmt.{decimal}
use Rattle.rescue_file.proofs.text.push_head.Goals as goal

regrouped : (o a d b e n : List ℕ) → ((o ++ (a ++ d)) ++ (b ++ e)) ++ n ≡ o ++ (a ++ (d ++ (b ++ (e ++ n))))
regrouped o a d b e n =
    append_assoc (o ++ (a ++ d)) (b ++ e) n ∙ append_assoc o (a ++ d) ((b ++ e) ++ n) ∙ ap (λ (t : List ℕ). o ++ t) (append_assoc a d ((b ++ e) ++ n))
    ∙ ap (λ (t : List ℕ). o ++ (a ++ (d ++ t))) (append_assoc b e n)

pub returns : goal.returns
returns c =
    c.in_ok-push_str.ensures.bytes
    ∙ ap (λ (t : List ℕ). t ++ codes "\n\n") (c.in_ok-push_count-2.ensures ∙ ap (λ (t : List ℕ). t ++ (codes "\n# Nodes premarked DONE: " ++ decimal c.args.done)) c.in_ok-push_count.ensures)
    ∙ regrouped _ (codes "# Rescue DAG file\n# Total number of Nodes: ") (decimal c.args.total) (codes "\n# Nodes premarked DONE: ") (decimal c.args.done) (codes "\n\n")
