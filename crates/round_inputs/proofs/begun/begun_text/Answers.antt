use Rattle.std.proofs.Common.{◌≡◌, ◌∙◌, ◌++◌, ℕ, List, [], ap, append_assoc}
use Rattle.round_inputs.proofs.begun.begun_text.Goals as goal

-- four texts, one after the other
joined : (none one two three four a b c d : List ℕ) → none ≡ [] → one ≡ none ++ a → two ≡ one ++ b → three ≡ two ++ c → four ≡ three ++ d
    → four ≡ a ++ (b ++ (c ++ d))
joined none one two three four a b c d e0 e1 e2 e3 e4 =
    e4 ∙ ap (λ (t : List ℕ). t ++ d) (e3 ∙ ap (λ (t : List ℕ). t ++ c) (e2 ∙ ap (λ (t : List ℕ). t ++ b) (e1 ∙ ap (λ (t : List ℕ). t ++ a) e0)))
    ∙ append_assoc (a ++ b) c d ∙ append_assoc a b (c ++ d)

pub returns : goal.returns
returns c =
    joined _ _ _ _ _ _ _ _ _ c.new-text.ensures.items c.in_ok-push_begun_head.ensures c.in_ok-push_files.ensures c.in_ok-push_rescue.ensures
    c.in_ok-extend_from_slice.ensures.items
