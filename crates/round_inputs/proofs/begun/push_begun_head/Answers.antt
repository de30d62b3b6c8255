use Rattle.std.proofs.Common.{◌∙◌, ◌++◌, ℕ, List, ap, append_assoc, codes}
use Rattle.hex.specs.Hex.{encode_lower}
use Rattle.round_inputs.proofs.begun.push_begun_head.Goals as goal

pub returns : goal.returns
returns c =
    c.in_ok-push_digest.ensures
    ∙ ap (λ (t : List ℕ). t ++ (encode_lower c.args.digest.now ++ codes "\n")) c.in_ok-extend_from_slice.ensures.items
    ∙ append_assoc c.args.text.now.items (codes "# dagrun begun, digest ") (encode_lower c.args.digest.now ++ codes "\n")
