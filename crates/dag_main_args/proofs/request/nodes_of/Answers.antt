use Rattle.std.proofs.Common.{◌≡◌, ◌∙◌, ◌++◌, ap, map, List, Option, Some, None, [], Bor}
use Rattle.std.specs.Prelude.{unwrap_or, codes}
use Rattle.clap.specs.Words.{Text, all_of, found_of, rows_of}
use Rattle.clap.proofs.WalkLemmas.{raw_values-rows}
use Rattle.dag_main_args.proofs.request.nodes_of.Goals as goal

pub returns-in_ok-extend_from_slice-in-Some : goal.returns-in_ok-extend_from_slice-in-Some
returns-in_ok-extend_from_slice-in-Some c =
    let found = found_of c.args.found.now in
    let words = c.in-Some.words.now in
    let given : Some (map (λ (n : Bor Text). n.now) words) ≡ all_of (codes "NODE") (rows_of found) = c.in-Some.ensures ∙ raw_values-rows found (codes "NODE") in
    let items : c.extend_from_slice.new.self.items ≡ words = c.in_ok-extend_from_slice-in-Some.ensures.items ∙ ap (λ (xs : List (Bor Text)). xs ++ words) c.new-nodes.ensures.items in
    ap (map (λ (n : Bor Text). n.now)) items ∙ ap (λ (o : Option (List Text)). unwrap_or o []) given

pub returns-in-None : goal.returns-in-None
returns-in-None c =
    let found = found_of c.args.found.now in
    let given : None ≡ all_of (codes "NODE") (rows_of found) = c.in-None.ensures ∙ raw_values-rows found (codes "NODE") in
    ap (map (λ (n : Bor Text). n.now)) c.new-nodes.ensures.items ∙ ap (λ (o : Option (List Text)). unwrap_or o []) given
