use Rattle.std.proofs.Common.{◌≡◌, take, drop, ◌-◌, ◌+◌, length, []}
use Rattle.std.proofs.lemmas.Grind.{common_steps}
use Rattle.std.proofs.Common.{arith}
use Rattle.dag_reader.proofs.TextLines.{splits_at, all_one_line}
use Rattle.dag_reader.proofs.dag_file.split_line.Goals as goal

pub returns-in-Some-clause-first : goal.returns-in-Some-clause-first
returns-in-Some-clause-first c =
    let text = c.args.text.now in
    let end = c.in-Some.end in
    let rest : take (length text - (end + 1)) (drop (end + 1) text) ≡ drop (end + 1) text = grind (arith, common_steps) in
    rw (rest, c.without_carriage_return.ensures) (splits_at text end c.in-Some.ensures)

pub returns-in-None-clause-first : goal.returns-in-None-clause-first
returns-in-None-clause-first c =
    let text = c.args.text.now in
    let rest : take (length text - length text) (drop (length text) text) ≡ [] = grind (arith, common_steps) in
    rw rest (all_one_line text c.requires c.in-None.ensures)
