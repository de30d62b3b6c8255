use Rattle.std.proofs.Common.{◌≡◌}
use Rattle.std.specs.Option.{option_map}
use Rattle.folder_answers.proofs.check_all_here.Given as goal

abbrev pub invariant-loop : goal.invariant-loop
invariant-loop g l = g.F.Folder.honest l.folder → option_map (λ b. b.items) l.found ≡ g.F.Folder.holds l.folder l.top
