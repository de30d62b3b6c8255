use Rattle.std.proofs.Common.{◌≡◌, map, vec_len}
use Rattle.job_starter_local.proofs.ending.wait_for_launchers.Given as goal

abbrev pub invariant-loop : goal.invariant-loop
invariant-loop g l = (map (λ child. child.key) l.children.items ≡ map (λ child. child.key) l.initial.children.items)
    × (vec_len l.children ≡ vec_len l.initial.children)
