use Rattle.std.proofs.Common.{◌≡◌, map, vec_len, vec_capacity}
use Rattle.job_starter_local.proofs.look_at_all.Given as goal

abbrev pub invariant-loop-place : goal.invariant-loop-place
invariant-loop-place g l = (map (λ child. child.key) l.children.items ≡ map (λ child. child.key) l.initial.children.items)
    × (vec_len l.children ≡ vec_len l.initial.children)
    × (vec_capacity l.children ≡ vec_capacity l.initial.children)
    × (l.place-end ≡ vec_len l.initial.children)
