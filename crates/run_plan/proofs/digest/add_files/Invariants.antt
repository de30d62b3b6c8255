use Rattle.std.proofs.Common.{◌++◌, ℕ, List}
use Rattle.std.specs.List.{flat_map}
use Rattle.sha2.specs.Hashers.{Holds256}
use Rattle.run_plan.proofs.DigestText.{sized_lent}
use Rattle.run_plan.proofs.digest.add_files.Given as goal

abbrev pub invariant-loop-name : goal.invariant-loop-name
invariant-loop-name l = (m : List ℕ) → Holds256 l.fn.hasher m → Holds256 l.hasher (m ++ flat_map sized_lent l.yielded)
