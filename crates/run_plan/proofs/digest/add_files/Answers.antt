use Rattle.std.proofs.Common.{rules, ◌≡◌, ◌++◌, ℕ, List, map, subst, sym, append-nil}
use Rattle.std.specs.Map.Iter.{deref_pair}
use Rattle.std.proofs.lemmas.Map.Iter.{iter_end}
use Rattle.sha2.specs.Hashers.{Holds256}
use Rattle.run_plan.proofs.DigestText.{file_more, files_all}
use Rattle.run_plan.proofs.digest.add_files.Goals as goal

pub loop-name-init : goal.loop-name-init
loop-name-init c = λ m holds. subst (Holds256 c.args.hasher.now) (sym (append-nil m)) holds

pub loop-name-preserved : goal.loop-name-preserved
loop-name-preserved c = λ m holds.
    subst (Holds256 c.add_sized-in-loop-name.new.hasher)
    (file_more (c.in-Some.name, c.in-Some.bytes) m c.as_bytes.result.now c.as_slice.result.now c.loop-name.yielded c.as_bytes.ensures.value c.as_slice.ensures.value)
    (c.add_sized-in-loop-name.ensures _ (c.add_sized.ensures _ (c.loop-name.invariant m holds)))

pub returns : goal.returns
returns c = λ m holds.
    let all : map deref_pair c.loop-name.yielded ≡ c.args.files.now.files.entries = search (rules, iter_end) in
    subst (λ (t : List ℕ). Holds256 c.loop-name.hasher (m ++ t)) (files_all c.args.files.now c.loop-name.yielded all) (c.loop-name.invariant m holds)
