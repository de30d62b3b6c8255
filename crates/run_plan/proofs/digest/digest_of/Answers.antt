use Rattle.std.proofs.Common.{◌++◌, List, [], Bor, subst, sym, append-nil, ℕ, Option}
use Rattle.std.specs.Option.{option_map_or}
use Rattle.std.specs.List.{flat_map}
use Rattle.sha2.specs.Hashers.{Holds256}
use Rattle.splices_flat.specs.FileSet.{entries_of}
use Rattle.splices_flat.specs.declared.file_set.FileSet.{FileSet}
use Rattle.run_plan.specs.Digest.{digest_of, digest_text, sized, sized_file}
use Rattle.run_plan.proofs.digest.digest_of.Goals as goal
use Rattle.run_plan.proofs.digest.digest_of.Goals.{in-Some, in_default}

files_in : List ℕ → Option (Bor FileSet) → List ℕ
files_in top files = sized top ++ flat_map sized_file (option_map_or (λ (set : Bor FileSet). entries_of set.now) files [])

with_files : (c : goal.After-finalize) → Holds256 c.match-files.hasher (files_in c.args.top.now c.args.files)
unfolding files_in
with_files c =
    elim c.match-files.branch [
      | in-Some w ↦ rw (w.hasher-is, w.in-Some.is) (w.add_files.ensures _ (rw c.as_bytes.ensures.value at c.add_sized.ensures [] c.new-hasher.ensures))
      | in_default w ↦ rw (w.hasher-is, w.in_default.is) (subst (Holds256 c.add_sized.new.hasher) (sym (append-nil (sized c.args.top.now))) (rw c.as_bytes.ensures.value at c.add_sized.ensures [] c.new-hasher.ensures))
    ]

pub returns : goal.returns
unfolding digest_of digest_text files_in
returns c = c.finalize.ensures _ (c.add_rescue.ensures _ (with_files c))
