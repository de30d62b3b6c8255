-- A round that is salvaged, and the files that it was begun with.
use Rattle.std.specs.Prelude.{◌≡◌, ◌⊎◌, ◌≤◌, ℕ, Bool, false, not, ◌&&◌, List, find, Option, Some, None, Ok}
use Rattle.std.specs.Option.{option_map}
use Rattle.std.specs.Str.{bytes_eq}
use Rattle.sha2.specs.Sha256.{sha256}
use Rattle.rescue_file.specs.Numbered.{rescue_name_of}
use Rattle.event_journal_log.specs.Image.{Found, replay_of, IsRescueNumber}
use Rattle.event_journal_log.specs.Peeks.{ends_with_finish}
use Rattle.round_inputs.specs.declared.inputs.Listed.{Listed}

-- a round is passed over: it has ended, and those that have ended are not asked for, too
abbrev pub is_passed_over : (too ended : Bool) → Bool
is_passed_over too ended = ended && not too

-- A journal of these bytes is that of a round which has ended or not, and is not passed over. Its header has the digest of the round's plan, the
-- number of the rescue file that the round read, 0 for none, that of the one which it would write, and whether POST runs after a failed PRE.
pub record IsRoundLeft (too ended : Bool) (journal digest : List ℕ) (used next : ℕ) (always_post : Bool) : Type 0 where
  pub found : Found
  pub reads : replay_of journal ≡ Ok (Some found)
  pub ended_is : ends_with_finish found.records ≡ ended
  pub left : is_passed_over too ended ≡ false
  pub digest_is : digest ≡ found.header.digest
  pub used_is : used ≡ found.header.used
  pub next_is : next ≡ found.header.next
  pub flag_is : always_post ≡ found.header.always_post
  pub may_read : used ≤ 999
  pub may_write : IsRescueNumber next

-- the sum of the first file of this path
abbrev pub sum_in : List Listed → List ℕ → Option (List ℕ)
sum_in files path = option_map (λ file. file.sum) (find (λ file. bytes_eq path file.path) files)

-- a file is as it was when the round began
abbrev pub IsSame : List Listed → List ℕ × List ℕ → Type 0
IsSame files entry = sum_in files entry.0 ≡ Some (sha256 entry.1)

-- The rescue file of this number, 0 for none, is as it was: the round read none; or none is there, and none was; or it has its sum.
abbrev pub IsSameRescue : List Listed → List ℕ → ℕ → Option (List ℕ) → Type 0
IsSameRescue files top used None = (used ≡ 0) ⊎ (sum_in files (rescue_name_of top used) ≡ None)
IsSameRescue files top used (Some bytes) = IsSame files (rescue_name_of top used, bytes)
