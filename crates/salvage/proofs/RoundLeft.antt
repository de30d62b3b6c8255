-- Rounds that may be salvaged, by what a header says.
use Rattle.std.proofs.Common.{◌≡◌, ◌≤◌, ◌<◌, ℕ, Bool, List, false, Some, length, arith, sym, ap, ◌∙◌}
use Rattle.std.specs.Prelude.{slice_range}
use Rattle.event_journal_log.specs.declared.decoded.Peek.{Peek}
use Rattle.event_journal_log.specs.Image.{Header, replay_of, IsRescueNumber}
use Rattle.event_journal_log.specs.Peeks.{ReadsPeek}
use Rattle.event_journal_log.proofs.Replays.{journals}
use Rattle.salvage.specs.Round.{is_passed_over, IsRoundLeft}

pub round-left : (too : Bool) (journal digest : List ℕ) (peek : Peek) (used next : ℕ) → ReadsPeek (Some peek) (replay_of journal) → is_passed_over too peek.finished ≡ false
    → (40 ≤ length journal → digest ≡ slice_range journal 8 40) → used ≡ peek.used → next ≡ peek.next → used ≤ 999 → IsRescueNumber next
    → IsRoundLeft too peek.finished journal digest used next peek.always_post
round-left too journal digest peek used next (found, reads, used_is, next_is, flag_is, finished_is) left by u n most may =
    let j = journals journal found reads in
    let over : 64 < length journal = j.headed.long in
    let long : 40 ≤ length journal = omega arith in
    record {
      found = found;
      reads = reads;
      ended_is = finished_is;
      left = left;
      digest_is = by long ∙ ap (λ (h : Header). h.digest) j.header;
      used_is = u ∙ sym used_is;
      next_is = n ∙ sym next_is;
      flag_is = sym flag_is;
      may_read = most;
      may_write = may;
    }
