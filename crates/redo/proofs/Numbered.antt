-- The number of the next rescue file, by what a journal's header says.
use Rattle.std.proofs.Common.{◌≡◌, ◌∙◌, ℕ, true, false, not, List, Some, None, sym, ap, subst}
use Rattle.rescue_file.specs.Numbered.{IsFileNumber}
use Rattle.event_journal_log.specs.declared.decoded.Peek.{Peek}
use Rattle.event_journal_log.specs.Image.{replay_of}
use Rattle.event_journal_log.specs.Peeks.{ReadsPeek}
use Rattle.dag_main_check.specs.declared.fault.RunFault.{RunFault}
use Rattle.dag_main_check.specs.declared.fault.RunFault.TheVariants.{NotThere}
use Rattle.dag_main_files.specs.Beside.{number_behind}
use Rattle.redo.specs.Numbers.{is_cut_short, IsNumberWith, by_header, after_highest, IsNoNextNumber, bad_number}

pub in-header : (Counts : ℕ → Type 0) (journal : List ℕ) (peek : Peek) (number : ℕ) → ReadsPeek (Some peek) (replay_of journal) → peek.finished ≡ false → number ≡ peek.next → IsNumberWith Counts journal number
in-header Counts journal peek number (found, reads, used_is, next_is, flag_is, finished_is) unfinished is = by_header found reads (finished_is ∙ unfinished) (is ∙ sym next_is)

pub over-is : (journal : List ℕ) (peek : Peek) → ReadsPeek (Some peek) (replay_of journal) → peek.finished ≡ true → is_cut_short (replay_of journal) ≡ false
over-is journal peek (found, reads, used_is, next_is, flag_is, finished_is) over = ap is_cut_short reads ∙ ap not (finished_is ∙ over)

pub none-is : (journal : List ℕ) → ReadsPeek None (replay_of journal) → is_cut_short (replay_of journal) ≡ false
none-is journal reads = ap is_cut_short reads

-- one whose last record is not Finish was cut short
pub cut-short-is : (journal : List ℕ) (peek : Peek) → ReadsPeek (Some peek) (replay_of journal) → peek.finished ≡ false → is_cut_short (replay_of journal) ≡ true
cut-short-is journal peek (found, reads, used_is, next_is, flag_is, finished_is) unfinished = ap is_cut_short reads ∙ ap not (finished_is ∙ unfinished)

pub in-folder : (Counts : ℕ → Type 0) (journal : List ℕ) (number : ℕ) → is_cut_short (replay_of journal) ≡ false → (highest : ℕ) × Counts highest × (number ≡ number_behind highest) → IsNumberWith Counts journal number
in-folder Counts journal number isnt (highest, counts, is) = after_highest highest counts isnt is

-- the number in a header that no rescue file has
pub none-in-header : (path journal : List ℕ) (peek : Peek) (fault : RunFault) → ReadsPeek (Some peek) (replay_of journal) → peek.finished ≡ false
    → (¬ (IsFileNumber peek.next)) × (fault ≡ NotThere peek.next) → IsNoNextNumber path journal fault
none-in-header path journal peek fault (found, reads, used_is, next_is, flag_is, finished_is) unfinished (isnt, is) =
    subst (IsNoNextNumber path journal) (ap NotThere next_is ∙ sym is) (bad_number found reads (finished_is ∙ unfinished) (λ number. isnt (subst IsFileNumber next_is number)))
