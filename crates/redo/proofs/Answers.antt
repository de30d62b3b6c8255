-- The answer by what is found and what is printed of it.
use Rattle.std.proofs.Common.{◌≡◌, ◌∙◌, ◌++◌, ℕ, List, [], Option, Bool, Result, String, Global, refl, ap, subst, append_assoc, string_bytes}
use Rattle.node_machine.specs.declared.Record.{Record}
use Rattle.rescue_file.specs.Numbered.{rescue_name_of}
use Rattle.run_plan.specs.Plan.{Plan}
use Rattle.dag_main_check.specs.declared.warnings.Answer.{Answer}
use Rattle.dag_main_check.specs.declared.fault.RunFault.{RunFault}
use Rattle.dag_main_files.specs.Changes.{FileChange}
use Rattle.dag_main_files.specs.Folder.{Paths}
use Rattle.dag_main_inspect.specs.Statused.{journal_bytes}
use Rattle.salvage.specs.Salvaged.{report_line}
use Rattle.redo.specs.declared.here.Marked.{Marked}
use Rattle.redo.specs.declared.here.Found.TheVariants as found
use Rattle.redo.specs.Numbers.{IsNextNumber}
use Rattle.redo.specs.Answered.{IsFoundOfNames, IsRedoReport, IsRedoAnswer, stays_done_so, unknown_name}
use Rattle.redo.specs.Changes.{WritesMarks, WritesRedone}

-- what is printed of the rescue file of nodes that are found; and of a name that is none
module _ (paths : Paths) (plan : Plan) (past : List Record) (path : List ℕ) (journal : Option (List ℕ)) (names : List (List ℕ)) (only : Bool) where
  pub redone-so : (marked : Marked) (text warnings : List ℕ) (status : ℕ)
      → IsRedoReport (IsNextNumber paths path (journal_bytes journal)) path marked.redone.done marked.total (string_bytes marked.warnings) text warnings status
      → IsFoundOfNames plan past path names only (found.Marked marked)
      → IsRedoAnswer (IsNextNumber paths path (journal_bytes journal)) plan past path names only text warnings status
  redone-so marked text warnings status r f = stays_done_so f.0 (string_bytes marked.redone.text) marked.redone.done f.1 f.2.redone (record {
    number = r.number;
    next = r.next;
    text_is = r.text_is ∙ ap (λ (total : ℕ). report_line marked.redone.done total (rescue_name_of path r.number)) f.2.total_is;
    warnings_are = r.warnings_are ∙ f.2.warnings_are;
    status_is = r.status_is;
  })

  pub unknown-so : (line : String Global) (text : List ℕ) → text ≡ [] → IsFoundOfNames plan past path names only (found.Unknown line)
      → IsRedoAnswer (IsNextNumber paths path (journal_bytes journal)) plan past path names only text (string_bytes line) 125
  unknown-so line text none f = unknown_name f none refl

  -- what is written of it
  pub written-so : (marked : Marked) (result : Result Answer RunFault) (before now : List FileChange)
      → WritesMarks (IsNextNumber paths path (journal_bytes journal)) path (journal_bytes journal) (string_bytes marked.redone.text) marked.redone.done marked.total
      result before now
      → IsFoundOfNames plan past path names only (found.Marked marked) → WritesRedone paths path names only result before now plan journal past
  written-so marked result before now writes f = record {
    numbers = f.0;
    text = string_bytes marked.redone.text;
    done = marked.redone.done;
    are_numbers = f.1;
    redone = f.2.redone;
    writes = subst (λ (total : ℕ). WritesMarks (IsNextNumber paths path (journal_bytes journal)) path (journal_bytes journal) (string_bytes marked.redone.text)
        marked.redone.done total result before now) f.2.total_is writes;
  }

-- the parts of a line, one after another
pub three-parts : (b0 b1 b2 b3 a w m : List ℕ) → b0 ≡ [] → b1 ≡ b0 ++ a → b2 ≡ b1 ++ w → b3 ≡ b2 ++ m → b3 ≡ a ++ (w ++ m)
three-parts b0 b1 b2 b3 a w m e0 e1 e2 e3 =
    e3 ∙ ap (λ (b : List ℕ). b ++ m) (e2 ∙ ap (λ (b : List ℕ). b ++ w) (e1 ∙ ap (λ (b : List ℕ). b ++ a) e0)) ∙ append_assoc a w m
