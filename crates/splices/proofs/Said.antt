-- Files that are kept once they are read.
use Rattle.std.proofs.Common.{◌≡◌, ℕ, Bool, cond, List, Option, Some, Result, Ok, sym, ap, ◌∙◌, subst, ⊎_elim}
use Rattle.std.proofs.lemmas.Bool.{cases_Bool}
use Rattle.std.proofs.lemmas.Slice.Eq.{bytes_eq-Decides}
use Rattle.std.specs.Str.{bytes_eq}
use Rattle.dag_reader.specs.declared.command.Command.{Command}
use Rattle.dag_reader.specs.declared.command.DagFile.{DagFile}
use Rattle.dag_reader.specs.Reading.{commands_of}
use Rattle.splices_flat.specs.declared.fault.DagFault.{DagFault}
use Rattle.splices.specs.Acting.{acting}
use Rattle.splices.specs.SaidFiles.{AreActing, AreSaid}
use Rattle.splices_flat.specs.Opening.{◌>>=◌, Files, says_at}
use Rattle.splices_flat.proofs.OpeningFiles.{bound, given}

same_file : (file f : DagFile) → Some file ≡ Some f → file ≡ f
same_file file f e = cc

-- one more file is kept
pub said_more : (files : Files) (old new : List ℕ → Option DagFile) (key : List ℕ) (file : DagFile) → AreSaid files old → AreActing (commands_of file) (says_at key (files key))
    → ((other : List ℕ) → new other ≡ cond (bytes_eq key other) (Some file) (old other)) → AreSaid files new
said_more files old new key file before says is = λ path f found.
    ⊎_elim
    (λ same.
    let at : key ≡ path = (bytes_eq-Decides key path).0 same in
    let here : file ≡ f = same_file file f (sym (is path ∙ ap (λ (b : Bool). cond b (Some file) (old path)) same) ∙ found) in
    subst (λ (g : DagFile). AreActing (commands_of g) (says_at path (files path))) here (subst (λ (p : List ℕ). AreActing (commands_of file) (says_at p (files p))) at says))
    (λ differs. before path f (sym (is path ∙ ap (λ (b : Bool). cond b (Some file) (old path)) differs) ∙ found))
    (cases_Bool (bytes_eq key path))

-- the lines of a file that was read, without those that say nothing
pub acting_said : (read : Result (List Command) DagFault) (contents kept : List Command) → read ≡ Ok contents → kept ≡ acting contents → AreActing kept read
acting_said read contents kept is are =
    ap (λ (r : Result (List Command) DagFault). r >>= λ cs. Ok (acting cs)) is ∙ ap (λ (cs : List Command). Ok cs) (sym are)

pub said_acting : (read : Result (List Command) DagFault) (kept : List Command) → AreActing kept read → (contents : List Command) × (read ≡ Ok contents) × (kept ≡ acting contents)
said_acting read kept is =
    let b = bound read (λ contents. Ok (acting contents)) kept is in
    (b.0, b.1, sym (given (acting b.0) kept b.2))
