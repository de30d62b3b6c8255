-- What comes of a request.
use Rattle.std.proofs.Common.{◌≡◌, ◌⊎◌, inl, inr, ◌≤◌, ◌<◌, ℕ, Bool, Bor, List, None, true, false, Result, Ok, Err, codes, length, map, String, Global, refl, subst}
use Rattle.std.specs.Prelude.{IfSome}
use Rattle.std.proofs.lemmas.List.{length-map}
use Rattle.dag_main_args.specs.declared.request.Request.{Request}
use Rattle.dag_main_args.specs.declared.request.WordsFault.{WordsFault}
use Rattle.dag_main_args.specs.declared.request.WordsFault.TheVariants.{Refused, Memory}
use Rattle.dag_main_args.specs.Requests.{Asked, asked_by, checks, runs, views, rehearses, salvages, redoes, shows, no_limits, limits_in, AreLimits}
use Rattle.dag_main_args.specs.Answered.{IsAskedFor, IsRefused}
use Rattle.dag_main_check.specs.declared.fault.RunFault.{RunFault}
use Rattle.dag_main_check.specs.declared.fault.RunFault.TheVariants.{Memory as NoMemory}
use Rattle.dag_main_check.specs.declared.warnings.Answer.{Answer}
use Rattle.dag_main_check.specs.Consoles.{Streams, IsExitStatusOf, printed, not_printed}
use Rattle.dag_main_check.proofs.Lines.{no-warning}
use Rattle.dagrun.specs.Answered.{AskFor, IsExit, of_no_memory, AreHints}

-- the words as they are lent
abbrev pub lent_words : List (Bor (List ℕ)) → List (List ℕ)
lent_words words = map (λ (w : Bor (List ℕ)). w.now) words

lent-many : (words : List (Bor (List ℕ))) → length (lent_words words) ≡ length words
lent-many words = length-map words (λ (w : Bor (List ℕ)). w.now)

pub asks-for : (words : List (Bor (List ℕ))) (request : Request) → (length words ≤ 1 → asked_by request ≡ rehearses (codes "-") None no_limits false)
    → (1 < length words → IsAskedFor (lent_words words) request) → IfSome (limits_in (asked_by request)) AreLimits → AskFor (lent_words words) request
asks-for words request none said limited = record {
  no_words = λ few. none (subst (λ (n : ℕ). n ≤ 1) (lent-many words) few);
  said = λ more. said (subst (λ (n : ℕ). 1 < n) (lent-many words) more);
  limited = limited;
}

-- clap's text is no lack of memory
pub no-request : (words : List (List ℕ)) (text : String Global) (fault : WordsFault) → fault ≡ Refused text → (fault ≡ Memory) ⊎ IsRefused words → IsRefused words
no-request words text fault is (inl same) = absurd cc
no-request words text fault is (inr refused) = refused

-- where memory is refused, the status is 125
pub exits-without-memory : (to_terminal : Bool) (Replies : Asked → Result Answer RunFault → Type 0) (words : List (List ℕ)) (status : ℕ) → IsExitStatusOf (Err NoMemory) status
    → IsExit to_terminal Replies words status
exits-without-memory to_terminal Replies words status (printed answer same) = absurd cc
exits-without-memory to_terminal Replies words status not_printed = of_no_memory

-- nothing is displayed of no hints
pub no-hints : (asked : Asked) (reply : Result Answer RunFault) (streams : Streams) → AreHints asked reply streams streams
no-hints (checks path all json true) (Err fault) streams = no-warning streams
no-hints (checks path all json true) (Ok answer) streams = refl
no-hints (checks path all json false) reply streams = refl
no-hints (runs path options) reply streams = refl
no-hints (views path shown begun owned) reply streams = refl
no-hints (rehearses path outcomes limits always_post) reply streams = refl
no-hints (salvages path ended owned) reply streams = refl
no-hints (redoes path nodes only begun owned) reply streams = refl
no-hints (shows page) reply streams = refl
