-- A job whose texts can be expanded at the greatest numbers has a command at all others.
use Rattle.std.proofs.Common.{◌≡◌, ◌∙◌, sym, ap, refl, subst, ℕ, ◌≤◌, ◌==◌, Bool, true, false, not, ◌||◌, ◌&&◌, cond, List, [], ◌∷◌, Option, Some, None, Result, Ok, Err, codes}
use Rattle.std.proofs.lemmas.Bool.{false≢true}
use Rattle.std.specs.Prelude.{is_ok}
use Rattle.std.specs.List.{list_any, list_all}
use Rattle.vars_macros.specs.Symbols.{arguments}
use Rattle.vars_macros.specs.Cut.{begins_with}
use Rattle.vars_macros.specs.Expansion.{Expansion, expansion}
use Rattle.vars_macros.specs.Meaning.{MacroScope, last_macro}
use Rattle.vars_macros.specs.Numbers.{DifferInNumbers, AllDifferInNumbers, HasLesserNumbers}
use Rattle.vars_macros.specs.declared.assignment.Macro.{Macro}
use Rattle.vars_macros.specs.declared.fault.MacroFault.{MacroFault}
use Rattle.vars_macros.specs.declared.fault.MacroFault.TheVariants.{BadQuote}
use Rattle.vars_macros.proofs.Decimals.{decimal_no_longer}
use Rattle.vars_macros.proofs.DigitRuns.{turned, empty_of, begins_alike, any_alike}
use Rattle.vars_macros.proofs.Lesser.{lesser_expansion, both_chosen}
use Rattle.vars_macros.proofs.WordsAlike.{words_alike}
use Rattle.node_machine.specs.declared.Phase.{Phase}
use Rattle.node_machine.specs.declared.Phase.TheVariants.{Pre, Job, Post}
use Rattle.run_plan_node.specs.declared.command.ChildCommand.{ChildCommand}
use Rattle.run_plan_node.specs.declared.command.PhaseFacts.{PhaseFacts}
use Rattle.run_plan_node.specs.declared.job.JobFault.{JobFault}
use Rattle.run_plan_node.specs.declared.job.JobFault.TheVariants.{InMacro}
use Rattle.run_plan_node.specs.Node as plans
use Rattle.run_plan_node.specs.Node.{NodeSpec, Program, Described}
use Rattle.run_plan_node.specs.Commands.{◌>>=◌, in_macro, scope_in, greatest, present, expanded, value_at, text_of_value, text_value_at, program_in, words_in, is_setting, settings_in, environment_in, program_at, words_at, environment_at, places_at, job_command, bare_command, command_of_job, command_of_script, phase_command, is_expandable}

-- The texts of a job in an attempt have lesser numbers than those in a later one.
pub lesser_attempt : (name : List ℕ) (assigned : List Macro) (attempt retries launch most : ℕ) → attempt ≤ retries → launch ≤ most →
    HasLesserNumbers (scope_in name assigned attempt launch) (scope_in name assigned retries most)
lesser_attempt name assigned attempt retries launch most earlier less =
    record { assigned = refl; job = refl; retry = decimal_no_longer attempt retries earlier; launch = decimal_no_longer launch most less }

-- Where the first is a value, so is the second, and the two are related.
abbrev Follows : {A B E : Type 0} → (A → B → Type 0) → Result A E → Result B E → Type 0
Follows R (Ok x) (Ok y) = R x y
Follows R (Ok x) (Err fault) = ⊥
Follows R (Err fault) other = Unit {0}

-- any two values
abbrev Any : {A B : Type 0} → A → B → Type 0
Any x y = Unit {0}

then_follows : {A B C D : Type 0} (R : A → B → Type 0) (Q : C → D → Type 0) (r : Result A JobFault) (s : Result B JobFault)
    (f : A → Result C JobFault) (g : B → Result D JobFault) → Follows R r s → ((x : A) (y : B) → R x y → Follows Q (f x) (g y)) →
    Follows Q (r >>= f) (s >>= g)
then_follows R Q (Ok x) (Ok y) f g h next = next x y h
then_follows R Q (Ok x) (Err fault) f g h next = absurd h
then_follows R Q (Err fault) s f g h next = tt

follows_exists : {A B E : Type 0} (R : A → B → Type 0) (r : Result A E) (s : Result B E) → Follows R r s → is_ok r ≡ true → (y : B) × (s ≡ Ok y)
follows_exists R (Ok x) (Ok y) h ok = (y, refl)
follows_exists R (Ok x) (Err fault) h ok = absurd h
follows_exists R (Err fault) s h ok = absurd (false≢true ok)

-- The texts of a job: at lesser numbers as many are there, each the same but for numbers.
abbrev TextsAlike : Option (List ℕ) → Option (List ℕ) → Type 0
TextsAlike None None = Unit {0}
TextsAlike None (Some y) = ⊥
TextsAlike (Some x) None = ⊥
TextsAlike (Some x) (Some y) = DifferInNumbers x y

expanded_follows : (small big : MacroScope) → HasLesserNumbers small big → (found : Option Macro) →
    Follows TextsAlike (text_of_value (expanded big found)) (text_of_value (expanded small found))
expanded_follows small big h None = tt
expanded_follows small big h (Some m) = by_answer (expansion big m.vars m.value) refl
  where
    by_answer : (r : Result Expansion MacroFault) → expansion big m.vars m.value ≡ r → Follows TextsAlike (text_of_value (present r)) (text_of_value (expanded small (Some m)))
    by_answer (Ok e) is =
        let p = lesser_expansion small big h m.vars m.value e is in
        subst (λ (r : Result Expansion MacroFault). Follows TextsAlike (Ok (Some e.text)) (text_of_value (present r))) (sym p.1) p.2.text
    by_answer (Err fault) is = tt

text_follows : (small big : MacroScope) → HasLesserNumbers small big → (name : List ℕ) → Follows TextsAlike (text_value_at big name) (text_value_at small name)
unfolding text_value_at value_at
text_follows small big h name =
    subst (λ (ms : List Macro). Follows TextsAlike (text_of_value (expanded big (last_macro big.assigned name))) (text_of_value (expanded small (last_macro ms name)))) (sym h.assigned)
    (expanded_follows small big h (last_macro big.assigned name))

-- No text is empty where the other is not.
some_byte : (b : ℕ) (bs : List ℕ) → DifferInNumbers (b ∷ bs) [] → ⊥
some_byte b bs h = absurd (let none : b ∷ bs ≡ [] = empty_of (turned h) refl in cc)

-- What is read from texts that are alike.
program_follows : (folder : List ℕ) (x y : Option (List ℕ)) → TextsAlike x y → Follows Any (program_in folder x) (program_in folder y)
program_follows folder None y h = tt
program_follows folder (Some x) None h = absurd h
program_follows folder (Some []) (Some y) h = tt
program_follows folder (Some (b ∷ bs)) (Some []) h = absurd (some_byte b bs h)
program_follows folder (Some (b ∷ bs)) (Some (c ∷ cs)) h = tt

arguments_follow : (x y : List ℕ) → DifferInNumbers x y → Follows AllDifferInNumbers (arguments x) (arguments y)
arguments_follow x y h = by_answer (arguments x) refl
  where
    by_answer : (r : Result (List (List ℕ)) MacroFault) → arguments x ≡ r → Follows AllDifferInNumbers r (arguments y)
    by_answer (Ok words) is =
        let p = words_alike x y h words is in
        subst (λ (r : Result (List (List ℕ)) MacroFault). Follows AllDifferInNumbers (Ok words) r) (sym p.1) p.2
    by_answer (Err fault) is = tt

words_follow : (x y : Option (List ℕ)) → TextsAlike x y → Follows Any (words_in x) (words_in y)
words_follow None None h = tt
words_follow None (Some y) h = absurd h
words_follow (Some x) None h = absurd h
words_follow (Some x) (Some y) h = in_macro_follows (arguments x) (arguments y) (arguments_follow x y h)
  where
    in_macro_follows : (r s : Result (List (List ℕ)) MacroFault) → Follows AllDifferInNumbers r s → Follows Any (in_macro r) (in_macro s)
    in_macro_follows (Ok words) (Ok others) all = tt
    in_macro_follows (Ok words) (Err fault) all = absurd all
    in_macro_follows (Err fault) s all = tt

-- a setting, by the bytes that no number has
setting_is : (x : List ℕ) → is_setting x ≡ (not (begins_with 61 x) && list_any (λ c. c == 61) x)
unfolding is_setting
setting_is [] = refl
setting_is (b ∷ bs) = by_first (b == 61) (list_any (λ c. c == 61) bs)
  where
    by_first : (first more : Bool) → (not first && more) ≡ (not first && (first || more))
    by_first true more = refl
    by_first false more = refl

setting_alike : (x y : List ℕ) → DifferInNumbers x y → is_setting x ≡ is_setting y
setting_alike x y h =
    setting_is x ∙ ap (λ (first : Bool). not first && list_any (λ c. c == 61) x) (begins_alike 61 refl h)
    ∙ ap (λ (more : Bool). not (begins_with 61 y) && more) (any_alike 61 refl h) ∙ sym (setting_is y)

settings_alike : (xs ys : List (List ℕ)) → AllDifferInNumbers xs ys → list_all is_setting xs ≡ list_all is_setting ys
settings_alike [] [] all = refl
settings_alike [] (y ∷ ys) all = absurd all
settings_alike (x ∷ xs) [] all = absurd all
settings_alike (x ∷ xs) (y ∷ ys) all =
    ap (λ (t : Bool). t && list_all is_setting xs) (setting_alike x y all.0) ∙ ap (λ (t : Bool). is_setting y && t) (settings_alike xs ys all.1)

settings_follow : (r s : Result (List (List ℕ)) MacroFault) → Follows AllDifferInNumbers r s → Follows Any (settings_in r) (settings_in s)
settings_follow (Ok words) (Ok others) all =
    subst (λ (t : Bool). Follows Any (settings_in (Ok words)) (cond t (Ok others) (Err (InMacro BadQuote)))) (settings_alike words others all)
    (both_chosen (Follows Any) (list_all is_setting words) (Ok words) (Err (InMacro BadQuote)) (Ok others) (Err (InMacro BadQuote)) tt tt)
settings_follow (Ok words) (Err fault) all = absurd all
settings_follow (Err fault) s all = tt

environment_follows : (x y : Option (List ℕ)) → TextsAlike x y → Follows Any (environment_in x) (environment_in y)
environment_follows None None h = tt
environment_follows None (Some y) h = absurd h
environment_follows (Some x) None h = absurd h
environment_follows (Some []) (Some []) h = tt
environment_follows (Some []) (Some (c ∷ cs)) h = absurd (some_byte c cs (turned h))
environment_follows (Some (b ∷ bs)) (Some []) h = absurd (some_byte b bs h)
environment_follows (Some (b ∷ bs)) (Some (c ∷ cs)) h =
    let quote : (b == 34) ≡ (c == 34) = begins_alike 34 refl h in
    subst (λ (t : Bool). Follows Any (environment_in (Some (b ∷ bs))) (cond t (settings_in (arguments (c ∷ cs))) (Err (InMacro BadQuote)))) quote
    (both_chosen (Follows Any) (b == 34) _ (Err (InMacro BadQuote)) _ (Err (InMacro BadQuote)) (settings_follow _ _ (arguments_follow (b ∷ bs) (c ∷ cs) h)) tt)

-- The command of a job, part by part.
module _ (folder : List ℕ) (small big : MacroScope) (h : HasLesserNumbers small big) where
  program_exists : Follows Any (program_at folder big) (program_at folder small)
  unfolding program_at
  program_exists = then_follows TextsAlike Any _ _ _ _ (text_follows small big h (codes "executable")) (program_follows folder)

  words_exist : Follows Any (words_at big) (words_at small)
  unfolding words_at
  words_exist = then_follows TextsAlike Any _ _ _ _ (text_follows small big h (codes "arguments")) words_follow

  environment_exists : Follows Any (environment_at big) (environment_at small)
  unfolding environment_at
  environment_exists = then_follows TextsAlike Any _ _ _ _ (text_follows small big h (codes "environment")) environment_follows

  places_exist : Follows Any (places_at folder big) (places_at folder small)
  unfolding places_at
  places_exist =
      then_follows TextsAlike Any _ _ _ _ (text_follows small big h (codes "input")) (λ _ _ _.
      then_follows TextsAlike Any _ _ _ _ (text_follows small big h (codes "output")) (λ _ _ _.
      then_follows TextsAlike Any _ _ _ _ (text_follows small big h (codes "error")) (λ _ _ _.
      then_follows TextsAlike Any _ _ _ _ (text_follows small big h (codes "initialdir")) (λ _ _ _. tt))))

  command_exists : Follows Any (job_command folder big) (job_command folder small)
  unfolding job_command
  command_exists =
      then_follows Any Any _ _ _ _ program_exists (λ _ _ _.
      then_follows Any Any _ _ _ _ words_exist (λ _ _ _.
      then_follows Any Any _ _ _ _ places_exist (λ _ _ _.
      then_follows Any Any _ _ _ _ environment_exists (λ _ _ _. tt))))

job_command_exists : (folder : List ℕ) (job : plans.Job) (attempt retries launch most : ℕ) → is_ok (command_of_job folder job retries most) ≡ true → attempt ≤ retries → launch ≤ most →
    (command : ChildCommand) × (command_of_job folder job attempt launch ≡ Ok command)
job_command_exists folder (Program file) attempt retries launch most sound earlier less = (bare_command folder file [], refl)
job_command_exists folder (Described name assigned) attempt retries launch most sound earlier less =
    follows_exists Any (job_command folder (scope_in name assigned retries most)) (job_command folder (scope_in name assigned attempt launch))
    (command_exists folder _ _ (lesser_attempt name assigned attempt retries launch most earlier less)) sound

pub each_command_exists : (node : NodeSpec) (attempt : ℕ) (phase : Phase) (facts : PhaseFacts) → is_expandable node ≡ true → attempt ≤ node.course.retries → facts.launch ≤ greatest →
    (command : ChildCommand) × (phase_command node attempt phase facts ≡ Ok command)
unfolding phase_command is_expandable
each_command_exists node attempt Pre facts sound earlier less = (command_of_script node node.launch_spec.pre attempt false facts, refl)
each_command_exists node attempt Job facts sound earlier less =
    job_command_exists node.launch_spec.folder node.launch_spec.job attempt node.course.retries facts.launch greatest sound earlier less
each_command_exists node attempt Post facts sound earlier less = (command_of_script node node.launch_spec.post attempt true facts, refl)
