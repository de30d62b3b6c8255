-- What is not known in a whole run alone changes no command.
use Rattle.std.proofs.Common.{◌≡◌, ◌∙◌, sym, ap, refl, subst, ℕ, ◌≤◌, arith, Bool, true, false, List, [], ◌∷◌, map, Option, Some, None, Result, Ok, Err, codes, decimal}
use Rattle.std.proofs.lemmas.Bool.{false≢true, or_parts}
use Rattle.std.specs.Prelude.{is_ok}
use Rattle.std.specs.List.{list_any}
use Rattle.node_machine.specs.declared.Phase.{Phase}
use Rattle.node_machine.specs.declared.Phase.TheVariants.{Pre, Job, Post}
use Rattle.vars_macros.specs.Expansion.{Expansion, expansion}
use Rattle.vars_macros.specs.Meaning.{MacroScope, last_macro}
use Rattle.vars_macros.specs.Numbers.{HasLesserNumbers}
use Rattle.vars_macros.specs.Script.{script_word, is_whole_run}
use Rattle.vars_macros.specs.declared.assignment.Macro.{Macro}
use Rattle.vars_macros.specs.declared.fault.MacroFault.{MacroFault}
use Rattle.vars_macros.proofs.LaunchUnread.{launch_unread}
use Rattle.vars_macros.proofs.Lesser.{lesser_expansion}
use Rattle.vars_macros.proofs.ScriptUnread.{known_word, known_in_pre_script}
use Rattle.run_plan_node.specs.declared.command.PhaseFacts.{PhaseFacts}
use Rattle.run_plan_node.specs.declared.job.JobFault.{JobFault}
use Rattle.run_plan_node.specs.Node as plans
use Rattle.run_plan_node.specs.Node.{NodeSpec, Program, Described}
use Rattle.run_plan_node.specs.Commands.{◌>>=◌, scope_in, greatest, present, expanded, value_at, text_of_value, text_value_at, program_in, words_in, environment_in, program_at, words_at, environment_at, places_at, job_command, command_of_job, words_of, command_of_words, script_facts, command_of_script, phase_command, is_expandable, is_whole, is_whole_at, reads_launch, job_reads_launch, uses_whole_run, HaveSameEnds}
use Rattle.run_plan_node.proofs.CommandsExist.{lesser_attempt}

-- Where the first is a value, the other two are the same.
abbrev SameWhere : {A B E : Type 0} → Result A E → Result B E → Result B E → Type 0
SameWhere (Ok x) one other = one ≡ other
SameWhere (Err fault) one other = Unit {0}

same_itself : {A B E : Type 0} (r : Result A E) (one : Result B E) → SameWhere r one one
same_itself (Ok x) one = refl
same_itself (Err fault) one = tt

same_where : {A B E : Type 0} (r : Result A E) (one other : Result B E) → is_ok r ≡ true → SameWhere r one other → one ≡ other
same_where (Ok x) one other ok same = same
same_where (Err fault) one other ok same = absurd (false≢true ok)

then_same : {A B C D : Type 0} (r : Result A JobFault) (one other : Result B JobFault) (h : A → Result C JobFault) (f g : B → Result D JobFault) →
    SameWhere r one other → ((x : A) (y : B) → SameWhere (h x) (f y) (g y)) → SameWhere (r >>= h) (one >>= f) (other >>= g)
then_same (Err fault) one other h f g same next = tt
then_same (Ok x) (Ok y) other h f g same next = subst (λ (s : Result _ JobFault). SameWhere (h x) (f y) (s >>= g)) same (next x y)
then_same (Ok x) (Err fault) other h f g same next = subst (λ (s : Result _ JobFault). SameWhere (h x) (Err fault) (s >>= g)) same (same_itself (h x) (Err fault))

-- The texts of a job, where they don't hold the launch number.
expansion_same : (small big : MacroScope) → HasLesserNumbers small big → (launch : List ℕ) (vars : Bool) (text : List ℕ) (e : Expansion) →
    expansion big vars text ≡ Ok e → e.whole_run ≡ false → expansion small vars text ≡ expansion (record small { launch = launch }) vars text
expansion_same small big h launch vars text e is plain =
    let p = lesser_expansion small big h vars text e is in
    p.1 ∙ sym (launch_unread small vars text p.0 p.1 (p.2.whole_run ∙ plain) launch)

expanded_same : (small big : MacroScope) → HasLesserNumbers small big → (launch : List ℕ) (found : Option Macro) → is_whole (expanded big found) ≡ false →
    SameWhere (text_of_value (expanded big found)) (text_of_value (expanded small found)) (text_of_value (expanded (record small { launch = launch }) found))
expanded_same small big h launch None plain = refl
expanded_same small big h launch (Some m) plain = by_answer (expansion big m.vars m.value) refl plain
  where
    by_answer : (r : Result Expansion MacroFault) → expansion big m.vars m.value ≡ r → is_whole (present r) ≡ false →
        SameWhere (text_of_value (present r)) (text_of_value (expanded small (Some m))) (text_of_value (expanded (record small { launch = launch }) (Some m)))
    by_answer (Ok e) is known = ap (λ (r : Result Expansion MacroFault). text_of_value (present r)) (expansion_same small big h launch m.vars m.value e is known)
    by_answer (Err fault) is known = tt

text_same : (small big : MacroScope) → HasLesserNumbers small big → (launch name : List ℕ) → is_whole_at big name ≡ false →
    SameWhere (text_value_at big name) (text_value_at small name) (text_value_at (record small { launch = launch }) name)
unfolding text_value_at value_at is_whole_at
text_same small big h launch name plain =
    subst (λ (ms : List Macro). SameWhere (text_of_value (expanded big (last_macro big.assigned name))) (text_of_value (expanded small (last_macro ms name))) (text_of_value (expanded (record small { launch = launch }) (last_macro ms name)))) (sym h.assigned)
    (expanded_same small big h launch (last_macro big.assigned name) plain)

-- each text that a command is made from
record ReadsNoLaunch (s : MacroScope) : Type 0 where
  executable : is_whole_at s (codes "executable") ≡ false
  arguments : is_whole_at s (codes "arguments") ≡ false
  input : is_whole_at s (codes "input") ≡ false
  output : is_whole_at s (codes "output") ≡ false
  error : is_whole_at s (codes "error") ≡ false
  initialdir : is_whole_at s (codes "initialdir") ≡ false
  environment : is_whole_at s (codes "environment") ≡ false

reads_no_launch : (s : MacroScope) → reads_launch s ≡ false → ReadsNoLaunch s
unfolding reads_launch
reads_no_launch s plain =
    let universe = or_parts (is_whole_at s (codes "universe")) _ plain in
    let executable = or_parts (is_whole_at s (codes "executable")) _ universe.1 in
    let arguments = or_parts (is_whole_at s (codes "arguments")) _ executable.1 in
    let input = or_parts (is_whole_at s (codes "input")) _ arguments.1 in
    let output = or_parts (is_whole_at s (codes "output")) _ input.1 in
    let error = or_parts (is_whole_at s (codes "error")) _ output.1 in
    let rest = or_parts (is_whole_at s (codes "initialdir")) _ error.1 in
    record { executable = executable.0; arguments = arguments.0; input = input.0; output = output.0; error = error.0; initialdir = rest.0; environment = rest.1 }

-- The command of a job, part by part.
module _ (folder : List ℕ) (small big : MacroScope) (lesser : HasLesserNumbers small big) (launch : List ℕ) (plain : ReadsNoLaunch big) where
  program_same : SameWhere (program_at folder big) (program_at folder small) (program_at folder (record small { launch = launch }))
  unfolding program_at
  program_same = then_same (text_value_at big (codes "executable")) _ _ _ _ _ (text_same small big lesser launch (codes "executable") plain.executable) (λ x y. same_itself (program_in folder x) (program_in folder y))

  words_same : SameWhere (words_at big) (words_at small) (words_at (record small { launch = launch }))
  unfolding words_at
  words_same = then_same (text_value_at big (codes "arguments")) _ _ _ _ _ (text_same small big lesser launch (codes "arguments") plain.arguments) (λ x y. same_itself (words_in x) (words_in y))

  environment_same : SameWhere (environment_at big) (environment_at small) (environment_at (record small { launch = launch }))
  unfolding environment_at
  environment_same = then_same (text_value_at big (codes "environment")) _ _ _ _ _ (text_same small big lesser launch (codes "environment") plain.environment) (λ x y. same_itself (environment_in x) (environment_in y))

  places_same : SameWhere (places_at folder big) (places_at folder small) (places_at folder (record small { launch = launch }))
  unfolding places_at
  places_same =
      then_same _ _ _ _ _ _ (text_same small big lesser launch (codes "input") plain.input) (λ _ _.
      then_same _ _ _ _ _ _ (text_same small big lesser launch (codes "output") plain.output) (λ _ _.
      then_same _ _ _ _ _ _ (text_same small big lesser launch (codes "error") plain.error) (λ _ _.
      then_same _ _ _ _ _ _ (text_same small big lesser launch (codes "initialdir") plain.initialdir) (λ _ _. refl))))

  command_same : SameWhere (job_command folder big) (job_command folder small) (job_command folder (record small { launch = launch }))
  unfolding job_command
  command_same =
      then_same _ _ _ _ _ _ program_same (λ _ _.
      then_same _ _ _ _ _ _ words_same (λ _ _.
      then_same _ _ _ _ _ _ places_same (λ _ _.
      then_same _ _ _ _ _ _ environment_same (λ _ _. refl))))

-- the job's command is that of the greatest launch number
greatest_alike : (folder : List ℕ) (job : plans.Job) (attempt retries launch : ℕ) → is_ok (command_of_job folder job retries greatest) ≡ true →
    job_reads_launch job retries ≡ false → attempt ≤ retries → command_of_job folder job attempt greatest ≡ command_of_job folder job attempt launch
greatest_alike folder (Program file) attempt retries launch sound plain earlier = refl
greatest_alike folder (Described name assigned) attempt retries launch sound plain earlier =
    let small = scope_in name assigned attempt greatest in
    let big = scope_in name assigned retries greatest in
    same_where (job_command folder big) (job_command folder small) (job_command folder (scope_in name assigned attempt launch)) sound
    (command_same folder small big (lesser_attempt name assigned attempt retries greatest greatest earlier (omega arith)) (decimal launch) (reads_no_launch big plain))

-- The words of a script, where none is known in a whole run alone.
known_words : (one other : List ℕ → List ℕ) → ((word : List ℕ) → is_whole_run word ≡ false → one word ≡ other word) → (words : List (List ℕ)) →
    list_any is_whole_run words ≡ false → map one words ≡ map other words
known_words one other same [] known = refl
known_words one other same (word ∷ words) known =
    let parts = or_parts (is_whole_run word) (list_any is_whole_run words) known in
    ap (λ (w : List ℕ). w ∷ map one words) (same word parts.0) ∙ ap (λ (ws : List (List ℕ)). other word ∷ ws) (known_words one other same words parts.1)

pre_script_alike : (node : NodeSpec) (attempt : ℕ) (facts other : PhaseFacts) → list_any is_whole_run (words_of node.launch_spec.pre) ≡ false →
    command_of_script node node.launch_spec.pre attempt false facts ≡ command_of_script node node.launch_spec.pre attempt false other
pre_script_alike node attempt facts other known =
    let one = script_facts node attempt false facts in
    let two = script_facts node attempt false other in
    ap (command_of_words node.launch_spec.folder) (known_words (script_word one) (script_word two)
    (known_in_pre_script one two (record { name = refl; attempt = refl; retries = refl; post = refl }) refl) (words_of node.launch_spec.pre) known)

post_script_alike : (node : NodeSpec) (attempt : ℕ) (facts other : PhaseFacts) → HaveSameEnds Post facts other → list_any is_whole_run (words_of node.launch_spec.post) ≡ false →
    command_of_script node node.launch_spec.post attempt true facts ≡ command_of_script node node.launch_spec.post attempt true other
post_script_alike node attempt facts other ends known =
    let one = script_facts node attempt true facts in
    let two = script_facts node attempt true other in
    ap (command_of_words node.launch_spec.folder) (known_words (script_word one) (script_word two)
    (known_word one two (record { name = refl; attempt = refl; retries = refl; post = refl }) (record { job_value = ends.0; pre_value = ends.1 })) (words_of node.launch_spec.post) known)

-- no order of the node is known in a whole run alone
record IsPlain (node : NodeSpec) : Type 0 where
  pre : list_any is_whole_run (words_of node.launch_spec.pre) ≡ false
  post : list_any is_whole_run (words_of node.launch_spec.post) ≡ false
  job : job_reads_launch node.launch_spec.job node.course.retries ≡ false

is_plain : (node : NodeSpec) → uses_whole_run node ≡ false → IsPlain node
unfolding uses_whole_run
is_plain node known =
    let pre = or_parts (list_any is_whole_run (words_of node.launch_spec.pre)) _ known in
    let post = or_parts (list_any is_whole_run (words_of node.launch_spec.post)) _ pre.1 in
    record { pre = pre.0; post = post.0; job = post.1 }

pub plain_command_same : (node : NodeSpec) (attempt : ℕ) (phase : Phase) (facts other : PhaseFacts) → is_expandable node ≡ true → uses_whole_run node ≡ false →
    attempt ≤ node.course.retries → HaveSameEnds phase facts other → phase_command node attempt phase facts ≡ phase_command node attempt phase other
unfolding phase_command is_expandable
plain_command_same node attempt Pre facts other sound known earlier ends = ap Ok (pre_script_alike node attempt facts other (is_plain node known).pre)
plain_command_same node attempt Job facts other sound known earlier ends =
    let plain = (is_plain node known).job in
    sym (greatest_alike node.launch_spec.folder node.launch_spec.job attempt node.course.retries facts.launch sound plain earlier)
    ∙ greatest_alike node.launch_spec.folder node.launch_spec.job attempt node.course.retries other.launch sound plain earlier
plain_command_same node attempt Post facts other sound known earlier ends = ap Ok (post_script_alike node attempt facts other ends (is_plain node known).post)
