-- The command that starts the child of a phase.
use Rattle.std.specs.Prelude.{◌≡◌, ℕ, ◌-◌, ◌^◌, Bool, true, false, not, ◌&&◌, ◌||◌, ◌==◌, List, [], ◌∷◌, map, drop, Option, Some, None, option_map, unwrap_or, Result, Ok, Err, is_ok, if◌then◌else◌, codes, decimal}
use Rattle.std.specs.List.{list_any, list_all}
use Rattle.node_machine.specs.declared.Phase.{Phase}
use Rattle.node_machine.specs.declared.Phase.TheVariants.{Pre, Job, Post}
use Rattle.splices_flat.specs.Paths.{join}
pub use Rattle.dag_reader.specs.Results.{◌>>=◌}
use Rattle.vars_macros.specs.Symbols.{arguments}
use Rattle.vars_macros.specs.Expansion.{Expansion, expansion}
use Rattle.vars_macros.specs.Meaning.{MacroScope, last_macro}
use Rattle.vars_macros.specs.Names.{same_name}
use Rattle.vars_macros.specs.Script.{script_word, is_whole_run}
use Rattle.vars_macros.specs.declared.assignment.Macro.{Macro}
use Rattle.vars_macros.specs.declared.fault.MacroFault.{MacroFault}
use Rattle.vars_macros.specs.declared.fault.MacroFault.TheVariants.{BadQuote}
use Rattle.vars_macros.specs.declared.script.ScriptFacts.{ScriptFacts}
use Rattle.run_plan_node.specs.declared.command.ChildCommand.{ChildCommand}
use Rattle.run_plan_node.specs.declared.command.PhaseFacts.{PhaseFacts}
use Rattle.run_plan_node.specs.declared.job.JobFault.{JobFault}
use Rattle.run_plan_node.specs.declared.job.Places.{Places}
use Rattle.run_plan_node.specs.declared.job.JobFault.TheVariants.{InMacro, NoExecutable, BadUniverse}
use Rattle.run_plan_node.specs.Node as plans
use Rattle.run_plan_node.specs.Node.{NodeSpec, LaunchSpec, Program, Described}

abbrev pub in_macro : {A : Type 0} → Result A MacroFault → Result A JobFault
in_macro (Ok x) = Ok x
in_macro (Err fault) = Err (InMacro fault)

-- the command of a phase, or the first fault of the texts that it is made from
abbrev pub CommandOrFault : Type 0
CommandOrFault = Result ChildCommand JobFault

-- The texts of a job in one of its attempts, whose job has this launch number.
abbrev pub scope_in : List ℕ → List Macro → ℕ → ℕ → MacroScope
scope_in name assigned attempt launch =
    record { assigned = assigned; job = name; retry = decimal attempt; launch = decimal launch }

-- Numbers count up to this one.
abbrev pub greatest : ℕ
greatest = 2 ^ 64 - 1

abbrev pub present : {A E : Type 0} → Result A E → Result (Option A) E
present (Ok x) = Ok (Some x)
present (Err fault) = Err fault

-- the expansion of what is assigned to a name, if something is
abbrev pub expanded : MacroScope → Option Macro → Result (Option Expansion) MacroFault
expanded s None = Ok None
expanded s (Some m) = present (expansion s m.vars m.value)

unfoldable pub value_at : MacroScope → List ℕ → Result (Option Expansion) MacroFault
value_at s name = expanded s (last_macro s.assigned name)

abbrev pub text_of_value : Result (Option Expansion) MacroFault → Result (Option (List ℕ)) JobFault
text_of_value (Ok value) = Ok (option_map (λ (e : Expansion). e.text) value)
text_of_value (Err fault) = Err (InMacro fault)

-- the same as a text
unfoldable pub text_value_at : MacroScope → List ℕ → Result (Option (List ℕ)) JobFault
text_value_at s name = text_of_value (value_at s name)

-- All universes run as local children; a job without one is vanilla.
unfoldable pub is_universe : List ℕ → Bool
is_universe text = same_name text (codes "vanilla") || (same_name text (codes "local") || same_name text (codes "scheduler"))

abbrev pub known_universe : Option (List ℕ) → Result (Unit {0}) JobFault
known_universe None = Ok tt
known_universe (Some text) = if is_universe text then Ok tt else Err BadUniverse

unfoldable pub universe_of : MacroScope → Result (Unit {0}) JobFault
universe_of s = text_value_at s (codes "universe") >>= known_universe

-- the program, seen from the node's folder
abbrev pub program_in : List ℕ → Option (List ℕ) → Result (List ℕ) JobFault
program_in folder (Some (b ∷ bs)) = Ok (join folder (b ∷ bs))
program_in folder _ = Err NoExecutable

abbrev pub words_in : Option (List ℕ) → Result (List (List ℕ)) JobFault
words_in None = Ok []
words_in (Some text) = in_macro (arguments text)

-- a name that is not empty, an equals sign (61), and a value
unfoldable pub is_setting : List ℕ → Bool
is_setting [] = false
is_setting (b ∷ bs) = not (b == 61) && list_any (λ c. c == 61) bs

abbrev pub settings_in : Result (List (List ℕ)) MacroFault → Result (List (List ℕ)) JobFault
settings_in (Ok words) = if list_all is_setting words then Ok words else Err (InMacro BadQuote)
settings_in (Err fault) = Err (InMacro fault)

-- An environment is empty, or new style, and each of its words a setting.
abbrev pub environment_in : Option (List ℕ) → Result (List (List ℕ)) JobFault
environment_in (Some (b ∷ bs)) = if b == 34 then settings_in (arguments (b ∷ bs)) else Err (InMacro BadQuote)
environment_in _ = Ok []

-- the path of a file seen from the child's folder; an empty one is none
abbrev pub path_at : List ℕ → Option (List ℕ) → Option (List ℕ)
path_at folder (Some (b ∷ bs)) = Some (join folder (b ∷ bs))
path_at folder _ = None

unfoldable pub program_at : List ℕ → MacroScope → Result (List ℕ) JobFault
program_at folder s = text_value_at s (codes "executable") >>= program_in folder

unfoldable pub words_at : MacroScope → Result (List (List ℕ)) JobFault
words_at s = text_value_at s (codes "arguments") >>= words_in

unfoldable pub environment_at : MacroScope → Result (List (List ℕ)) JobFault
environment_at s = text_value_at s (codes "environment") >>= environment_in

abbrev pub places_in : List ℕ → Option (List ℕ) → Option (List ℕ) → Option (List ℕ) → Places
places_in folder input output error =
    record { folder = folder; input = path_at folder input; output = path_at folder output; error = path_at folder error }

-- the folder of the child, and its files seen from there
unfoldable pub places_at : List ℕ → MacroScope → Result Places JobFault
places_at folder s =
    text_value_at s (codes "input") >>= λ input. text_value_at s (codes "output") >>= λ output. text_value_at s (codes "error") >>= λ error.
    text_value_at s (codes "initialdir") >>= λ dir. Ok (places_in (join folder (unwrap_or dir [])) input output error)

abbrev pub command_with : List ℕ → List (List ℕ) → Places → List (List ℕ) → ChildCommand
command_with program words places environment = record {
  program = program;
  words = words;
  folder = places.folder;
  input = places.input;
  output = places.output;
  error = places.error;
  environment = environment;
}

-- The command of a job, or the first fault of its texts: executable, arguments, input, output, error, initialdir,
-- environment, in this order.
unfoldable pub job_command : List ℕ → MacroScope → Result ChildCommand JobFault
job_command folder s =
    program_at folder s >>= λ program. words_at s >>= λ words. places_at folder s >>= λ places.
    environment_at s >>= λ environment. Ok (command_with program words places environment)

-- The texts of a job can be expanded: its universe first, then those of its command.
abbrev pub checked : List ℕ → MacroScope → Result (Unit {0}) JobFault
checked folder s = universe_of s >>= λ known. job_command folder s >>= λ command. Ok tt

-- a program alone, run in this folder
abbrev pub bare_command : List ℕ → List ℕ → List (List ℕ) → ChildCommand
bare_command folder program words =
    record { program = program; words = words; folder = folder; input = None; output = None; error = None; environment = [] }

-- the command of the job in an attempt
abbrev pub command_of_job : List ℕ → plans.Job → ℕ → ℕ → Result ChildCommand JobFault
command_of_job folder (Program file) attempt launch = Ok (bare_command folder file [])
command_of_job folder (Described name assigned) attempt launch = job_command folder (scope_in name assigned attempt launch)

-- the first word of a script is its program
abbrev pub program_of : List (List ℕ) → List ℕ
program_of [] = []
program_of (word ∷ words) = word

abbrev pub command_of_words : List ℕ → List (List ℕ) → ChildCommand
command_of_words folder words = bare_command folder (join folder (program_of words)) (drop 1 words)

-- what the words of a script can stand for
abbrev pub script_facts : NodeSpec → ℕ → Bool → PhaseFacts → ScriptFacts
script_facts node attempt post facts = record {
  name = node.name;
  attempt = attempt;
  retries = node.course.retries;
  post = post;
  dag_status = facts.dag_status;
  failed = facts.failed;
  job_value = facts.job_value;
  pre_value = facts.pre_value;
  job_launch = facts.job_launch;
}

abbrev pub words_of : Option (List (List ℕ)) → List (List ℕ)
words_of script = unwrap_or script []

abbrev pub command_of_script : NodeSpec → Option (List (List ℕ)) → ℕ → Bool → PhaseFacts → ChildCommand
command_of_script node script attempt post facts =
    command_of_words node.launch_spec.folder (map (λ word. script_word (script_facts node attempt post facts) word) (words_of script))

-- The command of a phase in an attempt: a script with each of its words replaced by what it stands for, or the job with its
-- texts expanded.
unfoldable pub phase_command : NodeSpec → ℕ → Phase → PhaseFacts → CommandOrFault
phase_command node attempt Pre facts = Ok (command_of_script node node.launch_spec.pre attempt false facts)
phase_command node attempt Job facts = command_of_job node.launch_spec.folder node.launch_spec.job attempt facts.launch
phase_command node attempt Post facts = Ok (command_of_script node node.launch_spec.post attempt true facts)

-- The texts of the job can be expanded in the last attempt that is allowed, with the greatest launch number. So they can in
-- each attempt (`laws::commands_exist`).
unfoldable pub is_expandable : NodeSpec → Bool
is_expandable node = is_ok (command_of_job node.launch_spec.folder node.launch_spec.job node.course.retries greatest)

abbrev pub is_whole : Result (Option Expansion) MacroFault → Bool
is_whole (Ok (Some e)) = e.whole_run
is_whole _ = false

unfoldable pub is_whole_at : MacroScope → List ℕ → Bool
is_whole_at s name = is_whole (value_at s name)

-- one of the job's texts holds the launch number
unfoldable pub reads_launch : MacroScope → Bool
reads_launch s =
    is_whole_at s (codes "universe") || (is_whole_at s (codes "executable") || (is_whole_at s (codes "arguments")
    || (is_whole_at s (codes "input") || (is_whole_at s (codes "output") || (is_whole_at s (codes "error")
    || (is_whole_at s (codes "initialdir") || is_whole_at s (codes "environment")))))))

abbrev pub job_reads_launch : plans.Job → ℕ → Bool
job_reads_launch (Program file) retries = false
job_reads_launch (Described name assigned) retries = reads_launch (scope_in name assigned retries greatest)

abbrev pub launch_spec_uses_whole_run : LaunchSpec → ℕ → Bool
launch_spec_uses_whole_run launch_spec retries =
    list_any is_whole_run (words_of launch_spec.pre)
    || (list_any is_whole_run (words_of launch_spec.post) || job_reads_launch launch_spec.job retries)

-- A word of the node's commands is known in a whole run alone: it does not follow from the files, the attempt and the ends
-- of its phases.
unfoldable pub uses_whole_run : NodeSpec → Bool
uses_whole_run node = launch_spec_uses_whole_run node.launch_spec node.course.retries

-- this phase of the node starts a child
abbrev pub starts_child : NodeSpec → Phase → Bool
starts_child node Pre = node.course.pre
starts_child node Job = not node.course.noop
starts_child node Post = node.course.post

-- How the phases before this one ended in the same attempt, as far as its command can hold it: a POST script's words can
-- hold the values of the job and of the PRE script.
abbrev pub HaveSameEnds : Phase → PhaseFacts → PhaseFacts → Type 0
HaveSameEnds Pre facts other = Unit {0}
HaveSameEnds Job facts other = Unit {0}
HaveSameEnds Post facts other = (facts.job_value ≡ other.job_value) × (facts.pre_value ≡ other.pre_value)
