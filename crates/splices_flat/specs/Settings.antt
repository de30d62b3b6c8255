-- What the lines of a file set for its nodes: each line is one step, and of two settings of one kind the later wins whole.
use Rattle.std.specs.Prelude.{ℕ, Bool, false, List, [], ◌∷◌, ◌++◌, map, fold, Option, Some, None, if◌then◌else◌}
use Rattle.std.specs.Str.{str_eq_ignore_ascii_case}
use Rattle.dag_reader.specs.declared.command.Command.{Command}
use Rattle.dag_reader.specs.declared.command.Command.TheVariants.{Script, Retry, PreSkip, Vars, Priority, Category, AbortDagOn}
use Rattle.dag_reader.specs.declared.command.Macro.{Macro}
use Rattle.dag_reader.specs.declared.command.Placement.{Placement}
use Rattle.dag_reader.specs.declared.command.ScriptKind.{ScriptKind}
use Rattle.dag_reader.specs.declared.command.ScriptKind.TheVariants.{Pre, Post}
use Rattle.dag_reader.specs.declared.command.Target.{Target}
use Rattle.dag_reader.specs.declared.command.Target.TheVariants.{Node, AllNodes}
use Rattle.dag_reader.specs.Keywords.{begins_with}
use Rattle.dag_reader.specs.Word.{PlacedText}
use Rattle.splices_flat.specs.declared.flat.ScriptSetting.{ScriptSetting}
use Rattle.splices_flat.specs.declared.flat.MacroSetting.{MacroSetting}
use Rattle.splices_flat.specs.declared.flat.Settings.{Settings}
use Rattle.splices_flat.specs.Nodes.{job_names, final_names, reaches}

-- the number of the line that a target is in
abbrev pub line_of_target : Target → ℕ
line_of_target (Node word) = word.span.line
line_of_target (AllNodes span) = span.line

-- a category is prefixed like a node, unless it begins with a plus: then it is one category of the whole DAG
abbrev pub full_category : List ℕ → List ℕ → List ℕ
full_category prefix name = if begins_with 43 name then name else prefix ++ name

-- the words of a script, of which the first is the program
abbrev pub script_words : PlacedText → List PlacedText → List (List ℕ)
script_words program arguments = program.text ∷ map (λ w. w.text) arguments

-- the words of the script that a line says; none where it says none
abbrev pub words_said : Command → List (List ℕ)
words_said (Script kind target program arguments) = script_words program arguments
words_said _ = []

abbrev pub script_setting_of : Target → PlacedText → List PlacedText → ScriptSetting
script_setting_of target program arguments = record { line = line_of_target target; words = script_words program arguments }

abbrev pub macro_setting : ℕ → Placement → Macro → MacroSetting
macro_setting line placement m = record { line = line; placement = placement; name = m.name.text; text = m.text.text }

abbrev pub macros_of : Target → Placement → List Macro → List MacroSetting
macros_of target placement macros = map (macro_setting (line_of_target target) placement) macros

-- macros of one name: letters have no case there
abbrev pub is_namesake : MacroSetting → MacroSetting → Bool
is_namesake m other = str_eq_ignore_ascii_case m.name other.name

-- Macros with one more: of two of one name the later wins, at the place of the first.
abbrev pub with_macro : List MacroSetting → MacroSetting → List MacroSetting
with_macro [] m = m ∷ []
with_macro (other ∷ macros) m = if is_namesake m other then m ∷ macros else other ∷ with_macro macros m

-- the same with these, one after the other
abbrev pub with_macros : List MacroSetting → List MacroSetting → List MacroSetting
with_macros macros [] = macros
with_macros macros (m ∷ ms) = with_macros (with_macro macros m) ms

abbrev pub with_script : ScriptKind → ScriptSetting → Settings → Settings
with_script Pre script s = record s { pre = Some script }
with_script Post script s = record s { post = Some script }

-- the settings of a node after one more line that is for it, in a file with this prefix
abbrev pub with_line : List ℕ → Settings → Command → Settings
with_line prefix s (Script kind target program arguments) = with_script kind (script_setting_of target program arguments) s
with_line prefix s (Retry target n v) = record s { retry = Some (record { line = line_of_target target; retries = n; unless_exit = v }) }
with_line prefix s (PreSkip target v) = record s { pre_skip = Some (record { line = line_of_target target; value = v }) }
with_line prefix s (Vars target placement macros) = record s { macros = with_macros s.macros (macros_of target placement macros) }
with_line prefix s (Priority target k) = record s { priority = Some (record { line = line_of_target target; value = k }) }
with_line prefix s (Category target category) = record s { category = Some (record { line = line_of_target target; name = full_category prefix category.text }) }
with_line prefix s (AbortDagOn target v status) = record s { abort = Some (record { line = line_of_target target; value = v; status = status }) }
with_line prefix s _ = s

-- the target of a setting
abbrev pub setting_target : Command → Option Target
setting_target (Script kind target program arguments) = Some target
setting_target (Retry target n v) = Some target
setting_target (PreSkip target v) = Some target
setting_target (Vars target placement macros) = Some target
setting_target (Priority target k) = Some target
setting_target (Category target category) = Some target
setting_target (AbortDagOn target v status) = Some target
setting_target _ = None

-- a line is for the node at this place, where these are the names of the JOB lines and of the FINAL lines
abbrev pub is_for : List (List ℕ) → List (List ℕ) → Option Target → ℕ → Bool
is_for jobs finals None place = false
is_for jobs finals (Some target) place = reaches jobs finals place target

-- the settings of a node of which no line says anything
abbrev pub no_settings : Settings
no_settings = record { pre = None; post = None; retry = None; pre_skip = None; macros = []; priority = None; category = None; abort = None }

-- what some lines of a file set for the node at this place; the file has this prefix and these lines
abbrev pub settings_at : List ℕ → List Command → List Command → ℕ → Settings
settings_at prefix commands lines place =
    fold (λ s c. if is_for (job_names commands) (final_names commands) (setting_target c) place then with_line prefix s c else s) no_settings lines
