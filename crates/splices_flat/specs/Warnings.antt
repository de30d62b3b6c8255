-- What a user is warned of: the ignored lines, and the lines with a setting that a later one replaces.
use Rattle.std.specs.Prelude.{ℕ, ◌==◌, List, [], ◌∷◌, ◌++◌, length, map, find, Option, Some, None, if◌then◌else◌}
use Rattle.std.specs.List.{flat_map, list_any, range_with_len}
use Rattle.std.specs.Str.{bytes_eq}
use Rattle.dag_reader.specs.declared.command.Command.{Command}
use Rattle.dag_reader.specs.declared.command.Command.TheVariants.{Script, Retry, PreSkip, Vars, Priority, Category, MaxJobs, AbortDagOn, Ignored}
use Rattle.dag_reader.specs.declared.command.ScriptKind.{ScriptKind}
use Rattle.dag_reader.specs.declared.command.ScriptKind.TheVariants.{Pre, Post}
use Rattle.dag_reader.specs.declared.command.Target.{Target}
use Rattle.dag_reader.specs.Word.{PlacedText}
use Rattle.splices_flat.specs.declared.flat.CategoryLimit.{CategoryLimit}
use Rattle.splices_flat.specs.declared.flat.MacroSetting.{MacroSetting}
use Rattle.splices_flat.specs.declared.flat.ScriptSetting.{ScriptSetting}
use Rattle.splices_flat.specs.declared.flat.Settings.{Settings}
use Rattle.splices_flat.specs.Nodes.{job_names, final_names, node_names}
use Rattle.splices_flat.specs.Notices.{Notice, Place, ignored, overridden, place, with_notice, with_notices}
use Rattle.splices_flat.specs.Settings.{full_category, is_for, is_namesake, line_of_target, macros_of, settings_at, setting_target, with_macro}

-- a line's number, where the setting is there
abbrev pub line_if : {X : Type 0} → (X → ℕ) → Option X → List ℕ
line_if line None = []
line_if line (Some setting) = line setting ∷ []

-- the lines of the macros that these take the place of, one after the other, those before them being there
abbrev pub replaced_by : List MacroSetting → List MacroSetting → List ℕ
replaced_by before [] = []
replaced_by before (m ∷ ms) = line_if (λ other. other.line) (find (is_namesake m) before) ++ replaced_by (with_macro before m) ms

-- the script of a kind that is set
abbrev pub script_setting : ScriptKind → Settings → Option ScriptSetting
script_setting Pre settings = settings.pre
script_setting Post settings = settings.post

-- the lines whose settings a line takes the place of, for a node with these settings that its target reaches
abbrev pub replaced_in : Settings → Command → List ℕ
replaced_in settings (Script kind target program arguments) = line_if (λ s. s.line) (script_setting kind settings)
replaced_in settings (Retry target n v) = line_if (λ s. s.line) settings.retry
replaced_in settings (PreSkip target v) = line_if (λ s. s.line) settings.pre_skip
replaced_in settings (Vars target placement macros) = replaced_by settings.macros (macros_of target placement macros)
replaced_in settings (Priority target k) = line_if (λ s. s.line) settings.priority
replaced_in settings (Category target category) = line_if (λ s. s.line) settings.category
replaced_in settings (AbortDagOn target v status) = line_if (λ s. s.line) settings.abort
replaced_in settings _ = []

-- these numbers, each once, in the order in which they come first
abbrev pub with_numbers : List ℕ → List ℕ → List ℕ
with_numbers numbers [] = numbers
with_numbers numbers (n ∷ others) = with_numbers (if list_any (λ m. m == n) numbers then numbers else numbers ++ n ∷ []) others

abbrev pub each_once : List ℕ → List ℕ
each_once numbers = with_numbers [] numbers

-- the lines of a file that a line replaces, each once: node after node, the lines before it being these
abbrev pub replaced_lines : List ℕ → List Command → List Command → Command → List ℕ
replaced_lines prefix commands before c =
    each_once (flat_map (λ place. if is_for (job_names commands) (final_names commands) (setting_target c) place then replaced_in (settings_at prefix commands before place) c else [])
    (range_with_len 0 (length (node_names commands))))

-- The limits of categories so far: of two MAXJOBS of one category the later wins, at the place of the first.
abbrev pub with_limit : List CategoryLimit → CategoryLimit → List CategoryLimit
with_limit [] limit = limit ∷ []
with_limit (other ∷ limits) limit = if bytes_eq limit.name other.name then limit ∷ limits else other ∷ with_limit limits limit

-- what is known after some lines: the limits, and the notices of lines
pub record Warned : Type 0 where
  pub limits : List CategoryLimit
  pub notices : List Notice

-- what MAXJOBS says in the file of this path, whose names have this prefix
abbrev pub category_limit : List ℕ → List ℕ → PlacedText → ℕ → CategoryLimit
category_limit path prefix category n = record { name = full_category prefix category.text; limit = n; path = path; line = category.span.line }

abbrev pub line_of_limit : CategoryLimit → Place
line_of_limit limit = place limit.path limit.line

-- a limit takes the place of the one that its category has already
abbrev pub overridden_if : CategoryLimit → Option CategoryLimit → List Notice
overridden_if limit None = []
overridden_if limit (Some other) = overridden (line_of_limit other) (line_of_limit limit) ∷ []

abbrev pub replaced_limit : List CategoryLimit → CategoryLimit → List Notice
replaced_limit limits limit = overridden_if limit (find (λ other. bytes_eq limit.name other.name) limits)

-- a category has a limit, in place of the one that it had
abbrev pub warn_limit : Warned → CategoryLimit → Warned
warn_limit warned limit = record { limits = with_limit warned.limits limit; notices = with_notices warned.notices (replaced_limit warned.limits limit) }

-- the line of this target in the file of this path replaces the settings of these lines
abbrev pub replaced_settings : List ℕ → Option Target → List ℕ → List Notice
replaced_settings path None replaced = []
replaced_settings path (Some target) replaced = map (λ line. overridden (place path line) (place path (line_of_target target))) replaced

-- a line of the file of this path, whose names have this prefix, is noted: it replaces the settings of these lines
abbrev pub warn_line : List ℕ → List ℕ → Warned → Command → List ℕ → Warned
warn_line path prefix warned (MaxJobs category n) replaced = warn_limit warned (category_limit path prefix category n)
warn_line path prefix warned (Ignored span) replaced = record warned { notices = with_notice warned.notices (ignored (place path span.line)) }
warn_line path prefix warned c replaced = record warned { notices = with_notices warned.notices (replaced_settings path (setting_target c) replaced) }

-- some lines of such a file, which has these lines, are noted; the lines before them are these
abbrev pub warn_lines : List ℕ → List ℕ → List Command → List Command → Warned → List Command → Warned
warn_lines path prefix commands before warned [] = warned
warn_lines path prefix commands before warned (c ∷ cs) =
    warn_lines path prefix commands (before ++ c ∷ []) (warn_line path prefix warned c (replaced_lines prefix commands before c)) cs

-- all lines of a file are noted
abbrev pub warn_file : List ℕ → List ℕ → List Command → Warned → Warned
warn_file path prefix commands warned = warn_lines path prefix commands [] warned commands
