-- The lines that are commands: one row for each kind, and the reading of a line by its row.
use Rattle.std.specs.Prelude.{ℕ, ℤ, pos, Bool, true, false, not, ◌&&◌, List, [], ◌∷◌, ◌++◌, is_some, Option, Some, None, Result, Ok, Err, if◌then◌else◌, codes}
use Rattle.std.specs.List.{find}
use Rattle.dag_reader.specs.declared.span.Span.{Span}
use Rattle.dag_reader.specs.declared.fault.LineFault.{LineFault}
use Rattle.dag_reader.specs.declared.fault.LineFault.TheVariants.{Unsupported, MissingWord, UnexpectedWord, BadName, BadNumber}
use Rattle.dag_reader.specs.declared.command.Command.{Command}
use Rattle.dag_reader.specs.declared.command.Command.TheVariants as says
use Rattle.dag_reader.specs.declared.command.ScriptKind.{ScriptKind}
use Rattle.dag_reader.specs.declared.command.ScriptKind.TheVariants.{Pre, Post}
use Rattle.dag_reader.specs.declared.command.Target.{Target}
use Rattle.dag_reader.specs.declared.command.Target.TheVariants as targets
use Rattle.dag_reader.specs.declared.layout.Field.{Field}
use Rattle.dag_reader.specs.declared.layout.Field.TheVariants.{Name, Node, SubmitFile, AnyWord, When, CategoryName, Count, Integer, NonZero, Folder, ExitValue, ExitStatus, Parent, Child, Argument}
use Rattle.dag_reader.specs.declared.layout.Bracket.{Bracket}
use Rattle.dag_reader.specs.declared.layout.Bracket.TheVariants.{Dir, NoOp, Done, UnlessExit, Return}
use Rattle.dag_reader.specs.declared.layout.LineKind.{LineKind}
use Rattle.dag_reader.specs.declared.layout.LineKind.TheVariants as kinds
use Rattle.dag_reader.specs.Word.{PlacedText, placed}
use Rattle.dag_reader.specs.Keywords.{is_keyword, is_left_out_script, is_category, is_name, is_target, is_inline}
use Rattle.dag_reader.specs.Numbers.{integer, count, at_least, nonzero}
use Rattle.dag_reader.specs.Results.{◌>>=◌}

-- What may come after the words that a line wants: some of these, each once, in any order; any number of such words; or
-- any number of parents, CHILD, and one child or more.
pub data Ending : Type 0 where
  Brackets : List Bracket → Ending
  Many : Field → Ending
  Children : Ending

-- What the words of a line say, each in a place of its own.
pub record Values : Type 0 where
  pub name : PlacedText
  pub node : PlacedText
  pub file : PlacedText
  pub when : ScriptKind
  pub count : ℕ
  pub number : ℤ
  pub dir : Option PlacedText
  pub noop : Bool
  pub done : Bool
  pub unless_exit : Option ℤ
  pub status : Option ℕ
  pub parents : List PlacedText
  pub words : List PlacedText

-- A kind of line: its first word, the words that it wants after that, what may come after these, and what they say.
pub record Layout : Type 0 where
  pub keyword : List ℕ
  pub fields : List Field
  pub ending : Ending
  pub command : Values → Command

abbrev row : List ℕ → List Field → Ending → (Values → Command) → Layout
row keyword fields ending command = record { keyword = keyword; fields = fields; ending = ending; command = command }

-- what a word stands for, where a node or all nodes are wanted
abbrev pub target_of : PlacedText → Target
target_of w = if is_keyword (codes "ALL_NODES") w then targets.AllNodes w.span else targets.Node w

-- The table.
abbrev pub layout : LineKind → Layout
layout kinds.Job = row (codes "JOB") (Name ∷ SubmitFile ∷ []) (Brackets (Dir ∷ NoOp ∷ Done ∷ []))
    (λ v. says.Job v.name v.file v.dir v.noop v.done)
layout kinds.Parent = row (codes "PARENT") (Parent ∷ []) Children
    (λ v. says.ParentChild v.parents v.words)
layout kinds.Script = row (codes "SCRIPT") (When ∷ Node ∷ AnyWord ∷ []) (Many Argument)
    (λ v. says.Script v.when (target_of v.node) v.file v.words)
layout kinds.Retry = row (codes "RETRY") (Node ∷ Count 0 1000000 ∷ []) (Brackets (UnlessExit ∷ []))
    (λ v. says.Retry (target_of v.node) v.count v.unless_exit)
layout kinds.PreSkip = row (codes "PRE_SKIP") (Node ∷ NonZero ∷ []) (Brackets [])
    (λ v. says.PreSkip (target_of v.node) v.number)
layout kinds.Priority = row (codes "PRIORITY") (Node ∷ Integer ∷ []) (Brackets [])
    (λ v. says.Priority (target_of v.node) v.number)
layout kinds.Category = row (codes "CATEGORY") (Node ∷ CategoryName ∷ []) (Brackets [])
    (λ v. says.Category (target_of v.node) v.name)
layout kinds.MaxJobs = row (codes "MAXJOBS") (CategoryName ∷ Count 1 1000000 ∷ []) (Brackets [])
    (λ v. says.MaxJobs v.name v.count)
layout kinds.AbortDagOn = row (codes "ABORT-DAG-ON") (Node ∷ Integer ∷ []) (Brackets (Return ∷ []))
    (λ v. says.AbortDagOn (target_of v.node) v.number v.status)
layout kinds.Final = row (codes "FINAL") (Name ∷ SubmitFile ∷ []) (Brackets (Dir ∷ NoOp ∷ []))
    (λ v. says.Final v.name v.file v.dir v.noop)
layout kinds.Splice = row (codes "SPLICE") (Name ∷ AnyWord ∷ []) (Brackets (Dir ∷ []))
    (λ v. says.Splice v.name v.file v.dir)

abbrev pub all_kinds : List LineKind
all_kinds = kinds.Job ∷ kinds.Parent ∷ kinds.Script ∷ kinds.Retry ∷ kinds.PreSkip ∷ kinds.Priority
    ∷ kinds.Category ∷ kinds.MaxJobs ∷ kinds.AbortDagOn ∷ kinds.Final ∷ kinds.Splice ∷ []

-- the kind of line that begins with this word
abbrev pub line_kind : PlacedText → Option LineKind
line_kind first = find (λ kind. is_keyword (layout kind).keyword first) all_kinds

-- What may be in brackets: its keyword, the words that it wants after that, whether it is already in the line, and
-- what its keyword says by itself.
pub record BracketLayout : Type 0 where
  pub keyword : List ℕ
  pub fields : List Field
  pub taken : Values → Bool
  pub marked : Values → Values

abbrev bracket_row : List ℕ → List Field → (Values → Bool) → (Values → Values) → BracketLayout
bracket_row keyword fields taken marked = record { keyword = keyword; fields = fields; taken = taken; marked = marked }

-- The table of brackets.
abbrev pub bracket : Bracket → BracketLayout
bracket Dir = bracket_row (codes "DIR") (Folder ∷ []) (λ v. is_some v.dir) (λ v. v)
bracket NoOp = bracket_row (codes "NOOP") [] (λ v. v.noop) (λ v. record v { noop = true })
bracket Done = bracket_row (codes "DONE") [] (λ v. v.done) (λ v. record v { done = true })
bracket UnlessExit = bracket_row (codes "UNLESS-EXIT") (ExitValue ∷ []) (λ v. is_some v.unless_exit) (λ v. v)
bracket Return = bracket_row (codes "RETURN") (ExitStatus ∷ []) (λ v. is_some v.status) (λ v. v)

-- What a word says where the line wants one of this sort, or its fault.
abbrev pub name_in : PlacedText → Result PlacedText LineFault
name_in w = if is_name w then Ok w else Err (BadName w.span)

abbrev pub node_in : PlacedText → Result PlacedText LineFault
node_in w = if is_target w then Ok w else Err (BadName w.span)

abbrev pub submit_file_in : PlacedText → Result PlacedText LineFault
submit_file_in w = if is_inline w then Err (Unsupported w.span) else Ok w

abbrev pub category_in : PlacedText → Result PlacedText LineFault
category_in w = if is_category w then Ok w else Err (BadName w.span)

abbrev pub script_kind_in : PlacedText → Result ScriptKind LineFault
script_kind_in w =
    if is_keyword (codes "PRE") w then Ok Pre
    else if is_keyword (codes "POST") w then Ok Post
    else if is_left_out_script w then Err (Unsupported w.span)
    else Err (UnexpectedWord w.span)

abbrev pub number_in : {A : Type 0} → Option A → PlacedText → Result A LineFault
number_in None w = Err (BadNumber w.span)
number_in (Some n) w = Ok n

-- the values with that of this word, which has to be this field
unfoldable pub put : Field → PlacedText → Values → Result Values LineFault
put Name w v = name_in w >>= λ n. Ok (record v { name = n })
put Node w v = node_in w >>= λ n. Ok (record v { node = n })
put SubmitFile w v = submit_file_in w >>= λ f. Ok (record v { file = f })
put AnyWord w v = Ok (record v { file = w })
put When w v = script_kind_in w >>= λ kind. Ok (record v { when = kind })
put CategoryName w v = category_in w >>= λ n. Ok (record v { name = n })
put (Count least most) w v = number_in (at_least least (count most w.text)) w >>= λ n. Ok (record v { count = n })
put Integer w v = number_in (integer w.text) w >>= λ n. Ok (record v { number = n })
put NonZero w v = number_in (nonzero (integer w.text)) w >>= λ n. Ok (record v { number = n })
put Folder w v = Ok (record v { dir = Some w })
put ExitValue w v = number_in (integer w.text) w >>= λ n. Ok (record v { unless_exit = Some n })
put ExitStatus w v = number_in (count 255 w.text) w >>= λ n. Ok (record v { status = Some n })
put Parent w v = name_in w >>= λ n. Ok (record v { parents = v.parents ++ n ∷ [] })
put Child w v = name_in w >>= λ n. Ok (record v { words = v.words ++ n ∷ [] })
put Argument w v = Ok (record v { words = v.words ++ w ∷ [] })

-- How far a line is read: the words that it still wants, what may come after them, and what it says so far.
pub record State : Type 0 where
  pub fields : List Field
  pub ending : Ending
  pub values : Values

abbrev pub state : List Field → Ending → Values → State
state fields ending values = record { fields = fields; ending = ending; values = values }

-- A word where the line wants no more: a keyword of a bracket, or one of many words.
abbrev pub opened : Option Bracket → List Bracket → PlacedText → Values → Result State LineFault
opened None brackets w v = Err (UnexpectedWord w.span)
opened (Some b) brackets w v = Ok (state (bracket b).fields (Brackets brackets) ((bracket b).marked v))

abbrev pub bracket_of : List Bracket → PlacedText → Values → Option Bracket
bracket_of brackets w v = find (λ b. is_keyword (bracket b).keyword w && not ((bracket b).taken v)) brackets

unfoldable pub further : Ending → PlacedText → Values → Result State LineFault
further (Brackets brackets) w v = opened (bracket_of brackets w v) brackets w v
further (Many field) w v = put field w v >>= λ next. Ok (state [] (Many field) next)
further Children w v =
    if is_keyword (codes "CHILD") w then Ok (state (Child ∷ []) (Many Child) v)
    else (put Parent w v >>= λ next. Ok (state [] Children next))

-- The next word.
abbrev pub step_at : List Field → Ending → PlacedText → Values → Result State LineFault
step_at [] ending w v = further ending w v
step_at (field ∷ fields) ending w v = put field w v >>= λ next. Ok (state fields ending next)

abbrev pub step : State → PlacedText → Result State LineFault
step s w = step_at s.fields s.ending w s.values

-- the line may end
abbrev pub may_stop : List Field → Ending → Bool
may_stop [] (Brackets brackets) = true
may_stop [] (Many field) = true
may_stop [] Children = false
may_stop (field ∷ fields) ending = false

-- What the words say from here on, from left to right, or their fault. The line ends at `end`.
unfoldable pub reading : State → List PlacedText → Span → Result Values LineFault
reading s [] end = if may_stop s.fields s.ending then Ok s.values else Err (MissingWord end)
reading s (w ∷ ws) end = step s w >>= λ next. reading next ws end

-- nothing is said so far
abbrev pub no_word : PlacedText
no_word = placed [] (record { line = 0; start = 0; stop = 0 })

abbrev pub nothing : Values
nothing = record {
  name = no_word;
  node = no_word;
  file = no_word;
  when = Pre;
  count = 0;
  number = pos 0;
  dir = None;
  noop = false;
  done = false;
  unless_exit = None;
  status = None;
  parents = [];
  words = [];
}

-- what the words after the first say, or their fault
abbrev pub command_of : LineKind → List PlacedText → Span → Result Command LineFault
command_of kind ws end = reading (state (layout kind).fields (layout kind).ending nothing) ws end >>= λ v. Ok ((layout kind).command v)
