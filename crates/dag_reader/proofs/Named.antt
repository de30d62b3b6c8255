-- A command that declares a node or a splice has its name from the second word of the line, which is a name.
use Rattle.std.proofs.Common.{◌≡◌, ℕ, ◌+◌, true, List, [], ◌∷◌, length, Option, Some, None, Result, Ok, Err, refl, sym, ap, subst, ◌∙◌, ⊎_elim, codes}
use Rattle.std.proofs.lemmas.List.Elements.{All-nil, All-cons, All-append}
use Rattle.std.specs.List.{All, AllByRecursion}
use Rattle.std.specs.Option.{option_to_list}
use Rattle.dag_reader.specs.declared.span.Span.{Span}
use Rattle.dag_reader.specs.declared.fault.LineFault.{LineFault}
use Rattle.dag_reader.specs.declared.fault.LineFault.TheVariants.{MissingWord, BadName}
use Rattle.dag_reader.specs.declared.command.Command.{Command}
use Rattle.dag_reader.specs.declared.command.Command.TheVariants as says
use Rattle.dag_reader.specs.declared.command.Command.TheVariants.{Ignored}
use Rattle.dag_reader.specs.declared.layout.Field.{Field}
use Rattle.dag_reader.specs.declared.layout.Field.TheVariants.{Name, Node, SubmitFile, AnyWord, When, CategoryName, Count, Integer, NonZero, Folder, ExitValue, ExitStatus, Parent, Child, Argument}
use Rattle.dag_reader.specs.declared.layout.Bracket.{Bracket}
use Rattle.dag_reader.specs.declared.layout.Bracket.TheVariants.{Dir, NoOp, Done, UnlessExit, Return}
use Rattle.dag_reader.specs.declared.layout.LineKind.{LineKind}
use Rattle.dag_reader.specs.declared.layout.LineKind.TheVariants as kinds
use Rattle.dag_reader.specs.Word.{PlacedText}
use Rattle.dag_reader.specs.Results.{◌>>=◌}
use Rattle.dag_reader.specs.Words.{words}
use Rattle.dag_reader.specs.LineReader.{Left}
use Rattle.dag_reader.specs.Lines.{ends_with_backslash}
use Rattle.dag_reader.specs.Keywords.{is_keyword, is_ignored, is_comment, is_name}
use Rattle.dag_reader.specs.Numbers.{integer, count}
use Rattle.dag_reader.specs.Layouts.{Ending, Brackets, Values, State, state, nothing, layout, line_kind, bracket, bracket_of, opened, name_in, submit_file_in, number_in, put, further, step_at, step, may_stop, reading, command_of, node_in}
use Rattle.dag_reader.specs.MacroReading.{behind, placement_ahead, macros_ahead}
use Rattle.dag_reader.specs.Reading.{some_macros, vars_of, first_fault, command_in, command_at, said_at, said_of, text_of, line_at, span}
use Rattle.dag_reader.specs.Grammar.{SayAll}
use Rattle.dag_reader.proofs.Parts.{bind_ok, chosen, guard_ok}
use Rattle.dag_reader.proofs.LineTexts.{IsText, text_ok}

abbrev given : Values → Result Values LineFault
given v = Ok v

values_are : (a b : Values) → given a ≡ given b → a ≡ b
values_are a b e = cc

abbrev stated : State → Result State LineFault
stated s = Ok s

state_is : (a b : State) → stated a ≡ stated b → a ≡ b
state_is a b e = cc

-- The fields that leave the name.
abbrev LeavesName : Field → Type 0
LeavesName SubmitFile = Unit {0}
LeavesName AnyWord = Unit {0}
LeavesName Folder = Unit {0}
LeavesName ExitValue = Unit {0}
LeavesName ExitStatus = Unit {0}
LeavesName field = ⊥

name_kept : {A : Type 0} (r : Result A LineFault) (k : A → Values) (n : PlacedText) (next : Values) → ((x : A) → (k x).name ≡ n) → (r >>= λ x. Ok (k x)) ≡ Ok next → next.name ≡ n
name_kept (Ok x) k n next is e = ap (λ (v : Values). v.name) (sym (values_are (k x) next e)) ∙ is x
name_kept (Err d) k n next is e = absurd cc

name_left : (field : Field) (w : PlacedText) (v next : Values) → LeavesName field → put field w v ≡ Ok next → next.name ≡ v.name
unfolding put
name_left SubmitFile w v next h e = name_kept (submit_file_in w) (λ x. record v { file = x }) v.name next (λ x. refl) e
name_left AnyWord w v next h e = ap (λ (x : Values). x.name) (sym (values_are (record v { file = w }) next e))
name_left Folder w v next h e = ap (λ (x : Values). x.name) (sym (values_are (record v { dir = Some w }) next e))
name_left ExitValue w v next h e = name_kept (number_in (integer w.text) w) (λ n. record v { unless_exit = Some n }) v.name next (λ x. refl) e
name_left ExitStatus w v next h e = name_kept (number_in (count 255 w.text) w) (λ n. record v { status = Some n }) v.name next (λ x. refl) e
name_left Name w v next h e = absurd h
name_left Node w v next h e = absurd h
name_left When w v next h e = absurd h
name_left CategoryName w v next h e = absurd h
name_left (Count least most) w v next h e = absurd h
name_left Integer w v next h e = absurd h
name_left NonZero w v next h e = absurd h
name_left Parent w v next h e = absurd h
name_left Child w v next h e = absurd h
name_left Argument w v next h e = absurd h

bracket_leaves : (b : Bracket) → AllByRecursion LeavesName (bracket b).fields
bracket_leaves Dir = (tt, tt)
bracket_leaves NoOp = tt
bracket_leaves Done = tt
bracket_leaves UnlessExit = (tt, tt)
bracket_leaves Return = (tt, tt)

mark_leaves : (b : Bracket) (v : Values) → ((bracket b).marked v).name ≡ v.name
mark_leaves Dir v = refl
mark_leaves NoOp v = refl
mark_leaves Done v = refl
mark_leaves UnlessExit v = refl
mark_leaves Return v = refl

-- a state of a line of brackets, in which this is the name
abbrev Keeps : PlacedText → List Bracket → State → Type 0
Keeps name brackets s = AllByRecursion LeavesName s.fields × (s.ending ≡ Brackets brackets) × (s.values.name ≡ name)

opened_keeps : (o : Option Bracket) (brackets : List Bracket) (w name : PlacedText) (v : Values) (next : State) → v.name ≡ name → opened o brackets w v ≡ Ok next → Keeps name brackets next
opened_keeps None brackets w name v next is e = absurd cc
opened_keeps (Some b) brackets w name v next is e = subst (Keeps name brackets) (state_is _ next e) (bracket_leaves b, refl, mark_leaves b v ∙ is)

step_keeps : (fields : List Field) (brackets : List Bracket) (w name : PlacedText) (v : Values) (next : State) → AllByRecursion LeavesName fields → v.name ≡ name → step_at fields (Brackets brackets) w v ≡ Ok next → Keeps name brackets next
unfolding further
step_keeps [] brackets w name v next all is e = opened_keeps (bracket_of brackets w v) brackets w name v next is e
step_keeps (field ∷ fields) brackets w name v next all is e =
    let p = bind_ok (put field w v) _ next e in
    subst (Keeps name brackets) (state_is _ next p.2) (all.1, refl, name_left field w v p.0 all.0 p.1 ∙ is)

kept : (s : State) (brackets : List Bracket) (name : PlacedText) (ws : List PlacedText) (end : Span) (v : Values) → Keeps name brackets s → reading s ws end ≡ Ok v → v.name ≡ name
unfolding reading
kept s brackets name [] end v k e =
    ⊎_elim
    (λ yes. ap (λ (x : Values). x.name) (sym (values_are s.values v yes.1)) ∙ k.2)
    (λ no. absurd (let bad = no.1 in cc))
    (chosen (may_stop s.fields s.ending) (given s.values) (Err (MissingWord end)) (Ok v) e)
kept s brackets name (w ∷ ws) end v k e =
    let p = bind_ok (step s w) _ v e in
    let same : step_at s.fields (Brackets brackets) w s.values ≡ Ok p.0 = ap (λ (x : Ending). step_at s.fields x w s.values) (sym k.1) ∙ p.1 in
    kept p.0 brackets name ws end v (step_keeps s.fields brackets w name s.values p.0 k.0 k.2 same) p.2

-- The words that say this name first.
abbrev pub FirstIs : PlacedText → List PlacedText → Type 0
FirstIs name ws = (more : List PlacedText) × (ws ≡ name ∷ more) × (is_name name ≡ true)

name_first : (field : Field) (brackets : List Bracket) (ws : List PlacedText) (end : Span) (v : Values) → LeavesName field → reading (state (Name ∷ field ∷ []) (Brackets brackets) nothing) ws end ≡ Ok v → FirstIs v.name ws
unfolding reading put
name_first field brackets [] end v leaves e = absurd cc
name_first field brackets (w ∷ ws) end v leaves e =
    let start = state (Name ∷ field ∷ []) (Brackets brackets) nothing in
    let p = bind_ok (step start w) _ v e in
    let q = bind_ok (put Name w nothing) _ p.0 p.1 in
    let r = bind_ok (name_in w) _ q.0 q.1 in
    let g = guard_ok (is_name w) (BadName w.span) w r.0 r.1 in
    let next : state (field ∷ []) (Brackets brackets) (record nothing { name = w }) ≡ p.0 =
    ap (λ (n : PlacedText). state (field ∷ []) (Brackets brackets) (record nothing { name = n })) g.1 ∙ ap (λ (x : Values). state (field ∷ []) (Brackets brackets) x) (values_are _ q.0 r.2) ∙ state_is _ p.0 q.2 in
    let same : v.name ≡ w = kept p.0 brackets w ws end v (subst (Keeps w brackets) next ((leaves, tt), refl, refl)) p.2 in
    subst (λ (n : PlacedText). FirstIs n (w ∷ ws)) (sym same) (ws, refl, g.0)

-- The name that a command declares is the first of these words.
abbrev pub Declares : Command → List PlacedText → Type 0
Declares (says.Job name file dir noop done) ws = FirstIs name ws
Declares (says.Splice name file dir) ws = FirstIs name ws
Declares (says.Final name file dir noop) ws = FirstIs name ws
Declares c ws = Unit {0}

kind_declares : (kind : LineKind) (ws : List PlacedText) (end : Span) (v : Values) → reading (state (layout kind).fields (layout kind).ending nothing) ws end ≡ Ok v → Declares ((layout kind).command v) ws
kind_declares kinds.Job ws end v e = name_first SubmitFile (Dir ∷ NoOp ∷ Done ∷ []) ws end v tt e
kind_declares kinds.Final ws end v e = name_first SubmitFile (Dir ∷ NoOp ∷ []) ws end v tt e
kind_declares kinds.Splice ws end v e = name_first AnyWord (Dir ∷ []) ws end v tt e
kind_declares kind ws end v e = tt

abbrev got : Command → Result Command LineFault
got c = Ok c

command_is : (a b : Command) → got a ≡ got b → a ≡ b
command_is a b e = cc

command_declares : (kind : LineKind) (ws : List PlacedText) (end : Span) (c : Command) → command_of kind ws end ≡ Ok c → Declares c ws
command_declares kind ws end c e =
    let p = bind_ok (reading (state (layout kind).fields (layout kind).ending nothing) ws end) _ c e in
    subst (λ (x : Command). Declares x ws) (command_is _ c p.2) (kind_declares kind ws end p.0 p.1)

vars_declares : (bytes : List ℕ) (ws : List PlacedText) (end : Span) (c : Command) → vars_of bytes ws end ≡ Ok c → Declares c ws
unfolding vars_of
vars_declares bytes [] end c e = absurd cc
vars_declares bytes (w ∷ ws) end c e =
    let p = bind_ok (node_in w) _ c e in
    let q = bind_ok (macros_ahead (placement_ahead (behind p.0.span bytes)).1) _ c p.2 in
    let r = bind_ok (some_macros q.0 end) _ c q.2 in
    subst (λ (x : Command). Declares x (w ∷ ws)) (command_is _ c r.2) tt

in_declares : (o : Option LineKind) (bytes : List ℕ) (first : PlacedText) (left : Left) (c : Command) → command_in o bytes first left ≡ Ok c → Declares c left.words
in_declares (Some kind) bytes first left c e = command_declares kind left.words left.end c e
in_declares None bytes first left c e =
    ⊎_elim
    (λ yes. vars_declares bytes left.words left.end c yes.1)
    (λ no. absurd (let bad = no.1 in cc))
    (chosen (is_keyword (codes "VARS") first) (vars_of bytes left.words left.end) (Err (first_fault first)) (Ok c) e)

at_declares : (bytes : List ℕ) (first : PlacedText) (left : Left) (c : Command) → command_at bytes first left ≡ Ok c → Declares c left.words
unfolding command_at
at_declares bytes first left c e =
    ⊎_elim
    (λ yes. subst (λ (x : Command). Declares x left.words) (command_is _ c yes.1) tt)
    (λ no. in_declares (line_kind first) bytes first left c no.1)
    (chosen (is_ignored first) (Ok (Ignored first.span)) (command_in (line_kind first) bytes first left) (Ok c) e)

-- The line that says a command is a text, and its words say the name.
abbrev pub IsDeclared : Command → Type 0
IsDeclared c = (number : ℕ) × (line : List ℕ) × (first : PlacedText) × (ws : List PlacedText)
    × IsText line × (words number 0 line ≡ first ∷ ws) × Declares c ws

abbrev said : Option Command → Result (Option Command) LineFault
said o = Ok o

none_is_some : (c : Command) → said None ≡ said (Some c) → ⊥
none_is_some c e = cc

some_is : (c d : Command) → said (Some c) ≡ said (Some d) → c ≡ d
some_is c d e = cc

words_declare : (number : ℕ) (line : List ℕ) (ws : List PlacedText) (end : Span) (c : Command) → IsText line → words number 0 line ≡ ws → said_of line ws end ≡ Ok (Some c) → IsDeclared c
unfolding said_at
words_declare number line [] end c text is e = absurd (none_is_some c e)
words_declare number line (first ∷ ws) end c text is e =
    ⊎_elim
    (λ silent. absurd (none_is_some c silent.1))
    (λ loud. ⊎_elim
    (λ slash. absurd (let bad = slash.1 in cc))
    (λ whole.
    let p = bind_ok (command_at line first (record { words = ws; end = end })) _ (Some c) whole.1 in
    (number, line, first, ws, text, is, subst (λ (x : Command). Declares x ws) (some_is p.0 c p.2) (at_declares line first (record { words = ws; end = end }) p.0 p.1)))
    (chosen (ends_with_backslash line) _ _ (Ok (Some c)) loud.1))
    (chosen (is_comment first) _ _ (Ok (Some c)) e)

line_declares : (number : ℕ) (line : List ℕ) (c : Command) → line_at number line ≡ Ok (Some c) → IsDeclared c
unfolding line_at
line_declares number line c e =
    let p = bind_ok (text_of number line) _ (Some c) e in
    let t = text_ok number line p.0 p.1 in
    words_declare number line (words number 0 line) (span number (length line) (length line)) c t.1 refl
    (ap (λ (b : List ℕ). said_of b (words number 0 b) (span number (length b) (length b))) t.0 ∙ p.2)

one_declared : (number : ℕ) (line : List ℕ) (o : Option Command) → line_at number line ≡ Ok o → All IsDeclared (option_to_list o)
one_declared number line None e = All-nil IsDeclared
one_declared number line (Some c) e = All-cons IsDeclared c [] (line_declares number line c e) (All-nil IsDeclared)

pub each_declared : (number : ℕ) (ls : List (List ℕ)) (cs : List Command) → SayAll number ls cs → All IsDeclared cs
each_declared number [] cs none = subst (All IsDeclared) (sym none) (All-nil IsDeclared)
each_declared number (line ∷ more) cs (first, others, one, all, is) =
    subst (All IsDeclared) (sym is) (All-append IsDeclared (option_to_list first) others (one_declared number line first one) (each_declared (number + 1) more others all))
