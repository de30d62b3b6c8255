-- A command has nothing of what was before in the places of its words and numbers.
use Rattle.std.proofs.Common.{◌≡◌, Bool, true, false, not, ◌&&◌, pos, if◌then◌else◌, List, [], ◌∷◌, ◌++◌, Option, Some, None, Result, Ok, Err, refl, sym, ap, subst, ◌∙◌, codes}
use Rattle.dag_reader.specs.declared.span.Span.{Span}
use Rattle.dag_reader.specs.declared.fault.LineFault.{LineFault}
use Rattle.dag_reader.specs.declared.command.Command.{Command}
use Rattle.dag_reader.specs.declared.command.ScriptKind.TheVariants.{Pre}
use Rattle.dag_reader.specs.declared.layout.Field.{Field}
use Rattle.dag_reader.specs.declared.layout.Field.TheVariants.{Name, Node, SubmitFile, AnyWord, When, CategoryName, Count, Integer, NonZero, Folder, ExitValue, ExitStatus, Parent, Child, Argument}
use Rattle.dag_reader.specs.declared.layout.Bracket.{Bracket}
use Rattle.dag_reader.specs.declared.layout.Bracket.TheVariants.{Dir, NoOp, Done, UnlessExit, Return}
use Rattle.dag_reader.specs.declared.layout.LineKind.{LineKind}
use Rattle.dag_reader.specs.declared.layout.LineKind.TheVariants as kinds
use Rattle.dag_reader.specs.Word.{PlacedText}
use Rattle.dag_reader.specs.Results.{◌>>=◌}
use Rattle.dag_reader.specs.Keywords.{is_keyword}
use Rattle.dag_reader.specs.Numbers.{integer, count, at_least, nonzero}
use Rattle.dag_reader.specs.Layouts.{Ending, Brackets, Many, Children, Values, State, state, nothing, no_word, layout, bracket, bracket_of, opened, name_in, node_in, submit_file_in, category_in, script_kind_in, number_in, put, further, reading, command_of}
use Rattle.dag_reader.specs.Blanks.{begun, ReadsOnlyItsFields}
use Rattle.dag_reader.specs.declared.fault.ReadFault.{ReadFault}
use Rattle.dag_reader.specs.declared.fault.ReadFault.TheVariants as faults
use Rattle.dag_reader.specs.declared.layout.Layout.{Layout}
use Rattle.dag_reader.specs.LayoutViews.{HasRow, ending_of}
use Rattle.dag_reader.specs.Reading.{Fails}

-- the places of words and numbers that are filled
record Filled : Type 0 where
  name : Bool
  node : Bool
  file : Bool
  when : Bool
  count : Bool
  number : Bool

none : Filled
none = record { name = false; node = false; file = false; when = false; count = false; number = false }

-- the values with blanks in the others
abbrev only : Filled → Values → Values
only k v = record v {
  name = if k.name then v.name else no_word;
  node = if k.node then v.node else no_word;
  file = if k.file then v.file else no_word;
  when = if k.when then v.when else Pre;
  count = if k.count then v.count else 0;
  number = if k.number then v.number else pos 0;
}

abbrev fills : Field → Filled → Filled
fills Name k = record k { name = true }
fills Node k = record k { node = true }
fills SubmitFile k = record k { file = true }
fills AnyWord k = record k { file = true }
fills When k = record k { when = true }
fills CategoryName k = record k { name = true }
fills (Count least most) k = record k { count = true }
fills Integer k = record k { number = true }
fills NonZero k = record k { number = true }
fills field k = k

abbrev fill_all : List Field → Filled → Filled
fill_all [] k = k
fill_all (field ∷ fields) k = fill_all fields (fills field k)

-- the same fault, or the same values in the places that are filled
abbrev Alike : Filled → Result Values LineFault → Result Values LineFault → Type 0
Alike k (Ok u) (Ok v) = only k u ≡ only k v
Alike k (Err d) (Err e) = d ≡ e
Alike k (Ok u) (Err e) = ⊥
Alike k (Err d) (Ok v) = ⊥

put_both : {A : Type 0} (k : Filled) (r : Result A LineFault) (f g : A → Values) → ((x : A) → only k (f x) ≡ only k (g x)) → Alike k (r >>= λ x. Ok (f x)) (r >>= λ x. Ok (g x))
put_both k (Ok x) f g h = h x
put_both k (Err d) f g h = refl

put_alike : (field : Field) (w : PlacedText) (k : Filled) (u v : Values) → only k u ≡ only k v → Alike (fills field k) (put field w u) (put field w v)
unfolding put
put_alike Name w k u v h = put_both (fills Name k) (name_in w) _ _ (λ n. ap (λ (r : Values). record r { name = n }) h)
put_alike Node w k u v h = put_both (fills Node k) (node_in w) _ _ (λ n. ap (λ (r : Values). record r { node = n }) h)
put_alike SubmitFile w k u v h = put_both (fills SubmitFile k) (submit_file_in w) _ _ (λ n. ap (λ (r : Values). record r { file = n }) h)
put_alike AnyWord w k u v h = ap (λ (r : Values). record r { file = w }) h
put_alike When w k u v h = put_both (fills When k) (script_kind_in w) _ _ (λ n. ap (λ (r : Values). record r { when = n }) h)
put_alike CategoryName w k u v h = put_both (fills CategoryName k) (category_in w) _ _ (λ n. ap (λ (r : Values). record r { name = n }) h)
put_alike (Count least most) w k u v h = put_both (fills (Count least most) k) (number_in (at_least least (count most w.text)) w) _ _ (λ n. ap (λ (r : Values). record r { count = n }) h)
put_alike Integer w k u v h = put_both (fills Integer k) (number_in (integer w.text) w) _ _ (λ n. ap (λ (r : Values). record r { number = n }) h)
put_alike NonZero w k u v h = put_both (fills NonZero k) (number_in (nonzero (integer w.text)) w) _ _ (λ n. ap (λ (r : Values). record r { number = n }) h)
put_alike Folder w k u v h = ap (λ (r : Values). record r { dir = Some w }) h
put_alike ExitValue w k u v h = put_both k (number_in (integer w.text) w) _ _ (λ n. ap (λ (r : Values). record r { unless_exit = Some n }) h)
put_alike ExitStatus w k u v h = put_both k (number_in (count 255 w.text) w) _ _ (λ n. ap (λ (r : Values). record r { status = Some n }) h)
put_alike Parent w k u v h = put_both k (name_in w) _ _ (λ n. ap (λ (r : Values). record r { parents = r.parents ++ n ∷ [] }) h)
put_alike Child w k u v h = put_both k (name_in w) _ _ (λ n. ap (λ (r : Values). record r { words = r.words ++ n ∷ [] }) h)
put_alike Argument w k u v h = ap (λ (r : Values). record r { words = r.words ++ w ∷ [] }) h

-- Brackets fill none of them, and are taken whatever is there.
taken_only : (b : Bracket) (k : Filled) (v : Values) → (bracket b).taken v ≡ (bracket b).taken (only k v)
taken_only Dir k v = refl
taken_only b k v = refl

marked_alike : (b : Bracket) (k : Filled) (u v : Values) → only k u ≡ only k v → only k ((bracket b).marked u) ≡ only k ((bracket b).marked v)
marked_alike Dir k u v h = h
marked_alike NoOp k u v h = ap (λ (r : Values). record r { noop = true }) h
marked_alike Done k u v h = ap (λ (r : Values). record r { done = true }) h
marked_alike UnlessExit k u v h = h
marked_alike Return k u v h = h

bracket_fills : (b : Bracket) (k : Filled) → fill_all (bracket b).fields k ≡ k
bracket_fills Dir k = refl
bracket_fills b k = refl

found_alike : (brackets : List Bracket) (w : PlacedText) (k : Filled) (u v : Values) → only k u ≡ only k v → bracket_of brackets w u ≡ bracket_of brackets w v
found_alike [] w k u v h = refl
found_alike (b ∷ bs) w k u v h =
    let same : (bracket b).taken u ≡ (bracket b).taken v = taken_only b k u ∙ ap (bracket b).taken h ∙ sym (taken_only b k v) in
    ap (λ (t : Bool). if is_keyword (bracket b).keyword w && not t then Some b else bracket_of bs w u) same
    ∙ ap (λ (o : Option Bracket). if is_keyword (bracket b).keyword w && not ((bracket b).taken v) then Some b else o) (found_alike bs w k u v h)

-- What a word that may come any number of times fills is none of them.
abbrev IsSteady : Ending → Type 0
IsSteady (Brackets brackets) = Unit {0}
IsSteady (Many field) = (k : Filled) → fills field k ≡ k
IsSteady Children = Unit {0}

then_alike : (k all : Filled) (next : Values → State) (r s : Result Values LineFault) (ws : List PlacedText) (end : Span) → Alike k r s
    → ((x y : Values) → only k x ≡ only k y → Alike all (reading (next x) ws end) (reading (next y) ws end))
    → Alike all ((r >>= λ x. Ok (next x)) >>= λ t. reading t ws end) ((s >>= λ x. Ok (next x)) >>= λ t. reading t ws end)
then_alike k all next (Ok x) (Ok y) ws end a h = h x y a
then_alike k all next (Err d) (Err e) ws end a h = a
then_alike k all next (Ok x) (Err e) ws end a h = absurd a
then_alike k all next (Err d) (Ok y) ws end a h = absurd a

abbrev on : List PlacedText → Span → Result State LineFault → Result Values LineFault
on ws end r = r >>= λ next. reading next ws end

opened_alike : (o p : Option Bracket) (brackets : List Bracket) (w : PlacedText) (k : Filled) (u v : Values) (ws : List PlacedText) (end : Span) → o ≡ p
    → ((b : Bracket) → Alike k (reading (state (bracket b).fields (Brackets brackets) ((bracket b).marked u)) ws end) (reading (state (bracket b).fields (Brackets brackets) ((bracket b).marked v)) ws end))
    → Alike k (on ws end (opened o brackets w u)) (on ws end (opened p brackets w v))
opened_alike None p brackets w k u v ws end e h = subst (λ (q : Option Bracket). Alike k (on ws end (opened None brackets w u)) (on ws end (opened q brackets w v))) e refl
opened_alike (Some b) p brackets w k u v ws end e h = subst (λ (q : Option Bracket). Alike k (on ws end (opened (Some b) brackets w u)) (on ws end (opened q brackets w v))) e (h b)

either_alike : (b : Bool) (k : Filled) (r r' s s' : Result State LineFault) (ws : List PlacedText) (end : Span)
    → Alike k (on ws end r) (on ws end s) → Alike k (on ws end r') (on ws end s') → Alike k (on ws end (if b then r else r')) (on ws end (if b then s else s'))
either_alike true k r r' s s' ws end a c = a
either_alike false k r r' s s' ws end a c = c

alike : (fields : List Field) (ending : Ending) (ws : List PlacedText) (end : Span) (k : Filled) (u v : Values) → IsSteady ending → only k u ≡ only k v
    → Alike (fill_all fields k) (reading (state fields ending u) ws end) (reading (state fields ending v) ws end)
unfolding reading further
alike [] (Brackets brackets) [] end k u v steady h = h
alike [] (Many field) [] end k u v steady h = h
alike [] Children [] end k u v steady h = refl
alike (field ∷ fields) ending [] end k u v steady h = refl
alike (field ∷ fields) ending (w ∷ ws) end k u v steady h =
    then_alike (fills field k) (fill_all fields (fills field k)) (λ x. state fields ending x) (put field w u) (put field w v) ws end (put_alike field w k u v h)
    (λ x y same. alike fields ending ws end (fills field k) x y steady same)
alike [] (Brackets brackets) (w ∷ ws) end k u v steady h =
    opened_alike (bracket_of brackets w u) (bracket_of brackets w v) brackets w k u v ws end (found_alike brackets w k u v h)
    (λ b. subst (λ (q : Filled). Alike q (reading (state (bracket b).fields (Brackets brackets) ((bracket b).marked u)) ws end) (reading (state (bracket b).fields (Brackets brackets) ((bracket b).marked v)) ws end)) (bracket_fills b k)
    (alike (bracket b).fields (Brackets brackets) ws end k ((bracket b).marked u) ((bracket b).marked v) tt (marked_alike b k u v h)))
alike [] (Many field) (w ∷ ws) end k u v steady h =
    then_alike (fills field k) k (λ x. state [] (Many field) x) (put field w u) (put field w v) ws end (put_alike field w k u v h)
    (λ x y same. alike [] (Many field) ws end k x y steady (subst (λ (q : Filled). only q x ≡ only q y) (steady k) same))
alike [] Children (w ∷ ws) end k u v steady h =
    either_alike (is_keyword (codes "CHILD") w) k (Ok (state (Child ∷ []) (Many Child) u)) (put Parent w u >>= λ x. Ok (state [] Children x)) (Ok (state (Child ∷ []) (Many Child) v)) (put Parent w v >>= λ x. Ok (state [] Children x)) ws end
    (alike (Child ∷ []) (Many Child) ws end k u v (λ q. refl) h)
    (then_alike k k (λ x. state [] Children x) (put Parent w u) (put Parent w v) ws end (put_alike Parent w k u v h) (λ x y same. alike [] Children ws end k x y tt same))

-- A row's command reads what its fields fill.
command_same : (kind : LineKind) (u v : Values) → only (fill_all (layout kind).fields none) u ≡ only (fill_all (layout kind).fields none) v → (layout kind).command u ≡ (layout kind).command v
unfolding none
command_same kinds.Job u v h = ap (layout kinds.Job).command h
command_same kind u v h = ap (layout kind).command h

kind_steady : (kind : LineKind) → IsSteady (layout kind).ending
kind_steady kinds.Script = λ k. refl
kind_steady kind = tt

commands_same : (kind : LineKind) (r s : Result Values LineFault) → Alike (fill_all (layout kind).fields none) r s → (r >>= λ v. Ok ((layout kind).command v)) ≡ (s >>= λ v. Ok ((layout kind).command v))
commands_same kind (Ok u) (Ok v) a = ap (λ (c : Command). Ok c) (command_same kind u v a)
commands_same kind (Err d) (Err e) a = ap (λ (f : LineFault). Err f) a
commands_same kind (Ok u) (Err e) a = absurd a
commands_same kind (Err d) (Ok v) a = absurd a

nothing_filled : (before : Values) → only none (begun before) ≡ only none nothing
unfolding none
nothing_filled before = refl

pub reads_only_its_fields : ReadsOnlyItsFields
reads_only_its_fields kind before ws end =
    commands_same kind (reading (state (layout kind).fields (layout kind).ending (begun before)) ws end) (reading (state (layout kind).fields (layout kind).ending nothing) ws end)
    (alike (layout kind).fields (layout kind).ending ws end none (begun before) nothing (kind_steady kind) (nothing_filled before))

-- What reading by a row of the code gives, after what was there before.
by_row : (l : Layout) (before : Values) (ws : List PlacedText) (end : Span) → HasRow l
    → (reading (state l.fields.now (ending_of l.ending) (begun before)) ws end >>= λ v. Ok ((layout l.kind).command v)) ≡ command_of l.kind ws end
by_row l before ws end row =
    ap (λ (fs : List Field). reading (state fs (ending_of l.ending) (begun before)) ws end >>= λ v. Ok ((layout l.kind).command v)) row.fields
    ∙ ap (λ (e : Ending). reading (state (layout l.kind).fields e (begun before)) ws end >>= λ v. Ok ((layout l.kind).command v)) row.ending
    ∙ reads_only_its_fields l.kind before ws end

pub read_ok : (l : Layout) (before start v : Values) (ws : List PlacedText) (end : Span) → HasRow l → start ≡ begun before → reading (state l.fields.now (ending_of l.ending) start) ws end ≡ Ok v
    → command_of l.kind ws end ≡ Ok ((layout l.kind).command v)
read_ok l before start v ws end row begins e =
    sym (by_row l before ws end row) ∙ ap (λ (u : Values). reading (state l.fields.now (ending_of l.ending) u) ws end >>= λ x. Ok ((layout l.kind).command x)) (sym begins)
    ∙ ap (λ (r : Result Values LineFault). r >>= λ x. Ok ((layout l.kind).command x)) e

pub read_fails : (e : ReadFault) (l : Layout) (before start : Values) (ws : List PlacedText) (end : Span) → HasRow l → start ≡ begun before → Fails e (reading (state l.fields.now (ending_of l.ending) start) ws end)
    → Fails e (command_of l.kind ws end)
read_fails faults.Memory l before start ws end row begins e = tt
read_fails (faults.Line f) l before start ws end row begins e =
    sym (by_row l before ws end row) ∙ ap (λ (u : Values). reading (state l.fields.now (ending_of l.ending) u) ws end >>= λ x. Ok ((layout l.kind).command x)) (sym begins)
    ∙ ap (λ (r : Result Values LineFault). r >>= λ x. Ok ((layout l.kind).command x)) e
