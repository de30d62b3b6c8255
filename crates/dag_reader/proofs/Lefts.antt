-- The fault of a line is the first from the left.
use Rattle.std.proofs.Common.{◌≡◌, ℕ, ◌⊎◌, Bool, true, false, cond, nat_le, ◌&&◌, List, [], ◌∷◌, ◌++◌, Option, Some, None, Result, Ok, Err, refl, sym, ap, subst, ◌∙◌, inl, inr, ⊎_elim, codes, rules}
use Rattle.std.proofs.lemmas.Bool.{false≢true}
use Rattle.std.specs.List.{AllByRecursion}
use Rattle.dag_reader.specs.declared.span.Span.{Span}
use Rattle.dag_reader.specs.declared.fault.LineFault.{LineFault}
use Rattle.dag_reader.specs.declared.fault.LineFault.TheVariants.{MissingWord, UnexpectedWord, Unsupported, BadName, BadNumber}
use Rattle.dag_reader.specs.declared.command.Command.{Command}
use Rattle.dag_reader.specs.declared.command.ScriptKind.TheVariants.{Pre, Post}
use Rattle.dag_reader.specs.declared.layout.Field.{Field}
use Rattle.dag_reader.specs.declared.layout.Field.TheVariants.{Name, Node, SubmitFile, AnyWord, When, CategoryName, Count, Integer, NonZero, Folder, ExitValue, ExitStatus, Parent, Child, Argument}
use Rattle.dag_reader.specs.declared.layout.Bracket.{Bracket}
use Rattle.dag_reader.specs.declared.layout.Bracket.TheVariants.{Dir, NoOp, Done, UnlessExit, Return}
use Rattle.dag_reader.specs.declared.layout.LineKind.{LineKind}
use Rattle.dag_reader.specs.Word.{PlacedText, placed}
use Rattle.dag_reader.specs.Fault.{span_of}
use Rattle.dag_reader.specs.Results.{◌>>=◌}
use Rattle.dag_reader.specs.Keywords.{is_keyword, is_left_out_script, is_category, is_name, is_target, is_inline}
use Rattle.dag_reader.specs.Numbers.{integer, count, at_least, nonzero}
use Rattle.dag_reader.specs.Layouts.{Ending, Brackets, Many, Children, Values, State, state, nothing, layout, all_kinds, bracket, bracket_of, opened, name_in, node_in, submit_file_in, category_in, script_kind_in, number_in, put, further, step, step_at, may_stop, reading}
use Rattle.dag_reader.specs.Leftmost.{BeginCommand, IsLeftmost, FaultsAreLeftmost}
use Rattle.dag_reader.proofs.Parts.{bind_ok, chosen, found}

abbrev failed : {A : Type 0} → LineFault → Result A LineFault
failed f = Err f

-- A fault of a word is at the word.
abbrev AtWord : {A : Type 0} → PlacedText → Result A LineFault → Type 0
AtWord {A} w r = (f : LineFault) → r ≡ failed f → span_of f ≡ w.span

at_bind : {A B : Type 0} (w : PlacedText) (r : Result A LineFault) (k : A → B) → AtWord w r → AtWord w (r >>= λ x. Ok (k x))
at_bind w (Ok x) k at = λ f e. absurd cc
at_bind w (Err d) k at = λ f e. at f (let same : d ≡ f = cc in ap (λ (g : LineFault). Err g) same)

at_err : {A : Type 0} (w : PlacedText) (d : LineFault) → span_of d ≡ w.span → AtWord {A = A} w (Err d)
at_err {A} w d is = λ f e. let same : d ≡ f = cc in subst (λ (g : LineFault). span_of g ≡ w.span) same is

at_ok : {A : Type 0} (w : PlacedText) (x : A) → AtWord w (Ok x)
at_ok w x = λ f e. absurd cc

at_if : {A : Type 0} (w : PlacedText) (b : Bool) (r s : Result A LineFault) → AtWord w r → AtWord w s → AtWord w (cond b r s)
at_if w true r s a b = a
at_if w false r s a b = b

at_name : (w : PlacedText) → AtWord w (name_in w)
at_name w = at_if w (is_name w) (Ok w) (Err (BadName w.span)) (at_ok w w) (at_err w (BadName w.span) refl)

at_number : {A : Type 0} (o : Option A) (w : PlacedText) → AtWord w (number_in o w)
at_number None w = at_err w (BadNumber w.span) refl
at_number (Some n) w = at_ok w n

at_kind : (w : PlacedText) → AtWord w (script_kind_in w)
at_kind w =
    at_if w (is_keyword (codes "PRE") w) (Ok Pre) _ (at_ok w Pre)
    (at_if w (is_keyword (codes "POST") w) (Ok Post) _ (at_ok w Post)
    (at_if w (is_left_out_script w) (Err (Unsupported w.span)) (Err (UnexpectedWord w.span)) (at_err w (Unsupported w.span) refl) (at_err w (UnexpectedWord w.span) refl)))

put_at : (field : Field) (w : PlacedText) (v : Values) → AtWord w (put field w v)
unfolding put
put_at Name w v = at_bind w (name_in w) _ (at_name w)
put_at Node w v = at_bind w (node_in w) _ (at_if w (is_target w) (Ok w) (Err (BadName w.span)) (at_ok w w) (at_err w (BadName w.span) refl))
put_at SubmitFile w v = at_bind w (submit_file_in w) _ (at_if w (is_inline w) (Err (Unsupported w.span)) (Ok w) (at_err w (Unsupported w.span) refl) (at_ok w w))
put_at AnyWord w v = at_ok w _
put_at When w v = at_bind w (script_kind_in w) _ (at_kind w)
put_at CategoryName w v = at_bind w (category_in w) _ (at_if w (is_category w) (Ok w) (Err (BadName w.span)) (at_ok w w) (at_err w (BadName w.span) refl))
put_at (Count least most) w v = at_bind w (number_in (at_least least (count most w.text)) w) _ (at_number _ w)
put_at Integer w v = at_bind w (number_in (integer w.text) w) _ (at_number _ w)
put_at NonZero w v = at_bind w (number_in (nonzero (integer w.text)) w) _ (at_number _ w)
put_at Folder w v = at_ok w _
put_at ExitValue w v = at_bind w (number_in (integer w.text) w) _ (at_number _ w)
put_at ExitStatus w v = at_bind w (number_in (count 255 w.text) w) _ (at_number _ w)
put_at Parent w v = at_bind w (name_in w) _ (at_name w)
put_at Child w v = at_bind w (name_in w) _ (at_name w)
put_at Argument w v = at_ok w _

opened_at : (o : Option Bracket) (brackets : List Bracket) (w : PlacedText) (v : Values) → AtWord w (opened o brackets w v)
opened_at None brackets w v = at_err w (UnexpectedWord w.span) refl
opened_at (Some b) brackets w v = at_ok w _

further_at : (ending : Ending) (w : PlacedText) (v : Values) → AtWord w (further ending w v)
unfolding further
further_at (Brackets brackets) w v = opened_at (bracket_of brackets w v) brackets w v
further_at (Many field) w v = at_bind w (put field w v) _ (put_at field w v)
further_at Children w v = at_if w (is_keyword (codes "CHILD") w) (Ok (state (Child ∷ []) (Many Child) v)) _ (at_ok w _) (at_bind w (put Parent w v) _ (put_at Parent w v))

step_is_at : (fields : List Field) (ending : Ending) (w : PlacedText) (v : Values) → AtWord w (step_at fields ending w v)
step_is_at [] ending w v = further_at ending w v
step_is_at (field ∷ fields) ending w v = at_bind w (put field w v) _ (put_at field w v)

-- Each field is fit by a word, where its numbers have 1 among them.
abbrev takes_one : Field → Bool
takes_one Name = true
takes_one Node = true
takes_one SubmitFile = true
takes_one AnyWord = true
takes_one When = true
takes_one CategoryName = true
takes_one (Count least most) = nat_le least 1 && nat_le 1 most
takes_one Integer = true
takes_one NonZero = true
takes_one Folder = true
takes_one ExitValue = true
takes_one ExitStatus = true
takes_one Parent = true
takes_one Child = true
takes_one Argument = true

abbrev TakesOne : Field → Type 0
TakesOne field = takes_one field ≡ true

abbrev EndTakesOne : Ending → Type 0
EndTakesOne (Brackets brackets) = Unit {0}
EndTakesOne (Many field) = TakesOne field
EndTakesOne Children = Unit {0}

abbrev CanGoOn : State → Type 0
CanGoOn s = AllByRecursion TakesOne s.fields × EndTakesOne s.ending

word : List ℕ → PlacedText
word text = placed text (record { line = 0; start = 0; stop = 0 })

abbrev Fitted : Field → Values → Type 0
Fitted field v = (w : PlacedText) × (next : Values) × (put field w v ≡ Ok next)

both_true : (a b : Bool) → (a && b) ≡ true → (a ≡ true) × (b ≡ true)
both_true true b e = (refl, e)
both_true false b e = absurd (false≢true e)

one_counted : (least most : ℕ) → TakesOne (Count least most) → at_least least (count most (codes "1")) ≡ Some 1
unfolding integer
one_counted least most e = let p = both_true (nat_le least 1) (nat_le 1 most) e in let low = p.0 in let high = p.1 in rw high (rw low refl)

fitted : (field : Field) (v : Values) → TakesOne field → Fitted field v
unfolding put word is_name is_target is_inline is_category is_keyword integer
fitted Name v e = (word (codes "A"), _, refl)
fitted Node v e = (word (codes "A"), _, refl)
fitted SubmitFile v e = (word (codes "A"), _, refl)
fitted AnyWord v e = (word (codes "A"), _, refl)
fitted When v e = (word (codes "PRE"), _, refl)
fitted CategoryName v e = (word (codes "A"), _, refl)
fitted (Count least most) v e = (word (codes "1"), record v { count = 1 }, rw (one_counted least most e) refl)
fitted Integer v e = (word (codes "1"), _, refl)
fitted NonZero v e = (word (codes "1"), _, refl)
fitted Folder v e = (word (codes "A"), _, refl)
fitted ExitValue v e = (word (codes "1"), _, refl)
fitted ExitStatus v e = (word (codes "1"), _, refl)
fitted Parent v e = (word (codes "A"), _, refl)
fitted Child v e = (word (codes "A"), _, refl)
fitted Argument v e = (word (codes "A"), _, refl)

-- From each such state on a line can be completed.
abbrev nowhere : Span
nowhere = record { line = 0; start = 0; stop = 0 }

abbrev Begin : State → List PlacedText → Type 0
Begin s ws = (more : List PlacedText) × (end : Span) × (v : Values) × (reading s (ws ++ more) end ≡ Ok v)

abbrev on : List PlacedText → Span → Result State LineFault → Result Values LineFault
on ws end r = r >>= λ next. reading next ws end

one_word : (s next : State) (w : PlacedText) (ws : List PlacedText) (end : Span) → step s w ≡ Ok next → reading s (w ∷ ws) end ≡ reading next ws end
unfolding reading
one_word s next w ws end e = ap (on ws end) e

begin_more : (s next : State) (w : PlacedText) (ws : List PlacedText) → step s w ≡ Ok next → Begin next ws → Begin s (w ∷ ws)
begin_more s next w ws e (more, end, v, read) = (more, end, v, one_word s next w (ws ++ more) end e ∙ read)

completed : (fields : List Field) (ending : Ending) (v : Values) → AllByRecursion TakesOne fields → EndTakesOne ending → Begin (state fields ending v) []
unfolding reading further put word is_name is_keyword
completed [] (Brackets brackets) v all e = ([], nowhere, v, refl)
completed [] (Many field) v all e = ([], nowhere, v, refl)
completed [] Children v all e = (word (codes "CHILD") ∷ word (codes "A") ∷ [], nowhere, _, refl)
completed (field ∷ fields) ending v (here, all) e =
    let p = fitted field v here in
    let q = completed fields ending p.1 all e in
    let s = state (field ∷ fields) ending v in
    let stepped : step s p.0 ≡ Ok (state fields ending p.1) = ap (λ (r : Result Values LineFault). r >>= λ next. Ok (state fields ending next)) p.2 in
    (p.0 ∷ q.0, q.1, q.2, one_word s (state fields ending p.1) p.0 q.0 q.1 stepped ∙ q.3)

-- Each step leads to such a state.
bracket_goes_on : (b : Bracket) → AllByRecursion TakesOne (bracket b).fields
bracket_goes_on Dir = (refl, tt)
bracket_goes_on NoOp = tt
bracket_goes_on Done = tt
bracket_goes_on UnlessExit = (refl, tt)
bracket_goes_on Return = (refl, tt)

abbrev stated : State → Result State LineFault
stated s = Ok s

state_is : (a b : State) → stated a ≡ stated b → a ≡ b
state_is a b e = cc

opened_goes_on : (o : Option Bracket) (brackets : List Bracket) (w : PlacedText) (v : Values) (next : State) → opened o brackets w v ≡ Ok next → CanGoOn next
opened_goes_on None brackets w v next e = absurd cc
opened_goes_on (Some b) brackets w v next e = subst CanGoOn (state_is _ next e) (bracket_goes_on b, tt)

further_goes_on : (ending : Ending) (w : PlacedText) (v : Values) (next : State) → EndTakesOne ending → further ending w v ≡ Ok next → CanGoOn next
unfolding further
further_goes_on (Brackets brackets) w v next on_end e = opened_goes_on (bracket_of brackets w v) brackets w v next e
further_goes_on (Many field) w v next on_end e = let p = bind_ok (put field w v) _ next e in subst CanGoOn (state_is _ next p.2) (tt, on_end)
further_goes_on Children w v next on_end e =
    ⊎_elim
    (λ yes. subst CanGoOn (state_is _ next yes.1) ((refl, tt), refl))
    (λ no. let p = bind_ok (put Parent w v) _ next no.1 in subst CanGoOn (state_is _ next p.2) (tt, tt))
    (chosen (is_keyword (codes "CHILD") w) (stated (state (Child ∷ []) (Many Child) v)) (put Parent w v >>= λ next. Ok (state [] Children next)) (Ok next) e)

goes_on : (fields : List Field) (ending : Ending) (w : PlacedText) (v : Values) (next : State) → AllByRecursion TakesOne fields → EndTakesOne ending → step_at fields ending w v ≡ Ok next → CanGoOn next
goes_on [] ending w v next all on_end e = further_goes_on ending w v next on_end e
goes_on (field ∷ fields) ending w v next all on_end e = let p = bind_ok (put field w v) _ next e in subst CanGoOn (state_is _ next p.2) (all.1, on_end)

-- The law, of a state.
abbrev Left : State → List PlacedText → Span → LineFault → Type 0
Left s ws end f =
    ((f ≡ MissingWord end) × Begin s ws)
    ⊎ ((front : List PlacedText) × (w : PlacedText) × (back : List PlacedText) × (ws ≡ front ++ w ∷ back)
    × (span_of f ≡ w.span) × Begin s front × (Begin s (front ++ w ∷ []) → ⊥))

refused : (s : State) (w : PlacedText) (f : LineFault) → step s w ≡ Err f → Begin s (w ∷ []) → ⊥
unfolding reading
refused s w f e (more, end, v, read) = let bad : failed f ≡ Ok v = sym (ap (on more end) e) ∙ read in cc

no_word_before : (s next : State) (w : PlacedText) (ws : List PlacedText) → step s w ≡ Ok next → (Begin next ws → ⊥) → Begin s (w ∷ ws) → ⊥
no_word_before s next w ws e none (more, end, v, read) = none (more, end, v, sym (one_word s next w (ws ++ more) end e) ∙ read)

moved : (s next : State) (w : PlacedText) (ws : List PlacedText) (end : Span) (f : LineFault) → step s w ≡ Ok next → Left next ws end f → Left s (w ∷ ws) end f
moved s next w ws end f e (inl (missing, begins)) = inl (missing, begin_more s next w ws e begins)
moved s next w ws end f e (inr (front, bad, back, parts, at, begins, none)) =
    inr (w ∷ front, bad, back, ap (λ (xs : List PlacedText). w ∷ xs) parts, at, begin_more s next w front e begins, no_word_before s next w (front ++ bad ∷ []) e none)

fault_is : {A : Type 0} (a b : LineFault) → failed {A = A} a ≡ failed b → b ≡ a
fault_is {A} a b e = cc

stepped : (s : State) (w : PlacedText) (ws : List PlacedText) (end : Span) (f : LineFault) (r : Result State LineFault) → CanGoOn s → step s w ≡ r → on ws end r ≡ Err f
    → ((next : State) → CanGoOn next → reading next ws end ≡ Err f → Left next ws end f) → Left s (w ∷ ws) end f
stepped s w ws end f (Ok next) go e fails more = moved s next w ws end f e (more next (goes_on s.fields s.ending w s.values next go.0 go.1 e) fails)
stepped s w ws end f (Err d) go e fails more =
    let same : f ≡ d = fault_is {A = Values} d f fails in
    inr ([], w, ws, refl, step_is_at s.fields s.ending w s.values f (e ∙ ap (λ (g : LineFault). Err g) (sym same)), completed s.fields s.ending s.values go.0 go.1, refused s w d e)

left : (s : State) (ws : List PlacedText) (end : Span) (f : LineFault) → CanGoOn s → reading s ws end ≡ Err f → Left s ws end f
unfolding reading
left s [] end f go e =
    ⊎_elim
    (λ yes. absurd (let bad = yes.1 in cc))
    (λ no. inl (fault_is {A = Values} (MissingWord end) f no.1, completed s.fields s.ending s.values go.0 go.1))
    (chosen (may_stop s.fields s.ending) (Ok s.values) (failed (MissingWord end)) (Err f) e)
left s (w ∷ ws) end f go e = stepped s w ws end f (step s w) go refl e (λ next on fails. left next ws end f on fails)

abbrev start_of : LineKind → State
start_of kind = state (layout kind).fields (layout kind).ending nothing

abbrev KindGoesOn : LineKind → Type 0
KindGoesOn kind = CanGoOn (start_of kind)

kinds_go_on : AllByRecursion KindGoesOn all_kinds
kinds_go_on = search rules

failed_first : (kind : LineKind) (r : Result Values LineFault) (f : LineFault) → (r >>= λ v. Ok ((layout kind).command v)) ≡ Err f → r ≡ Err f
failed_first kind (Ok v) f e = absurd cc
failed_first kind (Err d) f e = ap (λ (g : LineFault). Err g) (sym (fault_is {A = Command} d f e))

begin_command : (kind : LineKind) (ws : List PlacedText) → Begin (start_of kind) ws → BeginCommand kind ws
begin_command kind ws (more, end, v, e) = (more, end, (layout kind).command v, ap (λ (r : Result Values LineFault). r >>= λ x. Ok ((layout kind).command x)) e)

begin_values : (kind : LineKind) (ws : List PlacedText) → BeginCommand kind ws → Begin (start_of kind) ws
begin_values kind ws (more, end, c, e) = let p = bind_ok (reading (start_of kind) (ws ++ more) end) _ c e in (more, end, p.0, p.1)

as_commands : (kind : LineKind) (ws : List PlacedText) (end : Span) (f : LineFault) → Left (start_of kind) ws end f → IsLeftmost kind ws end f
as_commands kind ws end f (inl (missing, begins)) = inl (missing, begin_command kind ws begins)
as_commands kind ws end f (inr (front, w, back, parts, at, begins, none)) =
    inr (front, w, back, parts, at, begin_command kind front begins, λ more. none (begin_values kind (front ++ w ∷ []) more))

pub leftmost : FaultsAreLeftmost
leftmost first kind ws end f is e =
    let go = (found KindGoesOn (λ x. is_keyword (layout x).keyword first) all_kinds kind kinds_go_on is).1 in
    as_commands kind ws end f (left (start_of kind) ws end f go (failed_first kind (reading (start_of kind) ws end) f e))
