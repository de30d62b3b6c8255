-- The code's rows are the table's, and what a pass by one of them reads.
use Rattle.std.proofs.Common.{◌≡◌, Bool, true, false, cond, if◌then◌else◌, List, [], ◌∷◌, map, Option, Some, None, IfSome, Result, Ok, Err, refl, sym, ap, ◌∙◌, Bor}
use Rattle.std.specs.List.{find, AllByRecursion}
use Rattle.std.specs.Option.{option_map}
use Rattle.dag_reader.specs.declared.layout.Layout.{Layout}
use Rattle.dag_reader.specs.declared.layout.LineKind.{LineKind}
use Rattle.dag_reader.specs.Word.{PlacedText}
use Rattle.dag_reader.specs.Keywords.{is_keyword}
use Rattle.dag_reader.specs.Layouts.{layout, Values, State, step, may_stop, reading}
use Rattle.dag_reader.specs.LayoutViews.{HasRow}
use Rattle.dag_reader.specs.LineReader.{Left}
use Rattle.dag_reader.specs.Results.{◌>>=◌}
use Rattle.dag_reader.specs.Reading.{Fails}
use Rattle.dag_reader.specs.declared.fault.LineFault.{LineFault}
use Rattle.dag_reader.specs.declared.fault.LineFault.TheVariants.{MissingWord}
use Rattle.dag_reader.specs.declared.fault.ReadFault.{ReadFault}
use Rattle.dag_reader.specs.declared.fault.ReadFault.TheVariants as faults

abbrev kind_of : Layout → LineKind
kind_of l = l.kind

push : {A B : Type 0} (k : A → B) (b : Bool) (x : A) (o : Option A) (p : Option B) → option_map k o ≡ p → option_map k (cond b (Some x) o) ≡ cond b (Some (k x)) p
push k true x o p e = refl
push k false x o p e = e

found_kind : (w : PlacedText) (ls : List Layout) → AllByRecursion HasRow ls
    → option_map kind_of (find (λ l. is_keyword l.keyword.now w) ls) ≡ find (λ kind. is_keyword (layout kind).keyword w) (map kind_of ls)
found_kind w [] all = refl
found_kind w (l ∷ ls) (row, rows) =
    let more = find (λ kind. is_keyword (layout kind).keyword w) (map kind_of ls) in
    push kind_of (is_keyword l.keyword.now w) l (find (λ l. is_keyword l.keyword.now w) ls) more (found_kind w ls rows)
    ∙ ap (λ k. cond (is_keyword k w) (Some (kind_of l)) more) row.keyword

through : (o : Option (Bor Layout)) → option_map (λ l. l.now.kind) o ≡ option_map kind_of (option_map (λ l. l.now) o)
through None = refl
through (Some l) = refl

pub kind_found : (w : PlacedText) (ls : List Layout) (o : Option (Bor Layout)) → option_map (λ l. l.now) o ≡ find (λ l. is_keyword l.keyword.now w) ls → AllByRecursion HasRow ls
    → option_map (λ l. l.now.kind) o ≡ find (λ kind. is_keyword (layout kind).keyword w) (map kind_of ls)
kind_found w ls o e all = through o ∙ ap (λ (x : Option Layout). option_map kind_of x) e ∙ found_kind w ls all

branch : (b : Bool) (l : Layout) (o : Option Layout) → HasRow l → IfSome o HasRow → IfSome (cond b (Some l) o) HasRow
branch true l o row more = row
branch false l o row more = more

found_row : (p : Layout → Bool) (ls : List Layout) → AllByRecursion HasRow ls → IfSome (find p ls) HasRow
found_row p [] all = tt
found_row p (l ∷ ls) (row, rows) = branch (p l) l (find p ls) row (found_row p ls rows)

behind : (o : Option (Bor Layout)) → IfSome (option_map (λ l. l.now) o) HasRow → IfSome o (λ l. HasRow l.now)
behind None h = tt
behind (Some l) h = h

pub row_found : (p : Layout → Bool) (ls : List Layout) (o : Option (Bor Layout)) → option_map (λ l. l.now) o ≡ find p ls → AllByRecursion HasRow ls → IfSome o (λ l. HasRow l.now)
row_found p ls o e all = behind o (rw e (found_row p ls all))

-- The steps of a pass.
-- w was taken from old, and new is left
abbrev pub Took : PlacedText → Left → Left → Type 0
Took w old new = old ≡ record new { words = w ∷ new.words }

-- what the rest of a line says, after a step that gave this
abbrev pub rest_of : Left → Result State LineFault → Result Values LineFault
rest_of left r = r >>= λ next. reading next left.words left.end

reads_word : (s : State) (w : PlacedText) (old new : Left) → Took w old new → reading s old.words old.end ≡ rest_of new (step s w)
unfolding reading
reads_word s w old new took = ap (λ (left : Left). reading s left.words left.end) took

pub word_read : (s next : State) (w : PlacedText) (old new : Left) (read : Result Values LineFault) → Took w old new → step s w ≡ Ok next
    → reading s old.words old.end ≡ read → reading next new.words new.end ≡ read
word_read s next w old new read took stepped e = sym (reads_word s w old new took ∙ ap (rest_of new) stepped) ∙ e

pub word_refused : (e : ReadFault) (s : State) (w : PlacedText) (old new : Left) (read : Result Values LineFault) → Took w old new → Fails e (step s w)
    → reading s old.words old.end ≡ read → Fails e read
word_refused faults.Memory s w old new read took failed e = tt
word_refused (faults.Line f) s w old new read took failed e = sym e ∙ reads_word s w old new took ∙ ap (rest_of new) failed

pub end_read : (s : State) (left : Left) → left.words ≡ [] → reading s left.words left.end ≡ (if may_stop s.fields s.ending then Ok s.values else Err (MissingWord left.end))
unfolding reading
end_read s left e = rw e refl
