-- What is not known in a whole run alone doesn't depend on the launch.
use Rattle.std.proofs.Common.{◌≡◌, ◌∙◌, sym, ap, refl, ℕ, zero, suc, ◌+◌, Bool, true, false, List, [], ◌∷◌, ◌++◌, map, length, Option, Ok}
use Rattle.std.proofs.lemmas.Bool.{true≢false, or_parts}
use Rattle.vars_macros.specs.Names.{is_name_open, is_reference_name}
use Rattle.vars_macros.specs.Cut.{Piece, End, Plain, Reference, Bad, first_piece, reference_name, default_of}
use Rattle.vars_macros.specs.Meaning.{MacroScope, Meaning, Fixed, Value, stands_for, is_launch_macro}
use Rattle.vars_macros.specs.Expansion.{Event, Wrote, Replaced, Expander, Expansion, expansion, no_tally, counted, room, events, events_within, piece_events, reference_events, meaning_events, value_events}
use Rattle.vars_macros.specs.Defined.{whole_in}
use Rattle.vars_macros.proofs.Defined.{found}
use Rattle.vars_macros.proofs.EventLists.{whole_append}
use Rattle.vars_macros.proofs.Lesser.{both_chosen}

-- what is met is the same, or something of it is known in a whole run alone
abbrev MeetsKnown : List Event → List Event → Type 0
MeetsKnown es fs = whole_in es ≡ false → es ≡ fs

known_append : (es fs gs hs : List Event) → MeetsKnown es fs → MeetsKnown gs hs → MeetsKnown (es ++ gs) (fs ++ hs)
known_append es fs gs hs p q known =
    let parts = or_parts (whole_in es) (whole_in gs) (sym (whole_append es gs) ∙ known) in
    ap (λ (xs : List Event). xs ++ gs) (p parts.0) ∙ ap (λ (xs : List Event). fs ++ xs) (q parts.1)

-- a meaning that is known in a whole run alone
abbrev is_of_run : Meaning → Bool
is_of_run (Fixed whole text) = whole
is_of_run (Value vars text) = false

abbrev MeansKnown : Meaning → Meaning → Type 0
MeansKnown m n = is_of_run m ≡ false → m ≡ n

launch_stands : (s : MacroScope) (launch : List ℕ) (vars : Bool) (name : List ℕ) (default : Option (List ℕ)) →
    MeansKnown (stands_for s vars name default) (stands_for (record s { launch = launch }) vars name default)
unfolding stands_for
launch_stands s launch vars name default = both_chosen MeansKnown (is_launch_macro name) _ _ _ _ (λ known. absurd (true≢false known)) (λ known. refl)

-- expanders that give the same, but for what is known in a whole run alone
abbrev GivesKnown : Expander → Expander → Type 0
GivesKnown e f = (opened : List (List ℕ)) (vars : Bool) (t : List ℕ) → MeetsKnown (e opened vars t) (f opened vars t)

value_known : (e f : Expander) (opened : List (List ℕ)) (name : List ℕ) (vars : Bool) (text : List ℕ) (b : Bool) → GivesKnown e f →
    MeetsKnown (value_events e opened name vars text b) (value_events f opened name vars text b)
value_known e f opened name vars text true gives known = refl
value_known e f opened name vars text false gives known = ap (λ (xs : List Event). Replaced false ∷ xs) (gives (opened ++ name ∷ []) vars text known)

-- one meaning, expanded by both
same_meaning : (e f : Expander) (opened : List (List ℕ)) (name : List ℕ) (m : Meaning) → GivesKnown e f →
    MeetsKnown (meaning_events e opened name m) (meaning_events f opened name m)
same_meaning e f opened name (Fixed whole text) gives known = refl
same_meaning e f opened name (Value vars text) gives known = value_known e f opened name vars text (is_name_open opened name) gives known

of_run : (e : Expander) (opened : List (List ℕ)) (name : List ℕ) (m : Meaning) → whole_in (meaning_events e opened name m) ≡ false → is_of_run m ≡ false
of_run e opened name (Fixed whole text) known = (or_parts whole (whole_in (map Wrote text)) known).0
of_run e opened name (Value vars text) known = refl

meaning_known : (e f : Expander) (opened : List (List ℕ)) (name : List ℕ) (m n : Meaning) → GivesKnown e f → MeansKnown m n →
    MeetsKnown (meaning_events e opened name m) (meaning_events f opened name n)
meaning_known e f opened name m n gives means known =
    same_meaning e f opened name m gives known ∙ ap (meaning_events f opened name) (means (of_run e opened name m known))

reference_known : (e f : Expander) (s : MacroScope) (launch : List ℕ) (opened : List (List ℕ)) (vars : Bool) (inside : List ℕ) → GivesKnown e f →
    MeetsKnown (reference_events e s opened vars inside) (reference_events f (record s { launch = launch }) opened vars inside)
reference_known e f s launch opened vars inside gives =
    both_chosen MeetsKnown (is_reference_name (reference_name inside)) _ _ _ _
    (meaning_known e f opened (reference_name inside) (stands_for s vars (reference_name inside) (default_of inside)) (stands_for (record s { launch = launch }) vars (reference_name inside) (default_of inside)) gives
    (launch_stands s launch vars (reference_name inside) (default_of inside)))
    (λ known. refl)

piece_known : (e f : Expander) (s : MacroScope) (launch : List ℕ) (opened : List (List ℕ)) (vars : Bool) (p : Piece) → GivesKnown e f →
    MeetsKnown (piece_events e s opened vars p) (piece_events f (record s { launch = launch }) opened vars p)
piece_known e f s launch opened vars End gives known = refl
piece_known e f s launch opened vars (Plain b rest) gives known = ap (λ (xs : List Event). Wrote b ∷ xs) (gives opened vars rest known)
piece_known e f s launch opened vars (Reference inside rest) gives known =
    known_append (reference_events e s opened vars inside) (reference_events f (record s { launch = launch }) opened vars inside) (e opened vars rest) (f opened vars rest)
    (reference_known e f s launch opened vars inside gives) (gives opened vars rest) known
piece_known e f s launch opened vars (Bad fault) gives known = refl

within_known : (cuts : ℕ) (s : MacroScope) (launch : List ℕ) → GivesKnown (events_within cuts s) (events_within cuts (record s { launch = launch }))
within_known zero s launch opened vars t known = refl
within_known (suc cuts) s launch opened vars t known =
    piece_known (events_within cuts s) (events_within cuts (record s { launch = launch })) s launch opened vars (first_piece t) (within_known cuts s launch) known

events_known : (s : MacroScope) (launch : List ℕ) → GivesKnown (events s) (events (record s { launch = launch }))
unfolding events
events_known s launch opened vars t known = within_known (room s.assigned opened + length t) s launch opened vars t known

pub launch_unread : (s : MacroScope) (vars : Bool) (t : List ℕ) (e : Expansion) → expansion s vars t ≡ Ok e → e.whole_run ≡ false →
    (launch : List ℕ) → expansion (record s { launch = launch }) vars t ≡ Ok e
launch_unread s vars t e is known launch =
    let whole : whole_in (events s [] vars t) ≡ false = sym (found s vars t e is).whole ∙ known in
    ap (counted no_tally) (sym (events_known s launch [] vars t whole)) ∙ is
