-- Lesser numbers change an expansion in numbers alone.
use Rattle.std.proofs.Common.{◌≡◌, ◌∙◌, sym, ap, refl, subst, ℕ, zero, suc, ◌+◌, ◌≤◌, Bool, true, false, ◌||◌, ◌&&◌, cond, List, [], ◌∷◌, ◌++◌, map, length, arith, Option, Some, None, unwrap_or, is_none, codes, Ok, length-append}
use Rattle.vars_macros.specs.Names.{same_name, is_name_open, is_reference_name}
use Rattle.vars_macros.specs.Cut.{Piece, End, Plain, Reference, Bad, first_piece, reference_name, default_of}
use Rattle.vars_macros.specs.Meaning.{NodeMacros, MacroScope, scope_of, Meaning, Fixed, Value, stands_for, assigned_or, last_macro, is_launch_macro, is_process}
use Rattle.vars_macros.specs.Expansion.{Event, Wrote, Replaced, Refused, Expander, Expansion, expansion, room, events, events_within, piece_events, reference_events, meaning_events, value_events}
use Rattle.vars_macros.specs.Defined.{written_in, references_replaced, whole_in, NoneRefused, IsExpansion}
use Rattle.vars_macros.specs.Numbers.{DifferInNumbers, byte, IsNoLongerNumber, HasLesserNumbers, IsLesserExpansion}
use Rattle.vars_macros.specs.declared.assignment.Macro.{Macro}
use Rattle.vars_macros.specs.declared.expanding.Attempt.{Attempt}
use Rattle.vars_macros.specs.declared.fault.MacroFault.TheVariants.{Loop, BadReference}
use Rattle.vars_macros.proofs.Decimals.{decimal_no_longer}
use Rattle.vars_macros.proofs.Defined.{found, only}
use Rattle.vars_macros.proofs.DigitRuns.{same_text, joined, number_pair}
use Rattle.vars_macros.proofs.EventLists.{written_append, replaced_append, whole_append, lawful_parts, lawful_append, written_plain, replaced_plain, whole_plain, lawful_plain}

-- Scopes of two attempts of a node.
pub lesser_scope : (macros : NodeMacros) (small big : Attempt) → small.retry ≤ big.retry → small.launch ≤ big.launch → HasLesserNumbers (scope_of macros small) (scope_of macros big)
lesser_scope macros small big retry launch =
    record { assigned = refl; job = refl; retry = decimal_no_longer small.retry big.retry retry; launch = decimal_no_longer small.launch big.launch launch }

-- What is met is the same but for numbers, and no more is written.
record MeetsLesser (big small : List Event) : Type 0 where
  lawful : NoneRefused big → NoneRefused small
  written : DifferInNumbers (written_in big) (written_in small)
  no_longer : length (written_in small) ≤ length (written_in big)
  replaced : references_replaced small ≡ references_replaced big
  whole : whole_in small ≡ whole_in big

meets_same : (es : List Event) → MeetsLesser es es
meets_same es = record { lawful = λ h. h; written = same_text (written_in es); no_longer = omega arith; replaced = refl; whole = refl }

meets_byte : (b : ℕ) (es fs : List Event) → MeetsLesser es fs → MeetsLesser (Wrote b ∷ es) (Wrote b ∷ fs)
meets_byte b es fs h = record { lawful = h.lawful; written = byte b h.written; no_longer = omega (arith, h.no_longer); replaced = h.replaced; whole = h.whole }

meets_replaced : (whole : Bool) (es fs : List Event) → MeetsLesser es fs → MeetsLesser (Replaced whole ∷ es) (Replaced whole ∷ fs)
meets_replaced whole es fs h =
    record { lawful = h.lawful; written = h.written; no_longer = h.no_longer; replaced = ap (λ (n : ℕ). n + 1) h.replaced; whole = ap (λ (b : Bool). whole || b) h.whole }

meets_plain : (x y : List ℕ) → DifferInNumbers x y → length y ≤ length x → MeetsLesser (map Wrote x) (map Wrote y)
meets_plain x y h short = record {
  lawful = λ _. lawful_plain y;
  written = rw (written_plain x, written_plain y) h;
  no_longer = rw (written_plain x, written_plain y) short;
  replaced = replaced_plain y ∙ sym (replaced_plain x);
  whole = whole_plain y ∙ sym (whole_plain x);
}

meets_append : (es fs gs hs : List Event) → MeetsLesser es fs → MeetsLesser gs hs → MeetsLesser (es ++ gs) (fs ++ hs)
meets_append es fs gs hs p q = record {
  lawful = λ h. let parts = lawful_parts es gs h in lawful_append fs hs (p.lawful parts.0) (q.lawful parts.1);
  written = rw (written_append es gs, written_append fs hs) (joined p.written q.written);
  no_longer = rw (written_append es gs, written_append fs hs) (omega (arith, p.no_longer, q.no_longer, length-append (written_in es) (written_in gs), length-append (written_in fs) (written_in hs)));
  replaced = omega (arith, p.replaced, q.replaced, replaced_append es gs, replaced_append fs hs);
  whole = whole_append fs hs ∙ ap (λ (b : Bool). b || whole_in hs) p.whole ∙ ap (λ (b : Bool). whole_in es || b) q.whole ∙ sym (whole_append es gs);
}

-- Meanings that are the same but for numbers.
abbrev MeansLesser : Meaning → Meaning → Type 0
MeansLesser (Fixed whole x) (Fixed other y) = (other ≡ whole) × DifferInNumbers x y × (length y ≤ length x)
MeansLesser (Value vars x) (Value from y) = (from ≡ vars) × (y ≡ x)
MeansLesser (Fixed whole x) (Value from y) = ⊥
MeansLesser (Value vars x) (Fixed other y) = ⊥

means_same : (m : Meaning) → MeansLesser m m
means_same (Fixed whole x) = (refl, same_text x, omega arith)
means_same (Value vars x) = (refl, refl)

means_number : (whole : Bool) (small big : List ℕ) → IsNoLongerNumber small big → MeansLesser (Fixed whole big) (Fixed whole small)
means_number whole small big h = (refl, number_pair big small h.big_number h.small_number, h.no_longer)

-- a test chooses the same of both
pub both_chosen : {A : Type 0} (R : A → A → Type 0) (b : Bool) (x y u v : A) → R x u → R y v → R (cond b x y) (cond b u v)
both_chosen R true x y u v xu yv = xu
both_chosen R false x y u v xu yv = yv

assigned_lesser : (found : Option Macro) (m n : Meaning) → MeansLesser m n → MeansLesser (assigned_or found m) (assigned_or found n)
assigned_lesser None m n h = h
assigned_lesser (Some a) m n h = means_same (Value a.vars a.value)

-- Scopes in which each name stands for the same but for numbers.
abbrev StandsLesser : MacroScope → MacroScope → Type 0
StandsLesser s l = (vars : Bool) (name : List ℕ) (default : Option (List ℕ)) → MeansLesser (stands_for s vars name default) (stands_for l vars name default)

stands_lesser : (small big : MacroScope) → HasLesserNumbers small big → StandsLesser big small
unfolding stands_for
stands_lesser small big h vars name default =
    let job : MeansLesser (Fixed false big.job) (Fixed false big.job) = means_same (Fixed false big.job) in
    let retry = means_number false small.retry big.retry h.retry in
    rw (h.assigned, h.job)
    (both_chosen MeansLesser (is_launch_macro name) _ _ _ _ (means_number true small.launch big.launch h.launch)
    (both_chosen MeansLesser (is_process name) _ _ _ _ (means_same (Fixed false (codes "0")))
    (both_chosen MeansLesser (vars && (is_none default && same_name name (codes "JOB"))) _ _ _ _ job
    (both_chosen MeansLesser (vars && (is_none default && same_name name (codes "RETRY"))) _ _ _ _ retry
    (assigned_lesser (last_macro big.assigned name) _ _
    (both_chosen MeansLesser (same_name name (codes "JOB")) _ _ _ _ job
    (both_chosen MeansLesser (same_name name (codes "RETRY")) (Fixed false big.retry) (Value vars (unwrap_or default [])) (Fixed false small.retry) (Value vars (unwrap_or default []))
    retry (means_same (Value vars (unwrap_or default []))))))))))

-- Expanders that give the same but for numbers.
abbrev GivesLesser : Expander → Expander → Type 0
GivesLesser e f = (opened : List (List ℕ)) (vars : Bool) (t : List ℕ) → MeetsLesser (e opened vars t) (f opened vars t)

value_lesser : (e f : Expander) (opened : List (List ℕ)) (name : List ℕ) (vars : Bool) (text : List ℕ) (b : Bool) → GivesLesser e f →
    MeetsLesser (value_events e opened name vars text b) (value_events f opened name vars text b)
value_lesser e f opened name vars text true gives = meets_same (Refused Loop ∷ [])
value_lesser e f opened name vars text false gives = meets_replaced false (e (opened ++ name ∷ []) vars text) (f (opened ++ name ∷ []) vars text) (gives (opened ++ name ∷ []) vars text)

meaning_meets : (e f : Expander) (opened : List (List ℕ)) (name : List ℕ) (m n : Meaning) → GivesLesser e f → MeansLesser m n →
    MeetsLesser (meaning_events e opened name m) (meaning_events f opened name n)
meaning_meets e f opened name (Fixed whole x) (Fixed other y) gives h =
    subst (λ (b : Bool). MeetsLesser (Replaced whole ∷ map Wrote x) (Replaced b ∷ map Wrote y)) (sym h.0)
    (meets_replaced whole (map Wrote x) (map Wrote y) (meets_plain x y h.1 h.2))
meaning_meets e f opened name (Value vars x) (Value from y) gives h =
    subst (λ (b : Bool). MeetsLesser (value_events e opened name vars x (is_name_open opened name)) (value_events f opened name b y (is_name_open opened name))) (sym h.0)
    (subst (λ (t : List ℕ). MeetsLesser (value_events e opened name vars x (is_name_open opened name)) (value_events f opened name vars t (is_name_open opened name))) (sym h.1)
    (value_lesser e f opened name vars x (is_name_open opened name) gives))
meaning_meets e f opened name (Fixed whole x) (Value from y) gives h = absurd h
meaning_meets e f opened name (Value vars x) (Fixed other y) gives h = absurd h

reference_lesser : (e f : Expander) (s l : MacroScope) (opened : List (List ℕ)) (vars : Bool) (inside : List ℕ) → GivesLesser e f → StandsLesser s l →
    MeetsLesser (reference_events e s opened vars inside) (reference_events f l opened vars inside)
reference_lesser e f s l opened vars inside gives stands =
    both_chosen MeetsLesser (is_reference_name (reference_name inside)) _ _ _ _
    (meaning_meets e f opened (reference_name inside) (stands_for s vars (reference_name inside) (default_of inside)) (stands_for l vars (reference_name inside) (default_of inside)) gives
    (stands vars (reference_name inside) (default_of inside)))
    (meets_same (Refused BadReference ∷ []))

piece_lesser : (e f : Expander) (s l : MacroScope) (opened : List (List ℕ)) (vars : Bool) (p : Piece) → GivesLesser e f → StandsLesser s l →
    MeetsLesser (piece_events e s opened vars p) (piece_events f l opened vars p)
piece_lesser e f s l opened vars End gives stands = meets_same []
piece_lesser e f s l opened vars (Plain b rest) gives stands = meets_byte b (e opened vars rest) (f opened vars rest) (gives opened vars rest)
piece_lesser e f s l opened vars (Reference inside rest) gives stands =
    meets_append (reference_events e s opened vars inside) (reference_events f l opened vars inside) (e opened vars rest) (f opened vars rest)
    (reference_lesser e f s l opened vars inside gives stands) (gives opened vars rest)
piece_lesser e f s l opened vars (Bad fault) gives stands = meets_same (Refused fault ∷ [])

within_lesser : (cuts : ℕ) (s l : MacroScope) → StandsLesser s l → GivesLesser (events_within cuts s) (events_within cuts l)
within_lesser zero s l stands opened vars t = meets_same []
within_lesser (suc cuts) s l stands opened vars t =
    piece_lesser (events_within cuts s) (events_within cuts l) s l opened vars (first_piece t) (within_lesser cuts s l stands) stands

events_lesser : (small big : MacroScope) → HasLesserNumbers small big → (opened : List (List ℕ)) (vars : Bool) (t : List ℕ) → MeetsLesser (events big opened vars t) (events small opened vars t)
unfolding events
events_lesser small big h opened vars t =
    subst (λ (ms : List Macro). MeetsLesser (events_within (room big.assigned opened + length t) big opened vars t) (events_within (room ms opened + length t) small opened vars t)) (sym h.assigned)
    (within_lesser (room big.assigned opened + length t) big small (stands_lesser small big h) opened vars t)

pub lesser_expansion : (small big : MacroScope) → HasLesserNumbers small big → (vars : Bool) (t : List ℕ) (e : Expansion) → expansion big vars t ≡ Ok e →
    (lesser : Expansion) × (expansion small vars t ≡ Ok lesser) × IsLesserExpansion lesser e
lesser_expansion small big h vars t e is =
    let big_is = found big vars t e is in
    let meets = events_lesser small big h [] vars t in
    let f : Expansion = record { text = written_in (events small [] vars t); whole_run = whole_in (events small [] vars t) } in
    let no_longer : length (written_in (events small [] vars t)) ≤ length e.text = rw big_is.written meets.no_longer in
    let small_is : IsExpansion small vars t f =
    record { lawful = meets.lawful big_is.lawful; written = refl; short = omega (arith, no_longer, big_is.short); few = omega (arith, meets.replaced, big_is.few); whole = refl } in (
      f,
      only small vars t f small_is,
      record {
        text = subst (λ (x : List ℕ). DifferInNumbers x (written_in (events small [] vars t))) (sym big_is.written) meets.written;
        no_longer = no_longer;
        whole_run = meets.whole ∙ sym big_is.whole;
      },
    )
