-- One symbol is taken, and what that makes of the words.
use Rattle.std.proofs.Common.{◌≡◌, ◌∙◌, sym, ap, subst, refl, ℕ, Bool, true, false, not, cond, ◌||◌, ◌&&◌, ◌==◌, List, [], ◌∷◌, ◌++◌, Result, Ok, Err}
use Rattle.std.specs.Str.{IsUtf8}
use Rattle.vars_macros.specs.Answers.{Fails}
use Rattle.vars_macros.specs.Cut.{begins_with}
use Rattle.vars_macros.specs.ArgumentGrammar.{is_space_or_tab}
use Rattle.vars_macros.specs.Gathered.{Gathering, taken}
use Rattle.vars_macros.specs.declared.fault.MacroFault.{MacroFault}
use Rattle.vars_macros.specs.declared.fault.MacroFault.TheVariants.{Unclosed, Loop, TooLong, BadQuote, BadReference, Memory}
use Rattle.vars_macros.specs.declared.words.Symbol.{Symbol}
use Rattle.vars_macros.specs.declared.words.Symbol.TheVariants.{Letter, Mark, Gap, Broken}
use Rattle.vars_macros.specs.Symbols.{gathered, is_pair, new_symbol, grouped_after, is_quote_escape, old_symbol}
use Rattle.vars_macros.proofs.WordTexts.{MayTake, Leaves}

abbrev fine : Gathering → Result Gathering MacroFault
fine g = Ok g

ok_is : (g h : Gathering) → fine g ≡ fine h → g ≡ h
ok_is g h e = cc

pub takes : (g h : Gathering) (s : Symbol) → taken g s ≡ Ok h → (more : List Symbol) → gathered g (s ∷ more) ≡ gathered h more
unfolding gathered
takes g h (Letter b) e more = ap (λ (x : Gathering). gathered x more) (ok_is _ h e)
takes g h Mark e more = ap (λ (x : Gathering). gathered x more) (ok_is _ h e)
takes g h Gap e more = ap (λ (x : Gathering). gathered x more) (ok_is _ h e)
takes g h Broken e more = absurd cc

pub leaves : (g h : Gathering) (s : Symbol) → taken g s ≡ Ok h → MayTake s g.word → Leaves s g.word h.word
leaves g h (Letter b) e may = ap (λ (x : Gathering). x.word) (sym (ok_is _ h e))
leaves g h Mark e may = ap (λ (x : Gathering). x.word) (sym (ok_is _ h e))
leaves g h Gap e may = subst (λ (x : Gathering). IsUtf8 x.word) (ok_is _ h e) (by_begun g.begun)
  where
    by_begun : (t : Bool) → IsUtf8 (cond t (record { words = g.words ++ g.word ∷ []; word = []; begun = false }) g).word
    by_begun true = ([], (refl, refl))
    by_begun false = may
leaves g h Broken e may = absurd cc

stops : (g : Gathering) (s : Symbol) (fault : MacroFault) (more : List Symbol) → taken g s ≡ Err fault → gathered g (s ∷ more) ≡ Err fault
unfolding gathered
stops g (Letter b) fault more e = absurd cc
stops g Mark fault more e = absurd cc
stops g Gap fault more e = absurd cc
stops g Broken fault more e = let same : BadQuote ≡ fault = cc in ap (λ (x : MacroFault). Err x) same

pub fails : (fault : MacroFault) (g : Gathering) (s : Symbol) (more : List Symbol) (total : Result (List (List ℕ)) MacroFault) →
    gathered g (s ∷ more) ≡ total → Fails fault (taken g s) → Fails fault total
fails Memory g s more total so_far h = tt
fails Unclosed g s more total so_far h = sym so_far ∙ stops g s Unclosed more h
fails Loop g s more total so_far h = sym so_far ∙ stops g s Loop more h
fails TooLong g s more total so_far h = sym so_far ∙ stops g s TooLong more h
fails BadQuote g s more total so_far h = sym so_far ∙ stops g s BadQuote more h
fails BadReference g s more total so_far h = sym so_far ∙ stops g s BadReference more h

-- The symbols as the code finds them.
pub pair_so : (t grouped : Bool) (b : ℕ) (bs : List ℕ) → t ≡ ((b == 34 || (b == 39 && grouped)) && begins_with b bs) → t ≡ is_pair grouped b bs
unfolding is_pair
pair_so t grouped b bs h = h

pub new_so : (s : Symbol) (grouped : Bool) (b : ℕ) (bs : List ℕ) →
    s ≡ cond ((b == 34 || (b == 39 && grouped)) && begins_with b bs) (Letter b) (cond (b == 34) Broken (cond (b == 39) Mark (cond (is_space_or_tab b && not grouped) Gap (Letter b)))) →
    s ≡ new_symbol grouped b bs
unfolding is_pair new_symbol
new_so s grouped b bs h = h

pub grouped_so : (t grouped : Bool) (b : ℕ) (bs : List ℕ) →
    t ≡ cond (b == 39 && not ((b == 34 || (b == 39 && grouped)) && begins_with b bs)) (not grouped) grouped → t ≡ grouped_after grouped b bs
unfolding is_pair grouped_after
grouped_so t grouped b bs h = h

pub escape_so : (t : Bool) (b : ℕ) (bs : List ℕ) → t ≡ (b == 92 && begins_with 34 bs) → t ≡ is_quote_escape b bs
unfolding is_quote_escape
escape_so t b bs h = h

pub old_so : (s : Symbol) (b : ℕ) (bs : List ℕ) → s ≡ cond (b == 92 && begins_with 34 bs) (Letter 34) (cond (is_space_or_tab b) Gap (Letter b)) → s ≡ old_symbol b bs
unfolding is_quote_escape old_symbol
old_so s b bs h = h
