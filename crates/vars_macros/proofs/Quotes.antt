-- Groups that are not closed.
use Rattle.std.proofs.Common.{◌≡◌, ◌∙◌, ap, refl, ℕ, ◌<◌, Bool, true, false, List, [], ◌∷◌, length, arith, Ok, Err}
use Rattle.vars_macros.specs.Symbols.{gathered, is_quote_escape, old_symbol, old_symbols, is_pair, new_symbol, grouped_after, new_symbols}
use Rattle.vars_macros.specs.Gathered.{Gathering, word_closed}
use Rattle.vars_macros.specs.declared.words.Symbol.{Symbol}
use Rattle.vars_macros.specs.declared.fault.MacroFault.TheVariants.{BadQuote}

pub open_group : (g : Gathering) (paired grouped : Bool) (rest : List ℕ) → grouped ≡ true → length rest < 1 → gathered g (new_symbols paired grouped rest) ≡ Err BadQuote
unfolding gathered
open_group g paired true [] is short = refl
open_group g paired false [] is short = cc
open_group g paired grouped (b ∷ bs) is short = absurd (omega arith)

-- At the end the word that has begun is over.
pub old_over : (g : Gathering) (escaped : Bool) (rest : List ℕ) → length rest < 1 → gathered g (old_symbols escaped rest) ≡ Ok (word_closed g).words
unfolding gathered
old_over g escaped [] short = refl
old_over g escaped (b ∷ bs) short = absurd (omega arith)

pub new_over : (g : Gathering) (paired grouped : Bool) (rest : List ℕ) → grouped ≡ false → length rest < 1 → gathered g (new_symbols paired grouped rest) ≡ Ok (word_closed g).words
unfolding gathered
new_over g paired true [] is short = cc
new_over g paired false [] is short = refl
new_over g paired grouped (b ∷ bs) is short = absurd (omega arith)

-- The second byte of a pair is passed over, and another byte is taken.
pub old_skips : (g : Gathering) (escaped : Bool) (b : ℕ) (rest bs : List ℕ) → escaped ≡ true → rest ≡ b ∷ bs → gathered g (old_symbols escaped rest) ≡ gathered g (old_symbols false bs)
old_skips g escaped b rest bs is e = ap (λ (x : Bool). gathered g (old_symbols x rest)) is ∙ ap (λ (xs : List ℕ). gathered g (old_symbols true xs)) e

pub old_takes : (g h : Gathering) (escaped : Bool) (b : ℕ) (rest bs : List ℕ) → escaped ≡ false → rest ≡ b ∷ bs
    → ((more : List Symbol) → gathered g (old_symbol b bs ∷ more) ≡ gathered h more) → gathered g (old_symbols escaped rest) ≡ gathered h (old_symbols (is_quote_escape b bs) bs)
old_takes g h escaped b rest bs other e takes =
    ap (λ (x : Bool). gathered g (old_symbols x rest)) other ∙ ap (λ (xs : List ℕ). gathered g (old_symbols false xs)) e ∙ takes (old_symbols (is_quote_escape b bs) bs)

pub new_skips : (g : Gathering) (paired grouped : Bool) (b : ℕ) (rest bs : List ℕ) → paired ≡ true → rest ≡ b ∷ bs → gathered g (new_symbols paired grouped rest) ≡ gathered g (new_symbols false grouped bs)
new_skips g paired grouped b rest bs is e = ap (λ (x : Bool). gathered g (new_symbols x grouped rest)) is ∙ ap (λ (xs : List ℕ). gathered g (new_symbols true grouped xs)) e

pub new_takes : (g h : Gathering) (paired grouped : Bool) (b : ℕ) (rest bs : List ℕ) → paired ≡ false → rest ≡ b ∷ bs
    → ((more : List Symbol) → gathered g (new_symbol grouped b bs ∷ more) ≡ gathered h more)
    → gathered g (new_symbols paired grouped rest) ≡ gathered h (new_symbols (is_pair grouped b bs) (grouped_after grouped b bs) bs)
new_takes g h paired grouped b rest bs other e takes =
    ap (λ (x : Bool). gathered g (new_symbols x grouped rest)) other ∙ ap (λ (xs : List ℕ). gathered g (new_symbols false grouped xs)) e ∙ takes (new_symbols (is_pair grouped b bs) (grouped_after grouped b bs) bs)

-- What comes first in what is left.
pub old_first : (g : Gathering) (escaped : Bool) (b : ℕ) (rest bs : List ℕ) → escaped ≡ false → rest ≡ b ∷ bs → gathered g (old_symbols escaped rest) ≡ gathered g (old_symbol b bs ∷ old_symbols (is_quote_escape b bs) bs)
old_first g escaped b rest bs other e = ap (λ (x : Bool). gathered g (old_symbols x rest)) other ∙ ap (λ (xs : List ℕ). gathered g (old_symbols false xs)) e

pub new_first : (g : Gathering) (paired grouped : Bool) (b : ℕ) (rest bs : List ℕ) → paired ≡ false → rest ≡ b ∷ bs
    → gathered g (new_symbols paired grouped rest) ≡ gathered g (new_symbol grouped b bs ∷ new_symbols (is_pair grouped b bs) (grouped_after grouped b bs) bs)
new_first g paired grouped b rest bs other e = ap (λ (x : Bool). gathered g (new_symbols x grouped rest)) other ∙ ap (λ (xs : List ℕ). gathered g (new_symbols false grouped xs)) e
