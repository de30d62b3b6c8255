-- Words that are gathered symbol by symbol, as the code has them.
use Rattle.std.specs.Prelude.{ℕ, Bool, true, false, List, [], ◌∷◌, ◌++◌, Result, Ok, Err, if◌then◌else◌}
use Rattle.vars_macros.specs.declared.fault.MacroFault.{MacroFault}
use Rattle.vars_macros.specs.declared.fault.MacroFault.TheVariants.{BadQuote}
use Rattle.vars_macros.specs.declared.words.Symbol.{Symbol}
use Rattle.vars_macros.specs.declared.words.Symbol.TheVariants.{Letter, Mark, Gap, Broken}
use Rattle.vars_macros.specs.declared.words.Words.{Words}

-- the words that are over, and the word that has begun
pub record Gathering : Type 0 where
  pub words : List (List ℕ)
  pub word : List ℕ
  pub begun : Bool

abbrev pub no_words : Gathering
no_words = record { words = []; word = []; begun = false }

abbrev pub gathering_of : Words → Gathering
gathering_of w = record { words = w.words; word = w.word.items; begun = w.begun }

-- a word that has begun is over
abbrev pub word_closed : Gathering → Gathering
word_closed g = if g.begun then record { words = g.words ++ g.word ∷ []; word = []; begun = false } else g

-- with one symbol more
abbrev pub taken : Gathering → Symbol → Result Gathering MacroFault
taken g (Letter b) = Ok (record g { word = g.word ++ b ∷ []; begun = true })
taken g Mark = Ok (record g { begun = true })
taken g Gap = Ok (word_closed g)
taken g Broken = Err BadQuote
