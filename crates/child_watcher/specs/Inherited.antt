-- What the children of a round inherit besides their manager's environment, and by which setting a process of the round is known.
use Rattle.std.specs.Prelude.{◌≡◌, ◌≢◌, ℕ, Bool, List, [], ◌∷◌, ◌++◌, codes, Option, MatchOption, MatchBool}
use Rattle.std.specs.Borrow.{Bor}
use Rattle.std.specs.Fmt.{decimal}
use Rattle.node_machine.specs.declared.Key.{Key}
use Rattle.log_lines.specs.Phases.{phase_word}

-- the setting by which a process of a round is known: what no other round's processes have
abbrev pub round_setting : List ℕ → List ℕ
round_setting round = codes "DAGRUN_ROUND=" ++ round

-- What the child of a key inherits: its round, the path of the DAG file, the name of its node, the word of its phase and the number of its attempt.
abbrev pub inherited : List ℕ → List ℕ → List ℕ → Key → List (List ℕ)
inherited round dag node key =
    round_setting round
    ∷ (codes "DAGRUN_DAG=" ++ dag)
    ∷ (codes "DAGRUN_NODE=" ++ node)
    ∷ (codes "DAGRUN_PHASE=" ++ phase_word key.phase)
    ∷ (codes "DAGRUN_ATTEMPT=" ++ decimal key.attempt)
    ∷ []

-- What a setting says of a variable whose name, with its equals sign, is this one: the bytes after it; nothing where it is another variable's.
abbrev pub IsValueOf : List ℕ → List ℕ → Option (Bor (List ℕ)) → Type 0
IsValueOf name setting found = MatchOption found ((value : List ℕ) → setting ≢ name ++ value) (λ value. setting ≡ name ++ value.now)

-- whether a setting of a process says that it is of this round
abbrev pub IsOfRound : List ℕ → List ℕ → Bool → Type 0
IsOfRound round setting answer = MatchBool answer (setting ≡ round_setting round) (setting ≢ round_setting round)
