-- The last phase of a node that ended, record by record.
use Rattle.std.proofs.Common.{◌≡◌, ℕ, ◌+◌, ◌<◌, ◌≤◌, Bool, true, false, List, [], ◌∷◌, ◌++◌, ◌==◌, Some, take, reverse, length, get_or, refl, sym, ap, ◌∙◌, if◌then◌else◌}
use Rattle.std.proofs.lemmas.List.{take_more, take_all, reverse-append, reverse-reverse}
use Rattle.node_machine.specs.declared.Ended.{Ended}
use Rattle.node_machine.specs.declared.Record.{Record}
use Rattle.node_machine.specs.declared.Record.TheVariants.{Life, Launch, End, Finish}
use Rattle.sched_core.specs.Run.{history}
use Rattle.failure_report.specs.Failures.{last_phase, last_end, noted_end}

last_added : (es : List Ended) (e : Ended) → last_phase (es ++ e ∷ []) ≡ Some e
last_added [] e = refl
last_added (f ∷ []) e = refl
last_added (f ∷ g ∷ es) e = last_added (g ∷ es) e

-- what a record makes of it
pub end_more : (past : List Record) (entry : Record) (node : ℕ) → last_end (entry ∷ past) node ≡ noted_end (last_end past node) entry node
end_more past Life node = refl
end_more past (Launch key number) node = refl
end_more past (Finish status) node = refl
end_more past (End key outcome) node = go (key.node == node)
  where
    e : Ended
    e = record { attempt = key.attempt; phase = key.phase; outcome = outcome }

    go : (b : Bool) → last_phase (if b then history past node ++ e ∷ [] else history past node) ≡ (if b then Some e else last_end past node)
    go true = last_added (history past node) e
    go false = refl

-- the records one by one
reverse_more : (rs : List Record) (i : ℕ) (d : Record) → i < length rs → reverse (take (i + 1) rs) ≡ get_or rs i d ∷ reverse (take i rs)
reverse_more rs i d lt = ap reverse (take_more rs i d lt) ∙ reverse-append (take i rs) (get_or rs i d ∷ [])

pub ends_more : (rs : List Record) (i : ℕ) (d : Record) (node : ℕ) → i < length rs
    → noted_end (last_end (reverse (take i rs)) node) (get_or rs i d) node ≡ last_end (reverse (take (i + 1) rs)) node
ends_more rs i d node lt =
    sym (end_more (reverse (take i rs)) (get_or rs i d) node) ∙ ap (λ (p : List Record). last_end p node) (sym (reverse_more rs i d lt))

pub ends_all : (past : List Record) (i : ℕ) (node : ℕ) → length (reverse past) ≤ i → last_end (reverse (take i (reverse past))) node ≡ last_end past node
ends_all past i node over =
    ap (λ (p : List Record). last_end (reverse p) node) (take_all i (reverse past) over) ∙ ap (λ (p : List Record). last_end p node) (reverse-reverse past)
