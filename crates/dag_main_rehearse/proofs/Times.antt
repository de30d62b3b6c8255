-- Children in the order of their starts, and the newest first; their keys are those of the children that run.
use Rattle.std.proofs.Common.{◌≡◌, ◌+◌, ◌<◌, ◌++◌, ℕ, Bool, true, false, not, ◌||◌, List, [], ◌∷◌, Option, Some, None, map, filter, reverse, take, get_or, length, refl, sym, ap, ◌∙◌, if◌then◌else◌}
use Rattle.std.specs.Prelude.{nat_le}
use Rattle.std.proofs.lemmas.List.{reverse-append, take_more, append-nil}
use Rattle.std.proofs.lemmas.List.Elements.{filter-append}
use Rattle.node_machine.specs.declared.Key.{Key}
use Rattle.sched_core.specs.Run.{is_same, is_among, without}
use Rattle.sched_core.proofs.Keys.{same-self}
use Rattle.job_starter_drive.specs.declared.Call.{Call}
use Rattle.job_starter_drive.specs.declared.Call.TheVariants.{Started, Ended, Killed, HaltSeen}
use Rattle.job_starter_drive.specs.declared.Started.TheVariants.{Running, NotStarted}
use Rattle.job_starter_drive.specs.Calls.{running}
use Rattle.dag_main_rehearse.specs.declared.timeline.Child.{Child}
use Rattle.dag_main_rehearse.specs.Timed.{Timings, moment_after, children_without, sooner_of, next_to_end}

-- one more of a list, the last first
pub one-more : {A : Type 0} (xs : List A) (i : ℕ) (d : A) → i < length xs → reverse (take (i + 1) xs) ≡ get_or xs i d ∷ reverse (take i xs)
one-more xs i d inside = ap reverse (take_more xs i d inside) ∙ reverse-append (take i xs) (get_or xs i d ∷ [])

kept-last : {A : Type 0} (x : A) (kept : List A) (b : Bool) → reverse kept ++ (if b then x ∷ [] else []) ≡ reverse (if b then x ∷ kept else kept)
kept-last x kept true = sym (reverse-append (x ∷ []) kept)
kept-last x kept false = append-nil (reverse kept)

-- what is kept of a list, the last first
pub kept-reverse : {A : Type 0} (p : A → Bool) (xs : List A) → reverse (filter p xs) ≡ filter p (reverse xs)
kept-reverse p [] = refl
kept-reverse p (x ∷ xs) =
    sym (ap (filter p) (reverse-append (x ∷ []) xs) ∙ filter-append p (reverse xs) (x ∷ []) ∙ ap (λ kept. kept ++ filter p (x ∷ [])) (sym (kept-reverse p xs))
    ∙ kept-last x (filter p xs) (p x))

kept-key : (x : Child) (kept : List Child) (rest : List Key) (b : Bool) → map (λ child. child.key) kept ≡ rest
    → map (λ child. child.key) (if not b then x ∷ kept else kept) ≡ (if b then rest else x.key ∷ rest)
kept-key x kept rest true is = is
kept-key x kept rest false is = ap (λ keys. x.key ∷ keys) is

keys-without : (key : Key) (children : List Child) → map (λ child. child.key) (children_without key children) ≡ without key (map (λ child. child.key) children)
keys-without key [] = refl
keys-without key (x ∷ children) = kept-key x (children_without key children) _ (is_same key x.key) (keys-without key children)

-- the children of the moment are those that run
pub keys-running : (timings : Timings) (call_log : List Call) → map (λ child. child.key) (moment_after timings call_log).children ≡ running call_log
keys-running timings [] = refl
keys-running timings (Started key command Running ∷ call_log) = ap (λ keys. key ∷ keys) (keys-running timings call_log)
keys-running timings (Started key command NotStarted ∷ call_log) = keys-running timings call_log
keys-running timings (Ended key outcome ∷ call_log) = keys-without key (moment_after timings call_log).children ∙ ap (without key) (keys-running timings call_log)
keys-running timings (Killed key ∷ call_log) = keys-without key (moment_after timings call_log).children ∙ ap (without key) (keys-running timings call_log)
keys-running timings (HaltSeen ∷ call_log) = keys-running timings call_log

among-first : (key x : Key) (keys : List Key) → key ≡ x → (is_same key x || is_among key keys) ≡ true
among-first key x keys is = (λ j. is_same key (sym is j) || is_among key keys) ∙ (λ j. same-self key j || is_among key keys)

among-later : (key : Key) (b : Bool) (keys : List Key) → is_among key keys ≡ true → (b || is_among key keys) ≡ true
among-later key true keys is = refl
among-later key false keys is = is

-- the one that ends next is one of them
pub next-among : (children : List Child) (child : Child) → next_to_end children ≡ Some child → is_among child.key (map (λ child. child.key) children) ≡ true
next-among [] child is = absurd cc
next-among (x ∷ children) child is = go (next_to_end children) refl is (λ found. next-among children child found)
  where
    first : x ≡ child → (is_same child.key x.key || is_among child.key (map (λ child. child.key) children)) ≡ true
    first same = among-first child.key x.key (map (λ child. child.key) children) (ap (λ (c : Child). c.key) (sym same))

    chosen : (older : Child) (b : Bool) → next_to_end children ≡ Some older → Some (if b then older else x) ≡ Some child
        → (next_to_end children ≡ Some child → is_among child.key (map (λ child. child.key) children) ≡ true)
        → (is_same child.key x.key || is_among child.key (map (λ child. child.key) children)) ≡ true
    chosen older true found is rest =
        among-later child.key (is_same child.key x.key) (map (λ child. child.key) children) (rest (found ∙ is))
    chosen older false found is rest = first cc

    go : (next : Option Child) → next_to_end children ≡ next → Some (sooner_of x next) ≡ Some child
        → (next_to_end children ≡ Some child → is_among child.key (map (λ child. child.key) children) ≡ true)
        → (is_same child.key x.key || is_among child.key (map (λ child. child.key) children)) ≡ true
    go None found is rest = first cc
    go (Some older) found is rest = chosen older (nat_le older.ends_at x.ends_at) found is rest

-- where none ends next there is none
pub none-next : (children : List Child) → next_to_end children ≡ None → children ≡ []
none-next [] none = refl
none-next (x ∷ children) none = absurd cc

-- of a starter whose children are those of the moment, the one that ends next runs
pub told-among : (timings : Timings) (call_log : List Call) (children : List Child) (child : Child) → children ≡ (moment_after timings call_log).children
    → next_to_end children ≡ Some child → is_among child.key (running call_log) ≡ true
told-among timings call_log children child same found =
    sym (ap (is_among child.key) (ap (map (λ (child : Child). child.key)) same ∙ keys-running timings call_log)) ∙ next-among children child found

-- and where none ends next, none runs
pub none-running : (timings : Timings) (call_log : List Call) (children : List Child) → children ≡ (moment_after timings call_log).children
    → next_to_end children ≡ None → running call_log ≡ []
none-running timings call_log children same none =
    sym (keys-running timings call_log) ∙ ap (map (λ (child : Child). child.key)) (sym same ∙ none-next children none)
