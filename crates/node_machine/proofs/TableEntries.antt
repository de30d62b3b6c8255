-- What the entries of a table say of a key, by the look-ups in its maps.
use Rattle.std.proofs.Common.{◌≡◌, ℕ, Bool, true, false, cond, ◌&&◌, ◌==◌, List, [], ◌∷◌, ◌++◌, Option, None, Some, unwrap_or, refl, sym, ap, ◌∙◌, ⊎_elim, string_bytes, String, Global, subst, arith, Less}
use Rattle.std.proofs.lemmas.Bool.{cases_Bool}
use Rattle.std.proofs.lemmas.Grind.{common_steps}
use Rattle.std.proofs.lemmas.Map.Keys.{sorted_head, sorted_tail}
use Rattle.std.proofs.lemmas.Map.Text.{is_eq-slice_cmp, btree_map_updates_text}
use Rattle.std.proofs.lemmas.Slice.Eq.{bytes_eq-Decides}
use Rattle.std.specs.BTreeMap.{BTreeMap, IsOrdered, UpdatesBy, get, get_by_text, is_at}
use Rattle.std.specs.Cmp.Lexicographic.{slice_cmp}
use Rattle.std.specs.List.{last_or, AllByRecursion}
use Rattle.std.specs.List.Sorted.{IsStrictlySortedBy}
use Rattle.std.specs.Map.{keys_of, lookup}
use Rattle.std.specs.Option.{option_and_then, option_map_or}
use Rattle.std.specs.Ordering.{nat_cmp, is_eq}
use Rattle.std.specs.Str.{bytes_eq}
use Rattle.std.specs.String.{string_cmp}
use Rattle.node_machine.specs.declared.Phase.{Phase}
use Rattle.node_machine.specs.declared.Phase.TheVariants.{Pre, Job, Post}
use Rattle.node_machine.specs.declared.Outcome.{Outcome}
use Rattle.node_machine.specs.declared.Outcome.TheVariants.{Exit}
use Rattle.node_machine.specs.declared.table.PhaseOutcomes.{PhaseOutcomes}
use Rattle.node_machine.specs.declared.table.NamedOutcome.{NamedOutcome}
use Rattle.node_machine.specs.OutcomeTable.{Entry, same_phase, is_of, outcomes_of, outcome_at}
use Rattle.node_machine.specs.TableMaps.{phase_outcome, with_outcome, exit_0, PutsOutcome, entry_of, attempt_entries, node_entries, table_entries}

-- the outcome of a key after entries, where it was o before them
abbrev pub after : Outcome → List Entry → List ℕ → ℕ → Phase → Outcome
after o [] name attempt phase = o
after o (entry ∷ entries) name attempt phase = after (cond (is_of name attempt phase entry) entry.outcome o) entries name attempt phase

last_is : (o : Outcome) (entries : List Entry) (n : List ℕ) (a : ℕ) (p : Phase) → unwrap_or (last_or (Some o) (outcomes_of entries n a p)) (Exit 0) ≡ after o entries n a p
last_is o [] n a p = refl
last_is o (entry ∷ entries) n a p =
    ⊎_elim
    (λ yes. rw yes (last_is entry.outcome entries n a p))
    (λ other. rw other (last_is o entries n a p))
    (cases_Bool (is_of n a p entry))

pub outcome_is : (entries : List Entry) (n : List ℕ) (a : ℕ) (p : Phase) → outcome_at entries n a p ≡ after (Exit 0) entries n a p
unfolding outcome_at
outcome_is [] n a p = refl
outcome_is (entry ∷ entries) n a p =
    ⊎_elim
    (λ yes. rw yes (last_is entry.outcome entries n a p))
    (λ other. rw other (outcome_is entries n a p))
    (cases_Bool (is_of n a p entry))

after-append : (o : Outcome) (xs ys : List Entry) (n : List ℕ) (a : ℕ) (p : Phase) → after o (xs ++ ys) n a p ≡ after (after o xs n a p) ys n a p
after-append o [] ys n a p = refl
after-append o (x ∷ xs) ys n a p = after-append (cond (is_of n a p x) x.outcome o) xs ys n a p

-- one entry more
pub outcome_at-push : (entries : List Entry) (entry : Entry) (n : List ℕ) (a : ℕ) (p : Phase) → outcome_at (entries ++ entry ∷ []) n a p ≡ cond (is_of n a p entry) entry.outcome (outcome_at entries n a p)
outcome_at-push entries entry n a p =
    outcome_is (entries ++ entry ∷ []) n a p ∙ after-append (Exit 0) entries (entry ∷ []) n a p
    ∙ ap (λ (o : Outcome). cond (is_of n a p entry) entry.outcome o) (sym (outcome_is entries n a p))

-- one attempt
apart_by : (name attempt phase : Bool) → (name && attempt) ≡ false → (name && (attempt && phase)) ≡ false
apart_by true true phase e = absurd cc
apart_by true false phase e = refl
apart_by false attempt phase e = refl

other_attempt : (o : Outcome) (m : List ℕ) (b : ℕ) (x : PhaseOutcomes) (n : List ℕ) (a : ℕ) (p : Phase) → (bytes_eq n m && a == b) ≡ false → after o (attempt_entries m b x) n a p ≡ o
other_attempt o m b x n a p e =
    let first = apart_by (bytes_eq n m) (a == b) (same_phase p Pre) e in
    let second = apart_by (bytes_eq n m) (a == b) (same_phase p Job) e in
    let third = apart_by (bytes_eq n m) (a == b) (same_phase p Post) e in
    rw (first, second, third) refl

own_attempt : (o : Outcome) (m : List ℕ) (b : ℕ) (x : PhaseOutcomes) (n : List ℕ) (a : ℕ) (p : Phase) → bytes_eq n m ≡ true → (a == b) ≡ true → after o (attempt_entries m b x) n a p ≡ phase_outcome p x
own_attempt o m b x n a Pre e f = rw (e, f) refl
own_attempt o m b x n a Job e f = rw (e, f) refl
own_attempt o m b x n a Post e f = rw (e, f) refl

-- the attempts of a node of another name
other_node : (o : Outcome) (m : List ℕ) (attempts : List (ℕ × PhaseOutcomes)) (n : List ℕ) (a : ℕ) (p : Phase) → bytes_eq n m ≡ false → after o (node_entries m attempts) n a p ≡ o
unfolding node_entries
other_node o m [] n a p e = refl
other_node o m (x ∷ attempts) n a p e =
    after-append o (node_entries m attempts) (attempt_entries m x.0 x.1) n a p
    ∙ other_attempt (after o (node_entries m attempts) n a p) m x.0 x.1 n a p (rw e refl)
    ∙ other_node o m attempts n a p e

is_eq-nat_cmp : (a b : ℕ) → is_eq (nat_cmp a b) ≡ (a == b)
is_eq-nat_cmp a b = grind (arith, common_steps)

-- the attempts of the node of the name
own_node : (o : Outcome) (m : List ℕ) (attempts : List (ℕ × PhaseOutcomes)) (n : List ℕ) (a : ℕ) (p : Phase) → bytes_eq n m ≡ true
    → after o (node_entries m attempts) n a p ≡ option_map_or (phase_outcome p) (lookup (is_at (nat_cmp a)) attempts) o
unfolding node_entries
own_node o m [] n a p e = refl
own_node o m (x ∷ attempts) n a p e =
    after-append o (node_entries m attempts) (attempt_entries m x.0 x.1) n a p
    ∙ ⊎_elim
    (λ yes. let at : is_eq (nat_cmp a x.0) ≡ true = is_eq-nat_cmp a x.0 ∙ yes in
    rw at (own_attempt (after o (node_entries m attempts) n a p) m x.0 x.1 n a p e yes))
    (λ other. let at : is_eq (nat_cmp a x.0) ≡ false = is_eq-nat_cmp a x.0 ∙ other in
    rw at (other_attempt (after o (node_entries m attempts) n a p) m x.0 x.1 n a p (rw (e, other) refl) ∙ own_node o m attempts n a p e))
    (cases_Bool (a == x.0))

-- nodes whose names are all greater
above : (o : Outcome) (nodes : List (String Global × BTreeMap ℕ PhaseOutcomes)) (n : List ℕ) (a : ℕ) (p : Phase) → AllByRecursion (λ y. slice_cmp nat_cmp n (string_bytes y) ≡ Less) (keys_of nodes)
    → after o (table_entries nodes) n a p ≡ o
unfolding table_entries
above o [] n a p h = refl
above o (node ∷ nodes) n a p h =
    after-append o (table_entries nodes) (node_entries (string_bytes node.0) node.1.entries) n a p
    ∙ other_node (after o (table_entries nodes) n a p) (string_bytes node.0) node.1.entries n a p (sym (is_eq-slice_cmp n (string_bytes node.0)) ∙ ap is_eq h.0)
    ∙ above o nodes n a p h.1

-- what the maps have at a key
abbrev pub found : Option (BTreeMap ℕ PhaseOutcomes) → ℕ → Option PhaseOutcomes
found o a = option_and_then (λ attempts. get nat_cmp attempts a) o

nodes_say : (nodes : List (String Global × BTreeMap ℕ PhaseOutcomes)) (n : List ℕ) (a : ℕ) (p : Phase) → IsStrictlySortedBy string_cmp (keys_of nodes)
    → after (Exit 0) (table_entries nodes) n a p ≡ option_map_or (phase_outcome p) (found (lookup (is_at (λ k. slice_cmp nat_cmp n (string_bytes k))) nodes) a) (Exit 0)
unfolding table_entries
nodes_say [] n a p sorted = refl
nodes_say (node ∷ nodes) n a p sorted =
    let name = string_bytes node.0 in
    after-append (Exit 0) (table_entries nodes) (node_entries name node.1.entries) n a p
    ∙ ⊎_elim
    (λ yes.
    let at : is_eq (slice_cmp nat_cmp n name) ≡ true = is_eq-slice_cmp n name ∙ yes in
    let same : name ≡ n = sym ((bytes_eq-Decides n name).0 yes) in
    let head : AllByRecursion (λ y. slice_cmp nat_cmp name (string_bytes y) ≡ Less) (keys_of nodes) = sorted_head string_cmp node.0 (keys_of nodes) sorted in
    let greater : AllByRecursion (λ y. slice_cmp nat_cmp n (string_bytes y) ≡ Less) (keys_of nodes) = subst (λ (bs : List ℕ). AllByRecursion (λ y. slice_cmp nat_cmp bs (string_bytes y) ≡ Less) (keys_of nodes)) same head in
    rw at (ap (λ (o : Outcome). after o (node_entries name node.1.entries) n a p) (above (Exit 0) nodes n a p greater) ∙ own_node (Exit 0) name node.1.entries n a p yes))
    (λ other.
    let at : is_eq (slice_cmp nat_cmp n name) ≡ false = is_eq-slice_cmp n name ∙ other in
    rw at (other_node (after (Exit 0) (table_entries nodes) n a p) name node.1.entries n a p other ∙ nodes_say nodes n a p (sorted_tail string_cmp node.0 (keys_of nodes) sorted)))
    (cases_Bool (bytes_eq n name))

-- What a table says of a key.
pub table_says : (nodes : BTreeMap (String Global) (BTreeMap ℕ PhaseOutcomes)) (n : List ℕ) (a : ℕ) (p : Phase) → IsOrdered string_cmp nodes
    → outcome_at (table_entries nodes.entries) n a p ≡ option_map_or (phase_outcome p) (found (get_by_text nodes n) a) (Exit 0)
table_says nodes n a p sorted = outcome_is (table_entries nodes.entries) n a p ∙ nodes_say nodes.entries n a p sorted

-- what a look-up in a table answers
pub looked_up : (nodes : BTreeMap (String Global) (BTreeMap ℕ PhaseOutcomes)) (table : List Entry) (n : List ℕ) (a : ℕ) (p : Phase) (o : Option (BTreeMap ℕ PhaseOutcomes))
    → table_entries nodes.entries ≡ table → IsOrdered string_cmp nodes → o ≡ get_by_text nodes n
    → option_map_or (phase_outcome p) (found o a) (Exit 0) ≡ outcome_at table n a p
looked_up nodes table n a p o view sorted looked =
    ap (λ (x : Option (BTreeMap ℕ PhaseOutcomes)). option_map_or (phase_outcome p) (found x a) (Exit 0)) looked
    ∙ sym (table_says nodes n a p sorted) ∙ ap (λ (es : List Entry). outcome_at es n a p) view

outcome_after_set : (p q : Phase) (o : Outcome) (x : PhaseOutcomes) → phase_outcome p (with_outcome q o x) ≡ cond (same_phase p q) o (phase_outcome p x)
outcome_after_set Pre Pre o x = refl
outcome_after_set Pre Job o x = refl
outcome_after_set Pre Post o x = refl
outcome_after_set Job Pre o x = refl
outcome_after_set Job Job o x = refl
outcome_after_set Job Post o x = refl
outcome_after_set Post Pre o x = refl
outcome_after_set Post Job o x = refl
outcome_after_set Post Post o x = refl

or_exit_0 : (p : Phase) (o : Option PhaseOutcomes) → phase_outcome p (unwrap_or o exit_0) ≡ option_map_or (phase_outcome p) o (Exit 0)
or_exit_0 Pre None = refl
or_exit_0 Job None = refl
or_exit_0 Post None = refl
or_exit_0 p (Some x) = refl

-- the attempts of the entry's own node
own_after_put : (old new : BTreeMap ℕ PhaseOutcomes) (named : NamedOutcome) (a : ℕ) (p : Phase) → PutsOutcome old named new
    → option_map_or (phase_outcome p) (get nat_cmp new a) (Exit 0)
    ≡ cond (a == named.attempt && same_phase p named.phase) named.outcome (option_map_or (phase_outcome p) (get nat_cmp old a) (Exit 0))
own_after_put old new named a p puts =
    ap (λ (o : Option PhaseOutcomes). option_map_or (phase_outcome p) o (Exit 0)) (puts a)
    ∙ ⊎_elim
    (λ yes. rw yes (outcome_after_set p named.phase named.outcome (unwrap_or (get nat_cmp old a) exit_0)
    ∙ ap (λ (o : Outcome). cond (same_phase p named.phase) named.outcome o) (or_exit_0 p (get nat_cmp old a))))
    (λ other. rw other refl)
    (cases_Bool (a == named.attempt))

-- the maps after an entry was put in
module _ (old mid new : BTreeMap (String Global) (BTreeMap ℕ PhaseOutcomes)) (had attempts : BTreeMap ℕ PhaseOutcomes) (named : NamedOutcome) (name : String Global)
    (removed : UpdatesBy string_cmp (λ k. slice_cmp nat_cmp named.name.now (string_bytes k)) old mid None)
    (inserted : UpdatesBy string_cmp (λ k. slice_cmp nat_cmp (string_bytes name) (string_bytes k)) mid new (Some attempts))
    (same : string_bytes name ≡ named.name.now) where
  put_here : (n : List ℕ) → bytes_eq named.name.now n ≡ true → get_by_text new n ≡ Some attempts
  put_here n is =
      let here : bytes_eq (string_bytes name) n ≡ true = ap (λ (bs : List ℕ). bytes_eq bs n) same ∙ is in
      btree_map_updates_text (string_bytes name) mid new (Some attempts) inserted n ∙ rw here refl

  put_apart : (n : List ℕ) → bytes_eq named.name.now n ≡ false → get_by_text new n ≡ get_by_text old n
  put_apart n other =
      let apart : bytes_eq (string_bytes name) n ≡ false = ap (λ (bs : List ℕ). bytes_eq bs n) same ∙ other in
      btree_map_updates_text (string_bytes name) mid new (Some attempts) inserted n ∙ rw apart refl
      ∙ btree_map_updates_text named.name.now old mid None removed n ∙ rw other refl

  -- The new maps say what the old ones do with the entry at their end.
  pub put_says : (table : List Entry) (n : List ℕ) (a : ℕ) (p : Phase) → table_entries old.entries ≡ table → IsOrdered string_cmp old → IsOrdered string_cmp new
      → ((q : ℕ) → get nat_cmp had q ≡ found (get_by_text old named.name.now) q) → PutsOutcome had named attempts
      → outcome_at (table_entries new.entries) n a p ≡ outcome_at (table ++ entry_of named ∷ []) n a p
  put_says table n a p view sorted sorted_new had_is puts =
      table_says new n a p sorted_new
      ∙ ⊎_elim
      (λ yes.
      let names : named.name.now ≡ n = (bytes_eq-Decides named.name.now n).0 yes in
      let back : bytes_eq n named.name.now ≡ true = (bytes_eq-Decides n named.name.now).1 (sym names) in
      ap (λ (o : Option (BTreeMap ℕ PhaseOutcomes)). option_map_or (phase_outcome p) (found o a) (Exit 0)) (put_here n yes)
      ∙ own_after_put had attempts named a p puts
      ∙ ap (λ (o : Option PhaseOutcomes). cond (a == named.attempt && same_phase p named.phase) named.outcome (option_map_or (phase_outcome p) o (Exit 0))) (had_is a)
      ∙ ap (λ (bs : List ℕ). cond (a == named.attempt && same_phase p named.phase) named.outcome (option_map_or (phase_outcome p) (found (get_by_text old bs) a) (Exit 0))) names
      ∙ ap (λ (o : Outcome). cond (a == named.attempt && same_phase p named.phase) named.outcome o) (looked_up old table n a p (get_by_text old n) view sorted refl)
      ∙ ap (λ (b : Bool). cond (b && (a == named.attempt && same_phase p named.phase)) named.outcome (outcome_at table n a p)) (sym back)
      ∙ sym (outcome_at-push table (entry_of named) n a p))
      (λ other.
      let back : bytes_eq n named.name.now ≡ false = ⊎_elim
      (λ yes. absurd (let names : n ≡ named.name.now = (bytes_eq-Decides n named.name.now).0 yes in
      let bad : bytes_eq named.name.now n ≡ true = (bytes_eq-Decides named.name.now n).1 (sym names) in cc))
      (λ apart. apart) (cases_Bool (bytes_eq n named.name.now)) in
      ap (λ (o : Option (BTreeMap ℕ PhaseOutcomes)). option_map_or (phase_outcome p) (found o a) (Exit 0)) (put_apart n other)
      ∙ looked_up old table n a p (get_by_text old n) view sorted refl
      ∙ ap (λ (b : Bool). cond (b && (a == named.attempt && same_phase p named.phase)) named.outcome (outcome_at table n a p)) (sym back)
      ∙ sym (outcome_at-push table (entry_of named) n a p))
      (cases_Bool (bytes_eq named.name.now n))
