-- Nodes in error, added to groups one by one.
use Rattle.std.proofs.Common.{◌≡◌, ℕ, ◌+◌, ◌-◌, ◌<◌, ◌≤◌, suc, List, [], ◌∷◌, ◌++◌, map, length, take, drop, set, get_or, sym, ap, ◌∙◌, subst, append_assoc, arith}
use Rattle.std.specs.List.{All, flat_map}
use Rattle.std.specs.List.Sorted.{IsPermutation, IsNonDecreasingBy}
use Rattle.std.proofs.Common.{take-append-drop, length-take}
use Rattle.std.proofs.Math.Seq.{drop-cons, map-set_same}
use Rattle.std.proofs.lemmas.Grind.{flat_map-append}
use Rattle.std.proofs.lemmas.List.{map_push, set_split, get_or-take, get_or_default, take_more, take_all, flat_map_more}
use Rattle.std.proofs.lemmas.List.Concat.{flat_map-cons, get_or-flat_map}
use Rattle.std.proofs.lemmas.List.Elements.{All-push, All-set, All-map}
use Rattle.std.proofs.lemmas.List.Folds.{length-flat_map-take}
use Rattle.std.proofs.lemmas.List.Sorted.{IsPermutation-refl, IsPermutation-sym, IsPermutation-push_more, IsPermutation-middle, IsPermutation-append_left, All-permutation, IsNonDecreasingBy-push}
use Rattle.failure_report.specs.declared.failed.Failure.{Failure}
use Rattle.failure_report.specs.declared.groups.Group.{Group}
use Rattle.failure_report.specs.Failures.{rank_of}
use Rattle.failure_report.specs.Grouped.{IsSameEnding, nodes_of_group, IsGroup, AreGroupsOf}
use Rattle.failure_report.specs.Joining.{IsJoined, IsAddedToGroups, joined_one, began_one}

-- none of these comes after a node in error
abbrev AreBefore : Failure → List Failure → Type 0
AreBefore failure = All (λ (other : Failure). rank_of other ≤ rank_of failure)

-- one more in order
in-order : (xs : List Failure) (f : Failure) → IsNonDecreasingBy rank_of xs → AreBefore f xs → IsNonDecreasingBy rank_of (xs ++ f ∷ [])
in-order xs f up before = IsNonDecreasingBy-push rank_of xs f up (λ d some. before (length xs - 1) d (omega arith))

-- one alone
alone : (f : Failure) → IsNonDecreasingBy rank_of (f ∷ [])
alone f = in-order [] f (λ i j d le lt. absurd (omega (arith, lt))) (λ k d lt. absurd (omega (arith, lt)))

-- what holds of all members holds of those of each group
of-each : (P : Failure → Type 0) (groups : List Group) → All P (flat_map nodes_of_group groups) → (i : ℕ) (e : Group) → i < length groups → All P (nodes_of_group (get_or groups i e))
of-each P groups all i e lt = λ j d less.
    let room = length-flat_map-take nodes_of_group groups i e lt in
    subst P (get_or-flat_map nodes_of_group groups i j e d lt less) (all (length (flat_map nodes_of_group (take i groups)) + j) d (omega (arith, less, room)))

-- the same failures, and one more in the middle
amid : (done a m b : List Failure) (f : Failure) → IsPermutation done (a ++ (m ++ b)) → IsPermutation (done ++ f ∷ []) (a ++ ((m ++ f ∷ []) ++ b))
amid done a m b f h =
    let same : (a ++ m) ++ f ∷ b ≡ a ++ ((m ++ f ∷ []) ++ b) = append_assoc a m (f ∷ b) ∙ ap (λ (l : List Failure). a ++ l) (sym (append_assoc m (f ∷ []) b)) in
    let moved : IsPermutation (f ∷ ((a ++ m) ++ b)) ((a ++ m) ++ f ∷ b) = IsPermutation-sym _ _ (IsPermutation-middle (a ++ m) f b) in
    IsPermutation-push_more done (a ++ (m ++ b)) (a ++ ((m ++ f ∷ []) ++ b)) f h
    (subst (λ (l : List Failure). IsPermutation (f ∷ l) (a ++ ((m ++ f ∷ []) ++ b))) (append_assoc a m b)
    (subst (IsPermutation (f ∷ ((a ++ m) ++ b))) same moved))

-- the members of all groups, about the group at a place
parts-of-groups : (groups : List Group) (i : ℕ) (d : Group) → i < length groups
    → flat_map nodes_of_group groups ≡ flat_map nodes_of_group (take i groups) ++ (nodes_of_group (get_or groups i d) ++ flat_map nodes_of_group (drop (suc i) groups))
parts-of-groups groups i d lt =
    ap (flat_map nodes_of_group) (sym (take-append-drop i groups) ∙ ap (λ (l : List Group). take i groups ++ l) (drop-cons groups i d lt))
    ∙ flat_map-append nodes_of_group (take i groups) (get_or groups i d ∷ drop (suc i) groups)
    ∙ ap (λ (l : List Failure). flat_map nodes_of_group (take i groups) ++ l) (flat_map-cons nodes_of_group (get_or groups i d) (drop (suc i) groups))

parts-when-set : (groups now : List Group) (i : ℕ) (g : Group) → i < length groups → now ≡ set groups i g
    → flat_map nodes_of_group now ≡ flat_map nodes_of_group (take i groups) ++ (nodes_of_group g ++ flat_map nodes_of_group (drop (suc i) groups))
parts-when-set groups now i g lt is =
    ap (flat_map nodes_of_group) (is ∙ set_split groups i g lt)
    ∙ flat_map-append nodes_of_group (take i groups) (g ∷ drop (suc i) groups)
    ∙ ap (λ (l : List Failure). flat_map nodes_of_group (take i groups) ++ l) (flat_map-cons nodes_of_group g (drop (suc i) groups))

module _ (done : List Failure) (f : Failure) (groups : List Group) (is : AreGroupsOf done groups) (before : AreBefore f done) where
  all-before : AreBefore f (flat_map nodes_of_group groups)
  all-before = All-permutation (λ (other : Failure). rank_of other ≤ rank_of f) done (flat_map nodes_of_group groups) is.together before

  -- one more of the others of a group
  joined-more : (place : ℕ) (now : List Group) → IsJoined f groups place now → AreGroupsOf (done ++ f ∷ []) now
  joined-more place now j =
      let own : IsGroup (get_or groups place j.group) = is.each place j.group j.of.within in
      let nodes : nodes_of_group j.group ≡ nodes_of_group (get_or groups place j.group) ++ f ∷ [] = λ k. j.first k ∷ j.same k in
      record {
        together =
            subst (IsPermutation (done ++ f ∷ [])) (sym (parts-when-set groups now place j.group j.of.within j.set ∙ ap (λ (l : List Failure). flat_map nodes_of_group (take place groups) ++ (l ++ flat_map nodes_of_group (drop (suc place) groups))) nodes))
            (amid done (flat_map nodes_of_group (take place groups)) (nodes_of_group (get_or groups place j.group)) (flat_map nodes_of_group (drop (suc place) groups)) f
            (subst (IsPermutation done) (parts-of-groups groups place j.group j.of.within) is.together));
        each = subst (All IsGroup) (sym j.set) (All-set IsGroup groups place j.group (record {
          alike =
              subst (All (IsSameEnding j.group.first)) (sym j.same)
              (All-push (IsSameEnding j.group.first) (get_or groups place j.group).same.items f
              (subst (λ (first : Failure). All (IsSameEnding first) (get_or groups place j.group).same.items) (sym j.first) own.alike)
              (subst (λ (first : Failure). IsSameEnding first f) (sym j.first) (j.of.alike j.group)));
          ordered = subst (IsNonDecreasingBy rank_of) (sym nodes) (in-order (nodes_of_group (get_or groups place j.group)) f own.ordered (of-each (λ (other : Failure). rank_of other ≤ rank_of f) groups all-before place j.group j.of.within));
        }) is.each);
        ordered = subst (IsNonDecreasingBy rank_of) (sym (ap (map (λ (group : Group). group.first)) j.set ∙ map-set_same (λ (group : Group). group.first) groups place j.group j.group j.first)) is.ordered;
      }

  -- the first of a new group
  began-more : (group : Group) → group.first ≡ f → group.same.items ≡ [] → AreGroupsOf (done ++ f ∷ []) (groups ++ group ∷ [])
  began-more group own none =
      let nodes : nodes_of_group group ≡ f ∷ [] = λ k. own k ∷ none k in
      record {
        together =
            subst (IsPermutation (done ++ f ∷ [])) (ap (λ (l : List Failure). flat_map nodes_of_group groups ++ l) (sym nodes) ∙ flat_map_more nodes_of_group [] groups group)
            (IsPermutation-append_left (f ∷ []) done (flat_map nodes_of_group groups) is.together);
        each = All-push IsGroup groups group is.each (record {
          alike = subst (All (IsSameEnding group.first)) (sym none) (λ k d lt. absurd (omega (arith, lt)));
          ordered = subst (IsNonDecreasingBy rank_of) (sym nodes) (alone f);
        });
        ordered =
            subst (IsNonDecreasingBy rank_of) (ap (λ (first : Failure). map (λ (g : Group). g.first) groups ++ first ∷ []) (sym own) ∙ sym (map_push (λ (g : Group). g.first) groups group))
            (in-order (map (λ (g : Group). g.first) groups) f is.ordered
            (All-map (λ (other : Failure). rank_of other ≤ rank_of f) (λ (g : Group). g.first) groups (λ i e lt. of-each (λ (other : Failure). rank_of other ≤ rank_of f) groups all-before i e lt 0 e.first (omega arith))));
      }

  added-more : (now : List Group) → IsAddedToGroups f groups now → AreGroupsOf (done ++ f ∷ []) now
  added-more now (joined_one place _ j) = joined-more place now j
  added-more _ (began_one group own none) = began-more group own none

-- those before a place don't come after that which is there
taken-before : (failures : List Failure) (i : ℕ) (f : Failure) → i < length failures → f ≡ get_or failures i f → IsNonDecreasingBy rank_of failures → AreBefore f (take i failures)
taken-before failures i f lt own up = λ k d less.
    let short : length (take i failures) ≤ i = omega (arith, length-take i failures) in
    let at : get_or (take i failures) k d ≡ get_or failures k d = get_or-take i failures k d (omega (arith, less, short)) in
    let here : get_or failures i d ≡ f = get_or_default failures i d f lt ∙ sym own in
    let le : rank_of (get_or failures k d) ≤ rank_of (get_or failures i d) = up k i d (omega (arith, less, short)) lt in
    subst (λ (o : Failure). rank_of o ≤ rank_of f) (sym at) (subst (λ (o : Failure). rank_of (get_or failures k d) ≤ rank_of o) here le)

-- the node in error at a place is added
pub groups-more : (failures : List Failure) (i : ℕ) (f : Failure) (groups now : List Group) → i < length failures → f ≡ get_or failures i f → IsNonDecreasingBy rank_of failures
    → AreGroupsOf (take i failures) groups → IsAddedToGroups f groups now → AreGroupsOf (take (i + 1) failures) now
groups-more failures i f groups now lt own up is added =
    subst (λ (fs : List Failure). AreGroupsOf fs now) (ap (λ (g : Failure). take i failures ++ g ∷ []) own ∙ sym (take_more failures i f lt))
    (added-more (take i failures) f groups is (taken-before failures i f lt own up) now added)

pub groups-all : (failures : List Failure) (i : ℕ) (groups : List Group) → length failures ≤ i → AreGroupsOf (take i failures) groups → AreGroupsOf failures groups
groups-all failures i groups over is = subst (λ (fs : List Failure). AreGroupsOf fs groups) (take_all i failures over) is

-- no groups of none
pub no-groups : (groups : List Group) → groups ≡ [] → AreGroupsOf [] groups
no-groups groups none = subst (AreGroupsOf []) (sym none) (record {
  together = IsPermutation-refl [];
  each = λ k d lt. absurd (omega (arith, lt));
  ordered = λ i j d le lt. absurd (omega (arith, lt));
})
