-- Sets with the same files have them in the same order.
use Rattle.std.proofs.Common.{◌≡◌, ◌∙◌, ◌⊎◌, inl, inr, ⊎_elim, sym, ap, refl, ℕ, Bool, true, false, cond, List, [], ◌∷◌, map, Option, Some, None, option_map, String, nat_cmp}
use Rattle.std.proofs.lemmas.Cmp.{nat_list_cmp_total}
use Rattle.std.proofs.lemmas.Map.Text.{is_eq-slice_cmp}
use Rattle.std.proofs.lemmas.Slice.Eq.{bytes_eq-Decides}
use Rattle.std.specs.Cmp.Lexicographic.{slice_cmp}
use Rattle.std.specs.Global.{Global}
use Rattle.std.specs.List.{AllByRecursion}
use Rattle.std.specs.List.Sorted.{IsStrictlySortedBy}
use Rattle.std.specs.Map.{keys_of, lookup}
use Rattle.std.specs.Ordering.{is_eq, ordering_reverse}
use Rattle.std.specs.declared.cmp.Ordering.{Ordering}
use Rattle.std.specs.declared.cmp.Ordering.TheVariants.{Less, Equal, Greater}
use Rattle.std.specs.Prelude.{string_bytes}
use Rattle.std.specs.String.{string_cmp}
use Rattle.splices_flat.specs.FileSet.{bytes_of, entries_of}
use Rattle.splices_flat.specs.declared.file_set.FileSet.{FileSet}
use Rattle.run_plan.specs.Digest.{digest_of}

abbrev order : List ℕ → List ℕ → Ordering
order a b = slice_cmp nat_cmp a b

abbrev named : List ℕ → String Global → Bool
named name key = is_eq (order name (string_bytes key))

abbrev Above : String Global → List (String Global) → Type 0
Above key keys = AllByRecursion (λ (k : String Global). string_cmp key k ≡ Less) keys

itself : (name : List ℕ) → is_eq (order name name) ≡ true
itself name = is_eq-slice_cmp name name ∙ (bytes_eq-Decides name name).1 refl

same_name : (a b : List ℕ) → is_eq (order a b) ≡ true → a ≡ b
same_name a b h = (bytes_eq-Decides a b).0 (sym (is_eq-slice_cmp a b) ∙ h)

-- A name that is not above a key is not among those above it.
none_above : {V : Type 0} (name : List ℕ) (key : String Global) (es : List (String Global × V)) → (order name (string_bytes key) ≡ Less) ⊎ (name ≡ string_bytes key) →
    Above key (keys_of es) → lookup (named name) es ≡ None
none_above name key [] low all = refl
none_above name key (e ∷ es) low all =
    let less : order name (string_bytes e.0) ≡ Less = ⊎_elim
    (λ (below : order name (string_bytes key) ≡ Less). nat_list_cmp_total.trans name (string_bytes key) (string_bytes e.0) below all.0)
    (λ (same : name ≡ string_bytes key). ap (λ (n : List ℕ). order n (string_bytes e.0)) same ∙ all.0)
    low in
    let other : named name e.0 ≡ false = ap is_eq less in
    ap (λ (b : Bool). cond b (Some e.1) (lookup (named name) es)) other ∙ none_above name key es low all.1

module _ {V : Type 0} (v : V → List ℕ) where
  abbrev found : List ℕ → List (String Global × V) → Option (List ℕ)
  found name es = option_map v (lookup (named name) es)

  abbrev plain : String Global × V → List ℕ × List ℕ
  plain e = (string_bytes e.0, v e.1)

  found_first : (e : String Global × V) (es : List (String Global × V)) → found (string_bytes e.0) (e ∷ es) ≡ Some (v e.1)
  found_first e es = ap (λ (b : Bool). option_map v (cond b (Some e.1) (lookup (named (string_bytes e.0)) es))) (itself (string_bytes e.0))

  -- one below all is not found
  not_found : (name : List ℕ) (f : String Global × V) (fs : List (String Global × V)) → order name (string_bytes f.0) ≡ Less → Above f.0 (keys_of fs) → found name (f ∷ fs) ≡ None
  not_found name f fs below all =
      let other : named name f.0 ≡ false = ap is_eq below in
      ap (λ (b : Bool). option_map v (cond b (Some f.1) (lookup (named name) fs))) other ∙ ap (option_map v) (none_above name f.0 fs (inl below) all)

  pub same_files : (es fs : List (String Global × V)) → IsStrictlySortedBy string_cmp (keys_of es) → IsStrictlySortedBy string_cmp (keys_of fs) →
      ((name : List ℕ) → found name es ≡ found name fs) → map plain es ≡ map plain fs
  unfolding IsStrictlySortedBy
  same_files [] [] es_rise fs_rise same = refl
  same_files [] (f ∷ fs) es_rise fs_rise same = let never : None ≡ Some (v f.1) = same (string_bytes f.0) ∙ found_first f fs in absurd cc
  same_files (e ∷ es) [] es_rise fs_rise same = let never : Some (v e.1) ≡ None = sym (found_first e es) ∙ same (string_bytes e.0) in absurd cc
  same_files (e ∷ es) (f ∷ fs) es_rise fs_rise same = by_order (order (string_bytes e.0) (string_bytes f.0)) refl (λ further. same_files es fs es_rise.1 fs_rise.1 further)
    where
      by_order : (o : Ordering) → order (string_bytes e.0) (string_bytes f.0) ≡ o → (((name : List ℕ) → found name es ≡ found name fs) → map plain es ≡ map plain fs) →
          map plain (e ∷ es) ≡ map plain (f ∷ fs)
      by_order Less is others =
          let never : Some (v e.1) ≡ None = sym (found_first e es) ∙ same (string_bytes e.0) ∙ not_found (string_bytes e.0) f fs is fs_rise.0 in absurd cc
      by_order Greater is others =
          let below : order (string_bytes f.0) (string_bytes e.0) ≡ Less = nat_list_cmp_total.antisymm (string_bytes f.0) (string_bytes e.0) ∙ ap ordering_reverse is in
          let never : Some (v f.1) ≡ None = sym (found_first f fs) ∙ sym (same (string_bytes f.0)) ∙ not_found (string_bytes f.0) e es below es_rise.0 in absurd cc
      by_order Equal is others =
          let name : string_bytes e.0 ≡ string_bytes f.0 = same_name (string_bytes e.0) (string_bytes f.0) (ap is_eq is) in
          let values : Some (v e.1) ≡ Some (v f.1) = sym (found_first e es) ∙ same (string_bytes e.0) ∙ ap (λ (n : List ℕ). found n (f ∷ fs)) name ∙ found_first f fs in
          let value : v e.1 ≡ v f.1 = cc in
          let rest : map plain es ≡ map plain fs = others (λ n. by_test name n (named n e.0) refl) in
          ap (λ (n : List ℕ). (n, v e.1) ∷ map plain es) name ∙ ap (λ (bytes : List ℕ). (string_bytes f.0, bytes) ∷ map plain es) value
          ∙ ap (λ (more : List (List ℕ × List ℕ)). plain f ∷ more) rest
        where
          by_test : string_bytes e.0 ≡ string_bytes f.0 → (n : List ℕ) (b : Bool) → named n e.0 ≡ b → found n es ≡ found n fs
          by_test name n true is =
              let at : n ≡ string_bytes e.0 = same_name n (string_bytes e.0) is in
              ap (option_map v) (none_above n e.0 es (inr at) es_rise.0 ∙ sym (none_above n f.0 fs (inr (at ∙ name)) fs_rise.0))
          by_test name n false is =
              let other : named n f.0 ≡ false = ap (λ (k : List ℕ). is_eq (order n k)) (sym name) ∙ is in
              sym (ap (λ (b : Bool). option_map v (cond b (Some e.1) (lookup (named n) es))) is) ∙ same n
              ∙ ap (λ (b : Bool). option_map v (cond b (Some f.1) (lookup (named n) fs))) other

pub equal_digests : (a b : FileSet) → ((name : List ℕ) → bytes_of a name ≡ bytes_of b name) → (top : List ℕ) (rescue : Option (List ℕ)) →
    digest_of top (entries_of a) rescue ≡ digest_of top (entries_of b) rescue
equal_digests a b same top rescue =
    ap (λ (files : List (List ℕ × List ℕ)). digest_of top files rescue) (same_files (λ v. v.items) a.files.entries b.files.entries a.rising b.rising same)
