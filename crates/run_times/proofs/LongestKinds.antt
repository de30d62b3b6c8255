-- The kinds that took longest.
use Rattle.std.proofs.Common.{◌≡◌, ℕ, ◌+◌, ◌<◌, ◌≤◌, ◌⊎◌, inl, inr, Bool, true, false, cond, nat_le, List, [], ◌∷◌, ◌++◌, take, take_all, length, Option, Some, None, Bor, refl, sym, ap, subst, ◌∙◌, arith}
use Rattle.std.specs.Prelude.{slice_get}
use Rattle.std.proofs.lemmas.Bool.{cases_lt, leb-true, leb-false, both_ways}
use Rattle.std.proofs.lemmas.List.{take-append-le}
use Rattle.std.proofs.lemmas.Option.{same_Some, slice_get_within}
use Rattle.dag_graph.specs.Graph.{Network}
use Rattle.run_times.specs.declared.runs.PhaseRun.{PhaseRun}
use Rattle.run_times.specs.declared.kinds.Total.{Total}
use Rattle.run_times.specs.declared.kinds.Kind.{Kind}
use Rattle.run_times.proofs.Apart.{pushed-all}
use Rattle.run_times.specs.Kinds.{kind_of, total_of, is_kind_among, IsLongest, IsLongestBesides, longer_of, longest_with}

-- the kind of a phase more
module _ (graph : Network) (runs : List PhaseRun) (n : ℕ) (kinds : List Kind) (run : PhaseRun) (name : Bor (List ℕ)) (total : Total) (here : slice_get runs n ≡ Some run)
    (name_is : name.now ≡ kind_of graph run) (total_is : total ≡ total_of graph runs name.now) where
  -- one of the first phases is one before the last of them, or that
  split : (i : ℕ) → i < n + 1 → (i < n) ⊎ (i ≡ n)
  split i low = by (cases_lt i n)
    where
      by : (i < n) ⊎ (n ≤ i) → (i < n) ⊎ (i ≡ n)
      by (inl less) = inl less
      by (inr more) = inr (omega (arith, low, more))

  -- where the next phase is met, its kind
  is-here : (i : ℕ) (other : PhaseRun) → i ≡ n → slice_get runs i ≡ Some other → kind_of graph other ≡ name.now
  is-here i other same at = ap (kind_of graph) (sym (same_Some run other (sym here ∙ ap (slice_get runs) (sym same) ∙ at))) ∙ sym name_is

  -- its kind is among these
  among : is_kind_among kinds name.now ≡ true → (longest : Option Kind) → IsLongestBesides graph runs n kinds longest → IsLongestBesides graph runs (n + 1) kinds longest
  among is None all = λ i other low at. by i other at (split i low)
    where
      by : (i : ℕ) (other : PhaseRun) → slice_get runs i ≡ Some other → (i < n) ⊎ (i ≡ n) → is_kind_among kinds (kind_of graph other) ≡ true
      by i other at (inl less) = all i other less at
      by i other at (inr same) = ap (is_kind_among kinds) (is-here i other same at) ∙ is
  among is (Some kind) best = record {
    is_new = best.is_new;
    total_is = best.total_is;
    place = best.place;
    inside = let low = best.inside in omega (arith, low);
    run = best.run;
    there = best.there;
    name_is = best.name_is;
    longest = λ i other low at new. by i other at new (split i low);
    first = best.first;
  }
    where
      by : (i : ℕ) (other : PhaseRun) → slice_get runs i ≡ Some other → is_kind_among kinds (kind_of graph other) ≡ false → (i < n) ⊎ (i ≡ n) → (total_of graph runs (kind_of graph other)).took ≤ kind.total.took
      by i other at new (inl less) = best.longest i other less at new
      by i other at new (inr same) = absurd (both_ways (is_kind_among kinds (kind_of graph other)) new (ap (is_kind_among kinds) (is-here i other same at) ∙ is))

  -- what the kind of the next phase took
  took-here : (i : ℕ) (other : PhaseRun) → i ≡ n → slice_get runs i ≡ Some other → (total_of graph runs (kind_of graph other)).took ≡ total.took
  took-here i other same at = ap (λ (kind : List ℕ). (total_of graph runs kind).took) (is-here i other same at) ∙ ap (λ (t : Total). t.took) (sym total_is)

  -- it is a new one, which took longer than each before
  newest : is_kind_among kinds name.now ≡ false → ((i : ℕ) (other : PhaseRun) → i < n → slice_get runs i ≡ Some other → is_kind_among kinds (kind_of graph other) ≡ false → (total_of graph runs (kind_of graph other)).took < total.took)
      → IsLongest graph runs (n + 1) kinds (record { name = name; total = total })
  newest is before = record {
    is_new = is;
    total_is = total_is;
    place = n;
    inside = omega arith;
    run = run;
    there = here;
    name_is = name_is;
    longest = λ i other low at new. by i other at new (split i low);
    first = before;
  }
    where
      by : (i : ℕ) (other : PhaseRun) → slice_get runs i ≡ Some other → is_kind_among kinds (kind_of graph other) ≡ false → (i < n) ⊎ (i ≡ n) → (total_of graph runs (kind_of graph other)).took ≤ total.took
      by i other at new (inl less) = let b = before i other less at new in omega (arith, b)
      by i other at new (inr same) = let e = took-here i other same at in omega (arith, e)

  -- it is a new one
  longer : is_kind_among kinds name.now ≡ false → (longest : Option Kind) → IsLongestBesides graph runs n kinds longest → IsLongest graph runs (n + 1) kinds (longer_of longest (record { name = name; total = total }))
  longer is None all = newest is (λ i other low at new. absurd (both_ways (is_kind_among kinds (kind_of graph other)) new (all i other low at)))
  longer is (Some kind) best = by (nat_le total.took kind.total.took) refl
    where
      by : (b : Bool) → nat_le total.took kind.total.took ≡ b → IsLongest graph runs (n + 1) kinds (cond b kind (record { name = name; total = total }))
      by true less = record {
        is_new = best.is_new;
        total_is = best.total_is;
        place = best.place;
        inside = let low = best.inside in omega (arith, low);
        run = best.run;
        there = best.there;
        name_is = best.name_is;
        longest = λ i other low at new. case i other at new (split i low);
        first = best.first;
      }
        where
          case : (i : ℕ) (other : PhaseRun) → slice_get runs i ≡ Some other → is_kind_among kinds (kind_of graph other) ≡ false → (i < n) ⊎ (i ≡ n)
              → (total_of graph runs (kind_of graph other)).took ≤ kind.total.took
          case i other at new (inl low) = best.longest i other low at new
          case i other at new (inr same) = let e = took-here i other same at in let l = leb-true total.took kind.total.took less in omega (arith, e, l)
      by false more = newest is (λ i other low at new. let l = leb-false total.took kind.total.took more in let b = best.longest i other low at new in omega (arith, l, b))

  pub longest-more : (longest : Option Kind) → IsLongestBesides graph runs n kinds longest → IsLongestBesides graph runs (n + 1) kinds (longest_with kinds longest name total)
  longest-more longest best = by (is_kind_among kinds name.now) refl
    where
      by : (b : Bool) → is_kind_among kinds name.now ≡ b → IsLongestBesides graph runs (n + 1) kinds (cond b longest (Some (longer_of longest (record { name = name; total = total }))))
      by true is = among is longest best
      by false is = longer is longest best

-- a list of the longest kinds, and one more
pub kinds-more : (graph : Network) (runs : List PhaseRun) (count : ℕ) (kinds seen new : List Kind) (kind : Kind) → new ≡ kinds ++ kind ∷ [] → seen ≡ kinds → IsLongest graph runs count seen kind
    → ((i : ℕ) (one : Kind) → slice_get kinds i ≡ Some one → IsLongest graph runs count (take i kinds) one)
    → (i : ℕ) (one : Kind) → slice_get new i ≡ Some one → IsLongest graph runs count (take i new) one
kinds-more graph runs count kinds seen new kind new_is seen_is best all =
    subst (λ (items : List Kind). (i : ℕ) (one : Kind) → slice_get items i ≡ Some one → IsLongest graph runs count (take i items) one) (sym new_is)
    (pushed-all (λ i one. IsLongest graph runs count (take i (kinds ++ kind ∷ [])) one) kinds kind (length kinds) refl
    (λ i one at. subst (λ (before : List Kind). IsLongest graph runs count before one) (sym (take-append-le i kinds (kind ∷ []) (let h = slice_get_within kinds i one at in omega (arith, h)))) (all i one at))
    (subst (λ (before : List Kind). IsLongest graph runs count before kind) (seen_is ∙ sym (take-append-le (length kinds) kinds (kind ∷ []) (omega arith) ∙ take_all (length kinds) kinds (omega arith))) best))
