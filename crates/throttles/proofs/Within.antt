-- What runs stays within the limits.
use Rattle.std.proofs.Common.{◌≡◌, ◌≢◌, ℕ, ◌+◌, ◌<◌, inl, inr, Bool, true, false, ◌||◌, ◌==◌, List, length, get_or, set, Option, Some, None, refl, sym, ◌∙◌, subst, arith, eqb-true, get_or-set_same, get_or-set_other}
use Rattle.std.specs.Prelude.{nat_lt}
use Rattle.std.specs.List.{sum}
use Rattle.std.proofs.lemmas.Bool.{and_parts, ltb-true, eqb-false}
use Rattle.std.proofs.lemmas.List.{length-set}
use Rattle.std.proofs.lemmas.Grind.{common_steps}
use Rattle.node_machine.specs.declared.Phase.{Phase}
use Rattle.node_machine.specs.declared.Phase.TheVariants.{Pre, Job, Post}
use Rattle.throttles.specs.declared.Limits.{Limits}
use Rattle.throttles.specs.Throttled.{Throttled, Running, IsWithin, IsUnder, IsPlace, is_below, running_jobs, all_in, of_kind, limit_of, may_start, with_one}

below-under : (limit count : ℕ) → is_below limit count ≡ true → IsUnder limit (count + 1)
below-under limit count h = go (limit == 0) refl h
  where
    go : (b : Bool) → (limit == 0) ≡ b → (b || nat_lt count limit) ≡ true → IsUnder limit (count + 1)
    go true z _ = inl (eqb-true limit 0 z)
    go false z lt = inr (let l = ltb-true count limit lt in omega arith)

sum-more : (xs : List ℕ) (i : ℕ) → i < length xs → sum (set xs i (get_or xs i 0 + 1)) ≡ sum xs + 1
sum-more xs i lt = grind (arith, common_steps)

at : (limit count more : ℕ) → more ≡ count + 1 → IsUnder limit (count + 1) → IsUnder limit more
at limit count more e u = subst (IsUnder limit) (sym e) u

each-kind : (limits : Limits) (running : Running) → IsUnder limits.pre running.pre → IsUnder limits.jobs (running_jobs running) → IsUnder limits.post running.post
    → (kind : Phase) → IsUnder (limit_of limits kind) (of_kind kind running)
each-kind limits running pre jobs post Pre = pre
each-kind limits running pre jobs post Job = jobs
each-kind limits running pre jobs post Post = post

pub stays : (t : Throttled) (phase : Phase) (category : Option ℕ) → IsWithin t → IsPlace t.categories category
    → may_start t phase category ≡ true → IsWithin (record t { running = with_one t.running phase category })
stays t Pre category w p h =
    let parts = and_parts _ _ (and_parts _ _ h).0 in
    record {
      all = at t.limits.children (all_in t.running) _ (omega arith) (below-under t.limits.children (all_in t.running) parts.0);
      kinds = each-kind t.limits (with_one t.running Pre category) (below-under t.limits.pre t.running.pre parts.1) (w.kinds Job) (w.kinds Post);
      categories = w.categories;
      many = w.many;
    }
stays t Post category w p h =
    let parts = and_parts _ _ (and_parts _ _ h).0 in
    record {
      all = at t.limits.children (all_in t.running) _ (omega arith) (below-under t.limits.children (all_in t.running) parts.0);
      kinds = each-kind t.limits (with_one t.running Post category) (w.kinds Pre) (w.kinds Job) (below-under t.limits.post t.running.post parts.1);
      categories = w.categories;
      many = w.many;
    }
stays t Job None w p h =
    let parts = and_parts _ _ (and_parts _ _ h).0 in
    record {
      all = at t.limits.children (all_in t.running) _ (omega arith) (below-under t.limits.children (all_in t.running) parts.0);
      kinds = each-kind t.limits (with_one t.running Job None) (w.kinds Pre) (at t.limits.jobs (running_jobs t.running) _ (omega arith) (below-under t.limits.jobs (running_jobs t.running) parts.1)) (w.kinds Post);
      categories = w.categories;
      many = w.many;
    }
stays t Job (Some place) w p h =
    let first = and_parts _ _ h in
    let parts = and_parts _ _ first.0 in
    let inside : place < length t.running.category_jobs = subst (λ n. place < n) (sym w.many) p in
    let more = sum-more t.running.category_jobs place inside in
    record {
      all = at t.limits.children (all_in t.running) _ (omega (arith, more)) (below-under t.limits.children (all_in t.running) parts.0);
      kinds = each-kind t.limits (with_one t.running Job (Some place)) (w.kinds Pre) (at t.limits.jobs (running_jobs t.running) _ (omega (arith, more)) (below-under t.limits.jobs (running_jobs t.running) parts.1)) (w.kinds Post);
      categories = λ q lt. one q lt inside first.1 (q == place) refl;
      many = length-set t.running.category_jobs place _ ∙ w.many;
    }
  where
    one : (q : ℕ) → q < length t.categories → place < length t.running.category_jobs
        → is_below (get_or t.categories place 0) (get_or t.running.category_jobs place 0) ≡ true → (b : Bool) → (q == place) ≡ b
        → IsUnder (get_or t.categories q 0) (get_or (set t.running.category_jobs place (get_or t.running.category_jobs place 0 + 1)) q 0)
    one q lt inside below true same =
        let e : place ≡ q = sym (eqb-true q place same) in
        subst (λ k. IsUnder (get_or t.categories k 0) (get_or (set t.running.category_jobs place (get_or t.running.category_jobs place 0 + 1)) k 0)) e
        (rw get_or-set_same (below-under (get_or t.categories place 0) (get_or t.running.category_jobs place 0) below))
    one q lt inside below false ne =
        let other : q ≢ place = eqb-false q place ne in
        rw get_or-set_other (w.categories q lt)
