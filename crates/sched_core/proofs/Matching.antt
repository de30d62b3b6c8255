-- Fates of nodes that match, in two plans.
use Rattle.std.proofs.Common.{◌≡◌, ℕ, zero, suc, ◌<◌, Bool, true, false, refl, sym, ap, ◌∙◌, subst, arith, if◌then◌else◌}
use mathlib.Core.Path.{fun_ext}
use Rattle.std.specs.List.{list_all, Contains}
use Rattle.node_machine.specs.Story.{Table, story}
use Rattle.node_machine.specs.declared.State.TheVariants.{Done, NotRun}
use Rattle.run_plan.specs.Plan.{Plan, node_at, count_of, IsRankedBy, IsAtOrAbove, at, above}
use Rattle.sched_core.specs.Fate.{Fate, is_done_state, without_attempts, fate_by_story, fate_by, AreFates}
use Rattle.sched_core.proofs.Tests.{all-at, all-from}
use Rattle.sched_core.specs.Agree.{AgreeOnFates}

same_bools : (a b : Bool) → (a ≡ true → b ≡ true) → (b ≡ true → a ≡ true) → a ≡ b
same_bools true b f g = sym (f refl)
same_bools false true f g = g refl
same_bools false false f g = refl

-- two nodes that match, with parents that do
pub record Matches (plan : Plan) (table : Table) (plan' : Plan) (table' : Table) (R : ℕ → ℕ → Type 0) (node node' : ℕ) : Type 0 where
  pub done : (node_at plan node).done ≡ (node_at plan' node').done
  pub course : (node_at plan node).course ≡ (node_at plan' node').course
  pub column : table node ≡ table' node'
  pub down : (parent : ℕ) → Contains (node_at plan node).parents parent → (parent' : ℕ) × Contains (node_at plan' node').parents parent' × R parent parent'
  pub up : (parent' : ℕ) → Contains (node_at plan' node').parents parent' → (parent : ℕ) × Contains (node_at plan node).parents parent × R parent parent'

module _ (plan : Plan) (table : Table) (plan' : Plan) (table' : Table) (R : ℕ → ℕ → Type 0)
    (closed : (node node' : ℕ) → R node node' → Matches plan table plan' table' R node node')
    (rank rank' : ℕ → ℕ) (ranked : IsRankedBy rank plan) (ranked' : IsRankedBy rank' plan')
    (fates fates' : ℕ → Fate) (are : AreFates plan table fates) (are' : AreFates plan' table' fates') where
  match-below : (bound node node' : ℕ) → rank node < bound → node < count_of plan → node' < count_of plan' → R node node' → fates node ≡ fates' node'
  match-below zero node node' low lt lt' r = absurd (omega arith)
  match-below (suc bound) node node' low lt lt' r =
      let m = closed node node' r in
      let test = λ (f : Fate). is_done_state f.state in
      let up : (parent parent' : ℕ) → Contains (node_at plan node).parents parent → Contains (node_at plan' node').parents parent' → R parent parent' → test (fates parent) ≡ test (fates' parent') =
      λ parent parent' c c' rp.
      let p = ranked node lt parent c in
      let p' = ranked' node' lt' parent' c' in
      let lower : rank parent < bound = (let q = p.1 in omega arith) in
      ap test (match-below bound parent parent' lower p.0 p'.0 rp) in
      let tests : list_all (λ parent. test (fates parent)) (node_at plan node).parents ≡ list_all (λ parent. test (fates' parent)) (node_at plan' node').parents =
      same_bools _ _
      (λ e. all-from (λ parent. test (fates' parent)) (node_at plan' node').parents (λ parent' c'.
      let d = m.up parent' c' in
      sym (up d.0 parent' d.1 c' d.2) ∙ all-at (λ parent. test (fates parent)) (node_at plan node).parents e d.0 d.1.0 d.1.1 d.1.2))
      (λ e. all-from (λ parent. test (fates parent)) (node_at plan node).parents (λ parent c.
      let d = m.down parent c in
      up parent d.0 c d.1 d.2 ∙ all-at (λ parent. test (fates' parent)) (node_at plan' node').parents e d.0 d.1.0 d.1.1 d.1.2)) in
      are node lt
      ∙ (λ j. if m.done j then without_attempts Done else if tests j then fate_by_story (story (m.course j) (m.column j)) else without_attempts NotRun)
      ∙ sym (are' node' lt')

  pub fates-match : (node node' : ℕ) → node < count_of plan → node' < count_of plan' → R node node' → fates node ≡ fates' node'
  fates-match node node' lt lt' r = match-below (suc (rank node)) node node' (omega arith) lt lt' r

-- a plan that is ranked has one solution
pub fates-unique : (plan : Plan) (table : Table) (rank : ℕ → ℕ) → IsRankedBy rank plan → (fates fates' : ℕ → Fate)
    → AreFates plan table fates → AreFates plan table fates' → (node : ℕ) → node < count_of plan → fates node ≡ fates' node
fates-unique plan table rank ranked fates fates' are are' node lt =
    fates-match plan table plan table (λ m n. m ≡ n)
    (λ m n e. record {
      done = ap (λ k. (node_at plan k).done) e;
      course = ap (λ k. (node_at plan k).course) e;
      column = ap table e;
      down = λ p c. (p, subst (λ k. Contains (node_at plan k).parents p) e c, refl);
      up = λ p c. (p, subst (λ k. Contains (node_at plan k).parents p) (sym e) c, refl);
    })
    rank rank ranked ranked fates fates' are are' node node lt lt refl

pub further : (plan : Plan) {node top parent : ℕ} → IsAtOrAbove plan node top → Contains (node_at plan top).parents parent → IsAtOrAbove plan node parent
further plan at c = above c at
further plan (above d r) c = above d (further plan r c)

-- by the rank of a node, each plan has a solution
fate_at : Plan → Table → ℕ → ℕ → Fate
fate_at plan table zero node = without_attempts NotRun
fate_at plan table (suc bound) node = fate_by plan table (fate_at plan table bound) node

module _ (plan : Plan) (table : Table) (rank : ℕ → ℕ) (ranked : IsRankedBy rank plan) where
  -- a fate rests on the parents' alone
  pub by-parents : (fates fates' : ℕ → Fate) (node : ℕ) → ((parent : ℕ) → Contains (node_at plan node).parents parent → fates parent ≡ fates' parent)
      → fate_by plan table fates node ≡ fate_by plan table fates' node
  by-parents fates fates' node same =
      let test = λ (f : Fate). is_done_state f.state in
      let tests : list_all (λ parent. test (fates parent)) (node_at plan node).parents ≡ list_all (λ parent. test (fates' parent)) (node_at plan node).parents =
      same_bools _ _
      (λ e. all-from (λ parent. test (fates' parent)) (node_at plan node).parents (λ p c. ap test (sym (same p c)) ∙ all-at (λ parent. test (fates parent)) (node_at plan node).parents e p c.0 c.1 c.2))
      (λ e. all-from (λ parent. test (fates parent)) (node_at plan node).parents (λ p c. ap test (same p c) ∙ all-at (λ parent. test (fates' parent)) (node_at plan node).parents e p c.0 c.1 c.2)) in
      λ j. if (node_at plan node).done then without_attempts Done else if tests j then fate_by_story (story (node_at plan node).course (table node)) else without_attempts NotRun

  fate-stable : (bound bound' node : ℕ) → node < count_of plan → rank node < bound → rank node < bound' → fate_at plan table bound node ≡ fate_at plan table bound' node
  unfolding fate_at
  fate-stable zero bound' node lt low low' = absurd (omega arith)
  fate-stable (suc bound) zero node lt low low' = absurd (omega arith)
  fate-stable (suc bound) (suc bound') node lt low low' =
      by-parents (fate_at plan table bound) (fate_at plan table bound') node (λ p c.
      let r = ranked node lt p c in
      let q : rank p < rank node = r.1 in
      fate-stable bound bound' p r.0 (omega arith) (omega arith))

  solution : ℕ → Fate
  solution node = fate_at plan table (suc (rank node)) node

  solution-are : AreFates plan table solution
  unfolding solution fate_at
  solution-are node lt =
      by-parents (fate_at plan table (rank node)) solution node (λ p c.
      let r = ranked node lt p c in
      let q : rank p < rank node = r.1 in
      fate-stable (rank node) (suc (rank p)) p r.0 (omega arith) (omega arith))

  pub fates-exist : (fates : ℕ → Fate) × AreFates plan table fates
  fates-exist = (solution, solution-are)

-- plans and tables that agree on a node and all above it give it one fate
pub fates-agree : (plan : Plan) (table : Table) (plan' : Plan) (table' : Table) (rank rank' : ℕ → ℕ)
    → IsRankedBy rank plan → IsRankedBy rank' plan' → (fates fates' : ℕ → Fate) → AreFates plan table fates → AreFates plan' table' fates'
    → (node node' : ℕ) → node < count_of plan → node' < count_of plan' → AgreeOnFates plan table plan' table' node node' → fates node ≡ fates' node'
fates-agree plan table plan' table' rank rank' ranked ranked' fates fates' are are' node node' lt lt' agree =
    fates-match plan table plan' table' Pair closed rank rank' ranked ranked' fates fates' are are' node node' lt lt' (at, at, agree.0.name)
  where
    Pair : ℕ → ℕ → Type 0
    Pair top top' = IsAtOrAbove plan node top × IsAtOrAbove plan' node' top' × ((node_at plan top).name ≡ (node_at plan' top').name)

    closed : (top top' : ℕ) → Pair top top' → Matches plan table plan' table' Pair top top'
    closed top top' p =
        let s = agree.0.upward top top' p.0 p.1 p.2 in
        record {
          done = agree.1 top top' p.0 p.1 p.2;
          course = s.course;
          column = fun_ext (λ i. fun_ext (λ phase. s.outcomes i phase));
          down = λ parent c. let d = s.parents parent c in (d.0, d.1, (further plan p.0 c, further plan' p.1 d.1, d.2));
          up = λ parent' c. let d = s.parents' parent' c in (d.0, d.1, (further plan p.0 d.1, further plan' p.1 c, sym d.2));
        }
