use Rattle.std.proofs.Common.{arith, ◌≡◌, ◌≢◌, subst, ℕ, List, ◌+◌, ◌-◌, length, take, drop, Option, IfSome}
use Rattle.std.specs.BTreeMap.{get}
use Rattle.std.specs.Ordering.{nat_cmp}
use Rattle.std.proofs.lemmas.Grind.{common_steps}
use Rattle.vars_macros.specs.NamePlaces.{IsNameOf}
use Rattle.vars_macros.specs.declared.naming.Name.{Name}
use Rattle.vars_macros.proofs.NameTables.{keeps_on}
use Rattle.vars_macros.proofs.NamesIn.{all_behind, names_kept, one_name_more}
use Rattle.vars_macros.proofs.naming.NamePlaces.of.Goals as goal
use Rattle.vars_macros.proofs.naming.NamePlaces.of.Goals.{then-text-at-eq40+in_ok-name+in-Some+in_ok-insert, then-text-at-eq40+in_ok-name+in_default, else-text-at-eq40}

pub loop-at-preserved : goal.loop-at-preserved
loop-at-preserved c =
    let l = c.loop-at in
    let text = c.args.text.now in
    let table = get nat_cmp l.places in
    elim c.if-text-at-eq40.branch [
      | then-text-at-eq40+in_ok-name+in-Some+in_ok-insert w ↦
          let new = w.name_ahead.new.names in
          let name = w.in-Some.name in
          let ahead : IsNameOf new (take (length text - (l.at + 1)) (drop (l.at + 1) text)) name =
          subst (λ (o : Option Name). IfSome o (λ (n : Name). IsNameOf new (take (length text - (l.at + 1)) (drop (l.at + 1) text)) n)) w.in-Some.is w.in_ok-name.ensures.name in
          let found : IsNameOf new (drop (l.at + 1) text) name = subst (λ (t : List ℕ). IsNameOf new t name) (all_behind (l.at + 1) text) ahead in
          let updates = w.in_ok-insert.ensures.updates in
          let others : (k : ℕ) → k ≢ l.at + 1 → get nat_cmp w.insert.new.self k ≡ table k = λ k apart. grind (arith, common_steps) in
          rw (w.names-is, w.places-is) (
            one_name_more new text table (get nat_cmp w.insert.new.self) (l.at + 1) name (names_kept l.names new text table w.in_ok-name.ensures.keeps l.invariant.0) found updates.1 others,
            keeps_on c.args.names.now l.names new l.invariant.1 w.in_ok-name.ensures.keeps,
          )
      | then-text-at-eq40+in_ok-name+in_default w ↦
          rw (w.names-is, w.places-is) (
            names_kept l.names w.name_ahead.new.names text table w.in_ok-name.ensures.keeps l.invariant.0,
            keeps_on c.args.names.now l.names w.name_ahead.new.names l.invariant.1 w.in_ok-name.ensures.keeps,
          )
      | else-text-at-eq40 w ↦ rw (w.names-is, w.places-is) l.invariant
    ]
