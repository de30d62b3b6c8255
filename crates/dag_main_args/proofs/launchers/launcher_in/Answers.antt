use Rattle.std.proofs.Common.{◌≡◌, ℕ, List, [], Option, Some, None, Bor, option_map, sym, subst, rules, ap, false, inl, inr}
use Rattle.vars_macros.specs.ArgumentGrammar.{SpellsArguments}
use Rattle.dag_main_args.specs.Launchers.{HasNoLauncher, IsLauncherOf, IsNoLauncher, begins_empty, given, nameless, not_given, unspelled}
use Rattle.dag_main_args.proofs.launchers.launcher_in.Goals as goal

none-given : (text : Option (Bor (List ℕ))) (words : List (List ℕ)) → text ≡ None → words ≡ [] → IsLauncherOf (option_map (λ t. t.now) text) words
none-given text words none is =
    subst (λ o. IsLauncherOf (option_map (λ (t : Bor (List ℕ)). t.now) o) words) (sym none) (subst (IsLauncherOf None) (sym is) not_given)

one-given : (text : Option (Bor (List ℕ))) (one : Bor (List ℕ)) (words : List (List ℕ)) → text ≡ Some one → SpellsArguments one.now words
    → begins_empty words ≡ false → IsLauncherOf (option_map (λ t. t.now) text) words
one-given text one words some spelled named =
    subst (λ o. IsLauncherOf (option_map (λ (t : Bor (List ℕ)). t.now) o) words) (sym some) (given one.now words spelled named)

pub returns-in_default : goal.returns-in_default
returns-in_default c =
    let none : c.args.text ≡ None = search rules in
    record { words = none-given c.args.text c.new.result none c.new.ensures; refused = tt }

pub returns-in-Ok-2 : goal.returns-in-Ok-2
returns-in-Ok-2 c = record {
  words = one-given c.args.text c.in-Some.text c.in-Ok.words c.in-Some.is c.in-Ok.ensures.spelled (sym c.if-begins_empty.ensures);
  refused = tt;
}

none-spelled : (text : Option (Bor (List ℕ))) (one : Bor (List ℕ)) → text ≡ Some one → IsNoLauncher one.now → HasNoLauncher (option_map (λ t. t.now) text)
none-spelled text one some bad = (one.now, ap (option_map (λ (t : Bor (List ℕ)). t.now)) some, bad)

pub returns-in_ok-refused-in-Ok-clause-refused : goal.returns-in_ok-refused-in-Ok-clause-refused
returns-in_ok-refused-in-Ok-clause-refused c =
    inr (none-spelled c.args.text c.in-Some.text c.in-Some.is (nameless c.in-Ok.words c.in-Ok.ensures.spelled (sym c.if-begins_empty.ensures)))

pub returns-in_ok-refused-in_default-fault : goal.returns-in_ok-refused-in_default-fault
returns-in_ok-refused-in_default-fault c = record {
  words = tt;
  refused = elim c.in-Err.ensures.spelled [
    | inl memory ↦ absurd (c.in_default-fault.not-Memory memory)
    | inr quote ↦ inr (none-spelled c.args.text c.in-Some.text c.in-Some.is (unspelled quote.1))
  ];
}
