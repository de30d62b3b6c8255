use Rattle.std.proofs.Common.{arith, ◌≡◌, ◌∙◌, sym, ap, subst, ℕ, List, length}
use Rattle.std.proofs.lemmas.List.{length-map}
use Rattle.std.specs.Prelude.{string_bytes}
use Rattle.std.specs.Str.{IsUtf8}
use Rattle.vars_macros.specs.Names.{lower}
use Rattle.vars_macros.specs.NamePlaces.{AreNamesOf, name_at}
use Rattle.vars_macros.specs.NameTable.{place_in, IsGiven}
use Rattle.vars_macros.specs.Places.{macros_in}
use Rattle.vars_macros.specs.declared.assignment.Assigned.{Assigned}
use Rattle.vars_macros.proofs.Assigning.{known_kept, known_push}
use Rattle.vars_macros.proofs.NamesIn.{names_kept}
use Rattle.vars_macros.proofs.NameTables.{keeps_itself, keeps_on}
use Rattle.vars_macros.proofs.macros.Macros.assign.Goals as goal

pub invariant_of-self : goal.invariant_of-self
invariant_of-self c =
    let names = c.self.inside.names in
    known_kept names names c.self.inside.assigned.items c.make_room.new.all.items c.make_room.ensures.items (keeps_itself names) c.self.invariant

pub invariant_of-self-in_err-places : goal.invariant_of-self-in_err-places
invariant_of-self-in_err-places c =
    known_kept c.self.inside.names c.of-2.new.names c.self.inside.assigned.items c.make_room.new.all.items c.make_room.ensures.items c.in_err-places.ensures.keeps c.self.invariant

pub invariant_of-self-in_err-number : goal.invariant_of-self-in_err-number
invariant_of-self-in_err-number c =
    known_kept c.self.inside.names c.give.new.self c.self.inside.assigned.items c.make_room.new.all.items c.make_room.ensures.items
    (keeps_on c.self.inside.names c.of-2.new.names c.give.new.self c.in_ok-places.ensures.keeps c.in_err-number.ensures.keeps) c.self.invariant

pub invariant_of-self-2 : goal.invariant_of-self-2
invariant_of-self-2 c =
    let names = c.self.inside.names in
    let old = c.self.inside.assigned.items in
    let keeps = keeps_on names c.of-2.new.names c.give.new.self c.in_ok-places.ensures.keeps c.in_ok-number.ensures.keeps in
    let key : string_bytes c.in_ok-key.key ≡ lower c.in_ok-name.name = c.in_ok-key.ensures.ok ∙ ap lower (sym c.in_ok-name.ensures) in
    let text : c.as_bytes-text.result.now ≡ c.in_ok-value.value = c.as_bytes-text.ensures.value ∙ c.as_str.ensures in
    let places : AreNamesOf c.give.new.self c.in_ok-value.value (name_at c.in_ok-places.places) =
    names_kept c.of-2.new.names c.give.new.self c.in_ok-value.value (name_at c.in_ok-places.places) c.in_ok-number.ensures.keeps
    (subst (λ (t : List ℕ). AreNamesOf c.of-2.new.names t (name_at c.in_ok-places.places)) text c.in_ok-places.ensures.names) in
    let at : c.len-last.result ≡ length (macros_in old) =
    omega (arith, c.len-last.ensures, ap length c.make_room.ensures.items, c.make_room.new.all.ok, length-map old (λ (a : Assigned). a.one)) in
    let given : IsGiven (place_in c.give.new.self) (place_in c.assign.new.self) (lower c.in_ok-name.name) c.len-last.result =
    subst (λ (k : List ℕ). IsGiven (place_in c.give.new.self) (place_in c.assign.new.self) k c.len-last.result) key
    (c.assign.ensures.places (string_bytes c.in_ok-key.key) c.in_ok-number.ensures.given) in
    known_push _ names c.give.new.self c.assign.new.self old c.make_room.new.all.items c.push.new.all.items c.len-last.result c.make_room.ensures.items c.in_ok-push.ensures.ok at
    keeps c.self.invariant (subst IsUtf8 (sym c.in_ok-value.ensures) c.utf8.value) places c.assign.ensures.numbers given
