use Rattle.std.proofs.Common.{arith, ◌≡◌, ◌+◌, ◌∙◌, sym, ap, ℕ, List, length, Option, Some, None, cond}
use Rattle.std.proofs.lemmas.List.{length_push}
use Rattle.std.proofs.lemmas.Map.Text.{hash_map_updates_text, is_text}
use Rattle.std.specs.Map.{lookup}
use Rattle.std.specs.HashMap.{get_by_text}
use Rattle.std.specs.Prelude.{string_bytes}
use Rattle.std.specs.Str.{bytes_eq}
use Rattle.vars_macros.specs.Numbering.{NumbersAreApart}
use Rattle.vars_macros.specs.NameTable.{number_of_name, IsGiven}
use Rattle.vars_macros.proofs.NameTables.{either, apart_given, apart_below, keeps_room, keeps_given}
use Rattle.vars_macros.proofs.numbering.Names.give.Goals as goal

pub invariant_of-self-2 : goal.invariant_of-self-2
invariant_of-self-2 c =
    let old = c.args.self.now in
    let number : List ℕ → Option ℕ = λ (key : List ℕ). number_of_name old key in
    let count = length old.last.items in
    let room : length c.push.new.self.items ≡ count + 1 = ap length c.in_ok-push.ensures.items ∙ length_push old.last.items None in
    let is : NumbersAreApart (get_by_text c.insert.new.self) (count + 1) =
    either c.insert.result c.insert.ensures.updates c.insert.ensures.err
    (λ updates. apart_given number (get_by_text c.insert.new.self) (string_bytes c.args.key) count old.apart
    (λ name. hash_map_updates_text (string_bytes c.args.key) old.numbers c.insert.new.self (Some c.len-number.result) updates name
    ∙ ap (λ (n : ℕ). cond (bytes_eq (string_bytes c.args.key) name) (Some n) (number name)) (omega (arith, c.len-number.ensures, old.last.ok))))
    (λ same. apart_below number (get_by_text c.insert.new.self) count old.apart (λ name. ap (lookup (is_text name)) same)) in
    record { apart = rw room is }

pub returns-in_err-insert-clause-keeps : goal.returns-in_err-insert-clause-keeps
returns-in_err-insert-clause-keeps c = keeps_room c.args.self.now _ (λ name. ap (lookup (is_text name)) c.in_err-insert.ensures.err) c.in_ok-push.ensures.items

pub returns-clause-keeps : goal.returns-clause-keeps
returns-clause-keeps c =
    let old = c.args.self.now in
    let none : number_of_name old (string_bytes c.args.key) ≡ None =
    ap (number_of_name old) (sym c.as_str.ensures.value) ∙ sym c.number.ensures ∙ c.in_default.is in
    let given : IsGiven (number_of_name old) (get_by_text c.insert.new.self) (string_bytes c.args.key) (length old.last.items) =
    λ name. hash_map_updates_text (string_bytes c.args.key) old.numbers c.insert.new.self (Some c.len-number.result) c.in_ok-insert.ensures.updates name
    ∙ ap (λ (n : ℕ). cond (bytes_eq (string_bytes c.args.key) name) (Some n) (number_of_name old name)) (omega (arith, c.len-number.ensures, old.last.ok)) in
    keeps_given old _ (string_bytes c.args.key) none given c.in_ok-push.ensures.items
