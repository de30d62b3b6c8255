use Rattle.std.proofs.Common.{◌≡◌, ◌∙◌, sym, ap, subst, ℕ, List, [], ◌∷◌, drop, Option, Some, option_map, IfSome}
use Rattle.vars_macros.specs.Names.{lower, is_reference_name}
use Rattle.vars_macros.specs.Cut.{reference_name}
use Rattle.vars_macros.specs.NameTable.{number_of_name}
use Rattle.vars_macros.specs.Pieces.{IsNamedBy}
use Rattle.vars_macros.specs.Scopes.{text_of_part}
use Rattle.vars_macros.specs.declared.cut.Naming.{Naming}
use Rattle.vars_macros.specs.declared.part.Part.{Part}
use Rattle.vars_macros.proofs.NamesIn.{named_whole, named_before, nothing_in, colon_first}
use Rattle.vars_macros.proofs.cut.known_reference.Goals as goal

pub returns-then-is_empty-clause-some : goal.returns-then-is_empty-clause-some
returns-then-is_empty-clause-some c =
    let inside = c.args.inside in
    let name = c.args.name in
    let none : drop name.len inside.bytes.now ≡ [] =
    sym (c.bytes-rest.ensures ∙ c.behind.ensures.bytes) ∙ nothing_in c.bytes-rest.result.now (sym c.is_empty.ensures ∙ c.if-is_empty.true) in
    let parts = named_whole inside.bytes.now name.len c.requires.lawful none in
    record {
      name = c.numbered.ensures.name ∙ parts.0;
      lawful = ap is_reference_name (sym parts.0) ∙ c.requires.lawful;
      naming = subst (λ (n : Naming). IsNamedBy inside.names.now (reference_name inside.bytes.now) n) (sym c.numbered.ensures.naming)
          (ap (λ (t : List ℕ). number_of_name inside.names.now (lower t)) (sym parts.0) ∙ c.requires.numbered);
      default = ap (λ (o : Option Part). option_map text_of_part o) c.numbered.ensures.default ∙ parts.1;
      names = subst (λ (o : Option Part). IfSome o (λ (t : Part). t.names.now ≡ inside.names.now)) (sym c.numbered.ensures.default) tt;
    }

pub returns-then-begins_with-clause-some : goal.returns-then-begins_with-clause-some
returns-then-begins_with-clause-some c =
    let inside = c.args.inside in
    let name = c.args.name in
    let rest = c.bytes-rest.result.now in
    let next : drop name.len inside.bytes.now ≡ 58 ∷ drop 1 rest =
    sym (c.bytes-rest.ensures ∙ c.behind.ensures.bytes) ∙ colon_first rest (sym c.begins_with.ensures ∙ c.if-begins_with.true) in
    let parts = named_before inside.bytes.now (drop 1 rest) name.len c.requires.within c.requires.lawful next in
    let default = c.numbered-then-begins_with.ensures.default in
    record {
      name = c.numbered-then-begins_with.ensures.name ∙ parts.0;
      lawful = ap is_reference_name (sym parts.0) ∙ c.requires.lawful;
      naming = subst (λ (n : Naming). IsNamedBy inside.names.now (reference_name inside.bytes.now) n) (sym c.numbered-then-begins_with.ensures.naming)
          (ap (λ (t : List ℕ). number_of_name inside.names.now (lower t)) (sym parts.0) ∙ c.requires.numbered);
      default = ap (λ (o : Option Part). option_map text_of_part o) default ∙ ap Some c.behind-default.ensures.bytes ∙ parts.1;
      names = subst (λ (o : Option Part). IfSome o (λ (t : Part). t.names.now ≡ inside.names.now)) (sym default) c.behind-default.ensures.names;
    }
