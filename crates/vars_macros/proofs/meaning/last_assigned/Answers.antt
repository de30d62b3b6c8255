use Rattle.std.proofs.Common.{◌≡◌, sym, refl, ℕ, nat_lt, List, length, get_or, Option, Some, None, is_some, IfSome, Bor}
use Rattle.std.proofs.lemmas.Bool.{ltb-true}
use Rattle.std.proofs.lemmas.Option.{slice_get_read}
use Rattle.vars_macros.specs.Each.{Each}
use Rattle.vars_macros.specs.Places.{HasPlaces}
use Rattle.vars_macros.specs.declared.assignment.Assigned.{Assigned}
use Rattle.vars_macros.specs.declared.numbering.Names.{Names}
use Rattle.vars_macros.proofs.meaning.last_assigned.Goals as goal

found : (names : Names) (all : List Assigned) (k : ℕ) (o : Option (Bor Assigned)) → is_some o ≡ nat_lt k (length all) →
    IfSome o (λ (a : Bor Assigned). a.now ≡ get_or all k a.now) → Each (HasPlaces names) all → IfSome o (λ (a : Bor Assigned). HasPlaces names a.now)
found names all k None some is each = tt
found names all k (Some a) some is each = each k a.now (slice_get_read all (length all) k a.now refl (ltb-true k (length all) (sym some)) is)

pub returns-in_ok-last-in-Numbered-clause-places : goal.returns-in_ok-last-in-Numbered-clause-places
returns-in_ok-last-in-Numbered-clause-places c =
    found c.args.names.now c.args.assigned.now c.in_ok-last-in-Numbered.field-0 c.get.result c.get.ensures.lookup.0 c.get.ensures.lookup.1 c.requires.places
