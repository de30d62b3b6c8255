-- What `clap` answers to a call for help.
use Rattle.std.proofs.Common.{◌≡◌, ◌∙◌, ◌∷◌, [], Bool, List, true, false, refl, sym, ap, subst, codes, Bor}
use Rattle.std.specs.List.{list_any}
use Rattle.std.specs.Str.{bytes_eq}
use Rattle.std.proofs.lemmas.Slice.Eq.{bytes_eq-Decides}
use Rattle.clap.specs.Words.{App, Text, fault_of}
use Rattle.clap.specs.declared.error.ErrorKind.TheVariants.{DisplayHelp}
use Rattle.clap.proofs.OnLiterals.{clap_on_literals}
use Rattle.dag_main_args.specs.Matched.{command_names, drawn_names, is_text_among, made_names, page_names, told_names}
use Rattle.dag_main_args.specs.Table.{dagrun_app}
use Rattle.dag_main_args.specs.Helps.{IsUnhelpful}

-- what holds of each name holds of a name among them
abbrev Each : (Text → Type 0) → List Text → Type 0
Each P [] = Unit {0}
Each P (x ∷ xs) = P x × Each P xs

pick : (P : Text → Type 0) (names : List Text) (name : Text) → Each P names → list_any (bytes_eq name) names ≡ true → P name
pick P [] name each e = cc
pick P (x ∷ xs) name each e = go (bytes_eq name x) refl (λ rest. pick P xs name each.1 rest)
  where
    go : (b : Bool) → bytes_eq name x ≡ b → (list_any (bytes_eq name) xs ≡ true → P name) → P name
    go true is rest = subst P (sym ((bytes_eq-Decides name x).0 is)) each.0
    go false is rest = rest (rw is at e)

abbrev asks_help : Text → List Text
asks_help name = codes "dagrun" ∷ name ∷ codes "--help" ∷ []

abbrev IsHelped : (orphans progress : Bor (List (Bor Text))) → Text → Type 0
IsHelped orphans progress name = fault_of (dagrun_app false orphans progress) (asks_help name) ≡ DisplayHelp ∷ []

each_page_helped : (orphans progress : Bor (List (Bor Text))) → Each (IsHelped orphans progress) page_names
unfolding clap_on_literals
each_page_helped orphans progress = (refl, (refl, (refl, tt)))

each_made_helped : (orphans progress : Bor (List (Bor Text))) → Each (IsHelped orphans progress) made_names
unfolding clap_on_literals
each_made_helped orphans progress = (refl, (refl, each_page_helped orphans progress))

each_drawn_helped : (orphans progress : Bor (List (Bor Text))) → Each (IsHelped orphans progress) drawn_names
unfolding clap_on_literals
each_drawn_helped orphans progress = (refl, (refl, (refl, each_made_helped orphans progress)))

each_told_helped : (orphans progress : Bor (List (Bor Text))) → Each (IsHelped orphans progress) told_names
unfolding clap_on_literals
each_told_helped orphans progress = (refl, (refl, (refl, each_drawn_helped orphans progress)))

each_helped : (orphans progress : Bor (List (Bor Text))) → Each (IsHelped orphans progress) command_names
unfolding clap_on_literals
each_helped orphans progress = (refl, (refl, (refl, each_told_helped orphans progress)))

pub all_helped : (orphans progress : Bor (List (Bor Text))) → fault_of (dagrun_app false orphans progress) (codes "dagrun" ∷ codes "--help" ∷ []) ≡ DisplayHelp ∷ []
unfolding clap_on_literals
all_helped orphans progress = refl

-- clap answers by help, where it is called for without a command, and of each command
pub no_command_helped : IsUnhelpful (codes "dagrun" ∷ codes "--help" ∷ []) → ⊥
no_command_helped u =
    u.other (ap (λ (a : App). fault_of a (codes "dagrun" ∷ codes "--help" ∷ [])) u.table.table ∙ all_helped u.table.orphans u.table.progress)

pub no_such_command : (name : Text) → IsUnhelpful (asks_help name) → is_text_among command_names name ≡ false
no_such_command name u = go (is_text_among command_names name) refl
  where
    go : (b : Bool) → is_text_among command_names name ≡ b → is_text_among command_names name ≡ false
    go false e = e
    go true e = absurd (u.other (ap (λ (a : App). fault_of a (asks_help name)) u.table.table
        ∙ pick (IsHelped u.table.orphans u.table.progress) command_names name (each_helped u.table.orphans u.table.progress) e))
