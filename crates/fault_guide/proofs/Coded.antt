-- The codes of tables, one after another, and which code is that of a fault.
use Rattle.std.proofs.Common.{◌≡◌, ◌+◌, ◌<◌, ◌≤◌, ℕ, Bool, true, false, Some, List, [], ◌∷◌, ◌++◌, ◌||◌, ◌&&◌, not, if◌then◌else◌, Bor, map, take, get_or, length, arith, refl, sym, ap, ap₂, ◌∙◌}
use Rattle.std.specs.Prelude.{find}
use Rattle.std.specs.List.{flat_map, list_any}
use Rattle.std.specs.Option.{is_some}
use Rattle.std.proofs.lemmas.List.{take_more, flat_map_more}
use Rattle.fault_guide.specs.Codes.{AreAllFaults, all_codes, code_of_fault, file_codes, inner_file_codes, inner_part_codes, inner_run_codes, is_code, is_same_code, job_codes, lent_codes, line_codes, round_codes, running_codes}
use Rattle.fault_guide.specs.Guide.{has_code}
use Rattle.fault_guide.specs.declared.guide.Fault.{Fault}

abbrev pub codes_of_table : Bor (List Fault) → List (List ℕ)
codes_of_table table = map code_of_fault table.now

abbrev pub codes_of_tables : List (Bor (List Fault)) → List (List ℕ)
codes_of_tables tables = flat_map codes_of_table tables

-- one table more
pub table-more : (tables : List (Bor (List Fault))) (i : ℕ) (d : Bor (List Fault)) (old now : List (List ℕ)) → i < length tables → old ≡ codes_of_tables (take i tables)
    → now ≡ old ++ codes_of_table (get_or tables i d) → now ≡ codes_of_tables (take (i + 1) tables)
table-more tables i d old now less was is =
    is ∙ (ap (λ (front : List (List ℕ)). front ++ codes_of_table (get_or tables i d)) was
    ∙ (flat_map_more codes_of_table [] (take i tables) (get_or tables i d) ∙ ap codes_of_tables (sym (take_more tables i d less))))

-- all eight
pub all-tables : (a b c d e f g h : Bor (List Fault)) (i : ℕ) (now : List (List ℕ)) → i ≤ 8 → 8 ≤ i
    → now ≡ codes_of_tables (take i (a ∷ b ∷ c ∷ d ∷ e ∷ f ∷ g ∷ h ∷ []))
    → codes_of_table a ≡ line_codes → codes_of_table b ≡ file_codes → codes_of_table c ≡ job_codes → codes_of_table d ≡ round_codes
    → codes_of_table e ≡ running_codes → codes_of_table f ≡ inner_file_codes → codes_of_table g ≡ inner_part_codes → codes_of_table h ≡ inner_run_codes
    → now ≡ all_codes
all-tables a b c d e f g h i now most least is of_a of_b of_c of_d of_e of_f of_g of_h =
    let at : i ≡ 8 = omega arith in
    is ∙ (ap (λ (n : ℕ). codes_of_tables (take n (a ∷ b ∷ c ∷ d ∷ e ∷ f ∷ g ∷ h ∷ []))) at
    ∙ ap₂ (λ x y. x ++ y) of_a (ap₂ (λ x y. x ++ y) of_b (ap₂ (λ x y. x ++ y) of_c (ap₂ (λ x y. x ++ y) of_d
    (ap₂ (λ x y. x ++ y) of_e (ap₂ (λ x y. x ++ y) of_f (ap₂ (λ x y. x ++ y) of_g (ap (λ x. x ++ []) of_h))))))))

-- a code is found where one of the faults has it
found-any : (faults : List (Bor Fault)) (code : List ℕ) → is_some (find (λ f. has_code code f.now) faults) ≡ list_any (is_same_code code) (lent_codes faults)
found-any [] code = refl
found-any (fault ∷ faults) code =
    elim (has_code code fault.now) as (λ b. is_some (if b then Some fault else find (λ f. has_code code f.now) faults) ≡ (b || list_any (is_same_code code) (lent_codes faults))) [
      | true ↦ refl
      | false ↦ found-any faults code
    ]

-- A fault is found for each of the codes, and for no other one.
pub found-code : (faults : List (Bor Fault)) (code : List ℕ) → AreAllFaults faults → is_some (find (λ f. has_code code f.now) faults) ≡ is_code code
found-code faults code all = found-any faults code ∙ ap (list_any (is_same_code code)) all

-- Each code is that of one fault.
abbrev each-once : List (List ℕ) → Bool
each-once [] = true
each-once (code ∷ others) = not (list_any (is_same_code code) others) && each-once others

pub codes-apart : each-once all_codes ≡ true
codes-apart = refl
