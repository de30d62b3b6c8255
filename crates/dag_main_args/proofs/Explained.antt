-- The pages of faults.
use Rattle.std.proofs.Common.{◌≡◌, ◌∙◌, ℕ, List, Option, Some, None, Bor, map, find, option_map, is_some, ap, sym, subst}
use Rattle.fault_guide.proofs.Coded.{found-code}
use Rattle.fault_guide.specs.Codes.{AreAllFaults}
use Rattle.fault_guide.specs.declared.guide.Fault.{Fault}
use Rattle.fault_guide.specs.Guide.{has_code, page_text, list_text}
use Rattle.dag_main_args.specs.Pages.{IsExplained, IsUnexplained, all, no_fault, one}

pub all-listed : (faults : List (Bor Fault)) (code : Option (Bor (List ℕ))) (text : List ℕ) → AreAllFaults faults → code ≡ None
    → text ≡ list_text (map (λ f. f.now) faults) → IsExplained (option_map (λ c. c.now) code) text
all-listed faults code text are_all none is =
    subst (λ o. IsExplained (option_map (λ (c : Bor (List ℕ)). c.now) o) text) (sym none) (subst (IsExplained None) (sym is) (all faults are_all))

pub one-told : (faults : List (Bor Fault)) (code : Option (Bor (List ℕ))) (given : Bor (List ℕ)) (fault : Bor Fault) (text : List ℕ)
    → AreAllFaults faults → code ≡ Some given → find (λ f. has_code given.now f.now) faults ≡ Some fault → text ≡ page_text fault.now
    → IsExplained (option_map (λ c. c.now) code) text
one-told faults code given fault text are_all some found is =
    subst (λ o. IsExplained (option_map (λ (c : Bor (List ℕ)). c.now) o) text) (sym some)
    (subst (IsExplained (Some given.now)) (sym is) (one faults given.now fault are_all found))

pub none-told : (faults : List (Bor Fault)) (code : Option (Bor (List ℕ))) (given : Bor (List ℕ)) → AreAllFaults faults → code ≡ Some given
    → find (λ f. has_code given.now f.now) faults ≡ None → IsUnexplained (option_map (λ c. c.now) code)
none-told faults code given are_all some none =
    subst (λ o. IsUnexplained (option_map (λ (c : Bor (List ℕ)). c.now) o)) (sym some)
    (no_fault given.now (sym (found-code faults given.now are_all) ∙ ap is_some none))
