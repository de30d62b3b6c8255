-- The marks of the nodes that stand on a side of an edge.
use Rattle.std.proofs.Common.{◌≡◌, ℕ, suc, ◌+◌, ◌<◌, Bool, true, false, not, cond, if◌then◌else◌, List, [], ◌∷◌, ◌++◌, length, get_or, take, refl, sym, ap, ◌∙◌, arith, add-zero, append_assoc}
use Rattle.std.proofs.lemmas.Grind.{common_steps}
use Rattle.std.proofs.lemmas.List.{take_more, append-nil}
use Rattle.splices_flat.specs.declared.flat.Edge.{Edge}
use Rattle.splices_flat.specs.declared.flat.Side.{Side}
use Rattle.splices_flat.specs.Places.{is_end, free_of, AreSideMarks, unmarked_from}

abbrev here : ℕ → Bool → List ℕ
here n marked = if marked then [] else n ∷ []

pub unmarked-push : (first : ℕ) (xs : List Bool) (y : Bool) → unmarked_from first (xs ++ y ∷ []) ≡ unmarked_from first xs ++ here (first + length xs) y
unmarked-push first [] y = simp (append-nil, add-zero)
unmarked-push first (x ∷ xs) y =
    let shift : first + 1 + length xs ≡ first + suc (length xs) = omega arith in
    ap (λ (ns : List ℕ). here first x ++ ns) (unmarked-push (first + 1) xs y ∙ ap (λ (n : ℕ). unmarked_from (first + 1) xs ++ here n y) shift)
    ∙ sym (append_assoc (here first x) (unmarked_from (first + 1) xs) (here (first + length (x ∷ xs)) y))

pub unmarked_more : (first i : ℕ) (marks : List Bool) (d : Bool) → i < length marks → unmarked_from first (take (i + 1) marks) ≡ unmarked_from first (take i marks) ++ here (first + i) (get_or marks i d)
unmarked_more first i marks d small =
    let len : length (take i marks) ≡ i = grind (arith, common_steps) in
    ap (unmarked_from first) (take_more marks i d small) ∙ unmarked-push first (take i marks) (get_or marks i d)
    ∙ ap (λ (n : ℕ). unmarked_from first (take i marks) ++ here (first + n) (get_or marks i d)) len

pub unmarked_step : (first i : ℕ) (marks : List Bool) (d : Bool) → i < length marks → get_or marks i d ≡ false → unmarked_from first (take (i + 1) marks) ≡ unmarked_from first (take i marks) ++ (first + i) ∷ []
unmarked_step first i marks d small is = unmarked_more first i marks d small ∙ ap (λ (b : Bool). unmarked_from first (take i marks) ++ here (first + i) b) is

pub marked_step : (first i : ℕ) (marks : List Bool) (d : Bool) → i < length marks → get_or marks i d ≡ true → unmarked_from first (take (i + 1) marks) ≡ unmarked_from first (take i marks)
marked_step first i marks d small is = unmarked_more first i marks d small ∙ ap (λ (b : Bool). unmarked_from first (take i marks) ++ here (first + i) b) is ∙ append-nil (unmarked_from first (take i marks))

shorter : (first : ℕ) (side : Side) (edges : List Edge) (x : Bool) (xs : List Bool) → AreSideMarks side first edges (x ∷ xs) → AreSideMarks side (first + 1) edges xs
shorter first side edges x xs are = λ k small.
    let shift : first + suc k ≡ first + 1 + k = omega arith in
    are (suc k) (omega arith) ∙ ap (is_end side edges) shift

here_is : (n : ℕ) (x y : Bool) (ns ms : List ℕ) → x ≡ y → ns ≡ ms → here n x ++ ns ≡ cond (not y) (n ∷ ms) ms
here_is n true true ns ms e f = f
here_is n false false ns ms e f = ap (λ (xs : List ℕ). n ∷ xs) f
here_is n true false ns ms e f = absurd cc
here_is n false true ns ms e f = absurd cc

pub unmarked_is : (side : Side) (first : ℕ) (edges : List Edge) (marks : List Bool) → AreSideMarks side first edges marks → unmarked_from first marks ≡ free_of side first (length marks) edges
unmarked_is side first edges [] are = refl
unmarked_is side first edges (x ∷ xs) are =
    let none : first + 0 ≡ first = omega arith in
    here_is first x (is_end side edges first) _ _ (are 0 (omega arith) ∙ ap (is_end side edges) none) (unmarked_is side (first + 1) edges xs (shorter first side edges x xs are))
