-- Notices that are kept once.
use Rattle.std.proofs.Common.{◌≡◌, ℕ, ◌≤◌, Bool, true, false, not, ◌||◌, ◌&&◌, ◌++◌, List, [], ◌∷◌, length, map, take, refl, ap, ◌∙◌, arith, if◌then◌else◌}
use Rattle.std.proofs.lemmas.Grind.{common_steps}
use Rattle.std.proofs.lemmas.List.{map-append}
use Rattle.std.specs.List.{list_any}
use mathlib.Core.Bool.{beq}
use Rattle.splices.specs.contracts.notices.NoticePartialEq.TheImpl as kept
use Rattle.splices.specs.declared.notices.Notice.{Notice as KeptNotice}
use Rattle.splices_flat.specs.declared.flat.DagWarning.{DagWarning}
use Rattle.splices_flat.specs.Notices.{Notice, same_notice, same_place, warning_of}
use Rattle.splices.specs.NoticeSets.{notice_of, notice_place}

any_same : {X Y : Type 0} (f : X → Y) (p : X → Bool) (q : Y → Bool) (xs : List X) → ((x : X) → p x ≡ q (f x)) → list_any p xs ≡ list_any q (map f xs)
any_same f p q [] same = refl
any_same f p q (x ∷ xs) same = ap (λ b. b || list_any p xs) (same x) ∙ ap (λ b. q (f x) || b) (any_same f p q xs same)

map_if : {X Y : Type 0} (f : X → Y) (b : Bool) (xs ys : List X) → map f (if b then xs else ys) ≡ (if b then map f xs else map f ys)
map_if f true xs ys = refl
map_if f false xs ys = refl

-- one more is kept, unless it is there
pub kept_once : {X Y : Type 0} (f : X → Y) (equal : X → X → Bool) (same : Y → Y → Bool) (x : X) (new old : List X) (seen : List Y) → ((a b : X) → equal a b ≡ same (f a) (f b)) → map f old ≡ seen → new ≡ (if list_any (equal x) old then old else old ++ x ∷ []) → map f new ≡ (if list_any (same (f x)) seen then seen else seen ++ f x ∷ [])
kept_once f equal same x new old seen h view is =
    ap (map f) is ∙ map_if f (list_any (equal x) old) old (old ++ x ∷ [])
    ∙ ap (λ b. if b then map f old else map f (old ++ x ∷ [])) (any_same f (equal x) (same (f x)) old (h x))
    ∙ ap (λ ys. if list_any (same (f x)) (map f old) then map f old else ys) (map-append f old (x ∷ []))
    ∙ ap (λ ys. if list_any (same (f x)) ys then ys else ys ++ f x ∷ []) view

bool_same : (a b : Bool) → beq a b ≡ (if a then b else not b)
bool_same true true = refl
bool_same true false = refl
bool_same false true = refl
bool_same false false = refl

-- what `==` says of notices
pub notice_same : (a b : KeptNotice) → (kept.ghosts).eq a b ≡ same_notice (notice_of a) (notice_of b)
notice_same a b = ap (λ same. same_place (notice_place a.warned) (notice_place b.warned) && (same_place (notice_place a.by) (notice_place b.by) && same)) (bool_same a.is_ignored b.is_ignored)

twice : {X Y Z : Type 0} (f : X → Y) (g : Y → Z) (xs : List X) → map (λ x. g (f x)) xs ≡ map g (map f xs)
twice f g [] = refl
twice f g (x ∷ xs) = ap (λ zs. g (f x) ∷ zs) (twice f g xs)

-- the warnings of all notices that are kept
pub warnings_are : (items keys : List KeptNotice) (seen : List Notice) (i : ℕ) (warnings : List DagWarning) → items ≡ keys → map notice_of keys ≡ seen → length items ≤ i → warnings ≡ map (λ n. warning_of (notice_of n)) (take i items) → warnings ≡ map warning_of seen
warnings_are items keys seen i warnings are view far is =
    let whole : take i items ≡ items = grind (arith, common_steps) in
    is ∙ ap (map (λ n. warning_of (notice_of n))) (whole ∙ are) ∙ twice notice_of warning_of keys ∙ ap (map warning_of) view
