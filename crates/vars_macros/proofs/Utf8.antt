-- What is cut out of a UTF-8 text at ASCII bytes is UTF-8.
use Rattle.std.proofs.Common.{◌≡◌, ℕ, zero, suc, ◌+◌, ◌<◌, List, [], ◌∷◌, ◌++◌, length, take, drop, get_or, refl, sym, ap, subst, arith, append_assoc, add-one}
use Rattle.std.proofs.lemmas.Str.{IsUtf8-append, IsUtf8-take, IsUtf8-drop, IsUtf8-from_ascii, IsCharBoundary-before_ascii, IsCharBoundary-after_ascii}
use Rattle.std.specs.List.{slice_index}
use Rattle.std.specs.Str.{IsUtf8}

-- before an ASCII byte, and after it
pub utf8_before : (bs : List ℕ) (i c : ℕ) → IsUtf8 bs → i < length bs → get_or bs i 0 ≡ c → c < 128 → IsUtf8 (take i bs)
utf8_before bs i c u lt e low = IsUtf8-take bs i u (IsCharBoundary-before_ascii bs i lt (omega (arith, e)))

pub utf8_behind : (bs : List ℕ) (i c : ℕ) → IsUtf8 bs → i < length bs → get_or bs i 0 ≡ c → c < 128 → IsUtf8 (drop (i + 1) bs)
utf8_behind bs i c u lt e low = IsUtf8-drop bs (i + 1) u (IsCharBoundary-after_ascii bs i u lt (omega (arith, e)))

take_front : (xs ys : List ℕ) → take (length xs) (xs ++ ys) ≡ xs
take_front [] ys = refl
take_front (x ∷ xs) ys = ap (λ (zs : List ℕ). x ∷ zs) (take_front xs ys)

drop_past : (xs ys : List ℕ) (c : ℕ) → drop (suc (length xs)) (xs ++ c ∷ ys) ≡ ys
drop_past [] ys c = refl
drop_past (x ∷ xs) ys c = drop_past xs ys c

get_seam : (xs ys : List ℕ) (c : ℕ) → get_or (xs ++ c ∷ ys) (length xs) 0 ≡ c
get_seam [] ys c = refl
get_seam (x ∷ xs) ys c = get_seam xs ys c

within_seam : (xs ys : List ℕ) (c : ℕ) → length xs < length (xs ++ c ∷ ys)
within_seam [] ys c = omega arith
within_seam (x ∷ xs) ys c = let below = within_seam xs ys c in omega arith

-- the same of an ASCII byte between two texts
pub seam_before : (xs ys : List ℕ) (c : ℕ) → c < 128 → IsUtf8 (xs ++ c ∷ ys) → IsUtf8 xs
seam_before xs ys c low u =
    let at = get_seam xs ys c in
    subst IsUtf8 (take_front xs (c ∷ ys)) (IsUtf8-take (xs ++ c ∷ ys) (length xs) u (IsCharBoundary-before_ascii (xs ++ c ∷ ys) (length xs) (within_seam xs ys c) (omega (arith, at))))

pub seam_behind : (xs ys : List ℕ) (c : ℕ) → c < 128 → IsUtf8 (xs ++ c ∷ ys) → IsUtf8 ys
seam_behind xs ys c low u =
    let rest : drop (length xs + 1) (xs ++ c ∷ ys) ≡ ys = rw add-one (drop_past xs ys c) in
    subst IsUtf8 rest (utf8_behind (xs ++ c ∷ ys) (length xs) c u (within_seam xs ys c) (get_seam xs ys c) low)

one_ascii : (c : ℕ) → c < 128 → (i : ℕ) → slice_index (c ∷ []) i < 128
one_ascii c low zero = low
one_ascii c low (suc i) = omega arith

pub one_byte : (c : ℕ) → c < 128 → IsUtf8 (c ∷ [])
one_byte c low = IsUtf8-from_ascii (c ∷ []) (one_ascii c low)

-- an ASCII byte less
pub without : (xs ys : List ℕ) (c : ℕ) → c < 128 → IsUtf8 (xs ++ c ∷ ys) → IsUtf8 (xs ++ ys)
without xs ys c low u = IsUtf8-append xs ys (seam_before xs ys c low u) (seam_behind xs ys c low u)

-- an ASCII byte in place of another
pub replaced : (xs ys : List ℕ) (b c : ℕ) → b < 128 → c < 128 → IsUtf8 (xs ++ b ∷ ys) → IsUtf8 ((xs ++ c ∷ []) ++ ys)
replaced xs ys b c low small u = IsUtf8-append (xs ++ c ∷ []) ys (IsUtf8-append xs (c ∷ []) (seam_before xs ys b low u) (one_byte c small)) (seam_behind xs ys b low u)

-- a byte that goes from one to the other
pub moved : (xs ys : List ℕ) (b : ℕ) → IsUtf8 (xs ++ b ∷ ys) → IsUtf8 ((xs ++ b ∷ []) ++ ys)
moved xs ys b u = subst IsUtf8 (sym (append_assoc xs (b ∷ []) ys)) u
