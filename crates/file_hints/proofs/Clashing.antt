-- The clashes of one writer more.
use Rattle.std.proofs.Common.{◌≡◌, ◌∙◌, sym, ap, refl, subst, inl, inr, ℕ, ◌+◌, ◌<◌, List, [], ◌∷◌, ◌++◌, Option, Some, None, length, get_or, take, drop, append_assoc}
use Rattle.std.proofs.lemmas.List.{append-nil, take_more, drop_more}
use Rattle.splices_flat.specs.declared.flat.Edge.{Edge}
use Rattle.file_hints.specs.Outputs.{last_writer, a_clash, HasClash, AreClashes}
use Rattle.file_hints.specs.declared.outputs.Writer.{Writer}
use Rattle.file_hints.specs.declared.outputs.Clash.{Clash}

-- what is new among the clashes
abbrev IsNew : List Edge → Option Writer → Writer → (old new here : List Clash) → Type 0
IsNew edges other w old new here = HasClash edges other w [] here × (new ≡ old ++ here)

clash_here : (edges : List Edge) (other : Option Writer) (w : Writer) (old new : List Clash) → HasClash edges other w old new → (here : List Clash) × IsNew edges other w old new here
clash_here edges None w old new e = ([], (refl, e ∙ sym (append-nil old)))
clash_here edges (Some v) w old new (inl (ordered, e)) = ([], (inl (ordered, refl), e ∙ sym (append-nil old)))
clash_here edges (Some v) w old new (inr (not_ordered, e)) = (a_clash v w ∷ [], (inr (not_ordered, refl), e))

-- what is known of the writers so far
abbrev pub Leads : List Edge → List Writer → ℕ → List Clash → Type 0
Leads edges ws at found = (more : List Clash) → AreClashes edges (take at ws) (drop at ws) more → AreClashes edges [] ws (found ++ more)

pub one_more : (edges : List Edge) (ws : List Writer) (at : ℕ) (w : Writer) (old new : List Clash) → at < length ws → get_or ws at w ≡ w →
    HasClash edges (last_writer None (take at ws) w.path) w old new → Leads edges ws at old → Leads edges ws (at + 1) new
one_more edges ws at w old new lt is has so_far = λ more rest.
    let (here, (has_here, e)) = clash_here edges (last_writer None (take at ws) w.path) w old new has in
    let taken : take (at + 1) ws ≡ take at ws ++ w ∷ [] = take_more ws at w lt ∙ ap (λ (x : Writer). take at ws ++ x ∷ []) is in
    let dropped : drop at ws ≡ w ∷ drop (at + 1) ws = drop_more ws at w lt ∙ ap (λ (x : Writer). x ∷ drop (at + 1) ws) is in
    let behind = subst (λ (before : List Writer). AreClashes edges before (drop (at + 1) ws) more) taken rest in
    let step : AreClashes edges (take at ws) (w ∷ drop (at + 1) ws) (here ++ more) = (here, more, refl, has_here, behind) in
    let at_here = subst (λ (xs : List Writer). AreClashes edges (take at ws) xs (here ++ more)) (sym dropped) step in
    subst (λ (all : List Clash). AreClashes edges [] ws all) (sym (append_assoc old here more) ∙ ap (λ (xs : List Clash). xs ++ more) (sym e)) (so_far (here ++ more) at_here)

-- no writer is left
pub none_more : (edges : List Edge) (ws : List Writer) (at : ℕ) (found : List Clash) → drop at ws ≡ [] → Leads edges ws at found → AreClashes edges [] ws found
none_more edges ws at found e so_far =
    let rest : AreClashes edges (take at ws) (drop at ws) [] = subst (λ (xs : List Writer). AreClashes edges (take at ws) xs []) (sym e) refl in
    subst (λ (all : List Clash). AreClashes edges [] ws all) (append-nil found) (so_far [] rest)
