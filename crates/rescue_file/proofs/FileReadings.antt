-- What reading lines finds is said there, and where it stops is the first bad line.
use Rattle.std.proofs.Common.{◌≡◌, ℕ, suc, ◌+◌, ◌<◌, ◌⊎◌, inl, inr, List, [], ◌∷◌, ◌++◌, length, Option, None, Some, Result, Ok, Err, IfOk, IfErr, refl, sym, ap, subst, ◌∙◌, arith, append_assoc}
use Rattle.std.proofs.lemmas.List.{append-nil}
use Rattle.std.proofs.lemmas.List.Elements.{All-nil, All-cons}
use Rattle.std.specs.List.{All}
use Rattle.std.specs.Option.{option_to_list}
use Rattle.std.specs.Str.Lines.{lines}
use Rattle.splices_flat.specs.Dag.{Dag}
use Rattle.rescue_file.specs.declared.fault.RescueFault.{RescueFault}
use Rattle.rescue_file.specs.declared.fault.RescueFault.TheVariants.{BadLine, UnknownNode, FinalDone, NotThere, Memory}
use Rattle.rescue_file.specs.Grammar.{SayNodes, IsFirstBadName}
use Rattle.rescue_file.specs.Reading.{◌>>=◌, rescue_line_at, rescue_lines_at, rescued_of, Fails, Gives}
use Rattle.rescue_file.proofs.LineReadings.{good, line_ordinary}

-- where reading stops
abbrev StopsAt : Dag → ℕ → List (List ℕ) → RescueFault → Type 0
StopsAt dag number ls fault = (front : List (List ℕ)) × (line : List ℕ) × (back : List (List ℕ)) × (nodes : List ℕ)
    × (ls ≡ front ++ line ∷ back) × SayNodes dag number front nodes × (rescue_line_at dag (number + length front) line ≡ Err fault)

abbrev LinesAre : Dag → ℕ → List (List ℕ) → Result (List ℕ) RescueFault → Type 0
LinesAre dag number ls (Ok nodes) = SayNodes dag number ls nodes
LinesAre dag number ls (Err fault) = StopsAt dag number ls fault

-- the first line, and the others
both : (dag : Dag) (number : ℕ) (line : List ℕ) (more : List (List ℕ)) (first : Result (Option ℕ) RescueFault) (others : Result (List ℕ) RescueFault) → rescue_line_at dag number line ≡ first → LinesAre dag (number + 1) more others
    → LinesAre dag number (line ∷ more) (first >>= λ o. others >>= λ ns. Ok (option_to_list o ++ ns))
both dag number line more (Err e) others here later =
    let at : number + 0 ≡ number = omega arith in
    ([], line, more, [], refl, refl, ap (λ (n : ℕ). rescue_line_at dag n line) at ∙ here)
both dag number line more (Ok o) (Ok ns) here later = (o, ns, here, later, refl)
both dag number line more (Ok o) (Err e) here (front, l, back, nodes, split, all, stop) =
    let at : number + suc (length front) ≡ number + 1 + length front = omega arith in
    (line ∷ front, l, back, option_to_list o ++ nodes, ap (λ (xs : List (List ℕ)). line ∷ xs) split, (o, nodes, here, all, refl), ap (λ (n : ℕ). rescue_line_at dag n l) at ∙ stop)

lines_are : (dag : Dag) (number : ℕ) (ls : List (List ℕ)) → LinesAre dag number ls (rescue_lines_at dag number ls)
unfolding rescue_lines_at
lines_are dag number [] = refl
lines_are dag number (line ∷ more) =
    both dag number line more (rescue_line_at dag number line) (rescue_lines_at dag (number + 1) more) refl (lines_are dag (number + 1) more)

pub lines_again : (dag : Dag) (number : ℕ) (ls : List (List ℕ)) (nodes : List ℕ) → SayNodes dag number ls nodes → rescue_lines_at dag number ls ≡ Ok nodes
unfolding rescue_lines_at
lines_again dag number [] nodes e = ap (λ (ns : List ℕ). good ns) (sym e)
lines_again dag number (line ∷ more) nodes (first, others, says, all, e) =
    rw (says, lines_again dag (number + 1) more others all) (ap (λ (ns : List ℕ). good ns) (sym e))

stops_again : (dag : Dag) (number : ℕ) (front : List (List ℕ)) (line : List ℕ) (back : List (List ℕ)) (nodes : List ℕ) (fault : RescueFault) → SayNodes dag number front nodes
    → rescue_line_at dag (number + length front) line ≡ Err fault → rescue_lines_at dag number (front ++ line ∷ back) ≡ Err fault
unfolding rescue_lines_at
stops_again dag number [] line back nodes fault all is =
    let at : number ≡ number + 0 = omega arith in
    let here : rescue_line_at dag number line ≡ Err fault = ap (λ (n : ℕ). rescue_line_at dag n line) at ∙ is in
    rw here refl
stops_again dag number (x ∷ front) line back nodes fault (first, others, says, all, e) is =
    let at : number + 1 + length front ≡ number + suc (length front) = omega arith in
    let there : rescue_line_at dag (number + 1 + length front) line ≡ Err fault = ap (λ (n : ℕ). rescue_line_at dag n line) at ∙ is in
    rw (says, stops_again dag (number + 1) front line back others fault all there) refl

first_bad_again : (dag : Dag) (ls : List (List ℕ)) (fault : RescueFault) → IsFirstBadName dag ls fault → rescue_lines_at dag 1 ls ≡ Err fault
first_bad_again dag ls fault (front, line, back, nodes, split, all, is) = ap (rescue_lines_at dag 1) split ∙ stops_again dag 1 front line back nodes fault all is

-- Each node is an ordinary one.
with_first : (dag : Dag) (number : ℕ) (line : List ℕ) (o : Option ℕ) (ns : List ℕ) → rescue_line_at dag number line ≡ Ok o → All (λ node. node < length dag.nodes) ns → All (λ node. node < length dag.nodes) (option_to_list o ++ ns)
with_first dag number line None ns says all = all
with_first dag number line (Some node) ns says all = All-cons (λ n. n < length dag.nodes) node ns (line_ordinary dag number line node says) all

are_ordinary : (dag : Dag) (number : ℕ) (ls : List (List ℕ)) (nodes : List ℕ) → SayNodes dag number ls nodes → All (λ node. node < length dag.nodes) nodes
are_ordinary dag number [] nodes e = subst (All (λ node. node < length dag.nodes)) (sym e) (All-nil (λ node. node < length dag.nodes))
are_ordinary dag number (line ∷ more) nodes (first, others, says, all, e) =
    subst (All (λ node. node < length dag.nodes)) (sym e) (with_first dag number line first others says (are_ordinary dag (number + 1) more others all))

-- What a call that gives what reading gives has found, or why it stopped.
module _ {X : Type 0} (view : X → List ℕ) (dag : Dag) (bytes : List ℕ) where
  pub is_found : (r : Result X RescueFault) → Gives view r (rescued_of dag bytes) → IfOk r (λ x. SayNodes dag 1 (lines bytes) (view x))
  is_found (Ok x) h = subst (LinesAre dag 1 (lines bytes)) h (lines_are dag 1 (lines bytes))
  is_found (Err e) h = tt

  pub is_ordinary : (r : Result X RescueFault) → Gives view r (rescued_of dag bytes) → IfOk r (λ x. All (λ node. node < length dag.nodes) (view x))
  is_ordinary (Ok x) h = are_ordinary dag 1 (lines bytes) (view x) (is_found (Ok x) h)
  is_ordinary (Err e) h = tt

  pub only_these : (r : Result X RescueFault) → Gives view r (rescued_of dag bytes) → (nodes : List ℕ) → SayNodes dag 1 (lines bytes) nodes → Gives view r (Ok nodes)
  only_these r h nodes says = subst (Gives view r) (lines_again dag 1 (lines bytes) nodes says) h

  pub is_refused : (r : Result X RescueFault) → Gives view r (rescued_of dag bytes) → (fault : RescueFault) → IsFirstBadName dag (lines bytes) fault → Gives view r (Err fault)
  is_refused r h fault first = subst (Gives view r) (first_bad_again dag (lines bytes) fault first) h

  stopped : (fault : RescueFault) → rescued_of dag bytes ≡ Err fault → (fault ≡ Memory) ⊎ IsFirstBadName dag (lines bytes) fault
  stopped fault e = inr (subst (LinesAre dag 1 (lines bytes)) e (lines_are dag 1 (lines bytes)))

  pub is_stopped : (r : Result X RescueFault) → Gives view r (rescued_of dag bytes) → IfErr r (λ fault. (fault ≡ Memory) ⊎ IsFirstBadName dag (lines bytes) fault)
  is_stopped (Ok x) h = tt
  is_stopped (Err Memory) h = inl refl
  is_stopped (Err (BadLine n)) h = stopped (BadLine n) h
  is_stopped (Err (UnknownNode n)) h = stopped (UnknownNode n) h
  is_stopped (Err (FinalDone n)) h = stopped (FinalDone n) h
  is_stopped (Err (NotThere n)) h = stopped (NotThere n) h

-- Reading line by line, as the loop does: what was read before, and what is still read.
abbrev pub with_front : List ℕ → Result (List ℕ) RescueFault → Result (List ℕ) RescueFault
with_front front read = read >>= λ more. Ok (front ++ more)

nothing_before : (r : Result (List ℕ) RescueFault) → with_front [] r ≡ r
nothing_before (Ok nodes) = refl
nothing_before (Err e) = refl

pub begins : (dag : Dag) (bytes : List ℕ) → with_front [] (rescue_lines_at dag 1 (lines bytes)) ≡ rescued_of dag bytes
begins dag bytes = nothing_before (rescue_lines_at dag 1 (lines bytes))

regroup : (front : List ℕ) (o : Option ℕ) (r : Result (List ℕ) RescueFault) → with_front front (r >>= λ ns. Ok (option_to_list o ++ ns)) ≡ with_front (front ++ option_to_list o) r
regroup front o (Ok ns) = ap (λ (xs : List ℕ). good xs) (sym (append_assoc front (option_to_list o) ns))
regroup front o (Err e) = refl

pub goes_on : (dag : Dag) (front : List ℕ) (number : ℕ) (text line after : List ℕ) (o : Option ℕ) (total : Result (List ℕ) RescueFault) → lines text ≡ line ∷ lines after → rescue_line_at dag number line ≡ Ok o
    → with_front front (rescue_lines_at dag number (lines text)) ≡ total → with_front (front ++ option_to_list o) (rescue_lines_at dag (number + 1) (lines after)) ≡ total
unfolding rescue_lines_at
goes_on dag front number text line after o total split read so_far =
    sym (ap (λ (ls : List (List ℕ)). with_front front (rescue_lines_at dag number ls)) split ∙ rw read (regroup front o (rescue_lines_at dag (number + 1) (lines after)))) ∙ so_far

pub ends : (dag : Dag) (front : List ℕ) (number : ℕ) (text : List ℕ) (total : Result (List ℕ) RescueFault) → length text ≡ 0 → with_front front (rescue_lines_at dag number (lines text)) ≡ total → total ≡ Ok front
unfolding rescue_lines_at
ends dag front number [] total e so_far = sym so_far ∙ ap (λ (xs : List ℕ). good xs) (append-nil front)
ends dag front number (b ∷ bs) total e so_far = absurd (omega arith)

-- a fault that is the answer
fails_with : (fault : RescueFault) (answer : Result (List ℕ) RescueFault) → answer ≡ Err fault → Fails fault answer
fails_with (BadLine n) answer e = e
fails_with (UnknownNode n) answer e = e
fails_with (FinalDone n) answer e = e
fails_with (NotThere n) answer e = e
fails_with Memory answer e = tt

pub stops_here : (dag : Dag) (front : List ℕ) (number : ℕ) (text line after : List ℕ) (fault : RescueFault) (total : Result (List ℕ) RescueFault) → lines text ≡ line ∷ lines after → rescue_line_at dag number line ≡ Err fault
    → with_front front (rescue_lines_at dag number (lines text)) ≡ total → Fails fault total
unfolding rescue_lines_at
stops_here dag front number text line after fault total split read so_far =
    fails_with fault total (sym so_far ∙ ap (λ (ls : List (List ℕ)). with_front front (rescue_lines_at dag number ls)) split ∙ rw read refl)
