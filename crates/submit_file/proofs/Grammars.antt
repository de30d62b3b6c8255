-- What is read is what the lines say, and what they say is read.
use Rattle.std.proofs.Common.{not, cond, ◌&&◌, ◌||◌, ◌≡◌, ◌∙◌, inl, inr, refl, sym, ap, subst, ℕ, true, false, Bool, List, [], ◌∷◌, ◌++◌, Result, Ok, Err, append_assoc}
use Rattle.std.specs.Prelude.{IfOk, IfErr}
use Rattle.std.specs.Str.{IsUtf8}
use Rattle.std.specs.Str.Lines.{lines}
use Rattle.std.proofs.lemmas.List.{append-nil}
use Rattle.submit_file.specs.Lines.{Statement, statements, trim_start}
use Rattle.submit_file.specs.Forms.{Saying, Silent, Assigns, Queues, Wrong, behind_word, name_before, assigned_value, is_silent, is_queue, is_once, is_assignment, line_says}
use Rattle.submit_file.specs.Submit.{an_assignment, AssignAll, SayAssignments, SaysAssignments, IsFirstFault, IsTextFault, Reading, read_from, with_submit_line, Fails, Gives, submit_of, nothing_read, ◌>>=◌}
use Rattle.submit_file.specs.declared.submit.Assignment.{Assignment}
use Rattle.submit_file.specs.declared.fault.LineFault.TheVariants.{BadLine, QueueCount, Unsupported}
use Rattle.submit_file.specs.declared.fault.SubmitFault.{SubmitFault}
use Rattle.submit_file.specs.declared.fault.SubmitFault.TheVariants.{NotText, NoQueue, InLine, Memory}

abbrev reading : List Assignment → Bool → Reading
reading pairs queued = record { assigned = pairs; queued = queued }

-- No second queue line queues the job.
never : (silent other left queue assigns x : Bool) (name value : List ℕ) →
    cond silent Silent (cond other (Wrong Unsupported) (cond left (Wrong Unsupported) (cond (queue && (true || x)) (Wrong QueueCount) (cond queue Queues (cond assigns (Assigns name value) (Wrong BadLine)))))) ≡ Queues → ⊥
never true other left queue assigns x name value h = absurd cc
never false true left queue assigns x name value h = absurd cc
never false false true queue assigns x name value h = absurd cc
never false false false true assigns x name value h = absurd cc
never false false false false true x name value h = absurd cc
never false false false false false x name value h = absurd cc

no_second : (text : List ℕ) → line_says true text ≡ Queues → ⊥
unfolding line_says
no_second text h = let line = trim_start text in never (is_silent line) _ _ (is_queue line) (is_assignment line) (not (is_once (behind_word line))) (name_before line) (assigned_value line) h

-- One line is read.
step : (r q : Reading) (s : Statement) (ss : List Statement) → with_submit_line r s.number (line_says r.queued s.text) ≡ Ok q → read_from r (s ∷ ss) ≡ read_from q ss
unfolding read_from
step r q s ss h = ap (λ (x : Result Reading SubmitFault). x >>= λ more. read_from more ss) h

stop : (r : Reading) (e : SubmitFault) (s : Statement) (ss : List Statement) → with_submit_line r s.number (line_says r.queued s.text) ≡ Err e → read_from r (s ∷ ss) ≡ Err e
unfolding read_from
stop r e s ss h = ap (λ (x : Result Reading SubmitFault). x >>= λ more. read_from more ss) h

said_by : (r : Reading) (s : Statement) (said : Saying) → line_says r.queued s.text ≡ said → with_submit_line r s.number (line_says r.queued s.text) ≡ with_submit_line r s.number said
said_by r s said e = ap (λ (x : Saying). with_submit_line r s.number x) e

-- What lines say is read.
above_again : (before pairs : List Assignment) (front rest : List Statement) → AssignAll false front pairs → read_from (reading before false) (front ++ rest) ≡ read_from (reading (before ++ pairs) false) rest
above_again before pairs [] rest e = ap (λ (xs : List Assignment). read_from (reading xs false) rest) (sym (append-nil before) ∙ ap (λ (ys : List Assignment). before ++ ys) (sym e))
above_again before pairs (s ∷ front) rest (inl (silent, all)) =
    step (reading before false) (reading before false) s (front ++ rest) (said_by (reading before false) s Silent silent) ∙ above_again before pairs front rest all
above_again before pairs (s ∷ front) rest (inr (name, value, others, says, is, all)) =
    let a = an_assignment name value in
    step (reading before false) (reading (before ++ a ∷ []) false) s (front ++ rest) (said_by (reading before false) s (Assigns name value) says)
    ∙ above_again (before ++ a ∷ []) others front rest all
    ∙ ap (λ (xs : List Assignment). read_from (reading xs false) rest) (append_assoc before (a ∷ []) others ∙ ap (λ (ys : List Assignment). before ++ ys) (sym is))

below_again : (before late : List Assignment) (back : List Statement) → AssignAll true back late → read_from (reading before true) back ≡ Ok before
unfolding read_from
below_again before late [] e = refl
below_again before late (s ∷ back) (inl (silent, all)) =
    step (reading before true) (reading before true) s back (said_by (reading before true) s Silent silent) ∙ below_again before late back all
below_again before late (s ∷ back) (inr (name, value, others, says, is, all)) =
    step (reading before true) (reading before true) s back (said_by (reading before true) s (Assigns name value) says) ∙ below_again before others back all

pub say_again : (ss : List Statement) (pairs : List Assignment) → SayAssignments ss pairs → read_from nothing_read ss ≡ Ok pairs
say_again ss pairs (front, queue, back, late, e, above, queues, below) =
    ap (read_from nothing_read) e ∙ above_again [] pairs front (queue ∷ back) above
    ∙ step (reading pairs false) (reading pairs true) queue back (said_by (reading pairs false) queue Queues queues)
    ∙ below_again pairs late back below

-- What is read is what lines say.
abbrev Below : List Assignment → List Statement → List Assignment → Type 0
Below before ss pairs = (late : List Assignment) × AssignAll true ss late × (pairs ≡ before)

below_step : (before pairs : List Assignment) (s : Statement) (ss : List Statement) (said : Saying) → line_says true s.text ≡ said → read_from (reading before true) (s ∷ ss) ≡ Ok pairs
    → (read_from (reading before true) ss ≡ Ok pairs → Below before ss pairs) → Below before (s ∷ ss) pairs
below_step before pairs s ss Silent e h more =
    let r = reading before true in
    let b = more (sym (step r r s ss (said_by r s Silent e)) ∙ h) in
    (b.0, inl (e, b.1), b.2)
below_step before pairs s ss (Assigns name value) e h more =
    let r = reading before true in
    let b = more (sym (step r r s ss (said_by r s (Assigns name value) e)) ∙ h) in
    (an_assignment name value ∷ b.0, inr (name, value, b.0, e, refl, b.1), b.2)
below_step before pairs s ss Queues e h more = absurd (no_second s.text e)
below_step before pairs s ss (Wrong f) e h more = let r = reading before true in let bad = sym (stop r _ s ss (said_by r s (Wrong f) e)) ∙ h in absurd cc

below_ok : (before pairs : List Assignment) (ss : List Statement) → read_from (reading before true) ss ≡ Ok pairs → Below before ss pairs
unfolding read_from
below_ok before pairs [] h = ([], refl, let same : before ≡ pairs = cc in sym same)
below_ok before pairs (s ∷ ss) h = below_step before pairs s ss (line_says true s.text) refl h (below_ok before pairs ss)

abbrev Above : List Assignment → List Statement → List Assignment → Type 0
Above before ss pairs = (these : List Assignment) × (pairs ≡ before ++ these) × SayAssignments ss these

above_step : (before pairs : List Assignment) (s : Statement) (ss : List Statement) (said : Saying) → line_says false s.text ≡ said → read_from (reading before false) (s ∷ ss) ≡ Ok pairs
    → ((front : List Assignment) → read_from (reading front false) ss ≡ Ok pairs → Above front ss pairs) → Above before (s ∷ ss) pairs
above_step before pairs s ss Silent e h more =
    let r = reading before false in
    let (these, is, (front, queue, back, late, split, above, queues, below)) = more before (sym (step r r s ss (said_by r s Silent e)) ∙ h) in
    (these, is, (s ∷ front, queue, back, late, ap (λ (xs : List Statement). s ∷ xs) split, inl (e, above), queues, below))
above_step before pairs s ss (Assigns name value) e h more =
    let r = reading before false in
    let a = an_assignment name value in
    let (these, is, (front, queue, back, late, split, above, queues, below)) = more (before ++ a ∷ []) (sym (step r (reading (before ++ a ∷ []) false) s ss (said_by r s (Assigns name value) e)) ∙ h) in
    (a ∷ these, is ∙ append_assoc before (a ∷ []) these, (s ∷ front, queue, back, late, ap (λ (xs : List Statement). s ∷ xs) split, inr (name, value, these, e, refl, above), queues, below))
above_step before pairs s ss Queues e h more =
    let r = reading before false in
    let b = below_ok before pairs ss (sym (step r (reading before true) s ss (said_by r s Queues e)) ∙ h) in
    ([], b.2 ∙ sym (append-nil before), ([], s, ss, b.0, refl, refl, e, b.1))
above_step before pairs s ss (Wrong f) e h more = let r = reading before false in let bad = sym (stop r _ s ss (said_by r s (Wrong f) e)) ∙ h in absurd cc

above_ok : (before pairs : List Assignment) (ss : List Statement) → read_from (reading before false) ss ≡ Ok pairs → Above before ss pairs
unfolding read_from
above_ok before pairs [] h = absurd cc
above_ok before pairs (s ∷ ss) h = above_step before pairs s ss (line_says false s.text) refl h (λ front. above_ok front pairs ss)

pub say_ok : (ss : List Statement) (pairs : List Assignment) → read_from nothing_read ss ≡ Ok pairs → SayAssignments ss pairs
say_ok ss pairs h = let a = above_ok [] pairs ss h in subst (SayAssignments ss) (sym a.1) a.2

-- Faults.
abbrev StopsBelow : List Statement → SubmitFault → Type 0
StopsBelow ss Memory = ⊥
StopsBelow ss NotText = ⊥
StopsBelow ss NoQueue = ⊥
StopsBelow ss (InLine number f) = (front : List Statement) × (s : Statement) × (back : List Statement) × (late : List Assignment)
    × (ss ≡ front ++ s ∷ back) × (number ≡ s.number) × AssignAll true front late × (line_says true s.text ≡ Wrong f)

silent_below : (e : SubmitFault) (s : Statement) (ss : List Statement) → line_says true s.text ≡ Silent → StopsBelow ss e → StopsBelow (s ∷ ss) e
silent_below Memory s ss says h = h
silent_below NotText s ss says h = h
silent_below NoQueue s ss says h = h
silent_below (InLine number f) s ss says (front, t, back, late, split, same, all, bad) = (s ∷ front, t, back, late, ap (λ (xs : List Statement). s ∷ xs) split, same, inl (says, all), bad)

assigns_below : (e : SubmitFault) (s : Statement) (ss : List Statement) (name value : List ℕ) → line_says true s.text ≡ Assigns name value → StopsBelow ss e → StopsBelow (s ∷ ss) e
assigns_below Memory s ss name value says h = h
assigns_below NotText s ss name value says h = h
assigns_below NoQueue s ss name value says h = h
assigns_below (InLine number f) s ss name value says (front, t, back, late, split, same, all, bad) =
    (s ∷ front, t, back, an_assignment name value ∷ late, ap (λ (xs : List Statement). s ∷ xs) split, same, inr (name, value, late, says, refl, all), bad)

err_is : {A : Type 0} (d e : SubmitFault) (r : Result A SubmitFault) → r ≡ Err d → r ≡ Err e → d ≡ e
err_is d e r p q = let same : Err d ≡ Err e = sym p ∙ q in cc

stops_below_step : (before : List Assignment) (e : SubmitFault) (s : Statement) (ss : List Statement) (said : Saying) → line_says true s.text ≡ said → read_from (reading before true) (s ∷ ss) ≡ Err e
    → (read_from (reading before true) ss ≡ Err e → StopsBelow ss e) → StopsBelow (s ∷ ss) e
stops_below_step before e s ss Silent is h more =
    let r = reading before true in
    silent_below e s ss is (more (sym (step r r s ss (said_by r s Silent is)) ∙ h))
stops_below_step before e s ss (Assigns name value) is h more =
    let r = reading before true in
    assigns_below e s ss name value is (more (sym (step r r s ss (said_by r s (Assigns name value) is)) ∙ h))
stops_below_step before e s ss Queues is h more = absurd (no_second s.text is)
stops_below_step before e s ss (Wrong f) is h more =
    let r = reading before true in
    let same = err_is (InLine s.number f) e (read_from r (s ∷ ss)) (stop r (InLine s.number f) s ss (said_by r s (Wrong f) is)) h in
    subst (StopsBelow (s ∷ ss)) same ([], s, ss, [], refl, refl, refl, is)

stops_below : (before : List Assignment) (e : SubmitFault) (ss : List Statement) → read_from (reading before true) ss ≡ Err e → StopsBelow ss e
unfolding read_from
stops_below before e [] h = absurd cc
stops_below before e (s ∷ ss) h = stops_below_step before e s ss (line_says true s.text) refl h (stops_below before e ss)

silent_above : (e : SubmitFault) (s : Statement) (ss : List Statement) → line_says false s.text ≡ Silent → IsFirstFault ss e → IsFirstFault (s ∷ ss) e
silent_above Memory s ss says h = tt
silent_above NotText s ss says h = h
silent_above NoQueue s ss says (pairs, all) = (pairs, inl (says, all))
silent_above (InLine number f) s ss says (front, t, back, split, same, (pairs, inl (all, bad))) = (s ∷ front, t, back, ap (λ (xs : List Statement). s ∷ xs) split, same, (pairs, inl (inl (says, all), bad)))
silent_above (InLine number f) s ss says (front, t, back, split, same, (pairs, inr ((a, q, b, late, cut, above, queues, below), bad))) =
    (s ∷ front, t, back, ap (λ (xs : List Statement). s ∷ xs) split, same, (pairs, inr ((s ∷ a, q, b, late, ap (λ (xs : List Statement). s ∷ xs) cut, inl (says, above), queues, below), bad)))

assigns_above : (e : SubmitFault) (s : Statement) (ss : List Statement) (name value : List ℕ) → line_says false s.text ≡ Assigns name value → IsFirstFault ss e → IsFirstFault (s ∷ ss) e
assigns_above Memory s ss name value says h = tt
assigns_above NotText s ss name value says h = h
assigns_above NoQueue s ss name value says (pairs, all) = (an_assignment name value ∷ pairs, inr (name, value, pairs, says, refl, all))
assigns_above (InLine number f) s ss name value says (front, t, back, split, same, (pairs, inl (all, bad))) =
    (s ∷ front, t, back, ap (λ (xs : List Statement). s ∷ xs) split, same, (an_assignment name value ∷ pairs, inl (inr (name, value, pairs, says, refl, all), bad)))
assigns_above (InLine number f) s ss name value says (front, t, back, split, same, (pairs, inr ((a, q, b, late, cut, above, queues, below), bad))) = (
  s ∷ front,
  t,
  back,
  ap (λ (xs : List Statement). s ∷ xs) split,
  same,
  (
    an_assignment name value ∷ pairs,
    inr ((s ∷ a, q, b, late, ap (λ (xs : List Statement). s ∷ xs) cut, inr (name, value, pairs, says, refl, above), queues, below), bad),
  ),
)

queue_above : (e : SubmitFault) (s : Statement) (ss : List Statement) → line_says false s.text ≡ Queues → StopsBelow ss e → IsFirstFault (s ∷ ss) e
queue_above Memory s ss says h = tt
queue_above NotText s ss says h = h
queue_above NoQueue s ss says h = absurd h
queue_above (InLine number f) s ss says (front, t, back, late, split, same, all, bad) =
    (s ∷ front, t, back, ap (λ (xs : List Statement). s ∷ xs) split, same, ([], inr (([], s, front, late, refl, refl, says, all), bad)))

stops_above_step : (before : List Assignment) (e : SubmitFault) (s : Statement) (ss : List Statement) (said : Saying) → line_says false s.text ≡ said → read_from (reading before false) (s ∷ ss) ≡ Err e
    → ((front : List Assignment) → read_from (reading front false) ss ≡ Err e → IsFirstFault ss e) → IsFirstFault (s ∷ ss) e
stops_above_step before e s ss Silent is h more =
    let r = reading before false in
    silent_above e s ss is (more before (sym (step r r s ss (said_by r s Silent is)) ∙ h))
stops_above_step before e s ss (Assigns name value) is h more =
    let r = reading before false in
    let q = reading (before ++ an_assignment name value ∷ []) false in
    assigns_above e s ss name value is (more q.assigned (sym (step r q s ss (said_by r s (Assigns name value) is)) ∙ h))
stops_above_step before e s ss Queues is h more =
    let r = reading before false in
    queue_above e s ss (is) (stops_below before e ss (sym (step r (reading before true) s ss (said_by r s Queues is)) ∙ h))
stops_above_step before e s ss (Wrong f) is h more =
    let r = reading before false in
    let same = err_is (InLine s.number f) e (read_from r (s ∷ ss)) (stop r (InLine s.number f) s ss (said_by r s (Wrong f) is)) h in
    subst (IsFirstFault (s ∷ ss)) same ([], s, ss, refl, refl, ([], inl (refl, is)))

stops_above : (before : List Assignment) (e : SubmitFault) (ss : List Statement) → read_from (reading before false) ss ≡ Err e → IsFirstFault ss e
unfolding read_from
stops_above before e [] h = let same : NoQueue ≡ e = cc in subst (IsFirstFault []) same ([], refl)
stops_above before e (s ∷ ss) h = stops_above_step before e s ss (line_says false s.text) refl h (λ front. stops_above front e ss)

-- What a call that gives the assignments of a text has found, or why it stopped.
pub is_found : {X : Type 0} (view : X → List Assignment) (text : List ℕ) (r : Result X SubmitFault) → IsUtf8 text → Gives view r (submit_of text) → IfOk r (λ x. SaysAssignments text (view x))
is_found view text (Ok x) u h = (u, say_ok (statements 1 (lines text)) (view x) h)
is_found view text (Err e) u h = tt

fault_is : (e : SubmitFault) (text : List ℕ) → IsUtf8 text → Fails e (submit_of text) → IsTextFault text e
fault_is Memory text u h = tt
fault_is NotText text u h = absurd (stops_above [] NotText (statements 1 (lines text)) h)
fault_is NoQueue text u h = (u, stops_above [] NoQueue (statements 1 (lines text)) h)
fault_is (InLine number f) text u h = (u, stops_above [] (InLine number f) (statements 1 (lines text)) h)

pub is_stopped : {X : Type 0} (view : X → List Assignment) (text : List ℕ) (r : Result X SubmitFault) → IsUtf8 text → Gives view r (submit_of text) → IfErr r (λ e. IsTextFault text e)
is_stopped view text (Ok x) u h = tt
is_stopped view text (Err e) u h = fault_is e text u h

pub only_these : {X : Type 0} (view : X → List Assignment) (text : List ℕ) (pairs : List Assignment) (r : Result X SubmitFault) → SaysAssignments text pairs → Gives view r (submit_of text) → Gives view r (Ok pairs)
only_these view text pairs r says h = subst (Gives view r) (say_again (statements 1 (lines text)) pairs says.1) h
