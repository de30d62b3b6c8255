-- What the words of a script depend on.
use Rattle.std.proofs.Common.{◌≡◌, ◌∙◌, sym, ap, refl, ℕ, Bool, true, false, ◌||◌, cond, List, codes, decimal}
use Rattle.std.proofs.lemmas.Bool.{true≢false, or_parts}
use Rattle.std.specs.Fmt.{signed_decimal}
use Rattle.vars_macros.specs.Script.{is_exactly, post_word, other_word, script_word, is_whole_run, AreOfOneScript, HaveSameReturns, HaveSameDag}
use Rattle.vars_macros.specs.declared.script.ScriptFacts.{ScriptFacts}

-- a test chooses between what is the same where it is chosen
chosen_alike : {A : Type 0} (b : Bool) (x y u v : A) → (b ≡ true → x ≡ u) → (b ≡ false → y ≡ v) → cond b x y ≡ cond b u v
chosen_alike true x y u v first second = first refl
chosen_alike false x y u v first second = second refl

-- what is not known in a whole run alone is none of these words
record IsOfNode (word : List ℕ) : Type 0 where
  dag_status : is_exactly word (codes "$DAG_STATUS") ≡ false
  failed : is_exactly word (codes "$FAILED_COUNT") ≡ false
  job : is_exactly word (codes "$JOBID") ≡ false

of_node : (word : List ℕ) → is_whole_run word ≡ false → IsOfNode word
unfolding is_whole_run
of_node word known =
    let parts = or_parts (is_exactly word (codes "$DAG_STATUS") || (is_exactly word (codes "$FAILED_COUNT") || is_exactly word (codes "$JOBID")))
    (is_exactly word (codes "$(Cluster)") || is_exactly word (codes "$(ClusterId)")) known in
    let first = or_parts (is_exactly word (codes "$DAG_STATUS")) (is_exactly word (codes "$FAILED_COUNT") || is_exactly word (codes "$JOBID")) parts.0 in
    let second = or_parts (is_exactly word (codes "$FAILED_COUNT")) (is_exactly word (codes "$JOBID")) first.1 in
    record { dag_status = first.0; failed = second.0; job = second.1 }

post_alike : (f g : ScriptFacts) (word : List ℕ) → HaveSameReturns f g → is_exactly word (codes "$JOBID") ≡ false → post_word f word ≡ post_word g word
unfolding post_word
post_alike f g word job other =
    chosen_alike (is_exactly word (codes "$RETURN")) _ _ _ _ (λ _. ap signed_decimal job.job_value) (λ _.
    chosen_alike (is_exactly word (codes "$PRE_SCRIPT_RETURN")) _ _ _ _ (λ _. ap signed_decimal job.pre_value) (λ _.
    chosen_alike (is_exactly word (codes "$JOBID")) _ _ _ _ (λ yes. absurd (true≢false (sym yes ∙ other))) (λ _. refl)))

-- a word that is the same after a job, or of a script before it
other_alike : (f g : ScriptFacts) (word : List ℕ) → f.post ≡ g.post → (f.post ≡ true → post_word f word ≡ post_word g word) → other_word f word ≡ other_word g word
other_alike f g word post same =
    chosen_alike f.post (post_word f word) word (post_word g word) word same (λ _. refl)
    ∙ ap (λ (b : Bool). cond b (post_word g word) word) post

word_alike : (f g : ScriptFacts) (word : List ℕ) → AreOfOneScript f g →
    (is_exactly word (codes "$DAG_STATUS") ≡ true → f.dag_status ≡ g.dag_status) → (is_exactly word (codes "$FAILED_COUNT") ≡ true → f.failed ≡ g.failed) →
    other_word f word ≡ other_word g word → script_word f word ≡ script_word g word
unfolding script_word
word_alike f g word node status failed other =
    chosen_alike (is_exactly word (codes "$JOB")) _ _ _ _ (λ _. node.name) (λ _.
    chosen_alike (is_exactly word (codes "$RETRY")) _ _ _ _ (λ _. ap decimal node.attempt) (λ _.
    chosen_alike (is_exactly word (codes "$MAX_RETRIES")) _ _ _ _ (λ _. ap decimal node.retries) (λ _.
    chosen_alike (is_exactly word (codes "$DAG_STATUS")) _ _ _ _ (λ yes. ap decimal (status yes)) (λ _.
    chosen_alike (is_exactly word (codes "$FAILED_COUNT")) _ _ _ _ (λ yes. ap decimal (failed yes)) (λ _. other)))))

never : (b : Bool) (P : Type 0) → b ≡ false → b ≡ true → P
never b P fails holds = absurd (true≢false (sym holds ∙ fails))

known_alike : (f g : ScriptFacts) (word : List ℕ) → AreOfOneScript f g → is_whole_run word ≡ false →
    (IsOfNode word → f.post ≡ true → post_word f word ≡ post_word g word) → script_word f word ≡ script_word g word
known_alike f g word node known same =
    let is = of_node word known in
    word_alike f g word node (never (is_exactly word (codes "$DAG_STATUS")) _ is.dag_status) (never (is_exactly word (codes "$FAILED_COUNT")) _ is.failed)
    (other_alike f g word node.post (same is))

pub known_word : (f g : ScriptFacts) → AreOfOneScript f g → HaveSameReturns f g → (word : List ℕ) → is_whole_run word ≡ false → script_word f word ≡ script_word g word
known_word f g node job word known = known_alike f g word node known (λ is. λ _. post_alike f g word job is.job)

pub known_in_pre_script : (f g : ScriptFacts) → AreOfOneScript f g → f.post ≡ false → (word : List ℕ) → is_whole_run word ≡ false → script_word f word ≡ script_word g word
known_in_pre_script f g node before word known = known_alike f g word node known (λ is. λ behind. never f.post _ before behind)

pub word_in_pre_script : (f g : ScriptFacts) → AreOfOneScript f g → HaveSameDag f g → f.post ≡ false → (word : List ℕ) → script_word f word ≡ script_word g word
word_in_pre_script f g node run before word =
    word_alike f g word node (λ _. run.dag_status) (λ _. run.failed) (other_alike f g word node.post (never f.post _ before))
