-- The nodes of a file after one more line, and the lines that it replaces.
use Rattle.std.proofs.Common.{◌≡◌, ◌≢◌, ℕ, zero, suc, ◌+◌, ◌<◌, ◌≤◌, nat_lt, Bool, true, false, not, ◌&&◌, ◌++◌, List, [], ◌∷◌, length, map, get_or, refl, sym, ap, ◌∙◌, arith, append_assoc, if◌then◌else◌}
use Rattle.std.proofs.lemmas.Bool.Decides.{nat_tests}
use Rattle.std.proofs.lemmas.List.{append-nil, length-append, length-map}
use Rattle.std.proofs.lemmas.List.Sums.{fold-append}
use Rattle.std.specs.Prelude.{slice_set}
use Rattle.std.specs.List.{flat_map, range_with_len}
use Rattle.dag_reader.specs.declared.command.Command.{Command}
use Rattle.splices_flat.specs.declared.flat.FlatNode.{FlatNode}
use Rattle.splices_flat.specs.declared.flat.Settings.{Settings}
use Rattle.splices_flat.specs.Nodes.{Declared, final_names, finals_in, job_names, jobs_in, node_names, node_of, declared_nodes}
use Rattle.splices.specs.NodeChanges.{changed_where, given_where, is_between, plain_node, replaced_among, set_node}
use Rattle.splices_flat.specs.Settings.{is_for, no_settings, settings_at, setting_target, with_line}
use Rattle.splices_flat.specs.Warnings.{each_once, with_numbers, replaced_in, replaced_lines}
use Rattle.splices.proofs.LineLists.{joined-append}

not_both : (b : Bool) → (not b && b) ≡ false
not_both true = refl
not_both false = refl

between_none : (from place : ℕ) → is_between from from place ≡ false
between_none from place = not_both (nat_lt place from)

between_other : (from k place : ℕ) → place ≢ k → is_between from (k + 1) place ≡ is_between from k place
between_other from k place ne = grind (arith, nat_tests)

between_last : (from k : ℕ) → from ≤ k → is_between from (k + 1) k ≡ true
between_last from k le = grind (arith, nat_tests)

between_past : (from k place : ℕ) → k ≤ place → is_between from k place ≡ false
between_past from k place le = grind (arith, nat_tests)

-- the same places are reached from a place on
pub changed_same : (r s : ℕ → Bool) (change : FlatNode → FlatNode) (place : ℕ) (ns : List FlatNode) → ((q : ℕ) → place ≤ q → r q ≡ s q) → changed_where r change place ns ≡ changed_where s change place ns
changed_same r s change place [] h = refl
changed_same r s change place (n ∷ ns) h =
    ap (λ b. (if b then change n else n) ∷ changed_where r change (place + 1) ns) (h place (omega arith))
    ∙ ap (λ ms. (if s place then change n else n) ∷ ms) (changed_same r s change (place + 1) ns (λ q le. h q (omega arith)))

pub given_same : (r s : ℕ → Bool) (give : FlatNode → List ℕ) (place : ℕ) (ns : List FlatNode) → ((q : ℕ) → place ≤ q → r q ≡ s q) → given_where r give place ns ≡ given_where s give place ns
given_same r s give place [] h = refl
given_same r s give place (n ∷ ns) h =
    ap (λ b. (if b then give n else []) ++ given_where r give (place + 1) ns) (h place (omega arith))
    ∙ ap (λ ms. (if s place then give n else []) ++ ms) (given_same r s give (place + 1) ns (λ q le. h q (omega arith)))

-- no place is reached from a place on
pub changed_none : (change : FlatNode → FlatNode) (place : ℕ) (ns : List FlatNode) → changed_where (λ q. false) change place ns ≡ ns
changed_none change place [] = refl
changed_none change place (n ∷ ns) = ap (λ ms. n ∷ ms) (changed_none change (place + 1) ns)

pub given_none : (give : FlatNode → List ℕ) (place : ℕ) (ns : List FlatNode) → given_where (λ q. false) give place ns ≡ []
given_none give place [] = refl
given_none give place (n ∷ ns) = given_none give (place + 1) ns

pub changed_length : (r : ℕ → Bool) (change : FlatNode → FlatNode) (place : ℕ) (ns : List FlatNode) → length (changed_where r change place ns) ≡ length ns
changed_length r change place [] = refl
changed_length r change place (n ∷ ns) = ap suc (changed_length r change (place + 1) ns)

-- one more place is reached, the one at j after the first
changed_one : (from k j : ℕ) (change : FlatNode → FlatNode) (place : ℕ) (ns : List FlatNode) (d : FlatNode) → place + j ≡ k → from ≤ k → j < length ns → changed_where (is_between from (k + 1)) change place ns ≡ slice_set (changed_where (is_between from k) change place ns) j (change (get_or ns j d))
changed_one from k j change place [] d e le lt = absurd (omega arith)
changed_one from k zero change place (n ∷ ns) d e le lt =
    let at : place ≡ k = omega arith in
    ap (λ b. (if b then change n else n) ∷ changed_where (is_between from (k + 1)) change (place + 1) ns) (ap (is_between from (k + 1)) at ∙ between_last from k le)
    ∙ ap (λ ms. change n ∷ ms) (changed_same (is_between from (k + 1)) (is_between from k) change (place + 1) ns (λ q l. between_other from k q (omega arith)))
changed_one from k (suc j) change place (n ∷ ns) d e le lt =
    ap (λ b. (if b then change n else n) ∷ changed_where (is_between from (k + 1)) change (place + 1) ns) (between_other from k place (omega arith))
    ∙ ap (λ ms. (if is_between from k place then change n else n) ∷ ms) (changed_one from k j change (place + 1) ns d (omega arith) le (omega arith))

given_one : (from k j : ℕ) (give : FlatNode → List ℕ) (place : ℕ) (ns : List FlatNode) (d : FlatNode) → place + j ≡ k → from ≤ k → j < length ns → given_where (is_between from (k + 1)) give place ns ≡ given_where (is_between from k) give place ns ++ give (get_or ns j d)
given_one from k j give place [] d e le lt = absurd (omega arith)
given_one from k zero give place (n ∷ ns) d e le lt =
    let at : place ≡ k = omega arith in
    let none = λ (u : ℕ) (low : u ≤ k + 1). given_same (is_between from u) (λ q. false) give (place + 1) ns (λ q l. between_past from u q (omega arith)) ∙ given_none give (place + 1) ns in
    ap (λ b. (if b then give n else []) ++ given_where (is_between from (k + 1)) give (place + 1) ns) (ap (is_between from (k + 1)) at ∙ between_last from k le)
    ∙ ap (λ ms. give n ++ ms) (none (k + 1) (omega arith)) ∙ append-nil (give n)
    ∙ sym (ap (λ b. ((if b then give n else []) ++ given_where (is_between from k) give (place + 1) ns) ++ give n) (between_past from k place (omega arith)) ∙ ap (λ (ms : List ℕ). ms ++ give n) (none k (omega arith)))
given_one from k (suc j) give place (n ∷ ns) d e le lt =
    let head = if is_between from k place then give n else [] in
    ap (λ b. (if b then give n else []) ++ given_where (is_between from (k + 1)) give (place + 1) ns) (between_other from k place (omega arith))
    ∙ ap (λ ms. head ++ ms) (given_one from k j give (place + 1) ns d (omega arith) le (omega arith))
    ∙ sym (append_assoc head (given_where (is_between from k) give (place + 1) ns) (give (get_or ns j d)))

-- a place that is not reached yet
still : (from k j : ℕ) (change : FlatNode → FlatNode) (place : ℕ) (ns : List FlatNode) (d : FlatNode) → place + j ≡ k → get_or (changed_where (is_between from k) change place ns) j d ≡ get_or ns j d
still from k j change place [] d e = refl
still from k zero change place (n ∷ ns) d e = ap (λ b. if b then change n else n) (between_past from k place (omega arith))
still from k (suc j) change place (n ∷ ns) d e = still from k j change (place + 1) ns d (omega arith)

pub changed_start : (from : ℕ) (change : FlatNode → FlatNode) (ns : List FlatNode) → changed_where (is_between from from) change 0 ns ≡ ns
changed_start from change ns = changed_same (is_between from from) (λ q. false) change 0 ns (λ q le. between_none from q) ∙ changed_none change 0 ns

pub replaced_start : (from : ℕ) (c : Command) (ns : List FlatNode) → replaced_among (is_between from from) c ns ≡ []
replaced_start from c ns = ap each_once (given_same (is_between from from) (λ q. false) (λ node. replaced_in node.settings c) 0 ns (λ q le. between_none from q) ∙ given_none (λ node. replaced_in node.settings c) 0 ns)

-- one more node was set, which was read before
pub changed_more : (from k : ℕ) (prefix : List ℕ) (c : Command) (start nodes : List FlatNode) (d : FlatNode) (settings : Settings) → from ≤ k → k < length nodes → changed_where (is_between from k) (set_node prefix c) 0 start ≡ nodes → settings ≡ with_line prefix (get_or nodes k d).settings c →
    changed_where (is_between from (k + 1)) (set_node prefix c) 0 start ≡ slice_set nodes k (record (get_or nodes k d) { settings = settings })
changed_more from k prefix c start nodes d settings le lt so is =
    let within : k < length start = omega (arith, ap length so, changed_length (is_between from k) (set_node prefix c) 0 start) in
    let here : get_or start k d ≡ get_or nodes k d = sym (still from k k (set_node prefix c) 0 start d (omega arith)) ∙ ap (λ ns. get_or ns k d) so in
    changed_one from k k (set_node prefix c) 0 start d (omega arith) le within
    ∙ ap (λ ns. slice_set ns k (set_node prefix c (get_or start k d))) so
    ∙ ap (λ n. slice_set nodes k (set_node prefix c n)) here
    ∙ ap (λ s. slice_set nodes k (record (get_or nodes k d) { settings = s })) (sym is)

pub replaced_more : (from k : ℕ) (prefix : List ℕ) (c : Command) (start nodes : List FlatNode) (d : FlatNode) (lines after : List ℕ) → from ≤ k → k < length nodes → changed_where (is_between from k) (set_node prefix c) 0 start ≡ nodes → replaced_among (is_between from k) c start ≡ lines → after ≡ with_numbers lines (replaced_in (get_or nodes k d).settings c) →
    replaced_among (is_between from (k + 1)) c start ≡ after
replaced_more from k prefix c start nodes d lines after le lt so was is =
    let give = λ (node : FlatNode). replaced_in node.settings c in
    let within : k < length start = omega (arith, ap length so, changed_length (is_between from k) (set_node prefix c) 0 start) in
    let here : get_or start k d ≡ get_or nodes k d = sym (still from k k (set_node prefix c) 0 start d (omega arith)) ∙ ap (λ ns. get_or ns k d) so in
    ap each_once (given_one from k k give 0 start d (omega arith) le within)
    ∙ joined-append [] (given_where (is_between from k) give 0 start) (give (get_or start k d))
    ∙ ap (λ ls. with_numbers ls (give (get_or start k d))) was ∙ ap (λ n. with_numbers lines (give n)) here ∙ sym is

-- the nodes of a file before its lines
pub plain_nodes : (prefix folder : List ℕ) (commands : List Command) (place : ℕ) (ds : List Declared) → map (plain_node prefix folder) ds ≡ declared_nodes prefix folder (settings_at prefix commands []) place ds
plain_nodes prefix folder commands place [] = refl
plain_nodes prefix folder commands place (d ∷ ds) = ap (λ ns. plain_node prefix folder d ∷ ns) (plain_nodes prefix folder commands (place + 1) ds)

-- the settings at a place after one more line
settings_more : (prefix : List ℕ) (commands lines : List Command) (c : Command) (place : ℕ) → settings_at prefix commands (lines ++ c ∷ []) place ≡ (if is_for (job_names commands) (final_names commands) (setting_target c) place then with_line prefix (settings_at prefix commands lines place) c else settings_at prefix commands lines place)
settings_more prefix commands lines c place = fold-append (λ s d. if is_for (job_names commands) (final_names commands) (setting_target d) place then with_line prefix s d else s) no_settings lines (c ∷ [])

set_or_not : (prefix folder : List ℕ) (c : Command) (b : Bool) (s : Settings) (d : Declared) → (if b then set_node prefix c (node_of prefix folder s d) else node_of prefix folder s d) ≡ node_of prefix folder (if b then with_line prefix s c else s) d
set_or_not prefix folder c true s d = refl
set_or_not prefix folder c false s d = refl

nodes_at : (prefix folder : List ℕ) (c : Command) (r : ℕ → Bool) (before after : ℕ → Settings) (place : ℕ) (ds : List Declared) → ((q : ℕ) → after q ≡ (if r q then with_line prefix (before q) c else before q)) → changed_where r (set_node prefix c) place (declared_nodes prefix folder before place ds) ≡ declared_nodes prefix folder after place ds
nodes_at prefix folder c r before after place [] h = refl
nodes_at prefix folder c r before after place (d ∷ ds) h =
    ap (λ n. n ∷ changed_where r (set_node prefix c) (place + 1) (declared_nodes prefix folder before (place + 1) ds)) (set_or_not prefix folder c (r place) (before place) d ∙ ap (λ s. node_of prefix folder s d) (sym (h place)))
    ∙ ap (λ ns. node_of prefix folder (after place) d ∷ ns) (nodes_at prefix folder c r before after (place + 1) ds h)

lines_at : (prefix folder : List ℕ) (c : Command) (r : ℕ → Bool) (before : ℕ → Settings) (place : ℕ) (ds : List Declared) → given_where r (λ node. replaced_in node.settings c) place (declared_nodes prefix folder before place ds) ≡ flat_map (λ q. if r q then replaced_in (before q) c else []) (range_with_len place (length ds))
lines_at prefix folder c r before place [] = refl
lines_at prefix folder c r before place (d ∷ ds) =
    ap (λ ls. (if r place then replaced_in (before place) c else []) ++ ls) (lines_at prefix folder c r before (place + 1) ds)

-- a file's nodes after one more line
pub nodes_set : (prefix folder : List ℕ) (commands lines after_lines : List Command) (c : Command) (jobs finals : List (List ℕ)) (ds : List Declared) (nodes after : List FlatNode) → jobs ≡ job_names commands → finals ≡ final_names commands → nodes ≡ declared_nodes prefix folder (settings_at prefix commands lines) 0 ds → after ≡ changed_where (is_for jobs finals (setting_target c)) (set_node prefix c) 0 nodes → after_lines ≡ lines ++ c ∷ [] →
    after ≡ declared_nodes prefix folder (settings_at prefix commands after_lines) 0 ds
nodes_set prefix folder commands lines after_lines c jobs finals ds nodes after j f so is more =
    is ∙ ap (changed_where (is_for jobs finals (setting_target c)) (set_node prefix c) 0) so
    ∙ ap (λ (js : List (List ℕ)). changed_where (is_for js finals (setting_target c)) (set_node prefix c) 0 (declared_nodes prefix folder (settings_at prefix commands lines) 0 ds)) j
    ∙ ap (λ (fs : List (List ℕ)). changed_where (is_for (job_names commands) fs (setting_target c)) (set_node prefix c) 0 (declared_nodes prefix folder (settings_at prefix commands lines) 0 ds)) f
    ∙ nodes_at prefix folder c (is_for (job_names commands) (final_names commands) (setting_target c)) (settings_at prefix commands lines) (settings_at prefix commands (lines ++ c ∷ [])) 0 ds (settings_more prefix commands lines c)
    ∙ ap (λ ls. declared_nodes prefix folder (settings_at prefix commands ls) 0 ds) (sym more)

pub declared_count : (commands : List Command) → length (jobs_in commands ++ finals_in commands) ≡ length (node_names commands)
declared_count commands =
    length-append (jobs_in commands) (finals_in commands)
    ∙ ap (λ n. n + length (finals_in commands)) (sym (length-map (jobs_in commands) (λ d. d.name.text)))
    ∙ ap (λ n. length (job_names commands) + n) (sym (length-map (finals_in commands) (λ d. d.name.text)))
    ∙ sym (length-append (job_names commands) (final_names commands))

-- the lines that one more line replaces
pub lines_replaced : (prefix folder : List ℕ) (commands lines : List Command) (c : Command) (jobs finals : List (List ℕ)) (nodes : List FlatNode) → jobs ≡ job_names commands → finals ≡ final_names commands → nodes ≡ declared_nodes prefix folder (settings_at prefix commands lines) 0 (jobs_in commands ++ finals_in commands) →
    replaced_among (is_for jobs finals (setting_target c)) c nodes ≡ replaced_lines prefix commands lines c
lines_replaced prefix folder commands lines c jobs finals nodes j f so =
    let ds = jobs_in commands ++ finals_in commands in
    ap (replaced_among (is_for jobs finals (setting_target c)) c) so
    ∙ ap (λ (js : List (List ℕ)). replaced_among (is_for js finals (setting_target c)) c (declared_nodes prefix folder (settings_at prefix commands lines) 0 ds)) j
    ∙ ap (λ (fs : List (List ℕ)). replaced_among (is_for (job_names commands) fs (setting_target c)) c (declared_nodes prefix folder (settings_at prefix commands lines) 0 ds)) f
    ∙ ap each_once (lines_at prefix folder c (is_for (job_names commands) (final_names commands) (setting_target c)) (settings_at prefix commands lines) 0 ds
    ∙ ap (λ n. flat_map (λ q. if is_for (job_names commands) (final_names commands) (setting_target c) q then replaced_in (settings_at prefix commands lines q) c else []) (range_with_len 0 n)) (declared_count commands))
