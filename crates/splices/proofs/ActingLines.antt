-- A file's lines without those that say nothing.
use Rattle.std.proofs.Common.{◌≡◌, ℕ, Bool, true, false, not, ◌||◌, ◌==◌, nat_lt, ◌++◌, List, [], ◌∷◌, length, filter, Option, Some, None, Result, Ok, Err, refl, sym, ap, subst, ◌∙◌, arith, fold, if◌then◌else◌, ⊎_elim}
use Rattle.std.proofs.lemmas.Bool.{cases_Bool, cond-true, cond-false, eqb-true, not-false}
use Rattle.std.proofs.lemmas.Bool.Decides.{nat_tests}
use Rattle.std.proofs.lemmas.List.Sums.{fold-append}
use Rattle.std.specs.List.{flat_map, list_any, range_with_len}
use Rattle.std.specs.Option.{option_or}
use Rattle.std.proofs.lemmas.Grind.{flat_map-append}
use Rattle.std.proofs.lemmas.List.{append-nil}
use Rattle.std.specs.Str.{bytes_eq}
use Rattle.dag_reader.specs.declared.command.Command.{Command}
use Rattle.dag_reader.specs.declared.command.Command.TheVariants.{Job, Splice, Final, ParentChild, Script, Retry, PreSkip, Vars, Priority, Category, MaxJobs, AbortDagOn, Ignored}
use Rattle.dag_reader.specs.declared.command.Target.{Target}
use Rattle.dag_reader.specs.declared.command.Target.TheVariants.{Node, AllNodes}
use Rattle.dag_reader.specs.Word.{PlacedText}
use Rattle.splices_flat.specs.declared.fault.DagFault.{DagFault}
use Rattle.splices_flat.specs.declared.flat.Settings.{Settings}
use Rattle.splices_flat.specs.declared.used.Used.{Used}
use Rattle.splices.specs.Acting.{acting, is_all, is_for_all}
use Rattle.splices_flat.specs.Edges.{NodeScope, line_edges}
use Rattle.splices_flat.specs.Faults.{Names, first_some, line_fault}
use Rattle.splices_flat.specs.Forest.{Forest, none}
use Rattle.splices_flat.specs.Nodes.{Declared, final_in, final_names, finals_in, job_in, job_names, jobs_in, names_in, node_names, own_count, splice_name, splice_names}
use Rattle.splices_flat.specs.Opening.{◌>>=◌, Opener, check_line, check_lines, has_final, is_declared, once, open_line, open_lines, with_forest, forests_joined}
use Rattle.splices_flat.specs.Settings.{is_for, no_settings, settings_at, setting_target, with_line}
use Rattle.splices_flat.specs.Warnings.{Warned, each_once, replaced_in, replaced_lines, warn_file, warn_line, warn_lines}
use Rattle.splices_flat.proofs.Opened.{used-none}

abbrev keeps : Command → Bool
keeps c = not (is_for_all c)

-- what holds of no lines, stays with a line on both sides, and with one that is for all nodes on the other
module _ (P : List Command → List Command → Type 0) (start : P [] []) (keep : (c : Command) (xs ys : List Command) → P xs ys → P (c ∷ xs) (c ∷ ys)) (skip : (c : Command) (xs ys : List Command) → is_for_all c ≡ true → P xs ys → P xs (c ∷ ys)) where
  each : (cs : List Command) → P (filter keeps cs) cs
  each [] = start
  each (c ∷ cs) =
      ⊎_elim
      (λ reaches_all. subst (λ zs. P zs (c ∷ cs)) (sym (cond-false (keeps c) (c ∷ filter keeps cs) (filter keeps cs) (ap not reaches_all))) (skip c (filter keeps cs) cs reaches_all (each cs)))
      (λ reaches_less. subst (λ zs. P zs (c ∷ cs)) (sym (cond-true (keeps c) (c ∷ filter keeps cs) (filter keeps cs) (ap not reaches_less))) (keep c (filter keeps cs) cs (each cs)))
      (cases_Bool (is_for_all c))

-- what a line says that is for all nodes
silent_job : (c : Command) → is_for_all c ≡ true → job_in c ≡ []
silent_job (Job name file dir noop done) reaches_all = absurd cc
silent_job c reaches_all = refl

silent_final : (c : Command) → is_for_all c ≡ true → final_in c ≡ []
silent_final (Final name file dir noop) reaches_all = absurd cc
silent_final c reaches_all = refl

silent_splice : (c : Command) → is_for_all c ≡ true → splice_name c ≡ []
silent_splice (Splice name file dir) reaches_all = absurd cc
silent_splice c reaches_all = refl

silent_edges : (scope : NodeScope) (c : Command) → is_for_all c ≡ true → line_edges scope c ≡ []
silent_edges scope (ParentChild parents children) reaches_all = absurd cc
silent_edges scope c reaches_all = refl

silent_fault : (names : Names) (c : Command) → is_for_all c ≡ true → line_fault names c ≡ None
silent_fault names (ParentChild parents children) reaches_all = absurd cc
silent_fault names (Script kind (Node word) program arguments) reaches_all = absurd cc
silent_fault names (Retry (Node word) n v) reaches_all = absurd cc
silent_fault names (PreSkip (Node word) v) reaches_all = absurd cc
silent_fault names (Vars (Node word) placement macros) reaches_all = absurd cc
silent_fault names (Priority (Node word) k) reaches_all = absurd cc
silent_fault names (Category (Node word) category) reaches_all = absurd cc
silent_fault names (AbortDagOn (Node word) v status) reaches_all = absurd cc
silent_fault names c reaches_all = refl

silent_check : (path : List ℕ) (before : List Command) (c : Command) → is_for_all c ≡ true → check_line path before c ≡ Ok tt
silent_check path before (Job name file dir noop done) reaches_all = absurd cc
silent_check path before (Final name file dir noop) reaches_all = absurd cc
silent_check path before (Splice name file dir) reaches_all = absurd cc
silent_check path before c reaches_all = refl

silent_open : (opener : Opener) (used : Used) (above : List (List ℕ)) (folder : List ℕ) (c : Command) → is_for_all c ≡ true → open_line opener used above folder c ≡ Ok none
silent_open opener used above folder (Splice name file dir) reaches_all = absurd cc
silent_open opener used above folder c reaches_all = refl

module _ {Y : Type 0} (g : Command → List Y) (silent : (c : Command) → is_for_all c ≡ true → g c ≡ []) where
  flat_same : (cs : List Command) → flat_map g (filter keeps cs) ≡ flat_map g cs
  flat_same =
      each (λ xs ys. flat_map g xs ≡ flat_map g ys) refl (λ c xs ys same. ap (λ zs. g c ++ zs) same)
      (λ c xs ys reaches_all same. same ∙ sym (ap (λ zs. zs ++ flat_map g ys) (silent c reaches_all)))

jobs_same : (cs : List Command) → jobs_in (filter keeps cs) ≡ jobs_in cs
jobs_same = flat_same job_in silent_job

finals_same : (cs : List Command) → finals_in (filter keeps cs) ≡ finals_in cs
finals_same = flat_same final_in silent_final

splices_same : (cs : List Command) → splice_names (filter keeps cs) ≡ splice_names cs
splices_same = flat_same splice_name silent_splice

edges_same : (scope : NodeScope) (cs : List Command) → flat_map (line_edges scope) (filter keeps cs) ≡ flat_map (line_edges scope) cs
edges_same scope = flat_same (line_edges scope) (silent_edges scope)

fault_same : (names : Names) (cs : List Command) → first_some (line_fault names) (filter keeps cs) ≡ first_some (line_fault names) cs
fault_same names =
    each (λ xs ys. first_some (line_fault names) xs ≡ first_some (line_fault names) ys) refl (λ c xs ys same. ap (λ o. option_or (line_fault names c) o) same)
    (λ c xs ys reaches_all same. same ∙ sym (ap (λ o. option_or o (first_some (line_fault names) ys)) (silent_fault names c reaches_all)))

-- opening
bind_same : {A B : Type 0} (r : Result A DagFault) (f g : A → Result B DagFault) → ((x : A) → f x ≡ g x) → (r >>= f) ≡ (r >>= g)
bind_same (Ok x) f g same = same x
bind_same (Err e) f g same = refl

given_back : {A : Type 0} (r : Result A DagFault) → (r >>= λ x. Ok x) ≡ r
given_back (Ok x) = refl
given_back (Err e) = refl

module _ (opener : Opener) (above : List (List ℕ)) (folder : List ℕ) where
  abbrev Opens : List Command → List Command → Type 0
  Opens xs ys = (used : Used) → open_lines opener used above folder xs ≡ open_lines opener used above folder ys

  skip_open : (c : Command) (xs ys : List Command) → is_for_all c ≡ true → Opens xs ys → Opens xs (c ∷ ys)
  skip_open c xs ys reaches_all same = λ used.
      same used
      ∙ sym
      (ap (λ (r : Result Forest DagFault). r >>= λ first. open_lines opener (with_forest used first) above folder ys >>= λ others. Ok (forests_joined first others)) (silent_open opener used above folder c reaches_all)
      ∙ ap (λ (u : Used). open_lines opener u above folder ys >>= λ (others : Forest). Ok others) (used-none used) ∙ given_back (open_lines opener used above folder ys))

  opens_same : (cs : List Command) → Opens (filter keeps cs) cs
  opens_same =
      each Opens (λ used. refl)
      (λ c xs ys same used. bind_same (open_line opener used above folder c) _ _ (λ first. ap (λ (r : Result Forest DagFault). r >>= λ others. Ok (forests_joined first others)) (same (with_forest used first))))
      skip_open

-- names
record SameKinds (xs ys : List Command) : Type 0 where
  pub jobs : jobs_in xs ≡ jobs_in ys
  pub finals : finals_in xs ≡ finals_in ys
  pub splices : splice_names xs ≡ splice_names ys

flat_more : {Y : Type 0} (g : Command → List Y) (xs : List Command) (c : Command) → flat_map g (xs ++ c ∷ []) ≡ flat_map g xs ++ g c
flat_more g xs c = flat_map-append g xs (c ∷ []) ∙ ap (λ zs. flat_map g xs ++ zs) (append-nil (g c))

flat_silent : {Y : Type 0} (g : Command → List Y) (xs : List Command) (c : Command) → g c ≡ [] → flat_map g (xs ++ c ∷ []) ≡ flat_map g xs
flat_silent g xs c silent = flat_more g xs c ∙ ap (λ zs. flat_map g xs ++ zs) silent ∙ append-nil (flat_map g xs)

kinds_more : (xs ys : List Command) (c : Command) → SameKinds xs ys → SameKinds (xs ++ c ∷ []) (ys ++ c ∷ [])
kinds_more xs ys c same = record {
  jobs = flat_more job_in xs c ∙ ap (λ zs. zs ++ job_in c) same.jobs ∙ sym (flat_more job_in ys c);
  finals = flat_more final_in xs c ∙ ap (λ zs. zs ++ final_in c) same.finals ∙ sym (flat_more final_in ys c);
  splices = flat_more splice_name xs c ∙ ap (λ zs. zs ++ splice_name c) same.splices ∙ sym (flat_more splice_name ys c);
}

kinds_silent : (xs ys : List Command) (c : Command) → is_for_all c ≡ true → SameKinds xs ys → SameKinds xs (ys ++ c ∷ [])
kinds_silent xs ys c reaches_all same = record {
  jobs = same.jobs ∙ sym (flat_silent job_in ys c (silent_job c reaches_all));
  finals = same.finals ∙ sym (flat_silent final_in ys c (silent_final c reaches_all));
  splices = same.splices ∙ sym (flat_silent splice_name ys c (silent_splice c reaches_all));
}

is_declared_by : List (List ℕ) → List (List ℕ) → List (List ℕ) → PlacedText → Bool
is_declared_by jobs finals splices name = list_any (bytes_eq name.text) jobs || (list_any (bytes_eq name.text) finals || list_any (bytes_eq name.text) splices)

declared_same : (xs ys : List Command) (name : PlacedText) → SameKinds xs ys → is_declared xs name ≡ is_declared ys name
unfolding is_declared_by
declared_same xs ys name same =
    ap (λ js. is_declared_by (names_in js) (final_names xs) (splice_names xs) name) same.jobs ∙ ap (λ fs. is_declared_by (job_names ys) (names_in fs) (splice_names xs) name) same.finals
    ∙ ap (λ ss. is_declared_by (job_names ys) (final_names ys) ss name) same.splices

checked_same : (path : List ℕ) (xs ys : List Command) (c : Command) → SameKinds xs ys → check_line path xs c ≡ check_line path ys c
checked_same path xs ys (Job name file dir noop done) same = ap (λ taken. once taken path name) (declared_same xs ys name same)
checked_same path xs ys (Final name file dir noop) same =
    ap (λ (fs : List Declared). once (nat_lt 0 (length fs) || is_declared xs name) path name) same.finals ∙ ap (λ taken. once (has_final ys || taken) path name) (declared_same xs ys name same)
checked_same path xs ys (Splice name file dir) same = ap (λ taken. once taken path name) (declared_same xs ys name same)
checked_same path xs ys c same = refl

module _ (path : List ℕ) where
  abbrev Checks : List Command → List Command → Type 0
  Checks xs ys = (front back : List Command) → SameKinds front back → check_lines path front xs ≡ check_lines path back ys

  check_same : (cs : List Command) → Checks (filter keeps cs) cs
  check_same =
      each Checks (λ front back same. refl)
      (λ c xs ys rest front back same.
      ap (λ (r : Result (Unit {0}) DagFault). r >>= λ _. check_lines path (front ++ c ∷ []) xs) (checked_same path front back c same)
      ∙ bind_same (check_line path back c) _ _ (λ _. rest (front ++ c ∷ []) (back ++ c ∷ []) (kinds_more front back c same)))
      (λ c xs ys reaches_all rest front back same.
      rest front (back ++ c ∷ []) (kinds_silent front back c reaches_all same) ∙ sym (ap (λ (r : Result (Unit {0}) DagFault). r >>= λ _. check_lines path (back ++ c ∷ []) ys) (silent_check path back c reaches_all)))

-- settings
for_all_none : (o : Option Target) (finals : List (List ℕ)) (place : ℕ) → is_all o ≡ true → is_for [] finals o place ≡ false
for_all_none None finals place reaches_all = absurd cc
for_all_none (Some (Node word)) finals place reaches_all = absurd cc
for_all_none (Some (AllNodes span)) finals place reaches_all = grind (arith, nat_tests)

flat_ext : {X Y : Type 0} (f g : X → List Y) (xs : List X) → ((x : X) → f x ≡ g x) → flat_map f xs ≡ flat_map g xs
flat_ext f g [] same = refl
flat_ext f g (x ∷ xs) same = ap (λ zs. zs ++ flat_map f xs) (same x) ∙ ap (λ zs. g x ++ zs) (flat_ext f g xs same)

flat_none : {X Y : Type 0} (f : X → List Y) (xs : List X) → ((x : X) → f x ≡ []) → flat_map f xs ≡ []
flat_none f [] silent = refl
flat_none f (x ∷ xs) silent = ap (λ zs. zs ++ flat_map f xs) (silent x) ∙ flat_none f xs silent

warn_silent : (path prefix : List ℕ) (warned : Warned) (c : Command) → is_for_all c ≡ true → warn_line path prefix warned c [] ≡ warned
warn_silent path prefix warned (MaxJobs category n) reaches_all = absurd cc
warn_silent path prefix warned (Ignored span) reaches_all = absurd cc
warn_silent path prefix warned c reaches_all = refl

module _ (prefix : List ℕ) (cs : List Command) (no_jobs : jobs_in cs ≡ []) where
  abbrev ls : List Command
  ls = filter keeps cs

  abbrev step : List Declared → List Declared → ℕ → Settings → Command → Settings
  step jobs finals place s c = if is_for (names_in jobs) (names_in finals) (setting_target c) place then with_line prefix s c else s

  idle : (c : Command) (place : ℕ) → is_for_all c ≡ true → is_for (job_names cs) (final_names cs) (setting_target c) place ≡ false
  idle c place reaches_all = ap (λ (js : List Declared). is_for (names_in js) (final_names cs) (setting_target c) place) no_jobs ∙ for_all_none (setting_target c) (final_names cs) place reaches_all

  same_step : (place : ℕ) → step (jobs_in ls) (finals_in ls) place ≡ step (jobs_in cs) (finals_in cs) place
  same_step place = ap (λ js. step js (finals_in ls) place) (jobs_same cs) ∙ ap (λ fs. step (jobs_in cs) fs place) (finals_same cs)

  idle_step : (place : ℕ) (s : Settings) (c : Command) → is_for_all c ≡ true → step (jobs_in cs) (finals_in cs) place s c ≡ s
  idle_step place s c reaches_all = cond-false (is_for (job_names cs) (final_names cs) (setting_target c) place) (with_line prefix s c) s (idle c place reaches_all)

  folded : (place : ℕ) (lines : List Command) (s : Settings) → fold (step (jobs_in cs) (finals_in cs) place) s (filter keeps lines) ≡ fold (step (jobs_in cs) (finals_in cs) place) s lines
  folded place =
      let run = fold (step (jobs_in cs) (finals_in cs) place) in
      each (λ xs ys. (s : Settings) → run s xs ≡ run s ys) (λ s. refl) (λ c xs ys same s. same (step (jobs_in cs) (finals_in cs) place s c))
      (λ c xs ys reaches_all same s. same s ∙ sym (ap (λ t. run t ys) (idle_step place s c reaches_all)))

  settings_same : (place : ℕ) → settings_at prefix ls ls place ≡ settings_at prefix cs cs place
  settings_same place = ap (λ f. fold f no_settings ls) (same_step place) ∙ folded place cs no_settings

  abbrev SameSettings : List Command → List Command → Type 0
  SameSettings front back = (place : ℕ) → settings_at prefix ls front place ≡ settings_at prefix cs back place

  settings_next : (front back : List Command) (c : Command) → SameSettings front back → SameSettings (front ++ c ∷ []) (back ++ c ∷ [])
  settings_next front back c same place =
      fold-append (step (jobs_in ls) (finals_in ls) place) no_settings front (c ∷ []) ∙ ap (λ s. step (jobs_in ls) (finals_in ls) place s c) (same place)
      ∙ ap (λ f. f (settings_at prefix cs back place) c) (same_step place) ∙ sym (fold-append (step (jobs_in cs) (finals_in cs) place) no_settings back (c ∷ []))

  settings_idle : (front back : List Command) (c : Command) → is_for_all c ≡ true → SameSettings front back → SameSettings front (back ++ c ∷ [])
  settings_idle front back c reaches_all same place =
      same place ∙ sym (fold-append (step (jobs_in cs) (finals_in cs) place) no_settings back (c ∷ []) ∙ idle_step place (settings_at prefix cs back place) c reaches_all)

  abbrev lines_of : List Declared → List Declared → (ℕ → Settings) → Command → List ℕ
  lines_of jobs finals settings c =
      flat_map (λ place. if is_for (names_in jobs) (names_in finals) (setting_target c) place then replaced_in (settings place) c else []) (range_with_len 0 (length (names_in jobs ++ names_in finals)))

  replaced_same : (front back : List Command) (c : Command) → SameSettings front back → replaced_lines prefix ls front c ≡ replaced_lines prefix cs back c
  replaced_same front back c same =
      ap (λ js. each_once (lines_of js (finals_in ls) (settings_at prefix ls front) c)) (jobs_same cs) ∙ ap (λ fs. each_once (lines_of (jobs_in cs) fs (settings_at prefix ls front) c)) (finals_same cs)
      ∙ ap each_once (flat_ext _ _ (range_with_len 0 (length (node_names cs))) (λ place. ap (λ s. if is_for (job_names cs) (final_names cs) (setting_target c) place then replaced_in s c else []) (same place)))

  none_replaced : (back : List Command) (c : Command) → is_for_all c ≡ true → replaced_lines prefix cs back c ≡ []
  none_replaced back c reaches_all =
      ap each_once (flat_none _ (range_with_len 0 (length (node_names cs))) (λ place. cond-false (is_for (job_names cs) (final_names cs) (setting_target c) place) (replaced_in (settings_at prefix cs back place) c) [] (idle c place reaches_all)))

  module _ (path : List ℕ) where
    abbrev Tells : List Command → List Command → Type 0
    Tells xs ys = (front back : List Command) (warned : Warned) → SameSettings front back → warn_lines path prefix ls front warned xs ≡ warn_lines path prefix cs back warned ys

    warn_same : (lines : List Command) → Tells (filter keeps lines) lines
    warn_same =
        each Tells (λ front back warned same. refl)
        (λ c xs ys rest front back warned same.
        ap (λ r. warn_lines path prefix ls (front ++ c ∷ []) (warn_line path prefix warned c r) xs) (replaced_same front back c same)
        ∙ rest (front ++ c ∷ []) (back ++ c ∷ []) (warn_line path prefix warned c (replaced_lines prefix cs back c)) (settings_next front back c same))
        (λ c xs ys reaches_all rest front back warned same.
        rest front (back ++ c ∷ []) warned (settings_idle front back c reaches_all same)
        ∙ sym (ap (λ t. warn_lines path prefix cs (back ++ c ∷ []) t ys) (ap (warn_line path prefix warned c) (none_replaced back c reaches_all) ∙ warn_silent path prefix warned c reaches_all)))

-- What is the same of two lists of lines, for whoever opens a file.
pub record Acts (xs ys : List Command) : Type 0 where
  pub jobs : jobs_in xs ≡ jobs_in ys
  pub finals : finals_in xs ≡ finals_in ys
  pub splices : splice_names xs ≡ splice_names ys
  pub checks : (path : List ℕ) → check_lines path [] xs ≡ check_lines path [] ys
  pub opens : (opener : Opener) (used : Used) (above : List (List ℕ)) (folder : List ℕ) → open_lines opener used above folder xs ≡ open_lines opener used above folder ys
  pub edges : (scope : NodeScope) → flat_map (line_edges scope) xs ≡ flat_map (line_edges scope) ys
  pub fault : (names : Names) → first_some (line_fault names) xs ≡ first_some (line_fault names) ys
  pub settings : (prefix : List ℕ) (place : ℕ) → settings_at prefix xs xs place ≡ settings_at prefix ys ys place
  pub warned : (path prefix : List ℕ) (warned : Warned) → warn_file path prefix xs warned ≡ warn_file path prefix ys warned

whole : (cs : List Command) → Acts cs cs
whole cs = record {
  jobs = refl;
  finals = refl;
  splices = refl;
  checks = λ path. refl;
  opens = λ opener used above folder. refl;
  edges = λ scope. refl;
  fault = λ names. refl;
  settings = λ prefix place. refl;
  warned = λ path prefix warned. refl;
}

filtered : (cs : List Command) → jobs_in cs ≡ [] → Acts (filter keeps cs) cs
filtered cs no_jobs = record {
  jobs = jobs_same cs;
  finals = finals_same cs;
  splices = splices_same cs;
  checks = λ path. check_same path cs [] [] (record { jobs = refl; finals = refl; splices = refl });
  opens = λ opener used above folder. opens_same opener above folder cs used;
  edges = λ scope. edges_same scope cs;
  fault = λ names. fault_same names cs;
  settings = λ prefix place. settings_same prefix cs no_jobs place;
  warned = λ path prefix warned. warn_same prefix cs no_jobs path cs [] [] warned (λ place. refl);
}

no_length : {X : Type 0} (xs : List X) → (length xs == 0) ≡ true → xs ≡ []
no_length [] is = refl
no_length (x ∷ xs) is = let empty : length (x ∷ xs) ≡ 0 = eqb-true (length (x ∷ xs)) 0 is in absurd (omega arith)

pub acts : (cs : List Command) → Acts (acting cs) cs
acts cs =
    ⊎_elim (λ reaches_all. subst (λ xs. Acts xs cs) (sym (cond-true (own_count cs == 0) (filter keeps cs) cs reaches_all)) (filtered cs (no_length (jobs_in cs) reaches_all)))
    (λ reaches_less. subst (λ xs. Acts xs cs) (sym (cond-false (own_count cs == 0) (filter keeps cs) cs reaches_less)) (whole cs)) (cases_Bool (own_count cs == 0))

-- the lines that are kept of a file with no JOB lines
pub acting_kept : (cs lines kept : List Command) (has : Bool) → lines ≡ cs → has ≡ not (own_count lines == 0) → has ≡ false → kept ≡ filter keeps cs → kept ≡ acting cs
acting_kept cs lines kept has are is without so =
    let empty : (own_count lines == 0) ≡ true = not-false (own_count lines == 0) (sym is ∙ without) in
    so ∙ sym (cond-true (own_count cs == 0) (filter keeps cs) cs (ap (λ ds. own_count ds == 0) (sym are) ∙ empty))
