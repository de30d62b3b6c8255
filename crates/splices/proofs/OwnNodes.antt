-- A file's own nodes, names and faults.
use Rattle.std.proofs.Common.{◌≡◌, ℕ, ◌+◌, ◌<◌, ◌≤◌, List, [], ◌∷◌, ◌++◌, length, take, drop, get_or, Option, Some, None, Result, Ok, Err, IfOk, refl, sym, ap, subst, ◌∙◌, arith}
use Rattle.std.proofs.lemmas.List.{append-nil, length-append}
use Rattle.std.proofs.Math.Seq.{take-append_seam, drop-append_seam}
use Rattle.std.specs.declared.alloc.AllocError.{AllocError}
use Rattle.dag_reader.specs.declared.command.Command.{Command}
use Rattle.dag_reader.specs.declared.command.Command.TheVariants.{ParentChild}
use Rattle.dag_reader.specs.Word.{PlacedText}
use Rattle.splices_flat.specs.declared.flat.FlatNode.{FlatNode}
use Rattle.splices_flat.specs.declared.fault.DagFault.{DagFault}
use Rattle.splices_flat.specs.declared.fault.SpliceFault.{SpliceFault}
use Rattle.splices_flat.specs.Nodes.{jobs_in, finals_in, job_names, declared_nodes, own_count}
use Rattle.splices_flat.specs.Settings.{settings_at}
use Rattle.splices_flat.specs.Warnings.{warn_file}
use Rattle.splices.specs.declared.open.DagBuilder.{DagBuilder}
use Rattle.splices_flat.specs.Forest.{OpenFile, job_nodes, final_nodes}
use Rattle.splices_flat.specs.Faults.{Names, first_some, edge_fault, line_fault}
use Rattle.splices_flat.specs.Opening.{check_line, check_lines}
use Rattle.splices.specs.Adds.{Fails, AddsFiles}
use Rattle.splices_flat.proofs.Opened.{own-length}
use Rattle.splices.proofs.DagBuilders.{fails_bind, first_append, line_step}
use Rattle.splices_flat.proofs.Own.{names-length, nodes_of-append}

abbrev pub all_nodes : OpenFile → List FlatNode
all_nodes f = declared_nodes f.prefix f.said.folder (settings_at f.prefix f.said.commands f.said.commands) 0 (jobs_in f.said.commands ++ finals_in f.said.commands)

both : (f : OpenFile) → all_nodes f ≡ job_nodes f ++ final_nodes f
both f =
    let start : 0 + own_count f.said.commands ≡ own_count f.said.commands = omega arith in
    nodes_of-append f.prefix f.said.folder (settings_at f.prefix f.said.commands f.said.commands) 0 (jobs_in f.said.commands) (finals_in f.said.commands)
    ∙ ap (λ (k : ℕ). job_nodes f ++ declared_nodes f.prefix f.said.folder (settings_at f.prefix f.said.commands f.said.commands) k (finals_in f.said.commands)) start

count_is : (f : OpenFile) (n : ℕ) (jobs : List (List ℕ)) → n ≡ length jobs → jobs ≡ job_names f.said.commands → n ≡ length (job_nodes f)
count_is f n jobs is names = is ∙ ap (λ (x : List (List ℕ)). length x) names ∙ names-length (jobs_in f.said.commands) ∙ sym (own-length f)

pub front_is : (f : OpenFile) (own : List FlatNode) (n : ℕ) (jobs : List (List ℕ)) → own ≡ all_nodes f → n ≡ length jobs → jobs ≡ job_names f.said.commands → take n own ≡ job_nodes f
front_is f own n jobs is count names =
    ap (λ (k : ℕ). take k own) (count_is f n jobs count names) ∙ ap (take (length (job_nodes f))) (is ∙ both f) ∙ take-append_seam (job_nodes f) (final_nodes f)

pub back_is : (f : OpenFile) (own : List FlatNode) (n : ℕ) (jobs : List (List ℕ)) → own ≡ all_nodes f → n ≡ length jobs → jobs ≡ job_names f.said.commands → drop n own ≡ final_nodes f
back_is f own n jobs is count names =
    ap (λ (k : ℕ). drop k own) (count_is f n jobs count names) ∙ ap (drop (length (job_nodes f))) (is ∙ both f) ∙ drop-append_seam (job_nodes f) (final_nodes f)

pub split_fits : (f : OpenFile) (own : List FlatNode) (n : ℕ) (jobs : List (List ℕ)) → own ≡ all_nodes f → n ≡ length jobs → jobs ≡ job_names f.said.commands → n ≤ length own
split_fits f own n jobs is count names =
    let total : length own ≡ length (job_nodes f) + length (final_nodes f) = ap (λ (x : List FlatNode). length x) (is ∙ both f) ∙ length-append (job_nodes f) (final_nodes f) in
    let front : n ≡ length (job_nodes f) = count_is f n jobs count names in
    omega arith

-- a file's own nodes are added, and its lines noted
pub own_added : (f : OpenFile) (old new : DagBuilder) (own front back : List FlatNode) (n : ℕ) (jobs : List (List ℕ))
    → own ≡ all_nodes f → n ≡ length jobs → jobs ≡ job_names f.said.commands → front ≡ take n own → back ≡ drop n own
    → new.nodes.items ≡ old.nodes.items ++ front → new.finals.items ≡ old.finals.items ++ back → new.warned ≡ warn_file f.said.path f.prefix f.said.commands old.warned
    → AddsFiles old new (f ∷ [])
own_added f old new own front back n jobs is count names front_are back_are nodes finals warned = record {
  nodes = nodes ∙ ap (λ (ns : List FlatNode). old.nodes.items ++ ns) (front_are ∙ front_is f own n jobs is count names ∙ sym (append-nil (job_nodes f)));
  finals = finals ∙ ap (λ (ns : List FlatNode). old.finals.items ++ ns) (back_are ∙ back_is f own n jobs is count names ∙ sym (append-nil (final_nodes f)));
  warned = warned;
}

-- names that are declared once
pub names_fail : (path : List ℕ) (cs : List Command) (i : ℕ) (c : Command) (e : SpliceFault) (all : Result (Unit {0}) DagFault)
    → c ≡ get_or cs i c → i < length cs → Fails e (check_line path (take i cs) c) → check_lines path (take i cs) (drop i cs) ≡ all → Fails e all
names_fail path cs i c e all is small fails reads =
    subst (Fails e) (sym (line_step path cs i c small) ∙ reads)
    (fails_bind e (check_line path (take i cs) (get_or cs i c)) _ (subst (λ (d : Command). Fails e (check_line path (take i cs) d)) is fails))

-- the fault of a PARENT line
pair_fault : (names : Names) (ps cs : List PlacedText) (x : Option DagFault) → first_some (edge_fault names) ps ≡ x → x ≡ None → first_some (edge_fault names) cs ≡ first_some (edge_fault names) (ps ++ cs)
pair_fault names ps cs x is none = sym (first_append (edge_fault names) ps cs ∙ rw (is, none) refl)

pub pair_some : (names : Names) (ps cs words : List PlacedText) (command : Command) (found : Option DagFault) (fault : DagFault) → command ≡ ParentChild ps cs → words ≡ ps → found ≡ first_some (edge_fault names) words → found ≡ Some fault → Some fault ≡ line_fault names command
pair_some names ps cs words command found fault is same first some =
    let here : first_some (edge_fault names) ps ≡ Some fault = ap (first_some (edge_fault names)) (sym same) ∙ sym first ∙ some in
    sym (ap (line_fault names) is ∙ first_append (edge_fault names) ps cs ∙ rw here refl)

pub pair_none : (names : Names) (ps cs words others : List PlacedText) (command : Command) (found : Option DagFault) (r : Result (Option DagFault) AllocError) → command ≡ ParentChild ps cs → words ≡ ps → others ≡ cs → found ≡ first_some (edge_fault names) words → found ≡ None
    → IfOk r (λ fault. fault ≡ first_some (edge_fault names) others) → IfOk r (λ fault. fault ≡ line_fault names command)
pair_none names ps cs words others command found (Ok x) is same rest first none h =
    let here : first_some (edge_fault names) ps ≡ found = ap (first_some (edge_fault names)) (sym same) ∙ sym first in
    h ∙ ap (first_some (edge_fault names)) rest ∙ pair_fault names ps cs found here none ∙ sym (ap (line_fault names) is)
pair_none names ps cs words others command found (Err e) is same rest first none h = tt
