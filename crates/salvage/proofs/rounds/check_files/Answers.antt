use Rattle.std.proofs.Common.{rules, ◌≡◌, ◌∙◌, sym, ◌∷◌, ℕ, List, map, subst, string_bytes}
use Rattle.std.specs.Map.Iter.{deref_pair}
use Rattle.std.proofs.lemmas.Map.Iter.{iter_end, rest_so_far, rest_more}
use Rattle.std.proofs.lemmas.List.Elements.{All-nil, All-push}
use Rattle.splices_flat.specs.FileSet.{entries_of}
use Rattle.salvage.specs.Round.{IsSame}
use Rattle.salvage.specs.Others.{IsFirstOther, IsOtherFile}
use Rattle.round_inputs.proofs.Listings.{lent_file, entries_all}
use Rattle.salvage.proofs.Refusals.{told-as, first-other}
use Rattle.salvage.proofs.rounds.check_files.Goals as goal

pub loop-path-init : goal.loop-path-init
loop-path-init c = All-nil (λ file. IsSame c.args.inputs.now.files.items (lent_file file))

pub loop-path-preserved : goal.loop-path-preserved
loop-path-preserved c = All-push (λ file. IsSame c.args.inputs.now.files.items (lent_file file)) c.loop-path.yielded (c.in-Some.path, c.in-Some.bytes)
    c.loop-path.invariant
    (subst (λ (b : List ℕ). IsSame c.args.inputs.now.files.items (string_bytes c.in-Some.path.now, b)) c.as_slice.ensures.value
    (subst (λ (p : List ℕ). IsSame c.args.inputs.now.files.items (p, c.as_slice.result.now)) c.as_str.ensures.value c.in_ok-check_file.ensures.same))

pub returns-in_err-check_file-clause-refused : goal.returns-in_err-check_file-clause-refused
returns-in_err-check_file-clause-refused c =
    let other : IsOtherFile c.args.inputs.now.files.items (string_bytes c.in-Some.path.now, c.in-Some.bytes.now.items) c.in_err-check_file.field-0.0 =
    subst (λ (b : List ℕ). IsOtherFile c.args.inputs.now.files.items (string_bytes c.in-Some.path.now, b) c.in_err-check_file.field-0.0) c.as_slice.ensures.value
    (subst (λ (p : List ℕ). IsOtherFile c.args.inputs.now.files.items (p, c.as_slice.result.now) c.in_err-check_file.field-0.0) c.as_str.ensures.value c.in_err-check_file.ensures.refused) in
    let more : c.loop-path.path-iterator ≡ deref_pair (c.in-Some.path, c.in-Some.bytes) ∷ c.next.new.self = rest_more deref_pair _ _ _ _ c.in-Some.is c.next.ensures.steps in
    let start : c.into_iter-path-iterator.result ≡ c.args.files.now.files.entries = search rules in
    told-as (IsFirstOther c.args.inputs.now.files.items (entries_of c.args.files.now)) c.in_err-check_file.field-0.0
    (first-other c.args.inputs.now.files.items c.args.files.now c.loop-path.yielded c.loop-path.path-iterator c.next.new.self (c.in-Some.path, c.in-Some.bytes) c.in_err-check_file.field-0.0
    (sym start ∙ rest_so_far deref_pair c.loop-path.yielded _ _ c.loop-path.yielded_by) more c.loop-path.invariant other)
    c.from_residual.result c.from_residual.ensures.1

pub returns-clause-same : goal.returns-clause-same
returns-clause-same c =
    let all : map deref_pair c.loop-path.yielded ≡ c.args.files.now.files.entries = search (rules, iter_end) in
    entries_all (IsSame c.args.inputs.now.files.items) c.args.files.now c.loop-path.yielded all c.loop-path.invariant
