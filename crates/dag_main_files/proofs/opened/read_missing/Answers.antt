use Rattle.std.proofs.Common.{◌∙◌, None, refl, ap, sym, subst}
use Rattle.std.specs.Option.{option_map}
use Rattle.dag_main_check.specs.declared.fault.RunFault.TheVariants.{Memory}
use Rattle.dag_main_files.specs.Opened.{IsStill, still_missing, asking_had_no_memory}
use Rattle.dag_main_files.proofs.Held.{read-added}
use Rattle.dag_main_files.proofs.OpenedFiles.{none-missing, not-held}
use Rattle.dag_main_files.proofs.RunFaults.{by-fault}
use Rattle.dag_main_files.proofs.opened.read_missing.Goals as goal

pub returns-in_default-clause-refused : goal.returns-in_default-clause-refused
returns-in_default-clause-refused g c = still_missing (none-missing _ c.missing_in.result c.args.fault c.missing_in.ensures c.in_default.is _)

pub returns-in_default-clause-refused_held : goal.returns-in_default-clause-refused_held
returns-in_default-clause-refused_held g c = λ honest. still_missing (none-missing _ c.missing_in.result c.args.fault c.missing_in.ensures c.in_default.is _)

pub returns-in_err-bytes-clause-refused : goal.returns-in_err-bytes-clause-refused
returns-in_err-bytes-clause-refused g c =
    by-fault (IsStill (λ path. None) c.args.fault) c.in_err-bytes.field-0.0
    (subst (IsStill (λ path. None) c.args.fault) (sym c.in_err-bytes.ensures.refused) asking_had_no_memory) c.from_residual.result c.from_residual.ensures.1

pub returns-in_err-bytes-clause-refused_held : goal.returns-in_err-bytes-clause-refused_held
returns-in_err-bytes-clause-refused_held g c = λ honest.
    by-fault (IsStill (g.F.Folder.holds c.args.folder.now) c.args.fault) c.in_err-bytes.field-0.0
    (subst (IsStill (g.F.Folder.holds c.args.folder.now) c.args.fault) (sym c.in_err-bytes.ensures.refused) asking_had_no_memory) c.from_residual.result c.from_residual.ensures.1

pub returns-in_err-add_owned-in-Some-2-clause-refused : goal.returns-in_err-add_owned-in-Some-2-clause-refused
returns-in_err-add_owned-in-Some-2-clause-refused g c =
    by-fault (IsStill (λ path. None) c.args.fault) Memory asking_had_no_memory
    c.from_residual-in_err-add_owned-in-Some-2.result c.from_residual-in_err-add_owned-in-Some-2.ensures.1

pub returns-in_err-add_owned-in-Some-2-clause-refused_held : goal.returns-in_err-add_owned-in-Some-2-clause-refused_held
returns-in_err-add_owned-in-Some-2-clause-refused_held g c = λ honest.
    by-fault (IsStill (g.F.Folder.holds c.args.folder.now) c.args.fault) Memory asking_had_no_memory
    c.from_residual-in_err-add_owned-in-Some-2.result c.from_residual-in_err-add_owned-in-Some-2.ensures.1

pub returns-in_ok-add_owned-in-Some-2-clause-read : goal.returns-in_ok-add_owned-in-Some-2-clause-read
returns-in_ok-add_owned-in-Some-2-clause-read g c = λ honest top before.
    read-added c.args.files.now c.add_owned.new.self c.in-Some.path.now _ c.in_ok-add_owned-in-Some-2.ensures.added c.in_ok-add_owned-in-Some-2.ensures.others
    (g.F.Folder.holds c.args.folder.now) (sym (c.in_ok-bytes.ensures.bytes honest) ∙ ap (option_map (λ b. b.items)) c.in-Some-2.is) top before

pub returns-in-None-clause-refused : goal.returns-in-None-clause-refused
returns-in-None-clause-refused g c = still_missing (λ path is. refl)

pub returns-in-None-clause-refused_held : goal.returns-in-None-clause-refused_held
returns-in-None-clause-refused_held g c = λ honest.
    still_missing (not-held _ c.missing_in.result c.args.fault c.in-Some.path c.missing_in.ensures c.in-Some.is (g.F.Folder.holds c.args.folder.now)
    (sym (c.in_ok-bytes.ensures.bytes honest) ∙ ap (option_map (λ b. b.items)) c.in-None.is))
