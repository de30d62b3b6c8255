use Rattle.std.proofs.Common.{◌∙◌, List, ℕ, ap, sym, subst}
use Rattle.std.specs.Option.{option_map}
use Rattle.rescue_file.specs.Numbered.{rescue_name_of}
use Rattle.dag_main_check.specs.declared.fault.RunFault.{RunFault}
use Rattle.dag_main_check.specs.declared.fault.RunFault.TheVariants.{Memory}
use Rattle.dag_main_files.specs.Beside.{IsRefusalOf}
use Rattle.salvage.specs.declared.fault.SalvageFault.TheVariants.{Refused, Ended}
use Rattle.salvage.specs.Refused.{IsSalvageFault, rescue_is_written, rescue_not_written, making_had_no_memory}
use Rattle.salvage.specs.Sight.{held_files_if}
use Rattle.salvage.proofs.Refusals.{told-as}
use Rattle.salvage.proofs.here.has_written_none.Goals as goal

pub returns-in_err-path-clause-refused : goal.returns-in_err-path-clause-refused
returns-in_err-path-clause-refused g c =
    let sight = held_files_if (g.F.Folder.honest c.args.folder.now) (g.F.Folder.holds c.args.folder.now) (g.F.Folder.has c.args.folder.now) c.args.top.now in
    told-as (IsSalvageFault c.args.too sight c.args.top.now) (Refused c.in_err-path.field-0.0)
    (subst (λ (f : RunFault). IsSalvageFault c.args.too sight c.args.top.now (Refused f)) (sym c.in_err-path.ensures.err) making_had_no_memory)
    c.from_residual.result c.from_residual.ensures.1

pub returns-in_err-_bytes-clause-refused : goal.returns-in_err-_bytes-clause-refused
returns-in_err-_bytes-clause-refused g c =
    let sight = held_files_if (g.F.Folder.honest c.args.folder.now) (g.F.Folder.holds c.args.folder.now) (g.F.Folder.has c.args.folder.now) c.args.top.now in
    told-as (IsSalvageFault c.args.too sight c.args.top.now) (Refused c.in_err-_bytes.field-0.0)
    (rescue_not_written _ _ _ _ _ _ _ c.requires.journal c.requires.left
    (subst (λ (name : List ℕ). IsRefusalOf name c.in_err-_bytes.field-0.0) (c.as_str.ensures ∙ c.in_ok-path.ensures.name) c.in_err-_bytes.ensures.named))
    c.from_residual-in_err-_bytes.result c.from_residual-in_err-_bytes.ensures.1

pub returns-in_err-journal_path-in-Some-clause-refused : goal.returns-in_err-journal_path-in-Some-clause-refused
returns-in_err-journal_path-in-Some-clause-refused g c =
    told-as (IsSalvageFault c.args.too (held_files_if (g.F.Folder.honest c.args.folder.now) (g.F.Folder.holds c.args.folder.now) (g.F.Folder.has c.args.folder.now) c.args.top.now) c.args.top.now) (Refused Memory) making_had_no_memory
    c.from_residual-in_err-journal_path-in-Some.result c.from_residual-in_err-journal_path-in-Some.ensures.1

pub returns-in-Some-clause-refused : goal.returns-in-Some-clause-refused
returns-in-Some-clause-refused g c =
    subst (λ (n : List ℕ). IsSalvageFault c.args.too (held_files_if (g.F.Folder.honest c.args.folder.now) (g.F.Folder.holds c.args.folder.now) (g.F.Folder.has c.args.folder.now) c.args.top.now) c.args.top.now (Ended n))
    (sym c.in_ok-journal_path-in-Some.ensures)
    (rescue_is_written c.args.round.now.journal.items c.requires.left.found c.in-Some._bytes.items c.requires.journal c.requires.left.reads
    (c.requires.left.ended_is ∙ c.if-not-round.false)
    (λ honest. ap (g.F.Folder.holds c.args.folder.now) (ap (rescue_name_of c.args.top.now) (sym c.requires.left.next_is) ∙ sym (c.as_str.ensures ∙ c.in_ok-path.ensures.name))
    ∙ sym (c.in_ok-_bytes.ensures.bytes honest) ∙ ap (option_map (λ b. b.items)) c.in-Some.is))

pub returns-clause-none : goal.returns-clause-none
returns-clause-none g c = λ honest ended.
    ap (g.F.Folder.holds c.args.folder.now) (sym (c.as_str.ensures ∙ c.in_ok-path.ensures.name))
    ∙ sym (c.in_ok-_bytes.ensures.bytes honest) ∙ ap (option_map (λ b. b.items)) c.in-None.is
