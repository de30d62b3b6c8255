use Rattle.std.proofs.Common.{◌∙◌, List, ℕ, Some, ap}
use Rattle.round_inputs.specs.Inputs.{inputs_text_of}
use Rattle.salvage.specs.declared.fault.SalvageFault.TheVariants.{Refused}
use Rattle.salvage.specs.Refused.{IsSalvageFault, no_round, round_refused, no_standard_input, no_inputs}
use Rattle.salvage.specs.Sight.{held_files_if}
use Rattle.salvage.proofs.Refusals.{told-as}
use Rattle.salvage.proofs.here.read_round.Goals as goal

pub returns-in_err-round-clause-refused : goal.returns-in_err-round-clause-refused
returns-in_err-round-clause-refused g c =
    told-as (IsSalvageFault c.args.too (held_files_if (g.F.Folder.honest c.args.folder.now) (g.F.Folder.holds c.args.folder.now) (g.F.Folder.has c.args.folder.now) c.args.top.now) c.args.top.now) c.in_err-round.field-0.0 (no_round _ c.in_err-round.ensures.refused) c.from_residual.result c.from_residual.ensures.1

pub returns-in_err-inputs-clause-refused : goal.returns-in_err-inputs-clause-refused
returns-in_err-inputs-clause-refused g c =
    told-as (IsSalvageFault c.args.too (held_files_if (g.F.Folder.honest c.args.folder.now) (g.F.Folder.holds c.args.folder.now) (g.F.Folder.has c.args.folder.now) c.args.top.now) c.args.top.now) c.in_err-inputs.field-0.0
    (round_refused _ _ _ _ _ _ _ c.in_ok-round.ensures.held c.in_ok-round.ensures.left (no_inputs _ c.in_err-inputs.ensures.refused))
    c.from_residual-in_err-inputs.result c.from_residual-in_err-inputs.ensures.1

pub returns-in_err-files-clause-refused : goal.returns-in_err-files-clause-refused
returns-in_err-files-clause-refused g c =
    told-as (IsSalvageFault c.args.too (held_files_if (g.F.Folder.honest c.args.folder.now) (g.F.Folder.holds c.args.folder.now) (g.F.Folder.has c.args.folder.now) c.args.top.now) c.args.top.now) (Refused c.in_err-files.field-0.0)
    (no_standard_input _ c.in_err-files.ensures.refused)
    c.from_residual-in_err-files.result c.from_residual-in_err-files.ensures.1

pub returns-in_err-made-clause-refused : goal.returns-in_err-made-clause-refused
returns-in_err-made-clause-refused g c =
    told-as (IsSalvageFault c.args.too (held_files_if (g.F.Folder.honest c.args.folder.now) (g.F.Folder.holds c.args.folder.now) (g.F.Folder.has c.args.folder.now) c.args.top.now) c.args.top.now) c.in_err-made.field-0.0 c.in_err-made.ensures.refused
    c.from_residual-in_err-made.result c.from_residual-in_err-made.ensures.1

pub made_of_round-requires-clause-inputs : goal.made_of_round-requires-clause-inputs
made_of_round-requires-clause-inputs g c = λ honest.
    c.in_ok-inputs.ensures.held honest
    ∙ ap (λ (d : List ℕ). Some (inputs_text_of d c.in_ok-inputs.inputs.files.items)) c.in_ok-inputs.ensures.inputs

pub returns-in_err-has_written_none-clause-refused : goal.returns-in_err-has_written_none-clause-refused
returns-in_err-has_written_none-clause-refused g c =
    told-as (IsSalvageFault c.args.too (held_files_if (g.F.Folder.honest c.args.folder.now) (g.F.Folder.holds c.args.folder.now) (g.F.Folder.has c.args.folder.now) c.args.top.now) c.args.top.now) c.in_err-has_written_none.field-0.0 c.in_err-has_written_none.ensures.refused
    c.from_residual-in_err-has_written_none.result c.from_residual-in_err-has_written_none.ensures.1
