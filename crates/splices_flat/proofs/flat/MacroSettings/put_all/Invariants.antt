use Rattle.std.proofs.Common.{◌≡◌, map, drop}
use Rattle.splices_flat.specs.Settings.{line_of_target, macro_setting}
use Rattle.splices_flat.specs.Settings.{with_macros}
use Rattle.splices_flat.specs.Warnings.{with_numbers, replaced_by}
use Rattle.splices_flat.proofs.flat.MacroSettings.put_all.Given as goal

abbrev pub invariant-loop-one : goal.invariant-loop-one
invariant-loop-one l = record {
  macros : with_macros l.self (map (macro_setting (line_of_target l.target) l.placement) (drop l.one-index l.macros)) ≡ with_macros l.initial.self (map (macro_setting (line_of_target l.target) l.placement) l.macros);
  replaced : with_numbers l.replaced.items (replaced_by l.self (map (macro_setting (line_of_target l.target) l.placement) (drop l.one-index l.macros))) ≡ with_numbers l.initial.replaced.items (replaced_by l.initial.self (map (macro_setting (line_of_target l.target) l.placement) l.macros));
}
