use Rattle.std.proofs.Common.{◌∙◌, ◌∷◌, ◌++◌, [], ℕ, List, ap, refl}
use Rattle.dag_main_files.specs.declared.changes.Change.TheVariants.{Settled}
use Rattle.dag_main_files.proofs.Makes.{some-all}
use Rattle.dag_main_run.specs.RunChanges.{settles}
use Rattle.dag_main_run.proofs.RunChanges.{none-made}
use Rattle.dag_main_run.proofs.rounds.settle.Goals as goal

pub returns-then-is_empty : goal.returns-then-is_empty
returns-then-is_empty g c = none-made (settles c.args.place.now.top.now) c.args.changes.now c.args.changes.now refl

pub returns-in_err-is_of_others : goal.returns-in_err-is_of_others
returns-in_err-is_of_others g c = none-made (settles c.args.place.now.top.now) c.args.changes.now c.args.changes.now refl

pub returns-then-branch : goal.returns-then-branch
returns-then-branch g c = none-made (settles c.args.place.now.top.now) c.args.changes.now c.args.changes.now refl

pub returns-in_err-log : goal.returns-in_err-log
returns-in_err-log g c = none-made (settles c.args.place.now.top.now) c.args.changes.now c.args.changes.now refl

pub returns-in_err-children_name : goal.returns-in_err-children_name
returns-in_err-children_name g c = none-made (settles c.args.place.now.top.now) c.args.changes.now c.args.changes.now refl

pub returns : goal.returns
returns g c = (
  settles c.args.place.now.top.now,
  some-all (settles c.args.place.now.top.now),
  c.note.ensures ∙ ap (λ (n : List ℕ). c.args.changes.now ++ (n, Settled) ∷ []) c.in_ok-children_name.ensures,
)
