-- What is answered with a page, and its rows.
use Rattle.std.proofs.Common.{◌≡◌, ◌+◌, ℕ, Bool, List, [], ◌∷◌, ◌++◌, length, length-append, Option, Some, None, option_map, refl, sym, ap, subst, arith}
use Rattle.std.specs.Prelude.{is_some}
use Rattle.node_machine.specs.declared.Record.{Record}
use Rattle.run_plan.specs.Plan.{Plan}
use Rattle.dag_main_check.specs.Warnings.{warning_lines}
use Rattle.report_page.specs.declared.values.Row.{Row}
use Rattle.report_page.specs.declared.values.Page.{Page}
use Rattle.report_page.specs.Pages.{IsPageText}
use Rattle.report_answers.specs.Rows.{IsRowOf, HasRows, one_more_row}
use Rattle.report_answers.specs.Answered.{IsPageOfRun, IsPageAnswer}

pub answered-with : (plan : Plan) (past : List Record) (path version : List ℕ) (begun reloads : Bool) (page : Page) (text warnings : List ℕ) → IsPageText page text
    → IsPageOfRun plan past path version begun reloads page → warnings ≡ warning_lines plan.graph.dag.warnings
    → IsPageAnswer plan past path version begun reloads text warnings 0
answered-with plan past path version begun reloads page text warnings is of_run are =
    record { page = page; of_run = of_run; text_is = is; warnings_are = are; status_is = refl }

-- the rows, one by one
pub next-row : (plan : Plan) (past : List Record) (class_of : ℕ → ℕ) (rows now : List Row) (row : Row) (node : ℕ) → HasRows plan past class_of rows → length rows ≡ node
    → IsRowOf plan past class_of node row → now ≡ rows ++ row ∷ [] → HasRows plan past class_of now × (length now ≡ node + 1)
next-row plan past class_of rows now row node so_far counted is added =
    let grown = ap length added in
    let one_more = length-append rows (row ∷ []) in (
      subst (HasRows plan past class_of) (sym added) (one_more_row rows row so_far (subst (λ (place : ℕ). IsRowOf plan past class_of place row) (sym counted) is)),
      omega (arith, grown, one_more, counted),
    )

-- whether there is a journal is whether there are bytes of one
pub is-some-mapped : {A B : Type 0} (f : A → B) (some : Option A) → is_some some ≡ is_some (option_map f some)
is-some-mapped f (Some x) = refl
is-some-mapped f None = refl
