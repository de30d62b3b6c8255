-- The rows of a table and the shapes of a drawing, one by one.
use Rattle.std.proofs.Common.{◌≡◌, ℕ, suc, ◌<◌, List, ◌++◌, append_assoc, length, get_or, ap, sym, ◌∙◌}
use Rattle.std.proofs.lemmas.Option.{slice_get-get_or}
use Rattle.report_page.specs.declared.values.Row.{Row}
use Rattle.report_page.specs.declared.shapes.Shape.{Shape}
use Rattle.report_page.specs.Rows.{node_row, row_at, node_rows}
use Rattle.report_page.specs.Drawings.{shape_text, some_shape_text, shapes_text}

pub shapes-more : (start old now : List ℕ) (shapes : List Shape) (n : ℕ) (d : Shape) → n < length shapes → old ≡ start ++ shapes_text shapes n
    → now ≡ old ++ shape_text (get_or shapes n d) → now ≡ start ++ shapes_text shapes (suc n)
unfolding shapes_text
shapes-more start old now shapes n d inside so_far added =
    added ∙ (λ j. so_far j ++ shape_text (get_or shapes n d)) ∙ append_assoc start (shapes_text shapes n) (shape_text (get_or shapes n d))
    ∙ ap (λ o. start ++ (shapes_text shapes n ++ some_shape_text o)) (sym (slice_get-get_or shapes n d inside))

pub rows-more : (start old now : List ℕ) (rows : List Row) (n : ℕ) (d : Row) → n < length rows → old ≡ start ++ node_rows rows n
    → now ≡ old ++ node_row (get_or rows n d) → now ≡ start ++ node_rows rows (suc n)
unfolding node_rows
rows-more start old now rows n d inside so_far added =
    added ∙ (λ j. so_far j ++ node_row (get_or rows n d)) ∙ append_assoc start (node_rows rows n) (node_row (get_or rows n d))
    ∙ ap (λ o. start ++ (node_rows rows n ++ row_at o)) (sym (slice_get-get_or rows n d inside))
