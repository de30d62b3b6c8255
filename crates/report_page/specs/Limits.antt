-- How full the limits on what runs at once were.
use Rattle.std.specs.Prelude.{ℕ, ◌==◌, nat_le, List, [], ◌++◌, length, flat_map, Option, Some, None, codes, if◌then◌else◌}
use Rattle.std.specs.Borrow.{Bor}
use Rattle.std.specs.Fmt.{decimal}
use Rattle.report_page.specs.declared.values.LimitRow.{LimitRow}
use Rattle.report_page.specs.declared.values.Look.{Look}
use Rattle.report_page.specs.declared.values.Look.TheVariants as look
use Rattle.report_page.specs.States.{look_class}
use Rattle.report_page.specs.Escaped.{escaped_text}

-- a limit that was full has a look of its own
abbrev pub look_of_limit : LimitRow → Look
look_of_limit row = if nat_le row.limit row.most then look.Ready else look.Plain

-- how many ran at once, at most, of as many as a limit allows
unfoldable pub limit_use_text : LimitRow → List ℕ
limit_use_text row = decimal row.most ++ (codes " of " ++ decimal row.limit)

-- the category whose nodes' jobs it counts, where it counts no others
abbrev pub category_text : Option (Bor (List ℕ)) → List ℕ
category_text None = []
category_text (Some category) = codes " of " ++ escaped_text category.now

-- the same with what the limit counts
unfoldable pub limit_item : LimitRow → List ℕ
limit_item row =
    codes "<li class=\"" ++ (look_class (look_of_limit row) ++ (codes "\"><b>" ++ (limit_use_text row
    ++ (codes "</b> " ++ (escaped_text row.what.now ++ (category_text row.category ++ codes " at once</li>\n"))))))

abbrev pub limit_items : List LimitRow → List ℕ
limit_items rows = flat_map limit_item rows

-- the list of limits, where there are any
unfoldable pub limit_list : List LimitRow → List ℕ
limit_list rows = codes "<h2>Limits</h2>\n<ul>\n" ++ (limit_items rows ++ codes "</ul>\n")

abbrev pub limits_shown : List LimitRow → List ℕ
limits_shown rows = if length rows == 0 then [] else limit_list rows
