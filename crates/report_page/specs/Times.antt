-- Times of a page.
use Rattle.std.specs.Prelude.{ℕ, ◌/◌, ◌%◌, nat_lt, List, [], ◌++◌, Option, Some, None, codes, if◌then◌else◌}
use Rattle.std.specs.Fmt.{decimal}

-- milliseconds as seconds, with three digits after the point
unfoldable pub seconds_shown : ℕ → List ℕ
seconds_shown milliseconds =
    decimal (milliseconds / 1000) ++ (codes "." ++ (decimal (milliseconds / 100 % 10) ++ (decimal (milliseconds / 10 % 10) ++ decimal (milliseconds % 10))))

-- the same where the time is known
unfoldable pub some_seconds_shown : Option ℕ → List ℕ
some_seconds_shown None = []
some_seconds_shown (Some milliseconds) = seconds_shown milliseconds

-- A length of time for a reader: below a minute in seconds, below an hour in whole minutes and seconds, else in hours and minutes.
unfoldable pub duration_text : ℕ → List ℕ
duration_text milliseconds =
    if nat_lt milliseconds 60000 then seconds_shown milliseconds ++ codes " s"
    else if nat_lt milliseconds 3600000 then decimal (milliseconds / 60000) ++ (codes " min " ++ (decimal (milliseconds / 1000 % 60) ++ codes " s"))
    else decimal (milliseconds / 3600000) ++ (codes " h " ++ (decimal (milliseconds / 60000 % 60) ++ codes " min"))
