-- Names that are read again as they were written.
use Rattle.std.specs.Prelude.{◌≡◌, ◌≢◌, ℕ, ◌<◌, ◌≤◌, false, List, [], length, slice_index_or}
use Rattle.std.specs.List.{All}
use Rattle.std.specs.Str.{IsUtf8}
use Rattle.dag_reader.specs.Lines.{is_control}
use Rattle.dag_reader.specs.Words.{is_blank}
use Rattle.splices_flat.specs.Dag.{Dag}
use Rattle.rescue_file.specs.Written.{ordinary_names}

-- A name that is a word: not empty, UTF-8, with no blank and no control character; and short enough for a line, after
-- DONE and a blank.
pub record IsFit (name : List ℕ) : Type 0 where
  pub some : 0 < length name
  pub short : length name ≤ 65531
  pub utf8 : IsUtf8 name
  pub solid : All (λ b. is_blank b ≡ false) name
  pub clear : All (λ b. is_control b ≡ false) name

-- at most 65,536 ordinary nodes, each with a name that is fit, and no two with one name
pub record AreFit (dag : Dag) : Type 0 where
  pub few : length dag.nodes ≤ 65536
  pub fit : All IsFit (ordinary_names dag)
  pub apart : (m n : ℕ) → m < n → n < length dag.nodes → slice_index_or (ordinary_names dag) m [] ≢ slice_index_or (ordinary_names dag) n []
