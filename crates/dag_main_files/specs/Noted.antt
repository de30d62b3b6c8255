-- What clauses read of bytes that are noted.
use Rattle.std.specs.Prelude.{ℕ, List, [], string_bytes}
use Rattle.dag_main_files.specs.declared.changes.Noting.{Noting}
use Rattle.dag_main_files.specs.declared.changes.Noting.TheVariants as noting

-- the bytes that are noted; none where there is nothing to note
abbrev pub bytes_noted : Noting → List ℕ
bytes_noted noting.Nothing = []
bytes_noted (noting.Name name) = name.value
bytes_noted (noting.Text text) = string_bytes text.value
bytes_noted (noting.Bytes bytes) = bytes.value.items
