-- Which files are opened, as the rules say it: each file is there, its lines spell its commands, and the files of its
-- SPLICE lines are opened in their order, none of them inside itself.
use Rattle.std.specs.Prelude.{◌≡◌, ℕ, List, [], ◌∷◌, ◌++◌, position, Option, Some, None, Ok}
use Rattle.std.specs.List.{flat_map}
use Rattle.std.specs.Str.{bytes_eq}
use Rattle.dag_reader.specs.declared.command.Command.{Command}
use Rattle.dag_reader.specs.declared.command.Command.TheVariants.{Splice}
use Rattle.dag_reader.specs.Reading.{text_at}
use Rattle.dag_reader.specs.Word.{PlacedText}
use Rattle.splices_flat.specs.Paths.{join, dir_text}
use Rattle.splices_flat.specs.Forest.{ParsedFile, Forest, none, more, Tree}
use Rattle.splices_flat.specs.Opening.{Files}

-- what a SPLICE line says
pub record Spliced : Type 0 where
  pub name : PlacedText
  pub file : PlacedText
  pub dir : Option PlacedText

abbrev pub splice_in : Command → List Spliced
splice_in (Splice name file dir) = record { name = name; file = file; dir = dir } ∷ []
splice_in _ = []

abbrev pub splices_in : List Command → List Spliced
splices_in commands = flat_map splice_in commands

-- the folder of a splice, seen from that of the file that holds its line, and the path of its file
abbrev pub splice_folder : List ℕ → Spliced → List ℕ
splice_folder folder s = join folder (dir_text s.dir)

abbrev pub splice_path : List ℕ → Spliced → List ℕ
splice_path folder s = join (splice_folder folder s) s.file.text

-- the file with this path is there, and says these commands
pub record IsSaid (files : Files) (folder path : List ℕ) (said : ParsedFile) : Type 0 where
  pub path_is : said.path ≡ path
  pub folder_is : said.folder ≡ folder
  pub bytes : List ℕ
  pub there : files path ≡ Some bytes
  pub says : text_at bytes ≡ Ok said.commands

-- The files of SPLICE lines, in a file in this folder; `above` has the paths of the files that it lies in, and its own.
abbrev pub AreOpened : Files → List (List ℕ) → List ℕ → List Spliced → Forest → Type 0
AreOpened files above folder [] none = Unit {0}
AreOpened files above folder [] (more name file inner others) = ⊥
AreOpened files above folder (s ∷ ss) none = ⊥
AreOpened files above folder (s ∷ ss) (more name file inner others) =
    (name ≡ s.name.text) × (position (bytes_eq (splice_path folder s)) above ≡ None)
    × IsSaid files (splice_folder folder s) (splice_path folder s) file
    × AreOpened files (above ++ splice_path folder s ∷ []) (splice_folder folder s) (splices_in file.commands) inner
    × AreOpened files above folder ss others

-- the top file lies in no folder
abbrev pub IsOpenedTree : Files → List ℕ → Tree → Type 0
IsOpenedTree files top tree = IsSaid files [] top tree.file × AreOpened files (top ∷ []) [] (splices_in tree.file.commands) tree.inner
