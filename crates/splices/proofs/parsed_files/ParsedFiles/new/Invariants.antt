use Rattle.std.specs.HashMap.{get_by_text}
use Rattle.splices_flat.specs.FileSet.{bytes_of}
use Rattle.splices.specs.SaidFiles.{AreSaid}
use Rattle.splices.proofs.parsed_files.ParsedFiles.new.Given as goal

abbrev pub invariant-loop-path : goal.invariant-loop-path
invariant-loop-path l = AreSaid (bytes_of l.fn.files) (get_by_text l.said)
