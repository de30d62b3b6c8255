use Rattle.dag_main_run.proofs.Strings.{AreAt}
use Rattle.dag_main_run.proofs.status_file.string_length.Given as goal

abbrev pub invariant-loop-byte : goal.invariant-loop-byte
invariant-loop-byte l = AreAt l.bytes l.byte-index l.place l.is_escaped
