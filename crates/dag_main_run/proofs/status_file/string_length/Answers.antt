use Rattle.dag_main_run.proofs.Strings.{all-end, all-go-on}
use Rattle.dag_main_run.proofs.status_file.string_length.Goals as goal

pub loop-byte-preserved : goal.loop-byte-preserved
loop-byte-preserved c =
    let goes = c.ends_string.ensures.goes_on c.if-ends_string.false in
    all-go-on c.args.bytes.now c.loop-byte.byte-index c.loop-byte.place c.loop-byte.is_escaped c.escapes_next-is_escaped.result c.loop-byte.invariant goes.1
    c.escapes_next-is_escaped.ensures.backslash c.escapes_next-is_escaped.ensures.other c.escapes_next-is_escaped.ensures.escaped

pub returns-then-ends_string-clause-ends : goal.returns-then-ends_string-clause-ends
returns-then-ends_string-clause-ends c =
    all-end c.args.bytes.now c.loop-byte.byte-index c.loop-byte.place c.loop-byte.is_escaped c.loop-byte.invariant (c.ends_string.ensures.ends c.if-ends_string.true)
