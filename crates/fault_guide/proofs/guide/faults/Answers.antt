use Rattle.fault_guide.proofs.Coded.{all-tables, table-more}
use Rattle.fault_guide.proofs.guide.faults.Goals as goal

pub loop-part-preserved : goal.loop-part-preserved
loop-part-preserved c = table-more _ c.loop-part.part-index _ _ _ c.loop-part-test.true c.loop-part.invariant c.in_ok-add_all.ensures

pub returns : goal.returns
returns c = all-tables c.faults.result c.faults-2.result c.faults-3.result c.faults-4.result c.faults-5.result c.of_files.result c.of_parts.result c.of_runs.result
    c.loop-part.part-index _ c.loop-part.auto.part-index-end c.loop-part-test.false c.loop-part.invariant
    c.faults.ensures c.faults-2.ensures c.faults-3.ensures c.faults-4.ensures c.faults-5.ensures c.of_files.ensures c.of_parts.ensures c.of_runs.ensures
