use Rattle.dag_main_files.proofs.loading.read_rest.Goals as goal

pub loop-init : goal.loop-init
loop-init g c = ((λ honest before. before), (λ path bytes at. at))

pub loop-preserved : goal.loop-preserved
loop-preserved g c = (
  (λ honest before. c.in_ok-read_next-in-Some.ensures.held honest (c.loop.invariant.0 honest before)),
  (λ path bytes at. c.in_ok-read_next-in-Some.ensures.kept path bytes (c.loop.invariant.1 path bytes at)),
)

pub returns-clause-held : goal.returns-clause-held
returns-clause-held g c = c.loop.invariant.0

pub returns-clause-kept : goal.returns-clause-kept
returns-clause-kept g c = c.loop.invariant.1
