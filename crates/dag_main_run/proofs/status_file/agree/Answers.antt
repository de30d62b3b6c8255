use Rattle.std.proofs.lemmas.Bool.Decides.{Decides-eqb}
use Rattle.std.proofs.lemmas.Slice.Eq.{starts_is}
use Rattle.dag_main_run.specs.StatusFile.{wanted_first, bytes_first}
use Rattle.dag_main_run.proofs.status_file.agree.Goals as goal

pub returns-then-starts_with-clause-agree : goal.returns-then-starts_with-clause-agree
returns-then-starts_with-clause-agree c = λ is.
    wanted_first _ ((starts_is Decides-eqb c.args.bytes.now c.args.wanted.now c.starts_with.result c.starts_with.ensures.value).0 is)

pub returns-else-starts_with-clause-agree : goal.returns-else-starts_with-clause-agree
returns-else-starts_with-clause-agree c = λ is.
    bytes_first _ ((starts_is Decides-eqb c.args.wanted.now c.args.bytes.now c.starts_with-else-starts_with.result c.starts_with-else-starts_with.ensures.value).0 is)

pub returns-else-starts_with-clause-every : goal.returns-else-starts_with-clause-every
returns-else-starts_with-clause-every c = λ agree. elim agree [
  | wanted_first rest same ↦
      let yes = (starts_is Decides-eqb c.args.bytes.now c.args.wanted.now c.starts_with.result c.starts_with.ensures.value).1 rest same in
      let no = c.if-starts_with.false in
      absurd cc
  | bytes_first rest same ↦
      (starts_is Decides-eqb c.args.wanted.now c.args.bytes.now c.starts_with-else-starts_with.result c.starts_with-else-starts_with.ensures.value).1 rest same
]
