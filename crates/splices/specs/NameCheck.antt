-- What names can stand for, as the code has it.
use Rattle.std.specs.Prelude.{map}
use Rattle.splices.specs.declared.check.NameCheck.{NameCheck}
use Rattle.splices_flat.specs.Faults.{Names}

abbrev pub checked_by : NameCheck → Names
checked_by c = record {
  path = c.path.now;
  jobs = c.names.now.jobs;
  finals = c.names.now.finals;
  splices = c.names.now.splices;
  counts = map (λ p. p.count) c.parts.now;
}
