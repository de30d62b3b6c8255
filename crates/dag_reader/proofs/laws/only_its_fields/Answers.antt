use Rattle.dag_reader.proofs.Slots.{reads_only_its_fields}
use Rattle.dag_reader.proofs.laws.only_its_fields.Goals as goal

pub returns : goal.returns
returns c = reads_only_its_fields
