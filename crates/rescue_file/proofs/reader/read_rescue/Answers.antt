use Rattle.rescue_file.proofs.FileReadings.{is_found, is_ordinary, only_these, is_refused, is_stopped}
use Rattle.rescue_file.proofs.reader.read_rescue.Goals as goal

pub returns-clause-found : goal.returns-clause-found
returns-clause-found c = is_found (λ n. n.items) c.args.graph.now.dag c.args.bytes.now c.read_lines.result c.read_lines.ensures

pub returns-clause-only : goal.returns-clause-only
returns-clause-only c = only_these (λ n. n.items) c.args.graph.now.dag c.args.bytes.now c.read_lines.result c.read_lines.ensures

pub returns-clause-fault : goal.returns-clause-fault
returns-clause-fault c = is_stopped (λ n. n.items) c.args.graph.now.dag c.args.bytes.now c.read_lines.result c.read_lines.ensures

pub returns-clause-refused : goal.returns-clause-refused
returns-clause-refused c = is_refused (λ n. n.items) c.args.graph.now.dag c.args.bytes.now c.read_lines.result c.read_lines.ensures

pub returns-clause-ordinary : goal.returns-clause-ordinary
returns-clause-ordinary c = is_ordinary (λ n. n.items) c.args.graph.now.dag c.args.bytes.now c.read_lines.result c.read_lines.ensures
