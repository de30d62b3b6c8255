use Rattle.splices.specs.NameCheck.{checked_by}
use Rattle.splices.proofs.OwnNodes.{pair_some, pair_none}
use Rattle.splices.proofs.check.NameCheck.line.Goals as goal

pub returns-in-Some : goal.returns-in-Some
returns-in-Some c =
    pair_some (checked_by c.args.self.now) c.in-ParentChild.parents c.in-ParentChild.children c.as_slice.result.now c.args.command.now c.in_ok-fault-in-ParentChild.field-0 c.in-Some.fault
    c.in-ParentChild.is c.as_slice.ensures c.in_ok-fault-in-ParentChild.ensures c.in-Some.is

pub returns-in-None : goal.returns-in-None
returns-in-None c =
    pair_none (checked_by c.args.self.now) c.in-ParentChild.parents c.in-ParentChild.children c.as_slice.result.now c.as_slice-in-None.result.now c.args.command.now c.in_ok-fault-in-ParentChild.field-0 c.ends-in-None.result
    c.in-ParentChild.is c.as_slice.ensures c.as_slice-in-None.ensures c.in_ok-fault-in-ParentChild.ensures c.in-None.is c.ends-in-None.ensures
