use Rattle.gq_load.specs.Load.{source_fault}
use Rattle.gq_faults.specs.Found_lines.{lines_found}
use Rattle.gq_faults.proofs.Appended_faults.{one_printed, none_printed}
use Rattle.gq_faults.proofs.sources.push_source.Goals as goal

pub returns-in_ok-way-in-Some : goal.returns-in_ok-way-in-Some
returns-in_ok-way-in-Some c =
    one_printed (lines_found c.args.found.now.items) (lines_found c.push_of_text.new.found.items) c.in-Some.fault
    (source_fault c.args.component.now.node.name c.args.component.now.node.source) c.push_of_text.result
    (rw c.leaf-leaf.ensures at (rw c.in-Some.is at c.in_ok-fault.ensures)) c.push_of_text.ensures

pub returns-in-None : goal.returns-in-None
returns-in-None c =
    none_printed (lines_found c.args.found.now.items) (source_fault c.args.component.now.node.name c.args.component.now.node.source)
    (rw c.leaf-leaf.ensures at (rw c.in-None.is at c.in_ok-fault.ensures))
