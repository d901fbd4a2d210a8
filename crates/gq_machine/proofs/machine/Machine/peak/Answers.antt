-- The peak of a class in a leaf's heap.
use Rattle.gq_machine.proofs.Machine_session_reads.{peak_read}
use Rattle.gq_machine.proofs.machine.Machine.peak.Goals as goal

pub returns : goal.returns
returns c =
    peak_read c.self.inside c.args.self.now c.self.view_is c.self.invariant c.lawful.ensures c.args.leaf c.index.result c.args.class c.peak.result
    c.index.ensures
    c.peak.ensures
