-- The phase of a leaf.
use Rattle.std.proofs.Common.{refl}
use Rattle.gq_machine.proofs.Machine_reader_values.{read}
use Rattle.gq_machine.proofs.machine.Machine.phase.Goals as goal

pub returns : goal.returns
returns c =
    read c.self.inside c.args.self.now c.self.view_is c.self.invariant (λ l. l.phase) (λ leaf st ts h. refl) c.args.leaf c.requires c.index.result
    c.index-2.result.now c.index-2.ensures c.index.ensures c.phase.result (λ d. c.phase.ensures)
