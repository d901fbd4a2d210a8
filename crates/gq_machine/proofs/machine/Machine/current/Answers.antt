-- The current session of a leaf.
use Rattle.std.proofs.Common.{ap, refl}
use Rattle.gq_statements.specs.Slot_statements.{current_seen}
use Rattle.gq_machine.proofs.Machine_reader_values.{read}
use Rattle.gq_machine.proofs.machine.Machine.current.Goals as goal

pub returns : goal.returns
returns c =
    read c.self.inside c.args.self.now c.self.view_is c.self.invariant (λ l. l.current) (λ leaf st ts h. refl) c.args.leaf c.requires c.index.result
    c.index-2.result.now c.index-2.ensures c.index.ensures (current_seen c.current.result) (λ d. ap current_seen c.current.ensures)
