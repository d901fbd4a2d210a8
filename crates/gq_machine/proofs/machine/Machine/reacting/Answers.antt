-- The signal in whose section a leaf is.
use Rattle.std.proofs.Common.{refl}
use Rattle.gq_machine.proofs.Machine_reader_values.{read}
use Rattle.gq_machine.proofs.machine.Machine.reacting.Goals as goal

pub returns : goal.returns
returns c =
    read c.self.inside c.args.self.now c.self.view_is c.self.invariant (λ l. l.reacting) (λ leaf st ts h. refl) c.args.leaf c.requires c.index.result
    c.index-2.result.now c.index-2.ensures c.index.ensures c.reacting.result (λ d. c.reacting.ensures)
