-- What a request names is a slot.
use Rattle.std.proofs.Common.{ap, ◌∙◌}
use Rattle.gq_bytecode.specs.Bytecode_layout.{instruction_in}
use Rattle.gq_leaf.specs.Coded.{Coded, operation_of, coded_of}
use Rattle.gq_leaf.proofs.Operation_leads_step.{slot_next}
use Rattle.gq_leaf.proofs.leaf.Leaf.names_slot.Goals as goal

pub returns : goal.returns
returns c instruction place stands named =
    let i = c.self.inside in
    let v : Coded = coded_of i.phase i.current i.reacting i.registers i.steps i.signals i.code in
    slot_next v c.args.fetched c.self.invariant.code (ap operation_of c.self.view_is ∙ c.requires.next) c.requires.more instruction
    (ap (λ (o : Coded). instruction_in o.code.longs c.args.fetched) c.self.view_is ∙ stands) place named
