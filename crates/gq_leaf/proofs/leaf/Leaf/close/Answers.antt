-- A request is the leaf's step.
use Rattle.std.proofs.Common.{◌≡◌, ◌+◌, Ok, Err, refl, ap, subst, ◌∙◌, arith}
use Rattle.gq_model.specs.declared.phase.Phase.TheVariants as phase
use Rattle.gq_model.specs.declared.program.Instruction.TheVariants as instruction
use Rattle.gq_model.specs.declared.program.OperandSlot.{OperandSlot}
use Rattle.gq_bytecode.specs.Cores.{Core}
use Rattle.gq_bytecode.specs.declared.operation.Operation.TheVariants as operation
use Rattle.gq_leaf.specs.Leaf_states.{stepped}
use Rattle.gq_statements.specs.Slot_statements.{done}
use Rattle.gq_leaf.specs.Coded.{Coded, operation_of, coded_of}
use Rattle.gq_leaf.specs.Leaf_steps.{LeadsTo}
use Rattle.gq_leaf.proofs.Signal_counts.{one_more}
use Rattle.gq_leaf.proofs.Blocked_leaf_world.{as_it_is, asked_fails, asked_leads}
use Rattle.gq_leaf.proofs.Operation_leads_step.{inside_then, slot_next, small_then}
use Rattle.gq_leaf.proofs.leaf.Leaf.close.Goals as goal

no_end : (p : OperandSlot) → operation.Close p ≡ operation.End → ⊥
no_end p e = cc

pub close-requires-clause-place : goal.close-requires-clause-place
close-requires-clause-place c =
    let i = c.self.inside in
    let v : Coded = coded_of i.phase i.current i.reacting i.registers i.steps i.signals i.code in
    slot_next v (operation.Close c.args.place) c.self.invariant.code (ap operation_of c.self.view_is ∙ c.requires.due.next) (no_end c.args.place)
    (instruction.Close c.args.place) refl c.args.place refl

pub advance-requires : goal.advance-requires
advance-requires c =
    let i = c.self.inside in
    let v : Coded = coded_of i.phase i.current i.reacting i.registers i.steps i.signals i.code in
    small_then v (operation.Close c.args.place) c.self.invariant.code (ap operation_of c.self.view_is ∙ c.requires.due.next) (no_end c.args.place) i.registers
    refl

pub invariant_of-self : goal.invariant_of-self
invariant_of-self c =
    let i = c.self.inside in
    let v : Coded = coded_of i.phase i.current i.reacting i.registers i.steps i.signals i.code in
    record {
      code = c.self.invariant.code;
      inside = inside_then v (operation.Close c.args.place) c.self.invariant.code (ap operation_of c.self.view_is ∙ c.requires.due.next) (no_end c.args.place)
          (λ size p h. h) c.advance.new.self
          (ap (λ (r : Core). r.position) c.advance.ensures);
      placed = c.self.invariant.placed;
      taken = one_more i.steps i.signals c.self.invariant.taken;
    }

pub returns-in-Err-clause-step : goal.returns-in-Err-clause-step
returns-in-Err-clause-step c bs =
    let i = c.self.inside in
    let v : Coded = coded_of i.phase i.current i.reacting i.registers i.steps i.signals i.code in
    let P : Coded → Type 0 = λ o. LeadsTo c.args.number bs o o c.args.slots.now c.close.new.slots (done (Err c.in-Err.wrong)) in
    subst P c.self.view_is
    (asked_fails v c.self.invariant.code (operation.Close c.args.place) (ap operation_of c.self.view_is ∙ c.requires.due.next) (no_end c.args.place)
    c.args.number
    bs c.args.slots.now c.close.new.slots
    (instruction.Close c.args.place) refl v i.registers.operands c.in-Err.wrong
    (λ f g d by of b had. c.in-Err.ensures.step f g d by of (as_it_is d f g c.args.slots.now i.registers.operands had b)))

pub returns-in-Ok-clause-step : goal.returns-in-Ok-clause-step
returns-in-Ok-clause-step c bs =
    let i = c.self.inside in
    let v : Coded = coded_of i.phase i.current i.reacting i.registers i.steps i.signals i.code in
    let n : Coded = coded_of phase.Blocked i.current i.reacting c.advance.new.self (i.steps + 1) i.signals i.code
    in
    let to : n.state ≡ record (stepped v.state i.registers.operands) { phase = phase.Blocked } =
    ap (λ (r : Core). record n.state { registers = r }) c.advance.ensures
    ∙ ap (λ k. record (stepped v.state i.registers.operands) { phase = phase.Blocked; steps = k }) (omega arith) in
    let P : Coded → Type 0 = λ o. LeadsTo c.args.number bs o n c.args.slots.now c.close.new.slots (done (Ok tt)) in
    subst P c.self.view_is
    (asked_leads v c.self.invariant.code (operation.Close c.args.place) (ap operation_of c.self.view_is ∙ c.requires.due.next) (no_end c.args.place)
    c.args.number
    bs c.args.slots.now c.close.new.slots
    (instruction.Close c.args.place) refl n i.registers.operands (Ok tt) to
    (λ f g d by of b had. c.in-Ok.ensures.step f g d by of (as_it_is d f g c.args.slots.now i.registers.operands had b)))
