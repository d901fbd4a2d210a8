-- A request is the leaf's step.
use Rattle.std.proofs.Common.{◌≡◌, ◌+◌, Ok, Err, drop, refl, ap, subst, ◌∙◌, arith}
use Rattle.gq_model.specs.declared.phase.Phase.TheVariants as phase
use Rattle.gq_model.specs.declared.program.Instruction.TheVariants as instruction
use Rattle.gq_model.specs.declared.program.OperandSlot.{OperandSlot}
use Rattle.gq_bytecode.specs.Cores.{Core}
use Rattle.gq_bytecode.specs.declared.operation.Operation.TheVariants as operation
use Rattle.gq_leaf.specs.Leaf_states.{stepped}
use Rattle.gq_statements.specs.Slot_statements.{done}
use Rattle.gq_leaf.specs.Coded.{Coded, operation_of, coded_of}
use Rattle.gq_leaf.specs.Leaf_steps.{LeadsTo}
use Rattle.gq_leaf.proofs.Signal_counts.{one_more}
use Rattle.gq_leaf.proofs.Blocked_leaf_world.{asked_fails, asked_leads, below_top, call_missing}
use Rattle.gq_leaf.proofs.Operation_leads_step.{inside_then, slot_next, small_then}
use Rattle.gq_leaf.proofs.leaf.Leaf.call.Goals as goal

no_end : (p : OperandSlot) → operation.Call p ≡ operation.End → ⊥
no_end p e = cc

pub call-requires-clause-place : goal.call-requires-clause-place
call-requires-clause-place c =
    let i = c.self.inside in
    let v : Coded = coded_of i.phase i.current i.reacting i.registers i.steps i.signals i.code in
    slot_next v (operation.Call c.args.place) c.self.invariant.code (ap operation_of c.self.view_is ∙ c.requires.due.next) (no_end c.args.place)
    (instruction.Call c.args.place) refl c.args.place refl

pub advance-requires : goal.advance-requires
advance-requires c =
    let i = c.self.inside in
    let v : Coded = coded_of i.phase i.current i.reacting i.registers i.steps i.signals i.code in
    small_then v (operation.Call c.args.place) c.self.invariant.code (ap operation_of c.self.view_is ∙ c.requires.due.next) (no_end c.args.place)
    c.pop-value.new.self c.pop-value.ensures.stays

pub invariant_of-self : goal.invariant_of-self
invariant_of-self c =
    let i = c.self.inside in
    let v : Coded = coded_of i.phase i.current i.reacting i.registers i.steps i.signals i.code in
    record {
      code = c.self.invariant.code;
      inside = inside_then v (operation.Call c.args.place) c.self.invariant.code (ap operation_of c.self.view_is ∙ c.requires.due.next) (no_end c.args.place)
          (λ size p h. h) c.advance.new.self
          (ap (λ (r : Core). r.position) c.advance.ensures ∙ ap (λ (r : Core). r.position + 1) c.pop-value.ensures.stays);
      placed = c.self.invariant.placed;
      taken = one_more i.steps i.signals c.self.invariant.taken;
    }

pub returns-in_default-clause-step : goal.returns-in_default-clause-step
returns-in_default-clause-step c bs =
    let i = c.self.inside in
    let v : Coded = coded_of i.phase i.current i.reacting i.registers i.steps i.signals i.code in
    let P : Coded → Type 0 = λ o. LeadsTo c.args.number bs o o c.args.slots.now c.args.slots.now
    (done (Err Rattle.gq_model.specs.declared.fault.Wrong.TheVariants.MissingOperand)) in
    subst P c.self.view_is (call_missing v c.self.invariant.code c.args.place (ap operation_of c.self.view_is ∙ c.requires.due.next) c.in_default.ensures
    c.args.number bs c.args.slots.now)

pub returns-in-Err-clause-step : goal.returns-in-Err-clause-step
returns-in-Err-clause-step c bs =
    let i = c.self.inside in
    let v : Coded = coded_of i.phase i.current i.reacting i.registers i.steps i.signals i.code in
    let rest = drop 1 i.registers.operands in
    let P : Coded → Type 0 = λ o. LeadsTo c.args.number bs o o c.args.slots.now c.call.new.slots (done (Err c.in-Err.wrong)) in
    subst P c.self.view_is
    (asked_fails v c.self.invariant.code (operation.Call c.args.place) (ap operation_of c.self.view_is ∙ c.requires.due.next) (no_end c.args.place)
    c.args.number
    bs c.args.slots.now c.call.new.slots
    (instruction.Call c.args.place) refl v rest c.in-Err.wrong
    (λ f g d by of b had. c.in-Err.ensures.step f g d rest by of b (had ∙ c.in-Some.ensures)))

pub returns-in-Ok-clause-step : goal.returns-in-Ok-clause-step
returns-in-Ok-clause-step c bs =
    let i = c.self.inside in
    let v : Coded = coded_of i.phase i.current i.reacting i.registers i.steps i.signals i.code in
    let rest = drop 1 i.registers.operands in
    let n : Coded = coded_of phase.Blocked i.current i.reacting c.advance.new.self (i.steps + 1) i.signals i.code
    in
    let left : c.pop-value.new.self.operands ≡ rest =
    below_top c.pop-value.result i.registers.operands rest c.pop-value.new.self.operands c.in-Some.value c.pop-value.ensures.popped c.in-Some.ensures in
    let moved : c.advance.new.self ≡ record i.registers { position = i.registers.position + 1; operands = rest } =
    c.advance.ensures ∙ ap (λ (r : Core). record r { position = r.position + 1 }) c.pop-value.ensures.stays
    ∙ ap (λ o. record i.registers { position = i.registers.position + 1; operands = o }) left in
    let to : n.state ≡ record (stepped v.state rest) { phase = phase.Blocked } =
    ap (λ (r : Core). record n.state { registers = r }) moved
    ∙ ap (λ k. record (stepped v.state rest) { phase = phase.Blocked; steps = k }) (omega arith) in
    let P : Coded → Type 0 = λ o. LeadsTo c.args.number bs o n c.args.slots.now c.call.new.slots (done (Ok tt)) in
    subst P c.self.view_is
    (asked_leads v c.self.invariant.code (operation.Call c.args.place) (ap operation_of c.self.view_is ∙ c.requires.due.next) (no_end c.args.place)
    c.args.number
    bs c.args.slots.now c.call.new.slots
    (instruction.Call c.args.place) refl n rest (Ok tt) to
    (λ f g d by of b had. c.in-Ok.ensures.step f g d rest by of b (had ∙ c.in-Some.ensures)))
