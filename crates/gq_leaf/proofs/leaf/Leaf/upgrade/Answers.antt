-- A request is the leaf's step.
use Rattle.std.proofs.Common.{◌≡◌, ◌+◌, ℕ, Ok, Err, refl, ap, subst, ◌∙◌, arith}
use Rattle.gq_model.specs.declared.phase.Phase.TheVariants as phase
use Rattle.gq_model.specs.declared.program.Instruction.TheVariants as instruction
use Rattle.gq_model.specs.declared.program.OperandSlot.{OperandSlot}
use Rattle.gq_bytecode.specs.Cores.{Core}
use Rattle.gq_bytecode.specs.declared.operation.Operation.TheVariants as operation
use Rattle.gq_leaf.specs.Leaf_states.{stepped}
use Rattle.gq_statements.specs.Slot_statements.{done}
use Rattle.gq_leaf.specs.Coded.{Coded, operation_of, coded_of}
use Rattle.gq_leaf.specs.Leaf_steps.{UpgradesTo}
use Rattle.gq_leaf.proofs.Signal_counts.{one_more}
use Rattle.gq_leaf.proofs.Upgrade_open_steps.{upgrade_fails, upgrade_leads}
use Rattle.gq_leaf.proofs.Operation_leads_step.{inside_then, slot_next, small_then}
use Rattle.gq_leaf.proofs.leaf.Leaf.upgrade.Goals as goal

no_end : (p : OperandSlot) (n : ℕ) → operation.Upgrade p n ≡ operation.End → ⊥
no_end p n e = cc

pub upgrade-requires-clause-place : goal.upgrade-requires-clause-place
upgrade-requires-clause-place c =
    let i = c.self.inside in
    let v : Coded = coded_of i.phase i.current i.reacting i.registers i.steps i.signals i.code in
    slot_next v (operation.Upgrade c.args.place c.args.bytes) c.self.invariant.code (ap operation_of c.self.view_is ∙ c.requires.due.next)
    (no_end c.args.place c.args.bytes) (instruction.Upgrade c.args.place c.args.bytes) refl c.args.place refl

pub advance-requires : goal.advance-requires
advance-requires c =
    let i = c.self.inside in
    let v : Coded = coded_of i.phase i.current i.reacting i.registers i.steps i.signals i.code in
    small_then v (operation.Upgrade c.args.place c.args.bytes) c.self.invariant.code (ap operation_of c.self.view_is ∙ c.requires.due.next)
    (no_end c.args.place c.args.bytes) i.registers refl

pub invariant_of-self : goal.invariant_of-self
invariant_of-self c =
    let i = c.self.inside in
    let v : Coded = coded_of i.phase i.current i.reacting i.registers i.steps i.signals i.code in
    record {
      code = c.self.invariant.code;
      inside = inside_then v (operation.Upgrade c.args.place c.args.bytes) c.self.invariant.code (ap operation_of c.self.view_is ∙ c.requires.due.next)
          (no_end c.args.place c.args.bytes) (λ size p h. h) c.advance.new.self
          (ap (λ (r : Core). r.position) c.advance.ensures);
      placed = c.self.invariant.placed;
      taken = one_more i.steps i.signals c.self.invariant.taken;
    }

pub returns-in-Err-clause-step : goal.returns-in-Err-clause-step
returns-in-Err-clause-step c bs =
    let i = c.self.inside in
    let v : Coded = coded_of i.phase i.current i.reacting i.registers i.steps i.signals i.code in
    let P : Coded → Type 0 = λ o. UpgradesTo c.args.number bs c.args.place c.args.bytes c.args.donation o o c.args.slots.now c.upgrade.new.slots
    (done (Err c.in-Err.wrong)) in
    subst P c.self.view_is
    (upgrade_fails v c.self.invariant.code c.args.place c.args.bytes (ap operation_of c.self.view_is ∙ c.requires.due.next) c.args.number bs c.args.slots.now
    c.upgrade.new.slots c.args.donation
    v c.in-Err.wrong c.in-Err.ensures.step)

pub returns-in-Ok-clause-step : goal.returns-in-Ok-clause-step
returns-in-Ok-clause-step c bs =
    let i = c.self.inside in
    let v : Coded = coded_of i.phase i.current i.reacting i.registers i.steps i.signals i.code in
    let n : Coded = coded_of phase.Blocked i.current i.reacting c.advance.new.self (i.steps + 1) i.signals i.code
    in
    let to : n.state ≡ record (stepped v.state i.registers.operands) { phase = phase.Blocked } =
    ap (λ (r : Core). record n.state { registers = r }) c.advance.ensures
    ∙ ap (λ k. record (stepped v.state i.registers.operands) { phase = phase.Blocked; steps = k }) (omega arith) in
    let P : Coded → Type 0 = λ o. UpgradesTo c.args.number bs c.args.place c.args.bytes c.args.donation o n c.args.slots.now c.upgrade.new.slots
    (done (Ok tt)) in
    subst P c.self.view_is
    (upgrade_leads v c.self.invariant.code c.args.place c.args.bytes (ap operation_of c.self.view_is ∙ c.requires.due.next) c.args.number bs c.args.slots.now
    c.upgrade.new.slots c.args.donation
    n (Ok tt) to c.in-Ok.ensures.step)
