-- Requests to upgrade and to open, as the leaf's step.
use Rattle.std.proofs.Common.{◌≡◌, ℕ, List, [], Option, Some, None, Err, length, get_or, refl, sym, ap, ◌∙◌}
use Rattle.std.specs.Prelude.{Result, slice_get}
use Rattle.gq_tariff.specs.declared.amount.Amount.{Amount}
use Rattle.gq_model.specs.declared.fault.Wrong.{Wrong}
use Rattle.gq_model.specs.declared.fault.Wrong.TheVariants.{WrongKind}
use Rattle.gq_model.specs.declared.phase.Phase.TheVariants as phase
use Rattle.gq_model.specs.declared.program.Instruction.TheVariants as instruction
use Rattle.gq_model.specs.declared.program.OperandSlot.{OperandSlot}
use Rattle.gq_model.specs.machine.Amounts.{amount}
use Rattle.gq_model.specs.machine.Doing.{Doing, Stepped, fill, need}
use Rattle.gq_model.specs.machine.Requests as requests
use Rattle.gq_model.specs.machine.Routes.{server_of}
use Rattle.gq_model.specs.machine.Scenario.{interface_in, open_caps, upgrade_caps}
use Rattle.gq_model.specs.machine.World as world
use Rattle.gq_bytecode.specs.declared.operation.Operation.{Operation}
use Rattle.gq_bytecode.specs.declared.operation.Operation.TheVariants as operation
use Rattle.gq_slots.specs.Slots.{Frame, Slots, world_seen}
use Rattle.gq_statements.specs.Systems.{IsOf}
use Rattle.gq_statements.specs.declared.actor.Actor.{Actor}
use Rattle.gq_statements.specs.Slot_statements.{IsBy, done}
use Rattle.gq_statements.specs.Client_requests.{Blocks, IsNextLevel, leads_from, session_named}
use Rattle.gq_leaf.specs.Leaf_states.{leaf_of, stepped}
use Rattle.gq_leaf.specs.Coded.{Coded, operation_of}
use Rattle.gq_leaf.specs.Leaf_steps.{OpensNowhere, OpensTo, UpgradesTo}
use Rattle.gq_leaf.specs.internal.Leaf_invariant.{IsSoundCode}
use Rattle.gq_leaf.proofs.Blocked_leaf_world.{as_it_is, asks}
use Rattle.gq_leaf.proofs.Instruction_step_worlds.{doing, current_is, next_do, operands_are}
use Rattle.gq_leaf.proofs.Operation_leads_step.{section, stated_next}
use Rattle.gq_leaf.proofs.Leaf_stance_worlds.{set_elsewhere, set_here, setting}

-- TO UPGRADE

-- what is made of it
abbrev Upgraded : Actor → OperandSlot → ℕ → Amount → Slots → Slots → Result (Unit {0}) Wrong → Type 0
Upgraded a place n donation s t result = (f g : Frame) (d : Doing) (m : ℕ) → IsBy d a → IsOf d.system g s → Blocks d d.leaf f g s
    → IsNextLevel d place m donation → requests.upgrade d place m ≡ done result (world_seen g t)

module _ (l : Coded) (sound : IsSoundCode l.code) (place : OperandSlot) (n : ℕ) (next_is : operation_of l ≡ Some (operation.Upgrade place n)) (x : ℕ)
    (bs : List ℕ) (s t : Slots) (donation : Amount) where
  abbrev does : Operation
  does = operation.Upgrade place n

  no_end : does ≡ operation.End → ⊥
  no_end e = cc

  pub upgrade_leads : (new : Coded) (result : Result (Unit {0}) Wrong)
      → new.state ≡ record (stepped l.state l.state.registers.operands) { phase = phase.Blocked }
      → Upgraded (record { leaf = x; current = l.state.current }) place n donation s t result → UpgradesTo x bs place n donation l new s t (done result)
  upgrade_leads new result to made system f g c lawful st active e now given =
      let i = instruction.Upgrade place n in
      let size = length (section l does sound next_is no_end).ops in
      let stated = stated_next l does sound next_is no_end system f s x c bs i st active refl in
      let ops = l.state.registers.operands in
      let a = asks system f s x c l.state bs lawful st.stands active i size stated g ops e (now ∙ ap (leaf_of c.node.program) to) in
      let d = doing system f s x c l.state bs lawful st.stands active i size stated in
      let named : (k : ℕ) (q : world.Session) → session_named d place ≡ Some k → world.session_at d.world k ≡ Some q
      → donation ≡ amount n (upgrade_caps (interface_in q.service d.system.interfaces) q.level) =
      λ k q at there. given k q (ap (λ h. leads_from (world_seen f s) (world.slot_id_of x h place))
      (sym (current_is system f s x c l.state bs lawful st.stands active i size stated)) ∙ at) there in
      next_do system f s x c l.state bs lawful st.stands active i size stated
      ∙ made f g d n a.by a.of (as_it_is d f g s ops (operands_are system f s x c l.state bs lawful st.stands active i size stated) a.blocks) named

  pub upgrade_fails : (new : Coded) (wrong : Wrong) → Upgraded (record { leaf = x; current = l.state.current }) place n donation s t (Err wrong)
      → UpgradesTo x bs place n donation l new s t (done (Err wrong))
  upgrade_fails new wrong made system f g c lawful st active e now given =
      let i = instruction.Upgrade place n in
      let size = length (section l does sound next_is no_end).ops in
      let stated = stated_next l does sound next_is no_end system f s x c bs i st active refl in
      let ops = l.state.registers.operands in
      let leaf = leaf_of c.node.program (record (stepped l.state ops) { phase = phase.Blocked }) in
      let a = asks system f s x c l.state bs lawful st.stands active i size stated (setting f x leaf) ops (set_elsewhere f x leaf) (set_here f x leaf) in
      let d = doing system f s x c l.state bs lawful st.stands active i size stated in
      let named : (k : ℕ) (q : world.Session) → session_named d place ≡ Some k → world.session_at d.world k ≡ Some q
      → donation ≡ amount n (upgrade_caps (interface_in q.service d.system.interfaces) q.level) =
      λ k q at there. given k q (ap (λ h. leads_from (world_seen f s) (world.slot_id_of x h place))
      (sym (current_is system f s x c l.state bs lawful st.stands active i size stated)) ∙ at) there in
      next_do system f s x c l.state bs lawful st.stands active i size stated
      ∙ made f (setting f x leaf) d n a.by a.of
      (as_it_is d f (setting f x leaf) s ops (operands_are system f s x c l.state bs lawful st.stands active i size stated) a.blocks) named

-- TO OPEN

abbrev Opened : Actor → OperandSlot → List ℕ → ℕ → ℕ → ℕ → Amount → Slots → Slots → Result (Unit {0}) Wrong → Type 0
Opened a place name n server service donation s t result = (f g : Frame) (d : Doing) → IsBy d a → IsOf d.system g s → Blocks d d.leaf f g s
    → name ≡ get_or g.names service [] → server_of d.system d.component name ≡ Some server
    → donation ≡ amount n (open_caps (interface_in name d.system.interfaces)) → requests.open_session d place name n ≡ done result (world_seen g t)

-- a route that leads nowhere
abbrev opening : Doing → List ℕ → ℕ → world.SlotId → world.World → ℕ → Stepped
opening d name n slot_id w server =
    let given = amount n (open_caps (interface_in name d.system.interfaces)) in
    let session = requests.new_session d.x slot_id server name given in
    requests.asked d (record w { sessions = requests.add_session session w.sessions }) slot_id (requests.free_place d.world.sessions) world.Ask_open

abbrev go : Doing → List ℕ → ℕ → world.SlotId → world.World → Stepped
go d name n slot_id w = need (server_of d.system d.component name) WrongKind (opening d name n slot_id w)

module _ (name : List ℕ) (n : ℕ) (place : OperandSlot) (d : Doing) (none : server_of d.system d.component name ≡ None) where
  ends : (slot_id : world.SlotId) (w : world.World) → go d name n slot_id w ≡ Err WrongKind
  ends slot_id w = ap (λ o. need o WrongKind (opening d name n slot_id w)) none

  abbrev mark : world.Slot
  mark = world.Waiting (requests.free_place d.world.sessions)

  filled : (slot_id : world.SlotId) (o : Option world.Slot) → fill d.world slot_id o mark (go d name n slot_id) ≡ Err WrongKind
  filled slot_id None = refl
  filled slot_id (Some world.Empty) = ends slot_id (world.with_slot d.world slot_id mark)
  filled slot_id (Some (world.Bytes form m bytes)) = refl
  filled slot_id (Some (world.Pool m entries)) = refl
  filled slot_id (Some (world.Link k)) = refl
  filled slot_id (Some (world.Waiting k)) = refl

  by : (o : Option world.SlotId) → need o WrongKind (λ slot_id. fill d.world slot_id (world.slot_at d.world slot_id) mark (go d name n slot_id)) ≡ Err WrongKind
  by None = refl
  by (Some slot_id) = filled slot_id (world.slot_at d.world slot_id)

  nowhere : requests.open_session d place name n ≡ Err WrongKind
  nowhere = by (world.slot_id_of d.x d.leaf.current place)

module _ (l : Coded) (sound : IsSoundCode l.code) (statement : ℕ) (place : OperandSlot) (name : List ℕ) (n : ℕ)
    (next_is : operation_of l ≡ Some (operation.Long statement)) (stands : slice_get l.code.longs statement ≡ Some (instruction.Open place name n))
    (x : ℕ) (bs : List ℕ) (s : Slots) where
  abbrev long : Operation
  long = operation.Long statement

  not_end : long ≡ operation.End → ⊥
  not_end e = cc

  pub opens_nowhere : OpensNowhere x bs name l s
  opens_nowhere system f c lawful st active none =
      let i = instruction.Open place name n in
      let size = length (section l long sound next_is not_end).ops in
      let stated = stated_next l long sound next_is not_end system f s x c bs i st active stands in
      next_do system f s x c l.state bs lawful st.stands active i size stated
      ∙ nowhere name n place (doing system f s x c l.state bs lawful st.stands active i size stated) none

  module _ (t : Slots) (server service : ℕ) (donation : Amount) where
    pub open_leads : (new : Coded) (result : Result (Unit {0}) Wrong)
        → new.state ≡ record (stepped l.state l.state.registers.operands) { phase = phase.Blocked }
        → Opened (record { leaf = x; current = l.state.current }) place name n server service donation s t result
        → OpensTo x bs name n server service donation l new s t (done result)
    open_leads new result to made system f g c lawful st active e now named routed given =
        let i = instruction.Open place name n in
        let size = length (section l long sound next_is not_end).ops in
        let stated = stated_next l long sound next_is not_end system f s x c bs i st active stands in
        let ops = l.state.registers.operands in
        let a = asks system f s x c l.state bs lawful st.stands active i size stated g ops e (now ∙ ap (leaf_of c.node.program) to) in
        let d = doing system f s x c l.state bs lawful st.stands active i size stated in
        next_do system f s x c l.state bs lawful st.stands active i size stated
        ∙ made f g d a.by a.of (as_it_is d f g s ops (operands_are system f s x c l.state bs lawful st.stands active i size stated) a.blocks)
        (named ∙ ap (λ ns. get_or ns service []) (sym e.names)) routed given

    pub open_fails : (new : Coded) (wrong : Wrong)
        → Opened (record { leaf = x; current = l.state.current }) place name n server service donation s t (Err wrong)
        → OpensTo x bs name n server service donation l new s t (done (Err wrong))
    open_fails new wrong made system f g c lawful st active e now named routed given =
        let i = instruction.Open place name n in
        let size = length (section l long sound next_is not_end).ops in
        let stated = stated_next l long sound next_is not_end system f s x c bs i st active stands in
        let ops = l.state.registers.operands in
        let leaf = leaf_of c.node.program (record (stepped l.state ops) { phase = phase.Blocked }) in
        let a = asks system f s x c l.state bs lawful st.stands active i size stated (setting f x leaf) ops (set_elsewhere f x leaf) (set_here f x leaf) in
        let d = doing system f s x c l.state bs lawful st.stands active i size stated in
        next_do system f s x c l.state bs lawful st.stands active i size stated
        ∙ made f (setting f x leaf) d a.by a.of
        (as_it_is d f (setting f x leaf) s ops (operands_are system f s x c l.state bs lawful st.stands active i size stated) a.blocks) named routed given
