-- A leaf that asks for something: the world in which it waits.
use Rattle.std.proofs.Common.{◌≡◌, ◌∷◌, ℕ, inl, inr, List, [], Option, Some, None, Err, length, refl, sym, ap, ◌∙◌}
use Rattle.std.specs.Prelude.{Result, MatchOption}
use Rattle.std.proofs.lemmas.Bool.Decides.{eqb_tells}
use Rattle.gq_model.specs.declared.fault.Wrong.{Wrong}
use Rattle.gq_model.specs.declared.fault.Wrong.TheVariants.{MissingOperand}
use Rattle.gq_model.specs.declared.phase.Phase.{Phase}
use Rattle.gq_model.specs.declared.phase.Phase.TheVariants as phase
use Rattle.gq_model.specs.declared.program.Instruction.{Instruction}
use Rattle.gq_model.specs.declared.program.Instruction.TheVariants as instruction
use Rattle.gq_model.specs.declared.program.OperandSlot.{OperandSlot}
use Rattle.gq_model.specs.machine.Doing.{Doing, Stepped, pop, standing, with_operands}
use Rattle.gq_model.specs.machine.Requests as requests
use Rattle.gq_model.specs.machine.Scenario.{System, Component}
use Rattle.gq_model.specs.machine.Step.{instruct}
use Rattle.gq_model.specs.machine.World as world
use Rattle.gq_bytecode.specs.declared.operation.Operation.{Operation}
use Rattle.gq_bytecode.specs.declared.operation.Operation.TheVariants as operation
use Rattle.gq_bytecode.specs.Bytecode_layout.{instruction_in}
use Rattle.gq_bytecode.specs.Nexts.{Active}
use Rattle.gq_bytecode.specs.Stated.{IsStated}
use Rattle.gq_slots.specs.Slots.{Frame, Slots, world_seen}
use Rattle.gq_statements.specs.Systems.{AreLawful, IsOf, stage_in}
use Rattle.gq_statements.specs.declared.actor.Actor.{Actor}
use Rattle.gq_statements.specs.Slot_statements.{IsBy, done}
use Rattle.gq_statements.specs.Client_requests.{Blocks}
use Rattle.gq_leaf.specs.Leaf_frames.{IsElsewhere}
use Rattle.gq_leaf.specs.Leaf_states.{LeafState, StandsAs, body_at, leaf_of, stepped}
use Rattle.gq_leaf.specs.Coded.{Coded, operation_of}
use Rattle.gq_leaf.specs.Leaf_steps.{LeadsTo}
use Rattle.gq_leaf.specs.internal.Leaf_invariant.{IsSoundCode}
use Rattle.gq_leaf.proofs.Instruction_step_worlds.{blocks, doing, current_is, next_do, operands_are}
use Rattle.gq_leaf.proofs.Operation_leads_step.{section, stated_next}
use Rattle.gq_leaf.proofs.Leaf_stance_worlds.{set_elsewhere, set_here, setting}

-- WHO GOES WITH THE SLOTS

-- a frame in which one leaf is in another phase, in which its node stands the same
pub still_of : (system : System) (f g : Frame) (s : Slots) (x : ℕ) → IsOf system f s → IsElsewhere f g x
    → stage_in (g.leaf x).phase ≡ stage_in (f.leaf x).phase → IsOf system g s
still_of system f g s x of e same =
    let each : (y : ℕ) → stage_in (f.leaf y).phase ≡ stage_in (g.leaf y).phase = λ y. elim (eqb_tells y x) [
      | inl t ↦ ap (λ z. stage_in (f.leaf z).phase) t.1 ∙ sym same ∙ sym (ap (λ z. stage_in (g.leaf z).phase) t.1)
      | inr t ↦ sym (ap (λ (l : world.Leaf). stage_in l.phase) (e.others y t.1))
    ] in
    record { count = of.count; counted = of.counted; quanta = of.quanta; stages = λ y lt. of.stages y lt ∙ each y }

pub active_stage : (p : Phase) → Active p → stage_in phase.Blocked ≡ stage_in p
active_stage phase.Running h = refl
active_stage phase.Handling h = refl
active_stage phase.Pending h = absurd h
active_stage phase.Blocked h = absurd h
active_stage phase.Serving h = absurd h
active_stage phase.Exited h = absurd h

-- A LEAF THAT WAITS

pub record IsAsking (d : Doing) (a : Actor) (f g : Frame) (s : Slots) (ops : List ℕ) : Type 0 where
  pub by : IsBy d a
  pub of : IsOf d.system g s
  pub blocks : Blocks d (with_operands d ops) f g s

module _ (system : System) (f : Frame) (s : Slots) (x : ℕ) (c : Component) (old : LeafState) (bs : List ℕ) (l : AreLawful s)
    (st : StandsAs system f s x c old bs) (active : Active old.phase) (i : Instruction) (size : ℕ)
    (stated : IsStated (body_at c.node.program old) old.registers i size) where
  abbrev waiting : List ℕ → LeafState
  waiting ops = record (stepped old ops) { phase = phase.Blocked }

  pub asks : (g : Frame) (ops : List ℕ) → IsElsewhere f g x → g.leaf x ≡ leaf_of c.node.program (waiting ops)
      → IsAsking (doing system f s x c old bs l st active i size stated) (record { leaf = x; current = old.current }) f g s ops
  asks g ops e now =
      let same : stage_in (g.leaf x).phase ≡ stage_in (f.leaf x).phase =
      ap (λ (y : world.Leaf). stage_in y.phase) now ∙ active_stage old.phase active ∙ sym (ap (λ (y : world.Leaf). stage_in y.phase) st.leaf) in
      record {
        by = record { leaf = refl; current = current_is system f s x c old bs l st active i size stated };
        of = still_of system f g s x st.of e same;
        blocks = record { world_before = refl; world_after = blocks system f s x c old bs l st active i size stated g ops e now };
      }

-- a step of the leaf with its own operands
pub as_it_is : (d : Doing) (f g : Frame) (s : Slots) (ops : List ℕ) → d.leaf.operands ≡ ops → Blocks d (with_operands d ops) f g s → Blocks d d.leaf f g s
as_it_is d f g s ops e b =
    record {
      world_before = b.world_before;
      world_after = ap (λ o. standing d (record (with_operands d o) { phase = phase.Blocked })) e ∙ b.world_after;
    }

-- ANY REQUEST

-- what a request of the leaf x makes of the machine's world, of the instruction i with these operands left
abbrev pub Asks : Actor → Instruction → List ℕ → List ℕ → Slots → Slots → Result (Unit {0}) Wrong → Type 0
Asks a i had ops s t result = (f g : Frame) (d : Doing) → IsBy d a → IsOf d.system g s → Blocks d (with_operands d ops) f g s → d.leaf.operands ≡ had
    → instruct d i ≡ done result (world_seen g t)

module _ (l : Coded) (sound : IsSoundCode l.code) (does : Operation) (next_is : operation_of l ≡ Some does) (more : does ≡ operation.End → ⊥) (x : ℕ)
    (bs : List ℕ) (s t : Slots) (i : Instruction) (stands : instruction_in l.code.longs does ≡ Some i) where
  abbrev actor : Actor
  actor = record { leaf = x; current = l.state.current }

  pub asked_leads : (new : Coded) (ops : List ℕ) (result : Result (Unit {0}) Wrong) → new.state ≡ record (stepped l.state ops) { phase = phase.Blocked }
      → Asks actor i l.state.registers.operands ops s t result → LeadsTo x bs l new s t (done result)
  asked_leads new ops result to asked system f g c lawful st active e now =
      let size = length (section l does sound next_is more).ops in
      let stated = stated_next l does sound next_is more system f s x c bs i st active stands in
      let a = asks system f s x c l.state bs lawful st.stands active i size stated g ops e (now ∙ ap (leaf_of c.node.program) to) in
      next_do system f s x c l.state bs lawful st.stands active i size stated
      ∙ asked f g (doing system f s x c l.state bs lawful st.stands active i size stated) a.by a.of a.blocks
      (operands_are system f s x c l.state bs lawful st.stands active i size stated)

  pub asked_fails : (new : Coded) (ops : List ℕ) (wrong : Wrong) → Asks actor i l.state.registers.operands ops s t (Err wrong)
      → LeadsTo x bs l new s t (done (Err wrong))
  asked_fails new ops wrong asked system f g c lawful st active e now =
      let size = length (section l does sound next_is more).ops in
      let stated = stated_next l does sound next_is more system f s x c bs i st active stands in
      let leaf = leaf_of c.node.program (record (stepped l.state ops) { phase = phase.Blocked }) in
      let a = asks system f s x c l.state bs lawful st.stands active i size stated (setting f x leaf) ops (set_elsewhere f x leaf) (set_here f x leaf) in
      next_do system f s x c l.state bs lawful st.stands active i size stated
      ∙ asked f (setting f x leaf) (doing system f s x c l.state bs lawful st.stands active i size stated) a.by a.of a.blocks
      (operands_are system f s x c l.state bs lawful st.stands active i size stated)

abbrev calling : Doing → OperandSlot → ℕ → List ℕ → Stepped
calling d p a rest =
    let h : Doing = record d { leaf = with_operands d rest } in
    requests.link_at h p (λ slot_id k q. requests.asked h d.world slot_id k (world.Ask_call a))

-- a call without an operand
pub call_missing : (l : Coded) (sound : IsSoundCode l.code) (place : OperandSlot) → operation_of l ≡ Some (operation.Call place) →
    l.state.registers.operands ≡ []
    → (x : ℕ) (bs : List ℕ) (s : Slots) → LeadsTo x bs l l s s (done (Err MissingOperand))
call_missing l sound place is ops x bs s system f g c lawful st active e now =
    let does = operation.Call place in
    let i = instruction.Call place in
    let more : does ≡ operation.End → ⊥ = λ h. cc in
    let size = length (section l does sound is more).ops in
    let stated = stated_next l does sound is more system f s x c bs i st active refl in
    let d = doing system f s x c l.state bs lawful st.stands active i size stated in
    next_do system f s x c l.state bs lawful st.stands active i size stated
    ∙ call_none d place (operands_are system f s x c l.state bs lawful st.stands active i size stated ∙ ops)
  where
    call_none : (d : Doing) (p : OperandSlot) → d.leaf.operands ≡ [] → requests.call d p ≡ Err MissingOperand
    call_none d p e = ap (λ o. pop o (calling d p)) e

-- what is left below the top
pub below_top : (o : Option ℕ) (ops rest new : List ℕ) (a : ℕ) → MatchOption o (ops ≡ []) (λ b. ops ≡ b ∷ new) → ops ≡ a ∷ rest → new ≡ rest
below_top None ops rest new a h e = cc
below_top (Some b) ops rest new a h e = cc
