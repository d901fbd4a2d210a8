-- The end of a section for a session: what is known of the client, and what the reply leads to.
use Rattle.std.proofs.Common.{◌≡◌, ◌+◌, ◌^◌, ◌<◌, ◌≤◌, ℕ, List, [], ◌∷◌, Option, Some, None, Ok, Err, get_or, length, refl, sym, ap, subst, ◌∙◌, inl}
use Rattle.std.proofs.Common.{inr, arith}
use Rattle.std.specs.Prelude.{Result, slice_get, slice_set}
use Rattle.std.proofs.lemmas.Bool.Decides.{eqb_tells}
use Rattle.gq_model.specs.declared.fault.Wrong.{Wrong}
use Rattle.gq_model.specs.declared.fault.Wrong.TheVariants.{MissingOperand, WrongKind}
use Rattle.gq_model.specs.declared.phase.Phase.TheVariants as phase
use Rattle.gq_model.specs.declared.section.Section.{Section}
use Rattle.gq_model.specs.declared.section.Section.TheVariants as section
use Rattle.gq_model.specs.machine.Doing.{Doing, Quiet, need, pop}
use Rattle.gq_model.specs.machine.Scenario.{Component, Scenario, components, system}
use Rattle.gq_model.specs.machine.Step.{next, reply, section_ended}
use Rattle.gq_model.specs.machine.Step as step
use Rattle.gq_model.specs.machine.World as world
use Rattle.gq_model.proofs.Small_facts.{get_within, some_same}
use Rattle.gq_bytecode.specs.declared.operation.Operation.TheVariants as operation
use Rattle.gq_bytecode.specs.Nexts.{Active}
use Rattle.gq_laws.proofs.session_links.Written_world_links.{set_else}
use Rattle.gq_trade.specs.Numbers.{IsTaken}
use Rattle.gq_trade.proofs.Lowest_free_number.{taken_there}
use Rattle.gq_trade.specs.Seen_sessions.{session_seen}
use Rattle.gq_trade.specs.Trading.{server_of, session_at}
use Rattle.gq_slots.specs.Slots.{AreLong, Frame, Slots, memory_of, world_seen}
use Rattle.gq_slots.proofs.Slot_change_worlds.{session_there}
use Rattle.gq_slots.specs.Slot_addresses.{AreBuffers}
use Rattle.gq_statements.proofs.Unpaid_made_memory.{leaf_found}
use Rattle.gq_statements.specs.Systems.{AreLawful, IsOf, stage_in}
use Rattle.gq_statements.specs.declared.actor.Current.{Current}
use Rattle.gq_statements.specs.Slot_statements.{done, current_seen}
use Rattle.gq_leaf.proofs.Leaf_frame_changes.{seen_leaf}
use Rattle.gq_statements.specs.Serving.{GoesOn}
use Rattle.gq_statements.specs.Serving as serving
use Rattle.gq_statements.specs.Linked as linked
use Rattle.gq_statements.proofs.linked.Standing_sessions.{client_below, in_slot}
use Rattle.gq_laws.specs.Room.{calling}
use Rattle.gq_leaf.specs.Coded.{Coded, IsStanding, operation_of}
use Rattle.gq_leaf.specs.Section_boundaries.{resumed, resumed_phase, served}
use Rattle.gq_leaf.proofs.Section_end_step.{end_is, ending}
use Rattle.gq_leaf.proofs.Section_end_step as ends
use Rattle.gq_leaf.proofs.Leaf_stance_worlds.{shape}
use Rattle.gq_machine.specs.Machine_world.{frame_of, world_of}
use Rattle.gq_machine.specs.declared.machine_state.Fixed.{Fixed}
use Rattle.gq_machine.specs.declared.machine_state.MachineState.{MachineState}
use Rattle.gq_machine.specs.internal.Machine_invariant.{Goes, Holds, OfLeaf}
use Rattle.gq_machine.specs.internal.Section_replies.{IsEnd, replied}
use Rattle.gq_machine.specs.internal.Scenes.{SameScene}
use Rattle.gq_machine.proofs.Machine_leaf_frames.{leaf_at, leaf_else, leaf_set}
use Rattle.gq_machine.proofs.Machine_invariant_step.{SameCodes, codes_set, codes_then, kept}
use Rattle.gq_machine.proofs.Slot_system_kept.{nodes_kept, of_kept, scene_self}
use Rattle.gq_machine.proofs.Stepping_leaf_facts.{active_awake, active_live, buffers, handles, item_there, of_leaf, standing}

-- a leaf that stands in the same stage
stages_set : (s : Scenario) (ls : List Coded) (x : ℕ) (c : Component) (old new : Coded) → slice_get (components s) x ≡ Some c → slice_get ls x ≡ Some old
    → stage_in new.state.phase ≡ stage_in old.state.phase
    → (y : ℕ) → stage_in ((frame_of s (slice_set ls x new)).leaf y).phase ≡ stage_in ((frame_of s ls).leaf y).phase
stages_set s ls x c old new ec el stage y = elim (eqb_tells y x) [
  | inl t ↦ ap (λ z. stage_in ((frame_of s (slice_set ls x new)).leaf z).phase) t.1
      ∙ ap (λ (l : world.Leaf). stage_in l.phase) (leaf_set s ls x c old new ec el) ∙ stage
      ∙ sym (ap (λ (l : world.Leaf). stage_in l.phase) (leaf_at s ls x c old ec el))
      ∙ sym (ap (λ z. stage_in ((frame_of s ls).leaf z).phase) t.1)
  | inr t ↦ ap (λ (l : world.Leaf). stage_in l.phase) (leaf_else s ls x y new t.1)
]

resumed_live : (o : Option Current) (i : Option ℕ) → stage_in (resumed_phase o i) ≡ stage_in phase.Blocked
resumed_live None None = refl
resumed_live None (Some i) = refl
resumed_live (Some h) i = refl

-- LEAVES THAT ARE CHANGED

some_leaf : (P : Coded → Type 0) (o : Option Coded) → OfLeaf P o → (a : Coded) × (o ≡ Some a) × P a
some_leaf P None h = absurd h
some_leaf P (Some a) h = (a, refl, h)

-- what holds of a leaf holds of the item that a call of `index` reports
pub of_item : (P : Coded → Type 0) (ls : List Coded) (x : ℕ) (item : Coded) → OfLeaf P (slice_get ls x) → item ≡ get_or ls x item → P item
of_item P ls x item h is =
    let a = some_leaf P (slice_get ls x) h in
    subst P (some_same (sym a.1 ∙ item_there ls x a.0 item a.1 is)) a.2

-- and where another leaf is changed
pub of_other : (P : Coded → Type 0) (ls : List Coded) (x y : ℕ) (new : Coded) → (y ≡ x → ⊥) → OfLeaf P (slice_get ls x)
    → OfLeaf P (slice_get (slice_set ls y new) x)
of_other P ls x y new apart h = subst (OfLeaf P) (sym (set_else ls y x new (λ same. apart (sym same)))) h

-- one leaf goes on, then the other serves
pub both_set : (F : List ℕ → List ℕ) (ls : List Coded) (x y : ℕ) (l d was waked had rests : Coded) → (y ≡ x → ⊥) → slice_get ls x ≡ Some l
    → slice_get ls y ≡ Some d → was ≡ get_or ls y was → waked ≡ record was { state = resumed was.state (F was.state.registers.operands) }
    → had ≡ get_or (slice_set ls y waked) x had → rests ≡ record had { state = served had.state }
    → slice_set (slice_set ls y waked) x rests ≡ replied ls x y l d (F d.state.registers.operands)
both_set F ls x y l d was waked had rests apart el ed was_is waked_is had_is rests_is =
    let first : was ≡ d = some_same (sym (item_there ls y d was ed was_is) ∙ ed) in
    let there : slice_get (slice_set ls y waked) x ≡ Some l = set_else ls y x waked (λ same. apart (sym same)) ∙ el in
    let second : had ≡ l = some_same (sym (item_there (slice_set ls y waked) x l had there had_is) ∙ there) in
    let wakes = waked_is ∙ ap (λ (z : Coded). record z { state = resumed z.state (F z.state.registers.operands) }) first in
    let serves = rests_is ∙ ap (λ (z : Coded). record z { state = served z.state }) second in
    λ k. slice_set (slice_set ls y (wakes k)) x (serves k)

module _ (f : Fixed) (m : MachineState) (x y : ℕ) (current : Current) (e : IsEnd f m x y current) where
  abbrev s : Scenario
  s = f.table

  abbrev t : Slots
  t = m.slots

  abbrev ls : List Coded
  ls = m.leaves.items

  abbrev before : Frame
  before = frame_of s ls

  abbrev k : ℕ
  k = current.session

  abbrev holds : Holds f m
  holds = e.can.holds

  -- THE SERVER

  abbrev c : Component
  c = e.can.component

  abbrev pub server : Coded
  server = e.can.leaf

  abbrev pub server_is : slice_get ls x ≡ Some server
  server_is = e.can.leaf_is

  pub active : Active server.state.phase
  active = of_leaf (λ l. Active l.state.phase) (slice_get ls x) server server_is e.next.active

  pub end : operation_of server ≡ Some operation.End
  end = of_leaf (λ l. operation_of l ≡ Some operation.End) (slice_get ls x) server server_is e.next.next

  current_is : server.state.current ≡ Some current
  current_is = of_leaf (λ l. l.state.current ≡ Some current) (slice_get ls x) server server_is e.at_current

  abbrev at_current : world.Current
  at_current = record { session = current.session; section = current.section }

  pub is_handled : linked.IsHandled before t x at_current
  is_handled = handles f m holds e.lawful x c server e.can.component_is server_is at_current (ap current_seen current_is)

  pub there : IsTaken t.trades.trading.sessions k
  there = is_handled.awaited.there

  pub stands : IsStanding (system s) before t x c server f.services.buffers
  stands = standing f m holds e.lawful x c server e.can.component_is server_is

  -- THE SESSION

  pub awaited : AreLong t → serving.IsAwaited t k
  awaited long =
      let i = in_slot (system s) before t e.lawful holds.linked k there long in
      record { there = there; slot = i.slot; slot_id = i.there; waits = is_handled.awaited.waits; client = i.holder_is }

  pub small : length t.trades.trading.sessions ≤ t.trades.trading.room → k < 4294967296
  small le =
      let a = taken_there t.trades.trading.sessions k there in
      let b = holds.room_is in
      omega (arith, a, b, le)

  abbrev q : world.Session
  q = session_seen before.names (memory_of t (server_of t.trades.trading k)) (session_at t.trades.trading k)

  q_is : world.session_at (world_seen before t) k ≡ Some q
  q_is = ap world.joined (session_there (λ z. session_seen before.names (memory_of t z.server) z) t.trades.trading.sessions k there)

  -- THE CLIENT

  below : y < length t.own
  below = subst (λ z. z < length t.own) (sym e.client) (client_below (system s) before t e.lawful holds.linked k there)

  pub its : (d : Component) × (slice_get (components s) y ≡ Some d)
  its =
      let less = below in
      let count = holds.of.count in
      get_within (components s) y (omega (arith, less, count))

  pub has : (d : Coded) × (slice_get ls y ≡ Some d)
  has =
      let less = below in
      let count = holds.of.count in
      let leaves = holds.count in
      get_within ls y (omega (arith, less, count, leaves))

  abbrev d : Component
  d = its.0

  abbrev pub client : Coded
  client = has.0

  pub client_is : slice_get ls y ≡ Some client
  client_is = has.1

  pub client_there : y < length ls
  client_there =
      let less = below in
      let count = holds.of.count in
      let leaves = holds.count in
      omega (arith, less, count, leaves)

  blocked_there : (before.leaf y).phase ≡ phase.Blocked
  blocked_there = ap (λ z. (before.leaf z).phase) e.client ∙ is_handled.awaited.blocked

  blocked : client.state.phase ≡ phase.Blocked
  blocked = sym (ap (λ (l : world.Leaf). l.phase) (leaf_at s ls y d client its.1 client_is)) ∙ blocked_there

  pub apart : y ≡ x → ⊥
  apart same =
      active_awake server.state.phase active
      (sym (ap (λ (l : world.Leaf). l.phase) (leaf_at s ls x c server e.can.component_is server_is))
      ∙ ap (λ z. (before.leaf z).phase) (sym same) ∙ blocked_there)

  -- BOTH STAND OTHERWISE

  module _ (ops : List ℕ) where
    abbrev waked : Coded
    waked = record client { state = resumed client.state ops }

    abbrev between : List Coded
    between = slice_set ls y waked

    abbrev rests : Coded
    rests = record server { state = served server.state }

    abbrev pub after : List Coded
    after = replied ls x y server client ops

    server_between : slice_get between x ≡ Some server
    server_between = set_else ls y x waked (λ same. apart (sym same)) ∙ server_is

    codes : SameCodes ls after
    codes =
        codes_then ls between after (codes_set ls y client waked client_is refl) (codes_set between x server rests server_between refl)

    stages : (z : ℕ) → stage_in ((frame_of s after).leaf z).phase ≡ stage_in (before.leaf z).phase
    stages z =
        stages_set s between x c server rests e.can.component_is server_between (sym (active_live server.state.phase active)) z
        ∙ stages_set s ls y d client waked its.1 client_is (resumed_live client.state.current client.state.reacting ∙ sym (ap stage_in blocked)) z

    -- the system goes with other slots in which nodes stand the same
    of_after : (u : Slots) → AreLawful u → SameScene t u → IsOf (system s) (frame_of s after) u
    of_after u lu scene = of_kept (system s) before (frame_of s after) t u e.lawful lu scene (λ z less. stages z) holds.of

    pub of_before : IsOf (system s) (frame_of s after) t
    of_before = of_after t e.lawful (scene_self t)

    pub kept_two : (n : MachineState) → n.leaves.items ≡ after → AreLawful n.slots → SameScene t n.slots → Goes f x m n (λ w. Ok (w, Quiet)) → Holds f n
    kept_two n is ln scene goes =
        kept f m n x Quiet holds (subst (SameCodes ls) (sym is) codes) (nodes_kept s t n.slots scene holds.nodes) (scene.room ∙ holds.room_is)
        (subst (λ ms. IsOf (system s) (frame_of s ms) n.slots) (sym is) (of_after n.slots ln scene)) goes

    pub goes_on : (F : List ℕ → List ℕ) → F client.state.registers.operands ≡ ops
        → GoesOn (ending (system s) before t x c server f.services.buffers e.lawful stands active end) q F (frame_of s after) t
    goes_on F made =
        ends.goes_on (system s) before t x c server f.services.buffers e.lawful stands active end (frame_of s after) y d client.state ops apart below
        (leaf_at s ls y d client its.1 client_is) blocked refl
        (λ z nx ny. leaf_else s between x z rests nx ∙ leaf_else s ls y z waked ny)
        (leaf_set s between x c server rests e.can.component_is server_between)
        (leaf_else s between x y rests apart ∙ leaf_set s ls y d client waked its.1 client_is)
        q F (sym e.client) made

  -- THE STEP

  abbrev pub it : Doing
  it = ending (system s) before t x c server f.services.buffers e.lawful stands active end

  pub operands_are : it.leaf.operands ≡ server.state.registers.operands
  operands_are = ap (λ (z : world.Leaf). z.operands) (shape (system s) before t x c server.state f.services.buffers e.lawful stands.stands)

  pub next_is : (section : Section) → current.section ≡ section → next (system s) (world_of s ls t) x ≡ reply it k section q
  next_is section is =
      end_is (system s) before t x c server f.services.buffers e.lawful stands active end
      ∙ ap (λ o. section_ended it (current_seen o) server.state.reacting) current_is
      ∙ ap (λ o. need o WrongKind (reply it k current.section)) q_is ∙ ap (λ z. reply it k z q) is

  -- the same operands, or one more
  abbrev pub had : List ℕ
  had = client.state.registers.operands

  -- a call on slots that reports the reply to a request to open
  pub opened_to : (r : Result (Unit {0}) Wrong) (bs : List ℕ) (u : Slots) → bs ≡ f.services.buffers → current.section ≡ section.Opening
      → ((g : Frame) (j : Doing) (z : world.Session) → world.session_at j.world k ≡ Some z → AreBuffers j.system g t bs
      → GoesOn j z (λ operands. operands) g t → reply j k section.Opening z ≡ done r (world_seen g u))
      → next (system s) (world_of s ls t) x ≡ done r (world_of s (after had) u)
  opened_to r bs u are is led =
      next_is section.Opening is
      ∙ led (frame_of s (after had)) it q q_is (subst (λ os. AreBuffers (system s) (frame_of s (after had)) t os) (sym are) (buffers f m holds e.lawful))
      (goes_on had (λ operands. operands) refl)

  -- one that reports any other reply, but to a request to close
  pub replied_to : (section : Section) (ops : List ℕ) (F : List ℕ → List ℕ) (u : Slots) → current.section ≡ section → F had ≡ ops
      → ((g : Frame) (j : Doing) (z : world.Session) → world.session_at j.world k ≡ Some z → j.leaf.operands ≡ server.state.registers.operands
      → GoesOn j z F g t → reply j k section z ≡ Ok (world_seen g u, Quiet))
      → next (system s) (world_of s ls t) x ≡ Ok (world_of s (after ops) u, Quiet)
  replied_to section ops F u is made led = next_is section is ∙ led (frame_of s (after ops)) it q q_is operands_are (goes_on ops F made)

  pub closed_to : (level : ℕ) (r : Result (Unit {0}) Wrong) (u : Slots) → current.section ≡ section.Closing level
      → ((g : Frame) (j : Doing) (z : world.Session) (l : ℕ) → world.session_at j.world k ≡ Some z → IsOf j.system g t
      → GoesOn j z (λ operands. operands) g t → reply j k (section.Closing l) z ≡ done r (world_seen g u))
      → next (system s) (world_of s ls t) x ≡ done r (world_of s (after had) u)
  closed_to level r u is led =
      next_is (section.Closing level) is ∙ led (frame_of s (after had)) it q level q_is (of_before had) (goes_on had (λ operands. operands) refl)

  pub main_wrong : current.section ≡ section.Main → next (system s) (world_of s ls t) x ≡ Err WrongKind
  main_wrong is = next_is section.Main is

  pub reacting_wrong : (i : ℕ) → current.section ≡ section.Reacting i → next (system s) (world_of s ls t) x ≡ Err WrongKind
  reacting_wrong i is = next_is (section.Reacting i) is

  pub none_to : (level : ℕ) → current.section ≡ section.Calling level → server.state.registers.operands ≡ []
      → next (system s) (world_of s ls t) x ≡ Err MissingOperand
  none_to level is none =
      next_is (section.Calling level) is ∙ ap (λ os. pop os (λ a rest. step.replied it k q (λ operands. a ∷ operands))) (operands_are ∙ none)

  -- leaves that stand so
  pub goes_to : (ops : List ℕ) (ns : List Coded) (u : Slots) (r : Result (Unit {0}) Wrong) → ns ≡ after ops
      → next (system s) (world_of s ls t) x ≡ done r (world_of s (after ops) u) → next (system s) (world_of s ls t) x ≡ done r (world_of s ns u)
  goes_to ops ns u r to led = led ∙ ap (λ ms. done r (world_of s ms u)) (sym to)

  -- ROOM FOR A RESULT

  pub has_room : (level : ℕ) → current.section ≡ section.Calling level → length had ≤ 15
  has_room level is =
      let mine = leaf_found before t e.lawful x stands.stands.below in
      let theirs = leaf_found before t e.lawful y below in
      let calls : mine.0.current ≡ Some (calling k level) =
      ap (λ (z : world.Leaf). z.current) (seen_leaf before t x mine.0 mine.1)
      ∙ ap (λ (z : world.Leaf). z.current) (leaf_at s ls x c server e.can.component_is server_is) ∙ ap current_seen current_is
      ∙ ap (λ z. Some (record at_current { section = z })) is in
      let few = holds.roomy.handled x mine.0 k level mine.1 calls q theirs.0 q_is (ap (slice_get (world_of s ls t).leaves) (sym e.client) ∙ theirs.1) in
      let same : theirs.0.operands ≡ had =
      ap (λ (z : world.Leaf). z.operands) (seen_leaf before t y theirs.0 theirs.1)
      ∙ ap (λ (z : world.Leaf). z.operands) (leaf_at s ls y d client its.1 client_is) in
      subst (λ os. length os ≤ 15) same few

  pub rooms : (level : ℕ) → current.section ≡ section.Calling level → OfLeaf (λ l. length l.state.registers.operands < 16) (slice_get ls y)
  rooms level is =
      let few = has_room level is in
      subst (OfLeaf (λ l. length l.state.registers.operands < 16)) (sym client_is) (omega (arith, few))

  -- one step more is counted
  pub counts : OfLeaf (λ l. l.state.steps + 1 < 2 ^ 64) (slice_get ls x)
  counts = subst (OfLeaf (λ l. l.state.steps + 1 < 2 ^ 64)) (sym server_is) e.can.countable
