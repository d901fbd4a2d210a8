-- What is read of the registers of a leaf, of the slot of a session, and of marks.
use Rattle.std.proofs.Common.{◌≡◌, ◌<◌, ℕ, [], Option, Some, None, IfSome, length, get_or, option_map, refl, sym, ap, subst, ◌∙◌}
use Rattle.std.specs.Prelude.{slice_get}
use Rattle.gq_model.specs.machine.Program.{body_of, section_in}
use Rattle.gq_model.specs.machine.Scenario.{Component, components}
use Rattle.gq_model.specs.machine.World as world
use Rattle.gq_store.specs.Store.{Store}
use Rattle.gq_bytecode.specs.Cores.{Core}
use Rattle.gq_bytecode.specs.Views.{state_of}
use Rattle.gq_contents.specs.declared.content.Content.{Content}
use Rattle.gq_contents.specs.Contents.{seen}
use Rattle.gq_trade.specs.Seen_sessions.{seen_in, session_seen, slot_id_seen}
use Rattle.gq_trade.specs.declared.session.Session.{Session}
use Rattle.gq_trade.specs.declared.session.SlotId.{SlotId}
use Rattle.gq_slots.proofs.Slot_change_worlds.{session_seen_at}
use Rattle.gq_slots.specs.Slots.{Frame, Slots, holder, memory_of, world_seen}
use Rattle.gq_statements.specs.Slot_statements.{current_seen}
use Rattle.gq_statements.specs.declared.actor.Current.{Current}
use Rattle.gq_leaf.specs.Leaf_states.{LeafState, body_in, leaf_of, section_at}
use Rattle.gq_leaf.specs.Coded.{Coded}
use Rattle.gq_machine.specs.Machines.{Machine}
use Rattle.gq_machine.specs.Machine_world.{frame_of}
use Rattle.gq_machine.specs.Readers.{StandsAt}
use Rattle.gq_model.specs.machine.World.{section_of}
use Rattle.gq_machine.specs.declared.machine.Machine.TheInside.{Inside}
use Rattle.gq_machine.specs.internal.Machine_invariant.{Holds}
use Rattle.gq_machine.specs.internal.Starts.{machine_seen}
use Rattle.gq_machine.proofs.Machine_leaf_frames.{leaf_at}
use Rattle.gq_machine.proofs.Machine_reader_values.{if_some, item_is, seen_at}

-- a leaf without its slots and peaks
abbrev bare : world.Leaf → world.Leaf
bare l = record l { slots = []; peaks = [] }

same_section : (current : Option Current) (reacting : Option ℕ) → section_at current reacting ≡ section_of (current_seen current) reacting
same_section None reacting = refl
same_section (Some current) reacting = refl

stands_bare : (c : Component) (l : LeafState) → StandsAt c (leaf_of c.node.program l) l.registers
stands_bare c l =
    ap (λ section. state_of (body_in l.phase (body_of (section_in section c.node.program.sections))) l.registers l.steps) (same_section l.current l.reacting)

module _ (i : Inside) (w : Machine) (e : machine_seen i ≡ w) (h : Holds i.fixed i.state) where
  abbrev t : Slots
  t = i.state.slots

  abbrev f : Frame
  f = frame_of i.fixed.table i.state.leaves.items

  pub registers_read : (x : ℕ) → x < length (components w.scenario) → (p : ℕ) (item : Coded) → item ≡ get_or i.state.leaves.items p item → p ≡ x
      → (core : Core) → core ≡ item.state.registers → (c : Component) → slice_get (components w.scenario) x ≡ Some c
      → IfSome (slice_get w.world.leaves x) (λ l. StandsAt c l core)
  registers_read x less p item is at core core_is =
      subst (λ (m : Machine). (c : Component) → slice_get (components m.scenario) x ≡ Some c → IfSome (slice_get m.world.leaves x) (λ l. StandsAt c l core)) e
      (λ c there.
      let within = subst (λ (m : Machine). x < length (components m.scenario)) (sym e) less in
      let coded = item_is i.fixed i.state h x within p item is at in
      if_some (slice_get (machine_seen i).world.leaves x) (λ l. StandsAt c l core)
      (λ l found.
      let same = seen_at bare (λ y st ts hp. refl) f.leaf (memory_of t) t.own t.heaps x l found
      ∙ ap bare (leaf_at i.fixed.table i.state.leaves.items x c item there coded) in
      subst (λ (y : world.Leaf). StandsAt c y core) (sym same)
      (subst (StandsAt c (leaf_of c.node.program item.state)) (sym core_is) (stands_bare c item.state))))

  abbrev of : Session → world.Session
  of y = session_seen f.names (memory_of t y.server) y

  pub slot_id_read : (k : ℕ) (o : Option Session) → o ≡ get_or t.trades.trading.sessions k None
      → option_map (λ (s : Session). slot_id_seen s.slot_id) o ≡ option_map (λ (s : world.Session). s.slot_id) (world.session_at w.world k)
  slot_id_read k o is =
      by o ∙ ap (λ u. option_map (λ (s : world.Session). s.slot_id) (seen_in of u)) is
      ∙ ap (option_map (λ (s : world.Session). s.slot_id)) (sym (session_seen_at of t.trades.trading.sessions k))
      ∙ ap (λ (m : Machine). option_map (λ (s : world.Session). s.slot_id) (world.session_at m.world k)) e
    where
      by : (u : Option Session) → option_map (λ (s : Session). slot_id_seen s.slot_id) u ≡ option_map (λ (s : world.Session). s.slot_id) (seen_in of u)
      by None = refl
      by (Some s) = refl

  -- what a slot holds, seen by any function
  pub slot_read : {A : Type 0} (g : world.Slot → A) (p : SlotId) (c : Content) (o : A)
      → ((fr : Frame) → world.slot_at (world_seen fr t) (slot_id_seen p) ≡ Some (seen (memory_of t (holder t p)) c))
      → ((st : Store) → o ≡ g (seen st c)) → option_map g (world.slot_at w.world (slot_id_seen p)) ≡ Some o
  slot_read g p c o reads is =
      subst (λ (m : Machine). option_map g (world.slot_at m.world (slot_id_seen p)) ≡ Some o) e
      (ap (option_map g) (reads f) ∙ ap Some (sym (is (memory_of t (holder t p)))))
