-- Replies that let a client go on, in the machine's world.
use Rattle.std.proofs.Common.{◌≡◌, ℕ, Bool, true, false, eqb, ◌||◌, subst, List, ◌∷◌, get_or, length, Some, refl, sym, ap, ◌∙◌}
use Rattle.std.specs.Prelude.{slice_get, Ok, Err}
use Rattle.gq_model.specs.machine.World as world
use Rattle.gq_model.specs.machine.Doing.{Doing, Quiet, Stepped, pop, standing, when}
use Rattle.gq_model.specs.declared.fault.Wrong.TheVariants.{WrongKind}
use Rattle.gq_model.specs.declared.section.Section.TheVariants.{Opening, Calling}
use Rattle.gq_model.specs.machine.Memory.{buffer_of}
use Rattle.gq_model.specs.machine.Step as step
use Rattle.gq_model.specs.machine.Step.{replied, reply, serving}
use Rattle.gq_model.proofs.Small_facts.{some_same}
use Rattle.gq_store.specs.Store.{Store}
use Rattle.gq_trade.specs.Numbers.{IsTaken}
use Rattle.gq_contents.specs.declared.content.Content.{Content}
use Rattle.gq_contents.specs.declared.content.Content.TheVariants as content
use Rattle.gq_contents.specs.Contents.{seen}
use Rattle.gq_trade.specs.declared.session.Session.{Session}
use Rattle.gq_trade.specs.Seen_sessions.{session_seen, slot_id_seen}
use Rattle.gq_trade.specs.Trading.{IsTrading, server_of, session_at}
use Rattle.gq_trade.proofs.Sessions_kept.{between_at}
use Rattle.gq_slots.specs.Slots.{Frame, Slots, memory_of, world_seen}
use Rattle.gq_slots.specs.Calls.{PutsSlot}
use Rattle.gq_slots.proofs.Slot_change_worlds.{session_there}
use Rattle.gq_slots.specs.Slot_addresses.{AreBuffers, slot_for}
use Rattle.gq_statements.specs.Serving.{GoesOn}
use Rattle.gq_statements.specs.internal.Content_tests.{fits, is_space_of}
use Rattle.gq_statements.proofs.Client_slot_commute.{going_sessions, going_slot}

-- a space of n bytes in the world is one in the slots
space_seen : (n : ℕ) (st : Store) (t : Content) → step.is_space_of n (Some (seen st t)) ≡ is_space_of n t
space_seen n st content.Empty = refl
space_seen n st (content.Block p m) = refl
space_seen n st (content.Slice k m) = refl
space_seen n st (content.Space k m) = refl
space_seen n st (content.Pool p) = refl
space_seen n st (content.Link k) = refl
space_seen n st (content.Waiting k) = refl

module _ (f : Frame) (d : Doing) (s : Slots) (k : ℕ) (q : world.Session) (g : List ℕ → List ℕ) (at : world.session_at d.world k ≡ Some q)
    (h : GoesOn d q g f s) (there : IsTaken s.trades.trading.sessions k) where
  abbrev kept : world.Session
  kept = session_seen f.names (memory_of s (server_of s.trades.trading k)) (session_at s.trades.trading k)

  -- the session of the step, in the world of the slots
  pub session_is : world.session_at (world_seen f s) k ≡ Some q
  session_is =
      ap (λ ss. world.joined (slice_get ss k)) (sym (ap (λ w. w.sessions) h) ∙ going_sessions q.client g (standing d (serving d.leaf))) ∙ at

  pub is_kept : q ≡ kept
  is_kept =
      some_same (sym session_is ∙ ap world.joined (session_there (λ y. session_seen f.names (memory_of s y.server) y) s.trades.trading.sessions k there))

  pub slot_id_is : q.slot_id ≡ slot_id_seen (slot_for s k)
  slot_id_is = ap (λ y. y.slot_id) is_kept

  -- another content in the client's slot
  pub going_put : (t : Slots) (slot : world.Slot) → PutsSlot s t (slot_for s k) slot
      → world_seen f t ≡ step.unblocked (world.with_slot (standing d (serving d.leaf)) q.slot_id slot) q.client g
  going_put t slot puts =
      puts.seen_so f
      ∙ (ap (λ p. world.with_slot (world_seen f s) p slot) (sym slot_id_is)
      ∙ (ap (λ w. world.with_slot w q.slot_id slot) (sym h) ∙ sym (going_slot q.client g (standing d (serving d.leaf)) q.slot_id slot)))

  pub replied_is : (t : Slots) → PutsSlot s t (slot_for s k) (world.Link k) → replied d k q g ≡ Ok (world_seen f t, Quiet)
  replied_is t puts = ap (λ w. Ok (w, Quiet)) (sym (going_put t (world.Link k) puts))

-- a call's result is one operand more
pub called_is : (f : Frame) (d : Doing) (s t : Slots) (k : ℕ) (q : world.Session) (level a : ℕ) (rest : List ℕ) → world.session_at d.world k ≡ Some q
    → d.leaf.operands ≡ a ∷ rest → GoesOn d q (λ operands. a ∷ operands) f s → IsTaken s.trades.trading.sessions k
    → PutsSlot s t (slot_for s k) (world.Link k) → reply d k (Calling level) q ≡ Ok (world_seen f t, Quiet)
called_is f d s t k q level a rest at e h there puts =
    ap (λ os. pop os (λ b below. replied d k q (λ operands. b ∷ operands))) e ∙ replied_is f d s k q (λ operands. a ∷ operands) at h there t puts

-- OPENED SESSIONS

module _ (f : Frame) (d : Doing) (s : Slots) (k : ℕ) (q : world.Session) (at : world.session_at d.world k ≡ Some q)
    (h : GoesOn d q (λ operands. operands) f s) (there : IsTaken s.trades.trading.sessions k) (w : IsTrading s.trades.trading) (bs : List ℕ)
    (buffers : AreBuffers d.system f s bs) (n : ℕ) (size : n ≡ get_or bs (session_at s.trades.trading k).service 0) (first : Content)
    (reads : (e : Frame) → world.slot_at (world_seen e s) (world.In_session k 0) ≡ Some (seen (memory_of s (server_of s.trades.trading k)) first)) where
  buffer_is : buffer_of d.system q.service ≡ n
  buffer_is =
      let t = s.trades.trading in
      let b = between_at (length t.leaves) (length t.objects) t.sessions k w.between there in
      ap (λ y. buffer_of d.system y.service) (is_kept f d s k q (λ operands. operands) at h there)
      ∙ (sym (buffers (session_at t k).service b.service) ∙ sym size)

  first_is : slice_get q.slots 0 ≡ Some (seen (memory_of s (server_of s.trades.trading k)) first)
  first_is = ap (λ o. world.session_slot o 0) (sym (session_is f d s k q (λ operands. operands) at h there)) ∙ reads f

  abbrev replying : Bool → Stepped
  replying b = when b WrongKind (replied d k q (λ operands. operands))

  test_is : (b : Bool) → fits n first ≡ b → reply d k Opening q ≡ replying b
  test_is b e =
      (λ i. replying (eqb (buffer_is i) 0 || step.is_space_of (buffer_is i) (first_is i)))
      ∙ (ap (λ y. replying (eqb n 0 || y)) (space_seen n (memory_of s (server_of s.trades.trading k)) first) ∙ ap replying e)

  pub opened_wrong : fits n first ≡ false → reply d k Opening q ≡ Err WrongKind
  opened_wrong e = test_is false e

  pub opened_is : fits n first ≡ true → (t : Slots) → replied d k q (λ operands. operands) ≡ Ok (world_seen f t, Quiet)
      → reply d k Opening q ≡ Ok (world_seen f t, Quiet)
  opened_is e t is = test_is true e ∙ is

-- the client's slot by the session that was read
pub at_slot : (s t : Slots) (k : ℕ) (y : Session) (slot : world.Slot) → y ≡ session_at s.trades.trading k → PutsSlot s t y.slot_id slot
    → PutsSlot s t (slot_for s k) slot
at_slot s t k y slot e puts = subst (λ z. PutsSlot s t z.slot_id slot) e puts
