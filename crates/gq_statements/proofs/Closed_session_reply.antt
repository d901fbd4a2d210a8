-- A session that ends at the reply to its close.
use Rattle.std.proofs.Common.{◌≡◌, ℕ, ◌<◌, ◌≤◌, Bool, true, false, inl, inr, List, [], get_or, length, Option, Some, None, refl, sym, ap, ◌∙◌, arith}
use Rattle.std.specs.Prelude.{slice_get, Ok, Err}
use Rattle.std.proofs.lemmas.Bool.{cases_lt}
use Rattle.gq_model.specs.machine.Amounts.{Resource}
use Rattle.gq_model.specs.machine.Scenario.{System}
use Rattle.gq_model.specs.machine.Program.{Done}
use Rattle.gq_model.specs.declared.phase.Phase.TheVariants.{Running}
use Rattle.gq_model.specs.machine.World as world
use Rattle.gq_model.specs.machine.World.{with_slot}
use Rattle.gq_model.specs.machine.Doing.{Doing, Quiet, Stepped, if_paid, standing, when}
use Rattle.gq_model.specs.declared.fault.Wrong.TheVariants.{ExceededQuota, WrongKind}
use Rattle.gq_model.specs.machine.Step.{active_again, all_empty, reply_close, serving, unblocked}
use Rattle.gq_model.specs.machine.Sums.{paid, slot_price}
use Rattle.gq_store.specs.Store.{Store}
use Rattle.gq_contents.specs.declared.content.Content.TheVariants as content
use Rattle.gq_contents.specs.Contents.{seen}
use Rattle.gq_trade.specs.declared.session.SlotId.{SlotId}
use Rattle.gq_trade.specs.declared.session.SlotId.TheVariants.{InLeaf, InSession, InObject}
use Rattle.gq_trade.specs.Seen_sessions.{slot_id_seen}
use Rattle.gq_trade.specs.Trading.{IsTrading, Trading, bytes_then, caps_then, node_of, server_of, session_at}
use Rattle.gq_trade.specs.Balances.{node_at}
use Rattle.gq_trade.proofs.Sessions_kept.{between_at}
use Rattle.gq_slots.specs.Slots.{AreSound, Frame, IsMark, IsSlot, Slots, holder, memory_of, slot_of, content_at, world_seen}
use Rattle.gq_slots.specs.Calls.{PutsSlot}
use Rattle.gq_slots.specs.Session_calls.{EndsSession, IsBeside, ending}
use Rattle.gq_slots.proofs.Slot_call_effects.{object_at}
use Rattle.gq_slots.specs.Slot_addresses.{slot_for}
use Rattle.gq_laws.proofs.session_links.Written_world_links.{set_else}
use Rattle.gq_statements.specs.Systems.{AreLawful, IsOf, counted_at}
use Rattle.gq_statements.proofs.Unpaid_session_end.{unpaid_ending, unpaid_ending_caps}
use Rattle.gq_statements.proofs.Price_neutral_changes.{marked_paid, slot_ending}
use Rattle.gq_statements.proofs.Lawful_worlds_paid.{all_paid}
use Rattle.gq_statements.proofs.Seen_slot_content.{object_no_pool}
use Rattle.gq_statements.specs.Serving.{GoesOn, IsAwaited}
use Rattle.gq_statements.specs.internal.Content_tests.{are_empty}
use Rattle.gq_statements.proofs.Client_slot_commute.{going_slot}
use Rattle.gq_statements.proofs.Empty_slot_world.{all_empty_seen, empty_each, waiting_mark}
use Rattle.gq_statements.proofs.Reply_machine_world.{is_kept, slot_id_is}

-- WORLDS WITHOUT A SESSION

ending_on : (w : world.World) (k x : ℕ) (g : List ℕ → List ℕ) (o : Option world.Leaf) → active_again (ending w k) x g o ≡ ending (active_again w x g o) k
ending_on w k x g None = refl
ending_on w k x g (Some leaf) = refl

-- a leaf goes on before or behind a session's end
going_ending : (w : world.World) (k x : ℕ) (g : List ℕ → List ℕ) → unblocked (ending w k) x g ≡ ending (unblocked w x g) k
going_ending w k x g = ending_on w k x g (slice_get w.leaves x)

-- slots that are not of the session stay
beside_stays : (w : world.World) (k : ℕ) (p : SlotId) → IsBeside k p → world.slot_at (ending w k) (slot_id_seen p) ≡ world.slot_at w (slot_id_seen p)
beside_stays w k (InLeaf x i) b = refl
beside_stays w k (InSession j i) b = ap (λ o. world.session_slot (world.joined o) i) (set_else w.sessions k j None b)
beside_stays w k (InObject j) b = ap (λ o. world.session_object (world.joined o)) (set_else w.sessions k j None b)

-- a slot whose holder is not the session's server is none of the session's
beside_is : (s : Slots) (k : ℕ) (p : SlotId) → IsSlot p → (holder s p ≡ server_of s.trades.trading k → ⊥) → IsBeside k p
beside_is s k (InLeaf x i) slot ne = tt
beside_is s k (InSession j i) slot ne = λ e. ne (ap (server_of s.trades.trading) e)
beside_is s k (InObject j) slot ne = absurd slot

-- the client's slot is none of the session's
pub awaited_beside : (s : Slots) (k : ℕ) → IsTrading s.trades.trading → IsAwaited s k → IsBeside k (slot_for s k)
awaited_beside s k w a =
    let t = s.trades.trading in
    let b = between_at (length t.leaves) (length t.objects) t.sessions k w.between a.there in
    beside_is s k (slot_for s k) a.slot (λ e. b.apart (sym a.client ∙ e))

pub waiting_seen : (s : Slots) (k : ℕ) → IsAwaited s k → slot_of s (slot_for s k) ≡ world.Waiting k
waiting_seen s k a = ap (seen (memory_of s (holder s (slot_for s k)))) a.waits

-- one of all frames
abbrev pub some_frame : Frame
some_frame = record {
  names = [];
  leaf = λ x. record {
    phase = Running;
    current = None;
    reacting = None;
    todo = Done;
    loops = [];
    operands = [];
    locals = [];
    slots = [];
    peaks = [];
    steps = 0;
    inputs = [];
    signals = [];
  };
}

-- what stands in the client's slot once the session has ended
pub still_mark : (s m : Slots) (k : ℕ) → AreLawful s → AreLawful m → IsAwaited s k → EndsSession s m k → IsMark (content_at m (slot_for s k))
still_mark s m k l n a e =
    let f = some_frame in
    let p = slot_for s k in
    let b = awaited_beside s k l.trading a in
    let now = n.read f p (e.slot_ids p b a.slot_id) in
    let was = ap (λ w. world.slot_at w (slot_id_seen p)) (e.seen_so f) ∙ (beside_stays (world_seen f s) k p b ∙ l.read f p a.slot_id) in
    let same : Some (slot_of m p) ≡ Some (slot_of s p) = sym now ∙ was in
    let slots : slot_of m p ≡ slot_of s p = cc in
    waiting_mark (memory_of m (holder m p)) (content_at m p) k (slots ∙ waiting_seen s k a)

-- the same system still goes with the slots
pub still_of : (system : System) (f : Frame) (s m : Slots) → AreLawful s → AreLawful m → m.trades.nodes ≡ s.trades.nodes
    → m.trades.trading.leaves ≡ s.trades.trading.leaves → m.trades.trading.ledger.price ≡ s.trades.trading.ledger.price
    → IsOf system f s → IsOf system f m
still_of system f s m l n nodes leaves price o = record {
  count = o.count ∙ own;
  counted = o.counted ∙ ap counted_at (sym price);
  quanta = λ x c there. ap (λ n. n.quantum) (at x) ∙ o.quanta x c there;
  stages = λ x lt. ap (λ n. n.stage) (at x) ∙ o.stages x (omega (arith, lt, own));
}
  where
    own : length s.own ≡ length m.own
    own = l.count ∙ (ap length (sym leaves) ∙ sym n.count)

    at : (x : ℕ) → node_at m.trades.nodes (node_of m.trades.trading x) ≡ node_at s.trades.nodes (node_of s.trades.trading x)
    at x = λ i. node_at (nodes i) (get_or (leaves i) x 0)

-- THE REPLY

module _ (f : Frame) (d : Doing) (s : Slots) (k : ℕ) (q : world.Session) (at : world.session_at d.world k ≡ Some q)
    (h : GoesOn d q (λ operands. operands) f s) (l : AreLawful s) (a : IsAwaited s k) where
  abbrev st : Store
  st = memory_of s (server_of s.trades.trading k)

  all_is : all_empty q.slots ≡ are_empty (session_at s.trades.trading k).slots
  all_is = ap (λ y. all_empty y.slots) (is_kept f d s k q (λ operands. operands) at h a.there) ∙ all_empty_seen st (session_at s.trades.trading k).slots

  abbrev left : world.World
  left = with_slot (standing d (serving d.leaf)) q.slot_id world.Empty

  abbrev ended : world.World
  ended = with_slot (ending (world_seen f s) k) (slot_id_seen (slot_for s k)) world.Empty

  abbrev closing : Bool → world.World → Stepped
  closing b w = when b WrongKind (if_paid d.system w Quiet)

  reads : world.slot_at (world_seen f s) (slot_id_seen (slot_for s k)) ≡ Some (slot_of s (slot_for s k))
  reads = l.read f (slot_for s k) a.slot_id

  ended_is : unblocked (ending left k) q.client (λ operands. operands) ≡ ended
  ended_is =
      going_ending left k q.client (λ operands. operands)
      ∙ (ap (λ w. ending w k) (going_slot q.client (λ operands. operands) (standing d (serving d.leaf)) q.slot_id world.Empty
      ∙ (ap (λ w. with_slot w q.slot_id world.Empty) h
      ∙ ap (λ p. with_slot (world_seen f s) p world.Empty) (slot_id_is f d s k q (λ operands. operands) at h a.there)))
      ∙ sym (slot_ending (world_seen f s) k (slot_id_seen (slot_for s k)) (slot_of s (slot_for s k)) world.Empty reads))

  close_is : (b : Bool) → are_empty (session_at s.trades.trading k).slots ≡ b → reply_close d k q ≡ closing b ended
  close_is b e = λ i. closing ((all_is ∙ e) i) (ended_is i)

  pub close_wrong : are_empty (session_at s.trades.trading k).slots ≡ false → reply_close d k q ≡ Err WrongKind
  close_wrong e = close_is false e

  price_same : (r : Resource) → slot_price r world.Empty ≡ slot_price r (slot_of s (slot_for s k))
  price_same r = ap (slot_price r) (sym (waiting_seen s k a))

  ended_paid : paid d.system ended ≡ paid d.system (ending (world_seen f s) k)
  ended_paid =
      marked_paid d.system (ending (world_seen f s) k) (slot_id_seen (slot_for s k)) (slot_of s (slot_for s k)) world.Empty
      (beside_stays (world_seen f s) k (slot_for s k) (awaited_beside s k l.trading a) ∙ reads) price_same

  module _ (e : are_empty (session_at s.trades.trading k).slots ≡ true) where
    close_paid : (b : Bool) → paid d.system (ending (world_seen f s) k) ≡ b → reply_close d k q ≡ when b ExceededQuota (Ok (ended, Quiet))
    close_paid b p = close_is true e ∙ ap (λ y. when y ExceededQuota (Ok (ended, Quiet))) (ended_paid ∙ p)

    -- what was given can't be paid back
    pub close_refused : AreSound s.trades.trading → IsOf d.system f s
        → ((session_at s.trades.trading k).donation.ram ≤ bytes_then s.trades.trading k
        → caps_then s.trades.trading k < (session_at s.trades.trading k).donation.caps) → reply_close d k q ≡ Err ExceededQuota
    close_refused sound o only = close_paid false (elim (cases_lt (bytes_then t k) (session_at t k).donation.ram) [
      | inl lt ↦ unpaid_ending d.system f s l o k a.there empty (object_no_pool (session_at t k).object (object_at k t.sessions sound.objects)) lt
      | inr le ↦ unpaid_ending_caps d.system f s l o k a.there empty (only le)
    ])
      where
        t : Trading
        t = s.trades.trading

        empty : (i : ℕ) → i < length (session_at t k).slots → content_at s (InSession k i) ≡ content.Empty
        empty i lt = empty_each (session_at t k).slots e i

    -- the session has ended
    pub close_done : (m n : Slots) → IsOf d.system f s → AreLawful m → EndsSession s m k → PutsSlot m n (slot_for s k) world.Empty
        → reply_close d k q ≡ Ok (world_seen f n, Quiet)
    close_done m n o lm ends puts =
        let price = ends.closes.frees.others.whole.0 in
        let om = still_of d.system f s m l lm ends.nodes ends.leaves (ap (λ (y : Trading). y.ledger.price) ends.closes.is ∙ price) o in
        let p : paid d.system (ending (world_seen f s) k) ≡ true = ap (paid d.system) (sym (ends.seen_so f)) ∙ all_paid d.system f m lm om in
        close_paid true p
        ∙ ap (λ w. Ok (w, Quiet)) (ap (λ w. with_slot w (slot_id_seen (slot_for s k)) world.Empty) (sym (ends.seen_so f)) ∙ sym (puts.seen_so f))
