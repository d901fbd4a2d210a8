-- A leaf that has no link and provides no service, and is not blocked, has no session.
use Rattle.std.proofs.Common.{◌≡◌, ℕ, ◌<◌, ◌⊎◌, inl, inr, Some, sym, ap, subst, ◌∙◌}
use Rattle.gq_model.specs.declared.phase.Phase.{Phase}
use Rattle.gq_model.specs.declared.phase.Phase.TheVariants.{Blocked, Running}
use Rattle.gq_model.specs.machine.Scenario.{System}
use Rattle.gq_laws.specs.Session_links.{IsLinkedWorld, outline}
use Rattle.gq_trade.specs.Numbers.{IsTaken}
use Rattle.gq_contents.specs.declared.content.Content.TheVariants as content
use Rattle.gq_trade.specs.declared.session.SlotId.{SlotId}
use Rattle.gq_trade.specs.declared.session.SlotId.TheVariants.{InLeaf, InSession, InObject}
use Rattle.gq_trade.specs.Trading.{client_of, server_of, session_at}
use Rattle.gq_trade.specs.Leaf_ends.{HasNoSessions}
use Rattle.gq_slots.specs.Slots.{AreLong, Frame, IsSlot, IsSlotId, Slots, holder, content_at, world_seen}
use Rattle.gq_statements.specs.Systems.{AreLawful}
use Rattle.gq_statements.specs.Linked.{IsAtRest, IsAwaited, ProvidesNothing}
use Rattle.gq_statements.proofs.linked.Stored_world_links.{seen_at, session_has}
use Rattle.gq_statements.proofs.linked.Standing_sessions.{in_slot, pending, stands_as}

pub awake : (p : Phase) → p ≡ Running → p ≡ Blocked → ⊥
awake p a b = two (sym a ∙ b)
  where
    two : Running ≡ Blocked → ⊥
    two e = cc

module _ (system : System) (f : Frame) (s : Slots) (l : AreLawful s) (h : IsLinkedWorld system (world_seen f s)) where
  -- to a leaf that provides no service there is no session
  pub no_service : (x : ℕ) → ProvidesNothing system x → (k : ℕ) → IsTaken s.trades.trading.sessions k → server_of s.trades.trading k ≡ x → ⊥
  no_service x none k there e =
      let r = h.routed k (outline (seen_at f s k)) (session_has f s k there) in
      none (client_of s.trades.trading k) r.0 (seen_at f s k).service r.1 (r.2 ∙ ap Some e)

  module _ (long : AreLong s) (x : ℕ) (awake : (f.leaf x).phase ≡ Blocked → ⊥)
      (no_link : (i k : ℕ) → i < 64 → content_at s (InLeaf x i) ≡ content.Link k → ⊥) (none : ProvidesNothing system x) where
    not_client : (k : ℕ) → IsTaken s.trades.trading.sessions k → client_of s.trades.trading k ≡ x → ⊥
    not_client k there e = go (stands_as system f s l h k there)
      where
        at_slot_id : (p : SlotId) → IsSlotId s p → IsSlot p → holder s p ≡ client_of s.trades.trading k → content_at s p ≡ content.Link k → ⊥
        at_slot_id (InLeaf y i) is slot holds link =
            no_link i k is.1 (sym (ap (λ z. content_at s (InLeaf z i)) (holds ∙ e)) ∙ link)
        at_slot_id (InSession j i) is slot holds link = no_service x none j is.0 (holds ∙ e)
        at_slot_id (InObject j) is slot holds link = absurd slot

        go : (IsAtRest f s k × (content_at s (session_at s.trades.trading k).slot_id ≡ content.Link k)) ⊎
            (IsAwaited f s k × (pending system f s l h k there ≡ 1))
            → ⊥
        go (inl a) =
            let i = in_slot system f s l h k there long in
            at_slot_id (session_at s.trades.trading k).slot_id i.there i.slot i.holder_is a.1
        go (inr a) = awake (subst (λ y. (f.leaf y).phase ≡ Blocked) e a.0.blocked)

    pub no_sessions : HasNoSessions s.trades.trading x
    no_sessions k there = (not_client k there, no_service x none k there)
