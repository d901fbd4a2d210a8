-- Where sessions stand: each in a slot of its client, which reports how it stands.
use Rattle.std.proofs.Common.{◌≡◌, ℕ, ◌+◌, ◌<◌, ◌≤◌, ◌⊎◌, inl, inr, true, false, length, map, Option, Some, None, refl, sym, ap, subst, ◌∙◌, arith}
use Rattle.std.proofs.lemmas.Bool.Decides.{eqb_tells}
use Rattle.gq_model.specs.declared.phase.Phase.TheVariants.{Blocked}
use Rattle.gq_model.specs.machine.Scenario.{System}
use Rattle.gq_model.specs.machine.World as world
use Rattle.gq_model.proofs.Small_facts.{not_both, some_same}
use Rattle.gq_laws.specs.Session_links.{Belongs, IsLinkedWorld, Leads, Links, Naming, Stance, Stands, Waits, at_current, by_current, links, named, naming}
use Rattle.gq_laws.specs.Session_links.{naming_in}
use Rattle.gq_laws.specs.Session_links.{outline}
use Rattle.gq_laws.specs.Session_links.{pending_of, requests_of, stance}
use Rattle.gq_trade.specs.Numbers.{IsTaken}
use Rattle.gq_trade.specs.Seen_requests.{request_seen}
use Rattle.gq_contents.specs.declared.content.Content.TheVariants as content
use Rattle.gq_contents.specs.Contents.{seen}
use Rattle.gq_trade.specs.declared.session.SlotId.{SlotId}
use Rattle.gq_trade.specs.declared.session.SlotId.TheVariants.{InLeaf, InSession, InObject}
use Rattle.gq_trade.specs.Seen_sessions.{slot_id_seen}
use Rattle.gq_trade.specs.Trading.{client_of, server_of, session_at}
use Rattle.gq_trade.proofs.Sessions_kept.{between_at}
use Rattle.gq_slots.specs.Slots.{AreLong, Frame, IsMark, IsSlot, IsSlotId, Slots, holder, memory_of, slot_of, content_at, world_seen}
use Rattle.gq_statements.specs.Systems.{AreLawful}
use Rattle.gq_statements.specs.Linked.{IsAtRest, IsAwaited, IsInSlot, IsOfOther, IsSlotOf, Names, ShowsSession}
use Rattle.gq_statements.proofs.linked.Stored_world_links.{link_is, none_of, of_none, same_slot_ids, says_stored, seen_at, session_has, session_is}
use Rattle.gq_statements.proofs.linked.Stored_world_links.{slot_id_says, stance_is}
use Rattle.gq_statements.proofs.linked.Stored_world_links.{waiting_is}

-- HANDS

other_current : (k : ℕ) (current : Option world.Current) → by_current k current ≡ 0 → IsOfOther k current
other_current k None e = tt
other_current k (Some current) e = elim (eqb_tells current.session k) [
  | inl t ↦ absurd (let g : 1 ≡ 0 = rw t.0 at e in omega (arith, g))
  | inr n ↦ n.1
]

no_current : (k : ℕ) (current : Option world.Current) → IsOfOther k current → by_current k current ≡ 0
no_current k None o = refl
no_current k (Some current) o = elim (eqb_tells current.session k) [ inl t ↦ absurd (o t.1) | inr n ↦ rw n.0 refl ]

module _ (system : System) (f : Frame) (s : Slots) (l : AreLawful s) (h : IsLinkedWorld system (world_seen f s)) where
  abbrev all : Links
  all = links (world_seen f s)

  -- SLOTS

  says : (p : SlotId) → IsSlotId s p → all.slots (slot_id_seen p) ≡ naming (slot_of s p)
  says p there = ap naming_in (l.read f p there)

  owned : (p : SlotId) (client : ℕ) → Belongs all (slot_id_seen p) client → (client ≡ holder s p) × IsSlot p
  owned (InLeaf x i) client b = (sym b, tt)
  owned (InSession j i) client b = let c = session_is f s j b.0 b.1 in (sym b.3 ∙ ap (λ (z : world.Session). z.server) c.1, tt)
  owned (InObject j) client b = absurd b

  -- a slot that names a session is that session's
  named_is : (p : SlotId) (n : Naming) → all.slots (slot_id_seen p) ≡ Some n → IsSlotOf s p (named n)
  named_is p n e =
      let a = h.named (slot_id_seen p) n e in
      let b = session_is f s (named n) a.0 a.1 in
      let at : slot_id_seen (session_at s.trades.trading (named n)).slot_id ≡ slot_id_seen p = sym (ap (λ (z : world.Session). z.slot_id) b.1) ∙ a.2 in
      let its : a.0.client ≡ client_of s.trades.trading (named n) = ap (λ (z : world.Session). z.client) b.1 in
      let own = owned p a.0.client (subst (λ q. Belongs all q a.0.client) a.2 (h.belongs (named n) a.0 a.1)) in
      record {
        there = b.0;
        slot_id = same_slot_ids (session_at s.trades.trading (named n)).slot_id p at;
        client = sym its ∙ own.0;
        slot = own.1;
      }

  pub slot_of_session : (p : SlotId) (k : ℕ) → IsSlotId s p → Names (content_at s p) k → IsSlotOf s p k
  slot_of_session p k there (inl e) =
      named_is p (Leads k) (says p there ∙ ap (λ t. naming (seen (memory_of s (holder s p)) t)) e)
  slot_of_session p k there (inr e) =
      named_is p (Waits k) (says p there ∙ ap (λ t. naming (seen (memory_of s (holder s p)) t)) e)

  -- SESSIONS

  pub server_below : (k : ℕ) → IsTaken s.trades.trading.sessions k → server_of s.trades.trading k < length s.own
  server_below k there =
      let t = s.trades.trading in
      let b = between_at (length t.leaves) (length t.objects) t.sessions k l.trading.between there in
      omega (arith, b.server, l.count)

  pub client_below : (k : ℕ) → IsTaken s.trades.trading.sessions k → client_of s.trades.trading k < length s.own
  client_below k there =
      let t = s.trades.trading in
      let b = between_at (length t.leaves) (length t.objects) t.sessions k l.trading.between there in
      omega (arith, b.client, l.count)

  module _ (k : ℕ) (there : IsTaken s.trades.trading.sessions k) where
    -- the requests of the session that wait, and the one current at its server
    abbrev pub pending : ℕ
    pending = requests_of k (map request_seen s.trades.trading.requests) + by_current k (f.leaf (server_of s.trades.trading k)).current

    pending_is : pending_of all k (outline (seen_at f s k)) ≡ pending
    pending_is =
        ap (λ o. requests_of k (map request_seen s.trades.trading.requests) + at_current k o)
        (stance_is f s (server_of s.trades.trading k) l (server_below k there))

    rests : (session_at s.trades.trading k).accepted ≡ true → pending ≡ 0 → IsAtRest f s k
    rests accepted none = record {
      accepted = accepted;
      none_waits = none_of k s.trades.trading.requests (omega (arith, none));
      not_current = other_current k (f.leaf (server_of s.trades.trading k)).current (omega (arith, none));
    }

    no_rest : pending ≡ 1 → IsAtRest f s k → ⊥
    no_rest one r =
        let a = of_none k s.trades.trading.requests r.none_waits in
        let b = no_current k (f.leaf (server_of s.trades.trading k)).current r.not_current in
        omega (arith, one, a, b)

    -- a session that is not accepted is not current anywhere, and so a request of it waits
    fresh_current : (session_at s.trades.trading k).accepted ≡ false → (o : Option world.Current) → (f.leaf (server_of s.trades.trading k)).current ≡ o
        → by_current k o ≡ 0
    fresh_current fresh None e = refl
    fresh_current fresh (Some g) e = elim (eqb_tells g.session k) [ inl t ↦ absurd (current_of t.1) | inr n ↦ rw n.0 refl ]
      where
        current_of : g.session ≡ k → ⊥
        current_of same =
            let x = server_of s.trades.trading k in
            let a = h.handles x (f.leaf x).phase g (stance_is f s x l (server_below k there) ∙ ap (λ o. Some (stance (f.leaf x).phase o)) e) in
            let b = session_is f s g.session a.0 a.1 in
            not_both (session_at s.trades.trading k).accepted (ap (λ j. (session_at s.trades.trading j).accepted) (sym same)
            ∙ (sym (ap (λ (z : world.Session). z.accepted) b.1) ∙ a.3)) fresh

    pub fresh_asks : (session_at s.trades.trading k).accepted ≡ false → 1 ≤ requests_of k (map request_seen s.trades.trading.requests)
    fresh_asks fresh = go (h.stands k (outline (seen_at f s k)) (session_has f s k there))
      where
        go : Stands all k (outline (seen_at f s k)) → 1 ≤ requests_of k (map request_seen s.trades.trading.requests)
        go (inl a) = absurd (not_both (session_at s.trades.trading k).accepted a.1 fresh)
        go (inr a) =
            let none = fresh_current fresh (f.leaf (server_of s.trades.trading k)).current refl in
            let one : pending ≡ 1 = sym pending_is ∙ a.1 in
            omega (arith, one, none)

    blocked_is : all.slots (slot_id_seen (session_at s.trades.trading k).slot_id) ≡ Some (Waits k) → (f.leaf (client_of s.trades.trading k)).phase ≡ Blocked
    blocked_is e =
        let a = h.waits k (outline (seen_at f s k)) (session_has f s k there) e in
        let b = stance_is f s (client_of s.trades.trading k) l (client_below k there) in
        ap (λ (t : Stance). t.phase) (some_same (sym b ∙ a.1))

    -- a session is at rest and its slot leads to it, or it has one request and is awaited
    pub stands_as : (IsAtRest f s k × (content_at s (session_at s.trades.trading k).slot_id ≡ content.Link k)) ⊎ (IsAwaited f s k × (pending ≡ 1))
    stands_as = go (h.stands k (outline (seen_at f s k)) (session_has f s k there))
      where
        go : Stands all k (outline (seen_at f s k))
            → (IsAtRest f s k × (content_at s (session_at s.trades.trading k).slot_id ≡ content.Link k)) ⊎ (IsAwaited f s k × (pending ≡ 1))
        go (inl a) =
            let p = (session_at s.trades.trading k).slot_id in
            inl (rests a.1 (sym pending_is ∙ a.2), link_is (memory_of s (holder s p)) (content_at s p) k (says_stored f s p (Leads k) a.0))
        go (inr a) =
            let p = (session_at s.trades.trading k).slot_id in
            inr (
              record {
                there = there;
                waits = waiting_is (memory_of s (holder s p)) (content_at s p) k (says_stored f s p (Waits k) a.0);
                blocked = blocked_is a.0;
              },
              sym pending_is ∙ a.1,
            )

    -- with a request it is awaited
    pub awaited : 1 ≤ pending → IsAwaited f s k × (pending ≡ 1)
    awaited some = go stands_as
      where
        go : (IsAtRest f s k × (content_at s (session_at s.trades.trading k).slot_id ≡ content.Link k)) ⊎ (IsAwaited f s k × (pending ≡ 1))
            → IsAwaited f s k × (pending ≡ 1)
        go (inl a) =
            let b = of_none k s.trades.trading.requests a.0.none_waits in
            let c = no_current k (f.leaf (server_of s.trades.trading k)).current a.0.not_current in
            absurd (omega (arith, some, b, c))
        go (inr a) = a

    slot_id_there : AreLong s → IsSlotId s (session_at s.trades.trading k).slot_id
    slot_id_there long = go (h.stands k (outline (seen_at f s k)) (session_has f s k there))
      where
        go : Stands all k (outline (seen_at f s k)) → IsSlotId s (session_at s.trades.trading k).slot_id
        go (inl a) = slot_id_says f s (session_at s.trades.trading k).slot_id (Leads k) long a.0
        go (inr a) = slot_id_says f s (session_at s.trades.trading k).slot_id (Waits k) long a.0

    pub in_slot : AreLong s → IsInSlot f s k
    in_slot long = go stands_as
      where
        of_content : Names (content_at s (session_at s.trades.trading k).slot_id) k → ShowsSession f s k (content_at s (session_at s.trades.trading k).slot_id)
            → IsMark (content_at s (session_at s.trades.trading k).slot_id) → IsInSlot f s k
        of_content names reports mark =
            let is = slot_of_session (session_at s.trades.trading k).slot_id k (slot_id_there long) names in
            record { there = slot_id_there long; slot = is.slot; holder_is = sym is.client; reports = reports; mark = mark }

        go : (IsAtRest f s k × (content_at s (session_at s.trades.trading k).slot_id ≡ content.Link k)) ⊎ (IsAwaited f s k × (pending ≡ 1)) → IsInSlot f s k
        go (inl a) = of_content (inl a.1) (inl a) (subst IsMark (sym a.1) tt)
        go (inr a) = of_content (inr a.0.waits) (inr (no_rest a.1, a.0.waits)) (subst IsMark (sym a.0.waits) tt)

  -- a slot that waits is of a session that is awaited
  pub awaited_at : (p : SlotId) (k : ℕ) → IsSlotId s p → content_at s p ≡ content.Waiting k → IsAwaited f s k
  awaited_at p k is e = go (stands_as k there)
    where
      there : IsTaken s.trades.trading.sessions k
      there = (slot_of_session p k is (inr e)).there

      apart : content.Link k ≡ content.Waiting k → ⊥
      apart q = cc

      go : (IsAtRest f s k × (content_at s (session_at s.trades.trading k).slot_id ≡ content.Link k)) ⊎ (IsAwaited f s k × (pending k there ≡ 1)) → IsAwaited f
          s k
      go (inl a) = absurd (apart (sym a.1 ∙ ap (content_at s) (slot_of_session p k is (inr e)).slot_id ∙ e))
      go (inr a) = a.0
