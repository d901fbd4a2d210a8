-- A leaf that is not blocked names no slot that waits.
use Rattle.std.proofs.Common.{◌≡◌, ◌≢◌, ℕ, Option, Some, None, refl, ap, sym, ◌∙◌, subst}
use Rattle.gq_model.specs.declared.program.OperandSlot.{OperandSlot}
use Rattle.gq_model.specs.declared.program.OperandSlot.TheVariants.{Own, Shared, Object}
use Rattle.gq_model.specs.declared.phase.Phase.TheVariants.{Blocked}
use Rattle.gq_model.specs.machine.World.{SlotId, In_session, Session, Current, slot_id_of}
use Rattle.gq_model.specs.machine.Doing.{Doing}
use Rattle.gq_laws.specs.Session_links.{Waits, naming_in, stance, stance_in, Stance, Links, links, Belongs, IsLinkedWorld}
use Rattle.gq_laws.specs.Inside_steps.{TakesLeaf, IsAwake}
use Rattle.gq_model.proofs.Small_facts.{none_some, some_same}

module _ (d : Doing) (t : TakesLeaf d) (h : IsLinkedWorld d.system d.world) (active : d.leaf.phase ≢ Blocked) where
  abbrev L : Links
  L = links d.world

  stood : L.stances d.x ≡ Some (stance d.leaf.phase d.leaf.current)
  stood = ap stance_in t.there ∙ (λ i. Some (stance (sym t.phase i) (sym t.current i)))

  -- a slot that the leaf names is its own, or one of a current session, of which it is the server
  client_is : (place : OperandSlot) (current : Option Current) (q : SlotId) (client : ℕ) → d.leaf.current ≡ current → slot_id_of d.x current place ≡ Some q
      → Belongs L q client
      → d.x ≡ client
  client_is (Own i) current q client at e b = subst (λ q. Belongs L q client) (sym (some_same e)) b
  client_is (Shared i) None q client at e b = absurd (none_some e)
  client_is (Shared i) (Some g) q client at e b =
      let own : Belongs L (In_session g.session i) client = subst (λ q. Belongs L q client) (sym (some_same e)) b in
      let u = h.handles d.x d.leaf.phase g (stood ∙ ap (λ o. Some (stance d.leaf.phase o)) at) in
      sym u.2 ∙ (ap (λ (s : Session). s.server) (some_same (sym u.1 ∙ own.1)) ∙ own.3)
  client_is Object None q client at e b = absurd (none_some e)
  client_is Object (Some g) q client at e b = absurd (subst (λ q. Belongs L q client) (sym (some_same e)) b)

  pub is_awake : IsAwake d
  is_awake place q k e waits =
      let n : L.slots q ≡ Some (Waits k) = ap naming_in waits in
      let s = h.named q (Waits k) n in
      let there : L.slots s.0.slot_id ≡ Some (Waits k) = ap L.slots s.2 ∙ n in
      let w = h.waits k s.0 s.1 there in
      let mine = client_is place d.leaf.current q s.0.client refl e (subst (λ q. Belongs L q s.0.client) s.2 (h.belongs k s.0 s.1)) in
      active (ap (λ (t : Stance). t.phase) (some_same (sym stood ∙ (ap L.stances mine ∙ w.1))))
