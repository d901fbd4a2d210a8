-- Requests of the abstract machine, and the slots whose world is then the machine's.
use Rattle.std.proofs.Common.{◌≡◌, ℕ, inl, inr, true, false, List, ◌∷◌, Option, Some, None, refl, sym, ap, ◌∙◌}
use Rattle.std.specs.Prelude.{Ok, Err}
use Rattle.std.proofs.lemmas.Bool.Decides.{eqb_tells}
use Rattle.gq_tariff.specs.declared.amount.Amount.{Amount}
use Rattle.gq_model.specs.declared.phase.Phase.TheVariants as phase
use Rattle.gq_model.specs.declared.program.OperandSlot.{OperandSlot}
use Rattle.gq_model.specs.declared.fault.Wrong.TheVariants.{ExceededQuota, WrongKind}
use Rattle.gq_model.specs.machine.Amounts.{amount, plus}
use Rattle.gq_model.specs.machine.Doing.{Doing, Quiet, Stepped, if_paid, need, pop, standing, when, with_operands}
use Rattle.gq_model.specs.machine.Requests.{asked, call, close, link_at, link_in, upgrade}
use Rattle.gq_model.specs.machine.Scenario.{interface_in, upgrade_caps}
use Rattle.gq_model.specs.machine.Sums.{paid}
use Rattle.gq_model.specs.machine.World as world
use Rattle.gq_laws.proofs.session_links.Written_world_links.{session_else, session_here}
use Rattle.gq_trade.specs.declared.session.SlotId.{SlotId}
use Rattle.gq_trade.specs.Seen_sessions.{slot_id_seen}
use Rattle.gq_slots.specs.Slots.{Frame, Slots, world_seen}
use Rattle.gq_slots.specs.Calls.{PutsSlot}
use Rattle.gq_slots.specs.Session_calls.{asking, more_for, upgrading}
use Rattle.gq_statements.proofs.Price_neutral_changes.{marked_paid, slot_asking}
use Rattle.gq_statements.specs.Client_requests.{Blocks, IsNextLevel, leads_from, leads_to, session_named}
use Rattle.gq_statements.specs.internal.Named_slots.{IsLinkedAt}

abbrev Go : Type 0
Go = world.SlotId → ℕ → world.Session → Stepped

-- WHICH LINK IS NAMED

no_link : (w : world.World) (o : Option world.Slot) (go : ℕ → world.Session → Stepped) → leads_to o ≡ None → link_in w o go ≡ Err WrongKind
no_link w None go e = refl
no_link w (Some world.Empty) go e = refl
no_link w (Some (world.Bytes f n bytes)) go e = refl
no_link w (Some (world.Pool n entries)) go e = refl
no_link w (Some (world.Link k)) go e = cc
no_link w (Some (world.Waiting k)) go e = refl

none_linked : (d : Doing) (place : OperandSlot) (go : Go) → session_named d place ≡ None → link_at d place go ≡ Err WrongKind
none_linked d place go e = by (world.slot_id_of d.x d.leaf.current place) e
  where
    by : (o : Option world.SlotId) → leads_from d.world o ≡ None
        → need o WrongKind (λ slot_id. link_in d.world (world.slot_at d.world slot_id) (go slot_id)) ≡ Err WrongKind
    by None f = refl
    by (Some p) f = no_link d.world (world.slot_at d.world p) (go p) f

module _ (d : Doing) (place : OperandSlot) (p : SlotId) (k : ℕ) (l : IsLinkedAt d place (Some (p, k))) where
  one_linked : (q : world.Session) (go : Go) → world.session_at d.world k ≡ Some q → link_at d place go ≡ go (slot_id_seen p) k q
  one_linked q go e =
      ap (λ o. need o WrongKind (λ slot_id. link_in d.world (world.slot_at d.world slot_id) (go slot_id))) l.0
      ∙ (ap (λ o. link_in d.world o (go (slot_id_seen p))) l.1 ∙ ap (λ o. need o WrongKind (go (slot_id_seen p) k)) e)

  pub named_so : session_named d place ≡ Some k
  named_so = ap (leads_from d.world) l.0 ∙ ap leads_to l.1

-- A LEAF THAT WAITS

module _ (d : Doing) (w : world.World) (p : world.SlotId) (k : ℕ) (ask : world.Ask) where
  abbrev then : world.World
  then = asking (world.with_leaf w d.x (record d.leaf { phase = phase.Blocked })) k ask

  -- it is paid for or not as the world without the mark is
  asked_is : asked d w p k ask ≡ if_paid d.system (world.with_slot then p (world.Waiting k)) Quiet
  asked_is =
      ap (λ y. if_paid d.system y Quiet)
      (sym (slot_asking (world.with_leaf w d.x (record d.leaf { phase = phase.Blocked })) p (world.Waiting k) k ask))

  pub asked_paid : (v : world.World) → world.with_slot then p (world.Waiting k) ≡ v → paid d.system v ≡ true → asked d w p k ask ≡ Ok (v, Quiet)
  asked_paid v e h = asked_is ∙ (ap (λ y. if_paid d.system y Quiet) e ∙ ap (λ b. when b ExceededQuota (Ok (v, Quiet))) h)

  pub asked_unpaid : (v : world.World) → world.with_slot then p (world.Waiting k) ≡ v → paid d.system v ≡ false → asked d w p k ask ≡ Err ExceededQuota
  asked_unpaid v e h = asked_is ∙ (ap (λ y. if_paid d.system y Quiet) e ∙ ap (λ b. when b ExceededQuota (Ok (v, Quiet))) h)

-- the world of slots in which the slot p waits
waits_in : (f : Frame) (v : world.World) (s t : Slots) (p : SlotId) (k : ℕ) → v ≡ world_seen f s → PutsSlot s t p (world.Waiting k)
    → world.with_slot v (slot_id_seen p) (world.Waiting k) ≡ world_seen f t
waits_in f v s t p k e puts = ap (λ y. world.with_slot y (slot_id_seen p) (world.Waiting k)) e ∙ sym (puts.seen_so f)

-- CLOSE AND CALL

pub close_none : (d : Doing) (place : OperandSlot) → session_named d place ≡ None → close d place ≡ Err WrongKind
close_none d place e = none_linked d place (λ slot_id k s. asked d d.world slot_id k world.Ask_close) e

abbrev calling : Doing → OperandSlot → ℕ → List ℕ → Stepped
calling d place a rest =
    let e : Doing = record d { leaf = with_operands d rest } in
    link_at e place (λ slot_id k s. asked e d.world slot_id k (world.Ask_call a))

call_is : (d : Doing) (place : OperandSlot) (a : ℕ) (rest : List ℕ) → d.leaf.operands ≡ a ∷ rest → call d place ≡ calling d place a rest
call_is d place a rest e = ap (λ l. pop l (calling d place)) e

pub call_none : (d : Doing) (place : OperandSlot) (a : ℕ) (rest : List ℕ) → d.leaf.operands ≡ a ∷ rest → session_named d place ≡ None
    → call d place ≡ Err WrongKind
call_none d place a rest e n =
    let f : Doing = record d { leaf = with_operands d rest } in
    call_is d place a rest e ∙ none_linked f place (λ slot_id k s. asked f d.world slot_id k (world.Ask_call a)) n

module _ (d : Doing) (place : OperandSlot) (p : SlotId) (k : ℕ) (l : IsLinkedAt d place (Some (p, k))) (before after : Frame) (s u t : Slots)
    (q : world.Session) (there : world.session_at (world_seen before s) k ≡ Some q) (puts : PutsSlot u t p (world.Waiting k))
    (whole : paid d.system (world_seen after t) ≡ true) where
  pub close_some : Blocks d d.leaf before after s → world_seen after u ≡ asking (world_seen after s) k world.Ask_close
      → close d place ≡ Ok (world_seen after t, Quiet)
  close_some b e =
      one_linked d place p k l q (λ slot_id j z. asked d d.world slot_id j world.Ask_close) (ap (λ w. world.session_at w k) b.world_before ∙ there)
      ∙ asked_paid d d.world (slot_id_seen p) k world.Ask_close (world_seen after t)
      (waits_in after _ u t p k (ap (λ y. asking y k world.Ask_close) b.world_after ∙ sym e) puts) whole

  pub call_some : (a : ℕ) (rest : List ℕ) → d.leaf.operands ≡ a ∷ rest → Blocks d (with_operands d rest) before after s
      → world_seen after u ≡ asking (world_seen after s) k (world.Ask_call a) → call d place ≡ Ok (world_seen after t, Quiet)
  call_some a rest o b e =
      let f : Doing = record d { leaf = with_operands d rest } in
      call_is d place a rest o
      ∙ (one_linked f place p k l q (λ slot_id j z. asked f d.world slot_id j (world.Ask_call a)) (ap (λ w. world.session_at w k) b.world_before ∙ there)
      ∙ asked_paid f d.world (slot_id_seen p) k (world.Ask_call a) (world_seen after t)
      (waits_in after _ u t p k (ap (λ y. asking y k (world.Ask_call a)) b.world_after ∙ sym e) puts) whole)

-- UPGRADE

pub upgrade_none : (d : Doing) (place : OperandSlot) (n : ℕ) → session_named d place ≡ None → upgrade d place n ≡ Err WrongKind
upgrade_none d place n e =
    none_linked d place (λ slot_id k s.
    asked d (world.with_session d.world k (record s {
      donation = plus s.donation (amount n (upgrade_caps (interface_in s.service d.system.interfaces) s.level));
    })) slot_id k world.Ask_upgrade) e

-- more that is given for a session changes no slot
more_slot : (w : world.World) (k : ℕ) (n : Amount) (q : world.Session) → world.session_at w k ≡ Some q → (p : world.SlotId)
    → world.slot_at (world.with_session w k (record q { donation = plus q.donation n })) p ≡ world.slot_at w p
more_slot w k n q there (world.In_leaf x i) = refl
more_slot w k n q there (world.In_session j i) =
    let r : world.Session = record q { donation = plus q.donation n } in
    elim (eqb_tells j k) [
      | inl e ↦ ap (λ y. world.session_slot (world.session_at (world.with_session w k r) y) i) e.1
          ∙ (ap (λ o. world.session_slot o i) (session_here w k q r there)
          ∙ (sym (ap (λ o. world.session_slot o i) there) ∙ ap (λ y. world.session_slot (world.session_at w y) i) (sym e.1)))
      | inr e ↦ ap (λ o. world.session_slot o i) (session_else w k j r e.1)
    ]
more_slot w k n q there (world.In_object j) =
    let r : world.Session = record q { donation = plus q.donation n } in
    elim (eqb_tells j k) [
      | inl e ↦ ap (λ y. world.session_object (world.session_at (world.with_session w k r) y)) e.1
          ∙ (ap world.session_object (session_here w k q r there)
          ∙ (sym (ap world.session_object there) ∙ ap (λ y. world.session_object (world.session_at w y)) (sym e.1)))
      | inr e ↦ ap world.session_object (session_else w k j r e.1)
    ]

pub upgraded_slot : (w : world.World) (k : ℕ) (n : Amount) (q : world.Session) (p : world.SlotId) → world.session_at w k ≡ Some q
    → world.slot_at (upgrading w k n) p ≡ world.slot_at w p
upgraded_slot w k n q p there =
    ap (λ o. world.slot_at (more_for w k n o) p) there ∙ more_slot w k n q there p

module _ (d : Doing) (place : OperandSlot) (p : SlotId) (k : ℕ) (l : IsLinkedAt d place (Some (p, k))) (before after : Frame) (s : Slots)
    (q : world.Session) (there : world.session_at (world_seen before s) k ≡ Some q) (b : Blocks d d.leaf before after s) (n : ℕ) (more : Amount)
    (next : IsNextLevel d place n more) where
  stands : world.session_at d.world k ≡ Some q
  stands = ap (λ w. world.session_at w k) b.world_before ∙ there

  abbrev richer : Amount → world.World
  richer m = world.with_session d.world k (record q { donation = plus q.donation m })

  upgrade_is : upgrade d place n ≡ asked d (richer more) (slot_id_seen p) k world.Ask_upgrade
  upgrade_is =
      one_linked d place p k l q (λ slot_id j z.
      asked d (world.with_session d.world j (record z {
        donation = plus z.donation (amount n (upgrade_caps (interface_in z.service d.system.interfaces) z.level));
      })) slot_id j world.Ask_upgrade) stands
      ∙ ap (λ m. asked d (richer m) (slot_id_seen p) k world.Ask_upgrade) (sym (next k q (named_so d place p k l) stands))

  upgrading_is : asking (world.with_leaf (richer more) d.x (record d.leaf { phase = phase.Blocked })) k world.Ask_upgrade
      ≡ upgrading (world_seen after s) k more
  upgrading_is =
      ap (λ o. asking (more_for (standing d (record d.leaf { phase = phase.Blocked })) k more o) k world.Ask_upgrade) (sym stands)
      ∙ ap (λ w. upgrading w k more) b.world_after

  pub upgrade_some : (u t : Slots) → world_seen after u ≡ upgrading (world_seen after s) k more → PutsSlot u t p (world.Waiting k)
      → paid d.system (world_seen after t) ≡ true → upgrade d place n ≡ Ok (world_seen after t, Quiet)
  upgrade_some u t e puts whole =
      upgrade_is
      ∙ asked_paid d (richer more) (slot_id_seen p) k world.Ask_upgrade (world_seen after t) (waits_in after _ u t p k (upgrading_is ∙ sym e) puts) whole

  pub upgrade_unpaid : (z : world.Session) → world.session_at (world_seen after s) k ≡ Some z
      → world.slot_at (world_seen after s) (slot_id_seen p) ≡ Some (world.Link k) → paid d.system (upgrading (world_seen after s) k more) ≡ false
      → upgrade d place n ≡ Err ExceededQuota
  upgrade_unpaid z found reads lacks =
      let v = upgrading (world_seen after s) k more in
      upgrade_is
      ∙ asked_unpaid d (richer more) (slot_id_seen p) k world.Ask_upgrade (world.with_slot v (slot_id_seen p) (world.Waiting k))
      (ap (λ y. world.with_slot y (slot_id_seen p) (world.Waiting k)) upgrading_is)
      (marked_paid d.system v (slot_id_seen p) (world.Link k) (world.Waiting k)
      (upgraded_slot (world_seen after s) k more z (slot_id_seen p) found ∙ reads) (λ r. refl) ∙ lacks)
