-- Statements on operands, locals and memory change no session, current request or phase, and no slot that names a session.
use Rattle.std.proofs.Common.{◌≡◌, ◌≢◌, ℕ, ◌&&◌, inl, inr, Bool, true, false, not, List, Option, Some, None, Ok, refl, ap, sym, ◌∙◌, subst}
use Rattle.std.specs.Prelude.{slice_get}
use Rattle.gq_model.specs.declared.program.OperandSlot.{OperandSlot}
use Rattle.gq_model.specs.declared.program.OperandSlot.TheVariants.{Own, Shared, Object}
use Rattle.gq_model.specs.declared.program.Instruction.{Instruction}
use Rattle.gq_model.specs.declared.program.Instruction.TheVariants.{Say, Operands, Make, MakePool, Free, Open, Upgrade, Call, Close}
use Rattle.gq_model.specs.declared.fault.Wrong.{Wrong}
use Rattle.gq_model.specs.declared.fault.Wrong.TheVariants.{WrongKind, ExceededQuota}
use Rattle.gq_model.specs.machine.Scenario.{System}
use Rattle.gq_model.specs.machine.World.{Slot, Empty, Bytes, Pool, Link, Waiting, SlotId, In_leaf, In_session, In_object, Session, Current, Leaf, World}
use Rattle.gq_model.specs.machine.World.{session_at, session_object, with_leaf, slot_at, with_slot, slot_id_of}
use Rattle.gq_model.specs.machine.Doing.{Doing, Quiet, Stepped, when, standing, settled, fill}
use Rattle.gq_model.specs.machine.Sums.{paid}
use Rattle.gq_model.specs.machine.Memory.{bytes_in, pool_in, is_memory, is_kept, free, make}
use Rattle.gq_model.specs.machine.Step.{instruct}
use Rattle.gq_laws.specs.Session_links.{naming, naming_in, shape, IsBytes, outline, AreLinked, stance, outline_in, stance_in, Links, links}
use Rattle.gq_model.proofs.Small_facts.{some_same, none_some}
use Rattle.gq_laws.proofs.session_links.Written_world_links.{same_slot_id, leaf_stance, leaf_stances, leaf_keeps_slots, object_there, slot_here, slot_else}
use Rattle.gq_laws.proofs.session_links.Written_world_links.{slot_outlines}
use Rattle.gq_laws.proofs.session_links.Written_world_links.{slot_stances, slot_requests}
use Rattle.gq_laws.proofs.step_shapes.Step_end_shapes.{Ends, gives, fails, need_ends, need_found, when_ends, pop_ends, push_ends, absent_ends}
use Rattle.std.proofs.lemmas.Bool.Decides.{eqb_tells}
use Rattle.gq_laws.specs.Inside_steps.{TakesLeaf}

-- these are the links of the world
pub record Same (l : Links) (w : World) : Type 0 where
  pub slots : (r : SlotId) → naming_in (slot_at w r) ≡ l.slots r
  pub sessions : (j : ℕ) → outline_in (session_at w j) ≡ l.sessions j
  pub stances : (y : ℕ) → stance_in (slice_get w.leaves y) ≡ l.stances y
  pub requests : w.requests ≡ l.requests

pub its_links : (w : World) → Same (links w) w
its_links w = record { slots = λ r. refl; sessions = λ j. refl; stances = λ y. refl; requests = refl }

-- a test that is known to hold
pub when_found : (P : World → Type 0) (b : Bool) (wrong : Wrong) (next : Stepped) → (b ≡ true → Ends P next) → Ends P (when b wrong next)
when_found P true wrong next h = h refl
when_found P false wrong next h = fails wrong

module _ (l : Links) where
  pub same_leaf : (w : World) (x : ℕ) (old leaf : Leaf) → slice_get w.leaves x ≡ Some old → leaf.slots ≡ old.slots → leaf.phase ≡ old.phase
      → leaf.current ≡ old.current → Same l w → Same l (with_leaf w x leaf)
  same_leaf w x old leaf there slots phase current h =
      record {
        slots = λ r. ap naming_in (leaf_keeps_slots w x old leaf there slots r) ∙ h.slots r;
        sessions = h.sessions;
        stances = λ y. (elim (eqb_tells y x) [
          | inl e ↦ ap (λ y. stance_in (slice_get (with_leaf w x leaf).leaves y)) e.1
              ∙ (leaf_stance w x old leaf there ∙ ((λ i. Some (record { phase = phase i; current = current i }))
              ∙ (sym (ap stance_in there) ∙ ap (λ y. stance_in (slice_get w.leaves y)) (sym e.1))))
          | inr e ↦ leaf_stances w x old leaf there y e.1
        ])
            ∙ h.stances y;
        requests = h.requests;
      }

  pub same_put : (w : World) (q : SlotId) (old slot : Slot) → slot_at w q ≡ Some old → naming old ≡ None → naming slot ≡ None
      → ((k : ℕ) → q ≡ In_object k → shape slot ≡ shape old) → Same l w → Same l (with_slot w q slot)
  same_put w q old slot there bare new fits h =
      record {
        slots = λ r. (elim (same_slot_id r q) [
          | inl e ↦ ap (λ r. naming_in (slot_at (with_slot w q slot) r)) e
              ∙ (ap naming_in (slot_here w q slot old there) ∙ (new ∙ (sym bare ∙ (sym (ap naming_in there) ∙ ap (λ r. naming_in (slot_at w r)) (sym e)))))
          | inr e ↦ ap naming_in (slot_else w q slot r e)
        ]) ∙ h.slots r;
        sessions = λ j. slot_outlines w q slot shaped j ∙ h.sessions j;
        stances = λ y. slot_stances w q slot y ∙ h.stances y;
        requests = slot_requests w q slot ∙ h.requests;
      }
    where
      shaped : (k : ℕ) (s : Session) → q ≡ In_object k → session_at w k ≡ Some s → shape slot ≡ shape s.object
      shaped k s at e = fits k at ∙ ap shape (some_same (sym there ∙ ap (slot_at w) at ∙ ap session_object e))

  module _ (P : World → Type 0) where
    pub fill_same : (w : World) (q : SlotId) (slot : Slot) (go : World → Stepped) → naming slot ≡ None → ((k : ℕ) → q ≢ In_object k) → Same l w
        → ((v : World) → Same l v → Ends P (go v)) → Ends P (fill w q (slot_at w q) slot go)
    fill_same w q slot go new other h k = by (slot_at w q) refl
      where
        by : (o : Option Slot) → slot_at w q ≡ o → Ends P (fill w q o slot go)
        by (Some Empty) e = k _ (same_put w q Empty slot e refl new (λ k at. absurd (other k at)) h)
        by _ e = fails _

    pub bytes_same : (w : World) (q : SlotId) (go : List ℕ → (List ℕ → World) → Stepped) → Same l w
        → ((bytes : List ℕ) (put : List ℕ → World) → ((new : List ℕ) → Same l (put new)) → Ends P (go bytes put)) → Ends P (bytes_in w q (slot_at w q) go)
    bytes_same w q go h k = by (slot_at w q) refl
      where
        by : (o : Option Slot) → slot_at w q ≡ o → Ends P (bytes_in w q o go)
        by (Some (Bytes form m bytes)) e = k bytes _ (λ new. same_put w q (Bytes form m bytes) _ e refl refl (λ k at. refl) h)
        by _ e = fails _

    pub pool_same : (w : World) (q : SlotId) (go : ℕ → List (Option (List ℕ)) → (List (Option (List ℕ)) → World) → Stepped) → Same l w
        → ((m : ℕ) (entries : List (Option (List ℕ))) (put : List (Option (List ℕ)) → World) → ((new : List (Option (List ℕ))) → Same l (put new))
        → Ends P (go m entries put)) → Ends P (pool_in w q (slot_at w q) go)
    pool_same w q go h k = by (slot_at w q) refl
      where
        by : (o : Option Slot) → slot_at w q ≡ o → Ends P (pool_in w q o go)
        by (Some (Pool m entries)) e = k m entries _ (λ new. same_put w q (Pool m entries) _ e refl refl (λ k at. refl) h)
        by _ e = fails _

  pub same_settled : (system : System) (x : ℕ) (w : World) → Same l w → Ends (Same l) (settled system x w)
  same_settled system x w h = need_found (Same l) _ _ _ (λ leaf there. when_ends (Same l) _ _ _ (gives _ _ (same_leaf w x leaf _ there refl refl refl h)))

  -- what is freed named no session
  pub same_freed : (system : System) (kept : Bool) (w : World) (q : SlotId) → ((k : ℕ) → q ≢ In_object k) → Same l w
      → Ends (Same l) (when (is_memory (slot_at w q) && not kept) WrongKind
      (when (paid system (with_slot w q Empty)) ExceededQuota (Ok (with_slot w q Empty, Quiet))))
  same_freed system kept w q other h = by (slot_at w q) refl
    where
      freed : (old : Slot) → slot_at w q ≡ Some old → naming old ≡ None
          → Ends (Same l) (when (paid system (with_slot w q Empty)) ExceededQuota (Ok (with_slot w q Empty, Quiet)))
      freed old e bare = when_ends (Same l) (paid system (with_slot w q Empty)) ExceededQuota (Ok (with_slot w q Empty, Quiet))
          (gives (with_slot w q Empty) Quiet (same_put w q old Empty e bare refl (λ k at. absurd (other k at)) h))

      by : (o : Option Slot) → slot_at w q ≡ o → Ends (Same l)
          (when (is_memory o && not kept) WrongKind (when (paid system (with_slot w q Empty)) ExceededQuota (Ok (with_slot w q Empty, Quiet))))
      by (Some (Bytes form n bytes)) e = when_ends (Same l) (not kept) WrongKind
          (when (paid system (with_slot w q Empty)) ExceededQuota (Ok (with_slot w q Empty, Quiet))) (freed (Bytes form n bytes) e refl)
      by (Some (Pool n entries)) e = when_ends (Same l) (not kept) WrongKind
          (when (paid system (with_slot w q Empty)) ExceededQuota (Ok (with_slot w q Empty, Quiet))) (freed (Pool n entries) e refl)
      by (Some Empty) e = fails WrongKind
      by (Some (Link k)) e = fails WrongKind
      by (Some (Waiting k)) e = fails WrongKind
      by None e = fails WrongKind

-- a statement that asks nothing of a session
abbrev pub IsQuiet : Instruction → Type 0
IsQuiet (Open place service n) = ⊥
IsQuiet (Upgrade place n) = ⊥
IsQuiet (Call place) = ⊥
IsQuiet (Close place) = ⊥
IsQuiet _ = Unit {0}

module _ (d : Doing) (t : TakesLeaf d) where
  abbrev L : Links
  L = links d.world

  pub stands : (leaf : Leaf) → leaf.slots ≡ d.leaf.slots → leaf.phase ≡ d.leaf.phase → leaf.current ≡ d.leaf.current → Same L (standing d leaf)
  stands leaf slots phase current = same_leaf L d.world d.x t.old leaf t.there (slots ∙ t.slots) (phase ∙ t.phase) (current ∙ t.current) (its_links d.world)

  -- how the leaf stands
  pub stood : L.stances d.x ≡ Some (stance d.leaf.phase d.leaf.current)
  stood = ap stance_in t.there ∙ (λ i. Some (stance (sym t.phase i) (sym t.current i)))

  free_by : (place : OperandSlot) (current : Option Current) (q : SlotId) → slot_id_of d.x current place ≡ Some q
      → Ends (Same L) (when (is_memory (slot_at (standing d d.leaf) q) && not (is_kept d current place)) WrongKind
      (when (paid d.system (with_slot (standing d d.leaf) q Empty)) ExceededQuota (Ok (with_slot (standing d d.leaf) q Empty, Quiet))))
  free_by (Own i) current q e = same_freed L d.system (is_kept d current (Own i)) (standing d d.leaf) q (λ k same. leaf_object (some_same (e ∙ ap Some same)))
      (stands d.leaf refl refl refl)
    where
      leaf_object : {x i k : ℕ} → In_leaf x i ≡ In_object k → ⊥
      leaf_object e = cc
  free_by (Shared i) None q e = absurd (none_some e)
  free_by (Shared i) (Some g) q e = same_freed L d.system (is_kept d (Some g) (Shared i)) (standing d d.leaf) q
      (λ k same. session_object_ne (some_same (e ∙ ap Some same))) (stands d.leaf refl refl refl)
    where
      session_object_ne : {j i k : ℕ} → In_session j i ≡ In_object k → ⊥
      session_object_ne e = cc
  free_by Object None q e = absurd (none_some e)
  free_by Object (Some g) q e = never (is_memory (slot_at (standing d d.leaf) q)) _
    where
      never : (b : Bool) (next : Stepped) → Ends (Same L) (when (b && false) WrongKind next)
      never true next = fails WrongKind
      never false next = fails WrongKind

  free_ends : (place : OperandSlot) → Ends (Same L) (free d place)
  free_ends place = need_found (Same L) _ _ _ (λ q e. free_by place d.leaf.current q e)

  module _ (h : AreLinked d.system L) where
    -- the object of the current session is not Empty
    pub full_object : (g : Current) → d.leaf.current ≡ Some g → slot_at d.world (In_object g.session) ≡ Some Empty → ⊥
    full_object g at empty =
        let s = object_there d.world g.session Empty empty in
        let u = h.handles d.x d.leaf.phase g (stood ∙ ap (λ o. Some (stance d.leaf.phase o)) at) in
        let there = ap outline_in s.1 in
        let accepted = ap (λ (s : Session). s.accepted) (some_same (sym there ∙ u.1)) ∙ u.3 in
        subst (λ o. IsBytes (shape o)) s.2 (h.objects g.session (outline s.0) there accepted)

    make_by : (place : OperandSlot) (slot : Slot) → naming slot ≡ None → (current : Option Current) → d.leaf.current ≡ current → (q : SlotId)
        → slot_id_of d.x current place ≡ Some q
        → Ends (Same L) (fill (standing d d.leaf) q (slot_at (standing d d.leaf) q) slot (settled d.system d.x))
    make_by (Own i) slot new current at q e = fill_same L (Same L) (standing d d.leaf) q slot _ new (λ k same. leaf_object (some_same (e ∙ ap Some same)))
        (stands d.leaf refl refl refl) (same_settled L d.system d.x)
      where
        leaf_object : {x i k : ℕ} → In_leaf x i ≡ In_object k → ⊥
        leaf_object e = cc
    make_by (Shared i) slot new None at q e = absurd (none_some e)
    make_by (Shared i) slot new (Some g) at q e = fill_same L (Same L) (standing d d.leaf) q slot _ new
        (λ k same. session_object_ne (some_same (e ∙ ap Some same))) (stands d.leaf refl refl refl) (same_settled L d.system d.x)
      where
        session_object_ne : {j i k : ℕ} → In_session j i ≡ In_object k → ⊥
        session_object_ne e = cc
    make_by Object slot new None at q e = absurd (none_some e)
    make_by Object slot new (Some g) at q e = subst (λ q.
        Ends (Same L) (fill (standing d d.leaf) q (slot_at (standing d d.leaf) q) slot (settled d.system d.x))) (some_same e)
        (by (slot_at d.world (In_object g.session)) refl)
      where
        by : (o : Option Slot) → slot_at d.world (In_object g.session) ≡ o
            → Ends (Same L) (fill (standing d d.leaf) (In_object g.session) o slot (settled d.system d.x))
        by (Some Empty) e = absurd (full_object g at e)
        by _ e = fails WrongKind

    make_ends : (place : OperandSlot) (slot : Slot) → naming slot ≡ None → Ends (Same L) (make d place slot)
    make_ends place slot new = need_found (Same L) _ _ _ (λ q e. make_by place slot new d.leaf.current refl q e)

    pub quiet_ends : (i : Instruction) → IsQuiet i → Ends (Same L) (instruct d i)
    quiet_ends (Say text) quiet = gives _ _ (stands d.leaf refl refl refl)
    quiet_ends (Operands s) quiet = need_ends (Same L) _ _ _ (λ o. gives _ _ (stands _ refl refl refl))
    quiet_ends (Free place) quiet = free_ends place
    quiet_ends (Make form place n) quiet = make_ends place _ refl
    quiet_ends (MakePool place n m) quiet = make_ends place _ refl
    quiet_ends (Open place service n) quiet = absurd quiet
    quiet_ends (Upgrade place n) quiet = absurd quiet
    quiet_ends (Call place) quiet = absurd quiet
    quiet_ends (Close place) quiet = absurd quiet
    quiet_ends i quiet = search (
      need_ends,
      when_ends,
      pop_ends,
      push_ends,
      absent_ends,
      bytes_same L,
      pool_same L,
      gives,
      stands,
      same_settled L,
      its_links,
    ) depth 14
