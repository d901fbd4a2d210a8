-- Replies keep sessions, slots, requests and current requests in agreement.
use Rattle.std.proofs.Common.{◌≡◌, ◌≢◌, ℕ, zero, suc, inl, inr, true, List, [], ◌∷◌, Option, Some, None, refl, ap, sym, ◌∙◌, subst, arith}
use Rattle.std.specs.Prelude.{slice_get, slice_set}
use Rattle.std.proofs.lemmas.Bool.Decides.{eqb_tells}
use Rattle.gq_model.specs.declared.section.Section.{Section}
use Rattle.gq_model.specs.declared.section.Section.TheVariants.{Main, Opening, Upgrading, Calling, Closing, Reacting}
use Rattle.gq_model.specs.declared.fault.Wrong.TheVariants.{WrongKind, ExceededQuota}
use Rattle.gq_model.specs.declared.phase.Phase.{Phase}
use Rattle.gq_model.specs.declared.phase.Phase.TheVariants.{Blocked, Serving, Handling}
use Rattle.gq_model.specs.machine.Scenario.{System}
use Rattle.gq_model.specs.machine.World.{Slot, Empty, Bytes, Pool, Link, Waiting, SlotId, In_leaf, In_session, In_object, Session, Current, Leaf, World, joined}
use Rattle.gq_model.specs.machine.World.{session_at, session_slot, session_object, slot_at, with_leaf, with_slot}
use Rattle.gq_model.specs.machine.Doing.{Doing, Quiet, standing}
use Rattle.gq_model.specs.machine.Sums.{paid}
use Rattle.gq_model.specs.machine.Step.{all_empty, serving, resumed, active_again, unblocked, replied, reply_close, reply}
use Rattle.gq_laws.specs.Session_links.{Naming, Waits, naming_in, outline, outline_in, Stance, stance, stance_in, Links, links, at_current, Stands, Belongs}
use Rattle.gq_laws.specs.Session_links.{Fits}
use Rattle.gq_laws.specs.Session_links.{AreLinked, IsLinkedWorld}
use Rattle.gq_laws.proofs.step_shapes.Step_end_shapes.{Ends, gives, fails, when_ends, pop_ends}
use Rattle.gq_laws.proofs.session_links.Linked_after_change.{changes_linked}
use Rattle.gq_model.proofs.Small_facts.{some_same, none_some}
use Rattle.gq_laws.proofs.session_links.Asked_request_changes.{one_one, same_phase, at_server}
use Rattle.gq_laws.proofs.session_links.Reply_changes.{Answers, link_changes, close_changes}
use Rattle.gq_laws.proofs.session_links.Written_world_links.{set_else, same_slot_id, leaf_stance, leaf_stances, leaf_keeps_slots, slot_here, slot_else}
use Rattle.gq_laws.proofs.session_links.Written_world_links.{slot_outlines, slot_stances}
use Rattle.gq_laws.proofs.session_links.Written_world_links.{slot_requests}
use Rattle.gq_laws.proofs.session_links.Link_free_statements.{stood, when_found}
use Rattle.gq_laws.specs.Inside_steps.{TakesLeaf}
use Rattle.gq_laws.proofs.session_links.Linked_after_accept.{object_unnamed, stand_slots, stand_stance, stand_stances}
use Rattle.gq_laws.proofs.step_shapes.Step_end_worlds.{handling_blocked}

-- REPLIES

-- what is found by its stance or its naming is there
pub leaf_of_stance : (o : Option Leaf) (u : Stance) → stance_in o ≡ Some u → (leaf : Leaf) × (o ≡ Some leaf) × (stance leaf.phase leaf.current ≡ u)
leaf_of_stance None u e = absurd (none_some e)
leaf_of_stance (Some leaf) u e = (leaf, refl, some_same e)

pub session_of_outline : (o : Option Session) (u : Session) → outline_in o ≡ Some u → (s : Session) × (o ≡ Some s) × (outline s ≡ u)
session_of_outline None u e = absurd (none_some e)
session_of_outline (Some s) u e = (s, refl, some_same e)

pub slot_of_naming : (o : Option Slot) (n : Naming) → naming_in o ≡ Some n → (slot : Slot) × (o ≡ Some slot)
slot_of_naming None n e = absurd (none_some e)
slot_of_naming (Some slot) n e = (slot, refl)

-- a leaf goes on in a phase that fits its current request, and is not blocked
goes_on : (current : Option Current) (reacting : Option ℕ) → resumed current reacting ≢ Blocked
goes_on None None e = absurd cc
goes_on None (Some i) e = absurd cc
goes_on (Some g) reacting e = absurd cc

goes_on_fits : (current : Option Current) (reacting : Option ℕ) → Fits (resumed current reacting) current
goes_on_fits None None = tt
goes_on_fits None (Some i) = tt
goes_on_fits (Some g) reacting = tt

-- a session whose section is current at its server waits
pub handled_waits : (system : System) (l : Links) → AreLinked system l → (y : ℕ) (p : Phase) (g : Current) (s : Session)
    → l.stances y ≡ Some (stance p (Some g))
    → l.sessions g.session ≡ Some s → l.slots s.slot_id ≡ Some (Waits g.session)
handled_waits system l h y p g s at there = go (h.stands g.session s there)
  where
    one : at_current g.session (l.stances s.server) ≡ 1
    one = ap (λ y. at_current g.session (l.stances y)) (at_server system l h g.session s there y p g at refl) ∙ ap (at_current g.session) at
        ∙ one_one g.session g.session refl

    go : Stands l g.session s → l.slots s.slot_id ≡ Some (Waits g.session)
    go (inl u) = let none = u.2 in absurd (omega (arith, none, one))
    go (inr u) = u.0

-- empty slots name no session
empty_named : (slots : List Slot) → all_empty slots ≡ true → (i : ℕ) → naming_in (slice_get slots i) ≡ None
empty_named [] e i = refl
empty_named (Empty ∷ rest) e zero = refl
empty_named (Empty ∷ rest) e (suc i) = empty_named rest e i
empty_named (Bytes form n bytes ∷ rest) e i = absurd cc
empty_named (Pool n entries ∷ rest) e i = absurd cc
empty_named (Link k ∷ rest) e i = absurd cc
empty_named (Waiting k ∷ rest) e i = absurd cc

-- a session that is taken away is gone
pub gone_here : (sessions : List (Option Session)) (k : ℕ) → joined (slice_get (slice_set sessions k None) k) ≡ None
gone_here [] k = refl
gone_here (a ∷ rest) zero = refl
gone_here (a ∷ rest) (suc k) = gone_here rest k

module _ (d : Doing) (t : TakesLeaf d) (h : AreLinked d.system (links d.world)) (handles : d.leaf.phase ≡ Handling) (g : Current)
    (current : d.leaf.current ≡ Some g)
    (s : Session) (there : session_at d.world g.session ≡ Some s) where
  abbrev pub k : ℕ
  k = g.session

  abbrev pub M : Links
  M = links d.world

  pub handling : M.stances d.x ≡ Some (stance Handling (Some g))
  handling = stood d t ∙ (λ i. Some (stance (handles i) (current i)))

  pub was : M.sessions k ≡ Some (outline s)
  was = ap outline_in there

  pub slot_waits : M.slots s.slot_id ≡ Some (Waits k)
  slot_waits = handled_waits d.system M h d.x Handling g (outline s) handling was

  pub client_waits : (o : Option Current) × (M.stances s.client ≡ Some (stance Blocked o))
  client_waits = h.waits k (outline s) was slot_waits

  pub not_server : s.client ≢ d.x
  not_server same = handling_blocked (same_phase (sym handling ∙ ap M.stances (sym same) ∙ client_waits.1))

  no_object : (j : ℕ) → s.slot_id ≢ In_object j
  no_object j same = subst (λ q. Belongs M q s.client) same (h.belongs k (outline s) was)

  abbrev pub served : World
  served = standing d (serving d.leaf)

  old_slot : (slot : Slot) × (slot_at served s.slot_id ≡ Some slot)
  old_slot = let o = slot_of_naming (slot_at d.world s.slot_id) (Waits k) slot_waits in (o.0, stand_slots d t h (serving d.leaf) refl s.slot_id ∙ o.1)

  -- the world in which the client's slot is written
  module _ (slot : Slot) where
    abbrev pub put : World
    put = with_slot served s.slot_id slot

    put_slots : (r : SlotId) → r ≢ s.slot_id → slot_at put r ≡ slot_at d.world r
    put_slots r ne = slot_else served s.slot_id slot r ne ∙ stand_slots d t h (serving d.leaf) refl r

    put_here : slot_at put s.slot_id ≡ Some slot
    put_here = slot_here served s.slot_id slot old_slot.0 old_slot.1

    pub put_outlines : (j : ℕ) → outline_in (session_at put j) ≡ outline_in (session_at d.world j)
    put_outlines j = slot_outlines served s.slot_id slot (λ i u at e. absurd (no_object i at)) j

    pub put_serves : stance_in (slice_get put.leaves d.x) ≡ Some (stance Serving None)
    put_serves = slot_stances served s.slot_id slot d.x ∙ stand_stance d t h (serving d.leaf)

    pub put_stances : (y : ℕ) → y ≢ d.x → stance_in (slice_get put.leaves y) ≡ stance_in (slice_get d.world.leaves y)
    put_stances y ne = slot_stances served s.slot_id slot y ∙ stand_stances d t h (serving d.leaf) y ne

    put_requests : put.requests ≡ d.world.requests
    put_requests = slot_requests served s.slot_id slot

    -- the client's leaf
    pub client_leaf : (leaf : Leaf) × (slice_get put.leaves s.client ≡ Some leaf) × (stance leaf.phase leaf.current ≡ stance Blocked client_waits.0)
    client_leaf = leaf_of_stance (slice_get put.leaves s.client) (stance Blocked client_waits.0) (put_stances s.client not_server ∙ client_waits.1)

    abbrev pub its_current : Option Current
    its_current = client_leaf.0.current

    abbrev pub its_reacting : Option ℕ
    its_reacting = client_leaf.0.reacting

    pub client_blocked : M.stances s.client ≡ Some (stance Blocked its_current)
    client_blocked = client_waits.1 ∙ ap (λ o. Some (stance Blocked o)) (sym (ap (λ (u : Stance). u.current) client_leaf.2))

    module _ (f : List ℕ → List ℕ) where
      abbrev pub resumes : Leaf
      resumes = record client_leaf.0 { phase = resumed its_current its_reacting; operands = f client_leaf.0.operands }

      -- a world like that one but for its sessions
      module _ (v : World) (same_leaves : v.leaves ≡ put.leaves) where
        pub v_there : slice_get v.leaves s.client ≡ Some client_leaf.0
        v_there = ap (λ ls. slice_get ls s.client) same_leaves ∙ client_leaf.1

        abbrev pub resumed_world : World
        resumed_world = with_leaf v s.client resumes

        resumed_slots : (r : SlotId) → slot_at resumed_world r ≡ slot_at v r
        resumed_slots r = leaf_keeps_slots v s.client client_leaf.0 resumes v_there refl r

        pub resumed_here : stance_in (slice_get resumed_world.leaves s.client) ≡ Some (stance (resumed its_current its_reacting) its_current)
        resumed_here = leaf_stance v s.client client_leaf.0 resumes v_there

        pub resumed_else : (y : ℕ) → y ≢ s.client → stance_in (slice_get resumed_world.leaves y) ≡ stance_in (slice_get put.leaves y)
        resumed_else y ne = leaf_stances v s.client client_leaf.0 resumes v_there y ne ∙ ap (λ ls. stance_in (slice_get ls y)) same_leaves

        answers : ((r : SlotId) → r ≢ s.slot_id → naming_in (slot_at v r) ≡ naming_in (slot_at d.world r))
            → ((j : ℕ) → j ≢ k → outline_in (session_at v j) ≡ outline_in (session_at d.world j)) → v.requests ≡ d.world.requests
            → Answers M (links resumed_world) d.x k (outline s) g (resumed its_current its_reacting) its_current
        answers slots sessions requests =
            record {
              handling = handling;
              current_session = refl;
              was = was;
              waiting = client_blocked;
              goes_on = goes_on its_current its_reacting;
              fits = goes_on_fits its_current its_reacting;
              slots = λ r ne. ap naming_in (resumed_slots r) ∙ slots r ne;
              sessions = sessions;
              serves = resumed_else d.x (λ e. not_server (sym e)) ∙ put_serves;
              client = resumed_here;
              stances = λ z ne other. resumed_else z other ∙ put_stances z ne;
              requests = requests;
            }

        -- the client's leaf is found where it stands
        unblocked_linked : AreLinked d.system (links resumed_world) → AreLinked d.system (links (unblocked v s.client f))
        unblocked_linked a = subst (λ o. AreLinked d.system (links (active_again v s.client f o))) (sym v_there) a

  replied_linked : (f : List ℕ → List ℕ) → AreLinked d.system (links (unblocked (put (Link k)) s.client f))
  replied_linked f =
      let m = links (resumed_world (Link k) f (put (Link k)) refl) in
      let a = answers (Link k) f (put (Link k)) refl (λ r ne. ap naming_in (put_slots (Link k) r ne)) (λ j ne. put_outlines (Link k) j)
      (put_requests (Link k)) in
      unblocked_linked (Link k) f (put (Link k)) refl
      (changes_linked same_slot_id d.system M m k s.slot_id h
      (link_changes d.system M m d.x k (outline s) g (resumed (its_current (Link k)) (its_reacting (Link k))) (its_current (Link k)) h a
      (put_outlines (Link k) k ∙ was)
      (ap naming_in (resumed_slots (Link k) f (put (Link k)) refl s.slot_id) ∙ ap naming_in (put_here (Link k)))))

  replied_ends : (f : List ℕ → List ℕ) → Ends (IsLinkedWorld d.system) (replied d k s f)
  replied_ends f = gives _ Quiet (replied_linked f)

  -- the world without the session
  abbrev pub without : World
  without = record (put Empty) { sessions = slice_set (put Empty).sessions k None }

  pub without_else : (j : ℕ) → j ≢ k → session_at without j ≡ session_at (put Empty) j
  without_else j ne = ap joined (set_else (put Empty).sessions k j None ne)

  module _ (bare : all_empty s.slots ≡ true) where
    bare_l : (i : ℕ) → M.slots (In_session k i) ≡ None
    bare_l i = ap (λ o. naming_in (session_slot o i)) there ∙ empty_named s.slots bare i

    without_slots : (r : SlotId) → r ≢ s.slot_id → naming_in (slot_at without r) ≡ naming_in (slot_at d.world r)
    without_slots (In_leaf x i) ne = ap naming_in (put_slots Empty (In_leaf x i) ne)
    without_slots (In_session j i) ne =
        elim (eqb_tells j k) [
          | inl e ↦ (ap (λ j. naming_in (session_slot (session_at without j) i)) e.1
              ∙ (ap (λ o. naming_in (session_slot o i)) (gone_here (put Empty).sessions k)
              ∙ (sym (bare_l i) ∙ ap (λ j. naming_in (session_slot (session_at d.world j) i)) (sym e.1))))
          | inr e ↦ ap (λ o. naming_in (session_slot o i)) (without_else j e.1) ∙ ap naming_in (put_slots Empty (In_session j i) ne)
        ]
    without_slots (In_object j) ne =
        elim (eqb_tells j k) [
          | inl e ↦ (ap (λ j. naming_in (session_object (session_at without j))) e.1
              ∙ (ap (λ o. naming_in (session_object o)) (gone_here (put Empty).sessions k)
              ∙ (sym (object_unnamed d.system M h k) ∙ ap (λ j. naming_in (session_object (session_at d.world j))) (sym e.1))))
          | inr e ↦ ap (λ o. naming_in (session_object o)) (without_else j e.1) ∙ ap naming_in (put_slots Empty (In_object j) ne)
        ]

    -- the client's slot is free
    without_free : naming_in (slot_at without s.slot_id) ≡ None
    without_free = by s.slot_id refl
      where
        by : (q : SlotId) → s.slot_id ≡ q → naming_in (slot_at without s.slot_id) ≡ None
        by (In_leaf x i) e = ap (λ q. naming_in (slot_at without q)) e ∙ (ap (λ q. naming_in (slot_at (put Empty) q)) (sym e) ∙ ap naming_in (put_here Empty))
        by (In_session j i) e =
            ap (λ q. naming_in (slot_at without q)) e
            ∙ (elim (eqb_tells j k) [
              | inl f ↦ ap (λ j. naming_in (session_slot (session_at without j) i)) f.1
                  ∙ ap (λ o. naming_in (session_slot o i)) (gone_here (put Empty).sessions k)
              | inr f ↦ ap (λ o. naming_in (session_slot o i)) (without_else j f.1)
                  ∙ (ap (λ q. naming_in (slot_at (put Empty) q)) (sym e) ∙ ap naming_in (put_here Empty))
            ])
        by (In_object j) e = absurd (no_object j e)

    closed_linked : AreLinked d.system (links (unblocked without s.client (λ operands. operands)))
    closed_linked =
        let m = links (resumed_world Empty (λ operands. operands) without refl) in
        let a = answers Empty (λ operands. operands) without refl without_slots (λ j ne. ap outline_in (without_else j ne) ∙ put_outlines Empty j)
        (put_requests Empty) in
        unblocked_linked Empty (λ operands. operands) without refl
        (changes_linked same_slot_id d.system M m k s.slot_id h
        (close_changes d.system M m d.x k (outline s) g (resumed (its_current Empty) (its_reacting Empty)) (its_current Empty) h a
        (ap outline_in (gone_here (put Empty).sessions k))
        (ap naming_in (resumed_slots Empty (λ operands. operands) without refl s.slot_id) ∙ without_free) bare_l))

  close_ends : Ends (IsLinkedWorld d.system) (reply_close d k s)
  close_ends = when_found (IsLinkedWorld d.system) (all_empty s.slots) WrongKind _
      (λ bare. when_ends (IsLinkedWorld d.system) (paid d.system (unblocked without s.client (λ operands. operands))) ExceededQuota _
      (gives _ Quiet (closed_linked bare)))

  pub reply_ends : (section : Section) → Ends (IsLinkedWorld d.system) (reply d k section s)
  reply_ends Main = fails WrongKind
  reply_ends Opening = when_ends (IsLinkedWorld d.system) _ _ _ (replied_ends (λ operands. operands))
  reply_ends (Upgrading l) = replied_ends (λ operands. operands)
  reply_ends (Calling l) = pop_ends (IsLinkedWorld d.system) _ _ (λ a rest. replied_ends (λ operands. a ∷ operands))
  reply_ends (Closing l) = close_ends
  reply_ends (Reacting i) = fails WrongKind
