-- A request to open a session keeps sessions, slots, requests and current requests in agreement.
use Rattle.std.proofs.Common.{◌≡◌, ◌≢◌, ℕ, zero, suc, inl, inr, true, false, List, [], ◌∷◌, replicate, Option, Some, None, refl, ap, sym, ◌∙◌, arith}
use Rattle.std.specs.Prelude.{slice_get, slice_set}
use Rattle.std.proofs.lemmas.Bool.Decides.{eqb_tells}
use Rattle.gq_model.specs.declared.program.OperandSlot.{OperandSlot}
use Rattle.gq_model.specs.declared.program.OperandSlot.TheVariants.{Own, Shared, Object}
use Rattle.gq_model.specs.declared.fault.Wrong.TheVariants.{WrongKind}
use Rattle.gq_model.specs.declared.phase.Phase.TheVariants.{Blocked}
use Rattle.gq_model.specs.machine.Amounts.{Amount, amount}
use Rattle.gq_model.specs.machine.Scenario.{interface_in, open_caps}
use Rattle.gq_model.specs.machine.Routes.{server_of}
use Rattle.gq_model.specs.machine.World.{Slot, Empty, Waiting, SlotId, In_leaf, In_session, In_object, Session, Ask_open, Request, Current, Leaf, World, joined}
use Rattle.gq_model.specs.machine.World.{session_at, session_slot, session_object, slot_at, put_leaf_slot, put_session_slot, put_object, with_slot, slot_id_of}
use Rattle.gq_model.specs.machine.Doing.{Doing, Stepped, fill}
use Rattle.gq_model.specs.machine.Requests.{add_session, free_place, asked, new_session, open_session}
use Rattle.gq_laws.specs.Shapes.{Each}
use Rattle.gq_laws.specs.Session_links.{naming_in, outline, outline_in, stance, Links, links, requests_of, IsAsked, Handles, AreLinked, IsLinkedWorld}
use Rattle.gq_laws.proofs.step_shapes.Step_end_shapes.{Ends, fails, need_found}
use Rattle.gq_model.proofs.Small_facts.{some_same, none_some}
use Rattle.gq_laws.proofs.session_links.Asked_request_changes.{its_slot, one_none}
use Rattle.gq_laws.proofs.session_links.Written_world_links.{session_there, slot_here, slot_else, slot_outlines, slot_stances, slot_requests, leaf_in_slot}
use Rattle.gq_laws.proofs.session_links.Link_free_statements.{stood, full_object}
use Rattle.gq_laws.specs.Inside_steps.{TakesLeaf}
use Rattle.gq_laws.proofs.session_links.Linked_after_request.{slot_id_belongs, Ready, Prepared, asked_linked}

-- THE FREE PLACE

-- no session stands there
pub free_at : (sessions : List (Option Session)) → joined (slice_get sessions (free_place sessions)) ≡ None
free_at [] = refl
free_at (None ∷ rest) = refl
free_at (Some t ∷ rest) = free_at rest

pub add_here : (s : Session) (sessions : List (Option Session)) → joined (slice_get (add_session s sessions) (free_place sessions)) ≡ Some s
add_here s [] = refl
add_here s (None ∷ rest) = refl
add_here s (Some t ∷ rest) = add_here s rest

pub add_else : (s : Session) (sessions : List (Option Session)) (j : ℕ) → j ≢ free_place sessions
    → joined (slice_get (add_session s sessions) j) ≡ joined (slice_get sessions j)
add_else s [] zero ne = absurd (ne refl)
add_else s [] (suc j) ne = refl
add_else s (None ∷ rest) zero ne = absurd (ne refl)
add_else s (None ∷ rest) (suc j) ne = refl
add_else s (Some t ∷ rest) zero ne = refl
add_else s (Some t ∷ rest) (suc j) ne = add_else s rest j (λ e. ne (ap suc e))

free_set : (sessions : List (Option Session)) (k : ℕ) (t s : Session) → joined (slice_get sessions k) ≡ Some t
    → free_place (slice_set sessions k (Some s)) ≡ free_place sessions
free_set [] k t s e = absurd (none_some e)
free_set (None ∷ rest) zero t s e = absurd (none_some e)
free_set (None ∷ rest) (suc k) t s e = refl
free_set (Some u ∷ rest) zero t s e = refl
free_set (Some u ∷ rest) (suc k) t s e = ap suc (free_set rest k t s e)

-- a written slot takes and frees no place
pub free_slot : (w : World) (q : SlotId) (slot : Slot) → free_place (with_slot w q slot).sessions ≡ free_place w.sessions
free_slot w (In_leaf x i) slot = go (slice_get w.leaves x)
  where
    go : (o : Option Leaf) → free_place (put_leaf_slot w o x i slot).sessions ≡ free_place w.sessions
    go None = refl
    go (Some leaf) = refl
free_slot w (In_session k i) slot = go (session_at w k) refl
  where
    go : (o : Option Session) → session_at w k ≡ o → free_place (put_session_slot w o k i slot).sessions ≡ free_place w.sessions
    go None e = refl
    go (Some s) e = free_set w.sessions k s _ e
free_slot w (In_object k) slot = go (session_at w k) refl
  where
    go : (o : Option Session) → session_at w k ≡ o → free_place (put_object w o k slot).sessions ≡ free_place w.sessions
    go None e = refl
    go (Some s) e = free_set w.sessions k s _ e

-- empty slots name no session
pub none_named : (n i : ℕ) → naming_in (slice_get (replicate n Empty) i) ≡ None
none_named zero i = refl
none_named (suc n) zero = refl
none_named (suc n) (suc i) = none_named n i

-- no request is of a session that is not there
none_asked : (l : Links) (k : ℕ) → l.sessions k ≡ None → (rs : List Request) → Each (IsAsked l) rs → requests_of k rs ≡ 0
none_asked l k free [] h = refl
none_asked l k free (r ∷ rest) h =
    let first = one_none r.session k (λ same. none_some (sym free ∙ ap l.sessions (sym same) ∙ h.0.1)) in
    let further = none_asked l k free rest h.1 in
    omega (arith, first, further)

pub fill_found : (P : World → Type 0) (w : World) (q : SlotId) (slot : Slot) (go : World → Stepped)
    → (slot_at w q ≡ Some Empty → Ends P (go (with_slot w q slot))) → Ends P (fill w q (slot_at w q) slot go)
fill_found P w q slot go h = by (slot_at w q) refl
  where
    by : (o : Option Slot) → slot_at w q ≡ o → Ends P (fill w q o slot go)
    by (Some Empty) e = h e
    by _ e = fails WrongKind

-- A NEW SESSION

module _ (d : Doing) (t : TakesLeaf d) (active : d.leaf.phase ≢ Blocked) (h : AreLinked d.system (links d.world))
    (component : slice_get d.system.components d.x ≡ Some d.component)
    (place : OperandSlot) (q : SlotId) (at : slot_id_of d.x d.leaf.current place ≡ Some q) (empty : slot_at d.world q ≡ Some Empty) (service : List ℕ)
    (given : Amount)
    (server : ℕ) (found : server_of d.system d.component service ≡ Some server) where
  abbrev L : Links
  L = links d.world

  abbrev k : ℕ
  k = free_place d.world.sessions

  abbrev new : Session
  new = new_session d.x q server service given

  abbrev filled : World
  filled = with_slot d.world q (Waiting k)

  abbrev pub added : World
  added = record filled { sessions = add_session new filled.sessions }

  free_l : L.sessions k ≡ None
  free_l = ap outline_in (free_at d.world.sessions)

  same_place : k ≡ free_place filled.sessions
  same_place = sym (free_slot d.world q (Waiting k))

  handled : (g : Current) → d.leaf.current ≡ Some g → Handles L d.x g
  handled g e = h.handles d.x d.leaf.phase g (stood d t ∙ ap (λ o. Some (stance d.leaf.phase o)) e)

  pub not_object : (j : ℕ) → q ≢ In_object j
  not_object j same = by place d.leaf.current refl at
    where
      by : (place : OperandSlot) (current : Option Current) → d.leaf.current ≡ current → slot_id_of d.x current place ≡ Some q → ⊥
      by (Own i) current e f = leaf_object (some_same (f ∙ ap Some same))
        where
          leaf_object : {x i k : ℕ} → In_leaf x i ≡ In_object k → ⊥
          leaf_object e = cc
      by (Shared i) None e f = none_some f
      by (Shared i) (Some g) e f = bank_object (some_same (f ∙ ap Some same))
        where
          bank_object : {j i k : ℕ} → In_session j i ≡ In_object k → ⊥
          bank_object e = cc
      by Object None e f = none_some f
      by Object (Some g) e f = full_object d t h g e (ap (slot_at d.world) (some_same f) ∙ empty)

  pub ready : Ready d.system L d.x k (outline new) Ask_open
  ready =
      record {
        client = refl;
        kept = λ u e. absurd (none_some (sym free_l ∙ e));
        no_current = λ y p g e same. (let u = h.handles y p g e in none_some (sym free_l ∙ ap L.sessions (sym same) ∙ u.1));
        no_request = none_asked L k free_l d.world.requests h.asked;
        elsewhere = λ j u ne e same. (let s = its_slot d.system L h j u e in none_some (sym (ap naming_in empty) ∙ ap L.slots (sym same) ∙ s.1));
        names = λ r n ne e same. (let u = h.named r n e in none_some (sym free_l ∙ ap L.sessions (sym same) ∙ u.1));
        belongs = slot_id_belongs L d.x d.leaf.current place q handled at not_object;
        routed = (d.component, component, found);
        opens = λ no. refl;
        objects = λ yes. false_true yes;
        ask_fits = refl;
      }
    where
      false_true : {A : Type 0} → false ≡ true → A
      false_true e = absurd cc

  -- the other sessions, as they stand once the slot waits
  pub added_else : (j : ℕ) → j ≢ k → session_at added j ≡ session_at filled j
  added_else j ne = add_else new filled.sessions j (λ e. ne (e ∙ sym same_place))

  pub added_here : session_at added k ≡ Some new
  added_here = ap (λ j. joined (slice_get (add_session new filled.sessions) j)) same_place ∙ add_here new filled.sessions

  added_slots : (r : SlotId) → r ≢ q → naming_in (slot_at added r) ≡ naming_in (slot_at d.world r)
  added_slots (In_leaf x i) ne = ap naming_in (slot_else d.world q (Waiting k) (In_leaf x i) ne)
  added_slots (In_session j i) ne =
      elim (eqb_tells j k) [
        | inl e ↦ (ap (λ j. naming_in (session_slot (session_at added j) i)) e.1
            ∙ (ap (λ o. naming_in (session_slot o i)) added_here
            ∙ (none_named 8 i ∙ (sym (ap (λ o. naming_in (session_slot o i)) (free_at d.world.sessions))
            ∙ ap (λ j. naming_in (session_slot (session_at d.world j) i)) (sym e.1)))))
        | inr e ↦ ap (λ o. naming_in (session_slot o i)) (added_else j e.1) ∙ ap naming_in (slot_else d.world q (Waiting k) (In_session j i) ne)
      ]
  added_slots (In_object j) ne =
      elim (eqb_tells j k) [
        | inl e ↦ (ap (λ j. naming_in (session_object (session_at added j))) e.1
            ∙ (ap (λ o. naming_in (session_object o)) added_here
            ∙ (sym (ap (λ o. naming_in (session_object o)) (free_at d.world.sessions))
            ∙ ap (λ j. naming_in (session_object (session_at d.world j))) (sym e.1))))
        | inr e ↦ ap (λ o. naming_in (session_object o)) (added_else j e.1) ∙ ap naming_in (slot_else d.world q (Waiting k) (In_object j) ne)
      ]

  added_there : (slot : Slot) × (slot_at added q ≡ Some slot)
  added_there = by q refl
    where
      by : (r : SlotId) → q ≡ r → (slot : Slot) × (slot_at added q ≡ Some slot)
      by (In_leaf x i) e = (Waiting k, ap (slot_at added) e ∙ (ap (slot_at filled) (sym e) ∙ slot_here d.world q (Waiting k) Empty empty))
      by (In_session j i) e =
          let u = session_there d.world j i Empty (ap (slot_at d.world) (sym e) ∙ empty) in
          let ne : j ≢ k = λ same. none_some (sym (free_at d.world.sessions) ∙ ap (session_at d.world) (sym same) ∙ u.1) in (
            Waiting k,
            ap (slot_at added) e ∙ (ap (λ o. session_slot o i) (added_else j ne)
                ∙ (ap (slot_at filled) (sym e) ∙ slot_here d.world q (Waiting k) Empty empty)),
          )
      by (In_object j) e = absurd (not_object j e)

  prepared : Prepared d added q k (outline new)
  prepared =
      record {
        slots = added_slots;
        there = added_there;
        was_there = (Empty, empty);
        leaf = leaf_in_slot d.world q (Waiting k) d.x t.old t.there;
        stances = slot_stances d.world q (Waiting k);
        session = ap outline_in added_here;
        sessions = λ j ne. ap outline_in (added_else j ne) ∙ slot_outlines d.world q (Waiting k) (λ i u e. absurd (not_object i e)) j;
        requests = slot_requests d.world q (Waiting k);
        not_object = not_object;
      }

  new_ends : Ends (IsLinkedWorld d.system) (asked d added q k Ask_open)
  new_ends = asked_linked d t active h added k (outline new) Ask_open ready prepared

pub open_ends : (d : Doing) → TakesLeaf d → d.leaf.phase ≢ Blocked → AreLinked d.system (links d.world) → slice_get d.system.components d.x ≡ Some d.component
    → (place : OperandSlot) (service : List ℕ) (n : ℕ) → Ends (IsLinkedWorld d.system) (open_session d place service n)
open_ends d t active h component place service n =
    need_found (IsLinkedWorld d.system) _ _ _ (λ q at. fill_found (IsLinkedWorld d.system) d.world q _ _ (λ empty.
    need_found (IsLinkedWorld d.system) _ _ _ (λ server found.
    new_ends d t active h component place q at empty service (amount n (open_caps (interface_in service d.system.interfaces))) server found)))
