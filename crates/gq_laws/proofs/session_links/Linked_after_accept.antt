-- Steps that leave the same links, and those that accept a request, keep sessions, slots, requests and current requests in agreement.
use Rattle.std.proofs.Common.{◌≡◌, ◌≢◌, ℕ, ◌+◌, ◌==◌, inl, inr, Bool, true, false, cond, not, List, [], ◌∷◌, Option, Some, None, Ok, refl, ap, sym, ◌∙◌, subst}
use Rattle.std.proofs.Common.{arith}
use Rattle.std.specs.Prelude.{slice_get}
use Rattle.std.proofs.lemmas.Bool.Decides.{eqb_tells}
use Rattle.gq_model.specs.machine.Program.{section_in, body_of}
use Rattle.gq_model.specs.declared.section.Section.{Section}
use Rattle.gq_model.specs.declared.fault.Wrong.TheVariants.{ExceededQuota, MissingSection}
use Rattle.gq_model.specs.declared.phase.Phase.TheVariants.{Serving}
use Rattle.gq_model.specs.machine.Scenario.{System}
use Rattle.gq_model.specs.machine.World.{SlotId, In_object, Session, Ask, Ask_open, Ask_upgrade, Ask_close, Ask_call, Request, Current, Leaf, World, session_at}
use Rattle.gq_model.specs.machine.World.{session_object, slot_at, with_session}
use Rattle.gq_model.specs.machine.Doing.{Doing, Quiet, need, when, standing}
use Rattle.gq_model.specs.machine.Sums.{paid}
use Rattle.gq_model.specs.machine.Step.{is_to, oldest, kept_before, section_for, first_operands, beginning, accepted_as, accept}
use Rattle.gq_laws.specs.Shapes.{Each}
use Rattle.gq_laws.specs.Session_links.{Naming, naming, naming_in, shape, IsBytes, outline, outline_in, stance, stance_in, Links, links, one_if, requests_of}
use Rattle.gq_laws.specs.Session_links.{is_open}
use Rattle.gq_laws.specs.Session_links.{Belongs, IsAsked, IsAt, Fits, AreLinked, IsLinkedWorld}
use Rattle.gq_laws.proofs.step_shapes.Step_end_shapes.{Ends, gives, need_ends, need_found, when_ends}
use Rattle.gq_laws.proofs.session_links.Linked_after_change.{changes_linked}
use Rattle.gq_model.proofs.Small_facts.{some_same, none_some}
use Rattle.gq_laws.proofs.session_links.Asked_request_changes.{one_one, one_none}
use Rattle.gq_laws.proofs.session_links.Accepted_request_changes.{Accepts, accepts_changes}
use Rattle.gq_laws.proofs.session_links.Reply_changes.{calm_linked}
use Rattle.gq_laws.proofs.session_links.Written_world_links.{same_slot_id, leaf_stance, leaf_stances, leaf_keeps_slots, session_here, session_else}
use Rattle.gq_laws.proofs.session_links.Written_world_links.{session_slots}
use Rattle.gq_laws.proofs.session_links.Link_free_statements.{stood, Same}
use Rattle.gq_laws.specs.Inside_steps.{TakesLeaf}
use Rattle.gq_laws.proofs.session_links.Link_free_statements.{stood, Same}
use Rattle.gq_laws.specs.Inside_steps.{TakesLeaf}
use Rattle.std.proofs.lemmas.Bool.{true≢false}

-- THE SAME LINKS

pub same_linked : (system : System) (l : Links) (w : World) → AreLinked system l → Same l w → AreLinked system (links w)
same_linked system l w h s = calm_linked system l (links w) h
    (record { slots = s.slots; sessions = s.sessions; requests = s.requests; stances = λ y. inl (s.stances y) })

-- an object names no session
pub object_unnamed : (system : System) (l : Links) → AreLinked system l → (k : ℕ) → l.slots (In_object k) ≡ None
object_unnamed system l h k = go (l.slots (In_object k)) refl
  where
    go : (o : Option Naming) → l.slots (In_object k) ≡ o → l.slots (In_object k) ≡ None
    go None e = e
    go (Some n) e = let s = h.named (In_object k) n e in absurd (subst (λ q. Belongs l q s.0.client) s.2 (h.belongs _ s.0 s.1))

-- ACCEPTANCE

-- a request that was found is to this leaf, and one of the list; the others are left
pub record Found (P : Request → Type 0) (w : World) (x : ℕ) (rs : List Request) (p : Request × List Request) : Type 0 where
  pub to : is_to x (session_at w p.0.session) ≡ true
  pub counts : (k : ℕ) → requests_of k rs ≡ one_if (p.0.session == k) + requests_of k p.1
  pub first : Each P rs → P p.0
  pub left : Each P rs → Each P p.1

module _ (P : Request → Type 0) (w : World) (x : ℕ) where
  found_later : (q : Request) (qs : List Request) (o : Option (Request × List Request)) → ((p : Request × List Request) → o ≡ Some p → Found P w x qs p)
      → (a : Request × List Request) → kept_before q o ≡ Some a → Found P w x (q ∷ qs) a
  found_later q qs None f a e = absurd (none_some e)
  found_later q qs (Some p) f a e = subst (Found P w x (q ∷ qs)) (some_same e)
      (record { to = u.to; counts = count; first = λ h. u.first h.1; left = λ h. (h.0, u.left h.1) })
    where
      u : Found P w x qs p
      u = f p refl

      count : (k : ℕ) → one_if (q.session == k) + requests_of k qs ≡ one_if (p.0.session == k) + (one_if (q.session == k) + requests_of k p.1)
      count k = let n = u.counts k in omega (arith, n)

  found_by : (q : Request) (qs : List Request) (b : Bool) → is_to x (session_at w q.session) ≡ b → (o : Option (Request × List Request))
      → ((p : Request × List Request) → o ≡ Some p → Found P w x qs p) → (a : Request × List Request) → cond b (Some (q, qs)) (kept_before q o) ≡ Some a
      → Found P w x (q ∷ qs) a
  found_by q qs true to o f a e = subst (Found P w x (q ∷ qs)) (some_same e) (record { to = to; counts = λ k. refl; first = λ h. h.0; left = λ h. h.1 })
  found_by q qs false to o f a e = found_later q qs o f a e

  pub oldest_found : (rs : List Request) (p : Request × List Request) → oldest w x rs ≡ Some p → Found P w x rs p
  oldest_found [] p e = absurd (none_some e)
  oldest_found (q ∷ qs) p e = found_by q qs (is_to x (session_at w q.session)) refl (oldest w x qs) (λ a f. oldest_found qs a f) p e

module _ (d : Doing) (t : TakesLeaf d) (h : AreLinked d.system (links d.world)) where
  abbrev L : Links
  L = links d.world

  pub stand_slots : (leaf : Leaf) → leaf.slots ≡ d.leaf.slots → (r : SlotId) → slot_at (standing d leaf) r ≡ slot_at d.world r
  stand_slots leaf same r = leaf_keeps_slots d.world d.x t.old leaf t.there (same ∙ t.slots) r

  pub stand_stance : (leaf : Leaf) → stance_in (slice_get (standing d leaf).leaves d.x) ≡ Some (stance leaf.phase leaf.current)
  stand_stance leaf = leaf_stance d.world d.x t.old leaf t.there

  pub stand_stances : (leaf : Leaf) (y : ℕ) → y ≢ d.x → stance_in (slice_get (standing d leaf).leaves y) ≡ stance_in (slice_get d.world.leaves y)
  stand_stances leaf y ne = leaf_stances d.world d.x t.old leaf t.there y ne

  pub fits_now : Fits d.leaf.phase d.leaf.current
  fits_now = h.fits d.x (stance d.leaf.phase d.leaf.current) (stood d t)

  -- who serves has no current request
  pub no_current_serving : (current : Option Current) → Fits Serving current → current ≡ None
  no_current_serving None f = refl
  no_current_serving (Some g) f = absurd f

  module _ (serves : d.leaf.phase ≡ Serving) (r : Request) (rest : List Request)
      (found : Found (IsAsked (links d.world)) d.world d.x d.world.requests (r, rest)) (old : Session) (there : session_at d.world r.session ≡ Some old) where
    there_l : L.sessions r.session ≡ Some (outline old)
    there_l = ap outline_in there

    pub asked_as : old.accepted ≡ not (is_open r.ask)
    asked_as = let a = found.first h.asked in ap (λ (s : Session). s.accepted) (some_same (sym there_l ∙ a.1)) ∙ a.2

    pub server_is : old.server ≡ d.x
    server_is = by old.server (ap (is_to d.x) (sym there) ∙ found.to)
      where
        by : (y : ℕ) → (y == d.x) ≡ true → y ≡ d.x
        by y e = elim (eqb_tells y d.x) [ inl f ↦ f.1 | inr f ↦ absurd (true≢false (sym e ∙ f.0)) ]

    abbrev s : Session
    s = accepted_as d.system r.ask old

    abbrev section : Section
    section = section_for r.ask s.level

    abbrev current_now : Current
    current_now = record { session = r.session; section = section }

    abbrev begun : Leaf
    begun = beginning d.leaf current_now (first_operands r.ask) (body_of (section_in section d.component.node.program.sections))

    abbrev taken : World
    taken = with_session (record (standing d begun) { requests = rest }) r.session s

    -- what acceptance makes of a session
    kept_as : (ask : Ask) → (old.client ≡ (accepted_as d.system ask old).client) × (old.slot_id ≡ (accepted_as d.system ask old).slot_id)
        × (old.server ≡ (accepted_as d.system ask old).server) × (old.service ≡ (accepted_as d.system ask old).service)
        × (old.slots ≡ (accepted_as d.system ask old).slots)
    kept_as Ask_open = (refl, refl, refl, refl, refl)
    kept_as Ask_upgrade = (refl, refl, refl, refl, refl)
    kept_as Ask_close = (refl, refl, refl, refl, refl)
    kept_as (Ask_call value) = (refl, refl, refl, refl, refl)

    accepted_now : (ask : Ask) → old.accepted ≡ not (is_open ask)
        → ((accepted_as d.system ask old).accepted ≡ true) × IsBytes (shape (accepted_as d.system ask old).object)
    accepted_now Ask_open e = (refl, tt)
    accepted_now Ask_upgrade e = (e, h.objects r.session (outline old) there_l e)
    accepted_now Ask_close e = (e, h.objects r.session (outline old) there_l e)
    accepted_now (Ask_call value) e = (e, h.objects r.session (outline old) there_l e)

    at_level_now : (ask : Ask) → old.accepted ≡ not (is_open ask)
        → IsAt (section_for ask (accepted_as d.system ask old).level) (accepted_as d.system ask old).level
    at_level_now Ask_open e = sym (h.opens r.session (outline old) there_l e)
    at_level_now Ask_upgrade e = refl
    at_level_now Ask_close e = refl
    at_level_now (Ask_call value) e = refl

    object_now : (ask : Ask) → naming (accepted_as d.system ask old).object ≡ None
    object_now Ask_open = refl
    object_now Ask_upgrade = sym (ap (λ o. naming_in (session_object o)) there) ∙ object_unnamed d.system L h r.session
    object_now Ask_close = sym (ap (λ o. naming_in (session_object o)) there) ∙ object_unnamed d.system L h r.session
    object_now (Ask_call value) = sym (ap (λ o. naming_in (session_object o)) there) ∙ object_unnamed d.system L h r.session

    taken_slots : (q : SlotId) → naming_in (slot_at taken q) ≡ naming_in (slot_at d.world q)
    taken_slots q =
        elim (same_slot_id q (In_object r.session)) [
          | inl e ↦ (ap (λ q. naming_in (slot_at taken q)) e
              ∙ (ap (λ o. naming_in (session_object o)) (session_here (record (standing d begun) { requests = rest }) r.session old s there)
              ∙ (object_now r.ask ∙ (sym (object_unnamed d.system L h r.session) ∙ ap (λ q. naming_in (slot_at d.world q)) (sym e)))))
          | inr e ↦ ap naming_in (session_slots (record (standing d begun) { requests = rest }) r.session old s there (In_object r.session)
              (λ i other. ap (λ slots. slice_get slots i) (sym (kept_as r.ask).4)) (λ other. absurd (other refl)) q e ∙ stand_slots begun refl q)
        ]

    accepts : Accepts L (links taken) d.x r.session (outline old) (outline s) current_now
    accepts =
        let k = kept_as r.ask in
        let a = accepted_now r.ask asked_as in
        record {
          serving = stood d t ∙ (λ i. Some (stance (serves i) d.leaf.current))
              ∙ ap (λ o. Some (stance Serving o)) (no_current_serving d.leaf.current (subst (λ p. Fits p d.leaf.current) serves fits_now));
          was = there_l;
          server = server_is;
          kept_client = k.0;
          kept_slot_id = k.1;
          kept_server = k.2;
          kept_service = k.3;
          accepted = a.0;
          object = a.1;
          current_session = refl;
          at_level = at_level_now r.ask asked_as;
          taken = (let n = found.counts r.session in let one = one_one r.session r.session refl in omega (arith, n, one));
          counts = λ j ne. (let n = found.counts j in let none = one_none r.session j (λ e. ne (sym e)) in omega (arith, n, none));
          asked = found.left h.asked;
          slots = taken_slots;
          session = ap outline_in (session_here (record (standing d begun) { requests = rest }) r.session old s there);
          sessions = λ j ne. ap outline_in (session_else (record (standing d begun) { requests = rest }) r.session j s ne);
          stance_x = stand_stance begun;
          stances = stand_stances begun;
        }

    taken_linked : AreLinked d.system (links taken)
    taken_linked = changes_linked same_slot_id d.system L (links taken) r.session s.slot_id h
        (accepts_changes d.system L (links taken) d.x r.session (outline old) (outline s) current_now h accepts)

    taken_ends : Ends (IsLinkedWorld d.system) (when (paid d.system taken) ExceededQuota
        (need (section_in section d.component.node.program.sections) MissingSection (λ b. Ok (taken, Quiet))))
    taken_ends = when_ends (IsLinkedWorld d.system) _ _ _ (need_ends (IsLinkedWorld d.system) _ _ _ (λ b. gives taken Quiet taken_linked))

  pub accept_ends : d.leaf.phase ≡ Serving → (r : Request) (rest : List Request) → oldest d.world d.x d.world.requests ≡ Some (r, rest)
      → Ends (IsLinkedWorld d.system) (accept d r rest)
  accept_ends serves r rest e = need_found (IsLinkedWorld d.system) _ _ _
      (λ old there. taken_ends serves r rest (oldest_found (IsAsked L) d.world d.x d.world.requests (r, rest) e) old there)
