-- Requests keep sessions, slots, requests and current requests in agreement.
use Rattle.std.proofs.Common.{◌≡◌, ◌≢◌, ℕ, suc, ◌⊎◌, inl, inr, true, false, not, [], ◌∷◌, ◌++◌, Option, Some, None, refl, ap, sym, ◌∙◌, subst, arith}
use Rattle.std.specs.Prelude.{slice_get}
use Rattle.std.proofs.lemmas.Bool.Decides.{eqb_tells}
use Rattle.gq_model.specs.declared.program.OperandSlot.{OperandSlot}
use Rattle.gq_model.specs.declared.program.OperandSlot.TheVariants.{Own, Shared, Object}
use Rattle.gq_model.specs.declared.fault.Wrong.TheVariants.{WrongKind, ExceededQuota}
use Rattle.gq_model.specs.declared.phase.Phase.{Phase}
use Rattle.gq_model.specs.declared.phase.Phase.TheVariants.{Blocked}
use Rattle.gq_model.specs.machine.Amounts.{Amount, amount, plus}
use Rattle.gq_model.specs.machine.Scenario.{System, interface_in, upgrade_caps}
use Rattle.gq_model.specs.machine.World.{Slot, Link, Waiting, SlotId, In_leaf, In_session, In_object, Session, Ask, Ask_upgrade, Ask_close, Ask_call, Current}
use Rattle.gq_model.specs.machine.World.{Leaf}
use Rattle.gq_model.specs.machine.World.{World, session_at, with_leaf, with_session, leaf_slot, slot_at, with_slot, slot_id_of}
use Rattle.gq_model.specs.machine.Doing.{Doing, Quiet, Stepped, with_operands}
use Rattle.gq_model.specs.machine.Sums.{paid}
use Rattle.gq_model.specs.machine.Requests.{asked, link_in, upgrade, call, close}
use Rattle.gq_laws.specs.Session_links.{Naming, Leads, Waits, named, naming_in, IsBytes, outline, outline_in, stance, stance_in, Links, links, requests_of}
use Rattle.gq_laws.specs.Session_links.{at_current}
use Rattle.gq_laws.specs.Session_links.{pending_of, is_open, Stands, Belongs, IsRouted, Handles, AreLinked, IsLinkedWorld}
use Rattle.gq_laws.proofs.step_shapes.Step_end_shapes.{Ends, gives, fails, need_found, when_ends, pop_ends}
use Rattle.gq_laws.proofs.session_links.Linked_after_change.{changes_linked}
use Rattle.gq_model.proofs.Small_facts.{some_same, none_some}
use Rattle.gq_laws.proofs.session_links.Asked_request_changes.{apart, names_apart, at_server, one_one, Kept, Asks, asks_changes}
use Rattle.gq_laws.proofs.session_links.Written_world_links.{same_slot_id, set_here, set_else, leaf_stance, leaf_stances, session_here, session_else}
use Rattle.gq_laws.proofs.session_links.Written_world_links.{session_slots, slot_here}
use Rattle.gq_laws.proofs.session_links.Written_world_links.{slot_else, slot_outlines, slot_stances, slot_requests}
use Rattle.gq_laws.proofs.session_links.Link_free_statements.{stood}
use Rattle.gq_laws.specs.Inside_steps.{TakesLeaf}

-- SPOTS OF A LEAF

-- what an operand names is the leaf's own, or of the session current at it
own_slot_id : (l : Links) (x : ℕ) (current : Option Current) (place : OperandSlot) (q : SlotId) (c : ℕ) → ((g : Current) → current ≡ Some g → Handles l x g)
    → slot_id_of x current place ≡ Some q → Belongs l q c → c ≡ x
own_slot_id l x current (Own i) q c h e b = go (subst (λ q. Belongs l q c) (some_same (sym e)) b)
  where
    go : Belongs l (In_leaf x i) c → c ≡ x
    go b = sym b
own_slot_id l x None (Shared i) q c h e b = absurd (none_some e)
own_slot_id l x (Some g) (Shared i) q c h e b = go (subst (λ q. Belongs l q c) (some_same (sym e)) b)
  where
    go : Belongs l (In_session g.session i) c → c ≡ x
    go b = let s = h g refl in sym b.3 ∙ ap (λ (s : Session). s.server) (some_same (sym b.1 ∙ s.1)) ∙ s.2
own_slot_id l x None Object q c h e b = absurd (none_some e)
own_slot_id l x (Some g) Object q c h e b = absurd (subst (λ q. Belongs l q c) (some_same (sym e)) b)

pub slot_id_belongs : (l : Links) (x : ℕ) (current : Option Current) (place : OperandSlot) (q : SlotId) → ((g : Current) → current ≡ Some g → Handles l x g)
    → slot_id_of x current place ≡ Some q → ((k : ℕ) → q ≢ In_object k) → Belongs l q x
slot_id_belongs l x current (Own i) q h e other = subst (λ q. Belongs l q x) (some_same e) refl
slot_id_belongs l x None (Shared i) q h e other = absurd (none_some e)
slot_id_belongs l x (Some g) (Shared i) q h e other = let s = h g refl in subst (λ q. Belongs l q x) (some_same e) (s.0, s.1, s.3, s.2)
slot_id_belongs l x None Object q h e other = absurd (none_some e)
slot_id_belongs l x (Some g) Object q h e other = absurd (other g.session (some_same (sym e)))

-- A REQUEST

-- what has to hold before the x-th leaf asks something of session k
pub record Ready (system : System) (l : Links) (x : ℕ) (k : ℕ) (s : Session) (ask : Ask) : Type 0 where
  pub client : s.client ≡ x
  pub kept : (t : Session) → l.sessions k ≡ Some t → Kept t s
  pub no_current : (y : ℕ) (p : Phase) (g : Current) → l.stances y ≡ Some (stance p (Some g)) → g.session ≢ k
  pub no_request : requests_of k l.requests ≡ 0
  pub elsewhere : (j : ℕ) (t : Session) → j ≢ k → l.sessions j ≡ Some t → t.slot_id ≢ s.slot_id
  pub names : (r : SlotId) (n : Naming) → r ≢ s.slot_id → l.slots r ≡ Some n → named n ≢ k
  pub belongs : Belongs l s.slot_id x
  pub routed : IsRouted system s
  pub opens : s.accepted ≡ false → s.level ≡ 0
  pub objects : s.accepted ≡ true → IsBytes s.object
  pub ask_fits : s.accepted ≡ not (is_open ask)

-- the world in which the session stands as it will, and all but its slot as before
pub record Prepared (d : Doing) (w : World) (q : SlotId) (k : ℕ) (s : Session) : Type 0 where
  pub slots : (r : SlotId) → r ≢ q → naming_in (slot_at w r) ≡ naming_in (slot_at d.world r)
  pub there : (slot : Slot) × (slot_at w q ≡ Some slot)
  pub was_there : (slot : Slot) × (slot_at d.world q ≡ Some slot)
  pub leaf : (leaf : Leaf) × (slice_get w.leaves d.x ≡ Some leaf)
  pub stances : (y : ℕ) → stance_in (slice_get w.leaves y) ≡ stance_in (slice_get d.world.leaves y)
  pub session : outline_in (session_at w k) ≡ Some s
  pub sessions : (j : ℕ) → j ≢ k → outline_in (session_at w j) ≡ outline_in (session_at d.world j)
  pub requests : w.requests ≡ d.world.requests
  pub not_object : (j : ℕ) → q ≢ In_object j

module _ (d : Doing) (t : TakesLeaf d) (active : d.leaf.phase ≢ Blocked) (h : AreLinked d.system (links d.world)) (w : World) (k : ℕ) (s : Session) (ask : Ask)
    (r : Ready d.system (links d.world) d.x k s ask) (p : Prepared d w s.slot_id k s) where
  abbrev blocking : World
  blocking = with_leaf w d.x (record d.leaf { phase = Blocked })

  abbrev waiting : World
  waiting = with_slot blocking s.slot_id (Waiting k)

  abbrev after : World
  after = record waiting { requests = waiting.requests ++ record { session = k; ask = ask } ∷ [] }

  -- the leaf's own slots are as they were in the world
  restored : (r : SlotId) → (slot_at blocking r ≡ slot_at w r) ⊎ (slot_at blocking r ≡ slot_at d.world r)
  restored (In_leaf y i) =
      elim (eqb_tells y d.x) [
        | inl e ↦ inr (ap (λ y. leaf_slot (slice_get blocking.leaves y) i) e.1
            ∙ (ap (λ o. leaf_slot o i) (set_here w.leaves d.x (record d.leaf { phase = Blocked }) p.leaf.0 p.leaf.1)
            ∙ (ap (λ s. slice_get s i) t.slots ∙ (sym (ap (λ o. leaf_slot o i) t.there) ∙ ap (λ y. leaf_slot (slice_get d.world.leaves y) i) (sym e.1)))))
        | inr e ↦ inl (ap (λ o. leaf_slot o i) (set_else w.leaves d.x y (record d.leaf { phase = Blocked }) e.1))
      ]
  restored (In_session j i) = inl refl
  restored (In_object j) = inl refl

  blocking_there : (slot : Slot) × (slot_at blocking s.slot_id ≡ Some slot)
  blocking_there = elim (restored s.slot_id) [ inl e ↦ (p.there.0, e ∙ p.there.1) | inr e ↦ (p.was_there.0, e ∙ p.was_there.1) ]

  after_slots : (r : SlotId) → r ≢ s.slot_id → naming_in (slot_at after r) ≡ naming_in (slot_at d.world r)
  after_slots r ne = ap naming_in (slot_else blocking s.slot_id (Waiting k) r ne)
      ∙ (elim (restored r) [ inl e ↦ ap naming_in e ∙ p.slots r ne | inr e ↦ ap naming_in e ])

  after_outlines : (j : ℕ) → outline_in (session_at after j) ≡ outline_in (session_at w j)
  after_outlines j = slot_outlines blocking s.slot_id (Waiting k) (λ i u at e. absurd (p.not_object i at)) j

  after_stance : stance_in (slice_get after.leaves d.x) ≡ Some (stance Blocked d.leaf.current)
  after_stance = slot_stances blocking s.slot_id (Waiting k) d.x ∙ leaf_stance w d.x p.leaf.0 (record d.leaf { phase = Blocked }) p.leaf.1

  after_stances : (y : ℕ) → y ≢ d.x → stance_in (slice_get after.leaves y) ≡ stance_in (slice_get d.world.leaves y)
  after_stances y ne = slot_stances blocking s.slot_id (Waiting k) y
      ∙ (leaf_stances w d.x p.leaf.0 (record d.leaf { phase = Blocked }) p.leaf.1 y ne ∙ p.stances y)

  after_belongs : (q : SlotId) → Belongs (links d.world) q d.x → Belongs (links after) q d.x
  after_belongs (In_leaf y i) b = b
  after_belongs (In_object j) b = b
  after_belongs (In_session j i) b =
      elim (eqb_tells j k) [
        | inl e ↦ (let was = r.kept b.0 (ap (λ j. outline_in (session_at d.world j)) (sym e.1) ∙ b.1) in
            (s, ap (λ j. outline_in (session_at after j)) e.1 ∙ (after_outlines k ∙ p.session), sym was.accepted ∙ b.2, sym was.server ∙ b.3))
        | inr e ↦ (b.0, after_outlines j ∙ (p.sessions j e.1 ∙ b.1), b.2, b.3)
      ]

  asks : Asks d.system (links d.world) (links after) d.x d.leaf.phase d.leaf.current k s ask
  asks =
      record {
        active = stood d t;
        is_active = active;
        client = r.client;
        kept = r.kept;
        no_current = r.no_current;
        no_request = r.no_request;
        elsewhere = r.elsewhere;
        names = r.names;
        belongs = after_belongs s.slot_id r.belongs;
        routed = r.routed;
        opens = r.opens;
        objects = r.objects;
        ask_fits = r.ask_fits;
        slot = ap naming_in (slot_here blocking s.slot_id (Waiting k) blocking_there.0 blocking_there.1);
        slots = after_slots;
        session = after_outlines k ∙ p.session;
        sessions = λ j ne. after_outlines j ∙ p.sessions j ne;
        stance_x = after_stance;
        stances = after_stances;
        requests = ap (λ rs. rs ++ record { session = k; ask = ask } ∷ []) (slot_requests blocking s.slot_id (Waiting k) ∙ p.requests);
      }

  pub asked_linked : Ends (IsLinkedWorld d.system) (asked d w s.slot_id k ask)
  asked_linked =
      when_ends (IsLinkedWorld d.system) (paid d.system after) ExceededQuota _ (gives after Quiet
      (changes_linked same_slot_id d.system (links d.world) (links after) k s.slot_id h
      (asks_changes d.system (links d.world) (links after) d.x d.leaf.phase d.leaf.current k s ask h asks)))

-- REQUESTS OF A LINKED SESSION

-- the session that is found behind a link
pub link_found : (P : World → Type 0) (w : World) (q : SlotId) (go : ℕ → Session → Stepped)
    → ((k : ℕ) (s : Session) → slot_at w q ≡ Some (Link k) → session_at w k ≡ Some s → Ends P (go k s)) → Ends P (link_in w (slot_at w q) go)
link_found P w q go h = by (slot_at w q) refl
  where
    by : (o : Option Slot) → slot_at w q ≡ o → Ends P (link_in w o go)
    by (Some (Link k)) e = need_found P (session_at w k) WrongKind (go k) (λ s f. h k s e f)
    by _ e = fails WrongKind

module _ (d : Doing) (t : TakesLeaf d) (active : d.leaf.phase ≢ Blocked) (h : AreLinked d.system (links d.world)) where
  abbrev L : Links
  L = links d.world

  handled : (g : Current) → d.leaf.current ≡ Some g → Handles L d.x g
  handled g e = h.handles d.x d.leaf.phase g (stood d t ∙ ap (λ o. Some (stance d.leaf.phase o)) e)

  module _ (place : OperandSlot) (q : SlotId) (at : slot_id_of d.x d.leaf.current place ≡ Some q) (k : ℕ) (s : Session)
      (link : slot_at d.world q ≡ Some (Link k))
      (there : session_at d.world k ≡ Some s) where
    there_l : L.sessions k ≡ Some (outline s)
    there_l = ap outline_in there

    link_l : L.slots q ≡ Some (Leads k)
    link_l = ap naming_in link

    pub slot_id_is : s.slot_id ≡ q
    slot_id_is = let u = h.named q (Leads k) link_l in ap (λ (s : Session). s.slot_id) (some_same (sym there_l ∙ u.1)) ∙ u.2

    -- it is accepted, and has no request
    at_rest : (s.accepted ≡ true) × (pending_of L k (outline s) ≡ 0)
    at_rest = go (h.stands k (outline s) there_l)
      where
        leads_waits : Some (Leads k) ≡ Some (Waits k) → ⊥
        leads_waits e = cc

        go : Stands L k (outline s) → (s.accepted ≡ true) × (pending_of L k (outline s) ≡ 0)
        go (inl u) = (u.1, u.2)
        go (inr u) = absurd (leads_waits (sym link_l ∙ ap L.slots (sym slot_id_is) ∙ u.0))

    client_is : s.client ≡ d.x
    client_is = own_slot_id L d.x d.leaf.current place q s.client handled at (subst (λ q. Belongs L q s.client) slot_id_is (h.belongs k (outline s) there_l))

    none_current : (y : ℕ) (p : Phase) (g : Current) → L.stances y ≡ Some (stance p (Some g)) → g.session ≢ k
    none_current y p g e same =
        let server = at_server d.system L h k (outline s) there_l y p g e same in
        let one = ap (λ y. at_current k (L.stances y)) server ∙ ap (at_current k) e ∙ one_one g.session k same in
        let none = at_rest.1 in
        absurd (omega (arith, one, none))

    pub is_object : (j : ℕ) → q ≢ In_object j
    is_object j same = subst (λ q. Belongs L q s.client) (slot_id_is ∙ same) (h.belongs k (outline s) there_l)

    -- the session with another donation
    module _ (given : Amount) (ask : Ask) (further : is_open ask ≡ false) where
      abbrev with_given : Session
      with_given = record s { donation = given }

      pub link_ready : Ready d.system L d.x k (outline with_given) ask
      link_ready =
          record {
            client = client_is;
            kept = λ u e. let same = some_same (sym there_l ∙ e) in
                record {
                  client = ap (λ (s : Session). s.client) (sym same);
                  slot_id = ap (λ (s : Session). s.slot_id) (sym same);
                  server = ap (λ (s : Session). s.server) (sym same);
                  accepted = ap (λ (s : Session). s.accepted) (sym same);
                };
            no_current = none_current;
            no_request = (let none = at_rest.1 in omega (arith, none));
            elsewhere = apart d.system L h k (outline s) there_l;
            names = names_apart d.system L h k (outline s) there_l;
            belongs = subst (Belongs L s.slot_id) client_is (h.belongs k (outline s) there_l);
            routed = h.routed k (outline s) there_l;
            opens = h.opens k (outline s) there_l;
            objects = h.objects k (outline s) there_l;
            ask_fits = at_rest.0 ∙ sym (ap not further);
          }

      given_prepared : Prepared d (with_session d.world k with_given) s.slot_id k (outline with_given)
      given_prepared =
          record {
            slots = λ r ne. ap naming_in (session_slots d.world k s with_given there s.slot_id (λ i other. refl) (λ other. refl) r ne);
            there = (Link k, given_slot);
            was_there = (Link k, ap (slot_at d.world) slot_id_is ∙ link);
            leaf = (t.old, t.there);
            stances = λ y. refl;
            session = ap outline_in (session_here d.world k s with_given there);
            sessions = λ j ne. ap outline_in (session_else d.world k j with_given ne);
            requests = refl;
            not_object = λ j same. is_object j (sym slot_id_is ∙ same);
          }
        where
          -- a slot other than the one that is looked at, so that no slot is left out
          given_slot : slot_at (with_session d.world k with_given) s.slot_id ≡ Some (Link k)
          given_slot = session_slots d.world k s with_given there (In_object (suc k)) (λ i other. refl) (λ other. refl) s.slot_id
              (λ same. is_object (suc k) (sym slot_id_is ∙ same)) ∙ (ap (slot_at d.world) slot_id_is ∙ link)

      same_prepared : given ≡ s.donation → Prepared d d.world s.slot_id k (outline with_given)
      same_prepared same =
          record {
            slots = λ r ne. refl;
            there = (Link k, ap (slot_at d.world) slot_id_is ∙ link);
            was_there = (Link k, ap (slot_at d.world) slot_id_is ∙ link);
            leaf = (t.old, t.there);
            stances = λ y. refl;
            session = there_l ∙ ap (λ a. Some (outline (record s { donation = a }))) (sym same);
            sessions = λ j ne. refl;
            requests = refl;
            not_object = λ j same. is_object j (sym slot_id_is ∙ same);
          }

    pub given_ends : (given : Amount) (ask : Ask) → is_open ask ≡ false
        → Ends (IsLinkedWorld d.system) (asked d (with_session d.world k (record s { donation = given })) q k ask)
    given_ends given ask further =
        subst (λ q. Ends (IsLinkedWorld d.system) (asked d (with_session d.world k (record s { donation = given })) q k ask)) slot_id_is
        (asked_linked d t active h (with_session d.world k (record s { donation = given })) k (outline (record s { donation = given })) ask
        (link_ready given ask further) (given_prepared given ask further))

    pub link_ends : (ask : Ask) → is_open ask ≡ false → Ends (IsLinkedWorld d.system) (asked d d.world q k ask)
    link_ends ask further =
        subst (λ q. Ends (IsLinkedWorld d.system) (asked d d.world q k ask)) slot_id_is
        (asked_linked d t active h d.world k (outline s) ask (link_ready s.donation ask further) (same_prepared s.donation ask further refl))

  pub upgrade_ends : (place : OperandSlot) (n : ℕ) → Ends (IsLinkedWorld d.system) (upgrade d place n)
  upgrade_ends place n =
      need_found (IsLinkedWorld d.system) _ _ _ (λ q at. link_found (IsLinkedWorld d.system) d.world q _ (λ k s link there.
      given_ends place q at k s link there (plus s.donation (amount n (upgrade_caps (interface_in s.service d.system.interfaces) s.level))) Ask_upgrade refl))

  pub close_ends : (place : OperandSlot) → Ends (IsLinkedWorld d.system) (close d place)
  close_ends place = need_found (IsLinkedWorld d.system) _ _ _
      (λ q at. link_found (IsLinkedWorld d.system) d.world q _ (λ k s link there. link_ends place q at k s link there Ask_close refl))

pub call_ends : (d : Doing) → TakesLeaf d → d.leaf.phase ≢ Blocked → AreLinked d.system (links d.world) → (place : OperandSlot)
    → Ends (IsLinkedWorld d.system) (call d place)
call_ends d t active h place =
    pop_ends (IsLinkedWorld d.system) _ _ (λ a rest.
    let e : Doing = record d { leaf = with_operands d rest } in
    let u : TakesLeaf e = record { old = t.old; there = t.there; slots = t.slots; phase = t.phase; current = t.current; reacting = t.reacting } in
    need_found (IsLinkedWorld d.system) _ _ _ (λ q at. link_found (IsLinkedWorld d.system) d.world q _
    (λ k s link there. link_ends e u active h place q at k s link there (Ask_call a) refl)))
