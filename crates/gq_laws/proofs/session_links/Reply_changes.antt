-- What a reply and a close change of sessions, slots, requests and current requests, and a change of phase with no current request.
use Rattle.std.proofs.Common.{◌≡◌, ◌≢◌, ℕ, ◌+◌, ◌⊎◌, inl, inr, true, false, Option, Some, None, refl, ap, sym, ◌∙◌, subst, arith}
use Rattle.std.proofs.lemmas.Bool.Decides.{eqb_tells}
use Rattle.gq_model.specs.machine.Scenario.{System}
use Rattle.gq_model.specs.machine.World.{SlotId, In_leaf, In_session, In_object, Session, Current}
use Rattle.gq_model.specs.declared.phase.Phase.{Phase}
use Rattle.gq_model.specs.declared.phase.Phase.TheVariants.{Blocked, Serving, Handling}
use Rattle.gq_laws.specs.Shapes.{Each}
use Rattle.gq_laws.specs.Session_links.{Leads, Waits, named, Stance, stance, Links, requests_of, at_current, pending_of, Stands, Belongs, IsBytes, IsRouted}
use Rattle.gq_laws.specs.Session_links.{IsAsked}
use Rattle.gq_laws.specs.Session_links.{Handles, Fits, AreLinked}
use Rattle.gq_laws.proofs.session_links.Linked_after_change.{Changes}
use Rattle.gq_model.proofs.Small_facts.{some_same, none_some}
use Rattle.gq_laws.proofs.session_links.Asked_request_changes.{apart, at_server, each_map, is_blocked, names_apart, none_of, one_none, one_one, same_current}
use Rattle.gq_laws.proofs.session_links.Asked_request_changes.{same_phase}

-- REPLIES

-- the y-th leaf has ended the section for session k; the client, which was blocked, goes on
pub record Answers (l m : Links) (y k : ℕ) (s : Session) (g : Current) (phase : Phase) (current : Option Current) : Type 0 where
  pub handling : l.stances y ≡ Some (stance Handling (Some g))
  pub current_session : g.session ≡ k
  pub was : l.sessions k ≡ Some s
  pub waiting : l.stances s.client ≡ Some (stance Blocked current)
  pub goes_on : phase ≢ Blocked
  pub fits : Fits phase current
  pub slots : (r : SlotId) → r ≢ s.slot_id → m.slots r ≡ l.slots r
  pub sessions : (j : ℕ) → j ≢ k → m.sessions j ≡ l.sessions j
  pub serves : m.stances y ≡ Some (stance Serving None)
  pub client : m.stances s.client ≡ Some (stance phase current)
  pub stances : (z : ℕ) → z ≢ y → z ≢ s.client → m.stances z ≡ l.stances z
  pub requests : m.requests ≡ l.requests

handling_ne : Handling ≢ Blocked
handling_ne e = cc

module _ (system : System) (l m : Links) (y k : ℕ) (s : Session) (g : Current) (phase : Phase) (current : Option Current) (h : AreLinked system l)
    (a : Answers l m y k s g phase current) where
  server : s.server ≡ y
  server = at_server system l h k s a.was y Handling g a.handling a.current_session

  current_there : at_current k (l.stances s.server) ≡ 1
  current_there = ap (λ y. at_current k (l.stances y)) server ∙ ap (at_current k) a.handling ∙ one_one g.session k a.current_session

  -- its slot waits, and it has no further request
  pub was_asked : (l.slots s.slot_id ≡ Some (Waits k)) × (requests_of k l.requests ≡ 0)
  was_asked = go (h.stands k s a.was)
    where
      go : Stands l k s → (l.slots s.slot_id ≡ Some (Waits k)) × (requests_of k l.requests ≡ 0)
      go (inl u) = let none = u.2 in let one = current_there in absurd (omega (arith, none, one))
      go (inr u) = let all = u.1 in let one = current_there in (u.0, omega (arith, all, one))

  -- it was accepted
  pub was_accepted : s.accepted ≡ true
  was_accepted =
      let t = h.handles y Handling g a.handling in
      ap (λ (s : Session). s.accepted) (some_same (sym a.was ∙ ap l.sessions (sym a.current_session) ∙ t.1)) ∙ t.3

  answer_all_current : (j : ℕ) → j ≢ k → (z : ℕ) → at_current j (m.stances z) ≡ at_current j (l.stances z)
  answer_all_current j ne z = elim (eqb_tells z y) [
    | inl e ↦ at_y e.1
    | inr e ↦ elim (eqb_tells z s.client) [ inl f ↦ at_client f.1 | inr f ↦ ap (at_current j) (a.stances z e.1 f.1) ]
  ]
    where
      at_y : z ≡ y → at_current j (m.stances z) ≡ at_current j (l.stances z)
      at_y e =
          ap (λ z. at_current j (m.stances z)) e ∙ ap (at_current j) a.serves ∙ sym (one_none g.session j (λ same. ne (sym same ∙ a.current_session)))
          ∙ sym (ap (at_current j) a.handling) ∙ ap (λ z. at_current j (l.stances z)) (sym e)

      at_client : z ≡ s.client → at_current j (m.stances z) ≡ at_current j (l.stances z)
      at_client e = ap (λ z. at_current j (m.stances z)) e ∙ ap (at_current j) a.client ∙ sym (ap (at_current j) a.waiting)
          ∙ ap (λ z. at_current j (l.stances z)) (sym e)

  answer_others_wait : (j : ℕ) (t : Session) → j ≢ k → l.sessions j ≡ Some t → l.slots t.slot_id ≡ Some (Waits j) → m.stances t.client ≡ l.stances t.client
  answer_others_wait j t ne e v =
      a.stances t.client (is_blocked system l h j t e v y Handling (Some g) a.handling handling_ne) (λ same. ne (h.alone j k t s e a.was v was_asked.0 same))

  answer_blocked : (z : ℕ) (o : Option Current) → m.stances z ≡ Some (stance Blocked o)
      → (j : ℕ) × (t : Session) × (j ≢ k) × (l.sessions j ≡ Some t) × (t.client ≡ z) × (l.slots t.slot_id ≡ Some (Waits j))
  answer_blocked z o at = elim (eqb_tells z y) [
    | inl e ↦ absurd (serving_not (same_phase (sym a.serves ∙ ap m.stances (sym e.1) ∙ at)))
    | inr e ↦ elim (eqb_tells z s.client) [ inl f ↦ absurd (a.goes_on (same_phase (sym a.client ∙ ap m.stances (sym f.1) ∙ at))) | inr f ↦ there e.1 f.1 ]
  ]
    where
      serving_not : Serving ≢ Blocked
      serving_not e = cc

      there : z ≢ y → z ≢ s.client → (j : ℕ) × (t : Session) × (j ≢ k) × (l.sessions j ≡ Some t) × (t.client ≡ z) × (l.slots t.slot_id ≡ Some (Waits j))
      there ne other =
          let b = h.blocked z o (sym (a.stances z ne other) ∙ at) in
          (b.0, b.1, (λ same. other (sym b.3 ∙ ap (λ (s : Session). s.client) (some_same (sym b.2 ∙ ap l.sessions same ∙ a.was)))), b.2, b.3, b.4)

  -- what is current was there before, and is of another session
  answer_current : (z : ℕ) (p : Phase) (f : Current) → m.stances z ≡ Some (stance p (Some f)) → (f.session ≢ k) × Handles l z f
  answer_current z p f at = elim (eqb_tells z y) [
    | inl e ↦ absurd (none_some (same_current (sym a.serves ∙ ap m.stances (sym e.1) ∙ at)))
    | inr e ↦ elim (eqb_tells z s.client) [ inl c ↦ at_client e.1 c.1 | inr c ↦ by p e.1 (sym (a.stances z e.1 c.1) ∙ at) ]
  ]
    where
      by : (p : Phase) → z ≢ y → l.stances z ≡ Some (stance p (Some f)) → (f.session ≢ k) × Handles l z f
      by p ne was = ((λ same. ne (sym (at_server system l h k s a.was z p f was same) ∙ server)), h.handles z p f was)

      at_client : z ≢ y → z ≡ s.client → (f.session ≢ k) × Handles l z f
      at_client ne e = by Blocked ne (ap l.stances e ∙ a.waiting ∙ ap (λ o. Some (stance Blocked o)) (same_current (sym a.client ∙ ap m.stances (sym e) ∙ at)))

  answer_handles : (z : ℕ) (p : Phase) (f : Current) → m.stances z ≡ Some (stance p (Some f)) → Handles m z f
  answer_handles z p f at = let t = answer_current z p f at in (t.1.0, a.sessions f.session t.0 ∙ t.1.1, t.1.2, t.1.3, t.1.4)

  answer_fits : (z : ℕ) (u : Stance) → m.stances z ≡ Some u → Fits u.phase u.current
  answer_fits z u at =
      elim (eqb_tells z y) [
        | inl e ↦ subst (λ (t : Stance). Fits t.phase t.current) (some_same (sym a.serves ∙ ap m.stances (sym e.1) ∙ at)) tt
        | inr e ↦ elim (eqb_tells z s.client) [
          | inl f ↦ subst (λ (t : Stance). Fits t.phase t.current) (some_same (sym a.client ∙ ap m.stances (sym f.1) ∙ at)) a.fits
          | inr f ↦ h.fits z u (sym (a.stances z e.1 f.1) ∙ at)
        ]
      ]

  answer_asked : Each (IsAsked m) m.requests
  answer_asked =
      subst (Each (IsAsked m)) (sym a.requests)
      (each_map (λ r. IsAsked l r × (r.session ≢ k)) (IsAsked m) (λ r p. (p.0.0, a.sessions r.session p.1 ∙ p.0.1, p.0.2)) l.requests
      (none_of (IsAsked l) k l.requests was_asked.1 h.asked))

  -- the session stays, and its slot is a link
  pub link_changes : m.sessions k ≡ Some s → m.slots s.slot_id ≡ Some (Leads k) → Changes system l m k s.slot_id
  link_changes there link =
      record {
        sessions = a.sessions;
        slots = a.slots;
        counts = λ j ne. ap (requests_of j) a.requests;
        all_current = answer_all_current;
        elsewhere = λ j t ne e. apart system l h k s a.was j t ne e;
        names = names_apart system l h k s a.was;
        owns = inl (λ t e yes. (s, there, was_accepted, ap (λ (s : Session). s.server) (some_same (sym a.was ∙ e))));
        at_slot_id = λ n e. (s, ap (λ n. m.sessions (named n)) (some_same (sym e ∙ link)) ∙ there, refl);
        stands = link_it (Stands m k) (inl (link, was_accepted, none_pending));
        belongs = link_it (λ s. Belongs m s.slot_id s.client) (still s.slot_id (h.belongs k s a.was));
        routed = link_it (IsRouted system) (h.routed k s a.was);
        opens = link_it (λ s. s.accepted ≡ false → s.level ≡ 0) (h.opens k s a.was);
        objects = link_it (λ s. s.accepted ≡ true → IsBytes s.object) (h.objects k s a.was);
        waits = link_it (λ s. m.slots s.slot_id ≡ Some (Waits k)
            → (current : Option Current) × (m.stances s.client ≡ Some (stance Blocked current))) (λ w. absurd (leads_waits (sym link ∙ w)));
        alone = link_it (λ s. m.slots s.slot_id ≡ Some (Waits k) → (j : ℕ) (t : Session) → j ≢ k → l.sessions j ≡ Some t → l.slots t.slot_id ≡ Some (Waits j)
            → t.client ≢ s.client) (λ w. absurd (leads_waits (sym link ∙ w)));
        others_wait = answer_others_wait;
        blocked = λ z o at. inr (answer_blocked z o at);
        asked = answer_asked;
        handles = answer_handles;
        fits = answer_fits;
      }
    where
      leads_waits : Some (Leads k) ≡ Some (Waits k) → ⊥
      leads_waits e = cc

      link_it : (P : Session → Type 0) → P s → (t : Session) → m.sessions k ≡ Some t → P t
      link_it P p t e = subst P (some_same (sym there ∙ e)) p

      none_pending : pending_of m k s ≡ 0
      none_pending =
          let none = ap (requests_of k) a.requests ∙ was_asked.1 in
          let current = ap (λ y. at_current k (m.stances y)) server ∙ ap (at_current k) a.serves in
          omega (arith, none, current)

      still : (q : SlotId) → Belongs l q s.client → Belongs m q s.client
      still (In_leaf x i) b = b
      still (In_object j) b = b
      still (In_session j i) b =
          elim (eqb_tells j k) [
            | inl e ↦ (s, ap m.sessions e.1 ∙ there, was_accepted, ap (λ (s : Session). s.server) (some_same (sym a.was ∙ ap l.sessions (sym e.1) ∙ b.1)) ∙ b.3)
            | inr e ↦ (b.0, a.sessions j e.1 ∙ b.1, b.2, b.3)
          ]

  -- the session is gone with its slots, which name none, and the client's slot is free
  pub close_changes : m.sessions k ≡ None → m.slots s.slot_id ≡ None → ((i : ℕ) → l.slots (In_session k i) ≡ None) → Changes system l m k s.slot_id
  close_changes gone bare slots =
      record {
        sessions = a.sessions;
        slots = a.slots;
        counts = λ j ne. ap (requests_of j) a.requests;
        all_current = answer_all_current;
        elsewhere = λ j t ne e. apart system l h k s a.was j t ne e;
        names = names_apart system l h k s a.was;
        owns = inr slots;
        at_slot_id = λ n e. absurd (none_some (sym bare ∙ e));
        stands = λ t e. absurd (none_some (sym gone ∙ e));
        belongs = λ t e. absurd (none_some (sym gone ∙ e));
        routed = λ t e. absurd (none_some (sym gone ∙ e));
        opens = λ t e. absurd (none_some (sym gone ∙ e));
        objects = λ t e. absurd (none_some (sym gone ∙ e));
        waits = λ t e. absurd (none_some (sym gone ∙ e));
        alone = λ t e. absurd (none_some (sym gone ∙ e));
        others_wait = answer_others_wait;
        blocked = λ z o at. inr (answer_blocked z o at);
        asked = answer_asked;
        handles = answer_handles;
        fits = answer_fits;
      }

-- LEAVES WITHOUT A REQUEST AT HAND

-- a leaf stands as it did, or in another phase, without a current request before and after
pub record Steps_aside (before after : Option Stance) : Type 0 where
  pub old : Phase
  pub new : Phase
  pub stood : before ≡ Some (stance old None)
  pub stands : after ≡ Some (stance new None)
  pub old_ne : old ≢ Blocked
  pub new_ne : new ≢ Blocked
  pub new_fits : Fits new None

pub record Is_calm (l m : Links) : Type 0 where
  pub slots : (r : SlotId) → m.slots r ≡ l.slots r
  pub sessions : (j : ℕ) → m.sessions j ≡ l.sessions j
  pub requests : m.requests ≡ l.requests
  pub stances : (y : ℕ) → (m.stances y ≡ l.stances y) ⊎ Steps_aside (l.stances y) (m.stances y)

module _ (system : System) (l m : Links) (h : AreLinked system l) (a : Is_calm l m) where
  calm_current : (y : ℕ) (p : Phase) (g : Current) → m.stances y ≡ Some (stance p (Some g)) → l.stances y ≡ Some (stance p (Some g))
  calm_current y p g at = elim (a.stances y) [ inl e ↦ sym e ∙ at | inr e ↦ absurd (none_some (same_current (sym e.stands ∙ at))) ]

  calm_at : (k y : ℕ) → at_current k (m.stances y) ≡ at_current k (l.stances y)
  calm_at k y = elim (a.stances y) [ inl e ↦ ap (at_current k) e | inr e ↦ ap (at_current k) e.stands ∙ sym (ap (at_current k) e.stood) ]

  calm_blocked : (y : ℕ) (g : Option Current) → m.stances y ≡ Some (stance Blocked g) → l.stances y ≡ Some (stance Blocked g)
  calm_blocked y g at = elim (a.stances y) [ inl e ↦ sym e ∙ at | inr e ↦ absurd (e.new_ne (same_phase (sym e.stands ∙ at))) ]

  still_blocked : (y : ℕ) (g : Option Current) → l.stances y ≡ Some (stance Blocked g) → m.stances y ≡ Some (stance Blocked g)
  still_blocked y g at = elim (a.stances y) [ inl e ↦ e ∙ at | inr e ↦ absurd (e.old_ne (same_phase (sym e.stood ∙ at))) ]

  calm_belongs : (q : SlotId) (x : ℕ) → Belongs l q x → Belongs m q x
  calm_belongs (In_leaf y i) x b = b
  calm_belongs (In_session j i) x b = (b.0, a.sessions j ∙ b.1, b.2, b.3)
  calm_belongs (In_object j) x b = b

  calm_stands : (k : ℕ) (s : Session) → Stands l k s → Stands m k s
  calm_stands k s (inl u) = let all : pending_of m k s ≡ pending_of l k s = (λ i. requests_of k (a.requests i) + calm_at k s.server i) in
      inl (a.slots s.slot_id ∙ u.0, u.1, all ∙ u.2)
  calm_stands k s (inr u) = let all : pending_of m k s ≡ pending_of l k s = (λ i. requests_of k (a.requests i) + calm_at k s.server i) in
      inr (a.slots s.slot_id ∙ u.0, all ∙ u.1)

  pub calm_linked : AreLinked system m
  calm_linked =
      record {
        stands = λ k s e. calm_stands k s (h.stands k s (sym (a.sessions k) ∙ e));
        named = λ q n e. let s = h.named q n (sym (a.slots q) ∙ e) in (s.0, a.sessions (named n) ∙ s.1, s.2);
        belongs = λ k s e. calm_belongs s.slot_id s.client (h.belongs k s (sym (a.sessions k) ∙ e));
        routed = λ k s e. h.routed k s (sym (a.sessions k) ∙ e);
        opens = λ k s e. h.opens k s (sym (a.sessions k) ∙ e);
        objects = λ k s e. h.objects k s (sym (a.sessions k) ∙ e);
        asked = subst (Each (IsAsked m)) (sym a.requests) (each_map (IsAsked l) (IsAsked m) (λ r s. (s.0, a.sessions r.session ∙ s.1, s.2)) l.requests h.asked);
        handles = λ y p g at. let s = h.handles y p g (calm_current y p g at) in (s.0, a.sessions g.session ∙ s.1, s.2, s.3, s.4);
        fits = λ y t at. elim (a.stances y) [
          | inl e ↦ h.fits y t (sym e ∙ at)
          | inr e ↦ subst (λ (t : Stance). Fits t.phase t.current) (some_same (sym e.stands ∙ at)) e.new_fits
        ];
        waits = λ k s e w. let g = h.waits k s (sym (a.sessions k) ∙ e) (sym (a.slots s.slot_id) ∙ w) in (g.0, still_blocked s.client g.0 g.1);
        alone = λ k j s t e f w v same. h.alone k j s t (sym (a.sessions k) ∙ e) (sym (a.sessions j) ∙ f) (sym (a.slots s.slot_id) ∙ w) (sym (a.slots t.slot_id)
            ∙ v) same;
        blocked = λ y g at. let b = h.blocked y g (calm_blocked y g at) in (b.0, b.1, a.sessions b.0 ∙ b.2, b.3, a.slots b.1.slot_id ∙ b.4);
      }
