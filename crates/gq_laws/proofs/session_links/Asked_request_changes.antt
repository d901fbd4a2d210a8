-- What a request changes of sessions, slots, requests and current requests.
use Rattle.std.proofs.Common.{◌≡◌, ◌≢◌, ℕ, ◌+◌, ◌==◌, ◌⊎◌, inl, inr, true, false, not, List, [], ◌∷◌, ◌++◌, Option, Some, None, refl, ap, sym, ◌∙◌, subst}
use Rattle.std.proofs.Common.{arith}
use Rattle.std.proofs.lemmas.Bool.Decides.{eqb_tells}
use Rattle.gq_model.specs.machine.Scenario.{System}
use Rattle.gq_model.specs.machine.World.{SlotId, Session, Ask, Request, Current}
use Rattle.gq_model.specs.declared.phase.Phase.{Phase}
use Rattle.gq_model.specs.declared.phase.Phase.TheVariants.{Blocked}
use Rattle.gq_laws.specs.Shapes.{Each}
use Rattle.gq_laws.specs.Session_links.{Naming, Leads, Waits, named, Stance, stance, Links, one_if, requests_of, by_current, at_current, is_open, Stands}
use Rattle.gq_laws.specs.Session_links.{Belongs}
use Rattle.gq_laws.specs.Session_links.{IsBytes}
use Rattle.gq_laws.specs.Session_links.{IsRouted, IsAsked, Handles, Fits, AreLinked}
use Rattle.gq_laws.proofs.session_links.Linked_after_change.{Changes}
use Rattle.gq_model.proofs.Small_facts.{some_same}

-- LISTS AND COUNTS

pub each_map : {A : Type 0} (P Q : A → Type 0) → ((a : A) → P a → Q a) → (items : List A) → Each P items → Each Q items
each_map P Q f [] h = tt
each_map P Q f (a ∷ rest) h = (f a h.0, each_map P Q f rest h.1)

pub each_end : {A : Type 0} (P : A → Type 0) (items : List A) (a : A) → Each P items → P a → Each P (items ++ a ∷ [])
each_end P [] a h p = (p, tt)
each_end P (b ∷ rest) a h p = (h.0, each_end P rest a h.1 p)

pub requests_end : (k : ℕ) (rs : List Request) (r : Request) → requests_of k (rs ++ r ∷ []) ≡ requests_of k rs + one_if (r.session == k)
requests_end k [] r = omega arith
requests_end k (q ∷ rest) r = let h = requests_end k rest r in omega (arith, h)

pub one_none : (a b : ℕ) → a ≢ b → one_if (a == b) ≡ 0
one_none a b ne = elim (eqb_tells a b) [ inl e ↦ absurd (ne e.1) | inr e ↦ ap one_if e.0 ]

pub one_one : (a b : ℕ) → a ≡ b → one_if (a == b) ≡ 1
one_one a b same = elim (eqb_tells a b) [ inl e ↦ ap one_if e.0 | inr e ↦ absurd (e.1 same) ]

-- where there is no request of session k, each is of another
pub none_of : (P : Request → Type 0) (k : ℕ) (rs : List Request) → requests_of k rs ≡ 0 → Each P rs → Each (λ r. P r × (r.session ≢ k)) rs
none_of P k [] e h = tt
none_of P k (r ∷ rest) e h = ((h.0, first), none_of P k rest (omega (arith, e)) h.1)
  where
    first : r.session ≢ k
    first same = let one = one_one r.session k same in omega (arith, e, one)

no_current : (k : ℕ) (current : Option Current) → ((g : Current) → current ≡ Some g → g.session ≢ k) → by_current k current ≡ 0
no_current k None h = refl
no_current k (Some g) h = one_none g.session k (h g refl)

pub no_current_at : (k : ℕ) (t : Option Stance) → ((g : Current) (p : Phase) → t ≡ Some (stance p (Some g)) → g.session ≢ k) → at_current k t ≡ 0
no_current_at k None h = refl
no_current_at k (Some t) h = no_current k t.current (λ g e. h g t.phase (ap (λ o. Some (stance t.phase o)) e))

pub same_current : {p q : Phase} {a b : Option Current} → Some (stance p a) ≡ Some (stance q b) → a ≡ b
same_current {p} {q} {a} {b} e = ap current_or e
  where
    current_or : Option Stance → Option Current
    current_or None = None
    current_or (Some t) = t.current

pub same_phase : {p q : Phase} {a b : Option Current} → Some (stance p a) ≡ Some (stance q b) → p ≡ q
same_phase {p} {q} {a} {b} e = ap phase_or e
  where
    phase_or : Option Stance → Phase
    phase_or None = p
    phase_or (Some t) = t.phase

-- SLOTS AND SESSIONS

module _ (system : System) (l : Links) (h : AreLinked system l) where
  -- a session's slot names it
  pub its_slot : (k : ℕ) (s : Session) → l.sessions k ≡ Some s → (n : Naming) × (l.slots s.slot_id ≡ Some n) × (named n ≡ k)
  its_slot k s e = go (h.stands k s e)
    where
      go : Stands l k s → (n : Naming) × (l.slots s.slot_id ≡ Some n) × (named n ≡ k)
      go (inl a) = (Leads k, a.0, refl)
      go (inr a) = (Waits k, a.0, refl)

  -- two sessions stand in two slots
  pub apart : (k : ℕ) (s : Session) → l.sessions k ≡ Some s → (j : ℕ) (t : Session) → j ≢ k → l.sessions j ≡ Some t → t.slot_id ≢ s.slot_id
  apart k s e j t ne f same =
      let a = its_slot k s e in
      let b = its_slot j t f in
      ne (sym b.2 ∙ ap named (some_same (sym b.1 ∙ ap l.slots same ∙ a.1)) ∙ a.2)

  -- no other slot names a session
  pub names_apart : (k : ℕ) (s : Session) → l.sessions k ≡ Some s → (r : SlotId) (n : Naming) → r ≢ s.slot_id → l.slots r ≡ Some n → named n ≢ k
  names_apart k s e r n ne there same =
      let t = h.named r n there in
      ne (sym t.2 ∙ ap (λ (s : Session). s.slot_id) (some_same (sym t.1 ∙ ap l.sessions same ∙ e)))

  -- a current session is current nowhere else
  pub at_server : (k : ℕ) (s : Session) → l.sessions k ≡ Some s → (y : ℕ) (p : Phase) (g : Current) → l.stances y ≡ Some (stance p (Some g)) → g.session ≡ k
      → s.server ≡ y
  at_server k s e y p g at same =
      let t = h.handles y p g at in
      ap (λ (s : Session). s.server) (some_same (sym e ∙ ap l.sessions (sym same) ∙ t.1)) ∙ t.2

  -- a leaf that waits is blocked
  pub is_blocked : (j : ℕ) (t : Session) → l.sessions j ≡ Some t → l.slots t.slot_id ≡ Some (Waits j) → (x : ℕ) (phase : Phase) (current : Option Current)
      → l.stances x ≡ Some (stance phase current) → phase ≢ Blocked → t.client ≢ x
  is_blocked j t e w x phase current at ne same = let g = h.waits j t e w in ne (same_phase (sym at ∙ ap l.stances (sym same) ∙ g.1))

-- REQUESTS

-- as it was, but for what was given
pub record Kept (t s : Session) : Type 0 where
  pub client : t.client ≡ s.client
  pub slot_id : t.slot_id ≡ s.slot_id
  pub server : t.server ≡ s.server
  pub accepted : t.accepted ≡ s.accepted

-- the x-th leaf asks something of session k, which may be new
pub record Asks (system : System) (l m : Links) (x : ℕ) (phase : Phase) (current : Option Current) (k : ℕ) (s : Session) (ask : Ask) : Type 0 where
  pub active : l.stances x ≡ Some (stance phase current)
  pub is_active : phase ≢ Blocked
  pub client : s.client ≡ x
  pub kept : (t : Session) → l.sessions k ≡ Some t → Kept t s
  pub no_current : (y : ℕ) (p : Phase) (g : Current) → l.stances y ≡ Some (stance p (Some g)) → g.session ≢ k
  pub no_request : requests_of k l.requests ≡ 0
  pub elsewhere : (j : ℕ) (t : Session) → j ≢ k → l.sessions j ≡ Some t → t.slot_id ≢ s.slot_id
  pub names : (r : SlotId) (n : Naming) → r ≢ s.slot_id → l.slots r ≡ Some n → named n ≢ k
  pub belongs : Belongs m s.slot_id x
  pub routed : IsRouted system s
  pub opens : s.accepted ≡ false → s.level ≡ 0
  pub objects : s.accepted ≡ true → IsBytes s.object
  pub ask_fits : s.accepted ≡ not (is_open ask)
  pub slot : m.slots s.slot_id ≡ Some (Waits k)
  pub slots : (r : SlotId) → r ≢ s.slot_id → m.slots r ≡ l.slots r
  pub session : m.sessions k ≡ Some s
  pub sessions : (j : ℕ) → j ≢ k → m.sessions j ≡ l.sessions j
  pub stance_x : m.stances x ≡ Some (stance Blocked current)
  pub stances : (y : ℕ) → y ≢ x → m.stances y ≡ l.stances y
  pub requests : m.requests ≡ l.requests ++ record { session = k; ask = ask } ∷ []

module _ (system : System) (l m : Links) (x : ℕ) (phase : Phase) (current : Option Current) (k : ℕ) (s : Session) (ask : Ask) (h : AreLinked system l)
    (a : Asks system l m x phase current k s ask) where
  ask_it : (P : Session → Type 0) → P s → (t : Session) → m.sessions k ≡ Some t → P t
  ask_it P p t e = subst P (some_same (sym a.session ∙ e)) p

  ask_all_current : (j : ℕ) → j ≢ k → (y : ℕ) → at_current j (m.stances y) ≡ at_current j (l.stances y)
  ask_all_current j ne y = elim (eqb_tells y x) [
    | inl e ↦ ap (λ y. at_current j (m.stances y)) e.1
        ∙ (ap (at_current j) a.stance_x ∙ sym (ap (at_current j) a.active) ∙ ap (λ y. at_current j (l.stances y)) (sym e.1))
    | inr e ↦ ap (at_current j) (a.stances y e.1)
  ]

  ask_no_current : (y : ℕ) → at_current k (m.stances y) ≡ 0
  ask_no_current y = no_current_at k (m.stances y) (λ g p at.
      elim (eqb_tells y x) [
        | inl e ↦ a.no_current x phase g (a.active ∙ ap (λ o. Some (stance phase o)) (same_current (sym a.stance_x ∙ ap m.stances (sym e.1) ∙ at)))
        | inr e ↦ a.no_current y p g (sym (a.stances y e.1) ∙ at)
      ])

  ask_count : (j : ℕ) → requests_of j m.requests ≡ requests_of j l.requests + one_if (k == j)
  ask_count j = ap (requests_of j) a.requests ∙ requests_end j l.requests (record { session = k; ask = ask })

  ask_moves : (y : ℕ) (g : Current) → g.session ≢ k → Handles l y g → Handles m y g
  ask_moves y g ne t = (t.0, a.sessions g.session ne ∙ t.1, t.2, t.3, t.4)

  ask_handles : (y : ℕ) (p : Phase) (g : Current) → m.stances y ≡ Some (stance p (Some g)) → Handles m y g
  ask_handles y p g at = elim (eqb_tells y x) [ inl e ↦ here e.1 | inr e ↦ there e.1 ]
    where
      here : y ≡ x → Handles m y g
      here e =
          let was : l.stances x ≡ Some (stance phase (Some g)) =
          a.active ∙ ap (λ o. Some (stance phase o)) (same_current (sym a.stance_x ∙ ap m.stances (sym e) ∙ at)) in
          subst (λ y. Handles m y g) (sym e) (ask_moves x g (a.no_current x phase g was) (h.handles x phase g was))

      there : y ≢ x → Handles m y g
      there ne = let was = sym (a.stances y ne) ∙ at in ask_moves y g (a.no_current y p g was) (h.handles y p g was)

  ask_fits : (y : ℕ) (t : Stance) → m.stances y ≡ Some t → Fits t.phase t.current
  ask_fits y t at = elim (eqb_tells y x) [
    | inl e ↦ subst (λ (t : Stance). Fits t.phase t.current) (some_same (sym a.stance_x ∙ ap m.stances (sym e.1) ∙ at)) tt
    | inr e ↦ h.fits y t (sym (a.stances y e.1) ∙ at)
  ]

  ask_asked : Each (IsAsked m) m.requests
  ask_asked = subst (Each (IsAsked m)) (sym a.requests)
      (each_end (IsAsked m) l.requests _ (each_map (IsAsked l) (IsAsked m) moved l.requests h.asked) (s, a.session, a.ask_fits))
    where
      moved : (r : Request) → IsAsked l r → IsAsked m r
      moved r t = elim (eqb_tells r.session k) [
        | inl e ↦ (s, ap m.sessions e.1 ∙ a.session, sym (a.kept t.0 (ap l.sessions (sym e.1) ∙ t.1)).accepted ∙ t.2)
        | inr e ↦ (t.0, a.sessions r.session e.1 ∙ t.1, t.2)
      ]

  ask_blocked : (y : ℕ) (g : Option Current) → m.stances y ≡ Some (stance Blocked g)
      → ((s : Session) × (m.sessions k ≡ Some s) × (s.client ≡ y) × (m.slots s.slot_id ≡ Some (Waits k)))
      ⊎ ((j : ℕ) × (t : Session) × (j ≢ k) × (l.sessions j ≡ Some t) × (t.client ≡ y) × (l.slots t.slot_id ≡ Some (Waits j)))
  ask_blocked y g at = elim (eqb_tells y x) [ inl e ↦ inl (s, a.session, a.client ∙ sym e.1, a.slot) | inr e ↦ inr (there e.1) ]
    where
      there : y ≢ x → (j : ℕ) × (t : Session) × (j ≢ k) × (l.sessions j ≡ Some t) × (t.client ≡ y) × (l.slots t.slot_id ≡ Some (Waits j))
      there ne =
          let b = h.blocked y g (sym (a.stances y ne) ∙ at) in
          (b.0, b.1, (λ same. ne (sym b.3 ∙ (a.kept b.1 (ap l.sessions (sym same) ∙ b.2)).client ∙ a.client)), b.2, b.3, b.4)

  pub asks_changes : Changes system l m k s.slot_id
  asks_changes =
      record {
        sessions = a.sessions;
        slots = a.slots;
        counts = λ j ne. let n = ask_count j in let none = one_none k j (λ e. ne (sym e)) in omega (arith, n, none);
        all_current = ask_all_current;
        elsewhere = a.elsewhere;
        names = a.names;
        owns = inl (λ t e yes. (s, a.session, sym (a.kept t e).accepted ∙ yes, sym (a.kept t e).server));
        at_slot_id = λ n e. (s, ap (λ n. m.sessions (named n)) (some_same (sym e ∙ a.slot)) ∙ a.session, refl);
        stands = ask_it (Stands m k) (inr (
          a.slot,
          (let n = ask_count k in let none = a.no_request in let one = one_one k k refl in
              let zero_current = ask_no_current s.server in omega (arith, n, none, one, zero_current)),
        ));
        belongs = ask_it (λ s. Belongs m s.slot_id s.client) (subst (Belongs m s.slot_id) (sym a.client) a.belongs);
        routed = ask_it (IsRouted system) a.routed;
        opens = ask_it (λ s. s.accepted ≡ false → s.level ≡ 0) a.opens;
        objects = ask_it (λ s. s.accepted ≡ true → IsBytes s.object) a.objects;
        waits = ask_it (λ s. m.slots s.slot_id ≡ Some (Waits k)
            → (current : Option Current) × (m.stances s.client ≡ Some (stance Blocked current))) (λ w. (current, ap m.stances a.client ∙ a.stance_x));
        alone = ask_it (λ s. m.slots s.slot_id ≡ Some (Waits k) → (j : ℕ) (t : Session) → j ≢ k → l.sessions j ≡ Some t → l.slots t.slot_id ≡ Some (Waits j)
            → t.client ≢ s.client) (λ w j t ne e v same. is_blocked system l h j t e v x phase current a.active a.is_active (same ∙ a.client));
        others_wait = λ j t ne e v. a.stances t.client (is_blocked system l h j t e v x phase current a.active a.is_active);
        blocked = ask_blocked;
        asked = ask_asked;
        handles = ask_handles;
        fits = ask_fits;
      }
