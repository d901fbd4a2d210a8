-- Each thread is at one place: where a leaf works for it that does not wait, no request of it waits, and the other way round.
use Rattle.std.proofs.Common.{◌≡◌, ◌≢◌, ◌≤◌, ◌⊎◌, ℕ, zero, suc, ◌+◌, ◌==◌, inl, inr, true, List, [], ◌∷◌, length, Option, Some, None}
use Rattle.std.proofs.Common.{refl, ap, sym, ◌∙◌, subst, arith}
use Rattle.gq_model.specs.declared.phase.Phase.{Phase}
use Rattle.gq_model.specs.declared.phase.Phase.TheVariants.{Blocked}
use Rattle.gq_model.specs.machine.Scenario.{System}
use Rattle.gq_model.specs.machine.World.{Slot, Empty, Bytes, Pool, Link, Waiting, SlotId, In_leaf, In_session, In_object, Session, Request, Current, World}
use Rattle.gq_model.specs.machine.World.{Leaf, session_at, slot_at}
use Rattle.gq_model.specs.machine.Step.{first_signal}
use Rattle.std.specs.Prelude.{is_some, slice_get}
use Rattle.gq_model.proofs.Small_facts.{none_some, some_none, some_same, equal_self}
use Rattle.gq_laws.specs.Shapes.{Each}
use Rattle.gq_laws.specs.Session_links.{Leads, Waits, naming_in, outline, outline_in, stance, one_if, requests_of, at_current}
use Rattle.gq_laws.specs.Session_links.{links, Stands, Belongs, IsLinkedWorld}
use Rattle.gq_laws.proofs.session_links.Asked_request_changes.{same_phase}
use Rattle.gq_laws.proofs.Outside_step_untouched.{outlined}
use Rattle.std.proofs.lemmas.Option.{slice_get_within}
use Rattle.gq_model.specs.rules.Resolve.{cycle_fault}
use Rattle.gq_laws.proofs.verified_programs.Use_chains.{Uses, Chain, chain_short}
use Rattle.gq_determined.specs.internal.Threads.{is_unshared, Starts, Tracked, is_active}
use Rattle.gq_determined.proofs.thread_positions.Unshared_leaf_owner.{one_start}

-- the thread in whose region a slot is
abbrev pub root_at : (ℕ → ℕ) → (ℕ → ℕ) → SlotId → ℕ
root_at own root (In_leaf y a) = own y
root_at own root (In_session j a) = root j
root_at own root (In_object j) = root j

-- a slot that waits is one that the leaf's operands name
abbrev pub IsByCurrent : (ℕ → ℕ) → World → SlotId → Type 0
IsByCurrent own w (In_leaf y a) = (phase : Phase) (current : Option Current) → (links w).stances y ≡ Some (stance phase current) → own y ≡ y → current ≡ None
IsByCurrent own w (In_session j a) = (s : Session) → session_at w j ≡ Some s → (phase : Phase) (current : Option Current)
    → (links w).stances s.server ≡ Some (stance phase current) → (g : Current) × (current ≡ Some g) × (g.session ≡ j)
IsByCurrent own w (In_object j) = Unit {0}

-- a session of a client that uses its server stands in the region of whoever it was opened for
pub record IsOpened (system : System) (own root : ℕ → ℕ) (q : SlotId) (client server : ℕ) : Type 0 where
  pub uses : Uses system client server
  pub n : ℕ
  pub z : ℕ
  pub starts : Starts system n z server
  pub is : root_at own root q ≡ own z

-- so do all
abbrev pub AreOpened : System → (ℕ → ℕ) → (ℕ → ℕ) → World → Type 0
AreOpened system own root w = (k : ℕ) (s : Session) → session_at w k ≡ Some s → IsOpened system own root s.slot_id s.client s.server

-- a leaf that is not shared is of the thread of whoever sessions with it are opened for
pub record IsUnder (system : System) (own : ℕ → ℕ) (x : ℕ) : Type 0 where
  pub single : is_unshared system x ≡ true
  pub n : ℕ
  pub z : ℕ
  pub starts : Starts system n z x
  pub is : own x ≡ own z

-- which leaves are whose
pub record AreOwned (system : System) (own : ℕ → ℕ) : Type 0 where
  -- a leaf that is another thread's is its owner's thread's
  pub opened : (x : ℕ) → own x ≢ x → IsUnder system own x
  -- a thread that has leaves has its own
  pub whole : (x : ℕ) → own (own x) ≡ own x

-- what is tracked fits the world, whatever makes a leaf another thread's
pub record IsPlaced (system : System) (g : Tracked) : Type 0 where
  pub acyclic : cycle_fault system 0 system.components ≡ None
  pub linked : IsLinkedWorld system g.world
  pub below : (k : ℕ) (s : Session) → session_at g.world k ≡ Some s → g.root k ≡ root_at g.own g.root s.slot_id
  pub waits : (q : SlotId) (k : ℕ) → slot_at g.world q ≡ Some (Waiting k) → IsByCurrent g.own g.world q
  -- the client of a session uses its server
  pub uses : (k : ℕ) (s : Session) → session_at g.world k ≡ Some s → Uses system s.client s.server
  -- a session is of a thread that has its own leaf
  pub lives : (k : ℕ) (s : Session) → session_at g.world k ≡ Some s → g.own (g.root k) ≡ g.root k
  -- in `main`, and where it handles a signal, a leaf is its own thread's, and in a section its own or that of its current session
  pub main : (y : ℕ) (phase : Phase) → (links g.world).stances y ≡ Some (stance phase None) → is_active phase ≡ true → g.own y ≡ y
  pub held : (y : ℕ) (phase : Phase) (q : Current) → (links g.world).stances y ≡ Some (stance phase (Some q)) → g.own y ≢ y → g.own y ≡ g.root q.session
  -- a leaf that has a signal to take is its own thread's, and has no current session
  pub signals : (y : ℕ) (l : Leaf) → slice_get g.world.leaves y ≡ Some l → is_some (first_signal l.signals) ≡ true → (g.own y ≡ y) × (l.current ≡ None)

-- so it is where a leaf that is not shared is another thread's from its first request on
pub record IsTracked (system : System) (g : Tracked) : Type 0 where
  pub placed : IsPlaced system g
  pub stands : AreOpened system g.own g.root g.world
  pub owned : AreOwned system g.own
  pub busy : (y : ℕ) (phase : Phase) (q : Current) → (links g.world).stances y ≡ Some (stance phase (Some q)) → is_unshared system y ≡ true → g.own y ≢ y

-- a leaf that is another thread's is that of its current session
pub held_of : (system : System) (g : Tracked) → IsLinkedWorld system g.world
    → ((k : ℕ) (s : Session) → session_at g.world k ≡ Some s → g.root k ≡ root_at g.own g.root s.slot_id) → AreOpened system g.own g.root g.world
    → AreOwned system g.own → (y : ℕ) (phase : Phase) (q : Current) → (links g.world).stances y ≡ Some (stance phase (Some q)) → g.own y ≢ y
    → g.own y ≡ g.root q.session
held_of system g linked below stands owned y phase q at ne =
    let m = linked.handles y phase q at in
    let s = outlined (session_at g.world q.session) m.0 m.1 in
    let server : s.0.server ≡ y = ap (λ (s : Session). s.server) s.2 ∙ m.2 in
    let o = stands q.session s.0 s.1 in
    let under = owned.opened y ne in
    let same : o.z ≡ under.z = one_start system y under.single o.n under.n o.z under.z (subst (Starts system o.n o.z) server o.starts) under.starts in
    under.is ∙ (ap g.own (sym same) ∙ (sym o.is ∙ sym (below q.session s.0 s.1)))

-- a leaf that is not shared is of the thread of its current session
pub busy_below : (system : System) (g : Tracked) → IsTracked system g → (y : ℕ) (phase : Phase) (q : Current)
    → (links g.world).stances y ≡ Some (stance phase (Some q)) → is_unshared system y ≡ true → g.own y ≡ g.root q.session
busy_below system g t y phase q at single = t.placed.held y phase q at (t.busy y phase q at single)

waits_slot : (o : Option Slot) (k : ℕ) → naming_in o ≡ Some (Waits k) → o ≡ Some (Waiting k)
waits_slot None k e = absurd (none_some e)
waits_slot (Some Empty) k e = absurd (none_some e)
waits_slot (Some (Bytes form n bytes)) k e = absurd (none_some e)
waits_slot (Some (Pool n entries)) k e = absurd (none_some e)
waits_slot (Some (Link j)) k e = absurd (ne e)
  where
    ne : Some (Leads j) ≡ Some (Waits k) → ⊥
    ne e = cc
waits_slot (Some (Waiting j)) k e = ap (λ n. Some (Waiting n)) (number e)
  where
    number : Some (Waits j) ≡ Some (Waits k) → j ≡ k
    number e = cc

module _ (system : System) (g : Tracked) (t : IsPlaced system g) where
  abbrev w : World
  w = g.world

  -- a session that waits for a reply
  pub record IsWaiting (k : ℕ) : Type 0 where
    pub session : Session
    pub there : session_at w k ≡ Some session
    pub slot : (links w).slots session.slot_id ≡ Some (Waits k)
    pub current : Option Current
    pub client : (links w).stances session.client ≡ Some (stance Blocked current)

  -- WHO WAITS

  pub pending : (k : ℕ) (s : Session) → session_at w k ≡ Some s → (requests_of k w.requests + at_current k ((links w).stances s.server) ≡ 0 → ⊥) → IsWaiting k
  pending k s there more = by (t.linked.stands k (outline s) (ap outline_in there))
    where
      by : Stands (links w) k (outline s) → IsWaiting k
      by (inl a) = absurd (more a.2)
      by (inr a) =
          let c = t.linked.waits k (outline s) (ap outline_in there) a.0 in
          record { session = s; there = there; slot = a.0; current = c.0; client = c.1 }

  pub one_pending : (k : ℕ) (a : IsWaiting k) → requests_of k w.requests + at_current k ((links w).stances a.session.server) ≡ 1
  one_pending k a = by (t.linked.stands k (outline a.session) (ap outline_in a.there))
    where
      leads_waits : Some (Leads k) ≡ Some (Waits k) → ⊥
      leads_waits e = cc

      by : Stands (links w) k (outline a.session) → requests_of k w.requests + at_current k ((links w).stances a.session.server) ≡ 1
      by (inl b) = absurd (leads_waits (sym b.0 ∙ a.slot))
      by (inr b) = b.1

  -- a leaf's current session
  pub record IsHandled (y : ℕ) (h : Current) : Type 0 where
    pub waiting : IsWaiting h.session
    pub server : waiting.session.server ≡ y
    pub one : at_current h.session ((links w).stances waiting.session.server) ≡ 1

  pub handled : (y : ℕ) (phase : Phase) (h : Current) → (links w).stances y ≡ Some (stance phase (Some h)) → IsHandled y h
  handled y phase h at =
      let m = t.linked.handles y phase h at in
      let s = outlined (session_at w h.session) m.0 m.1 in
      let server : s.0.server ≡ y = ap (λ (s : Session). s.server) s.2 ∙ m.2 in
      let one : at_current h.session ((links w).stances s.0.server) ≡ 1
      = ap (λ y. at_current h.session ((links w).stances y)) server ∙ (ap (at_current h.session) at ∙ ap one_if (equal_self h.session)) in
      let p = pending h.session s.0 s.1 (λ none. omega (arith, none, one)) in
      let same : p.session ≡ s.0 = some_same (sym p.there ∙ s.1) in
      record {
        waiting = p;
        server = ap (λ (s : Session). s.server) same ∙ server;
        one = ap (λ (s : Session). at_current h.session ((links w).stances s.server)) same ∙ one;
      }

  -- and one for which a request waits
  requests_more : (r : Request) (rs : List Request) (P : Request → Type 0) → Each P (r ∷ rs) → (requests_of r.session (r ∷ rs) ≡ 0 → ⊥)
  requests_more r rs P each none = let one : one_if (r.session == r.session) ≡ 1 = ap one_if (equal_self r.session) in omega (arith, none, one)

  -- the slot of a waiting session is one that its client's operands name
  pub by_current_of : (k : ℕ) (a : IsWaiting k) → IsByCurrent g.own w a.session.slot_id
  by_current_of k a = t.waits a.session.slot_id k (waits_slot (slot_at w a.session.slot_id) k a.slot)

  -- the session above one that waits is its client's current one
  pub record HasParent (k : ℕ) : Type 0 where
    pub waiting : IsWaiting k
    pub parent : Current
    pub at : (links w).stances waiting.session.client ≡ Some (stance Blocked (Some parent))
    pub root : g.root k ≡ g.root parent.session

  -- or there is none, where the leaf of its thread waits in `main`
  pub record IsFirst (k : ℕ) : Type 0 where
    pub waiting : IsWaiting k
    pub client : waiting.session.client ≡ g.root k
    pub at : (links w).stances (g.root k) ≡ Some (stance Blocked None)

  pub above : (k : ℕ) → IsWaiting k → IsFirst k ⊎ HasParent k
  above k a = by a.session.slot_id (t.below k a.session a.there) (by_current_of k a)
      (t.linked.belongs k (outline a.session) (ap outline_in a.there))
    where
      by : (q : SlotId) → g.root k ≡ root_at g.own g.root q → IsByCurrent g.own w q → Belongs (links w) q a.session.client → IsFirst k ⊎ HasParent k
      by (In_leaf y i) below named b = of a.current refl
        where
          stood : (links w).stances y ≡ Some (stance Blocked a.current)
          stood = ap (links w).stances b ∙ a.client

          of : (current : Option Current) → a.current ≡ current → IsFirst k ⊎ HasParent k
          of None e =
              let own = t.main y Blocked (stood ∙ ap (λ o. Some (stance Blocked o)) e) refl in
              inl record {
                waiting = a;
                client = sym b ∙ sym (below ∙ own);
                at = ap (links w).stances (below ∙ own) ∙ (stood ∙ ap (λ o. Some (stance Blocked o)) e);
              }
          of (Some q) e = inr record {
            waiting = a;
            parent = q;
            at = a.client ∙ ap (λ o. Some (stance Blocked o)) e;
            root = below ∙ t.held y Blocked q (stood ∙ ap (λ o. Some (stance Blocked o)) e) (λ own. some_none (sym e ∙ named Blocked a.current stood own));
          }
      by (In_session j i) below named b =
          let s = outlined (session_at w j) b.0 b.1 in
          let server : s.0.server ≡ a.session.client = ap (λ (s : Session). s.server) s.2 ∙ b.3 in
          let p = named s.0 s.1 Blocked a.current (ap (links w).stances server ∙ a.client) in
          inr record {
            waiting = a;
            parent = p.0;
            at = a.client ∙ ap (λ o. Some (stance Blocked o)) p.1;
            root = below ∙ ap g.root (sym p.2);
          }
      by (In_object j) below named b = absurd b

  -- the session above waits, too
  parent_handled : (k : ℕ) (p : HasParent k) → IsHandled p.waiting.session.client p.parent
  parent_handled k p = handled p.waiting.session.client Blocked p.parent p.at

  -- HOW MANY WAIT ABOVE ONE

  abbrev pub Above : ℕ → ℕ → Type 0
  Above zero k = IsFirst k
  Above (suc n) k = (p : HasParent k) × Above n p.parent.session

  -- a chain of uses leads from client to client, and none is longer than there are leaves
  climb : (fuel k : ℕ) (a : IsWaiting k) (rest : List ℕ) → Chain system a.session.client rest → length system.components ≤ fuel + length rest
      → (n : ℕ) × Above n k
  climb zero k a rest chain enough = let short = chain_short system t.acyclic a.session.client rest chain in absurd (omega (arith, short, enough))
  climb (suc fuel) k a rest chain enough = elim (above k a) [
    | inl f ↦ (zero, f)
    | inr p ↦
        let h = parent_handled k p in
        let b = h.waiting in
        let uses = t.uses p.parent.session b.session b.there in
        let same : p.waiting.session.client ≡ a.session.client = ap (λ (s : Session). s.client) (some_same (sym p.waiting.there ∙ a.there)) in
        let up = climb fuel p.parent.session b (a.session.client ∷ rest) (subst (Uses system b.session.client) (h.server ∙ same) uses, chain)
        (omega (arith, enough)) in
        (suc up.0, (p, up.1))
  ]

  pub all_above : (k : ℕ) → IsWaiting k → (n : ℕ) × Above n k
  all_above k a =
      let u = t.uses k a.session a.there in
      climb (length system.components) k a [] (slice_get_within system.components a.session.client u.0 u.1) (omega arith)

  root_of : (n k : ℕ) → Above n k → (links w).stances (g.root k) ≡ Some (stance Blocked None)
  root_of zero k f = f.at
  root_of (suc n) k p = ap (links w).stances p.0.root ∙ root_of n p.0.parent.session p.1

  -- the leaf at the root of a session that waits waits in `main`
  pub root_waits : (k : ℕ) → IsWaiting k → (links w).stances (g.root k) ≡ Some (stance Blocked None)
  root_waits k a = let up = all_above k a in root_of up.0 k up.1

  -- ONE SESSION AT EACH HEIGHT

  -- two that wait, of the same client
  same_client : (j k : ℕ) (a : IsWaiting j) (b : IsWaiting k) → a.session.client ≡ b.session.client → j ≡ k
  same_client j k a b same =
      t.linked.alone j k (outline a.session) (outline b.session) (ap outline_in a.there) (ap outline_in b.there) a.slot b.slot same

  same_server : (j k : ℕ) (a : IsWaiting j) (b : IsWaiting k) → j ≡ k → a.session.server ≡ b.session.server
  same_server j k a b e = ap (λ (s : Session). s.server) (some_same (sym a.there ∙ (ap (session_at w) e ∙ b.there)))

  pub one_at_height : (n j k : ℕ) → Above n j → Above n k → g.root j ≡ g.root k → j ≡ k
  one_at_height zero j k a b same = same_client j k a.waiting b.waiting (a.client ∙ (same ∙ sym b.client))
  one_at_height (suc n) j k a b same =
      let p = parent_handled j a.0 in
      let q = parent_handled k b.0 in
      let up : a.0.parent.session ≡ b.0.parent.session
      = one_at_height n a.0.parent.session b.0.parent.session a.1 b.1 (sym a.0.root ∙ (same ∙ b.0.root)) in
      same_client j k a.0.waiting b.0.waiting (sym p.server ∙ (same_server _ _ p.waiting q.waiting up ∙ q.server))

  -- a session that is current at a leaf that waits
  pub record IsPassed (k : ℕ) : Type 0 where
    pub y : ℕ
    pub current : Current
    pub is : current.session ≡ k
    pub at : (links w).stances y ≡ Some (stance Blocked (Some current))

  -- above a session that waits there is one such at each lesser height
  pub passed : (m n k : ℕ) → Above (suc (m + n)) k → (j : ℕ) × IsPassed j × (g.root j ≡ g.root k) × Above n j
  passed zero n k a =
      let none : zero + n ≡ n = omega arith in (
        a.0.parent.session,
        record { y = a.0.waiting.session.client; current = a.0.parent; is = refl; at = a.0.at },
        sym a.0.root,
        subst (λ n. Above n a.0.parent.session) none a.1,
      )
  passed (suc m) n k a =
      let more : suc m + n ≡ suc (m + n) = omega arith in
      let q = passed m n a.0.parent.session (subst (λ n. Above n a.0.parent.session) more a.1) in
      (q.0, q.1, q.2 ∙ sym a.0.root, q.3)

  -- WHERE A THREAD IS

  -- it is where a leaf has a current session and does not wait
  pub record IsBusy (k : ℕ) : Type 0 where
    pub y : ℕ
    pub phase : Phase
    pub current : Current
    pub is : current.session ≡ k
    pub at : (links w).stances y ≡ Some (stance phase (Some current))
    pub active : phase ≡ Blocked → ⊥

  -- or a request waits
  pub record IsRequested (k : ℕ) : Type 0 where
    pub waiting : IsWaiting k
    pub more : requests_of k w.requests ≡ 0 → ⊥

  pub busy_waits : (k : ℕ) (b : IsBusy k) → IsWaiting k
  busy_waits k b = subst IsWaiting b.is (handled b.y b.phase b.current b.at).waiting

  handled_at : (k y : ℕ) (phase : Phase) (h : Current) (a : IsWaiting k) → h.session ≡ k → (links w).stances y ≡ Some (stance phase (Some h))
      → a.session.server ≡ y
  handled_at k y phase h a is at =
      let m = handled y phase h at in same_server k h.session a m.waiting (sym is) ∙ m.server

  pub busy_passed : (k : ℕ) → IsBusy k → IsPassed k → ⊥
  busy_passed k b p =
      let a = busy_waits k b in
      let same : b.y ≡ p.y = sym (handled_at k b.y b.phase b.current a b.is b.at) ∙ handled_at k p.y Blocked p.current a p.is p.at in
      b.active (same_phase (sym b.at ∙ (ap (links w).stances same ∙ p.at)))

  current_counts : (k y : ℕ) (phase : Phase) (h : Current) (a : IsWaiting k) → h.session ≡ k → (links w).stances y ≡ Some (stance phase (Some h))
      → at_current k ((links w).stances a.session.server) ≡ 1
  current_counts k y phase h a is at =
      ap (λ y. at_current k ((links w).stances y)) (handled_at k y phase h a is at)
      ∙ (ap (at_current k) at ∙ (ap (λ n. one_if (n == k)) is ∙ ap one_if (equal_self k)))

  pub requested_passed : (k : ℕ) → IsRequested k → IsPassed k → ⊥
  requested_passed k r p =
      let all = one_pending k r.waiting in
      let one = current_counts k p.y Blocked p.current r.waiting p.is p.at in
      r.more (omega (arith, all, one))

  pub requested_busy : (k : ℕ) → IsRequested k → IsBusy k → ⊥
  requested_busy k r b =
      let all = one_pending k r.waiting in
      let one = current_counts k b.y b.phase b.current r.waiting b.is b.at in
      r.more (omega (arith, all, one))

  -- the thread is at one session alone
  module _ (P Q : ℕ → Type 0) (not_p : (k : ℕ) → P k → IsPassed k → ⊥) (not_q : (k : ℕ) → Q k → IsPassed k → ⊥) where
    less_or : (m n : ℕ) → (m ≡ n) ⊎ (((d : ℕ) × (n ≡ suc (d + m))) ⊎ ((d : ℕ) × (m ≡ suc (d + n))))
    less_or zero zero = inl refl
    less_or zero (suc n) = inr (inl (n, omega arith))
    less_or (suc m) zero = inr (inr (m, omega arith))
    less_or (suc m) (suc n) = elim (less_or m n) [
      | inl e ↦ inl (ap suc e)
      | inr h ↦ elim h [
        | inl d ↦ let e = d.1 in inr (inl (d.0, omega (arith, e)))
        | inr d ↦ let e = d.1 in inr (inr (d.0, omega (arith, e)))
      ]
    ]

    place_by : (j k : ℕ) → g.root j ≡ g.root k → P j → Q k → (m n : ℕ) → Above m j → Above n k
        → (m ≡ n) ⊎ (((d : ℕ) × (n ≡ suc (d + m))) ⊎ ((d : ℕ) × (m ≡ suc (d + n)))) → j ≡ k
    place_by j k same p q m n a b (inl e) = one_at_height n j k (subst (λ m. Above m j) e a) b same
    place_by j k same p q m n a b (inr (inl d)) =
        let u = passed d.0 m k (subst (λ n. Above n k) d.1 b) in
        let up : u.0 ≡ j = one_at_height m u.0 j u.3 a (u.2 ∙ sym same) in
        absurd (not_p j p (subst IsPassed up u.1))
    place_by j k same p q m n a b (inr (inr d)) =
        let u = passed d.0 n j (subst (λ m. Above m j) d.1 a) in
        let up : u.0 ≡ k = one_at_height n u.0 k u.3 b (u.2 ∙ same) in
        absurd (not_q k q (subst IsPassed up u.1))

    pub one_place : (j k : ℕ) → g.root j ≡ g.root k → P j → Q k → IsWaiting j → IsWaiting k → j ≡ k
    one_place j k same p q a b =
        let m = all_above j a in
        let n = all_above k b in
        place_by j k same p q m.0 n.0 m.1 n.1 (less_or m.0 n.0)

  -- two leaves with a current session that do not wait, of the same thread
  pub busy_same : (j k : ℕ) (a : IsBusy j) (b : IsBusy k) → g.root j ≡ g.root k → a.y ≡ b.y
  busy_same j k a b same =
      let e = one_place IsBusy IsBusy busy_passed busy_passed j k same a b (busy_waits j a) (busy_waits k b) in
      let m = busy_waits k b in
      sym (handled_at k a.y a.phase a.current m (a.is ∙ e) a.at) ∙ handled_at k b.y b.phase b.current m b.is b.at

  pub busy_requested : (j k : ℕ) → IsBusy j → IsRequested k → g.root j ≡ g.root k → ⊥
  busy_requested j k a b same =
      let e = one_place IsBusy IsRequested busy_passed requested_passed j k same a b (busy_waits j a) b.waiting in
      requested_busy k b (subst IsBusy e a)

  pub requested_same : (j k : ℕ) → IsRequested j → IsRequested k → g.root j ≡ g.root k → j ≡ k
  requested_same j k a b same = one_place IsRequested IsRequested requested_passed requested_passed j k same a b a.waiting b.waiting
