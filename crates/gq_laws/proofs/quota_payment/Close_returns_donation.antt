-- The reply to a close gives back the whole donation, and no other step ends a session.
use Rattle.std.proofs.Common.{◌≡◌, ◌≢◌, ℕ, ◌+◌, ◌==◌, inl, inr, true, cond, List, [], ◌∷◌, Option, Some, None, refl, ap, sym, ◌∙◌, subst, arith}
use Rattle.std.specs.Prelude.{slice_get, slice_set, sum_by}
use Rattle.std.proofs.lemmas.Bool.{leb-true}
use Rattle.std.proofs.lemmas.Bool.Decides.{eqb_tells}
use Rattle.gq_model.specs.declared.phase.Phase.TheVariants.{Blocked, Serving, Handling}
use Rattle.gq_model.specs.machine.Amounts.{Resource, part}
use Rattle.gq_model.specs.machine.Scenario.{System, Component, Scenario, components, system}
use Rattle.gq_model.specs.machine.World.{Slot, Empty, Waiting, SlotId, In_leaf, In_session, In_object, Session, Current, Leaf, World, session_at, session_slot}
use Rattle.gq_model.specs.machine.World.{session_object, slot_at, with_slot, put_leaf_slot}
use Rattle.gq_model.specs.machine.World.{put_session_slot, put_object}
use Rattle.gq_model.specs.machine.Doing.{Doing, standing}
use Rattle.gq_model.specs.machine.Sums.{slot_price, bank_price, donated, to_leaf, from_leaf, held, lent, received, handed, quota, is_paid, are_paid, paid}
use Rattle.gq_model.specs.machine.Step.{serving, resumed}
use Rattle.gq_model.specs.Promises.{EachOf, quota_of, quota_at, held_of, held_at, GivesBack}
use Rattle.gq_model.specs.machine.Resource_prices.{heap}
use Rattle.gq_laws.specs.Session_links.{stance, Stance, links, outline, outline_in, Belongs, AreLinked}
use Rattle.gq_laws.specs.Reply_stances.{own_then, bank_then, session_then}
use Rattle.gq_laws.proofs.reply_rules.World_after_reply.{Goes, IsOf, written, waiting_slot}
use Rattle.gq_laws.proofs.session_links.Written_world_links.{set_here, set_else}
use Rattle.gq_laws.proofs.session_links.Linked_after_accept.{stand_slots}
use Rattle.gq_model.proofs.Small_facts.{some_same}
use Rattle.gq_laws.specs.Inside_steps.{TakesLeaf}
use Rattle.gq_laws.proofs.session_links.Linked_after_reply.{leaf_of_stance, session_of_outline, handling, slot_waits, was, not_server, put, put_outlines}
use Rattle.gq_laws.proofs.session_links.Linked_after_reply.{its_reacting}
use Rattle.gq_laws.proofs.session_links.Linked_after_reply.{put_serves}
use Rattle.gq_laws.proofs.session_links.Linked_after_reply.{client_blocked, its_current}
use Rattle.gq_laws.proofs.session_links.Linked_after_reply.{resumed_world}
use Rattle.gq_laws.proofs.session_links.Linked_after_reply.{resumed_here, resumed_else, without}
use Rattle.gq_laws.proofs.quota_payment.Written_world_prices.{sum_set, session_stands, paid_one}
use Rattle.std.proofs.lemmas.Bool.{and_parts}
use Rattle.gq_laws.proofs.quota_payment.Paid_worlds.{handed_resumed}

-- SUMS

-- a session with another bank or object counts as it did
sum_same : (f : Option Session → ℕ) (sessions : List (Option Session)) (k : ℕ) (t s : Session) → slice_get sessions k ≡ Some (Some t) → f (Some s) ≡ f (Some t)
    → sum_by f (slice_set sessions k (Some s)) ≡ sum_by f sessions
sum_same f sessions k t s e same = let n = sum_set f sessions k (Some t) (Some s) e in omega (arith, n, same)

-- a number that does not look at slots and objects
abbrev Outer : (Option Session → ℕ) → Type 0
Outer f = (s : Session) (slots : List Slot) (object : Slot) → f (Some (record s { slots = slots; object = object })) ≡ f (Some s)

slot_sum : (f : Option Session → ℕ) → Outer f → (w : World) (q : SlotId) (slot : Slot) → sum_by f (with_slot w q slot).sessions ≡ sum_by f w.sessions
slot_sum f outer w (In_leaf x i) slot = go (slice_get w.leaves x)
  where
    go : (o : Option Leaf) → sum_by f (put_leaf_slot w o x i slot).sessions ≡ sum_by f w.sessions
    go None = refl
    go (Some leaf) = refl
slot_sum f outer w (In_session k i) slot = go (session_at w k) refl
  where
    go : (o : Option Session) → session_at w k ≡ o → sum_by f (put_session_slot w o k i slot).sessions ≡ sum_by f w.sessions
    go None e = refl
    go (Some s) e = sum_same f w.sessions k s (record s { slots = slice_set s.slots i slot }) (session_stands w k s e)
        (outer s (slice_set s.slots i slot) s.object)
slot_sum f outer w (In_object k) slot = go (session_at w k) refl
  where
    go : (o : Option Session) → session_at w k ≡ o → sum_by f (put_object w o k slot).sessions ≡ sum_by f w.sessions
    go None e = refl
    go (Some s) e = sum_same f w.sessions k s (record s { object = slot }) (session_stands w k s e) (outer s s.slots slot)

lent_outer : (r : Resource) (x : ℕ) → Outer (from_leaf x (donated r))
lent_outer r x s slots object = refl

received_outer : (r : Resource) (x : ℕ) → Outer (to_leaf x (donated r))
received_outer r x s slots object = refl

from_one : (r : Resource) (x : ℕ) (s : Session) → s.client ≡ x → from_leaf x (donated r) (Some s) ≡ donated r s
from_one r x s e = elim (eqb_tells s.client x) [ inl f ↦ ap (λ b. cond b (donated r s) 0) f.0 | inr f ↦ absurd (f.1 e) ]

from_other : (r : Resource) (x : ℕ) (s : Session) → s.client ≢ x → from_leaf x (donated r) (Some s) ≡ 0
from_other r x s ne = elim (eqb_tells s.client x) [ inl f ↦ absurd (ne f.1) | inr f ↦ ap (λ b. cond b (donated r s) 0) f.0 ]

to_one : (r : Resource) (x : ℕ) (s : Session) → s.server ≡ x → to_leaf x (donated r) (Some s) ≡ donated r s
to_one r x s e = elim (eqb_tells s.server x) [ inl f ↦ ap (λ b. cond b (donated r s) 0) f.0 | inr f ↦ absurd (f.1 e) ]

to_other : (r : Resource) (x : ℕ) (s : Session) → s.server ≢ x → to_leaf x (donated r) (Some s) ≡ 0
to_other r x s ne = elim (eqb_tells s.server x) [ inl f ↦ absurd (ne f.1) | inr f ↦ ap (λ b. cond b (donated r s) 0) f.0 ]

-- what sessions to a leaf cost stays where a slot that waited is emptied
bank_emptied : (r : Resource) (s : Session) (i k : ℕ) → slice_get s.slots i ≡ Some (Waiting k)
    → bank_price r (record s { slots = slice_set s.slots i Empty }) ≡ bank_price r s
bank_emptied r s i k e = let n = sum_set (slot_price r) s.slots i (Waiting k) Empty e in omega (arith, n)

priced_one : (r : Resource) (x : ℕ) (s : Session) → s.server ≡ x → to_leaf x (bank_price r) (Some s) ≡ bank_price r s
priced_one r x s e = elim (eqb_tells s.server x) [ inl f ↦ ap (λ b. cond b (bank_price r s) 0) f.0 | inr f ↦ absurd (f.1 e) ]

priced_sum : (r : Resource) (x k : ℕ) (w : World) (q : SlotId) → slot_at w q ≡ Some (Waiting k)
    → sum_by (to_leaf x (bank_price r)) (with_slot w q Empty).sessions ≡ sum_by (to_leaf x (bank_price r)) w.sessions
priced_sum r x k w (In_leaf y i) waits = go (slice_get w.leaves y)
  where
    go : (o : Option Leaf) → sum_by (to_leaf x (bank_price r)) (put_leaf_slot w o y i Empty).sessions ≡ sum_by (to_leaf x (bank_price r)) w.sessions
    go None = refl
    go (Some leaf) = refl
priced_sum r x k w (In_session j i) waits = go (session_at w j) refl
  where
    go : (o : Option Session) → session_at w j ≡ o
        → sum_by (to_leaf x (bank_price r)) (put_session_slot w o j i Empty).sessions ≡ sum_by (to_leaf x (bank_price r)) w.sessions
    go None e = refl
    go (Some s) e = sum_same (to_leaf x (bank_price r)) w.sessions j s (record s { slots = slice_set s.slots i Empty }) (session_stands w j s e)
        (ap (λ n. cond (s.server == x) n 0) (bank_emptied r s i k (sym (ap (λ o. session_slot o i) e) ∙ waits)))
priced_sum r x k w (In_object j) waits = go (session_at w j) refl
  where
    go : (o : Option Session) → session_at w j ≡ o
        → sum_by (to_leaf x (bank_price r)) (put_object w o j Empty).sessions ≡ sum_by (to_leaf x (bank_price r)) w.sessions
    go None e = refl
    go (Some s) e = sum_same (to_leaf x (bank_price r)) w.sessions j s (record s { object = Empty }) (session_stands w j s e)
        (ap (λ n. cond (s.server == x) (n + sum_by (slot_price r) s.slots) 0) (sym (object_waits (sym (ap session_object e) ∙ waits))))
      where
        object_waits : {o : Slot} → Some o ≡ Some (Waiting k) → slot_price r o ≡ 0
        object_waits f = ap (slot_price r) (some_same f)

price_of : Resource → Option Session → ℕ
price_of r None = 0
price_of r (Some s) = bank_price r s

then_priced : (r : Resource) (w : World) (q : SlotId) (k j : ℕ) (u : Session) → session_at w j ≡ Some u → slot_at w q ≡ Some (Waiting k)
    → price_of r (session_then q Empty j (Some u)) ≡ bank_price r u
unfolding price_of
then_priced r w (In_leaf x i) k j u there waits = refl
then_priced r w (In_session m i) k j u there waits = elim (eqb_tells j m) [
  | inl e ↦ ap (λ b. price_of r (cond b (bank_then i Empty (Some u)) (Some u))) e.0
      ∙ bank_emptied r u i k (sym (ap (λ o. session_slot o i) (ap (session_at w) (sym e.1) ∙ there)) ∙ waits)
  | inr e ↦ ap (λ b. price_of r (cond b (bank_then i Empty (Some u)) (Some u))) e.0
]
then_priced r w (In_object m) k j u there waits = refl

-- for each resource that is counted, where both worlds are paid
each_of : (G : Resource → Type 0) (w v : World) (x y : ℕ) (c e : Component) (a b : Leaf) (resources : List Resource) → are_paid w x c a resources ≡ true
    → are_paid v y e b resources ≡ true
    → ((r : Resource) → is_paid w x c a r ≡ true → is_paid v y e b r ≡ true → G r) → EachOf resources G
each_of G w v x y c e a b [] p q g = tt
each_of G w v x y c e a b (r ∷ rest) p q g =
    let m = and_parts (is_paid w x c a r) (are_paid w x c a rest) p in
    let n = and_parts (is_paid v y e b r) (are_paid v y e b rest) q in
    (g r m.0 n.0, each_of G w v x y c e a b rest m.1 n.1 g)

-- the x-th leaf and its component, as a quota names them
quota_there : (r : Resource) (s : Scenario) (w : World) (x : ℕ) (c : Component) (leaf : Leaf) → slice_get (components s) x ≡ Some c
    → slice_get w.leaves x ≡ Some leaf → quota_at r s w x ≡ quota r w x c leaf
quota_there r s w x c leaf e f = (λ i. quota_of r w x (e i) (f i))

module _ (s : Scenario) (d : Doing) (of : d.system ≡ system s) (t : TakesLeaf d) (h : AreLinked d.system (links d.world))
    (component : slice_get d.system.components d.x ≡ Some d.component) (pays : paid d.system d.world ≡ true)
    (handles : d.leaf.phase ≡ Handling) (g : Current) (current : d.leaf.current ≡ Some g) (u : Session) (there : session_at d.world g.session ≡ Some u) where
  abbrev empty_put : World
  empty_put = put d t h handles g current u there Empty

  abbrev gone : World
  gone = without d t h handles g current u there

  abbrev pub after : World
  after = resumed_world d t h handles g current u there Empty (λ operands. operands) gone refl

  server_is : u.server ≡ d.x
  server_is = let v = h.handles d.x Handling g (handling d t h handles g current u there) in
      ap (λ (s : Session). s.server) (some_same (sym (was d t h handles g current u there) ∙ v.1)) ∙ v.2

  client_ne : u.client ≢ d.x
  client_ne = not_server d t h handles g current u there

  -- the session as it stands before it goes
  last : (v : Session) × (session_at empty_put g.session ≡ Some v) × (outline v ≡ outline u)
  last = session_of_outline (session_at empty_put g.session) (outline u) (put_outlines d t h handles g current u there Empty g.session ∙ ap outline_in there)

  last_given : (r : Resource) → donated r last.0 ≡ donated r u
  last_given r = ap (donated r) last.2

  -- the sums without it
  sum_less : (f : Option Session → ℕ) → Outer f → f None ≡ 0 → sum_by f after.sessions + f (Some last.0) ≡ sum_by f d.world.sessions
  sum_less f outer none =
      let n = sum_set f empty_put.sessions g.session (Some last.0) None (session_stands empty_put g.session last.0 last.1) in
      let m = slot_sum f outer (standing d (serving d.leaf)) u.slot_id Empty in
      omega (arith, n, m, none)

  client_component : (c : Component) × (slice_get d.system.components u.client ≡ Some c)
  client_component = let r = h.routed g.session (outline u) (was d t h handles g current u there) in (r.0, r.1)

  in_components : (x : ℕ) (c : Component) → slice_get d.system.components x ≡ Some c → slice_get (components s) x ≡ Some c
  in_components x c e = ap (λ (a : System). slice_get a.components x) (sym of) ∙ e

  client_was : (leaf : Leaf) × (slice_get d.world.leaves u.client ≡ Some leaf)
      × (stance leaf.phase leaf.current ≡ stance Blocked (its_current d t h handles g current u there Empty))
  client_was = leaf_of_stance (slice_get d.world.leaves u.client) (stance Blocked (its_current d t h handles g current u there Empty))
      (client_blocked d t h handles g current u there Empty)

  client_now : (leaf : Leaf) × (slice_get after.leaves u.client ≡ Some leaf)
      × (stance leaf.phase leaf.current
      ≡ stance (resumed (its_current d t h handles g current u there Empty) (its_reacting d t h handles g current u there Empty))
      (its_current d t h handles g current u there Empty))
  client_now = leaf_of_stance (slice_get after.leaves u.client) _ (resumed_here d t h handles g current u there Empty (λ operands. operands) gone refl)

  server_now : (leaf : Leaf) × (slice_get after.leaves d.x ≡ Some leaf) × (stance leaf.phase leaf.current ≡ stance Serving None)
  server_now =
      leaf_of_stance (slice_get after.leaves d.x) (stance Serving None)
      (resumed_else d t h handles g current u there Empty (λ operands. operands) gone refl d.x (λ e. client_ne (sym e))
      ∙ put_serves d t h handles g current u there Empty)

  client_phase : (q : ℕ) → (handed client_was.0.phase q ≡ q) × (handed client_now.0.phase q ≡ q)
  client_phase q = (
    ap (λ p. handed p q) (ap (λ (a : Stance). a.phase) client_was.2),
    ap (λ p. handed p q) (ap (λ (a : Stance). a.phase) client_now.2)
        ∙ handed_resumed (its_current d t h handles g current u there Empty) (its_reacting d t h handles g current u there Empty) q,
  )

  server_phase : (q : ℕ) → (handed t.old.phase q ≡ q) × (handed server_now.0.phase q ≡ q)
  server_phase q = (ap (λ p. handed p q) (sym t.phase ∙ handles), ap (λ p. handed p q) (ap (λ (a : Stance). a.phase) server_now.2))

  -- WHAT THE SERVER HOLDS

  slot_id_of_client : (q : SlotId) → u.slot_id ≡ q → IsOf u.client q
  slot_id_of_client q e = by q (subst (λ q. Belongs (links d.world) q u.client) e (h.belongs g.session (outline u) (was d t h handles g current u there)))
    where
      by : (q : SlotId) → Belongs (links d.world) q u.client → IsOf u.client q
      by (In_leaf x i) b = b
      by (In_session j i) b = tt
      by (In_object j) b = b

  -- the client's slot is written
  client_written : Goes (standing d (serving d.leaf)) empty_put u.client u.slot_id Empty
      (record client_was.0 { slots = own_then u.slot_id Empty client_was.0.slots })
  client_written = written (standing d (serving d.leaf)) u.slot_id Empty u.client client_was.0
      (set_else d.world.leaves d.x u.client (serving d.leaf) client_ne ∙ client_was.1) (slot_id_of_client u.slot_id refl)

  server_leaf : slice_get after.leaves d.x ≡ Some (serving d.leaf)
  server_leaf =
      set_else gone.leaves u.client d.x _ (λ e. client_ne (sym e))
      ∙ (client_written.leaves d.x (λ e. client_ne (sym e)) ∙ set_here d.world.leaves d.x (serving d.leaf) t.old t.there)

  waits_there : slot_at d.world u.slot_id ≡ Some (Waiting g.session)
  waits_there = waiting_slot (slot_at d.world u.slot_id) g.session (slot_waits d t h handles g current u there)

  -- the session costs what it did, also where the slot that waited is its own
  last_price : (r : Resource) → bank_price r last.0 ≡ bank_price r u
  unfolding price_of
  last_price r =
      ap (price_of r) (sym last.1 ∙ (client_written.sessions g.session ∙ ap (session_then u.slot_id Empty g.session) there))
      ∙ then_priced r d.world u.slot_id g.session g.session u there waits_there

  held_falls : (r : Resource) → d.leaf.peaks ≡ t.old.peaks → held_at r after u.server + bank_price r u ≡ held_at r d.world u.server
  held_falls r peaks =
      let n = sum_set (to_leaf d.x (bank_price r)) empty_put.sessions g.session (Some last.0) None (session_stands empty_put g.session last.0 last.1) in
      let m = priced_sum r d.x g.session (standing d (serving d.leaf)) u.slot_id (stand_slots d t h (serving d.leaf) refl u.slot_id ∙ waits_there) in
      let mine = priced_one r d.x last.0 (ap (λ (s : Session). s.server) last.2 ∙ server_is) in
      let price = last_price r in
      let slots : sum_by (slot_price r) d.leaf.slots ≡ sum_by (slot_price r) t.old.slots = ap (sum_by (slot_price r)) t.slots in
      let heaps : heap r d.leaf.peaks ≡ heap r t.old.peaks = ap (heap r) peaks in
      ap (λ x. held_at r after x + bank_price r u) server_is
      ∙ (ap (λ o. held_of r after d.x o + bank_price r u) server_leaf
      ∙ (omega (arith, n, m, mine, price, slots, heaps)
      ∙ (sym (ap (held_of r d.world d.x) t.there) ∙ ap (held_at r d.world) (sym server_is))))

  pub gives_back : d.leaf.peaks ≡ t.old.peaks → paid d.system after ≡ true → EachOf d.system.counted (GivesBack s d.world after u)
  gives_back peaks still =
      each_of (GivesBack s d.world after u) d.world after u.client d.x client_component.0 d.component client_was.0 server_now.0 d.system.counted
      (paid_one d.system.counted d.world 0 d.system.components d.world.leaves pays u.client client_component.0 client_was.0 client_component.1 client_was.1
      u.client (omega arith))
      (paid_one d.system.counted after 0 d.system.components after.leaves still d.x d.component server_now.0 component server_now.1 d.x (omega arith))
      (λ r p q. record { client = client r p; server = server r q; held = held_falls r peaks })
    where
      client : (r : Resource) → is_paid d.world u.client client_component.0 client_was.0 r ≡ true
          → quota_at r s after u.client ≡ quota_at r s d.world u.client + part r u.donation
      client r p =
          let quantum = part r client_component.0.node.quantum in
          let enough = leb-true (held r d.world u.client client_was.0 + lent r d.world u.client)
          (handed client_was.0.phase quantum + received r d.world u.client) p in
          let less = sum_less (from_leaf u.client (donated r)) (lent_outer r u.client) refl in
          let mine = from_one r u.client last.0 (ap (λ (s : Session). s.client) last.2) in
          let given = last_given r in
          let same = sum_less (to_leaf u.client (donated r)) (received_outer r u.client) refl in
          let other = to_other r u.client last.0 (λ e. client_ne (sym e ∙ ap (λ (s : Session). s.server) last.2 ∙ server_is)) in
          let phases = client_phase quantum in
          let old_phase = phases.0 in
          let new_phase = phases.1 in
          quota_there r s after u.client client_component.0 client_now.0 (in_components u.client client_component.0 client_component.1) client_now.1
          ∙ (omega (arith, enough, less, mine, given, same, other, old_phase, new_phase)
          ∙ ap (λ n. n + part r u.donation) (sym (quota_there r s d.world u.client client_component.0 client_was.0
          (in_components u.client client_component.0 client_component.1) client_was.1)))

      server : (r : Resource) → is_paid after d.x d.component server_now.0 r ≡ true
          → quota_at r s after u.server + part r u.donation ≡ quota_at r s d.world u.server
      server r p =
          let quantum = part r d.component.node.quantum in
          let enough = leb-true (held r after d.x server_now.0 + lent r after d.x) (handed server_now.0.phase quantum + received r after d.x) p in
          let less = sum_less (to_leaf d.x (donated r)) (received_outer r d.x) refl in
          let mine = to_one r d.x last.0 (ap (λ (s : Session). s.server) last.2 ∙ server_is) in
          let given = last_given r in
          let same = sum_less (from_leaf d.x (donated r)) (lent_outer r d.x) refl in
          let other = from_other r d.x last.0 (λ e. client_ne (ap (λ (s : Session). s.client) (sym last.2) ∙ e)) in
          let phases = server_phase quantum in
          let old_phase = phases.0 in
          let new_phase = phases.1 in
          ap (λ x. quota_at r s after x + part r u.donation) server_is
          ∙ (ap (λ n. n + part r u.donation) (quota_there r s after d.x d.component server_now.0 (in_components d.x d.component component) server_now.1)
          ∙ (omega (arith, enough, less, mine, given, same, other, old_phase, new_phase)
          ∙ (sym (quota_there r s d.world d.x d.component t.old (in_components d.x d.component component) t.there)
          ∙ ap (quota_at r s d.world) (sym server_is))))
