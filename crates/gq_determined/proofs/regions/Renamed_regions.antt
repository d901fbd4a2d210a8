-- The region of a thread by other names for sessions, and by other roots.
use Rattle.std.proofs.Common.{◌≡◌, ℕ, zero, suc, ◌==◌, inl, inr, Bool, true, false, cond, List, [], ◌∷◌, map, Option, Some, None, refl, ap, sym, ◌∙◌, subst}
use Rattle.std.specs.Prelude.{option_map, slice_get}
use Rattle.std.proofs.lemmas.Bool.Decides.{eqb_tells}
use Rattle.gq_model.specs.declared.phase.Phase.{Phase}
use Rattle.gq_model.specs.declared.phase.Phase.TheVariants.{Pending, Running, Blocked, Serving, Handling, Exited}
use Rattle.gq_model.specs.machine.Scenario.{System}
use Rattle.gq_model.specs.machine.World.{Slot, Empty, Bytes, Pool, Link, Waiting, SlotId, In_leaf, In_session, In_object, Session, Request, Current, Leaf}
use Rattle.gq_model.specs.machine.World.{World}
use Rattle.gq_model.specs.machine.World.{session_at, slot_at, leaf_slot, session_slot, session_object}
use Rattle.gq_laws.specs.Shapes.{Each}
use Rattle.gq_laws.specs.Session_links.{Naming, Leads, Waits, named, naming, naming_in, outline, outline_in, Belongs, IsAsked, links}
use Rattle.gq_laws.proofs.Outside_step_untouched.{outlined}
use Rattle.gq_laws.specs.Renamed.{renamed_slot, renamed_slot_id, renamed_current, renamed_leaf, renamed_session, renamed_request}
use Rattle.gq_determined.specs.internal.Threads.{Tracked, within, among, slots_of, seen, seen_by, IsAtSame, IsSameRegion}
use Rattle.gq_determined.proofs.regions.Region_changes.{within_there}
use Rattle.gq_determined.proofs.thread_positions.Single_thread_position.{root_at, IsPlaced}

-- the root of what a slot names is that of the slot
abbrev pub rooted : Tracked → SlotId → ℕ
rooted g q = root_at g.own g.root q

module _ (system : System) (g : Tracked) (t : IsPlaced system g) where
  abbrev w : World
  w = g.world

  -- a session that a slot names is there, and below the slot's root
  pub named_there : (q : SlotId) (n : Naming) → naming_in (slot_at w q) ≡ Some n → (s : Session) × (session_at w (named n) ≡ Some s)
      × (g.root (named n) ≡ rooted g q)
  named_there q n e =
      let m = t.linked.named q n e in
      let s = outlined (session_at w (named n)) m.0 m.1 in
      (s.0, s.1, subst (λ q. g.root (named n) ≡ rooted g q) (ap (λ (s : Session). s.slot_id) s.2 ∙ m.2) (t.below (named n) s.0 s.1))

  module _ (f new : ℕ → ℕ) (y : ℕ) (agree : (k : ℕ) (s : Session) → session_at w k ≡ Some s → g.root k ≡ y → new k ≡ f k) where
    slot_name : (slot : Slot) → ((n : Naming) → naming slot ≡ Some n → new (named n) ≡ f (named n)) → renamed_slot new slot ≡ renamed_slot f slot
    slot_name Empty same = refl
    slot_name (Bytes form m bytes) same = refl
    slot_name (Pool m entries) same = refl
    slot_name (Link j) same = ap Link (same (Leads j) refl)
    slot_name (Waiting j) same = ap Waiting (same (Waits j) refl)

    slot_names : (slots : List Slot) → ((a : ℕ) (n : Naming) → naming_in (slice_get slots a) ≡ Some n → new (named n) ≡ f (named n))
        → map (renamed_slot new) slots ≡ map (renamed_slot f) slots
    slot_names [] same = refl
    slot_names (slot ∷ slots) same = λ e. slot_name slot (same zero) e ∷ slot_names slots (λ a. same (suc a)) e

    at_slot_id : (q : SlotId) → rooted g q ≡ y → (n : Naming) → naming_in (slot_at w q) ≡ Some n → new (named n) ≡ f (named n)
    at_slot_id q is n e = let m = named_there q n e in agree (named n) m.0 m.1 (m.2 ∙ is)

    session_name : (k : ℕ) (s : Session) → session_at w k ≡ Some s → g.root k ≡ y → renamed_session new s ≡ renamed_session f s
    session_name k s there is = λ e. record s { slot_id = slot_id e; object = object e; slots = slots e }
      where
        by : (q : SlotId) → g.root k ≡ rooted g q → Belongs (links w) q s.client → renamed_slot_id new q ≡ renamed_slot_id f q
        by (In_leaf z a) below b = refl
        by (In_session j a) below b =
            let t = outlined (session_at w j) b.0 b.1 in ap (λ n. In_session n a) (agree j t.0 t.1 (sym below ∙ is))
        by (In_object j) below b = absurd b

        slot_id : renamed_slot_id new s.slot_id ≡ renamed_slot_id f s.slot_id
        slot_id = by s.slot_id (t.below k s there) (t.linked.belongs k (outline s) (ap outline_in there))

        object : renamed_slot new s.object ≡ renamed_slot f s.object
        object = slot_name s.object (λ n e. at_slot_id (In_object k) is n (ap (λ o. naming_in (session_object o)) there ∙ e))

        slots : map (renamed_slot new) s.slots ≡ map (renamed_slot f) s.slots
        slots = slot_names s.slots (λ a n e. at_slot_id (In_session k a) is n (ap (λ o. naming_in (session_slot o a)) there ∙ e))

    request_names : (rs : List Request) → Each (IsAsked (links w)) rs
        → map (renamed_request new) (among g.root y rs) ≡ map (renamed_request f) (among g.root y rs)
    request_names [] each = refl
    request_names (r ∷ rs) each = by (g.root r.session == y) refl (request_names rs each.1)
      where
        by : (b : Bool) → (g.root r.session == y) ≡ b → map (renamed_request new) (among g.root y rs) ≡ map (renamed_request f) (among g.root y rs)
            → map (renamed_request new) (cond b (r ∷ among g.root y rs) (among g.root y rs))
            ≡ map (renamed_request f) (cond b (r ∷ among g.root y rs) (among g.root y rs))
        by false is further = further
        by true is further = elim (eqb_tells (g.root r.session) y) [
          | inl q ↦
              let s = outlined (session_at w r.session) each.0.0 each.0.1 in
              (λ e. record { session = agree r.session s.0 s.1 q.1 e; ask = r.ask } ∷ further e)
          | inr q ↦ absurd (cc (is, q.0))
        ]

    pub region_renamed : (other : ℕ → ℕ) (v : World) → IsSameRegion f g.own g.root other y w v → IsSameRegion new g.own g.root other y w v
    region_renamed other v h = record {
      slots = λ z is. h.slots z is ∙ leaf z is (slice_get w.leaves z) refl;
      sessions = record {
        there = λ k s e.
            (let m = within_there g.root y w.sessions k s e in
            ap (within other y v.sessions) (agree k s m.1 m.0) ∙ (h.sessions.there k s e ∙ ap Some (sym (session_name k s m.1 m.0))));
        back = λ m s e.
            (let p = h.sessions.back m s e in
            let q = within_there g.root y w.sessions p.0 p.1 p.2 in
            (p.0, p.1, p.2, agree p.0 p.1 q.1 q.0 ∙ p.3));
        single = λ j k s u e q r.
            (let a = within_there g.root y w.sessions j s e in
            let b = within_there g.root y w.sessions k u q in
            h.sessions.single j k s u e q (sym (agree j s a.1 a.0) ∙ (r ∙ agree k u b.1 b.0)));
      };
      requests = h.requests ∙ sym (request_names w.requests t.linked.asked);
    }
      where
        leaf : (z : ℕ) → g.own z ≡ y → (o : Option Leaf) → slice_get w.leaves z ≡ o
            → option_map (λ l. map (renamed_slot f) (slots_of l)) o ≡ option_map (λ l. map (renamed_slot new) (slots_of l)) o
        leaf z is None e = refl
        leaf z is (Some l) e =
            ap Some (sym (slot_names l.slots (λ a n there. at_slot_id (In_leaf z a) is n (ap (λ o. naming_in (leaf_slot o a)) e ∙ there))))

  -- WHAT A LEAF IS AT

  pub at_renamed : (f new : ℕ → ℕ) (y : ℕ) (v : World)
      → ((leaf : Leaf) (h : Current) → slice_get w.leaves y ≡ Some leaf → leaf.current ≡ Some h → new h.session ≡ f h.session) → IsAtSame f y w v
      → IsAtSame new y w v
  at_renamed f new y v agree h = h ∙ by (slice_get w.leaves y) refl
    where
      current_name : (leaf : Leaf) → slice_get w.leaves y ≡ Some leaf → (current : Option Current) → leaf.current ≡ current
          → option_map (renamed_current f) current ≡ option_map (renamed_current new) current
      current_name leaf there None e = refl
      current_name leaf there (Some h) e = ap (λ n. Some (record { session = n; section = h.section })) (sym (agree leaf h there e))

      -- nothing is in the slots of what is seen
      seen_name : (leaf : Leaf) → option_map (renamed_current f) leaf.current ≡ option_map (renamed_current new) leaf.current
          → renamed_leaf f (seen leaf) ≡ renamed_leaf new (seen leaf)
      seen_name leaf e = by leaf.phase
        where
          by : (p : Phase) → renamed_leaf f (seen_by p leaf) ≡ renamed_leaf new (seen_by p leaf)
          by Pending = λ q. record leaf { phase = Running; current = e q; slots = []; peaks = []; steps = 0; inputs = [] }
          by Running = λ q. record leaf { phase = Running; current = e q; slots = []; peaks = []; steps = 0; inputs = [] }
          by Blocked = λ q. record leaf { phase = Blocked; current = e q; slots = []; peaks = []; steps = 0; inputs = [] }
          by Handling = λ q. record leaf { phase = Handling; current = e q; slots = []; peaks = []; steps = 0; inputs = [] }
          by Serving = λ q. record (seen_by Serving leaf) { current = e q }
          by Exited = refl

      by : (o : Option Leaf) → slice_get w.leaves y ≡ o
          → option_map (λ l. renamed_leaf f (seen l)) o ≡ option_map (λ l. renamed_leaf new (seen l)) o
      by None e = refl
      by (Some leaf) e = ap Some (seen_name leaf (current_name leaf e leaf.current refl))

-- OTHER ROOTS

-- roots that are the same for all sessions that are there
pub region_roots : (f own root other root_new other_new : ℕ → ℕ) (y : ℕ) (w v : World)
    → ((k : ℕ) (s : Session) → session_at w k ≡ Some s → root_new k ≡ root k) → ((k : ℕ) (s : Session) → session_at v k ≡ Some s → other_new k ≡ other k)
    → Each (λ r. root_new r.session ≡ root r.session) w.requests → Each (λ r. other_new r.session ≡ other r.session) v.requests
    → IsSameRegion f own root other y w v → IsSameRegion f own root_new other_new y w v
region_roots f own root other root_new other_new y w v same same_v each each_v h = record {
  slots = h.slots;
  sessions = record {
    there = λ k s e. within_same other other_new v same_v (f k) ∙ h.sessions.there k s (sym (within_same root root_new w same k) ∙ e);
    back = λ m s e.
        (let p = h.sessions.back m s (sym (within_same other other_new v same_v m) ∙ e) in (p.0, p.1, within_same root root_new w same p.0 ∙ p.2, p.3));
    single = λ j k s u e q r. h.sessions.single j k s u (sym (within_same root root_new w same j) ∙ e) (sym (within_same root root_new w same k) ∙ q) r;
  };
  requests = among_same other other_new v.requests each_v ∙ (h.requests ∙ ap (map (renamed_request f)) (sym (among_same root root_new w.requests each)));
}
  where
    within_same : (root new : ℕ → ℕ) (w : World) → ((k : ℕ) (s : Session) → session_at w k ≡ Some s → new k ≡ root k) → (k : ℕ)
        → within new y w.sessions k ≡ within root y w.sessions k
    within_same root new w same k = by (session_at w k) refl
      where
        none : Option Session
        none = None

        both : (b c : Bool) → cond b none none ≡ cond c none none
        both true true = refl
        both true false = refl
        both false true = refl
        both false false = refl

        by : (o : Option Session) → session_at w k ≡ o → cond (new k == y) o None ≡ cond (root k == y) o None
        by None e = both (new k == y) (root k == y)
        by (Some s) e = ap (λ n. cond (n == y) (Some s) None) (same k s e)

    among_same : (root new : ℕ → ℕ) (rs : List Request) → Each (λ r. new r.session ≡ root r.session) rs → among new y rs ≡ among root y rs
    among_same root new [] each = refl
    among_same root new (r ∷ rs) each = λ e. cond (each.0 e == y) (r ∷ among_same root new rs each.1 e) (among_same root new rs each.1 e)
