-- Worlds of which the same is kept are the same but for the numbers of sessions.
use Rattle.std.proofs.Common.{◌≡◌, ◌≢◌, ◌⊎◌, inl, inr, ◌<◌, ◌≤◌, ℕ, zero, suc, ◌+◌, Bool, true, cond, List, [], ◌∷◌, ◌++◌, length, map}
use Rattle.std.proofs.Common.{Option, Some, None, refl, ap, sym, ◌∙◌, subst, arith}
use Rattle.std.specs.Prelude.{slice_get, get_or, option_map, is_some}
use Rattle.std.proofs.lemmas.Bool.{false≢true, or_left, or_right, or_cases}
use Rattle.std.proofs.lemmas.Bool.Decides.{eqb_tells}
use Rattle.std.proofs.lemmas.Option.{slice_get-map, get_or_from_slice_get, slice_get_within}
use Rattle.gq_model.specs.machine.Lists.{any_of}
use Rattle.gq_model.specs.machine.Program.{text_eq}
use Rattle.gq_model.specs.machine.Scenario.{Component, Scenario, System, components, system}
use Rattle.gq_model.specs.machine.Routes.{server_of}
use Rattle.gq_model.specs.machine.World.{Slot, Empty, Bytes, Pool, Link, Waiting, SlotId, In_leaf, In_session, In_object, Session, Request, Current, Leaf}
use Rattle.gq_model.specs.machine.World.{World}
use Rattle.gq_model.specs.machine.World.{session_at, slot_at, leaf_slot, session_slot}
use Rattle.gq_model.specs.rules.Use.{is_there, services}
use Rattle.gq_model.proofs.Small_facts.{none_some, some_same, equal_self, text_is}
use Rattle.gq_laws.specs.Shapes.{Each}
use Rattle.gq_laws.specs.Separation.{own_session, own_requests}
use Rattle.gq_laws.specs.Session_links.{Naming, Leads, Waits, named as named_of, naming, naming_in, outline, outline_in, stance, stance_in, Stands, Belongs}
use Rattle.gq_laws.specs.Session_links.{IsAsked, IsLinkedWorld, links}
use Rattle.gq_laws.specs.Renamed.{renamed_slot, renamed_slot_id, renamed_current, renamed_leaf, renamed_session, renamed_request}
use Rattle.gq_laws.specs.internal.Corresponding.{own_at, IsSame}
use Rattle.gq_laws.proofs.Outside_step_untouched.{outlined}
use Rattle.gq_laws.proofs.progress.Lasting_world_invariant.{Lasts}
use Rattle.gq_laws.proofs.verified_programs.Sound_systems.{is_resolved}
use Rattle.gq_laws.proofs.verified_programs.Use_chains.{Uses, Chain, chain_short, resolved_acyclic}
use Rattle.gq_determined.proofs.thread_steps.Thread_reflexivity.{leaf_itself, session_itself}
use Rattle.gq_outcomes.specs.Same.{named, named_below, named_by, named_from, named_in, ordered, place_of, session_slots}

-- NUMBERS IN A LIST

abbrev pub Mem : ℕ → List ℕ → Type 0
Mem k [] = ⊥
Mem k (j ∷ ks) = (j ≡ k) ⊎ Mem k ks

mem_left : (k : ℕ) (a b : List ℕ) → Mem k a → Mem k (a ++ b)
mem_left k [] b h = absurd h
mem_left k (j ∷ a) b (inl e) = inl e
mem_left k (j ∷ a) b (inr h) = inr (mem_left k a b h)

mem_right : (k : ℕ) (a b : List ℕ) → Mem k b → Mem k (a ++ b)
mem_right k [] b h = h
mem_right k (j ∷ a) b h = inr (mem_right k a b h)

-- at its place there is the number
placed : (k : ℕ) (ks : List ℕ) → Mem k ks → slice_get ks (place_of k ks) ≡ Some k
placed k [] h = absurd h
placed k (j ∷ ks) h = elim (eqb_tells j k) [
  | inl e ↦ ap (λ b. slice_get (j ∷ ks) (cond b 0 (suc (place_of k ks)))) e.0 ∙ ap Some e.1
  | inr e ↦ ap (λ b. slice_get (j ∷ ks) (cond b 0 (suc (place_of k ks)))) e.0 ∙ by h e.1 (placed k ks)
]
  where
    by : (j ≡ k) ⊎ Mem k ks → j ≢ k → (Mem k ks → slice_get ks (place_of k ks) ≡ Some k) → slice_get ks (place_of k ks) ≡ Some k
    by (inl e) ne further = absurd (ne e)
    by (inr m) ne further = further m

-- OTHER NAMES

module _ (f g : ℕ → ℕ) where
  abbrev both : ℕ → ℕ
  both k = g (f k)

  slot_both : (slot : Slot) → renamed_slot g (renamed_slot f slot) ≡ renamed_slot both slot
  slot_both Empty = refl
  slot_both (Bytes form n bytes) = refl
  slot_both (Pool n entries) = refl
  slot_both (Link k) = refl
  slot_both (Waiting k) = refl

  slots_both : (slots : List Slot) → map (renamed_slot g) (map (renamed_slot f) slots) ≡ map (renamed_slot both) slots
  slots_both [] = refl
  slots_both (slot ∷ slots) = λ i. slot_both slot i ∷ slots_both slots i

  current_both : (o : Option Current) → option_map (renamed_current g) (option_map (renamed_current f) o) ≡ option_map (renamed_current both) o
  current_both None = refl
  current_both (Some c) = refl

  pub leaf_both : (l : Leaf) → renamed_leaf g (renamed_leaf f l) ≡ renamed_leaf both l
  leaf_both l = λ i. record l { current = current_both l.current i; slots = slots_both l.slots i }

  slot_id_both : (q : SlotId) → renamed_slot_id g (renamed_slot_id f q) ≡ renamed_slot_id both q
  slot_id_both (In_leaf y a) = refl
  slot_id_both (In_session k a) = refl
  slot_id_both (In_object k) = refl

  pub session_both : (s : Session) → renamed_session g (renamed_session f s) ≡ renamed_session both s
  session_both s = λ i. record s { slot_id = slot_id_both s.slot_id i; object = slot_both s.object i; slots = slots_both s.slots i }

  pub requests_both : (rs : List Request) → map (renamed_request g) (map (renamed_request f) rs) ≡ map (renamed_request both) rs
  requests_both [] = refl
  requests_both (r ∷ rs) = λ i. renamed_request both r ∷ requests_both rs i

-- names that agree on the sessions that are there
module _ (u : System) (w : World) (linked : IsLinkedWorld u w) (f g : ℕ → ℕ)
    (agree : (j : ℕ) (s : Session) → session_at w j ≡ Some s → g j ≡ f j) where
  outlined_agrees : (j : ℕ) (s : Session) → outline_in (session_at w j) ≡ Some s → g j ≡ f j
  outlined_agrees j s e = let p = outlined (session_at w j) s e in agree j p.0 p.1

  slot_name : (slot : Slot) → ((n : Naming) → naming slot ≡ Some n → g (named_of n) ≡ f (named_of n)) → renamed_slot g slot ≡ renamed_slot f slot
  slot_name Empty h = refl
  slot_name (Bytes form n bytes) h = refl
  slot_name (Pool n entries) h = refl
  slot_name (Link j) h = ap Link (h (Leads j) refl)
  slot_name (Waiting j) h = ap Waiting (h (Waits j) refl)

  slot_names : (slots : List Slot) → ((i : ℕ) (n : Naming) → naming_in (slice_get slots i) ≡ Some n → g (named_of n) ≡ f (named_of n))
      → map (renamed_slot g) slots ≡ map (renamed_slot f) slots
  slot_names [] h = refl
  slot_names (slot ∷ slots) h = λ t. slot_name slot (h zero) t ∷ slot_names slots (λ i. h (suc i)) t

  at_slot : (q : SlotId) (n : Naming) → naming_in (slot_at w q) ≡ Some n → g (named_of n) ≡ f (named_of n)
  at_slot q n e = let s = linked.named q n e in outlined_agrees (named_of n) s.0 s.1

  current_name : (y : ℕ) (leaf : Leaf) (current : Option Current) → stance_in (slice_get w.leaves y) ≡ Some (stance leaf.phase current)
      → option_map (renamed_current g) current ≡ option_map (renamed_current f) current
  current_name y leaf None e = refl
  current_name y leaf (Some current) e =
      let s = linked.handles y leaf.phase current e in
      ap (λ n. Some (record { session = n; section = current.section })) (outlined_agrees current.session s.0 s.1)

  pub leaf_name : (y : ℕ) (o : Option Leaf) → slice_get w.leaves y ≡ o → option_map (renamed_leaf g) o ≡ option_map (renamed_leaf f) o
  leaf_name y None e = refl
  leaf_name y (Some leaf) e = λ t. Some (record leaf { current = current t; slots = slots t })
    where
      current : option_map (renamed_current g) leaf.current ≡ option_map (renamed_current f) leaf.current
      current = current_name y leaf leaf.current (ap stance_in e)

      slots : map (renamed_slot g) leaf.slots ≡ map (renamed_slot f) leaf.slots
      slots = slot_names leaf.slots (λ i n at. at_slot (In_leaf y i) n (ap (λ o. naming_in (leaf_slot o i)) e ∙ at))

  slot_id_name : (q : SlotId) (client : ℕ) → Belongs (links w) q client → renamed_slot_id g q ≡ renamed_slot_id f q
  slot_id_name (In_leaf x i) client b = refl
  slot_id_name (In_session j i) client b = ap (λ n. In_session n i) (outlined_agrees j b.0 b.1)
  slot_id_name (In_object j) client b = absurd b

  pub session_name : (j : ℕ) (s : Session) → session_at w j ≡ Some s → renamed_session g s ≡ renamed_session f s
  session_name j s e = λ t. record s { slot_id = slot_id t; object = object t; slots = slots t }
    where
      slot_id : renamed_slot_id g s.slot_id ≡ renamed_slot_id f s.slot_id
      slot_id = slot_id_name s.slot_id s.client (linked.belongs j (outline s) (ap outline_in e))

      object : renamed_slot g s.object ≡ renamed_slot f s.object
      object = slot_name s.object (λ n at. at_slot (In_object j) n (ap (λ o. naming_in (option_map (λ (s : Session). s.object) o)) e ∙ at))

      slots : map (renamed_slot g) s.slots ≡ map (renamed_slot f) s.slots
      slots = slot_names s.slots (λ i n at. at_slot (In_session j i) n (ap (λ o. naming_in (session_slot o i)) e ∙ at))

  pub request_names : (rs : List Request) → Each (IsAsked (links w)) rs → map (renamed_request g) rs ≡ map (renamed_request f) rs
  request_names [] each = refl
  request_names (r ∷ rs) each =
      λ t. record { session = outlined_agrees r.session each.0.0 each.0.1 t; ask = r.ask } ∷ request_names rs each.1 t

-- HOW DEEP SESSIONS STAND

-- a leaf that opens a service of this server uses it
any_uses : (u : System) (c : Component) (y : ℕ) (service : List ℕ) → server_of u c service ≡ Some y → (names : List (List ℕ))
    → any_of (text_eq service) names ≡ true → any_of (λ v. is_there y (server_of u c v)) names ≡ true
any_uses u c y service routed [] e = absurd (false≢true e)
any_uses u c y service routed (v ∷ names) e =
    elim (or_cases (text_eq service v) (any_of (text_eq service) names) e) [
      | inl same ↦ or_left (is_there y (server_of u c v)) (any_of (λ v. is_there y (server_of u c v)) names)
          (ap (λ v. is_there y (server_of u c v)) (sym (text_is service v same)) ∙ (ap (is_there y) routed ∙ equal_self y))
      | inr further ↦ or_right (is_there y (server_of u c v)) (any_of (λ v. is_there y (server_of u c v)) names)
          (any_uses u c y service routed names further)
    ]

module _ (s : Scenario) (w : World) (h : Lasts s w) where
  abbrev pub u : System
  u = system s

  linked : IsLinkedWorld u w
  linked = h.stands.linked

  -- a session's client uses its server
  pub uses : (k : ℕ) (t : Session) → session_at w k ≡ Some t → Uses u t.client t.server
  uses k t at =
      let r = linked.routed k (outline t) (ap outline_in at) in
      (r.0, r.1, any_uses u r.0 t.server t.service r.2 (services r.0) (h.opened.at k t at r.0 r.1))

  -- a session that stands in a leaf's own slot, or in one of a session that stands so, over n sessions
  abbrev pub Deep : ℕ → ℕ → Type 0
  Deep zero k = (t : Session) × (session_at w k ≡ Some t) × ((y : ℕ) × (a : ℕ) × (t.slot_id ≡ In_leaf y a))
  Deep (suc n) k = (t : Session) × (session_at w k ≡ Some t) × ((j : ℕ) × (a : ℕ) × (t.slot_id ≡ In_session j a) × Deep n j)

  climb : (fuel k : ℕ) (t : Session) (rest : List ℕ) → session_at w k ≡ Some t → Chain u t.client rest → length (components s) ≤ fuel + length rest
      → (n : ℕ) × (n < fuel) × Deep n k
  climb zero k t rest at chain enough =
      let short = chain_short u (resolved_acyclic s (is_resolved s h.stands.sound.accepted)) t.client rest chain in
      absurd (omega (arith, short, enough))
  climb (suc fuel) k t rest at chain enough =
      by t.slot_id refl (linked.belongs k (outline t) (ap outline_in at)) (λ j p e c. climb fuel j p (t.client ∷ rest) e c (omega (arith, enough)))
    where
      by : (q : SlotId) → t.slot_id ≡ q → Belongs (links w) q t.client
          → ((j : ℕ) (p : Session) → session_at w j ≡ Some p → Chain u p.client (t.client ∷ rest) → (n : ℕ) × (n < fuel) × Deep n j)
          → (n : ℕ) × (n < suc fuel) × Deep n k
      by (In_leaf y a) is b up = (zero, omega arith, (t, at, (y, a, is)))
      by (In_session j a) is b up =
          let p = outlined (session_at w j) b.0 b.1 in
          let server : p.0.server ≡ t.client = ap (λ (s : Session). s.server) p.2 ∙ b.3 in
          let r = up j p.0 p.1 (subst (Uses u p.0.client) server (uses j p.0 p.1), chain) in
          let less = r.1 in (suc r.0, omega (arith, less), (t, at, (j, a, is, r.2)))
      by (In_object j) is b up = absurd b

  pub deep : (k : ℕ) (t : Session) → session_at w k ≡ Some t → (n : ℕ) × (n < length (components s)) × Deep n k
  deep k t at =
      let r = uses k t at in
      climb (length (components s)) k t [] at (slice_get_within (components s) t.client r.0 r.1) (omega arith)

  -- its slot names it
  pub slot_names_it : (k : ℕ) (t : Session) → session_at w k ≡ Some t → (n : Naming) × (naming_in (slot_at w t.slot_id) ≡ Some n) × (named_of n ≡ k)
  slot_names_it k t at = by (linked.stands k (outline t) (ap outline_in at))
    where
      by : Stands (links w) k (outline t) → (n : Naming) × (naming_in (slot_at w t.slot_id) ≡ Some n) × (named_of n ≡ k)
      by (inl a) = (Leads k, a.0, refl)
      by (inr a) = (Waits k, a.0, refl)

  -- ALL SESSIONS ARE NAMED

  in_slots : (slots : List Slot) (a : ℕ) (n : Naming) → naming_in (slice_get slots a) ≡ Some n → Mem (named_of n) (named_in slots)
  in_slots [] a n e = absurd (none_some e)
  in_slots (slot ∷ slots) zero n e = by slot e
    where
      by : (slot : Slot) → naming slot ≡ Some n → Mem (named_of n) (named_in (slot ∷ slots))
      by Empty e = absurd (none_some e)
      by (Bytes form m bytes) e = absurd (none_some e)
      by (Pool m entries) e = absurd (none_some e)
      by (Link k) e = inl (ap named_of (some_same e))
      by (Waiting k) e = inl (ap named_of (some_same e))
  in_slots (slot ∷ slots) (suc a) n e = by slot (in_slots slots a n e)
    where
      by : (slot : Slot) → Mem (named_of n) (named_in slots) → Mem (named_of n) (named_in (slot ∷ slots))
      by Empty m = m
      by (Bytes form i bytes) m = m
      by (Pool i entries) m = m
      by (Link k) m = inr m
      by (Waiting k) m = inr m

  in_leaves : (leaves : List Leaf) (y a : ℕ) (n : Naming) → naming_in (leaf_slot (slice_get leaves y) a) ≡ Some n → Mem (named_of n) (named_by leaves)
  in_leaves [] y a n e = absurd (none_some e)
  in_leaves (l ∷ leaves) zero a n e = mem_left (named_of n) (named_in l.slots) (named_by leaves) (in_slots l.slots a n e)
  in_leaves (l ∷ leaves) (suc y) a n e = mem_right (named_of n) (named_in l.slots) (named_by leaves) (in_leaves leaves y a n e)

  in_below : (js : List ℕ) (j a : ℕ) (n : Naming) → Mem j js → naming_in (session_slot (session_at w j) a) ≡ Some n → Mem (named_of n) (named_below w js)
  in_below [] j a n m e = absurd m
  in_below (i ∷ js) j a n (inl is) e =
      mem_left (named_of n) (named_in (session_slots (session_at w i))) (named_below w js)
      (by (session_at w i) (ap (λ k. naming_in (session_slot (session_at w k) a)) is ∙ e))
    where
      by : (o : Option Session) → naming_in (session_slot o a) ≡ Some n → Mem (named_of n) (named_in (session_slots o))
      by None e = absurd (none_some e)
      by (Some t) e = in_slots t.slots a n e
  in_below (i ∷ js) j a n (inr m) e =
      mem_right (named_of n) (named_in (session_slots (session_at w i))) (named_below w js) (in_below js j a n m e)

  abbrev level : ℕ → List ℕ → List ℕ
  level zero ks = ks
  level (suc n) ks = level n (named_below w ks)

  level_next : (n : ℕ) (ks : List ℕ) → level n (named_below w ks) ≡ named_below w (level n ks)
  level_next zero ks = refl
  level_next (suc n) ks = level_next n (named_below w ks)

  in_from : (n m k : ℕ) (ks : List ℕ) → m < n → Mem k (level m ks) → Mem k (named_from n w ks)
  in_from zero m k ks less h = absurd (omega (arith, less))
  in_from (suc n) zero k ks less h = mem_left k ks (named_from n w (named_below w ks)) h
  in_from (suc n) (suc m) k ks less h =
      mem_right k ks (named_from n w (named_below w ks)) (in_from n m k (named_below w ks) (omega (arith, less)) h)

  in_level : (n k : ℕ) → Deep n k → Mem k (level n (named_by w.leaves))
  in_level zero k d =
      let m = slot_names_it k d.0 d.1 in
      subst (λ k. Mem k (named_by w.leaves)) m.2
      (in_leaves w.leaves d.2.0 d.2.1 m.0 (ap (λ q. naming_in (slot_at w q)) (sym d.2.2) ∙ m.1))
  in_level (suc n) k d =
      let m = slot_names_it k d.0 d.1 in
      let up = in_level n d.2.0 d.2.3 in
      subst (Mem k) (sym (level_next n (named_by w.leaves)))
      (subst (λ k. Mem k (named_below w (level n (named_by w.leaves)))) m.2
      (in_below (level n (named_by w.leaves)) d.2.0 d.2.1 m.0 up (ap (λ q. naming_in (slot_at w q)) (sym d.2.2) ∙ m.1)))

  pub all_named : (k : ℕ) (t : Session) → session_at w k ≡ Some t → Mem k (named w)
  all_named k t at =
      let d = deep k t at in
      let less = d.1 in
      let count = h.stands.whole.count in
      in_from (length w.leaves) d.0 k (named_by w.leaves) (omega (arith, less, count)) (in_level d.0 k d.2)

  -- each has its number again
  abbrev pub number : ℕ → ℕ
  number i = get_or (named w) i 0

  pub number_place : (k : ℕ) (t : Session) → session_at w k ≡ Some t → number (place_of k (named w)) ≡ k
  number_place k t at = get_or_from_slice_get (named w) (place_of k (named w)) k 0 (placed k (named w) (all_named k t at))

-- WORLDS THAT ARE EQUAL ONCE SESSIONS ARE ORDERED

abbrev pub all : ℕ → Bool
all x = true

own_all : (o : Option Session) → own_session all o ≡ o
own_all None = refl
own_all (Some s) = refl

requests_itself : (rs : List Request) → map (renamed_request (λ k. k)) rs ≡ rs
requests_itself [] = refl
requests_itself (r ∷ rs) = ap (λ l. r ∷ l) (requests_itself rs)

option_both : {A : Type 0} {B : Type 0} {C : Type 0} (f : A → B) (g : B → C) (k : A → C) → ((a : A) → g (f a) ≡ k a) → (o : Option A)
    → option_map g (option_map f o) ≡ option_map k o
option_both f g k same None = refl
option_both f g k same (Some a) = ap Some (same a)

mapped_some : {A : Type 0} {B : Type 0} (f : A → B) (o : Option A) (b : B) → option_map f o ≡ Some b → (a : A) × (o ≡ Some a) × (f a ≡ b)
mapped_some f None b e = absurd (none_some e)
mapped_some f (Some a) b e = (a, refl, some_same e)

own_requests_all : (u : System) (w : World) (rs : List Request) → Each (IsAsked (links w)) rs → own_requests all w rs ≡ rs
own_requests_all u w [] each = refl
own_requests_all u w (r ∷ rs) each =
    let p = outlined (session_at w r.session) each.0.0 each.0.1 in
    ap (λ o. cond (is_some (own_session all o)) (r ∷ own_requests all w rs) (own_requests all w rs)) p.1 ∙ ap (λ l. r ∷ l) (own_requests_all u w rs each.1)

module _ (s : Scenario) (w v : World) (h : Lasts s w) (g : Lasts s v) (e : ordered w ≡ ordered v) where
  abbrev pw : ℕ → ℕ
  pw k = place_of k (named w)

  abbrev pv : ℕ → ℕ
  pv k = place_of k (named v)

  abbrev nv : ℕ → ℕ
  nv = number s v g

  -- the session of the other world that has the same place
  abbrev pub name : ℕ → ℕ
  name k = nv (pw k)

  agree : (j : ℕ) (t : Session) → session_at v j ≡ Some t → nv (pv j) ≡ j
  agree = number_place s v g

  leaves : (y : ℕ) → slice_get v.leaves y ≡ option_map (renamed_leaf name) (slice_get w.leaves y)
  leaves y =
      let same : option_map (renamed_leaf pw) (slice_get w.leaves y) ≡ option_map (renamed_leaf pv) (slice_get v.leaves y)
      = sym (slice_get-map (renamed_leaf pw) w.leaves y) ∙ (ap (λ (z : World). slice_get z.leaves y) e ∙ slice_get-map (renamed_leaf pv) v.leaves y) in
      let back : option_map (renamed_leaf nv) (option_map (renamed_leaf pv) (slice_get v.leaves y)) ≡ slice_get v.leaves y
      = option_both (renamed_leaf pv) (renamed_leaf nv) (renamed_leaf (λ k. nv (pv k))) (leaf_both pv nv) (slice_get v.leaves y)
      ∙ (leaf_name (system s) v g.stands.linked (λ k. k) (λ k. nv (pv k)) agree y (slice_get v.leaves y) refl ∙ itself (slice_get v.leaves y)) in
      sym back
      ∙ (ap (option_map (renamed_leaf nv)) (sym same)
      ∙ option_both (renamed_leaf pw) (renamed_leaf nv) (renamed_leaf name) (leaf_both pw nv) (slice_get w.leaves y))
    where
      itself : (o : Option Leaf) → option_map (renamed_leaf (λ k. k)) o ≡ o
      itself None = refl
      itself (Some l) = ap Some (leaf_itself l)

  there : (k : ℕ) (t : Session) → session_at w k ≡ Some t → session_at v (name k) ≡ Some (renamed_session name t)
  there k t at =
      let a : slice_get (ordered w).sessions (pw k) ≡ Some (Some (renamed_session pw t))
      = slice_get-map (λ k. option_map (renamed_session pw) (session_at w k)) (named w) (pw k)
      ∙ (ap (option_map (λ k. option_map (renamed_session pw) (session_at w k))) (placed k (named w) (all_named s w h k t at))
      ∙ ap (λ o. Some (option_map (renamed_session pw) o)) at) in
      let b : option_map (λ k. option_map (renamed_session pv) (session_at v k)) (slice_get (named v) (pw k)) ≡ Some (Some (renamed_session pw t))
      = sym (slice_get-map (λ k. option_map (renamed_session pv) (session_at v k)) (named v) (pw k))
      ∙ (ap (λ (z : World). slice_get z.sessions (pw k)) (sym e) ∙ a) in
      let m = mapped_some (λ k. option_map (renamed_session pv) (session_at v k)) (slice_get (named v) (pw k)) (Some (renamed_session pw t)) b in
      let r = mapped_some (renamed_session pv) (session_at v m.0) (renamed_session pw t) m.2 in
      let number : name k ≡ m.0 = get_or_from_slice_get (named v) (pw k) m.0 0 m.1 in
      let same : r.0 ≡ renamed_session name t
      = sym (session_itself r.0)
      ∙ (sym (session_name (system s) v g.stands.linked (λ k. k) (λ k. nv (pv k)) agree m.0 r.0 r.1)
      ∙ (sym (session_both pv nv r.0) ∙ (ap (renamed_session nv) r.2 ∙ session_both pw nv t))) in
      ap (session_at v) number ∙ (r.1 ∙ ap Some same)

  -- ONE TO ONE

  slot_there : (q : SlotId) (client : ℕ) → Belongs (links w) q client → slot_at v (renamed_slot_id name q) ≡ option_map (renamed_slot name) (slot_at w q)
  slot_there (In_leaf y a) client b =
      ap (λ o. leaf_slot o a) (leaves y) ∙ by (slice_get w.leaves y)
    where
      by : (o : Option Leaf) → leaf_slot (option_map (renamed_leaf name) o) a ≡ option_map (renamed_slot name) (leaf_slot o a)
      by None = refl
      by (Some l) = slice_get-map (renamed_slot name) l.slots a
  slot_there (In_session j a) client b =
      let p = outlined (session_at w j) b.0 b.1 in
      ap (λ o. session_slot o a) (there j p.0 p.1)
      ∙ (slice_get-map (renamed_slot name) p.0.slots a ∙ ap (λ o. option_map (renamed_slot name) (session_slot o a)) (sym p.1))
  slot_there (In_object j) client b = absurd b

  named_back : (o : Option Slot) (n : Naming) → naming_in (option_map (renamed_slot name) o) ≡ Some n
      → (m : Naming) × (naming_in o ≡ Some m) × (name (named_of m) ≡ named_of n)
  named_back None n e = absurd (none_some e)
  named_back (Some Empty) n e = absurd (none_some e)
  named_back (Some (Bytes form k bytes)) n e = absurd (none_some e)
  named_back (Some (Pool k entries)) n e = absurd (none_some e)
  named_back (Some (Link k)) n e = (Leads k, refl, ap named_of (some_same e))
  named_back (Some (Waiting k)) n e = (Waits k, refl, ap named_of (some_same e))

  same_slot_same : (j k : ℕ) (a b : Session) → session_at w j ≡ Some a → session_at w k ≡ Some b → a.slot_id ≡ b.slot_id → j ≡ k
  same_slot_same j k a b at_j at_k same =
      let m = slot_names_it s w h j a at_j in
      let n = slot_names_it s w h k b at_k in
      sym m.2 ∙ (ap named_of (some_same (sym m.1 ∙ (ap (λ q. naming_in (slot_at w q)) same ∙ n.1))) ∙ n.2)

  images : (j k : ℕ) (a b : Session) → session_at w j ≡ Some a → session_at w k ≡ Some b → name j ≡ name k
      → renamed_slot_id name a.slot_id ≡ renamed_slot_id name b.slot_id
  images j k a b at_j at_k same =
      ap (λ (t : Session). t.slot_id) (some_same (sym (there j a at_j) ∙ (ap (session_at v) same ∙ there k b at_k)))

  leaf_only : (y a : ℕ) (q : SlotId) → In_leaf y a ≡ renamed_slot_id name q → In_leaf y a ≡ q
  leaf_only y a (In_leaf x b) e = e
  leaf_only y a (In_session k b) e = absurd (ne e)
    where
      ne : In_leaf y a ≡ In_session (name k) b → ⊥
      ne e = cc
  leaf_only y a (In_object k) e = absurd (ne e)
    where
      ne : In_leaf y a ≡ In_object (name k) → ⊥
      ne e = cc

  session_only : (j a : ℕ) (q : SlotId) → In_session (name j) a ≡ renamed_slot_id name q → (k : ℕ) × (q ≡ In_session k a) × (name j ≡ name k)
  session_only j a (In_leaf x b) e = absurd (ne e)
    where
      ne : In_session (name j) a ≡ In_leaf x b → ⊥
      ne e = cc
  session_only j a (In_session k b) e = (k, ap (In_session k) (sym (second e)), first e)
    where
      first : {m n : ℕ} → In_session m a ≡ In_session n b → m ≡ n
      first e = cc

      second : {m n : ℕ} → In_session m a ≡ In_session n b → a ≡ b
      second e = cc
  session_only j a (In_object k) e = absurd (ne e)
    where
      ne : In_session (name j) a ≡ In_object (name k) → ⊥
      ne e = cc

  single : (n j k : ℕ) (a b : Session) → Deep s w h n j → session_at w j ≡ Some a → session_at w k ≡ Some b → name j ≡ name k → j ≡ k
  single zero j k a b d at_j at_k same =
      let slot : a.slot_id ≡ In_leaf d.2.0 d.2.1 = ap (λ (t : Session). t.slot_id) (some_same (sym at_j ∙ d.1)) ∙ d.2.2 in
      let image = ap (renamed_slot_id name) (sym slot) ∙ images j k a b at_j at_k same in
      same_slot_same j k a b at_j at_k (slot ∙ leaf_only d.2.0 d.2.1 b.slot_id image)
  single (suc n) j k a b d at_j at_k same =
      let slot : a.slot_id ≡ In_session d.2.0 d.2.1 = ap (λ (t : Session). t.slot_id) (some_same (sym at_j ∙ d.1)) ∙ d.2.2 in
      let image = ap (renamed_slot_id name) (sym slot) ∙ images j k a b at_j at_k same in
      let o = session_only d.2.0 d.2.1 b.slot_id image in
      let bel = subst (λ q. Belongs (links w) q b.client) o.1 (h.stands.linked.belongs k (outline b) (ap outline_in at_k)) in
      let p = outlined (session_at w o.0) bel.0 bel.1 in
      let first = session_of n d.2.0 d.2.3 in
      let up = single n d.2.0 o.0 first.0 p.0 d.2.3 first.1 p.1 o.2 in
      same_slot_same j k a b at_j at_k (slot ∙ (ap (λ i. In_session i d.2.1) up ∙ sym o.1))
    where
      session_of : (n i : ℕ) → Deep s w h n i → (t : Session) × (session_at w i ≡ Some t)
      session_of zero i d = (d.0, d.1)
      session_of (suc n) i d = (d.0, d.1)

  abbrev Back : ℕ → Type 0
  Back m = (k : ℕ) × (t : Session) × (session_at w k ≡ Some t) × (name k ≡ m)

  back_by : (q : SlotId) (client m : ℕ) (n : Naming) → Belongs (links w) q client → naming_in (slot_at v (renamed_slot_id name q)) ≡ Some n → named_of n ≡ m
      → Back m
  back_by q client m n b e is =
      let p = named_back (slot_at w q) n (ap naming_in (sym (slot_there q client b)) ∙ e) in
      let t = h.stands.linked.named q p.0 p.1 in
      let o = outlined (session_at w (named_of p.0)) t.0 t.1 in
      (named_of p.0, o.0, o.1, p.2 ∙ is)

  back : (n m : ℕ) → Deep s v g n m → Back m
  back zero m d =
      let p = slot_names_it s v g m d.0 d.1 in
      back_by (In_leaf d.2.0 d.2.1) d.2.0 m p.0 refl (ap (λ q. naming_in (slot_at v q)) (sym d.2.2) ∙ p.1) p.2
  back (suc n) m d =
      let p = slot_names_it s v g m d.0 d.1 in
      let up = back n d.2.0 d.2.3 in
      let bel = subst (λ q. Belongs (links v) q d.0.client) d.2.2 (g.stands.linked.belongs m (outline d.0) (ap outline_in d.1)) in
      let t = outlined (session_at v d.2.0) bel.0 bel.1 in
      let image = there up.0 up.1 up.2 in
      let same : t.0 ≡ renamed_session name up.1 = some_same (sym t.1 ∙ (ap (session_at v) (sym up.3) ∙ image)) in
      let accepted : up.1.accepted ≡ true
      = ap (λ (t : Session). t.accepted) (sym same) ∙ (ap (λ (t : Session). t.accepted) t.2 ∙ bel.2) in
      let server : up.1.server ≡ d.0.client = ap (λ (t : Session). t.server) (sym same) ∙ (ap (λ (t : Session). t.server) t.2 ∙ bel.3) in
      back_by (In_session up.0 d.2.1) d.0.client m p.0 (outline up.1, ap outline_in up.2, accepted, server)
      (ap (λ i. naming_in (slot_at v (In_session i d.2.1))) up.3 ∙ (ap (λ q. naming_in (slot_at v q)) (sym d.2.2) ∙ p.1)) p.2

  requests : own_requests all v v.requests ≡ map (renamed_request name) (own_requests all w w.requests)
  requests =
      own_requests_all (system s) v v.requests g.stands.linked.asked
      ∙ (sym (requests_itself v.requests)
      ∙ (sym (request_names (system s) v g.stands.linked (λ k. k) (λ k. nv (pv k)) agree v.requests g.stands.linked.asked)
      ∙ (sym (requests_both pv nv v.requests)
      ∙ (ap (λ (z : World). map (renamed_request nv) z.requests) (sym e)
      ∙ (requests_both pw nv w.requests
      ∙ ap (map (renamed_request name)) (sym (own_requests_all (system s) w w.requests h.stands.linked.asked)))))))

  own_is : (z : World) (k : ℕ) (t : Session) → own_at all z.sessions k ≡ Some t → session_at z k ≡ Some t
  own_is z k t at = sym (own_all (session_at z k)) ∙ at

  pub same_but_numbers : IsSame all name w v
  same_but_numbers =
      record {
        leaves = λ y inside. leaves y;
        sessions = record {
          there = λ k t at. own_all (session_at v (name k)) ∙ there k t (own_is w k t at);
          back = λ m t at.
              (let d = deep s v g m t (own_is v m t at) in
              let p = back d.0 m d.2 in (p.0, p.1, own_all (session_at w p.0) ∙ p.2, p.3));
          single = λ j k a b at_j at_k same.
              (let d = deep s w h j a (own_is w j a at_j) in single d.0 j k a b d.2 (own_is w j a at_j) (own_is w k b at_k) same);
        };
        requests = requests;
      }
