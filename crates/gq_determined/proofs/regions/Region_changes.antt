-- The region of a thread in two worlds where the same changes in both.
use Rattle.std.proofs.Common.{◌≡◌, ◌≢◌, ℕ, zero, suc, ◌==◌, inl, inr, Bool, true, false, cond, List, [], ◌∷◌, ◌++◌, map, Option, Some, None, refl, ap, sym, ◌∙◌}
use Rattle.std.proofs.Common.{subst}
use Rattle.std.specs.Prelude.{option_map, slice_get, slice_set}
use Rattle.std.proofs.lemmas.Bool.Decides.{eqb_tells}
use Rattle.std.proofs.lemmas.Option.{slice_get-map}
use Rattle.std.proofs.lemmas.List.{map-append}
use Rattle.gq_model.specs.machine.Scenario.{Component}
use Rattle.gq_model.specs.machine.World.{Slot, In_leaf, In_session, In_object, Session, Request, Leaf, World, joined, session_at, with_leaf}
use Rattle.gq_model.specs.machine.World.{with_session, leaf_slot, session_slot, session_object, slot_at, put_leaf_slot, put_session_slot, put_object, with_slot}
use Rattle.gq_model.specs.machine.Requests.{add_session, free_place}
use Rattle.gq_model.specs.machine.Step.{all_released}
use Rattle.gq_model.proofs.Small_facts.{none_some, some_same, equal_self}
use Rattle.gq_laws.proofs.session_links.Written_world_links.{set_else}
use Rattle.gq_laws.proofs.Outside_step_untouched.{free_none}
use Rattle.gq_laws.specs.Renamed.{renamed_slot, renamed_session, renamed_request}
use Rattle.gq_laws.proofs.Session_renaming.{changed}
use Rattle.gq_laws.proofs.Renamed_world_equality.{place_here, added_here, added_else}
use Rattle.gq_determined.specs.internal.Threads.{within, among, slots_of, IsSameRegion}

-- LISTS

pub set_at : {A : Type 0} (items : List A) (x : ℕ) (a : A) → slice_get (slice_set items x a) x ≡ option_map (λ b. a) (slice_get items x)
set_at [] x a = refl
set_at (b ∷ items) zero a = refl
set_at (b ∷ items) (suc x) a = set_at items x a

pub map_put : {A B : Type 0} (f : A → B) (items : List A) (i : ℕ) (a : A) → map f (slice_set items i a) ≡ slice_set (map f items) i (f a)
map_put f [] i a = refl
map_put f (b ∷ items) zero a = refl
map_put f (b ∷ items) (suc i) a = ap (λ l. f b ∷ l) (map_put f items i a)

-- the leaf at a place once one is put at a place
pub put_at : {A : Type 0} (items : List A) (x y : ℕ) (a : A) → y ≡ x → slice_get (slice_set items x a) y ≡ option_map (λ b. a) (slice_get items y)
put_at items x y a e = ap (λ z. slice_get (slice_set items z a) y) (sym e) ∙ set_at items y a

-- SESSIONS OF A REGION

pub within_there : (root : ℕ → ℕ) (y : ℕ) (sessions : List (Option Session)) (k : ℕ) (s : Session) → within root y sessions k ≡ Some s
    → (root k ≡ y) × (joined (slice_get sessions k) ≡ Some s)
within_there root y sessions k s e = by (root k == y) refl e
  where
    by : (b : Bool) → (root k == y) ≡ b → cond b (joined (slice_get sessions k)) None ≡ Some s → (root k ≡ y) × (joined (slice_get sessions k) ≡ Some s)
    by true is e = elim (eqb_tells (root k) y) [ inl t ↦ (t.1, e) | inr t ↦ absurd (cc (is, t.0)) ]
    by false is e = absurd (none_some e)

pub within_here : (root : ℕ → ℕ) (y : ℕ) (sessions : List (Option Session)) (k : ℕ) → root k ≡ y → within root y sessions k ≡ joined (slice_get sessions k)
within_here root y sessions k e = ap (λ b. cond b (joined (slice_get sessions k)) None) (ap (λ n. n == y) e ∙ equal_self y)

within_else : (root : ℕ → ℕ) (y : ℕ) (sessions others : List (Option Session)) (k : ℕ) → joined (slice_get sessions k) ≡ joined (slice_get others k)
    → within root y sessions k ≡ within root y others k
within_else root y sessions others k e = ap (λ o. cond (root k == y) o None) e

module _ (f own root other : ℕ → ℕ) (y : ℕ) where
  abbrev Same : World → World → Type 0
  Same w v = IsSameRegion f own root other y w v

  -- LEAVES

  pub region_leaf : (w v : World) (x : ℕ) (leaf new : Leaf) → (own x ≡ y → new.slots ≡ map (renamed_slot f) leaf.slots) → Same w v
      → Same (with_leaf w x leaf) (with_leaf v x new)
  region_leaf w v x leaf new same h = record {
    slots = λ z is. elim (eqb_tells z x) [
      | inl e ↦
          ap (option_map slots_of) (put_at v.leaves x z new e.1)
          ∙ (by (slice_get v.leaves z) (slice_get w.leaves z) (h.slots z is) (same (ap own (sym e.1) ∙ is))
          ∙ ap (option_map (λ l. map (renamed_slot f) (slots_of l))) (sym (put_at w.leaves x z leaf e.1)))
      | inr e ↦
          ap (option_map slots_of) (set_else v.leaves x z new e.1)
          ∙ (h.slots z is ∙ ap (option_map (λ l. map (renamed_slot f) (slots_of l))) (sym (set_else w.leaves x z leaf e.1)))
    ];
    sessions = h.sessions;
    requests = h.requests;
  }
    where
      by : (a b : Option Leaf) → option_map slots_of a ≡ option_map (λ l. map (renamed_slot f) (slots_of l)) b → new.slots ≡ map (renamed_slot f) leaf.slots
          → option_map slots_of (option_map (λ l. new) a) ≡ option_map (λ l. map (renamed_slot f) (slots_of l)) (option_map (λ l. leaf) b)
      by None None e g = refl
      by None (Some b) e g = absurd (none_some e)
      by (Some a) None e g = absurd (none_some (sym e))
      by (Some a) (Some b) e g = ap Some g

  released_slots : (name : List ℕ) (cs : List Component) (leaves : List Leaf) (z : ℕ)
      → option_map slots_of (slice_get (all_released name cs leaves) z) ≡ option_map slots_of (slice_get leaves z)
  released_slots name [] leaves z = refl
  released_slots name (c ∷ cs) [] z = refl
  released_slots name (c ∷ cs) (leaf ∷ leaves) zero = refl
  released_slots name (c ∷ cs) (leaf ∷ leaves) (suc z) = released_slots name cs leaves z

  mapped_slots : (o : Option Leaf) → option_map (λ l. map (renamed_slot f) (slots_of l)) o ≡ option_map (map (renamed_slot f)) (option_map slots_of o)
  mapped_slots None = refl
  mapped_slots (Some l) = refl

  pub region_released : (w v : World) (name : List ℕ) (cs : List Component) → Same w v
      → Same (record w { leaves = all_released name cs w.leaves }) (record v { leaves = all_released name cs v.leaves })
  region_released w v name cs h = record {
    slots = λ z is. released_slots name cs v.leaves z ∙ (h.slots z is ∙ (mapped_slots (slice_get w.leaves z)
        ∙ (ap (option_map (map (renamed_slot f))) (sym (released_slots name cs w.leaves z))
        ∙ sym (mapped_slots (slice_get (all_released name cs w.leaves) z)))));
    sessions = h.sessions;
    requests = h.requests;
  }

  -- SESSIONS

  renamed_within : (k m : ℕ) (o : Option Session) → other m ≡ root k
      → cond (other m == y) (option_map (renamed_session f) o) None ≡ option_map (renamed_session f) (cond (root k == y) o None)
  renamed_within k m o e = ap (λ n. cond (n == y) (option_map (renamed_session f) o) None) e ∙ by (root k == y)
    where
      by : (b : Bool) → cond b (option_map (renamed_session f) o) None ≡ option_map (renamed_session f) (cond b o None)
      by true = refl
      by false = refl

  -- with another session at a place, or none
  pub region_session : (w v : World) (k : ℕ) (s : Session) (o : Option Session) → other (f k) ≡ root k → session_at w k ≡ Some s
      → session_at v (f k) ≡ Some (renamed_session f s) → Same w v
      → Same (record w { sessions = slice_set w.sessions k o }) (record v { sessions = slice_set v.sessions (f k) (option_map (renamed_session f) o) })
  region_session w v k s o sides there there_v h = record {
    slots = h.slots;
    sessions =
        changed f (within root y w.sessions) (within other y v.sessions) _ _ h.sessions k (cond (root k == y) o None) away
        (ap (λ p. cond (root k == y) p None) (place_here w.sessions k o s there))
        (λ j ne. within_else root y _ w.sessions j (ap joined (set_else w.sessions k j o ne)))
        (ap (λ p. cond (other (f k) == y) p None) (place_here v.sessions (f k) (option_map (renamed_session f) o) (renamed_session f s) there_v)
        ∙ renamed_within k (f k) o sides)
        (λ m ne. within_else other y _ v.sessions m (ap joined (set_else v.sessions (f k) m (option_map (renamed_session f) o) ne)));
    requests = h.requests;
  }
    where
      away : (j : ℕ) (u : Session) → within root y w.sessions j ≡ Some u → j ≢ k → f j ≢ f k
      away j u e ne q =
          let there_j = within_there other y v.sessions (f j) (renamed_session f u) (h.sessions.there j u e) in
          let is : root k ≡ y = sym sides ∙ (ap other (sym q) ∙ there_j.0) in
          ne (h.sessions.single j k u s e (within_here root y w.sessions k is ∙ there) q)

  -- with one session more
  pub region_added : (w v : World) (s : Session) → f (free_place w.sessions) ≡ free_place v.sessions
      → other (free_place v.sessions) ≡ root (free_place w.sessions)
      → Same w v → Same (record w { sessions = add_session s w.sessions }) (record v { sessions = add_session (renamed_session f s) v.sessions })
  region_added w v s named sides h = record {
    slots = h.slots;
    sessions =
        changed f (within root y w.sessions) (within other y v.sessions) _ _ h.sessions k (cond (root k == y) (Some s) None) away
        (ap (λ p. cond (root k == y) p None) (added_here w.sessions s))
        (λ j ne. within_else root y _ w.sessions j (added_else w.sessions s j ne))
        (ap (λ m. within other y (add_session (renamed_session f s) v.sessions) m) named
        ∙ (ap (λ p. cond (other (free_place v.sessions) == y) p None) (added_here v.sessions (renamed_session f s))
        ∙ renamed_within k (free_place v.sessions) (Some s) sides))
        (λ m ne. within_else other y _ v.sessions m (added_else v.sessions (renamed_session f s) m (λ e. ne (e ∙ sym named))));
    requests = h.requests;
  }
    where
      k : ℕ
      k = free_place w.sessions

      away : (j : ℕ) (u : Session) → within root y w.sessions j ≡ Some u → j ≢ k → f j ≢ f k
      away j u e ne q =
          let there_j = within_there other y v.sessions (f j) (renamed_session f u) (h.sessions.there j u e) in
          none_some (sym (free_none v.sessions) ∙ (ap (λ m. joined (slice_get v.sessions m)) (sym named ∙ sym q) ∙ there_j.1))

  -- REQUESTS

  among_end : (root : ℕ → ℕ) (rs : List Request) (r : Request)
      → among root y (rs ++ r ∷ []) ≡ among root y rs ++ cond (root r.session == y) (r ∷ []) []
  among_end root [] r = refl
  among_end root (q ∷ rs) r = by (root q.session == y) (among_end root rs r)
    where
      by : (b : Bool) → among root y (rs ++ r ∷ []) ≡ among root y rs ++ cond (root r.session == y) (r ∷ []) []
          → cond b (q ∷ among root y (rs ++ r ∷ [])) (among root y (rs ++ r ∷ []))
          ≡ cond b (q ∷ among root y rs) (among root y rs) ++ cond (root r.session == y) (r ∷ []) []
      by true e = ap (λ l. q ∷ l) e
      by false e = e

  pub region_request : (w v : World) (r : Request) → other (f r.session) ≡ root r.session → Same w v
      → Same (record w { requests = w.requests ++ r ∷ [] }) (record v { requests = v.requests ++ renamed_request f r ∷ [] })
  region_request w v r sides h = record {
    slots = h.slots;
    sessions = h.sessions;
    requests =
        among_end other v.requests (renamed_request f r) ∙ (ap (λ l. l ++ cond (other (f r.session) == y) (renamed_request f r ∷ []) []) h.requests
        ∙ (ap (λ n. map (renamed_request f) (among root y w.requests) ++ cond (n == y) (renamed_request f r ∷ []) []) sides
        ∙ (by (root r.session == y) ∙ ap (map (renamed_request f)) (sym (among_end root w.requests r)))));
  }
    where
      by : (b : Bool) → map (renamed_request f) (among root y w.requests) ++ cond b (renamed_request f r ∷ []) []
          ≡ map (renamed_request f) (among root y w.requests ++ cond b (r ∷ []) [])
      by true = sym (map-append (renamed_request f) (among root y w.requests) (r ∷ []))
      by false = sym (map-append (renamed_request f) (among root y w.requests) [])

  pub region_requests : (w v : World) (rs qs : List Request) → among other y qs ≡ map (renamed_request f) (among root y rs) → Same w v
      → Same (record w { requests = rs }) (record v { requests = qs })
  region_requests w v rs qs e h = record { slots = h.slots; sessions = h.sessions; requests = e }

  -- SLOTS

  -- a session of the region is there in both worlds
  pub region_there : (w v : World) (k : ℕ) (s : Session) → root k ≡ y → session_at w k ≡ Some s → Same w v
      → (session_at v (f k) ≡ Some (renamed_session f s)) × (other (f k) ≡ root k)
  region_there w v k s is there h =
      let e = within_there other y v.sessions (f k) (renamed_session f s) (h.sessions.there k s (within_here root y w.sessions k is ∙ there)) in
      (e.1, e.0 ∙ sym is)

  pub region_own_slot : (w v : World) (z i : ℕ) → own z ≡ y → Same w v → slot_at v (In_leaf z i) ≡ option_map (renamed_slot f) (slot_at w (In_leaf z i))
  region_own_slot w v z i is h = by (slice_get v.leaves z) (slice_get w.leaves z) (h.slots z is)
    where
      by : (a b : Option Leaf) → option_map slots_of a ≡ option_map (λ l. map (renamed_slot f) (slots_of l)) b
          → leaf_slot a i ≡ option_map (renamed_slot f) (leaf_slot b i)
      by None None e = refl
      by None (Some b) e = absurd (none_some e)
      by (Some a) None e = absurd (none_some (sym e))
      by (Some a) (Some b) e = ap (λ l. slice_get l i) (some_same e) ∙ slice_get-map (renamed_slot f) b.slots i

  pub region_slot : (w v : World) (k i : ℕ) (s : Session) → root k ≡ y → session_at w k ≡ Some s → Same w v
      → slot_at v (In_session (f k) i) ≡ option_map (renamed_slot f) (slot_at w (In_session k i))
  region_slot w v k i s is there h =
      ap (λ o. session_slot o i) ((region_there w v k s is there h).0) ∙ (slice_get-map (renamed_slot f) s.slots i
      ∙ ap (λ o. option_map (renamed_slot f) (session_slot o i)) (sym there))

  pub region_object : (w v : World) (k : ℕ) (s : Session) → root k ≡ y → session_at w k ≡ Some s → Same w v
      → slot_at v (In_object (f k)) ≡ option_map (renamed_slot f) (slot_at w (In_object k))
  region_object w v k s is there h =
      ap session_object ((region_there w v k s is there h).0) ∙ ap (λ o. option_map (renamed_slot f) (session_object o)) (sym there)

  -- an own slot of a leaf has other contents
  pub region_put_own : (w v : World) (x i : ℕ) (slot : Slot) → (slice_get v.leaves x ≡ None → slice_get w.leaves x ≡ None)
      → (slice_get w.leaves x ≡ None → slice_get v.leaves x ≡ None) → Same w v
      → Same (with_slot w (In_leaf x i) slot) (with_slot v (In_leaf x i) (renamed_slot f slot))
  region_put_own w v x i slot none_w none_v h = by (slice_get w.leaves x) (slice_get v.leaves x) refl refl
    where
      by : (a b : Option Leaf) → slice_get w.leaves x ≡ a → slice_get v.leaves x ≡ b
          → Same (put_leaf_slot w a x i slot) (put_leaf_slot v b x i (renamed_slot f slot))
      by None None e g = h
      by None (Some b) e g = absurd (none_some (sym (none_v e) ∙ g))
      by (Some a) None e g = absurd (none_some (sym (none_w g) ∙ e))
      by (Some a) (Some b) e g =
          region_leaf w v x _ _ (λ same. ap (λ l. slice_set l i (renamed_slot f slot)) (some_same (
          ap (option_map slots_of) (sym g) ∙ (h.slots x same ∙ ap (option_map (λ l. map (renamed_slot f) (slots_of l))) e)))
          ∙ sym (map_put (renamed_slot f) a.slots i slot)) h

  pub region_put : (w v : World) (k i : ℕ) (slot : Slot) (s : Session) → other (f k) ≡ root k → session_at w k ≡ Some s
      → session_at v (f k) ≡ Some (renamed_session f s) → Same w v
      → Same (with_slot w (In_session k i) slot) (with_slot v (In_session (f k) i) (renamed_slot f slot))
  region_put w v k i slot s sides there there_v h =
      subst (λ o. Same (put_session_slot w o k i slot) (put_session_slot v (session_at v (f k)) (f k) i (renamed_slot f slot))) (sym there)
      (subst (λ o. Same (with_session w k (record s { slots = slice_set s.slots i slot })) (put_session_slot v o (f k) i (renamed_slot f slot))) (sym there_v)
      (subst (λ slots. Same (with_session w k (record s { slots = slice_set s.slots i slot }))
      (with_session v (f k) (record (renamed_session f s) { slots = slots })))
      (map_put (renamed_slot f) s.slots i slot)
      (region_session w v k s (Some (record s { slots = slice_set s.slots i slot })) sides there there_v h)))

  pub region_put_object : (w v : World) (k : ℕ) (slot : Slot) (s : Session) → other (f k) ≡ root k → session_at w k ≡ Some s
      → session_at v (f k) ≡ Some (renamed_session f s) → Same w v
      → Same (with_slot w (In_object k) slot) (with_slot v (In_object (f k)) (renamed_slot f slot))
  region_put_object w v k slot s sides there there_v h =
      subst (λ o. Same (put_object w o k slot) (put_object v (session_at v (f k)) (f k) (renamed_slot f slot))) (sym there)
      (subst (λ o. Same (with_session w k (record s { object = slot })) (put_object v o (f k) (renamed_slot f slot))) (sym there_v)
      (region_session w v k s (Some (record s { object = slot })) sides there there_v h))
