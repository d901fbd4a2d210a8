-- Worlds that are the same but for the numbers of sessions, where the same changes in both.
use Rattle.std.proofs.Common.{◌≡◌, ◌≢◌, ℕ, zero, suc, ◌||◌, inl, inr, Bool, true, false, cond, List, [], ◌∷◌, ◌++◌, map, Option, Some, None, refl, ap, sym, ◌∙◌}
use Rattle.std.proofs.Common.{subst}
use Rattle.std.specs.Prelude.{is_some, option_map, slice_get, slice_set}
use Rattle.std.proofs.lemmas.Bool.Decides.{eqb_tells}
use Rattle.std.proofs.lemmas.Option.{slice_get-map}
use Rattle.std.proofs.lemmas.List.{map-append}
use Rattle.gq_model.specs.machine.Scenario.{Component}
use Rattle.gq_model.specs.machine.World.{Slot, SlotId, In_leaf, In_session, In_object, Session, Request, Current, Leaf, World, joined, session_at, with_leaf}
use Rattle.gq_model.specs.machine.World.{with_session}
use Rattle.gq_model.specs.machine.World.{leaf_slot, session_slot, session_object, slot_at, put_leaf_slot, put_session_slot, put_object, with_slot}
use Rattle.gq_model.specs.machine.Requests.{add_session, free_place}
use Rattle.gq_model.specs.machine.Step.{resumed, active_again, unblocked, released, all_released}
use Rattle.gq_model.proofs.Small_facts.{none_some}
use Rattle.gq_laws.specs.Shapes.{Each}
use Rattle.gq_laws.proofs.session_links.Written_world_links.{set_else}
use Rattle.gq_laws.specs.Separation.{own_session, own_requests}
use Rattle.gq_laws.proofs.Outside_step_untouched.{free_none}
use Rattle.gq_laws.specs.Renamed.{renamed_slot, renamed_slot_id, renamed_current, renamed_leaf, renamed_session, renamed_request}
use Rattle.gq_laws.specs.internal.Corresponding.{own_at, Correspond, IsSame}
use Rattle.gq_laws.proofs.Session_renaming.{changed, own_there}

-- LISTS

set_at : {A : Type 0} (items : List A) (x : ℕ) (a : A) → slice_get (slice_set items x a) x ≡ option_map (λ b. a) (slice_get items x)
set_at [] x a = refl
set_at (b ∷ items) zero a = refl
set_at (b ∷ items) (suc x) a = set_at items x a

map_put : {A B : Type 0} (f : A → B) (items : List A) (i : ℕ) (a : A) → map f (slice_set items i a) ≡ slice_set (map f items) i (f a)
map_put f [] i a = refl
map_put f (b ∷ items) zero a = refl
map_put f (b ∷ items) (suc i) a = ap (λ l. f b ∷ l) (map_put f items i a)

pub place_here : (items : List (Option Session)) (k : ℕ) (o : Option Session) (s : Session) → joined (slice_get items k) ≡ Some s
    → joined (slice_get (slice_set items k o) k) ≡ o
place_here [] k o s e = absurd (none_some e)
place_here (a ∷ items) zero o s e = refl
place_here (a ∷ items) (suc k) o s e = place_here items k o s e

pub added_here : (items : List (Option Session)) (s : Session) → joined (slice_get (add_session s items) (free_place items)) ≡ Some s
added_here [] s = refl
added_here (None ∷ items) s = refl
added_here (Some t ∷ items) s = added_here items s

pub added_else : (items : List (Option Session)) (s : Session) (j : ℕ) → j ≢ free_place items
    → joined (slice_get (add_session s items) j) ≡ joined (slice_get items j)
added_else [] s zero ne = absurd (ne refl)
added_else [] s (suc j) ne = refl
added_else (None ∷ items) s zero ne = absurd (ne refl)
added_else (None ∷ items) s (suc j) ne = refl
added_else (Some t ∷ items) s zero ne = refl
added_else (Some t ∷ items) s (suc j) ne = added_else items s j (λ e. ne (ap suc e))

-- a leaf with the phase that it has once the leaf of that name has exited
abbrev released_in : List ℕ → Option Component → Option Leaf → Option Leaf
released_in name None o = o
released_in name (Some c) None = None
released_in name (Some c) (Some leaf) = Some (record leaf { phase = released name c.node.after leaf.phase })

released_at : (name : List ℕ) (cs : List Component) (leaves : List Leaf) (y : ℕ)
    → slice_get (all_released name cs leaves) y ≡ released_in name (slice_get cs y) (slice_get leaves y)
released_at name [] leaves y = refl
released_at name (c ∷ cs) [] zero = refl
released_at name (c ∷ cs) [] (suc y) = by (slice_get cs y)
  where
    by : (o : Option Component) → None ≡ released_in name o None
    by None = refl
    by (Some c) = refl
released_at name (c ∷ cs) (leaf ∷ leaves) zero = refl
released_at name (c ∷ cs) (leaf ∷ leaves) (suc y) = released_at name cs leaves y

pub each_else : (P Q : Request → Type 0) (rs : List Request) → ((r : Request) → P r → Q r) → Each P rs → Each Q rs
each_else P Q [] f h = tt
each_else P Q (r ∷ rs) f h = (f r h.0, each_else P Q rs f h.1)

module _ (group : ℕ → Bool) where
  -- WHAT IS THE GROUP'S

  pub own_like : (s u : Session) → u.client ≡ s.client → u.server ≡ s.server → own_session group (Some s) ≡ Some s → own_session group (Some u) ≡ Some u
  own_like s u client server e =
      ap (λ b. cond (b || group u.server) (Some u) None) (ap group client)
      ∙ (ap (λ b. cond (group s.client || b) (Some u) None) (ap group server) ∙ by (group s.client || group s.server) e)
    where
      by : (b : Bool) → cond b (Some s) None ≡ Some s → cond b (Some u) None ≡ Some u
      by true e = refl
      by false e = absurd (none_some e)

  pub own_inside : (s : Session) → group s.client ≡ true → own_session group (Some s) ≡ Some s
  own_inside s e = ap (λ b. cond (b || group s.server) (Some s) None) e

  own_renamed : (f : ℕ → ℕ) (o : Option Session) → own_session group (option_map (renamed_session f) o) ≡ option_map (renamed_session f) (own_session group o)
  own_renamed f None = refl
  own_renamed f (Some s) = by (group s.client || group s.server)
    where
      by : (b : Bool) → cond b (Some (renamed_session f s)) None ≡ option_map (renamed_session f) (cond b (Some s) None)
      by true = refl
      by false = refl

  -- these requests are the group's by the sessions of either world
  requests_by : (w v : World) (rs : List Request)
      → Each (λ r. own_session group (session_at v r.session) ≡ own_session group (session_at w r.session)) rs
      → own_requests group v rs ≡ own_requests group w rs
  requests_by w v [] h = refl
  requests_by w v (r ∷ rs) h = λ t. cond (is_some (h.0 t)) (r ∷ requests_by w v rs h.1 t) (requests_by w v rs h.1 t)

  requests_like : (w v : World) → ((k : ℕ) → is_some (own_session group (session_at v k)) ≡ is_some (own_session group (session_at w k)))
      → (rs : List Request) → own_requests group v rs ≡ own_requests group w rs
  requests_like w v h [] = refl
  requests_like w v h (r ∷ rs) = λ t. cond (h r.session t) (r ∷ requests_like w v h rs t) (requests_like w v h rs t)

  own_more : (w : World) (rs : List Request) (r : Request) (s : Session) → own_session group (session_at w r.session) ≡ Some s
      → own_requests group w (rs ++ r ∷ []) ≡ own_requests group w rs ++ r ∷ []
  own_more w [] r s e = ap (λ o. cond (is_some o) (r ∷ []) []) e
  own_more w (q ∷ rs) r s e =
      ap (λ l. cond (is_some (own_session group (session_at w q.session))) (q ∷ l) l) (own_more w rs r s e)
      ∙ by (is_some (own_session group (session_at w q.session)))
    where
      by : (b : Bool) → cond b (q ∷ own_requests group w rs ++ r ∷ []) (own_requests group w rs ++ r ∷ [])
          ≡ cond b (q ∷ own_requests group w rs) (own_requests group w rs) ++ r ∷ []
      by true = refl
      by false = refl

  pub is_own : (w : World) (k : ℕ) (s : Session) → own_at group w.sessions k ≡ Some s → own_session group (Some s) ≡ Some s
  is_own w k s e = ap (own_session group) (sym (own_there group (session_at w k) s e)) ∙ e

  -- a slot of a leaf inside, or of a session of the group
  abbrev pub IsNear : List (Option Session) → SlotId → Type 0
  IsNear sessions (In_leaf x i) = group x ≡ true
  IsNear sessions (In_session k i) = (s : Session) × (own_at group sessions k ≡ Some s)
  IsNear sessions (In_object k) = (s : Session) × (own_at group sessions k ≡ Some s)

  module _ (f : ℕ → ℕ) where
    abbrev Alike : World → World → Type 0
    Alike w v = IsSame group f w v

    -- LEAVES

    pub same_leaf : (w v : World) (x : ℕ) (leaf : Leaf) → Alike w v → Alike (with_leaf w x leaf) (with_leaf v x (renamed_leaf f leaf))
    same_leaf w v x leaf h = record { leaves = leaves; sessions = h.sessions; requests = h.requests }
      where
        put : (o : Option Leaf) → option_map (λ b. renamed_leaf f leaf) (option_map (renamed_leaf f) o) ≡ option_map (renamed_leaf f) (option_map (λ b. leaf) o)
        put None = refl
        put (Some old) = refl

        leaves : (y : ℕ) → group y ≡ true
            → slice_get (slice_set v.leaves x (renamed_leaf f leaf)) y ≡ option_map (renamed_leaf f) (slice_get (slice_set w.leaves x leaf) y)
        leaves y inside = elim (eqb_tells y x) [
          | inl e ↦
              ap (λ z. slice_get (slice_set v.leaves z (renamed_leaf f leaf)) y) (sym e.1)
              ∙ (set_at v.leaves y (renamed_leaf f leaf) ∙ (ap (option_map (λ b. renamed_leaf f leaf)) (h.leaves y inside)
              ∙ (put (slice_get w.leaves y) ∙ (ap (option_map (renamed_leaf f)) (sym (set_at w.leaves y leaf))
              ∙ ap (λ z. option_map (renamed_leaf f) (slice_get (slice_set w.leaves z leaf) y)) e.1))))
          | inr e ↦
              set_else v.leaves x y (renamed_leaf f leaf) e.1 ∙ (h.leaves y inside ∙ ap (option_map (renamed_leaf f)) (sym (set_else w.leaves x y leaf e.1)))
        ]

    pub same_active : (w v : World) (x : ℕ) (g : List ℕ → List ℕ) → group x ≡ true → Alike w v → Alike (unblocked w x g) (unblocked v x g)
    same_active w v x g inside h =
        subst (λ o. Alike (unblocked w x g) (active_again v x g o)) (sym (h.leaves x inside)) (by (slice_get w.leaves x))
      where
        resumes : (current : Option Current) (reacting : Option ℕ) → resumed (option_map (renamed_current f) current) reacting ≡ resumed current reacting
        resumes None None = refl
        resumes None (Some i) = refl
        resumes (Some current) reacting = refl

        by : (o : Option Leaf) → Alike (active_again w x g o) (active_again v x g (option_map (renamed_leaf f) o))
        by None = h
        by (Some leaf) =
            subst (λ phase. Alike (active_again w x g (Some leaf)) (with_leaf v x (record (renamed_leaf f leaf) { phase = phase; operands = g leaf.operands })))
            (sym (resumes leaf.current leaf.reacting)) (same_leaf w v x
            (record leaf { phase = resumed leaf.current leaf.reacting; operands = g leaf.operands }) h)

    pub same_released : (w v : World) (name : List ℕ) (cs : List Component) → Alike w v
        → Alike (record w { leaves = all_released name cs w.leaves }) (record v { leaves = all_released name cs v.leaves })
    same_released w v name cs h = record { leaves = leaves; sessions = h.sessions; requests = h.requests }
      where
        by : (c : Option Component) (o : Option Leaf)
            → released_in name c (option_map (renamed_leaf f) o) ≡ option_map (renamed_leaf f) (released_in name c o)
        by None o = refl
        by (Some c) None = refl
        by (Some c) (Some leaf) = refl

        leaves : (y : ℕ) → group y ≡ true
            → slice_get (all_released name cs v.leaves) y ≡ option_map (renamed_leaf f) (slice_get (all_released name cs w.leaves) y)
        leaves y inside =
            released_at name cs v.leaves y ∙ (ap (released_in name (slice_get cs y)) (h.leaves y inside)
            ∙ (by (slice_get cs y) (slice_get w.leaves y) ∙ ap (option_map (renamed_leaf f)) (sym (released_at name cs w.leaves y))))

    -- SESSIONS

    module _ (w v : World) (h : Alike w v) (k : ℕ) (s : Session) (was : own_at group w.sessions k ≡ Some s) where
      there_w : session_at w k ≡ Some s
      there_w = own_there group (session_at w k) s was

      there_v : session_at v (f k) ≡ Some (renamed_session f s)
      there_v = own_there group (session_at v (f k)) (renamed_session f s) (h.sessions.there k s was)

      placed : (o : Option Session)
          → Correspond f (own_at group (slice_set w.sessions k o)) (own_at group (slice_set v.sessions (f k) (option_map (renamed_session f) o)))
      placed o =
          changed f (own_at group w.sessions) (own_at group v.sessions) _ _ h.sessions k (own_session group o)
          (λ j u e ne q. ne (h.sessions.single j k u s e was q))
          (ap (own_session group) (place_here w.sessions k o s there_w))
          (λ j ne. ap (λ o. own_session group (joined o)) (set_else w.sessions k j o ne))
          (ap (own_session group) (place_here v.sessions (f k) (option_map (renamed_session f) o) (renamed_session f s) there_v) ∙ own_renamed f o)
          (λ m ne. ap (λ o. own_session group (joined o)) (set_else v.sessions (f k) m (option_map (renamed_session f) o) ne))

      -- with another session of the group in its place
      pub same_session : (u : Session) → own_session group (Some u) ≡ Some u → Alike (with_session w k u) (with_session v (f k) (renamed_session f u))
      same_session u is =
          record {
            leaves = h.leaves;
            sessions = placed (Some u);
            requests = like v (f k) (renamed_session f s) (renamed_session f u) there_v (h.sessions.there k s was)
                (own_renamed f (Some u) ∙ ap (option_map (renamed_session f)) is) v.requests
                ∙ (h.requests ∙ ap (map (renamed_request f)) (sym (like w k s u there_w was is w.requests)));
          }
        where
          like : (z : World) (n : ℕ) (a b : Session) → session_at z n ≡ Some a → own_at group z.sessions n ≡ Some a → own_session group (Some b) ≡ Some b
              → (rs : List Request) → own_requests group (with_session z n b) rs ≡ own_requests group z rs
          like z n a b there own new rs = requests_like z (with_session z n b) (λ j. (elim (eqb_tells j n) [
            | inl e ↦
                ap (λ j. is_some (own_session group (joined (slice_get (slice_set z.sessions n (Some b)) j)))) e.1
                ∙ (ap (λ o. is_some (own_session group o)) (place_here z.sessions n (Some b) a there)
                ∙ (ap is_some new ∙ (sym (ap is_some own) ∙ ap (λ j. is_some (own_at group z.sessions j)) (sym e.1))))
            | inr e ↦ ap (λ o. is_some (own_session group (joined o))) (set_else z.sessions n j (Some b) e.1)
          ])) rs

      -- without it, where no request is for it
      pub same_closed : Each (λ r. r.session ≢ k) w.requests → Each (λ r. r.session ≢ f k) v.requests
          → Alike (record w { sessions = slice_set w.sessions k None }) (record v { sessions = slice_set v.sessions (f k) None })
      same_closed none none_v =
          record {
            leaves = h.leaves;
            sessions = placed None;
            requests = without v (f k) none_v ∙ (h.requests ∙ ap (map (renamed_request f)) (sym (without w k none)));
          }
        where
          without : (z : World) (n : ℕ) → Each (λ r. r.session ≢ n) z.requests
              → own_requests group (record z { sessions = slice_set z.sessions n None }) z.requests ≡ own_requests group z z.requests
          without z n none = requests_by z (record z { sessions = slice_set z.sessions n None }) z.requests
              (each_else _ _ z.requests (λ r ne. ap (λ o. own_session group (joined o)) (set_else z.sessions n r.session None ne)) none)

    -- with one session more, where no request is for one of its number
    pub same_added : (w v : World) (u : Session) → Alike w v → f (free_place w.sessions) ≡ free_place v.sessions → own_session group (Some u) ≡ Some u
        → Each (λ r. r.session ≢ free_place w.sessions) w.requests → Each (λ r. r.session ≢ free_place v.sessions) v.requests
        → Alike (record w { sessions = add_session u w.sessions }) (record v { sessions = add_session (renamed_session f u) v.sessions })
    same_added w v u h named is none none_v =
        record {
          leaves = h.leaves;
          sessions =
              changed f (own_at group w.sessions) (own_at group v.sessions) _ _ h.sessions (free_place w.sessions) (own_session group (Some u))
              (λ j s e ne q. none_some (sym (ap (own_session group) (free_none v.sessions))
              ∙ (ap (own_at group v.sessions) (sym named ∙ sym q) ∙ h.sessions.there j s e)))
              (ap (own_session group) (added_here w.sessions u))
              (λ j ne. ap (own_session group) (added_else w.sessions u j ne))
              (ap (λ m. own_session group (joined (slice_get (add_session (renamed_session f u) v.sessions) m))) named
              ∙ (ap (own_session group) (added_here v.sessions (renamed_session f u)) ∙ own_renamed f (Some u)))
              (λ m ne. ap (own_session group) (added_else v.sessions (renamed_session f u) m (λ e. ne (e ∙ sym named))));
          requests = more v (renamed_session f u) none_v ∙ (h.requests ∙ ap (map (renamed_request f)) (sym (more w u none)));
        }
      where
        more : (z : World) (b : Session) → Each (λ r. r.session ≢ free_place z.sessions) z.requests
            → own_requests group (record z { sessions = add_session b z.sessions }) z.requests ≡ own_requests group z z.requests
        more z b none = requests_by z (record z { sessions = add_session b z.sessions }) z.requests
            (each_else _ _ z.requests (λ r ne. ap (own_session group) (added_else z.sessions b r.session ne)) none)

    -- REQUESTS

    pub same_request : (w v : World) (r : Request) (s : Session) → own_at group w.sessions r.session ≡ Some s → Alike w v
        → Alike (record w { requests = w.requests ++ r ∷ [] }) (record v { requests = v.requests ++ renamed_request f r ∷ [] })
    same_request w v r s own h =
        record {
          leaves = h.leaves;
          sessions = h.sessions;
          requests = own_more v v.requests (renamed_request f r) (renamed_session f s) (h.sessions.there r.session s own)
              ∙ (ap (λ l. l ++ renamed_request f r ∷ []) h.requests ∙ (sym (map-append (renamed_request f) (own_requests group w w.requests) (r ∷ []))
              ∙ ap (map (renamed_request f)) (sym (own_more w w.requests r s own))));
        }

    pub same_requests : (w v : World) (rs qs : List Request) → own_requests group v qs ≡ map (renamed_request f) (own_requests group w rs) → Alike w v
        → Alike (record w { requests = rs }) (record v { requests = qs })
    same_requests w v rs qs e h = record { leaves = h.leaves; sessions = h.sessions; requests = e }

    -- SLOTS

    pub same_slot_at : (w v : World) (q : SlotId) → IsNear w.sessions q → Alike w v → slot_at v (renamed_slot_id f q) ≡ option_map (renamed_slot f)
        (slot_at w q)
    same_slot_at w v (In_leaf x i) near h = ap (λ o. leaf_slot o i) (h.leaves x near) ∙ by (slice_get w.leaves x)
      where
        by : (o : Option Leaf) → leaf_slot (option_map (renamed_leaf f) o) i ≡ option_map (renamed_slot f) (leaf_slot o i)
        by None = refl
        by (Some leaf) = slice_get-map (renamed_slot f) leaf.slots i
    same_slot_at w v (In_session k i) near h =
        ap (λ o. session_slot o i) (there_v w v h k near.0 near.1) ∙ (slice_get-map (renamed_slot f) near.0.slots i
        ∙ ap (λ o. option_map (renamed_slot f) (session_slot o i)) (sym (there_w w v h k near.0 near.1)))
    same_slot_at w v (In_object k) near h =
        ap session_object (there_v w v h k near.0 near.1) ∙ ap (λ o. option_map (renamed_slot f) (session_object o)) (sym (there_w w v h k near.0 near.1))

    pub same_slot : (w v : World) (q : SlotId) (slot : Slot) → IsNear w.sessions q → Alike w v
        → Alike (with_slot w q slot) (with_slot v (renamed_slot_id f q) (renamed_slot f slot))
    same_slot w v (In_leaf x i) slot near h =
        subst (λ o. Alike (with_slot w (In_leaf x i) slot) (put_leaf_slot v o x i (renamed_slot f slot))) (sym (h.leaves x near)) (by (slice_get w.leaves x))
      where
        by : (o : Option Leaf) → Alike (put_leaf_slot w o x i slot) (put_leaf_slot v (option_map (renamed_leaf f) o) x i (renamed_slot f slot))
        by None = h
        by (Some leaf) =
            let new = record leaf { slots = slice_set leaf.slots i slot } in
            subst (λ slots. Alike (with_leaf w x new) (with_leaf v x (record (renamed_leaf f leaf) { slots = slots })))
            (map_put (renamed_slot f) leaf.slots i slot) (same_leaf w v x new h)
    same_slot w v (In_session k i) slot near h =
        subst (λ o. Alike (put_session_slot w o k i slot) (put_session_slot v (session_at v (f k)) (f k) i (renamed_slot f slot)))
        (sym (there_w w v h k near.0 near.1))
        (subst (λ o. Alike (with_session w k (record near.0 { slots = slice_set near.0.slots i slot })) (put_session_slot v o (f k) i (renamed_slot f slot)))
        (sym (there_v w v h k near.0 near.1))
        (subst (λ slots. Alike (with_session w k (record near.0 { slots = slice_set near.0.slots i slot }))
        (with_session v (f k) (record (renamed_session f near.0) { slots = slots })))
        (map_put (renamed_slot f) near.0.slots i slot)
        (same_session w v h k near.0 near.1 (record near.0 { slots = slice_set near.0.slots i slot })
        (own_like near.0 (record near.0 { slots = slice_set near.0.slots i slot }) refl refl (is_own w k near.0 near.1)))))
    same_slot w v (In_object k) slot near h =
        subst (λ o. Alike (put_object w o k slot) (put_object v (session_at v (f k)) (f k) (renamed_slot f slot)))
        (sym (there_w w v h k near.0 near.1))
        (subst (λ o. Alike (with_session w k (record near.0 { object = slot })) (put_object v o (f k) (renamed_slot f slot)))
        (sym (there_v w v h k near.0 near.1))
        (same_session w v h k near.0 near.1 (record near.0 { object = slot })
        (own_like near.0 (record near.0 { object = slot }) refl refl (is_own w k near.0 near.1))))
