-- What a step for one thread leaves as it is: the leaves that work for others, their own slots, and the sessions and requests below these.
use Rattle.std.proofs.Common.{◌++◌, ◌≡◌, ◌≢◌, ◌⊎◌, ℕ, zero, suc, inl, inr, Bool, true, false, cond, List, [], ◌∷◌, Option, Some, None, refl, ap, sym, ◌∙◌}
use Rattle.std.proofs.Common.{subst}
use Rattle.std.specs.Prelude.{option_map, replicate, slice_get, slice_set}
use Rattle.std.proofs.lemmas.Bool.{true≢false}
use Rattle.std.proofs.lemmas.Bool.Decides.{eqb_tells}
use Rattle.gq_model.specs.declared.phase.Phase.{Phase}
use Rattle.gq_model.specs.declared.phase.Phase.TheVariants.{Pending, Running, Blocked, Serving, Handling, Exited}
use Rattle.gq_model.specs.machine.Scenario.{Component}
use Rattle.gq_model.specs.machine.World.{Slot, Empty, Waiting, SlotId, In_leaf, In_session, In_object, Session, Request, Current, Leaf, World, joined}
use Rattle.gq_model.specs.machine.World.{session_at}
use Rattle.gq_model.specs.machine.World.{leaf_slot, session_slot, session_object, slot_at, with_leaf, put_leaf_slot, put_session_slot, put_object}
use Rattle.gq_model.specs.machine.World.{with_slot}
use Rattle.gq_model.specs.machine.Doing.{Doing}
use Rattle.gq_model.specs.machine.Requests.{add_session, free_place}
use Rattle.gq_model.specs.machine.Step.{is_named, oldest, released, all_released}
use Rattle.std.proofs.lemmas.List.{append_assoc, append-nil}
use Rattle.gq_model.proofs.Small_facts.{none_some, some_same}
use Rattle.gq_laws.specs.Inside_steps.{TakesLeaf}
use Rattle.gq_laws.proofs.session_links.Written_world_links.{set_else}
use Rattle.gq_laws.proofs.Renamed_world_equality.{place_here, added_here, added_else}
use Rattle.gq_determined.specs.internal.Threads.{Accepts, is_active, among, slots_of, seen}
use Rattle.gq_determined.proofs.passing_threads.Kept_by_steps.{IsNamed}
use Rattle.gq_determined.proofs.regions.Region_changes.{put_at}
use Rattle.gq_determined.proofs.regions.At_same.{released_seen}

abbrev pub current_of : Leaf → Option Current
current_of leaf = leaf.current

-- an empty slot waits for nothing
pub empty_waits : (n a k : ℕ) → slice_get (replicate n Empty) a ≡ Some (Waiting k) → ⊥
empty_waits zero a k e = none_some e
empty_waits (suc n) zero k e = absurd (ne e)
  where
    ne : Some Empty ≡ Some (Waiting k) → ⊥
    ne e = cc
empty_waits (suc n) (suc a) k e = empty_waits n a k e

-- what a step for a thread may change: the own slots of the leaf that takes it, in `main` or where it is not its own, and the sessions of its region
abbrev pub OursBy : Doing → ℕ → (ℕ → ℕ) → (ℕ → ℕ) → SlotId → Type 0
OursBy d i own root (In_leaf y a) = (own y ≡ i) × (y ≡ d.x) × (own y ≡ y → d.leaf.current ≡ None) × (d.leaf.current ≡ None → y ≡ i)
OursBy d i own root (In_session k a) = root k ≡ i
OursBy d i own root (In_object k) = root k ≡ i

-- a leaf's slots of a map
same_slots : (a b : Option Leaf) → option_map slots_of a ≡ option_map slots_of b → (i : ℕ) → leaf_slot a i ≡ leaf_slot b i
same_slots None None e i = refl
same_slots None (Some b) e i = absurd (none_some e)
same_slots (Some a) None e i = absurd (none_some (sym e))
same_slots (Some a) (Some b) e i = ap (λ l. slice_get l i) (some_same e)

module _ (d : Doing) (i : ℕ) (own root : ℕ → ℕ) (c : ℕ → Bool) (Ours : SlotId → Type 0) where
  -- a slot that began to wait in this step
  abbrev Begun : SlotId → Type 0
  Begun q = IsNamed d q × Ours q

  abbrev Waits : SlotId → ℕ → Type 0
  Waits q k = (slot_at d.world q ≡ Some (Waiting k)) ⊎ Begun q

  -- a session stands where it stood, or is new
  pub record IsOld (k : ℕ) (s : Session) : Type 0 where
    pub old : Session
    pub there : session_at d.world k ≡ Some old
    pub slot_id : s.slot_id ≡ old.slot_id
    pub server : s.server ≡ old.server

  pub record IsNew (k : ℕ) (s : Session) : Type 0 where
    pub free : k ≡ free_place d.world.sessions
    pub named : IsNamed d s.slot_id
    pub ours : Ours s.slot_id

  -- no request is gone but one that the leaf has taken, the oldest for it
  pub record IsTakenOff (base : List Request) : Type 0 where
    pub serves : Accepts d.leaf
    pub taken : Request × List Request
    pub found : oldest d.world d.x d.world.requests ≡ Some taken
    pub rest : base ≡ taken.1

  -- new requests come last
  pub record Asks (rs : List Request) : Type 0 where
    pub base : List Request
    pub more : List Request
    pub is : rs ≡ base ++ more
    pub from : (base ≡ d.world.requests) ⊎ IsTakenOff base

  pub record IsElse (w : World) : Type 0 where
    pub at : (y : ℕ) → c y ≡ false → option_map seen (slice_get w.leaves y) ≡ option_map seen (slice_get d.world.leaves y)
    pub currents : (y : ℕ) → y ≢ d.x → option_map current_of (slice_get w.leaves y) ≡ option_map current_of (slice_get d.world.leaves y)
    pub slots : (y : ℕ) → own y ≢ i → option_map slots_of (slice_get w.leaves y) ≡ option_map slots_of (slice_get d.world.leaves y)
    pub sessions : (k : ℕ) → root k ≢ i → session_at w k ≡ session_at d.world k
    pub requests : (y : ℕ) → y ≢ i → among root y w.requests ≡ among root y d.world.requests
    pub slot_ids : (k : ℕ) (s : Session) → session_at w k ≡ Some s → IsOld k s ⊎ IsNew k s
    pub waits : (q : SlotId) (k : ℕ) → slot_at w q ≡ Some (Waiting k) → Waits q k
    pub blocked : (leaf : Leaf) → slice_get w.leaves d.x ≡ Some leaf → leaf.phase ≡ Blocked → leaf.current ≡ d.leaf.current
    -- and the same is current at it, if it accepted no request and goes on
    pub mine : (Accepts d.leaf → ⊥) → (leaf : Leaf) → slice_get w.leaves d.x ≡ Some leaf → is_active leaf.phase ≡ true
        → leaf.current ≡ d.leaf.current
    pub asks : Asks w.requests

  pub else_first : TakesLeaf d → IsElse d.world
  else_first t = record {
    at = λ y e. refl;
    currents = λ y ne. refl;
    slots = λ y ne. refl;
    sessions = λ k ne. refl;
    requests = λ y ne. refl;
    slot_ids = λ k s e. inl (record { old = s; there = e; slot_id = refl; server = refl });
    waits = λ q k e. inl e;
    blocked = λ leaf e b. ap current_of (sym (some_same (sym t.there ∙ e))) ∙ sym t.current;
    mine = λ busy leaf e act. ap current_of (sym (some_same (sym t.there ∙ e))) ∙ sym t.current;
    asks = record { base = d.world.requests; more = []; is = sym (append-nil d.world.requests); from = inl refl };
  }

  pub asks_more : (rs : List Request) (r : Request) → Asks rs → Asks (rs ++ r ∷ [])
  asks_more rs r a =
      record { base = a.base; more = a.more ++ r ∷ []; is = ap (λ l. l ++ r ∷ []) a.is ∙ append_assoc a.base a.more (r ∷ []); from = a.from }

  -- LEAVES

  -- a leaf for another: what may differ
  pub record IsLike (w : World) (y : ℕ) (leaf : Leaf) : Type 0 where
    pub ours : c y ≡ true
    pub current : y ≢ d.x → (o : Leaf) → slice_get w.leaves y ≡ Some o → leaf.current ≡ o.current
    pub slots : own y ≢ i → (o : Leaf) → slice_get w.leaves y ≡ Some o → leaf.slots ≡ o.slots
    pub waits : (a k : ℕ) → slice_get leaf.slots a ≡ Some (Waiting k) → Waits (In_leaf y a) k
    pub blocked : y ≡ d.x → leaf.phase ≡ Blocked → leaf.current ≡ d.leaf.current
    pub mine : y ≡ d.x → (Accepts d.leaf → ⊥) → is_active leaf.phase ≡ true → leaf.current ≡ d.leaf.current

  put_same : {A : Type 0} (g : Leaf → A) (w : World) (y z : ℕ) (leaf : Leaf) → (z ≡ y → (o : Leaf) → slice_get w.leaves y ≡ Some o → g leaf ≡ g o)
      → option_map g (slice_get (with_leaf w y leaf).leaves z) ≡ option_map g (slice_get w.leaves z)
  put_same g w y z leaf same = elim (eqb_tells z y) [
    | inl e ↦ ap (option_map g) (put_at w.leaves y z leaf e.1) ∙ by (slice_get w.leaves z) (λ o there. same e.1 o (ap (slice_get w.leaves) (sym e.1) ∙ there))
    | inr e ↦ ap (option_map g) (set_else w.leaves y z leaf e.1)
  ]
    where
      by : (a : Option Leaf) → ((o : Leaf) → a ≡ Some o → g leaf ≡ g o) → option_map g (option_map (λ (l : Leaf). leaf) a) ≡ option_map g a
      by None same = refl
      by (Some o) same = ap Some (same o refl)

  else_put : (y z : ℕ) → c y ≡ true → c z ≡ false → z ≢ y
  else_put y z is not e = true≢false (sym is ∙ (ap c (sym e) ∙ not))

  pub else_leaf : (w : World) (y : ℕ) (leaf : Leaf) → IsLike w y leaf → IsElse w → IsElse (with_leaf w y leaf)
  else_leaf w y leaf like h = record {
    at = λ z not. ap (option_map seen) (set_else w.leaves y z leaf (else_put y z like.ours not)) ∙ h.at z not;
    currents = λ z ne. put_same current_of w y z leaf (λ e. like.current (λ g. ne (e ∙ g))) ∙ h.currents z ne;
    slots = λ z ne. put_same slots_of w y z leaf (λ e. like.slots (λ g. ne (ap own e ∙ g))) ∙ h.slots z ne;
    sessions = h.sessions;
    requests = h.requests;
    slot_ids = h.slot_ids;
    waits = waits;
    blocked = blocked;
    mine = mine;
    asks = h.asks;
  }
    where
      mapped : (o : Option Leaf) (l : Leaf) → option_map (λ (l : Leaf). leaf) o ≡ Some l → leaf ≡ l
      mapped None l e = absurd (none_some e)
      mapped (Some o) l e = some_same e

      waits : (q : SlotId) (k : ℕ) → slot_at (with_leaf w y leaf) q ≡ Some (Waiting k) → Waits q k
      waits (In_leaf z a) k e = elim (eqb_tells z y) [
        | inl t ↦ subst (λ z. Waits (In_leaf z a) k) (sym t.1)
            (like.waits a k (found (slice_get w.leaves z) (sym (ap (λ o. leaf_slot o a) (put_at w.leaves y z leaf t.1)) ∙ e)))
        | inr t ↦ h.waits (In_leaf z a) k (ap (λ o. leaf_slot o a) (sym (set_else w.leaves y z leaf t.1)) ∙ e)
      ]
        where
          found : (o : Option Leaf) → leaf_slot (option_map (λ (l : Leaf). leaf) o) a ≡ Some (Waiting k) → slice_get leaf.slots a ≡ Some (Waiting k)
          found None e = absurd (none_some e)
          found (Some o) e = e
      waits (In_session j a) k e = h.waits (In_session j a) k e
      waits (In_object j) k e = h.waits (In_object j) k e

      blocked : (l : Leaf) → slice_get (slice_set w.leaves y leaf) d.x ≡ Some l → l.phase ≡ Blocked → l.current ≡ d.leaf.current
      blocked l e b = elim (eqb_tells d.x y) [
        | inl t ↦
            let same = mapped (slice_get w.leaves d.x) l (sym (put_at w.leaves y d.x leaf t.1) ∙ e) in
            ap current_of (sym same) ∙ like.blocked (sym t.1) (ap (λ (l : Leaf). l.phase) same ∙ b)
        | inr t ↦ h.blocked l (sym (set_else w.leaves y d.x leaf t.1) ∙ e) b
      ]

      mine : (Accepts d.leaf → ⊥) → (l : Leaf) → slice_get (slice_set w.leaves y leaf) d.x ≡ Some l → is_active l.phase ≡ true
          → l.current ≡ d.leaf.current
      mine busy l e act = elim (eqb_tells d.x y) [
        | inl t ↦
            let same = mapped (slice_get w.leaves d.x) l (sym (put_at w.leaves y d.x leaf t.1) ∙ e) in
            ap current_of (sym same) ∙ like.mine (sym t.1) busy (ap (λ (l : Leaf). is_active l.phase) same ∙ act)
        | inr t ↦ h.mine busy l (sym (set_else w.leaves y d.x leaf t.1) ∙ e) act
      ]

  -- SESSIONS

  -- the session at a place for another: what may differ
  pub record IsLikeSession (w : World) (k : ℕ) (o : Option Session) : Type 0 where
    pub ours : root k ≡ i
    pub was : Session
    pub there : session_at w k ≡ Some was
    pub slot_id : (u : Session) → o ≡ Some u → u.slot_id ≡ was.slot_id
    pub server : (u : Session) → o ≡ Some u → u.server ≡ was.server
    pub slots : (u : Session) → o ≡ Some u → (a j : ℕ) → slice_get u.slots a ≡ Some (Waiting j)
        → (slot_at w (In_session k a) ≡ Some (Waiting j)) ⊎ Begun (In_session k a)
    pub object : (u : Session) → o ≡ Some u → (j : ℕ) → u.object ≡ Waiting j → (slot_at w (In_object k) ≡ Some (Waiting j)) ⊎ Begun (In_object k)

  pub else_session : (w : World) (k : ℕ) (o : Option Session) → IsLikeSession w k o → IsElse w → IsElse (record w { sessions = slice_set w.sessions k o })
  else_session w k o like h = record {
    at = h.at;
    currents = h.currents;
    slots = h.slots;
    sessions = λ j ne. ap joined (set_else w.sessions k j o (λ e. ne (ap root e ∙ like.ours))) ∙ h.sessions j ne;
    requests = h.requests;
    slot_ids = λ j s e. elim (eqb_tells j k) [
      | inl t ↦
          let is = sym (here j t.1) ∙ e in
          elim (h.slot_ids k like.was like.there) [
            | inl old ↦ subst (λ j. IsOld j s ⊎ IsNew j s) (sym t.1)
                (inl (record { old = old.old; there = old.there; slot_id = like.slot_id s is ∙ old.slot_id; server = like.server s is ∙ old.server }))
            | inr new ↦ subst (λ j. IsOld j s ⊎ IsNew j s) (sym t.1) (inr (record {
              free = new.free;
              named = subst (IsNamed d) (sym (like.slot_id s is)) new.named;
              ours = subst Ours (sym (like.slot_id s is)) new.ours;
            }))
          ]
      | inr t ↦ h.slot_ids j s (sym (ap joined (set_else w.sessions k j o t.1)) ∙ e)
    ];
    waits = waits;
    blocked = h.blocked;
    mine = h.mine;
    asks = h.asks;
  }
    where
      here : (j : ℕ) → j ≡ k → joined (slice_get (slice_set w.sessions k o) j) ≡ o
      here j e = ap (λ j. joined (slice_get (slice_set w.sessions k o) j)) e ∙ place_here w.sessions k o like.was like.there

      or_old : (q : SlotId) (j : ℕ) → (slot_at w q ≡ Some (Waiting j)) ⊎ Begun q → Waits q j
      or_old q j (inl e) = h.waits q j e
      or_old q j (inr b) = inr b

      slot : (p : Option Session) → o ≡ p → (a j : ℕ) → session_slot p a ≡ Some (Waiting j) → Waits (In_session k a) j
      slot None is a j e = absurd (none_some e)
      slot (Some u) is a j e = or_old (In_session k a) j (like.slots u is a j e)

      object : (p : Option Session) → o ≡ p → (j : ℕ) → session_object p ≡ Some (Waiting j) → Waits (In_object k) j
      object None is j e = absurd (none_some e)
      object (Some u) is j e = or_old (In_object k) j (like.object u is j (some_same e))

      waits : (q : SlotId) (j : ℕ) → slot_at (record w { sessions = slice_set w.sessions k o }) q ≡ Some (Waiting j) → Waits q j
      waits (In_leaf z a) j e = h.waits (In_leaf z a) j e
      waits (In_session m a) j e = elim (eqb_tells m k) [
        | inl t ↦ subst (λ m. Waits (In_session m a) j) (sym t.1) (slot o refl a j (sym (ap (λ p. session_slot p a) (here m t.1)) ∙ e))
        | inr t ↦ h.waits (In_session m a) j (ap (λ p. session_slot (joined p) a) (sym (set_else w.sessions k m o t.1)) ∙ e)
      ]
      waits (In_object m) j e = elim (eqb_tells m k) [
        | inl t ↦ subst (λ m. Waits (In_object m) j) (sym t.1) (object o refl j (sym (ap session_object (here m t.1)) ∙ e))
        | inr t ↦ h.waits (In_object m) j (ap (λ p. session_object (joined p)) (sym (set_else w.sessions k m o t.1)) ∙ e)
      ]

  pub else_added : (w : World) (s : Session) → free_place w.sessions ≡ free_place d.world.sessions → root (free_place w.sessions) ≡ i
      → s.slots ≡ replicate 8 Empty → s.object ≡ Empty → IsNamed d s.slot_id → Ours s.slot_id → IsElse w → IsElse
      (record w { sessions = add_session s w.sessions })
  else_added w s same is slots object named ours h = record {
    at = h.at;
    currents = h.currents;
    slots = h.slots;
    sessions = λ j ne. added_else w.sessions s j (λ e. ne (ap root e ∙ is)) ∙ h.sessions j ne;
    requests = h.requests;
    slot_ids = λ j u e. elim (eqb_tells j (free_place w.sessions)) [
      | inl t ↦
          let new : s ≡ u = some_same (sym (here j t.1) ∙ e) in
          inr (record {
            free = t.1 ∙ same;
            named = subst (λ (u : Session). IsNamed d u.slot_id) new named;
            ours = subst (λ (u : Session). Ours u.slot_id) new
                ours;
          })
      | inr t ↦ h.slot_ids j u (sym (added_else w.sessions s j t.1) ∙ e)
    ];
    waits = waits;
    blocked = h.blocked;
    mine = h.mine;
    asks = h.asks;
  }
    where
      here : (j : ℕ) → j ≡ free_place w.sessions → joined (slice_get (add_session s w.sessions) j) ≡ Some s
      here j e = ap (λ j. joined (slice_get (add_session s w.sessions) j)) e ∙ added_here w.sessions s

      no_object : (j : ℕ) → Some s.object ≡ Some (Waiting j) → ⊥
      no_object j e = ne (sym object ∙ some_same e)
        where
          ne : Empty ≡ Waiting j → ⊥
          ne e = cc

      waits : (q : SlotId) (j : ℕ) → slot_at (record w { sessions = add_session s w.sessions }) q ≡ Some (Waiting j) → Waits q j
      waits (In_leaf z a) j e = h.waits (In_leaf z a) j e
      waits (In_session m a) j e = elim (eqb_tells m (free_place w.sessions)) [
        | inl t ↦ absurd (empty_waits 8 a j (ap (λ l. slice_get l a) (sym slots) ∙ (sym (ap (λ p. session_slot p a) (here m t.1)) ∙ e)))
        | inr t ↦ h.waits (In_session m a) j (ap (λ p. session_slot p a) (sym (added_else w.sessions s m t.1)) ∙ e)
      ]
      waits (In_object m) j e = elim (eqb_tells m (free_place w.sessions)) [
        | inl t ↦ absurd (no_object j (sym (ap session_object (here m t.1)) ∙ e))
        | inr t ↦ h.waits (In_object m) j (ap session_object (sym (added_else w.sessions s m t.1)) ∙ e)
      ]

  -- REQUESTS

  pub else_requests : (w : World) (rs : List Request) → ((y : ℕ) → y ≢ i → among root y rs ≡ among root y w.requests) → Asks rs → IsElse w
      → IsElse (record w { requests = rs })
  else_requests w rs same new h = record {
    at = h.at;
    currents = h.currents;
    slots = h.slots;
    sessions = h.sessions;
    requests = λ y ne. same y ne ∙ h.requests y ne;
    slot_ids = h.slot_ids;
    waits = h.waits;
    blocked = h.blocked;
    mine = h.mine;
    asks = new;
  }

  -- THE RELEASE OF LEAVES

  released_by : {A : Type 0} (g : Leaf → A) → ((leaf : Leaf) (p : Phase) → g (record leaf { phase = p }) ≡ g leaf) → (name : List ℕ) (cs : List Component)
      (leaves : List Leaf) (y : ℕ) → option_map g (slice_get (all_released name cs leaves) y) ≡ option_map g (slice_get leaves y)
  released_by g same name [] leaves y = refl
  released_by g same name (c ∷ cs) [] y = refl
  released_by g same name (c ∷ cs) (leaf ∷ leaves) zero = ap Some (same leaf (released name c.node.after leaf.phase))
  released_by g same name (c ∷ cs) (leaf ∷ leaves) (suc y) = released_by g same name cs leaves y

  not_blocked : (name : List ℕ) (after : Option (List ℕ)) (p : Phase) → released name after p ≡ Blocked → p ≡ Blocked
  not_blocked name after Pending e = absurd (by (is_named name after) e)
    where
      by : (b : Bool) → cond b Running Pending ≡ Blocked → ⊥
      by true e = cc
      by false e = cc
  not_blocked name after Running e = e
  not_blocked name after Blocked e = e
  not_blocked name after Serving e = e
  not_blocked name after Handling e = e
  not_blocked name after Exited e = e

  released_back : (name : List ℕ) (cs : List Component) (leaves : List Leaf) (y : ℕ) (leaf : Leaf) → slice_get (all_released name cs leaves) y ≡ Some leaf
      → leaf.phase ≡ Blocked → (o : Leaf) × (slice_get leaves y ≡ Some o) × (o.phase ≡ Blocked) × (leaf.current ≡ o.current)
  released_back name [] leaves y leaf e b = (leaf, e, b, refl)
  released_back name (c ∷ cs) [] y leaf e b = absurd (none_some e)
  released_back name (c ∷ cs) (l ∷ leaves) zero leaf e b =
      let same = some_same e in
      (l, refl, not_blocked name c.node.after l.phase (ap (λ (l : Leaf). l.phase) same ∙ b), sym (ap current_of same))
  released_back name (c ∷ cs) (l ∷ leaves) (suc y) leaf e b = released_back name cs leaves y leaf e b

  released_active : (name : List ℕ) (after : Option (List ℕ)) (p : Phase) → is_active p ≡ is_active (released name after p)
  released_active name after Pending = by (is_named name after)
    where
      by : (b : Bool) → true ≡ is_active (cond b Running Pending)
      by true = refl
      by false = refl
  released_active name after Running = refl
  released_active name after Blocked = refl
  released_active name after Serving = refl
  released_active name after Handling = refl
  released_active name after Exited = refl

  released_current : (name : List ℕ) (cs : List Component) (leaves : List Leaf) (y : ℕ) (leaf : Leaf) → slice_get (all_released name cs leaves) y ≡ Some leaf
      → (o : Leaf) × (slice_get leaves y ≡ Some o) × (leaf.current ≡ o.current) × (is_active o.phase ≡ is_active leaf.phase)
  released_current name [] leaves y leaf e = (leaf, e, refl, refl)
  released_current name (c ∷ cs) [] y leaf e = absurd (none_some e)
  released_current name (c ∷ cs) (l ∷ leaves) zero leaf e =
      let same = some_same e in
      (l, refl, sym (ap current_of same), released_active name c.node.after l.phase ∙ ap (λ (l : Leaf). is_active l.phase) same)
  released_current name (c ∷ cs) (l ∷ leaves) (suc y) leaf e = released_current name cs leaves y leaf e

  pub else_released : (w : World) (name : List ℕ) (cs : List Component) → IsElse w → IsElse (record w { leaves = all_released name cs w.leaves })
  else_released w name cs h = record {
    at = λ y not. released_seen name cs w.leaves y ∙ h.at y not;
    currents = λ y ne. released_by current_of (λ leaf p. refl) name cs w.leaves y ∙ h.currents y ne;
    slots = λ y ne. released_by slots_of (λ leaf p. refl) name cs w.leaves y ∙ h.slots y ne;
    sessions = h.sessions;
    requests = h.requests;
    slot_ids = h.slot_ids;
    waits = waits;
    blocked = λ leaf e b. let o = released_back name cs w.leaves d.x leaf e b in o.3 ∙ h.blocked o.0 o.1 o.2;
    asks = h.asks;
    mine = λ busy leaf e act. (
        let o = released_current name cs w.leaves d.x leaf e in o.2 ∙ h.mine busy o.0 o.1 (o.3 ∙ act));
  }
    where
      waits : (q : SlotId) (k : ℕ) → slot_at (record w { leaves = all_released name cs w.leaves }) q ≡ Some (Waiting k) → Waits q k
      waits (In_leaf z a) k e = h.waits (In_leaf z a) k
          (sym (same_slots _ _ (released_by slots_of (λ leaf p. refl) name cs w.leaves z) a) ∙ e)
      waits (In_session j a) k e = h.waits (In_session j a) k e
      waits (In_object j) k e = h.waits (In_object j) k e

  -- SLOTS

  -- a slot that gets other contents of this thread: it begins to wait, or it does not wait
  abbrev pub MayWait : SlotId → Slot → Type 0
  MayWait q slot = ((k : ℕ) → slot ≡ Waiting k → ⊥) ⊎ Begun q

  may_wait : (q : SlotId) (slot : Slot) → MayWait q slot → (k : ℕ) → slot ≡ Waiting k → Begun q
  may_wait q slot (inl never) k e = absurd (never k e)
  may_wait q slot (inr b) k e = b

  put_waits : (slots : List Slot) (a b k : ℕ) (slot : Slot) → slice_get (slice_set slots a slot) b ≡ Some (Waiting k)
      → (slice_get slots b ≡ Some (Waiting k)) ⊎ ((b ≡ a) × (slot ≡ Waiting k))
  put_waits slots a b k slot e = elim (eqb_tells b a) [
    | inl t ↦ by (slice_get slots b) (sym (put_at slots a b slot t.1) ∙ e) t.1
    | inr t ↦ inl (sym (set_else slots a b slot t.1) ∙ e)
  ]
    where
      by : (o : Option Slot) → option_map (λ (s : Slot). slot) o ≡ Some (Waiting k) → b ≡ a
          → (slice_get slots b ≡ Some (Waiting k)) ⊎ ((b ≡ a) × (slot ≡ Waiting k))
      by None e same = absurd (none_some e)
      by (Some s) e same = inr (same, some_same e)

  -- an own slot, of a leaf that is the thread's
  pub else_own_slot : (w : World) (y a : ℕ) (slot : Slot) → c y ≡ true → own y ≡ i → MayWait (In_leaf y a) slot → IsElse w
      → IsElse (with_slot w (In_leaf y a) slot)
  else_own_slot w y a slot ours is may h = by (slice_get w.leaves y) refl
    where
      by : (o : Option Leaf) → slice_get w.leaves y ≡ o → IsElse (put_leaf_slot w o y a slot)
      by None e = h
      by (Some leaf) e = else_leaf w y (record leaf { slots = slice_set leaf.slots a slot }) (record {
        ours = ours;
        current = λ ne o there. ap current_of (some_same (sym e ∙ there));
        slots = λ ne o there. absurd (ne is);
        waits = λ b k there. elim (put_waits leaf.slots a b k slot there) [
          | inl old ↦ h.waits (In_leaf y b) k (ap (λ o. leaf_slot o b) e ∙ old)
          | inr new ↦ inr (subst (λ b. Begun (In_leaf y b)) (sym new.0) (may_wait (In_leaf y a) slot may k new.1))
        ];
        blocked = λ same b. h.blocked leaf (ap (slice_get w.leaves) (sym same) ∙ e) b;
        mine = λ same busy act. h.mine busy leaf (ap (slice_get w.leaves) (sym same) ∙ e) act;
      }) h

  -- a slot of a session, and its object
  pub else_slot : (w : World) (k a : ℕ) (slot : Slot) (s : Session) → root k ≡ i → session_at w k ≡ Some s → MayWait (In_session k a) slot → IsElse w
      → IsElse (with_slot w (In_session k a) slot)
  else_slot w k a slot s ours there may h =
      subst (λ o. IsElse (put_session_slot w o k a slot)) (sym there)
      (else_session w k (Some (record s { slots = slice_set s.slots a slot })) (record {
        ours = ours;
        was = s;
        there = there;
        slot_id = λ u e. ap (λ (s : Session). s.slot_id) (sym (some_same e));
        server = λ u e. ap (λ (s : Session). s.server) (sym (some_same e));
        slots = λ u e b j at. elim (put_waits s.slots a b j slot (ap (λ (s : Session). slice_get s.slots b) (some_same e) ∙ at)) [
          | inl old ↦ inl (ap (λ o. session_slot o b) there ∙ old)
          | inr new ↦ inr (subst (λ b. Begun (In_session k b)) (sym new.0) (may_wait (In_session k a) slot may j new.1))
        ];
        object = λ u e j at. inl (ap session_object there ∙ ap Some (ap (λ (s : Session). s.object) (some_same e) ∙ at));
      }) h)

  pub else_object : (w : World) (k : ℕ) (slot : Slot) (s : Session) → root k ≡ i → session_at w k ≡ Some s → MayWait (In_object k) slot → IsElse w
      → IsElse (with_slot w (In_object k) slot)
  else_object w k slot s ours there may h =
      subst (λ o. IsElse (put_object w o k slot)) (sym there)
      (else_session w k (Some (record s { object = slot })) (record {
        ours = ours;
        was = s;
        there = there;
        slot_id = λ u e. ap (λ (s : Session). s.slot_id) (sym (some_same e));
        server = λ u e. ap (λ (s : Session). s.server) (sym (some_same e));
        slots = λ u e b j at. inl (ap (λ o. session_slot o b) there ∙ (ap (λ (s : Session). slice_get s.slots b) (some_same e) ∙ at));
        object = λ u e j at. inr (may_wait (In_object k) slot may j (ap (λ (s : Session). s.object) (some_same e) ∙ at));
      }) h)
