-- Two worlds in a step for the same thread: its region and that of the leaf that takes the step are the same, and all else stays. Elementary changes keep
-- this.
use Rattle.std.proofs.Common.{◌≡◌, ◌≢◌, ◌⊎◌, ℕ, ◌==◌, inl, inr, Bool, true, cond, List, [], ◌∷◌, ◌++◌, map, Option, Some, None, Ok, refl, ap, sym, ◌∙◌}
use Rattle.std.proofs.Common.{subst}
use Rattle.std.specs.Prelude.{option_map, replicate, slice_get, slice_set}
use Rattle.std.proofs.lemmas.Bool.Decides.{eqb_tells}
use Rattle.gq_model.specs.machine.Amounts.{Amount}
use Rattle.gq_model.specs.declared.phase.Phase.{Phase}
use Rattle.gq_model.specs.declared.phase.Phase.TheVariants.{Pending, Running, Blocked, Serving, Handling, Exited}
use Rattle.gq_model.specs.declared.fault.Wrong.TheVariants.{WrongKind, ExceededQuota}
use Rattle.gq_model.specs.machine.World.{Slot, Empty, Waiting, Link, SlotId, In_leaf, In_session, In_object, Session, Request, Current, Leaf, World, joined}
use Rattle.gq_model.specs.machine.World.{session_at, slot_at, leaf_slot, session_slot, session_object, with_leaf, with_session, with_slot, put_leaf_slot}
use Rattle.gq_model.specs.machine.World.{put_session_slot, put_object}
use Rattle.gq_model.specs.machine.Sums.{paid, with_peaks}
use Rattle.gq_model.specs.machine.Doing.{Doing, Quiet, need, if_paid, settled}
use Rattle.gq_model.specs.machine.Requests.{add_session, free_place}
use Rattle.gq_model.proofs.Small_facts.{none_some, some_same}
use Rattle.gq_laws.specs.Inside_steps.{TakesLeaf}
use Rattle.gq_laws.specs.Session_links.{Leads, naming, naming_in, stance, links, Belongs, AreLinked}
use Rattle.gq_laws.proofs.session_links.Link_free_statements.{stood}
use Rattle.gq_laws.proofs.session_links.Written_world_links.{set_else}
use Rattle.gq_laws.proofs.Outside_step_untouched.{free_none, outlined}
use Rattle.gq_laws.specs.Renamed.{renamed_slot, renamed_slot_id, renamed_leaf, renamed_session, renamed_request}
use Rattle.gq_laws.proofs.Paired_step_outcomes.{Both, one_fails, both_give, both_when}
use Rattle.gq_laws.proofs.Renamed_world_equality.{place_here, added_else}
use Rattle.gq_determined.specs.internal.Threads.{Accepts, is_active, among, slots_of, seen, seen_by, IsAtSame, IsSameRegion}
use Rattle.gq_determined.proofs.passing_threads.Kept_by_steps.{Aside, other_leaf, other_doing, KeepsOwn, IsNamed, Near, IsKept}
use Rattle.gq_determined.proofs.regions.Region_changes.{region_leaf, region_session, region_added, region_request, region_there, region_own_slot, region_slot}
use Rattle.gq_determined.proofs.regions.Region_changes.{region_object}
use Rattle.gq_determined.proofs.regions.Region_changes.{region_put_own, region_put, region_put_object}
use Rattle.gq_determined.proofs.regions.At_same.{at_leaf, at_seen, slot_seen}
use Rattle.gq_determined.proofs.regions.Outside_region_kept.{OursBy, IsElse, asks_more, else_leaf, else_session, else_added, else_requests, else_own_slot}
use Rattle.gq_determined.proofs.regions.Outside_region_kept.{else_slot}
use Rattle.gq_determined.proofs.regions.Outside_region_kept.{else_object}

-- a session is of the thread that its slot is of
abbrev pub IsBelow : (ℕ → ℕ) → (ℕ → ℕ) → ℕ → SlotId → Type 0
IsBelow own root k (In_leaf y a) = root k ≡ own y
IsBelow own root k (In_session j a) = root k ≡ root j
IsBelow own root k (In_object j) = Unit {0}

-- sessions stay, whatever is put into slots
pub slot_stays : (w : World) (q : SlotId) (slot : Slot) (j : ℕ) (s : Session) → session_at w j ≡ Some s
    → (t : Session) × (session_at (with_slot w q slot) j ≡ Some t)
slot_stays w (In_leaf x a) slot j s e = by (slice_get w.leaves x)
  where
    by : (o : Option Leaf) → (t : Session) × (session_at (put_leaf_slot w o x a slot) j ≡ Some t)
    by None = (s, e)
    by (Some leaf) = (s, e)
slot_stays w (In_session k a) slot j s e = by (session_at w k) refl
  where
    by : (o : Option Session) → session_at w k ≡ o → (t : Session) × (session_at (put_session_slot w o k a slot) j ≡ Some t)
    by None there = (s, e)
    by (Some u) there = elim (eqb_tells j k) [
      | inl t ↦
          let new = record u { slots = slice_set u.slots a slot } in
          (new, ap (λ j. joined (slice_get (slice_set w.sessions k (Some new)) j)) t.1 ∙ place_here w.sessions k (Some new) u there)
      | inr t ↦ (s, ap joined (set_else w.sessions k j (Some (record u { slots = slice_set u.slots a slot })) t.1) ∙ e)
    ]
slot_stays w (In_object k) slot j s e = by (session_at w k) refl
  where
    by : (o : Option Session) → session_at w k ≡ o → (t : Session) × (session_at (put_object w o k slot) j ≡ Some t)
    by None there = (s, e)
    by (Some u) there = elim (eqb_tells j k) [
      | inl t ↦
          let new = record u { object = slot } in
          (new, ap (λ j. joined (slice_get (slice_set w.sessions k (Some new)) j)) t.1 ∙ place_here w.sessions k (Some new) u there)
      | inr t ↦ (s, ap joined (set_else w.sessions k j (Some (record u { object = slot })) t.1) ∙ e)
    ]

-- what is seen of a leaf does not report its steps and peaks
pub seen_other : (f : ℕ → ℕ) (aside : Aside) (d : Doing) (v : World) (leaf : Leaf) → seen (other_leaf f aside d v leaf) ≡ renamed_leaf f (seen leaf)
seen_other f aside d v leaf = by leaf.phase
  where
    by : (p : Phase) → seen_by p (other_leaf f aside d v leaf) ≡ renamed_leaf f (seen_by p leaf)
    by Pending = refl
    by Running = refl
    by Blocked = refl
    by Serving = refl
    by Handling = refl
    by Exited = refl

seen_peaks : (leaf : Leaf) (peaks : List ℕ) → seen (record leaf { peaks = peaks }) ≡ seen leaf
seen_peaks leaf peaks = by leaf.phase
  where
    by : (p : Phase) → seen_by p (record leaf { peaks = peaks }) ≡ seen_by p leaf
    by Pending = refl
    by Running = refl
    by Blocked = refl
    by Serving = refl
    by Handling = refl
    by Exited = refl

not_waiting : (slot : Slot) → naming slot ≡ None → (k : ℕ) → slot ≡ Waiting k → ⊥
not_waiting slot none k e = none_some (sym none ∙ ap naming e)

-- a leaf that is there in the one world is there in the other
module _ {A : Type 0} (g h : Leaf → A) where
  pub both_none : (a b : Option Leaf) → option_map g b ≡ option_map h a → b ≡ None → a ≡ None
  both_none None b e n = refl
  both_none (Some a) None e n = absurd (none_some e)
  both_none (Some a) (Some b) e n = absurd (none_some (sym n))

  pub none_both : (a b : Option Leaf) → option_map g b ≡ option_map h a → a ≡ None → b ≡ None
  none_both a None e n = refl
  none_both None (Some b) e n = absurd (none_some (sym e))
  none_both (Some a) (Some b) e n = absurd (none_some (sym n))

module _ (f : ℕ → ℕ) (aside : Aside) (d : Doing) (v : World) (i : ℕ) (own root other : ℕ → ℕ) (c : ℕ → Bool) where
  abbrev e : Doing
  e = other_doing f aside d v

  -- what a step for the thread may change
  abbrev pub Ours : SlotId → Type 0
  Ours = OursBy d i own root

  -- and what it may look at
  abbrev pub Region : ℕ → Type 0
  Region y = (y ≡ i) ⊎ (y ≡ own d.x)

  abbrev pub Mine : ℕ → Type 0
  Mine k = Region (root k) × ((s : Session) × (session_at d.world k ≡ Some s))

  pub record IsRelated (w z : World) : Type 0 where
    pub regions : (y : ℕ) → Region y → IsSameRegion f own root other y w z
    pub at : (y : ℕ) → c y ≡ true → IsAtSame f y w z
    pub rest : IsElse d i own root c Ours w

  pub record IsRelatedWithin (w z : World) : Type 0 where
    pub related : IsRelated w z
    pub stay : (k : ℕ) (s : Session) → session_at d.world k ≡ Some s → (t : Session) × (session_at w k ≡ Some t)

  -- what is known before the step
  pub record IsBefore : Type 0 where
    pub takes : TakesLeaf d
    pub linked : AreLinked d.system (links d.world)
    pub pays : (z : World) → paid d.system z ≡ true
    pub related : IsRelated d.world v
    pub here : c d.x ≡ true
    pub active : d.leaf.phase ≡ Blocked → ⊥
    pub current : (g : Current) → d.leaf.current ≡ Some g → root g.session ≡ i
    pub client : (g : Current) (s : Session) → d.leaf.current ≡ Some g → session_at d.world g.session ≡ Some s → c s.client ≡ true
    -- in `main` a leaf works for itself
    pub main : d.leaf.current ≡ None → (Accepts d.leaf → ⊥) → own d.x ≡ i
    pub below : (k : ℕ) (s : Session) → session_at d.world k ≡ Some s → IsBelow own root k s.slot_id
    pub fresh : f (free_place d.world.sessions) ≡ free_place v.sessions
    pub fresh_root : root (free_place d.world.sessions) ≡ i
    pub fresh_other : other (free_place v.sessions) ≡ i

  module _ (h : IsBefore) where
    abbrev K : World → World → Type 0
    K = IsRelatedWithin

    -- A LEAF

    -- the leaf's slots in a world before they are changed
    old_slots : (w z : World) → IsRelated w z → own d.x ≢ i → (o : Leaf) → slice_get w.leaves d.x ≡ Some o → o.slots ≡ h.takes.old.slots
    old_slots w z k ne o there =
        some_same (sym (ap (option_map slots_of) there) ∙ (k.rest.slots d.x ne ∙ ap (option_map slots_of) h.takes.there))

    own_before : (a k : ℕ) → slice_get h.takes.old.slots a ≡ Some (Waiting k) → slot_at d.world (In_leaf d.x a) ≡ Some (Waiting k)
    own_before a k e = ap (λ o. leaf_slot o a) h.takes.there ∙ e

    pub puts_leaf : (w z : World) (leaf new : Leaf) → leaf.slots ≡ d.leaf.slots → new.slots ≡ map (renamed_slot f) leaf.slots
        → seen new ≡ renamed_leaf f (seen leaf) → (leaf.phase ≡ Blocked → leaf.current ≡ d.leaf.current)
        → ((Accepts d.leaf → ⊥) → is_active leaf.phase ≡ true → leaf.current ≡ d.leaf.current) → IsRelated w z
        → IsRelated (with_leaf w d.x leaf) (with_leaf z d.x new)
    puts_leaf w z leaf new slots same at current mine k = record {
      regions = λ y r. region_leaf f own root other y w z d.x leaf new (λ e. same) (k.regions y r);
      at = λ y ours. at_leaf f y w z d.x leaf new (λ e. at) (k.at y ours);
      rest = else_leaf d i own root c Ours w d.x leaf (record {
        ours = h.here;
        current = λ ne o there. absurd (ne refl);
        slots = λ ne o there. slots ∙ (h.takes.slots ∙ sym (old_slots w z k ne o there));
        waits = λ a j there. inl (own_before a j (ap (λ l. slice_get l a) (sym (slots ∙ h.takes.slots)) ∙ there));
        blocked = λ e b. current b;
        mine = λ e busy act. mine busy act;
      }) k.rest;
    }

    keeps_leaf : (w z : World) (leaf : Leaf) → K w z → KeepsOwn f aside d v leaf → K (with_leaf w d.x leaf) (with_leaf z d.x (other_leaf f aside d v leaf))
    keeps_leaf w z leaf k keeps = record {
      related = puts_leaf w z leaf (other_leaf f aside d v leaf) keeps.slots refl (seen_other f aside d v leaf) (λ b. keeps.current)
          (λ busy act. keeps.current) k.related;
      stay = k.stay;
    }

    -- A SLOT

    -- a slot that the step may look at
    abbrev IsNear : SlotId → Type 0
    IsNear = Near f aside d v K Mine Ours

    -- any slot of the region
    abbrev pub InRegion : World → SlotId → Type 0
    InRegion w (In_leaf y a) = (own y ≡ i) × (c y ≡ true)
    InRegion w (In_session k a) = (root k ≡ i) × ((s : Session) × (session_at w k ≡ Some s))
    InRegion w (In_object k) = (root k ≡ i) × ((s : Session) × (session_at w k ≡ Some s))

    abbrev MayWait : SlotId → Slot → Type 0
    MayWait q slot = ((k : ℕ) → slot ≡ Waiting k → ⊥) ⊎ (IsNamed d q × Ours q)

    puts_own : (w z : World) (y a : ℕ) (slot : Slot) → own y ≡ i → c y ≡ true → MayWait (In_leaf y a) slot → IsRelated w z
        → IsRelated (with_slot w (In_leaf y a) slot) (with_slot z (In_leaf y a) (renamed_slot f slot))
    puts_own w z y a slot is ours may k =
        let r = (k.regions i (inl refl)).slots y is in
        record {
          regions = λ t q. region_put_own f own root other t w z y a slot (both_none slots_of (λ l. map (renamed_slot f) (slots_of l)) _ _ r)
              (none_both slots_of (λ l. map (renamed_slot f) (slots_of l)) _ _ r) (k.regions t q);
          at = λ t in_c. at_seen f t w z (with_slot w (In_leaf y a) slot) (with_slot z (In_leaf y a) (renamed_slot f slot))
              (slot_seen w (In_leaf y a) slot t) (slot_seen z (In_leaf y a) (renamed_slot f slot) t) (k.at t in_c);
          rest = else_own_slot d i own root c Ours w y a slot ours is may k.rest;
        }

    pub puts : (w z : World) (q : SlotId) (slot : Slot) → InRegion w q → MayWait q slot → IsRelated w z
        → IsRelated (with_slot w q slot) (with_slot z (renamed_slot_id f q) (renamed_slot f slot))
    puts w z (In_leaf y a) slot near may k = puts_own w z y a slot near.0 near.1 may k
    puts w z (In_session j a) slot near may k =
        let t = region_there f own root other i w z j near.1.0 near.0 near.1.1 (k.regions i (inl refl)) in
        record {
          regions = λ y r. region_put f own root other y w z j a slot near.1.0 t.1 near.1.1 t.0 (k.regions y r);
          at = λ y ours. at_seen f y w z (with_slot w (In_session j a) slot) (with_slot z (In_session (f j) a) (renamed_slot f slot))
              (slot_seen w (In_session j a) slot y) (slot_seen z (In_session (f j) a) (renamed_slot f slot) y) (k.at y ours);
          rest = else_slot d i own root c Ours w j a slot near.1.0 near.0 near.1.1 may k.rest;
        }
    puts w z (In_object j) slot near may k =
        let t = region_there f own root other i w z j near.1.0 near.0 near.1.1 (k.regions i (inl refl)) in
        record {
          regions = λ y r. region_put_object f own root other y w z j slot near.1.0 t.1 near.1.1 t.0 (k.regions y r);
          at = λ y ours. at_seen f y w z (with_slot w (In_object j) slot) (with_slot z (In_object (f j)) (renamed_slot f slot))
              (slot_seen w (In_object j) slot y) (slot_seen z (In_object (f j)) (renamed_slot f slot) y) (k.at y ours);
          rest = else_object d i own root c Ours w j slot near.1.0 near.0 near.1.1 may k.rest;
        }

    -- a slot that the step may change is of the region
    near_region : (w : World) → ((k : ℕ) (s : Session) → session_at d.world k ≡ Some s → (t : Session) × (session_at w k ≡ Some t)) → (q : SlotId)
        → (IsNear q) → Ours q → InRegion w q
    near_region w stay (In_leaf y a) near ours = (ours.0, ap c ours.1 ∙ h.here)
    near_region w stay (In_session k a) near ours = (ours, stay k near.1.0 near.1.1)
    near_region w stay (In_object k) near ours = (ours, stay k near.1.0 near.1.1)

    keeps_put : (w z : World) (q : SlotId) (slot : Slot) → MayWait q slot → K w z → IsNear q → Ours q
        → K (with_slot w q slot) (with_slot z (renamed_slot_id f q) (renamed_slot f slot))
    keeps_put w z q slot may k near ours = record {
      related = puts w z q slot (near_region w k.stay q near ours) may k.related;
      stay = λ j s there. let t = k.stay j s there in slot_stays w q slot j t.0 t.1;
    }

    -- READING

    reads : (w z : World) (q : SlotId) → K w z → IsNear q → ((j : ℕ) (s : Session) → session_at d.world j ≡ Some s → session_at w j ≡ Some s)
        → slot_at z (renamed_slot_id f q) ≡ option_map (renamed_slot f) (slot_at w q)
    reads w z (In_leaf y a) k near here =
        region_own_slot f own root other (own d.x) w z y a (ap own near) (k.related.regions (own d.x) (inr refl))
    reads w z (In_session j a) k near here =
        region_slot f own root other (root j) w z j a near.1.0 refl (here j near.1.0 near.1.1) (k.related.regions (root j) near.0)
    reads w z (In_object j) k near here =
        region_object f own root other (root j) w z j near.1.0 refl (here j near.1.0 near.1.1) (k.related.regions (root j) near.0)

    reads_session : (w z : World) (k : ℕ) (s : Session) → K w z → Mine k → session_at w k ≡ Some s → session_at z (f k) ≡ Some (renamed_session f s)
    reads_session w z k s r mine there = (region_there f own root other (root k) w z k s refl there (r.related.regions (root k) mine.0)).0

    -- SESSIONS AND REQUESTS

    keeps_donation : (w z : World) (k : ℕ) (s : Session) (a : Amount) → K w z → Mine k → root k ≡ i → session_at w k ≡ Some s
        → K (with_session w k (record s { donation = a })) (with_session z (f k) (renamed_session f (record s { donation = a })))
    keeps_donation w z k s a r mine ours there =
        let t = region_there f own root other i w z k s ours there (r.related.regions i (inl refl)) in
        let new = record s { donation = a } in
        record {
          related = record {
            regions = λ y q. region_session f own root other y w z k s (Some new) t.1 there t.0 (r.related.regions y q);
            at = r.related.at;
            rest = else_session d i own root c Ours w k (Some new) (record {
              ours = ours;
              was = s;
              there = there;
              slot_id = λ u e. ap (λ (s : Session). s.slot_id) (sym (some_same e));
              server = λ u e. ap (λ (s : Session). s.server) (sym (some_same e));
              slots = λ u e b j at. inl (ap (λ o. session_slot o b) there ∙ (ap (λ (s : Session). slice_get s.slots b) (some_same e) ∙ at));
              object = λ u e j at. inl (ap session_object there ∙ ap Some (ap (λ (s : Session). s.object) (some_same e) ∙ at));
            }) r.related.rest;
          };
          stay = λ j u e. let o = r.stay j u e in elim (eqb_tells j k) [
            | inl g ↦ (new, ap (λ j. joined (slice_get (slice_set w.sessions k (Some new)) j)) g.1 ∙ place_here w.sessions k (Some new) s there)
            | inr g ↦ (o.0, ap joined (set_else w.sessions k j (Some new) g.1) ∙ o.1)
          ];
        }

    keeps_added : (w z : World) (s : Session) → K w z → free_place w.sessions ≡ free_place d.world.sessions → free_place z.sessions ≡ free_place v.sessions
        → s.client ≡ d.x → s.slots ≡ replicate 8 Empty → s.object ≡ Empty → IsNamed d s.slot_id → Ours s.slot_id
        → K (record w { sessions = add_session s w.sessions }) (record z { sessions = add_session (renamed_session f s) z.sessions })
    keeps_added w z s r free free_z client slots object named ours =
        let number : f (free_place w.sessions) ≡ free_place z.sessions = ap f free ∙ (h.fresh ∙ sym free_z) in
        let is : root (free_place w.sessions) ≡ i = ap root free ∙ h.fresh_root in
        let sides : other (free_place z.sessions) ≡ root (free_place w.sessions) = ap other free_z ∙ (h.fresh_other ∙ sym is) in
        record {
          related = record {
            regions = λ y q. region_added f own root other y w z s number sides (r.related.regions y q);
            at = r.related.at;
            rest = else_added d i own root c Ours w s free is slots object named ours r.related.rest;
          };
          stay = λ j u e. let o = r.stay j u e in (
            o.0,
            added_else w.sessions s j (λ same. none_some (sym (free_none d.world.sessions) ∙ (ap (session_at d.world) (sym (same ∙ free)) ∙ e))) ∙ o.1,
          );
        }

    among_more : (y : ℕ) (rs : List Request) (r : Request) → root r.session ≢ y → among root y (rs ++ r ∷ []) ≡ among root y rs
    among_more y [] r ne = elim (eqb_tells (root r.session) y) [ inl t ↦ absurd (ne t.1) | inr t ↦ ap (λ b. cond b (r ∷ []) []) t.0 ]
    among_more y (q ∷ rs) r ne = ap (λ l. cond (root q.session == y) (q ∷ l) l) (among_more y rs r ne)

    keeps_ask : (w z : World) (r : Request) → K w z → (Mine r.session × (root r.session ≡ i)) ⊎ (r.session ≡ free_place d.world.sessions)
        → K (record w { requests = w.requests ++ r ∷ [] }) (record z { requests = z.requests ++ renamed_request f r ∷ [] })
    keeps_ask w z r k asked = record {
      related = record {
        regions = λ y q. region_request f own root other y w z r (sides asked) (k.related.regions y q);
        at = k.related.at;
        rest = else_requests d i own root c Ours w (w.requests ++ r ∷ []) (λ y ne. among_more y w.requests r (λ e. ne (sym e ∙ ours asked)))
            (asks_more d i own root c Ours w.requests r k.related.rest.asks) k.related.rest;
      };
      stay = k.stay;
    }
      where
        ours : (Mine r.session × (root r.session ≡ i)) ⊎ (r.session ≡ free_place d.world.sessions) → root r.session ≡ i
        ours (inl m) = m.1
        ours (inr e) = ap root e ∙ h.fresh_root

        sides : (Mine r.session × (root r.session ≡ i)) ⊎ (r.session ≡ free_place d.world.sessions) → other (f r.session) ≡ root r.session
        sides (inl m) =
            let s = k.stay r.session m.0.1.0 m.0.1.1 in (region_there f own root other i w z r.session s.0 m.1 s.1 (k.related.regions i (inl refl))).1
        sides (inr e) = ap (λ j. other (f j)) e ∙ (ap other h.fresh ∙ (h.fresh_other ∙ sym (ap root e ∙ h.fresh_root)))

    -- PEAKS

    keeps_peaks : (w z : World) → K w z → Both K (settled d.system d.x w) (settled d.system d.x z)
    keeps_peaks w z k = by (slice_get w.leaves d.x) (slice_get z.leaves d.x) refl refl
      where
        own_slots : option_map slots_of (slice_get z.leaves d.x) ≡ option_map (λ l. map (renamed_slot f) (slots_of l)) (slice_get w.leaves d.x)
        own_slots = (k.related.regions (own d.x) (inr refl)).slots d.x refl

        by : (a b : Option Leaf) → slice_get w.leaves d.x ≡ a → slice_get z.leaves d.x ≡ b
            → Both K (need a WrongKind (λ leaf. if_paid d.system (with_leaf w d.x (with_peaks w d.x leaf)) Quiet))
            (need b WrongKind (λ leaf. if_paid d.system (with_leaf z d.x (with_peaks z d.x leaf)) Quiet))
        by None b e g = one_fails K WrongKind _
        by (Some a) None e g =
            absurd (none_some (sym (both_none slots_of (λ l. map (renamed_slot f) (slots_of l)) _ _ own_slots g) ∙ e))
        by (Some a) (Some b) e g =
            let new = with_leaf w d.x (with_peaks w d.x a) in
            let new_z = with_leaf z d.x (with_peaks z d.x b) in
            both_when K (paid d.system new) (paid d.system new_z) ExceededQuota ExceededQuota (Ok (new, Quiet)) (Ok (new_z, Quiet)) (λ q. h.pays new_z)
            (both_give K new new_z Quiet (record {
              related = record {
                regions = λ y q. region_leaf f own root other y w z d.x (with_peaks w d.x a) (with_peaks z d.x b) (λ same. slots) (k.related.regions y q);
                at = λ y ours. at_leaf f y w z d.x (with_peaks w d.x a) (with_peaks z d.x b)
                    (λ same. seen_peaks b _ ∙ (at_x ∙ ap (renamed_leaf f) (sym (seen_peaks a _)))) (k.related.at y ours);
                rest = else_leaf d i own root c Ours w d.x (with_peaks w d.x a) (record {
                  ours = h.here;
                  current = λ ne o there. absurd (ne refl);
                  slots = λ ne o there. ap slots_of (some_same (sym e ∙ there));
                  waits = λ p j there. k.related.rest.waits (In_leaf d.x p) j (ap (λ o. leaf_slot o p) e ∙ there);
                  blocked = λ same b. k.related.rest.blocked a e b;
                  mine = λ same busy act. k.related.rest.mine busy a e act;
                }) k.related.rest;
              };
              stay = k.stay;
            }))
          where
            slots : b.slots ≡ map (renamed_slot f) a.slots
            slots = some_same (ap (option_map slots_of) (sym g) ∙ (own_slots ∙ ap (option_map (λ l. map (renamed_slot f) (slots_of l))) e))

            at_x : seen b ≡ renamed_leaf f (seen a)
            at_x = some_same (ap (option_map seen) (sym g) ∙ (k.related.at d.x h.here ∙ ap (option_map (λ l. renamed_leaf f (seen l))) e))

    -- WHAT IS NEAR

    near_current : (g : Current) → d.leaf.current ≡ Some g → Mine g.session × ((a : ℕ) → Ours (In_session g.session a)) × Ours (In_object g.session)
        × ((s : Session) × (session_at d.world g.session ≡ Some s))
    near_current g at =
        let m = h.linked.handles d.x d.leaf.phase g (stood d h.takes ∙ ap (λ o. Some (stance d.leaf.phase o)) at) in
        let s = outlined (session_at d.world g.session) m.0 m.1 in
        let is = h.current g at in
        ((inl is, (s.0, s.1)), λ a. is, is, (s.0, s.1))

    near_link : (q : SlotId) (k : ℕ) → IsNear q → slot_at d.world q ≡ Some (Link k)
        → Mine k × ((s : Session) × (session_at d.world k ≡ Some s)) × (Ours q → Ours (In_session k 0))
    near_link q k near there =
        let m = h.linked.named q (Leads k) (ap naming_in there) in
        let s = outlined (session_at d.world k) m.0 m.1 in
        let below = subst (IsBelow own root k) (ap (λ (s : Session). s.slot_id) s.2 ∙ m.2) (h.below k s.0 s.1) in
        let r = by q m.0.client near below (subst (λ q. Belongs (links d.world) q m.0.client) m.2 (h.linked.belongs k m.0 m.1)) in
        ((r.0, (s.0, s.1)), (s.0, s.1), r.1)
      where
        by : (q : SlotId) (client : ℕ) → IsNear q → IsBelow own root k q → Belongs (links d.world) q client → Region (root k) × (Ours q → root k ≡ i)
        by (In_leaf y a) client near below b = (inr (below ∙ ap own near), λ ours. below ∙ ours.0)
        by (In_session j a) client near below b = (subst Region (sym below) near.0, λ ours. below ∙ ours)
        by (In_object j) client near below b = absurd b

    pub kept : IsKept f aside d v K Mine Ours
    kept = record {
      first = record { related = h.related; stay = λ k s there. (s, there) };
      pays = h.pays;
      current = near_current;
      link = near_link;
      fresh = h.fresh;
      slot = reads;
      session = reads_session;
      leaf = keeps_leaf;
      put = λ w z q slot none k near ours. keeps_put w z q slot (inl (not_waiting slot none)) k near ours;
      wait = λ w z q k named asked r near ours. keeps_put w z q (Waiting k) (inr (named, ours)) r near ours;
      settles = keeps_peaks;
      donate = keeps_donation;
      add = keeps_added;
      ask = keeps_ask;
    }
