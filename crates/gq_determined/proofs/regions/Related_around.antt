-- Two worlds in a step for the same thread, continued: where sections begin and end.
use Rattle.std.proofs.Common.{◌≡◌, ◌≢◌, ℕ, suc, ◌==◌, inl, inr, Bool, true, false, cond, List, [], ◌∷◌, length, map, Option, Some, None, refl, ap, sym, ◌∙◌}
use Rattle.std.proofs.Common.{subst, arith}
use Rattle.std.specs.Prelude.{option_map, slice_get, slice_set}
use Rattle.std.proofs.lemmas.Bool.{true≢false}
use Rattle.std.proofs.lemmas.List.{append-nil}
use Rattle.std.proofs.lemmas.Bool.Decides.{eqb_tells}
use Rattle.gq_model.specs.declared.phase.Phase.TheVariants.{Blocked, Serving, Handling, Exited}
use Rattle.gq_model.specs.declared.section.Section.{Section}
use Rattle.gq_model.specs.machine.World.{Slot, Empty, Waiting, Link, SlotId, In_leaf, In_session, In_object, Session, Request, Current, Leaf, World}
use Rattle.gq_model.specs.machine.World.{session_at, leaf_slot, session_slot, session_object, with_session, with_slot}
use Rattle.gq_model.specs.machine.Doing.{Doing, standing}
use Rattle.gq_model.specs.machine.Step.{is_to, kept_before, oldest, serving, resumed, active_again, unblocked, exited, exit_of}
use Rattle.gq_model.proofs.Small_facts.{none_some, some_same, equal_self}
use Rattle.gq_laws.specs.Session_links.{outline, outline_in, stance, stance_in, one_if, at_current, links, Stands, Belongs}
use Rattle.gq_laws.proofs.session_links.Link_free_statements.{stood}
use Rattle.gq_laws.proofs.session_links.Asked_request_changes.{same_phase}
use Rattle.gq_laws.proofs.session_links.Written_world_links.{set_else, slot_stances}
use Rattle.gq_laws.proofs.step_shapes.Step_end_worlds.{closed}
use Rattle.gq_laws.proofs.Outside_step_untouched.{outlined}
use Rattle.gq_laws.specs.Renamed.{renamed_slot, renamed_slot_id, renamed_leaf, renamed_session, renamed_request}
use Rattle.gq_determined.specs.internal.Threads.{Accepts, is_active, among, slots_of, seen, IsAtSame}
use Rattle.gq_determined.proofs.passing_threads.Kept_by_steps.{Aside, other_leaf, other_doing}
use Rattle.gq_determined.proofs.passing_threads.Kept_around.{IsTaken, AreTaken, Match, IsKeptAround}
use Rattle.gq_determined.proofs.regions.Region_changes.{region_leaf, region_released, region_session, region_requests, region_there}
use Rattle.gq_determined.proofs.regions.At_same.{at_leaf, at_going, at_seen, released_seen}
use Rattle.gq_determined.proofs.regions.Outside_region_kept.{current_of, empty_waits, else_leaf, else_released, else_session, else_requests}
use Rattle.gq_determined.proofs.regions.Related_step_worlds.{IsBelow, Ours, Region, Mine, IsRelated, IsRelatedWithin, IsBefore, InRegion, puts, puts_leaf}
use Rattle.gq_determined.proofs.regions.Related_step_worlds.{slot_stays}
use Rattle.gq_determined.proofs.regions.Related_step_worlds.{seen_other, both_none}
use Rattle.gq_determined.proofs.regions.Related_step_worlds.{kept}

-- REQUESTS THAT ARE LEFT

abbrev Found : Type 0
Found = Option (Request × List Request)

module _ (w : World) (x : ℕ) (root : ℕ → ℕ) (y : ℕ) where
  -- where the oldest is of another region
  abbrev Rest : List Request → Found → Type 0
  Rest rs o = (p : Request × List Request) → o ≡ Some p → root p.0.session ≢ y → among root y p.1 ≡ among root y rs

  abbrev Counts : List Request → Found → Type 0
  Counts rs o = (p : Request × List Request) → o ≡ Some p → root p.0.session ≡ y → length (among root y rs) ≡ suc (length (among root y p.1))

  among_out : (r : Request) (rs : List Request) → root r.session ≢ y → among root y (r ∷ rs) ≡ among root y rs
  among_out r rs ne = elim (eqb_tells (root r.session) y) [
    | inl t ↦ absurd (ne t.1)
    | inr t ↦ ap (λ b. cond b (r ∷ among root y rs) (among root y rs)) t.0
  ]

  among_in : (r : Request) (rs : List Request) → root r.session ≡ y → among root y (r ∷ rs) ≡ r ∷ among root y rs
  among_in r rs e = ap (λ b. cond b (r ∷ among root y rs) (among root y rs)) (ap (λ n. n == y) e ∙ equal_self y)

  rest_kept : (r : Request) (rs : List Request) (o : Found) → Rest rs o → Rest (r ∷ rs) (kept_before r o)
  rest_kept r rs None h p e ne = absurd (none_some e)
  rest_kept r rs (Some q) h p e ne =
      let same : (q.0, r ∷ q.1) ≡ p = some_same e in
      ap (λ (p : Request × List Request). among root y p.1) (sym same)
      ∙ ap (λ l. cond (root r.session == y) (r ∷ l) l) (h q refl (λ g. ne (ap (λ (p : Request × List Request). root p.0.session) (sym same) ∙ g)))

  rest_first : (r : Request) (rs : List Request) → Rest (r ∷ rs) (Some (r, rs))
  rest_first r rs p e ne =
      let same : (r, rs) ≡ p = some_same e in
      ap (λ (p : Request × List Request). among root y p.1) (sym same)
      ∙ sym (among_out r rs (λ g. ne (ap (λ (p : Request × List Request). root p.0.session) (sym same) ∙ g)))

  pub oldest_rest : (rs : List Request) → Rest rs (oldest w x rs)
  oldest_rest [] = λ p e ne. absurd (none_some e)
  oldest_rest (r ∷ rs) = by (is_to x (session_at w r.session)) (oldest_rest rs)
    where
      by : (b : Bool) → Rest rs (oldest w x rs) → Rest (r ∷ rs) (cond b (Some (r, rs)) (kept_before r (oldest w x rs)))
      by true h = rest_first r rs
      by false h = rest_kept r rs (oldest w x rs) h

  count_first : (r : Request) (rs : List Request) → Counts (r ∷ rs) (Some (r, rs))
  count_first r rs p e is =
      let same : (r, rs) ≡ p = some_same e in
      ap length (among_in r rs (ap (λ (p : Request × List Request). root p.0.session) same ∙ is))
      ∙ ap (λ (p : Request × List Request). suc (length (among root y p.1))) same

  count_kept : (r : Request) (rs : List Request) (o : Found) → Counts rs o → Counts (r ∷ rs) (kept_before r o)
  count_kept r rs None h p e is = absurd (none_some e)
  count_kept r rs (Some q) h p e is =
      let same : (q.0, r ∷ q.1) ≡ p = some_same e in
      by (root r.session == y) (h q refl (ap (λ (p : Request × List Request). root p.0.session) same ∙ is))
      ∙ ap (λ (p : Request × List Request). suc (length (among root y p.1))) same
    where
      by : (b : Bool) → length (among root y rs) ≡ suc (length (among root y q.1))
          → length (cond b (r ∷ among root y rs) (among root y rs)) ≡ suc (length (cond b (r ∷ among root y q.1) (among root y q.1)))
      by true e = ap suc e
      by false e = e

  pub oldest_counts : (rs : List Request) → Counts rs (oldest w x rs)
  oldest_counts [] = λ p e is. absurd (none_some e)
  oldest_counts (r ∷ rs) = by (is_to x (session_at w r.session)) (oldest_counts rs)
    where
      by : (b : Bool) → Counts rs (oldest w x rs) → Counts (r ∷ rs) (cond b (Some (r, rs)) (kept_before r (oldest w x rs)))
      by true h = count_first r rs
      by false h = count_kept r rs (oldest w x rs) h

  none_of_none : (rs : List Request) → length rs ≡ 0 → rs ≡ []
  none_of_none [] e = refl
  none_of_none (r ∷ rs) e = absurd (omega (arith, e))

  -- where it was the one request of its region
  pub none_left : (p : Request × List Request) (r : Request) → oldest w x w.requests ≡ Some p → root p.0.session ≡ y → among root y w.requests ≡ r ∷ []
      → among root y p.1 ≡ []
  none_left p r found is one =
      let n = oldest_counts w.requests p found is in
      none_of_none (among root y p.1) (omega (arith, n, ap length one))

stance_there : (o : Option Leaf) (current : Option Current) → stance_in o ≡ Some (stance Blocked current)
    → (leaf : Leaf) × (o ≡ Some leaf) × (leaf.phase ≡ Blocked)
stance_there None current e = absurd (none_some e)
stance_there (Some leaf) current e = (leaf, refl, same_phase e)

module _ (f : ℕ → ℕ) (aside : Aside) (d : Doing) (v : World) (i : ℕ) (own root other : ℕ → ℕ) (c : ℕ → Bool)
    (h : IsBefore f aside d v i own root other c) where
  abbrev e : Doing
  e = other_doing f aside d v

  abbrev R : World → World → Type 0
  R = IsRelated f aside d v i own root other c

  -- A CLIENT THAT GOES ON

  resumed_active : (current : Option Current) (reacting : Option ℕ) → resumed current reacting ≡ Blocked → ⊥
  resumed_active None None e = cc
  resumed_active None (Some i) e = cc
  resumed_active (Some current) reacting e = cc

  wakes : (w z : World) (y : ℕ) (go : List ℕ → List ℕ) (leaf : Leaf) → slice_get w.leaves y ≡ Some leaf → leaf.phase ≡ Blocked → c y ≡ true → R w z
      → R (unblocked w y go) (unblocked z y go)
  wakes w z y go leaf there blocked ours k = by (slice_get w.leaves y) (slice_get z.leaves y) refl refl
    where
      at_all : (x : ℕ) → c x ≡ true → IsAtSame f x (unblocked w y go) (unblocked z y go)
      at_all x is = at_going f x w z y go leaf there blocked (k.at y ours) (k.at x is)

      by : (a b : Option Leaf) → slice_get w.leaves y ≡ a → slice_get z.leaves y ≡ b → R (active_again w y go a) (active_again z y go b)
      by None b e g = absurd (none_some (sym e ∙ there))
      by (Some a) None e g = absurd (none_some (sym (both_none seen (λ l. renamed_leaf f (seen l)) _ _ (k.at y ours) g) ∙ e))
      by (Some a) (Some b) e g = record {
        regions = λ x r. region_leaf f own root other x w z y (record a { phase = resumed a.current a.reacting; operands = go a.operands })
            (record b { phase = resumed b.current b.reacting; operands = go b.operands }) (λ same. some_same (
            ap (option_map slots_of) (sym g)
            ∙ ((k.regions x r).slots y same ∙ ap (option_map (λ l. map (renamed_slot f) (slots_of l))) e))) (k.regions x r);
        at = λ x is. subst (λ o. IsAtSame f x (active_again w y go o) (active_again z y go (Some b))) e
            (subst (λ o. IsAtSame f x (unblocked w y go) (active_again z y go o)) g (at_all x is));
        rest = else_leaf d i own root c (Ours f aside d v i own root other c) w y
            (record a { phase = resumed a.current a.reacting; operands = go a.operands }) (record {
              ours = ours;
              current = λ ne o at. ap current_of (some_same (sym e ∙ at));
              slots = λ ne o at. ap slots_of (some_same (sym e ∙ at));
              waits = λ p j at. k.rest.waits (In_leaf y p) j (ap (λ o. leaf_slot o p) e ∙ at);
              blocked = λ same b. absurd (resumed_active a.current a.reacting b);
              mine = λ same busy act. k.rest.mine busy a (ap (slice_get w.leaves) (sym same) ∙ e)
                  (ap is_active (ap (λ (l : Leaf). l.phase) (some_same (sym e ∙ there)) ∙ blocked));
            }) k.rest;
      }

  -- THE CLIENT OF THE SESSION AT HAND

  module _ (g : Current) (s : Session) (at : d.leaf.current ≡ Some g) (there : session_at d.world g.session ≡ Some s) where
    stands_now : (links d.world).stances d.x ≡ Some (stance d.leaf.phase (Some g))
    stands_now = stood d h.takes ∙ ap (λ o. Some (stance d.leaf.phase o)) at

    outlined_there : (links d.world).sessions g.session ≡ Some (outline s)
    outlined_there = ap outline_in there

    server_is : s.server ≡ d.x
    server_is =
        let m = h.linked.handles d.x d.leaf.phase g stands_now in
        ap (λ (s : Session). s.server) (some_same (sym outlined_there ∙ m.1)) ∙ m.2

    current_one : at_current g.session ((links d.world).stances s.server) ≡ 1
    current_one = ap (λ y. at_current g.session ((links d.world).stances y)) server_is
        ∙ (ap (at_current g.session) stands_now ∙ ap one_if (equal_self g.session))

    client_waits : (current : Option Current) × ((links d.world).stances s.client ≡ Some (stance Blocked current))
    client_waits = by (h.linked.stands g.session (outline s) outlined_there)
      where
        by : Stands (links d.world) g.session (outline s) → (current : Option Current) × ((links d.world).stances s.client ≡ Some (stance Blocked current))
        by (inl a) = let none = a.2 in let one = current_one in absurd (omega (arith, none, one))
        by (inr a) = h.linked.waits g.session (outline s) outlined_there a.0

    client_else : s.client ≢ d.x
    client_else same = h.active (same_phase (sym stands_now ∙ (ap (links d.world).stances (sym same) ∙ client_waits.1)))

    -- its slot is of the thread's region
    slot_id_region : (w : World) → ((k : ℕ) (t : Session) → session_at d.world k ≡ Some t → (u : Session) × (session_at w k ≡ Some u))
        → InRegion f aside d v i own root other c h w s.slot_id
    slot_id_region w stay = by s.slot_id (h.below g.session s there) (h.linked.belongs g.session (outline s) outlined_there)
      where
        by : (q : SlotId) → IsBelow own root g.session q → Belongs (links d.world) q s.client → InRegion f aside d v i own root other c h w q
        by (In_leaf y a) below b = (sym below ∙ h.current g at, ap c b ∙ h.client g s at there)
        by (In_session j a) below b =
            let t = outlined (session_at d.world j) b.0 b.1 in (sym below ∙ h.current g at, stay j t.0 t.1)
        by (In_object j) below b = absurd b

    abbrev served : World
    served = standing d (serving d.leaf)

    abbrev served_v : World
    served_v = standing e (serving e.leaf)

    served_related : R served served_v
    served_related = puts_leaf f aside d v i own root other c h d.world v (serving d.leaf) (serving e.leaf) refl refl refl (λ b. absurd (serving_active b))
        (λ busy act. absurd (true≢false (sym act))) h.related
      where
        serving_active : Serving ≡ Blocked → ⊥
        serving_active e = cc

    module _ (slot : Slot) (none : (k : ℕ) → slot ≡ Waiting k → ⊥) where
      abbrev put : World
      put = with_slot served s.slot_id slot

      abbrev put_v : World
      put_v = with_slot served_v (renamed_slot_id f s.slot_id) (renamed_slot f slot)

      put_related : R put put_v
      put_related = puts f aside d v i own root other c h served served_v s.slot_id slot (slot_id_region served (λ k t e. (t, e))) (inl none) served_related

      put_stance : stance_in (slice_get put.leaves s.client) ≡ Some (stance Blocked client_waits.0)
      put_stance = slot_stances served s.slot_id slot s.client
          ∙ (ap stance_in (set_else d.world.leaves d.x s.client (serving d.leaf) client_else) ∙ client_waits.1)

      pub woken : (w z : World) → w.leaves ≡ put.leaves → R w z → (go : List ℕ → List ℕ) → R (unblocked w s.client go) (unblocked z s.client go)
      woken w z same k go =
          let l = stance_there (slice_get w.leaves s.client) client_waits.0 (ap (λ leaves. stance_in (slice_get leaves s.client)) same ∙ put_stance) in
          wakes w z s.client go l.0 l.1 l.2 (h.client g s at there) k

    answers : (go : List ℕ → List ℕ) → R (unblocked (with_slot served s.slot_id (Link g.session)) s.client go)
        (unblocked (with_slot served_v (renamed_slot_id f s.slot_id) (Link (f g.session))) s.client go)
    answers go = woken (Link g.session) link_waits _ _ refl (put_related (Link g.session) link_waits) go
      where
        link_waits : (k : ℕ) → Link g.session ≡ Waiting k → ⊥
        link_waits k e = cc

    closes : R (closed d g.session s) (closed e (f g.session) (renamed_session f s))
    closes =
        let w = put Empty never in
        let z = put_v Empty never in
        let k = put_related Empty never in
        let t = slot_stays served s.slot_id Empty g.session s there in
        let m = region_there f own root other i w z g.session t.0 (h.current g at) t.1 (k.regions i (inl refl)) in
        woken Empty never (record w { sessions = slice_set w.sessions g.session None }) (record z { sessions = slice_set z.sessions (f g.session) None })
        refl (record {
          regions = λ y r. region_session f own root other y w z g.session t.0 None m.1 t.1 m.0 (k.regions y r);
          at = k.at;
          rest = else_session d i own root c (Ours f aside d v i own root other c) w g.session None (record {
            ours = h.current g at;
            was = t.0;
            there = t.1;
            slot_id = λ u e. absurd (none_some e);
            server = λ u e. absurd (none_some e);
            slots = λ u e. absurd (none_some e);
            object = λ u e. absurd (none_some e);
          }) k.rest;
        }) (λ operands. operands)
      where
        never : (k : ℕ) → Empty ≡ Waiting k → ⊥
        never k e = cc

  -- A REQUEST THAT IS TAKEN

  abbrev M : ℕ → Type 0
  M = Mine f aside d v i own root other c

  abbrev O : SlotId → Type 0
  O = Ours f aside d v i own root other c

  abbrev K : World → World → Type 0
  K = IsRelatedWithin f aside d v i own root other c

  -- the request is the one of the thread
  pub record IsOne (p : Request × List Request) : Type 0 where
    pub ours : root p.0.session ≡ i
    pub one : Request
    pub alone : among root i d.world.requests ≡ one ∷ []

  takes : (p q : Request × List Request) (leaf : Leaf) (s : Session) (t : AreTaken f aside d v K R M O p q) → IsOne p → leaf.slots ≡ d.leaf.slots
      → leaf.phase ≡ Handling → ((section : Section) × (leaf.current ≡ Some (record { session = p.0.session; section = section }))) → IsTaken t.session s
      → R (with_session (record (standing d leaf) { requests = p.1 }) p.0.session s)
      (with_session (record (standing e (other_leaf f aside d v leaf)) { requests = q.1 }) (f p.0.session) (renamed_session f s))
  takes p q leaf s t o slots phase current taken =
      let stood = puts_leaf f aside d v i own root other c h d.world v leaf (other_leaf f aside d v leaf) slots refl seen_same
      (λ b. absurd (handling_active (sym phase ∙ b))) (λ busy act. absurd (busy t.serves)) h.related in
      let asked : R (record (standing d leaf) { requests = p.1 }) (record (standing e (other_leaf f aside d v leaf)) { requests = q.1 }) = record {
        regions = λ y r. region_requests f own root other y (standing d leaf) (standing e (other_leaf f aside d v leaf)) p.1 q.1 (left y r)
            (stood.regions y r);
        at = stood.at;
        rest = else_requests d i own root c O (standing d leaf) p.1
            (λ y ne. oldest_rest d.world d.x root y d.world.requests p t.first (λ same. ne (sym same ∙ o.ours)))
            (record {
              base = p.1;
              more = [];
              is = sym (append-nil p.1);
              from = inr (record { serves = t.serves; taken = p; found = t.first; rest = refl });
            }) stood.rest;
      } in
      record {
        regions = λ y r. region_session f own root other y (record (standing d leaf) { requests = p.1 })
            (record (standing e (other_leaf f aside d v leaf)) { requests = q.1 }) p.0.session t.session (Some s) m.1 t.there m.0 (asked.regions y r);
        at = asked.at;
        rest = else_session d i own root c O (record (standing d leaf) { requests = p.1 }) p.0.session (Some s) (record {
          ours = o.ours;
          was = t.session;
          there = t.there;
          slot_id = λ u e. ap (λ (s : Session). s.slot_id) (sym (some_same e)) ∙ taken.slot_id;
          server = λ u e. ap (λ (s : Session). s.server) (sym (some_same e)) ∙ taken.server;
          slots = λ u e b j at. inl (ap (λ o. session_slot o b) t.there
              ∙ (ap (λ l. slice_get l b) (sym taken.slots ∙ ap (λ (s : Session). s.slots) (some_same e)) ∙ at));
          object = λ u e j at. inl (ap session_object t.there ∙ ap Some (taken.object j (ap (λ (s : Session). s.object) (some_same e) ∙ at)));
        }) asked.rest;
      }
    where
      handling_active : Handling ≡ Blocked → ⊥
      handling_active e = cc

      seen_same : seen (other_leaf f aside d v leaf) ≡ renamed_leaf f (seen leaf)
      seen_same = seen_other f aside d v leaf

      m : (session_at v (f p.0.session) ≡ Some (renamed_session f t.session)) × (other (f p.0.session) ≡ root p.0.session)
      m = region_there f own root other i d.world v p.0.session t.session o.ours t.there (h.related.regions i (inl refl))

      other_is : other q.0.session ≡ i
      other_is = ap (λ (r : Request). other r.session) t.same ∙ (m.1 ∙ o.ours)

      left : (y : ℕ) → Region f aside d v i own root other c y → among other y q.1 ≡ map (renamed_request f) (among root y p.1)
      left y r = elim (eqb_tells y i) [
        | inl g ↦
            none_left v d.x other y q (renamed_request f o.one) t.other (other_is ∙ sym g.1)
            ((h.related.regions y r).requests ∙ ap (map (renamed_request f)) (ap (λ y. among root y d.world.requests) g.1 ∙ o.alone))
            ∙ ap (map (renamed_request f)) (sym (none_left d.world d.x root y p o.one t.first (o.ours ∙ sym g.1)
            (ap (λ y. among root y d.world.requests) g.1 ∙ o.alone)))
        | inr g ↦
            oldest_rest v d.x other y v.requests q t.other (λ same. g.1 (sym same ∙ other_is))
            ∙ ((h.related.regions y r).requests
            ∙ ap (map (renamed_request f)) (sym (oldest_rest d.world d.x root y d.world.requests p t.first (λ same. g.1 (sym same ∙ o.ours)))))
      ]

  -- THE END OF `main`

  exits : d.leaf.current ≡ None → (d.leaf.phase ≡ Serving → ⊥) → R (exit_of d) (exit_of e)
  exits at busy = record {
    regions = λ y r. region_released f own root other y (standing d (exited d.leaf)) (standing e (exited e.leaf)) d.component.node.name d.system.components
        (gone.regions y r);
    at = λ y ours. at_seen f y (standing d (exited d.leaf)) (standing e (exited e.leaf)) (exit_of d) (exit_of e)
        (released_seen d.component.node.name d.system.components (standing d (exited d.leaf)).leaves y)
        (released_seen d.component.node.name d.system.components (standing e (exited e.leaf)).leaves y) (gone.at y ours);
    rest = else_released d i own root c O (standing d (exited d.leaf)) d.component.node.name d.system.components gone.rest;
  }
    where
      exited_active : Exited ≡ Blocked → ⊥
      exited_active e = cc

      gone : R (standing d (exited d.leaf)) (standing e (exited e.leaf))
      gone = record {
        regions = λ y r. region_leaf f own root other y d.world v d.x (exited d.leaf) (exited e.leaf) (λ same. refl) (h.related.regions y r);
        at = λ y ours. at_leaf f y d.world v d.x (exited d.leaf) (exited e.leaf) (λ same. refl) (h.related.at y ours);
        rest = else_leaf d i own root c O d.world d.x (exited d.leaf) (record {
          ours = h.here;
          current = λ ne o there. absurd (ne refl);
          slots = λ ne o there. absurd (ne (h.main at (λ a. busy a.0)));
          waits = λ a k there. absurd (empty_waits 64 a k there);
          blocked = λ same b. absurd (exited_active b);
          mine = λ same busy act. absurd (true≢false (sym act));
        }) h.related.rest;
      }

  -- TOGETHER

  pub kept_around : (Accepts d.leaf → Match f aside d v K R M O (oldest d.world d.x d.world.requests) (oldest v d.x v.requests))
      → (Accepts d.leaf → (p : Request × List Request) → oldest d.world d.x d.world.requests ≡ Some p → IsOne p) → IsKeptAround f aside d v K R M O
  kept_around matches ones = record {
    within = kept f aside d v i own root other c h;
    over = λ w z k. k.related;
    matches = matches;
    take = λ p q leaf s t slots phase current taken. takes p q leaf s t (ones t.serves p t.first) slots phase current taken;
    answer = λ g s go at there. answers g s at there go;
    close = λ g s at there. closes g s at there;
    exit = exits;
  }
