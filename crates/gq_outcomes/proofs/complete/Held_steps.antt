-- A step for a thread: another thread has what it had, and in two worlds in which this one has the same it has the same again.
use Rattle.std.proofs.Common.{◌≡◌, ◌≢◌, ◌⊎◌, ◌≤◌, inl, inr, ℕ, zero, suc, ◌+◌, ◌==◌, ◌&&◌, ◌||◌, Bool, true, false, cond, List, [], ◌∷◌, length, map}
use Rattle.std.proofs.Common.{Option, Some, None, Ok, refl, ap, sym, ◌∙◌, subst, arith}
use Rattle.std.specs.Prelude.{slice_get}
use Rattle.std.proofs.lemmas.Bool.{true≢false}
use Rattle.std.proofs.lemmas.Bool.Decides.{eqb_tells}
use Rattle.std.proofs.lemmas.Option.{slice_get_within}
use Rattle.gq_model.specs.declared.phase.Phase.TheVariants.{Blocked}
use Rattle.gq_model.specs.machine.Doing.{Event}
use Rattle.gq_model.specs.machine.Scenario.{Component, System}
use Rattle.gq_model.specs.machine.Step.{first_signal, next}
use Rattle.gq_model.specs.machine.Sums.{paid}
use Rattle.gq_model.specs.machine.World.{SlotId, In_leaf, In_session, In_object, Session, Request, Current, Leaf, World, session_at}
use Rattle.gq_model.proofs.Small_facts.{equal_self}
use Rattle.gq_laws.specs.Shapes.{Each}
use Rattle.gq_laws.specs.Session_links.{Belongs, links, one_if, outline, outline_in, requests_of, stance, stance_in}
use Rattle.gq_laws.specs.Renamed.{renamed_request, renamed_session, renamed_slot_id}
use Rattle.gq_laws.specs.internal.Corresponding.{Correspond}
use Rattle.gq_laws.proofs.Outside_step_untouched.{outlined}
use Rattle.gq_laws.proofs.verified_programs.Use_chains.{Uses, Chain, chain_short}
use Rattle.gq_determined.specs.internal.Threads.{Tracked, among, anew, has_work, is_active, stepped_to, thread_by, who, within, works, works_for}
use Rattle.gq_determined.specs.internal.Threads.{IsSameThread}
use Rattle.gq_determined.proofs.regions.Region_changes.{within_there, within_here}
use Rattle.gq_determined.proofs.thread_positions.Single_thread_position.{IsPlaced, IsWaiting, handled}
use Rattle.gq_determined.proofs.thread_positions.Turn_thread_position.{IsServing, IsWorking, ServesSame, requested_by, same_place, who_is}
use Rattle.gq_determined.proofs.thread_positions.First_request_given.{equal_of, x_else}
use Rattle.gq_determined.proofs.thread_positions.Thread_step_ready.{given_both}
use Rattle.gq_determined.proofs.thread_steps.Own_steps.{anew_else, anew_here}
use Rattle.gq_determined.proofs.thread_steps.Paired_thread_step.{go, same_after}
use Rattle.gq_determined.proofs.thread_steps.Stateless_thread_agreement.{ReadSame, BothGo}
use Rattle.gq_determined.proofs.thread_steps.Thread_step_frame.{active_works, unseen_left, unseen_right, thread_new}
use Rattle.gq_outcomes.proofs.complete.Held_worlds.{AreQuiet, Held, IsBased, IsHeld, IsReady, active_in, after, base_at, freed, given_of, holding, m1, m2}
use Rattle.gq_outcomes.proofs.complete.Held_worlds.{b0, b3, calm2, hold_else, not_x, one, parting, placed2, based2, ready, root_kept, roots, serving_in}
use Rattle.gq_outcomes.proofs.complete.Held_worlds.{is_serving}
use Rattle.gq_outcomes.proofs.complete.Held_worlds.{still1, taken, turn, view, idle_blocked, root_else}
use Rattle.gq_outcomes.proofs.complete.Unsubmitted_signals.{Unsubmitted, active_at, goes_on, works_as}

-- THE SAME, WITH EQUAL ROOTS

abbrev tracked : World → (ℕ → ℕ) → (ℕ → ℕ) → Tracked
tracked w root own = record { world = w; root = root; own = own; wrote = λ y. [] }

-- threads of views whose roots are equal to those of worlds that showed more
thread_as : (j : ℕ) (g h : Tracked) (r o : ℕ → ℕ) → g.root ≡ r → h.root ≡ o → IsSameThread j g h
    → IsSameThread j (tracked g.world r g.own) (tracked h.world o h.own)
thread_as j g h r o p q s =
    let t = subst (λ r. IsSameThread j (record { world = g.world; root = r; own = g.own; wrote = g.wrote }) h) p s in
    let v = subst (λ o. IsSameThread j (record { world = g.world; root = r; own = g.own; wrote = g.wrote })
    (record { world = h.world; root = o; own = h.own; wrote = h.wrote })) q t in
    record { f = v.f; owned = v.owned; leaves = v.leaves; alike = v.alike; region = v.region; wrote = λ y is. refl }

-- HOW DEEP SESSIONS STAND

module _ (u : System) (g : Tracked) (t : IsPlaced u g) where
  abbrev pub Deep : ℕ → ℕ → Type 0
  Deep zero k = (s : Session) × (session_at g.world k ≡ Some s) × ((y : ℕ) × (a : ℕ) × (s.slot_id ≡ In_leaf y a))
  Deep (suc n) k = (s : Session) × (session_at g.world k ≡ Some s) × ((j : ℕ) × (a : ℕ) × (s.slot_id ≡ In_session j a) × Deep n j)

  climb : (fuel k : ℕ) (s : Session) (rest : List ℕ) → session_at g.world k ≡ Some s → Chain u s.client rest → length u.components ≤ fuel + length rest
      → (n : ℕ) × Deep n k
  climb zero k s rest at chain enough = let short = chain_short u t.acyclic s.client rest chain in absurd (omega (arith, short, enough))
  climb (suc fuel) k s rest at chain enough =
      by s.slot_id refl (t.linked.belongs k (outline s) (ap outline_in at)) (λ j p e c. climb fuel j p (s.client ∷ rest) e c (omega (arith, enough)))
    where
      by : (q : SlotId) → s.slot_id ≡ q → Belongs (links g.world) q s.client
          → ((j : ℕ) (p : Session) → session_at g.world j ≡ Some p → Chain u p.client (s.client ∷ rest) → (n : ℕ) × Deep n j) → (n : ℕ) × Deep n k
      by (In_leaf y a) is b up = (zero, (s, at, (y, a, is)))
      by (In_session j a) is b up =
          let p = outlined (session_at g.world j) b.0 b.1 in
          let server : p.0.server ≡ s.client = ap (λ (s : Session). s.server) p.2 ∙ b.3 in
          let r = up j p.0 p.1 (subst (Uses u p.0.client) server (t.uses j p.0 p.1), chain) in (suc r.0, (s, at, (j, a, is, r.1)))
      by (In_object j) is b up = absurd b

  pub deep : (k : ℕ) (s : Session) → session_at g.world k ≡ Some s → (n : ℕ) × Deep n k
  deep k s at =
      let r = t.uses k s at in climb (length u.components) k s [] at (slice_get_within u.components s.client r.0 r.1) (omega arith)

-- requests are of sessions that wait
module _ (u : System) (g : Tracked) (t : IsPlaced u g) (P : Request → Type 0) (of : (k : ℕ) → IsWaiting u g t k → (r : Request) → r.session ≡ k → P r) where
  requests_so : (rs : List Request) → ((r : Request) → (requests_of r.session rs ≡ 0 → ⊥) → (requests_of r.session g.world.requests ≡ 0 → ⊥)) → Each P rs
  requests_so [] sub = tt
  requests_so (r ∷ rs) sub = (
    of r.session (requested_by u g t r.session (sub r (λ none.
        (let one : one_if (r.session == r.session) ≡ 1 = ap one_if (equal_self r.session) in omega (arith, none, one))))).waiting r refl,
    requests_so rs (λ q more. sub q (λ none. more (omega (arith, none)))),
  )

  pub each_request : Each P g.world.requests
  each_request = requests_so g.world.requests (λ r more. more)

-- ONE STEP

module _ (u : System) (pays : (z : World) → paid u z ≡ true) (holds : ℕ → Bool) (m : Held) (h : IsHeld u holds m)
    (quiet : AreQuiet holds m.world) (i x : ℕ) (is : who (view m) x ≡ Some i) (component : Component)
    (there_c : slice_get u.components x ≡ Some component) (new : World) (event : Event) (stepped : next u m.world x ≡ Ok (new, event))
    (uses : (k : ℕ) (s : Session) → session_at new k ≡ Some s → Uses u s.client s.server) where
  abbrev r0 : IsReady u holds m h quiet i x is (b0 u holds m h quiet i x is)
  r0 = ready u holds m h quiet i x is

  abbrev n1 : Held
  n1 = m1 u holds m h quiet i x is

  abbrev n2 : Held
  n2 = m2 u holds m h quiet i x is pays component there_c new event stepped uses

  abbrev act : Bool
  act = b3 u holds m h quiet i x is pays component there_c new event stepped uses

  -- the leaf that takes a step is the thread's, or is never held
  pub hold_either : (n1.hold x ≡ i) ⊎ ((holds x ≡ false) × (n1.hold x ≡ x))
  hold_either = by (who_is (view n1) i x r0.who_is_i)
    where
      by : IsWorking (view n1) i x ⊎ IsServing (view n1) i x → (n1.hold x ≡ i) ⊎ ((holds x ≡ false) × (n1.hold x ≡ x))
      by (inr p) = elim (r0.takes p.leaf p.there p.serves).1 [ inl e ↦ inl e | inr off ↦ inr (off, r0.free x off) ]
      by (inl w) = of w.at.leaf.current refl (holds x) refl
        where
          of : (current : Option Current) → w.at.leaf.current ≡ current → (b : Bool) → holds x ≡ b
              → (n1.hold x ≡ i) ⊎ ((holds x ≡ false) × (n1.hold x ≡ x))
          of current e false off = inr (off, r0.free x off)
          of None e true can =
              let same : x ≡ i = sym (ap (thread_by (view n1).root x) e) ∙ w.at.thread in
              inl (r0.placed.main x w.at.leaf.phase (ap stance_in w.at.there ∙ ap (λ o. Some (stance w.at.leaf.phase o)) e)
              (active_at w.at.leaf.phase (goes_on (view n1) h.calm i x w)) ∙ same)
          of (Some q) e true can =
              let stood = ap stance_in w.at.there ∙ ap (λ o. Some (stance w.at.leaf.phase o)) e in
              inl (r0.placed.held x w.at.leaf.phase q stood (r0.busy x w.at.leaf.phase q can stood)
              ∙ (sym (ap (thread_by (view n1).root x) e) ∙ w.at.thread))

  pub hold_i : holds x ≡ true → n1.hold x ≡ i
  hold_i can = elim hold_either [ inl e ↦ e | inr q ↦ absurd (true≢false (sym can ∙ q.0)) ]

  -- the step itself, for another thread
  stepped_left : (j : ℕ) → j ≢ i → (o : Held) → IsSameThread j (view n1) (view o) → IsSameThread j (view n2) (view o)
  stepped_left j ne o s =
      let s1 = one u holds m h quiet i x is pays component there_c new event stepped uses in
      thread_as j (stepped_to (view n1) x i (Ok (new, event))) (view o) (view n2).root (view o).root
      (roots u holds m h quiet i x is pays component there_c new event stepped uses) refl
      (unseen_left u (view n1) r0.placed i x component s1.a s1.there new s1.done event (view o) j ne s)

  stepped_right : (j : ℕ) → j ≢ i → (o : Held) → IsSameThread j (view o) (view n1) → IsSameThread j (view o) (view n2)
  stepped_right j ne o s =
      let s1 = one u holds m h quiet i x is pays component there_c new event stepped uses in
      thread_as j (view o) (stepped_to (view n1) x i (Ok (new, event))) (view o).root (view n2).root refl
      (roots u holds m h quiet i x is pays component there_c new event stepped uses)
      (unseen_right u (view n1) r0.placed i x component s1.a s1.there new s1.done event (view o) j ne s)

  module _ (idle : act ≡ false) where
    abbrev n3 : Held
    n3 = parting n2 x false

    else_x : (y : ℕ) → y ≢ x → n3.hold y ≡ n1.hold y
    else_x = hold_else u holds m h quiet i x is pays component there_c new event stepped uses idle

    kept_root : (k : ℕ) → IsWaiting u (view n2) (placed2 u holds m h quiet i x is pays component there_c new event stepped uses) k
        → n3.hold (n2.base k) ≡ n1.hold (n2.base k)
    kept_root = root_kept u holds m h quiet i x is pays component there_c new event stepped uses idle

    abbrev t2 : IsPlaced u (view n2)
    t2 = placed2 u holds m h quiet i x is pays component there_c new event stepped uses

    -- whom leaves work for
    pub works_kept : (j y : ℕ) → works (view n3) j y ≡ works (view n2) j y
    works_kept j y = by (slice_get new.leaves y) refl
      where
        of : (l : Leaf) → slice_get new.leaves y ≡ Some l → (current : Option Current) → l.current ≡ current
            → thread_by (view n3).root y current ≡ thread_by (view n2).root y current
        of l at None e = refl
        of l at (Some q) e =
            kept_root q.session (handled u (view n2) t2 y l.phase q (ap stance_in at ∙ ap (λ o. Some (stance l.phase o)) e)).waiting

        by : (o : Option Leaf) → slice_get new.leaves y ≡ o → works_for (view n3).root j y o ≡ works_for (view n2).root j y o
        by None e = refl
        by (Some l) e = ap (λ n. has_work l.phase (first_signal l.signals) && (n == j)) (of l e l.current refl)

    pub among_kept : (j : ℕ) → among (view n3).root j new.requests ≡ among (view n2).root j new.requests
    among_kept j = by new.requests (each_request u (view n2) t2 (λ r. (view n3).root r.session ≡ (view n2).root r.session)
        (λ k w r e. subst (λ k. (view n3).root k ≡ (view n2).root k) (sym e) (kept_root k w)))
      where
        by : (rs : List Request) → Each (λ r. (view n3).root r.session ≡ (view n2).root r.session) rs → among (view n3).root j rs ≡ among (view n2).root j rs
        by [] each = refl
        by (r ∷ rs) each = λ e. cond (each.0 e == j) (r ∷ by rs each.1 e) (by rs each.1 e)

    unequal : (a b : ℕ) → a ≢ b → (a == b) ≡ false
    unequal a b ne = elim (eqb_tells a b) [ inl q ↦ absurd (ne q.1) | inr q ↦ q.0 ]

    -- what is of another thread is so still
    test_kept : (j : ℕ) → j ≢ i → j ≢ x → (y : ℕ) → (n3.hold y == j) ≡ (n1.hold y == j)
    test_kept j ne nx y =
        let hold_x : (n1.hold x == j) ≡ false = elim hold_either [
          | inl e ↦ ap (λ n. n == j) e ∙ unequal i j (λ e. ne (sym e))
          | inr q ↦ ap (λ n. n == j) q.1 ∙ unequal x j (λ e. nx (sym e))
        ] in
        elim (eqb_tells y x) [
          | inl e ↦
              ap (λ z. n3.hold z == j) e.1 ∙ (ap (λ n. n == j) (anew_here n1.hold x x) ∙ (unequal x j (λ e. nx (sym e))
              ∙ sym (ap (λ z. n1.hold z == j) e.1 ∙ hold_x)))
          | inr e ↦ ap (λ n. n == j) (else_x y e.1)
        ]

    back_kept : (j : ℕ) → j ≢ i → j ≢ x → (y : ℕ) → n3.hold y ≡ j → n1.hold y ≡ j
    back_kept j ne nx y e = equal_of (n1.hold y) j (sym (test_kept j ne nx y) ∙ (ap (λ n. n == j) e ∙ equal_self j))

    within_kept : (j : ℕ) → j ≢ i → j ≢ x → within (view n3).root j new.sessions ≡ within (view n2).root j new.sessions
    within_kept j ne nx = λ e k. cond (test_kept j ne nx (n2.base k) e) (session_at new k) None

    parted_left : (j : ℕ) → j ≢ i → j ≢ x → (o : Held) → IsSameThread j (view n2) (view o) → IsSameThread j (view n3) (view o)
    parted_left j ne nx o s = record {
      f = s.f;
      owned = λ y. test_kept j ne nx y ∙ s.owned y;
      leaves = λ y. works_kept j y ∙ s.leaves y;
      alike = λ y w. s.alike y (sym (works_kept j y) ∙ w);
      region = record {
        slots = λ y e. s.region.slots y (back_kept j ne nx y e);
        sessions = subst (λ a. Correspond s.f a (within (view o).root j o.world.sessions)) (sym (within_kept j ne nx)) s.region.sessions;
        requests = s.region.requests ∙ ap (map (renamed_request s.f)) (sym (among_kept j));
      };
      wrote = λ y e. refl;
    }

    parted_right : (j : ℕ) → j ≢ i → j ≢ x → (o : Held) → IsSameThread j (view o) (view n2) → IsSameThread j (view o) (view n3)
    parted_right j ne nx o s = record {
      f = s.f;
      owned = λ y. s.owned y ∙ sym (test_kept j ne nx y);
      leaves = λ y. s.leaves y ∙ sym (works_kept j y);
      alike = s.alike;
      region = record {
        slots = s.region.slots;
        sessions = subst (λ a. Correspond s.f (within (view o).root j o.world.sessions) a) (sym (within_kept j ne nx)) s.region.sessions;
        requests = among_kept j ∙ s.region.requests;
      };
      wrote = λ y e. refl;
    }

  left_by : (b : Bool) → act ≡ b → (j : ℕ) → j ≢ i → j ≢ x → (o : Held) → IsSameThread j (view n2) (view o) → IsSameThread j (view (parting n2 x b)) (view o)
  left_by true e j ne nx o s = s
  left_by false e j ne nx o s = parted_left e j ne nx o s

  right_by : (b : Bool) → act ≡ b → (j : ℕ) → j ≢ i → j ≢ x → (o : Held) → IsSameThread j (view o) (view n2) → IsSameThread j (view o) (view (parting n2 x b))
  right_by true e j ne nx o s = s
  right_by false e j ne nx o s = parted_right e j ne nx o s

  -- another thread has what it had
  pub else_left : (j : ℕ) → j ≢ i → j ≢ x → (o : Held) → IsSameThread j (view m) (view o) → IsSameThread j (view (turn holds m x i new)) (view o)
  else_left j ne nx o s = left_by act refl j ne nx o (stepped_left j ne o (r0.left j ne nx (view o) s))

  pub else_right : (j : ℕ) → j ≢ i → j ≢ x → (o : Held) → IsSameThread j (view o) (view m) → IsSameThread j (view o) (view (turn holds m x i new))
  else_right j ne nx o s = right_by act refl j ne nx o (stepped_right j ne o (r0.right j ne nx (view o) s))

  -- where the leaf is never held, each other thread has what it had, this leaf's as well
  module _ (off : holds x ≡ false) where
    none_moves : b0 u holds m h quiet i x is ≡ false
    none_moves = ap (λ c. serving_in (slice_get m.world.leaves x) && c) off ∙ none (serving_in (slice_get m.world.leaves x))
      where
        none : (a : Bool) → (a && false) ≡ false
        none true = refl
        none false = refl

    parts : (a : Bool) (f : ℕ → ℕ) → f x ≡ x → f ≡ freed a x f
    parts true f e = refl
    parts false f e = λ j y. point y j
      where
        point : (y : ℕ) → f y ≡ anew f x x y
        point y = elim (eqb_tells y x) [
          | inl t ↦ ap f t.1 ∙ (e ∙ sym (ap (anew f x x) t.1 ∙ anew_here f x x))
          | inr t ↦ sym (anew_else f x x y t.1)
        ]

    abbrev holders : (ℕ → ℕ) → Held
    holders f = record { world = n2.world; base = n2.base; hold = f }

    pub never_left : (j : ℕ) → j ≢ i → (o : Held) → IsSameThread j (view m) (view o) → IsSameThread j (view (turn holds m x i new)) (view o)
    never_left j ne o s =
        subst (λ f. IsSameThread j (view (holders f)) (view o)) (parts act n1.hold (r0.free x off))
        (stepped_left j ne o (subst (λ b. IsSameThread j (view (holding m x i b)) (view o)) (sym none_moves) s))

    pub never_right : (j : ℕ) → j ≢ i → (o : Held) → IsSameThread j (view o) (view m) → IsSameThread j (view o) (view (turn holds m x i new))
    never_right j ne o s =
        subst (λ f. IsSameThread j (view o) (view (holders f))) (parts act n1.hold (r0.free x off))
        (stepped_right j ne o (subst (λ b. IsSameThread j (view o) (view (holding m x i b))) (sym none_moves) s))

    -- and each leaf the holder that it had
    pub never_hold : m.hold ≡ (turn holds m x i new).hold
    never_hold =
        subst (λ b. m.hold ≡ (holding m x i b).hold) (sym none_moves) refl ∙ parts act n1.hold (r0.free x off)

  -- the leaf goes on just where it works for the thread
  works_act : act ≡ works (view n2) i x
  works_act = by (slice_get new.leaves x) refl
    where
      calm : Unsubmitted new
      calm = calm2 u holds m h quiet i x is pays component there_c new event stepped uses

      thread : (l : Leaf) → slice_get new.leaves x ≡ Some l → is_active l.phase ≡ true → thread_by (view n2).root x l.current ≡ i
      thread l at e =
          let s1 = one u holds m h quiet i x is pays component there_c new event stepped uses in
          ap (λ (r : ℕ → ℕ). thread_by r x l.current) (sym (roots u holds m h quiet i x is pays component there_c new event stepped uses))
          ∙ thread_new u (view n1) r0.placed i x component s1.a s1.there new s1.done x (here (works (view n1) i x) (equal_self x)) l at
          (active_works l.phase (first_signal l.signals) e)
        where
          here : (a : Bool) {b : Bool} → b ≡ true → (a || b) ≡ true
          here true e = refl
          here false e = e

      of : (l : Leaf) → slice_get new.leaves x ≡ Some l → (b : Bool) → is_active l.phase ≡ b
          → is_active l.phase ≡ (is_active l.phase && (thread_by (view n2).root x l.current == i))
      of l at false f = f ∙ sym (ap (λ b. b && (thread_by (view n2).root x l.current == i)) f)
      of l at true f = f ∙ sym ((λ e. f e && (thread l at f e == i)) ∙ equal_self i)

      by : (o : Option Leaf) → slice_get new.leaves x ≡ o → active_in o ≡ works_for (view n2).root i x o
      by None e = refl
      by (Some l) e =
          of l e (is_active l.phase) refl
          ∙ ap (λ b. b && (thread_by (view n2).root x l.current == i)) (sym (works_as l (calm.none x l e)))

-- THE SAME STEP IN TWO WORLDS

module _ (u : System) (pays : (z : World) → paid u z ≡ true) (holds : ℕ → Bool) (m n : Held) (h : IsHeld u holds m)
    (g : IsHeld u holds n) (quiet : AreQuiet holds m.world) (quiet_n : AreQuiet holds n.world) (i x : ℕ) (is : who (view m) x ≡ Some i)
    (is_n : who (view n) x ≡ Some i) (s : IsSameThread i (view m) (view n))
    (sx : m.hold x ≡ x → n.hold x ≡ x → x ≢ i → IsSameThread x (view m) (view n)) (reads : ReadSame m.world n.world) (component : Component)
    (there_c : slice_get u.components x ≡ Some component) (new : World) (event : Event) (stepped : next u m.world x ≡ Ok (new, event))
    (uses : (k : ℕ) (t : Session) → session_at new k ≡ Some t → Uses u t.client t.server) where
  abbrev rm : IsReady u holds m h quiet i x is (b0 u holds m h quiet i x is)
  rm = ready u holds m h quiet i x is

  abbrev rn : IsReady u holds n g quiet_n i x is_n (b0 u holds n g quiet_n i x is_n)
  rn = ready u holds n g quiet_n i x is_n

  abbrev m_1 : Held
  m_1 = taken holds m x i

  abbrev n_1 : Held
  n_1 = taken holds n x i

  -- before the step
  pub thread1 : IsSameThread i (view m_1) (view n_1)
  thread1 = by (same_place u (view m) (view n) h.placed g.placed i s x x is is_n).how
    where
      serves : (p : IsServing (view m) i x) → (serving_in (slice_get m.world.leaves x) && holds x) ≡ holds x
      serves p = ap (λ a. a && holds x) (ap serving_in p.there ∙ ap is_serving p.serves)

      serves_n : (p : IsServing (view n) i x) → (serving_in (slice_get n.world.leaves x) && holds x) ≡ holds x
      serves_n p = ap (λ a. a && holds x) (ap serving_in p.there ∙ ap is_serving p.serves)

      works_m : (w : IsWorking (view m) i x) → (serving_in (slice_get m.world.leaves x) && holds x) ≡ false
      works_m w = ap (λ a. a && holds x) (ap serving_in w.at.there ∙ elim (goes_on (view m) h.calm i x w) [ inl r ↦ ap is_serving r | inr r ↦ ap is_serving r ])

      works_n : (w : IsWorking (view n) i x) → (serving_in (slice_get n.world.leaves x) && holds x) ≡ false
      works_n w = ap (λ a. a && holds x) (ap serving_in w.at.there ∙ elim (goes_on (view n) g.calm i x w) [ inl r ↦ ap is_serving r | inr r ↦ ap is_serving r ])

      by : (IsWorking (view m) i x × IsWorking (view n) i x) ⊎ ServesSame u (view m) (view n) h.placed g.placed i s x → IsSameThread i (view m_1) (view n_1)
      by (inl w) =
          subst (λ b. IsSameThread i (view (holding m x i b)) (view n_1)) (sym (works_m w.0))
          (subst (λ b. IsSameThread i (view m) (view (holding n x i b))) (sym (works_n w.1)) s)
      by (inr p) =
          let d = given_of u holds m h quiet i x is p.first in
          let e = given_of u holds n g quiet_n i x is_n p.other in
          subst (λ b. IsSameThread i (view (holding m x i b)) (view n_1)) (sym (serves p.first))
          (subst (λ b. IsSameThread i (view (holding m x i (holds x))) (view (holding n x i b))) (sym (serves_n p.other))
          (of (holds x) (given_both u (view m) (view n) h.placed g.placed i x d e s (sx d.idle e.idle (x_else u (view m) h.placed i x d)))))
        where
          of : (b : Bool) → IsSameThread i (view (holding m x i true)) (view (holding n x i true))
              → IsSameThread i (view (holding m x i b)) (view (holding n x i b))
          of true t = t
          of false t = s

  -- a server that is never held has the same
  server1 : holds x ≡ false → x ≢ i → IsSameThread x (view m_1) (view n_1)
  server1 off ne =
      let none : (a : Bool) → (a && holds x) ≡ false = λ a. and_off a in
      subst (λ b. IsSameThread x (view (holding m x i b)) (view n_1)) (sym (none (serving_in (slice_get m.world.leaves x))))
      (subst (λ b. IsSameThread x (view m) (view (holding n x i b))) (sym (none (serving_in (slice_get n.world.leaves x))))
      (sx (h.free x off) (g.free x off) ne))
    where
      and_off : (a : Bool) → (a && holds x) ≡ false
      and_off true = off
      and_off false = refl

  pub leaf1 : m_1.hold x ≢ i → IsSameThread (m_1.hold x) (view m_1) (view n_1)
  leaf1 ne = elim (hold_either u pays holds m h quiet i x is component there_c new event stepped uses) [
    | inl e ↦ absurd (ne e)
    | inr q ↦ subst (λ z. IsSameThread z (view m_1) (view n_1)) (sym q.1) (server1 q.0 (λ e. ne (q.1 ∙ e)))
  ]

  pub both : BothGo u pays (view m_1) (view n_1) rm.placed rn.placed
      (still1 u holds m h quiet i x is) reads i x rm.who_is_i thread1 leaf1 component there_c new event
  both =
      go u pays (view m_1) (view n_1) rm.placed rn.placed (still1 u holds m h quiet i x is)
      (still1 u holds n g quiet_n i x is_n) reads i x thread1 leaf1 rm.who_is_i rn.who_is_i component
      there_c new event stepped

  abbrev pub other_new : World
  other_new = both.goes.other_new

  pub goes_other : next u n.world x ≡ Ok (other_new, event)
  goes_other = both.goes.goes

  module _ (uses_n : (k : ℕ) (t : Session) → session_at other_new k ≡ Some t → Uses u t.client t.server) where
    abbrev m_2 : Held
    m_2 = after m_1 i new

    abbrev n_2 : Held
    n_2 = after n_1 i other_new

    thread2 : IsSameThread i (view m_2) (view n_2)
    thread2 =
        thread_as i (stepped_to (view m_1) x i (Ok (new, event))) (stepped_to (view n_1) x i (Ok (other_new, event))) (view m_2).root (view n_2).root
        (roots u holds m h quiet i x is pays component there_c new event stepped uses)
        (roots u holds n g quiet_n i x is_n pays component there_c other_new event goes_other uses_n)
        (same_after u pays (view m_1) (view n_1) rm.placed rn.placed (still1 u holds m h quiet i x is)
        (still1 u holds n g quiet_n i x is_n) reads i x thread1 leaf1 rm.who_is_i
        rn.who_is_i component there_c new event stepped both)

    abbrev act_m : Bool
    act_m = active_in (slice_get new.leaves x)

    abbrev act_n : Bool
    act_n = active_in (slice_get other_new.leaves x)

    pub act_same : act_m ≡ act_n
    act_same =
        works_act u pays holds m h quiet i x is component there_c new event stepped uses
        ∙ (thread2.leaves x ∙ sym (works_act u pays holds n g quiet_n i x is_n component there_c other_new event goes_other uses_n))

    abbrev tm : IsPlaced u (view m_2)
    tm = placed2 u holds m h quiet i x is pays component there_c new event stepped uses

    abbrev tn : IsPlaced u (view n_2)
    tn = placed2 u holds n g quiet_n i x is_n pays component there_c other_new event goes_other uses_n

    -- where a session of the thread stands in the other world
    base_same : (d k : ℕ) → Deep u (view m_2) tm d k → (view m_2).root k ≡ i → n_2.base (thread2.f k) ≡ m_2.base k
    base_same zero k e root =
        let o = within_there (view n_2).root i other_new.sessions (thread2.f k) (renamed_session thread2.f e.0)
        (thread2.region.sessions.there k e.0 (within_here (view m_2).root i new.sessions k root ∙ e.1)) in
        based2 u holds n g quiet_n i x is_n pays component there_c other_new event goes_other uses_n (thread2.f k) (renamed_session thread2.f e.0) o.1
        ∙ (ap (λ q. base_at n_2.base (renamed_slot_id thread2.f q)) e.2.2
        ∙ (sym (ap (base_at m_2.base) e.2.2) ∙ sym (based2 u holds m h quiet i x is pays component there_c new event stepped uses k e.0 e.1)))
    base_same (suc d) k e root =
        let o = within_there (view n_2).root i other_new.sessions (thread2.f k) (renamed_session thread2.f e.0)
        (thread2.region.sessions.there k e.0 (within_here (view m_2).root i new.sessions k root ∙ e.1)) in
        let stands : m_2.base k ≡ m_2.base e.2.0
        = based2 u holds m h quiet i x is pays component there_c new event stepped uses k e.0 e.1 ∙ ap (base_at m_2.base) e.2.2 in
        based2 u holds n g quiet_n i x is_n pays component there_c other_new event goes_other uses_n (thread2.f k) (renamed_session thread2.f e.0) o.1
        ∙ (ap (λ q. base_at n_2.base (renamed_slot_id thread2.f q)) e.2.2
        ∙ (base_same d e.2.0 e.2.3 (ap m_1.hold (sym stands) ∙ root) ∙ sym stands))

    module _ (idle : act_m ≡ false) (idle_n : act_n ≡ false) where
      abbrev m_3 : Held
      m_3 = parting m_2 x false

      abbrev n_3 : Held
      n_3 = parting n_2 x false

      else_m : (y : ℕ) → y ≢ x → m_3.hold y ≡ m_1.hold y
      else_m = hold_else u holds m h quiet i x is pays component there_c new event stepped uses idle

      else_n : (y : ℕ) → y ≢ x → n_3.hold y ≡ n_1.hold y
      else_n = hold_else u holds n g quiet_n i x is_n pays component there_c other_new event goes_other uses_n idle_n

      x_m : m_3.hold x ≡ x
      x_m = anew_here m_1.hold x x

      x_n : n_3.hold x ≡ x
      x_n = anew_here n_1.hold x x

      unlike : (a b : ℕ) → a ≢ b → (a == b) ≡ false
      unlike a b ne = elim (eqb_tells a b) [ inl q ↦ absurd (ne q.1) | inr q ↦ q.0 ]

      -- whose a session's base is: the leaf's own, or the thread's in another leaf
      module _ (can : holds x ≡ true) (ne : x ≢ i) where
        hold_im : (y : ℕ) → m_3.hold y ≡ i → (y ≢ x) × (m_1.hold y ≡ i)
        hold_im y e = let other : y ≢ x = λ q. ne (sym x_m ∙ (ap m_3.hold (sym q) ∙ e)) in (other, sym (else_m y other) ∙ e)

        hold_in : (y : ℕ) → n_3.hold y ≡ i → (y ≢ x) × (n_1.hold y ≡ i)
        hold_in y e = let other : y ≢ x = λ q. ne (sym x_n ∙ (ap n_3.hold (sym q) ∙ e)) in (other, sym (else_n y other) ∙ e)

        hold_xm : (y : ℕ) → m_3.hold y ≡ x → y ≡ x
        hold_xm y e = elim (eqb_tells y x) [
          | inl q ↦ q.1
          | inr q ↦ absurd (not_x u holds m h quiet i x is pays component there_c new event stepped uses idle y q.1 (sym (else_m y q.1) ∙ e))
        ]

        hold_xn : (y : ℕ) → n_3.hold y ≡ x → y ≡ x
        hold_xn y e = elim (eqb_tells y x) [
          | inl q ↦ q.1
          | inr q ↦ absurd (not_x u holds n g quiet_n i x is_n pays component there_c other_new event goes_other uses_n idle_n y q.1 (sym (else_n y q.1) ∙ e))
        ]

        -- a session in the part of the thread's region that is whose
        module _ (z : ℕ) (from_m : (k : ℕ) → m_3.hold (m_2.base k) ≡ z → m_1.hold (m_2.base k) ≡ i)
            (from_n : (k : ℕ) → n_3.hold (n_2.base k) ≡ z → n_1.hold (n_2.base k) ≡ i)
            (over : (y : ℕ) → m_1.hold y ≡ i → n_1.hold y ≡ i → m_3.hold y ≡ z → n_3.hold y ≡ z)
            (back : (y : ℕ) → m_1.hold y ≡ i → n_1.hold y ≡ i → n_3.hold y ≡ z → m_3.hold y ≡ z) where
          image : (k : ℕ) (t : Session) → m_1.hold (m_2.base k) ≡ i → session_at new k ≡ Some t
              → (n_1.hold (n_2.base (thread2.f k)) ≡ i) × (session_at other_new (thread2.f k) ≡ Some (renamed_session thread2.f t))
          image k t root at =
              within_there (view n_2).root i other_new.sessions (thread2.f k) (renamed_session thread2.f t)
              (thread2.region.sessions.there k t (within_here (view m_2).root i new.sessions k root ∙ at))

          same_base : (k : ℕ) (t : Session) → m_1.hold (m_2.base k) ≡ i → session_at new k ≡ Some t → n_2.base (thread2.f k) ≡ m_2.base k
          same_base k t root at = let d = deep u (view m_2) tm k t at in base_same d.0 k d.1 root

          part : Correspond thread2.f (within (view m_3).root z new.sessions) (within (view n_3).root z other_new.sessions)
          part = record {
            there = λ k t e.
                (let o = within_there (view m_3).root z new.sessions k t e in
                let root = from_m k o.0 in
                let p = image k t root o.1 in
                let b = same_base k t root o.1 in
                within_here (view n_3).root z other_new.sessions (thread2.f k)
                (ap n_3.hold b ∙ over (m_2.base k) root (ap n_1.hold (sym b) ∙ p.0) o.0)
                ∙ p.1);
            back = λ k t e.
                (let o = within_there (view n_3).root z other_new.sessions k t e in
                let root = from_n k o.0 in
                let p = thread2.region.sessions.back k t (within_here (view n_2).root i other_new.sessions k root ∙ o.1) in
                let q = within_there (view m_2).root i new.sessions p.0 p.1 p.2 in
                let b = same_base p.0 p.1 q.0 q.1 in
                let is_base : n_2.base k ≡ m_2.base p.0 = ap n_2.base (sym p.3) ∙ b in (
                  p.0,
                  p.1,
                  within_here (view m_3).root z new.sessions p.0
                      (back (m_2.base p.0) q.0 (ap n_1.hold (sym is_base) ∙ root) (ap n_3.hold (sym is_base) ∙ o.0)) ∙ q.1,
                  p.3,
                ));
            single = λ j k a b e f same.
                (let o = within_there (view m_3).root z new.sessions j a e in
                let p = within_there (view m_3).root z new.sessions k b f in
                thread2.region.sessions.single j k a b (within_here (view m_2).root i new.sessions j (from_m j o.0) ∙ o.1)
                (within_here (view m_2).root i new.sessions k (from_m k p.0) ∙ p.1) same);
          }

        owner_x : (y : ℕ) → m_3.hold y ≡ x → m_1.hold y ≡ i
        owner_x y e = ap m_1.hold (hold_xm y e) ∙ hold_i u pays holds m h quiet i x is component there_c new event stepped uses can

        owner_xn : (y : ℕ) → n_3.hold y ≡ x → n_1.hold y ≡ i
        owner_xn y e = ap n_1.hold (hold_xn y e) ∙ hold_i u pays holds n g quiet_n i x is_n component there_c other_new event goes_other uses_n can

        -- the thread, once the leaf is its own again
        parted_i : IsSameThread i (view m_3) (view n_3)
        parted_i = record {
          f = thread2.f;
          owned = λ y. elim (eqb_tells y x) [
            | inl e ↦
                ap (λ z. m_3.hold z == i) e.1
                ∙ (ap (λ a. a == i) x_m ∙ (sym (ap (λ a. a == i) x_n) ∙ sym (ap (λ z. n_3.hold z == i) e.1)))
            | inr e ↦ ap (λ a. a == i) (else_m y e.1) ∙ (thread2.owned y ∙ sym (ap (λ a. a == i) (else_n y e.1)))
          ];
          leaves = λ y. works_kept u pays holds m h quiet i x is component there_c new event stepped uses idle i y
              ∙ (thread2.leaves y ∙ sym (works_kept u pays holds n g quiet_n i x is_n component there_c other_new event goes_other uses_n idle_n i y));
          alike = λ y w. thread2.alike y (sym (works_kept u pays holds m h quiet i x is component there_c new event stepped uses idle i y) ∙ w);
          region = record {
            slots = λ y e. thread2.region.slots y (hold_im y e).1;
            sessions = part i (λ k e. (hold_im (m_2.base k) e).1) (λ k e. (hold_in (n_2.base k) e).1)
                (λ y a b e. else_n y (hold_im y e).0 ∙ b) (λ y a b e. else_m y (hold_in y e).0 ∙ a);
            requests = among_kept u pays holds n g quiet_n i x is_n component there_c other_new event goes_other uses_n idle_n i
                ∙ (thread2.region.requests
                ∙ ap (map (renamed_request thread2.f)) (sym (among_kept u pays holds m h quiet i x is component there_c new event stepped uses idle i)));
          };
          wrote = λ y e. refl;
        }

        -- no leaf works for the one that took the step
        none_works : (w : Held) (calm : Unsubmitted w.world) (t : IsPlaced u (view w)) (based : IsBased w)
            (b : (current : Option Current) → (links w.world).stances x ≡ Some (stance Blocked current) → ⊥)
            → active_in (slice_get w.world.leaves x) ≡ false → (y : ℕ) → works (view w) x y ≡ false
        none_works w calm t based b off y = by (slice_get w.world.leaves y) refl
          where
            and_false : (a : Bool) → (a && false) ≡ false
            and_false true = refl
            and_false false = refl

            of : (l : Leaf) → slice_get w.world.leaves y ≡ Some l → (current : Option Current) → l.current ≡ current
                → (has_work l.phase (first_signal l.signals) && (thread_by (view w).root y l.current == x)) ≡ false
            of l at None e = elim (eqb_tells y x) [
              | inl q ↦ ap (λ a. a && (thread_by (view w).root y l.current == x))
                  (works_as l (calm.none y l at) ∙ (ap active_in (sym (ap (slice_get w.world.leaves) (sym q.1) ∙ at)) ∙ off))
              | inr q ↦ ap (λ o. has_work l.phase (first_signal l.signals) && (thread_by (view w).root y o == x)) e
                  ∙ (ap (λ a. has_work l.phase (first_signal l.signals) && a) q.0 ∙ and_false (has_work l.phase (first_signal l.signals)))
            ]
            of l at (Some q) e =
                let wait = (handled u (view w) t y l.phase q (ap stance_in at ∙ ap (λ o. Some (stance l.phase o)) e)).waiting in
                ap (λ o. has_work l.phase (first_signal l.signals) && (thread_by (view w).root y o == x)) e
                ∙ (ap (λ a. has_work l.phase (first_signal l.signals) && a) (unlike (w.hold (w.base q.session)) x (root_else u w t based x b q.session wait))
                ∙ and_false (has_work l.phase (first_signal l.signals)))

            by : (o : Option Leaf) → slice_get w.world.leaves y ≡ o → works_for (view w).root x y o ≡ false
            by None e = refl
            by (Some l) e = of l e l.current refl

        none_among : (w : Held) (t : IsPlaced u (view w)) (based : IsBased w)
            (b : (current : Option Current) → (links w.world).stances x ≡ Some (stance Blocked current) → ⊥) → among (view w).root x w.world.requests ≡ []
        none_among w t based b = by w.world.requests (each_request u (view w) t (λ r. (view w).root r.session ≢ x)
            (λ k wait r e. λ is. root_else u w t based x b k wait (ap (view w).root (sym e) ∙ is)))
          where
            by : (rs : List Request) → Each (λ r. (view w).root r.session ≢ x) rs → among (view w).root x rs ≡ []
            by [] each = refl
            by (r ∷ rs) each =
                ap (λ c. cond c (r ∷ among (view w).root x rs) (among (view w).root x rs)) (unlike ((view w).root r.session) x each.0) ∙ by rs each.1

        -- and the leaf itself
        parted_x : IsSameThread x (view m_3) (view n_3)
        parted_x =
            let off_m = none_works m_2 (calm2 u holds m h quiet i x is pays component there_c new event stepped uses) tm
            (based2 u holds m h quiet i x is pays component there_c new event stepped uses)
            (idle_blocked u holds m h quiet i x is pays component there_c new event stepped uses idle) idle in
            let off_n = none_works n_2 (calm2 u holds n g quiet_n i x is_n pays component there_c other_new event goes_other uses_n) tn
            (based2 u holds n g quiet_n i x is_n pays component there_c other_new event goes_other uses_n)
            (idle_blocked u holds n g quiet_n i x is_n pays component there_c other_new event goes_other uses_n idle_n) idle_n in
            let none_m : (y : ℕ) → works (view m_3) x y ≡ false
            = λ y. works_kept u pays holds m h quiet i x is component there_c new event stepped uses idle x y ∙ off_m y in
            let none_n : (y : ℕ) → works (view n_3) x y ≡ false
            = λ y. works_kept u pays holds n g quiet_n i x is_n component there_c other_new event goes_other uses_n idle_n x y ∙ off_n y in
            record {
              f = thread2.f;
              owned = λ y. elim (eqb_tells y x) [
                | inl e ↦
                    ap (λ z. m_3.hold z == x) e.1
                    ∙ (ap (λ a. a == x) x_m ∙ (sym (ap (λ a. a == x) x_n) ∙ sym (ap (λ z. n_3.hold z == x) e.1)))
                | inr e ↦ unlike (m_3.hold y) x (λ f. e.1 (hold_xm y f)) ∙ sym (unlike (n_3.hold y) x (λ f. e.1 (hold_xn y f)))
              ];
              leaves = λ y. none_m y ∙ sym (none_n y);
              alike = λ y w. absurd (true≢false (sym w ∙ none_m y));
              region = record {
                slots = λ y e. thread2.region.slots y (owner_x y e);
                sessions = part x (λ k e. owner_x (m_2.base k) e) (λ k e. owner_xn (n_2.base k) e)
                    (λ y a b e. ap n_3.hold (hold_xm y e) ∙ x_n) (λ y a b e. ap m_3.hold (hold_xn y e) ∙ x_m);
                requests = (among_kept u pays holds n g quiet_n i x is_n component there_c other_new event goes_other uses_n idle_n x
                    ∙ none_among n_2 tn (based2 u holds n g quiet_n i x is_n pays component there_c other_new event goes_other uses_n)
                    (idle_blocked u holds n g quiet_n i x is_n pays component there_c other_new event goes_other uses_n idle_n))
                    ∙ sym (ap (map (renamed_request thread2.f)) (among_kept u pays holds m h quiet i x is component there_c new event stepped uses idle x
                    ∙ none_among m_2 tm (based2 u holds m h quiet i x is pays component there_c new event stepped uses)
                    (idle_blocked u holds m h quiet i x is pays component there_c new event stepped uses idle)));
              };
              wrote = λ y e. refl;
            }

      -- where the thread is the leaf's own
      itself_i : holds x ≡ true → x ≡ i → IsSameThread i (view m_3) (view n_3)
      itself_i can e = record {
        f = thread2.f;
        owned = λ y. (own_m y ∙ (thread2.owned y ∙ sym (own_n y)));
        leaves = λ y. works_kept u pays holds m h quiet i x is component there_c new event stepped uses idle i y
            ∙ (thread2.leaves y ∙ sym (works_kept u pays holds n g quiet_n i x is_n component there_c other_new event goes_other uses_n idle_n i y));
        alike = λ y w. thread2.alike y (sym (works_kept u pays holds m h quiet i x is component there_c new event stepped uses idle i y) ∙ w);
        region = record {
          slots = λ y f. thread2.region.slots y (equal_of (m_1.hold y) i (sym (own_m y) ∙ (ap (λ a. a == i) f ∙ equal_self i)));
          sessions = subst (λ a. Correspond thread2.f a (within (view n_3).root i other_new.sessions))
              (λ j k. cond (sym (own_m (m_2.base k)) j) (session_at new k) None)
              (subst (Correspond thread2.f (within (view m_2).root i new.sessions)) (λ j k. cond (sym (own_n (n_2.base k)) j) (session_at other_new k) None)
              thread2.region.sessions);
          requests = among_kept u pays holds n g quiet_n i x is_n component there_c other_new event goes_other uses_n idle_n i
              ∙ (thread2.region.requests
              ∙ ap (map (renamed_request thread2.f)) (sym (among_kept u pays holds m h quiet i x is component there_c new event stepped uses idle i)));
        };
        wrote = λ y f. refl;
      }
        where
          own_m : (y : ℕ) → (m_3.hold y == i) ≡ (m_1.hold y == i)
          own_m y = elim (eqb_tells y x) [
            | inl q ↦ ap (λ z. m_3.hold z == i) q.1
                ∙ (ap (λ a. a == i) (x_m ∙ (e ∙ sym (hold_i u pays holds m h quiet i x is component there_c new event stepped uses can)))
                ∙ sym (ap (λ z. m_1.hold z == i) q.1))
            | inr q ↦ ap (λ a. a == i) (else_m y q.1)
          ]

          own_n : (y : ℕ) → (n_3.hold y == i) ≡ (n_1.hold y == i)
          own_n y = elim (eqb_tells y x) [
            | inl q ↦ ap (λ z. n_3.hold z == i) q.1
                ∙ (ap (λ a. a == i) (x_n ∙ (e ∙ sym (hold_i u pays holds n g quiet_n i x is_n component there_c other_new event goes_other uses_n can)))
                ∙ sym (ap (λ z. n_1.hold z == i) q.1))
            | inr q ↦ ap (λ a. a == i) (else_n y q.1)
          ]

    -- a server that is never held is its own before and after
    module _ (off : holds x ≡ false) where
      freed_m : freed false x m_1.hold ≡ m_1.hold
      freed_m = λ e y. by y (y == x) refl e
        where
          by : (y : ℕ) (b : Bool) → (y == x) ≡ b → cond (y == x) x (m_1.hold y) ≡ m_1.hold y
          by y true is = ap (λ b. cond b x (m_1.hold y)) is ∙ sym (ap m_1.hold (equal_of y x is) ∙ rm.free x off)
          by y false is = ap (λ b. cond b x (m_1.hold y)) is

      freed_n : freed false x n_1.hold ≡ n_1.hold
      freed_n = λ e y. by y (y == x) refl e
        where
          by : (y : ℕ) (b : Bool) → (y == x) ≡ b → cond (y == x) x (n_1.hold y) ≡ n_1.hold y
          by y true is = ap (λ b. cond b x (n_1.hold y)) is ∙ sym (ap n_1.hold (equal_of y x is) ∙ rn.free x off)
          by y false is = ap (λ b. cond b x (n_1.hold y)) is

      unparted : (j : ℕ) → IsSameThread j (view m_2) (view n_2) → IsSameThread j (view (parting m_2 x false)) (view (parting n_2 x false))
      unparted j t =
          subst (λ f. IsSameThread j (view (record { world = new; base = m_2.base; hold = f })) (view (parting n_2 x false))) (sym freed_m)
          (subst (λ f. IsSameThread j (view m_2) (view (record { world = other_new; base = n_2.base; hold = f }))) (sym freed_n) t)

      server2 : x ≢ i → IsSameThread x (view m_2) (view n_2)
      server2 ne =
          stepped_right u pays holds n g quiet_n i x is_n component there_c other_new event goes_other uses_n x ne m_2
          (stepped_left u pays holds m h quiet i x is component there_c new event stepped uses x ne n_1 (server1 off ne))

    thread_freed : act_m ≡ false → act_n ≡ false → (b : Bool) → holds x ≡ b → IsSameThread i (view (parting m_2 x false)) (view (parting n_2 x false))
    thread_freed e f false off = unparted off i thread2
    thread_freed e f true can = elim (eqb_tells x i) [ inl q ↦ itself_i e f can q.1 | inr q ↦ parted_i e f can q.1 ]

    thread_by_act : (a b : Bool) → act_m ≡ a → act_n ≡ b → a ≡ b → IsSameThread i (view (parting m_2 x a)) (view (parting n_2 x b))
    thread_by_act true true e f same = thread2
    thread_by_act true false e f same = absurd (true≢false same)
    thread_by_act false true e f same = absurd (true≢false (sym same))
    thread_by_act false false e f same = thread_freed e f (holds x) refl

    leaf_freed : act_m ≡ false → act_n ≡ false → x ≢ i → (b : Bool) → holds x ≡ b → IsSameThread x (view (parting m_2 x false)) (view (parting n_2 x false))
    leaf_freed e f ne false off = unparted off x (server2 off ne)
    leaf_freed e f ne true can = parted_x e f can ne

    leaf_by_act : (a b : Bool) → act_m ≡ a → act_n ≡ b → a ≡ b → x ≢ i → (parting m_2 x a).hold x ≡ x
        → IsSameThread x (view (parting m_2 x a)) (view (parting n_2 x b))
    leaf_by_act true false e f same ne own = absurd (true≢false same)
    leaf_by_act true true e f same ne own = elim (hold_either u pays holds m h quiet i x is component there_c new event stepped uses) [
      | inl q ↦ absurd (ne (sym own ∙ q))
      | inr q ↦ server2 q.0 ne
    ]
    leaf_by_act false true e f same ne own = absurd (true≢false (sym same))
    leaf_by_act false false e f same ne own = leaf_freed e f ne (holds x) refl

    -- the thread has the same after the step
    pub own_thread : IsSameThread i (view (turn holds m x i new)) (view (turn holds n x i other_new))
    own_thread = thread_by_act act_m act_n refl refl act_same

    -- and so has the leaf that took it, where it is its own
    pub own_leaf : x ≢ i → (turn holds m x i new).hold x ≡ x → IsSameThread x (view (turn holds m x i new)) (view (turn holds n x i other_new))
    own_leaf = leaf_by_act act_m act_n refl refl act_same
