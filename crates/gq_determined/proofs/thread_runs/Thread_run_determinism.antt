-- Runs in which no shared leaf changes its own slots outside `main`: what a thread has and shows depends on its own steps alone.
use Rattle.std.proofs.Common.{◌≡◌, ◌≢◌, ◌⊎◌, ℕ, zero, suc, ◌==◌, ◌++◌, inl, inr, Bool, true, false, List, [], ◌∷◌, Option, Some, None, Ok, is_some}
use Rattle.gq_model.specs.declared.phase.Phase.{Phase}
use Rattle.std.proofs.Common.{refl, ap, sym, ◌∙◌, subst}
use Rattle.std.specs.Prelude.{replicate, slice_get}
use Rattle.std.proofs.lemmas.Bool.{true≢false}
use Rattle.std.proofs.lemmas.Bool.Decides.{eqb_tells}
use Rattle.gq_model.specs.machine.Scenario.{System, Component}
use Rattle.gq_model.specs.machine.World.{Waiting, SlotId, In_leaf, In_session, In_object, Current, Leaf, World, start_leaves, start, slot_at, leaf_slot}
use Rattle.gq_model.specs.machine.Sums.{paid}
use Rattle.gq_model.specs.machine.Doing.{Event}
use Rattle.gq_model.specs.machine.Step.{later_signal, first_signal, next}
use Rattle.gq_model.proofs.Small_facts.{none_some, some_same, equal_self}
use Rattle.gq_laws.specs.Session_links.{stance, stance_in}
use Rattle.gq_laws.proofs.session_links.Asked_request_changes.{same_current}
use Rattle.gq_laws.proofs.session_links.Linked_worlds.{start_linked}
use Rattle.gq_determined.specs.internal.Threads.{is_unshared, Tracked, who, who_of, stepped_to, given, first_by, ready, turn_for, tracked_from, tracked_turn}
use Rattle.gq_determined.specs.internal.Threads.{tracked_start}
use Rattle.gq_determined.specs.internal.Threads.{Accepts, events_of, shows, works, IsSameThread, IsAlike, HasEnded}
use Rattle.gq_determined.specs.internal.Thread_machines.{is_for}
use Rattle.gq_determined.proofs.machines.By_threads.{after, shown, AreThreads, agree_ended, prefixes}
use Rattle.gq_determined.proofs.regions.Outside_region_kept.{empty_waits}
use Rattle.gq_determined.proofs.thread_positions.Single_thread_position.{IsOpened, IsPlaced, IsTracked, IsByCurrent}
use Rattle.gq_determined.proofs.thread_runs.Suitable_session_slots.{kept_suited}
use Rattle.gq_determined.proofs.thread_runs.Opened_session_owner.{FirstOpens, firsts_opened}
use Rattle.gq_model.specs.rules.Resolve.{cycle_fault}
use Rattle.gq_determined.proofs.thread_positions.Turn_thread_position.{IsWorking, ServesSame, is_equal, same_place, lives_who}
use Rattle.gq_determined.proofs.thread_positions.First_request_given.{serving_else, serving_who, given_tracked, who_same, same_works, own_else, own_new}
use Rattle.gq_determined.proofs.thread_positions.First_request_given.{x_else}
use Rattle.gq_determined.proofs.thread_positions.First_request_given.{own_else_back, own_from, own_moves, own_stays, given_left, given_right}
use Rattle.gq_determined.proofs.thread_positions.Thread_step_ready.{Readies, readies, BothReady, both_ready}
use Rattle.gq_determined.proofs.thread_steps.Thread_reflexivity.{thread_itself}
use Rattle.gq_determined.proofs.thread_steps.Own_steps.{for_working, for_serving}
use Rattle.gq_determined.proofs.thread_steps.Tracked_step_world.{still_tracked}
use Rattle.gq_determined.proofs.thread_steps.Thread_step_frame.{same_else, unseen_left, unseen_right}
use Rattle.gq_determined.proofs.thread_steps.Stateless_thread_agreement.{IsStateless, ReadSame, still_of, Solo, solo}
use Rattle.gq_determined.proofs.thread_steps.Paired_thread_step.{ended_of, go, same_after}

-- THE START

start_waits : (cs : List Component) (y a k : ℕ) → leaf_slot (slice_get (start_leaves cs) y) a ≡ Some (Waiting k) → ⊥
start_waits [] y a k e = none_some e
start_waits (c ∷ cs) zero a k e = empty_waits 64 a k e
start_waits (c ∷ cs) (suc y) a k e = start_waits cs y a k e

none_submitted : (n : ℕ) → first_signal (replicate n (record { submitted = false; taken = 0 })) ≡ None
none_submitted zero = refl
none_submitted (suc n) = ap (later_signal (record { submitted = false; taken = 0 })) (none_submitted n)

-- no signal is submitted
pub start_unflagged : (cs : List Component) (y : ℕ) (l : Leaf) → slice_get (start_leaves cs) y ≡ Some l → is_some (first_signal l.signals) ≡ false
start_unflagged [] y l e = absurd (none_some e)
start_unflagged (c ∷ cs) zero l e =
    ap (λ (l : Leaf). is_some (first_signal l.signals)) (sym (some_same e)) ∙ ap is_some (none_submitted c.node.signals)
start_unflagged (c ∷ cs) (suc y) l e = start_unflagged cs y l e

pub start_tracked : (u : System) → cycle_fault u 0 u.components ≡ None → IsTracked u (tracked_start u)
start_tracked u acyclic = record {
  placed = record {
    acyclic = acyclic;
    linked = start_linked u;
    below = λ k s e. absurd (none_some e);
    waits = waits;
    uses = λ k s e. absurd (none_some e);
    lives = λ k s e. absurd (none_some e);
    main = λ y phase at act. refl;
    held = λ y phase q at ne. absurd (ne refl);
    signals = λ y l at flag. absurd (true≢false (sym flag ∙ start_unflagged u.components y l at));
  };
  stands = λ k s e. absurd (none_some e);
  owned = record { opened = λ x ne. absurd (ne refl); whole = λ x. refl };
  busy = λ y phase q at single. absurd (start_idle u.components y phase q at);
}
  where
    waits : (q : SlotId) (k : ℕ) → slot_at (start u) q ≡ Some (Waiting k) → IsByCurrent (tracked_start u).own (start u) q
    waits (In_leaf y a) k e = absurd (start_waits u.components y a k e)
    waits (In_session j a) k e = absurd (none_some e)
    waits (In_object j) k e = absurd (none_some e)

    start_idle : (cs : List Component) (y : ℕ) (phase : Phase) (q : Current) → stance_in (slice_get (start_leaves cs) y) ≡ Some (stance phase (Some q)) → ⊥
    start_idle [] y phase q e = none_some e
    start_idle (c ∷ cs) zero phase q e = none_some (same_current e)
    start_idle (c ∷ cs) (suc y) phase q e = start_idle cs y phase q e

-- from a world on, with the threads of its sessions
module _ (u : System) (pays : (z : World) → paid u z ≡ true) (w : World) (root : ℕ → ℕ) where
  -- the world after turns of leaves, of which the last comes first
  abbrev pub tracked : List ℕ → Tracked
  tracked = after Tracked (ℕ × Event) (tracked_from w root) (tracked_turn u) who (shows u)

  -- in each world that turns lead to every leaf can take its turn, there is a component for each leaf, outside `main` of a shared leaf no own slot is changed
  -- next, and what is opened next is opened so by the program; what is read beside threads is the same in all of them; and what is tracked fits the
  -- first world
  pub record AreGood : Type 0 where
    pub first : IsTracked u (tracked_from w root)
    pub goes : (a : List ℕ) (x : ℕ) → (p : World × Event) × (next u (tracked a).world x ≡ Ok p)
    pub placed : (a : List ℕ) (x : ℕ) (leaf : Leaf) → slice_get (tracked a).world.leaves x ≡ Some leaf → (c : Component) × (slice_get u.components x ≡ Some c)
    pub stateless : (a : List ℕ) → IsStateless u (tracked a).world
    pub reads : (a b : List ℕ) → ReadSame (tracked a).world (tracked b).world
    pub opens : (a : List ℕ) (x : ℕ) (c : Component) (leaf : Leaf) → slice_get u.components x ≡ Some c → slice_get (tracked a).world.leaves x ≡ Some leaf
        → FirstOpens u c (is_some leaf.current) leaf.todo

  module _ (good : AreGood) where
    component_of : (a : List ℕ) (x i : ℕ) → who (tracked a) x ≡ Some i → (c : Component) × (slice_get u.components x ≡ Some c)
    component_of a x i is = by (slice_get (tracked a).world.leaves x) refl is
      where
        by : (o : Option Leaf) → slice_get (tracked a).world.leaves x ≡ o → who_of (tracked a) x o ≡ Some i → (c : Component)
            × (slice_get u.components x ≡ Some c)
        by None e is = absurd (none_some is)
        by (Some leaf) e is = good.placed a x leaf e

    -- BEFORE A STEP

    abbrev shift : List ℕ → ℕ → ℕ → Bool
    shift a x i = first_by u (tracked a) x i (slice_get (tracked a).world.leaves x)

    abbrev pub before : List ℕ → ℕ → ℕ → Tracked
    before a x i = ready u (tracked a) x i

    -- the world after a turn that is a step
    pub turn_is : (a : List ℕ) (x i : ℕ) → who (tracked a) x ≡ Some i
        → tracked (x ∷ a) ≡ stepped_to (before a x i) x i (Ok (good.goes a x).0)
    turn_is a x i is = ap (turn_for u (tracked a) x) is ∙ ap (stepped_to (before a x i) x i) (good.goes a x).1

    pub turn_none : (a : List ℕ) (x : ℕ) → who (tracked a) x ≡ None → tracked (x ∷ a) ≡ tracked a
    turn_none a x is = ap (turn_for u (tracked a) x) is

    -- what is tracked fits, and the step is still the thread's
    pub record IsReady (g : Tracked) (x i : ℕ) (o : Bool) : Type 0 where
      pub tracks : IsTracked u (given g x i o)
      pub is : who (given g x i o) x ≡ Some i
      pub works_same : (j y : ℕ) → works (given g x i o) j y ≡ works g j y
      pub taken : (leaf : Leaf) → slice_get g.world.leaves x ≡ Some leaf → is_unshared u x ≡ true → Accepts leaf → (given g x i o).own x ≢ x
      pub own_taken : (leaf : Leaf) → slice_get g.world.leaves x ≡ Some leaf → Accepts leaf → (given g x i o).own x ≢ x → (given g x i o).own x ≡ i
      -- another thread is the same, or becomes this one's
      pub own_back : (j y : ℕ) → j ≢ i → (given g x i o).own y ≡ j → g.own y ≡ j
      pub left : (j : ℕ) → j ≢ i → (given g x i o).own j ≡ j → (h : Tracked) → IsSameThread j g h → IsSameThread j (given g x i o) h
      pub right : (j : ℕ) → j ≢ i → (given g x i o).own j ≡ j → (h : Tracked) → IsSameThread j h g → IsSameThread j h (given g x i o)
      -- what is the thread's was so, or was of the leaf that takes a step
      pub own_from : (y : ℕ) → (given g x i o).own y ≡ i
          → (g.own y ≡ i) ⊎ ((g.own y ≡ x) × (g.own x ≡ x) × (x ≢ i) × ((given g x i o).own x ≡ i))
      pub own_moves : (y : ℕ) → g.own y ≡ y → (given g x i o).own y ≢ y → (y ≡ x) × (x ≢ i)
      -- what is a thread's stays so while it has its own leaf
      pub own_stays : (y : ℕ) → (given g x i o).own (g.own y) ≡ g.own y → (given g x i o).own y ≡ g.own y

    ready_by : (g : Tracked) (t : IsTracked u g) (x i : ℕ) → who g x ≡ Some i → (o : Bool) → Readies u g i x o → IsReady g x i o
    ready_by g t x i is false r = record {
      tracks = t;
      is = is;
      works_same = λ j y. refl;
      taken = λ leaf there single serves e.
          serving_else u g t.placed i x (serving_who g i x is leaf there serves) (sym e ∙ r.taken leaf there serves single refl);
      own_taken = λ leaf there serves ne. r.taken leaf there serves (t.owned.opened x ne).single refl;
      own_back = λ j y ne e. e;
      left = λ j ne e h s. s;
      right = λ j ne e h s. s;
      own_from = λ y e. inl e;
      own_moves = λ y e ne. absurd (ne e);
      own_stays = λ y e. refl;
    }
    ready_by g t x i is true r =
        let b = r.here refl in
        record {
          tracks = given_tracked u g t i x b (r.single refl);
          own_taken = λ leaf there serves ne. own_new u g t.placed i x b;
          is = who_same u g t.placed i x b;
          works_same = same_works u g t.placed i x b;
          taken = λ leaf there single serves. own_else u g t.placed i x b;
          own_back = own_else_back u g t.placed i x b;
          left = λ j ne e. given_left u g t.placed i x b j ne (λ same. own_else u g t.placed i x b (subst (λ y. (given g x i true).own y ≡ y) same e));
          right = λ j ne e. given_right u g t.placed i x b j ne (λ same. own_else u g t.placed i x b (subst (λ y. (given g x i true).own y ≡ y) same e));
          own_from = λ y e. elim (own_from u g t.placed i x b y e) [
            | inl q ↦ inl q
            | inr q ↦ inr (q, b.idle, x_else u g t.placed i x b, own_new u g t.placed i x b)
          ];
          own_moves = λ y e ne. (own_moves u g t.placed i x b y e ne, x_else u g t.placed i x b);
          own_stays = own_stays u g t.placed i x b;
        }

    pub all_tracked : (a : List ℕ) → IsTracked u (tracked a)
    all_tracked [] = good.first
    all_tracked (x ∷ a) = by (all_tracked a) (who (tracked a) x) refl
      where
        by : IsTracked u (tracked a) → (o : Option ℕ) → who (tracked a) x ≡ o → IsTracked u (tracked (x ∷ a))
        by t None e = subst (IsTracked u) (sym (turn_none a x e)) t
        by t (Some i) e =
            let c = component_of a x i e in
            let p = good.goes a x in
            let r = ready_by (tracked a) t x i e (shift a x i) (readies u (tracked a) t i x e) in
            let one = solo u pays (before a x i) r.tracks.placed (still_of u (before a x i) r.tracks (good.stateless a)) i x r.is c.0 c.1 p.0.0 p.0.1 p.1 in
            subst (IsTracked u) (sym (turn_is a x i e))
            (still_tracked u (before a x i) r.tracks i x c.0 one.a one.there p.0.0 p.0.1 one.done
            (kept_suited (IsOpened u (before a x i).own (before a x i).root) u (before a x i).world x p.0.0 p.0.1 (record { at = r.tracks.stands })
            (firsts_opened u (before a x i) r.tracks (good.stateless a) (good.opens a)) p.1).at
            (lives_who u (before a x i) r.tracks.placed i x r.is) (λ serves ne. r.own_taken one.a one.there serves ne)
            (λ single serves. r.taken one.a one.there single serves))

    pub ready_at : (a : List ℕ) (x i : ℕ) → who (tracked a) x ≡ Some i → IsReady (tracked a) x i (shift a x i)
    ready_at a x i is = ready_by (tracked a) (all_tracked a) x i is (shift a x i) (readies u (tracked a) (all_tracked a) i x is)

    abbrev SoloAt : (a : List ℕ) (x i : ℕ) → who (tracked a) x ≡ Some i → Type 0
    SoloAt a x i is =
        let r = ready_at a x i is in
        Solo u pays (before a x i) r.tracks.placed (still_of u (before a x i) r.tracks (good.stateless a)) i x r.is (component_of a x i is).0
        (component_of a x i is).1 (good.goes a x).0.0

    solo_at : (a : List ℕ) (x i : ℕ) (is : who (tracked a) x ≡ Some i) → SoloAt a x i is
    solo_at a x i is =
        let c = component_of a x i is in
        let p = good.goes a x in
        let r = ready_at a x i is in
        solo u pays (before a x i) r.tracks.placed (still_of u (before a x i) r.tracks (good.stateless a)) i x r.is c.0 c.1 p.0.0 p.0.1 p.1

    pub not_for : (i j : ℕ) → is_for i (Some j) ≡ false → i ≢ j
    not_for i j e same = true≢false (sym (ap (λ n. n == i) (sym same) ∙ equal_self i) ∙ e)

    -- A TURN FOR ANOTHER THREAD

    -- whether `main` of another thread goes on is the same after a step
    main_else : (i : ℕ) (a : List ℕ) (x j : ℕ) (is : who (tracked a) x ≡ Some j) → i ≢ j → works (tracked (x ∷ a)) i i ≡ works (tracked a) i i
    main_else i a x j is ne =
        let one = solo_at a x j is in
        let r = ready_at a x j is in
        let p = good.goes a x in
        ap (λ g. works g i i) (turn_is a x j is)
        ∙ (same_else u (before a x j) r.tracks.placed j x (component_of a x j is).0 one.a one.there p.0.0 one.done i i ne ∙ r.works_same i i)

    -- whose a leaf is does not change with the step itself
    pub own_is : (a : List ℕ) (x j : ℕ) → who (tracked a) x ≡ Some j → (y : ℕ) → (tracked (x ∷ a)).own y ≡ (before a x j).own y
    own_is a x j is y = ap (λ (g : Tracked). g.own y) (turn_is a x j is)

    left : (i : ℕ) (a b : List ℕ) (x : ℕ) → is_for i (who (tracked a) x) ≡ false → IsAlike i (tracked a) (tracked b) → IsAlike i (tracked (x ∷ a)) (tracked b)
    left i a b x out s = by (who (tracked a) x) refl out
      where
        by : (o : Option ℕ) → who (tracked a) x ≡ o → is_for i o ≡ false → IsAlike i (tracked (x ∷ a)) (tracked b)
        by None e out = subst (λ g. IsAlike i g (tracked b)) (sym (turn_none a x e)) s
        by (Some j) e out = record { main = main_else i a x j e ne ∙ s.main; whole = whole }
          where
            ne : i ≢ j
            ne = not_for i j out

            whole : (tracked (x ∷ a)).own i ≡ i → (tracked b).own i ≡ i → IsSameThread i (tracked (x ∷ a)) (tracked b)
            whole own own_b =
                let one = solo_at a x j e in
                let r = ready_at a x j e in
                let p = good.goes a x in
                let now : (before a x j).own i ≡ i = sym (own_is a x j e i) ∙ own in
                subst (λ g. IsSameThread i g (tracked b)) (sym (turn_is a x j e))
                (unseen_left u (before a x j) r.tracks.placed j x (component_of a x j e).0 one.a one.there p.0.0 one.done p.0.1 (tracked b) i ne
                (r.left i ne now (tracked b) (s.whole (r.own_back i i ne now) own_b)))

    right : (i : ℕ) (a b : List ℕ) (x : ℕ) → is_for i (who (tracked b) x) ≡ false → IsAlike i (tracked a) (tracked b) → IsAlike i (tracked a) (tracked (x ∷ b))
    right i a b x out s = by (who (tracked b) x) refl out
      where
        by : (o : Option ℕ) → who (tracked b) x ≡ o → is_for i o ≡ false → IsAlike i (tracked a) (tracked (x ∷ b))
        by None e out = subst (IsAlike i (tracked a)) (sym (turn_none b x e)) s
        by (Some j) e out = record { main = s.main ∙ sym (main_else i b x j e ne); whole = whole }
          where
            ne : i ≢ j
            ne = not_for i j out

            whole : (tracked a).own i ≡ i → (tracked (x ∷ b)).own i ≡ i → IsSameThread i (tracked a) (tracked (x ∷ b))
            whole own_a own =
                let one = solo_at b x j e in
                let r = ready_at b x j e in
                let p = good.goes b x in
                let now : (before b x j).own i ≡ i = sym (own_is b x j e i) ∙ own in
                subst (IsSameThread i (tracked a)) (sym (turn_is b x j e))
                (unseen_right u (before b x j) r.tracks.placed j x (component_of b x j e).0 one.a one.there p.0.0 one.done p.0.1 (tracked a) i ne
                (r.right i ne now (tracked a) (s.whole own_a (r.own_back i i ne now))))

    stops : (i : ℕ) (a : List ℕ) (x : ℕ) → HasEnded i (tracked a) → who (tracked a) x ≢ Some i
    stops i a x end is = true≢false (sym (by (same_place u g g t t i (thread_itself i g) x x is is).how) ∙ end)
      where
        g : Tracked
        g = tracked a

        t : IsPlaced u g
        t = (all_tracked a).placed

        by : (IsWorking g i x × IsWorking g i x) ⊎ ServesSame u g g t t i (thread_itself i g) x → works g i i ≡ true
        by (inl w) = (for_working u pays g g t t i x (thread_itself i g) (λ ne. thread_itself (g.own x) g) (component_of a x i is).0 w.0.at.leaf w.0.at.leaf
            w.0.at.there w.0.at.there w.0).root_works
        by (inr w) = (for_serving u pays g g t t i x (thread_itself i g) (λ ne. thread_itself (g.own x) g) (component_of a x i is).0 w.first.leaf w.first.leaf
            w.first.there w.first.there w refl).root_works

    -- A TURN FOR THE THREAD IN BOTH

    abbrev Ends : List ℕ → List ℕ → Type 0
    Ends a b = (j : ℕ) → HasEnded j (tracked a) → HasEnded j (tracked b) → IsAlike j (tracked a) (tracked b)

    -- what the thread and the leaf have before the step
    both_before : (i : ℕ) (a b : List ℕ) (x : ℕ) → who (tracked a) x ≡ Some i → who (tracked b) x ≡ Some i → IsSameThread i (tracked a) (tracked b)
        → Ends a b → BothReady i x (before a x i) (before b x i)
    both_before i a b x is is_b s ends =
        let t = all_tracked a in
        let th = all_tracked b in
        both_ready u (tracked a) (tracked b) t th i x is is_b s
        (λ ne own own_b. (ends x (ended_of u (tracked a) t.placed i x is ne) (ended_of u (tracked b) th.placed i x is_b ne)).whole own own_b) (shift a x i)
        (shift b x i)
        (readies u (tracked a) (all_tracked a) i x is) (readies u (tracked b) (all_tracked b) i x is_b)

    -- a step for the same thread in both
    own_same : (i : ℕ) (a b : List ℕ) (x : ℕ) → who (tracked a) x ≡ Some i → who (tracked b) x ≡ Some i → IsSameThread i (tracked a) (tracked b) → Ends a b
        → IsSameThread i (tracked (x ∷ a)) (tracked (x ∷ b)) × (shows u (tracked a) x ≡ shows u (tracked b) x)
    own_same i a b x is is_b s ends =
        let p = good.goes a x in
        let c = component_of a x i is in
        let g = before a x i in
        let h = before b x i in
        let rg = ready_at a x i is in
        let rh = ready_at b x i is_b in
        let both = both_before i a b x is is_b s ends in
        let r = go u pays g h rg.tracks.placed rh.tracks.placed (still_of u g rg.tracks (good.stateless a)) (still_of u h rh.tracks (good.stateless b))
        (good.reads a b) i x both.thread both.leaf rg.is rh.is c.0 c.1 p.0.0 p.0.1 p.1 in
        let after_b : tracked (x ∷ b) ≡ stepped_to h x i (Ok (r.goes.other_new, p.0.1))
        = ap (turn_for u (tracked b) x) is_b ∙ ap (stepped_to h x i) r.goes.goes in (
          subst (λ g. IsSameThread i g (tracked (x ∷ b))) (sym (turn_is a x i is))
              (subst (IsSameThread i (stepped_to g x i (Ok p.0))) (sym after_b)
              (same_after u pays g h rg.tracks.placed rh.tracks.placed (still_of u g rg.tracks (good.stateless a))
              (still_of u h rh.tracks (good.stateless b))
              (good.reads a b) i x both.thread both.leaf rg.is rh.is c.0 c.1 p.0.0 p.0.1
              p.1 r)),
          ap (events_of x) p.1 ∙ sym (ap (events_of x) r.goes.goes),
        )

    own : (i : ℕ) (a b : List ℕ) (x y : ℕ) → who (tracked a) x ≡ Some i → who (tracked b) y ≡ Some i → IsAlike i (tracked a) (tracked b) → Ends a b
        → IsAlike i (tracked (x ∷ a)) (tracked (y ∷ b)) × (shows u (tracked a) x ≡ shows u (tracked b) y)
    own i a b x y is is_b alike ends =
        let e = (same_place u (tracked a) (tracked b) (all_tracked a).placed (all_tracked b).placed i s x y is is_b).leaf in
        move y e is_b
      where
        s : IsSameThread i (tracked a) (tracked b)
        s = alike.whole (lives_who u (tracked a) (all_tracked a).placed i x is) (lives_who u (tracked b) (all_tracked b).placed i y is_b)

        move : (z : ℕ) → x ≡ z → who (tracked b) z ≡ Some i
            → IsAlike i (tracked (x ∷ a)) (tracked (z ∷ b)) × (shows u (tracked a) x ≡ shows u (tracked b) z)
        move z e is_z = subst (λ z. who (tracked b) z ≡ Some i
            → IsAlike i (tracked (x ∷ a)) (tracked (z ∷ b)) × (shows u (tracked a) x ≡ shows u (tracked b) z)) e
            (λ is_x.
            let r = own_same i a b x is is_x s ends in
            (record { main = r.0.leaves i; whole = λ own own_b. r.0 }, r.1)) is_z

    -- THREADS DEPEND ON THEMSELVES ALONE

    pub are_threads : AreThreads Tracked (ℕ × Event) (tracked_from w root) (tracked_turn u) who (shows u) IsAlike HasEnded
    are_threads = record {
      begins = λ i. record { main = refl; whole = λ own own_b. thread_itself i (tracked_from w root) };
      left = left;
      right = right;
      own = own;
      stops = stops;
      ends = λ i a b s end. sym s.main ∙ end;
      ended = λ i a b s end. s.main ∙ end;
    }

    -- what a thread shows in these turns: the leaves that took steps for it, and what each wrote
    abbrev pub shown_by : ℕ → List ℕ → List (ℕ × Event)
    shown_by = shown Tracked (ℕ × Event) (tracked_from w root) (tracked_turn u) who (shows u)

    -- THREADS THAT HAVE BECOME OTHERS'

    -- what is its own was so before
    pub own_before : (a : List ℕ) (x y : ℕ) → (tracked (x ∷ a)).own y ≡ y → (tracked a).own y ≡ y
    own_before a x y own = by (who (tracked a) x) refl
      where
        by : (o : Option ℕ) → who (tracked a) x ≡ o → (tracked a).own y ≡ y
        by None e = sym (ap (λ (g : Tracked). g.own y) (turn_none a x e)) ∙ own
        by (Some j) e = elim (eqb_tells y j) [
          | inl q ↦ subst (λ y. (tracked a).own y ≡ y) (sym q.1) (lives_who u (tracked a) (all_tracked a).placed j x e)
          | inr q ↦ (ready_at a x j e).own_back y y q.1 (sym (own_is a x j e y) ∙ own)
        ]

    -- a thread that is another's had ended, just before it became that
    pub record IsBefore (a : List ℕ) (i : ℕ) : Type 0 where
      pub run : List ℕ
      pub own : (tracked run).own i ≡ i
      pub ended : HasEnded i (tracked run)
      pub later : (y : ℕ) → (tracked a).own y ≡ y → (tracked run).own y ≡ y
      pub more : List ℕ
      pub is : a ≡ more ++ run

    pub before_given : (a : List ℕ) (i : ℕ) → (tracked a).own i ≢ i → IsBefore a i
    before_given [] i ne = absurd (ne refl)
    before_given (x ∷ a) i ne = by (eqb_tells ((tracked a).own i) i) (before_given a i)
      where
        here : (tracked a).own i ≡ i → (o : Option ℕ) → who (tracked a) x ≡ o → HasEnded i (tracked a)
        here own None e = absurd (ne (ap (λ (g : Tracked). g.own i) (turn_none a x e) ∙ own))
        here own (Some j) e =
            let m = (ready_at a x j e).own_moves i own (λ q. ne (own_is a x j e i ∙ q)) in
            subst (λ i. HasEnded i (tracked a)) (sym m.0) (ended_of u (tracked a) (all_tracked a).placed j x e m.1)

        by : ((((tracked a).own i == i) ≡ true) × ((tracked a).own i ≡ i)) ⊎ ((((tracked a).own i == i) ≡ false) × ((tracked a).own i ≢ i))
            → ((tracked a).own i ≢ i → IsBefore a i) → IsBefore (x ∷ a) i
        by (inl q) further =
            record { run = a; own = q.1; ended = here q.1 (who (tracked a) x) refl; later = own_before a x; more = x ∷ []; is = refl }
        by (inr q) further =
            let b = further q.1 in
            record {
              run = b.run;
              own = b.own;
              ended = b.ended;
              later = λ y own. b.later y (own_before a x y own);
              more = x ∷ b.more;
              is = ap (λ l. x ∷ l) b.is;
            }

    -- a thread that has ended in two runs has the same in both, and has shown the same
    pub same_end : (i : ℕ) (a b : List ℕ) → HasEnded i (tracked a) → HasEnded i (tracked b)
        → IsAlike i (tracked a) (tracked b) × (shown_by i a ≡ shown_by i b)
    same_end = agree_ended Tracked (ℕ × Event) (tracked_from w root) (tracked_turn u) who (shows u) IsAlike HasEnded are_threads

    -- where all have ended in two runs, the same threads have their own leaves
    module _ (a b : List ℕ) (end : (i : ℕ) → HasEnded i (tracked a)) (end_b : (i : ℕ) → HasEnded i (tracked b)) (i : ℕ) (own : (tracked a).own i ≡ i) where
      -- the thread j that has leaf i in the one has it in each run in which j has ended and is its own
      holds : (j : ℕ) → (tracked b).own i ≡ j → (c : List ℕ) → HasEnded j (tracked c) → (tracked c).own j ≡ j → (tracked c).own i ≡ j
      holds j is c end_c own_c =
          let own_j : (tracked b).own j ≡ j = subst (λ j. (tracked b).own j ≡ j) is ((all_tracked b).owned.whole i) in
          let s = (same_end j c b end_c (end_b j)).0.whole own_c own_j in
          is_equal ((tracked c).own i) j (s.owned i ∙ (ap (λ n. n == j) is ∙ equal_self j))

      -- and that is no other
      never : (j : ℕ) → (tracked b).own i ≡ j → j ≢ i
          → ((((tracked a).own j == j) ≡ true) × ((tracked a).own j ≡ j)) ⊎ ((((tracked a).own j == j) ≡ false) × ((tracked a).own j ≢ j)) → ⊥
      never j is ne (inl q) = ne (sym (holds j is a (end j) q.1) ∙ own)
      never j is ne (inr q) =
          let c = before_given a j q.1 in
          ne (sym (holds j is c.run c.ended c.own) ∙ c.later i own)

      pub same_owners : (tracked b).own i ≡ i
      same_owners = elim (eqb_tells ((tracked b).own i) i) [
        | inl q ↦ q.1
        | inr q ↦ let j = (tracked b).own i in absurd (never j refl q.1 (eqb_tells ((tracked a).own j) j))
      ]

    -- in any two runs it shows in one a prefix of what it shows in the other
    pub same_prefixes : (i : ℕ) (a b : List ℕ)
        → ((rest : List (ℕ × Event)) × (shown_by i b ≡ shown_by i a ++ rest)) ⊎ ((rest : List (ℕ × Event)) × (shown_by i a ≡ shown_by i b ++ rest))
    same_prefixes = prefixes Tracked (ℕ × Event) (tracked_from w root) (tracked_turn u) who (shows u) IsAlike HasEnded are_threads
