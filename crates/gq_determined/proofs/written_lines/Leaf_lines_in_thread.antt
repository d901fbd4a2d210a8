-- The lines of a leaf that provides nothing are among what its thread shows.
use Rattle.std.proofs.Common.{◌≡◌, ◌≢◌, ℕ, zero, suc, ◌==◌, ◌⊎◌, inl, inr, Bool, true, false, cond, List, [], ◌∷◌, ◌++◌, Option, Some, None, Ok, Err, refl}
use Rattle.std.proofs.Common.{ap, sym, ◌∙◌}
use Rattle.std.specs.Prelude.{replicate, slice_get}
use Rattle.std.proofs.lemmas.Bool.Decides.{eqb_tells}
use Rattle.std.proofs.lemmas.List.{append_assoc, append-nil}
use Rattle.gq_model.specs.declared.phase.Phase.{Phase}
use Rattle.gq_model.specs.declared.phase.Phase.TheVariants.{Pending, Running, Blocked, Serving, Handling, Exited}
use Rattle.gq_model.specs.machine.Scenario.{Scenario, Component, System, components, system}
use Rattle.gq_model.specs.machine.World.{Session, Request, Current, Signal, Leaf, World, session_at}
use Rattle.gq_model.specs.machine.Doing.{Event, Idle, Stepped}
use Rattle.gq_model.specs.machine.Step.{is_to, oldest, first_signal, next}
use Rattle.gq_model.specs.machine.Run.{Ran, label_at, line_of, after_step, turn_from, turns_of}
use Rattle.gq_model.proofs.Small_facts.{none_some, some_same, equal_self}
use Rattle.std.specs.Prelude.{is_some}
use Rattle.std.proofs.lemmas.Bool.{true≢false}
use Rattle.gq_laws.specs.Session_links.{outline, outline_in, stance, stance_in, IsLinkedWorld}
use Rattle.gq_laws.proofs.session_links.Linked_after_accept.{oldest_found}
use Rattle.gq_laws.proofs.progress.Lasting_world_invariant.{server_some}
use Rattle.gq_laws.proofs.Outside_step_untouched.{outlined}
use Rattle.gq_laws.specs.Sound_scenarios.{IsSound}
use Rattle.gq_laws.specs.internal.Uncounted.{uncounted}
use Rattle.gq_laws.specs.Progress.{world_after}
use Rattle.gq_laws.proofs.step_shapes.Step_counting.{stands_still}
use Rattle.gq_laws.specs.Group_alone.{lines_from}
use Rattle.gq_laws.proofs.held_resources.Uncounted_resource_step.{step_same}
use Rattle.gq_determined.specs.internal.Thread_machines.{is_for}
use Rattle.gq_determined.specs.internal.Threads.{Tracked, who, who_of, who_by, asker, served_for, thread_by, tracked_after, shown_by, shows, events_of}
use Rattle.gq_determined.specs.internal.Threads.{turned, past_of}
use Rattle.gq_determined.specs.internal.Unset.{each_turn, turns_alone}
use Rattle.gq_determined.proofs.thread_runs.Sound_runs.{IsFirst, goes_by, all_stand}
use Rattle.gq_determined.proofs.thread_runs.At_rest.{at, next_world, no_thread}

-- the lines of a leaf among what was shown
abbrev pub said : ℕ → List ℕ → List (ℕ × Event) → List ℕ
said x label [] = []
said x label (e ∷ rest) = cond (e.0 == x) (line_of label e.1) [] ++ said x label rest

pub said_more : (x : ℕ) (label : List ℕ) (one other : List (ℕ × Event)) → said x label (one ++ other) ≡ said x label one ++ said x label other
said_more x label [] other = refl
said_more x label (e ∷ one) other =
    ap (λ l. cond (e.0 == x) (line_of label e.1) [] ++ l) (said_more x label one other)
    ∙ sym (append_assoc (cond (e.0 == x) (line_of label e.1) []) (said x label one) (said x label other))

-- what is reported of each turn is what the leaf writes in it
module _ (s : Scenario) (sound : IsSound s) (w : World) (root : ℕ → ℕ) (first : IsFirst s w root) (x : ℕ) (reported : List ℕ → List ℕ)
    (begins : reported [] ≡ []) (goes : (y : ℕ) (a : List ℕ) (p : World × Event) → next (system s) (at s sound w root first a).world y ≡ Ok p
    → reported (y ∷ a) ≡ reported a ++ cond (y == x) (line_of (label_at (slice_get (system s).components x)) p.1) []) where
  abbrev own_label : List ℕ
  own_label = label_at (slice_get (system s).components x)

  abbrev run_at : List ℕ → Tracked
  run_at = at s sound w root first

  -- a run so far
  abbrev ran_at : List ℕ → List ℕ → Ran
  ran_at a text = record { world = (run_at a).world; text = text; wrong = None }

  label_of : ℕ → List ℕ
  label_of y = label_at (slice_get (system s).components y)

  -- one turn
  turn_ran : (y : ℕ) (a text : List ℕ) → (l : List ℕ) × (turn_from (system s) y (ran_at a text) None ≡ ran_at (y ∷ a) (text ++ l))
      × (reported (y ∷ a) ≡ reported a ++ cond (y == x) l [])
  unfolding label_of
  turn_ran y a text =
      let p = goes_by s sound (run_at a).world y (all_stand s sound w root first a) in
      let world : p.0.0 ≡ (run_at (y ∷ a)).world = sym (ap (world_after (run_at a).world) p.2) ∙ next_world s sound w root first a y in (
        line_of (label_of y) p.0.1,
        ap (after_step (system s) y (ran_at a text)) p.2
            ∙ (λ e. record { world = world e; text = text ++ line_of (label_of y) p.0.1; wrong = None }),
        goes y a p.0 p.2 ∙ ap (λ l. reported a ++ l) (same_label (eqb_tells y x) p.0.1),
      )
    where
      same_label : (((y == x) ≡ true) × (y ≡ x)) ⊎ (((y == x) ≡ false) × (y ≢ x)) → (e : Event)
          → cond (y == x) (line_of own_label e) [] ≡ cond (y == x) (line_of (label_at (slice_get (system s).components y)) e) []
      same_label (inl q) e = ap (λ z. cond (y == x) (line_of (label_at (slice_get (system s).components z)) e) []) (sym q.1)
      same_label (inr q) e = ap (λ b. cond b (line_of own_label e) []) q.0
          ∙ sym (ap (λ b. cond b (line_of (label_at (slice_get (system s).components y)) e) []) q.0)

  joined_if : (b : Bool) (l m : List ℕ) → cond b l [] ++ cond b m [] ≡ cond b (l ++ m) []
  joined_if true l m = refl
  joined_if false l m = refl

  -- n turns of a leaf
  turns_ran : (y n : ℕ) (a text : List ℕ) → (l : List ℕ)
      × (turns_of (system s) y n (ran_at a text) ≡ ran_at (turned (replicate n y) a) (text ++ l))
      × (reported (turned (replicate n y) a) ≡ reported a ++ cond (y == x) l [])
  turns_ran y zero a text = (
    [],
    ap (ran_at a) (sym (append-nil text)),
    sym (ap (λ l. reported a ++ l) (none (y == x)) ∙ append-nil (reported a)),
  )
    where
      nothing : List ℕ
      nothing = []

      none : (b : Bool) → cond b nothing nothing ≡ nothing
      none true = refl
      none false = refl
  turns_ran y (suc n) a text =
      let one = turn_ran y a text in
      let more = turns_ran y n (y ∷ a) (text ++ one.0) in (
        one.0 ++ more.0,
        ap (turns_of (system s) y n) one.1 ∙ (more.1 ∙ ap (ran_at (turned (replicate n y) (y ∷ a))) (append_assoc text one.0 more.0)),
        more.2 ∙ (ap (λ l. l ++ cond (y == x) more.0 []) one.2 ∙ (append_assoc (reported a) (cond (y == x) one.0 []) (cond (y == x) more.0 [])
            ∙ ap (λ l. reported a ++ l) (joined_if (y == x) one.0 more.0))),
      )

  turned_more : (xs ys a : List ℕ) → turned (xs ++ ys) a ≡ turned ys (turned xs a)
  turned_more [] ys a = refl
  turned_more (z ∷ xs) ys a = turned_more xs ys (z ∷ a)

  lines_ran : (turns : List (ℕ × ℕ)) (a text : List ℕ)
      → reported (turned (each_turn turns) a) ≡ reported a ++ lines_from (system s) (λ y. y == x) (turns_alone turns) (ran_at a text)
  lines_ran [] a text = sym (append-nil (reported a))
  lines_ran (t ∷ turns) a text =
      let one = turns_ran t.0 t.1 a [] in
      let next_a = turned (replicate t.1 t.0) a in
      ap reported (turned_more (replicate t.1 t.0) (each_turn turns) a)
      ∙ (lines_ran turns next_a one.0
      ∙ (ap (λ l. l ++ lines_from (system s) (λ y. y == x) (turns_alone turns) (ran_at next_a one.0)) one.2
      ∙ (append_assoc (reported a) (cond (t.0 == x) one.0 []) (lines_from (system s) (λ y. y == x) (turns_alone turns) (ran_at next_a one.0))
      ∙ ap (λ (ran : Ran). reported a ++ (cond (t.0 == x) ran.text [] ++ lines_from (system s) (λ y. y == x) (turns_alone turns) ran)) (sym one.1))))

  -- the lines of the leaf in a run from there on
  abbrev from_there : List (ℕ × ℕ) → List ℕ → List ℕ
  from_there turns text = lines_from (system s) (λ y. y == x) (turns_alone turns) (record { world = w; text = text; wrong = None })

  pub lines_reported : (turns : List (ℕ × ℕ)) (text : List ℕ) → from_there turns text ≡ reported (past_of turns)
  lines_reported turns text = sym (lines_ran turns [] text ∙ ap (λ l. l ++ from_there turns text) begins)

-- A LEAF WHOSE STEPS ARE ALL FOR ITS OWN THREAD

module _ (s : Scenario) (sound : IsSound s) (w : World) (root : ℕ → ℕ) (first : IsFirst s w root) (x : ℕ)
    (own : (a : List ℕ) (i : ℕ) → who (tracked_after (uncounted (system s)) w root a) x ≡ Some i → i ≡ x) where
  abbrev u : System
  u = uncounted (system s)

  abbrev label : List ℕ
  label = label_at (slice_get (system s).components x)

  abbrev now : List ℕ → Tracked
  now = at s sound w root first

  abbrev shown : List ℕ → List (ℕ × Event)
  shown = shown_by u w root x

  event_or : Event → Stepped → Event
  event_or e (Ok p) = p.1
  event_or e (Err wrong) = e

  same_event : (p q : World × Event) → ◌≡◌ {A = Stepped} (Ok p) (Ok q) → p.1 ≡ q.1
  unfolding event_or
  same_event p q e = ap (event_or Idle) e

  -- what a turn writes that is the leaf's
  turn_shows : (y : ℕ) (a : List ℕ) (p : World × Event) → next (system s) (now a).world y ≡ Ok p
      → said x label (shown (y ∷ a)) ≡ said x label (shown a) ++ cond (y == x) (line_of label p.1) []
  turn_shows y a p stepped =
      said_more x label (shown a) (cond (is_for x (who (now a) y)) (shows u (now a) y) [])
      ∙ ap (λ l. said x label (shown a) ++ l) (of (eqb_tells y x))
    where
      shows_is : shows u (now a) y ≡ (y, p.1) ∷ []
      shows_is = ap (events_of y) (step_same (system s) (now a).world y p.0 p.1 stepped)

      one : (b : Bool) → said x label (cond b ((y, p.1) ∷ []) []) ≡ cond b (cond (y == x) (line_of label p.1) []) []
      one true = append-nil (cond (y == x) (line_of label p.1) [])
      one false = refl

      here : said x label (cond (is_for x (who (now a) y)) (shows u (now a) y) [])
          ≡ cond (is_for x (who (now a) y)) (cond (y == x) (line_of label p.1) []) []
      here = ap (λ l. said x label (cond (is_for x (who (now a) y)) l [])) shows_is ∙ one (is_for x (who (now a) y))

      own_is : y ≡ x → (o : Option ℕ) → who (now a) y ≡ o → cond (is_for x o) (line_of label p.1) [] ≡ line_of label p.1
      own_is e None is = ap (line_of label) (sym (same_event p ((now a).world, Idle)
          (sym stepped ∙ stands_still (system s) (now a).world y (no_thread (now a) y (slice_get (system s).components y) is))))
      own_is e (Some i) is =
          ap (λ n. cond (n == x) (line_of label p.1) []) (own a i (ap (who (now a)) (sym e) ∙ is))
          ∙ ap (λ b. cond b (line_of label p.1) []) (equal_self x)

      of : (((y == x) ≡ true) × (y ≡ x)) ⊎ (((y == x) ≡ false) × (y ≢ x))
          → said x label (cond (is_for x (who (now a) y)) (shows u (now a) y) []) ≡ cond (y == x) (line_of label p.1) []
      of (inl q) =
          here ∙ (ap (λ b. cond (is_for x (who (now a) y)) (cond b (line_of label p.1) []) []) q.0
          ∙ (own_is q.1 (who (now a) y) refl ∙ sym (ap (λ b. cond b (line_of label p.1) []) q.0)))
      of (inr q) =
          here ∙ (ap (λ b. cond (is_for x (who (now a) y)) (cond b (line_of label p.1) []) []) q.0
          ∙ (none (is_for x (who (now a) y)) ∙ sym (ap (λ b. cond b (line_of label p.1) []) q.0)))
        where
          none : (b : Bool) → cond b (cond false (line_of label p.1) []) [] ≡ cond false (line_of label p.1) []
          none true = refl
          none false = refl

  -- the lines of the leaf in a run from there on
  pub lines_are : (turns : List (ℕ × ℕ)) (text : List ℕ)
      → lines_from (system s) (λ y. y == x) (turns_alone turns) (record { world = w; text = text; wrong = None })
      ≡ said x label (shown (past_of turns))
  lines_are = lines_reported s sound w root first x (λ a. said x label (shown a)) refl turn_shows

-- A LEAF THAT PROVIDES NOTHING

module _ (s : Scenario) (sound : IsSound s) (w : World) (root : ℕ → ℕ) (first : IsFirst s w root) (x : ℕ) (c : Component)
    (there : slice_get (components s) x ≡ Some c) (nothing : c.node.provides ≡ None) where
  -- no session leads to it
  no_session : (z : World) → IsLinkedWorld (system s) z → (k : ℕ) (t : Session) → session_at z k ≡ Some t → t.server ≡ x → ⊥
  no_session z linked k t at e =
      let r = linked.routed k (outline t) (ap outline_in at) in
      true≢false (sym (server_some s sound t.client x r.0 c t.service r.1 (r.2 ∙ ap Some e) there) ∙ ap is_some nothing)

  pub own_thread : (a : List ℕ) (i : ℕ) → who (tracked_after (uncounted (system s)) w root a) x ≡ Some i → i ≡ x
  own_thread a i e = by (slice_get (tracked_after (uncounted (system s)) w root a).world.leaves x) refl e
    where
      linked : IsLinkedWorld (system s) (tracked_after (uncounted (system s)) w root a).world
      linked = (all_stand s sound w root first a).linked

      current_none : (leaf : Leaf) → slice_get (tracked_after (uncounted (system s)) w root a).world.leaves x ≡ Some leaf → (current : Option Current)
          → leaf.current ≡ current
          → thread_by (tracked_after (uncounted (system s)) w root a).root x current ≡ x
      current_none leaf at None e = refl
      current_none leaf at (Some q) e =
          let m = linked.handles x leaf.phase q (ap stance_in at ∙ ap (λ o. Some (stance leaf.phase o)) e) in
          let t = outlined (session_at (tracked_after (uncounted (system s)) w root a).world q.session) m.0 m.1 in
          absurd (no_session (tracked_after (uncounted (system s)) w root a).world linked q.session t.0 t.1 (ap (λ (s : Session). s.server) t.2 ∙ m.2))

      to_there : (o : Option Session) → is_to x o ≡ true → (t : Session) × (o ≡ Some t) × (t.server ≡ x)
      to_there None e = absurd cc
      to_there (Some t) e = elim (eqb_tells t.server x) [ inl q ↦ (t, refl, q.1) | inr q ↦ absurd (true≢false (sym e ∙ q.0)) ]

      none_asks : (o : Option (Request × List Request))
          → oldest (tracked_after (uncounted (system s)) w root a).world x (tracked_after (uncounted (system s)) w root a).world.requests ≡ o
          → asker (tracked_after (uncounted (system s)) w root a).root o ≡ Some i → i ≡ x
      none_asks None f e = absurd (none_some e)
      none_asks (Some p) f e =
          let to = (oldest_found (λ r. Unit {0}) (tracked_after (uncounted (system s)) w root a).world x
          (tracked_after (uncounted (system s)) w root a).world.requests p
          f).to in
          let t = to_there (session_at (tracked_after (uncounted (system s)) w root a).world p.0.session) to in
          absurd (no_session (tracked_after (uncounted (system s)) w root a).world linked p.0.session t.0 t.1 t.2)

      of : (leaf : Leaf) → slice_get (tracked_after (uncounted (system s)) w root a).world.leaves x ≡ Some leaf → (p : Phase)
          → who_by (tracked_after (uncounted (system s)) w root a) x leaf.current leaf.signals p ≡ Some i → i ≡ x
      of leaf at Running e = sym (some_same e) ∙ current_none leaf at leaf.current refl
      of leaf at Handling e = sym (some_same e) ∙ current_none leaf at leaf.current refl
      of leaf at Serving e = serves (first_signal leaf.signals) e
        where
          serves : (s' : Option (ℕ × List Signal)) → served_for (tracked_after (uncounted (system s)) w root a).root
              (thread_by (tracked_after (uncounted (system s)) w root a).root x leaf.current) s'
              (oldest (tracked_after (uncounted (system s)) w root a).world x (tracked_after (uncounted (system s)) w root a).world.requests) ≡ Some i → i ≡ x
          serves None e = none_asks (oldest (tracked_after (uncounted (system s)) w root a).world x
              (tracked_after (uncounted (system s)) w root a).world.requests) refl e
          serves (Some s') e = sym (some_same e) ∙ current_none leaf at leaf.current refl
      of leaf at Pending e = absurd (none_some e)
      of leaf at Blocked e = absurd (none_some e)
      of leaf at Exited e = absurd (none_some e)

      by : (o : Option Leaf) → slice_get (tracked_after (uncounted (system s)) w root a).world.leaves x ≡ o
          → who_of (tracked_after (uncounted (system s)) w root a) x o ≡ Some i → i ≡ x
      by None at e = absurd (none_some e)
      by (Some leaf) at e = of leaf at leaf.phase e
