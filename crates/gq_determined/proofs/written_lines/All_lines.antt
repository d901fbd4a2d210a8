-- Where shared leaves write no lines outside `main`, the lines of each leaf are what it showed for the threads whose it was.
use Rattle.std.proofs.Common.{◌≡◌, ◌≢◌, ◌⊎◌, inl, inr, ℕ, ◌==◌, ◌&&◌, Bool, true, false, cond, List, [], ◌∷◌, ◌++◌, Option, Some, None, Ok, Err, is_some, refl}
use Rattle.std.proofs.Common.{ap, sym, ◌∙◌, subst}
use Rattle.std.specs.Prelude.{slice_get}
use Rattle.std.proofs.lemmas.Bool.{true≢false}
use Rattle.std.proofs.lemmas.Bool.Decides.{eqb_tells}
use Rattle.std.proofs.lemmas.List.{append_assoc, append-nil}
use Rattle.std.proofs.lemmas.Option.{slice_get_within}
use Rattle.gq_model.specs.declared.phase.Phase.TheVariants.{Serving}
use Rattle.gq_model.specs.machine.Program.{Statements, Done, Do, If, Loop}
use Rattle.gq_model.specs.machine.Scenario.{Scenario, Component, System, system}
use Rattle.gq_model.specs.machine.World.{Current, Leaf, World, start}
use Rattle.gq_model.specs.machine.Doing.{Event, Idle, Stepped}
use Rattle.gq_model.specs.machine.Step.{next}
use Rattle.gq_model.specs.machine.Run.{label_at, line_of}
use Rattle.gq_model.proofs.Small_facts.{some_same, equal_self}
use Rattle.gq_laws.specs.Session_links.{stance, stance_in}
use Rattle.gq_laws.specs.Group_alone.{lines_from}
use Rattle.gq_laws.specs.Progress.{AllRest}
use Rattle.gq_laws.specs.Sound_scenarios.{IsSound}
use Rattle.gq_laws.specs.internal.Remaining_instructions.{AllAre}
use Rattle.gq_laws.specs.internal.Uncounted.{uncounted}
use Rattle.gq_laws.proofs.held_resources.Uncounted_resource_step.{step_same}
use Rattle.gq_laws.proofs.step_shapes.Step_counting.{stands_still}
use Rattle.gq_races.specs.Races.{is_order, writes_line, IsInputFree, IsRaceFree, IsOrderFree, IsSignalFree}
use Rattle.gq_determined.specs.Determined.{IsPrefix, IsLeaf, WritesSame}
use Rattle.gq_determined.specs.internal.Threads.{is_unshared, Tracked, who, thread_by, past_of}
use Rattle.gq_determined.specs.internal.Unset.{turns_alone}
use Rattle.gq_determined.proofs.thread_positions.Single_thread_position.{IsTracked, busy_below}
use Rattle.gq_determined.proofs.thread_positions.Turn_thread_position.{IsWorking, IsServing, own_at, who_is}
use Rattle.gq_determined.proofs.thread_runs.Raceless_first_statements.{KeepsAway, away_sections}
use Rattle.gq_determined.proofs.thread_runs.Thread_run_determinism.{all_tracked, ready_at, before, turn_is, turn_none}
use Rattle.gq_determined.proofs.thread_runs.Leaf_run_prefixes.{IsPrefixOf, leaf_prefixes}
use Rattle.gq_determined.proofs.thread_runs.Sound_runs.{IsFirst, all_pay, all_left, first_start, placed, good}
use Rattle.gq_determined.proofs.thread_runs.At_rest.{at, no_thread, rest_same, run_world}
use Rattle.gq_determined.proofs.without_inputs.Left_out.{write_same}
use Rattle.gq_determined.proofs.written_lines.Leaf_lines_in_thread.{lines_reported}
use Rattle.gq_determined.proofs.written_lines.Silent_steps.{IsNextSilent, silent_line, event_silent}

-- the lines of what was shown
abbrev pub texts : List ℕ → List Event → List ℕ
texts label [] = []
texts label (e ∷ rest) = line_of label e ++ texts label rest

texts_more : (label : List ℕ) (one other : List Event) → texts label (one ++ other) ≡ texts label one ++ texts label other
texts_more label [] other = refl
texts_more label (e ∷ one) other =
    ap (λ l. line_of label e ++ l) (texts_more label one other) ∙ sym (append_assoc (line_of label e) (texts label one) (texts label other))

module _ (s : Scenario) (sound : IsSound s) (w : World) (root : ℕ → ℕ) (first : IsFirst s w root) (none : IsRaceFree s) (quiet : IsOrderFree s) where
  abbrev u : System
  u = uncounted (system s)

  abbrev now : List ℕ → Tracked
  now = at s sound w root first

  -- A STEP FOR A THREAD WHOSE THE LEAF IS NOT

  module _ (a : List ℕ) (y i : ℕ) (is : who (now a) y ≡ Some i) where
    abbrev g : Tracked
    g = before u (all_pay (system s)) w root (good s sound w root first none) a y i

    t : IsTracked u g
    t = (ready_at u (all_pay (system s)) w root (good s sound w root first none) a y i is).tracks

    is_g : who g y ≡ Some i
    is_g = (ready_at u (all_pay (system s)) w root (good s sound w root first none) a y i is).is

    first_silent : (leaf : Leaf) → slice_get (now a).world.leaves y ≡ Some leaf → (current : Option Current) → leaf.current ≡ current
        → is_some current ≡ true → is_unshared u y ≡ false → IsNextSilent leaf.todo
    first_silent leaf there current at some shared =
        let c = placed s sound w root first a y leaf there in
        let sections = away_sections is_order writes_line (λ i e. e) s sound quiet in
        by c.0 leaf.todo ((all_left s sound w root first (λ x c later i. KeepsAway writes_line u x later i) sections a).at y leaf there c.0 c.1).0
      where
        by : (c : Component) (todo : Statements) → AllAre (KeepsAway writes_line u y (is_some leaf.current)) todo → IsNextSilent todo
        by c Done h = tt
        by c (Do i rest) h = h.0 (ap is_some at ∙ some) shared
        by c (If arm other rest) h = tt
        by c (Loop n body rest) h = tt

    not_own : g.own y ≢ i → (leaf : Leaf) → slice_get (now a).world.leaves y ≡ Some leaf → (leaf.phase ≡ Serving → ⊥) → IsNextSilent leaf.todo
    not_own ne leaf there busy = by (who_is g i y is_g)
      where
        of : (w : IsWorking g i y) → w.at.leaf ≡ leaf → (current : Option Current) → leaf.current ≡ current → (single : Bool) → is_unshared u y ≡ single
            → IsNextSilent leaf.todo
        of w same None e single is =
            let own = own_at u g t.placed y w.at.leaf w.at.there (ap (λ (l : Leaf). l.current) same ∙ e) w.at.has_work in
            absurd (ne (own ∙ (sym (ap (thread_by g.root y) (ap (λ (l : Leaf). l.current) same ∙ e)) ∙ w.at.thread)))
        of w same (Some q) e true is =
            let current = ap (λ (l : Leaf). l.current) same ∙ e in
            absurd (ne (busy_below u g t y w.at.leaf.phase q (ap stance_in w.at.there ∙ ap (λ o. Some (stance w.at.leaf.phase o)) current) is
            ∙ (sym (ap (thread_by g.root y) current) ∙ w.at.thread)))
        of w same (Some q) e false is = first_silent leaf there (Some q) e refl is

        by : IsWorking g i y ⊎ IsServing g i y → IsNextSilent leaf.todo
        by (inl w) = of w (some_same (sym w.at.there ∙ there)) leaf.current refl (is_unshared u y) refl
        by (inr p) = absurd (busy (ap (λ (l : Leaf). l.phase) (some_same (sym there ∙ p.there)) ∙ p.serves))

    step_silent : (p : World × Event) → next u (now a).world y ≡ Ok p → g.own y ≢ i → (label : List ℕ) → line_of label p.1 ≡ []
    step_silent p stepped ne label = silent_line label p.1 (event_silent u (now a).world y p.0 p.1 (not_own ne) stepped)

  -- LINES

  module _ (x : ℕ) where
    abbrev label : List ℕ
    label = label_at (slice_get (system s).components x)

    abbrev reported : List ℕ → List ℕ
    reported a = texts label ((now a).wrote x)

    event_or : Event → Stepped → Event
    event_or e (Ok p) = p.1
    event_or e (Err wrong) = e

    same_event : (p q : World × Event) → ◌≡◌ {A = Stepped} (Ok p) (Ok q) → p.1 ≡ q.1
    unfolding event_or
    same_event p q e = ap (event_or Idle) e

    goes : (y : ℕ) (a : List ℕ) (p : World × Event) → next (system s) (now a).world y ≡ Ok p → reported (y ∷ a) ≡ reported a ++ cond (y == x)
        (line_of label p.1) []
    goes y a p stepped = by (who (now a) y) refl
      where
        stepped_u : next u (now a).world y ≡ Ok p
        stepped_u = step_same (system s) (now a).world y p.0 p.1 stepped

        nothing : (b : Bool) (l : List ℕ) → l ≡ [] → reported a ≡ reported a ++ cond b l []
        nothing true l e = sym (ap (λ l. reported a ++ l) e ∙ append-nil (reported a))
        nothing false l e = sym (append-nil (reported a))

        more : (event : Event) → texts label ((now a).wrote x ++ event ∷ []) ≡ reported a ++ line_of label event
        more event = texts_more label ((now a).wrote x) (event ∷ []) ∙ ap (λ l. reported a ++ l) (append-nil (line_of label event))

        -- by whether it is the leaf, and the leaf is the thread's
        of : (i : ℕ) → who (now a) y ≡ Some i → (same own : Bool) → (y == x) ≡ same → (x == y) ≡ same
            → (before u (all_pay (system s)) w root (good s sound w root first none) a y i).own y == i ≡ own
            → texts label (cond (same && own) ((now a).wrote x ++ p.1 ∷ []) ((now a).wrote x)) ≡ reported a ++ cond same (line_of label p.1) []
        of i is false own e f o = sym (append-nil (reported a))
        of i is true true e f o = more p.1
        of i is true false e f o = nothing true (line_of label p.1) (step_silent a y i is p stepped_u
            (λ q. true≢false (sym (ap (λ n. n == i) q ∙ equal_self i) ∙ o)) label)

        flip : (y == x) ≡ (x == y)
        flip = elim (eqb_tells y x) [
          | inl q ↦ q.0 ∙ sym (ap (λ n. x == n) q.1 ∙ equal_self x)
          | inr q ↦ elim (eqb_tells x y) [ inl r ↦ absurd (q.1 (sym r.1)) | inr r ↦ q.0 ∙ sym r.0 ]
        ]

        by : (o : Option ℕ) → who (now a) y ≡ o → reported (y ∷ a) ≡ reported a ++ cond (y == x) (line_of label p.1) []
        by None e =
            ap (λ (g : Tracked). texts label (g.wrote x)) (turn_none u (all_pay (system s)) w root (good s sound w root first none) a y e)
            ∙ nothing (y == x) (line_of label p.1) (ap (line_of label) (same_event p ((now a).world, Idle)
            (sym stepped ∙ stands_still (system s) (now a).world y (no_thread (now a) y (slice_get (system s).components y) e))))
        by (Some i) e =
            let q = (good s sound w root first none).goes a y in
            let event : q.0.1 ≡ p.1 = same_event q.0 p (sym q.1 ∙ stepped_u) in
            let own = (before u (all_pay (system s)) w root (good s sound w root first none) a y i).own y == i in
            ap (λ (g : Tracked). texts label (g.wrote x)) (turn_is u (all_pay (system s)) w root (good s sound w root first none) a y i e)
            ∙ (ap (λ event. texts label (cond (x == y && own) ((now a).wrote x ++ event ∷ []) ((now a).wrote x))) event
            ∙ (ap (λ b. texts label (cond (b && own) ((now a).wrote x ++ p.1 ∷ []) ((now a).wrote x))) (sym flip)
            ∙ of i e (y == x) own refl (sym flip) refl))

    pub lines_wrote : (turns : List (ℕ × ℕ)) (text : List ℕ)
        → lines_from (system s) (λ y. y == x) (turns_alone turns) (record { world = w; text = text; wrong = None }) ≡ reported (past_of turns)
    lines_wrote = lines_reported s sound w root first x reported refl goes

  prefix_of : (label : List ℕ) (one other : List Event) → IsPrefixOf one other → IsPrefix (texts label one) (texts label other)
  prefix_of label one other f = (texts label f.0, ap (texts label) f.1 ∙ texts_more label one f.0)

  moved : (a b c d : List ℕ) → a ≡ c → b ≡ d → IsPrefix c d → IsPrefix a b
  moved a b c d e g f = (f.0, g ∙ (f.1 ∙ ap (λ l. l ++ f.0) (sym e)))

  -- the lines of a leaf in turns from there on
  abbrev lines_in : ℕ → List (ℕ × ℕ) → List ℕ → List ℕ
  lines_in x turns text = lines_from (system s) (λ y. y == x) (turns_alone turns) (record { world = w; text = text; wrong = None })

  pub all_same : (turns others : List (ℕ × ℕ)) → AllRest (now (past_of turns)).world → AllRest (now (past_of others)).world → (x : ℕ) (text : List ℕ)
      → lines_in x turns text ≡ lines_in x others text
  all_same turns others rest rest_other x text =
      let g = now (past_of turns) in
      let r = rest_same s sound w root first none (past_of turns) (past_of others) rest rest_other in
      let whole = (all_tracked u (all_pay (system s)) w root (good s sound w root first none) (past_of turns)).owned.whole x in
      lines_wrote x turns text
      ∙ (ap (texts (label_at (slice_get (system s).components x))) ((r.same (g.own x) whole).wrote x refl) ∙ sym (lines_wrote x others text))

  pub all_prefixes : (turns others : List (ℕ × ℕ)) (x : ℕ) (text : List ℕ) → IsLeaf s x
      → IsPrefix (lines_in x turns text) (lines_in x others text) ⊎ IsPrefix (lines_in x others text) (lines_in x turns text)
  all_prefixes turns others x text p =
      let label = label_at (slice_get (system s).components x) in
      let g = now (past_of turns) in
      let h = now (past_of others) in
      let e = lines_wrote x turns text in
      let f = lines_wrote x others text in
      elim (leaf_prefixes u (all_pay (system s)) w root (good s sound w root first none) (past_of turns) (past_of others) x
      (slice_get_within (system s).components x p.0 p.1)) [
        | inl q ↦ inl (moved _ _ _ _ e f (prefix_of label (g.wrote x) (h.wrote x) q))
        | inr q ↦ inr (moved _ _ _ _ f e (prefix_of label (h.wrote x) (g.wrote x) q))
      ]

-- from the start
pub all_write_same : (s : Scenario) → IsSound s → IsRaceFree s → IsInputFree s → IsSignalFree s → IsOrderFree s → WritesSame s (IsLeaf s)
all_write_same s sound none unread still quiet =
    let first = first_start s sound in
    write_same s sound unread still (IsLeaf s)
    (λ turns others rest rest_other x p. all_same s sound (start (system s)) (λ k. 0) first none quiet turns others
    (subst AllRest (run_world s sound turns) rest)
    (subst AllRest (run_world s sound others) rest_other) x [])
    (λ turns others x p. all_prefixes s sound (start (system s)) (λ k. 0) first none quiet turns others x [] p)
