-- Each world that an accepted scenario comes to is counted: no leaf takes more steps than its budget.
use Rattle.std.proofs.Common.{◌≡◌, ◌≤◌, ℕ, zero, suc, ◌+◌, inl, inr, cond, Bool, true, false, List, [], ◌∷◌, map, length, Option, Some, None, Ok, refl, ap}
use Rattle.std.proofs.Common.{sym, ◌∙◌}
use Rattle.std.proofs.Common.{subst, arith}
use Rattle.std.specs.Prelude.{slice_get, slice_index, slice_set}
use Rattle.gq_model.specs.declared.section.Section.{Section}
use Rattle.gq_model.specs.declared.section.Section.TheVariants.{Main, Reacting}
use Rattle.gq_model.specs.machine.Scenario.{Scenario, System, Component, components, system}
use Rattle.gq_model.specs.machine.Routes.{is_service, server_of}
use Rattle.gq_model.specs.machine.World.{Signal, Leaf, World, start}
use Rattle.gq_model.specs.machine.Doing.{Doing, Event, Stepped, Idle}
use Rattle.gq_model.specs.machine.Step.{first_signal, step_of, next}
use Rattle.gq_model.specs.machine.Sections.{is_own_section}
use Rattle.gq_model.specs.rules.Use.{subject, is_there, from_sections, from_leaves, asked_of, provided_by, times, step_budget}
use Rattle.gq_laws.specs.Session_links.{IsLinkedWorld}
use Rattle.gq_laws.specs.Shapes.{IsWholeWorld}
use Rattle.gq_laws.specs.Sound_scenarios.{IsSound}
use Rattle.gq_laws.specs.internal.Remaining_instructions.{AreLeft, IsGood}
use Rattle.gq_laws.specs.Inside_steps.{TakesLeaf}
use Rattle.gq_model.specs.machine.Rest.{can_run}
use Rattle.gq_laws.specs.Turn_effects.{steps_of, signals_of, signals_if, signals_then}
use Rattle.gq_laws.specs.internal.Section_counts.{Often, Requests, made_from, made_for, Within, Since, since_start, times_taken, taken_of, taken_in, IsCounted}
use Rattle.gq_model.proofs.Small_facts.{some_same, none_some, add_none, add_next}
use Rattle.gq_laws.proofs.session_links.Written_world_links.{set_here, set_else}
use Rattle.gq_laws.proofs.session_links.Linked_worlds.{kept_linked}
use Rattle.gq_laws.proofs.quota_payment.Routed_server_provides.{server_provides}
use Rattle.gq_model.proofs.Small_facts.{text_is}
use Rattle.gq_laws.proofs.step_shapes.Step_counting.{counts_steps, takes_signals, stands_still}
use Rattle.gq_laws.proofs.step_shapes.Signal_lists.{Takes, takes_first}
use Rattle.std.proofs.lemmas.Bool.Decides.{eqb_tells}
use Rattle.gq_model.specs.declared.phase.Phase.{Phase}
use Rattle.gq_model.specs.declared.phase.Phase.TheVariants.{Pending, Running, Blocked, Serving, Handling, Exited}
use Rattle.gq_laws.proofs.step_counts.Counted_world_step.{Rises}
use Rattle.gq_laws.proofs.step_counts.Signal_taken_counted.{reacted_counted}
use Rattle.gq_laws.proofs.verified_programs.Sure_system_facts.{IsSure}
use Rattle.gq_laws.proofs.verified_programs.Sound_systems.{sure_of}
use Rattle.gq_laws.proofs.typed_worlds.Typed_world_step.{Outcome, Idles, Goes_on, Has_asked, Has_taken, Has_reacted, Has_ended, outcome}
use Rattle.gq_laws.proofs.typed_worlds.Accepted_run_typed.{counted}
use Rattle.gq_laws.proofs.step_counts.Section_request_sums.{steps_below}
use Rattle.gq_laws.proofs.step_counts.Inside_step_counted.{IsOneOn, goes_counted}
use Rattle.gq_laws.proofs.step_counts.Section_end_counted.{ended_counted}
use Rattle.gq_laws.proofs.step_counts.Request_taken_counted.{taken_counted}
use Rattle.gq_laws.proofs.step_counts.Asking_counted.{ProvidesNamed, asked_counted}
use Rattle.gq_laws.proofs.step_counts.Start_counted.{start_counted}
use Rattle.gq_laws.proofs.step_shapes.Step_counting.{index_there}

-- STEPS ARE COUNTED

pub steps_at : (leaves : List Leaf) (x : ℕ) (leaf : Leaf) → slice_get leaves x ≡ Some leaf → slice_get (map (λ l. l.steps) leaves) x ≡ Some leaf.steps
steps_at [] x leaf e = absurd (none_some e)
steps_at (l ∷ rest) zero leaf e = ap (λ (l : Leaf). Some l.steps) (some_same e)
steps_at (l ∷ rest) (suc x) leaf e = steps_at rest x leaf e

-- the leaf that takes a step has one more
one_more : (system : System) (w : World) (x : ℕ) (old : Leaf) → slice_get w.leaves x ≡ Some old → (new : World) (event : Event) → can_run system w x ≡ true
    → next system w x ≡ Ok (new, event)
    → (leaf : Leaf) → slice_get new.leaves x ≡ Some leaf → leaf.steps ≡ suc old.steps
one_more system w x old was new event can stepped leaf there =
    let all = counts_steps system w x new event can stepped in
    let now : slice_get (steps_of new) x ≡ Some (suc (slice_index (steps_of w) x)) =
    ap (λ l. slice_get l x) all ∙ set_here (steps_of w) x (suc (slice_index (steps_of w) x)) old.steps (steps_at w.leaves x old was) in
    some_same (sym (steps_at new.leaves x leaf there) ∙ now) ∙ ap suc (index_there w.leaves x old was)

-- SIGNALS ARE TAKEN

signals_or : (signals : List Signal) (o : Option (ℕ × List Signal)) → ((p : ℕ × List Signal) → o ≡ Some p → Takes signals p)
    → (i : ℕ) → times_taken signals i ≤ times_taken (signals_if signals o) i
signals_or signals None takes i = omega arith
signals_or signals (Some p) takes i =
    let t = takes p refl in
    elim (eqb_tells i p.0) [
      | inl e ↦ (let more = t.here in let a = ap (times_taken p.1) e.1 in let b = ap (times_taken signals) e.1 in omega (arith, more, a, b))
      | inr e ↦ (let same = t.else i e.1 in omega (arith, same))
    ]

-- a leaf has taken no signal less often after a step
then_rises : (leaf : Leaf) (phase : Phase) (i : ℕ) → times_taken leaf.signals i ≤ times_taken (signals_then leaf phase) i
then_rises leaf Pending i = omega arith
then_rises leaf Running i = omega arith
then_rises leaf Blocked i = omega arith
then_rises leaf Serving i = signals_or leaf.signals (first_signal leaf.signals) (λ p e. takes_first leaf.signals p e) i
then_rises leaf Handling i = omega arith
then_rises leaf Exited i = omega arith

abbrev signals_of_or : Option (List Signal) → ℕ → ℕ
signals_of_or None i = 0
signals_of_or (Some signals) i = times_taken signals i

signals_there : (leaves : List Leaf) (x : ℕ) (leaf : Leaf) → slice_get leaves x ≡ Some leaf
    → slice_get (map (λ (l : Leaf). l.signals) leaves) x ≡ Some leaf.signals
signals_there [] x leaf e = absurd (none_some e)
signals_there (l ∷ rest) zero leaf e = ap (λ (l : Leaf). Some l.signals) (some_same e)
signals_there (l ∷ rest) (suc x) leaf e = signals_there rest x leaf e

signals_at : (leaves : List Leaf) (x : ℕ) → taken_of (slice_get leaves x) ≡ signals_of_or (slice_get (map (λ (l : Leaf). l.signals) leaves) x)
signals_at [] x = refl
signals_at (l ∷ rest) zero = refl
signals_at (l ∷ rest) (suc x) = signals_at rest x

next_rises : (system : System) (w : World) (x : ℕ) (leaf : Leaf) → slice_get w.leaves x ≡ Some leaf → (new : World) (event : Event)
    → can_run system w x ≡ true → next system w x ≡ Ok (new, event) → Rises w new
next_rises system w x leaf there new event can stepped y i =
    let all = takes_signals system w x leaf new event can there stepped in
    let now : taken_in new y i ≡ signals_of_or (slice_get (slice_set (signals_of w) x (signals_then leaf leaf.phase)) y) i =
    ap (λ f. f i) (signals_at new.leaves y) ∙ ap (λ l. signals_of_or (slice_get l y) i) all in
    let was : taken_in w y i ≡ signals_of_or (slice_get (signals_of w) y) i = ap (λ f. f i) (signals_at w.leaves y) in
    elim (eqb_tells y x) [
      | inl e ↦ (
          let here : slice_get (slice_set (signals_of w) x (signals_then leaf leaf.phase)) y ≡ Some (signals_then leaf leaf.phase) =
          ap (slice_get (slice_set (signals_of w) x (signals_then leaf leaf.phase))) e.1
          ∙ set_here (signals_of w) x (signals_then leaf leaf.phase) leaf.signals (signals_there w.leaves x leaf there) in
          let before : taken_in w y i ≡ times_taken leaf.signals i = ap (λ y. taken_in w y i) e.1 ∙ ap (λ o. taken_of o i) there in
          let after = ap (λ o. signals_of_or o i) here in
          let more = then_rises leaf leaf.phase i in
          omega (arith, now, before, after, more))
      | inr e ↦ (
          let same = ap (λ o. signals_of_or o i) (set_else (signals_of w) x y (signals_then leaf leaf.phase) e.1) in
          omega (arith, now, was, same))
    ]

-- WHAT A STEP DOES

module _ (d : Doing) (sure : IsSure d.system) (named : ProvidesNamed d.system) (takes : TakesLeaf d) (h : IsLinkedWorld d.system d.world)
    (at : slice_get d.system.components d.x ≡ Some d.component) (own : IsOneOn d takes)
    (since : Since) (k : IsCounted since d.system d.world) (w : World) (linked : IsLinkedWorld d.system w) (stepped : (leaf : Leaf)
    → slice_get w.leaves d.x ≡ Some leaf → leaf.steps ≡ d.leaf.steps) (rises : Rises d.world w) where
  outcome_counted : Outcome k.promised (Within d.system k.left) d w → IsCounted since d.system w
  outcome_counted (Idles same) = subst (IsCounted since d.system) (sym same) k
  outcome_counted (Goes_on a inside others leads event is) =
      goes_counted k.promised k.left d sure takes h k.typed at own w stepped rises a others leads since k.done k.made k.counts
  outcome_counted (Has_asked a i rest first served new judges goes_on event is awaits) =
      asked_counted k.promised k.left d sure named takes h k.typed at own w rises linked stepped a i rest first served new judges goes_on event is awaits
      since k.done k.made k.counts
  outcome_counted (Has_taken serves r rest first event is) =
      taken_counted k.promised k.left d sure takes h k.typed at own w rises serves r rest first event is since k.done k.made k.counts
  outcome_counted (Has_reacted serves i signals first event is) =
      reacted_counted k.promised k.left d sure takes h k.typed at own serves (i, signals) first w event is since k.done k.made k.counts
  outcome_counted (Has_ended a nothing out last meets ends event is) =
      ended_counted k.promised k.left d sure takes h k.typed at own w rises a nothing out last meets ends event is since k.done k.made k.counts

same_world : {v w : World} {a b : Event} → ◌≡◌ {A = Stepped} (Ok (v, a)) (Ok (w, b)) → v ≡ w
same_world e = ap (λ (p : World × Event). p.0) (same_ok e)
  where
    same_ok : {p q : World × Event} → ◌≡◌ {A = Stepped} (Ok p) (Ok q) → p ≡ q
    same_ok e = cc

-- one turn
next_counted : (system : System) → IsSure system → ProvidesNamed system → (w : World) → IsWholeWorld system w → IsLinkedWorld system w
    → AreLeft (IsGood system) system w
    → (since : Since) → IsCounted since system w
    → (x : ℕ) (new : World) (event : Event) → IsLinkedWorld system new → next system w x ≡ Ok (new, event) → IsCounted since system new
next_counted system sure named w whole h left since k x new event linked stepped = turn (can_run system w x) refl
  where
    idle : next system w x ≡ Ok (w, Idle) → IsCounted since system new
    idle e = subst (IsCounted since system) (same_world (sym e ∙ stepped)) k

    by : can_run system w x ≡ true → (o : Option Component) → slice_get system.components x ≡ o → (p : Option Leaf) → slice_get w.leaves x ≡ p
        → step_of system w x o p ≡ Ok (new, event) → IsCounted since system new
    by can None e p f g = subst (IsCounted since system) (same_world g) k
    by can (Some c) e None f g = subst (IsCounted since system) (same_world g) k
    by can (Some c) e (Some leaf) f g =
        let d : Doing = record { system = system; world = w; x = x; component = c; leaf = record leaf { steps = suc leaf.steps } } in
        let taken : TakesLeaf d = record { old = leaf; there = f; slots = refl; phase = refl; current = refl; reacting = refl } in
        let extra = Within system k.left in
        let o = outcome k.promised extra d sure taken h k.typed e (left x c leaf e f).todo (whole.inputs x c leaf e f) (whole.signals x c leaf e f)
        (counted k.promised extra system w x c leaf (suc leaf.steps) leaf.phase (k.typed.leaves x c leaf e f)) in
        outcome_counted d sure named taken h e refl since k new linked (one_more system w x leaf f new event can stepped)
        (next_rises system w x leaf f new event can stepped) (o.ends new event g)

    turn : (b : Bool) → can_run system w x ≡ b → IsCounted since system new
    turn false can = idle (stands_still system w x can)
    turn true can = by can (slice_get system.components x) refl (slice_get w.leaves x) refl stepped

-- THE WORLDS OF A SCENARIO

provides_name : (provides : Option (List ℕ)) (service : List ℕ) → is_service provides service ≡ true → provides ≡ Some service
provides_name None service e = absurd cc
provides_name (Some own) service e = ap Some (text_is own service e)

module _ (s : Scenario) (sound : IsSound s) where
  sure : IsSure (system s)
  sure = sure_of s sound

  named : ProvidesNamed (system s)
  named x y c d service there routed at = provides_name d.node.provides service (server_provides s sound.formed.differ x y c d service there routed at)

  pub counted_on : (w : World) → IsWholeWorld (system s) w → IsLinkedWorld (system s) w → AreLeft (IsGood (system s)) (system s) w → (since : Since)
      → IsCounted since (system s) w → (x : ℕ) (new : World) (event : Event) → next (system s) w x ≡ Ok (new, event) → IsCounted since (system s) new
  counted_on w whole linked left since count x new event e =
      next_counted (system s) sure named w whole linked left since count x new event (kept_linked (system s) w x new event linked e) e

  pub counted_first : IsCounted (since_start (system s)) (system s) (start (system s))
  counted_first = start_counted (system s) sure

-- REQUESTS ARE THOSE OF SECTIONS THAT WERE ASKED FOR

made_below : (system : System) (x : ℕ) (service : List ℕ) (section : Section) (done : Often) (made : Requests) (n : ℕ) (cs : List Component)
    → ((k : ℕ) (c : Component) → slice_get cs k ≡ Some c
    → made (n + k) service section ≤ from_sections (done (n + k)) (subject system c) service section c.node.program.sections)
    → made_from made system x service section n cs ≤ from_leaves done system x service section n cs
made_below system x service section done made n [] h = omega arith
made_below system x service section done made n (c ∷ rest) h =
    let further = made_below system x service section done made (suc n) rest
    (λ k b e. subst (λ m. made m service section ≤ from_sections (done m) (subject system b) service section b.node.program.sections) (sym (add_next n k))
    (h (suc k) b e)) in
    let first = subst (λ m. made m service section ≤ from_sections (done m) (subject system c) service section c.node.program.sections) (sym (add_none n))
    (h zero c refl) in
    by (is_there x (server_of system c service)) first further
  where
    by : (b : Bool) → made n service section ≤ from_sections (done n) (subject system c) service section c.node.program.sections
        → made_from made system x service section (suc n) rest ≤ from_leaves done system x service section (suc n) rest
        → cond b (made n service section) 0 + made_from made system x service section (suc n) rest
        ≤ cond b (from_sections (done n) (subject system c) service section c.node.program.sections) 0 + from_leaves done system x service section
        (suc n) rest
    by true first further = omega (arith, first, further)
    by false first further = omega (arith, further)

module _ (since : Since) (system : System) (w : World) (k : IsCounted since system w) where
  asked_below : (x : ℕ) (section : Section) (provides : Option (List ℕ)) → made_for k.made system x section provides ≤ asked_of k.done system x section provides
  asked_below x section None = omega arith
  asked_below x section (Some service) = made_below system x service section k.done k.made 0 system.components each
    where
      each : (y : ℕ) (c : Component) → slice_get system.components y ≡ Some c
          → k.made (0 + y) service section ≤ from_sections (k.done (0 + y)) (subject system c) service section c.node.program.sections
      each y c there =
          let most = k.counts.requests y c there service section in
          let same : y ≡ 0 + y = omega arith in
          subst (λ m. k.made m service section ≤ from_sections (k.done m) (subject system c) service section c.node.program.sections) same (omega (arith, most))

  -- a section other than `main` is asked for no more often than sections that were asked for ask for it
  pub done_below : (x : ℕ) (section : Section) → is_own_section section ≡ false
      → k.done x section ≤ asked_of k.done system x section (provided_by (slice_get system.components x))
  done_below x section other =
      let a = k.counts.asked x section other in
      let b = asked_below x section (provided_by (slice_get system.components x)) in
      omega (arith, a, b)
