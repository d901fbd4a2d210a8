-- Each run to rest has one of the outcomes found.
use Rattle.std.proofs.Common.{◌≡◌, ◌≤◌, ℕ, zero, suc, ◌&&◌, not, Bool, true, false, List, [], ◌∷◌, length, Option, Some, None, Ok, Err}
use Rattle.std.proofs.Common.{refl, ap, sym, ◌∙◌, subst, arith}
use Rattle.std.specs.Prelude.{slice_get}
use Rattle.std.proofs.lemmas.Bool.{true≢false}
use Rattle.gq_model.specs.declared.act.Act.TheVariants.{Turns}
use Rattle.gq_model.specs.declared.fault.Wrong.{Wrong}
use Rattle.gq_model.specs.declared.program.Instruction.{Instruction}
use Rattle.gq_model.specs.machine.Doing.{Event, Stepped}
use Rattle.gq_model.specs.machine.Run as model
use Rattle.gq_model.specs.machine.Run.{Ran, run, turn_from}
use Rattle.gq_model.specs.machine.Scenario.{Component, Scenario, System, system}
use Rattle.gq_model.specs.machine.Step.{next}
use Rattle.gq_model.specs.machine.World.{World, start}
use Rattle.gq_model.proofs.Small_facts.{none_some}
use Rattle.gq_laws.specs.Sound_scenarios.{IsSound}
use Rattle.gq_model.specs.machine.Rest.{can_run}
use Rattle.gq_laws.specs.internal.Uncounted.{uncounted}
use Rattle.gq_laws.proofs.step_shapes.Step_counting.{stands_still}
use Rattle.gq_determined.specs.internal.Threads.{who}
use Rattle.gq_determined.proofs.thread_runs.At_rest.{no_thread}
use Rattle.gq_determined.proofs.thread_runs.Raceless_first_statements.{OpensThere}
use Rattle.gq_determined.proofs.thread_runs.Remaining_section_statements.{AreSections, Lefts}
use Rattle.gq_outcomes.specs.Choices.{asks_racy, can_settle}
use Rattle.gq_outcomes.specs.Laws.{AreAll, acts_of}
use Rattle.gq_outcomes.specs.Outcomes.{Explored, Point, after_turn, explored}
use Rattle.gq_outcomes.proofs.sound.Reaches.{Reaches, last_is, run_more}
use Rattle.gq_outcomes.proofs.complete.Found_by_ends.{Ends, EndsWithin, Exchanges, rests_still}
use Rattle.gq_outcomes.proofs.complete.Held_worlds.{AreQuiet, view}
use Rattle.gq_outcomes.proofs.complete.Good_worlds.{Stands, first, goes, good_first, stands_turn}
use Rattle.gq_outcomes.proofs.complete.Same_outcomes.{kept_ends}
use Rattle.gq_outcomes.proofs.complete.Runs_end.{are_all}
use Rattle.gq_outcomes.proofs.complete.Opened_sections.{AreBy, by_next}
use Rattle.gq_outcomes.proofs.complete.Calm_turns.{calm_turn}
use Rattle.gq_outcomes.proofs.complete.Calm_first.{taken_first}
use Rattle.gq_outcomes.proofs.complete.Racy_uses.{IsClear, Kept, clear_not, clear_off, clear_used, free_of, held, kept_sections, lower, quiet_of}
use Rattle.gq_outcomes.proofs.complete.Racy_uses.{racy, racy_held, shared_of}
use Rattle.gq_outcomes.proofs.complete.Rest_alike.{who_runs}

first_true : (a b : Bool) → (a && b) ≡ true → a ≡ true
first_true true b e = refl
first_true false b e = absurd (true≢false (sym e))

module _ (s : Scenario) (sound : IsSound s) where
  abbrev u : System
  u = uncounted (system s)

  abbrev real : System
  real = system s

  abbrev e : Explored
  e = explored s

  abbrev holds : ℕ → Bool
  holds z = held s sound z

  abbrev P : ℕ → Component → Bool → Instruction → Type 0
  P x c later i = Kept s sound x c later i

  abbrev sections : AreSections P u
  sections x c at = kept_sections s sound x c at

  abbrev quiets : (w : World) → Lefts P u w → AreQuiet holds w
  quiets w left = quiet_of s sound w left

  opens_of : (x : ℕ) (c : Component) (later : Bool) (i : Instruction) → P x c later i → OpensThere u c later i
  opens_of x c later i h = h.0

  -- WORLDS THAT ARE REACHED

  record StandsBy (w : World) : Type 0 where
    stands : Stands s sound holds P sections quiets w
    opened : AreBy u w

  by_turn : (w : World) (x : ℕ) (r : Ran) → r.world ≡ w → StandsBy w → (p : Stepped) → next real r.world x ≡ p
      → StandsBy (model.after_step real x r p).world
  by_turn w x r at h (Err wrong) e = subst StandsBy (sym at) h
  by_turn w x r at h (Ok p) e = record {
    stands = stands_turn s sound holds P sections quiets w x r at h.stands (Ok p) e;
    opened = by (who (view h.stands.m) x) refl;
  }
    where
      same : next real h.stands.m.world x ≡ Ok p
      same = ap (λ w. next real w x) (h.stands.is ∙ sym at) ∙ e

      ok_same : {a b : World × Event} → ◌≡◌ {A = Stepped} (Ok a) (Ok b) → a ≡ b
      ok_same e = cc

      here : AreBy u h.stands.m.world
      here = subst (AreBy u) (sym h.stands.is) h.opened

      by : (o : Option ℕ) → who (view h.stands.m) x ≡ o → AreBy u p.0
      by (Some i) is =
          subst (AreBy u) (ap (λ (q : World × Event). q.0)
          (ok_same (sym (goes s sound holds P sections quiets h.stands.m h.stands.good x).2 ∙ same)))
          (by_next s sound holds P sections quiets opens_of h.stands.m h.stands.good i x is here)
      by None is =
          subst (AreBy u) (ap (λ (q : World × Event). q.0)
          (ok_same (sym (stands_still real h.stands.m.world x (no_thread (view h.stands.m) x (slice_get real.components x) is)) ∙ same))) here

  by_first : StandsBy (start real)
  by_first = record {
    stands = record { m = first s sound holds P sections quiets; is = refl; good = good_first s sound holds P sections quiets };
    opened = record { each = λ k a at. absurd (none_some at) };
  }

  by_run : (past : List ℕ) → (run real (acts_of past)).wrong ≡ None → StandsBy (run real (acts_of past)).world
  by_run [] right = by_first
  by_run (x ∷ past) right = by (by_run past) (run real (acts_of past)).wrong refl
    where
      is : run real (acts_of (x ∷ past)) ≡ turn_from real x (run real (acts_of past)) (run real (acts_of past)).wrong
      is = ap (run real) (last_is x past) ∙ run_more real (acts_of past) ((x, Turns 1) ∷ []) (record { world = start real; text = []; wrong = None })

      by : ((run real (acts_of past)).wrong ≡ None → StandsBy (run real (acts_of past)).world) → (o : Option (ℕ × Wrong)) → (run real (acts_of past)).wrong ≡ o
          → StandsBy (run real (acts_of (x ∷ past))).world
      by before None e =
          let after : run real (acts_of (x ∷ past)) ≡ turn_from real x (run real (acts_of past)) None
          = is ∙ ap (turn_from real x (run real (acts_of past))) e in
          subst (λ (q : Ran). StandsBy q.world) (sym after)
          (by_turn (run real (acts_of past)).world x (run real (acts_of past)) refl (before e) (next real (run real (acts_of past)).world x) refl)
      by before (Some q) e =
          let after : run real (acts_of (x ∷ past)) ≡ run real (acts_of past) = is ∙ ap (turn_from real x (run real (acts_of past))) e in
          absurd (none_some (sym right ∙ (ap (λ (q : Ran). q.wrong) after ∙ e)))

  point_by : (p : Point) → Reaches s p → StandsBy p.world
  point_by p h = subst StandsBy h.world (by_run p.past h.right)

  -- TURNS TAKEN FIRST

  settles : (n : ℕ) (t : List ℕ) (p : Point) (x : ℕ) → Reaches s p → can_settle real e.racy p.world x ≡ true → EndsWithin s n t p
      → EndsWithin s n t (after_turn real x p)
  settles zero t p x reaches can ends = absurd (none ends.turns ends.few ends.ends)
    where
      none : (turns : List ℕ) → length turns ≤ 0 → Ends s p turns t → ⊥
      none [] few ends =
          true≢false (sym (first_true (can_run real p.world x) (not (asks_racy real e.racy p.world x)) can) ∙ rests_still real e.racy p.world ends.0 x)
      none (y ∷ turns) few ends = omega (arith, few)
  settles (suc n) t p x reaches can ends =
      let h = point_by p reaches in
      let m = h.stands.m in
      let can_m = ap (λ w. can_settle real e.racy w x) h.stands.is ∙ can in
      let i = who_runs s sound holds P sections quiets m x (first_true (can_run real m.world x) (not (asks_racy real e.racy m.world x)) can_m) in
      let f = taken_first s sound holds P sections quiets opens_of (shared_of s sound) (lower s sound) (racy s sound) (racy_held s sound) (free_of s sound) t
      (IsClear s sound) (clear_off s sound) (clear_used s sound) (clear_not s sound) n p m h.stands.good (subst (AreBy u) (sym h.stands.is) h.opened)
      h.stands.is i.0 x i.1 (calm_turn s sound holds P sections quiets m h.stands.good i.0 x i.1 e.racy (racy s sound) (λ z so. so) can_m) ends in
      record { turns = f.turns; few = (let few = f.few in omega (arith, few)); ends = f.ends }

  pub exchanges : Exchanges s
  exchanges = record { settles = settles; same = kept_ends s sound }

pub all_found_so : (s : Scenario) → IsSound s → AreAll s
all_found_so s sound = are_all s sound (exchanges s sound)
