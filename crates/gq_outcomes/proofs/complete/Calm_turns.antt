-- A turn that is no choice asks no shared server, where each of these is one of which requests are choices.
use Rattle.std.proofs.Common.{◌≡◌, ◌⊎◌, inl, inr, ℕ, ◌&&◌, not, Bool, true, false, cond, ◌++◌, List, [], ◌∷◌, Option, Some}
use Rattle.std.proofs.Common.{refl, ap, sym, ◌∙◌}
use Rattle.std.specs.Prelude.{get_or, slice_get}
use Rattle.std.proofs.lemmas.Bool.{true≢false}
use Rattle.std.proofs.lemmas.Bool.Decides.{eqb_tells}
use Rattle.gq_model.specs.declared.program.Instruction.{Instruction}
use Rattle.gq_model.specs.machine.Scenario.{Component, Scenario, System, system}
use Rattle.gq_model.specs.machine.Step.{is_to}
use Rattle.gq_model.specs.machine.World.{Request, World, session_at}
use Rattle.gq_laws.specs.Sound_scenarios.{IsSound}
use Rattle.gq_model.specs.machine.Rest.{can_run}
use Rattle.gq_laws.specs.internal.Uncounted.{uncounted}
use Rattle.gq_determined.specs.internal.Threads.{among, who}
use Rattle.gq_determined.proofs.thread_positions.Turn_thread_position.{IsServing, IsWorking, who_is}
use Rattle.gq_determined.proofs.thread_runs.Remaining_section_statements.{AreSections, Lefts}
use Rattle.gq_outcomes.specs.Choices.{asks_next, asks_racy, can_settle, is_one_of}
use Rattle.gq_outcomes.proofs.complete.Held_worlds.{AreQuiet, Held, view}
use Rattle.gq_outcomes.proofs.complete.Good_worlds.{c, event, new, stepped, there_c}
use Rattle.gq_outcomes.proofs.complete.Order_of_requests.{asked_of, roots_in}
use Rattle.gq_outcomes.proofs.complete.Order_steps.{asked_new, ordered}
use Rattle.gq_outcomes.proofs.complete.Alike_held.{IsGood, end}
use Rattle.gq_outcomes.proofs.complete.Asked_server.{Adds, Asks, next_asks}
use Rattle.gq_outcomes.proofs.complete.Unsubmitted_signals.{goes_on}

same_tail : {A : Type 0} (l a b : List A) → l ++ a ≡ l ++ b → a ≡ b
same_tail [] a b e = e
same_tail (c ∷ l) a b e = same_tail l a b (tail e)
  where
    tail : c ∷ (l ++ a) ≡ c ∷ (l ++ b) → l ++ a ≡ l ++ b
    tail e = cc

append_none : {A : Type 0} (l : List A) → l ++ [] ≡ l
append_none [] = refl
append_none (a ∷ l) = ap (λ l. a ∷ l) (append_none l)

second_not : (a b : Bool) → (a && not b) ≡ true → b ≡ false
second_not true true e = absurd (true≢false (sym e))
second_not true false e = refl
second_not false b e = absurd (true≢false (sym e))

module _ (s : Scenario) (sound : IsSound s) (holds : ℕ → Bool) (P : ℕ → Component → Bool → Instruction → Type 0)
    (sections : AreSections P (uncounted (system s))) (quiet_of : (w : World) → Lefts P (uncounted (system s)) w → AreQuiet holds w)
    (m : Held) (h : IsGood s sound holds P sections quiet_of m) (i x : ℕ) (is : who (view m) x ≡ Some i) where
  abbrev u : System
  u = uncounted (system s)

  abbrev e0 : Held
  e0 = end s sound holds P sections quiet_of m h i x is

  abbrev to : Option ℕ
  to = asks_next u m.world x (slice_get u.components x) (slice_get m.world.leaves x)

  -- what the next statement does not name is not asked
  pub not_named : (z : ℕ) → (to ≡ Some z → ⊥) → asked_of e0 i z ≡ []
  not_named z ne = by (who_is (view m) i x is)
    where
      by : IsWorking (view m) i x ⊎ IsServing (view m) i x → asked_of e0 i z ≡ []
      by (inr p) = (ordered s sound holds P sections quiet_of m h i x is).quiet_then p z
      by (inl w) = of asks.how
        where
          there : slice_get u.components x ≡ Some (c s sound holds P sections quiet_of m h i x is)
          there = there_c s sound holds P sections quiet_of m h i x is

          named : to ≡ asks_next u m.world x (Some (c s sound holds P sections quiet_of m h i x is)) (Some w.at.leaf)
          named = λ j. asks_next u m.world x (there j) (w.at.there j)

          asks : Asks m.world (asks_next u m.world x (Some (c s sound holds P sections quiet_of m h i x is)) (Some w.at.leaf)) e0.world
          asks = next_asks u m.world x (c s sound holds P sections quiet_of m h i x is) w.at.leaf (new s sound holds P sections quiet_of m h i x is)
              (event s sound holds P sections quiet_of m h i x is) there w.at.there (goes_on (view m) h.held.calm i x w)
              (stepped s sound holds P sections quiet_of m h i x is)

          a : (more : List Request) × (e0.world.requests ≡ m.world.requests ++ more) × (among (view e0).root i e0.world.requests ≡ more)
          a = asked_new s sound holds P sections quiet_of m h i x is w

          of : (e0.world.requests ≡ m.world.requests) ⊎ Adds m.world
              (asks_next u m.world x (Some (c s sound holds P sections quiet_of m h i x is)) (Some w.at.leaf)) e0.world
              → asked_of e0 i z ≡ []
          of (inl e) =
              let none : a.0 ≡ [] = same_tail m.world.requests a.0 [] (sym a.1 ∙ (e ∙ sym (append_none m.world.requests))) in
              ap (roots_in (view e0).root e0.world z) (a.2 ∙ none)
          of (inr r) =
              let one : a.0 ≡ r.request ∷ [] = same_tail m.world.requests a.0 (r.request ∷ []) (sym a.1 ∙ r.is) in
              let no : is_to z (session_at e0.world r.request.session) ≡ false
              = ap (is_to z) r.there ∙ elim (eqb_tells r.session.server z) [
                | inl q ↦ absurd (ne (named ∙ (r.server ∙ ap Some q.1)))
                | inr q ↦ q.0
              ] in
              ap (roots_in (view e0).root e0.world z) (a.2 ∙ one)
              ∙ ap (λ b. cond b ((view e0).root r.request.session ∷ []) []) no

  -- a turn that is no choice
  pub calm_turn : (racy : List Bool) (shared : ℕ → Bool) → ((z : ℕ) → shared z ≡ true → get_or racy z false ≡ true)
      → can_settle (system s) racy m.world x ≡ true → (z : ℕ) → shared z ≡ true → asked_of e0 i z ≡ []
  calm_turn racy shared all can z so = not_named z (λ named.
      true≢false (sym (all z so) ∙ (sym (ap (is_one_of racy) named)
      ∙ second_not (can_run (system s) m.world x) (asks_racy (system s) racy m.world x) can)))
