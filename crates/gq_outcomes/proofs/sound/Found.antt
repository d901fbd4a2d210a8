-- Each outcome that is found is that of a run.
use Rattle.std.proofs.Common.{◌≡◌, inl, inr, ℕ, zero, suc, ◌+◌, ◌==◌, Bool, true, false, cond, not, ◌&&◌, ◌||◌, List, [], ◌∷◌, ◌++◌, length}
use Rattle.std.proofs.Common.{Option, Some, None, refl, ap, sym, ◌∙◌, subst, arith}
use Rattle.std.specs.Prelude.{slice_get, get_or}
use Rattle.std.proofs.lemmas.Bool.{true≢false}
use Rattle.gq_model.specs.machine.Accounts.{account_lines, accounts}
use Rattle.gq_model.specs.machine.Run.{Acts, run}
use Rattle.gq_model.specs.machine.Scenario.{Component, Scenario, System, components, system}
use Rattle.gq_model.specs.machine.World.{World}
use Rattle.gq_model.specs.machine.Step_budgets.{all_steps_in}
use Rattle.gq_model.specs.rules.Accept.{budgets, step_budgets}
use Rattle.gq_model.proofs.Small_facts.{none_some}
use Rattle.gq_laws.specs.Group_alone.{own_lines}
use Rattle.gq_laws.specs.Progress.{AllRest}
use Rattle.gq_laws.specs.Shapes.{Each}
use Rattle.gq_laws.specs.Reached_worlds.{IsReached}
use Rattle.gq_laws.specs.Sound_scenarios.{IsSound}
use Rattle.gq_model.specs.machine.Rest.{can_run, runs_as}
use Rattle.gq_laws.proofs.progress.No_deadlock.{rest_or_run}
use Rattle.gq_laws.proofs.progress.Lasting_world_invariant.{reached_lasts}
use Rattle.gq_outcomes.specs.Choices.{asks_racy, can_settle, choices, choices_from, is_at_choice, is_settled, some_settle}
use Rattle.gq_outcomes.specs.Laws.{AreOutcomes, IsOutcome, acts_of, quiet_lines}
use Rattle.gq_outcomes.specs.Outcomes.{Explored, Going, Outcome, Point, Search, after_turn, and_further, and_on, arrive, branch, choose, each_choice, enter}
use Rattle.gq_outcomes.specs.Outcomes.{explored, first_point, if_none, is_found, is_seen, kept, lines_of, most_turns, outcome_of, outcomes, round, rounds}
use Rattle.gq_outcomes.specs.Outcomes.{search_of, settled, unless_cut, visit, while_settling, with_outcome}
use Rattle.gq_outcomes.proofs.sound.Reaches.{Reaches, first_reaches, turn_reaches}

-- SETTLED WORLDS AT NO CHOICE

first_false : (a b : Bool) → (a || b) ≡ false → a ≡ false
first_false true b e = absurd cc
first_false false b e = refl

second_false : (a b : Bool) → (a || b) ≡ false → b ≡ false
second_false true b e = absurd cc
second_false false b e = e

pub no_false : (b : Bool) → not b ≡ true → b ≡ false
no_false true e = absurd cc
no_false false e = refl

-- a leaf that can take a turn, and takes no turn by a choice or by none, is none
neither : (a b : Bool) → (a && not b) ≡ false → (a && b) ≡ false → a ≡ false
neither true true e f = f
neither true false e f = e
neither false b e f = refl

module _ (u : System) (racy : List Bool) (w : World) where
  pub none_settles : (x k : ℕ) (cs : List Component) (c : Component) → some_settle u racy w x cs ≡ false → slice_get cs k ≡ Some c
      → can_settle u racy w (x + k) ≡ false
  none_settles x k [] c e there = absurd (none_some there)
  none_settles x zero (d ∷ cs) c e there =
      let at : x + 0 ≡ x = omega arith in
      ap (can_settle u racy w) at ∙ first_false (can_settle u racy w x) (some_settle u racy w (suc x) cs) e
  none_settles x (suc k) (d ∷ cs) c e there =
      let at : x + suc k ≡ suc x + k = omega arith in
      ap (can_settle u racy w) at
      ∙ none_settles (suc x) k cs c (second_false (can_settle u racy w x) (some_settle u racy w (suc x) cs) e) there

  none_chooses : (x k : ℕ) (cs : List Component) (c : Component) → choices_from u racy w x cs ≡ [] → slice_get cs k ≡ Some c
      → is_at_choice u racy w (x + k) ≡ false
  none_chooses x k [] c e there = absurd (none_some there)
  none_chooses x k (d ∷ cs) c e there = by (λ f j at. none_chooses (suc x) j cs c f at) (is_at_choice u racy w x) refl k there
    where
      by : (choices_from u racy w (suc x) cs ≡ [] → (j : ℕ) → slice_get cs j ≡ Some c → is_at_choice u racy w (suc x + j) ≡ false)
          → (b : Bool) → is_at_choice u racy w x ≡ b → (k : ℕ) → slice_get (d ∷ cs) k ≡ Some c → is_at_choice u racy w (x + k) ≡ false
      by more true is k there =
          let rest = choices_from u racy w (suc x) cs in
          absurd (cc (sym (ap (λ b. cond b (x ∷ rest) rest) is) ∙ e))
      by more false is zero there = let at : x + 0 ≡ x = omega arith in ap (is_at_choice u racy w) at ∙ is
      by more false is (suc k) there =
          let rest = choices_from u racy w (suc x) cs in
          let at : x + suc k ≡ suc x + k = omega arith in
          ap (is_at_choice u racy w) at ∙ more (sym (ap (λ b. cond b (x ∷ rest) rest) is) ∙ e) k there

  -- in a settled world at no choice no leaf can take a turn
  none_runs : is_settled u racy w ≡ true → choices u racy w ≡ [] → (x : ℕ) → can_run u w x ≡ true → ⊥
  none_runs calm none x can = by (slice_get u.components x) refl
    where
      by : (o : Option Component) → slice_get u.components x ≡ o → ⊥
      by None e = true≢false (sym can ∙ ap (λ o. runs_as w x o (slice_get w.leaves x)) e)
      by (Some c) e =
          let at : 0 + x ≡ x = omega arith in
          let one = none_settles 0 x u.components c (no_false (some_settle u racy w 0 u.components) calm) e in
          let two = none_chooses 0 x u.components c none e in
          let is = neither (can_run u w x) (asks_racy u racy w x) (ap (can_settle u racy w) (sym at) ∙ one) (ap (is_at_choice u racy w) (sym at) ∙ two) in
          true≢false (sym can ∙ is)

-- LINES

module _ (s : Scenario) where
  pub quiet_is : (acts : Acts) (x : ℕ) (cs : List Component) (said : List (List ℕ)) → length said ≡ length cs
      → ((k : ℕ) (c : Component) → slice_get cs k ≡ Some c → if_none c.node.provides (own_lines (system s) (λ z. z == x + k) acts) ≡ get_or said k [])
      → quiet_lines s x cs acts ≡ lines_of said
  quiet_is acts x [] [] long h = refl
  quiet_is acts x [] (l ∷ said) long h = absurd (omega (arith, long))
  quiet_is acts x (c ∷ cs) [] long h = absurd (omega (arith, long))
  quiet_is acts x (c ∷ cs) (l ∷ said) long h =
      let at : x ≡ x + 0 = omega arith in
      let first : if_none c.node.provides (own_lines (system s) (λ z. z == x) acts) ≡ l =
      ap (λ n. if_none c.node.provides (own_lines (system s) (λ z. z == n) acts)) at ∙ h 0 c refl in
      let more = quiet_is acts (suc x) cs said (omega (arith, long)) (λ k d there. let next : suc x + k ≡ x + suc k = omega arith in
      ap (λ n. if_none d.node.provides (own_lines (system s) (λ z. z == n) acts)) next ∙ h (suc k) d there) in
      ap (λ a. a ++ quiet_lines s (suc x) cs acts) first ∙ ap (λ b. l ++ b) more

  abbrev real : System
  real = system s

  abbrev e : Explored
  e = explored s

  -- SETTLING

  pub while_reaches : (n x : ℕ) (p : Point) → Reaches s p → Reaches s (while_settling n e x p).point
  while_reaches zero x p h = h
  while_reaches (suc n) x p h = by (λ q k. while_reaches n x q k) (can_settle real e.racy p.world x)
    where
      by : ((q : Point) → Reaches s q → Reaches s (while_settling n e x q).point) → (b : Bool)
          → Reaches s (and_on b (record { point = p; left = suc n }) (λ q. while_settling n e x q) (after_turn real x p)).point
      by more true = more (after_turn real x p) (turn_reaches s x p h)
      by more false = h

  pub round_reaches : (x : ℕ) (cs : List Component) (g : Going) → Reaches s g.point → Reaches s (round e x cs g).point
  round_reaches x [] g h = h
  round_reaches x (c ∷ cs) g h = round_reaches (suc x) cs (while_settling g.left e x g.point) (while_reaches g.left x g.point h)

  pub rounds_reaches : (k : ℕ) (g : Going) → Reaches s g.point → Reaches s (rounds k e g).point
  rounds_reaches zero g h = h
  rounds_reaches (suc k) g h = by (λ g h. rounds_reaches k g h) ((round e 0 real.components g).left == g.left)
    where
      by : ((g : Going) → Reaches s g.point → Reaches s (rounds k e g).point) → (b : Bool)
          → Reaches s (and_further b (λ g. rounds k e g) (round e 0 real.components g)).point
      by more true = round_reaches 0 real.components g h
      by more false = more (round e 0 real.components g) (round_reaches 0 real.components g h)

  -- OUTCOMES

  abbrev Good : Search → Type 0
  Good t = Each (IsOutcome s) t.found

  last_too : (found : List Outcome) (o : Outcome) → Each (IsOutcome s) found → IsOutcome s o → Each (IsOutcome s) (found ++ (o ∷ []))
  last_too [] o all one = (one, tt {0})
  last_too (f ∷ found) o all one = (all.0, last_too found o all.1 one)

  outcome_too : (found : List Outcome) (o : Outcome) → Each (IsOutcome s) found → IsOutcome s o → Each (IsOutcome s) (with_outcome o found)
  outcome_too found o all one = by (is_found o.text found)
    where
      by : (b : Bool) → Each (IsOutcome s) (cond b found (found ++ (o ∷ [])))
      by true = all
      by false = last_too found o all one

  module _ (sound : IsSound s) where
    abbrev steps : World → List ℕ
    steps w = all_steps_in w (step_budgets (budgets s))

    outcome_is : (p : Point) → Reaches s p → is_settled real e.racy p.world ≡ true → choices real e.racy p.world ≡ [] → IsOutcome s (outcome_of e p)
    outcome_is p h calm none =
        let reached : IsReached s p.world = record { turns = acts_of p.past; is = h.world } in
        let rests : AllRest p.world = elim (rest_or_run s p.world (reached_lasts s sound p.world reached)) [
          | inl r ↦ r
          | inr r ↦ absurd (none_runs real e.racy p.world calm none r.0 r.1)
        ] in
        record {
          right = h.right;
          rests = subst AllRest (sym h.world) rests;
          ends = ap (λ l. l ++ account_lines s.version (accounts s (run real (acts_of p.past)).world (steps (run real (acts_of p.past)).world)))
              (quiet_is (acts_of p.past) 0 (components s) p.said h.count (λ k c there. let at : 0 + k ≡ k = omega arith in
              ap (λ n. if_none c.node.provides (own_lines real (λ z. z == n) (acts_of p.past))) at ∙ h.lines k c there))
              ∙ ap (λ w. lines_of p.said ++ account_lines s.version (accounts s w (steps w))) h.world;
        }

    module _ (go : Point → Search → Search) (keeps : (q : Point) (t : Search) → Reaches s q → Good t → Good (go q t)) where
      choose_good : (p : Point) (x n : ℕ) (t : Search) → Reaches s p → Good t → Good (choose e go p x n t)
      choose_good p x zero t h good = good
      choose_good p x (suc n) t h good = keeps (after_turn real x p) (record t { left = n }) (turn_reaches s x p h) good

      each_good : (p : Point) (xs : List ℕ) (t : Search) → Reaches s p → Good t → Good (each_choice e go p xs t)
      each_good p [] t h good = good
      each_good p (x ∷ xs) t h good = each_good p xs (choose e go p x t.left t) h (choose_good p x t.left t h good)

      branch_good : (p : Point) (xs : List ℕ) (t : Search) → choices real e.racy p.world ≡ xs → is_settled real e.racy p.world ≡ true → Reaches s p → Good t
          → Good (branch e go p xs t)
      branch_good p [] t none calm h good = outcome_too t.found (outcome_of e p) good (outcome_is p h calm none)
      branch_good p (x ∷ xs) t some calm h good = each_good p (x ∷ xs) t h good

      enter_good : (p : Point) (b c : Bool) (t : Search) → is_settled real e.racy p.world ≡ b → Reaches s p → Good t → Good (enter b c e go p (kept p) t)
      enter_good p false c t calm h good = good
      enter_good p true true t calm h good = good
      enter_good p true false t calm h good =
          branch_good p (choices real e.racy p.world) (record t { seen = kept p ∷ t.seen }) refl calm h good

      arrive_good : (g : Going) (t : Search) → Reaches s g.point → Good t → Good (arrive e go g t)
      arrive_good g t h good =
          enter_good g.point (is_settled real e.racy g.point.world) (is_seen (kept g.point) t.seen) (record t { left = g.left }) refl h good

    visit_good : (n : ℕ) (p : Point) (t : Search) → Reaches s p → Good t → Good (visit n e p t)
    visit_good zero p t h good = good
    visit_good (suc n) p t h good = by (λ q u k g. visit_good n q u k g) t.cut
      where
        by : ((q : Point) (u : Search) → Reaches s q → Good u → Good (visit n e q u)) → (b : Bool)
            → Good (unless_cut b (λ t. arrive e (λ q u. visit n e q u) (settled e (record { point = p; left = t.left })) t) t)
        by more true = good
        by more false =
            let g : Going = record { point = p; left = t.left } in
            arrive_good (λ q u. visit n e q u) more (settled e g) t (rounds_reaches (suc g.left) g h) good

    pub search_good : (most : ℕ) → Good (search_of most s)
    search_good most = visit_good (suc most) (first_point real) (record { seen = []; found = []; left = most; cut = false }) (first_reaches s) (tt {0})

    pub are_outcomes : AreOutcomes s
    unfolding outcomes
    are_outcomes = search_good most_turns
