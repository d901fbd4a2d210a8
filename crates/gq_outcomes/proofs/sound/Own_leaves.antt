-- The turns of each outcome that is found are turns of leaves that are there.
use Rattle.std.proofs.Common.{◌≡◌, ◌<◌, ℕ, zero, suc, ◌+◌, ◌==◌, Bool, true, false, cond, List, [], ◌∷◌, ◌++◌, length, Some, Ok, Err, refl, arith}
use Rattle.std.specs.Prelude.{slice_get}
use Rattle.gq_model.specs.machine.Doing.{Stepped}
use Rattle.gq_model.specs.machine.Scenario.{Component, Scenario, System, components, system}
use Rattle.gq_model.specs.machine.Step.{next}
use Rattle.gq_model.specs.machine.World.{World}
use Rattle.gq_laws.specs.Shapes.{Each}
use Rattle.gq_outcomes.specs.Choices.{can_settle, choices, choices_from, is_at_choice, is_settled}
use Rattle.gq_outcomes.specs.Outcomes.{Explored, Going, Outcome, Point, Search, after_step, after_turn, and_further, and_on, arrive, branch, choose}
use Rattle.gq_outcomes.specs.Outcomes.{each_choice, enter, explored, first_point, is_found, is_seen, kept, most_turns, outcome_of, outcomes, round, rounds}
use Rattle.gq_outcomes.specs.Outcomes.{search_of, settled, unless_cut, visit, while_settling, with_outcome}

-- a leaf that is there is a component
pub component_at : (cs : List Component) (x : ℕ) → x < length cs → (c : Component) × (slice_get cs x ≡ Some c)
component_at [] x within = absurd (omega (arith, within))
component_at (c ∷ cs) zero within = (c, refl)
component_at (c ∷ cs) (suc x) within = component_at cs x (omega (arith, within))

module _ (s : Scenario) where
  abbrev real : System
  real = system s

  abbrev e : Explored
  e = explored s

  abbrev IsThere : ℕ → Type 0
  IsThere x = x < length (components s)

  abbrev pub AreThere : List ℕ → Type 0
  AreThere = Each IsThere

  -- TURNS

  turn_there : (x : ℕ) (p : Point) → IsThere x → AreThere p.past → AreThere (after_turn real x p).past
  turn_there x p within h = by (next real p.world x)
    where
      by : (r : Stepped) → AreThere (after_step real x p r).past
      by (Ok q) = (within, h)
      by (Err wrong) = h

  while_there : (n x : ℕ) (p : Point) → IsThere x → AreThere p.past → AreThere (while_settling n e x p).point.past
  while_there zero x p within h = h
  while_there (suc n) x p within h = by (λ q k. while_there n x q within k) (can_settle real e.racy p.world x)
    where
      by : ((q : Point) → AreThere q.past → AreThere (while_settling n e x q).point.past) → (b : Bool)
          → AreThere (and_on b (record { point = p; left = suc n }) (λ q. while_settling n e x q) (after_turn real x p)).point.past
      by more true = more (after_turn real x p) (turn_there x p within h)
      by more false = h

  round_there : (x : ℕ) (cs : List Component) (g : Going) → x + length cs ≡ length (components s) → AreThere g.point.past
      → AreThere (round e x cs g).point.past
  round_there x [] g all h = h
  round_there x (c ∷ cs) g all h =
      round_there (suc x) cs (while_settling g.left e x g.point) (omega (arith, all)) (while_there g.left x g.point (omega (arith, all)) h)

  rounds_there : (k : ℕ) (g : Going) → AreThere g.point.past → AreThere (rounds k e g).point.past
  rounds_there zero g h = h
  rounds_there (suc k) g h = by (λ g h. rounds_there k g h) ((round e 0 real.components g).left == g.left)
    where
      one : AreThere (round e 0 real.components g).point.past
      one = round_there 0 (components s) g (omega arith) h

      by : ((g : Going) → AreThere g.point.past → AreThere (rounds k e g).point.past) → (b : Bool)
          → AreThere (and_further b (λ g. rounds k e g) (round e 0 real.components g)).point.past
      by more true = one
      by more false = more (round e 0 real.components g) one

  choices_there : (w : World) (x : ℕ) (cs : List Component) → x + length cs ≡ length (components s) → AreThere (choices_from real e.racy w x cs)
  choices_there w x [] all = tt
  choices_there w x (c ∷ cs) all = by (choices_there w (suc x) cs (omega (arith, all))) (is_at_choice real e.racy w x)
    where
      by : AreThere (choices_from real e.racy w (suc x) cs) → (b : Bool)
          → AreThere (cond b (x ∷ choices_from real e.racy w (suc x) cs) (choices_from real e.racy w (suc x) cs))
      by more true = (omega (arith, all), more)
      by more false = more

  -- OUTCOMES

  abbrev Good : Search → Type 0
  Good t = Each (λ (o : Outcome). AreThere o.past) t.found

  last_too : (found : List Outcome) (o : Outcome) → Each (λ (o : Outcome). AreThere o.past) found → AreThere o.past
      → Each (λ (o : Outcome). AreThere o.past) (found ++ (o ∷ []))
  last_too [] o all one = (one, tt {0})
  last_too (f ∷ found) o all one = (all.0, last_too found o all.1 one)

  outcome_too : (found : List Outcome) (o : Outcome) → Each (λ (o : Outcome). AreThere o.past) found → AreThere o.past
      → Each (λ (o : Outcome). AreThere o.past) (with_outcome o found)
  outcome_too found o all one = by (is_found o.text found)
    where
      by : (b : Bool) → Each (λ (o : Outcome). AreThere o.past) (cond b found (found ++ (o ∷ [])))
      by true = all
      by false = last_too found o all one

  module _ (go : Point → Search → Search) (keeps : (q : Point) (t : Search) → AreThere q.past → Good t → Good (go q t)) where
    choose_good : (p : Point) (x n : ℕ) (t : Search) → IsThere x → AreThere p.past → Good t → Good (choose e go p x n t)
    choose_good p x zero t within h good = good
    choose_good p x (suc n) t within h good = keeps (after_turn real x p) (record t { left = n }) (turn_there x p within h) good

    each_good : (p : Point) (xs : List ℕ) (t : Search) → AreThere xs → AreThere p.past → Good t → Good (each_choice e go p xs t)
    each_good p [] t there h good = good
    each_good p (x ∷ xs) t there h good = each_good p xs (choose e go p x t.left t) there.1 h (choose_good p x t.left t there.0 h good)

    branch_good : (p : Point) (xs : List ℕ) (t : Search) → AreThere xs → AreThere p.past → Good t → Good (branch e go p xs t)
    branch_good p [] t there h good = outcome_too t.found (outcome_of e p) good h
    branch_good p (x ∷ xs) t there h good = each_good p (x ∷ xs) t there h good

    enter_good : (p : Point) (b c : Bool) (t : Search) → AreThere p.past → Good t → Good (enter b c e go p (kept p) t)
    enter_good p false c t h good = good
    enter_good p true true t h good = good
    enter_good p true false t h good =
        branch_good p (choices real e.racy p.world) (record t { seen = kept p ∷ t.seen }) (choices_there p.world 0 (components s) (omega arith)) h good

    arrive_good : (g : Going) (t : Search) → AreThere g.point.past → Good t → Good (arrive e go g t)
    arrive_good g t h good =
        enter_good g.point (is_settled real e.racy g.point.world) (is_seen (kept g.point) t.seen) (record t { left = g.left }) h good

  visit_good : (n : ℕ) (p : Point) (t : Search) → AreThere p.past → Good t → Good (visit n e p t)
  visit_good zero p t h good = good
  visit_good (suc n) p t h good = by (λ q u k g. visit_good n q u k g) t.cut
    where
      by : ((q : Point) (u : Search) → AreThere q.past → Good u → Good (visit n e q u)) → (b : Bool)
          → Good (unless_cut b (λ t. arrive e (λ q u. visit n e q u) (settled e (record { point = p; left = t.left })) t) t)
      by more true = good
      by more false =
          let g : Going = record { point = p; left = t.left } in
          arrive_good (λ q u. visit n e q u) more (settled e g) t (rounds_there (suc g.left) g h) good

  search_there : (most : ℕ) → Good (search_of most s)
  search_there most = visit_good (suc most) (first_point real) (record { seen = []; found = []; left = most; cut = false }) (tt {0}) (tt {0})

  -- of each outcome that is found
  pub all_there : Each (λ (o : Outcome). AreThere o.past) (outcomes s).found
  unfolding outcomes
  all_there = search_there most_turns
