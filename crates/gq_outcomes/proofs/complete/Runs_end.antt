-- A run over turns that comes to rest is one of the runs from the start, and ends as its last point does.
use Rattle.std.proofs.Common.{◌≡◌, ◌≢◌, ◌<◌, inl, inr, ℕ, zero, suc, ◌+◌, ◌==◌, Bool, true, false, cond, ◌++◌, List, [], ◌∷◌, length, map}
use Rattle.std.proofs.Common.{Option, Some, None, refl, ap, sym, ◌∙◌, subst, arith, get_or-set_same, get_or-set_other}
use Rattle.std.specs.Prelude.{slice_get, slice_set, get_or, option_map}
use Rattle.std.proofs.lemmas.Bool.Decides.{eqb_tells}
use Rattle.std.proofs.lemmas.List.{append_assoc, append-nil, length-set}
use Rattle.std.proofs.lemmas.Option.{slice_get_within}
use Rattle.gq_model.specs.declared.act.Act.TheVariants.{Turns}
use Rattle.gq_model.specs.machine.Accounts.{account_lines, accounts}
use Rattle.gq_model.specs.machine.Doing.{Idle}
use Rattle.gq_model.specs.machine.Run as model
use Rattle.gq_model.specs.machine.Run.{Acts, Ran, label_at, line_of, run, turn_from, turns_of}
use Rattle.gq_model.specs.machine.Scenario.{Component, Scenario, System, components, system}
use Rattle.gq_model.specs.machine.Step.{next}
use Rattle.gq_model.specs.machine.World.{Leaf, Request, World, start}
use Rattle.gq_model.specs.machine.Step_budgets.{all_steps_in}
use Rattle.gq_model.specs.rules.Accept.{budgets, step_budgets}
use Rattle.gq_laws.specs.Group_alone.{own_lines, silent}
use Rattle.gq_laws.specs.Progress.{AllRest}
use Rattle.gq_laws.specs.Separation.{own_requests}
use Rattle.gq_laws.specs.Sound_scenarios.{IsSound}
use Rattle.gq_model.specs.machine.Rest.{can_run}
use Rattle.gq_laws.specs.Renamed.{renamed_leaf, renamed_request}
use Rattle.gq_laws.specs.internal.Corresponding.{IsSame}
use Rattle.gq_laws.proofs.step_shapes.Step_counting.{stands_still}
use Rattle.gq_determined.proofs.thread_steps.Thread_reflexivity.{leaf_itself, session_itself}
use Rattle.gq_outcomes.specs.Laws.{AreAll, ending, turns_alone}
use Rattle.gq_outcomes.specs.Outcomes.{Explored, Point, after_step, after_turn, explored, first_point, if_none, is_found, line_by, lines_of, most_turns}
use Rattle.gq_outcomes.specs.Outcomes.{outcome_of, outcomes, search_of}
use Rattle.gq_outcomes.proofs.sound.Reaches.{alike_all, first_reaches, lines_more, quiet_on, run_more}
use Rattle.gq_outcomes.proofs.sound.Found.{quiet_is}
use Rattle.gq_outcomes.proofs.complete.Found_by_ends.{Ends, Exchanges, all_found}
use Rattle.gq_outcomes.proofs.complete.Kept_renamed.{all}
use Rattle.gq_outcomes.proofs.complete.Same_outcomes.{AreAlike, Well, ends_alike, goes, point_well, well_next}

if_none_more : (o : Option (List ℕ)) (a b : List ℕ) → if_none o (a ++ b) ≡ if_none o a ++ if_none o b
if_none_more None a b = refl
if_none_more (Some service) a b = refl

if_none_nothing : (o : Option (List ℕ)) → if_none o [] ≡ []
if_none_nothing None = refl
if_none_nothing (Some service) = refl

-- the same in place of what was there
pub set_itself : (l : List (List ℕ)) (x : ℕ) → slice_set l x (get_or l x [] ++ []) ≡ l
set_itself [] x = refl
set_itself (a ∷ l) zero = ap (λ b. b ∷ l) (append-nil a)
set_itself (a ∷ l) (suc x) = ap (λ m. a ∷ m) (set_itself l x)

module _ (s : Scenario) (sound : IsSound s) where
  abbrev real : System
  real = system s

  abbrev e : Explored
  e = explored s

  -- n turns of a leaf
  abbrev pub times : ℕ → ℕ → Point → Point
  times x zero p = p
  times x (suc n) p = times x n (after_turn real x p)

  -- what turns of a leaf come to, of a run so far and of a point in the same world
  record Adds (x : ℕ) (r other : Ran) (p q : Point) : Type 0 where
    lines : List ℕ
    world : other.world ≡ q.world
    right : other.wrong ≡ None
    text : other.text ≡ r.text ++ lines
    well : Well s sound q.world
    count : length q.said ≡ length p.said
    own : (c : Component) → slice_get (components s) x ≡ Some c → x < length p.said
        → get_or q.said x [] ≡ get_or p.said x [] ++ if_none c.node.provides lines
    others : (y : ℕ) → y ≢ x → get_or q.said y [] ≡ get_or p.said y []

  module _ (x : ℕ) where
    adds_none : (r : Ran) (p : Point) → r.world ≡ p.world → r.wrong ≡ None → Well s sound p.world → Adds x r r p p
    adds_none r p at right well =
        record {
          lines = [];
          world = at;
          right = right;
          text = sym (append-nil r.text);
          well = well;
          count = refl;
          own = λ c there within. sym (ap (λ l. get_or p.said x [] ++ l) (if_none_nothing c.node.provides) ∙ append-nil (get_or p.said x []));
          others = λ y ne. refl;
        }

    adds_more : (r mid other : Ran) (p m q : Point) → Adds x r mid p m → Adds x mid other m q → Adds x r other p q
    adds_more r mid other p m q a b =
        record {
          lines = a.lines ++ b.lines;
          world = b.world;
          right = b.right;
          text = b.text ∙ (ap (λ l. l ++ b.lines) a.text ∙ append_assoc r.text a.lines b.lines);
          well = b.well;
          count = b.count ∙ a.count;
          own = λ c there within. b.own c there (subst (λ n. x < n) (sym a.count) within)
              ∙ (ap (λ l. l ++ if_none c.node.provides b.lines) (a.own c there within)
              ∙ (append_assoc (get_or p.said x []) (if_none c.node.provides a.lines) (if_none c.node.provides b.lines)
              ∙ ap (λ l. get_or p.said x [] ++ l) (sym (if_none_more c.node.provides a.lines b.lines))));
          others = λ y ne. b.others y ne ∙ a.others y ne;
        }

    adds_one : (r : Ran) (p : Point) → r.world ≡ p.world → r.wrong ≡ None → Well s sound p.world
        → Adds x r (turn_from real x r r.wrong) p (after_turn real x p)
    adds_one r p at right well =
        let q = goes s sound p.world well x in
        let line = line_of (label_at (slice_get (components s) x)) q.0.1 in
        let new : Ran = record { world = q.0.0; text = r.text ++ line; wrong = None } in
        let is : turn_from real x r r.wrong ≡ new
        = ap (turn_from real x r) right ∙ ap (model.after_step real x r) (ap (λ w. next real w x) at ∙ q.1) in
        subst (λ o. Adds x r o p (after_turn real x p)) (sym is) (subst (λ o. Adds x r new p (after_step real x p o)) (sym q.1) (record {
          lines = line;
          world = refl;
          right = refl;
          text = refl;
          well = well_next s sound p.world x q.0.0 q.0.1 well q.1;
          count = length-set p.said x _;
          own = λ c there within.
              get_or-set_same p.said x (get_or p.said x [] ++ line_by (slice_get real.components x) q.0.1) [] within
              ∙ ap (λ l. get_or p.said x [] ++ l)
              (ap (λ o. line_by o q.0.1) there ∙ ap (λ o. if_none c.node.provides (line_of (label_at o) q.0.1)) (sym there));
          others = λ y ne. get_or-set_other p.said x y _ [] ne;
        }))

    adds : (n : ℕ) (r : Ran) (p : Point) → r.world ≡ p.world → r.wrong ≡ None → Well s sound p.world → Adds x r (turns_of real x n r) p (times x n p)
    adds zero r p at right well = adds_none r p at right well
    adds (suc n) r p at right well =
        let one = adds_one r p at right well in
        adds_more r (turn_from real x r r.wrong) (turns_of real x (suc n) r) p (after_turn real x p) (times x (suc n) p) one
        (adds n (turn_from real x r r.wrong) (after_turn real x p) one.world one.right one.well)

  -- RUNS

  abbrev nothing : Ran
  nothing = record { world = start real; text = []; wrong = None }

  -- a run stands at a point, and has written its lines
  pub record StandsAt (acts : Acts) (p : Point) : Type 0 where
    pub world : (run real acts).world ≡ p.world
    pub right : (run real acts).wrong ≡ None
    pub well : Well s sound p.world
    pub count : length p.said ≡ length (components s)
    pub lines : (y : ℕ) (c : Component) → slice_get (components s) y ≡ Some c
        → if_none c.node.provides (own_lines real (λ z. z == y) acts) ≡ get_or p.said y []

  pub stands_first : StandsAt [] (first_point real)
  stands_first =
      let h = first_reaches s in
      record { world = refl; right = refl; well = point_well s sound (first_point real) h; count = h.count; lines = h.lines }

  stands_more : (acts : Acts) (x n : ℕ) (p : Point) → StandsAt acts p → StandsAt (acts ++ ((x, Turns n) ∷ [])) (times x n p)
  stands_more acts x n p h =
      record {
        world = ap (λ (r : Ran). r.world) more ∙ a.world;
        right = ap (λ (r : Ran). r.wrong) more ∙ a.right;
        well = a.well;
        count = a.count ∙ h.count;
        lines = lines;
      }
    where
      more : run real (acts ++ ((x, Turns n) ∷ [])) ≡ turns_of real x n (run real acts)
      more = run_more real acts ((x, Turns n) ∷ []) nothing

      a : Adds x (run real acts) (turns_of real x n (run real acts)) p (times x n p)
      a = adds x n (run real acts) p h.world h.right h.well

      quiet : Ran
      quiet = quiet_on real acts nothing

      b : Adds x (silent quiet) (turns_of real x n (silent quiet)) p (times x n p)
      b =
          let alike = alike_all real acts nothing nothing (record { world = refl; wrong = refl }) in
          adds x n (silent quiet) p (sym alike.world ∙ h.world) (sym alike.wrong ∙ h.right) h.well

      lines_are : (y : ℕ) → own_lines real (λ z. z == y) (acts ++ ((x, Turns n) ∷ []))
          ≡ own_lines real (λ z. z == y) acts ++ cond (x == y) b.lines []
      lines_are y =
          lines_more real (λ z. z == y) acts ((x, Turns n) ∷ []) nothing
          ∙ ap (λ l. own_lines real (λ z. z == y) acts ++ l)
          (append-nil (cond (x == y) (turns_of real x n (silent quiet)).text []) ∙ ap (λ l. cond (x == y) l []) b.text)

      lines : (y : ℕ) (c : Component) → slice_get (components s) y ≡ Some c
          → if_none c.node.provides (own_lines real (λ z. z == y) (acts ++ ((x, Turns n) ∷ []))) ≡ get_or (times x n p).said y []
      lines y c there = elim (eqb_tells x y) [
        | inl q ↦
            let here : slice_get (components s) x ≡ Some c = ap (slice_get (components s)) q.1 ∙ there in
            let within : x < length p.said = subst (λ n. x < n) (sym h.count) (slice_get_within (components s) x c here) in
            ap (if_none c.node.provides) (lines_are y ∙ ap (λ d. own_lines real (λ z. z == y) acts ++ cond d b.lines []) q.0)
            ∙ (if_none_more c.node.provides (own_lines real (λ z. z == y) acts) b.lines
            ∙ (ap (λ l. l ++ if_none c.node.provides b.lines) (h.lines y c there ∙ ap (λ z. get_or p.said z []) (sym q.1))
            ∙ (sym (b.own c here within) ∙ ap (λ z. get_or (times x n p).said z []) q.1)))
        | inr q ↦
            ap (if_none c.node.provides) (lines_are y ∙ (ap (λ d. own_lines real (λ z. z == y) acts ++ cond d b.lines []) q.0
            ∙ append-nil (own_lines real (λ z. z == y) acts)))
            ∙ (h.lines y c there ∙ sym (a.others y (λ f. q.1 (sym f))))
      ]

  -- all turns of a list
  abbrev pub each_time : List (ℕ × ℕ) → Point → Point
  each_time [] p = p
  each_time (t ∷ turns) p = each_time turns (times t.0 t.1 p)

  pub stands_all : (turns : List (ℕ × ℕ)) (acts : Acts) (p : Point) → StandsAt acts p → StandsAt (acts ++ turns_alone turns) (each_time turns p)
  stands_all [] acts p h = subst (λ a. StandsAt a p) (sym (append-nil acts)) h
  stands_all (t ∷ turns) acts p h =
      subst (λ a. StandsAt a (each_time turns (times t.0 t.1 p))) (append_assoc acts ((t.0, Turns t.1) ∷ []) (turns_alone turns))
      (stands_all turns (acts ++ ((t.0, Turns t.1) ∷ [])) (times t.0 t.1 p) (stands_more acts t.0 t.1 p h))

  abbrev steps : World → List ℕ
  steps w = all_steps_in w (step_budgets (budgets s))

  -- how a run ends
  pub ends_so : (turns : List (ℕ × ℕ)) → ending s (turns_alone turns) ≡ (outcome_of e (each_time turns (first_point real))).text
  ends_so turns =
      let p = each_time turns (first_point real) in
      let h = stands_all turns [] (first_point real) stands_first in
      ap (λ l. l ++ account_lines s.version (accounts s (run real (turns_alone turns)).world (steps (run real (turns_alone turns)).world)))
      (quiet_is s (turns_alone turns) 0 (components s) p.said h.count (λ k c there. let at : 0 + k ≡ k = omega arith in
      ap (λ n. if_none c.node.provides (own_lines real (λ z. z == n) (turns_alone turns))) at ∙ h.lines k c there))
      ∙ ap (λ w. lines_of p.said ++ account_lines s.version (accounts s w (steps w))) h.world

  -- TURNS THAT ARE NONE

  requests_itself : (rs : List Request) → map (renamed_request (λ k. k)) rs ≡ rs
  requests_itself [] = refl
  requests_itself (r ∷ rs) = ap (λ l. r ∷ l) (requests_itself rs)

  world_itself : (w : World) → IsSame all (λ k. k) w w
  world_itself w =
      record {
        leaves = λ y inside. by (slice_get w.leaves y);
        sessions = record {
          there = λ k t at. at ∙ ap Some (sym (session_itself t));
          back = λ m t at. (m, t, at, refl);
          single = λ j k a b at_j at_k same. same;
        };
        requests = sym (requests_itself (own_requests all w w.requests));
      }
    where
      by : (o : Option Leaf) → o ≡ option_map (renamed_leaf (λ k. k)) o
      by None = refl
      by (Some l) = ap Some (sym (leaf_itself l))

  idle_alike : (x : ℕ) (p : Point) → Well s sound p.world → can_run real p.world x ≡ false → AreAlike s sound (after_turn real x p) p
  idle_alike x p well idle =
      subst (λ r. AreAlike s sound (after_step real x p r) p) (sym (stands_still real p.world x idle)) (record {
        name = λ k. k;
        same = world_itself p.world;
        said = ap (λ l. slice_set p.said x (get_or p.said x [] ++ l)) (none (slice_get real.components x)) ∙ set_itself p.said x;
        well = well;
        well_other = well;
      })
    where
      none : (o : Option Component) → line_by o Idle ≡ []
      none None = refl
      none (Some c) = if_none_nothing c.node.provides

  well_turn : (x : ℕ) (p : Point) → Well s sound p.world → Well s sound (after_turn real x p).world
  well_turn x p well =
      let q = goes s sound p.world well x in
      subst (λ r. Well s sound (after_step real x p r).world) (sym q.1) (well_next s sound p.world x q.0.0 q.0.1 well q.1)

  well_times : (x n : ℕ) (p : Point) → Well s sound p.world → Well s sound (times x n p).world
  well_times x zero p well = well
  well_times x (suc n) p well = well_times x n (after_turn real x p) (well_turn x p well)

  abbrev SomeEnd : Point → List ℕ → Type 0
  SomeEnd p t = (xs : List ℕ) × Ends s p xs t

  before_turn : (x : ℕ) (p : Point) (t : List ℕ) → Well s sound p.world → SomeEnd (after_turn real x p) t → SomeEnd p t
  before_turn x p t well h = by (can_run real p.world x) refl
    where
      by : (b : Bool) → can_run real p.world x ≡ b → SomeEnd p t
      by true can = (x ∷ h.0, (can, h.1))
      by false idle = (h.0, ends_alike s sound h.0 t (after_turn real x p) p (idle_alike x p well idle) h.1)

  before_times : (x n : ℕ) (p : Point) (t : List ℕ) → Well s sound p.world → SomeEnd (times x n p) t → SomeEnd p t
  before_times x zero p t well h = h
  before_times x (suc n) p t well h = before_turn x p t well (before_times x n (after_turn real x p) t (well_turn x p well) h)

  before_all : (turns : List (ℕ × ℕ)) (p : Point) (t : List ℕ) → Well s sound p.world → SomeEnd (each_time turns p) t → SomeEnd p t
  before_all [] p t well h = h
  before_all (u ∷ turns) p t well h =
      before_times u.0 u.1 p t well (before_all turns (times u.0 u.1 p) t (well_times u.0 u.1 p well) h)

  -- where turns that are no choices may be taken first, all is found
  pub all_of : Exchanges s → (most : ℕ) → (search_of most s).cut ≡ false → (turns : List (ℕ × ℕ)) → AllRest (run real (turns_alone turns)).world
      → is_found (ending s (turns_alone turns)) (search_of most s).found ≡ true
  all_of h most whole turns rest =
      let p = each_time turns (first_point real) in
      let at = stands_all turns [] (first_point real) stands_first in
      let some = before_all turns (first_point real) (outcome_of e p).text (stands_first).well ([], (subst AllRest at.world rest, refl)) in
      subst (λ t. is_found t (search_of most s).found ≡ true) (sym (ends_so turns))
      (all_found s h most whole (length some.0) (outcome_of e p).text (record { turns = some.0; few = omega arith; ends = some.1 }))

  pub are_all : Exchanges s → AreAll s
  unfolding outcomes
  are_all h whole turns rest = all_of h most_turns whole turns rest
