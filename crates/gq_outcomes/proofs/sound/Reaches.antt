-- The points of a search are those of runs over their turns.
use Rattle.std.proofs.Common.{◌≡◌, ◌≢◌, ◌<◌, inl, inr, ℕ, zero, suc, ◌==◌, Bool, true, false, cond, List, [], ◌∷◌, ◌++◌, length}
use Rattle.std.proofs.Common.{Option, Some, None, Ok, Err, refl, ap, sym, ◌∙◌, subst}
use Rattle.std.proofs.Common.{get_or-set_same, get_or-set_other}
use Rattle.std.specs.Prelude.{slice_get, get_or}
use Rattle.std.proofs.lemmas.Bool.Decides.{eqb_tells}
use Rattle.std.proofs.lemmas.List.{append_assoc, append-nil, length-set}
use Rattle.std.proofs.lemmas.Option.{slice_get_within}
use Rattle.gq_model.specs.declared.act.Act.{Act}
use Rattle.gq_model.specs.declared.act.Act.TheVariants.{Turns, Sets, Submits}
use Rattle.gq_model.specs.declared.fault.Wrong.{Wrong}
use Rattle.gq_model.specs.machine.Doing.{Event, Stepped}
use Rattle.gq_model.specs.machine.Run as model
use Rattle.gq_model.specs.machine.Run.{Acts, Ran, act_on, label_at, line_of, run, run_on, set_from, set_input, submit, submit_from}
use Rattle.gq_model.specs.machine.Run.{turn_from, turns_of}
use Rattle.gq_model.specs.machine.Scenario.{Component, Scenario, System, components, system}
use Rattle.gq_model.specs.machine.Step.{next}
use Rattle.gq_model.specs.machine.World.{World, start}
use Rattle.gq_laws.specs.Group_alone.{lines_from, own_lines, silent}
use Rattle.gq_model.proofs.Small_facts.{equal_self}
use Rattle.gq_outcomes.specs.Laws.{acts_before, acts_of}
use Rattle.gq_outcomes.specs.Outcomes.{Point, after_step, after_turn, first_point, if_none, line_by, no_lines}

-- TURNS AT THE END

before_is : (past : List ℕ) (acts : Acts) → acts_before past acts ≡ acts_of past ++ acts
before_is [] acts = refl
before_is (x ∷ past) acts =
    before_is past ((x, Turns 1) ∷ acts)
    ∙ (sym (append_assoc (acts_of past) ((x, Turns 1) ∷ []) acts) ∙ ap (λ l. l ++ acts) (sym (before_is past ((x, Turns 1) ∷ []))))

pub last_is : (x : ℕ) (past : List ℕ) → acts_of (x ∷ past) ≡ acts_of past ++ ((x, Turns 1) ∷ [])
last_is x past = before_is past ((x, Turns 1) ∷ [])

pub run_more : (s : System) (acts more : Acts) (ran : Ran) → run_on s (acts ++ more) ran ≡ run_on s more (run_on s acts ran)
run_more s [] more ran = refl
run_more s (t ∷ acts) more ran = run_more s acts more (act_on s t.0 t.1 ran)

-- the run so far as the lines of a group have it: what it has written goes before each turn
abbrev pub quiet_on : System → Acts → Ran → Ran
quiet_on s [] ran = ran
quiet_on s (t ∷ acts) ran = quiet_on s acts (act_on s t.0 t.1 (silent ran))

pub lines_more : (s : System) (group : ℕ → Bool) (acts more : Acts) (ran : Ran)
    → lines_from s group (acts ++ more) ran ≡ lines_from s group acts ran ++ lines_from s group more (quiet_on s acts ran)
lines_more s group [] more ran = refl
lines_more s group (t ∷ acts) more ran =
    let after = act_on s t.0 t.1 (silent ran) in
    let reported = cond (group t.0) after.text [] in
    ap (λ l. reported ++ l) (lines_more s group acts more after)
    ∙ sym (append_assoc reported (lines_from s group acts after) (lines_from s group more (quiet_on s acts after)))

-- two runs so far that differ in what was written alone
pub record Alike (ran other : Ran) : Type 0 where
  pub world : ran.world ≡ other.world
  pub wrong : ran.wrong ≡ other.wrong

module _ (s : System) where
  alike_step : (x : ℕ) (ran other : Ran) → Alike ran other → (r : Stepped) → Alike (model.after_step s x ran r) (model.after_step s x other r)
  alike_step x ran other h (Ok p) = record { world = refl; wrong = refl }
  alike_step x ran other h (Err w) = record { world = h.world; wrong = refl }

  alike_turn : (x : ℕ) (ran other : Ran) → Alike ran other → (o : Option (ℕ × Wrong)) → Alike (turn_from s x ran o) (turn_from s x other o)
  alike_turn x ran other h None =
      subst (λ w. Alike (model.after_step s x ran (next s ran.world x)) (model.after_step s x other (next s w x))) h.world
      (alike_step x ran other h (next s ran.world x))
  alike_turn x ran other h (Some p) = h

  alike_turns : (x n : ℕ) (ran other : Ran) → Alike ran other → Alike (turns_of s x n ran) (turns_of s x n other)
  alike_turns x zero ran other h = h
  alike_turns x (suc n) ran other h =
      alike_turns x n (turn_from s x ran ran.wrong) (turn_from s x other other.wrong)
      (subst (λ o. Alike (turn_from s x ran ran.wrong) (turn_from s x other o)) h.wrong (alike_turn x ran other h ran.wrong))

  alike_set : (x i n : ℕ) (ran other : Ran) → Alike ran other → (o : Option (ℕ × Wrong)) → ran.wrong ≡ o
      → Alike (set_from s x i n ran o) (set_from s x i n other o)
  alike_set x i n ran other h None e = record { world = ap (λ w. set_input s w x i n) h.world; wrong = h.wrong }
  alike_set x i n ran other h (Some p) e = h

  alike_submit : (x i : ℕ) (ran other : Ran) → Alike ran other → (o : Option (ℕ × Wrong)) → ran.wrong ≡ o
      → Alike (submit_from x i ran o) (submit_from x i other o)
  alike_submit x i ran other h None e = record { world = ap (λ w. submit w x i) h.world; wrong = h.wrong }
  alike_submit x i ran other h (Some p) e = h

  alike_act : (x : ℕ) (act : Act) (ran other : Ran) → Alike ran other → Alike (act_on s x act ran) (act_on s x act other)
  alike_act x (Turns n) ran other h = alike_turns x n ran other h
  alike_act x (Sets i n) ran other h =
      subst (λ o. Alike (set_from s x i n ran ran.wrong) (set_from s x i n other o)) h.wrong (alike_set x i n ran other h ran.wrong refl)
  alike_act x (Submits i) ran other h =
      subst (λ o. Alike (submit_from x i ran ran.wrong) (submit_from x i other o)) h.wrong (alike_submit x i ran other h ran.wrong refl)

  pub alike_all : (acts : Acts) (ran other : Ran) → Alike ran other → Alike (run_on s acts ran) (quiet_on s acts other)
  alike_all [] ran other h = h
  alike_all (t ∷ acts) ran other h =
      let quiet : Alike ran (silent other) = record { world = h.world; wrong = h.wrong } in
      alike_all acts (act_on s t.0 t.1 ran) (act_on s t.0 t.1 (silent other)) (alike_act t.0 t.1 ran (silent other) quiet)

-- POINTS

if_none_more : (o : Option (List ℕ)) (a b : List ℕ) → if_none o (a ++ b) ≡ if_none o a ++ if_none o b
if_none_more None a b = refl
if_none_more (Some service) a b = refl

-- a run over the turns of a point has no wrong step, ends in its world, and writes its lines
pub record Reaches (s : Scenario) (p : Point) : Type 0 where
  pub world : (run (system s) (acts_of p.past)).world ≡ p.world
  pub right : (run (system s) (acts_of p.past)).wrong ≡ None
  pub count : length p.said ≡ length (components s)
  pub lines : (y : ℕ) (c : Component) → slice_get (components s) y ≡ Some c
      → if_none c.node.provides (own_lines (system s) (λ z. z == y) (acts_of p.past)) ≡ get_or p.said y []

module _ (s : Scenario) where
  abbrev real : System
  real = system s

  abbrev nothing : Ran
  nothing = record { world = start real; text = []; wrong = None }

  -- THE START

  none_count : (cs : List Component) → length (no_lines cs) ≡ length cs
  none_count [] = refl
  none_count (c ∷ cs) = ap suc (none_count cs)

  none_at : (cs : List Component) (y : ℕ) → get_or (no_lines cs) y [] ≡ []
  none_at [] y = refl
  none_at (c ∷ cs) zero = refl
  none_at (c ∷ cs) (suc y) = none_at cs y

  none_reported : (o : Option (List ℕ)) → if_none o [] ≡ []
  none_reported None = refl
  none_reported (Some service) = refl

  pub first_reaches : Reaches s (first_point real)
  first_reaches =
      record {
        world = refl;
        right = refl;
        count = none_count (components s);
        lines = λ y c there. none_reported c.node.provides ∙ sym (none_at (components s) y);
      }

  -- A TURN

  module _ (x : ℕ) (p : Point) (h : Reaches s p) where
    abbrev acts : Acts
    acts = acts_of p.past

    abbrev ran : Ran
    ran = run real acts

    abbrev quiet : Ran
    quiet = quiet_on real acts nothing

    alike : Alike ran quiet
    alike = alike_all real acts nothing nothing (record { world = refl; wrong = refl })

    quiet_world : quiet.world ≡ p.world
    quiet_world = sym alike.world ∙ h.world

    quiet_right : quiet.wrong ≡ None
    quiet_right = sym alike.wrong ∙ h.right

    module _ (q : World × Event) (goes : next real p.world x ≡ Ok q) where
      -- one turn more of a run that stands there
      one_more : (r : Ran) → r.world ≡ p.world → r.wrong ≡ None
          → act_on real x (Turns 1) r ≡ record { world = q.0; text = r.text ++ line_of (label_at (slice_get (components s) x)) q.1; wrong = None }
      one_more r at right =
          ap (turn_from real x r) right ∙ ap (model.after_step real x r) (ap (λ w. next real w x) at ∙ goes)

      run_is : run real (acts_of (x ∷ p.past)) ≡ act_on real x (Turns 1) ran
      run_is = ap (run real) (last_is x p.past) ∙ run_more real acts ((x, Turns 1) ∷ []) nothing

      ran_is : run real (acts_of (x ∷ p.past)) ≡ record { world = q.0; text = ran.text ++ line_of (label_at (slice_get (components s) x)) q.1; wrong = None }
      ran_is = run_is ∙ one_more ran h.world h.right

      -- what the turn adds to the lines of a leaf
      abbrev added : ℕ → List ℕ
      added y = cond (x == y) (line_of (label_at (slice_get (components s) x)) q.1) []

      lines_are : (y : ℕ) → own_lines real (λ z. z == y) (acts_of (x ∷ p.past)) ≡ own_lines real (λ z. z == y) acts ++ added y
      lines_are y =
          ap (own_lines real (λ z. z == y)) (last_is x p.past)
          ∙ (lines_more real (λ z. z == y) acts ((x, Turns 1) ∷ []) nothing
          ∙ ap (λ l. own_lines real (λ z. z == y) acts ++ l)
          (append-nil (cond (x == y) (act_on real x (Turns 1) (silent quiet)).text [])
          ∙ ap (λ (r : Ran). cond (x == y) r.text []) (one_more (silent quiet) quiet_world quiet_right)))

      abbrev new : Point
      new = after_step real x p (Ok q)

      -- another leaf
      else_said : (y : ℕ) (c : Component) → slice_get (components s) y ≡ Some c → x ≢ y → (x == y) ≡ false
          → if_none c.node.provides (own_lines real (λ z. z == y) (acts_of (x ∷ p.past))) ≡ get_or new.said y []
      else_said y c there ne off =
          let line : List ℕ = line_of (label_at (slice_get (components s) x)) q.1 in
          ap (if_none c.node.provides) (lines_are y ∙ (ap (λ b. own_lines real (λ z. z == y) acts ++ cond b line []) off
          ∙ append-nil (own_lines real (λ z. z == y) acts)))
          ∙ (h.lines y c there ∙ sym (get_or-set_other p.said x y _ [] (λ e. ne (sym e))))

      -- this leaf
      own_said : (c : Component) → slice_get (components s) x ≡ Some c
          → if_none c.node.provides (own_lines real (λ z. z == x) (acts_of (x ∷ p.past))) ≡ get_or new.said x []
      own_said c there =
          let here : x < length p.said = subst (λ n. x < n) (sym h.count) (slice_get_within (components s) x c there) in
          let equal : (x == x) ≡ true = equal_self x in
          let line : List ℕ = line_of c.label q.1 in
          let reported : added x ≡ line = ap (λ b. cond b (line_of (label_at (slice_get (components s) x)) q.1) []) equal
          ∙ ap (λ o. line_of (label_at o) q.1) there in
          ap (if_none c.node.provides) (lines_are x ∙ ap (λ l. own_lines real (λ z. z == x) acts ++ l) reported)
          ∙ (if_none_more c.node.provides (own_lines real (λ z. z == x) acts) line
          ∙ (ap (λ l. l ++ if_none c.node.provides line) (h.lines x c there)
          ∙ (ap (λ o. get_or p.said x [] ++ line_by o q.1) (sym there)
          ∙ sym (get_or-set_same p.said x (get_or p.said x [] ++ line_by (slice_get (components s) x) q.1) [] here))))

      said_is : (y : ℕ) (c : Component) → slice_get (components s) y ≡ Some c
          → if_none c.node.provides (own_lines real (λ z. z == y) (acts_of (x ∷ p.past))) ≡ get_or new.said y []
      said_is y c there = elim (eqb_tells x y) [
        | inl e ↦
            let P : ℕ → Type 0 = λ y. slice_get (components s) y ≡ Some c
            → if_none c.node.provides (own_lines real (λ z. z == y) (acts_of (x ∷ p.past))) ≡ get_or new.said y [] in
            subst P e.1 (own_said c) there
        | inr e ↦ else_said y c there e.1 e.0
      ]

      goes_reaches : Reaches s new
      goes_reaches =
          record {
            world = ap (λ (r : Ran). r.world) ran_is;
            right = ap (λ (r : Ran). r.wrong) ran_is;
            count = length-set p.said x _ ∙ h.count;
            lines = said_is;
          }

    pub turn_reaches : Reaches s (after_turn real x p)
    turn_reaches = by (next real p.world x) refl
      where
        by : (r : Stepped) → next real p.world x ≡ r → Reaches s (after_step real x p r)
        by (Ok q) e = goes_reaches q e
        by (Err wrong) e = h
