-- A run on the way, as the code keeps it.
use Rattle.std.specs.Prelude.{◌≡◌, ◌<◌, ◌++◌, ℕ, zero, suc, false, All, List, [], ◌∷◌, map, get_or, length, slice_get, slice_set}
use Rattle.gq_model.specs.machine.Doing.{Event}
use Rattle.gq_model.specs.machine.Scenario.{Scenario, System, components, system}
use Rattle.gq_laws.specs.Ready.{IsReady}
use Rattle.gq_outcomes.specs.Outcomes.{Going, Point, after_turn, first_point, line_by}
use Rattle.gq_outcomes.specs.declared.walk.Walk.{Walk}
use Rattle.gq_outcomes.specs.internal.Choosing.{AreChoices}
use Rattle.gq_outcomes.specs.internal.Turn_rows.{past_of}

-- after turns of these leaves
abbrev pub after_turns : System → List ℕ → Point → Point
after_turns system [] p = p
after_turns system (x ∷ turns) p = after_turns system turns (after_turn system x p)

-- after these turns from the start of a scenario
abbrev pub reached : Scenario → List ℕ → Point
reached s turns = after_turns (system s) turns (first_point (system s))

-- the lines of each leaf
abbrev pub said_of : Walk → List (List ℕ)
said_of w = map (λ v. v.items) w.said.items

-- it is a walk of this scenario
pub record IsWalk (s : Scenario) (w : Walk) : Type 0 where
  pub scenario : w.world.scenario ≡ s
  pub ready : IsReady s
  pub choices : AreChoices s w.choices
  pub count : length w.said.items ≡ length (components s)
  pub turns : All (λ x. x < length (components s)) w.past.items
  pub running : w.world.stopped ≡ false

-- the world and the lines are those of this point
pub record StandsAt (w : Walk) (p : Point) : Type 0 where
  pub world : w.world.world ≡ p.world
  pub said : said_of w ≡ p.said

-- it is where these turns lead to, and each of them was taken
pub record At (s : Scenario) (w : Walk) (turns : List ℕ) : Type 0 where
  pub stands : StandsAt w (reached s turns)
  pub past : (reached s turns).past ≡ past_of turns

-- it is a walk of this scenario, which is where its turns lead to
pub record IsOnWay (s : Scenario) (w : Walk) : Type 0 where
  pub walk : IsWalk s w
  pub at : At s w w.past.items

-- a line is put behind those of a leaf, if it provides nothing
pub record PutsLine (old new : Walk) (leaf : ℕ) (event : Event) : Type 0 where
  pub world : new.world ≡ old.world
  pub said : said_of new ≡ slice_set (said_of old) leaf
      (get_or (said_of old) leaf [] ++ line_by (slice_get (components old.world.scenario) leaf) event)

-- a turn of a leaf, which is not put behind the others
pub record Steps (s : Scenario) (old new : Walk) (leaf : ℕ) : Type 0 where
  pub stands : (p : Point) → StandsAt old p → StandsAt new (after_turn (system s) leaf p)
  pub longer : (p : Point) → StandsAt old p → (after_turn (system s) leaf p).past ≡ leaf ∷ p.past

-- turns are put behind those of a walk, which come from one point to another
pub record Comes (s : Scenario) (old new : Walk) (left : ℕ) (to : Point → Going) : Type 0 where
  pub more : List ℕ
  pub past : new.past.items ≡ old.past.items ++ more
  pub is : to (reached s old.past.items) ≡ record { point = reached s new.past.items; left = left }

-- the first so many of these have no line
abbrev pub AreNone : ℕ → List (List ℕ) → Type 0
AreNone zero said = Unit {0}
AreNone (suc n) [] = ⊥
AreNone (suc n) (lines ∷ said) = (lines ≡ []) × AreNone n said
