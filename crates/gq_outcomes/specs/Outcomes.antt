-- The outcomes of a scenario: how its runs can end, found by taking choices in each order that matters.
use Rattle.std.specs.Prelude.{ℕ, zero, suc, ◌==◌, if◌then◌else◌, Bool, true, false, ◌&&◌, ◌||◌, List, [], ◌∷◌, ◌++◌, Option, Some, None}
use Rattle.std.specs.Prelude.{Ok, Err, slice_get, slice_set, get_or}
use Rattle.gq_model.specs.machine.Accounts.{account_lines, accounts}
use Rattle.gq_model.specs.machine.Doing.{Event, Stepped}
use Rattle.gq_model.specs.machine.Program.{text_eq}
use Rattle.gq_model.specs.machine.Run.{line_of}
use Rattle.gq_model.specs.machine.Scenario.{System, Component, Scenario, system}
use Rattle.gq_model.specs.machine.Step.{next}
use Rattle.gq_model.specs.machine.Step_budgets.{StepBudget, all_steps_in}
use Rattle.gq_model.specs.machine.World.{World, start}
use Rattle.gq_model.specs.rules.Accept.{budgets, step_budgets}
use Rattle.gq_outcomes.specs.Choices.{can_settle, choices, is_settled, racy_servers}
use Rattle.gq_outcomes.specs.Same.{ordered, same_all, same_world}

-- a scenario, the step budgets of its leaves, and which of these are racy servers
pub record Explored : Type 0 where
  pub scenario : Scenario
  pub system : System
  pub racy : List Bool
  pub budgets : List StepBudget

abbrev pub explored : Scenario → Explored
explored s = let all = system s in record { scenario = s; system = all; racy = racy_servers all; budgets = step_budgets (budgets s) }

-- RUNS ON THE WAY

-- a world that turns lead to, the turns, of which the last comes first, and for each leaf that provides nothing the lines that it has written
pub record Point : Type 0 where
  pub world : World
  pub said : List (List ℕ)
  pub past : List ℕ

abbrev pub no_lines : List Component → List (List ℕ)
no_lines [] = []
no_lines (c ∷ rest) = [] ∷ no_lines rest

abbrev pub first_point : System → Point
first_point system = record { world = start system; said = no_lines system.components; past = [] }

-- lines of a leaf, if it provides nothing
abbrev pub if_none : Option (List ℕ) → List ℕ → List ℕ
if_none None line = line
if_none (Some service) line = []

abbrev pub line_by : Option Component → Event → List ℕ
line_by None event = []
line_by (Some c) event = if_none c.node.provides (line_of c.label event)

abbrev pub after_step : System → ℕ → Point → Stepped → Point
after_step system x p (Ok q) =
    record {
      world = q.0;
      said = slice_set p.said x (get_or p.said x [] ++ line_by (slice_get system.components x) q.1);
      past = x ∷ p.past;
    }
after_step system x p (Err wrong) = p

-- after a turn of the x-th leaf
abbrev pub after_turn : System → ℕ → Point → Point
after_turn system x p = after_step system x p (next system p.world x)

-- SETTLING

-- a run on the way, and how many more turns may be taken
pub record Going : Type 0 where
  pub point : Point
  pub left : ℕ

-- goes on with a turn, if the leaf takes it
abbrev pub and_on : Bool → Going → (Point → Going) → Point → Going
and_on true stay go p = go p
and_on false stay go p = stay

-- the x-th leaf takes turns, at most n, as long as it can and is at no choice
abbrev pub while_settling : ℕ → Explored → ℕ → Point → Going
while_settling zero e x p = record { point = p; left = 0 }
while_settling (suc n) e x p =
    and_on (can_settle e.system e.racy p.world x) (record { point = p; left = suc n }) (λ q. while_settling n e x q) (after_turn e.system x p)

-- the leaves from the x-th on, each in its turn
abbrev pub round : Explored → ℕ → List Component → Going → Going
round e x [] g = g
round e x (c ∷ rest) g = round e (suc x) rest (while_settling g.left e x g.point)

-- goes on with a further round, unless no turn was taken in this one
abbrev pub and_further : Bool → (Going → Going) → Going → Going
and_further true go g = g
and_further false go g = go g

-- at most k rounds, up to one in which no turn is taken
abbrev pub rounds : ℕ → Explored → Going → Going
rounds zero e g = g
rounds (suc k) e g = let h = round e 0 e.system.components g in and_further (h.left == g.left) (λ h. rounds k e h) h

abbrev pub settled : Explored → Going → Going
settled e g = rounds (suc g.left) e g

-- OUTCOMES

-- what leaves that provide nothing wrote and all account lines, and the turns that led there, of which the last comes first
pub record Outcome : Type 0 where
  pub text : List ℕ
  pub past : List ℕ

abbrev pub lines_of : List (List ℕ) → List ℕ
lines_of [] = []
lines_of (lines ∷ rest) = lines ++ lines_of rest

abbrev pub outcome_of : Explored → Point → Outcome
outcome_of e p =
    record { text = lines_of p.said ++ account_lines e.scenario.version (accounts e.scenario p.world (all_steps_in p.world e.budgets)); past = p.past }

-- THE SEARCH

-- what is kept of a settled world: the world without the numbers of its sessions, and the lines of leaves that provide nothing
pub record Kept : Type 0 where
  pub world : World
  pub said : List (List ℕ)

abbrev pub kept : Point → Kept
kept p = record { world = ordered p.world; said = p.said }

abbrev pub same_kept : Kept → Kept → Bool
same_kept k l = same_world k.world l.world && same_all text_eq k.said l.said

-- the worlds that were seen, the outcomes in the order in which they were found, how many more turns may be taken, and whether more were wanted
pub record Search : Type 0 where
  pub seen : List Kept
  pub found : List Outcome
  pub left : ℕ
  pub cut : Bool

abbrev pub is_seen : Kept → List Kept → Bool
is_seen k [] = false
is_seen k (l ∷ seen) = same_kept l k || is_seen k seen

abbrev pub is_found : List ℕ → List Outcome → Bool
is_found text [] = false
is_found text (o ∷ found) = text_eq o.text text || is_found text found

-- an outcome that differs from those before it
abbrev pub with_outcome : Outcome → List Outcome → List Outcome
with_outcome o found = if is_found o.text found then found else found ++ o ∷ []

-- the leaf takes its turn, if one is left, and the search goes on there
abbrev pub choose : Explored → (Point → Search → Search) → Point → ℕ → ℕ → Search → Search
choose e go p x zero s = record s { cut = true }
choose e go p x (suc n) s = go (after_turn e.system x p) (record s { left = n })

-- each of these leaves in turn
abbrev pub each_choice : Explored → (Point → Search → Search) → Point → List ℕ → Search → Search
each_choice e go p [] s = s
each_choice e go p (x ∷ rest) s = each_choice e go p rest (choose e go p x s.left s)

-- a settled world at no choice is at rest
abbrev pub branch : Explored → (Point → Search → Search) → Point → List ℕ → Search → Search
branch e go p [] s = record s { found = with_outcome (outcome_of e p) s.found }
branch e go p (x ∷ rest) s = each_choice e go p (x ∷ rest) s

-- a world that is not settled wants more turns than are left; one that was seen is not gone into again
abbrev pub enter : (settled seen : Bool) → Explored → (Point → Search → Search) → Point → Kept → Search → Search
enter false seen e go p k s = record s { cut = true }
enter true true e go p k s = s
enter true false e go p k s = branch e go p (choices e.system e.racy p.world) (record s { seen = k ∷ s.seen })

abbrev pub arrive : Explored → (Point → Search → Search) → Going → Search → Search
arrive e go g s =
    let k = kept g.point in enter (is_settled e.system e.racy g.point.world) (is_seen k s.seen) e go g.point k (record s { left = g.left })

-- a search that was cut is over
abbrev pub unless_cut : Bool → (Search → Search) → Search → Search
unless_cut true go s = s
unless_cut false go s = go s

-- from a world on, over at most n choices one after the other
abbrev pub visit : ℕ → Explored → Point → Search → Search
visit zero e p s = record s { cut = true }
visit (suc n) e p s =
    unless_cut s.cut (λ s. arrive e (λ q t. visit n e q t) (settled e (record { point = p; left = s.left })) s) s

-- all outcomes, over at most so many turns
abbrev pub search_of : ℕ → Scenario → Search
search_of most s =
    let e = explored s in visit (suc most) e (first_point e.system) (record { seen = []; found = []; left = most; cut = false })

unfoldable pub most_turns : ℕ
most_turns = 10000000

unfoldable pub outcomes : Scenario → Search
outcomes s = search_of most_turns s
