-- A search that keeps the choices that are open, in place of a recursion.
use Rattle.std.specs.Prelude.{ℕ, suc, Bool, true, false, List, [], ◌∷◌}
use Rattle.gq_outcomes.specs.Choices.{choices, is_settled}
use Rattle.gq_outcomes.specs.Outcomes.{Explored, Going, Kept, Point, Search, each_choice, is_seen, kept, outcome_of, visit, with_outcome}

-- a settled world at choices, and the leaves that have still to take their turns there
pub record Branch : Type 0 where
  pub point : Point
  pub leaves : List ℕ

-- a search on the way, and what is open in it, the last one first
pub record Stack : Type 0 where
  pub search : Search
  pub branches : List Branch

abbrev pub stack : Search → List Branch → Stack
stack s branches = record { search = s; branches = branches }

-- from a world on, over as many choices as turns are left
abbrev pub visits : Explored → Point → Search → Search
visits e p s = visit (suc s.left) e p s

-- what a search comes to that goes on with these branches, the first one first
abbrev pub resumed : Explored → List Branch → Search → Search
resumed e [] s = s
resumed e (b ∷ branches) s = resumed e branches (each_choice e (λ q t. visits e q t) b.point b.leaves s)

-- a settled world that was not seen: an outcome, or a branch
abbrev pub opens : Explored → Point → List ℕ → Search → Stack
opens e p [] s = stack (record s { found = with_outcome (outcome_of e p) s.found }) []
opens e p (x ∷ rest) s = stack s (record { point = p; leaves = x ∷ rest } ∷ [])

abbrev pub enters : (settled seen : Bool) → Explored → Point → Kept → Search → Stack
enters false seen e p k s = stack (record s { cut = true }) []
enters true true e p k s = stack s []
enters true false e p k s = opens e p (choices e.system e.racy p.world) (record s { seen = k ∷ s.seen })

-- a world that was settled, with what is opened there
abbrev pub arrives : Explored → Going → Search → Stack
arrives e g s =
    let k = kept g.point in enters (is_settled e.system e.racy g.point.world) (is_seen k s.seen) e g.point k (record s { left = g.left })
