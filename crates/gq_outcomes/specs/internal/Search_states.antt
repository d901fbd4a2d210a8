-- A search as the code keeps it, and the search of the definition that it stands for.
use Rattle.std.specs.Prelude.{◌≡◌, ◌<◌, ◌≤◌, ℕ, Bool, false, true, All, List, [], ◌∷◌, ◌++◌, Vec, length, map, reverse, take, drop}
use Rattle.std.specs.BTreeSet.{BTreeSet, contains_by}
use Rattle.std.specs.Cmp.Lexicographic.{slice_cmp}
use Rattle.std.specs.Ordering.{nat_cmp}
use Rattle.std.specs.declared.alloc.Global.{Global}
use Rattle.gq_model.specs.machine.Scenario.{Scenario}
use Rattle.gq_outcomes.specs.Choices.{choices}
use Rattle.gq_outcomes.specs.Outcomes.{Kept, Search, explored, is_seen, kept, most_turns, outcome_of, settled, with_outcome}
use Rattle.gq_outcomes.specs.declared.search.Branch.{Branch as KeptBranch}
use Rattle.gq_outcomes.specs.declared.search.Found.{Found}
use Rattle.gq_outcomes.specs.declared.search.Search.{Search as KeptSearch}
use Rattle.gq_outcomes.specs.internal.Found_outcomes.{outcome_seen}
use Rattle.gq_outcomes.specs.internal.Kept_keys.{kept_key}
use Rattle.gq_outcomes.specs.internal.Open_branches.{Branch, Stack, arrives, enters, opens, resumed}
use Rattle.gq_outcomes.specs.internal.Walks.{reached}

-- LEAVES

-- these are leaves of n
abbrev pub HasLeaves : ℕ → KeptBranch → Type 0
HasLeaves n b = All (λ x. x < n) b.leaves.items

abbrev pub HasTurns : ℕ → Found → Type 0
HasTurns n f = All (λ x. x < n) f.past.items

-- a search over n leaves
pub record IsSearch (n : ℕ) (s : KeptSearch) : Type 0 where
  pub branches : All (HasLeaves n) s.branches.items
  pub found : All (HasTurns n) s.found.items

-- WHAT IT STANDS FOR

-- the set has the keys of these worlds, and no other key
abbrev pub AreSeen : BTreeSet (Vec ℕ Global) → List Kept → Type 0
AreSeen set seen = (k : Kept) → contains_by (λ v. slice_cmp nat_cmp (kept_key k) v.items) set ≡ is_seen k seen

-- the search stands for this one of the definition
pub record StandsFor (c : KeptSearch) (t : Search) : Type 0 where
  pub seen : AreSeen c.seen t.seen
  pub found : map outcome_seen c.found.items ≡ t.found
  pub left : c.left ≡ t.left
  pub cut : c.cut ≡ t.cut

-- a branch in a run over these turns, with the leaves that have still to take their turns
abbrev pub branch_at : Scenario → List ℕ → KeptBranch → Branch
branch_at s past b = record { point = reached s (take b.turns past); leaves = drop b.next b.leaves.items }

-- the first of these branches has at most n turns before it, and each other one at most as many as the one before it
abbrev pub AreOnWay : ℕ → List KeptBranch → Type 0
AreOnWay n [] = Unit {0}
AreOnWay n (b ∷ bs) = (b.turns ≤ n) × AreOnWay b.turns bs

-- these branches, the last one first, stand for those of the definition in a run over these turns
pub record AreBranches (s : Scenario) (past : List ℕ) (bs : List KeptBranch) (branches : List Branch) : Type 0 where
  pub are : map (branch_at s past) (reverse bs) ≡ branches
  pub on_way : AreOnWay (length past) (reverse bs)

-- the search stands for this one, and its branches for these
pub record IsAt (s : Scenario) (past : List ℕ) (c : KeptSearch) (t : Search) (branches : List Branch) : Type 0 where
  pub stands : StandsFor c t
  pub branched : AreBranches s past c.branches.items branches

-- what is opened, before these branches
abbrev pub IsAtStack : Scenario → List ℕ → KeptSearch → Stack → List Branch → Type 0
IsAtStack s past c r branches = IsAt s past c r.search (r.branches ++ branches)

-- whether a world is new; then it is seen
abbrev pub Notes : Bool → Scenario → List ℕ → KeptSearch → Kept → Search → List Branch → Type 0
Notes true s past c k t branches = (is_seen k t.seen ≡ false) × IsAt s past c (record t { seen = k ∷ t.seen }) branches
Notes false s past c k t branches = (is_seen k t.seen ≡ true) × IsAt s past c t branches

-- before all
abbrev pub nothing_found : Search
nothing_found = record { seen = []; found = []; left = most_turns; cut = false }

-- STEPS

-- a world at rest
abbrev pub search_at_rest : Scenario → List ℕ → Search → Search
search_at_rest s past t = record t { found = with_outcome (outcome_of (explored s) (reached s past)) t.found }

-- a settled world that was not seen
abbrev pub opened : Scenario → List ℕ → Search → Stack
opened s past t = let e = explored s in opens e (reached s past) (choices e.system e.racy (reached s past).world) t

-- a settled world
abbrev pub entered : Scenario → List ℕ → Search → Stack
entered s past t = let k = kept (reached s past) in enters true (is_seen k t.seen) (explored s) (reached s past) k t

-- a world
abbrev pub arrived : Scenario → List ℕ → Search → Stack
arrived s past t = arrives (explored s) (settled (explored s) (record { point = reached s past; left = t.left })) t

-- WHAT IS FOUND

-- the search has found what this one has
pub record Finds (c : KeptSearch) (t : Search) : Type 0 where
  pub found : map outcome_seen c.found.items ≡ t.found
  pub cut : c.cut ≡ t.cut

-- these searches find the same
pub record FindSame (t u : Search) : Type 0 where
  pub found : t.found ≡ u.found
  pub cut : t.cut ≡ u.cut

-- with the branches that are open it comes to what is found here
pub record ComesTo (s : Scenario) (past : List ℕ) (c : KeptSearch) (u : Search) : Type 0 where
  pub now : Search
  pub branches : List Branch
  pub at : IsAt s past c now branches
  pub same : FindSame (resumed (explored s) branches now) u

-- the same, where this leaf takes its turn next, after so many turns
pub record ComesBy (s : Scenario) (past : List ℕ) (c : KeptSearch) (turns leaf : ℕ) (u : Search) : Type 0 where
  pub now : Search
  pub rest : List ℕ
  pub branches : List Branch
  pub at : IsAt s past c now (record { point = reached s (take turns past); leaves = rest } ∷ branches)
  pub few : turns ≤ length past
  pub on_way : AreOnWay turns (reverse c.branches.items)
  pub same : FindSame (resumed (explored s) (record { point = reached s (take turns past); leaves = leaf ∷ rest } ∷ branches) now) u
