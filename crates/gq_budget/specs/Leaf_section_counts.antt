-- What is kept of leaves once their sections are gone through.
use Rattle.std.specs.Prelude.{◌≡◌, ℕ, Bool, true, List, [], ◌∷◌, Option, Some, None, map}
use Rattle.gq_model.specs.machine.Lists.{any_of}
use Rattle.gq_model.specs.declared.section.Section.{Section}
use Rattle.gq_verify.specs.Requested.{Requested, is_asked}
use Rattle.gq_budget.specs.Leaf_routes.{BudgetLeaf}
use Rattle.gq_budget.specs.internal.Counted.{AreRequests, costs_of}

-- the sections of a leaf's program, the service that it provides, the number of its signals, and of each section the requests and the steps
pub record Counted : Type 0 where
  pub sections : List Section
  pub provides : Option (List ℕ)
  pub signals : ℕ
  pub requests : List (List Requested)
  pub costs : List ℕ

-- these are what a leaf has
pub record IsCountOf (n : Counted) (leaf : BudgetLeaf) : Type 0 where
  pub sections : n.sections ≡ map (λ p. p.0) leaf.subject.program.sections
  pub provides : n.provides ≡ leaf.provides
  pub signals : n.signals ≡ leaf.subject.signals
  pub requests : AreRequests leaf.subject leaf.subject.program.sections n.requests
  pub costs : n.costs ≡ costs_of leaf.subject.program.sections

-- the same of each of these leaves
abbrev pub AreCountsOf : List Counted → List BudgetLeaf → Type 0
AreCountsOf [] [] = Unit {0}
AreCountsOf (n ∷ rest) (leaf ∷ more) = IsCountOf n leaf × AreCountsOf rest more
AreCountsOf [] (leaf ∷ more) = ⊥
AreCountsOf (n ∷ rest) [] = ⊥

-- whether a section of a leaf asks for a section of a service
abbrev pub asks : List ℕ → Counted → Bool
asks service n = any_of (is_asked service) n.requests

-- two rows report the same of each leaf that asks for the service
abbrev pub AgreeFor : List ℕ → List Counted → List Bool → List Bool → Type 0
AgreeFor service [] row other = Unit {0}
AgreeFor service (n ∷ ns) [] [] = Unit {0}
AgreeFor service (n ∷ ns) [] (b ∷ other) = ⊥
AgreeFor service (n ∷ ns) (a ∷ row) [] = ⊥
AgreeFor service (n ∷ ns) (a ∷ row) (b ∷ other) = (asks service n ≡ true → a ≡ b) × AgreeFor service ns row other

-- nobody asks for the service of a leaf that provides none
abbrev pub Agree : Option (List ℕ) → List Counted → List Bool → List Bool → Type 0
Agree None ns row other = Unit {0}
Agree (Some service) ns row other = AgreeFor service ns row other

-- two tables of which leaves' routes lead to each of these leaves report the same, where it is asked for
abbrev pub AgreeWhereAsked : List Counted → List Counted → List (List Bool) → List (List Bool) → Type 0
AgreeWhereAsked ns [] rows others = Unit {0}
AgreeWhereAsked ns (m ∷ ms) [] [] = Unit {0}
AgreeWhereAsked ns (m ∷ ms) [] (other ∷ others) = ⊥
AgreeWhereAsked ns (m ∷ ms) (row ∷ rows) [] = ⊥
AgreeWhereAsked ns (m ∷ ms) (row ∷ rows) (other ∷ others) = Agree m.provides ns row other × AgreeWhereAsked ns ms rows others
