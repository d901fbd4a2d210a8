-- The first leaf on a cycle of small lists, by computation.
use Rattle.std.proofs.Common.{◌≡◌, [], ◌∷◌, Some, None, refl}
use Rattle.gq_resolve.specs.Reaching.{first_on_cycle}

no_leaves : first_on_cycle [] ≡ None
no_leaves = refl

uses_none : first_on_cycle ([] ∷ []) ≡ None
uses_none = refl

uses_itself : first_on_cycle ([] ∷ (1 ∷ []) ∷ []) ≡ Some 1
uses_itself = refl

-- two leaves use each other: the first is reported
each_other : first_on_cycle ((1 ∷ []) ∷ (0 ∷ []) ∷ []) ≡ Some 0
each_other = refl

-- the first leaf uses one of two that use each other, and reaches no cycle of its own
before_two : first_on_cycle ((1 ∷ []) ∷ (2 ∷ []) ∷ (1 ∷ []) ∷ []) ≡ Some 1
before_two = refl

round_of_three : first_on_cycle ((2 ∷ []) ∷ (0 ∷ []) ∷ (1 ∷ []) ∷ []) ≡ Some 0
round_of_three = refl

chain : first_on_cycle ((1 ∷ []) ∷ (2 ∷ []) ∷ [] ∷ []) ≡ None
chain = refl

-- two ways to one server are no cycle
two_ways : first_on_cycle ((1 ∷ 2 ∷ []) ∷ (3 ∷ []) ∷ (3 ∷ []) ∷ [] ∷ []) ≡ None
two_ways = refl

-- no leaf has the number, and none uses anything there
beyond_the_end : first_on_cycle ((7 ∷ []) ∷ (2 ∷ 0 ∷ []) ∷ []) ≡ None
beyond_the_end = refl
