-- What is kept of a system while it is found where no number of capabilities is enough.
use Rattle.std.specs.Prelude.{◌≡◌, ℕ, suc, min, Bool, false, ◌&&◌, ◌||◌, List, [], ◌∷◌, map, Option, Some, None, get_or}
use Rattle.gq_model.specs.machine.Scenario.{Interface, Interfaces, Component, System}
use Rattle.gq_model.specs.rules.Kinds.{AbstractState, Subject}
use Rattle.gq_model.specs.rules.Use.{subject}
use Rattle.gq_program.specs.Interfaces.{place_in}
use Rattle.gq_verify.specs.Visits.{Sight, At_statement, At_point}
use Rattle.gq_sizes.specs.Endless.{Test, endless_at, goes_on, holds, is_endless, own_endless}
use Rattle.gq_sizes.specs.Size.{is_named}

-- TESTS OF SESSIONS

-- the test of a level of the interface at a place; no section is of a level above 3
abbrev pub test_at : Option ℕ → List (List Bool) → ℕ → Bool
test_at None tests level = false
test_at (Some place) tests level = get_or (get_or tests place []) (min level 3) false

-- the sessions that pass by these tests
abbrev pub passing : Interfaces → List (List Bool) → Test
passing interfaces tests service level = test_at (place_in service interfaces) tests level

-- the tests of the four levels
abbrev pub tests : (ℕ → Bool) → List Bool
tests f = f 0 ∷ f 1 ∷ f 2 ∷ f 3 ∷ []

-- of each interface: whether a session is the first of a chain of n more
abbrev pub chain_rows : System → ℕ → Interfaces → List (List Bool)
chain_rows all n = map (λ (e : List ℕ × Interface). tests (goes_on n all e.0))

-- whether it holds one that passes
abbrev pub held_rows : System → Test → Interfaces → List (List Bool)
held_rows all test = map (λ (e : List ℕ × Interface). tests (holds test all e.0))

-- whether it is the first of a chain without end
abbrev pub endless_rows : System → Interfaces → List (List Bool)
endless_rows all = map (λ (e : List ℕ × Interface). tests (is_endless all e.0))

-- these sessions are the first of chains without end
abbrev pub AreEndless : System → Test → Type 0
AreEndless all test = (service : List ℕ) (level : ℕ) → test service level ≡ is_endless all service level

-- POINTS

-- whether one was found by now, after what is shown next
abbrev pub found_by : (AbstractState → Bool) → Bool → Sight → Bool
found_by f found (At_statement c s i) = found
found_by f found (At_point k s) = found || f s

-- LEAVES

-- one of the leaves that provide a service passes, each with what it is judged by
abbrev pub held_of : (Subject → Bool) → List ℕ → List Component → List Subject → Bool
held_of f service [] vs = false
held_of f service (c ∷ cs) [] = false
held_of f service (c ∷ cs) (v ∷ vs) = (is_named service c.node.provides && f v) || held_of f service cs vs

-- of each leaf: whether a slot of its own has a link to a session that is the first of a chain without end
abbrev pub endless_owns : System → List Component → List Bool
endless_owns all = map (λ (c : Component). own_endless all (subject all c))

-- from the x-th on: whether no number of capabilities is enough for it
abbrev pub endless_from : System → ℕ → List Component → List Bool
endless_from all x [] = []
endless_from all x (c ∷ rest) = endless_at all x ∷ endless_from all (suc x) rest
