-- Groups of leaves that share nothing with the others, and what stays of them.
use Rattle.std.specs.Prelude.{◌≡◌, ℕ, if◌then◌else◌, Bool, true, false, ◌||◌, List, [], ◌∷◌, Option, Some, None, is_some, slice_get}
use Rattle.gq_model.specs.machine.Scenario.{System, Component}
use Rattle.gq_model.specs.machine.Routes.{server_of}
use Rattle.gq_model.specs.machine.World.{Session, Request, World, session_at}
use Rattle.gq_model.specs.machine.Step.{is_named}
use Rattle.gq_model.specs.machine.Accounts.{account_at}
use Rattle.gq_model.specs.machine.Run.{Acts, run, run_on}
use Rattle.gq_laws.specs.Shapes.{Each}

-- A GROUP THAT IS APART

-- a group reports of each leaf, by its number, whether it is inside; no route and no `after` leads across its edge
pub record IsApart (system : System) (group : ℕ → Bool) : Type 0 where
  pub routes : (x y : ℕ) (c : Component) (service : List ℕ) → slice_get system.components x ≡ Some c
      → server_of system c service ≡ Some y → group x ≡ group y
  pub afters : (x y : ℕ) (c d : Component) → slice_get system.components x ≡ Some c → slice_get system.components y ≡ Some d
      → is_named d.node.name c.node.after ≡ true → group x ≡ group y

-- WHAT IS INSIDE

-- a session is the group's where its client or its server is inside
abbrev pub own_session : (ℕ → Bool) → Option Session → Option Session
own_session group None = None
own_session group (Some s) = if group s.client || group s.server then Some s else None

-- leaves inside stand as they stood, and the group's sessions are the same, each at its number
pub record IsUntouched (group : ℕ → Bool) (old new : World) : Type 0 where
  pub leaves : (y : ℕ) → group y ≡ true → slice_get new.leaves y ≡ slice_get old.leaves y
  pub sessions : (k : ℕ) → own_session group (session_at new k) ≡ own_session group (session_at old k)

-- those of these requests that are for a session of the group, in their order
abbrev pub own_requests : (ℕ → Bool) → World → List Request → List Request
own_requests group w [] = []
own_requests group w (r ∷ rest) =
    if is_some (own_session group (session_at w r.session)) then r ∷ own_requests group w rest else own_requests group w rest

-- the same requests of the group wait, in the same order
abbrev pub SameRequests : (ℕ → Bool) → World → World → Type 0
SameRequests group old new = own_requests group new new.requests ≡ own_requests group old old.requests

-- the account of each leaf inside is the same, in either version and by any budget
abbrev pub SameAccounts : System → (ℕ → Bool) → World → World → Type 0
SameAccounts system group old new =
    (y : ℕ) → group y ≡ true → (version budget : ℕ)
    → account_at version new y (slice_get system.components y) (slice_get new.leaves y) budget
    ≡ account_at version old y (slice_get system.components y) (slice_get old.leaves y) budget

-- TURNS

-- turns of leaves outside, and settings of their inputs
abbrev pub AreOutside : (ℕ → Bool) → Acts → Type 0
AreOutside group turns = Each (λ t. group t.0 ≡ false) turns

-- such turns and settings that come after these change no leaf inside, no session and no request of the group, and no account of a leaf inside
abbrev pub TurnsTouchNothing : System → (ℕ → Bool) → Acts → Type 0
TurnsTouchNothing system group turns =
    (more : Acts) → AreOutside group more
    → IsUntouched group (run system turns).world (run_on system more (run system turns)).world
    × SameRequests group (run system turns).world (run_on system more (run system turns)).world
    × SameAccounts system group (run system turns).world (run_on system more (run system turns)).world
