-- The same world with other numbers of sessions, as far as a group of leaves goes.
use Rattle.std.specs.Prelude.{◌≡◌, ℕ, Bool, true, List, map, Option, Some, option_map, slice_get}
use Rattle.gq_model.specs.machine.World.{Session, World, joined}
use Rattle.gq_laws.specs.Renamed.{renamed_leaf, renamed_request, renamed_session}
use Rattle.gq_laws.specs.Separation.{own_session, own_requests}

-- the group's session at a place, if there is one
abbrev pub own_at : (ℕ → Bool) → List (Option Session) → ℕ → Option Session
own_at group sessions k = own_session group (joined (slice_get sessions k))

-- each session of the one is one of the other at its new number, one to one
pub record Correspond (f : ℕ → ℕ) (a b : ℕ → Option Session) : Type 0 where
  pub there : (k : ℕ) (s : Session) → a k ≡ Some s → b (f k) ≡ Some (renamed_session f s)
  pub back : (m : ℕ) (t : Session) → b m ≡ Some t → (k : ℕ) × (s : Session) × (a k ≡ Some s) × (f k ≡ m)
  pub single : (j k : ℕ) (s t : Session) → a j ≡ Some s → a k ≡ Some t → f j ≡ f k → j ≡ k

-- leaves inside, the group's sessions and the requests for these, in their order, are the same but for the numbers of sessions
pub record IsSame (group : ℕ → Bool) (f : ℕ → ℕ) (w v : World) : Type 0 where
  pub leaves : (y : ℕ) → group y ≡ true → slice_get v.leaves y ≡ option_map (renamed_leaf f) (slice_get w.leaves y)
  pub sessions : Correspond f (own_at group w.sessions) (own_at group v.sessions)
  pub requests : own_requests group v v.requests ≡ map (renamed_request f) (own_requests group w w.requests)
