-- Worlds in which a client that waits for the reply to a call has room for it on its operands.
use Rattle.std.specs.Prelude.{◌≡◌, ℕ, ◌≤◌, length, Some, slice_get}
use Rattle.gq_model.specs.declared.section.Section.TheVariants.{Calling}
use Rattle.gq_model.specs.machine.World.{Session, Ask, Ask_open, Ask_upgrade, Ask_close, Ask_call, Request, Current, Leaf, World, session_at}
use Rattle.gq_laws.specs.Shapes.{Each}

-- the client of session k has at most 15 operands
abbrev pub HasRoomFor : World → ℕ → Type 0
HasRoomFor w k = (q : Session) (leaf : Leaf) → session_at w k ≡ Some q → slice_get w.leaves q.client ≡ Some leaf → length leaf.operands ≤ 15

-- so it has, where what is asked is a call
abbrev pub HasRoomIfCalled : World → ℕ → Ask → Type 0
HasRoomIfCalled w k Ask_open = Unit {0}
HasRoomIfCalled w k Ask_upgrade = Unit {0}
HasRoomIfCalled w k Ask_close = Unit {0}
HasRoomIfCalled w k (Ask_call value) = HasRoomFor w k

abbrev pub HasRoomAsked : World → Request → Type 0
HasRoomAsked w r = HasRoomIfCalled w r.session r.ask

-- a call of session k current, at this level of the session
abbrev pub calling : ℕ → ℕ → Current
calling k level = record { session = k; section = Calling level }

pub record IsRoomy (w : World) : Type 0 where
  -- a leaf has at most 16 operands
  pub small : (x : ℕ) (leaf : Leaf) → slice_get w.leaves x ≡ Some leaf → length leaf.operands ≤ 16
  -- who waits for a call to be taken up has room for the reply
  pub asked : Each (HasRoomAsked w) w.requests
  -- and so has who waits for the end of a current call
  pub handled : (x : ℕ) (leaf : Leaf) (k level : ℕ) → slice_get w.leaves x ≡ Some leaf → leaf.current ≡ Some (calling k level) → HasRoomFor w k
