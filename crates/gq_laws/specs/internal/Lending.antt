-- What was given for sessions, counted by the slots that name them.
use Rattle.std.specs.Prelude.{ℕ, suc, ◌+◌, ◌==◌, if◌then◌else◌, Bool, false, List, [], ◌∷◌, Option, Some, None, sum_by}
use Rattle.gq_model.specs.machine.Amounts.{Resource}
use Rattle.gq_model.specs.machine.World.{Slot, Empty, Waiting, Bytes, Pool, Link, SlotId, In_leaf, In_session, In_object, Session, World, session_at}
use Rattle.gq_model.specs.machine.Sums.{donated, to_leaf}

abbrev pub given_by : Resource → Option Session → ℕ
given_by r None = 0
given_by r (Some s) = donated r s

-- what was given for the session that a slot names, linked or waiting
abbrev pub slot_given : Resource → World → Slot → ℕ
slot_given r w Empty = 0
slot_given r w (Bytes form n bytes) = 0
slot_given r w (Pool n entries) = 0
slot_given r w (Link k) = given_by r (session_at w k)
slot_given r w (Waiting k) = given_by r (session_at w k)

-- a slot of the x-th leaf's own
abbrev pub in_leaf : ℕ → SlotId → Bool
in_leaf x (In_leaf y i) = y == x
in_leaf x (In_session m i) = false
in_leaf x (In_object m) = false

-- a slot of the k-th session's
abbrev pub in_session : ℕ → SlotId → Bool
in_session k (In_leaf y i) = false
in_session k (In_session m i) = m == k
in_session k (In_object m) = false

-- what was given for a session whose slot is one of these
abbrev pub given_where : (SlotId → Bool) → Resource → Option Session → ℕ
given_where these r None = 0
given_where these r (Some s) = if these s.slot_id then donated r s else 0

-- what was given for the sessions that stand in slots of the x-th leaf's own
abbrev pub given_in_leaf : Resource → World → ℕ → ℕ
given_in_leaf r w x = sum_by (given_where (in_leaf x) r) w.sessions

-- and for those that stand in slots of the k-th session's
abbrev pub given_in_session : Resource → World → ℕ → ℕ
given_in_session r w k = sum_by (given_where (in_session k) r) w.sessions

-- f of each item and its number, the first of which is k
abbrev pub sum_numbered : {A : Type 0} → (ℕ → A → ℕ) → ℕ → List A → ℕ
sum_numbered f k [] = 0
sum_numbered f k (a ∷ rest) = f k a + sum_numbered f (suc k) rest

-- what was given for the sessions that stand in the k-th session's slots, where that is a session to the x-th leaf
abbrev pub given_in_bank : Resource → World → ℕ → ℕ → Option Session → ℕ
given_in_bank r w x k o = to_leaf x (λ s. given_in_session r w k) o
