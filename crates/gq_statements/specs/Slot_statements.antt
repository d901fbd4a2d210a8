-- What a statement of a leaf on slots makes of the machine's world.
use Rattle.std.specs.Prelude.{◌≡◌, ℕ, if◌then◌else◌, Bool, false, List, ◌∷◌, Option, Some, None, Result, Ok, Err, OnErr}
use Rattle.gq_model.specs.machine.World as world
use Rattle.gq_model.specs.machine.Doing.{Doing, Quiet, Stepped, on_stack, standing, with_operands}
use Rattle.gq_model.specs.declared.fault.Wrong.{Wrong}
use Rattle.gq_trade.specs.Numbers.{IsTaken}
use Rattle.gq_trade.specs.Trading.{server_of}
use Rattle.gq_trade.specs.Trades.{IsLive}
use Rattle.gq_slots.specs.Slots.{Frame, Slots, world_seen}
use Rattle.gq_slots.specs.Calls.{SameBeside}
use Rattle.gq_statements.specs.declared.actor.Current.{Current}
use Rattle.gq_statements.specs.declared.actor.Actor.{Actor}

-- the current session and section, as the machine's world has them
abbrev pub current_seen : Option Current → Option world.Current
current_seen None = None
current_seen (Some h) = Some (record { session = h.session; section = h.section })

-- the current session is there, and the leaf x is its server
abbrev pub IsCurrent : Slots → ℕ → Option Current → Type 0
IsCurrent s x None = Unit {0}
IsCurrent s x (Some h) = IsTaken s.trades.trading.sessions h.session × (server_of s.trades.trading h.session ≡ x)

-- a live leaf with its current request
pub record IsActor (s : Slots) (a : Actor) : Type 0 where
  pub live : IsLive s.trades a.leaf
  pub current : IsCurrent s a.leaf a.current

-- What a statement leaves: all beside the contents of slots, and the contents, too, where it is wrong.
pub record LeavesRest {A : Type 0} (result : Result A Wrong) (old new : Slots) : Type 0 where
  pub beside : SameBeside old new
  pub unchanged : OnErr result (new ≡ old)

-- the same of one that returns whether it was done
pub record LeavesRestIf (done : Bool) (old new : Slots) : Type 0 where
  pub beside : SameBeside old new
  pub unchanged : done ≡ false → new ≡ old

-- it is a step of this leaf, with its current request
pub record IsBy (d : Doing) (a : Actor) : Type 0 where
  pub leaf : d.x ≡ a.leaf
  pub current : d.leaf.current ≡ current_seen a.current

-- a statement that reads a number puts it on the other operands
abbrev pub read : Doing → List ℕ → Result ℕ Wrong → Stepped
read d rest (Ok n) = on_stack d (n ∷ rest)
read d rest (Err wrong) = Err wrong

-- n on the other operands of the step leads to the world of these slots in the n-th frame
abbrev pub Pushes : Doing → List ℕ → (ℕ → Frame) → Slots → Type 0
Pushes d rest f s = (n : ℕ) → standing d (with_operands d (n ∷ rest)) ≡ world_seen (f n) s

-- a statement that says by 1 or 0 whether it changed something leads to the world of these slots
abbrev pub reported : (ℕ → Frame) → Slots → Result Bool Wrong → Stepped
reported f s (Ok b) = Ok (world_seen (f (if b then 1 else 0)) s, Quiet)
reported f s (Err wrong) = Err wrong

-- a statement that is done leads to the world w, where nothing shows
abbrev pub done : Result (Unit {0}) Wrong → world.World → Stepped
done (Ok u) w = Ok (w, Quiet)
done (Err wrong) w = Err wrong
