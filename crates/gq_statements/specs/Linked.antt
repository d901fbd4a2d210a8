-- What linked slots say of a session, of a request and of what is current at a leaf.
use Rattle.std.specs.Prelude.{◌≡◌, ℕ, ◌⊎◌, true, false, List, Option, Some, None, slice_get}
use Rattle.gq_model.specs.declared.phase.Phase.TheVariants.{Blocked}
use Rattle.gq_model.specs.machine.Routes as routes
use Rattle.gq_model.specs.machine.Scenario.{System, Component}
use Rattle.gq_model.specs.machine.World as world
use Rattle.gq_trade.specs.Numbers.{IsTaken}
use Rattle.gq_pool.specs.declared.pool.Pool.{Pool}
use Rattle.gq_trade.specs.declared.requests.Ask.{Ask}
use Rattle.gq_trade.specs.declared.requests.Ask.TheVariants.{Open, Upgrade, Close, Call}
use Rattle.gq_trade.specs.declared.requests.Request.{Request}
use Rattle.gq_contents.specs.declared.content.Content.{Content}
use Rattle.gq_contents.specs.declared.content.Content.TheVariants as content
use Rattle.gq_trade.specs.declared.session.Session.{Session}
use Rattle.gq_trade.specs.declared.session.SlotId.{SlotId}
use Rattle.gq_trade.specs.declared.session.SlotId.TheVariants.{InObject}
use Rattle.gq_trade.specs.Trading.{AreOfOthers, client_of, server_of, session_at}
use Rattle.gq_slots.specs.Slots.{Frame, IsMark, IsSlot, IsSlotId, Slots, holder, content_at}

-- SESSIONS AND THEIR SLOTS

-- it leads to the session k, or waits for a reply from it
abbrev pub Names : Content → ℕ → Type 0
Names t k = (t ≡ content.Link k) ⊎ (t ≡ content.Waiting k)

-- the session k is there, and this is the slot of its client in which it stands
pub record IsSlotOf (s : Slots) (p : SlotId) (k : ℕ) : Type 0 where
  pub there : IsTaken s.trades.trading.sessions k
  pub slot_id : (session_at s.trades.trading k).slot_id ≡ p
  pub client : client_of s.trades.trading k ≡ holder s p
  pub slot : IsSlot p

-- what is current, if there is anything, is of another session
abbrev pub IsOfOther : ℕ → Option world.Current → Type 0
IsOfOther k None = Unit {0}
IsOfOther k (Some current) = current.session ≡ k → ⊥

-- a session is accepted, and no request of it waits or is current at its server
pub record IsAtRest (f : Frame) (s : Slots) (k : ℕ) : Type 0 where
  pub accepted : (session_at s.trades.trading k).accepted ≡ true
  pub none_waits : AreOfOthers k s.trades.trading.requests
  pub not_current : IsOfOther k (f.leaf (server_of s.trades.trading k)).current

-- what a session's slot holds: a link to a session at rest, or else a mark that the slot waits
abbrev pub ShowsSession : Frame → Slots → ℕ → Content → Type 0
ShowsSession f s k t = (IsAtRest f s k × (t ≡ content.Link k)) ⊎ ((IsAtRest f s k → ⊥) × (t ≡ content.Waiting k))

-- a session stands in a slot of its client, which reports how it stands
pub record IsInSlot (f : Frame) (s : Slots) (k : ℕ) : Type 0 where
  pub there : IsSlotId s (session_at s.trades.trading k).slot_id
  pub slot : IsSlot (session_at s.trades.trading k).slot_id
  pub holder_is : holder s (session_at s.trades.trading k).slot_id ≡ client_of s.trades.trading k
  pub reports : ShowsSession f s k (content_at s (session_at s.trades.trading k).slot_id)
  pub mark : IsMark (content_at s (session_at s.trades.trading k).slot_id)

-- REQUESTS

-- the client of a session waits for a reply: it is blocked, and the session's slot waits
pub record IsAwaited (f : Frame) (s : Slots) (k : ℕ) : Type 0 where
  pub there : IsTaken s.trades.trading.sessions k
  pub waits : content_at s (session_at s.trades.trading k).slot_id ≡ content.Waiting k
  pub blocked : (f.leaf (client_of s.trades.trading k)).phase ≡ Blocked

-- a request to open is of a session that is not accepted and has no object, every other one of an accepted session
abbrev pub IsFor : Ask → Session → Type 0
IsFor Open q = (q.accepted ≡ false) × (q.object ≡ content.Empty)
IsFor Upgrade q = q.accepted ≡ true
IsFor Close q = q.accepted ≡ true
IsFor (Call n) q = q.accepted ≡ true

-- a request that waits for the leaf x
pub record IsAsked (f : Frame) (s : Slots) (x : ℕ) (r : Request) : Type 0 where
  pub awaited : IsAwaited f s r.session
  pub server : server_of s.trades.trading r.session ≡ x
  pub session : IsFor r.ask (session_at s.trades.trading r.session)

-- what is current at the leaf x: an accepted session to it, with an object, whose client waits for the reply
pub record IsHandled (f : Frame) (s : Slots) (x : ℕ) (current : world.Current) : Type 0 where
  pub awaited : IsAwaited f s current.session
  pub server : server_of s.trades.trading current.session ≡ x
  pub accepted : (session_at s.trades.trading current.session).accepted ≡ true
  pub object : content_at s (InObject current.session) ≡ content.Empty → ⊥
  pub no_pool : (p : Pool) → content_at s (InObject current.session) ≡ content.Pool p → ⊥
  pub none_waits : AreOfOthers current.session s.trades.trading.requests

-- LEAVES

-- no component's route leads to the leaf x
abbrev pub ProvidesNothing : System → ℕ → Type 0
ProvidesNothing system x =
    (y : ℕ) (c : Component) (service : List ℕ) → slice_get system.components y ≡ Some c → routes.server_of system c service ≡ Some x → ⊥
