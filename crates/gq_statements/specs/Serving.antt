-- Requests that are taken and replied to, and leaves that end.
use Rattle.std.specs.Prelude.{◌≡◌, ℕ, ◌<◌, ◌≤◌, ◌+◌, Bool, false, List, [], get_or, is_some, length, nat_eq, not}
use Rattle.std.specs.Prelude.{replicate, Option, Some, None, Result, Ok, Err, IsTrue}
use Rattle.gq_model.specs.machine.World as world
use Rattle.gq_model.specs.machine.Doing.{Doing, Finished, Idle, Quiet, Stepped, standing}
use Rattle.gq_model.specs.machine.Step.{accepted_as, all_released, beginning, first_operands, oldest, section_for, serving, unblocked}
use Rattle.gq_model.specs.machine.Program.{Done, body_of, section_in}
use Rattle.gq_model.specs.declared.section.Section.{Section}
use Rattle.gq_model.specs.machine.Sections.{is_section, section_number}
use Rattle.gq_model.specs.machine.Scenario.{Component, System, interface_in, number_of}
use Rattle.gq_model.specs.declared.phase.Phase.TheVariants.{Exited}
use Rattle.gq_model.specs.declared.fault.Wrong.{Wrong}
use Rattle.gq_trade.specs.Numbers.{IsTaken}
use Rattle.gq_contents.specs.declared.content.Content.TheVariants.{Link, Waiting}
use Rattle.gq_contents.specs.declared.content.Content.{Content}
use Rattle.gq_trade.specs.Leaf_ends.{HasNoSessions}
use Rattle.gq_trade.specs.declared.session.SlotId.TheVariants.{InLeaf}
use Rattle.gq_trade.specs.declared.requests.Request.{Request}
use Rattle.gq_trade.specs.Seen_requests.{request_seen}
use Rattle.gq_statements.specs.Systems.{IsOf}
use Rattle.gq_trade.specs.Queues.{IsOldest}
use Rattle.gq_trade.specs.Trading.{client_of, object_size, server_of, session_at}
use Rattle.gq_trade.specs.declared.requests.Ask.TheVariants.{Upgrade}
use Rattle.gq_slots.specs.Slots.{Frame, IsSlot, IsSlotId, Slots, holder, content_at, world_seen}
use Rattle.gq_slots.specs.Calls.{PutsSlot}
use Rattle.gq_slots.specs.Session_calls.{EndsSession}
use Rattle.gq_slots.specs.Slot_addresses.{slot_for}

-- REPLIES

-- The client of the session k waits for a reply, in the slot that it asked from: one of its own, or of a session to it.
pub record IsAwaited (s : Slots) (k : ℕ) : Type 0 where
  pub there : IsTaken s.trades.trading.sessions k
  pub slot : IsSlot (slot_for s k)
  pub slot_id : IsSlotId s (slot_for s k)
  pub waits : content_at s (slot_for s k) ≡ Waiting k
  pub client : holder s (slot_for s k) ≡ client_of s.trades.trading k

-- The leaf of the step serves again and the client goes on with operands by g: that is the world of these slots.
abbrev pub GoesOn : Doing → world.Session → (List ℕ → List ℕ) → Frame → Slots → Type 0
GoesOn d q g f s = unblocked (standing d (serving d.leaf)) q.client g ≡ world_seen f s

-- The session k has ended, and the slot that it was asked from is empty.
pub record Closes (old new : Slots) (k : ℕ) : Type 0 where
  pub between : Slots
  pub ends : EndsSession old between k
  pub puts : PutsSlot between new (slot_for old k) world.Empty

-- REQUESTS

-- The oldest request to the leaf x: it is of a session to x that is there, and for a level that there is.
pub record IsNextRequest (s : Slots) (x : ℕ) (r : Request) : Type 0 where
  pub oldest : IsOldest x s.trades.trading.requests r
  pub there : IsTaken s.trades.trading.sessions r.session
  pub its : server_of s.trades.trading r.session ≡ x
  pub level : r.ask ≡ Upgrade → (session_at s.trades.trading r.session).level < 3

-- the service of the session k has objects of so many bytes, and this says whether capabilities are counted
pub record KnowsService (s : Slots) (k size : ℕ) (counts : Bool) : Type 0 where
  pub object : object_size s.trades.trading k ≡ size
  pub small : size ≤ 67108864
  pub counted : counts ≡ not (nat_eq s.trades.trading.ledger.price 0)

-- these report which sections the program of a component has, by their places
abbrev pub AreSections : List Bool → Component → Type 0
AreSections bs c =
    (section : Section) → IsTrue (is_section section) → get_or bs (section_number section) false ≡ is_some (section_in section c.node.program.sections)

-- the objects of the sessions to each service have as many bytes as its interface says
abbrev pub HaveObjects : System → Frame → Slots → Type 0
HaveObjects system f s = (i : ℕ) → i < length s.trades.trading.objects
    → get_or s.trades.trading.objects i 0 ≡ number_of (interface_in (get_or f.names i []) system.interfaces) (λ n. n.object)

-- the leaf of the step at the start of the section for a request of the session q
abbrev pub begun_leaf : Doing → world.Request → world.Session → world.Leaf
begun_leaf d r q =
    let section = section_for r.ask (accepted_as d.system r.ask q).level in
    beginning d.leaf (record { session = r.session; section = section }) (first_operands r.ask)
    (body_of (section_in section d.component.node.program.sections))

-- With its leaf there, the world of the step is that of these slots, and the system goes with them.
pub record IsBegun (d : Doing) (f : Frame) (s : Slots) (r : world.Request) (q : world.Session) : Type 0 where
  pub stands : standing d (begun_leaf d r q) ≡ world_seen f s
  pub of : IsOf d.system f s
  pub objects : HaveObjects d.system f s

-- So it is in the frame for the oldest request to the leaf of the step, if there is one.
abbrev pub Begins : Doing → (world.Request → Frame) → Slots → Type 0
Begins d f s = (r : world.Request) (rest : List world.Request) (q : world.Session) → oldest d.world d.x d.world.requests ≡ Some (r, rest)
    → world.session_at d.world r.session ≡ Some q → IsBegun d (f r) s r q

-- no request is taken, or one leads to the world of these slots in its frame
abbrev pub taken : Doing → (world.Request → Frame) → Slots → Result (Option Request) Wrong → Stepped
taken d f s (Ok None) = Ok (d.world, Idle)
taken d f s (Ok (Some r)) = Ok (world_seen (f (request_seen r)) s, Quiet)
taken d f s (Err wrong) = Err wrong

-- this request is taken, or refused
abbrev pub found : Request → Result Unit Wrong → Result (Option Request) Wrong
found r (Ok done) = Ok (Some r)
found r (Err wrong) = Err wrong

-- LEAVES THAT END

-- the own slots of the leaf x
abbrev pub own_slots : Slots → ℕ → List Content
own_slots s x = get_or s.own x []

-- Where no own slot of the leaf x is a link, no session is from it or to it.
abbrev pub IsAloneWithoutLinks : Slots → ℕ → Type 0
IsAloneWithoutLinks s x = ((i k : ℕ) → i < 64 → content_at s (InLeaf x i) ≡ Link k → ⊥) → HasNoSessions s.trades.trading x

-- the leaf has exited, and its slots are as before
abbrev pub leaving : world.Leaf → world.Leaf
leaving leaf = record leaf { phase = Exited; todo = Done; loops = []; operands = []; locals = replicate 8 0; inputs = replicate 8 0 }

-- The leaf of the step has exited, but for its slots, and who starts after it does: that is the world of these slots.
abbrev pub IsReleased : Doing → Frame → Slots → Type 0
IsReleased d f s =
    let w = standing d (leaving d.leaf) in
    record w { leaves = all_released d.component.node.name d.system.components w.leaves } ≡ world_seen f s

-- a leaf that has ended in the world w
abbrev pub finished : Result (Unit {0}) Wrong → world.World → Stepped
finished (Ok u) w = Ok (w, Finished)
finished (Err wrong) w = Err wrong
