-- What a leaf that asks for something makes of the slots and of the machine's world.
use Rattle.std.specs.Prelude.{◌≡◌, ℕ, ◌<◌, length, Option, Some, None, IfSome, OnErr, Result}
use Rattle.gq_tariff.specs.declared.amount.Amount.{Amount}
use Rattle.gq_model.specs.declared.fault.Wrong.{Wrong}
use Rattle.gq_model.specs.declared.phase.Phase.TheVariants as phase
use Rattle.gq_model.specs.declared.program.OperandSlot.{OperandSlot}
use Rattle.gq_model.specs.machine.Amounts.{amount}
use Rattle.gq_model.specs.machine.Doing.{Doing, standing}
use Rattle.gq_model.specs.machine.Scenario.{interface_in, upgrade_caps}
use Rattle.gq_model.specs.machine.World as world
use Rattle.gq_trade.specs.Numbers.{IsTaken, free_number}
use Rattle.gq_trade.specs.Trades.{IsLive}
use Rattle.gq_trade.specs.Waiting.{IsIdle}
use Rattle.gq_contents.specs.declared.content.Content.TheVariants.{Link}
use Rattle.gq_trade.specs.Trading.{client_of}
use Rattle.gq_trade.specs.declared.session.SlotId.{SlotId}
use Rattle.gq_slots.specs.Slots.{Frame, IsSlotId, Slots, holder, content_at, world_seen}
use Rattle.gq_statements.specs.Slot_statements.{IsCurrent}
use Rattle.gq_statements.specs.declared.actor.Actor.{Actor}

-- each link in a slot that the leaf x pays for leads to a session that is there, and whose client is x
abbrev pub OwnsLinks : Slots → ℕ → Type 0
OwnsLinks s x = (p : SlotId) → IsSlotId s p → holder s p ≡ x → (k : ℕ) → content_at s p ≡ Link k
    → IsTaken s.trades.trading.sessions k × (client_of s.trades.trading k ≡ x)

-- WHO ASKS, AND WHAT IT LEAVES

-- a live leaf that can ask, with its current request: no request of its own waits
pub record CanAsk (s : Slots) (a : Actor) : Type 0 where
  pub live : IsLive s.trades a.leaf
  pub current : IsCurrent s a.leaf a.current
  pub idle : IsIdle s.trades.trading a.leaf

-- The leaf x can ask this server, if there is one, for a session of this service with this donation: it is another leaf, and a session more has a number.
pub record CanOpen (s : Slots) (x : ℕ) (to : Option ℕ) (number : ℕ) (donation : Amount) : Type 0 where
  pub server : IfSome to (λ y. IsLive s.trades y × (x ≡ y → ⊥))
  pub service : number < length s.trades.trading.objects
  pub counted : s.trades.trading.ledger.price ≡ 0 → donation.caps ≡ 0
  pub room : free_number s.trades.trading.sessions < s.trades.trading.room
  pub small : free_number s.trades.trading.sessions < 4294967296

-- WHICH SESSION A STATEMENT NAMES

-- the session to which a link leads; no other slot leads to one
abbrev pub leads_to : Option world.Slot → Option ℕ
leads_to (Some (world.Link k)) = Some k
leads_to _ = None

abbrev pub leads_from : world.World → Option world.SlotId → Option ℕ
leads_from w None = None
leads_from w (Some p) = leads_to (world.slot_at w p)

-- the session to which the slot leads that an operand names
abbrev pub session_named : Doing → OperandSlot → Option ℕ
session_named d place = leads_from d.world (world.slot_id_of d.x d.leaf.current place)

-- this is what the session that an operand names needs for its next level: n bytes, and the capabilities that its service asks for then
abbrev pub IsNextLevel : Doing → OperandSlot → ℕ → Amount → Type 0
IsNextLevel d place n donation = (k : ℕ) (q : world.Session) → session_named d place ≡ Some k → world.session_at d.world k ≡ Some q
    → donation ≡ amount n (upgrade_caps (interface_in q.service d.system.interfaces) q.level)

-- A LEAF THAT WAITS

-- The step is one of the slots' world as the frame `before` has it. With this leaf, which is blocked, the world is as the frame `after` has it.
pub record Blocks (d : Doing) (leaf : world.Leaf) (before after : Frame) (s : Slots) : Type 0 where
  pub world_before : d.world ≡ world_seen before s
  pub world_after : standing d (record leaf { phase = phase.Blocked }) ≡ world_seen after s

-- All accounts, who pays and who stands where are as before; there may be a session more, and other requests and quotas.
pub record Stays (old new : Slots) : Type 0 where
  pub nodes : new.trades.nodes ≡ old.trades.nodes
  pub tree : new.trades.trading.tree ≡ old.trades.trading.tree
  pub leaves : new.trades.trading.leaves ≡ old.trades.trading.leaves
  pub objects : new.trades.trading.objects ≡ old.trades.trading.objects
  pub room : new.trades.trading.room ≡ old.trades.trading.room
  pub price : new.trades.trading.ledger.price ≡ old.trades.trading.ledger.price
  -- each slot stays, and is paid for by the same leaf
  pub slot_ids : (q : SlotId) → IsSlotId old q → IsSlotId new q
  pub holders : (q : SlotId) → IsSlotId old q → holder new q ≡ holder old q

-- what a leaf that asks leaves: all but a session, requests and quotas, and these, too, where it is wrong
pub record LeavesNodes {A : Type 0} (result : Result A Wrong) (old new : Slots) : Type 0 where
  pub stays : Stays old new
  pub unchanged : OnErr result (new ≡ old)
