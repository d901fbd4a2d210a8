-- Statements that ask something of a session, where the rules allow them: the leaf waits, and of its slot is promised what the rules state.
use Rattle.std.specs.Prelude.{◌≡◌, ◌≤◌, ℕ, ◌==◌, if◌then◌else◌, drop, List, [], ◌∷◌, ◌++◌, Option, Some, Ok, slice_get}
use Rattle.gq_model.specs.declared.program.Instruction.{Instruction}
use Rattle.gq_model.specs.declared.program.Instruction.TheVariants.{Open, Upgrade, Call, Close}
use Rattle.gq_model.specs.declared.phase.Phase.TheVariants.{Blocked}
use Rattle.gq_model.specs.machine.Scenario.{System, interface_in, number_of}
use Rattle.gq_model.specs.machine.Routes.{server_of}
use Rattle.gq_model.specs.machine.World.{Link, SlotId, Session, Ask, Ask_open, Ask_upgrade, Ask_close, Ask_call, Leaf, World, session_at, slot_at}
use Rattle.gq_model.specs.machine.Doing.{Doing}
use Rattle.gq_model.specs.machine.Step.{section_for, instruct, level_then}
use Rattle.gq_model.specs.rules.Kinds.{Kind, Link_kind, AbstractState, Context}
use Rattle.gq_model.specs.rules.Rules.{judged}
use Rattle.gq_laws.specs.Current_section_facts.{kind_replied}
use Rattle.gq_laws.specs.Typed.{Meets}
use Rattle.gq_laws.specs.Inside_steps.{IsSafe}

-- this is promised of session k from now on
abbrev pub promised_anew : (ℕ → Option Kind) → ℕ → Kind → ℕ → Option Kind
promised_anew promised k kind j = if j == k then Some kind else promised j

-- what is promised of a session to which a link leads is that link, as the session stands
abbrev pub ReportsLinks : (ℕ → Option Kind) → World → Type 0
ReportsLinks promised w =
    (q : SlotId) (k : ℕ) (kind : Kind) → slot_at w q ≡ Some (Link k) → promised k ≡ Some kind
    → (s : Session) × (session_at w k ≡ Some s) × (kind ≡ Link_kind s.service s.level s.donation)

-- the state at which a leaf waits: the reply to a call is not there yet
abbrev pub while_waiting : Instruction → AbstractState → AbstractState
while_waiting (Call place) s = record s { bounds = drop 1 s.bounds }
while_waiting i s = s

-- what a statement asks of a session
abbrev pub IsAsk : Instruction → Ask → Type 0
IsAsk (Open place service n) ask = ask ≡ Ask_open
IsAsk (Upgrade place n) ask = ask ≡ Ask_upgrade
IsAsk (Call place) ask = (value : ℕ) × (ask ≡ Ask_call value)
IsAsk (Close place) ask = ask ≡ Ask_close
IsAsk i ask = ⊥

-- a call's argument is at most what the interface of its service allows
abbrev pub IsWithin : System → List ℕ → Ask → Type 0
IsWithin system service (Ask_call value) = value ≤ number_of (interface_in service system.interfaces) (λ i. i.arg)
IsWithin system service ask = Unit {0}

-- an `open` names a service whose route leads to a server
abbrev pub IsServed : Doing → Instruction → Type 0
IsServed d (Open place service n) = (server : ℕ) × (server_of d.system d.component service ≡ Some server)
IsServed d (Upgrade place n) = Unit {0}
IsServed d (Call place) = Unit {0}
IsServed d (Close place) = Unit {0}
IsServed d i = ⊥

-- the leaf waits for the reply to what it asked of session k, and stands at this state, but for the reply
pub record Awaits (promised : ℕ → Option Kind) (c : Context) (state : AbstractState) (i : Instruction) (d : Doing) (w : World) : Type 0 where
  pub k : ℕ
  pub kind : Kind
  pub leaf : Leaf
  pub there : slice_get w.leaves d.x ≡ Some leaf
  pub meets : Meets (promised_anew promised k kind) c (while_waiting i state) w leaf
  pub todo : leaf.todo ≡ d.leaf.todo
  pub loops : leaf.loops ≡ d.leaf.loops
  pub current : leaf.current ≡ d.leaf.current
  pub reacting : leaf.reacting ≡ d.leaf.reacting
  pub phase : leaf.phase ≡ Blocked
  -- the request is the last
  pub ask : Ask
  pub is : IsAsk i ask
  pub requests : w.requests ≡ d.world.requests ++ record { session = k; ask = ask } ∷ []
  -- what is promised is what the reply makes of the slot
  pub session : Session
  pub found : session_at w k ≡ Some session
  pub promise : kind ≡ kind_replied (section_for ask (level_then ask session.level)) session
  pub argument : IsWithin d.system session.service ask

-- a statement that asks something of a session, that the rules allow where the leaf stands, leaves it waiting for what the rules say
abbrev pub AsksAsRuled : (ℕ → Option Kind) → Context → Doing → Type 0
AsksAsRuled promised c d =
    (state new : AbstractState) (i : Instruction) → IsServed d i → Meets promised c state d.world d.leaf → judged c state i ≡ Ok new
    → IsSafe (Awaits promised c new i d) (instruct d i)
