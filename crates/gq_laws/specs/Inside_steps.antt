-- Steps inside a section that ask nothing of a session: they do what the rules state, only want of quota stops them, and others are left alone.
use Rattle.std.specs.Prelude.{◌≡◌, ◌≢◌, ℕ, ◌<◌, true, List, [], ◌∷◌, length, Option, Some, None, Ok, Err, slice_get}
use Rattle.gq_model.specs.machine.Lists.{all_of}
use Rattle.gq_model.specs.declared.program.OperandSlot.{OperandSlot}
use Rattle.gq_model.specs.declared.program.Instruction.{Instruction}
use Rattle.gq_model.specs.declared.program.Instruction.TheVariants.{Open, Upgrade, Call, Close}
use Rattle.gq_model.specs.declared.section.Section.TheVariants.{Main}
use Rattle.gq_model.specs.declared.fault.Wrong.{Wrong}
use Rattle.gq_model.specs.declared.fault.Wrong.TheVariants.{ExceededQuota}
use Rattle.gq_model.specs.machine.Program.{Statements, Done, Do, If, Loop}
use Rattle.gq_model.specs.texts.Operands.{operands, in_range}
use Rattle.gq_model.specs.machine.Scenario.{Component, interface_in}
use Rattle.gq_model.specs.machine.World.{Empty, Waiting, SlotId, Session, Current, Round, Leaf, World, session_at, slot_at, slot_id_of, start_leaf}
use Rattle.gq_model.specs.machine.Doing.{Doing, Event, Stepped}
use Rattle.gq_model.specs.machine.Step.{instruct, perform}
use Rattle.gq_model.specs.rules.Kinds.{Kind, AbstractState, Context, Subject}
use Rattle.gq_model.specs.rules.Flow.{context, start_of}
use Rattle.gq_model.specs.rules.Rules.{judged}
use Rattle.gq_laws.specs.Current_section_facts.{within, Continues}
use Rattle.gq_laws.specs.Moves.{Moves}
use Rattle.gq_laws.specs.Shapes.{AreInputs}
use Rattle.gq_laws.specs.Typed.{StaysOfKind, StayOfKind, Meets, PromisesLinks, SharesBuffers}

-- a step ends in worlds of which P holds, and only want of quota is wrong with it
pub record IsSafe (P : World → Type 0) (r : Stepped) : Type 0 where
  pub ends : (w : World) (event : Event) → r ≡ Ok (w, event) → P w
  pub short : (wrong : Wrong) → r ≡ Err wrong → wrong ≡ ExceededQuota

-- a statement that asks nothing of a session
abbrev pub IsOfOwn : Instruction → Type 0
IsOfOwn (Open place service n) = ⊥
IsOfOwn (Upgrade place n) = ⊥
IsOfOwn (Call place) = ⊥
IsOfOwn (Close place) = ⊥
IsOfOwn _ = Unit {0}

-- the leaf of the step is the one that the world has, but for its statements and the like
pub record TakesLeaf (d : Doing) : Type 0 where
  pub old : Leaf
  pub there : slice_get d.world.leaves d.x ≡ Some old
  pub slots : d.leaf.slots ≡ old.slots
  pub phase : d.leaf.phase ≡ old.phase
  pub current : d.leaf.current ≡ old.current
  pub reacting : d.leaf.reacting ≡ old.reacting

-- no slot that the leaf can name waits for a reply
abbrev pub IsAwake : Doing → Type 0
IsAwake d = (place : OperandSlot) (q : SlotId) (k : ℕ) → slot_id_of d.x d.leaf.current place ≡ Some q → slot_at d.world q ≢ Some (Waiting k)

-- what the rules take for granted of the system, of links, of the current session and of inputs
pub record Grants (promised : ℕ → Option Kind) (c : Context) (d : Doing) : Type 0 where
  pub interfaces : c.subject.interfaces ≡ d.system.interfaces
  -- the current session is one of the service that the leaf provides
  pub provided : (current : Current) (s : Session) → d.leaf.current ≡ Some current → session_at d.world current.session ≡ Some s
      → interface_in s.service d.system.interfaces ≡ c.subject.provided
  pub links : PromisesLinks promised d.world
  pub buffers : SharesBuffers d.system promised d.world
  pub awake : IsAwake d
  -- each input of the leaf is at most its greatest value
  pub inputs : AreInputs c.subject.inputs d.leaf.inputs

-- the leaf of the step stands at the state in this world, with the same statements left and the same current session
pub record StandsAt (promised : ℕ → Option Kind) (c : Context) (state : AbstractState) (d : Doing) (w : World) : Type 0 where
  pub leaf : Leaf
  pub there : slice_get w.leaves d.x ≡ Some leaf
  pub meets : Meets promised c state w leaf
  pub todo : leaf.todo ≡ d.leaf.todo
  pub loops : leaf.loops ≡ d.leaf.loops
  pub current : leaf.current ≡ d.leaf.current
  pub reacting : leaf.reacting ≡ d.leaf.reacting
  pub phase : leaf.phase ≡ d.leaf.phase

-- a leaf at the start of `main` stands where the rules start, if its program has 8 locals
abbrev pub StartsAsRuled : (ℕ → Option Kind) → Subject → Type 0
StartsAsRuled promised v = (w : World) (c : Component) → length v.program.locals ≡ 8 → Meets promised (context v Main) (start_of v Main) w (start_leaf c)

-- a statement in range, that the rules allow where the leaf stands, leads to where the rules say
abbrev pub GoesAsRuled : (ℕ → Option Kind) → Context → Doing → Type 0
GoesAsRuled promised c d =
    (state new : AbstractState) (i : Instruction) → IsOfOwn i → all_of in_range (operands i) ≡ true → Meets promised c state d.world d.leaf
    → judged c state i ≡ Ok new → IsSafe (StandsAt promised c new d) (instruct d i)

-- INSIDE A SECTION

-- the leaf of the step stands in this world where the rules go on to, at a state from which what is left of its section leads to this end of it
pub record LeadsOn (promised : ℕ → Option Kind) (c : Context) (old end : AbstractState) (d : Doing) (w : World) : Type 0 where
  pub leaf : Leaf
  pub there : slice_get w.leaves d.x ≡ Some leaf
  pub state : AbstractState
  pub meets : Meets promised (within c leaf.loops) state w leaf
  pub moves : Moves c old d.leaf.todo d.leaf.loops state leaf.todo leaf.loops
  pub goes_on : Continues c state leaf.todo leaf.loops end
  pub current : leaf.current ≡ d.leaf.current
  pub reacting : leaf.reacting ≡ d.leaf.reacting
  pub phase : leaf.phase ≡ d.leaf.phase

-- what comes next is a statement in range that asks nothing of a session, a choice, a loop that has a round, or the end of a body
abbrev pub IsInside : Statements → List Round → Type 0
IsInside Done [] = ⊥
IsInside Done (r ∷ loops) = Unit {0}
IsInside (Do i rest) loops = IsOfOwn i × (all_of in_range (operands i) ≡ true)
IsInside (If arm other rest) loops = Unit {0}
IsInside (Loop count body rest) loops = 0 < count

-- so far as no session is asked, each step leads on by the rules
abbrev pub LeadsAsRuled : (ℕ → Option Kind) → Context → Doing → Type 0
LeadsAsRuled promised c d =
    (state end : AbstractState) → IsInside d.leaf.todo d.leaf.loops → Meets promised (within c d.leaf.loops) state d.world d.leaf
    → Continues c state d.leaf.todo d.leaf.loops end → IsSafe (LeadsOn promised c state end d) (perform d d.leaf.todo)

-- WHAT IS LEFT TO OTHERS

-- a session without its object and what is in its slots
abbrev pub bare : Session → Session
bare s = record s { object = Empty; slots = [] }

abbrev pub IsElse : ℕ → Option Current → Type 0
IsElse k None = Unit {0}
IsElse k (Some current) = current.session ≢ k

-- a session keeps its parts, the kind of its object and, where it is not current, the kinds of its slots
pub record KeepsSession (current : Option Current) (k : ℕ) (old new : Session) : Type 0 where
  pub rest : bare new ≡ bare old
  pub object : StaysOfKind old.object new.object
  pub slots : IsElse k current → StayOfKind old.slots new.slots

abbrev pub KeepsSessionIn : Option Current → ℕ → Option Session → Option Session → Type 0
KeepsSessionIn current k None new = new ≡ None
KeepsSessionIn current k (Some old) new = (s : Session) × (new ≡ Some s) × KeepsSession current k old s

-- the step keeps the other leaves, the requests and, but for what is in slots of the current session and in bytes, the sessions
pub record LeavesOthers (d : Doing) (w : World) : Type 0 where
  pub leaves : (y : ℕ) → y ≢ d.x → slice_get w.leaves y ≡ slice_get d.world.leaves y
  pub requests : w.requests ≡ d.world.requests
  pub sessions : (k : ℕ) → KeepsSessionIn d.leaf.current k (session_at d.world k) (session_at w k)

-- a leaf that has another current session, or none, stands in this world where it stood
abbrev pub StandElse : (ℕ → Option Kind) → Doing → World → Type 0
StandElse promised d w =
    (c : Context) (state : AbstractState) (leaf : Leaf) → ((current : Current) → leaf.current ≡ Some current → IsElse current.session d.leaf.current)
    → Meets promised c state d.world leaf → Meets promised c state w leaf

-- so far as no session is asked, each step inside a section leaves others as they are, whatever the rules say of it
abbrev pub KeepsToItself : Doing → Type 0
KeepsToItself d = (w : World) (event : Event) → IsInside d.leaf.todo d.leaf.loops → perform d d.leaf.todo ≡ Ok (w, event) → LeavesOthers d w

-- and after it every link leads to what was promised of it, with its buffer
abbrev pub KeepsPromises : (ℕ → Option Kind) → Doing → Type 0
KeepsPromises promised d =
    (w : World) (event : Event) → IsInside d.leaf.todo d.leaf.loops → perform d d.leaf.todo ≡ Ok (w, event)
    → PromisesLinks promised d.world → SharesBuffers d.system promised d.world → PromisesLinks promised w × SharesBuffers d.system promised w
