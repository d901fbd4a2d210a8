-- Where leaves and sessions stand once a section that the rules allow has ended, and its client has the reply.
use Rattle.std.specs.Prelude.{◌≡◌, ◌≢◌, ◌≤◌, ℕ, ◌==◌, if◌then◌else◌, List, ◌∷◌, Option, Some, None, Ok, slice_get, slice_set}
use Rattle.gq_model.specs.declared.section.Section.{Section}
use Rattle.gq_model.specs.declared.section.Section.TheVariants.{Main, Opening, Upgrading, Calling, Closing, Reacting}
use Rattle.gq_model.specs.declared.phase.Phase.TheVariants.{Blocked}
use Rattle.gq_model.specs.machine.Scenario.{number_of}
use Rattle.gq_model.specs.machine.World.{Slot, Empty, Waiting, Link, SlotId, In_leaf, In_session, In_object, Session, Current, Leaf, World, session_at, slot_at}
use Rattle.gq_model.specs.machine.Doing.{Doing, Event}
use Rattle.gq_model.specs.machine.Step.{serving, resumed, section_ended}
use Rattle.gq_model.specs.rules.Kinds.{Kind, AbstractState, Context}
use Rattle.gq_model.specs.rules.Flow.{section_end}
use Rattle.gq_laws.specs.Current_section_facts.{kind_replied}
use Rattle.gq_laws.specs.Typed.{AreKinds, BankMeets, Meets}
use Rattle.gq_laws.specs.Inside_steps.{bare, StandElse}

-- the current section, for session s, may end by the rules where the leaf stands, and its end leads to this world
pub record HasEnded (promised : ℕ → Option Kind) (c : Context) (state : AbstractState) (d : Doing) (current : Current) (s : Session) (w : World) : Type 0 where
  pub meets : Meets promised c state d.world d.leaf
  pub last : AbstractState
  pub ends : section_end c.subject c.section state ≡ Ok last
  pub at_current : d.leaf.current ≡ Some current
  pub there : session_at d.world current.session ≡ Some s
  pub event : Event
  pub ended : section_ended d d.leaf.current d.leaf.reacting ≡ Ok (w, event)

-- WHAT THE WORLD IS

-- what the client's slot holds then
abbrev pub slot_replied : Section → ℕ → Slot
slot_replied Main k = Empty
slot_replied Opening k = Link k
slot_replied (Upgrading l) k = Link k
slot_replied (Calling l) k = Link k
slot_replied (Closing l) k = Empty
slot_replied (Reacting i) k = Empty

-- the session stays as it was, but a close ends it
abbrev pub session_replied : Section → Session → Option Session
session_replied Main s = None
session_replied Opening s = Some s
session_replied (Upgrading l) s = Some s
session_replied (Calling l) s = Some s
session_replied (Closing l) s = None
session_replied (Reacting i) s = None

-- the reply to a call, which is at most so much, is on top of the operands
abbrev pub AreReplied : ℕ → Section → List ℕ → List ℕ → Type 0
AreReplied most Main old new = ⊥
AreReplied most Opening old new = new ≡ old
AreReplied most (Upgrading l) old new = new ≡ old
AreReplied most (Calling l) old new = (a : ℕ) × (a ≤ most) × (new ≡ a ∷ old)
AreReplied most (Closing l) old new = new ≡ old
AreReplied most (Reacting i) old new = ⊥

-- the slots of the client's leaf, with this one at its slot, if it is one of them
abbrev pub own_then : SlotId → Slot → List Slot → List Slot
own_then (In_leaf x i) slot slots = slice_set slots i slot
own_then (In_session j i) slot slots = slots
own_then (In_object j) slot slots = slots

abbrev pub bank_then : ℕ → Slot → Option Session → Option Session
bank_then i slot None = None
bank_then i slot (Some s) = Some (record s { slots = slice_set s.slots i slot })

-- the j-th session, with this slot at its slot, if it is one of its
abbrev pub session_then : SlotId → Slot → ℕ → Option Session → Option Session
session_then (In_leaf x i) slot j s = s
session_then (In_session k i) slot j s = if j == k then bank_then i slot s else s
session_then (In_object k) slot j s = s

-- a leaf that goes on, with these operands and slots
abbrev pub resuming : Leaf → List ℕ → List Slot → Leaf
resuming leaf operands slots = record leaf { phase = resumed leaf.current leaf.reacting; operands = operands; slots = slots }

-- the server waits for a request, the client has the reply, and all others are as they were
pub record Replies (promised : ℕ → Option Kind) (c : Context) (state : AbstractState) (d : Doing) (current : Current) (s : Session) (w : World) : Type 0 where
  pub server : slice_get w.leaves d.x ≡ Some (serving d.leaf)
  -- the session, with its slots as the section left them
  pub session : session_at w current.session ≡ session_replied current.section s
  pub bank : BankMeets promised c state.bank s
  -- the client is another leaf, which waited and goes on
  pub other : s.client ≢ d.x
  pub client : Leaf
  pub was : slice_get d.world.leaves s.client ≡ Some client
  pub blocked : client.phase ≡ Blocked
  pub operands : List ℕ
  pub replied : AreReplied (number_of c.subject.provided (λ i. i.reply)) current.section client.operands operands
  pub goes_on : slice_get w.leaves s.client ≡ Some (resuming client operands (own_then s.slot_id (slot_replied current.section current.session) client.slots))
  -- its slot
  pub waited : slot_at d.world s.slot_id ≡ Some (Waiting current.session)
  -- all else
  pub leaves : (y : ℕ) → y ≢ d.x → y ≢ s.client → slice_get w.leaves y ≡ slice_get d.world.leaves y
  pub sessions : (j : ℕ) → j ≢ current.session → session_at w j ≡ session_then s.slot_id (slot_replied current.section current.session) j (session_at d.world j)
  pub requests : w.requests ≡ d.world.requests

-- where a section may end by the rules and does, the world is this
abbrev pub RepliesAsRuled : (ℕ → Option Kind) → Context → Doing → Type 0
RepliesAsRuled promised c d =
    (state : AbstractState) (current : Current) (s : Session) (w : World) → HasEnded promised c state d current s w → Replies promised c state d current s w

-- WHERE LEAVES STAND

-- the state with the reply to a call, which is at most so much
abbrev pub once_replied : ℕ → Section → AbstractState → AbstractState
once_replied most Main state = state
once_replied most Opening state = state
once_replied most (Upgrading l) state = state
once_replied most (Calling l) state = record state { bounds = most ∷ state.bounds }
once_replied most (Closing l) state = state
once_replied most (Reacting i) state = state

-- of another session no slot is of another kind
abbrev pub KeepsBank : (ℕ → Option Kind) → ℕ → World → World → Type 0
KeepsBank promised k old new =
    (j : ℕ) (s : Session) (kinds : List Kind) → j ≢ k → session_at old j ≡ Some s → AreKinds promised s.slots kinds
    → (t : Session) × (session_at new j ≡ Some t) × (bare t ≡ bare s) × (t.object ≡ s.object) × AreKinds promised t.slots kinds

-- the client stands where it stood, with the reply to a call, and so do all others
pub record Resumes (promised : ℕ → Option Kind) (c : Context) (d : Doing) (current : Current) (s : Session) (w : World) : Type 0 where
  pub client : (e : Context) (state : AbstractState) (old : Leaf) → slice_get d.world.leaves s.client ≡ Some old → Meets promised e state d.world old
      → (leaf : Leaf) × (slice_get w.leaves s.client ≡ Some leaf)
      × Meets promised e (once_replied (number_of c.subject.provided (λ i. i.reply)) current.section state) w leaf
  pub others : StandElse promised d w
  pub sessions : KeepsBank promised current.session d.world w

-- where what is promised of the session is what the reply makes of its slot
abbrev pub ResumesAsRuled : (ℕ → Option Kind) → Context → Doing → Type 0
ResumesAsRuled promised c d =
    (state : AbstractState) (current : Current) (s : Session) (w : World) → HasEnded promised c state d current s w
    → promised current.session ≡ Some (kind_replied current.section s) → Resumes promised c d current s w
