-- What stands between two steps.
use Rattle.std.specs.Prelude.{ℕ, Bool, false, List, [], ◌∷◌, Option, Some, None, replicate, slice_get, slice_set}
use Rattle.gq_model.specs.machine.Amounts.{Amount}
use Rattle.gq_model.specs.machine.Program.{Form, OperandSlot, Own, Shared, Object, Statements, section_in, body_of}
use Rattle.gq_model.specs.machine.Sections.{Section, Main, Reacting}
use Rattle.gq_model.specs.machine.Scenario.{System, Component}
pub use Rattle.gq_model.specs.declared.phase.Phase.{Phase}
pub use Rattle.gq_model.specs.declared.phase.Phase.TheVariants.{Pending, Running, Blocked, Serving, Handling, Exited}

-- a link leads to a session, and a waiting slot waits for a reply from one
pub data Slot : Type 0 where
  Empty : Slot
  Bytes : (form : Form) (n : ℕ) (bytes : List ℕ) → Slot
  Pool : (n : ℕ) (entries : List (Option (List ℕ))) → Slot
  Link Waiting : (session : ℕ) → Slot

-- where a slot stands: a leaf's own, a session's, or a session's object
pub data SlotId : Type 0 where
  In_leaf : (leaf i : ℕ) → SlotId
  In_session : (session i : ℕ) → SlotId
  In_object : (session : ℕ) → SlotId

-- a client's slot, its server and what was given; the bank and the object are there once it is accepted
pub record Session : Type 0 where
  pub client : ℕ
  pub slot_id : SlotId
  pub server : ℕ
  pub service : List ℕ
  pub level : ℕ
  pub donation : Amount
  pub accepted : Bool
  pub object : Slot
  pub slots : List Slot

-- what a client asks for; a call carries its argument
pub data Ask : Type 0 where
  Ask_open Ask_upgrade Ask_close : Ask
  Ask_call : (value : ℕ) → Ask

pub record Request : Type 0 where
  pub session : ℕ
  pub ask : Ask

-- the current session and section
pub record Current : Type 0 where
  pub session : ℕ
  pub section : Section

-- a signal of a leaf: whether it was submitted and is not taken yet, and how often it was taken
pub record Signal : Type 0 where
  pub submitted : Bool
  pub taken : ℕ

-- a loop that was entered: its round, and the statements after it
pub record Round : Type 0 where
  pub round : ℕ
  pub count : ℕ
  pub body : Statements
  pub rest : Statements

-- `reacting` is the signal whose section a leaf is in
pub record Leaf : Type 0 where
  pub phase : Phase
  pub current : Option Current
  pub reacting : Option ℕ
  pub todo : Statements
  pub loops : List Round
  pub operands : List ℕ
  pub locals : List ℕ
  pub slots : List Slot
  pub peaks : List ℕ
  pub steps : ℕ
  pub inputs : List ℕ
  pub signals : List Signal

-- a session's number is its place; a place without a session is free
pub record World : Type 0 where
  pub leaves : List Leaf
  pub sessions : List (Option Session)
  pub requests : List Request

-- a leaf that starts after another is pending at first
abbrev pub first_phase : Option (List ℕ) → Phase
first_phase None = Running
first_phase (Some name) = Pending

-- at the start of `main`, with all else empty
abbrev pub start_leaf : Component → Leaf
start_leaf c =
    record {
      phase = first_phase c.node.after;
      current = None;
      reacting = None;
      todo = body_of (section_in Main c.node.program.sections);
      loops = [];
      operands = [];
      locals = replicate 8 0;
      slots = replicate 64 Empty;
      peaks = replicate 8 0;
      steps = 0;
      inputs = replicate 8 0;
      signals = replicate c.node.signals (record { submitted = false; taken = 0 });
    }

abbrev pub start_leaves : List Component → List Leaf
start_leaves [] = []
start_leaves (c ∷ rest) = start_leaf c ∷ start_leaves rest

abbrev pub start : System → World
start system = record { leaves = start_leaves system.components; sessions = []; requests = [] }

-- the section that a leaf without a current request is in: that of the signal that it reacts to, else `main`
abbrev pub own_section : Option ℕ → Section
own_section None = Main
own_section (Some i) = Reacting i

-- the section that a leaf is in
abbrev pub section_of : Option Current → Option ℕ → Section
section_of None reacting = own_section reacting
section_of (Some current) reacting = current.section

-- a part of a world, and the world with that part anew
abbrev pub joined : {A : Type 0} → Option (Option A) → Option A
joined None = None
joined (Some a) = a

abbrev pub session_at : World → ℕ → Option Session
session_at w k = joined (slice_get w.sessions k)

abbrev pub with_leaf : World → ℕ → Leaf → World
with_leaf w x leaf = record w { leaves = slice_set w.leaves x leaf }

abbrev pub with_session : World → ℕ → Session → World
with_session w k session = record w { sessions = slice_set w.sessions k (Some session) }

abbrev pub leaf_slot : Option Leaf → ℕ → Option Slot
leaf_slot None i = None
leaf_slot (Some leaf) i = slice_get leaf.slots i

abbrev pub session_slot : Option Session → ℕ → Option Slot
session_slot None i = None
session_slot (Some session) i = slice_get session.slots i

abbrev pub session_object : Option Session → Option Slot
session_object None = None
session_object (Some session) = Some session.object

abbrev pub slot_at : World → SlotId → Option Slot
slot_at w (In_leaf x i) = leaf_slot (slice_get w.leaves x) i
slot_at w (In_session k i) = session_slot (session_at w k) i
slot_at w (In_object k) = session_object (session_at w k)

abbrev pub put_leaf_slot : World → Option Leaf → ℕ → ℕ → Slot → World
put_leaf_slot w None x i slot = w
put_leaf_slot w (Some leaf) x i slot = with_leaf w x (record leaf { slots = slice_set leaf.slots i slot })

abbrev pub put_session_slot : World → Option Session → ℕ → ℕ → Slot → World
put_session_slot w None k i slot = w
put_session_slot w (Some session) k i slot = with_session w k (record session { slots = slice_set session.slots i slot })

abbrev pub put_object : World → Option Session → ℕ → Slot → World
put_object w None k slot = w
put_object w (Some session) k slot = with_session w k (record session { object = slot })

abbrev pub with_slot : World → SlotId → Slot → World
with_slot w (In_leaf x i) slot = put_leaf_slot w (slice_get w.leaves x) x i slot
with_slot w (In_session k i) slot = put_session_slot w (session_at w k) k i slot
with_slot w (In_object k) slot = put_object w (session_at w k) k slot

-- where an operand's slot stands, if it is there: a session's only outside `main`
abbrev pub slot_id_of : ℕ → Option Current → OperandSlot → Option SlotId
slot_id_of x current (Own i) = Some (In_leaf x i)
slot_id_of x None (Shared i) = None
slot_id_of x None Object = None
slot_id_of x (Some current) (Shared i) = Some (In_session current.session i)
slot_id_of x (Some current) Object = Some (In_object current.session)
