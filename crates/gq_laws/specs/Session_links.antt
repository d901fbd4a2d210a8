-- How sessions, the slots that name them, requests and the leaves' current requests agree.
use Rattle.std.specs.Prelude.{◌≡◌, ℕ, ◌+◌, ◌==◌, ◌⊎◌, Bool, true, false, not, List, [], ◌∷◌, Option, Some, None, slice_get}
use Rattle.gq_model.specs.declared.section.Section.{Section}
use Rattle.gq_model.specs.declared.section.Section.TheVariants.{Main, Opening, Upgrading, Calling, Closing, Reacting}
use Rattle.gq_model.specs.machine.Scenario.{System, Component}
use Rattle.gq_model.specs.machine.Routes.{server_of}
use Rattle.gq_model.specs.machine.World.{Slot, Empty, Waiting, Bytes, Pool, Link, SlotId, In_leaf, In_session, In_object, Session, Ask, Ask_open, Ask_upgrade}
use Rattle.gq_model.specs.machine.World.{Ask_close, Ask_call, Request, Current, Leaf, World, session_at, slot_at}
use Rattle.gq_model.specs.declared.phase.Phase.{Phase}
use Rattle.gq_model.specs.declared.phase.Phase.TheVariants.{Pending, Running, Blocked, Serving, Handling, Exited}
use Rattle.gq_laws.specs.Shapes.{Each}

-- what a slot says of a session: it leads to it, or waits for a reply from it
pub data Naming : Type 0 where
  Leads Waits : (session : ℕ) → Naming

abbrev pub named : Naming → ℕ
named (Leads k) = k
named (Waits k) = k

abbrev pub naming : Slot → Option Naming
naming Empty = None
naming (Bytes form n bytes) = None
naming (Pool n entries) = None
naming (Link k) = Some (Leads k)
naming (Waiting k) = Some (Waits k)

abbrev pub naming_in : Option Slot → Option Naming
naming_in None = None
naming_in (Some slot) = naming slot

-- bytes without what is in them
abbrev pub shape : Slot → Slot
shape (Bytes form n bytes) = Bytes form n []
shape _ = Empty

abbrev pub IsBytes : Slot → Type 0
IsBytes (Bytes form n bytes) = Unit {0}
IsBytes _ = ⊥

-- a session without what is in its slots and its object
abbrev pub outline : Session → Session
outline s = record s { object = shape s.object; slots = [] }

abbrev pub outline_in : Option Session → Option Session
outline_in None = None
outline_in (Some s) = Some (outline s)

-- a leaf's phase, and what is current at it
pub record Stance : Type 0 where
  pub phase : Phase
  pub current : Option Current

abbrev pub stance : Phase → Option Current → Stance
stance phase current = record { phase = phase; current = current }

abbrev pub stance_in : Option Leaf → Option Stance
stance_in None = None
stance_in (Some leaf) = Some (stance leaf.phase leaf.current)

-- all of a world that bears on who is linked to whom
pub record Links : Type 0 where
  pub slots : SlotId → Option Naming
  pub sessions : ℕ → Option Session
  pub stances : ℕ → Option Stance
  pub requests : List Request

abbrev pub links : World → Links
links w =
    record {
      slots = λ q. naming_in (slot_at w q);
      sessions = λ k. outline_in (session_at w k);
      stances = λ x. stance_in (slice_get w.leaves x);
      requests = w.requests;
    }

-- REQUESTS OF A SESSION

abbrev pub one_if : Bool → ℕ
one_if true = 1
one_if false = 0

-- how many of these requests are of session k
abbrev pub requests_of : ℕ → List Request → ℕ
requests_of k [] = 0
requests_of k (r ∷ rest) = one_if (r.session == k) + requests_of k rest

-- 1 where session k is this current one
abbrev pub by_current : ℕ → Option Current → ℕ
by_current k None = 0
by_current k (Some current) = one_if (current.session == k)

abbrev pub at_current : ℕ → Option Stance → ℕ
at_current k None = 0
at_current k (Some t) = by_current k t.current

-- the requests of session k that wait, and the one current at its server
abbrev pub pending_of : Links → ℕ → Session → ℕ
pending_of l k s = requests_of k l.requests + at_current k (l.stances s.server)

abbrev pub is_open : Ask → Bool
is_open Ask_open = true
is_open Ask_upgrade = false
is_open Ask_close = false
is_open (Ask_call value) = false

-- WHAT AGREES

-- a session's slot leads to it, if the session is accepted and has no request; else it waits, and the session has just one
abbrev pub Stands : Links → ℕ → Session → Type 0
Stands l k s =
    ((l.slots s.slot_id ≡ Some (Leads k)) × (s.accepted ≡ true) × (pending_of l k s ≡ 0)) ⊎ ((l.slots s.slot_id ≡ Some (Waits k)) × (pending_of l k s ≡ 1))

-- a client's slot is its own, or one of an accepted session to it
abbrev pub Belongs : Links → SlotId → ℕ → Type 0
Belongs l (In_leaf x i) client = x ≡ client
Belongs l (In_session j i) client = (t : Session) × (l.sessions j ≡ Some t) × (t.accepted ≡ true) × (t.server ≡ client)
Belongs l (In_object j) client = ⊥

-- the server is where the client's route for the service leads
abbrev pub IsRouted : System → Session → Type 0
IsRouted system s = (c : Component) × (slice_get system.components s.client ≡ Some c) × (server_of system c s.service ≡ Some s.server)

-- a request is of a session that is there; one to open, just of a session that is not accepted
abbrev pub IsAsked : Links → Request → Type 0
IsAsked l r = (s : Session) × (l.sessions r.session ≡ Some s) × (s.accepted ≡ not (is_open r.ask))

-- a section of a session of this level
abbrev pub IsAt : Section → ℕ → Type 0
IsAt Main level = ⊥
IsAt Opening level = 0 ≡ level
IsAt (Upgrading l) level = l ≡ level
IsAt (Calling l) level = l ≡ level
IsAt (Closing l) level = l ≡ level
IsAt (Reacting i) level = ⊥

-- what is current at a leaf is an accepted session to it, in a section of its level
abbrev pub Handles : Links → ℕ → Current → Type 0
Handles l x current = (s : Session) × (l.sessions current.session ≡ Some s) × (s.server ≡ x) × (s.accepted ≡ true) × IsAt current.section s.level

-- a leaf has a current request where it handles it, or waits in its midst for a reply; one that handles a signal has none
abbrev pub Fits : Phase → Option Current → Type 0
Fits Pending None = Unit {0}
Fits Running None = Unit {0}
Fits Blocked current = Unit {0}
Fits Serving None = Unit {0}
Fits Handling current = Unit {0}
Fits Exited None = Unit {0}
Fits Pending (Some current) = ⊥
Fits Running (Some current) = ⊥
Fits Serving (Some current) = ⊥
Fits Exited (Some current) = ⊥

pub record AreLinked (system : System) (l : Links) : Type 0 where
  -- each session stands in one slot of its client, and each slot that names a session is that session's
  pub stands : (k : ℕ) (s : Session) → l.sessions k ≡ Some s → Stands l k s
  pub named : (q : SlotId) (n : Naming) → l.slots q ≡ Some n → (s : Session) × (l.sessions (named n) ≡ Some s) × (s.slot_id ≡ q)
  pub belongs : (k : ℕ) (s : Session) → l.sessions k ≡ Some s → Belongs l s.slot_id s.client
  pub routed : (k : ℕ) (s : Session) → l.sessions k ≡ Some s → IsRouted system s
  -- a session that is not accepted is of level 0
  pub opens : (k : ℕ) (s : Session) → l.sessions k ≡ Some s → s.accepted ≡ false → s.level ≡ 0
  -- an accepted session has its object
  pub objects : (k : ℕ) (s : Session) → l.sessions k ≡ Some s → s.accepted ≡ true → IsBytes s.object
  pub asked : Each (IsAsked l) l.requests
  pub handles : (x : ℕ) (phase : Phase) (current : Current) → l.stances x ≡ Some (stance phase (Some current)) → Handles l x current
  pub fits : (x : ℕ) (t : Stance) → l.stances x ≡ Some t → Fits t.phase t.current
  -- a leaf is blocked just where a slot of its waits, and then one alone
  pub waits : (k : ℕ) (s : Session) → l.sessions k ≡ Some s → l.slots s.slot_id ≡ Some (Waits k)
      → (current : Option Current) × (l.stances s.client ≡ Some (stance Blocked current))
  pub alone : (k m : ℕ) (s t : Session) → l.sessions k ≡ Some s → l.sessions m ≡ Some t → l.slots s.slot_id ≡ Some (Waits k) → l.slots t.slot_id ≡ Some
      (Waits m)
      → s.client ≡ t.client → k ≡ m
  pub blocked : (x : ℕ) (current : Option Current) → l.stances x ≡ Some (stance Blocked current)
      → (k : ℕ) × (s : Session) × (l.sessions k ≡ Some s) × (s.client ≡ x) × (l.slots s.slot_id ≡ Some (Waits k))

-- in this world sessions, slots, requests and current requests agree
abbrev pub IsLinkedWorld : System → World → Type 0
IsLinkedWorld system w = AreLinked system (links w)
