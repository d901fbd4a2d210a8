-- Worlds in which each leaf stands where the rules say, and each session with its slots as its last section left them.
use Rattle.std.specs.Prelude.{◌≡◌, ◌≤◌, true, ℕ, length, replicate, Option, Some, None, Ok, slice_get, List}
use Rattle.gq_model.specs.declared.program.Form.TheVariants.{Slice}
use Rattle.gq_model.specs.declared.section.Section.{Section}
use Rattle.gq_model.specs.declared.section.Section.TheVariants.{Main}
use Rattle.gq_model.specs.declared.phase.Phase.{Phase}
use Rattle.gq_model.specs.declared.phase.Phase.TheVariants.{Pending, Running, Blocked, Serving, Handling, Exited}
use Rattle.gq_model.specs.machine.Program.{Statements, section_in}
use Rattle.gq_model.specs.machine.Scenario.{Interface, System, Component, interface_in, number_of}
use Rattle.gq_model.specs.machine.World.{Empty, Session, Request, Round, Leaf, World, section_of, session_at}
use Rattle.gq_model.specs.machine.Step.{section_for, level_then}
use Rattle.gq_model.specs.rules.Kinds.{Kind, Memory, Link_kind, AbstractState}
use Rattle.gq_model.specs.rules.Flow.{flow, context, body, start_of, own_after}
use Rattle.gq_laws.specs.Current_section_facts.{current_section, section_asked, kind_replied, within, Continues, bank_kinds}
use Rattle.gq_model.specs.rules.Verdict.{is_wanted}
use Rattle.gq_model.specs.rules.Use.{subject}
use Rattle.gq_laws.specs.Shapes.{Each}
use Rattle.gq_laws.specs.Typed.{IsKind, AreKinds, Meets}
use Rattle.gq_laws.specs.Asking.{IsWithin}
use Rattle.gq_laws.specs.Reply_stances.{once_replied}

-- WHAT IS PROMISED

-- what a session's slot holds or will hold: the link, as the session stands, or what the reply to its request makes of it
abbrev pub kind_then : Session → Option Section → Kind
kind_then s None = Link_kind s.service s.level s.donation
kind_then s (Some section) = kind_replied section s

-- this is promised of each session
abbrev pub PromisesSessions : (ℕ → Option Kind) → World → Type 0
PromisesSessions promised w = (k : ℕ) (s : Session) → session_at w k ≡ Some s → promised k ≡ Some (kind_then s (section_asked w k s))

-- LEAVES

-- the leaf waits for the reply to a request of a session of its; with that reply it will stand at the second state
pub record IsAwaited (system : System) (w : World) (x : ℕ) (state next : AbstractState) : Type 0 where
  pub k : ℕ
  pub session : Session
  pub section : Section
  pub there : session_at w k ≡ Some session
  pub client : session.client ≡ x
  pub asked : section_asked w k session ≡ Some section
  pub is : next ≡ once_replied (number_of (interface_in session.service system.interfaces) (λ i. i.reply)) section state

-- a leaf goes on from where it stands, but one that waits goes on with the reply
abbrev pub GoesOnFrom : System → World → ℕ → Phase → AbstractState → AbstractState → Type 0
GoesOnFrom system w x Pending state next = next ≡ state
GoesOnFrom system w x Running state next = next ≡ state
GoesOnFrom system w x Blocked state next = IsAwaited system w x state next
GoesOnFrom system w x Serving state next = next ≡ state
GoesOnFrom system w x Handling state next = next ≡ state
GoesOnFrom system w x Exited state next = next ≡ state

-- what else is known of a leaf that is in a section: at this state, with these statements left in these loops
abbrev pub Extra : Type 1
Extra = ℕ → Section → AbstractState → Statements → List Round → Type 0

-- nothing else
abbrev pub no_extra : Extra
no_extra x section state todo loops = Unit {0}

-- the leaf stands in a section at a state from which what is left of the section leads to its end by the rules
pub record IsInSection (promised : ℕ → Option Kind) (extra : Extra) (system : System) (w : World) (x : ℕ) (c : Component) (leaf : Leaf) (phase : Phase)
    (section : Section) : Type 0 where
  pub state : AbstractState
  pub next : AbstractState
  pub end : AbstractState
  pub meets : Meets promised (within (context (subject system c) section) leaf.loops) state w leaf
  pub from : GoesOnFrom system w x phase state next
  pub goes_on : Continues (context (subject system c) section) next leaf.todo leaf.loops end
  pub whole : flow (context (subject system c) section) (start_of (subject system c) section) (body (subject system c) section) ≡ Ok end
  pub listed : (list : Statements) × (section_in section c.node.program.sections ≡ Some list)
  pub also : extra x section next leaf.todo leaf.loops

-- so a leaf stands by its phase; one that waits for a request has its slots as `main` left them, and one that has ended has none in use
abbrev pub StandsBy : (ℕ → Option Kind) → Extra → System → World → ℕ → Component → Leaf → Phase → Type 0
StandsBy promised extra system w x c leaf Pending = IsInSection promised extra system w x c leaf Pending (section_of leaf.current leaf.reacting)
StandsBy promised extra system w x c leaf Running = IsInSection promised extra system w x c leaf Running (section_of leaf.current leaf.reacting)
StandsBy promised extra system w x c leaf Blocked = IsInSection promised extra system w x c leaf Blocked (section_of leaf.current leaf.reacting)
StandsBy promised extra system w x c leaf Serving = AreKinds promised leaf.slots (own_after (subject system c))
StandsBy promised extra system w x c leaf Handling = IsInSection promised extra system w x c leaf Handling (section_of leaf.current leaf.reacting)
StandsBy promised extra system w x c leaf Exited = leaf.slots ≡ replicate 64 Empty

abbrev pub StandAll : (ℕ → Option Kind) → Extra → System → World → Type 0
StandAll promised extra system w =
    (x : ℕ) (c : Component) (leaf : Leaf) → slice_get system.components x ≡ Some c → slice_get w.leaves x ≡ Some leaf
    → StandsBy promised extra system w x c leaf leaf.phase

-- SESSIONS

-- the session's slots are as its last section left them, and its object is a slice of so many bytes
pub record RestsAt (promised : ℕ → Option Kind) (system : System) (server : Component) (s : Session) : Type 0 where
  pub bank : AreKinds promised s.slots (bank_kinds system server s)
  pub object : s.accepted ≡ true → IsKind promised s.object (Memory Slice (number_of (subject system server).provided (λ i. i.object)))

-- a session is of a service that has an interface with its level, and stands so where it is not current at its server
pub record FitsService (promised : ℕ → Option Kind) (system : System) (w : World) (k : ℕ) (s : Session) : Type 0 where
  pub interface : Interface
  pub known : interface_in s.service system.interfaces ≡ Some interface
  pub level : s.level ≤ length interface.upgrades
  pub rests : (server : Component) → slice_get system.components s.server ≡ Some server → current_section k (slice_get w.leaves s.server) ≡ None
      → RestsAt promised system server s

-- a request is for a section that its service has, with an argument in the interface's bound
abbrev pub FitsRequest : System → World → Request → Type 0
FitsRequest system w r =
    (s : Session) → session_at w r.session ≡ Some s → IsWithin system s.service r.ask
    × (is_wanted (interface_in s.service system.interfaces) 0 (section_for r.ask (level_then r.ask s.level)) ≡ true)

-- WORLDS

-- with what is promised of sessions, all of this holds
pub record IsTypedBy (promised : ℕ → Option Kind) (extra : Extra) (system : System) (w : World) : Type 0 where
  pub reports : PromisesSessions promised w
  pub leaves : StandAll promised extra system w
  pub sessions : (k : ℕ) (s : Session) → session_at w k ≡ Some s → FitsService promised system w k s
  pub requests : Each (FitsRequest system w) w.requests

abbrev pub IsTyped : System → World → Type 0
IsTyped system w = (promised : ℕ → Option Kind) × IsTypedBy promised no_extra system w
