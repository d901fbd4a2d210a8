-- How often sections have been asked for so far, and the steps and requests that they have left.
use Rattle.std.specs.Prelude.{◌≡◌, ◌≤◌, ℕ, suc, ◌+◌, ◌-◌, ◌*◌, ◌==◌, if◌then◌else◌, false, ◌&&◌, List, [], ◌∷◌, Option, Some, None, slice_get}
use Rattle.gq_model.specs.declared.section.Section.{Section}
use Rattle.gq_model.specs.declared.section.Section.TheVariants.{Main, Reacting}
use Rattle.gq_model.specs.declared.phase.Phase.{Phase}
use Rattle.gq_model.specs.declared.phase.Phase.TheVariants.{Pending, Running, Blocked, Serving, Handling, Exited}
use Rattle.gq_model.specs.machine.Sections.{same_section, is_own_section}
use Rattle.gq_model.specs.machine.Scenario.{System, Component}
use Rattle.gq_model.specs.machine.Routes.{server_of}
use Rattle.gq_model.specs.machine.World.{Session, Ask, Request, Signal, Round, Leaf, World, session_at, start}
use Rattle.gq_model.specs.machine.Step.{section_for, level_then}
use Rattle.gq_model.specs.rules.Kinds.{Kind}
use Rattle.gq_model.specs.rules.Flow.{context}
use Rattle.gq_model.specs.rules.Budgets.{cost}
use Rattle.gq_model.specs.rules.Use.{subject, is_there, from_sections, provided_by, steps_of}
use Rattle.gq_laws.specs.internal.Remaining.{left_requests}
use Rattle.gq_laws.specs.Typing.{Extra, IsTypedBy}

-- of each leaf, how often each section has been asked for
abbrev pub Often : Type 0
Often = ℕ → Section → ℕ

-- of each leaf, requests for a section of a service
abbrev pub Requests : Type 0
Requests = ℕ → List ℕ → Section → ℕ

-- STEPS

-- the steps still to do of the rounds around
abbrev pub rounds_cost : List Round → ℕ
rounds_cost [] = 0
rounds_cost (r ∷ loops) = (r.count - suc r.round) * (1 + cost r.body) + 1 + cost r.rest + rounds_cost loops

-- the steps that a leaf has left to take in its section, its end included
abbrev pub ahead : Leaf → Phase → ℕ
ahead leaf Pending = cost leaf.todo + rounds_cost leaf.loops + 1
ahead leaf Running = cost leaf.todo + rounds_cost leaf.loops + 1
ahead leaf Blocked = cost leaf.todo + rounds_cost leaf.loops + 1
ahead leaf Serving = 0
ahead leaf Handling = cost leaf.todo + rounds_cost leaf.loops + 1
ahead leaf Exited = 0

-- REQUESTS THAT WAIT

-- 1 where this section of the x-th leaf is the one that is asked of the server
abbrev pub one_at : ℕ → Section → ℕ → Section → ℕ
one_at server asked x section = if server == x && same_section section asked then 1 else 0

-- the server and the level of a session
abbrev pub served_at : Option Session → Option (ℕ × ℕ)
served_at None = None
served_at (Some s) = Some (s.server, s.level)

abbrev pub asks_at : Ask → Option (ℕ × ℕ) → ℕ → Section → ℕ
asks_at ask None x section = 0
asks_at ask (Some p) x section = one_at p.0 (section_for ask (level_then ask p.1)) x section

-- how many of these requests are for this section of the x-th leaf
abbrev pub waiting_in : World → ℕ → Section → List Request → ℕ
waiting_in w x section [] = 0
waiting_in w x section (r ∷ rest) = asks_at r.ask (served_at (session_at w r.session)) x section + waiting_in w x section rest

abbrev pub waiting : World → ℕ → Section → ℕ
waiting w x section = waiting_in w x section w.requests

-- REQUESTS THAT WERE MADE

-- requests made by the leaves from the y-th on whose route for the service leads to the x-th
abbrev pub made_from : Requests → System → ℕ → List ℕ → Section → ℕ → List Component → ℕ
made_from made system x service section y [] = 0
made_from made system x service section y (c ∷ rest) =
    (if is_there x (server_of system c service) then made y service section else 0) + made_from made system x service section (suc y) rest

abbrev pub made_for : Requests → System → ℕ → Section → Option (List ℕ) → ℕ
made_for made system x section None = 0
made_for made system x section (Some service) = made_from made system x service section 0 system.components

-- no leaf has more requests left to make in its section than this
abbrev pub Within : System → Requests → Extra
Within system left y from state todo loops =
    (c : Component) → slice_get system.components y ≡ Some c → (service : List ℕ) (section : Section)
    → left_requests service section (context (subject system c) from) state todo loops ≤ left y service section

-- WORLDS

-- from which world on is counted, and how often each `main` may run from then on
pub record Since : Type 0 where
  pub world : World
  pub starts : ℕ

-- from the start on each runs once
abbrev pub since_start : System → Since
since_start system = record { world = start system; starts = 1 }

-- from a world on in which each has ended, none does
abbrev pub since_rest : World → Since
since_rest w = record { world = w; starts = 0 }

abbrev pub steps_if : Option Leaf → ℕ
steps_if None = 0
steps_if (Some leaf) = leaf.steps

-- the steps that the x-th leaf has taken
abbrev pub steps_taken : World → ℕ → ℕ
steps_taken w x = steps_if (slice_get w.leaves x)

-- how often a signal was taken
abbrev pub times_of : Option Signal → ℕ
times_of None = 0
times_of (Some s) = s.taken

abbrev pub times_taken : List Signal → ℕ → ℕ
times_taken signals i = times_of (slice_get signals i)

abbrev pub taken_of : Option Leaf → ℕ → ℕ
taken_of None i = 0
taken_of (Some leaf) i = times_taken leaf.signals i

-- how often the i-th signal of the x-th leaf was taken
abbrev pub taken_in : World → ℕ → ℕ → ℕ
taken_in w x i = taken_of (slice_get w.leaves x) i

-- what sections have cost since then, and what they have asked for, is paid by how often they were asked for
pub record Counts (since : Since) (done : Often) (made left : Requests) (system : System) (w : World) : Type 0 where
  pub once : (x : ℕ) → done x Main ≤ since.starts
  -- what is done for a signal no more often than it was taken
  pub reacted : (x i : ℕ) → done x (Reacting i) + taken_in since.world x i ≤ taken_in w x i
  pub taken : (x : ℕ) (c : Component) (leaf : Leaf) → slice_get system.components x ≡ Some c → slice_get w.leaves x ≡ Some leaf
      → leaf.steps + ahead leaf leaf.phase + steps_of (waiting w x) c.node.program.sections
      ≤ steps_taken since.world x + steps_of (done x) c.node.program.sections
  -- any other section no more often than leaves have made requests for it
  pub asked : (x : ℕ) (section : Section) → is_own_section section ≡ false
      → done x section ≤ made_for made system x section (provided_by (slice_get system.components x))
  pub requests : (y : ℕ) (c : Component) → slice_get system.components y ≡ Some c → (service : List ℕ) (section : Section)
      → made y service section + left y service section + from_sections (waiting w y) (subject system c) service section c.node.program.sections
      ≤ from_sections (done y) (subject system c) service section c.node.program.sections

-- the world is typed, no leaf has more requests left than are counted, and all is paid
pub record IsCounted (since : Since) (system : System) (w : World) : Type 0 where
  pub promised : ℕ → Option Kind
  pub done : Often
  pub made : Requests
  pub left : Requests
  pub typed : IsTypedBy promised (Within system left) system w
  pub counts : Counts since done made left system w
