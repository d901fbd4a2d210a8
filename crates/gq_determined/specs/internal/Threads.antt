-- Threads: `main` of a leaf and what it does for signals, with the sections that other leaves run for it while it waits. Each has a region of the world, that
-- no other changes: the own slots of the leaves that are its, and the sessions below them. A leaf is at first its own thread's. One that is not shared is, from
-- its first request on, the thread's that asks, with all that was its own; so its own thread is over. Regions of two worlds are compared up to the numbers of
-- sessions.
use Rattle.std.specs.Prelude.{◌≡◌, ◌⊎◌, ◌++◌, ℕ, zero, suc, ◌==◌, if◌then◌else◌, Bool, true, false, ◌&&◌, not, List, [], ◌∷◌, map, Option, Some, None}
use Rattle.std.specs.Prelude.{Ok, Err, is_some, option_map, slice_get}
use Rattle.gq_model.specs.declared.phase.Phase.{Phase}
use Rattle.gq_model.specs.declared.phase.Phase.TheVariants.{Pending, Running, Blocked, Serving, Handling, Exited}
use Rattle.gq_model.specs.machine.Program.{Done}
use Rattle.gq_model.specs.machine.Scenario.{System, Component}
use Rattle.gq_model.specs.machine.World.{Slot, Session, Request, Current, Signal, Leaf, World, joined, start}
use Rattle.gq_model.specs.machine.Doing.{Event, Stepped}
use Rattle.gq_model.specs.machine.Requests.{free_place}
use Rattle.gq_model.specs.machine.Step.{oldest, first_signal, next}
use Rattle.gq_laws.specs.Renamed.{renamed_slot, renamed_leaf, renamed_request}
use Rattle.gq_laws.specs.internal.Corresponding.{Correspond}
use Rattle.gq_races.specs.Races.{opens_first, opens_later, is_shared}
use Rattle.gq_determined.specs.internal.Thread_machines.{after, shown}
use Rattle.gq_determined.specs.internal.Unset.{each_turn}

-- LEAVES THAT ARE NOT SHARED

-- a leaf is the owner of the x-th, or nobody opens sessions with it
abbrev pub is_unshared : System → ℕ → Bool
is_unshared system x = not (is_shared system x)

-- sessions with the x-th leaf are opened for z: in `main` of z, or in another section of a leaf with which sessions are opened for z, over n such leaves
abbrev pub Starts : System → ℕ → ℕ → ℕ → Type 0
Starts system zero z x = (c : Component) × (slice_get system.components z ≡ Some c) × (opens_first system x c ≡ true)
Starts system (suc n) z x =
    (y : ℕ) × (c : Component) × (slice_get system.components y ≡ Some c) × (opens_later system x c ≡ true) × Starts system n z y

-- WHOSE A STEP IS

-- a world; of each number of a session the thread below whose leaves' own slots it stands; of each leaf the thread whose it is, and what it showed in steps for
-- that thread
pub record Tracked : Type 0 where
  pub world : World
  pub root : ℕ → ℕ
  pub own : ℕ → ℕ
  pub wrote : ℕ → List Event

-- a leaf works for itself in `main` and for a signal, and else for the thread of its current session
abbrev pub thread_by : (ℕ → ℕ) → ℕ → Option Current → ℕ
thread_by root x None = x
thread_by root x (Some current) = root current.session

abbrev pub asker : (ℕ → ℕ) → Option (Request × List Request) → Option ℕ
asker root None = None
asker root (Some p) = Some (root p.0.session)

-- a leaf that serves takes a signal for itself, and a request for the thread of its session
abbrev pub served_for : (ℕ → ℕ) → ℕ → Option (ℕ × List Signal) → Option (Request × List Request) → Option ℕ
served_for root itself (Some signal) found = Some itself
served_for root itself None found = asker root found

abbrev pub who_by : Tracked → ℕ → Option Current → List Signal → Phase → Option ℕ
who_by g x current signals Running = Some (thread_by g.root x current)
who_by g x current signals Handling = Some (thread_by g.root x current)
who_by g x current signals Serving = served_for g.root (thread_by g.root x current) (first_signal signals) (oldest g.world x g.world.requests)
who_by g x current signals Pending = None
who_by g x current signals Blocked = None
who_by g x current signals Exited = None

abbrev pub who_of : Tracked → ℕ → Option Leaf → Option ℕ
who_of g x None = None
who_of g x (Some leaf) = who_by g x leaf.current leaf.signals leaf.phase

-- the thread for which the next turn of a leaf is a step, if it is one
abbrev pub who : Tracked → ℕ → Option ℕ
who g x = who_of g x (slice_get g.world.leaves x)

-- another value at one number
abbrev pub anew : (ℕ → ℕ) → ℕ → ℕ → ℕ → ℕ
anew f k a j = if j == k then a else f j

-- what leaves showed, after a leaf showed more
abbrev pub more_of : (ℕ → List Event) → ℕ → Bool → Event → ℕ → List Event
more_of wrote x reported event y = if y == x && reported then wrote y ++ event ∷ [] else wrote y

-- after a step for a thread; if it opens a session, that has the first free number
abbrev pub stepped_to : Tracked → ℕ → ℕ → Stepped → Tracked
stepped_to g x i (Err wrong) = g
stepped_to g x i (Ok p) =
    record {
      world = p.0;
      root = anew g.root (free_place g.world.sessions) i;
      own = g.own;
      wrote = more_of g.wrote x (g.own x == i) p.1;
    }

-- THE FIRST REQUEST OF A LEAF THAT IS NOT SHARED

-- what was thread x's is thread i's
abbrev pub moved : Bool → ℕ → ℕ → (ℕ → ℕ) → ℕ → ℕ
moved false x i f = f
moved true x i f = λ k. if f k == x then i else f k

-- so it is with all that was the x-th leaf's
abbrev pub given : Tracked → ℕ → ℕ → Bool → Tracked
given g x i first = record { world = g.world; root = moved first x i g.root; own = moved first x i g.own; wrote = g.wrote }

-- a leaf that is not shared, and not yet this thread's, takes a request
abbrev pub first_of : System → Tracked → ℕ → ℕ → Phase → Option (ℕ × List Signal) → Option (Request × List Request) → Bool
first_of system g x i Serving None (Some p) = is_unshared system x && not (g.own x == i)
first_of system g x i phase signal found = false

abbrev pub first_by : System → Tracked → ℕ → ℕ → Option Leaf → Bool
first_by system g x i None = false
first_by system g x i (Some leaf) = first_of system g x i leaf.phase (first_signal leaf.signals) (oldest g.world x g.world.requests)

-- what a step of a leaf for a thread begins with
abbrev pub ready : System → Tracked → ℕ → ℕ → Tracked
ready system g x i = given g x i (first_by system g x i (slice_get g.world.leaves x))

abbrev pub turn_for : System → Tracked → ℕ → Option ℕ → Tracked
turn_for system g x None = g
turn_for system g x (Some i) = stepped_to (ready system g x i) x i (next system g.world x)

-- after a turn of a leaf
abbrev pub tracked_turn : System → Tracked → ℕ → Tracked
tracked_turn system g x = turn_for system g x (who g x)

-- before any turn each leaf is its own thread's; these are the threads of the sessions that are there
abbrev pub tracked_from : World → (ℕ → ℕ) → Tracked
tracked_from w root = record { world = w; root = root; own = λ x. x; wrote = λ x. [] }

-- at the start there are none
abbrev pub tracked_start : System → Tracked
tracked_start system = tracked_from (start system) (λ k. 0)

-- what a turn shows: the leaf, and what it wrote
abbrev pub events_of : ℕ → Stepped → List (ℕ × Event)
events_of x (Ok p) = (x, p.1) ∷ []
events_of x (Err wrong) = []

abbrev pub shows : System → Tracked → ℕ → List (ℕ × Event)
shows system g x = events_of x (next system g.world x)

-- HOW A THREAD STANDS

-- what a leaf does is not over
abbrev pub is_active : Phase → Bool
is_active Pending = true
is_active Running = true
is_active Blocked = true
is_active Handling = true
is_active Serving = false
is_active Exited = false

-- so does one that serves and has a signal to take
abbrev pub has_work : Phase → Option (ℕ × List Signal) → Bool
has_work Pending signal = true
has_work Running signal = true
has_work Blocked signal = true
has_work Handling signal = true
has_work Serving signal = is_some signal
has_work Exited signal = false

-- a leaf that serves and has no signal to take accepts a request next
abbrev pub Accepts : Leaf → Type 0
Accepts leaf = (leaf.phase ≡ Serving) × (first_signal leaf.signals ≡ None)

-- a leaf that works for a thread
abbrev pub works_for : (ℕ → ℕ) → ℕ → ℕ → Option Leaf → Bool
works_for root i y None = false
works_for root i y (Some leaf) = has_work leaf.phase (first_signal leaf.signals) && (thread_by root y leaf.current == i)

abbrev pub works : Tracked → ℕ → ℕ → Bool
works g i y = works_for g.root i y (slice_get g.world.leaves y)

-- what a leaf is at: nothing but its signals and what is current where it serves; whether it has been started does not matter, nor do its inputs
abbrev pub seen_by : Phase → Leaf → Leaf
seen_by Pending leaf = record leaf { phase = Running; slots = []; peaks = []; steps = 0; inputs = [] }
seen_by Running leaf = record leaf { phase = Running; slots = []; peaks = []; steps = 0; inputs = [] }
seen_by Blocked leaf = record leaf { phase = Blocked; slots = []; peaks = []; steps = 0; inputs = [] }
seen_by Handling leaf = record leaf { phase = Handling; slots = []; peaks = []; steps = 0; inputs = [] }
seen_by Serving leaf =
    record {
      phase = Serving;
      current = leaf.current;
      reacting = None;
      todo = Done;
      loops = [];
      operands = [];
      locals = [];
      slots = [];
      peaks = [];
      steps = 0;
      inputs = [];
      signals = leaf.signals;
    }
seen_by Exited leaf =
    record {
      phase = Exited;
      current = None;
      reacting = None;
      todo = Done;
      loops = [];
      operands = [];
      locals = [];
      slots = [];
      peaks = [];
      steps = 0;
      inputs = [];
      signals = [];
    }

abbrev pub seen : Leaf → Leaf
seen leaf = seen_by leaf.phase leaf

-- a leaf is at the same in two worlds
abbrev pub IsAtSame : (ℕ → ℕ) → ℕ → World → World → Type 0
IsAtSame f y w v = option_map seen (slice_get v.leaves y) ≡ option_map (λ leaf. renamed_leaf f (seen leaf)) (slice_get w.leaves y)

-- REGIONS

-- the session of this number, where it is in the region of a thread
abbrev pub within : (ℕ → ℕ) → ℕ → List (Option Session) → ℕ → Option Session
within root y sessions k = if root k == y then joined (slice_get sessions k) else None

-- those of these requests that are of sessions in it
abbrev pub among : (ℕ → ℕ) → ℕ → List Request → List Request
among root y [] = []
among root y (r ∷ rest) = if root r.session == y then r ∷ among root y rest else among root y rest

abbrev pub slots_of : Leaf → List Slot
slots_of leaf = leaf.slots

-- the region of a thread is the same in two worlds, but for the numbers of sessions
pub record IsSameRegion (f own root other : ℕ → ℕ) (i : ℕ) (w v : World) : Type 0 where
  pub slots : (y : ℕ) → own y ≡ i
      → option_map slots_of (slice_get v.leaves y) ≡ option_map (λ leaf. map (renamed_slot f) (slots_of leaf)) (slice_get w.leaves y)
  pub sessions : Correspond f (within root i w.sessions) (within other i v.sessions)
  pub requests : among other i v.requests ≡ map (renamed_request f) (among root i w.requests)

-- a thread has the same in two worlds: the same leaves are its and showed the same, the same work for it and are at the same, and its region is the same
pub record IsSameThread (i : ℕ) (g h : Tracked) : Type 0 where
  pub f : ℕ → ℕ
  pub owned : (y : ℕ) → (g.own y == i) ≡ (h.own y == i)
  pub leaves : (y : ℕ) → works g i y ≡ works h i y
  pub alike : (y : ℕ) → works g i y ≡ true → IsAtSame f y g.world h.world
  pub region : IsSameRegion f g.own g.root h.root i g.world h.world
  pub wrote : (y : ℕ) → g.own y ≡ i → g.wrote y ≡ h.wrote y

-- so it is, if it has not become another's in either of them
pub record IsAlike (i : ℕ) (g h : Tracked) : Type 0 where
  pub main : works g i i ≡ works h i i
  pub whole : g.own i ≡ i → h.own i ≡ i → IsSameThread i g h

-- its `main` has ended, and it has no signal to take
abbrev pub HasEnded : ℕ → Tracked → Type 0
HasEnded i g = works g i i ≡ false

-- RUNS

-- from a world on, with the threads of its sessions
module _ (system : System) (w : World) (root : ℕ → ℕ) where
  -- after turns of leaves, of which the last comes first
  abbrev pub tracked_after : List ℕ → Tracked
  tracked_after = after Tracked (ℕ × Event) (tracked_from w root) (tracked_turn system) who (shows system)

  -- what a thread shows in these turns: the leaves that took steps for it, and what each wrote
  abbrev pub shown_by : ℕ → List ℕ → List (ℕ × Event)
  shown_by = shown Tracked (ℕ × Event) (tracked_from w root) (tracked_turn system) who (shows system)

  -- where it has ended in both runs a thread has the same in both, and has shown the same
  abbrev pub SameAtEnds : Type 0
  SameAtEnds =
      (i : ℕ) (turns others : List ℕ) → HasEnded i (tracked_after turns) → HasEnded i (tracked_after others)
      → IsAlike i (tracked_after turns) (tracked_after others) × (shown_by i turns ≡ shown_by i others)

  -- what it shows in one run is a prefix of what it shows in the other, or the other way round
  abbrev pub SamePrefixes : Type 0
  SamePrefixes =
      (i : ℕ) (turns others : List ℕ) → ((rest : List (ℕ × Event)) × (shown_by i others ≡ shown_by i turns ++ rest))
      ⊎ ((rest : List (ℕ × Event)) × (shown_by i turns ≡ shown_by i others ++ rest))

  -- where all work is at rest in both runs, each thread has the same, if it has its own leaf, and has shown the same
  pub record SameAtRest (turns others : List ℕ) : Type 0 where
    -- the same threads have their own leaves, and each of these has the same
    pub same : (i : ℕ) → (tracked_after turns).own i ≡ i → IsSameThread i (tracked_after turns) (tracked_after others)
    pub back : (i : ℕ) → (tracked_after others).own i ≡ i → (tracked_after turns).own i ≡ i
    pub shown : (i : ℕ) → shown_by i turns ≡ shown_by i others

-- turns in their order, put before those that were
abbrev pub turned : List ℕ → List ℕ → List ℕ
turned [] past = past
turned (x ∷ turns) past = turned turns (x ∷ past)

-- the last turn first, of turns that are reported as leaves and numbers of turns
abbrev pub past_of : List (ℕ × ℕ) → List ℕ
past_of turns = turned (each_turn turns) []
