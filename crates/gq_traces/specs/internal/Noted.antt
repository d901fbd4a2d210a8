-- What was noted of a world, and what is reported by that.
use Rattle.std.specs.Prelude.{◌≡◌, if◌then◌else◌, ◌≤◌, ℕ, ◌<◌, List, [], Option, Some, None, get_or, length, map, option_map, slice_get, slice_set, true}
use Rattle.std.specs.Prelude.{IfSome}
use Rattle.gq_model.specs.machine.Amounts.{Ram, Caps, counts_caps}
use Rattle.gq_model.specs.machine.Scenario.{Scenario, components, system}
use Rattle.gq_model.specs.machine.Sums.{held}
use Rattle.gq_model.specs.machine.World.{Leaf, World}
use Rattle.gq_model.specs.rules.Accept.{budgets, step_budgets}
use Rattle.gq_output.specs.Account_values.{AccountValues}
use Rattle.gq_prepared.specs.Prepared.{names_of}
use Rattle.gq_world.specs.Account_lines.{all_accounts}
use Rattle.gq_world.specs.World_between_turns as worlds
use Rattle.gq_traces.specs.Trace as trace
use Rattle.gq_traces.specs.Trace.{Standing, accounts_in, same_printed, session_line, printed_session, using_of, standing_of}
use Rattle.gq_traces.specs.declared.noted.PrintedState.{PrintedState}
use Rattle.gq_traces.specs.declared.noted.Use.{Use}
use Rattle.gq_traces.specs.declared.session_lines.PrintedSession.{PrintedSession}

-- the service of this number
abbrev pub service_at : Scenario → ℕ → List ℕ
service_at s n = get_or (names_of s) n []

-- what is reported of a session, with the name of its service
abbrev pub seen_session : Scenario → PrintedSession → trace.PrintedSession
seen_session s t = record {
  client = t.client;
  server = t.server;
  service = service_at s t.service;
  level = t.level;
  donation = record { ram = t.donation.ram; caps = t.donation.caps };
  requested = t.requested;
}

-- client and server are leaves, the service is one of those that there are, and the level has one figure
pub record IsKnown (s : Scenario) (t : PrintedSession) : Type 0 where
  pub client : t.client < length (components s)
  pub server : t.server < length (components s)
  pub service : t.service < length s.interfaces
  pub level : t.level ≤ 3

abbrev pub AreKnown : Scenario → Option PrintedSession → Type 0
AreKnown s None = Unit {0}
AreKnown s (Some t) = IsKnown s t

-- it is what is reported of the k-th session
pub record IsReported (s : Scenario) (w : World) (k : ℕ) (t : Option PrintedSession) : Type 0 where
  pub is : option_map (seen_session s) t ≡ printed_session w k
  pub known : AreKnown s t

-- an account but for the steps of its leaf
abbrev pub standing_in : AccountValues → Standing
standing_in a = record { quota = a.quota; leaf = using_of a.leaf }

-- nothing is noted of a number that was not used
abbrev pub IsBeyond : PrintedState → Type 0
IsBeyond n = (k : ℕ) → n.count ≤ k → get_or n.sessions.items k None ≡ None

-- it is noted how each account stands, and what is reported of each session
pub record AreNoted (s : Scenario) (w : World) (n : PrintedState) : Type 0 where
  pub accounts : map standing_in n.accounts.items ≡ map standing_of (accounts_in s w (step_budgets (budgets s)))
  pub sessions : (k : ℕ) → k < 16449 → IsReported s w k (get_or n.sessions.items k None)
  pub room : length n.sessions.items ≡ 16449
  pub count : n.count ≡ length w.sessions
  pub few : n.count ≤ 16449
  pub beyond : IsBeyond n

-- so it is noted of the sessions
pub record SessionsNoted (s : Scenario) (w : World) (n : PrintedState) : Type 0 where
  pub sessions : (k : ℕ) → k < 16449 → IsReported s w k (get_or n.sessions.items k None)
  pub room : length n.sessions.items ≡ 16449
  pub count : n.count ≡ length w.sessions
  pub few : n.count ≤ 16449
  pub beyond : IsBeyond n

-- it is the phase of the x-th leaf, and what it holds, of capabilities where they are counted
pub record IsUse (s : Scenario) (w : World) (x : ℕ) (u : Use) : Type 0 where
  pub leaf : Leaf
  pub there : slice_get w.leaves x ≡ Some leaf
  pub phase : u.phase ≡ leaf.phase
  pub ram : u.used.ram ≡ held Ram w x leaf
  pub caps : counts_caps s.version ≡ true → u.used.caps ≡ held Caps w x leaf

-- the noted accounts and sessions can be noted anew
pub record CanRenew (w : worlds.World) (n : PrintedState) : Type 0 where
  pub accounts : length n.accounts.items ≡ length (all_accounts w)
  pub room : length n.sessions.items ≡ 16449
  pub few : n.count ≤ 16449
  pub beyond : IsBeyond n

-- a world was noted of this scenario, and can be noted anew
pub record WasNoted (w : worlds.World) (n : PrintedState) : Type 0 where
  pub accounts : length n.accounts.items ≡ length (all_accounts w)
  pub room : length n.sessions.items ≡ 16449
  pub few : n.count ≤ 16449
  pub known : (k : ℕ) → k < 16449 → AreKnown w.scenario (get_or n.sessions.items k None)

-- the account of the n-th node is noted anew
pub record IsRenewed (w : worlds.World) (n : ℕ) (old new : PrintedState) : Type 0 where
  pub now : AccountValues
  pub is : IfSome (slice_get (all_accounts w) n) (λ a. standing_in now ≡ standing_of a)
  pub accounts : new.accounts.items ≡ slice_set old.accounts.items n now
  pub sessions : new.sessions ≡ old.sessions
  pub count : new.count ≡ old.count

-- the line of the k-th session, of which this was noted, if it is another one now
abbrev pub printed_change : Scenario → ℕ → Option PrintedSession → World → List ℕ
printed_change s k noted w =
    if same_printed (option_map (seen_session s) noted) (printed_session w k) then [] else session_line s.version (system s) k (printed_session w k)
