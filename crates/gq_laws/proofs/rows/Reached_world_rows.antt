-- Worlds that are reached, on a worked run by computation: a server and its client.
use Rattle.std.proofs.Common.{◌≡◌, ℕ, true, false, [], ◌∷◌, length, map, codes, Option, Some, None, refl}
use Rattle.std.specs.Prelude.{slice_get, sum_by}
use Rattle.gq_model.specs.declared.act.Act.TheVariants.{Turns}
use Rattle.gq_model.specs.machine.Amounts.{Ram, part}
use Rattle.gq_model.specs.declared.program.Form.TheVariants.{Space}
use Rattle.gq_model.specs.declared.phase.Phase.{Phase}
use Rattle.gq_model.specs.declared.phase.Phase.TheVariants.{Handling}
use Rattle.gq_model.specs.declared.section.Section.TheVariants.{Closing}
use Rattle.gq_model.specs.machine.Scenario.{Scenario, system}
use Rattle.gq_model.specs.machine.World.{Bytes, In_leaf, Session, Current, Leaf, World, with_slot, start}
use Rattle.gq_model.specs.machine.Run.{run, Acts}
use Rattle.gq_model.specs.machine.Sums.{paid}
use Rattle.gq_model.specs.machine.Accounts.{accounts}
use Rattle.gq_model.specs.rules.Resolve.{Quanta_exceed, unresolved}
use Rattle.gq_model.specs.Promises.{quota_at, held_at}
use Rattle.gq_model.proofs.Sample_scenarios.{echo_of, echo_turns, scenario, leaves, leaf, main_of}
use Rattle.gq_laws.specs.Reached_worlds.{IsReached}
use Rattle.gq_laws.specs.Session_links.{Naming, Leads, Waits, links, requests_of, at_current}

abbrev after : Acts → World
after turns = (run (system (echo_of 8192)) turns).world

reached : (turns : Acts) → IsReached (echo_of 8192) (after turns)
reached turns = record { turns = turns; is = refl }

-- once the client has asked for a session there is one, from leaf 1 to leaf 0; it is gone at the end
abbrev ends_of : Option Session → ℕ × ℕ
ends_of None = (2, 2)
ends_of (Some s) = (s.client, s.server)

one_session : map ends_of (after ((0, Turns 1) ∷ (1, Turns 1) ∷ [])).sessions ≡ (1, 0) ∷ []
one_session = refl

slots_there : map (λ (l : Leaf). length l.slots) (after ((0, Turns 1) ∷ (1, Turns 1) ∷ (0, Turns 1) ∷ [])).leaves ≡ 64 ∷ 64 ∷ []
slots_there = refl

-- SESSIONS, SLOTS, REQUESTS AND HANDS

abbrev slot_of_client : Acts → Option Naming
slot_of_client turns = (links (after turns)).slots (In_leaf 1 0)

-- the client's slot is free, waits for the session to open, leads to it, and is free again
slot_waits : (slot_of_client [] ≡ None) × (slot_of_client ((0, Turns 1) ∷ (1, Turns 1) ∷ []) ≡ Some (Waits 0))
    × (slot_of_client ((0, Turns 1) ∷ (1, Turns 1) ∷ (0, Turns 2) ∷ []) ≡ Some (Leads 0)) × (slot_of_client echo_turns ≡ None)
slot_waits = (refl, refl, refl, refl)

-- the request to open waits, is current at the server, and is done; then the session has none
abbrev requests_and_current : Acts → ℕ × ℕ
requests_and_current turns = let l = links (after turns) in (requests_of 0 l.requests, at_current 0 (l.stances 0))

one_request : (requests_and_current ((0, Turns 1) ∷ (1, Turns 1) ∷ []) ≡ (1, 0)) × (requests_and_current ((0, Turns 1) ∷ (1, Turns 1) ∷ (0, Turns 1) ∷ [])
    ≡ (0, 1))
    × (requests_and_current ((0, Turns 1) ∷ (1, Turns 1) ∷ (0, Turns 2) ∷ []) ≡ (0, 0))
one_request = (refl, refl, refl)

-- QUOTAS

-- a client that gives 8193 of its 16384 bytes has them back at the end, and the server has its 4096
abbrev surplus : Acts → World
surplus turns = (run (system (echo_of 8193)) turns).world

quotas_of : Acts → ℕ × ℕ
quotas_of turns = (quota_at Ram (echo_of 8193) (surplus turns) 0, quota_at Ram (echo_of 8193) (surplus turns) 1)

before_the_close : quotas_of ((0, Turns 1) ∷ (1, Turns 1) ∷ (0, Turns 2) ∷ (1, Turns 2) ∷ (0, Turns 4) ∷ (1, Turns 2) ∷ (0, Turns 1) ∷ []) ≡ (12289, 8191)
unfolding quotas_of
before_the_close = refl

after_the_close : quotas_of ((0, Turns 1) ∷ (1, Turns 1) ∷ (0, Turns 2) ∷ (1, Turns 2) ∷ (0, Turns 4) ∷ (1, Turns 2) ∷ (0, Turns 2) ∷ []) ≡ (4096, 16384)
unfolding quotas_of
after_the_close = refl

-- CLOSES

-- the server has taken up the request to close, and not replied yet
abbrev closing : World
closing = surplus ((0, Turns 1) ∷ (1, Turns 1) ∷ (0, Turns 2) ∷ (1, Turns 2) ∷ (0, Turns 4) ∷ (1, Turns 2) ∷ (0, Turns 1) ∷ [])

-- it holds the 4096 bytes of the session's object, and nothing once it has replied
held_before : held_at Ram closing 0 ≡ 4096
held_before = refl

held_after : held_at Ram (surplus ((0, Turns 1) ∷ (1, Turns 1) ∷ (0, Turns 2) ∷ (1, Turns 2) ∷ (0, Turns 4) ∷ (1, Turns 2) ∷ (0, Turns 2) ∷ [])) 0 ≡ 0
held_after = refl

abbrev phase_and_current : Option Leaf → Option (Phase × Option Current)
phase_and_current None = None
phase_and_current (Some leaf) = Some (leaf.phase, leaf.current)

-- so it is at the end of the close of session 0, and its next turn ends the session
at_close : phase_and_current (slice_get closing.leaves 0) ≡ Some (Handling, Some (record { session = 0; section = Closing 0 }))
at_close = refl

is_there : map ends_of closing.sessions ≡ (1, 0) ∷ []
is_there = refl

is_gone : map ends_of (surplus ((0, Turns 1) ∷ (1, Turns 1) ∷ (0, Turns 2) ∷ (1, Turns 2) ∷ (0, Turns 4) ∷ (1, Turns 2) ∷ (0, Turns 2) ∷ [])).sessions
    ≡ (2, 2) ∷ []
is_gone = refl

-- all quotas sum to the 65536 bytes of the root, in the midst of the session too
abbrev sum_of_quotas : Scenario → World → ℕ
sum_of_quotas s w = sum_by (λ a. part Ram a.quota) (accounts s w [])

sums : (sum_of_quotas (echo_of 8193) (surplus []) ≡ 65536) × (sum_of_quotas (echo_of 8193) (surplus ((0, Turns 1) ∷ (1, Turns 1) ∷ (0, Turns 1) ∷ [])) ≡ 65536)
sums = (refl, refl)

-- it is needed that the quanta fit: of 4096 bytes a leaf is handed 8192
abbrev too_much : Scenario
too_much = scenario 4096 (leaves (leaf (codes "a") 8192 (main_of []) ∷ []))

not_resolved : unresolved too_much ≡ Some (Quanta_exceed (codes "init"))
not_resolved = refl

sums_to_more : sum_of_quotas too_much (start (system too_much)) ≡ 8192
sums_to_more = refl

-- PAID

-- a made up world in which the client holds 32768 bytes, of 16384: it is not paid for, so `paid` can fail
abbrev rich : World
rich = with_slot (after []) (In_leaf 1 0) (Bytes Space 32768 [])

not_paid : (paid (system (echo_of 8192)) rich ≡ false) × (paid (system (echo_of 8192)) (after []) ≡ true)
not_paid = (refl, refl)
