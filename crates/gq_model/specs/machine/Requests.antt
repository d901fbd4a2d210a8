-- Requests: to open, to upgrade, to call and to close a session.
use Rattle.std.specs.Prelude.{ℕ, suc, false, List, [], ◌∷◌, ◌++◌, replicate, Option, Some, None, Err}
use Rattle.gq_model.specs.machine.Amounts.{Amount, amount, plus}
use Rattle.gq_model.specs.machine.Program.{OperandSlot}
use Rattle.gq_model.specs.machine.Scenario.{interface_in, open_caps, upgrade_caps}
use Rattle.gq_model.specs.machine.Routes.{server_of}
use Rattle.gq_model.specs.machine.World.{Slot, Empty, Waiting, Link, SlotId, Session, Ask, Ask_open, Ask_upgrade, Ask_close, Ask_call, Blocked, World}
use Rattle.gq_model.specs.machine.World.{session_at}
use Rattle.gq_model.specs.machine.World.{with_leaf, with_session, slot_at, with_slot, slot_id_of}
use Rattle.gq_model.specs.machine.Doing.{Stepped, Quiet, WrongKind, Doing, need, pop, if_paid, with_operands, fill}

-- puts a session at the first free place
abbrev pub add_session : Session → List (Option Session) → List (Option Session)
add_session s [] = Some s ∷ []
add_session s (None ∷ rest) = Some s ∷ rest
add_session s (Some t ∷ rest) = Some t ∷ add_session s rest

-- the place at which it stands then
abbrev pub free_place : List (Option Session) → ℕ
free_place [] = 0
free_place (None ∷ rest) = 0
free_place (Some t ∷ rest) = suc (free_place rest)

-- the leaf is blocked, its slot waits and the request is the last
abbrev pub asked : Doing → World → SlotId → ℕ → Ask → Stepped
asked d w slot_id k ask =
    let blocked = with_leaf w d.x (record d.leaf { phase = Blocked }) in
    let waiting = with_slot blocked slot_id (Waiting k) in
    if_paid d.system (record waiting { requests = waiting.requests ++ record { session = k; ask = ask } ∷ [] }) Quiet

-- a session that is not accepted yet
abbrev pub new_session : ℕ → SlotId → ℕ → List ℕ → Amount → Session
new_session x slot_id server service donation =
    record {
      client = x;
      slot_id = slot_id;
      server = server;
      service = service;
      level = 0;
      donation = donation;
      accepted = false;
      object = Empty;
      slots = replicate 8 Empty;
    }

-- a request to open gives n bytes and the capabilities that the service needs
abbrev pub open_session : Doing → OperandSlot → List ℕ → ℕ → Stepped
open_session d place service n =
    let k = free_place d.world.sessions in
    let donation = amount n (open_caps (interface_in service d.system.interfaces)) in
    need (slot_id_of d.x d.leaf.current place) WrongKind (λ slot_id. fill d.world slot_id (slot_at d.world slot_id) (Waiting k) (λ w.
    need (server_of d.system d.component service) WrongKind (λ server.
    asked d (record w { sessions = add_session (new_session d.x slot_id server service donation) w.sessions }) slot_id k Ask_open)))

-- goes on with the session behind a link
abbrev pub link_in : World → Option Slot → (ℕ → Session → Stepped) → Stepped
link_in w (Some (Link k)) go = need (session_at w k) WrongKind (go k)
link_in w _ go = Err WrongKind

-- the slot, the number and the session of the link that an operand names
abbrev pub link_at : Doing → OperandSlot → (SlotId → ℕ → Session → Stepped) → Stepped
link_at d place go = need (slot_id_of d.x d.leaf.current place) WrongKind (λ slot_id. link_in d.world (slot_at d.world slot_id) (go slot_id))

-- an upgrade gives n bytes more, and the capabilities of the next level
abbrev pub upgrade : Doing → OperandSlot → ℕ → Stepped
upgrade d place n =
    link_at d place (λ slot_id k s.
    let more = amount n (upgrade_caps (interface_in s.service d.system.interfaces) s.level) in
    asked d (with_session d.world k (record s { donation = plus s.donation more })) slot_id k Ask_upgrade)

-- a call carries the top operand
abbrev pub call : Doing → OperandSlot → Stepped
call d place =
    pop d.leaf.operands (λ a rest. let e = record d { leaf = with_operands d rest } in link_at e place (λ slot_id k s. asked e d.world slot_id k (Ask_call a)))

-- asks for the session's end
abbrev pub close : Doing → OperandSlot → Stepped
close d place = link_at d place (λ slot_id k s. asked d d.world slot_id k Ask_close)
