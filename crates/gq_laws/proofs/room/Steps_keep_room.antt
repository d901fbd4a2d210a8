-- Each step of a leaf keeps the room of those who wait, and a call leaves room for its reply.
use Rattle.std.proofs.Common.{◌≡◌, ◌≢◌, ℕ, ◌≤◌, nat_lt, List, [], ◌∷◌, ◌++◌, length, Some, refl, ap, sym, ◌∙◌}
use Rattle.std.proofs.Common.{arith}
use Rattle.std.specs.Prelude.{slice_get}
use Rattle.std.proofs.lemmas.Bool.{ltb-true}
use Rattle.gq_model.specs.declared.program.OperandSlot.{OperandSlot}
use Rattle.gq_model.specs.declared.program.Instruction.{Instruction}
use Rattle.gq_model.specs.declared.program.Instruction.TheVariants.{Say, Out, Operands, Make}
use Rattle.gq_model.specs.declared.program.Instruction.TheVariants.{MakePool, Load, Store, Free, Take, Give, Peek, Poke, Open, Upgrade, Call, Close}
use Rattle.gq_model.specs.declared.fault.Wrong.TheVariants.{MissingOperand, WrongKind}
use Rattle.gq_model.specs.declared.phase.Phase.TheVariants.{Blocked}
use Rattle.gq_model.specs.machine.Amounts.{Amount, plus, amount}
use Rattle.gq_model.specs.machine.Scenario.{interface_in, upgrade_caps, open_caps}
use Rattle.gq_model.specs.machine.Routes.{server_of}
use Rattle.gq_model.specs.machine.World.{Slot, Waiting, SlotId, Session, Ask, Ask_open, Ask_upgrade, Ask_close, Ask_call, Leaf, World}
use Rattle.gq_model.specs.machine.World.{session_at, slot_id_of, with_slot, with_session}
use Rattle.gq_model.specs.machine.Doing.{Doing, Stepped, pop, push, standing, settled, with_operands}
use Rattle.gq_model.specs.machine.Requests.{open_session, upgrade, call, close, asked, add_session, new_session, free_place}
use Rattle.gq_model.specs.machine.Step.{bench, instruct}
use Rattle.gq_model.proofs.Operand_step_limits.{operands_left}
use Rattle.gq_model.proofs.Small_facts.{some_same, none_some}
use Rattle.gq_laws.specs.Session_links.{IsLinkedWorld}
use Rattle.gq_laws.specs.Inside_steps.{TakesLeaf}
use Rattle.gq_laws.proofs.session_links.Asked_request_changes.{each_end}
use Rattle.gq_laws.proofs.session_links.Linked_after_open.{free_at, free_slot, add_else, fill_found}
use Rattle.gq_laws.proofs.session_links.Link_free_statements.{stood, IsQuiet, when_found}
use Rattle.gq_laws.proofs.session_links.Linked_after_request.{link_ready, link_found}
use Rattle.gq_laws.proofs.step_shapes.Step_end_shapes.{Ends, gives, fails, need_ends, need_found, when_ends, absent_ends, fill_ends, bytes_in_ends}
use Rattle.gq_laws.proofs.step_shapes.Step_end_shapes.{pool_in_ends}
use Rattle.gq_laws.proofs.step_shapes.Step_end_worlds.{asked_world}
use Rattle.gq_laws.specs.Room.{HasRoomFor, HasRoomIfCalled, HasRoomAsked, IsRoomy}
use Rattle.gq_laws.proofs.room.Operand_holders_write.{held, held_in, client_in}
use Rattle.gq_laws.proofs.room.Step_room_frame.{Goes, goes_slot, goes_leaf, goes_session, goes_settled, goes_asked, ends_asked}
use Rattle.gq_laws.proofs.room.Unblocked_step_room.{kept_asked, kept_handled, goes_roomy}

-- OPERANDS

module _ (P : World → Type 0) where
  -- where an operand is taken, at most 15 are left
  pub pop_few : (operands : List ℕ) (go : ℕ → List ℕ → Stepped) → length operands ≤ 16 → ((a : ℕ) (rest : List ℕ) → length rest ≤ 15 → Ends P (go a rest))
      → Ends P (pop operands go)
  pop_few [] go few h = fails MissingOperand
  pop_few (a ∷ rest) go few h = h a rest (omega arith)

  pub push_few : (a : ℕ) (operands : List ℕ) (go : List ℕ → Stepped) → ((rest : List ℕ) → length rest ≤ 16 → Ends P (go rest)) → Ends P (push a operands go)
  push_few a operands go h = when_found P (nat_lt (length operands) 16) MissingOperand (go (a ∷ operands))
      (λ less. h (a ∷ operands) (let below = ltb-true (length operands) 16 less in omega (arith, below)))

pub one_more : (a : ℕ) (rest : List ℕ) → length rest ≤ 15 → length (a ∷ rest) ≤ 16
one_more a rest few = omega (arith, few)

pub no_more : (rest : List ℕ) → length rest ≤ 15 → length rest ≤ 16
no_more rest few = omega (arith, few)

-- INSTRUCTIONS

-- P holds of the world before the step, and of it once the leaf stands there with at most 16 operands, whatever is written to slots
module _ (d : Doing) (P : World → Type 0) (few : length d.leaf.operands ≤ 16) (here : P d.world)
    (stands : (leaf : Leaf) → length leaf.operands ≤ 16 → leaf.current ≡ d.leaf.current → P (standing d leaf))
    (written : (w : World) (q : SlotId) (slot : Slot) → P w → P (with_slot w q slot)) (settles : (w : World) → P w → Ends P (settled d.system d.x w)) where
  with_few : (operands : List ℕ) → length operands ≤ 16 → P (standing d (with_operands d operands))
  with_few operands less = stands (with_operands d operands) less refl

  as_it_is : P (standing d d.leaf)
  as_it_is = stands d.leaf few refl

  quiet_by : (i : Instruction) → IsQuiet i → Ends P (instruct d i)
  quiet_by (Say text) quiet = gives _ _ as_it_is
  quiet_by (Operands s) quiet = need_found P _ _ _
      (λ o at. gives _ _ (stands _ ((operands_left (bench d) s few).holds o at) refl))
  quiet_by (Open place service n) quiet = absurd quiet
  quiet_by (Upgrade place n) quiet = absurd quiet
  quiet_by (Call place) quiet = absurd quiet
  quiet_by (Close place) quiet = absurd quiet
  quiet_by i quiet = search (
    need_ends,
    when_ends,
    pop_few,
    push_few,
    absent_ends,
    fill_ends P P written,
    bytes_in_ends P P written,
    pool_in_ends P P written,
    gives,
    here,
    as_it_is,
    with_few,
    written,
    settles,
    one_more,
    no_more,
    few,
  ) depth 14

module _ (d : Doing) (few : length d.leaf.operands ≤ 16) (start : Goes d.world d.x 16 d.leaf.current d.world.requests d.world) where
  abbrev pub P : World → Type 0
  P = Goes d.world d.x 16 d.leaf.current d.world.requests

  pub stands : (leaf : Leaf) → length leaf.operands ≤ 16 → leaf.current ≡ d.leaf.current → P (standing d leaf)
  stands leaf less same = goes_leaf d.world d.x 16 d.leaf.current d.world.requests d.world leaf 16 d.leaf.current less same start

  pub quiet_goes : (i : Instruction) → IsQuiet i → Ends P (instruct d i)
  quiet_goes i quiet = quiet_by d P few start stands (goes_slot d.world d.x 16 d.leaf.current d.world.requests)
      (goes_settled d.world d.x 16 d.leaf.current d.world.requests d.system) i quiet

-- REQUESTS

module _ (d : Doing) (t : TakesLeaf d) (active : d.leaf.phase ≢ Blocked) (h : IsLinkedWorld d.system d.world) (roomy : IsRoomy d.world)
    (few : length d.leaf.operands ≤ 16) (start : Goes d.world d.x 16 d.leaf.current d.world.requests d.world) where
  pub calm_roomy : (w : World) → Goes d.world d.x 16 d.leaf.current d.world.requests w → IsRoomy w
  calm_roomy w g =
      goes_roomy d.system d.world h roomy d.x d.leaf.phase d.leaf.current (stood d t) active 16 d.leaf.current d.world.requests w g (omega arith)
      (kept_asked d.system d.world h roomy d.x d.leaf.phase d.leaf.current (stood d t) active 16 d.leaf.current d.world.requests w g)
      (λ k level at. kept_handled d.system d.world h roomy d.x d.leaf.phase d.leaf.current (stood d t) active 16 d.leaf.current d.world.requests w g
      d.x t.old k level t.there (sym t.current ∙ at))

  pub calm_ends : (r : Stepped) → Ends (Goes d.world d.x 16 d.leaf.current d.world.requests) r → Ends IsRoomy r
  calm_ends r e = record { holds = λ w event q. calm_roomy w (e.holds w event q) }

  -- the leaf asks something in this world, with these operands
  module _ (operands : List ℕ) (less : length operands ≤ 16) (w : World) (g : Goes d.world d.x 16 d.leaf.current d.world.requests w) (q : SlotId) (k : ℕ) where
    abbrev e : Doing
    e = record d { leaf = with_operands d operands }

    asked_goes : (ask : Ask) (most : ℕ) → length operands ≤ most → Goes d.world d.x most d.leaf.current
        (d.world.requests ++ record { session = k; ask = ask } ∷ []) (asked_world e w q k ask)
    asked_goes ask most small = goes_asked e d.world 16 most d.leaf.current d.world.requests w q k ask small g

    asked_roomy : (ask : Ask) → HasRoomIfCalled (asked_world e w q k ask) k ask → Ends IsRoomy (asked e w q k ask)
    asked_roomy ask room =
        let v = asked_world e w q k ask in
        let rs = d.world.requests ++ record { session = k; ask = ask } ∷ [] in
        let a = asked_goes ask 16 less in
        ends_asked IsRoomy e w q k ask
        (goes_roomy d.system d.world h roomy d.x d.leaf.phase d.leaf.current (stood d t) active 16 d.leaf.current rs v a (omega arith)
        (each_end (HasRoomAsked v) d.world.requests _
        (kept_asked d.system d.world h roomy d.x d.leaf.phase d.leaf.current (stood d t) active 16 d.leaf.current rs v a) room)
        (λ j level at. kept_handled d.system d.world h roomy d.x d.leaf.phase d.leaf.current (stood d t) active 16 d.leaf.current rs v a
        d.x t.old j level t.there (sym t.current ∙ at)))

    -- a call leaves room for its reply
    call_room : (value : ℕ) → length operands ≤ 15 → (s : Session) → session_at d.world k ≡ Some s → s.client ≡ d.x
        → HasRoomFor (asked_world e w q k (Ask_call value)) k
    call_room value small s there client p leaf at found =
        let a = asked_goes (Ask_call value) 15 small in
        let same : p.client ≡ d.x = some_same (sym (ap client_in at) ∙ a.clients k s there) ∙ client in
        (a.own (held leaf) (ap (λ x. held_in (slice_get (asked_world e w q k (Ask_call value)).leaves x)) (sym same) ∙ ap held_in found)).0

  close_ends : (place : OperandSlot) → Ends IsRoomy (close d place)
  close_ends place = need_found IsRoomy _ _ _ (λ q at. link_found IsRoomy d.world q _
      (λ k s link there. asked_roomy d.leaf.operands few d.world start q k Ask_close tt))

  upgrade_ends : (place : OperandSlot) (n : ℕ) → Ends IsRoomy (upgrade d place n)
  upgrade_ends place n = need_found IsRoomy _ _ _ (λ q at. link_found IsRoomy d.world q _ (λ k s link there.
      let given = plus s.donation (amount n (upgrade_caps (interface_in s.service d.system.interfaces) s.level)) in
      asked_roomy d.leaf.operands few (with_session d.world k (record s { donation = given }))
      (goes_session d.world d.x 16 d.leaf.current d.world.requests d.world k s (record s { donation = given }) there refl start) q k Ask_upgrade tt))

  call_ends : (place : OperandSlot) → Ends IsRoomy (call d place)
  call_ends place = pop_few IsRoomy _ _ few (λ a rest less. need_found IsRoomy _ _ _ (λ q at. link_found IsRoomy d.world q _ (λ k s link there.
      asked_roomy rest (no_more rest less) d.world start q k (Ask_call a) (call_room rest (no_more rest less) d.world start q k a less s there
      (link_ready d t active h place q at k s link there s.donation (Ask_call a) refl).client))))

  -- a session at a place that was free is no other's
  added_goes : (s : Session) (w : World) → free_place w.sessions ≡ free_place d.world.sessions → Goes d.world d.x 16 d.leaf.current d.world.requests w
      → Goes d.world d.x 16 d.leaf.current d.world.requests (record w { sessions = add_session s w.sessions })
  added_goes s w same g =
      record {
        own = g.own;
        others = g.others;
        clients = λ k u there. ap client_in (add_else s w.sessions k (apart k u there)) ∙ g.clients k u there;
        requests = g.requests;
      }
    where
      apart : (k : ℕ) (u : Session) → session_at d.world k ≡ Some u → k ≢ free_place w.sessions
      apart k u there e = none_some (sym (free_at d.world.sessions) ∙ (ap (session_at d.world) (sym (e ∙ same)) ∙ there))

  new_ends : (q : SlotId) (service : List ℕ) (given : Amount) (server : ℕ) → Ends IsRoomy (asked d
      (record (with_slot d.world q (Waiting (free_place d.world.sessions))) {
        sessions = add_session (new_session d.x q server service given) (with_slot d.world q (Waiting (free_place d.world.sessions))).sessions;
      })
      q (free_place d.world.sessions) Ask_open)
  new_ends q service given server =
      let k = free_place d.world.sessions in
      let filled = with_slot d.world q (Waiting k) in
      asked_roomy d.leaf.operands few _
      (added_goes (new_session d.x q server service given) filled (free_slot d.world q (Waiting k))
      (goes_slot d.world d.x 16 d.leaf.current d.world.requests d.world q (Waiting k) start)) q k Ask_open tt

  open_ends : (place : OperandSlot) (service : List ℕ) (n : ℕ) → Ends IsRoomy (open_session d place service n)
  open_ends place service n =
      need_found IsRoomy (slot_id_of d.x d.leaf.current place) WrongKind _ (λ q at. fill_found IsRoomy d.world q (Waiting (free_place d.world.sessions)) _
      (λ empty. need_found IsRoomy (server_of d.system d.component service) WrongKind _
      (λ server found. new_ends q service (amount n (open_caps (interface_in service d.system.interfaces))) server)))

  pub instruct_ends : (i : Instruction) → Ends IsRoomy (instruct d i)
  instruct_ends (Open place service n) = open_ends place service n
  instruct_ends (Upgrade place n) = upgrade_ends place n
  instruct_ends (Call place) = call_ends place
  instruct_ends (Close place) = close_ends place
  instruct_ends (Say text) = calm_ends _ (quiet_goes d few start (Say text) tt)
  instruct_ends Out = calm_ends _ (quiet_goes d few start Out tt)
  instruct_ends (Operands o) = calm_ends _ (quiet_goes d few start (Operands o) tt)
  instruct_ends (Make form place n) = calm_ends _ (quiet_goes d few start (Make form place n) tt)
  instruct_ends (MakePool place n m) = calm_ends _ (quiet_goes d few start (MakePool place n m) tt)
  instruct_ends (Load width place) = calm_ends _ (quiet_goes d few start (Load width place) tt)
  instruct_ends (Store width place) = calm_ends _ (quiet_goes d few start (Store width place) tt)
  instruct_ends (Free place) = calm_ends _ (quiet_goes d few start (Free place) tt)
  instruct_ends (Take place) = calm_ends _ (quiet_goes d few start (Take place) tt)
  instruct_ends (Give place) = calm_ends _ (quiet_goes d few start (Give place) tt)
  instruct_ends (Peek place) = calm_ends _ (quiet_goes d few start (Peek place) tt)
  instruct_ends (Poke place) = calm_ends _ (quiet_goes d few start (Poke place) tt)
