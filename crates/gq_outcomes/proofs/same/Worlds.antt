-- Worlds that pass the test of sameness are equal.
use Rattle.std.proofs.Common.{◌≡◌, ◌==◌, true, ◌&&◌}
use Rattle.gq_model.specs.machine.Amounts.{Amount, same_amount}
use Rattle.gq_model.specs.machine.Program.{text_eq}
use Rattle.gq_model.specs.machine.Sections.{same_section}
use Rattle.gq_model.specs.machine.World.{Current, Leaf, Request, Round, Session, Signal, World}
use Rattle.gq_outcomes.specs.Outcomes.{Kept, same_kept}
use Rattle.gq_outcomes.specs.Same.{same_all, same_ask, same_bool, same_current, same_leaf, same_option, same_phase, same_request, same_round, same_session}
use Rattle.gq_outcomes.specs.Same.{same_signal, same_slot, same_slot_id, same_statements, same_world}
use Rattle.gq_outcomes.proofs.same.Tests.{lists_are_equal, ask_is_equal, bool_is_equal, first_holds, number_is_equal, option_is_equal, phase_is_equal}
use Rattle.gq_outcomes.proofs.same.Tests.{second_holds, section_is_equal}
use Rattle.gq_outcomes.proofs.same.Tests.{slot_is_equal, slot_id_is_equal, statements_are_equal, text_is_equal}

pub amount_is_equal : (a b : Amount) → same_amount a b ≡ true → a ≡ b
amount_is_equal a b e =
    let p = number_is_equal a.ram b.ram (first_holds (a.ram == b.ram) (a.caps == b.caps) e) in
    let q = number_is_equal a.caps b.caps (second_holds (a.ram == b.ram) (a.caps == b.caps) e) in λ k. record { ram = p k; caps = q k }

pub current_is_equal : (a b : Current) → same_current a b ≡ true → a ≡ b
current_is_equal a b e =
    let p = number_is_equal a.session b.session (first_holds (a.session == b.session) (same_section a.section b.section) e) in
    let q = section_is_equal a.section b.section (second_holds (a.session == b.session) (same_section a.section b.section) e) in
    λ k. record { session = p k; section = q k }

pub request_is_equal : (a b : Request) → same_request a b ≡ true → a ≡ b
request_is_equal a b e =
    let p = number_is_equal a.session b.session (first_holds (a.session == b.session) (same_ask a.ask b.ask) e) in
    let q = ask_is_equal a.ask b.ask (second_holds (a.session == b.session) (same_ask a.ask b.ask) e) in λ k. record { session = p k; ask = q k }

pub round_is_equal : (a b : Round) → same_round a b ≡ true → a ≡ b
round_is_equal a b e =
    let r = a.round == b.round in
    let c = a.count == b.count in
    let y = same_statements a.body b.body in
    let z = same_statements a.rest b.rest in
    let three = first_holds (r && c && y) z e in
    let two = first_holds (r && c) y three in
    let p = number_is_equal a.round b.round (first_holds r c two) in
    let q = number_is_equal a.count b.count (second_holds r c two) in
    let s = statements_are_equal a.body b.body (second_holds (r && c) y three) in
    let t = statements_are_equal a.rest b.rest (second_holds (r && c && y) z e) in λ k. record { round = p k; count = q k; body = s k; rest = t k }

pub session_is_equal : (a b : Session) → same_session a b ≡ true → a ≡ b
session_is_equal a b e =
    let t1 = a.client == b.client in
    let t2 = same_slot_id a.slot_id b.slot_id in
    let t3 = a.server == b.server in
    let t4 = text_eq a.service b.service in
    let t5 = a.level == b.level in
    let t6 = same_amount a.donation b.donation in
    let t7 = same_bool a.accepted b.accepted in
    let t8 = same_slot a.object b.object in
    let t9 = same_all same_slot a.slots b.slots in
    let h8 = first_holds (t1 && t2 && t3 && t4 && t5 && t6 && t7 && t8) t9 e in
    let h7 = first_holds (t1 && t2 && t3 && t4 && t5 && t6 && t7) t8 h8 in
    let h6 = first_holds (t1 && t2 && t3 && t4 && t5 && t6) t7 h7 in
    let h5 = first_holds (t1 && t2 && t3 && t4 && t5) t6 h6 in
    let h4 = first_holds (t1 && t2 && t3 && t4) t5 h5 in
    let h3 = first_holds (t1 && t2 && t3) t4 h4 in
    let h2 = first_holds (t1 && t2) t3 h3 in
    let e1 = number_is_equal a.client b.client (first_holds t1 t2 h2) in
    let e2 = slot_id_is_equal a.slot_id b.slot_id (second_holds t1 t2 h2) in
    let e3 = number_is_equal a.server b.server (second_holds (t1 && t2) t3 h3) in
    let e4 = text_is_equal a.service b.service (second_holds (t1 && t2 && t3) t4 h4) in
    let e5 = number_is_equal a.level b.level (second_holds (t1 && t2 && t3 && t4) t5 h5) in
    let e6 = amount_is_equal a.donation b.donation (second_holds (t1 && t2 && t3 && t4 && t5) t6 h6) in
    let e7 = bool_is_equal a.accepted b.accepted (second_holds (t1 && t2 && t3 && t4 && t5 && t6) t7 h7) in
    let e8 = slot_is_equal a.object b.object (second_holds (t1 && t2 && t3 && t4 && t5 && t6 && t7) t8 h8) in
    let e9 = lists_are_equal same_slot slot_is_equal a.slots b.slots (second_holds (t1 && t2 && t3 && t4 && t5 && t6 && t7 && t8) t9 e) in
    λ k. record {
      client = e1 k;
      slot_id = e2 k;
      server = e3 k;
      service = e4 k;
      level = e5 k;
      donation = e6 k;
      accepted = e7 k;
      object = e8 k;
      slots = e9 k;
    }

signal_is_equal : (a b : Signal) → same_signal a b ≡ true → a ≡ b
signal_is_equal a b e =
    let t1 = same_bool a.submitted b.submitted in
    let t2 = a.taken == b.taken in
    let e1 = bool_is_equal a.submitted b.submitted (first_holds t1 t2 e) in
    let e2 = number_is_equal a.taken b.taken (second_holds t1 t2 e) in
    λ k. record { submitted = e1 k; taken = e2 k }

pub leaf_is_equal : (a b : Leaf) → same_leaf a b ≡ true → a ≡ b
leaf_is_equal a b e =
    let t1 = same_phase a.phase b.phase in
    let t2 = same_option same_current a.current b.current in
    let t3 = same_statements a.todo b.todo in
    let t4 = same_all same_round a.loops b.loops in
    let t5 = text_eq a.operands b.operands in
    let t6 = text_eq a.locals b.locals in
    let t7 = same_all same_slot a.slots b.slots in
    let t8 = text_eq a.peaks b.peaks in
    let t9 = a.steps == b.steps in
    let t10 = text_eq a.inputs b.inputs in
    let t11 = same_option (λ i j. i == j) a.reacting b.reacting in
    let t12 = same_all same_signal a.signals b.signals in
    let h11 = first_holds (t1 && t2 && t3 && t4 && t5 && t6 && t7 && t8 && t9 && t10 && t11) t12 e in
    let h10 = first_holds (t1 && t2 && t3 && t4 && t5 && t6 && t7 && t8 && t9 && t10) t11 h11 in
    let h9 = first_holds (t1 && t2 && t3 && t4 && t5 && t6 && t7 && t8 && t9) t10 h10 in
    let h8 = first_holds (t1 && t2 && t3 && t4 && t5 && t6 && t7 && t8) t9 h9 in
    let h7 = first_holds (t1 && t2 && t3 && t4 && t5 && t6 && t7) t8 h8 in
    let h6 = first_holds (t1 && t2 && t3 && t4 && t5 && t6) t7 h7 in
    let h5 = first_holds (t1 && t2 && t3 && t4 && t5) t6 h6 in
    let h4 = first_holds (t1 && t2 && t3 && t4) t5 h5 in
    let h3 = first_holds (t1 && t2 && t3) t4 h4 in
    let h2 = first_holds (t1 && t2) t3 h3 in
    let e1 = phase_is_equal a.phase b.phase (first_holds t1 t2 h2) in
    let e2 = option_is_equal same_current current_is_equal a.current b.current (second_holds t1 t2 h2) in
    let e3 = statements_are_equal a.todo b.todo (second_holds (t1 && t2) t3 h3) in
    let e4 = lists_are_equal same_round round_is_equal a.loops b.loops (second_holds (t1 && t2 && t3) t4 h4) in
    let e5 = text_is_equal a.operands b.operands (second_holds (t1 && t2 && t3 && t4) t5 h5) in
    let e6 = text_is_equal a.locals b.locals (second_holds (t1 && t2 && t3 && t4 && t5) t6 h6) in
    let e7 = lists_are_equal same_slot slot_is_equal a.slots b.slots (second_holds (t1 && t2 && t3 && t4 && t5 && t6) t7 h7) in
    let e8 = text_is_equal a.peaks b.peaks (second_holds (t1 && t2 && t3 && t4 && t5 && t6 && t7) t8 h8) in
    let e9 = number_is_equal a.steps b.steps (second_holds (t1 && t2 && t3 && t4 && t5 && t6 && t7 && t8) t9 h9) in
    let e10 = text_is_equal a.inputs b.inputs (second_holds (t1 && t2 && t3 && t4 && t5 && t6 && t7 && t8 && t9) t10 h10) in
    let e11 = option_is_equal (λ i j. i == j) number_is_equal a.reacting b.reacting
    (second_holds (t1 && t2 && t3 && t4 && t5 && t6 && t7 && t8 && t9 && t10) t11 h11) in
    let e12 = lists_are_equal same_signal signal_is_equal a.signals b.signals
    (second_holds (t1 && t2 && t3 && t4 && t5 && t6 && t7 && t8 && t9 && t10 && t11) t12 e) in
    λ k. record {
      phase = e1 k;
      current = e2 k;
      todo = e3 k;
      loops = e4 k;
      operands = e5 k;
      locals = e6 k;
      slots = e7 k;
      peaks = e8 k;
      steps = e9 k;
      inputs = e10 k;
      reacting = e11 k;
      signals = e12 k;
    }

pub world_is_equal : (w v : World) → same_world w v ≡ true → w ≡ v
world_is_equal w v e =
    let t1 = same_all same_leaf w.leaves v.leaves in
    let t2 = same_all (same_option same_session) w.sessions v.sessions in
    let t3 = same_all same_request w.requests v.requests in
    let h2 = first_holds (t1 && t2) t3 e in
    let e1 = lists_are_equal same_leaf leaf_is_equal w.leaves v.leaves (first_holds t1 t2 h2) in
    let e2 = lists_are_equal (same_option same_session) (option_is_equal same_session session_is_equal) w.sessions v.sessions (second_holds t1 t2 h2) in
    let e3 = lists_are_equal same_request request_is_equal w.requests v.requests (second_holds (t1 && t2) t3 e) in
    λ k. record { leaves = e1 k; sessions = e2 k; requests = e3 k }

-- what is kept of two worlds is equal, if it passes the test
pub kept_is_equal : (k l : Kept) → same_kept k l ≡ true → k ≡ l
kept_is_equal k l e =
    let t1 = same_world k.world l.world in
    let t2 = same_all text_eq k.said l.said in
    let e1 = world_is_equal k.world l.world (first_holds t1 t2 e) in
    let e2 = lists_are_equal text_eq text_is_equal k.said l.said (second_holds t1 t2 e) in λ j. record { world = e1 j; said = e2 j }
