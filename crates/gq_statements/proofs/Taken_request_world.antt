-- A request that is taken, in the machine's world.
use Rattle.std.proofs.Common.{◌≡◌, ℕ, Bool, true, false, eqb, List, [], ◌∷◌, length, map, replicate, Option, Some, None, refl, sym, ap, ◌∙◌}
use Rattle.std.specs.Prelude.{is_some, Ok, Err}
use Rattle.gq_model.specs.declared.program.Form.TheVariants.{Slice}
use Rattle.gq_model.specs.machine.Program.{Statements, section_in}
use Rattle.gq_model.specs.machine.Scenario.{System, interface_in, number_of}
use Rattle.gq_model.specs.machine.World as world
use Rattle.gq_model.specs.machine.Doing.{Doing, Quiet, Idle, Stepped, need, standing, when}
use Rattle.gq_model.specs.declared.fault.Wrong.TheVariants.{ExceededQuota, MissingSection, WrongKind}
use Rattle.gq_model.specs.machine.Step.{accept_oldest, accepted_as, is_to, oldest, section_for}
use Rattle.gq_model.specs.machine.Sums.{paid}
use Rattle.gq_model.proofs.Small_facts.{some_same}
use Rattle.gq_trade.specs.Numbers.{IsTaken}
use Rattle.gq_trade.specs.declared.requests.Ask.{Ask}
use Rattle.gq_trade.specs.declared.requests.Ask.TheVariants.{Open, Upgrade, Close, Call}
use Rattle.gq_trade.specs.declared.requests.Request.{Request}
use Rattle.gq_trade.specs.Queues.{oldest_to}
use Rattle.gq_trade.specs.Seen_requests.{AreServed, ask_seen, request_seen, taken_seen}
use Rattle.gq_trade.proofs.Oldest_request_definition.{oldest_is}
use Rattle.gq_trade.specs.Seen_sessions.{session_seen}
use Rattle.gq_trade.specs.Trading.{AreOf, Begins as BeginsIn, IsTrading, Trading, object_size, server_of, session_at, with_requests}
use Rattle.gq_trade.proofs.Sessions_kept.{between_at}
use Rattle.gq_slots.specs.Slots.{Frame, Slots, memory_of, world_seen}
use Rattle.gq_slots.specs.Session_calls.{TakesOldest, accepting, begun, begun_at}
use Rattle.gq_slots.proofs.Slot_change_worlds.{session_there}
use Rattle.gq_statements.specs.Systems.{AreLawful}
use Rattle.gq_statements.proofs.Lawful_worlds_paid.{all_paid}
use Rattle.gq_statements.specs.Serving.{Begins, IsBegun, begun_leaf}
use Rattle.gq_model.specs.machine.Step.{section_asked}
use Rattle.gq_statements.proofs.Closed_session_reply.{still_of}

-- REQUESTS IN THE WORLD

abbrev pub seen_at : Frame → Slots → ℕ → world.Session
seen_at f s k = session_seen f.names (memory_of s (server_of s.trades.trading k)) (session_at s.trades.trading k)

found : (f : Frame) (s : Slots) (k : ℕ) → IsTaken s.trades.trading.sessions k → world.session_at (world_seen f s) k ≡ Some (seen_at f s k)
found f s k there = ap world.joined (session_there (λ y. session_seen f.names (memory_of s y.server) y) s.trades.trading.sessions k there)

served : (f : Frame) (s : Slots) (rs : List Request) → AreOf s.trades.trading.sessions rs → AreServed (world_seen f s) rs
served f s [] o = tt
served f s (r ∷ rs) o = (
  λ y.
      ap (λ z. is_to y (world.joined z)) (session_there (λ z. session_seen f.names (memory_of s z.server) z) s.trades.trading.sessions r.session o.0)
      ∙ ap (λ n. eqb n y) o.1,
  served f s rs o.2,
)

module _ (d : Doing) (e : Frame) (s : Slots) (x : ℕ) (is : d.x ≡ x) (same : d.world ≡ world_seen e s) (w : IsTrading s.trades.trading) where
  -- the oldest of the step is that of the slots
  oldest_seen : oldest d.world d.x d.world.requests ≡ taken_seen (oldest_to x s.trades.trading.requests)
  oldest_seen =
      (λ i. oldest (same i) (is i) (same i).requests)
      ∙ oldest_is (world_seen e s) x s.trades.trading.requests (served e s s.trades.trading.requests w.requests)

  pub none_taken : oldest_to x s.trades.trading.requests ≡ None → accept_oldest d (oldest d.world d.x d.world.requests) ≡ Ok (d.world, Idle)
  none_taken n = ap (accept_oldest d) (oldest_seen ∙ ap taken_seen n)

  -- THE SECTION

  section_is : (system : System) (a : Ask) (q : world.Session)
      → section_for (ask_seen a) (accepted_as system (ask_seen a) q).level ≡ section_asked (ask_seen a) q.level
  section_is system Open q = refl
  section_is system Upgrade q = refl
  section_is system Close q = refl
  section_is system (Call a) q = refl

  accepted_is : (system : System) (a : Ask) (n : ℕ) (q : world.Session) → number_of (interface_in q.service system.interfaces) (λ i. i.object) ≡ n
      → accepted_as system (ask_seen a) q ≡ begun a n q
  accepted_is system Open n q h = ap (λ m. record q { accepted = true; object = world.Bytes Slice m (replicate m 0) }) h
  accepted_is system Upgrade n q h = refl
  accepted_is system Close n q h = refl
  accepted_is system (Call a) n q h = refl

  need_there : (o : Option Statements) (y : Stepped) → is_some o ≡ true → need o MissingSection (λ b. y) ≡ y
  need_there None y h = cc
  need_there (Some b) y h = refl

  need_none : (o : Option Statements) (y : Stepped) → is_some o ≡ false → need o MissingSection (λ b. y) ≡ Err MissingSection
  need_none None y h = refl
  need_none (Some b) y h = cc

  module _ (r : Request) (others : List Request) (first : oldest_to x s.trades.trading.requests ≡ Some (r, others))
      (there : IsTaken s.trades.trading.sessions r.session) (f : world.Request → Frame) (begins : Begins d f s) where
    abbrev k : ℕ
    k = r.session

    abbrev q : world.Session
    q = seen_at e s k

    abbrev rest : List world.Request
    rest = map request_seen others

    abbrev g : Frame
    g = f (request_seen r)

    abbrev n : ℕ
    n = object_size s.trades.trading k

    at : world.session_at d.world k ≡ Some q
    at = ap (λ v. world.session_at v k) same ∙ found e s k there

    taken : oldest d.world d.x d.world.requests ≡ Some (request_seen r, rest)
    taken = oldest_seen ∙ ap taken_seen first

    pub b : IsBegun d g s (request_seen r) q
    b = begins (request_seen r) rest q taken at

    session_now : world.session_at (world_seen g s) k ≡ Some q
    session_now = ap (λ v. world.session_at v k) (sym b.stands) ∙ at

    seen_now : q ≡ seen_at g s k
    seen_now = some_same (sym session_now ∙ found g s k there)

    size : number_of (interface_in q.service d.system.interfaces) (λ i. i.object) ≡ n
    size =
        let t = s.trades.trading in
        let between = between_at (length t.leaves) (length t.objects) t.sessions k w.between there in
        ap (λ (y : world.Session). number_of (interface_in y.service d.system.interfaces) (λ i. i.object)) seen_now
        ∙ sym (b.objects (session_at t k).service between.service)

    abbrev new : world.World
    new = accepting (world_seen g s) k r.ask n rest

    abbrev accepted : world.Session → world.Session
    accepted old = accepted_as d.system (ask_seen r.ask) old

    new_is : world.with_session (record (standing d (begun_leaf d (request_seen r) q)) { requests = rest }) k (accepted q) ≡ new
    new_is =
        (λ i. world.with_session (record (b.stands i) { requests = rest }) k (accepted_is d.system r.ask n q size i))
        ∙ sym (ap (begun_at (record (world_seen g s) { requests = rest }) k r.ask n) session_now)

    abbrev body : Option Statements
    body = section_in (section_asked (ask_seen r.ask) (session_at s.trades.trading k).level) d.component.node.program.sections

    abbrev going : world.Session → Stepped
    going old =
        let v = world.with_session (record (standing d (begun_leaf d (request_seen r) old)) { requests = rest }) k (accepted old) in
        when (paid d.system v) ExceededQuota
        (need (section_in (section_for (ask_seen r.ask) (accepted old).level) d.component.node.program.sections) MissingSection (λ y. Ok (v, Quiet)))

    abbrev ends_in : Bool → Option Statements → Stepped
    ends_in p o = when p ExceededQuota (need o MissingSection (λ y. Ok (new, Quiet)))

    accept_is : (p : Bool) → paid d.system new ≡ p → accept_oldest d (oldest d.world d.x d.world.requests) ≡ ends_in p body
    accept_is p h =
        ap (accept_oldest d) taken ∙ (ap (λ o. need o WrongKind going) at
        ∙ ((λ i. when (paid d.system (new_is i)) ExceededQuota
        (need (section_in (section_is d.system r.ask q i) d.component.node.program.sections) MissingSection (λ y. Ok (new_is i, Quiet))))
        ∙ ap (λ y. ends_in y body) h))

    pub refused : paid d.system new ≡ false → accept_oldest d (oldest d.world d.x d.world.requests) ≡ Err ExceededQuota
    refused h = accept_is false h

    pub missing : paid d.system new ≡ true → is_some body ≡ false → accept_oldest d (oldest d.world d.x d.world.requests) ≡ Err MissingSection
    missing h m = accept_is true h ∙ need_none body (Ok (new, Quiet)) m

    begun_price : (a : Ask) (v : Trading) → BeginsIn a s.trades.trading (with_requests v s.trades.trading.requests) k
        → v.ledger.price ≡ s.trades.trading.ledger.price
    begun_price Open v h = h.makes.others.whole.0
    begun_price Upgrade v h = ap (λ (y : Trading). y.ledger.price) h
    begun_price Close v h = ap (λ (y : Trading). y.ledger.price) h
    begun_price (Call a) v h = ap (λ (y : Trading). y.ledger.price) h

    pub begun_now : (t : Slots) → AreLawful s → AreLawful t → TakesOldest s t x r → is_some body ≡ true
        → accept_oldest d (oldest d.world d.x d.world.requests) ≡ Ok (world_seen g t, Quiet)
    begun_now t l m takes some =
        let same_rest : map request_seen t.trades.trading.requests ≡ rest =
        ap (λ (p : Request × List Request). map request_seen p.1) (some_same (sym takes.accepts.oldest ∙ first)) in
        let lands : world_seen g t ≡ new = takes.seen_so g ∙ ap (accepting (world_seen g s) k r.ask n) same_rest in
        let of = still_of d.system g s t l m takes.nodes takes.leaves (begun_price r.ask t.trades.trading takes.accepts.begins) b.of in
        accept_is true (ap (paid d.system) (sym lands) ∙ all_paid d.system g t m of)
        ∙ (need_there body (Ok (new, Quiet)) some ∙ ap (λ v. Ok (v, Quiet)) (sym lands))
