-- A request that is taken up pays for its section, and keeps worlds counted.
use Rattle.std.proofs.Common.{◌≡◌, ◌≢◌, ◌≤◌, ℕ, ◌+◌, ◌==◌, inl, inr, cond, List, [], Option, Some, Ok, refl, ap, sym, ◌∙◌, subst, arith}
use Rattle.std.specs.Prelude.{slice_get}
use Rattle.std.proofs.lemmas.Bool.Decides.{eqb_tells}
use Rattle.gq_model.specs.declared.section.Section.{Section}
use Rattle.gq_model.specs.declared.phase.Phase.TheVariants.{Serving}
use Rattle.gq_model.specs.machine.Program.{Statements, section_in, body_of}
use Rattle.gq_model.specs.machine.Scenario.{Component}
use Rattle.gq_model.specs.machine.World.{Session, Ask, Ask_open, Ask_upgrade, Ask_close, Ask_call, Request, Leaf, World, session_at}
use Rattle.gq_model.specs.machine.Doing.{Doing, Event, Quiet, standing}
use Rattle.gq_model.specs.machine.Step.{oldest, section_for, first_operands, accepted_as, beginning, accept, level_then}
use Rattle.gq_model.specs.rules.Kinds.{Kind, Subject}
use Rattle.gq_model.specs.rules.Flow.{context, body, start_of}
use Rattle.gq_model.specs.rules.Budgets.{cost, section_cost, section_requests}
use Rattle.gq_model.specs.rules.Use.{subject, from_sections, steps_of}
use Rattle.gq_laws.specs.Session_links.{outline, outline_in, links, requests_of, IsAsked, Stands, IsLinkedWorld}
use Rattle.gq_laws.specs.internal.Remaining.{left_requests}
use Rattle.gq_laws.specs.Inside_steps.{TakesLeaf}
use Rattle.gq_laws.specs.Typing.{IsTypedBy}
use Rattle.gq_laws.specs.internal.Carrying.{Carries}
use Rattle.gq_laws.specs.internal.Section_counts.{Often, Requests, ahead, one_at, served_at, asks_at, waiting_in, waiting, Within, Since, Counts, IsCounted}
use Rattle.gq_laws.proofs.step_shapes.Step_end_shapes.{Ends, gives, need_found, when_ends}
use Rattle.gq_model.proofs.Small_facts.{some_same}
use Rattle.gq_laws.proofs.session_links.Asked_request_changes.{one_one}
use Rattle.gq_laws.proofs.session_links.Linked_after_accept.{Found, oldest_found, server_is}
use Rattle.gq_laws.proofs.session_links.Written_world_links.{set_here, set_else, session_else}
use Rattle.gq_laws.proofs.remaining_work.Move_requests_left.{requests_start}
use Rattle.gq_laws.proofs.verified_programs.Sure_system_facts.{IsSure}
use Rattle.gq_laws.proofs.typed_worlds.Typed_world_step.{taken_typed}
use Rattle.gq_laws.proofs.step_counts.Section_request_sums.{steps_one, from_one}
use Rattle.gq_laws.proofs.step_counts.Counted_world_step.{waiting_else, waiting_oldest, Rises, Spends, spends_counted}
use Rattle.gq_laws.proofs.step_counts.Section_begun_counted.{Begun, leaves, new, pays, carries, within_new}
use Rattle.gq_laws.proofs.step_counts.Inside_step_counted.{IsOneOn, one_on}
use Rattle.gq_laws.proofs.typed_worlds.Accepted_request_typed.{accepted_section}

-- THE SECTION THAT IS TAKEN UP

abbrev asked_section : Ask → Session → Section
asked_section ask s = section_for ask (level_then ask s.level)

-- it costs its statements, its end and that it is taken up
cost_of : (ask : Ask) (level : ℕ) (list : Statements) → section_cost (section_for ask level) list ≡ cost list + 2
cost_of Ask_open level list = refl
cost_of Ask_upgrade level list = refl
cost_of Ask_close level list = refl
cost_of (Ask_call value) level list = refl

-- the leaf is at the start of the section, and all but its session is left alone
record Starts (d : Doing) (r : Request) (rest : List Request) (w : World) : Type 0 where
  old : Session
  was : session_at d.world r.session ≡ Some old
  list : Statements
  listed : section_in (asked_section r.ask old) d.component.node.program.sections ≡ Some list
  leaf : Leaf
  there : slice_get w.leaves d.x ≡ Some leaf
  steps : leaf.steps ≡ d.leaf.steps
  whole : ahead leaf leaf.phase ≡ cost list + 1
  leaves : (y : ℕ) → y ≢ d.x → slice_get w.leaves y ≡ slice_get d.world.leaves y
  requests : w.requests ≡ rest
  sessions : (j : ℕ) → j ≢ r.session → session_at w j ≡ session_at d.world j

starts : (d : Doing) → TakesLeaf d → (r : Request) (rest : List Request) → Ends (Starts d r rest) (accept d r rest)
starts d takes r rest =
    need_found (Starts d r rest) _ _ _ (λ old was. when_ends (Starts d r rest) _ _ _ (need_found (Starts d r rest) _ _ _ (λ list found.
    let new : Session = accepted_as d.system r.ask old in
    let section : Section = section_for r.ask new.level in
    let leaf : Leaf = beginning d.leaf (record { session = r.session; section = section }) (first_operands r.ask)
    (body_of (section_in section d.component.node.program.sections)) in
    gives _ Quiet (record {
      old = old;
      was = was;
      list = list;
      listed = ap (λ q. section_in q d.component.node.program.sections) (sym (accepted_section d.system r.ask old)) ∙ found;
      leaf = leaf;
      there = set_here d.world.leaves d.x leaf takes.old takes.there;
      steps = refl;
      whole = (let same = ap (λ o. cost (body_of o)) found in omega (arith, same));
      leaves = λ y ne. set_else d.world.leaves d.x y leaf ne;
      requests = refl;
      sessions = λ j ne. session_else (record (standing d leaf) { requests = rest }) r.session j new ne;
    }))))

-- THE REQUEST

module _ (promised : ℕ → Option Kind) (left : Requests) (d : Doing) (sure : IsSure d.system) (takes : TakesLeaf d) (h : IsLinkedWorld d.system d.world)
    (t : IsTypedBy promised (Within d.system left) d.system d.world) (at : slice_get d.system.components d.x ≡ Some d.component)
    (own : IsOneOn d takes) (w : World) (rises : Rises d.world w) (serves : d.leaf.phase ≡ Serving) (r : Request) (rest : List Request)
    (first : oldest d.world d.x d.world.requests ≡ Some (r, rest)) (s : Starts d r rest w) where
  abbrev k : ℕ
  k = r.session

  abbrev section : Section
  section = asked_section r.ask s.old

  abbrev v : Subject
  v = subject d.system d.component

  found : Found (IsAsked (links d.world)) d.world d.x d.world.requests (r, rest)
  found = oldest_found (IsAsked (links d.world)) d.world d.x d.world.requests (r, rest) first

  server : s.old.server ≡ d.x
  server = server_is d
      (record { old = takes.old; there = takes.there; slots = takes.slots; phase = takes.phase; current = takes.current; reacting = takes.reacting }) h serves
      r rest found
      s.old s.was

  -- it is the one request of its session
  none_left : requests_of k rest ≡ 0
  none_left = by (h.stands k (outline s.old) (ap outline_in s.was))
    where
      by : Stands (links d.world) k (outline s.old) → requests_of k rest ≡ 0
      by (inl u) = let none = u.2 in let count = found.counts k in let one = one_one k k refl in absurd (omega (arith, none, count, one))
      by (inr u) = let single = u.1 in let count = found.counts k in let one = one_one k k refl in omega (arith, single, count, one)

  waits : (y : ℕ) (q : Section) → waiting w y q + one_at d.x section y q ≡ waiting d.world y q + 0
  waits y q =
      let now : waiting w y q ≡ waiting_in d.world y q rest =
      ap (waiting_in w y q) s.requests ∙ waiting_else d.world w k (λ j ne. ap served_at (s.sessions j ne)) rest none_left y q in
      let was = waiting_oldest d.world d.world d.x y q d.world.requests (r, rest) first in
      let its : asks_at r.ask (served_at (session_at d.world k)) y q ≡ one_at d.x section y q =
      ap (λ o. asks_at r.ask (served_at o) y q) s.was ∙ ap (λ z. one_at z section y q) server in
      omega (arith, now, was, its)

  begun : Begun d section w
  begun =
      record {
        list = s.list;
        listed = s.listed;
        costs = cost_of r.ask (level_then r.ask s.old.level) s.list;
        leaf = s.leaf;
        there = s.there;
        steps = s.steps;
        whole = s.whole;
        leaves = s.leaves;
      }

  abbrev then_left : Requests
  then_left = new left d takes at own w section begun

  spends : Spends d.system d.world w left then_left
  spends = record {
    begun = one_at d.x section;
    more = λ y q. 0;
    further = λ y service q. 0;
    waits = waits;
    no_main = λ y. refl;
    reacts = λ y i. (let most = rises y i in omega (arith, most));
    covered = λ y q other. omega arith;
    leaves = leaves left d takes at own w section begun;
    pays = pays left d takes at own w section begun;
  }

  within_then : (old : Session) → session_at d.world k ≡ Some old
      → Within d.system then_left d.x (asked_section r.ask old) (start_of v (asked_section r.ask old)) (body v (asked_section r.ask old)) []
  within_then old there = subst (λ old. Within d.system then_left d.x (asked_section r.ask old) (start_of v (asked_section r.ask old))
      (body v (asked_section r.ask old)) []) (some_same (sym s.was ∙ there)) (within_new left d takes at own w section begun)

  taken_by : (event : Event) → accept d r rest ≡ Ok (w, event) → (since : Since) (done : Often) (made : Requests)
      → Counts since done made left d.system d.world → IsCounted since d.system w
  taken_by event is since done made counts =
      spends_counted since done made left then_left d.system d.world w counts spends promised
      (taken_typed promised (Within d.system left) d sure takes h t at (Within d.system then_left)
      (carries left d takes at own w section begun) w serves r rest first event is within_then)

pub taken_counted : (promised : ℕ → Option Kind) (left : Requests) (d : Doing) → IsSure d.system → (takes : TakesLeaf d) → IsLinkedWorld d.system d.world
    → IsTypedBy promised (Within d.system left) d.system d.world → slice_get d.system.components d.x ≡ Some d.component
    → IsOneOn d takes → (w : World) → Rises d.world w → d.leaf.phase ≡ Serving → (r : Request) (rest : List Request)
    → oldest d.world d.x d.world.requests ≡ Some (r, rest)
    → (event : Event) → accept d r rest ≡ Ok (w, event)
    → (since : Since) (done : Often) (made : Requests) → Counts since done made left d.system d.world → IsCounted since d.system w
taken_counted promised left d sure takes h t at own w rises serves r rest first event is since done made counts =
    taken_by promised left d sure takes h t at own w rises serves r rest first ((starts d takes r rest).holds w event is) event is since done made counts
