-- A request that is taken up keeps worlds typed, and only want of quota stops it.
use Rattle.std.proofs.Common.{◌≡◌, ◌≤◌, ◌<◌, ℕ, suc, inl, inr, cond, true, not, List, length, Option, Some, None, Ok, refl, ap, sym, ◌∙◌, subst, arith, []}
use Rattle.std.specs.Prelude.{slice_get}
use Rattle.std.proofs.lemmas.Bool.{leb-true}
use Rattle.gq_model.specs.declared.program.Form.TheVariants.{Slice}
use Rattle.gq_model.specs.declared.section.Section.{Section}
use Rattle.gq_model.specs.declared.section.Section.TheVariants.{Upgrading}
use Rattle.gq_model.specs.declared.phase.Phase.TheVariants.{Serving}
use Rattle.gq_model.specs.machine.Program.{Statements, section_in, body_of}
use Rattle.gq_model.specs.machine.Scenario.{Interface, System, interface_in, number_of}
use Rattle.gq_model.specs.machine.World.{Session, Ask, Ask_open, Ask_upgrade, Ask_close, Ask_call, Request, Current, Leaf, World, session_at, with_session}
use Rattle.gq_model.specs.declared.fault.Wrong.{Wrong}
use Rattle.gq_model.specs.machine.Doing.{Doing, Stepped, Quiet, need, standing}
use Rattle.gq_model.specs.machine.Step.{oldest, section_for, first_operands, accepted_as, beginning, accept, level_then}
use Rattle.gq_model.specs.rules.Kinds.{Kind, Memory, AbstractState, Subject, no_kinds}
use Rattle.gq_model.specs.rules.Flow.{flow, context, body, start_of, section_end, own_after, bank_at, bank_before}
use Rattle.gq_model.specs.rules.Use.{subject}
use Rattle.gq_model.specs.rules.Verdict.{is_wanted, program_fault}
use Rattle.gq_laws.specs.Current_section_facts.{current_section, section_if, kind_replied}
use Rattle.gq_laws.specs.Session_links.{outline, outline_in, stance, links, requests_of, is_open, Stands, Fits, IsAsked, IsLinkedWorld}
use Rattle.gq_laws.specs.Typed.{IsKind, AreKinds}
use Rattle.gq_laws.specs.Inside_steps.{IsSafe, TakesLeaf}
use Rattle.gq_laws.specs.Section_rules.{HasObject, IsAtRest, Begins}
use Rattle.gq_laws.specs.Typing.{Extra, StandsBy, RestsAt, FitsRequest, IsTypedBy}
use Rattle.gq_laws.specs.internal.Carrying.{Carries}
use Rattle.gq_laws.proofs.step_shapes.Step_end_shapes.{Ends, gives, need_ends, when_ends}
use Rattle.gq_model.proofs.Small_facts.{some_same}
use Rattle.gq_laws.proofs.session_links.Asked_request_changes.{one_one, none_of}
use Rattle.gq_laws.proofs.session_links.Linked_after_accept.{Found, oldest_found, asked_as, server_is}
use Rattle.gq_laws.proofs.session_links.Written_world_links.{set_else, session_here, session_else}
use Rattle.gq_laws.proofs.reply_rules.Ruled_section_start.{begins_ruled}
use Rattle.gq_laws.proofs.typed_worlds.Promised_stance_transfer.{waiting_none}
use Rattle.gq_laws.proofs.typed_worlds.Typed_world_promises.{stood}
use Rattle.gq_laws.proofs.session_links.Linked_after_reply.{session_of_outline}
use Rattle.gq_laws.proofs.verified_programs.Sure_system_facts.{IsSure}
use Rattle.gq_laws.proofs.typed_worlds.Oldest_requests.{oldest_first, oldest_left}
use Rattle.gq_laws.proofs.typed_worlds.Taken_request_typed.{IsNext, HasTaken, taken_typed}

-- WHAT ACCEPTANCE MAKES OF A SESSION

abbrev asked_section : Ask → Session → Section
asked_section ask s = section_for ask (level_then ask s.level)

-- its client, server and service stay, and what the reply makes of its slot
record KeepsParts (section : Section) (old new : Session) : Type 0 where
  client : new.client ≡ old.client
  server : new.server ≡ old.server
  service : new.service ≡ old.service
  kind : kind_replied section new ≡ kind_replied section old

keeps_parts : (system : System) (ask : Ask) (old : Session) → KeepsParts (asked_section ask old) old (accepted_as system ask old)
keeps_parts system Ask_open old = record { client = refl; server = refl; service = refl; kind = refl }
keeps_parts system Ask_upgrade old = record { client = refl; server = refl; service = refl; kind = refl }
keeps_parts system Ask_close old = record { client = refl; server = refl; service = refl; kind = refl }
keeps_parts system (Ask_call value) old = record { client = refl; server = refl; service = refl; kind = refl }

-- the section by the session as the server finds it
pub accepted_section : (system : System) (ask : Ask) (old : Session) → section_for ask (accepted_as system ask old).level ≡ asked_section ask old
accepted_section system Ask_open old = refl
accepted_section system Ask_upgrade old = refl
accepted_section system Ask_close old = refl
accepted_section system (Ask_call value) old = refl

-- an upgrade is to a level that the interface has
accepted_level : (system : System) (i : Interface) (ask : Ask) (old : Session) → old.level ≤ length i.upgrades
    → is_wanted (Some i) 0 (asked_section ask old) ≡ true → (accepted_as system ask old).level ≤ length i.upgrades
accepted_level system i Ask_open old fits wanted = fits
accepted_level system i Ask_upgrade old fits wanted = leb-true (suc old.level) (length i.upgrades) wanted
accepted_level system i Ask_close old fits wanted = fits
accepted_level system i (Ask_call value) old fits wanted = fits

-- which is not 0
upgrades_above : (ask : Ask) (old : Session) (l : ℕ) → asked_section ask old ≡ Upgrading l → 0 < l
upgrades_above Ask_open old l e = absurd cc
upgrades_above Ask_upgrade old l e = let same = level_same e in omega (arith, same)
  where
    level_same : {m : ℕ} → Upgrading m ≡ Upgrading l → m ≡ l
    level_same e = cc
upgrades_above Ask_close old l e = absurd cc
upgrades_above (Ask_call value) old l e = absurd cc

-- the section starts with the slots as the session's last section left them
bank_rests : (promised : ℕ → Option Kind) (v : Subject) (ask : Ask) (s : Session) → s.accepted ≡ not (is_open ask)
    → AreKinds promised s.slots (cond s.accepted (bank_at v s.level) no_kinds) → AreKinds promised s.slots (bank_before v (asked_section ask s))
bank_rests promised v Ask_open s e bank = subst (λ b. AreKinds promised s.slots (cond b (bank_at v s.level) no_kinds)) e bank
bank_rests promised v Ask_upgrade s e bank = subst (λ b. AreKinds promised s.slots (cond b (bank_at v s.level) no_kinds)) e bank
bank_rests promised v Ask_close s e bank = subst (λ b. AreKinds promised s.slots (cond b (bank_at v s.level) no_kinds)) e bank
bank_rests promised v (Ask_call value) s e bank = subst (λ b. AreKinds promised s.slots (cond b (bank_at v s.level) no_kinds)) e bank

object_rests : (promised : ℕ → Option Kind) (n : ℕ) (ask : Ask) (s : Session) → s.accepted ≡ not (is_open ask)
    → (s.accepted ≡ true → IsKind promised s.object (Memory Slice n)) → HasObject promised n ask s.object
object_rests promised n Ask_open s e object = tt
object_rests promised n Ask_upgrade s e object = object e
object_rests promised n Ask_close s e object = object e
object_rests promised n (Ask_call value) s e object = object e

-- who serves has no current request
free_serving : (current : Option Current) → Fits Serving current → current ≡ None
free_serving None f = refl
free_serving (Some g) f = absurd f

pub ends_need : {P : World → Type 0} {A : Type 0} (o : Option A) (wrong : Wrong) (go : A → Stepped) (a : A) → o ≡ Some a → Ends P (go a)
    → Ends P (need o wrong go)
ends_need {P} o wrong go a e h = subst (λ o. Ends P (need o wrong go)) (sym e) h

-- THE REQUEST THAT IS TAKEN UP

module _ (promised : ℕ → Option Kind) (before after : Extra) (d : Doing) (carries : Carries d.x before after) (sure : IsSure d.system) (takes : TakesLeaf d)
    (h : IsLinkedWorld d.system d.world) (t : IsTypedBy promised before d.system d.world) (at : slice_get d.system.components d.x ≡ Some d.component)
    (serves : d.leaf.phase ≡ Serving)
    (sections_there : (v : Subject) (i : Interface) (section : Section) → program_fault v ≡ None → v.provided ≡ Some i → length i.upgrades ≤ 3
    → is_wanted (Some i) 0 section ≡ true → ((l : ℕ) → section ≡ Upgrading l → 0 < l)
    → (list : Statements) × (section_in section v.program.sections ≡ Some list))
    (flows : (v : Subject) (section : Section) (list : Statements) → program_fault v ≡ None → section_in section v.program.sections ≡ Some list
    → (end : AbstractState) × (last : AbstractState) × (flow (context v section) (start_of v section) (body v section) ≡ Ok end) ×
    (section_end v section end ≡ Ok last))
    (r : Request) (rest : List Request) (e : oldest d.world d.x d.world.requests ≡ Some (r, rest)) (old : Session)
    (there : session_at d.world r.session ≡ Some old)
    (also : after d.x (asked_section r.ask old) (start_of (subject d.system d.component) (asked_section r.ask old))
    (body (subject d.system d.component) (asked_section r.ask old)) []) where
  abbrev k : ℕ
  k = r.session

  abbrev v : Subject
  v = subject d.system d.component

  abbrev section : Section
  section = asked_section r.ask old

  abbrev new : Session
  new = accepted_as d.system r.ask old

  linked_found : Found (IsAsked (links d.world)) d.world d.x d.world.requests (r, rest)
  linked_found = oldest_found (IsAsked (links d.world)) d.world d.x d.world.requests (r, rest) e

  found : Found (FitsRequest d.system d.world) d.world d.x d.world.requests (r, rest)
  found = oldest_found (FitsRequest d.system d.world) d.world d.x d.world.requests (r, rest) e

  accepted : old.accepted ≡ not (is_open r.ask)
  accepted =
      asked_as d (record {
        old = takes.old;
        there = takes.there;
        slots = takes.slots;
        phase = takes.phase;
        current = takes.current;
        reacting = takes.reacting;
      }) h serves r rest
      linked_found old there

  server : old.server ≡ d.x
  server =
      server_is d (record {
        old = takes.old;
        there = takes.there;
        slots = takes.slots;
        phase = takes.phase;
        current = takes.current;
        reacting = takes.reacting;
      }) h serves r rest
      linked_found old there

  free : takes.old.current ≡ None
  free = sym takes.current
      ∙ free_serving d.leaf.current (subst (λ p. Fits p d.leaf.current) serves (h.fits d.x (stance d.leaf.phase d.leaf.current) (stood d takes)))

  -- it is the one request of its session
  none_left : requests_of k rest ≡ 0
  none_left = by (h.stands k (outline old) (ap outline_in there))
    where
      by : Stands (links d.world) k (outline old) → requests_of k rest ≡ 0
      by (inl u) = let none = u.2 in let count = found.counts k in let one = one_one k k refl in absurd (omega (arith, none, count, one))
      by (inr u) = let single = u.1 in let count = found.counts k in let one = one_one k k refl in omega (arith, single, count, one)

  is_next : IsNext d takes k section old rest
  is_next =
      record {
        was = there;
        at = at;
        server = server;
        free = free;
        first = oldest_first d.world d.x k old found.to d.world.requests (r, rest) e refl;
        none = λ s. waiting_none k s rest none_left;
        left = λ j s ne. oldest_left d.world d.x j s d.world.requests (r, rest) e (λ same. ne (sym same));
        fits = none_of (FitsRequest d.system d.world) k rest none_left (found.left t.requests);
      }

  -- AT REST

  at_server : slice_get d.system.components old.server ≡ Some d.component
  at_server = ap (slice_get d.system.components) server ∙ at

  rests : RestsAt promised d.system d.component old
  rests = (t.sessions k old there).rests d.component at_server (ap (λ y. current_section k (slice_get d.world.leaves y)) server
      ∙ (ap (current_section k) takes.there ∙ ap (section_if k) free))

  provided : interface_in old.service d.system.interfaces ≡ v.provided
  provided = let route = h.routed k (outline old) (ap outline_in there) in
      sym (sure.provides old.client old.server route.0 d.component old.service route.1 route.2 at_server)

  abbrev its : Interface
  its = (t.sessions k old there).interface

  known : interface_in old.service d.system.interfaces ≡ Some its
  known = (t.sessions k old there).known

  faultless : program_fault v ≡ None
  faultless = sure.faultless d.x d.component at

  wanted : is_wanted (Some its) 0 section ≡ true
  wanted = subst (λ o. is_wanted o 0 section ≡ true) known (found.first t.requests old there).1

  pub listed : (list : Statements) × (section_in section v.program.sections ≡ Some list)
  listed = sections_there v its section faultless (sym provided ∙ known) (sure.upgrades old.service its known) wanted (upgrades_above r.ask old)

  own_rests : AreKinds promised d.leaf.slots (own_after v)
  own_rests = subst (λ slots. AreKinds promised slots (own_after v)) (sym takes.slots)
      (subst (StandsBy promised before d.system d.world d.x d.component takes.old) (sym takes.phase ∙ serves)
      (t.leaves d.x d.component takes.old at takes.there))

  at_rest : IsAtRest promised v d r old
  at_rest =
      record {
        there = there;
        own = own_rests;
        bank = bank_rests promised v r.ask old accepted rests.bank;
        object = object_rests promised (number_of v.provided (λ i. i.object)) r.ask old accepted rests.object;
        argument = (found.first t.requests old there).0;
        provided = provided;
        body = listed;
      }

  -- THE WORLD THEN

  abbrev leaf_then : Leaf
  leaf_then = let s = section_for r.ask new.level in beginning d.leaf (record { session = k; section = s }) (first_operands r.ask)
      (body_of (section_in s d.component.node.program.sections))

  abbrev world_then : World
  world_then = with_session (record (standing d leaf_then) { requests = rest }) k new

  has_taken : Begins promised v section d r world_then → HasTaken promised d r section old new rest world_then
  has_taken begins =
      let parts = keeps_parts d.system r.ask old in
      record {
        begins = begins;
        leaves = λ y ne. set_else d.world.leaves d.x y leaf_then ne;
        requests = refl;
        session = session_here (record (standing d leaf_then) { requests = rest }) k old new there;
        sessions = λ j ne. session_else (record (standing d leaf_then) { requests = rest }) k j new ne;
        client = parts.client;
        server = parts.server;
        service = parts.service;
        kind = parts.kind;
        level = λ i is. accepted_level d.system i r.ask old
            (subst (λ (i : Interface). old.level ≤ length i.upgrades) (some_same (sym known ∙ is)) (t.sessions k old there).level)
            (subst (λ o. is_wanted o 0 section ≡ true) is (found.first t.requests old there).1);
      }

  typed_then : Begins promised v section d r world_then → IsTypedBy promised after d.system world_then
  typed_then begins =
      let flow = flows v section listed.0 faultless listed.1 in
      taken_typed promised before d takes h t r section old new rest is_next world_then (has_taken begins) after carries also flow.0 flow.2 listed

  is_then : Ends (λ w. w ≡ world_then) (accept d r rest)
  is_then = ends_need (session_at d.world k) _ _ old there
      (when_ends (λ w. w ≡ world_then) _ _ _ (need_ends (λ w. w ≡ world_then) _ _ _ (λ b. gives world_then Quiet refl)))

  begins_safe : IsSafe (Begins promised v section d r) (accept d r rest)
  begins_safe = begins_ruled promised d takes r rest old (sure.locals d.x d.component at) at_rest

  accept_safe : IsSafe (IsTypedBy promised after d.system) (accept d r rest)
  accept_safe =
      record {
        ends = λ w event q. let is = is_then.holds w event q in
            subst (IsTypedBy promised after d.system) (sym is) (typed_then (subst (Begins promised v section d r) is (begins_safe.ends w event q)));
        short = begins_safe.short;
      }

pub accept_typed : (promised : ℕ → Option Kind) (before after : Extra) (d : Doing) → Carries d.x before after → IsSure d.system → TakesLeaf d
    → IsLinkedWorld d.system d.world → IsTypedBy promised before d.system d.world
    → slice_get d.system.components d.x ≡ Some d.component → d.leaf.phase ≡ Serving
    → (sections_there : (v : Subject) (i : Interface) (section : Section) → program_fault v ≡ None → v.provided ≡ Some i → length i.upgrades ≤ 3
    → is_wanted (Some i) 0 section ≡ true → ((l : ℕ) → section ≡ Upgrading l → 0 < l)
    → (list : Statements) × (section_in section v.program.sections ≡ Some list))
    → (flows : (v : Subject) (section : Section) (list : Statements) → program_fault v ≡ None → section_in section v.program.sections ≡ Some list
    → (end : AbstractState) × (last : AbstractState) × (flow (context v section) (start_of v section) (body v section) ≡ Ok end) ×
    (section_end v section end ≡ Ok last))
    → (r : Request) (rest : List Request) → oldest d.world d.x d.world.requests ≡ Some (r, rest)
    → ((old : Session) → session_at d.world r.session ≡ Some old
    → after d.x (asked_section r.ask old) (start_of (subject d.system d.component) (asked_section r.ask old))
    (body (subject d.system d.component) (asked_section r.ask old)) [])
    → IsSafe (IsTypedBy promised after d.system) (accept d r rest)
accept_typed promised before after d carries sure takes h t at serves sections_there flows r rest e also =
    let asked = (oldest_found (IsAsked (links d.world)) d.world d.x d.world.requests (r, rest) e).first h.asked in
    let u = session_of_outline (session_at d.world r.session) asked.0 asked.1 in
    accept_safe promised before after d carries sure takes h t at serves sections_there flows r rest e u.0 u.1 (also u.0 u.1)
