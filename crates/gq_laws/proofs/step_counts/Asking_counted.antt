-- A statement that asks something of a session makes one of the requests that are left, and keeps worlds counted.
use Rattle.std.proofs.Common.{◌≡◌, ◌≢◌, ◌≤◌, ℕ, ◌+◌, ◌-◌, ◌==◌, ◌&&◌, ◌⊎◌, inl, inr, cond, Bool, true, false, List, Option, Some, Ok, refl, ap, sym, ◌∙◌, subst}
use Rattle.std.proofs.Common.{arith}
use Rattle.std.specs.Prelude.{slice_get}
use Rattle.std.proofs.lemmas.Bool.Decides.{eqb_tells}
use Rattle.gq_model.specs.declared.program.Instruction.{Instruction}
use Rattle.gq_model.specs.declared.section.Section.{Section}
use Rattle.gq_model.specs.declared.section.Section.TheVariants.{Main, Reacting}
use Rattle.gq_model.specs.declared.phase.Phase.TheVariants.{Blocked}
use Rattle.gq_model.specs.machine.Program.{Statements, Do}
use Rattle.gq_model.specs.machine.Sections.{same_section, is_own_section}
use Rattle.gq_model.specs.machine.Scenario.{System, Component}
use Rattle.gq_model.specs.machine.Routes.{server_of}
use Rattle.gq_model.specs.machine.World.{Session, Leaf, World, session_at, section_of}
use Rattle.gq_model.specs.machine.Doing.{Doing, Event}
use Rattle.gq_model.specs.machine.Step.{section_for, instruct, level_then}
use Rattle.gq_model.specs.rules.Kinds.{Kind, AbstractState, Context}
use Rattle.gq_model.specs.rules.Rules.{judged}
use Rattle.gq_model.specs.rules.Flow.{context}
use Rattle.gq_model.specs.rules.Budgets.{cost, is_one, asks}
use Rattle.gq_laws.specs.Current_section_facts.{counts_of, within, Continues}
use Rattle.gq_laws.specs.internal.Section_counts.{rounds_cost}
use Rattle.gq_model.specs.rules.Use.{subject, from_sections, provided_by, steps_of}
use Rattle.gq_laws.specs.Session_links.{outline, outline_in, IsLinkedWorld}
use Rattle.gq_laws.specs.internal.Remaining.{left_requests}
use Rattle.gq_laws.specs.Typed.{Meets}
use Rattle.gq_laws.specs.Inside_steps.{TakesLeaf, Grants}
use Rattle.gq_laws.specs.Asking.{promised_anew, IsServed, Awaits}
use Rattle.gq_laws.specs.Typing.{IsTypedBy}
use Rattle.gq_laws.specs.internal.Carrying.{Carries}
use Rattle.gq_laws.specs.internal.Section_counts.{Often, Requests, ahead, one_at, served_at, asks_at, waiting_in, waiting, made_for, Within, Since, Counts}
use Rattle.gq_laws.specs.internal.Section_counts.{IsCounted}
use Rattle.gq_model.proofs.Small_facts.{some_same}
use Rattle.gq_laws.proofs.remaining_work.Move_requests_left.{requests_does}
use Rattle.gq_laws.proofs.verified_programs.Sure_system_facts.{IsSure}
use Rattle.gq_laws.proofs.typed_worlds.Asked_worlds.{Asked, asks_asked}
use Rattle.gq_laws.proofs.typed_worlds.Typed_world_promises.{grants, reports_links}
use Rattle.gq_laws.proofs.typed_worlds.Typed_world_step.{Acts, with_rest, not_blocked, asked_typed}
use Rattle.gq_laws.proofs.step_counts.Section_request_sums.{section_self, made_one}
use Rattle.gq_model.proofs.Small_facts.{text_self}
use Rattle.gq_laws.proofs.step_counts.Counted_world_step.{then_served, waiting_else, waiting_last, none_own, Rises, Spends, spends_counted}
use Rattle.gq_laws.proofs.step_counts.Inside_step_counted.{all_left, IsOneOn, one_on, was_ahead}
use Rattle.gq_laws.proofs.step_counts.Service_request_count.{asks_one}
use Rattle.gq_model.proofs.Rules_laws.{same_section_is}

-- a leaf to which a route leads provides the service by that name
abbrev pub ProvidesNamed : System → Type 0
ProvidesNamed system =
    (x y : ℕ) (c d : Component) (service : List ℕ) → slice_get system.components x ≡ Some c → server_of system c service ≡ Some y
    → slice_get system.components y ≡ Some d → d.node.provides ≡ Some service

-- ONE SECTION

-- it is just this section of this leaf
one_or : (z : ℕ) (section : Section) (y : ℕ) (q : Section) → (one_at z section y q ≡ 0) ⊎ ((z ≡ y) × (q ≡ section) × (one_at z section y q ≡ 1))
one_or z section y q = elim (eqb_tells z y) [
  | inl e ↦ by (same_section q section) refl e.0 e.1
  | inr e ↦ inl (ap (λ b. cond (b && same_section q section) 1 0) e.0)
]
  where
    by : (b : Bool) → same_section q section ≡ b → (z == y) ≡ true → z ≡ y → (one_at z section y q ≡ 0) ⊎ ((z ≡ y) × (q ≡ section) × (one_at z section y q ≡ 1))
    by true e same is = inr (is, same_section_is q section e, (λ i. cond (same i && e i) 1 0))
    by false e same is = inl (λ i. cond (same i && e i) 1 0)

self_one : (service : List ℕ) (section : Section) → is_one service section service section ≡ 1
self_one service section = (λ i. cond (text_self service i && section_self section i) 1 0)

module _ (system : System) (z x : ℕ) (section : Section) (service : List ℕ) (c : Component) (at : slice_get system.components x ≡ Some c)
    (routed : server_of system c service ≡ Some z) (provides : provided_by (slice_get system.components z) ≡ Some service)
    (made : Requests) (one : made x service section ≡ 1) where
  -- what is asked for was made
  made_there : 1 ≤ made_for made system z section (provided_by (slice_get system.components z))
  made_there = subst (λ o. 1 ≤ made_for made system z section o) (sym provides)
      (let most = made_one system z section made service 0 x c system.components at routed in
      let is : made (0 + x) service section ≡ 1 = ap (λ n. made n service section) (omega arith) ∙ one in omega (arith, most, is))

  covers : (y : ℕ) (q : Section) → one_at z section y q ≤ made_for made system y q (provided_by (slice_get system.components y))
  covers y q =
      elim (one_or z section y q) [
        | inl e ↦ omega (arith, e)
        | inr e ↦ (
            let there : 1 ≤ made_for made system y q (provided_by (slice_get system.components y)) =
            subst (λ y. 1 ≤ made_for made system y q (provided_by (slice_get system.components y))) e.0
            (subst (λ q. 1 ≤ made_for made system z q (provided_by (slice_get system.components z))) (sym e.1) made_there) in
            let one = e.2 in
            omega (arith, there, one)
            )
      ]

-- ASKING

module _ (promised : ℕ → Option Kind) (left : Requests) (d : Doing) (sure : IsSure d.system) (named : ProvidesNamed d.system) (takes : TakesLeaf d)
    (h : IsLinkedWorld d.system d.world) (t : IsTypedBy promised (Within d.system left) d.system d.world)
    (at : slice_get d.system.components d.x ≡ Some d.component)
    (own : IsOneOn d takes) (w : World) (rises : Rises d.world w) (linked : IsLinkedWorld d.system w) (stepped : (leaf : Leaf)
    → slice_get w.leaves d.x ≡ Some leaf
    → leaf.steps ≡ d.leaf.steps) (a : Acts promised (Within d.system left) d)
    (i : Instruction) (rest : Statements) (first : d.leaf.todo ≡ Do i rest) (served : IsServed (with_rest d rest) i) (new : AbstractState)
    (judges : judged (within (context (subject d.system d.component) (section_of d.leaf.current d.leaf.reacting)) d.leaf.loops) a.state i ≡ Ok new)
    (goes_on : Continues (context (subject d.system d.component) (section_of d.leaf.current d.leaf.reacting)) new rest d.leaf.loops a.end) (event : Event)
    (is : instruct (with_rest d rest) i ≡ Ok (w, event))
    (awaits : Awaits promised (within (context (subject d.system d.component) (section_of d.leaf.current d.leaf.reacting)) d.leaf.loops) new i
    (with_rest d rest) w) where
  abbrev c : Context
  c = context (subject d.system d.component) (section_of d.leaf.current d.leaf.reacting)

  abbrev s : Session
  s = awaits.session

  taken : TakesLeaf (with_rest d rest)
  taken = record { old = takes.old; there = takes.there; slots = takes.slots; phase = takes.phase; current = takes.current; reacting = takes.reacting }

  active : d.leaf.phase ≢ Blocked
  active = not_blocked promised (Within d.system left) d sure takes h t at a.active

  asked : (r : Asked (with_rest d rest) i awaits.k s w) × (r.ask ≡ awaits.ask)
  asked = asks_asked promised (within c d.leaf.loops) (with_rest d rest) i new taken h active at w event is awaits

  r : Asked (with_rest d rest) i awaits.k s w
  r = asked.0

  -- the section that is asked for
  section : Section
  section = section_for r.ask (level_then r.ask s.level)

  -- SERVERS

  routed : server_of d.system d.component s.service ≡ Some s.server
  routed =
      let route = linked.routed awaits.k (outline s) (ap outline_in r.found) in
      let same : route.0 ≡ d.component = some_same (sym route.1 ∙ (ap (slice_get d.system.components) r.client ∙ at)) in
      subst (λ c. server_of d.system c s.service ≡ Some s.server) same route.2

  provides : provided_by (slice_get d.system.components s.server) ≡ Some s.service
  provides =
      let there = sure.server d.x s.server d.component s.service at routed in
      ap provided_by there.1 ∙ named d.x s.server d.component there.0 s.service at routed there.1

  -- REQUESTS

  further : Requests
  further y service q = cond (y == d.x) (is_one service q s.service section) 0

  further_else : (y : ℕ) → y ≢ d.x → (service : List ℕ) (q : Section) → further y service q ≡ 0
  unfolding further
  further_else y ne service q = elim (eqb_tells y d.x) [ inl e ↦ absurd (ne e.1) | inr e ↦ ap (λ b. cond b (is_one service q s.service section) 0) e.0 ]

  further_here : (y : ℕ) → y ≡ d.x → (service : List ℕ) (q : Section) → further y service q ≡ is_one service q s.service section
  unfolding further
  further_here y same service q = elim (eqb_tells y d.x) [ inl e ↦ ap (λ b. cond b (is_one service q s.service section) 0) e.0 | inr e ↦ absurd (e.1 same) ]

  left_then : Requests
  left_then y service q = left y service q - further y service q

  g : Grants promised (within c d.leaf.loops) (with_rest d rest)
  g =
      grants promised (Within d.system left) (with_rest d rest) sure h t (section_of d.leaf.current d.leaf.reacting) (counts_of d.leaf.loops) taken active at
      a.inputs

  meets : Meets promised (within c d.leaf.loops) a.state d.world (record d.leaf { todo = rest })
  meets = record {
    own = a.meets.own;
    current = a.meets.current;
    bank = a.meets.bank;
    operands = a.meets.operands;
    locals = a.meets.locals;
    loops =
        a.meets.loops;
  }

  -- the request is one of those that were left
  among : (service : List ℕ) (q : Section) → further d.x service q + left_requests service q c new rest d.leaf.loops ≤ left d.x service q
  unfolding section
  among service q =
      let one : asks service q (within c d.leaf.loops) a.state i ≡ is_one service q s.service section =
      asks_one promised (within c d.leaf.loops) (with_rest d rest) i a.state new taken
      (reports_links promised d.system d.world h t.reports) g meets judges awaits.k s w r service q in
      let here = further_here d.x refl service q in
      let does = requests_does service q c a.state new a.end i rest d.leaf.loops
      (subst (λ todo. Continues c a.state todo d.leaf.loops a.end) first a.goes_on) judges in
      let most : left_requests service q c a.state (Do i rest) d.leaf.loops ≤ left d.x service q =
      subst (λ todo. left_requests service q c a.state todo d.leaf.loops ≤ left d.x service q) first (a.also d.component at service q) in
      omega (arith, one, here, does, most)

  pays : (y : ℕ) (b : Component) → slice_get d.system.components y ≡ Some b → (service : List ℕ) (q : Section)
      → further y service q + left_then y service q ≤ left y service q + from_sections (λ q. 0) (subject d.system b) service q b.node.program.sections
  unfolding left_then
  pays y b placed service q =
      elim (eqb_tells y d.x) [
        | inl e ↦ (let most : further y service q + left_requests service q c new rest d.leaf.loops ≤ left y service q =
            subst (λ y. further y service q + left_requests service q c new rest d.leaf.loops ≤ left y service q) (sym e.1) (among service q) in
            omega (arith, most))
        | inr e ↦ (let none = further_else y e.1 service q in omega (arith, none))
      ]

  -- WORLDS

  waits : (y : ℕ) (q : Section) → waiting w y q + 0 ≡ waiting d.world y q + one_at s.server section y q
  unfolding section
  waits y q =
      let now : waiting w y q ≡ waiting_in w y q d.world.requests + one_at s.server section y q =
      ap (waiting_in w y q) r.requests ∙ (waiting_last w y q d.world.requests _ ∙ ap (λ o. waiting_in w y q d.world.requests + asks_of o) r.found) in
      let same = waiting_else d.world w awaits.k (λ j ne. ap served_at (r.sessions j ne)
      ∙ then_served r.q _ j (session_at d.world j)) d.world.requests r.free.no_request y q in
      omega (arith, now, same)
    where
      asks_of : Option Session → ℕ
      asks_of o = asks_at r.ask (served_at o) y q

  here : (leaf : Leaf) → awaits.leaf ≡ leaf → slice_get w.leaves d.x ≡ Some leaf
      → leaf.steps + ahead leaf leaf.phase ≤ takes.old.steps + ahead takes.old takes.old.phase
  here leaf same there =
      let steps = stepped leaf there in
      let now : ahead leaf leaf.phase ≡ cost rest + rounds_cost d.leaf.loops + 1 =
      ap (λ (l : Leaf). ahead l l.phase) (sym same) ∙ (ap (ahead awaits.leaf) awaits.phase
      ∙ (λ j. cost (awaits.todo j) + rounds_cost (awaits.loops j) + 1)) in
      let was = was_ahead d takes own a.active in
      let whole : all_left d.leaf ≡ 1 + cost rest + rounds_cost d.leaf.loops + 1 = ap (λ todo. cost todo + rounds_cost d.leaf.loops + 1) first in
      let one = one_on d takes own in
      omega (arith, steps, now, was, whole, one)

  leaves : (y : ℕ) (b : Component) (leaf : Leaf) → slice_get d.system.components y ≡ Some b → slice_get w.leaves y ≡ Some leaf
      → (old : Leaf) × (slice_get d.world.leaves y ≡ Some old)
      × (leaf.steps + ahead leaf leaf.phase ≤ old.steps + ahead old old.phase + steps_of (λ q. 0) b.node.program.sections)
  leaves y b leaf placed there =
      elim (eqb_tells y d.x) [
        | inl e ↦ (
            let now = ap (slice_get w.leaves) (sym e.1) ∙ there in
            (takes.old, ap (slice_get d.world.leaves) e.1 ∙ takes.there, (let most = here leaf (some_same (sym awaits.there ∙ now)) now in omega (arith, most)))
            )
        | inr e ↦ (leaf, sym (r.leaves y e.1) ∙ there, omega arith)
      ]

  not_own : (y : ℕ) (q : Section) → is_own_section q ≡ true → one_at s.server section y q ≡ 0
  unfolding section
  not_own y q own = none_own s.server r.ask (level_then r.ask s.level) y q own

  spends : Spends d.system d.world w left left_then
  spends =
      record {
        begun = λ y q. 0;
        more = one_at s.server section;
        further = further;
        waits = waits;
        no_main = λ y. not_own y Main refl;
        reacts = λ y i. (let none = not_own y (Reacting i) refl in let most = rises y i in omega (arith, none, most));
        covered = λ y q other. covers d.system s.server d.x section s.service d.component at routed provides further (further_here d.x refl s.service section
            ∙ self_one s.service section) y q;
        leaves = leaves;
        pays = pays;
      }

  carries : Carries d.x (Within d.system left) (Within d.system left_then)
  unfolding left_then
  carries y from state todo loops ne b e placed service q = let most = b e placed service q in let none = further_else y ne service q in
      omega (arith, most, none)

  within_left : Within d.system left_then d.x (section_of d.leaf.current d.leaf.reacting) new rest d.leaf.loops
  unfolding left_then
  within_left b placed service q =
      subst (λ b. left_requests service q (context (subject d.system b) (section_of d.leaf.current d.leaf.reacting)) new rest d.leaf.loops ≤ left_then d.x
      service q)
      (some_same (sym at ∙ placed))
      (let most = among service q in omega (arith, most))

  pub asked_counted : (since : Since) (done : Often) (made : Requests) → Counts since done made left d.system d.world → IsCounted since d.system w
  asked_counted since done made counts =
      spends_counted since done made left left_then d.system d.world w counts spends (promised_anew promised awaits.k awaits.kind)
      (asked_typed promised (Within d.system left) d sure takes h t at
      (Within d.system left_then) carries w a i rest served new judges goes_on event is awaits within_left)
