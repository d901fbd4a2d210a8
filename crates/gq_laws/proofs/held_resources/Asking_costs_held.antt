-- What sessions cost and were given stays within what they need where a leaf asks something of a session.
use Rattle.std.proofs.Common.{◌≡◌, ◌≢◌, ℕ, suc, ◌≤◌, ◌⊎◌, inl, inr, List, [], ◌∷◌, Option, Some, None, Ok, refl, ap, sym, ◌∙◌, subst, arith}
use Rattle.std.specs.Prelude.{slice_get, slice_set}
use Rattle.std.proofs.lemmas.Bool.Decides.{eqb_tells}
use Rattle.gq_model.specs.machine.Amounts.{Resource, Amount, amount, part, plus}
use Rattle.gq_model.specs.declared.program.Instruction.{Instruction}
use Rattle.gq_model.specs.declared.program.Instruction.TheVariants.{Open, Upgrade, Call, Close}
use Rattle.gq_model.specs.declared.phase.Phase.TheVariants.{Blocked}
use Rattle.gq_model.specs.machine.Program.{Statements}
use Rattle.gq_model.specs.machine.Scenario.{Interface, interface_in, upgrade_caps}
use Rattle.gq_model.specs.machine.World.{Link, Waiting, SlotId, In_session, Session, Ask, Current, Leaf, World, session_at, session_slot, slot_at, section_of}
use Rattle.gq_model.specs.machine.Doing.{Doing, Event, need}
use Rattle.gq_model.specs.machine.Step.{section_for, instruct, level_then}
use Rattle.gq_model.specs.machine.Requests.{new_session}
use Rattle.gq_model.specs.rules.Kinds.{Kind, AbstractState, Context, need_of}
use Rattle.gq_model.specs.rules.Rules.{judged}
use Rattle.gq_model.specs.rules.Flow.{context}
use Rattle.gq_model.specs.rules.Use.{subject}
use Rattle.gq_laws.specs.Current_section_facts.{counts_of, within, section_asked}
use Rattle.gq_model.specs.Promises.{EachOf}
use Rattle.gq_laws.specs.Shapes.{Each}
use Rattle.gq_laws.specs.Session_links.{Waits, named, naming_in, outline, outline_in, stance, links, IsLinkedWorld}
use Rattle.gq_laws.specs.internal.Lending.{given_by}
use Rattle.gq_laws.specs.Typed.{Meets}
use Rattle.gq_laws.specs.Inside_steps.{TakesLeaf, Grants}
use Rattle.gq_laws.specs.Asking.{promised_anew, ReportsLinks, IsAsk, Awaits}
use Rattle.gq_laws.specs.Typing.{IsTypedBy}
use Rattle.gq_laws.specs.internal.Verified_holdings.{IsBounded, bank_part, CostsWithin, GivesFor}
use Rattle.gq_model.proofs.Small_facts.{some_same}
use Rattle.gq_laws.proofs.session_links.Asked_request_changes.{each_map, each_end, none_of}
use Rattle.gq_laws.proofs.verified_programs.Sure_system_facts.{IsSure}
use Rattle.gq_laws.proofs.verified_programs.Kind_costs.{StaysOpen}
use Rattle.gq_laws.proofs.typed_worlds.Asked_worlds.{IsMine, Asked, asks_asked}
use Rattle.gq_laws.proofs.typed_worlds.Asked_rule_changes.{asked_here}
use Rattle.gq_laws.proofs.typed_worlds.Asked_stands.{mine_session}
use Rattle.gq_laws.proofs.typed_worlds.Typed_world_promises.{stood, grants, reports_links}
use Rattle.gq_laws.proofs.typed_worlds.Typed_world_step.{Acts, with_rest, not_blocked}
use Rattle.gq_laws.proofs.held_resources.Session_bank_cost.{each_of, bank_open, its_server, blocked_bounded}
use Rattle.gq_laws.proofs.held_resources.Session_cost_parts.{NoMoreGiven, slots_less, set_part, Then, then_parts, IsCovered, Gives, given_bare, costs_bare}
use Rattle.gq_laws.proofs.held_resources.Session_cost_parts.{WasSo}
use Rattle.gq_laws.proofs.held_resources.Less_held_sums.{then_gives}
use Rattle.gq_laws.proofs.held_resources.Session_cost_parts.{request_kept, AreHeld}
use Rattle.gq_laws.proofs.held_resources.Sufficient_request_gifts.{HowGiven, how_given, open_enough, upgrade_enough, next_given, more_given}

each_all : (resources : List Resource) (P : Resource → Type 0) → ((r : Resource) → P r) → EachOf resources P
each_all [] P h = tt
each_all (r ∷ rest) P h = (h r, each_all rest P h)

-- to open and to upgrade a session leave it open
abbrev IsMore : Instruction → Type 0
IsMore (Open place service n) = Unit {0}
IsMore (Upgrade place n) = Unit {0}
IsMore i = ⊥

more_open : (i : Instruction) (ask : Ask) (level : ℕ) → IsMore i → IsAsk i ask → StaysOpen (Some (section_for ask level))
more_open (Open place service n) ask level more is = subst (λ ask. StaysOpen (Some (section_for ask level))) (sym is) tt
more_open (Upgrade place n) ask level more is = subst (λ ask. StaysOpen (Some (section_for ask level))) (sym is) tt
more_open _ ask level more is = absurd more

-- a slot of a session that a leaf names is of the session current at it
mine_current : (x : ℕ) (current : Option Current) (q : SlotId) (j n : ℕ) → IsMine x current q → q ≡ In_session j n
    → (g : Current) × (current ≡ Some g) × (g.session ≡ j)
mine_current x None q j n m e = absurd (subst (IsMine x None) e m)
mine_current x (Some g) q j n m e = (g, refl, sym (subst (IsMine x (Some g)) e m))

module _ (promised anew : ℕ → Option Kind) (d : Doing) (sure : IsSure d.system) (takes : TakesLeaf d) (h : IsLinkedWorld d.system d.world)
    (at : slice_get d.system.components d.x ≡ Some d.component) (held : AreHeld d.system d.world)
    (c : Context) (state new : AbstractState) (reports : ReportsLinks promised d.world) (grant : Grants promised c d)
    (m : Meets promised c state d.world d.leaf)
    (w : World) (event : Event) (linked : IsLinkedWorld d.system w) (typed : IsTypedBy anew (IsBounded d.system) d.system w) (k : ℕ) (s : Session) where
  module _ (i : Instruction) (judges : judged c state i ≡ Ok new) (is : instruct d i ≡ Ok (w, event)) (a : Asked d i k s w)
      (phase : a.leaf.phase ≡ Blocked) where
    -- OTHER SESSIONS

    lends_else : (r : Resource) (j : ℕ) → j ≢ k → given_by r (session_at w j) ≡ given_by r (session_at d.world j)
    lends_else r j ne = ap (given_by r) (a.sessions j ne) ∙ then_gives r a.q (Waiting k) j (session_at d.world j)

    -- one in whose slots the leaf's is not has lent what it had
    free_part : (r : Resource) (j : ℕ) (u : Session) → session_at d.world j ≡ Some u → ((n : ℕ) → In_session j n ≢ a.q)
        → bank_part r w u ≤ bank_part r d.world u
    free_part r j u there apart =
        let lent = slots_less d.world w r u.slots (λ n slot e name names.
        let other = a.free.names (In_session j n) name (apart n) (ap naming_in (ap (λ o. session_slot o n) there ∙ e) ∙ names) in
        let same = lends_else r (named name) other in
        omega (arith, same)) in
        omega (arith, lent)

    else_then : (j : ℕ) (u : Session) → j ≢ k → session_at w j ≡ Some u → Then a.q (Waiting k) j (session_at d.world j) u
    else_then j u ne e = then_parts a.q (Waiting k) j (session_at d.world j) u (sym (a.sessions j ne) ∙ e)

    else_was : (j : ℕ) (u : Session) → j ≢ k → session_at w j ≡ Some u → WasSo d.world j u
    else_was j u ne e = let b = else_then j u ne e in (b.old, b.was, b.rest)

    -- the current session, where it is reported of its slot that it stays open
    waits_alone : IsMore i → (j : ℕ) (u : Session) → session_at w j ≡ Some u → (links w).slots u.slot_id ≡ Some (Waits j) → u.client ≡ d.x
        → StaysOpen (section_asked w j u)
    waits_alone more j u there waits client =
        let n = linked.named a.q (Waits k) (ap naming_in a.now) in
        let slot_id : s.slot_id ≡ a.q = ap (λ (s : Session). s.slot_id) (some_same (sym (ap outline_in a.found) ∙ n.1)) ∙ n.2 in
        let own : (links w).slots s.slot_id ≡ Some (Waits k) = ap (links w).slots slot_id ∙ ap naming_in a.now in
        let same : j ≡ k = linked.alone j k (outline u) (outline s) (ap outline_in there) (ap outline_in a.found) waits own (client ∙ sym a.client) in
        let session : u ≡ s = some_same (sym there ∙ (ap (session_at w) same ∙ a.found)) in
        let asked = (λ n. section_asked w (same n) (session n)) ∙ asked_here d takes i k s w a in
        subst StaysOpen (sym asked) (more_open i a.ask (level_then a.ask s.level) more a.is)

    more_costs : IsMore i → (g : Current) → d.leaf.current ≡ Some g → (u : Session) → session_at w g.session ≡ Some u
        → IsCovered d.system u (λ r. bank_part r w u)
    more_costs more g mine u there =
        let current = a.current ∙ mine in
        let server = its_server anew d.system sure w linked typed d.x d.component a.leaf at a.there g u current there in
        let opens = bank_open anew d.system sure w linked typed g.session u there
        (λ j v found waits client. waits_alone more j v found waits (client ∙ server)) in
        blocked_bounded anew d.system sure w linked typed d.x d.component a.leaf at a.there g u current there opens phase

    more_changed : IsMore i → (j : ℕ) (u : Session) → session_at w j ≡ Some u → (b : Then a.q (Waiting k) j (session_at d.world j) u) → (n : ℕ)
        → a.q ≡ In_session j n → CostsWithin d.system w u
    more_changed more j u e b n at_slot_id =
        let f = mine_current d.x d.leaf.current a.q j n a.mine at_slot_id in
        record { costs = more_costs more f.0 f.1 u (ap (session_at w) f.2 ∙ e); given = given_bare d.system b.old u b.rest (held.0 j b.old b.was).given }

    -- where the session that is asked stays as it was, a slot that waits for it has lent what a link to it has
    same_less : session_at d.world k ≡ Some s → NoMoreGiven d.world w
    same_less was r j =
        elim (eqb_tells j k) [
          | inl f ↦ (let same = ap (λ j. given_by r (session_at w j)) f.1
              ∙ (ap (given_by r) (a.found ∙ sym was) ∙ ap (λ j. given_by r (session_at d.world j)) (sym f.1)) in omega (arith, same))
          | inr f ↦ (let same = lends_else r j f.1 in omega (arith, same))
        ]

    same_changed : session_at d.world k ≡ Some s → slot_at d.world a.q ≡ Some (Link k) → (j : ℕ) (u : Session)
        → (b : Then a.q (Waiting k) j (session_at d.world j) u) → (n : ℕ) → a.q ≡ In_session j n
        → u ≡ record b.old { slots = slice_set b.old.slots n (Waiting k) } → CostsWithin d.system w u
    same_changed was link j u b n at_slot_id changed =
        let led : slice_get b.old.slots n ≡ Some (Link k) = sym (ap (λ o. session_slot o n) b.was) ∙ (ap (slot_at d.world) (sym at_slot_id) ∙ link) in
        let less : (r : Resource) → bank_part r w u ≤ bank_part r d.world b.old =
        λ r. subst (λ u. bank_part r w u ≤ bank_part r d.world b.old) (sym changed)
        (set_part d.world w r (same_less was) b.old n (Link k) (Waiting k) led (omega arith) (omega arith)) in
        costs_bare d.system b.old u b.rest d.world w less (held.0 j b.old b.was)

    else_costs : ((j : ℕ) (u : Session) → session_at w j ≡ Some u → (b : Then a.q (Waiting k) j (session_at d.world j) u) → (n : ℕ) → a.q ≡ In_session j n
        → u ≡ record b.old { slots = slice_set b.old.slots n (Waiting k) } → CostsWithin d.system w u)
        → (j : ℕ) (u : Session) → j ≢ k → session_at w j ≡ Some u → CostsWithin d.system w u
    else_costs changed j u ne e = by b.change
      where
        b : Then a.q (Waiting k) j (session_at d.world j) u
        b = else_then j u ne e

        by : ((u ≡ b.old) × ((n : ℕ) → In_session j n ≢ a.q))
            ⊎ ((n : ℕ) × (a.q ≡ In_session j n) × (u ≡ record b.old { slots = slice_set b.old.slots n (Waiting k) })) → CostsWithin d.system w u
        by (inl f) = costs_bare d.system b.old u b.rest d.world w
            (λ r. subst (λ u. bank_part r w u ≤ bank_part r d.world b.old) (sym f.0) (free_part r j b.old b.was f.1)) (held.0 j b.old b.was)
        by (inr f) = changed j u e b f.0 f.1 f.2

    -- THE SESSION THAT IS ASKED

    -- none of its own slots waits
    apart_own : (n : ℕ) → In_session k n ≢ a.q
    apart_own n = mine_session d.x d.leaf.current a.q a.mine k n
        (λ g e. a.free.no_current d.x d.leaf.phase g (stood d takes ∙ ap (λ o. Some (stance d.leaf.phase o)) e))

    own_costs : session_at d.world k ≡ Some s → CostsWithin d.system w s
    own_costs was = costs_bare d.system s s refl d.world w (λ r. free_part r k s was apart_own) (held.0 k s was)

    how : HowGiven d i w k
    how = how_given d w event k a.ask a.requests i a.ask a.is is

    -- WITH ENOUGH GIVEN FOR THE REQUEST

    module _ (changed : (j : ℕ) (u : Session) → session_at w j ≡ Some u → (b : Then a.q (Waiting k) j (session_at d.world j) u) → (n : ℕ) → a.q ≡ In_session j n
        → u ≡ record b.old { slots = slice_set b.old.slots n (Waiting k) } → CostsWithin d.system w u)
        (own : CostsWithin d.system w s) (enough : (i : Interface) → interface_in s.service d.system.interfaces ≡ Some i → GivesFor a.ask i s) where
      all_costs : (j : ℕ) (u : Session) → session_at w j ≡ Some u → CostsWithin d.system w u
      all_costs j u e =
          elim (eqb_tells j k) [
            | inl f ↦ subst (CostsWithin d.system w) (some_same (sym a.found ∙ (ap (session_at w) (sym f.1) ∙ e))) own
            | inr f ↦ else_costs changed j u f.1 e
          ]

      all_held : AreHeld d.system w
      all_held = (
        all_costs,
        subst (Each (Gives d.system w)) (sym a.requests)
            (each_end (Gives d.system w) d.world.requests (record { session = k; ask = a.ask })
            (each_map (λ q. Gives d.system d.world q × (q.session ≢ k)) (Gives d.system w)
            (λ q g. request_kept d.system d.world w q (λ u e. else_was q.session u g.1 e) g.0) d.world.requests
            (none_of (Gives d.system d.world) k d.world.requests a.free.no_request held.1))
            (λ u j there known. let same = some_same (sym a.found ∙ there) in
            subst (λ (u : Session). GivesFor a.ask j u) same
            (enough j (subst (λ (u : Session). interface_in u.service d.system.interfaces ≡ Some j) (sym same) known)))),
      )

  -- BY THE STATEMENT

  -- a new session has nothing yet
  new_part : (r : Resource) (x : ℕ) (q : SlotId) (server : ℕ) (service : List ℕ) (given : Amount) → bank_part r w (new_session x q server service given) ≡ 0
  new_part r x q server service given = refl

  new_costs : (x : ℕ) (q : SlotId) (server : ℕ) (service : List ℕ) (given : Amount)
      → IsCovered d.system (new_session x q server service given) (λ r. bank_part r w (new_session x q server service given))
  new_costs x q server service given j known = each_all j.counted _ (λ r. let none = new_part r x q server service given in omega (arith, none))

  asked_by : (i : Instruction) → judged c state i ≡ Ok new → instruct d i ≡ Ok (w, event) → (a : Asked d i k s w) → a.leaf.phase ≡ Blocked → AreHeld d.system w
  asked_by (Open place service n) judges is a phase =
      let i = Open place service n in
      let stands = a.was.5 in
      let given = how i judges is a phase in
      let own : CostsWithin d.system w s = record {
        costs = subst (λ (u : Session). IsCovered d.system u (λ r. bank_part r w u)) (sym stands) (new_costs d.x a.q a.was.0 service a.was.1);
        given = open_enough promised c d takes reports grant state new m place service n judges s (ap (λ (u : Session). u.service) stands)
            (ap (λ (u : Session). u.level) stands) (λ r. sym (ap (given_by r) a.found) ∙ given r);
      } in
      all_held i judges is a phase (λ j u e b n at_slot_id f. more_changed i judges is a phase tt j u e b n at_slot_id) own
      (λ j known. subst (λ ask. GivesFor ask j s) (sym a.is) tt)
  asked_by (Upgrade place n) judges is a phase =
      let i = Upgrade place n in
      let old : Session = a.was.0 in
      let stands : s ≡ record old { donation = a.was.1 } = a.was.4 in
      let how_much = how i judges is a phase in
      let same : how_much.0 ≡ old = some_same (sym how_much.1 ∙ a.was.2) in
      let more : Amount = amount n (upgrade_caps (interface_in old.service d.system.interfaces) old.level) in
      let donation : (r : Resource) → part r s.donation ≡ part r (plus old.donation more) =
      λ r. sym (ap (given_by r) a.found) ∙ (how_much.2 r ∙ ap
      (λ (u : Session). part r (plus u.donation (amount n (upgrade_caps (interface_in u.service d.system.interfaces) u.level)))) same) in
      let service : s.service ≡ old.service = ap (λ (u : Session). u.service) stands in
      let level : s.level ≡ old.level = ap (λ (u : Session). u.level) stands in
      let was = held.0 k old a.was.2 in
      let known_old : (j : Interface) → interface_in s.service d.system.interfaces ≡ Some j → interface_in old.service d.system.interfaces ≡ Some j =
      λ j known. ap (λ l. interface_in l d.system.interfaces) (sym service) ∙ known in
      let bank : (r : Resource) → bank_part r w (record old { donation = a.was.1 }) ≤ bank_part r d.world old =
      λ r. free_part i judges is a phase r k old a.was.2 (apart_own i judges is a phase) in
      let own : CostsWithin d.system w s = record {
        costs = subst (λ (u : Session). IsCovered d.system u (λ r. bank_part r w u)) (sym stands)
            (λ j known. each_of j.counted _ _ (λ r less. let b = bank r in omega (arith, less, b)) (was.costs j known));
        given = λ j known r.
            let need = was.given j (known_old j known) r in
            let more_of = more_given old.donation more r in
            let now = donation r in
            let at_level = ap (λ l. part r (need_of j l)) level in
            omega (arith, need, more_of, now, at_level);
      } in
      all_held i judges is a phase (λ j u e b n at_slot_id f. more_changed i judges is a phase tt j u e b n at_slot_id) own (λ j known.
      subst (λ ask. GivesFor ask j s) (sym a.is) (λ r.
      let known_then = known_old j known in
      let enough = upgrade_enough promised c d takes reports grant state new m place n judges a.q k old a.slot_id a.was.3 a.was.2 j known_then in
      let next = next_given j old.level old.donation more r (was.given j known_then r) enough in
      let now = donation r in
      let at_level = ap (λ l. part r (need_of j (suc l))) level in
      omega (arith, next, now, at_level)))
  asked_by (Call place) judges is a phase =
      let i = Call place in
      all_held i judges is a phase (λ j u e b n at_slot_id f. same_changed i judges is a phase a.was.0 a.was.1 j u b n at_slot_id f)
      (own_costs i judges is a phase a.was.0) (λ j known. subst (λ ask. GivesFor ask j s) (sym a.is.1) tt)
  asked_by (Close place) judges is a phase =
      let i = Close place in
      all_held i judges is a phase (λ j u e b n at_slot_id f. same_changed i judges is a phase a.was.0 a.was.1 j u b n at_slot_id f)
      (own_costs i judges is a phase a.was.0) (λ j known. subst (λ ask. GivesFor ask j s) (sym a.is) tt)
  asked_by _ judges is a phase = absurd a.was

-- THE STEP

module _ (promised : ℕ → Option Kind) (d : Doing) (sure : IsSure d.system) (takes : TakesLeaf d) (h : IsLinkedWorld d.system d.world)
    (t : IsTypedBy promised (IsBounded d.system) d.system d.world) (at : slice_get d.system.components d.x ≡ Some d.component)
    (held : AreHeld d.system d.world) (w : World) (linked : IsLinkedWorld d.system w) (a : Acts promised (IsBounded d.system) d) where
  pub asked_held : (i : Instruction) (rest : Statements) (new : AbstractState)
      → judged (within (context (subject d.system d.component) (section_of d.leaf.current d.leaf.reacting)) d.leaf.loops) a.state i ≡ Ok new → (event : Event)
      → instruct (with_rest d rest) i ≡ Ok (w, event)
      → (b : Awaits promised (within (context (subject d.system d.component) (section_of d.leaf.current d.leaf.reacting)) d.leaf.loops) new i
      (with_rest d rest) w)
      → IsTypedBy (promised_anew promised b.k b.kind) (IsBounded d.system) d.system w → AreHeld d.system w
  asked_held i rest new judges event is b typed =
      let c = within (context (subject d.system d.component) (section_of d.leaf.current d.leaf.reacting)) d.leaf.loops in
      let e = with_rest d rest in
      let active = not_blocked promised (IsBounded d.system) d sure takes h t at a.active in
      let taken : TakesLeaf e =
      record { old = takes.old; there = takes.there; slots = takes.slots; phase = takes.phase; current = takes.current; reacting = takes.reacting } in
      let meets : Meets promised c a.state d.world e.leaf =
      record { own = a.meets.own; current = a.meets.current; bank = a.meets.bank; operands = a.meets.operands; locals = a.meets.locals; loops = a.meets.loops }
      in
      let grant = grants promised (IsBounded d.system) e sure h t (section_of d.leaf.current d.leaf.reacting) (counts_of d.leaf.loops) taken active at a.inputs
      in
      let asked = (asks_asked promised c e i new taken h active at w event is b).0 in
      let phase = ap (λ (l : Leaf). l.phase) (some_same (sym asked.there ∙ b.there)) ∙ b.phase in
      asked_by promised (promised_anew promised b.k b.kind) e sure taken h at held c a.state new
      (reports_links promised d.system d.world h t.reports) grant meets w event linked typed b.k b.session i judges is asked phase
