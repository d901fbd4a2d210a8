-- A world in which a leaf has taken up a request is typed, if it was before.
use Rattle.std.proofs.Common.{◌≡◌, ◌≢◌, ◌≤◌, ℕ, inl, inr, cond, List, length, Option, Some, None, Ok, refl, ap, sym, ◌∙◌, subst, []}
use Rattle.std.specs.Prelude.{slice_get}
use Rattle.std.proofs.lemmas.Bool.Decides.{eqb_tells}
use Rattle.gq_model.specs.machine.Lists.{or_first}
use Rattle.gq_model.specs.declared.section.Section.{Section}
use Rattle.gq_model.specs.machine.Program.{Statements, section_in}
use Rattle.gq_model.specs.machine.Scenario.{Interface, Component, interface_in, number_of}
use Rattle.gq_model.specs.machine.World.{Session, Request, Current, Leaf, World, session_at, section_of}
use Rattle.gq_model.specs.machine.Doing.{Doing}
use Rattle.gq_model.specs.rules.Kinds.{Kind, AbstractState, Context, Subject}
use Rattle.gq_model.specs.rules.Flow.{flow, context, body, start_of}
use Rattle.gq_model.specs.rules.Use.{subject}
use Rattle.gq_laws.specs.Current_section_facts.{section_waiting, section_if, current_section, section_asked, kind_replied, within, Continues}
use Rattle.gq_laws.specs.Shapes.{Each}
use Rattle.gq_laws.specs.Session_links.{stance_in, stance, outline, outline_in, links, IsLinkedWorld}
use Rattle.gq_laws.specs.Typed.{CurrentMeets, Meets}
use Rattle.gq_laws.specs.Inside_steps.{TakesLeaf}
use Rattle.gq_laws.specs.Section_rules.{Begins}
use Rattle.gq_laws.specs.Reply_stances.{once_replied}
use Rattle.gq_laws.specs.Typing.{Extra, kind_then, IsAwaited, StandsBy, FitsService, FitsRequest, IsTypedBy}
use Rattle.gq_laws.specs.internal.Carrying.{Carries}
use Rattle.gq_model.proofs.Small_facts.{some_same, none_some}
use Rattle.gq_laws.proofs.session_links.Asked_request_changes.{each_map}
use Rattle.gq_laws.proofs.typed_worlds.Promised_stance_transfer.{if_here, stands_else}
use Rattle.gq_laws.proofs.typed_worlds.Inside_step_typed.{stands_active}

-- the oldest request to a leaf with no current request is of this session, whose first it is, and of other sessions the same requests are left
pub record IsNext (d : Doing) (takes : TakesLeaf d) (k : ℕ) (section : Section) (old : Session) (rest : List Request) : Type 0 where
  pub was : session_at d.world k ≡ Some old
  pub at : slice_get d.system.components d.x ≡ Some d.component
  pub server : old.server ≡ d.x
  pub free : takes.old.current ≡ None
  pub first : section_waiting k old d.world.requests ≡ Some section
  pub none : (s : Session) → section_waiting k s rest ≡ None
  pub left : (j : ℕ) (s : Session) → j ≢ k → section_waiting j s rest ≡ section_waiting j s d.world.requests
  pub fits : Each (λ r. FitsRequest d.system d.world r × (r.session ≢ k)) rest

-- the leaf is at the start of the section, with the current session, whose client, server and service stay; all others are left alone
pub record HasTaken (promised : ℕ → Option Kind) (d : Doing) (r : Request) (section : Section) (old new : Session) (rest : List Request)
    (w : World) : Type 0 where
  pub begins : Begins promised (subject d.system d.component) section d r w
  pub leaves : (y : ℕ) → y ≢ d.x → slice_get w.leaves y ≡ slice_get d.world.leaves y
  pub requests : w.requests ≡ rest
  pub session : session_at w r.session ≡ Some new
  pub sessions : (j : ℕ) → j ≢ r.session → session_at w j ≡ session_at d.world j
  pub client : new.client ≡ old.client
  pub server : new.server ≡ old.server
  pub service : new.service ≡ old.service
  pub kind : kind_replied section new ≡ kind_replied section old
  -- the level is one that the service has
  pub level : (i : Interface) → interface_in old.service d.system.interfaces ≡ Some i → new.level ≤ length i.upgrades

-- what is the same of a session in both worlds
record CarriesOn (v w : World) (k : ℕ) (old new : Session) : Type 0 where
  client : new.client ≡ old.client
  service : new.service ≡ old.service
  asked : section_asked w k new ≡ section_asked v k old
  kind : kind_then new (section_asked w k new) ≡ kind_then old (section_asked v k old)

if_else : (k : ℕ) (current : Current) → current.session ≢ k → section_if k (Some current) ≡ None
if_else k current ne = elim (eqb_tells current.session k) [ inl f ↦ absurd (ne f.1) | inr f ↦ ap (λ b. cond b (Some current.section) None) f.0 ]

module _ (promised : ℕ → Option Kind) (before : Extra) (d : Doing) (takes : TakesLeaf d) (h : IsLinkedWorld d.system d.world)
    (t : IsTypedBy promised before d.system d.world) (r : Request) (section : Section) (old new : Session) (rest : List Request)
    (n : IsNext d takes r.session section old rest) (w : World) (a : HasTaken promised d r section old new rest w) where
  abbrev k : ℕ
  k = r.session

  abbrev v : Subject
  v = subject d.system d.component

  current_now : (j : ℕ) → current_section j (slice_get w.leaves d.x) ≡ section_if j (Some (record { session = k; section = section }))
  current_now j = ap (current_section j) a.begins.there ∙ ap (section_if j) a.begins.current

  current_then : (j : ℕ) → current_section j (slice_get d.world.leaves d.x) ≡ None
  current_then j = ap (current_section j) takes.there ∙ ap (section_if j) n.free

  -- another session is current where it was
  current_same : (j y : ℕ) → j ≢ k → current_section j (slice_get w.leaves y) ≡ current_section j (slice_get d.world.leaves y)
  current_same j y ne =
      elim (eqb_tells y d.x) [
        | inl f ↦ (ap (λ y. current_section j (slice_get w.leaves y)) f.1
            ∙ (current_now j ∙ (if_else j (record { session = k; section = section }) (λ e. ne (sym e))
            ∙ (sym (current_then j) ∙ ap (λ y. current_section j (slice_get d.world.leaves y)) (sym f.1)))))
        | inr f ↦ ap (current_section j) (a.leaves y f.1)
      ]

  asked_else : (j : ℕ) (s : Session) → j ≢ k → section_asked w j s ≡ section_asked d.world j s
  asked_else j s ne =
      ap (λ o. or_first o (current_section j (slice_get w.leaves s.server))) (ap (section_waiting j s) a.requests ∙ n.left j s ne)
      ∙ ap (or_first (section_waiting j s d.world.requests)) (current_same j s.server ne)

  -- its own section was asked for first, and is current now
  asked_then : section_asked d.world k old ≡ Some section
  asked_then = ap (λ o. or_first o (current_section k (slice_get d.world.leaves old.server))) n.first

  current_own : current_section k (slice_get w.leaves new.server) ≡ Some section
  current_own = ap (λ y. current_section k (slice_get w.leaves y)) (a.server ∙ n.server) ∙ (current_now k ∙ if_same)
    where
      if_same : section_if k (Some (record { session = k; section = section })) ≡ Some section
      if_same = elim (eqb_tells k k) [ inl f ↦ if_here k (record { session = k; section = section }) f.0 | inr f ↦ absurd (f.1 refl) ]

  asked_now : section_asked w k new ≡ Some section
  asked_now = ap (λ o. or_first o (current_section k (slice_get w.leaves new.server))) (ap (section_waiting k new) a.requests ∙ n.none new) ∙ current_own

  carries_own : CarriesOn d.world w k old new
  carries_own =
      record {
        client = a.client;
        service = a.service;
        asked = asked_now ∙ sym asked_then;
        kind = ap (kind_then new) asked_now ∙ (a.kind ∙ sym (ap (kind_then old) asked_then));
      }

  carries_else : (j : ℕ) (s : Session) → j ≢ k → CarriesOn d.world w j s s
  carries_else j s ne = record { client = refl; service = refl; asked = asked_else j s ne; kind = ap (kind_then s) (asked_else j s ne) }

  -- a session that is there was there
  session_back : (j : ℕ) (s : Session) → session_at w j ≡ Some s → (before : Session) × (session_at d.world j ≡ Some before) × CarriesOn d.world w j before s
  session_back j s there =
      elim (eqb_tells j k) [
        | inl f ↦ (
          old,
          ap (session_at d.world) f.1 ∙ n.was,
          subst (λ u. CarriesOn d.world w j old u) (some_same (sym a.session ∙ (ap (session_at w) (sym f.1) ∙ there)))
              (subst (λ j. CarriesOn d.world w j old new) (sym f.1) carries_own),
        )
        | inr f ↦ (s, sym (a.sessions j f.1) ∙ there, carries_else j s f.1)
      ]

  session_on : (j : ℕ) (before : Session) → session_at d.world j ≡ Some before → (s : Session) × (session_at w j ≡ Some s) × CarriesOn d.world w j before s
  session_on j before there =
      elim (eqb_tells j k) [
        | inl f ↦ (
          new,
          ap (session_at w) f.1 ∙ a.session,
          subst (λ u. CarriesOn d.world w j u new) (some_same (sym n.was ∙ (ap (session_at d.world) (sym f.1) ∙ there)))
              (subst (λ j. CarriesOn d.world w j old new) (sym f.1) carries_own),
        )
        | inr f ↦ (before, a.sessions j f.1 ∙ there, carries_else j before f.1)
      ]

  reported : (j : ℕ) (s : Session) → session_at w j ≡ Some s → promised j ≡ Some (kind_then s (section_asked w j s))
  reported j s there = let b = session_back j s there in t.reports j b.0 b.1 ∙ ap Some (sym b.2.kind)

  -- LEAVES

  awaited : (y : ℕ) (state next : AbstractState) → IsAwaited d.system d.world y state next → IsAwaited d.system w y state next
  awaited y state next u =
      let f = session_on u.k u.session u.there in
      record {
        k = u.k;
        session = f.0;
        section = u.section;
        there = f.1;
        client = f.2.client ∙ u.client;
        asked = f.2.asked ∙ u.asked;
        is = subst (λ service. next ≡ once_replied (number_of (interface_in service d.system.interfaces) (λ i. i.reply)) u.section state)
            (sym f.2.service) u.is;
      }

  -- what is current at another leaf is another session
  other_current : (y : ℕ) (leaf : Leaf) → y ≢ d.x → slice_get d.world.leaves y ≡ Some leaf → (g : Current) → leaf.current ≡ Some g → g.session ≢ k
  other_current y leaf ne there g is same =
      let f = h.handles y leaf.phase g (ap stance_in there ∙ ap (λ o. Some (stance leaf.phase o)) is) in
      let u : f.0 ≡ outline old = some_same (sym f.1 ∙ (ap (links d.world).sessions same ∙ ap outline_in n.was)) in
      ne (sym f.2 ∙ (ap (λ (s : Session). s.server) u ∙ n.server))

  other_bank : (c : Context) (kinds : List Kind) (current : Option Current) → ((g : Current) → current ≡ Some g → g.session ≢ k)
      → CurrentMeets promised c kinds d.world current
      → CurrentMeets promised c kinds w current
  other_bank c kinds None ne m = tt
  other_bank c kinds (Some g) ne m = (m.0, a.sessions g.session (ne g refl) ∙ m.1, m.2)

  other_meets : (y : ℕ) (leaf : Leaf) → y ≢ d.x → slice_get d.world.leaves y ≡ Some leaf → (c : Context) (state : AbstractState) → Meets promised c state
      d.world leaf
      → Meets promised c state w leaf
  other_meets y leaf ne there c state m =
      record {
        own = m.own;
        current = m.current;
        bank = other_bank c state.bank leaf.current (other_current y leaf ne there) m.bank;
        operands = m.operands;
        locals = m.locals;
        loops = m.loops;
      }

  module _ (after : Extra) (carries : Carries d.x before after) (also : after d.x section (start_of v section) (body v section) []) (end : AbstractState)
      (whole : flow (context v section) (start_of v section) (body v section) ≡ Ok end) (listed : (list : Statements)
      × (section_in section d.component.node.program.sections ≡ Some list)) where
    its : StandsBy promised after d.system w d.x d.component a.begins.leaf a.begins.leaf.phase
    its =
        let leaf = a.begins.leaf in
        let same : section ≡ section_of leaf.current leaf.reacting = ap (λ o. section_of o leaf.reacting) (sym a.begins.current) in
        stands_active promised after d.system d.x d.component w leaf leaf.phase (inr a.begins.phase) (start_of v section) end
        (subst (λ s. Meets promised (within (context v s) leaf.loops) (start_of v section) w leaf) same
        (subst (λ l. Meets promised (within (context v section) l) (start_of v section) w leaf) (sym a.begins.loops) a.begins.meets))
        (subst (λ s. Continues (context v s) (start_of v section) leaf.todo leaf.loops end) same
        (subst (λ l. Continues (context v section) (start_of v section) leaf.todo l end) (sym a.begins.loops)
        (end, ap (flow (context v section) (start_of v section)) a.begins.todo ∙ whole, refl)))
        (subst (λ s. flow (context v s) (start_of v s) (body v s) ≡ Ok end) same whole)
        (subst (λ s. (list : Statements) × (section_in s d.component.node.program.sections ≡ Some list)) same listed)
        (subst (λ s. after d.x s (start_of v section) leaf.todo leaf.loops) same
        (subst (λ o. after d.x section (start_of v section) o leaf.loops) (sym a.begins.todo)
        (subst (λ o. after d.x section (start_of v section) (body v section) o) (sym a.begins.loops) also)))

    leaf_stands : (y : ℕ) (c : Component) (leaf : Leaf) → slice_get d.system.components y ≡ Some c → slice_get w.leaves y ≡ Some leaf
        → StandsBy promised after d.system w y c leaf leaf.phase
    leaf_stands y c leaf placed there = elim (eqb_tells y d.x) [ inl f ↦ here f.1 | inr f ↦ else f.1 ]
      where
        here : y ≡ d.x → StandsBy promised after d.system w y c leaf leaf.phase
        here e =
            let component : c ≡ d.component = some_same (sym placed ∙ (ap (slice_get d.system.components) e ∙ n.at)) in
            let same : leaf ≡ a.begins.leaf = some_same (sym there ∙ (ap (slice_get w.leaves) e ∙ a.begins.there)) in
            subst (λ y. StandsBy promised after d.system w y c leaf leaf.phase) (sym e)
            (subst (λ c. StandsBy promised after d.system w d.x c leaf leaf.phase) (sym component)
            (subst (λ l. StandsBy promised after d.system w d.x d.component l l.phase) (sym same) its))

        else : y ≢ d.x → StandsBy promised after d.system w y c leaf leaf.phase
        else ne =
            let was = sym (a.leaves y ne) ∙ there in
            stands_else promised promised before after d.system d.world w y c leaf (other_meets y leaf ne was) (λ ks m. m) (awaited y)
            (λ section state todo loops. carries y section state todo loops ne) leaf.phase (t.leaves y c leaf placed was)

    -- SESSIONS

    own_fits : FitsService promised d.system w k new
    own_fits =
        let f = t.sessions k old n.was in
        record {
          interface = f.interface;
          known = ap (λ service. interface_in service d.system.interfaces) a.service ∙ f.known;
          level = a.level f.interface f.known;
          rests = λ server placed none. absurd (none_some (sym none ∙ current_own));
        }

    else_fits : (j : ℕ) (s : Session) → j ≢ k → session_at d.world j ≡ Some s → FitsService promised d.system w j s
    else_fits j s ne there =
        let f = t.sessions j s there in
        record {
          interface = f.interface;
          known = f.known;
          level = f.level;
          rests = λ server placed none. f.rests server placed (sym (current_same j s.server ne) ∙ none);
        }

    session_fits : (j : ℕ) (s : Session) → session_at w j ≡ Some s → FitsService promised d.system w j s
    session_fits j s there =
        elim (eqb_tells j k) [
          | inl f ↦ subst (λ j. FitsService promised d.system w j s) (sym f.1)
              (subst (FitsService promised d.system w k) (some_same (sym a.session ∙ (ap (session_at w) (sym f.1) ∙ there))) own_fits)
          | inr f ↦ else_fits j s f.1 (sym (a.sessions j f.1) ∙ there)
        ]

    request_fits : (q : Request) → FitsRequest d.system d.world q × (q.session ≢ k) → FitsRequest d.system w q
    request_fits q f s there = f.0 s (sym (a.sessions q.session f.1) ∙ there)

    pub taken_typed : IsTypedBy promised after d.system w
    taken_typed =
        record {
          reports = reported;
          leaves = leaf_stands;
          sessions = session_fits;
          requests = subst (λ rs. Each (FitsRequest d.system w) rs) (sym a.requests)
              (each_map (λ r. FitsRequest d.system d.world r × (r.session ≢ k)) (FitsRequest d.system w) request_fits rest n.fits);
        }
