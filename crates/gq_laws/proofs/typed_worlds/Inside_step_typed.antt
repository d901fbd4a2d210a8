-- A step inside a section that asks nothing of a session keeps worlds typed.
use Rattle.std.proofs.Common.{◌≡◌, ◌≢◌, ◌≤◌, ◌⊎◌, ℕ, inl, inr, true, length, Option, Some, None, Ok, refl, ap, sym, ◌∙◌, subst}
use Rattle.std.specs.Prelude.{slice_get}
use Rattle.std.proofs.lemmas.Bool.Decides.{eqb_tells}
use Rattle.gq_model.specs.declared.program.Form.TheVariants.{Slice}
use Rattle.gq_model.specs.declared.phase.Phase.{Phase}
use Rattle.gq_model.specs.declared.phase.Phase.TheVariants.{Running, Blocked, Handling}
use Rattle.gq_model.specs.machine.Program.{Statements, section_in}
use Rattle.gq_model.specs.machine.Scenario.{System, Component, interface_in, number_of}
use Rattle.gq_model.specs.machine.World.{Session, Request, Current, Leaf, World, session_at, section_of}
use Rattle.gq_model.specs.machine.Doing.{Doing}
use Rattle.gq_model.specs.machine.Step.{section_for, level_then}
use Rattle.gq_model.specs.rules.Kinds.{Kind, Memory, AbstractState}
use Rattle.gq_model.specs.rules.Flow.{flow, context, body, start_of}
use Rattle.gq_model.specs.rules.Use.{subject}
use Rattle.gq_model.specs.rules.Verdict.{is_wanted}
use Rattle.gq_laws.specs.Current_section_facts.{section_if, current_section, section_asked, within, Continues, bank_kinds}
use Rattle.gq_laws.specs.Session_links.{stance_in, stance, outline_in, links, IsLinkedWorld}
use Rattle.gq_laws.specs.Typed.{AreKinds, Meets}
use Rattle.gq_laws.specs.Inside_steps.{TakesLeaf, LeadsOn, bare, IsElse, KeepsSession, KeepsSessionIn, LeavesOthers}
use Rattle.gq_laws.specs.Asking.{IsWithin}
use Rattle.gq_laws.specs.Shapes.{Each}
use Rattle.gq_laws.specs.Reply_stances.{once_replied}
use Rattle.gq_laws.specs.Typing.{Extra, kind_then, IsAwaited, StandsBy, FitsService, FitsRequest, IsTypedBy}
use Rattle.gq_laws.specs.internal.Carrying.{Carries}
use Rattle.gq_model.proofs.Small_facts.{some_same, none_some}
use Rattle.gq_laws.proofs.session_links.Asked_request_changes.{each_map}
use Rattle.gq_laws.proofs.statement_rules.Statement_leaves_others.{stays_kind, stay_kinds}
use Rattle.gq_laws.proofs.statement_rules.Stance_frame.{stand_else}
use Rattle.gq_laws.proofs.typed_worlds.Promised_stance_transfer.{kind_same, asked_same, if_here, stands_else}
use Rattle.gq_laws.proofs.typed_worlds.Typed_world_promises.{stood}
use Rattle.gq_laws.proofs.step_shapes.Step_end_worlds.{running_blocked, handling_blocked}

-- a leaf that takes a step
abbrev pub IsActive : Phase → Type 0
IsActive phase = (phase ≡ Running) ⊎ (phase ≡ Handling)

pub active_awake : (phase : Phase) → IsActive phase → phase ≢ Blocked
active_awake phase (inl e) f = running_blocked (sym e ∙ f)
active_awake phase (inr e) f = handling_blocked (sym e ∙ f)

-- it stands where a section current at it, or `main`, has come to
pub stands_active : (promised : ℕ → Option Kind) (extra : Extra) (system : System) (x : ℕ) (c : Component) (w : World) (leaf : Leaf) (phase : Phase)
    → IsActive phase → (state end : AbstractState)
    → Meets promised (within (context (subject system c) (section_of leaf.current leaf.reacting)) leaf.loops) state w leaf
    → Continues (context (subject system c) (section_of leaf.current leaf.reacting)) state leaf.todo leaf.loops end
    → flow (context (subject system c) (section_of leaf.current leaf.reacting)) (start_of (subject system c) (section_of leaf.current leaf.reacting))
    (body (subject system c) (section_of leaf.current leaf.reacting)) ≡ Ok end
    → (list : Statements) × (section_in (section_of leaf.current leaf.reacting) c.node.program.sections ≡ Some list)
    → extra x (section_of leaf.current leaf.reacting) state leaf.todo leaf.loops
    → StandsBy promised extra system w x c leaf phase
stands_active promised extra system x c w leaf phase (inl e) state end meets goes_on whole listed also =
    subst (StandsBy promised extra system w x c leaf) (sym e)
    (record { state = state; next = state; end = end; meets = meets; from = refl; goes_on = goes_on; whole = whole; listed = listed; also = also })
stands_active promised extra system x c w leaf phase (inr e) state end meets goes_on whole listed also =
    subst (StandsBy promised extra system w x c leaf) (sym e)
    (record { state = state; next = state; end = end; meets = meets; from = refl; goes_on = goes_on; whole = whole; listed = listed; also = also })

-- what is current at another leaf is another session
pub current_else : (d : Doing) → TakesLeaf d → IsLinkedWorld d.system d.world → (y : ℕ) (leaf : Leaf) → y ≢ d.x → slice_get d.world.leaves y ≡ Some leaf
    → (g : Current)
    → leaf.current ≡ Some g → (o : Option Current) → d.leaf.current ≡ o → IsElse g.session o
current_else d takes h y leaf ne there g at None mine = tt
current_else d takes h y leaf ne there g at (Some b) mine =
    λ same.
    let f = h.handles y leaf.phase g (ap stance_in there ∙ ap (λ o. Some (stance leaf.phase o)) at) in
    let m = h.handles d.x d.leaf.phase b (stood d takes ∙ ap (λ o. Some (stance d.leaf.phase o)) mine) in
    ne (sym f.2 ∙ (ap (λ (s : Session). s.server) (some_same (sym f.1 ∙ (ap (links d.world).sessions (sym same) ∙ m.1))) ∙ m.2))

-- a session that is there was there
pub session_back : (d : Doing) (w : World) → LeavesOthers d w → (k : ℕ) (s : Session) → session_at w k ≡ Some s
    → (old : Session) × (session_at d.world k ≡ Some old) × KeepsSession d.leaf.current k old s
session_back d w others k s there = by (session_at d.world k) refl (subst (KeepsSessionIn d.leaf.current k (session_at d.world k)) there (others.sessions k))
  where
    by : (o : Option Session) → session_at d.world k ≡ o → KeepsSessionIn d.leaf.current k o (Some s)
        → (old : Session) × (session_at d.world k ≡ Some old) × KeepsSession d.leaf.current k old s
    by None e f = absurd (none_some (sym f))
    by (Some old) e f = (old, e, subst (KeepsSession d.leaf.current k old) (sym (some_same f.1)) f.2)

module _ (promised : ℕ → Option Kind) (before after : Extra) (d : Doing) (carries : Carries d.x before after) (takes : TakesLeaf d)
    (h : IsLinkedWorld d.system d.world) (t : IsTypedBy promised before d.system d.world) (at : slice_get d.system.components d.x ≡ Some d.component)
    (active : IsActive d.leaf.phase)
    (w : World) (others : LeavesOthers d w) (old end : AbstractState)
    (leads : LeadsOn promised (context (subject d.system d.component) (section_of d.leaf.current d.leaf.reacting)) old end d w)
    (whole : flow (context (subject d.system d.component) (section_of d.leaf.current d.leaf.reacting))
    (start_of (subject d.system d.component) (section_of d.leaf.current d.leaf.reacting))
    (body (subject d.system d.component) (section_of d.leaf.current d.leaf.reacting)) ≡ Ok end)
    (listed : (list : Statements) × (section_in (section_of d.leaf.current d.leaf.reacting) d.component.node.program.sections ≡ Some list))
    (also : after d.x (section_of d.leaf.current d.leaf.reacting) leads.state leads.leaf.todo leads.leaf.loops) where
  current_same : (k y : ℕ) → current_section k (slice_get w.leaves y) ≡ current_section k (slice_get d.world.leaves y)
  current_same k y =
      elim (eqb_tells y d.x) [
        | inl f ↦ (ap (λ y. current_section k (slice_get w.leaves y)) f.1
            ∙ (ap (current_section k) leads.there ∙ (ap (section_if k) (leads.current ∙ takes.current)
            ∙ (sym (ap (current_section k) takes.there) ∙ ap (λ y. current_section k (slice_get d.world.leaves y)) (sym f.1)))))
        | inr f ↦ ap (current_section k) (others.leaves y f.1)
      ]

  session_on : (k : ℕ) (old : Session) → session_at d.world k ≡ Some old → (s : Session) × (session_at w k ≡ Some s) × KeepsSession d.leaf.current k old s
  session_on k old there = subst (λ o. KeepsSessionIn d.leaf.current k o (session_at w k)) there (others.sessions k)

  asked : (k : ℕ) (old s : Session) → bare s ≡ bare old → section_asked w k s ≡ section_asked d.world k old
  asked k old s e = asked_same d.world w k old s (ap (λ u. u.level) e) (ap (λ u. u.server) e) others.requests (current_same k old.server)

  reported : (k : ℕ) (s : Session) → session_at w k ≡ Some s → promised k ≡ Some (kind_then s (section_asked w k s))
  reported k s there =
      let f = session_back d w others k s there in
      t.reports k f.0 f.1 ∙ ap Some (sym (ap (kind_then s) (asked k f.0 s f.2.rest) ∙ kind_same (section_asked d.world k f.0) f.0 s f.2.rest))

  awaited : (y : ℕ) (state next : AbstractState) → IsAwaited d.system d.world y state next → IsAwaited d.system w y state next
  awaited y state next a =
      let f = session_on a.k a.session a.there in
      record {
        k = a.k;
        session = f.0;
        section = a.section;
        there = f.1;
        client = ap (λ u. u.client) f.2.rest ∙ a.client;
        asked = asked a.k a.session f.0 f.2.rest ∙ a.asked;
        is = subst (λ u. next ≡ once_replied (number_of (interface_in u.service d.system.interfaces) (λ i. i.reply)) a.section state) (sym f.2.rest) a.is;
      }

  leaf_stands : (y : ℕ) (c : Component) (leaf : Leaf) → slice_get d.system.components y ≡ Some c → slice_get w.leaves y ≡ Some leaf
      → StandsBy promised after d.system w y c leaf leaf.phase
  leaf_stands y c leaf placed there = elim (eqb_tells y d.x) [ inl f ↦ here f.1 | inr f ↦ else f.1 ]
    where
      its : StandsBy promised after d.system w d.x d.component leads.leaf leads.leaf.phase
      its =
          let v = subject d.system d.component in
          let same : section_of leads.leaf.current leads.leaf.reacting ≡ section_of d.leaf.current d.leaf.reacting =
          (λ i. section_of (leads.current i) (leads.reacting i)) in
          stands_active promised after d.system d.x d.component w leads.leaf leads.leaf.phase (subst IsActive (sym leads.phase) active) leads.state end
          (subst (λ s. Meets promised (within (context v s) leads.leaf.loops) leads.state w leads.leaf) (sym same) leads.meets)
          (subst (λ s. Continues (context v s) leads.state leads.leaf.todo leads.leaf.loops end) (sym same) leads.goes_on)
          (subst (λ s. flow (context v s) (start_of v s) (body v s) ≡ Ok end) (sym same) whole)
          (subst (λ s. (list : Statements) × (section_in s d.component.node.program.sections ≡ Some list)) (sym same) listed)
          (subst (λ s. after d.x s leads.state leads.leaf.todo leads.leaf.loops) (sym same) also)

      here : y ≡ d.x → StandsBy promised after d.system w y c leaf leaf.phase
      here e =
          let component : c ≡ d.component = some_same (sym placed ∙ (ap (slice_get d.system.components) e ∙ at)) in
          let same : leaf ≡ leads.leaf = some_same (sym there ∙ (ap (slice_get w.leaves) e ∙ leads.there)) in
          subst (λ y. StandsBy promised after d.system w y c leaf leaf.phase) (sym e)
          (subst (λ c. StandsBy promised after d.system w d.x c leaf leaf.phase) (sym component)
          (subst (λ l. StandsBy promised after d.system w d.x d.component l l.phase) (sym same) its))

      else : y ≢ d.x → StandsBy promised after d.system w y c leaf leaf.phase
      else ne =
          let was = sym (others.leaves y ne) ∙ there in
          stands_else promised promised before after d.system d.world w y c leaf
          (λ e state m. stand_else promised d w others e state leaf (λ g is. current_else d takes h y leaf ne was g is d.leaf.current refl) m) (λ ks a. a)
          (awaited y) (λ section state todo loops. carries y section state todo loops ne) leaf.phase (t.leaves y c leaf placed was)

  -- a session that is not current at its server is not at this leaf
  not_current : (k : ℕ) (old : Session) → session_at d.world k ≡ Some old → current_section k (slice_get d.world.leaves old.server) ≡ None
      → (o : Option Current)
      → d.leaf.current ≡ o → IsElse k o
  not_current k old there none None is = tt
  not_current k old there none (Some g) is =
      λ same.
      let m = h.handles d.x d.leaf.phase g (stood d takes ∙ ap (λ o. Some (stance d.leaf.phase o)) is) in
      let server : old.server ≡ d.x = ap (λ (s : Session). s.server) (some_same (sym (ap outline_in there) ∙ (ap (links d.world).sessions (sym same) ∙ m.1)))
      ∙ m.2 in
      let found : current_section k (slice_get d.world.leaves old.server) ≡ section_if k (Some g) =
      ap (λ y. current_section k (slice_get d.world.leaves y)) server ∙ (ap (current_section k) takes.there ∙ ap (section_if k) (sym takes.current ∙ is)) in
      elim (eqb_tells g.session k) [
        | inl f ↦ none_some (sym none ∙ (found ∙ if_here k g f.0))
        | inr f ↦ f.1 same
      ]

  session_fits : (k : ℕ) (s : Session) → session_at w k ≡ Some s → FitsService promised d.system w k s
  session_fits k s there =
      let b = session_back d w others k s there in
      let f = t.sessions k b.0 b.1 in
      record {
        interface = f.interface;
        known = subst (λ u. interface_in u.service d.system.interfaces ≡ Some f.interface) (sym b.2.rest) f.known;
        level = subst (λ u. u.level ≤ length f.interface.upgrades) (sym b.2.rest) f.level;
        rests = λ server placed none.
            let was = sym (current_same k b.0.server) ∙ (ap (λ u. current_section k (slice_get w.leaves u.server)) (sym b.2.rest) ∙ none) in
            let r = f.rests server (ap (λ u. slice_get d.system.components u.server) (sym b.2.rest) ∙ placed) was in
            record {
              bank = stay_kinds promised b.0.slots s.slots (bank_kinds d.system server s) (b.2.slots (not_current k b.0 b.1 was d.leaf.current refl))
                  (subst (λ u. AreKinds promised b.0.slots (bank_kinds d.system server u)) (sym b.2.rest) r.bank);
              object = λ accepted. stays_kind promised b.0.object s.object
                  (Memory Slice (number_of (subject d.system server).provided (λ i. i.object))) b.2.object
                  (r.object (ap (λ u. u.accepted) (sym b.2.rest) ∙ accepted));
            };
      }

  request_fits : (r : Request) → FitsRequest d.system d.world r → FitsRequest d.system w r
  request_fits r f s there =
      let b = session_back d w others r.session s there in
      subst (λ u. IsWithin d.system u.service r.ask × (is_wanted (interface_in u.service d.system.interfaces) 0 (section_for r.ask (level_then r.ask u.level))
      ≡ true)) (sym b.2.rest) (f b.0 b.1)

  pub typed_inside : IsTypedBy promised after d.system w
  typed_inside =
      record {
        reports = reported;
        leaves = leaf_stands;
        sessions = session_fits;
        requests = subst (λ rs. Each (FitsRequest d.system w) rs) (sym others.requests)
            (each_map (FitsRequest d.system d.world) (FitsRequest d.system w) request_fits d.world.requests t.requests);
      }
