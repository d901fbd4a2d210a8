-- Once a leaf has asked something of a session, it waits where the rules say, and all other leaves stand where they stood.
use Rattle.std.proofs.Common.{◌≡◌, ◌≢◌, ℕ, inl, inr, Option, Some, None, Ok, refl, ap, sym, ◌∙◌, subst, List}
use Rattle.std.specs.Prelude.{slice_get}
use Rattle.std.proofs.lemmas.Bool.Decides.{eqb_tells}
use Rattle.gq_model.specs.declared.phase.Phase.{Phase}
use Rattle.gq_model.specs.declared.phase.Phase.TheVariants.{Blocked}
use Rattle.gq_model.specs.declared.program.Instruction.{Instruction}
use Rattle.gq_model.specs.machine.Program.{Statements, section_in}
use Rattle.gq_model.specs.machine.Scenario.{Component, interface_in, number_of}
use Rattle.gq_model.specs.machine.World.{Slot, Waiting, SlotId, In_leaf, In_session, In_object, Session, Current, Leaf, World, session_at, session_object}
use Rattle.gq_model.specs.machine.World.{leaf_slot}
use Rattle.gq_model.specs.machine.World.{session_slot, slot_at, Round}
use Rattle.gq_model.specs.machine.Doing.{Doing}
use Rattle.gq_model.specs.machine.Step.{section_for, level_then}
use Rattle.gq_model.specs.rules.Kinds.{Kind, AbstractState, Context, Subject}
use Rattle.gq_model.specs.rules.Flow.{flow, context, body, start_of}
use Rattle.gq_model.specs.rules.Use.{subject}
use Rattle.gq_laws.specs.Current_section_facts.{section_asked, within, Continues}
use Rattle.gq_laws.specs.Session_links.{naming_in, stance, stance_in, links, IsLinkedWorld}
use Rattle.gq_laws.specs.Typed.{Meets}
use Rattle.gq_laws.specs.Inside_steps.{TakesLeaf}
use Rattle.gq_laws.specs.Asking.{promised_anew, while_waiting, Awaits}
use Rattle.gq_laws.specs.Reply_stances.{once_replied}
use Rattle.gq_laws.specs.Typing.{Extra, IsAwaited, IsInSection, StandsBy, StandAll}
use Rattle.gq_model.specs.machine.World.{section_of}
use Rattle.gq_laws.specs.internal.Carrying.{Carries}
use Rattle.gq_model.proofs.Small_facts.{some_same, none_some}
use Rattle.gq_laws.proofs.session_links.Link_free_statements.{stood}
use Rattle.gq_laws.proofs.request_rules.Promised_slot_kinds.{Free, AreFree, kinds_anew, current_anew}
use Rattle.gq_laws.proofs.typed_worlds.Promised_stance_transfer.{stands_else}
use Rattle.gq_laws.proofs.typed_worlds.Asked_worlds.{IsMine, Asked, then_else}
use Rattle.gq_laws.proofs.typed_worlds.Asked_rule_changes.{session_now, asked_else, asked_none, asked_here}
use Rattle.gq_model.specs.declared.section.Section.{Section}
use Rattle.gq_laws.proofs.typed_worlds.Inside_step_typed.{current_else as other_current}

-- SPOTS

-- the leaf's slot is none of another leaf, of no other session, and no object
pub mine_leaf : (x : ℕ) (current : Option Current) (q : SlotId) → IsMine x current q → (y i : ℕ) → y ≢ x → In_leaf y i ≢ q
mine_leaf x current q m y i ne e = ne (subst (IsMine x current) (sym e) m)

pub mine_session : (x : ℕ) (current : Option Current) (q : SlotId) → IsMine x current q → (j i : ℕ) → ((g : Current) → current ≡ Some g → g.session ≢ j)
    → In_session j i ≢ q
mine_session x None q m j i else e = subst (IsMine x None) (sym e) m
mine_session x (Some g) q m j i else e = else g refl (sym (subst (IsMine x (Some g)) (sym e) m))

pub mine_object : (x : ℕ) (current : Option Current) (q : SlotId) → IsMine x current q → (j : ℕ) → In_object j ≢ q
mine_object x current q m j e = subst (IsMine x current) (sym e) m

module _ (promised : ℕ → Option Kind) (kind : Kind) (d : Doing) (t : TakesLeaf d) (h : IsLinkedWorld d.system d.world) (i : Instruction) (k : ℕ) (s : Session)
    (w : World) (a : Asked d i k s w) where
  abbrev anew : ℕ → Option Kind
  anew = promised_anew promised k kind

  -- all slots but the one that waits are free of the session
  pub slot_id_free : (r : SlotId) (slot : Slot) → r ≢ a.q → slot_at d.world r ≡ Some slot → Free promised k kind slot
  slot_id_free r slot ne there n names = a.free.names r n ne (ap naming_in there ∙ names)

  pub not_current : (g : Current) → d.leaf.current ≡ Some g → g.session ≢ k
  not_current g e = a.free.no_current d.x d.leaf.phase g (stood d t ∙ ap (λ o. Some (stance d.leaf.phase o)) e)

  -- a session that is not current at the leaf
  pub bank_free : (j : ℕ) (u : Session) → ((g : Current) → d.leaf.current ≡ Some g → g.session ≢ j) → session_at d.world j ≡ Some u
      → AreFree promised k kind u.slots
  bank_free j u else there n slot e =
      slot_id_free (In_session j n) slot (mine_session d.x d.leaf.current a.q a.mine j n else) (ap (λ o. session_slot o n) there ∙ e)

  pub object_free : (j : ℕ) (u : Session) → session_at d.world j ≡ Some u → Free promised k kind u.object
  object_free j u there = slot_id_free (In_object j) u.object (mine_object d.x d.leaf.current a.q a.mine j) (ap session_object there)

  -- OTHER LEAVES

  module _ (y : ℕ) (leaf : Leaf) (ne : y ≢ d.x) (there : slice_get d.world.leaves y ≡ Some leaf) where
    own_free : AreFree promised k kind leaf.slots
    own_free n slot e = slot_id_free (In_leaf y n) slot (mine_leaf d.x d.leaf.current a.q a.mine y n ne) (ap (λ o. leaf_slot o n) there ∙ e)

    current_stance : (b : Current) → leaf.current ≡ Some b → (links d.world).stances y ≡ Some (stance leaf.phase (Some b))
    current_stance b e = ap stance_in there ∙ ap (λ o. Some (stance leaf.phase o)) e

    -- what is current at it is another session
    current_else : (b : Current) → leaf.current ≡ Some b → (g : Current) → d.leaf.current ≡ Some g → g.session ≢ b.session
    current_else b at g handed = other_current d t h y leaf ne there b at (Some g) handed

    current_stands : (b : Current) (u : Session) → leaf.current ≡ Some b → session_at d.world b.session ≡ Some u
        → (v : Session) × (session_at w b.session ≡ Some v) × (v.slots ≡ u.slots) × (v.object ≡ u.object) × AreFree promised k kind u.slots
        × Free promised k kind u.object
    current_stands b u at found =
        let now = a.sessions b.session (a.free.no_current y leaf.phase b (current_stance b at))
        ∙ (then_else d.x d.leaf.current a.q (Waiting k) b.session (session_at d.world b.session) a.mine (current_else b at) ∙ found) in
        (u, now, refl, refl, bank_free b.session u (current_else b at) found, object_free b.session u found)

    meets_else : (e : Context) (state : AbstractState) → Meets promised e state d.world leaf → Meets anew e state w leaf
    meets_else e state m =
        record {
          own = kinds_anew promised k kind leaf.slots state.own own_free m.own;
          current = m.current;
          bank = current_anew promised k kind e state.bank d.world w leaf.current current_stands m.bank;
          operands = m.operands;
          locals = m.locals;
          loops = m.loops;
        }

    awaited_else : (state next : AbstractState) → IsAwaited d.system d.world y state next → IsAwaited d.system w y state next
    awaited_else state next f =
        let other : f.k ≢ k = λ same. none_some (sym (asked_none d t i k s w a f.session)
        ∙ (ap (λ j. section_asked d.world j f.session) (sym same) ∙ f.asked)) in
        let n = session_now d t i k s w a f.k f.session other f.there in
        record {
          k = f.k;
          session = record f.session { slots = n.0 };
          section = f.section;
          there = n.1;
          client = f.client;
          asked = asked_else d t i k s w a f.k f.session n.0 other ∙ f.asked;
          is = f.is;
        }

    pub leaf_else : (c : Component) (phase : Phase) → (before after : Extra)
        → ((section : Section) (state : AbstractState) (todo : Statements) (loops : List Round) → before y section state todo loops → after y section state
        todo loops)
        → StandsBy promised before d.system d.world y c leaf phase → StandsBy anew after d.system w y c leaf phase
    leaf_else c phase before after carries = stands_else promised anew before after d.system d.world w y c leaf meets_else
        (λ ks. kinds_anew promised k kind leaf.slots ks own_free) awaited_else carries phase

-- ALL LEAVES

module _ (promised : ℕ → Option Kind) (before after : Extra) (d : Doing) (carries : Carries d.x before after) (t : TakesLeaf d)
    (h : IsLinkedWorld d.system d.world)
    (i : Instruction) (new end : AbstractState) (w : World)
    (b : Awaits promised (within (context (subject d.system d.component) (section_of d.leaf.current d.leaf.reacting)) d.leaf.loops) new i d w)
    (a : Asked d i b.k b.session w)
    (goes_on : Continues (context (subject d.system d.component) (section_of d.leaf.current d.leaf.reacting)) new d.leaf.todo d.leaf.loops end)
    (whole : flow (context (subject d.system d.component) (section_of d.leaf.current d.leaf.reacting))
    (start_of (subject d.system d.component) (section_of d.leaf.current d.leaf.reacting))
    (body (subject d.system d.component) (section_of d.leaf.current d.leaf.reacting)) ≡ Ok end)
    (listed : (list : Statements) × (section_in (section_of d.leaf.current d.leaf.reacting) d.component.node.program.sections ≡ Some list))
    (resumes : new ≡ once_replied (number_of (interface_in b.session.service d.system.interfaces) (λ i. i.reply))
    (section_for a.ask (level_then a.ask b.session.level)) (while_waiting i new))
    (also : after d.x (section_of d.leaf.current d.leaf.reacting) new d.leaf.todo d.leaf.loops) where
  abbrev v : Subject
  v = subject d.system d.component

  abbrev p : ℕ → Option Kind
  p = promised_anew promised b.k b.kind

  awaits : IsAwaited d.system w d.x (while_waiting i new) new
  awaits =
      record {
        k = b.k;
        session = b.session;
        section = section_for a.ask (level_then a.ask b.session.level);
        there = a.found;
        client = a.client;
        asked = asked_here d t i b.k b.session w a;
        is = resumes;
      }

  in_section : IsInSection p after d.system w d.x d.component b.leaf Blocked (section_of b.leaf.current b.leaf.reacting)
  in_section =
      let here : section_of d.leaf.current d.leaf.reacting ≡ section_of b.leaf.current b.leaf.reacting =
      (λ n. section_of (sym b.current n) (sym b.reacting n)) in
      let todo = sym b.todo in
      let loops = sym b.loops in
      record {
        state = while_waiting i new;
        next = new;
        end = end;
        meets = subst (λ c. Meets p c (while_waiting i new) w b.leaf) (λ n. within (context v (here n)) (loops n)) b.meets;
        from = awaits;
        goes_on = subst (λ s. Continues (context v s) new b.leaf.todo b.leaf.loops end) here
            (subst (λ o. Continues (context v (section_of d.leaf.current d.leaf.reacting)) new o b.leaf.loops end) todo
            (subst (λ o. Continues (context v (section_of d.leaf.current d.leaf.reacting)) new d.leaf.todo o end) loops goes_on));
        whole = subst (λ s. flow (context v s) (start_of v s) (body v s) ≡ Ok end) here whole;
        listed = subst (λ s. (list : Statements) × (section_in s d.component.node.program.sections ≡ Some list)) here listed;
        also = subst (λ s. after d.x s new b.leaf.todo b.leaf.loops) here
            (subst (λ o. after d.x (section_of d.leaf.current d.leaf.reacting) new o b.leaf.loops) todo
            (subst (λ o. after d.x (section_of d.leaf.current d.leaf.reacting) new d.leaf.todo o) loops also));
      }

  module _ (component : slice_get d.system.components d.x ≡ Some d.component) (stand : StandAll promised before d.system d.world) where
    stands_here : (c : Component) (leaf : Leaf) → slice_get d.system.components d.x ≡ Some c → slice_get w.leaves d.x ≡ Some leaf
        → StandsBy p after d.system w d.x c leaf leaf.phase
    stands_here c leaf of there =
        subst (λ c. StandsBy p after d.system w d.x c leaf leaf.phase) (some_same (sym component ∙ of)) (
        subst (λ (leaf : Leaf). StandsBy p after d.system w d.x d.component leaf leaf.phase) (some_same (sym b.there ∙ there)) (
        subst (StandsBy p after d.system w d.x d.component b.leaf) (sym b.phase) in_section))

    pub asked_stands : StandAll p after d.system w
    asked_stands y c leaf of there =
        elim (eqb_tells y d.x) [
          | inl e ↦ subst (λ y. StandsBy p after d.system w y c leaf leaf.phase) (sym e.1)
              (stands_here c leaf (ap (slice_get d.system.components) (sym e.1) ∙ of) (ap (slice_get w.leaves) (sym e.1) ∙ there))
          | inr e ↦ (let was = sym (a.leaves y e.1) ∙ there in
              leaf_else promised b.kind d t h i b.k b.session w a y leaf e.1 was c leaf.phase before after
              (λ section state todo loops. carries y section state todo loops e.1) (stand y c leaf of was))
        ]
