-- The end of `main` keeps worlds typed: the leaf serves from now on, or has exited and releases those that wait for it.
use Rattle.std.proofs.Common.{◌≡◌, ◌≢◌, ℕ, zero, suc, inl, inr, cond, Bool, true, false, List, [], ◌∷◌, Option, Some, None, Ok, refl, ap, sym, ◌∙◌, subst}
use Rattle.std.specs.Prelude.{slice_get}
use Rattle.std.proofs.lemmas.Bool.Decides.{eqb_tells}
use Rattle.gq_model.specs.machine.Lists.{or_first}
use Rattle.gq_model.specs.declared.section.Section.TheVariants.{Main}
use Rattle.gq_model.specs.declared.phase.Phase.{Phase}
use Rattle.gq_model.specs.declared.phase.Phase.TheVariants.{Pending, Running, Blocked, Serving, Handling, Exited}
use Rattle.gq_model.specs.machine.Scenario.{System, Component}
use Rattle.gq_model.specs.machine.World.{Session, Current, Leaf, World, session_at, Round, section_of}
use Rattle.gq_model.specs.machine.Doing.{Doing, Event, Quiet, Finished, standing}
use Rattle.gq_model.specs.machine.Step.{is_named, released, all_released, exited, exit_of, serving, main_ended}
use Rattle.gq_model.specs.rules.Kinds.{Kind, AbstractState, Context, Subject}
use Rattle.gq_model.specs.rules.Flow.{flow, context, body, start_of, own_after}
use Rattle.gq_model.specs.rules.Use.{subject}
use Rattle.gq_laws.specs.Current_section_facts.{section_waiting, section_if, current_section, section_asked}
use Rattle.gq_laws.specs.Shapes.{Each}
use Rattle.gq_laws.specs.Typed.{AreKinds, CurrentMeets, Meets}
use Rattle.gq_laws.specs.Inside_steps.{TakesLeaf}
use Rattle.gq_laws.specs.Typing.{Extra, kind_then, IsAwaited, IsInSection, StandsBy, StandAll, FitsService, FitsRequest, IsTypedBy}
use Rattle.gq_laws.specs.internal.Carrying.{Carries}
use Rattle.gq_laws.proofs.step_shapes.Step_end_shapes.{Ends, gives, when_ends}
use Rattle.gq_model.proofs.Small_facts.{some_same, none_some}
use Rattle.gq_laws.proofs.session_links.Asked_request_changes.{each_map}
use Rattle.gq_laws.proofs.session_links.Written_world_links.{set_here, set_else}
use Rattle.gq_laws.proofs.typed_worlds.Promised_stance_transfer.{stands_else}
use Rattle.gq_model.specs.declared.section.Section.{Section}
use Rattle.gq_model.specs.machine.Program.{Statements}
use Rattle.gq_laws.proofs.verified_programs.Accepted_program_facts.{own_main}

-- WORLDS WITH THE SAME SESSIONS, REQUESTS AND HANDS

pub record SameCurrent (v w : World) : Type 0 where
  pub sessions : (k : ℕ) → session_at w k ≡ session_at v k
  pub requests : w.requests ≡ v.requests
  pub all_current : (k y : ℕ) → current_section k (slice_get w.leaves y) ≡ current_section k (slice_get v.leaves y)

module _ (promised : ℕ → Option Kind) (system : System) (v w : World) (same : SameCurrent v w) where
  asked_same : (k : ℕ) (s : Session) → section_asked w k s ≡ section_asked v k s
  asked_same k s =
      ap (λ rs. or_first (section_waiting k s rs) (current_section k (slice_get w.leaves s.server))) same.requests
      ∙ ap (or_first (section_waiting k s v.requests)) (same.all_current k s.server)

  awaited_same : (y : ℕ) (state next : AbstractState) → IsAwaited system v y state next → IsAwaited system w y state next
  awaited_same y state next u = record {
    k = u.k;
    session = u.session;
    section = u.section;
    there = same.sessions u.k ∙ u.there;
    client = u.client;
    asked = asked_same u.k u.session ∙ u.asked;
    is = u.is;
  }

  bank_same : (c : Context) (kinds : List Kind) (current : Option Current) → CurrentMeets promised c kinds v current → CurrentMeets promised c kinds w current
  bank_same c kinds None m = tt
  bank_same c kinds (Some g) m = (m.0, same.sessions g.session ∙ m.1, m.2)

  meets_same : (leaf : Leaf) (c : Context) (state : AbstractState) → Meets promised c state v leaf → Meets promised c state w leaf
  meets_same leaf c state m = record {
    own = m.own;
    current = m.current;
    bank = bank_same c state.bank leaf.current m.bank;
    operands = m.operands;
    locals = m.locals;
    loops = m.loops;
  }

  -- a leaf that is the same stands where it stood
  pub stands_same : (y : ℕ) (c : Component) (leaf : Leaf) (phase : Phase) → (before after : Extra)
      → ((section : Section) (state : AbstractState) (todo : Statements) (loops : List Round) → before y section state todo loops → after y section state todo
      loops)
      → StandsBy promised before system v y c leaf phase → StandsBy promised after system w y c leaf phase
  stands_same y c leaf phase before after carries h = stands_else promised promised before after system v w y c leaf (meets_same leaf) (λ ks m. m)
      (awaited_same y) carries phase h

  session_same : (before : Extra) → IsTypedBy promised before system v → (k : ℕ) (s : Session) → session_at w k ≡ Some s → FitsService promised system w k s
  session_same before t k s there =
      let f = t.sessions k s (sym (same.sessions k) ∙ there) in
      record {
        interface = f.interface;
        known = f.known;
        level = f.level;
        rests = λ server placed none. f.rests server placed (sym (same.all_current k s.server) ∙ none);
      }

  -- where each leaf stands by the rules, the world is typed
  pub same_typed : (before after : Extra) → IsTypedBy promised before system v → StandAll promised after system w → IsTypedBy promised after system w
  same_typed before after t leaves =
      record {
        reports = λ k s there. t.reports k s (sym (same.sessions k) ∙ there) ∙ ap (λ o. Some (kind_then s o)) (sym (asked_same k s));
        leaves = leaves;
        sessions = session_same before t;
        requests = subst (λ rs. Each (FitsRequest system w) rs) (sym same.requests)
            (each_map (FitsRequest system v) (FitsRequest system w) (λ r f s there. f s (sym (same.sessions r.session) ∙ there)) v.requests t.requests);
      }

-- LEAVES THAT ARE RELEASED

released_current : (name : List ℕ) (cs : List Component) (leaves : List Leaf) (k y : ℕ)
    → current_section k (slice_get (all_released name cs leaves) y) ≡ current_section k (slice_get leaves y)
released_current name [] leaves k y = refl
released_current name (c ∷ cs) [] k y = refl
released_current name (c ∷ cs) (leaf ∷ leaves) k zero = refl
released_current name (c ∷ cs) (leaf ∷ leaves) k (suc y) = released_current name cs leaves k y

-- a leaf that is there was there, in a phase from which it was released, if it waited for this name
pub released_there : (name : List ℕ) (cs : List Component) (leaves : List Leaf) (y : ℕ) (c : Component) (leaf : Leaf) → slice_get cs y ≡ Some c
    → slice_get (all_released name cs leaves) y ≡ Some leaf
    → (old : Leaf) × (slice_get leaves y ≡ Some old) × (leaf ≡ record old { phase = released name c.node.after old.phase })
released_there name [] leaves y c leaf placed there = absurd (none_some placed)
released_there name (b ∷ cs) [] y c leaf placed there = absurd (none_some there)
released_there name (b ∷ cs) (old ∷ leaves) zero c leaf placed there =
    (old, refl, sym (some_same there) ∙ ap (λ c. record old { phase = released name c.node.after old.phase }) (some_same placed))
released_there name (b ∷ cs) (old ∷ leaves) (suc y) c leaf placed there = released_there name cs leaves y c leaf placed there

module _ (promised : ℕ → Option Kind) (extra : Extra) (system : System) (w : World) (y : ℕ) (c : Component) (old : Leaf) (p : Phase) where
  abbrev new : Leaf
  new = record old { phase = p }

  meets_new : (e : Context) (state : AbstractState) → Meets promised e state w old → Meets promised e state w new
  meets_new e state m = record { own = m.own; current = m.current; bank = m.bank; operands = m.operands; locals = m.locals; loops = m.loops }

  pending_new : (b : Bool) → IsInSection promised extra system w y c old Pending (section_of old.current old.reacting)
      → StandsBy promised extra system w y c new (cond b Running Pending)
  pending_new true h = record {
    state = h.state;
    next = h.next;
    end = h.end;
    meets = meets_new _ h.state h.meets;
    from = h.from;
    goes_on = h.goes_on;
    whole = h.whole;
    listed = h.listed;
    also = h.also;
  }
  pending_new false h = record {
    state = h.state;
    next = h.next;
    end = h.end;
    meets = meets_new _ h.state h.meets;
    from = h.from;
    goes_on = h.goes_on;
    whole = h.whole;
    listed = h.listed;
    also = h.also;
  }

  -- a leaf stands where it stood, also once it is released
  released_stands : (name : List ℕ) (waits : Option (List ℕ)) (phase : Phase) → StandsBy promised extra system w y c old phase
      → StandsBy promised extra system w y c new (released name waits phase)
  released_stands name waits Pending h = pending_new (is_named name waits) h
  released_stands name waits Running h = record {
    state = h.state;
    next = h.next;
    end = h.end;
    meets = meets_new _ h.state h.meets;
    from = h.from;
    goes_on = h.goes_on;
    whole = h.whole;
    listed = h.listed;
    also = h.also;
  }
  released_stands name waits Blocked h = record {
    state = h.state;
    next = h.next;
    end = h.end;
    meets = meets_new _ h.state h.meets;
    from = h.from;
    goes_on = h.goes_on;
    whole = h.whole;
    listed = h.listed;
    also = h.also;
  }
  released_stands name waits Serving h = h
  released_stands name waits Handling h = record {
    state = h.state;
    next = h.next;
    end = h.end;
    meets = meets_new _ h.state h.meets;
    from = h.from;
    goes_on = h.goes_on;
    whole = h.whole;
    listed = h.listed;
    also = h.also;
  }
  released_stands name waits Exited h = h

-- THE END OF `main`

module _ (promised : ℕ → Option Kind) (before after : Extra) (d : Doing) (carries : Carries d.x before after) (takes : TakesLeaf d)
    (t : IsTypedBy promised before d.system d.world) (at : slice_get d.system.components d.x ≡ Some d.component) (free : d.leaf.current ≡ None) where
  abbrev v : Subject
  v = subject d.system d.component

  -- the current requests are the same, where the leaf's is
  pub standing_current : (leaf : Leaf) → leaf.current ≡ None → (k y : ℕ)
      → current_section k (slice_get (standing d leaf).leaves y) ≡ current_section k (slice_get d.world.leaves y)
  standing_current leaf none k y =
      elim (eqb_tells y d.x) [
        | inl f ↦ (ap (λ y. current_section k (slice_get (standing d leaf).leaves y)) f.1
            ∙ (ap (current_section k) (set_here d.world.leaves d.x leaf takes.old takes.there)
            ∙ (ap (section_if k) (none ∙ (sym free ∙ takes.current))
            ∙ (sym (ap (current_section k) takes.there) ∙ ap (λ y. current_section k (slice_get d.world.leaves y)) (sym f.1)))))
        | inr f ↦ ap (current_section k) (set_else d.world.leaves d.x y leaf f.1)
      ]

  exit_same : SameCurrent d.world (exit_of d)
  exit_same = record {
    sessions = λ k. refl;
    requests = refl;
    all_current = λ k y. released_current d.component.node.name d.system.components (standing d (exited d.leaf)).leaves k y
        ∙ standing_current (exited d.leaf) free k y;
  }

  -- a fact of each leaf that is there then, where one leaf is anew
  module _ (leaf : Leaf) where
    pub leaf_then : (y : ℕ) (found : Leaf) → slice_get (standing d leaf).leaves y ≡ Some found → y ≡ d.x → found ≡ leaf
    leaf_then y found there e = some_same (sym there ∙ (ap (slice_get (standing d leaf).leaves) e ∙ set_here d.world.leaves d.x leaf takes.old takes.there))

    pub leaf_before : (y : ℕ) (found : Leaf) → slice_get (standing d leaf).leaves y ≡ Some found → y ≢ d.x → slice_get d.world.leaves y ≡ Some found
    leaf_before y found there ne = sym (set_else d.world.leaves d.x y leaf ne) ∙ there

  pub component_is : (y : ℕ) (c : Component) → slice_get d.system.components y ≡ Some c → y ≡ d.x → d.component ≡ c
  component_is y c placed e = some_same (sym at ∙ (ap (slice_get d.system.components) (sym e) ∙ placed))

  -- one leaf is anew, with no current request
  pub standing_typed : (new : Leaf) → new.current ≡ None → StandsBy promised after d.system (standing d new) d.x d.component new new.phase
      → IsTypedBy promised after d.system (standing d new)
  standing_typed new none stands =
      same_typed promised d.system d.world (standing d new) same before after t (λ y c leaf placed there.
      elim (eqb_tells y d.x) [
        | inl f ↦ subst (λ l. StandsBy promised after d.system (standing d new) y c l l.phase) (sym (leaf_then new y leaf there f.1))
            (subst (λ c. StandsBy promised after d.system (standing d new) y c new new.phase) (component_is y c placed f.1)
            (subst (λ y. StandsBy promised after d.system (standing d new) y d.component new new.phase) (sym f.1) stands))
        | inr f ↦ stands_same promised d.system d.world (standing d new) same y c leaf leaf.phase before after
            (λ section state todo loops. carries y section state todo loops f.1) (t.leaves y c leaf placed (leaf_before new y leaf there f.1))
      ])
    where
      same : SameCurrent d.world (standing d new)
      same = record { sessions = λ k. refl; requests = refl; all_current = standing_current new none }

  exit_stands : StandAll promised after d.system (exit_of d)
  exit_stands y c leaf placed there =
      let name = d.component.node.name in
      let o = released_there name d.system.components (standing d (exited d.leaf)).leaves y c leaf placed there in
      subst (λ l. StandsBy promised after d.system (exit_of d) y c l l.phase) (sym o.2)
      (elim (eqb_tells y d.x) [
        | inl f ↦ subst (λ (u : Leaf). StandsBy promised after d.system (exit_of d) y c (record u { phase = released name c.node.after u.phase })
            (released name c.node.after u.phase)) (sym (leaf_then (exited d.leaf) y o.0 o.1 f.1)) refl
        | inr f ↦ released_stands promised after d.system (exit_of d) y c o.0 (released name c.node.after o.0.phase) name c.node.after o.0.phase
            (stands_same promised d.system d.world (exit_of d) exit_same y c o.0 o.0.phase before after
            (λ section state todo loops. carries y section state todo loops f.1) (t.leaves y c o.0 placed (leaf_before (exited d.leaf) y o.0 o.1 f.1)))
      ])

  pub serving_typed : AreKinds promised d.leaf.slots (own_after v) → IsTypedBy promised after d.system (standing d (serving d.leaf))
  serving_typed own = standing_typed (serving d.leaf) refl own

  main_ends : AreKinds promised d.leaf.slots (own_after v) → (provides : Option (List ℕ)) (signals : ℕ)
      → Ends (IsTypedBy promised after d.system) (main_ended d provides signals)
  main_ends own (Some service) signals = gives _ Quiet (serving_typed own)
  main_ends own None (suc n) = gives _ Quiet (serving_typed own)
  main_ends own None zero = when_ends (IsTypedBy promised after d.system) _ _ _
      (gives (exit_of d) Finished (same_typed promised d.system d.world (exit_of d) exit_same before after t exit_stands))

pub main_typed : (promised : ℕ → Option Kind) (before after : Extra) (d : Doing) → Carries d.x before after → TakesLeaf d
    → IsTypedBy promised before d.system d.world → slice_get d.system.components d.x ≡ Some d.component → d.leaf.current ≡ None
    → (end : AbstractState) → Meets promised (context (subject d.system d.component) Main) end d.world d.leaf
    → flow (context (subject d.system d.component) Main) (start_of (subject d.system d.component) Main) (body (subject d.system d.component) Main) ≡ Ok end
    → (w : World) (event : Event) → main_ended d d.component.node.provides d.component.node.signals ≡ Ok (w, event)
    → IsTypedBy promised after d.system w
main_typed promised before after d carries takes t at free end m whole w event e =
    (main_ends promised before after d carries takes t at free
    (subst (AreKinds promised d.leaf.slots) (own_main (subject d.system d.component) end whole) m.own) d.component.node.provides
    d.component.node.signals).holds w event e
