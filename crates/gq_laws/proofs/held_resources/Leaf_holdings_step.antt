-- Each step keeps it that every leaf holds and has lent no more than at some point of `main`: steps inside sections, requests that are taken up, and ends of
-- sections.
use Rattle.std.proofs.Common.{◌≡◌, ◌≢◌, ◌⊎◌, ℕ, ◌≤◌, inl, inr, cond, Bool, true, false, List, Option, Some, None, Ok, refl, ap, sym, ◌∙◌, subst, arith, zero}
use Rattle.std.proofs.Common.{suc}
use Rattle.std.specs.Prelude.{slice_get, sum_by}
use Rattle.std.proofs.lemmas.Bool.Decides.{eqb_tells}
use Rattle.gq_tariff.specs.Prices.{classes}
use Rattle.gq_model.specs.machine.Amounts.{Resource}
use Rattle.gq_model.specs.machine.Lists.{greatest}
use Rattle.gq_model.specs.declared.phase.Phase.{Phase}
use Rattle.gq_model.specs.declared.phase.Phase.TheVariants.{Pending, Running, Blocked, Serving, Handling, Exited}
use Rattle.gq_model.specs.declared.section.Section.{Section}
use Rattle.gq_model.specs.declared.section.Section.TheVariants.{Main, Opening, Upgrading, Calling, Closing, Reacting}
use Rattle.gq_model.specs.declared.fault.Wrong.TheVariants.{WrongKind, ExceededQuota, MissingSection}
use Rattle.gq_model.specs.machine.Program.{section_in, body_of}
use Rattle.gq_model.specs.machine.Scenario.{System, Component}
use Rattle.gq_model.specs.machine.World.{Slot, Waiting, In_leaf, Session, Ask, Ask_open, Ask_upgrade, Ask_close, Ask_call, Request, Current, Leaf, World}
use Rattle.gq_model.specs.machine.World.{Signal, session_at, slot_at, leaf_slot, with_session}
use Rattle.gq_model.specs.machine.Sums.{slot_price, places, raised, paid, donated}
use Rattle.gq_model.specs.machine.Doing.{Doing, Event, Quiet, Finished, need, when, standing}
use Rattle.gq_model.specs.machine.Step.{section_for, accepted_as, beginning, first_operands, accept, serving, resumed, is_named, released, exited, exit_of}
use Rattle.gq_model.specs.machine.Step.{main_ended, section_ended, perform, take_signal, reacting_to}
use Rattle.gq_model.specs.rules.Kinds.{Kind, AbstractState, Subject, Context, kind_places, kinds_cost}
use Rattle.gq_model.specs.rules.Flow.{context, section_end}
use Rattle.gq_model.specs.rules.Use.{subject}
use Rattle.gq_laws.specs.Session_links.{named, Belongs, outline, outline_in, stance, links, IsLinkedWorld}
use Rattle.gq_laws.specs.Typed.{Meets}
use Rattle.gq_laws.specs.internal.Lending.{given_by, slot_given}
use Rattle.gq_laws.specs.Inside_steps.{TakesLeaf, LeavesOthers, KeepsSessionIn, IsInside}
use Rattle.gq_laws.specs.Reply_stances.{slot_replied, session_replied, own_then, resuming, Replies, HasEnded}
use Rattle.gq_laws.specs.Typing.{StandsBy, IsInSection, IsTypedBy, Extra}
use Rattle.gq_model.specs.machine.World.{section_of}
use Rattle.gq_laws.specs.internal.Verified_holdings.{IsBounded, main_points, own_part, PeaksWithin, HoldsNone, HoldsWithin, AllHold}
use Rattle.gq_laws.proofs.step_shapes.Step_end_shapes.{Ends, gives, need_ends, need_found, when_ends}
use Rattle.gq_model.proofs.Small_facts.{some_same}
use Rattle.gq_laws.proofs.session_links.Written_world_links.{set_here, set_else, session_here, session_else}
use Rattle.gq_laws.proofs.typed_worlds.Inside_step_typed.{IsActive, active_awake}
use Rattle.gq_laws.proofs.typed_worlds.Typed_world_promises.{stood}
use Rattle.gq_laws.proofs.session_links.Linked_after_reply.{session_of_outline}
use Rattle.gq_laws.proofs.typed_worlds.Main_end_typed.{released_there}
use Rattle.gq_laws.proofs.reply_rules.World_after_reply.{replies_ruled}
use Rattle.gq_laws.proofs.held_resources.Leaf_peaks_step.{peaks_inside}
use Rattle.gq_laws.proofs.held_resources.Own_slot_bounds.{own_bounded, places_bounded, no_close_awake}
use Rattle.gq_laws.proofs.held_resources.Less_held_sums.{Less, LessIn, part_in, slots_less, then_less, then_gives, raised_within, active_none, holds_less}
use Rattle.gq_laws.proofs.held_resources.Less_held_sums.{holds_none}
use Rattle.gq_laws.proofs.verified_programs.Sure_system_facts.{IsSure}

-- where a leaf is active it stands in a section
pub in_section : (promised : ℕ → Option Kind) (extra : Extra) (system : System) (w : World) (x : ℕ) (c : Component) (leaf : Leaf) (phase : Phase)
    → IsActive phase → StandsBy promised extra system w x c leaf phase
    → IsInSection promised extra system w x c leaf phase (section_of leaf.current leaf.reacting)
in_section promised extra system w x c leaf phase (inl e) s =
    subst (λ p. IsInSection promised extra system w x c leaf p (section_of leaf.current leaf.reacting)) (sym e)
    (subst (StandsBy promised extra system w x c leaf) e s)
in_section promised extra system w x c leaf phase (inr e) s =
    subst (λ p. IsInSection promised extra system w x c leaf p (section_of leaf.current leaf.reacting)) (sym e)
    (subst (StandsBy promised extra system w x c leaf) e s)

-- a session that a step keeps, but for its slots and its object, was given the same
kept_gives : (r : Resource) (current : Option Current) (k : ℕ) (old new : Option Session) → KeepsSessionIn current k old new → given_by r new ≤ given_by r old
kept_gives r current k None new e = let same = ap (given_by r) e in omega (arith, same)
kept_gives r current k (Some old) new e =
    let now = ap (given_by r) e.1 in let same = ap (λ (s : Session). donated r s) e.2.rest in omega (arith, now, same)

accepted_gives : (r : Resource) (system : System) (ask : Ask) (s : Session) → donated r (accepted_as system ask s) ≡ donated r s
accepted_gives r system Ask_open s = refl
accepted_gives r system Ask_upgrade s = refl
accepted_gives r system Ask_close s = refl
accepted_gives r system (Ask_call value) s = refl

-- who waited to start runs, or waits on, and holds nothing yet
released_none : (leaf : Leaf) (name : List ℕ) (after : Option (List ℕ)) (phase : Phase) → HoldsNone leaf phase
    → HoldsNone (record leaf { phase = released name after phase }) (released name after phase)
released_none leaf name after Pending h = by (is_named name after)
  where
    by : (b : Bool) → HoldsNone (record leaf { phase = cond b Running Pending }) (cond b Running Pending)
    by true = tt
    by false = h
released_none leaf name after Running h = tt
released_none leaf name after Blocked h = tt
released_none leaf name after Serving h = tt
released_none leaf name after Handling h = tt
released_none leaf name after Exited h = h

resumed_none : (leaf : Leaf) (current : Option Current) (reacting : Option ℕ) → HoldsNone leaf (resumed current reacting)
resumed_none leaf None None = tt
resumed_none leaf None (Some i) = tt
resumed_none leaf (Some g) reacting = tt

module _ (d : Doing) (takes : TakesLeaf d) (peaks : d.leaf.peaks ≡ takes.old.peaks) (at : slice_get d.system.components d.x ≡ Some d.component)
    (held : AllHold d.system d.world) where
  abbrev v : Subject
  v = subject d.system d.component

  -- the leaf of the step as it was
  was : HoldsWithin d.system d.world d.component takes.old
  was = held d.x d.component takes.old at takes.there

  pub part_was : (r : Resource) → own_part r d.world d.leaf ≤ greatest (λ (s : AbstractState). kinds_cost r s.own) (main_points v)
  part_was r = let same = ap (λ slots. part_in r d.world d.world d.world slots) takes.slots in let most = was.own r in omega (arith, same, most)

  pub peaks_were : PeaksWithin (main_points v) classes d.leaf.peaks
  peaks_were = subst (PeaksWithin (main_points v) classes) (sym peaks) was.peaks

  -- a leaf with no more than it held and had lent, with its peaks
  pub mine_less : (w : World) (new : Leaf) → ((r : Resource) → own_part r w new ≤ own_part r d.world d.leaf) → new.peaks ≡ d.leaf.peaks
      → HoldsNone new new.phase → HoldsWithin d.system w d.component new
  mine_less w new less same none =
      record {
        own = λ r. (let most = part_was r in let fewer = less r in omega (arith, most, fewer));
        peaks = subst (PeaksWithin (main_points v) classes) (sym same) peaks_were;
        none = none;
      }

  -- another leaf, as it was
  pub else_less : (w : World) (y : ℕ) (c : Component) (leaf : Leaf) → slice_get d.system.components y ≡ Some c → slice_get d.world.leaves y ≡ Some leaf
      → ((r : Resource) → LessIn r d.world w leaf.slots) → HoldsWithin d.system w c leaf
  else_less w y c leaf placed there less =
      let h = held y c leaf placed there in holds_less d.system d.world w c leaf leaf h (λ r. slots_less r d.world w leaf.slots (less r)) refl h.none

  -- each leaf, by whether it takes the step
  pub all_hold : (w : World) → ((leaf : Leaf) → slice_get w.leaves d.x ≡ Some leaf → HoldsWithin d.system w d.component leaf)
      → ((y : ℕ) (c : Component) (leaf : Leaf) → y ≢ d.x → slice_get d.system.components y ≡ Some c → slice_get w.leaves y ≡ Some leaf
      → HoldsWithin d.system w c leaf) → AllHold d.system w
  all_hold w mine else y c leaf placed there =
      elim (eqb_tells y d.x) [
        | inl f ↦ (let same = some_same (sym at ∙ (ap (slice_get d.system.components) (sym f.1) ∙ placed)) in
            subst (λ c. HoldsWithin d.system w c leaf) same (mine leaf (ap (slice_get w.leaves) (sym f.1) ∙ there)))
        | inr f ↦ else y c leaf f.1 placed there
      ]

  -- where the other leaves are as they were, and for no session more was given
  pub all_same : (w : World) → ((leaf : Leaf) → slice_get w.leaves d.x ≡ Some leaf → HoldsWithin d.system w d.component leaf)
      → ((y : ℕ) → y ≢ d.x → slice_get w.leaves y ≡ slice_get d.world.leaves y) → ((r : Resource) (k : ℕ) → Less r d.world w k) → AllHold d.system w
  all_same w mine leaves less =
      all_hold w mine (λ y c leaf ne placed there. else_less w y c leaf placed (sym (leaves y ne) ∙ there) (λ r i n e. less r (named n)))

  -- INSIDE A SECTION

  module _ (sure : IsSure d.system) (promised : ℕ → Option Kind) (w : World) (h : IsLinkedWorld d.system w)
      (t : IsTypedBy promised (IsBounded d.system) d.system w) where
    -- a leaf that stands in a section of which no own slot waits for a close
    inside_mine : (active : IsActive d.leaf.phase) → IsInside d.leaf.todo d.leaf.loops → (event : Event) → perform d d.leaf.todo ≡ Ok (w, event) → (leaf : Leaf)
        → slice_get w.leaves d.x ≡ Some leaf → leaf.phase ≡ d.leaf.phase → HoldsWithin d.system w d.component leaf
    inside_mine active inside event is leaf there phase =
        let goes : IsActive leaf.phase = subst IsActive (sym phase) active in
        let s = in_section promised (IsBounded d.system) d.system w d.x d.component leaf leaf.phase goes (t.leaves d.x d.component leaf at there) in
        let awake = no_close_awake promised d.system w h t.reports d.x leaf there (active_awake leaf.phase goes) in
        record {
          own = own_bounded promised d.system sure w t d.x d.component at leaf leaf.phase (section_of leaf.current leaf.reacting) s awake;
          peaks = raised_or (places_bounded promised d.system sure w t d.x d.component at leaf leaf.phase (section_of leaf.current leaf.reacting) s there)
              (peaks_inside d takes peaks w event inside is leaf there);
          none = active_none leaf leaf.phase goes;
        }
      where
        raised_or : ((k : ℕ) → places w d.x leaf k ≤ greatest (λ (s : AbstractState). sum_by (kind_places k) s.own) (main_points v))
            → (leaf.peaks ≡ d.leaf.peaks) ⊎ (leaf.peaks ≡ raised w d.x leaf classes d.leaf.peaks) → PeaksWithin (main_points v) classes leaf.peaks
        raised_or within (inl e) = subst (PeaksWithin (main_points v) classes) (sym e) peaks_were
        raised_or within (inr e) = subst (PeaksWithin (main_points v) classes) (sym e)
            (raised_within (main_points v) w d.x leaf within classes d.leaf.peaks peaks_were)

    -- a step inside a section
    pub goes_hold : IsActive d.leaf.phase → IsInside d.leaf.todo d.leaf.loops → LeavesOthers d w → (event : Event) → perform d d.leaf.todo ≡ Ok (w, event)
        → (new : Leaf) → slice_get w.leaves d.x ≡ Some new → new.phase ≡ d.leaf.phase → AllHold d.system w
    goes_hold active inside others event is new there phase =
        all_same w (λ leaf found. inside_mine active inside event is leaf found (ap (λ (l : Leaf). l.phase) (some_same (sym found ∙ there)) ∙ phase))
        others.leaves
        (λ r k. kept_gives r d.leaf.current k (session_at d.world k) (session_at w k) (others.sessions k))

  -- REQUESTS THAT ARE TAKEN UP

  abbrev section_taken : Request → Session → Section
  section_taken q old = section_for q.ask (accepted_as d.system q.ask old).level

  abbrev leaf_taken : Request → Session → Leaf
  leaf_taken q old = beginning d.leaf (record { session = q.session; section = section_taken q old }) (first_operands q.ask)
      (body_of (section_in (section_taken q old) d.component.node.program.sections))

  abbrev world_taken : Request → List Request → Session → World
  world_taken q rest old = with_session (record (standing d (leaf_taken q old)) { requests = rest }) q.session (accepted_as d.system q.ask old)

  taken_holds : (q : Request) (rest : List Request) (old : Session) → session_at d.world q.session ≡ Some old → AllHold d.system (world_taken q rest old)
  taken_holds q rest old there =
      all_same (world_taken q rest old) (λ leaf found. mine leaf (some_same (sym found ∙ set_here d.world.leaves d.x (leaf_taken q old) takes.old takes.there)))
      (λ y ne. set_else d.world.leaves d.x y (leaf_taken q old) ne) less
    where
      less : (r : Resource) (k : ℕ) → Less r d.world (world_taken q rest old) k
      less r k =
          elim (eqb_tells k q.session) [
            | inl f ↦ (
                let now = ap (λ k. given_by r (session_at (world_taken q rest old) k)) f.1 in
                let here = ap (given_by r) (session_here (record (standing d (leaf_taken q old)) { requests = rest }) q.session old
                (accepted_as d.system q.ask old) there) in
                let same = accepted_gives r d.system q.ask old in
                let before = ap (given_by r) there in
                let before_too = ap (λ k. given_by r (session_at d.world k)) f.1 in
                omega (arith, now, here, same, before, before_too))
            | inr f ↦ (let same = ap (given_by r) (session_else (record (standing d (leaf_taken q old)) { requests = rest }) q.session k
                (accepted_as d.system q.ask old) f.1) in omega (arith, same))
          ]

      mine : (leaf : Leaf) → leaf ≡ leaf_taken q old → HoldsWithin d.system (world_taken q rest old) d.component leaf
      mine leaf is =
          subst (HoldsWithin d.system (world_taken q rest old) d.component) (sym is)
          (mine_less (world_taken q rest old) (leaf_taken q old)
          (λ r. slots_less r d.world (world_taken q rest old) d.leaf.slots (λ i n e. less r (named n))) refl tt)

  taken_ends : (q : Request) (rest : List Request) → Ends (AllHold d.system) (accept d q rest)
  taken_ends q rest = need_found (AllHold d.system) (session_at d.world q.session) WrongKind _ (λ old there. go old there)
    where
      go : (old : Session) → session_at d.world q.session ≡ Some old
          → Ends (AllHold d.system) (when (paid d.system (world_taken q rest old)) ExceededQuota
          (need (section_in (section_taken q old) d.component.node.program.sections) MissingSection (λ b. Ok (world_taken q rest old, Quiet))))
      go old there = when_ends (AllHold d.system) _ _ _ (need_ends (AllHold d.system) _ _ _
          (λ b. gives (world_taken q rest old) Quiet (taken_holds q rest old there)))

  -- a request is taken up
  pub taken_hold : (q : Request) (rest : List Request) (w : World) (event : Event) → accept d q rest ≡ Ok (w, event) → AllHold d.system w
  taken_hold q rest w event is = (taken_ends q rest).holds w event is

  -- SIGNALS THAT ARE TAKEN

  -- a leaf with the same memory, that is in a section
  standing_holds : (leaf : Leaf) → leaf.slots ≡ d.leaf.slots → leaf.peaks ≡ d.leaf.peaks → HoldsNone leaf leaf.phase → AllHold d.system (standing d leaf)
  standing_holds new slots peaks none =
      all_same (standing d new) (λ leaf found.
      subst (HoldsWithin d.system (standing d new) d.component)
      (some_same (sym (set_here d.world.leaves d.x new takes.old takes.there) ∙ found))
      (mine_less (standing d new) new (λ r. let same = ap (λ slots. part_in r d.world d.world d.world slots) slots in omega (arith, same)) peaks none))
      (λ y ne. set_else d.world.leaves d.x y new ne) (λ r k. omega arith)

  pub reacted_hold : (i : ℕ) (signals : List Signal) (w : World) (event : Event) → take_signal d i signals ≡ Ok (w, event) → AllHold d.system w
  reacted_hold i signals w event is = by.holds w event is
    where
      by : Ends (AllHold d.system) (take_signal d i signals)
      by = need_ends (AllHold d.system) (section_in (Reacting i) d.component.node.program.sections) MissingSection _
          (λ list. gives _ Quiet (standing_holds (reacting_to d.leaf i signals list) refl refl tt))

  -- THE END OF `main`

  serving_holds : AllHold d.system (standing d (serving d.leaf))
  serving_holds = standing_holds (serving d.leaf) refl refl tt

  exit_holds : AllHold d.system (exit_of d)
  exit_holds y c leaf placed there =
      let name = d.component.node.name in
      let o = released_there name d.system.components (standing d (exited d.leaf)).leaves y c leaf placed there in
      subst (HoldsWithin d.system (exit_of d) c) (sym o.2)
      (elim (eqb_tells y d.x) [
        | inl f ↦ (let is : o.0 ≡ exited d.leaf = some_same (sym o.1
            ∙ (ap (slice_get (standing d (exited d.leaf)).leaves) f.1 ∙ set_here d.world.leaves d.x (exited d.leaf) takes.old takes.there)) in
            subst (λ (u : Leaf). HoldsWithin d.system (exit_of d) c (record u { phase = released name c.node.after u.phase })) (sym is)
            (holds_none d.system (exit_of d) c (exited d.leaf) refl refl refl))
        | inr f ↦ (let before = held y c o.0 placed (sym (set_else d.world.leaves d.x y (exited d.leaf) f.1) ∙ o.1) in
            holds_less d.system d.world (exit_of d) c o.0 (record o.0 { phase = released name c.node.after o.0.phase }) before (λ r. omega arith) refl
            (released_none o.0 name c.node.after o.0.phase before.none))
      ])

  main_ends : (provides : Option (List ℕ)) (signals : ℕ) → Ends (AllHold d.system) (main_ended d provides signals)
  main_ends (Some service) signals = gives _ Quiet serving_holds
  main_ends None (suc n) = gives _ Quiet serving_holds
  main_ends None zero = when_ends (AllHold d.system) _ _ _ (gives (exit_of d) Finished exit_holds)

  -- the end of a section of its own
  own_ends : (reacting : Option ℕ) → Ends (AllHold d.system) (section_ended d None reacting)
  own_ends None = main_ends d.component.node.provides d.component.node.signals
  own_ends (Some i) = gives _ Quiet serving_holds

  -- THE END OF ANOTHER SECTION

  module _ (promised : ℕ → Option Kind) (c : Context) (g : Current) (s : Session) (end : AbstractState) (w : World) (h : IsLinkedWorld d.system d.world)
      (found : session_at d.world g.session ≡ Some s) (z : Replies promised c end d g s w) where
    abbrev slot : Slot
    slot = slot_replied g.section g.session

    replied_gives : (r : Resource) (section : Section) → given_by r (session_replied section s) ≤ donated r s
    replied_gives r Main = omega arith
    replied_gives r Opening = omega arith
    replied_gives r (Upgrading l) = omega arith
    replied_gives r (Calling l) = omega arith
    replied_gives r (Closing l) = omega arith
    replied_gives r (Reacting i) = omega arith

    replied_less : (r : Resource) (k : ℕ) → Less r d.world w k
    replied_less r k =
        elim (eqb_tells k g.session) [
          | inl f ↦ (
              let now = ap (λ k. given_by r (session_at w k)) f.1 in
              let then = ap (given_by r) z.session in
              let less = replied_gives r g.section in
              let before = ap (λ k. given_by r (session_at d.world k)) f.1 in
              let there = ap (given_by r) found in
              omega (arith, now, then, less, before, there))
          | inr f ↦ (let now = ap (given_by r) (z.sessions k f.1) in let same = then_gives r s.slot_id slot k (session_at d.world k) in omega
              (arith, now, same))
        ]

    -- the client's slot holds no more, and neither has it lent more
    replied_price : (r : Resource) (section : Section) → slot_price r (slot_replied section g.session) ≤ slot_price r (Waiting g.session)
    replied_price r Main = omega arith
    replied_price r Opening = omega arith
    replied_price r (Upgrading l) = omega arith
    replied_price r (Calling l) = omega arith
    replied_price r (Closing l) = omega arith
    replied_price r (Reacting i) = omega arith

    replied_given : (r : Resource) (section : Section) → slot_given r w (slot_replied section g.session) ≤ slot_given r d.world (Waiting g.session)
    replied_given r Main = omega arith
    replied_given r Opening = replied_less r g.session
    replied_given r (Upgrading l) = replied_less r g.session
    replied_given r (Calling l) = replied_less r g.session
    replied_given r (Closing l) = omega arith
    replied_given r (Reacting i) = omega arith

    waits_there : (y i : ℕ) → s.slot_id ≡ In_leaf y i → slice_get z.client.slots i ≡ Some (Waiting g.session)
    waits_there y i e =
        let client : y ≡ s.client = subst (λ q. Belongs (links d.world) q s.client) e (h.belongs g.session (outline s) (ap outline_in found)) in
        sym (ap (λ o. leaf_slot o i) (ap (slice_get d.world.leaves) client ∙ z.was)) ∙ (ap (slot_at d.world) (sym e) ∙ z.waited)

    client_holds : (b : Component) → slice_get d.system.components s.client ≡ Some b
        → HoldsWithin d.system w b (resuming z.client z.operands (own_then s.slot_id slot z.client.slots))
    client_holds b placed =
        let new = resuming z.client z.operands (own_then s.slot_id slot z.client.slots) in
        holds_less d.system d.world w b z.client new (held s.client b z.client placed z.was)
        (λ r. then_less r d.world w s.slot_id (Waiting g.session) slot z.client.slots waits_there (replied_price r g.section) (replied_given r g.section)
        (λ i n e. replied_less r (named n))) refl (resumed_none new z.client.current z.client.reacting)

    replies_hold : AllHold d.system w
    replies_hold =
        all_hold w
        (λ leaf there. subst (HoldsWithin d.system w d.component) (some_same (sym z.server ∙ there))
        (mine_less w (serving d.leaf) (λ r. slots_less r d.world w d.leaf.slots (λ i n e. replied_less r (named n))) refl tt))
        (λ y b leaf ne placed there. elim (eqb_tells y s.client) [
          | inl f ↦ subst (HoldsWithin d.system w b) (some_same (sym z.goes_on ∙ (ap (slice_get w.leaves) (sym f.1) ∙ there)))
              (client_holds b (ap (slice_get d.system.components) (sym f.1) ∙ placed))
          | inr f ↦ else_less w y b leaf placed (sym (z.leaves y ne f.1) ∙ there) (λ r i n e. replied_less r (named n))
        ])

  -- a section has ended
  pub ended_hold : (promised : ℕ → Option Kind) (h : IsLinkedWorld d.system d.world) (handles : (g : Current) → d.leaf.current ≡ Some g
      → d.leaf.phase ≡ Handling) (current : Option Current) → d.leaf.current ≡ current → (end last : AbstractState)
      → Meets promised (context v (section_of d.leaf.current d.leaf.reacting)) end d.world d.leaf
      → section_end v (section_of d.leaf.current d.leaf.reacting) end ≡ Ok last
      → (w : World) (event : Event) → section_ended d d.leaf.current d.leaf.reacting ≡ Ok (w, event) → AllHold d.system w
  ended_hold promised h handles None mine end last meets ends w event is =
      (own_ends d.leaf.reacting).holds w event (subst (λ o. section_ended d o d.leaf.reacting ≡ Ok (w, event)) mine is)
  ended_hold promised h handles (Some g) mine end last meets ends w event is =
      let handled = h.handles d.x d.leaf.phase g (stood d takes ∙ ap (λ o. Some (stance d.leaf.phase o)) mine) in
      let s = session_of_outline (session_at d.world g.session) handled.0 handled.1 in
      let m : Meets promised (context v g.section) end d.world d.leaf =
      subst (λ o. Meets promised (context v (section_of o d.leaf.reacting)) end d.world d.leaf) mine meets in
      let last_is : section_end v g.section end ≡ Ok last = subst (λ o. section_end v (section_of o d.leaf.reacting) end ≡ Ok last) mine ends in
      let ended : HasEnded promised (context v g.section) end d g s.0 w =
      record { meets = m; last = last; ends = last_is; at_current = mine; there = s.1; event = event; ended = is } in
      replies_hold promised (context v g.section) g s.0 end w h s.1 (replies_ruled promised (context v g.section) d takes h (handles g mine) end g s.0 w ended)
