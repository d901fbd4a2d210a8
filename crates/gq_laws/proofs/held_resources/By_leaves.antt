-- Each step of an accepted scenario keeps it that every leaf holds and has lent no more than at some point of `main`, also one that asks something of a
-- session.
use Rattle.std.proofs.Common.{◌≡◌, ◌≢◌, ◌≤◌, ℕ, inl, inr, Option, Some, Ok, refl, ap, sym, ◌∙◌, subst, arith}
use Rattle.std.specs.Prelude.{slice_get}
use Rattle.std.proofs.lemmas.Bool.Decides.{eqb_tells}
use Rattle.gq_tariff.specs.Prices.{classes}
use Rattle.gq_model.specs.machine.Amounts.{Resource}
use Rattle.gq_model.specs.declared.phase.Phase.TheVariants.{Blocked}
use Rattle.gq_model.specs.declared.program.Instruction.{Instruction}
use Rattle.gq_model.specs.declared.program.Instruction.TheVariants.{Open, Upgrade, Call, Close}
use Rattle.gq_model.specs.machine.Lists.{greatest}
use Rattle.gq_model.specs.machine.Scenario.{Component}
use Rattle.gq_model.specs.machine.World.{Waiting, Link, In_leaf, Session, Ask, Leaf, World, session_at, slot_at, leaf_slot, section_of}
use Rattle.gq_model.specs.machine.Doing.{Doing, Event}
use Rattle.gq_model.specs.machine.Step.{section_for, instruct, level_then}
use Rattle.gq_model.specs.rules.Kinds.{Kind, AbstractState, Context, kinds_cost}
use Rattle.gq_model.specs.rules.Use.{subject}
use Rattle.gq_laws.specs.Session_links.{Waits, named, naming_in, Belongs, outline_in, links, IsLinkedWorld}
use Rattle.gq_laws.specs.internal.Lending.{given_by}
use Rattle.gq_laws.specs.Inside_steps.{TakesLeaf}
use Rattle.gq_laws.specs.Asking.{IsServed, Awaits, promised_anew}
use Rattle.gq_laws.specs.Typing.{StandsBy, IsTypedBy}
use Rattle.gq_laws.specs.internal.Verified_holdings.{IsBounded, main_points, own_part, PeaksWithin, HoldsWithin, AllHold}
use Rattle.gq_model.proofs.Small_facts.{some_same}
use Rattle.gq_laws.proofs.verified_programs.Kind_costs.{NoClose, StaysOpen}
use Rattle.gq_laws.proofs.typed_worlds.Asked_worlds.{IsMine, Asked, asks_asked}
use Rattle.gq_laws.proofs.typed_worlds.Asked_rule_changes.{asked_here}
use Rattle.gq_laws.proofs.typed_worlds.Typed_world_step.{Outcome, Idles, Goes_on, Has_asked, Has_taken, Has_reacted, Has_ended, with_rest, not_blocked}
use Rattle.gq_laws.proofs.typed_worlds.Typed_world_step.{handling}
use Rattle.gq_laws.proofs.typed_worlds.Bounded_typed_step.{goes_bounded, asked_bounded}
use Rattle.gq_laws.proofs.held_resources.Leaf_peaks_step.{peaks_asked}
use Rattle.gq_laws.proofs.held_resources.Own_slot_bounds.{own_bounded, no_close_each}
use Rattle.gq_laws.proofs.held_resources.Less_held_sums.{Less, part_in, then_less, then_gives, blocked_none}
use Rattle.gq_laws.proofs.held_resources.Leaf_holdings_step.{part_was, peaks_were, else_less, all_hold, goes_hold, taken_hold, reacted_hold, ended_hold}
use Rattle.gq_laws.proofs.verified_programs.Sure_system_facts.{IsSure}

-- ASKED

module _ (d : Doing) (takes : TakesLeaf d) (peaks : d.leaf.peaks ≡ takes.old.peaks) (at : slice_get d.system.components d.x ≡ Some d.component)
    (held : AllHold d.system d.world) (i : Instruction) (k : ℕ) (s : Session) (w : World) (a : Asked d i k s w) where
  -- for other sessions the same was given
  else_less_given : (r : Resource) (j : ℕ) → j ≢ k → Less r d.world w j
  else_less_given r j ne = let now = ap (given_by r) (a.sessions j ne) in let same = then_gives r a.q (Waiting k) j (session_at d.world j) in
      omega (arith, now, same)

  -- no slot of another leaf names the session
  else_holds : (y : ℕ) (c : Component) (leaf : Leaf) → y ≢ d.x → slice_get d.system.components y ≡ Some c → slice_get w.leaves y ≡ Some leaf
      → HoldsWithin d.system w c leaf
  else_holds y c leaf ne placed there =
      let before = sym (a.leaves y ne) ∙ there in
      else_less d takes peaks at held w y c leaf placed before (λ r j n e.
      else_less_given r (named n) (a.free.names (In_leaf y j) n (λ q. ne (subst (IsMine d.x d.leaf.current) (sym q) a.mine))
      (ap (λ o. naming_in (leaf_slot o j)) before ∙ e)))

  -- THE SESSION STAYS AS IT WAS

  link_there : slot_at d.world a.q ≡ Some (Link k) → (y j : ℕ) → a.q ≡ In_leaf y j → slice_get d.leaf.slots j ≡ Some (Link k)
  link_there link y j e =
      let mine : y ≡ d.x = subst (IsMine d.x d.leaf.current) e a.mine in
      ap (λ l. slice_get l j) takes.slots ∙ (sym (ap (λ o. leaf_slot o j) (ap (slice_get d.world.leaves) mine ∙ takes.there))
      ∙ (ap (slot_at d.world) (sym e) ∙ link))

  same_part : session_at d.world k ≡ Some s → slot_at d.world a.q ≡ Some (Link k) → (r : Resource) → own_part r w a.leaf ≤ own_part r d.world d.leaf
  same_part there link r =
      let slots = ap (part_in r d.world w w) a.slots in
      let less = then_less r d.world w a.q (Link k) (Waiting k) d.leaf.slots (link_there link) (omega arith) (given k) (λ j n e. given (named n)) in
      omega (arith, slots, less)
    where
      given : (j : ℕ) → Less r d.world w j
      given j =
          elim (eqb_tells j k) [
            | inl f ↦ (
                let now = ap (λ j. given_by r (session_at w j)) f.1 in
                let here = ap (given_by r) a.found in
                let before = ap (λ j. given_by r (session_at d.world j)) f.1 in
                let was = ap (given_by r) there in
                omega (arith, now, here, before, was))
            | inr f ↦ else_less_given r j f.1
          ]

  -- THE SESSION STAYS OPEN

  module _ (h : IsLinkedWorld d.system w) where
    waits_alone : (j n : ℕ) → slot_at w (In_leaf d.x j) ≡ Some (Waiting n) → n ≡ k
    waits_alone j n e =
        let first = h.named (In_leaf d.x j) (Waits n) (ap naming_in e) in
        let second = h.named a.q (Waits k) (ap naming_in a.now) in
        let mine : d.x ≡ first.0.client = subst (λ q. Belongs (links w) q first.0.client) first.2 (h.belongs n first.0 first.1) in
        let its : second.0.client ≡ d.x = ap (λ (u : Session). u.client) (some_same (sym second.1 ∙ ap outline_in a.found)) ∙ a.client in
        h.alone n k first.0 second.0 first.1 second.1 (ap (links w).slots first.2 ∙ ap naming_in e) (ap (links w).slots second.2 ∙ ap naming_in a.now) (sym mine
        ∙ sym its)

    open_each : StaysOpen (Some (section_for a.ask (level_then a.ask s.level))) → (j n : ℕ) → slot_at w (In_leaf d.x j) ≡ Some (Waiting n)
        → NoClose w (Waiting n)
    open_each stays j n e = subst (λ n. NoClose w (Waiting n)) (sym (waits_alone j n e))
        (s, a.found, subst StaysOpen (sym (asked_here d takes i k s w a)) stays)

    open_part : (sure : IsSure d.system) (promised : ℕ → Option Kind) → IsTypedBy promised (IsBounded d.system) d.system w → a.leaf.phase ≡ Blocked
        → StaysOpen (Some (section_for a.ask (level_then a.ask s.level)))
        → (r : Resource) → own_part r w a.leaf ≤ greatest (λ (u : AbstractState). kinds_cost r u.own) (main_points (subject d.system d.component))
    open_part sure promised t phase stays =
        own_bounded promised d.system sure w t d.x d.component at a.leaf Blocked (section_of a.leaf.current a.leaf.reacting)
        (subst (StandsBy promised (IsBounded d.system) d.system w d.x d.component a.leaf) phase (t.leaves d.x d.component a.leaf at a.there))
        (no_close_each promised d.system w h t.reports d.x a.leaf a.there (open_each stays))

-- the section that is asked for leaves the session open
opens : (ask other : Ask) (level : ℕ) → ask ≡ other → StaysOpen (Some (section_for other (level_then other level)))
    → StaysOpen (Some (section_for ask (level_then ask level)))
opens ask other level e h = subst (λ ask. StaysOpen (Some (section_for ask (level_then ask level)))) (sym e) h

module _ (d : Doing) (takes : TakesLeaf d) (peaks : d.leaf.peaks ≡ takes.old.peaks) (at : slice_get d.system.components d.x ≡ Some d.component)
    (held : AllHold d.system d.world) (sure : IsSure d.system) (promised : ℕ
    → Option Kind) (w : World) (h : IsLinkedWorld d.system w) (t : IsTypedBy promised (IsBounded d.system) d.system w) (k : ℕ) (s : Session) where
  part_asked : (i : Instruction) (a : Asked d i k s w) → a.leaf.phase ≡ Blocked → IsServed d i → (r : Resource)
      → own_part r w a.leaf ≤ greatest (λ (u : AbstractState). kinds_cost r u.own) (main_points (subject d.system d.component))
  part_asked (Open place service n) a phase served = open_part d takes peaks at held (Open place service n) k s w a h sure promised t phase
      (opens a.ask _ s.level a.is tt)
  part_asked (Upgrade place n) a phase served = open_part d takes peaks at held (Upgrade place n) k s w a h sure promised t phase
      (opens a.ask _ s.level a.is tt)
  part_asked (Call place) a phase served = open_part d takes peaks at held (Call place) k s w a h sure promised t phase (opens a.ask _ s.level a.is.1 tt)
  part_asked (Close place) a phase served = λ r. (let less = same_part d takes peaks at held (Close place) k s w a a.was.0 a.was.1 r in
      let most = part_was d takes peaks at held r in omega (arith, less, most))
  part_asked i a phase served = absurd served

  asked_holds : (i : Instruction) (a : Asked d i k s w) → a.leaf.phase ≡ Blocked → IsServed d i → (event : Event) → instruct d i ≡ Ok (w, event)
      → AllHold d.system w
  asked_holds i a phase served event is =
      all_hold d takes peaks at held w (λ leaf there. subst (HoldsWithin d.system w d.component) (some_same (sym a.there ∙ there)) (record {
        own = part_asked i a phase served;
        peaks = subst (PeaksWithin (main_points (subject d.system d.component)) classes) (sym (peaks_asked d takes peaks i served w event is a.leaf a.there))
            (peaks_were d takes peaks at held);
        none = blocked_none a.leaf a.leaf.phase phase;
      })) (else_holds d takes peaks at held i k s w a)

-- a statement that asks something of a session
pub asked_hold : (d : Doing) (takes : TakesLeaf d) → d.leaf.peaks ≡ takes.old.peaks → slice_get d.system.components d.x ≡ Some d.component
    → AllHold d.system d.world → IsSure d.system → (promised : ℕ → Option Kind) (c : Context) (new : AbstractState) (i : Instruction) → IsServed d i
    → IsLinkedWorld d.system d.world → d.leaf.phase ≢ Blocked
    → (w : World) (event : Event) → instruct d i ≡ Ok (w, event) → (b : Awaits promised c new i d w) → IsLinkedWorld d.system w
    → IsTypedBy (promised_anew promised b.k b.kind) (IsBounded d.system) d.system w → AllHold d.system w
asked_hold d takes peaks at held sure promised c new i served linked active w event is b h t =
    let a = (asks_asked promised c d i new takes linked active at w event is b).0 in
    asked_holds d takes peaks at held sure (promised_anew promised b.k b.kind) w h t b.k b.session i a
    (ap (λ (l : Leaf). l.phase) (some_same (sym a.there ∙ b.there)) ∙ b.phase) served event is

-- STEPS

-- every step keeps what leaves hold within what was verified
pub leaves_hold : (promised : ℕ → Option Kind) (d : Doing) → IsSure d.system → (takes : TakesLeaf d) → d.leaf.peaks ≡ takes.old.peaks
    → IsLinkedWorld d.system d.world → IsTypedBy promised (IsBounded d.system) d.system d.world → slice_get d.system.components d.x ≡ Some d.component
    → AllHold d.system d.world → (w : World) → IsLinkedWorld d.system w → Outcome promised (IsBounded d.system) d w → AllHold d.system w
leaves_hold promised d sure takes peaks h t at held w linked (Idles same) = subst (AllHold d.system) (sym same) held
leaves_hold promised d sure takes peaks h t at held w linked (Goes_on a inside others leads event is) =
    goes_hold d takes peaks at held sure promised w linked
    (goes_bounded promised d sure takes h t at w a others leads) a.active inside others event is leads.leaf leads.there leads.phase
leaves_hold promised d sure takes peaks h t at held w linked (Has_asked a i rest first served new judges goes_on event is awaits) =
    let taken : TakesLeaf (with_rest d rest) =
    record { old = takes.old; there = takes.there; slots = takes.slots; phase = takes.phase; current = takes.current; reacting = takes.reacting } in
    asked_hold (with_rest d rest) taken peaks at held sure promised _ new i served h
    (not_blocked promised (IsBounded d.system) d sure takes h t at a.active) w event is awaits linked
    (asked_bounded promised d sure takes h t at w a i rest first served new judges goes_on event is awaits)
leaves_hold promised d sure takes peaks h t at held w linked (Has_taken serves r rest first event is) = taken_hold d takes peaks at held r rest w event is
leaves_hold promised d sure takes peaks h t at held w linked (Has_reacted serves i signals first event is) =
    reacted_hold d takes peaks at held i signals w event is
leaves_hold promised d sure takes peaks h t at held w linked (Has_ended a done out last meets ends event is) =
    ended_hold d takes peaks at held promised h (λ g mine. handling promised (IsBounded d.system) d sure takes h t at g mine a.active) d.leaf.current refl a.end
    last meets ends w event is
