-- Whatever a step does, what sessions cost and were given stays within what they need.
use Rattle.std.proofs.Common.{◌≡◌, ℕ, Option, Some, None, Ok, refl, ap, sym, ◌∙◌, subst}
use Rattle.std.specs.Prelude.{slice_get}
use Rattle.gq_model.specs.machine.World.{Current, World, session_at, section_of}
use Rattle.gq_model.specs.machine.Doing.{Doing, Event}
use Rattle.gq_model.specs.machine.Step.{section_ended}
use Rattle.gq_model.specs.rules.Kinds.{Kind, AbstractState}
use Rattle.gq_model.specs.rules.Flow.{context, section_end}
use Rattle.gq_model.specs.rules.Use.{subject}
use Rattle.gq_laws.specs.Session_links.{stance, IsLinkedWorld}
use Rattle.gq_laws.specs.Typed.{Meets}
use Rattle.gq_laws.specs.Inside_steps.{TakesLeaf}
use Rattle.gq_laws.specs.Asking.{promised_anew}
use Rattle.gq_laws.specs.Typing.{IsTypedBy}
use Rattle.gq_laws.specs.internal.Verified_holdings.{IsBounded}
use Rattle.gq_laws.proofs.verified_programs.Sure_system_facts.{IsSure}
use Rattle.gq_laws.proofs.typed_worlds.Typed_world_promises.{stood}
use Rattle.gq_laws.proofs.session_links.Linked_after_reply.{session_of_outline}
use Rattle.gq_laws.proofs.typed_worlds.Typed_world_step.{Acts, Outcome, Idles, Goes_on, Has_asked, Has_taken, Has_reacted, Has_ended}
use Rattle.gq_laws.proofs.held_resources.Session_cost_parts.{AreHeld}
use Rattle.gq_laws.proofs.held_resources.Session_costs_step.{goes_held, taken_held, own_held, reacted_held, replied_held}
use Rattle.gq_laws.proofs.held_resources.Asking_costs_held.{asked_held}

module _ (promised : ℕ → Option Kind) (d : Doing) (sure : IsSure d.system) (takes : TakesLeaf d) (h : IsLinkedWorld d.system d.world)
    (t : IsTypedBy promised (IsBounded d.system) d.system d.world) (at : slice_get d.system.components d.x ≡ Some d.component) (held : AreHeld d.system d.world)
    (w : World) (linked : IsLinkedWorld d.system w) where
  -- the world after the step is typed: by the same promises, but for the session that is asked
  abbrev pub TypedAfter : Outcome promised (IsBounded d.system) d w → Type 0
  TypedAfter (Idles same) = IsTypedBy promised (IsBounded d.system) d.system w
  TypedAfter (Goes_on a inside others leads event is) = IsTypedBy promised (IsBounded d.system) d.system w
  TypedAfter (Has_asked a i rest first served new judges goes_on event is awaits) =
      IsTypedBy (promised_anew promised awaits.k awaits.kind) (IsBounded d.system) d.system w
  TypedAfter (Has_taken serves r rest first event is) = IsTypedBy promised (IsBounded d.system) d.system w
  TypedAfter (Has_reacted serves i signals first event is) = IsTypedBy promised (IsBounded d.system) d.system w
  TypedAfter (Has_ended a done out last meets ends event is) = IsTypedBy promised (IsBounded d.system) d.system w

  pub ended_held : IsTypedBy promised (IsBounded d.system) d.system w → (current : Option Current) → d.leaf.current ≡ current
      → (a : Acts promised (IsBounded d.system) d) (last : AbstractState)
      → Meets promised (context (subject d.system d.component) (section_of d.leaf.current d.leaf.reacting)) a.end d.world d.leaf
      → section_end (subject d.system d.component) (section_of d.leaf.current d.leaf.reacting) a.end ≡ Ok last → (event : Event)
      → section_ended d d.leaf.current d.leaf.reacting ≡ Ok (w, event)
      → AreHeld d.system w
  ended_held typed None mine a last meets ends event is =
      own_held promised d sure takes h t at held w linked typed event d.leaf.reacting (subst (λ o. section_ended d o d.leaf.reacting ≡ Ok (w, event)) mine is)
  ended_held typed (Some g) mine a last meets ends event is =
      let handled = h.handles d.x d.leaf.phase g (stood d takes ∙ ap (λ o. Some (stance d.leaf.phase o)) mine) in
      let s = session_of_outline (session_at d.world g.session) handled.0 handled.1 in
      replied_held promised d sure takes h t at held w linked typed g s.0 mine s.1 a last meets ends event is

  pub outcome_held : (o : Outcome promised (IsBounded d.system) d w) → TypedAfter o → AreHeld d.system w
  outcome_held (Idles same) typed = subst (AreHeld d.system) (sym same) held
  outcome_held (Goes_on a inside others leads event is) typed = goes_held promised d sure takes h t at held w linked typed a others leads
  outcome_held (Has_asked a i rest first served new judges goes_on event is awaits) typed =
      asked_held promised d sure takes h t at held w linked a i rest new judges event is awaits typed
  outcome_held (Has_taken serves r rest first event is) typed = taken_held promised d sure takes h t at held w linked typed serves r rest first event is
  outcome_held (Has_reacted serves i signals first event is) typed = reacted_held promised d sure takes h t at held w linked typed i signals event is
  outcome_held (Has_ended a done out last meets ends event is) typed = ended_held typed d.leaf.current refl a last meets ends event is
