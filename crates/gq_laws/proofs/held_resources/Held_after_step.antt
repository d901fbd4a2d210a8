-- After a step of a typed world all is held within what was verified, and the world is typed.
use Rattle.std.proofs.Common.{◌≡◌, ℕ, Option, Some, sym, subst}
use Rattle.std.specs.Prelude.{slice_get}
use Rattle.gq_model.specs.machine.World.{World}
use Rattle.gq_model.specs.machine.Doing.{Doing}
use Rattle.gq_model.specs.rules.Kinds.{Kind}
use Rattle.gq_laws.specs.Session_links.{IsLinkedWorld}
use Rattle.gq_laws.specs.Inside_steps.{TakesLeaf}
use Rattle.gq_laws.specs.Asking.{promised_anew}
use Rattle.gq_laws.specs.Typing.{IsTypedBy}
use Rattle.gq_laws.specs.internal.Verified_holdings.{IsBounded, IsHeld}
use Rattle.gq_laws.proofs.verified_programs.Sure_system_facts.{IsSure}
use Rattle.gq_laws.proofs.typed_worlds.Typed_world_step.{Outcome, Idles, Goes_on, Has_asked, Has_taken, Has_reacted, Has_ended}
use Rattle.gq_laws.proofs.typed_worlds.Bounded_typed_step.{goes_bounded, asked_bounded, taken_bounded, reacted_bounded, ended_bounded}
use Rattle.gq_laws.proofs.held_resources.By_leaves.{leaves_hold}
use Rattle.gq_laws.proofs.held_resources.By_sessions.{TypedAfter, outcome_held}

module _ (promised : ℕ → Option Kind) (d : Doing) (sure : IsSure d.system) (takes : TakesLeaf d) (peaks : d.leaf.peaks ≡ takes.old.peaks)
    (h : IsLinkedWorld d.system d.world) (t : IsTypedBy promised (IsBounded d.system) d.system d.world)
    (at : slice_get d.system.components d.x ≡ Some d.component)
    (held : IsHeld d.system d.world) (w : World) (linked : IsLinkedWorld d.system w) where
  pub typed_after : (o : Outcome promised (IsBounded d.system) d w) → TypedAfter promised d sure takes h t at (held.sessions, held.requests) w linked o
  typed_after (Idles same) = subst (IsTypedBy promised (IsBounded d.system) d.system) (sym same) t
  typed_after (Goes_on a inside others leads event is) = goes_bounded promised d sure takes h t at w a others leads
  typed_after (Has_asked a i rest first served new judges goes_on event is awaits) =
      asked_bounded promised d sure takes h t at w a i rest first served new judges goes_on event is awaits
  typed_after (Has_taken serves r rest first event is) = taken_bounded promised d sure takes h t at w serves r rest first event is
  typed_after (Has_reacted serves i signals first event is) = reacted_bounded promised d sure takes h t at w serves i signals event is
  typed_after (Has_ended a done out last meets ends event is) = ended_bounded promised d sure takes h t at w a last meets ends event is

  -- the promises that the world is typed by then
  pub typed_then : (o : Outcome promised (IsBounded d.system) d w) → (p : ℕ → Option Kind) × IsTypedBy p (IsBounded d.system) d.system w
  typed_then o = by o (typed_after o)
    where
      by : (o : Outcome promised (IsBounded d.system) d w) → TypedAfter promised d sure takes h t at (held.sessions, held.requests) w linked o
          → (p : ℕ → Option Kind) × IsTypedBy p (IsBounded d.system) d.system w
      by (Idles same) typed = (promised, typed)
      by (Goes_on a inside others leads event is) typed = (promised, typed)
      by (Has_asked a i rest first served new judges goes_on event is awaits) typed = (promised_anew promised awaits.k awaits.kind, typed)
      by (Has_taken serves r rest first event is) typed = (promised, typed)
      by (Has_reacted serves i signals first event is) typed = (promised, typed)
      by (Has_ended a done out last meets ends event is) typed = (promised, typed)

  pub held_after : Outcome promised (IsBounded d.system) d w → IsHeld d.system w
  held_after o =
      let sessions = outcome_held promised d sure takes h t at (held.sessions, held.requests) w linked o (typed_after o) in
      record {
        leaves = leaves_hold promised d sure takes peaks h t at held.leaves w linked o;
        sessions = sessions.0;
        requests = sessions.1;
      }
