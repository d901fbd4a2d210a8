-- A step of a leaf inside that is not wrong in the one world is not wrong in the other, where all leaves are paid for.
use Rattle.std.proofs.Common.{◌≡◌, ◌+◌, ℕ, Bool, true, false, not, [], Option, Some, None, Ok, refl, ap, sym, ◌∙◌, subst, arith}
use Rattle.std.specs.Prelude.{option_map, slice_get}
use Rattle.gq_model.specs.machine.Scenario.{System, Component, Scenario, system}
use Rattle.gq_model.specs.machine.World.{Leaf, World}
use Rattle.gq_model.specs.machine.Sums.{are_paid, paid}
use Rattle.gq_model.specs.machine.Doing.{Event}
use Rattle.gq_model.specs.machine.Requests.{free_place}
use Rattle.gq_model.specs.machine.Step.{next}
use Rattle.gq_model.proofs.Small_facts.{some_same, some_none}
use Rattle.gq_laws.specs.Names.{NamesDiffer}
use Rattle.gq_laws.specs.Session_links.{IsLinkedWorld}
use Rattle.gq_laws.specs.internal.Uncounted.{uncounted}
use Rattle.gq_laws.proofs.held_resources.Uncounted_resource_step.{step_paid, step_same}
use Rattle.gq_laws.proofs.quota_payment.Written_world_prices.{paid_one, paid_all}
use Rattle.gq_laws.proofs.quota_payment.Paid_worlds.{kept_paid}
use Rattle.gq_laws.specs.Separation.{IsApart, IsUntouched}
use Rattle.gq_laws.proofs.Group_account_sums.{paid_same as untouched_paid}
use Rattle.gq_laws.proofs.Outside_step_untouched.{step_untouched}
use Rattle.gq_laws.specs.Renamed.{renamed_leaf}
use Rattle.gq_laws.specs.internal.Corresponding.{IsSame}
use Rattle.gq_laws.proofs.Renamed_session_sums.{paid_same}
use Rattle.gq_laws.proofs.Inside_section_steps.{both_next}

-- routes are the same where nothing is counted
linked_same : (system : System) (w : World) → IsLinkedWorld system w → IsLinkedWorld (uncounted system) w
linked_same system w h =
    record {
      stands = h.stands;
      named = h.named;
      belongs = h.belongs;
      routed = h.routed;
      opens = h.opens;
      objects = h.objects;
      asked = h.asked;
      handles = h.handles;
      fits = h.fits;
      waits = h.waits;
      alone = h.alone;
      blocked = h.blocked;
    }

-- and nothing is left unpaid
all_pay : (system : System) (z : World) → paid (uncounted system) z ≡ true
all_pay system z = paid_all [] z 0 system.components z.leaves (λ i c leaf e f x at. refl)

module _ (s : Scenario) (group : ℕ → Bool) (apart : IsApart (system s) group) where
  abbrev real : System
  real = system s

  -- the leaves outside
  others : ℕ → Bool
  others y = not (group y)

  apart_group : IsApart (uncounted real) group
  apart_group = record { routes = apart.routes; afters = apart.afters }

  apart_others : IsApart (uncounted real) others
  unfolding others
  apart_others =
      record {
        routes = λ x y c service placed routed. ap not (apart.routes x y c service placed routed);
        afters = λ x y c d placed at named. ap not (apart.afters x y c d placed at named);
      }

  mapped : (f : ℕ → ℕ) (o : Option Leaf) (leaf : Leaf) → option_map (renamed_leaf f) o ≡ Some leaf → (l : Leaf) × (o ≡ Some l) × (renamed_leaf f l ≡ leaf)
  mapped f None leaf e = absurd (some_none (sym e))
  mapped f (Some l) leaf e = (l, refl, some_same e)

  -- leaves inside are paid for as in the one world, leaves outside as they were in the other
  all_paid_for : (f : ℕ → ℕ) (w v z : World) → IsSame group f w z → IsUntouched others v z → paid real w ≡ true → paid real v ≡ true → paid real z ≡ true
  unfolding others
  all_paid_for f w v z h untouched pays pays_v =
      paid_all real.counted z 0 real.components z.leaves (λ i c leaf placed there x at.
      subst (λ x. are_paid z x c leaf real.counted ≡ true) (sym (same x i at)) (by i c leaf placed there (group i) refl))
    where
      same : (x i : ℕ) → x ≡ 0 + i → x ≡ i
      same x i e = omega (arith, e)

      by : (i : ℕ) (c : Component) (leaf : Leaf) → slice_get real.components i ≡ Some c → slice_get z.leaves i ≡ Some leaf → (b : Bool) → group i ≡ b
          → are_paid z i c leaf real.counted ≡ true
      by i c leaf placed there true inside =
          let l = mapped f (slice_get w.leaves i) leaf (sym (h.leaves i inside) ∙ there) in
          ap (λ leaf. are_paid z i c leaf real.counted) (sym l.2)
          ∙ (paid_same f group w z h i inside c l.0 real.counted
          ∙ paid_one real.counted w 0 real.components w.leaves pays i c l.0 placed l.1 i (omega arith))
      by i c leaf placed there false out =
          untouched_paid others i (ap not out) v z untouched c leaf real.counted
          ∙ paid_one real.counted v 0 real.components v.leaves pays_v i c leaf placed (sym (untouched.leaves i (ap not out)) ∙ there) i (omega arith)

  -- both worlds after a step of a leaf inside
  pub record Steps (f : ℕ → ℕ) (v : World) (x : ℕ) (new : World) (event : Event) : Type 0 where
    pub other : World
    pub stepped : next real v x ≡ Ok (other, event)
    pub same : IsSame group f new other
    pub pays : paid real new ≡ true
    pub pays_other : paid real other ≡ true

  pub both_step : NamesDiffer s → (f : ℕ → ℕ) (w v : World) (x : ℕ) (new : World) (event : Event) → IsLinkedWorld real w → IsLinkedWorld real v
      → paid real w ≡ true → paid real v ≡ true → group x ≡ true → IsSame group f w v → f (free_place w.sessions) ≡ free_place v.sessions
      → next real w x ≡ Ok (new, event) → Steps f v x new event
  unfolding others
  both_step differ f w v x new event linked linked_v pays pays_v inside h fresh e =
      let both = both_next (uncounted real) group f w v x (linked_same real w linked) (linked_same real v linked_v) apart_group inside (all_pay real) h fresh in
      let b = both.holds new event (step_same real w x new event e) in
      let pays_new = kept_paid s differ w x new event linked pays e in
      let untouched = step_untouched others (uncounted real) v x b.0 event (linked_same real v linked_v) apart_others (ap not inside) b.1 in
      let pays_other = all_paid_for f new v b.0 b.2 untouched pays_new pays_v in
      record { other = b.0; stepped = step_paid real v x b.0 event b.1 pays_other; same = b.2; pays = pays_new; pays_other = pays_other }
