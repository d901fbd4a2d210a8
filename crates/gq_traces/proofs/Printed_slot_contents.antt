-- Places of the heap that are reported class by class.
use Rattle.std.proofs.Common.{◌≡◌, ◌∙◌, ◌<◌, ◌≤◌, ◌+◌, ℕ, zero, suc, Bool, List, [], ◌∷◌, length, drop, Option, Some, None, IfSome, refl, ap, sym, subst}
use Rattle.std.proofs.Common.{arith}
use Rattle.std.specs.Prelude.{slice_get, slice_index}
use Rattle.gq_tariff.specs.Prices.{classes}
use Rattle.gq_model.specs.machine.World.{Leaf}
use Rattle.gq_model.proofs.Small_facts.{none_some, some_same}
use Rattle.gq_output.specs.declared.counted.Counted.{Counted}
use Rattle.gq_machine.specs.Machines.{Machine}
use Rattle.gq_traces.specs.Account_state.{items_text, place_items, places_items}
use Rattle.gq_traces.specs.internal.Slot_items.{Prints_items}
use Rattle.gq_traces.specs.internal.Printed_steps.{Goes}
use Rattle.gq_traces.proofs.Printed_items.{items_both}
use Rattle.gq_traces.proofs.So_far.{So_far, next_one, none_left, reported_end, printed_first, printed_next}

module _ {W : Type 0} (contents : W → Option (List ℕ)) (m : Machine) (x : ℕ) where
  -- the classes so far were reported
  abbrev pub Places_so_far : Counted W → Counted W → Bool → Bool → ℕ → Type 0
  Places_so_far old new was now i = (l : Leaf) → slice_get m.world.leaves x ≡ Some l
      → So_far contents old new was now (items_text m.scenario.version (places_items (drop i classes) (drop i l.peaks)))
      (items_text m.scenario.version (places_items classes l.peaks))

  pub places_first : (out : Counted W) (was : Bool) → Places_so_far out out was was 0
  places_first out was l there = printed_first contents out was _

  at_index : (xs : List ℕ) (i n : ℕ) → slice_get xs i ≡ Some n → slice_index xs i ≡ n
  at_index [] i n e = absurd (none_some e)
  at_index (y ∷ xs) zero n e = some_same e
  at_index (y ∷ xs) (suc i) n e = at_index xs i n e

  pub places_next : (a b c : Counted W) (y z u : Bool) (i size peak : ℕ) → i < 8 → IfSome (slice_get m.world.leaves x) (λ l. length l.peaks ≡ 8)
      → slice_get classes i ≡ Some size → IfSome (slice_get m.world.leaves x) (λ l. peak ≡ slice_index l.peaks i) → Places_so_far a b y z i
      → Goes contents b c z u (items_text m.scenario.version (place_items size peak)) → Places_so_far a c y u (i + 1)
  places_next a b c y z u i size peak less long at read so_far reported l there =
      let eight = subst (λ (o : Option Leaf). IfSome o (λ l. length l.peaks ≡ 8)) there long in
      let is = subst (λ (o : Option Leaf). IfSome o (λ l. peak ≡ slice_index l.peaks i)) there read in
      let k = next_one classes i less in
      let p = next_one l.peaks i (omega (arith, eight, less)) in
      let later = places_items (drop (i + 1) classes) (drop (i + 1) l.peaks) in
      let same = some_same (sym k.is ∙ at) in
      printed_next contents a b c y z u (items_text m.scenario.version (place_items k.here p.here)) (items_text m.scenario.version later) _ _
      ((λ j. items_text m.scenario.version (places_items (k.next j) (p.next j))) ∙ sym (items_both m.scenario.version (place_items k.here p.here) later))
      (so_far l there)
      (subst (λ n. Goes contents b c z u (items_text m.scenario.version (place_items k.here n))) (is ∙ at_index l.peaks i p.here p.is)
      (subst (λ n. Goes contents b c z u (items_text m.scenario.version (place_items n peak))) (sym same) reported))

  pub places_end : (a b : Counted W) (y z : Bool) (i : ℕ) → 8 ≤ i → Places_so_far a b y z i
      → IfSome (slice_get m.world.leaves x) (λ l. Prints_items contents a b y z m (places_items classes l.peaks))
  places_end a b y z i least so_far = by (slice_get m.world.leaves x) refl
    where
      by : (o : Option Leaf) → slice_get m.world.leaves x ≡ o → IfSome o (λ l. Prints_items contents a b y z m (places_items classes l.peaks))
      by None e = tt
      by (Some l) e =
          reported_end contents a b y z _ _ (ap (λ cs. items_text m.scenario.version (places_items cs (drop i l.peaks))) (none_left classes i least))
          (so_far l e)
