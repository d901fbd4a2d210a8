-- What is known of leaves and sessions of a world that a sound scenario comes to.
use Rattle.std.proofs.Common.{◌≡◌, ◌<◌, ℕ, zero, suc, List, [], ◌∷◌, length, Option, Some, None, IfSome, refl, ap, sym, subst, arith}
use Rattle.std.proofs.Math.Logic.{∥∥₁_elim}
use Rattle.std.specs.Coded.{Coded-set, coded_ℕ}
use Rattle.std.specs.Prelude.{option_map, slice_get}
use Rattle.gq_laws.specs.Shapes.{Each, IsWholeLeaf, IsWholeSession}
use Rattle.gq_laws.specs.Stands.{Stands}
use Rattle.gq_model.specs.machine.Scenario.{Scenario, components}
use Rattle.gq_model.specs.machine.World.{Leaf, Session, World, joined, session_at}
use Rattle.gq_model.proofs.Small_facts.{none_some, some_same}
use Rattle.gq_machine.specs.Machines.{Machine}
use Rattle.gq_traces.specs.internal.Slot_items.{HasBank, IsStanding}
use Rattle.gq_traces.specs.declared.items.SlotRow.TheVariants.{OfLeaf, OfSession}

each_at : {A : Type 0} (P : A → Type 0) (xs : List A) (x : ℕ) (a : A) → Each P xs → slice_get xs x ≡ Some a → P a
each_at P [] x a h e = absurd (none_some e)
each_at P (b ∷ xs) zero a h e = subst P (some_same e) h.0
each_at P (b ∷ xs) (suc x) a h e = each_at P xs x a h.1 e

session_in : (xs : List (Option Session)) (k : ℕ) (s : Session) → joined (slice_get xs k) ≡ Some s → slice_get xs k ≡ Some (Some s)
session_in xs k s e = by (slice_get xs k) e
  where
    by : (o : Option (Option Session)) → joined o ≡ Some s → o ≡ Some (Some s)
    by None e = absurd (none_some e)
    by (Some t) e = ap Some e

pub there_is : {A : Type 0} (xs : List A) (x : ℕ) → x < length xs → (a : A) × (slice_get xs x ≡ Some a)
there_is [] x less = absurd (omega (arith, less))
there_is (a ∷ xs) zero less = (a, refl)
there_is (a ∷ xs) (suc x) less = there_is xs x (omega (arith, less))

module _ (m : Machine) (stands : IsStanding m) where
  pub leaves_are : length m.world.leaves ≡ length (components m.scenario)
  leaves_are = ∥∥₁_elim stands (Coded-set coded_ℕ (length m.world.leaves) (length (components m.scenario))) (λ h. h.whole.count)

  slots_long : (x : ℕ) (l : Leaf) → slice_get m.world.leaves x ≡ Some l → length l.slots ≡ 64
  slots_long x l there =
      ∥∥₁_elim stands (Coded-set coded_ℕ (length l.slots) 64) (λ h. (each_at IsWholeLeaf m.world.leaves x l h.whole.leaves there).0)

  pub peaks_long : (x : ℕ) (l : Leaf) → slice_get m.world.leaves x ≡ Some l → length l.peaks ≡ 8
  peaks_long x l there =
      ∥∥₁_elim stands (Coded-set coded_ℕ (length l.peaks) 8) (λ h. (each_at IsWholeLeaf m.world.leaves x l h.whole.leaves there).2)

  bank_long : (k : ℕ) (s : Session) → session_at m.world k ≡ Some s → length s.slots ≡ 8
  bank_long k s there =
      ∥∥₁_elim stands (Coded-set coded_ℕ (length s.slots) 8)
      (λ h. (each_at (IsWholeSession (length (components m.scenario))) m.world.sessions k (Some s) h.whole.sessions (session_in m.world.sessions k s there)).0)

  pub leaf_there : (x : ℕ) → x < length (components m.scenario) → (l : Leaf) × (slice_get m.world.leaves x ≡ Some l)
  leaf_there x less = let long = leaves_are in there_is m.world.leaves x (omega (arith, less, long))

  pub leaf_bank : (x : ℕ) → x < length (components m.scenario) → HasBank m (OfLeaf x)
  leaf_bank x less =
      let l = leaf_there x less in
      record { slots = l.0.slots; there = ap (option_map (λ l. l.slots)) l.1; long = slots_long x l.0 l.1; within = less }

  pub session_bank : (k : ℕ) (s : Session) → session_at m.world k ≡ Some s → HasBank m (OfSession k)
  session_bank k s there = record { slots = s.slots; there = ap (option_map (λ s. s.slots)) there; long = bank_long k s there; within = tt }

  pub peaks_there : (x : ℕ) → x < length (components m.scenario) → IfSome (slice_get m.world.leaves x) (λ l. length l.peaks ≡ 8)
  peaks_there x less =
      let l = leaf_there x less in subst (λ (o : Option Leaf). IfSome o (λ l. length l.peaks ≡ 8)) (sym l.1) (peaks_long x l.0 l.1)

-- the machine that a world is
pub leaves_in : (m : Machine) (s : Scenario) (w : World) → m ≡ record { scenario = s; world = w } → ∥ Stands s w ∥₁
    → length m.world.leaves ≡ length (components m.scenario)
leaves_in m s w is stands =
    subst (λ (n : Machine). length n.world.leaves ≡ length (components n.scenario)) (sym is) (leaves_are (record { scenario = s; world = w }) stands)
