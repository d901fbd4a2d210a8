-- A leaf goes on and a slot is written: either may be first.
use Rattle.std.proofs.Common.{◌≡◌, ◌≢◌, ℕ, inl, inr, List, Option, Some, None, refl, sym, ap, ◌∙◌}
use Rattle.std.specs.Prelude.{slice_get, slice_set}
use Rattle.std.proofs.lemmas.Bool.Decides.{eqb_tells}
use Rattle.gq_model.specs.machine.World.{Slot, SlotId, In_leaf, In_session, In_object, Session, Leaf, World, joined, session_at, with_leaf, with_slot}
use Rattle.gq_model.specs.machine.World.{put_leaf_slot, put_object, put_session_slot}
use Rattle.gq_model.specs.machine.Step.{active_again, resumed, unblocked}
use Rattle.gq_laws.proofs.session_links.Written_world_links.{set_else, set_here}
use Rattle.gq_statements.proofs.Twice_written_lists.{set_again, set_swap}

module _ (x : ℕ) (g : List ℕ → List ℕ) where
  abbrev on : Leaf → Leaf
  on leaf = record leaf { phase = resumed leaf.current leaf.reacting; operands = g leaf.operands }

  active_sessions : (w : World) (o : Option Leaf) → (active_again w x g o).sessions ≡ w.sessions
  active_sessions w None = refl
  active_sessions w (Some leaf) = refl

  -- the sessions stay
  pub going_sessions : (w : World) → (unblocked w x g).sessions ≡ w.sessions
  going_sessions w = active_sessions w (slice_get w.leaves x)

  -- SLOTS OF SESSIONS

  slot_leaves : (w : World) (k i : ℕ) (slot : Slot) (o : Option Session) → (put_session_slot w o k i slot).leaves ≡ w.leaves
  slot_leaves w k i slot None = refl
  slot_leaves w k i slot (Some s) = refl

  object_leaves : (w : World) (k : ℕ) (slot : Slot) (o : Option Session) → (put_object w o k slot).leaves ≡ w.leaves
  object_leaves w k slot None = refl
  object_leaves w k slot (Some s) = refl

  session_both : (w : World) (k i : ℕ) (slot : Slot) (o : Option Leaf) (p : Option Session)
      → active_again (put_session_slot w p k i slot) x g o ≡ put_session_slot (active_again w x g o) p k i slot
  session_both w k i slot None None = refl
  session_both w k i slot None (Some s) = refl
  session_both w k i slot (Some leaf) None = refl
  session_both w k i slot (Some leaf) (Some s) = refl

  object_both : (w : World) (k : ℕ) (slot : Slot) (o : Option Leaf) (p : Option Session)
      → active_again (put_object w p k slot) x g o ≡ put_object (active_again w x g o) p k slot
  object_both w k slot None None = refl
  object_both w k slot None (Some s) = refl
  object_both w k slot (Some leaf) None = refl
  object_both w k slot (Some leaf) (Some s) = refl

  -- SLOTS OF LEAVES

  module _ (w : World) (y i : ℕ) (slot : Slot) where
    abbrev put : Leaf → Leaf
    put leaf = record leaf { slots = slice_set leaf.slots i slot }

    abbrev Swaps : Type 0
    Swaps = unblocked (with_slot w (In_leaf y i) slot) x g ≡ with_slot (unblocked w x g) (In_leaf y i) slot

    -- another leaf's slot
    apart_both : (leaf : Leaf) (o : Option Leaf) → x ≢ y → active_again (with_leaf w y (put leaf)) x g o ≡ with_leaf (active_again w x g o) y (put leaf)
    apart_both leaf None ne = refl
    apart_both leaf (Some m) ne = ap (λ ls. record w { leaves = ls }) (set_swap w.leaves y x (put leaf) (on m) (λ e. ne (sym e)))

    apart_get : (o : Option Leaf) → x ≢ y → slice_get (active_again w x g o).leaves y ≡ slice_get w.leaves y
    apart_get None ne = refl
    apart_get (Some m) ne = set_else w.leaves x y (on m) (λ e. ne (sym e))

    apart : (o : Option Leaf) → slice_get w.leaves y ≡ o → x ≢ y → Swaps
    apart None e ne =
        ap (λ v. unblocked v x g) (ap (λ o. put_leaf_slot w o y i slot) e)
        ∙ sym (ap (λ o. put_leaf_slot (unblocked w x g) o y i slot) (apart_get (slice_get w.leaves x) ne ∙ e))
    apart (Some leaf) e ne =
        ap (λ v. unblocked v x g) (ap (λ o. put_leaf_slot w o y i slot) e)
        ∙ (ap (active_again (with_leaf w y (put leaf)) x g) (set_else w.leaves y x (put leaf) ne)
        ∙ (apart_both leaf (slice_get w.leaves x) ne
        ∙ sym (ap (λ o. put_leaf_slot (unblocked w x g) o y i slot) (apart_get (slice_get w.leaves x) ne ∙ e))))

    -- its own slot
    same : (o : Option Leaf) → slice_get w.leaves x ≡ o → x ≡ y → Swaps
    same None e is =
        let f : slice_get w.leaves y ≡ None = ap (slice_get w.leaves) (sym is) ∙ e in
        let stays : unblocked w x g ≡ w = ap (active_again w x g) e in
        ap (λ v. unblocked v x g) (ap (λ o. put_leaf_slot w o y i slot) f)
        ∙ (stays ∙ (sym (ap (λ o. put_leaf_slot w o y i slot) f) ∙ ap (λ v. with_slot v (In_leaf y i) slot) (sym stays)))
    same (Some leaf) e is =
        let f : slice_get w.leaves y ≡ Some leaf = ap (slice_get w.leaves) (sym is) ∙ e in
        let here : slice_get (slice_set w.leaves y (put leaf)) x ≡ Some (put leaf) =
        ap (slice_get (slice_set w.leaves y (put leaf))) is ∙ set_here w.leaves y (put leaf) leaf f in
        let after : slice_get (slice_set w.leaves x (on leaf)) y ≡ Some (on leaf) =
        ap (slice_get (slice_set w.leaves x (on leaf))) (sym is) ∙ set_here w.leaves x (on leaf) leaf e in
        let left : unblocked (with_slot w (In_leaf y i) slot) x g ≡ with_leaf (with_leaf w y (put leaf)) x (on (put leaf)) =
        ap (λ v. unblocked v x g) (ap (λ o. put_leaf_slot w o y i slot) f) ∙ ap (active_again (with_leaf w y (put leaf)) x g) here in
        let right : with_slot (unblocked w x g) (In_leaf y i) slot ≡ with_leaf (with_leaf w x (on leaf)) y (put (on leaf)) =
        ap (λ v. with_slot v (In_leaf y i) slot) (ap (active_again w x g) e) ∙ ap (λ o. put_leaf_slot (with_leaf w x (on leaf)) o y i slot) after in
        let once : slice_set (slice_set w.leaves y (put leaf)) x (on (put leaf)) ≡ slice_set (slice_set w.leaves x (on leaf)) y (put (on leaf)) =
        ap (λ z. slice_set (slice_set w.leaves z (put leaf)) x (on (put leaf))) (sym is)
        ∙ (set_again w.leaves x (put leaf) (on (put leaf))
        ∙ (sym (set_again w.leaves x (on leaf) (put (on leaf))) ∙ ap (λ z. slice_set (slice_set w.leaves x (on leaf)) z (put (on leaf))) is)) in
        left ∙ (ap (λ ls. record w { leaves = ls }) once ∙ sym right)

  pub going_slot : (w : World) (p : SlotId) (slot : Slot) → unblocked (with_slot w p slot) x g ≡ with_slot (unblocked w x g) p slot
  going_slot w (In_leaf y i) slot = elim (eqb_tells x y) [
    | inl e ↦ same w y i slot (slice_get w.leaves x) refl e.1
    | inr ne ↦ apart w y i slot (slice_get w.leaves y) refl ne.1
  ]
  going_slot w (In_session k i) slot =
      let p = session_at w k in
      ap (λ ls. active_again (put_session_slot w p k i slot) x g (slice_get ls x)) (slot_leaves w k i slot p)
      ∙ (session_both w k i slot (slice_get w.leaves x) p
      ∙ ap (λ ss. put_session_slot (unblocked w x g) (joined (slice_get ss k)) k i slot) (sym (going_sessions w)))
  going_slot w (In_object k) slot =
      let p = session_at w k in
      ap (λ ls. active_again (put_object w p k slot) x g (slice_get ls x)) (object_leaves w k slot p)
      ∙ (object_both w k slot (slice_get w.leaves x) p
      ∙ ap (λ ss. put_object (unblocked w x g) (joined (slice_get ss k)) k slot) (sym (going_sessions w)))
