-- Leaves that are at the same in two worlds, where the same changes in both.
use Rattle.std.proofs.Common.{◌≡◌, ℕ, zero, suc, inl, inr, Bool, true, false, cond, List, [], ◌∷◌, Option, Some, None, refl, ap, sym, ◌∙◌}
use Rattle.std.specs.Prelude.{option_map, slice_get, slice_set}
use Rattle.std.proofs.lemmas.Bool.Decides.{eqb_tells}
use Rattle.gq_model.specs.declared.phase.Phase.{Phase}
use Rattle.gq_model.specs.declared.phase.Phase.TheVariants.{Pending, Running, Blocked, Serving, Handling, Exited}
use Rattle.gq_model.specs.machine.Scenario.{Component}
use Rattle.gq_model.specs.machine.World.{Slot, SlotId, In_leaf, In_session, In_object, Session, Current, Leaf, World, session_at, with_leaf, put_leaf_slot}
use Rattle.gq_model.specs.machine.World.{put_session_slot, put_object, with_slot}
use Rattle.gq_model.specs.machine.Step.{is_named, released, all_released, resumed, active_again, unblocked}
use Rattle.gq_model.proofs.Small_facts.{none_some, some_same}
use Rattle.gq_laws.proofs.session_links.Written_world_links.{set_else}
use Rattle.gq_laws.specs.Renamed.{renamed_current, renamed_leaf}
use Rattle.gq_determined.specs.internal.Threads.{seen, seen_by, IsAtSame}
use Rattle.gq_determined.proofs.regions.Region_changes.{put_at}

-- slots do not matter
pub seen_slots : (leaf : Leaf) (slots : List Slot) → seen (record leaf { slots = slots }) ≡ seen leaf
seen_slots leaf slots = by leaf.phase
  where
    by : (p : Phase) → seen_by p (record leaf { slots = slots }) ≡ seen_by p leaf
    by Pending = refl
    by Running = refl
    by Blocked = refl
    by Serving = refl
    by Handling = refl
    by Exited = refl

-- what a leaf is at, once something is put at a place
pub slot_seen : (w : World) (q : SlotId) (slot : Slot) (y : ℕ)
    → option_map seen (slice_get (with_slot w q slot).leaves y) ≡ option_map seen (slice_get w.leaves y)
slot_seen w (In_leaf x i) slot y = by (slice_get w.leaves x) refl
  where
    by : (o : Option Leaf) → slice_get w.leaves x ≡ o → option_map seen (slice_get (put_leaf_slot w o x i slot).leaves y) ≡ option_map seen
        (slice_get w.leaves y)
    by None e = refl
    by (Some leaf) e =
        let new = record leaf { slots = slice_set leaf.slots i slot } in
        elim (eqb_tells y x) [
          | inl t ↦
              ap (option_map seen) (put_at w.leaves x y new t.1)
              ∙ (ap (λ o. option_map seen (option_map (λ (l : Leaf). new) o)) (ap (slice_get w.leaves) t.1 ∙ e)
              ∙ (ap Some (seen_slots leaf (slice_set leaf.slots i slot)) ∙ ap (option_map seen) (sym (ap (slice_get w.leaves) t.1 ∙ e))))
          | inr t ↦ ap (option_map seen) (set_else w.leaves x y new t.1)
        ]
slot_seen w (In_session k i) slot y = by (session_at w k)
  where
    by : (o : Option Session) → option_map seen (slice_get (put_session_slot w o k i slot).leaves y) ≡ option_map seen (slice_get w.leaves y)
    by None = refl
    by (Some s) = refl
slot_seen w (In_object k) slot y = by (session_at w k)
  where
    by : (o : Option Session) → option_map seen (slice_get (put_object w o k slot).leaves y) ≡ option_map seen (slice_get w.leaves y)
    by None = refl
    by (Some s) = refl

-- nor does it matter who is released
release_seen : (name : List ℕ) (after : Option (List ℕ)) (leaf : Leaf) (p : Phase)
    → seen (record leaf { phase = released name after p }) ≡ seen (record leaf { phase = p })
release_seen name after leaf Pending = by (is_named name after)
  where
    by : (b : Bool) → seen (record leaf { phase = cond b Running Pending }) ≡ seen (record leaf { phase = Pending })
    by true = refl
    by false = refl
release_seen name after leaf Running = refl
release_seen name after leaf Blocked = refl
release_seen name after leaf Serving = refl
release_seen name after leaf Handling = refl
release_seen name after leaf Exited = refl

pub released_seen : (name : List ℕ) (cs : List Component) (leaves : List Leaf) (y : ℕ)
    → option_map seen (slice_get (all_released name cs leaves) y) ≡ option_map seen (slice_get leaves y)
released_seen name [] leaves y = refl
released_seen name (c ∷ cs) [] y = refl
released_seen name (c ∷ cs) (leaf ∷ leaves) zero = ap Some (release_seen name c.node.after leaf leaf.phase)
released_seen name (c ∷ cs) (leaf ∷ leaves) (suc y) = released_seen name cs leaves y

module _ (f : ℕ → ℕ) where
  mapped : (o : Option Leaf) → option_map (λ leaf. renamed_leaf f (seen leaf)) o ≡ option_map (renamed_leaf f) (option_map seen o)
  mapped None = refl
  mapped (Some leaf) = refl

  -- where all leaves are seen as before
  pub at_seen : (y : ℕ) (w v w_new v_new : World) → option_map seen (slice_get w_new.leaves y) ≡ option_map seen (slice_get w.leaves y)
      → option_map seen (slice_get v_new.leaves y) ≡ option_map seen (slice_get v.leaves y) → IsAtSame f y w v → IsAtSame f y w_new v_new
  at_seen y w v w_new v_new e g h =
      g ∙ (h ∙ (mapped (slice_get w.leaves y) ∙ (ap (option_map (renamed_leaf f)) (sym e) ∙ sym (mapped (slice_get w_new.leaves y)))))

  pub at_leaf : (y : ℕ) (w v : World) (x : ℕ) (leaf new : Leaf) → (y ≡ x → seen new ≡ renamed_leaf f (seen leaf)) → IsAtSame f y w v
      → IsAtSame f y (with_leaf w x leaf) (with_leaf v x new)
  at_leaf y w v x leaf new same h = elim (eqb_tells y x) [
    | inl e ↦
        ap (option_map seen) (put_at v.leaves x y new e.1)
        ∙ (by (slice_get v.leaves y) (slice_get w.leaves y) h (same e.1)
        ∙ ap (option_map (λ l. renamed_leaf f (seen l))) (sym (put_at w.leaves x y leaf e.1)))
    | inr e ↦
        ap (option_map seen) (set_else v.leaves x y new e.1)
        ∙ (h ∙ ap (option_map (λ l. renamed_leaf f (seen l))) (sym (set_else w.leaves x y leaf e.1)))
  ]
    where
      by : (a b : Option Leaf) → option_map seen a ≡ option_map (λ l. renamed_leaf f (seen l)) b → seen new ≡ renamed_leaf f (seen leaf)
          → option_map seen (option_map (λ (l : Leaf). new) a) ≡ option_map (λ l. renamed_leaf f (seen l)) (option_map (λ (l : Leaf). leaf) b)
      by None None e g = refl
      by None (Some b) e g = absurd (none_some e)
      by (Some a) None e g = absurd (none_some (sym e))
      by (Some a) (Some b) e g = ap Some g

  -- A LEAF THAT GOES ON

  phase_seen : (p : Phase) (leaf : Leaf) → (seen_by p leaf).phase ≡ Blocked → p ≡ Blocked
  phase_seen Pending leaf e = absurd (ne e)
    where
      ne : Running ≡ Blocked → ⊥
      ne e = cc
  phase_seen Running leaf e = e
  phase_seen Blocked leaf e = refl
  phase_seen Serving leaf e = e
  phase_seen Handling leaf e = e
  phase_seen Exited leaf e = e

  blocked_seen : (leaf : Leaf) → leaf.phase ≡ Blocked → seen leaf ≡ record leaf { phase = Blocked; slots = []; peaks = []; steps = 0; inputs = [] }
  blocked_seen leaf e = ap (λ p. seen_by p leaf) e

  -- a leaf that was blocked goes on, seen with other operands
  abbrev going : (List ℕ → List ℕ) → Leaf → Leaf
  going go l = record l { phase = resumed l.current l.reacting; operands = go l.operands }

  resumed_same : (current : Option Current) (reacting : Option ℕ) → resumed (option_map (renamed_current f) current) reacting ≡ resumed current reacting
  resumed_same None None = refl
  resumed_same None (Some i) = refl
  resumed_same (Some current) reacting = refl

  going_seen : (go : List ℕ → List ℕ) (l : Leaf) → seen (going go l) ≡ going go (record l { slots = []; peaks = []; steps = 0; inputs = [] })
  going_seen go l = by l.current l.reacting
    where
      by : (current : Option Current) (reacting : Option ℕ)
          → seen_by (resumed current reacting) (record l { phase = resumed current reacting; operands = go l.operands })
          ≡ record l { phase = resumed current reacting; operands = go l.operands; slots = []; peaks = []; steps = 0; inputs = [] }
      by None None = refl
      by None (Some i) = refl
      by (Some current) reacting = refl

  goes_on : (go : List ℕ → List ℕ) (a b : Leaf) → a.phase ≡ Blocked → seen b ≡ renamed_leaf f (seen a)
      → seen (going go b) ≡ renamed_leaf f (seen (going go a))
  goes_on go a b blocked e =
      let shown : seen b ≡ renamed_leaf f (record a { phase = Blocked; slots = []; peaks = []; steps = 0; inputs = [] })
      = e ∙ ap (renamed_leaf f) (blocked_seen a blocked) in
      let blocked_b : b.phase ≡ Blocked = phase_seen b.phase b (ap (λ (l : Leaf). l.phase) shown) in
      let both : record b { phase = Blocked; slots = []; peaks = []; steps = 0; inputs = [] } ≡ renamed_leaf f
      (record a { phase = Blocked; slots = []; peaks = []; steps = 0; inputs = [] })
      = sym (blocked_seen b blocked_b) ∙ shown in
      going_seen go b ∙ (ap (going go) both
      ∙ ((λ i. record (renamed_leaf f (record a { phase = resumed_same a.current a.reacting i; slots = []; peaks = []; steps = 0; inputs = [] })) {
        operands = go a.operands;
      })
      ∙ ap (renamed_leaf f) (sym (going_seen go a))))

  pub at_going : (y : ℕ) (w v : World) (x : ℕ) (go : List ℕ → List ℕ) (leaf : Leaf) → slice_get w.leaves x ≡ Some leaf → leaf.phase ≡ Blocked
      → IsAtSame f x w v → IsAtSame f y w v → IsAtSame f y (unblocked w x go) (unblocked v x go)
  at_going y w v x go leaf there blocked here h = by (slice_get w.leaves x) (slice_get v.leaves x) there here
    where
      by : (a b : Option Leaf) → a ≡ Some leaf → option_map seen b ≡ option_map (λ l. renamed_leaf f (seen l)) a
          → IsAtSame f y (active_again w x go a) (active_again v x go b)
      by None b e g = absurd (none_some e)
      by (Some a) None e g = absurd (none_some g)
      by (Some a) (Some b) e g = at_leaf y w v x (going go a) (going go b)
          (λ same. goes_on go a b (ap (λ (l : Leaf). l.phase) (some_same e) ∙ blocked) (some_same g)) h
