-- Memory that a statement makes.
use Rattle.std.proofs.Common.{◌≡◌, ℕ, ◌<◌, false, get_or, length, Some, None, refl, sym, ap, subst, ◌∙◌, arith}
use Rattle.std.specs.Prelude.{slice_get, Ok, Err}
use Rattle.gq_model.specs.declared.program.OperandSlot.{OperandSlot}
use Rattle.gq_model.specs.machine.Scenario.{System}
use Rattle.gq_model.specs.machine.World as world
use Rattle.gq_model.specs.machine.Sums.{paid, with_peaks}
use Rattle.gq_model.specs.machine.Doing.{Doing, Quiet, Stepped, fill, if_paid, need, settled, standing, when}
use Rattle.gq_model.specs.declared.fault.Wrong.TheVariants.{ExceededQuota, WrongKind}
use Rattle.gq_model.specs.machine.Memory.{make}
use Rattle.gq_store.specs.Store.{Store}
use Rattle.gq_contents.specs.declared.content.Content.{Content}
use Rattle.gq_contents.specs.declared.content.Content.TheVariants.{Empty, Block, Slice, Space, Pool, Link, Waiting}
use Rattle.gq_contents.specs.Contents.{seen}
use Rattle.gq_trade.specs.declared.session.SlotId.{SlotId}
use Rattle.gq_trade.specs.Seen_sessions.{slot_id_seen}
use Rattle.gq_trade.specs.Balances.{node_at}
use Rattle.gq_slots.specs.Slots.{Frame, IsSlot, IsSlotId, Slots, holder, memory_of, raised_in, settled_in, world_seen}
use Rattle.gq_slots.specs.Calls.{SameBeside, Settles}
use Rattle.gq_statements.specs.Systems.{AreLawful, IsOf, counted_at}
use Rattle.gq_statements.proofs.Lawful_worlds_paid.{all_paid}
use Rattle.gq_statements.proofs.Unpaid_made_memory.{leaf_found, written_at}
use Rattle.gq_slots.specs.Slot_addresses.{place_seen}
use Rattle.gq_statements.specs.declared.actor.Actor.{Actor}
use Rattle.gq_statements.specs.Slot_statements.{IsBy, current_seen}
use Rattle.gq_statements.specs.internal.Made_memory.{IsFilled, IsUnpaid, filling}
use Rattle.gq_statements.proofs.Named_statement_bytes.{same_slot_id}

-- THE SLOT

not_empty : (w : world.World) (p : world.SlotId) (st : Store) (t : Content) (slot : world.Slot) (go : world.World → Stepped) → (t ≡ Empty → ⊥)
    → fill w p (Some (seen st t)) slot go ≡ Err WrongKind
not_empty w p st Empty slot go n = absurd (n refl)
not_empty w p st (Block q k) slot go n = refl
not_empty w p st (Slice q k) slot go n = refl
not_empty w p st (Space q k) slot go n = refl
not_empty w p st (Pool q) slot go n = refl
not_empty w p st (Link k) slot go n = refl
not_empty w p st (Waiting k) slot go n = refl

module _ (d : Doing) (a : Actor) (w : world.World) (place : OperandSlot) (s : Slots) (h : IsBy d a) (p : SlotId) (t : Content)
    (e : place_seen (Some p) ≡ world.slot_id_of a.leaf (current_seen a.current) place)
    (r : world.slot_at w (slot_id_seen p) ≡ Some (seen (memory_of s (holder s p)) t)) where
  filling_is : (slot : world.Slot) (go : world.World → Stepped)
      → filling d w place slot go ≡ fill w (slot_id_seen p) (Some (seen (memory_of s (holder s p)) t)) slot go
  filling_is slot go =
      ap (λ o. need o WrongKind (λ slot_id. fill w slot_id (world.slot_at w slot_id) slot go)) (same_slot_id d a place (Some p) h e)
      ∙ ap (λ o. fill w (slot_id_seen p) o slot go) r

  pub is_filled : t ≡ Empty → IsFilled d w place (Some p)
  is_filled empty slot go =
      filling_is slot go ∙ ap (λ y. fill w (slot_id_seen p) (Some (seen (memory_of s (holder s p)) y)) slot go) empty

  pub is_not_filled : (t ≡ Empty → ⊥) → IsFilled d w place None
  is_not_filled n slot go = filling_is slot go ∙ not_empty w (slot_id_seen p) (memory_of s (holder s p)) t slot go n

-- WHAT IS MADE

pub settled_is : (system : System) (x : ℕ) (v : world.World) (leaf : world.Leaf) → slice_get v.leaves x ≡ Some leaf
    → settled system x v ≡ when (paid system (settled_in x v)) ExceededQuota (Ok (settled_in x v, Quiet))
settled_is system x v leaf e =
    ap (λ o. need o WrongKind (λ l. if_paid system (world.with_leaf v x (with_peaks v x l)) Quiet)) e
    ∙ ap (λ y. when (paid system y) ExceededQuota (Ok (y, Quiet))) (sym (ap (raised_in v x) e))

-- what a call that settles leaves is the frame's and the system's, too
pub still_of : (system : System) (f : Frame) (s t : Slots) → AreLawful s → AreLawful t → SameBeside s t → IsOf system f s → IsOf system f t
still_of system f s t l m b o =
    let own : length t.own ≡ length s.own = m.count ∙ ap length b.accounts.leaves ∙ sym l.count in
    record {
      count = o.count ∙ sym own;
      counted = o.counted ∙ sym (ap counted_at b.accounts.price);
      quanta = λ x c e. (λ k. (node_at (b.nodes k) (get_or (b.accounts.leaves k) x 0)).quantum) ∙ o.quanta x c e;
      stages = λ x lt. (λ k. (node_at (b.nodes k) (get_or (b.accounts.leaves k) x 0)).stage) ∙ o.stages x (omega (arith, lt, own));
    }

module _ (d : Doing) (a : Actor) (place : OperandSlot) (slot : world.Slot) (f : Frame) (s : Slots) (h : IsBy d a)
    (we : standing d d.leaf ≡ world_seen f s) where
  make_is : make d place slot ≡ filling d (world_seen f s) place slot (settled d.system a.leaf)
  make_is = ap (λ w. filling d w place slot (settled d.system d.x)) we ∙ ap (λ x. filling d (world_seen f s) place slot (settled d.system x)) h.leaf

  pub makes_none : IsFilled d (world_seen f s) place None → make d place slot ≡ Err WrongKind
  makes_none n = make_is ∙ n slot (settled d.system a.leaf)

  module _ (p : SlotId) (l : AreLawful s) (there : IsSlotId s p) (is : IsSlot p) (own : holder s p ≡ a.leaf) (below : a.leaf < length s.own)
      (fits : IsFilled d (world_seen f s) place (Some p)) where
    abbrev then_ : world.World
    then_ = world.with_slot (world_seen f s) (slot_id_seen p) slot

    makes : make d place slot ≡ when (paid d.system (settled_in a.leaf then_)) ExceededQuota (Ok (settled_in a.leaf then_, Quiet))
    makes =
        let found = leaf_found f s l a.leaf below in
        let written = written_at f s p found.0 slot l there is (subst (λ x. slice_get (world_seen f s).leaves x ≡ Some found.0) (sym own) found.1) in
        let stays : slice_get then_.leaves a.leaf ≡ Some written.then_ = subst (λ x. slice_get then_.leaves x ≡ Some written.then_) own written.there in
        make_is ∙ fits slot (settled d.system a.leaf) ∙ settled_is d.system a.leaf then_ written.then_ stays

    pub makes_some : (t : Slots) → Settles s t p slot → AreLawful t → IsOf d.system f s → make d place slot ≡ Ok (world_seen f t, Quiet)
    makes_some t settles m o =
        let is : settled_in a.leaf then_ ≡ world_seen f t = ap (λ x. settled_in x then_) (sym own) ∙ sym (settles.seen_so f) in
        makes ∙ ap (λ y. when (paid d.system y) ExceededQuota (Ok (y, Quiet))) is
        ∙ ap (λ b. when b ExceededQuota (Ok (world_seen f t, Quiet))) (all_paid d.system f t m (still_of d.system f s t l m settles.rest o))

    pub makes_unpaid : IsUnpaid s p slot → IsOf d.system f s → make d place slot ≡ Err ExceededQuota
    makes_unpaid n o =
        let no : paid d.system (settled_in a.leaf then_) ≡ false = ap (λ x. paid d.system (settled_in x then_)) (sym own) ∙ n d.system f o in
        makes ∙ ap (λ b. when b ExceededQuota (Ok (settled_in a.leaf then_, Quiet))) no
