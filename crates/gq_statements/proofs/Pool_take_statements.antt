-- Entries that a statement adds to a pool.
use Rattle.std.proofs.Common.{◌≡◌, ◌↔◌, ◌<◌, ◌≤◌, ℕ, Bool, true, false, List, ◌∷◌, length, replicate, Option, Some, None, IsTrue, refl, sym, ap, subst, ◌∙◌}
use Rattle.std.specs.Prelude.{slice_get, slice_set, Ok, Err}
use Rattle.gq_model.specs.declared.program.OperandSlot.{OperandSlot}
use Rattle.gq_model.specs.machine.World as world
use Rattle.gq_model.specs.machine.Sums.{paid}
use Rattle.gq_model.specs.machine.Doing.{Doing, Quiet, Stepped, need, on_stack, settled, when}
use Rattle.gq_model.specs.declared.fault.Wrong.TheVariants.{ExceededQuota, UnmappedByte, WrongKind}
use Rattle.gq_model.specs.machine.Memory.{if_absent, pool_at, take_entry}
use Rattle.gq_contents.specs.Contents.{added, entry_count, entry_in, with_entry}
use Rattle.gq_trade.specs.declared.session.SlotId.{SlotId}
use Rattle.gq_trade.specs.Seen_sessions.{slot_id_seen}
use Rattle.gq_slots.specs.Slots.{Frame, IsSlot, IsSlotId, Slots, holder, raised_in, settled_in, slot_of, content_at, world_seen}
use Rattle.gq_slots.specs.Calls.{Settles}
use Rattle.gq_slots.proofs.Slot_change_worlds.{set_there}
use Rattle.gq_statements.specs.Systems.{AreLawful, IsOf}
use Rattle.gq_statements.proofs.Lawful_worlds_paid.{all_paid}
use Rattle.gq_statements.proofs.Unpaid_made_memory.{leaf_found, written_at}
use Rattle.gq_statements.specs.declared.actor.Actor.{Actor}
use Rattle.gq_statements.specs.Slot_statements.{IsBy, Pushes, reported}
use Rattle.gq_statements.specs.internal.Found.{IsPool, entries_in}
use Rattle.gq_statements.specs.internal.Made_memory.{IsUnpaid}
use Rattle.gq_statements.proofs.Named_pool_entries.{Go, changed_pool, past, there}
use Rattle.gq_statements.proofs.Memory_making_statements.{settled_is, still_of}
use Rattle.gq_statements.proofs.Unchanged_slot_world.{with_same}

-- peaks that are raised to what is in use stay
settled_same : (f : Frame) (s : Slots) (x : ℕ) → AreLawful s → x < length s.own → settled_in x (world_seen f s) ≡ world_seen f s
settled_same f s x l lt =
    let w = world_seen f s in
    let found = leaf_found f s l x lt in
    ap (raised_in w x) found.1 ∙ ap (world.with_leaf w x) (l.held f x found.0 found.1).peaked
    ∙ ap (λ leaves. record w { leaves = leaves }) (set_there w.leaves x found.0 found.1)

abbrev taking : Doing → ℕ → List ℕ → Go
taking d i rest n es put =
    need (slice_get es i) UnmappedByte (λ entry.
    if_absent entry (settled d.system d.x (put (slice_set es i (Some (replicate n 0))))) (on_stack d (0 ∷ rest)))

module _ (d : Doing) (a : Actor) (place : OperandSlot) (s : Slots) (i : ℕ) (rest : List ℕ) (f : ℕ → Frame) (h : IsBy d a) (we : Pushes d rest f s) where
  pub take_none : IsPool d (world_seen (f 1) s) place s None → take_entry d rest place i ≡ Err WrongKind
  take_none found = ap (λ v. pool_at d v place (taking d i rest)) (we 1) ∙ found (taking d i rest)

  module _ (p : SlotId) (n m : ℕ) (count : m ≡ entry_count (content_at s p)) (found : IsPool d (world_seen (f 1) s) place s (Some (p, n, m))) where
    abbrev with_it : world.World
    with_it = world.with_slot (world_seen (f 1) s) (slot_id_seen p) (world.Pool n (slice_set (entries_in (slot_of s p)) i (Some (replicate n 0))))

    abbrev taken : Option (List ℕ) → Stepped
    taken entry = if_absent entry (settled d.system d.x with_it) (on_stack d (0 ∷ rest))

    take_is : take_entry d rest place i ≡ need (slice_get (entries_in (slot_of s p)) i) UnmappedByte taken
    take_is = ap (λ v. pool_at d v place (taking d i rest)) (we 1) ∙ found (taking d i rest)

    pub take_past : m ≤ i → take_entry d rest place i ≡ Err UnmappedByte
    take_past le = take_is ∙ ap (λ o. need o UnmappedByte taken) (past d place s p n m count i le)

    module _ (lt : i < m) (l : AreLawful s) (is : IsSlotId s p) (kind : IsSlot p) (own : holder s p ≡ a.leaf) (below : a.leaf < length s.own)
        (slot : slot_of s p ≡ world.Pool n (entries_in (slot_of s p))) where
      take_there : take_entry d rest place i ≡ taken (entry_in i (slot_of s p))
      take_there = take_is ∙ ap (λ o. need o UnmappedByte taken) (there d place s p n m count i lt)

      pool : with_entry i added (slot_of s p) ≡ world.Pool n (slice_set (entries_in (slot_of s p)) i (added n (entry_in i (slot_of s p))))
      pool = changed_pool (slot_of s p) n i added slot

      abbrev then_ : Frame → world.World
      then_ g = world.with_slot (world_seen g s) (slot_id_seen p) (with_entry i added (slot_of s p))

      take_absent : entry_in i (slot_of s p) ≡ None → take_entry d rest place i
          ≡ when (paid d.system (settled_in (holder s p) (then_ (f 1)))) ExceededQuota (Ok (settled_in (holder s p) (then_ (f 1)), Quiet))
      take_absent none =
          let same : with_it ≡ then_ (f 1) =
          ap (λ o. world.with_slot (world_seen (f 1) s) (slot_id_seen p) (world.Pool n (slice_set (entries_in (slot_of s p)) i (added n o)))) (sym none)
          ∙ ap (world.with_slot (world_seen (f 1) s) (slot_id_seen p)) (sym pool) in
          let x = holder s p in
          let found = leaf_found (f 1) s l a.leaf below in
          let stands = subst (λ y. slice_get (world_seen (f 1) s).leaves y ≡ Some found.0) (sym own) found.1 in
          let written = written_at (f 1) s p found.0 (with_entry i added (slot_of s p)) l is kind stands in
          take_there ∙ ap taken none ∙ ap (settled d.system d.x) same ∙ ap (λ y. settled d.system y (then_ (f 1))) (h.leaf ∙ sym own)
          ∙ settled_is d.system x (then_ (f 1)) written.then_ written.there

      pub take_unpaid : (o : (k : ℕ) → IsOf d.system (f k) s) → entry_in i (slot_of s p) ≡ None → IsUnpaid s p (with_entry i added (slot_of s p))
          → take_entry d rest place i ≡ Err ExceededQuota
      take_unpaid o none short =
          take_absent none ∙ ap (λ b. when b ExceededQuota (Ok (settled_in (holder s p) (then_ (f 1)), Quiet))) (short d.system (f 1) (o 1))

      pub take_some : (t : Slots) (b : Bool) → (o : (k : ℕ) → IsOf d.system (f k) s) → AreLawful t
          → ((g : Frame) → world.slot_at (world_seen g s) (slot_id_seen p) ≡ Some (slot_of s p))
          → Settles s t p (with_entry i added (slot_of s p)) → (IsTrue b ↔ entry_in i (slot_of s p) ≡ None)
          → take_entry d rest place i ≡ reported f t (Ok b)
      take_some t b o k reads settles absent = by (entry_in i (slot_of s p)) b refl refl
        where
          by : (e : Option (List ℕ)) (c : Bool) → entry_in i (slot_of s p) ≡ e → b ≡ c → take_entry d rest place i ≡ reported f t (Ok b)
          by None true e g =
              take_absent e ∙ ap (λ y. when (paid d.system y) ExceededQuota (Ok (y, Quiet))) (sym (settles.seen_so (f 1)))
              ∙ ap (λ y. when y ExceededQuota (Ok (world_seen (f 1) t, Quiet)))
              (all_paid d.system (f 1) t k (still_of d.system (f 1) s t l k settles.rest (o 1)))
              ∙ ap (λ y. reported f t (Ok y)) (sym g)
          by None false e g = let yes = absent.1 e in let never : false ≡ true = sym g ∙ yes in cc
          by (Some bytes) true e g = let none = absent.0 g in cc
          by (Some bytes) false e g =
              let w = world_seen (f 0) s in
              let same : with_entry i added (slot_of s p) ≡ slot_of s p =
              pool ∙ ap (λ y. world.Pool n (slice_set (entries_in (slot_of s p)) i (added n y))) e
              ∙ ap (world.Pool n) (set_there (entries_in (slot_of s p)) i (Some bytes) (there d place s p n m count i lt ∙ ap Some e)) ∙ sym slot in
              let still : world_seen (f 0) t ≡ w =
              settles.seen_so (f 0) ∙ ap (λ y. settled_in (holder s p) (world.with_slot w (slot_id_seen p) y)) same
              ∙ ap (settled_in (holder s p)) (with_same w (slot_id_seen p) (slot_of s p) (reads (f 0)))
              ∙ ap (λ y. settled_in y w) own ∙ settled_same (f 0) s a.leaf l below in
              take_there ∙ ap taken e ∙ ap (λ y. Ok (y, Quiet)) (we 0 ∙ sym still) ∙ ap (λ y. reported f t (Ok y)) (sym g)
