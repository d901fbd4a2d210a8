-- Pools that a statement names, and their entries.
use Rattle.std.proofs.Common.{◌≡◌, ℕ, ◌<◌, ◌≤◌, ◌↔◌, ◌%◌, Bool, true, false, List, ◌∷◌, length, get_or, Option, Some, None, refl, sym, ap, ◌∙◌, arith}
use Rattle.std.specs.Prelude.{nat_lt, slice_get, slice_set, Ok, Err}
use Rattle.std.proofs.lemmas.Bool.Decides.{nat_tests}
use Rattle.std.proofs.lemmas.Option.{slice_get-get_or, slice_get_past}
use Rattle.gq_model.specs.declared.program.OperandSlot.{OperandSlot}
use Rattle.gq_model.specs.machine.World as world
use Rattle.gq_model.specs.machine.Doing.{Doing, Quiet, Stepped, need, on_stack, pop, standing, when, with_operands}
use Rattle.gq_model.specs.declared.fault.Wrong.TheVariants.{UnmappedByte, WrongKind}
use Rattle.gq_model.specs.machine.Memory.{entry_byte, entry_with, give_entry, if_absent, peek, poke, pool_at, pool_in}
use Rattle.gq_store.specs.Store.{Store}
use Rattle.gq_contents.specs.declared.content.Content.{Content}
use Rattle.gq_contents.specs.declared.content.Content.TheVariants.{Empty, Block, Slice, Space, Pool, Link, Waiting}
use Rattle.gq_contents.specs.Contents.{entry_count, entry_in, removed, seen, shape_of, with_entry}
use Rattle.gq_contents.proofs.Content_call_prices.{entries_long}
use Rattle.gq_trade.specs.declared.session.SlotId.{SlotId}
use Rattle.gq_trade.specs.Seen_sessions.{slot_id_seen}
use Rattle.gq_slots.specs.Slots.{Frame, Slots, holder, memory_of, slot_of, content_at, world_seen}
use Rattle.gq_slots.specs.Calls.{PutsSlot}
use Rattle.gq_slots.proofs.Slot_change_worlds.{set_there}
use Rattle.gq_statements.specs.declared.actor.Actor.{Actor}
use Rattle.gq_statements.specs.Slot_statements.{IsBy, Pushes, current_seen, reported}
use Rattle.gq_slots.specs.Slot_addresses.{place_seen}
use Rattle.gq_statements.specs.internal.Found.{IsPool, entries_in}
use Rattle.gq_statements.proofs.Named_statement_bytes.{same_slot_id}
use Rattle.gq_statements.proofs.Unchanged_slot_world.{with_same}

abbrev pub Entries : Type 0
Entries = List (Option (List ℕ))

abbrev pub Go : Type 0
Go = ℕ → Entries → (Entries → world.World) → Stepped

-- WHAT A SLOT HOLDS

first_is : (p q : ℕ × ℕ) → Some p ≡ Some q → p.0 ≡ q.0
first_is p q e = let same : p ≡ q = cc in ap (λ y. y.0) same

slot_pool : (w : world.World) (p : world.SlotId) (st : Store) (t : Content) (n m : ℕ) (go : Go) → Some (n, m) ≡ shape_of t
    → pool_in w p (Some (seen st t)) go ≡ go n (entries_in (seen st t)) (λ new. world.with_slot w p (world.Pool n new))
slot_pool w p st Empty n m go e = cc
slot_pool w p st (Block q k) n m go e = cc
slot_pool w p st (Slice q k) n m go e = cc
slot_pool w p st (Space q k) n m go e = cc
slot_pool w p st (Pool q) n m go e =
    ap (λ y. go y (entries_in (seen st (Pool q))) (λ new. world.with_slot w p (world.Pool y new))) (sym (first_is (n, m) (q.size, q.count) e))
slot_pool w p st (Link k) n m go e = cc
slot_pool w p st (Waiting k) n m go e = cc

no_pool : (w : world.World) (p : world.SlotId) (st : Store) (t : Content) (go : Go) → None ≡ shape_of t → pool_in w p (Some (seen st t)) go ≡ Err WrongKind
no_pool w p st Empty go e = refl
no_pool w p st (Block q k) go e = refl
no_pool w p st (Slice q k) go e = refl
no_pool w p st (Space q k) go e = refl
no_pool w p st (Pool q) go e = cc
no_pool w p st (Link k) go e = refl
no_pool w p st (Waiting k) go e = refl

pub pool_seen : (st : Store) (t : Content) (n m : ℕ) → Some (n, m) ≡ shape_of t → seen st t ≡ world.Pool n (entries_in (seen st t))
pool_seen st Empty n m e = cc
pool_seen st (Block q k) n m e = cc
pool_seen st (Slice q k) n m e = cc
pool_seen st (Space q k) n m e = cc
pool_seen st (Pool q) n m e = ap (λ y. world.Pool y (entries_in (seen st (Pool q)))) (sym (first_is (n, m) (q.size, q.count) e))
pool_seen st (Link k) n m e = cc
pool_seen st (Waiting k) n m e = cc

pub entry_is : (slot : world.Slot) (i : ℕ) → get_or (entries_in slot) i None ≡ entry_in i slot
entry_is world.Empty i = refl
entry_is (world.Bytes f n bytes) i = refl
entry_is (world.Pool n entries) i = refl
entry_is (world.Link k) i = refl
entry_is (world.Waiting k) i = refl

-- a pool with another entry
pub changed_pool : (slot : world.Slot) (n i : ℕ) (g : ℕ → Option (List ℕ) → Option (List ℕ)) → slot ≡ world.Pool n (entries_in slot)
    → with_entry i g slot ≡ world.Pool n (slice_set (entries_in slot) i (g n (entry_in i slot)))
changed_pool slot n i g e =
    ap (with_entry i g) e ∙ ap (λ o. world.Pool n (slice_set (entries_in slot) i (g n o))) (entry_is slot i)

-- it has as many entries as it says
pub many : (st : Store) (t : Content) → length (entries_in (seen st t)) ≡ entry_count t
many st Empty = refl
many st (Block q k) = refl
many st (Slice q k) = refl
many st (Space q k) = refl
many st (Pool q) = entries_long q st
many st (Link k) = refl
many st (Waiting k) = refl

module _ (d : Doing) (a : Actor) (w : world.World) (place : OperandSlot) (s : Slots) (h : IsBy d a) where
  pool_is : (q : world.SlotId) (go : Go) → world.slot_id_of d.x d.leaf.current place ≡ Some q → pool_at d w place go ≡ pool_in w q (world.slot_at w q) go
  pool_is q go e = ap (λ o. need o WrongKind (λ slot_id. pool_in w slot_id (world.slot_at w slot_id) go)) e

  pub pool_none : (o : Option SlotId) → o ≡ None → place_seen o ≡ world.slot_id_of a.leaf (current_seen a.current) place → IsPool d w place s None
  pool_none o n e go = ap (λ y. need y WrongKind (λ slot_id. pool_in w slot_id (world.slot_at w slot_id) go)) (same_slot_id d a place o h e ∙ ap place_seen n)

  pub pool_others : (p : SlotId) (t : Content) → place_seen (Some p) ≡ world.slot_id_of a.leaf (current_seen a.current) place
      → world.slot_at w (slot_id_seen p) ≡ Some (seen (memory_of s (holder s p)) t) → None ≡ shape_of t → IsPool d w place s None
  pool_others p t e r n go =
      pool_is (slot_id_seen p) go (same_slot_id d a place (Some p) h e) ∙ ap (λ o. pool_in w (slot_id_seen p) o go) r
      ∙ no_pool w (slot_id_seen p) (memory_of s (holder s p)) t go n

  pub pool_some : (p : SlotId) (t : Content) (n m : ℕ) → place_seen (Some p) ≡ world.slot_id_of a.leaf (current_seen a.current) place
      → world.slot_at w (slot_id_seen p) ≡ Some (seen (memory_of s (holder s p)) t) → t ≡ content_at s p → Some (n, m) ≡ shape_of t
      → IsPool d w place s (Some (p, n, m))
  pool_some p t n m e r same is go =
      pool_is (slot_id_seen p) go (same_slot_id d a place (Some p) h e) ∙ ap (λ o. pool_in w (slot_id_seen p) o go) r
      ∙ slot_pool w (slot_id_seen p) (memory_of s (holder s p)) t n m go is
      ∙ ap (λ y. go n (entries_in (seen (memory_of s (holder s p)) y)) (λ new. world.with_slot w (slot_id_seen p) (world.Pool n new))) same

not_below : (i : ℕ) → i < 0 → ⊥
not_below i lt = omega (arith, lt)

-- ENTRIES

pub test_false : (k n : ℕ) → n ≤ k → nat_lt k n ≡ false
test_false k n le = grind (arith, nat_tests, le)

pub test_true : (k n : ℕ) → k < n → nat_lt k n ≡ true
test_true k n lt = grind (arith, nat_tests, lt)

low : (b k : ℕ) (e : Option (List ℕ)) → entry_with k (b % 256) e ≡ entry_with k b e
low b k None = refl
low b k (Some bytes) = let same : b % 256 % 256 ≡ b % 256 = omega arith in ap (λ y. Some (slice_set bytes k y)) same

-- the lowest byte of a number is all that counts
pub low_byte : (b k i : ℕ) (slot : world.Slot) → with_entry i (λ z. entry_with k (b % 256)) slot ≡ with_entry i (λ z. entry_with k b) slot
low_byte b k i slot = ap (λ (g : Option (List ℕ) → Option (List ℕ)). with_entry i (λ z. g) slot) (λ j e. low b k e j)

module _ (d : Doing) (place : OperandSlot) (s : Slots) where
  module _ (w : world.World) (found : IsPool d w place s None) where
    pub peek_none : (k i : ℕ) (rest : List ℕ) → d.world ≡ w → d.leaf.operands ≡ k ∷ i ∷ rest → peek d place ≡ Err WrongKind
    peek_none k i rest we e =
        let go = λ (x y : ℕ) (more : List ℕ) (size : ℕ) (es : Entries) (put : Entries → world.World).
        need (slice_get es y) UnmappedByte (λ entry. when (nat_lt x size) UnmappedByte (on_stack d (entry_byte entry x ∷ more))) in
        (λ j. pop (e j) (λ x below. pop below (λ y more. pool_at d (we j) place (go x y more)))) ∙ found (go k i rest)

    pub poke_none : (b k i : ℕ) (rest : List ℕ) → standing d (with_operands d rest) ≡ w → d.leaf.operands ≡ b ∷ k ∷ i ∷ rest → poke d place ≡ Err WrongKind
    poke_none b k i rest we e =
        let go = λ (x y z size : ℕ) (es : Entries) (put : Entries → world.World).
        need (slice_get es z) UnmappedByte (λ entry. when (nat_lt y size) UnmappedByte (Ok (put (slice_set es z (entry_with y x entry)), Quiet))) in
        (λ j. pop (e j) (λ x under. pop under (λ y below. pop below (λ z more. pool_at d (standing d (with_operands d more)) place (go x y z)))))
        ∙ ap (λ v. pool_at d v place (go b k i)) we ∙ found (go b k i)

  pub give_none : (i : ℕ) (rest : List ℕ) (w : world.World) → standing d (with_operands d (1 ∷ rest)) ≡ w → IsPool d w place s None
      → give_entry d rest place i ≡ Err WrongKind
  give_none i rest w we found =
      let go = λ (size : ℕ) (es : Entries) (put : Entries → world.World).
      need (slice_get es i) UnmappedByte (λ entry. if_absent entry (on_stack d (0 ∷ rest)) (Ok (put (slice_set es i None), Quiet))) in
      ap (λ v. pool_at d v place go) we ∙ found go

module _ (d : Doing) (place : OperandSlot) (s : Slots) (p : SlotId) (n m : ℕ) (count : m ≡ entry_count (content_at s p)) where
  abbrev pub entries : Entries
  entries = entries_in (slot_of s p)

  pub past : (i : ℕ) → m ≤ i → slice_get entries i ≡ None
  past i le = let long = many (memory_of s (holder s p)) (content_at s p) in slice_get_past entries i (omega (arith, long, count, le))

  pub there : (i : ℕ) → i < m → slice_get entries i ≡ Some (entry_in i (slot_of s p))
  there i lt =
      let long = many (memory_of s (holder s p)) (content_at s p) in
      slice_get-get_or entries i None (omega (arith, long, count, lt)) ∙ ap Some (entry_is (slot_of s p) i)

  module _ (w : world.World) (found : IsPool d w place s (Some (p, n, m))) where
    -- READ

    abbrev peeking : ℕ → ℕ → List ℕ → Go
    peeking k i rest size es put =
        need (slice_get es i) UnmappedByte (λ entry. when (nat_lt k size) UnmappedByte (on_stack d (entry_byte entry k ∷ rest)))

    module _ (k i : ℕ) (rest : List ℕ) (we : d.world ≡ w) (e : d.leaf.operands ≡ k ∷ i ∷ rest) where
      peek_is : peek d place ≡ peeking k i rest n entries (λ new. world.with_slot w (slot_id_seen p) (world.Pool n new))
      peek_is =
          (λ j. pop (e j) (λ x below. pop below (λ y more. pool_at d (we j) place (peeking x y more)))) ∙ found (peeking k i rest)

      pub peek_past : m ≤ i → peek d place ≡ Err UnmappedByte
      peek_past le =
          peek_is ∙ ap (λ o. need o UnmappedByte (λ entry. when (nat_lt k n) UnmappedByte (on_stack d (entry_byte entry k ∷ rest)))) (past i le)

      peek_there : i < m → peek d place ≡ when (nat_lt k n) UnmappedByte (on_stack d (entry_byte (entry_in i (slot_of s p)) k ∷ rest))
      peek_there lt =
          peek_is ∙ ap (λ o. need o UnmappedByte (λ entry. when (nat_lt k n) UnmappedByte (on_stack d (entry_byte entry k ∷ rest)))) (there i lt)

      pub peek_short : i < m → nat_lt k n ≡ false → peek d place ≡ Err UnmappedByte
      peek_short lt short =
          peek_there lt ∙ ap (λ b. when b UnmappedByte (on_stack d (entry_byte (entry_in i (slot_of s p)) k ∷ rest))) short

      pub peek_some : (b : ℕ) → i < m → nat_lt k n ≡ true → b ≡ entry_byte (entry_in i (slot_of s p)) k → peek d place ≡ on_stack d (b ∷ rest)
      peek_some b lt long is =
          peek_there lt ∙ ap (λ y. when y UnmappedByte (on_stack d (entry_byte (entry_in i (slot_of s p)) k ∷ rest))) long
          ∙ ap (λ y. on_stack d (y ∷ rest)) (sym is)

    -- WRITTEN

    abbrev with_entries : Entries → world.World
    with_entries new = world.with_slot w (slot_id_seen p) (world.Pool n new)

    abbrev poking : ℕ → ℕ → ℕ → Go
    poking b k i size es put =
        need (slice_get es i) UnmappedByte (λ entry. when (nat_lt k size) UnmappedByte (Ok (put (slice_set es i (entry_with k b entry)), Quiet)))

    module _ (b k i : ℕ) (rest : List ℕ) (we : standing d (with_operands d rest) ≡ w) (e : d.leaf.operands ≡ b ∷ k ∷ i ∷ rest) where
      poke_is : poke d place ≡ poking b k i n entries with_entries
      poke_is =
          (λ j. pop (e j) (λ x under. pop under (λ y below. pop below (λ z more. pool_at d (standing d (with_operands d more)) place (poking x y z)))))
          ∙ ap (λ v. pool_at d v place (poking b k i)) we ∙ found (poking b k i)

      abbrev poked : Option (List ℕ) → Stepped
      poked entry = Ok (with_entries (slice_set entries i (entry_with k b entry)), Quiet)

      pub poke_past : m ≤ i → poke d place ≡ Err UnmappedByte
      poke_past le = poke_is ∙ ap (λ o. need o UnmappedByte (λ entry. when (nat_lt k n) UnmappedByte (poked entry))) (past i le)

      poke_there : i < m → poke d place ≡ when (nat_lt k n) UnmappedByte (poked (entry_in i (slot_of s p)))
      poke_there lt = poke_is ∙ ap (λ o. need o UnmappedByte (λ entry. when (nat_lt k n) UnmappedByte (poked entry))) (there i lt)

      pub poke_short : i < m → nat_lt k n ≡ false → poke d place ≡ Err UnmappedByte
      poke_short lt short = poke_there lt ∙ ap (λ y. when y UnmappedByte (poked (entry_in i (slot_of s p)))) short

      pub poke_some : (f : Frame) (t : Slots) → i < m → nat_lt k n ≡ true → w ≡ world_seen f s → slot_of s p ≡ world.Pool n entries
          → PutsSlot s t p (with_entry i (λ z. entry_with k b) (slot_of s p)) → poke d place ≡ Ok (world_seen f t, Quiet)
      poke_some f t lt long is slot puts =
          let pool = changed_pool (slot_of s p) n i (λ z. entry_with k b) slot in
          poke_there lt ∙ ap (λ y. when y UnmappedByte (poked (entry_in i (slot_of s p)))) long
          ∙ (λ j. Ok (world.with_slot (is j) (slot_id_seen p) (sym pool j), Quiet)) ∙ ap (λ y. Ok (y, Quiet)) (sym (puts.seen_so f))

  -- REMOVED

  abbrev giving : ℕ → List ℕ → Go
  giving i rest size es put =
      need (slice_get es i) UnmappedByte (λ entry. if_absent entry (on_stack d (0 ∷ rest)) (Ok (put (slice_set es i None), Quiet)))

  module _ (i : ℕ) (rest : List ℕ) (f : ℕ → Frame) (we : Pushes d rest f s) (found : IsPool d (world_seen (f 1) s) place s (Some (p, n, m))) where
    abbrev given : Option (List ℕ) → Stepped
    given entry =
        if_absent entry (on_stack d (0 ∷ rest)) (Ok (world.with_slot (world_seen (f 1) s) (slot_id_seen p) (world.Pool n (slice_set entries i None)), Quiet))

    give_is : give_entry d rest place i ≡ need (slice_get entries i) UnmappedByte given
    give_is = ap (λ v. pool_at d v place (giving i rest)) (we 1) ∙ found (giving i rest)

    pub give_past : m ≤ i → give_entry d rest place i ≡ Err UnmappedByte
    give_past le = give_is ∙ ap (λ o. need o UnmappedByte given) (past i le)

    pub give_some : (t : Slots) (b : Bool) → i < m → ((g : Frame) → world.slot_at (world_seen g s) (slot_id_seen p) ≡ Some (slot_of s p))
        → slot_of s p ≡ world.Pool n entries → PutsSlot s t p (with_entry i removed (slot_of s p)) → (b ≡ false ↔ entry_in i (slot_of s p) ≡ None)
        → give_entry d rest place i ≡ reported f t (Ok b)
    give_some t b lt reads slot puts absent =
        give_is ∙ ap (λ o. need o UnmappedByte given) (there i lt) ∙ by (entry_in i (slot_of s p)) b refl refl
      where
        pool : with_entry i removed (slot_of s p) ≡ world.Pool n (slice_set entries i None)
        pool = changed_pool (slot_of s p) n i removed slot

        same : entry_in i (slot_of s p) ≡ None → with_entry i removed (slot_of s p) ≡ slot_of s p
        same e = pool ∙ ap (world.Pool n) (set_there entries i None (there i lt ∙ ap Some e)) ∙ sym slot

        by : (o : Option (List ℕ)) (c : Bool) → entry_in i (slot_of s p) ≡ o → b ≡ c → given o ≡ reported f t (Ok b)
        by None c e g =
            let no : b ≡ false = absent.1 e in
            ap (λ y. Ok (y, Quiet)) (we 0)
            ∙ ap (λ y. Ok (y, Quiet)) (sym (puts.seen_so (f 0) ∙ ap (world.with_slot (world_seen (f 0) s) (slot_id_seen p)) (same e)
            ∙ with_same (world_seen (f 0) s) (slot_id_seen p) (slot_of s p) (reads (f 0)))) ∙ ap (λ y. reported f t (Ok y)) (sym no)
        by (Some bytes) true e g =
            ap (λ slot. Ok (world.with_slot (world_seen (f 1) s) (slot_id_seen p) slot, Quiet)) (sym pool)
            ∙ ap (λ y. Ok (y, Quiet)) (sym (puts.seen_so (f 1))) ∙ ap (λ y. reported f t (Ok y)) (sym g)
        by (Some bytes) false e g = let none = absent.0 g in cc
