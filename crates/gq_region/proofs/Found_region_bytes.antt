-- Bytes that were found, and what they read in the machine's world.
use Rattle.std.proofs.Common.{◌≡◌, ℕ, ◌+◌, ◌<◌, ◌≤◌, Bool, true, false, cond, List, length, Option, Some, None, IfSome, refl, sym, ap}
use Rattle.std.proofs.Common.{subst, ◌∙◌, arith}
use Rattle.std.specs.Prelude.{IfNone, IsTrue, is_some, nat_le, slice_range}
use Rattle.std.proofs.lemmas.Bool.Decides.{nat_tests}
use Rattle.gq_model.specs.declared.program.Width.{Width}
use Rattle.gq_model.specs.declared.program.Width.TheVariants.{Byte, Word}
use Rattle.gq_model.specs.machine.Program.{bytes_of, little}
use Rattle.gq_model.specs.machine.Scenario.{System}
use Rattle.gq_model.specs.machine.Memory.{bytes_slot_id}
use Rattle.gq_model.specs.machine.World as world
use Rattle.gq_contents.specs.declared.content.Content.{Content}
use Rattle.gq_store.specs.declared.extent.Extent.{Extent}
use Rattle.gq_contents.specs.declared.content.Content.TheVariants.{Empty, Block, Slice, Space, Pool, Link, Waiting}
use Rattle.gq_contents.specs.Contents.{bytes_in, extent_of, put_in, size_of}
use Rattle.gq_trade.specs.declared.session.SlotId.{SlotId}
use Rattle.gq_trade.specs.Seen_sessions.{slot_id_seen}
use Rattle.gq_slots.specs.Slots.{AreRead, Frame, IsExtent, IsSlotId, Slots, holder, memory_of, slot_of, content_at, world_seen}
use Rattle.gq_slots.specs.Calls.{PutsSlot}
use Rattle.gq_slots.specs.Slot_addresses.{extent_at, place_seen}
use Rattle.gq_slots.proofs.Slot_byte_counts.{length_seen}
use Rattle.gq_region.specs.Region_addresses.{AreFound, AreThere, LiesAt, bytes_behind, bytes_seen, bytes_there, number_in, number_of, put_behind}
use Rattle.gq_region.specs.Region_addresses.{put_slot, put_there, slot_under, within}

abbrev length_of : Option Extent → ℕ
length_of None = 0
length_of (Some x) = x.length

module _ (system : System) (w : world.World) (s : Slots) (p : SlotId) (i n : ℕ) where
  abbrev there : Option world.SlotId
  there = bytes_slot_id system w (world.slot_at w (slot_id_seen p)) (slot_id_seen p)

  -- WHAT IS FOUND

  nowhere : (q : SlotId) → world.slot_at w (slot_id_seen q) ≡ Some (slot_of s q) → Some (slot_id_seen q) ≡ there
      → nat_le (i + n) (size_of (content_at s q)) ≡ false → length (bytes_behind system w (slot_id_seen p)) < i + n
  nowhere q r f e =
      let size = length_seen (memory_of s (holder s q)) (content_at s q) in
      let bytes : bytes_behind system w (slot_id_seen p) ≡ bytes_in (slot_of s q) = ap (bytes_there w) (sym f) ∙ ap bytes_seen r in
      grind (arith, nat_tests, size, e, ap length bytes)

  somewhere : (q : SlotId) → world.slot_at w (slot_id_seen q) ≡ Some (slot_of s q) → Some (slot_id_seen q) ≡ there
      → nat_le (i + n) (size_of (content_at s q)) ≡ true → AreThere system w s p i n q i
  somewhere q r f e =
      let size = length_seen (memory_of s (holder s q)) (content_at s q) in
      record { place = sym f; slot = r; index = refl; long = grind (arith, nat_tests, size, e) }

  at_place : (q : SlotId) (b : Bool) → nat_le (i + n) (size_of (content_at s q)) ≡ b → world.slot_at w (slot_id_seen q) ≡ Some (slot_of s q)
      → Some (slot_id_seen q) ≡ there → AreFound system w s p i n (cond b (Some (q, i)) None)
  at_place q true e r f = somewhere q r f e
  at_place q false e r f = nowhere q r f e

  -- the bytes from an index on stand where they were found
  pub found_within : (o : Option SlotId) → place_seen o ≡ there → IfSome o (λ q. world.slot_at w (slot_id_seen q) ≡ Some (slot_of s q)) → 0 < n
      → AreFound system w s p i n (within s i n o)
  found_within None f r lt =
      let long : length (bytes_behind system w (slot_id_seen p)) ≡ 0 = ap (λ y. length (bytes_there w y)) (sym f) in omega (arith, long, lt)
  found_within (Some q) f r lt = at_place q (nat_le (i + n) (size_of (content_at s q))) refl r f

  -- WHAT IT READS

  bytes_are : (q : SlotId) (j : ℕ) → AreThere system w s p i n q j → bytes_behind system w (slot_id_seen p) ≡ bytes_in (slot_of s q)
  bytes_are q j a = ap (bytes_there w) a.place ∙ ap bytes_seen a.slot

  pub fits : (o : Option (SlotId × ℕ)) → AreFound system w s p i n o → is_some o ≡ nat_le (i + n) (length (bytes_behind system w (slot_id_seen p)))
  fits None a = grind (arith, nat_tests, a)
  fits (Some f) a = let e = ap length (bytes_are f.0 f.1 a) in let l = a.long in grind (arith, nat_tests, e, l)

  pub stored : (f : Frame) (b : Slots) (bs : List ℕ) (o : Option (SlotId × ℕ)) → w ≡ world_seen f s → AreFound system w s p i n o
      → IfSome o (λ g. PutsSlot s b g.0 (put_in g.1 bs (slot_of s g.0))) → IsTrue (is_some o) → world_seen f b ≡ put_behind system w (slot_id_seen p) i bs
  stored f b bs None e a h t = cc
  stored f b bs (Some g) e a h t =
      h.seen_so f ∙ ap (λ y. world.with_slot y (slot_id_seen g.0) (put_in g.1 bs (slot_of s g.0))) (sym e)
      ∙ ap (λ j. world.with_slot w (slot_id_seen g.0) (put_in j bs (slot_of s g.0))) a.index ∙ sym (ap (put_there w i bs) a.place
      ∙ ap (put_slot w (slot_id_seen g.0) i bs) a.slot)

pub loaded : (system : System) (w : world.World) (s : Slots) (p : SlotId) (i : ℕ) (width : Width) (o : Option (SlotId × ℕ))
    → AreFound system w s p i (bytes_of width) o → number_of s width o ≡ number_in (bytes_behind system w (slot_id_seen p)) width i
loaded system w s p i width None a =
    let bytes = bytes_behind system w (slot_id_seen p) in
    ap (λ b. cond b (Some (little (slice_range bytes i (i + bytes_of width)))) None) (fits system w s p i (bytes_of width) None a)
loaded system w s p i width (Some f) a =
    let e = bytes_are system w s p i (bytes_of width) f.0 f.1 a in
    ap (λ j. Some (little (slice_range (bytes_in (slot_of s f.0)) j (j + bytes_of width)))) a.index
    ∙ ap (λ y. Some (little (slice_range y i (i + bytes_of width)))) (sym e)
    ∙ ap (λ b. cond b (Some (little (slice_range (bytes_behind system w (slot_id_seen p)) i (i + bytes_of width)))) None)
    (fits system w s p i (bytes_of width) (Some f) a)

-- WHERE IT LIES

pub width_some : (width : Width) → 0 < bytes_of width
width_some Byte = omega arith
width_some Word = omega arith

-- an extent is as long as what it is of, and what has none has no bytes
extent_size : (t : Content) (o : Option Extent) → o ≡ extent_of t → size_of t ≡ length_of o
extent_size Empty o e = ap length_of (sym e)
extent_size (Block q n) o e = ap length_of (sym e)
extent_size (Slice k n) o e = ap length_of (sym e)
extent_size (Space k n) o e = ap length_of (sym e)
extent_size (Pool q) o e = ap length_of (sym e)
extent_size (Link k) o e = ap length_of (sym e)
extent_size (Waiting k) o e = ap length_of (sym e)

-- an address of a leaf is in the window of a slot that there is
pub window_slot : (s : Slots) (x a : ℕ) → x < length s.own → a < 4294967296 → IsSlotId s (slot_under x a)
window_slot s x a lt small = (lt, omega (arith, small))

-- what stands at a place reads as it is
pub reads_at : (f : Frame) (s : Slots) (o : Option SlotId) → AreRead s → IfSome o (λ q. IsSlotId s q)
    → IfSome o (λ q. world.slot_at (world_seen f s) (slot_id_seen q) ≡ Some (slot_of s q))
reads_at f s None reads ids = tt
reads_at f s (Some q) reads ids = reads f q ids

-- what lies at a place is an extent
pub extent_is : (s : Slots) (o : Option SlotId) (x : Extent) → Some x ≡ extent_at s o → IfSome o (λ q. IsSlotId s q) → IsExtent s x
extent_is s None x e ids = cc
extent_is s (Some q) x e ids = record { slot_id = q; there = ids; is = sym e }

module _ (s : Slots) (i : ℕ) (width : Width) where
  short_at : (q : SlotId) → nat_le (i + bytes_of width) (size_of (content_at s q)) ≡ false → within s i (bytes_of width) (Some q) ≡ None
  short_at q f = ap (λ b. cond b (Some (q, i)) None) f

  -- nothing stands there, or it has no bytes
  pub lies_nowhere : (o : Option SlotId) → None ≡ extent_at s o → within s i (bytes_of width) o ≡ None
  lies_nowhere None e = refl
  lies_nowhere (Some q) e =
      let size = extent_size (content_at s q) None e in let some = width_some width in short_at q (grind (arith, nat_tests, size, some))

  -- too few bytes stand there
  pub lies_short : (o : Option SlotId) (x : Extent) → Some x ≡ extent_at s o → x.length < i + bytes_of width → within s i (bytes_of width) o ≡ None
  lies_short None x e lt = cc
  lies_short (Some q) x e lt =
      let size = extent_size (content_at s q) (Some x) e in short_at q (grind (arith, nat_tests, size, lt))

  pub lies_there : (o : Option SlotId) (x : Extent) → Some x ≡ extent_at s o → i + bytes_of width ≤ x.length → IfSome o (λ q. IsSlotId s q)
      → LiesAt s (within s i (bytes_of width) o) x i
  lies_there None x e le ids = cc
  lies_there (Some q) x e le ids =
      let size = extent_size (content_at s q) (Some x) e in
      let fit : nat_le (i + bytes_of width) (size_of (content_at s q)) ≡ true = grind (arith, nat_tests, size, le) in
      record { slot_id = q; place_is = ap (λ b. cond b (Some (q, i)) None) fit; there = ids; is = sym e }

-- WHAT IS READ AND WRITTEN THERE

module _ (s : Slots) (place : Option (SlotId × ℕ)) (x : Extent) (i : ℕ) (width : Width) (at : LiesAt s place x i) where
  pub reads_there : (n : ℕ) → ((p : SlotId) → IsSlotId s p → extent_of (content_at s p) ≡ Some x
      → n ≡ little (slice_range (bytes_in (slot_of s p)) i (i + bytes_of width)))
      → Some n ≡ number_of s width place
  reads_there n reads = ap Some (reads at.slot_id at.there at.is) ∙ ap (number_of s width) (sym at.place_is)

  pub puts_there : (t : Slots) (bs : List ℕ) → ((p : SlotId) → IsSlotId s p → extent_of (content_at s p) ≡ Some x → PutsSlot s t p (put_in i bs (slot_of s p)))
      → IfSome place (λ f. PutsSlot s t f.0 (put_in f.1 bs (slot_of s f.0)))
  puts_there t bs writes =
      subst (λ o. IfSome o (λ f. PutsSlot s t f.0 (put_in f.1 bs (slot_of s f.0)))) (sym at.place_is) (writes at.slot_id at.there at.is)

  pub is_there : true ≡ is_some place
  is_there = ap is_some (sym at.place_is)

  pub none_else : (t : Slots) → IfNone place (t ≡ s)
  none_else t = subst (λ o. IfNone o (t ≡ s)) (sym at.place_is) tt
