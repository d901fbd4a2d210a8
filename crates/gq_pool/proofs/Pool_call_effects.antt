-- What the calls of a pool change.
use Rattle.std.proofs.Common.{◌≡◌, ℕ, zero, suc, ◌+◌, ◌-◌, ◌*◌, ◌/◌, ◌%◌, ◌<◌, ◌≤◌, inl, inr, List, [], ◌∷◌, ◌++◌, length, get_or, set, Option, Some, None}
use Rattle.std.proofs.Common.{refl, sym, ap, subst, ◌∙◌, arith, true, false}
use Rattle.std.proofs.lemmas.Bool.{lt-ltb}
use Rattle.std.specs.Prelude.{nat_lt, ◌↔◌}
use Rattle.std.proofs.lemmas.Bool.Decides.{nat_tests}
use Rattle.gq_tariff.specs.Prices.{class_size, size_for}
use Rattle.gq_tariff.specs.declared.class.Class.{Class}
use Rattle.gq_tariff.specs.declared.class.Class.TheVariants.{Bytes16, Bytes32, Bytes64, Bytes128, Bytes256, Bytes512, Bytes1024, Bytes2048}
use Rattle.gq_store.specs.Store.{Store, word, Writes, plus_caps}
use Rattle.gq_store.specs.Chunk_bytes.{PutsBytes}
use Rattle.gq_heap.specs.declared.heap.Heap.{Heap}
use Rattle.gq_heap.specs.declared.heap.Place.{Place}
use Rattle.gq_heap.specs.declared.heap.Place.TheVariants.{Small}
use Rattle.gq_heap.specs.Classes.{index_of, size_at, places_at}
use Rattle.gq_heap.specs.Heap.{Owns, Inserts, IsInUse, byte_of, rise_caps, SameBytes, KeepsPlaces as KeepsHeap, Allocates, Frees as FreesBlock}
use Rattle.gq_heap.specs.Heap.{PutsInBlock as PutsBlock}
use Rattle.gq_heap.specs.Heap.{KeepsNow as HeapNow, KeepsWithin as HeapWithin}
use Rattle.std.proofs.Math.Nat.{mod-lt, div-add-mod}
use Rattle.std.proofs.lemmas.Nat.{mul-le}
use Rattle.gq_heap.specs.internal.Chain.{IsSize}
use Rattle.gq_heap.proofs.Cell_page_numbers.{places_pos, places_few}
use Rattle.gq_heap.proofs.ClassLaws.{sizes, index_below, size_is, number_is}
use Rattle.gq_heap.proofs.Heap_call_invariants.{small_chunk}
use Rattle.gq_heap.proofs.Heap_charge_rises.{plus_none}
use Rattle.gq_pool.specs.declared.pool.Pool.{Pool}
use Rattle.gq_pool.specs.Pools.{places_of, entry_byte, IsAbsent, IsTable, KeepsPool, IsPool, OwnsBoth, KeepsNow, KeepsWithin, Adds, Removes, PutsInEntry, Reads}
use Rattle.gq_pool.proofs.Present_entry_cells.{comes, goes, none_at, some_at, table_stays}
use Rattle.gq_pool.proofs.Heap_call_table_word.{table_there, word_inside, stepped, stepped_owns, spared, old_same, new_same}

some_same : (m n : ℕ) → ◌≡◌ {A = Option ℕ} (Some m) (Some n) → m ≡ n
some_same m n e = cc

none_some : (n : ℕ) → ◌≡◌ {A = Option ℕ} None (Some n) → ⊥
none_some n e = cc

-- ---- the class of the entries
abbrev class_at : ℕ → Class
class_at zero = Bytes16
class_at (suc zero) = Bytes32
class_at (suc (suc zero)) = Bytes64
class_at (suc (suc (suc zero))) = Bytes128
class_at (suc (suc (suc (suc zero)))) = Bytes256
class_at (suc (suc (suc (suc (suc zero))))) = Bytes512
class_at (suc (suc (suc (suc (suc (suc zero)))))) = Bytes1024
class_at (suc (suc (suc (suc (suc (suc (suc i))))))) = Bytes2048

class_back : (c : Class) → class_at (index_of c) ≡ c
class_back Bytes16 = refl
class_back Bytes32 = refl
class_back Bytes64 = refl
class_back Bytes128 = refl
class_back Bytes256 = refl
class_back Bytes512 = refl
class_back Bytes1024 = refl
class_back Bytes2048 = refl

same_class : (c d : Class) (n : ℕ) → n ≤ 2048 → class_size c ≡ size_for n → class_size d ≡ size_for n → c ≡ d
same_class c d n h e f = sym (class_back c) ∙ ap class_at (number_is c n h e ∙ sym (number_is d n h f)) ∙ class_back d

fits : (n : ℕ) → n ≤ 2048 → n ≤ size_for n
fits n h = grind (arith, nat_tests)

-- an entry fits into its place
pub entry_room : (pool : Pool) (st : Store) (held : List (Option ℕ)) → IsTable pool st held → pool.size ≤ size_at (index_of pool.class)
entry_room pool st held t = omega (arith, fits pool.size t.entry.1, t.class, size_is pool.class)

-- ---- what a word says
pub absent_at : (pool : Pool) (heap : Heap) (st : Store) (held : List (Option ℕ)) (others : List Place) (i : ℕ) → KeepsPool pool heap st held others
    → i < pool.count
    → IsAbsent pool st i → get_or held i None ≡ None
absent_at pool heap st held others i k l a = none_at (get_or held i None) (word (st.byte pool.table) (4 * i)) (k.table.words i (omega (arith, k.table.count))) a

pub there_at : (pool : Pool) (heap : Heap) (st : Store) (held : List (Option ℕ)) (others : List Place) (i n : ℕ) → KeepsPool pool heap st held others
    → i < pool.count
    → n ≡ word (st.byte pool.table) (4 * i) → 0 < n → get_or held i None ≡ Some (n - 1)
there_at pool heap st held others i n k l e pos = some_at (get_or held i None) n (e ∙ k.table.words i (omega (arith, k.table.count))) pos

-- the word of an entry lies in the table
pub word_there : (pool : Pool) (heap : Heap) (st : Store) (i : ℕ) → IsPool pool heap st → i < pool.count → 4 * i + 4 ≤ st.size pool.table
word_there pool heap st i p l = (word_inside pool st p.held i p.keeps.table l).0

pub entry_in_use : (pool : Pool) (heap : Heap) (st : Store) (i n : ℕ) → IsPool pool heap st → i < pool.count → n ≡ word (st.byte pool.table) (4 * i) → 0 < n
    → IsInUse heap st (Small pool.class (n - 1))
entry_in_use pool heap st i n p l e pos = record {
  places = places_of pool.class p.held ++ p.others;
  rest = places_of pool.class (set p.held i None) ++ p.others;
  keeps = p.keeps.blocks;
  has = goes pool.class p.held i (n - 1) p.others (omega (arith, l, p.keeps.table.count)) (there_at pool heap st p.held p.others i n p.keeps l e pos);
}

-- a word of the table tests whether the entry is absent
pub absent_tested : (w v : ℕ) → w ≡ v → (nat_lt 0 w ≡ false) ↔ (v ≡ 0)
absent_tested zero v e = (λ t. sym e, λ t. refl)
absent_tested (suc w) v e = let set = lt-ltb 0 (suc w) (omega arith) in (λ t. let same : true ≡ false = sym set ∙ t in cc, λ z. absurd (omega (arith, e, z)))

-- what is read of an entry that is absent, and of one that is there
pub reads_absent : (pool : Pool) (heap : Heap) (st : Store) (i k : ℕ) → i < pool.count → IsAbsent pool st i → Reads pool heap st i k 0
reads_absent pool heap st i k l absent held others kept = sym (ap (λ e. entry_byte pool st e k) (absent_at pool heap st held others i kept l absent))

pub reads_there : (pool : Pool) (heap : Heap) (st : Store) (i n k b : ℕ) → i < pool.count → n ≡ word (st.byte pool.table) (4 * i) → 0 < n
    → b ≡ byte_of st (Small pool.class (n - 1)) k → Reads pool heap st i k b
reads_there pool heap st i n k b l is pos e held others kept =
    e ∙ sym (ap (λ x. entry_byte pool st x k) (there_at pool heap st held others i n kept l is pos))

-- a place has a number that fits
pub place_few : (before after : Heap) (old mid : Store) (n q : ℕ) (c : Class) (places : List Place) → KeepsHeap before old places
    → Allocates before after old mid n (Small c q) → q < 268435456
place_few before after old mid n q c places k a =
    let now = a.keeps places (Small c q ∷ places) k ([], places, refl, refl) in
    let z = size_at (index_of c) in
    let p = places_at (index_of c) in
    let s : IsSize z p = sizes (index_of c) (index_below c) in
    let mine = small_chunk after mid (Small c q ∷ places) places c q now.keeps ([], places, refl, refl) in
    let few : q / p < 1048576 = ((now.keeps.bin (index_of c) (index_below c)).places.chunk (q / p) mine.1).1 in
    let whole : p * (q / p) + q % p ≡ q = div-add-mod q p in
    let rest : q % p < p = mod-lt q (places_pos z p s) in
    let most : p * (q / p) ≤ 256 * 1048575 = mul-le p (q / p) 256 1048575 (places_few z p s) (omega (arith, few)) in
    omega (arith, whole, rest, most, places_few z p s)

-- the table has room for the word after the heap's call
pub room_made : (pool : Pool) (before after : Heap) (old mid : Store) (i n : ℕ) (r : Place) → IsPool pool before old → i < pool.count
    → Allocates before after old mid n r → 4 * i + 4 ≤ mid.size pool.table
room_made pool before after old mid i n r p l a =
    let places = places_of pool.class p.held ++ p.others in
    let now = a.keeps places (r ∷ places) p.keeps.blocks ([], places, refl, refl) in
    let t = p.keeps.table in
    let same = now.spares pool.table (table_there pool old p.held t (omega (arith, l))) p.keeps.apart in
    omega (arith, same.size, (word_inside pool old p.held i t l).0)

pub room_freed : (pool : Pool) (before after : Heap) (old mid : Store) (i n : ℕ) (p : IsPool pool before old) → i < pool.count
    → n ≡ word (old.byte pool.table) (4 * i) → 0 < n
    → FreesBlock before after old mid (Small pool.class (n - 1)) → 4 * i + 4 ≤ mid.size pool.table
room_freed pool before after old mid i n p l is pos f =
    let t = p.keeps.table in
    let gone = goes pool.class p.held i (n - 1) p.others (omega (arith, l, t.count)) (there_at pool before old p.held p.others i n p.keeps l is pos) in
    let then = f.keeps (places_of pool.class p.held ++ p.others) (places_of pool.class (set p.held i None) ++ p.others) p.keeps.blocks gone in
    let same = then.spares pool.table (table_there pool old p.held t (omega (arith, l))) p.keeps.apart in
    omega (arith, same.size, (word_inside pool old p.held i t l).0)

-- ---- an entry comes
module _ (pool : Pool) (before after : Heap) (old mid new : Store) (i q : ℕ) (c : Class) (l : i < pool.count) (p : IsPool pool before old)
    (absent : IsAbsent pool old i)
    (a : Allocates before after old mid pool.size (Small c q)) (w : Writes mid new pool.table (4 * i) 4)
    (stored : word (new.byte pool.table) (4 * i) ≡ q + 1) where
  class_is : c ≡ pool.class
  class_is = same_class c pool.class pool.size p.keeps.table.entry.1 a.kind.1 p.keeps.table.class

  b : Allocates before after old mid pool.size (Small pool.class q)
  b = subst (λ d. Allocates before after old mid pool.size (Small d q)) class_is a

  module _ (held : List (Option ℕ)) (others : List Place) (k : KeepsPool pool before old held others) where
    here : i < length held
    here = omega (arith, l, k.table.count)

    now : HeapNow after old mid (places_of pool.class (set held i (Some q)) ++ others) (Owns before old (places_of pool.class held ++ others) k.blocks)
    now =
        b.keeps (places_of pool.class held ++ others) (places_of pool.class (set held i (Some q)) ++ others) k.blocks
        (comes pool.class held i q others here (absent_at pool before old held others i k l absent))

    there : 0 < old.size pool.table
    there = table_there pool old held k.table (omega arith)

    apart : Owns after mid (places_of pool.class (set held i (Some q)) ++ others) now.keeps pool.table → ⊥
    apart own = elim (now.owns pool.table own) [ inl h ↦ k.apart h | inr e ↦ omega (arith, there, e) ]

    added_keeps : KeepsNow pool after old new (set held i (Some q)) others (OwnsBoth pool before old held others k)
    added_keeps = record {
      keeps = stepped pool before after old mid new held others i (Some q) k here now.keeps now.spares apart w stored;
      owns = λ x own. elim own [
        | inl e ↦ inl (inl e)
        | inr h ↦ elim (now.owns x (stepped_owns pool before after old mid new held others i (Some q) k here now.keeps now.spares apart w stored x h)) [
          | inl o ↦ inl (inr o)
          | inr e ↦ inr e
        ]
      ];
      spares = spared pool before after old mid new held others i (Some q) k here now.keeps now.spares apart w stored;
    }

    added_bytes : SameBytes old new (places_of pool.class held ++ others)
    added_bytes r rest ins j below =
        old_same pool before after old mid new held others i (Some q) k here now.keeps now.spares apart w stored r rest ins j
        ∙ b.others (places_of pool.class held ++ others) k.blocks r rest ins j below

    added_zero : (j : ℕ) → j < pool.size → entry_byte pool new (Some q) j ≡ 0
    added_zero j below =
        new_same pool before after old mid new held others i (Some q) k here now.keeps now.spares apart w stored (Small pool.class q)
        (places_of pool.class held ++ others) (comes pool.class held i q others here (absent_at pool before old held others i k l absent)) j
        ∙ b.zero j (omega (arith, entry_room pool old held k.table))

  pub adds : Adds pool before after old new i
  adds = record {
    place = q;
    keeps = added_keeps;
    zero = added_zero p.held p.others p.keeps;
    bytes = added_bytes;
    paid = omega (arith, b.paid, w.left);
    caps = b.caps ∙ ap (plus_caps (rise_caps before pool.size)) (sym w.caps);
    peaks = λ held others k d. b.peaks (places_of pool.class held ++ others) (places_of pool.class (set held i (Some q)) ++ others) k.blocks
        (comes pool.class held i q others (omega (arith, l, k.table.count)) (absent_at pool before old held others i k l absent)) d;
    eight = b.eight;
    charge = b.charge;
    charge_caps = b.charge_caps;
  }

-- ---- an entry goes
module _ (pool : Pool) (before after : Heap) (old mid new : Store) (i n : ℕ) (l : i < pool.count) (is : n ≡ word (old.byte pool.table) (4 * i)) (pos : 0 < n)
    (f : FreesBlock before after old mid (Small pool.class (n - 1))) (w : Writes mid new pool.table (4 * i) 4)
    (stored : word (new.byte pool.table) (4 * i) ≡ 0) where
  module _ (held : List (Option ℕ)) (others : List Place) (k : KeepsPool pool before old held others) where
    inside : i < length held
    inside = omega (arith, l, k.table.count)

    gone : Inserts (Small pool.class (n - 1)) (places_of pool.class (set held i None) ++ others) (places_of pool.class held ++ others)
    gone = goes pool.class held i (n - 1) others inside (there_at pool before old held others i n k l is pos)

    within : HeapWithin after old mid (places_of pool.class (set held i None) ++ others) (Owns before old (places_of pool.class held ++ others) k.blocks)
    within = f.keeps (places_of pool.class held ++ others) (places_of pool.class (set held i None) ++ others) k.blocks gone

    apart_then : Owns after mid (places_of pool.class (set held i None) ++ others) within.keeps pool.table → ⊥
    apart_then own = k.apart (within.owns pool.table own)

    removed_keeps : KeepsWithin pool after old new (set held i None) others (OwnsBoth pool before old held others k)
    removed_keeps = record {
      keeps = stepped pool before after old mid new held others i None k inside within.keeps within.spares apart_then w stored;
      owns = λ x own. elim own [
        | inl e ↦ inl e
        | inr h ↦ inr (within.owns x (stepped_owns pool before after old mid new held others i None k inside within.keeps within.spares apart_then w stored x
            h))
      ];
      spares = spared pool before after old mid new held others i None k inside within.keeps within.spares apart_then w stored;
    }

    removed_bytes : SameBytes old new (places_of pool.class (set held i None) ++ others)
    removed_bytes r rest ins j below =
        new_same pool before after old mid new held others i None k inside within.keeps within.spares apart_then w stored r rest ins j
        ∙ f.others (places_of pool.class held ++ others) (places_of pool.class (set held i None) ++ others) k.blocks gone r rest ins j below

  pub removes : Removes pool before after old new i
  removes = record {
    keeps = removed_keeps;
    bytes = removed_bytes;
    left = omega (arith, w.left, f.paid);
    caps = w.caps ∙ f.caps ∙ sym (plus_none old.caps);
    peaks = f.peaks;
    charge = omega (arith, f.charge);
    charge_caps = omega (arith, f.charge_caps);
  }

-- ---- bytes of an entry
module _ (pool : Pool) (heap : Heap) (old new : Store) (i n k : ℕ) (bytes : List ℕ) (l : i < pool.count) (is : n ≡ word (old.byte pool.table) (4 * i))
    (pos : 0 < n)
    (s : PutsBlock heap old new (Small pool.class (n - 1)) k bytes) where
  module _ (held : List (Option ℕ)) (others : List Place) (kept : KeepsPool pool heap old held others) where
    at : get_or held i None ≡ Some (n - 1)
    at = there_at pool heap old held others i n kept l is pos

    has : Inserts (Small pool.class (n - 1)) (places_of pool.class (set held i None) ++ others) (places_of pool.class held ++ others)
    has = goes pool.class held i (n - 1) others (omega (arith, l, kept.table.count)) at

    written : HeapWithin heap old new (places_of pool.class held ++ others) (Owns heap old (places_of pool.class held ++ others) kept.blocks)
    written = s.keeps (places_of pool.class held ++ others) (places_of pool.class (set held i None) ++ others) kept.blocks has

    put_keeps : KeepsWithin pool heap old new held others (OwnsBoth pool heap old held others kept)
    put_keeps = record {
      keeps = record {
        table = table_stays pool old new held (written.spares pool.table (table_there pool old held kept.table (omega arith)) kept.apart) kept.table;
        blocks = written.keeps;
        apart = λ own. kept.apart (written.owns pool.table own);
      };
      owns = λ x own. elim own [ inl e ↦ inl e | inr h ↦ inr (written.owns x h) ];
      spares = λ x present other. written.spares x present (λ h. other (inr h));
    }

    put_here : (q : ℕ) → get_or held i None ≡ Some q → PutsBytes (entry_byte pool old (Some q)) (entry_byte pool new (Some q)) k bytes
    put_here q e =
        let same : n - 1 ≡ q = some_same (n - 1) q (sym at ∙ e) in
        subst (λ x. PutsBytes (entry_byte pool old (Some x)) (entry_byte pool new (Some x)) k bytes) same s.put

    put_others : SameBytes old new (places_of pool.class (set held i None) ++ others)
    put_others = s.others (places_of pool.class held ++ others) (places_of pool.class (set held i None) ++ others) kept.blocks has

  pub puts_there : PutsInEntry pool heap old new i k bytes
  puts_there = record {
    absent = λ a. absurd (omega (arith, is, pos, a));
    keeps = put_keeps;
    put = put_here;
    others = put_others;
    left = s.left;
    caps = s.caps;
  }

pub puts_absent : (pool : Pool) (heap : Heap) (old : Store) (i k : ℕ) (bytes : List ℕ) → i < pool.count → IsAbsent pool old i
    → PutsInEntry pool heap old old i k bytes
puts_absent pool heap old i k bytes l a = record {
  absent = λ _. refl;
  keeps = λ held others kept. record { keeps = kept; owns = λ x own. own; spares = λ x present other. record { size = refl; bytes = λ j. refl } };
  put = λ held others kept q e. absurd (none_some q (sym (absent_at pool heap old held others i kept l a) ∙ e));
  others = λ held others kept p rest ins j below. refl;
  left = refl;
  caps = refl;
}
