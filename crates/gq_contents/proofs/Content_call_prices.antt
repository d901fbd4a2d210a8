-- What the calls on contents of each kind pay, of both kinds.
use Rattle.std.proofs.Common.{◌≡◌, ℕ, ◌+◌, ◌*◌, cond, List, [], ◌∷◌, ◌++◌, length, length-append, set, Option, Some, None, refl, sym, ap, ◌∙◌, arith}
use Rattle.gq_tariff.specs.Prices.{up}
use Rattle.gq_model.specs.declared.program.Form.TheVariants as form
use Rattle.gq_model.specs.machine.World as world
use Rattle.gq_model.specs.machine.Amounts.{Ram, Caps}
use Rattle.gq_model.specs.machine.Resource_prices.{heap as class_prices}
use Rattle.gq_model.specs.machine.Sums.{slot_price}
use Rattle.gq_store.specs.Store.{Store, Grows, Shrinks, plus_caps, word}
use Rattle.gq_store.proofs.Stored_byte_lists.{length-listed}
use Rattle.std.proofs.lemmas.List.{length-map}
use Rattle.gq_pool.specs.declared.pool.Pool as pool
use Rattle.gq_pool.specs.Pools.{entries_of, held_of, entry_bytes, entry_of, places_of, KeepsPool, Makes, Adds, Ends}
use Rattle.gq_tariff.specs.declared.class.Class.{Class}
use Rattle.gq_heap.specs.declared.heap.Heap.{Heap}
use Rattle.gq_heap.specs.declared.heap.Place.{Place}
use Rattle.gq_heap.specs.declared.heap.Place.TheVariants.{Small, Large}
use Rattle.gq_heap.specs.Heap.{IsFor, Allocates, Frees, block_bytes, large_chunks, large_price, price_of, caps_of, peaks, rise_caps}
use Rattle.gq_heap.proofs.Heap_cell_lists.{large_chunks-append, large_price-append}
use Rattle.gq_heap.proofs.Heap_charge_rises.{is_small, is_large, plus_one}
use Rattle.gq_sliced.specs.Slices as slices
use Rattle.gq_contents.specs.declared.content.Content.{Content}
use Rattle.gq_contents.specs.declared.content.Content.TheVariants.{Empty, Block, Slice, Space, Pool}
use Rattle.gq_contents.specs.Contents.{IsSpace}
use Rattle.gq_contents.specs.Contents_invariant.{all_places, KeepsContents}
use Rattle.gq_contents.specs.Paid.{Pays}
use Rattle.gq_contents.proofs.Other_contents_kept.{opened}

-- d capabilities that were paid
pub paid_caps : (a b d : ℕ) (x y : Option ℕ) → x ≡ plus_caps d y → a ≡ b + d → plus_caps a y ≡ plus_caps b x
paid_caps a b d x None e q = ap (plus_caps b) (sym e)
paid_caps a b d x (Some m) e q = let f : Some (m + a) ≡ Some (m + d + b) = ap Some (omega arith) in f ∙ ap (plus_caps b) (sym e)

-- ---- slices and spaces
module _ (heap : Heap) (old new : Store) (k n : ℕ) where
  abbrev pages : ℕ
  pages = class_prices Caps (peaks heap)

  pub slice_makes_pays : slices.Makes old new n k → Pays heap heap old new Empty (Slice k n)
  slice_makes_pays s = record {
    ram = omega (arith, s.paid);
    caps = paid_caps (1 + pages) (0 + pages) 1 old.caps new.caps (s.caps ∙ plus_one new.caps) (omega arith);
  }

  pub slice_frees_pays : slices.HasSize old k n → slices.Frees old new k → Pays heap heap old new (Slice k n) Empty
  slice_frees_pays has s = record {
    ram = omega (arith, s.back n has);
    caps = sym (paid_caps (1 + pages) (0 + pages) 1 new.caps old.caps (s.caps ∙ plus_one old.caps) (omega arith));
  }

  pub space_makes_pays : Grows old new k (up n) → Pays heap heap old new Empty (Space k n)
  space_makes_pays s = record {
    ram = omega (arith, s.paid);
    caps = paid_caps (1 + pages) (0 + pages) 1 old.caps new.caps (s.caps ∙ plus_one new.caps) (omega arith);
  }

  pub space_frees_pays : IsSpace old k n → Shrinks old new k → Pays heap heap old new (Space k n) Empty
  space_frees_pays is s = record {
    ram = omega (arith, s.back, is.pages);
    caps = sym (paid_caps (1 + pages) (0 + pages) 1 new.caps old.caps (s.caps ∙ plus_one old.caps) (omega arith));
  }

-- ---- blocks
pub block_price : (p : Place) (n : ℕ) (bytes : List ℕ) → IsFor n p → slot_price Ram (world.Bytes form.Block n bytes) ≡ price_of p
block_price (Small c q) n bytes is = ap (λ b. cond b (up n) 0) (is_small n is.0)
block_price (Large k m) n bytes is = ap (λ b. cond b (up n) 0) (is_large n is.0) ∙ ap up (sym is.1)

pub block_caps : (p : Place) (n : ℕ) (bytes : List ℕ) → IsFor n p → slot_price Caps (world.Bytes form.Block n bytes) ≡ caps_of p
block_caps (Small c q) n bytes is = ap (λ b. cond b 1 0) (is_small n is.0)
block_caps (Large k m) n bytes is = ap (λ b. cond b 1 0) (is_large n is.0)

one_price : (p : Place) (ps : List Place) → large_price (p ∷ ps) ≡ price_of p + large_price ps
one_price (Small c q) ps = omega arith
one_price (Large k n) ps = refl

one_chunk : (p : Place) (ps : List Place) → length (large_chunks (p ∷ ps)) ≡ caps_of p + length (large_chunks ps)
one_chunk (Small c q) ps = omega arith
one_chunk (Large k n) ps = omega arith

pub price_among : (p : Place) (ps qs : List Place) → large_price (ps ++ p ∷ qs) ≡ price_of p + large_price (ps ++ qs)
price_among p ps qs = omega (arith, large_price-append ps (p ∷ qs), large_price-append ps qs, one_price p qs)

pub chunks_among : (p : Place) (ps qs : List Place) → length (large_chunks (ps ++ p ∷ qs)) ≡ caps_of p + length (large_chunks (ps ++ qs))
chunks_among p ps qs = omega (
  arith,
  ap length (large_chunks-append ps (p ∷ qs)),
  length-append (large_chunks ps) (large_chunks (p ∷ qs)),
  ap length (large_chunks-append ps qs),
  length-append (large_chunks ps) (large_chunks qs),
  one_chunk p qs,
)

pub block_frees_pays : (before after : Heap) (old new : Store) (p : Place) (n : ℕ) → IsFor n p → Frees before after old new p
    → Pays before after old new (Block p n) Empty
block_frees_pays before after old new p n is f =
    let price = block_price p n (block_bytes old p n) is in
    let caps = block_caps p n (block_bytes old p n) is in
    let ram_same = ap (class_prices Ram) f.peaks in
    let caps_same = ap (class_prices Caps) f.peaks in
    record {
      ram = omega (arith, f.paid, price, ram_same);
      caps = sym (paid_caps (slot_price Caps (world.Bytes form.Block n (block_bytes old p n)) + class_prices Caps (peaks before))
          (0 + class_prices Caps (peaks after)) (caps_of p) new.caps old.caps f.caps (omega (arith, caps, caps_same)));
    }

module _ (before after : Heap) (old new : Store) (p : Place) (n : ℕ) (prefix back : List Content) (h : KeepsContents before old (prefix ++ Empty ∷ back))
    (a : Allocates before after old new n p) where
  abbrev ps : List Place
  ps = all_places old prefix

  abbrev qs : List Place
  qs = all_places old back

  pub block_makes_pays : Pays before after old new Empty (Block p n)
  block_makes_pays =
      let was = (opened before old prefix Empty back h).blocks.keeps in
      let now = (a.keeps (ps ++ qs) (ps ++ p ∷ qs) was (ps, qs, refl, refl)).keeps in
      record {
        ram = omega (arith, a.paid, a.charge, was.large_sum, now.large_sum, price_among p ps qs, block_price p n (block_bytes new p n) a.kind);
        caps = paid_caps (slot_price Caps (world.Bytes form.Block n (block_bytes new p n)) + class_prices Caps (peaks after))
            (0 + class_prices Caps (peaks before)) (rise_caps before n) old.caps new.caps a.caps
            (omega (arith, a.charge_caps, was.large_count, now.large_count, chunks_among p ps qs, block_caps p n (block_bytes new p n) a.kind));
      }

-- ---- pools
pub entries_long : (p : pool.Pool) (st : Store) → length (entries_of p st) ≡ p.count
entries_long p st = length-map (held_of p st) (entry_bytes p st) ∙ length-listed p.count (λ i. entry_of (word (st.byte p.table) (4 * i)))

pub pool_ends_pays : (p : pool.Pool) (before after : Heap) (old new : Store) → Ends p before after old new → Pays before after old new (Pool p) Empty
pool_ends_pays p before after old new e =
    let price = ap (λ m. up (4 * m)) (entries_long p old) in
    let ram_same = ap (class_prices Ram) e.peaks in
    let caps_same = ap (class_prices Caps) e.peaks in
    record {
      ram = omega (arith, e.left, price, ram_same);
      caps = sym (paid_caps (1 + class_prices Caps (peaks before)) (0 + class_prices Caps (peaks after)) 1 new.caps old.caps
          (e.caps ∙ plus_one old.caps) (omega (arith, caps_same)));
    }

pub pool_makes_pays : (heap : Heap) (old new : Store) (size count : ℕ) (p : pool.Pool) → Makes old new size count p → Pays heap heap old new Empty (Pool p)
pool_makes_pays heap old new size count p m =
    let price = ap (λ n. up (4 * n)) (entries_long p new ∙ m.count_is) in
    record {
      ram = omega (arith, m.paid, price);
      caps = paid_caps (1 + class_prices Caps (peaks heap)) (0 + class_prices Caps (peaks heap)) 1 old.caps new.caps (m.caps ∙ plus_one new.caps) (omega arith);
    }

none_large : (c : Class) (held : List (Option ℕ)) → large_price (places_of c held) ≡ 0
none_large c [] = refl
none_large c (None ∷ held) = none_large c held
none_large c (Some q ∷ held) = none_large c held

none_chunks : (c : Class) (held : List (Option ℕ)) → length (large_chunks (places_of c held)) ≡ 0
none_chunks c [] = refl
none_chunks c (None ∷ held) = none_chunks c held
none_chunks c (Some q ∷ held) = none_chunks c held

entries_price : (c : Class) (held : List (Option ℕ)) (others : List Place) → large_price (places_of c held ++ others) ≡ large_price others
entries_price c held others = omega (arith, large_price-append (places_of c held) others, none_large c held)

entries_chunks : (c : Class) (held : List (Option ℕ)) (others : List Place)
    → length (large_chunks (places_of c held ++ others)) ≡ length (large_chunks others)
entries_chunks c held others = omega (
  arith,
  ap length (large_chunks-append (places_of c held) others),
  length-append (large_chunks (places_of c held)) (large_chunks others),
  none_chunks c held,
)

-- an entry is added
pub pool_adds_pays : (p : pool.Pool) (before after : Heap) (old new : Store) (i : ℕ) (held : List (Option ℕ)) (others : List Place)
    → KeepsPool p before old held others → Adds p before after old new i → Pays before after old new (Pool p) (Pool p)
pool_adds_pays p before after old new i held others k a =
    let was = k.blocks in
    let now = (a.keeps held others k).keeps.blocks in
    let then = set held i (Some a.place) in
    let price = ap (λ n. up (4 * n)) (entries_long p new ∙ sym (entries_long p old)) in
    record {
      ram = omega (arith, a.paid, a.charge, was.large_sum, now.large_sum, entries_price p.class held others, entries_price p.class then others, price);
      caps = paid_caps (1 + class_prices Caps (peaks after)) (1 + class_prices Caps (peaks before)) (rise_caps before p.size) old.caps new.caps a.caps
          (omega (arith, a.charge_caps, was.large_count, now.large_count, entries_chunks p.class held others, entries_chunks p.class then others));
    }

-- nothing is paid
pub pool_pays_none : (p : pool.Pool) (before after : Heap) (old new : Store) → new.left ≡ old.left → new.caps ≡ old.caps → peaks after ≡ peaks before
    → Pays before after old new (Pool p) (Pool p)
pool_pays_none p before after old new left caps same =
    let price = ap (λ n. up (4 * n)) (entries_long p new ∙ sym (entries_long p old)) in
    let ram_same = ap (class_prices Ram) same in
    record {
      ram = omega (arith, left, price, ram_same);
      caps = λ i. plus_caps (1 + class_prices Caps (same i)) (caps i);
    }
