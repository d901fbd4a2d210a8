-- For callers: the places of a heap in another order. A heap that keeps some places keeps them in any order, in the same chunks.
use Rattle.std.proofs.Common.{◌≡◌, ℕ, inl, inr, List, [], ◌∷◌, ◌++◌, length, length-append, refl, sym, ap, ◌∙◌, arith}
use Rattle.gq_store.specs.Store.{Store}
use Rattle.gq_heap.specs.declared.bin.Bin.{Bin}
use Rattle.gq_heap.specs.declared.heap.Heap.{Heap}
use Rattle.gq_heap.specs.declared.heap.Place.{Place}
use Rattle.gq_heap.specs.declared.heap.Place.TheVariants.{Small, Large}
use Rattle.gq_heap.specs.List_occurrences.{times}
use Rattle.gq_heap.specs.Classes.{size_at, places_at}
use Rattle.gq_heap.specs.internal.Bin.{KeepsBin}
use Rattle.gq_heap.specs.Heap.{bin_at, numbers, large_chunks, large_price, AreLarge, KeepsPlaces, Owns}
use Rattle.gq_heap.proofs.Heap_cell_lists.{times-append, numbers-append, large_chunks-append, large_price-append}

are_left : (st : Store) (ps qs : List Place) → AreLarge st (ps ++ qs) → AreLarge st ps
are_left st [] qs h = tt
are_left st (Small c n ∷ ps) qs h = are_left st ps qs h
are_left st (Large k n ∷ ps) qs h = (h.0, h.1, h.2, h.3, are_left st ps qs h.4)

are_right : (st : Store) (ps qs : List Place) → AreLarge st (ps ++ qs) → AreLarge st qs
are_right st [] qs h = h
are_right st (Small c n ∷ ps) qs h = are_right st ps qs h
are_right st (Large k n ∷ ps) qs h = are_right st ps qs h.4

are_both : (st : Store) (ps qs : List Place) → AreLarge st ps → AreLarge st qs → AreLarge st (ps ++ qs)
are_both st [] qs h g = g
are_both st (Small c n ∷ ps) qs h g = are_both st ps qs h g
are_both st (Large k n ∷ ps) qs h g = (h.0, h.1, h.2, h.3, are_both st ps qs h.4 g)

-- one list is the other in another order, as far as a heap reports
pub record IsMoved (ps qs : List Place) : Type 0 where
  pub numbers_same : (i q : ℕ) → times q (numbers i ps) ≡ times q (numbers i qs)
  pub numbers_long : (i : ℕ) → length (numbers i ps) ≡ length (numbers i qs)
  pub chunks_same : (k : ℕ) → times k (large_chunks ps) ≡ times k (large_chunks qs)
  pub chunks_long : length (large_chunks ps) ≡ length (large_chunks qs)
  pub price_same : large_price ps ≡ large_price qs
  pub are_too : (st : Store) → AreLarge st ps → AreLarge st qs

swapped : (f : List Place → List ℕ) → ((ps qs : List Place) → f (ps ++ qs) ≡ f ps ++ f qs) → (a b c : List Place) (x : ℕ)
    → times x (f (a ++ (b ++ c))) ≡ times x (f (b ++ (a ++ c)))
swapped f fa a b c x =
    let p = ap (times x) (fa a (b ++ c)) ∙ times-append x (f a) (f (b ++ c)) in
    let q = ap (times x) (fa b (a ++ c)) ∙ times-append x (f b) (f (a ++ c)) in
    let r = ap (times x) (fa b c) ∙ times-append x (f b) (f c) in
    let s = ap (times x) (fa a c) ∙ times-append x (f a) (f c) in
    omega (arith, p, q, r, s)

as_long : (f : List Place → List ℕ) → ((ps qs : List Place) → f (ps ++ qs) ≡ f ps ++ f qs) → (a b c : List Place)
    → length (f (a ++ (b ++ c))) ≡ length (f (b ++ (a ++ c)))
as_long f fa a b c =
    let p = ap length (fa a (b ++ c)) ∙ length-append (f a) (f (b ++ c)) in
    let q = ap length (fa b (a ++ c)) ∙ length-append (f b) (f (a ++ c)) in
    let r = ap length (fa b c) ∙ length-append (f b) (f c) in
    let s = ap length (fa a c) ∙ length-append (f a) (f c) in
    omega (arith, p, q, r, s)

pub moved : (a b c : List Place) → IsMoved (a ++ (b ++ c)) (b ++ (a ++ c))
moved a b c = record {
  numbers_same = λ i. swapped (numbers i) (numbers-append i) a b c;
  numbers_long = λ i. as_long (numbers i) (numbers-append i) a b c;
  chunks_same = swapped large_chunks large_chunks-append a b c;
  chunks_long = as_long large_chunks large_chunks-append a b c;
  price_same = omega (arith, large_price-append a (b ++ c), large_price-append b c, large_price-append b (a ++ c), large_price-append a c);
  are_too = λ st h. are_both st b (a ++ c) (are_left st b c (are_right st a (b ++ c) h))
      (are_both st a c (are_left st a (b ++ c) h) (are_right st b c (are_right st a (b ++ c) h)));
}

-- any order comes from these
pub not_moved : (ps : List Place) → IsMoved ps ps
not_moved ps = record {
  numbers_same = λ i q. refl;
  numbers_long = λ i. refl;
  chunks_same = λ k. refl;
  chunks_long = refl;
  price_same = refl;
  are_too = λ st h. h;
}

pub moved_twice : (ps qs rs : List Place) → IsMoved ps qs → IsMoved qs rs → IsMoved ps rs
moved_twice ps qs rs a b = record {
  numbers_same = λ i q. a.numbers_same i q ∙ b.numbers_same i q;
  numbers_long = λ i. a.numbers_long i ∙ b.numbers_long i;
  chunks_same = λ k. a.chunks_same k ∙ b.chunks_same k;
  chunks_long = a.chunks_long ∙ b.chunks_long;
  price_same = a.price_same ∙ b.price_same;
  are_too = λ st h. b.are_too st (a.are_too st h);
}

pub moved_within : (prefix ps qs : List Place) → IsMoved ps qs → IsMoved (prefix ++ ps) (prefix ++ qs)
moved_within prefix ps qs m = record {
  numbers_same = λ i q. omega (
    arith,
    ap (times q) (numbers-append i prefix ps),
    ap (times q) (numbers-append i prefix qs),
    times-append q (numbers i prefix) (numbers i ps),
    times-append q (numbers i prefix) (numbers i qs),
    m.numbers_same i q,
  );
  numbers_long = λ i. omega (
    arith,
    ap length (numbers-append i prefix ps),
    ap length (numbers-append i prefix qs),
    length-append (numbers i prefix) (numbers i ps),
    length-append (numbers i prefix) (numbers i qs),
    m.numbers_long i,
  );
  chunks_same = λ k. omega (
    arith,
    ap (times k) (large_chunks-append prefix ps),
    ap (times k) (large_chunks-append prefix qs),
    times-append k (large_chunks prefix) (large_chunks ps),
    times-append k (large_chunks prefix) (large_chunks qs),
    m.chunks_same k,
  );
  chunks_long = omega (
    arith,
    ap length (large_chunks-append prefix ps),
    ap length (large_chunks-append prefix qs),
    length-append (large_chunks prefix) (large_chunks ps),
    length-append (large_chunks prefix) (large_chunks qs),
    m.chunks_long,
  );
  price_same = omega (arith, large_price-append prefix ps, large_price-append prefix qs, m.price_same);
  are_too = λ st h. are_both st prefix qs (are_left st prefix ps h) (m.are_too st (are_right st prefix ps h));
}

pub bin_moved : (z p : ℕ) (bin : Bin) (st : Store) (used used' mine : List ℕ) → ((q : ℕ) → times q used ≡ times q used') → length used ≡ length used'
    → KeepsBin z p bin st used mine → KeepsBin z p bin st used' mine
bin_moved z p bin st used used' mine same long k =
    let w = k.places in
    record {
      free = k.free;
      places = record {
        chain = w.chain;
        each = λ q. omega (arith, w.each q, same q);
        once = w.once;
        chunk = w.chunk;
        all = omega (arith, w.all, long);
      };
      count = k.count ∙ long;
      peak = k.peak;
      charge = k.charge;
    }

unfoldable pub keeps_moved : (heap : Heap) (st : Store) (ps qs : List Place) → IsMoved ps qs → KeepsPlaces heap st ps → KeepsPlaces heap st qs
keeps_moved heap st ps qs m k = record {
  mine = k.mine;
  bin = λ i lt. bin_moved (size_at i) (places_at i) (bin_at heap i) st (numbers i ps) (numbers i qs) (k.mine i) (m.numbers_same i)
      (m.numbers_long i) (k.bin i lt);
  apart = k.apart;
  large = m.are_too st k.large;
  large_once = λ x. omega (arith, k.large_once x, m.chunks_same x);
  large_apart = λ i x lt h. sym (m.chunks_same x) ∙ k.large_apart i x lt h;
  large_sum = k.large_sum ∙ m.price_same;
  large_count = k.large_count ∙ m.chunks_long;
}

-- the chunks of the heap are the same
pub owns_moved : (heap : Heap) (st : Store) (ps qs : List Place) (m : IsMoved ps qs) (k : KeepsPlaces heap st ps) (x : ℕ)
    → Owns heap st qs (keeps_moved heap st ps qs m k) x → Owns heap st ps k x
unfolding keeps_moved
owns_moved heap st ps qs m k x o = elim o [ inl h ↦ inl h | inr h ↦ inr (omega (arith, h, m.chunks_same x)) ]

pub owned_moved : (heap : Heap) (st : Store) (ps qs : List Place) (m : IsMoved ps qs) (k : KeepsPlaces heap st ps) (x : ℕ) → Owns heap st ps k x
    → Owns heap st qs (keeps_moved heap st ps qs m k) x
unfolding keeps_moved
owned_moved heap st ps qs m k x o = elim o [ inl h ↦ inl h | inr h ↦ inr (omega (arith, h, m.chunks_same x)) ]
