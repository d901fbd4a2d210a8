-- The entries of a pool as a slot has them, and what the calls on them change.
use Rattle.std.proofs.Common.{◌≡◌, ℕ, zero, suc, ◌*◌, ◌%◌, ◌<◌, inl, inr, Bool, true, false, List, [], ◌∷◌, ◌++◌, length, max, get_or, set}
use Rattle.std.proofs.Common.{length-append, Option, Some, None, refl, sym, ap, subst, ◌∙◌, arith}
use Rattle.std.specs.Prelude.{IsTrue, ◌↔◌, Result, Ok, Err, IfOk}
use Rattle.gq_store.specs.declared.GrowFault.{GrowFault}
use Rattle.std.proofs.lemmas.Bool.{cases_eq}
use Rattle.std.proofs.lemmas.List.{get_or-map, set-get_or}
use Rattle.gq_tariff.specs.Prices.{classes, class_size}
use Rattle.gq_tariff.specs.declared.class.Class.{Class}
use Rattle.gq_model.specs.machine.World as world
use Rattle.gq_model.specs.machine.Memory.{entry_byte, entry_with}
use Rattle.gq_store.specs.Store.{Store, word}
use Rattle.gq_store.specs.Chunk_bytes.{listed}
use Rattle.gq_store.proofs.Stored_byte_lists.{length-listed, get_or-listed}
use Rattle.gq_heap.specs.declared.heap.Heap.{Heap}
use Rattle.gq_heap.specs.declared.heap.Place.{Place}
use Rattle.gq_heap.specs.declared.heap.Place.TheVariants.{Small}
use Rattle.gq_heap.specs.Classes.{index_of}
use Rattle.gq_heap.specs.Heap.{numbers, byte_of, peaks, peak_of}
use Rattle.gq_heap.proofs.Heap_cell_lists.{numbers-append}
use Rattle.gq_pool.specs.declared.pool.Pool as pool
use Rattle.gq_pool.specs.Pools as pools
use Rattle.gq_pool.specs.Pools.{IsAbsent, places_of, held_of, entry_of, entry_bytes, entries_of}
use Rattle.gq_pool.proofs.Pool_entry_lists.{held_is, entries_added, entries_removed, entries_set}
use Rattle.gq_contents.specs.declared.content.Content.{Content}
use Rattle.gq_contents.specs.declared.content.Content.TheVariants.{Pool}
use Rattle.gq_contents.specs.Contents.{seen, entry_in, with_entry, added, removed}
use Rattle.gq_contents.specs.Contents_invariant.{all_places, KeepsContents, IsAmong, Changes}
use Rattle.gq_contents.specs.Paid.{Pays, Raises, places_used, raised_by}
use Rattle.gq_contents.proofs.Other_contents_kept.{opened}
use Rattle.gq_contents.proofs.Content_call_effects.{unchanged}
use Rattle.gq_contents.proofs.Content_lists.{each_prefix}
use Rattle.gq_contents.proofs.PoolCalls.{pool_kept, pool_adds, pool_removes}
use Rattle.gq_contents.proofs.Content_call_prices.{pool_adds_pays, pool_pays_none}
use Rattle.gq_contents.proofs.Content_cell_counts.{count_is}
use Rattle.gq_contents.proofs.Content_heap_peaks.{counts_are, counts_append, counts_same, raised_is}

-- what the table says of an entry
abbrev pub held_at : pool.Pool → Store → ℕ → Option ℕ
held_at p st i = entry_of (word (st.byte p.table) (4 * i))

pub held_there : (p : pool.Pool) (st : Store) (i : ℕ) → i < p.count → get_or (held_of p st) i None ≡ held_at p st i
held_there p st i l = get_or-listed p.count (held_at p st) i None l

pub entry_is : (p : pool.Pool) (st : Store) (i : ℕ) → i < p.count → entry_in i (seen st (Pool p)) ≡ entry_bytes p st (held_at p st i)
entry_is p st i l =
    get_or-map (entry_bytes p st) (held_of p st) i None None (omega (arith, l, length-listed p.count (held_at p st)))
    ∙ ap (entry_bytes p st) (held_there p st i l)

none_of : (p : pool.Pool) (st : Store) (n : ℕ) → n ≡ 0 → entry_bytes p st (entry_of n) ≡ None
none_of p st n e = ap (λ m. entry_bytes p st (entry_of m)) e

zero_of : (p : pool.Pool) (st : Store) (n : ℕ) → entry_bytes p st (entry_of n) ≡ None → n ≡ 0
zero_of p st zero e = refl
zero_of p st (suc q) e = cc

pub absent_none : (p : pool.Pool) (st : Store) (i : ℕ) → i < p.count → IsAbsent p st i → entry_in i (seen st (Pool p)) ≡ None
absent_none p st i l a = entry_is p st i l ∙ none_of p st (word (st.byte p.table) (4 * i)) a

pub none_absent : (p : pool.Pool) (st : Store) (i : ℕ) → i < p.count → entry_in i (seen st (Pool p)) ≡ None → IsAbsent p st i
none_absent p st i l e = zero_of p st (word (st.byte p.table) (4 * i)) (sym (entry_is p st i l) ∙ e)

added_there : (n : ℕ) (entry : Option (List ℕ)) → (entry ≡ None → ⊥) → added n entry ≡ entry
added_there n None h = absurd (h refl)
added_there n (Some bytes) h = refl

-- an entry that is set to what it was
same_entry : (p : pool.Pool) (st : Store) (i : ℕ) (entry : Option (List ℕ)) → entry ≡ entry_in i (seen st (Pool p))
    → world.Pool p.size (set (entries_of p st) i entry) ≡ seen st (Pool p)
same_entry p st i entry e = ap (λ x. world.Pool p.size (set (entries_of p st) i x)) e ∙ ap (world.Pool p.size) (set-get_or (entries_of p st) i None)

-- ---- take
module _ (p : pool.Pool) (before after : Heap) (old new : Store) (i : ℕ) (b : Bool) (l : i < p.count) (t : pools.AddsEntry p before after old new i b) where
  pub takes_changes : Changes before after old new (Pool p) (Pool p)
  takes_changes = elim (cases_eq (word (old.byte p.table) (4 * i)) 0) [
    | inl a ↦ pool_adds p before after old new i (t.absent a).1
    | inr ne ↦
        let s = t.there ne in
        subst (λ st. Changes before after old st (Pool p) (Pool p)) (sym s.2)
        (subst (λ h. Changes before h old old (Pool p) (Pool p)) (sym s.1) (unchanged before old (Pool p)))
  ]

  pub takes_added : IsTrue b ↔ (entry_in i (seen old (Pool p)) ≡ None)
  takes_added = (
    λ e. elim (cases_eq (word (old.byte p.table) (4 * i)) 0) [
      | inl a ↦ absent_none p old i l a
      | inr ne ↦ let f : b ≡ false = (t.there ne).0 in absurd (cc)
    ],
    λ e. (t.absent (none_absent p old i l e)).0,
  )

  module _ (k : IsAmong before old (Pool p)) where
    abbrev others : List Place
    others = all_places old k.prefix ++ all_places old k.back

    kept : pools.KeepsPool p before old (held_of p old) others
    kept = pool_kept p before after old new k.prefix k.back (opened before old k.prefix (Pool p) k.back k.keeps)

    pub takes_seen : seen new (Pool p) ≡ with_entry i added (seen old (Pool p))
    takes_seen = elim (cases_eq (word (old.byte p.table) (4 * i)) 0) [
      | inl a ↦
          ap (world.Pool p.size) (entries_added p before after old new i (held_of p old) others kept (t.absent a).1)
          ∙ ap (λ x. world.Pool p.size (set (entries_of p old) i (added p.size x))) (sym (absent_none p old i l a))
      | inr ne ↦
          ap (λ st. seen st (Pool p)) (t.there ne).2
          ∙ sym (same_entry p old i (added p.size (entry_in i (seen old (Pool p)))) (added_there p.size (entry_in i (seen old (Pool p)))
          (λ e. ne (none_absent p old i l e))))
    ]

    pub takes_pays : Pays before after old new (Pool p) (Pool p)
    takes_pays = elim (cases_eq (word (old.byte p.table) (4 * i)) 0) [
      | inl a ↦ pool_adds_pays p before after old new i (held_of p old) others kept (t.absent a).1
      | inr ne ↦
          let s = t.there ne in
          pool_pays_none p before after old new (ap (λ (st : Store). st.left) s.2) (ap (λ (st : Store). st.caps) s.2) (ap peaks s.1)
    ]

-- an entry that is added raises the peaks to what is in use with it
module _ (p : pool.Pool) (before after : Heap) (old new : Store) (i : ℕ) (a : pools.Adds p before after old new i) (prefix back : List Content)
    (h : KeepsContents before old (prefix ++ Pool p ∷ back)) where
  abbrev ps : List Place
  ps = all_places old prefix

  abbrev qs : List Place
  qs = all_places old back

  with_it : pools.KeepsPool p before old (held_of p old) (ps ++ qs)
  with_it = pool_kept p before after old new prefix back (opened before old prefix (Pool p) back h)

  in_use : (c : Class)
      → length (numbers (index_of c) (places_of p.class (set (held_of p old) i (Some a.place)) ++ (ps ++ qs)))
      ≡ places_used new (prefix ++ Pool p ∷ back) (class_size c)
  in_use c =
      let j = index_of c in
      let z = class_size c in
      let o = opened before old prefix (Pool p) back h in
      let kb = pool_adds p before after old new i a prefix back h in
      let es = places_of p.class (set (held_of p old) i (Some a.place)) in
      let held = held_is p new (set (held_of p old) i (Some a.place)) (a.keeps (held_of p old) (ps ++ qs) with_it).keeps.table in
      let here = ap (λ hs. length (numbers j (places_of p.class hs))) held in
      let x = ap length (numbers-append j es (ps ++ qs)) ∙ length-append (numbers j es) (numbers j (ps ++ qs)) in
      let y = ap length (numbers-append j ps qs) ∙ length-append (numbers j ps) (numbers j qs) in
      omega (
        arith,
        x,
        y,
        here,
        counts_are old prefix c o.prefix_are,
        counts_are old back c o.back_are,
        count_is new (Pool p) c (each_prefix new prefix (Pool p) back kb.keeps.each).1,
        counts_append z new prefix (Pool p ∷ back),
        counts_same z old new prefix kb.prefix_seen,
        counts_same z old new back kb.back_seen,
      )

  pub adds_raises : peaks after ≡ raised_by (places_used new (prefix ++ Pool p ∷ back)) classes (peaks before)
  adds_raises = raised_is before after (places_used new (prefix ++ Pool p ∷ back)) a.eight.0 a.eight.1
      (λ c. a.peaks (held_of p old) (ps ++ qs) with_it c ∙ ap (max (peak_of before c)) (in_use c))

pub takes_raises : (p : pool.Pool) (before after : Heap) (old new : Store) (i : ℕ) (b : Bool) → i < p.count → pools.AddsEntry p before after old new i b
    → entry_in i (seen old (Pool p)) ≡ None → Raises before after old new (Pool p) (Pool p)
takes_raises p before after old new i b l t e prefix back h =
    adds_raises p before after old new i (t.absent (none_absent p old i l e)).1 prefix back h

-- ---- give
module _ (p : pool.Pool) (before after : Heap) (old new : Store) (i : ℕ) (b : Bool) (l : i < p.count) (t : pools.RemovesEntry p before after old new i b) where
  pub gives_changes : Changes before after old new (Pool p) (Pool p)
  gives_changes = elim (cases_eq (word (old.byte p.table) (4 * i)) 0) [
    | inl a ↦
        let s = t.absent a in
        subst (λ st. Changes before after old st (Pool p) (Pool p)) (sym s.2)
        (subst (λ h. Changes before h old old (Pool p) (Pool p)) (sym s.1) (unchanged before old (Pool p)))
    | inr ne ↦ pool_removes p before after old new i (t.there ne).1
  ]

  pub gives_absent : (b ≡ false) ↔ (entry_in i (seen old (Pool p)) ≡ None)
  gives_absent = (
    λ e. elim (cases_eq (word (old.byte p.table) (4 * i)) 0) [
      | inl a ↦ absent_none p old i l a
      | inr ne ↦ let f : b ≡ true = (t.there ne).0 in absurd (cc)
    ],
    λ e. (t.absent (none_absent p old i l e)).0,
  )

  pub gives_peaks : peaks after ≡ peaks before
  gives_peaks = elim (cases_eq (word (old.byte p.table) (4 * i)) 0) [ inl a ↦ ap peaks (t.absent a).1 | inr ne ↦ (t.there ne).1.peaks ]

  pub gives_pays : Pays before after old new (Pool p) (Pool p)
  gives_pays = elim (cases_eq (word (old.byte p.table) (4 * i)) 0) [
    | inl a ↦
        let s = t.absent a in
        pool_pays_none p before after old new (ap (λ (st : Store). st.left) s.2) (ap (λ (st : Store). st.caps) s.2) (ap peaks s.1)
    | inr ne ↦ let r = (t.there ne).1 in pool_pays_none p before after old new r.left r.caps r.peaks
  ]

  pub gives_seen : IsAmong before old (Pool p) → seen new (Pool p) ≡ with_entry i removed (seen old (Pool p))
  gives_seen k =
      let o = opened before old k.prefix (Pool p) k.back k.keeps in
      let kept = pool_kept p before after old new k.prefix k.back o in
      elim (cases_eq (word (old.byte p.table) (4 * i)) 0) [
        | inl a ↦ ap (λ st. seen st (Pool p)) (t.absent a).2 ∙ sym (same_entry p old i None (sym (absent_none p old i l a)))
        | inr ne ↦ ap (world.Pool p.size)
            (entries_removed p before after old new i (held_of p old) (all_places old k.prefix ++ all_places old k.back) kept (t.there ne).1)
      ]

-- ---- bytes of an entry
byte_is : (p : pool.Pool) (st : Store) (o : Option ℕ) (k : ℕ) → k < p.size → pools.entry_byte p st o k ≡ entry_byte (entry_bytes p st o) k
byte_is p st None k l = refl
byte_is p st (Some q) k l = sym (get_or-listed p.size (byte_of st (Small p.class q)) k 0 l)

pub reads_seen : (p : pool.Pool) (heap : Heap) (st : Store) (i k b : ℕ) → i < p.count → k < p.size → IsAmong heap st (Pool p)
    → pools.Reads p heap st i k b → b ≡ entry_byte (entry_in i (seen st (Pool p))) k
reads_seen p heap st i k b l m among r =
    let o = opened heap st among.prefix (Pool p) among.back among.keeps in
    let kept = pool_kept p heap heap st st among.prefix among.back o in
    r (held_of p st) (all_places st among.prefix ++ all_places st among.back) kept
    ∙ ap (λ x. pools.entry_byte p st x k) (held_there p st i l) ∙ byte_is p st (held_at p st i) k m
    ∙ ap (λ x. entry_byte x k) (sym (entry_is p st i l))

held_some : (n : ℕ) → (n ≡ 0 → ⊥) → (q : ℕ) × (entry_of n ≡ Some q)
held_some zero h = absurd (h refl)
held_some (suc q) h = (q, refl)

pub puts_seen : (p : pool.Pool) (heap : Heap) (old new : Store) (i k b : ℕ) → i < p.count → k < p.size → b < 256 → IsAmong heap old (Pool p)
    → pools.PutsInEntry p heap old new i k (b ∷ []) → seen new (Pool p) ≡ with_entry i (λ n. entry_with k b) (seen old (Pool p))
puts_seen p heap old new i k b l m fits among s = elim (cases_eq (word (old.byte p.table) (4 * i)) 0) [
  | inl a ↦
      let none = absent_none p old i l a in
      ap (λ st. seen st (Pool p)) (s.absent a)
      ∙ sym (same_entry p old i (entry_with k b (entry_in i (seen old (Pool p)))) (ap (entry_with k b) none ∙ sym none))
  | inr ne ↦
      let o = opened heap old among.prefix (Pool p) among.back among.keeps in
      let kept = pool_kept p heap heap old new among.prefix among.back o in
      let at = held_some (word (old.byte p.table) (4 * i)) ne in
      let low : b ≡ b % 256 = omega (arith, fits) in
      let was : entry_in i (seen old (Pool p)) ≡ Some (listed p.size (byte_of old (Small p.class at.0))) = entry_is p old i l ∙ ap (entry_bytes p old) at.1 in
      ap (world.Pool p.size) (entries_set p heap old new i k b (held_of p old) (all_places old among.prefix ++ all_places old among.back) kept l at.0
      (held_there p old i l ∙ at.1) s m)
      ∙ ap (λ x. world.Pool p.size (set (entries_of p old) i (Some (set (listed p.size (byte_of old (Small p.class at.0))) k x)))) low
      ∙ ap (λ x. world.Pool p.size (set (entries_of p old) i (entry_with k b x))) (sym was)
]

-- what follows from a clause on what was answered
pub if_ok : (r : Result Bool GrowFault) (P Q : Bool → Type 0) → ((b : Bool) → P b → Q b) → IfOk r P → IfOk r Q
if_ok (Ok b) P Q f h = f b h
if_ok (Err e) P Q f h = h
