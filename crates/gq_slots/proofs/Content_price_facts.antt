-- Bytes and entries that change cost what they cost, and use no more places than before.
use Rattle.std.proofs.Common.{◌≡◌, ℕ, zero, suc, ◌+◌, ◌≤◌, Bool, true, false, cond, eqb, List, [], ◌∷◌, length-set, replicate, set, get_or, Option, Some}
use Rattle.std.proofs.Common.{None, refl, ap, ◌∙◌, arith}
use Rattle.std.specs.Prelude.{count_by, is_some}
use Rattle.std.proofs.lemmas.List.Sums.{sum_by-cons}
use Rattle.gq_tariff.specs.Prices.{size_for}
use Rattle.gq_model.specs.declared.program.Form.TheVariants as form
use Rattle.gq_model.specs.machine.Amounts.{Resource, Ram, Caps}
use Rattle.gq_model.specs.machine.Memory.{entry_with}
use Rattle.gq_model.specs.machine.Resource_prices.{price_pool}
use Rattle.gq_model.specs.machine.Sums.{slot_price, slot_places}
use Rattle.gq_model.specs.machine.World as world
use Rattle.gq_store.specs.Store.{Store, plus_caps}
use Rattle.gq_model.specs.machine.Resource_prices.{heap as class_prices}
use Rattle.gq_heap.specs.declared.heap.Heap.{Heap}
use Rattle.gq_heap.specs.Heap.{peaks}
use Rattle.gq_contents.specs.declared.content.Content.{Content}
use Rattle.gq_contents.specs.Contents.{put_in, removed, seen, with_entry}
use Rattle.gq_contents.specs.Paid.{cost_with, Pays}

pub price_put : (r : Resource) (i : ℕ) (bs : List ℕ) (slot : world.Slot) → slot_price r (put_in i bs slot) ≡ slot_price r slot
price_put r i bs world.Empty = refl
price_put r i bs (world.Bytes f n bytes) = refl
price_put r i bs (world.Pool n entries) = refl
price_put r i bs (world.Link k) = refl
price_put r i bs (world.Waiting k) = refl

pub places_put : (c i : ℕ) (bs : List ℕ) (slot : world.Slot) → slot_places c (put_in i bs slot) ≡ slot_places c slot
places_put c i bs world.Empty = refl
places_put c i bs (world.Bytes form.Block n bytes) = refl
places_put c i bs (world.Bytes form.Slice n bytes) = refl
places_put c i bs (world.Bytes form.Space n bytes) = refl
places_put c i bs (world.Pool n entries) = refl
places_put c i bs (world.Link k) = refl
places_put c i bs (world.Waiting k) = refl

pub price_entry : (r : Resource) (i : ℕ) (f : ℕ → Option (List ℕ) → Option (List ℕ)) (slot : world.Slot)
    → slot_price r (with_entry i f slot) ≡ slot_price r slot
price_entry r i f world.Empty = refl
price_entry r i f (world.Bytes g n bytes) = refl
price_entry r i f (world.Pool n entries) = ap (price_pool r) (length-set entries i (f n (get_or entries i None)))
price_entry r i f (world.Link k) = refl
price_entry r i f (world.Waiting k) = refl

-- how many entries there are, with one that changes
abbrev one_if : Option (List ℕ) → ℕ
one_if e = cond (is_some e) 1 0

count_set : (es : List (Option (List ℕ))) (i : ℕ) (e : Option (List ℕ)) → one_if e ≤ one_if (get_or es i None)
    → count_by is_some (set es i e) ≤ count_by is_some es
count_set [] i e le = omega arith
count_set (a ∷ es) zero e le =
    let p = sum_by-cons one_if e es in
    let q = sum_by-cons one_if a es in
    omega (arith, p, q, le)
count_set (a ∷ es) (suc i) e le =
    let p = sum_by-cons one_if a (set es i e) in
    let q = sum_by-cons one_if a es in
    omega (arith, p, q, count_set es i e le)

cond_le : (b : Bool) (m n : ℕ) → m ≤ n → cond b m 0 ≤ cond b n 0
cond_le true m n le = le
cond_le false m n le = omega arith

pub places_entry : (c i : ℕ) (f : ℕ → Option (List ℕ) → Option (List ℕ)) (slot : world.Slot)
    → ((n : ℕ) (e : Option (List ℕ)) → one_if (f n e) ≤ one_if e) → slot_places c (with_entry i f slot) ≤ slot_places c slot
places_entry c i f world.Empty le = omega arith
places_entry c i f (world.Bytes form.Block n bytes) le = omega arith
places_entry c i f (world.Bytes form.Slice n bytes) le = omega arith
places_entry c i f (world.Bytes form.Space n bytes) le = omega arith
places_entry c i f (world.Pool n entries) le =
    cond_le (eqb (size_for n) c) (count_by is_some (set entries i (f n (get_or entries i None)))) (count_by is_some entries)
    (count_set entries i (f n (get_or entries i None)) (le n (get_or entries i None)))
places_entry c i f (world.Link k) le = omega arith
places_entry c i f (world.Waiting k) le = omega arith

pub removed_less : (n : ℕ) (e : Option (List ℕ)) → one_if (removed n e) ≤ one_if e
removed_less n e = omega arith

pub entry_same : (k b n : ℕ) (e : Option (List ℕ)) → one_if (entry_with k b e) ≤ one_if e
entry_same k b n None = omega arith
entry_same k b n (Some bytes) = omega arith

-- nothing is paid where what is there costs the same
pub pays_none : (h : Heap) (old new : Store) (t : Content) → ((r : Resource) → slot_price r (seen new t) ≡ slot_price r (seen old t)) → new.left ≡ old.left
    → new.caps ≡ old.caps → Pays h h old new t t
pays_none h old new t same left caps = record {
  ram = omega (arith, same Ram, left);
  caps = ap (λ c. plus_caps (cost_with Caps h new t) c) caps ∙ ap (λ n. plus_caps (n + class_prices Caps (peaks h)) old.caps) (same Caps);
}

-- a pool whose entries are absent uses no places
count_none : (n : ℕ) → count_by is_some (replicate {A = Option (List ℕ)} n None) ≡ 0
count_none zero = refl
count_none (suc n) = let e = sum_by-cons one_if None (replicate {A = Option (List ℕ)} n None) in omega (arith, e, count_none n)

cond_zero : (b : Bool) (n : ℕ) → n ≡ 0 → cond b n 0 ≡ 0
cond_zero true n e = e
cond_zero false n e = refl

pub pool_none : (c size count : ℕ) → slot_places c (world.Pool size (replicate count None)) ≡ 0
pool_none c size count = cond_zero (eqb (size_for size) c) (count_by is_some (replicate {A = Option (List ℕ)} count None)) (count_none count)
