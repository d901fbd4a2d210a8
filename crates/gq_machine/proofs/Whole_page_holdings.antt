-- What leaves hold is whole pages.
use Rattle.std.proofs.Common.{◌≡◌, ℕ, suc, ◌+◌, ◌*◌, ◌/◌, Bool, true, false, cond, List}
use Rattle.std.proofs.Common.{[], ◌∷◌, length, Option, Some, None, refl, sym, ap, subst, ◌∙◌, arith}
use Rattle.std.specs.Prelude.{◌-◌, ◌==◌, ◌≤◌, ◌%◌, nat_lt, sum_by}
use Rattle.std.proofs.lemmas.List.Sums.{sum_by-cons}
use Rattle.gq_tariff.specs.Prices.{up, classes}
use Rattle.gq_model.specs.machine.Amounts.{Ram}
use Rattle.gq_model.specs.machine.Resource_prices.{heap_of, price_memory}
use Rattle.gq_model.specs.declared.program.Form.{Form}
use Rattle.gq_model.specs.declared.program.Form.TheVariants.{Block, Slice, Space}
use Rattle.gq_model.specs.machine.Sums.{bank_price, held, slot_price, to_leaf}
use Rattle.gq_model.specs.machine.World as world
use Rattle.gq_prepared.specs.Leaf_holdings.{held_by_all, held_from}

abbrev IsWhole : ℕ → Type 0
IsWhole n = (k : ℕ) × (n ≡ k * 4096)

whole_up : (n : ℕ) → IsWhole (up n)
whole_up n = ((n + 4095) / 4096, refl)

whole_none : IsWhole 0
whole_none = (0, refl)

whole_both : (m n : ℕ) → IsWhole m → IsWhole n → IsWhole (m + n)
whole_both m n a b =
    let k = a.0 in
    let j = b.0 in
    let e = a.1 in
    let f = b.1 in (k + j, omega (arith, e, f))

whole_if : (b : Bool) (m n : ℕ) → IsWhole m → IsWhole n → IsWhole (cond b m n)
whole_if true m n h k = h
whole_if false m n h k = k

whole_sum : {A : Type 0} (f : A → ℕ) → ((a : A) → IsWhole (f a)) → (xs : List A) → IsWhole (sum_by f xs)
whole_sum f h [] = whole_none
whole_sum f h (x ∷ xs) = subst IsWhole (sym (sum_by-cons f x xs)) (whole_both (f x) (sum_by f xs) (h x) (whole_sum f h xs))

whole_memory : (form : Form) (n : ℕ) → IsWhole (price_memory Ram form n)
whole_memory Space n = whole_up n
whole_memory Slice n = whole_up (n + 32)
whole_memory Block n = whole_if (nat_lt 2048 n) (up n) 0 (whole_up n) whole_none

whole_slot : (slot : world.Slot) → IsWhole (slot_price Ram slot)
whole_slot world.Empty = whole_none
whole_slot (world.Waiting session) = whole_none
whole_slot (world.Bytes form n bytes) = whole_memory form n
whole_slot (world.Pool n entries) = whole_up (4 * length entries)
whole_slot (world.Link session) = whole_none

whole_heap : (cs peaks : List ℕ) → IsWhole (heap_of Ram cs peaks)
whole_heap [] peaks = whole_none
whole_heap (c ∷ cs) [] = whole_none
whole_heap (c ∷ cs) (peak ∷ peaks) = whole_both (up (c * peak)) (heap_of Ram cs peaks) (whole_up (c * peak)) (whole_heap cs peaks)

whole_bank : (session : world.Session) → IsWhole (bank_price Ram session)
whole_bank session =
    whole_both (slot_price Ram session.object) (sum_by (slot_price Ram) session.slots) (whole_slot session.object)
    (whole_sum (slot_price Ram) whole_slot session.slots)

whole_to : (x : ℕ) (o : Option world.Session) → IsWhole (to_leaf x (bank_price Ram) o)
whole_to x None = whole_none
whole_to x (Some session) = whole_if (session.server == x) (bank_price Ram session) 0 (whole_bank session) whole_none

whole_held : (w : world.World) (x : ℕ) (leaf : world.Leaf) → IsWhole (held Ram w x leaf)
whole_held w x leaf =
    whole_both (sum_by (slot_price Ram) leaf.slots + heap_of Ram classes leaf.peaks) (sum_by (to_leaf x (bank_price Ram)) w.sessions)
    (whole_both (sum_by (slot_price Ram) leaf.slots) (heap_of Ram classes leaf.peaks) (whole_sum (slot_price Ram) whole_slot leaf.slots)
    (whole_heap classes leaf.peaks)) (whole_sum (to_leaf x (bank_price Ram)) (whole_to x) w.sessions)

whole_from : (w : world.World) (x : ℕ) (leaves : List world.Leaf) → IsWhole (held_from Ram w x leaves)
whole_from w x [] = whole_none
whole_from w x (leaf ∷ rest) = whole_both (held Ram w x leaf) (held_from Ram w (suc x) rest) (whole_held w x leaf) (whole_from w (suc x) rest)

-- the whole pages that are left
pages_left : (total used : ℕ) → total % 4096 ≡ 0 → IsWhole used → used ≤ total → (total - used) / 4096 * 4096 + used ≡ total
pages_left total used whole h less = let k = h.0 in let e = h.1 in omega (arith, whole, e, less)

-- and of all leaves, by what is read of the scenario
pub all_pages : (w : world.World) (total ram used reported : ℕ) → ram ≡ total → reported ≡ total → used ≡ held_by_all Ram w → reported % 4096 ≡ 0
    → held_by_all Ram w ≤ total → (ram - used) / 4096 * 4096 + held_by_all Ram w ≡ total
all_pages w total ram used reported is same all whole less =
    (λ j. (is j - all j) / 4096 * 4096 + held_by_all Ram w)
    ∙ pages_left total (held_by_all Ram w) (ap (λ n. n % 4096) (sym same) ∙ whole) (whole_from w 0 w.leaves) less
