-- Services by the numbers that are made of their names.
use Rattle.std.proofs.Common.{◌≡◌, ◌<◌, ◌≤◌, ◌+◌, ◌-◌, ◌*◌, ◌^◌, ℕ, zero, suc, arith, min, Bool, true, false, List, [], ◌∷◌, ◌++◌, drop, length, get_or}
use Rattle.std.proofs.Common.{refl, ap, sym, ◌∙◌, add-one}
use Rattle.std.specs.Prelude.{slice_set}
use Rattle.gq_model.specs.machine.Program.{text_eq}
use Rattle.gq_model.specs.declared.section.Section.{Section}
use Rattle.gq_model.specs.rules.Budgets.{is_one}
use Rattle.gq_model.proofs.Small_facts.{text_is}
use Rattle.gq_program.proofs.Skipped_list_ends.{not_both}
use Rattle.gq_verify.specs.Requested.{Requested, is_asked, requests_for}
use Rattle.gq_program.specs.Name_keys.{key_of}
use Rattle.gq_verify.specs.internal.Service_keys.{keys_of, IsOutside}

not_so : (b : Bool) → (b ≡ true → ⊥) → b ≡ false
not_so false h = refl
not_so true h = absurd (h refl)

-- THE NUMBERS OF ALL

pub length_keys : (all : List Requested) → length (keys_of all) ≡ length all
length_keys [] = refl
length_keys (a ∷ rest) = ap suc (length_keys rest)

key_at : (all : List Requested) (i : ℕ) (e : Requested) → i < length all → get_or (keys_of all) i 0 ≡ key_of (get_or all i e).service
key_at [] i e less = absurd (omega (arith, less))
key_at (a ∷ rest) zero e less = refl
key_at (a ∷ rest) (suc i) e less = key_at rest i e (omega (arith, less))

-- outside of the places among which its number stands none is for a service
pub outside : (all : List Requested) (service : List ℕ) (key first end : ℕ) → key ≡ key_of service →
    ((i : ℕ) → i < length (keys_of all) → get_or (keys_of all) i 0 ≡ key → (first ≤ i) × (i < end)) → IsOutside service all first end
outside all service key first end k within i less out e =
    let many = length_keys all in
    not_so (text_eq service (get_or all i e).service) (λ is.
    let here = key_at all i e less ∙ (ap key_of (sym (text_is service (get_or all i e).service is)) ∙ sym k) in
    not_both i first end (within i (omega (arith, less, many)) here) out)

pub keys_push : (all : List Requested) (a : Requested) → keys_of (all ++ a ∷ []) ≡ keys_of all ++ key_of a.service ∷ []
keys_push [] a = refl
keys_push (b ∷ rest) a = ap (λ (l : List ℕ). key_of b.service ∷ l) (keys_push rest a)

pub keys_set : (all : List Requested) (i : ℕ) (a e : Requested) → i < length all → e.service ≡ (get_or all i a).service →
    keys_of (slice_set all i e) ≡ keys_of all
keys_set [] i a e less same = refl
keys_set (b ∷ rest) zero a e less same = ap (λ (s : List ℕ). key_of s ∷ keys_of rest) same
keys_set (b ∷ rest) (suc i) a e less same = ap (λ (l : List ℕ). key_of b.service ∷ l) (keys_set rest i a e (omega (arith, less)) same)

-- SUMS

abbrev most : ℕ
most = 2 ^ 64 - 1

requests_step : (items : List Requested) (i : ℕ) (e : Requested) (v : List ℕ) (r : Section) → i < length items →
    let a = get_or items i e in
    requests_for (drop i items) v r ≡ is_one v r a.service a.section * a.count + requests_for (drop (suc i) items) v r
requests_step [] i e v r less = absurd (omega (arith, less))
requests_step (x ∷ xs) zero e v r less = refl
requests_step (x ∷ xs) (suc i) e v r less = requests_step xs i e v r (omega (arith, less))

-- with one more
pub summed_more : (items : List Requested) (i sum here next : ℕ) (v : List ℕ) (r : Section) (all : ℕ) → i < length items →
    ((e : Requested) → here ≡ is_one v r (get_or items i e).service (get_or items i e).section * (get_or items i e).count) → next ≡ min (sum + here) most →
    min (sum + requests_for (drop i items) v r) most ≡ all → min (next + requests_for (drop (i + 1) items) v r) most ≡ all
summed_more items i sum here next v r all less is n e =
    let a : Requested = record { service = v; section = r; count = 0 } in
    let h = requests_step items i a v r less in
    let k = ap (λ (n : ℕ). requests_for (drop n items) v r) (add-one i) in
    let c = is a in
    omega (arith, h, k, c, n, e)

pub summed_end : (items : List Requested) (i sum : ℕ) (v : List ℕ) (r : Section) (all : ℕ) → requests_for (drop i items) v r ≡ 0 → sum ≤ most →
    min (sum + requests_for (drop i items) v r) most ≡ min all most → sum ≡ min all most
summed_end items i sum v r all none fits e = omega (arith, none, fits, e)

-- ASKING

-- with one less
pub asked_next : (items : List Requested) (i : ℕ) (service : List ℕ) (b : Bool) → i < length items →
    ((e : Requested) → b ≡ text_eq service (get_or items i e).service) → b ≡ false → is_asked service (drop (i + 1) items) ≡ is_asked service (drop i items)
asked_next items i service b less is h = ap (λ (n : ℕ). is_asked service (drop n items)) (add-one i) ∙ step items i less (λ e. sym (is e) ∙ h) where
  step : (items : List Requested) (i : ℕ) → i < length items → ((e : Requested) → text_eq service (get_or items i e).service ≡ false) →
      is_asked service (drop (suc i) items) ≡ is_asked service (drop i items)
  step [] i less f = absurd (omega (arith, less))
  step (x ∷ xs) zero less f = let h = f x in rw h refl
  step (x ∷ xs) (suc i) less f = step xs i (omega (arith, less)) f

pub asked_here : (items : List Requested) (i : ℕ) (service : List ℕ) (b : Bool) → i < length items →
    ((e : Requested) → b ≡ text_eq service (get_or items i e).service) → b ≡ true → true ≡ is_asked service (drop i items)
asked_here items i service b less is h = step items i less (λ e. sym (is e) ∙ h) where
  step : (items : List Requested) (i : ℕ) → i < length items → ((e : Requested) → text_eq service (get_or items i e).service ≡ true) →
      true ≡ is_asked service (drop i items)
  step [] i less f = absurd (omega (arith, less))
  step (x ∷ xs) zero less f = let h = f x in rw h refl
  step (x ∷ xs) (suc i) less f = step xs i (omega (arith, less)) f
