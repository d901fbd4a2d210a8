-- Dataspaces that are set more than once.
use Rattle.std.proofs.Common.{◌≡◌, ℕ, zero, suc, ◌+◌, ◌-◌, ◌*◌, ◌<◌, ◌≤◌, inl, inr, List, [], ◌∷◌, ◌++◌, length, take, set, get_or, Option, Some, None, IsTrue}
use Rattle.std.proofs.Common.{refl, sym, ap, subst, ◌∙◌, arith, length-append, length-take}
use Rattle.std.proofs.lemmas.Bool.{cases_lt}
use Rattle.std.proofs.lemmas.Bool.Decides.{nat_tests}
use Rattle.std.proofs.lemmas.Grind.{same_number_lists}
use Rattle.std.proofs.lemmas.List.{get_or-set_same, set-set, take_all, get_or-take, get_or_append_left, get_or-append_right}
use Rattle.gq_pages.specs.Frame_bytes.{zeros}
use Rattle.gq_pages.specs.Frame_map.{its_bytes, has_bytes}
use Rattle.gq_dataspace.specs.Dataspaces.{Contents, IsLive, content_of, shorter}
use Rattle.gq_dataspace.proofs.Dataspace_link_tables.{past}
use Rattle.gq_dataspace.proofs.Frame_list_bytes.{length-zeros, get_or-zeros}

pub live_there : (ss : Contents) (r : ℕ) → IsLive ss r → r < length ss
live_there ss r live = elim (cases_lt r (length ss)) [
  | inl lt ↦ lt
  | inr ge ↦ let no : IsTrue (has_bytes None) =
      subst (λ (o : Option (List ℕ)). IsTrue (has_bytes o)) (past ss r None ge) live in cc
]

some_there : (o : Option (List ℕ)) → 0 < length (its_bytes o) → IsTrue (has_bytes o)
some_there None h = absurd (omega (arith, h))
some_there (Some bs) h = refl

pub content_there : (ss : Contents) (r : ℕ) → 0 < length (content_of ss r) → r < length ss
content_there ss r h = live_there ss r (some_there (get_or ss r None) h)

pub content_set : (ss : Contents) (r : ℕ) (bs : List ℕ) → r < length ss → content_of (set ss r (Some bs)) r ≡ bs
content_set ss r bs lt = ap its_bytes (get_or-set_same ss r (Some bs) None lt)

pub live_set : (ss : Contents) (r : ℕ) (bs : List ℕ) → r < length ss → IsLive (set ss r (Some bs)) r
live_set ss r bs lt = ap has_bytes (get_or-set_same ss r (Some bs) None lt)

-- a second byte is written
pub stored_again : (ss : Contents) (r : ℕ) (bs : List ℕ) (o v : ℕ) → r < length ss
    → set (set ss r (Some bs)) r (Some (set (content_of (set ss r (Some bs)) r) o v)) ≡ set ss r (Some (set bs o v))
stored_again ss r bs o v lt = set-set ss r (Some bs) (Some (set (content_of (set ss r (Some bs)) r) o v))
    ∙ ap (λ (xs : List ℕ). set ss r (Some (set xs o v))) (content_set ss r bs lt)

-- ---- a page of zeros more
get_or-zeros_both : (a b i : ℕ) → get_or (zeros a ++ zeros b) i 0 ≡ 0
get_or-zeros_both a b i = elim (cases_lt i a) [
  | inl lt ↦ get_or_append_left (zeros a) (zeros b) 0 i (omega (arith, length-zeros a)) ∙ get_or-zeros a i
  | inr ge ↦ get_or-append_right (zeros a) (zeros b) a i 0 (length-zeros a) ge ∙ get_or-zeros b (i - a)
]

zeros_add : (a b : ℕ) → zeros a ++ zeros b ≡ zeros (a + b)
zeros_add a b = same_number_lists (zeros a ++ zeros b) (zeros (a + b)) (omega (
  arith,
  length-append (zeros a) (zeros b),
  length-zeros a,
  length-zeros b,
  length-zeros (a + b),
))
    (λ i h. get_or-zeros_both a b i ∙ sym (get_or-zeros (a + b) i))

pub zeros_again : (ss : Contents) (r k : ℕ) → r < length ss
    → set (set ss r (Some (zeros (4096 * k)))) r (Some (content_of (set ss r (Some (zeros (4096 * k)))) r ++ zeros 4096)) ≡ set ss r
    (Some (zeros (4096 * (k + 1))))
zeros_again ss r k lt =
    let m : 4096 * k + 4096 ≡ 4096 * (k + 1) = omega arith in
    set-set ss r (Some (zeros (4096 * k))) (Some (content_of (set ss r (Some (zeros (4096 * k)))) r ++ zeros 4096))
    ∙ ap (λ (xs : List ℕ). set ss r (Some (xs ++ zeros 4096))) (content_set ss r (zeros (4096 * k)) lt)
    ∙ ap (λ (xs : List ℕ). set ss r (Some xs)) (zeros_add (4096 * k) 4096 ∙ ap zeros m)

-- ---- pages are taken off one after the other
-- the first m pages, none where there are none
abbrev pub first_pages : List ℕ → ℕ → Option (List ℕ)
first_pages bs zero = None
first_pages bs (suc m) = Some (take (4096 * suc m) bs)

same_space : (ss : Contents) (r : ℕ) → IsLive ss r → set ss r (Some (content_of ss r)) ≡ ss
same_space [] r h = refl
same_space (None ∷ ss) zero h = cc
same_space (Some bs ∷ ss) zero h = refl
same_space (x ∷ ss) (suc r) h = ap (λ (ys : Contents). x ∷ ys) (same_space ss r h)

pub all_pages : (ss : Contents) (r n : ℕ) → IsLive ss r → 0 < n → length (content_of ss r) ≡ 4096 * n → set ss r (first_pages (content_of ss r) n) ≡ ss
all_pages ss r zero live some long = absurd (omega (arith, some))
all_pages ss r (suc m) live some long = ap (λ (xs : List ℕ). set ss r (Some xs)) (take_all (4096 * suc m) (content_of ss r) (omega (arith, long)))
    ∙ same_space ss r live

take_twice : (bs : List ℕ) (a b : ℕ) → a ≤ b → take a (take b bs) ≡ take a bs
take_twice bs a b h = same_number_lists (take a (take b bs)) (take a bs) (omega (arith, length-take a (take b bs), length-take b bs, length-take a bs, h))
    (λ i lt. let below : i < a = omega (arith, length-take a (take b bs)) in
    get_or-take a (take b bs) i 0 below ∙ get_or-take b bs i 0 (omega (arith, h)) ∙ sym (get_or-take a bs i 0 below))

fewer_pages : (bs : List ℕ) (m : ℕ) → 4096 * suc m ≤ length bs → shorter (take (4096 * suc m) bs) ≡ first_pages bs m
unfolding shorter
fewer_pages bs zero h = let long : length (take (4096 * 1) bs) ≡ 4096 = omega (arith, length-take (4096 * 1) bs, h) in grind (arith, nat_tests)
fewer_pages bs (suc k) h =
    let all : List ℕ = take (4096 * suc (suc k)) bs in let long : length all ≡ 4096 * suc (suc k) = omega (arith, length-take (4096 * suc (suc k)) bs, h) in
    let more : 4096 < length all = omega (arith, long) in let m : length all - 4096 ≡ 4096 * suc k = omega (arith, long) in
    let is : take (length all - 4096) all ≡ take (4096 * suc k) bs = ap (λ (n : ℕ). take n all) m
    ∙ take_twice bs (4096 * suc k) (4096 * suc (suc k)) (omega arith) in
    grind (arith, nat_tests)

pub page_fewer : (ss : Contents) (r m : ℕ) (bs : List ℕ) → r < length ss → 4096 * suc m ≤ length bs
    → set (set ss r (first_pages bs (suc m))) r (shorter (content_of (set ss r (first_pages bs (suc m))) r)) ≡ set ss r (first_pages bs m)
page_fewer ss r m bs lt h =
    set-set ss r (first_pages bs (suc m)) (shorter (content_of (set ss r (first_pages bs (suc m))) r))
    ∙ ap (λ (xs : List ℕ). set ss r (shorter xs)) (content_set ss r (take (4096 * suc m) bs) lt) ∙ ap (set ss r) (fewer_pages bs m h)
