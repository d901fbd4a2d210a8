-- Requests that are added up.
use Rattle.std.proofs.Common.{◌≡◌, ◌<◌, ◌≤◌, ℕ, zero, suc, arith, ◌+◌, ◌-◌, ◌*◌, ◌^◌, min, max, Bool, true, false, List, [], ◌∷◌}
use Rattle.std.proofs.Common.{◌++◌, drop, length, get_or, refl, ap, sym, subst, ◌∙◌, ◌⊎◌, inl, inr}
use Rattle.std.specs.Prelude.{if◌then◌else◌, ◌&&◌, slice_set}
use Rattle.std.proofs.Math.ListN.{drop_of_length-le}
use Rattle.std.proofs.lemmas.List.{drop_more}
use Rattle.std.proofs.lemmas.Bool.{and_parts}
use Rattle.gq_model.specs.machine.Program.{text_eq}
use Rattle.gq_model.specs.machine.Sections.{same_section}
use Rattle.gq_model.specs.declared.section.Section.{Section}
use Rattle.gq_model.specs.rules.Budgets.{is_one}
use Rattle.gq_model.proofs.Small_facts.{text_is}
use Rattle.gq_model.proofs.Rules_laws.{same_section_is}
use Rattle.gq_verify.specs.Saturated_numbers.{saturated}
use Rattle.gq_verify.specs.Requested.{Requested, is_for, requests_for}
use Rattle.gq_verify.specs.internal.Request_sums.{Adds}

abbrev most : ℕ
most = 2 ^ 64 - 1

-- 1 where it is so
abbrev one : Bool → ℕ
one b = if b then 1 else 0

-- two that are for the same section of the same service
same_for : (service : List ℕ) (section : Section) (a : Requested) (v : List ℕ) (r : Section) → is_for service section a ≡ true →
    is_one v r a.service a.section ≡ is_one v r service section
same_for service section a v r e =
    let p = and_parts (text_eq service a.service) (same_section section a.section) e in
    let s = text_is service a.service p.0 in
    let t = same_section_is section a.section p.1 in
    ap (λ (s : List ℕ). is_one v r s a.section) (sym s) ∙ ap (λ (t : Section). is_one v r service t) (sym t)

-- what is left of them begins with the one that stands there
pub requests_here : (items : List Requested) (i : ℕ) (a : Requested) (v : List ℕ) (r : Section) → i < length items → a ≡ get_or items i a →
    requests_for (drop i items) v r ≡ is_one v r a.service a.section * a.count + requests_for (drop (i + 1) items) v r
requests_here items i a v r less e =
    ap (λ l. requests_for l v r) (drop_more items i a less)
    ∙ ap (λ (a : Requested). is_one v r a.service a.section * a.count + requests_for (drop (i + 1) items) v r) (sym e)

-- the same where the one that stands there is known by its parts
requests_as : (items : List Requested) (i : ℕ) (a : Requested) (service : List ℕ) (section : Section) (count : ℕ) (v : List ℕ) (r : Section) →
    i < length items → a ≡ get_or items i a → a ≡ (record { service = service; section = section; count = count }) →
    requests_for (drop i items) v r ≡ is_one v r service section * count + requests_for (drop (i + 1) items) v r
requests_as items i a service section count v r less at is =
    requests_here items i a v r less at
    ∙ ap (λ (a : Requested). is_one v r a.service a.section * a.count + requests_for (drop (i + 1) items) v r) is

pub requests_gone : (items : List Requested) (i : ℕ) (v : List ℕ) (r : Section) → length items ≤ i → requests_for (drop i items) v r ≡ 0
requests_gone items i v r past = ap (λ l. requests_for l v r) (drop_of_length-le items past)

pub requests_append : (xs ys : List Requested) (v : List ℕ) (r : Section) → requests_for (xs ++ ys) v r ≡ requests_for xs v r + requests_for ys v r
requests_append [] ys v r = omega arith
requests_append (x ∷ xs) ys v r = omega (arith, requests_append xs ys v r)

more_here : (b : Bool) (m x n c rest : ℕ) → c ≡ min (x + n) m → min (one b * c + rest) m ≡ min (one b * x + rest + one b * n) m
more_here true m x n c rest e = omega (arith, e)
more_here false m x n c rest e = omega arith

-- with so many more at the place of those for a section of a service
pub requests_set : (xs : List Requested) (i : ℕ) (a e : Requested) (service : List ℕ) (section : Section) (n : ℕ) (v : List ℕ) (r : Section) → i < length xs →
    is_for service section (get_or xs i a) ≡ true → e ≡ (record (get_or xs i a) { count = saturated ((get_or xs i a).count + n) }) →
    saturated (requests_for (slice_set xs i e) v r) ≡ saturated (requests_for xs v r + is_one v r service section * n)
requests_set [] i a e service section n v r less is at = absurd (omega (arith, less))
requests_set (x ∷ xs) zero a e service section n v r less is at =
    let rest = requests_for xs v r in
    let b = text_eq v service && same_section r section in
    let s = same_for service section x v r is in
    let k : is_one v r e.service e.section * e.count ≡ is_one v r x.service x.section * saturated (x.count + n) =
    ap (λ (e : Requested). is_one v r e.service e.section * e.count) at in
    ap (λ (k : ℕ). saturated (k + rest)) (k ∙ ap (λ (o : ℕ). o * saturated (x.count + n)) s)
    ∙ (more_here b most x.count n (saturated (x.count + n)) rest refl
    ∙ ap (λ (o : ℕ). saturated (o * x.count + rest + is_one v r service section * n)) (sym s))
requests_set (x ∷ xs) (suc i) a e service section n v r less is at =
    let h = requests_set xs i a e service section n v r (omega (arith, less)) is at in omega (arith, h)

-- the same of a list that is known by another name
pub requests_put : (old xs : List Requested) (i : ℕ) (a e : Requested) (service : List ℕ) (section : Section) (n : ℕ) (v : List ℕ) (r : Section) → old ≡ xs →
    i < length old → is_for service section (get_or old i a) ≡ true → a ≡ get_or xs i a → e ≡ (record a { count = saturated (a.count + n) }) →
    saturated (requests_for (slice_set xs i e) v r) ≡ saturated (requests_for old v r + is_one v r service section * n)
requests_put old xs i a e service section n v r same less is at to =
    let less = subst (λ (l : List Requested). i < length l) same less in
    let is = subst (λ (l : List Requested). is_for service section (get_or l i a) ≡ true) same is in
    let put = to ∙ ap (λ (a : Requested). let e : Requested = record a { count = saturated (a.count + n) } in e) at in
    requests_set xs i a e service section n v r less is put
    ∙ ap (λ (l : List Requested). saturated (requests_for l v r + is_one v r service section * n)) (sym same)

-- with those for one more section of a service at the end
pub requests_push : (old xs new : List Requested) (name service : List ℕ) (section : Section) (n : ℕ) (v : List ℕ) (r : Section) → old ≡ xs → name ≡ service →
    new ≡ xs ++ (record { service = name; section = section; count = n }) ∷ [] →
    saturated (requests_for new v r) ≡ saturated (requests_for old v r + is_one v r service section * n)
requests_push old xs new name service section n v r same named is =
    let a : Requested = record { service = name; section = section; count = n } in
    let h = ap (λ l. requests_for l v r) is in
    let k = requests_append xs (a ∷ []) v r in
    let o = ap (λ l. requests_for l v r) same in
    let s = ap (λ (s : List ℕ). is_one v r s section * n) named in
    omega (arith, h, k, o, s)

-- ADDING OTHERS

more_of : (b : Bool) (m now next times count product rest all : ℕ) → product ≡ min (count * times) m → min next m ≡ min (now + one b * product) m →
    min (now + times * (one b * count + rest)) m ≡ all → min (next + times * rest) m ≡ all
more_of true m now next times count product rest all p n e =
    let q : times * (1 * count + rest) ≡ count * times + times * rest = omega arith in omega (arith, p, n, e, q)
more_of false m now next times count product rest all p n e =
    let q : times * (0 * count + rest) ≡ times * rest = omega arith in omega (arith, n, e, q)

-- what has been added, with one more
pub added_on : (now next items : List Requested) (i : ℕ) (a : Requested) (service : List ℕ) (section : Section) (count times product : ℕ)
    (v : List ℕ) (r : Section) (all : ℕ) → i < length items → a ≡ get_or items i a → a ≡ (record { service = service; section = section; count = count }) →
    product ≡ min (count * times) (2 ^ 64 - 1) → Adds next now (λ v r. is_one v r service section * product) →
    saturated (requests_for now v r + times * requests_for (drop i items) v r) ≡ all →
    saturated (requests_for next v r + times * requests_for (drop (i + 1) items) v r) ≡ all
added_on now next items i a service section count times product v r all less at is p adds e =
    let h = requests_as items i a service section count v r less at is in
    more_of (text_eq v service && same_section r section) most (requests_for now v r) (requests_for next v r) times count product
    (requests_for (drop (i + 1) items) v r) all p (adds v r) (ap (λ (n : ℕ). saturated (requests_for now v r + times * n)) (sym h) ∙ e)

-- RAISING

-- a number is raised, or is yet to be raised by what is left
abbrev pub IsRaised : ℕ → ℕ → ℕ → ℕ → Type 0
IsRaised old now rest wanted = (saturated now ≡ saturated old) × (rest ≡ wanted) ⊎ (saturated now ≡ saturated (max old wanted))

raise_one : (b : Bool) (old now next rest count all wanted here missing : ℕ) → (b ≡ true → wanted ≡ saturated all) → (b ≡ true → here ≡ saturated now) →
    missing ≡ wanted - here → saturated next ≡ saturated (now + one b * missing) → IsRaised old now (one b * count + rest) all → IsRaised old next rest all
raise_one true old now next rest count all wanted here missing w h m n (inl (a, b)) = inr (omega (arith, w refl, h refl, m, n, a))
raise_one true old now next rest count all wanted here missing w h m n (inr a) = inr (omega (arith, w refl, h refl, m, n, a))
raise_one false old now next rest count all wanted here missing w h m n (inl (a, b)) = inl (omega (arith, n, a), omega (arith, b))
raise_one false old now next rest count all wanted here missing w h m n (inr a) = inr (omega (arith, n, a))

is_same : (v : List ℕ) (r : Section) (service : List ℕ) (section : Section) (all : List Requested) → (text_eq v service && same_section r section) ≡ true →
    requests_for all service section ≡ requests_for all v r
is_same v r service section all e =
    let p = and_parts (text_eq v service) (same_section r section) e in
    ap (λ (s : List ℕ). requests_for all s section) (sym (text_is v service p.0))
    ∙ ap (λ (t : Section). requests_for all v t) (sym (same_section_is r section p.1))

-- with one more it is raised, or stays as it is
pub raised_on : (old now next all items : List Requested) (i : ℕ) (a : Requested) (service : List ℕ) (section : Section) (count wanted here missing : ℕ)
    (v : List ℕ) (r : Section) → i < length items → a ≡ get_or items i a → a ≡ (record { service = service; section = section; count = count }) →
    wanted ≡ saturated (requests_for all service section) → here ≡ saturated (requests_for now service section) → missing ≡ wanted - here →
    Adds next now (λ v r. is_one v r service section * missing) →
    IsRaised (requests_for old v r) (requests_for now v r) (requests_for (drop i items) v r) (requests_for all v r) →
    IsRaised (requests_for old v r) (requests_for next v r) (requests_for (drop (i + 1) items) v r) (requests_for all v r)
raised_on old now next all items i a service section count wanted here missing v r less at is w h m adds e =
    let k = requests_as items i a service section count v r less at is in
    raise_one (text_eq v service && same_section r section) (requests_for old v r) (requests_for now v r) (requests_for next v r)
    (requests_for (drop (i + 1) items) v r) count (requests_for all v r) wanted here missing (λ s. w ∙ ap saturated (is_same v r service section all s))
    (λ s. h ∙ ap saturated (is_same v r service section now s)) m (adds v r)
    (subst (λ (n : ℕ). IsRaised (requests_for old v r) (requests_for now v r) n (requests_for all v r)) k e)

raise_end : (old now rest wanted : ℕ) → rest ≡ 0 → IsRaised old now rest wanted → saturated now ≡ saturated (max old wanted)
raise_end old now rest wanted none (inl (a, b)) = omega (arith, none, a, b)
raise_end old now rest wanted none (inr a) = a

pub raised_end : (old now all items : List Requested) (i : ℕ) (v : List ℕ) (r : Section) → length items ≤ i →
    IsRaised (requests_for old v r) (requests_for now v r) (requests_for (drop i items) v r) (requests_for all v r) →
    saturated (requests_for now v r) ≡ saturated (max (requests_for old v r) (requests_for all v r))
raised_end old now all items i v r past e =
    raise_end (requests_for old v r) (requests_for now v r) (requests_for (drop i items) v r) (requests_for all v r) (requests_gone items i v r past) e
