-- Keys of lists, put one part behind the other.
use Rattle.std.proofs.Common.{◌≡◌, ℕ, zero, suc, ◌+◌, ◌-◌, ◌<◌, ◌≤◌, List, [], ◌∷◌, ◌++◌, length, drop, get_or, map}
use Rattle.std.proofs.Common.{refl, ap, sym, ◌∙◌, append_assoc, append-nil, arith}
use Rattle.std.specs.Prelude.{if◌then◌else◌}
use Rattle.std.proofs.lemmas.Bool.{eq-eqb, ne_eqb}
use Rattle.gq_model.specs.machine.World.{Slot, Empty, Bytes, Pool, Link, Waiting, Leaf, World, session_at}
use Rattle.gq_outcomes.specs.Same.{named_below, named_by, named_from, named_in, place_of, session_slots}
use Rattle.gq_outcomes.specs.internal.Keys.{bytes_key, each_key, list_key, number_key}

-- ONE AFTER THE OTHER

-- a part is put behind another one
pub behind : (old mid new x y : List ℕ) → mid ≡ old ++ x → new ≡ mid ++ y → new ≡ old ++ (x ++ y)
behind old mid new x y first second = second ∙ ap (λ t. t ++ y) first ∙ append_assoc old x y

-- behind two that were put at once
pub behind_two : (old mid new x y z : List ℕ) → mid ≡ old ++ (x ++ y) → new ≡ mid ++ z → new ≡ old ++ (x ++ (y ++ z))
behind_two old mid new x y z first second = behind old mid new (x ++ y) z first second ∙ ap (λ t. old ++ t) (append_assoc x y z)

module _ {A : Type 0} (key : A → List ℕ) where
  -- the key of what is left of a list, one by one
  pub each_next : (xs : List A) (i : ℕ) (d a : A) → i < length xs → a ≡ get_or xs i d → each_key key (drop i xs) ≡ key a ++ each_key key (drop (i + 1) xs)
  each_next [] i d a l e = absurd (omega (arith, l))
  each_next (x ∷ xs) zero d a l e = ap (λ z. key z ++ each_key key xs) (sym e)
  each_next (x ∷ xs) (suc i) d a l e =
      let on : suc (i + 1) ≡ suc i + 1 = omega arith in
      each_next xs i d a (omega (arith, l)) e ∙ ap (λ n. key a ++ each_key key (drop n (x ∷ xs))) on

  none_left : (xs : List A) (i : ℕ) → length xs ≤ i → each_key key (drop i xs) ≡ []
  none_left [] zero l = refl
  none_left [] (suc i) l = refl
  none_left (x ∷ xs) zero l = absurd (omega (arith, l))
  none_left (x ∷ xs) (suc i) l = none_left xs i (omega (arith, l))

  -- one more is put, and those that are left are fewer
  pub key_put : (xs : List A) (i : ℕ) (d a : A) (old new all : List ℕ) → i < length xs → a ≡ get_or xs i d → new ≡ old ++ key a
      → old ++ each_key key (drop i xs) ≡ all → new ++ each_key key (drop (i + 1) xs) ≡ all
  key_put xs i d a old new all l e put so_far =
      ap (λ t. t ++ each_key key (drop (i + 1) xs)) put ∙ append_assoc old (key a) (each_key key (drop (i + 1) xs))
      ∙ ap (λ t. old ++ t) (sym (each_next xs i d a l e)) ∙ so_far

  -- all are put
  pub key_whole : (xs : List A) (i : ℕ) (new all : List ℕ) → length xs ≤ i → new ++ each_key key (drop i xs) ≡ all → new ≡ all
  key_whole xs i new all l so_far = sym (append-nil new) ∙ ap (λ t. new ++ t) (sym (none_left xs i l)) ∙ so_far

  -- the count is put first
  pub count_put : (xs : List A) (n : ℕ) (old new : List ℕ) → n ≡ length xs → new ≡ old ++ number_key n → new ++ each_key key xs ≡ old ++ list_key key xs
  count_put xs n old new count put =
      ap (λ t. t ++ each_key key xs) (put ∙ ap (λ k. old ++ number_key k) count) ∙ append_assoc old (number_key (length xs)) (each_key key xs)

pub length_map : {A B : Type 0} (f : A → B) (xs : List A) → length (map f xs) ≡ length xs
length_map f [] = refl
length_map f (x ∷ xs) = ap suc (length_map f xs)

pub map_item : {A B : Type 0} (f : A → B) (xs : List A) (i : ℕ) (x : A) → i < length xs → x ≡ get_or xs i x → f x ≡ get_or (map f xs) i (f x)
map_item f [] i x l e = absurd (omega (arith, l))
map_item f (y ∷ xs) zero x l e = ap f e
map_item f (y ∷ xs) (suc i) x l e = map_item f xs i x (omega (arith, l)) e

each_map : {A B : Type 0} (key : B → List ℕ) (f : A → B) (xs : List A) → each_key key (map f xs) ≡ each_key (λ x. key (f x)) xs
each_map key f [] = refl
each_map key f (x ∷ xs) = ap (λ t. key (f x) ++ t) (each_map key f xs)

pub list_map : {A B : Type 0} (key : B → List ℕ) (f : A → B) (xs : List A) → list_key key (map f xs) ≡ list_key (λ x. key (f x)) xs
list_map key f xs = λ i. number_key (length_map f xs i) ++ each_map key f xs i

-- THE ORDER OF SESSIONS

abbrev pub named_one : Slot → List ℕ
named_one slot = named_in (slot ∷ [])

pub named_each : (slots : List Slot) → named_in slots ≡ each_key named_one slots
named_each [] = refl
named_each (Empty ∷ slots) = named_each slots
named_each (Bytes form n bytes ∷ slots) = named_each slots
named_each (Pool n entries ∷ slots) = named_each slots
named_each (Link k ∷ slots) = ap (λ t. k ∷ t) (named_each slots)
named_each (Waiting k ∷ slots) = ap (λ t. k ∷ t) (named_each slots)

abbrev pub named_by_one : Leaf → List ℕ
named_by_one leaf = named_in leaf.slots

pub named_by_each : (leaves : List Leaf) → named_by leaves ≡ each_key named_by_one leaves
named_by_each [] = refl
named_by_each (leaf ∷ leaves) = ap (λ t. named_in leaf.slots ++ t) (named_by_each leaves)

abbrev pub named_below_one : World → ℕ → List ℕ
named_below_one w k = named_in (session_slots (session_at w k))

pub named_below_each : (w : World) (ks : List ℕ) → named_below w ks ≡ each_key (named_below_one w) ks
named_below_each w [] = refl
named_below_each w (k ∷ ks) = ap (λ t. named_below_one w k ++ t) (named_below_each w ks)

-- one level more
pub level_put : (w : World) (n i : ℕ) (order level more next all : List ℕ) → i < n → more ≡ order ++ level → next ≡ named_below w level
    → order ++ named_from (n - i) w level ≡ all → more ++ named_from (n - (i + 1)) w next ≡ all
level_put w n i order level more next all l put below so_far =
    let on : n - i ≡ suc (n - (i + 1)) = omega (arith, l) in
    (λ j. put j ++ named_from (n - (i + 1)) w (below j))
    ∙ append_assoc order level (named_from (n - (i + 1)) w (named_below w level)) ∙ ap (λ m. order ++ named_from m w level) (sym on) ∙ so_far

pub levels_whole : (w : World) (n i : ℕ) (order level all : List ℕ) → n ≤ i → order ++ named_from (n - i) w level ≡ all → order ≡ all
levels_whole w n i order level all l so_far =
    let none : n - i ≡ 0 = omega (arith, l) in sym (append-nil order) ∙ ap (λ m. order ++ named_from m w level) (sym none) ∙ so_far

-- PLACES

pub place_here : (ks : List ℕ) (i k : ℕ) → i < length ks → get_or ks i 0 ≡ k → place_of k (drop i ks) ≡ 0
place_here [] i k l e = absurd (omega (arith, l))
place_here (j ∷ ks) zero k l e = ap (λ b. if b then 0 else suc (place_of k ks)) (eq-eqb j k e)
place_here (j ∷ ks) (suc i) k l e = place_here ks i k (omega (arith, l)) e

pub place_later : (ks : List ℕ) (i k : ℕ) → i < length ks → (get_or ks i 0 ≡ k → ⊥) → place_of k (drop i ks) ≡ suc (place_of k (drop (i + 1) ks))
place_later [] i k l e = absurd (omega (arith, l))
place_later (j ∷ ks) zero k l e = ap (λ b. if b then 0 else suc (place_of k ks)) (ne_eqb j k e)
place_later (j ∷ ks) (suc i) k l e =
    let on : suc (i + 1) ≡ suc i + 1 = omega arith in place_later ks i k (omega (arith, l)) e ∙ ap (λ n. suc (place_of k (drop n (j ∷ ks)))) on

pub no_place : (ks : List ℕ) (i k : ℕ) → length ks ≤ i → place_of k (drop i ks) ≡ 0
no_place [] zero k l = refl
no_place [] (suc i) k l = refl
no_place (j ∷ ks) zero k l = absurd (omega (arith, l))
no_place (j ∷ ks) (suc i) k l = no_place ks i k (omega (arith, l))

-- BYTES

pub zero_next : (z b n : ℕ) (bytes : List ℕ) → b ≡ 0 → n ≡ z + 1 → bytes_key n bytes ≡ bytes_key z (b ∷ bytes)
zero_next z zero n bytes none e = ap (λ m. bytes_key m bytes) (omega (arith, e))
zero_next z (suc b) n bytes none e = absurd (omega (arith, none))

pub byte_next : (z b : ℕ) (bytes : List ℕ) → (b ≡ 0 → ⊥) → bytes_key z (b ∷ bytes) ≡ number_key z ++ (number_key b ++ bytes_key 0 bytes)
byte_next z zero bytes some = absurd (some refl)
byte_next z (suc b) bytes some = refl

pub byte_put : (z b : ℕ) (bytes old more new : List ℕ) → (b ≡ 0 → ⊥) → more ≡ old ++ number_key z → new ≡ more ++ number_key b
    → new ++ bytes_key 0 bytes ≡ old ++ bytes_key z (b ∷ bytes)
byte_put z b bytes old more new some zeros put =
    ap (λ t. t ++ bytes_key 0 bytes) (put ∙ ap (λ t. t ++ number_key b) zeros)
    ∙ append_assoc (old ++ number_key z) (number_key b) (bytes_key 0 bytes) ∙ append_assoc old (number_key z) (number_key b ++ bytes_key 0 bytes)
    ∙ ap (λ t. old ++ t) (sym (byte_next z b bytes some))

item_next : (xs : List ℕ) (i a : ℕ) → i < length xs → a ≡ get_or xs i a → drop i xs ≡ a ∷ drop (i + 1) xs
item_next [] i a l e = absurd (omega (arith, l))
item_next (x ∷ xs) zero a l e = ap (λ z. z ∷ xs) (sym e)
item_next (x ∷ xs) (suc i) a l e =
    let on : suc (i + 1) ≡ suc i + 1 = omega arith in item_next xs i a (omega (arith, l)) e ∙ ap (λ n. a ∷ drop n (x ∷ xs)) on

-- one byte more
pub byte_here : (bytes : List ℕ) (i b z n : ℕ) (old new all : List ℕ) → i < length bytes → b ≡ get_or bytes i b
    → ((rest : List ℕ) → new ++ bytes_key n rest ≡ old ++ bytes_key z (b ∷ rest)) → old ++ bytes_key z (drop i bytes) ≡ all
    → new ++ bytes_key n (drop (i + 1) bytes) ≡ all
byte_here bytes i b z n old new all l e put so_far =
    put (drop (i + 1) bytes) ∙ ap (λ t. old ++ bytes_key z t) (sym (item_next bytes i b l e)) ∙ so_far

-- no byte more
pub bytes_whole : (bytes : List ℕ) (i z : ℕ) (old more new all : List ℕ) → length bytes ≤ i → more ≡ old ++ number_key z → new ≡ more ++ 0 ∷ []
    → old ++ bytes_key z (drop i bytes) ≡ all → new ≡ all
bytes_whole [] zero z old more new all l zeros put so_far =
    put ∙ ap (λ t. t ++ 0 ∷ []) zeros ∙ append_assoc old (number_key z) (0 ∷ []) ∙ so_far
bytes_whole [] (suc i) z old more new all l zeros put so_far =
    put ∙ ap (λ t. t ++ 0 ∷ []) zeros ∙ append_assoc old (number_key z) (0 ∷ []) ∙ so_far
bytes_whole (b ∷ bytes) zero z old more new all l zeros put so_far = absurd (omega (arith, l))
bytes_whole (b ∷ bytes) (suc i) z old more new all l zeros put so_far = bytes_whole bytes i z old more new all (omega (arith, l)) zeros put so_far
