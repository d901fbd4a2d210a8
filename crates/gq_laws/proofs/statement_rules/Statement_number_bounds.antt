-- Numbers and bytes that statements make, within the bounds that the rules state.
use Rattle.std.proofs.Common.{◌≡◌, ℕ, zero, suc, ◌+◌, ◌-◌, ◌*◌, ◌/◌, ◌%◌, ◌^◌, ◌≤◌, ◌<◌, ◌==◌, cond, min, nat_lt, Bool, true, false, List, [], ◌∷◌, ◌++◌}
use Rattle.std.proofs.Common.{length, take, drop, replicate, Option, Some, None, refl, ap, ◌∙◌, subst, arith}
use Rattle.std.specs.Prelude.{slice_get, slice_index, slice_set, slice_range}
use Rattle.std.proofs.Math.Nat.{div-mul-le_self, mod-lt, mod-le, le-min, mul-le-mul}
use Rattle.std.proofs.lemmas.List.{length-append, length-take-le, length-drop, length-set, length-replicate}
use Rattle.std.proofs.lemmas.Nat.{le-div, and_le_l, and_le_r}
use Rattle.gq_model.specs.machine.Program.{little, spelled, combined, bytes_of}
use Rattle.gq_model.specs.declared.program.Operator.{Operator}
use Rattle.gq_model.specs.declared.program.Operator.TheVariants.{Add, Subtract, Multiply, And, Equal, Less}
use Rattle.gq_model.specs.declared.program.Width.{Width}
use Rattle.gq_model.specs.declared.program.Width.TheVariants.{Byte, Word}
use Rattle.gq_model.specs.rules.Rules.{bound_of, loaded_bound}
use Rattle.gq_laws.specs.Current_section_facts.{Under}
use Rattle.gq_model.specs.machine.World.{Round}
use Rattle.gq_model.specs.machine.Operate.{round_of}
use Rattle.gq_model.specs.machine.Memory.{entry_byte, entry_with}
use Rattle.gq_laws.specs.Shapes.{Each}
use Rattle.gq_laws.specs.Typed.{AreBytes, IsEntry, AreCounts}
use Rattle.gq_model.proofs.Small_facts.{none_some, some_same}
use Rattle.gq_model.proofs.Byte_number_spelling.{spelled_bytes}

-- NUMBERS

pub divided : (a b n : ℕ) → a ≤ b → 1 ≤ n → a / n ≤ b / n
divided a b n le one = le-div (a / n) b n one (let h = div-mul-le_self a n in omega (arith, h, le))

pub remains : (a b n : ℕ) → a ≤ b → 1 ≤ n → a % n ≤ min b (n - 1)
remains a b n le one = le-min (let h = mod-le a n in omega (arith, h, le)) (let h = mod-lt a {m = n} one in omega (arith, h))

pub combines : (f : Operator) (a b x y : ℕ) → a ≤ x → b ≤ y → combined f a b ≤ bound_of f x y
combines Add a b x y h k = le-min (let m = mod-le (a + b) (2 ^ 32) in omega (arith, m, h, k)) (omega arith)
combines Subtract a b x y h k = omega arith
combines Multiply a b x y h k = le-min (let m = mod-le (a * b) (2 ^ 32) in let p = mul-le-mul h k in
    omega (arith, m, p)) (let m = mod-lt (a * b) {m = 2 ^ 32} (omega arith) in omega (arith, m))
combines And a b x y h k = le-min (let m = and_le_l a b in omega (arith, m, h)) (let m = and_le_r a b in omega (arith, m, k))
combines Equal a b x y h k = one (a == b)
  where
    one : (t : Bool) → cond t 1 0 ≤ 1
    one true = omega arith
    one false = omega arith
combines Less a b x y h k = one (nat_lt a b)
  where
    one : (t : Bool) → cond t 1 0 ≤ 1
    one true = omega arith
    one false = omega arith

-- LISTS

module _ {A : Type 0} (P : A → Type 0) where
  pub each_take : (n : ℕ) (xs : List A) → Each P xs → Each P (take n xs)
  each_take zero xs h = tt
  each_take (suc n) [] h = tt
  each_take (suc n) (x ∷ xs) h = (h.0, each_take n xs h.1)

  pub each_drop : (n : ℕ) (xs : List A) → Each P xs → Each P (drop n xs)
  each_drop zero xs h = h
  each_drop (suc n) [] h = tt
  each_drop (suc n) (x ∷ xs) h = each_drop n xs h.1

  pub each_append : (xs ys : List A) → Each P xs → Each P ys → Each P (xs ++ ys)
  each_append [] ys h k = k
  each_append (x ∷ xs) ys h k = (h.0, each_append xs ys h.1 k)

  pub each_replicate : (n : ℕ) (a : A) → P a → Each P (replicate n a)
  each_replicate zero a h = tt
  each_replicate (suc n) a h = (h, each_replicate n a h)

  pub each_set : (xs : List A) (i : ℕ) (a : A) → P a → Each P xs → Each P (slice_set xs i a)
  each_set [] i a k h = tt
  each_set (x ∷ xs) zero a k h = (k, h.1)
  each_set (x ∷ xs) (suc i) a k h = (h.0, each_set xs i a k h.1)

  pub each_get : (xs : List A) (i : ℕ) (a : A) → Each P xs → slice_get xs i ≡ Some a → P a
  each_get [] i a h e = absurd (none_some e)
  each_get (x ∷ xs) zero a h e = subst P (some_same e) h.0
  each_get (x ∷ xs) (suc i) a h e = each_get xs i a h.1 e

-- OPERANDS AND LOCALS

pub under_length : (xs bounds : List ℕ) → Under xs bounds → length xs ≡ length bounds
under_length [] [] h = refl
under_length (x ∷ xs) (b ∷ bounds) h = ap suc (under_length xs bounds h.1)
under_length [] (b ∷ bounds) h = absurd h
under_length (x ∷ xs) [] h = absurd h

pub under_top : (xs : List ℕ) (b : ℕ) (rest : List ℕ) → Under xs (b ∷ rest) → (a : ℕ) × (below : List ℕ) × (xs ≡ a ∷ below) × (a ≤ b) × Under below rest
under_top [] b rest h = absurd h
under_top (a ∷ below) b rest h = (a, below, refl, h.0, h.1)

pub under_index : (xs bounds : List ℕ) (i : ℕ) → Under xs bounds → slice_index xs i ≤ slice_index bounds i
under_index [] [] i h = omega arith
under_index (x ∷ xs) (b ∷ bounds) zero h = h.0
under_index (x ∷ xs) (b ∷ bounds) (suc i) h = under_index xs bounds i h.1
under_index [] (b ∷ bounds) i h = absurd h
under_index (x ∷ xs) [] i h = absurd h

pub under_set : (xs bounds : List ℕ) (i a : ℕ) → Under xs bounds → a ≤ slice_index bounds i → Under (slice_set xs i a) bounds
under_set [] [] i a h k = tt
under_set (x ∷ xs) (b ∷ bounds) zero a h k = (k, h.1)
under_set (x ∷ xs) (b ∷ bounds) (suc i) a h k = (h.0, under_set xs bounds i a h.1 k)
under_set [] (b ∷ bounds) i a h k = absurd h
under_set (x ∷ xs) [] i a h k = absurd h

-- the round of a loop around is below its count
pub round_within : (loops : List Round) (counts : List ℕ) (i n : ℕ) → AreCounts loops counts → slice_get counts i ≡ Some n
    → (r : ℕ) × (round_of loops i ≡ Some r) × (r < n)
round_within [] [] i n h e = absurd (none_some e)
round_within (r ∷ loops) (m ∷ counts) zero n h e = (r.round, refl, subst (λ n. r.round < n) (some_same e) h.1)
round_within (r ∷ loops) (m ∷ counts) (suc i) n h e = round_within loops counts i n h.2 e
round_within [] (m ∷ counts) i n h e = absurd h
round_within (r ∷ loops) [] i n h e = absurd h

-- BYTES

-- how many numbers k bytes spell
capacity : ℕ → ℕ
capacity zero = 1
capacity (suc k) = 256 * capacity k

little_below : (k : ℕ) (bytes : List ℕ) → length bytes ≤ k → AreBytes bytes → little bytes < capacity k
unfolding capacity
little_below zero [] h b = omega arith
little_below (suc k) [] h b = let m = little_below k [] (omega arith) tt in omega (arith, m)
little_below zero (x ∷ bytes) h b = absurd (omega (arith, h))
little_below (suc k) (x ∷ bytes) h b = let m = little_below k bytes (omega (arith, h)) b.1 in let x_below = b.0 in omega (arith, m, x_below)

length_taken : {A : Type 0} (n : ℕ) (xs : List A) → length (take n xs) ≤ n
length_taken zero xs = omega arith
length_taken (suc n) [] = omega arith
length_taken (suc n) (x ∷ xs) = let m = length_taken n xs in omega (arith, m)

pub loads : (width : Width) (bytes : List ℕ) (i : ℕ) → AreBytes bytes → little (slice_range bytes i (i + bytes_of width)) ≤ loaded_bound width
unfolding capacity
loads Byte bytes i h = let m = little_below 1 (slice_range bytes i (i + 1)) (let l = length_taken (i + 1 - i) (drop i bytes) in
    omega (arith, l)) (each_take (λ b. b < 256) (i + 1 - i) (drop i bytes) (each_drop (λ b. b < 256) i bytes h)) in omega (arith, m)
loads Word bytes i h = let m = little_below 4 (slice_range bytes i (i + 4)) (let l = length_taken (i + 4 - i) (drop i bytes) in
    omega (arith, l)) (each_take (λ b. b < 256) (i + 4 - i) (drop i bytes) (each_drop (λ b. b < 256) i bytes h)) in omega (arith, m)

spelled_count : (k v : ℕ) → length (spelled k v) ≡ k
spelled_count zero v = refl
spelled_count (suc k) v = ap suc (spelled_count k (v / 256))

-- the bytes with a number of k bytes at a place
abbrev pub stored : List ℕ → ℕ → ℕ → ℕ → List ℕ
stored bytes i k v = take i bytes ++ spelled k v ++ drop (i + k) bytes

pub stored_count : (bytes : List ℕ) (i k v : ℕ) → i + k ≤ length bytes → length (stored bytes i k v) ≡ length bytes
stored_count bytes i k v h =
    let a = length-append (take i bytes ++ spelled k v) (drop (i + k) bytes) in
    let b = length-append (take i bytes) (spelled k v) in
    let c = length-take-le i bytes (omega (arith, h)) in
    let d = spelled_count k v in
    let e = length-drop (i + k) bytes in
    omega (arith, a, b, c, d, e, h)

pub stored_bytes : (bytes : List ℕ) (i k v : ℕ) → AreBytes bytes → AreBytes (stored bytes i k v)
stored_bytes bytes i k v h =
    each_append (λ b. b < 256) (take i bytes ++ spelled k v) (drop (i + k) bytes)
    (each_append (λ b. b < 256) (take i bytes) (spelled k v) (each_take (λ b. b < 256) i bytes h) (spelled_bytes k v))
    (each_drop (λ b. b < 256) (i + k) bytes h)

pub zeros_bytes : (n : ℕ) → AreBytes (replicate n 0)
zeros_bytes n = each_replicate (λ b. b < 256) n 0 (omega arith)

-- ENTRIES

byte_below : (bytes : List ℕ) (k : ℕ) → AreBytes bytes → slice_index bytes k < 256
byte_below [] k h = omega arith
byte_below (b ∷ bytes) zero h = h.0
byte_below (b ∷ bytes) (suc k) h = byte_below bytes k h.1

pub entry_below : (n k : ℕ) (entry : Option (List ℕ)) → IsEntry n entry → entry_byte entry k ≤ 255
entry_below n k None h = omega arith
entry_below n k (Some bytes) h = let m = byte_below bytes k h.1 in omega (arith, m)

pub entry_changed : (n k b : ℕ) (entry : Option (List ℕ)) → IsEntry n entry → IsEntry n (entry_with k b entry)
entry_changed n k b None h = tt
entry_changed n k b (Some bytes) h = (length-set bytes k (b % 256) ∙ h.0, each_set (λ b. b < 256) bytes k (b % 256) (omega arith) h.1)

pub fresh_entry : (n : ℕ) → IsEntry n (Some (replicate n 0))
fresh_entry n = (length-replicate n 0, zeros_bytes n)
