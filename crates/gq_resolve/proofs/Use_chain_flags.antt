-- Chains of uses: flags by rounds, and the leaves of a system that reach themselves.
use Rattle.std.proofs.Common.{◌≡◌, ℕ, zero, suc, ◌+◌, ◌-◌, ◌<◌, ◌≤◌, ◌==◌, Bool, true, false, ◌&&◌, ◌||◌, cond, List, [], ◌∷◌, ◌++◌, length, map, get_or, drop}
use Rattle.std.proofs.Common.{Option, Some, None, option_map, refl, ap, sym, ◌∙◌, ◌⊎◌, inl, inr, add-one, append_assoc, arith}
use Rattle.std.specs.Prelude.{slice_get}
use Rattle.std.proofs.lemmas.Bool.Decides.{nat_tests}
use Rattle.std.proofs.lemmas.List.{drop_more, drop_all}
use Rattle.std.proofs.lemmas.Option.{slice_get_cases, slice_get_read}
use Rattle.gq_model.specs.machine.Lists.{any_of}
use Rattle.gq_model.specs.machine.Scenario.{System, Component}
use Rattle.gq_model.specs.machine.Routes.{server_of}
use Rattle.gq_model.specs.rules.Use.{services, is_there, uses, used_from, used_at, reaches}
use Rattle.gq_model.specs.rules.Resolve.{Unresolved, Cycle, cycle_fault}
use Rattle.gq_resolve.specs.Reaching.{used_there, reaches_by, first_from, first_on_cycle, flag_at, one_more, flags_by}
use Rattle.gq_model.proofs.Component_laws.{server_below}

pub any_of-same : {A : Type 0} (f g : A → Bool) (xs : List A) → ((a : A) → f a ≡ g a) → any_of f xs ≡ any_of g xs
any_of-same f g [] e = refl
any_of-same f g (x ∷ xs) e = rw (e x, any_of-same f g xs e) refl

-- FLAGS BY ROUNDS

one_more_at : (used : List (List ℕ)) (y : ℕ) (flags : List Bool) (x : ℕ)
    → flag_at (one_more used y flags) x ≡ any_of (λ z. z == y || flag_at flags z) (used_there (slice_get used x))
one_more_at [] y flags x = refl
one_more_at (l ∷ used) y flags zero = refl
one_more_at (l ∷ used) y flags (suc x) = one_more_at used y flags x

-- the flags are the answers
pub flags_at : (n : ℕ) (used : List (List ℕ)) (y x : ℕ) → flag_at (flags_by n used y) x ≡ reaches_by n used y x
flags_at zero used y x = refl
flags_at (suc n) used y x =
    one_more_at used y (flags_by n used y) x
    ∙ any_of-same (λ z. z == y || flag_at (flags_by n used y) z) (λ z. z == y || reaches_by n used y z) (used_there (slice_get used x))
    (λ z. ap (λ b. z == y || b) (flags_at n used y z))

-- the flag of the next leaf
pub flagged : {A : Type 0} (f : A → List ℕ) (vs : List A) (i : ℕ) (v : A) (y : ℕ) (flags next : List Bool) → i < length vs → v ≡ get_or vs i v
    → (next ++ any_of (λ z. z == y || flag_at flags z) (f v) ∷ []) ++ one_more (map f (drop (i + 1) vs)) y flags ≡ next ++ one_more (map f (drop i vs)) y flags
flagged f vs i v y flags next h e =
    append_assoc next (any_of (λ z. z == y || flag_at flags z) (f v) ∷ []) (one_more (map f (drop (i + 1) vs)) y flags) ∙ rw (drop_more vs i v h, ← e) refl

-- THE FIRST LEAF

pub first_more : (used : List (List ℕ)) (n i : ℕ) → length used ≡ n → i < n → reaches_by n used i i ≡ false
    → first_from used i (n - i) ≡ first_from used (i + 1) (n - (i + 1))
first_more used n i e h f =
    let k : n - i ≡ suc (n - (i + 1)) = omega arith in
    rw (k, e, f, add-one) refl

-- a leaf that is found is one of them
within_by : (b : Bool) (x y n : ℕ) (rest : Option ℕ) → (rest ≡ Some y → (suc x ≤ y) × (y < suc x + n)) → cond b (Some x) rest ≡ Some y → (x ≤ y)
    × (y < x + suc n)
within_by true x y n rest more e = let k : x ≡ y = cc in (omega arith, omega arith)
within_by false x y n rest more e = let k = more e in (omega (arith, k.0), omega (arith, k.1))

within_from : (used : List (List ℕ)) (n x y : ℕ) → first_from used x n ≡ Some y → (x ≤ y) × (y < x + n)
within_from used zero x y e = absurd (nothing e)
  where
    nothing : None ≡ Some y → ⊥
    nothing h = cc
within_from used (suc n) x y e = within_by (reaches_by (length used) used x x) x y n (first_from used (suc x) n) (within_from used n (suc x) y) e

pub first_within : (used : List (List ℕ)) (y : ℕ) → first_on_cycle used ≡ Some y → y < length used
first_within used y e = let k = within_from used (length used) 0 y e in omega (arith, k.1)

-- CYCLES OF A SYSTEM

-- the cycle of the leaf at this place
abbrev cycle_at : List Component → Option ℕ → Option Unresolved
cycle_at components None = None
cycle_at components (Some x) = option_map (λ c. Cycle c.node.name) (slice_get components x)

-- lists that have what the leaves use: a test holds of one in the list just where it holds of one that the leaf uses
abbrev pub AreUsed : System → List (List ℕ) → Type 0
AreUsed system used = (x : ℕ) (f : ℕ → Bool) → any_of f (used_there (slice_get used x)) ≡ any_of f (used_at system (slice_get system.components x))

module _ (system : System) (used : List (List ℕ)) (long : length used ≡ length system.components) (same : AreUsed system used) where
  reaches_same : (n y x : ℕ) → reaches_by n used y x ≡ reaches n system y x
  reaches_same zero y x = refl
  reaches_same (suc n) y x =
      same x (λ z. z == y || reaches_by n used y z)
      ∙ any_of-same (λ z. z == y || reaches_by n used y z) (λ z. z == y || reaches n system y z) (used_at system (slice_get system.components x))
      (λ z. ap (λ b. z == y || b) (reaches_same n y z))

  on_cycle_same : (x : ℕ) → reaches (length system.components) system x x ≡ reaches_by (length used) used x x
  on_cycle_same x = sym (reaches_same (length system.components) x x) ∙ ap (λ n. reaches_by n used x x) (sym long)

  -- the x-th leaf is there
  fault_here : (x n : ℕ) (c : Component) → slice_get system.components x ≡ Some c → (rest : Option Unresolved)
      → rest ≡ cycle_at system.components (first_from used (suc x) n) → (b : Bool)
      → cond b (Some (Cycle c.node.name)) rest ≡ cycle_at system.components (cond b (Some x) (first_from used (suc x) n))
  fault_here x n c is rest e true = rw is refl
  fault_here x n c is rest e false = e

  fault_from : (n x : ℕ) → n + x ≡ length system.components → cycle_fault system x (drop x system.components) ≡ cycle_at system.components (first_from used x n)
  fault_from zero x e = let h : length system.components ≤ x = omega arith in rw (drop_all x system.components h) refl
  fault_from (suc n) x e = by (slice_get_cases system.components x).1 (fault_from n (suc x) (omega arith))
    where
      by : ((c : Component) × (x < length system.components) × (slice_get system.components x ≡ Some c) × (get_or system.components x c ≡ c))
          ⊎ ((length system.components ≤ x) × (slice_get system.components x ≡ None))
          → cycle_fault system (suc x) (drop (suc x) system.components) ≡ cycle_at system.components (first_from used (suc x) n)
          → cycle_fault system x (drop x system.components) ≡ cycle_at system.components (first_from used x (suc n))
      by (inl p) more =
          rw (drop_more system.components x p.0 p.1, p.3, add-one, on_cycle_same x)
          (fault_here x n p.0 p.2 (cycle_fault system (suc x) (drop (suc x) system.components)) more (reaches_by (length used) used x x))
      by (inr p) more = absurd (omega (arith, p.0))

  fault_found : cycle_fault system 0 system.components ≡ cycle_at system.components (first_on_cycle used)
  fault_found = fault_from (length system.components) 0 (omega arith) ∙ ap (λ n. cycle_at system.components (first_from used 0 n)) (sym long)

  -- no leaf reaches itself
  pub no_cycle : first_on_cycle used ≡ None → cycle_fault system 0 system.components ≡ None
  no_cycle e = fault_found ∙ ap (cycle_at system.components) e

  pub cycle_within : (x : ℕ) → first_on_cycle used ≡ Some x → x < length system.components
  cycle_within x e = let k = first_within used x e in omega (arith, k)

  -- the leaf at the place that is found is the first that does
  pub cycle_found : (x : ℕ) (c : Component) → first_on_cycle used ≡ Some x → c ≡ get_or system.components x c
      → cycle_fault system 0 system.components ≡ Some (Cycle c.node.name)
  cycle_found x c e is =
      fault_found ∙ (ap (cycle_at system.components) e ∙ ap (option_map (λ d. Cycle d.node.name))
      (slice_get_read system.components (length system.components) x c refl (cycle_within x e) is))

-- WHAT A LEAF USES

-- a test holds of the leaf that has been found
abbrev pub led_to : (ℕ → Bool) → Option ℕ → Bool
led_to f None = false
led_to f (Some x) = f x

-- a test holds of the leaf that has been found, one of the n from the x-th on
abbrev found_from : (ℕ → Bool) → ℕ → ℕ → Option ℕ → Bool
found_from f x zero o = false
found_from f x (suc n) o = is_there x o && f x || found_from f (suc x) n o

or_moved : (m q t : Bool) → (m || (q || t)) ≡ (q || (m || t))
or_moved true true t = refl
or_moved true false t = refl
or_moved false q t = refl

or_spread : (a r b q t : Bool) → (((a || r) && b) || (q || t)) ≡ (((a && b) || q) || ((r && b) || t))
or_spread true r true q t = refl
or_spread true true false q t = refl
or_spread true false false q t = refl
or_spread false r b q t = or_moved (r && b) q t

any_of-spread : {A : Type 0} (p q : A → Bool) (b : Bool) (xs : List A) → (any_of p xs && b || any_of q xs) ≡ any_of (λ x. p x && b || q x) xs
any_of-spread p q b [] = refl
any_of-spread p q b (x ∷ xs) = or_spread (p x) (any_of p xs) b (q x) (any_of q xs) ∙ ap (λ t. (p x && b || q x) || t) (any_of-spread p q b xs)

any_of-none : {A : Type 0} (xs : List A) → any_of (λ x. false) xs ≡ false
any_of-none [] = refl
any_of-none (x ∷ xs) = any_of-none xs

one_used : (f : ℕ → Bool) (b : Bool) (x : ℕ) (l : List ℕ) → any_of f (cond b (x ∷ []) [] ++ l) ≡ (b && f x || any_of f l)
one_used f true x l = refl
one_used f false x l = refl

used_in : (f : ℕ → Bool) (system : System) (c : Component) (x : ℕ) (rest : List Component)
    → any_of f (used_from system c x rest) ≡ any_of (λ service. found_from f x (length rest) (server_of system c service)) (services c)
used_in f system c x [] = sym (any_of-none (services c))
used_in f system c x (d ∷ rest) =
    one_used f (uses system c x) x (used_from system c (suc x) rest)
    ∙ (ap (λ t. uses system c x && f x || t) (used_in f system c (suc x) rest)
    ∙ any_of-spread (λ service. is_there x (server_of system c service)) (λ service. found_from f (suc x) (length rest) (server_of system c service)) (f x)
    (services c))

-- a leaf that does not hold the test is not found
not_here : (f : ℕ → Bool) (x y : ℕ) (rest : Bool) → f y ≡ false → rest ≡ false → (b : Bool) → (y == x) ≡ b → ((y == x) && f x || rest) ≡ false
not_here f x y rest e more true h = let k : y ≡ x = grind (arith, nat_tests) in let g : f x ≡ false = ap f (sym k) ∙ e in rw (h, g) more
not_here f x y rest e more false h = rw h more

none_found : (f : ℕ → Bool) (x n y : ℕ) → f y ≡ false → found_from f x n (Some y) ≡ false
none_found f x zero y e = refl
none_found f x (suc n) y e = not_here f x y (found_from f (suc x) n (Some y)) e (none_found f (suc x) n y e) (y == x) refl

-- one among these that does is found
here_or_later : (f : ℕ → Bool) (x y : ℕ) (rest : Bool) → x ≤ y → f y ≡ true → (suc x ≤ y → rest ≡ true) → (b : Bool) → (y == x) ≡ b
    → ((y == x) && f x || rest) ≡ true
here_or_later f x y rest low e more true h = let k : y ≡ x = grind (arith, nat_tests) in let g : f x ≡ true = ap f (sym k) ∙ e in rw (h, g) refl
here_or_later f x y rest low e more false h = let k : suc x ≤ y = grind (arith, nat_tests) in rw h (more k)

one_found : (f : ℕ → Bool) (x n y : ℕ) → x ≤ y → y < x + n → f y ≡ true → found_from f x n (Some y) ≡ true
one_found f x zero y low high e = absurd (omega arith)
one_found f x (suc n) y low high e =
    here_or_later f x y (found_from f (suc x) n (Some y)) low e (λ (k : suc x ≤ y). one_found f (suc x) n y k (omega arith) e) (y == x) refl

found : (f : ℕ → Bool) (n : ℕ) (o : Option ℕ) → ((y : ℕ) → o ≡ Some y → y < n) → found_from f 0 n o ≡ led_to f o
found f n None h = none 0 n
  where
    none : (x m : ℕ) → found_from f x m None ≡ false
    none x zero = refl
    none x (suc m) = none (suc x) m
found f n (Some y) h = by (f y) refl
  where
    by : (b : Bool) → f y ≡ b → found_from f 0 n (Some y) ≡ f y
    by true e = let k = h y refl in one_found f 0 n y (omega arith) (omega (arith, k)) e ∙ sym e
    by false e = none_found f 0 n y e ∙ sym e

-- a test holds of one that a leaf uses just where it holds of the server of one of its services
pub used_by : (f : ℕ → Bool) (system : System) (c : Component)
    → any_of f (used_from system c 0 system.components) ≡ any_of (λ service. led_to f (server_of system c service)) (services c)
used_by f system c =
    used_in f system c 0 system.components
    ∙ any_of-same (λ service. found_from f 0 (length system.components) (server_of system c service)) (λ service. led_to f (server_of system c service))
    (services c)
    (λ service. found f (length system.components) (server_of system c service) (server_below system c service))
