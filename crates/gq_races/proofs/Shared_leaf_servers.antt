-- Leaves that are shared, by the servers of what each leaf opens.
use Rattle.std.proofs.Common.{◌≡◌, ◌∙◌, ℕ, zero, suc, ◌==◌, ◌<◌, Bool, true, false, ◌||◌, ◌&&◌, cond, List, []}
use Rattle.std.proofs.Common.{◌∷◌, ◌++◌, map, length, get_or, Option, ap, sym}
use Rattle.std.proofs.Common.{refl, arith}
use Rattle.std.specs.Prelude.{not}
use Rattle.std.proofs.lemmas.List.{length-map}
use Rattle.gq_model.specs.declared.section.Section.{Section}
use Rattle.gq_model.specs.machine.Lists.{any_of}
use Rattle.gq_model.specs.machine.Program.{Statements}
use Rattle.gq_model.specs.machine.Scenario.{Component, Scenario, components, system}
use Rattle.gq_model.specs.machine.Sections.{is_own_section}
use Rattle.gq_model.specs.rules.Use.{is_there, services_of}
use Rattle.gq_resolve.specs.Served.{once, server_among}
use Rattle.gq_resolve.proofs.Opened_service_lists.{any_once}
use Rattle.gq_races.specs.Races.{all_for, any_below, implies, is_shared, opens, opens_first, opens_later, owns}
use Rattle.gq_races.specs.internal.Openers.{first_servers, later_servers, opened_from, servers_of}
use Rattle.gq_races.specs.internal.Owners.{AreShared, all_kept, owns_kept}

or_assoc : (a b c : Bool) → (a || b) || c ≡ a || (b || c)
or_assoc true b c = refl
or_assoc false b c = refl

any_append : {A : Type 0} (test : A → Bool) (a b : List A) → any_of test (a ++ b) ≡ (any_of test a || any_of test b)
any_append test [] b = refl
any_append test (x ∷ a) b = ap (λ r. test x || r) (any_append test a b) ∙ sym (or_assoc (test x) (any_of test a) (any_of test b))

any_map : {A B : Type 0} (test : B → Bool) (f : A → B) (a : List A) → any_of test (map f a) ≡ any_of (λ x. test (f x)) a
any_map test f [] = refl
any_map test f (x ∷ a) = ap (λ r. test (f x) || r) (any_map test f a)

-- SERVERS

module _ (s : Scenario) (x : ℕ) (c : Component) where
  -- the x-th leaf is among the servers of what a section opens
  opens_is : (body : Statements) → any_of (is_there x) (servers_of (server_among (components s) c) (services_of body)) ≡ opens (system s) x c body
  opens_is body =
      any_map (is_there x) (server_among (components s) c) (once (services_of body))
      ∙ any_once (λ service. is_there x (server_among (components s) c service)) (services_of body)

  first_one : (b : Bool) (body : Statements) (rest : List (Option ℕ))
      → any_of (is_there x) (cond b (servers_of (server_among (components s) c) (services_of body)) [] ++ rest)
      ≡ (b && opens (system s) x c body || any_of (is_there x) rest)
  first_one true body rest =
      any_append (is_there x) (servers_of (server_among (components s) c) (services_of body)) rest ∙ ap (λ o. o || any_of (is_there x) rest) (opens_is body)
  first_one false body rest = refl

  later_one : (b : Bool) (body : Statements) (rest : List (Option ℕ))
      → any_of (is_there x) (cond b [] (servers_of (server_among (components s) c) (services_of body)) ++ rest) ≡ (not b && opens (system s) x c body || any_of
      (is_there x) rest)
  later_one true body rest = refl
  later_one false body rest =
      any_append (is_there x) (servers_of (server_among (components s) c) (services_of body)) rest ∙ ap (λ o. o || any_of (is_there x) rest) (opens_is body)

  first_in : (sections : List (Section × Statements))
      → any_of (is_there x) (first_servers (server_among (components s) c) sections) ≡ any_of (λ p. is_own_section p.0 && opens (system s) x c p.1) sections
  first_in [] = refl
  first_in (p ∷ rest) =
      first_one (is_own_section p.0) p.1 (first_servers (server_among (components s) c) rest)
      ∙ ap (λ r. is_own_section p.0 && opens (system s) x c p.1 || r) (first_in rest)

  later_in : (sections : List (Section × Statements))
      → any_of (is_there x) (later_servers (server_among (components s) c) sections)
      ≡ any_of (λ p. not (is_own_section p.0) && opens (system s) x c p.1) sections
  later_in [] = refl
  later_in (p ∷ rest) =
      later_one (is_own_section p.0) p.1 (later_servers (server_among (components s) c) rest)
      ∙ ap (λ r. not (is_own_section p.0) && opens (system s) x c p.1 || r) (later_in rest)

-- LEAVES

module _ (s : Scenario) where
  kept_one : (owned : ℕ → Bool) (z x y : ℕ) (cs : List Component)
      → all_kept owned z x y (map (opened_from (components s)) cs) ≡ all_for owned (system s) z x y cs
  kept_one owned z x y [] = refl
  kept_one owned z x y (c ∷ cs) =
      λ e. implies (first_in s x c c.node.program.sections e) (y == z) && implies (later_in s x c c.node.program.sections e) (owned y)
      && kept_one owned z x (suc y) cs e

  all_owned : (owned more : ℕ → Bool) → ((y : ℕ) → owned y ≡ more y) → (z x y : ℕ) (cs : List Component)
      → all_for owned (system s) z x y cs ≡ all_for more (system s) z x y cs
  all_owned owned more same z x y [] = refl
  all_owned owned more same z x y (c ∷ cs) =
      λ e. implies (opens_first (system s) x c) (y == z) && implies (opens_later (system s) x c) (same y e)
      && all_owned owned more same z x (suc y) cs e

  owns_is : (n z x : ℕ) → owns_kept n (map (opened_from (components s)) (components s)) z x ≡ owns n (system s) z x
  owns_is zero z x = refl
  owns_is (suc n) z x =
      kept_one (owns_kept n (map (opened_from (components s)) (components s)) z) z x 0 (components s)
      ∙ all_owned _ _ (λ y. owns_is n z y) z x 0 (components s)

  below_is : (test more : ℕ → Bool) → ((y : ℕ) → test y ≡ more y) → (n : ℕ) → any_below test n ≡ any_below more n
  below_is test more same zero = refl
  below_is test more same (suc n) = λ e. same n e || below_is test more same n e

  -- a leaf is shared by what the code keeps
  pub shared_is : (x : ℕ)
      → not (any_below (λ z. owns_kept (length (map (opened_from (components s)) (components s))) (map (opened_from (components s)) (components s)) z x)
      (length (map (opened_from (components s)) (components s)))) ≡ is_shared (system s) x
  shared_is x =
      let count : length (map (opened_from (components s)) (components s)) ≡ length (components s) = length-map (components s) (opened_from (components s)) in
      ap (λ n. not (any_below (λ z. owns_kept n (map (opened_from (components s)) (components s)) z x) n)) count
      ∙ ap not (below_is _ _ (λ z. owns_is (length (components s)) z x) (length (components s)))

get_same : (l : List Bool) (x : ℕ) (a b : Bool) → x < length l → get_or l x a ≡ get_or l x b
get_same [] x a b within = absurd (omega (arith, within))
get_same (c ∷ l) zero a b within = refl
get_same (c ∷ l) (suc x) a b within = get_same l x a b (omega (arith, within))

-- a test of the code, by the place of a leaf
pub shared_test : (s : Scenario) (shared : List Bool) → AreShared (components s) shared → (x : ℕ) → x < length (components s)
    → (d b : Bool) → get_or shared x d ≡ b → is_shared (system s) x ≡ b
shared_test s shared h x within d b is =
    let count = length-map (components s) (opened_from (components s)) in
    let there = h.0 in
    let test = h.1 x b (omega (arith, within, count)) (sym is ∙ get_same shared x d b (omega (arith, within, count, there))) in
    sym (test ∙ shared_is s x)
