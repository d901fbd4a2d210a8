-- How often sections run for several causes is the sum of how often they run for each.
use Rattle.std.proofs.Common.{◌≡◌, ◌≤◌, ℕ, zero, suc, ◌+◌, ◌*◌, cond, Bool, true, false, List, [], ◌∷◌, Option, Some, None, refl, ap, sym, ◌∙◌, arith}
use Rattle.std.specs.Prelude.{slice_get}
use Rattle.std.proofs.Math.Nat.{mul_assoc, mul_comm}
use Rattle.gq_model.specs.declared.section.Section.{Section}
use Rattle.gq_model.specs.declared.section.Section.TheVariants.{Main, Opening, Upgrading, Calling, Closing, Reacting}
use Rattle.gq_model.specs.machine.Program.{Statements}
use Rattle.gq_model.specs.machine.Scenario.{System, Component}
use Rattle.gq_model.specs.machine.Routes.{server_of}
use Rattle.gq_model.specs.rules.Kinds.{Subject}
use Rattle.gq_model.specs.rules.Budgets.{section_cost, section_requests}
use Rattle.gq_model.specs.rules.Use.{Cause, times, subject, is_there, from_sections, from_leaves, asked_of, provided_by, steps_of}
use Rattle.gq_laws.specs.internal.Section_counts.{Often}
use Rattle.gq_laws.proofs.step_counts.Section_request_sums.{times_plus, times_below, steps_add, from_add}
use Rattle.gq_laws.proofs.verified_programs.Times_bound.{times_by}

-- so often each of these causes
abbrev pub Causes : Type 0
Causes = List (ℕ × Cause)

-- a sum over causes, each as often as it is one
abbrev pub sum_of : Causes → (Cause → ℕ) → ℕ
sum_of [] f = 0
sum_of (c ∷ rest) f = c.0 * f c.1 + sum_of rest f

-- PRODUCTS

plus_times : (n a b : ℕ) → n * (a + b) ≡ n * a + n * b
plus_times n a b =
    let all = mul_comm n (a + b) ∙ times_plus a b n in
    let first = mul_comm a n in
    let second = mul_comm b n in
    omega (arith, all, first, second)

-- SUMS OVER SECTIONS AND LEAVES

steps_times : (n : ℕ) (f : Section → ℕ) (sections : List (Section × Statements)) → steps_of (λ q. n * f q) sections ≡ n * steps_of f sections
steps_times n f [] = let none = mul_comm n 0 in omega (arith, none)
steps_times n f (p ∷ rest) =
    let here = mul_assoc n (f p.0) (section_cost p.0 p.1) in
    let further = steps_times n f rest in
    let both = plus_times n (f p.0 * section_cost p.0 p.1) (steps_of f rest) in
    omega (arith, here, further, both)

from_times : (n : ℕ) (f : Section → ℕ) (v : Subject) (service : List ℕ) (section : Section) (sections : List (Section × Statements))
    → from_sections (λ q. n * f q) v service section sections ≡ n * from_sections f v service section sections
from_times n f v service section [] = let none = mul_comm n 0 in omega (arith, none)
from_times n f v service section (p ∷ rest) =
    let here = mul_assoc n (f p.0) (section_requests v p.0 service section) in
    let further = from_times n f v service section rest in
    let both = plus_times n (f p.0 * section_requests v p.0 service section) (from_sections f v service section rest) in
    omega (arith, here, further, both)

from_less : (f g : Section → ℕ) → ((q : Section) → f q ≤ g q) → (v : Subject) (service : List ℕ) (section : Section) (sections : List (Section × Statements))
    → from_sections f v service section sections ≤ from_sections g v service section sections
from_less f g less v service section [] = omega arith
from_less f g less v service section (p ∷ rest) =
    let here = times_below (f p.0) (g p.0) (section_requests v p.0 service section) (less p.0) in
    let further = from_less f g less v service section rest in
    omega (arith, here, further)

module _ (system : System) (x : ℕ) (service : List ℕ) (section : Section) where
  leaves_none : (y : ℕ) (cs : List Component) → from_leaves (λ z q. 0) system x service section y cs ≡ 0
  leaves_none y [] = refl
  leaves_none y (c ∷ rest) = by (is_there x (server_of system c service)) (leaves_none (suc y) rest) (none c.node.program.sections)
    where
      none : (sections : List (Section × Statements)) → from_sections (λ q. 0) (subject system c) service section sections ≡ 0
      none [] = refl
      none (p ∷ rest) = let further = none rest in omega (arith, further)

      by : (b : Bool) → from_leaves (λ z q. 0) system x service section (suc y) rest ≡ 0
          → from_sections (λ q. 0) (subject system c) service section c.node.program.sections ≡ 0
          → cond b (from_sections (λ q. 0) (subject system c) service section c.node.program.sections) 0
          + from_leaves (λ z q. 0) system x service section (suc y) rest ≡ 0
      by true further here = omega (arith, further, here)
      by false further here = omega (arith, further)

  leaves_less : (f g : Often) → ((y : ℕ) (q : Section) → f y q ≤ g y q) → (y : ℕ) (cs : List Component)
      → from_leaves f system x service section y cs ≤ from_leaves g system x service section y cs
  leaves_less f g less y [] = omega arith
  leaves_less f g less y (c ∷ rest) =
      by (is_there x (server_of system c service)) (leaves_less f g less (suc y) rest)
      (from_less (f y) (g y) (less y) (subject system c) service section c.node.program.sections)
    where
      by : (b : Bool) → from_leaves f system x service section (suc y) rest ≤ from_leaves g system x service section (suc y) rest
          → from_sections (f y) (subject system c) service section c.node.program.sections ≤ from_sections (g y) (subject system c) service section
          c.node.program.sections
          → cond b (from_sections (f y) (subject system c) service section c.node.program.sections) 0 + from_leaves f system x service section (suc y) rest
          ≤ cond b (from_sections (g y) (subject system c) service section c.node.program.sections) 0 + from_leaves g system x service section (suc y) rest
      by true further here = omega (arith, further, here)
      by false further here = omega (arith, further)

  -- with a first part that counts, or does not
  plus_by : (n : ℕ) (b : Bool) (l k m s t u v : ℕ) → l ≡ n * k + m → s ≡ t + u → t ≡ n * v
      → cond b s 0 + l ≡ n * (cond b v 0 + k) + (cond b u 0 + m)
  plus_by n true l k m s t u v further add scale = let both = plus_times n v k in omega (arith, further, add, scale, both)
  plus_by n false l k m s t u v further add scale =
      let same : n * (0 + k) ≡ n * k = ap (λ a. n * a) {x = 0 + k} {y = k} (omega arith) in omega (arith, further, same)

  leaves_plus : (n : ℕ) (f g : Often) (y : ℕ) (cs : List Component)
      → from_leaves (λ z q. n * f z q + g z q) system x service section y cs
      ≡ n * from_leaves f system x service section y cs + from_leaves g system x service section y cs
  leaves_plus n f g y [] = let none = mul_comm n 0 in omega (arith, none)
  leaves_plus n f g y (c ∷ rest) =
      plus_by n (is_there x (server_of system c service)) _ _ _ _ _ _ _ (leaves_plus n f g (suc y) rest)
      (from_add (λ q. n * f y q) (g y) (subject system c) service section c.node.program.sections)
      (from_times n (f y) (subject system c) service section c.node.program.sections)

-- WHAT CAUSES ASK FOR

-- how often for all of them
abbrev pub for_all : Causes → (Cause → Often) → Often
for_all causes f x q = sum_of causes (λ c. f c x q)

asked_all : (system : System) (f : Cause → Often) (causes : Causes) (x : ℕ) (section : Section) (provides : Option (List ℕ))
    → asked_of (for_all causes f) system x section provides ≡ sum_of causes (λ c. asked_of (f c) system x section provides)
asked_all system f [] x section None = refl
asked_all system f [] x section (Some service) = leaves_none system x service section 0 system.components
asked_all system f (c ∷ rest) x section None =
    let further = asked_all system f rest x section None in let none = mul_comm c.0 0 in omega (arith, further, none)
asked_all system f (c ∷ rest) x section (Some service) =
    let further = asked_all system f rest x section (Some service) in
    let here = leaves_plus system x service section c.0 (f c.1) (for_all rest f) 0 system.components in
    omega (arith, further, here)

asked_less : (system : System) (f g : Often) → ((y : ℕ) (q : Section) → f y q ≤ g y q) → (x : ℕ) (section : Section) (provides : Option (List ℕ))
    → asked_of f system x section provides ≤ asked_of g system x section provides
asked_less system f g less x section None = omega arith
asked_less system f g less x section (Some service) = leaves_less system x service section f g less 0 system.components

-- where sections of leaves' own run no more often than for these causes, all do
module _ (system : System) (causes : Causes) (own : Often) (main : (x : ℕ) → own x Main ≤ sum_of causes (λ c. times 0 c system x Main))
    (reacting : (x i : ℕ) → own x (Reacting i) ≤ sum_of causes (λ c. times 0 c system x (Reacting i))) where
  abbrev all_times : ℕ → Often
  all_times depth = for_all causes (λ c. times depth c system)

  asked : (depth : ℕ) → ((y : ℕ) (q : Section) → times_by own depth system y q ≤ all_times depth y q) → (x : ℕ) (section : Section)
      → asked_of (times_by own depth system) system x section (provided_by (slice_get system.components x))
      ≤ sum_of causes (λ c. asked_of (times depth c system) system x section (provided_by (slice_get system.components x)))
  asked depth less x section =
      let provides = provided_by (slice_get system.components x) in
      let most = asked_less system (times_by own depth system) (all_times depth) less x section provides in
      let all = asked_all system (λ c. times depth c system) causes x section provides in
      omega (arith, most, all)

  pub times_all : (depth x : ℕ) (section : Section) → times_by own depth system x section ≤ all_times depth x section
  times_all depth x Main = main x
  times_all depth x (Reacting i) = reacting x i
  times_all zero x Opening = omega arith
  times_all zero x (Upgrading l) = omega arith
  times_all zero x (Calling l) = omega arith
  times_all zero x (Closing l) = omega arith
  times_all (suc depth) x Opening = asked depth (λ y q. times_all depth y q) x Opening
  times_all (suc depth) x (Upgrading l) = asked depth (λ y q. times_all depth y q) x (Upgrading l)
  times_all (suc depth) x (Calling l) = asked depth (λ y q. times_all depth y q) x (Calling l)
  times_all (suc depth) x (Closing l) = asked depth (λ y q. times_all depth y q) x (Closing l)

pub steps_all : (f : Cause → Section → ℕ) (causes : Causes) (sections : List (Section × Statements))
    → steps_of (λ q. sum_of causes (λ c. f c q)) sections ≡ sum_of causes (λ c. steps_of (f c) sections)
steps_all f [] sections = none sections
  where
    none : (sections : List (Section × Statements)) → steps_of (λ q. 0) sections ≡ 0
    none [] = refl
    none (p ∷ rest) = let further = none rest in omega (arith, further)
steps_all f (c ∷ rest) sections =
    let add = steps_add (λ q. c.0 * f c.1 q) (λ q. sum_of rest (λ c. f c q)) sections in
    let scale = steps_times c.0 (f c.1) sections in
    let further = steps_all f rest sections in
    omega (arith, add, scale, further)
