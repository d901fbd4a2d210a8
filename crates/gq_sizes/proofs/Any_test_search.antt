-- Whether any of a list passes a test, found one after the other.
use Rattle.std.proofs.Common.{◌≡◌, ℕ, zero, suc, ◌+◌, ◌-◌, ◌<◌, ◌≤◌, ◌&&◌, ◌||◌, max, Bool, true, false, List, [], ◌∷◌, length, get_or, drop, map, refl}
use Rattle.std.proofs.Common.{ap, sym, ◌∙◌, ◌⊎◌, inl, inr, Some, arith}
use Rattle.std.specs.Prelude.{if◌then◌else◌}
use Rattle.std.proofs.Math.Bool.{beq}
use Rattle.gq_model.specs.declared.section.Section.{Section}
use Rattle.gq_model.specs.declared.section.Section.TheVariants.{Main}
use Rattle.gq_model.specs.machine.Lists.{any_of, greatest}
use Rattle.gq_model.specs.machine.Program.{Statements, section_in}
use Rattle.gq_model.specs.machine.Scenario.{Component, System}
use Rattle.gq_model.specs.rules.Flow.{start_of}
use Rattle.gq_model.specs.rules.Kinds.{AbstractState, Subject}
use Rattle.gq_model.specs.rules.Use.{subject}
use Rattle.gq_verify.specs.Visits.{Sight, At_statement, At_point, after_all, section_sights, shown_points, slots_of}
use Rattle.gq_verify.proofs.List_remainders.{next_left, none_left}
use Rattle.gq_verify.proofs.Visited_point_maxima.{most_of_section}
use Rattle.gq_sizes.specs.Endless.{Test, leads}
use Rattle.gq_sizes.specs.Size.{is_named, is_up_to, section_points}
use Rattle.gq_sizes.specs.Passing.{found_by, held_of, tests}
use Rattle.gq_sizes.proofs.Least_leaves.{most_of_main}

-- LISTS

module _ {A : Type 0} (f : A → Bool) (xs : List A) (i : ℕ) (whole : Bool) where
  head_of : (x : A) → i < length xs → x ≡ get_or xs i x → any_of f (drop i xs) ≡ (f x || any_of f (drop (i + 1) xs))
  head_of x lt is = ap (any_of f) (next_left xs i x lt is)

  -- one that does not pass leaves those behind it
  pub any_next : (x : A) → i < length xs → x ≡ get_or xs i x → f x ≡ false → any_of f (drop i xs) ≡ whole → any_of f (drop (i + 1) xs) ≡ whole
  any_next x lt is fails inv = sym (head_of x lt is ∙ ap (λ b. b || any_of f (drop (i + 1) xs)) fails) ∙ inv

  -- one that passes is enough
  pub any_here : (x : A) → i < length xs → x ≡ get_or xs i x → f x ≡ true → any_of f (drop i xs) ≡ whole → true ≡ whole
  any_here x lt is holds inv = sym (head_of x lt is ∙ ap (λ b. b || any_of f (drop (i + 1) xs)) holds) ∙ inv

  -- and where none is left none passes
  pub any_end : length xs ≤ i → any_of f (drop i xs) ≡ whole → false ≡ whole
  any_end end inv = sym (ap (any_of f) (none_left xs i end)) ∙ inv

-- LEAVES THAT PROVIDE A SERVICE

module _ (f : Subject → Bool) (service : List ℕ) (xs : List Component) (ys : List Subject) (whole : Bool) where
  pair_of : (xs' : List Component) (ys' : List Subject) (c : Component) (v : Subject) → xs ≡ c ∷ xs' → ys ≡ v ∷ ys'
      → held_of f service xs ys ≡ ((is_named service c.node.provides && f v) || held_of f service xs' ys')
  pair_of xs' ys' c v ex ey = λ i. held_of f service (ex i) (ey i)

  pub held_next : (xs' : List Component) (ys' : List Subject) (c : Component) (v : Subject) → xs ≡ c ∷ xs' → ys ≡ v ∷ ys'
      → (is_named service c.node.provides && f v) ≡ false → held_of f service xs ys ≡ whole → held_of f service xs' ys' ≡ whole
  held_next xs' ys' c v ex ey fails inv = sym (pair_of xs' ys' c v ex ey ∙ ap (λ b. b || held_of f service xs' ys') fails) ∙ inv

  pub held_here : (xs' : List Component) (ys' : List Subject) (c : Component) (v : Subject) → xs ≡ c ∷ xs' → ys ≡ v ∷ ys'
      → (is_named service c.node.provides && f v) ≡ true → held_of f service xs ys ≡ whole → true ≡ whole
  held_here xs' ys' c v ex ey holds inv = sym (pair_of xs' ys' c v ex ey ∙ ap (λ b. b || held_of f service xs' ys') holds) ∙ inv

held_none : (f : Subject → Bool) (service : List ℕ) (xs : List Component) (ys : List Subject) → (xs ≡ []) ⊎ (ys ≡ []) → held_of f service xs ys ≡ false
held_none f service [] ys h = refl
held_none f service (x ∷ xs) [] h = refl
held_none f service (x ∷ xs) (y ∷ ys) (inl e) = cc
held_none f service (x ∷ xs) (y ∷ ys) (inr e) = cc

pub held_end : (f : Subject → Bool) (service : List ℕ) (xs : List Component) (ys : List Subject) (whole : Bool) → (xs ≡ []) ⊎ (ys ≡ [])
    → held_of f service xs ys ≡ whole → false ≡ whole
held_end f service xs ys whole h inv = sym (held_none f service xs ys h) ∙ inv

held_all : (f : Subject → Bool) (service : List ℕ) (all : System) (cs : List Component)
    → held_of f service cs (map (subject all) cs) ≡ any_of (λ (c : Component). is_named service c.node.provides && f (subject all c)) cs
held_all f service all [] = refl
held_all f service all (c ∷ rest) = ap (λ b. (is_named service c.node.provides && f (subject all c)) || b) (held_all f service all rest)

pub held_is : (f : Subject → Bool) (service : List ℕ) (all : System) (cs : List Component) (vs : List Subject) → cs ≡ all.components
    → vs ≡ map (subject all) all.components
    → held_of f service cs vs ≡ any_of (λ (c : Component). is_named service c.node.provides && f (subject all c)) all.components
held_is f service all cs vs e h = (λ i. held_of f service (e i) (h i)) ∙ held_all f service all all.components

-- POINTS

-- one passes among the points that are shown
abbrev any_shown : (AbstractState → Bool) → List Sight → Bool
any_shown f seen = any_of (λ (p : ℕ × AbstractState). f p.1) (shown_points seen)

pub or_none : (b : Bool) → b ≡ (b || false)
or_none true = refl
or_none false = refl

pub or_assoc : (a b c : Bool) → ((a || b) || c) ≡ (a || (b || c))
or_assoc true b c = refl
or_assoc false b c = refl

pub all_found : (f : AbstractState → Bool) (b : Bool) (seen : List Sight) → after_all (found_by f) b seen ≡ (b || any_shown f seen)
all_found f b [] = or_none b
all_found f b (At_statement c s i ∷ rest) = all_found f b rest
all_found f b (At_point k s ∷ rest) = all_found f (b || f s) rest ∙ or_assoc b (f s) (any_shown f rest)

abbrev number : {A : Type 0} → (A → Bool) → A → ℕ
number f a = if f a then 1 else 0

abbrev some : ℕ → Bool
some zero = false
some (suc n) = true

any_number : {A : Type 0} → (f : A → Bool) (xs : List A) → any_of f xs ≡ some (greatest (number f) xs)
any_number f [] = refl
any_number f (x ∷ xs) = by (f x) (any_number f xs)
  where
    by : (b : Bool) → any_of f xs ≡ some (greatest (number f) xs) → (b || any_of f xs) ≡ some (max (if b then 1 else 0) (greatest (number f) xs))
    by true more = let e : max 1 (greatest (number f) xs) ≡ suc (greatest (number f) xs - 1) = omega arith in sym (ap some e)
    by false more = let e : max 0 (greatest (number f) xs) ≡ greatest (number f) xs = omega arith in more ∙ sym (ap some e)

-- of a section that is there
pub any_of_section : (f : AbstractState → Bool) → ((s : AbstractState) → f (slots_of s) ≡ f s) → (v : Subject) (section : Section) (b : Statements)
    → section_in section v.program.sections ≡ Some b → any_of f (section_points v section) ≡ any_shown f (section_sights v section)
any_of_section f slots v section b is =
    any_number f (section_points v section)
    ∙ (ap some (most_of_section (number f) (λ s. ap (λ b. if b then 1 else 0) (slots s)) v section b is)
    ∙ sym (any_number (λ (p : ℕ × AbstractState). f p.1) (shown_points (section_sights v section))))

-- `main` begins with empty slots, so a program without it has nothing at its points
pub any_of_main : (f : AbstractState → Bool) → ((s : AbstractState) → f (slots_of s) ≡ f s) → (v : Subject) → f (start_of v Main) ≡ false
    → any_of f (section_points v Main) ≡ any_shown f (section_sights v Main)
any_of_main f slots v none =
    any_number f (section_points v Main)
    ∙ (ap some (most_of_main (number f) (λ s. ap (λ b. if b then 1 else 0) (slots s)) v (ap (λ b. if b then 1 else 0) none))
    ∙ sym (any_number (λ (p : ℕ × AbstractState). f p.1) (shown_points (section_sights v Main))))

pub any_map : {A B : Type 0} → (f : B → Bool) (g : A → B) (xs : List A) → any_of (λ x. f (g x)) xs ≡ any_of f (map g xs)
any_map f g [] = refl
any_map f g (x ∷ xs) = ap (λ b. f (g x) || b) (any_map f g xs)

-- whether one is held by a session of a level up to l, at some point of a section
abbrev pub section_holds : Test → Subject → ℕ → Section × Statements → Bool
section_holds test v l p = is_up_to l p.0 && any_of (λ (s : AbstractState). any_of (leads test) s.bank) (section_points v p.0)

pub tests_of : (f : ℕ → Bool) (a b c d : Bool) → a ≡ f 0 → b ≡ f 1 → c ≡ f 2 → d ≡ f 3 → (a ∷ b ∷ c ∷ d ∷ []) ≡ tests f
tests_of f a b c d e g h k = λ i. e i ∷ g i ∷ h i ∷ k i ∷ []

pub same_test : (a b : Bool) → beq a b ≡ true → a ≡ b
same_test true true e = refl
same_test true false e = absurd cc
same_test false true e = absurd cc
same_test false false e = refl
