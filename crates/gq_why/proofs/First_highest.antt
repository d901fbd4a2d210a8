-- The first point at which a number is greatest, found from the start.
use Rattle.std.proofs.Common.{◌≡◌, ℕ, suc, ◌+◌, Bool, true, false, List, [], ◌∷◌, ◌++◌, Option, Some, None, map, refl, ap, sym, ◌∙◌, arith}
use Rattle.std.specs.Prelude.{nat_lt, if◌then◌else◌, option_map}
use Rattle.std.proofs.lemmas.Bool.Decides.{nat_tests}
use Rattle.gq_model.specs.declared.section.Section.{Section}
use Rattle.gq_model.specs.machine.Program.{Statements, Done, Do, If, Loop, size}
use Rattle.gq_model.specs.rules.Flow.{at, flow, state_or}
use Rattle.gq_model.specs.rules.Kinds.{Kind, AbstractState, Context, inside}
use Rattle.gq_model.specs.rules.Rules.{judged}
use Rattle.gq_verify.specs.Visits.{Sight, At_statement, At_point, after_all, shown_points, slots_of}
use Rattle.gq_why.specs.First_maxima.{Top, higher, picked, top_of}
use Rattle.gq_why.specs.Why.{Point, after_each, or_later, highest}
use Rattle.gq_why.proofs.Shown_points.{shown_of}

-- of two points that where it is greater, the second where it is as great
abbrev pub or_left : (AbstractState → ℕ) → Point → Option Point → Point
or_left f p None = p
or_left f p (Some t) = if nat_lt (f t.state) (f p.state) then p else t

-- the first of a point and those of a list at which it is greatest
abbrev pub left : (AbstractState → ℕ) → Option Point → List Point → Option Point
left f o [] = o
left f o (p ∷ rest) = left f (Some (or_left f p o)) rest

pub left-append : (f : AbstractState → ℕ) (o : Option Point) (a b : List Point) → left f o (a ++ b) ≡ left f (left f o a) b
left-append f o [] b = refl
left-append f o (p ∷ rest) b = left-append f (Some (or_left f p o)) rest b

-- with numbers in place of points
three : {A : Type 0} → (t p q : A) (a b d : ℕ) →
    (if nat_lt (if nat_lt a b then b else a) d then q else (if nat_lt a b then p else t)) ≡
    (if nat_lt a (if nat_lt b d then d else b) then (if nat_lt b d then q else p) else t)
three t p q a b d = grind (arith, nat_tests)

key_of : (f : AbstractState → ℕ) (x : Bool) (p t : Point) → f (if x then p else t).state ≡ (if x then f p.state else f t.state)
key_of f true p t = refl
key_of f false p t = refl

later_on : (f : AbstractState → ℕ) (t p : Point) (o : Option Point) → or_later f (or_left f p (Some t)) o ≡ or_later f t (Some (or_later f p o))
later_on f t p None = refl
later_on f t p (Some q) =
    let a = f t.state in
    let b = f p.state in
    let d = f q.state in
    ap (λ n. if nat_lt n d then q else (if nat_lt a b then p else t)) (key_of f (nat_lt a b) p t)
    ∙ (three t p q a b d ∙ ap (λ n. if nat_lt a n then (if nat_lt b d then q else p) else t) (sym (key_of f (nat_lt b d) q p)))

left_later : (f : AbstractState → ℕ) (t : Point) (ps : List Point) → left f (Some t) ps ≡ Some (or_later f t (highest f ps))
left_later f t [] = refl
left_later f t (p ∷ rest) =
    left_later f (or_left f p (Some t)) rest ∙ ap (λ (x : Point). Some x) (later_on f t p (highest f rest))

-- so it is the one that is defined
pub left_highest : (f : AbstractState → ℕ) (ps : List Point) → left f None ps ≡ highest f ps
left_highest f [] = refl
left_highest f (p ∷ rest) = left_later f p rest

-- these are points of a section
abbrev pub AreOf : Section → List Point → Type 0
AreOf section [] = Unit {0}
AreOf section (p ∷ rest) = (p.section ≡ section) × AreOf section rest

of_both : (section : Section) (a b : List Point) → AreOf section a → AreOf section b → AreOf section (a ++ b)
of_both section [] b h k = k
of_both section (p ∷ rest) b h k = (h.0, of_both section rest b h.1 k)

pub each_of : (section : Section) (c : Context) (n : ℕ) (s : AbstractState) (b : Statements) → AreOf section (after_each section c n s b)
each_of section c n s Done = tt
each_of section c n s (Do i rest) = (refl, each_of section c (suc n) (state_or s (at 1 (judged c s i))) rest)
each_of section c n s (If arm other rest) =
    let t = slots_of s in
    let w = state_or t (flow c t arm) in
    of_both section _ _ (of_both section _ _ (each_of section c (suc n) t arm) (each_of section c (suc n + size arm) t other))
    (refl, each_of section c (suc n + size arm + size other) w rest)
each_of section c n s (Loop m body rest) =
    of_both section _ _ (each_of section (inside c m) (suc n) s body) (refl, each_of section c (suc n + size body) s rest)

-- what is kept after all points that are shown
abbrev over : Section → (AbstractState → ℕ) → (AbstractState → List Kind) → Option Top → List (ℕ × AbstractState) → Option Top
over section f kinds top [] = top
over section f kinds top (p ∷ rest) = over section f kinds (higher section f kinds p.0 p.1 top) rest

all_over : (section : Section) (f : AbstractState → ℕ) (kinds : AbstractState → List Kind) (top : Option Top) (seen : List Sight) →
    after_all (picked section f kinds) top seen ≡ over section f kinds top (shown_points seen)
all_over section f kinds top [] = refl
all_over section f kinds top (At_statement c s i ∷ rest) = all_over section f kinds top rest
all_over section f kinds top (At_point k s ∷ rest) = all_over section f kinds (higher section f kinds k s top) rest

one_higher : (section : Section) (f : AbstractState → ℕ) (kinds : AbstractState → List Kind) → ((s : AbstractState) → f (slots_of s) ≡ f s) →
    ((s : AbstractState) → kinds (slots_of s) ≡ kinds s) → (p : Point) (o : Option Point) → p.section ≡ section →
    higher section f kinds p.number (slots_of p.state) (option_map (top_of f kinds) o) ≡ Some (top_of f kinds (or_left f p o))
one_higher section f kinds fs ks p o e =
    ap (λ n. higher section (λ s. n) kinds p.number (slots_of p.state) (option_map (top_of f kinds) o)) (fs p.state)
    ∙ (ap (λ l. higher section (λ s. f p.state) (λ s. l) p.number (slots_of p.state) (option_map (top_of f kinds) o)) (ks p.state)
    ∙ (ap (λ (x : Section). higher x (λ s. f p.state) (λ s. kinds p.state) p.number (slots_of p.state) (option_map (top_of f kinds) o)) (sym e) ∙ by o))
  where
    chosen_one : (b : Bool) (t : Point) → (if b then Some (top_of f kinds p) else Some (top_of f kinds t)) ≡ Some (top_of f kinds (if b then p else t))
    chosen_one true t = refl
    chosen_one false t = refl

    by : (o : Option Point) → higher p.section (λ s. f p.state) (λ s. kinds p.state) p.number (slots_of p.state) (option_map (top_of f kinds) o) ≡
        Some (top_of f kinds (or_left f p o))
    by None = refl
    by (Some t) = chosen_one (nat_lt (f t.state) (f p.state)) t

over_left : (section : Section) (f : AbstractState → ℕ) (kinds : AbstractState → List Kind) → ((s : AbstractState) → f (slots_of s) ≡ f s) →
    ((s : AbstractState) → kinds (slots_of s) ≡ kinds s) → (o : Option Point) (ps : List Point) → AreOf section ps →
    over section f kinds (option_map (top_of f kinds) o) (map shown_of ps) ≡ option_map (top_of f kinds) (left f o ps)
over_left section f kinds fs ks o [] h = refl
over_left section f kinds fs ks o (p ∷ rest) h =
    ap (λ t. over section f kinds t (map shown_of rest)) (one_higher section f kinds fs ks p o h.0)
    ∙ over_left section f kinds fs ks (Some (or_left f p o)) rest h.1

-- what is kept after a section is the first highest of its points and one before
pub picked_left : (section : Section) (f : AbstractState → ℕ) (kinds : AbstractState → List Kind) → ((s : AbstractState) → f (slots_of s) ≡ f s) →
    ((s : AbstractState) → kinds (slots_of s) ≡ kinds s) → (o : Option Point) (ps : List Point) (seen : List Sight) → AreOf section ps →
    map shown_of ps ≡ shown_points seen →
    after_all (picked section f kinds) (option_map (top_of f kinds) o) seen ≡ option_map (top_of f kinds) (left f o ps)
picked_left section f kinds fs ks o ps seen of same =
    all_over section f kinds (option_map (top_of f kinds) o) seen
    ∙ (ap (over section f kinds (option_map (top_of f kinds) o)) (sym same) ∙ over_left section f kinds fs ks o ps of)
