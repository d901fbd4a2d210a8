-- What is greatest at the points that are shown of a section is greatest at its points.
use Rattle.std.proofs.Common.{◌≡◌, ℕ, ◌+◌, max, List, [], ◌∷◌, ◌++◌, refl, ap, sym, ◌∙◌, Some, arith}
use Rattle.gq_model.specs.declared.section.Section.{Section}
use Rattle.gq_model.specs.machine.Lists.{greatest}
use Rattle.gq_model.specs.machine.Program.{Statements, Done, Do, If, Loop, size, section_in, body_of}
use Rattle.gq_model.specs.rules.Flow.{at, body, context, flow, points, start_of, state_or}
use Rattle.gq_model.specs.rules.Kinds.{AbstractState, Subject, Context, inside}
use Rattle.gq_model.specs.rules.Rules.{judged}
use Rattle.gq_verify.specs.Visits.{Sight, At_statement, At_point, Shows, after_all, most_shown, raised}
use Rattle.gq_verify.specs.Visits.{section_sights, shown_points, sights, sights_by, slots_of}

pub shown_points-append : (a b : List Sight) → shown_points (a ++ b) ≡ shown_points a ++ shown_points b
shown_points-append [] b = refl
shown_points-append (At_statement c s i ∷ rest) b = shown_points-append rest b
shown_points-append (At_point k s ∷ rest) b = ap (λ l. (k, s) ∷ l) (shown_points-append rest b)

pub greatest-append : {A : Type 0} → (f : A → ℕ) (a b : List A) → greatest f (a ++ b) ≡ max (greatest f a) (greatest f b)
greatest-append f [] b = omega arith
greatest-append f (x ∷ a) b = let h = greatest-append f a b in omega (arith, h)

most-append : (f : AbstractState → ℕ) (a b : List Sight) → most_shown f (a ++ b) ≡ max (most_shown f a) (most_shown f b)
most-append f a b =
    ap (greatest (λ (p : ℕ × AbstractState). f p.1)) (shown_points-append a b) ∙ greatest-append (λ (p : ℕ × AbstractState). f p.1) (shown_points a)
    (shown_points b)

-- of numbers that depend on slots alone
pub most_same : (f : AbstractState → ℕ) → ((s : AbstractState) → f (slots_of s) ≡ f s) → (c : Context) (k : ℕ) (s : AbstractState) (b : Statements) →
    greatest f (points c s b) ≡ max (f s) (most_shown f (sights c k s b))
most_same f slots c k s Done = refl
most_same f slots c k s (Do i rest) =
    let t = state_or s (at 1 (judged c s i)) in
    let more = most_same f slots c (k + 1) t rest in
    let here = slots t in omega (arith, more, here)
most_same f slots c k s (If arm other rest) =
    let t = slots_of s in
    let w = state_or t (flow c t arm) in
    let first = sights c (k + 1) t arm in
    let second = sights c (k + 1 + size arm) t other in
    let n = k + 1 + size arm + size other in
    let a = most_same f slots c (k + 1) t arm in
    let b = most_same f slots c (k + 1 + size arm) t other in
    let d = most_same f slots c n w rest in
    let e = most-append f (first ++ second) (At_point (k + 1) (slots_of w) ∷ sights c n w rest) in
    let g = most-append f first second in
    let p = greatest-append f (points c t arm ++ points c t other) (points c w rest) in
    let q = greatest-append f (points c t arm) (points c t other) in
    let at_s = slots s in
    let at_w = slots w in
    omega (arith, a, b, d, e, g, p, q, at_s, at_w)
most_same f slots c k s (Loop n body rest) =
    let first = sights (inside c n) (k + 1) s body in
    let m = k + 1 + size body in
    let a = most_same f slots (inside c n) (k + 1) s body in
    let d = most_same f slots c m s rest in
    let e = most-append f first (At_point (k + 1) (slots_of s) ∷ sights c m s rest) in
    let p = greatest-append f (points (inside c n) s body) (points c s rest) in
    let at_s = slots s in
    omega (arith, a, d, e, p, at_s)

-- of a section that is there
pub most_of_section : (f : AbstractState → ℕ) → ((s : AbstractState) → f (slots_of s) ≡ f s) → (v : Subject) (section : Section) (b : Statements) →
    section_in section v.program.sections ≡ Some b →
    greatest f (points (context v section) (start_of v section) (body v section)) ≡ most_shown f (section_sights v section)
most_of_section f slots v section b is =
    let s = start_of v section in
    ap (λ o. greatest f (points (context v section) s (body_of o))) is
    ∙ (most_same f slots (context v section) 0 s b
    ∙ (ap (λ n. max n (most_shown f (sights (context v section) 0 s b))) (sym (slots s)) ∙ ap (λ o. most_shown f (sights_by v section o)) (sym is)))

-- a visitor that keeps what is greatest has the greatest number of all
pub shows_most : {A : Type 0} → (leads : A → Sight → A → Type 0) (kept : A → ℕ) (f : AbstractState → ℕ) →
    ((a : A) (e : Sight) (b : A) → leads a e b → kept b ≡ raised f (kept a) e) →
    (a b : A) (seen : List Sight) → Shows leads a seen b → kept b ≡ max (kept a) (most_shown f seen)
shows_most leads kept f step a b [] h = let same = ap kept h in omega (arith, same)
shows_most leads kept f step a b (At_statement c s i ∷ rest) h =
    let here = step a (At_statement c s i) h.0 h.1 in
    let more = shows_most leads kept f step h.0 b rest h.2 in omega (arith, here, more)
shows_most leads kept f step a b (At_point k s ∷ rest) h =
    let here = step a (At_point k s) h.0 h.1 in
    let more = shows_most leads kept f step h.0 b rest h.2 in omega (arith, here, more)

-- a visitor of which something is kept that changes so has it changed by all
pub shows_all : {A B : Type 0} → (leads : A → Sight → A → Type 0) (kept : A → B) (go : B → Sight → B) →
    ((a : A) (e : Sight) (b : A) → leads a e b → kept b ≡ go (kept a) e) →
    (a b : A) (seen : List Sight) → Shows leads a seen b → kept b ≡ after_all go (kept a) seen
shows_all leads kept go step a b [] h = ap kept (sym h)
shows_all leads kept go step a b (e ∷ rest) h =
    shows_all leads kept go step h.0 b rest h.2 ∙ ap (λ x. after_all go x rest) (step a e h.0 h.1)
