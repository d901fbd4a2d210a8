-- The points of the walk are what visitors are shown.
use Rattle.std.proofs.Common.{◌≡◌, ℕ, suc, ◌+◌, List, ◌∷◌, ◌++◌, map, refl, ap, sym, ◌∙◌, Some, arith}
use Rattle.std.proofs.lemmas.List.{map-append}
use Rattle.gq_model.specs.declared.section.Section.{Section}
use Rattle.gq_model.specs.machine.Program.{Statements, Done, Do, If, Loop, size, section_in, body_of}
use Rattle.gq_model.specs.rules.Flow.{at, context, flow, start_of, state_or}
use Rattle.gq_model.specs.rules.Kinds.{AbstractState, Subject, Context, inside}
use Rattle.gq_model.specs.rules.Rules.{judged}
use Rattle.gq_verify.specs.Visits.{Sight, At_point, section_sights, shown_points, sights, sights_by, slots_of}
use Rattle.gq_verify.proofs.Visited_point_maxima.{shown_points-append}
use Rattle.gq_why.specs.Why.{Point, after_each, points_of}

-- a point as it is shown
abbrev pub shown_of : Point → ℕ × AbstractState
shown_of p = (p.number, slots_of p.state)

joined : (xs ys : List Point) (before after : List Sight) → map shown_of xs ≡ shown_points before → map shown_of ys ≡ shown_points after →
    map shown_of (xs ++ ys) ≡ shown_points (before ++ after)
joined xs ys before after p q =
    map-append shown_of xs ys
    ∙ (ap (λ l. l ++ map shown_of ys) p ∙ (ap (λ l. shown_points before ++ l) q ∙ sym (shown_points-append before after)))

pointed : (section : Section) (n k : ℕ) (s : AbstractState) (ys : List Point) (after : List Sight) → n ≡ k → map shown_of ys ≡ shown_points after →
    map shown_of (record { section = section; number = n; state = s } ∷ ys) ≡ shown_points (At_point k (slots_of s) ∷ after)
pointed section n k s ys after e q = ap (λ m. (m, slots_of s) ∷ map shown_of ys) e ∙ ap (λ l. (k, slots_of s) ∷ l) q

-- those after the statements of a list
pub each_shown : (section : Section) (c : Context) (k n : ℕ) (s : AbstractState) (b : Statements) → n ≡ k + 1 →
    map shown_of (after_each section c n s b) ≡ shown_points (sights c k s b)
each_shown section c k n s Done e = refl
each_shown section c k n s (Do i rest) e =
    let t = state_or s (at 1 (judged c s i)) in
    pointed section n (k + 1) t (after_each section c (suc n) t rest) (sights c (k + 1) t rest) e
    (each_shown section c (k + 1) (suc n) t rest (omega (arith, e)))
each_shown section c k n s (If arm other rest) e =
    let t = slots_of s in
    let w = state_or t (flow c t arm) in
    let m = k + 1 + size arm + size other in
    let j = suc n + size arm + size other in
    let first = sights c (k + 1) t arm in
    let second = sights c (k + 1 + size arm) t other in
    let last = sights c m w rest in
    let xs = after_each section c (suc n) t arm in
    let ys = after_each section c (suc n + size arm) t other in
    let zs = after_each section c j w rest in
    let point : Point = record { section = section; number = n; state = w } in
    let a = each_shown section c (k + 1) (suc n) t arm (omega (arith, e)) in
    let b = each_shown section c (k + 1 + size arm) (suc n + size arm) t other (omega (arith, e)) in
    let d = each_shown section c m j w rest (omega (arith, e)) in
    joined (xs ++ ys) (point ∷ zs) (first ++ second) (At_point (k + 1) (slots_of w) ∷ last) (joined xs ys first second a b)
    (pointed section n (k + 1) w zs last e d)
each_shown section c k n s (Loop m body rest) e =
    let first = sights (inside c m) (k + 1) s body in
    let last = sights c (k + 1 + size body) s rest in
    let xs = after_each section (inside c m) (suc n) s body in
    let zs = after_each section c (suc n + size body) s rest in
    let point : Point = record { section = section; number = n; state = s } in
    let a = each_shown section (inside c m) (k + 1) (suc n) s body (omega (arith, e)) in
    let d = each_shown section c (k + 1 + size body) (suc n + size body) s rest (omega (arith, e)) in
    joined xs (point ∷ zs) first (At_point (k + 1) (slots_of s) ∷ last) a (pointed section n (k + 1) s zs last e d)

-- those of a section that is there
pub section_shown : (v : Subject) (section : Section) (b : Statements) → section_in section v.program.sections ≡ Some b →
    map shown_of (points_of v section) ≡ shown_points (section_sights v section)
section_shown v section b is =
    let s = start_of v section in
    let first : Point = record { section = section; number = 0; state = s } in
    ap (λ o. shown_of first ∷ map shown_of (after_each section (context v section) 1 s (body_of o))) is
    ∙ (ap (λ l. (0, slots_of s) ∷ l) (each_shown section (context v section) 0 1 s b (omega arith)) ∙ ap (λ o. shown_points (sights_by v section o)) (sym is))
