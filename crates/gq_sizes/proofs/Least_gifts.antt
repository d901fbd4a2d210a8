-- The least of all that is given, found one after the other.
use Rattle.std.proofs.Common.{◌≡◌, ℕ, Bool, true, false, ◌&&◌, ◌==◌, List, [], ◌∷◌, ◌++◌, Option, Some, None, refl, ap, sym, ◌∙◌, arith}
use Rattle.std.specs.Prelude.{if◌then◌else◌}
use Rattle.gq_model.specs.declared.section.Section.{Section}
use Rattle.gq_model.specs.machine.Program.{Statements, section_in, text_eq}
use Rattle.gq_model.specs.machine.Scenario.{Component, System}
use Rattle.gq_model.specs.rules.Flow.{context, start_of}
use Rattle.gq_model.specs.rules.Kinds.{Subject}
use Rattle.gq_model.specs.rules.Use.{subject}
use Rattle.std.specs.Prelude.{map}
use Rattle.gq_verify.specs.Visits.{Sight, At_statement, At_point, after_all, section_sights, sights_by}
use Rattle.gq_sizes.specs.Size.{Gift, all_gifts, gift_of, gifts, gifts_in, least_gift, lesser}
use Rattle.gq_sizes.specs.Needing.{given_at, gifts_of, least_of}
use Rattle.gq_sizes.proofs.Gifts_shown.{gifts_same, gifts_shown}

pub least_none : (a : Option ℕ) → least_of a None ≡ a
least_none None = refl
least_none (Some n) = refl

least_assoc : (a b c : Option ℕ) → least_of (least_of a b) c ≡ least_of a (least_of b c)
least_assoc None b c = refl
least_assoc (Some n) None c = refl
least_assoc (Some n) (Some m) None = refl
least_assoc (Some n) (Some m) (Some k) = ap (λ (x : ℕ). Some x) (omega arith)

least_append : (service : List ℕ) (level : ℕ) (a b : List Gift) →
    least_gift service level (a ++ b) ≡ least_of (least_gift service level a) (least_gift service level b)
least_append service level [] b = refl
least_append service level (g ∷ rest) b = by (text_eq service g.0 && g.1 == level) (least_append service level rest b)
  where
    by : (x : Bool) → least_gift service level (rest ++ b) ≡ least_of (least_gift service level rest) (least_gift service level b) →
        (if x then lesser g.2 (least_gift service level (rest ++ b)) else least_gift service level (rest ++ b))
        ≡ least_of (if x then lesser g.2 (least_gift service level rest) else least_gift service level rest) (least_gift service level b)
    by true more = ap (lesser g.2) more ∙ sym (least_assoc (Some g.2) (least_gift service level rest) (least_gift service level b))
    by false more = more

-- what is kept after all that is shown is the least of what is given there, and of what was kept
after_gifts : (service : List ℕ) (level : ℕ) (least : Option ℕ) (seen : List Sight) →
    after_all (given_at service level) least seen ≡ least_of least (least_gift service level (gifts_shown seen))
after_gifts service level least [] = sym (least_none least)
after_gifts service level least (At_statement c s i ∷ rest) =
    let here = least_gift service level (gift_of c s i) in
    after_gifts service level (least_of least here) rest
    ∙ (least_assoc least here (least_gift service level (gifts_shown rest))
    ∙ ap (least_of least) (sym (least_append service level (gift_of c s i) (gifts_shown rest))))
after_gifts service level least (At_point k s ∷ rest) = after_gifts service level least rest

section_given : (v : Subject) (section : Section) (b : Statements) → section_in section v.program.sections ≡ Some b →
    gifts_shown (section_sights v section) ≡ gifts (context v section) (start_of v section) b
section_given v section b is =
    ap (λ o. gifts_shown (sights_by v section o)) is ∙ gifts_same (context v section) 0 (start_of v section) b

-- with a section more of a leaf
pub section_more : (service : List ℕ) (level : ℕ) (v : Subject) (p : Section × Statements) (left : List (Section × Statements)) (now next all : Option ℕ) →
    section_in p.0 v.program.sections ≡ Some p.1 → next ≡ after_all (given_at service level) now (section_sights v p.0) →
    least_of now (least_gift service level (gifts_in v (p ∷ left))) ≡ all → least_of next (least_gift service level (gifts_in v left)) ≡ all
section_more service level v p left now next all found is whole =
    let given = gifts (context v p.0) (start_of v p.0) p.1 in
    let here : next ≡ least_of now (least_gift service level given) =
    is ∙ (after_gifts service level now (section_sights v p.0) ∙ ap (λ l. least_of now (least_gift service level l)) (section_given v p.0 p.1 found)) in
    ap (λ n. least_of n (least_gift service level (gifts_in v left))) here
    ∙ (least_assoc now (least_gift service level given) (least_gift service level (gifts_in v left))
    ∙ (ap (least_of now) (sym (least_append service level given (gifts_in v left))) ∙ whole))

-- with a leaf more
pub leaf_more : (service : List ℕ) (level : ℕ) (v : Subject) (left : List Subject) (now next all : Option ℕ) →
    next ≡ least_of now (least_gift service level (gifts_in v v.program.sections)) →
    least_of now (least_gift service level (gifts_of (v ∷ left))) ≡ all → least_of next (least_gift service level (gifts_of left)) ≡ all
leaf_more service level v left now next all is whole =
    let given = gifts_in v v.program.sections in
    ap (λ n. least_of n (least_gift service level (gifts_of left))) is
    ∙ (least_assoc now (least_gift service level given) (least_gift service level (gifts_of left))
    ∙ (ap (least_of now) (sym (least_append service level given (gifts_of left))) ∙ whole))

-- what the leaves of a system give is what all give
pub same_gifts : (all : System) (cs : List Component) → gifts_of (map (subject all) cs) ≡ all_gifts all cs
same_gifts all [] = refl
same_gifts all (c ∷ rest) = ap (λ l. gifts_in (subject all c) c.node.program.sections ++ l) (same_gifts all rest)
