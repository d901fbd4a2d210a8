-- What leaves are judged by, one after the other.
use Rattle.std.proofs.Common.{◌≡◌, List, [], ◌∷◌, ◌++◌, map, None, refl, ap, sym, subst, ◌∙◌, ◌⊎◌, inl, inr, append_assoc, append-nil}
use Rattle.gq_model.specs.machine.Program.{Program}
use Rattle.gq_model.specs.machine.Scenario.{Component, Interfaces, System}
use Rattle.gq_model.specs.rules.Kinds.{Subject}
use Rattle.gq_model.specs.rules.Use.{subject}
use Rattle.gq_model.specs.rules.Verdict.{program_fault}
use Rattle.gq_verify.specs.Subjects.{subject_of}
use Rattle.gq_sizes.specs.Needing.{BreakNothing, subjects_by}

pub breaks_now : (interfaces : Interfaces) (xs xs' : List Component) (ys ys' : List Program) (c : Component) (p : Program) → xs ≡ c ∷ xs' → ys ≡ p ∷ ys' →
    BreakNothing interfaces xs ys
    → (program_fault (subject_of p c.node.provides interfaces c.node.inputs c.node.signals) ≡ None) × BreakNothing interfaces xs' ys'
breaks_now interfaces xs xs' ys ys' c p ex ey h = subst (BreakNothing interfaces (c ∷ xs')) ey (subst (λ l. BreakNothing interfaces l ys) ex h)

pub one_more : (interfaces : Interfaces) (made made' all : List Subject) (xs xs' : List Component) (ys ys' : List Program) (c : Component) (p : Program)
    (v : Subject) → xs ≡ c ∷ xs' → ys ≡ p ∷ ys' → made' ≡ made ++ v ∷ [] → v ≡ subject_of p c.node.provides interfaces c.node.inputs c.node.signals →
    made ++ subjects_by interfaces xs ys ≡ all → made' ++ subjects_by interfaces xs' ys' ≡ all
one_more interfaces made made' all xs xs' ys ys' c p v ex ey put is whole =
    ap (λ l. l ++ subjects_by interfaces xs' ys') put
    ∙ (append_assoc made (v ∷ []) (subjects_by interfaces xs' ys')
    ∙ (ap (λ u. made ++ u ∷ subjects_by interfaces xs' ys') is
    ∙ (ap (λ l. made ++ subjects_by interfaces (c ∷ xs') l) (sym ey) ∙ (ap (λ l. made ++ subjects_by interfaces l ys) (sym ex) ∙ whole))))

pub none_more : (interfaces : Interfaces) (xs : List Component) (ys : List Program) → (xs ≡ []) ⊎ (ys ≡ []) → subjects_by interfaces xs ys ≡ []
none_more interfaces [] ys h = refl
none_more interfaces (x ∷ xs) [] h = refl
none_more interfaces (x ∷ xs) (y ∷ ys) (inl e) = cc
none_more interfaces (x ∷ xs) (y ∷ ys) (inr e) = cc

pub all_made : (made rest all : List Subject) → rest ≡ [] → made ++ rest ≡ all → made ≡ all
all_made made rest all none whole = sym (append-nil made) ∙ (ap (λ l. made ++ l) (sym none) ∙ whole)

-- with the programs of the leaves of a system they are judged by the system's own interfaces
pub subjects_are : (all : System) (cs : List Component) → subjects_by all.interfaces cs (map (λ c. c.node.program) cs) ≡ map (subject all) cs
subjects_are all [] = refl
subjects_are all (c ∷ rest) = ap (λ l. subject all c ∷ l) (subjects_are all rest)
