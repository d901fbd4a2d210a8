-- What is kept of leaves, one after the other.
use Rattle.std.proofs.Common.{◌≡◌, ◌<◌, ◌≤◌, ◌+◌, ℕ, List, [], ◌∷◌, ◌++◌, length, drop, get_or, map, Option, Some, None, refl, ap, sym, subst, ◌∙◌}
use Rattle.std.proofs.Common.{append_assoc, append-nil}
use Rattle.std.proofs.Math.ListN.{drop_of_length-le}
use Rattle.gq_model.specs.machine.Amounts.{Amount}
use Rattle.gq_model.specs.machine.Lists.{or_first}
use Rattle.gq_model.specs.machine.Scenario.{Interfaces, Component}
use Rattle.gq_model.specs.rules.Accept.{Refusal}
use Rattle.gq_model.specs.rules.Use.{services}
use Rattle.gq_budget.specs.Leaf_section_counts.{Counted, IsCountOf, AreCountsOf}
use Rattle.gq_load.specs.Load.{LoadRefusal, refused}
use Rattle.gq_load.specs.Load_faults.{PrintsFault}
use Rattle.gq_load.specs.internal.Judged_programs.{judged_by}
use Rattle.gq_load.specs.internal.Counted_leaves.{counted_leaves}
use Rattle.gq_load.specs.internal.Surveys.{own_of, leaf_by, AreSurveys}
use Rattle.gq_load.specs.declared.load_fault.LoadError.{LoadError}
use Rattle.gq_load.specs.declared.load_fault.LoadError.TheVariants as error
use Rattle.gq_load.proofs.Sequential_leaf_loading.{here_is}

-- what is kept of the first leaves, with what there is to keep of those that are left, is all
pub record AreFirst (i : Interfaces) (all left : List Component) (os : List Amount) (ns : List Counted) (names : List (List (List ℕ))) : Type 0 where
  pub owns : os ++ map (λ c. own_of (judged_by i c)) left ≡ map (λ c. own_of (judged_by i c)) all
  pub counted : (more : List Counted) → AreCountsOf more (counted_leaves i left) → AreCountsOf (ns ++ more) (counted_leaves i all)
  pub opened : names ++ map services left ≡ map services all

pub of_none : (i : Interfaces) (all : List Component) (owns : List Amount) (counted : List Counted) (opened : List (List (List ℕ))) → owns ≡ [] → counted ≡ []
    → opened ≡ [] → AreFirst i all all owns counted opened
of_none i all owns counted opened e f g = rw (e, f, g) (record { owns = refl; counted = λ more h. h; opened = refl })

put : {A : Type 0} (made made' rest all : List A) (x : A) → made' ≡ made ++ x ∷ [] → made ++ x ∷ rest ≡ all → made' ++ rest ≡ all
put made made' rest all x is e = ap (λ l. l ++ rest) is ∙ (append_assoc made (x ∷ []) rest ∙ e)

-- with one more
one_more : (i : Interfaces) (all rest : List Component) (c : Component) (owns owns' : List Amount) (counted counted' : List Counted)
    (opened opened' : List (List (List ℕ))) (own : Amount) (n : Counted) (names : List (List ℕ)) → own ≡ own_of (judged_by i c) → IsCountOf n (leaf_by i c)
    → names ≡ services c → owns' ≡ owns ++ own ∷ [] → counted' ≡ counted ++ n ∷ [] → opened' ≡ opened ++ names ∷ []
    → AreFirst i all (c ∷ rest) owns counted opened → AreFirst i all rest owns' counted' opened'
one_more i all rest c owns owns' counted counted' opened opened' own n names o k s e f g h = record {
  owns = put owns owns' (map (λ c. own_of (judged_by i c)) rest) (map (λ c. own_of (judged_by i c)) all) (own_of (judged_by i c))
      (e ∙ ap (λ x. owns ++ x ∷ []) o) h.owns;
  counted = λ more m.
      subst (λ (l : List Counted). AreCountsOf l (counted_leaves i all))
      (sym (ap (λ (l : List Counted). l ++ more) f ∙ append_assoc counted (n ∷ []) more)) (h.counted (n ∷ more) (k, m));
  opened = put opened opened' (map services rest) (map services all) (services c) (g ∙ ap (λ x. opened ++ x ∷ []) s) h.opened;
}

pub surveyed_on : (i : Interfaces) (all : List Component) (place : ℕ) (c : Component) (owns owns' : List Amount) (counted counted' : List Counted)
    (opened opened' : List (List (List ℕ))) (own : Amount) (n : Counted) (names : List (List ℕ)) → place < length all → c ≡ get_or all place c
    → own ≡ own_of (judged_by i c) → IsCountOf n (leaf_by i c)
    → names ≡ services c → owns' ≡ owns ++ own ∷ [] → counted' ≡ counted ++ n ∷ [] → opened' ≡ opened ++ names ∷ []
    → AreFirst i all (drop place all) owns counted opened → AreFirst i all (drop (place + 1) all) owns' counted' opened'
surveyed_on i all place c owns owns' counted counted' opened opened' own n names less is o k s e f g h =
    one_more i all (drop (place + 1) all) c owns owns' counted counted' opened opened' own n names o k s e f g
    (subst (λ (left : List Component). AreFirst i all left owns counted opened) (here_is all place c less is) h)

pub surveyed_end : (i : Interfaces) (all : List Component) (place : ℕ) (owns : List Amount) (counted : List Counted) (opened : List (List (List ℕ)))
    → length all ≤ place → AreFirst i all (drop place all) owns counted opened → AreSurveys i all owns counted opened
surveyed_end i all place owns counted opened past h =
    let none : drop place all ≡ [] = drop_of_length-le all past in
    let g = subst (λ (left : List Component). AreFirst i all left owns counted opened) none h in
    record {
      owns = sym (append-nil owns) ∙ g.owns;
      counted = subst (λ (l : List Counted). AreCountsOf l (counted_leaves i all)) (append-nil counted) (g.counted [] tt);
      opened = sym (append-nil opened) ∙ g.opened;
    }

-- RULES

-- an error for the texts and codes, or for one rule, is one for them or the first rule
pub gives_either : (e : LoadError) (o : Option LoadRefusal) (a b : Option Refusal) → PrintsFault e (or_first o (refused a))
    → PrintsFault e (or_first o (refused (or_first a b)))
gives_either error.Memory o a b h = tt
gives_either (error.Fault f) None None b h = absurd h
gives_either (error.Fault f) None (Some why) b h = h
gives_either (error.Fault f) (Some fault) a b h = h
