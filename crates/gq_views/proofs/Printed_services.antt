-- The services that leaves open, each once, with their servers.
use Rattle.std.proofs.Common.{◌≡◌, ◌∙◌, ℕ, ◌<◌, ◌≤◌, Bool, true, false, ◌||◌, cond, List, [], ◌∷◌, ◌++◌, length, map, get_or, Option, Some}
use Rattle.std.proofs.Common.{None, ◌+◌, append_assoc, drop, subst}
use Rattle.std.proofs.Common.{codes, option_map, ap, sym, refl}
use Rattle.std.specs.Prelude.{slice_get, if◌then◌else◌}
use Rattle.std.proofs.lemmas.List.{map-append}
use Rattle.std.proofs.lemmas.Option.{slice_get-get_or, slice_get-map, slice_get_past}
use Rattle.gq_model.specs.machine.Lists.{any_of}
use Rattle.gq_model.specs.machine.Program.{text_eq}
use Rattle.gq_model.specs.machine.Scenario.{Component, Scenario, components, system}
use Rattle.gq_model.specs.machine.Routes.{server_of}
use Rattle.gq_model.specs.rules.Use.{services}
use Rattle.gq_resolve.specs.Served.{once, without}
use Rattle.gq_resolve.proofs.Mapped_list_growth.{next_is}
use Rattle.gq_views.specs.internal.Opened_services.{opened_among, opened_at, opened_by, opened_by_all, opened_by_table, opened_of, opens_of}
use Rattle.gq_views.specs.internal.Table_leaves.{LeafOfAll}
use Rattle.gq_views.specs.Listing.{line}
use Rattle.gq_views.specs.Tree.{first_of_each, leaf_opens, opens_lines, server_label}
use Rattle.gq_views.proofs.Table_leaf_servers.{AreAmong, among_once, among_self, served_each}

-- EACH ONCE

-- those of these that are not among others
abbrev not_in : List (List ℕ) → List (List ℕ) → List (List ℕ)
not_in before [] = []
not_in before (s ∷ rest) = (if any_of (text_eq s) before then [] else s ∷ []) ++ not_in before rest

not_in_both : (b c : Bool) (s x : List ℕ) (before l : List (List ℕ)) → c ≡ any_of (text_eq s) before → b ≡ text_eq s x
    → not_in (x ∷ before) l ≡ not_in before (without x l)
    → (if b || c then [] else s ∷ []) ++ not_in (x ∷ before) l ≡ not_in before (cond b (without x l) (s ∷ without x l))
not_in_both true c s x before l e f h = h
not_in_both false c s x before l e f h = ap (λ t. (if c then [] else s ∷ []) ++ t) h ∙ ap (λ d. (if d then [] else s ∷ []) ++ not_in before (without x l)) e

-- one service more among the others
one_more : (x : List ℕ) (before l : List (List ℕ)) → not_in (x ∷ before) l ≡ not_in before (without x l)
one_more x before [] = refl
one_more x before (s ∷ l) = not_in_both (text_eq s x) (any_of (text_eq s) before) s x before l refl refl (one_more x before l)

none_before : (l : List (List ℕ)) → not_in [] l ≡ l
none_before [] = refl
none_before (s ∷ l) = ap (λ t. s ∷ t) (none_before l)

firsts : (before l : List (List ℕ)) → first_of_each before l ≡ not_in before (once l)
firsts before [] = refl
firsts before (s ∷ l) =
    ap (λ t. (if any_of (text_eq s) before then [] else s ∷ []) ++ t) (firsts (s ∷ before) l ∙ one_more s before (once l))

-- each service, where it stands first, is what is kept of each once
pub each_first : (l : List (List ℕ)) → once l ≡ first_of_each [] l
each_first l = sym (firsts [] l ∙ none_before (once l))

-- BY LEAVES

-- what the table has of the services that a leaf opens, each once
pub opened_listed : (l : LeafOfAll) → opened_by_table l (first_of_each [] (services l.component)) ≡ opened_by l.all l.component
opened_listed l =
    let all = services l.component in
    served_each (λ s o. (s, o)) l (first_of_each [] all) (subst (AreAmong all) (each_first all) (among_once all all (among_self all)))

-- one leaf more
pub opened_put : {V : Type 0} (f : V → List (List ℕ × Option ℕ)) (all : List Component) (i : ℕ) (c : Component) → i < length all → c ≡ get_or all i c
    → (old new : List V) (v : V) → new ≡ old ++ v ∷ [] → f v ≡ opened_by all c
    → map f new ++ opened_by_all all (drop (i + 1) all) ≡ map f old ++ opened_by_all all (drop i all)
opened_put f all i c within is old new v put made =
    let left = opened_by_all all (drop (i + 1) all) in
    ap (λ l. map f l ++ left) put
    ∙ ap (λ l. l ++ left) (map-append f old (v ∷ []))
    ∙ append_assoc (map f old) (f v ∷ []) left
    ∙ ap (λ o. map f old ++ o ∷ left) made
    ∙ ap (λ l. map f old ++ opened_by_all all l) (sym (next_is all i c within is))

opened_is : {V : Type 0} (f : V → List (List ℕ × Option ℕ)) (vs : List V) (s : Scenario) (x : ℕ)
    → map f vs ≡ opened_by_all (components s) (components s)
    → option_map f (slice_get vs x) ≡ option_map (opened_by (components s)) (slice_get (components s) x)
opened_is f vs s x e =
    sym (slice_get-map f vs x) ∙ (ap (λ l. slice_get l x) e ∙ slice_get-map (opened_by (components s)) (components s) x)

-- the list of a leaf that is there, and none past the last
module _ {V : Type 0} (f : V → List (List ℕ × Option ℕ)) (vs : List V) (s : Scenario) (x : ℕ)
    (made : map f vs ≡ opened_by_all (components s) (components s)) where
  there : (v : V) (c : Option Component) → slice_get vs x ≡ Some v → option_map f (slice_get vs x) ≡ option_map (opened_by (components s)) c
      → f v ≡ opened_of (components s) c
  there v None is e = let none : Some (f v) ≡ None = ap (option_map f) (sym is) ∙ e in absurd cc
  there v (Some c) is e = let same : Some (f v) ≡ Some (opened_by (components s) c) = ap (option_map f) (sym is) ∙ e in cc

  nowhere : (c : Option Component) → slice_get vs x ≡ None → option_map f (slice_get vs x) ≡ option_map (opened_by (components s)) c
      → [] ≡ opened_of (components s) c
  nowhere None is e = refl
  nowhere (Some c) is e = let some : None ≡ Some (opened_by (components s) c) = ap (option_map f) (sym is) ∙ e in absurd cc

  pub opened_there : (v : V) → x < length vs → v ≡ get_or vs x v → f v ≡ opened_at s x
  opened_there v h e =
      there v (slice_get (components s) x) (slice_get-get_or vs x v h ∙ ap Some (sym e)) (opened_is f vs s x made)

  pub opened_nowhere : length vs ≤ x → [] ≡ opened_at s x
  opened_nowhere h = nowhere (slice_get (components s) x) (slice_get_past vs x h) (opened_is f vs s x made)

-- THE LINES OF THE SERVICES OF A LEAF

opens_listed : (d : ℕ) (s : Scenario) (c : Component) (l : List (List ℕ))
    → opens_of d (system s) (opened_among (components s) c l) ≡ opens_lines d (system s) c l
opens_listed d s c [] = refl
opens_listed d s c (service ∷ l) =
    ap (λ t. line d (codes "opens " ++ service ++ codes " of " ++ server_label (system s) (server_of (system s) c service)) ++ t) (opens_listed d s c l)

opens_of_one : (d : ℕ) (s : Scenario) (c : Option Component) → opens_of d (system s) (opened_of (components s) c) ≡ leaf_opens d (system s) c
opens_of_one d s None = refl
opens_of_one d s (Some c) = opens_listed d s c (first_of_each [] (services c))

pub opens_printed : (d : ℕ) (s : Scenario) (x : ℕ) → opens_of d (system s) (opened_at s x) ≡ leaf_opens d (system s) (slice_get (components s) x)
opens_printed d s x = opens_of_one d s (slice_get (components s) x)
