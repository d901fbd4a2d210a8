-- The servers that a table has of a leaf are those of the services that its program opens.
use Rattle.std.proofs.Common.{◌≡◌, ℕ, zero, suc, ◌<◌, Bool, true, false, ◌||◌, cond, List, [], ◌∷◌, ◌++◌, length, get_or, map, Option, None}
use Rattle.std.proofs.Common.{refl, ap, ◌∙◌, arith}
use Rattle.gq_model.specs.machine.Lists.{any_of}
use Rattle.gq_model.specs.machine.Program.{text_eq}
use Rattle.gq_model.specs.machine.Scenario.{Scenario, components}
use Rattle.gq_model.specs.rules.Use.{services}
use Rattle.gq_model.proofs.Small_facts.{text_self}
use Rattle.gq_resolve.specs.Served.{once, server_among, without}
use Rattle.gq_views.specs.internal.Table_leaves.{LeafOfAll, leaf_of, no_component, served_by}

-- LEAVES

pub get_same : {A : Type 0} (xs : List A) (i : ℕ) (a b : A) → i < length xs → get_or xs i a ≡ get_or xs i b
get_same [] i a b less = absurd (omega (arith, less))
get_same (x ∷ xs) zero a b less = refl
get_same (x ∷ xs) (suc i) a b less = get_same xs i a b (omega (arith, less))

-- this is the n-th leaf of a scenario
pub record IsLeafAt (s : Scenario) (l : LeafOfAll) (n : ℕ) : Type 0 where
  pub all : l.all ≡ components s
  pub within : n < length (components s)
  pub is : l.component ≡ get_or (components s) n l.component

pub leaf_there : (s : Scenario) (l : LeafOfAll) (x n count : ℕ) → l ≡ leaf_of s x → x ≡ n → count ≡ length (components s) → n < count → IsLeafAt s l n
leaf_there s l x n count made same all less =
    let within : n < length (components s) = omega (arith, less, all) in
    record {
      all = ap (λ (k : LeafOfAll). k.all) made;
      within = within;
      is = ap (λ (k : LeafOfAll). k.component) made ∙ ap (λ i. get_or (components s) i no_component) same
          ∙ get_same (components s) n no_component l.component within;
    }

-- SERVICES

-- each of these services is among others
abbrev pub AreAmong : List (List ℕ) → List (List ℕ) → Type 0
AreAmong all [] = Unit {0}
AreAmong all (s ∷ rest) = (any_of (text_eq s) all ≡ true) × AreAmong all rest

or_right : (a b : Bool) → b ≡ true → (a || b) ≡ true
or_right true b e = refl
or_right false b e = e

among_more : (all : List (List ℕ)) (x : List ℕ) (l : List (List ℕ)) → AreAmong all l → AreAmong (x ∷ all) l
among_more all x [] h = tt
among_more all x (s ∷ l) h = (or_right (text_eq s x) (any_of (text_eq s) all) h.0, among_more all x l h.1)

pub among_self : (l : List (List ℕ)) → AreAmong l l
among_self [] = tt
among_self (s ∷ l) = (ap (λ b. b || any_of (text_eq s) l) (text_self s), among_more l s l (among_self l))

-- those of the first list of two, and those of the second
pub among_parts : (all a b : List (List ℕ)) → AreAmong all (a ++ b) → AreAmong all a × AreAmong all b
among_parts all [] b h = (tt, h)
among_parts all (s ∷ a) b h = let p = among_parts all a b h.1 in ((h.0, p.0), p.1)

among_without : (all : List (List ℕ)) (x : List ℕ) (l : List (List ℕ)) → AreAmong all l → AreAmong all (without x l)
among_without all x [] h = tt
among_without all x (s ∷ l) h = by (among_without all x l h.1) (text_eq s x)
  where
    by : AreAmong all (without x l) → (b : Bool) → AreAmong all (cond b (without x l) (s ∷ without x l))
    by later true = later
    by later false = (h.0, later)

pub among_once : (all l : List (List ℕ)) → AreAmong all l → AreAmong all (once l)
among_once all [] h = tt
among_once all (s ∷ l) h = (h.0, among_without all s (once l) (among_once all l h.1))

-- the server of a service that the leaf's program opens
pub served_is : (l : LeafOfAll) (service : List ℕ) → any_of (text_eq service) (services l.component) ≡ true
    → served_by l service ≡ server_among l.all l.component service
served_is l service e = ap (λ b. cond b (server_among l.all l.component service) None) e

-- those of services that it opens
pub served_each : {B : Type 0} (f : List ℕ → Option ℕ → B) (l : LeafOfAll) (ss : List (List ℕ)) → AreAmong (services l.component) ss
    → map (λ s. f s (served_by l s)) ss ≡ map (λ s. f s (server_among l.all l.component s)) ss
served_each f l [] h = refl
served_each f l (s ∷ ss) h = λ i. f s (served_is l s h.0 i) ∷ served_each f l ss h.1 i

pub served_any : (test : Option ℕ → Bool) (l : LeafOfAll) (ss : List (List ℕ)) → AreAmong (services l.component) ss
    → any_of (λ s. test (served_by l s)) ss ≡ any_of (λ s. test (server_among l.all l.component s)) ss
served_any test l [] h = refl
served_any test l (s ∷ ss) h = λ i. test (served_is l s h.0 i) || served_any test l ss h.1 i
