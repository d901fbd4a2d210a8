-- The leaves that code finds racy are those of the definition.
use Rattle.std.proofs.Common.{◌≡◌, ℕ, zero, suc, ◌+◌, ◌<◌, ◌==◌, inl, inr, Bool, true, false, ◌||◌, ◌&&◌, List, [], ◌∷◌, ◌++◌, length, get_or}
use Rattle.std.proofs.Common.{Option, Some, None, refl, ap, sym, ◌∙◌, subst, arith}
use Rattle.std.specs.Prelude.{if◌then◌else◌, slice_get}
use Rattle.std.proofs.lemmas.Bool.{or_cases}
use Rattle.std.proofs.lemmas.Bool.Decides.{eqb_tells}
use Rattle.gq_model.specs.declared.program.Instruction.{Instruction}
use Rattle.gq_model.specs.declared.section.Section.{Section}
use Rattle.gq_model.specs.machine.Lists.{any_of}
use Rattle.gq_model.specs.machine.Program.{Statements, Done, Do, If, Loop, size}
use Rattle.gq_model.specs.machine.Routes.{server_of}
use Rattle.gq_model.specs.machine.Scenario.{Component, System}
use Rattle.gq_model.specs.rules.Use.{is_there, reaches, services, used_at, used_from, uses}
use Rattle.gq_model.proofs.Small_facts.{get_within, none_some, some_same}
use Rattle.gq_races.specs.Races.{Stated, changes_own, each_stated, for_several, found_in, is_race, is_shared, stated_in, stated_of}
use Rattle.gq_outcomes.specs.Choices.{are_some, has_race, is_racy, leads_to_race, races_at, racy_from}
use Rattle.gq_outcomes.specs.internal.Racy.{both, changes_in, changes_later, is_marked, leading, uses_marked, with_race, with_users}

-- TESTS

or_left : (a b : Bool) → a ≡ true → (a || b) ≡ true
or_left true b e = refl
or_left false b e = absurd (cc e)

or_right : (a b : Bool) → b ≡ true → (a || b) ≡ true
or_right true b e = refl
or_right false b e = e

and_left : (a b : Bool) → (a && b) ≡ true → a ≡ true
and_left true b e = refl
and_left false b e = absurd (cc e)

and_right : (a b : Bool) → (a && b) ≡ true → b ≡ true
and_right true b e = e
and_right false b e = absurd (cc e)

and_both : (a b : Bool) → a ≡ true → b ≡ true → (a && b) ≡ true
and_both true b e f = f
and_both false b e f = absurd (cc e)

same : (a b : Bool) → (a ≡ true → b ≡ true) → (b ≡ true → a ≡ true) → a ≡ b
same true true f g = refl
same true false f g = sym (f refl)
same false true f g = g refl
same false false f g = refl

equal : (m n : ℕ) → (m == n) ≡ true → m ≡ n
equal m n e = elim (eqb_tells m n) [ inl t ↦ t.1 | inr t ↦ absurd (cc (e, t.0)) ]

itself : (n : ℕ) → (n == n) ≡ true
itself n = elim (eqb_tells n n) [ inl t ↦ t.0 | inr t ↦ absurd (t.1 refl) ]

-- SOME OF SOME LEAVES

-- one of these leaves, of which the first is the x-th, passes
abbrev any_from : (ℕ → Bool) → ℕ → List Component → Bool
any_from f x [] = false
any_from f x (c ∷ rest) = f x || any_from f (suc x) rest

record Passes (f : ℕ → Bool) (x n : ℕ) : Type 0 where
  at : ℕ
  less : at < n
  is : f (x + at) ≡ true

found : (f : ℕ → Bool) (x : ℕ) (cs : List Component) → any_from f x cs ≡ true → Passes f x (length cs)
found f x [] e = absurd (cc e)
found f x (c ∷ cs) e = elim (or_cases (f x) (any_from f (suc x) cs) e) [
  | inl a ↦ (let here : x ≡ x + 0 = omega arith in record { at = 0; less = omega arith; is = subst (λ j. f j ≡ true) here a })
  | inr a ↦ (let r = found f (suc x) cs a in let l = r.less in let there : suc x + r.at ≡ x + suc r.at = omega arith in
      record { at = suc r.at; less = omega (arith, l); is = subst (λ j. f j ≡ true) there r.is })
]

there : (f : ℕ → Bool) (x : ℕ) (cs : List Component) (i : ℕ) → i < length cs → f (x + i) ≡ true → any_from f x cs ≡ true
there f x [] i l e = absurd (omega (arith, l))
there f x (c ∷ cs) zero l e = let here : x + 0 ≡ x = omega arith in or_left (f x) (any_from f (suc x) cs) (subst (λ j. f j ≡ true) here e)
there f x (c ∷ cs) (suc i) l e =
    let on : x + suc i ≡ suc x + i = omega arith in
    or_right (f x) (any_from f (suc x) cs) (there f (suc x) cs i (omega (arith, l)) (subst (λ j. f j ≡ true) on e))

any_same : (f g : ℕ → Bool) (x : ℕ) (cs : List Component) → ((i : ℕ) → i < length cs → f (x + i) ≡ g (x + i)) → any_from f x cs ≡ any_from g x cs
any_same f g x [] h = refl
any_same f g x (c ∷ cs) h =
    let here : x + 0 ≡ x = omega arith in
    let first : f x ≡ g x = subst (λ j. f j ≡ g j) here (h 0 (omega arith)) in
    let others = any_same f g (suc x) cs (λ i l. let on : x + suc i ≡ suc x + i = omega arith in subst (λ j. f j ≡ g j) on (h (suc i) (omega (arith, l)))) in
    λ k. first k || others k

-- those of all leaves

record Passed (f : ℕ → Bool) (n : ℕ) : Type 0 where
  at : ℕ
  less : at < n
  is : f at ≡ true

plus_none : (i : ℕ) → 0 + i ≡ i
plus_none i = omega arith

found_all : (f : ℕ → Bool) (cs : List Component) → any_from f 0 cs ≡ true → Passed f (length cs)
found_all f cs e = let r = found f 0 cs e in record { at = r.at; less = r.less; is = subst (λ j. f j ≡ true) (plus_none r.at) r.is }

there_all : (f : ℕ → Bool) (cs : List Component) (i : ℕ) → i < length cs → f i ≡ true → any_from f 0 cs ≡ true
there_all f cs i l e = there f 0 cs i l (subst (λ j. f j ≡ true) (sym (plus_none i)) e)

same_all : (f g : ℕ → Bool) (cs : List Component) → ((i : ℕ) → i < length cs → f i ≡ g i) → any_from f 0 cs ≡ any_from g 0 cs
same_all f g cs h = any_same f g 0 cs (λ i l. subst (λ j. f j ≡ g j) (sym (plus_none i)) (h i l))

none : (f : ℕ → Bool) → ((y : ℕ) → f y ≡ false) → (x : ℕ) (cs : List Component) → any_from f x cs ≡ false
none f h x [] = refl
none f h x (c ∷ cs) = (λ k. h x k || any_from f (suc x) cs) ∙ none f h (suc x) cs

-- USES

-- some of the leaves that a component uses pass
used_any : (system : System) (c : Component) (f : ℕ → Bool) (x : ℕ) (cs : List Component)
    → any_of f (used_from system c x cs) ≡ any_from (λ z. uses system c z && f z) x cs
used_any system c f x [] = refl
used_any system c f x (d ∷ cs) = first (uses system c x) (used_from system c (suc x) cs) (used_any system c f (suc x) cs)
  where
    first : (u : Bool) (later : List ℕ) → any_of f later ≡ any_from (λ z. uses system c z && f z) (suc x) cs
        → any_of f ((if u then x ∷ [] else []) ++ later) ≡ ((u && f x) || any_from (λ z. uses system c z && f z) (suc x) cs)
    first true later e = ap (λ b. f x || b) e
    first false later e = e

in_list : (marks : List Bool) (y : ℕ) → get_or marks y false ≡ true → y < length marks
in_list [] y e = absurd (cc e)
in_list (m ∷ marks) zero e = omega arith
in_list (m ∷ marks) (suc y) e = let h = in_list marks y e in omega (arith, h)

record Leads {A : Type 0} (server : A → Option ℕ) (ss : List A) (marks : List Bool) : Type 0 where
  to : ℕ
  uses_it : any_of (λ s. is_there to (server s)) ss ≡ true
  marked : get_or marks to false ≡ true

leads : {A : Type 0} (server : A → Option ℕ) (ss : List A) (marks : List Bool) → any_of (λ s. is_marked marks (server s)) ss ≡ true → Leads server ss marks
leads server [] marks e = absurd (cc e)
leads server (s ∷ ss) marks e = elim (or_cases (is_marked marks (server s)) (any_of (λ s. is_marked marks (server s)) ss) e) [
  | inl a ↦ first (server s) refl a
  | inr a ↦ (let r = leads server ss marks a in
      record { to = r.to; uses_it = or_right (is_there r.to (server s)) (any_of (λ s. is_there r.to (server s)) ss) r.uses_it; marked = r.marked })
]
  where
    first : (o : Option ℕ) → server s ≡ o → is_marked marks o ≡ true → Leads server (s ∷ ss) marks
    first None is a = absurd (cc a)
    first (Some y) is a = record {
      to = y;
      uses_it = or_left (is_there y (server s)) (any_of (λ s. is_there y (server s)) ss) (ap (is_there y) is ∙ itself y);
      marked = a;
    }

back : {A : Type 0} (server : A → Option ℕ) (ss : List A) (marks : List Bool) (z : ℕ) → any_of (λ s. is_there z (server s)) ss ≡ true
    → get_or marks z false ≡ true → any_of (λ s. is_marked marks (server s)) ss ≡ true
back server [] marks z e m = absurd (cc e)
back server (s ∷ ss) marks z e m = elim (or_cases (is_there z (server s)) (any_of (λ s. is_there z (server s)) ss) e) [
  | inl a ↦ or_left (is_marked marks (server s)) (any_of (λ s. is_marked marks (server s)) ss) (first (server s) a)
  | inr a ↦ or_right (is_marked marks (server s)) (any_of (λ s. is_marked marks (server s)) ss) (back server ss marks z a m)
]
  where
    first : (o : Option ℕ) → is_there z o ≡ true → is_marked marks o ≡ true
    first None a = absurd (cc a)
    first (Some y) a = ap (λ j. get_or marks j false) (equal y z a) ∙ m

module _ (system : System) where
  abbrev all : List Component
  all = system.components

  abbrev H : ℕ → Bool
  H y = has_race system y

  -- the x-th leaf leads to one with a race, by at most k uses
  abbrev L : ℕ → ℕ → Bool
  L k x = any_from (λ y. reaches k system y x && H y) 0 all

  -- a component uses one that is marked
  marked_any : (c : Component) (marks : List Bool) → length marks ≡ length all
      → uses_marked all c marks ≡ any_from (λ z. uses system c z && get_or marks z false) 0 all
  marked_any c marks count =
      same (uses_marked all c marks) (any_from (λ z. uses system c z && get_or marks z false) 0 all)
      (λ e. let r = leads (server_of system c) (services c) marks e in
      let less = in_list marks r.to r.marked in
      there_all (λ z. uses system c z && get_or marks z false) all r.to (omega (arith, less, count))
      (and_both (uses system c r.to) (get_or marks r.to false) r.uses_it r.marked))
      (λ e. let r = found_all (λ z. uses system c z && get_or marks z false) all e in
      back (server_of system c) (services c) marks r.at (and_left (uses system c r.at) (get_or marks r.at false) r.is)
      (and_right (uses system c r.at) (get_or marks r.at false) r.is))

  -- a component uses the z-th, which is the y-th or reaches it
  abbrev near : ℕ → Component → ℕ → ℕ → Bool
  near k c y z = uses system c z && (z == y || reaches k system y z)

  -- a component uses the z-th, which has a race or leads to one
  abbrev far : ℕ → Component → ℕ → Bool
  far k c z = uses system c z && (H z || L k z)

  abbrev ends : ℕ → Component → ℕ → Bool
  ends k c y = any_from (near k c y) 0 all && H y

  use_on : (k : ℕ) (c : Component) → any_from (far k c) 0 all ≡ true → any_from (ends k c) 0 all ≡ true
  use_on k c e =
      let r = found_all (far k c) all e in
      let z = r.at in
      let u = and_left (uses system c z) (H z || L k z) r.is in
      elim (or_cases (H z) (L k z) (and_right (uses system c z) (H z || L k z) r.is)) [
        | inl h ↦ there_all (ends k c) all z r.less
            (and_both (any_from (near k c z) 0 all) (H z)
            (there_all (near k c z) all z r.less
            (and_both (uses system c z) (z == z || reaches k system z z) u (or_left (z == z) (reaches k system z z) (itself z)))) h)
        | inr later ↦
            let q = found_all (λ y. reaches k system y z && H y) all later in
            let y = q.at in
            there_all (ends k c) all y q.less
            (and_both (any_from (near k c y) 0 all) (H y)
            (there_all (near k c y) all z r.less
            (and_both (uses system c z) (z == y || reaches k system y z) u (or_right (z == y) (reaches k system y z) (and_left (reaches k system y z) (H y)
            q.is))))
            (and_right (reaches k system y z) (H y) q.is))
      ]

  use_off : (k : ℕ) (c : Component) → any_from (ends k c) 0 all ≡ true → any_from (far k c) 0 all ≡ true
  use_off k c e =
      let r = found_all (ends k c) all e in
      let y = r.at in
      let h = and_right (any_from (near k c y) 0 all) (H y) r.is in
      let q = found_all (near k c y) all (and_left (any_from (near k c y) 0 all) (H y) r.is) in
      let z = q.at in
      let u = and_left (uses system c z) (z == y || reaches k system y z) q.is in
      there_all (far k c) all z q.less
      (and_both (uses system c z) (H z || L k z) u
      (elim (or_cases (z == y) (reaches k system y z) (and_right (uses system c z) (z == y || reaches k system y z) q.is)) [
        | inl a ↦ or_left (H z) (L k z) (ap H (equal z y a) ∙ h)
        | inr a ↦ or_right (H z) (L k z) (there_all (λ y. reaches k system y z && H y) all y r.less (and_both (reaches k system y z) (H y) a h))
      ]))

  -- a use more
  use_more : (k : ℕ) (c : Component) → any_from (far k c) 0 all ≡ any_from (ends k c) 0 all
  use_more k c = same (any_from (far k c) 0 all) (any_from (ends k c) 0 all) (use_on k c) (use_off k c)

  reached : (k x : ℕ) (c : Component) → slice_get all x ≡ Some c
      → L (suc k) x ≡ any_from (ends k c) 0 all
  reached k x c e =
      same_all (λ y. reaches (suc k) system y x && H y) (ends k c) all
      (λ y l. ap (λ b. b && H y)
      (ap (λ o. any_of (λ z. z == y || reaches k system y z) (used_at system o)) e ∙ used_any system c (λ z. z == y || reaches k system y z) 0 all))

  -- LISTS

  users_count : (marked marks : List Bool) (x : ℕ) (cs : List Component) → length (with_users all marked marks x cs) ≡ length cs
  users_count marked marks x [] = refl
  users_count marked marks x (c ∷ cs) = ap suc (users_count marked marks (suc x) cs)

  users_at : (marked marks : List Bool) (x : ℕ) (cs : List Component) (i : ℕ) (c : Component) → slice_get cs i ≡ Some c
      → get_or (with_users all marked marks x cs) i false ≡ (get_or marked (x + i) false || uses_marked all c marks)
  users_at marked marks x [] i c e = absurd (none_some e)
  users_at marked marks x (d ∷ cs) zero c e =
      let here : x ≡ x + 0 = omega arith in λ k. get_or marked (here k) false || uses_marked all (some_same e k) marks
  users_at marked marks x (d ∷ cs) (suc i) c e =
      let on : suc x + i ≡ x + suc i = omega arith in
      users_at marked marks (suc x) cs i c e ∙ ap (λ j. get_or marked j false || uses_marked all c marks) on

  leading_count : (marked : List Bool) → length marked ≡ length all → (k : ℕ) → length (leading k all marked) ≡ length all
  leading_count marked count zero = count
  leading_count marked count (suc k) = users_count marked (leading k all marked) 0 all

  leading_is : (marked : List Bool) → length marked ≡ length all → ((y : ℕ) → y < length all → get_or marked y false ≡ H y)
      → (k x : ℕ) → x < length all → get_or (leading k all marked) x false ≡ (H x || L k x)
  leading_is marked count is zero x l =
      is x l ∙ alone (H x) ∙ ap (λ b. H x || b) (sym (none (λ y. reaches 0 system y x && H y) (λ y. refl) 0 all))
    where
      alone : (a : Bool) → a ≡ (a || false)
      alone true = refl
      alone false = refl
  leading_is marked count is (suc k) x l =
      let c = get_within all x l in
      let marks = leading k all marked in
      users_at marked marks 0 all x c.0 c.1
      ∙ ap (λ j. get_or marked j false || uses_marked all c.0 marks) (plus_none x)
      ∙ (λ j. is x l j || uses_marked all c.0 marks)
      ∙ ap (λ b. H x || b) (marked_any c.0 marks (leading_count marked count k)
      ∙ same_all (λ z. uses system c.0 z && get_or marks z false) (far k c.0) all
      (λ z less. ap (λ b. uses system c.0 z && b) (leading_is marked count is k z less))
      ∙ use_more k c.0 ∙ sym (reached k x c.0 c.1))

  led : (n x y : ℕ) (cs : List Component) → any_from (λ z. reaches (length all) system z x && H z) y cs ≡ leads_to_race system x y cs
  led n x y [] = refl
  led n x y (c ∷ cs) = ap (λ b. reaches (length all) system y x && H y || b) (led n x (suc y) cs)

  both_is : (x : ℕ) (cs : List Component) (xs ys : List Bool) → length xs ≡ length cs → length ys ≡ length cs
      → ((i : ℕ) → i < length cs → (get_or xs i false && get_or ys i false) ≡ is_racy system (x + i)) → both xs ys ≡ racy_from system x cs
  both_is x [] [] ys n m h = refl
  both_is x [] (a ∷ xs) ys n m h = absurd (omega (arith, n))
  both_is x (c ∷ cs) [] ys n m h = absurd (omega (arith, n))
  both_is x (c ∷ cs) (a ∷ xs) [] n m h = absurd (omega (arith, m))
  both_is x (c ∷ cs) (a ∷ xs) (b ∷ ys) n m h =
      let here : x + 0 ≡ x = omega arith in
      let first : (a && b) ≡ is_racy system x = h 0 (omega arith) ∙ ap (is_racy system) here in
      let others = both_is (suc x) cs xs ys (omega (arith, n)) (omega (arith, m))
      (λ i l. let on : x + suc i ≡ suc x + i = omega arith in h (suc i) (omega (arith, l)) ∙ ap (is_racy system) on) in
      λ k. first k ∷ others k

-- RACES

abbrev some : {A : Type 0} → List A → Bool
some [] = false
some (a ∷ more) = true

some_append : {A : Type 0} (a b : List A) → some (a ++ b) ≡ (some a || some b)
some_append [] b = refl
some_append (x ∷ a) b = refl

stated_append : (a b : List Stated) → are_some (a ++ b) ≡ (are_some a || are_some b)
stated_append [] b = refl
stated_append (x ∷ a) b = refl

each_some : (leaf : List ℕ) (section : Section) (cs : List (ℕ × Instruction)) → are_some (each_stated leaf section cs) ≡ some cs
each_some leaf section [] = refl
each_some leaf section (c ∷ cs) = refl

one_some : (n : ℕ) (i : Instruction) (b : Bool) → (let c : ℕ × Instruction = (n, i) in some (if b then c ∷ [] else [])) ≡ b
one_some n i true = refl
one_some n i false = refl

three : (a b c : Bool) → ((a || b) || c) ≡ (a || b || c)
three true b c = refl
three false true c = refl
three false false c = refl

some_three : {A : Type 0} (a b c : List A) → some (a ++ b ++ c) ≡ ((some a || some b) || some c)
some_three [] [] c = refl
some_three [] (y ∷ b) c = refl
some_three (x ∷ a) b c = refl

changes_found : (n : ℕ) (st : Statements) → some (found_in (is_race true) n st) ≡ changes_in st
changes_found n Done = refl
changes_found n (Do i rest) =
    (let c : ℕ × Instruction = (n, i) in some_append (if changes_own i then c ∷ [] else []) (found_in (is_race true) (suc n) rest))
    ∙ (λ k. one_some n i (changes_own i) k || changes_found (suc n) rest k)
changes_found n (If arm other rest) =
    some_three (found_in (is_race true) (suc n) arm) (found_in (is_race true) (suc n + size arm) other) (found_in (is_race true) (suc n + size arm
    + size other) rest)
    ∙ (λ k. (changes_found (suc n) arm k || changes_found (suc n + size arm) other k) || changes_found (suc n + size arm + size other) rest k)
    ∙ three (changes_in arm) (changes_in other) (changes_in rest)
changes_found n (Loop count body rest) =
    some_append (found_in (is_race true) (suc n) body) (found_in (is_race true) (suc n + size body) rest)
    ∙ (λ k. changes_found (suc n) body k || changes_found (suc n + size body) rest k)

none_found : (n : ℕ) (st : Statements) → some (found_in (is_race false) n st) ≡ false
none_found n Done = refl
none_found n (Do i rest) = none_found (suc n) rest
none_found n (If arm other rest) =
    some_three (found_in (is_race false) (suc n) arm) (found_in (is_race false) (suc n + size arm) other) (found_in (is_race false) (suc n + size
    arm + size other) rest)
    ∙ (λ k. (none_found (suc n) arm k || none_found (suc n + size arm) other k) || none_found (suc n + size arm + size other) rest k)
none_found n (Loop count body rest) =
    some_append (found_in (is_race false) (suc n) body) (found_in (is_race false) (suc n + size body) rest)
    ∙ (λ k. none_found (suc n) body k || none_found (suc n + size body) rest k)

section_found : (several : Bool) (st : Statements) → some (found_in (is_race several) 1 st) ≡ (several && changes_in st)
section_found true st = changes_found 1 st
section_found false st = none_found 1 st

sections_found : (label : List ℕ) (sections : List (Section × Statements))
    → are_some (stated_in (λ section. is_race (for_several true section)) label sections) ≡ changes_later sections
sections_found label [] = refl
sections_found label (p ∷ rest) =
    stated_append (each_stated label p.0 (found_in (is_race (for_several true p.0)) 1 p.1)) (stated_in (λ section. is_race (for_several true section))
    label rest)
    ∙ (λ k. (each_some label p.0 (found_in (is_race (for_several true p.0)) 1 p.1) ∙ section_found (for_several true p.0) p.1) k || sections_found label
    rest k)

none_stated : (label : List ℕ) (sections : List (Section × Statements))
    → are_some (stated_in (λ section. is_race (for_several false section)) label sections) ≡ false
none_stated label [] = refl
none_stated label (p ∷ rest) =
    stated_append (each_stated label p.0 (found_in (is_race false) 1 p.1)) (stated_in (λ section. is_race (for_several false section)) label rest)
    ∙ (λ k. (each_some label p.0 (found_in (is_race false) 1 p.1) ∙ none_found 1 p.1) k || none_stated label rest k)

race_is : (shared : Bool) (c : Component) → are_some (stated_of is_race shared c) ≡ (shared && changes_later c.node.program.sections)
race_is true c = sections_found c.label c.node.program.sections
race_is false c = none_stated c.label c.node.program.sections

-- ALL TOGETHER

pub race_count : (shared : List Bool) (x : ℕ) (cs : List Component) → length (with_race shared x cs) ≡ length cs
race_count shared x [] = refl
race_count shared x (c ∷ cs) = ap suc (race_count shared (suc x) cs)

race_at : (shared : List Bool) (x : ℕ) (cs : List Component) (i : ℕ) (c : Component) → slice_get cs i ≡ Some c
    → get_or (with_race shared x cs) i false ≡ (get_or shared (x + i) false && changes_later c.node.program.sections)
race_at shared x [] i c e = absurd (none_some e)
race_at shared x (d ∷ cs) zero c e =
    let here : x ≡ x + 0 = omega arith in λ k. get_or shared (here k) false && changes_later (some_same e k).node.program.sections
race_at shared x (d ∷ cs) (suc i) c e =
    let on : suc x + i ≡ x + suc i = omega arith in
    race_at shared (suc x) cs i c e ∙ ap (λ j. get_or shared j false && changes_later c.node.program.sections) on

has_race_is : (system : System) (shared : List Bool) → ((x : ℕ) → x < length system.components → get_or shared x false ≡ is_shared system x)
    → (y : ℕ) → y < length system.components → get_or (with_race shared 0 system.components) y false ≡ has_race system y
has_race_is system shared h y l =
    let c = get_within system.components y l in
    race_at shared 0 system.components y c.0 c.1
    ∙ ap (λ j. get_or shared j false && changes_later c.0.node.program.sections) (plus_none y)
    ∙ ap (λ b. b && changes_later c.0.node.program.sections) (h y l)
    ∙ sym (race_is (is_shared system y) c.0) ∙ ap (races_at (is_shared system y)) (sym c.1)

-- the leaves that code finds are racy
pub racy_is : (system : System) (shared : List Bool) → length shared ≡ length system.components
    → ((x : ℕ) → x < length system.components → get_or shared x false ≡ is_shared system x)
    → both shared (leading (length system.components) system.components (with_race shared 0 system.components)) ≡ racy_from system 0 system.components
racy_is system shared count h =
    let cs = system.components in
    let marked = with_race shared 0 cs in
    let marked_count = race_count shared 0 cs in
    both_is system 0 cs shared (leading (length cs) cs marked) count (leading_count system marked marked_count (length cs))
    (λ i l. (λ k. h i l k && leading_is system marked marked_count (has_race_is system shared h) (length cs) i l k)
    ∙ ap (λ b. is_shared system i && (has_race system i || b)) (led system (length cs) i 0 cs)
    ∙ ap (is_racy system) (sym (plus_none i)))
