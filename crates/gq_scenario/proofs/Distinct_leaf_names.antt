-- Where no name of a tree stands twice, no two of its leaves have the same name.
use Rattle.std.proofs.Common.{◌≡◌, ℕ, zero, suc, cond, Bool, true, false, List, [], ◌∷◌, ◌++◌, map, Some, None, refl, ap, sym, ◌∙◌, subst}
use Rattle.std.specs.Prelude.{slice_get}
use Rattle.gq_model.specs.machine.Lists.{any_of}
use Rattle.gq_model.specs.machine.Program.{text_eq}
use Rattle.gq_model.specs.machine.Scenario.{LeafNode, Nodes, End, Leaf_node, Init_node, Scenario, Component, components}
use Rattle.gq_scenario.specs.Document.{names_of, name_twice}
use Rattle.gq_scenario.specs.Table_keys.{NameTwice}
use Rattle.gq_scenario.specs.Sizes.{leaves_in}
use Rattle.gq_scenario.proofs.Preorder_leaves.{components-leaves_in}
use Rattle.gq_model.proofs.Small_facts.{none_some, some_same}
use Rattle.gq_model.proofs.Small_facts.{text_self}
use Rattle.std.proofs.lemmas.Bool.{or_parts, true≢false}

-- so it is for each of these
abbrev Each : (List ℕ → Type 0) → List (List ℕ) → Type 0
Each P [] = Unit {0}
Each P (a ∷ rest) = P a × Each P rest

-- each of these is another than the ones before it
abbrev Other : List ℕ → List ℕ → Type 0
Other a b = text_eq b a ≡ false

abbrev Differ : List (List ℕ) → Type 0
Differ [] = Unit {0}
Differ (name ∷ rest) = Each (Other name) rest × Differ rest

some_none : {A : Type 0} (a : A) → Some a ≡ None → ⊥
some_none a e = absurd (none_some (sym e))

-- where none stands twice, they differ, and none was seen before
differ_by : (seen names : List (List ℕ)) → name_twice seen names ≡ None → Differ names × Each (λ n. any_of (text_eq n) seen ≡ false) names
differ_by seen [] e = (tt, tt)
differ_by seen (name ∷ rest) e = by (any_of (text_eq name) seen) refl e (λ f. differ_by (name ∷ seen) rest f)
  where
    split : (ns : List (List ℕ)) → Each (λ n. any_of (text_eq n) (name ∷ seen) ≡ false) ns
        → Each (Other name) ns × Each (λ n. any_of (text_eq n) seen ≡ false) ns
    split [] h = (tt, tt)
    split (n ∷ ns) h = let p = or_parts (text_eq n name) (any_of (text_eq n) seen) h.0 in let r = split ns h.1 in ((p.0, r.0), (p.1, r.1))

    by : (b : Bool) → any_of (text_eq name) seen ≡ b → cond b (Some (NameTwice name)) (name_twice (name ∷ seen) rest) ≡ None
        → (name_twice (name ∷ seen) rest ≡ None → Differ rest × Each (λ n. any_of (text_eq n) (name ∷ seen) ≡ false) rest)
        → Differ (name ∷ rest) × Each (λ n. any_of (text_eq n) seen ≡ false) (name ∷ rest)
    by true same f further = absurd (some_none (NameTwice name) f)
    by false other f further = let r = further f in let p = split rest r.1 in ((p.0, r.0), (other, p.1))

-- OF TWO LISTS

each_left : (P : List ℕ → Type 0) (xs ys : List (List ℕ)) → Each P (xs ++ ys) → Each P xs
each_left P [] ys h = tt
each_left P (x ∷ xs) ys h = (h.0, each_left P xs ys h.1)

each_right : (P : List ℕ → Type 0) (xs ys : List (List ℕ)) → Each P (xs ++ ys) → Each P ys
each_right P [] ys h = h
each_right P (x ∷ xs) ys h = each_right P xs ys h.1

each_both : (P : List ℕ → Type 0) (xs ys : List (List ℕ)) → Each P xs → Each P ys → Each P (xs ++ ys)
each_both P [] ys h k = k
each_both P (x ∷ xs) ys h k = (h.0, each_both P xs ys h.1 k)

-- each of the first differs from each of the second
abbrev Apart : List (List ℕ) → List (List ℕ) → Type 0
Apart xs ys = Each (λ x. Each (Other x) ys) xs

differ_parts : (xs ys : List (List ℕ)) → Differ (xs ++ ys) → Differ xs × Differ ys × Apart xs ys
differ_parts [] ys h = (tt, h, tt)
differ_parts (x ∷ xs) ys h = let r = differ_parts xs ys h.1 in ((each_left (Other x) xs ys h.0, r.0), r.1, (each_right (Other x) xs ys h.0, r.2))

differ_both : (xs ys : List (List ℕ)) → Differ xs → Differ ys → Apart xs ys → Differ (xs ++ ys)
differ_both [] ys h k a = k
differ_both (x ∷ xs) ys h k a = (each_both (Other x) xs ys h.0 a.0, differ_both xs ys h.1 k a.1)

-- THE LEAVES OF A TREE

abbrev names : List LeafNode → List (List ℕ)
names = map (λ n. n.name)

names_append : (xs ys : List LeafNode) → names (xs ++ ys) ≡ names xs ++ names ys
names_append [] ys = refl
names_append (x ∷ xs) ys = ap (λ l. x.name ∷ l) (names_append xs ys)

-- what holds of each name holds of each leaf's
leaves_each : (P : List ℕ → Type 0) (nodes : Nodes) → Each P (names_of nodes) → Each P (names (leaves_in nodes))
leaves_each P End h = tt
leaves_each P (Leaf_node node rest) h = (h.0, leaves_each P rest h.1)
leaves_each P (Init_node node children rest) h =
    subst (Each P) (sym (names_append (leaves_in children) (leaves_in rest)))
    (each_both P (names (leaves_in children)) (names (leaves_in rest)) (leaves_each P children (each_left P (names_of children) (names_of rest) h.1))
    (leaves_each P rest (each_right P (names_of children) (names_of rest) h.1)))

each_map : {P Q : List ℕ → Type 0} (xs : List (List ℕ)) → ((x : List ℕ) → P x → Q x) → Each P xs → Each Q xs
each_map [] f h = tt
each_map (x ∷ xs) f h = (f x h.0, each_map xs f h.1)

leaves_differ : (nodes : Nodes) → Differ (names_of nodes) → Differ (names (leaves_in nodes))
leaves_differ End h = tt
leaves_differ (Leaf_node node rest) h = (leaves_each (Other node.name) rest h.0, leaves_differ rest h.1)
leaves_differ (Init_node node children rest) h =
    let p = differ_parts (names_of children) (names_of rest) h.1 in
    let apart : Apart (names (leaves_in children)) (names (leaves_in rest)) =
    leaves_each (λ x. Each (Other x) (names (leaves_in rest))) children (each_map (names_of children) (λ x g. leaves_each (Other x) rest g) p.2) in
    subst Differ (sym (names_append (leaves_in children) (leaves_in rest)))
    (differ_both (names (leaves_in children)) (names (leaves_in rest)) (leaves_differ children p.0) (leaves_differ rest p.1) apart)

-- PLACES

each_at : (P : List ℕ → Type 0) (xs : List (List ℕ)) (i : ℕ) (x : List ℕ) → Each P xs → slice_get xs i ≡ Some x → P x
each_at P [] i x h e = absurd (none_some e)
each_at P (y ∷ xs) zero x h e = subst P (some_same e) h.0
each_at P (y ∷ xs) (suc i) x h e = each_at P xs i x h.1 e

-- names that differ have one place each
one_place : (ns : List (List ℕ)) → Differ ns → (i j : ℕ) (a b : List ℕ) → slice_get ns i ≡ Some a → slice_get ns j ≡ Some b → a ≡ b → i ≡ j
one_place [] h i j a b e f same = absurd (none_some e)
one_place (n ∷ ns) h zero zero a b e f same = refl
one_place (n ∷ ns) h zero (suc j) a b e f same =
    absurd (true≢false (sym (text_self b) ∙ (ap (text_eq b) (sym (some_same e ∙ same)) ∙ each_at (Other n) ns j b h.0 f)))
one_place (n ∷ ns) h (suc i) zero a b e f same =
    absurd (true≢false (sym (text_self a) ∙ (ap (text_eq a) (same ∙ sym (some_same f)) ∙ each_at (Other n) ns i a h.0 e)))
one_place (n ∷ ns) h (suc i) (suc j) a b e f same = ap suc (one_place ns h.1 i j a b e f same)

name_at : (cs : List Component) (i : ℕ) (c : Component) → slice_get cs i ≡ Some c → slice_get (names (map (λ (c : Component). c.node) cs)) i ≡ Some c.node.name
name_at [] i c e = absurd (none_some e)
name_at (d ∷ cs) zero c e = ap (λ (c : Component). Some c.node.name) (some_same e)
name_at (d ∷ cs) (suc i) c e = name_at cs i c e

pub names_differ : (s : Scenario) (seen : List (List ℕ)) → name_twice seen (names_of s.nodes) ≡ None → (x y : ℕ) (c d : Component)
    → slice_get (components s) x ≡ Some c → slice_get (components s) y ≡ Some d → c.node.name ≡ d.node.name → x ≡ y
names_differ s seen e x y c d there at same =
    let differ = leaves_differ s.nodes (differ_by seen (names_of s.nodes) e).0 in
    let is = components-leaves_in s in
    one_place (names (leaves_in s.nodes)) differ x y c.node.name d.node.name (ap (λ l. slice_get (names l) x) (sym is) ∙ name_at (components s) x c there)
    (ap (λ l. slice_get (names l) y) (sym is) ∙ name_at (components s) y d at) same
