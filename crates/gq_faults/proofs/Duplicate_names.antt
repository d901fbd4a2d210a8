-- Names that were seen.
use Rattle.std.proofs.Common.{◌≡◌, ℕ, ◌+◌, ◌<◌, ◌≤◌, Bool, true, false, true≢false, ◌||◌, cond, List, [], ◌∷◌, ◌++◌, length, map, get_or, drop}
use Rattle.std.proofs.Common.{refl, ap, sym, subst, ◌∙◌, append_assoc, Bor, Result, Ok, Err}
use Rattle.std.specs.Prelude.{OnOk}
use Rattle.std.specs.Ordering.{is_eq, nat_cmp}
use Rattle.std.specs.BTreeSet.{BTreeSet, Updates, contains_by}
use Rattle.std.specs.Cmp.Lexicographic.{slice_cmp}
use Rattle.std.specs.Str.{bytes_eq}
use Rattle.std.proofs.lemmas.Map.Text.{is_eq-slice_cmp}
use Rattle.std.proofs.lemmas.Slice.Eq.{bytes_eq-Decides}
use Rattle.std.proofs.lemmas.Bool.{false_from_ne_true}
use Rattle.gq_model.specs.machine.Lists.{any_of}
use Rattle.gq_model.specs.machine.Program.{text_eq}
use Rattle.gq_model.proofs.Small_facts.{text_is, text_self}
use Rattle.gq_scenario.specs.Table_keys.{NameTwice}
use Rattle.gq_faults.specs.Found_lists.{all_found, when}
use Rattle.gq_faults.specs.Documents.{named, names_twice}
use Rattle.gq_faults.specs.Document_nodes.{node_of}
use Rattle.gq_faults.specs.Seen_names.{AreSeen, seen_after}
use Rattle.gq_faults.specs.declared.document_nodes.NodeAt.{NodeAt}
use Rattle.gq_faults.proofs.Reported_fault_prefixes.{each_next, each_end}

-- SETS

-- two keys that compare as equal are the same text
same_key : (key name : List ℕ) → is_eq (slice_cmp nat_cmp key name) ≡ text_eq name key
same_key key name = is_eq-slice_cmp key name ∙ by (bytes_eq key name) refl
  where
    by : (b : Bool) → bytes_eq key name ≡ b → b ≡ text_eq name key
    by true e = sym (subst (λ n. text_eq n key ≡ true) ((bytes_eq-Decides key name).0 e) (text_self key))
    by false e =
        sym (false_from_ne_true (text_eq name key) (λ t. true≢false (sym ((bytes_eq-Decides key name).1 (sym (text_is name key t))) ∙ e)))

or_is : (a b : Bool) → cond a true b ≡ (a || b)
or_is true b = refl
or_is false b = refl

pub none_seen : (set : BTreeSet (Bor (List ℕ))) → set.keys ≡ [] → AreSeen set []
none_seen set e = λ name. rw e refl

pub one_more_seen : (old new : BTreeSet (Bor (List ℕ))) (key : Bor (List ℕ)) (names : List (List ℕ))
    → Updates (λ x y. slice_cmp nat_cmp x.now y.now) old new key true → AreSeen old names → AreSeen new (key.now ∷ names)
one_more_seen old new key names updates seen = λ name.
    let had = contains_by (λ (k : Bor (List ℕ)). slice_cmp nat_cmp name k.now) old in
    updates.0 (record { ref_ptr = (0, 0); now = name })
    ∙ (or_is (is_eq (slice_cmp nat_cmp key.now name)) had
    ∙ (ap (λ b. b || had) (same_key key.now name) ∙ ap (λ b. text_eq name key.now || b) (seen name)))

-- what holds in any case holds where an answer is Ok
pub always : {A E : Type 0} (r : Result A E) (P : Type 0) → P → OnOk r P
always (Ok a) P h = h
always (Err e) P h = tt

-- THE NAME OF A NODE

module _ (names nm : List (List ℕ)) where
  -- it was seen before
  pub one_twice : (name : List ℕ) → name ∷ [] ≡ nm → any_of (text_eq name) names ≡ true → names_twice names nm ≡ NameTwice name ∷ []
  one_twice name e k = ap (names_twice names) (sym e) ∙ ap (λ b. when b (NameTwice name) ++ []) k

  -- it is seen for the first time
  pub one_new : (name : List ℕ) → name ∷ [] ≡ nm → any_of (text_eq name) names ≡ false → names_twice names nm ≡ []
  one_new name e k = ap (names_twice names) (sym e) ∙ ap (λ b. when b (NameTwice name) ++ []) k

  pub one_after : (set : BTreeSet (Bor (List ℕ))) (name : List ℕ) → name ∷ [] ≡ nm → AreSeen set (name ∷ names) → AreSeen set (seen_after names nm)
  one_after set name e h = subst (λ l. AreSeen set (seen_after names l)) e h

-- ALL NODES

twice-append : (names a b : List (List ℕ)) → names_twice names (a ++ b) ≡ names_twice names a ++ names_twice (seen_after names a) b
twice-append names [] b = refl
twice-append names (name ∷ a) b =
    ap (λ l. when (any_of (text_eq name) names) (NameTwice name) ++ l) (twice-append (name ∷ names) a b)
    ∙ sym (append_assoc (when (any_of (text_eq name) names) (NameTwice name)) (names_twice (name ∷ names) a) (names_twice (seen_after (name ∷ names) a) b))

pub twice_next : (names : List (List ℕ)) (nodes : List NodeAt) (i : ℕ) (x : NodeAt) → i < length nodes → x ≡ get_or nodes i x
    → names_twice names (all_found named (map node_of (drop i nodes)))
    ≡ names_twice names (named (node_of x)) ++ names_twice (seen_after names (named (node_of x))) (all_found named (map node_of (drop (i + 1) nodes)))
twice_next names nodes i x less is =
    ap (names_twice names) (each_next named node_of nodes i x less is)
    ∙ twice-append names (named (node_of x)) (all_found named (map node_of (drop (i + 1) nodes)))

pub twice_end : (names : List (List ℕ)) (nodes : List NodeAt) (i : ℕ) → length nodes ≤ i → names_twice names (all_found named (map node_of (drop i nodes))) ≡ []
twice_end names nodes i past = ap (names_twice names) (each_end named node_of nodes i past)
