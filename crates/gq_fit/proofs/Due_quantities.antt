-- What is due to some quantities is due to more of them.
use Rattle.std.proofs.Common.{◌≡◌, ◌≤◌, ◌∙◌, ◌+◌, ◌-◌, ℕ, Bool, true, if◌then◌else◌, List, [], ◌∷◌, ◌++◌, Option, Some, ap, ap₂, append-nil, append_assoc}
use Rattle.std.proofs.Common.{arith, codes, drop, length, refl, subst, sym, take}
use Rattle.std.specs.Prelude.{get_or}
use Rattle.gq_model.specs.machine.Amounts.{Amount, counts_caps}
use Rattle.std.proofs.lemmas.List.{drop-drop, length-append, take_all}
use Rattle.gq_model.specs.machine.Scenario.{InitNode, Interface, Interfaces, Nodes, End, Scenario}
use Rattle.gq_scenario.specs.Component_trees.{before, nodes_of}
use Rattle.gq_scenario.specs.declared.scenario.Node.{Node}
use Rattle.gq_scenario.specs.declared.scenario.Node.TheVariants as nodes
use Rattle.gq_scenario.specs.declared.key.Key.{Key}
use Rattle.gq_scenario.specs.declared.key.Key.TheVariants.{Ram, Caps, Need, NeedCaps, Upgrades, UpgradeCaps, Quantum}
use Rattle.gq_sizes.specs.declared.quantity_lines.Least.{Least}
use Rattle.gq_fit.specs.declared.fit_fault.Misfit.{Misfit}
use Rattle.gq_fit.specs.declared.fit_fault.Misfit.TheVariants.{NoPlace, TooLarge, Refused, Differs}
use Rattle.gq_fit.specs.declared.fit_fault.MakeError.{MakeError}
use Rattle.gq_fit.specs.declared.fit_fault.MakeError.TheVariants as errors
use Rattle.gq_fit.specs.Reasons.{HasNoPlace, IsBeyond, IsDue, IsTooLarge, Quantity, SomeOf, both, greatest, of_interface, of_interfaces, of_quanta, of_tree}
use Rattle.gq_fit.specs.Reasons.{of_upgrades, quanta, quantity}
use Rattle.gq_fit.specs.internal.Making.{IsDueError, IsWanting}

-- SOME OF MORE

pub some_first : (P : Quantity → Type 0) (some more : List Quantity) → SomeOf P some → SomeOf P (some ++ more)
some_first P some more s =
    record {
      before = s.before;
      one = s.one;
      after = s.after ++ more;
      is = ap (λ all. all ++ more) s.is ∙ append_assoc s.before (s.one ∷ s.after) more;
      holds = s.holds;
    }

pub some_after : (P : Quantity → Type 0) (more some : List Quantity) → SomeOf P some → SomeOf P (more ++ some)
some_after P more some s =
    record {
      before = more ++ s.before;
      one = s.one;
      after = s.after;
      is = ap (λ all. more ++ all) s.is ∙ sym (append_assoc more s.before (s.one ∷ s.after));
      holds = s.holds;
    }

pub just : (P : Quantity → Type 0) (q : Quantity) → P q → SomeOf P (q ∷ [])
just P q p = record { before = []; one = q; after = []; is = refl; holds = p }

-- REASONS

pub due_first : (f : Misfit) (some more : List Quantity) → IsDue f some → IsDue f (some ++ more)
due_first (NoPlace key name) some more d = some_first (HasNoPlace key name) some more d
due_first (TooLarge key name least) some more d = some_first (IsTooLarge key name least) some more d
due_first (Refused fault) some more d = d
due_first Differs some more d = d

pub due_after : (f : Misfit) (more some : List Quantity) → IsDue f some → IsDue f (more ++ some)
due_after (NoPlace key name) more some d = some_after (HasNoPlace key name) more some d
due_after (TooLarge key name least) more some d = some_after (IsTooLarge key name least) more some d
due_after (Refused fault) more some d = d
due_after Differs more some d = d

pub error_first : (e : MakeError) (some more : List Quantity) → IsDueError e some → IsDueError e (some ++ more)
error_first errors.Memory some more d = d
error_first (errors.Misfit f) some more d = due_first f some more d

pub error_after : (e : MakeError) (more some : List Quantity) → IsDueError e some → IsDueError e (more ++ some)
error_after errors.Memory more some d = d
error_after (errors.Misfit f) more some d = due_after f more some d

-- ONE QUANTITY

pub too_large : (key : Key) (name own : List ℕ) (has : ℕ) (least : Option ℕ) → name ≡ own → IsBeyond (greatest key) least
    → SomeOf (IsTooLarge key name least) (quantity key own has least ∷ [])
too_large key name own has least is b =
    just (IsTooLarge key name least) (quantity key own has least) (record { key_is = refl; name_is = sym is; least_is = refl; beyond = b })

-- capabilities, where the version counts them
pub error_caps : (e : MakeError) (version : ℕ) (counts : Bool) (first caps : Quantity) → counts ≡ true → counts ≡ counts_caps version
    → IsDueError e (caps ∷ []) → IsDueError e (first ∷ (if counts_caps version then caps ∷ [] else []))
error_caps e version counts first caps holds is d =
    subst (λ b. IsDueError e (first ∷ (if b then caps ∷ [] else []))) (sym holds ∙ is) (error_after e (first ∷ []) (caps ∷ []) d)

-- a list with a first item
pub split_first : {A : Type 0} → (xs : List A) (x : A) → 1 ≤ length xs → x ≡ get_or xs 0 x → xs ≡ x ∷ drop 1 xs
split_first [] x some is = absurd (omega (arith, some))
split_first (y ∷ xs) x some is = ap (λ z. z ∷ xs) (sym is)

pub tail_is : {A : Type 0} → (xs : List A) → take (length xs - 1) (drop 1 xs) ≡ drop 1 xs
tail_is [] = refl
tail_is (x ∷ xs) = take_all (length (x ∷ xs) - 1) xs (omega arith)

-- UPGRADES

module _ (version : ℕ) (name : List ℕ) (us : List Amount) (ls : List Least) (a : Amount) (l : Least) (someu : 1 ≤ length us) (isu : a ≡ get_or us 0 a)
    (somel : 1 ≤ length ls) (isl : l ≡ get_or ls 0 l) where
  parted : of_upgrades version name us ls ≡ both version Upgrades UpgradeCaps name a l ++ of_upgrades version name (drop 1 us) (drop 1 ls)
  parted = ap₂ (of_upgrades version name) (split_first us a someu isu) (split_first ls l somel isl)

  pub upgrade_first : (e : MakeError) → IsDueError e (both version Upgrades UpgradeCaps name a l) → IsDueError e (of_upgrades version name us ls)
  upgrade_first e d = subst (IsDueError e) (sym parted) (error_first e (both version Upgrades UpgradeCaps name a l) _ d)

  pub place_first : counts_caps version ≡ true → a.caps ≡ 0 → IsWanting l → SomeOf (HasNoPlace UpgradeCaps name) (of_upgrades version name us ls)
  place_first counts none wanted =
      subst (SomeOf (HasNoPlace UpgradeCaps name)) (sym parted)
      (some_first (HasNoPlace UpgradeCaps name) (both version Upgrades UpgradeCaps name a l) _
      (subst (λ b. SomeOf (HasNoPlace UpgradeCaps name)
      (quantity Upgrades name a.ram (Some l.ram) ∷ (if b then quantity UpgradeCaps name a.caps l.caps ∷ [] else [])))
      (sym counts)
      (some_after (HasNoPlace UpgradeCaps name) (quantity Upgrades name a.ram (Some l.ram) ∷ []) (quantity UpgradeCaps name a.caps l.caps ∷ [])
      (just (HasNoPlace UpgradeCaps name) (quantity UpgradeCaps name a.caps l.caps)
      (record { optional = refl; key_is = refl; name_is = refl; none = none; wanted = wanted.wanted })))))

module _ (version : ℕ) (name : List ℕ) where
  upgrade_after : (us : List Amount) (ls : List Least) → 1 ≤ length us → 1 ≤ length ls → (e : MakeError)
      → IsDueError e (of_upgrades version name (drop 1 us) (drop 1 ls)) → IsDueError e (of_upgrades version name us ls)
  upgrade_after [] ls one some e d = absurd (omega (arith, one))
  upgrade_after (u ∷ us) [] one some e d = absurd (omega (arith, some))
  upgrade_after (u ∷ us) (l ∷ ls) one some e d = error_after e (both version Upgrades UpgradeCaps name u l) (of_upgrades version name us ls) d

  pub upgrade_rest : (us : List Amount) (ls : List Least) → 1 ≤ length us → 1 ≤ length ls → (e : MakeError)
      → IsDueError e (of_upgrades version name (take (length us - 1) (drop 1 us)) (take (length ls - 1) (drop 1 ls)))
      → IsDueError e (of_upgrades version name us ls)
  upgrade_rest us ls one some e d =
      upgrade_after us ls one some e (subst (λ k. IsDueError e (of_upgrades version name (drop 1 us) k)) (tail_is ls)
      (subst (λ k. IsDueError e (of_upgrades version name k (take (length ls - 1) (drop 1 ls)))) (tail_is us) d))

  place_after : (us : List Amount) (ls : List Least) → 1 ≤ length us → 1 ≤ length ls
      → SomeOf (HasNoPlace UpgradeCaps name) (of_upgrades version name (drop 1 us) (drop 1 ls))
      → SomeOf (HasNoPlace UpgradeCaps name) (of_upgrades version name us ls)
  place_after [] ls one some s = absurd (omega (arith, one))
  place_after (u ∷ us) [] one some s = absurd (omega (arith, some))
  place_after (u ∷ us) (l ∷ ls) one some s =
      some_after (HasNoPlace UpgradeCaps name) (both version Upgrades UpgradeCaps name u l) (of_upgrades version name us ls) s

  pub place_rest : (us : List Amount) (ls : List Least) → 1 ≤ length us → 1 ≤ length ls
      → SomeOf (HasNoPlace UpgradeCaps name) (of_upgrades version name (take (length us - 1) (drop 1 us)) (take (length ls - 1) (drop 1 ls)))
      → SomeOf (HasNoPlace UpgradeCaps name) (of_upgrades version name us ls)
  place_rest us ls one some s =
      place_after us ls one some (subst (λ k. SomeOf (HasNoPlace UpgradeCaps name) (of_upgrades version name (drop 1 us) k)) (tail_is ls)
      (subst (λ k. SomeOf (HasNoPlace UpgradeCaps name) (of_upgrades version name k (take (length ls - 1) (drop 1 ls)))) (tail_is us) s))

-- INTERFACES

module _ (version : ℕ) (name : List ℕ) (i : Interface) (ls : List Least) (l : Least) (some : 1 ≤ length ls) (is : l ≡ get_or ls 0 l) where
  need_parted : of_interface version name i ls ≡ both version Need NeedCaps name i.need l ++ of_upgrades version name i.upgrades (drop 1 ls)
  need_parted = ap (of_interface version name i) (split_first ls l some is)

  pub need_first : (has : Amount) → has ≡ i.need → (e : MakeError) → IsDueError e (both version Need NeedCaps name has l)
      → IsDueError e (of_interface version name i ls)
  need_first has same e d =
      subst (IsDueError e) (sym need_parted) (error_first e (both version Need NeedCaps name i.need l) _
      (subst (λ a. IsDueError e (both version Need NeedCaps name a l)) same d))

need_after : (version : ℕ) (name : List ℕ) (i : Interface) (ls : List Least) → 1 ≤ length ls → (e : MakeError)
    → IsDueError e (of_upgrades version name i.upgrades (drop 1 ls)) → IsDueError e (of_interface version name i ls)
need_after version name i [] some e d = absurd (omega (arith, some))
need_after version name i (l ∷ ls) some e d = error_after e (both version Need NeedCaps name i.need l) (of_upgrades version name i.upgrades ls) d

pub need_rest : (version other : ℕ) (name : List ℕ) (i : Interface) (ls : List Least) (us : List Amount) → other ≡ version → us ≡ i.upgrades → 1 ≤ length ls
    → (e : MakeError) → IsDueError e (of_upgrades other name us (take (length ls - 1) (drop 1 ls))) → IsDueError e (of_interface version name i ls)
need_rest version other name i ls us same upgrades some e d =
    need_after version name i ls some e (subst (λ k. IsDueError e (of_upgrades version name i.upgrades k)) (tail_is ls)
    (subst (λ k. IsDueError e (of_upgrades version name k (take (length ls - 1) (drop 1 ls)))) upgrades
    (subst (λ v. IsDueError e (of_upgrades v name us (take (length ls - 1) (drop 1 ls)))) same d)))

pub row_first : (version : ℕ) (is : Interfaces) (rows : List (List Least)) (name : List ℕ) (i : Interface) (row : List Least) → 1 ≤ length is
    → name ≡ (get_or is 0 (name, i)).0 → i ≡ (get_or is 0 (name, i)).1 → 1 ≤ length rows → row ≡ get_or rows 0 row → (e : MakeError)
    → IsDueError e (of_interface version name i row) → IsDueError e (of_interfaces version is rows)
row_first version [] rows name i row one named asks some is e d = absurd (omega (arith, one))
row_first version (x ∷ xs) [] name i row one named asks some is e d = absurd (omega (arith, some))
row_first version (x ∷ xs) (r ∷ rows) name i row one named asks some is e d =
    error_first e (of_interface version x.0 x.1 r) (of_interfaces version xs rows)
    (subst (λ k. IsDueError e (of_interface version x.0 x.1 k)) is
    (subst (λ k. IsDueError e (of_interface version x.0 k row)) asks (subst (λ k. IsDueError e (of_interface version k i row)) named d)))

row_after : (version : ℕ) (is : Interfaces) (rows : List (List Least)) → 1 ≤ length is → 1 ≤ length rows → (e : MakeError)
    → IsDueError e (of_interfaces version (drop 1 is) (drop 1 rows)) → IsDueError e (of_interfaces version is rows)
row_after version [] rows one some e d = absurd (omega (arith, one))
row_after version (x ∷ xs) [] one some e d = absurd (omega (arith, some))
row_after version (x ∷ xs) (r ∷ rows) one some e d = error_after e (of_interface version x.0 x.1 r) (of_interfaces version xs rows) d

pub row_rest : (version other : ℕ) (is : Interfaces) (rows : List (List Least)) → other ≡ version → 1 ≤ length is → 1 ≤ length rows → (e : MakeError)
    → IsDueError e (of_interfaces other (take (length is - 1) (drop 1 is)) (take (length rows - 1) (drop 1 rows)))
    → IsDueError e (of_interfaces version is rows)
row_rest version other is rows same one some e d =
    row_after version is rows one some e (subst (λ k. IsDueError e (of_interfaces version (drop 1 is) k)) (tail_is rows)
    (subst (λ k. IsDueError e (of_interfaces version k (take (length rows - 1) (drop 1 rows)))) (tail_is is)
    (subst (λ v. IsDueError e (of_interfaces v (take (length is - 1) (drop 1 is)) (take (length rows - 1) (drop 1 rows)))) same d)))

-- NODES

-- a quantum, which is this amount
pub quantum_first : (version : ℕ) (name : List ℕ) (quantum amount : Amount) (ls : List Least) (l : Least) → 1 ≤ length ls → l ≡ get_or ls 0 l → amount ≡ quantum
    → (e : MakeError) → IsDueError e (both version Quantum Caps name amount l) → IsDueError e (of_quanta version ((name, quantum) ∷ []) ls)
quantum_first version name quantum amount ls l some is same e d =
    subst (λ k. IsDueError e (of_quanta version ((name, quantum) ∷ []) k)) (sym (split_first ls l some is))
    (error_first e (both version Quantum Caps name quantum l) [] (subst (λ a. IsDueError e (both version Quantum Caps name a l)) same d))

-- what is due to some nodes is due to them and others; what is left of the numbers belongs to the others
pub of_more : (version : ℕ) (xs ys : List (List ℕ × Amount)) (ls : List Least)
    → of_quanta version (xs ++ ys) ls ≡ of_quanta version xs ls ++ of_quanta version ys (drop (length xs) ls)
of_more version [] ys ls = refl
of_more version (x ∷ xs) [] [] = refl
of_more version (x ∷ xs) (y ∷ ys) [] = refl
of_more version (x ∷ xs) ys (l ∷ ls) =
    ap (λ q. both version Quantum Caps x.0 x.1 l ++ q) (of_more version xs ys ls)
    ∙ sym (append_assoc (both version Quantum Caps x.0 x.1 l) (of_quanta version xs ls) (of_quanta version ys (drop (length xs) ls)))

-- the quanta of a node before others
pub quanta_before : (node : Node) (rest : Nodes) → quanta (before node rest) ≡ quanta (before node End) ++ quanta rest
quanta_before (nodes.Leaf node) rest = refl
quanta_before (nodes.Init node children) rest =
    ap (λ q. (node.name, node.quantum) ∷ q) (sym (ap (λ q. q ++ quanta rest) (append-nil (quanta children))))

module _ (version : ℕ) (xs : List Node) (x : Node) (ls left : List Least) (some : 1 ≤ length xs) (is : x ≡ get_or xs 0 x) where
  nodes_parted : quanta (nodes_of xs) ≡ quanta (nodes_of (x ∷ [])) ++ quanta (nodes_of (drop 1 xs))
  nodes_parted = ap (λ n. quanta (nodes_of n)) (split_first xs x some is) ∙ quanta_before x (nodes_of (drop 1 xs))

  all_parted : of_quanta version (quanta (nodes_of xs)) ls
      ≡ of_quanta version (quanta (nodes_of (x ∷ []))) ls ++ of_quanta version (quanta (nodes_of (drop 1 xs))) (drop (length (quanta (nodes_of (x ∷ [])))) ls)
  all_parted = ap (λ q. of_quanta version q ls) nodes_parted ∙ of_more version (quanta (nodes_of (x ∷ []))) (quanta (nodes_of (drop 1 xs))) ls

  pub node_first : (e : MakeError) → IsDueError e (of_quanta version (quanta (nodes_of (x ∷ []))) ls)
      → IsDueError e (of_quanta version (quanta (nodes_of xs)) ls)
  node_first e d = subst (IsDueError e) (sym all_parted) (error_first e (of_quanta version (quanta (nodes_of (x ∷ []))) ls) _ d)

  pub tail_nodes : quanta (nodes_of (take (length xs - 1) (drop 1 xs))) ≡ quanta (nodes_of (drop 1 xs))
  tail_nodes = ap (λ k. quanta (nodes_of k)) (tail_is xs)

  module _ (left_is : left ≡ drop (length (quanta (nodes_of (x ∷ [])))) ls) where
    pub node_after : (e : MakeError) → IsDueError e (of_quanta version (quanta (nodes_of (drop 1 xs))) left)
        → IsDueError e (of_quanta version (quanta (nodes_of xs)) ls)
    node_after e d =
        subst (IsDueError e) (sym all_parted) (error_after e (of_quanta version (quanta (nodes_of (x ∷ []))) ls) _
        (subst (λ k. IsDueError e (of_quanta version (quanta (nodes_of (drop 1 xs))) k)) left_is d))

    pub left_after : (end : List Least) → end ≡ drop (length (quanta (nodes_of (drop 1 xs)))) left → end ≡ drop (length (quanta (nodes_of xs))) ls
    left_after end e =
        e ∙ (ap (drop (length (quanta (nodes_of (drop 1 xs))))) left_is
        ∙ (drop-drop (length (quanta (nodes_of (drop 1 xs)))) (length (quanta (nodes_of (x ∷ [])))) ls ∙ ap (λ k. drop k ls) long))
      where
        long : length (quanta (nodes_of (x ∷ []))) + length (quanta (nodes_of (drop 1 xs))) ≡ length (quanta (nodes_of xs))
        long = sym (ap length nodes_parted ∙ length-append (quanta (nodes_of (x ∷ []))) (quanta (nodes_of (drop 1 xs))))

-- an init before those in it
init_is : (node : Node) (init : InitNode) (children : Nodes) (name : List ℕ) (quantum : Amount) → node ≡ nodes.Init init children → name ≡ init.name
    → quantum ≡ init.quantum → quanta (nodes_of (node ∷ [])) ≡ ((name, quantum) ∷ []) ++ quanta children
init_is node init children name quantum is named has =
    ap (λ k. quanta (nodes_of (k ∷ []))) is ∙ (ap (λ q. (init.name, init.quantum) ∷ q) (append-nil (quanta children))
    ∙ ap₂ (λ n q. (n, q) ∷ quanta children) (sym named) (sym has))

module _ (version : ℕ) (node : Node) (init : InitNode) (children : Nodes) (name : List ℕ) (quantum : Amount) (ls : List Least)
    (is : node ≡ nodes.Init init children) (named : name ≡ init.name) (has : quantum ≡ init.quantum) where
  whole : of_quanta version (quanta (nodes_of (node ∷ []))) ls
      ≡ of_quanta version ((name, quantum) ∷ []) ls ++ of_quanta version (quanta children) (drop 1 ls)
  whole = ap (λ q. of_quanta version q ls) (init_is node init children name quantum is named has) ∙ of_more version ((name, quantum) ∷ []) (quanta children) ls

  pub init_first : (e : MakeError) → IsDueError e (of_quanta version ((name, quantum) ∷ []) ls)
      → IsDueError e (of_quanta version (quanta (nodes_of (node ∷ []))) ls)
  init_first e d = subst (IsDueError e) (sym whole) (error_first e (of_quanta version ((name, quantum) ∷ []) ls) _ d)

  pub init_rest : (other : ℕ) (below : Nodes) (left : List Least) → other ≡ version → below ≡ children → left ≡ drop 1 ls → (e : MakeError)
      → IsDueError e (of_quanta other (quanta below) left) → IsDueError e (of_quanta version (quanta (nodes_of (node ∷ []))) ls)
  init_rest other below left same down rest e d =
      subst (IsDueError e) (sym whole) (error_after e (of_quanta version ((name, quantum) ∷ []) ls) _
      (subst (λ k. IsDueError e (of_quanta version (quanta children) k)) rest (subst (λ k. IsDueError e (of_quanta version (quanta k) left)) down
      (subst (λ v. IsDueError e (of_quanta v (quanta below) left)) same d))))

-- the nodes behind the first one
pub nodes_rest : (version other : ℕ) (xs : List Node) (x : Node) (ls left : List Least) → 1 ≤ length xs → x ≡ get_or xs 0 x → other ≡ version
    → left ≡ drop (length (quanta (nodes_of (x ∷ [])))) ls → (e : MakeError)
    → IsDueError e (of_quanta other (quanta (nodes_of (take (length xs - 1) (drop 1 xs)))) left)
    → IsDueError e (of_quanta version (quanta (nodes_of xs)) ls)
nodes_rest version other xs x ls left some is same rest e d =
    node_after version xs x ls left some is rest e (subst (λ k. IsDueError e (of_quanta version (quanta (nodes_of k)) left)) (tail_is xs)
    (subst (λ v. IsDueError e (of_quanta v (quanta (nodes_of (take (length xs - 1) (drop 1 xs)))) left)) same d))

-- the whole, before the nodes
pub root_first : (s : Scenario) (ls : List Least) (l : Least) (version : ℕ) (name : List ℕ) (total : Amount) → 1 ≤ length ls → l ≡ get_or ls 0 l
    → version ≡ s.version → name ≡ codes "init" → total ≡ s.total → (e : MakeError) → IsDueError e (both version Ram Caps name total l)
    → IsDueError e (of_tree s ls)
root_first s [] l version name total some is same named has e d = absurd (omega (arith, some))
root_first s (x ∷ ls) l version name total some is same named has e d =
    error_first e (both s.version Ram Caps (codes "init") s.total x) (of_quanta s.version (quanta s.nodes) ls)
    (subst (λ k. IsDueError e (both s.version Ram Caps (codes "init") s.total k)) is
    (subst (λ a. IsDueError e (both s.version Ram Caps (codes "init") a l)) has
    (subst (λ n. IsDueError e (both s.version Ram Caps n total l)) named (subst (λ v. IsDueError e (both v Ram Caps name total l)) same d))))

root_after : (s : Scenario) (ls : List Least) → 1 ≤ length ls → (e : MakeError) → IsDueError e (of_quanta s.version (quanta s.nodes) (drop 1 ls))
    → IsDueError e (of_tree s ls)
root_after s [] some e d = absurd (omega (arith, some))
root_after s (x ∷ ls) some e d =
    error_after e (both s.version Ram Caps (codes "init") s.total x) (of_quanta s.version (quanta s.nodes) ls) d

pub root_rest : (s : Scenario) (ls : List Least) (version : ℕ) (below : Nodes) → 1 ≤ length ls → version ≡ s.version → below ≡ s.nodes → (e : MakeError)
    → IsDueError e (of_quanta version (quanta below) (take (length ls - 1) (drop 1 ls))) → IsDueError e (of_tree s ls)
root_rest s ls version below some same down e d =
    root_after s ls some e (subst (λ k. IsDueError e (of_quanta s.version (quanta s.nodes) k)) (tail_is ls)
    (subst (λ n. IsDueError e (of_quanta s.version (quanta n) (take (length ls - 1) (drop 1 ls)))) down
    (subst (λ v. IsDueError e (of_quanta v (quanta below) (take (length ls - 1) (drop 1 ls)))) same d)))
