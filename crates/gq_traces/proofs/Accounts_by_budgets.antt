-- What is printed of accounts does not depend on how budgets of steps are stored, and how they stand not on budgets at all.
use Rattle.std.proofs.Common.{◌≡◌, ◌∙◌, ◌+◌, ◌^◌, ◌-◌, ℕ, zero, suc, nat_lt, Bool, true, false, List, [], ◌∷◌, ◌++◌, length, map, option_map, Option, Some}
use Rattle.std.proofs.Common.{None, refl, ap, sym}
use Rattle.std.specs.Prelude.{codes, decimal, if◌then◌else◌, slice_get, slice_index}
use Rattle.std.proofs.lemmas.List.{length-map, map-append}
use Rattle.std.proofs.lemmas.Option.{slice_get-map}
use Rattle.gq_model.specs.machine.Accounts.{Account, account_at, account_line, accounts, entry, init_account, leaf_account, leaf_count, node_accounts}
use Rattle.gq_model.specs.machine.Accounts.{phase_word}
use Rattle.gq_model.specs.machine.Accounts.{reported, shown, used_entry}
use Rattle.gq_model.specs.machine.Scenario.{Component, Nodes, End, Leaf_node, Init_node, Scenario, below, system}
use Rattle.gq_model.specs.machine.Step_budgets.{StepBudget, all_steps_in}
use Rattle.gq_model.specs.machine.World.{Leaf, World}
use Rattle.gq_resolve.specs.NodeTables.{NodeRow}
use Rattle.gq_world.specs.Account_lines.{accounts_by, all_accounts, stored_budgets}
use Rattle.gq_world.specs.World_between_turns as worlds
use Rattle.gq_traces.specs.Account_state.{node_text, nodes_text}
use Rattle.gq_traces.specs.Trace.{Standing, Traced, account_change, account_changes, accounts_in, same_standing, standing_of}
use Rattle.gq_traces.specs.internal.Printed_steps.{budgets_of}

-- what a function of accounts gives where it gives the same of each leaf's
module _ {A : Type 0} (f : Account → A) (s : Scenario) (w : World) (b c : List ℕ)
    (each : (x : ℕ) (d : Component) (leaf : Leaf) → f (leaf_account s.version w x d leaf (slice_index b x)) ≡ f (leaf_account s.version w x d leaf
    (slice_index c x)))
  where
    at_same : (x : ℕ) (d : Option Component) (o : Option Leaf)
        → map f (account_at s.version w x d o (slice_index b x)) ≡ map f (account_at s.version w x d o (slice_index c x))
    at_same x (Some d) (Some leaf) = ap (λ a. a ∷ []) (each x d leaf)
    at_same x (Some d) None = refl
    at_same x None o = refl

    nodes_same : (x : ℕ) (label : List ℕ) (nodes : Nodes)
        → map f (node_accounts s.version (system s) w b x label nodes) ≡ map f (node_accounts s.version (system s) w c x label nodes)
    nodes_same x label End = refl
    nodes_same x label (Leaf_node node rest) =
        let o = slice_get w.leaves x in
        let d = slice_get (system s).components x in
        let here = at_same x d o in
        let later = nodes_same (suc x) label rest in
        map-append f (account_at s.version w x d o (slice_index b x)) (node_accounts s.version (system s) w b (suc x) label rest)
        ∙ ((λ i. here i ++ later i)
        ∙ sym (map-append f (account_at s.version w x d o (slice_index c x)) (node_accounts s.version (system s) w c (suc x) label rest)))
    nodes_same x label (Init_node node children rest) =
        let name = below label node.name in
        let inner = nodes_same x name children in
        let later = nodes_same (x + leaf_count children) label rest in
        let first = f (init_account s.version w x name node.quantum children) in
        ap (λ l. first ∷ l)
        (map-append f (node_accounts s.version (system s) w b x name children) (node_accounts s.version (system s) w b (x + leaf_count children) label rest)
        ∙ ((λ i. inner i ++ later i)
        ∙ sym (map-append f (node_accounts s.version (system s) w c x name children)
        (node_accounts s.version (system s) w c (x + leaf_count children) label rest))))

    pub all_same : map f (accounts s w b) ≡ map f (accounts s w c)
    all_same = ap (λ l. f (init_account s.version w 0 (codes "init") s.total s.nodes) ∷ l) (nodes_same 0 (codes "init") s.nodes)

-- how accounts stand does not depend on budgets
pub standing_free : (s : Scenario) (w : World) (b c : List ℕ) → map standing_of (accounts s w b) ≡ map standing_of (accounts s w c)
standing_free s w b c = all_same standing_of s w b c (λ x d leaf. refl)

-- BUDGETS AS THEY ARE STORED

twice : (n : ℕ) → shown (shown n) ≡ shown n
twice n = by (nat_lt n (2 ^ 64)) refl
  where
    by : (b : Bool) → nat_lt n (2 ^ 64) ≡ b → shown (if b then n else 2 ^ 64 - 1) ≡ (if b then n else 2 ^ 64 - 1)
    by true e = ap (λ (b : Bool). if b then n else 2 ^ 64 - 1) e
    by false e = refl

stored_at : (w : World) (bs : List StepBudget) (x : ℕ) → slice_index (stored_budgets w bs) x ≡ shown (slice_index (all_steps_in w bs) x)
stored_at w [] x = refl
stored_at w (b ∷ bs) zero = refl
stored_at w (b ∷ bs) (suc x) = stored_at w bs x

-- an account as it stands, and its line
abbrev pub seen : ℕ → Account → Standing × List ℕ
seen version a = (standing_of a, account_line version a)

seen_with : (s : Scenario) (w : World) (x : ℕ) (d : Component) (leaf : Leaf) (m n : ℕ) → shown m ≡ shown n
    → seen s.version (leaf_account s.version w x d leaf m) ≡ seen s.version (leaf_account s.version w x d leaf n)
seen_with s w x d leaf m n e =
    let a = leaf_account s.version w x d leaf m in
    ap (λ k. (
      standing_of a,
      codes "account " ++ a.label ++ entry (codes "quota") a.quota.ram ++ used_entry (codes "used") (λ u. u.ram) a.leaf
          ++ reported s.version (entry (codes "caps") a.quota.caps ++ used_entry (codes "taken") (λ u. u.caps) a.leaf)
          ++ (entry (codes "steps") (shown leaf.steps) ++ codes "/" ++ decimal k ++ codes " " ++ phase_word leaf.phase) ++ 10 ∷ [],
    )) e

pub seen_stored : (s : Scenario) (w : World) (bs : List StepBudget)
    → map (seen s.version) (accounts s w (stored_budgets w bs)) ≡ map (seen s.version) (accounts_in s w bs)
seen_stored s w bs =
    all_same (seen s.version) s w (stored_budgets w bs) (all_steps_in w bs)
    (λ x d leaf. seen_with s w x d leaf (slice_index (stored_budgets w bs) x) (slice_index (all_steps_in w bs) x)
    (ap shown (stored_at w bs x) ∙ twice (slice_index (all_steps_in w bs) x)))

-- all accounts of a world, as they are printed
pub all_seen : (w : worlds.World) → map (seen w.scenario.version) (all_accounts w)
    ≡ map (seen w.scenario.version) (accounts_in w.scenario w.world (budgets_of w.scenario))
unfolding all_accounts accounts_by
all_seen w = seen_stored w.scenario w.world (budgets_of w.scenario)

firsts : (version : ℕ) (all : List Account) → map (λ (p : Standing × List ℕ). p.0) (map (seen version) all) ≡ map standing_of all
firsts version [] = refl
firsts version (a ∷ all) = ap (λ l. standing_of a ∷ l) (firsts version all)

-- how they stand
pub all_standing : (w : worlds.World) → map standing_of (all_accounts w) ≡ map standing_of (accounts_in w.scenario w.world (budgets_of w.scenario))
all_standing w =
    sym (firsts w.scenario.version (all_accounts w)) ∙ (ap (map (λ (p : Standing × List ℕ). p.0)) (all_seen w)
    ∙ firsts w.scenario.version (accounts_in w.scenario w.world (budgets_of w.scenario)))

pub all_long : (w : worlds.World) → length (all_accounts w) ≡ length (accounts_in w.scenario w.world (budgets_of w.scenario))
all_long w =
    sym (length-map (all_accounts w) standing_of) ∙ (ap length (all_standing w)
    ∙ length-map (accounts_in w.scenario w.world (budgets_of w.scenario)) standing_of)

-- TEXTS

changed : Standing → Standing × List ℕ → List ℕ
changed old p = if same_standing old p.0 then [] else p.1

changed_all : List Standing → List (Standing × List ℕ) → List ℕ
changed_all (old ∷ olds) (p ∷ ps) = changed old p ++ changed_all olds ps
changed_all [] ps = []
changed_all (old ∷ olds) [] = []

changes_seen : (version : ℕ) (olds : List Standing) (news : List Account) → account_changes version olds news ≡ changed_all olds (map (seen version) news)
unfolding changed changed_all
changes_seen version [] news = refl
changes_seen version (old ∷ olds) [] = refl
changes_seen version (old ∷ olds) (new ∷ news) = ap (λ l. account_change version old new ++ l) (changes_seen version olds news)

-- what is printed of accounts that change
pub changes_same : (version : ℕ) (olds : List Standing) (news others : List Account) → map (seen version) news ≡ map (seen version) others
    → account_changes version olds news ≡ account_changes version olds others
changes_same version olds news others e =
    changes_seen version olds news ∙ (ap (changed_all olds) e ∙ sym (changes_seen version olds others))

nodes_by : Scenario → Traced → ℕ → List (Standing × List ℕ) → List NodeRow → List ℕ
nodes_by s t n [] nodes = []
nodes_by s t n (p ∷ ps) [] = []
nodes_by s t n (p ∷ ps) (node ∷ nodes) = p.1 ++ node_text s t n node node.leaf ++ nodes_by s t (suc n) ps nodes

nodes_seen : (s : Scenario) (t : Traced) (n : ℕ) (all : List Account) (nodes : List NodeRow)
    → nodes_text s t n all nodes ≡ nodes_by s t n (map (seen s.version) all) nodes
unfolding nodes_by
nodes_seen s t n [] nodes = refl
nodes_seen s t n (a ∷ all) [] = refl
nodes_seen s t n (a ∷ all) (node ∷ nodes) =
    ap (λ l. account_line s.version a ++ node_text s t n node node.leaf ++ l) (nodes_seen s t (suc n) all nodes)

-- and of nodes
pub nodes_same_text : (s : Scenario) (t : Traced) (n : ℕ) (all others : List Account) (nodes : List NodeRow)
    → map (seen s.version) all ≡ map (seen s.version) others → nodes_text s t n all nodes ≡ nodes_text s t n others nodes
nodes_same_text s t n all others nodes e =
    nodes_seen s t n all nodes ∙ (ap (λ ps. nodes_by s t n ps nodes) e ∙ sym (nodes_seen s t n others nodes))

-- an account of a world and one by exact budgets at its place
pub seen_at : (w : worlds.World) (place : ℕ) (a : Account) → slice_get (all_accounts w) place ≡ Some a
    → option_map (seen w.scenario.version) (slice_get (accounts_in w.scenario w.world (budgets_of w.scenario)) place) ≡ Some (seen w.scenario.version a)
seen_at w place a there =
    sym (slice_get-map (seen w.scenario.version) (accounts_in w.scenario w.world (budgets_of w.scenario)) place)
    ∙ (ap (λ l. slice_get l place) (sym (all_seen w))
    ∙ (slice_get-map (seen w.scenario.version) (all_accounts w) place ∙ ap (option_map (seen w.scenario.version)) there))
