-- A step that keeps its leaf in its phase, with what it holds, changes no account, but for steps, and nothing that is reported of a session.
use Rattle.std.proofs.Common.{◌≡◌, ◌≢◌, ◌∙◌, ◌<◌, ◌≤◌, ℕ, zero, suc, ◌+◌, ◌-◌, ◌==◌, ◌&&◌, inl, inr, true, cond, List, [], ◌∷◌, ◌++◌, map, Option, Some}
use Rattle.std.proofs.Common.{None, refl, ap, sym, subst, arith}
use Rattle.std.specs.Prelude.{codes, slice_get, slice_index, sum_by}
use Rattle.std.proofs.lemmas.Bool.{cases_Bool}
use Rattle.std.proofs.lemmas.Bool.Decides.{eqb_tells}
use Rattle.std.proofs.lemmas.List.{map-append}
use Rattle.std.proofs.lemmas.List.Sums.{sum_by-cons}
use Rattle.gq_model.specs.machine.Accounts.{Account, account_at, account_line, accounts, amount_in, handed_to, init_account, init_quota, leaf_count}
use Rattle.gq_model.specs.machine.Accounts.{node_accounts}
use Rattle.gq_model.specs.machine.Amounts.{Resource, Ram, Caps, Amount, part, same_amount, counts_caps}
use Rattle.gq_model.specs.declared.phase.Phase.{Phase}
use Rattle.gq_model.specs.declared.phase.Phase.TheVariants.{Pending, Running, Blocked, Serving, Handling, Exited}
use Rattle.gq_model.specs.declared.section.Section.{Section}
use Rattle.gq_model.specs.declared.section.Section.TheVariants.{Main, Opening, Upgrading, Calling, Closing, Reacting}
use Rattle.gq_model.specs.machine.Resource_prices.{heap}
use Rattle.gq_model.specs.machine.Sections.{same_section}
use Rattle.gq_model.specs.machine.Scenario.{Component, Nodes, End, Leaf_node, Init_node, Scenario, System, below, components, system}
use Rattle.gq_model.specs.machine.Step.{section_asked}
use Rattle.gq_model.specs.machine.Sums.{bank_price, donated, from_leaf, handed, held, lent, quota, received, slot_price, to_leaf}
use Rattle.gq_model.specs.machine.World.{Current, Leaf, Request, Session, World, joined, session_at}
use Rattle.gq_model.proofs.Small_facts.{equal_self, text_self}
use Rattle.gq_laws.specs.Session_links.{Stance, stance_in}
use Rattle.gq_laws.proofs.quota_payment.Init_quanta_bounded.{spent_same}
use Rattle.gq_machine.specs.Readers.{level_in, request_of, requested}
use Rattle.gq_traces.specs.Trace.{Standing, PrintedSession, Using, account_changes, at_hand, at_server, request_in, same_phase}
use Rattle.gq_traces.specs.Trace.{same_requested, same_standing, same_printed, same_using, session_change, session_changes, session_line, standing_of}
use Rattle.gq_traces.specs.Trace.{reported_in}
use Rattle.gq_traces.specs.Trace.{printed_session}
use Rattle.gq_traces.specs.declared.session_lines.Requested.{Requested}
use Rattle.gq_traces.specs.declared.session_lines.Requested.TheVariants.{Nothing, Waits, AtHand}
use Rattle.gq_traces.proofs.Same_phase_step.{KeepsFor, LeavesAll}

-- the x-th leaf is in the phase that it was in
pub record SamePhase (old new : World) (x : ℕ) : Type 0 where
  pub was : Leaf
  pub there : slice_get old.leaves x ≡ Some was
  pub is : Leaf
  pub here : slice_get new.leaves x ≡ Some is
  pub phase : is.phase ≡ was.phase

-- with what it held of each resource that is counted
pub record StaysSo (version : ℕ) (old new : World) (x : ℕ) (p : SamePhase old new x) : Type 0 where
  pub used : held Ram new x p.is ≡ held Ram old x p.was
  pub caps : counts_caps version ≡ true → held Caps new x p.is ≡ held Caps old x p.was

-- SUMS

-- the same at each place
sums_same : (f : Option Session → ℕ) → f None ≡ 0 → (items others : List (Option Session))
    → ((k : ℕ) → f (joined (slice_get items k)) ≡ f (joined (slice_get others k))) → sum_by f items ≡ sum_by f others
sums_same f none [] [] h = refl
sums_same f none [] (b ∷ others) h =
    let here = h zero in
    let further = sums_same f none [] others (λ k. h (suc k)) in
    omega (arith, here, further, none, sum_by-cons f b others)
sums_same f none (a ∷ items) [] h =
    let here = h zero in
    let further = sums_same f none items [] (λ k. h (suc k)) in
    omega (arith, here, further, none, sum_by-cons f a items)
sums_same f none (a ∷ items) (b ∷ others) h =
    let here = h zero in
    let further = sums_same f none items others (λ k. h (suc k)) in
    omega (arith, here, further, sum_by-cons f a items, sum_by-cons f b others)

module _ (x : ℕ) where
  donated_to : (r : Resource) (y : ℕ) (o new : Option Session) → KeepsFor x o new → to_leaf y (donated r) new ≡ to_leaf y (donated r) o
  donated_to r y None new keeps = ap (to_leaf y (donated r)) keeps
  donated_to r y (Some old) new keeps =
      ap (to_leaf y (donated r)) keeps.1 ∙ ap (λ (s : Session). cond (s.server == y) (part r s.donation) 0) keeps.2

  donated_from : (r : Resource) (y : ℕ) (o new : Option Session) → KeepsFor x o new → from_leaf y (donated r) new ≡ from_leaf y (donated r) o
  donated_from r y None new keeps = ap (from_leaf y (donated r)) keeps
  donated_from r y (Some old) new keeps =
      ap (from_leaf y (donated r)) keeps.1 ∙ ap (λ (s : Session). cond (s.client == y) (part r s.donation) 0) keeps.2

  bank_to : (r : Resource) (y : ℕ) → y ≢ x → (o new : Option Session) → KeepsFor x o new → to_leaf y (bank_price r) new ≡ to_leaf y (bank_price r) o
  bank_to r y ne None new keeps = ap (to_leaf y (bank_price r)) keeps
  bank_to r y ne (Some old) new keeps =
      let server = ap (λ (s : Session). s.server) keeps.2 in
      ap (to_leaf y (bank_price r)) keeps.1 ∙ (elim (eqb_tells old.server y) [
        | inl e ↦ (let price = keeps.3 (λ f. ne (sym e.1 ∙ f)) r in λ i. cond (server i == y) (price i) 0)
        | inr e ↦ ap (λ b. cond b (bank_price r keeps.0) 0) (ap (λ n. n == y) server ∙ e.0) ∙ sym (ap (λ b. cond b (bank_price r old) 0) e.0)
      ])

-- LEAVES

amounts_same : (version ram ram_old caps caps_old : ℕ) → ram ≡ ram_old → (counts_caps version ≡ true → caps ≡ caps_old)
    → amount_in version ram caps ≡ amount_in version ram_old caps_old
amounts_same version ram ram_old caps caps_old e f = elim (cases_Bool (counts_caps version)) [
  | inl t ↦ λ i. amount_in version (e i) (f t i)
  | inr t ↦ ap (λ n. amount_in version n caps) e
      ∙ (ap (λ b. record { ram = ram_old; caps = cond b caps 0 }) t ∙ sym (ap (λ b. record { ram = ram_old; caps = cond b caps_old 0 }) t))
]

phase_of : Option Stance → Phase → Phase
phase_of None p = p
phase_of (Some s) p = s.phase

handed_by : Option Stance → ℕ → ℕ
handed_by None q = 0
handed_by (Some s) q = handed s.phase q

handed_is : (o : Option Leaf) (q : ℕ) → handed_to o q ≡ handed_by (stance_in o) q
unfolding handed_by
handed_is None q = refl
handed_is (Some l) q = refl

module _ (version : ℕ) (w : World) (x : ℕ) (new : World) (h : LeavesAll w x new) where
  received_same : (r : Resource) (y : ℕ) → received r new y ≡ received r w y
  received_same r y = sums_same (to_leaf y (donated r)) refl new.sessions w.sessions
      (λ k. donated_to x r y (session_at w k) (session_at new k) (h.sessions k))

  lent_same : (r : Resource) (y : ℕ) → lent r new y ≡ lent r w y
  lent_same r y = sums_same (from_leaf y (donated r)) refl new.sessions w.sessions
      (λ k. donated_from x r y (session_at w k) (session_at new k) (h.sessions k))

  quota_same : (r : Resource) (y : ℕ) (c : Component) (old leaf : Leaf) → leaf.phase ≡ old.phase → quota r new y c leaf ≡ quota r w y c old
  quota_same r y c old leaf phase = λ i. handed (phase i) (part r c.node.quantum) + received_same r y i - lent_same r y i

  held_same : (r : Resource) (y : ℕ) → y ≢ x → (leaf : Leaf) → held r new y leaf ≡ held r w y leaf
  held_same r y ne leaf = ap (λ n. sum_by (slot_price r) leaf.slots + heap r leaf.peaks + n)
      (sums_same (to_leaf y (bank_price r)) refl new.sessions w.sessions (λ k. bank_to x r y ne (session_at w k) (session_at new k) (h.sessions k)))

  -- an account by its amounts
  abbrev stands : Amount → Amount → Phase → Standing
  stands quota used phase = record { quota = quota; leaf = Some (record { used = used; phase = phase }) }

  one_same : (y : ℕ) (c : Component) (old leaf : Leaf) (budget : ℕ) → leaf.phase ≡ old.phase → held Ram new y leaf ≡ held Ram w y old
      → (counts_caps version ≡ true → held Caps new y leaf ≡ held Caps w y old)
      → map standing_of (account_at version new y (Some c) (Some leaf) budget) ≡ map standing_of (account_at version w y (Some c) (Some old) budget)
  one_same y c old leaf budget phase ram caps =
      let quotas = amounts_same version (quota Ram new y c leaf) (quota Ram w y c old) (quota Caps new y c leaf) (quota Caps w y c old)
      (quota_same Ram y c old leaf phase) (λ e. quota_same Caps y c old leaf phase) in
      let used = amounts_same version (held Ram new y leaf) (held Ram w y old) (held Caps new y leaf) (held Caps w y old) ram caps in
      λ i. stands (quotas i) (used i) (phase i) ∷ []

  else_same : (y : ℕ) (c : Option Component) (o : Option Leaf) (budget : ℕ) → y ≢ x
      → map standing_of (account_at version new y c o budget) ≡ map standing_of (account_at version w y c o budget)
  else_same y None o budget ne = refl
  else_same y (Some c) None budget ne = refl
  else_same y (Some c) (Some leaf) budget ne = one_same y c leaf leaf budget refl (held_same Ram y ne leaf) (λ e. held_same Caps y ne leaf)

  handed_same : (y q : ℕ) → handed_to (slice_get new.leaves y) q ≡ handed_to (slice_get w.leaves y) q
  handed_same y q =
      handed_is (slice_get new.leaves y) q ∙ (ap (λ o. handed_by o q) (h.stances y) ∙ sym (handed_is (slice_get w.leaves y) q))

  pub init_same : (y : ℕ) (label : List ℕ) (quantum : Amount) (children : Nodes)
      → standing_of (init_account version new y label quantum children) ≡ standing_of (init_account version w y label quantum children)
  init_same y label quantum children =
      let q : (r : Resource) → init_quota r new y quantum children ≡ init_quota r w y quantum children =
      λ r. ap (λ n. part r quantum - n) (spent_same r w new handed_same y children) in
      λ i. record { quota = amount_in version (q Ram i) (q Caps i); leaf = None }

  -- the account of the y-th leaf stands as it stood
  abbrev pub StandsAt : System → List ℕ → ℕ → Type 0
  StandsAt all budgets y =
      map standing_of (account_at version new y (slice_get all.components y) (slice_get new.leaves y) (slice_index budgets y))
      ≡ map standing_of (account_at version w y (slice_get all.components y) (slice_get w.leaves y) (slice_index budgets y))

  pub else_stands : (all : System) (budgets : List ℕ) (y : ℕ) → y ≢ x → StandsAt all budgets y
  else_stands all budgets y ne =
      ap (λ o. map standing_of (account_at version new y (slice_get all.components y) o (slice_index budgets y))) (h.leaves y ne)
      ∙ else_same y (slice_get all.components y) (slice_get w.leaves y) (slice_index budgets y) ne

  -- so they all do, where those of their leaves do
  pub nodes_same : (all : System) (budgets : List ℕ) (y : ℕ) (label : List ℕ) (nodes : Nodes)
      → ((z : ℕ) → y ≤ z → z < y + leaf_count nodes → StandsAt all budgets z)
      → map standing_of (node_accounts version all new budgets y label nodes) ≡ map standing_of (node_accounts version all w budgets y label nodes)
  nodes_same all budgets y label End each = refl
  nodes_same all budgets y label (Leaf_node node rest) each =
      let here = each y (omega arith) (omega arith) in
      let later = nodes_same all budgets (suc y) label rest (λ z least less. each z (omega (arith, least)) (omega (arith, less))) in
      map-append standing_of (account_at version new y (slice_get all.components y) (slice_get new.leaves y) (slice_index budgets y))
      (node_accounts version all new budgets (suc y) label rest)
      ∙ ((λ i. here i ++ later i)
      ∙ sym (map-append standing_of (account_at version w y (slice_get all.components y) (slice_get w.leaves y) (slice_index budgets y))
      (node_accounts version all w budgets (suc y) label rest)))
  nodes_same all budgets y label (Init_node node children rest) each =
      let name = below label node.name in
      let inner = nodes_same all budgets y name children (λ z least less. each z least (omega (arith, less))) in
      let later = nodes_same all budgets (y + leaf_count children) label rest (λ z least less. each z (omega (arith, least)) (omega (arith, less))) in
      λ i. init_same y name node.quantum children i
      ∷ (map-append standing_of (node_accounts version all new budgets y name children)
      (node_accounts version all new budgets (y + leaf_count children) label rest)
      ∙ ((λ j. inner j ++ later j)
      ∙ sym (map-append standing_of (node_accounts version all w budgets y name children)
      (node_accounts version all w budgets (y + leaf_count children) label rest)))) i

-- every account stands as it stood
pub accounts_stand : (s : Scenario) (w : World) (x : ℕ) (new : World) → LeavesAll w x new → (p : SamePhase w new x) → StaysSo s.version w new x p
    → (budgets : List ℕ)
    → map standing_of (accounts s new budgets) ≡ map standing_of (accounts s w budgets)
accounts_stand s w x new h p so budgets =
    λ i. init_same s.version w x new h 0 (codes "init") s.total s.nodes i
    ∷ nodes_same s.version w x new h (system s) budgets 0 (codes "init") s.nodes (λ z least less. each z) i
  where
    each : (y : ℕ) → StandsAt s.version w x new h (system s) budgets y
    each y = elim (eqb_tells y x) [
      | inl e ↦ subst (StandsAt s.version w x new h (system s) budgets) (sym e.1) (by (slice_get (components s) x))
      | inr e ↦ else_stands s.version w x new h (system s) budgets y e.1
    ]
      where
        by : (c : Option Component) → map standing_of (account_at s.version new x c (slice_get new.leaves x) (slice_index budgets x))
            ≡ map standing_of (account_at s.version w x c (slice_get w.leaves x) (slice_index budgets x))
        by None = refl
        by (Some c) =
            ap (λ o. map standing_of (account_at s.version new x (Some c) o (slice_index budgets x))) p.here
            ∙ (one_same s.version w x new h x c p.was p.is (slice_index budgets x) p.phase so.used so.caps
            ∙ sym (ap (λ o. map standing_of (account_at s.version w x (Some c) o (slice_index budgets x))) p.there))

-- SESSIONS

module _ (w : World) (x : ℕ) (new : World) (h : LeavesAll w x new) where
  level_same : (o n : Option Session) → KeepsFor x o n → level_in n ≡ level_in o
  level_same None n keeps = ap level_in keeps
  level_same (Some old) n keeps = ap level_in keeps.1 ∙ ap (λ (s : Session). s.level) keeps.2

  requested_same : (r : Request) → requested new r ≡ requested w r
  requested_same r =
      ap (section_asked r.ask) (level_same (session_at w r.session) (session_at new r.session) (h.sessions r.session))

  current_of : Option Stance → Option Current
  current_of None = None
  current_of (Some s) = s.current

  hand_is : (k : ℕ) (o : Option Leaf) → at_server k o ≡ at_hand k (current_of (stance_in o))
  unfolding current_of
  hand_is k None = refl
  hand_is k (Some l) = refl

  request_same : (k server : ℕ) → request_in new k server (request_of k new.requests) ≡ request_in w k server (request_of k w.requests)
  request_same k server = ap (λ rs. request_in new k server (request_of k rs)) h.requests ∙ by (request_of k w.requests)
    where
      by : (o : Option Request) → request_in new k server o ≡ request_in w k server o
      by None = hand_is k (slice_get new.leaves server) ∙ (ap (λ o. at_hand k (current_of o)) (h.stances server) ∙ sym (hand_is k (slice_get w.leaves server)))
      by (Some r) = ap Waits (requested_same r)

  pub printed_same : (k : ℕ) → printed_session new k ≡ printed_session w k
  printed_same k = by (session_at w k) (session_at new k) (h.sessions k)
    where
      by : (o n : Option Session) → KeepsFor x o n → reported_in new k n ≡ reported_in w k o
      by None n keeps = ap (reported_in new k) keeps
      by (Some old) n keeps =
          ap (reported_in new k) keeps.1
          ∙ (ap (λ (s : Session). Some (record {
            client = s.client;
            server = s.server;
            service = s.service;
            level = s.level;
            donation = s.donation;
            requested = request_in new k s.server (request_of k new.requests);
          })) keeps.2
          ∙ ap (λ q. Some (record {
            client = old.client;
            server = old.server;
            service = old.service;
            level = old.level;
            donation = old.donation;
            requested = q;
          })) (request_same k old.server))

-- TEXTS

pub amount_self : (a : Amount) → same_amount a a ≡ true
amount_self a = λ i. equal_self a.ram i && equal_self a.caps i

pub phase_self : (p : Phase) → same_phase p p ≡ true
phase_self Pending = refl
phase_self Running = refl
phase_self Blocked = refl
phase_self Serving = refl
phase_self Handling = refl
phase_self Exited = refl

using_self : (o : Option Using) → same_using o o ≡ true
using_self None = refl
using_self (Some u) = λ i. amount_self u.used i && phase_self u.phase i

pub standing_self : (a : Standing) → same_standing a a ≡ true
standing_self a = λ i. amount_self a.quota i && using_self a.leaf i

-- no account stands otherwise
pub no_account_changes : (version : ℕ) (all : List Account) → account_changes version (map standing_of all) all ≡ []
no_account_changes version [] = refl
no_account_changes version (a ∷ rest) =
    λ i. cond (standing_self (standing_of a) i) [] (account_line version a) ++ no_account_changes version rest i

section_self : (s : Section) → same_section s s ≡ true
section_self Main = refl
section_self Opening = refl
section_self (Upgrading a) = equal_self a
section_self (Calling a) = equal_self a
section_self (Closing a) = equal_self a
section_self (Reacting a) = equal_self a

requested_self : (q : Requested) → same_requested q q ≡ true
requested_self Nothing = refl
requested_self (Waits s) = section_self s
requested_self (AtHand s) = section_self s

printed_self : (o : Option PrintedSession) → same_printed o o ≡ true
printed_self None = refl
printed_self (Some t) = λ i.
    equal_self t.client i && equal_self t.server i && text_self t.service i && equal_self t.level i && amount_self t.donation i
    && requested_self t.requested i

-- no session is another one
pub no_session_changes : (version : ℕ) (all : System) (old new : World) → ((k : ℕ) → printed_session new k ≡ printed_session old k) → (k n : ℕ)
    → session_changes version all old new k n ≡ []
no_session_changes version all old new same k zero = refl
no_session_changes version all old new same k (suc n) =
    λ i. no_change k i ++ no_session_changes version all old new same (suc k) n i
  where
    no_change : (k : ℕ) → session_change version all old new k ≡ []
    no_change k =
        ap (λ b. cond b [] (session_line version all k (printed_session new k)))
        (ap (λ o. same_printed o (printed_session new k)) (sym (same k)) ∙ printed_self (printed_session new k))
