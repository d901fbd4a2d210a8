-- What is promised of every run of an accepted scenario, of each world in it.
use Rattle.std.specs.Prelude.{◌≡◌, ℕ, ◌+◌, ◌≤◌, true, List, [], ◌∷◌, ◌++◌, Option, Some, None, Ok, slice_get, sum_by}
use Rattle.gq_model.specs.machine.Amounts.{Resource, Amount, part}
use Rattle.gq_model.specs.machine.Scenario.{Interface, Scenario, System, Component, components, system, interface_in}
use Rattle.gq_model.specs.rules.Kinds.{need_of}
use Rattle.gq_model.specs.machine.Program.{Done}
use Rattle.gq_model.specs.machine.Sections.{Closing}
use Rattle.gq_model.specs.machine.World.{Session, Handling, Leaf, World, session_at}
use Rattle.gq_model.specs.machine.Sums.{bank_price, to_leaf, held, lent, received, quota, paid}
use Rattle.gq_model.specs.machine.Doing.{Event}
use Rattle.gq_model.specs.machine.Step.{all_empty, next}
use Rattle.gq_model.specs.machine.Run.{Turns, Sets, Submits, Acts, run}
use Rattle.gq_model.specs.machine.Accounts.{LeafAccount, Account, accounts, account_lines, whole}
use Rattle.gq_model.specs.machine.Step_budgets.{steps_in, all_steps_in}
use Rattle.gq_model.specs.rules.Accept.{Budget, budget, budgets, step_budgets, are_small}

-- so it is for each of these resources
abbrev pub EachOf : List Resource → (Resource → Type 0) → Type 0
EachOf [] P = Unit {0}
EachOf (r ∷ resources) P = P r × EachOf resources P

-- BUDGETS

-- what a service needs for a session of a level
abbrev pub need_at : Resource → Option Interface → ℕ → ℕ
need_at r None level = 0
need_at r (Some i) level = part r (need_of i level)

-- what the sessions to a leaf need together
abbrev pub needed : Resource → System → World → ℕ → ℕ
needed r system w x = sum_by (to_leaf x (λ s. need_at r (interface_in s.service system.interfaces) s.level)) w.sessions

abbrev pub budget_of : Scenario → ℕ → Component → Budget
budget_of s x c = budget s.version (system s) x c

-- what a leaf holds and has lent is within its own budget and the needs of the sessions to it, and these are within its quantum and what it has received
pub record StaysWithin (s : Scenario) (w : World) (x : ℕ) (c : Component) (leaf : Leaf) (r : Resource) : Type 0 where
  pub within_budget : held r w x leaf + lent r w x ≤ part r (budget_of s x c).own + needed r (system s) w x
  pub budget_is_paid : part r (budget_of s x c).own + needed r (system s) w x ≤ part r c.node.quantum + received r w x

-- the leaf of a component keeps the budget that is reported of it: of steps, which are limited for the start and for each signal, and of each resource that
-- is counted
pub record KeepsBudget (s : Scenario) (w : World) (x : ℕ) (c : Component) : Type 0 where
  pub leaf : Leaf
  pub there : slice_get w.leaves x ≡ Some leaf
  pub reported : slice_get (budgets s) x ≡ Some (budget_of s x c)
  pub steps : leaf.steps ≤ steps_in w (budget_of s x c).steps
  pub limited : are_small (budget_of s x c).steps ≡ true
  pub bytes_and_caps : EachOf (system s).counted (StaysWithin s w x c leaf)

-- QUOTAS

-- the quotas of all nodes sum to what the root was given, whatever step budgets are reported with them
abbrev pub SumsToTotal : Scenario → World → Resource → Type 0
SumsToTotal s w r = (reported : List ℕ) → sum_by (λ a. part r a.quota) (accounts s w reported) ≡ part r s.total

-- the quota of a leaf that is there
abbrev pub quota_of : Resource → World → ℕ → Option Component → Option Leaf → ℕ
quota_of r w x (Some c) (Some leaf) = quota r w x c leaf
quota_of r w x (Some c) None = 0
quota_of r w x None leaf = 0

abbrev pub quota_at : Resource → Scenario → World → ℕ → ℕ
quota_at r s w x = quota_of r w x (slice_get (components s) x) (slice_get w.leaves x)

-- what a leaf holds, if it is there
abbrev pub held_of : Resource → World → ℕ → Option Leaf → ℕ
held_of r w x None = 0
held_of r w x (Some leaf) = held r w x leaf

abbrev pub held_at : Resource → World → ℕ → ℕ
held_at r w x = held_of r w x (slice_get w.leaves x)

-- CLOSES

-- the client has the whole donation back; the server has it no more, and what it holds falls by what the session's object and slots cost
pub record GivesBack (s : Scenario) (old new : World) (session : Session) (r : Resource) : Type 0 where
  pub client : quota_at r s new session.client ≡ quota_at r s old session.client + part r session.donation
  pub server : quota_at r s new session.server + part r session.donation ≡ quota_at r s old session.server
  pub held : held_at r new session.server + bank_price r session ≡ held_at r old session.server

-- the session had nothing in its slots, and of each resource that is counted all that was given for it and held for it goes back
pub record IsClosed (s : Scenario) (old new : World) (session : Session) : Type 0 where
  pub empty : all_empty session.slots ≡ true
  pub gives_back : EachOf (system s).counted (GivesBack s old new session)

-- so it is in the step that ends a session
abbrev pub ClosesWhole : Scenario → World → Type 0
ClosesWhole s w =
    (x k : ℕ) (session : Session) (new : World) (event : Event) → next (system s) w x ≡ Ok (new, event) → session_at w k ≡ Some session
    → session_at new k ≡ None → IsClosed s w new session

-- the leaf is at the end of a close of the k-th session
pub record RepliesToClose (w : World) (x k : ℕ) : Type 0 where
  pub leaf : Leaf
  pub there : slice_get w.leaves x ≡ Some leaf
  pub phase : leaf.phase ≡ Handling
  pub level : ℕ
  pub current : leaf.current ≡ Some (record { session = k; section = Closing level })
  pub todo : leaf.todo ≡ Done
  pub loops : leaf.loops ≡ []

-- the reply to a close ends its session
abbrev pub EndsSessions : Scenario → World → Type 0
EndsSessions s w =
    (x k : ℕ) (new : World) (event : Event) → RepliesToClose w x k → next (system s) w x ≡ Ok (new, event) → session_at new k ≡ None

-- ACCOUNTS

-- a leaf has used no more than its quota, of bytes and of capabilities, and taken no more steps than its budget
pub record KeepsAccount (quota : Amount) (a : LeafAccount) : Type 0 where
  pub bytes : a.used.ram ≤ quota.ram
  pub caps : a.used.caps ≤ quota.caps
  pub steps : a.steps ≤ a.budget

abbrev pub KeepsQuota : Amount → Option LeafAccount → Type 0
KeepsQuota quota None = Unit {0}
KeepsQuota quota (Some a) = KeepsAccount quota a

abbrev pub AllKeep : List Account → Type 0
AllKeep [] = Unit {0}
AllKeep (a ∷ rest) = KeepsQuota a.quota a.leaf × AllKeep rest

-- so it is in each account that is reported of a world
abbrev pub KeepsAccounts : Scenario → World → Type 0
KeepsAccounts s w = AllKeep (accounts s w (all_steps_in w (step_budgets (budgets s))))

-- WORLDS AND RUNS

-- in a world any leaf can take its turn, all is paid for, each leaf has kept its budget, the quotas sum to the total, a session that ends gives back
-- all that was given and held for it, and the reply to a close ends its session
pub record IsUpheld (s : Scenario) (w : World) : Type 0 where
  pub goes_on : (x : ℕ) → (p : World × Event) × (next (system s) w x ≡ Ok p)
  pub is_paid : paid (system s) w ≡ true
  pub keeps_budgets : (x : ℕ) (c : Component) → slice_get (components s) x ≡ Some c → KeepsBudget s w x c
  pub quotas_sum : EachOf (system s).counted (SumsToTotal s w)
  pub closes : ClosesWhole s w
  pub ends : EndsSessions s w

-- these turns, settings and signals came to no wrong step, the world after them and each on the way is such a one, and the text is whole: all lines,
-- then the accounts
pub record Upholds (s : Scenario) (turns : Acts) : Type 0 where
  pub never_wrong : (run (system s) turns).wrong ≡ None
  pub in_world : IsUpheld s (run (system s) turns).world
  -- and so is each world on the way, after n of the steps of any of these turns
  pub on_the_way : (before after : Acts) (x n m : ℕ) → turns ≡ before ++ (x, Turns (n + m)) ∷ after
      → IsUpheld s (run (system s) (before ++ (x, Turns n) ∷ [])).world
  -- and the one after any of these settings
  pub after_settings : (before after : Acts) (x i n : ℕ) → turns ≡ before ++ (x, Sets i n) ∷ after
      → IsUpheld s (run (system s) (before ++ (x, Sets i n) ∷ [])).world
  -- and the one after any of these signals
  pub after_signals : (before after : Acts) (x i : ℕ) → turns ≡ before ++ (x, Submits i) ∷ after
      → IsUpheld s (run (system s) (before ++ (x, Submits i) ∷ [])).world
  pub writes_all : whole s (step_budgets (budgets s)) turns ≡ (run (system s) turns).text
      ++ account_lines s.version (accounts s (run (system s) turns).world (all_steps_in (run (system s) turns).world (step_budgets (budgets s))))
