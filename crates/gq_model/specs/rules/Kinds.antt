-- What is known of slots and operands before a program runs.
use Rattle.std.specs.Prelude.{ℕ, ◌+◌, ◌==◌, if◌then◌else◌, Bool, true, false, ◌&&◌, List, [], ◌∷◌, replicate, take, Option, Some, None, slice_get, slice_set}
use Rattle.std.specs.Prelude.{sum_by}
use Rattle.gq_model.specs.machine.Amounts.{Resource, Amount, part, plus, total, same_amount}
use Rattle.gq_model.specs.machine.Program.{OperandSlot, Own, Shared, Object, Form, Block, Slice, Space, Program, text_eq}
use Rattle.gq_model.specs.machine.Sections.{Section, is_own_section}
use Rattle.gq_tariff.specs.Prices.{size_for}
use Rattle.gq_model.specs.machine.Resource_prices.{price_memory, price_pool}
use Rattle.gq_model.specs.machine.Scenario.{Interface, Interfaces, number_of}

-- a slot's kind: a link has its session's service, level and what was given for it
pub data Kind : Type 0 where
  Empty_kind : Kind
  Memory : (form : Form) (n : ℕ) → Kind
  Pool_kind : (n m : ℕ) → Kind
  Link_kind : (service : List ℕ) (level : ℕ) (given : Amount) → Kind

-- what is known before a statement: the kinds in both banks, and the greatest value of each operand
pub record AbstractState : Type 0 where
  pub own : List Kind
  pub bank : List Kind
  pub bounds : List ℕ

-- what a program is judged by: the interface that it provides, all interfaces, the greatest values of its inputs, and the number of its signals
pub record Subject : Type 0 where
  pub program : Program
  pub provided : Option Interface
  pub interfaces : Interfaces
  pub inputs : List ℕ
  pub signals : ℕ

-- where a statement stands: its section, and the counts of the loops around it, the innermost first
pub record Context : Type 0 where
  pub subject : Subject
  pub section : Section
  pub counts : List ℕ

-- a statement in a further loop of n rounds
abbrev pub inside : Context → ℕ → Context
inside c n = record c { counts = n ∷ c.counts }

-- EQUAL KINDS

abbrev pub same_kind : Kind → Kind → Bool
same_kind Empty_kind Empty_kind = true
same_kind (Memory Block n) (Memory Block m) = n == m
same_kind (Memory Slice n) (Memory Slice m) = n == m
same_kind (Memory Space n) (Memory Space m) = n == m
same_kind (Pool_kind n m) (Pool_kind n' m') = n == n' && m == m'
same_kind (Link_kind s l a) (Link_kind s' l' a') = text_eq s s' && l == l' && same_amount a a'
same_kind _ _ = false

abbrev pub same_kinds : List Kind → List Kind → Bool
same_kinds [] [] = true
same_kinds (k ∷ ks) (l ∷ ls) = same_kind k l && same_kinds ks ls
same_kinds [] (l ∷ ls) = false
same_kinds (k ∷ ks) [] = false

-- SLOTS

abbrev pub no_kinds : List Kind
no_kinds = replicate 8 Empty_kind

abbrev pub own_empty : List Kind
own_empty = replicate 64 Empty_kind

-- a session's slots and its object are there where one is current
abbrev pub kind_at : Context → AbstractState → OperandSlot → Option Kind
kind_at c s (Own i) = slice_get s.own i
kind_at c s (Shared i) = if is_own_section c.section then None else slice_get s.bank i
kind_at c s Object = if is_own_section c.section then None else Some (Memory Slice (number_of c.subject.provided (λ i. i.object)))

abbrev pub with_kind : AbstractState → OperandSlot → Kind → AbstractState
with_kind s (Own i) kind = record s { own = slice_set s.own i kind }
with_kind s (Shared i) kind = record s { bank = slice_set s.bank i kind }
with_kind s Object kind = s

-- PRICES

abbrev pub kind_price : Resource → Kind → ℕ
kind_price r (Memory form n) = price_memory r form n
kind_price r (Pool_kind n m) = price_pool r m
kind_price r _ = 0

abbrev pub kind_lent : Resource → Kind → ℕ
kind_lent r (Link_kind service level given) = part r given
kind_lent r _ = 0

-- what these slots hold and have lent
abbrev pub kinds_cost : Resource → List Kind → ℕ
kinds_cost r kinds = sum_by (kind_price r) kinds + sum_by (kind_lent r) kinds

-- places of the heap's class c, where a pool counts as full
abbrev pub kind_places : ℕ → Kind → ℕ
kind_places c (Memory Block n) = if size_for n == c then 1 else 0
kind_places c (Pool_kind n m) = if size_for n == c then m else 0
kind_places c _ = 0

-- what a client gives for a session of this level
abbrev pub need_of : Interface → ℕ → Amount
need_of i level = plus i.need (total (take level i.upgrades))

-- what a session costs its server: the object and the slots
abbrev pub session_cost : Resource → Interface → List Kind → ℕ
session_cost r i bank = price_memory r Slice i.object + kinds_cost r bank
