-- Donations: accounts stay open, and a store has other amounts left.
use Rattle.std.proofs.Common.{◌≡◌, ℕ, Option, Result, Ok, Err, OnOk, OnErr, sym, subst}
use Rattle.gq_tariff.specs.declared.amount.Amount.{Amount}
use Rattle.gq_store.specs.Store.{Store}
use Rattle.gq_ram.specs.Account_table.{IsOpen}
use Rattle.gq_ram.specs.Ledgers.{Ledger, with_accounts}
use Rattle.gq_ram.specs.Account_tree.{moved}
use Rattle.gq_ram.proofs.Quota_move_sequences.{still_open}

-- accounts that are open stay open
pub open_after : {E : Type 0} (r : Result (Unit {0}) E) (l m : Ledger) (f t : ℕ) (n : Amount) (a : ℕ)
    → OnOk r (m ≡ with_accounts l (moved l.accounts f t n)) → OnErr r (m ≡ l) → IsOpen l.accounts a → IsOpen m.accounts a
open_after (Ok u) l m f t n a ok err h = subst (λ (x : Ledger). IsOpen x.accounts a) (sym ok) (still_open l.accounts f t n a h)
open_after (Err e) l m f t n a ok err h = subst (λ (x : Ledger). IsOpen x.accounts a) (sym err) h

-- a store with other amounts left
abbrev pub with_left : Store → ℕ → Option ℕ → Store
with_left st n c = record { byte = st.byte; size = st.size; left = n; caps = c }
