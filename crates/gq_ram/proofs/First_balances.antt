-- What is balanced at first: the root account has all quota, and each frame is free.
use Rattle.std.proofs.Common.{◌≡◌, ℕ, zero, suc, ◌+◌, ◌/◌, ◌%◌, ◌≤◌, List, [], ◌∷◌, length, replicate, get_or, Option, Some, None, not, cond, is_some, refl}
use Rattle.std.proofs.Common.{sym, ap, ◌∙◌, arith, IfSome}
use Rattle.std.proofs.lemmas.List.{length-replicate}
use Rattle.std.proofs.lemmas.List.Recursion.{is_count_by}
use Rattle.gq_pages.specs.Frame_map.{Frames, all_free, count_free, has_bytes}
use Rattle.gq_dataspace.specs.Dataspaces.{Contents}
use Rattle.gq_ram.specs.declared.account.Account.{Account}
use Rattle.gq_store.specs.declared.AccountNo.{AccountNo}
use Rattle.gq_ram.specs.Account_table.{Entries, account_at, no_account, no_amount}
use Rattle.gq_ram.specs.Owning.{Owners, owned}
use Rattle.gq_ram.specs.Ledgers.{Ledger, IsBalanced, first_ledger, price_where, caps_where}
use Rattle.gq_ram.proofs.Account_sums.{owned_none}
use Rattle.gq_ram.proofs.Balances_after_calls.{HasReference}

pub get_none : {A : Type 0} → (n k : ℕ) → get_or (replicate {A = Option A} n None) k None ≡ None
get_none zero k = refl
get_none (suc n) zero = refl
get_none (suc n) (suc k) = get_none n k

-- how many are free, by recursion
free_in : Frames → ℕ
free_in [] = 0
free_in (None ∷ fs) = 1 + free_in fs
free_in (Some bs ∷ fs) = free_in fs

free_more : (f : Option (List ℕ)) (fs : Frames) → free_in (f ∷ fs) ≡ cond (not (has_bytes f)) (1 + free_in fs) (free_in fs)
unfolding free_in
free_more None fs = refl
free_more (Some bs) fs = refl

free_in_none : (n : ℕ) → free_in (replicate n None) ≡ n
unfolding free_in
free_in_none zero = refl
free_in_none (suc n) = omega (arith, free_in_none n)

count_none : (n : ℕ) → count_free (replicate n None) ≡ n
unfolding free_in
count_none n = sym (is_count_by free_in (λ f. not (has_bytes f)) refl free_more (replicate n None)) ∙ free_in_none n

pub count_all_free : (n : ℕ) → count_free (all_free n) ≡ n
unfolding all_free
count_all_free n = count_none n

pub length_all_free : (n : ℕ) → length (all_free n) ≡ n
unfolding all_free
length_all_free n = length-replicate n None

free_at : (n k : ℕ) → get_or (all_free n) k None ≡ None
unfolding all_free
free_at n k = get_none n k

-- nobody owns a dataspace
owned_first : (f : List ℕ → ℕ) (a n : ℕ) (ss : Contents) → owned f a ss (replicate n None) ≡ 0
owned_first f a n ss = owned_none f (record { 0 = a }) ss (replicate n None) (λ k e. cc (sym (get_none {A = AccountNo} n k) ∙ e))

price_small : (caps : Option ℕ) → price_where caps ≤ 1
price_small None = omega arith
price_small (Some n) = omega arith

caps_small : (caps : Option ℕ) → IfSome caps (λ n. (1 ≤ n) × (n ≤ 65536)) → caps_where caps ≤ 65536
caps_small None h = omega arith
caps_small (Some n) h = h.1

-- what holds of the only account
of_root : (P : ℕ → Account → Type 0) (x : Account) → ((a : ℕ) → P a x) → ((a : ℕ) → P a no_account) → (a : ℕ) → P a (account_at (Some x ∷ []) a)
of_root P x its none zero = its zero
of_root P x its none (suc a) = none (suc a)

pub first_balanced : (total : ℕ) (caps : Option ℕ) → total ≤ 67108864 → total % 4096 ≡ 0 → IfSome caps (λ n. (1 ≤ n) × (n ≤ 65536))
    → IsBalanced (first_ledger total caps)
first_balanced total caps small whole few =
    let n : ℕ = total / 4096 in let ss : Contents = all_free n in let os : Owners = replicate n None in let es : Entries = (first_ledger total caps).accounts in
    let x : Account = record { quota = record { ram = total; caps = caps_where caps }; used = no_amount; reference = None } in
    record {
      quotas = omega arith;
      caps = omega arith;
      pages = omega (arith, whole);
      used = of_root (λ a z. z.used.ram ≡ owned length a ss os) x (λ a. sym (owned_first length a n ss)) (λ a. sym (owned_first length a n ss));
      caps_used = of_root (λ a z. z.used.caps ≡ owned (λ _. price_where caps) a ss os) x (λ a. sym (owned_first (λ _. price_where caps) a n ss))
          (λ a. sym (owned_first (λ _. price_where caps) a n ss));
      within = of_root (λ a z. z.used.ram ≤ z.quota.ram) x (λ a. omega arith) (λ a. omega arith);
      caps_within = of_root (λ a z. z.used.caps ≤ z.quota.caps) x (λ a. omega arith) (λ a. omega arith);
      small = small;
      small_caps = caps_small caps few;
      priced = price_small caps;
      references = of_root (HasReference es) x (λ a r e. cc e) (λ a r e. cc e);
      root = (refl, refl);
      tables = length-replicate {A = Option AccountNo} n None ∙ sym (length_all_free n);
      few = omega (arith, length-replicate {A = Option AccountNo} n None, small);
      live = λ k. ap (λ (o : Option AccountNo). is_some o) (get_none n k) ∙ sym (ap has_bytes (free_at n k));
    }

pub first_is : (l : Ledger) (total : ℕ) (caps : Option ℕ) → l.accounts ≡ Some (record {
  quota = record { ram = total; caps = l.total_caps };
  used = no_amount;
  reference = None;
}) ∷ []
    → l.spaces.spaces ≡ all_free (total / 4096) → l.spaces.free ≡ total / 4096 → l.owners ≡ replicate (total / 4096) None → l.price ≡ price_where caps
    → l.total ≡ total → l.total_caps ≡ caps_where caps
    → l ≡ first_ledger total caps
first_is l total caps accounts spaces free owners price whole its =
    let all : l.accounts ≡ (first_ledger total caps).accounts = accounts
    ∙ ap (λ (n : ℕ). Some (record { quota = record { ram = total; caps = n }; used = no_amount; reference = None }) ∷ []) its in
    λ i. record {
      accounts = all i;
      spaces = record { spaces = spaces i; free = free i };
      owners = owners i;
      price = price i;
      total = whole i;
      total_caps = its i;
    }
