-- The table of accounts.
use Rattle.std.specs.Prelude.{◌≡◌, ℕ, ◌+◌, ◌-◌, Result, IfErr, OnOk, List, [], ◌∷◌, Option, Some, None, Bool, true, false}
use Rattle.std.specs.Prelude.{nat_eq, nat_lt, if◌then◌else◌, get_or, slice_set, is_some, IsTrue}
use Rattle.gq_tariff.specs.Prices.{up}
use Rattle.gq_tariff.specs.declared.amount.Amount.{Amount}
use Rattle.gq_ram.specs.declared.account.Account.{Account}
use Rattle.gq_store.specs.declared.AccountNo.{AccountNo}
use Rattle.gq_ram.specs.declared.account.AccountFault.{AccountFault}
use Rattle.gq_ram.specs.declared.account.AccountFault.TheVariants.{NotRelated, Exceeded, ZeroSize, HasMembers, IsRoot, CapsExceeded}

-- an account for each number, or None where there is none
abbrev pub Entries : Type 0
Entries = List (Option Account)

abbrev pub no_amount : Amount
no_amount = record { ram = 0; caps = 0 }

abbrev pub no_account : Account
no_account = record { quota = no_amount; used = no_amount; reference = None }

abbrev pub its_account : Option Account → Account
its_account None = no_account
its_account (Some a) = a

-- an account as it is opened
abbrev pub first_account : AccountNo → Account
first_account r = record { quota = no_amount; used = no_amount; reference = Some r }

-- the account of that number
abbrev pub account_at : Entries → ℕ → Account
account_at es k = its_account (get_or es k None)

-- there is an account of that number
abbrev pub IsOpen : Entries → ℕ → Type 0
IsOpen es k = IsTrue (is_some (get_or es k None))

-- an amount of each account, summed
abbrev pub sum_over : (Account → ℕ) → Entries → ℕ
sum_over f [] = 0
sum_over f (None ∷ es) = sum_over f es
sum_over f (Some a ∷ es) = f a + sum_over f es

-- an account with another quota
abbrev pub with_amount : Account → Amount → Account
with_amount a q = record { quota = q; used = a.used; reference = a.reference }

abbrev pub with_quota : Account → ℕ → Account
with_quota a n = with_amount a (record { ram = n; caps = a.quota.caps })

abbrev pub with_caps : Account → ℕ → Account
with_caps a n = with_amount a (record { ram = a.quota.ram; caps = n })

abbrev pub with_use : Account → ℕ → ℕ → Account
with_use a n c = record { quota = a.quota; used = record { ram = n; caps = c }; reference = a.reference }

-- an account uses n bytes and c capabilities more
abbrev pub charged : Entries → ℕ → ℕ → ℕ → Entries
charged es a n c = slice_set es a (Some (with_use (account_at es a) ((account_at es a).used.ram + n) ((account_at es a).used.caps + c)))

-- an account uses n bytes and c capabilities less
abbrev pub relieved : Entries → ℕ → ℕ → ℕ → Entries
relieved es a n c = slice_set es a (Some (with_use (account_at es a) ((account_at es a).used.ram - n) ((account_at es a).used.caps - c)))

-- two accounts with these quotas
abbrev pub quotas_set : Entries → ℕ → Amount → ℕ → Amount → Entries
quotas_set es from less to more =
    slice_set (slice_set es from (Some (with_amount (account_at es from) less))) to (Some (with_amount (account_at es to) more))

-- quota of both kinds goes from one account to another
abbrev pub passed : Entries → ℕ → ℕ → Amount → Entries
passed es from to n =
    let less : Amount = record { ram = (account_at es from).quota.ram - n.ram; caps = (account_at es from).quota.caps - n.caps } in
    quotas_set es from less to (record { ram = (account_at es to).quota.ram + n.ram; caps = (account_at es to).quota.caps + n.caps })

-- what an account can still pay
abbrev pub available : Account → ℕ
available a = a.quota.ram - a.used.ram

abbrev pub available_caps : Account → ℕ
available_caps a = a.quota.caps - a.used.caps

abbrev pub remaining : Account → Amount
remaining a = record { ram = available a; caps = available_caps a }

-- WHEN CALLS ARE REFUSED

-- a call is refused for this, and not refused where there is no refusal
pub record IsRefusedFor {A : Type 0} (r : Result A AccountFault) (refusal : Option AccountFault) : Type 0 where
  pub refused : IfErr r (λ fault. refusal ≡ Some fault)
  pub allowed : OnOk r (refusal ≡ None)

-- there is that account, and it is b
abbrev pub is_it : Option AccountNo → AccountNo → Bool
is_it None b = false
is_it (Some r) b = nat_eq r.0 b.0

-- one of the two is the other's reference account
abbrev pub are_related : Entries → AccountNo → AccountNo → Bool
are_related es a b = if is_it (account_at es a.0).reference b then true else is_it (account_at es b.0).reference a

-- the account a is the reference account of another one
abbrev pub has_members : Entries → AccountNo → Bool
has_members [] a = false
has_members (x ∷ es) a = if is_it (its_account x).reference a then true else has_members es a

-- what there is too little of, where so much is asked for of what there is: bytes first
abbrev pub shortage : Amount → Amount → Option AccountFault
shortage there asked = if nat_lt there.ram asked.ram then Some Exceeded else if nat_lt there.caps asked.caps then Some CapsExceeded else None

-- what counts of an amount: where the price of a dataspace is 0, capabilities are not counted
abbrev pub counted : ℕ → Amount → Amount
counted price n = record { ram = n.ram; caps = if nat_eq price 0 then 0 else n.caps }

abbrev pub transfer_refusal : Entries → ℕ → AccountNo → AccountNo → Amount → Option AccountFault
transfer_refusal es price from to n =
    if are_related es from to then shortage (remaining (account_at es from.0)) (counted price n) else Some NotRelated

abbrev pub alloc_refusal : Account → ℕ → ℕ → Option AccountFault
alloc_refusal a price n = if nat_lt 0 n then shortage (remaining a) (record { ram = up n; caps = price }) else Some ZeroSize

abbrev pub close_refusal : Entries → AccountNo → Option AccountFault
close_refusal es a = if is_some (account_at es a.0).reference then (if has_members es a then Some HasMembers else None) else Some IsRoot

-- an account whose quota goes to its reference account
abbrev pub left_to : Entries → ℕ → ℕ → Entries
left_to es a r =
    let more : Account = with_quota (account_at es r) ((account_at es r).quota.ram + (account_at es a).quota.ram) in
    slice_set (slice_set es a None) r (Some (with_caps more ((account_at es r).quota.caps + (account_at es a).quota.caps)))
