-- What is left balanced where dataspaces come and go.
use Rattle.std.proofs.Common.{◌≡◌, ℕ, ◌+◌, ◌-◌, ◌*◌, ◌<◌, ◌≤◌, inl, inr, List, length, set, get_or, Option, Some, None, is_some, refl, sym, ap, subst, ◌∙◌}
use Rattle.std.proofs.Common.{arith, length-set}
use Rattle.std.proofs.lemmas.Bool.{cases_eq}
use Rattle.std.proofs.lemmas.List.{length-replicate, get_or-set_same, get_or-set_other}
use Rattle.gq_pages.specs.Frame_bytes.{zeros}
use Rattle.gq_pages.specs.Frame_map.{has_bytes}
use Rattle.gq_dataspace.specs.Dataspaces.{Contents, Dataspaces}
use Rattle.gq_ram.specs.declared.account.Account.{Account}
use Rattle.gq_store.specs.declared.AccountNo.{AccountNo}
use Rattle.gq_ram.specs.Account_table.{Entries, account_at, its_account, with_use, IsOpen}
use Rattle.gq_ram.specs.Owning.{Owners, share, owned}
use Rattle.gq_ram.specs.Ledgers.{Ledger, IsBalanced}
use Rattle.gq_ram.proofs.Account_sums.{open_there, sum_put, each_set, open_put, owned_set, share_own, share_other}
use Rattle.gq_ram.proofs.Balances_after_calls.{HasReference}

pub length_zeros : (n : ℕ) → length (zeros n) ≡ n
unfolding zeros
length_zeros n = length-replicate n 0

-- dataspaces by their two fields
pub of_fields : (d : Dataspaces) (ss : Contents) → d.spaces ≡ ss → d ≡ record { spaces = ss; free = d.free }
of_fields d ss e = λ i. record { spaces = e i; free = d.free }

-- the dataspace k of the account a is made, of bytes bs
abbrev pub spent : Ledger → AccountNo → ℕ → List ℕ → ℕ → Ledger
spent l a k bs free = record {
  accounts = set l.accounts a.0 (Some (with_use (account_at l.accounts a.0) ((account_at l.accounts a.0).used.ram + length bs)
      ((account_at l.accounts a.0).used.caps + l.price)));
  spaces = record { spaces = set l.spaces.spaces k (Some bs); free = free };
  owners = set l.owners k (Some a);
  price = l.price;
  total = l.total;
  total_caps = l.total_caps;
}

owned_more : (f : List ℕ → ℕ) (b : ℕ) (ss : Contents) (os : Owners) (k : ℕ) (bs : List ℕ) (a : AccountNo) → k < length ss → length os ≡ length ss
    → get_or ss k None ≡ None
    → owned f b (set ss k (Some bs)) (set os k (Some a)) ≡ owned f b ss os + share f b (Some bs) (Some a)
owned_more f b ss os k bs a lt n vacant =
    let z : share f b (get_or ss k None) (get_or os k None) ≡ 0 = ap (λ (s : Option (List ℕ)). share f b s (get_or os k None)) vacant in
    omega (arith, owned_set f b ss os k (Some bs) (Some a) lt n, z)

pub live_both : (os : Owners) (ss : Contents) (k : ℕ) (o : Option AccountNo) (s : Option (List ℕ)) → k < length os → length os ≡ length ss
    → is_some o ≡ has_bytes s
    → ((j : ℕ) → is_some (get_or os j None) ≡ has_bytes (get_or ss j None)) → (j : ℕ)
    → is_some (get_or (set os k o) j None) ≡ has_bytes (get_or (set ss k s) j None)
live_both os ss k o s lt n here each j = elim (cases_eq j k) [
  | inl e ↦ rw e (ap (λ (x : Option AccountNo). is_some x) (get_or-set_same os k o None lt) ∙ here
      ∙ sym (ap has_bytes (get_or-set_same ss k s None (omega (arith, lt, n)))))
  | inr other ↦ ap (λ (x : Option AccountNo). is_some x) (get_or-set_other os k j o None other) ∙ each j
      ∙ sym (ap has_bytes (get_or-set_other ss k j s None other))
]

pub spent_balanced : (l : Ledger) (a : AccountNo) (k : ℕ) (bs : List ℕ) (free : ℕ) → IsBalanced l → IsOpen l.accounts a.0 → k < length l.spaces.spaces
    → get_or l.spaces.spaces k None ≡ None
    → l.spaces.free * 4096 ≡ free * 4096 + length bs → length bs ≤ (account_at l.accounts a.0).quota.ram - (account_at l.accounts a.0).used.ram
    → l.price ≤ (account_at l.accounts a.0).quota.caps - (account_at l.accounts a.0).used.caps → IsBalanced (spent l a k bs free)
spent_balanced l a k bs free b open_a lt vacant paid enough capable =
    let es : Entries = l.accounts in let x : Account = account_at es a.0 in let ss : Contents = l.spaces.spaces in let os : Owners = l.owners in
    let y : Account = with_use x (x.used.ram + length bs) (x.used.caps + l.price) in let es' : Entries = set es a.0 (Some y) in
    let alt : a.0 < length es = open_there es a.0 open_a in let klt : k < length os = omega (arith, lt, b.tables) in
    let w : x.used.ram ≤ x.quota.ram = b.within a.0 in let v : x.used.caps ≤ x.quota.caps = b.caps_within a.0 in
    let more : (f : List ℕ → ℕ) (j : ℕ) → owned f j (set ss k (Some bs)) (set os k (Some a)) ≡ owned f j ss os + share f j (Some bs) (Some a) =
    λ f j. owned_more f j ss os k bs a lt b.tables vacant in
    let grown : (f : List ℕ → ℕ) (g : Account → ℕ) → ((j : ℕ) → g (account_at es j) ≡ owned f j ss os) → g y ≡ g x + f bs → (j : ℕ)
    → g (account_at es' j) ≡ owned f j (set ss k (Some bs)) (set os k (Some a)) =
    λ f g was now j. elim (cases_eq j a.0) [
      | inl e ↦ subst (λ (i : ℕ). g (account_at es' i) ≡ owned f i (set ss k (Some bs)) (set os k (Some a))) (sym e)
          (ap (λ (o : Option Account). g (its_account o)) (get_or-set_same es a.0 (Some y) None alt)
          ∙ omega (arith, now, was a.0, more f a.0, share_own f a.0 bs a refl))
      | inr other ↦ ap (λ (o : Option Account). g (its_account o)) (get_or-set_other es a.0 j (Some y) None other)
          ∙ omega (arith, was j, more f j, share_other f j bs a (λ e. other (sym e)))
    ] in
    record {
      quotas = omega (arith, sum_put (λ z. z.quota.ram) refl es a.0 (Some y) alt, b.quotas);
      caps = omega (arith, sum_put (λ z. z.quota.caps) refl es a.0 (Some y) alt, b.caps);
      pages = omega (arith, sum_put (λ z. z.used.ram) refl es a.0 (Some y) alt, b.pages, paid);
      used = grown length (λ z. z.used.ram) b.used refl;
      caps_used = grown (λ _. l.price) (λ z. z.used.caps) b.caps_used refl;
      within = each_set (λ j z. z.used.ram ≤ z.quota.ram) es a.0 (Some y) alt (omega (arith, enough, w)) b.within;
      caps_within = each_set (λ j z. z.used.caps ≤ z.quota.caps) es a.0 (Some y) alt (omega (arith, capable, v)) b.caps_within;
      small = b.small;
      small_caps = b.small_caps;
      priced = b.priced;
      references =
          let kept : (j : ℕ) → HasReference es' j (account_at es j) = λ j r e. (open_put es a.0 y r.0 (b.references j r e).0, (b.references j r e).1) in
          each_set (HasReference es') es a.0 (Some y) alt (kept a.0) kept;
      root = (
        open_put es a.0 y 0 b.root.0,
        each_set (λ j z. j ≡ 0 → z.reference ≡ None) es a.0 (Some y) alt
            (λ e. subst (λ (j : ℕ). (account_at es j).reference ≡ None) (sym e) b.root.1) (λ j e. subst (λ (j : ℕ). (account_at es j).reference ≡ None)
            (sym e) b.root.1) 0 refl,
      );
      tables = length-set os k (Some a) ∙ b.tables ∙ sym (length-set ss k (Some bs));
      few = rw (length-set os k (Some a)) b.few;
      live = live_both os ss k (Some a) (Some bs) klt b.tables refl b.live;
    }
