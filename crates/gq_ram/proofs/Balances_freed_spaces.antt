-- What is left balanced where dataspaces go, and where bytes are written.
use Rattle.std.proofs.Common.{◌≡◌, ℕ, ◌+◌, ◌-◌, ◌*◌, ◌<◌, ◌≤◌, inl, inr, List, [], ◌∷◌, length, set, get_or, Option, Some, None, is_some, refl, sym, ap, subst}
use Rattle.std.proofs.Common.{◌∙◌, arith, length-set}
use Rattle.std.proofs.lemmas.Bool.{cases_eq}
use Rattle.std.proofs.lemmas.List.{get_or-set_same, get_or-set_other}
use Rattle.gq_pages.specs.Frame_bytes.{with_bytes}
use Rattle.gq_pages.specs.Frame_map.{has_bytes}
use Rattle.gq_dataspace.specs.Dataspaces.{Contents, content_of}
use Rattle.gq_ram.specs.declared.account.Account.{Account}
use Rattle.gq_store.specs.declared.AccountNo.{AccountNo}
use Rattle.gq_ram.specs.Account_table.{Entries, account_at, its_account, with_use, IsOpen}
use Rattle.gq_ram.specs.Owning.{Owners, share, owned, IsOf}
use Rattle.gq_ram.specs.Ledgers.{Ledger, IsBalanced, with_spaces}
use Rattle.gq_ram.proofs.Account_sums.{live_some, some_bytes, some_there, share_same, open_there, sum_put, each_set, open_put, owned_set, owned_rewritten}
use Rattle.gq_ram.proofs.Account_sums.{share_within}
use Rattle.gq_ram.proofs.Account_sums.{share_own, share_other}
use Rattle.gq_ram.proofs.Balances_after_calls.{HasReference}
use Rattle.gq_ram.proofs.Balances_made_spaces.{live_both}

-- the dataspace k of the account a is removed
abbrev pub freed : Ledger → AccountNo → ℕ → ℕ → Ledger
freed l a k free = record {
  accounts = set l.accounts a.0 (Some (with_use (account_at l.accounts a.0) ((account_at l.accounts a.0).used.ram - length (content_of l.spaces.spaces k))
      ((account_at l.accounts a.0).used.caps - l.price)));
  spaces = record { spaces = set l.spaces.spaces k None; free = free };
  owners = set l.owners k None;
  price = l.price;
  total = l.total;
  total_caps = l.total_caps;
}

pub its_some : (l : Ledger) (a : AccountNo) (k : ℕ) → IsBalanced l → IsOf l.owners k a → get_or l.spaces.spaces k None ≡ Some (content_of l.spaces.spaces k)
its_some l a k b own = live_some (get_or l.spaces.spaces k None) (sym (b.live k) ∙ ap (λ (o : Option AccountNo). is_some o) own)

its_share : (f : List ℕ → ℕ) (l : Ledger) (a : AccountNo) (k j : ℕ) → IsBalanced l → IsOf l.owners k a
    → share f j (get_or l.spaces.spaces k None) (get_or l.owners k None) ≡ share f j (Some (content_of l.spaces.spaces k)) (Some a)
its_share f l a k j b own = ap (λ (o : Option AccountNo). share f j (get_or l.spaces.spaces k None) o) own
    ∙ ap (λ (s : Option (List ℕ)). share f j s (Some a)) (its_some l a k b own)

pub its_within : (f : List ℕ → ℕ) (l : Ledger) (a : AccountNo) (k : ℕ) → IsBalanced l → IsOf l.owners k a
    → f (content_of l.spaces.spaces k) ≤ owned f a.0 l.spaces.spaces l.owners
its_within f l a k b own =
    let lt : k < length l.spaces.spaces = some_there l.spaces.spaces k (content_of l.spaces.spaces k) (its_some l a k b own) in
    omega (arith, share_within f a.0 l.spaces.spaces l.owners k lt b.tables, its_share f l a k a.0 b own, share_own f a.0 (content_of l.spaces.spaces k) a refl)

pub freed_balanced : (l : Ledger) (a : AccountNo) (k : ℕ) (free : ℕ) → IsBalanced l → IsOpen l.accounts a.0 → IsOf l.owners k a
    → free * 4096 ≡ l.spaces.free * 4096 + length (content_of l.spaces.spaces k) → IsBalanced (freed l a k free)
freed_balanced l a k free b open_a own paid =
    let es : Entries = l.accounts in let x : Account = account_at es a.0 in let ss : Contents = l.spaces.spaces in let os : Owners = l.owners in
    let bs : List ℕ = content_of ss k in
    let y : Account = with_use x (x.used.ram - length bs) (x.used.caps - l.price) in let es' : Entries = set es a.0 (Some y) in
    let lt : k < length ss = some_there ss k bs (its_some l a k b own) in
    let alt : a.0 < length es = open_there es a.0 open_a in let klt : k < length os = omega (arith, lt, b.tables) in
    let w : x.used.ram ≤ x.quota.ram = b.within a.0 in let v : x.used.caps ≤ x.quota.caps = b.caps_within a.0 in
    let u : length bs ≤ x.used.ram = omega (arith, its_within length l a k b own, b.used a.0) in
    let less : (f : List ℕ → ℕ) (j : ℕ) → owned f j (set ss k None) (set os k None) + share f j (Some bs) (Some a) ≡ owned f j ss os =
    λ f j. omega (arith, owned_set f j ss os k None None lt b.tables, its_share f l a k j b own) in
    let shrunk : (f : List ℕ → ℕ) (g : Account → ℕ) → ((j : ℕ) → g (account_at es j) ≡ owned f j ss os) → g y ≡ g x - f bs → (j : ℕ)
    → g (account_at es' j) ≡ owned f j (set ss k None) (set os k None) =
    λ f g was now j. elim (cases_eq j a.0) [
      | inl e ↦ subst (λ (i : ℕ). g (account_at es' i) ≡ owned f i (set ss k None) (set os k None)) (sym e)
          (ap (λ (o : Option Account). g (its_account o)) (get_or-set_same es a.0 (Some y) None alt)
          ∙ omega (arith, now, was a.0, less f a.0, share_own f a.0 bs a refl))
      | inr other ↦ ap (λ (o : Option Account). g (its_account o)) (get_or-set_other es a.0 j (Some y) None other)
          ∙ omega (arith, was j, less f j, share_other f j bs a (λ e. other (sym e)))
    ] in
    record {
      quotas = omega (arith, sum_put (λ z. z.quota.ram) refl es a.0 (Some y) alt, b.quotas);
      caps = omega (arith, sum_put (λ z. z.quota.caps) refl es a.0 (Some y) alt, b.caps);
      pages = omega (arith, sum_put (λ z. z.used.ram) refl es a.0 (Some y) alt, b.pages, paid, u);
      used = shrunk length (λ z. z.used.ram) b.used refl;
      caps_used = shrunk (λ _. l.price) (λ z. z.used.caps) b.caps_used refl;
      within = each_set (λ j z. z.used.ram ≤ z.quota.ram) es a.0 (Some y) alt (omega (arith, w)) b.within;
      caps_within = each_set (λ j z. z.used.caps ≤ z.quota.caps) es a.0 (Some y) alt (omega (arith, v)) b.caps_within;
      small = b.small;
      small_caps = b.small_caps;
      priced = b.priced;
      references =
          let kept : (j : ℕ) → HasReference es' j (account_at es j) = λ j r e. (open_put es a.0 y r.0 (b.references j r e).0, (b.references j r e).1) in
          each_set (HasReference es') es a.0 (Some y) alt (kept a.0) kept;
      root = (
        open_put es a.0 y 0 b.root.0,
        each_set (λ j z. j ≡ 0 → z.reference ≡ None) es a.0 (Some y) alt
            (λ e. subst (λ (j : ℕ). (account_at es j).reference ≡ None) (sym e) b.root.1) (λ j e. subst (λ (j : ℕ). (account_at es j).reference ≡ None)
            (sym e) b.root.1) 0 refl,
      );
      tables = length-set os k None ∙ b.tables ∙ sym (length-set ss k None);
      few = rw (length-set os k None) b.few;
      live = live_both os ss k None None klt b.tables refl b.live;
    }

-- the bytes of the dataspace k change
pub written_balanced : (l : Ledger) (k : ℕ) (bs : List ℕ) → IsBalanced l → 0 < length (content_of l.spaces.spaces k)
    → length bs ≡ length (content_of l.spaces.spaces k)
    → IsBalanced (with_spaces l (record { spaces = set l.spaces.spaces k (Some bs); free = l.spaces.free }))
written_balanced l k bs b some long =
    let ss : Contents = l.spaces.spaces in let os : Owners = l.owners in let cs : List ℕ = content_of ss k in
    let was : get_or ss k None ≡ Some cs = some_bytes (get_or ss k None) some in
    let lt : k < length ss = some_there ss k cs was in
    let same : (f : List ℕ → ℕ) (j : ℕ) → f bs ≡ f cs → owned f j ss os ≡ owned f j (set ss k (Some bs)) os =
    λ f j e. omega (
      arith,
      owned_rewritten f j ss os k (Some bs) lt b.tables,
      ap (λ (s : Option (List ℕ)). share f j s (get_or os k None)) was,
      share_same f j bs cs (get_or os k None) e,
    ) in
    record {
      quotas = b.quotas;
      caps = b.caps;
      pages = b.pages;
      used = λ j. b.used j ∙ same length j long;
      caps_used = λ j. b.caps_used j ∙ same (λ _. l.price) j refl;
      within = b.within;
      caps_within = b.caps_within;
      small = b.small;
      small_caps = b.small_caps;
      priced = b.priced;
      references = b.references;
      root = b.root;
      tables = b.tables ∙ sym (length-set ss k (Some bs));
      few = b.few;
      live = λ j. elim (cases_eq j k) [
        | inl e ↦ b.live j ∙ rw e (ap has_bytes was ∙ sym (ap has_bytes (get_or-set_same ss k (Some bs) None lt)))
        | inr other ↦ b.live j ∙ sym (ap has_bytes (get_or-set_other ss k j (Some bs) None other))
      ];
    }

pub length-with_bytes : (xs : List ℕ) (i : ℕ) (ws : List ℕ) → length (with_bytes xs i ws) ≡ length xs
length-with_bytes xs i [] = refl
length-with_bytes xs i (w ∷ ws) = length-with_bytes (set xs i w) (i + 1) ws ∙ length-set xs i w
