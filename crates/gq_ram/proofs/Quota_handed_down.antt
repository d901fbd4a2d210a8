-- Quota that is handed out node by node, from the root on.
use Rattle.std.proofs.Common.{◌≡◌, ℕ, ◌+◌, ◌-◌, ◌<◌, ◌≤◌, ◌↔◌, inl, inr, List, [], ◌∷◌, zero, suc, length, get_or, refl, sym, ap, subst, ◌∙◌, arith}
use Rattle.std.proofs.lemmas.Bool.Decides.{eqb_tells, nat_tests}
use Rattle.gq_tariff.specs.declared.amount.Amount.{Amount}
use Rattle.gq_ram.specs.declared.account.Account.{Account}
use Rattle.gq_ram.specs.Account_table.{Entries, account_at, available, available_caps, no_amount, IsOpen}
use Rattle.gq_ram.specs.Ledgers.{Ledger, with_accounts}
use Rattle.gq_ram.specs.Account_tree.{Tree, AreNodes, less, more, moved, donated, number, parent}
use Rattle.gq_ram.specs.Handing.{tail, part, spent_in, spent}
use Rattle.gq_ram.proofs.Quota_move_sequences.{giver_now, taker_now, other_now, far, nodes_kept, still_open, was_open, reference_kept, used_kept}

-- what the first n of these count for the node i
abbrev pub spent_first : (Amount → ℕ) → ℕ → ℕ → List ℕ → List Amount → ℕ
spent_first f i zero ps hs = 0
spent_first f i (suc n) [] hs = 0
spent_first f i (suc n) (p ∷ ps) [] = 0
spent_first f i (suc n) (p ∷ ps) (a ∷ hs) = part f i p a + spent_first f i n ps hs

first_more : (f : Amount → ℕ) (i n : ℕ) (ps : List ℕ) (hs : List Amount) → n < length ps → n < length hs
    → spent_first f i (suc n) ps hs ≡ spent_first f i n ps hs + part f i (get_or ps n 0) (get_or hs n no_amount)
first_more f i n [] hs pl hl = absurd (omega (arith, pl))
first_more f i n (p ∷ ps) [] pl hl = absurd (omega (arith, hl))
first_more f i zero (p ∷ ps) (a ∷ hs) pl hl = let x = part f i p a in let e : x + 0 ≡ 0 + x = omega arith in e
first_more f i (suc n) (p ∷ ps) (a ∷ hs) pl hl =
    let e = first_more f i n ps hs (omega (arith, pl)) (omega (arith, hl)) in
    let x = part f i p a in let y = spent_first f i (suc n) ps hs in let z = spent_first f i n ps hs in
    let w = part f i (get_or ps n 0) (get_or hs n no_amount) in
    let s : x + y ≡ x + z + w = omega (arith, e) in s

first_within : (f : Amount → ℕ) (i n : ℕ) (ps : List ℕ) (hs : List Amount) → spent_first f i n ps hs ≤ spent_in f i ps hs
first_within f i zero ps hs = omega arith
first_within f i (suc n) [] hs = omega arith
first_within f i (suc n) (p ∷ ps) [] = omega arith
first_within f i (suc n) (p ∷ ps) (a ∷ hs) = omega (arith, first_within f i n ps hs)

first_all : (f : Amount → ℕ) (i : ℕ) (ps : List ℕ) (hs : List Amount) → spent_first f i (length ps) ps hs ≡ spent_in f i ps hs
first_all f i [] hs = refl
first_all f i (p ∷ ps) [] = refl
first_all f i (p ∷ ps) (a ∷ hs) = ap (λ n. part f i p a + n) (first_all f i ps hs)

tail_at : {A : Type 0} (xs : List A) (k : ℕ) (d : A) → get_or (tail xs) k d ≡ get_or xs (suc k) d
tail_at [] k d = refl
tail_at (x ∷ xs) k d = refl

tail_length : {A : Type 0} (xs : List A) → length (tail xs) ≡ length xs - 1
tail_length [] = refl
tail_length (x ∷ xs) = omega arith

-- what the first n nodes count for the node i
abbrev pub spent_below : (Amount → ℕ) → Tree → List Amount → ℕ → ℕ → ℕ
spent_below f t hs n i = spent_first f i (n - 1) (tail t.parents) (tail hs)

below_more : (f : Amount → ℕ) (t : Tree) (hs : List Amount) (n i : ℕ) → 0 < n → n < length t.parents → n < length hs
    → spent_below f t hs (n + 1) i ≡ spent_below f t hs n i + part f i (parent t n) (get_or hs n no_amount)
below_more f t hs n i pos lt hl =
    let ps : List ℕ = tail t.parents in let rest : List Amount = tail hs in
    let next : n + 1 - 1 ≡ suc (n - 1) = omega arith in
    let here : suc (n - 1) ≡ n = omega arith in
    ap (λ k. spent_first f i k ps rest) next
    ∙ first_more f i (n - 1) ps rest (omega (arith, tail_length t.parents)) (omega (arith, tail_length hs))
    ∙ ap (λ p. spent_first f i (n - 1) ps rest + part f i p (get_or rest (n - 1) no_amount)) (tail_at t.parents (n - 1) 0 ∙ ap (λ k. get_or t.parents k 0) here)
    ∙ ap (λ a. spent_first f i (n - 1) ps rest + part f i (parent t n) a) (tail_at hs (n - 1) no_amount ∙ ap (λ k. get_or hs k no_amount) here)

below_within : (f : Amount → ℕ) (t : Tree) (hs : List Amount) (n i : ℕ) → spent_below f t hs n i ≤ spent f t hs i
below_within f t hs n i = first_within f i (n - 1) (tail t.parents) (tail hs)

below_one : (f : Amount → ℕ) (t : Tree) (hs : List Amount) (i : ℕ) → spent_below f t hs 1 i ≡ 0
below_one f t hs i = let e : 1 - 1 ≡ 0 = omega arith in ap (λ k. spent_first f i k (tail t.parents) (tail hs)) e

below_all : (f : Amount → ℕ) (t : Tree) (hs : List Amount) (i : ℕ) → spent_below f t hs (length t.parents) i ≡ spent f t hs i
below_all f t hs i =
    ap (λ k. spent_first f i k (tail t.parents) (tail hs)) (sym (tail_length t.parents)) ∙ first_all f i (tail t.parents) (tail hs)

part_same : (f : Amount → ℕ) (i : ℕ) (a : Amount) → part f i i a ≡ f a
part_same f i a = grind (arith, nat_tests)

part_other : (f : Amount → ℕ) (i p : ℕ) (a : Amount) → (p ≡ i → ⊥) → part f i p a ≡ 0
part_other f i p a ne = grind (arith, nat_tests)

-- what a node has, with what it handed on
abbrev pub had : (Amount → ℕ) → Tree → Entries → List Amount → ℕ → ℕ → ℕ
had f t es hs n i = f (account_at es (number t i)).quota + spent_below f t hs n i

-- the nodes before n have what they were handed, less what they handed on to such nodes; the others have nothing
pub record AreHanded (f : Amount → ℕ) (t : Tree) (es : Entries) (hs : List Amount) (n : ℕ) : Type 0 where
  pub before : (i : ℕ) → i < n → i < length t.parents → had f t es hs n i ≡ f (get_or hs i no_amount)
  pub rest : (i : ℕ) → n ≤ i → i < length t.parents → had f t es hs n i ≡ 0

-- A STEP

module _ (f : Amount → ℕ) (fewer : (a : Account) (m : Amount) → f (less a m).quota ≡ f a.quota - f m)
    (further : (a : Account) (m : Amount) → f (more a m).quota ≡ f a.quota + f m) (t : Tree) (es : Entries) (hs : List Amount) (n p : ℕ)
    (nodes : AreNodes t es) (pos : 0 < n) (lt : n < length t.parents) (hl : n < length hs) (pe : p ≡ parent t n) (pl : p < n)
    (po : IsOpen es (number t p)) (no : IsOpen es (number t n)) where
  abbrev given : Amount
  given = get_or hs n no_amount

  abbrev then : Entries
  then = moved es (number t p) (number t n) given

  apart : number t n ≡ number t p → ⊥
  apart e = far t es n p nodes lt (omega arith) (λ s. omega arith) e

  next : (i : ℕ) → spent_below f t hs (n + 1) i ≡ spent_below f t hs n i + part f i p given
  next i = below_more f t hs n i pos lt hl ∙ ap (λ k. spent_below f t hs n i + part f i k given) (sym pe)

  -- the node that is handed it
  taker_had : had f t then hs (n + 1) n ≡ had f t es hs n n + f given
  taker_had =
      let q : f (account_at then (number t n)).quota ≡ f (account_at es (number t n)).quota + f given =
      ap (λ (x : Account). f x.quota) (taker_now es (number t p) (number t n) given po no apart) ∙ further (account_at es (number t n)) given in
      omega (arith, q, next n, part_other f n p given (λ s. omega arith))

  -- the node above
  giver_had : f given ≤ f (account_at es (number t p)).quota → had f t then hs (n + 1) p ≡ had f t es hs n p
  giver_had enough =
      let q : f (account_at then (number t p)).quota ≡ f (account_at es (number t p)).quota - f given =
      ap (λ (x : Account). f x.quota) (giver_now es (number t p) (number t n) given po no apart) ∙ fewer (account_at es (number t p)) given in
      omega (arith, q, next p, part_same f p given, enough)

  other_had : (i : ℕ) → i < length t.parents → (i ≡ n → ⊥) → (i ≡ p → ⊥) → had f t then hs (n + 1) i ≡ had f t es hs n i
  other_had i il nn np =
      let q : f (account_at then (number t i)).quota ≡ f (account_at es (number t i)).quota =
      ap (λ (x : Account). f x.quota) (other_now es (number t p) (number t n) given (number t i)
      (far t es i p nodes il (omega arith) np) (far t es i n nodes il lt nn)) in
      omega (arith, q, next i, part_other f i p given (λ s. np (sym s)))

  same_had : f given ≤ f (account_at es (number t p)).quota → (i : ℕ) → i < length t.parents → (i ≡ n → ⊥)
      → had f t then hs (n + 1) i ≡ had f t es hs n i
  same_had enough i il nn = elim (eqb_tells i p) [
    | inl e ↦ subst (λ j. had f t then hs (n + 1) j ≡ had f t es hs n j) (sym e.1) (giver_had enough)
    | inr ne ↦ other_had i il nn ne.1
  ]

  pub handed_more : f given ≤ f (account_at es (number t p)).quota → AreHanded f t es hs n → AreHanded f t then hs (n + 1)
  handed_more enough h = record {
    before = λ i il tl. elim (eqb_tells i n) [
      | inl e ↦ subst (λ j. had f t then hs (n + 1) j ≡ f (get_or hs j no_amount)) (sym e.1)
          (omega (arith, taker_had, h.rest n (omega arith) lt))
      | inr ne ↦ same_had enough i tl ne.1 ∙ h.before i (let other : i ≡ n → ⊥ = ne.1 in omega arith) tl
    ];
    rest = λ i il tl. same_had enough i tl (λ s. omega arith) ∙ h.rest i (omega arith) tl;
  }

  -- the node above still has what it is to hand on
  pub can_hand : AreHanded f t es hs n → spent f t hs p ≤ f (get_or hs p no_amount) → f given ≤ f (account_at es (number t p)).quota
  can_hand h fits = omega (arith, h.before p pl (omega arith), fits, next p, part_same f p given, below_within f t hs (n + 1) p)

-- THE WHOLE

pub handed_first : (f : Amount → ℕ) (t : Tree) (es : Entries) (hs : List Amount) → f no_amount ≡ 0
    → (account_at es (number t 0)).quota ≡ get_or hs 0 no_amount
    → ((i : ℕ) → 0 < i → i < length t.parents → (account_at es (number t i)).quota ≡ no_amount) → AreHanded f t es hs 1
handed_first f t es hs z first empty = record {
  before = λ i il tl. (let e : 0 ≡ i = omega arith in
      subst (λ j. had f t es hs 1 j ≡ f (get_or hs j no_amount)) e (omega (arith, ap f first, below_one f t hs 0)));
  rest = λ i il tl. omega (arith, ap f (empty i (omega arith) tl), z, below_one f t hs i);
}

pub handed_all : (f : Amount → ℕ) (t : Tree) (es : Entries) (hs : List Amount) (n : ℕ) → n ≡ length t.parents → AreHanded f t es hs n
    → (i : ℕ) → i < length t.parents → f (account_at es (number t i)).quota + spent f t hs i ≡ f (get_or hs i no_amount)
handed_all f t es hs n e h i il =
    omega (arith, h.before i (omega arith) il, ap (λ k. spent_below f t hs k i) e, below_all f t hs i)

-- what has been handed to the nodes before n, and what has stayed
pub record IsHandedOut (t : Tree) (l0 l : Ledger) (hs : List Amount) (n : ℕ) : Type 0 where
  pub ram : AreHanded (λ a. a.ram) t l.accounts hs n
  pub caps : AreHanded (λ a. a.caps) t l.accounts hs n
  pub nodes : AreNodes t l.accounts
  pub same : l ≡ with_accounts l0 l.accounts
  pub still : (k : ℕ) → IsOpen l.accounts k ↔ IsOpen l0.accounts k
  pub used : (k : ℕ) → (account_at l.accounts k).used ≡ (account_at l0.accounts k).used
  pub references : (k : ℕ) → (account_at l.accounts k).reference ≡ (account_at l0.accounts k).reference
  pub others : (k : ℕ) → ((i : ℕ) → i < length t.parents → k ≡ number t i → ⊥) → account_at l.accounts k ≡ account_at l0.accounts k

-- what the node above n has to give it
module _ (t : Tree) (l0 l : Ledger) (hs : List Amount) (n p : ℕ) (h : IsHandedOut t l0 l hs n) (pos : 0 < n) (lt : n < length t.parents)
    (hl : n < length hs) (pe : p ≡ parent t n) (pl : p < n) (opened : (i : ℕ) → i < length t.parents → IsOpen l0.accounts (number t i)) where
  now_open : (i : ℕ) → i < length t.parents → IsOpen l.accounts (number t i)
  now_open i il = (h.still (number t i)).1 (opened i il)

  ram_had : spent (λ a. a.ram) t hs p ≤ (get_or hs p no_amount).ram → (get_or hs n no_amount).ram ≤ (account_at l.accounts (number t p)).quota.ram
  ram_had fits = can_hand (λ a. a.ram) (λ a m. refl) (λ a m. refl) t l.accounts hs n p h.nodes pos lt hl pe pl (now_open p (omega arith)) (now_open n lt)
      h.ram fits

  caps_had : spent (λ a. a.caps) t hs p ≤ (get_or hs p no_amount).caps → (get_or hs n no_amount).caps ≤ (account_at l.accounts (number t p)).quota.caps
  caps_had fits = can_hand (λ a. a.caps) (λ a m. refl) (λ a m. refl) t l.accounts hs n p h.nodes pos lt hl pe pl (now_open p (omega arith)) (now_open n lt)
      h.caps fits

  pub enough : (account_at l0.accounts (number t p)).used ≡ no_amount → spent (λ a. a.ram) t hs p ≤ (get_or hs p no_amount).ram
      → (get_or hs n no_amount).ram ≤ available (account_at l.accounts (number t p))
  enough unused fits = omega (arith, ram_had fits, ap (λ (a : Amount). a.ram) (h.used (number t p) ∙ unused))

  pub enough_caps : (account_at l0.accounts (number t p)).used ≡ no_amount → spent (λ a. a.caps) t hs p ≤ (get_or hs p no_amount).caps
      → (get_or hs n no_amount).caps ≤ available_caps (account_at l.accounts (number t p))
  enough_caps unused fits = omega (arith, caps_had fits, ap (λ (a : Amount). a.caps) (h.used (number t p) ∙ unused))

  pub handed_on : (l1 : Ledger) → spent (λ a. a.ram) t hs p ≤ (get_or hs p no_amount).ram → spent (λ a. a.caps) t hs p ≤ (get_or hs p no_amount).caps
      → l1 ≡ donated t l p n (get_or hs n no_amount) → IsHandedOut t l0 l1 hs (n + 1)
  handed_on l1 fits fits_caps m =
      let es : Entries = l.accounts in let x : ℕ = number t p in let y : ℕ = number t n in let a : Amount = get_or hs n no_amount in
      let xo : IsOpen es x = now_open p (omega arith) in let yo : IsOpen es y = now_open n lt in
      subst (λ (l2 : Ledger). IsHandedOut t l0 l2 hs (n + 1)) (sym m) (record {
        ram = handed_more (λ a. a.ram) (λ a m. refl) (λ a m. refl) t es hs n p h.nodes pos lt hl pe pl xo yo (ram_had fits) h.ram;
        caps = handed_more (λ a. a.caps) (λ a m. refl) (λ a m. refl) t es hs n p h.nodes pos lt hl pe pl xo yo (caps_had fits_caps) h.caps;
        nodes = nodes_kept t es x y a h.nodes xo yo;
        same = ap (λ (l2 : Ledger). with_accounts l2 (moved es x y a)) h.same;
        still = λ k. ((λ o. (h.still k).0 (was_open es x y a k xo yo o)), (λ o. still_open es x y a k ((h.still k).1 o)));
        used = λ k. used_kept es x y a k xo yo ∙ h.used k;
        references = λ k. reference_kept es x y a k xo yo ∙ h.references k;
        others = λ k away. other_now es x y a k (away p (omega arith)) (away n lt) ∙ h.others k away;
      })
