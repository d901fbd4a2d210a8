-- Whether lists make a plan, as a test that computes, and what a new `Trades` is ready for.
use Rattle.std.proofs.Common.{◌≡◌, ℕ, zero, suc, ◌<◌, inl, inr, List, [], ◌∷◌, length, map, get_or, Option, Some, None, Bool, true, false, nat_eq, nat_lt}
use Rattle.std.proofs.Common.{refl, ap}
use Rattle.std.proofs.Common.{subst, sym, ◌∙◌, arith}
use Rattle.std.specs.Prelude.{◌&&◌, nat_le}
use Rattle.std.proofs.lemmas.Bool.{cases_eq, eq-eqb, eqb-true, leb-true, ltb-true}
use Rattle.gq_tariff.specs.declared.amount.Amount.{Amount}
use Rattle.gq_ram.specs.Ledgers.{caps_where}
use Rattle.gq_ram.specs.Handing.{spent}
use Rattle.gq_trade.specs.declared.trade_node.NodeState.{NodeState}
use Rattle.gq_trade.specs.declared.trade_node.Stage.{Stage}
use Rattle.gq_trade.specs.declared.trade_node.Stage.TheVariants.{Pending, Live, Ended}
use Rattle.gq_trade.specs.Balances.{handed, node_at}
use Rattle.gq_trade.specs.Trades_plan.{IsFirst, IsPlan, tree_of}
use Rattle.gq_trade.specs.Trades.{Trades, Follows}
use Rattle.gq_memory_rows.specs.Markets.{IsReady, IsTrio, setting}

-- TESTS

abbrev is_live : Stage → Bool
is_live Pending = false
is_live Live = true
is_live Ended = false

abbrev all_below : ℕ → (ℕ → Bool) → Bool
all_below zero f = true
all_below (suc n) f = f n && all_below n f

abbrev unless_first : ℕ → Bool → Bool
unless_first zero b = true
unless_first (suc i) b = b

abbrev only_if : Bool → Bool → Bool
only_if true b = b
only_if false b = true

abbrev all_six : Bool → Bool → Bool → Bool → Bool → Bool → Bool
all_six a b c d e f = a && (b && (c && (d && (e && f))))

abbrev follows : List ℕ → List NodeState → ℕ → Option ℕ → Bool
follows ps ns i None = true
follows ps ns i (Some j) =
    all_six (nat_lt 0 i) (nat_lt 0 j) (nat_lt j (length ps)) (nat_eq (get_or ps i 0) (get_or ps j 0))
    (nat_le (node_at ns i).quantum.ram (node_at ns j).quantum.ram) (nat_le (node_at ns i).quantum.caps (node_at ns j).quantum.caps)

abbrev no_caps : List NodeState → Bool
no_caps [] = true
no_caps (n ∷ ns) = nat_eq n.quantum.caps 0 && no_caps ns

abbrev are_uncounted : Option ℕ → List NodeState → Bool
are_uncounted None ns = no_caps ns
are_uncounted (Some n) ns = true

abbrev fits : (Amount → ℕ) → List ℕ → List NodeState → ℕ → Bool
fits f ps ns i = nat_le (spent f (tree_of ps) (map handed ns) i) (f (handed (node_at ns i)))

abbrev above_ok : List ℕ → ℕ → Bool
above_ok ps i = unless_first i (nat_lt (get_or ps i 0) i)

abbrev init_ok : List ℕ → List NodeState → ℕ → Bool
init_ok ps ns j = unless_first j (is_live (node_at ns (get_or ps j 0)).stage)

abbrev leaf_ok : List ℕ → List ℕ → ℕ → Bool
leaf_ok ps xs x = nat_lt (get_or xs x 0) (length ps) && nat_lt 0 (get_or xs x 0)

abbrev apart_ok : List ℕ → ℕ → ℕ → Bool
apart_ok xs x y = only_if (nat_eq (get_or xs x 0) (get_or xs y 0)) (nat_eq x y)

abbrev childless_ok : List ℕ → List ℕ → ℕ → ℕ → Bool
childless_ok ps xs x j = unless_first j (only_if (nat_eq (get_or ps j 0) (get_or xs x 0)) false)

-- each is refl where these are lists of numbers
abbrev pub PlanOk : ℕ → Option ℕ → List ℕ → List NodeState → List ℕ → List ℕ → Type 0
PlanOk total caps ps ns xs os =
    (nat_lt 0 (length ps) ≡ true)
    × (nat_eq (length ns) (length ps) ≡ true)
    × (nat_eq (node_at ns 0).quantum.ram total ≡ true)
    × (nat_eq (node_at ns 0).quantum.caps (caps_where caps) ≡ true)
    × (is_live (node_at ns 0).stage ≡ true)
    × (are_uncounted caps ns ≡ true)
    × (all_below (length ps) (above_ok ps) ≡ true)
    × (all_below (length ps) (init_ok ps ns) ≡ true)
    × (all_below (length ps) (fits (λ n. n.ram) ps ns) ≡ true)
    × (all_below (length ps) (fits (λ n. n.caps) ps ns) ≡ true)
    × (all_below (length ps) (λ i. follows ps ns i (node_at ns i).after) ≡ true)
    × (all_below (length xs) (leaf_ok ps xs) ≡ true)
    × (all_below (length xs) (λ x. all_below (length xs) (apart_ok xs x)) ≡ true)
    × (all_below (length xs) (λ x. all_below (length ps) (childless_ok ps xs x)) ≡ true)
    × (all_below (length os) (λ i. nat_le (get_or os i 0) 67108864) ≡ true)
    × (nat_le (length xs) 64 ≡ true)

-- WHAT THEY COMPUTE

both : (a b : Bool) → (a && b) ≡ true → (a ≡ true) × (b ≡ true)
both true b h = (refl, h)
both false b h = cc

live_is : (s : Stage) → is_live s ≡ true → s ≡ Live
live_is Pending h = cc
live_is Live h = refl
live_is Ended h = cc

all_at : (n : ℕ) (f : ℕ → Bool) → all_below n f ≡ true → (i : ℕ) → i < n → f i ≡ true
all_at zero f h i lt = absurd (omega (arith, lt))
all_at (suc n) f h i lt = elim (cases_eq i n) [
  | inl e ↦ ap f e ∙ (both (f n) (all_below n f) h).0
  | inr ne ↦ all_at n f (both (f n) (all_below n f) h).1 i (omega (arith, lt, ne))
]

unless_at : (i : ℕ) (b : Bool) → 0 < i → unless_first i b ≡ true → b ≡ true
unless_at zero b lt h = absurd (omega (arith, lt))
unless_at (suc i) b lt h = h

only_at : (a b : ℕ) (t : Bool) → only_if (nat_eq a b) t ≡ true → a ≡ b → t ≡ true
only_at a b t h e = subst (λ s. only_if s t ≡ true) (eq-eqb a b e) h

never : false ≡ true → ⊥
never h = cc

no_caps_at : (ns : List NodeState) → no_caps ns ≡ true → (i : ℕ) → (node_at ns i).quantum.caps ≡ 0
no_caps_at [] h i = refl
no_caps_at (n ∷ ns) h zero = eqb-true n.quantum.caps 0 (both (nat_eq n.quantum.caps 0) (no_caps ns) h).0
no_caps_at (n ∷ ns) h (suc i) = no_caps_at ns (both (nat_eq n.quantum.caps 0) (no_caps ns) h).1 i

some_none : (n : ℕ) → Some n ≡ None → ⊥
some_none n e = cc

uncounted_at : (caps : Option ℕ) (ns : List NodeState) → are_uncounted caps ns ≡ true → caps ≡ None → (i : ℕ) → (node_at ns i).quantum.caps ≡ 0
uncounted_at None ns h e i = no_caps_at ns h i
uncounted_at (Some n) ns h e i = absurd (some_none n e)

none_some : (j : ℕ) → None ≡ Some j → ⊥
none_some j e = cc

some_is : (a b : ℕ) → Some a ≡ Some b → a ≡ b
some_is a b e = cc

six_of : (a b c d e f : Bool) → all_six a b c d e f ≡ true → (a ≡ true) × (b ≡ true) × (c ≡ true) × (d ≡ true) × (e ≡ true) × (f ≡ true)
six_of a b c d e f h =
    let u = both a (b && (c && (d && (e && f)))) h in
    let v = both b (c && (d && (e && f))) u.1 in
    let w = both c (d && (e && f)) v.1 in
    let x = both d (e && f) w.1 in
    let y = both e f x.1 in
    (u.0, v.0, w.0, x.0, y.0, y.1)

follows_at : (ps : List ℕ) (ns : List NodeState) (i j : ℕ) (o : Option ℕ) → follows ps ns i o ≡ true → o ≡ Some j → Follows (tree_of ps) ns i j
follows_at ps ns i j None h e = absurd (none_some j e)
follows_at ps ns i j (Some k) h e =
    let g : follows ps ns i (Some j) ≡ true = subst (λ m. follows ps ns i (Some m) ≡ true) (some_is k j e) h in
    let f = six_of (nat_lt 0 i) (nat_lt 0 j) (nat_lt j (length ps)) (nat_eq (get_or ps i 0) (get_or ps j 0))
    (nat_le (node_at ns i).quantum.ram (node_at ns j).quantum.ram) (nat_le (node_at ns i).quantum.caps (node_at ns j).quantum.caps) g in
    record {
      below = ltb-true 0 i f.0;
      before = ltb-true 0 j f.1;
      there = ltb-true j (length ps) f.2;
      beside = eqb-true (get_or ps i 0) (get_or ps j 0) f.3;
      ram = leb-true (node_at ns i).quantum.ram (node_at ns j).quantum.ram f.4;
      caps = leb-true (node_at ns i).quantum.caps (node_at ns j).quantum.caps f.5;
    }

is_plan : (total : ℕ) (caps : Option ℕ) (ps : List ℕ) (ns : List NodeState) (xs os : List ℕ) → PlanOk total caps ps ns xs os → IsPlan total caps ps ns xs os
is_plan total caps ps ns xs os (some, count, ram, cap, root, uncounted, above, inits, rams, capss, after, leaf, apart, childless, small, few) =
    let leaf_at : (x : ℕ) → x < length xs → (nat_lt (get_or xs x 0) (length ps) ≡ true) × (nat_lt 0 (get_or xs x 0) ≡ true) =
    λ x lt. both (nat_lt (get_or xs x 0) (length ps)) (nat_lt 0 (get_or xs x 0)) (all_at (length xs) (leaf_ok ps xs) leaf x lt) in
    record {
      some = ltb-true 0 (length ps) some;
      count = eqb-true (length ns) (length ps) count;
      preorder = λ q gt lt. ltb-true (get_or ps q 0) q (unless_at q (nat_lt (get_or ps q 0) q) gt (all_at (length ps) (above_ok ps) above q lt));
      whole = λ k. record {
        ram = eqb-true (node_at ns 0).quantum.ram total ram k;
        caps = eqb-true (node_at ns 0).quantum.caps (caps_where caps) cap k;
      };
      root = live_is (node_at ns 0).stage root;
      inits = λ q gt lt. live_is (node_at ns (get_or ps q 0)).stage
          (unless_at q (is_live (node_at ns (get_or ps q 0)).stage) gt (all_at (length ps) (init_ok ps ns) inits q lt));
      fits = λ q lt. leb-true (spent (λ n. n.ram) (tree_of ps) (map handed ns) q) (handed (node_at ns q)).ram
          (all_at (length ps) (fits (λ n. n.ram) ps ns) rams q lt);
      fits_caps = λ q lt. leb-true (spent (λ n. n.caps) (tree_of ps) (map handed ns) q) (handed (node_at ns q)).caps
          (all_at (length ps) (fits (λ n. n.caps) ps ns) capss q lt);
      uncounted = uncounted_at caps ns uncounted;
      few = leb-true (length xs) 64 few;
      within = λ x lt. ltb-true (get_or xs x 0) (length ps) (leaf_at x lt).0;
      below = λ x lt. ltb-true 0 (get_or xs x 0) (leaf_at x lt).1;
      apart = λ x y xl yl same. eqb-true x y
          (only_at (get_or xs x 0) (get_or xs y 0) (nat_eq x y)
          (all_at (length xs) (apart_ok xs x) (all_at (length xs) (λ z. all_below (length xs) (apart_ok xs z)) apart x xl) y yl) same);
      childless = λ x q xl gt lt same. never (only_at (get_or ps q 0) (get_or xs x 0) false
          (unless_at q (only_if (nat_eq (get_or ps q 0) (get_or xs x 0)) false) gt
          (all_at (length ps) (childless_ok ps xs x) (all_at (length xs) (λ z. all_below (length ps) (childless_ok ps xs z)) childless x xl) q lt)) same);
      after = λ q r lt is. follows_at ps ns q r (node_at ns q).after
          (all_at (length ps) (λ x. follows ps ns x (node_at ns x).after) after q lt) is;
      small = λ q lt. leb-true (get_or os q 0) 67108864 (all_at (length os) (λ x. nat_le (get_or os x 0) 67108864) small q lt);
    }

pub plan_of : (total : ℕ) (caps : Option ℕ) {ps qs : List ℕ} {ns ms : List NodeState} {xs ys os us : List ℕ} → ps ≡ qs → ns ≡ ms → xs ≡ ys → os ≡ us
    → PlanOk total caps qs ms ys us → IsPlan total caps ps ns xs os
plan_of total caps {ps = ps} {qs = qs} {ns = ns} {ms = ms} {xs = xs} {ys = ys} {os = os} {us = us} a b c d h =
    rw a (rw b (rw c (rw d (is_plan total caps qs ms ys us h))))

-- WHAT A NEW ONE IS READY FOR

-- again each is refl
abbrev pub ReadyOk : List ℕ → List NodeState → List ℕ → List ℕ → ℕ → ℕ → Type 0
ReadyOk ps ns xs os room n =
    (is_live (node_at ns (get_or xs 0 0)).stage ≡ true)
    × (is_live (node_at ns (get_or xs 1 0)).stage ≡ true)
    × (nat_lt 1 (length xs) ≡ true)
    × (nat_lt (get_or xs 0 0) (length ps) ≡ true)
    × (nat_lt (get_or xs 1 0) (length ps) ≡ true)
    × (nat_lt 0 (length os) ≡ true)
    × (nat_lt n room ≡ true)

ready_at : (w : Trades) (n : ℕ) → ReadyOk w.trading.tree.parents w.nodes w.trading.leaves w.trading.objects w.trading.room n
    → IsReady w.nodes (setting w.trading) n
ready_at w n (server, client, leaves, server_node, client_node, objects, room) =
    let two : 1 < length w.trading.leaves = ltb-true 1 (length w.trading.leaves) leaves in
    record {
      server = record {
        leaf = omega (arith, two);
        live = live_is (node_at w.nodes (get_or w.trading.leaves 0 0)).stage server;
        node = ltb-true (get_or w.trading.leaves 0 0) (length w.trading.tree.parents) server_node;
      };
      client = record {
        leaf = two;
        live = live_is (node_at w.nodes (get_or w.trading.leaves 1 0)).stage client;
        node = ltb-true (get_or w.trading.leaves 1 0) (length w.trading.tree.parents) client_node;
      };
      service = ltb-true 0 (length w.trading.objects) objects;
      room = ltb-true n w.trading.room room;
    }

pub ready_of : (total : ℕ) (caps : Option ℕ) (w : Trades) (room n : ℕ) {ps qs : List ℕ} {ns ms : List NodeState} {xs ys os us : List ℕ} → ps ≡ qs → ns ≡ ms
    → xs ≡ ys → os ≡ us → IsFirst total caps ps ns xs os room w → ReadyOk qs ms ys us room n → IsReady w.nodes (setting w.trading) n
ready_of total caps w room n {ps = ps} {qs = qs} {ns = ns} {ms = ms} {xs = xs} {ys = ys} {os = os} {us = us} a b c d first h =
    let p : w.trading.tree.parents ≡ qs = first.parents ∙ a in
    let q : w.nodes ≡ ms = first.nodes ∙ b in
    let x : w.trading.leaves ≡ ys = first.leaves ∙ c in
    let o : w.trading.objects ≡ us = first.objects ∙ d in
    let r : w.trading.room ≡ room = first.room in
    ready_at w n (rw p (rw q (rw x (rw o (rw r h)))))

pub trio_first : {caps : Option ℕ} (total : ℕ) {ps ys us : List ℕ} {ns ms : List NodeState} {xs os : List ℕ} → ns ≡ ms → xs ≡ ys → os ≡ us
    → all_below 3 (λ x. is_live (node_at ms (get_or ys x 0)).stage) ≡ true → 2 < length ys → 0 < length us
    → (w : Trades) → IsFirst total caps ps ns xs os 24 w → IsTrio w
trio_first total {ys = ys} {us = us} {ms = ms} a b d h two some w first =
    let nodes : w.nodes ≡ ms = first.nodes ∙ a in
    let leaves : w.trading.leaves ≡ ys = first.leaves ∙ b in
    let objects : w.trading.objects ≡ us = first.objects ∙ d in
    record {
      leaves = subst (λ zs. 2 < length zs) (sym leaves) two;
      live = λ x lt. (λ k. (node_at (nodes k) (get_or (leaves k) x 0)).stage)
          ∙ live_is (node_at ms (get_or ys x 0)).stage (all_at 3 (λ y. is_live (node_at ms (get_or ys y 0)).stage) h x lt);
      service = subst (λ zs. 0 < length zs) (sym objects) some;
      room = subst (λ n. 1 < n) (sym first.room) (omega arith);
      quiet = record { sessions = first.sessions; requests = first.requests };
    }
