-- A search of the code, and the one of the definition that it stands for.
use Rattle.std.proofs.Common.{◌≡◌, ℕ, zero, suc, ◌+◌, ◌-◌, ◌<◌, ◌≤◌, ◌==◌, Bool, true, false}
use Rattle.std.proofs.Common.{not, ◌||◌, List, [], ◌∷◌, ◌++◌, length, map, reverse, take, drop}
use Rattle.std.proofs.Common.{get_or, All, Vec, refl, ap, sym, ◌∙◌, subst, append-nil, arith, length-append}
use Rattle.std.proofs.lemmas.List.{length-set, length-take-le, map-append, reverse-append, take-append-le, take-take, take_all, take_more, take_more_set}
use Rattle.std.specs.Prelude.{if◌then◌else◌, slice_set}
use Rattle.std.specs.Bool.{OnFalse}
use Rattle.std.specs.BTreeSet.{BTreeSet, contains_by, insert_key}
use Rattle.std.specs.Cmp.Lexicographic.{slice_cmp}
use Rattle.std.specs.List.{list_any}
use Rattle.std.specs.Ordering.{is_eq, match_ordering, nat_cmp}
use Rattle.std.specs.Str.{bytes_eq}
use Rattle.std.specs.declared.alloc.Global.{Global}
use Rattle.std.specs.declared.cmp.Ordering.{Ordering}
use Rattle.std.specs.declared.cmp.Ordering.TheVariants.{Less, Equal, Greater}
use Rattle.std.proofs.lemmas.Bool.{false_from_ne_true}
use Rattle.std.proofs.lemmas.Map.Lookups.{exact_bytes}
use Rattle.std.proofs.lemmas.Map.Text.{is_eq-slice_cmp}
use Rattle.std.proofs.lemmas.Slice.Eq.{bytes_eq-Decides}
use Rattle.gq_model.specs.machine.Scenario.{Scenario, system}
use Rattle.gq_model.specs.machine.World.{World}
use Rattle.gq_outcomes.specs.Choices.{choices, is_settled}
use Rattle.gq_outcomes.specs.Outcomes.{Explored, Kept, Search, explored, first_point, is_found, is_seen, kept, outcome_of, outcomes, same_kept}
use Rattle.gq_outcomes.specs.Outcomes.{settled}
use Rattle.gq_outcomes.specs.declared.search.Branch.{Branch as KeptBranch}
use Rattle.gq_outcomes.specs.declared.search.Found.{Found}
use Rattle.gq_outcomes.specs.declared.search.Search.{Search as KeptSearch}
use Rattle.gq_outcomes.specs.internal.Found_outcomes.{outcome_seen}
use Rattle.gq_outcomes.specs.internal.Kept_keys.{kept_key}
use Rattle.gq_outcomes.specs.internal.Keys.{list_key, text_key, world_key}
use Rattle.gq_outcomes.specs.internal.Open_branches.{Branch, Stack, arrives, enters, opens, resumed, stack, visits}
use Rattle.gq_outcomes.specs.internal.Search_states.{AreBranches, AreOnWay, AreSeen, ComesBy, ComesTo, Finds, IsAt, IsAtStack, Notes}
use Rattle.gq_outcomes.specs.internal.Search_states.{arrived, branch_at, entered, nothing_found, opened, search_at_rest}
use Rattle.gq_outcomes.specs.internal.Walks.{reached}
use Rattle.gq_outcomes.proofs.Search_stack.{over, turn_taken, visits_is, wanted}
use Rattle.gq_outcomes.proofs.Settling.{turns_more}
use Rattle.gq_outcomes.proofs.keys.Numbers.{both_free, list_free, text_free}
use Rattle.gq_outcomes.proofs.keys.Worlds.{world_free}
use Rattle.gq_outcomes.proofs.same.Itself.{kept_itself}
use Rattle.gq_outcomes.proofs.same.Tests.{number_is_equal}
use Rattle.gq_outcomes.proofs.same.Worlds.{kept_is_equal}

-- KEYS

-- equal keys are of equal worlds
key_same : (k l : Kept) → kept_key k ≡ kept_key l → k ≡ l
key_same k l e =
    let p = both_free world_key (list_key text_key) world_free (list_free text_key text_free) (k.world, k.said) (l.world, l.said) [] []
    (append-nil (kept_key k) ∙ e ∙ sym (append-nil (kept_key l))) in
    ap (λ (q : World × List (List ℕ)). record { world = q.0; said = q.1 }) p.0

key_test : (k l : Kept) → is_eq (slice_cmp nat_cmp (kept_key l) (kept_key k)) ≡ same_kept k l
key_test k l = is_eq-slice_cmp (kept_key l) (kept_key k) ∙ by (same_kept k l) refl
  where
    by : (b : Bool) → same_kept k l ≡ b → bytes_eq (kept_key l) (kept_key k) ≡ b
    by true e = (bytes_eq-Decides (kept_key l) (kept_key k)).1 (ap kept_key (sym (kept_is_equal k l e)))
    by false e = false_from_ne_true (bytes_eq (kept_key l) (kept_key k)) (λ t.
        (let same = key_same l k ((bytes_eq-Decides (kept_key l) (kept_key k)).0 t) in
        cc (e, subst (λ m. same_kept k m ≡ true) (sym same) (kept_itself k))))

either : (a b r : Bool) → a ≡ b → (a || r) ≡ (b || (a || r))
either true true r e = refl
either true false r e = refl
either false true r e = absurd (cc e)
either false false r e = refl

swapped : (a b r : Bool) → (a || (b || r)) ≡ (b || (a || r))
swapped true true r = refl
swapped true false r = refl
swapped false true r = refl
swapped false false r = refl

-- a key that is put in order
put_key : {K : Type 0} (test : K → Bool) (k x : K) (keys put : List K) (o : Ordering) → (o ≡ Equal → test x ≡ test k)
    → list_any test put ≡ (test k || list_any test keys)
    → list_any test (match_ordering o (k ∷ x ∷ keys) (x ∷ keys) (x ∷ put)) ≡ (test k || (test x || list_any test keys))
put_key test k x keys put Less same on = refl
put_key test k x keys put Equal same on = either (test x) (test k) (list_any test keys) (same refl)
put_key test k x keys put Greater same on = ap (λ r. test x || r) on ∙ swapped (test x) (test k) (list_any test keys)

one_more : {K : Type 0} (cmp : K → K → Ordering) (test : K → Bool) (k : K) (keys : List K) → ((x : K) → cmp k x ≡ Equal → test x ≡ test k)
    → list_any test (insert_key cmp keys k) ≡ (test k || list_any test keys)
one_more cmp test k [] same = refl
one_more cmp test k (x ∷ keys) same = put_key test k x keys (insert_key cmp keys k) (cmp k x) (same x) (one_more cmp test k keys same)

abbrev vec_cmp : Vec ℕ Global → Vec ℕ Global → Ordering
vec_cmp x y = slice_cmp nat_cmp x.items y.items

-- no world was seen
pub none_seen : (set : BTreeSet (Vec ℕ Global)) → set.keys ≡ [] → AreSeen set []
none_seen set e k = ap (λ keys. list_any (λ v. is_eq (slice_cmp nat_cmp (kept_key k) v.items)) keys) e

-- a world that was not seen
pub one_more_seen : (old new : BTreeSet (Vec ℕ Global)) (key : Vec ℕ Global) (k : Kept) (seen : List Kept) → key.items ≡ kept_key k
    → new.keys ≡ insert_key vec_cmp old.keys key → AreSeen old seen → AreSeen new (k ∷ seen)
one_more_seen old new key k seen is keys are l =
    let test : Vec ℕ Global → Bool = λ v. is_eq (slice_cmp nat_cmp (kept_key l) v.items) in
    ap (list_any test) keys
    ∙ one_more vec_cmp test key old.keys (λ x e. ap (λ b. is_eq (slice_cmp nat_cmp (kept_key l) b)) (sym (exact_bytes key.items x.items e)))
    ∙ (λ i. (ap (λ b. is_eq (slice_cmp nat_cmp (kept_key l) b)) is ∙ key_test k l) i || are l i)

-- whether it was seen
pub seen_is : (set : BTreeSet (Vec ℕ Global)) (key : Vec ℕ Global) (k : Kept) (seen : List Kept) → key.items ≡ kept_key k → AreSeen set seen
    → contains_by (vec_cmp key) set ≡ is_seen k seen
seen_is set key k seen is are = ap (λ b. contains_by (λ v. slice_cmp nat_cmp b v.items) set) is ∙ are k

pub same_seen : (old new : BTreeSet (Vec ℕ Global)) (seen : List Kept) → new.keys ≡ old.keys → AreSeen old seen → AreSeen new seen
same_seen old new seen e are k = ap (λ keys. list_any (λ v. is_eq (slice_cmp nat_cmp (kept_key k) v.items)) keys) e ∙ are k

-- BRANCHES

module _ (s : Scenario) where
  way_more : (n m : ℕ) (bs : List KeptBranch) → n ≤ m → AreOnWay n bs → AreOnWay m bs
  way_more n m [] le way = tt
  way_more n m (b ∷ bs) le way = let first = way.0 in (omega (arith, le, first), way.1)

  -- branches see no more of the turns than those before them
  same_branches : (n : ℕ) (past later : List ℕ) (bs : List KeptBranch) → ((m : ℕ) → m ≤ n → take m later ≡ take m past) → AreOnWay n bs
      → map (branch_at s later) bs ≡ map (branch_at s past) bs
  same_branches n past later [] same way = refl
  same_branches n past later (b ∷ bs) same way =
      let first = way.0 in
      λ i. record { point = reached s (same b.turns first i); leaves = drop b.next b.leaves.items }
      ∷ same_branches b.turns past later bs (λ m le. same m (omega (arith, le, first))) way.1 i

  -- more turns were taken
  pub branches_later : (past more : List ℕ) (bs : List KeptBranch) (branches : List Branch) → AreBranches s past bs branches
      → AreBranches s (past ++ more) bs branches
  branches_later past more bs branches h =
      let count = length-append past more in
      record {
        are = same_branches (length past) past (past ++ more) (reverse bs) (λ m le. take-append-le m past more le) h.on_way ∙ h.are;
        on_way = way_more (length past) (length (past ++ more)) (reverse bs) (omega (arith, count)) h.on_way;
      }

  -- fewer turns were taken
  pub branches_earlier : (past : List ℕ) (n : ℕ) (bs : List KeptBranch) (branches : List Branch) → n ≤ length past → AreOnWay n (reverse bs)
      → AreBranches s past bs branches → AreBranches s (take n past) bs branches
  branches_earlier past n bs branches le way h = record {
    are = same_branches n past (take n past) (reverse bs) (λ m few. take-take m n past few) way ∙ h.are;
    on_way = subst (λ k. AreOnWay k (reverse bs)) (sym (length-take-le n past le)) way;
  }

  -- one is put behind the others
  pub branch_put : (past : List ℕ) (bs : List KeptBranch) (branches : List Branch) (b : KeptBranch) → b.turns ≡ length past → b.next ≡ 0
      → AreBranches s past bs branches → AreBranches s past (bs ++ b ∷ []) (record { point = reached s past; leaves = b.leaves.items } ∷ branches)
  branch_put past bs branches b turns next h =
      let back : reverse (bs ++ b ∷ []) ≡ b ∷ reverse bs = reverse-append bs (b ∷ []) in
      let point : take b.turns past ≡ past = ap (λ n. take n past) turns ∙ take_all (length past) past (omega arith) in
      record {
        are = ap (λ l. map (branch_at s past) l) back
            ∙ (λ i. record { point = reached s (point i); leaves = drop (next i) b.leaves.items } ∷ h.are i);
        on_way = subst (AreOnWay (length past)) (sym back) (omega (arith, turns), subst (λ n. AreOnWay n (reverse bs)) (sym turns) h.on_way);
      }

-- THE LAST BRANCH

module _ {A : Type 0} where
  -- what stands at one place is the same
  pub same_at : (xs : List A) (k : ℕ) (a b : A) → k < length xs → a ≡ get_or xs k a → b ≡ get_or xs k b → a ≡ b
  same_at [] k a b less e f = absurd (omega (arith, less))
  same_at (x ∷ xs) zero a b less e f = e ∙ sym f
  same_at (x ∷ xs) (suc k) a b less e f = same_at xs k a b (omega (arith, less)) e f

  -- what holds of all holds where one more is put of which it holds
  pub all_put : (P : A → Type 0) (xs : List A) (y : A) → All P xs → P y → All P (xs ++ y ∷ [])
  all_put P [] y h p zero d less = p
  all_put P [] y h p (suc k) d less = absurd (omega (arith, less))
  all_put P (x ∷ xs) y h p zero d less = h zero d (omega arith)
  all_put P (x ∷ xs) y h p (suc k) d less = all_put P xs y (λ j b l. h (suc j) b (omega (arith, l))) p k d (omega (arith, less))

  -- nothing is there
  pub none_there : (xs : List A) (b : Bool) → b ≡ (length xs == 0) → b ≡ true → xs ≡ []
  none_there [] b e f = refl
  none_there (x ∷ xs) b e f = absurd (omega (arith, number_is_equal (suc (length xs)) 0 (sym e ∙ f)))

  pub some_there : (xs : List A) (b : Bool) → b ≡ (length xs == 0) → b ≡ false → 0 < length xs
  some_there [] b e f = absurd (cc (e, f))
  some_there (x ∷ xs) b e f = omega arith

  last_put : (bs : List A) (b : A) → 0 < length bs → b ≡ get_or bs (length bs - 1) b → bs ≡ take (length bs - 1) bs ++ b ∷ []
  last_put bs b some is =
      let on : length bs - 1 + 1 ≡ length bs = omega (arith, some) in
      sym (take_all (length bs) bs (omega arith)) ∙ ap (λ n. take n bs) (sym on) ∙ take_more bs (length bs - 1) b (omega (arith, some))
      ∙ ap (λ a. take (length bs - 1) bs ++ a ∷ []) (sym is)

  -- the last one comes first
  pub last_first : (bs : List A) (b : A) → 0 < length bs → b ≡ get_or bs (length bs - 1) b → reverse bs ≡ b ∷ reverse (take (length bs - 1) bs)
  last_first bs b some is = ap reverse (last_put bs b some is) ∙ reverse-append (take (length bs - 1) bs) (b ∷ [])

  -- and so does another one in its place
  pub last_set : (bs : List A) (b : A) → 0 < length bs → reverse (slice_set bs (length bs - 1) b) ≡ b ∷ reverse (take (length bs - 1) bs)
  last_set bs b some =
      let set = slice_set bs (length bs - 1) b in
      let count : length set ≡ length bs = length-set bs (length bs - 1) b in
      let on : length bs - 1 + 1 ≡ length bs = omega (arith, some) in
      ap reverse (sym (take_all (length bs) set (omega (arith, count))) ∙ ap (λ n. take n set) (sym on)
      ∙ take_more_set bs (length bs - 1) b (omega (arith, some)))
      ∙ reverse-append (take (length bs - 1) bs) (b ∷ [])

module _ (s : Scenario) where
  abbrev e : Explored
  e = explored s

  not_new : (b : Bool) → true ≡ not b → b ≡ false
  not_new true e = absurd (cc e)
  not_new false e = refl

  known : (b : Bool) → false ≡ not b → b ≡ true
  known true e = refl
  known false e = absurd (cc e)

  -- whether a world is new is noted
  pub noted : (past : List ℕ) (c : KeptSearch) (t : Search) (branches : List Branch) (k : Kept) (set : BTreeSet (Vec ℕ Global)) (key : Vec ℕ Global)
      (is_new : Bool) → key.items ≡ kept_key k → is_new ≡ not (contains_by (vec_cmp key) c.seen) → set.keys ≡ insert_key vec_cmp c.seen.keys key
      → OnFalse is_new (set.keys ≡ c.seen.keys) → IsAt s past c t branches → Notes is_new s past (record c { seen = set }) k t branches
  noted past c t branches k set key true is added keys same h = (
    not_new (is_seen k t.seen) (added ∙ ap not (seen_is c.seen key k t.seen is h.stands.seen)),
    record {
      stands = record {
        seen = one_more_seen c.seen set key k t.seen is keys h.stands.seen;
        found = h.stands.found;
        left = h.stands.left;
        cut = h.stands.cut;
      };
      branched = h.branched;
    },
  )
  noted past c t branches k set key false is added keys same h = (
    known (is_seen k t.seen) (added ∙ ap not (seen_is c.seen key k t.seen is h.stands.seen)),
    record {
      stands = record { seen = same_seen c.seen set t.seen same h.stands.seen; found = h.stands.found; left = h.stands.left; cut = h.stands.cut };
      branched = h.branched;
    },
  )

  -- all leaves at the last branch have taken their turns
  pub none_next : (past : List ℕ) (c : KeptSearch) (u : Search) (b : KeptBranch) (v : Vec KeptBranch Global) → 0 < length c.branches.items
      → b ≡ get_or c.branches.items (length c.branches.items - 1) b → drop b.next b.leaves.items ≡ []
      → v.items ≡ take (length c.branches.items - 1) c.branches.items → ComesTo s past c u → ComesTo s past (record c { branches = v }) u
  none_next past c u b v some is over shorter h =
      let back : reverse c.branches.items ≡ b ∷ reverse v.items =
      last_first c.branches.items b some is ∙ ap (λ l. b ∷ reverse l) (sym shorter) in
      let others = map (branch_at s past) (reverse v.items) in
      let all : h.branches ≡ record { point = reached s (take b.turns past); leaves = [] } ∷ others =
      sym h.at.branched.are ∙ ap (λ l. map (branch_at s past) l) back ∙ ap (λ l. record { point = reached s (take b.turns past); leaves = l } ∷ others) over in
      let way = subst (AreOnWay (length past)) back h.at.branched.on_way in
      let same = ap (λ l. resumed e l h.now) (sym all) in
      record {
        now = h.now;
        branches = others;
        at = record {
          stands = record { seen = h.at.stands.seen; found = h.at.stands.found; left = h.at.stands.left; cut = h.at.stands.cut };
          branched = record { are = refl; on_way = way_more s b.turns (length past) (reverse v.items) way.0 way.1 };
        };
        same = record {
          found = ap (λ (t : Search). t.found) same ∙ h.same.found;
          cut = ap (λ (t : Search). t.cut) same ∙ h.same.cut;
        };
      }

  -- a leaf at the last branch takes its turn
  pub some_next : (past : List ℕ) (c : KeptSearch) (u : Search) (b new : KeptBranch) (leaf : ℕ) (v : Vec KeptBranch Global) → 0 < length c.branches.items
      → b ≡ get_or c.branches.items (length c.branches.items - 1) b → new.turns ≡ b.turns
      → drop b.next b.leaves.items ≡ leaf ∷ drop new.next new.leaves.items
      → v.items ≡ slice_set c.branches.items (length c.branches.items - 1) new → ComesTo s past c u
      → ComesBy s past (record c { branches = v }) b.turns leaf u
  some_next past c u b new leaf v some is turns next set h =
      let bs = c.branches.items in
      let below = reverse (take (length bs - 1) bs) in
      let back : reverse bs ≡ b ∷ below = last_first bs b some is in
      let front : reverse v.items ≡ new ∷ below = ap reverse set ∙ last_set bs new some in
      let others = map (branch_at s past) below in
      let point = reached s (take b.turns past) in
      let rest = drop new.next new.leaves.items in
      let all : h.branches ≡ record { point = point; leaves = leaf ∷ rest } ∷ others =
      sym h.at.branched.are ∙ ap (λ l. map (branch_at s past) l) back ∙ ap (λ l. record { point = point; leaves = l } ∷ others) next in
      let way = subst (AreOnWay (length past)) back h.at.branched.on_way in
      let first = way.0 in
      let later = subst (λ n. AreOnWay n below) (sym turns) way.1 in
      let same = ap (λ l. resumed e l h.now) (sym all) in
      record {
        now = h.now;
        rest = rest;
        branches = others;
        at = record {
          stands = record { seen = h.at.stands.seen; found = h.at.stands.found; left = h.at.stands.left; cut = h.at.stands.cut };
          branched = record {
            are = ap (λ l. map (branch_at s past) l) front ∙ ap (λ n. record { point = reached s (take n past); leaves = rest } ∷ others) turns;
            on_way = subst (AreOnWay (length past)) (sym front) (omega (arith, turns, first), later);
          };
        };
        few = way.0;
        on_way = subst (AreOnWay b.turns) (sym front) (omega (arith, turns), later);
        same = record {
          found = ap (λ (t : Search). t.found) same ∙ h.same.found;
          cut = ap (λ (t : Search). t.cut) same ∙ h.same.cut;
        };
      }

  -- ARRIVING

  -- more turns are wanted
  pub arrived_cut : (past later : List ℕ) (left : ℕ) (t : Search) → settled e (record { point = reached s past; left = t.left })
      ≡ record { point = reached s later; left = left } → is_settled e.system e.racy (reached s later).world ≡ false
      → arrived s past t ≡ stack (record t { left = left; cut = true }) []
  arrived_cut past later left t goes not_settled =
      let k = kept (reached s later) in
      ap (λ g. arrives e g t) goes ∙ ap (λ b. enters b (is_seen k t.seen) e (reached s later) k (record t { left = left })) not_settled

  -- it is settled
  pub arrived_settled : (past later : List ℕ) (left : ℕ) (t : Search) → settled e (record { point = reached s past; left = t.left })
      ≡ record { point = reached s later; left = left } → is_settled e.system e.racy (reached s later).world ≡ true
      → arrived s past t ≡ entered s later (record t { left = left })
  arrived_settled past later left t goes at_rest =
      let k = kept (reached s later) in
      ap (λ g. arrives e g t) goes ∙ ap (λ b. enters b (is_seen k t.seen) e (reached s later) k (record t { left = left })) at_rest

  -- turns were taken
  turns_taken : (past more later : List ℕ) (left : ℕ) (c : KeptSearch) (t : Search) (branches : List Branch) → later ≡ past ++ more
      → IsAt s past c t branches → IsAt s later (record c { left = left }) (record t { left = left }) branches
  turns_taken past more later left c t branches on h = record {
    stands = record { seen = h.stands.seen; found = h.stands.found; left = refl; cut = h.stands.cut };
    branched = subst (λ l. AreBranches s l c.branches.items branches) (sym on) (branches_later s past more c.branches.items branches h.branched);
  }

  -- a search of so many turns
  goes_from : (past later : List ℕ) (left : ℕ) (c : KeptSearch) (t : Search) → c.left ≡ t.left
      → settled e (record { point = reached s past; left = c.left }) ≡ record { point = reached s later; left = left }
      → settled e (record { point = reached s past; left = t.left }) ≡ record { point = reached s later; left = left }
  goes_from past later left c t same goes = ap (λ n. settled e (record { point = reached s past; left = n })) (sym same) ∙ goes

  -- a world that was not settled with the turns that are left
  pub settle_wants : (past more later : List ℕ) (left : ℕ) (c : KeptSearch) (t : Search) (branches : List Branch) → later ≡ past ++ more
      → settled e (record { point = reached s past; left = c.left }) ≡ record { point = reached s later; left = left }
      → is_settled e.system e.racy (reached s later).world ≡ false → IsAt s past c t branches
      → IsAtStack s later (record c { left = left; cut = true }) (arrived s past t) branches
  settle_wants past more later left c t branches on goes wants h =
      let now = turns_taken past more later left c t branches on h in
      subst (λ r. IsAtStack s later (record c { left = left; cut = true }) r branches)
      (sym (arrived_cut past later left t (goes_from past later left c t h.stands.left goes) wants))
      (record {
        stands = record { seen = now.stands.seen; found = now.stands.found; left = refl; cut = refl };
        branched = now.branched;
      })

  -- a world that was settled, and what comes of it
  pub settle_enters : (past more later : List ℕ) (left : ℕ) (c : KeptSearch) (t : Search) (branches : List Branch) → later ≡ past ++ more
      → settled e (record { point = reached s past; left = c.left }) ≡ record { point = reached s later; left = left }
      → is_settled e.system e.racy (reached s later).world ≡ true → IsAt s past c t branches
      → IsAt s later (record c { left = left }) (record t { left = left }) branches × (arrived s past t ≡ entered s later (record t { left = left }))
  settle_enters past more later left c t branches on goes at_rest h = (
    turns_taken past more later left c t branches on h,
    arrived_settled past later left t (goes_from past later left c t h.stands.left goes) at_rest,
  )

  pub entered_seen : (past : List ℕ) (t : Search) → is_seen (kept (reached s past)) t.seen ≡ true → entered s past t ≡ stack t []
  entered_seen past t seen = ap (λ b. enters true b e (reached s past) (kept (reached s past)) t) seen

  pub entered_new : (past : List ℕ) (t : Search) → is_seen (kept (reached s past)) t.seen ≡ false
      → entered s past t ≡ opened s past (record t { seen = kept (reached s past) ∷ t.seen })
  entered_new past t new = ap (λ b. enters true b e (reached s past) (kept (reached s past)) t) new

  pub opened_none : (past : List ℕ) (t : Search) (leaves : List ℕ) → leaves ≡ choices e.system e.racy (reached s past).world → leaves ≡ []
      → opened s past t ≡ stack (search_at_rest s past t) []
  opened_none past t leaves is none = ap (λ l. opens e (reached s past) l t) (sym is ∙ none)

  pub opened_some : (past : List ℕ) (t : Search) (leaves : List ℕ) → leaves ≡ choices e.system e.racy (reached s past).world → 0 < length leaves
      → opened s past t ≡ stack t (record { point = reached s past; leaves = leaves } ∷ [])
  opened_some past t leaves is some = ap (λ l. opens e (reached s past) l t) (sym is) ∙ by leaves some
    where
      by : (l : List ℕ) → 0 < length l → opens e (reached s past) l t ≡ stack t (record { point = reached s past; leaves = l } ∷ [])
      by [] less = absurd (omega (arith, less))
      by (x ∷ l) less = refl

  -- a branch is put
  pub opened_put : (past : List ℕ) (c : KeptSearch) (t : Search) (branches : List Branch) (b : KeptBranch) (v : Vec KeptBranch Global)
      → b.turns ≡ length past → b.next ≡ 0 → 0 < length b.leaves.items → b.leaves.items ≡ choices e.system e.racy (reached s past).world
      → v.items ≡ c.branches.items ++ b ∷ [] → IsAt s past c t branches → IsAtStack s past (record c { branches = v }) (opened s past t) branches
  opened_put past c t branches b v turns next some are put h =
      let opens : List Branch = record { point = reached s past; leaves = b.leaves.items } ∷ branches in
      subst (λ r. IsAtStack s past (record c { branches = v }) r branches) (sym (opened_some past t b.leaves.items are some))
      (record {
        stands = record { seen = h.stands.seen; found = h.stands.found; left = h.stands.left; cut = h.stands.cut };
        branched = subst (λ l. AreBranches s past l opens) (sym put) (branch_put s past c.branches.items branches b turns next h.branched);
      })

  pub at_stack : (past : List ℕ) (c : KeptSearch) (r q : Stack) (branches : List Branch) → r ≡ q → IsAtStack s past c q branches
      → IsAtStack s past c r branches
  at_stack past c r q branches same h = subst (λ r. IsAtStack s past c r branches) (sym same) h

  -- OUTCOMES

  -- it has an outcome of this text
  pub rest_known : (past : List ℕ) (c : KeptSearch) (t : Search) (branches : List Branch) (text : List ℕ) → text ≡ (outcome_of e (reached s past)).text
      → is_found text (map outcome_seen c.found.items) ≡ true → IsAt s past c t branches → IsAt s past c (search_at_rest s past t) branches
  rest_known past c t branches text is found h =
      let o = outcome_of e (reached s past) in
      let known : is_found o.text t.found ≡ true = (λ i. is_found (sym is i) (sym h.stands.found i)) ∙ found in
      subst (λ u. IsAt s past c u branches) (sym (ap (λ b. record t { found = if b then t.found else t.found ++ o ∷ [] }) known)) h

  pub rest_new : (past : List ℕ) (c : KeptSearch) (t : Search) (branches : List Branch) (text : List ℕ) (f : Found) (v : Vec Found Global)
      → text ≡ (outcome_of e (reached s past)).text → is_found text (map outcome_seen c.found.items) ≡ false
      → outcome_seen f ≡ outcome_of e (reached s past) → v.items ≡ c.found.items ++ f ∷ []
      → IsAt s past c t branches → IsAt s past (record c { found = v }) (search_at_rest s past t) branches
  rest_new past c t branches text f v is found put more h =
      let o = outcome_of e (reached s past) in
      let unknown : is_found o.text t.found ≡ false = (λ i. is_found (sym is i) (sym h.stands.found i)) ∙ found in
      record {
        stands = record {
          seen = h.stands.seen;
          found = ap (map outcome_seen) more ∙ map-append outcome_seen c.found.items (f ∷ []) ∙ (λ i. h.stands.found i ++ put i ∷ [])
              ∙ sym (ap (λ b. if b then t.found else t.found ++ o ∷ []) unknown);
          left = h.stands.left;
          cut = h.stands.cut;
        };
        branched = h.branched;
      }

  -- CHOICES

  -- no turn is left
  pub choice_wanted : (past : List ℕ) (c : KeptSearch) (turns leaf : ℕ) (u : Search) → c.left ≡ 0 → ComesBy s past c turns leaf u
      → ComesTo s past (record c { cut = true }) u
  choice_wanted past c turns leaf u none h =
      let point = reached s (take turns past) in
      let t : Search = record h.now { cut = true } in
      let bs : List Branch = record { point = point; leaves = h.rest } ∷ h.branches in
      let first = wanted e point leaf h.rest h.branches h.now (sym h.at.stands.left ∙ none) in
      let later = over e bs t refl in
      record {
        now = t;
        branches = bs;
        at = record {
          stands = record { seen = h.at.stands.seen; found = h.at.stands.found; left = h.at.stands.left; cut = refl };
          branched = h.at.branched;
        };
        same = record {
          found = later.found ∙ sym first.found ∙ h.same.found;
          cut = later.cut ∙ sym first.cut ∙ h.same.cut;
        };
      }

  abbrev less : Search → Search
  less t = record t { left = t.left - 1 }

  abbrev with_rest : List ℕ → ℕ → List ℕ → List Branch → List Branch
  with_rest past turns rest branches = record { point = reached s (take turns past); leaves = rest } ∷ branches

  -- the leaf has taken its turn
  pub choice_taken : (past : List ℕ) (c : KeptSearch) (turns leaf : ℕ) (u : Search) → ((h : ComesBy s past c turns leaf u)
      → IsAt s (take turns past ++ leaf ∷ []) (record c { left = c.left - 1 }) (less h.now) (with_rest past turns h.rest h.branches))
  choice_taken past c turns leaf u h =
      let back = branches_earlier s past turns c.branches.items (with_rest past turns h.rest h.branches) h.few h.on_way h.at.branched in
      record {
        stands = record { seen = h.at.stands.seen; found = h.at.stands.found; left = ap (λ n. n - 1) h.at.stands.left; cut = h.at.stands.cut };
        branched = branches_later s (take turns past) (leaf ∷ []) c.branches.items (with_rest past turns h.rest h.branches) back;
      }

  -- and the search has gone on there
  pub choice_on : (past later : List ℕ) (c new : KeptSearch) (turns leaf : ℕ) (u : Search) → c.cut ≡ false → 0 < c.left
      → (h : ComesBy s past c turns leaf u)
      → IsAtStack s later new (arrived s (take turns past ++ leaf ∷ []) (less h.now)) (with_rest past turns h.rest h.branches)
      → ComesTo s later new u
  choice_on past later c new turns leaf u on some h at =
      let left = h.at.stands.left in
      let p = reached s (take turns past) in
      let r = arrived s (take turns past ++ leaf ∷ []) (less h.now) in
      let same = turn_taken e p leaf (h.now.left - 1) h.rest h.branches h.now (sym h.at.stands.cut ∙ on) (omega (arith, some, left)) in
      let there = ap (λ q. arrives e (settled e (record { point = q; left = h.now.left - 1 })) (less h.now)) (turns_more (system s) (take turns past) leaf
      (first_point (system s))) in
      let is : resumed e (with_rest past turns (leaf ∷ h.rest) h.branches) h.now ≡ resumed e (r.branches ++ with_rest past turns h.rest h.branches) r.search =
      same ∙ ap (λ (q : Stack). resumed e (q.branches ++ with_rest past turns h.rest h.branches) q.search) (sym there) in
      record {
        now = r.search;
        branches = r.branches ++ with_rest past turns h.rest h.branches;
        at = at;
        same = record {
          found = ap (λ (t : Search). t.found) (sym is) ∙ h.same.found;
          cut = ap (λ (t : Search). t.cut) (sym is) ∙ h.same.cut;
        };
      }

  -- all of this
  pub choice_goes : (past later : List ℕ) (c new : KeptSearch) (turns leaf : ℕ) (u : Search) → c.cut ≡ false → 0 < c.left
      → ((t : Search) (branches : List Branch) → IsAt s (take turns past ++ leaf ∷ []) (record c { left = c.left - 1 }) t branches
      → IsAtStack s later new (arrived s (take turns past ++ leaf ∷ []) t) branches)
      → ComesBy s past c turns leaf u → ComesTo s later new u
  choice_goes past later c new turns leaf u on some goes h =
      choice_on past later c new turns leaf u on some h
      (goes (less h.now) (with_rest past turns h.rest h.branches) (choice_taken past c turns leaf u h))

  -- THE WHOLE SEARCH

  -- it begins
  pub search_begun : (past later : List ℕ) (new : KeptSearch) (t : Search) → t.cut ≡ false → IsAtStack s later new (arrived s past t) []
      → ComesTo s later new (visits e (reached s past) t)
  search_begun past later new t on at =
      let r = arrived s past t in
      let is = ap (λ l. resumed e l r.search) (append-nil r.branches) ∙ sym (visits_is e (reached s past) t on) in
      record {
        now = r.search;
        branches = r.branches ++ [];
        at = at;
        same = record { found = ap (λ (t : Search). t.found) is; cut = ap (λ (t : Search). t.cut) is };
      }

  -- it was cut
  pub search_cut : (past : List ℕ) (c : KeptSearch) (u : Search) → c.cut ≡ true → ComesTo s past c u → Finds c u
  search_cut past c u cut h =
      let last = over e h.branches h.now (sym h.at.stands.cut ∙ cut) in
      record { found = h.at.stands.found ∙ sym last.found ∙ h.same.found; cut = cut ∙ sym last.cut ∙ h.same.cut }

  -- no branch is open
  pub search_over : (past : List ℕ) (c : KeptSearch) (u : Search) → c.branches.items ≡ [] → ComesTo s past c u → Finds c u
  search_over past c u none h =
      let empty : h.branches ≡ [] = sym h.at.branched.are ∙ ap (λ l. map (branch_at s past) (reverse l)) none in
      let same = ap (λ l. resumed e l h.now) (sym empty) in
      record {
        found = h.at.stands.found ∙ ap (λ (t : Search). t.found) same ∙ h.same.found;
        cut = h.at.stands.cut ∙ ap (λ (t : Search). t.cut) same ∙ h.same.cut;
      }

  -- from the start on
  pub all_found : (past : List ℕ) (c : KeptSearch) → past ≡ [] → Finds c (visits e (reached s past) nothing_found) → Finds c (outcomes s)
  unfolding outcomes
  all_found past c none h = subst (λ l. Finds c (visits e (reached s l) nothing_found)) none h
