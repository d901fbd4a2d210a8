-- Accounts and sessions that are noted anew.
use Rattle.std.proofs.Common.{◌≡◌, ◌∙◌, ◌<◌, ◌≤◌, ◌+◌, ℕ, zero, suc, List, [], ◌∷◌, ◌++◌, length, map, take, get_or, Option, Some, None, IfSome, refl, ap}
use Rattle.std.proofs.Common.{sym, subst}
use Rattle.std.proofs.Common.{arith, drop, option_map, inl, inr, ◌⊎◌}
use Rattle.std.specs.Prelude.{slice_get, slice_set}
use Rattle.std.proofs.lemmas.Bool.Decides.{eqb_tells}
use Rattle.std.proofs.lemmas.List.{take_all}
use Rattle.gq_model.specs.machine.Accounts.{Account, accounts}
use Rattle.gq_model.specs.machine.Scenario.{Scenario}
use Rattle.gq_model.specs.machine.World as model
use Rattle.gq_model.proofs.Small_facts.{none_some}
use Rattle.gq_laws.proofs.session_links.Written_world_links.{set_else}
use Rattle.gq_output.specs.Account_values.{AccountValues}
use Rattle.gq_world.specs.Account_lines.{all_accounts}
use Rattle.gq_world.specs.World_between_turns.{World}
use Rattle.gq_traces.specs.Trace.{standing_of, reported_in, printed_session}
use Rattle.gq_traces.specs.declared.noted.PrintedState.{PrintedState}
use Rattle.gq_traces.specs.declared.session_lines.PrintedSession.{PrintedSession}
use Rattle.gq_traces.specs.internal.Noted.{AreNoted, IsReported, SessionsNoted, seen_session, standing_in}
use Rattle.gq_traces.proofs.Accounts_by_budgets.{all_standing}

pub get_set_same : {A : Type 0} (xs : List A) (k : ℕ) (y d : A) → k < length xs → get_or (slice_set xs k y) k d ≡ y
get_set_same [] k y d less = absurd (omega (arith, less))
get_set_same (x ∷ xs) zero y d less = refl
get_set_same (x ∷ xs) (suc k) y d less = get_set_same xs k y d (omega (arith, less))

pub get_set_other : {A : Type 0} (xs : List A) (k j : ℕ) (y d : A) → (j ≡ k → ⊥) → get_or (slice_set xs k y) j d ≡ get_or xs j d
get_set_other [] k j y d other = refl
get_set_other (x ∷ xs) zero zero y d other = absurd (other refl)
get_set_other (x ∷ xs) zero (suc j) y d other = refl
get_set_other (x ∷ xs) (suc k) zero y d other = refl
get_set_other (x ∷ xs) (suc k) (suc j) y d other = get_set_other xs k j y d (λ e. other (ap suc e))

pub none_more : {A : Type 0} (xs : List (Option A)) → ((k : ℕ) → get_or xs k None ≡ None) → (k : ℕ) → get_or (xs ++ None ∷ []) k None ≡ None
none_more [] h zero = refl
none_more [] h (suc k) = refl
none_more (x ∷ xs) h zero = h 0
none_more (x ∷ xs) h (suc k) = none_more xs (λ j. h (suc j)) k

-- an account more is noted
pub accounts_more : (xs : List AccountValues) (all : List Account) (n k : ℕ) (y : AccountValues) → k ≡ n → n < length xs → n < length all
    → IfSome (slice_get all n) (λ a. standing_in y ≡ standing_of a) → map standing_in (take n xs) ≡ map standing_of (take n all)
    → map standing_in (take (n + 1) (slice_set xs k y)) ≡ map standing_of (take (n + 1) all)
accounts_more xs all n k y at less fewer reported so_far =
    subst (λ j. map standing_in (take (n + 1) (slice_set xs j y)) ≡ map standing_of (take (n + 1) all)) (sym at)
    (let one : n + 1 ≡ suc n = omega arith in
    subst (λ m. map standing_in (take m (slice_set xs n y)) ≡ map standing_of (take m all)) (sym one) (by xs all n less fewer reported so_far))
  where
    by : (xs : List AccountValues) (all : List Account) (n : ℕ) → n < length xs → n < length all → IfSome (slice_get all n) (λ a. standing_in y ≡ standing_of a)
        → map standing_in (take n xs) ≡ map standing_of (take n all) → map standing_in (take (suc n) (slice_set xs n y)) ≡ map standing_of (take (suc n) all)
    by [] all n less fewer reported so_far = absurd (omega (arith, less))
    by (x ∷ xs) [] n less fewer reported so_far = absurd (omega (arith, fewer))
    by (x ∷ xs) (a ∷ all) zero less fewer reported so_far = ap (λ z. z ∷ []) reported
    by (x ∷ xs) (a ∷ all) (suc n) less fewer reported so_far =
        λ i. first so_far i ∷ by xs all n (omega (arith, less)) (omega (arith, fewer)) reported (rest so_far) i
      where
        first : standing_in x ∷ map standing_in (take n xs) ≡ standing_of a ∷ map standing_of (take n all) → standing_in x ≡ standing_of a
        first e = ap (λ l. get_or l 0 (standing_in x)) e

        rest : standing_in x ∷ map standing_in (take n xs) ≡ standing_of a ∷ map standing_of (take n all)
            → map standing_in (take n xs) ≡ map standing_of (take n all)
        rest e = ap (drop 1) e

pub accounts_all : (xs : List AccountValues) (all : List Account) (n : ℕ) → length xs ≡ length all → length all ≤ n
    → map standing_in (take n xs) ≡ map standing_of (take n all) → map standing_in xs ≡ map standing_of all
accounts_all xs all n same few h =
    ap (map standing_in) (sym (take_all n xs (omega (arith, same, few)))) ∙ h ∙ ap (map standing_of) (take_all n all few)

pub length_set : {A : Type 0} (xs : List A) (k : ℕ) (y : A) → length (slice_set xs k y) ≡ length xs
length_set [] k y = refl
length_set (x ∷ xs) zero y = refl
length_set (x ∷ xs) (suc k) y = ap suc (length_set xs k y)

-- a session more is noted
pub printed_more : (s : Scenario) (w : model.World) (xs : List (Option PrintedSession)) (n : ℕ) (y : Option PrintedSession) → n < length xs → IsReported s w n y
    → ((k : ℕ) → k < n → IsReported s w k (get_or xs k None)) → (k : ℕ) → k < n + 1 → IsReported s w k (get_or (slice_set xs n y) k None)
printed_more s w xs n y less reported so_far k below = elim (eqb_tells k n) [
  | inl t ↦ subst (λ j. IsReported s w j (get_or (slice_set xs n y) j None)) (sym t.1) (subst (IsReported s w n) (sym (get_set_same xs n y None less)) reported)
  | inr o ↦ (let other = o.1 in subst (IsReported s w k) (sym (get_set_other xs n k y None other)) (so_far k (below_other k n below other)))
]
  where
    below_other : (k n : ℕ) → k < n + 1 → (k ≡ n → ⊥) → k < n
    below_other k n less other = grind (arith, less, other)

pub others_more : (xs old : List (Option PrintedSession)) (n : ℕ) (y : Option PrintedSession)
    → ((k : ℕ) → n ≤ k → get_or xs k None ≡ get_or old k None) → (k : ℕ) → n + 1 ≤ k → get_or (slice_set xs n y) k None ≡ get_or old k None
others_more xs old n y h k above =
    get_set_other xs n k y None (λ e. omega (arith, above, e)) ∙ h k (omega (arith, above))

-- of what is noted from a number on the same stays
pub later_more : {A : Type 0} (xs olds : List A) (n : ℕ) (y : A) → ((k : ℕ) → n ≤ k → slice_get xs k ≡ slice_get olds k) → (k : ℕ) → n + 1 ≤ k
    → slice_get (slice_set xs n y) k ≡ slice_get olds k
later_more xs olds n y h k over = set_else xs n k y (λ e. omega (arith, over, e)) ∙ h k (omega (arith, over))

-- WHAT IS NOTED THEN

none_reported : (w : model.World) (k : ℕ) → length w.sessions ≤ k → printed_session w k ≡ None
none_reported w k few = ap (λ o. reported_in w k (model.joined o)) (past w.sessions k few)
  where
    past : {A : Type 0} (xs : List A) (k : ℕ) → length xs ≤ k → slice_get xs k ≡ None
    past [] k few = refl
    past (x ∷ xs) zero few = absurd (omega (arith, few))
    past (x ∷ xs) (suc k) few = past xs k (omega (arith, few))

-- the sessions
pub sessions_all : (w : World) (old new : PrintedState) (count most : ℕ) → count ≡ length w.world.sessions → count ≤ most → old.count ≤ most → most ≤ 16449
    → ((k : ℕ) → old.count ≤ k → get_or old.sessions.items k None ≡ None)
    → ((k : ℕ) → k < most → IsReported w.scenario w.world k (get_or new.sessions.items k None))
    → ((k : ℕ) → most ≤ k → get_or new.sessions.items k None ≡ get_or old.sessions.items k None)
    → length new.sessions.items ≡ 16449 → new.count ≡ count → SessionsNoted w.scenario w.world new
sessions_all w old new count most is less few room none reported others long now = record {
  sessions = λ k below. elim (le_or_lt most k) [
    | inl over ↦ subst (IsReported w.scenario w.world k) (sym (nothing k over)) (record {
      is = sym (none_reported w.world k (omega (arith, over, less, is)));
      known = tt;
    })
    | inr under ↦ reported k under
  ];
  room = long;
  count = now ∙ is;
  few = omega (arith, now, less, room);
  beyond = λ k over. elim (le_or_lt most k) [
    | inl above ↦ nothing k above
    | inr under ↦ by_printed k under (omega (arith, over, now, is))
  ];
}
  where
    nothing : (k : ℕ) → most ≤ k → get_or new.sessions.items k None ≡ None
    nothing k over = others k over ∙ none k (omega (arith, over, few))

    le_or_lt : (m k : ℕ) → (m ≤ k) ⊎ (k < m)
    le_or_lt m k = grind arith

    none_seen : (t : Option PrintedSession) → option_map (seen_session w.scenario) t ≡ None → t ≡ None
    none_seen None e = refl
    none_seen (Some t) e = absurd (none_some (sym e))

    by_printed : (k : ℕ) → k < most → length w.world.sessions ≤ k → get_or new.sessions.items k None ≡ None
    by_printed k under over = none_seen (get_or new.sessions.items k None) ((reported k under).is ∙ none_reported w.world k over)

-- accounts and sessions
pub noted_both : (w : World) (n : PrintedState) → map standing_in n.accounts.items ≡ map standing_of (all_accounts w) → SessionsNoted w.scenario w.world n
    → AreNoted w.scenario w.world n
noted_both w n accounts h =
    record { accounts = accounts ∙ all_standing w; sessions = h.sessions; room = h.room; count = h.count; few = h.few; beyond = h.beyond }

pub sessions_of : (s : Scenario) (w : model.World) (n m : PrintedState) → AreNoted s w n → m.sessions ≡ n.sessions → m.count ≡ n.count → SessionsNoted s w m
sessions_of s w n m h sessions count =
    let few = h.few in
    record {
      sessions = λ k less. subst (IsReported s w k) (ap (λ l. get_or l.items k None) (sym sessions)) (h.sessions k less);
      room = ap (λ l. length l.items) sessions ∙ h.room;
      count = count ∙ h.count;
      few = omega (arith, few, count);
      beyond = λ k over. ap (λ l. get_or l.items k None) sessions ∙ h.beyond k (omega (arith, over, count));
    }

pub noted_all : (w : World) (old new : PrintedState) (count most : ℕ) → count ≡ length w.world.sessions → count ≤ most → old.count ≤ most → most ≤ 16449
    → ((k : ℕ) → old.count ≤ k → get_or old.sessions.items k None ≡ None)
    → ((k : ℕ) → k < most → IsReported w.scenario w.world k (get_or new.sessions.items k None))
    → ((k : ℕ) → most ≤ k → get_or new.sessions.items k None ≡ get_or old.sessions.items k None)
    → length new.sessions.items ≡ 16449 → new.count ≡ count → map standing_in new.accounts.items ≡ map standing_of (all_accounts w)
    → AreNoted w.scenario w.world new
noted_all w old new count most is less few room none reported others long now accounts =
    noted_both w new accounts (sessions_all w old new count most is less few room none reported others long now)
