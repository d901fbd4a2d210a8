-- The way to rest, leaf by leaf: whose turns come next, and what is still to come after them.
use Rattle.std.proofs.Common.{◌≡◌, ◌∙◌, ℕ, zero, suc, ◌+◌, ◌-◌, ◌≤◌, Bool, true, false, List, [], ◌∷◌, ◌++◌, drop, Option, Some, None}
use Rattle.std.proofs.Common.{Ok, Err, refl, ap, sym, subst, arith}
use Rattle.std.specs.Prelude.{if◌then◌else◌}
use Rattle.gq_model.specs.machine.Doing.{Stepped}
use Rattle.gq_model.specs.machine.Rest.{Taken, and_further, can_run, greatest_turns, one_and, reported_turns, round, rounds, to_rest, while_can}
use Rattle.gq_model.specs.machine.Scenario.{Component, System}
use Rattle.gq_model.specs.machine.Step.{next}
use Rattle.gq_model.specs.machine.World.{World}
use Rattle.gq_model.proofs.Small_facts.{none_some, some_same}
use Rattle.gq_traces.specs.internal.Next_able.{StillToCome, begun, first_able, first_from, next_able, or_else, turns_from}
use Rattle.gq_traces.proofs.Scheduled_turn_runs.{while_few}

abbrev none_of : ℕ → World → Taken
none_of n w = record { turns = []; left = n; world = w }

module _ (system : System) where
  abbrev leaves : List Component
  leaves = system.components

  -- WHERE NO TURN IS TAKEN

  while_none : (n : ℕ) (w : World) (x : ℕ) → (while_can n system w x).0 ≡ 0 → while_can n system w x ≡ (0, w)
  while_none zero w x e = refl
  while_none (suc n) w x e = by (can_run system w x) (next system w x) e
    where
      by : (b : Bool) (o : Stepped) → (if b then one_and w o (λ u. while_can n system u x) else (0, w)).0 ≡ 0
          → (if b then one_and w o (λ u. while_can n system u x) else (0, w)) ≡ (0, w)
      by false o e = refl
      by true (Err wrong) e = refl
      by true (Ok p) e = absurd (omega (arith, e))

  while_idle : (n : ℕ) (w : World) (x : ℕ) → can_run system w x ≡ false → while_can n system w x ≡ (0, w)
  while_idle zero w x e = refl
  while_idle (suc n) w x e = ap (λ (b : Bool). if b then one_and w (next system w x) (λ u. while_can n system u x) else (0, w)) e

  -- the rest of a round behind the turns of a leaf
  abbrev behind : ℕ → ℕ → List Component → ℕ × World → Taken
  behind n x rest p = let more = round system (n - p.0) p.1 (suc x) rest in record more { turns = reported_turns x p.0 ++ more.turns }

  passed : (n : ℕ) (w : World) (x : ℕ) (c : Component) (rest : List Component) → while_can n system w x ≡ (0, w)
      → round system n w x (c ∷ rest) ≡ round system n w (suc x) rest
  passed n w x c rest e =
      let all : n - 0 ≡ n = omega arith in ap (behind n x rest) e ∙ ap (λ k. round system k w (suc x) rest) all

  reported_none : (x k : ℕ) (more : List (ℕ × ℕ)) → reported_turns x k ++ more ≡ [] → k ≡ 0
  reported_none x zero more e = refl
  reported_none x (suc k) more e = absurd cc

  empty_round : (n : ℕ) (w : World) (x : ℕ) (cs : List Component) → (round system n w x cs).turns ≡ [] → round system n w x cs ≡ none_of n w
  empty_round n w x [] e = refl
  empty_round n w x (c ∷ rest) e =
      let p = while_can n system w x in
      let none = reported_none x p.0 (round system (n - p.0) p.1 (suc x) rest).turns e in
      let here = passed n w x c rest (while_none n w x none) in
      here ∙ empty_round n w (suc x) rest (sym (ap (λ (t : Taken). t.turns) here) ∙ e)

  no_rounds : (k n : ℕ) (w : World) → round system n w 0 leaves ≡ none_of n w → (rounds k system n w).turns ≡ []
  no_rounds zero n w e = refl
  no_rounds (suc k) n w e = ap (λ (t : Taken). (and_further t t.turns (λ left u. rounds k system left u)).turns) e

  whole : {A : Type 0} (cs : List A) → drop 0 cs ≡ cs
  whole [] = refl
  whole (c ∷ cs) = refl

  -- rounds are the turns from the first leaf on
  as_turns : (k n : ℕ) (w : World) → (rounds (suc k) system n w).turns ≡ turns_from system k 0 n w
  as_turns k n w =
      by (round system n w 0 leaves) refl ∙ ap (λ cs. (let here = round system n w 0 cs in here.turns ++ (rounds k system here.left here.world).turns))
      (sym (whole leaves))
    where
      by : (t : Taken) → round system n w 0 leaves ≡ t
          → (and_further t t.turns (λ left u. rounds k system left u)).turns ≡ t.turns ++ (rounds k system t.left t.world).turns
      by t is = on t.turns refl
        where
          on : (ts : List (ℕ × ℕ)) → t.turns ≡ ts
              → (and_further t ts (λ left u. rounds k system left u)).turns ≡ ts ++ (rounds k system t.left t.world).turns
          on [] e =
              let empty = empty_round n w 0 leaves (ap (λ (t : Taken). t.turns) is ∙ e) in
              let same : t ≡ none_of n w = sym is ∙ empty in
              e ∙ sym (ap (λ (t : Taken). (rounds k system t.left t.world).turns) same ∙ no_rounds k n w empty)
          on (x ∷ ts) e = ap (λ l. l ++ (rounds k system t.left t.world).turns) e

  -- THE NEXT LEAF

  drop_on : {A : Type 0} (all : List A) (x : ℕ) (c : A) (rest : List A) → drop x all ≡ c ∷ rest → drop (suc x) all ≡ rest
  drop_on [] zero c rest e = absurd cc
  drop_on [] (suc x) c rest e = absurd cc
  drop_on (a ∷ all) zero c rest e = ap (drop 1) e ∙ whole rest
  drop_on (a ∷ all) (suc x) c rest e = drop_on all x c rest e

  -- the round goes on at the first leaf that can take a turn
  found : (all : List Component) (n : ℕ) (w : World) (x y : ℕ) (cs : List Component) → drop x all ≡ cs → first_from system w x cs ≡ Some y
      → round system n w x cs ≡ behind n y (drop (suc y) all) (while_can n system w y)
  found all n w x y [] at e = absurd (none_some e)
  found all n w x y (c ∷ rest) at e = by (can_run system w x) refl (λ f. found all n w (suc x) y rest (drop_on all x c rest at) f) e
    where
      next_at : drop (suc x) all ≡ rest
      next_at = drop_on all x c rest at

      by : (b : Bool) → can_run system w x ≡ b
          → (first_from system w (suc x) rest ≡ Some y → round system n w (suc x) rest ≡ behind n y (drop (suc y) all) (while_can n system w y))
          → (if b then Some x else first_from system w (suc x) rest) ≡ Some y
          → round system n w x (c ∷ rest) ≡ behind n y (drop (suc y) all) (while_can n system w y)
      by true can later f =
          let same = some_same f in
          ap (λ l. behind n x l (while_can n system w x)) (sym next_at) ∙ ap (λ z. behind n z (drop (suc z) all) (while_can n system w z)) same
      by false can later f = passed n w x c rest (while_idle n w x can) ∙ later f

  -- where none from there on can, it takes no turn
  not_found : (n : ℕ) (w : World) (x : ℕ) (cs : List Component) → first_from system w x cs ≡ None → round system n w x cs ≡ none_of n w
  not_found n w x [] e = refl
  not_found n w x (c ∷ rest) e = by (can_run system w x) refl (λ f. not_found n w (suc x) rest f) e
    where
      by : (b : Bool) → can_run system w x ≡ b → (first_from system w (suc x) rest ≡ None → round system n w (suc x) rest ≡ none_of n w)
          → (if b then Some x else first_from system w (suc x) rest) ≡ None → round system n w x (c ∷ rest) ≡ none_of n w
      by true can later f = absurd (none_some (sym f))
      by false can later f = passed n w x c rest (while_idle n w x can) ∙ later f

  -- where no turn is left, neither
  none_left : (w : World) (x : ℕ) (cs : List Component) → round system 0 w x cs ≡ none_of 0 w
  none_left w x [] = refl
  none_left w x (c ∷ rest) = passed 0 w x c rest refl ∙ none_left w (suc x) rest

  -- WHAT IS STILL TO COME

  -- at the start
  pub rest_begins : (w : World) → StillToCome system 0 greatest_turns w (to_rest system w).turns
  unfolding to_rest
  rest_begins w = record { rounds = greatest_turns; enough = omega arith; are = as_turns greatest_turns greatest_turns w }

  found_at : (k x n t y : ℕ) (w v : World) → first_able system w x leaves ≡ Some y → while_can n system w y ≡ (suc t, v)
      → turns_from system k x n w ≡ (y, suc t) ∷ turns_from system k (suc y) (n - suc t) v
  found_at k x n t y w v first takes =
      let here = found leaves n w x y (drop x leaves) refl first ∙ ap (behind n y (drop (suc y) leaves)) takes in
      ap (λ (u : Taken). u.turns ++ (rounds k system u.left u.world).turns) here

  few_taken : (n t y : ℕ) (w v : World) → while_can n system w y ≡ (suc t, v) → suc t ≤ n
  few_taken n t y w v takes = let few = while_few n system w y in let same = ap (λ (p : ℕ × World). p.0) takes in omega (arith, few, same)

  -- after the turns of a leaf
  pub rest_goes : (x n t y : ℕ) (w v : World) (turns : List (ℕ × ℕ)) → StillToCome system x n w turns → next_able system w x ≡ Some y
      → while_can n system w y ≡ (suc t, v)
      → (rest : List (ℕ × ℕ)) × (turns ≡ (y, suc t) ∷ rest) × StillToCome system (suc y) (n - suc t) v rest
  rest_goes x n t y w v turns h next takes = by (first_able system w x leaves) refl next
    where
      few : suc t ≤ n
      few = few_taken n t y w v takes

      by : (o : Option ℕ) → first_able system w x leaves ≡ o → or_else o (first_able system w 0 leaves) ≡ Some y
          → (rest : List (ℕ × ℕ)) × (turns ≡ (y, suc t) ∷ rest) × StillToCome system (suc y) (n - suc t) v rest
      by (Some z) first e =
          let enough = h.enough in (
            turns_from system h.rounds (suc y) (n - suc t) v,
            h.are ∙ found_at h.rounds x n t y w v (first ∙ e) takes,
            record { rounds = h.rounds; enough = omega (arith, enough, few); are = refl },
          )
      by None first e = again x h.rounds h.enough h.are first
        where
          again : (x k : ℕ) → n + begun x ≤ k → turns ≡ turns_from system k x n w → first_able system w x leaves ≡ None
              → (rest : List (ℕ × ℕ)) × (turns ≡ (y, suc t) ∷ rest) × StillToCome system (suc y) (n - suc t) v rest
          again zero k enough are first = absurd (none_some (sym first ∙ e))
          again (suc x) zero enough are first = absurd (omega (arith, enough))
          again (suc x) (suc k) enough are first =
              let empty = not_found n w (suc x) (drop (suc x) leaves) first in (
                turns_from system k (suc y) (n - suc t) v,
                are ∙ (ap (λ (u : Taken). u.turns ++ (rounds (suc k) system u.left u.world).turns) empty ∙ (as_turns k n w
                    ∙ found_at k 0 n t y w v e takes)),
                record { rounds = k; enough = omega (arith, enough, few); are = refl },
              )

  -- where no leaf can take a turn
  pub rest_ends : (x n : ℕ) (w : World) (turns : List (ℕ × ℕ)) → StillToCome system x n w turns → next_able system w x ≡ None → turns ≡ []
  rest_ends x n w turns h next = by (first_able system w x leaves) refl next
    where
      by : (o : Option ℕ) → first_able system w x leaves ≡ o → or_else o (first_able system w 0 leaves) ≡ None → turns ≡ []
      by (Some z) first e = absurd (none_some (sym e))
      by None first e =
          let here = not_found n w x (drop x leaves) first in
          let none = sym (ap (round system n w 0) (whole leaves)) ∙ not_found n w 0 (drop 0 leaves) e in
          h.are ∙ (ap (λ (u : Taken). u.turns ++ (rounds h.rounds system u.left u.world).turns) here ∙ no_rounds h.rounds n w none)

  -- where no turn is left
  pub rest_over : (x n : ℕ) (w : World) (turns : List (ℕ × ℕ)) → StillToCome system x n w turns → n ≡ 0 → turns ≡ []
  rest_over x n w turns h none =
      let g = subst (λ m. StillToCome system x m w turns) none h in
      g.are ∙ (ap (λ (u : Taken). u.turns ++ (rounds g.rounds system u.left u.world).turns) (none_left w x (drop x leaves))
      ∙ no_rounds g.rounds 0 w (none_left w 0 leaves))
