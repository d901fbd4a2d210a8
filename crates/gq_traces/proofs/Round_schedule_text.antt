-- Rounds over the leaves, with what is listed of them.
use Rattle.std.proofs.Common.{◌≡◌, ◌∙◌, ℕ, zero, suc, ◌-◌, ◌<◌, ◌≤◌, ◌⊎◌, inl, inr, Bool, true, false, List, [], ◌∷◌, ◌++◌, length, drop, refl, ap}
use Rattle.std.proofs.Common.{sym, subst, arith, append_assoc, append-nil}
use Rattle.std.specs.Prelude.{◌||◌}
use Rattle.gq_model.specs.declared.act.TurnLine.{TurnLine}
use Rattle.gq_model.specs.machine.Scenario.{Component, System}
use Rattle.gq_model.specs.machine.World.{World}
use Rattle.gq_model.specs.machine.Rest.{can_run, Taken, and_further, round, rounds, some_can, reported_turns, while_can}
use Rattle.gq_traces.specs.Schedule.{as_lines}
use Rattle.gq_traces.proofs.Turn_text_parts.{drop_all, drop_at, listed_both}
use Rattle.gq_traces.proofs.Scheduled_turn_runs.{while_few}

-- ONE ROUND

-- the turns of the leaf at the head of a list, and those of the leaves after it
round_at : (system : System) (n : ℕ) (w v : World) (x k : ℕ) (cs rest : List Component) (c : Component) → cs ≡ c ∷ rest → while_can n system w x ≡ (k, v)
    → round system n w x cs ≡ record (round system (n - k) v (suc x) rest) { turns = reported_turns x k ++ (round system (n - k) v (suc x) rest).turns }
round_at system n w v x k cs rest c is takes =
    ap (round system n w x) is
    ∙ ap (λ (p : ℕ × World).
    let more = round system (n - p.0) p.1 (suc x) rest in
    let t : Taken = record more { turns = reported_turns x p.0 ++ more.turns } in t) takes

-- the round goes on before the x-th leaf: what was listed, and the turns of the leaves from there on, are all of it
pub record GoesRound (system : System) (cs : List Component) (most x left : ℕ) (old now : World) (before after : List TurnLine) : Type 0 where
  pub few : left ≤ most
  pub done : List (ℕ × ℕ)
  pub turns : (round system most old 0 cs).turns ≡ done ++ (round system left now x (drop x cs)).turns
  pub left_is : (round system most old 0 cs).left ≡ (round system left now x (drop x cs)).left
  pub world_is : (round system most old 0 cs).world ≡ (round system left now x (drop x cs)).world
  pub listed : after ≡ before ++ as_lines done

pub round_first : (system : System) (cs : List Component) (most : ℕ) (w : World) (o : List TurnLine) → GoesRound system cs most 0 most w w o o
round_first system cs most w o =
    record { few = omega arith; done = []; turns = refl; left_is = refl; world_is = refl; listed = sym (append-nil o) }

module _ (system : System) (cs : List Component) (most x left k : ℕ) (old now new : World) (before between after : List TurnLine) (less : x < length cs)
    (takes : while_can left system now x ≡ (k, new)) (h : GoesRound system cs most x left old now before between) where
  at : (c : Component) × (drop x cs ≡ c ∷ drop (suc x) cs)
  at = drop_at cs x less

  abbrev more : Taken
  more = round system (left - k) new (suc x) (drop (suc x) cs)

  here : round system left now x (drop x cs) ≡ record more { turns = reported_turns x k ++ more.turns }
  here = round_at system left now new x k (drop x cs) (drop (suc x) cs) at.0 at.1 takes

  all_turns : (round system most old 0 cs).turns ≡ h.done ++ (reported_turns x k ++ more.turns)
  all_turns = h.turns ∙ ap (λ (t : Taken). h.done ++ t.turns) here

  pub round_on : after ≡ between ++ as_lines (reported_turns x k) → GoesRound system cs most (suc x) (left - k) old new before after
  round_on listed =
      let few = h.few in
      record {
        few = omega (arith, few);
        done = h.done ++ reported_turns x k;
        turns = all_turns ∙ sym (append_assoc h.done (reported_turns x k) more.turns);
        left_is = h.left_is ∙ ap (λ (t : Taken). t.left) here;
        world_is = h.world_is ∙ ap (λ (t : Taken). t.world) here;
        listed = listed_both h.done (reported_turns x k) before between after h.listed listed;
      }

-- a round that was gone through
pub record IsThrough (t : Taken) (left : ℕ) (now : World) (before after : List TurnLine) : Type 0 where
  pub left_is : left ≡ t.left
  pub world_is : now ≡ t.world
  pub listed : after ≡ before ++ as_lines t.turns

pub round_end : (system : System) (cs : List Component) (most x left : ℕ) (old now : World) (before after : List TurnLine) → x ≡ length cs
    → GoesRound system cs most x left old now before after → IsThrough (round system most old 0 cs) left now before after
round_end system cs most x left old now before after all h =
    let none = ap (round system left now x) (drop_all cs x all) in
    record {
      left_is = sym (h.left_is ∙ ap (λ (t : Taken). t.left) none);
      world_is = sym (h.world_is ∙ ap (λ (t : Taken). t.world) none);
      listed = subst (λ (l : List (ℕ × ℕ)). after ≡ before ++ as_lines l)
          (sym (h.turns ∙ (ap (λ (t : Taken). h.done ++ t.turns) none ∙ append-nil h.done))) h.listed;
    }

-- a round takes no turn, or some, and then fewer are left after it
abbrev pub Takes : Taken → ℕ → Type 0
Takes t n = ((t.turns ≡ []) × (t.left ≡ n)) ⊎ ((t.turns ≡ [] → ⊥) × (t.left < n))

no_more : {A : Type 0} (xs : List A) (a : A) (ys : List A) → xs ≡ a ∷ ys → xs ≡ [] → ⊥
no_more xs a ys e none = cons_nil (sym e ∙ none)
  where
    cons_nil : {A : Type 0} {a : A} {ys : List A} → a ∷ ys ≡ [] → ⊥
    cons_nil e = cc

pub round_takes : (system : System) (n : ℕ) (w : World) (x : ℕ) (cs : List Component) → Takes (round system n w x cs) n
round_takes system n w x [] = inl (refl, refl)
round_takes system n w x (c ∷ rest) =
    let p = while_can n system w x in by p.0 refl (round_takes system (n - p.0) p.1 (suc x) rest)
  where
    by : (k : ℕ) → (while_can n system w x).0 ≡ k
        → Takes (round system (n - (while_can n system w x).0) (while_can n system w x).1 (suc x) rest) (n - (while_can n system w x).0)
        → Takes (round system n w x (c ∷ rest)) n
    by zero e takes =
        let p = while_can n system w x in
        let more = round system (n - p.0) p.1 (suc x) rest in
        let same : reported_turns x p.0 ++ more.turns ≡ more.turns = ap (λ (k : ℕ). reported_turns x k ++ more.turns) e in
        elim takes [
          | inl none ↦ inl (same ∙ none.0, omega (arith, none.1, e))
          | inr some ↦ inr (λ none. some.0 (sym same ∙ none), omega (arith, some.1))
        ]
    by (suc k) e takes =
        let p = while_can n system w x in
        let more = round system (n - p.0) p.1 (suc x) rest in
        let few = while_few n system w x in
        let some : reported_turns x p.0 ++ more.turns ≡ (x, suc k) ∷ more.turns = ap (λ (m : ℕ). reported_turns x m ++ more.turns) e in
        let less : more.left ≤ n - p.0 = elim takes [
          | inl none ↦ omega (arith, none.1)
          | inr others ↦ omega (arith, others.1)
        ] in
        inr (no_more (reported_turns x p.0 ++ more.turns) (x, suc k) more.turns some, omega (arith, less, e, few))

-- ALL ROUNDS

-- further rounds are to come: what was listed, and their turns, are those of the whole
pub record GoesRounds (whole : Taken) (system : System) (left : ℕ) (now : World) (before after : List TurnLine) : Type 0 where
  pub fuel : ℕ
  pub enough : left < fuel
  pub done : List (ℕ × ℕ)
  pub turns : whole.turns ≡ done ++ (rounds fuel system left now).turns
  pub left_is : whole.left ≡ (rounds fuel system left now).left
  pub world_is : whole.world ≡ (rounds fuel system left now).world
  pub listed : after ≡ before ++ as_lines done

pub rounds_first : (whole : Taken) (system : System) (k most : ℕ) (w : World) (o : List TurnLine) → whole ≡ rounds k system most w → most < k
    → GoesRounds whole system most w o o
rounds_first whole system k most w o is enough =
    record {
      fuel = k;
      enough = enough;
      done = [];
      turns = ap (λ (t : Taken). t.turns) is;
      left_is = ap (λ (t : Taken). t.left) is;
      world_is = ap (λ (t : Taken). t.world) is;
      listed = sym (append-nil o);
    }

further_some : (t : Taken) (turns : List (ℕ × ℕ)) (go : ℕ → World → Taken) → (turns ≡ [] → ⊥)
    → and_further t turns go ≡ record (go t.left t.world) { turns = t.turns ++ (go t.left t.world).turns }
further_some t [] go some = absurd (some refl)
further_some t (x ∷ turns) go some = refl

further_none : (t : Taken) (turns : List (ℕ × ℕ)) (go : ℕ → World → Taken) → turns ≡ [] → and_further t turns go ≡ t
further_none t [] go none = refl
further_none t (x ∷ turns) go none = absurd cc

module _ (whole : Taken) (system : System) (left : ℕ) (now : World) (before between after : List TurnLine)
    (h : GoesRounds whole system left now before between) where
  abbrev pub next_round : Taken
  next_round = round system left now 0 system.components

  abbrev go : ℕ → ℕ → World → Taken
  go f l u = rounds f system l u

  -- one round more can be taken
  fuel_is : (fuel : ℕ) → left < fuel → (f : ℕ) × (fuel ≡ suc f)
  fuel_is zero enough = absurd (omega (arith, enough))
  fuel_is (suc f) enough = (f, refl)

  f : ℕ
  f = (fuel_is h.fuel h.enough).0

  is_next : rounds h.fuel system left now ≡ and_further next_round next_round.turns (go f)
  unfolding f
  is_next = ap (λ (n : ℕ). rounds n system left now) (fuel_is h.fuel h.enough).1

  turns_left : whole.turns ≡ h.done ++ (and_further next_round next_round.turns (go f)).turns
  turns_left = h.turns ∙ ap (λ (t : Taken). h.done ++ t.turns) is_next

  pub rounds_on : (rest : ℕ) (new : World) → IsThrough next_round rest new between after → (rest ≡ left → ⊥)
      → GoesRounds whole system rest new before after
  unfolding f
  rounds_on rest new t other =
      let took : (next_round.turns ≡ [] → ⊥) × (next_round.left < left) = elim (round_takes system left now 0 system.components) [
        | inl none ↦ absurd (other (t.left_is ∙ none.1))
        | inr some ↦ some
      ] in
      let next = further_some next_round next_round.turns (go f) took.0 in
      let less = took.1 in
      let at = t.left_is in
      let enough = h.enough in
      let fuel = (fuel_is h.fuel h.enough).1 in
      let there : go f next_round.left next_round.world ≡ go f rest new =
      ap (λ (n : ℕ). go f n next_round.world) (sym t.left_is) ∙ ap (go f rest) (sym t.world_is) in
      record {
        fuel = f;
        enough = omega (arith, less, enough, fuel, at);
        done = h.done ++ next_round.turns;
        turns = turns_left ∙ (ap (λ (u : Taken). h.done ++ u.turns) next
            ∙ (ap (λ (u : Taken). h.done ++ (next_round.turns ++ u.turns)) there ∙ sym (append_assoc h.done next_round.turns (go f rest new).turns)));
        left_is = h.left_is ∙ (ap (λ (u : Taken). u.left) (is_next ∙ next) ∙ ap (λ (u : Taken). u.left) there);
        world_is = h.world_is ∙ (ap (λ (u : Taken). u.world) (is_next ∙ next) ∙ ap (λ (u : Taken). u.world) there);
        listed = listed_both h.done next_round.turns before between after h.listed t.listed;
      }

  -- no turn was taken: all are reported
  pub rounds_end : (new : World) → IsThrough next_round left new between after
      → IsThrough whole left new before after
  rounds_end new t =
      let none : next_round.turns ≡ [] = elim (round_takes system left now 0 system.components) [
        | inl none ↦ none.0
        | inr some ↦ absurd (some_left some.1 t.left_is)
      ] in
      let last = further_none next_round next_round.turns (go f) none in
      record {
        left_is = t.left_is ∙ sym (h.left_is ∙ ap (λ (u : Taken). u.left) (is_next ∙ last));
        world_is = t.world_is ∙ sym (h.world_is ∙ ap (λ (u : Taken). u.world) (is_next ∙ last));
        listed = subst (λ (l : List (ℕ × ℕ)). after ≡ before ++ as_lines l)
            (sym (turns_left ∙ ap (λ (u : Taken). h.done ++ u.turns) last))
            (listed_both h.done next_round.turns before between after h.listed t.listed);
      }
    where
      some_left : next_round.left < left → left ≡ next_round.left → ⊥
      some_left less e = absurd (omega (arith, less, e))

-- WHETHER SOME LEAF CAN GO ON

-- whether some leaf can is whether some from the x-th on can: none of those before it
abbrev pub NoneBefore : System → List Component → ℕ → World → Type 0
NoneBefore system cs x w = some_can system w 0 cs ≡ some_can system w x (drop x cs)

module _ (system : System) (cs : List Component) (x : ℕ) (w : World) (less : x < length cs) (h : NoneBefore system cs x w) where
  can_from : some_can system w 0 cs ≡ can_run system w x || some_can system w (suc x) (drop (suc x) cs)
  can_from = h ∙ ap (some_can system w x) (drop_at cs x less).1

  pub one_can : can_run system w x ≡ true → some_can system w 0 cs ≡ true
  one_can can = can_from ∙ ap (λ (b : Bool). b || some_can system w (suc x) (drop (suc x) cs)) can

  pub none_on : can_run system w x ≡ false → NoneBefore system cs (suc x) w
  none_on can = can_from ∙ ap (λ (b : Bool). b || some_can system w (suc x) (drop (suc x) cs)) can

pub none_end : (system : System) (cs : List Component) (x : ℕ) (w : World) → x ≡ length cs → NoneBefore system cs x w → some_can system w 0 cs ≡ false
none_end system cs x w all h = h ∙ ap (some_can system w x) (drop_all cs x all)
