-- The lines of a list that were taken so far, and what is still given by the others.
use Rattle.std.proofs.Common.{◌≡◌, ◌∙◌, ℕ, zero, suc, ◌+◌, ◌-◌, ◌*◌, ◌<◌, ◌≤◌, Bool, List, [], ◌∷◌, ◌++◌, drop, get_or, length, take, Option}
use Rattle.std.proofs.Common.{append_assoc, append-nil}
use Rattle.std.proofs.Common.{refl, ap, sym, subst, arith, false}
use Rattle.gq_model.specs.declared.act.Act.TheVariants.{Turns, Sets, Submits}
use Rattle.gq_model.specs.declared.act.TurnLine.{TurnLine}
use Rattle.gq_model.specs.declared.act.TurnLine.TheVariants.{Gives, Rests}
use Rattle.gq_model.specs.machine.Rest.{Taken, and_further, as_acts, greatest_turns, reported_turns, round, rounds, to_rest, while_can}
use Rattle.gq_model.specs.machine.Run.{Acts, Ran, begun, run, run_on}
use Rattle.gq_model.specs.machine.Scenario.{Component, System, system}
use Rattle.gq_model.specs.machine.World as model
use Rattle.gq_model.specs.machine.World.{start}
use Rattle.gq_model.specs.texts.Turns.{acts_from, line_acts, turns_given}
use Rattle.gq_output.specs.declared.counted.Counted.{Counted}
use Rattle.gq_world.specs.World_between_turns.{World}
use Rattle.gq_traces.specs.First_turns.{first_of, first_turns, turns_in}
use Rattle.gq_traces.specs.Trace.{Traced, after_act, after_all, after_turns}
use Rattle.gq_traces.specs.declared.follow.Followed.{Followed}
use Rattle.gq_traces.specs.declared.peaks.LeafPeaks.{LeafPeaks}
use Rattle.gq_traces.specs.declared.trace.Tracing.{Tracing}
use Rattle.gq_traces.specs.internal.Follows.{Follows, IsAt, IsFollowed}
use Rattle.gq_traces.specs.internal.Line_acts.{acts_along, acts_at, after_line, after_lines, line_text, lines_text}
use Rattle.gq_traces.specs.internal.Lines_given.{AreFew, IsFew}
use Rattle.gq_traces.specs.internal.Peaking.{HasAll, Peaked}
use Rattle.gq_traces.specs.internal.Printed_steps.{CanTrace, PrintsTurns, budgets_of}
use Rattle.gq_traces.proofs.Lines_printed.{after_both, after_lines_more, given_at, lines_text_more, turns_both as turns_in_both}
use Rattle.gq_traces.proofs.Peaks_kept.{peaked_both, peaked_none}
use Rattle.gq_traces.proofs.Runs_on.{at_start, has_all, list_parts, min_first, min_second}
use Rattle.gq_traces.proofs.Scheduled_turn_runs.{acts_both, run_on_both, while_few}
use Rattle.gq_traces.proofs.Turns_going.{no_turns, turns_both}
use Rattle.gq_traces.proofs.Unprinted_turns.{follows_both, follows_like, follows_none}

-- HOW MANY TURNS

reported_count : (x n : ℕ) (more : List (ℕ × ℕ)) → turns_in (as_acts (reported_turns x n ++ more)) ≡ n + turns_in (as_acts more)
reported_count x zero more = omega arith
reported_count x (suc n) more = refl

-- the turns of a round, and those that are left, are all
round_count : (system : System) (n : ℕ) (w : model.World) (x : ℕ) (cs : List Component)
    → turns_in (as_acts (round system n w x cs).turns) + (round system n w x cs).left ≡ n
round_count system n w x [] = omega arith
round_count system n w x (c ∷ rest) =
    let p = while_can n system w x in
    let more = round_count system (n - p.0) p.1 (suc x) rest in
    let few = while_few n system w x in
    let here = reported_count x p.0 (round system (n - p.0) p.1 (suc x) rest).turns in
    omega (arith, more, few, here)

further_count : (t : Taken) (ts : List (ℕ × ℕ)) (n : ℕ) (go : ℕ → model.World → Taken) → turns_in (as_acts t.turns) + t.left ≡ n
    → ((left : ℕ) (u : model.World) → turns_in (as_acts (go left u).turns) + (go left u).left ≡ left)
    → turns_in (as_acts (and_further t ts go).turns) + (and_further t ts go).left ≡ n
further_count t [] n go first more = first
further_count t (p ∷ ts) n go first more =
    let rest = more t.left t.world in
    let sum = ap turns_in (acts_both t.turns (go t.left t.world).turns) ∙ turns_in_both (as_acts t.turns) (as_acts (go t.left t.world).turns) in
    omega (arith, first, rest, sum)

rounds_count : (system : System) (k n : ℕ) (w : model.World) → turns_in (as_acts (rounds k system n w).turns) + (rounds k system n w).left ≡ n
rounds_count system zero n w = omega arith
rounds_count system (suc k) n w =
    let t = round system n w 0 system.components in
    further_count t t.turns n (λ left u. rounds k system left u) (round_count system n w 0 system.components) (λ left u. rounds_count system k left u)

-- no more than a way to rest may have
rest_few : (system : System) (w : model.World) → turns_in (as_acts (to_rest system w).turns) ≤ greatest_turns
unfolding to_rest
rest_few system w = let count = rounds_count system (suc greatest_turns) greatest_turns w in omega (arith, count)

line_few : (system : System) (w : model.World) (line : TurnLine) → IsFew line → turns_in (acts_at system w line) ≤ 1000000
line_few system w (Gives x act) few = omega (arith, few)
line_few system w Rests few = rest_few system w

pub along_few : (system : System) (lines : List TurnLine) (t : Traced) → AreFew lines → turns_in (acts_along system lines t) ≤ length lines * 1000000
along_few system [] t few = omega arith
along_few system (line ∷ rest) t few =
    let here = line_few system t.world line few.0 in
    let more = along_few system rest (after_line system line t) few.1 in
    let sum = turns_in_both (acts_at system t.world line) (acts_along system rest (after_line system line t)) in
    omega (arith, here, more, sum)

-- THE FIRST TURNS

pub none_all : (system : System) (acts : Acts) (t : Traced) → after_all system (first_turns 0 acts) t ≡ t
none_all system [] t = refl
none_all system (p ∷ acts) t =
    let over : 0 - turns_given p.1 ≡ 0 = omega arith in
    (λ i. after_all system (first_turns (over i) acts) (none_of p.1 i)) ∙ none_all system acts t
  where
    none_of : (a : _) → after_act system p.0 (first_of 0 a) t ≡ t
    none_of (Turns m) = let none = min_first 0 m (omega arith) in ap (λ n. after_turns system p.0 n t) none
    none_of (Sets i v) = refl
    none_of (Submits i) = refl

first_both : (n : ℕ) (acts more : Acts) → first_turns n (acts ++ more) ≡ first_turns n acts ++ first_turns (n - turns_in acts) more
first_both n [] more = let all : n ≡ n - 0 = omega arith in ap (λ m. first_turns m more) all
first_both n (p ∷ acts) more =
    let less : n - turns_given p.1 - turns_in acts ≡ n - (turns_given p.1 + turns_in acts) = omega arith in
    ap (λ l. (p.0, first_of n p.1) ∷ l) (first_both (n - turns_given p.1) acts more ∙ ap (λ m. first_turns (n - turns_given p.1) acts ++ first_turns m more)
    less)

-- where more turns are left than a list has, they are all of it
pub first_whole : (n : ℕ) (acts : Acts) → turns_in acts < n → first_turns n acts ≡ acts
first_whole n [] less = refl
first_whole n (p ∷ acts) less =
    (λ i. (p.0, whole n p.1 (omega (arith, less)) i) ∷ first_whole (n - turns_given p.1) acts (omega (arith, less)) i)
  where
    whole : (n : ℕ) (a : _) → turns_given a < n → first_of n a ≡ a
    whole n (Turns m) few = ap Turns (min_second n m (omega (arith, few)))
    whole zero (Sets i v) few = absurd (omega (arith, few))
    whole (suc n) (Sets i v) few = refl
    whole zero (Submits i) few = absurd (omega (arith, few))
    whole (suc n) (Submits i) few = refl

-- LINES BY THEIR NUMBERS

whole_list : {A : Type 0} (xs : List A) → drop 0 xs ≡ xs
whole_list [] = refl
whole_list (x ∷ xs) = refl

pub drop_at : (turns : List TurnLine) (i : ℕ) (p : TurnLine) → i < length turns → p ≡ get_or turns i p → drop i turns ≡ p ∷ drop (i + 1) turns
drop_at turns i p less e = let one : suc i ≡ i + 1 = omega arith in by turns i less e ∙ ap (λ m. p ∷ drop m turns) one
  where
    by : (turns : List TurnLine) (i : ℕ) → i < length turns → p ≡ get_or turns i p → drop i turns ≡ p ∷ drop (suc i) turns
    by [] i less e = absurd (omega (arith, less))
    by (q ∷ turns) zero less e = (λ j. sym e j ∷ whole_list turns (j)) ∙ ap (λ l. p ∷ l) (sym (whole_list turns))
    by (q ∷ turns) (suc i) less e = by turns i (omega (arith, less)) e

drop_all : (turns : List TurnLine) (i : ℕ) → length turns ≤ i → drop i turns ≡ []
drop_all [] zero few = refl
drop_all [] (suc i) few = refl
drop_all (q ∷ turns) zero few = absurd (omega (arith, few))
drop_all (q ∷ turns) (suc i) few = drop_all turns i (omega (arith, few))

-- LINES THAT ARE FOLLOWED

-- the first lines were taken, and so many turns are left of the most
pub record LinesFollowed (turns : List TurnLine) (i left most : ℕ) (old new : World) (before after : Followed) : Type 0 where
  pub way : Traced → Traced
  pub same : 0 < left → (t : Traced) → IsAt before old t → way t ≡ after_lines (system old.scenario) (take i turns) t
  pub goes : (t : Traced) → IsAt before old t
      → after_all (system old.scenario) (first_turns left (acts_along (system old.scenario) (drop i turns) (after_lines (system old.scenario) (take i turns)
      t))) (way t)
      ≡ after_all (system old.scenario) (first_turns most (acts_along (system old.scenario) turns t)) t
  pub follows : Follows i way old new before after

pub no_lines_followed : (turns : List TurnLine) (most : ℕ) (w : World) (f : Followed) → IsFollowed f w → LinesFollowed turns 0 most most w w f f
no_lines_followed turns most w f is = record {
  way = λ t. t;
  same = λ some t at. refl;
  goes = λ t at. ap (λ l. after_all (system w.scenario) (first_turns most (acts_along (system w.scenario) l t)) t) (whole_list turns);
  follows = follows_none (λ t. t) w f (λ t. refl) is;
}

pub lines_followed_more : (turns : List TurnLine) (i left less most : ℕ) (u v w : World) (f g h : Followed) (line : TurnLine)
    → take i turns ++ line ∷ [] ≡ take (i + 1) turns → drop i turns ≡ line ∷ drop (i + 1) turns → LinesFollowed turns i left most u v f g
    → less ≡ left - turns_in (acts_at (system u.scenario) v.world line)
    → Follows 1 (λ t. after_all (system u.scenario) (first_turns left (acts_at (system u.scenario) t.world line)) t) v w g h
    → LinesFollowed turns (i + 1) less most u w f h
lines_followed_more turns i left less most u v w f g h line before behind r is goes = by left refl
  where
    s : System
    s = system u.scenario

    so_far : Traced → Traced
    so_far t = after_lines s (take i turns) t

    given : Traced → Acts
    given t = acts_at s (so_far t).world line

    way : Traced → Traced
    way t = let v = r.way t in after_all s (first_turns left (acts_at s v.world line)) v

    follows : Follows (i + 1) way u w f h
    follows = follows_both i 1 r.way (λ t. after_all s (first_turns left (acts_at s t.world line)) t) way u v w f g h (λ t. refl) r.follows goes

    after : (t : Traced) → after_line s line (so_far t) ≡ after_lines s (take (i + 1) turns) t
    after t = after_lines_more s (take i turns) line t ∙ ap (λ l. after_lines s l t) before

    -- what is still given, by the line and those behind it
    in_two : (t : Traced) → IsAt f u t
        → after_all s (first_turns (left - turns_in (given t)) (acts_along s (drop (i + 1) turns) (after_lines s (take (i + 1) turns) t)))
        (after_all s (first_turns left (given t)) (r.way t))
        ≡ after_all s (first_turns most (acts_along s turns t)) t
    in_two t at =
        let rest = acts_along s (drop (i + 1) turns) (after_lines s (take (i + 1) turns) t) in
        after_both s (first_turns left (given t)) (first_turns (left - turns_in (given t)) rest) (r.way t)
        ∙ (ap (λ l. after_all s l (r.way t)) (sym (first_both left (given t) rest))
        ∙ (ap (λ (v : Traced). after_all s (first_turns left (given t ++ acts_along s (drop (i + 1) turns) v)) (r.way t)) (sym (after t))
        ∙ (ap (λ l. after_all s (first_turns left (acts_along s l (so_far t))) (r.way t)) (sym behind) ∙ r.goes t at)))

    by : (n : ℕ) → left ≡ n → LinesFollowed turns (i + 1) less most u w f h
    by zero none = record {
      way = way;
      same = λ some. absurd (omega (arith, some, is, none));
      goes = λ t at.
          let no_less : less ≡ 0 = omega (arith, is, none) in
          let still : way t ≡ r.way t = ap (λ n. after_all s (first_turns n (acts_at s (r.way t).world line)) (r.way t)) none
          ∙ none_all s (acts_at s (r.way t).world line) (r.way t) in
          let rest = acts_along s (drop (i + 1) turns) (after_lines s (take (i + 1) turns) t) in
          let old = acts_along s (drop i turns) (so_far t) in
          ap (λ n. after_all s (first_turns n rest) (way t)) no_less ∙ (none_all s rest (way t) ∙ (still
          ∙ (sym (none_all s old (r.way t)) ∙ (ap (λ n. after_all s (first_turns n old) (r.way t)) (sym none) ∙ r.goes t at))));
      follows = follows;
    }
    by (suc n) some = record {
      way = way;
      same = λ more t at.
          let here = r.same (omega (arith, some)) t at in
          let world = (r.follows.at t at).world in
          let count = ap (λ (w : model.World). turns_in (acts_at s w line)) world in
          ap (λ l. after_all s l (r.way t)) (first_whole left (acts_at s (r.way t).world line) (omega (arith, more, is, count)))
          ∙ (ap (after_line s line) here ∙ after t);
      goes = λ t at.
          let here = r.same (omega (arith, some)) t at in
          let world = (r.follows.at t at).world in
          let acts : acts_at s (r.way t).world line ≡ given t = ap (λ (v : Traced). acts_at s v.world line) here in
          let count : less ≡ left - turns_in (given t) =
          is ∙ ap (λ (w : model.World). left - turns_in (acts_at s w line)) (sym world) ∙ ap (λ l. left - turns_in l) acts in
          let rest = acts_along s (drop (i + 1) turns) (after_lines s (take (i + 1) turns) t) in
          (λ j. after_all s (first_turns (count j) rest) (after_all s (first_turns left (acts j)) (r.way t))) ∙ in_two t at;
      follows = follows;
    }

-- all of them
pub lines_followed : (turns : List TurnLine) (i left most : ℕ) (u v : World) (f g : Followed) → i ≡ length turns → LinesFollowed turns i left most u v f g
    → Follows (length turns) (λ t. after_all (system u.scenario) (first_turns most (acts_along (system u.scenario) turns t)) t) u v f g
lines_followed turns i left most u v f g end r =
    let s = system u.scenario in
    follows_like i (length turns) r.way (λ t. after_all s (first_turns most (acts_along s turns t)) t) u v f g (omega (arith, end))
    (λ t at. ap (λ l. after_all s (first_turns left (acts_along s l (after_lines s (take i turns) t))) (r.way t)) (sym (drop_all turns i (omega (
      arith,
      end,
    )))) ∙ r.goes t at) r.follows

-- LINES THAT ARE REPORTED

pub record LinesPrinted {W : Type 0} (contents : W → Option (List ℕ)) (all : Bool) (turns : List TurnLine) (i taken : ℕ) (old new : World)
    (before after : Tracing) (a b : Counted W) (was now : Bool) : Type 0 where
  pub few : taken ≤ i * 1000000
  pub reported : PrintsTurns i contents (lines_text all old.scenario (budgets_of old.scenario) (take i turns)) (after_lines (system old.scenario) (take i
      turns)) 0 taken old new before after a b was now

module _ {W : Type 0} (contents : W → Option (List ℕ)) (all : Bool) (turns : List TurnLine) where
  pub no_lines_printed : (w : World) (t : Tracing) (out : Counted W) (was : Bool) → CanTrace w t → LinesPrinted contents all turns 0 0 w w t t out out was was
  no_lines_printed w t out was can = record {
    few = omega arith;
    reported = no_turns contents (lines_text all w.scenario (budgets_of w.scenario) []) (after_lines (system w.scenario) []) 0 w t out was can (λ u. refl)
        (λ u. refl);
  }

  pub lines_printed_more : (i taken k next : ℕ) (u v w : World) (p q r : Tracing) (a b c : Counted W) (was now last : Bool) (line : TurnLine)
      → take i turns ++ line ∷ [] ≡ take (i + 1) turns → LinesPrinted contents all turns i taken u v p q a b was now → k ≤ 1000000 → next ≡ taken + k
      → PrintsTurns 1 contents (line_text all u.scenario (budgets_of u.scenario) line) (after_line (system u.scenario) line) taken k v w q r b c now last
      → LinesPrinted contents all turns (i + 1) next u w p r a c was last
  lines_printed_more i taken k next u v w p q r a b c was now last line is h few sum g =
      let s = u.scenario in
      let budgets = budgets_of s in
      let within = h.few in
      record {
        few = omega (arith, few, within, sum);
        reported = turns_both contents i 1 (lines_text all s budgets (take i turns)) (line_text all s budgets line)
            (lines_text all s budgets (take (i + 1) turns)) (after_lines (system s) (take i turns)) (after_line (system s) line)
            (after_lines (system s) (take (i + 1) turns)) 0 taken k next taken u v w p q r a b c was now last (omega arith) sum
            (λ t. lines_text_more all s budgets (take i turns) line t ∙ ap (λ l. lines_text all s budgets l t) is)
            (λ t. after_lines_more (system s) (take i turns) line t ∙ ap (λ l. after_lines (system s) l t) is) h.reported g;
      }

-- PEAKS OVER LINES

pub record LinesPeaked (turns : List TurnLine) (i taken : ℕ) (old new : World) (olds news : List LeafPeaks) : Type 0 where
  pub few : taken ≤ i * 1000000
  pub count : taken ≡ turns_in (acts_from (system old.scenario) (begun (system old.scenario)) (take i turns))
  pub peaked : Peaked i (λ runs now. HasAll (system old.scenario) (acts_from (system old.scenario) (begun (system old.scenario)) (take i turns)) runs 0 now)
      (run_on (system old.scenario) (acts_from (system old.scenario) (begun (system old.scenario)) (take i turns))) 0 taken old new olds news

from_more : (system : System) (lines : List TurnLine) (line : TurnLine) (ran : Ran)
    → acts_from system ran lines ++ line_acts system (run_on system (acts_from system ran lines) ran) line ≡ acts_from system ran (lines ++ line ∷ [])
from_more system [] line ran = sym (append-nil (line_acts system ran line))
from_more system (l ∷ lines) line ran =
    let here = line_acts system ran l in
    let then_ran = run_on system here ran in
    let more = acts_from system then_ran lines in
    append_assoc here more (line_acts system (run_on system (here ++ more) ran) line)
    ∙ (ap (λ (r : Ran). here ++ (more ++ line_acts system r line)) (run_on_both system here more ran)
    ∙ ap (λ acts. here ++ acts) (from_more system lines line then_ran))

module _ (turns : List TurnLine) where
  pub no_lines_peaked : (w : World) (peaks : List LeafPeaks) → w.stopped ≡ false → LinesPeaked turns 0 0 w w peaks peaks
  no_lines_peaked w peaks running = record {
    few = omega arith;
    count = refl;
    peaked = peaked_none (λ runs now. HasAll (system w.scenario) [] runs 0 now) (run_on (system w.scenario) []) 0 w peaks running (λ now. refl);
  }

  pub lines_peaked_more : (i taken k next : ℕ) (u v w : World) (ps qs rs : List LeafPeaks) (line : TurnLine)
      → take i turns ++ line ∷ [] ≡ take (i + 1) turns → u.world ≡ start (system u.scenario) → LinesPeaked turns i taken u v ps qs
      → k ≤ 1000000 → next ≡ taken + k → k ≡ turns_in (acts_at (system u.scenario) v.world line)
      → Peaked 1 (λ runs now. HasAll (system u.scenario) (acts_at (system u.scenario) v.world line) runs taken now)
      (run_on (system u.scenario) (acts_at (system u.scenario) v.world line)) taken (taken + k) v w qs rs
      → LinesPeaked turns (i + 1) next u w ps rs
  lines_peaked_more i taken k next u v w ps qs rs line is first h few sum turns_are g =
      let s = system u.scenario in
      let so_far = acts_from s (begun s) (take i turns) in
      let ran = run s so_far in
      let come = h.peaked.comes (λ n. run s (first_turns n so_far)) (begun s) (has_all s so_far) (at_start s so_far u.world first) in
      let here : line_acts s ran line ≡ acts_at s v.world line = given_at s ran line ∙ ap (λ (z : model.World). acts_at s z line) come.at.world in
      let acts = acts_at s v.world line in
      let both : so_far ++ acts ≡ acts_from s (begun s) (take (i + 1) turns) =
      ap (λ l. so_far ++ l) (sym here) ∙ (from_more s (take i turns) line (begun s) ∙ ap (acts_from s (begun s)) is) in
      let within = h.few in
      let count = h.count in
      let total = turns_in_both so_far acts in
      let at : taken ≡ 0 + turns_in so_far = omega (arith, count) in
      let end : taken + k ≡ next = sym sum in
      record {
        few = omega (arith, few, within, sum);
        count = (let all : next ≡ turns_in (so_far ++ acts) = omega (arith, sum, count, total, turns_are) in all) ∙ ap turns_in both;
        peaked = subst (λ (l : Acts). Peaked (i + 1) (λ runs now. HasAll s l runs 0 now) (run_on s l) 0 next u w ps rs) both
            (subst (λ n. Peaked (i + 1) (λ runs now. HasAll s (so_far ++ acts) runs 0 now) (run_on s (so_far ++ acts)) 0 n u w ps rs) end
            (peaked_both i 1 (λ runs now. HasAll s so_far runs 0 now) (λ runs now. HasAll s acts runs taken now)
            (λ runs now. HasAll s (so_far ++ acts) runs 0 now) (run_on s so_far) (run_on s acts) (run_on s (so_far ++ acts)) 0 taken (taken + k) u v w ps qs rs
            (λ runs now has. (let parts = list_parts s runs so_far acts 0 taken now at has in (parts.0, λ there. parts.1)))
            (λ now there. sym (run_on_both s so_far acts now)) h.peaked g));
      }
