-- What an accepted program gives and needs: no less, and no more, than its interfaces say.
use Rattle.std.proofs.Common.{◌≡◌, ℕ, zero, suc, ◌+◌, ◌-◌, ◌≤◌, Bool, true, false, List, [], ◌∷◌, ◌++◌, length, Option, Some, None, Ok, refl, ap, sym, ◌∙◌}
use Rattle.std.proofs.Common.{subst, arith}
use Rattle.std.specs.Prelude.{min, ◌==◌, ◌&&◌, slice_index_or, if◌then◌else◌}
use Rattle.std.proofs.lemmas.Bool.{and_parts, eqb-true}
use Rattle.gq_model.specs.machine.Amounts.{Ram, Amount, amount}
use Rattle.gq_model.specs.declared.program.Instruction.{Instruction}
use Rattle.gq_model.specs.declared.program.Instruction.TheVariants.{Say, Out, Operands, Make, MakePool, Load}
use Rattle.gq_model.specs.declared.program.Instruction.TheVariants.{Store, Free, Take, Give, Peek, Poke, Open, Upgrade, Call, Close}
use Rattle.gq_model.specs.machine.Program.{Statements, Done, Do, If, Loop, size, text_eq}
use Rattle.gq_model.specs.machine.Scenario.{Interface, Interfaces, System, interface_in}
use Rattle.gq_model.specs.rules.Kinds.{AbstractState, Context, inside, kind_at, need_of}
use Rattle.gq_model.specs.machine.Sections.{is_own_section, level_of}
use Rattle.gq_model.specs.rules.Rules.{judged, link_kind}
use Rattle.gq_model.specs.rules.Flow.{at, later, flow, state_or, body, points}
use Rattle.gq_model.proofs.Rules_laws.{then_ok, at_ok, later_ok, if_parts, loop_ok}
use Rattle.gq_model.proofs.Small_facts.{none_some, some_same, text_is}
use Rattle.gq_laws.specs.internal.Verified_holdings.{Covers}
use Rattle.gq_laws.proofs.verified_programs.Session_costs.{judged_covers, open_pays, upgrade_pays, need_next}
use Rattle.gq_sizes.specs.Size.{asked_above, both, gifts_above, least_gift, lesser, less_gifts, needed, ram_sum}
use Rattle.gq_sizes.specs.Size.{Gift, gift_on, gift_of, gifts, open_at, opens_from}
use Rattle.gq_sizes.proofs.Flow_under_larger_gifts.{chosen_there}
use Rattle.gq_sizes.proofs.Statement_point_predicates.{Each, both_each}

-- so is the end of a list
end_covered : (c : Context) (s u : AbstractState) (list : Statements) → is_own_section c.section ≡ false → flow c s list ≡ Ok u
    → Covers c.subject (level_of c.section) s.bank → Covers c.subject (level_of c.section) u.bank
end_covered c s u Done outside e h = subst (λ (x : AbstractState). Covers c.subject (level_of c.section) x.bank) (ap (state_or s) e) h
end_covered c s u (Do i rest) outside e h =
    let p = then_ok (at 1 (judged c s i)) (λ v. later 1 (flow c v rest)) u e in
    let here = at_ok 1 (judged c s i) p.0 p.1 in
    end_covered c p.0 u rest outside (later_ok 1 (flow c p.0 rest) u p.2) (judged_covers c s p.0 i outside here)
end_covered c s u (If arm other rest) outside e h =
    let p = if_parts c s arm other rest u e in
    let chosen = chosen_there s p.0 p.2 in
    let s0 : AbstractState = record s { bounds = [] } in
    let first : flow c s0 arm ≡ Ok p.1 = subst (λ x. flow c x arm ≡ Ok p.1) chosen.2 p.3 in
    end_covered c p.1 u rest outside p.5 (end_covered c s0 p.1 arm outside first h)
end_covered c s u (Loop n body rest) outside e h =
    let p = loop_ok c s n body rest u e in end_covered c s u rest outside p.2 h

-- each point outside `main` is covered
pub points_covered : (c : Context) (s u : AbstractState) (list : Statements) → is_own_section c.section ≡ false → flow c s list ≡ Ok u
    → Covers c.subject (level_of c.section) s.bank → Each (λ (s : AbstractState). Covers c.subject (level_of c.section) s.bank) (points c s list)
points_covered c s u Done outside e h = (h, tt)
points_covered c s u (Do i rest) outside e h =
    let p = then_ok (at 1 (judged c s i)) (λ v. later 1 (flow c v rest)) u e in
    let here = at_ok 1 (judged c s i) p.0 p.1 in
    let after : state_or s (at 1 (judged c s i)) ≡ p.0 = ap (state_or s) p.1 in
    let r = points_covered c p.0 u rest outside (later_ok 1 (flow c p.0 rest) u p.2) (judged_covers c s p.0 i outside here) in
    (h, subst (λ x. Each (λ (s : AbstractState). Covers c.subject (level_of c.section) s.bank) (points c x rest)) (sym after) r)
points_covered c s u (If arm other rest) outside e h =
    let p = if_parts c s arm other rest u e in
    let chosen = chosen_there s p.0 p.2 in
    let s0 : AbstractState = record s { bounds = [] } in
    let first : flow c s0 arm ≡ Ok p.1 = subst (λ x. flow c x arm ≡ Ok p.1) chosen.2 p.3 in
    let second : flow c s0 other ≡ Ok p.1 = subst (λ x. flow c x other ≡ Ok p.1) chosen.2 p.4 in
    let a = points_covered c s0 p.1 arm outside first h in
    let b = points_covered c s0 p.1 other outside second h in
    let after : state_or s0 (flow c s0 arm) ≡ p.1 = ap (state_or s0) first in
    let there = end_covered c s0 p.1 arm outside first h in
    let r = points_covered c p.1 u rest outside p.5 there in
    let P = λ (s : AbstractState). Covers c.subject (level_of c.section) s.bank in (
      h,
      both_each P (points c s0 arm ++ points c s0 other) _ (both_each P (points c s0 arm) (points c s0 other) a b)
          (subst (λ x. Each P (points c x rest)) (sym after) r),
    )
points_covered c s u (Loop n body rest) outside e h =
    let p = loop_ok c s n body rest u e in
    let P = λ (s : AbstractState). Covers c.subject (level_of c.section) s.bank in (
      h,
      both_each P (points (inside c n) s body) (points c s rest) (points_covered (inside c n) s s body outside p.1 h) (points_covered c s u rest outside p.2
          h),
    )

-- OPENINGS AND GIFTS

-- what is given by an `open`
abbrev pub Pays : Interfaces → ℕ × List ℕ × ℕ → Type 0
Pays is o = (i : Interface) → interface_in o.1 is ≡ Some i → i.need.ram ≤ o.2

-- what is given by an `upgrade`
abbrev pub PaysNext : Interfaces → Gift → Type 0
PaysNext is g = (l : ℕ) → g.1 ≡ suc l → (i : Interface) → interface_in g.0 is ≡ Some i → (slice_index_or i.upgrades l (amount 0 0)).ram ≤ g.2

open_given : (c : Context) (s t : AbstractState) (i : Instruction) (k : ℕ) → judged c s i ≡ Ok t → Each (Pays c.subject.interfaces) (open_at k i)
open_given c s t (Open place service n) k e = ((λ i known. open_pays c s t place service n i known e Ram), tt)
open_given c s t (Upgrade place n) k e = tt
open_given c s t (Say text) k e = tt
open_given c s t Out k e = tt
open_given c s t (Operands m) k e = tt
open_given c s t (Make form place m) k e = tt
open_given c s t (MakePool place m j) k e = tt
open_given c s t (Load width place) k e = tt
open_given c s t (Store width place) k e = tt
open_given c s t (Free place) k e = tt
open_given c s t (Take place) k e = tt
open_given c s t (Give place) k e = tt
open_given c s t (Peek place) k e = tt
open_given c s t (Poke place) k e = tt
open_given c s t (Call place) k e = tt
open_given c s t (Close place) k e = tt

gift_given : (c : Context) (s t : AbstractState) (i : Instruction) → judged c s i ≡ Ok t → Each (PaysNext c.subject.interfaces) (gift_of c s i)
gift_given c s t (Upgrade place n) e = by (link_kind (kind_at c s place)) refl
  where
    by : (o : Option (List ℕ × ℕ × Amount)) → link_kind (kind_at c s place) ≡ o → Each (PaysNext c.subject.interfaces) (gift_on n o)
    by None f = tt
    by (Some q) f = (
      (λ l same i known.
          let one : q.1 ≡ l = omega (arith, same) in
          subst (λ k. (slice_index_or i.upgrades k (amount 0 0)).ram ≤ n) one ((upgrade_pays c s t place n q.0 q.1 q.2 i f known e).1 Ram)),
      tt,
    )
gift_given c s t (Open place service n) e = tt
gift_given c s t (Say text) e = tt
gift_given c s t Out e = tt
gift_given c s t (Operands m) e = tt
gift_given c s t (Make form place m) e = tt
gift_given c s t (MakePool place m j) e = tt
gift_given c s t (Load width place) e = tt
gift_given c s t (Store width place) e = tt
gift_given c s t (Free place) e = tt
gift_given c s t (Take place) e = tt
gift_given c s t (Give place) e = tt
gift_given c s t (Peek place) e = tt
gift_given c s t (Poke place) e = tt
gift_given c s t (Call place) e = tt
gift_given c s t (Close place) e = tt

pub opens_given : (c : Context) (s u : AbstractState) (list : Statements) (k : ℕ) → flow c s list ≡ Ok u → Each (Pays c.subject.interfaces) (opens_from k list)
opens_given c s u Done k e = tt
opens_given c s u (Do i rest) k e =
    let p = then_ok (at 1 (judged c s i)) (λ v. later 1 (flow c v rest)) u e in
    let here = at_ok 1 (judged c s i) p.0 p.1 in
    both_each (Pays c.subject.interfaces) (open_at k i) (opens_from (suc k) rest) (open_given c s p.0 i k here)
    (opens_given c p.0 u rest (suc k) (later_ok 1 (flow c p.0 rest) u p.2))
opens_given c s u (If arm other rest) k e =
    let p = if_parts c s arm other rest u e in
    let P = Pays c.subject.interfaces in
    both_each P (opens_from (suc k) arm ++ opens_from (suc k + size arm) other) (opens_from (suc k + size arm + size other) rest)
    (both_each P (opens_from (suc k) arm) (opens_from (suc k + size arm) other) (opens_given c p.0 p.1 arm (suc k) p.3) (opens_given c p.0 p.1 other (suc k +
    size arm) p.4))
    (opens_given c p.1 u rest (suc k + size arm + size other) p.5)
opens_given c s u (Loop n body rest) k e =
    let p = loop_ok c s n body rest u e in
    both_each (Pays c.subject.interfaces) (opens_from (suc k) body) (opens_from (suc k + size body) rest) (opens_given (inside c n) s s body (suc k) p.1)
    (opens_given c s u rest (suc k + size body) p.2)

pub gifts_given : (c : Context) (s u : AbstractState) (list : Statements) → flow c s list ≡ Ok u → Each (PaysNext c.subject.interfaces) (gifts c s list)
gifts_given c s u Done e = tt
gifts_given c s u (Do i rest) e =
    let p = then_ok (at 1 (judged c s i)) (λ v. later 1 (flow c v rest)) u e in
    let here = at_ok 1 (judged c s i) p.0 p.1 in
    let after : state_or s (at 1 (judged c s i)) ≡ p.0 = ap (state_or s) p.1 in
    both_each (PaysNext c.subject.interfaces) (gift_of c s i) (gifts c (state_or s (at 1 (judged c s i))) rest) (gift_given c s p.0 i here)
    (subst (λ x. Each (PaysNext c.subject.interfaces) (gifts c x rest)) (sym after) (gifts_given c p.0 u rest (later_ok 1 (flow c p.0 rest) u p.2)))
gifts_given c s u (If arm other rest) e =
    let p = if_parts c s arm other rest u e in
    let P = PaysNext c.subject.interfaces in
    let chosen = chosen_there s p.0 p.2 in
    let s0 : AbstractState = record s { bounds = [] } in
    let first : flow c s0 arm ≡ Ok p.1 = subst (λ x. flow c x arm ≡ Ok p.1) chosen.2 p.3 in
    let second : flow c s0 other ≡ Ok p.1 = subst (λ x. flow c x other ≡ Ok p.1) chosen.2 p.4 in
    let after : state_or s0 (flow c s0 arm) ≡ p.1 = ap (state_or s0) first in
    both_each P (gifts c s0 arm ++ gifts c s0 other) _ (both_each P (gifts c s0 arm) (gifts c s0 other) (gifts_given c s0 p.1 arm first) (gifts_given c s0 p.1
    other second))
    (subst (λ x. Each P (gifts c x rest)) (sym after) (gifts_given c p.1 u rest p.5))
gifts_given c s u (Loop n body rest) e =
    let p = loop_ok c s n body rest u e in
    both_each (PaysNext c.subject.interfaces) (gifts (inside c n) s body) (gifts c s rest) (gifts_given (inside c n) s s body p.1) (gifts_given c s u rest p.2)

-- SUMS

-- the least gift is no less than what is asked for
least_pays : (is : Interfaces) (service : List ℕ) (i : Interface) (l m : ℕ) (gs : List Gift) → interface_in service is ≡ Some i → Each (PaysNext is) gs
    → least_gift service (suc l) gs ≡ Some m → (slice_index_or i.upgrades l (amount 0 0)).ram ≤ m
least_pays is service i l m [] known h e = absurd (none_some e)
least_pays is service i l m (g ∷ rest) known h e =
    by (text_eq service g.0 && g.1 == suc l) refl (least_gift service (suc l) rest) refl e (λ k f. least_pays is service i l k rest known h.1 f)
  where
    by : (b : Bool) → (text_eq service g.0 && g.1 == suc l) ≡ b → (o : Option ℕ) → least_gift service (suc l) rest ≡ o
        → (if◌then◌else◌ b (lesser g.2 o) o) ≡ Some m
        → ((k : ℕ) → least_gift service (suc l) rest ≡ Some k → (slice_index_or i.upgrades l (amount 0 0)).ram ≤ k)
        → (slice_index_or i.upgrades l (amount 0 0)).ram ≤ m
    by false is_it o at e2 further = further m (at ∙ e2)
    by true is_it None at e2 further = let p = pays is_it in omega (arith, p, some_same e2)
      where
        pays : (text_eq service g.0 && g.1 == suc l) ≡ true → (slice_index_or i.upgrades l (amount 0 0)).ram ≤ g.2
        pays t = let q = and_parts (text_eq service g.0) (g.1 == suc l) t in
            h.0 l (eqb-true g.1 (suc l) q.1) i ((λ k. interface_in (sym (text_is service g.0 q.0) k) is) ∙ known)
    by true is_it (Some k) at e2 further =
        let q = and_parts (text_eq service g.0) (g.1 == suc l) is_it in
        let p = h.0 l (eqb-true g.1 (suc l) q.1) i ((λ k. interface_in (sym (text_is service g.0 q.0) k) is) ∙ known) in
        let r = further k at in
        let s : min g.2 k ≡ m = some_same e2 in
        grind (arith, p, r, s)

module _ (is : Interfaces) (service : List ℕ) (i : Interface) (known : interface_in service is ≡ Some i) (gs : List Gift) (paid : Each (PaysNext is) gs) where
  above_small : (d l n : ℕ) → l + d ≤ length i.upgrades → gifts_above gs service d l ≡ Some n → (need_of i (l + d)).ram ≤ (need_of i l).ram + n
  above_small zero l n below e =
      let z : l + 0 ≡ l = omega arith in
      let s : 0 ≡ n = some_same e in omega (arith, ap (λ k. (need_of i k).ram) z, s)
  above_small (suc d) l n below e =
      by (least_gift service (suc l) gs) refl (gifts_above gs service d (suc l)) refl e (λ k f. above_small d (suc l) k (omega (arith, below)) f)
    where
      by : (o : Option ℕ) → least_gift service (suc l) gs ≡ o → (q : Option ℕ) → gifts_above gs service d (suc l) ≡ q → both o q ≡ Some n
          → ((k : ℕ) → gifts_above gs service d (suc l) ≡ Some k → (need_of i (suc l + d)).ram ≤ (need_of i (suc l)).ram + k)
          → (need_of i (l + suc d)).ram ≤ (need_of i l).ram + n
      by None at q there e2 further = absurd (none_some e2)
      by (Some m) at None there e2 further = absurd (none_some e2)
      by (Some m) at (Some k) there e2 further =
          let r = further k there in
          let p = least_pays is service i l m gs known paid at in
          let next = need_next i l Ram (omega (arith, below)) in
          let same : suc l + d ≡ l + suc d = omega arith in
          let sum : m + k ≡ n = some_same e2 in
          omega (arith, r, p, next, sum, ap (λ j. (need_of i j).ram) same)

  module _ (need : ℕ → ℕ) (small : (l : ℕ) → l ≤ length i.upgrades → need l ≤ (need_of i l).ram) where
    pub asked_small : (d l : ℕ) → l + d ≤ length i.upgrades → asked_above need gs service d l ≤ (need_of i l).ram
    asked_small zero l below = omega arith
    asked_small (suc d) l below =
        let r = asked_small d l (omega (arith, below)) in
        let f : less_gifts (need (l + suc d)) (gifts_above gs service (suc d) l) ≤ (need_of i l).ram = by (gifts_above gs service (suc d) l) refl in
        grind (arith, r, f)
      where
        by : (o : Option ℕ) → gifts_above gs service (suc d) l ≡ o → less_gifts (need (l + suc d)) o ≤ (need_of i l).ram
        by None e = omega arith
        by (Some n) e = let a = above_small (suc d) l n below e in let b = small (l + suc d) below in omega (arith, a, b)

pub need_rises : (i : Interface) (l : ℕ) → suc l ≤ length i.upgrades → (need_of i l).ram ≤ (need_of i (suc l)).ram
need_rises i l below = omega (arith, need_next i l Ram (omega (arith, below)))

-- no least sum is more than what an interface asks for, where none of its levels needs more and nothing less is given
pub sum_small : (all : System) (is : Interfaces) (service : List ℕ) (i : Interface) → interface_in service is ≡ Some i → (gs : List Gift)
    → Each (PaysNext is) gs
    → ((l : ℕ) → l ≤ length i.upgrades → needed (λ _ _. 0) Ram all service i l ≤ (need_of i l).ram)
    → (l : ℕ) → l ≤ length i.upgrades → ram_sum all gs service i l ≤ (need_of i l).ram
sum_small all is service i known gs paid small zero below =
    let n = small 0 below in
    let a = asked_small is service i known gs paid (λ l. needed (λ _ _. 0) Ram all service i l) small (length i.upgrades) 0 (omega arith) in grind (arith, n, a)
sum_small all is service i known gs paid small (suc l) below =
    let n = small (suc l) below in
    let e : suc l + (length i.upgrades - suc l) ≡ length i.upgrades = omega (arith, below) in
    let a = asked_small is service i known gs paid (λ l. needed (λ _ _. 0) Ram all service i l) small (length i.upgrades - suc l) (suc l) (omega (arith, e)) in
    let r = sum_small all is service i known gs paid small l (omega (arith, below)) in
    let up = need_rises i l below in
    let r2 : ram_sum all gs service i l ≤ (need_of i (suc l)).ram = omega (arith, r, up) in
    grind (arith, n, a, r2)
