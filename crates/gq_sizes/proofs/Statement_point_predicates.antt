-- What holds of each statement and each point of a section, by the lists of what is opened, what is given and what is known.
use Rattle.std.proofs.Common.{◌≡◌, ℕ, suc, ◌+◌, ◌≤◌, List, [], ◌∷◌, ◌++◌, Some, subst, arith}
use Rattle.gq_model.specs.machine.Amounts.{Amount}
use Rattle.gq_model.specs.declared.program.OperandSlot.TheVariants.{Own, Shared, Object}
use Rattle.gq_model.specs.declared.program.Instruction.{Instruction}
use Rattle.gq_model.specs.declared.program.Instruction.TheVariants.{Say, Out, Operands, Make, MakePool, Load}
use Rattle.gq_model.specs.declared.program.Instruction.TheVariants.{Store, Free, Take, Give, Peek, Poke, Open, Upgrade, Call, Close}
use Rattle.gq_model.specs.machine.Lists.{greatest}
use Rattle.gq_model.specs.machine.Program.{Statements, Done, Do, If, Loop, size}
use Rattle.gq_model.specs.rules.Kinds.{AbstractState, Context, inside, kind_at}
use Rattle.gq_model.specs.rules.Rules.{judged, link_kind}
use Rattle.gq_model.specs.rules.Flow.{at, flow, state_or, points}
use Rattle.gq_sizes.specs.Unsized_equality.{Along}
use Rattle.gq_sizes.specs.Size.{Gift, gift_on, gift_of, gifts, open_at, opens_from}

-- LISTS

abbrev pub Each : {A : Type 0} → (A → Type 0) → List A → Type 0
Each P [] = Unit {0}
Each P (a ∷ rest) = P a × Each P rest

pub each_both : {A : Type 0} (P : A → Type 0) (xs ys : List A) → Each P (xs ++ ys) → Each P xs × Each P ys
each_both P [] ys e = (tt, e)
each_both P (x ∷ xs) ys e = let r = each_both P xs ys e.1 in ((e.0, r.0), r.1)

pub both_each : {A : Type 0} (P : A → Type 0) (xs ys : List A) → Each P xs → Each P ys → Each P (xs ++ ys)
both_each P [] ys e f = f
both_each P (x ∷ xs) ys e f = (e.0, both_each P xs ys e.1 f)

pub each_so : {A : Type 0} (P Q : A → Type 0) (xs : List A) → ((a : A) → P a → Q a) → Each P xs → Each Q xs
each_so P Q [] so e = tt
each_so P Q (x ∷ xs) so e = (so x e.0, each_so P Q xs so e.1)

-- no element gives more than the greatest
pub each_greatest : {A : Type 0} (f : A → ℕ) (xs : List A) (n : ℕ) → greatest f xs ≤ n → Each (λ a. f a ≤ n) xs
each_greatest f [] n h = tt
each_greatest f (x ∷ xs) n h = (grind arith, each_greatest f xs n (grind arith))

-- nor the greatest more than what bounds each
pub greatest_each : {A : Type 0} (f : A → ℕ) (xs : List A) (n : ℕ) → Each (λ a. f a ≤ n) xs → greatest f xs ≤ n
greatest_each f [] n h = omega arith
greatest_each f (x ∷ xs) n h = let r = greatest_each f xs n h.1 in let e = h.0 in grind arith

-- STATEMENTS

-- an `open` has what is said of openings, an `upgrade` what is said of the gift that it is
abbrev pub Met : (List ℕ → ℕ → Type 0) → (Gift → Type 0) → Context → AbstractState → Instruction → Type 0
Met O G c s (Open place service n) = O service n
Met O G c s (Upgrade place n) = (l : List ℕ × ℕ × Amount) → link_kind (kind_at c s place) ≡ Some l → G (l.0, suc l.1, n)
Met O G c s _ = Unit {0}

module _ (O : List ℕ → ℕ → Type 0) (G : Gift → Type 0) (B : AbstractState → Type 0) where
  abbrev Opens : ℕ × List ℕ × ℕ → Type 0
  Opens o = O o.1 o.2

  met_inside : (c : Context) (n : ℕ) (s : AbstractState) (i : Instruction) → Met O G (inside c n) s i → Met O G c s i
  met_inside c n s (Open place service m) e = e
  met_inside c n s (Upgrade (Own i) m) e = e
  met_inside c n s (Upgrade (Shared i) m) e = e
  met_inside c n s (Upgrade Object m) e = e
  met_inside c n s (Say text) e = e
  met_inside c n s Out e = e
  met_inside c n s (Operands m) e = e
  met_inside c n s (Make form place m) e = e
  met_inside c n s (MakePool place m k) e = e
  met_inside c n s (Load width place) e = e
  met_inside c n s (Store width place) e = e
  met_inside c n s (Free place) e = e
  met_inside c n s (Take place) e = e
  met_inside c n s (Give place) e = e
  met_inside c n s (Peek place) e = e
  met_inside c n s (Poke place) e = e
  met_inside c n s (Call place) e = e
  met_inside c n s (Close place) e = e

  along_inside : (c d : Context) (s : AbstractState) (body : Statements) → ((s : AbstractState) (i : Instruction) → Met O G c s i → Met O G d s i)
      → (k : Context) → Along (Met O G c) B k s body → Along (Met O G d) B k s body
  along_inside c d s Done so k e = tt
  along_inside c d s (Do i rest) so k e = (so s i e.0, e.1, along_inside c d (state_or s (at 1 (judged k s i))) rest so k e.2)
  along_inside c d s (If arm other rest) so k e =
      let t : AbstractState = record s { bounds = [] } in
      (along_inside c d t arm so k e.0, along_inside c d t other so k e.1, along_inside c d (state_or t (flow k t arm)) rest so k e.2)
  along_inside c d s (Loop n body rest) so k e = (along_inside c d s body so (inside k n) e.0, along_inside c d s rest so k e.1)

  met_by : (c : Context) (s : AbstractState) (i : Instruction) (k : ℕ) → Each Opens (open_at k i) → Each G (gift_of c s i) → Met O G c s i
  met_by c s (Open place service n) k o g = o.0
  met_by c s (Upgrade place n) k o g = λ l e. (subst (λ x. Each G (gift_on n x)) e g).0
  met_by c s (Say text) k o g = tt
  met_by c s Out k o g = tt
  met_by c s (Operands m) k o g = tt
  met_by c s (Make form place m) k o g = tt
  met_by c s (MakePool place m j) k o g = tt
  met_by c s (Load width place) k o g = tt
  met_by c s (Store width place) k o g = tt
  met_by c s (Free place) k o g = tt
  met_by c s (Take place) k o g = tt
  met_by c s (Give place) k o g = tt
  met_by c s (Peek place) k o g = tt
  met_by c s (Poke place) k o g = tt
  met_by c s (Call place) k o g = tt
  met_by c s (Close place) k o g = tt

  first_point : (c : Context) (s : AbstractState) (body : Statements) → Each B (points c s body) → B s
  first_point c s Done e = e.0
  first_point c s (Do i rest) e = e.0
  first_point c s (If arm other rest) e = e.0
  first_point c s (Loop n body rest) e = e.0

  -- all of a list of statements is met, of which the first is the k-th
  pub along_by : (c : Context) (s : AbstractState) (body : Statements) (k : ℕ) → Each Opens (opens_from k body) → Each G (gifts c s body) → Each B
      (points c s body)
      → Along (Met O G c) B c s body
  along_by c s Done k o g p = tt
  along_by c s (Do i rest) k o g p =
      let os = each_both Opens (open_at k i) (opens_from (suc k) rest) o in
      let t = state_or s (at 1 (judged c s i)) in
      let gs = each_both G (gift_of c s i) (gifts c t rest) g in
      (met_by c s i k os.0 gs.0, first_point c t rest p.1, along_by c t rest (suc k) os.1 gs.1 p.1)
  along_by c s (If arm other rest) k o g p =
      let t : AbstractState = record s { bounds = [] } in
      let u = state_or t (flow c t arm) in
      let a = each_both Opens (opens_from (suc k) arm ++ opens_from (suc k + size arm) other) (opens_from (suc k + size arm + size other) rest) o in
      let b = each_both Opens (opens_from (suc k) arm) (opens_from (suc k + size arm) other) a.0 in
      let x = each_both G (gifts c t arm ++ gifts c t other) (gifts c u rest) g in
      let y = each_both G (gifts c t arm) (gifts c t other) x.0 in
      let q = each_both B (points c t arm ++ points c t other) (points c u rest) p.1 in
      let r = each_both B (points c t arm) (points c t other) q.0 in (
        along_by c t arm (suc k) b.0 y.0 r.0,
        along_by c t other (suc k + size arm) b.1 y.1 r.1,
        along_by c u rest (suc k + size arm + size other) a.1 x.1 q.1,
      )
  along_by c s (Loop n body rest) k o g p =
      let a = each_both Opens (opens_from (suc k) body) (opens_from (suc k + size body) rest) o in
      let x = each_both G (gifts (inside c n) s body) (gifts c s rest) g in
      let q = each_both B (points (inside c n) s body) (points c s rest) p.1 in (
        along_inside (inside c n) c s body (λ t i e. met_inside c n t i e) (inside c n) (along_by (inside c n) s body (suc k) a.0 x.0 q.0),
        along_by c s rest (suc k + size body) a.1 x.1 q.1,
      )

-- the first point is the state before the list
pub first_each : (B : AbstractState → Type 0) (c : Context) (s : AbstractState) (body : Statements) → Each B (points c s body) → B s
first_each B c s Done e = e.0
first_each B c s (Do i rest) e = e.0
first_each B c s (If arm other rest) e = e.0
first_each B c s (Loop n body rest) e = e.0
