-- The services that statements open.
use Rattle.std.proofs.Common.{◌≡◌, ℕ, ◌+◌, ◌<◌, Bool, true, false, ◌||◌, ◌&&◌, cond, List, [], ◌∷◌, ◌++◌, length, get_or, take, drop, refl, ap, sym}
use Rattle.std.proofs.Common.{◌∙◌, append_assoc, append-nil}
use Rattle.std.proofs.lemmas.List.{take_more}
use Rattle.gq_model.specs.machine.Program.{text_eq}
use Rattle.gq_model.specs.machine.Lists.{any_of}
use Rattle.std.proofs.lemmas.Bool.{and_parts}
use Rattle.gq_model.specs.declared.program.Instruction.{Instruction}
use Rattle.gq_model.specs.declared.program.Instruction.TheVariants.{Say, Out, Operands, Make, MakePool, Load}
use Rattle.gq_model.specs.declared.program.Instruction.TheVariants.{Store, Free, Take, Give, Peek, Poke, Open, Upgrade, Call, Close}
use Rattle.gq_model.specs.machine.Program.{Statements, Done, Do}
use Rattle.gq_model.specs.machine.Program as program
use Rattle.gq_model.specs.rules.Use.{opened_by, services_of}
use Rattle.gq_program.specs.Notes.{asks_nothing, is_quiet}
use Rattle.gq_program.specs.Statement_trees.{tree_of}
use Rattle.gq_program.specs.declared.program_tree.Statement.{Statement}
use Rattle.gq_program.specs.declared.program_tree.Statement.TheVariants.{Plain, If, Loop}
use Rattle.gq_resolve.specs.Served.{without, once}
use Rattle.gq_program.proofs.Statement_list_sizes.{here_is}
use Rattle.gq_model.proofs.Small_facts.{text_is}

-- STATEMENTS

services_first : (st : Statement) (rest : List Statement) → services_of (tree_of (st ∷ rest)) ≡ services_of (tree_of (st ∷ [])) ++ services_of (tree_of rest)
services_first (Plain i) rest = simp append-nil
services_first (If arm other) rest = simp append-nil
services_first (Loop count body) rest = simp append-nil

-- the services of what is left are those of the statement that stands there and those of what follows
pub services_here : (items : List Statement) (i : ℕ) (st : Statement) → i < length items → st ≡ get_or items i st
    → services_of (tree_of (drop i items)) ≡ services_of (tree_of (st ∷ [])) ++ services_of (tree_of (drop (i + 1) items))
services_here items i st h e = ap (λ l. services_of (tree_of l)) (here_is items i st h e) ∙ services_first st (drop (i + 1) items)

-- those of a statement are put at the end
pub pushed : (old more first rest left : List (List ℕ)) → more ≡ old ++ first → left ≡ first ++ rest → more ++ rest ≡ old ++ left
pushed old more first rest left e h = rw (e, h) (append_assoc old first rest)

-- a statement without a service opens none
opens_none : (i : Instruction) → asks_nothing i ≡ true → opened_by i ≡ []
opens_none (Say text) e = refl
opens_none Out e = refl
opens_none (Operands o) e = refl
opens_none (Make form place n) e = refl
opens_none (MakePool place n m) e = refl
opens_none (Load width place) e = refl
opens_none (Store width place) e = refl
opens_none (Free place) e = refl
opens_none (Take place) e = refl
opens_none (Give place) e = refl
opens_none (Peek place) e = refl
opens_none (Poke place) e = refl
opens_none (Open place service n) e = cc
opens_none (Upgrade place n) e = refl
opens_none (Call place) e = refl
opens_none (Close place) e = refl

-- a list that asks for nothing opens no service
pub quiet_opens : (b : Statements) → is_quiet b ≡ true → services_of b ≡ []
quiet_opens Done e = refl
quiet_opens (Do i rest) e = let p = and_parts (asks_nothing i) (is_quiet rest) e in rw (opens_none i p.0, quiet_opens rest p.1) refl
quiet_opens (program.If arm other rest) e =
    let p = and_parts (is_quiet arm && is_quiet other) (is_quiet rest) e in
    let q = and_parts (is_quiet arm) (is_quiet other) p.0 in
    rw (quiet_opens arm q.0, quiet_opens other q.1, quiet_opens rest p.1) refl
quiet_opens (program.Loop count body rest) e =
    let p = and_parts (is_quiet body) (is_quiet rest) e in rw (quiet_opens body p.0, quiet_opens rest p.1) refl

-- and these services with none of a list are these
pub none_more : (services : List (List ℕ)) (b : Statements) → is_quiet b ≡ true → services ≡ services ++ services_of b
none_more services b e = rw (quiet_opens b e) (sym (append-nil services))

-- EACH ONCE

kept : (b : Bool) (s : List ℕ) (p q : List (List ℕ)) → cond b (p ++ q) (s ∷ (p ++ q)) ≡ cond b p (s ∷ p) ++ q
kept true s p q = refl
kept false s p q = refl

without_append : (x : List ℕ) (a b : List (List ℕ)) → without x (a ++ b) ≡ without x a ++ without x b
without_append x [] b = refl
without_append x (s ∷ a) b = rw (without_append x a b) (kept (text_eq s x) s (without x a) (without x b))

added : (x s : List ℕ) (here there : Bool) (l more : List (List ℕ)) → here ≡ text_eq s x → more ≡ cond there l (l ++ s ∷ [])
    → x ∷ without x more ≡ cond (here || there) (x ∷ without x l) (x ∷ without x l ++ s ∷ [])
added x s true true l more e h = rw h refl
added x s false true l more e h = rw h refl
added x s true false l more e h = rw (h, without_append, ← e) (simp append-nil)
added x s false false l more e h = rw (h, without_append, ← e) refl

-- one more service at the end
once_append : (l : List (List ℕ)) (s : List ℕ) → once (l ++ s ∷ []) ≡ cond (any_of (text_eq s) l) (once l) (once l ++ s ∷ [])
once_append [] s = refl
once_append (x ∷ l) s = added x s (text_eq s x) (any_of (text_eq s) l) (once l) (once (l ++ s ∷ [])) refl (once_append l s)

any_without : (test : List ℕ → Bool) (x : List ℕ) → test x ≡ false → (l : List (List ℕ)) → any_of test (without x l) ≡ any_of test l
any_without test x e [] = refl
any_without test x e (s ∷ l) = any_here test x e s l (text_eq s x) refl (any_without test x e l)
  where
    any_here : (test : List ℕ → Bool) (x : List ℕ) → test x ≡ false → (s : List ℕ) (l : List (List ℕ)) (b : Bool) → text_eq s x ≡ b
        → any_of test (without x l) ≡ any_of test l
        → any_of test (without x (s ∷ l)) ≡ (test s || any_of test l)
    any_here test x e s l true is h = rw (is, text_is s x is, e) h
    any_here test x e s l false is h = rw is (ap (λ b. test s || b) h)

either : (b x y : Bool) → (b ≡ false → x ≡ y) → (b || x) ≡ (b || y)
either true x y h = refl
either false x y h = h refl

-- what one of them is, one of all is
pub any_once : (test : List ℕ → Bool) (l : List (List ℕ)) → any_of test (once l) ≡ any_of test l
any_once test [] = refl
any_once test (x ∷ l) = either (test x) _ _ (λ e. any_without test x e (once l) ∙ any_once test l)

-- the service that stands there is put at the end, where it is not among those before it
pub once_more : (l : List (List ℕ)) (i : ℕ) (s : List ℕ) (old more : List (List ℕ)) → i < length l → s ≡ get_or l i s → old ≡ once (take i l)
    → more ≡ cond (any_of (text_eq s) old) old (old ++ s ∷ []) → more ≡ once (take (i + 1) l)
once_more l i s old more h is e pushed =
    pushed ∙ (rw (e, any_once) (sym (once_append (take i l) s)) ∙ ap once (sym (take_more l i s h ∙ ap (λ t. take i l ++ t ∷ []) (sym is))))
