-- What statements give is what visitors are shown.
use Rattle.std.proofs.Common.{◌≡◌, ℕ, ◌+◌, List, [], ◌∷◌, ◌++◌, refl, ap, sym, ◌∙◌, append_assoc}
use Rattle.gq_model.specs.declared.program.Instruction.{Instruction}
use Rattle.gq_model.specs.declared.program.Instruction.TheVariants.{Say, Out, Operands, Make, MakePool, Load}
use Rattle.gq_model.specs.declared.program.Instruction.TheVariants.{Store, Free, Take, Give, Peek, Poke, Open, Upgrade, Call, Close}
use Rattle.gq_model.specs.declared.program.OperandSlot.TheVariants.{Own, Shared, Object}
use Rattle.gq_model.specs.machine.Program.{Statements, Done, Do, If, Loop, size}
use Rattle.gq_model.specs.rules.Flow.{at, flow, state_or}
use Rattle.gq_model.specs.rules.Kinds.{AbstractState, Context, inside}
use Rattle.gq_model.specs.rules.Rules.{judged}
use Rattle.gq_verify.specs.Visits.{Sight, At_statement, At_point, sights, slots_of}
use Rattle.gq_sizes.specs.Size.{Gift, gift_of, gifts}

-- what the statements give that are shown
abbrev pub gifts_shown : List Sight → List Gift
gifts_shown [] = []
gifts_shown (At_statement c s i ∷ rest) = gift_of c s i ++ gifts_shown rest
gifts_shown (At_point k s ∷ rest) = gifts_shown rest

shown-append : (a b : List Sight) → gifts_shown (a ++ b) ≡ gifts_shown a ++ gifts_shown b
shown-append [] b = refl
shown-append (At_statement c s i ∷ rest) b =
    ap (λ l. gift_of c s i ++ l) (shown-append rest b) ∙ sym (append_assoc (gift_of c s i) (gifts_shown rest) (gifts_shown b))
shown-append (At_point k s ∷ rest) b = shown-append rest b

-- it depends on slots alone
gift_same : (c : Context) (s : AbstractState) (i : Instruction) → gift_of c (slots_of s) i ≡ gift_of c s i
gift_same c s (Upgrade (Own k) n) = refl
gift_same c s (Upgrade (Shared k) n) = refl
gift_same c s (Upgrade Object n) = refl
gift_same c s (Open place service n) = refl
gift_same c s (Call place) = refl
gift_same c s (Close place) = refl
gift_same c s (Say text) = refl
gift_same c s Out = refl
gift_same c s (Operands m) = refl
gift_same c s (Make form place n) = refl
gift_same c s (MakePool place n m) = refl
gift_same c s (Load width place) = refl
gift_same c s (Store width place) = refl
gift_same c s (Free place) = refl
gift_same c s (Take place) = refl
gift_same c s (Give place) = refl
gift_same c s (Peek place) = refl
gift_same c s (Poke place) = refl

pub gifts_same : (c : Context) (k : ℕ) (s : AbstractState) (b : Statements) → gifts_shown (sights c k s b) ≡ gifts c s b
gifts_same c k s Done = refl
gifts_same c k s (Do i rest) =
    let t = state_or s (at 1 (judged c s i)) in
    ap (λ l. l ++ gifts_shown (sights c (k + 1) t rest)) (gift_same c s i) ∙ ap (λ l. gift_of c s i ++ l) (gifts_same c (k + 1) t rest)
gifts_same c k s (If arm other rest) =
    let t = slots_of s in
    let w = state_or t (flow c t arm) in
    let m = k + 1 + size arm + size other in
    let first = sights c (k + 1) t arm in
    let second = sights c (k + 1 + size arm) t other in
    let last = sights c m w rest in
    shown-append (first ++ second) (At_point (k + 1) (slots_of w) ∷ last)
    ∙ (ap (λ l. l ++ gifts_shown last) (shown-append first second)
    ∙ (ap (λ l. l ++ gifts_shown second ++ gifts_shown last) (gifts_same c (k + 1) t arm)
    ∙ (ap (λ l. gifts c t arm ++ l ++ gifts_shown last) (gifts_same c (k + 1 + size arm) t other)
    ∙ ap (λ l. gifts c t arm ++ gifts c t other ++ l) (gifts_same c m w rest))))
gifts_same c k s (Loop n body rest) =
    let first = sights (inside c n) (k + 1) s body in
    let last = sights c (k + 1 + size body) s rest in
    shown-append first (At_point (k + 1) (slots_of s) ∷ last)
    ∙ (ap (λ l. l ++ gifts_shown last) (gifts_same (inside c n) (k + 1) s body)
    ∙ ap (λ l. gifts (inside c n) s body ++ l) (gifts_same c (k + 1 + size body) s rest))
