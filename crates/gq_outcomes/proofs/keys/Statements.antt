-- Keys of statements and of what a leaf has left to do.
use Rattle.std.proofs.Common.{◌≡◌, ℕ, ◌<◌, List, [], ◌∷◌, ◌++◌, drop, refl, ap, sym, ◌∙◌, append_assoc, arith}
use Rattle.gq_model.specs.machine.Program.{Statements, Done, Do, If, Loop}
use Rattle.gq_model.specs.machine.World.{Round}
use Rattle.gq_outcomes.specs.internal.Keys.{instruction_key, left_key, loops_key, number_key, statements_key}
use Rattle.gq_outcomes.proofs.keys.Numbers.{head_is, number_free}
use Rattle.gq_outcomes.proofs.keys.Parts.{instruction_free}

-- what follows statements begins with 0 or 1
pub statements_free : (a b : Statements) (x y : ℕ) (r s : List ℕ) → x < 2 → y < 2 → statements_key a ++ x ∷ r ≡ statements_key b ++ y ∷ s
    → (a ≡ b) × (x ∷ r ≡ y ∷ s)
statements_free Done Done x y r s lx ly e = (refl, e)
statements_free (Do i rest) (Do j rest') x y r s lx ly e =
    let f = sym (append_assoc (instruction_key i) (statements_key rest) (x ∷ r)) ∙ ap (drop 1) e
    ∙ append_assoc (instruction_key j) (statements_key rest') (y ∷ s) in
    let p = instruction_free i j (statements_key rest ++ x ∷ r) (statements_key rest' ++ y ∷ s) f in
    let q = statements_free rest rest' x y r s lx ly p.1 in
    ((λ k. Do (p.0 k) (q.0 k)), q.1)
statements_free (If arm other rest) (If arm' other' rest') x y r s lx ly e =
    let into = λ (a b c : List ℕ) (z : ℕ) (t : List ℕ).
    append_assoc a (0 ∷ (b ++ 0 ∷ c)) (z ∷ t) ∙ ap (λ l. a ++ 0 ∷ l) (append_assoc b (0 ∷ c) (z ∷ t)) in
    let f = sym (into (statements_key arm) (statements_key other) (statements_key rest) x r) ∙ ap (drop 1) e
    ∙ into (statements_key arm') (statements_key other') (statements_key rest') y s in
    let p = statements_free arm arm' 0 0 (statements_key other ++ 0 ∷ (statements_key rest ++ x ∷ r))
    (statements_key other' ++ 0 ∷ (statements_key rest' ++ y ∷ s)) (omega arith) (omega arith) f in
    let q = statements_free other other' 0 0 (statements_key rest ++ x ∷ r) (statements_key rest' ++ y ∷ s) (omega arith) (omega arith) (ap (drop 1) p.1) in
    let t = statements_free rest rest' x y r s lx ly (ap (drop 1) q.1) in
    ((λ k. If (p.0 k) (q.0 k) (t.0 k)), t.1)
statements_free (Loop n body rest) (Loop n' body' rest') x y r s lx ly e =
    let into = λ (a b c : List ℕ) (z : ℕ) (t : List ℕ).
    append_assoc a (b ++ 0 ∷ c) (z ∷ t) ∙ ap (λ l. a ++ l) (append_assoc b (0 ∷ c) (z ∷ t)) in
    let f = sym (into (number_key n) (statements_key body) (statements_key rest) x r) ∙ ap (drop 1) e
    ∙ into (number_key n') (statements_key body') (statements_key rest') y s in
    let p = number_free n n' (statements_key body ++ 0 ∷ (statements_key rest ++ x ∷ r)) (statements_key body' ++ 0 ∷ (statements_key rest' ++ y ∷ s)) f in
    let q = statements_free body body' 0 0 (statements_key rest ++ x ∷ r) (statements_key rest' ++ y ∷ s) (omega arith) (omega arith) p.1 in
    let t = statements_free rest rest' x y r s lx ly (ap (drop 1) q.1) in
    ((λ k. Loop (p.0 k) (q.0 k) (t.0 k)), t.1)
statements_free Done (Do j rest') x y r s lx ly e = absurd (omega (arith, lx, head_is x 2 r ((instruction_key j ++ statements_key rest') ++ y ∷ s) e))
statements_free Done (If arm' other' rest') x y r s lx ly e = absurd (omega (arith, lx, head_is x 3 r _ e))
statements_free Done (Loop n' body' rest') x y r s lx ly e = absurd (omega (arith, lx, head_is x 4 r _ e))
statements_free (Do i rest) Done x y r s lx ly e = absurd (omega (arith, ly, head_is 2 y _ s e))
statements_free (If arm other rest) Done x y r s lx ly e = absurd (omega (arith, ly, head_is 3 y _ s e))
statements_free (Loop n body rest) Done x y r s lx ly e = absurd (omega (arith, ly, head_is 4 y _ s e))
statements_free _ _ x y r s lx ly e = absurd (cc e)

-- LOOPS

into_loop : (a b c d l r : List ℕ) → (1 ∷ (a ++ (b ++ (c ++ 0 ∷ []))) ++ (d ++ l)) ++ r ≡ 1 ∷ (a ++ (b ++ (c ++ 0 ∷ (d ++ (l ++ r)))))
into_loop a b c d l r =
    append_assoc (1 ∷ (a ++ (b ++ (c ++ 0 ∷ [])))) (d ++ l) r ∙ ap (λ t. 1 ∷ t) (append_assoc a (b ++ (c ++ 0 ∷ [])) ((d ++ l) ++ r)
    ∙ ap (λ t. a ++ t) (append_assoc b (c ++ 0 ∷ []) ((d ++ l) ++ r) ∙ ap (λ t. b ++ t) (append_assoc c (0 ∷ []) ((d ++ l) ++ r)
    ∙ ap (λ t. c ++ 0 ∷ t) (append_assoc d l r))))

abbrev round_of : ℕ → ℕ → Statements → Statements → Round
round_of round count body rest = record { round = round; count = count; body = body; rest = rest }

-- loops, behind the statements that are left in the innermost one
pub left_free : (a b : Statements) (ls ms : List Round) (r s : List ℕ) → left_key a ls ++ r ≡ left_key b ms ++ s → (a ≡ b) × (ls ≡ ms) × (r ≡ s)
left_free a b [] [] r s e =
    let f = sym (append_assoc (statements_key a) (0 ∷ []) r) ∙ e ∙ append_assoc (statements_key b) (0 ∷ []) s in
    let p = statements_free a b 0 0 r s (omega arith) (omega arith) f in
    (p.0, refl, ap (drop 1) p.1)
left_free a b (l ∷ ls) (m ∷ ms) r s e =
    let into = λ (c : Statements) (n : Round) (ns : List Round) (t : List ℕ).
    append_assoc (statements_key c) (loops_key (n ∷ ns)) t
    ∙ ap (λ u. statements_key c ++ u) (into_loop (number_key n.round) (number_key n.count) (statements_key n.body) (statements_key n.rest) (loops_key ns) t) in
    let f = sym (into a l ls r) ∙ e ∙ into b m ms s in
    let p = statements_free a b 1 1
    (number_key l.round ++ (number_key l.count ++ (statements_key l.body ++ 0 ∷ (statements_key l.rest ++ (loops_key ls ++ r)))))
    (number_key m.round ++ (number_key m.count ++ (statements_key m.body ++ 0 ∷ (statements_key m.rest ++ (loops_key ms ++ s)))))
    (omega arith) (omega arith) f in
    let q = number_free l.round m.round
    (number_key l.count ++ (statements_key l.body ++ 0 ∷ (statements_key l.rest ++ (loops_key ls ++ r))))
    (number_key m.count ++ (statements_key m.body ++ 0 ∷ (statements_key m.rest ++ (loops_key ms ++ s)))) (ap (drop 1) p.1) in
    let c = number_free l.count m.count
    (statements_key l.body ++ 0 ∷ (statements_key l.rest ++ (loops_key ls ++ r)))
    (statements_key m.body ++ 0 ∷ (statements_key m.rest ++ (loops_key ms ++ s))) q.1 in
    let d = statements_free l.body m.body 0 0 (statements_key l.rest ++ (loops_key ls ++ r)) (statements_key m.rest ++ (loops_key ms ++ s))
    (omega arith) (omega arith) c.1 in
    let again = append_assoc (statements_key l.rest) (loops_key ls) r ∙ ap (drop 1) d.1 ∙ sym (append_assoc (statements_key m.rest) (loops_key ms) s) in
    let t = left_free l.rest m.rest ls ms r s again in
    (p.0, (λ k. round_of (q.0 k) (c.0 k) (d.0 k) (t.0 k) ∷ t.1 k), t.2)
left_free a b [] (m ∷ ms) r s e =
    let into = append_assoc (statements_key b) (loops_key (m ∷ ms)) s
    ∙ ap (λ u. statements_key b ++ u) (into_loop (number_key m.round) (number_key m.count) (statements_key m.body) (statements_key m.rest) (loops_key ms) s) in
    let f = sym (append_assoc (statements_key a) (0 ∷ []) r) ∙ e ∙ into in
    let p = statements_free a b 0 1 r
    (number_key m.round ++ (number_key m.count ++ (statements_key m.body ++ 0 ∷ (statements_key m.rest ++ (loops_key ms ++ s)))))
    (omega arith) (omega arith) f in
    absurd (omega (arith, head_is 0 1 r _ p.1))
left_free a b (l ∷ ls) [] r s e =
    let into = append_assoc (statements_key a) (loops_key (l ∷ ls)) r
    ∙ ap (λ u. statements_key a ++ u) (into_loop (number_key l.round) (number_key l.count) (statements_key l.body) (statements_key l.rest) (loops_key ls) r) in
    let f = sym into ∙ e ∙ append_assoc (statements_key b) (0 ∷ []) s in
    let p = statements_free a b 1 0
    (number_key l.round ++ (number_key l.count ++ (statements_key l.body ++ 0 ∷ (statements_key l.rest ++ (loops_key ls ++ r))))) s
    (omega arith) (omega arith) f in
    absurd (omega (arith, head_is 1 0 _ s p.1))
