-- Lines of a text, and its two parts.
use Rattle.std.proofs.Common.{◌≡◌, ◌≢◌, ◌∙◌, ◌<◌, ◌-◌, ℕ, ◌==◌, ◌&&◌, Bool, true, false, cond, refl, sym, ap, ap₂, List, [], ◌∷◌, ◌++◌, length, take}
use Rattle.std.proofs.Common.{length-append, append_assoc, append-nil, arith, codes, eqb-true, ne_eqb, Option, Some, None, Bor, option_map, unwrap_or}
use Rattle.std.proofs.Math.Seq.{take-append_seam}
use Rattle.gq_model.specs.machine.Program.{text_eq}
use Rattle.gq_model.specs.texts.Letters.{fed_lines, onto_first}
use Rattle.gq_command.specs.Stored_run.{IsFirstLine, is_border, fed, joined, parted_lines, parted}

-- BORDERS

never_both : (a b : Bool) → false ≡ (a && (b && false))
never_both true true = refl
never_both true false = refl
never_both false b = refl

pub border-short : (line : List ℕ) → length line < 2 → false ≡ is_border line
border-short [] h = refl
border-short (a ∷ []) h = go (a == 13) (a == 37)
  where
    at : (b : Bool) → false ≡ (b && false)
    at true = refl
    at false = refl

    go : (b d : Bool) → false ≡ text_eq (cond b [] (a ∷ [])) (codes "%%")
    go true d = refl
    go false d = at (a == 37)
border-short (a ∷ b ∷ rest) h = absurd (omega arith)

pub border-long : (line : List ℕ) → 3 < length line → false ≡ is_border line
border-long [] h = refl
border-long (a ∷ []) h = absurd (omega arith)
border-long (a ∷ b ∷ []) h = absurd (omega arith)
border-long (a ∷ b ∷ c ∷ []) h = absurd (omega arith)
border-long (a ∷ b ∷ c ∷ d ∷ rest) h = never_both (a == 37) (b == 37)

-- LINES

-- more bytes before the first of these lines
abbrev pub onto : List ℕ → List (List ℕ) → List (List ℕ)
onto prefix [] = prefix ∷ []
onto prefix (line ∷ rest) = (prefix ++ line) ∷ rest

onto-more : (prefix : List ℕ) (c : ℕ) (lines : List (List ℕ)) → onto prefix (onto_first c lines) ≡ onto (prefix ++ c ∷ []) lines
onto-more prefix c [] = refl
onto-more prefix c (line ∷ rest) = ap (λ (x : List ℕ). x ∷ rest) (sym (append_assoc prefix (c ∷ []) line))

onto-nothing : (c : ℕ) (lines : List (List ℕ)) → onto_first c lines ≡ onto [] (onto_first c lines)
onto-nothing c [] = refl
onto-nothing c (line ∷ rest) = refl

pub lines-at_start : (text : List ℕ) → fed_lines text ≡ onto [] (fed_lines text)
lines-at_start [] = refl
lines-at_start (c ∷ rest) = go (c == 10)
  where
    go : (b : Bool) → cond b ([] ∷ fed_lines rest) (onto_first c (fed_lines rest)) ≡ onto [] (cond b ([] ∷ fed_lines rest) (onto_first c (fed_lines rest)))
    go true = refl
    go false = onto-nothing c (fed_lines rest)

fed-onto_first : (c : ℕ) (lines : List (List ℕ)) (t : List ℕ) → fed (onto_first c lines) t ≡ 10 ∷ t
fed-onto_first c [] t = refl
fed-onto_first c (line ∷ rest) t = refl

-- a text has a line
pub fed-lines : (text t : List ℕ) → fed (fed_lines text) t ≡ 10 ∷ t
fed-lines [] t = refl
fed-lines (c ∷ rest) t = go (c == 10)
  where
    go : (b : Bool) → fed (cond b ([] ∷ fed_lines rest) (onto_first c (fed_lines rest))) t ≡ 10 ∷ t
    go true = refl
    go false = fed-onto_first c (fed_lines rest) t

joined-onto_first : (c : ℕ) (lines : List (List ℕ)) → joined (onto_first c lines) ≡ c ∷ joined lines
joined-onto_first c [] = refl
joined-onto_first c (line ∷ rest) = refl

-- the lines of a text, joined again, are the text
pub joined-lines : (text : List ℕ) → joined (fed_lines text) ≡ text
joined-lines [] = refl
joined-lines (c ∷ rest) = go (joined-lines rest) (c == 10) refl
  where
    go : joined (fed_lines rest) ≡ rest → (b : Bool) → (c == 10) ≡ b → joined (cond b ([] ∷ fed_lines rest) (onto_first c (fed_lines rest))) ≡ c ∷ rest
    go below true e = fed-lines rest (joined (fed_lines rest)) ∙ ap₂ (λ (x : ℕ) (y : List ℕ). x ∷ y) (sym (eqb-true _ _ e)) below
    go below false e = joined-onto_first c (fed_lines rest) ∙ ap (λ (y : List ℕ). c ∷ y) below

-- a byte that is no line feed goes to the line
pub lines-next : (prefix rest : List ℕ) (c : ℕ) → c ≢ 10 → onto prefix (fed_lines (c ∷ rest)) ≡ onto (prefix ++ c ∷ []) (fed_lines rest)
lines-next prefix rest c ne =
    ap (λ b. onto prefix (cond b ([] ∷ fed_lines rest) (onto_first c (fed_lines rest)))) (ne_eqb c 10 ne) ∙ onto-more prefix c (fed_lines rest)

-- PARTS

-- more of the scenario before its rest
abbrev pub behind : List ℕ → List ℕ × List ℕ → List ℕ × List ℕ
behind prefix p = (prefix ++ p.0, p.1)

-- how far a text has been parted: its prefix is scenario
pub record IsParted (input rest : List ℕ) : Type 0 where
  pub prefix : List ℕ
  pub text : input ≡ prefix ++ rest
  pub parts : parted input ≡ behind prefix (parted rest)

pub parted-start : (input : List ℕ) → IsParted input input
parted-start input = record { prefix = []; text = refl; parts = refl }

parted-next : (rest line more : List ℕ) → IsFirstLine rest line (Some more) → is_border line ≡ false → parted rest ≡ behind (line ++ 10 ∷ []) (parted more)
parted-next rest line more first plain =
    ap parted_lines first.1
    ∙ ap (λ b. cond b ([], joined (fed_lines more)) (line ++ fed (fed_lines more) (parted more).0, (parted more).1)) plain
    ∙ ap (λ (t : List ℕ). (line ++ t, (parted more).1)) (fed-lines more (parted more).0)
    ∙ ap (λ (t : List ℕ). (t, (parted more).1)) (sym (append_assoc line (10 ∷ []) (parted more).0))

pub parted-step : (input rest line more : List ℕ) → IsParted input rest → IsFirstLine rest line (Some more) → is_border line ≡ false → IsParted input more
parted-step input rest line more so_far first plain = record {
  prefix = so_far.prefix ++ (line ++ 10 ∷ []);
  text = so_far.text ∙ ap (λ t. so_far.prefix ++ t) (first.0 ∙ sym (append_assoc line (10 ∷ []) more)) ∙ sym
      (append_assoc so_far.prefix (line ++ 10 ∷ []) more);
  parts = so_far.parts ∙ ap (behind so_far.prefix) (parted-next rest line more first plain)
      ∙ ap (λ (t : List ℕ). (t, (parted more).1)) (sym (append_assoc so_far.prefix (line ++ 10 ∷ []) (parted more).0));
}

-- what follows a border, if anything does
abbrev pub text_after : Option (List ℕ) → List ℕ
text_after None = []
text_after (Some more) = more

parted-border : (rest line : List ℕ) (more : Option (List ℕ)) → IsFirstLine rest line more → is_border line ≡ true → parted rest ≡ ([], text_after more)
parted-border rest line None first bounded =
    ap parted_lines first.1 ∙ ap (λ b. cond b ([], []) (line ++ [], [])) bounded
parted-border rest line (Some more) first bounded =
    ap parted_lines first.1
    ∙ ap (λ b. cond b ([], joined (fed_lines more)) (line ++ fed (fed_lines more) (parted more).0, (parted more).1)) bounded
    ∙ ap (λ (t : List ℕ). ([], t)) (joined-lines more)

take_prefix : (input prefix rest : List ℕ) → input ≡ prefix ++ rest → take (length input - length rest) input ≡ prefix
take_prefix input prefix rest e =
    let n : length input - length rest ≡ length prefix = omega (arith, ap length e, length-append prefix rest) in
    ap₂ (λ (k : ℕ) (t : List ℕ). take k t) n e ∙ take-append_seam prefix rest

pub border-scenario : (input rest line : List ℕ) (more : Option (List ℕ)) → IsParted input rest → IsFirstLine rest line more → is_border line ≡ true
    → take (length input - length rest) input ≡ (parted input).0
border-scenario input rest line more so_far first bounded =
    take_prefix input so_far.prefix rest so_far.text
    ∙ sym (ap (λ p. p.0) so_far.parts ∙ ap (λ p. so_far.prefix ++ p.0) (parted-border rest line more first bounded) ∙ append-nil so_far.prefix)

pub border-turns : (input rest line : List ℕ) (more : Option (List ℕ)) → IsParted input rest → IsFirstLine rest line more → is_border line ≡ true
    → text_after more ≡ (parted input).1
border-turns input rest line more so_far first bounded =
    sym (ap (λ p. p.1) so_far.parts ∙ ap (λ p. p.1) (parted-border rest line more first bounded))

parted-last : (rest line : List ℕ) → IsFirstLine rest line None → is_border line ≡ false → parted rest ≡ (rest, [])
parted-last rest line first plain =
    ap parted_lines first.1 ∙ ap (λ b. cond b ([], []) (line ++ [], [])) plain
    ∙ ap (λ (t : List ℕ). (t, [])) (append-nil line ∙ sym first.0)

pub last-parted : (input rest line : List ℕ) → IsParted input rest → IsFirstLine rest line None → is_border line ≡ false → parted input ≡ (input, [])
last-parted input rest line so_far first plain =
    so_far.parts ∙ ap (behind so_far.prefix) (parted-last rest line first plain) ∙ ap (λ (t : List ℕ). (t, [])) (sym so_far.text)

pub fallback : (after : Option (Bor (List ℕ))) (empty result : Bor (List ℕ)) → empty.now ≡ [] → result ≡ unwrap_or after empty
    → result.now ≡ text_after (option_map (λ s. s.now) after)
fallback None empty result e is = ap (λ (s : Bor (List ℕ)). s.now) is ∙ e
fallback (Some s) empty result e is = ap (λ (s : Bor (List ℕ)). s.now) is
