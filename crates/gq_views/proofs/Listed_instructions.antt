-- The line of an instruction is read back as the instruction.
use Rattle.std.proofs.Common.{◌≡◌, ◌∙◌, ℕ, suc, ◌<◌, Bool, true, false, List, [], ◌∷◌, ◌++◌, length, Option, Some, Ok, Err}
use Rattle.std.proofs.Common.{refl, ap, sym, arith, append-nil}
use Rattle.std.specs.Prelude.{◌&&◌, not, nat_lt, if◌then◌else◌, codes}
use Rattle.std.proofs.lemmas.Bool.{and_parts, lt-ltb, ltb-true}
use Rattle.gq_model.specs.declared.fault.TextFault.TheVariants as fault
use Rattle.gq_model.specs.declared.program.Instruction.{Instruction}
use Rattle.gq_model.specs.machine.Lists.{all_of}
use Rattle.gq_model.specs.machine.Program.{text_eq}
use Rattle.gq_model.specs.texts.Letters.{past_word, unindented, words}
use Rattle.gq_model.specs.texts.Operands.{Operand, opcode}
use Rattle.gq_model.specs.texts.Code.{greatest_statements}
use Rattle.gq_model.specs.texts.Spelling.{Shape, found, instruction_in, shape_of_word, spellings, word_of_opcode}
use Rattle.gq_model.specs.texts.Text
use Rattle.gq_model.specs.texts.Text.{OpenBlock, Reading, Read, counted, ended, in_place, is_comment, line_read, nested, other_arm, put, statement}
use Rattle.gq_model.proofs.Instruction_laws.{each_spelled}
use Rattle.gq_views.specs.Listing.{indent, operand_text, operands_text}
use Rattle.gq_views.proofs.Table_words.{word_passes}
use Rattle.gq_views.proofs.Listed_lines.{after_alone, after_word, is_solid, word_alone, word_first, words_indent}
use Rattle.gq_views.proofs.Listed_operands.{IsWord}

-- WORDS OF STATEMENTS

abbrev pub keyword : Instruction → List ℕ
keyword x = word_of_opcode (opcode x) spellings

-- a word that begins no block and ends none
abbrev pub is_plain : List ℕ → Bool
is_plain w =
    not (text_eq w (codes "end")) && (not (text_eq w (codes "else")) && (not (text_eq w (codes "if")) && (not (text_eq w (codes "loop"))
    && (not (is_comment w) && (nat_lt 0 (length w) && all_of is_solid w)))))

pub plain : (x : Instruction) → is_plain (keyword x) ≡ true
plain x = word_passes is_plain spellings (opcode x) (each_spelled x).0 (each_spelled x).1 refl

pub record IsPlain (w : List ℕ) : Type 0 where
  pub no_end : text_eq w (codes "end") ≡ false
  pub no_else : text_eq w (codes "else") ≡ false
  pub no_if : text_eq w (codes "if") ≡ false
  pub no_loop : text_eq w (codes "loop") ≡ false
  pub no_comment : is_comment w ≡ false
  pub word : IsWord w

was_false : (b : Bool) → not b ≡ true → b ≡ false
was_false true h = cc h
was_false false h = refl

solid_word : (w : List ℕ) → 0 < length w → all_of is_solid w ≡ true → IsWord w
solid_word [] some h = absurd (omega (arith, some))
solid_word (c ∷ w) some h = record { first = c; rest = w; is = refl; solid = h }

pub plain_from : (w : List ℕ) → is_plain w ≡ true → IsPlain w
plain_from w h =
    let a = and_parts _ _ h in
    let b = and_parts _ _ a.1 in
    let c = and_parts _ _ b.1 in
    let d = and_parts _ _ c.1 in
    let e = and_parts _ _ d.1 in
    let f = and_parts _ _ e.1 in
    record {
      no_end = was_false _ a.0;
      no_else = was_false _ b.0;
      no_if = was_false _ c.0;
      no_loop = was_false _ d.0;
      no_comment = was_false _ e.0;
      word = solid_word w (ltb-true 0 (length w) f.0) f.1;
    }

-- LINES

pub words_line : (d : ℕ) (w : List ℕ) (os : List Operand) → IsWord w → words (indent d ++ (w ++ operands_text os)) ≡ w ∷ words (operands_text os)
words_line d w [] h =
    words_indent d (w ++ []) ∙ ap words (append-nil w) ∙ ap words h.is ∙ word_alone h.first h.rest h.solid ∙ ap (λ (t : List ℕ). t ∷ []) (sym h.is)
words_line d w (o ∷ rest) h =
    let x = operand_text o ++ operands_text rest in
    words_indent d (w ++ operands_text (o ∷ rest)) ∙ ap (λ (t : List ℕ). words (t ++ 32 ∷ x)) h.is ∙ word_first h.first h.rest x h.solid
    ∙ ap (λ (t : List ℕ). t ∷ words x) (sym h.is)

pub after_line : (d : ℕ) (w : List ℕ) (os : List Operand) → IsWord w → past_word (unindented (indent d ++ (w ++ operands_text os))) ≡ operands_text os
after_line d w [] h =
    ap (λ (t : List ℕ). past_word (unindented (indent d ++ t))) (append-nil w ∙ h.is) ∙ after_alone d h.first h.rest h.solid
after_line d w (o ∷ rest) h =
    let x = operand_text o ++ operands_text rest in
    ap (λ (t : List ℕ). past_word (unindented (indent d ++ (t ++ 32 ∷ x)))) h.is ∙ after_word d h.first h.rest x h.solid

-- a line that begins with a plain word, in a section
pub plain_line : (r : Reading) (k d : ℕ) (w : List ℕ) (os : List Operand) (b : OpenBlock) (bs : List OpenBlock) → r.blocks ≡ b ∷ bs → IsPlain w
    → line_read r k (indent d ++ (w ++ operands_text os)) (words (indent d ++ (w ++ operands_text os)))
    ≡ statement r k w (words (operands_text os)) (operands_text os)
plain_line r k d w os b bs e h =
    let line = indent d ++ (w ++ operands_text os) in
    let rest = words (operands_text os) in
    ap (line_read r k line) (words_line d w os h.word)
    ∙ ap (λ (c : Bool). if c then Ok r else in_place r r.blocks k w rest (past_word (unindented line))) h.no_comment
    ∙ ap (λ (bs : List OpenBlock). in_place r bs k w rest (past_word (unindented line))) e ∙ ap (statement r k w rest) (after_line d w os h.word)

abbrev pub one_more : Reading → Reading
one_more r = record r { count = suc r.count }

-- a statement that is spelled by a plain word
pub plain_statement : (r : Reading) (k : ℕ) (w : List ℕ) (rest : List (List ℕ)) (after : List ℕ) (shape : Shape) → IsPlain w
    → shape_of_word w spellings ≡ Some shape → r.count < greatest_statements
    → statement r k w rest after ≡ put (one_more r) (instruction_in after shape rest)
plain_statement r k w rest after shape h is few =
    let go : Option Shape → Read = λ o. found o fault.UnknownWord (λ s. counted r (λ t. put t (instruction_in after s rest))) in
    let spelled = go (shape_of_word w spellings) in
    let looped = if text_eq w (codes "loop") then nested r (λ s. Text.numbered 1 65535 rest (λ n more. Text.at_end more (Ok (Text.opening s
    (Text.Loop_body n) k))))
    else spelled in
    let chosen = if text_eq w (codes "if") then nested r (λ s. Text.at_end rest (Ok (Text.opening s Text.First_arm k))) else looped in
    let turned = if text_eq w (codes "else") then other_arm r r.blocks rest else chosen in
    ap (λ (c : Bool). if c then ended r r.blocks rest else turned) h.no_end
    ∙ ap (λ (c : Bool). if c then other_arm r r.blocks rest else chosen) h.no_else
    ∙ ap (λ (c : Bool). if c then nested r (λ s. Text.at_end rest (Ok (Text.opening s Text.First_arm k))) else looped) h.no_if
    ∙ ap (λ (c : Bool). if c then nested r (λ s. Text.numbered 1 65535 rest (λ n more. Text.at_end more (Ok (Text.opening s
    (Text.Loop_body n) k)))) else spelled) h.no_loop
    ∙ ap go is ∙ ap (λ (c : Bool). if c then put (one_more r) (instruction_in after shape rest) else Err fault.TooLong) (lt-ltb r.count greatest_statements few)
