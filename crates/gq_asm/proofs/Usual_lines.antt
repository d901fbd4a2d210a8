-- Lines that are read from start to end.
use Rattle.std.proofs.Common.{◌≡◌, ◌<◌, ◌≤◌, ℕ, ◌==◌, zero, suc, Bool, true, false, ◌&&◌, List, [], ◌∷◌, ◌++◌, length, get_or, take}
use Rattle.std.proofs.Common.{Option, Some, None, Result, append-nil, refl, sym, ◌∙◌, ap, subst, arith}
use Rattle.std.specs.Prelude.{if◌then◌else◌, not, codes, IfSome}
use Rattle.std.proofs.lemmas.Bool.{and_parts, ltb-true, lt-ltb, eqb-true}
use Rattle.gq_model.specs.machine.Lists.{all_of}
use Rattle.gq_model.specs.machine.Program.{text_eq}
use Rattle.gq_model.specs.declared.program.Instruction.{Instruction}
use Rattle.gq_model.specs.declared.program.OperandSlot.{OperandSlot}
use Rattle.gq_model.specs.declared.program.Instruction.TheVariants.{Open}
use Rattle.gq_model.specs.texts.Letters.{is_name, is_blank, words, unindented, past_word, without_return, number_in}
use Rattle.gq_model.specs.texts.Operands.{greatest_number}
use Rattle.gq_model.specs.texts.Spelling.{Shape, Made, Slot, number, slot_and, shape_of_word, spellings, slot_in, numbered_slot}
use Rattle.gq_model.specs.texts.Text.{OpenBlock, counted, put, in_place, is_comment}
use Rattle.gq_model.specs.declared.fault.TextFault.{TextFault}
use Rattle.gq_program.specs.declared.shapes.Shape as Shapes
use Rattle.gq_program.specs.declared.shapes.Shape.TheVariants as shape
use Rattle.gq_program.specs.Statement_table.{shape_of}
use Rattle.gq_asm.specs.Word_prefixes.{is_plain, BeginsWith}
use Rattle.gq_asm.specs.Pieces.{prefix_word, prefix_line, past_feed, fed_line}
use Rattle.gq_asm.specs.Usual.{IsUsual}
use Rattle.gq_asm.specs.internal.Words_operands.{IsLastWord, Completes}
use Rattle.gq_asm.proofs.Pieces_at_start.{by_test, ne_test, next}

-- PLAIN BYTES

plain_ne : (c n : ℕ) → is_plain c ≡ true → n ≤ 32 → (c == n) ≡ false
plain_ne c n p less = let h = ltb-true 32 c p in ne_test c n (λ e. omega (arith, h, less, e))

-- a plain byte is no blank
plain_blank : (c : ℕ) → is_plain c ≡ true → is_blank c ≡ false
plain_blank c p = let a = plain_ne c 32 p (omega arith) in let b = plain_ne c 9 p (omega arith) in rw a b

-- one plain byte more
pub plain_more : (text : List ℕ) (i : ℕ) → i < length text → all_of is_plain (take i text) ≡ true → 32 < get_or text i 0 →
    all_of is_plain (take (suc i) text) ≡ true
plain_more [] i less h p = absurd (omega arith)
plain_more (c ∷ rest) zero less h p = rw (lt-ltb 32 c p) refl
plain_more (c ∷ rest) (suc i) less h p =
    let q = and_parts (is_plain c) (all_of is_plain (take i rest)) h in rw q.0 (plain_more rest i (omega arith) q.1 p)

-- A LINE WITH ITS LINE FEED

return_cons : (c : ℕ) (line : List ℕ) → (c == 13) ≡ false → without_return (c ∷ line) ≡ c ∷ without_return line
return_cons c [] e = rw e refl
return_cons c (d ∷ rest) e = refl

fed_cons : (c : ℕ) (text : List ℕ) → (c == 10) ≡ false → (c == 13) ≡ false → fed_line (c ∷ text) ≡ c ∷ fed_line text
fed_cons c text e f = rw e (return_cons c (prefix_line text) f)

fed_plain : (word rest : List ℕ) → all_of is_plain word ≡ true → fed_line (word ++ rest) ≡ word ++ fed_line rest
fed_plain [] rest h = refl
fed_plain (c ∷ word) rest h =
    let p = and_parts (is_plain c) (all_of is_plain word) h in
    fed_cons c (word ++ rest) (plain_ne c 10 p.0 (omega arith)) (plain_ne c 13 p.0 (omega arith)) ∙ ap (λ (l : List ℕ). c ∷ l) (fed_plain word rest p.1)

feed_plain : (word rest : List ℕ) → all_of is_plain word ≡ true → past_feed (word ++ rest) ≡ past_feed rest
feed_plain [] rest h = refl
feed_plain (c ∷ word) rest h =
    let p = and_parts (is_plain c) (all_of is_plain word) h in let e = plain_ne c 10 p.0 (omega arith) in rw e (feed_plain word rest p.1)

prefix_plain : (word rest : List ℕ) → all_of is_plain word ≡ true → prefix_word (word ++ rest) ≡ word ++ prefix_word rest
prefix_plain [] rest h = refl
prefix_plain (c ∷ word) rest h =
    let p = and_parts (is_plain c) (all_of is_plain word) h in rw (plain_blank c p.0) (ap (λ (l : List ℕ). c ∷ l) (prefix_plain word rest p.1))

past_plain : (word rest : List ℕ) → all_of is_plain word ≡ true → past_word (word ++ rest) ≡ past_word rest
past_plain [] rest h = refl
past_plain (c ∷ word) rest h =
    let p = and_parts (is_plain c) (all_of is_plain word) h in rw (plain_blank c p.0) (past_plain word rest p.1)

-- where no word stands at the start, a blank does, or nothing
past_cut : (rest : List ℕ) → prefix_word rest ≡ [] → past_word rest ≡ rest
past_cut [] h = refl
past_cut (c ∷ rest) h = by_test (is_blank c) (λ e. rw e refl) (λ e. absurd (cc (rw e at h)))

-- the blanks at the start of a line are those at the start of the text
blank_ne : (c n : ℕ) → is_blank c ≡ true → (n ≡ 32 → ⊥) → (n ≡ 9 → ⊥) → (c == n) ≡ false
blank_ne c n b s t =
    ne_test c n (λ e. by_test (c == 32) (λ f. s (sym e ∙ eqb-true c 32 f)) (λ f. t (sym e ∙ eqb-true c 9 (rw f at b))))

unindented_kept : (c : ℕ) (line : List ℕ) → is_blank c ≡ false → unindented (without_return (c ∷ line)) ≡ without_return (c ∷ line)
unindented_kept c [] b = by_test (c == 13) (λ e. rw e refl) (λ e. rw e (rw b refl))
unindented_kept c (d ∷ rest) b = rw b refl

unindented_line : (text : List ℕ) → unindented (fed_line text) ≡ fed_line (unindented text)
unindented_line [] = refl
unindented_line (c ∷ rest) =
    by_test (is_blank c)
    (λ b.
    let e = blank_ne c 10 b (λ h. absurd (omega (arith, h))) (λ h. absurd (omega (arith, h))) in
    let f = blank_ne c 13 b (λ h. absurd (omega (arith, h))) (λ h. absurd (omega (arith, h))) in
    rw (fed_cons c rest e f) (rw b (unindented_line rest)))
    (λ b. rw b (by_test (c == 10) (λ e. rw e refl) (λ e. rw e (unindented_kept c (prefix_line rest) b))))

feed_unindented : (text : List ℕ) → past_feed text ≡ past_feed (unindented text)
feed_unindented [] = refl
feed_unindented (c ∷ rest) =
    by_test (is_blank c)
    (λ b.
    let e = blank_ne c 10 b (λ h. absurd (omega (arith, h))) (λ h. absurd (omega (arith, h))) in
    rw (e, b) (feed_unindented rest))
    (λ b. rw b refl)

-- WORDS

-- of a line with blanks at its start
first_words : (line word rest : List ℕ) → all_of is_plain word ≡ true → (word ≡ [] → ⊥) → prefix_word rest ≡ [] → unindented line ≡ word ++ rest →
    words line ≡ word ∷ words rest
first_words line [] rest h some cut u = absurd (some refl)
first_words line (c ∷ word) rest h some cut u =
    let n = (next line).1 (subst (λ (t : List ℕ). 0 < length t) (sym u) (omega arith)) in
    let f : prefix_word (unindented line) ≡ c ∷ word =
    ap prefix_word u ∙ (prefix_plain (c ∷ word) rest h ∙ (ap (λ (t : List ℕ). (c ∷ word) ++ t) cut ∙ append-nil (c ∷ word))) in
    let q : past_word (unindented line) ≡ rest = ap past_word u ∙ (past_plain (c ∷ word) rest h ∙ past_cut rest cut) in
    n.all ∙ (ap (λ (w : List ℕ). w ∷ words (past_word (unindented line))) f ∙ ap (λ (t : List ℕ). (c ∷ word) ∷ words t) q)

words_plain : (word rest : List ℕ) → all_of is_plain word ≡ true → (word ≡ [] → ⊥) → prefix_word rest ≡ [] → words (word ++ rest) ≡ word ∷ words rest
words_plain [] rest h some cut = absurd (some refl)
words_plain (c ∷ word) rest h some cut =
    let p = and_parts (is_plain c) (all_of is_plain word) h in
    first_words ((c ∷ word) ++ rest) (c ∷ word) rest h some cut (rw (plain_blank c p.0) refl)

-- OPERANDS

last_line : (text word rest : List ℕ) → IsLastWord text word rest → fed_line text ≡ 32 ∷ word
last_line text word rest h =
    ap fed_line h.split
    ∙ (fed_cons 32 (word ++ 10 ∷ rest) refl refl
    ∙ ap (λ (l : List ℕ). 32 ∷ l) (fed_plain word (10 ∷ rest) h.plain ∙ append-nil word))

last_feed : (text word rest : List ℕ) → IsLastWord text word rest → past_feed text ≡ Some rest
last_feed text word rest h = ap past_feed h.split ∙ feed_plain word (10 ∷ rest) h.plain

last_words : (text word rest : List ℕ) → IsLastWord text word rest → (word ≡ [] → ⊥) → words (fed_line text) ≡ word ∷ []
last_words text word rest h some =
    ap words (last_line text word rest h)
    ∙ (ap words (sym (append-nil word)) ∙ words_plain word [] h.plain some refl)

last_cut : (text word rest : List ℕ) → IsLastWord text word rest → prefix_word (fed_line text) ≡ []
last_cut text word rest h = ap prefix_word (last_line text word rest h)

no_number : (low high n : ℕ) (word : List ℕ) → number_in 10 low high word ≡ Some n → word ≡ [] → ⊥
no_number low high n word h e = let k = ap (number_in 10 low high) (sym e) ∙ h in cc

no_slot : (object : Bool) (s : OperandSlot) (word : List ℕ) → slot_in object word ≡ Some s → word ≡ [] → ⊥
no_slot true s word h e = let k = ap (slot_in true) (sym e) ∙ h in cc
no_slot false s word h e = let k = ap (slot_in false) (sym e) ∙ h in cc

pub number_completes : (text word rest : List ℕ) (width low high n : ℕ) (f : ℕ → Instruction) → IsLastWord text word rest →
    number_in 10 low high word ≡ Some n → Completes text (number width low high f) (f n) rest
number_completes text word rest width low high n f h e = record {
  fed = last_feed text word rest h;
  cut = last_cut text word rest h;
  read = λ after. rw (last_words text word rest h (no_number low high n word e)) (rw e refl);
}

pub slot_completes : (text word rest : List ℕ) (object : Bool) (s : OperandSlot) (f : OperandSlot → Instruction) → IsLastWord text word rest →
    slot_in object word ≡ Some s → Completes text (Slot object (λ s. Made (f s))) (f s) rest
slot_completes text word rest object s f h e = record {
  fed = last_feed text word rest h;
  cut = last_cut text word rest h;
  read = λ after. rw (last_words text word rest h (no_slot object s word e)) (rw e refl);
}

-- a word stands after a blank, before others that stand up to the line feed
record IsWordBefore (text word more rest : List ℕ) (ws : List (List ℕ)) : Type 0 where
  fed : past_feed text ≡ Some rest
  cut : prefix_word (fed_line text) ≡ []
  reported : words (fed_line text) ≡ word ∷ ws

word_before : (text word more rest : List ℕ) (ws : List (List ℕ)) → text ≡ 32 ∷ (word ++ more) → all_of is_plain word ≡ true → (word ≡ [] → ⊥) →
    past_feed more ≡ Some rest → prefix_word (fed_line more) ≡ [] → words (fed_line more) ≡ ws → IsWordBefore text word more rest ws
word_before text word more rest ws is plain some fed cut reported =
    let line : fed_line text ≡ 32 ∷ (word ++ fed_line more) =
    ap fed_line is ∙ (fed_cons 32 (word ++ more) refl refl ∙ ap (λ (l : List ℕ). 32 ∷ l) (fed_plain word more plain)) in
    record {
      fed = ap past_feed is ∙ (feed_plain word more plain ∙ fed);
      cut = ap prefix_word line;
      reported = ap words line ∙ (words_plain word (fed_line more) plain some cut ∙ ap (λ (l : List (List ℕ)). word ∷ l) reported);
    }

pub amount_completes : (text slot more word rest : List ℕ) (low high n : ℕ) (s : OperandSlot) (f : OperandSlot → ℕ → Instruction) → text ≡ 32 ∷ (slot ++ more) →
    all_of is_plain slot ≡ true → numbered_slot slot ≡ Some s → IsLastWord more word rest → number_in 10 low high word ≡ Some n →
    Completes text (slot_and low high f) (f s n) rest
amount_completes text slot more word rest low high n s f is plain there h e =
    let w = word_before text slot more rest (word ∷ []) is plain (no_slot false s slot there) (last_feed more word rest h) (last_cut more word rest h)
    (last_words more word rest h (no_number low high n word e)) in
    record {
      fed = w.fed;
      cut = w.cut;
      read = λ after. rw w.reported (rw there (rw e refl));
    }

no_name : (name : List ℕ) → is_name name ≡ true → name ≡ [] → ⊥
no_name name h e = let k = ap is_name (sym e) ∙ h in cc

-- what is taken for a name is one
pub named : (name service : List ℕ) → Some service ≡ (if is_name name then Some name else None) → (is_name name ≡ true) × (name ≡ service)
named name service e = by_cases (is_name name) refl e
  where
    by_cases : (b : Bool) → is_name name ≡ b → Some service ≡ (if b then Some name else None) → (is_name name ≡ true) × (name ≡ service)
    by_cases true is e = let same : name ≡ service = cc in (is, same)
    by_cases false is e = cc

pub service_completes : (text slot more name last word rest : List ℕ) (n : ℕ) (s : OperandSlot) → text ≡ 32 ∷ (slot ++ more) → all_of is_plain slot ≡ true →
    numbered_slot slot ≡ Some s → more ≡ 32 ∷ (name ++ last) → all_of is_plain name ≡ true → is_name name ≡ true → IsLastWord last word rest →
    number_in 10 0 greatest_number word ≡ Some n → Completes text (shape_of shape.Open) (Open s name n) rest
service_completes text slot more name last word rest n s is plain there next fine named h e =
    let v = word_before more name last rest (word ∷ []) next fine (no_name name named) (last_feed last word rest h) (last_cut last word rest h)
    (last_words last word rest h (no_number 0 greatest_number n word e)) in
    let w = word_before text slot more rest (name ∷ word ∷ []) is plain (no_slot false s slot there) v.fed v.cut v.reported in
    record {
      fed = w.fed;
      cut = w.cut;
      read = λ after. rw w.reported (rw there (rw named (rw e refl)));
    }

-- STATEMENTS

is_not : (b : Bool) → not b ≡ true → b ≡ false
is_not false e = refl
is_not true e = cc

abbrev word_is : List ℕ → List ℕ → Bool
word_is word text = not (text_eq word text)

no_shape : (word : List ℕ) (shape : Shape) → shape_of_word word spellings ≡ Some shape → word ≡ [] → ⊥
no_shape word shape h e = let k = ap (λ (t : List ℕ). shape_of_word t spellings) (sym e) ∙ h in cc

pub usual_line : (text start operands rest : List ℕ) (shape : Shapes.Shape) (i : Instruction) → start ≡ unindented text →
    BeginsWith start shape operands → Completes operands (shape_of shape) i rest → IsUsual text i rest
usual_line text start operands rest shape i at h c =
    let w = h.word in
    let line = fed_line text in
    let x = fed_line operands in
    let some : w ≡ [] → ⊥ = no_shape w (shape_of shape) h.spelled in
    let u : unindented line ≡ w ++ x =
    unindented_line text ∙ (ap fed_line (sym at) ∙ (ap fed_line h.split ∙ fed_plain w operands h.plain)) in
    let all : words line ≡ w ∷ words x = first_words line w x h.plain some c.cut u in
    let p4 = and_parts (not (is_comment w) && word_is w (codes "end") && word_is w (codes "else") && word_is w (codes "if"))
    (word_is w (codes "loop")) h.of_statement in
    let p3 = and_parts (not (is_comment w) && word_is w (codes "end") && word_is w (codes "else")) (word_is w (codes "if")) p4.0 in
    let p2 = and_parts (not (is_comment w) && word_is w (codes "end")) (word_is w (codes "else")) p3.0 in
    let p1 = and_parts (not (is_comment w)) (word_is w (codes "end")) p2.0 in
    record {
      fed = feed_unindented text ∙ (ap past_feed (sym at ∙ h.split) ∙ (feed_plain w operands h.plain ∙ c.fed));
      read = λ r k b blocks e.
          let after = past_word (unindented line) in
          rw all (rw (is_not _ p1.0) (ap (λ (l : List OpenBlock). in_place r l k w (words x) after) e
          ∙ rw (is_not _ p1.1, is_not _ p2.1, is_not _ p3.1, is_not _ p4.1) (rw h.spelled
          (ap (λ (y : Result Instruction TextFault). counted r (λ s. put s y)) (c.read after)))));
    }

pub on_blank : (text words all : List ℕ) → text ≡ 32 ∷ words → words ≡ all → text ≡ 32 ∷ all
on_blank text words all e f = e ∙ ap (λ (l : List ℕ). 32 ∷ l) f

-- what follows from what holds where there is one
pub on_some : {X : Type 0} (r : Option X) (P Q : X → Type 0) → ((x : X) → P x → Q x) → IfSome r P → IfSome r Q
on_some None P Q f h = tt
on_some (Some x) P Q f h = f x h
