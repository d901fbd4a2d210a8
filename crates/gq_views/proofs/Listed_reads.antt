-- Each instruction is read back from its operands.
use Rattle.std.proofs.Common.{◌≡◌, ◌∙◌, ℕ, zero, suc, ◌<◌, ◌≤◌, ◌^◌, Bool, true, false, List, [], ◌∷◌, ◌++◌, length, map, Option, Some, None, Ok}
use Rattle.std.proofs.Common.{refl, ap, arith, append-nil}
use Rattle.std.specs.Prelude.{◌&&◌, nat_le, ◌==◌, if◌then◌else◌, decimal}
use Rattle.std.proofs.lemmas.Bool.{and_parts, leb-true}
use Rattle.std.proofs.lemmas.Bool.Decides.{nat_tests}
use Rattle.gq_model.specs.declared.fault.TextFault.TheVariants as fault
use Rattle.gq_model.specs.declared.program.Form.TheVariants.{Block, Slice, Space}
use Rattle.gq_model.specs.declared.program.Instruction.{Instruction}
use Rattle.gq_model.specs.declared.program.Instruction.TheVariants as i
use Rattle.gq_model.specs.declared.program.OperandStatement.TheVariants.{Plain, Numbered}
use Rattle.gq_model.specs.declared.program.OperandSlot.{OperandSlot}
use Rattle.gq_model.specs.declared.program.OperandSlot.TheVariants.{Own, Shared, Object}
use Rattle.gq_model.specs.declared.program.Width.TheVariants.{Byte, Word}
use Rattle.gq_model.specs.machine.Lists.{all_of, between}
use Rattle.gq_model.specs.machine.Program.{Do, Done}
use Rattle.gq_model.specs.texts.Letters.{is_blank, is_name, is_said, is_said_byte, words}
use Rattle.gq_model.specs.texts.Operands.{number_entry, in_range, is_slot, is_slot_or_object, operands, greatest_number, greatest_size}
use Rattle.gq_model.specs.texts.Code.{greatest_statements}
use Rattle.gq_model.specs.texts.Spelling.{Shape, Made, Number, Service, Said, before, found, instruction_in, quoted, said_in, sayable, shape_of_word, spellings}
use Rattle.gq_model.specs.texts.Text.{OpenBlock, Reading, add_to, line_read, put}
use Rattle.gq_model.proofs.Operand_laws.{IsWidth}
use Rattle.gq_model.proofs.Instruction_laws.{each_bare, each_numbered}
use Rattle.gq_views.specs.Listing.{indented, instruction_text, operand_text, operands_text}
use Rattle.gq_views.proofs.Listed_numbers.{all_append, number_of_32}
use Rattle.gq_views.proofs.Listed_lines.{is_printed, said_printed}
use Rattle.gq_views.proofs.Listed_operands.{AreWords, name_word, number_word, object_read, place_word, reads_number, reads_service, reads_slot}
use Rattle.gq_views.proofs.Listed_operands.{operands_printed, slot_read, words_operands}
use Rattle.gq_views.proofs.Listed_instructions.{keyword, one_more, plain, plain_from, plain_line, plain_statement}

-- the operands are words, and from them comes the instruction
pub record ReadsBack (x : Instruction) : Type 0 where
  pub words : AreWords (operands x)
  pub shape : Shape
  pub is : shape_of_word (keyword x) spellings ≡ Some shape
  pub reads : (after : List ℕ) → instruction_in after shape (map operand_text (operands x)) ≡ Ok x

below : (low high n : ℕ) → high ≤ 2 ^ 32 → between low high n ≡ true → n < 2 ^ 64
below low high n few h = let t = and_parts (nat_le low n) (nat_le n high) h in omega (arith, leb-true n high t.1, few)

number_back : (low high n : ℕ) → high < 2 ^ 32 → between low high n ≡ true → n < 2 ^ 32
number_back low high n few h = let t = and_parts (nat_le low n) (nat_le n high) h in omega (arith, leb-true n high t.1, few)

high_small : (w high : ℕ) → IsWidth w high → high < 2 ^ 32
high_small (suc zero) high h = omega (arith, h)
high_small (suc (suc zero)) high h = omega (arith, h)
high_small (suc (suc (suc (suc zero)))) high h = omega (arith, h)
high_small _ high h = absurd h

slot_any : (p : OperandSlot) → is_slot p ≡ true → is_slot_or_object p ≡ true
slot_any (Own n) h = h
slot_any (Shared n) h = h
slot_any Object h = refl

-- every instruction but one that says a text
pub reads_back : (x : Instruction) → all_of in_range (operands x) ≡ true → ((text : List ℕ) → x ≡ i.Say text → ⊥) → ReadsBack x
reads_back (i.Say text) h other = absurd (other text refl)
reads_back i.Out h other =
    record { words = tt; shape = _; is = refl; reads = λ after. refl }
reads_back (i.Operands (Plain s)) h other = record {
  words = tt;
  shape = _;
  is = ap (λ (w : List ℕ). shape_of_word w spellings) (each_bare s).word_is ∙ (each_bare s).by_word;
  reads = λ after. refl;
}
reads_back (i.Operands (Numbered s n)) h other =
    let e = number_entry s in
    let few = high_small e.width e.high (each_numbered s).1 in
    let r0 = (and_parts (between e.low e.high n) true h).0 in
    record {
      words = (number_word n (below e.low e.high n (omega (arith, few)) r0), tt);
      shape = _;
      is = ap (λ (w : List ℕ). shape_of_word w spellings) (each_numbered s).0.word_is ∙ (each_numbered s).0.by_word;
      reads = λ after. reads_number after [] (i.Operands (Numbered s n)) e.width e.low e.high n (λ n. Made (i.Operands (Numbered s n)))
          (number_of_32 e.low e.high n (number_back e.low e.high n few r0) r0) refl;
    }
reads_back (i.Make Block p n) h other =
    let t0 = and_parts (is_slot p) ((between 1 greatest_size n) && (true)) h in
    let r0 = t0.0 in
    let t1 = and_parts (between 1 greatest_size n) (true) t0.1 in
    let r1 = t1.0 in
    record {
      words = (place_word p (slot_any p r0), (number_word n (below 1 greatest_size n (omega arith) r1), tt));
      shape = _;
      is = refl;
      reads = λ after.
          reads_slot after (decimal n ∷ []) (i.Make Block p n) false p (λ s. Number 4 1 greatest_size (λ n. Made (i.Make Block s n))) (slot_read p r0)
          (reads_number after [] (i.Make Block p n) 4 1 greatest_size n (λ n. Made (i.Make Block p n)) (number_of_32 1 greatest_size n
          (number_back 1 greatest_size n (omega arith) r1) r1) (refl));
    }
reads_back (i.Make Slice p n) h other =
    let t0 = and_parts (is_slot p) ((between 1 greatest_size n) && (true)) h in
    let r0 = t0.0 in
    let t1 = and_parts (between 1 greatest_size n) (true) t0.1 in
    let r1 = t1.0 in
    record {
      words = (place_word p (slot_any p r0), (number_word n (below 1 greatest_size n (omega arith) r1), tt));
      shape = _;
      is = refl;
      reads = λ after.
          reads_slot after (decimal n ∷ []) (i.Make Slice p n) false p (λ s. Number 4 1 greatest_size (λ n. Made (i.Make Slice s n))) (slot_read p r0)
          (reads_number after [] (i.Make Slice p n) 4 1 greatest_size n (λ n. Made (i.Make Slice p n)) (number_of_32 1 greatest_size n
          (number_back 1 greatest_size n (omega arith) r1) r1) (refl));
    }
reads_back (i.Make Space p n) h other =
    let t0 = and_parts (is_slot p) ((between 1 greatest_size n) && (true)) h in
    let r0 = t0.0 in
    let t1 = and_parts (between 1 greatest_size n) (true) t0.1 in
    let r1 = t1.0 in
    record {
      words = (place_word p (slot_any p r0), (number_word n (below 1 greatest_size n (omega arith) r1), tt));
      shape = _;
      is = refl;
      reads = λ after.
          reads_slot after (decimal n ∷ []) (i.Make Space p n) false p (λ s. Number 4 1 greatest_size (λ n. Made (i.Make Space s n))) (slot_read p r0)
          (reads_number after [] (i.Make Space p n) 4 1 greatest_size n (λ n. Made (i.Make Space p n)) (number_of_32 1 greatest_size n
          (number_back 1 greatest_size n (omega arith) r1) r1) (refl));
    }
reads_back (i.MakePool p n m) h other =
    let t0 = and_parts (is_slot p) ((between 1 2048 n) && ((between 1 1024 m) && (true))) h in
    let r0 = t0.0 in
    let t1 = and_parts (between 1 2048 n) ((between 1 1024 m) && (true)) t0.1 in
    let r1 = t1.0 in
    let t2 = and_parts (between 1 1024 m) (true) t1.1 in
    let r2 = t2.0 in
    record {
      words = (
        place_word p (slot_any p r0),
        (
          number_word n (below 1 2048 n (omega arith) r1),
          (
            number_word m (below 1 1024 m
                (omega arith) r2),
            tt,
          ),
        ),
      );
      shape = _;
      is = refl;
      reads = λ after. reads_slot after (decimal n ∷ decimal m ∷ []) (i.MakePool p n m) false p
          (λ s. Number 2 1 2048 (λ n. Number 2 1 1024 (λ m. Made (i.MakePool s n m)))) (slot_read p r0) (reads_number after (decimal m ∷ [])
          (i.MakePool p n m) 2 1 2048 n (λ n. Number 2 1 1024 (λ m. Made (i.MakePool p n m))) (number_of_32 1 2048 n (number_back 1 2048 n
          (omega arith) r1) r1) (reads_number after [] (i.MakePool p n m) 2 1 1024 m (λ m. Made (i.MakePool p n m)) (number_of_32 1 1024 m
          (number_back 1 1024 m (omega arith) r2) r2) (refl)));
    }
reads_back (i.Load Byte p) h other =
    let t0 = and_parts (is_slot_or_object p) (true) h in
    let r0 = t0.0 in
    record {
      words = (place_word p r0, tt);
      shape = _;
      is = refl;
      reads = λ after. reads_slot after [] (i.Load Byte p) true p (λ s. Made (i.Load Byte s))
          (object_read p r0) refl;
    }
reads_back (i.Load Word p) h other =
    let t0 = and_parts (is_slot_or_object p) (true) h in
    let r0 = t0.0 in
    record {
      words = (place_word p r0, tt);
      shape = _;
      is = refl;
      reads = λ after. reads_slot after [] (i.Load Word p) true p (λ s. Made (i.Load Word s))
          (object_read p r0) refl;
    }
reads_back (i.Store Byte p) h other =
    let t0 = and_parts (is_slot_or_object p) (true) h in
    let r0 = t0.0 in
    record {
      words = (place_word p r0, tt);
      shape = _;
      is = refl;
      reads = λ after. reads_slot after [] (i.Store Byte p) true p (λ s. Made (i.Store Byte s))
          (object_read p r0) refl;
    }
reads_back (i.Store Word p) h other =
    let t0 = and_parts (is_slot_or_object p) (true) h in
    let r0 = t0.0 in
    record {
      words = (place_word p r0, tt);
      shape = _;
      is = refl;
      reads = λ after. reads_slot after [] (i.Store Word p) true p (λ s. Made (i.Store Word s))
          (object_read p r0) refl;
    }
reads_back (i.Free p) h other =
    let t0 = and_parts (is_slot p) (true) h in
    let r0 = t0.0 in
    record {
      words = (place_word p (slot_any p r0), tt);
      shape = _;
      is = refl;
      reads = λ after. reads_slot after [] (i.Free p) false p (λ s. Made
          (i.Free s)) (slot_read p r0) (refl);
    }
reads_back (i.Take p) h other =
    let t0 = and_parts (is_slot p) (true) h in
    let r0 = t0.0 in
    record {
      words = (place_word p (slot_any p r0), tt);
      shape = _;
      is = refl;
      reads = λ after. reads_slot after [] (i.Take p) false p (λ s. Made
          (i.Take s)) (slot_read p r0) (refl);
    }
reads_back (i.Give p) h other =
    let t0 = and_parts (is_slot p) (true) h in
    let r0 = t0.0 in
    record {
      words = (place_word p (slot_any p r0), tt);
      shape = _;
      is = refl;
      reads = λ after. reads_slot after [] (i.Give p) false p (λ s. Made
          (i.Give s)) (slot_read p r0) (refl);
    }
reads_back (i.Peek p) h other =
    let t0 = and_parts (is_slot p) (true) h in
    let r0 = t0.0 in
    record {
      words = (place_word p (slot_any p r0), tt);
      shape = _;
      is = refl;
      reads = λ after. reads_slot after [] (i.Peek p) false p (λ s. Made
          (i.Peek s)) (slot_read p r0) (refl);
    }
reads_back (i.Poke p) h other =
    let t0 = and_parts (is_slot p) (true) h in
    let r0 = t0.0 in
    record {
      words = (place_word p (slot_any p r0), tt);
      shape = _;
      is = refl;
      reads = λ after. reads_slot after [] (i.Poke p) false p (λ s. Made
          (i.Poke s)) (slot_read p r0) (refl);
    }
reads_back (i.Open p v n) h other =
    let t0 = and_parts (is_slot p) ((is_name v) && ((between 0 greatest_number n) && (true))) h in
    let r0 = t0.0 in
    let t1 = and_parts (is_name v) ((between 0 greatest_number n) && (true)) t0.1 in
    let r1 = t1.0 in
    let t2 = and_parts (between 0 greatest_number n) (true) t1.1 in
    let r2 = t2.0 in
    record {
      words = (
        place_word p (slot_any p r0),
        (
          name_word v r1,
          (
            number_word n (below 0 greatest_number n
                (omega arith) r2),
            tt,
          ),
        ),
      );
      shape = _;
      is = refl;
      reads = λ after. reads_slot after (v ∷ decimal n ∷ []) (i.Open p v n) false p (λ s. Service
          (λ v. Number 4 0 greatest_number (λ n. Made (i.Open s v n)))) (slot_read p r0) (reads_service after (decimal n ∷ []) (i.Open p v n) v
          (λ v. Number 4 0 greatest_number (λ n. Made (i.Open p v n))) r1 (reads_number after [] (i.Open p v n) 4 0 greatest_number n (λ n. Made
          (i.Open p v n)) (number_of_32 0 greatest_number n (number_back 0 greatest_number n (omega arith) r2) r2) (refl)));
    }
reads_back (i.Upgrade p n) h other =
    let t0 = and_parts (is_slot p) ((between 0 greatest_number n) && (true)) h in
    let r0 = t0.0 in
    let t1 = and_parts (between 0 greatest_number n) (true) t0.1 in
    let r1 = t1.0 in
    record {
      words = (place_word p (slot_any p r0), (number_word n (below 0 greatest_number n (omega arith) r1), tt));
      shape = _;
      is = refl;
      reads = λ
          after. reads_slot after (decimal n ∷ []) (i.Upgrade p n) false p (λ s. Number 4 0 greatest_number (λ n. Made (i.Upgrade s n))) (slot_read p r0)
          (reads_number after [] (i.Upgrade p n) 4 0 greatest_number n (λ n. Made (i.Upgrade p n)) (number_of_32 0 greatest_number n
          (number_back 0 greatest_number n (omega arith) r1) r1) (refl));
    }
reads_back (i.Call p) h other =
    let t0 = and_parts (is_slot p) (true) h in
    let r0 = t0.0 in
    record {
      words = (place_word p (slot_any p r0), tt);
      shape = _;
      is = refl;
      reads = λ after. reads_slot after [] (i.Call p) false p (λ s. Made
          (i.Call s)) (slot_read p r0) (refl);
    }
reads_back (i.Close p) h other =
    let t0 = and_parts (is_slot p) (true) h in
    let r0 = t0.0 in
    record {
      words = (place_word p (slot_any p r0), tt);
      shape = _;
      is = refl;
      reads = λ after. reads_slot after [] (i.Close p) false p (λ s. Made
          (i.Close s)) (slot_read p r0) (refl);
    }

-- TEXTS

quoted_back : (text : List ℕ) → all_of is_said_byte text ≡ true → quoted (text ++ 34 ∷ []) ≡ Some text
quoted_back [] h = refl
quoted_back (c ∷ text) h =
    let t = and_parts (is_said_byte c) (all_of is_said_byte text) h in
    let other : (c == 34) ≡ false = grind (arith, nat_tests) in
    ap (λ (q : Bool). if q then (if all_of is_blank (text ++ 34 ∷ []) then Some [] else None) else before c (quoted (text ++ 34 ∷ []))) other
    ∙ ap (before c) (quoted_back text t.1)

said_back : (text : List ℕ) → is_said text ≡ true → said_in (operands_text (operands (i.Say text))) ≡ Some text
said_back text h =
    let t = and_parts (nat_le (length text) 64) (all_of is_said_byte text) h in
    ap (λ (rest : List ℕ). said_in (32 ∷ rest)) (append-nil (34 ∷ (text ++ 34 ∷ []))) ∙ ap sayable (quoted_back text t.1)
    ∙ ap (λ (b : Bool). if b then Some text else None) h

said_text_printed : (text : List ℕ) → is_said text ≡ true → all_of is_printed (operands_text (operands (i.Say text))) ≡ true
said_text_printed text h =
    let t = and_parts (nat_le (length text) 64) (all_of is_said_byte text) h in
    ap (λ (rest : List ℕ). all_of is_printed (32 ∷ rest)) (append-nil (34 ∷ (text ++ 34 ∷ [])))
    ∙ all_append is_printed text (34 ∷ []) (said_printed text t.1) refl

-- ALL INSTRUCTIONS

-- from what stands after the word comes the instruction
pub record SpelledBack (x : Instruction) : Type 0 where
  pub shape : Shape
  pub is : shape_of_word (keyword x) spellings ≡ Some shape
  pub reads : instruction_in (operands_text (operands x)) shape (words (operands_text (operands x))) ≡ Ok x
  pub printed : all_of is_printed (operands_text (operands x)) ≡ true

spelled_from : (x : Instruction) → ReadsBack x → SpelledBack x
spelled_from x h = record {
  shape = h.shape;
  is = h.is;
  reads = ap (instruction_in (operands_text (operands x)) h.shape) (words_operands (operands x) h.words) ∙ h.reads (operands_text (operands x));
  printed = operands_printed (operands x) h.words;
}

pub spelled_back : (x : Instruction) → all_of in_range (operands x) ≡ true → SpelledBack x
spelled_back (i.Say text) h = record {
  shape = Said (λ text. Made (i.Say text));
  is = refl;
  reads =
      let after = operands_text (operands (i.Say text)) in
      ap (λ (o : Option (List ℕ)). found o fault.BadText (λ u. instruction_in after (Made (i.Say u)) []))
      (said_back text (and_parts (is_said text) true h).0);
  printed = said_text_printed text (and_parts (is_said text) true h).0;
}
spelled_back i.Out h = spelled_from i.Out (reads_back i.Out h (λ text e. cc e))
spelled_back (i.Operands s) h = spelled_from (i.Operands s) (reads_back (i.Operands s) h (λ text e. cc e))
spelled_back (i.Make Block p n) h = spelled_from (i.Make Block p n) (reads_back (i.Make Block p n) h (λ text e. cc e))
spelled_back (i.Make Slice p n) h = spelled_from (i.Make Slice p n) (reads_back (i.Make Slice p n) h (λ text e. cc e))
spelled_back (i.Make Space p n) h = spelled_from (i.Make Space p n) (reads_back (i.Make Space p n) h (λ text e. cc e))
spelled_back (i.MakePool p n m) h = spelled_from (i.MakePool p n m) (reads_back (i.MakePool p n m) h (λ text e. cc e))
spelled_back (i.Load Byte p) h = spelled_from (i.Load Byte p) (reads_back (i.Load Byte p) h (λ text e. cc e))
spelled_back (i.Load Word p) h = spelled_from (i.Load Word p) (reads_back (i.Load Word p) h (λ text e. cc e))
spelled_back (i.Store Byte p) h = spelled_from (i.Store Byte p) (reads_back (i.Store Byte p) h (λ text e. cc e))
spelled_back (i.Store Word p) h = spelled_from (i.Store Word p) (reads_back (i.Store Word p) h (λ text e. cc e))
spelled_back (i.Free p) h = spelled_from (i.Free p) (reads_back (i.Free p) h (λ text e. cc e))
spelled_back (i.Take p) h = spelled_from (i.Take p) (reads_back (i.Take p) h (λ text e. cc e))
spelled_back (i.Give p) h = spelled_from (i.Give p) (reads_back (i.Give p) h (λ text e. cc e))
spelled_back (i.Peek p) h = spelled_from (i.Peek p) (reads_back (i.Peek p) h (λ text e. cc e))
spelled_back (i.Poke p) h = spelled_from (i.Poke p) (reads_back (i.Poke p) h (λ text e. cc e))
spelled_back (i.Open p v n) h = spelled_from (i.Open p v n) (reads_back (i.Open p v n) h (λ text e. cc e))
spelled_back (i.Upgrade p n) h = spelled_from (i.Upgrade p n) (reads_back (i.Upgrade p n) h (λ text e. cc e))
spelled_back (i.Call p) h = spelled_from (i.Call p) (reads_back (i.Call p) h (λ text e. cc e))
spelled_back (i.Close p) h = spelled_from (i.Close p) (reads_back (i.Close p) h (λ text e. cc e))

-- the line of an instruction, in a section
pub instruction_line : (r : Reading) (k d : ℕ) (x : Instruction) (b : OpenBlock) (bs : List OpenBlock) → r.blocks ≡ b ∷ bs → all_of in_range (operands x) ≡ true
    → r.count < greatest_statements
    → line_read r k (indented d (instruction_text x)) (words (indented d (instruction_text x)))
    ≡ Ok (record r { count = suc r.count; blocks = add_to (Do x Done) r.blocks })
instruction_line r k d x b bs e h few =
    let s = spelled_back x h in
    let w = plain_from (keyword x) (plain x) in
    let os = operands x in
    plain_line r k d (keyword x) os b bs e w
    ∙ plain_statement r k (keyword x) (words (operands_text os)) (operands_text os) s.shape w s.is few
    ∙ ap (put (one_more r)) s.reads
