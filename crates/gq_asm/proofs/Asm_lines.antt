-- One line after the other.
use Rattle.std.proofs.Common.{◌≡◌, ◌<◌, ◌≤◌, ◌+◌, ℕ, ◌==◌, suc, true, List, [], ◌∷◌, length, Option, Some, None, Ok, Err, Result, refl, sym, ◌∙◌, ap, arith}
use Rattle.std.specs.Prelude.{nat_lt}
use Rattle.std.proofs.lemmas.Bool.{lt-ltb}
use Rattle.gq_model.specs.declared.program.Instruction.{Instruction}
use Rattle.gq_model.specs.texts.Letters.{words, lines}
use Rattle.gq_model.specs.machine.Program.{Do, Done, Program}
use Rattle.gq_model.specs.texts.Code.{greatest_statements}
use Rattle.gq_model.specs.texts.Text.{OpenBlock, Reading, Read, line_read, lines_read, on_line}
use Rattle.gq_model.specs.declared.fault.TextFault.{TextFault}
use Rattle.gq_asm.specs.Pieces.{prefix_line, past_feed, line_before, line_at}
use Rattle.gq_asm.specs.Usual.{IsUsual}
use Rattle.gq_asm.proofs.Pieces_at_start.{by_test, lines_of, lines-split}
use Rattle.gq_asm.specs.Assembly_faults as faults
use Rattle.gq_asm.specs.Assembly_faults.{Assembles}
use Rattle.gq_asm.specs.declared.asm_fault.LineError.{LineError}
use Rattle.gq_asm.specs.declared.asm_fault.LineError.TheVariants.{Memory, Fault}
use Rattle.gq_asm.specs.internal.Assembly_state.{Fails, with_added}
use Rattle.gq_asm.specs.internal.Source_lines.{lines_left, size_left, IsTaking, ReadsUsual}

-- the first line of a text, and those after it
pub lines_are : (text : List ℕ) → lines text ≡ line_at text ∷ lines_left (past_feed text)
lines_are text = lines-split text ∙ lines_of_are (prefix_line text) (past_feed text) where
  lines_of_are : (prefix : List ℕ) (left : Option (List ℕ)) → lines_of prefix left ≡ line_before prefix left ∷ lines_left left
  lines_of_are prefix None = refl
  lines_of_are prefix (Some text) = refl

pub past_feed-shorter : (text : List ℕ) → size_left (past_feed text) ≤ length text
past_feed-shorter [] = omega arith
past_feed-shorter (c ∷ rest) = by_test (c == 10) (λ e. rw e (omega arith)) (λ e. rw e (omega (arith, past_feed-shorter rest)))

some_block : (blocks : List OpenBlock) → 0 < length blocks → (b : OpenBlock) × (rest : List OpenBlock) × (blocks ≡ b ∷ rest)
some_block [] h = absurd (omega arith)
some_block (b ∷ rest) h = (b, rest, refl)

-- a usual line, where a statement may stand
pub usual_reads : (text rest : List ℕ) (i : Instruction) (old new : Reading) (n : ℕ) → IsTaking old → IsUsual text i rest → n ≡ old.count + 1 →
    ◌≡◌ {A = Read} (Ok (with_added (Do i Done) (record old { count = n }))) (Ok new) → ReadsUsual text rest old new
usual_reads text rest i old new n (some, few) u next e =
    let p = some_block old.blocks some in
    let small : nat_lt old.count greatest_statements ≡ true = lt-ltb old.count greatest_statements few in
    let more : n ≡ suc old.count = omega (arith, next) in
    record {
      fed = u.fed;
      read = λ k.
          u.read old k p.0 p.1 p.2
          ∙ rw small (ap (λ (m : ℕ). let r : Read = Ok (with_added (Do i Done) (record old { count = m })) in r) (sym more) ∙ e);
    }

-- what is left of a text once its first line is read
pub goes_on : (r s : Reading) (k n : ℕ) (text : List ℕ) (after : Option (List ℕ)) (all : Result Program (TextFault × ℕ)) →
    Ok s ≡ line_read r k (line_at text) (words (line_at text)) → after ≡ past_feed text → n ≡ suc k → lines_read r k (lines text) ≡ all →
    lines_read s n (lines_left after) ≡ all
goes_on r s k n text after all read rest next h =
    let left = lines_left (past_feed text) in
    ap (λ (m : ℕ). lines_read s m (lines_left after)) next
    ∙ (ap (λ (a : Option (List ℕ)). lines_read s (suc k) (lines_left a)) rest
    ∙ (ap (λ (x : Read). on_line k x (λ s. lines_read s (suc k) left)) read ∙ (ap (lines_read r k) (sym (lines_are text)) ∙ h)))

-- the first line has a fault
pub fails_here : (r : Reading) (k : ℕ) (text : List ℕ) (error : LineError) (all : Result Program (TextFault × ℕ)) →
    Fails error (line_read r k (line_at text) (words (line_at text))) → lines_read r k (lines text) ≡ all → Assembles (Err (faults.on_line k error)) all
fails_here r k text Memory all h e = tt
fails_here r k text (Fault f) all h e =
    let left = lines_left (past_feed text) in
    sym e ∙ (ap (lines_read r k) (lines_are text) ∙ ap (λ (x : Read). on_line k x (λ s. lines_read s (suc k) left)) h)

pub shorter : (text : List ℕ) (after : Option (List ℕ)) → after ≡ past_feed text → size_left after < suc (length text)
shorter text after e = let h = past_feed-shorter text in let k = ap size_left e in omega (arith, h, k)
