-- A run by turns that come from a reader.
use Rattle.std.proofs.Common.{◌≡◌, ◌≤◌, ◌+◌, ℕ, List, [], ◌++◌, Option, Result, Ok, Err, refl, ap, sym, ◌∙◌, arith}
use Rattle.std.proofs.Common.{append-nil, append_assoc, length-append}
use Rattle.std.specs.Io.KnownBytes.{IsAtEnd}
use Rattle.std.proofs.KnownBytes.{Consumes-nil, Consumes-trans}
use Rattle.gq_command.specs.Input.{GivesAtMost}
use Rattle.std.specs.Prelude.{OnOk}
use Rattle.gq_model.specs.machine.Scenario.{Scenario, system}
use Rattle.gq_model.specs.rules.Accept.{IsAccepted}
use Rattle.gq_model.specs.texts.Turns.{acts_of, listed, turned}
use Rattle.gq_init.specs.TurnReading.{Reading, answer}
use Rattle.gq_load.specs.Load.{loaded}
use Rattle.gq_world.specs.Headline.{Upholding, WritesPromised}
use Rattle.gq_reports.specs.Whole.{refused_with, run_written, turn_fault_text, with_scenario, written_turns}
use Rattle.gq_world.specs.internal.Act_transitions.{turns_written}
use Rattle.gq_model.specs.declared.fault.TurnFault.{TurnFault}
use Rattle.gq_reports.specs.Command_outcomes.{GivesOf, run_fault_text}
use Rattle.gq_reports.specs.declared.run_fault.RunFault.{RunFault}
use Rattle.gq_reports.specs.declared.run_fault.RunFault.TheVariants as faults
use Rattle.gq_world.proofs.Run_text.{load_is, promised}
use Rattle.gq_cli.specs.Early_command_ends.{Ended, IsKnown, IsUnread}
use Rattle.gq_cli.specs.Executed.{ReadsText, Of_both}
use Rattle.gq_command.specs.declared.command.TurnsCommand.TheVariants.{Run}
use Rattle.gq_cli.specs.declared.execute.CommandFault.{CommandFault}
use Rattle.gq_cli.specs.declared.execute.CommandFault.TheVariants.{Refused, Memory, Read, Write}
use Rattle.gq_cli.specs.internal.Running.{EndsAs, HasCome, ReadsTurns}

-- what was read to its end
pub read_to_end : (cs : Scenario) (old new : Option (List ℕ)) (first last : Reading)
    → ReadsText old new (λ text. (rest : List ℕ) → answer cs last rest ≡ answer cs first (text ++ rest))
    → ((rest : List ℕ) → answer cs first rest ≡ listed cs rest) → ReadsText old new (λ text. answer cs last [] ≡ listed cs text)
read_to_end cs old new first last h starts = record {
  text = h.text;
  read = h.read;
  so = h.so [] ∙ (starts (h.text ++ []) ∙ ap (listed cs) (append-nil h.text));
}

pub reads_by : {P Q : List ℕ → Type 0} (old new : Option (List ℕ)) → ((text : List ℕ) → P text → Q text) → ReadsText old new P → ReadsText old new Q
reads_by old new by h = record { text = h.text; read = h.read; so = by h.text h.so }

-- PIECES

pub come_none : (cs : Scenario) (old : Option (List ℕ)) (first : Reading) → HasCome cs old old first first
come_none cs old first = record { text = []; taken = Consumes-nil old; size = omega arith; same = λ rest. refl }

pub come_both : (cs : Scenario) (old between new : Option (List ℕ)) (first mid last : Reading) → HasCome cs old between first mid
    → HasCome cs between new mid last → HasCome cs old new first last
come_both cs old between new first mid last h g = record {
  text = h.text ++ g.text;
  taken = Consumes-trans old between new h.text g.text h.taken g.taken;
  size = omega (arith, h.size, g.size, length-append h.text g.text);
  same = λ rest. g.same rest ∙ (h.same (g.text ++ rest) ∙ ap (answer cs first) (sym (append_assoc h.text g.text rest)));
}

-- the reader is at its end
pub come_all : (cs : Scenario) (old new : Option (List ℕ)) (first last : Reading) → HasCome cs old new first last → first.size ≡ 0 → IsAtEnd new
    → last.size ≤ 18874368 → ReadsText old new (λ text. (rest : List ℕ) → answer cs last rest ≡ answer cs first (text ++ rest))
come_all cs old new first last h starts end size = record {
  text = h.text;
  read = record { taken = h.taken; end = end; size = omega (arith, size, h.size, starts) };
  so = h.same;
}

pub come_at_most : (cs : Scenario) (n : ℕ) (old new : Option (List ℕ)) (first last : Reading) → HasCome cs old new first last → first.size ≡ 0
    → last.size ≤ n → GivesAtMost n old new
come_at_most cs n old new first last h starts size = (h.text, h.taken, omega (arith, size, h.size, starts))

pub at_most_both : (n m : ℕ) (cs : Scenario) (old between new : Option (List ℕ)) (first mid : Reading) → HasCome cs old between first mid → first.size ≡ 0
    → mid.size + m ≤ n → GivesAtMost m between new → GivesAtMost n old new
at_most_both n m cs old between new first mid h starts size g =
    (h.text ++ g.0, Consumes-trans old between new h.text g.0 h.taken g.1, omega (arith, size, h.size, starts, g.2, length-append h.text g.0))

-- REFUSALS

pub unread_is : (s : Scenario) (old new : Option (List ℕ)) (f : CommandFault) → IsUnread f → ReadsTurns s old new (Err f)
unread_is s old new (Refused line) h = absurd h
unread_is s old new Memory h = tt {0}
unread_is s old new Read h = tt {0}
unread_is s old new Write h = absurd h

-- a scenario that is refused is the reason why nothing is written
pub refused_by : (fault : RunFault) (scenario text line : List ℕ) → GivesOf fault scenario → (fault ≡ faults.Memory → ⊥)
    → line ≡ refused_with (run_fault_text fault) → run_written scenario text ≡ Err line
refused_by (faults.Load f) scenario text line gives not e = load_is (faults.Load f) scenario text gives ∙ ap Err (sym e)
refused_by (faults.NoComponent name) scenario text line gives not e = absurd gives
refused_by (faults.NoOutcome number) scenario text line gives not e = absurd gives
refused_by (faults.Turns f k) scenario text line gives not e = absurd gives
refused_by faults.Memory scenario text line gives not e = absurd (not refl)
refused_by faults.Write scenario text line gives not e = absurd gives

-- turns that are refused
pub turns_refused : (s : Scenario) (text line : List ℕ) (fault : TurnFault) (k : ℕ) → listed s text ≡ Err (fault, k)
    → line ≡ refused_with (turn_fault_text fault k) → turns_written s text ≡ Err line
turns_refused s text line fault k e is = ap (λ l. written_turns s (acts_of (system s) l)) e ∙ ap Err (sym is)

module _ (scenario : List ℕ) (s : Scenario) (load : loaded scenario ≡ Ok s) where
  runs : (text : List ℕ) → run_written scenario text ≡ turns_written s text
  runs text = ap (λ l. with_scenario l (λ r. written_turns r (turned r text))) load

  pub ended_as : {A : Type 0} (text : List ℕ) (r : Result A CommandFault) (before after : Option (List ℕ)) → EndsAs s text r before after
      → Ended r before after (Of_both Run scenario text)
  ended_as text (Ok u) before after h = record { text = h.text; given = runs text ∙ h.given; written = h.written }
  ended_as text (Err (Refused line)) before after h = runs text ∙ h
  ended_as text (Err Memory) before after h = absurd h
  ended_as text (Err Read) before after h = absurd h
  ended_as text (Err Write) before after h = record { text = h.text; given = runs text ∙ h.given; written = h.written }

  pub promised_as : {A : Type 0} (r : Result A CommandFault) (old new before after : Option (List ℕ)) → IsAccepted s → Upholding s
      → (IsKnown r → ReadsText old new (λ text. EndsAs s text r before after)) → OnOk r (ReadsText old new (λ text. WritesPromised scenario text before after))
  promised_as (Ok u) old new before after accepted upheld h =
      reads_by old new (λ text w. promised scenario text s before after load accepted upheld w) (h (tt {0}))
  promised_as (Err f) old new before after accepted upheld h = tt
