-- What a clause reads of a writer that counts its failures, and how one who writes a text ends.
use Rattle.std.specs.Prelude.{◌≡◌, ℕ, List, Option, Result, OnOk, OnErr}
use Rattle.std.specs.Io.KnownBytes.{Appends}
use Rattle.gq_output.specs.Writes.{IsPrefix, IsRaised}
use Rattle.gq_output.specs.declared.counted.Counted.{Counted}

-- the writer that it hands its writes to
abbrev pub writer_of : {W : Type 0} → Counted W → W
writer_of c = c.writer

-- the bytes of that writer, where they are known
abbrev pub written_to : {W : Type 0} → (W → Option (List ℕ)) → Counted W → Option (List ℕ)
written_to contents c = contents c.writer

-- how often a write failed
abbrev pub failures_of : {W : Type 0} → Counted W → ℕ
failures_of c = c.failures

-- who writes a text: all of it was written, and no write failed; or a write failed, which was counted, and a prefix of the text was written
pub record Writes {W A E : Type 0} (contents : W → Option (List ℕ)) (old new : Counted W) (text : List ℕ) (result : Result A E) : Type 0 where
  pub written : OnOk result (Appends (written_to contents old) (written_to contents new) text)
  pub counted : OnOk result (failures_of new ≡ failures_of old)
  pub prefix : OnErr result (IsPrefix (written_to contents old) (written_to contents new) text)
  pub raised : OnErr result (IsRaised (failures_of old) (failures_of new))
