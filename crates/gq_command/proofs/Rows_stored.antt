-- Texts in the stored form, parted, by computation.
use Rattle.std.proofs.Common.{◌≡◌, [], refl}
use Rattle.std.specs.Prelude.{codes}
use Rattle.gq_command.specs.Stored_run.{parted}

turns_follow : parted (codes "version = 1\n%%\nhello 2\n") ≡ (codes "version = 1\n", codes "hello 2\n")
turns_follow = refl

no_turns : parted (codes "version = 1\n") ≡ (codes "version = 1\n", [])
no_turns = refl

-- a carriage return after it aside, and as the last line
border_ends : parted (codes "version = 1\n%%\r") ≡ (codes "version = 1\n", [])
border_ends = refl

-- only the first such line parts, and it has to be just that
first_parts : parted (codes " %%\n%%\n%%\na 1") ≡ (codes " %%\n", codes "%%\na 1")
first_parts = refl
