-- The laws of programs and their code.
use Rattle.std.proofs.Common.{◌≡◌, ℕ, List, [], ◌∷◌, ◌++◌, Ok, Err, refl, ap, sym, subst, ◌∙◌}
use Rattle.std.specs.Prelude.{IsErr}
use Rattle.gq_model.specs.machine.Program.{Program}
use Rattle.gq_model.specs.texts.Code.{code_of}
use Rattle.gq_model.specs.texts.Decode.{Decoded, decoded}
use Rattle.gq_model.proofs.Byte_number_spelling.{AreBytes, test_of_bytes}
use Rattle.gq_model.proofs.Decoded_programs.{decoded_is}
use Rattle.gq_code.specs.Laws.{CodeIsBytes, OnlyCodeIsRead, CodeReportsPrograms, PartsAreRefused}
use Rattle.gq_code.proofs.Programs_back.{no_prefix, one_spelling}
use Rattle.gq_code.proofs.Code_bytes.{code_bytes}

pub code_is_bytes : CodeIsBytes
code_is_bytes p h = test_of_bytes (code_of p) (code_bytes p h)

pub only_code : OnlyCodeIsRead
only_code bytes p b e = let is = decoded_is bytes p b e in (is.program, is.code)

pub reports_programs : CodeReportsPrograms
reports_programs p q h k e = (one_spelling p q [] [] h k (ap (λ l. l ++ []) e)).0

prefix_bytes : (a b : List ℕ) → AreBytes (a ++ b) → AreBytes a
prefix_bytes [] b h = tt
prefix_bytes (x ∷ a) b h = (h.0, prefix_bytes a b h.1)

refused_by : (x : Decoded Program) → ((q : Program) → x ≡ Ok q → ⊥) → IsErr x
refused_by (Ok q) h = absurd (h q refl)
refused_by (Err fault) h = refl

pub refuses_parts : PartsAreRefused
refuses_parts p prefix b rest h e =
    refused_by (decoded prefix) (λ q d.
    let bytes : AreBytes (prefix ++ b ∷ rest) = subst (λ l. AreBytes l) e (code_bytes p h) in
    let is = decoded_is prefix q (test_of_bytes prefix (prefix_bytes prefix (b ∷ rest) bytes)) d in
    let longer : code_of p ≡ code_of q ++ b ∷ rest = e ∙ ap (λ l. l ++ b ∷ rest) (sym is.code) in
    let none : ◌≡◌ {A = List ℕ} (b ∷ rest) [] = (no_prefix q p (b ∷ rest) is.program h longer).1 in cc)
