-- What holds of an answer where there is one.
use Rattle.std.proofs.Common.{◌≡◌, Result, Ok, Err}
use Rattle.gq_model.specs.texts.Decode.{Decoded, decoded_then}

-- what is there is so
abbrev pub Holds : {A E : Type 0} → (A → Type 0) → Result A E → Type 0
Holds P (Ok a) = P a
Holds P (Err fault) = Unit {0}

pub holds_at : {A E : Type 0} (P : A → Type 0) (x : Result A E) (a : A) → Holds P x → x ≡ Ok a → P a
holds_at P (Ok b) a h e = let same : b ≡ a = cc in rw same at h
holds_at P (Err fault) a h e = cc

-- what is decoded after something that is so
pub holds_then : {A B : Type 0} {P : A → Type 0} (Q : B → Type 0) (x : Decoded A) (f : A → Decoded B) → Holds P x → ((a : A) → P a → Holds Q (f a))
    → Holds Q (decoded_then x f)
holds_then Q (Ok a) f h go = go a h
holds_then Q (Err fault) f h go = tt
