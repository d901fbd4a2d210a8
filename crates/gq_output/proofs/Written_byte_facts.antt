-- What is known of written bytes.
use Rattle.std.proofs.Common.{ℕ, List, [], ◌++◌, Option, Some, None, ap, sym, ◌∙◌, append_assoc, append-nil}
use Rattle.std.specs.Prelude.{Result, Ok, Err, OnOk, OnErr}
use Rattle.std.specs.Io.KnownBytes.{Appends, Keeps}

pub appends_nothing : (o : Option (List ℕ)) → Appends o o []
appends_nothing None = tt
appends_nothing (Some xs) = sym (append-nil xs)

pub appends_both : (a b c : Option (List ℕ)) (xs ys : List ℕ) → Appends a b xs → Appends b c ys → Appends a c (xs ++ ys)
appends_both None b c xs ys h k = tt
appends_both (Some x) None c xs ys h k = absurd h
appends_both (Some x) (Some y) None xs ys h k = absurd k
appends_both (Some x) (Some y) (Some z) xs ys h k = k ∙ (ap (λ t. t ++ ys) h ∙ append_assoc x xs ys)

pub appends_kept : (a b c : Option (List ℕ)) (xs : List ℕ) → Appends a b xs → Keeps b c → Appends a c xs
appends_kept None b c xs h k = tt
appends_kept (Some x) None c xs h k = absurd h
appends_kept (Some x) (Some y) None xs h k = absurd k
appends_kept (Some x) (Some y) (Some z) xs h k = k ∙ h

-- what holds where an answer is Ok, and what follows from it
pub on_ok : {A : Type 0} {E : Type 0} (P : Type 0) (Q : Type 0) (r : Result A E) → (P → Q) → OnOk r P → OnOk r Q
on_ok P Q (Ok a) f h = f h
on_ok P Q (Err e) f h = tt

pub on_err : {A : Type 0} {E : Type 0} (P : Type 0) (Q : Type 0) (r : Result A E) → (P → Q) → OnErr r P → OnErr r Q
on_err P Q (Ok a) f h = tt
on_err P Q (Err e) f h = f h
