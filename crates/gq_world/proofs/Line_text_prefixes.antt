-- Texts written a line at a time.
use Rattle.std.proofs.Common.{◌≡◌, ℕ, zero, suc, ◌<◌, List, [], ◌∷◌, ◌++◌, length, take, drop, Option, IfSome, refl, ap, sym, ◌∙◌, subst, append_assoc}
use Rattle.std.specs.Prelude.{slice_get}
use Rattle.std.specs.Io.KnownBytes.{Appends}
use Rattle.std.proofs.lemmas.List.{take-append-drop}
use Rattle.std.proofs.Math.Seq.{take-append_seam, take-length}
use Rattle.gq_model.specs.machine.Accounts.{Account, account_line, account_lines}
use Rattle.gq_output.specs.Writes.{IsPrefix}
use Rattle.gq_output.proofs.Written_byte_facts.{appends_both}
use Rattle.gq_world.proofs.World_account_lines.{lines_next}

-- what a text begins with is a prefix of it
pub prefix_by : (old new : Option (List ℕ)) (begun rest text : List ℕ) → Appends old new begun → text ≡ begun ++ rest → IsPrefix old new text
prefix_by old new begun rest text h e = (length begun, subst (Appends old new) (sym (ap (take (length begun)) e ∙ take-append_seam begun rest)) h)

-- a prefix of the next part, after what was written
pub prefix_after : (old between new : Option (List ℕ)) (begun part rest text : List ℕ) → Appends old between begun → IsPrefix between new part → text ≡ begun
    ++ (part ++ rest) → IsPrefix old new text
prefix_after old between new begun part rest text h f e =
    let k = f.0 in
    let whole : begun ++ (part ++ rest) ≡ (begun ++ take k part) ++ (drop k part ++ rest) =
    ap (λ p. begun ++ (p ++ rest)) (sym (take-append-drop k part))
    ∙ (ap (λ l. begun ++ l) (append_assoc (take k part) (drop k part) rest) ∙ sym (append_assoc begun (take k part) (drop k part ++ rest))) in
    prefix_by old new (begun ++ take k part) (drop k part ++ rest) text (appends_both old between new begun (take k part) h f.1) (e ∙ whole)

-- the lines from the n-th on
lines_split : (version n : ℕ) (all : List Account) → account_lines version (take n all) ++ account_lines version (drop n all) ≡ account_lines version all
lines_split version zero all = refl
lines_split version (suc n) [] = refl
lines_split version (suc n) (a ∷ all) =
    append_assoc (account_line version a) (account_lines version (take n all)) (account_lines version (drop n all))
    ∙ ap (λ l. account_line version a ++ l) (lines_split version n all)

-- a line more
pub next_line : (version n : ℕ) (all : List Account) (line : List ℕ) → n < length all → IfSome (slice_get all n) (λ a. line ≡ account_line version a)
    → (old between new : Option (List ℕ))
    → Appends old between (account_lines version (take n all)) → Appends between new line → Appends old new (account_lines version (take (suc n) all))
next_line version n all line less h old between new w v =
    subst (Appends old new) (sym (lines_next version all n line less h)) (appends_both old between new (account_lines version (take n all)) line w v)

-- a prefix of the next line
pub next_prefix : (version n : ℕ) (all : List Account) (line : List ℕ) → n < length all → IfSome (slice_get all n) (λ a. line ≡ account_line version a)
    → (old between new : Option (List ℕ))
    → Appends old between (account_lines version (take n all)) → IsPrefix between new line → IsPrefix old new (account_lines version all)
next_prefix version n all line less h old between new w f =
    let begun = account_lines version (take n all) in
    let rest = account_lines version (drop (suc n) all) in
    let whole : account_lines version all ≡ begun ++ (line ++ rest) =
    sym (lines_split version (suc n) all) ∙ (ap (λ l. l ++ rest) (lines_next version all n line less h) ∙ append_assoc begun line rest) in
    prefix_after old between new begun line rest (account_lines version all) w f whole

-- all lines
pub all_lines : (version n : ℕ) (all : List Account) → length all ≡ n → account_lines version (take n all) ≡ account_lines version all
all_lines version n all e = ap (account_lines version) (ap (λ k. take k all) (sym e) ∙ take-length all)
