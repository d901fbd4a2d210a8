-- The scenario of a text, by what TOML says of it.
use Rattle.std.proofs.Common.{◌≡◌, ℕ, ◌≤◌, Bool, true, false, cond, List, length, Option, Some, None, Ok, Err, refl}
use Rattle.std.specs.Str.{is_utf8, IsUtf8}
use Rattle.std.proofs.lemmas.Str.{IsUtf8-from_is_utf8, is_utf8-from_IsUtf8}
use Rattle.std.proofs.lemmas.Bool.{le-leb}
use Rattle.toml.specs.Data.{Members}
use Rattle.toml.specs.Parse.{parse_document}
use Rattle.gq_scenario.specs.Top_table.{Not_toml, parsed, document_in, greatest_scenario}

parsed_short : (text : List ℕ) (o : Option Members) → length text ≤ greatest_scenario → cond (is_utf8 text) (parse_document text) None ≡ o
    → document_in text ≡ parsed o
parsed_short text o h e = rw (le-leb (length text) greatest_scenario h, e) refl

chosen : (b : Bool) (o p : Option Members) → b ≡ true → o ≡ p → cond b o None ≡ p
chosen b o p e f = rw (e, f) refl

left_out : (b : Bool) (o : Option Members) → b ≡ false → cond b o None ≡ None
left_out b o e = rw e refl

either_way : (b : Bool) (o : Option Members) → o ≡ None → cond b o None ≡ None
either_way true o e = e
either_way false o e = refl

not_true : (b : Bool) → (b ≡ true → ⊥) → b ≡ false
not_true true h = absurd (h refl)
not_true false h = refl

pub not_utf8 : (text : List ℕ) → length text ≤ greatest_scenario → (IsUtf8 text → ⊥) → document_in text ≡ Err Not_toml
not_utf8 text h n =
    let none = left_out (is_utf8 text) (parse_document text) (not_true (is_utf8 text) (λ e. n (IsUtf8-from_is_utf8 text e))) in
    parsed_short text None h none

pub toml_refused : (text : List ℕ) → length text ≤ greatest_scenario → parse_document text ≡ None → document_in text ≡ Err Not_toml
toml_refused text h e = parsed_short text None h (either_way (is_utf8 text) (parse_document text) e)

pub toml_read : (text : List ℕ) (top : Members) → length text ≤ greatest_scenario → IsUtf8 text → parse_document text ≡ Some top → document_in text ≡ Ok top
toml_read text top h u e = parsed_short text (Some top) h (chosen (is_utf8 text) (parse_document text) (Some top) (is_utf8-from_IsUtf8 text u) e)
