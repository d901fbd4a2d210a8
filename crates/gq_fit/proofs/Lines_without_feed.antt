-- Lines without the last line feed.
use Rattle.std.proofs.Common.{◌≡◌, ◌∙◌, ℕ, ◌-◌, Bool, true, false, cond, refl, sym, ap, List, length, take, codes}
use Rattle.std.specs.Str.{IsUtf8, is_utf8}
use Rattle.std.proofs.lemmas.Str.{IsUtf8-from_is_utf8, is_utf8-from_IsUtf8}
use Rattle.gq_fit.specs.Fit_words.{short_text}

pub ok_text : (x lines : List ℕ) (k : ℕ) → k ≡ length lines - 1 → x ≡ take k lines → IsUtf8 (take k lines) → x ≡ short_text lines
ok_text x lines k e is utf8 =
    let prefix = take (length lines - 1) lines in
    let valid : is_utf8 prefix ≡ true = ap (λ n. is_utf8 (take n lines)) (sym e) ∙ is_utf8-from_IsUtf8 (take k lines) utf8 in
    is ∙ (ap (λ n. take n lines) e ∙ sym (ap (λ b. cond b prefix (codes "short")) valid))

pub bad_text : (lines : List ℕ) (k : ℕ) → k ≡ length lines - 1 → (IsUtf8 (take k lines) → ⊥) → codes "short" ≡ short_text lines
bad_text lines k e none = by (is_utf8 (take k lines)) refl
  where
    prefix : List ℕ
    prefix = take (length lines - 1) lines

    by : (b : Bool) → is_utf8 (take k lines) ≡ b → codes "short" ≡ short_text lines
    by true valid = absurd (none (IsUtf8-from_is_utf8 (take k lines) valid))
    by false valid = sym (ap (λ b. cond b prefix (codes "short")) (ap (λ n. is_utf8 (take n lines)) (sym e) ∙ valid))
