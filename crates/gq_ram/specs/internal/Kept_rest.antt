-- What stays of all else along several calls.
use Rattle.std.proofs.Common.{ℕ, refl, ◌∙◌}
use Rattle.gq_ram.specs.Ledgers.{Ledger}
use Rattle.gq_ram.specs.Account_stores.{SameRest}

pub rest_refl : (a : ℕ) (l : Ledger) → SameRest a l l
rest_refl a l = record {
  stores = λ b ne. refl;
  accounts = λ b ne. refl;
  quota = refl;
  reference = refl;
  still_open = λ b h. h;
  were_open = λ b h. h;
  whole = (refl, refl, refl);
}

pub rest_trans : (a : ℕ) (l m n : Ledger) → SameRest a l m → SameRest a m n → SameRest a l n
rest_trans a l m n p q = record {
  stores = λ b ne. q.stores b ne ∙ p.stores b ne;
  accounts = λ b ne. q.accounts b ne ∙ p.accounts b ne;
  quota = q.quota ∙ p.quota;
  reference = q.reference ∙ p.reference;
  still_open = λ b h. q.still_open b (p.still_open b h);
  were_open = λ b h. p.were_open b (q.were_open b h);
  whole = (q.whole.0 ∙ p.whole.0, q.whole.1 ∙ p.whole.1, q.whole.2 ∙ p.whole.2);
}
