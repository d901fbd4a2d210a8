use Rattle.std.proofs.Common.{◌≡◌, ℕ, ◌*◌, ◌/◌, ◌<◌, ◌≤◌, ◌++◌, Some, length, set, arith, ap, subst, ◌∙◌}
use Rattle.gq_tariff.specs.Prices.{up}
use Rattle.gq_pages.specs.Frame_bytes.{zeros}
use Rattle.gq_dataspace.specs.Dataspaces.{Contents, content_of}
use Rattle.gq_dataspace.proofs.Frame_list_bytes.{length-zeros}
use Rattle.gq_dataspace.proofs.Repeated_dataspace_sets.{content_set, zeros_again}
use Rattle.gq_dataspace.proofs.spaces.Spaces.create.Goals as goal

-- the loop has made all pages
all_pages : (n r f k : ℕ) → 1 ≤ n → r ≡ up n → f ≡ 4096 → r / f ≤ k → (1 ≤ r / f → k ≤ r / f) → 4096 * k ≡ up n
all_pages n r f k some rounded frame past within =
    let a : r / 4096 ≤ k = subst (λ (x : ℕ). r / x ≤ k) frame past in
    let b : 1 ≤ r / 4096 → k ≤ r / 4096 = subst (λ (x : ℕ). 1 ≤ r / x → k ≤ r / x) frame within in
    let d : k ≤ r / 4096 = b (omega (arith, rounded, some)) in omega (arith, rounded, a, d)

pub extend-requires-clause-few : goal.extend-requires-clause-few
extend-requires-clause-few c =
    let l = c.loop-page in let r = c.begin-ds.result.0 in let i = l.invariant in
    let is : length (content_of l.self.spaces r) ≡ 4096 * l._page =
    ap (λ (ss : Contents). length (content_of ss r)) i.made ∙ ap length (content_set c.args.self.now.spaces r (zeros (4096 * l._page)) i.vacant.0)
    ∙ length-zeros (4096 * l._page) in
    let below : l._page < 16384 = omega (arith, c.loop-page-test.true, c.free_frames.ensures.few, c.from-2.ensures, c.if-from-pages.false) in
    omega (arith, is, below)

pub loop-page-preserved : goal.loop-page-preserved
loop-page-preserved c =
    let l = c.loop-page in let r = c.begin-ds.result.0 in let i = l.invariant in
    record {
      vacant = i.vacant;
      made = c.extend.ensures.longer ∙ ap (λ (ss : Contents). set ss r (Some (content_of ss r ++ zeros 4096))) i.made
          ∙ zeros_again c.args.self.now.spaces r l._page i.vacant.0;
      paid = omega (arith, i.paid, c.extend.ensures.one_fewer);
    }

pub returns-clause-size : goal.returns-clause-size
returns-clause-size c =
    let l = c.loop-page in let r = c.begin-ds.result.0 in let i = l.invariant in
    ap (λ (ss : Contents). length (content_of ss r)) i.made ∙ ap length (content_set c.args.self.now.spaces r (zeros (4096 * l._page)) i.vacant.0)
    ∙ length-zeros (4096 * l._page)
    ∙ all_pages c.args.n c.round_up.result c.from.result l._page c.requires.0 c.round_up.ensures.value c.from.ensures c.loop-page-test.false
    c.loop-page.auto._page-end
