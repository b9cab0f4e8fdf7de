use Rattle.std.proofs.Common.{rules, ◌≡◌, ℕ, ◌<◌, false, List, [], length, get_or, replicate, sym, refl, ◌∙◌, arith}
use Rattle.triple.proofs.Changes.{clash, total_none}
use Rattle.chain.specs.declared.cells.Chain.{Chain}
use Rattle.chain.specs.declared.cells.Cell.{Cell}
use Rattle.chain.specs.Links.{arcs_of, on_chain}
use Rattle.chain.proofs.Chains.{bare_at}
use Rattle.chain.proofs.memory.ChainStore.new.Goals as goal

module _ (bare : Chain) (cells : List Cell) (fan : bare.fan ≡ 0) where
  none : (n : ℕ) → arcs_of (replicate 256 bare) cells n ≡ []
  none n = rw (bare_at bare 256 n fan) refl

  off : (n c : ℕ) → on_chain (replicate 256 bare) cells n c ≡ false
  off n c = rw (bare_at bare 256 n fan) refl

pub invariant_of-result : goal.invariant_of-result
invariant_of-result c =
    let cells = replicate 512 c.default-2.result in
    let fan = c.default.ensures.1 in
    let long : length c.from-free.result.items ≡ 512 = c.from-free.ensures.1 in
    let numbered : (k : ℕ) → k < 512 → get_or c.from-free.result.items k 0 ≡ k = λ k h. rw c.from-free.ensures.0 (let at = (c.from_fn-numbers.ensures.items.at k 0 h).2 in search rules) in
    record {
      small = omega arith;
      counted = omega (arith, total_none _ c.min.result (none c.default.result cells fan));
      few = λ n. rw (bare_at c.default.result 256 n fan) (omega arith);
      past = λ n h. bare_at c.default.result 256 n fan;
      apart = λ n. rw (none c.default.result cells fan n) refl;
      within = λ n. rw (none c.default.result cells fan n) refl;
      linked = λ n k h. clash (sym h ∙ off c.default.result cells fan n k);
      own = λ n m k. rw (off c.default.result cells fan n k) refl;
      spare = λ i h. rw (numbered i (omega arith)) (omega arith);
      unused = λ i n h. off c.default.result cells fan n _;
      unlike = λ i j h. sym (numbered i (omega arith)) ∙ h.2 ∙ numbered j (omega arith);
    }

pub returns-clause-empty : goal.returns-clause-empty
returns-clause-empty c = none c.default.result (replicate 512 c.default-2.result) c.default.ensures.1
