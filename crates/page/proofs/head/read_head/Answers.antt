use Rattle.std.proofs.Common.{◌≡◌, ◌+◌, ◌-◌, ◌*◌, ◌≤◌, length, take, drop, sym, ap, ◌∙◌, arith}
use native.Mathlib.Nat.{sub-zero}
use Rattle.std.proofs.lemmas.List.{take_rest, length-drop}
use Rattle.std.proofs.lemmas.Bool.{ltb-false}
use Rattle.std.proofs.lemmas.Result.{err_from_is_err_and}
use Rattle.page.specs.Loading.{count_of}
use Rattle.page.proofs.Checks.{read_count, head_bytes, wide_refused, length_refused, page_passed}
use Rattle.page.proofs.head.read_head.Goals as goal

pub returns-in_err-total : goal.returns-in_err-total
returns-in_err-total c =
    let n = c.args.nodes in
    let bytes = c.args.page.now in
    let long : 2 + n ≤ length bytes = omega (arith, ltb-false, c.in-len2-up, ap length (take_rest bytes 2), length-drop 2 bytes) in
    let count : count_of bytes ≡ n = read_count _ _ _ n c.from_le_bytes-count.ensures c.if-count-nodes.false in
    let fans = rw c.from-fans.ensures at (simp (sub-zero, take_rest) at c.in_err-total.ensures.answer) in
    let p = err_from_is_err_and c.from_residual.result c.from_residual.ensures.1 in
    rw (p.1, p.2) (record { answer = sym (wide_refused n bytes long count _ (sym fans)); made = tt })

pub returns-then-rest-fans-2 : goal.returns-then-rest-fans-2
returns-then-rest-fans-2 c =
    let n = c.args.nodes in
    let bytes = c.args.page.now in
    let rest : length (take (length bytes - 2) (drop 2 bytes)) ≡ length bytes - 2 = ap length (take_rest bytes 2) ∙ length-drop 2 bytes in
    let long : 2 + n ≤ length bytes = omega (arith, ltb-false, c.in-len2-up, rest) in
    let count : count_of bytes ≡ n = read_count _ _ _ n c.from_le_bytes-count.ensures c.if-count-nodes.false in
    let fans = rw c.from-fans.ensures at (simp (sub-zero, take_rest) at c.in_ok-total.ensures.answer) in
    record { answer = sym (length_refused n bytes long count _ (sym fans) (λ e. c.if-rest-fans-2.true (omega (arith, rest, e)))); made = tt }

pub returns : goal.returns
returns c =
    let n = c.args.nodes in
    let bytes = c.args.page.now in
    let rest : length (take (length bytes - 2) (drop 2 bytes)) ≡ length bytes - 2 = ap length (take_rest bytes 2) ∙ length-drop 2 bytes in
    let long : 2 + n ≤ length bytes = omega (arith, ltb-false, c.in-len2-up, rest) in
    let count : count_of bytes ≡ n = read_count _ _ _ n c.from_le_bytes-count.ensures c.if-count-nodes.false in
    let fans = rw c.from-fans.ensures at (simp (sub-zero, take_rest) at c.in_ok-total.ensures.answer) in
    let size : length bytes ≡ 2 + n + 2 * c.in_ok-total.total = omega (arith, rest, c.if-rest-fans-2.false) in
    record {
      answer = sym (page_passed n bytes long count _ (sym fans) size);
      made = record { count = head_bytes n bytes (omega (arith, long)) (omega (arith, c.type_inv.page 0)) count; size = size };
    }
