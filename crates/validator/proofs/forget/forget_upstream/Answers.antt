use Rattle.std.proofs.Common.{◌≡◌, ◌*◌, ◌≤◌, length, take, ap, ◌∙◌, ⊎_elim, arith}
use Rattle.std.proofs.lemmas.Nat.{mul-le}
use Rattle.std.proofs.lemmas.Bool.{cases_Bool, both_ways}
use Rattle.validator.proofs.Places.{forgot_part, forgot_shown}
use Rattle.validator.proofs.forget.forget_upstream.Goals as goal

pub returns : goal.returns
returns g c passes n l =
    let marks = c.upstream.new.marks in
    let reaches = c.upstream.ensures passes n in
    let N = g.S.Store.nodes c.args.store.now in
    let size : c.from.result * c.args.labels ≡ N * c.args.labels = ap (λ m. m * c.args.labels) (c.from.ensures ∙ c.node_count.ensures) in
    let room : N * c.args.labels ≤ length c.args.held.now = omega (arith, mul-le N c.args.labels 256 32 c.lawful.ensures.small c.requires.few) in
    let forgot = forgot_part (N * c.args.labels) (c.from.result * c.args.labels) c.args.labels marks c.args.held.now _ c.forget_marked.new.held size room (ap (λ m. take m c.args.held.now) size) c.forget_marked.auto.held c.forget_marked.ensures in
    let shown = forgot_shown N c.args.labels marks c.args.held.now _ forgot n l in (
      λ h. ((shown.0 h).0, λ r. both_ways _ (shown.0 h).1 (reaches.1 (c.requires.within, r))),
      λ h. shown.1 (h.0, ⊎_elim (λ e. absurd (h.1 (reaches.0 e).1)) (λ e. e) (cases_Bool _)),
    )
