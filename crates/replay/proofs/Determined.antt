-- That what the ledger answers rests on the calls alone. Assumes nothing.
use Rattle.std.proofs.Common.{◌≡◌, ℕ, List, take, drop, sym, refl, ap, ◌∙◌, subst}
use Rattle.std.proofs.lemmas.List.{take_at, drop_at}
use Rattle.shapes.specs.Expr.{Schema}
use Rattle.shapes.specs.References.{Stratification}
use Rattle.ledger.specs.Ledger.{Ledger}
use Rattle.ledger.specs.Steps.{SweepStep}
use Rattle.ledger.specs.Alike.{Alike}
use Rattle.ledger.proofs.Determined.{add_determined, withdraw_determined, look_determined, held_determined, sweep_determined}
use Rattle.replay.specs.declared.call.Call.{Call}
use Rattle.replay.specs.declared.call.Call.TheVariants as call
use Rattle.replay.specs.declared.call.Answer.{Answer}
use Rattle.replay.specs.declared.call.Answer.TheVariants as answer
use Rattle.replay.specs.Runs.{lent, reply, proposed, Step, add, withdraw, look, held, sweep, Runs, done, then}
use Rattle.replay.specs.Determined.{Steady, Determined}

module _ (S : Schema) (σ ρ : ℕ → ℕ) (st : Stratification S σ) (rt : Stratification S ρ) where
  one_step : (b c : Ledger) → Alike b c → (k : Call) {a d : Answer} {part part' t u : List ℕ} {b' c' : Ledger} → part ≡ part'
      → Step S σ b k a part t b' → Step S ρ c k d part' u c' → (a ≡ d) × (t ≡ u) × Alike b' c'
  one_step b c alike (call.Add t) e (add x) (add y) =
      let same = add_determined b c alike x y in (ap (reply (λ _. answer.Accepted)) same.0, e, same.1)
  one_step b c alike (call.Withdraw t) e (withdraw x) (withdraw y) =
      let same = withdraw_determined b c alike x y in (ap (reply (λ _. answer.Accepted)) same.0, e, same.1)
  one_step b c alike (call.Look n l) e (look x) (look y) =
      let same = look_determined b c alike S σ ρ st rt x y in (ap (reply answer.Verdict) same.0, e, same.1)
  one_step b c alike (call.Held n l) e (held x) (held y) =
      (ap (reply answer.Held) (held_determined b c alike S σ ρ st rt x y), e, alike)
  one_step b c alike (call.Sweep w) {u = u} {c' = c'} e (sweep x) (sweep {r = q} y) =
      let same = sweep_determined b c alike S σ ρ st rt x (subst (λ p. SweepStep S ρ c (proposed w) p q u c') (sym e) y) in
      (ap (reply answer.Pairs) same.0, same.1, same.2)

  runs : (b c : Ledger) → Alike b c → {calls : List Call} {os qs : List Answer} {tables tables' t u : List ℕ} {b' c' : Ledger} → tables ≡ tables'
      → Runs S σ b calls os tables t b' → Runs S ρ c calls qs tables' u c' → (os ≡ qs) × (t ≡ u) × Alike b' c'
  runs b c alike e done done = (refl, e, alike)
  runs b c alike e (then {m = m} {c = k} {part = part} {rest = rest} long x xs) (then {m = n} {part = part'} {rest = rest'} long' y ys) =
      let parts : part ≡ part' = sym (take_at part rest (lent k) long) ∙ ap (take (lent k)) e ∙ take_at part' rest' (lent k) long' in
      let rests : rest ≡ rest' = sym (drop_at part rest (lent k) long) ∙ ap (drop (lent k)) e ∙ drop_at part' rest' (lent k) long' in
      let here = one_step b c alike k parts x y in
      let later = runs m n here.2 rests xs ys in
      (cc (here.0, later.0), cc (here.1, later.1), later.2)

pub steady : Steady
steady S σ ρ st rt b c alike k a d part t u b' c' x y = one_step S σ ρ st rt b c alike k refl x y

pub determined : Determined
determined S σ ρ st rt b c alike calls os qs tables t u b' c' x y = runs S σ ρ st rt b c alike refl x y
