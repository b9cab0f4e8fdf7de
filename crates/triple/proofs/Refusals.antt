-- A triple that leads from or to no node. Assumes nothing.
use Rattle.std.proofs.Common.{◌≡◌, ℕ, ◌<◌, true, false, Some, None, leb, sym, ⊎_elim}
use Rattle.std.proofs.lemmas.Bool.{cases_Bool, leb-false}
use Rattle.refusal.specs.Refusals.{Refusal}
use Rattle.triple.specs.Stores.{Lists, node_refusal, put_refusal, take_refusal}

some_none : (r : Refusal) → None ≡ Some r → ⊥
some_none r e = cc

module _ (nodes s o : ℕ) where
  pub nodes_below : None ≡ node_refusal nodes s o → (s < nodes) × (o < nodes)
  nodes_below e =
      ⊎_elim
      (λ (h : leb nodes s ≡ true). absurd (some_none _ (rw h at e)))
      (λ (h : leb nodes s ≡ false). ⊎_elim (λ (k : leb nodes o ≡ true). absurd (some_none _ (rw (h, k) at e))) (λ (k : leb nodes o ≡ false). (leb-false _ _ h, leb-false _ _ k)) (cases_Bool (leb nodes o)))
      (cases_Bool (leb nodes s))

  -- a put and a take refuse such a triple first
  module _ (capacity : ℕ) (arcs : Lists) (p : ℕ) (r : Refusal) where
    pub put_at_nodes : Some r ≡ node_refusal nodes s o → Some r ≡ put_refusal nodes capacity arcs s p o
    put_at_nodes e =
        ⊎_elim
        (λ (h : leb nodes s ≡ true). rw h (rw h at e))
        (λ (h : leb nodes s ≡ false). ⊎_elim (λ (k : leb nodes o ≡ true). rw (h, k) (rw (h, k) at e)) (λ (k : leb nodes o ≡ false). absurd (some_none r (sym (rw (h, k) at e)))) (cases_Bool (leb nodes o)))
        (cases_Bool (leb nodes s))

    pub take_at_nodes : Some r ≡ node_refusal nodes s o → Some r ≡ take_refusal nodes arcs s p o
    take_at_nodes e =
        ⊎_elim
        (λ (h : leb nodes s ≡ true). rw h (rw h at e))
        (λ (h : leb nodes s ≡ false). ⊎_elim (λ (k : leb nodes o ≡ true). rw (h, k) (rw (h, k) at e)) (λ (k : leb nodes o ≡ false). absurd (some_none r (sym (rw (h, k) at e)))) (cases_Bool (leb nodes o)))
        (cases_Bool (leb nodes s))
