-- The sets of masks of the triple rows, row by row.
use Rattle.std.proofs.Common.{◌≡◌, ℕ, suc, ◌+◌, ◌-◌, ◌^◌, ◌<◌, ◌≤◌, Bool, true, false, ◌&&◌, ltb, ◌⊎◌, ◌↔◌, List, [], length, get_or, Some as SomeMost, None, Option, sym, refl, ◌∙◌, subst, inl, inr, arith, pow_pos}
use Rattle.std.proofs.lemmas.Bool.{leb-true, ltb-true, lt-ltb, and_parts, and_from, cases_eq}
use Rattle.shapes.specs.Expr.{Triple, empty, arc, each, some, times}
use Rattle.shapes.specs.Meaning.{Arcs, Relation, AtMost, Met}
use Rattle.shapes.specs.Typing.{Typing, In}
use Rattle.draft.specs.Refusals.{triple_names, ordered}
use Rattle.draft.specs.declared.rows.TripleRow.{TripleRow}
use Rattle.draft.specs.declared.rows.TripleRow.TheVariants.{Empty, Arc, Each, Some, Times}
use Rattle.masks.specs.Masks.{On, Bit, Splits, Single, Chain}
use Rattle.masks.proofs.Flags.{either, not_on}
use Rattle.hoods.specs.Parts.{kept}
use Rattle.hoods.specs.Words.{with_row, Told, Tells}
use Rattle.hoods.proofs.Kept.{kept_all}
use Rattle.hoods.proofs.Tables.{empty_says, each_says, times_says, one_says}
use Rattle.hoods.proofs.Packing.{row_is, row_was, row_below}

-- a row that may stand at q may stand further on
pub names_more : (s l q p : ℕ) (row : TripleRow) → q ≤ p → triple_names s l q row ≡ true → triple_names s l p row ≡ true
names_more s l q p Empty h e = e
names_more s l q p (Arc x y) h e = e
names_more s l q p (Each x y) h e =
    let t = and_parts (ltb x q) (ltb y q) e in
    and_from _ _ (lt-ltb x p (omega (arith, ltb-true x q t.0))) (lt-ltb y p (omega (arith, ltb-true y q t.1)))
names_more s l q p (Some x y) h e =
    let t = and_parts (ltb x q) (ltb y q) e in
    and_from _ _ (lt-ltb x p (omega (arith, ltb-true x q t.0))) (lt-ltb y p (omega (arith, ltb-true y q t.1)))
names_more s l q p (Times x least most) h e = lt-ltb x p (omega (arith, ltb-true x q e))

at_most_from_ordered : (a least : ℕ) (most : Option ℕ) → ordered (Times a least most) ≡ true → AtMost least most
at_most_from_ordered a least None e = tt
at_most_from_ordered a least (SomeMost m) e = leb-true least m e

-- n is the number of arcs; the words tell of the rows below q, and f says what these stand for
module _ (sets : ℕ → ℕ → Bool) (τ : Typing) (zs : Arcs) (n : ℕ) (len : length zs ≡ n) (f : ℕ → Triple) (q : ℕ) (words : List ℕ) (told : Told sets (In τ) zs f q words) where
  for_length : (R : ℕ → ℕ → Type 0) → ((m : ℕ) → m < 2 ^ n → R n m) → (m : ℕ) → m < 2 ^ length zs → R (length zs) m
  for_length R = subst (λ k. (m : ℕ) → m < 2 ^ k → R k m) (sym len)

  unpacked : (x : ℕ) (a : List Bool) → ltb x q ≡ true → ((m : ℕ) → m < 2 ^ n → On a m ↔ Bit (get_or words m 0) x) → Tells sets (In τ) zs (f x) a
  unpacked x a l u m h = either (for_length (λ k m. On a m ↔ Bit (get_or words m 0) x) u m h) (told x m (ltb-true x q l) h)

  pub tells_empty : (c : List Bool) → ((m : ℕ) → m < 2 ^ n → On c m ↔ (m ≡ 0)) → Tells sets (In τ) zs empty c
  tells_empty c g = empty_says zs c (for_length (λ k m. On c m ↔ (m ≡ 0)) g)

  pub tells_arc : (s l : ℕ) (t c : List Bool) → n ≤ length t
      → ((j : ℕ) → j < n → get_or t j false ≡ (sets s (get_or zs j (0, 0)).0 && τ (get_or zs j (0, 0)).1 l))
      → ((m : ℕ) → m < 2 ^ n → On c m ↔ Single t n m) → Tells sets (In τ) zs (arc s l) c
  tells_arc s l t c d e g m h =
      either (for_length (λ k m. On c m ↔ Single t k m) g m h)
      (either (one_says (λ a. (sets s a.0 ≡ true) × In τ a.1 l) (0, 0) zs t (omega arith) admits m h)
      (λ x. (x.0.0, x.0.1, x.1, x.2.0, x.2.1), λ x. ((x.0, x.1), x.2, (x.3, x.4))))
    where
      admits : (j : ℕ) → j < length zs → On t j ↔ ((sets s (get_or zs j (0, 0)).0 ≡ true) × In τ (get_or zs j (0, 0)).1 l)
      admits j h = let r = e j (omega arith) in (λ o. and_parts _ _ (sym r ∙ o), λ x. r ∙ and_from _ _ x.0 x.1)

  module _ (x y : ℕ) (a b c : List Bool) (names : (ltb x q && ltb y q) ≡ true)
      (left : (m : ℕ) → m < 2 ^ n → On a m ↔ Bit (get_or words m 0) x) (right : (m : ℕ) → m < 2 ^ n → On b m ↔ Bit (get_or words m 0) y) where
    pub tells_each : ((m : ℕ) → m < 2 ^ n → On c m ↔ Splits n a b m) → Tells sets (In τ) zs (each (f x) (f y)) c
    tells_each g =
        let l = and_parts (ltb x q) (ltb y q) names in
        each_says zs a b c (Met sets (In τ) (f x)) (Met sets (In τ) (f y)) (unpacked x a l.0 left) (unpacked y b l.1 right)
        (for_length (λ k m. On c m ↔ Splits k a b m) g)

    pub tells_some : ((m : ℕ) → m < 2 ^ n → On c m ↔ (On a m ⊎ On b m)) → Tells sets (In τ) zs (some (f x) (f y)) c
    tells_some g m h =
        let l = and_parts (ltb x q) (ltb y q) names in
        let p = unpacked x a l.0 left m h in
        let r = unpacked y b l.1 right m h in
        let e = for_length (λ k m. On c m ↔ (On a m ⊎ On b m)) g m h in (
          λ o. elim (e.0 o) [ inl u ↦ inl (p.0 u) | inr u ↦ inr (r.0 u) ],
          λ o. e.1 (elim o [ inl u ↦ inl (p.1 u) | inr u ↦ inr (r.1 u) ]),
        )

  pub tells_times : (x least : ℕ) (most : Option ℕ) (a c : List Bool) → ltb x q ≡ true → ordered (Times x least most) ≡ true
      → ((m : ℕ) → m < 2 ^ n → On a m ↔ Bit (get_or words m 0) x)
      → ((m : ℕ) → m < 2 ^ n → On c m ↔ ((j : ℕ) × AtMost j most × ((least ≤ j) ⊎ On a 0) × Chain a j m))
      → Tells sets (In τ) zs (times (f x) least most) c
  tells_times x least most a c l e u g =
      times_says zs a c (Met sets (In τ) (f x)) least most (at_most_from_ordered x least most e) (unpacked x a l u)
      (for_length (λ k m. On c m ↔ ((j : ℕ) × AtMost j most × ((least ≤ j) ⊎ On a 0) × Chain a j m)) g)

-- the words with the rows below q
module _ (sets : ℕ → ℕ → Bool) (P : Relation) (zs : Arcs) (f : ℕ → Triple) where
  pub record Filled (q : ℕ) (words : List ℕ) : Type 0 where
    pub below : (m : ℕ) → m < 2 ^ length zs → get_or words m 0 < 2 ^ q
    pub told : Told sets P zs f q words

  pub filled_none : (words : List ℕ) → ((m : ℕ) → m < 2 ^ length zs → get_or words m 0 ≡ 0) → Filled 0 words
  filled_none words f = record { below = λ m h. omega (arith, f m h); told = λ p m l h. absurd (omega arith) }

  pub filled_more : (q : ℕ) (words : List ℕ) (c : List Bool) (new : List ℕ) → Filled q words → Tells sets P zs (f q) c
      → ((m : ℕ) → m < 2 ^ length zs → get_or new m 0 ≡ with_row (get_or c m false) q (get_or words m 0)) → Filled (q + 1) new
  filled_more q words c new u t e =
      record {
        below = λ m h.
            (let w : suc q ≡ q + 1 = omega arith in
            subst (λ n. get_or new m 0 < 2 ^ n) w (subst (λ x. x < 2 ^ suc q) (sym (e m h)) (row_below q (get_or words m 0) (u.below m h) (get_or c m false))));
        told = λ p m i h.
            elim (cases_eq p q) [
              | inl w ↦
                  subst (λ p. Bit (get_or new m 0) p ↔ Met sets P (f p) (kept m zs)) (sym w)
                  (subst (λ x. Bit x q ↔ Met sets P (f q) (kept m zs)) (sym (e m h))
                  (either (row_is q (get_or words m 0) (u.below m h) (get_or c m false)) (t m h)))
              | inr d ↦
                  (let w : p < q = omega arith in
                  subst (λ x. Bit x p ↔ Met sets P (f p) (kept m zs)) (sym (e m h))
                  (either (row_was q (get_or words m 0) (u.below m h) (get_or c m false) p w) (u.told p m w h)))
            ];
      }

  pub all_arcs : (q : ℕ) (c : List Bool) → Tells sets P zs (f q) c → On c (2 ^ length zs - 1) ↔ Met sets P (f q) zs
  all_arcs q c t =
      let z = pow_pos (length zs) in
      subst (λ l. On c (2 ^ length zs - 1) ↔ Met sets P (f q) l) (kept_all zs) (t (2 ^ length zs - 1) (omega arith))

  -- a row that nothing meets takes no bits
  pub filled_skip : (q : ℕ) (words : List ℕ) → ((zs : Arcs) → Met sets P (f q) zs → ⊥) → Filled q words → Filled (q + 1) words
  filled_skip q words none u = filled_more q words [] words u (λ m h. (λ o. not_on refl o, λ x. absurd (none _ x))) (λ m h. refl)
