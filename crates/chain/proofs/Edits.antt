-- Lists of arcs when one arc is added in front, or replaced. Assumes nothing.
use Rattle.std.proofs.Common.{◌≡◌, ℕ, suc, ◌<◌, Bool, true, false, cond, not, ◌&&◌, ◌||◌, eqb, ltb, List, [], ◌∷◌, length, sym, refl, ap, ◌∙◌, ⊎_elim}
use Rattle.std.proofs.lemmas.Bool.{eq-eqb, eqb-true, and_parts, and_from, or_parts, not-true, not_from_false, cases_Bool, lt-ltb}
use Rattle.triple.specs.Arcs.{Arc, same, has, distinct, inside}
use Rattle.triple.proofs.Changes.{clash, same_refl, first_only}

-- a list of arcs with the arc (p, o) replaced by x
abbrev pub replaced : ℕ → ℕ → Arc → List Arc → List Arc
replaced p o x [] = []
replaced p o x (a ∷ arcs) = cond (same a p o) (x ∷ arcs) (a ∷ replaced p o x arcs)

-- a list of arcs without the arc (p, o), whose place the first arc takes
abbrev pub without : ℕ → ℕ → List Arc → List Arc
without p o [] = []
without p o (a ∷ arcs) = cond (same a p o) arcs (replaced p o a arcs)

pub distinct_parts : (a : Arc) (arcs : List Arc) → distinct (a ∷ arcs) ≡ true → (has a.0 a.1 arcs ≡ false) × (distinct arcs ≡ true)
distinct_parts a arcs h =
    let parts = and_parts (not (has a.0 a.1 arcs)) (distinct arcs) h in (not-true _ parts.0, parts.1)

pub same_via : (y : Arc) (p o a b : ℕ) → same y a b ≡ true → same (p, o) a b ≡ true → same y p o ≡ true
same_via y p o a b e f =
    let ye = and_parts (eqb y.0 a) (eqb y.1 b) e in
    let pe = and_parts (eqb p a) (eqb o b) f in
    and_from _ _ (eq-eqb _ _ (eqb-true _ _ ye.0 ∙ sym (eqb-true _ _ pe.0))) (eq-eqb _ _ (eqb-true _ _ ye.1 ∙ sym (eqb-true _ _ pe.1)))

-- of two arcs that differ, at most one is (a, b)
unlike : (y : Arc) (p o a b : ℕ) → same y p o ≡ false → same y a b ≡ true → same (p, o) a b ≡ false
unlike y p o a b d e =
    ⊎_elim (λ (f : same (p, o) a b ≡ true). clash (sym (same_via y p o a b e f) ∙ d)) (λ (f : same (p, o) a b ≡ false). f) (cases_Bool (same (p, o) a b))

moved : (A X P H : Bool) → (A ≡ true → P ≡ false) → (A || (X || (not P && H))) ≡ (X || (not P && (A || H)))
moved true true P H d = refl
moved true false true H d = clash (d refl)
moved true false false H d = refl
moved false X P H d = refl

pub has_replaced : (p o : ℕ) (x : Arc) (arcs : List Arc) (a b : ℕ) → has p o arcs ≡ true → distinct arcs ≡ true
    → has a b (replaced p o x arcs) ≡ (same x a b || (not (same (p, o) a b) && has a b arcs))
has_replaced p o x [] a b h d = clash (sym h)
has_replaced p o x (y ∷ arcs) a b h d =
    let parts = distinct_parts y arcs d in
    ⊎_elim
    (λ (e : same y p o ≡ true). rw e (ap (λ r. same x a b || r) (first_only y arcs p o a b e parts.0)))
    (λ (e : same y p o ≡ false). let rest : has p o arcs ≡ true = rw e at h in
    let more = has_replaced p o x arcs a b rest parts.1 in
    rw e (ap (λ r. same y a b || r) more ∙ moved (same y a b) (same x a b) (same (p, o) a b) (has a b arcs) (unlike y p o a b e)))
    (cases_Bool (same y p o))

pub distinct_replaced : (p o : ℕ) (x : Arc) (arcs : List Arc) → has p o arcs ≡ true → distinct arcs ≡ true
    → has x.0 x.1 arcs ≡ false → distinct (replaced p o x arcs) ≡ true
distinct_replaced p o x [] h d f = clash (sym h)
distinct_replaced p o x (y ∷ arcs) h d f =
    let parts = distinct_parts y arcs d in
    let fresh = or_parts (same y x.0 x.1) (has x.0 x.1 arcs) f in
    ⊎_elim
    (λ (e : same y p o ≡ true). rw e (and_from _ _ (not_from_false _ fresh.1) parts.1))
    (λ (e : same y p o ≡ false). let rest : has p o arcs ≡ true = rw e at h in
    let apart : same x y.0 y.1 ≡ false = unlike y x.0 x.1 y.0 y.1 fresh.0 (same_refl y) in
    let none : has y.0 y.1 (replaced p o x arcs) ≡ false = has_replaced p o x arcs y.0 y.1 rest parts.1 ∙ rw (apart, parts.0) (neither (same (p, o) y.0 y.1)) in
    rw e (and_from _ _ (not_from_false _ none) (distinct_replaced p o x arcs rest parts.1 fresh.1)))
    (cases_Bool (same y p o))
  where
    neither : (b : Bool) → (false || (not b && false)) ≡ false
    neither true = refl
    neither false = refl

inside_replaced : (n p o : ℕ) (x : Arc) (arcs : List Arc) → (ltb x.0 256 && ltb x.1 n) ≡ true → inside n arcs ≡ true
    → inside n (replaced p o x arcs) ≡ true
inside_replaced n p o x [] i h = refl
inside_replaced n p o x (y ∷ arcs) i h =
    let parts = and_parts (ltb y.0 256 && ltb y.1 n) (inside n arcs) h in
    ⊎_elim
    (λ (e : same y p o ≡ true). rw e (and_from _ _ i parts.1))
    (λ (e : same y p o ≡ false). rw e (and_from _ _ parts.0 (inside_replaced n p o x arcs i parts.1)))
    (cases_Bool (same y p o))

length_replaced : (p o : ℕ) (x : Arc) (arcs : List Arc) → length (replaced p o x arcs) ≡ length arcs
length_replaced p o x [] = refl
length_replaced p o x (y ∷ arcs) =
    ⊎_elim
    (λ (e : same y p o ≡ true). rw e refl)
    (λ (e : same y p o ≡ false). rw e (ap suc (length_replaced p o x arcs)))
    (cases_Bool (same y p o))

pub has_without : (p o : ℕ) (arcs : List Arc) (a b : ℕ) → has p o arcs ≡ true → distinct arcs ≡ true
    → has a b (without p o arcs) ≡ (not (same (p, o) a b) && has a b arcs)
has_without p o [] a b h d = clash (sym h)
has_without p o (y ∷ arcs) a b h d =
    let parts = distinct_parts y arcs d in
    ⊎_elim
    (λ (e : same y p o ≡ true). rw e (first_only y arcs p o a b e parts.0))
    (λ (e : same y p o ≡ false). let rest : has p o arcs ≡ true = rw e at h in
    rw e (has_replaced p o y arcs a b rest parts.1 ∙ moved (same y a b) false (same (p, o) a b) (has a b arcs) (unlike y p o a b e)))
    (cases_Bool (same y p o))

pub distinct_without : (p o : ℕ) (arcs : List Arc) → has p o arcs ≡ true → distinct arcs ≡ true → distinct (without p o arcs) ≡ true
distinct_without p o [] h d = clash (sym h)
distinct_without p o (y ∷ arcs) h d =
    let parts = distinct_parts y arcs d in
    ⊎_elim
    (λ (e : same y p o ≡ true). rw e parts.1)
    (λ (e : same y p o ≡ false). let rest : has p o arcs ≡ true = rw e at h in rw e (distinct_replaced p o y arcs rest parts.1 parts.0))
    (cases_Bool (same y p o))

pub inside_without : (n p o : ℕ) (arcs : List Arc) → inside n arcs ≡ true → inside n (without p o arcs) ≡ true
inside_without n p o [] h = refl
inside_without n p o (y ∷ arcs) h =
    let parts = and_parts (ltb y.0 256 && ltb y.1 n) (inside n arcs) h in
    ⊎_elim
    (λ (e : same y p o ≡ true). rw e parts.1)
    (λ (e : same y p o ≡ false). rw e (inside_replaced n p o y arcs parts.0 parts.1))
    (cases_Bool (same y p o))

pub length_without : (p o : ℕ) (arcs : List Arc) → has p o arcs ≡ true → length arcs ≡ suc (length (without p o arcs))
length_without p o [] h = clash (sym h)
length_without p o (y ∷ arcs) h =
    ⊎_elim
    (λ (e : same y p o ≡ true). rw e refl)
    (λ (e : same y p o ≡ false). rw e (ap suc (sym (length_replaced p o y arcs))))
    (cases_Bool (same y p o))

pub distinct_front : (p o : ℕ) (arcs : List Arc) → has p o arcs ≡ false → distinct arcs ≡ true → distinct ((p, o) ∷ arcs) ≡ true
distinct_front p o arcs h d = and_from _ _ (not_from_false _ h) d

pub inside_front : (n p o : ℕ) (arcs : List Arc) → p < 256 → o < n → inside n arcs ≡ true → inside n ((p, o) ∷ arcs) ≡ true
inside_front n p o arcs i j h = and_from _ _ (and_from _ _ (lt-ltb p 256 i) (lt-ltb o n j)) h
