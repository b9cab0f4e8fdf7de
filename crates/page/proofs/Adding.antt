-- Adds one after another. Assumes nothing.
use Rattle.std.proofs.Common.{◌≡◌, ℕ, zero, suc, ◌+◌, ◌<◌, List, [], ◌∷◌, ◌++◌, length, MatchResult, Ok, Err, Result, sym, refl, ap, ◌∙◌, subst, ⊎_elim, add-zero, suc-add, zero-add, arith}
use Rattle.std.proofs.lemmas.List.{append_assoc, append-nil, length-append, length-map}
use Rattle.std.proofs.lemmas.Bool.{cases_eq}
use Rattle.std.proofs.lemmas.Result.{err_from_is_err_and}
use Rattle.std.specs.Result.{IsErrAnd}
use Rattle.refusal.specs.Refusals.{Refusal}
use Rattle.triple.specs.Stores.{Lists, total}
use Rattle.ledger.specs.Ledger.{Ledger}
use Rattle.ledger.specs.Steps.{AddStep}
use Rattle.validate.specs.Faults as validator
use Rattle.validate.specs.declared.fault.ValidatorFault.{ValidatorFault}
use Rattle.page.specs.declared.fault.Entry.{Entry}
use Rattle.page.specs.Format.{Spo, of_node, triples_of}
use Rattle.page.specs.Loading.{Adds, none, more, Stops, here, later}
use Rattle.page.specs.Reading.{Outcome}

pub adds_append : {b b' b'' : Ledger} {xs ys : List Spo} → Adds b xs b' → Adds b' ys b'' → Adds b (xs ++ ys) b''
adds_append none then = then
adds_append (more step first) then = more step (adds_append first then)

pub stops_after : {b b' b'' : Ledger} {xs ys : List Spo} {k : ℕ} {e : Refusal} → Adds b xs b' → Stops b' ys k e b'' → Stops b (xs ++ ys) (length xs + k) e b''
stops_after {b = b} {b'' = b''} {ys = ys} {k = k} {e = e} none then = subst (λ m. Stops b ys m e b'') (sym (zero-add k)) then
stops_after {b = b} {b'' = b''} {ys = ys} {k = k} {e = e} (more {s = s} {p = p} {o = o} {ts = ts} step first) then =
    subst (λ m. Stops b ((s, p, o) ∷ (ts ++ ys)) m e b'') (sym (suc-add (length ts) k)) (later step (stops_after first then))

pub stops_before : {b b' : Ledger} {xs : List Spo} {k : ℕ} {e : Refusal} (ys : List Spo) → Stops b xs k e b' → Stops b (xs ++ ys) k e b'
stops_before ys (here step) = here step
stops_before ys (later step rest) = later step (stops_before ys rest)

-- a part that stops, after a part that was accepted, stops the whole
pub outcome_after : (b b' b'' : Ledger) (whole xs ys zs : List Spo) (start at : ℕ) (e : Entry) → whole ≡ xs ++ (ys ++ zs) → at ≡ start + length xs
    → Adds b xs b' → Outcome b' ys at b'' (Err e) → Outcome b whole start b'' (Err e)
outcome_after b b' b'' whole xs ys zs start at e split from first then =
    (length xs + then.0, omega (arith, then.1, from), subst (λ (ts : List Spo). Stops b ts (length xs + then.0) (validator.code e.fault) b'') (sym split) (stops_after first (stops_before zs then.2)))

-- one add, whose fault is told with the number of its entry
pub added_or_stopped : (b b' : Ledger) (s p o at : ℕ) (r : Result (Unit {0}) ValidatorFault) (q : Result (Unit {0}) Entry) (P : ValidatorFault → Entry → Type 0)
    → AddStep b s p o (validator.told r) b' → MatchResult r (λ x. q ≡ Ok x) (λ f. IsErrAnd q (P f)) → ((f : ValidatorFault) (e : Entry) → P f e → e ≡ record { at = at; fault = f })
    → Outcome b ((s, p, o) ∷ []) at b' q
added_or_stopped b b' s p o at (Ok x) q P step same told = subst (Outcome b ((s, p, o) ∷ []) at b') (sym same) (more step none)
added_or_stopped b b' s p o at (Err f) q P step same told =
    let e = err_from_is_err_and q same in
    subst (Outcome b ((s, p, o) ∷ []) at b') (sym (e.1 ∙ ap Err (told f e.0 e.2))) (0, sym (add-zero at), here step)

pub length_triples : (n : ℕ) (arcs : Lists) → length (triples_of n arcs) ≡ total n arcs
length_triples zero arcs = refl
length_triples (suc n) arcs =
    let last : length (of_node n (arcs n)) ≡ length (arcs n) = length-map (arcs n) (λ a. (n, a.0, a.1)) in
    length-append (triples_of n arcs) (of_node n (arcs n)) ∙ omega (arith, length_triples n arcs, last)

-- where the triples of the node m stand
pub triples_split : (n m : ℕ) (arcs : Lists) → m < n → (zs : List Spo) × (triples_of n arcs ≡ triples_of m arcs ++ (of_node m (arcs m) ++ zs))
triples_split zero m arcs h = let z : ⊥ = omega arith in elim z [ ]
triples_split (suc n) m arcs h =
    ⊎_elim
    (λ (e : m ≡ n). ([], subst (λ k. triples_of n arcs ++ of_node n (arcs n) ≡ triples_of k arcs ++ (of_node k (arcs k) ++ [])) (sym e) (ap (λ z. triples_of n arcs ++ z) (sym (append-nil (of_node n (arcs n)))))))
    (λ (d : m ≡ n → ⊥). let below = triples_split n m arcs (omega arith) in (
      below.0 ++ of_node n (arcs n),
      ap (λ z. z ++ of_node n (arcs n)) below.1
          ∙ append_assoc (triples_of m arcs) (of_node m (arcs m) ++ below.0) (of_node n (arcs n))
          ∙ ap (λ z. triples_of m arcs ++ z) (append_assoc (of_node m (arcs m)) below.0 (of_node n (arcs n))),
    ))
    (cases_eq m n)
