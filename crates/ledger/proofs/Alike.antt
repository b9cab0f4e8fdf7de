-- What ledgers that are alike share: refusals, verdicts, and what leads to what. Assumes nothing.
use Rattle.std.proofs.Common.{◌≡◌, ℕ, zero, suc, ◌+◌, ◌↔◌, List, length, sym, refl, ap, ◌∙◌}
use Rattle.triple.specs.Stores.{Lists, total}
use Rattle.shapes.specs.Expr.{Schema}
use Rattle.shapes.specs.References.{Stratification}
use Rattle.shapes.specs.Lists.{Permuted, none, keep, swap, then}
use Rattle.shapes.specs.Leaning.{Agree, Reached, asked, Reaches}
use Rattle.shapes.proofs.Leaning.{agree_sym, reached_closed, reached_inside, closed_agree, reaches_agree}
use Rattle.shapes.proofs.Locality.{order_free}
use Rattle.shapes.proofs.Strata.{strata_free}
use Rattle.ledger.specs.Ledger.{Ledger, graph, Verdict, add_refusal, withdraw_refusal, pair_refusal}
use Rattle.ledger.specs.Alike.{Alike}
use Rattle.ledger.proofs.Members.{permuted_from_has}

pub alike_sym : (b c : Ledger) → Alike b c → Alike c b
alike_sym b c alike =
    record {
      nodes = sym alike.nodes;
      capacity = sym alike.capacity;
      literals = λ n. sym (alike.literals n);
      passes = λ n t. sym (alike.passes n t);
      apart = λ n. ((alike.apart n).1, (alike.apart n).0);
      triples = λ s p o. sym (alike.triples s p o);
      held = λ n l. sym (alike.held n l);
    }

permuted_length : {A : Type 0} {xs ys : List A} → Permuted xs ys → length xs ≡ length ys
permuted_length none = refl
permuted_length (keep h) = ap suc (permuted_length h)
permuted_length swap = refl
permuted_length (then h g) = permuted_length h ∙ permuted_length g

total_fans : (m : ℕ) (xs ys : Lists) → ((n : ℕ) → length (xs n) ≡ length (ys n)) → total m xs ≡ total m ys
total_fans zero xs ys h = refl
total_fans (suc m) xs ys h = ap (λ k. k + length (xs m)) (total_fans m xs ys h) ∙ ap (λ k. total m ys + k) (h m)

module _ (b c : Ledger) (alike : Alike b c) where
  pub agree : (n : ℕ) → Agree (graph b) (graph c) n
  agree n = (alike.passes n, permuted_from_has (b.arcs n) (c.arcs n) (alike.apart n).0 (alike.apart n).1 (λ p o. sym (alike.triples n p o)))

  fan : (n : ℕ) → length (b.arcs n) ≡ length (c.arcs n)
  fan n = permuted_length (agree n).1

  pub add_same : (s p o : ℕ) → add_refusal b s p o ≡ add_refusal c s p o
  add_same s p o = rw (alike.nodes, alike.capacity, alike.literals s, alike.triples s p o, fan s, total_fans c.nodes b.arcs c.arcs fan) refl

  pub withdraw_same : (s p o : ℕ) → withdraw_refusal b s p o ≡ withdraw_refusal c s p o
  withdraw_same s p o = rw (alike.nodes, alike.triples s p o) refl

  pub pair_same : (S : Schema) (n l : ℕ) → pair_refusal S b n l ≡ pair_refusal S c n l
  pair_same S n l = rw alike.nodes refl

  pub reaches_same : (s n : ℕ) → Reaches (graph b) s n ↔ Reaches (graph c) s n
  reaches_same s n = reaches_agree (graph b) (graph c) s (λ n _. agree n) n

  pub reached_over : (S : Schema) (n l o k : ℕ) → Reached S (graph b) n l o k → Reached S (graph c) n l o k
  reached_over S n l o k r =
      reached_inside S (graph b) (Reached S (graph c) n l)
      (closed_agree S (graph c) (graph b) (Reached S (graph c) n l) (λ o k _. agree_sym (graph b) (graph c) o (agree o)) (reached_closed S (graph c) n l)) asked r

  pub verdict_same : (S : Schema) (σ ρ : ℕ → ℕ) → Stratification S σ → Stratification S ρ → (n l : ℕ) → Verdict S σ b n l ↔ Verdict S ρ c n l
  verdict_same S σ ρ st rt n l =
      let over = order_free S σ st (graph b) (graph c) alike.nodes agree n l in
      let free = strata_free S (graph c) σ ρ st rt n l in
      (λ v. free.0 (over.0 v), λ v. over.1 (free.1 v))
