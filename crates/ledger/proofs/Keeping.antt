-- That each step keeps held verdicts sound. Assumes nothing.
use Rattle.std.proofs.Common.{◌≡◌, ℕ, true, ◌↔◌, List, sym, refl, ap, ◌∙◌, subst}
use Rattle.std.proofs.lemmas.Bool.{ne_eqb}
use Rattle.triple.specs.Arcs.{distinct}
use Rattle.triple.specs.Stores.{Lists, present, Added, Removed}
use Rattle.shapes.specs.Expr.{Schema}
use Rattle.shapes.specs.References.{Stratification}
use Rattle.shapes.specs.Leaning.{Reaches, there, Agree}
use Rattle.shapes.specs.Typing.{Graph, In}
use Rattle.shapes.proofs.Leaning.{closed_away, closed_agree}
use Rattle.shapes.proofs.Locality.{edit_local}
use Rattle.ledger.specs.Ledger.{Ledger, graph, Verdict}
use Rattle.ledger.specs.Steps.{Edited}
use Rattle.ledger.specs.Sound.{typing, Sound}
use Rattle.ledger.proofs.Members.{permuted_from_has}

-- no list but that of s has other arcs
abbrev pub Elsewhere : Lists → ℕ → Lists → Type 0
Elsewhere before s after = (n p o : ℕ) → (n ≡ s → ⊥) → present after n p o ≡ present before n p o

pub added_elsewhere : (before : Lists) (s p o : ℕ) (after : Lists) → Added before s p o after → Elsewhere before s after
added_elsewhere before s p o after h n a b d = h n a b ∙ rw (ne_eqb n s d) refl

pub removed_elsewhere : (before : Lists) (s p o : ℕ) (after : Lists) → Removed before s p o after → Elsewhere before s after
removed_elsewhere before s p o after h n a b d = h n a b ∙ rw (ne_eqb n s d) refl

-- graphs with the same tests, whose lists have the same arcs but at s
pub agree_elsewhere : (G H : Graph) (s : ℕ) → G.passes ≡ H.passes
    → ((n : ℕ) → distinct (G.arcs n) ≡ true) → ((n : ℕ) → distinct (H.arcs n) ≡ true) → Elsewhere G.arcs s H.arcs
    → (n : ℕ) → ¬ (n ≡ s) → Agree G H n
agree_elsewhere G H s passes apart apart' elsewhere n d =
    (λ t. ap (λ f. f n t) passes, permuted_from_has (G.arcs n) (H.arcs n) (apart n) (apart' n) (λ p o. elsewhere n p o d))

-- an edit at s
module _ (S : Schema) (σ : ℕ → ℕ) (stratified : Stratification S σ) (b b' : Ledger) (s : ℕ) (bytes : List ℕ)
    (apart : (n : ℕ) → distinct (b.arcs n) ≡ true) (elsewhere : Elsewhere b.arcs s b'.arcs) (edited : Edited b s b') where
  agrees : (n : ℕ) → ¬ (n ≡ s) → Agree (graph b) (graph b') n
  agrees = agree_elsewhere (graph b) (graph b') s (sym edited.fixed.passes) apart edited.apart elsewhere

  away : (n : ℕ) → ¬ Reaches (graph b) s n → Agree (graph b) (graph b') n
  away n h = agrees n (λ e. h (subst (Reaches (graph b) s) (sym e) there))

  pub edit_sound : Sound S σ b bytes → Sound S σ b' bytes
  edit_sound sound =
      let left : (n l : ℕ) → In b.held n l × ¬ Reaches (graph b) s n → Agree (graph b) (graph b') n = λ n l h. away n h.1 in
      let closed = closed_agree S (graph b) (graph b') (λ n l. In b.held n l × ¬ Reaches (graph b) s n) left (closed_away S (graph b) (In b.held) s sound.closed) in
      record {
        closed = λ n l o k h leans. (edited.dropped o k).1 (closed n l o k ((edited.dropped n l).0 h) leans);
        right = λ n l h.
            let was = (edited.dropped n l).0 h in
            let same = edit_local S σ stratified (graph b) (graph b') (sym edited.fixed.nodes) s agrees n l was.1 in
            let shown : In (typing S b bytes) n l ↔ Verdict S σ b n l = sound.right n l was.0 in (
              λ e. same.0 (shown.0 (subst (λ m. In (typing S (record { nodes = m; capacity = b.capacity; literals = b.literals; passes = b.passes; arcs = b.arcs; held = b.held }) bytes) n l) edited.fixed.nodes e)),
              λ v. subst (λ m. In (typing S (record { nodes = m; capacity = b.capacity; literals = b.literals; passes = b.passes; arcs = b.arcs; held = b.held }) bytes) n l) (sym edited.fixed.nodes) (shown.1 (same.1 v)),
            );
      }
