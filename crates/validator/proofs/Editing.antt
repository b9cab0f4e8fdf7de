-- An accepted edit: what it drops is right, and what is left is sound. Assumes nothing.
use Rattle.std.proofs.Common.{◌≡◌, ℕ, Bool, true, ◌↔◌, List, sym, refl, subst}
use Rattle.node_check.specs.Answers.{graph as graph_of}
use Rattle.triple.specs.Arcs.{distinct}
use Rattle.triple.specs.Stores.{Lists}
use Rattle.shapes.specs.Bytes.{byte_typing}
use Rattle.shapes.specs.Leaning.{Reaches}
use Rattle.shapes.specs.Typing.{In}
use Rattle.shapes.proofs.Leaning.{reaches_agree}
use Rattle.ledger.specs.Steps.{Edited}
use Rattle.ledger.proofs.Keeping.{Elsewhere, agree_elsewhere, edit_sound}
use Rattle.shapes.specs.Expr.{Schema}
use Rattle.validate.specs.Promise.{Keeps}
use Rattle.validator.specs.Books.{book}

-- the store and the bytes before, and after
module _ (N C L : ℕ) (A : Lists) (literals : ℕ → Bool) (passes : ℕ → ℕ → Bool) (held : List ℕ)
    (s : ℕ) (N' C' : ℕ) (A' : Lists) (held' : List ℕ) where
  pub edited : (N' ≡ N) × (C' ≡ C) → ((n : ℕ) → distinct (A n) ≡ true) → ((n : ℕ) → distinct (A' n) ≡ true) → Elsewhere A s A'
      → (labels : ℕ) → labels ≡ L → ((n l : ℕ) → In (byte_typing N' labels held') n l ↔ (In (byte_typing N' labels held) n l × ¬ Reaches (graph_of N' A' passes) s n))
      → Edited (book N C A literals passes L held) s (book N' C' A' literals passes L held')
  edited (same_nodes, same_capacity) apart apart' elsewhere labels count dropped =
      let forgot = subst (λ m. (n l : ℕ) → In (byte_typing N' m held') n l ↔ (In (byte_typing N' m held) n l × ¬ Reaches (graph_of N' A' passes) s n)) count dropped in
      record {
        fixed = record { nodes = same_nodes; capacity = same_capacity; literals = refl; passes = refl };
        apart = apart';
        dropped = λ n l.
            let same = reaches_agree (graph_of N A passes) (graph_of N' A' passes) s (agree_elsewhere (graph_of N A passes) (graph_of N' A' passes) s refl apart apart' elsewhere) n in (
              λ h. let left = (forgot n l).0 h in (subst (λ m. In (byte_typing m L held) n l) same_nodes left.0, λ r. left.1 (same.0 r)),
              λ h. (forgot n l).1 (subst (λ m. In (byte_typing m L held) n l) (sym same_nodes) h.0, λ r. h.1 (same.1 r)),
            );
      }

  -- and the edit keeps what is held sound
  pub edit_keeps : (S : Schema) (verdicts : List ℕ) → ((n : ℕ) → distinct (A n) ≡ true) → Elsewhere A s A' → Edited (book N C A literals passes L held) s (book N' C' A' literals passes L held')
      → Keeps (record { schema = S; ledger = book N C A literals passes L held; verdicts = verdicts }) (record { schema = S; ledger = book N' C' A' literals passes L held'; verdicts = verdicts })
  edit_keeps S verdicts apart elsewhere change =
      record { schema = refl; sound = λ σ stratified. edit_sound S σ stratified (book N C A literals passes L held) (book N' C' A' literals passes L held') s verdicts apart elsewhere change }
