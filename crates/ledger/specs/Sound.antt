-- What makes held verdicts sound. Assumes nothing.
--     typing S b bytes      the typing that a table of bytes shows, a byte for each pair of the ledger's nodes and the schema's labels
--     Sound S σ b bytes     the held pairs are closed under leaning, and the table has the verdict of each
use Rattle.std.specs.Prelude.{ℕ, ◌↔◌, List}
use Rattle.shapes.specs.Bytes.{byte_typing}
use Rattle.shapes.specs.Expr.{Schema}
use Rattle.shapes.specs.Leaning.{Closed}
use Rattle.shapes.specs.Typing.{Typing, In}
use Rattle.ledger.specs.Ledger.{Ledger, graph, Verdict}

abbrev pub typing : Schema → Ledger → List ℕ → Typing
typing S b bytes = byte_typing b.nodes S.labels bytes

pub record Sound (S : Schema) (σ : ℕ → ℕ) (b : Ledger) (bytes : List ℕ) : Type 0 where
  pub closed : Closed S (graph b) (In b.held)
  pub right : (n l : ℕ) → In b.held n l → In (typing S b bytes) n l ↔ Verdict S σ b n l
