-- What the check of one node finds. Assumes nothing.
--     has_label found l           whether the label l is among those found
--     Checked S G bytes n found   exactly the labels whose definitions n satisfies, under the typing that the bytes show, are found
use Rattle.std.specs.Prelude.{ℕ, ◌<◌, Bool, false, List, Decides, slice_index_or}
use Rattle.shapes.specs.Bytes.{byte_typing}
use Rattle.shapes.specs.Expr.{Schema}
use Rattle.shapes.specs.Typing.{Graph, In, Satisfied}

abbrev pub has_label : List Bool → ℕ → Bool
has_label found l = slice_index_or found l false

abbrev pub Checked : Schema → Graph → List ℕ → ℕ → List Bool → Type 0
Checked S G bytes n found =
    (l : ℕ) → n < G.nodes → l < S.labels → Decides (has_label found l) (Satisfied S G (In (byte_typing G.nodes S.labels bytes)) n l)
