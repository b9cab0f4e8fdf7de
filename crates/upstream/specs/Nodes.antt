-- Sets of nodes. Assumes nothing.
--     word s n       the word that has the bit of the node n
--     Has s n        the node n is in the set s: its bit is 1
--     unfilled s     what the words of s lack to be full; each node that joins makes it smaller
use Rattle.std.specs.Prelude.{◌≡◌, ℕ, ◌-◌, ◌/◌, ◌%◌, ◌^◌, slice_index, sum_by}
use Rattle.std.specs.Int.{bit_at}
use Rattle.upstream.specs.declared.node_set.NodeSet.{NodeSet}

abbrev pub word : NodeSet → ℕ → ℕ
word s n = slice_index s.words (n / 64)

abbrev pub Has : NodeSet → ℕ → Type 0
Has s n = bit_at (word s n) (n % 64) ≡ 1

abbrev pub unfilled : NodeSet → ℕ
unfilled s = sum_by (λ w. 2 ^ 64 - w) s.words
