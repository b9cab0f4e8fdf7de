-- What an answer sheet says of a node. Assumes nothing.
--     yes bytes i                      byte i is there and is 1
--     literal_byte literals node       the node is marked as a literal
--     passes_byte answers tests node test   the node's row of the answers has a yes for the test
use Rattle.std.specs.Prelude.{ℕ, ◌+◌, ◌*◌, Bool, ◌&&◌, List, nat_eq, nat_lt}
use Rattle.values.specs.Table.{holds_at}

abbrev pub yes : List ℕ → ℕ → Bool
yes bytes i = holds_at bytes i (λ byte. nat_eq byte 1)

abbrev pub literal_byte : List ℕ → ℕ → Bool
literal_byte literals node = yes literals node

-- a row holds one byte a test
abbrev pub passes_byte : List ℕ → ℕ → ℕ → ℕ → Bool
passes_byte answers tests node test = nat_lt test tests && yes answers (node * tests + test)
