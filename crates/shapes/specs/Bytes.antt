-- Tables of bytes that show typings, a row a node and a column a label. Assumes nothing.
--     place labels n l              where the byte of the pair (n, l) stands
--     byte_typing nodes labels bs   the typing that has each pair whose byte is 1
use Rattle.std.specs.Prelude.{ℕ, ◌+◌, ◌*◌, ◌&&◌, List, ◌==◌, nat_lt, slice_index}
use Rattle.shapes.specs.Typing.{Typing}

abbrev pub place : ℕ → ℕ → ℕ → ℕ
place labels n l = n * labels + l

abbrev pub byte_typing : ℕ → ℕ → List ℕ → Typing
byte_typing nodes labels bytes n l = (nat_lt n nodes && nat_lt l labels) && slice_index bytes (place labels n l) == 1
