-- Typings as tables of bytes. Assumes nothing.
--     typed labels table     the typing that the table of bytes holds, by rows: all labels of node 0, then all of node 1, and so on;
--                            a pair is in it exactly if its byte is there and is 1
use Rattle.std.specs.Prelude.{ℕ, ◌+◌, ◌*◌, ◌&&◌, List, ◌==◌, nat_lt, slice_index}
use Rattle.shapes.specs.Typing.{Typing}

abbrev pub typed : ℕ → List ℕ → Typing
typed labels table n l = nat_lt l labels && slice_index table (n * labels + l) == 1
