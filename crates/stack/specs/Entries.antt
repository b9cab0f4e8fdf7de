-- What a stack over lent slots holds, and what push and pop do to it. Assumes nothing.
--     entries slots len       the entries, the newest last
--     has_room slots len      some slot is free
--     pushed ok entries x     the entries after a push that was accepted or refused
--     stored ok slots len x   the slots after it
--     raised ok len           the number of entries after it
--     rejoined r entries      the entries before a pop that gave r and left these
use Rattle.std.specs.Prelude.{ℕ, ◌+◌, Bool, true, false, List, [], ◌∷◌, ◌++◌, length, take, Some, None, Option, nat_lt, slice_set}

-- the first slots, as many as there are entries
abbrev pub entries : {T : Type 0} → List T → ℕ → List T
entries slots len = take len slots

abbrev pub has_room : {T : Type 0} → List T → ℕ → Bool
has_room slots len = nat_lt len (length slots)

-- the new entry comes last; a refused push changes nothing
abbrev pub pushed : {T : Type 0} → Bool → List T → T → List T
pushed true entries x = entries ++ (x ∷ [])
pushed false entries x = entries

-- the new entry takes the first free slot
abbrev pub stored : {T : Type 0} → Bool → List T → ℕ → T → List T
stored true slots len x = slice_set slots len x
stored false slots len x = slots

abbrev pub raised : Bool → ℕ → ℕ
raised true len = len + 1
raised false len = len

-- nothing is given only where there was nothing
abbrev pub rejoined : {T : Type 0} → Option T → List T → List T
rejoined None entries = []
rejoined (Some x) entries = entries ++ (x ∷ [])
