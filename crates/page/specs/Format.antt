-- The graph page of a store: node count, fans, properties, objects. Assumes nothing.
--     fans_of n arcs            the fans of the nodes below n, in their order
--     arcs_of n arcs            the arcs of the nodes below n, by subject
--     triples_of n arcs         the triples of the nodes below n, by subject
--     page_of n arcs            the bytes of the page of a store with n nodes and these lists
--     over buffer bytes         the buffer once the bytes are written at its start; later bytes stay
--     save_answer, save_after   the answer of a save and the buffer after it; a buffer that is too short stays as it is
use Rattle.std.specs.Prelude.{ℕ, zero, suc, ◌/◌, ◌%◌, cond, List, [], ◌∷◌, ◌++◌, map, length, drop, Ok, Err, Result, nat_lt}
use Rattle.refusal.specs.declared.Layer.TheVariants.{Page}
use Rattle.triple.specs.Arcs.{Arc}
use Rattle.triple.specs.Stores.{Lists}
use Rattle.page.specs.Faults.{Told, nothing}

abbrev pub Spo : Type 0
Spo = ℕ × ℕ × ℕ

abbrev pub fans_of : ℕ → Lists → List ℕ
fans_of zero arcs = []
fans_of (suc n) arcs = fans_of n arcs ++ length (arcs n) ∷ []

abbrev pub arcs_of : ℕ → Lists → List Arc
arcs_of zero arcs = []
arcs_of (suc n) arcs = arcs_of n arcs ++ arcs n

-- the triples of the node s with these arcs
abbrev pub of_node : ℕ → List Arc → List Spo
of_node s arcs = map (λ a. (s, a.0, a.1)) arcs

abbrev pub triples_of : ℕ → Lists → List Spo
triples_of zero arcs = []
triples_of (suc n) arcs = triples_of n arcs ++ of_node n (arcs n)

abbrev pub properties_of : List Arc → List ℕ
properties_of arcs = map (λ a. a.0) arcs

abbrev pub objects_of : List Arc → List ℕ
objects_of arcs = map (λ a. a.1) arcs

abbrev pub page_of : ℕ → Lists → List ℕ
page_of n arcs = n % 256 ∷ n / 256 ∷ (fans_of n arcs ++ (properties_of (arcs_of n arcs) ++ objects_of (arcs_of n arcs)))

abbrev pub over : List ℕ → List ℕ → List ℕ
over buffer bytes = bytes ++ drop (length bytes) buffer

abbrev pub save_answer : List ℕ → ℕ → Lists → Result ℕ Told
save_answer buffer n arcs = cond (nat_lt (length buffer) (length (page_of n arcs))) (Err ((Page, 23), nothing)) (Ok (length (page_of n arcs)))

abbrev pub save_after : List ℕ → ℕ → Lists → List ℕ
save_after buffer n arcs = cond (nat_lt (length buffer) (length (page_of n arcs))) buffer (over buffer (page_of n arcs))
