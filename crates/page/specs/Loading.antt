-- What a load does. Assumes nothing.
--     count_of bytes        the node count that a page opens with
--     fan_bytes n bytes     the bytes that stand for the fans of n nodes
--     wide fans             the lowest place of a fan above 12, or past the end where there is none
--     page_refusal          how a page is refused before the first add, if it is
--     Adds b ts b'          the adds of the triples ts were accepted, one by one, and led from the ledger b to b'
--     Stops b ts k e b'     the first k adds of ts were accepted, and the next, which is entry k, was refused with e
--     Loads b bytes r b'    the answer to a load of a page, and the ledger after it
--     Restores b bytes r b' a page of lawful lists that fit, none of them a literal's, is restored into a ledger without triples
use Rattle.std.specs.Prelude.{◌≡◌, ℕ, suc, ◌+◌, ◌*◌, true, cond, not, List, [], ◌∷◌, length, take, drop, Some, None, Ok, Err, sum, Option, Result, ◌==◌, nat_lt, slice_index}
use Rattle.refusal.specs.declared.Layer.TheVariants.{Page}
use Rattle.refusal.specs.Refusals.{Refusal, first}
use Rattle.triple.specs.Stores.{Lists, present, total, Lawful}
use Rattle.ledger.specs.Ledger.{Ledger}
use Rattle.ledger.specs.Steps.{AddStep}
use Rattle.page.specs.Faults.{Told, nothing, node, entry}
use Rattle.page.specs.Format.{Spo, page_of, triples_of}

abbrev pub count_of : List ℕ → ℕ
count_of bytes = slice_index bytes 0 + 256 * slice_index bytes 1

abbrev pub fan_bytes : ℕ → List ℕ → List ℕ
fan_bytes n bytes = take n (drop 2 bytes)

abbrev pub wide : List ℕ → ℕ
wide [] = 0
wide (f ∷ fans) = cond (nat_lt 12 f) 0 (suc (wide fans))

-- how fans are refused, if they are
abbrev pub fan_refusal : List ℕ → Option Told
fan_refusal fans = first ((nat_lt (wide fans) (length fans), ((Page, 20), node (wide fans))) ∷ [])

-- the answer of a check
abbrev pub answered : Option Told → ℕ → Result ℕ Told
answered None t = Ok t
answered (Some e) t = Err e

abbrev pub page_refusal : ℕ → List ℕ → Option Told
page_refusal n bytes =
    first ((nat_lt (length bytes) (2 + n), ((Page, 18), nothing))
    ∷ (not (count_of bytes == n), ((Page, 19), nothing))
    ∷ (nat_lt (wide (fan_bytes n bytes)) n, ((Page, 20), node (wide (fan_bytes n bytes))))
    ∷ (not (length bytes == 2 + n + 2 * sum (fan_bytes n bytes)), ((Page, 21), nothing))
    ∷ [])

pub data Adds : Ledger → List Spo → Ledger → Type 0 where
  none : {b : Ledger} → Adds b [] b
  more : {b b' b'' : Ledger} {s p o : ℕ} {ts : List Spo}
      → AddStep b s p o (Ok tt) b' → Adds b' ts b'' → Adds b ((s, p, o) ∷ ts) b''

pub data Stops : Ledger → List Spo → ℕ → Refusal → Ledger → Type 0 where
  here : {b b' : Ledger} {s p o : ℕ} {ts : List Spo} {e : Refusal}
      → AddStep b s p o (Err e) b' → Stops b ((s, p, o) ∷ ts) 0 e b'
  later : {b b' b'' : Ledger} {s p o k : ℕ} {ts : List Spo} {e : Refusal}
      → AddStep b s p o (Ok tt) b' → Stops b' ts k e b'' → Stops b ((s, p, o) ∷ ts) (suc k) e b''

pub data Loads (b : Ledger) (bytes : List ℕ) : Result ℕ Told → Ledger → Type 0 where
  refused : {e : Told} → page_refusal b.nodes bytes ≡ Some e → Loads b bytes (Err e) b
  stopped : {k : ℕ} {e : Refusal} {b' : Ledger} (arcs : Lists) → page_refusal b.nodes bytes ≡ None → bytes ≡ page_of b.nodes arcs
      → Stops b (triples_of b.nodes arcs) k e b' → Loads b bytes (Err ((Page, 22), entry k e)) b'
  loaded : {b' : Ledger} (arcs : Lists) → page_refusal b.nodes bytes ≡ None → bytes ≡ page_of b.nodes arcs
      → Adds b (triples_of b.nodes arcs) b' → Loads b bytes (Ok (total b.nodes arcs)) b'

abbrev pub Restores : Ledger → List ℕ → Result ℕ Told → Ledger → Type 0
Restores b bytes r b' =
    (arcs : Lists) → bytes ≡ page_of b.nodes arcs → Lawful b.nodes b.capacity arcs
    → ((n : ℕ) → b.arcs n ≡ []) → ((n : ℕ) → b.literals n ≡ true → arcs n ≡ [])
    → (r ≡ Ok (total b.nodes arcs)) × ((s p o : ℕ) → present b'.arcs s p o ≡ present arcs s p o)
