-- From what the parts of a load do to what a load does. Assumes nothing.
use Rattle.std.proofs.Common.{◌≡◌, ℕ, ◌+◌, List, length, take, drop, Some, None, Ok, Err, sum, refl, sym, ap, ◌∙◌, subst, zero-add, arith}
use Rattle.std.proofs.lemmas.List.{length-take-le, length-drop, drop-drop, take_all}
use Rattle.refusal.specs.declared.Layer.TheVariants.{Page}
use Rattle.triple.specs.Stores.{total}
use Rattle.ledger.specs.Ledger.{Ledger}
use Rattle.validate.specs.Faults as validator
use Rattle.page.specs.declared.fault.Entry.{Entry}
use Rattle.page.specs.Faults.{Told, entry}
use Rattle.page.specs.Format.{page_of, triples_of}
use Rattle.page.specs.Loading.{page_refusal, answered, fan_bytes, Adds, Stops, Loads, refused, stopped, loaded}
use Rattle.page.specs.Reading.{rows, Whole, Outcome}
use Rattle.page.proofs.Checks.{answered_err, answered_ok}
use Rattle.page.proofs.Rows.{rows_page, rows_total, page_parts}

pub refused_loads : (b : Ledger) (n s : ℕ) (bytes : List ℕ) (e : Told) → n ≡ b.nodes → Err e ≡ answered (page_refusal n bytes) s → Loads b bytes (Err e) b
refused_loads b n s bytes e same h = refused (subst (λ m. page_refusal m bytes ≡ Some e) same (answered_err _ s e h))

-- the parts of a page, cut off one after another
pub parts_cut : (bytes rest fans arcs ps os : List ℕ) (n k t : ℕ) → rest ≡ drop 2 bytes → k ≡ n → fans ≡ take k rest → arcs ≡ drop k rest → ps ≡ take t arcs → os ≡ drop t arcs
    → (fans ≡ fan_bytes n bytes) × (ps ≡ take t (drop (2 + n) bytes)) × (os ≡ drop (2 + n + t) bytes)
parts_cut bytes rest fans arcs ps os n k t er ek ef ea ep eo =
    let behind : arcs ≡ drop (2 + n) bytes = ea ∙ rw (er, ek) (drop-drop n 2 bytes) in
    (ef ∙ rw (er, ek) refl, ep ∙ ap (take t) behind, eo ∙ ap (drop t) behind ∙ drop-drop t (2 + n) bytes)

-- a page that passed its checks, and its parts
module _ (b : Ledger) (n t : ℕ) (bytes fans ps os : List ℕ) (same : n ≡ b.nodes) (passed : Ok t ≡ answered (page_refusal n bytes) (sum (fan_bytes n bytes))) (whole : Whole n t bytes)
    (ef : fans ≡ fan_bytes n bytes) (ep : ps ≡ take t (drop (2 + n) bytes)) (eo : os ≡ drop (2 + n + t) bytes) where
  fans_long : length fans ≡ n
  fans_long = ap length ef ∙ length-take-le n (drop 2 bytes) (simp length-drop (omega (arith, whole.size)))

  pub counted : t ≡ sum fans
  counted = (answered_ok _ _ t passed).1 ∙ ap sum (sym ef)

  pub properties_long : length ps ≡ sum fans
  properties_long = ap length ep ∙ length-take-le t (drop (2 + n) bytes) (simp length-drop (omega (arith, whole.size))) ∙ counted

  pub objects_long : length os ≡ sum fans
  objects_long = ap length eo ∙ length-drop (2 + n + t) bytes ∙ omega (arith, whole.size, counted)

  pub passes : page_refusal b.nodes bytes ≡ None
  passes = subst (λ m. page_refusal m bytes ≡ None) same (answered_ok _ _ t passed).0

  is_page : bytes ≡ page_of b.nodes (rows fans ps os)
  is_page =
      let parts = page_parts n t bytes whole in
      let read = rows_page fans ps os properties_long objects_long n fans_long in
      let ours : bytes ≡ page_of n (rows fans ps os) = cc in
      subst (λ m. bytes ≡ page_of m (rows fans ps os)) same ours

  whole_count : t ≡ total b.nodes (rows fans ps os)
  whole_count =
      let all : sum (take n fans) ≡ sum fans = ap sum (take_all n fans (omega (arith, fans_long))) in
      subst (λ m. t ≡ total m (rows fans ps os)) same (counted ∙ sym all ∙ sym (rows_total fans ps os properties_long objects_long n (omega (arith, fans_long))))

  pub adds_load : (b' : Ledger) → Adds b (triples_of (length fans) (rows fans ps os)) b' → Loads b bytes (Ok t) b'
  adds_load b' done =
      subst (λ k. Loads b bytes (Ok k) b') (sym whole_count)
      (loaded (rows fans ps os) passes is_page (subst (λ m. Adds b (triples_of m (rows fans ps os)) b') (fans_long ∙ same) done))

  pub stops_load : (b' : Ledger) (f : Entry) → Outcome b (triples_of (length fans) (rows fans ps os)) 0 b' (Err f) → Loads b bytes (Err ((Page, 22), entry f.at (validator.code f.fault))) b'
  stops_load b' f stop =
      let at : f.at ≡ stop.0 = stop.1 ∙ zero-add stop.0 in
      subst (λ k. Loads b bytes (Err ((Page, 22), entry k (validator.code f.fault))) b') (sym at)
      (stopped (rows fans ps os) passes is_page (subst (λ m. Stops b (triples_of m (rows fans ps os)) stop.0 (validator.code f.fault) b') (fans_long ∙ same) stop.2))
