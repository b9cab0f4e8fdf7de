-- Runs with one more call. Assumes nothing.
use Rattle.std.proofs.Common.{◌≡◌, ℕ, ◌+◌, ◌-◌, ◌<◌, ◌≤◌, List, [], ◌∷◌, ◌++◌, length, get_or, take, drop, set, Ok, Result, sym, ap, ◌∙◌, subst, arith}
use borrow.Rule.Slice.PartMut.{put_mid}
use Rattle.std.proofs.lemmas.List.{append_assoc, append-nil, length-take-le, length-drop, take-append-drop, take_more_set, drop_more, drop-drop, drop_all}
use Rattle.std.proofs.lemmas.Slice.{take-put_mid, drop-put_mid}
use Rattle.std.proofs.lemmas.List.Sums.{sum_by_more, sum_by_more_le}
use Rattle.std.proofs.lemmas.Bool.Decides.{nat_tests}
use Rattle.refusal.specs.Refusals.{Refusal}
use Rattle.shapes.specs.Expr.{Schema}
use Rattle.ledger.specs.Ledger.{Ledger}
use Rattle.ledger.specs.Steps.{SweepStep}
use Rattle.validate.specs.Promise.{State, Under, Keeps}
use Rattle.validate.proofs.Keeping.{under_later}
use Rattle.replay.specs.declared.call.Sweep.{Sweep}
use Rattle.replay.specs.declared.call.Call.{Call}
use Rattle.replay.specs.declared.call.Call.TheVariants as call
use Rattle.replay.specs.declared.call.Answer.{Answer}
use Rattle.replay.specs.declared.call.Answer.TheVariants as answer
use Rattle.replay.specs.Runs.{proposed, lent, all_lent, reply, room_for, Step, sweep, Runs, done, then}

-- the call at i takes its room after the calls before it
pub lent_more : (calls : List Call) (i room : ℕ) (x : Call) → i < length calls → room ≡ lent (get_or calls i x)
    → (all_lent (take (i + 1) calls) ≡ all_lent (take i calls) + room) × (all_lent (take i calls) + room ≤ all_lent calls)
lent_more calls i room x h e = (sum_by_more lent calls i x h ∙ ap (λ n. all_lent (take i calls) + n) (sym e), omega (arith, sum_by_more_le lent calls i x h, e))

pub both_fit : (calls : List Call) (answers bytes : ℕ) → Ok tt ≡ room_for calls answers bytes → (length calls ≤ answers) × (all_lent calls ≤ bytes)
both_fit calls answers bytes e = (grind (arith, nat_tests), grind (arith, nat_tests))

pub drop_later : {X : Type 0} (xs ys : List X) (n m : ℕ) → n ≤ m → drop n xs ≡ drop n ys → drop m xs ≡ drop m ys
drop_later {X} xs ys n m h e =
    let split : m ≡ n + (m - n) = omega arith in
    let back : (zs : List X) → drop m zs ≡ drop (m - n) (drop n zs) = λ zs. ap (λ k. drop k zs) split ∙ sym (drop-drop (m - n) n zs) in
    back xs ∙ ap (drop (m - n)) e ∙ sym (back ys)

module _ (S : Schema) (σ : ℕ → ℕ) where
  pub same_step : {b b' : Ledger} {c d : Call} {a e : Answer} {part part' : List ℕ} → c ≡ d → a ≡ e → Step S σ b d e part part' b' → Step S σ b c a part part' b'
  same_step {b} {b'} {c} {d} {a} {e} {part} {part'} x y h = subst (λ k. Step S σ b k a part part' b') (sym x) (subst (λ k. Step S σ b d k part part' b') (sym y) h)

  pub swept : {b b' : Ledger} {w : Sweep} {r : Result ℕ Refusal} {strata part part' : List ℕ} → strata ≡ proposed w
      → SweepStep S σ b strata part r part' b' → Step S σ b (call.Sweep w) (reply answer.Pairs r) part part' b'
  swept {b} {b'} {w} {r} {strata} {part} {part'} e h = sweep (subst (λ xs. SweepStep S σ b xs part r part' b') e h)

  -- a run from m with the calls from i on is one from b with all of them
  abbrev pub GoesOn : Ledger → List Call → List Answer → List ℕ → List ℕ → ℕ → ℕ → Ledger → Type 0
  GoesOn b calls answers before tables i at m =
      (os : List Answer) (after : List ℕ) (b' : Ledger) → Runs S σ m (drop i calls) os (drop at tables) after b'
      → Runs S σ b calls (take i answers ++ os) before (take at tables ++ after) b'

  pub goes_all : (b : Ledger) (calls : List Call) (answers : List Answer) (before tables : List ℕ) (i at : ℕ) (m : Ledger)
      → i ≡ length calls → GoesOn b calls answers before tables i at m → Runs S σ b calls (take (length calls) answers) before tables m
  goes_all b calls answers before tables i at m h on =
      let none : drop i calls ≡ [] = drop_all i calls (omega (arith, h)) in
      let run = on [] (drop at tables) m (subst (λ cs. Runs S σ m cs [] (drop at tables) (drop at tables) m) (sym none) done) in
      subst (λ ts. Runs S σ b calls (take (length calls) answers) before ts m) (take-append-drop at tables)
      (subst (λ os. Runs S σ b calls os before (take at tables ++ drop at tables) m) (append-nil (take i answers) ∙ ap (λ n. take n answers) h) run)

-- the call at i, whose part of the tables goes from at to end
module _ (calls : List Call) (answers : List Answer) (tables part' : List ℕ) (i at end k : ℕ) (x : Call) (a : Answer)
    (in_calls : i < length calls) (in_answers : i < length answers) (in_tables : end ≤ length tables) (ends : end ≡ at + k)
    (room : k ≡ lent (get_or calls i x)) (kept : length part' ≡ length (take k (drop at tables))) where
  enough : k ≤ length (drop at tables)
  enough = omega (arith, length-drop at tables, ends)

  long : length part' ≡ k
  long = kept ∙ length-take-le k (drop at tables) enough

  pub drop_part : drop end (put_mid at k tables part') ≡ drop end tables
  drop_part = drop-put_mid at k tables part' end (omega (arith, ends)) (omega (arith, ends)) long

  goes_more : (S : Schema) (σ : ℕ → ℕ) (b m m' : Ledger) (before : List ℕ) → Step S σ m (get_or calls i x) a (take k (drop at tables)) part' m'
      → GoesOn S σ b calls answers before tables i at m → GoesOn S σ b calls (set answers i a) before (put_mid at k tables part') (i + 1) end m'
  goes_more S σ b m m' before step on os after b' run =
      let late = subst (λ ts. Runs S σ m' (drop (i + 1) calls) os ts after b') drop_part run in
      let whole : take k (drop at tables) ++ drop end tables ≡ drop at tables = ap (λ n. take k (drop at tables) ++ drop n tables) ends ∙ ap (λ ts. take k (drop at tables) ++ ts) (sym (drop-drop k at tables)) ∙ take-append-drop k (drop at tables) in
      let one = then (length-take-le k (drop at tables) enough ∙ room) step late in
      let here = subst (λ cs. Runs S σ m cs (a ∷ os) (drop at tables) (part' ++ after) b') (sym (drop_more calls i x in_calls)) (subst (λ ts. Runs S σ m (get_or calls i x ∷ drop (i + 1) calls) (a ∷ os) ts (part' ++ after) b') whole one) in
      let answers_same : take i answers ++ (a ∷ os) ≡ take (i + 1) (set answers i a) ++ os = sym (ap (λ z. z ++ os) (take_more_set answers i a in_answers) ∙ append_assoc (take i answers) (a ∷ []) os) in
      let tables_same : take at tables ++ (part' ++ after) ≡ take end (put_mid at k tables part') ++ after = sym (ap (λ z. z ++ after) (take-put_mid at k tables part' end (omega (arith, long, ends)) (omega (arith, ends))) ∙ append_assoc (take at tables) part' after) in
      subst (λ z. Runs S σ b calls z before (take end (put_mid at k tables part') ++ after) b') answers_same
      (subst (λ z. Runs S σ b calls (take i answers ++ (a ∷ os)) before z b') tables_same (on (a ∷ os) (part' ++ after) b' here))

  -- for every stratification
  pub turn : (s m m' : State) (before : List ℕ) → Keeps s m
      → Under m (λ σ. Step m.schema σ m.ledger (get_or calls i x) a (take k (drop at tables)) part' m'.ledger)
      → Under s (λ σ. GoesOn s.schema σ s.ledger calls answers before tables i at m.ledger)
      → Under s (λ σ. GoesOn s.schema σ s.ledger calls (set answers i a) before (put_mid at k tables part') (i + 1) end m'.ledger)
  turn s m m' before kept step on σ stratified sound =
      goes_more s.schema σ s.ledger m.ledger m'.ledger before
      (under_later (λ S ρ. Step S ρ m.ledger (get_or calls i x) a (take k (drop at tables)) part' m'.ledger) s m kept step σ stratified sound) (on σ stratified sound)
