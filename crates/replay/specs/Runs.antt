-- What a list of calls does to the ledger, and what it answers. Assumes nothing.
--     proposed w         the strata that a sweep proposes
--     lent c             how many bytes of table a call is lent; all_lent, those of a list of calls together
--     room_for cs n m    whether n answers and m bytes of table are enough for a list of calls, or else what is short
--     reply f r          the answer r of the ledger as a value: f of what it gives, or the layer and the number of its refusal
--     Step S σ b c a part part' b'
--                        the call c takes the ledger b to b', is answered by a, and makes part' of the bytes that it is lent
--     Runs S σ b cs os tables tables' b'
--                        the calls in their order do so, each lent the bytes after those of the calls before; later bytes stay
--     Best S G σ         for each stratum the typing up to it is correct, and has every correct typing that agrees with it on the labels below
use Rattle.std.specs.Prelude.{◌≡◌, ℕ, suc, Bool, cond, List, [], ◌∷◌, ◌++◌, length, take, Ok, Err, sum_by, Option, Result, nat_lt}
use Rattle.refusal.specs.Refusals.{Refusal}
use Rattle.triple.specs.declared.store.Triple.{Triple}
use Rattle.shapes.specs.Expr.{Schema}
use Rattle.shapes.specs.Typing.{Graph, Typing, In, Candidate, UpTo}
use Rattle.ledger.specs.Ledger.{Ledger}
use Rattle.ledger.specs.Steps.{AddStep, WithdrawStep, LookStep, HeldStep, SweepStep}
use Rattle.replay.specs.declared.call.Sweep.{Sweep}
use Rattle.replay.specs.declared.call.Call.{Call}
use Rattle.replay.specs.declared.call.Call.TheVariants as call
use Rattle.replay.specs.declared.call.Answer.{Answer}
use Rattle.replay.specs.declared.call.Answer.TheVariants as answer
use Rattle.replay.specs.declared.run.Short.{Short}
use Rattle.replay.specs.declared.run.Short.TheVariants.{Answers, Tables}

abbrev pub proposed : Sweep → List ℕ
proposed w = take w.given w.strata

abbrev pub lent : Call → ℕ
lent (call.Add t) = 0
lent (call.Withdraw t) = 0
lent (call.Look n l) = 0
lent (call.Held n l) = 0
lent (call.Sweep w) = w.room

abbrev pub all_lent : List Call → ℕ
all_lent cs = sum_by lent cs

abbrev pub room_for : List Call → (answers bytes : ℕ) → Result (Unit {0}) Short
room_for cs answers bytes = cond (nat_lt answers (length cs)) (Err Answers) (cond (nat_lt bytes (all_lent cs)) (Err Tables) (Ok tt))

abbrev pub reply : {A : Type 0} → (A → Answer) → Result A Refusal → Answer
reply f (Ok x) = f x
reply f (Err e) = answer.Refused e.0 e.1

-- the schema, and the stratification that the ledger goes by
module _ (S : Schema) (σ : ℕ → ℕ) where
  pub data Step (b : Ledger) : Call → Answer → List ℕ → List ℕ → Ledger → Type 0 where
    add : {t : Triple} {r : Result (Unit {0}) Refusal} {part : List ℕ} {b' : Ledger}
        → AddStep b t.subject t.property t.object r b' → Step b (call.Add t) (reply (λ _. answer.Accepted) r) part part b'
    withdraw : {t : Triple} {r : Result (Unit {0}) Refusal} {part : List ℕ} {b' : Ledger}
        → WithdrawStep b t.subject t.property t.object r b' → Step b (call.Withdraw t) (reply (λ _. answer.Accepted) r) part part b'
    look : {n l : ℕ} {r : Result Bool Refusal} {part : List ℕ} {b' : Ledger}
        → LookStep S σ b n l r b' → Step b (call.Look n l) (reply answer.Verdict r) part part b'
    held : {n l : ℕ} {r : Result (Option Bool) Refusal} {part : List ℕ}
        → HeldStep S σ b n l r → Step b (call.Held n l) (reply answer.Held r) part part b
    sweep : {w : Sweep} {r : Result ℕ Refusal} {part part' : List ℕ} {b' : Ledger}
        → SweepStep S σ b (proposed w) part r part' b' → Step b (call.Sweep w) (reply answer.Pairs r) part part' b'

  pub data Runs : Ledger → List Call → List Answer → List ℕ → List ℕ → Ledger → Type 0 where
    done : {b : Ledger} {rest : List ℕ} → Runs b [] [] rest rest b
    then : {b m b' : Ledger} {c : Call} {cs : List Call} {a : Answer} {os : List Answer} {part part' rest rest' : List ℕ}
        → length part ≡ lent c → Step b c a part part' m → Runs m cs os rest rest' b' → Runs b (c ∷ cs) (a ∷ os) (part ++ rest) (part' ++ rest') b'

abbrev pub Best : Schema → Graph → (ℕ → ℕ) → Type 0
Best S G σ =
    (i : ℕ) → Candidate S G σ (UpTo S G σ i) (suc i) (UpTo S G σ (suc i))
    × ((τ : Typing) → Candidate S G σ (UpTo S G σ (suc i)) (suc i) (In τ) → (n l : ℕ) → In τ n l → UpTo S G σ (suc i) n l)
