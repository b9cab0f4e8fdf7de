-- From verdicts on held pairs to verdicts on more pairs. Assumes nothing.
use Rattle.std.proofs.Common.{◌≡◌, ℕ, ◌*◌, ◌<◌, Bool, true, false, cond, eqb, ◌⊎◌, ◌↔◌, List, get_or, IfOk, None, Ok, Err, Result, sym, refl, ap, ◌∙◌, inl, inr, ⊎_elim, arith}
use Rattle.std.proofs.lemmas.Bool.{lt-ltb, eqb-true, cases_Bool, or_cases, or_left, or_right}
use Rattle.draft.specs.Refusals.{refusal}
use Rattle.draft.specs.declared.fault.SchemaFault.{SchemaFault}
use Rattle.shapes.specs.Bytes.{place, byte_typing}
use Rattle.shapes.specs.Expr.{Schema}
use Rattle.shapes.specs.Leaning.{Closed, Reached, next}
use Rattle.shapes.specs.References.{Stratification}
use Rattle.shapes.specs.Typing.{Graph, Typing, In, Maximal}
use Rattle.shapes.proofs.Leaning.{reached_inside}
use Rattle.shapes.proofs.Strata.{strata_free}
use Rattle.refine.specs.Deciding.{Room, stratum, either, Right, size, table, Decided}
use Rattle.leaning.specs.Search.{Looked}
use Rattle.validator.specs.Marks.{Joined, Widens, LookedAt, AllDecided}
use Rattle.validator.proofs.Places.{place_below, decides_shown}

-- what an answer that is not refused promises
pub answered : {A Q : Type 0} (r : Result A SchemaFault) → refusal r ≡ None → IfOk r (λ x. Q) → Q
answered (Ok x) e h = h
answered (Err f) e h = let z : ◌≡◌ {A = ℕ} 0 1 = cc in absurd (omega arith)

-- verdicts are the same whichever stratification they are decided by
pub widens : (S : Schema) (G : Graph) (strata held wanted before after : List ℕ) → Stratification S (stratum strata)
    → Room (size S G) S.labels strata held wanted before → Decided S G strata held wanted before after
    → Widens S G (table S G held) (table S G wanted) (table S G before) (table S G after)
widens S G strata held wanted before after stratified room decided σ ready n l h =
    let there : (m k : ℕ) → Maximal S G σ m k ↔ Maximal S G (stratum strata) m k = λ m k. strata_free S G σ (stratum strata) ready.stratified stratified m k in
    let right : Right S G (stratum strata) (table S G held) (table S G before) =
    λ m k g. (λ e. (there m k).0 ((ready.right m k g).0 e), λ v. (ready.right m k g).1 ((there m k).1 v)) in
    let found = decided room (record { stratified = stratified; apart = ready.apart; closed = ready.closed; right = right }) n l h in
    (λ e. (there n l).1 (found.0 e), λ v. found.1 ((there n l).0 v))

-- the held pairs once the wanted ones are held too
pub joined_shown : (nodes labels : ℕ) (wanted held held' : List ℕ) → Joined (nodes * labels) wanted held held'
    → (n l : ℕ) → byte_typing nodes labels held' n l ≡ true ↔ (either (byte_typing nodes labels held) (byte_typing nodes labels wanted) n l ≡ true)
joined_shown nodes labels wanted held held' joined n l = (
  λ h. let at = (decides_shown nodes labels held' n l).0 h in
      ⊎_elim
      (λ (w : eqb (get_or wanted (place labels n l) 0) 1 ≡ true). or_right (byte_typing nodes labels held n l) (byte_typing nodes labels wanted n l) ((decides_shown nodes labels wanted n l).1 (at.0, eqb-true _ 1 w)))
      (λ (w : eqb (get_or wanted (place labels n l) 0) 1 ≡ false). or_left (byte_typing nodes labels held n l) (byte_typing nodes labels wanted n l) ((decides_shown nodes labels held n l).1 (at.0, sym (byte at.0 ∙ ap (λ b. cond b 1 (get_or held (place labels n l) 0)) w) ∙ at.1)))
      (cases_Bool (eqb (get_or wanted (place labels n l) 0) 1)),
  λ h. ⊎_elim
      (λ (k : byte_typing nodes labels held n l ≡ true). let at = (decides_shown nodes labels held n l).0 k in
      (decides_shown nodes labels held' n l).1 (at.0, byte at.0 ∙ either_way (eqb (get_or wanted (place labels n l) 0) 1) (get_or held (place labels n l) 0) at.1))
      (λ (k : byte_typing nodes labels wanted n l ≡ true). let at = (decides_shown nodes labels wanted n l).0 k in
      (decides_shown nodes labels held' n l).1 (at.0, byte at.0 ∙ ap (λ b. cond (eqb b 1) 1 (get_or held (place labels n l) 0)) at.1))
      (or_cases (byte_typing nodes labels held n l) (byte_typing nodes labels wanted n l) h),
)
  where
    byte : (n < nodes) × (l < labels) → get_or held' (place labels n l) 0 ≡ cond (eqb (get_or wanted (place labels n l) 0) 1) 1 (get_or held (place labels n l) 0)
    byte at = joined (place labels n l) ∙ rw (lt-ltb (place labels n l) (nodes * labels) (place_below nodes labels n l at.0 at.1)) refl

    either_way : (w : Bool) (b : ℕ) → b ≡ 1 → cond w 1 b ≡ 1
    either_way true b e = refl
    either_way false b e = e

-- a look: what it wants, and what it leaves
module _ (S : Schema) (G : Graph) (n l : ℕ) (K W T K' T' : Typing) (looked : Looked S G K n l W)
    (joined : (o k : ℕ) → In K' o k ↔ In (either K W) o k) (widened : Widens S G K W T T') where
  held_or_wanted : (o k : ℕ) → In (either K W) o k → In K o k ⊎ In W o k
  held_or_wanted o k h = or_cases (K o k) (W o k) h

  joins : (o k : ℕ) → In K o k ⊎ In W o k → In (either K W) o k
  joins o k (inl h) = or_left (K o k) (W o k) h
  joins o k (inr h) = or_right (K o k) (W o k) h

  reached_joined : Closed S G (In K) → (o k : ℕ) → Reached S G n l o k → In (either K W) o k
  reached_joined closed o k r = joins o k (⊎_elim inr inl (looked.all closed o k r))

  wide_closed : Closed S G (In K) → Closed S G (In (either K W))
  wide_closed closed m j o k h leans =
      ⊎_elim
      (λ (a : In K m j). joins o k (inl (closed m j o k a leans)))
      (λ (a : In W m j). reached_joined closed o k (next (looked.reached m j a).0 leans))
      (held_or_wanted m j h)

  pub looked_at : LookedAt S G n l K T K' T'
  looked_at closed = (
    λ o k. (
      λ h. ⊎_elim inl (λ (a : In W o k). inr (looked.reached o k a).0) (held_or_wanted o k ((joined o k).0 h)),
      λ h. (joined o k).1 (⊎_elim (λ (a : In K o k). joins o k (inl a)) (λ (r : Reached S G n l o k). reached_joined closed o k r) h),
    ),
    λ σ stratified right o k h.
        widened σ (record { stratified = stratified; apart = λ m j a b. (looked.reached m j b).1 a; closed = wide_closed closed; right = right }) o k ((joined o k).0 h),
  )

-- all pairs: what is wanted, and what is left
module _ (S : Schema) (G : Graph) (held wanted : List ℕ) (T K' T' : Typing)
    (unheld : (k : ℕ) → k < G.nodes * S.labels → get_or wanted k 0 ≡ cond (eqb (get_or held k 0) 1) 0 1)
    (joined : (n l : ℕ) → In K' n l ↔ In (either (table S G held) (table S G wanted)) n l)
    (bounded : Closed S G (λ n l. (n < G.nodes) × (l < S.labels)))
    (widened : Widens S G (table S G held) (table S G wanted) T T') where
  within : (n l : ℕ) → In (either (table S G held) (table S G wanted)) n l → (n < G.nodes) × (l < S.labels)
  within n l h =
      ⊎_elim (λ (a : In (table S G held) n l). ((decides_shown G.nodes S.labels held n l).0 a).0)
      (λ (a : In (table S G wanted) n l). ((decides_shown G.nodes S.labels wanted n l).0 a).0)
      (or_cases (table S G held n l) (table S G wanted n l) h)

  byte : (n l : ℕ) → n < G.nodes → l < S.labels → get_or wanted (place S.labels n l) 0 ≡ cond (eqb (get_or held (place S.labels n l) 0) 1) 0 1
  byte n l h k = unheld (place S.labels n l) (place_below G.nodes S.labels n l h k)

  every : (n l : ℕ) → n < G.nodes → l < S.labels → In (either (table S G held) (table S G wanted)) n l
  every n l h k =
      ⊎_elim
      (λ (e : eqb (get_or held (place S.labels n l) 0) 1 ≡ true). or_left (table S G held n l) (table S G wanted n l) ((decides_shown G.nodes S.labels held n l).1 ((h, k), eqb-true _ 1 e)))
      (λ (e : eqb (get_or held (place S.labels n l) 0) 1 ≡ false). or_right (table S G held n l) (table S G wanted n l) ((decides_shown G.nodes S.labels wanted n l).1 ((h, k), byte n l h k ∙ ap (λ b. cond b 0 1) e)))
      (cases_Bool (eqb (get_or held (place S.labels n l) 0) 1))

  apart : (n l : ℕ) → In (table S G held) n l → ¬ In (table S G wanted) n l
  apart n l a b =
      let at = (decides_shown G.nodes S.labels held n l).0 a in
      let one = ((decides_shown G.nodes S.labels wanted n l).0 b).1 in
      let zero : get_or wanted (place S.labels n l) 0 ≡ 0 = byte n l at.0.0 at.0.1 ∙ ap (λ x. cond (eqb x 1) 0 1) at.1 in
      omega arith

  pub all_decided : AllDecided S G (table S G held) T K' T'
  all_decided = (
    λ n l. (λ h. within n l ((joined n l).0 h), λ h. (joined n l).1 (every n l h.0 h.1)),
    λ σ stratified right n l h.
        widened σ (record { stratified = stratified; apart = apart; closed = λ m j o k a leans. let b = bounded m j o k (within m j a) leans in every o k b.0 b.1; right = right }) n l ((joined n l).0 h),
  )

-- a look at a held pair: what it reaches is held
pub looked_held : (S : Schema) (G : Graph) (n l : ℕ) (K T : Typing) → In K n l → LookedAt S G n l K T K T
looked_held S G n l K T here closed = (
  λ o k. (inl, λ h. ⊎_elim (λ (a : In K o k). a) (λ (r : Reached S G n l o k). reached_inside S G (In K) closed here r) h),
  λ σ stratified right. right,
)
