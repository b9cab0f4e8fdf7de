-- Lawful tables have a stratification exactly if no negated reference lies on a cycle. Assumes nothing.
use Rattle.std.proofs.Common.{ℕ, ◌≤◌, Bool, ◌&&◌, ltb, Decides, refl, arith}
use Rattle.shapes.specs.Expr.{Schema}
use Rattle.shapes.specs.References.{Refers, Mentions, Path, here, step, Stratification}
use Rattle.draft.specs.Tables.{schema_of}
use Rattle.draft.proofs.Lawful.{are_lawful}
use Rattle.labels.specs.Members.{how_many}
use Rattle.references.specs.Mentions.{mentions}
use Rattle.references.specs.Ways.{way}
use Rattle.references.proofs.Decided.{decides_mentions, decides_below}
use Rattle.references.proofs.Ranked.{ranked}
use Rattle.schema.specs.Accepted.{accepted}
use Rattle.schema.specs.Laws.{Stratified, SomeStrata}

-- no number on a path is above the first
path_falls : (S : Schema) (σ : ℕ → ℕ) → Stratification S σ → {l k : ℕ} → Path S l k → σ k ≤ σ l
path_falls S σ st here = omega arith
path_falls S σ st (step {l = l} {j = j} r p) = omega (arith, st.refers l j r, path_falls S σ st p)

refers_test : Schema → ℕ → ℕ → Bool
refers_test S l k = ltb l S.labels && mentions (S.definition l) k

decides_refers : (S : Schema) (l k : ℕ) → Decides (refers_test S l k) (Refers S l k)
unfolding refers_test
decides_refers S l k =
    decides_below (refers_test S l k) (mentions (S.definition l) k) (mentions (S.definition l) k) l S.labels (Mentions (S.definition l) k)
    refl (λ h. refl) (decides_mentions (S.definition l) k)

pub stratified : Stratified
stratified t e =
    let S = schema_of t in
    let law = are_lawful t e in
    let U : ℕ → ℕ → Bool = way (refers_test (schema_of t)) 32 in (
      λ s c. omega (arith, s.1.negated c.0 c.1 c.2.0, path_falls S s.0 s.1 c.2.1),
      λ free. (
        λ l. how_many (U l) 32,
        ranked S (refers_test S) U (decides_refers S) law.few_labels law.known (λ l k h. refl) (λ l. how_many (U l) 32) (λ l h. refl) free,
      ),
    )

pub some_strata : SomeStrata
some_strata s = (stratified (accepted s) s.tables.lawful).1 s.acyclic
