use Rattle.std.proofs.Common.{◌≡◌, ℕ, ◌+◌, ◌-◌, ◌^◌, ◌<◌, Bool, true, false, ◌↔◌, List, length, get_or, set, sym, ap, ◌∙◌, subst, arith, length-set}
use lib.ListN.{length-replicate}
use Rattle.shapes.specs.Meaning.{Met}
use Rattle.shapes.specs.Typing.{In}
use Rattle.draft.specs.Refusals.{triple_names, ordered}
use Rattle.draft.specs.Rows.{triple_node, triple_tree}
use Rattle.draft.specs.Tables.{schema_of}
use Rattle.draft.specs.declared.rows.TripleRow.TheVariants.{Empty}
use Rattle.draft.proofs.Trees.{triple_unfold}
use Rattle.tables.specs.Held.{held}
use Rattle.masks.specs.Masks.{On}
use Rattle.masks.proofs.Flags.{filled, Upto, upto_none, upto_more}
use Rattle.hoods.specs.Arcs.{arcs_of}
use Rattle.hoods.specs.Typings.{typed}
use Rattle.hoods.specs.Words.{Tells}
use Rattle.hoods.proofs.Copies.{length_arcs}
use Rattle.hoods.proofs.Filling.{names_more, Filled, filled_none, filled_more, filled_skip, all_arcs}
use Rattle.hoods.proofs.Flagged.{flagged_tree, flagged_is, flagged_node, unflagged_never, upto_skip}
use Rattle.hoods.proofs.neighbourhood.Neighbourhood.met_asked.Goals as goal
use Rattle.hoods.proofs.neighbourhood.Neighbourhood.met_asked.Goals.{then-needed-r, else-needed-r}

pub loop-r-init : goal.loop-r-init
loop-r-init c =
    let t = held c.args.self.now.tables.now in
    let sets = (schema_of t).sets in
    let P = In (typed (length t.definitions) c.args.self.now.typing.now) in
    let arcs = c.args.self.now.arcs.now in (
      filled_none sets P (arcs_of arcs) (flagged_tree c.with_named-needed.result t.triples) _
          (λ m h. filled 0 _ c.fill.new.self _ m (c.fill.ensures.after (λ y e. e)) (omega (arith, subst (λ n. m < 2 ^ n) (length_arcs arcs) h, c.masks.ensures.value))),
      upto_none (λ p. On c.with_named-needed.result p × Met sets P (triple_tree t.triples p) (arcs_of arcs)) 128,
      length-replicate 128 false,
    )

pub find_masks-requires : goal.find_masks-requires
find_masks-requires c =
    let t = held c.args.self.now.tables.now in
    let law = c.lawful.ensures in
    let r = c.loop-r.r in
    let l : r < length t.triples = subst (λ rows. r < length rows) c.triples-row-items.ensures c.loop-r-test.true in
    subst (λ rows. triple_names (length t.sets) (length t.definitions) 128 (get_or rows r Empty) ≡ true) (sym c.triples-row-items.ensures)
    (names_more (length t.sets) (length t.definitions) r 128 (get_or t.triples r Empty) (omega (arith, law.few_triples)) (law.triple_rows r l))

pub pack-requires : goal.pack-requires
pack-requires c =
    let t = held c.args.self.now.tables.now in
    let law = c.lawful.ensures in
    let r = c.loop-r.r in
    let l : r < length t.triples = subst (λ rows. r < length rows) c.triples-row-items.ensures c.loop-r-test.true in
    record {
      row = omega (arith, law.few_triples);
      below = λ m h. c.loop-r.invariant.0.below m (subst (λ n. m < 2 ^ n) (sym (length_arcs c.args.self.now.arcs.now)) h);
    }

pub loop-r-preserved : goal.loop-r-preserved
loop-r-preserved c =
    let t = held c.args.self.now.tables.now in
    let sets = (schema_of t).sets in
    let P = In (typed (length t.definitions) c.args.self.now.typing.now) in
    let arcs = c.args.self.now.arcs.now in
    let r = c.loop-r.r in
    let needed = c.with_named-needed.result in
    let law = c.lawful.ensures in
    let n = length_arcs arcs in
    let rows = c.triples-row-items.ensures in
    let l : r < length t.triples = subst (λ rows. r < length rows) rows c.loop-r-test.true in
    let f = flagged_tree needed t.triples in
    let Kept : List ℕ → List Bool → Type 0 =
    λ words met. Filled sets P (arcs_of arcs) f (r + 1) words × Upto (λ p. On needed p × Met sets P (triple_tree t.triples p) (arcs_of arcs)) (r + 1) met × (length met ≡ 128) in
    elim c.if-needed-r.branch [
      | then-needed-r w ↦
          (let found = w.find_masks.new.scratch.found in
          let on : On needed r = w.if-needed-r.true in
          let tells : Tells sets P (arcs_of arcs) (triple_node f (get_or t.triples r Empty)) found =
          subst (λ rows. Tells sets P (arcs_of arcs) (triple_node f (get_or rows r Empty)) found) rows
          (w.find_masks.ensures f r
          (subst (λ rows. triple_names (length t.sets) (length t.definitions) r (get_or rows r Empty) ≡ true) (sym rows) (law.triple_rows r l))
          (subst (λ rows. ordered (get_or rows r Empty) ≡ true) (sym rows) (law.in_order r l))
          c.loop-r.invariant.0.told) in
          let tree : triple_node f (get_or t.triples r Empty) ≡ triple_tree t.triples r =
          flagged_node needed t.triples r l c.with_named-needed.ensures.whole on ∙ sym (triple_unfold (length t.sets) (length t.definitions) t.triples law.triple_rows r l) in
          let here = subst (λ e. Tells sets P (arcs_of arcs) e found) tree tells in
          let last = c.masks-last.result - 1 in
          let place : 2 ^ length (arcs_of arcs) - 1 ≡ last = ap (λ k. 2 ^ k - 1) n ∙ ap (λ k. k - 1) (sym c.masks-last.ensures.value) in
          let all = subst (λ m. (get_or found m false ≡ true) ↔ Met sets P (triple_tree t.triples r) (arcs_of arcs)) place (all_arcs sets P (arcs_of arcs) (triple_tree t.triples) r found here) in
          let words = filled_more sets P (arcs_of arcs) f r c.loop-r.scratch.words found w.pack.new.words c.loop-r.invariant.0
          (subst (λ e. Tells sets P (arcs_of arcs) e found) (sym (flagged_is needed t.triples r on)) here)
          (λ m h. w.pack.ensures m (subst (λ n. m < 2 ^ n) n h)) in
          let met = upto_more (λ p. On needed p × Met sets P (triple_tree t.triples p) (arcs_of arcs)) r c.loop-r.met (get_or found last false) (omega (arith, law.few_triples, c.loop-r.invariant.2)) (λ o. (on, all.0 o), λ x. all.1 x.1) c.loop-r.invariant.1 in
          subst (λ m. Kept c.if-needed-r.scratch.words m) (sym w.met-is)
          (subst (λ s. Kept s.words (set c.loop-r.met r (get_or found last false))) (sym w.scratch-is)
          (words, met, length-set c.loop-r.met r (get_or found last false) ∙ c.loop-r.invariant.2)))
      | else-needed-r w ↦
          subst (λ m. Kept c.if-needed-r.scratch.words m) (sym w.met-is)
          (subst (λ s. Kept s.words c.loop-r.met) (sym w.scratch-is) (
            filled_skip sets P (arcs_of arcs) f r c.loop-r.scratch.words (unflagged_never sets P needed t.triples r w.if-needed-r.false) c.loop-r.invariant.0,
            upto_skip needed (λ p. Met sets P (triple_tree t.triples p) (arcs_of arcs)) r c.loop-r.met w.if-needed-r.false c.loop-r.invariant.1,
            c.loop-r.invariant.2,
          ))
    ]

pub returns : goal.returns
returns c =
    let t = held c.args.self.now.tables.now in
    let sets = (schema_of t).sets in
    let P = In (typed (length t.definitions) c.args.self.now.typing.now) in
    let needed = c.with_named-needed.result in
    let rows : length c.triples-row-items.result.now ≡ length t.triples = ap length c.triples-row-items.ensures in
    let e : c.loop-r.r ≡ length t.triples = omega arith in
    let all = subst (λ q. Upto (λ p. On needed p × Met sets P (triple_tree t.triples p) (arcs_of c.args.self.now.arcs.now)) q c.loop-r.met) e c.loop-r.invariant.1 in
    record {
      only = λ p o. let x = (all p).0 o in (x.0, x.1.1);
      asked = λ p a m. (all p).1 (m.0, (c.with_named-needed.ensures.asked p a, m.1));
    }
