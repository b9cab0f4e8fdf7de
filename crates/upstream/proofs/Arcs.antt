-- One more arc, and walks over the arcs of a node. Assumes nothing.
use Rattle.std.proofs.Common.{◌≡◌, ℕ, ◌<◌, ◌≤◌, ◌⊎◌, ◌↔◌, List, [], length, set, replicate, Some, None, refl, sym, ap, ◌∙◌, subst, inl, inr, ⊎_elim, arith, get_or-set_other, get_or-set_same}
use Rattle.std.proofs.lemmas.Option.{slice_get-get_or}
use Rattle.std.proofs.lemmas.Bool.{cases_eq, cases_lt}
use Rattle.std.proofs.lemmas.List.{map-id, get_or-replicate, get_or_past, length-replicate}
use Rattle.std.proofs.lemmas.Iterator.{YieldsList}
use Rattle.std.proofs.lemmas.Iterator.Consumers.{YieldsList-from_first, YieldsList-turn, YieldsList-end}
use Rattle.std.specs.Iterator.{Yields, YieldsFirst}
use Rattle.std.specs.List.{slice_get}
use Rattle.shapes.specs.Lists.{Member}
use Rattle.shapes.proofs.Lists.{nth_member}
use Rattle.triple.specs.Arcs.{Arc}
use Rattle.upstream.specs.Arcs.{Leads, sources_of, Leading}
use Rattle.upstream.specs.Nodes.{Has}
use Rattle.upstream.proofs.Nodes.{none_has}
use Rattle.upstream.specs.declared.backward.Backward.{Backward}
use Rattle.upstream.specs.declared.node_set.NodeSet.{NodeSet}

pub leading_none : (n o : ℕ) → Leading (record { sources = replicate 256 (record { words = replicate 4 0 }) }) n o → ⊥
leading_none n o h = ⊎_elim
    (λ (l : o < 256). none_has 4 n (subst (λ s. Has s n) (get_or-replicate 256 o (record { words = replicate 4 0 }) (record { words = [] }) l) h))
    (λ (l : 256 ≤ o). none_has 0 n (subst (λ s. Has s n) (get_or_past (replicate 256 (record { words = replicate 4 0 })) o (record { words = [] }) (omega (arith, length-replicate {A = NodeSet} 256 (record { words = replicate 4 0 })))) h))
    (cases_lt o 256)

-- the node joins the sources of the object
pub leading_more : (b : Backward) (node object : ℕ) (s : NodeSet) → object < length b.sources → ((n : ℕ) → Has s n ↔ (Has (sources_of b object) n ⊎ (n ≡ node)))
    → (n o : ℕ) → Leading (record { sources = set b.sources object s }) n o ↔ (Leading b n o ⊎ ((n ≡ node) × (o ≡ object)))
leading_more b node object s h change n o = ⊎_elim
    (λ (e : o ≡ object).
    let w = ap (λ k. sources_of (record { sources = set b.sources object s }) k) e ∙ get_or-set_same b.sources object s (record { words = [] }) h in (
      λ k. ⊎_elim (λ (x : Has (sources_of b object) n). inl (subst (λ j. Leading b n j) (sym e) x)) (λ (x : n ≡ node). inr (x, e)) ((change n).0 (subst (λ t. Has t n) w k)),
      λ k. subst (λ t. Has t n) (sym w) ((change n).1 (⊎_elim (λ (x : Leading b n o). inl (subst (λ j. Leading b n j) e x)) (λ x. inr x.0) k)),
    ))
    (λ (ne : o ≡ object → ⊥).
    let w = get_or-set_other b.sources object o s (record { words = [] }) ne in (
      λ k. inl (subst (λ t. Has t n) w k),
      λ k. ⊎_elim (λ (x : Leading b n o). subst (λ t. Has t n) (sym w) x) (λ (x : (n ≡ node) × (o ≡ object)). absurd (ne x.1)) k,
    ))
    (cases_eq o object)

-- the arc at a place
pub arc_leads : (arcs : ℕ → List (ℕ × ℕ)) (n i : ℕ) (a : ℕ × ℕ) → Some a ≡ slice_get (arcs n) i → Leads arcs n a.1
arc_leads arcs n i a e = (a.0, nth_member (arcs n) i a (sym e))

-- a walk gives the next arc, until it has given all, where `left` is what is left of it
module _ {W : Type 0} (left : W → List Arc) (zs : List Arc) (begun s t u : W) (xs : List Arc) (all : left begun ≡ zs) (same : s ≡ begun) (led : Yields (YieldsFirst left) s xs t) where
  abbrev Walk : Type 0
  Walk = YieldsList (YieldsFirst left) (λ x. x) s zs

  pub next_arc : (x : Arc) → YieldsFirst left t (Some x) u → Some x ≡ slice_get zs (length xs)
  next_arc x step =
      let walk : Walk = YieldsList-from_first (λ x. x) left zs (ap left same ∙ all) in
      let w = YieldsList-turn walk xs t led (Some x) u x refl step in
      sym (slice_get-get_or zs (length xs) x w.0 ∙ ap Some (sym w.1))

  pub all_arcs : YieldsFirst left t None u → xs ≡ zs
  all_arcs step =
      let walk : Walk = YieldsList-from_first (λ x. x) left zs (ap left same ∙ all) in
      sym (map-id xs) ∙ (YieldsList-end walk xs t led None u refl step).0

-- a node past the end has no arcs
pub leads_below : (arcs : ℕ → List (ℕ × ℕ)) (nodes : ℕ) → ((n : ℕ) → nodes ≤ n → arcs n ≡ []) → (n o : ℕ) → Leads arcs n o → n < nodes
leads_below arcs nodes past n o l = ⊎_elim (λ (h : n < nodes). h) (λ (h : nodes ≤ n). elim (subst (Member (l.0, o)) (past n h) l.1) [ ]) (cases_lt n nodes)
