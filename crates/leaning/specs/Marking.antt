-- A search at work: the pairs that it marked, and those that wait for their visit. Assumes nothing.
--     waiting s              the pairs that wait
--     Found s g, Held s g    the pair g is marked, and it is held
--     Covered s g            one of the two
--     work s                 a number that falls with each visit
--     Frame a b              both have the same pairs, held bytes, place of the marks and bytes past them; what was marked still is
--     Begun ..               none is marked and none waits
--     Grown W a b            some pairs of W were marked, and each that was not marked before waits
--     Popped r a b           r no longer waits, or none did
--     Searching ..           what is marked is reached; what it leans on is covered, unless it waits
use Rattle.std.specs.Prelude.{◌≡◌, ℕ, ◌+◌, ◌*◌, ◌≤◌, ◌⊎◌, List, [], length, drop, Option}
use Rattle.shapes.specs.Expr.{Schema}
use Rattle.shapes.specs.Leaning.{Leans, Reached}
use Rattle.shapes.specs.Lists.{Member}
use Rattle.shapes.specs.Typing.{Graph}
use Rattle.stack.specs.Entries.{entries, rejoined}
use Rattle.stack.specs.declared.Goal.{Goal}
use Rattle.leaning.specs.Search.{count, unmarked, Shown}
use Rattle.leaning.specs.declared.pairs.Pairs.{Pairs}
use Rattle.leaning.specs.declared.search.Search.{Search}

abbrev pub waiting : Search → List Goal
waiting s = entries s.waiting.now.slots.now s.waiting.now.len

abbrev pub Found : Search → Goal → Type 0
Found s g = Shown s.pairs s.marks.now g

abbrev pub Held : Search → Goal → Type 0
Held s g = Shown s.pairs s.held.now g

abbrev pub Covered : Search → Goal → Type 0
Covered s g = Held s g ⊎ Found s g

abbrev pub work : Search → ℕ
work s = 2 * unmarked (count s.pairs) s.marks.now + length (waiting s)

pub record Frame (before after : Search) : Type 0 where
  pub pairs : after.pairs ≡ before.pairs
  pub held : after.held.now ≡ before.held.now
  pub lent : after.marks.ghost_name ≡ before.marks.ghost_name
  pub rest : drop (count before.pairs) after.marks.now ≡ drop (count before.pairs) before.marks.now
  pub kept : (g : Goal) → Found before g → Found after g

pub record Begun (all : Pairs) (bytes marks : List ℕ) (s : Search) : Type 0 where
  pub pairs : s.pairs ≡ all
  pub held : s.held.now ≡ bytes
  pub rest : drop (count s.pairs) s.marks.now ≡ drop (count s.pairs) marks
  pub none : (g : Goal) → ¬ Found s g
  pub idle : waiting s ≡ []

pub record Grown (W : Goal → Type 0) (before after : Search) : Type 0 where
  pub frame : Frame before after
  pub more : (g : Goal) → Found after g → Found before g ⊎ (W g × Member g (waiting after))
  pub stays : (g : Goal) → Member g (waiting before) → Member g (waiting after)
  pub less : work after ≤ work before

pub record Popped (r : Option Goal) (before after : Search) : Type 0 where
  pub frame : Frame before after
  pub marks : after.marks.now ≡ before.marks.now
  pub waiting : waiting before ≡ rejoined r (waiting after)

pub record Searching (S : Schema) (G : Graph) (n l : ℕ) (s : Search) : Type 0 where
  pub asked : Covered s (record { node = n; label = l })
  pub reached : (g : Goal) → Found s g → Reached S G n l g.node g.label
  pub visited : (g h : Goal) → Found s g → Leans S G g.node g.label h.node h.label → Member g (waiting s) ⊎ Covered s h
