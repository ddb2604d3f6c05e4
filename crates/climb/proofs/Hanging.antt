-- Where every span has a tree, the tree of the text is theirs hung together, its roots stand in the row, and its nodes are the tokens but
-- for those that make none.
use mathlib.Core.Path.{◌≡◌, refl, sym, ap, ap₂, ◌∙◌}
use mathlib.Core.List.{List, ◌∷◌}
use mathlib.Core.Option.{Option, some}
use Prim.Native.Nat.{ℕ, zero, suc, ◌+◌, ◌-◌, ◌≤◌, ◌<◌}
use native.Mathlib.Omega.{arith}
use lib.ListN.{length, length-append}
use Rattle.std.specs.declared.result.Result.TheVariants.{Ok}
use Rattle.grammar.specs.Bytes.{Bytes}
use Rattle.grammar.specs.Token.{Atom, Token, atom, symbol}
use Rattle.grammar.specs.Operator.{Table}
use Rattle.grammar.specs.Span.{Item, single, item_tokens, all_item_tokens, items}
use Rattle.grammar.specs.SpanTree.{SpanTree, missing, operand, apply, yield}
use Rattle.grammar.specs.Tree.{Tree, nothing, leaf, node, flat}
use Rattle.grammar.specs.Nodes.{count}
use Rattle.grammar.specs.Blocks.{hang_item, hang, hang_found, under_operator, tree_in, tree_of}
use Rattle.grammar.proofs.ClimbExact.{climb_yields}
use Rattle.rows.specs.Fields.{TokenRow, NoteRow, RootRow, closer, left}
use Rattle.rows.specs.Tokens.{range}
use Rattle.rows.specs.Standing.{mark, Rooted}
use Rattle.rows.proofs.Ranges.{length-range}
use Rattle.rows.proofs.PairedItems.{items_done, items_single}
use Rattle.climb.specs.Searched.{width, span_mark, SpanRooted, InForce, Checks}
use Rattle.climb.proofs.Waiting.{width_missing, width_operand, width_apply}
use Rattle.climb.proofs.Spare.{Opens, spare, spare_to, spare_atom, spare_cut, spare_next, spare_done}
use Rattle.climb.proofs.Parts.{Opened, Parts, done, own, inner, parts, parts_long}
use Rattle.climb.proofs.Openers.{Along, along_left, along_right}
use Rattle.climb.proofs.Found.{FoundTree, SpanFound}

module _ (K : TokenRow) (O : RootRow) (inside : Table → List Token → Option Tree) (T : Table) where
  -- The tree that the span's tree `s` becomes, where it begins at token `p`.
  pub record Hung (p : ℕ) (s : SpanTree) : Type 0 where
    pub tree : Tree
    pub hangs : hang inside T s ≡ some tree
    pub rooted : Rooted O p tree
    pub marked : mark p tree ≡ span_mark p s
    pub long : length (flat tree) ≡ width s
    pub counted : count tree + spare_to K p (p + width s) ≡ width s

  -- Each item becomes a tree, and no node is spared at a token of the span's own.
  pub record HangsAt (p : ℕ) (x : Item) : Type 0 where
    pub as_tree : SpanRooted O p (operand x) → Hung p (operand x)
    pub spared : (a : Atom) → x ≡ single a → spare K p ≡ 0

  pub hung : (s : SpanTree) (p : ℕ) → Along HangsAt p (yield s) → SpanRooted O p s → Hung p s
  unfolding yield hang mark span_mark flat count item_tokens under_operator
  hung missing p h r =
      let here : p + width missing ≡ p = omega (arith, width_missing) in
      record {
        tree = nothing;
        hangs = refl;
        rooted = tt;
        marked = refl;
        long = sym width_missing;
        counted = rw (here, spare_done K p, width_missing) refl;
      }
  hung (operand x) p h r = h.0.as_tree r
  hung (apply l m r) p h g =
      let a = p + width l in
      let here = along_right HangsAt (yield l) (single (symbol m) ∷ yield r) p h in
      let next : a + 1 ≡ suc a = omega arith in
      let x = hung l p (along_left HangsAt (yield l) (single (symbol m) ∷ yield r) p h) g.2 in
      let y = hung r (suc a) (rw next at here.1) g.3 in
      let w = width_apply l m r in
      let ends : p + width (apply l m r) ≡ suc a + width r = omega arith in
      record {
        tree = node x.tree m y.tree;
        hangs = ap₂ (under_operator m) x.hangs y.hangs;
        rooted = rw x.long (g.0 ∙ sym x.marked, g.1 ∙ sym y.marked, x.rooted, y.rooted);
        marked = rw x.long refl;
        long = omega (arith, x.long, y.long, length-append (flat x.tree) (atom (symbol m) ∷ flat y.tree));
        counted =
            rw ends
            (omega (
              arith,
              x.counted,
              y.counted,
              here.0.spared (symbol m) refl,
              spare_cut K p a (suc a + width r) (omega arith) (omega arith),
              spare_next K a (suc a + width r) (omega arith),
            ));
      }

module _ (text : Bytes) (K : TokenRow) (R : NoteRow) (O : RootRow) where
  -- An atom as an operand.
  leaf_hung : (inside : Table → List Token → Option Tree) (T : Table) (i : ℕ) (a : Atom) → spare K i ≡ 0 → HangsAt K O inside T i (single a)
  unfolding hang hang_item mark span_mark flat count item_tokens
  leaf_hung inside T i a z =
      let one = width_operand (single a) in
      let ends : i + width (operand (single a)) ≡ suc i = omega arith in
      record {
        as_tree = λ r. record {
          tree = leaf a;
          hangs = refl;
          rooted = r;
          marked = refl;
          long = sym one;
          counted = rw ends (omega (arith, spare_next K i (suc i) (omega arith), spare_done K (suc i)));
        };
        spared = λ b e. z;
      }

  -- The tree of the tokens from `from` to `to`, and `m` the mark of its root.
  pub record TreeFound (k : ℕ) (U : Table) (from to m : ℕ) : Type 0 where
    pub tree : Tree
    pub found : tree_in k U (range text K from to) ≡ some tree
    pub rooted : Rooted O from tree
    pub marks : m ≡ mark from tree
    pub long : length (flat tree) ≡ to - from
    pub counted : count tree + spare_to K from to ≡ to - from

  -- Of a span whose own tree has been found, with its items' trees.
  pub span_hung :
      (k : ℕ) {U : Table} {from to : ℕ} (m : ℕ) → Parts text K R U from to → FoundTree text U K from to O m
      → Along (HangsAt K O (tree_in k) U) from (items (range text K from to)) → TreeFound (suc k) U from to m
  unfolding tree_in hang_found
  span_hung k {U} {from} {to} m p f h =
      let s = f.tree in
      let y = climb_yields U (items (range text K from to)) s f.found in
      let t = hung K O (tree_in k) U s from (rw y h) f.rooted in
      let wide : from + width s ≡ to = ap (λ is. from + length (all_item_tokens is)) y ∙ parts_long p in
      record {
        tree = t.tree;
        found = ap (hang_found (tree_in k) U) f.found ∙ t.hangs;
        rooted = t.rooted;
        marks = f.marks ∙ sym t.marked;
        long = omega (arith, t.long);
        counted = let c = rw wide at t.counted in omega arith;
      }

  -- An item that holds such a span.
  item_hung :
      (k : ℕ) {T U : Table} {i o e to : ℕ} (x : Opened text K T i o e to U) → TreeFound k U (suc o) e (left O o)
      → HangsAt K O (tree_in k) T i x.item
  unfolding hang span_mark
  item_hung k {i = i} {e = e} x t =
      let wide : i + width (operand x.item) ≡ suc e = omega (arith, width_operand x.item, x.long) in
      record {
        as_tree = λ r. record {
          tree = x.wrap t.tree;
          hangs = x.hangs (tree_in k) t.tree t.found;
          rooted = x.rooted O t.tree t.marks t.rooted;
          marked = x.marked t.tree;
          long = omega (arith, x.flat_long t.tree t.long);
          counted = rw wide (omega (arith, x.counted t.tree, x.spared, t.counted, x.before, x.inside));
        };
        spared = λ a s. absurd (x.not_one a s);
      }

  -- The items of a range, with enough fuel.
  pub all_hang :
      (k : ℕ) {T : Table} {i to : ℕ} → Parts text K R T i to → to - i ≤ k
      → ((j : ℕ) → i ≤ j → j < to → Opens K j → SpanFound K R O (suc j) (closer K j) (left O j))
      → Along (HangsAt K O (tree_in k) T) i (items (range text K i to))
  unfolding item_tokens
  all_hang k (done {to = to}) b h = rw (items_done text K to) tt
  all_hang k (own {i = i} {to = to} l a p) b h =
      let next : i + 1 ≡ suc i = omega arith in
      rw (items_single text K i to l a, next)
      (leaf_hung (tree_in k) _ i _ (spare_atom K i a.1), all_hang k p (omega arith) (λ j c d. h j (omega arith) d))
  all_hang zero (inner o e U x f p q) b h = absurd (omega arith)
  all_hang (suc k) (inner {T = T} {i = i} {to = to} o e U x f p q) b h =
      rw (x.comes, x.long) (
        item_hung (suc k) x
            (span_hung k (left O o) p
            (rw x.closes at (h o x.before (omega (arith, x.inside, x.within)) x.opens text U (rw x.closes f)))
            (all_hang k p (omega (arith, x.before, x.within)) (λ j c d. h j (omega (arith, x.before)) (omega (arith, x.within))))),
        all_hang (suc k) q (omega (arith, x.before, x.inside)) (λ j c d. h j (omega (arith, x.before, x.inside)) d),
      )

  -- The text.
  pub text_hung :
      (T : Table) (n m : ℕ) → InForce text T K R 0 n → FoundTree text T K 0 n O m
      → ((j : ℕ) → j < n → Opens K j → SpanFound K R O (suc j) (closer K j) (left O j)) → TreeFound (suc n) T 0 n m
  text_hung T n m f t h =
      let p = parts text K R f.bounded f.agrees in
      span_hung n m p t (all_hang n p (omega arith) (λ j a. h j))

  -- The answer with it.
  pub text_answer :
      (T : Table) (n nodes whole : ℕ) → TreeFound (suc n) T 0 n (suc whole) → nodes + spare_to K 0 n ≡ n
      → Checks text T K n O (tree_of T (range text K 0 n)) (Ok (record { nodes = nodes; root = whole }))
  unfolding tree_of
  text_answer T n nodes whole t e =
      let size : length (range text K 0 n) ≡ n = omega (arith, length-range text K 0 n) in
      let same : nodes ≡ count t.tree = omega (arith, t.counted) in
      rw (size, t.found) ((whole, ap (λ (k : ℕ). Ok (record { nodes = k; root = whole })) same, t.marks), t.rooted)
