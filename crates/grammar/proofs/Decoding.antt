-- The words of a text's tree decode to it, and its nodes are in order. By induction: the node of a subtree's root gives its kind, its
-- part of the text and the roots of its children, which are those of subtrees again.
use mathlib.Core.Path.{◌≡◌, refl, sym, ap, ap₂, subst, ◌∙◌}
use mathlib.Core.Bool.{true}
use mathlib.Core.Logic.{◌⊎◌, inl, inr}
use mathlib.Core.List.{List, [], ◌∷◌, ◌++◌}
use mathlib.Core.Option.{Option, some}
use Prim.Native.Nat.{ℕ, zero, suc, pred, ◌+◌, ◌-◌, ◌*◌, ◌≤◌, ◌<◌}
use native.Mathlib.Omega.{arith}
use lib.ListN.{length, take, drop, length-append}
use lib.Seq.{take-append_seam, take_at}
use Rattle.grammar.specs.Bytes.{Bytes}
use Rattle.grammar.specs.Token.{Atom, symbol, number, quoted, is_quote, doubled, Token, atom, structure, keyword_let, keyword_in, as_written, spelling}
use Rattle.grammar.specs.Operator.{Fixity, Prefix, Infix, Postfix}
use Rattle.grammar.specs.Scan.{Placed}
use Rattle.grammar.specs.Declaration.{Declaration, start_table, all_tokens, are_declarations, declarations}
use Rattle.grammar.specs.Fault.{most_tokens}
use Rattle.grammar.specs.SpanTree.{present}
use Rattle.grammar.specs.Tree.{Tree, nothing, leaf, bracket, block, node, flat, span_tree}
use Rattle.grammar.specs.Blocks.{under_bracket, under_block, under_operator}
use Rattle.grammar.specs.Nodes.{name_kind, number_kind, leaf_kind, written_offset, count, words_per_node, words}
use Rattle.grammar.specs.Answer.{PastChecks, tokens_of, offset_of}
use Rattle.grammar.specs.Decoding.{
  decode_table,
  part_of,
  byte_before,
  name_behind,
  between_ends,
  declarations_scanned,
  declarations_in,
  under_declared,
  Together,
  node_tree,
  decode_in,
  decode,
  Ordered,
  leaf_node,
  prefix_or_postfix_node,
  infix_node,
  bracket_node,
  block_node,
}
use Rattle.grammar.specs.Claim.{FromLetToIn}
use Rattle.grammar.proofs.Scanned.{scan-spells}
use Rattle.grammar.proofs.TextParts.{Here}
use Rattle.grammar.proofs.Declarations.{declarations_of_lem}
use Rattle.grammar.proofs.Operands.{words-length}
use Rattle.grammar.proofs.WordsOffsets.{block_size}
use Rattle.grammar.proofs.BareNames.{quote-before}
use Rattle.grammar.proofs.Doubling.{Unquoted, unquoted, undoubled-doubled}
use Rattle.grammar.proofs.Present.{counted, no_node, Operands, operands}
use Rattle.grammar.proofs.ReadingTrees.{IsReading}
use Rattle.grammar.proofs.Subtrees.{
  Node,
  OperatorNode,
  Subtree,
  leaf_node_lem,
  in_bracket_lem,
  bracket_node_lem,
  in_block,
  block_node_lem,
  form,
  on_left_lem,
  on_right_lem,
  operator_node,
  Rooted,
  text_subtree,
  text_rooted,
}
use Rattle.grammar.proofs.NodeCharacters.{root_gives}

-- The declarations that the text of a block from `let` to `in` spells are the block's.
between_ends_lem : (x y : Token) (ts : List Token) → between_ends (x ∷ ts ++ y ∷ []) ≡ ts
unfolding between_ends
between_ends_lem x y ts =
    let size : length (ts ++ y ∷ []) ≡ length ts + 1 = length-append ts (y ∷ []) in
    let inner : suc (length (ts ++ y ∷ [])) - 2 ≡ length ts = omega arith in
    ap (λ n. take n (ts ++ y ∷ [])) inner ∙ take-append_seam ts (y ∷ [])

declarations-spelled :
    (ds : List Declaration) (s : Bytes) → are_declarations ds ≡ true → length (all_tokens ds) + 2 ≤ most_tokens → FromLetToIn ds s
    → declarations_in s ≡ some ds
unfolding declarations_in declarations_scanned
declarations-spelled ds s e n h =
    let size = length-append (all_tokens ds) (structure keyword_in ∷ []) in
    let (ps, found, same) = scan-spells h.spells most_tokens 0 (omega arith) in
    ap declarations_scanned found
    ∙ ap some
    (ap (λ ts. declarations (between_ends ts)) same
    ∙ ap declarations (between_ends_lem (structure keyword_let) (structure keyword_in) (all_tokens ds))
    ∙ declarations_of_lem ds e)

-- A bare name and a quoted one, told by the byte before their bytes.
bare_name : (b : ℕ) (w : Bytes) → Unquoted b → name_behind b w ≡ symbol w
unfolding name_behind
bare_name b w h = rw (unquoted b h, name_behind)

quoted_name_lem : (b : ℕ) (c : Bytes) → b ≡ 39 → name_behind b (doubled c) ≡ quoted c
unfolding name_behind is_quote
quoted_name_lem b c h = ap (λ x. name_behind x (doubled c)) h ∙ ap quoted (undoubled-doubled c)

-- A text, its tokens and their offsets, and a node table.
module _ (text : Bytes) (ts : List Token) (o : ℕ → ℕ) (ws : List ℕ) where
  -- A name or number, from its bytes as written and the byte before them.
  leaf_tree :
      (a : Atom) (i : ℕ) → Here text o i (atom a) → Unquoted (byte_before text (o i)) → (x y : Option Tree)
      → node_tree (leaf_kind a) x y (byte_before text (written_offset a (o i))) (as_written a) ≡ some (leaf a)
  unfolding node_tree leaf_kind written_offset as_written spelling
  leaf_tree (symbol w) i h n x y = ap (λ a. some (leaf a)) (bare_name (byte_before text (o i)) w n)
  leaf_tree (number d) i h n x y = refl
  leaf_tree (quoted c) i h n x y =
      ap (λ a. some (leaf a)) (quoted_name_lem (byte_before text (o i + 1)) c (quote-before text (o i) _ h.written))

  -- The tree of a node with these words, over the part `s` of the text.
  node_decoded :
      (f : ℕ) {k kind first second offset size precedence : ℕ} {s : Bytes} → Node ws k kind first second offset size precedence
      → part_of text ws k ≡ s
      → decode_in (suc f) text ws k ≡ node_tree kind (decode_in f text ws first) (decode_in f text ws second) (byte_before text offset) s
  unfolding decode_in
  node_decoded f h e = rw (e, h.has_kind, h.has_first, h.has_second, h.has_offset)

  -- The operator in each form, with the trees of its operands decoded.
  operator_decoded :
      (f : ℕ) (g : Fixity) (l : Tree) (m : Bytes) (r : Tree) (k a b offset size precedence : ℕ) → Operands g l r
      → OperatorNode ws k g a b offset size precedence → part_of text ws k ≡ m
      → (present (span_tree l) ≡ true → decode_in f text ws a ≡ some l) → (present (span_tree r) ≡ true → decode_in f text ws b ≡ some r)
      → decode_in (suc f) text ws k ≡ some (node l m r)
  unfolding node_tree under_operator
  operator_decoded f Prefix l m r k a b offset size precedence h w e left right =
      node_decoded f w e ∙ ap (under_operator m (some nothing)) (right h.1) ∙ ap (λ x. some (node x m r)) (sym h.0)
  operator_decoded f Infix l m r k a b offset size precedence h w e left right =
      node_decoded f w e ∙ ap₂ (under_operator m) (left h.0) (right h.1)
  operator_decoded f Postfix l m r k a b offset size precedence h w e left right =
      node_decoded f w e ∙ ap (λ x. under_operator m x (some nothing)) (left h.0) ∙ ap (λ x. some (node l m x)) (sym h.1)

  -- The node of a subtree's root decodes to it.
  decodes :
      (f : ℕ) (t : Tree) (i n k : ℕ) → Subtree text ts o ws t i n → suc k ≡ n + count t → k < f → decode_in f text ws k ≡ some t
  unfolding flat count node_tree under_bracket under_block under_declared
  decodes zero t i n k s e h = absurd (omega arith)
  decodes (suc f) nothing i n k s e h = absurd (omega (arith, counted nothing s.there))
  decodes (suc f) (leaf a) i n k s e h =
      node_decoded f (leaf_node_lem text ts o ws a i n s k e) (root_gives text o ws (leaf a) i n k s e)
      ∙ leaf_tree a i s.stands.0 s.bare (decode_in f text ws 0) (decode_in f text ws 0)
  decodes (suc f) (bracket t) i n k s e h =
      let inside = in_bracket_lem text ts o ws t i n s in
      let nodes = counted t inside.there in
      node_decoded f (bracket_node_lem text ts o ws t i n s k e) refl
      ∙ ap under_bracket (decodes f t (suc i) n (pred (n + count t)) inside (omega arith) (omega arith))
  decodes (suc f) (block ds t) i n k s e h =
      let body = in_block text ts o ws ds t i n s in
      let nodes = counted t body.there in
      let spelled = root_gives text o ws (block ds t) i n k s e in
      node_decoded f (block_node_lem text ts o ws ds t i n s k e) refl
      ∙ ap₂ under_declared (declarations-spelled ds _ s.checked.0 (omega (arith, s.fits, block_size ds t)) spelled)
      (decodes f t _ n (pred (n + count t)) body (omega arith) (omega arith))
  decodes (suc f) (node l m r) i n k s e h =
      let g = form text ts o ws l m r i n s in
      let left : present (span_tree l) ≡ true → decode_in f text ws (pred (n + count l)) ≡ some l =
      λ p. let nodes = counted l p in
      decodes f l i n (pred (n + count l)) (on_left_lem text ts o ws l m r i n s p) (omega arith) (omega arith) in
      let right : present (span_tree r) ≡ true → decode_in f text ws (pred (n + count l + count r)) ≡ some r =
      λ p. let nodes = counted r p in
      decodes f r _ (n + count l) (pred (n + count l + count r)) (on_right_lem text ts o ws l m r i n s p) (omega arith) (omega arith) in
      operator_decoded f g l m r k _ _ _ _ _ (operands g l r s.operated.2.1) (operator_node text ts o ws l m r i n s k e)
      (root_gives text o ws (node l m r) i n k s e) left right

  -- The kind of a name or number; the node of an operator in each form.
  leaf_kind_lem : (a : Atom) {kind : ℕ} → kind ≡ leaf_kind a → (kind ≡ name_kind) ⊎ (kind ≡ number_kind)
  unfolding leaf_kind
  leaf_kind_lem (symbol w) e = inl e
  leaf_kind_lem (number d) e = inr e
  leaf_kind_lem (quoted c) e = inl e

  operator_ordered :
      (g : Fixity) (l r : Tree) (n k offset size precedence : ℕ) → suc k ≡ n + (count l + count r + 1) → Operands g l r
      → OperatorNode ws k g (pred (n + count l)) (pred (n + count l + count r)) offset size precedence → Ordered ws k
  operator_ordered Prefix l r n k offset size precedence e h w =
      let right = counted r h.1 in
      prefix_or_postfix_node (inl w.has_kind) (omega (arith, w.has_first)) w.has_second
  operator_ordered Infix l r n k offset size precedence e h w =
      let left = counted l h.0 in
      let right = counted r h.1 in
      infix_node w.has_kind (omega (arith, w.has_first, w.has_second)) (omega (arith, w.has_second))
  operator_ordered Postfix l r n k offset size precedence e h w =
      let left = counted l h.0 in
      prefix_or_postfix_node (inr w.has_kind) (omega (arith, w.has_first)) w.has_second

  -- The node of a subtree's root is in order.
  ordered : (t : Tree) (i n k : ℕ) → Subtree text ts o ws t i n → suc k ≡ n + count t → Ordered ws k
  unfolding count leaf_kind
  ordered nothing i n k s e = absurd (omega (arith, counted nothing s.there))
  ordered (leaf a) i n k s e =
      let w = leaf_node_lem text ts o ws a i n s k e in
      leaf_node (leaf_kind_lem a w.has_kind) w.has_first w.has_second
  ordered (bracket t) i n k s e =
      let w = bracket_node_lem text ts o ws t i n s k e in
      let child = counted t (in_bracket_lem text ts o ws t i n s).there in
      bracket_node w.has_kind (omega (arith, w.has_first)) w.has_second w.has_offset w.has_size
  ordered (block ds t) i n k s e =
      let w = block_node_lem text ts o ws ds t i n s k e in
      let child = counted t (in_block text ts o ws ds t i n s).there in
      block_node w.has_kind (omega (arith, w.has_first)) w.has_second
  ordered (node l m r) i n k s e =
      operator_ordered (form text ts o ws l m r i n s) l r n k _ _ _ e (operands (form text ts o ws l m r i n s) l r s.operated.2.1)
      (operator_node text ts o ws l m r i n s k e)

-- A table that begins with the words of a text's tree.
module _ (text : Bytes) (ps : List Placed) (h : PastChecks text ps) (t : Tree) (is : IsReading (tokens_of ps) t) (v : List ℕ) where
  abbrev offsets : ℕ → ℕ
  offsets = offset_of text ps

  abbrev table : List ℕ
  table = words offsets start_table t 0 0 ++ v

  -- The words of what a text reads as decode to it.
  pub decode_tree : decode_table text (words (offset_of text ps) start_table t 0 0 ++ v) (count t) ≡ some t
  unfolding decode_table decode
  decode_tree = go (count t) refl
    where
      go : (c : ℕ) → count t ≡ c → decode_table text table c ≡ some t
      go zero e = rw (no_node t e)
      go (suc k) e = decodes text (tokens_of ps) offsets table (suc k) t 0 0 k (text_subtree text ps h t is v (omega arith)) (omega arith) (omega arith)

  -- "Children come before parents, left before right"; unused words are 0.
  pub nodes_ordered : (k : ℕ) → k < count t → Ordered (words (offset_of text ps) start_table t 0 0 ++ v) k
  nodes_ordered k l =
      let r = text_rooted text ps h t is v k l in
      ordered text (tokens_of ps) offsets table r.tree r.token r.first k r.subtree r.last

  -- "so the words of a subtree stand together in the node table": the nodes of the tree that node `k` decodes to end with `k`.
  pub subtree_together :
      (k : ℕ) → k < count t → Together text (words (offset_of text ps) start_table t 0 0 ++ v) k
  unfolding decode
  subtree_together k l =
      record {
        tree = u;
        decodes = decoded;
        fits = omega (arith, r.last);
        offsets = offsets;
        table = r.subtree.table;
        token = r.token;
        written = subst WordsAt first together;
      }
    where
      r : Rooted text (tokens_of ps) offsets table t 0 k
      r = text_rooted text ps h t is v k l

      u : Tree
      u = r.tree

      decoded : decode_in (suc k) text table k ≡ some u
      decoded = decodes text (tokens_of ps) offsets table (suc k) u r.token r.first k r.subtree r.last (omega arith)

      WordsAt : ℕ → Type 0
      WordsAt n = take (words_per_node * count u) (drop (words_per_node * n) table) ≡ words offsets r.subtree.table u r.token n

      first : r.first ≡ suc k - count u
      first = omega (arith, r.last)

      together : WordsAt r.first
      together =
          ap (take (words_per_node * count u)) r.subtree.written
          ∙ take_at (words offsets r.subtree.table u r.token r.first) r.subtree.rest (words_per_node * count u)
          (words-length offsets r.subtree.table u r.token r.first r.subtree.operated)
