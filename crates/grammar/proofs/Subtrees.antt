-- The nodes of a subtree stand together in the node table, its root last. By induction on the tree: the words of an operand, or of the
-- inside of a bracket pair or a block, begin where those of the tree begin or where those of the left operand end.
use mathlib.Core.Path.{◌≡◌, refl, sym, ap, subst, ◌∙◌}
use mathlib.Core.Bool.{true}
use mathlib.Core.List.{List, [], ◌∷◌, ◌++◌, append_assoc}
use mathlib.Core.Option.{Option, some}
use Prim.Native.Nat.{ℕ, suc, pred, ◌+◌, ◌-◌, ◌*◌, ◌≤◌, ◌<◌}
use native.Mathlib.Omega.{arith}
use lib.ListN.{length, drop, get_or, length-append, get_or-append}
use lib.Seq.{append_snoc, drop-append_seam, drop-drop, get_or-drop, get_or-append-add}
use Rattle.grammar.specs.Bytes.{Bytes}
use Rattle.grammar.specs.Token.{Atom, Token, atom, structure, symbol, closing, keyword_let, keyword_in, keyword_end, as_written}
use Rattle.grammar.specs.Operator.{Fixity, Prefix, Infix, Postfix, Table}
use Rattle.grammar.specs.Scan.{Placed}
use Rattle.grammar.specs.Declaration.{Declaration, start_table, all_tokens, declare_all}
use Rattle.grammar.specs.Fault.{most_tokens}
use Rattle.grammar.specs.SpanTree.{apply, present, fixity, Admitted}
use Rattle.grammar.specs.Tree.{Tree, nothing, leaf, bracket, block, node, flat, span_tree}
use Rattle.grammar.specs.Nodes.{
  prefix_kind,
  infix_kind,
  postfix_kind,
  bracket_kind,
  block_kind,
  leaf_kind,
  written_offset,
  count,
  node_words,
  words_per_node,
  precedence_over,
  operator_words,
  words,
}
use Rattle.grammar.specs.Answer.{PastChecks, tokens_of, offset_of}
use Rattle.grammar.specs.Decoding.{byte_before, word_of}
use Rattle.grammar.proofs.Logic.{below}
use Rattle.grammar.proofs.TextParts.{Stand, stand_left, stand_right, offsets_stand}
use Rattle.grammar.proofs.Operands.{Operated, words-length}
use Rattle.grammar.proofs.Scanned.{length_tokens, scan-tokens}
use Rattle.grammar.proofs.ReadingTrees.{IsReading, reading_operated}
use Rattle.grammar.proofs.CheckedTrees.{InnerChecked}
use Rattle.grammar.proofs.SpanPlaces.{InSpan, in_text_lem, in_pair_lem, in_body_lem, in_left, in_right}
use Rattle.grammar.proofs.TextTree.{bracket_shorter, block_shorter, left_shorter, right_shorter}
use Rattle.grammar.proofs.Present.{some_node}
use Rattle.grammar.proofs.Doubling.{Unquoted}
use Rattle.grammar.proofs.BareNames.{behind_operator, behind_opening, behind_in, before_first}

-- The tree of each node, in the order of the table.
unfoldable pub subtrees : Tree → List Tree
subtrees nothing = []
subtrees (leaf t) = leaf t ∷ []
subtrees (bracket t) = subtrees t ++ bracket t ∷ []
subtrees (block ds t) = subtrees t ++ block ds t ∷ []
subtrees (node l m r) = subtrees l ++ (subtrees r ++ node l m r ∷ [])

pub subtrees_length : (t : Tree) → length (subtrees t) ≡ count t
unfolding subtrees count
subtrees_length nothing = refl
subtrees_length (leaf t) = refl
subtrees_length (bracket t) = simp length-append (omega (arith, subtrees_length t))
subtrees_length (block ds t) = simp length-append (omega (arith, subtrees_length t))
subtrees_length (node l m r) = simp length-append (omega (arith, subtrees_length l, subtrees_length r))

-- Node number `k` of a table has these six words.
pub record Node (ws : List ℕ) (k kind first second offset size precedence : ℕ) : Type 0 where
  pub has_kind : word_of ws k 0 ≡ kind
  pub has_first : word_of ws k 1 ≡ first
  pub has_second : word_of ws k 2 ≡ second
  pub has_offset : word_of ws k 3 ≡ offset
  pub has_size : word_of ws k 4 ≡ size
  pub has_precedence : word_of ws k 5 ≡ precedence

node_at :
    (ws v : List ℕ) (k : ℕ) {a b c d e p : ℕ} → drop (words_per_node * k) ws ≡ node_words a b c d e p ++ v → Node ws k a b c d e p
unfolding node_words
node_at ws v k {a} {b} {c} {d} {e} {p} h = record {
  has_kind = at 0;
  has_first = at 1;
  has_second = at 2;
  has_offset = at 3;
  has_size = at 4;
  has_precedence = at 5;
}
  where
    at : (j : ℕ) → word_of ws k j ≡ get_or (a ∷ b ∷ c ∷ d ∷ e ∷ p ∷ v) j 0
    at j = ap (λ i. get_or ws i 0) (omega arith) ∙ sym (get_or-drop (words_per_node * k) ws j 0) ∙ ap (λ u. get_or u j 0) h

-- Node number `k` is that of an operator in this form, with operands at `a` and `b`.
abbrev pub OperatorNode : List ℕ → ℕ → Fixity → ℕ → ℕ → ℕ → ℕ → ℕ → Type 0
OperatorNode ws k Prefix a b offset size precedence = Node ws k prefix_kind b 0 offset size precedence
OperatorNode ws k Infix a b offset size precedence = Node ws k infix_kind a b offset size precedence
OperatorNode ws k Postfix a b offset size precedence = Node ws k postfix_kind a 0 offset size precedence

operator_at :
    (ws v : List ℕ) (k : ℕ) (f : Fixity) (a b d e p : ℕ) → drop (words_per_node * k) ws ≡ operator_words (some f) a b d e p ++ v
    → OperatorNode ws k f a b d e p
unfolding operator_words
operator_at ws v k Prefix a b d e p h = node_at ws v k h
operator_at ws v k Infix a b d e p h = node_at ws v k h
operator_at ws v k Postfix a b d e p h = node_at ws v k h

-- The trees of the nodes in a list that begins with those of `u`; `u` has its nodes from number `n` on.
module _ (u : Tree) (vs : List Tree) (n k : ℕ) where
  earlier : n ≤ k → k < n + count u → get_or (subtrees u ++ vs) (k - n) nothing ≡ get_or (subtrees u) (k - n) nothing
  earlier a b = get_or-append (subtrees u) vs nothing (k - n) (omega (arith, subtrees_length u))

  later : n + count u ≤ k → get_or (subtrees u ++ vs) (k - n) nothing ≡ get_or vs (k - (n + count u)) nothing
  later a =
      let place : k - n ≡ length (subtrees u) + (k - (n + count u)) = omega (arith, subtrees_length u) in
      ap (λ j. get_or (subtrees u ++ vs) j nothing) place ∙ get_or-append-add (subtrees u) vs (k - (n + count u)) nothing

only : (t : Tree) (j : ℕ) → j ≡ 0 → get_or (t ∷ []) j nothing ≡ t
only t j e = ap (λ i. get_or (t ∷ []) i nothing) e

-- A text, its tokens and their offsets, and a node table.
module _ (text : Bytes) (ts : List Token) (o : ℕ → ℕ) (ws : List ℕ) where
  -- A tree that is there, with its nodes in the table from number `n` on and its tokens in the text from number `i` on.
  pub record Subtree (t : Tree) (i n : ℕ) : Type 0 where
    pub there : present (span_tree t) ≡ true
    pub operated : Operated t
    pub table : Table
    pub admitted : Admitted table (span_tree t)
    pub checked : InnerChecked table t
    pub place : InSpan ts table t i
    pub stands : Stand text o i (flat t)
    pub fits : length (flat t) ≤ most_tokens
    pub bare : Unquoted (byte_before text (o i))
    pub rest : List ℕ
    pub written : drop (words_per_node * n) ws ≡ words o table t i n ++ rest

  -- What follows the words of a tree.
  follows :
      (T : Table) (t : Tree) (i n : ℕ) (v : List ℕ) → Operated t → drop (words_per_node * n) ws ≡ words o T t i n ++ v
      → (k : ℕ) → k ≡ n + count t → drop (words_per_node * k) ws ≡ v
  follows T t i n v q e k h =
      let place : words_per_node * k ≡ words_per_node * n + length (words o T t i n) = omega (arith, words-length o T t i n q) in
      ap (λ j. drop j ws) place
      ∙ sym (drop-drop (length (words o T t i n)) (words_per_node * n) ws)
      ∙ ap (drop (length (words o T t i n))) e
      ∙ drop-append_seam (words o T t i n) v

  -- The inside of a bracket pair, and its node.
  module _ (t : Tree) (i n : ℕ) (s : Subtree (bracket t) i n) where
    bracket_words : List ℕ
    bracket_words = node_words bracket_kind (pred (n + count t)) 0 0 0 0 ++ s.rest

    bracket_written : drop (words_per_node * n) ws ≡ words o s.table t (suc i) n ++ bracket_words
    unfolding words bracket_words
    bracket_written =
        s.written ∙ append_assoc (words o s.table t (suc i) n) (node_words bracket_kind (pred (n + count t)) 0 0 0 0) s.rest

    pub in_bracket_lem : Subtree t (suc i) n
    unfolding flat
    in_bracket_lem = record {
      there = s.checked.0.1;
      operated = s.operated;
      table = s.table;
      admitted = s.checked.0.0;
      checked = s.checked.1;
      place = in_pair_lem s.place;
      stands = stand_left text o (suc i) (flat t) (structure closing ∷ []) s.stands.1;
      fits = omega (arith, bracket_shorter t most_tokens s.fits);
      bare = behind_opening text o i s.stands.0;
      rest = bracket_words;
      written = bracket_written;
    }

    pub bracket_node_lem : (k : ℕ) → suc k ≡ n + count (bracket t) → Node ws k bracket_kind (pred (n + count t)) 0 0 0 0
    unfolding bracket_words count
    bracket_node_lem k e = node_at ws s.rest k (follows s.table t (suc i) n bracket_words s.operated bracket_written k (omega arith))

  -- The body of a block, its declarations, and its node.
  module _ (ds : List Declaration) (t : Tree) (i n : ℕ) (s : Subtree (block ds t) i n) where
    -- The number of the `in`, and the tokens up to it.
    abbrev at_in : ℕ
    at_in = suc (i + length (all_tokens ds))

    abbrev pub let_to_in : List Token
    let_to_in = structure keyword_let ∷ all_tokens ds ++ structure keyword_in ∷ []

    abbrev part_size : ℕ
    part_size = o at_in + 2 - o i

    tokens_stand : Stand text o i (let_to_in ++ flat t)
    unfolding flat
    tokens_stand =
        subst (Stand text o i) (sym (append_snoc (structure keyword_let ∷ all_tokens ds) (structure keyword_in) (flat t)))
        (stand_left text o i (structure keyword_let ∷ all_tokens ds ++ structure keyword_in ∷ flat t) (structure keyword_end ∷ []) s.stands)

    pub declarations_stand : Stand text o i let_to_in
    declarations_stand = stand_left text o i let_to_in (flat t) tokens_stand

    in_stands : Stand text o at_in (structure keyword_in ∷ [])
    in_stands =
        subst (λ j. Stand text o j (structure keyword_in ∷ [])) (omega arith)
        (stand_right text o i (structure keyword_let ∷ all_tokens ds) (structure keyword_in ∷ []) declarations_stand)

    body_stands : Stand text o (suc at_in) (flat t)
    body_stands =
        let size = length-append (all_tokens ds) (structure keyword_in ∷ []) in
        subst (λ j. Stand text o j (flat t)) (omega arith) (stand_right text o i let_to_in (flat t) tokens_stand)

    block_words : List ℕ
    block_words = node_words block_kind (pred (n + count t)) 0 (o i) part_size 0 ++ s.rest

    -- The operators in force in the body.
    abbrev within : Table
    within = declare_all s.table ds

    block_written : drop (words_per_node * n) ws ≡ words o within t (suc at_in) n ++ block_words
    unfolding words block_words
    block_written =
        s.written ∙ append_assoc (words o within t (suc at_in) n) (node_words block_kind (pred (n + count t)) 0 (o i) part_size 0) s.rest

    pub in_block : Subtree t (suc at_in) n
    in_block = record {
      there = s.checked.2.1;
      operated = s.operated;
      table = within;
      admitted = s.checked.2.0;
      checked = s.checked.3;
      place = in_body_lem s.place;
      stands = body_stands;
      fits = omega (arith, block_shorter ds t most_tokens s.fits);
      bare = behind_in text o at_in in_stands.0;
      rest = block_words;
      written = block_written;
    }

    pub block_node_lem : (k : ℕ) → suc k ≡ n + count (block ds t) → Node ws k block_kind (pred (n + count t)) 0 (o i) part_size 0
    unfolding block_words count
    block_node_lem k e = node_at ws s.rest k (follows within t (suc at_in) n block_words s.operated block_written k (omega arith))

  -- The operands of an operator, and its node.
  module _ (l : Tree) (m : Bytes) (r : Tree) (i n : ℕ) (s : Subtree (node l m r) i n) where
    -- The number of the operator, and the form in which it stands.
    abbrev pub at_operator : ℕ
    at_operator = i + length (flat l)

    abbrev pub form : Fixity
    form = s.operated.2.0

    pub operator_stands : Stand text o at_operator (atom (symbol m) ∷ flat r)
    unfolding flat
    operator_stands = stand_right text o i (flat l) (atom (symbol m) ∷ flat r) s.stands

    operator_words_lem : List ℕ
    operator_words_lem =
        operator_words (some form) (pred (n + count l)) (pred (n + count l + count r)) (o at_operator) (length m) (precedence_over s.table l m r)
        ++ s.rest

    left-written :
        drop (words_per_node * n) ws ≡ words o s.table l i n ++ (words o s.table r (suc at_operator) (n + count l) ++ operator_words_lem)
    unfolding words operator_words_lem
    left-written = s.written ∙ append_assoc left (right ++ own fixed) s.rest ∙ ap (◌++◌ left) behind-left
      where
        fixed : Option Fixity
        fixed = fixity (span_tree l) (span_tree r)

        left : List ℕ
        left = words o s.table l i n

        right : List ℕ
        right = words o s.table r (suc at_operator) (n + count l)

        own : Option Fixity → List ℕ
        own g =
            operator_words g (pred (n + count l)) (pred (n + count l + count r)) (o at_operator) (length m) (precedence_over s.table l m r)

        behind-left : (right ++ own fixed) ++ s.rest ≡ right ++ (own (some form) ++ s.rest)
        behind-left = append_assoc right (own fixed) s.rest ∙ ap (λ g. right ++ (own g ++ s.rest)) s.operated.2.1

    right-written : drop (words_per_node * (n + count l)) ws ≡ words o s.table r (suc at_operator) (n + count l) ++ operator_words_lem
    right-written = follows s.table l i n _ s.operated.0 left-written (n + count l) refl

    -- What the operator's own tree says of its operands.
    pub over : Admitted s.table (apply (span_tree l) m (span_tree r))
    unfolding span_tree
    over = s.admitted

    pub on_left_lem : present (span_tree l) ≡ true → Subtree l i n
    unfolding flat
    on_left_lem p = record {
      there = p;
      operated = s.operated.0;
      table = s.table;
      admitted = over.0;
      checked = s.checked.0;
      place = in_left s.place;
      stands = stand_left text o i (flat l) (atom (symbol m) ∷ flat r) s.stands;
      fits = left_shorter l m r most_tokens s.fits;
      bare = s.bare;
      rest = words o s.table r (suc at_operator) (n + count l) ++ operator_words_lem;
      written = left-written;
    }

    pub on_right_lem : present (span_tree r) ≡ true → Subtree r (suc at_operator) (n + count l)
    on_right_lem p = record {
      there = p;
      operated = s.operated.1;
      table = s.table;
      admitted = over.1;
      checked = s.checked.1;
      place = in_right s.place;
      stands = operator_stands.1;
      fits = right_shorter l m r most_tokens s.fits;
      bare = behind_operator text o at_operator m operator_stands.0;
      rest = operator_words_lem;
      written = right-written;
    }

    pub operator_node :
        (k : ℕ) → suc k ≡ n + count (node l m r)
        → OperatorNode ws k form (pred (n + count l)) (pred (n + count l + count r)) (o at_operator) (length m) (precedence_over s.table l m r)
    unfolding operator_words_lem count
    operator_node k e =
        operator_at ws s.rest k form _ _ _ _ _
        (follows s.table r (suc at_operator) (n + count l) operator_words_lem s.operated.1 right-written k (omega arith))

  -- The node of a name or number.
  pub leaf_node_lem :
      (a : Atom) (i n : ℕ) → Subtree (leaf a) i n → (k : ℕ) → suc k ≡ n + count (leaf a)
      → Node ws k (leaf_kind a) 0 0 (written_offset a (o i)) (length (as_written a)) 0
  unfolding words count
  leaf_node_lem a i n s k e =
      let h : k ≡ n = omega arith in
      node_at ws s.rest k (ap (λ j. drop (words_per_node * j) ws) h ∙ s.written)

  -- The subtree of `t` whose root is node number `k`, where the nodes of `t` begin with number `n`.
  pub record Rooted (t : Tree) (n k : ℕ) : Type 0 where
    pub tree : Tree
    pub token : ℕ
    pub first : ℕ
    pub subtree : Subtree tree token first
    pub last : suc k ≡ first + count tree
    pub among : get_or (subtrees t) (k - n) nothing ≡ tree

  -- It is that of an operand or of the inside, or the tree itself.
  further :
      {t u : Tree} {n p k : ℕ} → Rooted u p k → get_or (subtrees t) (k - n) nothing ≡ get_or (subtrees u) (k - p) nothing → Rooted t n k
  further r e =
      record { tree = r.tree; token = r.token; first = r.first; subtree = r.subtree; last = r.last; among = e ∙ r.among }

  itself : (t : Tree) (i n k : ℕ) → Subtree t i n → suc k ≡ n + count t → get_or (subtrees t) (k - n) nothing ≡ t → Rooted t n k
  itself t i n k s e h = record { tree = t; token = i; first = n; subtree = s; last = e; among = h }

  -- Every node of a tree is the root of a subtree.
  pub rooted : (t : Tree) (i n : ℕ) → Subtree t i n → (k : ℕ) → n ≤ k → k < n + count t → Rooted t n k
  unfolding count subtrees
  rooted nothing i n s k a b = absurd (omega arith)
  rooted (leaf x) i n s k a b = itself (leaf x) i n k s (omega arith) (only (leaf x) (k - n) (omega arith))
  rooted (bracket t) i n s k a b =
      below k (n + count t) (λ h. further (rooted t _ n (in_bracket_lem t i n s) k a h) (earlier t (bracket t ∷ []) n k a h))
      (λ h. itself (bracket t) i n k s (omega arith) (later t (bracket t ∷ []) n k h ∙ only (bracket t) (k - (n + count t)) (omega arith)))
  rooted (block ds t) i n s k a b =
      below k (n + count t) (λ h. further (rooted t _ n (in_block ds t i n s) k a h) (earlier t (block ds t ∷ []) n k a h))
      (λ h. itself (block ds t) i n k s (omega arith) (later t (block ds t ∷ []) n k h ∙ only (block ds t) (k - (n + count t)) (omega arith)))
  rooted (node l m r) i n s k a b =
      let p = n + count l in
      let own = node l m r ∷ [] in
      below k p (λ h. further (rooted l i n (on_left_lem l m r i n s (some_node l (omega arith))) k a h) (earlier l (subtrees r ++ own) n k a h))
      (λ h. below k (p + count r)
      (λ g. further (rooted r _ p (on_right_lem l m r i n s (some_node r (omega arith))) k h g) (later l (subtrees r ++ own) n k h ∙ earlier r own p k h g))
      (λ g. itself (node l m r) i n k s (omega arith) (later l (subtrees r ++ own) n k h ∙ later r own p k g ∙ only (node l m r) (k - (p + count r)) (omega arith))))

-- A table that begins with the words of a text's tree.
module _ (text : Bytes) (ps : List Placed) (h : PastChecks text ps) (t : Tree) (is : IsReading (tokens_of ps) t) (v : List ℕ) where
  pub text_subtree : 1 ≤ count t → Subtree text (tokens_of ps) (offset_of text ps) (words (offset_of text ps) start_table t 0 0 ++ v) t 0 0
  text_subtree l = record {
    there = some_node t l;
    operated = reading_operated is;
    table = start_table;
    admitted = is.admitted;
    checked = is.inner;
    place = in_text_lem is.tokens;
    stands = subst (Stand text (offset_of text ps) 0) (sym is.tokens) (offsets_stand most_tokens text ps h.scanned);
    fits = omega (arith, ap length is.tokens, length_tokens ps, (scan-tokens most_tokens 0 text ps h.scanned).1);
    bare = before_first most_tokens text ps h.scanned;
    rest = v;
    written = refl;
  }

  pub text_rooted : (k : ℕ) → k < count t → Rooted text (tokens_of ps) (offset_of text ps) (words (offset_of text ps) start_table t 0 0 ++ v) t 0 k
  text_rooted k l =
      rooted text (tokens_of ps) (offset_of text ps) (words (offset_of text ps) start_table t 0 0 ++ v) t 0 0 (text_subtree (omega arith)) k (omega arith)
      (omega arith)
