-- In the node table of a text, offset and length of each node give its part of the text: the node is the root of a subtree, whose
-- tokens stand in the text.
use mathlib.Core.Path.{◌≡◌, refl, sym, ap, ap₂, subst, ◌∙◌}
use mathlib.Core.List.{List, [], ◌∷◌, ◌++◌, map, map-append}
use mathlib.Core.Option.{Option, none, some}
use Prim.Native.Nat.{ℕ, suc, ◌+◌, ◌-◌, ◌≤◌, ◌<◌}
use native.Mathlib.Omega.{arith}
use native.Mathlib.Nat.{sub-zero}
use lib.ListN.{length, take, drop, get_or, length-map, get_or-map, get_or-eq_default}
use lib.Seq.{take-append_seam}
use Rattle.grammar.specs.Bytes.{Bytes}
use Rattle.grammar.specs.Token.{Token, structure, symbol, keyword_let, keyword_in, spelling, Atom, as_written}
use Rattle.grammar.specs.Operator.{Fixity, Prefix, Infix, Postfix}
use Rattle.grammar.specs.Scan.{Placed}
use Rattle.grammar.specs.Declaration.{Declaration, start_table, all_tokens}
use Rattle.grammar.specs.Tree.{Tree, nothing, leaf, bracket, block, node, flat}
use Rattle.grammar.specs.Nodes.{written_offset, count, words}
use Rattle.grammar.specs.Answer.{PastChecks, tokens_of, offset_of}
use Rattle.grammar.specs.Decoding.{part_of}
use Rattle.grammar.specs.Claim.{node_atoms, node_blocks, FromLetToIn}
use Rattle.grammar.proofs.ReadingTrees.{IsReading}
use Rattle.grammar.proofs.Logic.{impossible, below}
use Rattle.grammar.proofs.Offsets.{written_stands}
use Rattle.grammar.proofs.TextParts.{Part, Stand, part}
use Rattle.grammar.proofs.Subtrees.{
  subtrees,
  subtrees_length,
  Node,
  OperatorNode,
  Subtree,
  leaf_node_lem,
  declarations_stand,
  block_node_lem,
  form,
  operator_stands,
  operator_node,
  text_rooted,
}

-- The name, number or operator at the root of a tree.
unfoldable atom_of : Tree → Option Atom
atom_of nothing = none
atom_of (leaf a) = some a
atom_of (bracket t) = none
atom_of (block ds t) = none
atom_of (node l m r) = some (symbol m)

-- The declarations of a block.
unfoldable block_of : Tree → Option (List Declaration)
block_of nothing = none
block_of (leaf t) = none
block_of (bracket t) = none
block_of (block ds t) = some ds
block_of (node l m r) = none

-- A list with an entry for each node, in the order of the table.
module _
    {A : Type 0} (f : Tree → List A) (own : Tree → A) (empty : f nothing ≡ []) (at_leaf : (a : Atom) → f (leaf a) ≡ own (leaf a) ∷ [])
    (at_bracket : (t : Tree) → f (bracket t) ≡ f t ++ own (bracket t) ∷ [])
    (at_block : (ds : List Declaration) (t : Tree) → f (block ds t) ≡ f t ++ own (block ds t) ∷ [])
    (at-node : (l : Tree) (m : Bytes) (r : Tree) → f (node l m r) ≡ f l ++ (f r ++ own (node l m r) ∷ [])) where
  behind : (ts : List Tree) (u : Tree) (v : List A) → map own ts ≡ v → map own (ts ++ u ∷ []) ≡ v ++ own u ∷ []
  behind ts u v e = map-append own ts (u ∷ []) ∙ ap (λ w. w ++ own u ∷ []) e

  listed : (t : Tree) → map own (subtrees t) ≡ f t
  unfolding subtrees
  listed nothing = sym empty
  listed (leaf t) = sym (at_leaf t)
  listed (bracket t) = behind (subtrees t) (bracket t) (f t) (listed t) ∙ sym (at_bracket t)
  listed (block ds t) = behind (subtrees t) (block ds t) (f t) (listed t) ∙ sym (at_block ds t)
  listed (node l m r) =
      map-append own (subtrees l) (subtrees r ++ node l m r ∷ [])
      ∙ ap₂ ◌++◌ (listed l) (behind (subtrees r) (node l m r) (f r) (listed r)) ∙ sym (at-node l m r)

atoms_of : (t : Tree) → map atom_of (subtrees t) ≡ node_atoms t
unfolding atom_of node_atoms
atoms_of = listed node_atoms atom_of refl (λ t. refl) (λ t. refl) (λ ds t. refl) (λ l m r. refl)

blocks_of : (t : Tree) → map block_of (subtrees t) ≡ node_blocks t
unfolding block_of node_blocks
blocks_of = listed node_blocks block_of refl (λ t. refl) (λ t. refl) (λ ds t. refl) (λ l m r. refl)

-- An entry of such a list that is there is that of a node.
node_of : {A : Type 0} (xs : List (Option A)) (t : Tree) → length xs ≡ count t → (k : ℕ) (x : A) → get_or xs k none ≡ some x → k < count t
node_of xs t e k x f =
    below k (count t) (λ l. l) (λ l. let none_left : get_or xs k none ≡ none = get_or-eq_default xs none (omega arith) in impossible cc)

pub atom_node : (t : Tree) (k : ℕ) (a : Atom) → get_or (node_atoms t) k none ≡ some a → k < count t
atom_node t = node_of (node_atoms t) t (sym (ap length (atoms_of t)) ∙ length-map (subtrees t) atom_of ∙ subtrees_length t)

pub block_of_lem : (t : Tree) (k : ℕ) (ds : List Declaration) → get_or (node_blocks t) k none ≡ some ds → k < count t
block_of_lem t = node_of (node_blocks t) t (sym (ap length (blocks_of t)) ∙ length-map (subtrees t) block_of ∙ subtrees_length t)

-- The part of the text that belongs to the root of a tree.
abbrev pub Gives : Tree → Bytes → Type 0
Gives nothing s = Unit {0}
Gives (leaf a) s = s ≡ as_written a
Gives (bracket t) s = Unit {0}
Gives (block ds t) s = FromLetToIn ds s
Gives (node l m r) s = s ≡ m

gives_atom : (t : Tree) (s : Bytes) (a : Atom) → Gives t s → atom_of t ≡ some a → s ≡ as_written a
unfolding atom_of as_written
gives_atom nothing s a g e = impossible cc
gives_atom (leaf b) s a g e = let q : b ≡ a = cc in g ∙ ap as_written q
gives_atom (bracket t) s a g e = impossible cc
gives_atom (block ds t) s a g e = impossible cc
gives_atom (node l m r) s a g e = let q : symbol m ≡ a = cc in g ∙ ap as_written q

gives_block : (t : Tree) (s : Bytes) (ds : List Declaration) → Gives t s → block_of t ≡ some ds → FromLetToIn ds s
unfolding block_of
gives_block nothing s ds g e = impossible cc
gives_block (leaf t) s ds g e = impossible cc
gives_block (bracket t) s ds g e = impossible cc
gives_block (block es t) s ds g e = let q : es ≡ ds = cc in subst (λ d. FromLetToIn d s) q g
gives_block (node l m r) s ds g e = impossible cc

module _ (text : Bytes) (o : ℕ → ℕ) where
  -- The text of a block from `let` to `in`.
  let_to_in_lem :
      (ds : List Declaration) (i : ℕ) → Stand text o i (structure keyword_let ∷ all_tokens ds ++ structure keyword_in ∷ [])
      → FromLetToIn ds (take (o (suc (i + length (all_tokens ds))) + 2 - o i) (drop (o i) text))
  unfolding spelling
  let_to_in_lem ds i h = subst (FromLetToIn ds) (sym whole) (record { begins = p.begins; ends = (p.front, p.ends); spells = p.spells })
    where
      p : Part text o i (structure keyword_let ∷ all_tokens ds) (structure keyword_in)
      p = part text o i (structure keyword_let ∷ all_tokens ds) (structure keyword_in) h

      number : o (suc (i + length (all_tokens ds))) ≡ o (i + suc (length (all_tokens ds)))
      number = ap o (omega arith)

      size : o (suc (i + length (all_tokens ds))) + 2 - o i ≡ length p.bytes
      size = omega (arith, number, p.size)

      whole : take (o (suc (i + length (all_tokens ds))) + 2 - o i) (drop (o i) text) ≡ p.bytes
      whole = ap₂ take size p.written ∙ take-append_seam p.bytes p.rest

  module _ (ws : List ℕ) where
    node_part :
        {k kind first second offset size precedence : ℕ} → Node ws k kind first second offset size precedence
        → part_of text ws k ≡ take size (drop offset text)
    node_part h = ap₂ (λ n p. take n (drop p text)) h.has_size h.has_offset

    operator_part_lem :
        (f : Fixity) (k a b offset size precedence : ℕ) → OperatorNode ws k f a b offset size precedence
        → part_of text ws k ≡ take size (drop offset text)
    operator_part_lem Prefix k a b offset size precedence h = node_part h
    operator_part_lem Infix k a b offset size precedence h = node_part h
    operator_part_lem Postfix k a b offset size precedence h = node_part h

    -- The node of a subtree's root gives its part of the text.
    pub root_gives :
        {ts : List Token} (t : Tree) (i n k : ℕ) → Subtree text ts o ws t i n → suc k ≡ n + count t → Gives t (part_of text ws k)
    unfolding flat as_written written_offset
    root_gives {ts} nothing i n k s e = tt
    root_gives {ts} (leaf a) i n k s e =
        node_part (leaf_node_lem text ts o ws a i n s k e) ∙ written_stands text a (o i) _ s.stands.0.written
    root_gives {ts} (bracket t) i n k s e = tt
    root_gives {ts} (block ds t) i n k s e =
        subst (FromLetToIn ds) (sym (node_part (block_node_lem text ts o ws ds t i n s k e)))
        (let_to_in_lem ds i (declarations_stand text ts o ws ds t i n s))
    root_gives {ts} (node l m r) i n k s e =
        operator_part_lem (form text ts o ws l m r i n s) k _ _ _ _ _ (operator_node text ts o ws l m r i n s k e)
        ∙ written_stands text (symbol m) (o (i + length (flat l))) _ (operator_stands text ts o ws l m r i n s).0.written

-- A table that begins with the words of a text's tree.
module _ (text : Bytes) (ps : List Placed) (h : PastChecks text ps) (t : Tree) (is : IsReading (tokens_of ps) t) (v : List ℕ) where
  abbrev table : List ℕ
  table = words (offset_of text ps) start_table t 0 0 ++ v

  table_gives : (k : ℕ) → Gives (get_or (subtrees t) k nothing) (part_of text table k)
  table_gives k = below k (count t) among beyond
    where
      among : k < count t → Gives (get_or (subtrees t) k nothing) (part_of text table k)
      among l =
          let r = text_rooted text ps h t is v k l in
          let here = rw (sub-zero k) at r.among in
          subst (λ u. Gives u (part_of text table k)) (sym here)
          (root_gives text (offset_of text ps) table r.tree r.token r.first k r.subtree r.last)

      beyond : count t ≤ k → Gives (get_or (subtrees t) k nothing) (part_of text table k)
      beyond l =
          let none_left : get_or (subtrees t) k nothing ≡ nothing = get_or-eq_default (subtrees t) nothing (omega (arith, subtrees_length t)) in
          subst (λ u. Gives u (part_of text table k)) (sym none_left) tt

  -- Offset and length give the bytes of a name, number or operator as they are written in the text.
  pub node-written :
      (k : ℕ) (a : Atom) → get_or (node_atoms t) k none ≡ some a → part_of text (words (offset_of text ps) start_table t 0 0 ++ v) k ≡ as_written a
  unfolding atom_of
  node-written k a f =
      gives_atom (get_or (subtrees t) k nothing) _ a (table_gives k)
      (sym (get_or-map atom_of (subtrees t) k nothing) ∙ ap (λ l. get_or l k none) (atoms_of t) ∙ f)

  -- Of a block they give the text from `let` to `in`.
  pub node_blocks_lem :
      (k : ℕ) (ds : List Declaration) → get_or (node_blocks t) k none ≡ some ds
      → FromLetToIn ds (part_of text (words (offset_of text ps) start_table t 0 0 ++ v) k)
  unfolding block_of
  node_blocks_lem k ds f =
      gives_block (get_or (subtrees t) k nothing) _ ds (table_gives k)
      (sym (get_or-map block_of (subtrees t) k nothing) ∙ ap (λ l. get_or l k none) (blocks_of t) ∙ f)
