-- The names, numbers and operators of a tree whose tokens are tokens are tokens: by induction on the tree.
use mathlib.Core.Path.{◌≡◌}
use mathlib.Core.Bool.{true}
use mathlib.Core.List.{List, [], ◌∷◌, ◌++◌}
use mathlib.Core.Option.{Option, none, some}
use Prim.Native.Nat.{ℕ, zero, suc}
use lib.ListN.{get_or}
use Rattle.grammar.specs.Bytes.{All}
use Rattle.grammar.specs.Token.{Atom, symbol, atom, is_token, are_tokens}
use Rattle.grammar.specs.Tree.{Tree, nothing, leaf, bracket, block, node, flat}
use Rattle.grammar.specs.Claim.{node_atoms}
use Rattle.grammar.proofs.Logic.{impossible}
use Rattle.grammar.proofs.Lists.{all_append}
use Rattle.grammar.proofs.CanonicalTokens.{leaf_token, inside_tokens, block_tokens, node_tokens}

abbrev TokenIfSome : Option Atom → Type 0
TokenIfSome none = Unit {0}
TokenIfSome (some a) = is_token (atom a) ≡ true

atoms_tokens : (t : Tree) → are_tokens (flat t) ≡ true → All TokenIfSome (node_atoms t)
unfolding node_atoms is_token
atoms_tokens nothing e = tt
atoms_tokens (leaf a) e = (leaf_token a e, tt)
atoms_tokens (bracket t) e = all_append TokenIfSome (node_atoms t) (none ∷ []) (atoms_tokens t (inside_tokens t e)) (tt, tt)
atoms_tokens (block ds t) e = all_append TokenIfSome (node_atoms t) (none ∷ []) (atoms_tokens t (block_tokens ds t e).1) (tt, tt)
atoms_tokens (node l m r) e =
    let (x, y, z) = node_tokens l m r e in
    all_append TokenIfSome (node_atoms l) (node_atoms r ++ some (symbol m) ∷ []) (atoms_tokens l x)
    (all_append TokenIfSome (node_atoms r) (some (symbol m) ∷ []) (atoms_tokens r z) (y, tt))

among : (os : List (Option Atom)) → All TokenIfSome os → (k : ℕ) (a : Atom) → get_or os k none ≡ some a → is_token (atom a) ≡ true
among [] h k a e = impossible cc
among (none ∷ os) h zero a e = impossible cc
among (some b ∷ os) h zero a e = let q : b ≡ a = cc in rw (← q) h.0
among (o ∷ os) h (suc k) a e = among os h.1 k a e

pub node_token : (t : Tree) → are_tokens (flat t) ≡ true → (k : ℕ) (a : Atom) → get_or (node_atoms t) k none ≡ some a → is_token (atom a) ≡ true
node_token t e k a f = among (node_atoms t) (atoms_tokens t e) k a f
