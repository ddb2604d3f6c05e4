-- Calls of `write_name`: the characters of the name at a node of a text that was read, or 13. The node gives the bytes as written, and these are
-- the characters doubled; so two nodes give the same bytes exactly if their names have the same characters.
use mathlib.Core.Path.{◌≡◌, sym, ap, ◌∙◌}
use mathlib.Core.Logic.{◌↔◌}
use mathlib.Core.Bool.{true}
use mathlib.Core.List.{List}
use Prim.Native.Nat.{ℕ}
use lib.ListN.{length}
use Rattle.grammar.specs.Bytes.{Bytes}
use Rattle.grammar.specs.Token.{Atom, atom, characters, as_written, is_token}
use Rattle.grammar.specs.Answer as G
use Rattle.grammar.specs.Answer.{over}
use Rattle.grammar.proofs.Scanned.{spells_tokens}
use Rattle.grammar.proofs.Names.{written-characters, written_alike}
use Rattle.grammar.proofs.NodeTokens.{node_token}
use Rattle.grammar.proofs.BlankRules.{reading_spelled}
use Rattle.reader.specs.declared.Answer.{Answer}
use Rattle.reader.specs.Answered.{result_of, written, node_written, WritesName}
use Rattle.reader.specs.Demands.{AtomAt, NameWritten}
use Rattle.reader.proofs.NameWriting.{name_fits, name_short}
use Rattle.reader.proofs.ReadCalls as ReadCalls

same-result : {a b : Answer} {B C : List ℕ} → result_of a B ≡ result_of b C → (a ≡ b) × (B ≡ C)
unfolding result_of
same-result e = (ap (λ r. record { number = r.answer.number; offset = r.answer.offset; count = r.answer.count }) e, ap (λ r. r.buffer) e)

-- The bytes of an atom that is a token.
atom_written :
    (a : Atom) → is_token (atom a) ≡ true → (B B' : List ℕ) (r : Answer) → result_of r B' ≡ G.write_name (as_written a) B → NameWritten a B B' r
atom_written a e B B' r h =
    let c = written-characters a e in
    record {
      fits = λ l. same-result (h ∙ name_fits (as_written a) B (rw c l) ∙ ap (λ s. result_of (written (length s)) (over s B)) c);
      too_short = λ l. same-result (h ∙ name_short (as_written a) B (rw c l));
    }

-- The node of a text that was read gives the bytes of a token.
module _ {text : Bytes} {N : List ℕ} {k : ℕ} {x : Atom} (h : AtomAt text N k x) where
  part : node_written text N k ≡ as_written x
  part = (ReadCalls.tree_held text h.before N h.answer h.call h.success h.tree h.reading).parts k x h.node

  token : is_token (atom x) ≡ true
  token = node_token h.tree (spells_tokens (reading_spelled text h.tree h.reading)) k x h.node

pub name_written :
    (text : Bytes) (N : List ℕ) (k : ℕ) (x : Atom) → AtomAt text N k x → (B B' : List ℕ) (r : Answer) → WritesName text N k B B' r
    → NameWritten x B B' r
name_written text N k x h B B' r w = atom_written x (token h) B B' r (w ∙ ap (λ s. G.write_name s B) (part h))

-- Two such nodes, of whatever texts.
pub parts_compared :
    (text other : Bytes) (N M : List ℕ) (k l : ℕ) (x y : Atom) → AtomAt text N k x → AtomAt other M l y
    → (node_written text N k ≡ node_written other M l) ↔ (characters x ≡ characters y)
parts_compared text other N M k l x y h g =
    let alike = written_alike x y (token h) (token g) in
    (λ q. alike.1 (sym (part h) ∙ q ∙ part g), λ q. part h ∙ alike.0 q ∙ sym (part g))
