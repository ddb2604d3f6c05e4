-- What stands at token `i` of a range whose roles are in the row: an operand with the token behind it, or an operator.
-- The number that the row has of what comes there tells which.
use mathlib.Core.Path.{◌≡◌, refl, sym, ◌∙◌}
use mathlib.Core.Bool.{true, false}
use mathlib.Core.List.{◌∷◌}
use Prim.Native.Nat.{ℕ, suc, ◌+◌, ◌<◌}
use native.Mathlib.Omega.{arith}
use lib.ListN.{length}
use Rattle.grammar.specs.Bytes.{Bytes}
use Rattle.grammar.specs.Token.{symbol}
use Rattle.grammar.specs.Operator.{Table, role}
use Rattle.grammar.specs.Span.{Item, single, pair, scope, item_tokens, items}
use Rattle.grammar.specs.SpanTree.{is_operand_atom, is_operand}
use Rattle.rows.specs.Fields.{TokenRow, NoteRow, kind, closer, arrival}
use Rattle.rows.specs.Codes.{arrival_of}
use Rattle.rows.specs.Tokens.{atom_in, range}
use Rattle.rows.specs.Agreeing.{arrival_for, Noted, Agrees, ends, atoms, brackets, blocks}
use Rattle.rows.proofs.PairedCases.{agrees_paired}
use Rattle.rows.proofs.PairedItems.{items_single, items_bracket, items_block, behind_pair, behind_scope}
use Rattle.climb.specs.Beside.{item_end}
use Rattle.climb.proofs.Beside.{end_single, end_bracket, end_block}
use Rattle.climb.proofs.Roles.{operand_atom, operator_atom}

pub record OperandAt (text : Bytes) (T : Table) (K : TokenRow) (R : NoteRow) (i to : ℕ) : Type 0 where
  pub item : Item
  pub comes : items (range text K i to) ≡ item ∷ items (range text K (item_end K i) to)
  pub is_one : is_operand T item ≡ true
  pub behind : item_end K i ≡ i + length (item_tokens item)
  pub further : i < item_end K i
  pub closed : 3 < kind K i → closer K i < to
  pub rest : Agrees text K R T (item_end K i) to

pub record OperatorAt (text : Bytes) (T : Table) (K : TokenRow) (R : NoteRow) (i to : ℕ) : Type 0 where
  pub name : Bytes
  pub comes : items (range text K i to) ≡ single (symbol name) ∷ items (range text K (suc i) to)
  pub is_one : is_operand T (single (symbol name)) ≡ false
  pub noted : Noted T R i (symbol name)
  pub number : arrival R i ≡ arrival_of (role T name)
  pub rest : Agrees text K R T (suc i) to

module _ {text : Bytes} {T : Table} {K : TokenRow} {R : NoteRow} where
  pub operand_at : {i to : ℕ} → Agrees text K R T i to → i < to → arrival R i ≡ 0 → OperandAt text T K R i to
  unfolding is_operand item_tokens
  operand_at ends h e = absurd (omega arith)
  operand_at (atoms {i = i} {to = to} l k n r) h e =
      let d = end_single K i k.1 in
      record {
        item = single (atom_in text K i);
        comes = rw d (items_single text K i to l k);
        is_one = operand_atom T (atom_in text K i) (sym n.arrives ∙ e);
        behind = d ∙ omega arith;
        further = omega arith;
        closed = λ g. absurd (omega (arith, k.1));
        rest = rw d r;
      }
  operand_at (brackets {i = i} {to = to} c k w l m y z p q) h e =
      let d : item_end K i ≡ suc c = end_bracket K i k ∙ rw w in
      record {
        item = pair (range text K (suc i) c);
        comes = rw d (items_bracket text K i c to k l m y (agrees_paired p));
        is_one = refl;
        behind = d ∙ sym (behind_pair text K i c l);
        further = omega arith;
        closed = λ g. rw w m;
        rest = rw d q;
      }
  operand_at (blocks {i = i} {to = to} c f k w v l m n y z u a t b p q) h e =
      let d : item_end K i ≡ suc f = end_block K i (omega arith) ∙ rw (w, v) in
      record {
        item = scope (range text K (suc i) c) (range text K (suc c) f);
        comes = rw d (items_block text K i c f to k l m n y z u (agrees_paired p));
        is_one = refl;
        behind = d ∙ sym (behind_scope text K i c f l m);
        further = omega arith;
        closed = λ g. omega arith;
        rest = rw d q;
      }

  named_at :
      {i to : ℕ} → items (range text K i to) ≡ single (atom_in text K i) ∷ items (range text K (suc i) to) → Noted T R i (atom_in text K i)
      → Agrees text K R T (suc i) to → (m : Bytes) → atom_in text K i ≡ symbol m → is_operand_atom T (atom_in text K i) ≡ false
      → OperatorAt text T K R i to
  unfolding is_operand arrival_for
  named_at c n r m e f =
      record { name = m; comes = c ∙ rw e; is_one = rw e at f; noted = rw e at n; number = (rw e at n).arrives; rest = r }

  pub operator_at : {i to : ℕ} → Agrees text K R T i to → i < to → (arrival R i ≡ 0 → ⊥) → OperatorAt text T K R i to
  operator_at ends h e = absurd (omega arith)
  operator_at (atoms {i = i} {to = to} l k n r) h e =
      let x = operator_atom T (atom_in text K i) (λ z. e (n.arrives ∙ z)) in
      named_at (items_single text K i to l k) n r x.0 x.1 x.2
  operator_at (brackets c k w l m y z p q) h e = absurd (e z)
  operator_at (blocks c f k w v l m n y z u a t b p q) h e = absurd (e a)
