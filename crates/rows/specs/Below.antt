-- What stands below a token of a tree, by the rows.
use Rattle.std.specs.Prelude.{◌≡◌, Bool, ◌&&◌, List, ℕ, suc, ◌<◌, eqb, leb}
use Rattle.rows.specs.declared.token.Token.{Token}
use Rattle.rows.specs.declared.operands.Operands.{Operands}
use Rattle.rows.specs.Fields.{TokenRow, RootRow, kind, left, right, Within}

-- Token number `i` is an atom without operands.
unfoldable pub stands_alone : List Token → List Operands → ℕ → Bool
stands_alone K O i = leb (kind K i) 3 && (eqb (left O i) 0 && eqb (right O i) 0)

-- From the root at token `i` one comes to the root at token `h`, bracket pairs looked through.
pub data Leads (K : TokenRow) (O : RootRow) : ℕ → ℕ → Type 0 where
  there : {h : ℕ} → Within K h → (kind K h ≡ 4 → ⊥) → Leads K O h h
  through :
      {i h : ℕ} (j : ℕ) → Within K i → Within O i → kind K i ≡ 4 → left O i ≡ suc j → i < j → Leads K O j h → Leads K O i h
