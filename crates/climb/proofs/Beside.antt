-- What is read off the rows, by cases: the token behind an item.
use mathlib.Core.Path.{◌≡◌}
use Prim.Native.Nat.{ℕ, suc, ◌≤◌, ◌<◌}
use native.Mathlib.Omega.{arith}
use borrow.Author.Tests.{le-leb, lt-leb, eq-eqb, ne_eqb}
use Rattle.rows.specs.Fields.{TokenRow, kind, closer}
use Rattle.climb.specs.Beside.{item_end}

-- The token behind an item.
module _ (K : TokenRow) (i : ℕ) where
  pub end_single : kind K i ≤ 3 → item_end K i ≡ suc i
  unfolding item_end
  end_single h = rw (le-leb (kind K i) 3 h, item_end)

  pub end_bracket : kind K i ≡ 4 → item_end K i ≡ suc (closer K i)
  unfolding item_end
  end_bracket e = rw (lt-leb (kind K i) 3 (omega arith), eq-eqb (kind K i) 4 e, item_end)

  pub end_block : 4 < kind K i → item_end K i ≡ suc (closer K (closer K i))
  unfolding item_end
  end_block h = rw (lt-leb (kind K i) 3 (omega arith), ne_eqb (kind K i) 4 (λ e. omega arith), item_end)
