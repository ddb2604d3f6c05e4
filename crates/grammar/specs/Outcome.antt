-- What a check answers: a refusal with its number in document 01's table and its place, or a value.
-- A place is here the number of a token, or a byte offset where a comment says so.
use Rattle.std.specs.Prelude.{ℕ}

pub data Outcome (A : Type 0) : Type 0 where
  refused : ℕ → ℕ → Outcome A
  passed : A → Outcome A

module _ {A B : Type 0} where
  -- Go on with the value of a check that passed.
  unfoldable pub and_then : Outcome A → (A → Outcome B) → Outcome B
  and_then (refused n p) f = refused n p
  and_then (passed a) f = f a

module _ {A : Type 0} where
  -- The same outcome with its place put through `f`.
  unfoldable pub placed : (ℕ → ℕ) → Outcome A → Outcome A
  placed f (refused n p) = refused n (f p)
  placed f (passed a) = passed a
