-- The numbers of the refusals: document 01, "Thirteen ways to say no", and document 02, §9.
use Rattle.std.specs.Prelude.{◌≡◌, ℕ, IsErrAnd}
use Rattle.std.specs.declared.result.Result.{Result}
use Rattle.refusals.specs.declared.Refusal.{Refusal}
use Rattle.refusals.specs.declared.Refusal.TheVariants.{
  TextTooLong,
  NoToken,
  BadQuotedName,
  TokenTooLong,
  TooManyTokens,
  Unpaired,
  TooDeep,
  MalformedDeclaration,
  TooManyOperators,
  NotPermitted,
  NoTree,
  TableTooShort,
  BufferTooShort,
  ReservedOperator,
}
use Rattle.refusals.specs.declared.Refused.{Refused}

abbrev pub number_of : Refusal → ℕ
number_of TextTooLong = 1
number_of NoToken = 2
number_of BadQuotedName = 3
number_of TokenTooLong = 4
number_of TooManyTokens = 5
number_of Unpaired = 6
number_of TooDeep = 7
number_of MalformedDeclaration = 8
number_of TooManyOperators = 9
number_of NotPermitted = 10
number_of NoTree = 11
number_of TableTooShort = 12
number_of BufferTooShort = 13
number_of ReservedOperator = 17

-- A refusal has that number and that place.
pub record IsRefused (number place : ℕ) (r : Refused) : Type 0 where
  pub numbered : number_of r.refusal ≡ number
  pub placed : r.at ≡ place

module _ {A : Type 0} where
  -- A service or a check answers with that refusal.
  abbrev pub Refuses : ℕ → ℕ → Result A Refused → Type 0
  Refuses number place r = IsErrAnd r (IsRefused number place)
