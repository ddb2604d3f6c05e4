-- How many words or bytes the buffers have of which parts are lent.
use Rattle.std.specs.Prelude.{ℕ}

abbrev pub room : ℕ
room = 40
