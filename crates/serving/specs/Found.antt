-- A text that passes checks 2 to 11 and 17 has a reading, whose tokens and tree the rows hold.
use Rattle.std.specs.Prelude.{◌≡◌}
use Rattle.grammar.specs.Bytes.{Bytes}
use Rattle.grammar.specs.Outcome.{passed}
use Rattle.grammar.specs.Answer.{Reading, read_text}
use Rattle.rows.specs.Fields.{TokenRow, NoteRow, RootRow}
use Rattle.checks.specs.declared.Checked.{Checked}
use Rattle.checks.specs.Checking.{HasRead}

pub record Found (text : Bytes) (K : TokenRow) (R : NoteRow) (O : RootRow) (c : Checked) : Type 0 where
  pub reading : Reading
  pub reads : read_text text ≡ passed reading
  pub has_read : HasRead text K R O reading c
