-- Document 01, "Just inside and just outside": texts at a limit and one past it, with what both services answer.
use Rattle.std.specs.Prelude.{List, [], ◌∷◌, ◌++◌, ℕ, zero, suc, ◌+◌, ◌/◌, ◌%◌, replicate}
use Rattle.grammar.specs.Bytes.{Bytes, bytes}
use Rattle.grammar.specs.Answer.{Answer, read, canonicalize}

-- A text, the words and bytes lent, and the answers of reading and of canonicalizing: number, place, count.
pub record Limit : Type 0 where
  pub text : Bytes
  pub words : ℕ
  pub room : ℕ
  pub reading : Answer
  pub canonicalizing : Answer

abbrev pub answer : ℕ → ℕ → ℕ → Answer
answer n p c = record { number = n; offset = p; count = c }

pub record Answers : Type 0 where
  pub reading : Answer
  pub canonicalizing : Answer

abbrev pub given : Limit → Answers
given l =
    record {
      reading = (read l.text (replicate l.words 7)).answer;
      canonicalizing = (canonicalize l.text (replicate l.room 7)).answer;
    }

abbrev pub asked : Limit → Answers
asked l = record { reading = l.reading; canonicalizing = l.canonicalizing }

unfoldable pub repeated : ℕ → Bytes → Bytes
repeated zero s = []
repeated (suc n) s = s ++ repeated n s

-- `k` declarations of new operators, each of 19 bytes: `infix left 450 xaa;`, `infix left 450 xba;` and so on.
unfoldable pub declared : ℕ → Bytes
declared zero = []
declared (suc k) = declared k ++ bytes "infix left 450 x" ++ (97 + k % 26) ∷ (97 + k / 26) ∷ bytes ";"

-- Names of 61 characters that need their quotes, behind each the operator `*`: 64 bytes, of canonical text 66.
unfoldable pub long_names : ℕ → Bytes
long_names k = repeated k (bytes "'z" ++ repeated 60 (bytes " ") ++ bytes "'*")

abbrev refusal : Bytes → ℕ → ℕ → Limit
refusal s n p = record { text = s; words = 1000; room = 1000; reading = answer n p 0; canonicalizing = answer n p 0 }

abbrev success : Bytes → ℕ → ℕ → Limit
success s nodes size = record { text = s; words = 1000; room = 2000; reading = answer 0 0 nodes; canonicalizing = answer 0 0 size }

unfoldable pub limits : List Limit
limits =
    -- 16,384 bytes pass.
    success (bytes "a" ++ repeated 16383 (bytes " ")) 1 1
    ∷ refusal (repeated 16385 (bytes "a")) 1 16384
    -- So it is with blanks: a blank rule, whatever is lent, and one byte too many.
    ∷ success (repeated 16384 (bytes " ")) 0 0
    ∷ refusal (repeated 16385 (bytes " ")) 1 16384
    ∷ record { text = bytes " "; words = 0; room = 0; reading = answer 0 0 0; canonicalizing = answer 0 0 0 }
    -- 1,024 tokens pass.
    ∷ refusal (repeated 1024 (bytes "a ")) 11 0
    ∷ refusal (repeated 1025 (bytes "a ")) 5 2048
    -- Depth 32 passes.
    ∷ success (repeated 32 (bytes "(") ++ bytes "a" ++ repeated 32 (bytes ")")) 33 1
    ∷ refusal (repeated 33 (bytes "(")) 7 32
    -- 64 operators pass: the eight of the start and 56.
    ∷ success (bytes "let " ++ declared 56 ++ bytes " in a end") 2 1188
    ∷ refusal (bytes "let " ++ declared 57 ++ bytes " in a end") 9 1083
    -- Precedence 1200 passes.
    ∷ success (bytes "let infix left 1200 m ; in a m b end") 4 36
    ∷ refusal (bytes "let infix left 1201 m ; in a m b end") 8 15
    -- A name of 63 characters passes, bare or quoted; a number of 9 digits.
    ∷ success (repeated 63 (bytes "a")) 1 63
    ∷ refusal (repeated 64 (bytes "a")) 4 0
    ∷ success (bytes "'" ++ repeated 63 (bytes " ") ++ bytes "'") 1 65
    ∷ refusal (bytes "'" ++ repeated 64 (bytes " ") ++ bytes "'") 3 0
    ∷ success (bytes "123456789") 1 9
    ∷ refusal (bytes "1234567890") 4 0
    ∷ refusal (bytes "''") 3 0
    -- A pair of quotes is one character of 63, and never closes a name.
    ∷ success (bytes "'" ++ repeated 63 (bytes "''") ++ bytes "'") 1 128
    ∷ refusal (bytes "'" ++ repeated 64 (bytes "''") ++ bytes "'") 3 0
    ∷ success (bytes "'" ++ repeated 62 (bytes "a") ++ bytes "'''") 1 66
    ∷ refusal (bytes "'" ++ repeated 63 (bytes "a") ++ bytes "'''") 3 0
    ∷ refusal (bytes "'" ++ repeated 63 (bytes "a") ++ bytes "''y'") 3 0
    ∷ refusal (bytes "'a''") 3 0
    -- Every sign begins a token, and byte 11 none.
    ∷ success (bytes "+-*/<>=!&|^~:?@#$%") 1 18
    ∷ success (bytes "& = ~ and @ = $ and % = ^") 11 25
    ∷ refusal (97 ∷ 11 ∷ []) 2 1
    -- Associativities that a fixity does not have.
    ∷ refusal (bytes "let postfix right 400 s ; in a end") 8 12
    ∷ refusal (bytes "let prefix left 400 s ; in a end") 8 11
    -- The first token that does not fit a declaration; where it breaks off, the `in`.
    ∷ refusal (bytes "let infix left 400 + in a end") 8 21
    ∷ refusal (bytes "let infix left 400 in a end") 8 19
    ∷ refusal (bytes "let infix left in a end") 8 15
    ∷ refusal (bytes "let infix in a end") 8 10
    ∷ refusal (bytes "let infix foo 400 + ; in a end") 8 10
    -- Structure is judged before depth.
    ∷ refusal (repeated 31 (bytes "(") ++ bytes "let (") 6 35
    ∷ refusal (repeated 32 (bytes "(") ++ bytes "let (") 7 32
    -- `;` outside declarations, a second `in`, a closer that does not match.
    ∷ refusal (bytes "a ; b") 6 2
    ∷ refusal (bytes "let in a in b end") 6 9
    ∷ refusal (bytes "( a end") 6 4
    ∷ refusal (bytes "let ( in a end") 6 4
    -- An operator behind its block's `end` is none.
    ∷ refusal (bytes "let infix left 400 x ; in a x b end x c") 11 0
    -- The overloading rule is judged at `in`, not after each declaration. Where no operator is both infix and postfix nothing is asked; ..
    ∷ success (bytes "let infix left 7 x ; postfix left 8 x ; postfix left 7 x ; in a end") 2 67
    ∷ refusal (bytes "let infix left 7 x ; postfix left 8 x ; in a end") 10 40
    ∷ success (bytes "let infix left 300 - ; in a end") 2 31
    ∷ success (bytes "let infix left 300 - ; prefix non 300 - ; in a end") 2 50
    ∷ success (bytes "let prefix right 200 - ; infix left 500 - ; in a - - b end") 5 58
    -- .. one that is puts all operators in force under the four conditions, those of the outer blocks too.
    ∷ refusal (bytes "let infix left 7 x ; postfix left 7 x ; infix right 400 - ; in a end") 10 60
    ∷ success (bytes "let infix left 7 x ; postfix left 7 x ; infix left 400 - ; in a end") 2 67
    ∷ refusal (bytes "let infix left 500 - ; in let infix left 7 x ; postfix left 7 x ; in a end end") 10 66
    ∷ success (bytes "let infix left 500 - ; in let infix left 7 x ; postfix left 7 x ; plain - ; in a end end") 3 88
    ∷ refusal (bytes "3a") 11 0
    -- Lent buffers just long enough, and one word or byte short.
    ∷ record { text = bytes "a"; words = 6; room = 1; reading = answer 0 0 1; canonicalizing = answer 0 0 1 }
    ∷ record { text = bytes "a"; words = 5; room = 0; reading = answer 12 0 0; canonicalizing = answer 13 0 0 }
    ∷ record { text = bytes "a+b"; words = 18; room = 5; reading = answer 0 0 3; canonicalizing = answer 0 0 5 }
    ∷ record { text = bytes "a+b"; words = 17; room = 4; reading = answer 12 0 0; canonicalizing = answer 13 0 0 }
    -- Words past the last whole node change nothing.
    ∷ record { text = bytes "a"; words = 11; room = 1; reading = answer 0 0 1; canonicalizing = answer 0 0 1 }
    -- A canonical text of 16,384 bytes passes; one byte more is refused whatever the buffer.
    ∷ record {
      text = long_names 248 ++ repeated 16 (bytes "y");
      words = 2982;
      room = 16384;
      reading = answer 0 0 497;
      canonicalizing = answer 0 0 16384;
    }
    ∷ record {
      text = long_names 248 ++ repeated 17 (bytes "y");
      words = 2982;
      room = 20000;
      reading = answer 0 0 497;
      canonicalizing = answer 13 0 0;
    }
    ∷ []
