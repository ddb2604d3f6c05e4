-- Document 01, "Table cases, proved": T1 to T14 as one table, T1 as document 02, §7, has it, the sixth word as §6 has it: what reading
-- and canonicalizing answer, and what they leave in buffers of 48 words and 80 bytes that were filled with 7.
use Rattle.std.specs.Prelude.{List, [], ◌∷◌, ◌++◌, ℕ, length, drop, replicate}
use Rattle.grammar.specs.Bytes.{Bytes, bytes}
use Rattle.grammar.specs.Answer.{Result, read, canonicalize}

-- What is expected of a text: how many nodes, their words, and the canonical text; or the number and place of a refusal.
pub data Expected : Type 0 where
  reads : ℕ → List ℕ → Bytes → Expected
  refuses : ℕ → ℕ → Expected

pub record Example : Type 0 where
  pub text : Bytes
  pub expected : Expected

-- The results of both services.
pub record Both : Type 0 where
  pub reading : Result
  pub canonicalizing : Result

abbrev pub node_table : List ℕ
node_table = replicate 48 7

abbrev pub text_buffer : List ℕ
text_buffer = replicate 80 7

-- What the definitions give.
abbrev pub given : Example → Both
given e = record { reading = read e.text node_table; canonicalizing = canonicalize e.text text_buffer }

-- A number, a place, a count and the contents of a buffer.
abbrev pub result : ℕ → ℕ → ℕ → List ℕ → Result
result n p c b = record { answer = record { number = n; offset = p; count = c }; buffer = b }

-- What document 01 asks.
abbrev pub asked : Expected → Both
asked (reads n ws text) =
    record {
      reading = result 0 0 n (ws ++ drop (length ws) node_table);
      canonicalizing = result 0 0 (length text) (text ++ drop (length text) text_buffer);
    }
asked (refuses n p) = record { reading = result n p 0 node_table; canonicalizing = result n p 0 text_buffer }

-- A node: kind, first child, second child, offset, length, precedence.
abbrev pub node : ℕ → ℕ → ℕ → ℕ → ℕ → ℕ → List ℕ → List ℕ
node kind first second offset size precedence rest = kind ∷ first ∷ second ∷ offset ∷ size ∷ precedence ∷ rest

abbrev pub table : List Example
table =
    -- T1
    record { text = bytes ""; expected = reads 0 [] (bytes "") }
    -- T2
    ∷ record { text = bytes "a"; expected = reads 1 (node 1 0 0 0 1 0 []) (bytes "a") }
    -- T3
    ∷ record { text = bytes "a + b * 3"; expected = reads 5 (node 1 0 0 0 1 0 (node 1 0 0 4 1 0 (node 2 0 0 8 1 0 (node 4 1 2 6 1 300 (node 4 0 3 2 1 400 []))))) (bytes "a + b * 3") }
    -- T4
    ∷ record { text = bytes "a - b - c"; expected = reads 5 (node 1 0 0 0 1 0 (node 1 0 0 4 1 0 (node 4 0 1 2 1 400 (node 1 0 0 8 1 0 (node 4 2 3 6 1 400 []))))) (bytes "a - b - c") }
    -- T5
    ∷ record { text = bytes "- a + b"; expected = reads 4 (node 1 0 0 2 1 0 (node 3 0 0 0 1 400 (node 1 0 0 6 1 0 (node 4 1 2 4 1 400 [])))) (bytes "- a + b") }
    -- T6
    ∷ record { text = bytes "- a * b"; expected = reads 4 (node 1 0 0 2 1 0 (node 1 0 0 6 1 0 (node 4 0 1 4 1 300 (node 3 2 0 0 1 400 [])))) (bytes "- a * b") }
    -- T7
    ∷ record { text = bytes "a * - b"; expected = refuses 11 0 }
    -- T8
    ∷ record { text = bytes "a = b = c"; expected = refuses 11 0 }
    -- T9
    ∷ record {
      text = bytes "let infix right 400 r ; in a r b + c end";
      expected =
          reads 6
          (node 1 0 0 27 1 0 (node 1 0 0 31 1 0 (node 1 0 0 35 1 0 (node 4 1 2 33 1 400 (node 4 0 3 29 1 400 (node 7 4 0 0 26 0 []))))))
          (bytes "let infix right 400 r ; in a r b + c end");
    }
    -- T10
    ∷ record { text = bytes "let infix right 400 r ; in a + b r c end"; expected = refuses 11 24 }
    -- T11
    ∷ record {
      text = bytes "let infix left 450 s ; postfix left 450 s ; in a s - b end";
      expected =
          reads 5
          (node 1 0 0 47 1 0 (node 1 0 0 53 1 0 (node 3 1 0 51 1 400 (node 4 0 2 49 1 450 (node 7 3 0 0 46 0 [])))))
          (bytes "let infix left 450 s ; postfix left 450 s ; in a s - b end");
    }
    -- T12
    ∷ record {
      text = bytes "let infix left 350 s ; postfix left 350 s ; in a s - b end";
      expected =
          reads 5
          (node 1 0 0 47 1 0 (node 5 0 0 49 1 350 (node 1 0 0 53 1 0 (node 4 1 2 51 1 400 (node 7 3 0 0 46 0 [])))))
          (bytes "let infix left 350 s ; postfix left 350 s ; in a s - b end");
    }
    -- T13
    ∷ record {
      text = bytes "((a)) * (b + c)";
      expected =
          reads 8
          (node 1 0 0 2 1 0 (node 6 0 0 0 0 0 (node 6 1 0 0 0 0 (node 1 0 0 9 1 0 (node 1 0 0 13 1 0 (node 4 3 4 11 1 400 (node 6 5 0 0 0 0 (node 4 2 6 6 1 300 []))))))))
          (bytes "a * ( b + c )");
    }
    -- T14
    ∷ record { text = bytes "'not' = '12'"; expected = reads 3 (node 1 0 0 1 3 0 (node 1 0 0 9 2 0 (node 4 0 1 6 1 500 []))) (bytes "'not' = '12'") }
    ∷ []

-- "T3, nine bytes, prints in full"; the last field as document 02, §6, has it.
abbrev pub t3_listing : Bytes
t3_listing = bytes "read 5\n0 name 0 0 0 1 0\n1 name 0 0 4 1 0\n2 number 0 0 8 1 0\n3 infix 1 2 6 1 300\n4 infix 0 3 2 1 400\ntidy 9\na + b * 3\n"
