-- Recorded cases (their results come from an interpretation of document 01 written apart
-- from this project): texts with what the program prints for them. Spread over the refusals that a text can give, overloaded
-- blocks, plain rules and blank ones.
use Rattle.std.specs.Prelude.{List, [], ◌∷◌, ◌++◌, replicate}
use Rattle.grammar.specs.Bytes.{Bytes, bytes}

pub record Case : Type 0 where
  pub text : Bytes
  pub listing : Bytes

abbrev pub cases : List Case
cases =
    record { text = bytes "a , b"; listing = bytes "refused 2 at 2\n" }
    ∷ record { text = bytes "a + 'b"; listing = bytes "refused 3 at 4\n" }
    ∷ record { text = bytes "1234567890"; listing = bytes "refused 4 at 0\n" }
    ∷ record { text = bytes "( a"; listing = bytes "refused 6 at 3\n" }
    ∷ record { text = bytes "let infix left 0 + ; in a end"; listing = bytes "refused 8 at 15\n" }
    ∷ record { text = bytes "let infix right 400 - ; in a end"; listing = bytes "read 2\n0 name 0 0 27 1 0\n1 block 0 0 0 26 0\ntidy 32\nlet infix right 400 - ; in a end\n" }
    ∷ record { text = bytes "a - - b"; listing = bytes "refused 11 at 0\n" }
    ∷ record { text = bytes "let in a end"; listing = bytes "read 2\n0 name 0 0 7 1 0\n1 block 0 0 0 6 0\ntidy 12\nlet in a end\n" }
    ∷ record {
      text = bytes "grade = 7 and not leaver";
      listing =
          bytes "read 6\n0 name 0 0 0 5 0\n1 number 0 0 8 1 0\n2 infix 0 1 6 1 500\n3 name 0 0 18 6 0\n4 prefix 3 0 14 3 600\n5 infix 2 4 10 3 700"
          ++ bytes "\ntidy 24\ngrade = 7 and not leaver\n";
    }
    ∷ record {
      text =
          bytes "a a a a a a a a a a a a a a a a a a a a a a a a a a a a a a a a a a a a a a a a a a a a a a a a a a a a a a a a a a a a a a a a a "
          ++ bytes "a a a a a a a a a a a a a a a a a a a a a a a a a a a a a a a a a a a a a a a a a a a a a a a a a a a a a a a a a a a a a a a a a "
          ++ bytes "a a a a a a a a a a a a a a a a a a a a a a a a a a a a a a a a a a a a a a a a a a a a a a a a a a a a a a a a a a a a a a a a a "
          ++ bytes "a a a a a a a a a a a a a a a a a a a a a a a a a a a a a a a a a a a a a a a a a a a a a a a a a a a a a a a a a a a a a a a a a "
          ++ bytes "a a a a a a a a a a a a a a a a a a a a a a a a a a a a a a a a a a a a a a a a a a a a a a a a a a a a a a a a a a a a a a a a a "
          ++ bytes "a a a a a a a a a a a a a a a a a a a a a a a a a a a a a a a a a a a a a a a a a a a a a a a a a a a a a a a a a a a a a a a a a "
          ++ bytes "a a a a a a a a a a a a a a a a a a a a a a a a a a a a a a a a a a a a a a a a a a a a a a a a a a a a a a a a a a a a a a a a a "
          ++ bytes "a a a a a a a a a a a a a a a a a a a a a a a a a a a a a a a a a a a a a a a a a a a a a a a a a a a a a a a a a a a a a a a a a "
          ++ bytes "a a a a a a a a a a a a a a a a a a a a a a a a a a a a a a a a a a a a a a a a a a a a a a a a a a a a a a a a a a a a a a a a a "
          ++ bytes "a a a a a a a a a a a a a a a a a a a a a a a a a a a a a a a a a a a a a a a a a a a a a a a a a a a a a a a a a a a a a a a a a "
          ++ bytes "a a a a a a a a a a a a a a a a a a a a a a a a a a a a a a a a a a a a a a a a a a a a a a a a a a a a a a a a a a a a a a a a a "
          ++ bytes "a a a a a a a a a a a a a a a a a a a a a a a a a a a a a a a a a a a a a a a a a a a a a a a a a a a a a a a a a a a a a a a a a "
          ++ bytes "a a a a a a a a a a a a a a a a a a a a a a a a a a a a a a a a a a a a a a a a a a a a a a a a a a a a a a a a a a a a a a a a a "
          ++ bytes "a a a a a a a a a a a a a a a a a a a a a a a a a a a a a a a a a a a a a a a a a a a a a a a a a a a a a a a a a a a a a a a a a "
          ++ bytes "a a a a a a a a a a a a a a a a a a a a a a a a a a a a a a a a a a a a a a a a a a a a a a a a a a a a a a a a a a a a a a a a a "
          ++ bytes "a a a a a a a a a a a a a a a a a a a a a a a a a a a a a a a a a a a a a a a a a a a a a a a a a a ";
      listing = bytes "refused 5 at 2048\n";
    }
    ∷ record { text = bytes "((((((((((((((((((((((((((((((((("; listing = bytes "refused 7 at 32\n" }
    ∷ record {
      text = replicate 16385 120;
      listing = bytes "refused 1 at 16384\n";
    }
    ∷ record {
      text =
          bytes "let plain zz;in 1=let in let plain zz;in not let in not((let in let prefix non 5p;in(1=let prefix non 5p;in let in((((let in let p"
          ++ bytes "lain zz;in(((let in(not let prefix non 5p;in a+let prefix non 5p;in a end end)end)))end end))))end end)end end))end end end end";
      listing =
          bytes "read 34\n0 number 0 0 16 1 0\n1 number 0 0 85 1 0\n2 name 0 0 175 1 0\n3 name 0 0 198 1 0\n4 block 3 0 177 20 0\n5 infix 2 4 176 1"
          ++ bytes " 400\n6 block 5 0 154 20 0\n7 prefix 6 0 150 3 600\n8 bracket 7 0 0 0 0\n9 block 8 0 143 6 0\n10 bracket 9 0 0 0 0\n11 bracket 10 "
          ++ bytes "0 0 0 0\n12 bracket 11 0 0 0 0\n13 block 12 0 125 15 0\n14 block 13 0 118 6 0\n15 bracket 14 0 0 0 0\n16 bracket 15 0 0 0 0\n17 br"
          ++ bytes "acket 16 0 0 0 0\n18 bracket 17 0 0 0 0\n19 block 18 0 108 6 0\n20 block 19 0 87 20 0\n21 infix 1 20 86 1 500\n22 bracket 21 0 0 0"
          ++ bytes " 0\n23 block 22 0 64 20 0\n24 block 23 0 57 6 0\n25 bracket 24 0 0 0 0\n26 bracket 25 0 0 0 0\n27 prefix 26 0 52 3 600\n28 block 2"
          ++ bytes "7 0 45 6 0\n29 prefix 28 0 41 3 600\n30 block 29 0 25 15 0\n31 block 30 0 18 6 0\n32 infix 0 31 17 1 500\n33 block 32 0 0 15 0\nti"
          ++ bytes "dy 269\nlet plain zz ; in 1 = let in let plain zz ; in not let in not let in let prefix non 5 p ; in 1 = let prefix non 5 p ; in l"
          ++ bytes "et in let in let plain zz ; in let in not let prefix non 5 p ; in a + let prefix non 5 p ; in a end end end end end end end end en"
          ++ bytes "d end end end end\n";
    }
    ∷ record {
      text =
          bytes "let p-ain r;infix non 400r;prefix non 400r;postfix non 400r;plain*;infix left 450*;postfix left 450*;plain**;infix right 450**;pre"
          ++ bytes "fix right 450**;in not b<Year_7 end";
      listing = bytes "refused 8 at 4\n";
    }
    ∷ record {
      text =
          bytes "let infix non 000450 non ; postfix left 700 in_ ; postfix non 00000001 ? ; prefix non 00050 r ; plain in_ ; in not not ++ non ( le"
          ++ bytes "t prefix non 854 -- ; in ( ++ ) ? end or foo + a + ( 42 non ++ ) = ( r ( 1 and ++ ? = 42 ) ) ) ? end '''";
      listing = bytes "refused 3 at 231\n";
    }
    ∷ record {
      text =
          bytes "'('or let plain infix;prefix right 300left;plain foo;infix left 1200m;prefix right 300non;in let infix non 700:-;in let in++end en"
          ++ bytes "d end";
      listing =
          bytes "read 6\n0 name 0 0 1 1 0\n1 name 0 0 122 2 0\n2 block 1 0 116 6 0\n3 block 2 0 93 22 0\n4 block 3 0 6 86 0\n5 infix 0 4 3 2 800\nt"
          ++ bytes "idy 154\n'(' or let plain infix ; prefix right 300 left ; plain foo ; infix left 1200 m ; prefix right 300 non ; in let infix non "
          ++ bytes "700 :- ; in let in ++ end end end\n";
    }
    ∷ record { text = bytes "((((((((((((((((((((((((((((((((in"; listing = bytes "refused 6 at 32\n" }
    ∷ record { text = bytes "sn = '-1'"; listing = bytes "read 3\n0 name 0 0 0 2 0\n1 name 0 0 6 2 0\n2 infix 0 1 3 1 500\ntidy 9\nsn = '-1'\n" }
    ∷ record { text = (194 ∷ 219 ∷ 178 ∷ 56 ∷ 107 ∷ 58 ∷ 75 ∷ 4 ∷ 207 ∷ 244 ∷ 65 ∷ []); listing = bytes "refused 2 at 0\n" }
    ∷ record { text = bytes "(not(1*let postfix non 700!;in prefix end a_a_a_a_a_a_a_a_a_a_a_a_a_a_a_a_a_a_a_a_a_a_a_a_a_a_a_a_a_a_a_a_a_a_a_a_a_a_a_a_ ))*7"; listing = bytes "refused 4 at 42\n" }
    ∷ record { text = bytes "let in Year_7 + 00000 end"; listing = bytes "read 4\n0 name 0 0 7 6 0\n1 number 0 0 16 5 0\n2 infix 0 1 14 1 400\n3 block 2 0 0 6 0\ntidy 21\nlet in Year_7 + 0 end\n" }
    ∷ record { text = bytes "let prefix right 300 * ; in let x in a end end"; listing = bytes "refused 8 at 32\n" }
    ∷ record {
      text =
          (39 ∷ 103 ∷ 105 ∷ 118 ∷ 101 ∷ 110 ∷ 45 ∷ 110 ∷ 97 ∷ 109 ∷ 101 ∷ 39 ∷ 60 ∷ 40 ∷ 13 ∷ 10 ∷ 35 ∷ 32 ∷ 111 ∷ 114 ∷ 32 ∷
          102 ∷ 111 ∷ 111 ∷ 41 ∷ []);
      listing =
          bytes "read 6\n0 name 0 0 1 10 0\n1 name 0 0 16 1 0\n2 name 0 0 21 3 0\n3 infix 1 2 18 2 800\n4 bracket 3 0 0 0 0\n5 infix 0 4 12 1 500\n"
          ++ bytes "tidy 27\n'given-name' < ( # or foo )\n";
    }
    ∷ record {
      text =
          bytes "let plain s ; infix left 250 s ; prefix non 250 s ; postfix left 250 s ; plain < ; infix non 300 < ; prefix non 300 < ; postfix no"
          ++ bytes "n 300 < ; in a < a s a end";
      listing =
          bytes "read 6\n0 name 0 0 143 1 0\n1 name 0 0 147 1 0\n2 name 0 0 151 1 0\n3 infix 1 2 149 1 250\n4 infix 0 3 145 1 300\n5 block 4 0 0 14"
          ++ bytes "2 0\ntidy 156\nlet plain s ; infix left 250 s ; prefix non 250 s ; postfix left 250 s ; plain < ; infix non 300 < ; prefix non 300"
          ++ bytes " < ; postfix non 300 < ; in a < a s a end\n";
    }
    ∷ record { text = bytes "ui = -0' = -0!"; listing = bytes "refused 3 at 7\n" }
    ∷ record { text = bytes "let postfix left 000001200 zz ; in a zz b end"; listing = bytes "refused 11 at 32\n" }
    ∷ record {
      text =
          bytes "let plain s ; infix non 400 s ; postfix non 400 s ; plain plain ; infix non 250\n plain ; postfix non 250 plain ; in ( not 'plain'"
          ++ bytes " ) plain end";
      listing =
          bytes "read 5\n0 name 0 0 123 5 0\n1 prefix 0 0 118 3 600\n2 bracket 1 0 0 0 0\n3 postfix 2 0 132 5 250\n4 block 3 0 0 115 0\ntidy 140\nl"
          ++ bytes "et plain s ; infix non 400 s ; postfix non 400 s ; plain plain ; infix non 250 plain ; postfix non 250 plain ; in ( not 'plain' ) "
          ++ bytes "plain end\n";
    }
    ∷ record { text = bytes "let postfix left 500 < ; in a end"; listing = bytes "refused 10 at 25\n" }
    ∷ record { text = bytes "not op * 'a'''"; listing = bytes "read 4\n0 name 0 0 4 2 0\n1 name 0 0 10 3 0\n2 infix 0 1 7 1 300\n3 prefix 2 0 0 3 600\ntidy 14\nnot op * 'a'''\n" }
    ∷ record { text = bytes "0000042=(infix and'_x'))"; listing = bytes "refused 6 at 23\n" }
    ∷ record {
      text =
          (108 ∷ 101 ∷ 116 ∷ 32 ∷ 57 ∷ 32 ∷ 105 ∷ 110 ∷ 102 ∷ 105 ∷ 120 ∷ 32 ∷ 108 ∷ 101 ∷ 102 ∷ 116 ∷ 32 ∷ 57 ∷ 57 ∷ 48 ∷ 45 ∷
          45 ∷ 59 ∷ 10 ∷ 112 ∷ 111 ∷ 115 ∷ 116 ∷ 102 ∷ 105 ∷ 120 ∷ 32 ∷ 108 ∷ 101 ∷ 102 ∷ 116 ∷ 10 ∷ 52 ∷ 48 ∷ 48 ∷ 32 ∷ 32 ∷
          109 ∷ 59 ∷ 105 ∷ 110 ∷ 32 ∷ 110 ∷ 111 ∷ 116 ∷ 32 ∷ 108 ∷ 101 ∷ 116 ∷ 13 ∷ 10 ∷ 105 ∷ 110 ∷ 102 ∷ 105 ∷ 120 ∷ 13 ∷ 10 ∷
          114 ∷ 105 ∷ 103 ∷ 104 ∷ 116 ∷ 10 ∷ 55 ∷ 48 ∷ 48 ∷ 110 ∷ 111 ∷ 110 ∷ 10 ∷ 59 ∷ 32 ∷ 112 ∷ 114 ∷ 101 ∷ 102 ∷ 105 ∷ 120 ∷
          13 ∷ 10 ∷ 114 ∷ 105 ∷ 103 ∷ 104 ∷ 116 ∷ 13 ∷ 10 ∷ 53 ∷ 48 ∷ 48 ∷ 32 ∷ 60 ∷ 10 ∷ 59 ∷ 32 ∷ 10 ∷ 32 ∷ 112 ∷ 114 ∷ 101 ∷
          102 ∷ 105 ∷ 120 ∷ 32 ∷ 32 ∷ 110 ∷ 111 ∷ 110 ∷ 32 ∷ 51 ∷ 48 ∷ 48 ∷ 32 ∷ 10 ∷ 32 ∷ 47 ∷ 32 ∷ 59 ∷ 112 ∷ 108 ∷ 97 ∷ 105 ∷
          110 ∷ 10 ∷ 60 ∷ 59 ∷ 32 ∷ 112 ∷ 111 ∷ 115 ∷ 116 ∷ 102 ∷ 105 ∷ 120 ∷ 10 ∷ 110 ∷ 111 ∷ 110 ∷ 13 ∷ 10 ∷ 53 ∷ 48 ∷ 48 ∷
          32 ∷ 10 ∷ 32 ∷ 42 ∷ 42 ∷ 9 ∷ 59 ∷ 105 ∷ 110 ∷ 32 ∷ 108 ∷ 101 ∷ 116 ∷ 9 ∷ 105 ∷ 110 ∷ 102 ∷ 105 ∷ 120 ∷ 13 ∷ 10 ∷ 108 ∷
          101 ∷ 102 ∷ 116 ∷ 32 ∷ 32 ∷ 48 ∷ 55 ∷ 48 ∷ 48 ∷ 115 ∷ 13 ∷ 10 ∷ 59 ∷ 32 ∷ 105 ∷ 110 ∷ 32 ∷ 10 ∷ 32 ∷ 43 ∷ 43 ∷ 32 ∷
          10 ∷ 32 ∷ 42 ∷ 57 ∷ 48 ∷ 55 ∷ 57 ∷ 57 ∷ 50 ∷ 52 ∷ 49 ∷ 56 ∷ 101 ∷ 110 ∷ 100 ∷ 9 ∷ 101 ∷ 110 ∷ 100 ∷ 32 ∷ 45 ∷ 9 ∷ 40 ∷
          9 ∷ 108 ∷ 101 ∷ 116 ∷ 10 ∷ 105 ∷ 110 ∷ 32 ∷ 32 ∷ 108 ∷ 101 ∷ 116 ∷ 32 ∷ 112 ∷ 108 ∷ 97 ∷ 105 ∷ 110 ∷ 42 ∷ 13 ∷ 10 ∷
          59 ∷ 105 ∷ 110 ∷ 32 ∷ 105 ∷ 9 ∷ 101 ∷ 110 ∷ 100 ∷ 32 ∷ 101 ∷ 110 ∷ 100 ∷ 32 ∷ 109 ∷ 41 ∷ 32 ∷ 101 ∷ 110 ∷ 100 ∷ []);
      listing = bytes "refused 8 at 4\n";
    }
    ∷ record {
      text =
          (50 ∷ 189 ∷ 134 ∷ 224 ∷ 37 ∷ 50 ∷ 111 ∷ 105 ∷ 182 ∷ 180 ∷ 15 ∷ 221 ∷ 77 ∷ 26 ∷ 59 ∷ 121 ∷ 136 ∷ 243 ∷ 4 ∷ 208 ∷ 174 ∷
          189 ∷ 163 ∷ 217 ∷ 83 ∷ 23 ∷ 184 ∷ 64 ∷ 168 ∷ []);
      listing = bytes "refused 2 at 1\n";
    }
    ∷ record {
      text = bytes "let in let plain or ; infix non 0621 ^ ; in let plain = ; in 'given-name' end * let infix non 000000982 in_ ; in left end end end";
      listing = bytes "refused 17 at 17\n";
    }
    ∷ record { text = bytes "sn = '00'"; listing = bytes "read 3\n0 name 0 0 0 2 0\n1 name 0 0 6 2 0\n2 infix 0 1 3 1 500\ntidy 9\nsn = '00'\n" }
    ∷ record { text = bytes "00000007 00000007"; listing = bytes "refused 11 at 0\n" }
    ∷ record {
      text = bytes "let plain :- ; infix left 250 :- ; prefix non 250 :- ; postfix left 250 :- ; in / + 941056944 * infix end";
      listing =
          bytes "read 6\n0 name 0 0 80 1 0\n1 number 0 0 84 9 0\n2 name 0 0 96 5 0\n3 infix 1 2 94 1 300\n4 infix 0 3 82 1 400\n5 block 4 0 0 79 0"
          ++ bytes "\ntidy 105\nlet plain :- ; infix left 250 :- ; prefix non 250 :- ; postfix left 250 :- ; in / + 941056944 * infix end\n";
    }
    ∷ record { text = bytes "( a ) + ((((((((((((((((((((((((((((((((("; listing = bytes "refused 7 at 40\n" }
    ∷ record {
      text =
          bytes "let infix left 9 n0 ; infix left 9 n1 ; infix left 9 n2 ; infix left 9 n3 ; infix left 9 n4 ; infix left 9 n5 ; infix left 9 n6 ; "
          ++ bytes "infix left 9 n7 ; infix left 9 n8 ; infix left 9 n9 ; infix left 9 n10 ; infix left 9 n11 ; infix left 9 n12 ; infix left 9 n13 ; "
          ++ bytes "infix left 9 n14 ; infix left 9 n15 ; infix left 9 n16 ; infix left 9 n17 ; infix left 9 n18 ; infix left 9 n19 ; infix left 9 n20"
          ++ bytes " ; infix left 9 n21 ; infix left 9 n22 ; infix left 9 n23 ; infix left 9 n24 ; infix left 9 n25 ; infix left 9 n26 ; infix left 9 "
          ++ bytes "n27 ; infix left 9 n28 ; infix left 9 n29 ; infix left 9 n30 ; infix left 9 n31 ; infix left 9 n32 ; infix left 9 n33 ; infix left"
          ++ bytes " 9 n34 ; infix left 9 n35 ; infix left 9 n36 ; infix left 9 n37 ; infix left 9 n38 ; infix left 9 n39 ; infix left 9 n40 ; infix l"
          ++ bytes "eft 9 n41 ; infix left 9 n42 ; infix left 9 n43 ; infix left 9 n44 ; infix left 9 n45 ; infix left 9 n46 ; infix left 9 n47 ; infi"
          ++ bytes "x left 9 n48 ; infix left 9 n49 ; infix left 9 n50 ; infix left 9 n51 ; infix left 9 n52 ; infix left 9 n53 ; infix left 9 n54 ; i"
          ++ bytes "nfix left 9 n55 ; infix left 9 n56 ; in a end";
      listing = bytes "refused 9 at 1071\n";
    }
    ∷ record {
      text =
          bytes "( let plain s ; in class - ( 611407801 = foo ) end and - infix ) < let in 0000042 = ( ( 7 ) = '*()\\' ) * ( ( 1 ) and - Year_7 ) e"
          ++ bytes "nd";
      listing =
          bytes "read 27\n0 name 0 0 19 5 0\n1 number 0 0 29 9 0\n2 name 0 0 41 3 0\n3 infix 1 2 39 1 500\n4 bracket 3 0 0 0 0\n5 infix 0 4 25 1 40"
          ++ bytes "0\n6 block 5 0 2 16 0\n7 name 0 0 57 5 0\n8 prefix 7 0 55 1 400\n9 infix 6 8 51 3 700\n10 bracket 9 0 0 0 0\n11 number 0 0 74 7 0"
          ++ bytes "\n12 number 0 0 88 1 0\n13 bracket 12 0 0 0 0\n14 name 0 0 95 4 0\n15 infix 13 14 92 1 500\n16 bracket 15 0 0 0 0\n17 number 0 0 1"
          ++ bytes "09 1 0\n18 bracket 17 0 0 0 0\n19 name 0 0 119 6 0\n20 prefix 19 0 117 1 400\n21 infix 18 20 113 3 700\n22 bracket 21 0 0 0 0\n23 "
          ++ bytes "infix 16 22 103 1 300\n24 infix 11 23 82 1 500\n25 block 24 0 67 6 0\n26 infix 10 25 65 1 500\ntidy 118\n( let plain s ; in class "
          ++ bytes "- ( 611407801 = foo ) end and - infix ) < let in 42 = ( 7 = '*()\\' ) * ( 1 and - Year_7 ) end\n";
    }
    ∷ record { text = bytes "((((((((((((((((((((((((((((((((let in a end))))))))))))))))))))))))))))))))"; listing = bytes "refused 7 at 32\n" }
    ∷ record {
      text =
          bytes "let plain r ; prefix non 450 r ; postfix left 450 r ; plain m ; infix left 400 m ; prefix non 400 m ; postfix left 400 m ; in ( fo"
          ++ bytes "o < 0000001 r ) * ( not 0 ) end";
      listing =
          bytes "read 10\n0 name 0 0 128 3 0\n1 number 0 0 134 7 0\n2 postfix 1 0 142 1 450\n3 infix 0 2 132 1 500\n4 bracket 3 0 0 0 0\n5 number 0"
          ++ bytes " 0 154 1 0\n6 prefix 5 0 150 3 600\n7 bracket 6 0 0 0 0\n8 infix 4 7 146 1 300\n9 block 8 0 0 125 0\ntidy 155\nlet plain r ; prefi"
          ++ bytes "x non 450 r ; postfix left 450 r ; plain m ; infix left 400 m ; prefix non 400 m ; postfix left 400 m ; in ( foo < 1 r ) * ( not 0"
          ++ bytes " ) end\n";
    }
    ∷ record {
      text =
          (9 ∷ 108 ∷ 101 ∷ 116 ∷ 32 ∷ 32 ∷ 105 ∷ 110 ∷ 102 ∷ 105 ∷ 120 ∷ 32 ∷ 114 ∷ 105 ∷ 103 ∷ 104 ∷ 116 ∷ 32 ∷ 48 ∷ 48 ∷ 48 ∷
          48 ∷ 48 ∷ 48 ∷ 52 ∷ 48 ∷ 48 ∷ 32 ∷ 10 ∷ 32 ∷ 102 ∷ 111 ∷ 111 ∷ 10 ∷ 59 ∷ 32 ∷ 105 ∷ 110 ∷ 102 ∷ 105 ∷ 120 ∷ 10 ∷ 114 ∷
          105 ∷ 103 ∷ 104 ∷ 116 ∷ 32 ∷ 32 ∷ 48 ∷ 52 ∷ 48 ∷ 48 ∷ 10 ∷ 63 ∷ 32 ∷ 59 ∷ 105 ∷ 110 ∷ 32 ∷ 48 ∷ 48 ∷ 32 ∷ 102 ∷ 111 ∷
          111 ∷ 32 ∷ 48 ∷ 13 ∷ 10 ∷ 101 ∷ 110 ∷ 100 ∷ []);
      listing =
          bytes "read 4\n0 number 0 0 60 2 0\n1 number 0 0 67 1 0\n2 infix 0 1 63 3 400\n3 block 2 0 1 58 0\ntidy 60\nlet infix right 400 foo ; inf"
          ++ bytes "ix right 400 ? ; in 0 foo 0 end\n";
    }
    ∷ record { text = bytes "999999 / A0"; listing = bytes "refused 11 at 0\n" }
    ∷ record { text = bytes "let infix left 000000000 z ; in a end"; listing = bytes "refused 8 at 15\n" }
    ∷ record {
      text =
          bytes "let plain is ; prefix right 400 is ; postfix left 400 is ; plain = ; infix right 300 = ; prefix right 300 = ; plain infix ; infix "
          ++ bytes "left 450 infix ; prefix non 450 infix ; postfix left 450 infix ; in is ( not 7 ) is is end";
      listing =
          bytes "read 7\n0 number 0 0 207 1 0\n1 prefix 0 0 203 3 600\n2 bracket 1 0 0 0 0\n3 postfix 2 0 211 2 400\n4 postfix 3 0 214 2 400\n5 pre"
          ++ bytes "fix 4 0 198 2 400\n6 block 5 0 0 197 0\ntidy 220\nlet plain is ; prefix right 400 is ; postfix left 400 is ; plain = ; infix right"
          ++ bytes " 300 = ; prefix right 300 = ; plain infix ; infix left 450 infix ; prefix non 450 infix ; postfix left 450 infix ; in is ( not 7 )"
          ++ bytes " is is end\n";
    }
    ∷ record { text = bytes "let infix  '\n' non 00050 ** ; postfix left 50 ^ ; in 000042 ** ( not # ) end"; listing = bytes "refused 3 at 11\n" }
    ∷ record {
      text =
          (108 ∷ 101 ∷ 116 ∷ 32 ∷ 112 ∷ 114 ∷ 101 ∷ 102 ∷ 105 ∷ 120 ∷ 32 ∷ 110 ∷ 111 ∷ 110 ∷ 32 ∷ 52 ∷ 48 ∷ 48 ∷ 32 ∷ 42 ∷ 42 ∷
          32 ∷ 59 ∷ 32 ∷ 112 ∷ 114 ∷ 101 ∷ 102 ∷ 105 ∷ 120 ∷ 32 ∷ 110 ∷ 111 ∷ 110 ∷ 32 ∷ 52 ∷ 53 ∷ 48 ∷ 32 ∷ 120 ∷ 111 ∷ 114 ∷
          32 ∷ 59 ∷ 32 ∷ 32 ∷ 127 ∷ 32 ∷ 105 ∷ 110 ∷ 32 ∷ 105 ∷ 32 ∷ 97 ∷ 110 ∷ 100 ∷ 32 ∷ 40 ∷ 32 ∷ 40 ∷ 32 ∷ 112 ∷ 114 ∷ 101 ∷
          102 ∷ 105 ∷ 120 ∷ 32 ∷ 45 ∷ 32 ∷ 39 ∷ 97 ∷ 32 ∷ 98 ∷ 39 ∷ 32 ∷ 45 ∷ 32 ∷ 40 ∷ 32 ∷ 39 ∷ 97 ∷ 32 ∷ 98 ∷ 39 ∷ 32 ∷ 45 ∷
          32 ∷ 102 ∷ 111 ∷ 111 ∷ 32 ∷ 41 ∷ 32 ∷ 97 ∷ 110 ∷ 100 ∷ 32 ∷ 120 ∷ 111 ∷ 114 ∷ 32 ∷ 42 ∷ 42 ∷ 32 ∷ 108 ∷ 101 ∷ 116 ∷
          32 ∷ 112 ∷ 108 ∷ 97 ∷ 105 ∷ 110 ∷ 32 ∷ 115 ∷ 32 ∷ 59 ∷ 32 ∷ 105 ∷ 110 ∷ 32 ∷ 39 ∷ 45 ∷ 39 ∷ 32 ∷ 101 ∷ 110 ∷ 100 ∷ 32 ∷
          41 ∷ 32 ∷ 61 ∷ 32 ∷ 40 ∷ 32 ∷ 120 ∷ 111 ∷ 114 ∷ 32 ∷ 102 ∷ 111 ∷ 111 ∷ 32 ∷ 111 ∷ 114 ∷ 32 ∷ 110 ∷ 111 ∷ 116 ∷ 32 ∷
          48 ∷ 48 ∷ 48 ∷ 48 ∷ 55 ∷ 32 ∷ 41 ∷ 32 ∷ 41 ∷ 32 ∷ 101 ∷ 110 ∷ 100 ∷ []);
      listing = bytes "refused 2 at 46\n";
    }
    ∷ record { text = bytes "let plain < ; infi aaaaaaaaaaaaaaaaaaaaaaaaaaaaaaaaaaaaaaaaaaaaaaaaaaaaaaaaaaaaaaaa x right 1200 m ; in 000001 or Year_7 end"; listing = bytes "refused 4 at 19\n" }
    ∷ record { text = bytes ") = ( ) = + 'a' 400 * + ) s 1"; listing = bytes "refused 6 at 0\n" }
    ∷ record {
      text =
          (108 ∷ 101 ∷ 116 ∷ 32 ∷ 112 ∷ 108 ∷ 97 ∷ 105 ∷ 110 ∷ 63 ∷ 59 ∷ 13 ∷ 10 ∷ 112 ∷ 111 ∷ 115 ∷ 116 ∷ 102 ∷ 105 ∷ 120 ∷ 32 ∷
          32 ∷ 110 ∷ 111 ∷ 110 ∷ 32 ∷ 10 ∷ 32 ∷ 52 ∷ 48 ∷ 48 ∷ 13 ∷ 10 ∷ 109 ∷ 59 ∷ 10 ∷ 112 ∷ 108 ∷ 97 ∷ 105 ∷ 110 ∷ 32 ∷ 32 ∷
          42 ∷ 32 ∷ 10 ∷ 32 ∷ 59 ∷ 10 ∷ 105 ∷ 110 ∷ 10 ∷ 108 ∷ 101 ∷ 116 ∷ 10 ∷ 112 ∷ 114 ∷ 101 ∷ 102 ∷ 105 ∷ 120 ∷ 32 ∷ 114 ∷
          105 ∷ 103 ∷ 104 ∷ 116 ∷ 32 ∷ 52 ∷ 53 ∷ 48 ∷ 32 ∷ 32 ∷ 105 ∷ 110 ∷ 102 ∷ 105 ∷ 120 ∷ 32 ∷ 32 ∷ 59 ∷ 105 ∷ 110 ∷ 32 ∷
          108 ∷ 101 ∷ 116 ∷ 32 ∷ 112 ∷ 114 ∷ 101 ∷ 102 ∷ 105 ∷ 120 ∷ 10 ∷ 110 ∷ 111 ∷ 110 ∷ 32 ∷ 32 ∷ 53 ∷ 48 ∷ 48 ∷ 32 ∷ 10 ∷
          32 ∷ 60 ∷ 32 ∷ 32 ∷ 59 ∷ 32 ∷ 112 ∷ 114 ∷ 101 ∷ 102 ∷ 105 ∷ 120 ∷ 10 ∷ 110 ∷ 111 ∷ 110 ∷ 13 ∷ 10 ∷ 51 ∷ 48 ∷ 48 ∷ 94 ∷
          32 ∷ 59 ∷ 10 ∷ 105 ∷ 110 ∷ 32 ∷ 32 ∷ 108 ∷ 101 ∷ 116 ∷ 32 ∷ 105 ∷ 110 ∷ 32 ∷ 94 ∷ 13 ∷ 10 ∷ 40 ∷ 32 ∷ 105 ∷ 110 ∷ 102 ∷
          105 ∷ 120 ∷ 9 ∷ 52 ∷ 50 ∷ 61 ∷ 112 ∷ 114 ∷ 101 ∷ 102 ∷ 105 ∷ 120 ∷ 32 ∷ 32 ∷ 43 ∷ 102 ∷ 111 ∷ 111 ∷ 32 ∷ 10 ∷ 32 ∷ 41 ∷
          32 ∷ 101 ∷ 110 ∷ 100 ∷ 32 ∷ 101 ∷ 110 ∷ 100 ∷ 32 ∷ 32 ∷ 101 ∷ 110 ∷ 100 ∷ 32 ∷ 101 ∷ 110 ∷ 100 ∷ 13 ∷ 10 ∷ []);
      listing =
          bytes "read 12\n0 number 0 0 153 2 0\n1 prefix 0 0 147 5 450\n2 name 0 0 156 6 0\n3 name 0 0 165 3 0\n4 infix 2 3 164 1 400\n5 infix 1 4 "
          ++ bytes "155 1 500\n6 bracket 5 0 0 0 0\n7 prefix 6 0 142 1 300\n8 block 7 0 135 6 0\n9 block 8 0 85 48 0\n10 block 9 0 52 32 0\n11 block 1"
          ++ bytes "0 0 0 51 0\ntidy 176\nlet plain ? ; postfix non 400 m ; plain * ; in let prefix right 450 infix ; in let prefix non 500 < ; prefix"
          ++ bytes " non 300 ^ ; in let in ^ ( infix 42 = prefix + foo ) end end end end\n";
    }
    ∷ record { text = bytes "++++++++++++++++++++++++++++++++++++++++++++++++++++++++++++++++ = b"; listing = bytes "refused 4 at 0\n" }
    ∷ record {
      text =
          bytes "(1=(a+(1=let prefix non 5p;in(((let plain zz;in let plain zz;in 1=(((let in(let prefix non 5p;in let in let in(let plain zz;in let"
          ++ bytes " prefix non 5p;in let in not((((let in((not((-let in((a))end))))end))))end end end)end end end)end)))end end)))end)))";
      listing = bytes "refused 7 at 183\n";
    }
    ∷ record { text = bytes "let infix non 50 m ; infix left 450 = ; infix left 600 not ; in non = Year_7 end"; listing = bytes "refused 17 at 55\n" }
    ∷ record {
      text =
          bytes "let plain r ; infix right 250 r ; prefix right 250 r ; plain infix ; prefix right 400 infix ; postfix left 400 infix ; plain xor ;"
          ++ bytes " infix left 250 xor ; prefix non 250 xor ; postfix left 250 xor ; in ( 3007527 or ++ ) + Year_7 end";
      listing =
          bytes "read 7\n0 number 0 0 201 7 0\n1 name 0 0 212 2 0\n2 infix 0 1 209 2 800\n3 bracket 2 0 0 0 0\n4 name 0 0 219 6 0\n5 infix 3 4 217 "
          ++ bytes "1 400\n6 block 5 0 0 198 0\ntidy 229\nlet plain r ; infix right 250 r ; prefix right 250 r ; plain infix ; prefix right 400 infix "
          ++ bytes "; postfix left 400 infix ; plain xor ; infix left 250 xor ; prefix non 250 xor ; postfix left 250 xor ; in ( 3007527 or ++ ) + Yea"
          ++ bytes "r_7 end\n";
    }
    ∷ record {
      text =
          bytes "let plain left ; prefix right 250 left ; postfix left 250 left ; plain ? ; infix left 300 ? ; prefix non 300 ? ; postfix left 300 "
          ++ bytes "? ; plain -> ; prefix non 300 -> ; postfix left 300 -> ; in 1 end";
      listing =
          bytes "read 2\n0 number 0 0 190 1 0\n1 block 0 0 0 189 0\ntidy 195\nlet plain left ; prefix right 250 left ; postfix left 250 left ; plai"
          ++ bytes "n ? ; infix left 300 ? ; prefix non 300 ? ; postfix left 300 ? ; plain -> ; prefix non 300 -> ; postfix left 300 -> ; in 1 end\n";
    }
    ∷ record { text = bytes "let prefix non 1 zz ; in a zz end"; listing = bytes "refused 11 at 22\n" }
    ∷ record { text = bytes "let postfix non 1201 zz ; in zz a end"; listing = bytes "refused 8 at 16\n" }
    ∷ record {
      text =
          (9 ∷ 108 ∷ 101 ∷ 116 ∷ 13 ∷ 10 ∷ 112 ∷ 114 ∷ 101 ∷ 102 ∷ 105 ∷ 120 ∷ 13 ∷ 10 ∷ 110 ∷ 111 ∷ 110 ∷ 9 ∷ 52 ∷ 48 ∷ 48 ∷ 10 ∷
          45 ∷ 10 ∷ 59 ∷ 32 ∷ 112 ∷ 108 ∷ 97 ∷ 105 ∷ 110 ∷ 9 ∷ 63 ∷ 9 ∷ 59 ∷ 32 ∷ 112 ∷ 111 ∷ 115 ∷ 116 ∷ 102 ∷ 105 ∷ 120 ∷ 32 ∷
          32 ∷ 110 ∷ 111 ∷ 110 ∷ 32 ∷ 51 ∷ 48 ∷ 48 ∷ 45 ∷ 45 ∷ 32 ∷ 10 ∷ 32 ∷ 59 ∷ 13 ∷ 10 ∷ 105 ∷ 110 ∷ 13 ∷ 10 ∷ 108 ∷ 101 ∷
          116 ∷ 32 ∷ 105 ∷ 110 ∷ 32 ∷ 10 ∷ 32 ∷ 89 ∷ 101 ∷ 97 ∷ 114 ∷ 95 ∷ 55 ∷ 32 ∷ 61 ∷ 32 ∷ 40 ∷ 32 ∷ 45 ∷ 32 ∷ 10 ∷ 32 ∷ 40 ∷
          32 ∷ 39 ∷ 95 ∷ 120 ∷ 39 ∷ 97 ∷ 110 ∷ 100 ∷ 32 ∷ 40 ∷ 10 ∷ 43 ∷ 43 ∷ 41 ∷ 41 ∷ 41 ∷ 101 ∷ 110 ∷ 100 ∷ 32 ∷ 101 ∷ 110 ∷
          100 ∷ []);
      listing =
          bytes "read 11\n0 name 0 0 73 6 0\n1 name 0 0 91 2 0\n2 name 0 0 100 2 0\n3 bracket 2 0 0 0 0\n4 infix 1 3 94 3 700\n5 bracket 4 0 0 0 0"
          ++ bytes "\n6 prefix 5 0 84 1 400\n7 bracket 6 0 0 0 0\n8 infix 0 7 80 1 500\n9 block 8 0 64 6 0\n10 block 9 0 1 61 0\ntidy 98\nlet prefix n"
          ++ bytes "on 400 - ; plain ? ; postfix non 300 -- ; in let in Year_7 = - ( '_x' and ++ ) end end\n";
    }
    ∷ record {
      text = bytes "let plain left ; infix left 400 left ; prefix non 400 left ; postfix left 400 left ; in 1 left ends * i end";
      listing =
          bytes "read 6\n0 number 0 0 88 1 0\n1 name 0 0 95 4 0\n2 name 0 0 102 1 0\n3 infix 1 2 100 1 300\n4 infix 0 3 90 4 400\n5 block 4 0 0 87 "
          ++ bytes "0\ntidy 107\nlet plain left ; infix left 400 left ; prefix non 400 left ; postfix left 400 left ; in 1 left ends * i end\n";
    }
    ∷ record {
      text =
          bytes "let plain ** ; infix right 400 ** ; prefix right 400 ** ; plain non ; prefix right 400 non ; postfix left 400 non ; plain m ; infi"
          ++ bytes "x left 250 m ; prefix non 250 m ; postfix left 250 m ; in - m ( - class m plain ) end";
      listing =
          bytes "read 8\n0 name 0 0 196 5 0\n1 name 0 0 204 5 0\n2 infix 0 1 202 1 250\n3 prefix 2 0 194 1 400\n4 bracket 3 0 0 0 0\n5 prefix 4 0 1"
          ++ bytes "90 1 250\n6 prefix 5 0 188 1 400\n7 block 6 0 0 187 0\ntidy 215\nlet plain ** ; infix right 400 ** ; prefix right 400 ** ; plain n"
          ++ bytes "on ; prefix right 400 non ; postfix left 400 non ; plain m ; infix left 250 m ; prefix non 250 m ; postfix left 250 m ; in - m ( -"
          ++ bytes " class m plain ) end\n";
    }
    ∷ record {
      text =
          (32 ∷ 32 ∷ 108 ∷ 101 ∷ 116 ∷ 10 ∷ 112 ∷ 108 ∷ 97 ∷ 105 ∷ 110 ∷ 32 ∷ 32 ∷ 105 ∷ 110 ∷ 95 ∷ 59 ∷ 105 ∷ 110 ∷ 32 ∷ 121 ∷
          102 ∷ 120 ∷ 10 ∷ 32 ∷ 128 ∷ 32 ∷ 97 ∷ 110 ∷ 100 ∷ 13 ∷ 10 ∷ 120 ∷ 49 ∷ 32 ∷ 32 ∷ 101 ∷ 110 ∷ 100 ∷ []);
      listing = bytes "refused 2 at 25\n";
    }
    ∷ record {
      text =
          (32 ∷ 108 ∷ 101 ∷ 116 ∷ 13 ∷ 10 ∷ 112 ∷ 108 ∷ 97 ∷ 105 ∷ 110 ∷ 32 ∷ 120 ∷ 111 ∷ 114 ∷ 59 ∷ 32 ∷ 105 ∷ 110 ∷ 102 ∷ 105 ∷
          120 ∷ 10 ∷ 114 ∷ 105 ∷ 103 ∷ 104 ∷ 116 ∷ 32 ∷ 50 ∷ 53 ∷ 48 ∷ 32 ∷ 120 ∷ 111 ∷ 114 ∷ 32 ∷ 59 ∷ 32 ∷ 112 ∷ 114 ∷ 101 ∷
          102 ∷ 105 ∷ 120 ∷ 32 ∷ 10 ∷ 32 ∷ 114 ∷ 105 ∷ 103 ∷ 104 ∷ 116 ∷ 32 ∷ 50 ∷ 53 ∷ 48 ∷ 120 ∷ 111 ∷ 114 ∷ 32 ∷ 59 ∷ 112 ∷
          108 ∷ 97 ∷ 105 ∷ 110 ∷ 42 ∷ 42 ∷ 59 ∷ 32 ∷ 105 ∷ 110 ∷ 102 ∷ 105 ∷ 120 ∷ 32 ∷ 110 ∷ 111 ∷ 110 ∷ 13 ∷ 10 ∷ 51 ∷ 48 ∷
          48 ∷ 10 ∷ 42 ∷ 42 ∷ 32 ∷ 59 ∷ 112 ∷ 111 ∷ 115 ∷ 116 ∷ 102 ∷ 105 ∷ 120 ∷ 9 ∷ 110 ∷ 111 ∷ 110 ∷ 10 ∷ 51 ∷ 48 ∷ 48 ∷ 42 ∷
          42 ∷ 32 ∷ 32 ∷ 59 ∷ 32 ∷ 112 ∷ 108 ∷ 97 ∷ 105 ∷ 110 ∷ 32 ∷ 94 ∷ 32 ∷ 32 ∷ 59 ∷ 105 ∷ 110 ∷ 102 ∷ 105 ∷ 120 ∷ 9 ∷ 108 ∷
          101 ∷ 102 ∷ 116 ∷ 32 ∷ 32 ∷ 52 ∷ 53 ∷ 48 ∷ 10 ∷ 94 ∷ 9 ∷ 59 ∷ 112 ∷ 114 ∷ 101 ∷ 102 ∷ 105 ∷ 120 ∷ 32 ∷ 110 ∷ 111 ∷
          110 ∷ 10 ∷ 52 ∷ 53 ∷ 48 ∷ 94 ∷ 32 ∷ 32 ∷ 59 ∷ 112 ∷ 111 ∷ 115 ∷ 116 ∷ 102 ∷ 105 ∷ 120 ∷ 10 ∷ 108 ∷ 101 ∷ 102 ∷ 116 ∷
          10 ∷ 52 ∷ 53 ∷ 48 ∷ 13 ∷ 10 ∷ 94 ∷ 32 ∷ 59 ∷ 105 ∷ 110 ∷ 32 ∷ 101 ∷ 110 ∷ 100 ∷ 115 ∷ 10 ∷ 111 ∷ 114 ∷ 9 ∷ 49 ∷ 32 ∷
          94 ∷ 32 ∷ 111 ∷ 114 ∷ 10 ∷ 49 ∷ 10 ∷ 120 ∷ 111 ∷ 114 ∷ 13 ∷ 10 ∷ 52 ∷ 54 ∷ 51 ∷ 56 ∷ 55 ∷ 56 ∷ 51 ∷ 49 ∷ 53 ∷ 101 ∷
          110 ∷ 100 ∷ []);
      listing =
          bytes "read 9\n0 name 0 0 182 4 0\n1 number 0 0 190 1 0\n2 postfix 1 0 192 1 450\n3 infix 0 2 187 2 800\n4 number 0 0 197 1 0\n5 number 0"
          ++ bytes " 0 204 9 0\n6 infix 4 5 199 3 250\n7 infix 3 6 194 2 800\n8 block 7 0 1 180 0\ntidy 218\nlet plain xor ; infix right 250 xor ; pre"
          ++ bytes "fix right 250 xor ; plain ** ; infix non 300 ** ; postfix non 300 ** ; plain ^ ; infix left 450 ^ ; prefix non 450 ^ ; postfix lef"
          ++ bytes "t 450 ^ ; in ends or 1 ^ or 1 xor 463878315 end\n";
    }
    ∷ record { text = bytes "let infix ( 5 x ; in a end"; listing = bytes "refused 6 at 10\n" }
    ∷ record { text = bytes "let infix right 9 x ; postfix left 9 x ; in a end"; listing = bytes "refused 10 at 41\n" }
    ∷ record { text = bytes "let plain in_ ; infix left 50 xor ; infix non 450 :- ; infix left 5 x prefix non 500 ** ; in a end"; listing = bytes "refused 8 at 70\n" }
    ∷ record {
      text = bytes "let plain xor ; prefix right 250 xor ; postfix left 250 xor ; in 1 xor end";
      listing =
          bytes "read 3\n0 number 0 0 65 1 0\n1 postfix 0 0 67 3 250\n2 block 1 0 0 64 0\ntidy 74\nlet plain xor ; prefix right 250 xor ; postfix l"
          ++ bytes "eft 250 xor ; in 1 xor end\n";
    }
    ∷ record { text = bytes "let plain / ; infix left 400 / ; postfix left 400 / ; in / 1 a * / end"; listing = bytes "refused 11 at 54\n" }
    ∷ record { text = bytes "let infix left aaaaaaaaaaaaaaaaaaaaaaaaaaaaaaaaaaaaaaaaaaaaaaaaaaaaaaaaaaaaaaaa z ; in a end"; listing = bytes "refused 4 at 15\n" }
    ∷ record { text = bytes "let infix non 300 ^ ; in prefix end"; listing = bytes "read 2\n0 name 0 0 25 6 0\n1 block 0 0 0 24 0\ntidy 35\nlet infix non 300 ^ ; in prefix end\n" }
    ∷ record { text = bytes "7"; listing = bytes "read 1\n0 number 0 0 0 1 0\ntidy 1\n7\n" }
    ∷ record {
      text =
          (108 ∷ 101 ∷ 116 ∷ 10 ∷ 105 ∷ 110 ∷ 32 ∷ 108 ∷ 101 ∷ 116 ∷ 10 ∷ 112 ∷ 114 ∷ 101 ∷ 102 ∷ 105 ∷ 120 ∷ 32 ∷ 114 ∷ 105 ∷
          103 ∷ 104 ∷ 116 ∷ 13 ∷ 10 ∷ 52 ∷ 48 ∷ 48 ∷ 32 ∷ 10 ∷ 32 ∷ 115 ∷ 59 ∷ 10 ∷ 105 ∷ 110 ∷ 32 ∷ 32 ∷ 55 ∷ 52 ∷ 57 ∷ 54 ∷
          55 ∷ 50 ∷ 48 ∷ 53 ∷ 32 ∷ 42 ∷ 32 ∷ 108 ∷ 101 ∷ 116 ∷ 32 ∷ 112 ∷ 111 ∷ 115 ∷ 116 ∷ 102 ∷ 105 ∷ 120 ∷ 32 ∷ 108 ∷ 101 ∷
          102 ∷ 116 ∷ 10 ∷ 51 ∷ 48 ∷ 48 ∷ 32 ∷ 47 ∷ 59 ∷ 105 ∷ 110 ∷ 9 ∷ 108 ∷ 101 ∷ 116 ∷ 13 ∷ 10 ∷ 112 ∷ 108 ∷ 97 ∷ 105 ∷ 110 ∷
          32 ∷ 10 ∷ 32 ∷ 115 ∷ 59 ∷ 112 ∷ 108 ∷ 97 ∷ 105 ∷ 110 ∷ 9 ∷ 63 ∷ 13 ∷ 10 ∷ 59 ∷ 32 ∷ 112 ∷ 114 ∷ 101 ∷ 102 ∷ 105 ∷ 120 ∷
          9 ∷ 110 ∷ 111 ∷ 110 ∷ 10 ∷ 52 ∷ 48 ∷ 48 ∷ 32 ∷ 33 ∷ 59 ∷ 105 ∷ 110 ∷ 10 ∷ 110 ∷ 111 ∷ 110 ∷ 32 ∷ 111 ∷ 114 ∷ 9 ∷ 108 ∷
          101 ∷ 116 ∷ 32 ∷ 112 ∷ 114 ∷ 101 ∷ 102 ∷ 105 ∷ 120 ∷ 13 ∷ 10 ∷ 110 ∷ 111 ∷ 110 ∷ 13 ∷ 10 ∷ 52 ∷ 53 ∷ 48 ∷ 115 ∷ 32 ∷
          59 ∷ 105 ∷ 110 ∷ 102 ∷ 105 ∷ 120 ∷ 32 ∷ 110 ∷ 111 ∷ 110 ∷ 32 ∷ 51 ∷ 48 ∷ 48 ∷ 9 ∷ 42 ∷ 59 ∷ 105 ∷ 110 ∷ 32 ∷ 32 ∷ 52 ∷
          50 ∷ 13 ∷ 10 ∷ 101 ∷ 110 ∷ 100 ∷ 32 ∷ 101 ∷ 110 ∷ 100 ∷ 9 ∷ 101 ∷ 110 ∷ 100 ∷ 9 ∷ 101 ∷ 110 ∷ 100 ∷ 32 ∷ 101 ∷ 110 ∷
          100 ∷ []);
      listing =
          bytes "read 10\n0 number 0 0 38 8 0\n1 name 0 0 121 3 0\n2 number 0 0 171 2 0\n3 block 2 0 128 41 0\n4 infix 1 3 125 2 800\n5 block 4 0 7"
          ++ bytes "5 45 0\n6 block 5 0 49 25 0\n7 infix 0 6 47 1 300\n8 block 7 0 7 29 0\n9 block 8 0 0 6 0\ntidy 193\nlet in let prefix right 400 s "
          ++ bytes "; in 74967205 * let postfix left 300 / ; in let plain s ; plain ? ; prefix non 400 ! ; in non or let prefix non 450 s ; infix non "
          ++ bytes "300 * ; in 42 end end end end end\n";
    }
    ∷ record { text = bytes "and end 'a'"; listing = bytes "refused 6 at 4\n" }
    ∷ record { text = bytes "b 'qqqqqqqqqqqqqqqqqqqqqqqqqqqqqqqqqqqqqqqqqqqqqqqqqqqqqqqqqqqqqqq"; listing = bytes "refused 3 at 2\n" }
    ∷ record { text = bytes "(((((((((((((((((((((((((((((((((a)))))))))))))))))))))))))))))))))"; listing = bytes "refused 7 at 32\n" }
    ∷ record {
      text =
          bytes "let plain = ; infix non 300 = ; prefix non 300 = ; postfix non 300 = ; plain + ; infix left 400 + ; prefix non 400 + ; postfix lef"
          ++ bytes "t 400 + ; in x1 and ( 42 = x1 < ( lets and class < # ) and not 1 ) end";
      listing =
          bytes "read 17\n0 name 0 0 143 2 0\n1 number 0 0 152 2 0\n2 name 0 0 157 2 0\n3 infix 1 2 155 1 300\n4 name 0 0 164 4 0\n5 name 0 0 173 5"
          ++ bytes " 0\n6 name 0 0 181 1 0\n7 infix 5 6 179 1 500\n8 infix 4 7 169 3 700\n9 bracket 8 0 0 0 0\n10 infix 3 9 160 1 500\n11 number 0 0 1"
          ++ bytes "93 1 0\n12 prefix 11 0 189 3 600\n13 infix 10 12 185 3 700\n14 bracket 13 0 0 0 0\n15 infix 0 14 146 3 700\n16 block 15 0 0 142 0"
          ++ bytes "\ntidy 200\nlet plain = ; infix non 300 = ; prefix non 300 = ; postfix non 300 = ; plain + ; infix left 400 + ; prefix non 400 + ;"
          ++ bytes " postfix left 400 + ; in x1 and ( 42 = x1 < ( lets and class < # ) and not 1 ) end\n";
    }
    ∷ record {
      text =
          (108 ∷ 101 ∷ 116 ∷ 32 ∷ 112 ∷ 114 ∷ 101 ∷ 102 ∷ 105 ∷ 120 ∷ 32 ∷ 114 ∷ 105 ∷ 103 ∷ 104 ∷ 116 ∷ 32 ∷ 48 ∷ 48 ∷ 48 ∷ 52 ∷
          48 ∷ 48 ∷ 47 ∷ 59 ∷ 105 ∷ 110 ∷ 32 ∷ 105 ∷ 110 ∷ 102 ∷ 105 ∷ 120 ∷ 43 ∷ 112 ∷ 114 ∷ 101 ∷ 102 ∷ 105 ∷ 120 ∷ 32 ∷ 101 ∷
          110 ∷ 100 ∷ 32 ∷ 39 ∷ 127 ∷ 39 ∷ []);
      listing = bytes "refused 3 at 45\n";
    }
    ∷ record {
      text =
          bytes "let prefix non 00000300 r ; infix non 400 -> ; nfix non 3A50 ! ; in 007 and r ( / = let plain non ; infix right 450 xor ; in z_ en"
          ++ bytes "d ) end";
      listing = bytes "refused 8 at 47\n";
    }
    ∷ record { text = bytes "( x_9_9_9_9_9_9_9_9_9_9_9_9_9_9_9_9_9_9_9_9_9_9_9_9_9_9_9_9_9_9_9_9 )"; listing = bytes "refused 4 at 2\n" }
    ∷ record { text = bytes "let in let infix left 9 x ; postfix non 9 x ; infix right 9 x ; prefix non 9 x ; in a end end"; listing = bytes "refused 10 at 81\n" }
    ∷ record { text = bytes "453824148 or prefix"; listing = bytes "read 3\n0 number 0 0 0 9 0\n1 name 0 0 13 6 0\n2 infix 0 1 10 2 800\ntidy 19\n453824148 or prefix\n" }
    ∷ record {
      text = bytes "let in(b-prefix)-('3a')*prefix-0end";
      listing =
          bytes "read 12\n0 name 0 0 7 1 0\n1 name 0 0 9 6 0\n2 infix 0 1 8 1 400\n3 bracket 2 0 0 0 0\n4 name 0 0 19 2 0\n5 bracket 4 0 0 0 0\n6 n"
          ++ bytes "ame 0 0 24 6 0\n7 infix 5 6 23 1 300\n8 infix 3 7 16 1 400\n9 number 0 0 31 1 0\n10 infix 8 9 30 1 400\n11 block 10 0 0 6 0\ntidy "
          ++ bytes "41\nlet in b - prefix - '3a' * prefix - 0 end\n";
    }
    ∷ record { text = (204 ∷ 173 ∷ 167 ∷ 245 ∷ 81 ∷ 147 ∷ []); listing = bytes "refused 2 at 0\n" }
    ∷ record {
      text =
          (108 ∷ 101 ∷ 116 ∷ 32 ∷ 112 ∷ 108 ∷ 97 ∷ 105 ∷ 110 ∷ 32 ∷ 45 ∷ 32 ∷ 59 ∷ 32 ∷ 10 ∷ 32 ∷ 105 ∷ 110 ∷ 102 ∷ 105 ∷ 120 ∷
          13 ∷ 10 ∷ 108 ∷ 101 ∷ 102 ∷ 116 ∷ 10 ∷ 52 ∷ 48 ∷ 48 ∷ 32 ∷ 32 ∷ 45 ∷ 13 ∷ 10 ∷ 59 ∷ 112 ∷ 114 ∷ 101 ∷ 102 ∷ 105 ∷ 120 ∷
          9 ∷ 110 ∷ 111 ∷ 110 ∷ 10 ∷ 52 ∷ 48 ∷ 48 ∷ 32 ∷ 45 ∷ 9 ∷ 59 ∷ 112 ∷ 111 ∷ 115 ∷ 116 ∷ 102 ∷ 105 ∷ 120 ∷ 32 ∷ 32 ∷ 108 ∷
          101 ∷ 102 ∷ 116 ∷ 32 ∷ 10 ∷ 32 ∷ 52 ∷ 48 ∷ 48 ∷ 45 ∷ 9 ∷ 59 ∷ 32 ∷ 105 ∷ 110 ∷ 9 ∷ 97 ∷ 9 ∷ 42 ∷ 32 ∷ 10 ∷ 32 ∷ 40 ∷
          32 ∷ 101 ∷ 110 ∷ 100 ∷ 115 ∷ 9 ∷ 42 ∷ 10 ∷ 110 ∷ 111 ∷ 110 ∷ 41 ∷ 101 ∷ 110 ∷ 100 ∷ 13 ∷ 10 ∷ []);
      listing =
          bytes "read 7\n0 name 0 0 81 1 0\n1 name 0 0 89 4 0\n2 name 0 0 96 3 0\n3 infix 1 2 94 1 300\n4 bracket 3 0 0 0 0\n5 infix 0 4 83 1 300\n"
          ++ bytes "6 block 5 0 0 80 0\ntidy 98\nlet plain - ; infix left 400 - ; prefix non 400 - ; postfix left 400 - ; in a * ( ends * non ) end\n";
    }
    ∷ record { text = bytes "let postfix non 300 * ; in a end"; listing = bytes "refused 10 at 24\n" }
    ∷ record { text = bytes "not let plain non;infix non 350->;in ends+(foo<736729016)+0<let in++and let postfix non 500xor;1end end end"; listing = bytes "refused 6 at 96\n" }
    ∷ record {
      text =
          bytes "let plain left ; infix left 450 left ; prefix non 450 left ; postfix left 450 left ; plain ? ; prefix non 450 ? ; postfix left 450"
          ++ bytes " ? ; plain is ; prefix right 400 is ; postfix left 400 is ; in - ( ( infix ) = ? op ) is end";
      listing =
          bytes "read 9\n0 name 0 0 199 5 0\n1 bracket 0 0 0 0 0\n2 name 0 0 211 2 0\n3 prefix 2 0 209 1 450\n4 infix 1 3 207 1 500\n5 bracket 4 0 "
          ++ bytes "0 0 0\n6 prefix 5 0 193 1 400\n7 postfix 6 0 216 2 400\n8 block 7 0 0 192 0\ntidy 218\nlet plain left ; infix left 450 left ; pref"
          ++ bytes "ix non 450 left ; postfix left 450 left ; plain ? ; prefix non 450 ? ; postfix left 450 ? ; plain is ; prefix right 400 is ; postf"
          ++ bytes "ix left 400 is ; in - ( infix = ? op ) is end\n";
    }
    ∷ record { text = bytes "let prefix right 700isright 700is;infix left 1200infix;in not'-'+(plai'-(non infix'let'))end"; listing = bytes "refused 3 at 86\n" }
    ∷ record { text = bytes "( 999 * 999999 ) / ( 1 - 1 )"; listing = bytes "refused 11 at 0\n" }
    ∷ record { text = bytes "- '\"'"; listing = bytes "read 2\n0 name 0 0 3 1 0\n1 prefix 0 0 0 1 400\ntidy 5\n- '\"'\n" }
    ∷ record {
      text =
          (108 ∷ 101 ∷ 116 ∷ 32 ∷ 32 ∷ 105 ∷ 110 ∷ 102 ∷ 105 ∷ 120 ∷ 13 ∷ 10 ∷ 110 ∷ 111 ∷ 110 ∷ 13 ∷ 10 ∷ 52 ∷ 48 ∷ 48 ∷ 32 ∷
          45 ∷ 32 ∷ 10 ∷ 32 ∷ 59 ∷ 105 ∷ 110 ∷ 9 ∷ 40 ∷ 10 ∷ 40 ∷ 122 ∷ 95 ∷ 13 ∷ 10 ∷ 42 ∷ 40 ∷ 40 ∷ 9 ∷ 105 ∷ 32 ∷ 111 ∷ 114 ∷
          32 ∷ 39 ∷ 97 ∷ 32 ∷ 98 ∷ 39 ∷ 13 ∷ 10 ∷ 41 ∷ 97 ∷ 110 ∷ 100 ∷ 40 ∷ 108 ∷ 101 ∷ 116 ∷ 115 ∷ 32 ∷ 42 ∷ 32 ∷ 47 ∷ 41 ∷
          41 ∷ 32 ∷ 10 ∷ 32 ∷ 41 ∷ 32 ∷ 32 ∷ 60 ∷ 108 ∷ 101 ∷ 116 ∷ 10 ∷ 112 ∷ 108 ∷ 97 ∷ 105 ∷ 110 ∷ 32 ∷ 105 ∷ 115 ∷ 59 ∷ 105 ∷
          110 ∷ 32 ∷ 108 ∷ 101 ∷ 116 ∷ 13 ∷ 10 ∷ 112 ∷ 114 ∷ 101 ∷ 102 ∷ 105 ∷ 120 ∷ 32 ∷ 114 ∷ 105 ∷ 103 ∷ 104 ∷ 116 ∷ 13 ∷ 10 ∷
          51 ∷ 53 ∷ 48 ∷ 32 ∷ 32 ∷ 115 ∷ 32 ∷ 59 ∷ 32 ∷ 10 ∷ 32 ∷ 112 ∷ 108 ∷ 97 ∷ 105 ∷ 110 ∷ 10 ∷ 102 ∷ 111 ∷ 111 ∷ 13 ∷ 10 ∷
          59 ∷ 112 ∷ 108 ∷ 97 ∷ 105 ∷ 110 ∷ 9 ∷ 42 ∷ 32 ∷ 59 ∷ 10 ∷ 105 ∷ 110 ∷ 32 ∷ 10 ∷ 32 ∷ 97 ∷ 32 ∷ 101 ∷ 110 ∷ 100 ∷ 10 ∷
          97 ∷ 110 ∷ 100 ∷ 40 ∷ 97 ∷ 32 ∷ 97 ∷ 110 ∷ 100 ∷ 32 ∷ 32 ∷ 45 ∷ 40 ∷ 32 ∷ 52 ∷ 50 ∷ 41 ∷ 32 ∷ 41 ∷ 13 ∷ 10 ∷ 101 ∷
          110 ∷ 100 ∷ 32 ∷ 41 ∷ 60 ∷ 10 ∷ 49 ∷ 53 ∷ 48 ∷ 48 ∷ 48 ∷ 57 ∷ 52 ∷ 57 ∷ 52 ∷ 9 ∷ 43 ∷ 32 ∷ 57 ∷ 51 ∷ 55 ∷ 52 ∷ 50 ∷
          53 ∷ 56 ∷ 56 ∷ 57 ∷ 32 ∷ 101 ∷ 110 ∷ 100 ∷ 32 ∷ []);
      listing =
          bytes "read 30\n0 name 0 0 32 2 0\n1 name 0 0 40 1 0\n2 name 0 0 46 3 0\n3 infix 1 2 42 2 800\n4 bracket 3 0 0 0 0\n5 name 0 0 57 4 0\n6 "
          ++ bytes "name 0 0 64 1 0\n7 infix 5 6 62 1 300\n8 bracket 7 0 0 0 0\n9 infix 4 8 53 3 700\n10 bracket 9 0 0 0 0\n11 infix 0 10 36 1 300\n12"
          ++ bytes " bracket 11 0 0 0 0\n13 name 0 0 147 1 0\n14 block 13 0 90 54 0\n15 name 0 0 157 1 0\n16 number 0 0 167 2 0\n17 bracket 16 0 0 0 0"
          ++ bytes "\n18 prefix 17 0 164 1 400\n19 infix 15 18 159 3 700\n20 bracket 19 0 0 0 0\n21 infix 14 20 153 3 700\n22 block 21 0 74 15 0\n23 i"
          ++ bytes "nfix 12 22 73 1 500\n24 bracket 23 0 0 0 0\n25 number 0 0 181 9 0\n26 number 0 0 193 9 0\n27 infix 25 26 191 1 400\n28 infix 24 27"
          ++ bytes " 179 1 500\n29 block 28 0 0 28 0\ntidy 192\nlet infix non 400 - ; in ( z_ * ( ( i or 'a b' ) and lets * / ) < let plain is ; in le"
          ++ bytes "t prefix right 350 s ; plain foo ; plain * ; in a end and ( a and - 42 ) end ) < 150009494 + 937425889 end\n";
    }
    ∷ record {
      text =
          (32 ∷ 108 ∷ 101 ∷ 116 ∷ 32 ∷ 97 ∷ 95 ∷ 97 ∷ 95 ∷ 97 ∷ 95 ∷ 97 ∷ 95 ∷ 97 ∷ 95 ∷ 97 ∷ 95 ∷ 97 ∷ 95 ∷ 97 ∷ 95 ∷ 97 ∷ 95 ∷
          97 ∷ 95 ∷ 97 ∷ 95 ∷ 97 ∷ 95 ∷ 97 ∷ 95 ∷ 97 ∷ 95 ∷ 97 ∷ 95 ∷ 97 ∷ 95 ∷ 97 ∷ 95 ∷ 97 ∷ 95 ∷ 97 ∷ 95 ∷ 97 ∷ 95 ∷ 97 ∷ 95 ∷
          97 ∷ 95 ∷ 97 ∷ 95 ∷ 97 ∷ 95 ∷ 97 ∷ 95 ∷ 97 ∷ 95 ∷ 97 ∷ 95 ∷ 97 ∷ 95 ∷ 97 ∷ 95 ∷ 97 ∷ 95 ∷ 97 ∷ 95 ∷ 97 ∷ 95 ∷ 97 ∷ 95 ∷
          97 ∷ 95 ∷ 97 ∷ 95 ∷ 97 ∷ 95 ∷ 97 ∷ 95 ∷ 97 ∷ 95 ∷ 97 ∷ 95 ∷ 97 ∷ 95 ∷ 32 ∷ 32 ∷ 10 ∷ 32 ∷ 105 ∷ 110 ∷ 102 ∷ 105 ∷ 120 ∷
          32 ∷ 32 ∷ 108 ∷ 101 ∷ 102 ∷ 116 ∷ 32 ∷ 52 ∷ 48 ∷ 48 ∷ 10 ∷ 43 ∷ 13 ∷ 10 ∷ 59 ∷ 105 ∷ 110 ∷ 32 ∷ 108 ∷ 101 ∷ 116 ∷ 115 ∷
          9 ∷ 101 ∷ 110 ∷ 100 ∷ 9 ∷ 111 ∷ 114 ∷ 32 ∷ 32 ∷ 40 ∷ 32 ∷ 101 ∷ 110 ∷ 100 ∷ 115 ∷ 10 ∷ 111 ∷ 114 ∷ 10 ∷ 108 ∷ 101 ∷
          102 ∷ 116 ∷ 45 ∷ 13 ∷ 10 ∷ 35 ∷ 41 ∷ []);
      listing = bytes "refused 4 at 5\n";
    }
    ∷ record {
      text =
          bytes "let plain=;infix right 400=;prefix right 400=;plain!;prefix non 400!;postfix left 400!;plain xor;prefix non 300xor;postfix left 30"
          ++ bytes "0xor;plain:-;prefix non 450:-;postfix left 450:-;in(42*non=(not 749017349))xor:-end";
      listing =
          bytes "read 11\n0 number 0 0 182 2 0\n1 name 0 0 185 3 0\n2 infix 0 1 184 1 300\n3 number 0 0 194 9 0\n4 prefix 3 0 190 3 600\n5 bracket "
          ++ bytes "4 0 0 0 0\n6 infix 2 5 188 1 400\n7 bracket 6 0 0 0 0\n8 postfix 7 0 205 3 300\n9 postfix 8 0 208 2 450\n10 block 9 0 0 181 0\ntid"
          ++ bytes "y 260\nlet plain = ; infix right 400 = ; prefix right 400 = ; plain ! ; prefix non 400 ! ; postfix left 400 ! ; plain xor ; prefix"
          ++ bytes " non 300 xor ; postfix left 300 xor ; plain :- ; prefix non 450 :- ; postfix left 450 :- ; in ( 42 * non = ( not 749017349 ) ) xor"
          ++ bytes " :- end\n";
    }
    ∷ record { text = bytes "/ ( non let"; listing = bytes "refused 6 at 11\n" }
    ∷ record {
      text =
          bytes "( / * let postfix left 000000450 left ; in 42 end - prefix = let in 865291020 + '+' = ( not 478232538 ) end )  , * ( not 42 ) = le"
          ++ bytes "t prefix non 400 -> ; in / end";
      listing = bytes "refused 2 at 111\n";
    }
    ∷ record { text = bytes "op or (  1111111111 b )"; listing = bytes "refused 4 at 9\n" }
    ∷ record { text = bytes "'~('"; listing = bytes "read 1\n0 name 0 0 1 2 0\ntidy 4\n'~('\n" }
    ∷ record {
      text = bytes "not let prefix right 1 in_ ; in Year_7 end";
      listing = bytes "read 3\n0 name 0 0 32 6 0\n1 block 0 0 4 27 0\n2 prefix 1 0 0 3 600\ntidy 42\nnot let prefix right 1 in_ ; in Year_7 end\n";
    }
    ∷ record {
      text = bytes "( ( ( 1000 / 999999 ) * ( ( 10 * 7 ) * ( - 0 ) ) ) - ( ( 31622 + ( 2 * 999 ) ) - 788987554 ) ) / ( ( 999 * 10 ) + ( 999999++ 0 ) )";
      listing = bytes "refused 11 at 0\n";
    }
    ∷ record {
      text = bytes "let plain-;infix left 300-;postfix left 300-;in z_=yfx- *plain+(7+ #or 7+a)end";
      listing =
          bytes "read 16\n0 name 0 0 48 2 0\n1 name 0 0 51 3 0\n2 postfix 1 0 54 1 300\n3 name 0 0 57 5 0\n4 infix 2 3 56 1 300\n5 number 0 0 64 1 "
          ++ bytes "0\n6 name 0 0 67 1 0\n7 infix 5 6 65 1 400\n8 number 0 0 71 1 0\n9 name 0 0 73 1 0\n10 infix 8 9 72 1 400\n11 infix 7 10 68 2 800"
          ++ bytes "\n12 bracket 11 0 0 0 0\n13 infix 4 12 62 1 400\n14 infix 0 13 50 1 500\n15 block 14 0 0 47 0\ntidy 100\nlet plain - ; infix left "
          ++ bytes "300 - ; postfix left 300 - ; in z_ = yfx - * plain + ( 7 + # or 7 + a ) end\n";
    }
    ∷ record {
      text =
          (32 ∷ 97 ∷ 32 ∷ 32 ∷ 43 ∷ 32 ∷ 108 ∷ 101 ∷ 116 ∷ 32 ∷ 112 ∷ 111 ∷ 115 ∷ 116 ∷ 102 ∷ 105 ∷ 120 ∷ 32 ∷ 110 ∷ 111 ∷ 110 ∷
          32 ∷ 55 ∷ 50 ∷ 54 ∷ 32 ∷ 110 ∷ 111 ∷ 110 ∷ 59 ∷ 13 ∷ 10 ∷ 97 ∷ 9 ∷ 105 ∷ 110 ∷ 32 ∷ 97 ∷ 32 ∷ 101 ∷ 110 ∷ 100 ∷ 32 ∷
          32 ∷ []);
      listing = bytes "refused 8 at 32\n";
    }
    ∷ record {
      text =
          (108 ∷ 101 ∷ 116 ∷ 32 ∷ 112 ∷ 111 ∷ 115 ∷ 116 ∷ 102 ∷ 105 ∷ 120 ∷ 32 ∷ 110 ∷ 111 ∷ 110 ∷ 9 ∷ 51 ∷ 48 ∷ 48 ∷ 32 ∷ 45 ∷
          45 ∷ 59 ∷ 112 ∷ 114 ∷ 101 ∷ 102 ∷ 105 ∷ 120 ∷ 32 ∷ 110 ∷ 111 ∷ 110 ∷ 32 ∷ 52 ∷ 53 ∷ 48 ∷ 32 ∷ 105 ∷ 115 ∷ 59 ∷ 105 ∷
          110 ∷ 32 ∷ 32 ∷ 45 ∷ 9 ∷ 108 ∷ 101 ∷ 116 ∷ 32 ∷ 10 ∷ 32 ∷ 112 ∷ 111 ∷ 115 ∷ 116 ∷ 102 ∷ 105 ∷ 120 ∷ 32 ∷ 39 ∷ 32 ∷ 13 ∷
          10 ∷ 110 ∷ 111 ∷ 110 ∷ 10 ∷ 51 ∷ 53 ∷ 48 ∷ 32 ∷ 94 ∷ 59 ∷ 112 ∷ 111 ∷ 115 ∷ 116 ∷ 102 ∷ 105 ∷ 120 ∷ 32 ∷ 108 ∷ 101 ∷
          102 ∷ 116 ∷ 32 ∷ 48 ∷ 52 ∷ 53 ∷ 48 ∷ 32 ∷ 33 ∷ 59 ∷ 13 ∷ 10 ∷ 105 ∷ 110 ∷ 10 ∷ 40 ∷ 54 ∷ 57 ∷ 52 ∷ 52 ∷ 57 ∷ 56 ∷ 49 ∷
          51 ∷ 56 ∷ 42 ∷ 98 ∷ 42 ∷ 32 ∷ 32 ∷ 40 ∷ 32 ∷ 47 ∷ 111 ∷ 114 ∷ 9 ∷ 108 ∷ 101 ∷ 102 ∷ 116 ∷ 9 ∷ 41 ∷ 9 ∷ 94 ∷ 10 ∷ 41 ∷
          45 ∷ 45 ∷ 32 ∷ 94 ∷ 101 ∷ 110 ∷ 100 ∷ 32 ∷ 32 ∷ 45 ∷ 45 ∷ 101 ∷ 110 ∷ 100 ∷ []);
      listing = bytes "refused 3 at 61\n";
    }
    ∷ record {
      text =
          bytes "(let plain zz;in(((let prefix non 5p;in((((((let in(let prefix non 5p;in let prefix non 5p;in let plain zz;in((let prefix non 5p;i"
          ++ bytes "n a end))end end end)end))))))end)))end)";
      listing =
          bytes "read 21\n0 name 0 0 132 1 0\n1 block 0 0 111 20 0\n2 bracket 1 0 0 0 0\n3 bracket 2 0 0 0 0\n4 block 3 0 94 15 0\n5 block 4 0 73 2"
          ++ bytes "0 0\n6 block 5 0 52 20 0\n7 bracket 6 0 0 0 0\n8 block 7 0 45 6 0\n9 bracket 8 0 0 0 0\n10 bracket 9 0 0 0 0\n11 bracket 10 0 0 0 "
          ++ bytes "0\n12 bracket 11 0 0 0 0\n13 bracket 12 0 0 0 0\n14 bracket 13 0 0 0 0\n15 block 14 0 19 20 0\n16 bracket 15 0 0 0 0\n17 bracket 1"
          ++ bytes "6 0 0 0 0\n18 bracket 17 0 0 0 0\n19 block 18 0 1 15 0\n20 bracket 19 0 0 0 0\ntidy 168\nlet plain zz ; in let prefix non 5 p ; in"
          ++ bytes " let in let prefix non 5 p ; in let prefix non 5 p ; in let plain zz ; in let prefix non 5 p ; in a end end end end end end end\n";
    }
    ∷ record {
      text =
          (32 ∷ 108 ∷ 101 ∷ 116 ∷ 13 ∷ 10 ∷ 112 ∷ 108 ∷ 97 ∷ 105 ∷ 110 ∷ 32 ∷ 10 ∷ 32 ∷ 108 ∷ 101 ∷ 102 ∷ 116 ∷ 59 ∷ 32 ∷ 10 ∷
          32 ∷ 112 ∷ 114 ∷ 101 ∷ 102 ∷ 105 ∷ 120 ∷ 13 ∷ 10 ∷ 114 ∷ 105 ∷ 103 ∷ 104 ∷ 116 ∷ 13 ∷ 10 ∷ 50 ∷ 53 ∷ 48 ∷ 9 ∷ 108 ∷
          101 ∷ 102 ∷ 116 ∷ 32 ∷ 32 ∷ 59 ∷ 13 ∷ 10 ∷ 112 ∷ 111 ∷ 115 ∷ 116 ∷ 102 ∷ 105 ∷ 120 ∷ 32 ∷ 10 ∷ 32 ∷ 108 ∷ 101 ∷ 102 ∷
          116 ∷ 32 ∷ 32 ∷ 50 ∷ 53 ∷ 48 ∷ 13 ∷ 10 ∷ 108 ∷ 101 ∷ 102 ∷ 116 ∷ 59 ∷ 13 ∷ 10 ∷ 112 ∷ 108 ∷ 97 ∷ 105 ∷ 110 ∷ 32 ∷ 32 ∷
          115 ∷ 32 ∷ 59 ∷ 32 ∷ 32 ∷ 112 ∷ 114 ∷ 101 ∷ 102 ∷ 105 ∷ 120 ∷ 13 ∷ 10 ∷ 114 ∷ 105 ∷ 103 ∷ 104 ∷ 116 ∷ 13 ∷ 10 ∷ 51 ∷
          48 ∷ 48 ∷ 115 ∷ 9 ∷ 59 ∷ 10 ∷ 112 ∷ 111 ∷ 115 ∷ 116 ∷ 102 ∷ 105 ∷ 120 ∷ 13 ∷ 10 ∷ 108 ∷ 101 ∷ 102 ∷ 116 ∷ 32 ∷ 51 ∷
          48 ∷ 48 ∷ 115 ∷ 59 ∷ 32 ∷ 105 ∷ 110 ∷ 32 ∷ 32 ∷ 89 ∷ 101 ∷ 97 ∷ 114 ∷ 95 ∷ 55 ∷ 42 ∷ 32 ∷ 40 ∷ 9 ∷ 108 ∷ 101 ∷ 102 ∷
          116 ∷ 32 ∷ 121 ∷ 102 ∷ 120 ∷ 32 ∷ 108 ∷ 101 ∷ 102 ∷ 116 ∷ 42 ∷ 32 ∷ 10 ∷ 32 ∷ 40 ∷ 32 ∷ 111 ∷ 112 ∷ 32 ∷ 108 ∷ 101 ∷
          102 ∷ 116 ∷ 43 ∷ 32 ∷ 55 ∷ 48 ∷ 55 ∷ 57 ∷ 50 ∷ 52 ∷ 54 ∷ 57 ∷ 54 ∷ 10 ∷ 41 ∷ 9 ∷ 43 ∷ 40 ∷ 32 ∷ 10 ∷ 32 ∷ 40 ∷ 9 ∷
          102 ∷ 111 ∷ 111 ∷ 41 ∷ 10 ∷ 108 ∷ 101 ∷ 102 ∷ 116 ∷ 32 ∷ 41 ∷ 32 ∷ 32 ∷ 41 ∷ 32 ∷ 10 ∷ 32 ∷ 101 ∷ 110 ∷ 100 ∷ 9 ∷ []);
      listing =
          bytes "read 18\n0 name 0 0 136 6 0\n1 name 0 0 151 3 0\n2 postfix 1 0 155 4 250\n3 prefix 2 0 146 4 250\n4 name 0 0 165 2 0\n5 postfix 4 "
          ++ bytes "0 168 4 250\n6 number 0 0 174 9 0\n7 infix 5 6 172 1 400\n8 bracket 7 0 0 0 0\n9 infix 3 8 159 1 300\n10 name 0 0 193 3 0\n11 brac"
          ++ bytes "ket 10 0 0 0 0\n12 postfix 11 0 198 4 250\n13 bracket 12 0 0 0 0\n14 infix 9 13 186 1 400\n15 bracket 14 0 0 0 0\n16 infix 0 15 14"
          ++ bytes "2 1 300\n17 block 16 0 1 133 0\ntidy 187\nlet plain left ; prefix right 250 left ; postfix left 250 left ; plain s ; prefix right "
          ++ bytes "300 s ; postfix left 300 s ; in Year_7 * ( left yfx left * ( op left + 707924696 ) + foo left ) end\n";
    }
    ∷ record {
      text = bytes "let plain*;in# <7end";
      listing = bytes "read 4\n0 name 0 0 13 1 0\n1 number 0 0 16 1 0\n2 infix 0 1 15 1 500\n3 block 2 0 0 13 0\ntidy 26\nlet plain * ; in # < 7 end\n";
    }
    ∷ record { text = bytes "let in let infix left 600 not ; in a end end"; listing = bytes "refused 17 at 26\n" }
    ∷ record {
      text =
          bytes "let plain--;infix left 450--;postfix left 450--;plain**;infix left 400**;prefix non 400**;postfix left 400**;plain/;infix left 400"
          ++ bytes "/;prefix non 400/;postfix left 400/;in 42= /(op/42/)end";
      listing =
          bytes "read 9\n0 number 0 0 169 2 0\n1 name 0 0 175 2 0\n2 number 0 0 178 2 0\n3 infix 1 2 177 1 400\n4 postfix 3 0 180 1 400\n5 bracket "
          ++ bytes "4 0 0 0 0\n6 prefix 5 0 173 1 400\n7 infix 0 6 171 1 500\n8 block 7 0 0 168 0\ntidy 226\nlet plain -- ; infix left 450 -- ; postfi"
          ++ bytes "x left 450 -- ; plain ** ; infix left 400 ** ; prefix non 400 ** ; postfix left 400 ** ; plain / ; infix left 400 / ; prefix non 4"
          ++ bytes "00 / ; postfix left 400 / ; in 42 = / ( op / 42 / ) end\n";
    }
    ∷ record { text = bytes "not in in s s plain ' ' right s"; listing = bytes "refused 6 at 4\n" }
    ∷ record { text = bytes "let plain - ; infix non 250 - ; postfix non 250 - ; in 1 - 1 - 1 a - a a end"; listing = bytes "refused 11 at 52\n" }
    ∷ record {
      text = (40 ∷ 32 ∷ 40 ∷ 32 ∷ 97 ∷ 32 ∷ 42 ∷ 8 ∷ 32 ∷ 52 ∷ 57 ∷ 52 ∷ 56 ∷ 52 ∷ 53 ∷ 54 ∷ 53 ∷ 32 ∷ 41 ∷ 32 ∷ 43 ∷ 32 ∷ 51 ∷ 32 ∷ 41 ∷ []);
      listing = bytes "refused 2 at 7\n";
    }
    ∷ record {
      text = bytes "(++)*(x1 or infix)";
      listing =
          bytes "read 7\n0 name 0 0 1 2 0\n1 bracket 0 0 0 0 0\n2 name 0 0 6 2 0\n3 name 0 0 12 5 0\n4 infix 2 3 9 2 800\n5 bracket 4 0 0 0 0\n6 in"
          ++ bytes "fix 1 5 4 1 300\ntidy 20\n++ * ( x1 or infix )\n";
    }
    ∷ record {
      text =
          bytes "let plain in_ ; infix non 250 in_ ; prefix non 250 in_ ; postfix non 250 in_ ; in not not Let * ( x1 < 'in' and 183994595 = ends )"
          ++ bytes " end";
      listing =
          bytes "read 13\n0 name 0 0 90 3 0\n1 name 0 0 98 2 0\n2 name 0 0 104 2 0\n3 infix 1 2 101 1 500\n4 number 0 0 112 9 0\n5 name 0 0 124 4 0"
          ++ bytes "\n6 infix 4 5 122 1 500\n7 infix 3 6 108 3 700\n8 bracket 7 0 0 0 0\n9 infix 0 8 94 1 300\n10 prefix 9 0 86 3 600\n11 prefix 10 0 "
          ++ bytes "82 3 600\n12 block 11 0 0 81 0\ntidy 134\nlet plain in_ ; infix non 250 in_ ; prefix non 250 in_ ; postfix non 250 in_ ; in not no"
          ++ bytes "t Let * ( x1 < 'in' and 183994595 = ends ) end\n";
    }
    ∷ record { text = bytes "x_9_9_9_9_9_9_9_9_9_9_9_9_9_9_9_9_9_9_9_9_9_9_9_9_9_9_9_9_9_9_9_9"; listing = bytes "refused 4 at 0\n" }
    ∷ record {
      text = bytes "( 3 * 106903955 ) + ( 999999 * 999 )";
      listing =
          bytes "read 9\n0 number 0 0 2 1 0\n1 number 0 0 6 9 0\n2 infix 0 1 4 1 300\n3 bracket 2 0 0 0 0\n4 number 0 0 22 6 0\n5 number 0 0 31 3 0"
          ++ bytes "\n6 infix 4 5 29 1 300\n7 bracket 6 0 0 0 0\n8 infix 3 7 18 1 400\ntidy 28\n3 * 106903955 + 999999 * 999\n";
    }
    ∷ record {
      text =
          (108 ∷ 101 ∷ 116 ∷ 32 ∷ 112 ∷ 108 ∷ 97 ∷ 105 ∷ 110 ∷ 42 ∷ 42 ∷ 32 ∷ 32 ∷ 59 ∷ 13 ∷ 10 ∷ 105 ∷ 110 ∷ 102 ∷ 105 ∷ 120 ∷
          32 ∷ 10 ∷ 32 ∷ 108 ∷ 101 ∷ 102 ∷ 116 ∷ 32 ∷ 52 ∷ 48 ∷ 48 ∷ 32 ∷ 10 ∷ 32 ∷ 42 ∷ 42 ∷ 59 ∷ 32 ∷ 112 ∷ 114 ∷ 101 ∷ 102 ∷
          105 ∷ 120 ∷ 9 ∷ 110 ∷ 111 ∷ 110 ∷ 32 ∷ 52 ∷ 48 ∷ 48 ∷ 42 ∷ 42 ∷ 32 ∷ 10 ∷ 32 ∷ 59 ∷ 112 ∷ 111 ∷ 115 ∷ 116 ∷ 102 ∷ 105 ∷
          120 ∷ 10 ∷ 108 ∷ 101 ∷ 102 ∷ 116 ∷ 32 ∷ 10 ∷ 32 ∷ 52 ∷ 48 ∷ 48 ∷ 32 ∷ 10 ∷ 32 ∷ 42 ∷ 42 ∷ 59 ∷ 32 ∷ 112 ∷ 108 ∷ 97 ∷
          105 ∷ 110 ∷ 32 ∷ 33 ∷ 59 ∷ 9 ∷ 105 ∷ 110 ∷ 102 ∷ 105 ∷ 120 ∷ 32 ∷ 32 ∷ 108 ∷ 101 ∷ 102 ∷ 116 ∷ 32 ∷ 10 ∷ 32 ∷ 52 ∷ 48 ∷
          48 ∷ 32 ∷ 10 ∷ 32 ∷ 33 ∷ 59 ∷ 112 ∷ 111 ∷ 115 ∷ 116 ∷ 102 ∷ 105 ∷ 120 ∷ 32 ∷ 10 ∷ 32 ∷ 108 ∷ 101 ∷ 102 ∷ 116 ∷ 10 ∷
          52 ∷ 48 ∷ 48 ∷ 33 ∷ 10 ∷ 59 ∷ 32 ∷ 105 ∷ 110 ∷ 32 ∷ 10 ∷ 32 ∷ 55 ∷ 49 ∷ 55 ∷ 56 ∷ 50 ∷ 53 ∷ 51 ∷ 52 ∷ 55 ∷ 32 ∷ 32 ∷
          111 ∷ 114 ∷ 32 ∷ 10 ∷ 32 ∷ 52 ∷ 50 ∷ 97 ∷ 110 ∷ 100 ∷ 32 ∷ 10 ∷ 32 ∷ 40 ∷ 32 ∷ 39 ∷ 95 ∷ 120 ∷ 39 ∷ 32 ∷ 41 ∷ 101 ∷
          110 ∷ 100 ∷ 13 ∷ 10 ∷ []);
      listing =
          bytes "read 7\n0 number 0 0 142 9 0\n1 number 0 0 158 2 0\n2 name 0 0 169 2 0\n3 bracket 2 0 0 0 0\n4 infix 1 3 160 3 700\n5 infix 0 4 15"
          ++ bytes "3 2 800\n6 block 5 0 0 139 0\ntidy 158\nlet plain ** ; infix left 400 ** ; prefix non 400 ** ; postfix left 400 ** ; plain ! ; inf"
          ++ bytes "ix left 400 ! ; postfix left 400 ! ; in 717825347 or 42 and '_x' end\n";
    }
    ∷ record { text = bytes "let infix non 400 + ; infix in a end"; listing = bytes "refused 8 at 28\n" }
    ∷ record {
      text =
          bytes "let plain < ; prefix non 300 < ; postfix left 300 < ; plain is ; infix left 400 is ; prefix non 400 is ; postfix left 400 is ; pla"
          ++ bytes "in m ; prefix right 400 m ; postfix left 400 m ; in m m Year_7 is non = ( Let or ( b is or - i - Year_7 ) ) end";
      listing =
          bytes "read 18\n0 name 0 0 186 6 0\n1 name 0 0 196 3 0\n2 infix 0 1 193 2 400\n3 prefix 2 0 184 1 400\n4 prefix 3 0 182 1 400\n5 name 0 0"
          ++ bytes " 204 3 0\n6 name 0 0 213 1 0\n7 postfix 6 0 215 2 400\n8 name 0 0 223 1 0\n9 prefix 8 0 221 1 400\n10 name 0 0 227 6 0\n11 infix 9"
          ++ bytes " 10 225 1 400\n12 infix 7 11 218 2 800\n13 bracket 12 0 0 0 0\n14 infix 5 13 208 2 800\n15 bracket 14 0 0 0 0\n16 infix 4 15 200 1"
          ++ bytes " 500\n17 block 16 0 0 181 0\ntidy 241\nlet plain < ; prefix non 300 < ; postfix left 300 < ; plain is ; infix left 400 is ; prefix"
          ++ bytes " non 400 is ; postfix left 400 is ; plain m ; prefix right 400 m ; postfix left 400 m ; in m m Year_7 is non = ( Let or ( b is or "
          ++ bytes "- i - Year_7 ) ) end\n";
    }
    ∷ record {
      text =
          (108 ∷ 101 ∷ 116 ∷ 32 ∷ 32 ∷ 112 ∷ 111 ∷ 115 ∷ 116 ∷ 102 ∷ 105 ∷ 120 ∷ 10 ∷ 108 ∷ 101 ∷ 102 ∷ 116 ∷ 32 ∷ 53 ∷ 48 ∷ 32 ∷
          115 ∷ 32 ∷ 10 ∷ 32 ∷ 59 ∷ 13 ∷ 10 ∷ 112 ∷ 108 ∷ 97 ∷ 105 ∷ 110 ∷ 13 ∷ 10 ∷ 45 ∷ 32 ∷ 59 ∷ 10 ∷ 112 ∷ 114 ∷ 101 ∷ 102 ∷
          105 ∷ 120 ∷ 32 ∷ 110 ∷ 111 ∷ 110 ∷ 32 ∷ 49 ∷ 13 ∷ 10 ∷ 45 ∷ 13 ∷ 10 ∷ 59 ∷ 105 ∷ 110 ∷ 32 ∷ 32 ∷ 40 ∷ 40 ∷ 40 ∷ 32 ∷
          48 ∷ 43 ∷ 112 ∷ 108 ∷ 97 ∷ 105 ∷ 110 ∷ 32 ∷ 42 ∷ 32 ∷ 43 ∷ 43 ∷ 32 ∷ 10 ∷ 32 ∷ 97 ∷ 110 ∷ 100 ∷ 32 ∷ 40 ∷ 32 ∷ 32 ∷
          105 ∷ 110 ∷ 102 ∷ 105 ∷ 120 ∷ 10 ∷ 111 ∷ 114 ∷ 32 ∷ 111 ∷ 112 ∷ 32 ∷ 41 ∷ 32 ∷ 43 ∷ 40 ∷ 9 ∷ 105 ∷ 41 ∷ 32 ∷ 41 ∷ 60 ∷
          108 ∷ 101 ∷ 116 ∷ 32 ∷ 105 ∷ 110 ∷ 102 ∷ 105 ∷ 120 ∷ 32 ∷ 32 ∷ 46 ∷ 32 ∷ 110 ∷ 111 ∷ 110 ∷ 32 ∷ 56 ∷ 54 ∷ 53 ∷ 32 ∷
          105 ∷ 115 ∷ 32 ∷ 32 ∷ 59 ∷ 32 ∷ 32 ∷ 105 ∷ 110 ∷ 32 ∷ 10 ∷ 32 ∷ 48 ∷ 48 ∷ 48 ∷ 48 ∷ 48 ∷ 55 ∷ 105 ∷ 115 ∷ 32 ∷ 110 ∷
          111 ∷ 116 ∷ 32 ∷ 32 ∷ 102 ∷ 111 ∷ 111 ∷ 32 ∷ 32 ∷ 61 ∷ 32 ∷ 48 ∷ 48 ∷ 48 ∷ 48 ∷ 48 ∷ 48 ∷ 42 ∷ 32 ∷ 108 ∷ 101 ∷ 116 ∷
          115 ∷ 32 ∷ 101 ∷ 110 ∷ 100 ∷ 9 ∷ 111 ∷ 114 ∷ 32 ∷ 10 ∷ 32 ∷ 105 ∷ 110 ∷ 102 ∷ 105 ∷ 120 ∷ 13 ∷ 10 ∷ 97 ∷ 110 ∷ 100 ∷
          32 ∷ 101 ∷ 110 ∷ 100 ∷ 115 ∷ 32 ∷ 32 ∷ 41 ∷ 32 ∷ 115 ∷ 32 ∷ 60 ∷ 9 ∷ 108 ∷ 101 ∷ 116 ∷ 115 ∷ 43 ∷ 10 ∷ 76 ∷ 101 ∷ 116 ∷
          41 ∷ 115 ∷ 10 ∷ 101 ∷ 110 ∷ 100 ∷ []);
      listing = bytes "refused 2 at 120\n";
    }
    ∷ record {
      text =
          bytes "let postfix non 50 xor ; plain r ; prefix right 500 = ; postfix left 400 :- ; prefix non 300 ^ ; in let infix left 0350 plain ; in"
          ++ bytes "fix non 400 - ; in let in let postfix non 569 -- ; plain ^ ; in - ( z_ ) end end end end";
      listing =
          bytes "read 7\n0 name 0 0 198 2 0\n1 bracket 0 0 0 0 0\n2 prefix 1 0 194 1 400\n3 block 2 0 156 37 0\n4 block 3 0 149 6 0\n5 block 4 0 10"
          ++ bytes "0 48 0\n6 block 5 0 0 99 0\ntidy 213\nlet postfix non 50 xor ; plain r ; prefix right 500 = ; postfix left 400 :- ; prefix non 300"
          ++ bytes " ^ ; in let infix left 350 plain ; infix non 400 - ; in let in let postfix non 569 -- ; plain ^ ; in - z_ end end end end\n";
    }
    ∷ record {
      text =
          bytes "let plain s ; prefix right 400 s ; postfix non 400 s ; plain is ; infix non 300 is ; prefix non 300 is ; postfix non 300 is ; in -"
          ++ bytes " - s 1 is end";
      listing = bytes "refused 11 at 126\n";
    }
    ∷ record {
      text =
          bytes "let prefix non 0450xor;in let infix left 450xor;in(not let prefix right 400plain;in l right 300foo;infix left 825?;in let prefix r"
          ++ bytes "ight 500infix;in a end end end)*let in-let infix non 1200is;prefix right 300infix;in op end end end end";
      listing = bytes "refused 6 at 98\n";
    }
    ∷ record {
      text =
          bytes "let postfix non 000000400 r ; in ( ( not 42 = let prefix non 300 * ; prefix non 300 * ; in 000000042 end ) * let in prefix end r )"
          ++ bytes " + ( not ( 'let' or let prefix right 450 / ; in / 'a''' + 0 end ) ) end";
      listing =
          bytes "read 23\n0 number 0 0 41 2 0\n1 number 0 0 91 9 0\n2 block 1 0 46 44 0\n3 infix 0 2 44 1 500\n4 prefix 3 0 37 3 600\n5 bracket 4 0"
          ++ bytes " 0 0 0\n6 name 0 0 116 6 0\n7 block 6 0 109 6 0\n8 infix 5 7 107 1 300\n9 postfix 8 0 127 1 400\n10 bracket 9 0 0 0 0\n11 name 0 0"
          ++ bytes " 142 3 0\n12 name 0 0 181 3 0\n13 number 0 0 188 1 0\n14 infix 12 13 186 1 400\n15 prefix 14 0 178 1 450\n16 block 15 0 150 27 0\n"
          ++ bytes "17 infix 11 16 147 2 800\n18 bracket 17 0 0 0 0\n19 prefix 18 0 135 3 600\n20 bracket 19 0 0 0 0\n21 infix 10 20 131 1 400\n22 blo"
          ++ bytes "ck 21 0 0 32 0\ntidy 184\nlet postfix non 400 r ; in ( not 42 = let prefix non 300 * ; prefix non 300 * ; in 42 end ) * let in pre"
          ++ bytes "fix end r + ( not ( 'let' or let prefix right 450 / ; in / 'a''' + 0 end ) ) end\n";
    }
    ∷ record { text = bytes "cn = '007'"; listing = bytes "read 3\n0 name 0 0 0 2 0\n1 name 0 0 6 3 0\n2 infix 0 1 3 1 500\ntidy 10\ncn = '007'\n" }
    ∷ record {
      text = bytes "let plain s;prefix non 300s;postfix left 300s;in Let*plain s*i<(s x1< #)-prefix*42end";
      listing =
          bytes "read 17\n0 name 0 0 49 3 0\n1 name 0 0 53 5 0\n2 infix 0 1 52 1 300\n3 postfix 2 0 59 1 300\n4 name 0 0 61 1 0\n5 infix 3 4 60 1 3"
          ++ bytes "00\n6 name 0 0 66 2 0\n7 prefix 6 0 64 1 300\n8 name 0 0 70 1 0\n9 infix 7 8 68 1 500\n10 bracket 9 0 0 0 0\n11 name 0 0 73 6 0\n1"
          ++ bytes "2 number 0 0 80 2 0\n13 infix 11 12 79 1 300\n14 infix 10 13 72 1 400\n15 infix 5 14 62 1 500\n16 block 15 0 0 48 0\ntidy 107\nlet"
          ++ bytes " plain s ; prefix non 300 s ; postfix left 300 s ; in Let * plain s * i < ( s x1 < # ) - prefix * 42 end\n";
    }
    ∷ record { text = bytes "let plain -- ; plain 'x' ; in a end"; listing = bytes "refused 8 at 21\n" }
    ∷ record { text = bytes "0000000007 0000000007"; listing = bytes "refused 4 at 0\n" }
    ∷ record { text = bytes "let in let postfix non 300 * ; in a end end"; listing = bytes "refused 10 at 31\n" }
    ∷ record {
      text = bytes "999999999 * 1000 + 0";
      listing =
          bytes "read 5\n0 number 0 0 0 9 0\n1 number 0 0 12 4 0\n2 infix 0 1 10 1 300\n3 number 0 0 19 1 0\n4 infix 2 3 17 1 400\ntidy 20\n9999999"
          ++ bytes "99 * 1000 + 0\n";
    }
    ∷ record { text = bytes "let infix non 0001 zz ; in a end"; listing = bytes "read 2\n0 name 0 0 27 1 0\n1 block 0 0 0 26 0\ntidy 29\nlet infix non 1 zz ; in a end\n" }
    ∷ record { text = (161 ∷ 89 ∷ 144 ∷ 175 ∷ 93 ∷ 251 ∷ 199 ∷ 29 ∷ 154 ∷ 109 ∷ 251 ∷ 120 ∷ 233 ∷ 65 ∷ 210 ∷ 151 ∷ 208 ∷ []); listing = bytes "refused 2 at 0\n" }
    ∷ record {
      text =
          bytes "let plain xor;infix left 450xor;prefix non 450xor;postfix left 450xor;plain non;infix left 250non;prefix non 250non;postfix left 2"
          ++ bytes "50non;plain r;prefix right 400r;postfix non 400r;in non(709891044non 954560675)end";
      listing =
          bytes "read 6\n0 number 0 0 186 9 0\n1 number 0 0 199 9 0\n2 infix 0 1 195 3 250\n3 bracket 2 0 0 0 0\n4 prefix 3 0 182 3 250\n5 block 4 "
          ++ bytes "0 0 181 0\ntidy 247\nlet plain xor ; infix left 450 xor ; prefix non 450 xor ; postfix left 450 xor ; plain non ; infix left 250 n"
          ++ bytes "on ; prefix non 250 non ; postfix left 250 non ; plain r ; prefix right 400 r ; postfix non 400 r ; in non ( 709891044 non 9545606"
          ++ bytes "75 ) end\n";
    }
    ∷ record { text = bytes "let plain and in a end"; listing = bytes "refused 8 at 14\n" }
    ∷ record { text = bytes "let infix left 0 and ; in a end"; listing = bytes "refused 8 at 15\n" }
    ∷ record { text = bytes "let plain and ; in a end"; listing = bytes "refused 17 at 10\n" }
    ∷ record { text = bytes "let infix left 700 and ; in a end"; listing = bytes "refused 17 at 19\n" }
    ∷ record { text = bytes "let prefix right 600 not ; in not a end"; listing = bytes "refused 17 at 21\n" }
    ∷ record { text = bytes "let postfix non 5 or ; in a end"; listing = bytes "refused 17 at 18\n" }
    ∷ record { text = bytes "let plain - ; prefix non 07 and ; plain in a end"; listing = bytes "refused 17 at 28\n" }
    ∷ record { text = bytes "let plain not ; prefix left 4 k ; in a end"; listing = bytes "refused 17 at 10\n" }
    ∷ record { text = bytes "let prefix right 9 q ; infix right 3 q ; plain not ; plain in a and b end"; listing = bytes "refused 17 at 47\n" }
    ∷ record { text = bytes " "; listing = bytes "read 0\ntidy 0\n\n" }
    ∷ record { text = (9 ∷ 13 ∷ 10 ∷ 32 ∷ []); listing = bytes "read 0\ntidy 0\n\n" }
    ∷ record { text = bytes "()"; listing = bytes "refused 11 at 0\n" }
    ∷ record { text = bytes " ( ) "; listing = bytes "refused 11 at 1\n" }
    ∷ record { text = bytes "let in end"; listing = bytes "refused 11 at 4\n" }
    ∷ record { text = bytes "''''"; listing = bytes "read 1\n0 name 0 0 1 2 0\ntidy 4\n''''\n" }
    ∷ record { text = bytes "'a''"; listing = bytes "refused 3 at 0\n" }
    ∷ record { text = bytes "'a' = 'a''a'"; listing = bytes "read 3\n0 name 0 0 1 1 0\n1 name 0 0 7 4 0\n2 infix 0 1 4 1 500\ntidy 10\na = 'a''a'\n" }
    ∷ record {
      text = bytes "name = 'D''Souza' and 'it''s' = 'it''''s'";
      listing =
          bytes "read 7\n0 name 0 0 0 4 0\n1 name 0 0 8 8 0\n2 infix 0 1 5 1 500\n3 name 0 0 23 5 0\n4 name 0 0 33 7 0\n5 infix 3 4 30 1 500\n6 inf"
          ++ bytes "ix 2 5 18 3 700\ntidy 41\nname = 'D''Souza' and 'it''s' = 'it''''s'\n";
    }
    ∷ record { text = bytes "( ( 'a''b' ) )"; listing = bytes "read 3\n0 name 0 0 5 4 0\n1 bracket 0 0 0 0 0\n2 bracket 1 0 0 0 0\ntidy 6\n'a''b'\n" }
    ∷ record { text = bytes "''''O''Neill'\t"; listing = bytes "refused 3 at 5\n" }
    ∷ []
