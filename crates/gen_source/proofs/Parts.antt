-- The parts of each line.
use Rattle.std.proofs.Common.{◌≡◌, refl, ap, ℕ, ◌<◌, ◌≤◌, ◌^◌, List, [], ◌∷◌, ◌++◌, pos, arith, eq-eqb}
use Rattle.std.specs.Prelude.{codes}
use Rattle.std.specs.Fmt.{decimal}
use Rattle.cxx_ast.specs.declared.keyword.Keyword.{Keyword}
use Rattle.cxx_ast.specs.declared.keyword.Keyword.TheVariants as keyword
use Rattle.cxx_ast.specs.declared.mark.Mark.{Mark}
use Rattle.cxx_ast.specs.declared.mark.Mark.TheVariants as sign
use Rattle.cxx_ast.specs.declared.token.TokenKind.TheVariants as kind
use Rattle.cxx_ast.specs.Keywords as Keywords
use Rattle.cxx_ast.specs.Marks as Marks
use Rattle.cxx_ast.specs.Lex.{Part, blank, token, AreParts, text_of}
use Rattle.gen_source.specs.Source.{class_line, first_line, level_line, main_line}
use Rattle.gen_source.proofs.Decimals.{zero, name_unreserved, all_words, first_word, literal_of, decimal_numeral}
use Rattle.cxx_lexer.proofs.ByteTests.{bytes_eq_self}
use Rattle.gen_source.proofs.Standing.{parts_stand}

-- a reserved word, a name, a literal, a mark, and the blanks between them
abbrev word : Keyword → List ℕ → Part
word k bytes = token (kind.Word k) bytes

abbrev name : List ℕ → Part
name text = token (kind.Name text) text

abbrev number : ℕ → List ℕ → Part
number n digits = token (kind.Number (pos n)) digits

abbrev mark : Mark → Part
mark m = token (kind.Mark m) (Marks.spelling m)

abbrev space : Part
space = blank 32

abbrev line_end : Part
line_end = blank 10

-- ---- the class
abbrev pub class_parts : List Part
class_parts =
    word keyword.Struct (codes "struct") ∷ space ∷ name (codes "A") ∷ space ∷ mark sign.OpenBrace ∷ space ∷ word keyword.Int (codes "int") ∷ space ∷ name (codes "n") ∷
    mark sign.Semicolon ∷ space ∷ name (codes "A") ∷ mark sign.OpenParen ∷ word keyword.Int (codes "int") ∷ space ∷ name (codes "k") ∷ mark sign.CloseParen ∷
    space ∷ mark sign.OpenBrace ∷ space ∷ name (codes "n") ∷ space ∷ mark sign.Assign ∷ space ∷ name (codes "k") ∷ mark sign.Semicolon ∷ space ∷ mark sign.CloseBrace ∷
    space ∷ mark sign.Tilde ∷ name (codes "A") ∷ mark sign.OpenParen ∷ mark sign.CloseParen ∷ space ∷ mark sign.OpenBrace ∷ space ∷ name (codes "write_int") ∷
    mark sign.OpenParen ∷ name (codes "n") ∷ mark sign.CloseParen ∷ mark sign.Semicolon ∷ space ∷ mark sign.CloseBrace ∷ space ∷ mark sign.CloseBrace ∷ mark sign.Semicolon ∷
    line_end ∷ []

pub class_parts_text : text_of class_parts ≡ class_line
unfolding Marks.spelling
class_parts_text = refl

pub class_parts_stand : (rest : List ℕ) → AreParts class_parts rest
unfolding Keywords.spelling Marks.spelling
class_parts_stand rest = parts_stand class_parts rest refl

-- ---- f0
abbrev pub first_parts : List Part
first_parts =
    word keyword.Void (codes "void") ∷ space ∷ name (102 ∷ decimal 0) ∷ mark sign.OpenParen ∷ mark sign.CloseParen ∷ space ∷ mark sign.OpenBrace ∷ space ∷
    name (codes "A") ∷ space ∷ name (codes "a") ∷ mark sign.OpenParen ∷ number 0 (codes "0") ∷ mark sign.CloseParen ∷ mark sign.Semicolon ∷ space ∷ word keyword.Throw (codes "throw") ∷
    space ∷ number 0 (codes "0") ∷ mark sign.Semicolon ∷ space ∷ mark sign.CloseBrace ∷ line_end ∷ []

pub first_parts_text : text_of first_parts ≡ first_line
unfolding Marks.spelling
first_parts_text = ap (λ (d : List ℕ). codes "void f" ++ (d ++ codes "() { A a(0); throw 0; }\n")) zero

pub first_parts_stand : (rest : List ℕ) → AreParts first_parts rest
unfolding Keywords.spelling Marks.spelling
first_parts_stand rest =
    parts_stand first_parts rest (rw (bytes_eq_self (decimal 0), name_unreserved 0 (omega arith), all_words 0 (omega arith)) refl)

-- ---- a function behind it
abbrev pub level_parts : (i j : ℕ) → List Part
level_parts i j =
    word keyword.Void (codes "void") ∷ space ∷ name (102 ∷ decimal i) ∷ mark sign.OpenParen ∷ mark sign.CloseParen ∷ space ∷ mark sign.OpenBrace ∷ space ∷
    name (codes "A") ∷ space ∷ name (codes "a") ∷ mark sign.OpenParen ∷ number i (decimal i) ∷ mark sign.CloseParen ∷ mark sign.Semicolon ∷ space ∷ word keyword.Try (codes "try") ∷
    space ∷ mark sign.OpenBrace ∷ space ∷ name (102 ∷ decimal j) ∷ mark sign.OpenParen ∷ mark sign.CloseParen ∷ mark sign.Semicolon ∷ space ∷ mark sign.CloseBrace ∷
    space ∷ word keyword.Catch (codes "catch") ∷ space ∷ mark sign.OpenParen ∷ word keyword.Int (codes "int") ∷ space ∷ name (codes "e") ∷ mark sign.CloseParen ∷
    space ∷ mark sign.OpenBrace ∷ space ∷ word keyword.Throw (codes "throw") ∷ space ∷ name (codes "e") ∷ space ∷ mark sign.Plus ∷ space ∷ number 1 (codes "1") ∷
    mark sign.Semicolon ∷ space ∷ mark sign.CloseBrace ∷ space ∷ mark sign.CloseBrace ∷ line_end ∷ []

pub level_parts_text : (i j : ℕ) → text_of (level_parts i j) ≡ level_line i j
unfolding Marks.spelling
level_parts_text i j = refl

pub level_parts_stand : (i j : ℕ) → (rest : List ℕ) → i < 2 ^ 64 → j < 2 ^ 64 → 0 < i → i ≤ 2147483647 → AreParts (level_parts i j) rest
unfolding Keywords.spelling Marks.spelling
level_parts_stand i j rest small_i small_j some_i fits_i =
    parts_stand (level_parts i j) rest
    (rw (
      bytes_eq_self (decimal i),
      name_unreserved i small_i,
      all_words i small_i,
      first_word i small_i,
      literal_of i some_i fits_i,
      decimal_numeral i small_i,
      eq-eqb i i refl,
      bytes_eq_self (decimal j),
      name_unreserved j small_j,
      all_words j small_j,
    ) refl)

-- ---- main
abbrev pub main_parts : (n : ℕ) → List Part
main_parts n =
    word keyword.Int (codes "int") ∷ space ∷ name (codes "main") ∷ mark sign.OpenParen ∷ mark sign.CloseParen ∷ space ∷ mark sign.OpenBrace ∷ space ∷ word keyword.Try (codes "try") ∷
    space ∷ mark sign.OpenBrace ∷ space ∷ name (102 ∷ decimal n) ∷ mark sign.OpenParen ∷ mark sign.CloseParen ∷ mark sign.Semicolon ∷ space ∷ mark sign.CloseBrace ∷
    space ∷ word keyword.Catch (codes "catch") ∷ space ∷ mark sign.OpenParen ∷ word keyword.Int (codes "int") ∷ space ∷ name (codes "e") ∷ mark sign.CloseParen ∷
    space ∷ mark sign.OpenBrace ∷ space ∷ name (codes "write_int") ∷ mark sign.OpenParen ∷ name (codes "e") ∷ mark sign.CloseParen ∷ mark sign.Semicolon ∷
    space ∷ mark sign.CloseBrace ∷ space ∷ word keyword.Return (codes "return") ∷ space ∷ number 0 (codes "0") ∷ mark sign.Semicolon ∷ space ∷ mark sign.CloseBrace ∷
    line_end ∷ []

pub main_parts_text : (n : ℕ) → text_of (main_parts n) ≡ main_line n
unfolding Marks.spelling
main_parts_text n = refl

pub main_parts_stand : (n : ℕ) → (rest : List ℕ) → n < 2 ^ 64 → AreParts (main_parts n) rest
unfolding Keywords.spelling Marks.spelling
main_parts_stand n rest small_n = parts_stand (main_parts n) rest (rw (bytes_eq_self (decimal n), name_unreserved n small_n, all_words n small_n) refl)
