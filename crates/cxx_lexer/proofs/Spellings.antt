-- What the kind of a token says of its bytes.
use Rattle.std.proofs.Common.{◌≡◌, ℕ, Bool, true, false, List, [], ◌∷◌, Some, cond, find, bytes_eq, refl, subst}
use Rattle.cxx_ast.specs.declared.keyword.Keyword.{Keyword}
use Rattle.cxx_ast.specs.declared.keyword.Keyword.TheVariants as word
use Rattle.cxx_ast.specs.declared.mark.Mark.{Mark}
use Rattle.cxx_ast.specs.declared.mark.Mark.TheVariants as mark
use Rattle.cxx_ast.specs.Keywords as Keywords
use Rattle.cxx_ast.specs.Marks as Marks
use Rattle.cxx_ast.specs.Lexeme.{keyword_of, mark_of, is_word}
use Rattle.cxx_lexer.proofs.ByteTests.{same_bytes, first_passes, is_mark_byte}

-- what a search finds passes the test
pub found_passes : {A : Type 0} (p : A → Bool) (xs : List A) (x : A) → find p xs ≡ Some x → p x ≡ true
found_passes p [] x e = cc
found_passes p (y ∷ ys) x e = elim (p y) as (λ b. p y ≡ b → cond b (Some y) (find p ys) ≡ Some x → p x ≡ true) [
  | true ↦ λ here some. let same : y ≡ x = cc in subst (λ z. p z ≡ true) same here
  | false ↦ λ here some. found_passes p ys x some
] refl e

pub keyword_spelled : (bytes : List ℕ) (k : Keyword) → keyword_of bytes ≡ Some k → Keywords.spelling k ≡ bytes
keyword_spelled bytes k e = same_bytes (Keywords.spelling k) bytes (found_passes (λ k. bytes_eq (Keywords.spelling k) bytes) Keywords.keywords k e)

pub mark_spelled : (bytes : List ℕ) (m : Mark) → mark_of bytes ≡ Some m → Marks.spelling m ≡ bytes
mark_spelled bytes m e = same_bytes (Marks.spelling m) bytes (found_passes (λ m. bytes_eq (Marks.spelling m) bytes) Marks.marks m e)

-- each reserved word is a word
pub keyword_is_word : (k : Keyword) → is_word (Keywords.spelling k) ≡ true
unfolding Keywords.spelling
keyword_is_word word.Asm = refl
keyword_is_word _ = refl

-- each mark is the mark that its bytes spell
pub mark_again : (m : Mark) → mark_of (Marks.spelling m) ≡ Some m
unfolding Marks.spelling
mark_again mark.OpenBrace = refl
mark_again _ = refl

-- no mark begins with a blank or as a word does
pub mark_first : (m : Mark) → first_passes is_mark_byte (Marks.spelling m) ≡ true
unfolding Marks.spelling
mark_first mark.OpenBrace = refl
mark_first _ = refl
