-- What an answer tells is exact, unless memory ran out.
use Rattle.std.proofs.Common.{◌≡◌, ◌↔◌, ℕ, List, Ok, Err, ap, ◌∙◌, subst}
use Rattle.cxx_ast.specs.declared.token.Token.{Token}
use Rattle.cxx_ast.specs.Lex.{Lex}
use Rattle.cxx_ast.specs.LexFault.{Fault, bad_byte, literal_range, open_comment, too_many_tokens, FirstFault}
use Rattle.cxx_lexer.specs.declared.error.LexError.{LexError}
use Rattle.cxx_lexer.specs.declared.error.LexError.TheVariants as errors
use Rattle.cxx_lexer.specs.Told.{Answer, UnlessNoMemory, IsTokens, Tells}
use Rattle.cxx_lexer.proofs.Unique.{tokens_unique, no_fault, fault_unique}

-- the error of a fault
abbrev pub error_of : Fault → ℕ → LexError
error_of bad_byte place = errors.BadByte place
error_of literal_range place = errors.LiteralRange place
error_of open_comment place = errors.OpenComment place
error_of too_many_tokens place = errors.TooManyTokens place

-- faults whose errors are the same
error_same : (source : List ℕ) (f g : Fault) (place there : ℕ) → FirstFault source f place → error_of f place ≡ error_of g there → FirstFault source g there
error_same source bad_byte bad_byte place there a e = let same : place ≡ there = cc in subst (λ n. FirstFault source bad_byte n) same a
error_same source literal_range literal_range place there a e = let same : place ≡ there = cc in subst (λ n. FirstFault source literal_range n) same a
error_same source open_comment open_comment place there a e = let same : place ≡ there = cc in subst (λ n. FirstFault source open_comment n) same a
error_same source too_many_tokens too_many_tokens place there a e = let same : place ≡ there = cc in subst (λ n. FirstFault source too_many_tokens n) same a
error_same source _ _ place there a e = cc

-- after a fault only this fault is answered
after_fault : (source : List ℕ) (f g : Fault) (place there : ℕ) → FirstFault source f place → (◌≡◌ {A = Answer} (Err (error_of f place)) (Err (error_of g there))) ↔ FirstFault source g there
after_fault source f g place there a = (
  λ e. let same : error_of f place ≡ error_of g there = cc in error_same source f g place there a same,
  λ b. let s = fault_unique source f g place there a b in
      let same : error_of f place ≡ error_of g there = ap (λ (h : Fault). error_of h place) s.fault ∙ ap (error_of g) s.place_same in ap Err same,
)

pub tokens_exact : (source : List ℕ) (answer : Answer) → Tells source answer → (tokens : List Token) → UnlessNoMemory answer (IsTokens answer tokens ↔ Lex source tokens)
tokens_exact source (Ok v) told tokens = (λ e. subst (λ (ts : List Token). Lex source ts) e told, λ lex. tokens_unique source v.items tokens told lex)
tokens_exact source (Err (errors.BadByte place)) told tokens = (λ h. absurd h, λ lex. no_fault source tokens bad_byte place lex told)
tokens_exact source (Err (errors.LiteralRange place)) told tokens = (λ h. absurd h, λ lex. no_fault source tokens literal_range place lex told)
tokens_exact source (Err (errors.OpenComment place)) told tokens = (λ h. absurd h, λ lex. no_fault source tokens open_comment place lex told)
tokens_exact source (Err (errors.TooManyTokens place)) told tokens = (λ h. absurd h, λ lex. no_fault source tokens too_many_tokens place lex told)
tokens_exact source (Err errors.NoMemory) told tokens = tt

pub fault_exact : (source : List ℕ) (answer : Answer) → Tells source answer → (g : Fault) (there : ℕ) → UnlessNoMemory answer ((answer ≡ Err (error_of g there)) ↔ FirstFault source g there)
fault_exact source (Ok v) told g there = (λ e. cc, λ b. absurd (no_fault source v.items g there told b))
fault_exact source (Err (errors.BadByte place)) told g there = after_fault source bad_byte g place there told
fault_exact source (Err (errors.LiteralRange place)) told g there = after_fault source literal_range g place there told
fault_exact source (Err (errors.OpenComment place)) told g there = after_fault source open_comment g place there told
fault_exact source (Err (errors.TooManyTokens place)) told g there = after_fault source too_many_tokens g place there told
fault_exact source (Err errors.NoMemory) told g there = tt
