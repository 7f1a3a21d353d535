-- Each pass gives a source its only fate.
use Rattle.std.proofs.Common.{◌≡◌, ◌↔◌, inl, inr, ℕ, List, length, Option, Some, None, Result, Ok, Err, refl, sym, ap, subst, ◌∙◌}
use Rattle.std.specs.Global.{Vec}
use Rattle.cxx_ast.specs.declared.token.Token.{Token}
use Rattle.cxx_ast.specs.declared.program.Checked.{Checked}
use Rattle.cxx_ast.specs.declared.standard.Std.{Std}
use Rattle.cxx_ast.specs.Plain.{Program}
use Rattle.cxx_ast.specs.Lex.{Lex}
use Rattle.cxx_ast.specs.LexFault.{Fault, bad_byte, literal_range, open_comment, too_many_tokens, FirstFault}
use Rattle.cxx_ast.specs.Tree.{Tree, TooDeep}
use Rattle.cxx_ast.specs.Broken.{Valid}
use Rattle.cxx_ast.specs.Refused.{refused as refusal_of, first}
use Rattle.cxx_lexer.specs.Told.{Answer as Lexing, UnlessNoMemory, IsTokens}
use Rattle.cxx_lexer.specs.declared.error.LexError.{LexError}
use Rattle.cxx_lexer.specs.declared.error.LexError.TheVariants as lexing
use Rattle.cxx_parser.specs.Answers.{IsAnswer, IsRefusal, UnexpectedFirst}
use Rattle.cxx_parser.specs.Reading.{Answer as Reading, unexpected, too_deep}
use Rattle.cxx_parser.specs.declared.error.ParseError.{ParseError}
use Rattle.cxx_parser.specs.declared.error.ParseError.TheVariants as parsing
use Rattle.cxx_check.specs.AnswerOf.{Answers as Checks}
use Rattle.cxx_check.specs.declared.error.CheckError.{CheckError}
use Rattle.cxx_check.specs.declared.error.CheckError.TheVariants as checking
use Rattle.cxx_front.specs.Source.{IsProgram, number_of, NoTree}
use Rattle.cxx_front.specs.Fate.{Fate, refused, valid, Has, HasOnly}
use Rattle.cxx_front.specs.Answer.{Answers, of_lexer, of_parser, of_checker}

-- a list is answered where it is the tokens of a source, and an error where it is its first fault
abbrev TellsTokens : List ℕ → Lexing → Type 0
TellsTokens source answer = (ts : List Token) → UnlessNoMemory answer (IsTokens answer ts ↔ Lex source ts)

abbrev TellsFault : List ℕ → Lexing → Fault → (ℕ → LexError) → Type 0
TellsFault source answer fault error = (place : ℕ) → UnlessNoMemory answer ((answer ≡ Err (error place)) ↔ FirstFault source fault place)

-- what the lexer tells of a source
pub record Lexed (source : List ℕ) (answer : Lexing) : Type 0 where
  pub tokens : TellsTokens source answer
  pub bad_byte : TellsFault source answer bad_byte lexing.BadByte
  pub literal_range : TellsFault source answer literal_range lexing.LiteralRange
  pub open_comment : TellsFault source answer open_comment lexing.OpenComment
  pub too_many_tokens : TellsFault source answer too_many_tokens lexing.TooManyTokens

-- memory did not run out
abbrev IsCertain : Lexing → Type 1
IsCertain answer = (P : Type 0) → UnlessNoMemory answer P → P

abbrev error_of : Fault → ℕ → LexError
error_of bad_byte place = lexing.BadByte place
error_of literal_range place = lexing.LiteralRange place
error_of open_comment place = lexing.OpenComment place
error_of too_many_tokens place = lexing.TooManyTokens place

-- a first fault is answered
told : (source : List ℕ) (answer : Lexing) → Lexed source answer → IsCertain answer → (fault : Fault) (place : ℕ) → FirstFault source fault place → answer ≡ Err (error_of fault place)
told source answer l certain bad_byte place f = (certain _ (l.bad_byte place)).1 f
told source answer l certain literal_range place f = (certain _ (l.literal_range place)).1 f
told source answer l certain open_comment place f = (certain _ (l.open_comment place)).1 f
told source answer l certain too_many_tokens place f = (certain _ (l.too_many_tokens place)).1 f

-- an error tells one fault at one place
same_refusal : (a b : Fault) (x y : ℕ) → error_of a x ≡ error_of b y → refused (number_of a) x ≡ refused (number_of b) y
same_refusal bad_byte bad_byte x y e = cc
same_refusal literal_range literal_range x y e = cc
same_refusal open_comment open_comment x y e = cc
same_refusal too_many_tokens too_many_tokens x y e = cc
same_refusal bad_byte literal_range x y e = cc
same_refusal bad_byte open_comment x y e = cc
same_refusal bad_byte too_many_tokens x y e = cc
same_refusal literal_range bad_byte x y e = cc
same_refusal literal_range open_comment x y e = cc
same_refusal literal_range too_many_tokens x y e = cc
same_refusal open_comment bad_byte x y e = cc
same_refusal open_comment literal_range x y e = cc
same_refusal open_comment too_many_tokens x y e = cc
same_refusal too_many_tokens bad_byte x y e = cc
same_refusal too_many_tokens literal_range x y e = cc
same_refusal too_many_tokens open_comment x y e = cc

err_same : {A E : Type 0} {x y : E} → ◌≡◌ {A = Result A E} (Err x) (Err y) → x ≡ y
err_same e = cc

-- where there is a fault there are no tokens
no_tokens : (source : List ℕ) (e : LexError) → Lexed source (Err e) → IsCertain (Err e) → (ts : List Token) → Lex source ts → ⊥
no_tokens source e l certain ts lexed = (certain _ (l.tokens ts)).1 lexed

module _ (std : Std) (source : List ℕ) (fault : Fault) (place : ℕ) (l : Lexed source (Err (error_of fault place))) (certain : IsCertain (Err (error_of fault place))) (is : FirstFault source fault place) where
  faulty_only : (other : Fate) → Has std source other → refused (number_of fault) place ≡ other
  faulty_only (refused n p) (inl (other, first, number)) =
      same_refusal fault other place p (err_same (told source (Err (error_of fault place)) l certain other p first)) ∙ ap (λ m. refused m p) (sym number)
  faulty_only (refused n p) (inr (inl (ts, lexed, why))) = absurd (no_tokens source (error_of fault place) l certain ts lexed)
  faulty_only (refused n p) (inr (inr (q, program, breaks))) = absurd (no_tokens source (error_of fault place) l certain program.tokens program.lexed)
  faulty_only (valid q) (program, holds) = absurd (no_tokens source (error_of fault place) l certain program.tokens program.lexed)

  faulty : HasOnly std source (refused (number_of fault) place)
  faulty = record { is = inl (fault, is, refl); only = faulty_only }

-- what the lexer refuses
pub lexer_refuses : (std : Std) (source : List ℕ) (e : LexError) → Lexed source (Err e) → Answers std source (Err (of_lexer e))
lexer_refuses std source (lexing.BadByte place) l = faulty std source bad_byte place l (λ P h. h) ((l.bad_byte place).0 refl)
lexer_refuses std source (lexing.LiteralRange place) l = faulty std source literal_range place l (λ P h. h) ((l.literal_range place).0 refl)
lexer_refuses std source (lexing.OpenComment place) l = faulty std source open_comment place l (λ P h. h) ((l.open_comment place).0 refl)
lexer_refuses std source (lexing.TooManyTokens place) l = faulty std source too_many_tokens place l (λ P h. h) ((l.too_many_tokens place).0 refl)
lexer_refuses std source lexing.NoMemory l = tt

-- tokens are those of the source, and no others
pub record OnlyTokens (source : List ℕ) (tokens : List Token) : Type 0 where
  pub lexed : Lex source tokens
  pub only : (ts : List Token) → Lex source ts → tokens ≡ ts
  pub clean : (fault : Fault) (place : ℕ) → FirstFault source fault place → ⊥

pub lexer_reads : (source : List ℕ) (tokens : Vec Token) (list : List Token) → list ≡ tokens.items → TellsTokens source (Ok tokens) →
    TellsFault source (Ok tokens) bad_byte lexing.BadByte → TellsFault source (Ok tokens) literal_range lexing.LiteralRange →
    TellsFault source (Ok tokens) open_comment lexing.OpenComment → TellsFault source (Ok tokens) too_many_tokens lexing.TooManyTokens → OnlyTokens source list
lexer_reads source tokens list same is bad range left many = subst (OnlyTokens source) (sym same) (record {
  lexed = (is tokens.items).0 refl;
  only = λ ts lexed. (is ts).1 lexed;
  clean = λ fault place first.
      let l : Lexed source (Ok tokens) = record { tokens = is; bad_byte = bad; literal_range = range; open_comment = left; too_many_tokens = many } in
      let no : Ok tokens ≡ Err (error_of fault place) = told source (Ok tokens) l (λ P h. h) fault place first in
      cc;
})

-- tokens have one answer
abbrev HasOne : List Token → ℕ → Type 0
HasOne tokens end = (a b : Reading) → IsAnswer tokens end a → IsAnswer tokens end b → a ≡ b

module _ (std : Std) (source : List ℕ) (tokens : List Token) (has : OnlyTokens source tokens) (one : HasOne tokens (length source)) where
  -- a program of the source is an answer
  program_answer : (q : Program) → IsProgram source q → IsAnswer tokens (length source) (Ok q)
  program_answer q program = subst (λ ts. Tree ts (length source) q) (sym (has.only program.tokens program.lexed)) program.tree

  no_tree_answer : (ts : List Token) (n p : ℕ) → Lex source ts → NoTree ts (length source) n p → NoTree tokens (length source) n p
  no_tree_answer ts n p lexed why = subst (λ x. NoTree x (length source) n p) (sym (has.only ts lexed)) why

  unexpected_only : (place : ℕ) → UnexpectedFirst tokens (length source) place → (other : Fate) → Has std source other → refused 20 place ≡ other
  unexpected_only place is (refused n p) (inl (fault, first, number)) = absurd (has.clean fault p first)
  unexpected_only place is (refused n p) (inr (inl (ts, lexed, why))) = go (no_tree_answer ts n p lexed why)
    where
      go : NoTree tokens (length source) n p → refused 20 place ≡ refused n p
      go (inl (there, number)) =
          let same : Err (unexpected place) ≡ Err (unexpected p) = one (Err (unexpected place)) (Err (unexpected p)) is there in
          cc
      go (inr (there, number)) =
          let same : Err (unexpected place) ≡ Err (too_deep p) = one (Err (unexpected place)) (Err (too_deep p)) is there in
          cc
  unexpected_only place is (refused n p) (inr (inr (q, program, breaks))) =
      let same : Err (unexpected place) ≡ Ok q = one (Err (unexpected place)) (Ok q) is (program_answer q program) in
      cc
  unexpected_only place is (valid q) (program, holds) =
      let same : Err (unexpected place) ≡ Ok q = one (Err (unexpected place)) (Ok q) is (program_answer q program) in
      cc

  deep_only : (place : ℕ) → TooDeep tokens place → (other : Fate) → Has std source other → refused 21 place ≡ other
  deep_only place is (refused n p) (inl (fault, first, number)) = absurd (has.clean fault p first)
  deep_only place is (refused n p) (inr (inl (ts, lexed, why))) = go (no_tree_answer ts n p lexed why)
    where
      go : NoTree tokens (length source) n p → refused 21 place ≡ refused n p
      go (inl (there, number)) =
          let same : Err (too_deep place) ≡ Err (unexpected p) = one (Err (too_deep place)) (Err (unexpected p)) is there in
          cc
      go (inr (there, number)) =
          let same : Err (too_deep place) ≡ Err (too_deep p) = one (Err (too_deep place)) (Err (too_deep p)) is there in
          cc
  deep_only place is (refused n p) (inr (inr (q, program, breaks))) =
      let same : Err (too_deep place) ≡ Ok q = one (Err (too_deep place)) (Ok q) is (program_answer q program) in
      cc
  deep_only place is (valid q) (program, holds) =
      let same : Err (too_deep place) ≡ Ok q = one (Err (too_deep place)) (Ok q) is (program_answer q program) in
      cc

  -- what the parser refuses
  pub parser_refuses : (e : ParseError) → IsRefusal tokens (length source) e → Answers std source (Err (of_parser e))
  parser_refuses (parsing.Unexpected place) is = record { is = inr (inl (tokens, has.lexed, inl (is, refl))); only = unexpected_only place is }
  parser_refuses (parsing.TooDeep place) is = record { is = inr (inl (tokens, has.lexed, inr (is, refl))); only = deep_only place is }
  parser_refuses parsing.NoMemory is = tt

  module _ (p : Program) (tree : Tree tokens (length source) p) where
    the_program : IsProgram source p
    the_program = record { tokens = tokens; lexed = has.lexed; tree = tree }

    -- a program of the source is this one
    same_program : (q : Program) → IsProgram source q → p ≡ q
    same_program q program =
        let same : Ok p ≡ Ok q = one (Ok p) (Ok q) tree (program_answer q program) in
        cc

    has_tree : (ts : List Token) (n place : ℕ) → Lex source ts → NoTree ts (length source) n place → ⊥
    has_tree ts n place lexed why = go (no_tree_answer ts n place lexed why)
      where
        go : NoTree tokens (length source) n place → ⊥
        go (inl (there, number)) =
            let same : Ok p ≡ Err (unexpected place) = one (Ok p) (Err (unexpected place)) tree there in
            cc
        go (inr (there, number)) =
            let same : Ok p ≡ Err (too_deep place) = one (Ok p) (Err (too_deep place)) tree there in
            cc

    refusal_only : (n place : ℕ) → refusal_of std p ≡ Some (n, place) → (other : Fate) → Has std source other → refused n place ≡ other
    refusal_only n place is (refused m at) (inl (fault, first, number)) = absurd (has.clean fault at first)
    refusal_only n place is (refused m at) (inr (inl (ts, lexed, why))) = absurd (has_tree ts m at lexed why)
    refusal_only n place is (refused m at) (inr (inr (q, program, breaks))) =
        let same : Some (n, place) ≡ Some (m, at) = sym is ∙ ap (refusal_of std) (same_program q program) ∙ breaks in
        ap (λ x. refused x.0 x.1) (some_same same)
      where
        some_same : {x y : ℕ × ℕ} → Some x ≡ Some y → x ≡ y
        some_same e = cc
    refusal_only n place is (valid q) (program, holds) =
        let none : ◌≡◌ {A = Option (ℕ × ℕ)} (Some (n, place)) None = sym is ∙ ap (refusal_of std) (same_program q program) ∙ ap first holds in
        cc

    valid_only : Valid std p → (other : Fate) → Has std source other → valid p ≡ other
    valid_only holds (refused m at) (inl (fault, first, number)) = absurd (has.clean fault at first)
    valid_only holds (refused m at) (inr (inl (ts, lexed, why))) = absurd (has_tree ts m at lexed why)
    valid_only holds (refused m at) (inr (inr (q, program, breaks))) =
        let none : ◌≡◌ {A = Option (ℕ × ℕ)} None (Some (m, at)) = sym (ap first holds) ∙ ap (refusal_of std) (same_program q program) ∙ breaks in
        cc
    valid_only holds (valid q) (program, also) = ap valid (same_program q program)

    -- what the checker accepts and refuses
    pub checker_accepts : (c : Checked) → Checks std p (Ok c) → Answers std source (Ok c)
    checker_accepts c (holds, resolved) = (p, record { is = (the_program, holds); only = valid_only holds }, resolved)

    pub checker_refuses : (e : CheckError) → Checks std p (Err e) → Answers std source (Err (of_checker e))
    checker_refuses (checking.Refused n place) is = record { is = inr (inr (p, the_program, is)); only = refusal_only n place is }
    checker_refuses checking.NoMemory is = tt
