-- What the readers of the parser answer.
use Rattle.std.specs.Prelude.{ℕ, suc, ◌-◌, ℤ, pos, ◌≤ℤ◌, length, ◌≡◌, ◌≤◌, Bool, true, false, List, [], ◌∷◌, Option, Some, None, Result, Ok, Err, nat_lt}
use Rattle.cxx_ast.specs.declared.expression.BinaryOp.{BinaryOp}
use Rattle.cxx_ast.specs.declared.name.Name.{Name}
use Rattle.cxx_ast.specs.declared.token.Token.{Token}
use Rattle.cxx_ast.specs.declared.token.TokenKind.{TokenKind}
use Rattle.cxx_ast.specs.declared.token.TokenKind.TheVariants as kind
use Rattle.cxx_ast.specs.Limits.{most_depth}
use Rattle.cxx_ast.specs.Operator.{binary_level}
use Rattle.cxx_parser.specs.Signs.{is_kind, is_name, name_of, literal_of, operator_of, first_level}
use Rattle.cxx_parser.specs.Reading.{Answer, unexpected, too_deep}
use Rattle.cxx_parser.specs.declared.error.ParseError.{ParseError}
use Rattle.cxx_parser.specs.declared.error.ParseError.TheVariants.{Unexpected, TooDeep, NoMemory}

-- a refusal is that of reading, unless memory was wanting
abbrev pub Refuses : ParseError → Answer → Type 0
Refuses (Unexpected place) answer = answer ≡ Err (unexpected place)
Refuses (TooDeep place) answer = answer ≡ Err (too_deep place)
Refuses NoMemory answer = Unit {0}

-- a reader's value stands for what reading gives from there on
abbrev pub Gives : {X : Type 0} → (X → Answer) → Result X ParseError → Answer → Type 0
Gives on (Ok x) answer = answer ≡ on x
Gives on (Err e) answer = Refuses e answer

-- the first token is of a kind
abbrev pub begins : List Token → TokenKind → Bool
begins [] k = false
begins (t ∷ ts) k = is_kind k t.kind

-- the place of the first token, or the end
abbrev pub place_at : List Token → ℕ → ℕ
place_at [] end = end
place_at (t ∷ ts) end = t.place

-- what stands behind a first token of a kind
abbrev pub IsBehind : List Token → TokenKind → List Token → Type 0
IsBehind tokens k rest = (t : Token) × (tokens ≡ t ∷ rest) × (t.kind ≡ k)

-- what stands behind a first token of a kind, or no such token
abbrev pub Behind : List Token → TokenKind → Option (List Token) → Type 0
Behind tokens k None = begins tokens k ≡ false
Behind tokens k (Some rest) = IsBehind tokens k rest

-- what stands behind a token of a kind that must come, or its refusal
abbrev pub Expects : {X : Type 0} → (X → List Token) → List Token → TokenKind → ℕ → Result X ParseError → Type 0
Expects list tokens k end (Ok rest) = IsBehind tokens k (list rest)
Expects list tokens k end (Err (Unexpected place)) = (begins tokens k ≡ false) × (place ≡ place_at tokens end)
Expects list tokens k end (Err (TooDeep place)) = ⊥
Expects list tokens k end (Err NoMemory) = ⊥

-- a list of tokens is a first one and others, or has none
abbrev pub Parts : List Token → Option (Token × List Token) → Type 0
Parts tokens None = tokens ≡ []
Parts tokens (Some x) = tokens ≡ x.0 ∷ x.1

-- a depth is not too great, or it is at a place
abbrev pub Within : ℕ → ℕ → Result Unit ParseError → Type 0
Within depth place (Ok done) = (depth ≤ most_depth) × (nat_lt most_depth depth ≡ false)
Within depth place (Err e) = (nat_lt most_depth depth ≡ true) × (e ≡ TooDeep place)

-- tokens begin with an operator of at least a level, and others stand behind it, or they do not
abbrev pub OperatorFrom : List Token → ℕ → Option (BinaryOp × List Token) → Type 0
OperatorFrom tokens level None = nat_lt (first_level tokens) level ≡ true
OperatorFrom tokens level (Some x) = (t : Token) × (tokens ≡ t ∷ x.1) × (operator_of t.kind ≡ Some x.0) × (nat_lt (binary_level x.0) level ≡ false)

-- the name that tokens begin with
abbrev pub first_name : List Token → Option Name
first_name [] = None
first_name (t ∷ ts) = name_of t

-- a name that tokens begin with, and others behind it, or no such name
abbrev pub BehindName : List Token → Option (Name × List Token) → Type 0
BehindName tokens None = first_name tokens ≡ None
BehindName tokens (Some x) = (t : Token) × (tokens ≡ t ∷ x.1) × (name_of t ≡ Some x.0)

-- a name with a text that tokens begin with, by its place, and others behind it, or no such name
abbrev pub BehindNamed : List Token → List ℕ → Option (ℕ × List Token) → Type 0
BehindNamed tokens text None = begins tokens (kind.Name text) ≡ false
BehindNamed tokens text (Some x) = (t : Token) × (tokens ≡ t ∷ x.1) × (is_name text t.kind ≡ true) × (t.place ≡ x.0)

-- the literal that tokens begin with
abbrev pub first_literal : List Token → Option ℤ
first_literal [] = None
first_literal (t ∷ ts) = literal_of t.kind

-- a literal that tokens begin with, and others behind it, or no such literal
abbrev pub BehindLiteral : List Token → Option (ℤ × List Token) → Type 0
BehindLiteral tokens None = first_literal tokens ≡ None
BehindLiteral tokens (Some x) = (t : Token) × (tokens ≡ t ∷ x.1) × (literal_of t.kind ≡ Some x.0) × (pos 0 ≤ℤ x.0)

-- the number of tokens before the one that stands before the last of so many
abbrev pub count_before : ℕ → List Token → ℕ
count_before total rest = total - suc (length rest)

-- a literal that must come, and others behind it, or its refusal
abbrev pub ExpectsLiteral : {X : Type 0} → (X → ℤ × List Token) → List Token → ℕ → Result X ParseError → Type 0
ExpectsLiteral parts tokens end (Ok x) = (t : Token) × (tokens ≡ t ∷ (parts x).1) × (literal_of t.kind ≡ Some (parts x).0) × (pos 0 ≤ℤ (parts x).0)
ExpectsLiteral parts tokens end (Err (Unexpected place)) = (first_literal tokens ≡ None) × (place ≡ place_at tokens end)
ExpectsLiteral parts tokens end (Err (TooDeep place)) = ⊥
ExpectsLiteral parts tokens end (Err NoMemory) = ⊥
