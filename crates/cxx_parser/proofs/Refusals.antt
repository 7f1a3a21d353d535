-- Refusals pass outwards.
use Rattle.std.specs.Prelude.{◌≡◌, ℕ, Bool, List, [], ◌∷◌, Result, Err, refl}
use Rattle.std.proofs.Common.{ap, sym, ◌∙◌}
use Rattle.cxx_ast.specs.declared.token.Token.{Token}
use Rattle.cxx_ast.specs.declared.token.TokenKind.{TokenKind}
use Rattle.cxx_parser.specs.Expressions.{on_mark}
use Rattle.cxx_parser.specs.States.{State, expect}
use Rattle.cxx_parser.proofs.Settled.{stepped}
use Rattle.cxx_parser.specs.Gives.{Refuses, Gives, Expects}
use Rattle.cxx_parser.specs.Reading.{Answer, unexpected, too_deep, feed, read}
use Rattle.cxx_parser.specs.declared.error.ParseError.{ParseError}
use Rattle.cxx_parser.specs.declared.error.ParseError.TheVariants.{Unexpected, TooDeep, NoMemory}

-- something missing
abbrev pub missing : ℕ → Answer
missing place = Err (unexpected place)

-- a refusal of what reading comes to is one of its start
pub refused : (e : ParseError) (a x : Answer) → x ≡ a → Refuses e a → Refuses e x
refused (Unexpected place) a x i g = i ∙ g
refused (TooDeep place) a x i g = i ∙ g
refused NoMemory a x i g = tt

-- a refusal of a callee passes outwards
pub passes : {Y : Type 0} (other : Y → Answer) (r : Result Y ParseError) (e y : ParseError) (a x : Answer) → r ≡ Err y → y ≡ e → x ≡ a → Refuses e a → Gives other r x
passes other r e y a x i j h g = rw (i, j) (refused e a x h g)

-- a depth that is too great
pub deep_refused : (e : ParseError) (place at : ℕ) → e ≡ TooDeep place → place ≡ at → Refuses e (Err (too_deep at))
deep_refused e place at i j = rw (i, j) refl

-- a token that does not come
pub expects_refused : {X : Type 0} (list : X → List Token) (total end : ℕ) (tokens : List Token) (k : TokenKind) (s : State) (e : ParseError) → Expects list tokens k end (Err e) → Refuses e (read total end tokens (expect k s))
unfolding read feed
expects_refused list total end [] k s (Unexpected place) h = ap (λ p. missing p) (sym h.1)
expects_refused list total end (t ∷ ts) k s (Unexpected place) h = ap (λ (b : Bool). stepped total end t ts (on_mark b s)) h.0 ∙ ap (λ p. missing p) (sym h.1)
expects_refused list total end tokens k s (TooDeep place) h = absurd h
expects_refused list total end tokens k s NoMemory h = tt
