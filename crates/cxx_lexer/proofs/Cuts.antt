-- How the parts of a source are gathered.
use Rattle.std.proofs.Common.{◌≡◌, ℕ, ◌+◌, ◌≤◌, List, [], ◌∷◌, ◌++◌, length, take, drop, Err, refl, sym, ap, ◌∙◌, subst, arith, append_assoc, length-append, append-nil, add-zero}
use Rattle.std.proofs.lemmas.List.{take-append-drop, length-take-le, drop-drop}
use Rattle.std.proofs.Math.ListN.{drop_of_length-le}
use Rattle.cxx_ast.specs.declared.token.Token.{Token}
use Rattle.cxx_ast.specs.declared.token.TokenKind.{TokenKind}
use Rattle.cxx_ast.specs.Limits.{most_tokens}
use Rattle.cxx_ast.specs.Lex.{Part, blank, line_comment, block_comment, token, bytes_of, IsPart, text_of, AreParts, tokens_at, Lex}
use Rattle.cxx_ast.specs.LexFault.{Fault, bad_byte, literal_range, open_comment, too_many_tokens, StandsBefore, FirstFault}
use Rattle.cxx_lexer.specs.declared.error.LexError.{LexError}
use Rattle.cxx_lexer.specs.declared.error.LexError.TheVariants as errors
use Rattle.cxx_lexer.specs.declared.front.Lexeme.{Lexeme}
use Rattle.cxx_lexer.specs.FrontOf.{IsToken, kind_of, IsFault}
use Rattle.cxx_lexer.specs.Steps.{IsStep, Steps, IsReadTo}
use Rattle.cxx_lexer.specs.Told.{Tells}

-- a token that was read is a step
pub token_step : (source text : List ℕ) (place size : ℕ) (before after : List Token) (lexeme : Lexeme) (k : TokenKind) →
    text ≡ drop place source → IsToken text (kind_of lexeme (take size text)) size → k ≡ kind_of lexeme (take size text) →
    after ≡ before ++ (record { kind = k; place = place } ∷ []) → IsStep source place before after (place + size)
token_step source text place size before after lexeme k is t same pushed =
    let behind : drop size text ≡ drop (place + size) source = ap (λ (xs : List ℕ). drop size xs) is ∙ drop-drop size place source in
    let P : TokenKind → List ℕ → Type 0 = λ kind rest. IsPart (token kind (take size text)) rest in
    let stands : IsPart (token k (take size text)) (drop size text) = subst (λ (kind : TokenKind). P kind (drop size text)) (sym same) t.stands in
    let within : size ≤ length text = t.within in
    record {
      part = token k (take size text);
      spelled = ap (λ (xs : List ℕ). take size text ++ xs) (sym behind) ∙ take-append-drop size text ∙ is;
      stands = subst (λ (rest : List ℕ). P k rest) behind stands;
      reached = ap (λ n. place + n) (length-take-le size text within);
      told = pushed;
    }

text_of-append : (ps : List Part) (p : Part) → text_of (ps ++ p ∷ []) ≡ text_of ps ++ bytes_of p
text_of-append [] p = append-nil (bytes_of p)
text_of-append (q ∷ ps) p = ap (λ (xs : List ℕ). bytes_of q ++ xs) (text_of-append ps p) ∙ sym (append_assoc (bytes_of q) (text_of ps) (bytes_of p))

AreParts-append : (ps : List Part) (p : Part) (rest : List ℕ) → AreParts ps (bytes_of p ++ rest) → IsPart p rest → AreParts (ps ++ p ∷ []) rest
AreParts-append [] p rest before is = (is, tt)
AreParts-append (q ∷ ps) p rest before is =
    let same : text_of ps ++ (bytes_of p ++ rest) ≡ text_of (ps ++ p ∷ []) ++ rest = sym (ap (λ (xs : List ℕ). xs ++ rest) (text_of-append ps p) ∙ append_assoc (text_of ps) (bytes_of p) rest) in
    (subst (λ (xs : List ℕ). IsPart q xs) same before.0, AreParts-append ps p rest before.1 is)

-- behind a part that is no token
gap_append : (place : ℕ) (q : Part) (ps : List Part) (p : Part) → ((n : ℕ) (qs : List Part) → tokens_at n (q ∷ qs) ≡ tokens_at (n + length (bytes_of q)) qs) →
    tokens_at (place + length (bytes_of q)) (ps ++ p ∷ []) ≡ tokens_at (place + length (bytes_of q)) ps ++ tokens_at (place + length (bytes_of q) + length (text_of ps)) (p ∷ []) →
    tokens_at place (q ∷ (ps ++ p ∷ [])) ≡ tokens_at place (q ∷ ps) ++ tokens_at (place + length (bytes_of q ++ text_of ps)) (p ∷ [])
gap_append place q ps p silent later =
    let there : place + length (bytes_of q) + length (text_of ps) ≡ place + length (bytes_of q ++ text_of ps) = omega (arith, length-append (bytes_of q) (text_of ps)) in
    silent place (ps ++ p ∷ []) ∙ later
    ∙ ap (λ (ts : List Token). ts ++ tokens_at (place + length (bytes_of q) + length (text_of ps)) (p ∷ [])) (sym (silent place ps))
    ∙ ap (λ n. tokens_at place (q ∷ ps) ++ tokens_at n (p ∷ [])) there

tokens_at-append : (place : ℕ) (ps : List Part) (p : Part) → tokens_at place (ps ++ p ∷ []) ≡ tokens_at place ps ++ tokens_at (place + length (text_of ps)) (p ∷ [])
tokens_at-append place [] p = ap (λ n. tokens_at n (p ∷ [])) (sym (add-zero place))
tokens_at-append place (token k bytes ∷ ps) p =
    let there : place + length bytes + length (text_of ps) ≡ place + length (bytes ++ text_of ps) = omega (arith, length-append bytes (text_of ps)) in
    ap (λ (ts : List Token). record { kind = k; place = place } ∷ ts) (tokens_at-append (place + length bytes) ps p ∙ ap (λ n. tokens_at (place + length bytes) ps ++ tokens_at n (p ∷ [])) there)
tokens_at-append place (blank b ∷ ps) p = gap_append place (blank b) ps p (λ n qs. refl) (tokens_at-append (place + length (bytes_of (blank b))) ps p)
tokens_at-append place (line_comment t ∷ ps) p = gap_append place (line_comment t) ps p (λ n qs. refl) (tokens_at-append (place + length (bytes_of (line_comment t))) ps p)
tokens_at-append place (block_comment t ∷ ps) p = gap_append place (block_comment t) ps p (λ n qs. refl) (tokens_at-append (place + length (bytes_of (block_comment t))) ps p)

-- one part more
pub step_on : (source : List ℕ) (place : ℕ) (before after : List Token) (next : ℕ) → IsReadTo source place before → IsStep source place before after next → IsReadTo source next after
step_on source place before after next r s = record {
  parts = r.parts ++ s.part ∷ [];
  covered = ap (λ (xs : List ℕ). xs ++ drop next source) (text_of-append r.parts s.part) ∙ append_assoc (text_of r.parts) (bytes_of s.part) (drop next source)
      ∙ ap (λ (xs : List ℕ). text_of r.parts ++ xs) s.spelled ∙ r.covered;
  stand = AreParts-append r.parts s.part (drop next source) (subst (λ (xs : List ℕ). AreParts r.parts xs) (sym s.spelled) r.stand) s.stands;
  reached = ap length (text_of-append r.parts s.part) ∙ length-append (text_of r.parts) (bytes_of s.part) ∙ ap (λ n. n + length (bytes_of s.part)) r.reached ∙ s.reached;
  told = tokens_at-append 0 r.parts s.part ∙ ap (λ (ts : List Token). ts ++ tokens_at (0 + length (text_of r.parts)) (s.part ∷ [])) r.told
      ∙ ap (λ n. before ++ tokens_at n (s.part ∷ [])) (let h = r.reached in let same : 0 + length (text_of r.parts) ≡ place = omega (arith, h) in same) ∙ sym s.told;
}

-- nothing was read yet
pub read_none : (source : List ℕ) → IsReadTo source 0 []
read_none source = record { parts = []; covered = refl; stand = tt; reached = refl; told = refl }

-- all was read
pub read_whole : (source : List ℕ) (place : ℕ) (tokens : List Token) → IsReadTo source place tokens → length tokens ≤ most_tokens → length source ≤ place → Lex source tokens
read_whole source place tokens r few end =
    let nothing : drop place source ≡ [] = drop_of_length-le source end in
    record {
      parts = r.parts;
      covered = sym (append-nil (text_of r.parts)) ∙ ap (λ (xs : List ℕ). text_of r.parts ++ xs) (sym nothing) ∙ r.covered;
      stand = subst (λ (xs : List ℕ). AreParts r.parts xs) nothing r.stand;
      told = r.told;
      few = few;
    }

-- a fault where the reading stands
fault_here : (source : List ℕ) (place : ℕ) (tokens : List Token) (fault : Fault) (at : ℕ) → IsReadTo source place tokens → length tokens ≤ most_tokens → IsFault fault place (length tokens) (drop place source) at → FirstFault source fault at
fault_here source place tokens fault at r few f =
    let count : length tokens ≡ length (tokens_at 0 r.parts) = ap length (sym r.told) in
    record {
      parts = r.parts;
      rest = drop place source;
      covered = r.covered;
      stand = r.stand;
      reached = r.reached ∙ sym f.0;
      few = subst (λ n. n ≤ most_tokens) count few;
      faulty = subst (λ n. StandsBefore fault n (drop place source)) count f.1;
    }

pub told_fault : (source : List ℕ) (place : ℕ) (before after : List Token) (e : LexError) → IsReadTo source place before → length before ≤ most_tokens → Steps source place before after (Err e) → Tells source (Err e)
told_fault source place before after (errors.BadByte at) r few f = fault_here source place before bad_byte at r few f
told_fault source place before after (errors.LiteralRange at) r few f = fault_here source place before literal_range at r few f
told_fault source place before after (errors.OpenComment at) r few f = fault_here source place before open_comment at r few f
told_fault source place before after (errors.TooManyTokens at) r few f = fault_here source place before too_many_tokens at r few f
told_fault source place before after errors.NoMemory r few f = tt
