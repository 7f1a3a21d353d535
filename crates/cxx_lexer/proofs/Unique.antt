-- A source has one list of tokens, or one first fault.
use Rattle.std.proofs.Common.{◌≡◌, ℕ, suc, ◌+◌, ◌≤◌, true, false, not, List, [], ◌∷◌, ◌++◌, length, codes, Option, Some, None, refl, sym, ap, ◌∙◌, subst, arith, append_assoc, append-nil}
use Rattle.cxx_ast.specs.declared.token.Token.{Token}
use Rattle.cxx_ast.specs.Bytes.{is_blank, is_digit, is_word_byte}
use Rattle.cxx_ast.specs.Limits.{most_tokens}
use Rattle.cxx_ast.specs.Literal.{literal_value}
use Rattle.cxx_ast.specs.Lexeme.{is_numeral, is_lexeme, begins_comment, has_close, begins_with, IsKind, IsLongest}
use Rattle.cxx_ast.specs.Lex.{Part, blank, line_comment, block_comment, token, bytes_of, IsPart, text_of, AreParts, tokens_at, Lex}
use Rattle.cxx_ast.specs.LexFault.{Fault, bad_byte, literal_range, open_comment, too_many_tokens, BeginsNothing, StandsBefore, FirstFault}
use Rattle.cxx_lexer.proofs.ByteTests.{both, first_passes, digit_is_word, or_true}
use Rattle.cxx_lexer.proofs.Fronts.{slash_first, word_no_slash}
use Rattle.std.specs.List.{list_all}
use Rattle.cxx_lexer.proofs.KindLaws.{numeral_no_kind}
use Rattle.cxx_lexer.proofs.PartLaws.{star_no_slash, lexeme_first, append_cancel, append_same, part_unique, blank_token, comment_token}

-- how many of some parts are tokens
abbrev token_count : List Part → ℕ
token_count [] = 0
token_count (token k bytes ∷ ps) = suc (token_count ps)
token_count (blank b ∷ ps) = token_count ps
token_count (line_comment t ∷ ps) = token_count ps
token_count (block_comment t ∷ ps) = token_count ps

counted : (place : ℕ) (ps : List Part) → length (tokens_at place ps) ≡ token_count ps
counted place [] = refl
counted place (token k bytes ∷ ps) = ap suc (counted (place + length bytes) ps)
counted place (blank b ∷ ps) = counted (place + length (bytes_of (blank b))) ps
counted place (line_comment t ∷ ps) = counted (place + length (bytes_of (line_comment t))) ps
counted place (block_comment t ∷ ps) = counted (place + length (bytes_of (block_comment t))) ps

-- the parts end: with the source, or at a fault behind so many tokens
abbrev Ends : Option Fault → ℕ → List ℕ → Type 0
Ends None count text = text ≡ []
Ends (Some f) count text = StandsBefore f count text

-- what stands where the parts end is a token too many
abbrev IsTooMany : ℕ → Part → Type 0
IsTooMany count p = (count ≡ most_tokens) × (token_count (p ∷ []) ≡ 1)

-- a text of a close and more has one
has_later_close : (t rest : List ℕ) → has_close (t ++ (42 ∷ 47 ∷ rest)) ≡ true
has_later_close [] rest = refl
has_later_close (b ∷ t) rest = rw (has_later_close t rest) (or_true (begins_with (codes "*/") (b ∷ (t ++ (42 ∷ 47 ∷ rest)))))

stuck_bad : (count : ℕ) (p : Part) (rest text : List ℕ) → BeginsNothing text → IsPart p rest → bytes_of p ++ rest ≡ text → ⊥
stuck_bad count p rest [] ends is e = ends
stuck_bad count (blank c) rest (b ∷ bs) ends is e = let same : c ≡ b = cc in let fails : is_blank b ≡ true = subst (λ d. is_blank d ≡ true) same is in let no = ends.0 in cc
stuck_bad count (line_comment t) rest (b ∷ bs) ends is e = comment_token (47 ∷ 47 ∷ (t ++ rest)) (b ∷ bs) refl e ends.1
stuck_bad count (block_comment t) rest (b ∷ bs) ends is e = comment_token (47 ∷ 42 ∷ ((t ++ 42 ∷ 47 ∷ []) ++ rest)) (b ∷ bs) refl e ends.1
stuck_bad count (token k bytes) rest (b ∷ bs) ends is e = let no : is_lexeme bytes ≡ false = ends.2 bytes rest e in let yes = is.1.lexeme in cc

numeral_no_comment : (run rest : List ℕ) → is_numeral run ≡ true → begins_comment (run ++ rest) ≡ false
numeral_no_comment [] rest n = cc
numeral_no_comment (b ∷ bs) rest n = slash_first b (bs ++ rest) (word_no_slash b (digit_is_word b (both (is_digit b) (list_all is_word_byte bs) n).0))

stuck_range : (p : Part) (rest run behind : List ℕ) → is_numeral run ≡ true → IsLongest run behind → literal_value run ≡ None → IsPart p rest → bytes_of p ++ rest ≡ run ++ behind → ⊥
stuck_range (blank b) rest run behind n longest none is e = blank_token b run rest behind is longest.lexeme e
stuck_range (line_comment t) rest run behind n longest none is e = comment_token (47 ∷ 47 ∷ (t ++ rest)) (run ++ behind) refl e (numeral_no_comment run behind n)
stuck_range (block_comment t) rest run behind n longest none is e = comment_token (47 ∷ 42 ∷ ((t ++ 42 ∷ 47 ∷ []) ++ rest)) (run ++ behind) refl e (numeral_no_comment run behind n)
stuck_range (token k bytes) rest run behind n longest none is e =
    let longer : length run ≤ length bytes = is.1.longest run behind (sym e) longest.lexeme in
    let shorter : length bytes ≤ length run = longest.longest bytes rest e is.1.lexeme in
    let same : bytes ≡ run = append_same bytes run rest behind e (omega arith) in
    numeral_no_kind k run n none (subst (λ (xs : List ℕ). IsKind k xs) same is.0)

stuck_open : (p : Part) (rest behind : List ℕ) → has_close behind ≡ false → IsPart p rest → bytes_of p ++ rest ≡ 47 ∷ 42 ∷ behind → ⊥
stuck_open (blank b) rest behind unclosed is e = let same : b ≡ 47 = cc in let fails : is_blank 47 ≡ true = subst (λ d. is_blank d ≡ true) same is in cc
stuck_open (line_comment t) rest behind unclosed is e = star_no_slash 47 42 refl refl (cc)
stuck_open (block_comment t) rest behind unclosed is e =
    let tails : (t ++ 42 ∷ 47 ∷ []) ++ rest ≡ behind = cc in
    let closes : has_close behind ≡ true = subst (λ (xs : List ℕ). has_close xs ≡ true) (sym (append_assoc t (42 ∷ 47 ∷ []) rest) ∙ tails) (has_later_close t rest) in cc
stuck_open (token k bytes) rest behind unclosed is e = comment_token (47 ∷ 42 ∷ behind) (bytes ++ rest) refl (sym e) is.2

none_first : (bytes rest : List ℕ) → first_passes (λ b. not (is_blank b)) bytes ≡ true → bytes ++ rest ≡ [] → ⊥
none_first [] rest f e = cc
none_first (b ∷ bs) rest f e = cc

-- where parts end, no part stands but a token too many
stuck : (o : Option Fault) (count : ℕ) (p : Part) (rest text : List ℕ) → Ends o count text → IsPart p rest → bytes_of p ++ rest ≡ text → IsTooMany count p
stuck None count p rest text ends is e = absurd (no_bytes p rest is (e ∙ ends))
  where
    no_bytes : (p : Part) (rest : List ℕ) → IsPart p rest → bytes_of p ++ rest ≡ [] → ⊥
    no_bytes (blank b) rest is e = cc
    no_bytes (line_comment t) rest is e = cc
    no_bytes (block_comment t) rest is e = cc
    no_bytes (token k bytes) rest is e = none_first bytes rest (lexeme_first bytes is.1.lexeme) e
stuck (Some bad_byte) count p rest text ends is e = absurd (stuck_bad count p rest text ends is e)
stuck (Some literal_range) count p rest text ends is e = let (run, behind, splits, n, longest, none) = ends in absurd (stuck_range p rest run behind n longest none is (e ∙ splits))
stuck (Some open_comment) count p rest text ends is e = let (behind, splits, unclosed) = ends in absurd (stuck_open p rest behind unclosed is (e ∙ splits))
stuck (Some too_many_tokens) count p rest text ends is e =
    let (k, bytes, behind, splits, stands, full) = ends in
    let same : p ≡ token k bytes = part_unique p (token k bytes) rest behind is stands (e ∙ splits) in
    (full, subst (λ (q : Part). token_count (q ∷ []) ≡ 1) (sym same) refl)

count_cons : (p : Part) (ps : List Part) → token_count (p ∷ []) + token_count ps ≡ token_count (p ∷ ps)
count_cons (token k bytes) ps = omega arith
count_cons (blank b) ps = omega arith
count_cons (line_comment t) ps = omega arith
count_cons (block_comment t) ps = omega arith

-- one list of parts leads to where parts end
same_cut : (ps qs : List Part) (done : ℕ) (r s : List ℕ) (o u : Option Fault) → AreParts ps r → AreParts qs s → text_of ps ++ r ≡ text_of qs ++ s →
    Ends o (done + token_count ps) r → Ends u (done + token_count qs) s → done + token_count ps ≤ most_tokens → done + token_count qs ≤ most_tokens → ps ≡ qs
same_cut [] [] done r s o u a b e f g few few' = refl
same_cut [] (q ∷ qs) done r s o u a b e f g few few' =
    let many = stuck o (done + 0) q (text_of qs ++ s) r f b.0 (sym (append_assoc (bytes_of q) (text_of qs) s) ∙ sym e) in
    let more : token_count (q ∷ []) + token_count qs ≡ token_count (q ∷ qs) = count_cons q qs in
    absurd (omega arith)
same_cut (p ∷ ps) [] done r s o u a b e f g few few' =
    let many = stuck u (done + 0) p (text_of ps ++ r) s g a.0 (sym (append_assoc (bytes_of p) (text_of ps) r) ∙ e) in
    let more : token_count (p ∷ []) + token_count ps ≡ token_count (p ∷ ps) = count_cons p ps in
    absurd (omega arith)
same_cut (p ∷ ps) (q ∷ qs) done r s o u a b e f g few few' =
    let whole : bytes_of p ++ (text_of ps ++ r) ≡ bytes_of q ++ (text_of qs ++ s) = sym (append_assoc (bytes_of p) (text_of ps) r) ∙ e ∙ append_assoc (bytes_of q) (text_of qs) s in
    let same : p ≡ q = part_unique p q (text_of ps ++ r) (text_of qs ++ s) a.0 b.0 whole in
    let rest : text_of ps ++ r ≡ text_of qs ++ s = append_cancel (bytes_of p) (text_of ps ++ r) (text_of qs ++ s) (whole ∙ ap (λ (x : Part). bytes_of x ++ (text_of qs ++ s)) (sym same)) in
    let first : done + token_count (p ∷ []) + token_count ps ≡ done + token_count (p ∷ ps) = let h = count_cons p ps in omega arith in
    let second : done + token_count (p ∷ []) + token_count qs ≡ done + token_count (q ∷ qs) =
    let h = count_cons q qs in let k : token_count (p ∷ []) ≡ token_count (q ∷ []) = ap (λ (x : Part). token_count (x ∷ [])) same in omega arith in
    let tail : ps ≡ qs = same_cut ps qs (done + token_count (p ∷ [])) r s o u a.1 b.1 rest
    (subst (λ n. Ends o n r) (sym first) f) (subst (λ n. Ends u n s) (sym second) g) (omega arith) (omega arith) in
    cc

bad_no_range : (count : ℕ) (text : List ℕ) → StandsBefore bad_byte count text → StandsBefore literal_range count text → ⊥
bad_no_range count [] a b = a
bad_no_range count (c ∷ cs) a b = let (run, rest, splits, n, longest, none) = b in let no : is_lexeme run ≡ false = a.2 run rest (sym splits) in let yes = longest.lexeme in cc

bad_no_open : (count : ℕ) (text : List ℕ) → StandsBefore bad_byte count text → StandsBefore open_comment count text → ⊥
bad_no_open count [] a b = a
bad_no_open count (c ∷ cs) a b = let (rest, splits, unclosed) = b in comment_token (47 ∷ 42 ∷ rest) (c ∷ cs) refl (sym splits) a.1

bad_no_token : (count : ℕ) (text : List ℕ) → StandsBefore bad_byte count text → StandsBefore too_many_tokens count text → ⊥
bad_no_token count text a b = let (k, bytes, rest, splits, stands, full) = b in stuck_bad count (token k bytes) rest text a stands (sym splits)

range_no_open : (count : ℕ) (text : List ℕ) → StandsBefore literal_range count text → StandsBefore open_comment count text → ⊥
range_no_open count text a b =
    let (run, rest, splits, n, longest, none) = a in let (behind, opened, unclosed) = b in
    comment_token (47 ∷ 42 ∷ behind) (run ++ rest) refl (sym opened ∙ splits) (numeral_no_comment run rest n)

range_no_token : (count : ℕ) (text : List ℕ) → StandsBefore literal_range count text → StandsBefore too_many_tokens count text → ⊥
range_no_token count text a b =
    let (run, rest, splits, n, longest, none) = a in let (k, bytes, behind, spelled, stands, full) = b in
    stuck_range (token k bytes) behind run rest n longest none stands (sym spelled ∙ splits)

open_no_token : (count : ℕ) (text : List ℕ) → StandsBefore open_comment count text → StandsBefore too_many_tokens count text → ⊥
open_no_token count text a b =
    let (behind, splits, unclosed) = a in let (k, bytes, rest, spelled, stands, full) = b in
    stuck_open (token k bytes) rest behind unclosed stands (sym spelled ∙ splits)

-- two faults at one place are the same
pub fault_same : (f g : Fault) (count : ℕ) (text : List ℕ) → StandsBefore f count text → StandsBefore g count text → f ≡ g
fault_same bad_byte bad_byte count text a b = refl
fault_same bad_byte literal_range count text a b = absurd (bad_no_range count text a b)
fault_same bad_byte open_comment count text a b = absurd (bad_no_open count text a b)
fault_same bad_byte too_many_tokens count text a b = absurd (bad_no_token count text a b)
fault_same literal_range bad_byte count text a b = absurd (bad_no_range count text b a)
fault_same literal_range literal_range count text a b = refl
fault_same literal_range open_comment count text a b = absurd (range_no_open count text a b)
fault_same literal_range too_many_tokens count text a b = absurd (range_no_token count text a b)
fault_same open_comment bad_byte count text a b = absurd (bad_no_open count text b a)
fault_same open_comment literal_range count text a b = absurd (range_no_open count text b a)
fault_same open_comment open_comment count text a b = refl
fault_same open_comment too_many_tokens count text a b = absurd (open_no_token count text a b)
fault_same too_many_tokens bad_byte count text a b = absurd (bad_no_token count text b a)
fault_same too_many_tokens literal_range count text a b = absurd (range_no_token count text b a)
fault_same too_many_tokens open_comment count text a b = absurd (open_no_token count text b a)
fault_same too_many_tokens too_many_tokens count text a b = refl

-- a fault stands before some byte
fault_some : (f : Fault) (count : ℕ) → StandsBefore f count [] → ⊥
fault_some bad_byte count a = a
fault_some literal_range count a = let (run, rest, splits, n, longest, none) = a in none_first run rest (lexeme_first run longest.lexeme) (sym splits)
fault_some open_comment count a = let (rest, splits, unclosed) = a in cc
fault_some too_many_tokens count a = let (k, bytes, rest, splits, stands, full) = a in none_first bytes rest (lexeme_first bytes stands.1.lexeme) (sym splits)

-- where the parts of two readings end they have the same parts and the same rest
pub record SameCut (ps qs : List Part) (r s : List ℕ) : Type 0 where
  pub parts : ps ≡ qs
  pub rest : r ≡ s

cuts_agree : (source : List ℕ) (ps qs : List Part) (r s : List ℕ) (o u : Option Fault) → AreParts ps r → AreParts qs s → text_of ps ++ r ≡ source → text_of qs ++ s ≡ source →
    Ends o (length (tokens_at 0 ps)) r → Ends u (length (tokens_at 0 qs)) s → length (tokens_at 0 ps) ≤ most_tokens → length (tokens_at 0 qs) ≤ most_tokens → SameCut ps qs r s
cuts_agree source ps qs r s o u a b x y f g few few' =
    let left : length (tokens_at 0 ps) ≡ 0 + token_count ps = let h = counted 0 ps in omega arith in
    let right : length (tokens_at 0 qs) ≡ 0 + token_count qs = let h = counted 0 qs in omega arith in
    let e : text_of ps ++ r ≡ text_of qs ++ s = x ∙ sym y in
    let same : ps ≡ qs = same_cut ps qs 0 r s o u a b e (subst (λ n. Ends o n r) left f) (subst (λ n. Ends u n s) right g) (subst (λ n. n ≤ most_tokens) left few) (subst (λ n. n ≤ most_tokens) right few') in
    record { parts = same; rest = append_cancel (text_of ps) r s (e ∙ ap (λ (xs : List Part). text_of xs ++ s) (sym same)) }

pub tokens_unique : (source : List ℕ) (ts us : List Token) → Lex source ts → Lex source us → ts ≡ us
tokens_unique source ts us a b =
    let cut = cuts_agree source a.parts b.parts [] [] None None a.stand b.stand (append-nil (text_of a.parts) ∙ a.covered) (append-nil (text_of b.parts) ∙ b.covered) refl refl
    (subst (λ (xs : List Token). length xs ≤ most_tokens) (sym a.told) a.few) (subst (λ (xs : List Token). length xs ≤ most_tokens) (sym b.told) b.few) in
    sym a.told ∙ ap (tokens_at 0) cut.parts ∙ b.told

pub no_fault : (source : List ℕ) (ts : List Token) (f : Fault) (place : ℕ) → Lex source ts → FirstFault source f place → ⊥
no_fault source ts f place a b =
    let cut = cuts_agree source a.parts b.parts [] b.rest None (Some f) a.stand b.stand (append-nil (text_of a.parts) ∙ a.covered) b.covered refl b.faulty
    (subst (λ (xs : List Token). length xs ≤ most_tokens) (sym a.told) a.few) b.few in
    fault_some f (length (tokens_at 0 b.parts)) (subst (λ (xs : List ℕ). StandsBefore f (length (tokens_at 0 b.parts)) xs) (sym cut.rest) b.faulty)

pub record SameFault (f g : Fault) (place there : ℕ) : Type 0 where
  pub fault : f ≡ g
  pub place_same : place ≡ there

pub fault_unique : (source : List ℕ) (f g : Fault) (place there : ℕ) → FirstFault source f place → FirstFault source g there → SameFault f g place there
fault_unique source f g place there a b =
    let cut = cuts_agree source a.parts b.parts a.rest b.rest (Some f) (Some g) a.stand b.stand a.covered b.covered a.faulty b.faulty a.few b.few in
    let count : length (tokens_at 0 b.parts) ≡ length (tokens_at 0 a.parts) = ap (λ (ps : List Part). length (tokens_at 0 ps)) (sym cut.parts) in
    let here : StandsBefore g (length (tokens_at 0 a.parts)) a.rest =
    subst (λ n. StandsBefore g n a.rest) count (subst (λ (xs : List ℕ). StandsBefore g (length (tokens_at 0 b.parts)) xs) (sym cut.rest) b.faulty) in
    record {
      fault = fault_same f g (length (tokens_at 0 a.parts)) a.rest a.faulty here;
      place_same = sym a.reached ∙ ap (λ (ps : List Part). length (text_of ps)) cut.parts ∙ b.reached;
    }
