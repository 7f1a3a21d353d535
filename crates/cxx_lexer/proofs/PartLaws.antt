-- One part at most stands at the start of a text.
use Rattle.std.proofs.Common.{◌≡◌, inl, inr, ℕ, ◌≤◌, true, false, ◌==◌, not, List, [], ◌∷◌, ◌++◌, length, codes, refl, sym, ap, ◌∙◌, subst, arith, append_assoc, eq-eqb}
use Rattle.std.specs.List.{list_all}
use Rattle.cxx_ast.specs.Bytes.{is_blank, is_word_byte}
use Rattle.cxx_ast.specs.Lexeme.{is_lexeme, begins_comment, has_close, begins_with, IsKind}
use Rattle.cxx_ast.specs.Lex.{Part, blank, line_comment, block_comment, token, bytes_of, EndsLine, IsPart}
use Rattle.cxx_lexer.proofs.ByteTests.{both, neither, first_passes, is_mark_byte, word_no_blank}
use Rattle.cxx_lexer.proofs.Prefixes.{before_line_feed}
use Rattle.cxx_lexer.proofs.Longest.{lexeme_is, spelled_first}
use Rattle.cxx_lexer.proofs.KindLaws.{kind_unique}

pub star_no_slash : (a b : ℕ) → a ≡ 47 → b ≡ 42 → a ≡ b → ⊥
star_no_slash a b x y e = omega arith

-- lists of one length that begin one list are the same
pub append_same : {A : Type 0} (a b x y : List A) → a ++ x ≡ b ++ y → length a ≡ length b → a ≡ b
append_same [] [] x y e n = refl
append_same [] (d ∷ b) x y e n = absurd (omega arith)
append_same (c ∷ a) [] x y e n = absurd (omega arith)
append_same (c ∷ a) (d ∷ b) x y e n =
    let head : c ≡ d = cc in
    let tails : a ++ x ≡ b ++ y = cc in
    let tail : a ≡ b = append_same a b x y tails (omega arith) in cc

-- behind the same list
pub append_cancel : {A : Type 0} (a x y : List A) → a ++ x ≡ a ++ y → x ≡ y
append_cancel [] x y e = e
append_cancel (c ∷ a) x y e = let tails : a ++ x ≡ a ++ y = cc in append_cancel a x y tails

-- a lexeme begins with no blank
pub lexeme_first : (bytes : List ℕ) → is_lexeme bytes ≡ true → first_passes (λ b. not (is_blank b)) bytes ≡ true
lexeme_first bytes e = elim (lexeme_is bytes e) [ inl r ↦ run_first bytes r.first | inr s ↦ spelled bytes (spelled_first bytes s) ]
  where
    run_first : (bytes : List ℕ) → first_passes is_word_byte bytes ≡ true → first_passes (λ b. not (is_blank b)) bytes ≡ true
    run_first [] f = cc
    run_first (b ∷ bs) f = rw (word_no_blank b f) refl

    spelled : (bytes : List ℕ) → first_passes is_mark_byte bytes ≡ true → first_passes (λ b. not (is_blank b)) bytes ≡ true
    spelled [] f = cc
    spelled (b ∷ bs) f = (both (not (is_blank b)) (not (is_word_byte b)) f).0

pub blank_token : (b : ℕ) (bytes r s : List ℕ) → is_blank b ≡ true → is_lexeme bytes ≡ true → b ∷ r ≡ bytes ++ s → ⊥
blank_token b bytes r s white lexeme e = clash bytes (lexeme_first bytes lexeme) e
  where
    clash : (bytes : List ℕ) → first_passes (λ c. not (is_blank c)) bytes ≡ true → b ∷ r ≡ bytes ++ s → ⊥
    clash [] f e = cc
    clash (c ∷ bytes) f e =
        let same : b ≡ c = cc in
        let is : is_blank c ≡ true = subst (λ d. is_blank d ≡ true) same white in
        let fails : not true ≡ true = subst (λ d. not d ≡ true) is f in cc

-- the byte that ends a line is a line feed
end_passes : (r : List ℕ) (y : ℕ) (more : List ℕ) → EndsLine r → r ≡ y ∷ more → before_line_feed y ≡ true → ⊥
end_passes [] y more ends e pass = cc
end_passes (b ∷ bs) y more ends e pass =
    let same : b ≡ y = cc in
    let feed : (y == 10) ≡ true = eq-eqb y 10 (sym same ∙ ends) in
    let fails : not true ≡ true = subst (λ d. not d ≡ true) feed pass in cc

line_unique : (t u r s : List ℕ) → list_all before_line_feed t ≡ true → list_all before_line_feed u ≡ true → EndsLine r → EndsLine s → t ++ r ≡ u ++ s → t ≡ u
line_unique [] [] r s a b c d e = refl
line_unique [] (y ∷ u) r s a b c d e = absurd (end_passes r y (u ++ s) c e (both (before_line_feed y) (list_all before_line_feed u) b).0)
line_unique (x ∷ t) [] r s a b c d e = absurd (end_passes s x (t ++ r) d (sym e) (both (before_line_feed x) (list_all before_line_feed t) a).0)
line_unique (x ∷ t) (y ∷ u) r s a b c d e =
    let head : x ≡ y = cc in
    let tails : t ++ r ≡ u ++ s = cc in
    let tail : t ≡ u = line_unique t u r s (both (before_line_feed x) (list_all before_line_feed t) a).1 (both (before_line_feed y) (list_all before_line_feed u) b).1 c d tails in cc

-- no close begins with a byte of a text without one
close_inside : (y : ℕ) (u s r : List ℕ) → has_close (y ∷ u) ≡ false → 42 ∷ 47 ∷ r ≡ (y ∷ u) ++ (42 ∷ 47 ∷ s) → ⊥
close_inside y [] s r b e = star_no_slash 47 42 refl refl (cc)
close_inside y (z ∷ u) s r b e =
    let first : 42 ≡ y = cc in
    let second : 47 ≡ z = cc in
    let closes : has_close (42 ∷ 47 ∷ u) ≡ false = subst (λ c. has_close (42 ∷ c ∷ u) ≡ false) (sym second) (subst (λ c. has_close (c ∷ z ∷ u) ≡ false) (sym first) b) in cc

block_unique : (t u r s : List ℕ) → has_close t ≡ false → has_close u ≡ false → t ++ (42 ∷ 47 ∷ r) ≡ u ++ (42 ∷ 47 ∷ s) → t ≡ u
block_unique [] [] r s a b e = refl
block_unique [] (y ∷ u) r s a b e = absurd (close_inside y u s r b e)
block_unique (x ∷ t) [] r s a b e = absurd (close_inside x t r s a (sym e))
block_unique (x ∷ t) (y ∷ u) r s a b e =
    let head : x ≡ y = cc in
    let tails : t ++ (42 ∷ 47 ∷ r) ≡ u ++ (42 ∷ 47 ∷ s) = cc in
    let tail : t ≡ u = block_unique t u r s (neither (begins_with (codes "*/") (x ∷ t)) (has_close t) a).1 (neither (begins_with (codes "*/") (y ∷ u)) (has_close u) b).1 tails in cc

blank_slash : (b : ℕ) → is_blank b ≡ true → b ≡ 47 → ⊥
blank_slash b white e = let fails : is_blank 47 ≡ true = subst (λ c. is_blank c ≡ true) e white in cc

pub comment_token : (x y : List ℕ) → begins_comment x ≡ true → x ≡ y → begins_comment y ≡ false → ⊥
comment_token x y begins e none = let fails : begins_comment x ≡ false = subst (λ (t : List ℕ). begins_comment t ≡ false) (sym e) none in cc

pub part_unique : (p q : Part) (r s : List ℕ) → IsPart p r → IsPart q s → bytes_of p ++ r ≡ bytes_of q ++ s → p ≡ q
part_unique (blank b) (blank c) r s x y e = let same : b ≡ c = cc in ap blank same
part_unique (blank b) (line_comment u) r s x y e = absurd (blank_slash b x (let h : b ≡ 47 = cc in h))
part_unique (blank b) (block_comment u) r s x y e = absurd (blank_slash b x (let h : b ≡ 47 = cc in h))
part_unique (blank b) (token k bytes) r s x y e = absurd (blank_token b bytes r s x y.1.lexeme e)
part_unique (line_comment t) (blank c) r s x y e = absurd (blank_slash c y (let h : c ≡ 47 = cc in h))
part_unique (line_comment t) (line_comment u) r s x y e =
    let tails : t ++ r ≡ u ++ s = cc in ap line_comment (line_unique t u r s x.0 y.0 x.1 y.1 tails)
part_unique (line_comment t) (block_comment u) r s x y e = absurd (star_no_slash 47 42 refl refl (cc))
part_unique (line_comment t) (token k bytes) r s x y e = absurd (comment_token (47 ∷ 47 ∷ (t ++ r)) (bytes ++ s) refl e y.2)
part_unique (block_comment t) (blank c) r s x y e = absurd (blank_slash c y (let h : c ≡ 47 = cc in h))
part_unique (block_comment t) (line_comment u) r s x y e = absurd (star_no_slash 47 42 refl refl (cc))
part_unique (block_comment t) (block_comment u) r s x y e =
    let tails : (t ++ 42 ∷ 47 ∷ []) ++ r ≡ (u ++ 42 ∷ 47 ∷ []) ++ s = cc in
    ap block_comment (block_unique t u r s x y (sym (append_assoc t (42 ∷ 47 ∷ []) r) ∙ tails ∙ append_assoc u (42 ∷ 47 ∷ []) s))
part_unique (block_comment t) (token k bytes) r s x y e = absurd (comment_token (47 ∷ 42 ∷ ((t ++ 42 ∷ 47 ∷ []) ++ r)) (bytes ++ s) refl e y.2)
part_unique (token j a) (blank c) r s x y e = absurd (blank_token c a s r y x.1.lexeme (sym e))
part_unique (token j a) (line_comment u) r s x y e = absurd (comment_token (47 ∷ 47 ∷ (u ++ s)) (a ++ r) refl (sym e) x.2)
part_unique (token j a) (block_comment u) r s x y e = absurd (comment_token (47 ∷ 42 ∷ ((u ++ 42 ∷ 47 ∷ []) ++ s)) (a ++ r) refl (sym e) x.2)
part_unique (token j a) (token k b) r s x y e =
    let longer : length b ≤ length a = x.1.longest b s (sym e) y.1.lexeme in
    let shorter : length a ≤ length b = y.1.longest a r e x.1.lexeme in
    let same : a ≡ b = append_same a b r s e (omega arith) in
    let kinds : j ≡ k = kind_unique j k b (subst (λ (xs : List ℕ). IsKind j xs) same x.0) y.0 in cc
