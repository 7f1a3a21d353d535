-- The tokens of the source.
use Rattle.std.proofs.Common.{◌≡◌, ◌∙◌, refl, sym, ap, subst, ℕ, zero, suc, ◌+◌, ◌*◌, ◌≤◌, List, [], ◌∷◌, ◌++◌, length, append_assoc, length-append, add-zero, arith}
use Rattle.cxx_ast.specs.declared.token.Token.{Token}
use Rattle.cxx_ast.specs.Lex.{Part, blank, line_comment, block_comment, token, bytes_of, IsPart, AreParts, text_of, tokens_at, Lex}
use Rattle.gen_source.specs.Source.{class_line, first_line, level_line, levels_behind, generated}
use Rattle.cxx_ast.specs.Marks as Marks
use Rattle.gen_source.proofs.Parts.{class_parts, class_parts_text, class_parts_stand, first_parts, first_parts_text, first_parts_stand, level_parts, level_parts_text, level_parts_stand, main_parts, main_parts_text, main_parts_stand}

pub texts : (ps qs : List Part) → text_of (ps ++ qs) ≡ text_of ps ++ text_of qs
texts [] qs = refl
texts (p ∷ ps) qs = ap (λ (t : List ℕ). bytes_of p ++ t) (texts ps qs) ∙ sym (append_assoc (bytes_of p) (text_of ps) (text_of qs))

pub parts_join : (ps qs : List Part) (rest : List ℕ) → AreParts ps (text_of qs ++ rest) → AreParts qs rest → AreParts (ps ++ qs) rest
parts_join [] qs rest first more = more
parts_join (p ∷ ps) qs rest first more = (subst (λ (t : List ℕ). IsPart p t) (sym (append_assoc (text_of ps) (text_of qs) rest) ∙ ap (λ (t : List ℕ). t ++ rest) (sym (texts ps qs))) first.0, parts_join ps qs rest first.1 more)

-- a token stands at a place, and others behind it
told_join : (place : ℕ) (ps qs : List Part) → tokens_at place (ps ++ qs) ≡ tokens_at place ps ++ tokens_at (place + length (text_of ps)) qs
told_join place [] qs = ap (λ n. tokens_at n qs) (sym (add-zero place))
told_join place (blank b ∷ ps) qs = told_join (place + 1) ps qs ∙ ap (λ n. tokens_at (place + 1) ps ++ tokens_at n qs) (omega arith)
told_join place (line_comment t ∷ ps) qs =
    let size = length-append (bytes_of (line_comment t)) (text_of ps) in
    told_join (place + length (bytes_of (line_comment t))) ps qs ∙ ap (λ n. tokens_at (place + length (bytes_of (line_comment t))) ps ++ tokens_at n qs) (omega (arith, size))
told_join place (block_comment t ∷ ps) qs =
    let size = length-append (bytes_of (block_comment t)) (text_of ps) in
    told_join (place + length (bytes_of (block_comment t))) ps qs ∙ ap (λ n. tokens_at (place + length (bytes_of (block_comment t))) ps ++ tokens_at n qs) (omega (arith, size))
told_join place (token k bytes ∷ ps) qs =
    let size = length-append bytes (text_of ps) in
    ap (λ (ts : List Token). record { kind = k; place = place } ∷ ts)
    (told_join (place + length bytes) ps qs ∙ ap (λ n. tokens_at (place + length bytes) ps ++ tokens_at n qs) (omega (arith, size)))

-- ---- the parts of the source
abbrev pub levels_parts : (j count : ℕ) → List Part
levels_parts j zero = []
levels_parts j (suc count) = level_parts (j + 1) j ++ levels_parts (j + 1) count

abbrev pub behind_class : ℕ → List Part
behind_class n = first_parts ++ (levels_parts 0 n ++ main_parts n)

abbrev pub all_parts : ℕ → List Part
all_parts n = class_parts ++ behind_class n

levels_text : (j count : ℕ) → text_of (levels_parts j count) ≡ levels_behind j count
unfolding levels_behind
levels_text j zero = refl
levels_text j (suc count) =
    texts (level_parts (j + 1) j) (levels_parts (j + 1) count) ∙ ap (λ (t : List ℕ). t ++ text_of (levels_parts (j + 1) count)) (level_parts_text (j + 1) j) ∙
    ap (λ (t : List ℕ). level_line (j + 1) j ++ t) (levels_text (j + 1) count)

pub all_text : (n : ℕ) → text_of (all_parts n) ≡ generated n
unfolding generated
all_text n =
    texts class_parts (behind_class n) ∙ ap (λ (t : List ℕ). t ++ text_of (behind_class n)) class_parts_text ∙
    ap (λ (t : List ℕ). class_line ++ t) (texts first_parts (levels_parts 0 n ++ main_parts n) ∙ ap (λ (t : List ℕ). t ++ text_of (levels_parts 0 n ++ main_parts n)) first_parts_text ∙
    ap (λ (t : List ℕ). first_line ++ t) (texts (levels_parts 0 n) (main_parts n) ∙ ap (λ (t : List ℕ). t ++ text_of (main_parts n)) (levels_text 0 n) ∙
    ap (λ (t : List ℕ). levels_behind 0 n ++ t) (main_parts_text n)))

levels_stand : (j count : ℕ) (rest : List ℕ) → j + count ≤ 2000 → AreParts (levels_parts j count) rest
levels_stand j zero rest few = tt
levels_stand j (suc count) rest few =
    parts_join (level_parts (j + 1) j) (levels_parts (j + 1) count) rest
    (level_parts_stand (j + 1) j (text_of (levels_parts (j + 1) count) ++ rest) (omega (arith, few)) (omega (arith, few)) (omega arith) (omega (arith, few)))
    (levels_stand (j + 1) count rest (omega (arith, few)))

all_stand : (n : ℕ) → n ≤ 2000 → AreParts (all_parts n) []
all_stand n few =
    parts_join class_parts (behind_class n) [] (class_parts_stand (text_of (behind_class n) ++ []))
    (parts_join first_parts (levels_parts 0 n ++ main_parts n) [] (first_parts_stand (text_of (levels_parts 0 n ++ main_parts n) ++ []))
    (parts_join (levels_parts 0 n) (main_parts n) [] (levels_stand 0 n (text_of (main_parts n) ++ []) (omega (arith, few))) (main_parts_stand n [] (omega (arith, few)))))

-- ---- its tokens
abbrev pub levels_tokens : (place j count : ℕ) → List Token
levels_tokens place j zero = []
levels_tokens place j (suc count) = tokens_at place (level_parts (j + 1) j) ++ levels_tokens (place + length (text_of (level_parts (j + 1) j))) (j + 1) count

levels_told : (place j count : ℕ) → tokens_at place (levels_parts j count) ≡ levels_tokens place j count
levels_told place j zero = refl
levels_told place j (suc count) =
    told_join place (level_parts (j + 1) j) (levels_parts (j + 1) count) ∙
    ap (λ (ts : List Token). tokens_at place (level_parts (j + 1) j) ++ ts) (levels_told (place + length (text_of (level_parts (j + 1) j))) (j + 1) count)

-- where f0, f1 and main begin
abbrev pub first_place : ℕ
first_place = length (text_of class_parts)

abbrev pub levels_place : ℕ
levels_place = first_place + length (text_of first_parts)

abbrev pub main_place : ℕ → ℕ
main_place n = levels_place + length (text_of (levels_parts 0 n))

abbrev pub all_tokens : ℕ → List Token
all_tokens n = tokens_at 0 class_parts ++ (tokens_at first_place first_parts ++ (levels_tokens levels_place 0 n ++ tokens_at (main_place n) (main_parts n)))

all_told : (n : ℕ) → tokens_at 0 (all_parts n) ≡ all_tokens n
unfolding Marks.spelling
all_told n =
    told_join 0 class_parts (behind_class n) ∙ ap (λ (ts : List Token). tokens_at 0 class_parts ++ ts) (told_join first_place first_parts (levels_parts 0 n ++ main_parts n) ∙
    ap (λ (ts : List Token). tokens_at first_place first_parts ++ ts) (told_join levels_place (levels_parts 0 n) (main_parts n) ∙
    ap (λ (ts : List Token). ts ++ tokens_at (main_place n) (main_parts n)) (levels_told levels_place 0 n)))

levels_count : (place j count : ℕ) → length (levels_tokens place j count) ≡ 31 * count
levels_count place j zero = refl
levels_count place j (suc count) =
    let size = length-append (tokens_at place (level_parts (j + 1) j)) (levels_tokens (place + length (text_of (level_parts (j + 1) j))) (j + 1) count) in
    let more = levels_count (place + length (text_of (level_parts (j + 1) j))) (j + 1) count in
    let one : length (tokens_at place (level_parts (j + 1) j)) ≡ 31 = refl in omega (arith, size, more, one)

pub token_count : (n : ℕ) → length (all_tokens n) ≡ 31 * n + 73
token_count n =
    let main = tokens_at (main_place n) (main_parts n) in
    let levels = levels_tokens levels_place 0 n in
    let a = length-append (tokens_at 0 class_parts) (tokens_at first_place first_parts ++ (levels ++ main)) in
    let b = length-append (tokens_at first_place first_parts) (levels ++ main) in
    let c = length-append levels main in
    let more = levels_count levels_place 0 n in
    let x : length (tokens_at 0 class_parts) ≡ 30 = refl in
    let y : length (tokens_at first_place first_parts) ≡ 15 = refl in
    let z : length main ≡ 28 = refl in omega (arith, a, b, c, more, x, y, z)

pub lexed : (n : ℕ) → n ≤ 2000 → Lex (generated n) (all_tokens n)
lexed n few = let size = token_count n in record {
  parts = all_parts n;
  covered = all_text n;
  stand = all_stand n few;
  told = all_told n;
  few = omega (arith, few, size);
}
