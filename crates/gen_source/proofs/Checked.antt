-- The source breaks no rule.
use Rattle.std.proofs.Common.{◌≡◌, ◌∙◌, refl, sym, ap, subst, ℕ, zero, suc, ◌+◌, ◌<◌, ◌≤◌, ◌||◌, nat_lt, true, false, List, [], ◌∷◌, ◌++◌, map, length, bytes_eq, append-nil, arith}
use Rattle.std.specs.Prelude.{codes, flat_map, not}
use Rattle.std.specs.Fmt.{decimal}
use Rattle.std.specs.List.{AllByRecursion}
use Rattle.std.proofs.lemmas.Bool.Decides.{nat_tests}
use Rattle.cxx_ast.specs.declared.name.Name.{Name}
use Rattle.cxx_ast.specs.declared.name.Bound.TheVariants.{Free}
use Rattle.cxx_ast.specs.declared.standard.Std.TheVariants.{Cxx03}
use Rattle.cxx_ast.specs.Broken.{broken, pairs, used_found, declaration_found, declarations_found, has_main}
use Rattle.cxx_ast.specs.ClassRules.{stands_before}
use Rattle.cxx_ast.specs.Declare.{definitions, declare_behind}
use Rattle.cxx_ast.specs.DeclaredNames.{names_declared, class_names, once_found, once_only_found}
use Rattle.cxx_ast.specs.Environment.{Entry, Environment, Signature}
use Rattle.cxx_ast.specs.Finding.{Finding, breaks, uses, breaks_if}
use Rattle.cxx_ast.specs.FunctionRules.{has_text}
use Rattle.cxx_ast.specs.Plain.{function_declaration}
use Rattle.cxx_ast.specs.Standards.{noexcepts_found, standard_found}
use Rattle.cxx_ast.specs.Written.{Written, written_function, declared}
use Rattle.cxx_lexer.proofs.ByteTests.{bytes_eq_self, or_true}
use Rattle.gen_source.specs.Laws.{SourcesAreValid}
use Rattle.gen_source.proofs.Lexed.{all_tokens, levels_place, main_place, lexed, token_count}
use Rattle.cxx_ast.specs.Lex.{tokens_at}
use Rattle.gen_source.specs.Source.{generated}
use Rattle.gen_source.proofs.Parts.{main_parts}
use Rattle.gen_source.proofs.Trees.{place_at, class_written, first_written, level_function, levels_written, next_place, main_function, all_written}
use Rattle.gen_source.proofs.Parsed.{program, parsed}
use Rattle.gen_source.proofs.Levels.{start, known, entry, class_sound, class_behind, first_sound, first_behind, first_names, first_sigs, level_sig, level_sound, level_behind, main_sig, main_sound}
use Rattle.gen_source.proofs.Sizes.{is_short}
use Rattle.gen_source.proofs.Names.{Knows, knows_first, knows_next, found_front, found_behind}

-- ---- what is found is that defined functions are used
abbrev pub IsUse : List (List ℕ) → Finding → Type 0
IsUse defined (breaks number place) = ⊥
IsUse defined (uses n) = has_text n.text defined ≡ true

no_pairs : (defined : List (List ℕ)) (found : List Finding) → AllByRecursion (IsUse defined) found → pairs defined found ≡ []
no_pairs defined [] all = refl
no_pairs defined (breaks number place ∷ found) all = absurd all.0
no_pairs defined (uses n ∷ found) all = ap (λ (xs : List (ℕ × ℕ)). xs ++ pairs defined found) (unused n all.0) ∙ no_pairs defined found all.1
  where
    unused : (n : Name) → has_text n.text defined ≡ true → used_found defined n ≡ []
    unused n h = rw h refl

uses_both : (defined : List (List ℕ)) (xs ys : List Finding) → AllByRecursion (IsUse defined) xs → AllByRecursion (IsUse defined) ys → AllByRecursion (IsUse defined) (xs ++ ys)
uses_both defined [] ys a b = b
uses_both defined (x ∷ xs) ys a b = (a.0, uses_both defined xs ys a.1 b)

-- ---- each function in turn
abbrev pub Sound : List (List ℕ) → Environment → List Written → Type 0
Sound defined env ws = AllByRecursion (IsUse defined) (declarations_found env (map declared ws))

-- the functions up to number n are defined
abbrev pub AreDefined : List (List ℕ) → ℕ → Type 0
AreDefined defined n = (j : ℕ) → j ≤ n → has_text (102 ∷ decimal j) defined ≡ true

used : (defined : List (List ℕ)) (found : List Finding) (s : Signature) (j : ℕ) → found ≡ uses s.name ∷ [] → s.name.text ≡ 102 ∷ decimal j → has_text (102 ∷ decimal j) defined ≡ true → AllByRecursion (IsUse defined) found
used defined found s j is called there =
    subst (λ (fs : List Finding). AllByRecursion (IsUse defined) fs) (sym is) (subst (λ (t : List ℕ). has_text t defined ≡ true) (sym called) there, tt)

levels_sound : (defined : List (List ℕ)) (n place j count : ℕ) (ws : List Written) (names : List Entry) (sigs : List Signature) → n ≡ j + count → n ≤ 2000 → AreDefined defined n → Knows names sigs j →
    ((names' : List Entry) (sigs' : List Signature) → Knows names' sigs' n → Sound defined (known defined names' sigs') ws) →
    Sound defined (known defined names sigs) (levels_written place j count ws)
levels_sound defined n place j zero ws names sigs total few all h last = last names sigs (subst (λ (k : ℕ). Knows names sigs k) (sym (total ∙ omega arith)) h)
levels_sound defined n place j (suc count) ws names sigs total few all h last =
    let names' = names ++ (entry (102 ∷ decimal (j + 1)) ∷ []) in
    let sigs' = sigs ++ (level_sig place j ∷ []) in
    let env = known defined names sigs in
    let d = function_declaration (level_function place j) in
    let fresh = h.fresh (j + 1) (omega arith) (omega (arith, total, few)) in
    let here = found_front (λ e. bytes_eq e.text (102 ∷ decimal j)) names (entry (102 ∷ decimal (j + 1)) ∷ []) (entry (102 ∷ decimal j)) h.here in
    let there = found_front (λ s. bytes_eq s.name.text (102 ∷ decimal j)) sigs (level_sig place j ∷ []) h.sig h.there in
    let one = used defined (declaration_found env d) h.sig j (level_sound defined names sigs place j h.sig fresh here there h.none) h.called (all j (omega (arith, total))) in
    let more = levels_sound defined n (next_place place j) (j + 1) count ws names' sigs' (omega (arith, total)) few all (knows_next names sigs place j (omega (arith, total, few)) h) last in
    uses_both defined (declaration_found env d) (declarations_found (declare_behind env d) (map declared (levels_written (next_place place j) (j + 1) count ws))) one
    (subst (λ (e : Environment). Sound defined e (levels_written (next_place place j) (j + 1) count ws)) (sym (level_behind defined names sigs place j fresh)) more)

main_last : (defined : List (List ℕ)) (n : ℕ) → AreDefined defined n → (names : List Entry) (sigs : List Signature) → Knows names sigs n → Sound defined (known defined names sigs) (written_function (main_function n) ∷ [])
main_last defined n all names sigs h =
    let env = known defined names sigs in
    let d = function_declaration (main_function n) in
    let here = found_front (λ e. bytes_eq e.text (102 ∷ decimal n)) names (entry (codes "main") ∷ []) (entry (102 ∷ decimal n)) h.here in
    let there = found_front (λ s. bytes_eq s.name.text (102 ∷ decimal n)) sigs (main_sig n ∷ []) h.sig h.there in
    let free = found_behind (λ e. bytes_eq e.text (codes "write_int")) names (entry (codes "main") ∷ []) h.no_write in
    uses_both defined (declaration_found env d) [] (used defined (declaration_found env d) h.sig n (main_sound defined names sigs n h.sig h.no_main here there h.none free) h.called (all n (omega arith))) tt

all_sound : (defined : List (List ℕ)) (n : ℕ) → n ≤ 2000 → AreDefined defined n → Sound defined (start defined) (all_written n)
all_sound defined n few all =
    let ws = levels_written levels_place 0 n (written_function (main_function n) ∷ []) in
    let levels = levels_sound defined n levels_place 0 n (written_function (main_function n) ∷ []) first_names first_sigs (omega arith) few all knows_first (main_last defined n all) in
    let first = uses_both defined (declaration_found (known defined [] []) (declared first_written)) _ (subst (λ (fs : List Finding). AllByRecursion (IsUse defined) fs) (sym (first_sound defined)) tt)
    (subst (λ (e : Environment). Sound defined e ws) (sym (first_behind defined)) levels) in
    uses_both defined (declaration_found (start defined) (declared class_written)) _ (subst (λ (fs : List Finding). AllByRecursion (IsUse defined) fs) (sym (class_sound defined)) tt)
    (subst (λ (e : Environment). Sound defined e (first_written ∷ ws)) (sym (class_behind defined)) first)

-- ---- which functions are defined
abbrev pub defined_by : List Written → List (List ℕ)
defined_by ws = definitions (map declared ws)

levels_defined : (place j count i : ℕ) (ws : List Written) → i < count → has_text (102 ∷ decimal (j + 1 + i)) (defined_by (levels_written place j count ws)) ≡ true
levels_defined place j zero i ws less = absurd (omega (arith, less))
levels_defined place j (suc count) zero ws less =
    let same : j + 1 + 0 ≡ j + 1 = omega arith in
    ap (λ (k : ℕ). has_text (102 ∷ decimal k) (defined_by (levels_written place j (suc count) ws))) same ∙ rw (bytes_eq_self (decimal (j + 1))) refl
levels_defined place j (suc count) (suc i) ws less =
    let more = levels_defined (next_place place j) (j + 1) count i ws (omega (arith, less)) in
    let same : j + 1 + suc i ≡ j + 1 + 1 + i = omega arith in
    ap (λ (k : ℕ). has_text (102 ∷ decimal k) (defined_by (levels_written place j (suc count) ws))) same ∙
    ap (λ b. bytes_eq (decimal (j + 1)) (decimal (j + 1 + 1 + i)) || b) more ∙ or_true (bytes_eq (decimal (j + 1)) (decimal (j + 1 + 1 + i)))

all_defined : (n : ℕ) → AreDefined (defined_by (all_written n)) n
all_defined n zero few = rw (bytes_eq_self (decimal 0)) refl
all_defined n (suc j) few =
    let more = levels_defined levels_place 0 n j (written_function (main_function n) ∷ []) (omega (arith, few)) in
    let same : suc j ≡ 0 + 1 + j = omega arith in
    ap (λ (k : ℕ). has_text (102 ∷ decimal k) (defined_by (all_written n))) same ∙
    ap (λ b. bytes_eq (decimal 0) (decimal (0 + 1 + j)) || b) more ∙ or_true (bytes_eq (decimal 0) (decimal (0 + 1 + j)))

-- ---- names that are declared once only
abbrev pub names_by : List Written → List Name
names_by ws = flat_map names_declared (map declared ws)

abbrev special : List (List ℕ)
special = codes "main" ∷ codes "A" ∷ []

levels_classes : (place j count : ℕ) (ws : List Written) → class_names (map declared (levels_written place j count ws)) ≡ class_names (map declared ws)
levels_classes place j zero ws = refl
levels_classes place j (suc count) ws = levels_classes (next_place place j) (j + 1) count ws

levels_once : (all : List Name) (place j count : ℕ) (ws : List Written) → once_found special all (names_by (levels_written place j count ws)) ≡ once_found special all (names_by ws)
levels_once all place j zero ws = refl
levels_once all place j (suc count) ws = levels_once all (next_place place j) (j + 1) count ws

levels_no_class : (at : ℕ) (place j count : ℕ) (ws : List Written) → stands_before (names_by (levels_written place j count ws)) (record { text = codes "A"; place = at; bound = Free }) ≡ stands_before (names_by ws) (record { text = codes "A"; place = at; bound = Free })
levels_no_class at place j zero ws = refl
levels_no_class at place j (suc count) ws = levels_no_class at (next_place place j) (j + 1) count ws

levels_no_main : (at : ℕ) (place j count : ℕ) (ws : List Written) → stands_before (names_by (levels_written place j count ws)) (record { text = codes "main"; place = at; bound = Free }) ≡ stands_before (names_by ws) (record { text = codes "main"; place = at; bound = Free })
levels_no_main at place j zero ws = refl
levels_no_main at place j (suc count) ws = levels_no_main at (next_place place j) (j + 1) count ws

not_before : (place : ℕ) → nat_lt place place ≡ false
not_before place = grind (arith, nat_tests)

-- ---- main is there
levels_main : (place j count : ℕ) (ws : List Written) → has_main (map declared (levels_written place j count ws)) ≡ has_main (map declared ws)
levels_main place j zero ws = refl
levels_main place j (suc count) ws = levels_main (next_place place j) (j + 1) count ws

main_there : (n : ℕ) → has_main (map declared (all_written n)) ≡ true
main_there n = levels_main levels_place 0 n (written_function (main_function n) ∷ [])

-- ---- once only, and all
main_alone : (n : ℕ) → once_found special (names_by (all_written n)) (names_by (written_function (main_function n) ∷ [])) ≡ []
main_alone n =
    let at = place_at 1 (tokens_at (main_place n) (main_parts n)) in
    rw (levels_no_main at levels_place 0 n (written_function (main_function n) ∷ []), not_before at) refl

all_once : (n : ℕ) → once_only_found (map declared (all_written n)) ≡ []
all_once n =
    let all = names_by (all_written n) in
    let last = written_function (main_function n) ∷ [] in
    ap (λ (classes : List (List ℕ)). once_found (codes "main" ∷ codes "A" ∷ classes) all all) (levels_classes levels_place 0 n last) ∙
    rw (levels_no_class 7 levels_place 0 n last) (levels_once all levels_place 0 n last ∙ main_alone n)

-- ---- no specification
levels_without : (place j count : ℕ) (ws : List Written) → flat_map noexcepts_found (map declared (levels_written place j count ws)) ≡ flat_map noexcepts_found (map declared ws)
levels_without place j zero ws = refl
levels_without place j (suc count) ws = levels_without (next_place place j) (j + 1) count ws

all_without : (n : ℕ) → standard_found Cxx03 (map declared (all_written n)) ≡ []
all_without n = levels_without levels_place 0 n (written_function (main_function n) ∷ [])

nothing_broken : (n : ℕ) → n ≤ 2000 → broken Cxx03 (program n) ≡ []
unfolding broken
nothing_broken n few =
    let ds = map declared (all_written n) in
    let found = declarations_found (start (definitions ds)) ds in
    let main = breaks_if (not (has_main ds)) 38 (length (generated n)) in
    ap (λ (fs : List Finding). pairs (definitions ds) (found ++ once_only_found ds ++ main ++ fs)) (all_without n) ∙
    ap (pairs (definitions ds)) (append-nil (found ++ once_only_found ds ++ main)) ∙
    ap (λ (fs : List Finding). pairs (definitions ds) (found ++ fs ++ main)) (all_once n) ∙
    ap (λ b. pairs (definitions ds) (found ++ [] ++ breaks_if (not b) 38 (length (generated n)))) (main_there n) ∙
    ap (pairs (definitions ds)) (append-nil (found ++ [])) ∙ ap (pairs (definitions ds)) (append-nil found) ∙
    no_pairs (definitions ds) found (all_sound (definitions ds) n few (all_defined n))

pub sources_are_valid : SourcesAreValid
sources_are_valid n few = record {
  tokens = all_tokens n;
  program = program n;
  lexed = lexed n few;
  tree = parsed n;
  valid = nothing_broken n few;
  counted = token_count n;
  short = is_short n few;
}
