-- The tree of the source.
use Rattle.std.proofs.Common.{refl, ℕ, zero, suc, ◌+◌, ◌≤◌, List, [], ◌∷◌, ◌++◌, length, map, arith}
use Rattle.cxx_ast.specs.declared.token.Token.{Token}
use Rattle.cxx_ast.specs.Depth.{depth}
use Rattle.cxx_ast.specs.Grammatical.{Each, IsGrammatical, IsFunction}
use Rattle.cxx_ast.specs.Lex.{tokens_at}
use Rattle.cxx_ast.specs.Piece.{Fit}
use Rattle.cxx_ast.specs.Plain.{Program}
use Rattle.cxx_ast.specs.Tree.{Tree}
use Rattle.cxx_ast.specs.Written.{Written, written_function, declared, spell_declarations}
use Rattle.gen_source.specs.Source.{generated}
use Rattle.gen_source.proofs.Parts.{class_parts, first_parts, level_parts, main_parts}
use Rattle.gen_source.proofs.Lexed.{levels_tokens, all_tokens, first_place, levels_place, main_place}
use Rattle.gen_source.proofs.Trees.{class_written, constructor, destructor, first_written, first_tree, level_function, level_tree, levels_written, next_place, main_function, main_tree, all_written}

-- ---- the tokens spell the trees
class_fits : (ts : List Token) (ws : List Written) → Fit ts (spell_declarations ws []) → Fit (tokens_at 0 class_parts ++ ts) (spell_declarations (class_written ∷ ws) [])
class_fits ts ws more = (refl, ((refl, refl), (refl, (refl, ((refl, refl), (refl, ((refl, refl), (refl, (refl, ((refl, refl), (refl, (refl, ((refl, refl), (refl, ((refl, refl), (refl, (refl, (refl, ((refl, refl), (refl, (refl, (refl, ((refl, refl), (refl, ((refl, refl), (refl, (refl, (refl, (refl, (refl, more))))))))))))))))))))))))))))))

first_fits : (ts : List Token) (ws : List Written) → Fit ts (spell_declarations ws []) → Fit (tokens_at first_place first_parts ++ ts) (spell_declarations (first_written ∷ ws) [])
first_fits ts ws more = (refl, ((refl, refl), (refl, (refl, (refl, ((refl, refl), ((refl, refl), (refl, (refl, (refl, (refl, (refl, (refl, (refl, (refl, more)))))))))))))))

level_fits : (place j : ℕ) (ts : List Token) (ws : List Written) → Fit ts (spell_declarations ws []) →
    Fit (tokens_at place (level_parts (j + 1) j) ++ ts) (spell_declarations (written_function (level_function place j) ∷ ws) [])
level_fits place j ts ws more = (refl, ((refl, refl), (refl, (refl, (refl, ((refl, refl), ((refl, refl), (refl, (refl, (refl, (refl, (refl, (refl, ((refl, refl), (refl, (refl, (refl, (refl, (refl, (refl, (refl, ((refl, refl), (refl, (refl, (refl, ((refl, refl), (refl, (refl, (refl, (refl, (refl, more)))))))))))))))))))))))))))))))

main_fits : (place n : ℕ) → Fit (tokens_at place (main_parts n)) (spell_declarations (written_function (main_tree (tokens_at place (main_parts n)) n) ∷ []) [])
main_fits place n = (refl, ((refl, refl), (refl, (refl, (refl, (refl, (refl, ((refl, refl), (refl, (refl, (refl, (refl, (refl, (refl, (refl, ((refl, refl), (refl, (refl, ((refl, refl), (refl, ((refl, refl), (refl, (refl, (refl, (refl, (refl, (refl, (refl, tt))))))))))))))))))))))))))))

levels_fit : (place j count : ℕ) (ts : List Token) (ws : List Written) → Fit ts (spell_declarations ws []) →
    Fit (levels_tokens place j count ++ ts) (spell_declarations (levels_written place j count ws) [])
levels_fit place j zero ts ws more = more
levels_fit place j (suc count) ts ws more =
    level_fits place j (levels_tokens (next_place place j) (j + 1) count ++ ts) (levels_written (next_place place j) (j + 1) count ws) (levels_fit (next_place place j) (j + 1) count ts ws more)

all_fit : (n : ℕ) → Fit (all_tokens n) (spell_declarations (all_written n) [])
all_fit n =
    let main = tokens_at (main_place n) (main_parts n) in
    let ws = written_function (main_function n) ∷ [] in
    class_fits (tokens_at first_place first_parts ++ (levels_tokens levels_place 0 n ++ main)) (first_written ∷ levels_written levels_place 0 n ws)
    (first_fits (levels_tokens levels_place 0 n ++ main) (levels_written levels_place 0 n ws) (levels_fit levels_place 0 n main ws (main_fits (main_place n) n)))

-- ---- they are what the grammar makes
constructor_made : (ts : List Token) → IsFunction (constructor ts)
constructor_made ts = record { form = (refl, tt); parameters = (tt, tt); specification = tt; initialisers = tt; body = ((tt, tt), tt); tokens = refl }

destructor_made : (ts : List Token) → IsFunction (destructor ts)
destructor_made ts = record { form = (refl, refl, refl, tt); parameters = tt; specification = tt; initialisers = tt; body = (((tt, (tt, tt)), tt), tt); tokens = refl }

class_made : IsGrammatical class_written
class_made = ((tt, tt), ((constructor_made (tokens_at 0 class_parts), tt), ((destructor_made (tokens_at 0 class_parts), tt), tt)))

first_made : (ts : List Token) → IsFunction (first_tree ts)
first_made ts = record { form = (tt, refl); parameters = tt; specification = tt; initialisers = tt; body = ((tt, tt), (tt, tt)); tokens = refl }

level_made : (ts : List Token) (i j : ℕ) → IsFunction (level_tree ts i j)
level_made ts i j = record {
  form = (tt, refl);
  parameters = tt;
  specification = tt;
  initialisers = tt;
  body = ((tt, tt), (((((tt, tt), tt), tt), tt, (tt, ((tt, tt, omega arith, omega arith), tt), tt)), tt));
  tokens = refl;
}

main_made : (ts : List Token) (n : ℕ) → IsFunction (main_tree ts n)
main_made ts n = record {
  form = (tt, refl);
  parameters = tt;
  specification = tt;
  initialisers = tt;
  body = (((((tt, tt), tt), tt), tt, (tt, (((tt, (tt, tt)), tt), tt), tt)), (tt, tt));
  tokens = refl;
}

levels_made : (place j count : ℕ) (ws : List Written) → Each IsGrammatical ws → Each IsGrammatical (levels_written place j count ws)
levels_made place j zero ws more = more
levels_made place j (suc count) ws more =
    ((level_made (tokens_at place (level_parts (j + 1) j)) (j + 1) j, refl), levels_made (next_place place j) (j + 1) count ws more)

all_made : (n : ℕ) → Each IsGrammatical (all_written n)
all_made n = (
  class_made,
  (
    (first_made (tokens_at first_place first_parts), refl),
    levels_made levels_place 0 n (written_function (main_function n) ∷ []) ((main_made (tokens_at (main_place n) (main_parts n)) n, refl), tt),
  ),
)

-- ---- they are not too deep
levels_depth : (place j count : ℕ) (ws : List Written) → depth (map declared ws) ≤ 64 → depth (map declared (levels_written place j count ws)) ≤ 64
levels_depth place j zero ws shallow = shallow
levels_depth place j (suc count) ws shallow = let more = levels_depth (next_place place j) (j + 1) count ws shallow in omega (arith, more)

all_depth : (n : ℕ) → depth (map declared (all_written n)) ≤ 64
all_depth n = let more = levels_depth levels_place 0 n (written_function (main_function n) ∷ []) (omega arith) in omega (arith, more)

-- ---- the program
abbrev pub program : ℕ → Program
program n = record { declarations = map declared (all_written n); tokens = length (all_tokens n); length = length (generated n) }

pub parsed : (n : ℕ) → Tree (all_tokens n) (length (generated n)) (program n)
parsed n = record {
  written = all_written n;
  declarations = refl;
  grammatical = all_made n;
  spelled = all_fit n;
  depth = all_depth n;
  tokens_counted = refl;
  length_kept = refl;
}
