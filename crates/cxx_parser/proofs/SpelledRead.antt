-- Declarations that are spelled are read, and so is any beginning of them.
use Rattle.std.specs.Prelude.{ℕ, ◌≡◌, ◌≤◌, List, [], ◌∷◌, ◌++◌, Some, map, length, refl}
use Rattle.std.proofs.Common.{◌∙◌, arith}
use Rattle.cxx_ast.specs.declared.token.Token.{Token}
use Rattle.cxx_ast.specs.Depth.{depth}
use Rattle.cxx_ast.specs.Grammatical.{Each, IsGrammatical}
use Rattle.cxx_ast.specs.Piece.{Piece, Fit, Begin}
use Rattle.cxx_ast.specs.Written.{Written, declared, spell_declarations}
use Rattle.cxx_parser.specs.States.{State, want_declaration}
use Rattle.cxx_parser.proofs.Past.{Past, run_out, gone_on}
use Rattle.cxx_parser.proofs.ReadsDeclarations.{reads_declarations}
use Rattle.cxx_parser.proofs.Runs.{runs}

-- what fits pieces has as many tokens, and begins them
pub fit_length : (ts : List Token) (x : List Piece) → Fit ts x → length ts ≡ length x
fit_length [] [] f = refl
fit_length [] (p ∷ x) f = absurd f
fit_length (t ∷ ts) [] f = absurd f
fit_length (t ∷ ts) (p ∷ x) f = let l = fit_length ts x f.1 in omega (arith, l)

pub fit_begins : (a b : List Token) (x : List Piece) → Fit (a ++ b) x → Begin a x
fit_begins [] b x f = tt
fit_begins (t ∷ a) b [] f = absurd f
fit_begins (t ∷ a) b (p ∷ x) f = (f.0, fit_begins a b x f.1)

pub begin_begins : (a b : List Token) (x : List Piece) → Begin (a ++ b) x → Begin a x
begin_begins [] b x f = tt
begin_begins (t ∷ a) b [] f = absurd f
begin_begins (t ∷ a) b (p ∷ x) f = (f.0, begin_begins a b x f.1)

pub fit_begun : (ts : List Token) (x : List Piece) → Fit ts x → Begin ts x
fit_begun [] x f = tt
fit_begun (t ∷ ts) [] f = absurd f
fit_begun (t ∷ ts) (p ∷ x) f = (f.0, fit_begun ts x f.1)

-- where nothing is left, nothing happens
nothing_left : (limit n : ℕ) (ts : List Token) (s : State) → Begin ts [] → runs limit n ts s ≡ Some s
nothing_left limit n [] s f = refl
nothing_left limit n (t ∷ ts) s f = absurd f

-- tokens that begin declarations lead to a state
pub begun_runs : (limit : ℕ) (ts : List Token) (ws : List Written) → Each IsGrammatical ws → depth (map declared ws) ≤ limit → Begin ts (spell_declarations ws []) → (s : State) × (runs limit 0 ts (want_declaration []) ≡ Some s)
begun_runs limit ts ws g l f =
    go ((reads_declarations limit (length (spell_declarations ws [])) ws g [] l).past 0 ts (omega arith) f)
  where
    go : Past limit (length (spell_declarations ws [])) 0 ts (want_declaration []) (spell_declarations ws []) [] (want_declaration (map declared ws)) → (s : State) × (runs limit 0 ts (want_declaration []) ≡ Some s)
    go (run_out u) = (u.state, u.reached)
    go (gone_on p) = (want_declaration (map declared ws), p.same ∙ nothing_left limit p.count p.rest (want_declaration (map declared ws)) p.begun)

-- declarations that are spelled are read
pub spelled_runs : (limit : ℕ) (ts : List Token) (ws : List Written) → Each IsGrammatical ws → depth (map declared ws) ≤ limit → Fit ts (spell_declarations ws []) → runs limit 0 ts (want_declaration []) ≡ Some (want_declaration (map declared ws))
spelled_runs limit ts ws g l f =
    go ((reads_declarations limit (length (spell_declarations ws [])) ws g [] l).past 0 ts (omega arith) (fit_begun ts (spell_declarations ws []) f))
  where
    go : Past limit (length (spell_declarations ws [])) 0 ts (want_declaration []) (spell_declarations ws []) [] (want_declaration (map declared ws)) → runs limit 0 ts (want_declaration []) ≡ Some (want_declaration (map declared ws))
    go (run_out u) = let m = fit_length ts (spell_declarations ws []) f in let k = u.short in absurd (omega (arith, m, k))
    go (gone_on p) = p.same ∙ nothing_left limit p.count p.rest (want_declaration (map declared ws)) p.begun
