-- What a list of tokens is read as.
use Rattle.std.specs.Prelude.{ℕ, ◌+◌, ◌-◌, ◌≡◌, ◌≤◌, Bool, true, false, List, [], ◌∷◌, None, Some, Ok, Err, nat_lt, map, length, refl, if◌then◌else◌}
use Rattle.std.proofs.Common.{ap, sym, ◌∙◌, subst, arith}
use Rattle.cxx_ast.specs.declared.token.Token.{Token}
use Rattle.cxx_ast.specs.Depth.{depth}
use Rattle.cxx_ast.specs.Limits.{most_depth}
use Rattle.cxx_ast.specs.Plain.{Program, Declaration}
use Rattle.cxx_ast.specs.Tree.{Tree}
use Rattle.cxx_ast.specs.Written.{declared}
use Rattle.cxx_parser.specs.Reading.{Answer, too_deep, feed, finished, read, reading}
use Rattle.cxx_parser.specs.States.{State, want_declaration, Step, stops, leads, within}
use Rattle.cxx_parser.proofs.Outcomes.{Ended, at_end, at_token, at_depth, read_ends}
use Rattle.cxx_parser.proofs.SpelledRead.{spelled_runs}
use Rattle.cxx_parser.proofs.Runs.{passed, runs, goes, state_same}
use Rattle.cxx_parser.proofs.Settled.{stepped}
use Rattle.cxx_parser.proofs.ReadTree.{runs_read_as}

-- a program as an answer
abbrev answer : Program → Answer
answer p = Ok p

-- a program was read where declarations may end
pub record IsFinished (total end : ℕ) (s : State) (p : Program) : Type 0 where
  pub declarations : List Declaration
  pub state : s ≡ want_declaration declarations
  pub program : record { declarations = declarations; tokens = total; length = end } ≡ p

same_program : (p q : Program) → answer p ≡ answer q → p ≡ q
same_program p q e = cc

finished_is : (total end : ℕ) (s : State) (p : Program) → finished total end s ≡ Ok p → IsFinished total end s p
finished_is total end (want_declaration ds) p e = record { declarations = ds; state = refl; program = same_program (record { declarations = ds; tokens = total; length = end }) p e }
finished_is total end _ p e = cc

-- what is read is a tree of the tokens
pub reading_tree : (tokens : List Token) (end : ℕ) (p : Program) → reading tokens end ≡ Ok p → Tree tokens end p
reading_tree tokens end p e = go (read_ends tokens 0 (length tokens) end (want_declaration []) (omega arith))
  where
    go : Ended 0 tokens (want_declaration []) (length tokens) end (reading tokens end) → Tree tokens end p
    go (at_token u) = cc (e, u.answer)
    go (at_depth u) = cc (e, u.answer)
    go (at_end u) =
        let f = finished_is (length tokens) end u.state p (sym u.answer ∙ e) in
        let t = runs_read_as most_depth (omega arith) tokens f.declarations (u.reached ∙ ap Some f.state) in
        record {
          written = t.written;
          declarations = t.declarations ∙ ap (λ q. q.declarations) f.program;
          grammatical = t.grammatical;
          spelled = t.spelled;
          depth = subst (λ (q : Program). depth q.declarations ≤ most_depth) f.program t.shallow;
          tokens_counted = sym (ap (λ q. q.tokens) f.program);
          length_kept = sym (ap (λ q. q.length) f.program);
        }

-- tokens that lead to a state are read so
reads_on : (n : ℕ) (t : Token) (ts : List Token) (total end : ℕ) (s last : State) → ((next : State) → runs most_depth (n + 1) ts next ≡ Some last → read total end ts next ≡ finished total end last) → (x : Step) → goes most_depth (n + 1) ts (passed most_depth x) ≡ Some last → stepped total end t ts x ≡ finished total end last
reads_on n t ts total end s last h stops e = cc
reads_on n t ts total end s last h (leads next) e = h next e
reads_on n t ts total end s last h (within d next) e = go (nat_lt most_depth d) e
  where
    go : (b : Bool) → goes most_depth (n + 1) ts (if b then None else Some next) ≡ Some last → (if b then Err (too_deep t.place) else read total end ts next) ≡ finished total end last
    go true f = cc
    go false f = h next f

runs_read : (ts : List Token) (n total end : ℕ) (s last : State) → total ≡ n + length ts → runs most_depth n ts s ≡ Some last → read total end ts s ≡ finished total end last
unfolding read
runs_read [] n total end s last i e = ap (finished total end) (state_same s last e)
runs_read (t ∷ ts) n total end s last i e =
    let at : n ≡ total - length (t ∷ ts) = omega (arith, i) in
    subst (λ (m : ℕ). stepped total end t ts (feed m t s) ≡ finished total end last) at
    (reads_on n t ts total end s last (λ next f. runs_read ts (n + 1) total end next last (omega (arith, i)) f) (feed n t s) e)

-- tokens with a tree are read as just that
pub tree_read : (tokens : List Token) (end : ℕ) (p : Program) → Tree tokens end p → reading tokens end ≡ Ok p
tree_read tokens end p t =
    let l : depth (map declared t.written) ≤ most_depth = subst (λ (ds : List Declaration). depth ds ≤ most_depth) (sym t.declarations) t.depth in
    let e = spelled_runs most_depth tokens t.written t.grammatical l t.spelled in
    runs_read tokens 0 (length tokens) end (want_declaration []) (want_declaration (map declared t.written)) (omega arith) e
    ∙ ap (λ (ds : List Declaration). answer (record { declarations = ds; tokens = length tokens; length = end })) t.declarations
    ∙ ap (λ (n : ℕ). answer (record { declarations = p.declarations; tokens = n; length = end })) (sym t.tokens_counted)
    ∙ ap (λ (n : ℕ). answer (record { declarations = p.declarations; tokens = p.tokens; length = n })) (sym t.length_kept)
