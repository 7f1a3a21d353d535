-- Which tokens some program begins with: those that lead to a state.
use Rattle.std.specs.Prelude.{ℕ, zero, suc, ◌+◌, ◌≡◌, ◌≤◌, ◌<◌, max, true, List, [], ◌∷◌, ◌++◌, None, Some, nat_lt, take, slice_get, length, refl}
use Rattle.std.proofs.Common.{ap, sym, ◌∙◌, subst, arith}
use Rattle.std.proofs.lemmas.Bool.Decides.{nat_tests}
use Rattle.cxx_ast.specs.declared.token.Token.{Token}
use Rattle.cxx_ast.specs.Depth.{depth}
use Rattle.cxx_ast.specs.Limits.{most_depth}
use Rattle.cxx_ast.specs.Piece.{Piece, Begin}
use Rattle.cxx_ast.specs.Plain.{Declaration}
use Rattle.cxx_ast.specs.Tree.{IsViableWithin, IsViable}
use Rattle.cxx_ast.specs.Written.{spell_declarations}
use Rattle.cxx_parser.specs.Reading.{feed}
use Rattle.cxx_parser.specs.States.{State, stops, within, want_declaration}
use Rattle.cxx_parser.proofs.EndsStates.{completed}
use Rattle.cxx_parser.proofs.ReadTree.{runs_sound, runs_read_as}
use Rattle.cxx_parser.proofs.Runs.{passed, runs, goes, passes, runs_append, runs_higher}
use Rattle.cxx_parser.proofs.SpelledRead.{fit_begins, begun_runs}

-- nothing was read
abbrev pub at_the_start : State
at_the_start = want_declaration []

-- where tokens lead to a state, some program begins with them that is no deeper than the limit
pub reached_viable : (limit : ℕ) → 2 ≤ limit → (ts : List Token) (s : State) → runs limit 0 ts at_the_start ≡ Some s → IsViableWithin limit ts
reached_viable limit big ts s e =
    let g = runs_sound limit big ts 0 at_the_start s tt e in
    let c = completed limit s g (0 + length ts) in
    let whole : runs limit 0 (ts ++ c.tokens) at_the_start ≡ Some (want_declaration c.declarations) = runs_append limit 0 ts c.tokens at_the_start ∙ ap (goes limit (0 + length ts) c.tokens) e ∙ c.same in
    let t = runs_read_as limit big (ts ++ c.tokens) c.declarations whole in
    record {
      written = t.written;
      grammatical = t.grammatical;
      shallow = subst (λ (ds : List Declaration). depth ds ≤ limit) (sym t.declarations) t.shallow;
      begun = fit_begins ts c.tokens (spell_declarations t.written []) t.spelled;
    }

-- and the other way round
pub viable_reached : (limit : ℕ) (ts : List Token) → IsViableWithin limit ts → (s : State) × (runs limit 0 ts at_the_start ≡ Some s)
viable_reached limit ts v = begun_runs limit ts v.written v.grammatical v.shallow v.begun

-- a token more
one_more : (limit : ℕ) (before : List Token) (t : Token) (s : State) → runs limit 0 before at_the_start ≡ Some s → runs limit 0 (before ++ (t ∷ [])) at_the_start ≡ goes limit (0 + length before + 1) [] (passed limit (feed (0 + length before) t s))
one_more limit before t s e = runs_append limit 0 before (t ∷ []) at_the_start ∙ ap (goes limit (0 + length before) (t ∷ [])) e

none_some : (s : State) → None ≡ Some s → ⊥
none_some s e = cc

-- behind a token that does not fit no program goes on
pub stopped_not_viable : (before : List Token) (t : Token) (s : State) → runs most_depth 0 before at_the_start ≡ Some s → feed (0 + length before) t s ≡ stops → IsViable (before ++ (t ∷ [])) → ⊥
stopped_not_viable before t s e f (limit, v) =
    let high : ℕ = max limit most_depth in
    let r = viable_reached limit (before ++ (t ∷ [])) v in
    let h = runs_higher limit high 0 (before ++ (t ∷ [])) at_the_start r.0 (omega arith) r.1 in
    let b = runs_higher most_depth high 0 before at_the_start s (omega arith) e in
    none_some r.0 (sym (one_more high before t s b ∙ ap (λ x. goes high (0 + length before + 1) [] (passed high x)) f) ∙ h)

-- behind one that leads too deep no program does that is not
pub sunk_not_viable : (before : List Token) (t : Token) (s deeper : State) (d : ℕ) → runs most_depth 0 before at_the_start ≡ Some s → feed (0 + length before) t s ≡ within d deeper → most_depth < d → IsViableWithin most_depth (before ++ (t ∷ [])) → ⊥
sunk_not_viable before t s deeper d e f l v =
    let r = viable_reached most_depth (before ++ (t ∷ [])) v in
    let deep : nat_lt most_depth d ≡ true = grind (arith, nat_tests) in
    let nothing : passed most_depth (within d deeper) ≡ None = rw deep refl in
    none_some r.0 (sym (one_more most_depth before t s e ∙ ap (λ x. goes most_depth (0 + length before + 1) [] (passed most_depth x)) f ∙ ap (goes most_depth (0 + length before + 1) []) nothing) ∙ r.1)

-- but deeper ones do
pub sunk_viable : (before : List Token) (t : Token) (s deeper : State) (d : ℕ) → runs most_depth 0 before at_the_start ≡ Some s → feed (0 + length before) t s ≡ within d deeper → most_depth < d → IsViableWithin d (before ++ (t ∷ []))
sunk_viable before t s deeper d e f l =
    let b = runs_higher most_depth d 0 before at_the_start s (omega arith) e in
    reached_viable d (omega arith) (before ++ (t ∷ [])) deeper
    (one_more d before t s b ∙ ap (λ x. goes d (0 + length before + 1) [] (passed d x)) f ∙ ap (goes d (0 + length before + 1) []) (passes d d deeper (omega arith)))

-- the first of some tokens
begin_take : (i j : ℕ) (ts : List Token) (x : List Piece) → i ≤ j → Begin (take j ts) x → Begin (take i ts) x
begin_take zero j ts x l b = tt
begin_take (suc i) zero ts x l b = absurd (omega (arith, l))
begin_take (suc i) (suc j) [] x l b = tt
begin_take (suc i) (suc j) (t ∷ ts) [] l b = absurd b
begin_take (suc i) (suc j) (t ∷ ts) (p ∷ x) l b = (b.0, begin_take i j ts x (omega (arith, l)) b.1)

begin_front : (i : ℕ) (ts : List Token) (x : List Piece) → Begin ts x → Begin (take i ts) x
begin_front zero ts x b = tt
begin_front (suc i) [] x b = tt
begin_front (suc i) (t ∷ ts) [] b = absurd b
begin_front (suc i) (t ∷ ts) (p ∷ x) b = (b.0, begin_front i ts x b.1)

pub viable_take : (limit i j : ℕ) (ts : List Token) → i ≤ j → IsViableWithin limit (take j ts) → IsViableWithin limit (take i ts)
viable_take limit i j ts l v = record { written = v.written; grammatical = v.grammatical; shallow = v.shallow; begun = begin_take i j ts (spell_declarations v.written []) l v.begun }

pub viable_front : (limit i : ℕ) (ts : List Token) → IsViableWithin limit ts → IsViableWithin limit (take i ts)
viable_front limit i ts v = record { written = v.written; grammatical = v.grammatical; shallow = v.shallow; begun = begin_front i ts (spell_declarations v.written []) v.begun }

-- the tokens before one, and with it
pub take_before : (a b : List Token) → take (length a) (a ++ b) ≡ a
take_before [] [] = refl
take_before [] (t ∷ b) = refl
take_before (t ∷ a) b = ap (λ x. t ∷ x) (take_before a b)

pub take_with : (a b : List Token) (t : Token) → take (length a + 1) (a ++ (t ∷ b)) ≡ a ++ (t ∷ [])
take_with [] b t = refl
take_with (u ∷ a) b t = let e : length (u ∷ a) + 1 ≡ suc (length a + 1) = omega arith in ap (λ (n : ℕ). take n (u ∷ (a ++ (t ∷ b)))) e ∙ ap (λ x. u ∷ x) (take_with a b t)

pub get_at : (a b : List Token) (t : Token) → slice_get (a ++ (t ∷ b)) (length a) ≡ Some t
get_at [] b t = refl
get_at (u ∷ a) b t = get_at a b t
