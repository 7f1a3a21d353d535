-- How a reading ends: by a program, by what is missing, by a token that does not fit, or by one that is too deep.
use Rattle.std.specs.Prelude.{ℕ, ◌+◌, ◌-◌, ◌≡◌, ◌<◌, Bool, true, false, List, [], ◌∷◌, ◌++◌, Some, Err, nat_lt, length, refl, if◌then◌else◌}
use Rattle.std.proofs.Common.{ap, ◌∙◌, subst, arith}
use Rattle.std.proofs.lemmas.Bool.Decides.{nat_tests}
use Rattle.cxx_ast.specs.declared.token.Token.{Token}
use Rattle.cxx_ast.specs.Limits.{most_depth}
use Rattle.cxx_parser.specs.Reading.{Answer, unexpected, too_deep, feed, finished, read}
use Rattle.cxx_parser.specs.States.{State, Step, stops, leads, within}
use Rattle.cxx_parser.proofs.Runs.{passed, runs, first_step, passes}
use Rattle.cxx_parser.proofs.Settled.{stepped}

-- all tokens lead on
pub record AtEnd (n : ℕ) (ts : List Token) (s : State) (total end : ℕ) (a : Answer) : Type 0 where
  pub state : State
  pub reached : runs most_depth n ts s ≡ Some state
  pub answer : a ≡ finished total end state

-- a token does not fit behind those before it
pub record AtToken (n : ℕ) (ts : List Token) (s : State) (a : Answer) : Type 0 where
  pub before : List Token
  pub token : Token
  pub rest : List Token
  pub parts : ts ≡ before ++ (token ∷ rest)
  pub state : State
  pub reached : runs most_depth n before s ≡ Some state
  pub stops_here : feed (n + length before) token state ≡ stops
  pub answer : a ≡ Err (unexpected token.place)

-- a token leads too deep
pub record AtDepth (n : ℕ) (ts : List Token) (s : State) (a : Answer) : Type 0 where
  pub before : List Token
  pub token : Token
  pub rest : List Token
  pub parts : ts ≡ before ++ (token ∷ rest)
  pub state : State
  pub reached : runs most_depth n before s ≡ Some state
  pub depth : ℕ
  pub deeper : State
  pub sinks : feed (n + length before) token state ≡ within depth deeper
  pub sunk : most_depth < depth
  pub answer : a ≡ Err (too_deep token.place)

pub data Ended (n : ℕ) (ts : List Token) (s : State) (total end : ℕ) (a : Answer) : Type 0 where
  at_end : AtEnd n ts s total end a → Ended n ts s total end a
  at_token : AtToken n ts s a → Ended n ts s total end a
  at_depth : AtDepth n ts s a → Ended n ts s total end a

-- a token before
one_more : (n : ℕ) (t : Token) (ts : List Token) (s next : State) (total end : ℕ) (a : Answer) → passed most_depth (feed n t s) ≡ Some next → Ended (n + 1) ts next total end a → Ended n (t ∷ ts) s total end a
one_more n t ts s next total end a e (at_end u) = at_end (record { state = u.state; reached = first_step most_depth n t ts s next e ∙ u.reached; answer = u.answer })
one_more n t ts s next total end a e (at_token u) = at_token (record {
  before = t ∷ u.before;
  token = u.token;
  rest = u.rest;
  parts = ap (λ x. t ∷ x) u.parts;
  state = u.state;
  reached = first_step most_depth n t u.before s next e ∙ u.reached;
  stops_here = ap (λ (m : ℕ). feed m u.token u.state) (omega arith) ∙ u.stops_here;
  answer = u.answer;
})
one_more n t ts s next total end a e (at_depth u) = at_depth (record {
  before = t ∷ u.before;
  token = u.token;
  rest = u.rest;
  parts = ap (λ x. t ∷ x) u.parts;
  state = u.state;
  reached = first_step most_depth n t u.before s next e ∙ u.reached;
  depth = u.depth;
  deeper = u.deeper;
  sinks = ap (λ (m : ℕ). feed m u.token u.state) (omega arith) ∙ u.sinks;
  sunk = u.sunk;
  answer = u.answer;
})

-- how a reading ends that goes on with a token
ends_from : (n : ℕ) (t : Token) (ts : List Token) (s : State) (total end : ℕ) → ((next : State) → passed most_depth (feed n t s) ≡ Some next → Ended n (t ∷ ts) s total end (read total end ts next)) → (x : Step) → feed n t s ≡ x → Ended n (t ∷ ts) s total end (stepped total end t ts x)
ends_from n t ts s total end on stops e = at_token (record { before = []; token = t; rest = ts; parts = refl; state = s; reached = refl; stops_here = ap (λ (m : ℕ). feed m t s) (omega arith) ∙ e; answer = refl })
ends_from n t ts s total end on (leads next) e = on next (ap (passed most_depth) e)
ends_from n t ts s total end on (within d next) e = test (nat_lt most_depth d) refl
  where
    test : (b : Bool) → nat_lt most_depth d ≡ b → Ended n (t ∷ ts) s total end (if b then Err (too_deep t.place) else read total end ts next)
    test true i = at_depth (record {
      before = [];
      token = t;
      rest = ts;
      parts = refl;
      state = s;
      reached = refl;
      depth = d;
      deeper = next;
      sinks = ap (λ (m : ℕ). feed m t s) (omega arith) ∙ e;
      sunk = grind (arith, nat_tests);
      answer = refl;
    })
    test false i = on next (ap (passed most_depth) e ∙ passes most_depth d next (grind (arith, nat_tests)))

-- how each reading ends
pub read_ends : (ts : List Token) (n total end : ℕ) (s : State) → total ≡ n + length ts → Ended n ts s total end (read total end ts s)
unfolding read
read_ends [] n total end s i = at_end (record { state = s; reached = refl; answer = refl })
read_ends (t ∷ ts) n total end s i =
    let at : n ≡ total - length (t ∷ ts) = omega (arith, i) in
    subst (λ (m : ℕ). Ended n (t ∷ ts) s total end (stepped total end t ts (feed m t s))) at
    (ends_from n t ts s total end (λ next e. one_more n t ts s next total end (read total end ts next) e (read_ends ts (n + 1) total end next (omega (arith, i)))) (feed n t s) refl)
