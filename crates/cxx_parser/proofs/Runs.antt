-- Reading as far as it leads, where no node stands below a depth.
use Rattle.std.specs.Prelude.{ℕ, ◌+◌, ◌≡◌, ◌≤◌, Bool, true, false, List, [], ◌∷◌, ◌++◌, Option, Some, None, nat_lt, length, refl, if◌then◌else◌}
use Rattle.std.proofs.Common.{ap, ◌∙◌, arith}
use Rattle.std.proofs.lemmas.Bool.Decides.{nat_tests}
use Rattle.cxx_ast.specs.declared.token.Token.{Token}
use Rattle.cxx_parser.specs.Reading.{feed}
use Rattle.cxx_parser.specs.States.{State, Step, stops, leads, within}

-- the state of a step that is not too deep
abbrev pub passed : ℕ → Step → Option State
passed limit stops = None
passed limit (leads s) = Some s
passed limit (within d s) = if nat_lt limit d then None else Some s

-- the state behind tokens, with so many before them
abbrev pub runs : ℕ → ℕ → List Token → State → Option State
runs limit n [] s = Some s
runs limit n (t ∷ ts) s = elim (passed limit (feed n t s)) [ None ↦ None | Some next ↦ runs limit (n + 1) ts next ]

-- what is left of a step
abbrev pub goes : ℕ → ℕ → List Token → Option State → Option State
goes limit n ts r = elim r [ None ↦ None | Some next ↦ runs limit n ts next ]

pub state_same : (a b : State) → Some a ≡ Some b → a ≡ b
state_same a b e = cc

-- a step that is passed is not too deep
pub passed_on : (limit n : ℕ) (ts : List Token) (d : ℕ) (next last : State) → goes limit n ts (passed limit (within d next)) ≡ Some last → (d ≤ limit) × (runs limit n ts next ≡ Some last)
passed_on limit n ts d next last e = go (nat_lt limit d) refl e
  where
    go : (b : Bool) → nat_lt limit d ≡ b → goes limit n ts (if b then None else Some next) ≡ Some last → (d ≤ limit) × (runs limit n ts next ≡ Some last)
    go true i f = cc
    go false i f = (grind (arith, nat_tests), f)

pub passes : (limit d : ℕ) (s : State) → d ≤ limit → passed limit (within d s) ≡ Some s
passes limit d s l = let no : nat_lt limit d ≡ false = grind (arith, nat_tests) in rw no refl

-- what passes under a limit passes under a higher one
pub passed_higher : (low high : ℕ) (x : Step) (s : State) → low ≤ high → passed low x ≡ Some s → passed high x ≡ Some s
passed_higher low high stops s l e = cc
passed_higher low high (leads next) s l e = e
passed_higher low high (within d next) s l e = go (nat_lt low d) refl e
  where
    go : (b : Bool) → nat_lt low d ≡ b → (if b then None else Some next) ≡ Some s → passed high (within d next) ≡ Some s
    go true i f = cc
    go false i f = passes high d next (grind (arith, nat_tests)) ∙ f

-- a first step
pub first_step : (limit n : ℕ) (t : Token) (ts : List Token) (s next : State) → passed limit (feed n t s) ≡ Some next → runs limit n (t ∷ ts) s ≡ runs limit (n + 1) ts next
first_step limit n t ts s next e = ap (goes limit (n + 1) ts) e

-- tokens behind others
goes_append : (limit n m : ℕ) (a b : List Token) (r : Option State) → ((next : State) → runs limit n (a ++ b) next ≡ goes limit m b (runs limit n a next)) → goes limit n (a ++ b) r ≡ goes limit m b (goes limit n a r)
goes_append limit n m a b None h = refl
goes_append limit n m a b (Some next) h = h next

pub runs_append : (limit n : ℕ) (a b : List Token) (s : State) → runs limit n (a ++ b) s ≡ goes limit (n + length a) b (runs limit n a s)
runs_append limit n [] b s = ap (λ (m : ℕ). runs limit m b s) (omega arith)
runs_append limit n (t ∷ a) b s =
    goes_append limit (n + 1) (n + length (t ∷ a)) a b (passed limit (feed n t s))
    (λ next. runs_append limit (n + 1) a b next ∙ ap (λ (m : ℕ). goes limit m b (runs limit (n + 1) a next)) (omega arith))

-- the same under a higher limit
goes_higher : (low high n : ℕ) (t : Token) (ts : List Token) (s last : State) → low ≤ high → ((next : State) → runs low (n + 1) ts next ≡ Some last → runs high (n + 1) ts next ≡ Some last) → (r : Option State) → passed low (feed n t s) ≡ r → goes low (n + 1) ts r ≡ Some last → runs high n (t ∷ ts) s ≡ Some last
goes_higher low high n t ts s last l h None i f = cc
goes_higher low high n t ts s last l h (Some next) i f = first_step high n t ts s next (passed_higher low high (feed n t s) next l i) ∙ h next f

pub runs_higher : (low high n : ℕ) (ts : List Token) (s last : State) → low ≤ high → runs low n ts s ≡ Some last → runs high n ts s ≡ Some last
runs_higher low high n [] s last l e = e
runs_higher low high n (t ∷ ts) s last l e = goes_higher low high n t ts s last l (λ next f. runs_higher low high (n + 1) ts next last l f) (passed low (feed n t s)) refl e
