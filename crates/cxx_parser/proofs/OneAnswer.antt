-- Each list of tokens has one answer, and reading gives it.
use Rattle.std.specs.Prelude.{ℕ, ◌+◌, ◌≡◌, ◌≤◌, ◌<◌, max, Bool, true, false, nat_lt, IfErr, List, [], ◌∷◌, ◌++◌, Some, Ok, Err, Result, take, slice_get, map, length, refl}
use Rattle.std.proofs.Common.{ap, sym, ◌∙◌, subst, arith, inl, inr}
use Rattle.std.proofs.lemmas.Bool.Decides.{nat_tests}
use Rattle.cxx_ast.specs.declared.token.Token.{Token}
use Rattle.cxx_ast.specs.Limits.{most_depth}
use Rattle.cxx_ast.specs.Depth.{depth}
use Rattle.cxx_ast.specs.Plain.{Program, Declaration}
use Rattle.cxx_ast.specs.Tree.{Tree, IsViableWithin, IsViable, IsWhole, StandsAt, TooDeep}
use Rattle.cxx_ast.specs.Written.{declared, spell_declarations}
use Rattle.cxx_parser.specs.Answers.{UnexpectedFirst, IsAnswer, IsRefusal}
use Rattle.cxx_parser.specs.Gives.{Gives}
use Rattle.cxx_parser.specs.Reading.{Fault, Answer, unexpected, too_deep, finished, reading}
use Rattle.cxx_parser.specs.States.{State, want_declaration}
use Rattle.cxx_parser.specs.declared.error.ParseError.{ParseError}
use Rattle.cxx_parser.specs.declared.error.ParseError.TheVariants as errors
use Rattle.cxx_parser.proofs.Outcomes.{Ended, at_end, at_token, at_depth, read_ends}
use Rattle.cxx_parser.proofs.Runs.{runs, runs_higher, state_same}
use Rattle.cxx_parser.proofs.SpelledRead.{spelled_runs, fit_begun}
use Rattle.cxx_parser.proofs.Viable.{at_the_start, reached_viable, stopped_not_viable, sunk_not_viable, sunk_viable, viable_take, viable_front, take_before, take_with, get_at}
use Rattle.cxx_parser.proofs.Whole.{reading_tree, tree_read}

-- a token that stands at a place, and up to which programs go on that are not too deep
pub record Reached (tokens : List Token) (place : ℕ) : Type 0 where
  pub index : ℕ
  pub stands : StandsAt tokens index place
  pub viable : IsViableWithin most_depth (take index tokens)

-- all tokens begin a program that is not too deep, and are none
pub record IsShort (tokens : List Token) : Type 0 where
  pub viable : IsViableWithin most_depth tokens
  pub no_program : IsWhole tokens → ⊥

-- what is read, and why
pub data Judged (tokens : List Token) (end : ℕ) : Answer → Type 0 where
  whole : (p : Program) → Tree tokens end p → Judged tokens end (Ok p)
  short : IsShort tokens → Judged tokens end (Err (unexpected end))
  stopped : (place : ℕ) (r : Reached tokens place) → (IsViable (take (r.index + 1) tokens) → ⊥) → Judged tokens end (Err (unexpected place))
  sunk : (place : ℕ) (r : Reached tokens place) → IsViable (take (r.index + 1) tokens) → (IsViableWithin most_depth (take (r.index + 1) tokens) → ⊥) → Judged tokens end (Err (too_deep place))

-- the tokens before one that stands among them
abbrev reached : (tokens before rest : List Token) (t : Token) (s : State) → tokens ≡ before ++ (t ∷ rest) → runs most_depth 0 before at_the_start ≡ Some s → Reached tokens t.place
reached tokens before rest t s e f = record {
  index = length before;
  stands = (t, ap (λ ts. slice_get ts (length before)) e ∙ get_at before rest t, refl);
  viable = subst (λ (ts : List Token). IsViableWithin most_depth ts) (sym (ap (take (length before)) e ∙ take_before before (t ∷ rest))) (reached_viable most_depth (omega arith) before s f);
}

with_token : (tokens before rest : List Token) (t : Token) → tokens ≡ before ++ (t ∷ rest) → take (length before + 1) tokens ≡ before ++ (t ∷ [])
with_token tokens before rest t e = ap (take (length before + 1)) e ∙ take_with before rest t

-- where tokens lead to a state in which declarations may not end, they are no program
another_state : (tokens : List Token) (s : State) → runs most_depth 0 tokens at_the_start ≡ Some s → ((ds : List Declaration) → s ≡ want_declaration ds → ⊥) → IsWhole tokens → ⊥
another_state tokens s e h w =
    let limit : ℕ = max (depth (map declared w.written)) most_depth in
    let a = spelled_runs limit tokens w.written w.grammatical (omega arith) w.spelled in
    let b = runs_higher most_depth limit 0 tokens at_the_start s (omega arith) e in
    h (map declared w.written) (state_same s (want_declaration (map declared w.written)) (sym b ∙ a))

-- how reading ends at the end of the tokens
at_end_judged : (tokens : List Token) (end : ℕ) (s : State) → runs most_depth 0 tokens at_the_start ≡ Some s → reading tokens end ≡ finished (length tokens) end s → Judged tokens end (finished (length tokens) end s)
at_end_judged tokens end (want_declaration ds) e a = whole (record { declarations = ds; tokens = length tokens; length = end }) (reading_tree tokens end (record { declarations = ds; tokens = length tokens; length = end }) a)
at_end_judged tokens end s e a = short (record { viable = reached_viable most_depth (omega arith) tokens s e; no_program = another_state tokens s e (λ ds i. cc) })

pub judged : (tokens : List Token) (end : ℕ) → Judged tokens end (reading tokens end)
judged tokens end = go (read_ends tokens 0 (length tokens) end at_the_start (omega arith))
  where
    go : Ended 0 tokens at_the_start (length tokens) end (reading tokens end) → Judged tokens end (reading tokens end)
    go (at_end u) = subst (Judged tokens end) (sym u.answer) (at_end_judged tokens end u.state u.reached u.answer)
    go (at_token u) = subst (Judged tokens end) (sym u.answer) (stopped u.token.place (reached tokens u.before u.rest u.token u.state u.parts u.reached)
        (subst (λ (ts : List Token). IsViable ts → ⊥) (sym (with_token tokens u.before u.rest u.token u.parts)) (stopped_not_viable u.before u.token u.state u.reached u.stops_here)))
    go (at_depth u) = subst (Judged tokens end) (sym u.answer) (sunk u.token.place (reached tokens u.before u.rest u.token u.state u.parts u.reached)
        (subst (λ (ts : List Token). IsViable ts) (sym (with_token tokens u.before u.rest u.token u.parts)) (u.depth, sunk_viable u.before u.token u.state u.deeper u.depth u.reached u.sinks u.sunk))
        (subst (λ (ts : List Token). IsViableWithin most_depth ts → ⊥) (sym (with_token tokens u.before u.rest u.token u.parts)) (sunk_not_viable u.before u.token u.state u.deeper u.depth u.reached u.sinks u.sunk)))

-- a fault as an answer
abbrev refused : Fault → Answer
refused f = Err f

-- which of two numbers is the lesser
data Order (i j : ℕ) : Type 0 where
  less : i < j → Order i j
  same : i ≡ j → Order i j
  more : j < i → Order i j

order : (i j : ℕ) → Order i j
order i j = go (nat_lt i j) refl (nat_lt j i) refl
  where
    go : (b : Bool) → nat_lt i j ≡ b → (c : Bool) → nat_lt j i ≡ c → Order i j
    go true e c f = less (grind (arith, nat_tests))
    go false e true f = more (grind (arith, nat_tests))
    go false e false f = same (grind (arith, nat_tests))

viable_any : (i j : ℕ) (ts : List Token) → i ≤ j → IsViable (take j ts) → IsViable (take i ts)
viable_any i j ts l (limit, v) = (limit, viable_take limit i j ts l v)

token_same : (a b : Token) → Some a ≡ Some b → a ≡ b
token_same a b e = cc

-- one token stands at one place
stands_same : (tokens : List Token) (i j p q : ℕ) → i ≡ j → StandsAt tokens i p → StandsAt tokens j q → p ≡ q
stands_same tokens i j p q e (t, g, x) (u, h, y) =
    sym x ∙ ap (λ (k : Token). k.place) (token_same t u (sym g ∙ ap (slice_get tokens) e ∙ h)) ∙ y

-- a tree is a program
tree_viable : (tokens : List Token) (end : ℕ) (p : Program) → Tree tokens end p → IsViableWithin most_depth tokens
tree_viable tokens end p t = record {
  written = t.written;
  grammatical = t.grammatical;
  shallow = subst (λ (ds : List Declaration). depth ds ≤ most_depth) (sym t.declarations) t.depth;
  begun = fit_begun tokens (spell_declarations t.written []) t.spelled;
}

tree_whole : (tokens : List Token) (end : ℕ) (p : Program) → Tree tokens end p → IsWhole tokens
tree_whole tokens end p t = record { written = t.written; grammatical = t.grammatical; spelled = t.spelled }

-- where tokens begin a program that is not too deep, none of them is too deep
viable_not_deep : (tokens : List Token) → IsViableWithin most_depth tokens → (deep : ℕ) → TooDeep tokens deep → ⊥
viable_not_deep tokens v deep (i, s, w, x, d) = d (viable_front most_depth (i + 1) tokens v)

-- where one does not fit, none is too deep
stopped_alone : (tokens : List Token) (place : ℕ) (r : Reached tokens place) → (IsViable (take (r.index + 1) tokens) → ⊥) → (deep : ℕ) → TooDeep tokens deep → ⊥
stopped_alone tokens place r n deep (i, s, w, x, d) = go (order i r.index)
  where
    go : Order i r.index → ⊥
    go (less l) = d (viable_take most_depth (i + 1) r.index tokens (omega (arith, l)) r.viable)
    go (same l) = n (viable_any (r.index + 1) (i + 1) tokens (omega (arith, l)) x)
    go (more l) = n (viable_any (r.index + 1) (i + 1) tokens (omega (arith, l)) x)

-- what is read is an answer
pub judged_answer : (tokens : List Token) (end : ℕ) (a : Answer) → Judged tokens end a → IsAnswer tokens end a
judged_answer tokens end _ (whole p t) = t
judged_answer tokens end _ (short u) = (inr (refl, (most_depth, u.viable), u.no_program), viable_not_deep tokens u.viable)
judged_answer tokens end _ (stopped place r n) = (inl (r.index, r.stands, (most_depth, r.viable), n), stopped_alone tokens place r n)
judged_answer tokens end _ (sunk place r w d) = (r.index, r.stands, r.viable, w, d)

-- and no other is
unexpected_same : (tokens : List Token) (end place : ℕ) (b : Answer) → Judged tokens end b → UnexpectedFirst tokens end place → b ≡ Err (unexpected place)
unexpected_same tokens end place _ (whole p t) (inl (i, s, v, n), none) = absurd (n (most_depth, viable_front most_depth (i + 1) tokens (tree_viable tokens end p t)))
unexpected_same tokens end place _ (whole p t) (inr (e, v, w), none) = absurd (w (tree_whole tokens end p t))
unexpected_same tokens end place _ (short u) (inl (i, s, v, n), none) = absurd (n (most_depth, viable_front most_depth (i + 1) tokens u.viable))
unexpected_same tokens end place _ (short u) (inr (e, v, w), none) = ap (λ (k : ℕ). refused (unexpected k)) (sym e)
unexpected_same tokens end place _ (stopped q r m) (inl (i, s, v, n), none) = go (order i r.index)
  where
    go : Order i r.index → refused (unexpected q) ≡ refused (unexpected place)
    go (less l) = absurd (n (most_depth, viable_take most_depth (i + 1) r.index tokens (omega (arith, l)) r.viable))
    go (same l) = ap (λ (k : ℕ). refused (unexpected k)) (sym (stands_same tokens i r.index place q l s r.stands))
    go (more l) = absurd (m (viable_any (r.index + 1) i tokens (omega (arith, l)) v))
unexpected_same tokens end place _ (stopped q r m) (inr (e, (limit, v), w), none) = absurd (m (limit, viable_front limit (r.index + 1) tokens v))
unexpected_same tokens end place _ (sunk q r w d) (u, none) = absurd (none q (r.index, r.stands, r.viable, w, d))

deep_same : (tokens : List Token) (end place : ℕ) (b : Answer) → Judged tokens end b → TooDeep tokens place → b ≡ Err (too_deep place)
deep_same tokens end place _ (whole p t) u = absurd (viable_not_deep tokens (tree_viable tokens end p t) place u)
deep_same tokens end place _ (short v) u = absurd (viable_not_deep tokens v.viable place u)
deep_same tokens end place _ (stopped q r n) u = absurd (stopped_alone tokens q r n place u)
deep_same tokens end place _ (sunk q r w d) (i, s, v, x, e) = go (order i r.index)
  where
    go : Order i r.index → refused (too_deep q) ≡ refused (too_deep place)
    go (less l) = absurd (e (viable_take most_depth (i + 1) r.index tokens (omega (arith, l)) r.viable))
    go (same l) = ap (λ (k : ℕ). refused (too_deep k)) (sym (stands_same tokens i r.index place q l s r.stands))
    go (more l) = absurd (d (viable_take most_depth (r.index + 1) i tokens (omega (arith, l)) v))

pub one_answer : (tokens : List Token) (end : ℕ) (a : Answer) → IsAnswer tokens end a → reading tokens end ≡ a
one_answer tokens end (Ok p) t = tree_read tokens end p t
one_answer tokens end (Err (unexpected place)) u = unexpected_same tokens end place (reading tokens end) (judged tokens end) u
one_answer tokens end (Err (too_deep place)) u = deep_same tokens end place (reading tokens end) (judged tokens end) u

pub same_answer : (tokens : List Token) (end : ℕ) (a b : Answer) → IsAnswer tokens end a → IsAnswer tokens end b → a ≡ b
same_answer tokens end a b i j = sym (one_answer tokens end a i) ∙ one_answer tokens end b j

-- so a reader that gives what is read gives the answer, and its refusal is why there is no tree
pub answer_given : {X : Type 0} (on : X → Answer) (r : Result X ParseError) (tokens : List Token) (end : ℕ) → Gives on r (reading tokens end) → (a : Answer) → IsAnswer tokens end a → Gives on r a
answer_given on r tokens end g a i = subst (Gives on r) (one_answer tokens end a i) g

pub refusal_given : {X : Type 0} (on : X → Answer) (r : Result X ParseError) (tokens : List Token) (end : ℕ) → Gives on r (reading tokens end) → IfErr r (λ e. IsRefusal tokens end e)
refusal_given on (Ok x) tokens end g = tt
refusal_given on (Err errors.NoMemory) tokens end g = tt
refusal_given on (Err (errors.Unexpected place)) tokens end g = subst (IsAnswer tokens end) g (judged_answer tokens end (reading tokens end) (judged tokens end))
refusal_given on (Err (errors.TooDeep place)) tokens end g = subst (IsAnswer tokens end) g (judged_answer tokens end (reading tokens end) (judged tokens end))
