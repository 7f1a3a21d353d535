-- Tokens that are as pieces say lead from a state to another, and what is left is as the other pieces say.
use Rattle.std.specs.Prelude.{ℕ, ◌+◌, ◌≡◌, ◌≤◌, ◌<◌, List, [], ◌∷◌, Some, length, refl}
use Rattle.std.proofs.Common.{ap, sym, ◌∙◌, subst, arith}
use Rattle.cxx_ast.specs.declared.name.Name.{Name}
use Rattle.cxx_ast.specs.declared.name.Bound.{Bound}
use Rattle.cxx_ast.specs.declared.name.Bound.TheVariants.{Free}
use Rattle.cxx_ast.specs.declared.token.Token.{Token}
use Rattle.cxx_ast.specs.declared.token.TokenKind.{TokenKind}
use Rattle.cxx_ast.specs.declared.token.TokenKind.TheVariants as kind
use Rattle.cxx_ast.specs.Piece.{Piece, anywhere, placed, named, Is, Begin}
use Rattle.cxx_parser.specs.Reading.{feed}
use Rattle.cxx_parser.specs.States.{State, Step, stops, leads, within}
use Rattle.cxx_parser.proofs.Runs.{passed, runs, goes, first_step, passes}
use Rattle.cxx_parser.proofs.Steps.{placed_is}

-- tokens behind so many are at an end before the pieces that they fit are
pub record RunOut (limit n : ℕ) (ts : List Token) (s : State) (P : List Piece) : Type 0 where
  pub state : State
  pub reached : runs limit n ts s ≡ Some state
  pub short : length ts < length P

-- they lead to a state, and what is left fits the other pieces, as far as it goes
pub record GoneOn (limit total n : ℕ) (ts : List Token) (s : State) (P x : List Piece) (last : State) : Type 0 where
  pub count : ℕ
  pub rest : List Token
  pub begun : Begin rest x
  pub counted : total ≡ count + length x
  pub lengths : length ts + length x ≡ length rest + length P
  pub same : runs limit n ts s ≡ runs limit count rest last

pub data Past (limit total n : ℕ) (ts : List Token) (s : State) (P x : List Piece) (last : State) : Type 0 where
  run_out : RunOut limit n ts s P → Past limit total n ts s P x last
  gone_on : GoneOn limit total n ts s P x last → Past limit total n ts s P x last

-- tokens that fit pieces, the last of so many, lead to a state, and others are left
pub record Leads (limit total : ℕ) (P : List Piece) (s : State) (x : List Piece) (last : State) : Type 0 where
  pub past : (n : ℕ) (ts : List Token) → total ≡ n + length P → Begin ts P → Past limit total n ts s P x last

-- nothing was read
pub stays : {limit total : ℕ} {P : List Piece} {s : State} → Leads limit total P s P s
stays = record { past = λ n ts i f. gone_on (record { count = n; rest = ts; begun = f; counted = i; lengths = refl; same = refl }) }

-- one after the other
past_next : (limit total n : ℕ) (ts : List Token) (s between last : State) (P Q x : List Piece) → Leads limit total Q between x last → Past limit total n ts s P Q between → Past limit total n ts s P x last
past_next limit total n ts s between last P Q x b (run_out u) = run_out u
past_next limit total n ts s between last P Q x b (gone_on p) = go (b.past p.count p.rest p.counted p.begun)
  where
    go : Past limit total p.count p.rest between Q x last → Past limit total n ts s P x last
    go (run_out u) = let l = p.lengths in let m = u.short in run_out (record { state = u.state; reached = p.same ∙ u.reached; short = omega (arith, l, m) })
    go (gone_on q) =
        let l = p.lengths in
        let m = q.lengths in
        gone_on (record { count = q.count; rest = q.rest; begun = q.begun; counted = q.counted; lengths = omega (arith, l, m); same = p.same ∙ q.same })

pub next : {limit total : ℕ} {P Q x : List Piece} {s between last : State} → Leads limit total P s Q between → Leads limit total Q between x last → Leads limit total P s x last
next {limit} {total} {P} {Q} {x} {s} {between} {last} a b = record { past = λ n ts i f. past_next limit total n ts s between last P Q x b (a.past n ts i f) }

-- the same state, put otherwise
pub ends_as : {limit total : ℕ} {P x : List Piece} {s last : State} (other : State) → last ≡ other → Leads limit total P s x last → Leads limit total P s x other
ends_as {limit} {total} {P} {x} {s} {last} other e l = subst (λ (q : State). Leads limit total P s x q) e l

-- there are no more pieces than tokens in all
pub with_room : {limit total : ℕ} {P x : List Piece} {s last : State} → (length P ≤ total → Leads limit total P s x last) → Leads limit total P s x last
with_room h = record { past = λ n ts i f. (h (omega (arith, i))).past n ts i f }

-- a step that is not too deep leads to a state
abbrev pub Passes : ℕ → Step → State → Type 0
Passes limit stops last = ⊥
Passes limit (leads s) last = s ≡ last
Passes limit (within d s) last = (d ≤ limit) × (s ≡ last)

pub passes_on : (limit : ℕ) (x : Step) (last : State) → Passes limit x last → passed limit x ≡ Some last
passes_on limit stops last p = absurd p
passes_on limit (leads s) last p = ap Some p
passes_on limit (within d s) last p = passes limit d s p.0 ∙ ap Some p.1

-- a token
abbrev pub token : TokenKind → ℕ → Token
token k place = record { kind = k; place = place }

-- a name as it is read
abbrev pub free : Name → Name
free m = record { text = m.text; place = m.place; bound = Free }

free_same : (m : Name) → m.bound ≡ Free → free m ≡ m
free_same m e = ap (λ b. bound_to b) (sym e)
  where
    bound_to : Bound → Name
    bound_to b = record { text = m.text; place = m.place; bound = b }

-- a first token that fits a piece, if there is one
first_out : (limit total n : ℕ) (s : State) (p : Piece) (x : List Piece) (last : State) → Past limit total n [] s (p ∷ x) x last
first_out limit total n s p x last = run_out (record { state = s; reached = refl; short = omega arith })

one : (limit total n : ℕ) (t : Token) (ts : List Token) (s : State) (p : Piece) (x : List Piece) (last : State) → total ≡ n + length (p ∷ x) → Begin ts x → (n + 1 + length x ≡ total → Passes limit (feed n t s) last) → Past limit total n (t ∷ ts) s (p ∷ x) x last
one limit total n t ts s p x last i f g =
    gone_on (record { count = n + 1; rest = ts; begun = f; counted = omega (arith, i); lengths = omega arith; same = first_step limit n t ts s last (passes_on limit (feed n t s) last (g (omega (arith, i)))) })

-- a token of a kind
kind_past : (limit total : ℕ) (x : List Piece) (k : TokenKind) (s last : State) → ((n place : ℕ) → n + 1 + length x ≡ total → Passes limit (feed n (token k place) s) last) → (n : ℕ) (ts : List Token) → total ≡ n + length (anywhere k ∷ x) → Begin ts (anywhere k ∷ x) → Past limit total n ts s (anywhere k ∷ x) x last
kind_past limit total x k s last p n [] i f = first_out limit total n s (anywhere k) x last
kind_past limit total x k s last p n (t ∷ ts) i f = one limit total n t ts s (anywhere k) x last i f.1 (λ j. subst (λ (u : Token). Passes limit (feed n u s) last) (sym (placed_is t k f.0)) (p n t.place j))

pub kind_leads : {limit total : ℕ} {x : List Piece} (k : TokenKind) (s last : State) → ((n place : ℕ) → n + 1 + length x ≡ total → Passes limit (feed n (token k place) s) last) → Leads limit total (anywhere k ∷ x) s x last
kind_leads {limit} {total} {x} k s last p = record { past = kind_past limit total x k s last p }

-- a token of a kind at a place
placed_past : (limit total : ℕ) (x : List Piece) (k : TokenKind) (place : ℕ) (s last : State) → ((n : ℕ) → n + 1 + length x ≡ total → Passes limit (feed n (token k place) s) last) → (n : ℕ) (ts : List Token) → total ≡ n + length (placed k place ∷ x) → Begin ts (placed k place ∷ x) → Past limit total n ts s (placed k place ∷ x) x last
placed_past limit total x k place s last p n [] i f = first_out limit total n s (placed k place) x last
placed_past limit total x k place s last p n (t ∷ ts) i f = one limit total n t ts s (placed k place) x last i f.1 (λ j. subst (λ (u : Token). Passes limit (feed n u s) last) (sym f.0) (p n j))

pub placed_leads : {limit total : ℕ} {x : List Piece} (k : TokenKind) (place : ℕ) (s last : State) → ((n : ℕ) → n + 1 + length x ≡ total → Passes limit (feed n (token k place) s) last) → Leads limit total (placed k place ∷ x) s x last
placed_leads {limit} {total} {x} k place s last p = record { past = placed_past limit total x k place s last p }

-- a name
name_past : (limit total : ℕ) (x : List Piece) (m : Name) (s : State) (on : Name → State) → ((n : ℕ) → n + 1 + length x ≡ total → Passes limit (feed n (token (kind.Name m.text) m.place) s) (on (free m))) → (n : ℕ) (ts : List Token) → total ≡ n + length (named m ∷ x) → Begin ts (named m ∷ x) → Past limit total n ts s (named m ∷ x) x (on m)
name_past limit total x m s on p n [] i f = first_out limit total n s (named m) x (on m)
name_past limit total x m s on p n (t ∷ ts) i f = one limit total n t ts s (named m) x (on m) i f.1 (λ j.
    subst (λ (u : Token). Passes limit (feed n u s) (on m)) (sym f.0.0) (subst (λ (o : Name). Passes limit (feed n (token (kind.Name m.text) m.place) s) (on o)) (free_same m f.0.1) (p n j)))

pub name_leads : {limit total : ℕ} {x : List Piece} (m : Name) (s : State) (on : Name → State) → ((n : ℕ) → n + 1 + length x ≡ total → Passes limit (feed n (token (kind.Name m.text) m.place) s) (on (free m))) → Leads limit total (named m ∷ x) s x (on m)
name_leads {limit} {total} {x} m s on p = record { past = name_past limit total x m s on p }

-- what holds of the kind of a first token
abbrev pub First : (TokenKind → Type 0) → Piece → Type 0
First Q (anywhere k) = Q k
First Q (placed k place) = Q k
First Q (named m) = Q (kind.Name m.text)

-- pieces of which the first is such
pub record Opening (Q : TokenKind → Type 0) (P : List Piece) : Type 0 where
  pub piece : Piece
  pub more : List Piece
  pub parts : P ≡ piece ∷ more
  pub first : First Q piece

pub opens : (Q : TokenKind → Type 0) (p : Piece) (x : List Piece) → First Q p → Opening Q (p ∷ x)
opens Q p x q = record { piece = p; more = x; parts = refl; first = q }

-- what is such is also otherwise
pub opens_as : (Q R : TokenKind → Type 0) (P : List Piece) → ((k : TokenKind) → Q k → R k) → Opening Q P → Opening R P
opens_as Q R P h o = record { piece = o.piece; more = o.more; parts = o.parts; first = go o.piece o.first }
  where
    go : (p : Piece) → First Q p → First R p
    go (anywhere k) q = h k q
    go (placed k place) q = h k q
    go (named m) q = h (kind.Name m.text) q

first_is : (Q : TokenKind → Type 0) (t : Token) (p : Piece) → Is t p → First Q p → Q t.kind
first_is Q t (anywhere k) i q = subst Q (sym i) q
first_is Q t (placed k place) i q = subst (λ (u : Token). Q u.kind) (sym i) q
first_is Q t (named m) i q = subst (λ (u : Token). Q u.kind) (sym i.0) q

-- two states that the first token does not tell apart
past_alike : (limit total n : ℕ) (t : Token) (ts : List Token) (s other : State) (P x : List Piece) (last : State) → passed limit (feed n t s) ≡ passed limit (feed n t other) → Past limit total n (t ∷ ts) other P x last → Past limit total n (t ∷ ts) s P x last
past_alike limit total n t ts s other P x last e (run_out u) = run_out (record { state = u.state; reached = ap (goes limit (n + 1) ts) e ∙ u.reached; short = u.short })
past_alike limit total n t ts s other P x last e (gone_on h) =
    gone_on (record { count = h.count; rest = h.rest; begun = h.begun; counted = h.counted; lengths = h.lengths; same = ap (goes limit (n + 1) ts) e ∙ h.same })

first_alike : (limit total : ℕ) (p : Piece) (P x : List Piece) (last : State) (Q : TokenKind → Type 0) (s other : State) → First Q p → ((n : ℕ) (t : Token) → Q t.kind → passed limit (feed n t s) ≡ passed limit (feed n t other)) → Leads limit total (p ∷ P) other x last → (n : ℕ) (ts : List Token) → total ≡ n + length (p ∷ P) → Begin ts (p ∷ P) → Past limit total n ts s (p ∷ P) x last
first_alike limit total p P x last Q s other q e l n [] i f = run_out (record { state = s; reached = refl; short = omega arith })
first_alike limit total p P x last Q s other q e l n (t ∷ ts) i f = past_alike limit total n t ts s other (p ∷ P) x last (e n t (first_is Q t p f.0 q)) (l.past n (t ∷ ts) i f)

pub alike : {limit total : ℕ} {P x : List Piece} {last : State} (Q : TokenKind → Type 0) (s other : State) → Opening Q P → ((n : ℕ) (t : Token) → Q t.kind → passed limit (feed n t s) ≡ passed limit (feed n t other)) → Leads limit total P other x last → Leads limit total P s x last
alike {limit} {total} {P} {x} {last} Q s other o e l =
    let m : Leads limit total (o.piece ∷ o.more) other x last = subst (λ (R : List Piece). Leads limit total R other x last) o.parts l in
    let r : Leads limit total (o.piece ∷ o.more) s x last = record { past = first_alike limit total o.piece o.more x last Q s other o.first e m } in
    subst (λ (R : List Piece). Leads limit total R s x last) (sym o.parts) r
