-- The code of a function, and of functions one behind the other.
use Rattle.std.proofs.Common.{◌≡◌, ◌∙◌, ℕ, ℤ, pos, ◌+◌, List, [], ◌∷◌, ◌++◌, flat_map, length, sym, ap, subst, append_assoc}
use Rattle.std.proofs.lemmas.List.{append-nil}
use Rattle.machine_forms.specs.Piece.{Target}
use Rattle.machine_forms.specs.Routine.{Routine, routine_code, routine_places, routine_words, routines_code}
use Rattle.machine_forms.proofs.Words.{words_stand}
use Rattle.rv64_emit.specs.declared.body.Body.{Body}
use Rattle.rv64_emit.specs.Body.{AllStandFor, StandsFor}

nowhere : Target → ℤ
nowhere t = pos 0

-- how many words the code of a routine has
pub words_counted : (r : Routine) → length (r.front ++ flat_map (λ b. b) r.blocks) ≡ routine_words r
words_counted r = sym (words_stand.pieces (routine_places nowhere 0 r) 0 (r.front ++ flat_map (λ b. b) r.blocks)) ∙ words_stand.routine nowhere 0 r

-- one routine more
pub one_more : (bs : List Body) (rs : List Routine) (b : Body) (r : Routine) → AllStandFor bs rs → StandsFor b r → AllStandFor (bs ++ b ∷ []) (rs ++ r ∷ [])
one_more [] [] b r hs h = (h, tt)
one_more [] (x ∷ rs) b r hs h = absurd hs
one_more (y ∷ bs) [] b r hs h = absurd hs
one_more (y ∷ bs) (x ∷ rs) b r hs h = (hs.0, one_more bs rs b r hs.1 h)

-- the words so far, and those of what is left
pub record Left (bs : List Body) (target : Target → ℤ) (words : List ℕ) (here : ℕ) (all : List ℕ) : Type 0 where
  pub rest : List Routine
  pub stand : AllStandFor bs rest
  pub code : words ++ routines_code target here rest ≡ all

one_gone : (b : Body) (bs : List Body) (target : Target → ℤ) (words words' : List ℕ) (here here' : ℕ) (all : List ℕ) (rest : List Routine) →
    AllStandFor (b ∷ bs) rest → words ++ routines_code target here rest ≡ all →
    ((r : Routine) → StandsFor b r → words' ≡ words ++ routine_code target here r) → here' ≡ here + b.starts.end → Left bs target words' here' all
one_gone b bs target words words' here here' all [] stand code put next = absurd stand
one_gone b bs target words words' here here' all (r ∷ rest) stand code put next =
    let there : here' ≡ here + routine_words r = next ∙ ap (λ n. here + n) stand.0.starts.end in
    record {
      rest = rest;
      stand = stand.1;
      code = ap (λ l. l ++ routines_code target here' rest) (put r stand.0)
          ∙ (ap (λ n. (words ++ routine_code target here r) ++ routines_code target n rest) there
          ∙ (append_assoc words (routine_code target here r) (routines_code target (here + routine_words r) rest) ∙ code));
    }

-- behind the next one
pub next_left : (b : Body) (bs xs : List Body) (target : Target → ℤ) (words words' : List ℕ) (here here' : ℕ) (all : List ℕ) → xs ≡ b ∷ bs →
    Left xs target words here all → ((r : Routine) → StandsFor b r → words' ≡ words ++ routine_code target here r) → here' ≡ here + b.starts.end →
    Left bs target words' here' all
next_left b bs xs target words words' here here' all e left put next =
    let at = subst (λ ys. Left ys target words here all) e left in
    one_gone b bs target words words' here here' all at.rest at.stand at.code put next

none_gone : (target : Target → ℤ) (words : List ℕ) (here : ℕ) (all : List ℕ) (rest : List Routine) → AllStandFor [] rest →
    words ++ routines_code target here rest ≡ all → words ≡ all
none_gone target words here all [] stand code = sym (append-nil words) ∙ code
none_gone target words here all (r ∷ rest) stand code = absurd stand

-- nothing is left
pub none_left : (xs : List Body) (target : Target → ℤ) (words : List ℕ) (here : ℕ) (all : List ℕ) → xs ≡ [] → Left xs target words here all → words ≡ all
none_left xs target words here all e left =
    let at = subst (λ ys. Left ys target words here all) e left in
    none_gone target words here all at.rest at.stand at.code
