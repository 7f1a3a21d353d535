-- What is said of each operation of code, by its form and its cover.
use Rattle.std.proofs.Common.{◌≡◌, ◌⊎◌, inl, inr, ℕ, ◌+◌, ℤ, Bool, true, false, List, [], ◌∷◌, ◌++◌, length, Option, Some, subst, arith}
use Rattle.std.specs.Prelude.{slice_get, if◌then◌else◌}
use Rattle.region_forms.specs.Form.{Place, Op, bind, TypeRow, Clauses, no_clauses, clause_then}
use Rattle.linear_forms.specs.Linear.{FunctionCode, LinearOp, plain, label, jump_filter, resume, unexpected}
use Rattle.linear_forms.specs.Tables.{Cover, bare, unpadded, padded, Sense, look_up}
use Rattle.linear_forms.specs.Verdict.{Verdict, target, no_way, clean, nothing_here, pad_verdict}
use Rattle.linear_forms.specs.Sites.{Placed}
use Rattle.linear_forms.specs.Emission.{Emitting, may_raise, put, chain_of}
use Rattle.linear_forms.specs.Agrees.{IsSited}
use Rattle.linear_forms.specs.Code.{clause_tests}
use Rattle.cost_paths.specs.Control.{place_of}
use Rattle.flight_homes.specs.Homes.{GoesOnAs}
use Rattle.flight_homes.specs.LetsOn.{IsEntered, IsNone}
use Rattle.flight_homes.specs.Places.{home_in, left_in}

module _ (rows : List TypeRow) (senses : ℤ → Sense) (t : Option ℕ) where
  never_entered : {X : Type 0} → IsEntered no_way → X
  never_entered (inl e) = absurd (cc e)
  never_entered (inr (n, e)) = absurd (cc e)

  not_here : {X : Type 0} → IsEntered nothing_here → X
  not_here (inl e) = absurd (cc e)
  not_here (inr (n, e)) = absurd (cc e)

  -- a pad without filters of its own lets on what its surroundings let on
  pub none_lets_on : (c : Cover) (v : Verdict) → IsSited c → pad_verdict rows senses (chain_of c) t ≡ v → IsEntered v → GoesOnAs rows senses t v c
  none_lets_on bare v sited e h = absurd sited
  none_lets_on unpadded v sited e h = subst (λ y. GoesOnAs rows senses t y unpadded) e tt
  none_lets_on (padded q chain) (target n) sited e h = e
  none_lets_on (padded q chain) no_way sited e h = never_entered h
  none_lets_on (padded q chain) clean sited e h = inl e
  none_lets_on (padded q chain) nothing_here sited e h = not_here h

module _ (rows : List TypeRow) (senses : ℤ → Sense) (g : FunctionCode) where
  -- A specification's test: what it lets on goes on outwards behind it, and what it stops is passed to the runtime behind that.
  pub record IsSpecified (p l : ℕ) : Type 0 where
    pub place : place_of g l ≡ p + 1 + 1
    pub slot : ℕ
    pub on : slice_get g.ops (p + 1) ≡ Some (resume slot)
    pub begins : slice_get g.ops (p + 1 + 1) ≡ Some (label l)
    pub object : ℕ
    pub selector : ℕ
    pub stops : slice_get g.ops (p + 1 + 1 + 1) ≡ Some (unexpected object selector)

  -- a handler begins at a label, with the object
  pub record IsHandler (l : ℕ) : Type 0 where
    pub begins : slice_get g.ops (place_of g l) ≡ Some (label l)
    pub slot : ℕ
    pub object : Place
    pub binds : slice_get g.ops (place_of g l + 1) ≡ Some (plain (bind slot object))

  -- a test of a filter is a specification's, or goes to a handler
  abbrev pub TestFits : ℕ → LinearOp → Type 0
  TestFits p (jump_filter s n l) = IsSpecified p l ⊎ IsHandler l
  TestFits p o = Unit {0}

  -- what a pad's chain lets on, the cover at its home lets on
  abbrev pub CoverFits : Cover → Type 0
  CoverFits bare = Unit {0}
  CoverFits unpadded = Unit {0}
  CoverFits (padded q chain) = (t : Option ℕ) (v : Verdict) → pad_verdict rows senses chain t ≡ v → IsEntered v → IsNone v (left_in g (q + 1)) → GoesOnAs rows senses t v (look_up g.sites (home_in g (q + 1)))

  abbrev pub AllFit : ℕ → List Placed → Type 0
  AllFit p [] = Unit {0}
  AllFit p (x ∷ xs) = (TestFits p x.op × CoverFits x.cover) × AllFit (p + 1) xs

  pub both_fit : (p q : ℕ) (a b : List Placed) → q ≡ p + length a → AllFit p a → AllFit q b → AllFit p (a ++ b)
  both_fit p q [] b e h k = let same : q ≡ p = omega (arith, e) in subst (λ n. AllFit n b) same k
  both_fit p q (x ∷ a) b e h k = (h.0, both_fit (p + 1) q a b (omega (arith, e)) h.1 k)

  pub put_fits : (o : Op) (c : Cover) → CoverFits c → CoverFits (put o c).cover
  put_fits o c h = go (may_raise o)
    where
      go : (b : Bool) → CoverFits (if b then c else bare)
      go true = h
      go false = tt

  -- the handlers of clauses, which begin at labels from one on
  abbrev pub AreHandlers : ℕ → Clauses → Type 0
  AreHandlers l no_clauses = Unit {0}
  AreHandlers l (clause_then t s r cs) = IsHandler l × AreHandlers (l + 1) cs

  pub tests_fit : (em : Emitting) (cs : Clauses) (l p : ℕ) → AreHandlers l cs → AllFit p (clause_tests em l cs)
  tests_fit em no_clauses l p h = tt
  tests_fit em (clause_then t s r cs) l p h = ((inr h.0, tt), tests_fit em cs (l + 1) (p + 1) h.1)
