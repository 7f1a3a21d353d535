-- Ranks of operations one behind the other, and what it means that they rise.
use Rattle.std.proofs.Common.{◌≡◌, ◌⊎◌, ℕ, zero, suc, ◌+◌, ◌≤◌, Bool, true, false, List, [], ◌∷◌, ◌++◌, length, ap, subst, arith}
use Rattle.std.specs.Prelude.{if◌then◌else◌}
use Rattle.region_forms.specs.Form.{Op}
use Rattle.linear_forms.specs.Linear.{FunctionCode, LinearOp, plain, label, jump, jump_zero, jump_filter, resume, unexpected, return}
use Rattle.linear_forms.specs.Tables.{Cover, bare, unpadded, padded}
use Rattle.linear_forms.specs.Sites.{Placed}
use Rattle.linear_forms.specs.Activation.{Code}
use Rattle.linear_forms.specs.CodeRuns.{HasAt}
use Rattle.linear_forms.specs.Exits.{Exit, exit_to, first_label}
use Rattle.linear_forms.specs.Emission.{may_raise, put}
use Rattle.linear_forms.specs.UnitRun.{code_of}
use Rattle.cost_paths.specs.Control.{place_of, TurnsBack}

-- what operations weigh together
abbrev pub weight : (LinearOp → ℕ) → List Placed → ℕ
weight weigh [] = 0
weight weigh (x ∷ xs) = weigh x.op + weight weigh xs

-- a function as the only one of a program
abbrev pub alone : FunctionCode → Code
alone g = code_of (record { functions = g ∷ []; types = []; globals = []; tokens = 0; main = 0 })

pub weight_both : (weigh : LinearOp → ℕ) (a b : List Placed) → weight weigh (a ++ b) ≡ weight weigh a + weight weigh b
weight_both weigh [] b = omega arith
weight_both weigh (x ∷ a) b = omega (arith, weight_both weigh a b)

-- operations that stand, in front and behind
module _ (g : FunctionCode) where
  pub has_front : (p : ℕ) (a b : List Placed) → HasAt (alone g) 0 p (a ++ b) → HasAt (alone g) 0 p a
  has_front p [] b h = tt
  has_front p (x ∷ a) b h = (h.0, h.1, h.2, has_front (p + 1) a b h.3)

  pub has_back : (p q : ℕ) (a b : List Placed) → q ≡ p + length a → HasAt (alone g) 0 p (a ++ b) → HasAt (alone g) 0 q b
  has_back p q [] b e h = let same : p ≡ q = omega (arith, e) in subst (λ n. HasAt (alone g) 0 n b) same h
  has_back p q (x ∷ a) b e h = has_back (p + 1) q a b (omega (arith, e)) h.3

-- ranks of the places from p on, or what else is said of each
module _ {A : Type 0} (rank : ℕ → A) where
  abbrev pub Ranked : ℕ → List A → Type 0
  Ranked p [] = Unit {0}
  Ranked p (n ∷ ns) = (rank p ≡ n) × Ranked (p + 1) ns

  pub ranked_front : (p : ℕ) (a b : List A) → Ranked p (a ++ b) → Ranked p a
  ranked_front p [] b h = tt
  ranked_front p (n ∷ a) b h = (h.0, ranked_front (p + 1) a b h.1)

  pub ranked_back : (p q : ℕ) (a b : List A) → q ≡ p + length a → Ranked p (a ++ b) → Ranked q b
  ranked_back p q [] b e h = let same : p ≡ q = omega (arith, e) in subst (λ n. Ranked n b) same h
  ranked_back p q (n ∷ a) b e h = ranked_back (p + 1) q a b (omega (arith, e)) h.1

-- a rank at a place that is the same
pub at_place : (rank : ℕ → ℕ) (p q n : ℕ) → p ≡ q → n ≤ rank q → n ≤ rank p
at_place rank p q n e h = let same : rank p ≡ rank q = ap rank e in omega (arith, same, h)

module _ (g : FunctionCode) (weigh : LinearOp → ℕ) (top : ℕ) (rank : ℕ → ℕ) where
  -- the step to the next operation rises
  abbrev pub NextRises : ℕ → LinearOp → Type 0
  NextRises p (jump l) = Unit {0}
  NextRises p (resume s) = Unit {0}
  NextRises p (unexpected o s) = Unit {0}
  NextRises p (return result) = Unit {0}
  NextRises p o = rank p + weigh o ≤ rank (p + 1)

  -- so does a jump, unless a loop turns back
  abbrev pub JumpRises : ℕ → LinearOp → Type 0
  JumpRises p (jump l) = (rank p + weigh (jump l) ≤ rank (place_of g l)) ⊎ TurnsBack g p (place_of g l)
  JumpRises p (jump_zero v l) = rank p + weigh (jump_zero v l) ≤ rank (place_of g l)
  JumpRises p (jump_filter s n l) = rank p + weigh (jump_filter s n l) ≤ rank (place_of g l)
  JumpRises p o = Unit {0}

  -- the pad of a cover has so high a rank
  abbrev pub CoverAbove : ℕ → Cover → Type 0
  CoverAbove e bare = Unit {0}
  CoverAbove e unpadded = Unit {0}
  CoverAbove e (padded q chain) = e ≤ rank q

  -- the operation at a place rises
  pub record Rises (p : ℕ) (x : Placed) : Type 0 where
    pub next : NextRises p x.op
    pub jump : JumpRises p x.op
    pub pad : CoverAbove (rank p + weigh x.op) x.cover
    pub inside : rank p + weigh x.op ≤ top

  -- so do those from place p on
  abbrev pub AllRise : ℕ → List Placed → Type 0
  AllRise p [] = Unit {0}
  AllRise p (x ∷ xs) = Rises p x × AllRise (p + 1) xs

  pub both_rise : (p q : ℕ) (a b : List Placed) → q ≡ p + length a → AllRise p a → AllRise q b → AllRise p (a ++ b)
  both_rise p q [] b e h k = let same : q ≡ p = omega (arith, e) in subst (λ n. AllRise n b) same k
  both_rise p q (x ∷ a) b e h k = (h.0, both_rise (p + 1) q a b (omega (arith, e)) h.1 k)

  -- the labels of exits have so high a rank
  abbrev pub ExitsAbove : ℕ → List Exit → Type 0
  ExitsAbove e xs = (n : ℕ) → e ≤ rank (place_of g (first_label n xs))

  -- what is around a part: behind it, its exits and its pad have so high a rank, which is within the top
  pub record Around (e end : ℕ) (c : Cover) (xs : List Exit) : Type 0 where
    pub behind : e ≤ rank end
    pub exits : ExitsAbove e xs
    pub cover : CoverAbove e c
    pub inside : e ≤ top

  pub lower_cover : (d e : ℕ) (c : Cover) → d ≤ e → CoverAbove e c → CoverAbove d c
  lower_cover d e bare le h = tt
  lower_cover d e unpadded le h = tt
  lower_cover d e (padded q chain) le h = omega (arith, le, h)

  pub lower_exits : (d e : ℕ) (xs : List Exit) → d ≤ e → ExitsAbove e xs → ExitsAbove d xs
  lower_exits d e xs le h n = let above = h n in omega (arith, le, above)

  pub exits_inside : (e l : ℕ) (xs : List Exit) → e ≤ rank (place_of g l) → ExitsAbove e xs → ExitsAbove e (exit_to l ∷ xs)
  exits_inside e l xs own h zero = own
  exits_inside e l xs own h (suc n) = h n

  pub label_rises : (p l : ℕ) → weigh (label l) ≡ 0 → rank p ≤ rank (p + 1) → rank p ≤ top → Rises p (record { op = label l; cover = bare })
  label_rises p l light next inside = record { next = omega (arith, light, next); jump = tt; pad = tt; inside = omega (arith, light, inside) }

  pub put_rises : (p e : ℕ) (o : Op) (c : Cover) → rank p + weigh (plain o) ≤ e → e ≤ rank (p + 1) → CoverAbove e c → e ≤ top → Rises p (put o c)
  put_rises p e o c le next cover inside =
      record { next = omega (arith, le, next); jump = tt; pad = covered (may_raise o); inside = omega (arith, le, inside) }
    where
      covered : (b : Bool) → CoverAbove (rank p + weigh (plain o)) (if b then c else bare)
      covered true = lower_cover (rank p + weigh (plain o)) e c le cover
      covered false = tt
