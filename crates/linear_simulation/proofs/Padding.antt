-- Landing pads with a cleanup: how one is entered, what comes out of the cleanup, and how the exception or the forced unwind goes on.
use Rattle.std.proofs.Common.{◌≡◌, ℕ, ◌+◌, ◌<◌, ◌≤◌, Bool, true, false, List, [], ◌∷◌, length, Option, Some, refl, sym, ap, ◌∙◌, arith}
use Rattle.std.specs.Prelude.{ℤ, pos, ◌==◌, if◌then◌else◌}
use Rattle.std.proofs.lemmas.Bool.Decides.{nat_tests}
use Rattle.meaning_forms.specs.Arithmetic.{int_equal}
use Rattle.meaning_forms.specs.Class.{some_of}
use Rattle.region_forms.specs.World.{Word, number_word, flying, unwinding, Frame, World, with_slot, type_at}
use Rattle.linear_forms.specs.Linear.{pad}
use Rattle.linear_forms.specs.Tables.{Cover, bare, unpadded, padded, cleanup}
use Rattle.linear_forms.specs.Verdict.{Verdict, target, no_way, clean, nothing_here, or_clean, verdict}
use Rattle.linear_forms.specs.Stub.{compiled}
use Rattle.linear_forms.specs.Activation.{Code, Activation, Next, finishes, fault, fetch, compiled_op, at}
use Rattle.linear_forms.specs.Search.{found, found_by, found_above}
use Rattle.linear_forms.specs.Unwinding.{pad_entered, unwound_by, unwound_above, unwind}
use Rattle.linear_forms.specs.Forced.{forced_by, forced_above, force}
use Rattle.linear_forms.specs.Emission.{Emitting, chain_of, cleaned}
use Rattle.linear_forms.specs.Means.{Means}
use Rattle.linear_forms.specs.Agrees.{IsSited}
use Rattle.linear_forms.specs.CodeRuns.{Site, SameBelow, SlotsBehind}
use Rattle.linear_forms.proofs.Cleanups.{cleanups_are_seen}
use Rattle.linear_simulation.specs.Simulates.{IsChained}

pub sited : (c : Cover) → IsChained c → IsSited c
sited bare h = absurd h
sited unpadded h = tt
sited (padded p []) h = absurd h
sited (padded p (n ∷ chain)) h = tt

pub cleaned_chained : (em : Emitting) (p : ℕ) (c : Cover) → IsChained (cleaned em p c)
cleaned_chained em p c = go (some_of (int_equal (em.filter cleanup)) (chain_of c)) refl
  where
    nonempty : (chain : List ℤ) → some_of (int_equal (em.filter cleanup)) chain ≡ true → IsChained (padded p chain)
    nonempty [] h = absurd (cc h)
    nonempty (n ∷ chain) h = tt

    go : (b : Bool) → some_of (int_equal (em.filter cleanup)) (chain_of c) ≡ b → IsChained (padded p (if b then chain_of c else em.filter cleanup ∷ chain_of c))
    go true e = nonempty (chain_of c) e
    go false e = tt

-- slots behind the function's own do not matter
pub behind_same : (n s : ℕ) (x : Word) (f g : Frame) → n ≤ s → SameBelow n f g → SameBelow n f (with_slot s x g)
behind_same n s x f g le same = record {
  call = same.call;
  slots = λ t lt. ap (λ b. if b then x else g.slots t) (other t lt) ∙ same.slots t lt;
}
  where
    other : (t : ℕ) → t < n → (s == t) ≡ false
    other t lt = grind (arith, nat_tests, le, lt)

itself : (s : ℕ) → (s == s) ≡ true
itself s = grind (arith, nat_tests)

one_less : (s t n : ℕ) → s ≡ n + 1 → t ≡ n → (s == t) ≡ false
one_less s t n e f = grind (arith, nat_tests)

-- the two slots of a pad
abbrev pub pad_frame : Emitting → Word → ℤ → Frame → Frame
pad_frame em x m f = with_slot em.selector (number_word m) (with_slot em.object x f)

pub pad_object : (code : Code) (g n : ℕ) (em : Emitting) → SlotsBehind code g n em → (x : Word) (m : ℤ) (f : Frame) → (pad_frame em x m f).slots em.object ≡ x
pad_object code g n em b x m f =
    ap (λ y. if y then number_word m else if em.object == em.object then x else f.slots em.object) (one_less em.selector em.object n b.selector b.object) ∙
    ap (λ y. if y then x else f.slots em.object) (itself em.object)

pub pad_same : (code : Code) (g n : ℕ) (em : Emitting) → SlotsBehind code g n em → (x : Word) (m : ℤ) (f h : Frame) → SameBelow n f h → SameBelow n f (pad_frame em x m h)
pad_same code g n em b x m f h same =
    behind_same n em.selector (number_word m) f (with_slot em.object x h) (omega (arith, b.selector)) (behind_same n em.object x f h (omega (arith, b.object)) same)

-- what a chain says is what its cover says
pub found_chain : (code : Code) (g : ℕ) (c : Cover) → IsChained c → (ty : Option ℕ) (fs : List Activation)
    → found_by (verdict code.rows (code.sense_at g) (chain_of c) ty) (length fs) (found_above code ty fs) ≡ found code (compiled g) c ty fs
found_chain code g bare h ty fs = absurd h
found_chain code g unpadded h ty fs = refl
found_chain code g (padded p []) h ty fs = absurd h
found_chain code g (padded p (n ∷ chain)) h ty fs = refl

found_clean : (v : Verdict) (d : ℕ) (r : Option ℕ) → found_by (or_clean v) d r ≡ found_by v d r
found_clean (target n) d r = refl
found_clean no_way d r = refl
found_clean clean d r = refl
found_clean nothing_here d r = refl

module _ (code : Code) where
  -- a pad that a verdict stops at is entered
  pub target_entered : (m : ℤ) (pd t e g : ℕ) (f : Frame) (fs : List Activation) (w : World) (rest : Next) → length fs ≡ t
      → unwound_by code (target m) pd t e (compiled g) f fs w rest ≡ pad_entered (fetch code (compiled g) pd) (flying e t) m (compiled g) pd f fs w
  target_entered m pd t e g f fs w rest q =
      ap (λ b. if b then pad_entered (fetch code (compiled g) pd) (flying e t) m (compiled g) pd f fs w else finishes fault w)
      (ap (λ d. d == t) q ∙ itself t)

  clean_entered : (v : Verdict) (pd t e g : ℕ) (f : Frame) (fs : List Activation) (w : World) (rest : Next) (r : Option ℕ)
      → found_by (or_clean v) (length fs) r ≡ Some t
      → (m : ℤ) × (unwound_by code (or_clean v) pd t e (compiled g) f fs w rest ≡ pad_entered (fetch code (compiled g) pd) (flying e t) m (compiled g) pd f fs w)
  clean_entered (target m) pd t e g f fs w rest r q = (m, target_entered m pd t e g f fs w rest (cc q))
  clean_entered no_way pd t e g f fs w rest r q = absurd (cc q)
  clean_entered clean pd t e g f fs w rest r q = (pos 0, refl)
  clean_entered nothing_here pd t e g f fs w rest r q = (pos 0, refl)

  pub at_pad : (em : Emitting) (g pd : ℕ) (x : Word) (m : ℤ) (f : Frame) (fs : List Activation) (w : World) → code.op_at g pd ≡ Some (pad em.object em.selector)
      → pad_entered (fetch code (compiled g) pd) x m (compiled g) pd f fs w ≡ at (compiled g) (pd + 1) (pad_frame em x m f) fs w
  at_pad em g pd x m f fs w e = ap (λ y. pad_entered (compiled_op y) x m (compiled g) pd f fs w) e

  module _ (em : Emitting) (s : Site) (p : ℕ) (chained : IsChained s.cover) (means : Means (code.sense_at s.func) em.filter cleanup) where
    -- round a pad with a cleanup the search goes on as without it
    pub found_outside : (ty : Option ℕ) → found code (compiled s.func) (cleaned em p s.cover) ty s.frames ≡ found code (compiled s.func) s.cover ty s.frames
    found_outside ty =
        ap (λ v. found_by v (length s.frames) (found_above code ty s.frames)) (cleanups_are_seen.raised code.rows (code.sense_at s.func) (em.filter cleanup) (chain_of s.cover) ty means) ∙
        found_clean (verdict code.rows (code.sense_at s.func) (chain_of s.cover) ty) (length s.frames) (found_above code ty s.frames) ∙
        found_chain code s.func s.cover chained ty s.frames

    pub entered_flying : (t e : ℕ) (f : Frame) (w : World) → code.op_at s.func p ≡ Some (pad em.object em.selector)
        → found code (compiled s.func) (cleaned em p s.cover) (type_at w e) s.frames ≡ Some t
        → (m : ℤ) × (unwind code (cleaned em p s.cover) t e (compiled s.func) f s.frames w ≡ at (compiled s.func) (p + 1) (pad_frame em (flying e t) m f) s.frames w)
    entered_flying t e f w op q =
        let ty = type_at w e in
        let v = verdict code.rows (code.sense_at s.func) (chain_of s.cover) ty in
        let seen = cleanups_are_seen.raised code.rows (code.sense_at s.func) (em.filter cleanup) (chain_of s.cover) ty means in
        let rest = unwound_above code t e s.frames w in
        let en = clean_entered v p t e s.func f s.frames w rest (found_above code ty s.frames)
        (ap (λ x. found_by x (length s.frames) (found_above code ty s.frames)) (sym seen) ∙ q) in
        (en.0, ap (λ x. unwound_by code x p t e (compiled s.func) f s.frames w rest) seen ∙ en.1 ∙ at_pad em s.func p (flying e t) en.0 f s.frames w op)

    pub entered_forced : (k : ℤ) (f : Frame) (w : World) → code.op_at s.func p ≡ Some (pad em.object em.selector)
        → force code (cleaned em p s.cover) k (compiled s.func) f s.frames w ≡ at (compiled s.func) (p + 1) (pad_frame em (unwinding k) (pos 0) f) s.frames w
    entered_forced k f w op =
        ap (λ b. forced_by code b p k (compiled s.func) f s.frames w (forced_above code k s.frames w))
        (cleanups_are_seen.forced (code.sense_at s.func) (em.filter cleanup) (chain_of s.cover) means) ∙
        at_pad em s.func p (unwinding k) (pos 0) f s.frames w op
