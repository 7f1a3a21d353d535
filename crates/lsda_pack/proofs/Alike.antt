-- Readers of frames to which only the bytes between a place and a stop matter.
use Rattle.std.proofs.Common.{◌≡◌, ◌+◌, ◌-◌, ◌≤◌, ◌<◌, ℕ, Bool, true, false, nat_le, List, take, drop, Result, Ok, Err, refl, ap, sym, ◌∙◌, arith}
use Rattle.std.specs.Prelude.{if◌then◌else◌}
use Rattle.std.proofs.lemmas.Bool.Decides.{nat_tests}
use Rattle.std.proofs.lemmas.List.{drop_all, drop-take, length-take}
use Rattle.eh_bytes.specs.Field.{Reading, Field, at, behind}
use Rattle.eh_bytes.specs.Memory.{Part}
use Rattle.table_forms.specs.declared.reason.Reason.{Reason}
use Rattle.table_forms.specs.Fault.{Fault, ◌>>=◌, demand, with_reason, frame_reason}
use Rattle.table_forms.specs.Instruction.{in_frames}
use Rattle.lsda_pack.proofs.Fronts.{Same, same_inside, taken_same}
use Rattle.lsda_pack.proofs.FieldFrame.{ok_same}
use Rattle.lsda_pack.proofs.HeadFrame.{with_bytes, reason_ok, bind_ok}

-- between a place and an end two lists have the same bytes, wherever they are cut
abbrev pub Alike : ℕ → ℕ → List ℕ → List ℕ → Type 0
Alike from end xs ys = (p s : ℕ) → from ≤ p → s ≤ end → drop p (take s xs) ≡ drop p (take s ys)

pub alike_same : (from end : ℕ) (xs ys : List ℕ) → Same from end xs ys → Alike from end xs ys
alike_same from end xs ys same p s low high = step (nat_le s p) refl
  where
    step : (b : Bool) → nat_le s p ≡ b → drop p (take s xs) ≡ drop p (take s ys)
    step true e =
        let over : s ≤ p = grind (arith, nat_tests, e) in
        drop_all p (take s xs) (omega (arith, over, length-take s xs)) ∙ sym (drop_all p (take s ys) (omega (arith, over, length-take s ys)))
    step false e =
        let under : p < s = grind (arith, nat_tests, e) in
        let whole : s ≡ p + (s - p) = omega (arith, under) in
        ap (λ n. drop p (take n xs)) whole ∙ drop-take p (s - p) xs ∙
        taken_same (s - p) (drop p xs) (drop p ys) (same_inside from end p s xs ys low high same) ∙
        sym (drop-take p (s - p) ys) ∙ sym (ap (λ n. drop p (take n ys)) whole)

-- what reads a part up to a stop, from a place on
abbrev pub Reader : Type 0 → Type 0
Reader A = Part → ℕ → ℕ → Result (A × ℕ) Fault

-- other bytes do not matter, and what was read ends at or behind the place
pub record Local {A : Type 0} (g : Reader A) : Type 0 where
  pub same : (part : Part) (ys : List ℕ) (from end s p : ℕ) → Alike from end part.bytes ys → from ≤ p → s ≤ end → g (with_bytes part ys) s p ≡ g part s p
  pub forward : (part : Part) (s p : ℕ) (a : A × ℕ) → g part s p ≡ Ok a → p ≤ a.1

abbrev pub done : {A : Type 0} → A → Result A Fault
done x = Ok x

pub done_same : {A : Type 0} (x y : A) → done x ≡ done y → x ≡ y
done_same x y e = cc

moved : {A : Type 0} (p : ℕ) (r : Reading A) (a : A × ℕ) → behind p r ≡ Ok a → p ≤ a.1
moved p (Ok (v, n)) a e = let place : p + n ≡ a.1 = ap (λ x. x.1) (ok_same (v, p + n) a e) in omega (arith, place)
moved p (Err cause) a e = absurd cc

-- a field, which may depend on its address
pub field_local : {A : Type 0} (f : ℕ → Field A) → Local (λ part s p. in_frames (f (part.address + p)) part s p)
field_local f = record {
  same = λ part ys from end s p alike low high.
      ap (λ zs. with_reason frame_reason (part.file_at + p) (behind p (f (part.address + p) zs))) (sym (alike p s low high));
  forward = λ part s p a read.
      moved p (f (part.address + p) (drop p (take s part.bytes))) a
      (reason_ok frame_reason (part.file_at + p) (at (f (part.address + p)) (take s part.bytes) p) a read);
}

pub bind_same : {A B : Type 0} (r : Result A Fault) (f g : A → Result B Fault) → ((a : A) → r ≡ Ok a → f a ≡ g a) → (r >>= f) ≡ (r >>= g)
bind_same (Ok a) f g each = each a refl
bind_same (Err e) f g each = refl

-- a reader, and behind it one that its place and value choose
pub then_local : {A B : Type 0} {g : Reader A} {k : ℕ → A → Reader B} → Local g → ((p : ℕ) (a : A) → Local (k p a)) → Local (λ part s p. g part s p >>= λ a. k p a.0 part s a.1)
then_local {A} {B} {g} {k} first later = record {
  same = λ part ys from end s p alike low high.
      ap (λ r. r >>= λ a. k p a.0 (with_bytes part ys) s a.1) (first.same part ys from end s p alike low high) ∙
      bind_same (g part s p) (λ a. k p a.0 (with_bytes part ys) s a.1) (λ a. k p a.0 part s a.1)
      (λ a is. let more = first.forward part s p a is in (later p a.0).same part ys from end s a.1 alike (omega (arith, low, more)) high);
  forward = λ part s p b read.
      let a = bind_ok (g part s p) (λ a. k p a.0 part s a.1) b read in
      let one = first.forward part s p a.0 a.1 in
      let two = (later p a.0.0).forward part s a.0.1 b a.2 in
      omega (arith, one, two);
}

pub given_local : {A : Type 0} (x : A) → Local (λ part s p. done (x, p))
given_local x = record {
  same = λ part ys from end s p alike low high. refl;
  forward = λ part s p a read. let place : p ≡ a.1 = ap (λ y. y.1) (done_same (x, p) a read) in omega (arith, place);
}

-- a condition, refused where the field before it stands
pub checked_local : {A : Type 0} (x : A) (holds : Bool) (reason : Reason) (at' : ℕ) → Local (λ part s p. demand holds reason (part.file_at + at') >>= λ known. done (x, p))
checked_local x holds reason at' = record {
  same = λ part ys from end s p alike low high. refl;
  forward = λ part s p a read.
      let known = bind_ok (demand holds reason (part.file_at + at')) (λ known. done (x, p)) a read in
      let place : p ≡ a.1 = ap (λ y. y.1) (done_same (x, p) a known.2) in
      omega (arith, place);
}

pub choice_local : {A : Type 0} {g k : Reader A} (b : Bool) → Local g → Local k → Local (if b then g else k)
choice_local true one two = one
choice_local false one two = two
