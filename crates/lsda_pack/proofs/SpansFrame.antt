-- Where the parts of the frames stand depends only on the bytes up to the end of the last, with the length 0 behind it.
use Rattle.std.proofs.Common.{◌≡◌, ◌+◌, ◌≤◌, ◌<◌, ◌==◌, ℕ, zero, suc, Bool, true, false, nat_lt, nat_le, List, [], ◌∷◌, length, take, drop, Result, Ok, Err, refl, ap, sym, subst, ◌∙◌, arith, ◌⊎◌, inl, inr}
use Rattle.std.specs.Prelude.{max, fold, if◌then◌else◌}
use Rattle.std.specs.Int.{w32, from_le_bytes}
use Rattle.std.specs.List.{AllByRecursion}
use Rattle.std.proofs.lemmas.Bool.Decides.{nat_tests}
use Rattle.std.proofs.lemmas.List.{length-take}
use Rattle.eh_bytes.specs.declared.error.ByteError.TheVariants.{Truncated}
use Rattle.eh_bytes.specs.Memory.{Part}
use Rattle.eh_bytes.specs.Field.{Field, at, behind, fixed}
use Rattle.table_forms.specs.Fault.{Fault, with_reason, frame_reason}
use Rattle.table_forms.specs.Instruction.{in_frames}
use Rattle.table_forms.specs.Spans.{Span, and_spans, spans_after, spans_from, spans_within}
use Rattle.table_forms.proofs.Alls.{all_more}
use Rattle.lsda_pack.specs.SharedTables.{frames_end}
use Rattle.lsda_pack.proofs.Fronts.{Same, same_inside, same_cut}
use Rattle.lsda_pack.proofs.FieldFrame.{Front, reads_at, front_fixed}
use Rattle.lsda_pack.proofs.HeadFrame.{with_bytes, reason_ok}

-- a field that is read from a place in the part, up to the place behind it
pub record FieldReads {A : Type 0} (f : Field A) (part : Part) (p : ℕ) (a : A × ℕ) : Type 0 where
  pub forward : p ≤ a.1
  pub own : a.1 ≤ length part.bytes
  pub same : (ys : List ℕ) → length ys ≡ length part.bytes → Same p a.1 part.bytes ys → in_frames f (with_bytes part ys) (length ys) p ≡ Ok a

pub whole_reads : {A : Type 0} (f : Field A) → Front f → (part : Part) (p : ℕ) (a : A × ℕ) → p ≤ length part.bytes → in_frames f part (length part.bytes) p ≡ Ok a → FieldReads f part p a
whole_reads f front part p a inside read =
    let n = length part.bytes in
    let r = reads_at f front (take n part.bytes) p a.0 a.1 (reason_ok frame_reason (part.file_at + p) (at f (take n part.bytes) p) a read) in
    let room = within r.own in
    record {
      forward = r.forward;
      own = room;
      same = λ ys long same.
          ap (λ m. in_frames f (with_bytes part ys) m p) long ∙
          ap (with_reason frame_reason (part.file_at + p)) (r.same (take n ys) (same_cut p a.1 n part.bytes ys inside room same));
    }
  where
    within : a.1 ≤ length (take (length part.bytes) part.bytes) ⊎ (a.1 ≡ p) → a.1 ≤ length part.bytes
    within (inl le) = omega (arith, le, length-take (length part.bytes) part.bytes)
    within (inr e) = omega (arith, e, inside)

abbrev second : Result (ℕ × ℕ) Fault → ℕ
second (Ok x) = x.1
second (Err f) = 0

-- a number of four bytes is followed by the place behind it
pub behind_four : (part : Part) (stop p n next : ℕ) → in_frames (fixed w32) part stop p ≡ Ok (n, next) → next ≡ p + 4
behind_four part stop p n next read = by (nat_lt (length (drop p (take stop part.bytes))) 4) read
  where
    by : (b : Bool) → with_reason frame_reason (part.file_at + p) (behind p (if b then Err Truncated else Ok (from_le_bytes w32 (take 4 (drop p (take stop part.bytes))), 4))) ≡ Ok (n, next) → next ≡ p + 4
    by true e = absurd cc
    by false e = sym (ap second e)

-- where the last of some parts ends, or else where they begin
abbrev pub last_of : ℕ → List Span → ℕ
last_of p spans = fold (λ e s. max e s.stop) p spans

pub last_above : (p : ℕ) (spans : List Span) → (p ≤ last_of p spans) × AllByRecursion (λ s. s.stop ≤ last_of p spans) spans
last_above p [] = (omega arith, tt)
last_above p (s ∷ ss) =
    let rest = last_above (max p s.stop) ss in
    let first = rest.0 in
    (omega (arith, first), (omega (arith, first), rest.1))

-- and behind the length that ends the list, if it does not end with its segment
abbrev end_with : ℕ → ℕ → ℕ
end_with len last = if last == len then last else last + 4

end_above : (len last : ℕ) → last ≤ end_with len last
end_above len last = step (last == len)
  where
    step : (b : Bool) → last ≤ (if b then last else last + 4)
    step true = omega arith
    step false = omega arith

-- each part begins at or behind the place, and its bytes follow its length
abbrev pub StandsFrom : ℕ → Span → Type 0
StandsFrom p s = (p ≤ s.at) × (s.at + 4 ≤ s.stop)

spans_stand : (n : ℕ) (part : Part) (p : ℕ) → AllByRecursion (StandsFrom p) (spans_within n part p).list
unfolding spans_within
spans_stand zero part p = tt
spans_stand (suc n) part p = by (λ q. spans_stand n part q) (nat_lt p (length part.bytes)) (in_frames (fixed w32) part (length part.bytes) p) refl
  where
    by : ((q : ℕ) → AllByRecursion (StandsFrom q) (spans_within n part q).list) → (b : Bool) (read : Result (ℕ × ℕ) Fault) → in_frames (fixed w32) part (length part.bytes) p ≡ read →
        AllByRecursion (StandsFrom p) (spans_from part p b read (spans_within n part)).list
    by later false read e = tt
    by later true (Err f) e = tt
    by later true (Ok (zero, next)) e = tt
    by later true (Ok (suc k, next)) e = fits (nat_le (next + suc k) (length part.bytes))
      where
        fits : (b : Bool) → AllByRecursion (StandsFrom p) (spans_after part p b (record { at = p; stop = next + suc k }) (spans_within n part)).list
        fits false = tt
        fits true =
            let four = behind_four part (length part.bytes) p (suc k) next e in (
              (omega arith, omega (arith, four)),
              all_more (StandsFrom (next + suc k)) (StandsFrom p) (λ s is. let low = is.0 in (omega (arith, low, four), is.1)) (spans_within n part (next + suc k)).list (later (next + suc k)),
            )

pub parts_stand : (part : Part) (p : ℕ) → AllByRecursion (StandsFrom p) (spans_within (length part.bytes) part p).list
parts_stand part p = spans_stand (length part.bytes) part p

within_same : (n : ℕ) (part : Part) (ys : List ℕ) (p : ℕ) → length ys ≡ length part.bytes → (spans_within n part p).cut ≡ [] →
    Same p (end_with (length part.bytes) (last_of p (spans_within n part p).list)) part.bytes ys → spans_within n (with_bytes part ys) p ≡ spans_within n part p
unfolding spans_within
within_same zero part ys p long cut same = refl
within_same (suc n) part ys p long cut same =
    ap (λ m. spans_from other p (nat_lt p m) (in_frames (fixed w32) other m p) (spans_within n other)) long ∙
    by_inside (nat_lt p len) refl cut same (λ q c s. within_same n part ys q long c s)
  where
    other : Part
    other = with_bytes part ys

    len : ℕ
    len = length part.bytes

    Later : Type 0
    Later = (q : ℕ) → (spans_within n part q).cut ≡ [] → Same q (end_with len (last_of q (spans_within n part q).list)) part.bytes ys → spans_within n other q ≡ spans_within n part q

    own : p < len → (k next : ℕ) → in_frames (fixed w32) part len p ≡ Ok (k, next) → FieldReads (fixed w32) part p (k, next)
    own inside k next e = whole_reads (fixed w32) (front_fixed w32) part p (k, next) (omega (arith, inside)) e

    again : (k next : ℕ) → in_frames (fixed w32) other (length ys) p ≡ Ok (k, next) → in_frames (fixed w32) other len p ≡ Ok (k, next)
    again k next e = sym (ap (λ m. in_frames (fixed w32) other m p) long) ∙ e

    by_fit : p < len → (k next : ℕ) → in_frames (fixed w32) part len p ≡ Ok (suc k, next) → (b : Bool) → nat_le (next + suc k) len ≡ b →
        (spans_after part p b (record { at = p; stop = next + suc k }) (spans_within n part)).cut ≡ [] →
        Same p (end_with len (last_of p (spans_after part p b (record { at = p; stop = next + suc k }) (spans_within n part)).list)) part.bytes ys → Later →
        spans_after other p (nat_le (next + suc k) (length ys)) (record { at = p; stop = next + suc k }) (spans_within n other) ≡
        spans_after part p b (record { at = p; stop = next + suc k }) (spans_within n part)
    by_fit inside k next e false fit c s later = absurd cc
    by_fit inside k next e true fit c s later =
        let stop = next + suc k in
        let rest = spans_within n part stop in
        let span : Span = record { at = p; stop = stop } in
        let forward = (own inside (suc k) next e).forward in
        let from : max p stop ≡ stop = omega (arith, forward) in
        let end = end_with len (last_of stop rest.list) in
        let same' : Same p end part.bytes ys = subst (λ q. Same p (end_with len (last_of q rest.list)) part.bytes ys) from s in
        ap (λ m. spans_after other p (nat_le stop m) span (spans_within n other)) long ∙
        ap (λ b. spans_after other p b span (spans_within n other)) fit ∙
        ap (and_spans span) (later stop c (same_inside p end stop end part.bytes ys (omega (arith, forward)) (omega arith) same'))

    by_read : p < len → (r : Result (ℕ × ℕ) Fault) → in_frames (fixed w32) part len p ≡ r → (spans_from part p true r (spans_within n part)).cut ≡ [] →
        Same p (end_with len (last_of p (spans_from part p true r (spans_within n part)).list)) part.bytes ys → Later →
        spans_from other p true (in_frames (fixed w32) other len p) (spans_within n other) ≡ spans_from part p true r (spans_within n part)
    by_read inside (Err f) e c s later = absurd cc
    by_read inside (Ok (zero, next)) e c s later =
        let reads = own inside zero next e in
        let four = behind_four part len p zero next e in
        let other_end : (p == len) ≡ false = grind (arith, nat_tests, inside) in
        let end : end_with len p ≡ p + 4 = ap (λ b. if b then p else p + 4) other_end in
        ap (λ r. spans_from other p true r (spans_within n other))
        (again zero next (reads.same ys long (same_inside p (end_with len p) p next part.bytes ys (omega arith) (omega (arith, four, end)) s)))
    by_read inside (Ok (suc k, next)) e c s later =
        let reads = own inside (suc k) next e in
        ap (λ r. spans_from other p true r (spans_within n other)) (again (suc k) next (reads.same ys long (front_same reads.forward (nat_le (next + suc k) len) refl c s))) ∙
        by_fit inside k next e (nat_le (next + suc k) len) refl c s later
      where
        front_same : p ≤ next → (b : Bool) → nat_le (next + suc k) len ≡ b → (spans_after part p b (record { at = p; stop = next + suc k }) (spans_within n part)).cut ≡ [] →
            Same p (end_with len (last_of p (spans_after part p b (record { at = p; stop = next + suc k }) (spans_within n part)).list)) part.bytes ys → Same p next part.bytes ys
        front_same forward false fit c' s' = absurd cc
        front_same forward true fit c' s' =
            let stop = next + suc k in
            let rest = (spans_within n part stop).list in
            let last = last_of (max p stop) rest in
            let up = (last_above (max p stop) rest).0 in
            let over = end_above len last in
            same_inside p (end_with len last) p next part.bytes ys (omega arith) (omega (arith, up, over)) s'

    by_inside : (b : Bool) → nat_lt p len ≡ b → (spans_from part p b (in_frames (fixed w32) part len p) (spans_within n part)).cut ≡ [] →
        Same p (end_with len (last_of p (spans_from part p b (in_frames (fixed w32) part len p) (spans_within n part)).list)) part.bytes ys → Later →
        spans_from other p b (in_frames (fixed w32) other len p) (spans_within n other) ≡ spans_from part p b (in_frames (fixed w32) part len p) (spans_within n part)
    by_inside false e c s later = refl
    by_inside true e c s later = by_read (grind (arith, nat_tests, e)) (in_frames (fixed w32) part len p) refl c s later

pub spans_same : (part : Part) (ys : List ℕ) (p : ℕ) → length ys ≡ length part.bytes → (spans_within (length part.bytes) part p).cut ≡ [] → Same p (frames_end part p) part.bytes ys →
    spans_within (length ys) (with_bytes part ys) p ≡ spans_within (length part.bytes) part p
spans_same part ys p long cut same = ap (λ m. spans_within m (with_bytes part ys) p) long ∙ within_same (length part.bytes) part ys p long cut same

-- all parts stand between the place and the end of the frames
pub parts_before : (part : Part) (p : ℕ) → AllByRecursion (λ s. s.stop ≤ frames_end part p) (spans_within (length part.bytes) part p).list
parts_before part p =
    let spans = (spans_within (length part.bytes) part p).list in
    let over = end_above (length part.bytes) (last_of p spans) in
    all_more (λ s. s.stop ≤ last_of p spans) (λ s. s.stop ≤ frames_end part p) (λ s is. omega (arith, is, over)) spans (last_above p spans).1
