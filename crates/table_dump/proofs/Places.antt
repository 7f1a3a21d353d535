-- CIEs stand in the segment of the frames.
use Rattle.std.proofs.Common.{◌≡◌, ◌+◌, ◌-◌, ◌<◌, ◌≤◌, ◌==◌, ◌||◌, ℕ, ℤ, zero, suc, Bool, true, false, nat_lt, nat_le, List, [], ◌∷◌, ◌++◌, map, filter_map, length, Option, Some, None, Ok, Err, Result, refl, sym, subst, arith}
use Rattle.std.specs.Bool.{⊤}
use Rattle.std.specs.Prelude.{option_and_then}
use Rattle.std.specs.Int.{w32}
use Rattle.std.specs.List.{AllByRecursion, cons_option}
use Rattle.std.proofs.lemmas.Bool.Decides.{nat_tests}
use Rattle.eh_bytes.specs.Memory.{Part, Memory, part_with}
use Rattle.eh_bytes.specs.Field.{byte, fixed}
use Rattle.eh_bytes.specs.Leb128.{uleb, sleb}
use Rattle.table_forms.specs.declared.reason.Reason.TheVariants.{FrameTruncated, Version}
use Rattle.table_forms.specs.Fault.{Fault, fault, demand, least, answer}
use Rattle.table_forms.specs.Instruction.{in_frames}
use Rattle.table_forms.specs.Instructions.{Instructions, instructions_at}
use Rattle.table_forms.specs.Cie.{Cie, Letters, text, no_wrong, wrong_letter, return_register_at, augmented, cie_at}
use Rattle.table_forms.specs.Fde.{Fde, fde_at}
use Rattle.table_forms.specs.Spans.{Span, spans_after, spans_from, spans_within, distance_at}
use Rattle.table_forms.specs.Parts.{Said, refused, said_cie, said_fde, unread, cie_said, fde_said, said_behind, said_of, says, cie_behind, cies_of, cie_in, parts_at}
use Rattle.table_forms.specs.Header.{header_at}
use Rattle.table_forms.specs.Frames.{Frames, parts_in, parts_behind, table_disagreement, frames_in, frames_from, frames}
use Rattle.elf_image.specs.Runnable.{start_in}
use Rattle.table_check.proofs.Read.{IfRead, bind, read_at, answered, unread as no_reading}
use Rattle.table_dump.specs.Heads.{frames_part}

placed : (c : Cie) (n : ℕ) → c.place ≡ n → IfRead (λ x. x.place ≡ n) (Ok c)
unfolding IfRead
placed c n e = e

cie_placed : (part : Part) (at stop p : ℕ) → IfRead (λ c. c.place ≡ part.file_at + at) (cie_at part at stop p)
unfolding cie_at
cie_placed part at stop p =
    let P : Cie → Type 0 = λ c. c.place ≡ part.file_at + at in
    bind {A = ℕ × ℕ} P (in_frames byte part stop p) _ (λ version _.
    bind {A = Bool} P (demand (version.0 == 1 || version.0 == 3) Version (part.file_at + p)) _ (λ known _.
    bind {A = List ℕ × ℕ} P (in_frames text part stop version.1) _ (λ name _.
    bind {A = Bool} P (no_wrong part (wrong_letter version.1 name.0)) _ (λ letters _.
    bind {A = ℕ × ℕ} P (in_frames uleb part stop name.1) _ (λ code _.
    bind {A = ℤ × ℕ} P (in_frames sleb part stop code.1) _ (λ factor _.
    bind {A = ℕ × ℕ} P (return_register_at version.0 part stop factor.1) _ (λ return _.
    bind {A = Letters × ℕ} P (augmented part stop name.0 return.1) _ (λ l _.
    bind {A = Instructions} P (instructions_at (record { code_factor = code.0; data_factor = factor.0; encoding = l.0.encoding }) part stop l.1 0) _ (λ is _.
    placed (record {
      place = part.file_at + at;
      version = version.0;
      augmentation = name.0;
      coding = record { code_factor = code.0; data_factor = factor.0; encoding = l.0.encoding };
      return_register = return.0;
      lsda_encoding = l.0.lsda_encoding;
      signal = l.0.signal;
      instructions = is.list;
      states = is.states;
    }) (part.file_at + at) refl)))))))))

-- what a part says puts no CIE but at its place
abbrev SaysAt : ℕ → Said → Type 0
SaysAt n (said_cie c) = c.place ≡ n
SaysAt n (said_fde f) = ⊤
SaysAt n (refused e) = ⊤
SaysAt n unread = ⊤

says_at : (part : Part) (entries : List (ℕ × Result Cie Fault)) (s : Span) → SaysAt (part.file_at + s.at) (says part entries s)
unfolding says
says_at part entries s = by (distance_at part s)
  where
    fde : (r : Result Fde Fault) → SaysAt (part.file_at + s.at) (fde_said r)
    fde (Ok f) = tt
    fde (Err e) = tt

    cie : (r : Result Cie Fault) → IfRead (λ c. c.place ≡ part.file_at + s.at) r → SaysAt (part.file_at + s.at) (cie_said r)
    cie (Ok c) at = read_at (λ (c : Cie). c.place ≡ part.file_at + s.at) (Ok c) c refl at
    cie (Err e) at = tt

    behind : (next : ℕ) (o : Option (Result Cie Fault)) → SaysAt (part.file_at + s.at) (said_behind part s next o)
    behind next None = tt
    behind next (Some (Err e)) = tt
    behind next (Some (Ok c)) = fde (fde_at c part s.at s.stop next)

    by : (d : Result (ℕ × ℕ) Fault) → SaysAt (part.file_at + s.at) (said_of part entries s d)
    by (Err e) = tt
    by (Ok (zero, next)) = cie (cie_at part s.at s.stop next) (cie_placed part s.at s.stop next)
    by (Ok (suc d, next)) = behind next (cie_behind entries s.at (suc d))

-- at a byte of the segment
abbrev pub IsPlaced : Part → Cie → Type 0
IsPlaced part c = (part.file_at ≤ c.place) × (c.place < part.file_at + length part.bytes)

abbrev Begins : Part → Span → Type 0
Begins part s = s.at < length part.bytes

spans_begin : (n : ℕ) (part : Part) (p : ℕ) → AllByRecursion (Begins part) (spans_within n part p).list
unfolding spans_within
spans_begin zero part p = tt
spans_begin (suc n) part p = by (λ q. spans_begin n part q) (nat_lt p (length part.bytes)) refl (in_frames (fixed w32) part (length part.bytes) p)
  where
    after : ((q : ℕ) → AllByRecursion (Begins part) (spans_within n part q).list) → p < length part.bytes → (b : Bool) (stop : ℕ) →
        AllByRecursion (Begins part) (spans_after part p b (record { at = p; stop = stop }) (spans_within n part)).list
    after more less true stop = (less, more stop)
    after more less false stop = tt

    by : ((q : ℕ) → AllByRecursion (Begins part) (spans_within n part q).list) → (b : Bool) → nat_lt p (length part.bytes) ≡ b → (r : Result (ℕ × ℕ) Fault) →
        AllByRecursion (Begins part) (spans_from part p b r (spans_within n part)).list
    by more false e r = tt
    by more true e (Err f) = tt
    by more true e (Ok (zero, next)) = tt
    by more true e (Ok (suc m, next)) = after more (grind (arith, nat_tests, e)) (nat_le (next + suc m) (length part.bytes)) (next + suc m)

cies_placed : (part : Part) (entries : List (ℕ × Result Cie Fault)) (spans : List Span) → AllByRecursion (Begins part) spans → AllByRecursion (IsPlaced part) (filter_map cie_in (map (says part entries) spans))
cies_placed part entries [] all = tt
cies_placed part entries (s ∷ spans) all = by (cies_placed part entries spans all.1) (says part entries s) (says_at part entries s)
  where
    rest : List Cie
    rest = filter_map cie_in (map (says part entries) spans)

    by : AllByRecursion (IsPlaced part) rest → (x : Said) → SaysAt (part.file_at + s.at) x → AllByRecursion (IsPlaced part) (cons_option (cie_in x) rest)
    by more (said_cie c) at = let a = all.0 in ((omega (arith, at), omega (arith, at, a)), more)
    by more (said_fde f) at = more
    by more (refused e) at = more
    by more unread at = more

parts_placed : (part : Part) (p : ℕ) → AllByRecursion (IsPlaced part) (parts_at part p).cies
unfolding parts_at
parts_placed part p = let spans = spans_within (length part.bytes) part p in cies_placed part (cies_of part spans.list) spans.list (spans_begin (length part.bytes) part p)

-- without a segment there is none
abbrev pub ArePlaced : Option Part → List Cie → Type 0
ArePlaced None cies = cies ≡ []
ArePlaced (Some part) cies = AllByRecursion (IsPlaced part) cies

behind_placed : (memory : Memory) (pointer_place : ℕ) (o : Option ℕ) → ArePlaced (option_and_then (part_with memory) o) (parts_behind memory pointer_place o).cies
behind_placed memory pointer_place None = refl
behind_placed memory pointer_place (Some a) = by (part_with memory a)
  where
    by : (found : Option Part) → ArePlaced found (parts_in pointer_place found a).cies
    by None = refl
    by (Some part) = parts_placed part (a - part.address)

all_placed : (memory : Memory) (header : ℕ) → IfRead (λ x. ArePlaced (frames_part memory header) x.cies) (frames memory header)
unfolding frames frames_in
all_placed memory header = from (part_with memory header) refl
  where
    from : (o : Option Part) → part_with memory header ≡ o → IfRead (λ x. ArePlaced (frames_part memory header) x.cies) (frames_from memory header o)
    from None e = no_reading {A = Frames} (λ x. ArePlaced (frames_part memory header) x.cies) (fault FrameTruncated 0)
    from (Some part) e =
        let p = header - part.address in
        let h = header_at part p in
        let parts = parts_behind memory (part.file_at + (p + 4)) h.frames_at in
        bind {A = Bool} {B = Frames} (λ x. ArePlaced (frames_part memory header) x.cies) (answer (least (h.faults ++ parts.faults)) true) _
        (λ whole _. answered {A = Frames} (λ x. ArePlaced (frames_part memory header) x.cies) (table_disagreement (part.file_at + (p + 12)) h.rows parts.fdes) (record { cies = parts.cies; fdes = parts.fdes })
        (subst (λ o. ArePlaced (option_and_then (part_with memory) (start_in header o)) parts.cies) (sym e) (behind_placed memory (part.file_at + (p + 4)) h.frames_at)))

pub frames_placed : (memory : Memory) (header : ℕ) (d : Frames) → frames memory header ≡ Ok d → ArePlaced (frames_part memory header) d.cies
frames_placed memory header d is = read_at {A = Frames} (λ x. ArePlaced (frames_part memory header) x.cies) (frames memory header) d is (all_placed memory header)
