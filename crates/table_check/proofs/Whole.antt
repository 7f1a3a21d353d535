-- What is read of a clean image.
use Rattle.std.proofs.Common.{◌≡◌, ◌+◌, ◌≤◌, ◌^◌, ℕ, Bool, List, [], ◌∷◌, map, Ok, Err, Result, refl, ap, sym, subst, ◌∙◌, arith, length}
use Rattle.std.specs.List.{sum_by, AllByRecursion}
use Rattle.std.specs.Prelude.{Option, IsErrAnd, IsOkAnd, Vec}
use Rattle.std.specs.Global.{Global}
use Rattle.std.proofs.lemmas.List.{length-map}
use Rattle.eh_bytes.specs.Memory.{Memory, memory_of}
use Rattle.table_forms.specs.Fault.{Fault, ◌>>=◌}
use Rattle.table_forms.specs.Fde as forms
use Rattle.table_forms.specs.Lsda.{Table}
use Rattle.table_forms.specs.Frames.{Frames, frames, sorted}
use Rattle.elf_image.specs.declared.elf.Elf.{Elf}
use Rattle.elf_image.specs.declared.error.ImageError.{ImageError}
use Rattle.elf_image.specs.declared.error.ImageError.TheVariants as errors
use Rattle.elf_image.specs.Elf.{elf}
use Rattle.elf_image.specs.Reads.{image_seen}
use Rattle.elf_image.specs.Reports.{reported}
use Rattle.elf_image.specs.Clean.{Function, table_named, functions_of, judged}
use Rattle.elf_image.specs.Loads.{IsSmall}
use Rattle.elf_image.proofs.Sizes.{small_parts}
use Rattle.frame_read.specs.Listed.{cie_listed, fde_listed}
use Rattle.frame_read.specs.ReadsFrames.{Listing, listing}
use Rattle.frame_read.specs.declared.listed.Fde.{Fde}
use Rattle.table_check.specs.Counts.{tables_in, sites_in, counts}
use Rattle.table_check.specs.Tally.{IsFit, tallied}
use Rattle.table_check.specs.Checks.{IsReported, ReadsClean}
use Rattle.table_check.proofs.Bounds.{Ends}
use Rattle.table_check.proofs.Few.{AreSound, order_sound}
use Rattle.table_check.proofs.Judged.{made, sums, tallied_functions, behind_frames, reports}

-- ---- the FDEs of functions
functions_fdes : (memory : Memory) (fs : List forms.Fde) (gs : List Function) → functions_of memory fs ≡ Ok gs → map (λ g. fde_listed g.fde) gs ≡ map fde_listed fs
functions_fdes memory [] gs e = by [] gs e
  where
    same : (xs ys : List Function) (r : Result (List Function) Fault) → r ≡ Ok xs → r ≡ Ok ys → xs ≡ ys
    same xs ys r e f = cc

    by : (xs : List Function) (gs : List Function) → functions_of memory [] ≡ Ok gs → map (λ g. fde_listed g.fde) gs ≡ []
    by xs gs e = ap (map (λ g. fde_listed g.fde)) (sym (same [] gs (Ok []) refl e))
functions_fdes memory (f ∷ fs) gs e = by (λ hs. functions_fdes memory fs hs) (table_named memory f.lsda f.region) e
  where
    same : (xs ys : List Function) (r : Result (List Function) Fault) → r ≡ Ok xs → r ≡ Ok ys → xs ≡ ys
    same xs ys r e f = cc

    rest : (t : Option Table) → ((hs : List Function) → functions_of memory fs ≡ Ok hs → map (λ g. fde_listed g.fde) hs ≡ map fde_listed fs) → (r : Result (List Function) Fault) → functions_of memory fs ≡ r →
        (r >>= λ more. Ok (record { fde = f; table = t } ∷ more)) ≡ Ok gs → map (λ g. fde_listed g.fde) gs ≡ fde_listed f ∷ map fde_listed fs
    rest t more (Err x) is e = absurd cc
    rest t more (Ok hs) is e =
        ap (map (λ (g : Function). fde_listed g.fde)) (sym (same (record { fde = f; table = t } ∷ hs) gs (Ok (record { fde = f; table = t } ∷ hs)) refl e)) ∙ ap (λ xs. fde_listed f ∷ xs) (more hs is)

    by : ((hs : List Function) → functions_of memory fs ≡ Ok hs → map (λ g. fde_listed g.fde) hs ≡ map fde_listed fs) → (r : Result (Option Table) Fault) →
        ((r >>= λ t. Ok (record { fde = f; table = t })) >>= λ first. functions_of memory fs >>= λ more. Ok (first ∷ more)) ≡ Ok gs → map (λ g. fde_listed g.fde) gs ≡ fde_listed f ∷ map fde_listed fs
    by more (Err x) e = absurd cc
    by more (Ok t) e = rest t more (functions_of memory fs) refl e

-- ---- what the counting of tables asks
-- the FDEs in their order
abbrev pub IsOrder : Listing → List Fde → Type 0
IsOrder l order = (fs : List forms.Fde) → l.fdes ≡ map fde_listed fs → order ≡ map fde_listed (sorted fs)

fits_listed : (fs : List forms.Fde) → AllByRecursion Ends fs → AllByRecursion IsFit (map fde_listed fs)
fits_listed [] all = tt
fits_listed (f ∷ fs) all = (all.0, fits_listed fs all.1)

pub memory_small : (file : List ℕ) (run : Bool) (e : Elf) → elf file run ≡ Ok (image_seen e) → AllByRecursion IsSmall (memory_of e.segments)
memory_small file run e is = small_parts file run (image_seen e) is

sound : (file : List ℕ) (run : Bool) (e : Elf) (d : Frames) → elf file run ≡ Ok (image_seen e) → frames (memory_of e.segments) e.frame_header ≡ Ok d → AreSound (sorted d.fdes)
sound file run e d is read = order_sound (memory_of e.segments) e.frame_header d (memory_small file run e is) read

-- for each reading
with_frames : {Q : Type 0} (l : Listing) (r : Result Frames Fault) → IsOkAnd r (λ d. l ≡ listing d) → ((d : Frames) → r ≡ Ok d → l ≡ listing d → Q) → Q
with_frames l (Ok d) seen step = step d refl seen
with_frames l (Err f) seen step = absurd seen

pub order_fits : (file : List ℕ) (run : Bool) (e : Elf) (l : Listing) (order : List Fde) → elf file run ≡ Ok (image_seen e) →
    IsOkAnd (frames (memory_of e.segments) e.frame_header) (λ d. l ≡ listing d) → IsOrder l order → AllByRecursion IsFit order
order_fits file run e l order is read ordered =
    with_frames l (frames (memory_of e.segments) e.frame_header) read (λ d r seen.
    subst (AllByRecursion IsFit) (sym (ordered d.fdes (ap (λ (x : Listing). x.fdes) seen))) (fits_listed (sorted d.fdes) (sound file run e d is r).end))

pub order_few : (file : List ℕ) (run : Bool) (e : Elf) (l : Listing) (order : List Fde) → elf file run ≡ Ok (image_seen e) →
    IsOkAnd (frames (memory_of e.segments) e.frame_header) (λ d. l ≡ listing d) → IsOrder l order → length order ≤ 2 ^ 30
order_few file run e l order is read ordered =
    with_frames l (frames (memory_of e.segments) e.frame_header) read (λ d r seen.
    let s = sound file run e d is r in let few = s.few in
    omega (arith, few, ap length (ordered d.fdes (ap (λ (x : Listing). x.fdes) seen)), length-map (sorted d.fdes) fde_listed))

-- ---- its answers
pub reports_tables : (file : List ℕ) (run : Bool) (e : Elf) (l : Listing) (order : List Fde) (x : ImageError) → elf file run ≡ Ok (image_seen e) →
    IsOkAnd (frames (memory_of e.segments) e.frame_header) (λ d. l ≡ listing d) → IsOrder l order →
    IsErrAnd (tallied (memory_of e.segments) 0 0 order) (λ f. x ≡ reported f) → IsReported x (judged file run)
reports_tables file run e l order x is read ordered said =
    with_frames l (frames (memory_of e.segments) e.frame_header) read (λ d r seen. by d r (functions_of (memory_of e.segments) (sorted d.fdes)) refl
    (subst (λ o. IsErrAnd o (λ f. x ≡ reported f)) (ap (tallied (memory_of e.segments) 0 0) (ordered d.fdes (ap (λ (y : Listing). y.fdes) seen)) ∙ tallied_functions (memory_of e.segments) 0 0 (sorted d.fdes)) said))
  where
    by : (d : Frames) → frames (memory_of e.segments) e.frame_header ≡ Ok d → (r : Result (List Function) Fault) → functions_of (memory_of e.segments) (sorted d.fdes) ≡ r →
        IsErrAnd (r >>= sums 0 0) (λ f. x ≡ reported f) → IsReported x (judged file run)
    by d r (Ok fs) t said = absurd said
    by d r (Err f) t said = reports f x (judged file run) (behind_frames file run (image_seen e) d (Err f) is r t) said

pub reports_counted : (file : List ℕ) (run : Bool) (e : Elf) (l : Listing) (order : List Fde) (x : ImageError) → elf file run ≡ Ok (image_seen e) →
    IsOkAnd (frames (memory_of e.segments) e.frame_header) (λ d. l ≡ listing d) → IsOrder l order →
    IsReported x (tallied (memory_of e.segments) 0 0 order) → IsReported x (judged file run)
reports_counted file run e l order (errors.Refused reason place location other) is read ordered said =
    reports_tables file run e l order (errors.Refused reason place location other) is read ordered said
reports_counted file run e l order errors.NoMemory is read ordered said = tt

pub reads_clean : (file : List ℕ) (run : Bool) (e : Elf) (l : Listing) (order : Vec Fde Global) (n k tables sites : ℕ) → elf file run ≡ Ok (image_seen e) →
    IsOkAnd (frames (memory_of e.segments) e.frame_header) (λ d. l ≡ listing d) → IsOrder l order.items → tallied (memory_of e.segments) 0 0 order.items ≡ Ok (tables, sites) →
    n ≡ length l.cies → k ≡ length order.items →
    ReadsClean (Ok (record { elf = e; frames = l; order = order; summary = record { cies = n; frames = k; tables = tables; sites = sites } })) (judged file run)
unfolding counts
reads_clean file run e l order n k tables sites is read ordered counted cies fdes =
    with_frames l (frames (memory_of e.segments) e.frame_header) read (λ d r seen. by d r seen (functions_of (memory_of e.segments) (sorted d.fdes)) refl
    (sym (tallied_functions (memory_of e.segments) 0 0 (sorted d.fdes)) ∙ sym (ap (tallied (memory_of e.segments) 0 0) (ordered d.fdes (ap (λ (y : Listing). y.fdes) seen))) ∙ counted))
  where
    pair : (a b : ℕ × ℕ) (r : Result (ℕ × ℕ) Fault) → r ≡ Ok a → r ≡ Ok b → a ≡ b
    pair a b r p q = cc

    by : (d : Frames) → frames (memory_of e.segments) e.frame_header ≡ Ok d → l ≡ listing d → (r : Result (List Function) Fault) → functions_of (memory_of e.segments) (sorted d.fdes) ≡ r →
        (r >>= sums 0 0) ≡ Ok (tables, sites) → ReadsClean (Ok (record { elf = e; frames = l; order = order; summary = record { cies = n; frames = k; tables = tables; sites = sites } })) (judged file run)
    by d r seen (Err f) t said = absurd cc
    by d r seen (Ok fs) t said =
        let those : order.items ≡ map (λ (f : Function). fde_listed f.fde) fs = ordered d.fdes (ap (λ (y : Listing). y.fdes) seen) ∙ sym (functions_fdes (memory_of e.segments) (sorted d.fdes) fs t) in
        let a : n ≡ length d.cies = cies ∙ ap (λ (y : Listing). length y.cies) seen ∙ length-map d.cies cie_listed in
        let b : k ≡ length fs = fdes ∙ ap length those ∙ length-map fs (λ (f : Function). fde_listed f.fde) in
        let two = pair (0 + sum_by (λ (g : Function). tables_in g.table) fs, 0 + sum_by (λ (g : Function). sites_in g.table) fs) (tables, sites) (Ok (0 + sum_by (λ (g : Function). tables_in g.table) fs, 0 + sum_by (λ (g : Function). sites_in g.table) fs)) refl said in
        let first : tables ≡ sum_by (λ (g : Function). tables_in g.table) fs = let t = ap (λ (p : ℕ × ℕ). p.0) two in omega (arith, t) in
        let second : sites ≡ sum_by (λ (g : Function). sites_in g.table) fs = let t = ap (λ (p : ℕ × ℕ). p.1) two in omega (arith, t) in (
          made (image_seen e) d fs,
          behind_frames file run (image_seen e) d (Ok fs) is r t,
          record {
            image = refl;
            frames_read = read;
            cies = ap (λ (y : Listing). y.cies) seen;
            fdes = those;
            summary = rw (a, b, first, second) refl;
          },
        )
