-- A whole image by its steps.
use Rattle.std.proofs.Common.{◌≡◌, ◌+◌, ℕ, Bool, List, [], ◌∷◌, map, Ok, Err, Result, refl, ap, sym, subst, ◌∙◌, arith}
use Rattle.std.specs.List.{sum_by}
use Rattle.std.specs.Prelude.{Option, IsErrAnd}
use Rattle.std.proofs.lemmas.List.Sums.{sum_by-cons}
use Rattle.eh_bytes.specs.Memory.{Memory}
use Rattle.table_forms.specs.Fault.{Fault, ◌>>=◌}
use Rattle.table_forms.specs.Lsda.{Table}
use Rattle.table_forms.specs.Fde as forms
use Rattle.table_forms.specs.Frames.{Frames, frames, sorted}
use Rattle.elf_image.specs.declared.error.ImageError.{ImageError}
use Rattle.elf_image.specs.declared.error.ImageError.TheVariants as errors
use Rattle.elf_image.specs.Elf.{Image, elf}
use Rattle.elf_image.specs.Reads.{ReadsImage}
use Rattle.elf_image.specs.Reports.{reported}
use Rattle.elf_image.specs.Clean.{Function, CleanImage, table_named, functions_of, judged}
use Rattle.frame_read.specs.Listed.{fde_listed}
use Rattle.frame_read.specs.ReadsFrames.{ReadsFrames}
use Rattle.frame_read.specs.declared.error.FrameError.{FrameError}
use Rattle.frame_read.specs.declared.error.FrameError.TheVariants as causes
use Rattle.table_check.specs.Refusals.{of_frames}
use Rattle.table_check.specs.Counts.{tables_in, sites_in}
use Rattle.table_check.specs.Tally.{tallied}
use Rattle.table_check.specs.Checks.{IsReported}

-- ---- the tables counted are those of the functions
abbrev pub sums : ℕ → ℕ → List Function → Result (ℕ × ℕ) Fault
sums tables sites gs = Ok (tables + sum_by (λ g. tables_in g.table) gs, sites + sum_by (λ g. sites_in g.table) gs)

sums_on : (tables sites : ℕ) (g : Function) (gs : List Function) → sums (tables + tables_in g.table) (sites + sites_in g.table) gs ≡ sums tables sites (g ∷ gs)
sums_on tables sites g gs =
    let a = sum_by-cons (λ (f : Function). tables_in f.table) g gs in
    let b = sum_by-cons (λ (f : Function). sites_in f.table) g gs in
    let d : tables + tables_in g.table + sum_by (λ (f : Function). tables_in f.table) gs ≡ tables + sum_by (λ (f : Function). tables_in f.table) (g ∷ gs) = omega (arith, a) in
    let e : sites + sites_in g.table + sum_by (λ (f : Function). sites_in f.table) gs ≡ sites + sum_by (λ (f : Function). sites_in f.table) (g ∷ gs) = omega (arith, b) in
    ap (λ n. Ok (n, sites + sites_in g.table + sum_by (λ (f : Function). sites_in f.table) gs)) d ∙ ap (λ n. Ok (tables + sum_by (λ (f : Function). tables_in f.table) (g ∷ gs), n)) e

pub tallied_functions : (memory : Memory) (tables sites : ℕ) (fs : List forms.Fde) → tallied memory tables sites (map fde_listed fs) ≡ (functions_of memory fs >>= sums tables sites)
tallied_functions memory tables sites [] = let a : tables ≡ tables + 0 = omega arith in let b : sites ≡ sites + 0 = omega arith in ap (λ n. Ok (n, sites)) a ∙ ap (λ n. Ok (tables + 0, n)) b
tallied_functions memory tables sites (f ∷ fs) = by (λ t s. tallied_functions memory t s fs) (table_named memory f.lsda f.region)
  where
    made : Option Table → Function
    made t = record { fde = f; table = t }

    rest : (t : Option Table) (r : Result (List Function) Fault) →
        (r >>= sums (tables + tables_in t) (sites + sites_in t)) ≡ ((r >>= λ gs. Ok (made t ∷ gs)) >>= sums tables sites)
    rest t (Err e) = refl
    rest t (Ok gs) = sums_on tables sites (made t) gs

    by : ((t s : ℕ) → tallied memory t s (map fde_listed fs) ≡ (functions_of memory fs >>= sums t s)) → (r : Result (Option Table) Fault) →
        (r >>= λ t. tallied memory (tables + tables_in t) (sites + sites_in t) (map fde_listed fs)) ≡
        (((r >>= λ t. Ok (made t)) >>= λ first. functions_of memory fs >>= λ more. Ok (first ∷ more)) >>= sums tables sites)
    by more (Err e) = refl
    by more (Ok t) = more (tables + tables_in t) (sites + sites_in t) ∙ rest t (functions_of memory fs)

-- ---- the steps
abbrev pub made : Image → Frames → List Function → CleanImage
made i d fs = record { image = i; cies = d.cies; functions = fs }

elf_refused : (file : List ℕ) (run : Bool) (f : Fault) → elf file run ≡ Err f → judged file run ≡ Err f
unfolding judged
elf_refused file run f e = ap (λ r. r >>= λ i. frames i.memory i.frame_header >>= λ d. functions_of i.memory (sorted d.fdes) >>= λ fs. Ok (made i d fs)) e

frames_refused : (file : List ℕ) (run : Bool) (i : Image) (f : Fault) → elf file run ≡ Ok i → frames i.memory i.frame_header ≡ Err f → judged file run ≡ Err f
unfolding judged
frames_refused file run i f e d = ap (λ r. r >>= λ i. frames i.memory i.frame_header >>= λ d. functions_of i.memory (sorted d.fdes) >>= λ fs. Ok (made i d fs)) e ∙
    ap (λ r. r >>= λ d. functions_of i.memory (sorted d.fdes) >>= λ fs. Ok (made i d fs)) d

pub behind_frames : (file : List ℕ) (run : Bool) (i : Image) (d : Frames) (r : Result (List Function) Fault) → elf file run ≡ Ok i → frames i.memory i.frame_header ≡ Ok d →
    functions_of i.memory (sorted d.fdes) ≡ r → judged file run ≡ (r >>= λ fs. Ok (made i d fs))
unfolding judged
behind_frames file run i d r e is t = ap (λ r. r >>= λ i. frames i.memory i.frame_header >>= λ d. functions_of i.memory (sorted d.fdes) >>= λ fs. Ok (made i d fs)) e ∙
    ap (λ r. r >>= λ d. functions_of i.memory (sorted d.fdes) >>= λ fs. Ok (made i d fs)) is ∙ ap (λ r. r >>= λ fs. Ok (made i d fs)) t

pub reports : {X : Type 0} (f : Fault) (e : ImageError) (read : Result X Fault) → read ≡ Err f → e ≡ reported f → IsReported e read
reports f e read refused is = subst (λ x. IsReported x read) (sym is) (subst (λ x. IsErrAnd x (λ g. reported f ≡ reported g)) (sym refused) refl)

pub reports_elf : (file : List ℕ) (run : Bool) (e : ImageError) → ReadsImage (Err e) (elf file run) → IsReported e (judged file run)
reports_elf file run (errors.Refused reason place location other) (f, refused, is) = reports f (errors.Refused reason place location other) (judged file run) (elf_refused file run f refused) (sym is)
reports_elf file run errors.NoMemory read = tt

pub reports_frames : (file : List ℕ) (run : Bool) (i : Image) (e : FrameError) → elf file run ≡ Ok i → ReadsFrames (Err e) (frames i.memory i.frame_header) → IsReported (of_frames e) (judged file run)
reports_frames file run i (causes.Refused reason place location other) is read = by (frames i.memory i.frame_header) refl read
  where
    by : (r : Result Frames Fault) → frames i.memory i.frame_header ≡ r → ReadsFrames (Err (causes.Refused reason place location other)) r → IsReported (errors.Refused reason place location other) (judged file run)
    by (Err f) refused said = reports f (errors.Refused reason place location other) (judged file run) (frames_refused file run i f is refused) (ap of_frames said)
    by (Ok d) refused said = absurd said
reports_frames file run i causes.NoMemory is read = tt
