-- What is refused of a file whose frames are compared, and what is read of it.
use Rattle.std.proofs.Common.{◌≡◌, ℕ, List, take, drop, Result, Ok, Err, refl, ap, sym, subst, ◌∙◌}
use Rattle.std.specs.Prelude.{IsErrAnd, IsOkAnd}
use Rattle.table_forms.specs.Fault.{Fault}
use Rattle.table_forms.specs.Frames.{Frames, frames}
use Rattle.table_forms.specs.Seen.{fault_of}
use Rattle.table_forms.specs.declared.reason.Reason.{Reason}
use Rattle.table_forms.specs.declared.refusal.Refusal.{Refusal}
use Rattle.elf_image.specs.Clean.{CleanImage, clean}
use Rattle.elf_image.specs.Reports.{reported}
use Rattle.elf_image.specs.declared.error.ImageError.{ImageError}
use Rattle.elf_image.specs.declared.error.ImageError.TheVariants.{Refused, NoMemory}
use Rattle.frame_read.specs.ReadsFrames.{Listing, listing, ReadsFrames}
use Rattle.table_check.specs.Checks.{IsReported}
use Rattle.debug_frames.specs.FoundSection.{found_section}
use Rattle.debug_frames.specs.DebugParts.{debug_frames}
use Rattle.debug_frames.specs.ReadsSection.{ReadsSection}
use Rattle.debug_frames.specs.ReadsDebug.{ReadsDebug}
use Rattle.debug_frames.specs.Agreement.{Agreement, Agrees}
use Rattle.debug_frames.specs.Compared.{Forms, with_frames, with_section, with_image, forms_in}
use Rattle.debug_frames.specs.Compares.{Compares, ComparesFrames}

-- ---- by what is read first
after_image : (file : List ℕ) (r : Result CleanImage Fault) → clean file ≡ r → forms_in file ≡ with_image file r
unfolding forms_in
after_image file r is = ap (with_image file) is

after_section : (file : List ℕ) (i : CleanImage) (r : Result (ℕ × ℕ) Refusal) → clean file ≡ Ok i → found_section file ≡ r → forms_in file ≡ with_section file i r
after_section file i r image is = after_image file (Ok i) image ∙ ap (with_section file i) is

after_debug : (file : List ℕ) (i : CleanImage) (s : ℕ × ℕ) (r : Result Frames Fault) → clean file ≡ Ok i → found_section file ≡ Ok s → debug_frames (take s.1 (drop s.0 file)) s.0 ≡ r →
    forms_in file ≡ with_frames i r
after_debug file i s r image section is = after_section file i (Ok s) image section ∙ ap (with_frames i) is

-- ---- the refusals
told : (file : List ℕ) (reason : Reason) (place location other : ℕ) (f : Fault) → forms_in file ≡ Err f → Refused reason place location other ≡ reported f →
    ComparesFrames (Err (Refused reason place location other)) file
told file reason place location other f is same = subst (λ (r : Result Forms Fault). IsReported (Refused reason place location other) r) (sym is) same

pub image_reported : (file : List ℕ) (e : ImageError) → IsReported e (clean file) → ComparesFrames (Err e) file
image_reported file NoMemory h = tt
image_reported file (Refused reason place location other) h = by (clean file) refl h
  where
    by : (r : Result CleanImage Fault) → clean file ≡ r → IsErrAnd r (λ f. Refused reason place location other ≡ reported f) → ComparesFrames (Err (Refused reason place location other)) file
    by (Err f) is same = told file reason place location other f (after_image file (Err f) is) same
    by (Ok i) is same = absurd same

pub section_reported : (file : List ℕ) (i : CleanImage) (e : ImageError) → clean file ≡ Ok i → ReadsSection (Err e) (found_section file) → ComparesFrames (Err e) file
section_reported file i NoMemory image h = tt
section_reported file i (Refused reason place location other) image (r, is, same) =
    told file reason place location other (fault_of r) (after_section file i (Err r) image is) (sym same)

pub debug_reported : (file : List ℕ) (i : CleanImage) (s : ℕ × ℕ) (e : ImageError) → clean file ≡ Ok i → found_section file ≡ Ok s →
    ReadsDebug (Err e) (debug_frames (take s.1 (drop s.0 file)) s.0) → ComparesFrames (Err e) file
debug_reported file i s NoMemory image section h = tt
debug_reported file i s (Refused reason place location other) image section (f, is, same) =
    told file reason place location other f (after_debug file i s (Err f) image section is) (sym same)

-- ---- nothing is refused
pub compares : (file : List ℕ) (i : CleanImage) (s : ℕ × ℕ) (debug : Frames) (list : Listing) (a : Agreement) → clean file ≡ Ok i → found_section file ≡ Ok s →
    debug_frames (take s.1 (drop s.0 file)) s.0 ≡ Ok debug → ReadsFrames (Ok list) (frames i.image.memory i.image.frame_header) →
    ((header : ℕ) (read : Frames) → frames i.image.memory header ≡ Ok read → list ≡ listing read → Agrees read.fdes debug.fdes a) → Compares file a
compares file i s debug list a image section is known agrees = by (frames i.image.memory i.image.frame_header) refl known
  where
    by : (r : Result Frames Fault) → frames i.image.memory i.image.frame_header ≡ r → IsOkAnd r (λ d. list ≡ listing d) → Compares file a
    by (Ok read) reads lists = record {
      forms = record { image = i; debug = debug };
      there = after_debug file i s (Ok debug) image section is;
      read = read;
      frames_read = reads;
      agrees = agrees i.image.frame_header read reads lists;
    }
    by (Err f) reads lists = absurd lists
