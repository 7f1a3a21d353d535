-- Turns of the loop over section headers.
use Rattle.std.proofs.Common.{◌≡◌, ◌+◌, ◌-◌, ◌*◌, ◌<◌, ℕ, zero, suc, Bool, true, false, List, [], ◌∷◌, Option, Some, None, refl, ap, ◌∙◌, arith, if◌then◌else◌}
use Rattle.std.specs.Prelude.{is_some, slice_get, codes}
use Rattle.std.specs.Option.{option_or}
use Rattle.debug_frames.specs.declared.section.Section.{Section}
use Rattle.debug_frames.specs.Least.{least_of, lesser}
use Rattle.debug_frames.specs.Sections.{section_at, sections_from, sections_of, name_in, count_of, headers_at, names_number}
use Rattle.debug_frames.specs.FoundSection.{unless, is_named, unnamed_places, section_named, first_named}
use Rattle.debug_frames.proofs.Leasts.{least-append, lesser_lesser, lesser_none}

pub sections_step : (n : ℕ) (file : List ℕ) (p : ℕ) → 0 < n → sections_from n file p ≡ section_at file p ∷ sections_from (n - 1) file (p + 64)
sections_step zero file p some = absurd (omega (arith, some))
sections_step (suc n) file p some = let e : n ≡ suc n - 1 = omega arith in ap (λ m. section_at file p ∷ sections_from m file (p + 64)) e

pub sections_end : (n : ℕ) (file : List ℕ) (p : ℕ) → n ≡ 0 → sections_from n file p ≡ []
sections_end n file p none = ap (λ m. sections_from m file p) none

pub sections_are : (file : List ℕ) → sections_of file ≡ sections_from (count_of file) file (headers_at file)
unfolding sections_of
sections_are file = refl

-- of a name more
pub unnamed_step : (so_far : Option ℕ) (names : List ℕ) (s : Section) (rest : List Section) →
    lesser so_far (least_of (unnamed_places names (s ∷ rest))) ≡ lesser (lesser so_far (least_of (unless (is_some (name_in names s)) s.place))) (least_of (unnamed_places names rest))
unnamed_step so_far names s rest =
    let own = unless (is_some (name_in names s)) s.place in
    ap (lesser so_far) (least-append own (unnamed_places names rest)) ∙ lesser_lesser so_far (least_of own) (least_of (unnamed_places names rest))

pub unnamed_end : (so_far : Option ℕ) (names : List ℕ) → lesser so_far (least_of (unnamed_places names [])) ≡ so_far
unfolding least_of
unnamed_end so_far names = lesser_none so_far

-- of a section more
pub named_step : (so_far : Option Section) (names : List ℕ) (s : Section) (rest : List Section) →
    option_or so_far (section_named names (s ∷ rest)) ≡ option_or (first_named so_far names s) (section_named names rest)
named_step (Some t) names s rest = refl
named_step None names s rest = by (is_named (codes ".debug_frame") (name_in names s))
  where
    by : (b : Bool) → (if b then Some s else section_named names rest) ≡ option_or (if b then Some s else None) (section_named names rest)
    by true = refl
    by false = refl

pub named_end : (so_far : Option Section) (names : List ℕ) → option_or so_far (section_named names []) ≡ so_far
named_end None names = refl
named_end (Some s) names = refl

-- the header with a number
number_at : (k n : ℕ) (file : List ℕ) (p : ℕ) → k < n → slice_get (sections_from n file p) k ≡ Some (section_at file (p + 64 * k))
number_at k zero file p below = absurd (omega (arith, below))
number_at zero (suc n) file p below = let e : p ≡ p + 64 * 0 = omega arith in ap (λ q. Some (section_at file q)) e
number_at (suc k) (suc n) file p below =
    let e : p + 64 + 64 * k ≡ p + 64 * suc k = omega arith in
    number_at k n file (p + 64) (omega (arith, below)) ∙ ap (λ q. Some (section_at file q)) e

pub names_there : (file : List ℕ) → names_number file < count_of file → slice_get (sections_of file) (names_number file) ≡ Some (section_at file (headers_at file + 64 * names_number file))
unfolding sections_of
names_there file below = number_at (names_number file) (count_of file) file (headers_at file) below
