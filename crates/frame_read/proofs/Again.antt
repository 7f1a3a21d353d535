-- An FDE of the list is read again at its address.
use Rattle.std.proofs.Common.{◌≡◌, inl, inr, ◌+◌, ◌-◌, ◌<◌, ◌==◌, ℕ, zero, suc, Bool, true, false, nat_lt, nat_le, List, [], ◌∷◌, map, filter_map, find, length, option_and_then, Option, Some, None, option_map, Result, Ok, Err, refl, ap, sym, subst, ◌∙◌, arith, if◌then◌else◌}
use Rattle.std.specs.List.{cons_option}
use Rattle.std.specs.Int.{w32}
use Rattle.std.proofs.lemmas.Bool.Decides.{nat_tests}
use Rattle.eh_bytes.specs.Memory.{Part}
use Rattle.eh_bytes.specs.Field.{fixed}
use Rattle.table_forms.specs.Fault.{Fault}
use Rattle.table_forms.specs.Instruction.{in_frames}
use Rattle.table_forms.specs.Cie.{Cie, cie_at}
use Rattle.eh_bytes.specs.declared.frames.Region64.{Region64}
use Rattle.table_forms.specs.Fault.{◌>>=◌}
use Rattle.table_forms.specs.Instructions.{Instructions, instructions_at}
use Rattle.table_forms.specs.Fde.{Fde, region_at, lsda_at, fde_at}
use Rattle.frame_read.proofs.FdesRise.{read_fde}
use Rattle.table_forms.specs.Spans.{Span, spans_from, spans_after, spans_within, distance_at}
use Rattle.table_forms.specs.Parts.{Said, refused, said_cie, said_fde, unread, cie_of, cies_of, cie_said, fde_said, said_behind, said_of, says, fde_in, parts_at}
use Rattle.frame_read.specs.Entry.{ok_of, span_from, span_at, cie_from, cie_here, fde_behind, fde_from, fde_here}
use Rattle.frame_read.proofs.Members.{In, find_in}

span_found : (part : Part) (p k next : ℕ) → in_frames (fixed w32) part (length part.bytes) p ≡ Ok (suc k, next) → nat_le (next + suc k) (length part.bytes) ≡ true →
    span_at part p ≡ Some (record { at = p; stop = next + suc k })
unfolding span_at
span_found part p k next read fits = ap (span_from part p) read ∙ ap (λ b. if b then Some (record { at = p; stop = next + suc k }) else None) fits

-- a part of the list, by the place of its length
pub spans_again : (n : ℕ) (part : Part) (p : ℕ) (s : Span) → In s (spans_within n part p).list → span_at part s.at ≡ Some s
unfolding spans_within
spans_again zero part p s here = absurd here
spans_again (suc n) part p s here =
    by (λ q. spans_again n part q s) (nat_lt p (length part.bytes)) (in_frames (fixed w32) part (length part.bytes) p) refl here
  where
    Later : Type 0
    Later = (q : ℕ) → In s (spans_within n part q).list → span_at part s.at ≡ Some s

    fits : Later → (k next : ℕ) → in_frames (fixed w32) part (length part.bytes) p ≡ Ok (suc k, next) → (b : Bool) → nat_le (next + suc k) (length part.bytes) ≡ b →
        In s (spans_after part p b (record { at = p; stop = next + suc k }) (spans_within n part)).list → span_at part s.at ≡ Some s
    fits later k next read false f here = absurd here
    fits later k next read true f (inr there) = later (next + suc k) there
    fits later k next read true f (inl same) =
        let span : Span = record { at = p; stop = next + suc k } in
        let here : span_at part p ≡ Some span = span_found part p k next read f in
        subst (λ (t : Span). span_at part t.at ≡ Some t) (sym same) here

    by : Later → (b : Bool) (read : Result (ℕ × ℕ) Fault) → in_frames (fixed w32) part (length part.bytes) p ≡ read →
        In s (spans_from part p b read (spans_within n part)).list → span_at part s.at ≡ Some s
    by later false read e here = absurd here
    by later true (Err f) e here = absurd here
    by later true (Ok (zero, next)) e here = absurd here
    by later true (Ok (suc k, next)) e here = fits later k next e (nat_le (next + suc k) (length part.bytes)) refl here

-- where what is left of a list comes from
in_filter : {A B : Type 0} (f : A → Option B) (xs : List A) (b : B) → In b (filter_map f xs) → (x : A) × In x xs × (f x ≡ Some b)
in_filter f [] b here = absurd here
in_filter {A = A} {B = B} f (x ∷ xs) b here = by (in_filter f xs b) (f x) refl here
  where
    by : (In b (filter_map f xs) → (y : A) × In y xs × (f y ≡ Some b)) → (o : Option B) → f x ≡ o → In b (cons_option o (filter_map f xs)) → (y : A) × In y (x ∷ xs) × (f y ≡ Some b)
    by later None e there = let r = later there in (r.0, inr r.1, r.2)
    by later (Some c) e (inr there) = let r = later there in (r.0, inr r.1, r.2)
    by later (Some c) e (inl same) = (x, inl refl, e ∙ ap (λ (y : B). Some y) (sym same))

-- a CIE of the list, by where it stands
cie_again : (part : Part) (spans : List Span) (at : ℕ) (cie : Cie) → ((s : Span) → In s spans → span_at part s.at ≡ Some s) →
    In (at, Ok cie) (cies_of part spans) → cie_here part at ≡ Some cie
unfolding cies_of cie_here
cie_again part spans at cie again here =
    let r = in_filter (λ s. cie_of part s (distance_at part s)) spans (at, Ok cie) here in
    by r.0 (again r.0 r.1) (distance_at part r.0) refl r.2
  where
    pair_first : (x y : ℕ × Result Cie Fault) → (λ (w : Option (ℕ × Result Cie Fault)). w) (Some x) ≡ Some y → x ≡ y
    pair_first x y e = cc

    by : (s : Span) → span_at part s.at ≡ Some s → (d : Result (ℕ × ℕ) Fault) → distance_at part s ≡ d → cie_of part s d ≡ Some (at, Ok cie) →
        option_and_then (λ t. cie_from part t (distance_at part t)) (span_at part at) ≡ Some cie
    by s there (Err f) e found = absurd cc
    by s there (Ok (suc k, next)) e found = absurd cc
    by s there (Ok (zero, next)) e found =
        let same = pair_first (s.at, cie_at part s.at s.stop next) (at, Ok cie) found in
        ap (λ q. option_and_then (λ t. cie_from part t (distance_at part t)) (span_at part q)) (sym (ap (λ (w : ℕ × Result Cie Fault). w.0) same)) ∙
        ap (option_and_then (λ t. cie_from part t (distance_at part t))) there ∙ ap (cie_from part s) e ∙ ap ok_of (ap (λ (w : ℕ × Result Cie Fault). w.1) same)

-- an FDE of the list, by where it stands
fde_again : (part : Part) (spans : List Span) (s : Span) (f : Fde) → ((t : Span) → In t spans → span_at part t.at ≡ Some t) → In s spans →
    says part (cies_of part spans) s ≡ said_fde f → fde_here part s.at ≡ Some f
unfolding says fde_here
fde_again part spans s f again here said =
    ap (option_and_then (λ t. fde_from part t (distance_at part t))) (again s here) ∙ by (distance_at part s) said
  where
    cies : List (ℕ × Result Cie Fault)
    cies = cies_of part spans

    fde : (r : Result Fde Fault) → fde_said r ≡ said_fde f → ok_of r ≡ Some f
    fde (Ok g) e = ap (λ (x : Fde). Some x) (same g f e)
      where
        same : (x y : Fde) → said_fde x ≡ said_fde y → x ≡ y
        same x y e = cc
    fde (Err g) e = absurd cc

    cie : (r : Result Cie Fault) → cie_said r ≡ said_fde f → ⊥
    cie (Ok c) e = cc
    cie (Err g) e = cc

    from_cie : (d next : ℕ) (c : ℕ × Result Cie Fault) → In c cies → (c.0 + suc d == s.at + 4) ≡ true → (r : Result Cie Fault) → c.1 ≡ r →
        said_behind part s next (Some r) ≡ said_fde f → fde_from part s (Ok (suc d, next)) ≡ Some f
    from_cie d next c there far (Err g) e said = absurd cc
    from_cie d next c there far (Ok cie) e said =
        let near : nat_le (suc d) (s.at + 4) ≡ true = grind (arith, nat_tests, far) in
        let at : c.0 ≡ s.at + 4 - suc d = grind (arith, nat_tests, far) in
        let there' : In (c.0, Ok cie) cies = subst (λ (w : Result Cie Fault). In (c.0, w) cies) e there in
        let found : cie_here part (s.at + 4 - suc d) ≡ Some cie = ap (cie_here part) (sym at) ∙ cie_again part spans c.0 cie again there' in
        ap (λ b. if b then fde_behind part s next (cie_here part (s.at + 4 - suc d)) else None) near ∙ ap (fde_behind part s next) found ∙
        fde (fde_at cie part s.at s.stop next) said

    behind : (d next : ℕ) (o : Option (ℕ × Result Cie Fault)) → find (λ c. c.0 + suc d == s.at + 4) cies ≡ o →
        said_behind part s next (option_map (λ c. c.1) o) ≡ said_fde f → fde_from part s (Ok (suc d, next)) ≡ Some f
    behind d next None e said = absurd cc
    behind d next (Some c) e said =
        let r = find_in (λ c. c.0 + suc d == s.at + 4) cies c e in from_cie d next c r.0 r.1 c.1 refl said

    by : (d : Result (ℕ × ℕ) Fault) → said_of part cies s d ≡ said_fde f → fde_from part s d ≡ Some f
    by (Err g) said = absurd cc
    by (Ok (zero, next)) said = absurd (cie (cie_at part s.at s.stop next) said)
    by (Ok (suc d, next)) said = behind d next (find (λ c. c.0 + suc d == s.at + 4) cies) refl said

-- where an FDE stands
abbrev Addressed : ℕ → Result Fde Fault → Type 0
Addressed n (Ok f) = f.address ≡ n
Addressed n (Err e) = n ≡ n

fde_addressed : (cie : Cie) (part : Part) (at stop p : ℕ) → Addressed (part.address + at) (fde_at cie part at stop p)
unfolding fde_at
fde_addressed cie part at stop p = first (region_at cie part stop p)
  where
    third : (region : Region64 × ℕ) (lsda : ℕ × ℕ) (r : Result Instructions Fault) → Addressed (part.address + at) (r >>= λ is. Ok (read_fde cie part at region.0 lsda.0 is))
    third region lsda (Ok is) = refl
    third region lsda (Err e) = refl

    second : (region : Region64 × ℕ) (r : Result (ℕ × ℕ) Fault) →
        Addressed (part.address + at) (r >>= λ lsda. instructions_at cie.coding part stop lsda.1 cie.states >>= λ is. Ok (read_fde cie part at region.0 lsda.0 is))
    second region (Ok lsda) = third region lsda (instructions_at cie.coding part stop lsda.1 cie.states)
    second region (Err e) = refl

    first : (r : Result (Region64 × ℕ) Fault) →
        Addressed (part.address + at) (r >>= λ region. lsda_at cie.augmentation cie part stop region.1 >>= λ lsda.
        instructions_at cie.coding part stop lsda.1 cie.states >>= λ is. Ok (read_fde cie part at region.0 lsda.0 is))
    first (Ok region) = second region (lsda_at cie.augmentation cie part stop region.1)
    first (Err e) = refl

-- an FDE that is read at a place has its address
here_addressed : (part : Part) (at : ℕ) (f : Fde) → fde_here part at ≡ Some f → (s : Span) → span_at part at ≡ Some s → f.address ≡ part.address + s.at
unfolding fde_here
here_addressed part at f here s there =
    by (distance_at part s) (sym (ap (option_and_then (λ t. fde_from part t (distance_at part t))) there) ∙ here)
  where
    fde : (r : Result Fde Fault) → Addressed (part.address + s.at) r → ok_of r ≡ Some f → f.address ≡ part.address + s.at
    fde (Ok g) stands e = sym (ap (λ (x : Fde). x.address) (same g f e)) ∙ stands
      where
        same : (x y : Fde) → (λ (w : Option Fde). w) (Some x) ≡ Some y → x ≡ y
        same x y e = cc
    fde (Err g) stands e = absurd cc

    behind : (next : ℕ) (o : Option Cie) → fde_behind part s next o ≡ Some f → f.address ≡ part.address + s.at
    behind next None e = absurd cc
    behind next (Some cie) e = fde (fde_at cie part s.at s.stop next) (fde_addressed cie part s.at s.stop next) e

    near : (d next : ℕ) (b : Bool) → (if b then fde_behind part s next (cie_here part (s.at + 4 - suc d)) else None) ≡ Some f → f.address ≡ part.address + s.at
    near d next true e = behind next (cie_here part (s.at + 4 - suc d)) e
    near d next false e = absurd cc

    by : (d : Result (ℕ × ℕ) Fault) → fde_from part s d ≡ Some f → f.address ≡ part.address + s.at
    by (Err g) e = absurd cc
    by (Ok (zero, next)) e = absurd cc
    by (Ok (suc d, next)) e = near d next (nat_le (suc d) (s.at + 4)) e

-- an FDE of the parts: where it stands, and that it is read there
pub record Stands (part : Part) (f : Fde) : Type 0 where
  pub at : ℕ
  pub address : f.address ≡ part.address + at
  pub inside : at < length part.bytes
  pub here : fde_here part at ≡ Some f

fde_only : (x : Said) (f : Fde) → fde_in x ≡ Some f → x ≡ said_fde f
fde_only (said_fde g) f e = ap said_fde (same g f e)
  where
    same : (x y : Fde) → (λ (w : Option Fde). w) (Some x) ≡ Some y → x ≡ y
    same x y e = cc
fde_only (said_cie c) f e = absurd cc
fde_only (refused g) f e = absurd cc
fde_only unread f e = absurd cc

pub in_map : {A B : Type 0} (g : A → B) (xs : List A) (b : B) → In b (map g xs) → (x : A) × In x xs × (b ≡ g x)
in_map g [] b here = absurd here
in_map g (x ∷ xs) b (inl e) = (x, inl refl, e)
in_map g (x ∷ xs) b (inr there) = let r = in_map g xs b there in (r.0, inr r.1, r.2)

spans_inside : (n : ℕ) (part : Part) (p : ℕ) (s : Span) → In s (spans_within n part p).list → s.at < length part.bytes
unfolding spans_within
spans_inside zero part p s here = absurd here
spans_inside (suc n) part p s here =
    by (λ q. spans_inside n part q s) (nat_lt p (length part.bytes)) refl (in_frames (fixed w32) part (length part.bytes) p) here
  where
    Later : Type 0
    Later = (q : ℕ) → In s (spans_within n part q).list → s.at < length part.bytes

    fits : Later → (k next : ℕ) → nat_lt p (length part.bytes) ≡ true → (b : Bool) →
        In s (spans_after part p b (record { at = p; stop = next + suc k }) (spans_within n part)).list → s.at < length part.bytes
    fits later k next e false here = absurd here
    fits later k next e true (inr there) = later (next + suc k) there
    fits later k next e true (inl same) = let a = ap (λ (t : Span). t.at) same in grind (arith, nat_tests, a, e)

    by : Later → (b : Bool) → nat_lt p (length part.bytes) ≡ b → (read : Result (ℕ × ℕ) Fault) →
        In s (spans_from part p b read (spans_within n part)).list → s.at < length part.bytes
    by later false e read here = absurd here
    by later true e (Err f) here = absurd here
    by later true e (Ok (zero, next)) here = absurd here
    by later true e (Ok (suc k, next)) here = fits later k next e (nat_le (next + suc k) (length part.bytes)) here

pub parts_again : (part : Part) (p : ℕ) (f : Fde) → In f (parts_at part p).fdes → Stands part f
unfolding parts_at
parts_again part p f here =
    let n = length part.bytes in
    let spans = (spans_within n part p).list in
    let said = map (says part (cies_of part spans)) spans in
    let x = in_filter fde_in said f here in
    let s = in_map (says part (cies_of part spans)) spans x.0 x.1 in
    let again : (t : Span) → In t spans → span_at part t.at ≡ Some t = λ t there. spans_again n part p t there in
    let read = fde_again part spans s.0 f again s.1 (sym s.2 ∙ fde_only x.0 f x.2) in
    record { at = s.0.at; address = here_addressed part s.0.at f read s.0 (again s.0 s.1); inside = spans_inside n part p s.0 s.1; here = read }
