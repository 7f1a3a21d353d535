-- The code of regions, put together from that of their parts.
use Rattle.std.proofs.Common.{◌≡◌, ◌∙◌, ℕ, suc, ℤ, ◌+◌, List, [], ◌∷◌, ◌++◌, map, length, Option, refl, ap, sym, subst, append_assoc, arith}
use Rattle.std.proofs.lemmas.List.{append-nil, length-append}
use Rattle.region_forms.specs.Form.{Value, Region, bind, through, branch, loop, protect, catch, limit, barrier, seq, RegionList, no_regions, region_then, Clauses, no_clauses, clause_then, Cleanup}
use Rattle.region_forms.specs.Guard.{types_of}
use Rattle.linear_forms.specs.Linear.{jump, jump_filter, jump_zero, label, pad, plain, resume, unexpected}
use Rattle.linear_forms.specs.Tables.{Cover, bare, list_of}
use Rattle.linear_forms.specs.Sites.{Placed}
use Rattle.linear_forms.specs.Distinct.{distinct}
use Rattle.linear_forms.specs.Exits.{Exit, exit_to, beyond, outs_of}
use Rattle.linear_forms.specs.Emission.{Emitting, quiet, outward, cleaned, guarded, filters_of, protect_exit, pad_cleanup, exit_cleanup, exit_code}
use Rattle.linear_forms.specs.Code.{labels, labels_clauses, region_code, all_code, clauses_code, clause_tests}
use Rattle.landing_pads.specs.declared.placed.Placed.{Placed as PlacedValue}
use Rattle.landing_pads.specs.Emitted.{Emitted}
use Rattle.region_ir.specs.declared.region.Clause.{Clause}
use Rattle.region_ir.specs.View.{clauses_of}
use Rattle.landing_pads.specs.View.{placed_of}
use Rattle.landing_pads.proofs.Behind.{both_emitted, places_emitted}

-- a region in the same cover, with the same exits, labels and place
pub moved : (em : Emitting) (r : Region) (s t : List PlacedValue) (c d : Cover) (xs ys : List Exit) (l m p q : ℕ) → c ≡ d → xs ≡ ys → l ≡ m → p ≡ q →
    Emitted s t (region_code em c xs l p r) → Emitted s t (region_code em d ys m q r)
moved em r s t c d xs ys l m p q e f g h k =
    subst (λ z. Emitted s t (region_code em z ys m q r)) e
    (subst (λ z. Emitted s t (region_code em c z m q r)) f
    (subst (λ z. Emitted s t (region_code em c xs z q r)) g (subst (λ z. Emitted s t (region_code em c xs l z r)) h k)))

-- a sequence and its end
pub sequence_emitted : (em : Emitting) (c : Cover) (xs ys : List Exit) (l k : ℕ) (rs : RegionList) (s0 s1 s2 : List PlacedValue) → ys ≡ exit_to l ∷ xs → k ≡ l + 1 →
    Emitted s0 s1 (all_code em c ys k (length s0) rs) → Emitted s1 s2 (quiet (label l) ∷ []) → Emitted s0 s2 (region_code em c xs l (length s0) (seq rs))
sequence_emitted em c xs ys l k rs s0 s1 s2 e f h i =
    both_emitted (subst (λ z. Emitted s0 s1 (all_code em c z (l + 1) (length s0) rs)) e (subst (λ z. Emitted s0 s1 (all_code em c ys z (length s0) rs)) f h)) i

-- a closed region and its end
pub closed_emitted : (em : Emitting) (c d : Cover) (xs ys : List Exit) (l k : ℕ) (r : Region) (s0 s1 s2 : List PlacedValue) → d ≡ bare → ys ≡ exit_to l ∷ xs → k ≡ l + 1 →
    Emitted s0 s1 (region_code em d ys k (length s0) r) → Emitted s1 s2 (quiet (label l) ∷ []) → Emitted s0 s2 (region_code em c xs l (length s0) (barrier r))
closed_emitted em c d xs ys l k r s0 s1 s2 b e f h i =
    both_emitted (moved em r s0 s1 d bare ys (exit_to l ∷ xs) k (l + 1) (length s0) (length s0) b e f refl h) i

-- two sides of a test
pub branch_emitted : (em : Emitting) (c : Cover) (xs ys zs : List Exit) (l k n : ℕ) (v : Value) (a b : Region) (s0 s1 s2 s3 s4 s5 s6 : List PlacedValue) →
    ys ≡ exit_to l ∷ xs → zs ≡ exit_to l ∷ xs → k ≡ l + 2 → n ≡ k + labels a →
    Emitted s0 s1 (quiet (jump_zero v (l + 1)) ∷ []) → Emitted s1 s2 (region_code em c ys k (length s1) a) → Emitted s2 s3 (quiet (jump l) ∷ []) →
    Emitted s3 s4 (quiet (label (l + 1)) ∷ []) → Emitted s4 s5 (region_code em c zs n (length s4) b) → Emitted s5 s6 (quiet (label l) ∷ []) →
    Emitted s0 s6 (region_code em c xs l (length s0) (branch v a b))
branch_emitted em c xs ys zs l k n v a b s0 s1 s2 s3 s4 s5 s6 ye ze ke ne h1 h2 h3 h4 h5 h6 =
    let inner = exit_to l ∷ xs in
    let first = region_code em c inner (l + 2) (length s0 + 1) a in
    let p1 = places_emitted h1 in
    let one : length s1 ≡ length s0 + 1 = p1 in
    let side : Emitted s1 s2 first = moved em a s1 s2 c c ys inner k (l + 2) (length s1) (length s0 + 1) refl ye ke one h2 in
    let p2 = places_emitted side in
    let p3 : length s3 ≡ length s2 + 1 = places_emitted h3 in
    let p4 : length s4 ≡ length s3 + 1 = places_emitted h4 in
    let place : length s4 ≡ length s0 + 3 + length first = omega (arith, one, p2, p3, p4) in
    let next : n ≡ l + 2 + labels a = omega (arith, ke, ne) in
    let other = moved em b s4 s5 c c zs inner n (l + 2 + labels a) (length s4) (length s0 + 3 + length first) refl ze next place h5 in
    both_emitted h1 (both_emitted side (both_emitted h3 (both_emitted h4 (both_emitted other h6))))

-- a loop with its test in front
pub loop_emitted : (em : Emitting) (c : Cover) (xs ys : List Exit) (l k : ℕ) (v : Value) (r : Region) (s0 s1 s2 s3 s4 s5 : List PlacedValue) →
    ys ≡ exit_to l ∷ xs → k ≡ l + 2 → Emitted s0 s1 (quiet (label (l + 1)) ∷ []) → Emitted s1 s2 (quiet (jump_zero v l) ∷ []) →
    Emitted s2 s3 (region_code em c ys k (length s2) r) → Emitted s3 s4 (quiet (jump (l + 1)) ∷ []) → Emitted s4 s5 (quiet (label l) ∷ []) →
    Emitted s0 s5 (region_code em c xs l (length s0) (loop v r))
loop_emitted em c xs ys l k v r s0 s1 s2 s3 s4 s5 ye ke h1 h2 h3 h4 h5 =
    let p1 : length s1 ≡ length s0 + 1 = places_emitted h1 in
    let p2 : length s2 ≡ length s1 + 1 = places_emitted h2 in
    let place : length s2 ≡ length s0 + 2 = omega (arith, p1, p2) in
    let body = moved em r s2 s3 c c ys (exit_to l ∷ xs) k (l + 2) (length s2) (length s0 + 2) refl ye ke place h3 in
    both_emitted h1 (both_emitted h2 (both_emitted body (both_emitted h4 h5)))

-- a region with a cleanup
pub protect_emitted : (em : Emitting) (cl : Cleanup) (c d : Cover) (xs ys zs : List Exit) (l k q : ℕ) (outs : List ℕ) (r : Region) (s0 s1 s2 s3 s4 : List PlacedValue) →
    d ≡ cleaned em q c → q ≡ length s0 + 1 → ys ≡ protect_exit cl l ∷ xs → zs ≡ xs → k ≡ l + 3 → outs ≡ distinct (beyond (outs_of r)) →
    Emitted s0 s1 (quiet (jump (l + 1)) ∷ quiet (pad em.object em.selector) ∷ pad_cleanup cl ∷ outward (resume em.object) c ∷ quiet (label (l + 1)) ∷ []) →
    Emitted s1 s2 (region_code em d ys k (length s1) r) → Emitted s2 s3 (exit_code em (exit_cleanup cl) c zs l outs) → Emitted s3 s4 (quiet (label l) ∷ []) →
    Emitted s0 s4 (region_code em c xs l (length s0) (protect r cl))
protect_emitted em cl c d xs ys zs l k q outs r s0 s1 s2 s3 s4 de qe ye ze ke oe h1 h2 h3 h4 =
    let p1 : length s1 ≡ length s0 + 5 = places_emitted h1 in
    let inner = cleaned em (length s0 + 1) c in
    let body = moved em r s1 s2 d inner ys (protect_exit cl l ∷ xs) k (l + 3) (length s1) (length s0 + 5) (de ∙ ap (λ z. cleaned em z c) qe) ye ke p1 h2 in
    let exits : Emitted s2 s3 (exit_code em (exit_cleanup cl) c xs l (distinct (beyond (outs_of r)))) =
    subst (λ z. Emitted s2 s3 (exit_code em (exit_cleanup cl) c z l (distinct (beyond (outs_of r))))) ze
    (subst (λ z. Emitted s2 s3 (exit_code em (exit_cleanup cl) c zs l z)) oe h3) in
    both_emitted h1 (both_emitted body (both_emitted exits h4))

-- a region with a specification
pub limit_emitted : (em : Emitting) (c d : Cover) (xs ys : List Exit) (l k q : ℕ) (n : ℤ) (types : List ℕ) (r : Region) (s0 s1 s2 s3 : List PlacedValue) →
    d ≡ guarded q (n ∷ []) c → q ≡ length s0 + 1 → n ≡ em.filter (list_of types) → ys ≡ exit_to l ∷ xs → k ≡ l + 3 →
    Emitted s0 s1 (quiet (jump (l + 1)) ∷ quiet (pad em.object em.selector) ∷ quiet (jump_filter em.selector n (l + 2)) ∷ outward (resume em.object) c ∷
    quiet (label (l + 2)) ∷ outward (unexpected em.object em.selector) c ∷ quiet (label (l + 1)) ∷ []) →
    Emitted s1 s2 (region_code em d ys k (length s1) r) → Emitted s2 s3 (quiet (label l) ∷ []) → Emitted s0 s3 (region_code em c xs l (length s0) (limit r types))
limit_emitted em c d xs ys l k q n types r s0 s1 s2 s3 de qe ne ye ke h1 h2 h3 =
    let f = em.filter (list_of types) in
    let p1 : length s1 ≡ length s0 + 7 = places_emitted h1 in
    let inner = guarded (length s0 + 1) (f ∷ []) c in
    let cover : d ≡ inner = de ∙ (ap (λ z. guarded z (n ∷ []) c) qe ∙ ap (λ z. guarded (length s0 + 1) (z ∷ []) c) ne) in
    let body = moved em r s1 s2 d inner ys (exit_to l ∷ xs) k (l + 3) (length s1) (length s0 + 7) cover ye ke p1 h2 in
    let front = subst (λ z. Emitted s0 s1 (quiet (jump (l + 1)) ∷ quiet (pad em.object em.selector) ∷ quiet (jump_filter em.selector z (l + 2)) ∷ outward (resume em.object) c ∷ quiet (label (l + 2)) ∷ outward (unexpected em.object em.selector) c ∷ quiet (label (l + 1)) ∷ [])) ne h1 in
    both_emitted front (both_emitted body h3)

-- regions one after the other: one more is put
pub all_onward : (em : Emitting) (c : Cover) (xs ys : List Exit) (l m : ℕ) (r : Region) (rest left : RegionList) (s t : List PlacedValue) (total : List Placed) →
    left ≡ region_then r rest → ys ≡ xs → m ≡ l + labels r → Emitted s t (region_code em c ys l (length s) r) →
    map placed_of s ++ all_code em c xs l (length s) left ≡ total → map placed_of t ++ all_code em c xs m (length t) rest ≡ total
all_onward em c xs ys l m r rest left s t total e f g h before =
    let a = region_code em c xs l (length s) r in
    let put : Emitted s t a = subst (λ z. Emitted s t (region_code em c z l (length s) r)) f h in
    let others = all_code em c xs (l + labels r) (length s + length a) rest in
    ap (λ n. map placed_of t ++ all_code em c xs n (length t) rest) g
    ∙ (ap (λ n. map placed_of t ++ all_code em c xs (l + labels r) n rest) (places_emitted put)
    ∙ (ap (λ z. z ++ others) put.is ∙ (append_assoc (map placed_of s) a others
    ∙ (ap (λ z. map placed_of s ++ all_code em c xs l (length s) z) (sym e) ∙ before))))

-- the handlers of clauses: one more is put
pub clauses_onward : (em : Emitting) (c : Cover) (xs ys : List Exit) (end b d l m : ℕ) (t : Option ℕ) (x : ℕ) (r : Region) (rest left : Clauses)
    (s0 s1 s2 s3 s4 : List PlacedValue) (total : List Placed) → left ≡ clause_then t x r rest → ys ≡ xs → m ≡ l + labels r → d ≡ b + 1 →
    Emitted s0 s1 (quiet (label b) ∷ []) → Emitted s1 s2 (quiet (plain (bind x (record { root = through em.object; offset = 0 }))) ∷ []) →
    Emitted s2 s3 (region_code em c ys l (length s2) r) → Emitted s3 s4 (quiet (jump end) ∷ []) →
    map placed_of s0 ++ clauses_code em c xs end b l (length s0) left ≡ total → map placed_of s4 ++ clauses_code em c xs end d m (length s4) rest ≡ total
clauses_onward em c xs ys end b d l m t x r rest left s0 s1 s2 s3 s4 total e f g i h1 h2 h3 h4 before =
    let p1 : length s1 ≡ length s0 + 1 = places_emitted h1 in
    let p2 : length s2 ≡ length s1 + 1 = places_emitted h2 in
    let p4 : length s4 ≡ length s3 + 1 = places_emitted h4 in
    let place : length s2 ≡ length s0 + 2 = omega (arith, p1, p2) in
    let a = region_code em c xs l (length s0 + 2) r in
    let body : Emitted s2 s3 a = moved em r s2 s3 c c ys xs l l (length s2) (length s0 + 2) refl f refl place h3 in
    let p3 = places_emitted body in
    let behind : length s4 ≡ length s0 + 3 + length a = omega (arith, place, p3, p4) in
    let put = both_emitted h1 (both_emitted h2 (both_emitted body h4)) in
    let front = quiet (label b) ∷ quiet (plain (bind x (record { root = through em.object; offset = 0 }))) ∷ (a ++ quiet (jump end) ∷ []) in
    let others = clauses_code em c xs end (b + 1) (l + labels r) (length s0 + 3 + length a) rest in
    let joined : front ++ others ≡ clauses_code em c xs end b l (length s0) (clause_then t x r rest) =
    ap (λ z. quiet (label b) ∷ quiet (plain (bind x (record { root = through em.object; offset = 0 }))) ∷ z) (append_assoc a (quiet (jump end) ∷ []) others) in
    ap (λ n. map placed_of s4 ++ clauses_code em c xs end n m (length s4) rest) i
    ∙ (ap (λ n. map placed_of s4 ++ clauses_code em c xs end (b + 1) n (length s4) rest) g
    ∙ (ap (λ n. map placed_of s4 ++ clauses_code em c xs end (b + 1) (l + labels r) n rest) behind
    ∙ (ap (λ z. z ++ others) put.is ∙ (append_assoc (map placed_of s0) front others
    ∙ (ap (λ z. map placed_of s0 ++ z) joined
    ∙ (ap (λ z. map placed_of s0 ++ clauses_code em c xs end b l (length s0) z) (sym e) ∙ before))))))

-- the handlers of clauses with the same exits, labels and place
pub handlers_moved : (em : Emitting) (cs : Clauses) (c : Cover) (xs ys : List Exit) (end b d l m p q : ℕ) (s t : List PlacedValue) → xs ≡ ys → b ≡ d → l ≡ m → p ≡ q →
    Emitted s t (clauses_code em c xs end b l p cs) → Emitted s t (clauses_code em c ys end d m q cs)
handlers_moved em cs c xs ys end b d l m p q s t e f g h k =
    subst (λ z. Emitted s t (clauses_code em c z end d m q cs)) e
    (subst (λ z. Emitted s t (clauses_code em c xs end z m q cs)) f
    (subst (λ z. Emitted s t (clauses_code em c xs end b z q cs)) g (subst (λ z. Emitted s t (clauses_code em c xs end b l z cs)) h k)))

-- a region with handlers
pub catch_emitted : (em : Emitting) (c d : Cover) (xs ys : List Exit) (l b k q count : ℕ) (chain : List ℤ) (r : Region) (cs : Clauses) (s0 s1 s2 s3 s4 s5 : List PlacedValue) →
    d ≡ guarded q chain c → q ≡ length s0 + 1 → chain ≡ filters_of em (types_of cs) → ys ≡ exit_to l ∷ xs → b ≡ l + 2 → count ≡ length (types_of cs) →
    k ≡ b + count + labels_clauses cs →
    Emitted s0 s1 (quiet (jump (l + 1)) ∷ quiet (pad em.object em.selector) ∷ (clause_tests em (l + 2) cs ++ outward (resume em.object) c ∷ [])) →
    Emitted s1 s2 (clauses_code em c (exit_to l ∷ xs) l b (b + count) (length s1) cs) → Emitted s2 s3 (quiet (label (l + 1)) ∷ []) →
    Emitted s3 s4 (region_code em d ys k (length s3) r) → Emitted s4 s5 (quiet (label l) ∷ []) → Emitted s0 s5 (region_code em c xs l (length s0) (catch r cs))
catch_emitted em c d xs ys l b k q count chain r cs s0 s1 s2 s3 s4 s5 de qe fe ye be ce ke h1 h2 h3 h4 h5 =
    let tests = clause_tests em (l + 2) cs in
    let out = outward (resume em.object) c in
    let inside = exit_to l ∷ xs in
    let types = length (types_of cs) in
    let p1 = places_emitted h1 in
    let t1 = length-append tests (out ∷ []) in
    let place : length s1 ≡ length s0 + 3 + length tests = omega (arith, p1, t1) in
    let inner : b + count ≡ l + 2 + types = omega (arith, be, ce) in
    let handlers = clauses_code em c inside l (l + 2) (l + 2 + types) (length s0 + 3 + length tests) cs in
    let second : Emitted s1 s2 handlers = handlers_moved em cs c inside inside l b (l + 2) (b + count) (l + 2 + types) (length s1) (length s0 + 3 + length tests) s1 s2 refl be inner place h2 in
    let p2 = places_emitted second in
    let p3 : length s3 ≡ length s2 + 1 = places_emitted h3 in
    let behind : length s3 ≡ length s0 + 4 + length tests + length handlers = omega (arith, place, p2, p3) in
    let next : k ≡ l + 2 + types + labels_clauses cs = omega (arith, ke, inner) in
    let extent = guarded (length s0 + 1) (filters_of em (types_of cs)) c in
    let cover : d ≡ extent = de ∙ (ap (λ z. guarded z chain c) qe ∙ ap (λ z. guarded (length s0 + 1) z c) fe) in
    let body = moved em r s3 s4 d extent ys inside k (l + 2 + types + labels_clauses cs) (length s3) (length s0 + 4 + length tests + length handlers) cover ye next behind h4 in
    let rest = both_emitted second (both_emitted h3 (both_emitted body h5)) in
    let whole = both_emitted h1 rest in
    let others = handlers ++ quiet (label (l + 1)) ∷ (region_code em extent inside (l + 2 + types + labels_clauses cs) (length s0 + 4 + length tests + length handlers) r ++ quiet (label l) ∷ []) in
    subst (λ z. Emitted s0 s5 z) (ap (λ z. quiet (jump (l + 1)) ∷ quiet (pad em.object em.selector) ∷ z) (append_assoc tests (out ∷ []) others)) whole

-- no regions are left
pub all_done : (em : Emitting) (c : Cover) (xs : List Exit) (l : ℕ) (left : RegionList) (s t : List PlacedValue) (more : List Placed) → left ≡ no_regions →
    map placed_of t ++ all_code em c xs l (length t) left ≡ map placed_of s ++ more → Emitted s t more
all_done em c xs l left s t more e h =
    record { is = sym (append-nil (map placed_of t)) ∙ (ap (λ z. map placed_of t ++ all_code em c xs l (length t) z) (sym e) ∙ h) }

-- no clauses are left
pub clauses_done : (em : Emitting) (c : Cover) (xs : List Exit) (end b l : ℕ) (left : Clauses) (s t : List PlacedValue) (more : List Placed) → left ≡ no_clauses →
    map placed_of t ++ clauses_code em c xs end b l (length t) left ≡ map placed_of s ++ more → Emitted s t more
clauses_done em c xs end b l left s t more e h =
    record { is = sym (append-nil (map placed_of t)) ∙ (ap (λ z. map placed_of t ++ clauses_code em c xs end b l (length t) z) (sym e) ∙ h) }

-- each clause has its type
pub types_counted : (cs : List Clause) → length (types_of (clauses_of cs)) ≡ length cs
types_counted [] = refl
types_counted (c ∷ cs) = ap suc (types_counted cs)
