-- Layouts of classes that fit keep the parts of objects apart.
use Rattle.std.proofs.Common.{◌≡◌, ℕ, zero, suc, ◌+◌, ◌%◌, ◌<◌, ◌≤◌, List, [], ◌∷◌, ◌++◌, Option, Some, None, refl, sym, ap, ap₂, ◌∙◌, subst, arith, length, take}
use Rattle.std.specs.Prelude.{slice_get, unwrap_or}
use Rattle.std.proofs.lemmas.List.{length-append}
use Rattle.cxx_ast.specs.declared.name.Name.{Name}
use Rattle.cxx_ast.specs.Plain.{Class}
use Rattle.meaning_forms.specs.Class.{ObjectType, int_type, class_type, base_part}
use Rattle.region_forms.specs.Layout.{ClassLayout, layout_at, size_in, sizes_in, offsets_from, member_types, class_parts, size_of_parts, class_layout, layouts_behind, layouts, offset_of_part, part_offset}
use Rattle.class_layout.specs.Fit.{IsBefore, AreBefore, FitBehind, Fit}
use Rattle.class_layout.specs.StandApart.{StandApart}

-- a size is some words
abbrev pub AreWords : ℕ → Type 0
AreWords n = (4 ≤ n) × (n % 4 ≡ 0)

abbrev AllWords : List ClassLayout → Type 0
AllWords [] = Unit {0}
AllWords (l ∷ laid) = AreWords l.size × AllWords laid

words_at : (laid : List ClassLayout) → AllWords laid → (k : ℕ) → AreWords (layout_at laid k).size
words_at [] h zero = (omega arith, refl)
words_at [] h (suc k) = (omega arith, refl)
words_at (l ∷ laid) h zero = h.0
words_at (l ∷ laid) h (suc k) = words_at laid h.1 k

words_in : (laid : List ClassLayout) → AllWords laid → (t : ObjectType) → AreWords (size_in laid t)
words_in laid h int_type = (omega arith, refl)
words_in laid h (class_type k) = words_at laid h k

sum_of_words : (laid : List ClassLayout) → AllWords laid → (ts : List ObjectType) → sizes_in laid ts % 4 ≡ 0
sum_of_words laid h [] = refl
sum_of_words laid h (t ∷ ts) = let a = (words_in laid h t).1 in let b = sum_of_words laid h ts in omega (arith, a, b)

words_of_parts : (laid : List ClassLayout) → AllWords laid → (ts : List ObjectType) → AreWords (size_of_parts laid ts)
words_of_parts laid h [] = (omega arith, refl)
words_of_parts laid h (t ∷ ts) = let a = (words_in laid h t).0 in (omega (arith, a), sum_of_words laid h (t ∷ ts))

words_and : (laid : List ClassLayout) (l : ClassLayout) → AllWords laid → AreWords l.size → AllWords (laid ++ l ∷ [])
words_and [] l h w = (w, tt)
words_and (x ∷ laid) l h w = (h.0, words_and laid l h.1 w)

words_behind : (cs : List Class) (laid : List ClassLayout) → AllWords laid → AllWords (layouts_behind laid cs)
words_behind [] laid h = h
words_behind (c ∷ cs) laid h =
    words_behind cs (laid ++ class_layout laid c ∷ []) (words_and laid (class_layout laid c) h (words_of_parts laid h (class_parts c)))

-- each object has some words
pub some_words : (cs : List Class) (t : ObjectType) → AreWords (size_in (layouts cs) t)
some_words cs t = words_in (layouts cs) (words_behind cs [] tt) t

-- a layout stays where others come behind it
layout_front : (laid more : List ClassLayout) (k : ℕ) → k < length laid → layout_at (laid ++ more) k ≡ layout_at laid k
layout_front [] more k lt = absurd (omega (arith, lt))
layout_front (l ∷ laid) more zero lt = refl
layout_front (l ∷ laid) more (suc k) lt = layout_front laid more k (omega (arith, lt))

layout_last : (laid : List ClassLayout) (l : ClassLayout) → layout_at (laid ++ l ∷ []) (length laid) ≡ l
layout_last [] l = refl
layout_last (x ∷ laid) l = layout_last laid l

layout_behind : (cs : List Class) (laid : List ClassLayout) (k : ℕ) → k < length laid → layout_at (layouts_behind laid cs) k ≡ layout_at laid k
layout_behind [] laid k lt = refl
layout_behind (c ∷ cs) laid k lt =
    let one = length-append laid (class_layout laid c ∷ []) in
    layout_behind cs (laid ++ class_layout laid c ∷ []) k (omega (arith, lt, one)) ∙ layout_front laid (class_layout laid c ∷ []) k lt

front_base : (n : ℕ) (ts us : List ObjectType) → AreBefore n (ts ++ us) → AreBefore n ts
front_base n [] us h = tt
front_base n (t ∷ ts) us h = (h.0, front_base n ts us h.1)

behind_base : (n : ℕ) (ts us : List ObjectType) → AreBefore n (ts ++ us) → AreBefore n us
behind_base n [] us h = h
behind_base n (t ∷ ts) us h = behind_base n ts us h.1

-- so does the layout of a class by those of its parts
module _ (laid all : List ClassLayout) (same : (k : ℕ) → k < length laid → layout_at all k ≡ layout_at laid k) where
  size_kept : (t : ObjectType) → IsBefore (length laid) t → size_in all t ≡ size_in laid t
  size_kept int_type b = refl
  size_kept (class_type k) b = ap (λ l. l.size) (same k b)

  sizes_kept : (ts : List ObjectType) → AreBefore (length laid) ts → sizes_in all ts ≡ sizes_in laid ts
  sizes_kept [] b = refl
  sizes_kept (t ∷ ts) b = ap₂ (λ x y. x + y) (size_kept t b.0) (sizes_kept ts b.1)

  offsets_kept : (ts : List ObjectType) (m n : ℕ) → m ≡ n → AreBefore (length laid) ts → offsets_from all m ts ≡ offsets_from laid n ts
  offsets_kept [] m n e b = refl
  offsets_kept (t ∷ ts) m n e b =
      ap₂ (λ x xs. x ∷ xs) e (offsets_kept ts (m + size_in all t) (n + size_in laid t) (ap₂ (λ x y. x + y) e (size_kept t b.0)) b.1)

  whole_kept : (ts : List ObjectType) → AreBefore (length laid) ts → size_of_parts all ts ≡ size_of_parts laid ts
  whole_kept [] b = refl
  whole_kept (t ∷ ts) b = sizes_kept (t ∷ ts) b

  class_kept : (c : Class) → AreBefore (length laid) (class_parts c) → class_layout all c ≡ class_layout laid c
  class_kept c b =
      let size = whole_kept (class_parts c) b in
      let base = sizes_kept (base_part c.base) (front_base (length laid) (base_part c.base) (member_types c) b) in
      let members = offsets_kept (member_types c) (sizes_in all (base_part c.base)) (sizes_in laid (base_part c.base)) base
      (behind_base (length laid) (base_part c.base) (member_types c) b) in
      λ i. record { size = size i; members = members i }

-- each class has the layout that its parts give it
exact_behind : (cs : List Class) (laid : List ClassLayout) → FitBehind laid cs → (k n : ℕ) (c : Class) → n ≡ length laid + k → slice_get cs k ≡ Some c →
    layout_at (layouts_behind laid cs) n ≡ class_layout (layouts_behind laid cs) c
exact_behind [] laid f zero n c e h = absurd (cc h)
exact_behind [] laid f (suc k) n c e h = absurd (cc h)
exact_behind (x ∷ cs) laid f zero n c e h =
    let next = laid ++ class_layout laid x ∷ [] in
    let one = length-append laid (class_layout laid x ∷ []) in
    let here : n ≡ length laid = omega (arith, e) in
    let it : x ≡ c = cc h in
    ap (layout_at (layouts_behind next cs)) here ∙ (layout_behind cs next (length laid) (omega (arith, one)) ∙ (layout_last laid (class_layout laid x)
    ∙ (sym (class_kept laid (layouts_behind next cs) (layout_behind (x ∷ cs) laid) x f.0.before) ∙ ap (class_layout (layouts_behind next cs)) it)))
exact_behind (x ∷ cs) laid f (suc k) n c e h =
    let one = length-append laid (class_layout laid x ∷ []) in
    exact_behind cs (laid ++ class_layout laid x ∷ []) f.1 k n c (omega (arith, one, e)) h

-- where parts stand that stand one behind the other
module _ (laid : List ClassLayout) where
  offset_at : (ts : List ObjectType) (at i : ℕ) (t : ObjectType) → slice_get ts i ≡ Some t →
      unwrap_or (slice_get (offsets_from laid at ts) i) 0 ≡ at + sizes_in laid (take i ts)
  offset_at [] at zero t h = absurd (cc h)
  offset_at [] at (suc i) t h = absurd (cc h)
  offset_at (x ∷ ts) at zero t h = omega arith
  offset_at (x ∷ ts) at (suc i) t h = let r = offset_at ts (at + size_in laid x) i t h in omega (arith, r)

  part_at : (base : Option Name) (ts : List ObjectType) (members : List ℕ) → members ≡ offsets_from laid (sizes_in laid (base_part base)) ts →
      (i : ℕ) (t : ObjectType) → slice_get (base_part base ++ ts) i ≡ Some t → offset_of_part base members i ≡ sizes_in laid (take i (base_part base ++ ts))
  part_at None ts members e i t h =
      let r = offset_at ts 0 i t h in ap (λ ms. unwrap_or (slice_get ms i) 0) e ∙ (r ∙ omega arith)
  part_at (Some b) ts members e zero t h = refl
  part_at (Some b) ts members e (suc i) t h =
      let r = offset_at ts (sizes_in laid (base_part (Some b))) i t h in ap (λ ms. unwrap_or (slice_get ms i) 0) e ∙ (r ∙ omega arith)

  inside_at : (ts : List ObjectType) (i : ℕ) (t : ObjectType) → slice_get ts i ≡ Some t → sizes_in laid (take i ts) + size_in laid t ≤ sizes_in laid ts
  inside_at [] zero t h = absurd (cc h)
  inside_at [] (suc i) t h = absurd (cc h)
  inside_at (x ∷ ts) zero t h = let it : x ≡ t = cc h in let e = ap (size_in laid) it in omega (arith, e)
  inside_at (x ∷ ts) (suc i) t h = let r = inside_at ts i t h in omega (arith, r)

  apart_at : (ts : List ObjectType) (i j : ℕ) (t : ObjectType) → i < j → slice_get ts i ≡ Some t →
      sizes_in laid (take i ts) + size_in laid t ≤ sizes_in laid (take j ts)
  apart_at [] zero j t lt h = absurd (cc h)
  apart_at [] (suc i) j t lt h = absurd (cc h)
  apart_at (x ∷ ts) i zero t lt h = absurd (omega (arith, lt))
  apart_at (x ∷ ts) zero (suc j) t lt h = let it : x ≡ t = cc h in let e = ap (size_in laid) it in omega (arith, e)
  apart_at (x ∷ ts) (suc i) (suc j) t lt h = let r = apart_at ts i j t (omega (arith, lt)) h in omega (arith, r)

  at_most : (ts : List ObjectType) → sizes_in laid ts ≤ size_of_parts laid ts
  at_most [] = omega arith
  at_most (t ∷ ts) = omega arith

module _ (cs : List Class) (fit : Fit cs) where
  exact_in : (k : ℕ) (c : Class) → slice_get cs k ≡ Some c → layout_at (layouts cs) k ≡ class_layout (layouts cs) c
  exact_in k c h = exact_behind cs [] fit k k c (omega arith) h

  offset_in : (k : ℕ) (c : Class) (i : ℕ) (t : ObjectType) → slice_get cs k ≡ Some c → slice_get (class_parts c) i ≡ Some t →
      part_offset (layouts cs) k c i ≡ sizes_in (layouts cs) (take i (class_parts c))
  offset_in k c i t h p = part_at (layouts cs) c.base (member_types c) (layout_at (layouts cs) k).members (ap (λ l. l.members) (exact_in k c h)) i t p

  all_words : AllWords (layouts cs)
  all_words = words_behind cs [] tt

  pub stand_apart : StandApart (layouts cs) cs
  stand_apart = record {
    exact = exact_in;
    sized = λ k c h. words_in (layouts cs) all_words (class_type k);
    aligned = λ k c i t h p. subst (λ n. n % 4 ≡ 0) (sym (offset_in k c i t h p)) (sum_of_words (layouts cs) all_words (take i (class_parts c)));
    inside = λ k c i t h p.
        let at = offset_in k c i t h p in
        let within = inside_at (layouts cs) (class_parts c) i t p in
        let most = at_most (layouts cs) (class_parts c) in
        let whole = ap (λ l. l.size) (exact_in k c h) in
        omega (arith, at, within, most, whole);
    apart = λ k c i j t u h p q lt.
        let at = offset_in k c i t h p in
        let behind = offset_in k c j u h q in
        let between = apart_at (layouts cs) (class_parts c) i j t lt p in
        omega (arith, at, behind, between);
  }
