-- How the foreign exceptions that are live, and what is shown of them, change together.
use Rattle.std.proofs.Common.{◌≡◌, ◌∙◌, refl, sym, ap, subst, ℕ, suc, ◌+◌, ◌<◌, slice_set, length-set, Bool, true, false, cond, List, [], ◌∷◌, ◌++◌, length, Option, Some, None, is_some, option_and_then, arith}
use Rattle.std.proofs.lemmas.List.Sums.{sum_by-set}
use Rattle.run_items.specs.declared.item.Item.{Item}
use Rattle.run_items.specs.declared.item.Item.TheVariants as items
use Rattle.caught_stack.specs.declared.header.Header.{Header}
use Rattle.caught_stack.specs.declared.header.HeaderKind.{HeaderKind}
use Rattle.caught_stack.specs.declared.header.HeaderKind.TheVariants as kinds
use Rattle.caught_stack.specs.Live.{Live, slots, header_of, is_vacant}
use Rattle.caught_stack.proofs.Headers.{header_is, vacant_below, vacant_not_live}
use Rattle.cxa_runtime.specs.declared.object.Object.{Object}
use Rattle.cxa_runtime.specs.Laws.{kind_counts, slot_counts, live_of, raised_of, cleaned_of}
use Rattle.cxa_runtime.specs.Objects.{first_vacant_from, is_building, object_at, object_in, object_where, passing, slot_for, slot_of}
use Rattle.cxa_runtime.specs.World.{Outcome}
use Rattle.cxa_runtime.proofs.Changes.{object_known}

-- Of the exceptions in question, `x` were live where nothing was shown, and `live` are behind what is shown.
abbrev pub Fits : (k token x : ℕ) → Live → List Item → Type 0
Fits k token x live shown = (length live ≡ slots) × (live_of k token live + cleaned_of k token shown ≡ x + raised_of k token shown)

abbrev pub EndsFit : (k token x : ℕ) → Outcome → Type 0
EndsFit k token x o = Fits k token x o.1.exceptions.live o.1.shown

-- items one after the other
pub raised_both : (k token : ℕ) (a b : List Item) → raised_of k token (a ++ b) ≡ raised_of k token a + raised_of k token b
raised_both k token [] b = omega arith
raised_both k token (items.Foreign n j t ∷ a) b = let more = raised_both k token a b in omega arith
raised_both k token (items.Line n ∷ a) b = raised_both k token a b
raised_both k token (items.Make n ∷ a) b = raised_both k token a b
raised_both k token (items.Enter n ∷ a) b = raised_both k token a b
raised_both k token (items.Leave n ∷ a) b = raised_both k token a b
raised_both k token (items.Destroy n ∷ a) b = raised_both k token a b
raised_both k token (items.Free n ∷ a) b = raised_both k token a b
raised_both k token (items.Clean j t ∷ a) b = raised_both k token a b

pub cleaned_both : (k token : ℕ) (a b : List Item) → cleaned_of k token (a ++ b) ≡ cleaned_of k token a + cleaned_of k token b
cleaned_both k token [] b = omega arith
cleaned_both k token (items.Clean j t ∷ a) b = let more = cleaned_both k token a b in omega arith
cleaned_both k token (items.Line n ∷ a) b = cleaned_both k token a b
cleaned_both k token (items.Make n ∷ a) b = cleaned_both k token a b
cleaned_both k token (items.Foreign n j t ∷ a) b = cleaned_both k token a b
cleaned_both k token (items.Enter n ∷ a) b = cleaned_both k token a b
cleaned_both k token (items.Leave n ∷ a) b = cleaned_both k token a b
cleaned_both k token (items.Destroy n ∷ a) b = cleaned_both k token a b
cleaned_both k token (items.Free n ∷ a) b = cleaned_both k token a b

-- an item that tells of neither
pub fits_shown : (k token x : ℕ) (live : Live) (shown : List Item) (i : Item) → raised_of k token (i ∷ []) ≡ 0 → cleaned_of k token (i ∷ []) ≡ 0 →
    Fits k token x live shown → Fits k token x live (shown ++ i ∷ [])
fits_shown k token x live shown i r c f =
    let raised = raised_both k token shown (i ∷ []) in
    let cleaned = cleaned_both k token shown (i ∷ []) in
    let balance = f.1 in
    (f.0, omega arith)

-- a slot that is changed
pub live_changed : (k token : ℕ) (live : Live) (slot : ℕ) (new : Option Header) → slot < length live →
    live_of k token (slice_set live slot new) + slot_counts k token (header_of live slot) ≡ live_of k token live + slot_counts k token new
live_changed k token live slot new low =
    ap (λ h. live_of k token (slice_set live slot new) + slot_counts k token h) (header_is live slot) ∙ sum_by-set (slot_counts k token) live slot new None low

-- a slot gets what counts as much as what it had
pub fits_set : (k token x : ℕ) (live : Live) (shown : List Item) (slot : ℕ) (new : Option Header) → slot < length live →
    slot_counts k token (header_of live slot) ≡ slot_counts k token new → Fits k token x live shown → Fits k token x (slice_set live slot new) shown
fits_set k token x live shown slot new low same f =
    let changed = live_changed k token live slot new low in
    let balance = f.1 in
    (length-set live slot new ∙ f.0, omega arith)

-- a slot is changed as an item tells
pub fits_told : (k token x : ℕ) (live : Live) (shown : List Item) (slot : ℕ) (new : Option Header) (i : Item) (had has raised cleaned : ℕ) →
    slot < length live → slot_counts k token (header_of live slot) ≡ had → slot_counts k token new ≡ has →
    raised_of k token (i ∷ []) ≡ raised → cleaned_of k token (i ∷ []) ≡ cleaned → had + raised ≡ has + cleaned →
    Fits k token x live shown → Fits k token x (slice_set live slot new) (shown ++ i ∷ [])
fits_told k token x live shown slot new i had has raised cleaned low before after r c even f =
    let changed = live_changed k token live slot new low in
    let raised = raised_both k token shown (i ∷ []) in
    let cleaned = cleaned_both k token shown (i ∷ []) in
    let balance = f.1 in
    (length-set live slot new ∙ f.0, omega arith)

-- kinds that do not count
pub building_counts : (k token : ℕ) (kind : HeaderKind) → is_building kind ≡ true → kind_counts k token kind ≡ 0
building_counts k token kinds.Building h = refl
building_counts k token (kinds.Native type destructor) h = refl
building_counts k token (kinds.Foreign j t) h = absurd (cc h)

pub slot_building : (k token : ℕ) (live : Live) (slot : ℕ) (h : Header) → header_of live slot ≡ Some h → is_building h.kind ≡ true →
    slot_counts k token (header_of live slot) ≡ 0
slot_building k token live slot h at b = ap (slot_counts k token) at ∙ building_counts k token h.kind b

-- an object that is found
pub passing_known : (test : HeaderKind → Bool) (found : Option Object) (o : Object) → passing test found ≡ Some o → (found ≡ Some o) × (test o.header.kind ≡ true)
passing_known test None o e = absurd (cc e)
passing_known test (Some y) o e = go (test y.header.kind) refl
  where
    go : (b : Bool) → test y.header.kind ≡ b → (Some y ≡ Some o) × (test o.header.kind ≡ true)
    go true h =
        let same : Some y ≡ Some o = sym (ap (λ c. cond c (Some y) None) h) ∙ e in
        (same, subst (λ (z : Option Object). passes z ≡ true) same h)
      where
        passes : Option Object → Bool
        passes None = true
        passes (Some z) = test z.header.kind
    go false h = let none : None ≡ Some o = sym (ap (λ c. cond c (Some y) None) h) ∙ e in absurd (cc none)

pub at_known : (live : Live) (a : ℕ) (o : Object) → object_at live a ≡ Some o → header_of live o.slot ≡ Some o.header
at_known live a o found = go (slot_of a) refl
  where
    go : (slot : Option ℕ) → slot_of a ≡ slot → header_of live o.slot ≡ Some o.header
    go None h = let none : None ≡ Some o = sym (ap (option_and_then (object_in live)) h) ∙ found in absurd (cc none)
    go (Some slot) h =
        let known = object_known slot (header_of live slot) o (sym (ap (option_and_then (object_in live)) h) ∙ found) in
        ap (header_of live) (sym known.0) ∙ known.1

pub where_known : (test : HeaderKind → Bool) (live : Live) (a : ℕ) (o : Object) → object_where test live a ≡ Some o →
    (header_of live o.slot ≡ Some o.header) × (test o.header.kind ≡ true)
where_known test live a o found = let known = passing_known test (object_at live a) o found in (at_known live a o known.0, known.1)

-- the slot of a new object
pub vacant_from : (n : ℕ) (live : Live) (slot : ℕ) → first_vacant_from n live ≡ Some slot → (i : ℕ) × ((slot ≡ n + i) × ((i < length live) × (header_of live i ≡ None)))
unfolding first_vacant_from
vacant_from n [] slot h = absurd (cc h)
vacant_from n (None ∷ more) slot h = let here : n ≡ slot = cc h in (0, (omega arith, (omega arith, refl)))
vacant_from n (Some y ∷ more) slot h =
    let next = vacant_from (n + 1) more slot h in
    let behind = next.1.0 in
    let low = next.1.1.0 in
    (suc next.0, (omega arith, (omega arith, next.1.1.1)))

pub first_known : (live : Live) (slot : ℕ) → first_vacant_from 0 live ≡ Some slot → (slot < length live) × (header_of live slot ≡ None)
first_known live slot h =
    let found = vacant_from 0 live slot h in
    let is = found.1.0 in
    let same : found.0 ≡ slot = omega arith in
    (subst (λ i. i < length live) same found.1.1.0, subst (λ i. header_of live i ≡ None) same found.1.1.1)

pub none_counts : (k token : ℕ) (h : Option Header) → is_some h ≡ false → slot_counts k token h ≡ 0
none_counts k token None e = refl
none_counts k token (Some h) e = absurd (cc e)

pub slot_known : (k token : ℕ) (live : Live) (wish slot : ℕ) → length live ≡ slots → slot_for live wish ≡ Some slot →
    (slot < length live) × (slot_counts k token (header_of live slot) ≡ 0)
slot_known k token live wish slot long h = go (is_vacant live wish) refl
  where
    go : (b : Bool) → is_vacant live wish ≡ b → (slot < length live) × (slot_counts k token (header_of live slot) ≡ 0)
    go true v =
        let given : Some wish ≡ Some slot = sym (ap (λ c. cond c (Some wish) (first_vacant_from 0 live)) v) ∙ h in
        let same : wish ≡ slot = cc given in
        let low = vacant_below live wish v in (
          subst (λ i. i < length live) same (omega arith),
          ap (λ i. slot_counts k token (header_of live i)) (sym same) ∙ none_counts k token (header_of live wish) (vacant_not_live live wish v),
        )
    go false v =
        let found = first_known live slot (sym (ap (λ c. cond c (Some wish) (first_vacant_from 0 live)) v) ∙ h) in
        (found.0, ap (slot_counts k token) found.1)
