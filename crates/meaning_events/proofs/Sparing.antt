-- Computations one after the other: what the later one and the earlier one settle together.
use Rattle.std.proofs.Common.{◌≡◌, ℕ, ◌≤◌, ◌<◌, ◌⊎◌, inl, inr, Bool, true, false, List, refl, sym, ap, ◌∙◌, subst, arith}
use Rattle.std.specs.Prelude.{◌==◌}
use Rattle.meaning_events.specs.Fates.{Story, fate, unborn, IsOver, Tells}
use Rattle.meaning_events.specs.Settles.{Nobody, Unless, IsOwn, Spares}
use Rattle.meaning_events.proofs.Live.{number_is, same_number}

pub never : true ≡ false → ⊥
never e = cc e

pub none_is_over : IsOver unborn
none_is_over = record { gone = refl; freed = refl }

-- a number was given before, or is given since
pub before_or_since : (a b : ℕ) → (a ≤ b) ⊎ (b < a)
before_or_since a b = grind (arith)

pub same_or_other : (q e : ℕ) → (q ≡ e) ⊎ (q ≡ e → ⊥)
same_or_other q e = go (q == e) refl
  where
    go : (z : Bool) → (q == e) ≡ z → (q ≡ e) ⊎ (q ≡ e → ⊥)
    go true is = inl (number_is q e is)
    go false is = inr (λ same. never (sym (ap (λ n. n == e) same ∙ same_number e) ∙ is))

-- what is whole was made
pub made_before : (hs : List ℕ) (s : Story) (e : ℕ) → Tells hs s → (fate s e).live ≡ 1 → e ≤ s.last
made_before hs s e h live = go (before_or_since e s.last)
  where
    go : (e ≤ s.last) ⊎ (s.last < e) → e ≤ s.last
    go (inl le) = le
    go (inr lt) = let none : (fate s e).live ≡ 0 = ap (λ f. f.live) (h.unused e lt) in absurd (omega (arith, none, live))

-- how one of a computation's own is settled: it comes out, or what is done later settles it, or what was done earlier did
data Way (own1 own2 P Q R : ℕ → Type 0) (s s1 : Story) (q : ℕ) : Type 0 where
  comes : R q → Way own1 own2 P Q R s s1 q
  later : IsOwn own2 s1 q → (Q q → R q) → Way own1 own2 P Q R s s1 q
  earlier : (IsOwn own2 s1 q → ⊥) → IsOwn own1 s q → (P q → R q) → Way own1 own2 P Q R s s1 q

spares_join : {own1 own2 own P Q R : ℕ → Type 0} (s s1 s2 : Story) → Spares own1 s s1 P → Spares own2 s1 s2 Q
    → ((q : ℕ) → (IsOwn own s q → ⊥) → (IsOwn own1 s q → ⊥) × (IsOwn own2 s1 q → ⊥))
    → ((q : ℕ) → IsOwn own s q → Way own1 own2 P Q R s s1 q) → Spares own s s2 R
spares_join {own1} {own2} {own} {P} {Q} {R} s s1 s2 h g apart ways =
    let a = h.later in let b = g.later in
    record {
      later = omega (arith, a, b);
      spared = λ q other. g.spared q (apart q other).1 ∙ h.spared q (apart q other).0;
      over = λ q mine. go q (ways q mine);
    }
  where
    by_later : (q : ℕ) → (Q q → R q) → Q q ⊎ IsOver (fate s2 q) → R q ⊎ IsOver (fate s2 q)
    by_later q f (inl out) = inl (f out)
    by_later q f (inr over) = inr over

    by_earlier : (q : ℕ) → (IsOwn own2 s1 q → ⊥) → (P q → R q) → P q ⊎ IsOver (fate s1 q) → R q ⊎ IsOver (fate s2 q)
    by_earlier q other f (inl out) = inl (f out)
    by_earlier q other f (inr over) = inr (subst IsOver (sym (g.spared q other)) over)

    go : (q : ℕ) → Way own1 own2 P Q R s s1 q → R q ⊎ IsOver (fate s2 q)
    go q (comes out) = inl out
    go q (later mine f) = by_later q f (g.over q mine)
    go q (earlier other mine f) = by_earlier q other f (h.over q mine)

-- what follows has nothing of its own from the beginning
pub spares_on : {own P Q R : ℕ → Type 0} (s s1 s2 : Story) → Spares own s s1 P → Spares Nobody s1 s2 Q → ((q : ℕ) → P q → R q) → ((q : ℕ) → Q q → R q) → Spares own s s2 R
spares_on {own} {P} {Q} {R} s s1 s2 h g p r = spares_join s s1 s2 h g (λ q other. (other, λ mine. other (since q mine))) (λ q mine. go q mine (before_or_since q s1.last))
  where
    since : (q : ℕ) → IsOwn Nobody s1 q → IsOwn own s q
    since q (inl nobody) = absurd nobody
    since q (inr lt) = let a = h.later in inr (omega (arith, lt, a))

    not_since : (q : ℕ) → q ≤ s1.last → IsOwn Nobody s1 q → ⊥
    not_since q le (inl nobody) = nobody
    not_since q le (inr lt) = omega (arith, le, lt)

    go : (q : ℕ) → IsOwn own s q → (q ≤ s1.last) ⊎ (s1.last < q) → Way own Nobody P Q R s s1 q
    go q mine (inl le) = earlier (not_since q le) mine (p q)
    go q mine (inr lt) = later (inr lt) (r q)

-- what comes out is settled by what follows, unless it stays with others
pub spares_caught : {Q : ℕ → Type 0} (s s1 s2 : Story) (e : ℕ) (kept : Bool) → Spares Nobody s s1 (λ q. q ≡ e) → Spares (Unless kept e) s1 s2 Q
    → (kept ≡ true → e ≤ s.last) → (kept ≡ false → s.last < e) → Spares Nobody s s2 Q
spares_caught {Q} s s1 s2 e kept h g stays goes = spares_join s s1 s2 h g (λ q other. (other, λ mine. other (since q mine))) (λ q mine. go q mine (before_or_since q s1.last) (same_or_other q e))
  where
    since : (q : ℕ) → IsOwn (Unless kept e) s1 q → IsOwn Nobody s q
    since q (inl (same, is)) = let lt = goes is in inr (omega (arith, lt, same))
    since q (inr lt) = let a = h.later in inr (omega (arith, lt, a))

    other_than : (q : ℕ) → q ≤ s1.last → (q ≡ e → ⊥) → IsOwn (Unless kept e) s1 q → ⊥
    other_than q le other (inl (same, is)) = other same
    other_than q le other (inr lt) = omega (arith, le, lt)

    given : (q : ℕ) → IsOwn Nobody s q → q ≡ e → (z : Bool) → kept ≡ z → Way Nobody (Unless kept e) (λ q. q ≡ e) Q Q s s1 q
    given q (inl nobody) same z is = absurd nobody
    given q (inr lt) same true is = let le = stays is in absurd (omega (arith, le, lt, same))
    given q (inr lt) same false is = later (inl (same, is)) (λ out. out)

    go : (q : ℕ) → IsOwn Nobody s q → (q ≤ s1.last) ⊎ (s1.last < q) → (q ≡ e) ⊎ (q ≡ e → ⊥) → Way Nobody (Unless kept e) (λ q. q ≡ e) Q Q s s1 q
    go q mine (inr lt) z = later (inr lt) (λ out. out)
    go q mine (inl le) (inl same) = given q mine same kept refl
    go q mine (inl le) (inr other) = earlier (other_than q le other) mine (λ same. absurd (other same))

-- what is done in a handler, then the leaving, which settles the exception unless it stays with others
pub spares_left : {P Q R : ℕ → Type 0} (s s1 s2 : Story) (e : ℕ) (kept outside : Bool) → Spares Nobody s s1 P → Spares (Unless kept e) s1 s2 Q
    → e ≤ s.last → (kept ≡ false → outside ≡ false) → (outside ≡ false → kept ≡ true → R e) → ((q : ℕ) → P q → R q) → ((q : ℕ) → Q q → R q) → Spares (Unless outside e) s s2 R
spares_left {P} {Q} {R} s s1 s2 e kept outside h g made fewer stays p r =
    spares_join s s1 s2 h g (λ q other. (λ mine. other (older q mine), λ mine. other (since q mine))) (λ q mine. go q mine)
  where
    older : (q : ℕ) → IsOwn Nobody s q → IsOwn (Unless outside e) s q
    older q (inl nobody) = absurd nobody
    older q (inr lt) = inr lt

    since : (q : ℕ) → IsOwn (Unless kept e) s1 q → IsOwn (Unless outside e) s q
    since q (inl (same, is)) = inl (same, fewer is)
    since q (inr lt) = let a = h.later in inr (omega (arith, lt, a))

    other_than : (q : ℕ) → s.last < q → q ≤ s1.last → IsOwn (Unless kept e) s1 q → ⊥
    other_than q lt le (inl (same, is)) = omega (arith, lt, same, made)
    other_than q lt le (inr l) = omega (arith, le, l)

    given : (q : ℕ) → q ≡ e → outside ≡ false → (z : Bool) → kept ≡ z → Way Nobody (Unless kept e) P Q R s s1 q
    given q same out true is = comes (subst R (sym same) (stays out is))
    given q same out false is = later (inl (same, is)) (r q)

    new : (q : ℕ) → s.last < q → (q ≤ s1.last) ⊎ (s1.last < q) → Way Nobody (Unless kept e) P Q R s s1 q
    new q lt (inl le) = earlier (other_than q lt le) (inr lt) (p q)
    new q lt (inr l) = later (inr l) (r q)

    go : (q : ℕ) → IsOwn (Unless outside e) s q → Way Nobody (Unless kept e) P Q R s s1 q
    go q (inl (same, out)) = given q same out kept refl
    go q (inr lt) = new q lt (before_or_since q s1.last)

-- nothing is done: what is its own comes out
pub spares_none : {own : ℕ → Type 0} (hs : List ℕ) (s : Story) → Tells hs s → Spares own s s own
spares_none {own} hs s h = record { later = omega arith; spared = λ q other. refl; over = λ q mine. go q mine }
  where
    go : (q : ℕ) → IsOwn own s q → own q ⊎ IsOver (fate s q)
    go q (inl mine) = inl mine
    go q (inr lt) = inr (subst IsOver (sym (h.unused q lt)) none_is_over)

-- no fate changes
pub spares_same : {own P : ℕ → Type 0} (s s1 s2 : Story) → s1.last ≡ s2.last → ((q : ℕ) → fate s2 q ≡ fate s1 q) → Spares own s s1 P → Spares own s s2 P
spares_same {own} {P} s s1 s2 last same h =
    let a = h.later in
    record { later = omega (arith, a, last); spared = λ q other. same q ∙ h.spared q other; over = λ q mine. go q (h.over q mine) }
  where
    go : (q : ℕ) → P q ⊎ IsOver (fate s1 q) → P q ⊎ IsOver (fate s2 q)
    go q (inl out) = inl out
    go q (inr over) = inr (subst IsOver (sym (same q)) over)

-- no fate had changed
pub spares_since : {own P : ℕ → Type 0} (s s1 s2 : Story) → s1.last ≡ s.last → ((q : ℕ) → fate s1 q ≡ fate s q) → Spares own s1 s2 P → Spares own s s2 P
spares_since {own} {P} s s1 s2 last same h =
    let a = h.later in
    record { later = omega (arith, a, last); spared = λ q other. h.spared q (λ mine. other (older q mine)) ∙ same q; over = λ q mine. h.over q (newer q mine) }
  where
    older : (q : ℕ) → IsOwn own s1 q → IsOwn own s q
    older q (inl mine) = inl mine
    older q (inr lt) = inr (omega (arith, lt, last))

    newer : (q : ℕ) → IsOwn own s q → IsOwn own s1 q
    newer q (inl mine) = inl mine
    newer q (inr lt) = inr (omega (arith, lt, last))

-- the fate of one of its own changes
pub spares_change : {own P R : ℕ → Type 0} (s s1 s2 : Story) (e : ℕ) → s1.last ≤ s2.last → ((q : ℕ) → (q ≡ e → ⊥) → fate s2 q ≡ fate s1 q) → IsOwn own s e
    → R e ⊎ IsOver (fate s2 e) → ((q : ℕ) → (q ≡ e → ⊥) → P q → R q) → Spares own s s1 P → Spares own s s2 R
spares_change {own} {P} {R} s s1 s2 e last same mine this others h =
    let a = h.later in
    record {
      later = omega (arith, a, last);
      spared = λ q other. (same q (λ is. other (subst (IsOwn own s) (sym is) mine)) ∙ h.spared q other);
      over = λ q own. go q own (same_or_other q e);
    }
  where
    kept : (q : ℕ) → (q ≡ e → ⊥) → P q ⊎ IsOver (fate s1 q) → R q ⊎ IsOver (fate s2 q)
    kept q other (inl out) = inl (others q other out)
    kept q other (inr over) = inr (subst IsOver (sym (same q other)) over)

    go : (q : ℕ) → IsOwn own s q → (q ≡ e) ⊎ (q ≡ e → ⊥) → R q ⊎ IsOver (fate s2 q)
    go q own (inl is) = subst (λ n. R n ⊎ IsOver (fate s2 n)) (sym is) this
    go q own (inr other) = kept q other (h.over q own)

-- nothing more is its own, and more may come out
pub spares_more : {own P R : ℕ → Type 0} (s s2 : Story) → ((q : ℕ) → own q → ⊥) → ((q : ℕ) → P q → R q) → Spares Nobody s s2 P → Spares own s s2 R
spares_more {own} {P} {R} s s2 nothing more h = record { later = h.later; spared = λ q other. h.spared q (λ mine. other (wider q mine)); over = λ q mine. go q (h.over q (narrower q mine)) }
  where
    wider : (q : ℕ) → IsOwn Nobody s q → IsOwn own s q
    wider q (inl nobody) = absurd nobody
    wider q (inr lt) = inr lt

    narrower : (q : ℕ) → IsOwn own s q → IsOwn Nobody s q
    narrower q (inl mine) = absurd (nothing q mine)
    narrower q (inr lt) = inr lt

    go : (q : ℕ) → P q ⊎ IsOver (fate s2 q) → R q ⊎ IsOver (fate s2 q)
    go q (inl out) = inl (more q out)
    go q (inr over) = inr over

pub spares_out : {own P R : ℕ → Type 0} (s s2 : Story) → ((q : ℕ) → P q → R q) → Spares own s s2 P → Spares own s s2 R
spares_out {own} {P} {R} s s2 more h = record { later = h.later; spared = h.spared; over = λ q mine. go q (h.over q mine) }
  where
    go : (q : ℕ) → P q ⊎ IsOver (fate s2 q) → R q ⊎ IsOver (fate s2 q)
    go q (inl out) = inl (more q out)
    go q (inr over) = inr over
