-- Puts, one after another.
use Rattle.std.proofs.Common.{◌≡◌, ℕ, List, [], ◌∷◌, ◌++◌, take, Option, Some, None, IfSome, refl, sym, ap, ◌∙◌, subst, arith, append_assoc, append-nil}
use Rattle.std.proofs.lemmas.Grind.{flat_map-append}
use Rattle.eh_outer.specs.Sink.{SinkView, Gains, Takes, Fails}
use Rattle.run_items.specs.Output.{bytes_of, TakesAll, FailsAmong}

gains_none : (t : Option (List ℕ)) → IfSome t (λ b. t ≡ Some (b ++ []))
gains_none None = tt
gains_none (Some b) = ap Some (sym (append-nil b))

pub takes_none : (s : SinkView) → TakesAll [] s s
takes_none s = record { gains = gains_none s.taken; later = omega arith; wanted = refl }

both_gained : (p q : List ℕ) (a b c : Option (List ℕ)) → IfSome a (λ t. b ≡ Some (t ++ p)) → IfSome b (λ t. c ≡ Some (t ++ q)) → IfSome a (λ t. c ≡ Some (t ++ (p ++ q)))
both_gained p q None b c g h = tt
both_gained p q (Some t) b c g h =
    let more = subst (λ m. IfSome m (λ u. c ≡ Some (u ++ q))) g h in
    more ∙ ap Some (append_assoc t p q)

-- what was gained, and what was gained then
pub gains_more : (p q : List ℕ) (old mid new : SinkView) → Gains p old mid → Gains q mid new → Gains (p ++ q) old new
gains_more p q old mid new g h = both_gained p q old.taken mid.taken new.taken g h

bytes_more : (a b : List (List ℕ)) → bytes_of (a ++ b) ≡ bytes_of a ++ bytes_of b
bytes_more a b = flat_map-append (λ piece. piece) a b

pub takes_one : (piece : List ℕ) (old new : SinkView) → Takes piece old new → TakesAll (piece ∷ []) old new
takes_one piece old new h = record { gains = subst (λ p. Gains p old new) (sym (append-nil piece)) h.gains; later = h.later; wanted = h.wanted }

pub takes_more : (a b : List (List ℕ)) (old mid new : SinkView) → TakesAll a old mid → TakesAll b mid new → TakesAll (a ++ b) old new
takes_more a b old mid new first second = record {
  gains = subst (λ t. Gains t old new) (sym (bytes_more a b)) (gains_more (bytes_of a) (bytes_of b) old mid new first.gains second.gains);
  later = omega (arith, first.later, second.later);
  wanted = second.wanted ∙ first.wanted;
}

-- the first of these pieces failed
pub fails_first : (piece : List ℕ) (others : List (List ℕ)) (old new : SinkView) → Fails piece old new → FailsAmong (piece ∷ others) old new
fails_first piece others old new h = record { gone = []; piece = piece; others = others; split = refl; rose = h.rose; wanted = h.wanted; front = h.front }

front_more : (gone b : List (List ℕ)) (piece : List ℕ) (x y z : Option (List ℕ)) → IfSome x (λ t. y ≡ Some (t ++ bytes_of gone)) →
    IfSome y (λ t. (k : ℕ) × (z ≡ Some (t ++ (bytes_of b ++ take k piece)))) → IfSome x (λ t. (k : ℕ) × (z ≡ Some (t ++ (bytes_of (gone ++ b) ++ take k piece))))
front_more gone b piece None y z g h = tt
front_more gone b piece (Some t) y z g h =
    let (k, there) = subst (λ m. IfSome m (λ u. (k : ℕ) × (z ≡ Some (u ++ (bytes_of b ++ take k piece))))) g h in
    let front : List ℕ = take k piece in
    let grouped : (t ++ bytes_of gone) ++ (bytes_of b ++ front) ≡ t ++ (bytes_of (gone ++ b) ++ front) =
    append_assoc t (bytes_of gone) (bytes_of b ++ front) ∙ ap (λ u. t ++ u) (sym (append_assoc (bytes_of gone) (bytes_of b) front) ∙ ap (λ u. u ++ front) (sym (bytes_more gone b))) in
    (k, there ∙ ap Some grouped)

-- one of the pieces behind failed
pub fails_more : (a b : List (List ℕ)) (old mid new : SinkView) → TakesAll a old mid → FailsAmong b mid new → FailsAmong (a ++ b) old new
fails_more a b old mid new first second = record {
  gone = a ++ second.gone;
  piece = second.piece;
  others = second.others;
  split = ap (λ p. a ++ p) second.split ∙ sym (append_assoc a second.gone (second.piece ∷ second.others));
  rose = let later = first.later in let rose = second.rose in omega arith;
  wanted = second.wanted;
  front = front_more a second.gone second.piece old.taken mid.taken new.taken first.gains second.front;
}

-- pieces behind the one that failed do not matter
pub fails_before : (a b : List (List ℕ)) (old new : SinkView) → FailsAmong a old new → FailsAmong (a ++ b) old new
fails_before a b old new h = record {
  gone = h.gone;
  piece = h.piece;
  others = h.others ++ b;
  split = ap (λ p. p ++ b) h.split ∙ append_assoc h.gone (h.piece ∷ h.others) b;
  rose = h.rose;
  wanted = h.wanted;
  front = h.front;
}
